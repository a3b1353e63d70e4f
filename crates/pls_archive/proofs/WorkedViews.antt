-- Two passes at one archive, call by call, with their views kept in agreement with its list of accepting entries; and two consistent
-- views that are no consistent one together.
use Rattle.std.proofs.Common.{◌≡◌, zero, suc, List, [], ◌∷◌, length, refl, inl, inr, ap, arith}
use Rattle.pls_archive.specs.declared.call.Call.TheVariants.{Member}
use Rattle.pls_archive.specs.declared.call.Reply.TheVariants.{Added, Refused, No}
use Rattle.pls_archive.specs.declared.call.Entry.{Entry}
use Rattle.pls_archive.specs.Reply.{members, nondominated}
use Rattle.pls_archive.specs.NondominatedRule.{nondominated-IsRule}
use Rattle.pls_archive.specs.Serialization.{serialization, AreSequentiallyConsistent}
use Rattle.pls_archive.specs.View.{View, new_view, held, HoldsAll, IsObserved, IsConsistent, Joins}
use Rattle.pls_archive.proofs.NineCalls.{two_parts}
use Rattle.pls_archive.proofs.Keeping.{AgreesWith, AgreesWith-new, AgreesWith-other, AgreesWith-accepting, AgreesWith-unaccepted, AgreesWith-joins, AgreesWith-consistent, with_entry, joined}
use Rattle.pls_archive.proofs.KeepingLists.{IsObserved-more}
use Rattle.pls_archive.proofs.ViewsLawful.{views_are_lawful}
use Rattle.pls_archive.proofs.WorkedSerializations.{entry, submits}

-- the accepting entries of both callers, in the order of their calls
abbrev first : Entry
first = submits 0 1 1 3 (Added 0)

abbrev second : Entry
second = submits 1 2 3 1 (Added 0)

-- the other entries of caller 1: before the first, and between the two
abbrev asked : Entry
asked = entry 1 0 (Member (two_parts 1 3)) No

abbrev refused : Entry
refused = submits 1 1 1 1 Refused

abbrev log : List Entry
log = first ∷ second ∷ []

observed : IsObserved nondominated 2 log
observed =
    IsObserved-more nondominated 2 (first ∷ []) second
    (IsObserved-more nondominated 2 [] first (record { legal = tt; accepted = tt; begun = tt }) refl (omega arith) refl refl)
    refl (omega arith) refl refl

-- pass 1 asks, pass 0 submits, pass 1 submits what is refused, and then what is accepted
abbrev pass_0 : View
pass_0 = with_entry (new_view 0) (first ∷ []) first

abbrev pass_1 : View
pass_1 = with_entry (with_entry (with_entry (new_view 1) [] asked) (first ∷ []) refused) log second

pass_0-agrees : AgreesWith nondominated log pass_0
pass_0-agrees =
    AgreesWith-other nondominated (first ∷ []) pass_0
    (AgreesWith-accepting nondominated [] (new_view 0) (AgreesWith-new nondominated [] 0 refl) first refl refl refl tt)
    second ((λ same. omega (arith, same)), tt)

pass_1-agrees : AgreesWith nondominated log pass_1
pass_1-agrees =
    let has_asked = AgreesWith-unaccepted nondominated [] (new_view 1) (AgreesWith-new nondominated [] 1 refl) [] ([], refl) ([], refl) asked refl refl refl refl in
    let stays = AgreesWith-other nondominated [] (with_entry (new_view 1) [] asked) has_asked first ((λ same. omega (arith, same)), tt) in
    let was_refused = AgreesWith-unaccepted nondominated (first ∷ []) (with_entry (new_view 1) [] asked) stays (first ∷ []) (first ∷ [], refl) ([], refl) refused refl refl refl refl in
    AgreesWith-accepting nondominated (first ∷ []) (with_entry (with_entry (new_view 1) [] asked) (first ∷ []) refused) was_refused second refl refl refl tt

-- pass 1 is joined into pass 0, which then holds the lists of both callers
joins : Joins pass_0 pass_1 (joined pass_0 pass_1)
joins = record { number = refl; observed = refl; own = refl; others = refl }

both-consistent : IsConsistent nondominated 2 (joined pass_0 pass_1)
both-consistent =
    AgreesWith-consistent nondominated log (joined pass_0 pass_1)
    (AgreesWith-joins nondominated log pass_0 pass_1 (joined pass_0 pass_1) pass_0-agrees pass_1-agrees joins) 2 observed

both-HoldsAll : HoldsAll 2 (joined pass_0 pass_1)
both-HoldsAll zero below = inl refl
both-HoldsAll (suc zero) below = inr (inl refl)
both-HoldsAll (suc (suc c)) below = absurd (omega (arith, below))

lists-both : held 2 (joined pass_0 pass_1) ≡ (first ∷ []) ∷ (asked ∷ refused ∷ second ∷ []) ∷ []
lists-both = refl

serialization-both : serialization 2 (held 2 (joined pass_0 pass_1)) ≡ asked ∷ first ∷ refused ∷ second ∷ []
serialization-both = refl

both-AreSequentiallyConsistent : AreSequentiallyConsistent nondominated 2 (held 2 (joined pass_0 pass_1))
both-AreSequentiallyConsistent = views_are_lawful members nondominated nondominated-IsRule 2 (joined pass_0 pass_1) both-consistent both-HoldsAll

-- Had pass 1 seen an accepting entry that names caller 0, and pass 0 not made it, each view would be consistent, but not the joined one.
abbrev seeing : View
seeing = record { number = 1; observed = first ∷ []; own = []; others = [] }

seeing-consistent : IsConsistent nondominated 2 seeing
seeing-consistent = record {
  observed = record { legal = assumption; accepted = assumption; begun = search arith };
  lists = (record { named = tt; told = refl; known = tt; judged = tt; rising = tt }, tt);
}

unmade-consistent : IsConsistent nondominated 2 (new_view 0)
unmade-consistent = record {
  observed = record { legal = tt; accepted = tt; begun = tt };
  lists = (record { named = tt; told = refl; known = tt; judged = tt; rising = tt }, tt);
}

joined-inconsistent : IsConsistent nondominated 2 (joined (new_view 0) seeing) → ⊥
joined-inconsistent h = omega (arith, ap (λ (es : List Entry). length es) h.lists.0.told)
