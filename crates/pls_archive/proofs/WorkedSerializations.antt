-- Histories of two and of three callers with their serializations, and lists that are not lawful, computed.
use Rattle.std.proofs.Common.{◌≡◌, ℕ, ◌+◌, ◌≤◌, ◌==◌, ◌&&◌, nat_lt, nat_le, List, [], ◌∷◌, length, map, flat_map, refl, ap, arith, ◌∙◌}
use Rattle.std.proofs.lemmas.Bool.Decides.{nat_tests}
use Rattle.pls_archive.specs.declared.call.Call.{Call}
use Rattle.pls_archive.specs.declared.call.Call.TheVariants.{Update, Covered, Member, Snapshot}
use Rattle.pls_archive.specs.declared.call.Reply.{Reply}
use Rattle.pls_archive.specs.declared.call.Reply.TheVariants.{Added, Refused, Yes, No, Points}
use Rattle.pls_archive.specs.declared.call.Entry.{Entry}
use Rattle.pls_archive.specs.Lists.{Every, how_many, total, one_if}
use Rattle.pls_archive.specs.Reply.{nondominated}
use Rattle.pls_archive.specs.History.{accepts, IsLegal}
use Rattle.pls_archive.specs.Serialization.{accepting_at, serialization, AreNamed, IsRising, AreSequentiallyConsistent}
use Rattle.pls_archive.proofs.Every.{length-flat_map, total-same, length-filter}
use Rattle.pls_archive.proofs.NineCalls.{two_parts, point}

abbrev pub entry : ℕ → ℕ → Call → Reply → Entry
entry caller stamp call answer = record { caller = caller; stamp = stamp; call = call; reply = answer }

abbrev pub submits : ℕ → ℕ → ℕ → ℕ → Reply → Entry
submits caller stamp x y answer = entry caller stamp (Update (point x y 1)) answer

-- what is read off a serialization: callers, stamps and replies
abbrev told : List Entry → List (ℕ × ℕ × Reply)
told es = map (λ e. (e.caller, e.stamp, e.reply)) es

-- the five points of lawful lists, each by itself
abbrev pub AreStamped : ℕ → List (List Entry) → Type 0
AreStamped n lists = (k : ℕ) → length (flat_map (accepting_at k) lists) ≡ one_if (nat_lt 0 k && nat_le k n)

abbrev AreWithin : ℕ → List (List Entry) → Type 0
AreWithin n lists = Every (Every (λ e. e.stamp ≤ n)) lists

abbrev AreRising : List (List Entry) → Type 0
AreRising lists = Every IsRising lists

abbrev AreLegal : ℕ → List (List Entry) → Type 0
AreLegal n lists = IsLegal nondominated (serialization n lists)

-- the accepting entries with one stamp, counted; where there are one and two in all
abbrev pub accepting_count : ℕ → List (List Entry) → ℕ
accepting_count k lists = total (how_many (λ e. accepts e && (e.stamp == k))) lists

pub counted_at : (k : ℕ) (lists : List (List Entry)) → length (flat_map (accepting_at k) lists) ≡ accepting_count k lists
counted_at k lists =
    length-flat_map (accepting_at k) lists
    ∙ total-same (λ es. length (accepting_at k es)) (how_many (λ e. accepts e && (e.stamp == k))) (λ es. length-filter (λ e. accepts e && (e.stamp == k)) es) lists

pub one_accepting : (lists : List (List Entry)) → ((k : ℕ) → accepting_count k lists ≡ one_if (1 == k)) → AreStamped 1 lists
one_accepting lists has k = counted_at k lists ∙ (has k ∙ grind (arith, nat_tests))

two_accepting : (lists : List (List Entry)) → ((k : ℕ) → accepting_count k lists ≡ one_if (1 == k) + one_if (2 == k)) → AreStamped 2 lists
two_accepting lists has k = counted_at k lists ∙ (has k ∙ grind (arith, nat_tests))

-- ---- two callers: each has a submission refused at stamp 1, one asks at stamp 0, and both ask at stamp 2

abbrev two_callers : List (List Entry)
two_callers =
    (submits 0 1 1 3 (Added 0) ∷ submits 0 1 1 2 Refused ∷ entry 0 2 (Member (two_parts 1 3)) Yes ∷ [])
    ∷ (entry 1 0 (Member (two_parts 1 3)) No ∷ submits 1 1 1 1 Refused ∷ submits 1 2 3 1 (Added 0)
    ∷ entry 1 2 Snapshot (Points (point 1 3 1 ∷ point 3 1 1 ∷ [])) ∷ [])
    ∷ []

serialization-two_callers :
    told (serialization 2 two_callers)
    ≡ (1, 0, No) ∷ (0, 1, Added 0) ∷ (0, 1, Refused) ∷ (1, 1, Refused) ∷ (1, 2, Added 0) ∷ (0, 2, Yes)
    ∷ (1, 2, Points (point 1 3 1 ∷ point 3 1 1 ∷ [])) ∷ []
serialization-two_callers = refl

two_callers-AreSequentiallyConsistent : AreSequentiallyConsistent nondominated 2 two_callers
two_callers-AreSequentiallyConsistent = record {
  named = assumption;
  stamped = two_accepting two_callers (λ k. omega arith);
  within = search arith;
  rising = search arith;
  legal = assumption;
}

-- ---- three callers: the third has the second accepting entry, after which each of them is refused at stamp 2

abbrev three_callers : List (List Entry)
three_callers =
    (submits 0 1 2 2 (Added 0) ∷ submits 0 2 1 1 Refused ∷ [])
    ∷ (entry 1 0 (Covered (two_parts 1 1)) No ∷ submits 1 1 2 1 Refused ∷ submits 1 2 1 2 Refused ∷ [])
    ∷ (submits 2 1 2 2 Refused ∷ submits 2 2 3 3 (Added 1) ∷ submits 2 2 3 3 Refused ∷ [])
    ∷ []

serialization-three_callers :
    told (serialization 2 three_callers)
    ≡ (1, 0, No) ∷ (0, 1, Added 0) ∷ (1, 1, Refused) ∷ (2, 1, Refused) ∷ (2, 2, Added 1) ∷ (0, 2, Refused) ∷ (1, 2, Refused)
    ∷ (2, 2, Refused) ∷ []
serialization-three_callers = refl

three_callers-AreSequentiallyConsistent : AreSequentiallyConsistent nondominated 2 three_callers
three_callers-AreSequentiallyConsistent = record {
  named = assumption;
  stamped = two_accepting three_callers (λ k. omega arith);
  within = search arith;
  rising = search arith;
  legal = assumption;
}

-- ---- lists of which all is so but one

-- the first list names another caller
abbrev misnamed : List (List Entry)
misnamed = (submits 1 1 1 3 (Added 0) ∷ []) ∷ []

misnamed-otherwise : AreStamped 1 misnamed × AreWithin 1 misnamed × AreRising misnamed × AreLegal 1 misnamed
misnamed-otherwise = (one_accepting misnamed (λ k. omega arith), search arith, search arith, assumption)

misnamed-unlawful : AreSequentiallyConsistent nondominated 1 misnamed → ⊥
misnamed-unlawful h = omega (arith, h.named.0.0)

-- no entry has stamp 1
abbrev missing : List (List Entry)
missing = (entry 0 0 (Member (two_parts 1 3)) No ∷ []) ∷ []

missing-otherwise : AreNamed 0 missing × AreWithin 1 missing × AreRising missing × AreLegal 1 missing
missing-otherwise = (assumption, search arith, search arith, assumption)

missing-unlawful : AreSequentiallyConsistent nondominated 1 missing → ⊥
missing-unlawful h = omega (arith, h.stamped 1)

-- two accepting entries have it
abbrev twice : List (List Entry)
twice = (submits 0 1 1 3 (Added 0) ∷ []) ∷ (submits 1 1 3 1 (Added 0) ∷ []) ∷ []

twice-unlawful : AreSequentiallyConsistent nondominated 1 twice → ⊥
twice-unlawful h = omega (arith, h.stamped 1)

-- an entry has a stamp past the last: it does not stand in the serialization
abbrev beyond : List (List Entry)
beyond = (submits 0 1 1 3 (Added 0) ∷ entry 0 2 (Member (two_parts 1 3)) No ∷ []) ∷ []

serialization-beyond : told (serialization 1 beyond) ≡ (0, 1, Added 0) ∷ []
serialization-beyond = refl

beyond-otherwise : AreNamed 0 beyond × AreStamped 1 beyond × AreRising beyond × AreLegal 1 beyond
beyond-otherwise = (assumption, one_accepting beyond (λ k. omega arith), search arith, assumption)

beyond-unlawful : AreSequentiallyConsistent nondominated 1 beyond → ⊥
beyond-unlawful h = omega (arith, h.within.0.1.0)

-- stamps fall: the caller was told that its value is that of no member after it was accepted
abbrev falling : List (List Entry)
falling = (submits 0 1 1 3 (Added 0) ∷ entry 0 0 (Member (two_parts 1 3)) No ∷ []) ∷ []

falling-otherwise : AreNamed 0 falling × AreStamped 1 falling × AreWithin 1 falling × AreLegal 1 falling
falling-otherwise = (assumption, one_accepting falling (λ k. omega arith), search arith, assumption)

falling-unlawful : AreSequentiallyConsistent nondominated 1 falling → ⊥
falling-unlawful h = omega (arith, h.rising.0.0.0)

-- a stamp does not rise at an accepting entry: the caller was told that its value is that of a member before it was accepted
abbrev early : List (List Entry)
early = (entry 0 1 (Member (two_parts 1 3)) Yes ∷ submits 0 1 1 3 (Added 0) ∷ []) ∷ []

early-otherwise : AreNamed 0 early × AreStamped 1 early × AreWithin 1 early × AreLegal 1 early
early-otherwise = (assumption, one_accepting early (λ k. omega arith), search arith, assumption)

early-unlawful : AreSequentiallyConsistent nondominated 1 early → ⊥
early-unlawful h = omega (arith, h.rising.0.0.0)

-- a reply is not the one that is due: the value is that of a member by then
abbrev wrong : List (List Entry)
wrong = (submits 0 1 1 3 (Added 0) ∷ []) ∷ (entry 1 1 (Member (two_parts 1 3)) No ∷ []) ∷ []

wrong-otherwise : AreNamed 0 wrong × AreStamped 1 wrong × AreWithin 1 wrong × AreRising wrong
wrong-otherwise = (assumption, one_accepting wrong (λ k. omega arith), search arith, search arith)

no_is_not_yes : No ≡ Yes → ⊥
no_is_not_yes e = cc

wrong-unlawful : AreSequentiallyConsistent nondominated 1 wrong → ⊥
wrong-unlawful h = no_is_not_yes (ap (λ (e : Entry). e.reply) h.legal.1.0)
