-- The nondominated archive is a rule: its members, and what it replies to each call.
use Rattle.std.proofs.Common.{◌≡◌, ◌↔◌, ℕ, ℤ, Bool, true, false, not, IsTrue, if◌then◌else◌, List, [], ◌∷◌, ◌++◌, length, min, filter, refl, ap, sym, subst, ◌∙◌, inl, inr}
use Rattle.std.proofs.lemmas.List.{append-nil}
use Rattle.std.proofs.lemmas.Bool.{or_left, or_right}
use Rattle.pls_vectors.specs.Archive.{IsPreorder, dominates, belongs, members_among}
use Rattle.pls_vectors.specs.Solution.{no_items}
use Rattle.pls_vectors.proofs.Archive.{weakly_dominated_by-archive, archive-by_cases}
use Rattle.pls_vectors.proofs.ArchiveOfMembers.{archive-archive, archive-append_archive}
use Rattle.pls_vectors.proofs.Dominance.{weakly_dominates-refl, weakly_dominates-trans}
use Rattle.pls_archive.specs.declared.point.Point.{Point}
use Rattle.pls_archive.specs.declared.call.Call.{Call}
use Rattle.pls_archive.specs.declared.call.Call.TheVariants.{Update, Covered, Member, Snapshot}
use Rattle.pls_archive.specs.declared.call.Reply.TheVariants.{Added, Refused, Yes, No, Points}
use Rattle.pls_archive.specs.Lists.{In}
use Rattle.pls_archive.specs.Rule.{IsRule, submitted_by, is_accepting}
use Rattle.pls_archive.specs.Reply.{point_weakly_dominates, members, some_weakly_dominates, has_value, removed_by, in_order, nondominated}

-- weak dominance of points is a preorder: points with one value weakly dominate each other
pub point_weakly_dominates-IsPreorder : IsPreorder point_weakly_dominates
point_weakly_dominates-IsPreorder = record {
  reflexive = λ p. weakly_dominates-refl p.value;
  transitive = λ p q r. weakly_dominates-trans p.value q.value r.value;
}

-- the members weakly dominate what the submissions do
pub some_weakly_dominates-members :
    (submitted : List Point) (v : List ℤ) → some_weakly_dominates (members submitted) v ≡ some_weakly_dominates submitted v
some_weakly_dominates-members submitted v =
    let p : Point = record { value = v; sol = no_items 0 } in
    weakly_dominated_by-archive point_weakly_dominates-IsPreorder submitted p

-- the members after one more submission
module _ (submitted : List Point) (p : Point) where
  pub members-with_covered :
      some_weakly_dominates (members submitted) p.value ≡ true → members (submitted ++ p ∷ []) ≡ members submitted
  members-with_covered covered =
      archive-by_cases point_weakly_dominates-IsPreorder submitted p true
      (sym (some_weakly_dominates-members submitted p.value) ∙ covered)

  pub members-with_new :
      some_weakly_dominates (members submitted) p.value ≡ false
      → members (submitted ++ p ∷ []) ≡ filter (λ q. not (dominates point_weakly_dominates p q)) (members submitted) ++ p ∷ []
  members-with_new new =
      archive-by_cases point_weakly_dominates-IsPreorder submitted p false
      (sym (some_weakly_dominates-members submitted p.value) ∙ new)

  -- an update is refused exactly where a member weakly dominates its point
  pub update-covered : some_weakly_dominates (members submitted) p.value ≡ true → nondominated submitted (Update p) ≡ Refused
  update-covered covered =
      ap (λ b. if b then Refused else Added (removed_by submitted p)) (sym (some_weakly_dominates-members submitted p.value) ∙ covered)

  pub update-new :
      some_weakly_dominates (members submitted) p.value ≡ false → nondominated submitted (Update p) ≡ Added (removed_by submitted p)
  update-new new =
      ap (λ b. if b then Refused else Added (removed_by submitted p)) (sym (some_weakly_dominates-members submitted p.value) ∙ new)

  pub update_is_refused : (nondominated submitted (Update p) ≡ Refused) ↔ IsTrue (some_weakly_dominates (members submitted) p.value)
  update_is_refused = (λ e. some_weakly_dominates-members submitted p.value ∙ true_from_refused _ _ e, update-covered)
    where
      true_from_refused : (b : Bool) (n : ℕ) → (if b then Refused else Added n) ≡ Refused → b ≡ true
      true_from_refused true n e = refl
      true_from_refused false n e = cc

-- what is asked of members alone
module _ (submitted : List Point) (v : List ℤ) where
  pub covered-yes : some_weakly_dominates (members submitted) v ≡ true → nondominated submitted (Covered v) ≡ Yes
  covered-yes some = ap (λ b. if b then Yes else No) (sym (some_weakly_dominates-members submitted v) ∙ some)

  pub covered-no : some_weakly_dominates (members submitted) v ≡ false → nondominated submitted (Covered v) ≡ No
  covered-no none = ap (λ b. if b then Yes else No) (sym (some_weakly_dominates-members submitted v) ∙ none)

  pub member-yes : has_value (members submitted) v ≡ true → nondominated submitted (Member v) ≡ Yes
  member-yes some = ap (λ b. if b then Yes else No) some

  pub member-no : has_value (members submitted) v ≡ false → nondominated submitted (Member v) ≡ No
  member-no none = ap (λ b. if b then Yes else No) none

  pub member_is_no : (nondominated submitted (Member v) ≡ No) ↔ (has_value (members submitted) v ≡ false)
  member_is_no = (λ e. false_from_no _ e, member-no)
    where
      false_from_no : (b : Bool) → (if b then Yes else No) ≡ No → b ≡ false
      false_from_no true e = cc
      false_from_no false e = refl

-- ---- the laws of a rule

members-again : (all : List Point) → members (members all) ≡ members all
members-again = archive-archive point_weakly_dominates-IsPreorder

grows : (all : List Point) (p : Point) → members (all ++ p ∷ []) ≡ members (members all ++ p ∷ [])
grows all p = archive-append_archive point_weakly_dominates-IsPreorder all (p ∷ [])

stands : (all : List Point) (call : Call) → nondominated all call ≡ nondominated (members all) call
stands all (Update p) =
    ap (λ b. if b then Refused else Added (removed_by all p)) (sym (some_weakly_dominates-members all p.value))
    ∙ ap (λ (ms : List Point). if some_weakly_dominates (members all) p.value then Refused else Added (min (length (filter (dominates point_weakly_dominates p) ms)) 4294967295)) (sym (members-again all))
stands all (Covered v) = ap (λ b. if b then Yes else No) (sym (some_weakly_dominates-members all v))
stands all (Member v) = ap (λ ms. if has_value ms v then Yes else No) (sym (members-again all))
stands all Snapshot = ap (λ ms. Points (in_order ms)) (sym (members-again all))

-- a call that brings nothing in changes no member
unaccepted :
    (all : List Point) (call : Call) → is_accepting call (nondominated all call) ≡ false → members (all ++ submitted_by call) ≡ members all
unaccepted all (Covered v) refused = ap members (append-nil all)
unaccepted all (Member v) refused = ap members (append-nil all)
unaccepted all Snapshot refused = ap members (append-nil all)
unaccepted all (Update p) refused =
    members-with_covered all p (some_weakly_dominates-members all p.value ∙ covered (some_weakly_dominates all p.value) refused)
  where
    covered : (b : Bool) → is_accepting (Update p) (if b then Refused else Added (removed_by all p)) ≡ false → b ≡ true
    covered true is = refl
    covered false is = cc

-- some weakly dominates where one does
some-In : (all : List Point) (q : Point) (v : List ℤ) → In q all → q.value ≡ v → some_weakly_dominates all v ≡ true
some-In [] q v here is = absurd here
some-In (p ∷ all) q v (inl e) is = or_left _ _ (subst (λ (x : List ℤ). point_weakly_dominates p (record { value = x; sol = q.sol }) ≡ true) (ap (λ (x : Point). x.value) (sym e) ∙ is) (weakly_dominates-refl p.value))
some-In (p ∷ all) q v (inr later) is = or_right _ _ (some-In all q v later is)

same_value : (all : List Point) (p q : Point) → In q all → q.value ≡ p.value → nondominated all (Update p) ≡ Refused
same_value all p q here is = ap (λ b. if b then Refused else Added (removed_by all p)) (some-In all q p.value here is)

admits :
    (all : List Point) (p : Point) → is_accepting (Update p) (nondominated all (Update p)) ≡ true → In p (members (all ++ p ∷ []))
admits all p accepted =
    subst (λ (ms : List Point). In p ms)
    (sym (members-with_new all p (some_weakly_dominates-members all p.value ∙ new (some_weakly_dominates all p.value) accepted)))
    (at_end (filter (λ q. not (dominates point_weakly_dominates p q)) (members all)))
  where
    new : (b : Bool) → is_accepting (Update p) (if b then Refused else Added (removed_by all p)) ≡ true → b ≡ false
    new true is = cc
    new false is = refl

    at_end : (xs : List Point) → In p (xs ++ p ∷ [])
    at_end [] = inl refl
    at_end (x ∷ xs) = inr (at_end xs)

-- each member was submitted
among : (all : List Point) (p : Point) → In p (members all) → In p all
among all p here = from all [] all here
  where
    from : (all earlier later : List Point) → In p (members_among point_weakly_dominates all earlier later) → In p later
    from all earlier [] here = here
    from all earlier (q ∷ later) here = one (belongs point_weakly_dominates all earlier q) (from all (earlier ++ q ∷ []) later) here
      where
        one :
            (b : Bool) → (In p (members_among point_weakly_dominates all (earlier ++ q ∷ []) later) → In p later)
            → In p ((if b then q ∷ [] else []) ++ members_among point_weakly_dominates all (earlier ++ q ∷ []) later) → In p (q ∷ later)
        one true rest (inl e) = inl e
        one true rest (inr h) = inr (rest h)
        one false rest h = inr (rest h)

covered : (all : List Point) (p : Point) → nondominated all (Covered p.value) ≡ (if is_accepting (Update p) (nondominated all (Update p)) then No else Yes)
covered all p = by_cover (some_weakly_dominates all p.value)
  where
    by_cover : (b : Bool) → (if b then Yes else No) ≡ (if is_accepting (Update p) (if b then Refused else Added (removed_by all p)) then No else Yes)
    by_cover true = refl
    by_cover false = refl

pub nondominated-IsRule : IsRule members nondominated
nondominated-IsRule = record {
  grows = grows;
  replies_from_members = stands;
  unaccepting = unaccepted;
  same_value = same_value;
  admits = admits;
  members_submitted = among;
  member = λ all v. refl;
  snapshot = λ all. refl;
  covered = covered;
}
