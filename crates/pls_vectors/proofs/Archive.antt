-- The nondominated archive with one more submission.
use Rattle.std.proofs.Common.{◌≡◌, Bool, true, false, not, ◌&&◌, ◌||◌, inl, inr, if◌then◌else◌, List, [], ◌∷◌, ◌++◌, filter, All, Contains, IsTrue, refl, ap, sym, ◌∙◌, append_assoc}
use Rattle.std.specs.List.{list_any, list_all}
use Rattle.std.proofs.Math.Bool.{and-true}
use Rattle.std.proofs.lemmas.Bool.{cases_Bool, and_parts, and_from, or_left, both_ways, not-true, not_from_false, false_from_ne_true}
use Rattle.std.proofs.lemmas.List.{append-nil}
use Rattle.std.proofs.lemmas.List.Elements.{All-nil, All-head, All-tail, All-append, All-weaker, All-contains_itself, filter-append}
use Rattle.std.proofs.lemmas.List.Folds.{list_any-append}
use Rattle.std.proofs.lemmas.List.Sums.{AllPass-from_list_all, list_all-from_AllPass}
use Rattle.pls_vectors.specs.Archive.{IsPreorder, weakly_dominated_by, dominates, same_value, belongs, members_among, nondominated_archive}
use Rattle.pls_vectors.specs.ArchiveLaws.{CoversTheSame, GrowsBySubmission, HasSubmissionsOnly}
use Rattle.pls_vectors.proofs.Bool.{and_not_itself, not_or_and, not_and_not, or_absorbs, or_under, or_beside}
use Rattle.pls_vectors.proofs.FromEnd.{from_end}
use Rattle.pls_vectors.proofs.Lists.{filter-if, filter-all, All-if, list_any-weaker, list_any-split}

-- of any test
module _ {P : Type 0} (covers : P → P → Bool) where
  -- the members that p does not dominate
  abbrev pub spared_by : P → List P → List P
  spared_by p members = filter (λ q. not (dominates covers p q)) members

  members_among-append :
      (all earlier xs ys : List P)
      → members_among covers all earlier (xs ++ ys) ≡ members_among covers all earlier xs ++ members_among covers all (earlier ++ xs) ys
  members_among-append all earlier [] ys = ap (λ before. members_among covers all before ys) (sym (append-nil earlier))
  members_among-append all earlier (x ∷ xs) ys =
      let here = if belongs covers all earlier x then x ∷ [] else [] in
      let among = members_among covers all in
      ap (λ rest. here ++ rest) (members_among-append all (earlier ++ x ∷ []) xs ys)
      ∙ (sym (append_assoc here (among (earlier ++ x ∷ []) xs) (among ((earlier ++ x ∷ []) ++ xs) ys))
      ∙ ap (λ before. (here ++ among (earlier ++ x ∷ []) xs) ++ among before ys) (append_assoc earlier (x ∷ []) xs))

  -- with one more submission, those that it dominates no longer belong
  belongs-more :
      (all earlier : List P) (p q : P)
      → belongs covers (all ++ p ∷ []) earlier q ≡ (belongs covers all earlier q && not (dominates covers p q))
  belongs-more all earlier p q =
      ap (λ b. not b && not (list_any (λ r. same_value covers r q) earlier)) (list_any-append (λ r. dominates covers r q) all (p ∷ []))
      ∙ not_or_and _ _ _

  members_among-more :
      (all earlier later : List P) (p : P)
      → members_among covers (all ++ p ∷ []) earlier later ≡ spared_by p (members_among covers all earlier later)
  members_among-more all earlier [] p = refl
  members_among-more all earlier (q ∷ later) p =
      let one = λ (b : Bool). if b then q ∷ [] else [] in
      let old = belongs covers all earlier q in
      let before = earlier ++ q ∷ [] in
      ap (λ b. one b ++ members_among covers (all ++ p ∷ []) before later) (belongs-more all earlier p q)
      ∙ (ap (λ first. first ++ members_among covers (all ++ p ∷ []) before later) (filter-if old (λ r. not (dominates covers p r)) q)
      ∙ (ap (λ rest. spared_by p (one old) ++ rest) (members_among-more all before later p)
      ∙ sym (filter-append (λ r. not (dominates covers p r)) (one old) (members_among covers all before later))))

  -- a new submission belongs where none before covers it
  belongs-itself : (all : List P) (p : P) → belongs covers (all ++ p ∷ []) all p ≡ not (weakly_dominated_by covers all p)
  belongs-itself all p =
      belongs-more all all p p
      ∙ (ap (λ b. belongs covers all all p && not b) (and_not_itself (covers p p))
      ∙ (and-true (belongs covers all all p)
      ∙ (not_and_not _ _ ∙ ap not (list_any-split (λ q. covers q p) (λ q. covers p q) all))))

  -- one more submission, of any test: those that it dominates leave, and it enters where none covers it
  archive-more :
      (all : List P) (p : P)
      → nondominated_archive covers (all ++ p ∷ [])
      ≡ spared_by p (nondominated_archive covers all) ++ (if not (weakly_dominated_by covers all p) then p ∷ [] else [])
  archive-more all p =
      members_among-append (all ++ p ∷ []) [] all (p ∷ [])
      ∙ (ap (λ ms. ms ++ members_among covers (all ++ p ∷ []) all (p ∷ [])) (members_among-more all [] all p)
      ∙ ap (λ ms. spared_by p (nondominated_archive covers all) ++ ms)
      (append-nil _ ∙ ap (λ b. if b then p ∷ [] else []) (belongs-itself all p)))

  -- what belonging and being submitted give holds of each member
  All-members :
      (Q R : P → Type 0) (all : List P) → ((earlier : List P) (p : P) → belongs covers all earlier p ≡ true → R p → Q p)
      → (earlier later : List P) → All R later → All Q (members_among covers all earlier later)
  All-members Q R all gives earlier [] h = All-nil Q
  All-members Q R all gives earlier (p ∷ later) h =
      All-append Q _ _ (All-if Q (belongs covers all earlier p) p (λ yes. gives earlier p yes (All-head R p later h)))
      (All-members Q R all gives (earlier ++ p ∷ []) later (All-tail R p later h))

  -- what holds of all submissions holds of all members
  pub All-archive : (Q : P → Type 0) (all : List P) → All Q all → All Q (nondominated_archive covers all)
  All-archive Q all h = All-members Q Q all (λ earlier p belongs q. q) [] all h

  -- each member is a submission
  pub archive-submitted : HasSubmissionsOnly covers
  archive-submitted all = All-archive (Contains all) all (All-contains_itself all)

  pub list_all-archive : (test : P → Bool) (all : List P) → IsTrue (list_all test all) → IsTrue (list_all test (nondominated_archive covers all))
  list_all-archive test all h =
      list_all-from_AllPass test _ (All-archive (λ p. test p ≡ true) all (AllPass-from_list_all test all h))

  -- no submission dominates a member
  pub archive-undominated :
      (all : List P) → All (λ m. list_any (λ r. dominates covers r m) all ≡ false) (nondominated_archive covers all)
  archive-undominated all =
      let Undominated : P → Type 0 = λ m. list_any (λ r. dominates covers r m) all ≡ false in
      All-members Undominated (λ p. Unit {0}) all (λ earlier p h any. not-true _ (and_parts _ _ h).0) [] all (λ k d within. tt)

-- of a preorder
module _ {P : Type 0} {covers : P → P → Bool} (order : IsPreorder covers) where
  -- who covers a point dominates what it dominates
  pub dominates-covered : (a b c : P) → covers a b ≡ true → dominates covers b c ≡ true → dominates covers a c ≡ true
  dominates-covered a b c h d =
      let parts = and_parts (covers b c) (not (covers c b)) d in
      let apart : covers c a ≡ false = false_from_ne_true _ (λ back. both_ways _ (not-true _ parts.1) (order.transitive c a b back h)) in
      and_from _ _ (order.transitive a b c h parts.0) (not_from_false _ apart)

  -- a submission that was covered dominates no member
  spared_by-covered :
      (all : List P) (p : P) → weakly_dominated_by covers all p ≡ true → spared_by covers p (nondominated_archive covers all) ≡ nondominated_archive covers all
  spared_by-covered all p covered = filter-all _ _ (All-weaker _ _ spared _ (archive-undominated covers all))
    where
      spared : (m : P) → list_any (λ r. dominates covers r m) all ≡ false → not (dominates covers p m) ≡ true
      spared m none =
          let dominated = λ (d : IsTrue (dominates covers p m)). list_any-weaker _ _ (λ r h. dominates-covered r p m h d) all covered in
          not_from_false _ (false_from_ne_true _ (λ d. both_ways _ none (dominated d)))

  -- the members after one more submission, by whether some submission covers it
  pub archive-by_cases :
      (all : List P) (p : P) (b : Bool) → weakly_dominated_by covers all p ≡ b
      → nondominated_archive covers (all ++ p ∷ [])
      ≡ (if b then nondominated_archive covers all else spared_by covers p (nondominated_archive covers all) ++ p ∷ [])
  archive-by_cases all p true e =
      archive-more covers all p
      ∙ (ap (λ b. spared_by covers p (nondominated_archive covers all) ++ (if not b then p ∷ [] else [])) e
      ∙ (append-nil _ ∙ spared_by-covered all p e))
  archive-by_cases all p false e =
      archive-more covers all p
      ∙ ap (λ b. spared_by covers p (nondominated_archive covers all) ++ (if not b then p ∷ [] else [])) e

  -- what a point that p does not spare covers, p covers
  weakly_dominated_by-spared :
      (p x : P) (b : Bool) → (covers p x ≡ true → b ≡ true)
      → (members : List P) → (weakly_dominated_by covers (spared_by covers p members) x || b) ≡ (weakly_dominated_by covers members x || b)
  weakly_dominated_by-spared p x b h [] = refl
  weakly_dominated_by-spared p x b h (m ∷ members) =
      let rest = weakly_dominated_by-spared p x b h members in
      elim (cases_Bool (dominates covers p m)) [
        | inl dominated ↦
            let by_p = and_parts (covers p m) (not (covers m p)) dominated in
            rw dominated (rest ∙ sym (or_under (covers m x) _ b (λ c. h (order.transitive p m x by_p.0 c))))
        | inr spared ↦ rw spared (or_beside (covers m x) _ _ b rest)
      ]

  -- the archive covers what the submissions cover
  pub weakly_dominated_by-archive : CoversTheSame covers
  weakly_dominated_by-archive =
      from_end (λ all. (x : P) → weakly_dominated_by covers (nondominated_archive covers all) x ≡ weakly_dominated_by covers all x)
      (λ all p so_far x. weakly_dominated_by-archive_more all p x (so_far x)) (λ x. refl)
    where
      weakly_dominated_by-archive_more :
          (all : List P) (p x : P) → weakly_dominated_by covers (nondominated_archive covers all) x ≡ weakly_dominated_by covers all x
          → weakly_dominated_by covers (nondominated_archive covers (all ++ p ∷ [])) x ≡ weakly_dominated_by covers (all ++ p ∷ []) x
      weakly_dominated_by-archive_more all p x so_far =
          let members = nondominated_archive covers all in
          let both = list_any-append (λ q. covers q x) all (p ∷ []) in
          elim (cases_Bool (weakly_dominated_by covers all p)) [
            | inl covered ↦
                let absorbed = or_absorbs (weakly_dominated_by covers all x) (covers p x) (λ h. list_any-weaker _ _ (λ r by. order.transitive r p x by h) all covered) in
                ap (λ ms. weakly_dominated_by covers ms x) (archive-by_cases all p true covered) ∙ (so_far ∙ (sym absorbed ∙ sym both))
            | inr new ↦
                ap (λ ms. weakly_dominated_by covers ms x) (archive-by_cases all p false new)
                ∙ (list_any-append (λ q. covers q x) (spared_by covers p members) (p ∷ [])
                ∙ (weakly_dominated_by-spared p x (covers p x || false) (λ h. or_left _ _ h) members
                ∙ (ap (λ b. b || (covers p x || false)) so_far ∙ sym both)))
          ]

  -- one more submission
  pub archive-with_submission : GrowsBySubmission covers
  archive-with_submission all p =
      let members = nondominated_archive covers all in
      archive-by_cases all p (weakly_dominated_by covers all p) refl
      ∙ ap (λ b. if b then members else spared_by covers p members ++ p ∷ []) (sym (weakly_dominated_by-archive all p))
