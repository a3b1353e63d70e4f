-- A point that a question found below the root of the pinned version: it was submitted, and the pass may remember its value.
use Rattle.std.proofs.Common.{◌≡◌, ℕ, ◌<◌, ⊎_elim, Bool, true, false, List, [], ◌∷◌, ◌++◌, take, drop, nat_lt, sym, ap, subst, ◌∙◌, arith, ℤ}
use Rattle.std.specs.Prelude.{◌&&◌, if◌then◌else◌}
use Rattle.std.proofs.lemmas.Bool.{and_from}
use Rattle.std.proofs.lemmas.List.{take-append-drop}
use Rattle.era_core.specs.Lists.{In}
use Rattle.era_core.proofs.ListFacts.{in_head, in_tail, in_cases, in-append_left, in-append_right}
use Rattle.era_rows.specs.Known.{pinned_copy}
use Rattle.era_rows.specs.Passes.{known_of, seen_of, IsPassOf, HasSame}
use Rattle.era_rows.specs.declared.pass.Pass.{Pass}
use Rattle.era_rows.specs.declared.rows.Rows.{Rows}
use Rattle.era_rows.specs.declared.law.Law.{Ghosts}
use Rattle.pls_archive.specs.declared.call.Entry.{Entry}
use Rattle.pls_archive.specs.declared.point.Point.{Point}
use Rattle.pls_archive.specs.Lists as lists
use Rattle.pls_archive.specs.History.{submissions}
use Rattle.pls_archive.specs.NondominatedRule.{nondominated-IsRule}
use Rattle.pls_archive.specs.Reply.{members, has_value}
use Rattle.pls_archive.proofs.Every.{In-left}
use Rattle.pls_archive.proofs.Histories.{submissions-append}
use Rattle.pls_archive.proofs.Same.{same_point, same_point-IsSameTest, how_many-In, In-how_many, list_any-how_many}
use Rattle.pls_vectors.specs.Dominance.{weakly_dominates}
use Rattle.pls_vectors.proofs.Dominance.{weakly_dominates-refl}
use Rattle.nd_rows.specs.Nodes.{Nodes, no_nodes, leaf, inner, rows_of, rows_with, points_of, is_mixed, necessary}
use Rattle.nd_rows.specs.NdLaws.{in-append}
use Rattle.nd_rows.specs.Layout.{HasPoint}
use Rattle.nd_rows.specs.Reads.{ReadsIn, LooksIn, HasKept, ReadsNecessary, HasPinnedTree}
use Rattle.nd_rows.specs.Walk.{IsRowOf}
use Rattle.nd_rows.proofs.Looks.{reads_both, in_only, row_there, stays}
use Rattle.nd_rows.proofs.PinnedTrees.{pinned_after}

-- a necessary row is a row of the tree
in_if : (x : ℕ) (b : Bool) (xs : List ℕ) → In x (if b then xs else []) → In x xs
in_if x true xs here = here
in_if x false xs here = absurd (let none : In x [] = here in omega arith)

necessary_among : (v : List ℤ) (ns : Nodes) (x : ℕ) → In x (necessary v ns) → In x (rows_of ns)
necessary_among v no_nodes x here = here
necessary_among v (leaf r b placed later) x here =
    let own = if is_mixed b v then rows_with placed else [] in
    let below = rows_with placed in
    ⊎_elim
    (λ e. subst (λ y. In y (r ∷ (below ++ rows_of later))) (sym e) (in_head r (below ++ rows_of later)))
    (λ rest. in_tail x r (below ++ rows_of later)
    (⊎_elim (λ h. in-append_left x below (rows_of later) (in_if x (is_mixed b v) below h)) (λ h. in-append_right x below (rows_of later) (necessary_among v later x h)) (in-append x own (necessary v later) rest)))
    (in_cases x r (own ++ necessary v later) here)
necessary_among v (inner r b kids later) x here =
    let own = if is_mixed b v then necessary v kids else [] in
    let below = rows_of kids in
    ⊎_elim
    (λ e. subst (λ y. In y (r ∷ (below ++ rows_of later))) (sym e) (in_head r (below ++ rows_of later)))
    (λ rest. in_tail x r (below ++ rows_of later)
    (⊎_elim (λ h. in-append_left x below (rows_of later) (necessary_among v kids x (in_if x (is_mixed b v) (necessary v kids) h))) (λ h. in-append_right x below (rows_of later) (necessary_among v later x h))
    (in-append x own (necessary v later) rest)))
    (in_cases x r (own ++ necessary v later) here)

-- a member after the first entries was submitted
submitted_among : (entries : List Entry) (n : ℕ) (points : List Point) → lists.AsOften (members (submissions (take n entries))) points → (p : Point) → lists.In p points → lists.In p (submissions entries)
submitted_among entries n points often p here =
    let first = submissions (take n entries) in
    let member =
    In-how_many same_point same_point-IsSameTest p (members first) (subst (λ (k : ℕ). 0 < k) (sym (often (same_point p))) (how_many-In (same_point p) p points here (same_point-IsSameTest.itself p))) in
    subst (lists.In p) (sym (submissions-append (take n entries) (drop n entries)) ∙ ap submissions (take-append-drop n entries))
    (In-left p first (submissions (drop n entries)) (nondominated-IsRule.members_submitted first p member))

-- some point has the value of one of the points
pub value_among : (points : List Point) (p : Point) → lists.In p points → has_value points p.value ≡ true
value_among points p here =
    let test : Point → Bool = λ q. weakly_dominates q.value p.value && weakly_dominates p.value q.value in
    let some = how_many-In test p points here (and_from _ _ (weakly_dominates-refl p.value) (weakly_dominates-refl p.value)) in
    list_any-how_many test points ∙ positive (lists.how_many test points) some
  where
    positive : (n : ℕ) → 0 < n → nat_lt 0 n ≡ true
    positive n some = grind arith

-- what a pass has kept after a question
module _ {L E : Type 0} {G : Ghosts L E} where
  pub kept_same : (p q : Pass L E G) → HasSame p q → HasKept p q
  kept_same p q same = record { same_number = same.same_pass.same_number; same_work = same.same_pass.same_work; same_marks = same.same_marks; same_seen = same.same_seen; same_lists = same.same_lists }

  kept_both : (p q s : Pass L E G) → HasKept p q → HasKept q s → HasKept p s
  kept_both p q s one two = record {
    same_number = two.same_number ∙ one.same_number;
    same_work = two.same_work ∙ one.same_work;
    same_marks = two.same_marks ∙ one.same_marks;
    same_seen = two.same_seen ∙ one.same_seen;
    same_lists = two.same_lists ∙ one.same_lists;
  }

-- a question found a point in this row
module _ {L : Type 0} {G : Ghosts L Entry} (r : Rows L Entry) (v : List ℤ) (n : ℕ) (p : Pass L Entry G) (tree : HasPinnedTree r n p) (s : Pass L Entry G) (looks : LooksIn r (necessary v tree.stands.0) p s)
    (row : ℕ) (is : IsRowOf r.shape (pinned_copy (known_of p)) (necessary v tree.stands.0) (points_of tree.stands.0) row) where
  pub found_row : In row (pinned_copy (known_of s)).rows
  found_row =
      let t = tree.stands.0 in
      row_there r (necessary v t) p s looks row (subst (In row) (sym tree.stands.1.rows_are) (necessary_among v t row is.needed))

  pub found_point : (x : Point) × HasPoint r.shape (pinned_copy (known_of s)) row x × lists.In x (submissions (seen_of s))
  found_point = (
    is.point,
    stays r (λ c. HasPoint r.shape c row is.point) (necessary v tree.stands.0) p s looks is.has,
    subst (λ (entries : List Entry). lists.In is.point (submissions entries)) (sym looks.same_seen) (submitted_among (seen_of p) n (points_of tree.stands.0) tree.stands.2 is.point is.among),
  )

  -- and the pass remembered its value
  module _ (u : Pass L Entry G) (is_pass : IsPassOf r u) (reads : ReadsIn (row ∷ []) (known_of s) (known_of u)) (kept : HasKept s u) where
    all_reads : ReadsIn (necessary v tree.stands.0) (known_of p) (known_of u)
    all_reads =
        let all = necessary v tree.stands.0 in
        reads_both all all (row ∷ []) (known_of p) (known_of s) (known_of u) (λ x here. here) (λ x here. in_only all x row is.needed here) looks.reads reads

    pub found_reads : ReadsNecessary r.shape v (known_of p) (known_of u)
    found_reads = (tree.stands.0, tree.stands.1, all_reads)

    pub found_pinned : (m : ℕ) → HasPinnedTree r m p → HasPinnedTree r m u
    found_pinned m pinned = pinned_after r (necessary v tree.stands.0) p u is_pass all_reads (kept.same_seen ∙ looks.same_seen) m pinned

    pub found_kept : HasSame p s → HasKept p u
    found_kept same = kept_both p s u (kept_same p s same) kept
