-- The rows that a pass retired: as pairs of a version and a row, and as batches.
use Rattle.std.proofs.Common.{◌≡◌, ◌≢◌, ℕ, zero, suc, ◌+◌, ◌<◌, ◌≤◌, ⊎_elim, Bool, true, false, not, cond, eqb, lt-ltb, le-ltb, eq-eqb, ne_eqb, Option, List, [], ◌∷◌, ◌++◌, length, map, filter, refl, sym, ap, subst, ◌∙◌, arith, length-append}
use Rattle.std.proofs.lemmas.List.{append_assoc, append-nil}
use Rattle.std.proofs.lemmas.List.Elements.{filter-append}
use Rattle.std.specs.Prelude.{◌&&◌}
use Rattle.std.specs.List.{list_any}
use Rattle.std.proofs.lemmas.Bool.{cases_eq, or_left, or_right}
use Rattle.era_core.specs.Lists.{times, In, is_in, total, without}
use Rattle.era_core.specs.Views.{Batch, rows_in, versions_of, batch_of, without_row, clears}
use Rattle.era_core.proofs.ListFacts.{times-append, times-head, in_head, in_tail, total-append, total-le}
use Rattle.era_core.proofs.BatchFacts.{one_of_two, times-without_kept, part, not_in_one, cond-times, times-rows_in-row_gone}
use Rattle.era_rows.specs.Held.{rows_at, rows_of}
use Rattle.era_rows.specs.Passes.{blocked}
use Rattle.era_rows.proofs.Joining.{at_either}
use mathlib.Core.Option.{some, some-injective, some-ne-none}
use lib.ListN.{get_elem?}

-- each row stands in the pairs of a version as often as in its batches
abbrev pub AreBatched : List (ℕ × ℕ) → List Batch → Type 0
AreBatched pairs batches = (n x : ℕ) → times x (rows_at n pairs) ≡ times x (rows_of n batches)

-- 1 where the pair is this one, and else 0
abbrev pub is_pair : ℕ → ℕ → ℕ × ℕ → ℕ
is_pair n x p = cond (eqb p.0 n) (times x (p.1 ∷ [])) 0

-- the pairs of a version with a row, counted
pub counted_by : (n x : ℕ) (pairs : List (ℕ × ℕ)) → times x (rows_at n pairs) ≡ total (is_pair n x) pairs
counted_by n x [] = refl
counted_by n x (p ∷ ps) = let rest = counted_by n x ps in let one = by_test (eqb p.0 n) in omega arith
  where
    by_test : (b : Bool) → times x (map (λ (q : ℕ × ℕ). q.1) (cond b (p ∷ filter (λ (q : ℕ × ℕ). eqb q.0 n) ps) (filter (λ (q : ℕ × ℕ). eqb q.0 n) ps)))
        ≡ cond b (times x (p.1 ∷ [])) 0 + times x (rows_at n ps)
    by_test true = omega arith
    by_test false = omega arith

pub rows_of-append : (x n : ℕ) (xs ys : List Batch) → times x (rows_of n (xs ++ ys)) ≡ times x (rows_of n xs) + times x (rows_of n ys)
rows_of-append x n [] ys = omega arith
rows_of-append x n (b ∷ xs) ys =
    let here : List ℕ = cond (eqb b.0 n) b.1 [] in
    omega (arith, rows_of-append x n xs ys, times-append x here (rows_of n (xs ++ ys)), times-append x here (rows_of n xs))

rows_of-batch_of : (x m n : ℕ) (xs : List ℕ) → times x (rows_of m (batch_of n xs)) ≡ times x (cond (eqb n m) xs [])
rows_of-batch_of x m n [] = omega (arith, part x (eqb n m) [])
rows_of-batch_of x m n (y ∷ ys) = omega (arith, times-append x (cond (eqb n m) (y ∷ ys) []) [])

rows_of-two : (x m n : ℕ) (bs : List Batch) → m ≢ n → times x (rows_of m bs) + times x (rows_of n bs) ≤ times x (rows_in bs)
rows_of-two x m n [] apart = omega arith
rows_of-two x m n (b ∷ bs) apart =
    let rest = rows_of-two x m n bs apart in
    let p = times-append x (cond (eqb b.0 m) b.1 []) (rows_of m bs) in
    let q = times-append x (cond (eqb b.0 n) b.1 []) (rows_of n bs) in
    let all = times-append x b.1 (rows_in bs) in
    ⊎_elim
    (λ e.
    let none : times x (cond (eqb b.0 n) b.1 []) ≡ 0 = ap (λ t. times x (cond t b.1 [])) (ne_eqb b.0 n (λ f. apart (sym e ∙ f))) in
    let one = part x (eqb b.0 m) b.1 in omega arith)
    (λ other.
    let none : times x (cond (eqb b.0 m) b.1 []) ≡ 0 = ap (λ t. times x (cond t b.1 [])) (ne_eqb b.0 m other) in
    let one = part x (eqb b.0 n) b.1 in omega arith)
    (cases_eq b.0 m)

-- the rows of a version's batches are rows of batches
pub rows_of-le : (x n : ℕ) (bs : List Batch) → times x (rows_of n bs) ≤ times x (rows_in bs)
rows_of-le x n bs = (let both = rows_of-two x n (suc n) bs (λ e. absurd (omega arith)) in omega arith)

rows_of-batch : (x i : ℕ) (bs : List Batch) (b : Batch) → get_elem? bs i ≡ some b → times x b.1 ≤ times x (rows_of b.0 bs)
rows_of-batch x i [] b here = absurd (some-ne-none b (sym here))
rows_of-batch x zero (c ∷ bs) b here =
    let e = some-injective c b here in
    let all = times-append x (cond (eqb c.0 b.0) c.1 []) (rows_of b.0 bs) in
    let own : times x (cond (eqb c.0 b.0) c.1 []) ≡ times x c.1 = ap (λ t. times x (cond t c.1 [])) (eq-eqb c.0 b.0 (ap (λ (y : Batch). y.0) e)) in
    let same : times x c.1 ≡ times x b.1 = ap (λ (y : Batch). times x y.1) e in omega arith
rows_of-batch x (suc i) (c ∷ bs) b here =
    let rest = rows_of-batch x i bs b here in
    let all = times-append x (cond (eqb c.0 b.0) c.1 []) (rows_of b.0 bs) in omega arith

rows_of-without_row : (x r n : ℕ) (bs : List Batch) → x ≢ r → times x (rows_of n (without_row r bs)) ≡ times x (rows_of n bs)
rows_of-without_row x r n [] apart = refl
rows_of-without_row x r n (b ∷ bs) apart =
    let rest = rows_of-without_row x r n bs apart in
    let one = cond-times x (eqb b.0 n) (without (r ∷ []) b.1) b.1 (times-without_kept x (r ∷ []) b.1 (not_in_one x r apart)) in
    let here : List ℕ = cond (eqb b.0 n) b.1 [] in
    omega (arith, rows_of-append x n (batch_of b.0 (without (r ∷ []) b.1)) (without_row r bs), rows_of-batch_of x n b.0 (without (r ∷ []) b.1), times-append x here (rows_of n bs))

rows_of-row_gone : (r n : ℕ) (bs : List Batch) → times r (rows_of n (without_row r bs)) ≡ 0
rows_of-row_gone r n bs = omega (arith, rows_of-le r n (without_row r bs), times-rows_in-row_gone r bs)

-- what is retired later comes behind both
pub batched_append : (ps qs : List (ℕ × ℕ)) (bs cs : List Batch) → AreBatched ps bs → AreBatched qs cs → AreBatched (ps ++ qs) (bs ++ cs)
batched_append ps qs bs cs first second n x =
    omega (arith, counted_by n x (ps ++ qs), total-append (is_pair n x) ps qs, counted_by n x ps, counted_by n x qs, rows_of-append x n bs cs, first n x, second n x)

-- the pairs of one version with these rows
marked_pairs : (m n x : ℕ) (marks : List ℕ) → total (is_pair m x) (map (λ (r : ℕ). (n, r)) marks) ≡ times x (cond (eqb n m) marks [])
marked_pairs m n x [] = omega (arith, part x (eqb n m) [])
marked_pairs m n x (r ∷ rs) = let rest = marked_pairs m n x rs in rest_of (eqb n m) rest
  where
    rest_of : (b : Bool) → total (is_pair m x) (map (λ (s : ℕ). (n, s)) rs) ≡ times x (cond b rs [])
        → cond b (times x (r ∷ [])) 0 + total (is_pair m x) (map (λ (s : ℕ). (n, s)) rs) ≡ times x (cond b (r ∷ rs) [])
    rest_of true e = omega arith
    rest_of false e = omega arith

-- the same rows are retired at one version as pairs and as a batch
pub batched_more : (n : ℕ) (marks xs : List ℕ) (ps : List (ℕ × ℕ)) (bs : List Batch) → ((x : ℕ) → times x marks ≡ times x xs) → AreBatched ps bs
    → AreBatched (ps ++ map (λ (r : ℕ). (n, r)) marks) (bs ++ batch_of n xs)
batched_more n marks xs ps bs same batched =
    batched_append ps (map (λ (r : ℕ). (n, r)) marks) bs (batch_of n xs) batched
    (λ m x. counted_by m x (map (λ (r : ℕ). (n, r)) marks) ∙ marked_pairs m n x marks ∙ cond-times x (eqb n m) marks xs (same x) ∙ sym (rows_of-batch_of x m n xs))

pair_here : (p : ℕ × ℕ) → is_pair p.0 p.1 p ≡ 1
pair_here p = ap (λ t. cond t (times p.1 (p.1 ∷ [])) 0) (eq-eqb p.0 p.0 refl) ∙ times-head p.1 []

pair_other : (n x : ℕ) (p : ℕ × ℕ) → x ≢ p.1 → is_pair n x p ≡ 0
pair_other n x p apart = by_test (eqb p.0 n)
  where
    by_test : (b : Bool) → let m : ℕ = cond b (times x (p.1 ∷ [])) 0 in m ≡ 0
    by_test true = not_in_one x p.1 apart
    by_test false = refl

-- the row of a pair stands in a batch of the pair's version
pub batched_in : (ps : List (ℕ × ℕ)) (bs : List Batch) (i n x : ℕ) → AreBatched ps bs → get_elem? ps i ≡ some (n, x) → In x (rows_of n bs)
batched_in ps bs i n x batched here =
    (let one = pair_here (n, x) in omega (arith, batched n x, counted_by n x ps, total-le (is_pair n x) ps i (n, x) here))

-- a row that stands once, in the first pair, is taken out of its batch with that pair
pub batched_less : (p : ℕ × ℕ) (ps : List (ℕ × ℕ)) (bs : List Batch) → times p.1 (rows_in bs) ≤ 1 → AreBatched (p ∷ ps) bs → AreBatched ps (without_row p.1 bs)
batched_less p ps bs once batched n x =
    let was : times x (rows_at n (p ∷ ps)) ≡ is_pair n x p + total (is_pair n x) ps = counted_by n x (p ∷ ps) in
    let now = counted_by n x ps in
    let same = batched n x in
    ⊎_elim
    (λ e.
    let F : ℕ → Type 0 = λ y. times y (rows_of n (without_row p.1 bs)) ≡ 0 in
    let gone = subst F (sym e) (rows_of-row_gone p.1 n bs) in
    let G : ℕ → Type 0 = λ y. times y (rows_in bs) ≤ 1 in
    let most = subst G (sym e) once in
    ⊎_elim
    (λ v.
    let le = rows_of-le x n bs in
    let here : is_pair n x p ≡ 1 = ap (λ m. is_pair m x p) (sym v) ∙ ap (λ y. is_pair p.0 y p) e ∙ pair_here p in omega arith)
    (λ w.
    let none : is_pair n x p ≡ 0 = ap (λ t. cond t (times x (p.1 ∷ [])) 0) (ne_eqb p.0 n w) in
    let two = rows_of-two x p.0 n bs w in
    let there : is_pair p.0 x p ≡ 1 = ap (λ y. is_pair p.0 y p) e ∙ pair_here p in
    let other : times x (rows_at p.0 (p ∷ ps)) ≡ is_pair p.0 x p + total (is_pair p.0 x) ps = counted_by p.0 x (p ∷ ps) in
    omega (arith, batched p.0 x))
    (cases_eq p.0 n))
    (λ apart. (let none = pair_other n x p apart in omega (arith, rows_of-without_row x p.1 n bs apart)))
    (cases_eq x p.1)

-- a row of a batch of a version shows that there is a batch of that version
pub version_there : (x n : ℕ) (bs : List Batch) → In x (rows_of n bs) → In n (versions_of bs)
version_there x n [] here = absurd (omega arith)
version_there x n (b ∷ bs) here =
    ⊎_elim
    (λ e. subst (λ m. In n (m ∷ versions_of bs)) (sym e) (in_head n (versions_of bs)))
    (λ apart.
    let none : times x (cond (eqb b.0 n) b.1 []) ≡ 0 = ap (λ t. times x (cond t b.1 [])) (ne_eqb b.0 n apart) in
    in_tail n b.0 (versions_of bs) (version_there x n bs (omega (arith, times-append x (cond (eqb b.0 n) b.1 []) (rows_of n bs)))))
    (cases_eq b.0 n)

-- a pair that is counted stands at some place
found_pair : (n x : ℕ) (ps : List (ℕ × ℕ)) → 0 < total (is_pair n x) ps → (i : ℕ) × (get_elem? ps i ≡ some (n, x))
found_pair n x [] here = absurd (omega arith)
found_pair n x (p ∷ ps) here =
    ⊎_elim
    (λ first. (0, ap some (same_pair first)))
    (λ later. let rest = found_pair n x ps later in (suc rest.0, rest.1))
    (one_of_two (is_pair n x p) (total (is_pair n x) ps) here)
  where
    same_pair : 0 < is_pair n x p → p ≡ (n, x)
    same_pair some_there =
        ⊎_elim
        (λ v. ⊎_elim
        (λ e. ap (λ m. (m, p.1)) v ∙ ap (λ y. (n, y)) (sym e))
        (λ apart. absurd (let none = pair_other n x p apart in omega arith))
        (cases_eq x p.1))
        (λ w. absurd (let none : is_pair n x p ≡ 0 = ap (λ t. cond t (times x (p.1 ∷ [])) 0) (ne_eqb p.0 n w) in omega arith))
        (cases_eq p.0 n)

-- a row of a batch of a version has a pair of that version
pub batched_back : (ps : List (ℕ × ℕ)) (bs : List Batch) (n x : ℕ) → AreBatched ps bs → In x (rows_of n bs) → (i : ℕ) × (get_elem? ps i ≡ some (n, x))
batched_back ps bs n x batched here = found_pair n x ps (omega (arith, batched n x, counted_by n x ps))

-- the batches as pairs
pairs_of : List Batch → List (ℕ × ℕ)
pairs_of [] = []
pairs_of (b ∷ bs) = map (λ (r : ℕ). (b.0, r)) b.1 ++ pairs_of bs

pairs_of-counted : (n x : ℕ) (bs : List Batch) → total (is_pair n x) (pairs_of bs) ≡ times x (rows_of n bs)
unfolding pairs_of
pairs_of-counted n x [] = refl
pairs_of-counted n x (b ∷ bs) =
    omega (arith, total-append (is_pair n x) (map (λ (r : ℕ). (b.0, r)) b.1) (pairs_of bs), marked_pairs n b.0 x b.1, pairs_of-counted n x bs, times-append x (cond (eqb b.0 n) b.1 []) (rows_of n bs))

length-rows : (n : ℕ) (xs : List ℕ) → length {A = ℕ × ℕ} (map (λ (r : ℕ). (n, r)) xs) ≡ length xs
length-rows n [] = refl
length-rows n (x ∷ xs) = ap suc (length-rows n xs)

pairs_of-length : (bs : List Batch) → length (pairs_of bs) ≡ length (rows_in bs)
unfolding pairs_of
pairs_of-length [] = refl
pairs_of-length (b ∷ bs) =
    omega (arith, length-append (map (λ (r : ℕ). (b.0, r)) b.1) (pairs_of bs), length-rows b.0 b.1, length-append b.1 (rows_in bs), pairs_of-length bs)

-- a list without one pair that stands in it
without_one : (p : ℕ × ℕ) (ps : List (ℕ × ℕ)) (i : ℕ) → get_elem? ps i ≡ some p
    → (qs : List (ℕ × ℕ)) × (length ps ≡ suc (length qs)) × ((n x : ℕ) → total (is_pair n x) ps ≡ is_pair n x p + total (is_pair n x) qs)
without_one p [] i here = absurd (some-ne-none p (sym here))
without_one p (q ∷ ps) zero here = (ps, refl, λ n x. ap (λ r. is_pair n x r + total (is_pair n x) ps) (some-injective q p here))
without_one p (q ∷ ps) (suc i) here =
    let rest = without_one p ps i here in (q ∷ rest.0, ap suc rest.1, λ n x. (let same = rest.2 n x in omega arith))

-- two lists of pairs with the same counts are equally long
same_length : (ps qs : List (ℕ × ℕ)) → ((n x : ℕ) → total (is_pair n x) ps ≡ total (is_pair n x) qs) → length ps ≡ length qs
same_length [] [] same = refl
same_length [] (q ∷ qs) same = absurd (let one = pair_here q in let none = same q.0 q.1 in omega arith)
same_length (p ∷ ps) qs same =
    let one = pair_here p in
    let there = found_pair p.0 p.1 qs (let count = same p.0 p.1 in omega arith) in
    let rest = without_one p qs there.0 there.1 in
    let left = same_length ps rest.0 (λ n x. (let all = same n x in let less = rest.2 n x in omega arith)) in
    omega (arith, rest.1)

-- there are as many pairs as rows in batches
pub batched_length : (ps : List (ℕ × ℕ)) (bs : List Batch) → AreBatched ps bs → length ps ≡ length (rows_in bs)
batched_length ps bs batched =
    same_length ps (pairs_of bs) (λ n x. sym (counted_by n x ps) ∙ batched n x ∙ sym (pairs_of-counted n x bs)) ∙ pairs_of-length bs

-- a row of a batch that the least reserved version clears
pub cleared_any : (x n : ℕ) (least : Option ℕ) (bs : List Batch) → In x (rows_of n bs) → clears least n ≡ true → list_any (λ b. is_in x b.1 && clears least b.0) bs ≡ true
cleared_any x n least [] here cleared = absurd (omega arith)
cleared_any x n least (b ∷ bs) here cleared =
    ⊎_elim
    (λ first. or_left (is_in x b.1 && clears least b.0) (list_any (λ y. is_in x y.1 && clears least y.0) bs) (own first))
    (λ later. or_right (is_in x b.1 && clears least b.0) (list_any (λ y. is_in x y.1 && clears least y.0) bs) (cleared_any x n least bs later cleared))
    (one_of_two (times x (cond (eqb b.0 n) b.1 [])) (times x (rows_of n bs)) (omega (arith, times-append x (cond (eqb b.0 n) b.1 []) (rows_of n bs))))
  where
    own : In x (cond (eqb b.0 n) b.1 []) → (is_in x b.1 && clears least b.0) ≡ true
    own first =
        ⊎_elim
        (λ e.
        let in_it : In x b.1 = (let le = part x (eqb b.0 n) b.1 in omega arith) in
        ap (λ t. t && clears least b.0) (lt-ltb 0 (times x b.1) in_it) ∙ ap (clears least) e ∙ cleared)
        (λ apart. absurd (let none : times x (cond (eqb b.0 n) b.1 []) ≡ 0 = ap (λ t. times x (cond t b.1 [])) (ne_eqb b.0 n apart) in omega arith))
        (cases_eq b.0 n)

-- a row that is not there leaves a list as it is
without_same : (r : ℕ) (xs : List ℕ) → times r xs ≡ 0 → without (r ∷ []) xs ≡ xs
without_same r [] none = refl
without_same r (x ∷ xs) none =
    let apart : x ≢ r = λ e. absurd (let one = times-head r xs in let same : times r (x ∷ xs) ≡ times r (r ∷ xs) = ap (λ y. times r (y ∷ xs)) e in omega arith) in
    let stays : is_in x (r ∷ []) ≡ false = le-ltb 0 (times x (r ∷ [])) (let h = not_in_one x r apart in omega arith) in
    ap (λ b. cond (not b) (x ∷ without (r ∷ []) xs) (without (r ∷ []) xs)) stays
    ∙ ap (λ ys. x ∷ ys) (without_same r xs (omega arith))

-- the last row of a list, which stands there once, is dropped
pub without_last : (r : ℕ) (xs : List ℕ) → times r (xs ++ r ∷ []) ≤ 1 → without (r ∷ []) (xs ++ r ∷ []) ≡ xs
without_last r xs once =
    let none : times r xs ≡ 0 = (let parts = times-append r xs (r ∷ []) in let one = times-head r [] in omega arith) in
    let gone : without (r ∷ []) (r ∷ []) ≡ [] = ap (λ b. cond (not b) (r ∷ []) []) (lt-ltb 0 (times r (r ∷ [])) (in_head r [])) in
    filter-append (λ x. not (is_in x (r ∷ []))) xs (r ∷ [])
    ∙ ap (λ ys. ys ++ without (r ∷ []) (r ∷ [])) (without_same r xs none)
    ∙ ap (λ ys. xs ++ ys) gone
    ∙ append-nil xs

module _ (least : Option ℕ) where
  blocked-append : (xs ys : List Batch) → blocked least (xs ++ ys) ≡ blocked least xs ++ blocked least ys
  blocked-append [] ys = refl
  blocked-append (b ∷ xs) ys =
      ap (λ zs. cond (clears least b.0) [] (batch_of b.0 b.1) ++ zs) (blocked-append xs ys)
      ∙ sym (append_assoc (cond (clears least b.0) [] (batch_of b.0 b.1)) (blocked least xs) (blocked least ys))

  blocked-one : (n : ℕ) (rows : List ℕ) → blocked least (batch_of n rows) ≡ cond (clears least n) [] (batch_of n rows)
  blocked-one n [] = by_test (clears least n)
    where
      by_test : (t : Bool) → [] ≡ cond t [] (batch_of n [])
      by_test true = refl
      by_test false = refl
  blocked-one n (r ∷ rs) = by_test (clears least n)
    where
      by_test : (t : Bool) → cond t [] (batch_of n (r ∷ rs)) ++ [] ≡ cond t [] (batch_of n (r ∷ rs))
      by_test true = refl
      by_test false = refl

  -- a row that no blocked batch has leaves the blocked batches as they are
  blocked-kept : (r : ℕ) (bs : List Batch) → ((i : ℕ) (b : Batch) → get_elem? bs i ≡ some b → clears least b.0 ≡ false → times r b.1 ≡ 0)
      → blocked least (without_row r bs) ≡ blocked least bs
  blocked-kept r [] none = refl
  blocked-kept r (b ∷ bs) none =
      blocked-append (batch_of b.0 (without (r ∷ []) b.1)) (without_row r bs)
      ∙ ap (λ zs. zs ++ blocked least (without_row r bs)) (blocked-one b.0 (without (r ∷ []) b.1) ∙ by_test (clears least b.0) refl)
      ∙ ap (λ zs. cond (clears least b.0) [] (batch_of b.0 b.1) ++ zs) (blocked-kept r bs (λ i c here. none (suc i) c here))
    where
      by_test : (t : Bool) → clears least b.0 ≡ t → cond t [] (batch_of b.0 (without (r ∷ []) b.1)) ≡ cond t [] (batch_of b.0 b.1)
      by_test true is = refl
      by_test false is = ap (batch_of b.0) (without_same r b.1 (none zero b refl is))

  -- a row that stands once, in a batch that is cleared, leaves the blocked batches as they are
  pub blocked-freed : (r n : ℕ) (bs : List Batch) → In r (rows_of n bs) → clears least n ≡ true → times r (rows_in bs) ≤ 1 → blocked least (without_row r bs) ≡ blocked least bs
  blocked-freed r n bs here cleared once =
      blocked-kept r bs (λ i b there is.
      let apart : n ≢ b.0 = λ e. true_false (sym cleared ∙ ap (clears least) e ∙ is) in
      let two = rows_of-two r n b.0 bs apart in
      let one = rows_of-batch r i bs b there in omega arith)
    where
      true_false : true ≡ false → ⊥
      true_false e = subst (λ b. cond b (Unit {0}) ⊥) e tt

  -- where each batch has a row and is blocked, all of them are
  pub blocked-all : (bs : List Batch) → ((i : ℕ) (b : Batch) → get_elem? bs i ≡ some b → (clears least b.0 ≡ false) × (0 < length b.1)) → blocked least bs ≡ bs
  blocked-all [] all = refl
  blocked-all (b ∷ bs) all =
      let here = all zero b refl in
      ap (λ t. cond t [] (batch_of b.0 b.1) ++ blocked least bs) here.0
      ∙ ap (λ zs. batch_of b.0 b.1 ++ zs) (blocked-all bs (λ i c there. all (suc i) c there))
      ∙ by_rows b.1 here.1 refl
    where
      by_rows : (rows : List ℕ) → 0 < length rows → b.1 ≡ rows → batch_of b.0 b.1 ++ bs ≡ b ∷ bs
      by_rows [] some_row is = absurd (omega arith)
      by_rows (r ∷ rs) some_row is = ap (λ xs. batch_of b.0 xs ++ bs) is ∙ ap (λ xs. (b.0, xs) ∷ bs) (sym is)

-- each batch has a row
abbrev pub AreFilled : List Batch → Type 0
AreFilled bs = (i : ℕ) (b : Batch) → get_elem? bs i ≡ some b → 0 < length b.1

-- so it is where a row was taken out
pub filled_still : (r : ℕ) (bs : List Batch) → AreFilled (without_row r bs)
filled_still r [] i b here = absurd (some-ne-none b (sym here))
filled_still r (c ∷ bs) i b here = by_rows (λ n there. filled_still r bs n b there) (without (r ∷ []) c.1) i here
  where
    by_rows : ((n : ℕ) → get_elem? (without_row r bs) n ≡ some b → 0 < length b.1)
        → (rows : List ℕ) (n : ℕ) → get_elem? (batch_of c.0 rows ++ without_row r bs) n ≡ some b → 0 < length b.1
    by_rows rest [] n there = rest n there
    by_rows rest (x ∷ xs) zero there = (let e = ap (λ (y : Batch). length y.1) (some-injective (c.0, x ∷ xs) b there) in omega arith)
    by_rows rest (x ∷ xs) (suc n) there = rest n there

pub filled_append : (bs cs : List Batch) → AreFilled bs → AreFilled cs → AreFilled (bs ++ cs)
filled_append bs cs first second i b here = ⊎_elim (λ mine. first i b mine) (λ theirs. second theirs.0 b theirs.1) (at_either bs cs i b here)

pub filled_batch : (n : ℕ) (rows : List ℕ) → AreFilled (batch_of n rows)
filled_batch n [] i b here = absurd (some-ne-none b (sym here))
filled_batch n (r ∷ rs) zero b here = (let e = ap (λ (y : Batch). length y.1) (some-injective (n, r ∷ rs) b here) in omega arith)
filled_batch n (r ∷ rs) (suc i) b here = absurd (some-ne-none b (sym here))

-- where each pair is of a blocked version and each batch has a row, no batch is to be freed
pub blocked-pairs : (least : Option ℕ) (ps : List (ℕ × ℕ)) (bs : List Batch) → AreBatched ps bs → AreFilled bs
    → ((i : ℕ) (p : ℕ × ℕ) → get_elem? ps i ≡ some p → clears least p.0 ≡ false) → blocked least bs ≡ bs
blocked-pairs least ps bs batched filled all =
    blocked-all least bs (λ i b there.
    let row = first_row b.1 (filled i b there) in
    let pair = batched_back ps bs b.0 row.0 batched (let one = rows_of-batch row.0 i bs b there in let here = row.1 in omega arith) in
    (all pair.0 (b.0, row.0) pair.1, filled i b there))
  where
    first_row : (rows : List ℕ) → 0 < length rows → (r : ℕ) × In r rows
    first_row [] some_row = absurd (omega arith)
    first_row (r ∷ rs) some_row = (r, in_head r rs)
