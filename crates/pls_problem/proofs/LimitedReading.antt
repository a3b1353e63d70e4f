-- Instances that are read are within their limits.
use Rattle.std.proofs.Common.{◌≡◌, ◌≤◌, ℕ, zero, suc, ◌&&◌, nat_le, Bool, true, false, List, [], ◌∷◌, ◌++◌, length, replicate, Option, Some, None, Result, Ok, Err, if◌then◌else◌, refl, sym, ap, subst, ◌∙◌, arith}
use Rattle.std.specs.Prelude.{codes}
use Rattle.std.specs.List.{All}
use Rattle.std.specs.Str.{bytes_eq}
use Rattle.std.proofs.lemmas.Bool.{and_parts, leb-true}
use Rattle.std.proofs.lemmas.List.{append-nil}
use Rattle.std.proofs.lemmas.List.Elements.{All-cons}
use Rattle.pls_io.specs.Words.{PlacedWord, words}
use Rattle.pls_vectors.specs.Limits.{Limits}
use Rattle.pls_problem.specs.declared.instance.Instance.{Instance}
use Rattle.pls_problem.specs.declared.kind.Kind.{Kind}
use Rattle.pls_problem.specs.declared.kind.Kind.TheVariants.{Knapsack, Assignment, Tour}
use Rattle.pls_problem.specs.declared.reader.BadInstance.{BadInstance}
use Rattle.pls_problem.specs.declared.reader.BadInstance.TheVariants.{Head, Range}
use Rattle.pls_problem.specs.declared.sizes.Sizes.{Sizes}
use Rattle.pls_problem.specs.Instance.{IsWithinLimits}
use Rattle.pls_problem.specs.Kinds.{kind_named, size_limits, number_limits, instance_of}
use Rattle.pls_problem.specs.Reading.{reading_then, number_of, within, number, numbers, ended_with, sized, of_kind, if_kind, after_head, headed_by, instance}
use Rattle.pls_problem.specs.Sizes.{AreWithinLimits, AreNumbersOf, in_text, capacity_count, amount_count}
use Rattle.pls_problem.proofs.Limited.{instance_of-limits}
use Rattle.pls_problem.proofs.ReadingSteps.{Read}
use Rattle.pls_problem.proofs.ReadingSized.{up_to, small, number_limits-wanted}

-- numbers within these limits, one for each
FitAll : List Limits → List ℕ → Type 0
FitAll [] [] = Unit {0}
FitAll [] (n ∷ ns) = ⊥
FitAll (l ∷ ls) [] = ⊥
FitAll (l ∷ ls) (n ∷ ns) = (l.least ≤ n) × (n ≤ l.most) × FitAll ls ns

-- what a successful reading went through
through :
    {A B : Type 0} (next : A → Result B BadInstance) (r : Result A BadInstance) (b : B) → reading_then next r ≡ Ok b
    → (a : A) × (r ≡ Ok a) × (next a ≡ Ok b)
through next (Ok a) b e = (a, refl, e)
through next (Err fault) b e = cc

same_Ok : {A : Type 0} (x y : A) → ◌≡◌ {A = Result A BadInstance} (Ok x) (Ok y) → x ≡ y
same_Ok x y e = cc

within-fits : (l : Limits) (place : ℕ) (o : Option ℕ) (n : ℕ) → within l place o ≡ Ok n → (l.least ≤ n) × (n ≤ l.most)
within-fits l place None n e = cc
within-fits l place (Some m) n e = by_test (nat_le l.least m && nat_le m l.most) refl e
  where
    by_test :
        (b : Bool) → nat_le l.least m && nat_le m l.most ≡ b → (if b then Ok m else Err (Range place)) ≡ Ok n
        → (l.least ≤ n) × (n ≤ l.most)
    by_test true test is =
        let same : m ≡ n = same_Ok m n is in
        let both = and_parts (nat_le l.least m) (nat_le m l.most) test in
        subst (λ (k : ℕ). (l.least ≤ k) × (k ≤ l.most)) same (leb-true l.least m both.0, leb-true m l.most both.1)
    by_test false test is = cc

number-fits : (end : ℕ) (l : Limits) (ws : List PlacedWord) (n : ℕ) (left : List PlacedWord) → number end l ws ≡ Ok (n, left) → (l.least ≤ n) × (n ≤ l.most)
number-fits end l [] n left e = cc
number-fits end l (w ∷ ws) n left e =
    let read = through (λ (m : ℕ). Ok (m, ws)) (within l w.place (number_of w.text)) (n, left) e in
    let same : read.0 ≡ n = ap (λ (p : ℕ × List PlacedWord). p.0) (same_Ok (read.0, ws) (n, left) read.2) in
    within-fits l w.place (number_of w.text) n (read.1 ∙ ap (λ (k : ℕ). Ok k) same)

numbers-fit : (end : ℕ) (ls : List Limits) (ws : List PlacedWord) (ns : List ℕ) (left : List PlacedWord) → numbers end ls ws ≡ Ok (ns, left) → FitAll ls ns
unfolding FitAll
numbers-fit end [] ws ns left e = subst (FitAll []) (ap (λ (p : Read). p.0) (same_Ok ([], ws) (ns, left) e)) tt
numbers-fit end (l ∷ ls) ws ns left e =
    let (first, one, more) = through (λ (p : ℕ × List PlacedWord). reading_then (λ (others : Read). Ok (p.0 ∷ others.0, others.1)) (numbers end ls p.1)) (number end l ws) (ns, left) e in
    let (others, rest, both) = through (λ (qs : Read). Ok (first.0 ∷ qs.0, qs.1)) (numbers end ls first.1) (ns, left) more in
    let fits = number-fits end l ws first.0 first.1 one in
    subst (FitAll (l ∷ ls)) (ap (λ (p : Read). p.0) (same_Ok (first.0 ∷ others.0, others.1) (ns, left) both))
    (fits.0, fits.1, numbers-fit end ls first.1 others.0 others.1 rest)

-- so many numbers up to a greatest one, and then others
parted-at :
    (n most : ℕ) (ls : List Limits) (ns : List ℕ) → FitAll (replicate n (up_to most) ++ ls) ns
    → (xs : List ℕ) × (ys : List ℕ) × (ns ≡ xs ++ ys) × (length xs ≡ n) × All (λ x. x ≤ most) xs × FitAll ls ys
unfolding FitAll
parted-at zero most ls ns fit = ([], ns, refl, refl, (λ k d inside. absurd (omega arith)), fit)
parted-at (suc n) most ls [] fit = absurd fit
parted-at (suc n) most ls (x ∷ ns) fit =
    let (xs, ys, is, long, few, rest) = parted-at n most ls ns fit.2 in
    (x ∷ xs, ys, ap (λ (zs : List ℕ). x ∷ zs) is, ap suc long, All-cons (λ z. z ≤ most) x xs fit.1 few, rest)

-- numbers as the sizes call for them
numbers_of :
    (s : Sizes) (ns : List ℕ) → FitAll (number_limits s.kind (in_text s)) ns
    → (capacities : List ℕ) × (amounts : List ℕ) × (ns ≡ capacities ++ amounts) × AreNumbersOf s capacities amounts
unfolding FitAll
numbers_of s ns fit =
    let (capacities, rest, is, long, few, later) =
    parted-at (capacity_count s) 1000000000 (replicate (amount_count s) small) ns (subst (λ (ls : List Limits). FitAll ls ns) (number_limits-wanted s) fit) in
    let (amounts, none, all, many, fine, ended) =
    parted-at (amount_count s) 1000000 [] rest (subst (λ (ls : List Limits). FitAll ls rest) (sym (append-nil (replicate (amount_count s) small))) later) in
    let end : none ≡ [] = nothing none ended in (
      capacities,
      amounts,
      is ∙ ap (λ (xs : List ℕ). capacities ++ xs) (all ∙ (ap (λ (xs : List ℕ). amounts ++ xs) end ∙ append-nil amounts)),
      record { capacity_list = long; amount_list = many; small_capacities = few; small_amounts = fine },
    )
  where
    nothing : (xs : List ℕ) → FitAll [] xs → xs ≡ []
    nothing [] fit = refl
    nothing (x ∷ xs) fit = absurd fit

-- the sizes that were read
sizes_of : (kind : Kind) (ns : List ℕ) → FitAll (size_limits kind) ns → (s : Sizes) × (s.kind ≡ kind) × (in_text s ≡ ns) × AreWithinLimits s
unfolding FitAll size_limits
sizes_of Knapsack (d ∷ n ∷ m ∷ []) fit = (
  record { kind = Knapsack; objectives = d; size = n; rules = m },
  refl,
  refl,
  record { some_objectives = fit.0; few_objectives = fit.1; some_size = fit.2.0; small_size = fit.2.1; some_rules = fit.2.2.0; few_rules = fit.2.2.1 },
)
sizes_of Knapsack [] fit = absurd fit
sizes_of Knapsack (d ∷ []) fit = absurd fit.2
sizes_of Knapsack (d ∷ n ∷ []) fit = absurd fit.2.2
sizes_of Knapsack (d ∷ n ∷ m ∷ x ∷ ns) fit = absurd fit.2.2.2
sizes_of Assignment (d ∷ n ∷ []) fit = (
  record { kind = Assignment; objectives = d; size = n; rules = 0 },
  refl,
  refl,
  record { some_objectives = fit.0; few_objectives = fit.1; some_size = fit.2.0; small_size = fit.2.1; some_rules = omega arith; few_rules = omega arith },
)
sizes_of Assignment [] fit = absurd fit
sizes_of Assignment (d ∷ []) fit = absurd fit.2
sizes_of Assignment (d ∷ n ∷ x ∷ ns) fit = absurd fit.2.2
sizes_of Tour (d ∷ n ∷ []) fit = (
  record { kind = Tour; objectives = d; size = n; rules = 0 },
  refl,
  refl,
  record { some_objectives = fit.0; few_objectives = fit.1; some_size = fit.2.0; small_size = fit.2.1; some_rules = omega arith; few_rules = omega arith },
)
sizes_of Tour [] fit = absurd fit
sizes_of Tour (d ∷ []) fit = absurd fit.2
sizes_of Tour (d ∷ n ∷ x ∷ ns) fit = absurd fit.2.2

ended-same : (i j : Instance) (ws : List PlacedWord) → ended_with i ws ≡ Ok j → i ≡ j
ended-same i j [] e = same_Ok i j e
ended-same i j (w ∷ ws) e = cc

sized-limits : (end : ℕ) (s : Sizes) (ws : List PlacedWord) (i : Instance) → AreWithinLimits s → sized end s.kind (in_text s) ws ≡ Ok i → IsWithinLimits i
sized-limits end s ws i sizes e =
    let (rest, read, ended) = through (λ (r : Read). ended_with (instance_of s.kind (in_text s) r.0) r.1) (numbers end (number_limits s.kind (in_text s)) ws) i e in
    let (capacities, amounts, is, fine) = numbers_of s rest.0 (numbers-fit end (number_limits s.kind (in_text s)) ws rest.0 rest.1 read) in
    subst IsWithinLimits
    (ap (instance_of s.kind (in_text s)) (sym is) ∙ ended-same (instance_of s.kind (in_text s) rest.0) i rest.1 ended)
    (instance_of-limits s capacities amounts sizes fine s.kind refl)

of_kind-limits : (end : ℕ) (kind : Kind) (ws : List PlacedWord) (i : Instance) → of_kind end kind ws ≡ Ok i → IsWithinLimits i
of_kind-limits end kind ws i e =
    let (sizes, read, rest) = through (λ (r : Read). sized end kind r.0 r.1) (numbers end (size_limits kind) ws) i e in
    let (s, of, listed, fine) = sizes_of kind sizes.0 (numbers-fit end (size_limits kind) ws sizes.0 sizes.1 read) in
    sized-limits end s sizes.1 i fine
    (ap (λ (k : Kind). sized end k (in_text s) sizes.1) of ∙ (ap (λ (ns : List ℕ). sized end kind ns sizes.1) listed ∙ rest))

if_kind-limits : (end place : ℕ) (kind : Option Kind) (ws : List PlacedWord) (i : Instance) → if_kind end place kind ws ≡ Ok i → IsWithinLimits i
if_kind-limits end place None ws i e = cc
if_kind-limits end place (Some kind) ws i e = of_kind-limits end kind ws i e

after_head-limits : (end : ℕ) (ws : List PlacedWord) (i : Instance) → after_head end ws ≡ Ok i → IsWithinLimits i
after_head-limits end [] i e = cc
after_head-limits end (w ∷ ws) i e = if_kind-limits end w.place (kind_named w.text) ws i e

headed_by-limits : (end : ℕ) (ws : List PlacedWord) (i : Instance) → headed_by end ws ≡ Ok i → IsWithinLimits i
headed_by-limits end [] i e = cc
headed_by-limits end (w ∷ ws) i e = by_head (bytes_eq w.text (codes "pls1")) e
  where
    by_head : (b : Bool) → (if b then after_head end ws else Err (Head w.place)) ≡ Ok i → IsWithinLimits i
    by_head true is = after_head-limits end ws i is
    by_head false is = cc

pub instance-limits : (text : List ℕ) (i : Instance) → instance text ≡ Ok i → IsWithinLimits i
instance-limits text i e = headed_by-limits (length text) (words text) i e
