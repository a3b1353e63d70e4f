-- The neighbours from one item on, and from the next one on.
use Rattle.std.proofs.Common.{◌≡◌, ℕ, ◌+◌, ◌<◌, ◌≤◌, ℤ, Bool, true, false, cond, not, List, [], ◌∷◌, ◌++◌, Option, Some, None, is_some, IfNone, option_to_list, map, drop, refl, ap, sym, ◌∙◌}
use Rattle.std.specs.List.{range_with_len, filter, flat_map}
use Rattle.std.proofs.lemmas.List.{append_assoc}
use Rattle.pls_vectors.specs.Solution.{Solution, chosen, with_item}
use Rattle.pls_knapsack.specs.Instance.{Instance, items_of, feasible}
use Rattle.pls_knapsack.specs.Neighbours.{flipped, exchanges_of, point, points}
use Rattle.pls_knapsack.specs.Walk.{point_if_feasible}
use Rattle.pls_vectors.proofs.Ranges.{drop-range, drop-range_end}

-- the points of one more choice, and of two lists
pub points-cons :
    (k : Instance) (q : Solution) (choices : List Solution)
    → points k (q ∷ choices) ≡ option_to_list (point_if_feasible k q) ++ points k choices
unfolding points
points-cons k q choices =
    let rest = filter (λ p. feasible k p) choices in
    elim (feasible k q) as (λ (b : Bool). map (λ p. point k p) (cond b (q ∷ rest) rest)
    ≡ option_to_list (cond b (Some (point k q)) None) ++ map (λ p. point k p) rest) [
      | true ↦ refl
      | false ↦ refl
    ]

pub points-nil : (k : Instance) → points k [] ≡ []
unfolding points
points-nil k = refl

pub points-append :
    (k : Instance) (front back : List Solution) → points k (front ++ back) ≡ points k front ++ points k back
points-append k [] back = ap (λ front. front ++ points k back) (sym (points-nil k))
points-append k (q ∷ front) back =
    points-cons k q (front ++ back)
    ∙ (ap (λ rest. option_to_list (point_if_feasible k q) ++ rest) (points-append k front back)
    ∙ (sym (append_assoc (option_to_list (point_if_feasible k q)) (points k front) (points k back))
    ∙ ap (λ front. front ++ points k back) (sym (points-cons k q front))))

-- the flips from item i on
abbrev pub flips_from : ℕ → Solution → ℕ → List Solution
flips_from n s i = map (λ j. flipped s j) (drop i (range_with_len 0 n))

pub flips_from-more :
    (k : Instance) (s : Solution) (i : ℕ) → i < k.items
    → points k (flips_from k.items s i) ≡ option_to_list (point_if_feasible k (flipped s i)) ++ points k (flips_from k.items s (i + 1))
flips_from-more k s i below =
    ap (λ items. points k (map (λ j. flipped s j) items)) (drop-range k.items i below)
    ∙ points-cons k (flipped s i) (flips_from k.items s (i + 1))

pub flips_from-end : (n : ℕ) (s : Solution) (i : ℕ) → n ≤ i → flips_from n s i ≡ []
flips_from-end n s i past = ap (λ items. map (λ j. flipped s j) items) (drop-range_end n i past)

-- the choice r with an item from j on put in that s has not chosen
abbrev pub puts_from : ℕ → Solution → Solution → ℕ → List Solution
puts_from n s r j = map (λ m. with_item r m true) (filter (λ m. not (chosen s m)) (drop j (range_with_len 0 n)))

-- the exchanges of the chosen items from i on
abbrev pub exchanges_from : Instance → Solution → ℕ → List Solution
exchanges_from k s i = flat_map (λ m. exchanges_of k s m) (filter (λ m. chosen s m) (drop i (items_of k)))

puts_from-step :
    (n : ℕ) (s r : Solution) (j : ℕ) → j < n
    → puts_from n s r j ≡ map (λ m. with_item r m true) (cond (not (chosen s j)) (j ∷ filter (λ m. not (chosen s m)) (drop (j + 1) (range_with_len 0 n))) (filter (λ m. not (chosen s m)) (drop (j + 1) (range_with_len 0 n))))
puts_from-step n s r j below =
    ap (λ items. map (λ m. with_item r m true) (filter (λ m. not (chosen s m)) items)) (drop-range n j below)

-- an item that is chosen is skipped
pub puts_from-chosen :
    (n : ℕ) (s r : Solution) (j : ℕ) → j < n → chosen s j ≡ true → puts_from n s r j ≡ puts_from n s r (j + 1)
puts_from-chosen n s r j below taken =
    puts_from-step n s r j below
    ∙ ap (λ b. map (λ m. with_item r m true) (cond (not b) (j ∷ filter (λ m. not (chosen s m)) (drop (j + 1) (range_with_len 0 n))) (filter (λ m. not (chosen s m)) (drop (j + 1) (range_with_len 0 n))))) taken

-- one that is not chosen is tried
pub puts_from-free :
    (n : ℕ) (s r : Solution) (j : ℕ) → j < n → chosen s j ≡ false
    → puts_from n s r j ≡ with_item r j true ∷ puts_from n s r (j + 1)
puts_from-free n s r j below free =
    puts_from-step n s r j below
    ∙ ap (λ b. map (λ m. with_item r m true) (cond (not b) (j ∷ filter (λ m. not (chosen s m)) (drop (j + 1) (range_with_len 0 n))) (filter (λ m. not (chosen s m)) (drop (j + 1) (range_with_len 0 n))))) free

pub puts_from-end : (n : ℕ) (s r : Solution) (j : ℕ) → n ≤ j → puts_from n s r j ≡ []
puts_from-end n s r j past =
    ap (λ items. map (λ m. with_item r m true) (filter (λ m. not (chosen s m)) items)) (drop-range_end n j past)

-- the points of the exchanges, where an item is tried
pub puts_from-more :
    (k : Instance) (s r : Solution) (j : ℕ) (behind : List Solution) → j < k.items → chosen s j ≡ false
    → points k (puts_from k.items s r j ++ behind)
    ≡ option_to_list (point_if_feasible k (with_item r j true)) ++ points k (puts_from k.items s r (j + 1) ++ behind)
puts_from-more k s r j behind below free =
    ap (λ choices. points k (choices ++ behind)) (puts_from-free k.items s r j below free)
    ∙ points-cons k (with_item r j true) (puts_from k.items s r (j + 1) ++ behind)

-- the exchanges from an item on that is not chosen, and from one that is
pub exchanges_from-free :
    (k : Instance) (s : Solution) (i : ℕ) → i < k.items → chosen s i ≡ false
    → exchanges_from k s i ≡ exchanges_from k s (i + 1)
exchanges_from-free k s i below free =
    ap (λ items. flat_map (λ m. exchanges_of k s m) (filter (λ m. chosen s m) items)) (drop-range k.items i below)
    ∙ ap (λ b. flat_map (λ m. exchanges_of k s m) (cond b (i ∷ filter (λ m. chosen s m) (drop (i + 1) (items_of k))) (filter (λ m. chosen s m) (drop (i + 1) (items_of k))))) free

pub exchanges_from-chosen :
    (k : Instance) (s : Solution) (i : ℕ) → i < k.items → chosen s i ≡ true
    → exchanges_from k s i ≡ puts_from k.items s (with_item s i false) 0 ++ exchanges_from k s (i + 1)
exchanges_from-chosen k s i below taken =
    ap (λ items. flat_map (λ m. exchanges_of k s m) (filter (λ m. chosen s m) items)) (drop-range k.items i below)
    ∙ ap (λ b. flat_map (λ m. exchanges_of k s m) (cond b (i ∷ filter (λ m. chosen s m) (drop (i + 1) (items_of k))) (filter (λ m. chosen s m) (drop (i + 1) (items_of k))))) taken

pub exchanges_from-end : (k : Instance) (s : Solution) (i : ℕ) → k.items ≤ i → exchanges_from k s i ≡ []
exchanges_from-end k s i past =
    ap (λ items. flat_map (λ m. exchanges_of k s m) (filter (λ m. chosen s m) items)) (drop-range_end k.items i past)

-- a step of a walk that gives a point, or none
nothing : {X : Type 0} (o : Option X) → is_some o ≡ false → option_to_list o ≡ []
nothing None none = refl
nothing (Some x) none = cc

pub flips_from-given :
    (k : Instance) (s : Solution) (i : ℕ) (given : Option (List ℤ × Solution)) → i < k.items
    → given ≡ point_if_feasible k (flipped s i)
    → points k (flips_from k.items s i) ≡ option_to_list given ++ points k (flips_from k.items s (i + 1))
flips_from-given k s i given below is =
    flips_from-more k s i below ∙ ap (λ o. option_to_list o ++ points k (flips_from k.items s (i + 1))) (sym is)

pub flips_from-none :
    (k : Instance) (s : Solution) (i : ℕ) (given : Option (List ℤ × Solution)) → i < k.items
    → given ≡ point_if_feasible k (flipped s i) → is_some given ≡ false
    → points k (flips_from k.items s (i + 1)) ≡ points k (flips_from k.items s i)
flips_from-none k s i given below is none =
    sym (flips_from-given k s i given below is ∙ ap (λ front. front ++ points k (flips_from k.items s (i + 1))) (nothing given none))

pub puts_from-given :
    (k : Instance) (s r : Solution) (j : ℕ) (behind : List Solution) (given : Option (List ℤ × Solution)) → j < k.items
    → chosen s j ≡ false → given ≡ point_if_feasible k (with_item r j true)
    → points k (puts_from k.items s r j ++ behind) ≡ option_to_list given ++ points k (puts_from k.items s r (j + 1) ++ behind)
puts_from-given k s r j behind given below free is =
    puts_from-more k s r j behind below free
    ∙ ap (λ o. option_to_list o ++ points k (puts_from k.items s r (j + 1) ++ behind)) (sym is)

pub puts_from-none :
    (k : Instance) (s r : Solution) (j : ℕ) (behind : List Solution) (given : Option (List ℤ × Solution)) → j < k.items
    → chosen s j ≡ false → given ≡ point_if_feasible k (with_item r j true) → is_some given ≡ false
    → points k (puts_from k.items s r (j + 1) ++ behind) ≡ points k (puts_from k.items s r j ++ behind)
puts_from-none k s r j behind given below free is none =
    sym (puts_from-given k s r j behind given below free is
    ∙ ap (λ front. front ++ points k (puts_from k.items s r (j + 1) ++ behind)) (nothing given none))

pub puts_from-skip :
    (k : Instance) (s r : Solution) (j : ℕ) (behind : List Solution) → j < k.items → chosen s j ≡ true
    → points k (puts_from k.items s r (j + 1) ++ behind) ≡ points k (puts_from k.items s r j ++ behind)
puts_from-skip k s r j behind below taken =
    ap (λ choices. points k (choices ++ behind)) (sym (puts_from-chosen k.items s r j below taken))

-- the exchanges of an item are done: what comes with the next one
pub exchanges-take :
    (k : Instance) (s r : Solution) (j i : ℕ) → k.items ≤ j → i < k.items → chosen s i ≡ true
    → puts_from k.items s r j ++ exchanges_from k s i
    ≡ puts_from k.items s (with_item s i false) 0 ++ exchanges_from k s (i + 1)
exchanges-take k s r j i done below taken =
    ap (λ choices. choices ++ exchanges_from k s i) (puts_from-end k.items s r j done) ∙ exchanges_from-chosen k s i below taken

pub exchanges-skip :
    (k : Instance) (s r : Solution) (j i : ℕ) → i < k.items → chosen s i ≡ false
    → puts_from k.items s r j ++ exchanges_from k s i ≡ puts_from k.items s r j ++ exchanges_from k s (i + 1)
exchanges-skip k s r j i below free = ap (λ choices. puts_from k.items s r j ++ choices) (exchanges_from-free k s i below free)

pub exchanges-end :
    (k : Instance) (s r : Solution) (j i : ℕ) → k.items ≤ j → k.items ≤ i
    → puts_from k.items s r j ++ exchanges_from k s i ≡ []
exchanges-end k s r j i done past =
    ap (λ choices. choices ++ exchanges_from k s i) (puts_from-end k.items s r j done) ∙ exchanges_from-end k s i past

-- what a step leaves: the flips are done, and an exchange was given
pub left-exchange :
    (k : Instance) (flips flips' flips'' exchanges exchanges' exchanges'' : List Solution) (given : Option (List ℤ × Solution))
    → points k flips ≡ points k flips' → flips' ≡ [] → exchanges' ≡ exchanges
    → points k exchanges' ≡ option_to_list given ++ points k exchanges'' → flips'' ≡ flips'
    → points k flips ++ points k exchanges ≡ option_to_list given ++ (points k flips'' ++ points k exchanges'')
left-exchange k flips flips' flips'' exchanges exchanges' exchanges'' given same done others step kept =
    let none : points k flips' ≡ [] = ap (λ choices. points k choices) done ∙ points-nil k in
    let before : points k flips ≡ [] = same ∙ none in
    let after : points k flips'' ≡ [] = ap (λ choices. points k choices) kept ∙ none in
    ap (λ front. front ++ points k exchanges) before
    ∙ (ap (λ choices. points k choices) (sym others)
    ∙ (step ∙ ap (λ front. option_to_list given ++ (front ++ points k exchanges'')) (sym after)))

pub left-nothing :
    (k : Instance) (flips exchanges : List Solution) → flips ≡ [] → exchanges ≡ [] → points k flips ++ points k exchanges ≡ []
left-nothing k flips exchanges no_flips no_exchanges =
    let front : points k flips ≡ [] = ap (λ choices. points k choices) no_flips ∙ points-nil k in
    ap (λ front. front ++ points k exchanges) front ∙ (ap (λ choices. points k choices) no_exchanges ∙ points-nil k)

pub if_none-map : {X P Q : Type 0} (o : Option X) → (P → Q) → IfNone o P → IfNone o Q
if_none-map None f p = f p
if_none-map (Some x) f p = p
