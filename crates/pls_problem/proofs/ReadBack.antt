-- What was written reads as the numbers that it was written from.
use Rattle.std.proofs.Common.{◌%◌, ◌≡◌, ◌<◌, ◌≤◌, ◌^◌, ◌+◌, ◌*◌, ℕ, zero, suc, true, false, List, [], ◌∷◌, ◌++◌, length, take, drop, replicate, Result, Ok, Option, Some, refl, sym, ap, subst, ◌∙◌, arith, append_assoc, append-nil, ne_eqb, lit<, add-zero, add-one}
use Rattle.std.proofs.lemmas.Bool.{and_from, and_parts, le-leb}
use Rattle.std.proofs.lemmas.Fmt.{decimal_is_IsNumeral, decimal_nonempty, decimal_by_steps}
use Rattle.std.proofs.lemmas.List.{length-append, length-take, length-drop, take_all, replicate-append-replicate}
use Rattle.std.proofs.lemmas.List.Elements.{All-head, All-tail, All-take, All-drop}
use Rattle.std.proofs.Math.Nat.{suc-mul, add-mul}
use Rattle.std.proofs.Math.Seq.{take-add}
use Rattle.std.specs.Char.{is_ascii_digit}
use Rattle.std.specs.Fmt.{decimal}
use Rattle.std.specs.List.{All, list_all}
use Rattle.std.specs.Prelude.{◌==◌, nat_le, codes}
use Rattle.std.specs.Str.{all_ascii_digits}
use Rattle.pls_io.specs.Words.{PlacedWord, is_word_byte, uncommented, words_from}
use Rattle.pls_io.proofs.WordSteps.{words-word}
use Rattle.pls_vectors.specs.Limits.{Limits}
use Rattle.pls_knapsack.specs.Instance as knapsack
use Rattle.pls_knapsack.specs.Instance.{Instance as Items}
use Rattle.pls_perms.specs.Assignment as assignment
use Rattle.pls_perms.specs.Assignment.{AssignmentInstance as Costs}
use Rattle.pls_perms.specs.Tour as tour
use Rattle.pls_perms.specs.Tour.{TourInstance as Edges, edge_count}
use Rattle.pls_problem.specs.declared.instance.Instance.{Instance}
use Rattle.pls_problem.specs.declared.instance.Instance.TheVariants.{Knapsack, Assignment, Tour}
use Rattle.pls_problem.specs.declared.kind.Kind.{Kind}
use Rattle.pls_problem.specs.declared.kind.Kind.TheVariants as kind
use Rattle.pls_problem.specs.declared.reader.BadInstance.{BadInstance}
use Rattle.pls_problem.specs.Kinds.{kind_name, size_limits, number_limits, instance_of}
use Rattle.pls_problem.specs.Reading.{reading_then, within, number_of, numbers, sized, of_kind, after_head, headed_by, instance}
use Rattle.pls_problem.specs.Rows.{row_of}
use Rattle.pls_problem.specs.Text.{numbers_line, numbers_text, rows_text, head_line, knapsack_text, assignment_text, tour_text}
use Rattle.pls_problem.proofs.ReadingSteps.{Read, after, numbers-then}
use Rattle.pls_problem.proofs.ReadingDigits.{digit_range}
use Rattle.pls_problem.proofs.ReadingSized.{up_to, large, small, ended}
use Rattle.pls_problem.proofs.Sizing.{rows, knapsack-parts, some_edges}
use Rattle.pls_problem.proofs.NumberRanges.{flat_map-range-more}

digits_push : (ds : List ℕ) (d : ℕ) → all_ascii_digits ds ≡ true → is_ascii_digit d ≡ true → all_ascii_digits (ds ++ d ∷ []) ≡ true
digits_push [] d all digit = and_from (is_ascii_digit d) true digit refl
digits_push (c ∷ ds) d all digit =
    let parts = and_parts (is_ascii_digit c) (all_ascii_digits ds) all in
    and_from (is_ascii_digit c) (all_ascii_digits (ds ++ d ∷ [])) parts.0 (digits_push ds d parts.1 digit)

digit_byte : (n : ℕ) → n < 10 → is_ascii_digit (48 + n) ≡ true
digit_byte n small = and_from (nat_le 48 (48 + n)) (nat_le (48 + n) 57) (le-leb 48 (48 + n) (omega arith)) (le-leb (48 + n) 57 (omega arith))

-- a number is written in digits alone
decimal_digits : (n : ℕ) → n < 2 ^ 64 → all_ascii_digits (decimal n) ≡ true
decimal_digits =
    decimal_by_steps (λ n ds. all_ascii_digits ds ≡ true)
    (λ n small. and_from (is_ascii_digit (48 + n)) true (digit_byte n small) refl)
    (λ n ds large front. digits_push ds (48 + n % 10) front (digit_byte (n % 10) (omega arith)))

digit_in_word : (b : ℕ) → is_ascii_digit b ≡ true → is_word_byte b ≡ true
digit_in_word b digit =
    let range = digit_range b digit in
    let not_tab : (b == 9) ≡ false = ne_eqb b 9 (λ e. omega arith) in
    let not_feed : (b == 10) ≡ false = ne_eqb b 10 (λ e. omega arith) in
    let not_return : (b == 13) ≡ false = ne_eqb b 13 (λ e. omega arith) in
    let not_space : (b == 32) ≡ false = ne_eqb b 32 (λ e. omega arith) in
    let not_hash : (b == 35) ≡ false = ne_eqb b 35 (λ e. omega arith) in
    rw (not_tab, not_feed, not_return, not_space, not_hash) refl

pub word_of_digits : (ds : List ℕ) → all_ascii_digits ds ≡ true → list_all is_word_byte ds ≡ true
word_of_digits [] all = refl
word_of_digits (d ∷ ds) all =
    let parts = and_parts (is_ascii_digit d) (all_ascii_digits ds) all in
    and_from (is_word_byte d) (list_all is_word_byte ds) (digit_in_word d parts.0) (word_of_digits ds parts.1)

-- a blank that is no comment
pub record IsBlank (b : ℕ) : Type 0 where
  pub no_word : is_word_byte b ≡ false
  pub no_hash : (b == 35) ≡ false

-- a number that limits allow, and that is written in at most 20 digits
pub record Allows (limits : Limits) (n : ℕ) : Type 0 where
  pub least : limits.least ≤ n
  pub most : n ≤ limits.most
  pub short : n < 2 ^ 64

number_of-decimal : (n : ℕ) → n < 2 ^ 64 → number_of (decimal n) ≡ Some n
number_of-decimal n short = rw (decimal_digits n short) (ap (λ (m : ℕ). Some m) (decimal_is_IsNumeral n short).1)

within-allowed : (limits : Limits) (place n : ℕ) → Allows limits n → within limits place (Some n) ≡ Ok n
within-allowed limits place n allows = rw (le-leb limits.least n allows.least, le-leb n limits.most allows.most) refl

abbrev words_of : ℕ → List ℕ → List PlacedWord
words_of place bs = words_from place (uncommented false bs)

module _ (end : ℕ) where
  -- wherever a text stands and whatever follows, it reads as these numbers within these limits
  pub record Reads (wanted : List Limits) (text ns : List ℕ) : Type 0 where
    pub reads : (place : ℕ) (rest : List ℕ) → numbers end wanted (words_of place (text ++ rest)) ≡ Ok (ns, words_of (place + length text) rest)

  reads_number : (limits : Limits) (n b : ℕ) → Allows limits n → IsBlank b → Reads (limits ∷ []) (decimal n ++ b ∷ []) (n ∷ [])
  reads_number limits n b allows blank = record {
    reads = λ place rest.
        let word = decimal n in
        let first : words_of place ((word ++ b ∷ []) ++ rest) ≡ record { place = place; text = word } ∷ words_of (place + length word + 1) rest =
        ap (words_of place) (append_assoc word (b ∷ []) rest)
        ∙ words-word place word b rest (word_of_digits word (decimal_digits n allows.short)) (decimal_nonempty n allows.short) blank.no_hash blank.no_word in
        let later : place + length word + 1 ≡ place + length (word ++ b ∷ []) = omega (arith, length-append word (b ∷ [])) in
        ap (numbers end (limits ∷ [])) first
        ∙ (ap (λ (r : Option ℕ). numbers_then (within limits place r) (words_of (place + length word + 1) rest)) (number_of-decimal n allows.short)
        ∙ (ap (λ (r : Result ℕ BadInstance). numbers_then r (words_of (place + length word + 1) rest)) (within-allowed limits place n allows)
        ∙ ap (λ (p : ℕ). Ok (n ∷ [], words_of p rest)) later));
  }
    where
      numbers_then : Result ℕ BadInstance → List PlacedWord → Result Read BadInstance
      numbers_then r left = reading_then (λ (first : ℕ × List PlacedWord). reading_then (λ (others : Read). Ok (first.0 ∷ others.0, others.1)) (Ok ([], first.1))) (reading_then (λ (m : ℕ). Ok (m, left)) r)

  reads_both :
      (wanted wanted' : List Limits) (text text' ns ns' : List ℕ) → Reads wanted text ns → Reads wanted' text' ns'
      → Reads (wanted ++ wanted') (text ++ text') (ns ++ ns')
  reads_both wanted wanted' text text' ns ns' one other = record {
    reads = λ place rest.
        let longer : place + length text + length text' ≡ place + length (text ++ text') = omega (arith, length-append text text') in
        ap (λ (t : List ℕ). numbers end (wanted ++ wanted') (words_of place t)) (append_assoc text text' rest)
        ∙ (numbers-then end wanted wanted' _ ns _ (one.reads place (text' ++ rest))
        ∙ (ap (after ns) (other.reads (place + length text) rest)
        ∙ ap (λ (p : ℕ). Ok (ns ++ ns', words_of p rest)) longer));
  }

  -- a line of numbers, each within its limits
  abbrev AllAllowed : List Limits → List ℕ → Type 0
  AllAllowed [] [] = Unit {0}
  AllAllowed (limits ∷ wanted) (n ∷ ns) = Allows limits n × AllAllowed wanted ns
  AllAllowed wanted ns = ⊥

  feed : IsBlank 10
  feed = record { no_word = refl; no_hash = refl }

  space : IsBlank 32
  space = record { no_word = refl; no_hash = refl }

  line_of_more : (n m : ℕ) (ns : List ℕ) → (decimal n ++ 32 ∷ []) ++ numbers_line (m ∷ ns) ≡ numbers_line (n ∷ m ∷ ns)
  line_of_more n m ns =
      append_assoc (decimal n) (32 ∷ []) (numbers_line (m ∷ ns))
      ∙ sym (append_assoc (decimal n) (32 ∷ numbers_text (m ∷ ns)) (10 ∷ []))

  pub reads_line : (wanted : List Limits) (ns : List ℕ) → AllAllowed wanted ns → 0 < length ns → Reads wanted (numbers_line ns) ns
  reads_line [] [] allowed some = absurd (omega arith)
  reads_line [] (n ∷ ns) allowed some = absurd allowed
  reads_line (limits ∷ wanted) [] allowed some = absurd allowed
  reads_line (limits ∷ []) (n ∷ []) allowed some =
      subst (λ (t : List ℕ). Reads (limits ∷ []) (t ++ 10 ∷ []) (n ∷ [])) (sym (append-nil (decimal n))) (reads_number limits n 10 allowed.0 feed)
  reads_line (limits ∷ (limits' ∷ wanted)) (n ∷ []) allowed some = absurd allowed.1
  reads_line (limits ∷ []) (n ∷ (m ∷ ns)) allowed some = absurd allowed.1
  reads_line (limits ∷ (limits' ∷ wanted)) (n ∷ (m ∷ ns)) allowed some =
      subst (λ (t : List ℕ). Reads (limits ∷ (limits' ∷ wanted)) t (n ∷ (m ∷ ns))) (line_of_more n m ns)
      (reads_both (limits ∷ []) (limits' ∷ wanted) (decimal n ++ 32 ∷ []) (numbers_line (m ∷ ns)) (n ∷ []) (m ∷ ns)
      (reads_number limits n 32 allowed.0 space) (reads_line (limits' ∷ wanted) (m ∷ ns) allowed.1 (omega arith)))

  allowed_all : (limits : Limits) (ns : List ℕ) → All (λ n. Allows limits n) ns → AllAllowed (replicate (length ns) limits) ns
  allowed_all limits [] all = tt
  allowed_all limits (n ∷ ns) all =
      (All-head (λ n. Allows limits n) n ns all, allowed_all limits ns (All-tail (λ n. Allows limits n) n ns all))

  reads_none : Reads [] [] []
  reads_none = record { reads = λ place rest. ap (λ (p : ℕ). Ok ([], words_of p rest)) (sym (add-zero place)) }

  -- the lines of the first rows of a table read as these rows
  reads_rows :
      (limits : Limits) (items : ℕ) (table : List ℕ) → All (λ n. Allows limits n) table → 1 ≤ items
      → (rows count : ℕ) → count ≡ rows * items → count ≤ length table
      → Reads (replicate count limits) (rows_text rows items table) (take count table)
  reads_rows limits items table all some zero count all_of within =
      let none : 0 ≡ count = omega arith in
      subst (λ (n : ℕ). Reads (replicate n limits) [] (take n table)) none reads_none
  reads_rows limits items table all some (suc rows) count all_of within =
      let before = rows * items in
      let row = row_of items rows table in
      let more : before + items ≡ count = sym (all_of ∙ suc-mul rows items) in
      let long : length row ≡ items = length-take items (drop before table) ∙ omega (arith, length-drop before table) in
      let all_in_row = All-take (λ n. Allows limits n) items (drop before table) (All-drop (λ n. Allows limits n) before table all) in
      let line_reads = reads_line (replicate (length row) limits) row (allowed_all limits row all_in_row) (omega arith) in
      let both = reads_both (replicate before limits) (replicate (length row) limits) (rows_text rows items table) (numbers_line row) (take before table) row
      (reads_rows limits items table all some rows before refl (omega arith)) line_reads in
      let wanted : replicate before limits ++ replicate (length row) limits ≡ replicate count limits =
      replicate-append-replicate before (length row) limits ∙ ap (λ (n : ℕ). replicate n limits) (omega arith) in
      let text : rows_text rows items table ++ numbers_line row ≡ rows_text (suc rows) items table =
      sym (flat_map-range-more (λ r. numbers_line (row_of items r table)) rows) ∙ ap (λ (n : ℕ). rows_text n items table) (add-one rows) in
      let ns : take before table ++ row ≡ take count table =
      sym (take-add before items table) ∙ ap (λ (n : ℕ). take n table) more in
      subst (λ (w : List Limits). Reads w (rows_text (suc rows) items table) (take count table)) wanted
      (subst (λ (t : List ℕ). Reads (replicate before limits ++ replicate (length row) limits) t (take count table)) text
      (subst (λ (xs : List ℕ). Reads (replicate before limits ++ replicate (length row) limits) (rows_text rows items table ++ numbers_line row) xs) ns both))

  -- the lines of a whole table
  reads_table :
      (most rows items : ℕ) (table : List ℕ) → most < 2 ^ 64 → All (λ n. n ≤ most) table → 1 ≤ items → length table ≡ rows * items
      → Reads (replicate (rows * items) (up_to most)) (rows_text rows items table) table
  reads_table most rows items table short all some whole =
      let allowed : All (λ n. Allows (up_to most) n) table = λ k d inside. record { least = omega arith; most = all k d inside; short = omega (arith, all k d inside) } in
      subst (λ (xs : List ℕ). Reads (replicate (rows * items) (up_to most)) (rows_text rows items table) xs)
      (take_all (rows * items) table (omega arith))
      (reads_rows (up_to most) items table allowed some rows (rows * items) refl (omega arith))

  reads_capacities : (k : Items) → knapsack.IsWithinLimits k → Reads (replicate k.rules large) (numbers_line k.capacities) k.capacities
  reads_capacities k limits =
      let allowed : All (λ n. Allows large n) k.capacities =
      λ i d inside. record { least = omega arith; most = limits.small_capacities i d inside; short = omega (arith, limits.small_capacities i d inside) } in
      subst (λ (n : ℕ). Reads (replicate n large) (numbers_line k.capacities) k.capacities) limits.capacity_list
      (reads_line (replicate (length k.capacities) large) k.capacities
      (allowed_all large k.capacities allowed) (rw limits.capacity_list limits.some_rules))

  -- the lines after the first one
  knapsack_body : Items → List ℕ
  knapsack_body k = numbers_line k.capacities ++ (rows_text k.objectives k.items k.profits ++ rows_text k.rules k.items k.weights)

  reads_knapsack :
      (k : Items) → knapsack.IsWithinLimits k
      → Reads (number_limits kind.Knapsack (k.objectives ∷ k.items ∷ k.rules ∷ [])) (knapsack_body k) (k.capacities ++ (k.profits ++ k.weights))
  unfolding knapsack_body number_limits
  reads_knapsack k limits =
      subst (λ (w : List Limits). Reads (replicate k.rules large ++ w) (knapsack_body k) (k.capacities ++ (k.profits ++ k.weights)))
      (replicate-append-replicate (k.objectives * k.items) (k.rules * k.items) small
      ∙ ap (λ (n : ℕ). replicate n small) (sym (add-mul k.objectives k.rules k.items)))
      (reads_both _ _ _ _ _ _ (reads_capacities k limits)
      (reads_both _ _ _ _ _ _
      (reads_table 1000000 k.objectives k.items k.profits (lit< tt) limits.small_profits limits.some_items limits.profit_rows)
      (reads_table 1000000 k.rules k.items k.weights (lit< tt) limits.small_weights limits.some_items limits.weight_rows)))

  reads_assignment :
      (k : Costs) → assignment.IsWithinLimits k
      → Reads (number_limits kind.Assignment (k.objectives ∷ k.agents ∷ [])) (rows_text (k.objectives * k.agents) k.agents k.costs) k.costs
  unfolding number_limits
  reads_assignment k limits =
      reads_table 1000000 (k.objectives * k.agents) k.agents k.costs (lit< tt) limits.small_costs limits.some_agents limits.matrices

  reads_tour :
      (k : Edges) → tour.IsWithinLimits k
      → Reads (number_limits kind.Tour (k.objectives ∷ k.cities ∷ [])) (rows_text k.objectives (edge_count k.cities) k.edges) k.edges
  unfolding number_limits
  reads_tour k limits =
      reads_table 1000000 k.objectives (edge_count k.cities) k.edges (lit< tt) limits.small_edges (some_edges k.cities limits.some_cities) limits.lists

  some_objectives : (least most n : ℕ) → least ≤ n → n ≤ most → most ≤ 256 → Allows (record { least = least; most = most }) n
  some_objectives least most n low high small = record { least = low; most = high; short = omega arith }

  -- ---- the words before the sizes

  named_word :
      (k : Kind) (place : ℕ) (rest : List ℕ)
      → after_head end (words_of place (kind_name k ++ (32 ∷ rest))) ≡ of_kind end k (words_of (place + length (kind_name k) + 1) rest)
  named_word kind.Knapsack place rest = ap (after_head end) (words-word place (codes "knapsack") 32 rest refl (lit< tt) refl refl)
  named_word kind.Assignment place rest = ap (after_head end) (words-word place (codes "assignment") 32 rest refl (lit< tt) refl refl)
  named_word kind.Tour place rest = ap (after_head end) (words-word place (codes "tour") 32 rest refl (lit< tt) refl refl)

  headed_by-written :
      (k : Kind) (sizes : List ℕ) (body ns : List ℕ) → Reads (size_limits k) (numbers_line sizes) sizes → Reads (number_limits k sizes) body ns
      → headed_by end (words_of 0 (codes "pls1 " ++ (kind_name k ++ (32 ∷ (numbers_line sizes ++ body))))) ≡ Ok (instance_of k sizes ns)
  headed_by-written k sizes body ns of_sizes of_numbers =
      let rest = numbers_line sizes ++ body in
      let first = 5 + length (kind_name k) + 1 in
      let later = first + length (numbers_line sizes) in
      ap (headed_by end) (words-word 0 (codes "pls1") 32 (kind_name k ++ (32 ∷ rest)) refl (lit< tt) refl refl)
      ∙ (named_word k 5 rest
      ∙ (ap (λ (r : Result Read BadInstance). reading_then (λ (read : Read). sized end k read.0 read.1) r) (of_sizes.reads first body)
      ∙ (ap (λ (t : List ℕ). sized end k sizes (words_of later t)) (sym (append-nil body))
      ∙ ap (λ (r : Result Read BadInstance). ended k sizes r) (of_numbers.reads later []))))

-- a text of this form reads as that instance
read_as :
    (k : Kind) (sizes body ns : List ℕ)
    → ((end : ℕ) → Reads end (size_limits k) (numbers_line sizes) sizes) → ((end : ℕ) → Reads end (number_limits k sizes) body ns)
    → instance (head_line k sizes ++ body) ≡ Ok (instance_of k sizes ns)
read_as k sizes body ns of_sizes of_numbers =
    let end = length (head_line k sizes ++ body) in
    ap (λ (t : List ℕ). headed_by end (words_of 0 (codes "pls1 " ++ t)))
    (append_assoc (kind_name k ++ codes " ") (numbers_line sizes) body
    ∙ append_assoc (kind_name k) (codes " ") (numbers_line sizes ++ body))
    ∙ headed_by-written end k sizes body ns (of_sizes end) (of_numbers end)

instance_from-same : (k : Items) → knapsack.IsWithinLimits k → knapsack.instance_from k.items k.profits k.capacities k.weights ≡ k
instance_from-same k limits =
    ap (λ (o : ℕ). record k { objectives = o; rules = length k.capacities }) (sym (rows k.objectives k.items k.profits limits.profit_rows limits.some_items))
    ∙ ap (λ (r : ℕ). record k { rules = r }) limits.capacity_list

-- the text of a knapsack reads as that knapsack
pub instance-knapsack_text : (k : Items) → knapsack.IsWithinLimits k → instance (knapsack_text k) ≡ Ok (Knapsack k)
unfolding knapsack_body size_limits instance_of
instance-knapsack_text k limits =
    let sizes = k.objectives ∷ k.items ∷ k.rules ∷ [] in
    let head = head_line kind.Knapsack sizes in
    let lines = numbers_line k.capacities in
    let profits = rows_text k.objectives k.items k.profits in
    let weights = rows_text k.rules k.items k.weights in
    ap instance (append_assoc (head ++ lines) profits weights ∙ append_assoc head lines (profits ++ weights))
    ∙ (read_as kind.Knapsack sizes (lines ++ (profits ++ weights)) (k.capacities ++ (k.profits ++ k.weights))
    (λ end. reads_line end _ sizes (
      some_objectives end 2 4 k.objectives limits.some_objectives limits.few_objectives (omega arith),
      (
        some_objectives end 1 256 k.items limits.some_items limits.few_items (omega arith),
        (some_objectives end 1 8 k.rules limits.some_rules limits.few_rules (omega arith), tt),
      ),
    ) (lit< tt))
    (λ end. reads_knapsack end k limits)
    ∙ ap (λ (q : Items). Ok (Knapsack q))
    (knapsack-parts k.items k.capacities k.profits k.weights k.objectives k.rules limits.capacity_list limits.profit_rows limits.some_items
    ∙ instance_from-same k limits))

-- the same of an assignment
pub instance-assignment_text : (k : Costs) → assignment.IsWithinLimits k → instance (assignment_text k) ≡ Ok (Assignment k)
unfolding size_limits instance_of
instance-assignment_text k limits =
    let sizes = k.objectives ∷ k.agents ∷ [] in
    read_as kind.Assignment sizes (rows_text (k.objectives * k.agents) k.agents k.costs) k.costs
    (λ end. reads_line end _ sizes (
      some_objectives end 2 4 k.objectives limits.some_objectives limits.few_objectives (omega arith),
      (some_objectives end 1 256 k.agents limits.some_agents limits.few_agents (omega arith), tt),
    ) (lit< tt))
    (λ end. reads_assignment end k limits)

-- and of a tour
pub instance-tour_text : (k : Edges) → tour.IsWithinLimits k → instance (tour_text k) ≡ Ok (Tour k)
unfolding size_limits instance_of
instance-tour_text k limits =
    let sizes = k.objectives ∷ k.cities ∷ [] in
    read_as kind.Tour sizes (rows_text k.objectives (edge_count k.cities) k.edges) k.edges
    (λ end. reads_line end _ sizes (
      some_objectives end 2 4 k.objectives limits.some_objectives limits.few_objectives (omega arith),
      (some_objectives end 3 256 k.cities limits.some_cities limits.few_cities (omega arith), tt),
    ) (lit< tt))
    (λ end. reads_tour end k limits)

-- what was written from nothing on
pub written-alone : (i : Instance) (text before written : List ℕ) → before ≡ [] → text ≡ before ++ written → instance written ≡ Ok i → instance text ≡ Ok i
written-alone i text before written none same back = ap instance (same ∙ ap (λ (t : List ℕ). t ++ written) none) ∙ back
