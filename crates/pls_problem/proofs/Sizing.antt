-- Numbers that sizes call for make an instance within its limits.
use Rattle.std.proofs.Common.{◌≡◌, ◌≤◌, ℕ, ◌+◌, ◌-◌, ◌*◌, ◌/◌, List, ◌++◌, length, take, drop, refl, ap, sym, ◌∙◌, arith, subst}
use Rattle.std.proofs.lemmas.List.{length-take, length-drop, take-append-drop, nil_from_length}
use Rattle.std.proofs.lemmas.List.Elements.{All-take, All-drop}
use Rattle.std.proofs.Math.Nat.{mul-div_cancel, add-mul, le-mul_of_pos_right}
use Rattle.std.proofs.Math.Seq.{take-append_seam, drop-append_seam, drop-append-add}
use Rattle.pls_knapsack.specs.Instance as knapsack
use Rattle.pls_knapsack.specs.Text as knapsack_text
use Rattle.pls_perms.specs.Assignment as assignment
use Rattle.pls_perms.specs.Tour as tour
use Rattle.pls_problem.specs.declared.instance.Instance.TheVariants as instance
use Rattle.pls_problem.specs.declared.kind.Kind.{Kind}
use Rattle.pls_problem.specs.declared.kind.Kind.TheVariants.{Knapsack, Assignment, Tour}
use Rattle.pls_problem.specs.declared.sizes.Sizes.{Sizes}
use Rattle.pls_problem.specs.Kinds.{instance_of, least_size, least_rules}
use Rattle.pls_problem.specs.Sizes.{AreWithinLimits, AreNumbersOf, listed, in_text, capacities_for, amounts_for}

pub rows : (objectives items : ℕ) (profits : List ℕ) → length profits ≡ objectives * items → 1 ≤ items → objectives ≡ length profits / items
rows objectives items profits p some =
    sym (mul-div_cancel objectives (omega arith)) ∙ ap (λ (n : ℕ). n / items) (sym p)

-- the lists that a knapsack is made of are the parts of the numbers
pub knapsack-parts :
    (items : ℕ) (capacities profits weights : List ℕ) (objectives rules : ℕ)
    → length capacities ≡ rules → length profits ≡ objectives * items → 1 ≤ items
    → knapsack_text.instance_of objectives items rules (capacities ++ (profits ++ weights)) ≡ knapsack.instance_from items profits capacities weights
knapsack-parts items capacities profits weights objectives rules c p some =
    let all = capacities ++ (profits ++ weights) in
    let o : objectives ≡ length profits / items = rows objectives items profits p some in
    let behind : drop rules all ≡ profits ++ weights =
    ap (λ (n : ℕ). drop n all) (sym c) ∙ drop-append_seam capacities (profits ++ weights) in
    let first : take rules all ≡ capacities =
    ap (λ (n : ℕ). take n all) (sym c) ∙ take-append_seam capacities (profits ++ weights) in
    let middle : take (objectives * items) (drop rules all) ≡ profits =
    ap (take (objectives * items)) behind ∙ (ap (λ (n : ℕ). take n (profits ++ weights)) (sym p) ∙ take-append_seam profits weights) in
    let last : drop (rules + objectives * items) all ≡ weights =
    ap (λ (n : ℕ). drop (n + objectives * items) all) (sym c)
    ∙ (drop-append-add capacities (profits ++ weights) (objectives * items)
    ∙ (ap (λ (n : ℕ). drop n (profits ++ weights)) (sym p) ∙ drop-append_seam profits weights)) in
    cc

module _ (s : Sizes) (capacities amounts : List ℕ) (sizes : AreWithinLimits s) (numbers : AreNumbersOf s capacities amounts) where
  least : (kind : Kind) → s.kind ≡ kind → least_size kind ≤ s.size
  least kind is = subst (λ (k : Kind). least_size k ≤ s.size) is sizes.some_size

  many : (kind : Kind) → s.kind ≡ kind → length amounts ≡ amounts_for kind s.objectives s.size s.rules
  many kind is = numbers.amount_list ∙ ap (λ (k : Kind). amounts_for k s.objectives s.size s.rules) is

  few : (kind : Kind) → s.kind ≡ kind → length capacities ≡ capacities_for kind s.rules
  few kind is = numbers.capacity_list ∙ ap (λ (k : Kind). capacities_for k s.rules) is

  -- of a knapsack the profits come first, and then the weights
  module _ (is : s.kind ≡ Knapsack) where
    before : ℕ
    before = s.objectives * s.size

    whole : length amounts ≡ before + s.rules * s.size
    unfolding before
    whole = many Knapsack is ∙ add-mul s.objectives s.rules s.size

    pub splits : s.objectives * s.size ≤ length amounts
    unfolding before
    splits = omega (arith, whole)

    profit_rows : length (take (s.objectives * s.size) amounts) ≡ s.objectives * s.size
    profit_rows = length-take (s.objectives * s.size) amounts ∙ omega (arith, splits)

    weight_rows : length (drop (s.objectives * s.size) amounts) ≡ s.rules * s.size
    unfolding before
    weight_rows = length-drop (s.objectives * s.size) amounts ∙ omega (arith, whole)

    pub knapsack-limits :
        knapsack.IsWithinLimits (knapsack.instance_from s.size (take (s.objectives * s.size) amounts) capacities (drop (s.objectives * s.size) amounts))
    knapsack-limits =
        let o = rows s.objectives s.size (take (s.objectives * s.size) amounts) profit_rows (least Knapsack is) in
        let c = few Knapsack is in
        record {
          some_items = least Knapsack is;
          few_items = sizes.small_size;
          some_objectives = rw (← o) sizes.some_objectives;
          few_objectives = rw (← o) sizes.few_objectives;
          some_rules = rw c (subst (λ (k : Kind). least_rules k ≤ s.rules) is sizes.some_rules);
          few_rules = rw c sizes.few_rules;
          profit_rows = profit_rows ∙ ap (λ (n : ℕ). n * s.size) o;
          capacity_list = refl;
          weight_rows = weight_rows ∙ ap (λ (n : ℕ). n * s.size) (sym c);
          small_profits = All-take (λ x. x ≤ 1000000) (s.objectives * s.size) amounts numbers.small_amounts;
          small_capacities = numbers.small_capacities;
          small_weights = All-drop (λ x. x ≤ 1000000) (s.objectives * s.size) amounts numbers.small_amounts;
        }

    pub knapsack-made :
        instance.Knapsack (knapsack.instance_from s.size (take (s.objectives * s.size) amounts) capacities (drop (s.objectives * s.size) amounts))
        ≡ instance_of s.kind (in_text s) (capacities ++ amounts)
    unfolding instance_of
    knapsack-made =
        ap (λ (k : knapsack.Instance). instance.Knapsack k)
        (sym (knapsack-parts s.size capacities (take (s.objectives * s.size) amounts) (drop (s.objectives * s.size) amounts) s.objectives s.rules
        (few Knapsack is) profit_rows (least Knapsack is))
        ∙ ap (λ (xs : List ℕ). knapsack_text.instance_of s.objectives s.size s.rules (capacities ++ xs)) (take-append-drop (s.objectives * s.size) amounts))
        ∙ ap (λ (k : Kind). instance_of k (listed k s.objectives s.size s.rules) (capacities ++ amounts)) (sym is)

  -- the other kinds have no capacities
  module _ (is : s.kind ≡ Assignment) where
    pub assignment-limits : assignment.IsWithinLimits (assignment.instance_from s.objectives s.size amounts)
    assignment-limits = record {
      some_objectives = sizes.some_objectives;
      few_objectives = sizes.few_objectives;
      some_agents = least Assignment is;
      few_agents = sizes.small_size;
      matrices = many Assignment is;
      small_costs = numbers.small_amounts;
    }

    pub assignment-made :
        instance.Assignment (assignment.instance_from s.objectives s.size amounts) ≡ instance_of s.kind (in_text s) (capacities ++ amounts)
    unfolding instance_of
    assignment-made =
        ap (λ (xs : List ℕ). instance.Assignment (assignment.instance_from s.objectives s.size (xs ++ amounts)))
        (sym (nil_from_length capacities (few Assignment is)))
        ∙ ap (λ (k : Kind). instance_of k (listed k s.objectives s.size s.rules) (capacities ++ amounts)) (sym is)

  module _ (is : s.kind ≡ Tour) where
    pub tour-limits : tour.IsWithinLimits (tour.instance_from s.objectives s.size amounts)
    tour-limits = record {
      some_objectives = sizes.some_objectives;
      few_objectives = sizes.few_objectives;
      some_cities = least Tour is;
      few_cities = sizes.small_size;
      lists = many Tour is;
      small_edges = numbers.small_amounts;
    }

    pub tour-made : instance.Tour (tour.instance_from s.objectives s.size amounts) ≡ instance_of s.kind (in_text s) (capacities ++ amounts)
    unfolding instance_of
    tour-made =
        ap (λ (xs : List ℕ). instance.Tour (tour.instance_from s.objectives s.size (xs ++ amounts)))
        (sym (nil_from_length capacities (few Tour is)))
        ∙ ap (λ (k : Kind). instance_of k (listed k s.objectives s.size s.rules) (capacities ++ amounts)) (sym is)

-- three cities or more have edges between them
pub some_edges : (n : ℕ) → 3 ≤ n → 1 ≤ tour.edge_count n
some_edges n three =
    let many : n ≤ n * (n - 1) = le-mul_of_pos_right n (omega arith) in
    omega (arith, many)
