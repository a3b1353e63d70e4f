use Rattle.std.proofs.Common.{◌≡◌, ℕ, ◌+◌, ◌<◌, List, [], ◌∷◌, length, map, All, ap, sym, ◌∙◌, subst, arith}
use Rattle.std.specs.List.{concat}
use Rattle.std.specs.List.Sorted.{IsPermutation}
use Rattle.std.proofs.lemmas.List.{length-map}
use Rattle.arrayvec.proofs.ArrayVecLemmas.{items-with_items}
use Rattle.pls_vectors.specs.Box.{Box, box_of}
use Rattle.nd_tree.specs.Split.{lists_in, places, value_at, split}
use Rattle.nd_tree.proofs.Chosen.{IsChoice-at, below-chosen, below-left, length-left}
use Rattle.nd_tree.proofs.Parts.{parts-boxes}
use Rattle.nd_tree.proofs.Splitting.{concat-alone, split-made, count-split, some-split, once-split, below-split}
use Rattle.nd_tree.proofs.groups.split.Goals as goal

pub boxes_of-boxes-requires-clause-some : goal.boxes_of-boxes-requires-clause-some
boxes_of-boxes-requires-clause-some c =
    let choice = IsChoice-at c.args.values.now c.begin_groups-choice.result _ c.requires.many (omega (arith, c.begin_groups-choice.ensures.few)) c.begin_groups-choice.ensures.value in
    omega (arith, choice.chosen, ap length c.chosen-chosen.ensures.value)

pub boxes_of-boxes-requires-clause-below : goal.boxes_of-boxes-requires-clause-below
boxes_of-boxes-requires-clause-below c =
    let b = c.begin_groups-choice.result in
    let choice = IsChoice-at c.args.values.now b _ c.requires.many (omega (arith, c.begin_groups-choice.ensures.few)) c.begin_groups-choice.ensures.value in
    subst (λ (ks : List ℕ). All (λ k. k < length c.args.values.now) ks) (sym c.chosen-chosen.ensures.value)
    (subst (λ n. All (λ k. k < n) b.chosen) (sym c.requires.many) (below-chosen b choice))

pub join_all-requires-clause-some : goal.join_all-requires-clause-some
join_all-requires-clause-some c =
    let choice = IsChoice-at c.args.values.now c.begin_groups-choice.result _ c.requires.many (omega (arith, c.begin_groups-choice.ensures.few)) c.begin_groups-choice.ensures.value in
    let lists = c.lists_of-lists.result.items in
    omega (
      arith,
      choice.chosen,
      ap length c.as_mut_slice.ensures.value,
      length-map lists (λ list. list.items),
      ap length c.lists_of-lists.ensures,
      length-map c.chosen-chosen.result.now (λ k. k ∷ []),
      ap length c.chosen-chosen.ensures.value,
    )

pub join_all-requires-clause-below : goal.join_all-requires-clause-below
join_all-requires-clause-below c =
    let b = c.begin_groups-choice.result in
    let choice = IsChoice-at c.args.values.now b _ c.requires.many (omega (arith, c.begin_groups-choice.ensures.few)) c.begin_groups-choice.ensures.value in
    subst (λ (ks : List ℕ). All (λ k. k < length c.args.values.now) ks) (sym c.left.ensures)
    (subst (λ n. All (λ k. k < n) b.left) (sym c.requires.many) (below-left b choice))

pub join_all-requires-clause-box_parts : goal.join_all-requires-clause-box_parts
join_all-requires-clause-box_parts c =
    let values = c.args.values.now in
    let b = c.begin_groups-choice.result in
    let choice = IsChoice-at values b _ c.requires.many (omega (arith, c.begin_groups-choice.ensures.few)) c.begin_groups-choice.ensures.value in
    let within : All (λ k. k < length values) b.chosen = subst (λ n. All (λ k. k < n) b.chosen) (sym c.requires.many) (below-chosen b choice) in
    subst (λ (bs : List Box). All (λ box. length box.ideal ≡ length (value_at values 0)) bs)
    (sym (c.boxes_of-boxes.ensures ∙ ap (λ (ks : List ℕ). map (λ k. box_of (value_at values k)) ks) c.chosen-chosen.ensures.value))
    (parts-boxes values b.chosen c.requires.parts within)

pub join_all-requires-clause-room : goal.join_all-requires-clause-room
join_all-requires-clause-room c =
    let b = c.begin_groups-choice.result in
    let choice = IsChoice-at c.args.values.now b _ c.requires.many (omega (arith, c.begin_groups-choice.ensures.few)) c.begin_groups-choice.ensures.value in
    let alone : lists_in c.as_mut_slice.result.now ≡ map (λ k. k ∷ []) b.chosen =
    ap lists_in c.as_mut_slice.ensures.value
    ∙ (c.lists_of-lists.ensures ∙ ap (λ (ks : List ℕ). map (λ k. k ∷ []) ks) c.chosen-chosen.ensures.value) in
    let long : length (concat (lists_in c.as_mut_slice.result.now)) ≡ length b.chosen =
    ap (λ (ls : List (List ℕ)). length (concat ls)) alone ∙ ap length (concat-alone b.chosen) in
    omega (arith, long, choice.chosen, length-left b choice, ap length c.left.ensures)

pub returns-clause-value : goal.returns-clause-value
returns-clause-value c =
    ap lists_in (items-with_items c.lists_of-lists.result c.join_all.new.lists (c.join_all.auto.lists ∙ ap length c.as_mut_slice.ensures.value))
    ∙ (c.join_all.ensures
    ∙ split-made c.args.values.now c.begin_groups-choice.result c.chosen-chosen.result.now c.left.result.now _ _
    c.begin_groups-choice.ensures.value c.chosen-chosen.ensures.value c.left.ensures
    (ap lists_in c.as_mut_slice.ensures.value ∙ c.lists_of-lists.ensures) c.boxes_of-boxes.ensures)

pub returns-clause-count : goal.returns-clause-count
returns-clause-count c =
    let values = c.args.values.now in
    subst (λ (groups : List (List ℕ)). length groups ≡ length (value_at values 0) + 1) (sym (returns-clause-value c))
    (count-split values (omega (arith, c.begin_groups-choice.ensures.few, c.requires.many)))

pub returns-clause-some : goal.returns-clause-some
returns-clause-some c =
    subst (λ (groups : List (List ℕ)). All (λ group. 0 < length group) groups) (sym (returns-clause-value c))
    (some-split c.args.values.now (omega (arith, c.begin_groups-choice.ensures.few, c.requires.many)))

pub returns-clause-once : goal.returns-clause-once
returns-clause-once c =
    let values = c.args.values.now in
    subst (λ (groups : List (List ℕ)). IsPermutation (places 21) (concat groups)) (sym (returns-clause-value c))
    (subst (λ n. IsPermutation (places n) (concat (split values))) c.requires.many
    (once-split values (omega (arith, c.begin_groups-choice.ensures.few, c.requires.many))))

pub returns-clause-below : goal.returns-clause-below
returns-clause-below c =
    let values = c.args.values.now in
    subst (λ (groups : List (List ℕ)). All (λ group. All (λ place. place < 21) group) groups) (sym (returns-clause-value c))
    (subst (λ n. All (λ group. All (λ place. place < n) group) (split values)) c.requires.many
    (below-split values (omega (arith, c.begin_groups-choice.ensures.few, c.requires.many))))
