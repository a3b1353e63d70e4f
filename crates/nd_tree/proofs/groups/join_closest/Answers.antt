use Rattle.std.proofs.Common.{◌<◌, [], ◌∷◌, ◌++◌, length, ap, sym, ◌∙◌, lit<, arith}
use Rattle.std.proofs.lemmas.List.{map-id}
use Rattle.pls_vectors.specs.Box.{Box, grown}
use Rattle.nd_tree.specs.Split.{lists_in, changed_at}
use Rattle.nd_tree.proofs.Joining.{changed_at-set, room-at}
use Rattle.nd_tree.proofs.groups.join_closest.Goals as goal

pub push-requires : goal.push-requires
push-requires c =
    (lit< tt, room-at 21 c.args.lists.now c.closest-k.result c.index-lists-k.result (omega (arith, c.closest-k.ensures.bound, c.requires.boxes)) c.requires.room)

pub returns-clause-lists : goal.returns-clause-lists
returns-clause-lists c =
    let lists = c.args.lists.now in
    let k = c.closest-k.result in
    let within : k < length lists = omega (arith, c.closest-k.ensures.bound, c.requires.boxes) in
    changed_at-set (λ list. list.items) (λ list. list ++ c.args.place ∷ []) lists k c.index-lists-k.result c.push.new.self within
    c.index-lists-k.is (c.push.ensures.items ∙ ap (λ list. list.items ++ c.args.place ∷ []) (sym c.index-lists-k.is))
    ∙ ap (λ j. changed_at j (λ list. list ++ c.args.place ∷ []) (lists_in lists)) c.closest-k.ensures.value

pub returns-clause-boxes : goal.returns-clause-boxes
returns-clause-boxes c =
    let boxes = c.args.boxes.now in
    let k = c.closest-k.result in
    let v = c.args.v.now in
    sym (map-id _)
    ∙ (changed_at-set (λ (b : Box). b) (λ b. grown b v) boxes k c.index-boxes-k.result c.grow.new.self c.closest-k.ensures.bound
    c.index-boxes-k.is (c.grow.ensures.value ∙ ap (λ b. grown b v) (sym c.index-boxes-k.is))
    ∙ (ap (changed_at k (λ b. grown b v)) (map-id boxes)
    ∙ ap (λ j. changed_at j (λ b. grown b v) boxes) c.closest-k.ensures.value))
