use Rattle.std.proofs.Common.{rules, ◌-◌, [], ◌∷◌, ◌++◌, length, take, set, refl, sym, ap, ◌∙◌, arith, append-nil}
use Rattle.era_core.specs.Lists.{times}
use Rattle.era_rows.specs.Known.{known_words}
use Rattle.era_rows.specs.Passes.{known_of, marked_of}
use Rattle.nd_rows.specs.Nodes.{no_nodes, inner, points_of}
use Rattle.nd_update.specs.Removal.{without_dominated, dropped}
use Rattle.nd_update.specs.Naming.{names_of}
use Rattle.nd_update.specs.Left.{hits}
use Rattle.nd_update.proofs.Building.{does_none, read_does, does_read}
use Rattle.nd_update.proofs.Paying.{still_read, paid_still}
use Rattle.nd_update.proofs.Reading.{only_list}
use Rattle.nd_update.proofs.Opening.{only_kept}
use Rattle.nd_update.proofs.Removing.{does_work, row_still}
use Rattle.nd_update.proofs.Settled.{node_elsewhere}
use Rattle.nd_update.proofs.Settling.{settle_does, mark_list_words, node_paid, kids_row, kids_few, kids_boxed, kids_unmarked, kids_marked, kids_length, kids_named, kids_from, kids_place, kids_changed, kids_are_left, inner_unchanged, inner_settled}
use Rattle.nd_update.proofs.removes.settle_inner.Goals as goal

pub overflow_sub-from : goal.overflow_sub-from
overflow_sub-from c =
    let n = c.requires.node in
    let len = kids_length c.args.rows.now c.args.pass.now c.requires.building n.0 n.4 n.5 c.args.row n.1 n.2 n.3 n.6 n.8 c.args.count n.9 in let e = c.work_len.ensures in omega (arith, len, e)

pub is_changed-requires : goal.is_changed-requires
is_changed-requires c = let e = c.work_len.ensures in omega (arith, e)

pub work_cut-requires : goal.work_cut-requires
work_cut-requires c = let e = c.work_len.ensures in omega (arith, e)

pub work_set-requires : goal.work_set-requires
work_set-requires c =
    let n = c.requires.node in
    let place = kids_place c.args.rows.now c.args.pass.now c.requires.building n.0 n.4 n.5 c.args.row n.1 n.2 n.3 n.6 n.8 c.args.count n.9 (c.work_len.result - c.args.count) (ap (λ m. m - c.args.count) c.work_len.ensures) in
    let e = ap length c.work_cut.ensures.work in let at = n.7 in omega (arith, place, e, at)

pub returns-then-not-is_changed : goal.returns-then-not-is_changed
returns-then-not-is_changed c =
    let r = c.args.rows.now in
    let p = c.args.pass.now in
    let row = c.args.row in
    let count = c.args.count in
    let building = c.requires.building in
    let y = c.work_cut.new.self in
    let x = c.work_set.new.self in
    let cut = c.work_cut.ensures in
    let set_is = c.work_set.ensures in
    let from = c.work_len.result - count in
    let from_is = ap (λ m. m - count) c.work_len.ensures in
    let one = does_work r p y building cut.pass cut.number cut.known cut.marks cut.memory in
    let all = read_does r [] [] [] p y x one (does_work r y x one.building set_is.pass set_is.number set_is.known set_is.marks set_is.memory) in
    record {
      lacks = search rules;
      does = ([], [], all);
      paid = paid_still r 0 [] [] p x building all c.requires.paid;
      only = only_kept (row ∷ []) (known_of p) y x set_is.known (only_list (row ∷ []) p y cut.known);
      settled = λ v b kids later others removed can at over counted.
          inner_unchanged r p building v others removed row b kids later can over count counted from from_is x all c.args.k c.told.result at
          (sym (kids_changed r p building v others removed row b kids later can over count counted from from_is) ∙ sym c.is_changed.ensures ∙ c.if-not-is_changed.true)
          (let e = c.told.ensures in omega (arith, e)) (set_is.work ∙ ap (λ ws. set ws c.args.k c.told.result) cut.work);
    }

pub left_of_inner-requires : goal.left_of_inner-requires
left_of_inner-requires c =
    let n = c.requires.node in
    let r = c.args.rows.now in
    let p = c.args.pass.now in
    let row = c.args.row in
    let count = c.args.count in
    let building = c.requires.building in
    let from = c.work_len.result - count in
    let from_is = ap (λ m. m - count) c.work_len.ensures in
    let hit = sym (kids_changed r p building n.0 n.4 n.5 row n.1 n.2 n.3 n.6 n.8 count n.9 from from_is) ∙ sym c.is_changed.ensures ∙ c.if-not-is_changed.false in
    let few = kids_few r p building n.0 n.4 n.5 row n.1 n.2 n.3 n.6 n.8 count n.9 in
    let len = kids_from r p building n.0 n.4 n.5 row n.1 n.2 n.3 n.6 n.8 count n.9 from from_is in
    record {
      building = building;
      pinned = c.requires.pinned;
      row = kids_row r p building n.0 n.4 n.5 row n.1 n.2 n.3 n.6 n.8 count n.9;
      from = omega (arith, len);
      few = omega (arith, few, len);
      kids = (n.0, n.1, n.2, kids_named r p building n.0 n.4 n.5 row n.1 n.2 n.3 n.6 n.8 count n.9, kids_boxed r p building n.0 n.4 n.5 row n.1 n.2 n.3 n.6 n.8 count n.9, kids_are_left r p building n.0 n.4 n.5 row n.1 n.2 n.3 n.6 n.8 count n.9 from from_is hit);
      paid = c.requires.paid;
    }

pub mark-requires-clause-pass : goal.mark-requires-clause-pass
mark-requires-clause-pass c = c.in_ok-left.ensures.does.3.building.is_pass

pub mark-requires-clause-row : goal.mark-requires-clause-row
mark-requires-clause-row c =
    let n = c.requires.node in
    let taken = c.in_ok-left.ensures.does.0 in
    row_still c.args.rows.now taken [] taken c.args.pass.now c.left_of_inner.new.pass c.in_ok-left.ensures.does.3 c.args.row
    (kids_row c.args.rows.now c.args.pass.now c.requires.building n.0 n.4 n.5 c.args.row n.1 n.2 n.3 n.6 n.8 c.args.count n.9)

pub mark-requires-clause-unmarked : goal.mark-requires-clause-unmarked
mark-requires-clause-unmarked c =
    let n = c.requires.node in
    let none = kids_unmarked c.args.rows.now c.args.pass.now c.requires.building n.0 n.4 n.5 c.args.row n.1 n.2 n.3 n.6 n.8 c.args.count n.9 in
    ap (times c.args.row) (c.in_ok-left.ensures.does.3.marks ∙ append-nil (marked_of c.args.pass.now)) ∙ none

pub work_cut-requires-2 : goal.work_cut-requires-2
work_cut-requires-2 c =
    let e = c.work_len.ensures in let w = ap length (c.mark.ensures.same.same_work ∙ c.left_of_inner.ensures.work) in omega (arith, e, w)

pub work_set-requires-2 : goal.work_set-requires-2
work_set-requires-2 c =
    let n = c.requires.node in
    let from = c.work_len.result - c.args.count in
    let place = kids_place c.args.rows.now c.args.pass.now c.requires.building n.0 n.4 n.5 c.args.row n.1 n.2 n.3 n.6 n.8 c.args.count n.9 from (ap (λ m. m - c.args.count) c.work_len.ensures) in
    let e = ap length (c.work_cut-2.ensures.work ∙ ap (take from) (c.mark.ensures.same.same_work ∙ c.left_of_inner.ensures.work)) in let at = n.7 in omega (arith, place, e, at)

pub returns : goal.returns
returns c =
    let n = c.requires.node in
    let r = c.args.rows.now in
    let p = c.args.pass.now in
    let row = c.args.row in
    let count = c.args.count in
    let building = c.requires.building in
    let from = c.work_len.result - count in
    let from_is = ap (λ m. m - count) c.work_len.ensures in
    let u = c.left_of_inner.new.pass in
    let w = c.mark.new.pass in
    let y = c.work_cut-2.new.self in
    let x = c.work_set-2.new.self in
    let taken = c.in_ok-left.ensures.does.0 in
    let left = c.in_ok-left.ensures.does.3 in
    let mark = kids_marked r p building n.0 n.4 n.5 row n.1 n.2 n.3 n.6 n.8 count n.9 u w taken left c.mark.ensures.pass c.mark.ensures.same c.mark.ensures.known c.mark.ensures.marked in
    let cut = c.work_cut-2.ensures in
    let set_is = c.work_set-2.ensures in
    let one = does_work r w y mark.building cut.pass cut.number cut.known cut.marks cut.memory in
    let list = read_does r [] [] [] w y x one (does_work r y x one.building set_is.pass set_is.number set_is.known set_is.marks set_is.memory) in
    let none = does_none r p building in
    let all = settle_does r p p u w x taken (row ∷ []) none left mark list in
    let rest = does_read r [] (row ∷ []) [] u w x mark list in
    record {
      lacks = search rules;
      does = (taken, row ∷ [], all);
      paid = node_paid r taken row [] taken p x building all (kids_unmarked r p building n.0 n.4 n.5 row n.1 n.2 n.3 n.6 n.8 count n.9) (λ some. still_read r [] (row ∷ []) [] u x left.building rest row (c.in_ok-left.ensures.does.2 some)) c.in_ok-left.ensures.does.1 c.requires.paid;
      only =
          only_kept (row ∷ []) (known_of p) y x set_is.known
          (only_kept (row ∷ []) (known_of p) w y cut.known (only_kept (row ∷ []) (known_of p) u w c.mark.ensures.known c.left_of_inner.ensures.only));
      settled = λ v b kids later others removed can at over counted.
          let hit = sym (kids_changed r p building v others removed row b kids later can over count counted from from_is) ∙ sym c.is_changed.ensures ∙ c.if-not-is_changed.false in
          let named = kids_named r p building v others removed row b kids later can over count counted in
          let left_is = c.in_ok-left.ensures.left v b kids named (kids_boxed r p building v others removed row b kids later can over count counted) (kids_are_left r p building v others removed row b kids later can over count counted from from_is hit) in
          inner_settled r p building v others removed row b kids later can over count counted from from_is x left_is.0 (settle_does r p p u w x left_is.0 (row ∷ []) none left_is.1 mark list) c.args.k c.in_ok-left.left at
          (node_elsewhere r.rows v r.shape (inner row b kids no_nodes) (known_words (known_of u)) (known_words (known_of x)) (names_of r.rows (without_dominated r.rows v kids) named ++ left_is.0) (row ∷ dropped v kids) (hits v (points_of kids)) c.in_ok-left.left
          (mark_list_words r u w x (row ∷ []) mark list) left_is.2)
          (set_is.work ∙ ap (λ ws. set ws c.args.k c.in_ok-left.left) (cut.work ∙ ap (take from) (c.mark.ensures.same.same_work ∙ c.left_of_inner.ensures.work)));
    }

pub returns-in_err-left-clause-lacks : goal.returns-in_err-left-clause-lacks
returns-in_err-left-clause-lacks c _ = c.in_err-left.ensures.lacks refl

pub returns-in_err-left-clause-only : goal.returns-in_err-left-clause-only
returns-in_err-left-clause-only c = c.left_of_inner.ensures.only
