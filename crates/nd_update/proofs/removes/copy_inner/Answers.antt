use Rattle.std.proofs.Common.{rules, ◌≡◌, ◌+◌, ◌≤◌, [], ◌∷◌, ◌++◌, length, drop, refl, sym, ap, subst, ◌∙◌, arith, append-nil, append_assoc, length-append}
use Rattle.std.proofs.lemmas.List.{drop_all, length-drop}
use Rattle.era_rows.specs.Known.{known_words}
use Rattle.era_rows.specs.Passes.{known_of, work_of}
use Rattle.nd_rows.specs.declared.layout.TheConstants.{FIRST_LINK}
use Rattle.nd_rows.specs.Layout.{HasWords}
use Rattle.nd_rows.specs.Nodes.{heads}
use Rattle.nd_update.specs.Left.{alive}
use Rattle.nd_update.proofs.Building.{writes_both, still_fresh}
use Rattle.nd_update.proofs.Reading.{only_none, only_any, only_then}
use Rattle.nd_update.proofs.Removing.{row_still, drop_there, alive_split, few_alive}
use Rattle.nd_update.proofs.CopyDone.{writes_none, still_boxed}
use Rattle.nd_update.proofs.removes.copy_inner.Goals as goal
use mathlib.Core.Option.{some}
use lib.ListN.{get_elem?}

pub loop-k-init : goal.loop-k-init
loop-k-init c = (writes_none c.args.rows.now c.args.pass.now c.args.own c.requires.building, refl, ([], tt, refl, refl), omega arith, only_none (c.args.row ∷ []) (known_of c.args.pass.now))

pub copy_child-place-requires-clause-building : goal.copy_child-place-requires-clause-building
copy_child-place-requires-clause-building c = c.loop-k.invariant.0.building

pub copy_child-place-requires-clause-own : goal.copy_child-place-requires-clause-own
copy_child-place-requires-clause-own c = still_fresh c.args.rows.now [] [] (c.args.own ∷ []) c.args.pass.now c.loop-k.pass c.loop-k.invariant.0 c.args.own c.requires.own

pub copy_child-place-requires-clause-place : goal.copy_child-place-requires-clause-place
copy_child-place-requires-clause-place c =
    let few = c.requires.few in let l = c.loop-k-test.true in let n = c.work_len-k-end.ensures in let low = c.loop-k.invariant.3 in omega (arith, few, l, n, low)

pub loop-k-preserved : goal.loop-k-preserved
loop-k-preserved c =
    let r = c.args.rows.now in
    let p = c.args.pass.now in
    let q = c.loop-k.pass in
    let s = c.copy_child-place.new.pass in
    let so_far = c.loop-k.invariant.2 in
    let links = so_far.0 in
    let found = c.work.result in
    let work = work_of p in
    let rest = drop (c.loop-k.k + 1) work in
    let here = drop_there work c.loop-k.k found (subst (λ ws. get_elem? ws c.loop-k.k ≡ some found) c.loop-k.invariant.1 c.work.ensures) in (
      writes_both r c.args.own p q s c.loop-k.invariant.0 c.copy_child-place.ensures.does,
      c.copy_child-place.ensures.work ∙ c.loop-k.invariant.1,
      (
        links ++ alive (found ∷ []),
        c.copy_child-place.ensures.links links so_far.1 so_far.2,
        (let n = length-append links (alive (found ∷ [])) in let e = so_far.2 in let m = c.copy_child-place.ensures.place in omega (arith, n, e, m)),
        append_assoc links (alive (found ∷ [])) (alive rest) ∙ ap (λ ws. links ++ ws) (sym (ap alive here ∙ alive_split found rest)) ∙ so_far.3,
      ),
      (let one = few_alive (found ∷ []) in let m = c.copy_child-place.ensures.place in let low = c.loop-k.invariant.3 in omega (arith, one, m, low)),
      only_then r [] [] (c.args.own ∷ []) (c.args.row ∷ []) p q s c.loop-k.invariant.0 c.loop-k.invariant.4 (only_any (c.args.row ∷ []) (known_of q) (known_of s) c.copy_child-place.ensures.only),
    )

pub end_copy-requires : goal.end_copy-requires
end_copy-requires c =
    let r = c.args.rows.now in
    let own = c.args.own in
    let row = c.args.row in
    let p = c.args.pass.now in
    let q = c.loop-k.pass in
    let links = c.loop-k.invariant.0 in
    let boxed = c.requires.boxed in
    record {
      building = links.building;
      row = row_still r [] [] (own ∷ []) p q links row c.requires.row;
      own = still_fresh r [] [] (own ∷ []) p q links own c.requires.own;
      kind = search rules;
      boxed = (boxed.0, record { boxed = still_boxed r own row p q links boxed.0 boxed.1.boxed; corners = boxed.1.corners });
    }

pub returns : goal.returns
returns c =
    let r = c.args.rows.now in
    let own = c.args.own in
    let row = c.args.row in
    let p = c.args.pass.now in
    let q = c.loop-k.pass in
    let s = c.end_copy.new.pass in
    let links = c.loop-k.invariant.0 in
    let ends = c.end_copy.ensures in
    let ideal = c.requires.boxed.1.boxed.ideal in
    record {
      does = writes_both r own p q s links ends.does;
      work = ends.work ∙ c.loop-k.invariant.1;
      read = let parts = ideal.is_value.at_least_two in let same = ideal.parts in ends.read (omega (arith, parts, same));
      inner = λ b named is rows.
          let so_far = c.loop-k.invariant.2 in
          let work = work_of p in
          let none = drop_all c.loop-k.k work (let l = c.loop-k-test.false in let n = c.work_len-k-end.ensures in omega (arith, l, n)) in
          let all = sym (append-nil so_far.0) ∙ ap (λ ws. so_far.0 ++ alive ws) (sym none) ∙ so_far.3 ∙ rows in
          let written = subst (HasWords (known_words (known_of q)) own FIRST_LINK) all so_far.1 in
          let len : c.loop-k.place ≡ length (heads named) = sym so_far.2 ∙ ap length all in
          let few : length (heads named) ≤ 20 = (let n = ap length rows in let most = few_alive (drop c.args.from work) in let m = length-drop c.args.from work in let low = c.requires.few in omega (arith, n, most, m, low)) in
          record {
            links = ends.links (heads named) written len few;
            boxed = ends.boxed b (record { boxed = still_boxed r own row p q links b is.boxed; corners = is.corners });
          };
      only = only_then r [] [] (own ∷ []) (row ∷ []) p q s links c.loop-k.invariant.4 ends.only;
    }
