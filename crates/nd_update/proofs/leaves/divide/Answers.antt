use Rattle.std.proofs.Common.{rules, ◌≡◌, ◌+◌, ◌*◌, ◌<◌, ◌≤◌, Some, [], ◌∷◌, ◌++◌, length, get_or, refl, sym, ap, subst, ◌∙◌, arith}
use Rattle.std.proofs.lemmas.List.{take_all, length-map}
use Rattle.era_core.specs.declared.sizes.TheConstants.{KINDS}
use Rattle.era_core.specs.Lists.{In}
use Rattle.era_core.proofs.ListFacts.{in_head, in_tail}
use Rattle.era_rows.specs.Known.{known_words}
use Rattle.era_rows.specs.Passes.{known_of, marked_of, IsReadable}
use Rattle.pls_archive.specs.Lists.{Every}
use Rattle.nd_rows.specs.declared.layout.TheConstants.{INNER, FIRST_LINK, VALUE}
use Rattle.nd_rows.specs.Nodes.{Placed, rows_with}
use Rattle.nd_rows.specs.Layout.{HasValue}
use Rattle.nd_rows.proofs.Looks.{in_get}
use Rattle.nd_tree.specs.Split.{split}
use Rattle.nd_update.specs.Insertion.{values_with}
use Rattle.nd_update.specs.FilledLeaves.{AreGroupLeaves}
use Rattle.nd_update.proofs.Building.{does_both, does_wider, still_fresh, still_readable}
use Rattle.nd_update.proofs.Filling.{first_row, rows_push}
use Rattle.nd_update.proofs.FullLeaves.{put_next, put_all, every_get, readable_low, link_word, link_readable, link_value, all_long, all_uniform, values_push, groups_does, groups_link, groups_kept, groups_next, groups_few, groups_are, groups_count, value_read, long_push, done_does, done_groups}
use Rattle.nd_update.proofs.Lacking.{does_lacks}
use Rattle.nd_update.proofs.Owning.{match_none}
use Rattle.nd_update.proofs.Paying.{paid_more, paid_still, paid_took}
use Rattle.nd_update.proofs.Reading.{only_row, only_then, only_still}
use Rattle.nd_update.proofs.leaves.divide.Goals as goal

pub overflow_cast-link : goal.overflow_cast-link
overflow_cast-link c =
    let r = c.args.rows.now in
    let placed = c.requires.linked.0 in
    let has = c.requires.linked.1 in
    let low : c.loop-k.k < length placed = omega (arith, c.requires.linked.2, c.loop-k-test.true) in
    let word = link_word r.shape (known_of c.args.pass.now) c.args.row placed has c.loop-k.k low in
    let is = c.read_word-link.ensures.word _ (c.loop-k.invariant.does.elsewhere c.args.row (FIRST_LINK + c.loop-k.k) refl ∙ word) in
    let few = readable_low r c.args.pass.now c.requires.building _ (link_readable r.shape (known_of c.args.pass.now) c.args.row placed has c.loop-k.k low) in
    omega (arith, is, few)

pub read_value-requires : goal.read_value-requires
read_value-requires c =
    let r = c.args.rows.now in
    let p = c.args.pass.now in
    let q = c.read_word-link.new.pass in
    let k = c.loop-k.k in
    let placed = c.requires.linked.0 in
    let has = c.requires.linked.1 in
    let low : k < length placed = omega (arith, c.requires.linked.2, c.loop-k-test.true) in
    let word = link_word r.shape (known_of p) c.args.row placed has k low in
    let is = c.read_word-link.ensures.word _ (c.loop-k.invariant.does.elsewhere c.args.row (FIRST_LINK + k) refl ∙ word) in
    let both = does_both r [] [] [] [] [] [] p c.loop-k.pass q c.loop-k.invariant.does c.read_word-link.ensures.does in
    record {
      building = both.building;
      row = subst (λ x. IsReadable x (known_of q)) (sym is) (still_readable r [] [] [] p q both _ (link_readable r.shape (known_of p) c.args.row placed has k low));
      place = search rules;
      value = (
        get_or (values_with placed) k [],
        subst (λ x. HasValue r.shape (known_words (known_of q)) x VALUE (get_or (values_with placed) k [])) (sym is)
            (value_read r [] [] [] p q both r.shape _ VALUE _ refl (link_value r.shape (known_of p) c.args.row placed has k low)),
      );
    }

pub loop-k-preserved : goal.loop-k-preserved
loop-k-preserved c =
    let r = c.args.rows.now in
    let k = c.loop-k.k in
    let both = does_both r [] [] [] [] [] [] c.args.pass.now c.loop-k.pass c.read_word-link.new.pass c.loop-k.invariant.does c.read_word-link.ensures.does in
    record {
      does = does_both r [] [] [] [] [] [] c.args.pass.now c.read_word-link.new.pass c.read_value.new.pass both c.read_value.ensures.does;
      work = c.read_value.ensures.work ∙ c.read_word-link.ensures.work ∙ c.loop-k.invariant.work;
      only = λ placed has long.
          let low : k < length placed = omega (arith, long, c.loop-k-test.true) in
          let word = link_word r.shape (known_of c.args.pass.now) c.args.row placed has k low in
          let is = c.read_word-link.ensures.word _ (c.loop-k.invariant.does.elsewhere c.args.row (FIRST_LINK + k) refl ∙ word) in
          let rows = rows_with placed in
          let rows_low : k < length rows = (let same = length-map placed (λ (p : Placed). p.row) in omega (arith, same, low)) in
          let all = c.args.row ∷ rows in
          let q = c.read_word-link.new.pass in
          let s = c.read_value.new.pass in
          only_then r [] [] [] all c.args.pass.now c.loop-k.pass s c.loop-k.invariant.does (c.loop-k.invariant.only placed has long)
          (only_then r [] [] [] all c.loop-k.pass q s c.read_word-link.ensures.does (only_row c.args.row all (known_of c.loop-k.pass) (known_of q) (in_head c.args.row rows) c.read_word-link.ensures.only)
          (only_row c.read_word-link.result all (known_of q) (known_of s) (subst (λ x. In x all) (sym is) (in_tail (get_or rows k 0) c.args.row rows (in_get rows k rows_low))) c.read_value.ensures.only));
      read = λ placed has long.
          let low : k < length placed = omega (arith, long, c.loop-k-test.true) in
          let less : k < 21 = omega (arith, c.loop-k-test.true) in
          let so_far = c.loop-k.invariant.read placed has long in
          let word = link_word r.shape (known_of c.args.pass.now) c.args.row placed has k low in
          let is = c.read_word-link.ensures.word _ (c.loop-k.invariant.does.elsewhere c.args.row (FIRST_LINK + k) refl ∙ word) in
          let value = c.read_value.ensures.value (get_or (values_with placed) k [])
          (subst (λ x. HasValue r.shape (known_words (known_of c.read_word-link.new.pass)) x VALUE (get_or (values_with placed) k [])) (sym is)
          (value_read r [] [] [] c.args.pass.now c.read_word-link.new.pass both r.shape _ VALUE _ refl (link_value r.shape (known_of c.args.pass.now) c.args.row placed has k low))) in
          let rows_low : k < length (rows_with placed) = (let same = length-map placed (λ (p : Placed). p.row) in omega (arith, same, low)) in
          let values_low : k < length (values_with placed) = (let same = length-map placed (λ (p : Placed). p.point.value) in omega (arith, same, low)) in
          (put_next (rows_with placed) c.loop-k.links k c.args.at 0 c.read_word-link.result rows_low less is so_far.0, put_next (values_with placed) c.loop-k.values k c.args.value.now [] c.read_value.result values_low less value so_far.1);
    }

pub split-groups-requires-clause-parts : goal.split-groups-requires-clause-parts
split-groups-requires-clause-parts c =
    let r = c.args.rows.now in
    let placed = c.requires.linked.0 in
    let has = c.requires.linked.1 in
    let long = c.requires.linked.2 in
    let done : c.loop-k.k ≡ 20 = omega (arith, c.loop-k-test.false, c.loop-k.auto.k-end) in
    let values = put_all (values_with placed) c.loop-k.values c.loop-k.k c.args.value.now done (length-map placed (λ (p : Placed). p.point.value) ∙ long) (c.loop-k.invariant.read placed has long).1 in
    all_uniform r.shape (known_words (known_of c.args.pass.now)) placed has.points long c.args.value.now c.requires.parts c.loop-k.values values

pub loop-g-init : goal.loop-g-init
loop-g-init c =
    let r = c.args.rows.now in
    let row = c.args.row in
    record {
      work = c.loop-k.invariant.work;
      only = c.loop-k.invariant.only;
      paid = paid_still r 1 [] [] c.args.pass.now c.loop-k.pass c.requires.building c.loop-k.invariant.does c.requires.paid;
      kept = λ k high. c.loop-k.invariant.does.elsewhere row k refl;
      written = ([], refl, does_wider r [] [] [] (row ∷ []) c.args.pass.now c.loop-k.pass (λ x here. absurd (let none : In x [] = here in omega arith)) c.loop-k.invariant.does, tt, λ placed rows values. tt);
    }

pub write_group-requires : goal.write_group-requires
write_group-requires c =
    let r = c.args.rows.now in
    let placed = c.requires.linked.0 in
    let has = c.requires.linked.1 in
    let long = c.requires.linked.2 in
    let words = known_words (known_of c.args.pass.now) in
    let groups = c.split-groups.result in
    let g = c.loop-g.g in
    let done : c.loop-k.k ≡ 20 = omega (arith, c.loop-k-test.false, c.loop-k.auto.k-end) in
    let values = put_all (values_with placed) c.loop-k.values c.loop-k.k c.args.value.now done (length-map placed (λ (p : Placed). p.point.value) ∙ long) (c.loop-k.invariant.read placed has long).1 in
    let low : g < length groups = omega (arith, c.loop-g-test.true, c.count-g-end.ensures) in
    let few = groups_few r.shape words placed has.points long c.args.value.now c.requires.parts c.loop-k.values values in
    let are : length groups ≡ r.shape + 1 =
    ap length c.split-groups.ensures.value ∙ groups_are r.shape words placed has.points long c.args.value.now c.requires.parts c.loop-k.values values in
    record {
      building = search rules;
      pinned = search rules;
      paid = paid_more (g + 1) (r.shape + 2) (known_of c.loop-g.pass) (marked_of c.loop-g.pass) (omega (arith, are, low)) c.loop-g.invariant.paid;
      group =
          subst (λ ks. (0 < length ks) × (length ks ≤ 20)) (sym c.group.ensures)
          (every_get (λ ks. (0 < length ks) × (length ks ≤ 20)) groups g [] low (subst (Every (λ ks. (0 < length ks) × (length ks ≤ 20))) (sym c.split-groups.ensures.value) few));
      places = search rules;
      parts = λ k e here.
          every_get (λ v. length v ≡ r.shape) c.loop-k.values k e here (all_long r.shape words placed has.points long c.args.value.now c.requires.parts c.loop-k.values values);
    }

pub returns-in_err-leaf-clause-divided : goal.returns-in_err-leaf-clause-divided
returns-in_err-leaf-clause-divided c =
    let written = c.loop-g.invariant.written in
    match_none c.from_residual.result _ _ c.from_residual.ensures
    (does_lacks c.args.rows.now written.0 [] (c.args.row ∷ written.0) c.args.pass.now c.loop-g.pass c.write_group.new.pass written.2 c.in_err-leaf.ensures.does)

pub write_word-requires-clause-fresh : goal.write_word-requires-clause-fresh
write_word-requires-clause-fresh c =
    let r = c.args.rows.now in
    let row = c.args.row in
    let leaf = c.in_ok-leaf.leaf in
    let written = c.loop-g.invariant.written in
    still_fresh r (leaf ∷ []) [] (leaf ∷ []) c.loop-g.pass c.write_group.new.pass c.in_ok-leaf.ensures.does row (still_fresh r written.0 [] (row ∷ written.0) c.args.pass.now c.loop-g.pass written.2 row c.requires.fresh)

pub loop-g-preserved : goal.loop-g-preserved
loop-g-preserved c =
    let r = c.args.rows.now in
    let row = c.args.row in
    let g = c.loop-g.g in
    let leaf = c.in_ok-leaf.leaf in
    let inv = c.loop-g.invariant in
    let written = inv.written in
    let leaves = written.0 in
    let p = c.args.pass.now in
    let q = c.loop-g.pass in
    let s = c.write_group.new.pass in
    let u = c.write_word.new.pass in
    let wrote = c.in_ok-leaf.ensures.does in
    let linked = c.write_word.ensures.does in
    let placed' = c.requires.linked.0 in
    let count = groups_count r.shape (known_words (known_of p)) placed' c.requires.linked.1.points c.requires.linked.2 c.args.value.now c.requires.parts in
    let done : c.loop-k.k ≡ 20 = omega (arith, c.loop-k-test.false, c.loop-k.auto.k-end) in
    let vals = put_all (values_with placed') c.loop-k.values c.loop-k.k c.args.value.now done (length-map placed' (λ (z : Placed). z.point.value) ∙ c.requires.linked.2) (c.loop-k.invariant.read placed' c.requires.linked.1 c.requires.linked.2).1 in
    let few : length c.split-groups.result ≤ 5 = subst (λ gs. length gs ≤ 5) (sym c.split-groups.ensures.value) (count c.loop-k.values vals) in
    let low : g < length c.split-groups.result = omega (arith, c.loop-g-test.true, c.count-g-end.ensures) in
    record {
      work = c.write_word.ensures.work ∙ c.in_ok-leaf.ensures.work ∙ inv.work;
      only = λ placed has long.
          only_still r leaves [] (row ∷ leaves) (row ∷ rows_with placed) p q u written.2 (inv.only placed has long) (only_then r (leaf ∷ []) [] (leaf ∷ []) [] q s u wrote c.write_group.ensures.only c.write_word.ensures.only);
      paid = paid_still r (g + 1 + 1) [] (row ∷ []) s u wrote.building linked (paid_took r (g + 1) leaf [] (leaf ∷ []) q s written.2.building wrote inv.paid);
      kept = groups_kept r row leaves leaf p q s u written.2 wrote linked c.requires.fresh (FIRST_LINK + g) (omega (arith, low, few)) inv.kept c.write_word.ensures.outside;
      written = (
        leaves ++ leaf ∷ [],
        long_push leaves leaf g written.1,
        groups_does r row leaves leaf p q s u written.2 wrote linked c.requires.fresh,
        groups_link r row leaves leaf p q s u written.2 wrote linked c.requires.fresh g (FIRST_LINK + g) written.1 refl written.3 c.write_word.ensures.outside (c.write_word.ensures.word ∙ ap Some c.from.ensures),
        λ placed rows values.
            groups_next r row leaves leaf p q s u written.2 wrote linked c.requires.fresh r.shape placed c.split-groups.result g c.group.result.now c.loop-k.links c.loop-k.values low c.group.ensures rows values (written.4 placed rows values)
            c.in_ok-leaf.ensures.links c.in_ok-leaf.ensures.boxed,
      );
    }

pub overflow_cast-count : goal.overflow_cast-count
overflow_cast-count c =
    let r = c.args.rows.now in
    let placed = c.requires.linked.0 in
    let has = c.requires.linked.1 in
    let long = c.requires.linked.2 in
    let done : c.loop-k.k ≡ 20 = omega (arith, c.loop-k-test.false, c.loop-k.auto.k-end) in
    let values = put_all (values_with placed) c.loop-k.values c.loop-k.k c.args.value.now done (length-map placed (λ (p : Placed). p.point.value) ∙ long) (c.loop-k.invariant.read placed has long).1 in
    let few : length c.split-groups.result ≤ 5 =
    subst (λ gs. length gs ≤ 5) (sym c.split-groups.ensures.value) (groups_count r.shape (known_words (known_of c.args.pass.now)) placed has.points long c.args.value.now c.requires.parts c.loop-k.values values) in
    omega (arith, few, c.count.ensures)

pub write_first-requires-clause-fresh : goal.write_first-requires-clause-fresh
write_first-requires-clause-fresh c =
    let written = c.loop-g.invariant.written in still_fresh c.args.rows.now written.0 [] (c.args.row ∷ written.0) c.args.pass.now c.loop-g.pass written.2 c.args.row c.requires.fresh

pub returns-clause-divided : goal.returns-clause-divided
returns-clause-divided c =
    let r = c.args.rows.now in
    let row = c.args.row in
    let written = c.loop-g.invariant.written in
    let groups = c.split-groups.result in
    let done : c.loop-k.k ≡ 20 = omega (arith, c.loop-k-test.false, c.loop-k.auto.k-end) in
    let all : c.loop-g.g ≡ length groups = omega (arith, c.loop-g-test.false, c.loop-g.auto.g-end, c.count-g-end.ensures) in
    let count : length written.0 ≡ c.count.result = written.1 ∙ all ∙ sym c.count.ensures in (
      written.0,
      done_does r row written.0 c.args.pass.now c.loop-g.pass c.write_first.new.pass written.2 c.write_first.ensures.does,
      λ placed has long q at value.
          let read = c.loop-k.invariant.read placed has long in
          let links = put_all (rows_with placed) c.loop-k.links c.loop-k.k c.args.at done (length-map placed (λ (p : Placed). p.row) ∙ long) read.0 in
          let values = put_all (values_with placed) c.loop-k.values c.loop-k.k c.args.value.now done (length-map placed (λ (p : Placed). p.point.value) ∙ long) read.1 in
          let rows : rows_with (placed ++ q ∷ []) ≡ c.loop-k.links = rows_push placed q ∙ ap (λ x. rows_with placed ++ x ∷ []) at ∙ sym links in
          let vals : values_with (placed ++ q ∷ []) ≡ c.loop-k.values = values_push placed q ∙ ap (λ v. values_with placed ++ v ∷ []) value ∙ sym values in
          let before = written.4 (placed ++ q ∷ []) rows vals in
          let each : AreGroupLeaves r.shape (known_words (known_of c.loop-g.pass)) (placed ++ q ∷ []) written.0 (split (values_with (placed ++ q ∷ []))) =
          subst (AreGroupLeaves r.shape (known_words (known_of c.loop-g.pass)) (placed ++ q ∷ []) written.0) (take_all c.loop-g.g groups (omega (arith, all)) ∙ c.split-groups.ensures.value ∙ ap split (sym vals)) before in
          record {
            links = first_row INNER row written.0 (known_words (known_of c.loop-g.pass)) (known_words (known_of c.write_first.new.pass)) written.3 c.write_first.ensures.outside
                (c.write_first.ensures.word ∙ ap (λ n. Some (KINDS * n + INNER)) (sym count));
            leaves_are = done_groups r row written.0 c.args.pass.now c.loop-g.pass c.write_first.new.pass written.2 c.write_first.ensures.does c.requires.fresh r.shape (placed ++ q ∷ []) (split (values_with (placed ++ q ∷ []))) each;
          },
    )

pub returns-in_err-leaf-clause-only : goal.returns-in_err-leaf-clause-only
returns-in_err-leaf-clause-only c placed has long =
    let written = c.loop-g.invariant.written in
    only_still c.args.rows.now written.0 [] (c.args.row ∷ written.0) (c.args.row ∷ rows_with placed) c.args.pass.now c.loop-g.pass c.write_group.new.pass written.2 (c.loop-g.invariant.only placed has long) c.write_group.ensures.only

pub returns-clause-only : goal.returns-clause-only
returns-clause-only c placed has long =
    let written = c.loop-g.invariant.written in
    only_still c.args.rows.now written.0 [] (c.args.row ∷ written.0) (c.args.row ∷ rows_with placed) c.args.pass.now c.loop-g.pass c.write_first.new.pass written.2 (c.loop-g.invariant.only placed has long) c.write_first.ensures.only
