use Rattle.std.proofs.Common.{slice_index, set, List, ℕ, sym, subst, refl, arith}
use Rattle.std.proofs.lemmas.List.{set-get_or}
use Rattle.pls_pool.specs.DeskRule.{Kept}
use Rattle.atomic_table.specs.Table.{keeps}
use Rattle.pls_pool.specs.Tallies.{finding}
use Rattle.pls_pool.proofs.DeskMoves.{finds, looks_causes}
use Rattle.pls_pool.proofs.desk.Desk.halted.Goals as goal

pub load-requires : goal.load-requires
load-requires c =
    let desk = c.args.self.now in
    let seat = c.args.seat.now.seat in
    let long = desk.long in (
      c.requires.at_table,
      omega arith,
      λ s kept homes at bound.
          let found = slice_index s.words 16 in (
            finding found seat.me.0,
            keeps,
            tt,
            subst (λ (ws : List ℕ). Kept desk.table.shared.key ws (set s.views seat.id (finding found seat.me.0))) (sym (set-get_or s.words 16 0))
                (finds desk.table.shared.key s.words s.views kept seat.id seat.me.0 at found),
            (refl, looks_causes desk.table.shared.key s.words s.views kept seat.id seat.me.0 at c.requires.holds),
          ),
    )
