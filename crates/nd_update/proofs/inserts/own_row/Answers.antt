use Rattle.std.proofs.Common.{inl, inr, [], ◌∷◌, refl, sym, ◌∙◌}
use Rattle.era_rows.proofs.Flags.{from_in}
use Rattle.era_rows.specs.Passes.{known_of}
use Rattle.nd_update.proofs.Building.{does_none}
use Rattle.nd_update.proofs.Filling.{match_both}
use Rattle.nd_update.proofs.Owning.{not_fresh, not_fresh_pinned, readable_row}
use Rattle.nd_update.proofs.Reading.{only_none}
use Rattle.nd_update.proofs.inserts.own_row.Goals as goal

pub is_fresh-requires-clause-row : goal.is_fresh-requires-clause-row
is_fresh-requires-clause-row c = readable_row c.args.rows.now c.args.pass.now c.requires.building c.args.row c.requires.row

pub returns-then-is_fresh-clause-owned : goal.returns-then-is_fresh-clause-owned
returns-then-is_fresh-clause-owned c =
    ([], [], does_none c.args.rows.now c.args.pass.now c.requires.building, inl (from_in c.args.row (known_of c.args.pass.now).core.fresh (sym c.is_fresh.ensures ∙ c.if-is_fresh.true), refl, refl, refl))

pub copy_node-requires-clause-row : goal.copy_node-requires-clause-row
copy_node-requires-clause-row c = not_fresh_pinned (known_of c.args.pass.now) c.args.row c.requires.row (sym c.is_fresh.ensures ∙ c.if-is_fresh.false)

pub copy_node-requires-clause-unmarked : goal.copy_node-requires-clause-unmarked
copy_node-requires-clause-unmarked c = c.requires.unmarked (not_fresh_pinned (known_of c.args.pass.now) c.args.row c.requires.row (sym c.is_fresh.ensures ∙ c.if-is_fresh.false))

pub returns-clause-owned : goal.returns-clause-owned
returns-clause-owned c =
    match_both c.copy_node.result _ _ _ _ (λ lacks. lacks)
    (λ own does. (own ∷ [], c.args.row ∷ [], does, inr (not_fresh c.args.row (known_of c.args.pass.now).core.fresh (sym c.is_fresh.ensures ∙ c.if-is_fresh.false), refl, refl))) c.copy_node.ensures.does

pub returns-then-is_fresh-clause-only : goal.returns-then-is_fresh-clause-only
returns-then-is_fresh-clause-only c = only_none (c.args.row ∷ []) (known_of c.args.pass.now)

pub returns-clause-only : goal.returns-clause-only
returns-clause-only c = c.copy_node.ensures.only
