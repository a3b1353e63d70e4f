use Rattle.std.proofs.Common.{rules, ◌∙◌, not, eqb}
use Rattle.std.proofs.lemmas.Fn.{filter_same}
use Rattle.era_core.proofs.Batches.{others}
use Rattle.era_core.proofs.lists.remove_row.Goals as goal

pub returns-clause-items : goal.returns-clause-items
returns-clause-items c = filter_same _ (λ y. not (eqb y c.args.row)) _ (λ x b f' k. search rules) _ _ c.retain.ensures.filtered ∙ others c.args.row c.args.rows.now.items
