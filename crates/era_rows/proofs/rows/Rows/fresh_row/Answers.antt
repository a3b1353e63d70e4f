use Rattle.std.proofs.Common.{rules, ap, ◌∙◌, sym}
use Rattle.atomic_table.proofs.Lists.{at_index}
use Rattle.era_rows.proofs.rows.Rows.fresh_row.Goals as goal
use lib.ListN.{get_elem?}

pub returns : goal.returns
returns g c = ap (λ xs. get_elem? xs c.args.k) (sym c.args.pass.now.tied.fresh_are) ∙ at_index c.args.pass.now.fresh.items c.args.k c.index.result.now (search rules) (search rules)
