use Rattle.std.proofs.Common.{rules, false, get_or}
use Rattle.std.proofs.lemmas.Fn.{filter_same}
use Rattle.era_rows.proofs.publishes.keep_loose.Goals as goal

pub returns-clause-rows : goal.returns-clause-rows
returns-clause-rows c = filter_same _ (λ x. get_or c.args.loose.now.items x false) _ (λ x b f' k. search rules) _ _ c.retain.ensures.filtered
