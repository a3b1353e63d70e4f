use Rattle.std.proofs.Common.{IfSome, subst}
use Rattle.nd_shared.specs.Views.{BuildsAt}
use Rattle.nd_shared_tests.proofs.two_passes.is_refused_what_was_built_before_another_update.Goals as goal

pub lose-refusal-requires-clause-built : goal.lose-refusal-requires-clause-built
lose-refusal-requires-clause-built g c = (
  c.expect-a.result,
  subst (λ begun. IfSome begun (λ b. BuildsAt c.rows-rows.result.now b.0 c.point.result b.1 c.expect-a.result c.begin.new.pass)) c.expect-stamp.ensures c.begin.ensures.built,
)
