use Rattle.pls_turn.specs.Passes.{IsPassOf}
use Rattle.pls_turn.proofs.Lists.{each_all}
use Rattle.pls_archive_tests.proofs.turned.start.Goals as goal

pub returns-clause-passes : goal.returns-clause-passes
returns-clause-passes c = each_all (IsPassOf c.in_ok-archive.archive) c.in_ok-archive.passes.items (λ i p at. (c.in_ok-archive.ensures.passes i p at).pass)
