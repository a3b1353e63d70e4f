use Rattle.era_rows.specs.Passes.{known_of}
use Rattle.era_rows.proofs.Freeing.{tidied}
use Rattle.era_rows.proofs.rows.Rows.tidy.Goals as goal

pub returns-clause-tidied : goal.returns-clause-tidied
returns-clause-tidied g c =
    tidied (known_of c.args.pass.now) (known_of c.least_reserved-least.new.pass) (known_of c.free_clear.new.pass) c.least_reserved-least.result c.least_reserved-least.ensures.scanned c.free_clear.ensures.left c.free_clear.ensures.blocked
