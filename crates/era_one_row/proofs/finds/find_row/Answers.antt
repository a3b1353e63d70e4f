use Rattle.era_rows.specs.Passes.{known_of}
use Rattle.era_one_row.proofs.FindingRows.{finds_again}
use Rattle.era_one_row.proofs.finds.find_row.Goals as goal

pub returns-clause-found : goal.returns-clause-found
returns-clause-found g c =
    finds_again c.args.rows.now.rows (known_of c.args.pass.now) (known_of c.take.new.pass) (known_of c.tidy.new.pass) (known_of c.take_or_full.new.pass) c.take.result c.take_or_full.result c.in_default.is c.take.ensures.searched c.tidy.ensures.tidied c.take_or_full.ensures.searched
