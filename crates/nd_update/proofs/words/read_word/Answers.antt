use Rattle.nd_update.proofs.Building.{read_word_does}
use Rattle.nd_update.proofs.Paying.{was_read}
use Rattle.nd_update.proofs.Reading.{only_word}
use Rattle.nd_update.proofs.words.read_word.Goals as goal

pub returns-clause-does : goal.returns-clause-does
returns-clause-does c = read_word_does c.args.rows.now c.args.pass.now c.read.new.pass c.args.row c.args.place c.read.result c.requires.building c.requires.place c.read.ensures.pass c.read.ensures.same c.read.ensures.known

pub returns-clause-read : goal.returns-clause-read
returns-clause-read c = was_read c.args.rows.now c.args.pass.now c.read.new.pass c.args.row c.args.place c.read.result c.requires.building c.requires.place c.read.ensures.known

pub returns-clause-only : goal.returns-clause-only
returns-clause-only c = only_word c.args.rows.now c.args.pass.now c.read.new.pass c.args.row c.args.place c.read.result c.requires.building c.requires.place c.read.ensures.pass c.read.ensures.same c.read.ensures.known
