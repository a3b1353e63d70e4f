use Rattle.era_rows.specs.Passes.{known_of}
use Rattle.nd_update.proofs.Building.{write_word_does, written_outside}
use Rattle.nd_update.proofs.Reading.{only_written}
use Rattle.nd_update.proofs.words.write_word.Goals as goal

pub returns-clause-does : goal.returns-clause-does
returns-clause-does c = write_word_does c.args.rows.now c.args.pass.now c.write.new.pass c.args.row c.args.place c.args.word c.requires.building c.requires.fresh c.write.ensures.pass c.write.ensures.same c.write.ensures.written

pub returns-clause-outside : goal.returns-clause-outside
returns-clause-outside c = written_outside (known_of c.args.pass.now) (known_of c.write.new.pass) c.args.row c.args.place c.args.word c.write.ensures.written

pub returns-clause-only : goal.returns-clause-only
returns-clause-only c = only_written (known_of c.args.pass.now) (known_of c.write.new.pass) c.args.row c.args.place c.args.word c.write.ensures.written
