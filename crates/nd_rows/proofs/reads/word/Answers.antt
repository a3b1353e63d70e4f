use Rattle.nd_rows.proofs.Looks.{looks_word}
use Rattle.nd_rows.proofs.reads.word.Goals as goal

pub returns-clause-looks : goal.returns-clause-looks
returns-clause-looks c =
    looks_word c.args.rows.now c.args.pass.now c.read.new.pass c.args.row c.args.place _ c.requires.place c.requires.pass c.read.ensures.pass c.read.ensures.same c.read.ensures.known
