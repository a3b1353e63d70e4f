use Rattle.std.proofs.Common.{[], ◌∷◌}
use Rattle.nd_rows.proofs.Looks.{looks_more}
use Rattle.nd_rows.proofs.points.read_sol.Goals as goal

pub returns-clause-looks : goal.returns-clause-looks
returns-clause-looks c = looks_more c.args.rows.now (c.args.row ∷ []) c.args.pass.now c.word-len.new.pass c.read_words-words.new.pass c.word-len.ensures.looks c.read_words-words.ensures.looks
