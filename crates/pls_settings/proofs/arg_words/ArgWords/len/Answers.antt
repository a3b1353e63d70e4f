use Rattle.std.proofs.Common.{arith}
use Rattle.pls_settings.proofs.Pieces.{length-pieces}
use Rattle.pls_settings.proofs.arg_words.ArgWords.len.Goals as goal

pub returns : goal.returns
returns c = rw (← c.self.view_is) (omega (arith, length-pieces 0 c.self.inside.text.items c.self.inside.ends.items))
