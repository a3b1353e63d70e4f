use Rattle.std.proofs.Common.{refl}
use Rattle.pls_settings.proofs.Pieces.{AreEnds-pushed, pieces-pushed}
use Rattle.pls_settings.proofs.arg_words.ArgWords.push.Goals as goal

pub invariant_of-self-2 : goal.invariant_of-self-2
invariant_of-self-2 c =
    AreEnds-pushed _ _ c.as_bytes.result.now _ _ _ c.as_bytes.ensures.utf8
    c.self.invariant c.in_ok-push_piece.ensures.text c.in_ok-push_piece.ensures.ends refl

pub returns-clause-ok : goal.returns-clause-ok
returns-clause-ok c =
    rw (← c.self.view_is, ← c.as_bytes.ensures.value)
    (pieces-pushed _ _ c.as_bytes.result.now _ _ _
    c.self.invariant c.in_ok-push_piece.ensures.text c.in_ok-push_piece.ensures.ends refl)
