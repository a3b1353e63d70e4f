use Rattle.std.proofs.Common.{ℕ, ◌+◌, ◌<◌, [], map, take, get_or, IsTrue, pos}
use Rattle.era_rows.specs.Passes.{known_of}
use Rattle.pls_vectors.specs.Dominance.{is_part}
use Rattle.pls_vectors.specs.Word.{to_word}
use Rattle.nd_update.specs.Needed.{ReadsOnly}
use Rattle.nd_update.proofs.Writing.{Writes}
use Rattle.nd_update.proofs.words.write_value.Given as goal

-- the parts before this place were written
abbrev pub invariant-loop-k : goal.invariant-loop-k
invariant-loop-k l = Writes l.rows l.row l.place (l.place + 4) (take l.k (map to_word l.value)) l.fn.pass l.pass × ((i : ℕ) → i < l.k → IsTrue (is_part (get_or l.value i (pos 0)))) × ReadsOnly [] (known_of l.fn.pass) (known_of l.pass)
