use Rattle.std.proofs.Common.{ap, ◌∙◌, ◌^◌, ◌*◌, ◌/◌, ◌%◌}
use Rattle.std.proofs.lemmas.Nat.{and_mask}
use Rattle.pls_vectors.specs.Solution.{byte}
use Rattle.pls_vectors.proofs.Entries.{shift-bytes}
use Rattle.pls_vectors.proofs.sol.byte.Goals as goal

pub returns : goal.returns
unfolding byte
returns c =
    and_mask (c.args.word / 2 ^ (8 * c.args.k)) 8 ∙ ap (λ d. c.args.word / d % 256) (shift-bytes c.args.k)
