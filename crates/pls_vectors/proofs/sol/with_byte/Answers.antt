use Rattle.std.proofs.Common.{◌≡◌, ℕ, ◌*◌, ◌%◌, ◌^◌, ◌<◌, ap, ◌∙◌, arith}
use Rattle.std.proofs.lemmas.Nat.{shl_whole}
use Rattle.pls_vectors.specs.Solution.{byte, with_byte}
use Rattle.pls_vectors.proofs.Entries.{shift-bytes, byte-below, byte-within, with_byte-fits}
use Rattle.pls_vectors.proofs.sol.with_byte.Goals as goal

shifted : (b k : ℕ) → b < 256 → k < 8 → b * 2 ^ (8 * k) % 2 ^ 64 ≡ b * 256 ^ k
shifted b k small within = shl_whole b 8 (8 * k) 64 small (omega arith) ∙ ap (λ p. b * p) (shift-bytes k)

pub overflow_sub-result : goal.overflow_sub-result
overflow_sub-result c =
    rw (c.byte.ensures, shifted (byte c.args.word c.args.k) c.args.k (byte-below _ _) c.requires)
    (byte-within c.args.word c.args.k)

pub overflow_add-result : goal.overflow_add-result
unfolding with_byte
overflow_add-result c =
    rw (c.byte.ensures, shifted (byte c.args.word c.args.k) c.args.k (byte-below _ _) c.requires, shifted c.args.x c.args.k c.ranges.x.fits c.requires)
    (record { fits = with_byte-fits 8 c.args.word c.args.k c.args.x c.requires c.ranges.x.fits c.ranges.word.fits })

pub returns : goal.returns
unfolding with_byte
returns c =
    rw (c.byte.ensures, shifted (byte c.args.word c.args.k) c.args.k (byte-below _ _) c.requires, shifted c.args.x c.args.k c.ranges.x.fits c.requires)
