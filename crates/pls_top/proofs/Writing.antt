-- What a sink holds after a text was written to it, whole or in part.
use Rattle.std.proofs.Common.{◌≡◌, ℕ, List, ◌++◌, length, Option, Some, ap, ◌∙◌}
use Rattle.std.proofs.Math.Seq.{take-length}
use Rattle.pls_io.specs.Streams.{Writes}
use Rattle.pls_io.specs.Refusals.{WritesPrefix}
use Rattle.pls_io.specs.declared.write.WriteRefusal.{WriteRefusal}
use Rattle.pls_io.specs.declared.write.WriteRefusal.TheVariants.{WriteFault}
use Rattle.pls_top.specs.Answer.{Written, WrittenInPart}

pub wrote_whole :
    (text : List ℕ) (written written' : Option (List ℕ)) → Writes (length text) written text written'
    → (before : List ℕ) → written ≡ Some before → Written text before written'
wrote_whole text written written' writes before told =
    writes.told before told ∙ ap (λ (t : List ℕ). Some (before ++ t)) (take-length text)

pub wrote_part :
    (text : List ℕ) (written written' : Option (List ℕ)) (refusal : WriteRefusal) → WritesPrefix written text written' refusal
    → (before : List ℕ) → written ≡ Some before → WrittenInPart text before written'
wrote_part text written written' (WriteFault n) writes before told = (n, writes.0, writes.1.told before told)
