use Rattle.std.proofs.Common.{ap, ◌∙◌}
use Rattle.pls_problem.proofs.ReadBack.{written-alone}
use Rattle.pls_problem.proofs.writer.write.Goals as goal

pub returns-clause-read : goal.returns-clause-read
returns-clause-read c =
    written-alone _ _ _ _ c.new-text.ensures.bytes
    (ap (λ v. v.items) c.into_bytes.ensures.value ∙ c.in_ok-write_instance.ensures.text)
    c.in_ok-write_instance.ensures.read
