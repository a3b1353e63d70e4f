use Rattle.std.proofs.Common.{Some, map, take, sym, ap, ap₂, ◌∙◌}
use Rattle.std.specs.Prelude.{slice_set}
use Rattle.era_rows.specs.Passes.{seen_of, memory_of}
use Rattle.pls_archive.specs.History.{submissions}
use Rattle.pls_archive.specs.Reply.{has_value}
use Rattle.pls_vectors.specs.Word.{from_word}
use Rattle.nd_rows.proofs.Remembered.{words_back}
use Rattle.nd_rows.proofs.remembers.remember.Goals as goal

pub remember-requires-clause-says : goal.remember-requires-clause-says
remember-requires-clause-says c =
    ap (has_value (submissions (seen_of c.args.pass.now)))
    (ap₂ (λ n words. map from_word (take n words)) (sym c.requires.parts) c.words_of.ensures.words ∙ words_back c.args.value.now c.words_of.ensures.value.in_range)
    ∙ c.requires.submitted

pub returns-clause-memory : goal.returns-clause-memory
returns-clause-memory c = c.remember.ensures.memory ∙ ap (λ words. slice_set (memory_of c.args.pass.now) c.args.place (Some words)) c.words_of.ensures.words
