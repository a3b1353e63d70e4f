use Rattle.std.proofs.Common.{◌≡◌, true, sym, subst, ◌∙◌}
use Rattle.era_rows.specs.Passes.{seen_of, memory_of}
use Rattle.nd_rows.specs.Entries.{is_submitted}
use Rattle.nd_rows.proofs.Remembered.{recalled_submitted}
use Rattle.nd_rows.proofs.remembers.recalls.Goals as goal

pub returns-clause-submitted : goal.returns-clause-submitted
returns-clause-submitted c found =
    let p = c.args.pass.now in
    recalled_submitted (seen_of p) c.args.value.now (memory_of p) (λ place words there. subst (λ n. is_submitted n words (seen_of p) ≡ true) (sym c.requires.parts) (p.recalls.holds place words there))
    (sym c.recalls_some.ensures ∙ found)
