use Rattle.std.proofs.Common.{◌≡◌, true, sym, subst, ◌∙◌}
use Rattle.era_rows.specs.Passes.{seen_of, memory_of}
use Rattle.nd_rows.specs.Entries.{is_submitted}
use Rattle.nd_rows.proofs.Remembered.{recalled_not_member}
use Rattle.nd_rows.proofs.remembers.recalls_better.Goals as goal

pub returns-clause-not_member : goal.returns-clause-not_member
returns-clause-not_member c found =
    let p = c.args.pass.now in
    recalled_not_member (seen_of p) c.args.value.now (memory_of p) (λ place words there. subst (λ n. is_submitted n words (seen_of p) ≡ true) (sym c.requires.parts) (p.recalls.holds place words there))
    (sym c.recalls_some.ensures ∙ found)
