use Rattle.std.proofs.Common.{inl, ◌≤◌, ◌/◌, ◌*◌, ◌∙◌, ap, length, min, subst}
use Rattle.era_core.specs.Views.{rows_in}
use Rattle.era_rows.specs.Passes.{known_of}
use Rattle.nd_shared.proofs.Waiting.{few_wait}
use Rattle.nd_shared.proofs.Reading.{none_here, none_tidied}
use Rattle.nd_shared.proofs.tree.Tree.free_many.Goals as goal

pub returns-else-waiting-most-clause-waits : goal.returns-else-waiting-most-clause-waits
returns-else-waiting-most-clause-waits c =
    let r = c.args.self.now.rows in
    let waiting = length (rows_in (known_of c.args.pass.now).core.retired) in
    let most = c.min-most.ensures ∙ ap (λ n. min (n / (8 * c.passes.result)) 32) c.rows.ensures ∙ ap (λ n. min (r.rows / (8 * n)) 32) c.passes.ensures in
    inl (few_wait waiting r.rows r.passes 32 r.some_passes (subst (λ n. waiting ≤ n) most (subst (λ n. n ≤ c.min-most.result) c.waiting.ensures c.if-waiting-most.false)))

pub returns-then-waiting-most-clause-reads : goal.returns-then-waiting-most-clause-reads
returns-then-waiting-most-clause-reads c rows = none_tidied rows (known_of c.args.pass.now) (known_of c.tidy.new.pass) c.tidy.ensures.tidied

pub returns-else-waiting-most-clause-reads : goal.returns-else-waiting-most-clause-reads
returns-else-waiting-most-clause-reads c rows = none_here rows (known_of c.args.pass.now)
