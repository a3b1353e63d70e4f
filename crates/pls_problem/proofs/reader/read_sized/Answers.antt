use Rattle.std.proofs.Common.{◌≡◌, ◌++◌, ◌∙◌, refl, sym, ap, inr, Ok}
use Rattle.std.proofs.lemmas.Result.{err_from_is_err_and}
use Rattle.pls_problem.specs.declared.instance.Instance.{Instance}
use Rattle.pls_problem.specs.Kinds.{instance_of}
use Rattle.pls_problem.specs.Reading.{ended_with}
use Rattle.pls_problem.specs.Sizes.{in_text}
use Rattle.pls_problem.proofs.ReadingSteps.{or_then}
use Rattle.pls_problem.proofs.ReadingSized.{fault_in_capacities, fault_in_amounts, sized-read}
use Rattle.pls_problem.proofs.reader.read_sized.Goals as goal

pub returns-in_err-capacities-clause-fault : goal.returns-in_err-capacities-clause-fault
returns-in_err-capacities-clause-fault c =
    let p = err_from_is_err_and c.from_residual.result c.from_residual.ensures.1 in
    rw (p.1, p.2)
    (or_then
    (fault_in_capacities c.args.end c.args.sizes.now c.capacities.result _ c.capacities.ensures refl c.args.words.now _)
    c.in_err-capacities.ensures.fault)

pub returns-in_err-amounts-clause-fault : goal.returns-in_err-amounts-clause-fault
returns-in_err-amounts-clause-fault c =
    let exit = c.from_residual-in_err-amounts in
    let p = err_from_is_err_and exit.result exit.ensures.1 in
    rw (p.1, p.2)
    (or_then
    (fault_in_amounts c.args.end c.args.sizes.now c.capacities.result c.amounts.result c.capacities.ensures c.amounts.ensures c.args.words.now _ _
    c.in_ok-capacities.ensures.read _)
    c.in_err-amounts.ensures.fault)

pub returns-in_err-no_more-clause-fault : goal.returns-in_err-no_more-clause-fault
returns-in_err-no_more-clause-fault c =
    let exit = c.from_residual-in_err-no_more in
    let p = err_from_is_err_and exit.result exit.ensures.1 in
    rw (p.1, p.2)
    (inr
    (sized-read c.args.end c.args.sizes.now c.capacities.result c.amounts.result c.capacities.ensures c.amounts.ensures c.args.words.now _ _
    c.in_ok-capacities.ensures.read _ _ c.in_ok-amounts.ensures.read
    ∙ c.in_err-no_more.ensures.fault _))

pub returns-clause-read : goal.returns-clause-read
returns-clause-read c =
    let s = c.args.sizes.now in
    let made : c.in_ok-instance.field-0 ≡ instance_of s.kind (in_text s) (c.in_ok-capacities.capacities.items ++ c.in_ok-amounts.amounts.items) =
    rw (← c.deref.ensures.value, ← c.deref-2.ensures.value) c.in_ok-instance.ensures in
    sized-read c.args.end s c.capacities.result c.amounts.result c.capacities.ensures c.amounts.ensures c.args.words.now _ _
    c.in_ok-capacities.ensures.read _ _ c.in_ok-amounts.ensures.read
    ∙ (ap (ended_with _) c.in_ok-no_more.ensures.read ∙ ap (λ (i : Instance). Ok i) (sym made))
