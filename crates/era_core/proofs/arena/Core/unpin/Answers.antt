use Rattle.std.proofs.Common.{◌≡◌, ◌+◌, ◌<◌, true, None, length, set, refl, sym, ap, ◌∙◌, arith}
use Rattle.std.specs.Prelude.{is_some}
use Rattle.std.proofs.lemmas.List.{get_or_read, length-map}
use Rattle.era_core.specs.Passes.{view_of}
use Rattle.era_core.specs.Machine.{allows, after}
use Rattle.era_core.specs.declared.pass.PassView.{PassView}
use Rattle.era_core.specs.declared.event.Event.TheVariants.{Unpin}
use Rattle.era_core.proofs.Running.{Stepped, stepped}
use Rattle.era_core.proofs.arena.Core.unpin.Goals as goal
use Rattle.era_core.proofs.arena.Core.unpin.Goals.{After-self-2-1}

step : (c : After-self-2-1) → Stepped view_of c.self.inside.passes c.self.inside.rows c.self.inside.words.items c.self.inside.views.items (Unpin c.args.pass) true (set c.self.inside.words.items (1 + c.args.pass) 0) (record c.index_mut-view.result.now { pinned = None })
step c =
    let it = c.self.inside in
    let kept = c.self.invariant.running in
    let pass : c.args.pass < it.passes = c.if-pass-self.false in
    let p = c.index_mut-view.result.now in
    let within : c.args.pass < length it.views.items = omega (arith, length-map it.views.items view_of, kept.counted, pass) in
    let same : c.index.result.now ≡ p = get_or_read it.views.items c.args.pass c.index.result.now within c.index.ensures p ∙ sym c.index_mut-view.ensures.value in
    let pinned : is_some c.index.result.now.pinned ≡ true = c.if-is_none.ensures in
    stepped view_of it.passes it.rows it.words.items it.views.items (Unpin c.args.pass) true (set it.words.items (1 + c.args.pass) 0) p (record p { pinned = None }) kept pass c.index_mut-view.ensures.value
    (sym (ap (λ (x : PassView). is_some x.pinned) (sym same) ∙ pinned))
    refl
    refl

pub invariant_of-self : goal.invariant_of-self
invariant_of-self c = record { running = (step c).running; marked = c.self.invariant.marked; clear = c.self.invariant.clear }

pub returns-clause-done : goal.returns-clause-done
returns-clause-done c = (step c).done ∙ ap (λ m. allows m (Unpin c.args.pass)) c.self.view_is

pub returns-clause-next : goal.returns-clause-next
returns-clause-next c = (step c).next ∙ ap (λ m. after m (Unpin c.args.pass)) c.self.view_is
