use Rattle.std.proofs.Common.{◌≡◌, ◌+◌, ◌<◌, Bool, eqb, ltb, true, length, set, refl, sym, ap, ◌∙◌, arith, lt-ltb}
use Rattle.std.specs.Prelude.{◌&&◌, ◌||◌}
use Rattle.std.specs.List.{list_any}
use Rattle.std.proofs.lemmas.Bool.{and_from}
use Rattle.std.proofs.lemmas.List.{get_or_read, length-map}
use Rattle.era_core.specs.Lists.{is_in}
use Rattle.era_core.specs.Views.{Batch, View, clears}
use Rattle.era_core.specs.Passes.{view_of}
use Rattle.era_core.specs.Machine.{allows, after}
use Rattle.era_core.specs.declared.pass.PassView.{PassView}
use Rattle.era_core.specs.declared.event.Event.TheVariants.{Free}
use Rattle.era_core.proofs.Running.{Stepped, stepped}
use Rattle.era_core.proofs.arena.Core.free.Goals as goal
use Rattle.era_core.proofs.arena.Core.free.Goals.{After-self-2-1}

step : (c : After-self-2-1) → Stepped view_of c.self.inside.passes c.self.inside.rows c.self.inside.words.items c.self.inside.views.items (Free c.args.pass c.args.row) true (set c.self.inside.words.items (1 + c.self.inside.passes + c.args.row) 0) c.free.new.self
step c =
    let it = c.self.inside in
    let kept = c.self.invariant.running in
    let pass : c.args.pass < it.passes = c.if-pass-self.false in
    let row : c.args.row < it.rows = c.if-row-self.false in
    let p : PassView = c.index_mut-view.result.now in
    let within : c.args.pass < length it.views.items = omega (arith, length-map it.views.items view_of, kept.counted, pass) in
    let same : c.index.result.now ≡ p = get_or_read it.views.items c.args.pass c.index.result.now within c.index.ensures p ∙ sym c.index_mut-view.ensures.value in
    let leave : View → Bool = λ (v : View). is_in c.args.row v.fresh || (eqb v.scanned it.passes && list_any (λ (b : Batch). is_in c.args.row b.1 && clears v.least b.0) v.retired) in
    let may_free : leave (view_of p) ≡ true = ap (λ (x : PassView). leave (view_of x)) (sym same) ∙ sym c.may_free.ensures ∙ c.if-not-may_free.false in
    stepped view_of it.passes it.rows it.words.items it.views.items (Free c.args.pass c.args.row) true (set it.words.items (1 + it.passes + c.args.row) 0) p c.free.new.self kept pass c.index_mut-view.ensures.value
    (sym (and_from (ltb c.args.row it.rows) (leave (view_of p)) (lt-ltb c.args.row it.rows row) may_free))
    refl
    c.free.ensures

pub invariant_of-self : goal.invariant_of-self
invariant_of-self c = record { running = (step c).running; marked = c.self.invariant.marked; clear = c.self.invariant.clear }

pub returns-clause-done : goal.returns-clause-done
returns-clause-done c = (step c).done ∙ ap (λ m. allows m (Free c.args.pass c.args.row)) c.self.view_is

pub returns-clause-next : goal.returns-clause-next
returns-clause-next c = (step c).next ∙ ap (λ m. after m (Free c.args.pass c.args.row)) c.self.view_is
