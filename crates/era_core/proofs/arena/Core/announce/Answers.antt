use Rattle.std.proofs.Common.{◌≡◌, ℕ, ◌+◌, ◌<◌, ◌≤◌, Option, Some, true, eqb, eq-eqb, map, get_or, length, set, refl, sym, ap, ◌∙◌, arith}
use Rattle.std.specs.Prelude.{is_some, slice_get}
use Rattle.std.proofs.Math.Logic.{∥∥₁_elim}
use Rattle.std.proofs.Math.Bridge.{le_prop}
use Rattle.era_core.specs.declared.pass.PassView.{PassView}
use Rattle.std.proofs.lemmas.Bool.{and_from}
use Rattle.std.proofs.lemmas.List.{get_or_read, length-map}
use Rattle.era_core.specs.Words.{version}
use Rattle.era_core.specs.Machine.{words_announced}
use Rattle.era_core.proofs.Readers.{noted_low}
use Rattle.era_core.specs.Passes.{view_of}
use Rattle.era_core.specs.Machine.{allows, after}
use Rattle.era_core.specs.declared.event.Event.TheVariants.{Announce}
use Rattle.era_core.proofs.Running.{Stored, stored, slice_get-map, before}
use Rattle.era_core.proofs.arena.Core.announce.Goals as goal
use Rattle.era_core.proofs.arena.Core.announce.Goals.{After-self-1}

pub prove-unreachable-requires : goal.prove-unreachable-requires
prove-unreachable-requires c =
    let it = c.self.inside in
    let kept = c.self.invariant.running in
    let within : c.args.pass < length it.views.items = omega (arith, length-map it.views.items view_of, kept.counted, c.if-pass-self.false) in
    let p : PassView = c.index-2.result.now in
    let at : slice_get (map view_of it.views.items) c.args.pass ≡ Some (view_of p) =
    slice_get-map view_of it.views.items c.args.pass p within ∙ ap (λ x. Some (view_of x)) (sym c.index-2.ensures) in
    let low : c.in-Some.version ≤ version it.words.items =
    ∥∥₁_elim kept.sound le_prop (λ known. noted_low (before view_of it.passes it.rows it.words.items it.views.items) known.0 known.1 c.args.pass c.in-Some.version (view_of p) at c.in-Some.is) in
    let root = get_or_read it.words.items 0 c.index-3.result.now (omega (arith, kept.long)) c.index-3.ensures 0 in
    absurd (omega (arith, low, root))

step : (c : After-self-1) → Stored view_of c.self.inside.passes c.self.inside.rows c.self.inside.words.items c.self.inside.views.items (Announce c.args.pass) true (set c.self.inside.words.items (1 + c.args.pass) (c.in-Some.version + 1))
step c =
    let it = c.self.inside in
    let kept = c.self.invariant.running in
    let pass : c.args.pass < it.passes = c.if-pass-self.false in
    let own : get_or it.words.items (1 + c.args.pass) 0 ≡ 0 = sym (get_or_read it.words.items (1 + c.args.pass) c.index.result.now (omega (arith, kept.long, pass)) c.index.ensures 0) ∙ c.if-index-ne0.false in
    let p : PassView = c.index-2.result.now in
    let noted : p.noted ≡ Some c.in-Some.version = c.in-Some.is in
    stored view_of it.passes it.rows it.words.items it.views.items (Announce c.args.pass) true (set it.words.items (1 + c.args.pass) (c.in-Some.version + 1)) p kept pass c.index-2.ensures
    (sym (and_from (is_some p.noted) (eqb (get_or it.words.items (1 + c.args.pass) 0) 0) (ap (λ (o : Option ℕ). is_some o) noted) (eq-eqb (get_or it.words.items (1 + c.args.pass) 0) 0 own)))
    (ap (words_announced it.passes it.rows it.words.items c.args.pass) (sym noted))
    refl

pub invariant_of-self : goal.invariant_of-self
invariant_of-self c = record { running = (step c).running; marked = c.self.invariant.marked; clear = c.self.invariant.clear }

pub returns-clause-done : goal.returns-clause-done
returns-clause-done c = (step c).done ∙ ap (λ m. allows m (Announce c.args.pass)) c.self.view_is

pub returns-clause-next : goal.returns-clause-next
returns-clause-next c = (step c).next ∙ ap (λ m. after m (Announce c.args.pass)) c.self.view_is
