use Rattle.std.proofs.Common.{◌≡◌, ℕ, ◌+◌, ◌*◌, ◌<◌, Bool, ltb, true, false, List, length, refl, sym, ap, subst, ◌∙◌, arith, lt-ltb}
use Rattle.std.specs.Prelude.{◌&&◌, ◌||◌}
use Rattle.std.proofs.lemmas.Bool.{and_from}
use Rattle.std.proofs.lemmas.List.{get_or_read, length-map}
use Rattle.era_core.specs.declared.sizes.TheConstants.{WIDTH}
use Rattle.era_core.specs.Lists.{In, is_in}
use Rattle.era_core.specs.Views.{reading}
use Rattle.era_core.specs.Passes.{view_of}
use Rattle.era_core.specs.Machine.{pinned_rows, allows, after}
use Rattle.era_core.specs.declared.pass.PassView.{PassView}
use Rattle.era_core.specs.declared.event.Event.TheVariants.{Read}
use Rattle.era_core.proofs.Running.{Stepped, stepped, before, refused, pinned_inside, none_of}
use Rattle.era_core.proofs.arena.Core.read.Goals as goal
use Rattle.era_core.proofs.arena.Core.read.Goals.{Then-not-branch, After-self-1}

pub may_read-requires-clause-in_range : goal.may_read-requires-clause-in_range
may_read-requires-clause-in_range c = λ x here.
    let it = c.self.inside in
    let p : PassView = c.index-view.result.now in
    pinned_inside view_of it.passes it.rows it.words.items it.views.items c.self.invariant.running c.args.pass c.if-pass-self.false p c.index-view.ensures x
    (subst (λ (ws : List ℕ). In x (pinned_rows it.passes it.rows ws p.pinned)) c.deref.ensures.value here)

-- the row is neither fresh nor of the pinned version
denied : (c : Then-not-branch) → let e = Read c.args.pass c.args.row c.args.place in let m = before view_of c.self.inside.passes c.self.inside.rows c.self.inside.words.items c.self.inside.views.items in (allows m e ≡ false) × (after m e ≡ m)
denied c =
    let it = c.self.inside in
    let p : PassView = c.index-view.result.now in
    let reads : List ℕ → Bool = λ (ws : List ℕ). is_in c.args.row p.fresh.items || is_in c.args.row (pinned_rows it.passes it.rows ws p.pinned) in
    let no_row : reads it.words.items ≡ false = ap reads (sym c.deref.ensures.value) ∙ sym c.in_ok-may_read.ensures ∙ c.if-not-branch.true in
    refused view_of it.passes it.rows it.words.items it.views.items (Read c.args.pass c.args.row c.args.place) p c.self.invariant.running c.if-pass-self.false c.index-view.ensures
    (none_of (ltb c.args.row it.rows && ltb c.args.place WIDTH) (reads it.words.items) no_row)

pub returns-then-not-branch-clause-done : goal.returns-then-not-branch-clause-done
returns-then-not-branch-clause-done c = sym (denied c).0 ∙ ap (λ m. allows m (Read c.args.pass c.args.row c.args.place)) c.self.view_is

pub returns-then-not-branch-clause-next : goal.returns-then-not-branch-clause-next
returns-then-not-branch-clause-next c = sym c.self.view_is ∙ sym (denied c).1 ∙ ap (λ m. after m (Read c.args.pass c.args.row c.args.place)) c.self.view_is

step : (c : After-self-1) → Stepped view_of c.self.inside.passes c.self.inside.rows c.self.inside.words.items c.self.inside.views.items (Read c.args.pass c.args.row c.args.place) true c.self.inside.words.items c.read.new.self
step c =
    let it = c.self.inside in
    let kept = c.self.invariant.running in
    let pass : c.args.pass < it.passes = c.if-pass-self.false in
    let row : c.args.row < it.rows = c.if-row-self.false in
    let place : c.args.place < WIDTH = c.if-place-ge-WIDTH.false in
    let p : PassView = c.index_mut-view.result.now in
    let within : c.args.pass < length it.views.items = omega (arith, length-map it.views.items view_of, kept.counted, pass) in
    let same : c.index-view.result.now ≡ p = get_or_read it.views.items c.args.pass c.index-view.result.now within c.index-view.ensures p ∙ sym c.index_mut-view.ensures.value in
    let reads : PassView → List ℕ → Bool = λ (x : PassView) (ws : List ℕ). is_in c.args.row x.fresh.items || is_in c.args.row (pinned_rows it.passes it.rows ws x.pinned) in
    let may_read : reads p it.words.items ≡ true =
    ap (λ (x : PassView). reads x it.words.items) (sym same) ∙ ap (reads c.index-view.result.now) (sym c.deref.ensures.value) ∙ sym c.in_ok-may_read.ensures ∙ c.if-not-branch.false in
    let at : ℕ = 1 + it.passes + it.rows + WIDTH * c.args.row + c.args.place in
    let found = get_or_read it.words.items at c.index-word.result.now (omega (arith, kept.long, row, place)) c.index-word.ensures 0 in
    stepped view_of it.passes it.rows it.words.items it.views.items (Read c.args.pass c.args.row c.args.place) true it.words.items p c.read.new.self kept pass c.index_mut-view.ensures.value
    (sym (and_from (ltb c.args.row it.rows && ltb c.args.place WIDTH) (reads p it.words.items)
    (and_from (ltb c.args.row it.rows) (ltb c.args.place WIDTH) (lt-ltb c.args.row it.rows row) (lt-ltb c.args.place WIDTH place)) may_read))
    refl
    (c.read.ensures ∙ ap (λ w. reading w (view_of p)) found)

pub invariant_of-self : goal.invariant_of-self
invariant_of-self c = record { running = (step c).running; marked = c.self.invariant.marked; clear = c.self.invariant.clear }

pub returns-clause-done : goal.returns-clause-done
returns-clause-done c = (step c).done ∙ ap (λ m. allows m (Read c.args.pass c.args.row c.args.place)) c.self.view_is

pub returns-clause-next : goal.returns-clause-next
returns-clause-next c = (step c).next ∙ ap (λ m. after m (Read c.args.pass c.args.row c.args.place)) c.self.view_is
