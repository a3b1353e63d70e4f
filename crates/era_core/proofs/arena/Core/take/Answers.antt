use Rattle.std.proofs.Common.{◌≡◌, ℕ, ◌+◌, ◌<◌, eqb, true, false, length, cond, get_or, set, sym, ap, subst, ◌∙◌, arith, lt-ltb, eq-eqb, ne_eqb}
use Rattle.std.proofs.lemmas.List.{get_or_read, length-map}
use Rattle.era_core.specs.Views.{taking}
use Rattle.era_core.specs.Passes.{view_of}
use Rattle.era_core.specs.Machine.{IsRunning, allows, after}
use Rattle.era_core.specs.declared.pass.PassView.{PassView}
use Rattle.era_core.specs.declared.event.Event.TheVariants.{Take}
use Rattle.era_core.proofs.Running.{on_err, Stepped, stepped, Stored, stored, before, view_again, at_place}
use Rattle.era_core.proofs.arena.Core.take.Goals as goal
use Rattle.era_core.proofs.arena.Core.take.Goals.{Then-index-ne0, After-from_residual, After-self-2-1}

-- the row has an owner
owned : (c : Then-index-ne0) → Stored view_of c.self.inside.passes c.self.inside.rows c.self.inside.words.items c.self.inside.views.items (Take c.args.pass c.args.row) true c.self.inside.words.items
owned c =
    let it = c.self.inside in
    let kept = c.self.invariant.running in
    let pass : c.args.pass < it.passes = c.if-pass-self.false in
    let row : c.args.row < it.rows = c.if-row-self.false in
    let at : ℕ = 1 + it.passes + c.args.row in
    let taken : eqb (get_or it.words.items at 0) 0 ≡ false =
    ne_eqb (get_or it.words.items at 0) 0 (λ e. c.if-index-ne0.true (get_or_read it.words.items at c.index.result.now (omega (arith, kept.long, row)) c.index.ensures 0 ∙ e)) in
    let inside : c.args.pass < length it.views.items = omega (arith, length-map it.views.items view_of, kept.counted, pass) in
    let v = at_place it.views.items c.args.pass inside in
    stored view_of it.passes it.rows it.words.items it.views.items (Take c.args.pass c.args.row) true it.words.items v.0 kept pass v.1
    (sym (lt-ltb c.args.row it.rows row))
    (sym (ap (λ b. cond b (set it.words.items at (c.args.pass + 1)) it.words.items) taken))
    (sym (ap (λ b. cond b (taking c.args.row (view_of v.0)) (view_of v.0)) taken))

-- memory ran out
failed : (c : After-from_residual) → before view_of c.self.inside.passes c.self.inside.rows c.self.inside.words.items (set c.self.inside.views.items c.args.pass c.take.new.self) ≡ before view_of c.self.inside.passes c.self.inside.rows c.self.inside.words.items c.self.inside.views.items
failed c = view_again view_of c.self.inside.passes c.self.inside.rows c.self.inside.words.items c.self.inside.views.items c.args.pass c.index_mut-view.result.now c.take.new.self c.index_mut-view.ensures.value c.in_err-take.ensures

step : (c : After-self-2-1) → Stepped view_of c.self.inside.passes c.self.inside.rows c.self.inside.words.items c.self.inside.views.items (Take c.args.pass c.args.row) true (set c.self.inside.words.items (1 + c.self.inside.passes + c.args.row) (c.args.pass + 1)) c.take.new.self
step c =
    let it = c.self.inside in
    let kept = c.self.invariant.running in
    let pass : c.args.pass < it.passes = c.if-pass-self.false in
    let row : c.args.row < it.rows = c.if-row-self.false in
    let at : ℕ = 1 + it.passes + c.args.row in
    let free : eqb (get_or it.words.items at 0) 0 ≡ true =
    eq-eqb (get_or it.words.items at 0) 0 (sym (get_or_read it.words.items at c.index.result.now (omega (arith, kept.long, row)) c.index.ensures 0) ∙ c.if-index-ne0.false) in
    let p : PassView = c.index_mut-view.result.now in
    stepped view_of it.passes it.rows it.words.items it.views.items (Take c.args.pass c.args.row) true (set it.words.items at (c.args.pass + 1)) p c.take.new.self kept pass c.index_mut-view.ensures.value
    (sym (lt-ltb c.args.row it.rows row))
    (sym (ap (λ b. cond b (set it.words.items at (c.args.pass + 1)) it.words.items) free))
    (c.in_ok-take.ensures ∙ sym (ap (λ b. cond b (taking c.args.row (view_of p)) (view_of p)) free))

pub returns-then-index-ne0-clause-next : goal.returns-then-index-ne0-clause-next
returns-then-index-ne0-clause-next c = sym c.self.view_is ∙ (owned c).next ∙ ap (λ m. after m (Take c.args.pass c.args.row)) c.self.view_is

pub invariant_of-self : goal.invariant_of-self
invariant_of-self c = record { running = subst IsRunning (sym (failed c)) c.self.invariant.running; marked = c.self.invariant.marked; clear = c.self.invariant.clear }

pub returns-in_err-take-clause-err : goal.returns-in_err-take-clause-err
returns-in_err-take-clause-err c =
    let same = failed c ∙ c.self.view_is in
    on_err c.from_residual.result same

pub invariant_of-self-2 : goal.invariant_of-self-2
invariant_of-self-2 c = record { running = (step c).running; marked = c.self.invariant.marked; clear = c.self.invariant.clear }

pub returns-clause-done : goal.returns-clause-done
returns-clause-done c = (step c).done ∙ ap (λ m. allows m (Take c.args.pass c.args.row)) c.self.view_is

pub returns-clause-next : goal.returns-clause-next
returns-clause-next c = (step c).next ∙ ap (λ m. after m (Take c.args.pass c.args.row)) c.self.view_is
