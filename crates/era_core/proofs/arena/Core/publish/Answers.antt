use Rattle.std.proofs.Common.{◌≡◌, ℕ, ◌<◌, Option, Some, true, false, List, length, set, sym, ap, subst, ◌∙◌, arith}
use Rattle.std.specs.Prelude.{is_some, IfSome}
use Rattle.std.proofs.lemmas.List.{get_or_read, length-map}
use Rattle.era_core.specs.declared.sizes.TheConstants.{LAST_VERSION}
use Rattle.era_core.specs.Lists.{In, is_in, without}
use Rattle.era_core.specs.Words.{links, tree_at}
use Rattle.era_core.specs.Views.{replacing}
use Rattle.era_core.specs.Passes.{view_of}
use Rattle.era_core.specs.Machine.{IsRunning, pinned_rows, allows, after}
use Rattle.era_core.specs.declared.pass.PassView.{PassView}
use Rattle.era_core.specs.declared.event.Event.TheVariants.{Publish}
use Rattle.era_core.proofs.TreeFacts.{tree_root}
use Rattle.era_core.proofs.Running.{on_err, Stepped, Stored, before, view_again, pinned_inside, fresh_inside}
use Rattle.era_core.proofs.Publication.{clear_marks, fits_read, fits_by, publish_refused, publish_late, publish_done}
use Rattle.era_core.proofs.arena.Core.publish.Goals.{In_default-2, After-drop-rows-then-index-packed, After-from_residual-in_err-publish, After-self-3-1}
use Rattle.era_core.proofs.arena.Core.publish.Goals as goal

-- the new tree is not one that may be published
denied : (c : In_default-2) → let m = before view_of c.self.inside.passes c.self.inside.rows c.self.inside.words.items c.self.inside.views.items in (allows m (Publish c.args.pass c.args.root) ≡ false) × (after m (Publish c.args.pass c.args.root) ≡ m)
denied c =
    let it = c.self.inside in
    let kept = c.self.invariant.running in
    let p : PassView = c.index-view.result.now in
    let pin : p.pinned ≡ Some (c.in-Some.version, c.in-Some.row) = c.in-Some.is in
    let fits : fits_by view_of it.passes it.rows it.words.items it.views.items kept c.args.pass c.args.root c.if-pass-self.false p c.index-view.ensures c.in-Some.version c.in-Some.row pin ≡ false =
    fits_read it.passes it.rows it.words.items c.deref.result.now p.fresh.items c.deref-2.result.now c.in-Some.row c.args.root (is_some c.in_ok-rows.field-0) c.deref.ensures.value c.deref-2.ensures.value c.in_ok-rows.ensures.allowed
    ∙ ap (λ o. is_some o) c.in_default-2.is in
    publish_refused view_of it.passes it.rows it.words.items it.views.items kept c.args.pass c.args.root c.if-pass-self.false p c.index-view.ensures c.in-Some.version c.in-Some.row pin fits

-- another pass has published meanwhile
late : (c : After-drop-rows-then-index-packed) → Stored view_of c.self.inside.passes c.self.inside.rows c.self.inside.words.items c.self.inside.views.items (Publish c.args.pass c.args.root) true c.self.inside.words.items
late c =
    let it = c.self.inside in
    let kept = c.self.invariant.running in
    let p : PassView = c.index-view.result.now in
    let pin : p.pinned ≡ Some (c.in-Some.version, c.in-Some.row) = c.in-Some.is in
    let fits : fits_by view_of it.passes it.rows it.words.items it.views.items kept c.args.pass c.args.root c.if-pass-self.false p c.index-view.ensures c.in-Some.version c.in-Some.row pin ≡ true =
    fits_read it.passes it.rows it.words.items c.deref.result.now p.fresh.items c.deref-2.result.now c.in-Some.row c.args.root (is_some c.in_ok-rows.field-0) c.deref.ensures.value c.deref-2.ensures.value c.in_ok-rows.ensures.allowed
    ∙ ap (λ o. is_some o) c.in-Some-2.is in
    let low : c.in-Some.version < LAST_VERSION = c.if-version-ge-LAST_VERSION.false in
    let fresh : is_in c.args.root p.fresh.items ≡ true = sym c.has_fresh.ensures ∙ c.if-not-has_fresh.false in
    let root = get_or_read it.words.items 0 c.index.result.now (omega (arith, kept.long)) c.index.ensures 0 in
    publish_late view_of it.passes it.rows it.words.items it.views.items kept c.args.pass c.args.root c.if-pass-self.false p c.index-view.ensures c.in-Some.version c.in-Some.row pin low c.if-root-self.false fresh fits
    (λ e. c.if-index-packed.true (root ∙ e ∙ sym c.packed.ensures))

-- memory ran out
failed : (c : After-from_residual-in_err-publish) → before view_of c.self.inside.passes c.self.inside.rows c.self.inside.words.items (set c.self.inside.views.items c.args.pass c.publish.new.self) ≡ before view_of c.self.inside.passes c.self.inside.rows c.self.inside.words.items c.self.inside.views.items
failed c = view_again view_of c.self.inside.passes c.self.inside.rows c.self.inside.words.items c.self.inside.views.items c.args.pass c.index_mut-view.result.now c.publish.new.self c.index_mut-view.ensures.value c.in_err-publish.ensures

step : (c : After-self-3-1) → Stepped view_of c.self.inside.passes c.self.inside.rows c.self.inside.words.items c.self.inside.views.items (Publish c.args.pass c.args.root) true (set c.self.inside.words.items 0 c.packed-2.result) c.publish.new.self
step c =
    let it = c.self.inside in
    let kept = c.self.invariant.running in
    let p : PassView = c.index-view.result.now in
    let pin : p.pinned ≡ Some (c.in-Some.version, c.in-Some.row) = c.in-Some.is in
    let fits : fits_by view_of it.passes it.rows it.words.items it.views.items kept c.args.pass c.args.root c.if-pass-self.false p c.index-view.ensures c.in-Some.version c.in-Some.row pin ≡ true =
    fits_read it.passes it.rows it.words.items c.deref.result.now p.fresh.items c.deref-2.result.now c.in-Some.row c.args.root (is_some c.in_ok-rows.field-0) c.deref.ensures.value c.deref-2.ensures.value c.in_ok-rows.ensures.allowed
    ∙ ap (λ o. is_some o) c.in-Some-2.is in
    let low : c.in-Some.version < LAST_VERSION = c.if-version-ge-LAST_VERSION.false in
    let fresh : is_in c.args.root p.fresh.items ≡ true = sym c.has_fresh.ensures ∙ c.if-not-has_fresh.false in
    let root = get_or_read it.words.items 0 c.index.result.now (omega (arith, kept.long)) c.index.ensures 0 in
    let rows = c.in-Some-2.rows in
    let found = sym root ∙ c.if-index-packed.false ∙ c.packed.ensures in
    let within : c.args.pass < length it.views.items = omega (arith, length-map it.views.items view_of, kept.counted, c.if-pass-self.false) in
    let same : c.index_mut-view.result.now ≡ p = get_or_read it.views.items c.args.pass c.index_mut-view.result.now within c.index_mut-view.ensures.value p ∙ sym c.index-view.ensures in
    let new : List ℕ → List ℕ = λ (ws : List ℕ). tree_at it.passes it.rows ws c.args.root in
    let left : rows.fresh.items ≡ without (new it.words.items) p.fresh.items =
    subst (λ o. IfSome o (λ r. r.fresh.items ≡ without (new c.deref.result.now) c.deref-2.result.now)) c.in-Some-2.is c.in_ok-rows.ensures.fresh_rows
    ∙ ap (λ ws. without (new ws) c.deref-2.result.now) c.deref.ensures.value ∙ ap (without (new it.words.items)) c.deref-2.ensures.value in
    let gone : rows.gone.items ≡ without (new it.words.items) (tree_at it.passes it.rows it.words.items c.in-Some.row) =
    subst (λ o. IfSome o (λ r. r.gone.items ≡ without (new c.deref.result.now) (tree_at it.passes it.rows c.deref.result.now c.in-Some.row))) c.in-Some-2.is c.in_ok-rows.ensures.gone_rows
    ∙ ap (λ ws. without (new ws) (tree_at it.passes it.rows ws c.in-Some.row)) c.deref.ensures.value in
    let s = publish_done view_of it.passes it.rows it.words.items it.views.items kept c.args.pass c.args.root c.if-pass-self.false p c.index-view.ensures c.in-Some.version c.in-Some.row pin low c.if-root-self.false fresh fits found c.publish.new.self
    (c.in_ok-publish.ensures ∙ ap (λ (x : PassView). replacing c.in-Some.version rows.fresh.items rows.gone.items (view_of x)) same
    ∙ ap (λ l. replacing c.in-Some.version l rows.gone.items (view_of p)) left ∙ ap (λ l. replacing c.in-Some.version (without (new it.words.items) p.fresh.items) l (view_of p)) gone) in
    subst (λ w. Stepped view_of it.passes it.rows it.words.items it.views.items (Publish c.args.pass c.args.root) true (set it.words.items 0 w) c.publish.new.self) (sym c.packed-2.ensures) s

pub replaced-requires-clause-fresh_in_range : goal.replaced-requires-clause-fresh_in_range
replaced-requires-clause-fresh_in_range c = λ x here.
    let it = c.self.inside in
    let p : PassView = c.index-view.result.now in
    fresh_inside view_of it.passes it.rows it.words.items it.views.items c.self.invariant.running c.args.pass c.if-pass-self.false p c.index-view.ensures x (subst (In x) c.deref-2.ensures.value here)

pub replaced-requires-clause-old_in_range : goal.replaced-requires-clause-old_in_range
replaced-requires-clause-old_in_range c = λ x here.
    let it = c.self.inside in
    let p : PassView = c.index-view.result.now in
    let pin : p.pinned ≡ Some (c.in-Some.version, c.in-Some.row) = c.in-Some.is in
    pinned_inside view_of it.passes it.rows it.words.items it.views.items c.self.invariant.running c.args.pass c.if-pass-self.false p c.index-view.ensures x
    (subst (λ (o : Option (ℕ × ℕ)). In x (pinned_rows it.passes it.rows it.words.items o)) (sym pin) (subst (λ (ws : List ℕ). In x (tree_at it.passes it.rows ws c.in-Some.row)) c.deref.ensures.value here))

pub returns-in_default-2-clause-done : goal.returns-in_default-2-clause-done
returns-in_default-2-clause-done c = sym (denied c).0 ∙ ap (λ m. allows m (Publish c.args.pass c.args.root)) c.self.view_is

pub returns-in_default-2-clause-next : goal.returns-in_default-2-clause-next
returns-in_default-2-clause-next c = c.self.view_is ∙ sym c.self.view_is ∙ sym (denied c).1 ∙ ap (λ m. after m (Publish c.args.pass c.args.root)) c.self.view_is

pub packed-requires-clause-row_fits : goal.packed-requires-clause-row_fits
packed-requires-clause-row_fits c =
    let it = c.self.inside in
    let kept = c.self.invariant.running in
    let p : PassView = c.index-view.result.now in
    let pin : p.pinned ≡ Some (c.in-Some.version, c.in-Some.row) = c.in-Some.is in
    let row = pinned_inside view_of it.passes it.rows it.words.items it.views.items kept c.args.pass c.if-pass-self.false p c.index-view.ensures c.in-Some.row
    (subst (λ (o : Option (ℕ × ℕ)). In c.in-Some.row (pinned_rows it.passes it.rows it.words.items o)) (sym pin) (tree_root (links it.passes it.rows it.words.items) it.rows c.in-Some.row)) in
    omega (arith, row, kept.few_rows)

pub returns-then-index-packed-clause-done : goal.returns-then-index-packed-clause-done
returns-then-index-packed-clause-done c = (late c).done ∙ ap (λ m. allows m (Publish c.args.pass c.args.root)) c.self.view_is

pub returns-then-index-packed-clause-next : goal.returns-then-index-packed-clause-next
returns-then-index-packed-clause-next c = (late c).next ∙ ap (λ m. after m (Publish c.args.pass c.args.root)) c.self.view_is

pub invariant_of-self-in_err-publish : goal.invariant_of-self-in_err-publish
invariant_of-self-in_err-publish c =
    let it = c.self.inside in
    let marks = clear_marks it.marks.len it.rows it.marks.items c.replaced.new.marks (omega arith) (omega arith) c.self.invariant.marked c.replaced.ensures.clear in
    record { running = subst IsRunning (sym (failed c)) c.self.invariant.running; marked = marks.0; clear = marks.1 }

pub returns-in_err-publish-clause-err : goal.returns-in_err-publish-clause-err
returns-in_err-publish-clause-err c = on_err c.from_residual-in_err-publish.result (failed c ∙ c.self.view_is)

pub invariant_of-self-2 : goal.invariant_of-self-2
invariant_of-self-2 c =
    let it = c.self.inside in
    let marks = clear_marks it.marks.len it.rows it.marks.items c.replaced.new.marks (omega arith) (omega arith) c.self.invariant.marked c.replaced.ensures.clear in
    record { running = (step c).running; marked = marks.0; clear = marks.1 }

pub returns-clause-done : goal.returns-clause-done
returns-clause-done c = (step c).done ∙ ap (λ m. allows m (Publish c.args.pass c.args.root)) c.self.view_is

pub returns-clause-next : goal.returns-clause-next
returns-clause-next c = (step c).next ∙ ap (λ m. after m (Publish c.args.pass c.args.root)) c.self.view_is
