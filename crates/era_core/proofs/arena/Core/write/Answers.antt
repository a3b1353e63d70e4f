use Rattle.std.proofs.Common.{◌≡◌, ◌+◌, ◌*◌, ◌<◌, ltb, true, set, refl, sym, ap, ◌∙◌, lt-ltb}
use Rattle.std.specs.Prelude.{◌&&◌}
use Rattle.std.proofs.lemmas.Bool.{and_from}
use Rattle.era_core.specs.declared.sizes.TheConstants.{WIDTH}
use Rattle.era_core.specs.Lists.{is_in}
use Rattle.era_core.specs.declared.pass.PassView.{PassView}
use Rattle.era_core.specs.Passes.{view_of}
use Rattle.era_core.specs.Machine.{allows, after}
use Rattle.era_core.specs.declared.event.Event.TheVariants.{Write}
use Rattle.era_core.proofs.Running.{Stored, stored}
use Rattle.era_core.proofs.arena.Core.write.Goals as goal
use Rattle.era_core.proofs.arena.Core.write.Goals.{After-self-1}

step : (c : After-self-1) → Stored view_of c.self.inside.passes c.self.inside.rows c.self.inside.words.items c.self.inside.views.items (Write c.args.pass c.args.row c.args.place c.args.word) true (set c.self.inside.words.items (1 + c.self.inside.passes + c.self.inside.rows + WIDTH * c.args.row + c.args.place) c.args.word)
step c =
    let it = c.self.inside in
    let kept = c.self.invariant.running in
    let pass : c.args.pass < it.passes = c.if-pass-self.false in
    let row : c.args.row < it.rows = c.if-row-self.false in
    let place : c.args.place < WIDTH = c.if-place-ge-WIDTH.false in
    let p : PassView = c.index.result.now in
    let fresh : is_in c.args.row p.fresh.items ≡ true = sym c.has_fresh.ensures ∙ c.if-not-has_fresh.false in
    stored view_of it.passes it.rows it.words.items it.views.items (Write c.args.pass c.args.row c.args.place c.args.word) true (set it.words.items (1 + it.passes + it.rows + WIDTH * c.args.row + c.args.place) c.args.word) p kept pass c.index.ensures
    (sym (and_from (ltb c.args.row it.rows && ltb c.args.place WIDTH) (is_in c.args.row p.fresh.items)
    (and_from (ltb c.args.row it.rows) (ltb c.args.place WIDTH) (lt-ltb c.args.row it.rows row) (lt-ltb c.args.place WIDTH place)) fresh))
    refl
    refl

pub invariant_of-self : goal.invariant_of-self
invariant_of-self c = record { running = (step c).running; marked = c.self.invariant.marked; clear = c.self.invariant.clear }

pub returns-clause-done : goal.returns-clause-done
returns-clause-done c = (step c).done ∙ ap (λ m. allows m (Write c.args.pass c.args.row c.args.place c.args.word)) c.self.view_is

pub returns-clause-next : goal.returns-clause-next
returns-clause-next c = (step c).next ∙ ap (λ m. after m (Write c.args.pass c.args.row c.args.place c.args.word)) c.self.view_is
