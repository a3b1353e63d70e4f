use Rattle.std.proofs.Common.{◌≡◌, get_or, List, ℕ, ◌∷◌, ap, sym, subst, ◌∙◌}
use Rattle.std.proofs.lemmas.Result.{IfOk-weaker}
use Rattle.atomic_table.specs.Table.{rest}
use Rattle.pls_turn.specs.Passes.{terms_of}
use Rattle.pls_turn.specs.TurnRule.{IsArchiveAt}
use Rattle.pls_turn.proofs.Working.{archive_now}
use Rattle.pls_turn.proofs.turned.Turned.submit.Goals as goal

pub returns-clause-archive : goal.returns-clause-archive
returns-clause-archive g c =
    let held = c.requires.archive in
    let key = terms_of c.args.self.now in
    let a = c.slot_mut-archive.result.now in
    let log = c.args.seat.now.me.0.view.observed in
    let same : held.0 ≡ a = ap (λ (l : List (ℕ × g.row.S.Denot)). (get_or l 0 (0, held.0)).1) (sym held.1 ∙ c.slot_mut-archive.ensures.value) in
    let archive : IsArchiveAt g.S.Law.Rule g.S.Single key log a =
    subst (λ x. IsArchiveAt g.S.Law.Rule g.S.Single key log x) same held.2 in
    IfOk-weaker c.update.result _ _
    (λ t updates e call_is reply_is. (
      c.update.new.self,
      ap (λ l. (0, c.update.new.self) ∷ l) (ap rest held.1),
      archive_now g.S.Law.Rule g.S.Single key log a archive g.S.Law.Rule.laws c.args.point.now t c.update.new.self updates
          c.update.ensures.number c.update.ensures.objectives e call_is reply_is,
    ))
    c.update.ensures.updates
