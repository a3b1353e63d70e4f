use Rattle.std.proofs.Common.{rules, subst, sym, List, ℕ, ◌≡◌, None}
use Rattle.pls_problem.specs.Reading.{instance}
use Rattle.pls_top.specs.Due.{instance_read}
use Rattle.pls_top.proofs.Dues.{unsearched_text}
use Rattle.pls_top.proofs.Serving.{ends_searched}
use Rattle.pls_top.proofs.program.search_source.Goals as goal

pub returns-in-Ok-clause-ending : goal.returns-in-Ok-clause-ending
returns-in-Ok-clause-ending g c =
    ends_searched _ _ _ c.args.settings.now _ c.deref.result.now _ c.deref.ensures.value c.requires.mode (search rules) c.in-Ok.ensures.whole
    c.answer.ensures.finishes

pub returns-in-Ok-clause-no_journal : goal.returns-in-Ok-clause-no_journal
returns-in-Ok-clause-no_journal g c = λ bytes tells none.
    c.answer.ensures.no_journal (subst (λ (t : List ℕ). instance_read (instance t) ≡ None) (sym c.deref.ensures.value) (unsearched_text c.args.settings.now _ _ _ bytes c.requires.mode c.in-Ok.ensures.whole tells none))
