use Rattle.std.proofs.Common.{◌≡◌, ℕ, List, Option, None, refl, sym, subst, rules}
use Rattle.pls_settings.proofs.Limits.{line-HasLimits}
use Rattle.pls_settings.specs.declared.choices.Mode.TheVariants.{Make}
use Rattle.pls_settings.specs.declared.choices.Settings.{Settings}
use Rattle.pls_top.specs.Answer.{Tells}
use Rattle.pls_top.specs.Due.{searched_for}
use Rattle.pls_top.proofs.Dues.{demo_searches}
use Rattle.pls_top.proofs.Serving.{ends_as_usage, ends_unread, ends_with, finishes_unsearched}
use Rattle.pls_top.proofs.program.serve.Goals as goal

pub search_source-requires-clause-limits : goal.search_source-requires-clause-limits
search_source-requires-clause-limits g c κs within = line-HasLimits c.args.words.now c.in-Ok.settings c.in-Ok.ensures.ok

pub demonstrate-requires-clause-limits : goal.demonstrate-requires-clause-limits
demonstrate-requires-clause-limits g c κs within = line-HasLimits c.args.words.now c.in-Ok.settings c.in-Ok.ensures.ok

pub make_and_write-requires : goal.make_and_write-requires
make_and_write-requires g c = (line-HasLimits c.args.words.now c.in-Ok.settings c.in-Ok.ensures.ok).make (search rules)

pub returns-in-Make-clause-ending : goal.returns-in-Make-clause-ending
returns-in-Make-clause-ending g c =
    ends_with _ _ _ _ _ _ c.in-Ok.ensures.ok
    (ends_unread _ _ _ c.in-Ok.settings _ Make (search rules) refl refl
    (finishes_unsearched _ _ _ _ _ c.in-Ok.settings _ _ c.make_and_write.ensures.finishes))

pub returns-in-Err-Usage-clause-ending : goal.returns-in-Err-Usage-clause-ending
returns-in-Err-Usage-clause-ending g c =
    ends_as_usage _ _ _ _ _ (c.in-Err-Usage.ensures.usage c.in-Err-Usage.field-0-is) (search rules) c.finish.ensures.finishes

pub returns-in-Demo-clause-no_journal : goal.returns-in-Demo-clause-no_journal
returns-in-Demo-clause-no_journal g c = λ bytes tells none. absurd (demo_searches _ c.in-Ok.settings bytes c.in-Ok.ensures.ok (search rules) none)

pub returns-in-Search-clause-no_journal : goal.returns-in-Search-clause-no_journal
returns-in-Search-clause-no_journal g c =
    subst (λ (given : Option Settings). (bytes : List ℕ) → Tells given (g.S.Source.left c.args.source.now) bytes → searched_for given bytes ≡ None
    → c.search_source.new.journal ≡ c.args.journal.now) (sym c.in-Ok.ensures.ok) c.search_source.ensures.no_journal
