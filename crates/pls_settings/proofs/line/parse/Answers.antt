use Rattle.std.proofs.Common.{◌∙◌, sym, map}
use Rattle.std.proofs.lemmas.Result.{err_from_is_err_and}
use Rattle.pls_settings.proofs.Parsing.{answered, line-Err, line-Ok}
use Rattle.pls_settings.proofs.line.parse.Goals as goal

pub returns-in_err-matches-clause-usage : goal.returns-in_err-matches-clause-usage
returns-in_err-matches-clause-usage c =
    let p = err_from_is_err_and c.from_residual-in_err-matches.result c.from_residual-in_err-matches.ensures.1 in
    rw p.1 (λ is. line-Err _ _ c.in_err-matches.field-0.0 c.in_ok-command.ensures c.in_err-matches.ensures.kinds (p.2 is))

pub returns-clause-ok : goal.returns-clause-ok
returns-clause-ok c =
    (answered _ _ _
    (line-Ok _ (map (λ w. w.now) c.args.words.now) _ c.in_ok-command.ensures c.in_ok-matches.ensures.matches c.in_ok-matches.ensures.kinds ∙ sym c.settings_of.ensures)
    c.ok_or.ensures.value).0

pub returns-clause-usage : goal.returns-clause-usage
returns-clause-usage c =
    (answered _ _ _
    (line-Ok _ (map (λ w. w.now) c.args.words.now) _ c.in_ok-command.ensures c.in_ok-matches.ensures.matches c.in_ok-matches.ensures.kinds ∙ sym c.settings_of.ensures)
    c.ok_or.ensures.value).1
