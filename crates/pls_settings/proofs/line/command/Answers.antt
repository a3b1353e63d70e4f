use Rattle.std.proofs.Common.{◌≡◌, ◌∙◌, ap}
use Rattle.std.proofs.lemmas.Result.{IfOk-weaker}
use Rattle.clap.specs.Simple.{App}
use Rattle.pls_settings.specs.Line.{Text}
use Rattle.pls_settings.specs.Parse.{plsnd, with_option}
use Rattle.pls_settings.proofs.line.command.Goals as goal

pub returns : goal.returns
unfolding plsnd
returns c =
    let next : (a b : App) (name : Text) → a ≡ b → with_option a name ≡ with_option b name = λ a b name e. ap (λ (x : App). with_option x name) e in
    IfOk-weaker c.with_option-9.result _ _
    (λ r h. h ∙ next _ _ _
    (c.in_ok-command-9.ensures ∙ next _ _ _
    (c.in_ok-command-8.ensures ∙ next _ _ _
    (c.in_ok-command-7.ensures ∙ next _ _ _
    (c.in_ok-command-6.ensures ∙ next _ _ _
    (c.in_ok-command-5.ensures ∙ next _ _ _
    (c.in_ok-command-4.ensures ∙ next _ _ _
    (c.in_ok-command-3.ensures ∙ next _ _ _
    (c.in_ok-command-2.ensures ∙ next _ _ _
    c.in_ok-command.ensures))))))))) c.with_option-9.ensures
