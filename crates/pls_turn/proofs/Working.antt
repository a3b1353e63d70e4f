-- What the archive answers while the turn is held is right after all accepting entries, and it stays their archive.
use Rattle.std.proofs.Common.{◌≡◌, ℕ, Bool, true, false, if◌then◌else◌, List, [], ◌∷◌, ◌++◌, refl, ap, sym, subst, ◌∙◌}
use Rattle.std.proofs.lemmas.List.Concat.{flat_map-append}
use Rattle.pls_archive.specs.declared.point.Point.{Point}
use Rattle.pls_archive.specs.declared.call.Call.{Call}
use Rattle.pls_archive.specs.declared.call.Call.TheVariants.{Update}
use Rattle.pls_archive.specs.declared.call.Reply.{Reply}
use Rattle.pls_archive.specs.declared.call.Taken.{Taken}
use Rattle.pls_archive.specs.declared.call.Entry.{Entry}
use Rattle.pls_archive.specs.Lists.{AsOften}
use Rattle.pls_archive.specs.Rule.{IsRule, is_accepting, submitted_by}
use Rattle.pls_archive.specs.History.{submissions, accepts}
use Rattle.pls_archive.specs.Archives.{Replies, Updates, IsArchiveOf, reply_of}
use Rattle.pls_archive.specs.declared.rule.Rule as rule
use Rattle.pls_archive.specs.declared.single.Single as single
use Rattle.pls_turn.specs.declared.terms.Terms.{Terms}
use Rattle.pls_turn.specs.TurnRule.{IsArchiveAt}
use Rattle.pls_turn.specs.TurnSeats.{observed_after}

module _ {S L : Type 0} (R : rule.Ghosts L) (One : single.Ghosts S L)
    (key : Terms S) (log : List Entry) (a : S) (archive : IsArchiveAt R One key log a) where
  pub due_now : (call : Call) (answer : Reply) → Replies (R.front (One.number a)) (R.reply (One.number a)) (One.points a) call answer
      → answer ≡ R.reply (One.number key.single.value) (submissions log) call
  due_now call answer replies =
      (subst (λ n. Replies (R.front n) (R.reply n) (One.points a) call answer) archive.number_is replies).due (submissions log) archive.members

  module _ (laws : (n : ℕ) → IsRule (R.front n) (R.reply n)) (p : Point) (t : Taken) (b : S)
      (updates : Updates (R.front (One.number a)) (R.reply (One.number a)) p t (One.points a) (One.points b)) (same_number : One.number b ≡ One.number a) (same_objectives : One.objectives b ≡ One.objectives a) where
    abbrev pub n : ℕ
    n = One.number key.single.value

    now : Updates (R.front n) (R.reply n) p t (One.points a) (One.points b)
    now = subst (λ k. Updates (R.front k) (R.reply k) p t (One.points a) (One.points b)) archive.number_is updates

    pub right_now : reply_of t ≡ R.reply n (submissions log) (Update p)
    right_now = now.replies.due (submissions log) archive.members

    with_point : IsArchiveOf (R.front n) (R.reply n) (submissions log ++ p ∷ []) (One.points b)
    with_point = now.grows (submissions log) archive.members

    pub archive_now : (e : Entry) → e.call ≡ Update p → e.reply ≡ reply_of t → IsArchiveAt R One key (observed_after e log) b
    archive_now e call_is reply_is = record {
      members = by_reply (accepts e) refl;
      number_is = same_number ∙ archive.number_is;
      objectives_is = same_objectives ∙ archive.objectives_is;
    }
      where
        submitted : submissions (log ++ e ∷ []) ≡ submissions log ++ p ∷ []
        submitted = flat_map-append (λ (d : Entry). submitted_by d.call) log (e ∷ []) ∙ ap (λ c. submissions log ++ (submitted_by c ++ [])) call_is

        by_reply : (b' : Bool) → accepts e ≡ b' → IsArchiveOf (R.front n) (R.reply n) (submissions (if b' then log ++ e ∷ [] else log)) (One.points b)
        by_reply true is = subst (λ all. IsArchiveOf (R.front n) (R.reply n) all (One.points b)) (sym submitted) with_point
        by_reply false is =
            subst (λ ms. AsOften ms (One.points b))
            ((laws n).unaccepting (submissions log) (Update p) (ap (is_accepting (Update p)) (sym right_now ∙ sym reply_is) ∙ (ap (λ c. is_accepting c e.reply) (sym call_is) ∙ is)))
            with_point
