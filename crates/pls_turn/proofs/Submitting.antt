-- An update in a turn: what is due, and what it is to the view from before the turn.
use Rattle.std.proofs.Common.{◌≡◌, ℕ, ◌+◌, ◌^◌, ◌<◌, Bool, true, false, List, [], ◌∷◌, ◌++◌, length, refl, ap, sym, subst, ◌∙◌, arith}
use Rattle.atomic_table.specs.declared.shared.Seat.{Seat}
use Rattle.pls_archive.specs.declared.point.Point.{Point}
use Rattle.pls_archive.specs.declared.call.Call.{Call}
use Rattle.pls_archive.specs.declared.call.Call.TheVariants.{Update}
use Rattle.pls_archive.specs.declared.call.Reply.{Reply}
use Rattle.pls_archive.specs.declared.call.Taken.{Taken}
use Rattle.pls_archive.specs.declared.call.Entry.{Entry}
use Rattle.pls_archive.specs.Lists.{one_if}
use Rattle.pls_archive.specs.Rule.{is_accepting}
use Rattle.pls_archive.specs.History.{submissions}
use Rattle.pls_archive.specs.Archives.{reply_of}
use Rattle.pls_archive.specs.View.{View, ObservesWith}
use Rattle.pls_archive.specs.SharedCalls.{Answers, IsRefused}
use Rattle.pls_archive.specs.declared.rule.Rule as rule
use Rattle.pls_archive.specs.declared.single.Single as single
use Rattle.pls_archive.proofs.Keeping.{AgreesWith-consistent}
use Rattle.pls_turn.specs.declared.seen.Turn.{Turn}
use Rattle.pls_turn.specs.declared.turned.Turned.{Turned}
use Rattle.pls_turn.specs.Passes.{terms_of, entry_of}
use Rattle.pls_turn.specs.TurnSeats.{HasTurn, HasArchive, IsDue, observed_after}
use Rattle.pls_turn.proofs.Lists.{prefix_trans}

module _ {S L : Type 0} (R : rule.Ghosts L) (One : single.Ghosts S L) (t : Turned S L) where
  abbrev pub law : List Point → Call → Reply
  law = R.reply (One.number (terms_of t).single.value)

  -- after the archive took the point, this answer is due
  pub submitted :
      (before after : Seat S (Turn S)) (p : Point) (taken : Taken) (stamp : ℕ) → after.me.0 ≡ before.me.0
      → reply_of taken ≡ law (submissions before.me.0.view.observed) (Update p)
      → ((e : Entry) → e.call ≡ Update p → e.reply ≡ reply_of taken
      → HasArchive R One t (observed_after e before.me.0.view.observed) after)
      → stamp ≡ length before.me.0.view.observed + one_if (is_accepting (Update p) (reply_of taken))
      → length before.me.0.view.observed + one_if (is_accepting (Update p) (law (submissions before.me.0.view.observed) (Update p))) < 2 ^ 40
      → IsDue R One t after (Update p) (reply_of taken) stamp
  submitted before after p taken stamp same right archive stamped room =
      let observed = ap (λ (u : Turn S). u.view.observed) (sym same) in
      record {
        right = right ∙ ap (λ l. law (submissions l) (Update p)) observed;
        stamped = stamped ∙ ap (λ (l : List Entry). length l + one_if (is_accepting (Update p) (reply_of taken))) observed;
        few =
            let accepted = ap (λ r. one_if (is_accepting (Update p) r)) right in
            omega arith;
        archive =
            let e = entry_of after.me.0.view (Update p) (reply_of taken) stamp in
            subst (λ l. HasArchive R One t (observed_after e l) after) observed (archive e refl refl);
      }

  module _ (before : View) (seat : Seat S (Turn S)) (turn : HasTurn R One t before seat) where
    observes_sooner : (b : Bool) (e : Entry) (after : List Entry) → ObservesWith law b seat.me.0.view.observed e after → ObservesWith law b before.observed e after
    observes_sooner true e after (earlier, is, last, right) =
        (earlier, prefix_trans before.observed seat.me.0.view.observed earlier turn.further is, last, right)
    observes_sooner false e after (is, right) = (prefix_trans before.observed seat.me.0.view.observed after turn.further is, right)

    -- an answer that extends the view of the turn extends that from before it
    pub answers_sooner :
        (call : Call) (answer : Reply) (stamp : ℕ) (after : View) → Answers law (terms_of t).passes seat.me.0.view call answer stamp after
        → Answers law (terms_of t).passes before call answer stamp after
    answers_sooner call answer stamp after answers =
        let extends = answers.extends in
        let number = ap (λ (v : View). v.number) turn.view_is in
        let e : Entry = record { caller = before.number; stamp = stamp; call = call; reply = answer } in
        record {
          extends = record {
            number = extends.number ∙ number;
            names = refl;
            own = extends.own ∙ (ap (λ (v : View). v.own ++ entry_of seat.me.0.view call answer stamp ∷ []) turn.view_is
                ∙ ap (λ (n : ℕ). before.own ++ (record { caller = n; stamp = stamp; call = call; reply = answer }) ∷ []) number);
            others = extends.others ∙ ap (λ (v : View). v.others) turn.view_is;
            stamped = extends.stamped;
            observes = observes_sooner (is_accepting call answer) e after.observed
                (subst (λ (n : ℕ). ObservesWith law (is_accepting call answer) seat.me.0.view.observed (record { caller = n; stamp = stamp; call = call; reply = answer }) after.observed) number extends.observes);
          };
          consistent = answers.consistent;
        }

    -- without an answer the pass has observed more
    pub refused_sooner : (after : View) → after ≡ seat.me.0.view → IsRefused law (terms_of t).passes before after
    refused_sooner after same = subst (λ (v : View). IsRefused law (terms_of t).passes before v) (sym same) (record {
      observes_more = record {
        number = ap (λ (v : View). v.number) turn.view_is;
        observed = turn.further;
        own = ap (λ (v : View). v.own) turn.view_is;
        others = ap (λ (v : View). v.others) turn.view_is;
      };
      consistent = AgreesWith-consistent law seat.me.0.view.observed seat.me.0.view turn.turn.agrees (terms_of t).passes turn.turn.observed;
    })
