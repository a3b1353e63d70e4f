-- With the entry of its call a pass may give the turn back, and its view is then extended by it.
use Rattle.std.proofs.Common.{◌≡◌, ℕ, ◌+◌, ◌^◌, ◌<◌, Bool, true, false, if◌then◌else◌, List, [], ◌∷◌, ◌++◌, length, refl, ap, arith, length-append}
use Rattle.pls_archive.specs.declared.point.Point.{Point}
use Rattle.pls_archive.specs.declared.call.Call.{Call}
use Rattle.pls_archive.specs.declared.call.Reply.{Reply}
use Rattle.pls_archive.specs.declared.call.Entry.{Entry}
use Rattle.pls_archive.specs.Lists.{one_if}
use Rattle.pls_archive.specs.Rule.{is_accepting}
use Rattle.pls_archive.specs.History.{submissions}
use Rattle.pls_archive.specs.View.{View}
use Rattle.pls_archive.specs.SharedCalls.{Answers}
use Rattle.pls_archive.specs.declared.rule.Rule as rule
use Rattle.pls_archive.specs.declared.single.Single as single
use Rattle.pls_archive.proofs.KeepingLists.{IsObserved-more}
use Rattle.pls_archive.proofs.Keeping.{AgreesWith-other, AgreesWith-accepting, AgreesWith-unaccepted, answers-accepting, answers-unaccepted}
use Rattle.pls_turn.specs.declared.seen.Turn.{Turn}
use Rattle.pls_turn.specs.declared.terms.Terms.{Terms}
use Rattle.pls_turn.specs.TurnRule.{IsArchiveAt, IsInTurn, MayGive}
use Rattle.pls_turn.specs.Passes.{entry_of}
use Rattle.pls_turn.proofs.Lists.{whole_prefix}

-- the view after the entry, by whether it is accepting
abbrev pub after_by : Bool → Entry → View → View
after_by b e v = record v { observed = if b then v.observed ++ e ∷ [] else v.observed; own = v.own ++ e ∷ [] }

module _ {S L : Type 0} (R : rule.Ghosts L) (One : single.Ghosts S L)
    (key : Terms S) (t : Turn S) (turn : IsInTurn R One key t)
    (call : Call) (answer : Reply) (stamp : ℕ) (right : answer ≡ R.reply (One.number key.single.value) (submissions t.view.observed) call) (few : stamp < 2 ^ 40) where
  abbrev pub law : List Point → Call → Reply
  law = R.reply (One.number key.single.value)

  abbrev pub log : List Entry
  log = t.view.observed

  abbrev pub new : Entry
  new = entry_of t.view call answer stamp

  abbrev pub Both : Bool → Type 0
  Both b =
      ((a : S) → IsArchiveAt R One key (after_by b (entry_of t.view call answer stamp) t.view).observed a
      → MayGive R One key t (after_by b (entry_of t.view call answer stamp) t.view) a)
      × Answers (R.reply (One.number key.single.value)) key.passes t.view call answer stamp (after_by b (entry_of t.view call answer stamp) t.view)
      × (stamp ≡ length (after_by b (entry_of t.view call answer stamp) t.view).observed)

  accepting : is_accepting call answer ≡ true → stamp ≡ length t.view.observed + 1 → Both true
  accepting accepted stamped = (
    (λ a archive. record {
      terms_are = turn.terms_are;
      holds = turn.holds;
      number_is = refl;
      others_are = refl;
      few = (let long = length-append log (new ∷ []) in omega arith);
      observed = IsObserved-more law key.passes log new turn.observed accepted turn.begun stamped right;
      agrees = AgreesWith-accepting law log t.view turn.agrees new accepted refl stamped turn.apart;
      archive = archive;
      keeps = λ w apart agrees. AgreesWith-other law log w agrees new apart;
    }),
    answers-accepting law key.passes log turn.observed t.view turn.agrees call answer stamp accepted turn.begun stamped right turn.apart,
    (let long = length-append log (new ∷ []) in omega arith),
  )

  other : is_accepting call answer ≡ false → stamp ≡ length t.view.observed → Both false
  other unaccepted stamped = (
    (λ a archive. record {
      terms_are = turn.terms_are;
      holds = turn.holds;
      number_is = refl;
      others_are = refl;
      few = turn.few;
      observed = turn.observed;
      agrees = AgreesWith-unaccepted law log t.view turn.agrees log (whole_prefix log) (whole_prefix log) new unaccepted refl stamped right;
      archive = archive;
      keeps = λ w apart agrees. agrees;
    }),
    answers-unaccepted law key.passes log turn.observed t.view turn.agrees call answer stamp log (whole_prefix log) (whole_prefix log) unaccepted stamped right,
    stamped,
  )

  pub given_back : stamp ≡ length t.view.observed + one_if (is_accepting call answer) → Both (is_accepting call answer)
  given_back stamped = by_reply (is_accepting call answer) refl
    where
      by_reply : (b : Bool) → is_accepting call answer ≡ b → Both b
      by_reply true is = accepting is (let one = ap one_if is in omega arith)
      by_reply false is = other is (let none = ap one_if is in omega arith)
