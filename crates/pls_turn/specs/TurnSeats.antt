-- A seat that holds the turn, with the archive.
use Rattle.std.specs.Prelude.{◌≡◌, ℕ, ◌<◌, ◌+◌, ◌^◌, if◌then◌else◌, List, [], ◌∷◌, ◌++◌, length}
use Rattle.atomic_table.specs.declared.shared.Seat.{Seat}
use Rattle.pls_archive.specs.declared.call.Call.{Call}
use Rattle.pls_archive.specs.declared.call.Reply.{Reply}
use Rattle.pls_archive.specs.declared.call.Entry.{Entry}
use Rattle.pls_archive.specs.Lists.{IsPrefix, one_if}
use Rattle.pls_archive.specs.Rule.{is_accepting}
use Rattle.pls_archive.specs.History.{submissions, accepts}
use Rattle.pls_archive.specs.View.{View}
use Rattle.pls_archive.specs.declared.rule.Rule as rule
use Rattle.pls_archive.specs.declared.single.Single as single
use Rattle.pls_turn.specs.declared.seen.Turn.{Turn}
use Rattle.pls_turn.specs.declared.turned.Turned.{Turned}
use Rattle.pls_turn.specs.TurnRule.{IsArchiveAt, IsInTurn}
use Rattle.pls_turn.specs.Passes.{terms_of, entry_of}

-- the accepting entries after one more entry
abbrev pub observed_after : Entry → List Entry → List Entry
observed_after e log = if accepts e then log ++ e ∷ [] else log

module _ {S L : Type 0} (R : rule.Ghosts L) (One : single.Ghosts S L) where
  -- the seat holds the turn; the view of its pass was this one before
  pub record HasTurn (t : Turned S L) (before : View) (seat : Seat S (Turn S)) : Type 0 where
    pub at_table : seat.table_id ≡ t.table.shared.table_id
    pub turn : IsInTurn R One (terms_of t) seat.me.0
    pub view_is : seat.me.0.view ≡ record before { observed = seat.me.0.view.observed }
    pub further : IsPrefix before.observed seat.me.0.view.observed

  -- the seat has the archive, as it is after these accepting entries
  abbrev pub HasArchive : Turned S L → List Entry → Seat S (Turn S) → Type 0
  HasArchive t log seat = (a : S) × (seat.me.1 ≡ (0, a) ∷ []) × IsArchiveAt R One (terms_of t) log a

  -- the call with this answer may be made now, with this stamp
  pub record IsDue (t : Turned S L) (seat : Seat S (Turn S)) (call : Call) (answer : Reply) (stamp : ℕ) : Type 0 where
    pub right : answer ≡ R.reply (One.number (terms_of t).single.value) (submissions seat.me.0.view.observed) call
    pub stamped : stamp ≡ length seat.me.0.view.observed + one_if (is_accepting call answer)
    pub few : stamp < 2 ^ 40
    pub archive : HasArchive t (observed_after (entry_of seat.me.0.view call answer stamp) seat.me.0.view.observed) seat
