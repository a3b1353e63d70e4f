-- A turned archive and its passes, as their callers see them.
use Rattle.std.specs.Prelude.{◌≡◌, ℕ, false, Some, []}
use Rattle.atomic_table.specs.declared.shared.Seat.{Seat}
use Rattle.pls_archive.specs.declared.call.Call.{Call}
use Rattle.pls_archive.specs.declared.call.Reply.{Reply}
use Rattle.pls_archive.specs.declared.call.Entry.{Entry}
use Rattle.pls_archive.specs.View.{View, new_view}
use Rattle.pls_turn.specs.declared.seen.Turn.{Turn}
use Rattle.pls_turn.specs.declared.terms.Terms.{Terms}
use Rattle.pls_turn.specs.declared.turned.Turned.{Turned}
use Rattle.pls_turn.specs.declared.turned.TurnPass.{TurnPass}

-- the entry of a call of a pass with this view
abbrev pub entry_of : View → Call → Reply → ℕ → Entry
entry_of v call answer stamp = record { caller = v.number; stamp = stamp; call = call; reply = answer }

-- what the pass is seen as
abbrev pub view_of : {S : Type 0} → TurnPass S → View
view_of p = p.seat.me.0.view

-- what the archive keeps from its start
abbrev pub terms_of : {S L : Type 0} → Turned S L → Terms S
terms_of t = t.table.shared.key

-- the seat is at this archive, and holds no turn
pub record IsSeatOf {S L : Type 0} (t : Turned S L) (seat : Seat S (Turn S)) : Type 0 where
  pub at_table : seat.table_id ≡ t.table.shared.table_id
  pub terms_are : seat.me.0.terms ≡ Some (terms_of t)
  pub rests : seat.me.0.holds ≡ false
  pub bare : seat.me.1 ≡ []

-- the pass is of this archive
abbrev pub IsPassOf : {S L : Type 0} → Turned S L → TurnPass S → Type 0
IsPassOf t p = IsSeatOf t p.seat

-- the pass is of this archive, and has made no call and observed nothing
pub record IsNewPass {S L : Type 0} (t : Turned S L) (number : ℕ) (p : TurnPass S) : Type 0 where
  pub pass : IsPassOf t p
  pub view_is : view_of p ≡ new_view number
