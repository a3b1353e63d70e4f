-- The rule of the one word and the one slot: what holds between any two steps of any passes, in every schedule.
use Rattle.std.specs.Prelude.{◌≡◌, ◌≢◌, ℕ, ◌+◌, ◌*◌, ◌^◌, ◌<◌, ◌≤◌, ◌==◌, Bool, true, false, if◌then◌else◌, Some, List, [], ◌∷◌, length}
use Rattle.atomic_table.specs.Table.{State, Me}
use Rattle.pls_archive.specs.declared.call.Entry.{Entry}
use Rattle.pls_archive.specs.Lists.{Every, IsPrefix, total, how_many, one_if}
use Rattle.pls_archive.specs.History.{submissions}
use Rattle.pls_archive.specs.View.{View, lists_of, IsObserved, IsConsistent}
use Rattle.pls_archive.specs.Archives.{IsArchiveOf}
use Rattle.pls_archive.specs.declared.rule.Rule as rule
use Rattle.pls_archive.specs.declared.single.Single as single
use Rattle.pls_archive.proofs.Keeping.{AgreesWith, HoldsNoneOf}
use Rattle.pls_turn.specs.declared.seen.Turn.{Turn}
use Rattle.pls_turn.specs.declared.terms.Terms.{Terms}
use Rattle.pls_turn.specs.Turns.{is_live, taking}
use mathlib.Core.Option as maybe
use mathlib.Core.Option.{none, some}
use lib.ListN.{get_elem?}

module _ {S : Type 0} where
  -- how often the pass holds the list of this caller
  abbrev pub times_held : ℕ → Turn S → ℕ
  times_held c t = if is_live t then how_many (λ (list : ℕ × List Entry). list.0 == c) (lists_of t.view) else 0

  module _ {L : Type 0} (R : rule.Ghosts L) (One : single.Ghosts S L) where
    -- the number that the rule of the archive takes
    abbrev pub number_of : Terms S → ℕ
    number_of key = One.number key.single.value

    -- the archive has the members after all accepting entries
    pub record IsArchiveAt (key : Terms S) (log : List Entry) (a : S) : Type 0 where
      pub members : IsArchiveOf (R.front (number_of key)) (R.reply (number_of key)) (submissions log) (One.points a)
      pub number_is : One.number a ≡ One.number key.single.value
      pub objectives_is : One.objectives a ≡ One.objectives key.single.value

    -- the slot: the archive is at home, or out with the pass that holds the turn
    abbrev pub HasSlot : Terms S → List Entry → Bool → List (maybe.Option S) → Type 0
    HasSlot key log true homes = homes ≡ none ∷ []
    HasSlot key log false homes = (a : S) × (homes ≡ some a ∷ []) × IsArchiveAt key log a

    -- what is known of a pass, where these are all accepting entries
    pub record IsSound (key : Terms S) (log : List Entry) (t : Turn S) : Type 0 where
      pub terms_are : is_live t ≡ true → t.terms ≡ Some key
      pub agrees : is_live t ≡ true → AgreesWith (R.reply (number_of key)) log t.view
      pub begun : is_live t ≡ true → Every (λ (list : ℕ × List Entry). list.0 < key.passes) (lists_of t.view)
      -- a pass that holds the turn has observed all of them
      pub turn : t.holds ≡ true → (is_live t ≡ true) × (t.view.observed ≡ log)

    -- these are all accepting entries, and a turn is held or none is
    pub record Kept (key : Terms S) (s : State S (Turn S)) (log : List Entry) (out : Bool) : Type 0 where
      pub word : s.words ≡ (2 * length log + one_if out) ∷ []
      pub few : length log < 2 ^ 40
      pub observed : IsObserved (R.reply (number_of key)) key.passes log
      pub slot : HasSlot key log out s.homes
      pub holders : total (λ (t : Turn S). one_if t.holds) s.views ≡ one_if out
      -- no list is held twice
      pub once : (c : ℕ) → total (times_held c) s.views ≤ 1
      pub each : (i : ℕ) (t : Turn S) → get_elem? s.views i ≡ some t → IsSound key log t

    abbrev pub Holds : Terms S → State S (Turn S) → Type 0
    Holds key s = (log : List Entry) × (out : Bool) × Kept key s log out

    -- what a pass that holds the turn knows
    pub record IsInTurn (key : Terms S) (t : Turn S) : Type 0 where
      pub terms_are : t.terms ≡ Some key
      pub holds : t.holds ≡ true
      pub observed : IsObserved (R.reply (number_of key)) key.passes t.view.observed
      pub agrees : AgreesWith (R.reply (number_of key)) t.view.observed t.view
      pub begun : t.view.number < key.passes
      pub apart : HoldsNoneOf t.view.number t.view.others
      pub few : length t.view.observed < 2 ^ 40

    -- the exchange took the turn, with the archive
    pub record Took (key : Terms S) (m : Me S (Turn S)) (found : ℕ) (n : Me S (Turn S)) : Type 0 where
      pub archive : S
      pub log : List Entry
      pub turn_is : n ≡ (taking log m.0, (0, archive) ∷ m.1)
      pub turn : IsInTurn key (taking log m.0)
      pub members : IsArchiveAt key log archive
      pub further : IsPrefix m.0.view.observed log
      pub count : found ≡ 2 * length log

    abbrev pub Takes : ℕ → Me S (Turn S) → ℕ → Me S (Turn S) → Type 0
    Takes guess m found n =
        (key : Terms S) → m.0.terms ≡ Some key → (found ≢ guess → n ≡ m) × (found ≡ guess → Took key m found n)

    -- With this view and this archive the pass may give the turn back: the view has observed all accepting entries, and what
    -- other passes know still agrees with them
    pub record MayGive (key : Terms S) (t : Turn S) (v : View) (a : S) : Type 0 where
      pub terms_are : t.terms ≡ Some key
      pub holds : t.holds ≡ true
      pub number_is : v.number ≡ t.view.number
      pub others_are : v.others ≡ t.view.others
      pub few : length v.observed < 2 ^ 40
      pub observed : IsObserved (R.reply (number_of key)) key.passes v.observed
      pub agrees : AgreesWith (R.reply (number_of key)) v.observed v
      pub archive : IsArchiveAt key v.observed a
      pub keeps : (w : View) → HoldsNoneOf v.number (lists_of w) → AgreesWith (R.reply (number_of key)) t.view.observed w
          → AgreesWith (R.reply (number_of key)) v.observed w

    abbrev pub Looks : Me S (Turn S) → Me S (Turn S) → Type 0
    Looks m n = (n ≡ m) × ((key : Terms S) → m.0.terms ≡ Some key → IsConsistent (R.reply (One.number key.single.value)) key.passes m.0.view)
