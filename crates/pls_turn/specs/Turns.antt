-- What each step of a pass makes of its view and of its turn.
use Rattle.std.specs.Prelude.{ℕ, zero, suc, ◌+◌, ◌-◌, Bool, true, false, nat_le, if◌then◌else◌, Some, None, is_some, List, [], ◌∷◌, ◌++◌, drop, length}
use Rattle.pls_archive.specs.declared.call.Entry.{Entry}
use Rattle.pls_archive.specs.History.{accepts}
use Rattle.pls_archive.specs.View.{View, new_view, lists_of}
use Rattle.pls_turn.specs.declared.seen.Turn.{Turn}
use Rattle.pls_turn.specs.declared.terms.Terms.{Terms}

-- so many callers from a number on, none of which has made a call
abbrev pub no_calls : ℕ → ℕ → List (ℕ × List Entry)
no_calls from zero = []
no_calls from (suc n) = (from, []) ∷ no_calls (from + 1) n

-- a pass with the list of the first of these callers, and no others
abbrev pub view_with : List Entry → List (ℕ × List Entry) → View
view_with seen [] = new_view 0
view_with seen (list ∷ lists) = record { number = list.0; observed = seen; own = list.1; others = [] }

-- the view of two passes, one joined into the other
abbrev pub joined_view : View → View → View
joined_view v w =
    record {
      number = v.number;
      observed = if nat_le (length w.observed) (length v.observed) then v.observed else w.observed;
      own = v.own;
      others = v.others ++ lists_of w;
    }

-- the view after an entry of its own: an accepting one is observed
abbrev pub after_entry : Entry → View → View
after_entry e v = record v { observed = if accepts e then v.observed ++ e ∷ [] else v.observed; own = v.own ++ e ∷ [] }

module _ {S : Type 0} where
  -- the pass is at an archive
  abbrev pub is_live : Turn S → Bool
  is_live t = is_some t.terms

  -- the first pass begins with the lists of all callers
  abbrev pub first_turn : Terms S → Turn S
  first_turn terms =
      record {
        of = record {};
        view = record { number = 0; observed = []; own = []; others = no_calls 1 (terms.passes - 1) };
        holds = false;
        terms = Some terms;
      }

  -- and gives the first of the other lists to a new pass
  abbrev pub giving : Turn S → Turn S
  giving t = record t { view = record t.view { others = drop 1 t.view.others } }

  abbrev pub given : Turn S → Turn S
  given t = record t { view = view_with t.view.observed t.view.others }

  abbrev pub joining : Turn S → Turn S → Turn S
  joining t u = record t { view = joined_view t.view u.view }

  -- a pass that was joined into another
  abbrev pub spent : Turn S
  spent = record { of = record {}; view = new_view 0; holds = false; terms = None }

  -- the pass takes the turn, and has then observed all accepting entries
  abbrev pub taking : List Entry → Turn S → Turn S
  taking log t = record t { view = record t.view { observed = log }; holds = true }

  -- it gives the turn back, and has this view
  abbrev pub resting : View → Turn S → Turn S
  resting v t = record t { view = v; holds = false }
