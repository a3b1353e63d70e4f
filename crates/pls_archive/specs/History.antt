-- Histories of calls with their replies, and which of them are legal.
use Rattle.std.specs.Prelude.{◌≡◌, ℕ, ◌+◌, Bool, List, [], ◌∷◌, ◌++◌, length, map, filter}
use Rattle.std.specs.List.{flat_map}
use Rattle.pls_archive.specs.declared.point.Point.{Point}
use Rattle.pls_archive.specs.declared.call.Call.{Call}
use Rattle.pls_archive.specs.declared.call.Call.TheVariants.{Update}
use Rattle.pls_archive.specs.declared.call.Reply.{Reply}
use Rattle.pls_archive.specs.declared.call.Entry.{Entry}
use Rattle.pls_archive.specs.Lists.{one_if}
use Rattle.pls_archive.specs.Rule.{submitted_by, accepted_by, is_accepting}

-- the submissions of a history, in order
abbrev pub submissions : List Entry → List Point
submissions history = flat_map (λ e. submitted_by e.call) history

-- the accepted points of a history, in order
abbrev pub accepted : List Entry → List Point
accepted history = flat_map (λ e. accepted_by e.call e.reply) history

-- an entry that brought something in
abbrev pub accepts : Entry → Bool
accepts e = is_accepting e.call e.reply

-- the accepting entries of a history, in order
abbrev pub accepting : List Entry → List Entry
accepting history = filter accepts history

-- What an archive replies, as a function of the submissions before the call.
module _ (reply : List Point → Call → Reply) where
  -- the entry that a call adds to a legal history: its stamp counts the accepting entries up to it
  abbrev pub next_entry : ℕ → List Entry → Call → Entry
  next_entry caller history call =
      let answer = reply (submissions history) call in
      record {
        caller = caller;
        stamp = length (accepting history) + one_if (is_accepting call answer);
        call = call;
        reply = answer;
      }

  -- the history with one more call
  abbrev pub with_call : ℕ → List Entry → Call → List Entry
  with_call caller history call = history ++ next_entry caller history call ∷ []

  -- the entries of these calls, made one after another
  abbrev pub calling : ℕ → List Entry → List Call → List Entry
  calling caller history [] = []
  calling caller history (call ∷ calls) =
      next_entry caller history call ∷ calling caller (with_call caller history call) calls

  -- the entries of these submissions, made one after another
  abbrev pub submitting : ℕ → List Entry → List Point → List Entry
  submitting caller history points = calling caller history (map Update points)

  -- entries that go on from a history as a legal sequential history does
  abbrev pub ContinuesLegally : List Entry → List Entry → Type 0
  ContinuesLegally history [] = Unit {0}
  ContinuesLegally history (e ∷ later) =
      (e ≡ next_entry e.caller history e.call) × ContinuesLegally (history ++ e ∷ []) later

  -- a legal sequential history: each entry has the reply and the stamp that are due after those before it
  abbrev pub IsLegal : List Entry → Type 0
  IsLegal history = ContinuesLegally [] history
