-- Which entries are right at a shared ND-tree, and what the words say that a pass remembers.
use Rattle.std.specs.Prelude.{◌≡◌, ℕ, ℤ, ◌-◌, Bool, true, false, Option, Some, None, List, ◌++◌, map, take, length, replicate}
use Rattle.std.specs.List.{list_any}
use Rattle.era_rows.specs.Memory.{Memory}
use Rattle.era_rows.specs.declared.memory.TheConstants.{MEMORY_WORDS}
use Rattle.pls_vectors.specs.Archive.{dominates}
use Rattle.pls_vectors.specs.Dominance.{weakly_dominates}
use Rattle.pls_vectors.specs.Word.{to_word, from_word}
use Rattle.pls_archive.specs.declared.call.Call.{Call}
use Rattle.pls_archive.specs.declared.call.Call.TheVariants.{Update, Covered, Member, Snapshot}
use Rattle.pls_archive.specs.declared.call.Entry.{Entry}
use Rattle.pls_archive.specs.declared.call.Reply.TheVariants.{Added}
use Rattle.pls_archive.specs.declared.point.Point.{Point}
use Rattle.pls_archive.specs.History.{submissions}
use Rattle.pls_archive.specs.Reply.{has_value, nondominated}

-- what is handed in has so many parts
abbrev pub HasParts : ℕ → Call → Type 0
HasParts objectives (Update p) = length p.value ≡ objectives
HasParts objectives (Covered v) = length v ≡ objectives
HasParts objectives (Member v) = length v ≡ objectives
HasParts objectives Snapshot = Unit {0}

-- the entry has the reply of the nondominated archive after these entries
pub record IsRight (objectives : ℕ) (e : Entry) (entries : List Entry) : Type 0 where
  pub due : e.reply ≡ nondominated (submissions entries) e.call
  pub parts : HasParts objectives e.call

-- the first words are those of the value of a point that was submitted
abbrev pub is_submitted : ℕ → List ℕ → List Entry → Bool
is_submitted objectives words entries = has_value (submissions entries) (map from_word (take objectives words))

-- the words of the parts of a value, and 0 at each place past them
abbrev pub memory_words : List ℤ → List ℕ
memory_words v = map to_word v ++ replicate (MEMORY_WORDS - length v) 0

-- what is remembered at a place are the words of a value that weakly dominates this one
abbrev pub held_covers : List ℤ → Option (List ℕ) → Bool
held_covers v None = false
held_covers v (Some words) = weakly_dominates (map from_word (take (length v) words)) v

-- that is so at some place
abbrev pub recalls_value : Memory → List ℤ → Bool
recalls_value memory v = list_any (held_covers v) memory

-- what is remembered at a place are the words of a value that dominates this one: it weakly dominates it, and has other parts
abbrev pub held_dominates : List ℤ → Option (List ℕ) → Bool
held_dominates v None = false
held_dominates v (Some words) = dominates weakly_dominates (map from_word (take (length v) words)) v

-- that is so at some place
abbrev pub recalls_dominating : Memory → List ℤ → Bool
recalls_dominating memory v = list_any (held_dominates v) memory

-- whichever of the two is asked: whether the value that weakly dominates this one has to be another one
abbrev pub held_meets : Bool → List ℤ → Option (List ℕ) → Bool
held_meets false = held_covers
held_meets true = held_dominates

-- the entry of a point that was added
abbrev pub added : ℕ → ℕ → Point → ℕ → Entry
added caller stamp point removed = record { caller = caller; stamp = stamp; call = Update point; reply = Added removed }
