-- What a pass does while it builds a tree: it reads, takes rows, writes into them, and marks rows of the tree that it has pinned.
use Rattle.std.specs.Prelude.{◌≡◌, ◌≢◌, ℕ, ◌<◌, ◌≤◌, ◌⊎◌, List, ◌++◌}
use Rattle.era_core.specs.Lists.{times, In}
use Rattle.era_core.specs.Versions.{Cell, look_up}
use Rattle.era_rows.specs.Known.{Known, pinned_copy, known_words}
use Rattle.era_rows.specs.Lists.{IsPrefix}
use Rattle.era_rows.specs.Passes.{IsPassOf, known_of, seen_of, lists_of, marked_of, memory_of}
use Rattle.era_rows.specs.declared.pass.Pass.{Pass}
use Rattle.era_rows.specs.declared.rows.Rows.{Rows}
use Rattle.era_rows.specs.declared.law.Law.{Ghosts}
use Rattle.pls_archive.specs.declared.call.Entry.{Entry}
use Rattle.nd_update.specs.Counted.{IsCounted, IsWithin, IsCrowded, IsShort}
use mathlib.Core.Option.{some}
use lib.ListN.{get_elem?}

-- the words of all rows but these are as they were
abbrev pub Elsewhere : List ℕ → List Cell → List Cell → Type 0
Elsewhere rows before after = (x k : ℕ) → times x rows ≡ 0 → look_up after x k ≡ look_up before x k

-- all words are, but those of a row from one place on up to another
abbrev pub Outside : ℕ → ℕ → ℕ → List Cell → List Cell → Type 0
Outside row from to before after = (x k : ℕ) → (x ≢ row) ⊎ ((k < from) ⊎ (to ≤ k)) → look_up after x k ≡ look_up before x k

-- the pass has the number and the version that it had, and has found more
pub record Builds (before after : Known) : Type 0 where
  pub number : after.core.number ≡ before.core.number
  pub pinned : after.core.pinned ≡ before.core.pinned
  pub copies : after.copies ≡ before.copies
  pub shape : after.shape ≡ before.shape
  pub rows : after.rows ≡ before.rows
  pub passes : after.passes ≡ before.passes
  pub since : after.since ≡ before.since
  pub looked : IsPrefix before.looks after.looks

module _ {L : Type 0} {G : Ghosts L Entry} where
  -- the pass has the entries and the version that it had
  pub record Goes (r : Rows L Entry) (p q : Pass L Entry G) : Type 0 where
    pub is_pass : IsPassOf r q
    pub same_number : q.number ≡ p.number
    pub same_seen : seen_of q ≡ seen_of p
    pub same_lists : lists_of q ≡ lists_of p
    pub builds : Builds (known_of p) (known_of q)

  -- it found no row free after few takes, and keeps an evidence of that
  pub record Lacks (r : Rows L Entry) (p q : Pass L Entry G) : Type 0 where
    pub goes : Goes r p q
    pub within : IsWithin (known_of q)
    pub crowded : IsCrowded (known_of q)
    pub short : IsShort (known_of q)

module _ {L : Type 0} {G : Ghosts L Entry} where
  -- The fresh rows of the pass are different rows and in no tree that it has pinned, and it wrote into them alone. It took no more
  -- rows than it may
  pub record IsBuilding (r : Rows L Entry) (p : Pass L Entry G) : Type 0 where
    pub is_pass : IsPassOf r p
    pub once : (x : ℕ) → times x (known_of p).core.fresh ≤ 1
    pub inside : (x : ℕ) → In x (known_of p).core.fresh → x < r.rows
    pub unread : (x : ℕ) → In x (known_of p).core.fresh → times x (pinned_copy (known_of p)).rows ≡ 0
    pub written_fresh : (i : ℕ) (c : Cell) → get_elem? (known_of p).written i ≡ some c → In c.row (known_of p).core.fresh
    pub counted : IsCounted (known_of p) (marked_of p)

  -- it took these rows, marked those, and changed words of these rows alone
  pub record Does (r : Rows L Entry) (taken marked changed : List ℕ) (p q : Pass L Entry G) : Type 0 where
    pub building : IsBuilding r q
    pub same_number : q.number ≡ p.number
    pub same_seen : seen_of q ≡ seen_of p
    pub same_lists : lists_of q ≡ lists_of p
    pub same_memory : memory_of q ≡ memory_of p
    pub builds : Builds (known_of p) (known_of q)
    pub fresh : (known_of q).core.fresh ≡ (known_of p).core.fresh ++ taken
    pub marks : marked_of q ≡ marked_of p ++ marked
    pub elsewhere : Elsewhere changed (known_words (known_of p)) (known_words (known_of q))
    pub full : (known_of q).full ≡ (known_of p).full
