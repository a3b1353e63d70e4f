-- What a pass of one shared row is between the parts of a replacement.
use Rattle.std.specs.Prelude.{◌≡◌, ℕ, ◌+◌, ◌/◌, ◌<◌, ◌≤◌, Some, None, List, [], ◌∷◌, drop, length}
use Rattle.era_core.specs.declared.sizes.TheConstants.{ROOT_ROWS, LAST_VERSION}
use Rattle.era_core.specs.Lists.{times, In}
use Rattle.era_core.specs.Views.{versions_of}
use Rattle.era_core.specs.Versions.{Copy, look_up}
use Rattle.era_rows.specs.Known.{Known, Look, pinned_copy, known_words}
use Rattle.era_rows.specs.Lists.{IsPrefix, add_entry}
use Rattle.era_rows.specs.Passes.{IsPassOf, known_of, seen_of, marked_of, work_of}
use Rattle.era_rows.specs.declared.pass.Pass.{Pass}
use Rattle.era_rows.specs.declared.rows.Rows.{Rows}
use Rattle.era_rows.specs.declared.law.Law.{Ghosts}
use Rattle.era_one_row.specs.declared.law.Stamped.{Stamped}
use Rattle.era_one_row.specs.declared.replaces.Replaced.{Replaced}
use Rattle.era_one_row.specs.declared.replaces.Replaced.TheVariants.{Done, Beaten, Full, Spent}
use mathlib.Core.Option.{some}
use lib.ListN.{get_elem?}

abbrev pub stamped : ℕ → ℕ → Stamped
stamped caller stamp = record { caller = caller; stamp = stamp }

-- the lists of a pass with this number after a replacement: where it was done, its own one has one entry more
abbrev pub lists_after : Replaced → ℕ → List (ℕ × List Stamped) → List (ℕ × List Stamped)
lists_after (Done v) number lists = add_entry number (stamped number v) lists
lists_after (Beaten v) number lists = lists
lists_after Full number lists = lists
lists_after Spent number lists = lists

-- what a call found, where this was known before and that after it
abbrev pub new_looks : Known → Known → List Look
new_looks before after = drop (length before.looks) after.looks

-- what was found before is still known, and the batches of before are the first ones
pub record GoesOn (before after : Known) : Type 0 where
  pub looked : IsPrefix before.looks after.looks
  pub kept : IsPrefix before.core.retired after.core.retired

-- The last pin found version n, and was the first that the call did: of what the call found it is the second, behind the look that
-- says what to reserve. So the call pinned once, and read nothing before
pub record HasPinned (n : ℕ) (before after : Known) : Type 0 where
  pub word : ℕ
  pub version : word / ROOT_ROWS ≡ n
  pub first : after.since ≡ length before.looks + 1
  pub found : get_elem? after.looks after.since ≡ some (0, word)

module _ {L E : Type 0} {G : Ghosts L E} where
  -- version v is the last one that the pass knows, and later than the one that it pinned in this call
  pub record IsBeaten (v : ℕ) (p q : Pass L E G) : Type 0 where
    pub current : v ≡ length (seen_of q)
    pub pin : ℕ
    pub pinned : HasPinned pin (known_of p) (known_of q)
    pub later : pin < v

  -- the pass has pinned nothing and marked nothing
  pub record IsAtRest (r : Rows L E) (p : Pass L E G) : Type 0 where
    pub is_pass : IsPassOf r p
    pub unpinned : (known_of p).core.pinned ≡ None
    pub no_marks : marked_of p ≡ []

  -- and its work list is empty
  pub record IsIdle (r : Rows L E) (p : Pass L E G) : Type 0 where
    pub at_rest : IsAtRest r p
    pub no_work : work_of p ≡ []

  -- it has pinned version n, the last one that it knows, which is one row
  pub record Reads (r : Rows L E) (n root : ℕ) (p : Pass L E G) : Type 0 where
    pub is_pass : IsPassOf r p
    pub low : n ≤ LAST_VERSION
    pub current : length (seen_of p) ≡ n
    pub pinned : (known_of p).core.pinned ≡ Some (n, root)
    pub alone : (pinned_copy (known_of p)).rows ≡ root ∷ []
    pub no_marks : marked_of p ≡ []
    -- and all versions that it knows are those up to it; what it retired is older than what it reserves
    pub last : length (known_of p).copies ≡ n + 1
    pub older : (b : ℕ) → In b (versions_of (known_of p).core.retired) → b + 1 < (known_of p).reserves

  -- and it has a fresh row without links, which is to take the place of that row
  pub record IsReady (r : Rows L E) (n root row : ℕ) (p : Pass L E G) : Type 0 where
    pub is_pass : IsPassOf r p
    pub low : n ≤ LAST_VERSION
    pub current : length (seen_of p) ≡ n
    pub pinned : (known_of p).core.pinned ≡ Some (n, root)
    pub alone : (pinned_copy (known_of p)).rows ≡ root ∷ []
    pub fresh : In row (known_of p).core.fresh
    pub unread : times row (pinned_copy (known_of p)).rows ≡ 0
    pub no_links : look_up (known_words (known_of p)) row 0 ≡ Some 0
    pub marked : marked_of p ≡ root ∷ []

  -- it knows version v, whose row has v at place 1
  pub record IsNumbered (v : ℕ) (p : Pass L E G) : Type 0 where
    pub copy : Copy
    pub there : get_elem? (known_of p).copies v ≡ some copy
    pub number_is : look_up copy.cells copy.root 1 ≡ Some v
