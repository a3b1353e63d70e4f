-- The running rule: what holds between any two steps, of the words and of what the passes know.
-- A pass that was joined into another has no number and holds no row, and nothing more is said of it.
use Rattle.std.specs.Prelude.{◌≡◌, ℕ, ◌+◌, ◌-◌, ◌<◌, ◌≤◌, Bool, nat_lt, ◌==◌, if◌then◌else◌, Option, Some, None, List, [], ◌∷◌, ◌++◌, map, take, length}
use Rattle.era_core.specs.declared.sizes.TheConstants.{WIDTH}
use Rattle.era_core.specs.Lists.{times, In, total}
use Rattle.era_core.specs.Words.{version, reservation}
use Rattle.era_core.specs.Views.{View, held}
use Rattle.era_core.specs.Versions.{Cell, Copy, Stands}
use Rattle.era_core.specs.Sound.{Sound}
use Rattle.era_core.specs.Machine.{start_views}
use Rattle.era_rows.specs.Known.{Known, first_known, next_number, having_made, beginning, longer, spent_view, joining_known}
use Rattle.era_rows.specs.Lists.{IsPrefix, IsLog, IsListOf}
use Rattle.era_rows.specs.declared.views.Knows.{Knows}
use Rattle.era_rows.specs.declared.sizes.Sizes.{Sizes}
use mathlib.Core.Option.{some}
use lib.ListN.{get_elem?}

module _ {E : Type 0} where
  abbrev pub knowing : List E → List (ℕ × List E) → Known → Knows E
  knowing seen lists k = record { of = record {}; seen = seen; lists = lists; view = k }

  abbrev pub core_of : Knows E → View
  core_of k = k.view.core

  -- the callers whose lists a pass holds
  abbrev pub callers_of : Knows E → List ℕ
  callers_of k = map (λ list. list.0) k.lists

  -- what the first pass knows at the start
  abbrev pub first_knows : Sizes → Knows E
  first_knows key = knowing [] ((0, []) ∷ []) (first_known key.shape key.rows key.passes)

  -- The first pass splits off another: it counts it, and the other begins with what has been seen so far
  abbrev pub left_knows : Knows E → Knows E
  left_knows k = knowing k.seen k.lists (having_made k.view)

  abbrev pub right_knows : Knows E → Knows E
  right_knows k = knowing k.seen ((next_number k.view, []) ∷ []) (beginning k.view)

  -- The pass takes over what another knows and has. What the other knew is gone
  abbrev pub both_knows : Knows E → Knows E → Knows E
  both_knows k l = knowing (longer k.seen l.seen) (k.lists ++ l.lists) (joining_known k.view l.view)

  abbrev pub spent_knows : Knows E
  spent_knows = knowing [] [] (record (first_known 0 0 0) { core = spent_view; made = None })

-- the pass knows the shape and how many rows and passes there are
pub record HasSizes (key : Sizes) (shape rows passes : ℕ) : Type 0 where
  pub shape_is : shape ≡ key.shape
  pub rows_are : rows ≡ key.rows
  pub passes_are : passes ≡ key.passes

-- the words that a pass wrote stand, each in one of its fresh rows
pub record AreWritten (key : Sizes) (ws : List ℕ) (fresh : List ℕ) (cells : List Cell) : Type 0 where
  pub stand : Stands key.passes key.rows ws cells
  pub in_fresh : (i : ℕ) (c : Cell) → get_elem? cells i ≡ some c → In c.row fresh
  pub placed : (i : ℕ) (c : Cell) → get_elem? cells i ≡ some c → c.place < WIDTH

module _ {E : Type 0} (caller stamp : E → ℕ) (accepted : ℕ → E → Bool) (lawful : ℕ → Copy → Type 0) (stands : ℕ → Copy → List E → Type 0)
    (right : ℕ → E → List E → Type 0) (key : Sizes) where
  -- what pass j knows of the entries agrees with the longest list of them
  pub record Hears (log : List E) (copies : List Copy) (j : ℕ) (seen : List E) (lists : List (ℕ × List E)) (known : List Copy) (pinned : Option (ℕ × ℕ)) : Type 0 where
    -- it has seen a beginning of the longest list, and knows the copies of the versions up to there
    pub seen_first : IsPrefix seen log
    pub known_first : IsPrefix known copies
    pub paired : length known ≡ length seen + 1
    pub pinned_seen : (n r : ℕ) → pinned ≡ Some (n, r) → n ≤ length seen
    -- it holds its own list, and each list that it holds is its caller's
    pub own : (i : ℕ) × (es : List E) × (get_elem? lists i ≡ some (j, es))
    pub held : (i c : ℕ) (es : List E) → get_elem? lists i ≡ some (c, es) → IsListOf caller stamp accepted right key.shape log (length seen) c es

  -- what pass j knows agrees with the words, the longest list and the versions
  pub record Agrees (ws : List ℕ) (log : List E) (copies : List Copy) (made j : ℕ) (k : Knows E) : Type 0 where
    pub begun : j < made
    pub sizes : HasSizes key k.view.shape k.view.rows k.view.passes
    pub makes : k.view.made ≡ (if j == 0 then Some made else None)
    pub reserves : reservation key.passes key.rows ws j ≡ k.view.reserves
    pub hears : Hears log copies j k.seen k.lists k.view.copies k.view.core.pinned
    pub written : AreWritten key ws k.view.core.fresh k.view.written

  pub record Kept (ws : List ℕ) (vs : List (Knows E)) : Type 0 where
    -- how many passes have begun, the longest list of accepted entries, and the versions
    pub made : ℕ
    pub log : List E
    pub copies : List Copy
    pub enough : made ≤ key.passes
    -- the words, the views of the passes and those of the passes that have not begun are a sound machine
    pub sound : Sound key.passes key.rows ws (map core_of vs ++ start_views made (key.passes - made)) copies
    -- the longest list has as many entries as the root's version says
    pub counted : length log ≡ version ws
    pub logged : IsLog caller stamp accepted right key.shape made log
    -- each version is lawful, and stands for the entries up to it
    pub means : (n : ℕ) (c : Copy) → get_elem? copies n ≡ some c → lawful key.shape c × stands key.shape c (take n log)
    -- the list of each caller that has begun is held once
    pub once : (c : ℕ) → total (λ (k : Knows E). times c (callers_of k)) vs ≡ (if nat_lt c made then 1 else 0)
    pub each : (i j : ℕ) (k : Knows E) → get_elem? vs i ≡ some k → k.view.core.number ≡ Some j → Agrees ws log copies made j k
    -- a pass that was joined into another holds no row
    pub spent : (i : ℕ) (k : Knows E) → get_elem? vs i ≡ some k → k.view.core.number ≡ None → held k.view.core ≡ []
