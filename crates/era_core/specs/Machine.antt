-- The machine: its words and one view for each pass, the ten events, and what a list of events leaves.
use Rattle.std.specs.Prelude.{◌≡◌, ◌≢◌, ℕ, zero, suc, ◌+◌, ◌/◌, ◌<◌, ◌≤◌, Bool, true, false, ◌&&◌, ◌||◌, nat_lt, nat_le, ◌==◌, if◌then◌else◌, Option, Some, None, is_none, is_some, option_map, option_and_then, unwrap_or, not, List, [], ◌∷◌, ◌++◌, length, slice_index, slice_index_or, slice_set, slice_get}
use Rattle.std.specs.List.{list_all, list_any}
use Rattle.era_core.specs.declared.sizes.TheConstants.{WIDTH, MOST_LINKS, KINDS, LAST_VERSION, MOST_ROWS, MOST_PASSES}
use Rattle.era_core.specs.Lists.{is_in, all_different, In}
use Rattle.era_core.specs.Words.{words_len, root_word, version, root_row, reservation_at, owner_at, cell_at, reservation, owner, cell, links, tree_at, start_words}
use Rattle.era_core.specs.Views.{View, start_view, clears, noting, pinning, reading, taking, publishing, unpinning, looking, freeing}
use Rattle.era_core.specs.Versions.{Copy, copy_at, look_up}
use Rattle.era_core.specs.Sound.{Sound}
use Rattle.era_core.specs.declared.event.Event.{Event}
use Rattle.era_core.specs.declared.event.Event.TheVariants.{Note, Announce, Pin, Read, Take, Write, Publish, Unpin, Look, Free}
use mathlib.Core.Option.{some}
use lib.ListN.{get_elem?}

-- the pass that steps
abbrev pub pass_of : Event → ℕ
pass_of (Note k) = k
pass_of (Announce k) = k
pass_of (Pin k) = k
pass_of (Read k r p) = k
pass_of (Take k r) = k
pass_of (Write k r p w) = k
pass_of (Publish k q) = k
pass_of (Unpin k) = k
pass_of (Look k j) = k
pass_of (Free k r) = k

module _ (passes rows : ℕ) where
  -- the rows of the version that is pinned
  abbrev pub pinned_rows : List ℕ → Option (ℕ × ℕ) → List ℕ
  pinned_rows ws None = []
  pinned_rows ws (Some pin) = tree_at passes rows ws pin.1

  -- no row of these claims more links than it has words for, and each link is a row
  abbrev pub are_linked : List ℕ → List ℕ → Bool
  are_linked ws xs = list_all (λ x. nat_le (cell passes rows ws x 0 / KINDS) MOST_LINKS && list_all (λ y. nat_lt y rows) (links passes rows ws x)) xs

  -- the rows of a new tree: a tree indeed, each of them fresh or of the old tree
  abbrev pub is_new_tree : List ℕ → List ℕ → List ℕ → List ℕ → Bool
  is_new_tree ws fresh old new = are_linked ws new && all_different new && list_all (λ x. is_in x fresh || is_in x old) new

  -- the pass may publish the tree at row q: it has pinned a version that is not the last of all
  abbrev pub may_publish : List ℕ → View → ℕ → Option (ℕ × ℕ) → Bool
  may_publish ws v q None = false
  may_publish ws v q (Some pin) =
      nat_lt pin.0 LAST_VERSION && nat_lt q rows && is_in q v.fresh
      && is_new_tree ws v.fresh (tree_at passes rows ws pin.1) (tree_at passes rows ws q)

  -- whether the pass with this view may do the event
  abbrev pub may : List ℕ → View → Event → Bool
  may ws v (Note k) = is_none v.pinned && (reservation passes rows ws k == 0)
  may ws v (Announce k) = is_some v.noted && (reservation passes rows ws k == 0)
  may ws v (Pin k) = is_none v.pinned && nat_lt 0 (reservation passes rows ws k)
  may ws v (Read k r p) = nat_lt r rows && nat_lt p WIDTH && (is_in r v.fresh || is_in r (pinned_rows ws v.pinned))
  may ws v (Take k r) = nat_lt r rows
  may ws v (Write k r p w) = nat_lt r rows && nat_lt p WIDTH && is_in r v.fresh
  may ws v (Publish k q) = may_publish ws v q v.pinned
  may ws v (Unpin k) = is_some v.pinned
  may ws v (Look k j) = nat_lt j passes && ((j == 0) || (j == v.scanned))
  may ws v (Free k r) =
      nat_lt r rows
      && (is_in r v.fresh || ((v.scanned == passes) && list_any (λ b. is_in r b.1 && clears v.least b.0) v.retired))

  -- the root is the one that the pass pinned
  abbrev pub finds_pinned : List ℕ → Option (ℕ × ℕ) → Bool
  finds_pinned ws None = false
  finds_pinned ws (Some pin) = slice_index ws 0 == root_word pin.0 pin.1

  abbrev pub words_announced : List ℕ → ℕ → Option ℕ → List ℕ
  words_announced ws k None = ws
  words_announced ws k (Some n) = slice_set ws (reservation_at passes rows k) (n + 1)

  abbrev pub words_published : List ℕ → ℕ → Option (ℕ × ℕ) → List ℕ
  words_published ws q None = ws
  words_published ws q (Some pin) = slice_set ws 0 (root_word (pin.0 + 1) q)

  -- the words after the event: one store at most
  abbrev pub words_after : List ℕ → View → Event → List ℕ
  words_after ws v (Note k) = ws
  words_after ws v (Announce k) = words_announced ws k v.noted
  words_after ws v (Pin k) = ws
  words_after ws v (Read k r p) = ws
  words_after ws v (Take k r) = if owner passes rows ws r == 0 then slice_set ws (owner_at passes rows r) (k + 1) else ws
  words_after ws v (Write k r p w) = slice_set ws (cell_at passes rows r p) w
  words_after ws v (Publish k q) = if finds_pinned ws v.pinned then words_published ws q v.pinned else ws
  words_after ws v (Unpin k) = slice_set ws (reservation_at passes rows k) 0
  words_after ws v (Look k j) = ws
  words_after ws v (Free k r) = slice_set ws (owner_at passes rows r) 0

  abbrev pub view_published : List ℕ → View → ℕ → Option (ℕ × ℕ) → View
  view_published ws v q None = v
  view_published ws v q (Some pin) = publishing pin.0 (tree_at passes rows ws pin.1) (tree_at passes rows ws q) v

  -- the view of the pass after the event
  abbrev pub view_after : List ℕ → View → Event → View
  view_after ws v (Note k) = noting (version ws) v
  view_after ws v (Announce k) = v
  view_after ws v (Pin k) = pinning (version ws) (root_row ws) v
  view_after ws v (Read k r p) = reading (cell passes rows ws r p) v
  view_after ws v (Take k r) = if owner passes rows ws r == 0 then taking r v else v
  view_after ws v (Write k r p w) = v
  view_after ws v (Publish k q) = if finds_pinned ws v.pinned then view_published ws v q v.pinned else v
  view_after ws v (Unpin k) = unpinning v
  view_after ws v (Look k j) = looking j (reservation passes rows ws j) v
  view_after ws v (Free k r) = freeing r v

  -- the versions after the event: one more where Publish found the pinned root
  abbrev pub versions_after : List ℕ → View → List Copy → Event → List Copy
  versions_after ws v cs (Publish k q) = if finds_pinned ws v.pinned then cs ++ copy_at passes rows ws q ∷ [] else cs
  versions_after ws v cs e = cs

pub record Machine : Type 0 where
  pub rows : ℕ
  pub passes : ℕ
  pub words : List ℕ
  pub views : List View

-- the views of passes k, k + 1 and so on, so many of them
abbrev pub start_views : ℕ → ℕ → List View
start_views k zero = []
start_views k (suc n) = start_view k ∷ start_views (k + 1) n

abbrev pub start : ℕ → ℕ → Machine
start rows passes = record { rows = rows; passes = passes; words = start_words passes rows; views = start_views 0 passes }

-- whether the event is allowed, where this is the view of its pass
abbrev pub allows_at : Machine → Event → Option View → Bool
allows_at m e None = false
allows_at m e (Some v) = may m.passes m.rows m.words v e

abbrev pub allows : Machine → Event → Bool
allows m e = allows_at m e (slice_get m.views (pass_of e))

abbrev pub after_at : Machine → Event → Option View → Machine
after_at m e None = m
after_at m e (Some v) =
    record {
      rows = m.rows;
      passes = m.passes;
      words = words_after m.passes m.rows m.words v e;
      views = slice_set m.views (pass_of e) (view_after m.passes m.rows m.words v e);
    }

-- the machine after the event, which does nothing where it is not allowed
abbrev pub after : Machine → Event → Machine
after m e = if allows m e then after_at m e (slice_get m.views (pass_of e)) else m

abbrev pub copies_at : Machine → List Copy → Event → Option View → List Copy
copies_at m cs e None = cs
copies_at m cs e (Some v) = versions_after m.passes m.rows m.words v cs e

abbrev pub copies_after : Machine → List Copy → Event → List Copy
copies_after m cs e = if allows m e then copies_at m cs e (slice_get m.views (pass_of e)) else cs

-- a whole schedule: what it leaves, the versions that it leaves, and the first event that is not allowed
abbrev pub play : List Event → Machine → Machine
play [] m = m
play (e ∷ es) m = play es (after m e)

abbrev pub copies : List Event → Machine → List Copy → List Copy
copies [] m cs = cs
copies (e ∷ es) m cs = copies es (after m e) (copies_after m cs e)

abbrev pub first_refused : List Event → Machine → Option ℕ
first_refused [] m = None
first_refused (e ∷ es) m = if allows m e then option_map suc (first_refused es (after m e)) else Some 0

abbrev pub start_copies : ℕ → ℕ → List Copy
start_copies rows passes = copy_at passes rows (start_words passes rows) 0 ∷ []

-- what the words and the views say of a row and of a pass
abbrev pub owner_of : Machine → ℕ → ℕ
owner_of m r = owner m.passes m.rows m.words r

abbrev pub cell_of : Machine → ℕ → ℕ → ℕ
cell_of m r p = cell m.passes m.rows m.words r p

abbrev pub tree_of : Machine → ℕ → List ℕ
tree_of m r = tree_at m.passes m.rows m.words r

-- the version and the root row that the pass has pinned
abbrev pub pin_of : Machine → ℕ → Option (ℕ × ℕ)
pin_of m k = option_and_then (λ (v : View). v.pinned) (slice_get m.views k)

-- the rows that the pass took and has not published
abbrev pub fresh_of : Machine → ℕ → List ℕ
fresh_of m k = unwrap_or (option_map (λ (v : View). v.fresh) (slice_get m.views k)) []

-- the word that the pass read last
abbrev pub last_of : Machine → ℕ → Option ℕ
last_of m k = option_and_then (λ (v : View). v.last) (slice_get m.views k)

-- the word of the row at the place in the copy of version n
abbrev pub published_word : List Copy → ℕ → ℕ → ℕ → Option ℕ
published_word cs n r p = option_and_then (λ (c : Copy). look_up c.cells r p) (slice_get cs n)

-- pass k does not let go of its version
abbrev pub keeps_pin : ℕ → Event → Bool
keeps_pin k (Unpin j) = not (j == k)
keeps_pin k e = true

-- the machine with these versions is sound, its views stand in the order of their passes, and each version has all words of its rows
pub record IsSound (m : Machine) (cs : List Copy) : Type 0 where
  pub few : m.rows ≤ MOST_ROWS
  pub counted : length m.views ≡ m.passes
  pub ordered : (k : ℕ) (v : View) → get_elem? m.views k ≡ some v → v.number ≡ Some k
  pub sound : Sound m.passes m.rows m.words m.views cs
  pub whole : (n : ℕ) (c : Copy) → get_elem? cs n ≡ some c → (r p : ℕ) → In r c.rows → p < WIDTH → is_some (look_up c.cells r p) ≡ true

-- the version with this root row stands later as it did: the same rows, none of them free, with the same words
pub record VersionStands (m later : Machine) (root : ℕ) : Type 0 where
  pub tree : tree_of later root ≡ tree_of m root
  pub owned : (r : ℕ) → In r (tree_of m root) → owner_of later r ≢ 0
  pub words : (r p : ℕ) → In r (tree_of m root) → p < WIDTH → cell_of later r p ≡ cell_of m r p

-- What the running machine keeps: its sizes, owners that are passes, and that some versions make it sound
pub record IsRunning (m : Machine) : Type 0 where
  pub some_row : 0 < m.rows
  pub few_rows : m.rows ≤ MOST_ROWS
  pub some_pass : 0 < m.passes
  pub few_passes : m.passes ≤ MOST_PASSES
  pub long : length m.words ≡ words_len m.passes m.rows
  pub counted : length m.views ≡ m.passes
  pub owners : (r : ℕ) → r < m.rows → owner_of m r ≤ m.passes
  pub sound : ∥ ((cs : List Copy) × IsSound m cs) ∥₁

-- What it keeps between its steps: a mark for each row, and all of them clear
pub record IsAtRest (m : Machine) (marks : List Bool) : Type 0 where
  pub running : IsRunning m
  pub marked : length marks ≡ m.rows
  pub clear : (r : ℕ) → slice_index_or marks r false ≡ false
