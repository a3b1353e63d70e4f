-- What each step tells the pass that makes it: what the pass knows afterwards.
use Rattle.std.specs.Prelude.{◌≡◌, ℕ, ◌+◌, ◌/◌, ◌%◌, ◌<◌, ◌≤◌, Bool, Option, Some, List, [], ◌∷◌, ◌++◌, take, length}
use Rattle.atomic_table.specs.Table.{Step, Me}
use Rattle.era_core.specs.declared.sizes.TheConstants.{WIDTH, ROOT_ROWS}
use Rattle.era_core.specs.Lists.{times, In}
use Rattle.era_core.specs.Words.{root_word, reservation_at, owner_at, cell_at}
use Rattle.era_core.specs.Views.{versions_of, held}
use Rattle.era_core.specs.Versions.{Copy, IsClosed, look_up}
use Rattle.era_rows.specs.Known.{Shortage, Known, pinned_copy, known_words, finding, taking_row, recording, writing, freeing_row, noting_root, reserving, pinning_root, reading_word, losing, publishing_tree, leaving, looking_at}
use Rattle.era_rows.specs.Lists.{IsPrefix, IsLog, IsListOf, add_entry, add_named}
use Rattle.era_rows.specs.Held.{HoldsRows, HoldsTree, IsAlone, IsOwn}
use Rattle.era_rows.specs.Rule.{knowing, callers_of}
use Rattle.era_rows.specs.declared.views.Knows.{Knows}
use mathlib.Core.Option.{some}
use lib.ListN.{get_elem?}

-- the pass holds the row neither as a fresh nor as a retired one, and the row is not in the tree that the pass has pinned
pub record IsUnused (r : ℕ) (k : Known) : Type 0 where
  pub not_held : times r (held k.core) ≡ 0
  pub not_pinned : times r (pinned_copy k).rows ≡ 0

module _ {E : Type 0} where
  -- the pass left its version, and added the entry, if there is one
  abbrev pub having_left : (E → ℕ) → Option E → Knows E → Knows E
  having_left caller entry k = knowing k.seen (add_named caller entry k.lists) (leaving k.view)

  -- Publish put the tree at row q, with entry e, in the place of version n, whose root row is p
  abbrev pub having_published : (E → ℕ) → ℕ → ℕ → ℕ → E → Knows E → Knows E
  having_published caller n p q e k = knowing (k.seen ++ e ∷ []) (add_entry (caller e) e k.lists) (publishing_tree n p q k.view)

module _ {S E : Type 0} where
  -- all that changes is this part of what the pass knows
  abbrev pub IsNow : Me S (Knows E) → Me S (Knows E) → Known → Type 0
  IsNow m m' k = (m'.0 ≡ knowing m.0.seen m.0.lists k) × (m'.1 ≡ m.1)

  -- Take at row r: where the owner was 0 the row is fresh, and else the pass records this. Where there is one pass, which has
  -- pinned the last version, the row is then its own
  abbrev pub took : (Known → Option Shortage) → Step S → Me S (Knows E) → ℕ → Me S (Knows E) → Type 0
  took full st m found m' = (r : ℕ) → st.word ≡ owner_at m.0.view.passes m.0.view.rows r
      → (found ≡ 0 → IsNow m m' (taking_row r m.0.view) × IsUnused r m.0.view)
      × (¬ (found ≡ 0) → IsNow m m' (recording full (finding st.word found m.0.view)) × (IsAlone m.0.view → IsOwn r m.0.view))

  -- Write into row r at place p
  abbrev pub wrote : Step S → Me S (Knows E) → ℕ → Me S (Knows E) → Type 0
  wrote st m word m' = (r p : ℕ) → p < WIDTH → st.word ≡ cell_at m.0.view.passes m.0.view.rows r p → IsNow m m' (writing r p word m.0.view)

  -- Free of row r
  abbrev pub freed : Step S → Me S (Knows E) → ℕ → Me S (Knows E) → Type 0
  freed st m word m' = (r : ℕ) → st.word ≡ owner_at m.0.view.passes m.0.view.rows r → IsNow m m' (freeing_row r m.0.view)

  -- Note
  abbrev pub noted : Step S → Me S (Knows E) → ℕ → Me S (Knows E) → Type 0
  noted st m found m' = IsNow m m' (noting_root found m.0.view)

  -- Announce of version n
  abbrev pub announced : Step S → Me S (Knows E) → ℕ → Me S (Knows E) → Type 0
  announced st m word m' = (n : ℕ) → word ≡ n + 1 → IsNow m m' (reserving n m.0.view)

  -- Read of row r at place p: where the pass knows the word, of the version that it has pinned or as it wrote it, it is found
  abbrev pub has_read : Step S → Me S (Knows E) → ℕ → Me S (Knows E) → Type 0
  has_read st m found m' = IsNow m m' (reading_word st.word found m.0.view)
      × ((r p w : ℕ) → p < WIDTH → st.word ≡ cell_at m.0.view.passes m.0.view.rows r p → look_up (known_words m.0.view) r p ≡ Some w → found ≡ w)
      × ((r p w : ℕ) → p < WIDTH → st.word ≡ cell_at m.0.view.passes m.0.view.rows r p → look_up (pinned_copy m.0.view).cells r p ≡ Some w → found ≡ w)

module _ {E : Type 0} (caller stamp : E → ℕ) (accepted : ℕ → E → Bool) (lawful : ℕ → Copy → Type 0) (stands : ℕ → Copy → List E → Type 0) (right : ℕ → E → List E → Type 0) where
  -- The pass has seen accepted entries, each right at those before it, and each list that it holds is that of its caller up to
  -- there. It knows the versions up to the one that these entries made; each is lawful and stands for the entries up to it
  pub record IsConsistent (k : Knows E) : Type 0 where
    pub logged : IsLog caller stamp accepted right k.view.shape k.view.passes k.seen
    pub held : (i c : ℕ) (es : List E) → get_elem? k.lists i ≡ some (c, es) → IsListOf caller stamp accepted right k.view.shape k.seen (length k.seen) c es
    pub once : (c : ℕ) → times c (callers_of k) ≤ 1
    pub paired : length k.view.copies ≡ length k.seen + 1
    pub means : (n : ℕ) (c : Copy) → get_elem? k.view.copies n ≡ some c → lawful k.view.shape c × stands k.view.shape c (take n k.seen)

  -- the pass has now seen all accepted entries up to this version
  pub record Learns (version : ℕ) (before after : Knows E) : Type 0 where
    pub seen_more : IsPrefix before.seen after.seen
    pub seen_all : length after.seen ≡ version
    pub copies_more : IsPrefix before.view.copies after.view.copies
    pub same_lists : after.lists ≡ before.lists
    pub consistent : IsConsistent after

  -- Pin found this root word: its version is the one that is then pinned, and no batch of the pass is so late that its own
  -- reservation would block it
  pub record Pins (w : ℕ) (before after : Knows E) : Type 0 where
    pub view_is : after.view ≡ pinning_root w after.view.copies before.view
    pub learns : Learns (w / ROOT_ROWS) before after
    pub there : get_elem? after.view.copies (w / ROOT_ROWS) ≡ some (pinned_copy after.view)
    pub rooted : (pinned_copy after.view).root ≡ w % ROOT_ROWS
    pub root_here : In (w % ROOT_ROWS) (pinned_copy after.view).rows
    pub closed : IsClosed after.view.rows (pinned_copy after.view)
    pub tree : HoldsTree after.view
    pub older : (b : ℕ) → In b (versions_of after.view.core.retired) → b + 1 < after.view.reserves

  -- Publish found this other root word, of a later version than the pinned one
  pub record Loses (w : ℕ) (before after : Knows E) : Type 0 where
    pub view_is : after.view ≡ losing w after.view.copies before.view
    pub learns : Learns (w / ROOT_ROWS) before after
    pub later : (n p : ℕ) → before.view.core.pinned ≡ Some (n, p) → n < w / ROOT_ROWS

  -- Publish found the pinned root word
  pub record Publishes (n p q : ℕ) (e : E) (before after : Knows E) : Type 0 where
    pub now : after ≡ having_published caller n p q e before
    pub seen_all : length before.seen ≡ n
    -- each batch that waits is of an earlier version
    pub older : (b : ℕ) → In b (versions_of before.view.core.retired) → b < n
    pub holds : HoldsRows after.view
    pub consistent : IsConsistent after

  module _ {S : Type 0} where
    abbrev pub pinned : Step S → Me S (Knows E) → ℕ → Me S (Knows E) → Type 0
    pinned st m found m' = Pins found m.0 m'.0 × (m'.1 ≡ m.1)

    -- Look at the reservation of pass j, where its own is the one that the pass knows. The pass also learns that what it holds
    -- are different rows, and that what it knows is consistent
    abbrev pub looked : Step S → Me S (Knows E) → ℕ → Me S (Knows E) → Type 0
    looked st m found m' = (j : ℕ) → st.word ≡ reservation_at m.0.view.passes m.0.view.rows j
        → IsNow m m' (looking_at j found m.0.view) × HoldsRows m'.0.view × IsConsistent m'.0 × (m.0.view.core.number ≡ Some j → found ≡ m.0.view.reserves)

    -- Unpin, with the entry that it adds, if there is one
    abbrev pub has_left : Option E → Step S → Me S (Knows E) → ℕ → Me S (Knows E) → Type 0
    has_left entry st m word m' = (m'.0 ≡ having_left caller entry m.0) × (m'.1 ≡ m.1) × IsConsistent m'.0

    abbrev pub published : Option E → Step S → Me S (Knows E) → ℕ → Me S (Knows E) → Type 0
    published entry st m found m' = (n p q : ℕ) (e : E) → entry ≡ Some e → m.0.view.core.pinned ≡ Some (n, p) → st.second ≡ root_word (n + 1) q → q < ROOT_ROWS
        → (found ≡ root_word n p → Publishes n p q e m.0 m'.0) × (¬ (found ≡ root_word n p) → Loses found m.0 m'.0) × (m'.1 ≡ m.1)
