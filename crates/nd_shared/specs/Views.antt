-- What a pass at the shared tree is seen as, and what it is between two calls.
use Rattle.std.specs.Prelude.{◌≡◌, ◌⊎◌, ℕ, ◌-◌, ◌*◌, ◌/◌, ◌≤◌, ◌==◌, if◌then◌else◌, Some, None, List, [], ◌∷◌, length, map}
use Rattle.era_core.specs.Lists.{times}
use Rattle.era_core.specs.Views.{rows_in}
use Rattle.era_rows.specs.Known.{Known, Shortage}
use Rattle.era_rows.specs.Passes.{known_of, knows_of, lists_of, marked_of, work_of, IsPassOf, PinsVersion, Tidies}
use Rattle.era_rows.specs.declared.views.Knows.{Knows}
use Rattle.era_rows.specs.declared.pass.Pass.{Pass}
use Rattle.era_rows.specs.declared.rows.Rows.{Rows}
use Rattle.era_rows.specs.declared.law.Law.{Ghosts}
use Rattle.pls_archive.specs.declared.call.Entry.{Entry}
use Rattle.pls_archive.specs.Reply.{nondominated}
use Rattle.pls_archive.specs.View.{View, IsConsistent, ObservesMore}
use Rattle.pls_archive.specs.declared.point.Point.{Point}
use Rattle.pls_archive.specs.History.{accepts}
use Rattle.nd_rows.specs.Entries.{IsRight}
use Rattle.nd_rows.specs.Layout.{IsLawful, StandsFor}
use Rattle.nd_update.specs.Built.{IsPublishable}
use Rattle.nd_update.specs.Counted.{IsShortage}
use Rattle.nd_update.specs.Resting.{IsOpen}
use Rattle.nd_update.specs.declared.builds.Built.{Built}

-- the list of the pass itself, and those of the callers that were joined into it
abbrev pub own_of : List (ℕ × List Entry) → List Entry
own_of [] = []
own_of (list ∷ lists) = list.1

abbrev pub others_of : List (ℕ × List Entry) → List (ℕ × List Entry)
others_of [] = []
others_of (list ∷ lists) = lists

abbrev pub view_with : ℕ → Knows Entry → View
view_with number k = record { number = number; observed = k.seen; own = own_of k.lists; others = others_of k.lists }

-- the first list is the pass's own, and no other one has its number
pub record AreListed (number : ℕ) (lists : List (ℕ × List Entry)) : Type 0 where
  pub first : lists ≡ (number, own_of lists) ∷ others_of lists
  pub once : times number (map (λ (list : ℕ × List Entry). list.0) lists) ≤ 1

-- few retired rows wait, or the last that was done was to free those that no reservation blocks
abbrev pub FewWait : ℕ → ℕ → Known → Type 0
FewWait rows passes k = (length (rows_in k.core.retired) ≤ rows / (4 * passes)) ⊎ ((before : Known) × Tidies before k)

-- For so many accepted points one pass alone always finds a free row among so many
abbrev pub safe_in : ℕ → ℕ → ℕ
safe_in rows passes = if passes == 1 then (rows - 64) / 8 else 0

-- where the pass has recorded that no row was free, that is an evidence
abbrev pub HasEvidence : Known → Type 0
HasEvidence k = (s : Shortage) → k.full ≡ Some s → IsShortage k.shape k.passes k.rows s

-- a pin of version n with this root row, under the law of ND-trees
abbrev pub Pins : ℕ → ℕ → Knows Entry → Knows Entry → Type 0
Pins n root before after =
    PinsVersion (λ (e : Entry). e.caller) (λ e. e.stamp) (λ _ e. accepts e) (λ d c. IsLawful d c) (λ d c entries. StandsFor d c entries) (λ d e entries. IsRight d e entries) n root before after

module _ {L : Type 0} {G : Ghosts L Entry} where
  abbrev pub view_of : Pass L Entry G → View
  view_of p = view_with p.number (knows_of p)

  -- the pass is between two calls
  pub record IsResting (p : Pass L Entry G) : Type 0 where
    pub unpinned : (known_of p).core.pinned ≡ None
    pub no_fresh : (known_of p).core.fresh ≡ []
    pub no_marks : marked_of p ≡ []
    pub idle : work_of p ≡ []
    pub listed : AreListed p.number (lists_of p)
    pub short : HasEvidence (known_of p)

  -- and it is of these rows
  pub record IsReady (r : Rows L Entry) (p : Pass L Entry G) : Type 0 where
    pub is_pass : IsPassOf r p
    pub resting : IsResting p

  -- the pass has pinned version n, the last one that it knows, has observed the entries up to it, and is consistent
  pub record Opens (r : Rows L Entry) (n : ℕ) (p q : Pass L Entry G) : Type 0 where
    pub opened : IsOpen r n q
    pub listed : AreListed q.number (lists_of q)
    pub short : HasEvidence (known_of q)
    pub all : length (knows_of q).seen ≡ n
    pub observes_more : ObservesMore (view_of p) (view_of q)
    pub consistent : IsConsistent nondominated r.passes (view_of q)

  -- The pass has built a tree over version n, the last one that it knows, of which it has observed the entries
  pub record BuildsAt (r : Rows L Entry) (n : ℕ) (point : Point) (built : Built) (p q : Pass L Entry G) : Type 0 where
    pub is_pass : IsPassOf r q
    pub publishable : IsPublishable n point built q
    pub idle : work_of q ≡ []
    pub listed : AreListed q.number (lists_of q)
    pub short : HasEvidence (known_of q)
    pub all : length (knows_of q).seen ≡ n
    pub observes_more : ObservesMore (view_of p) (view_of q)
