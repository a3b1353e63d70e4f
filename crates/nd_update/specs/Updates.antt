-- What the tree after an update is, and what stands for the archive with one more point.
use Rattle.std.specs.Prelude.{Some, ◌≡◌, ◌≢◌, ℕ, ◌+◌, ◌-◌, ◌^◌, ◌≤◌, min, false, not, List, [], ◌∷◌, ◌++◌, length, filter}
use Rattle.era_core.specs.Lists.{times, In, without}
use Rattle.era_core.specs.Versions.{Cell, Copy, look_up}
use Rattle.pls_vectors.specs.Dominance.{weakly_dominates}
use Rattle.pls_archive.specs.declared.call.Entry.{Entry}
use Rattle.pls_archive.specs.declared.point.Point.{Point}
use Rattle.pls_archive.specs.History.{submissions}
use Rattle.pls_archive.specs.Lists.{AsOften, how_many}
use Rattle.pls_archive.specs.Reply.{members, some_weakly_dominates}
use Rattle.nd_rows.specs.Nodes.{Nodes, heads, rows_of, points_of, AreBoxed, AreFormed, AreApart, necessary}
use Rattle.nd_rows.specs.Layout.{IsTreeOf, StandsFor}
use Rattle.nd_rows.specs.Entries.{IsRight, added}
use Rattle.nd_update.specs.Removal.{without_dominated, changed_rows, cut_rows}
use Rattle.nd_update.specs.Insertion.{updated, way, replaced}
use Rattle.nd_update.specs.Naming.{AreNamed, names_of, AreKept, AreNamesWritten}

-- the reply's number: how many of the points go, or 2^32 - 1 where there are more
abbrev pub removed_from : List Point → Point → ℕ
removed_from points p = min (how_many (λ (q : Point). weakly_dominates p.value q.value) points) (2 ^ 32 - 1)

module _ (objectives new : ℕ) (p : Point) where
  -- the copy reads as this tree, no point weakly dominates the new one, and `new` is the number of no row
  pub record MayUpdate (c : Copy) (t : Nodes) : Type 0 where
    pub is_tree : IsTreeOf objectives c t
    pub some : 2 ≤ objectives
    pub few : objectives ≤ 4
    pub parts : length p.value ≡ objectives
    pub uncovered : some_weakly_dominates (points_of t) p.value ≡ false
    pub no_row : times new c.rows ≡ 0

  -- the nodes that are copied: those that changed, and those on the way
  abbrev pub copied : Nodes → List ℕ
  copied t = changed_rows new p.value t ++ way new p.value (without_dominated new p.value t) 0

  -- What the tree after the update is
  pub record IsUpdate (c : Copy) (t after : Nodes) : Type 0 where
    -- its root is still to be written
    pub rooted : heads after ≡ new ∷ []
    -- its points are the new one and those that it does not weakly dominate
    pub points : AsOften (filter (λ (q : Point). not (weakly_dominates p.value q.value)) (points_of t) ++ p ∷ []) (points_of after)
    pub formed : AreFormed objectives after
    pub boxed : AreBoxed after
    pub apart : AreApart (points_of after)
    -- each row of the tree is a row of the new one or is replaced, and the nodes whose rows are rows still are as they were
    pub rows : (x : ℕ) → x ≢ new → times x (rows_of after) + times x (replaced new p.value t) ≡ times x (rows_of t)
    pub known : times new (replaced new p.value t) ≡ 0
    pub kept : AreKept new objectives c.cells after
    -- a row is to be written for each node that is copied, one for the point, and at most one more than there are objectives
    pub few : times new (rows_of after) ≤ length (copied t) + (objectives + 2)
    -- the nodes that are copied are different ones. They have boxes that the new point cuts, as all nodes above them, or are on its way
    pub once : (x : ℕ) → times x (copied t) ≤ times x (rows_of t)
    pub cut : (x : ℕ) → times x (changed_rows new p.value t) ≤ times x (cut_rows p.value t)
    -- a question about the new value needs the rows that are cut
    pub needed : (x : ℕ) → In x (cut_rows p.value t) → In x (necessary p.value t)

  -- the tree of this copy with a row that was no row of it for each `new`, all written
  pub record IsWritten (c : Copy) (t named : Nodes) (cells : List Cell) : Type 0 where
    pub is_named : AreNamed new (updated new p t) named
    pub different : (x : ℕ) → times x (names_of new (updated new p t) named) ≤ 1
    pub unused : (x : ℕ) → In x (names_of new (updated new p t) named) → times x c.rows ≡ 0
    pub stays : (x : ℕ) → In x c.rows → (k w : ℕ) → look_up c.cells x k ≡ Some w → look_up cells x k ≡ Some w
    pub written : AreNamesWritten new objectives cells (updated new p t) named

  -- it is a tree of rows, which has the points of the updated one, and the replaced rows are those that are no rows of it
  pub record IsNewTree (c : Copy) (t named : Nodes) (new_copy : Copy) : Type 0 where
    pub is_tree : IsTreeOf objectives new_copy named
    pub points : points_of named ≡ points_of (updated new p t)
    pub gone : (x : ℕ) → times x (replaced new p.value t) ≡ times x (without new_copy.rows c.rows)

-- ---- the laws

-- an update makes such a tree
abbrev pub Updates : Type 0
Updates = (objectives new : ℕ) (p : Point) (c : Copy) (t : Nodes) → MayUpdate objectives new p c t → IsUpdate objectives new p c t (updated new p t)

-- written, it is a tree of rows
abbrev pub IsWrittenTree : Type 0
IsWrittenTree =
    (objectives new : ℕ) (p : Point) (c : Copy) (t named : Nodes) (cells : List Cell) (root : ℕ)
    → MayUpdate objectives new p c t → IsWritten objectives new p c t named cells → heads named ≡ root ∷ []
    → IsNewTree objectives new p c t named (record { root = root; rows = rows_of named; cells = cells })

-- and it stands for the archive with the new point, whose entry is right
abbrev pub StandsForMore : Type 0
StandsForMore =
    (objectives new : ℕ) (p : Point) (c new_copy : Copy) (t named : Nodes) (entries : List Entry) (caller stamp : ℕ)
    → MayUpdate objectives new p c t → AsOften (members (submissions entries)) (points_of t) → IsNewTree objectives new p c t named new_copy
    → IsRight objectives (added caller stamp p (removed_from (points_of t) p)) entries
    × StandsFor objectives new_copy (entries ++ added caller stamp p (removed_from (points_of t) p) ∷ [])
