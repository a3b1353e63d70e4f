-- What stays written where dominated points go.
use Rattle.std.proofs.Common.{◌≡◌, ◌≢◌, ℕ, nat_lt, if◌then◌else◌, List, [], ◌∷◌, length, refl, arith, ℤ}
use Rattle.era_core.specs.Lists.{times}
use Rattle.era_core.specs.Versions.{Cell}
use Rattle.era_core.proofs.ListFacts.{times-append}
use Rattle.pls_vectors.specs.Box.{Box}
use Rattle.pls_archive.specs.Lists.{Every}
use Rattle.pls_archive.proofs.Every.{Every-filter, Every-map}
use Rattle.nd_rows.specs.Nodes.{Placed, Nodes, no_nodes, leaf, inner, heads, rows_of, rows_with, points_of, points_with, followed_by}
use Rattle.nd_rows.specs.Layout.{IsPointRow, AreWritten}
use Rattle.nd_update.specs.Removal.{is_hit, staying, changed_leaf, changed_inner, without_dominated}
use Rattle.nd_update.specs.Naming.{AreKept}
use Rattle.nd_update.proofs.Filters.{by_test}

module _ (new objectives : ℕ) (cells : List Cell) where
  points_kept : (placed : List Placed) → Every (IsPointRow objectives cells) placed → Every (λ (p : Placed). p.row ≢ new → IsPointRow objectives cells p) placed
  points_kept placed each = Every-map (IsPointRow objectives cells) (λ (p : Placed). p.row ≢ new → IsPointRow objectives cells p) (λ p is other. is) placed each

  -- what is written is kept
  pub kept-written : (ns : Nodes) → AreWritten objectives cells ns → times new (rows_of ns) ≡ 0 → AreKept new objectives cells ns
  kept-written no_nodes written known = tt
  kept-written (leaf r b placed later) written known =
      let parts = times-append new (rows_with placed) (rows_of later) in
      ((λ other. (record { links = written.0; boxed = written.1 }, omega arith)), points_kept placed written.2, kept-written later written.3 (omega arith))
  kept-written (inner r b kids later) written known =
      let parts = times-append new (rows_of kids) (rows_of later) in
      ((λ other. (record { links = written.0; boxed = written.1 }, omega arith)), kept-written kids written.2 (omega arith), kept-written later written.3 (omega arith))

  pub kept-followed : (ns others : Nodes) → AreKept new objectives cells ns → AreKept new objectives cells others → AreKept new objectives cells (followed_by ns others)
  kept-followed no_nodes others first second = second
  kept-followed (leaf r b placed later) others first second = (first.0, first.1, kept-followed later others first.2 second)
  kept-followed (inner r b kids later) others first second = (first.0, first.1, kept-followed later others first.2 second)

  -- a node that is still to be written
  kept-leaf : (b : Box) (placed : List Placed) (later : Nodes) → Every (λ (p : Placed). p.row ≢ new → IsPointRow objectives cells p) placed → AreKept new objectives cells later → AreKept new objectives cells (changed_leaf new b placed later)
  kept-leaf b [] later each rest = rest
  kept-leaf b (p ∷ placed) later each rest = ((λ other. absurd (other refl)), each, rest)

  pub kept-without : (v : List ℤ) (ns : Nodes) → AreWritten objectives cells ns → times new (rows_of ns) ≡ 0 → AreKept new objectives cells (without_dominated new v ns)
  kept-without v no_nodes written known = tt
  kept-without v (leaf r b placed later) written known =
      let parts = times-append new (rows_with placed) (rows_of later) in
      let rest = kept-without v later written.3 (omega arith) in
      by_test (λ s. AreKept new objectives cells (if s then changed_leaf new b (staying v placed) (without_dominated new v later) else leaf r b placed (without_dominated new v later))) (is_hit v (points_with placed))
      (λ hit. kept-leaf b (staying v placed) _ (Every-filter _ _ placed (points_kept placed written.2)) rest)
      (λ none. ((λ other. (record { links = written.0; boxed = written.1 }, omega arith)), points_kept placed written.2, rest))
  kept-without v (inner r b kids later) written known =
      let parts = times-append new (rows_of kids) (rows_of later) in
      let below = kept-without v kids written.2 (omega arith) in
      let rest = kept-without v later written.3 (omega arith) in
      by_test (λ s. AreKept new objectives cells (if s then changed_inner new b (without_dominated new v kids) (without_dominated new v later) else inner r b kids (without_dominated new v later))) (is_hit v (points_of kids))
      (λ hit. by_test (λ s. AreKept new objectives cells (if s then followed_by (without_dominated new v kids) (without_dominated new v later) else inner new b (without_dominated new v kids) (without_dominated new v later)))
      (nat_lt (length (heads (without_dominated new v kids))) 2)
      (λ few. kept-followed _ _ below rest)
      (λ many. ((λ other. absurd (other refl)), below, rest)))
      (λ none. ((λ other. (record { links = written.0; boxed = written.1 }, omega arith)), kept-written kids written.2 (omega arith), rest))
