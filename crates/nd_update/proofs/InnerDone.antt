-- An inner node some of whose points go: what is left of it, by what is left of its children.
use Rattle.std.proofs.Common.{◌≡◌, ℕ, ◌+◌, ◌≤◌, true, List, [], ◌∷◌, ◌++◌, length, sym, ap, subst, ◌∙◌, arith, append-nil, ℤ}
use Rattle.era_core.specs.declared.sizes.TheConstants.{ROOT_ROWS}
use Rattle.era_core.specs.Lists.{times, In}
use Rattle.era_core.specs.Versions.{Cell}
use Rattle.pls_vectors.specs.Box.{Box}
use Rattle.nd_rows.specs.Nodes.{Nodes, no_nodes, inner, heads, points_of}
use Rattle.nd_update.specs.Building.{Elsewhere}
use Rattle.nd_update.specs.Removal.{without_dominated, dropped}
use Rattle.nd_update.specs.Naming.{names_of, IsInnerRow}
use Rattle.nd_update.specs.Left.{hits, result_word, alive, IsNodeLeft, AreKidsLeft}
use Rattle.nd_update.proofs.Swept.{results_alive, written-elsewhere}
use Rattle.nd_update.proofs.Settled.{inner_replaced, inner_left}

module _ (new : ℕ) (v : List ℤ) (objectives : ℕ) (words : List ℕ) (kids named : Nodes) (cells : List Cell) (fresh : List ℕ) (left : AreKidsLeft new v objectives words kids named cells fresh) where
  pub alive_heads : alive words ≡ heads named
  alive_heads = results_alive new v words kids named left.are_results left.small

  abbrev names : List ℕ
  names = names_of new (without_dominated new v kids) named

  -- at most one child is left
  pub inner_few : (row : ℕ) (b : Box) (hs : List ℕ) → alive words ≡ hs → length hs ≤ 1 → (w : ℕ) → w ≡ result_word true hs → IsNodeLeft new v objectives (inner row b kids no_nodes) cells (names ++ []) (row ∷ dropped v kids) (hits v (points_of kids)) w
  inner_few row b hs are few w told =
      let e = sym alive_heads ∙ are in
      subst (λ t. IsNodeLeft new v objectives (inner row b kids no_nodes) cells t (row ∷ dropped v kids) (hits v (points_of kids)) w) (sym (append-nil names))
      (subst (λ u. IsNodeLeft new v objectives (inner row b kids no_nodes) cells names (row ∷ dropped v kids) (hits v (points_of kids)) u) (ap (λ xs. result_word true xs) e ∙ sym told)
      (inner_replaced new v objectives row b kids cells words named fresh left (let n = ap length e in omega (arith, n, few))))

  -- more are left, in a row that was taken
  pub inner_many : (row : ℕ) (b : Box) (own : ℕ) (cells' : List Cell) → 2 ≤ length (alive words) → Elsewhere (own ∷ []) cells cells' → ((x : ℕ) → In x fresh → times x (own ∷ []) ≡ 0) → IsInnerRow objectives cells' own b named → (w : ℕ) → w ≡ ROOT_ROWS + own
      → IsNodeLeft new v objectives (inner row b kids no_nodes) cells' (names ++ own ∷ []) (row ∷ dropped v kids) (hits v (points_of kids)) w
  inner_many row b own cells' many elsewhere apart written w told =
      subst (λ u. IsNodeLeft new v objectives (inner row b kids no_nodes) cells' (names ++ own ∷ []) (row ∷ dropped v kids) (hits v (points_of kids)) u) (sym told)
      (inner_left new v objectives row b kids cells' words named fresh (record {
        are_results = left.are_results;
        written = written-elsewhere new objectives (own ∷ []) cells cells' elsewhere (without_dominated new v kids) named (λ x here. apart x (let all = left.among x in omega (arith, here, all))) left.written;
        among = left.among;
        small = left.small;
        known = left.known;
        hit = left.hit;
      }) own (let n = ap length alive_heads in omega (arith, n, many)) written)
