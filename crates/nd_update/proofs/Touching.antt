-- Nodes that a pass may read, as it goes on, and a node that it puts into its row, with a box that encloses a value too.
use Rattle.std.proofs.Common.{◌≡◌, ◌≢◌, ℕ, zero, suc, ◌+◌, ◌<◌, ◌≤◌, ◌⊎◌, inl, inr, ⊎_elim, ℤ, List, [], ◌∷◌, ◌++◌, length, get_or, refl, sym, ap, subst, ◌∙◌, arith}
use Rattle.std.proofs.lemmas.Bool.{and_parts, cases_eq}
use Rattle.std.proofs.lemmas.List.{length-map}
use Rattle.era_core.specs.declared.sizes.TheConstants.{KINDS}
use Rattle.era_core.specs.Lists.{times, In}
use Rattle.era_core.proofs.ListFacts.{times-head, times-tail, in_tail, in-append_left}
use Rattle.era_rows.specs.Known.{Known, known_words}
use Rattle.era_rows.specs.Passes.{known_of, IsReadable}
use Rattle.era_rows.specs.declared.pass.Pass.{Pass}
use Rattle.era_rows.specs.declared.rows.Rows.{Rows}
use Rattle.era_rows.specs.declared.law.Law.{Ghosts}
use Rattle.pls_archive.specs.declared.call.Entry.{Entry}
use Rattle.pls_vectors.specs.Box.{Box, box_of, grown}
use Rattle.pls_vectors.specs.Dominance.{weakly_dominates}
use Rattle.pls_vectors.proofs.Boxes.{grown-new, weakly_dominates-length}
use Rattle.pls_vectors.proofs.Dominance.{weakly_dominates-refl, weakly_dominates-trans}
use Rattle.nd_rows.specs.declared.layout.TheConstants.{LEAF, INNER}
use Rattle.nd_rows.specs.Nodes.{Placed, Nodes, no_nodes, leaf, inner, heads, rows_of, rows_with}
use Rattle.nd_rows.specs.Layout.{IsLinkRow, IsBoxRow}
use Rattle.nd_update.specs.Building.{Does}
use Rattle.nd_update.specs.Insertion.{leaf_box}
use Rattle.nd_update.specs.Ways.{IsBox, HaveSome, AreFit, HasNodes, HasNode, touched, touched_box, link_count, at_node}
use Rattle.nd_update.proofs.Alike.{Agree, written-alike, points-alike}
use Rattle.nd_update.proofs.Building.{still_readable}
use Rattle.nd_update.proofs.Filling.{still_words}

-- ---- boxes

pub box_of_one : (v : List ℤ) (d : ℕ) → length v ≡ d → IsBox d (box_of v)
box_of_one v d long = record { long = long; ordered = weakly_dominates-refl v }

pub box_grown : (b : Box) (v : List ℤ) (d : ℕ) → length v ≡ d → IsBox d b → IsBox d (grown b v)
box_grown b v d long is =
    let inside = grown-new b is.ordered v (long ∙ sym is.long) in
    let both = and_parts (weakly_dominates (grown b v).ideal v) (weakly_dominates v (grown b v).nadir) inside in
    record { long = weakly_dominates-length (grown b v).ideal v both.0 ∙ long; ordered = weakly_dominates-trans (grown b v).ideal v (grown b v).nadir both.0 both.1 }

leaf_box_grown : (b : Box) (placed : List Placed) (v : List ℤ) (d : ℕ) → length v ≡ d → (0 < length placed → IsBox d b) → IsBox d (leaf_box b placed v)
leaf_box_grown b [] v d long is = box_of_one v d long
leaf_box_grown b (p ∷ placed) v d long is = box_grown b v d long (is (omega arith))

-- the corners of a box have as many parts
pub corners_long : (b : Box) (d : ℕ) → IsBox d b → (length b.ideal ≡ d) × (length b.nadir ≡ d)
corners_long b d is = (is.long, sym (weakly_dominates-length b.ideal b.nadir is.ordered) ∙ is.long)

-- ---- nodes as a pass goes on

pub same_head : (r row : ℕ) (xs ys : List ℕ) → r ∷ xs ≡ row ∷ ys → r ≡ row
same_head r row xs ys e = ap (λ zs. get_or zs 0 0) e

module _ {L : Type 0} {G : Ghosts L Entry} (r : Rows L Entry) (t m c : List ℕ) (p q : Pass L Entry G) (one : Does r t m c p q) (objectives : ℕ) where
  pub nodes_still : (ms : Nodes) → ((x : ℕ) → In x (rows_of ms) → times x c ≡ 0) → HasNodes objectives (known_of p) ms → HasNodes objectives (known_of q) ms
  nodes_still ms apart has = record {
    written = written-alike objectives (known_words (known_of p)) (known_words (known_of q)) ms (λ x here. still_words r t m c p q one objectives x (apart x here)) has.written;
    fit = has.fit;
    readable = λ x here. still_readable r t m c p q one x (has.readable x here);
    once = has.once;
  }

  pub node_still : (row : ℕ) (ms : Nodes) → ((x : ℕ) → In x (rows_of ms) → times x c ≡ 0) → HasNode objectives (known_of p) row ms → HasNode objectives (known_of q) row ms
  node_still row ms apart has = record { nodes = nodes_still ms apart has.nodes; here = has.here }

-- A node in a row, and then in another one or there again, with a box that encloses the value too.
module _ {L : Type 0} {G : Ghosts L Entry} (r : Rows L Entry) (own : ℕ) (t m : List ℕ) (p q : Pass L Entry G) (one : Does r t m (own ∷ []) p q) (objectives row : ℕ) (v : List ℤ) (long : length v ≡ objectives)
    (mine : IsReadable own (known_of q)) where
  -- what is below a node is not in its row
  below_apart : (below : List ℕ) → ((x : ℕ) → times x (row ∷ below) ≤ 1) → (own ≡ row) ⊎ (times own (row ∷ below) ≡ 0) → times own below ≡ 0
  below_apart below once (inl e) = let few = once own in let head = subst (λ x. times own (x ∷ below) ≡ 1 + times own below) e (times-head own below) in omega arith
  below_apart below once (inr none) = let some = once own in omega arith

  not_own : (below : List ℕ) → times own below ≡ 0 → (x : ℕ) → In x below → x ≢ own
  not_own below none x here same = let e = ap (λ y. times y below) same in omega (arith, e, none, here)

  below_still : (below : List ℕ) → times own below ≡ 0 → (x : ℕ) → In x below → Agree objectives (known_words (known_of p)) (known_words (known_of q)) x
  below_still below none x here = still_words r t m (own ∷ []) p q one objectives x (times-tail x own [] (not_own below none x here))

  now_readable : (below : List ℕ) → ((x : ℕ) → In x below → IsReadable x (known_of p)) → (x : ℕ) → In x (own ∷ below) → IsReadable x (known_of q)
  now_readable below readable x here =
      ⊎_elim (λ same. subst (λ y. IsReadable y (known_of q)) (sym same) mine)
      (λ other. let tail = times-tail x own below other in still_readable r t m (own ∷ []) p q one x (readable x (omega (arith, tail, here)))) (cases_eq x own)

  now_once : (below : List ℕ) → ((x : ℕ) → times x (row ∷ below) ≤ 1) → times own below ≡ 0 → (x : ℕ) → times x (own ∷ below) ≤ 1
  now_once below once none x =
      let few = once x in
      ⊎_elim (λ same. let head = times-head own below in let e = ap (λ y. times y (own ∷ below)) same in omega arith)
      (λ other. let tail = times-tail x own below other in omega arith) (cases_eq x own)

  module _ (links : (kind : ℕ) (ls : List ℕ) → kind < KINDS → length ls ≤ 20 → IsLinkRow (known_words (known_of p)) kind row ls → IsLinkRow (known_words (known_of q)) kind own ls) where
    pub node_touched : (ms : Nodes) → IsBoxRow objectives (known_words (known_of q)) own (touched_box v ms) → (own ≡ row) ⊎ (times own (rows_of ms) ≡ 0)
        → HasNode objectives (known_of p) row ms → HasNode objectives (known_of q) own (touched own v ms)
    node_touched no_nodes boxed apart has = absurd (let n = ap length has.here in omega arith)
    node_touched (leaf x b placed (leaf y b' placed' later)) boxed apart has = absurd (let n = ap length has.here in omega arith)
    node_touched (leaf x b placed (inner y b' kids' later)) boxed apart has = absurd (let n = ap length has.here in omega arith)
    node_touched (inner x b kids (leaf y b' placed' later)) boxed apart has = absurd (let n = ap length has.here in omega arith)
    node_touched (inner x b kids (inner y b' kids' later)) boxed apart has = absurd (let n = ap length has.here in omega arith)
    node_touched (leaf x b placed no_nodes) boxed apart has =
        let e = same_head x row [] [] has.here in
        let below = rows_with placed ++ [] in
        let once : (y : ℕ) → times y (row ∷ below) ≤ 1 = subst (λ z. (y : ℕ) → times y (z ∷ below) ≤ 1) e has.nodes.once in
        let none = below_apart below once (subst (λ z. (own ≡ row) ⊎ (times own (z ∷ below) ≡ 0)) e apart) in
        let written = has.nodes.written in record {
          nodes = record {
            written = (
              links LEAF (rows_with placed) (omega arith) (let few = has.nodes.fit.0 in let long = length-map placed (λ (z : Placed). z.row) in omega arith) (subst (λ z. IsLinkRow (known_words (known_of p)) LEAF z (rows_with placed)) e written.0),
              (λ some. boxed),
              points-alike objectives (known_words (known_of p)) (known_words (known_of q)) placed (λ y here. below_still below none y (in-append_left y (rows_with placed) [] here)) written.2,
              tt,
            );
            fit = (has.nodes.fit.0, (λ some. leaf_box_grown b placed v objectives long has.nodes.fit.1), tt);
            readable = now_readable below (λ y here. has.nodes.readable y (in_tail y x below here));
            once = now_once below once none;
          };
          here = refl;
        }
    node_touched (inner x b kids no_nodes) boxed apart has =
        let e = same_head x row [] [] has.here in
        let below = rows_of kids ++ [] in
        let once : (y : ℕ) → times y (row ∷ below) ≤ 1 = subst (λ z. (y : ℕ) → times y (z ∷ below) ≤ 1) e has.nodes.once in
        let none = below_apart below once (subst (λ z. (own ≡ row) ⊎ (times own (z ∷ below) ≡ 0)) e apart) in
        let written = has.nodes.written in
        let fit = has.nodes.fit in record {
          nodes = record {
            written = (
              links INNER (heads kids) (omega arith) (let few = fit.1 in omega arith) (subst (λ z. IsLinkRow (known_words (known_of p)) INNER z (heads kids)) e written.0),
              boxed,
              written-alike objectives (known_words (known_of p)) (known_words (known_of q)) kids (λ y here. below_still below none y (in-append_left y (rows_of kids) [] here)) written.2,
              tt,
            );
            fit = (fit.0, fit.1, box_grown b v objectives long fit.2, fit.3, fit.4, tt);
            readable = now_readable below (λ y here. has.nodes.readable y (in_tail y x below here));
            once = now_once below once none;
          };
          here = refl;
        }

-- the kind of a node, and its links
abbrev pub kind_of : Nodes → ℕ
kind_of no_nodes = LEAF
kind_of (leaf r b placed later) = LEAF
kind_of (inner r b kids later) = INNER

abbrev pub links_of : Nodes → List ℕ
links_of no_nodes = []
links_of (leaf r b placed later) = rows_with placed
links_of (inner r b kids later) = heads kids

-- what a node in a row tells of its words
pub node_first : (objectives : ℕ) (k : Known) (row : ℕ) (ms : Nodes) → HasNode objectives k row ms
    → IsLinkRow (known_words k) (kind_of ms) row (links_of ms) × (kind_of ms < KINDS) × (length (links_of ms) ≡ link_count ms) × (link_count ms ≤ 20)
node_first objectives k row no_nodes has = absurd (let n = ap length has.here in omega arith)
node_first objectives k row (leaf x b placed later) has =
    let e = same_head x row (heads later) [] has.here in
    (subst (λ z. IsLinkRow (known_words k) LEAF z (rows_with placed)) e has.nodes.written.0, omega arith, length-map placed (λ (z : Placed). z.row), has.nodes.fit.0)
node_first objectives k row (inner x b kids later) has =
    let e = same_head x row (heads later) [] has.here in
    (subst (λ z. IsLinkRow (known_words k) INNER z (heads kids)) e has.nodes.written.0, omega arith, refl, (let few = has.nodes.fit.1 in omega arith))

-- and of its box, if it has a link
pub node_box : (objectives : ℕ) (k : Known) (row : ℕ) (ms : Nodes) (v : List ℤ) → HasNode objectives k row ms → 0 < link_count ms
    → (b : Box) × IsBoxRow objectives (known_words k) row b × IsBox objectives b × (touched_box v ms ≡ grown b v)
node_box objectives k row no_nodes v has some = absurd (omega arith)
node_box objectives k row (leaf x b [] later) v has some = absurd (omega arith)
node_box objectives k row (leaf x b (q ∷ placed) later) v has some =
    let e = same_head x row (heads later) [] has.here in
    (b, subst (λ z. IsBoxRow objectives (known_words k) z b) e (has.nodes.written.1 (omega arith)), has.nodes.fit.1 (omega arith), refl)
node_box objectives k row (inner x b kids later) v has some =
    let e = same_head x row (heads later) [] has.here in
    (b, subst (λ z. IsBoxRow objectives (known_words k) z b) e has.nodes.written.1, has.nodes.fit.2, refl)

pub node_alone : (objectives : ℕ) (k : Known) (row : ℕ) (ms : Nodes) (v : List ℤ) → HasNode objectives k row ms → link_count ms ≡ 0 → touched_box v ms ≡ box_of v
node_alone objectives k row no_nodes v has none = absurd (let n = ap length has.here in omega arith)
node_alone objectives k row (leaf x b [] later) v has none = refl
node_alone objectives k row (leaf x b (q ∷ placed) later) v has none = absurd (omega arith)
node_alone objectives k row (inner x b kids later) v has none = absurd (let two = has.nodes.fit.0 in omega arith)

-- a node that was put into a row has as many links
pub count_touched : (own : ℕ) (v : List ℤ) (ms : Nodes) → link_count (touched own v ms) ≡ link_count ms
count_touched own v no_nodes = refl
count_touched own v (leaf r b placed later) = refl
count_touched own v (inner r b kids later) = refl

-- a node below an inner one has a link
pub some_links : (objectives : ℕ) (ns : Nodes) (k : ℕ) → HaveSome ns → AreFit objectives ns → k < length (heads ns) → 0 < link_count (at_node ns k)
some_links objectives no_nodes k some fit low = absurd (omega arith)
some_links objectives (leaf r b placed later) zero some fit low = some.0
some_links objectives (inner r b kids later) zero some fit low = let two = fit.0 in omega arith
some_links objectives (leaf r b placed later) (suc k) some fit low = some_links objectives later k some.1 fit.2 (omega arith)
some_links objectives (inner r b kids later) (suc k) some fit low = some_links objectives later k some fit.5 (omega arith)
