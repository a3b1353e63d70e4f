-- What soundness gives a reader: its version stands, and no row of it is given out again.
use Rattle.std.proofs.Common.{◌≡◌, ◌≢◌, ℕ, zero, suc, ◌+◌, ◌<◌, ◌≤◌, Bool, true, false, cond, eqb, ltb, Option, Some, None, List, [], ◌∷◌, set, refl, sym, ap, subst, ◌∙◌, arith, lt-ltb, ne_eqb}
use Rattle.std.specs.Prelude.{◌&&◌, ◌||◌, is_some, unwrap_or, slice_get, option_and_then, option_map}
use Rattle.std.proofs.lemmas.Bool.{and_parts, and_from, or_left, eqb-true}
use Rattle.std.proofs.lemmas.Option.{same_Some, none-some}
use Rattle.era_core.specs.declared.sizes.TheConstants.{WIDTH}
use Rattle.era_core.specs.Lists.{times, In, is_in, tree}
use Rattle.era_core.specs.Words.{links, owner_at, owner, cell, tree_at, version}
use Rattle.era_core.specs.Views.{View, rows_in, held}
use Rattle.era_core.specs.Versions.{Cell, Copy, look_up, known, known_links, Covers, Stands}
use Rattle.era_core.specs.Sound.{IsPinned, Sound}
use Rattle.era_core.specs.Machine.{Machine, IsSound, may, view_after, pinned_rows, allows, allows_at, after, after_at, owner_of, cell_of, tree_of, pin_of, fresh_of, last_of, published_word}
use Rattle.era_core.specs.declared.event.Event.TheVariants.{Read, Take}
use Rattle.era_core.proofs.ListFacts.{at_below, total-le_total, times-append}
use Rattle.era_core.proofs.WordFacts.{links_by-counted}
use Rattle.era_core.proofs.TreeFacts.{tree_same}
use Rattle.era_core.proofs.Stays.{kept_shared, IsShared}
use Rattle.era_core.proofs.Keeps.{owned_free}
use Rattle.era_core.proofs.Frees.{held_within}
use Rattle.era_core.proofs.Publishes.{shared_within}
use Rattle.era_core.proofs.Runs.{some_from, at_slice_get}
use mathlib.Core.Option.{some, some-injective, some-ne-none}
use lib.ListN.{get_elem?}

-- a word that is looked up stands in a cell
pub look_up_cell : (cells : List Cell) (r p w : ℕ) → look_up cells r p ≡ Some w → (i : ℕ) × (c : Cell) × (get_elem? cells i ≡ some c) × (c.row ≡ r) × (c.place ≡ p) × (c.word ≡ w)
look_up_cell [] r p w e = absurd (none-some w e)
look_up_cell (c ∷ cs) r p w e = by_test (eqb c.row r && eqb c.place p) refl e (λ is. look_up_cell cs r p w is)
  where
    by_test : (b : Bool) → (eqb c.row r && eqb c.place p) ≡ b → cond b (Some c.word) (look_up cs r p) ≡ Some w
        → (look_up cs r p ≡ Some w → (i : ℕ) × (x : Cell) × (get_elem? cs i ≡ some x) × (x.row ≡ r) × (x.place ≡ p) × (x.word ≡ w))
        → (i : ℕ) × (x : Cell) × (get_elem? (c ∷ cs) i ≡ some x) × (x.row ≡ r) × (x.place ≡ p) × (x.word ≡ w)
    by_test true here is later = let both = and_parts (eqb c.row r) (eqb c.place p) here in (0, c, refl, eqb-true c.row r both.0, eqb-true c.place p both.1, same_Some c.word w is)
    by_test false here is later = let rest = later is in (suc rest.0, rest.1, rest.2, rest.3, rest.4, rest.5)

module _ (passes rows : ℕ) (ws : List ℕ) (cells : List Cell) (stands : Stands passes rows ws cells) where
  -- a word that is looked up stands now
  pub look_up_stands : (r p w : ℕ) → look_up cells r p ≡ Some w → cell passes rows ws r p ≡ w
  look_up_stands r p w e =
      let t = look_up_cell cells r p w e in
      ap (λ x. cell passes rows ws x p) (sym t.3) ∙ ap (λ x. cell passes rows ws t.1.row x) (sym t.4) ∙ stands t.0 t.1 t.2 ∙ t.5

  known_stands : (r p : ℕ) → is_some (look_up cells r p) ≡ true → known cells r p ≡ cell passes rows ws r p
  known_stands r p there = let t = some_from (look_up cells r p) there in ap (λ o. unwrap_or o 0) t.1 ∙ sym (look_up_stands r p t.0 t.1)

  -- where the cells cover the rows of the tree that they make, that tree stands
  pub tree_stands : (r : ℕ) → ((x : ℕ) → In x (tree (known_links cells) rows r) → Covers cells x) → tree_at passes rows ws r ≡ tree (known_links cells) rows r
  tree_stands r covers =
      tree_same (known_links cells) (links passes rows ws) rows r (λ x here.
      sym (links_by-counted (known cells x) (cell passes rows ws x) (λ p below. known_stands x p (covers x here p below))))

-- the tree at a pinned root row, as it stands, is that of the version
pub pinned_tree : (passes rows : ℕ) (ws : List ℕ) (vs : List View) (cs : List Copy) → Sound passes rows ws vs cs
    → (k n r : ℕ) (retired : List (ℕ × List ℕ)) → IsPinned passes rows ws vs cs k retired n r → (c : Copy) → get_elem? cs n ≡ some c → tree_at passes rows ws r ≡ c.rows
pinned_tree passes rows ws vs cs sound k n r retired pin c there =
    let closed = sound.closed n c there in
    let e : tree_at passes rows ws c.root ≡ c.rows =
    tree_stands passes rows ws c.cells (pin.stands c there) c.root (λ x here. closed.covers x (subst (In x) (sym closed.is_tree) here)) ∙ sym closed.is_tree in
    ap (tree_at passes rows ws) (sym (pin.rooted c there)) ∙ e

-- a live or retired row has an owner
pub shared_owned : (passes rows : ℕ) (ws : List ℕ) (vs : List View) (cs : List Copy) → Sound passes rows ws vs cs → (x : ℕ) → IsShared passes rows ws vs x → owner passes rows ws x ≢ 0
shared_owned passes rows ws vs cs sound x shared free =
    let le = total-le_total (λ (u : View). times x (rows_in u.retired)) (λ (u : View). times x (held u)) vs (λ u. omega (arith, times-append x u.fresh (rows_in u.retired))) in
    let none = owned_free passes rows ws x free in
    omega (arith, sound.places x)

pub slice_get_at : {A : Type 0} (xs : List A) (i : ℕ) (x : A) → get_elem? xs i ≡ some x → slice_get xs i ≡ Some x
slice_get_at [] i x there = absurd (some-ne-none x (sym there))
slice_get_at (y ∷ ys) zero x there = ap Some (some-injective y x there)
slice_get_at (y ∷ ys) (suc i) x there = slice_get_at ys i x there

-- what a pinned pass of a sound machine knows
pub record Reader (m : Machine) (cs : List Copy) (k n root : ℕ) : Type 0 where
  pub view : View
  pub at : slice_get m.views k ≡ Some view
  pub pinned : view.pinned ≡ Some (n, root)
  pub copy : Copy
  pub there : get_elem? cs n ≡ some copy
  pub pin : IsPinned m.passes m.rows m.words m.views cs k view.retired n root
  pub rows_are : tree_of m root ≡ copy.rows

pub reader : (m : Machine) (cs : List Copy) → IsSound m cs → (k n root : ℕ) → pin_of m k ≡ Some (n, root) → Reader m cs k n root
reader m cs is_sound k n root e = by_view (slice_get m.views k) refl e
  where
    by_view : (o : Option View) → slice_get m.views k ≡ o → option_and_then (λ (v : View). v.pinned) o ≡ Some (n, root) → Reader m cs k n root
    by_view None is pinned = absurd (none-some (n, root) pinned)
    by_view (Some v) is pinned =
        let at = at_slice_get m.views k v is in
        let pin = (is_sound.sound.each k v at).pin k n root (is_sound.ordered k v at) pinned in
        let there = at_below cs n (omega (arith, is_sound.sound.counted, pin.published)) in
        record {
          view = v;
          at = is;
          pinned = pinned;
          copy = there.0;
          there = there.1;
          pin = pin;
          rows_are = pinned_tree m.passes m.rows m.words m.views cs is_sound.sound k n root v.retired pin there.0 there.1;
        }

pub slice_get_set : {A : Type 0} (xs : List A) (i : ℕ) (x y : A) → slice_get xs i ≡ Some x → slice_get (set xs i y) i ≡ Some y
slice_get_set [] i x y there = absurd (none-some x there)
slice_get_set (z ∷ zs) zero x y there = refl
slice_get_set (z ∷ zs) (suc i) x y there = slice_get_set zs i x y there

or_right_true : (a b : Bool) → b ≡ true → (a || b) ≡ true
or_right_true true b e = refl
or_right_true false b e = e

-- what an allowed Read leaves
read_last : (m : Machine) (k r p : ℕ) (v : View) → slice_get m.views k ≡ Some v → allows m (Read k r p) ≡ true → last_of (after m (Read k r p)) k ≡ Some (cell_of m r p)
read_last m k r p v at ok =
    let w = view_after m.passes m.rows m.words v (Read k r p) in
    ap (λ b. last_of (cond b (after_at m (Read k r p) (slice_get m.views k)) m) k) ok
    ∙ ap (λ o. last_of (after_at m (Read k r p) o) k) at
    ∙ ap (λ o. option_and_then (λ (x : View). x.last) o) (slice_get_set m.views k v w at)

module _ (m : Machine) (cs : List Copy) (is_sound : IsSound m cs) (k n root : ℕ) (pinned : pin_of m k ≡ Some (n, root)) where
  known_reader : Reader m cs k n root
  known_reader = reader m cs is_sound k n root pinned

  -- a row of the pinned tree is shared
  pub pinned_shared : (r : ℕ) → In r (tree_of m root) → IsShared m.passes m.rows m.words m.views r
  pinned_shared r here =
      let t = known_reader in
      kept_shared m.passes m.rows m.words m.views n r (t.pin.kept t.copy t.there r (subst (In r) t.rows_are here))

  pub pinned_owned : (r : ℕ) → In r (tree_of m root) → owner_of m r ≢ 0
  pinned_owned r here = shared_owned m.passes m.rows m.words m.views cs is_sound.sound r (pinned_shared r here)

  pub pinned_within : (r : ℕ) → In r (tree_of m root) → r < m.rows
  pinned_within r here = shared_within m.passes m.rows m.words m.views cs is_sound.sound r (pinned_shared r here)

  -- each word of the pinned tree is that of the version
  pub pinned_word : (r p : ℕ) → In r (tree_of m root) → p < WIDTH → published_word cs n r p ≡ Some (cell_of m r p)
  pinned_word r p here place =
      let t = known_reader in
      let has = is_sound.whole n t.copy t.there r p (subst (In r) t.rows_are here) place in
      let w = some_from (look_up t.copy.cells r p) has in
      ap (λ o. option_and_then (λ (c : Copy). look_up c.cells r p) o) (slice_get_at cs n t.copy t.there) ∙ w.1 ∙ ap Some (sym (look_up_stands m.passes m.rows m.words t.copy.cells (t.pin.stands t.copy t.there) r p w.0 w.1))

  -- a read of the pinned tree is allowed, and finds the word of the version
  pub read_pinned : (r p : ℕ) → In r (tree_of m root) → p < WIDTH
      → (allows m (Read k r p) ≡ true) × (last_of (after m (Read k r p)) k ≡ published_word cs n r p)
  read_pinned r p here place =
      let t = known_reader in
      let e = Read k r p in
      let in_tree : is_in r (pinned_rows m.passes m.rows m.words t.view.pinned) ≡ true =
      ap (λ o. is_in r (pinned_rows m.passes m.rows m.words o)) t.pinned ∙ lt-ltb 0 (times r (tree_of m root)) here in
      let fits : may m.passes m.rows m.words t.view e ≡ true =
      and_from (ltb r m.rows && ltb p WIDTH) (is_in r t.view.fresh || is_in r (pinned_rows m.passes m.rows m.words t.view.pinned))
      (and_from (ltb r m.rows) (ltb p WIDTH) (lt-ltb r m.rows (pinned_within r here)) (lt-ltb p WIDTH place))
      (or_right_true (is_in r t.view.fresh) (is_in r (pinned_rows m.passes m.rows m.words t.view.pinned)) in_tree) in
      let ok : allows m e ≡ true = ap (allows_at m e) t.at ∙ fits in
      (ok, read_last m k r p t.view t.at ok ∙ sym (pinned_word r p here place))

-- a read of a fresh row is allowed, and finds the word that stands there
pub read_fresh : (m : Machine) (cs : List Copy) → IsSound m cs → (k r p : ℕ) → In r (fresh_of m k) → p < WIDTH
    → (allows m (Read k r p) ≡ true) × (last_of (after m (Read k r p)) k ≡ Some (cell_of m r p))
read_fresh m cs is_sound k r p here place = by_view (slice_get m.views k) refl here
  where
    by_view : (o : Option View) → slice_get m.views k ≡ o → In r (unwrap_or (option_map (λ (v : View). v.fresh) o) [])
        → (allows m (Read k r p) ≡ true) × (last_of (after m (Read k r p)) k ≡ Some (cell_of m r p))
    by_view None is none = absurd (omega arith)
    by_view (Some v) is fresh =
        let at = at_slice_get m.views k v is in
        let row = held_within m.passes m.rows m.words m.views cs is_sound.sound k k v at (is_sound.ordered k v at) r (omega (arith, times-append r v.fresh (rows_in v.retired))) in
        let fits : may m.passes m.rows m.words v (Read k r p) ≡ true =
        and_from (ltb r m.rows && ltb p WIDTH) (is_in r v.fresh || is_in r (pinned_rows m.passes m.rows m.words v.pinned))
        (and_from (ltb r m.rows) (ltb p WIDTH) (lt-ltb r m.rows row) (lt-ltb p WIDTH place))
        (or_left (is_in r v.fresh) (is_in r (pinned_rows m.passes m.rows m.words v.pinned)) (lt-ltb 0 (times r v.fresh) fresh)) in
        let ok : allows m (Read k r p) ≡ true = ap (allows_at m (Read k r p)) is ∙ fits in
        (ok, read_last m k r p v is ok)

-- a Take that changes an owner takes a row that is in no pinned tree
pub taken_unread : (m : Machine) (cs : List Copy) → IsSound m cs → (k r j n root : ℕ) → owner_of (after m (Take k r)) r ≢ owner_of m r
    → pin_of m j ≡ Some (n, root) → ¬ In r (tree_of m root)
taken_unread m cs is_sound k r j n root changed pinned here =
    let taken = pinned_owned m cs is_sound j n root pinned r here in
    changed (by_test (allows m (Take k r)))
  where
    stays_owned : (o : Option View) → owner_of (after_at m (Take k r) o) r ≡ owner_of m r
    stays_owned None = refl
    stays_owned (Some v) =
        ap (λ b. owner m.passes m.rows (cond b (set m.words (owner_at m.passes m.rows r) (k + 1)) m.words) r)
        (ne_eqb (owner_of m r) 0 (pinned_owned m cs is_sound j n root pinned r here))

    by_test : (b : Bool) → owner_of (cond b (after_at m (Take k r) (slice_get m.views k)) m) r ≡ owner_of m r
    by_test true = stays_owned (slice_get m.views k)
    by_test false = refl

-- what a pass has noted is no later than the root's version
pub noted_low : (m : Machine) (cs : List Copy) → IsSound m cs → (k n : ℕ) (v : View) → slice_get m.views k ≡ Some v → v.noted ≡ Some n → n ≤ version m.words
noted_low m cs is_sound k n v at noted = (is_sound.sound.each k v (at_slice_get m.views k v at)).noted n noted
