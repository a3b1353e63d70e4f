-- Steps of a pass that removes: its list changes, a row is marked, and what was pinned stays so.
use Rattle.std.proofs.Common.{◌≡◌, ℕ, zero, suc, ◌+◌, ◌%◌, ◌<◌, ◌≤◌, Bool, true, false, nat_lt, nat_le, if◌then◌else◌, Some, List, [], ◌∷◌, ◌++◌, length, take, drop, get_or, refl, sym, ap, subst, ◌∙◌, arith}
use Rattle.std.specs.Prelude.{◌||◌}
use Rattle.std.proofs.lemmas.Bool.{lt-ltb, le-ltb}
use Rattle.era_core.specs.declared.sizes.TheConstants.{ROOT_ROWS}
use Rattle.era_core.specs.Lists.{In}
use Rattle.era_core.specs.Versions.{Copy, look_up}
use Rattle.era_rows.specs.Known.{pinned_copy}
use Rattle.era_rows.specs.Passes.{knows_of, known_of, marked_of, memory_of, IsPassOf}
use Rattle.era_rows.specs.declared.pass.Pass.{Pass}
use Rattle.era_rows.specs.declared.rows.Rows.{Rows}
use Rattle.era_rows.specs.declared.law.Law.{Ghosts}
use Rattle.pls_archive.specs.declared.call.Entry.{Entry}
use Rattle.pls_archive.specs.Lists.{one_if}
use Rattle.nd_rows.specs.Layout.{HasWords}
use Rattle.nd_rows.proofs.Looks.{looks_work}
use Rattle.nd_rows.proofs.Sides.{word_at}
use Rattle.nd_update.specs.Building.{IsBuilding, Does}
use Rattle.nd_update.specs.Left.{gone_word, is_touched, alive}
use Rattle.nd_update.proofs.Filters.{by_test}
use Rattle.nd_update.proofs.Building.{looks_do, still_pinned}
use lib.ListN.{get_elem?}
use mathlib.Core.Option.{some, some-injective, some-ne-none}

-- one more of a list
pub take_more : {A : Type 0} (xs : List A) (k : ℕ) (x : A) (rest : List A) → drop k xs ≡ x ∷ rest → take (k + 1) xs ≡ take k xs ++ x ∷ []
take_more xs k x rest at = ap (λ n. take n xs) (let e : k + 1 ≡ suc k = omega arith in e) ∙ one xs k x rest at
  where
    one : {A : Type 0} (xs : List A) (k : ℕ) (x : A) (rest : List A) → drop k xs ≡ x ∷ rest → take (suc k) xs ≡ take k xs ++ x ∷ []
    one [] zero x rest at = absurd (let e = ap length at in omega (arith, e))
    one [] (suc k) x rest at = absurd (let e = ap length at in omega (arith, e))
    one (y ∷ xs) zero x rest at = ap (λ zs. take 1 zs) at
    one (y ∷ xs) (suc k) x rest at = ap (λ zs. y ∷ zs) (one xs k x rest at)

-- the element at a place, and those behind it
pub drop_there : {A : Type 0} (xs : List A) (k : ℕ) (x : A) → get_elem? xs k ≡ some x → drop k xs ≡ x ∷ drop (k + 1) xs
drop_there xs k x at = one xs k x at ∙ ap (λ n. x ∷ drop n xs) (let e : suc k ≡ k + 1 = omega arith in e)
  where
    one : {A : Type 0} (xs : List A) (k : ℕ) (x : A) → get_elem? xs k ≡ some x → drop k xs ≡ x ∷ drop (suc k) xs
    one [] k x at = absurd (some-ne-none x (sym at))
    one (y ∷ xs) zero x at = ap (λ z. z ∷ xs) (some-injective y x at)
    one (y ∷ xs) (suc k) x at = one xs k x at

module _ {L : Type 0} {G : Ghosts L Entry} (r : Rows L Entry) where
  -- the list alone has changed
  pub does_work : (p q : Pass L Entry G) → IsBuilding r p → ((x : Rows L Entry) → IsPassOf x p → IsPassOf x q) → q.number ≡ p.number → knows_of q ≡ knows_of p → marked_of q ≡ marked_of p → memory_of q ≡ memory_of p → Does r [] [] [] p q
  does_work p q building pass number knows marks memory = looks_do r [] p q building (looks_work r [] p q building.is_pass pass number knows marks memory)

  -- what holds of the pinned copy holds still
  pub stay_pinned : (P : Copy → Type 0) (t m c : List ℕ) (p q : Pass L Entry G) → Does r t m c p q → P (pinned_copy (known_of p)) → P (pinned_copy (known_of q))
  stay_pinned P t m c p q one holds = subst P (sym (still_pinned r t m c p q one)) holds

  pub row_still : (t m c : List ℕ) (p q : Pass L Entry G) → Does r t m c p q → (x : ℕ) → In x (pinned_copy (known_of p)).rows → In x (pinned_copy (known_of q)).rows
  row_still t m c p q one x here = stay_pinned (λ (y : Copy). In x y.rows) t m c p q one here

  pub inside_now : (p : Pass L Entry G) → IsPassOf r p → (x : ℕ) → In x (pinned_copy (known_of p)).rows → x < r.rows
  inside_now p is_pass x here = let inside = p.tied.tree.inside x here in let rows = is_pass.sized.rows_are in omega (arith, inside, rows)

  -- a link of a row of the pinned copy
  pub link_at : (t m c : List ℕ) (p q : Pass L Entry G) → Does r t m c p q → (row : ℕ) (links : List ℕ) → HasWords (pinned_copy (known_of p)).cells row 1 links → (k : ℕ) → k < length links
      → look_up (pinned_copy (known_of q)).cells row (1 + k) ≡ Some (get_or links k 0)
  link_at t m c p q one row links has k low =
      stay_pinned (λ (x : Copy). look_up x.cells row (1 + k) ≡ Some (get_or links k 0)) t m c p q one (word_at (pinned_copy (known_of p)).cells row 1 links has k low)

-- ---- words of the list
pub alive_first : (w : ℕ) (ws : List ℕ) → w < 33554432 → alive (w ∷ ws) ≡ w % ROOT_ROWS ∷ alive ws
alive_first w ws low = ap (λ s. if s then w % ROOT_ROWS ∷ alive ws else alive ws) (lt-ltb w gone_word low)

pub alive_gone : (w : ℕ) (ws : List ℕ) → 33554432 ≤ w → alive (w ∷ ws) ≡ alive ws
alive_gone w ws high = ap (λ s. if s then w % ROOT_ROWS ∷ alive ws else alive ws) (le-ltb w gone_word high)

pub alive_split : (w : ℕ) (ws : List ℕ) → alive (w ∷ ws) ≡ alive (w ∷ []) ++ alive ws
alive_split w ws = by_test (λ s. (if s then w % ROOT_ROWS ∷ alive ws else alive ws) ≡ (if s then w % ROOT_ROWS ∷ [] else []) ++ alive ws) (nat_lt w gone_word) (λ low. refl) (λ high. refl)

pub count_alive : (w : ℕ) (ws : List ℕ) → length (alive (w ∷ ws)) ≡ one_if (nat_lt w gone_word) + length (alive ws)
count_alive w ws = by_test (λ s. length (if s then w % ROOT_ROWS ∷ alive ws else alive ws) ≡ one_if s + length (alive ws)) (nat_lt w gone_word) (λ low. omega arith) (λ high. omega arith)

pub few_alive : (ws : List ℕ) → length (alive ws) ≤ length ws
few_alive [] = omega arith
few_alive (w ∷ ws) = let rest = few_alive ws in by_test (λ s. length (if s then w % ROOT_ROWS ∷ alive ws else alive ws) ≤ suc (length ws)) (nat_lt w gone_word) (λ low. omega (arith, rest)) (λ high. omega (arith, rest))

pub touched_yes : (w : ℕ) (ws : List ℕ) → 16777216 ≤ w → is_touched (w ∷ ws) ≡ true
touched_yes w ws high = ap (λ s. s || is_touched ws) (is_le ROOT_ROWS w high)
  where
    is_le : (m n : ℕ) → m ≤ n → nat_le m n ≡ true
    is_le m n low = search arith

pub touched_no : (w : ℕ) (ws : List ℕ) → w < 16777216 → is_touched (w ∷ ws) ≡ is_touched ws
touched_no w ws low = ap (λ s. s || is_touched ws) (not_le ROOT_ROWS w low)
  where
    not_le : (m n : ℕ) → n < m → nat_le m n ≡ false
    not_le m n low = search arith

pub one_le : (s : Bool) → one_if s ≤ 1
one_le true = omega arith
one_le false = omega arith
