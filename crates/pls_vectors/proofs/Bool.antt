-- Lemmas on tests that the standard library lacks.
use Rattle.std.proofs.Common.{◌≡◌, Bool, true, false, not, ◌&&◌, ◌||◌, refl, sym}

-- lemmas on tests that std lacks

pub and_not_itself : (x : Bool) → (x && not x) ≡ false
and_not_itself true = refl
and_not_itself false = refl

pub not_and_not : (x y : Bool) → (not x && not y) ≡ not (x || y)
not_and_not true y = refl
not_and_not false y = refl

-- the last of three tests moves to the end
pub not_or_and : (x y z : Bool) → (not (x || (y || false)) && not z) ≡ ((not x && not z) && not y)
not_or_and true y z = refl
not_or_and false true true = refl
not_or_and false true false = refl
not_or_and false false true = refl
not_or_and false false false = refl

-- a test that is split by another, beside two more
pub or_split : (x y a b : Bool) → (((x && not y) || a) || ((x && y) || b)) ≡ (x || (a || b))
or_split true true true b = refl
or_split true true false b = refl
or_split true false a b = refl
or_split false y a b = refl

-- a test adds nothing to what holds wherever it does
pub or_absorbs : (x y : Bool) → (y ≡ true → x ≡ true) → (x || (y || false)) ≡ x
or_absorbs true y h = refl
or_absorbs false true h = sym (h refl)
or_absorbs false false h = refl

pub or_under : (x a y : Bool) → (x ≡ true → y ≡ true) → ((x || a) || y) ≡ (a || y)
or_under true true y h = refl
or_under true false y h = sym (h refl)
or_under false a y h = refl

pub or_beside : (x a b y : Bool) → (a || y) ≡ (b || y) → ((x || a) || y) ≡ ((x || b) || y)
or_beside true a b y h = refl
or_beside false a b y h = h
