-- The first of the best.
use Rattle.std.specs.Prelude.{ℕ, suc, Bool, List, [], ◌∷◌, if◌then◌else◌}
use Rattle.std.specs.List.{list_all}

-- the place of the first element that is at least as good as each one after it: the first of the best, where the test is an order
abbrev pub first_best : {A : Type 0} → (A → A → Bool) → List A → ℕ
first_best good [] = 0
first_best good (x ∷ xs) = if list_all (good x) xs then 0 else suc (first_best good xs)
