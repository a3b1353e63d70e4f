use Rattle.std.specs.Prelude.{ℕ, ◌*◌, List, take, drop}

-- a row of a table whose rows of so many numbers stand one after another
abbrev pub row_of : ℕ → ℕ → List ℕ → List ℕ
row_of items row table = take items (drop (row * items) table)
