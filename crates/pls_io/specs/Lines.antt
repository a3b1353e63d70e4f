use Rattle.std.specs.Prelude.{Bool, ℕ, List, [], ◌∷◌, ◌++◌, codes, if◌then◌else◌}

-- a line, with the line feed that ends it
abbrev pub line : List ℕ → List ℕ
line bytes = bytes ++ 10 ∷ []

-- what separates a word from those before it, if there are any
abbrev pub gap : Bool → List ℕ
gap any = if any then codes " " else []
