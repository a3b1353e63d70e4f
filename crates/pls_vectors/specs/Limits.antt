use Rattle.std.specs.Prelude.{ℕ}

-- the numbers that may stand at a place of a text
pub record Limits : Type 0 where
  pub least : ℕ
  pub most : ℕ
