use Rattle.std.proofs.Common.{◌≡◌, ℕ, ◌+◌, ◌-◌, ◌≤◌, List, [], ◌∷◌, ◌++◌, length, take}
use Rattle.std.specs.Prelude.{replicate}
use Rattle.era_core.specs.Versions.{look_up}
use Rattle.era_rows.specs.Known.{known_words}
use Rattle.era_rows.specs.Passes.{known_of, marked_of, work_of}
use Rattle.nd_rows.specs.declared.layout.TheConstants.{FIRST_LINK, IDEAL}
use Rattle.nd_rows.specs.Nodes.{Placed, rows_with}
use Rattle.nd_rows.specs.Layout.{HasWords}
use Rattle.nd_update.specs.Building.{Does}
use Rattle.nd_update.specs.Counted.{IsPaid}
use Rattle.nd_update.specs.Insertion.{values_with}
use Rattle.nd_update.specs.Needed.{ReadsOnly}
use Rattle.nd_update.specs.FilledLeaves.{HasLinked, AreGroupLeaves}
use Rattle.nd_update.proofs.leaves.divide.Given as goal

-- the links and the values before this place were read, and nothing else
abbrev pub invariant-loop-k : goal.invariant-loop-k
invariant-loop-k l = record {
  does : Does l.rows [] [] [] l.fn.pass l.pass;
  work : work_of l.pass ≡ work_of l.fn.pass;
  only : (placed : List Placed) → HasLinked l.rows.shape (known_of l.fn.pass) l.row placed → length placed ≡ 20 → ReadsOnly (l.row ∷ rows_with placed) (known_of l.fn.pass) (known_of l.pass);
  read : (placed : List Placed) → HasLinked l.rows.shape (known_of l.fn.pass) l.row placed → length placed ≡ 20
      → (l.links ≡ take l.k (rows_with placed) ++ replicate (21 - l.k) l.at) × (l.values ≡ take l.k (values_with placed) ++ replicate (21 - l.k) l.value);
}

-- a leaf was written for each group before this one, and linked
abbrev pub invariant-loop-g : goal.invariant-loop-g
invariant-loop-g l = record {
  work : work_of l.pass ≡ work_of l.fn.pass;
  only : (placed : List Placed) → HasLinked l.rows.shape (known_of l.fn.pass) l.row placed → length placed ≡ 20 → ReadsOnly (l.row ∷ rows_with placed) (known_of l.fn.pass) (known_of l.pass);
  paid : IsPaid (l.g + 1) (known_of l.pass) (marked_of l.pass);
  kept : (k : ℕ) → IDEAL ≤ k → look_up (known_words (known_of l.pass)) l.row k ≡ look_up (known_words (known_of l.fn.pass)) l.row k;
  written : (leaves : List ℕ) × (length leaves ≡ l.g) × Does l.rows leaves [] (l.row ∷ leaves) l.fn.pass l.pass × HasWords (known_words (known_of l.pass)) l.row FIRST_LINK leaves
      × ((placed : List Placed) → rows_with placed ≡ l.links → values_with placed ≡ l.values → AreGroupLeaves l.rows.shape (known_words (known_of l.pass)) placed leaves (take l.g l.groups));
}
