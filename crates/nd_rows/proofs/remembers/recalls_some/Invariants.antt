use Rattle.std.proofs.Common.{◌≡◌, drop}
use Rattle.std.specs.List.{list_any}
use Rattle.era_rows.specs.Passes.{memory_of}
use Rattle.nd_rows.specs.Entries.{held_meets}
use Rattle.nd_rows.proofs.remembers.recalls_some.Given as goal

-- the places that are left answer for all
abbrev pub invariant-loop-place : goal.invariant-loop-place
invariant-loop-place l = list_any (held_meets l.other l.value) (memory_of l.pass) ≡ list_any (held_meets l.other l.value) (drop l.place (memory_of l.pass))
