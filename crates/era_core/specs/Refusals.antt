-- Why a list of events was not played to its end.
use Rattle.std.specs.Prelude.{◌≡◌, Some, List, ⊤}
use Rattle.era_core.specs.Machine.{Machine, first_refused}
use Rattle.era_core.specs.declared.event.Event.{Event}
use Rattle.era_core.specs.declared.play.PlayRefusal.{PlayRefusal}
use Rattle.era_core.specs.declared.play.PlayRefusal.TheVariants.{Illegal, Memory}

-- the index is that of the first event that is not allowed
abbrev pub IsFirstRefused : List Event → Machine → PlayRefusal → Type 0
IsFirstRefused es m (Illegal i) = first_refused es m ≡ Some i
IsFirstRefused es m Memory = ⊤
