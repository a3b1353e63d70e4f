-- Worked schedules of 4 rows and 2 passes, and what they leave.
use Rattle.std.specs.Prelude.{ℕ, List, [], ◌∷◌, ◌++◌, map}
use Rattle.era_core.specs.Words.{version, root_row, owner, reservation}
use Rattle.era_core.specs.Machine.{Machine, start}
use Rattle.era_core.specs.declared.event.Event.{Event}
use Rattle.era_core.specs.declared.event.Event.TheVariants.{Note, Announce, Pin, Read, Take, Write, Publish, Unpin, Look, Free}

-- pass 0 publishes row 1 and lets go of its version, while pass 1 has noted version 0
abbrev pub first_publication : List Event
first_publication = Note 1 ∷ Note 0 ∷ Announce 0 ∷ Pin 0 ∷ Take 0 1 ∷ Write 0 1 0 0 ∷ Publish 0 1 ∷ Unpin 0 ∷ []

-- pass 1 announces version 0, which has passed, and pins version 1; pass 0 publishes row 2 over it, and scans
abbrev pub second_publication : List Event
second_publication =
    Announce 1 ∷ Pin 1 ∷ Note 0 ∷ Announce 0 ∷ Pin 0 ∷ Take 0 2 ∷ Write 0 2 0 0 ∷ Publish 0 2 ∷ Unpin 0 ∷ Look 0 0 ∷ Look 0 1 ∷ []

-- pass 1 reads its row and lets go of it; pass 0 scans again, and frees both retired rows
abbrev pub reclamation : List Event
reclamation = Read 1 1 0 ∷ Unpin 1 ∷ Look 0 0 ∷ Look 0 1 ∷ Free 0 0 ∷ Free 0 1 ∷ []

abbrev pub whole : List Event
whole = first_publication ++ second_publication ++ reclamation

-- the same, with row 1 freed before pass 1 has read it
abbrev pub too_soon : List Event
too_soon = first_publication ++ second_publication ++ Free 0 1 ∷ Read 1 1 0 ∷ Unpin 1 ∷ Look 0 0 ∷ Look 0 1 ∷ Free 0 0 ∷ []

abbrev pub small : Machine
small = start 4 2

-- the root's version and row
abbrev pub root_of : Machine → List ℕ
root_of m = version m.words ∷ root_row m.words ∷ []

-- the owners of the four rows, and the reservations of the two passes
abbrev pub owners_of : Machine → List ℕ
owners_of m = map (owner 2 4 m.words) (0 ∷ 1 ∷ 2 ∷ 3 ∷ [])

abbrev pub reservations_of : Machine → List ℕ
reservations_of m = map (reservation 2 4 m.words) (0 ∷ 1 ∷ [])

-- a fresh row that is given back, while the reservation stays
abbrev pub given_back : List Event
given_back = Note 1 ∷ Note 0 ∷ Announce 0 ∷ Pin 0 ∷ Take 0 1 ∷ Write 0 1 0 0 ∷ Free 0 1 ∷ []

abbrev pub pin_of_0 : List Event
pin_of_0 = Note 0 ∷ Announce 0 ∷ Pin 0 ∷ []

-- two passes pin version 0; the first to publish wins, and the other gives its row back
abbrev pub beaten : List Event
beaten =
    Note 0 ∷ Note 1 ∷ Announce 0 ∷ Announce 1 ∷ Pin 0 ∷ Pin 1 ∷ Take 0 1 ∷ Write 0 1 0 0 ∷ Take 1 2 ∷ Write 1 2 0 0 ∷ Publish 0 1 ∷ Publish 1 2
    ∷ Free 1 2 ∷ []
