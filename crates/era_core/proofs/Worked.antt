-- The worked schedules, computed on the definitions.
use Rattle.std.proofs.Common.{◌≡◌, Some, None, [], ◌∷◌, ◌++◌, refl}
use Rattle.era_core.specs.Machine.{play, first_refused, last_of}
use Rattle.era_core.specs.Schedules.{first_publication, whole, too_soon, given_back, pin_of_0, beaten, small, root_of, owners_of, reservations_of}
use Rattle.era_core.specs.declared.event.Event.TheVariants.{Note, Announce, Pin, Read, Take, Write, Publish, Unpin, Look, Free}

whole-allowed : first_refused whole small ≡ None
whole-allowed = refl

whole-root : root_of (play whole small) ≡ 2 ∷ 2 ∷ []
whole-root = refl

whole-owners : owners_of (play whole small) ≡ 0 ∷ 0 ∷ 1 ∷ 0 ∷ []
whole-owners = refl

whole-reservations : reservations_of (play whole small) ≡ 0 ∷ 0 ∷ []
whole-reservations = refl

whole-last : last_of (play whole small) 1 ≡ Some 0
whole-last = refl

too_soon-refused : first_refused too_soon small ≡ Some 19
too_soon-refused = refl

given_back-allowed : first_refused given_back small ≡ None
given_back-allowed = refl

given_back-owners : owners_of (play given_back small) ≡ 1 ∷ 0 ∷ 0 ∷ 0 ∷ []
given_back-owners = refl

given_back-reservations : reservations_of (play given_back small) ≡ 1 ∷ 0 ∷ []
given_back-reservations = refl

-- a pin without a reservation
hasty_pin : first_refused (Pin 0 ∷ []) small ≡ Some 0
hasty_pin = refl

-- a second reservation
second_announce : first_refused (Note 0 ∷ Announce 0 ∷ Announce 0 ∷ []) small ≡ Some 2
second_announce = refl

-- a pass that has announced must pin before it can unpin
early_unpin : first_refused (Note 0 ∷ Announce 0 ∷ Unpin 0 ∷ []) small ≡ Some 2
early_unpin = refl

-- another's fresh row
foreign_write : first_refused (Take 0 1 ∷ Write 1 1 0 0 ∷ []) small ≡ Some 1
foreign_write = refl

-- row 1 links itself
twice : first_refused (pin_of_0 ++ Take 0 1 ∷ Write 0 1 0 4 ∷ Write 0 1 1 1 ∷ Publish 0 1 ∷ []) small ≡ Some 6
twice = refl

-- row 0 is live, and not fresh
stale_root : first_refused (pin_of_0 ++ Publish 0 0 ∷ []) small ≡ Some 3
stale_root = refl

-- a scan that begins in the middle
late_scan : first_refused (Look 0 1 ∷ []) small ≡ Some 0
late_scan = refl

half_scan : first_refused (first_publication ++ Look 0 0 ∷ Free 0 0 ∷ []) small ≡ Some 9
half_scan = refl

-- the reserved version is the batch's
blocked : first_refused (first_publication ++ Announce 1 ∷ Look 0 0 ∷ Look 0 1 ∷ Free 0 0 ∷ []) small ≡ Some 11
blocked = refl

beaten-allowed : first_refused beaten small ≡ None
beaten-allowed = refl

beaten-root : root_of (play beaten small) ≡ 1 ∷ 1 ∷ []
beaten-root = refl

beaten-owners : owners_of (play beaten small) ≡ 1 ∷ 1 ∷ 0 ∷ 0 ∷ []
beaten-owners = refl

beaten-reservations : reservations_of (play beaten small) ≡ 1 ∷ 1 ∷ []
beaten-reservations = refl

-- a free row
foreign_read : first_refused (pin_of_0 ++ Read 0 1 0 ∷ []) small ≡ Some 3
foreign_read = refl

-- a row that is not there
no_row : first_refused (Take 0 4 ∷ []) small ≡ Some 0
no_row = refl
