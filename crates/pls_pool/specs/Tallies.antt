-- What each step of the desk adds to what a seat has done.
use Rattle.std.specs.Prelude.{ℕ, ◌+◌, ◌-◌, nat_lt, ◌==◌, if◌then◌else◌, [], ◌∷◌, ◌++◌}
use Rattle.pls_pool.specs.declared.cause.Cause.{Cause}
use Rattle.pls_pool.specs.declared.cause.Cause.TheVariants as causes
use Rattle.pls_pool.specs.declared.cause.Draw.{Draw}
use Rattle.pls_pool.specs.declared.cause.Draw.TheVariants.{Go, Spent}
use Rattle.pls_pool.specs.declared.tally.Tally.{Tally}

-- a seat that holds so many seats, none of which has done anything
abbrev pub started : ℕ → ℕ → ℕ → Tally
started moves seats share = record { moves = moves; seats = seats; share = share; opened = 0; done = 0; draws = 0; goes = 0; halts = []; found = 0 }

-- a seat that was joined into another
abbrev pub spent : Tally
spent = started 0 0 0

abbrev pub giving : Tally → Tally
giving v = record v { share = v.share - 1 }

abbrev pub opening : Tally → Tally
opening v = record v { opened = v.opened + 1 }

abbrev pub closing : Tally → Tally
closing v = record v { done = v.done + 1 }

-- a draw found this number of moves given out before: it gives a move where that is below the moves of the desk
abbrev pub drawing : ℕ → Tally → Tally
drawing found v = record v { draws = v.draws + 1; goes = v.goes + (if nat_lt found v.moves then 1 else 0); found = found }

abbrev pub finding : ℕ → Tally → Tally
finding found v = record v { found = found }

abbrev pub halting : Cause → Tally → Tally
halting c v = record v { halts = v.halts ++ c ∷ [] }

-- what both did
abbrev pub joining : Tally → Tally → Tally
joining v w =
    record v {
      share = v.share + w.share;
      opened = v.opened + w.opened;
      done = v.done + w.done;
      draws = v.draws + w.draws;
      goes = v.goes + w.goes;
      halts = v.halts ++ w.halts;
    }

-- what a draw answers at this number
abbrev pub draw_at : ℕ → ℕ → Draw
draw_at found moves = if nat_lt found moves then Go else Spent

-- the bit of a cause in the third word
abbrev pub bit_of : Cause → ℕ
bit_of causes.Spent = 1
bit_of causes.Full = 2
bit_of causes.Memory = 4

abbrev pub cause_of : ℕ → Cause
cause_of bit = if bit == 1 then causes.Spent else if bit == 2 then causes.Full else causes.Memory
