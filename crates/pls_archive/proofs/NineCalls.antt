-- Nine calls on a new archive, with the replies and the stamps that are due, computed.
use Rattle.std.proofs.Common.{◌≡◌, ℕ, ℤ, pos, List, [], ◌∷◌, map, fold, refl}
use Rattle.pls_vectors.specs.Solution.{no_items}
use Rattle.pls_archive.specs.declared.point.Point.{Point}
use Rattle.pls_archive.specs.declared.call.Call.{Call}
use Rattle.pls_archive.specs.declared.call.Call.TheVariants.{Update, Covered, Member, Snapshot}
use Rattle.pls_archive.specs.declared.call.Reply.TheVariants.{Added, Refused, Yes, No, Points}
use Rattle.pls_archive.specs.declared.call.Entry.{Entry}
use Rattle.pls_archive.specs.History.{with_call}
use Rattle.pls_archive.specs.Reply.{nondominated}

-- Nine calls on a new archive, with the replies and stamps that are due.

abbrev pub two_parts : ℕ → ℕ → List ℤ
two_parts x y = pos x ∷ pos y ∷ []

-- a point with a solution among n items
abbrev pub point : ℕ → ℕ → ℕ → Point
point x y n = record { value = two_parts x y; sol = no_items n }

abbrev nine_calls : List Call
nine_calls =
    Update (point 1 3 1) ∷ Update (point 3 1 1) ∷ Update (point 2 2 1) ∷ Update (point 2 2 2) ∷ Update (point 3 3 1)
    ∷ Covered (two_parts 2 1) ∷ Member (two_parts 2 2) ∷ Member (two_parts 3 3) ∷ Snapshot ∷ []

abbrev history : List Entry
history = fold (λ entries call. with_call nondominated 0 entries call) [] nine_calls

replies-nine_calls :
    map (λ e. e.reply) history
    ≡ Added 0 ∷ Added 0 ∷ Added 0 ∷ Refused ∷ Added 3 ∷ Yes ∷ No ∷ Yes ∷ Points (point 3 3 1 ∷ []) ∷ []
replies-nine_calls = refl

stamps-nine_calls : map (λ e. e.stamp) history ≡ 1 ∷ 2 ∷ 3 ∷ 3 ∷ 4 ∷ 4 ∷ 4 ∷ 4 ∷ 4 ∷ []
stamps-nine_calls = refl
