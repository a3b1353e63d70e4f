-- Sequential runs from a start among five points, with their calls, replies and counts, computed.
use Rattle.std.proofs.Common.{◌≡◌, ℕ, pos, ◌==◌, true, false, List, [], ◌∷◌, map, get_or, nat_abs, if◌then◌else◌, refl}
use Rattle.pls_vectors.specs.Solution.{no_items}
use Rattle.pls_archive.specs.declared.point.Point.{Point}
use Rattle.pls_archive.specs.declared.call.Call.{Call}
use Rattle.pls_archive.specs.declared.call.Call.TheVariants.{Update, Member, Snapshot}
use Rattle.pls_archive.specs.declared.call.Reply.{Reply}
use Rattle.pls_archive.specs.declared.call.Reply.TheVariants.{Added, Refused, Yes, No, Points}
use Rattle.pls_archive.specs.Reply.{nondominated}
use Rattle.pls_archive.specs.Explorations.{CallerRun, entries_of_run, explored_tasks, is_whole, explored, evaluated, accepted_count}
use Rattle.pls_archive.specs.Sequential.{sequential_run}

-- the sets of items that fit among three of weights 2, 3 and 4 under a capacity of 5, by their profits
abbrev point : ℕ → ℕ → Point
point x y = record { value = pos x ∷ pos y ∷ []; sol = no_items 3 }

abbrev none : Point
none = point 0 0

abbrev first : Point
first = point 3 1

abbrev second : Point
second = point 1 3

abbrev third : Point
third = point 2 2

abbrev two : Point
two = point 4 4

-- an item is put in, taken out, or exchanged for another
abbrev neighbours_at : ℕ → List Point
neighbours_at n =
    if n == 0 then first ∷ second ∷ third ∷ []
    else if n == 1 then two ∷ none ∷ first ∷ third ∷ []
    else if n == 2 then none ∷ first ∷ second ∷ []
    else if n == 3 then none ∷ two ∷ second ∷ third ∷ []
    else second ∷ first ∷ []

abbrev near : Point → List Point
near p = neighbours_at (nat_abs (get_or p.value 0 (pos 0)))

abbrev run : List Point → ℕ → CallerRun
run starts moves = sequential_run nondominated near starts moves

abbrev calls : CallerRun → List Call
calls r = map (λ e. e.call) (entries_of_run r)

abbrev replies : CallerRun → List Reply
replies r = map (λ e. e.reply) (entries_of_run r)

abbrev stamps : CallerRun → List ℕ
stamps r = map (λ e. e.stamp) (entries_of_run r)

abbrev counts : CallerRun → ℕ × ℕ × ℕ
counts r = (explored near (r ∷ []), evaluated (r ∷ []), accepted_count (r ∷ []))

-- a million moves are more than are due: the run ends closed, with the one point that dominates all others
abbrev long : CallerRun
long = run (third ∷ []) 1_000_000

calls-long :
    calls long
    ≡ Update third
    ∷ Member third.value ∷ Update none ∷ Update first ∷ Update second
    ∷ Member first.value ∷ Update none ∷ Update two ∷ Update second ∷ Update third
    ∷ Member second.value
    ∷ Member two.value ∷ Update second ∷ Update first
    ∷ Snapshot ∷ []
calls-long = refl

replies-long :
    replies long
    ≡ Added 0
    ∷ Yes ∷ Refused ∷ Added 0 ∷ Added 0
    ∷ Yes ∷ Refused ∷ Added 3 ∷ Refused ∷ Refused
    ∷ No
    ∷ Yes ∷ Refused ∷ Refused
    ∷ Points (two ∷ []) ∷ []
replies-long = refl

stamps-long : stamps long ≡ 1 ∷ 1 ∷ 1 ∷ 2 ∷ 3 ∷ 3 ∷ 3 ∷ 4 ∷ 4 ∷ 4 ∷ 4 ∷ 4 ∷ 4 ∷ 4 ∷ 4 ∷ []
stamps-long = refl

-- the accepted points are explored in order of acceptance, the skipped one too
tasks-long :
    explored_tasks (long ∷ [])
    ≡ record { point = third; stamp = 1 } ∷ record { point = first; stamp = 2 } ∷ record { point = second; stamp = 3 }
    ∷ record { point = two; stamp = 4 } ∷ []
tasks-long = refl

counts-long : counts long ≡ (3, 9, 4)
counts-long = refl

whole-long : map (is_whole near) long.explorations ≡ true ∷ true ∷ true ∷ true ∷ []
whole-long = refl

-- nine moves are just enough, and eight are one too few
nine : run (third ∷ []) 9 ≡ long
nine = refl

counts-eight : counts (run (third ∷ []) 8) ≡ (2, 8, 4)
counts-eight = refl

whole-eight : map (is_whole near) (run (third ∷ []) 8).explorations ≡ true ∷ true ∷ true ∷ false ∷ []
whole-eight = refl

-- three moves do for the first exploration; the second is cut before its first neighbour
calls-three :
    calls (run (third ∷ []) 3)
    ≡ Update third ∷ Member third.value ∷ Update none ∷ Update first ∷ Update second ∷ Member first.value ∷ Snapshot ∷ []
calls-three = refl

replies-three :
    replies (run (third ∷ []) 3)
    ≡ Added 0 ∷ Yes ∷ Refused ∷ Added 0 ∷ Added 0 ∷ Yes ∷ Points (second ∷ third ∷ first ∷ []) ∷ []
replies-three = refl

counts-three : counts (run (third ∷ []) 3) ≡ (1, 3, 3)
counts-three = refl

-- without moves the question alone is asked
calls-none : calls (run (third ∷ []) 0) ≡ Update third ∷ Member third.value ∷ Snapshot ∷ []
calls-none = refl

counts-none : counts (run (third ∷ []) 0) ≡ (0, 0, 1)
counts-none = refl

-- of two starts with one value the second is refused; of a start that another one removed, the exploration is skipped
replies-starts :
    replies (run (second ∷ second ∷ two ∷ []) 1)
    ≡ Added 0 ∷ Refused ∷ Added 1 ∷ No ∷ Yes ∷ Refused ∷ Points (two ∷ []) ∷ []
replies-starts = refl

counts-starts : counts (run (second ∷ second ∷ two ∷ []) 1) ≡ (0, 1, 2)
counts-starts = refl

-- without starts the archive is asked for its members alone
calls-nowhere : calls (run [] 5) ≡ Snapshot ∷ []
calls-nowhere = refl
