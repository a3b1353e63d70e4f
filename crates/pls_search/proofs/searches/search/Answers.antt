use Rattle.std.proofs.Common.{rules, arith, ℕ, ◌^◌, ◌≤◌, List, sym, subst, ◌∙◌, length, map}
use Rattle.std.proofs.lemmas.List.{length-map}
use Rattle.pls_vectors.specs.Solution.{Solution}
use Rattle.pls_pool.specs.DeskSeats.{IsNewDeskSeat}
use Rattle.pls_problem.specs.declared.instance.Instance.{Instance}
use Rattle.pls_search.specs.Leaving.{IsUnhalted, Leaves}
use Rattle.pls_search.specs.Neighbours.{point_of}
use Rattle.pls_search.specs.Seats.{IsNewPass, IsNewSeat, hands_of}
use Rattle.pls_search.specs.Teams.{IsSmall}
use Rattle.pls_search.proofs.Crews.{Seated-from}
use Rattle.pls_search.proofs.Room.{room-found}
use Rattle.pls_search.proofs.searches.search.Goals as goal

pub first_of-first-requires-clause-crew : goal.first_of-first-requires-clause-crew
first_of-first-requires-clause-crew g c κs within = record {
  few = c.requires.count.1;
  even = (c.requires.even.0, c.requires.even.2);
  passes = Seated-from (IsNewPass g.A.Shared g.P.Pool c.args.archive.now) c.args.passes.items c.requires.new_passes;
  pool_seats = Seated-from (IsNewSeat g.A.Shared g.P.Pool c.args.pool.now) c.args.seats.items c.requires.new_seats;
  desk_seats = Seated-from (λ k t. IsNewDeskSeat c.args.desk.now t) c.args.desk_seats.items c.requires.new_desk_seats;
}

-- few enough for the counts at the desk
module _ (i : Instance) (starts : List Solution) (moves : ℕ) where
  small : length starts ≤ 64 → moves ≤ 10 ^ 9 → IsSmall (map (point_of i) starts) moves
  small few_starts few_moves = record { few_starts = omega (arith, length-map starts (point_of i), few_starts); few_moves = few_moves }

pub returns-in-Ok : goal.returns-in-Ok
returns-in-Ok g c =
    let i = c.args.instance.now in
    let starts = map (point_of i) c.args.starts.now in
    let moves = c.args.desk.now.moves in
    let left = c.spread-left.result in
    let back = c.finish.ensures.back in
    let all = c.first_of-first.ensures.count ∙ sym c.requires.count.2 in
    let leaves =
    subst (λ n. Leaves IsUnhalted i starts n left.end (hands_of g.A.Shared g.P.Pool left.worker)) all
    (c.spread-left.ensures.leaves starts c.in-Ok.ensures.ready.2) in
    let found = c.finish.ensures.found starts (small i c.args.starts.now moves c.requires.starts.2 (search rules)) leaves in
    record {
      found = found;
      pass = back.pass;
      full = back.full;
      room = room-found g.A.Shared g.A.Law.Rule g.P.Pool c.args.starts.now c.finish.result found back;
      no_memory = back.no_memory;
    }

pub returns-in-Err : goal.returns-in-Err
returns-in-Err g c =
    let i = c.args.instance.now in
    let starts = map (point_of i) c.args.starts.now in
    let moves = c.args.desk.now.moves in
    let back = c.give_up.ensures.back in
    let found =
    c.give_up.ensures.found starts (small i c.args.starts.now moves c.requires.starts.2 (search rules))
    (λ other. (c.in-Err.ensures.lacks other).2) in
    record {
      found = found;
      pass = back.pass;
      full = back.full;
      room = room-found g.A.Shared g.A.Law.Rule g.P.Pool c.args.starts.now c.give_up.result found back;
      no_memory = back.no_memory;
    }
