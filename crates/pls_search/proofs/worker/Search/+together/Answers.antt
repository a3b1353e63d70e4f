use Rattle.std.proofs.Common.{◌≡◌, ◌+◌, ◌∷◌, [], vec_len, ap, sym, subst, ◌∙◌, arith, rules}
use Rattle.pls_pool.specs.DeskSeats.{tally_of}
use Rattle.pls_pool.specs.declared.tally.Tally.{Tally}
use Rattle.pls_search.specs.Crews.{Holds, HasDeparted}
use Rattle.pls_search.specs.Leaving.{IsUnhalted, Leaves}
use Rattle.pls_search.specs.Seats.{hands_of}
use Rattle.pls_search.proofs.Gathered.{IsNewWorker-made}
use Rattle.pls_search.proofs.Joining.{fresh-departed, fresh-joined, IsShown-departed, Holds-departed, Holds-joined}
use Rattle.pls_search.proofs.Leavings.{Leaves-departed, Leaves-joined}
use Rattle.pls_search.proofs.Numbers.{numbers-apart, numbers-length}
use Rattle.pls_search.proofs.worker.Search.+together.Goals.{in-Ok, in-Err}
use Rattle.pls_search.proofs.worker.Search.+together.Goals as goal

pub returns-in_default : goal.returns-in_default
returns-in_default g t c =
    let s = c.args.self.now in
    let left = c.depart.result in
    let departed = c.depart.ensures in
    let ready = c.requires.ready in
    let one : 1 ≡ vec_len c.args.crew.passes + 1 = omega (arith, c.in_default.ensures.count) in
    record {
      holds = subst (λ n. Holds g.A.Shared g.A.Law.Rule g.P.Pool s n left.worker) one (Holds-departed g.A.Shared g.A.Law.Rule g.P.Pool s 1 c.args.first left departed ready.first_holds);
      fresh = fresh-departed _ s.instance.now _ left.end _ _ departed.departs ready.fresh;
      shown = IsShown-departed g.A.Shared g.A.Law.Rule g.P.Pool s c.args.first left departed ready.unfull;
      leaves = λ starts set.
          subst (λ n. Leaves IsUnhalted s.instance.now starts n left.end (hands_of g.A.Shared g.P.Pool left.worker)) one
          (Leaves-departed _ s.instance.now starts _ 1 _ _ tt left.end departed.departs set);
    }

pub take_over-requires-clause-apart : goal.take_over-requires-clause-apart
take_over-requires-clause-apart g t c κs within =
    let next : (g.P.Pool.account c.match-started.other.worker.pool_seat).numbers ≡ vec_len c.args.crew.passes ∷ [] = search rules in
    numbers-apart _ _ _ _ c.in-Some.ensures.count c.together-left.ensures.holds.numbers next

pub take_over-requires-clause-few : goal.take_over-requires-clause-few
take_over-requires-clause-few g t c κs within =
    let next : (g.P.Pool.account c.match-started.other.worker.pool_seat).numbers ≡ vec_len c.args.crew.passes ∷ [] = search rules in
    let long = numbers-length _ _ _ _ c.in-Some.ensures.count c.together-left.ensures.holds.numbers next in
    omega (arith, long, c.requires.ready.seats)

pub returns : goal.returns
returns g t c =
    let s = c.args.self.now in
    let i = s.instance.now in
    let n = vec_len c.args.crew.passes in
    let new = c.in-Some.other in
    let is = c.in-Some.ensures.worker in
    let count = c.in-Some.ensures.count in
    let first = c.together-left.result in
    let other = c.match-started.other in
    let after = c.take_over.result in
    let departed : HasDeparted g.A.Shared g.A.Law.Rule g.P.Pool s new other = elim c.match-started.branch [
      | in-Ok w ↦ search rules
      | in-Err w ↦ search rules
    ] in
    let goes = departed.departs.goes_on in
    let joins = c.take_over.ensures.joins in
    let tally = is.desk_seat.tally in
    let share = ap (λ (x : Tally). x.share) tally in
    let is_new = IsNewWorker-made (hands_of g.A.Shared g.P.Pool new) _ _ _ _ is.pass.2 is.pool_seat.1 tally is.uncounted.0 is.uncounted.1 in
    record {
      holds =
          Holds-joined g.A.Shared g.A.Law.Rule g.P.Pool s _ n first.worker other.worker after.worker count c.together-left.ensures.holds
          (goes.numbers ∙ is.pool_seat.1.numbers) (goes.share ∙ share) joins c.take_over.ensures.seated c.take_over.ensures.lists;
      fresh =
          fresh-joined first.end other.end after.end (tally_of first.worker.desk_seat) (tally_of other.worker.desk_seat) (tally_of after.worker.desk_seat)
          c.take_over.ensures.end joins.tallies c.together-left.ensures.fresh (fresh-departed _ i _ other.end _ _ departed.departs (search rules));
      shown = c.take_over.ensures.shown;
      leaves = λ starts set.
          let before = subst (λ k. Leaves IsUnhalted i starts k first.end (hands_of g.A.Shared g.P.Pool first.worker)) count (c.together-left.ensures.leaves starts set) in
          subst (λ end. Leaves IsUnhalted i starts (n + 1) end (hands_of g.A.Shared g.P.Pool after.worker)) (sym c.take_over.ensures.end)
          (Leaves-joined _ i starts _ n _ _ _ _ is_new is.pass.2 (ap (λ (x : Tally). x.halts) tally) joins first.end other.end departed.departs before);
    }
