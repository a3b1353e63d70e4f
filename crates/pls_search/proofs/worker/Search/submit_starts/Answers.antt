use Rattle.std.proofs.Common.{◌≡◌, ◌≢◌, ◌≤◌, rules, [], length, map, ap, refl, sym, subst, ◌∙◌, inr, Err}
use Rattle.pls_archive.specs.View.{View}
use Rattle.pls_pool.specs.declared.cause.Cause.TheVariants.{Memory}
use Rattle.pls_pool.specs.declared.tally.Tally.{Tally}
use Rattle.pls_search.specs.Neighbours.{point_of}
use Rattle.pls_search.specs.Seats.{hands_of}
use Rattle.pls_search.specs.Steps.{causes_of}
use Rattle.pls_search.specs.Workers.{Did, StaysInLine, GoesOn}
use Rattle.pls_search.proofs.Begun.{ready, is_full, lacking, fresh-begun, unfull-begun, on_ok, on_err}
use Rattle.pls_search.proofs.Beginning.{SubmitsStarts-by_end}
use Rattle.pls_search.proofs.Gathered.{IsNewWorker-made}
use Rattle.pls_search.proofs.Lining.{StaysInLine-same}
use Rattle.pls_search.proofs.Moments.{SameCounts-halts, Did-nothing, GoesOn-then, GoesOn-halts}
use Rattle.pls_search.proofs.Room.{room-observed}
use Rattle.pls_search.proofs.worker.Search.submit_starts.Goals as goal

pub returns : goal.returns
returns g c =
    let s = c.args.self.now in
    let i = s.instance.now in
    let starts = map (point_of i) c.args.starts.now in
    let workers = g.A.Shared.passes s.archive.now in
    let reply = g.A.Law.Rule.reply (g.A.Shared.number s.archive.now) in
    let before = hands_of g.A.Shared g.P.Pool c.args.worker.now in
    let between = hands_of g.A.Shared g.P.Pool c.submit_all-end.new.worker in
    let last = c.halt_by.new.worker in
    let after = hands_of g.A.Shared g.P.Pool last in
    let end = c.submit_all-end.result in
    let all = c.submit_all-end.ensures in
    let others = c.halt_by.ensures.others in
    let new = c.requires.new in
    let seen = new.pass.2 in
    let view = ap (λ p. g.A.Shared.view p) others.0 in
    let account = ap (λ t. g.P.Pool.account t) others.1 in
    let is_new = IsNewWorker-made before 0 0 _ _ seen new.pool_seat.1 new.desk_seat.tally new.uncounted.0 new.uncounted.1 in
    let did : Did [] [] 0 0 0 0 0 between after =
    Did-nothing between after (ap (λ (v : View). v.own) view) account
    (SameCounts-halts end between.tally after.tally c.halt_by.ensures.halts) c.halt_by.ensures.counts.0 c.halt_by.ensures.counts.1 in
    let submits = SubmitsStarts-by_end i starts before between after end all.submits did in
    let goes : GoesOn reply workers (causes_of end) before after =
    GoesOn-then reply workers {first = before} {between = between} {last = after} refl all.keeps.goes_on
    (GoesOn-halts reply workers end between after view account c.halt_by.ensures.halts) in
    let lines : end ≢ Err Memory → after.tally.seats ≡ 1 → StaysInLine before after = λ some one.
    StaysInLine-same before between after (ap (λ (v : View). v.own) view) account
    (all.in_order some (c.requires.all.0 ∙ (sym c.requires.all.1 ∙ (sym c.halt_by.ensures.desk.seats_are ∙ one)))) in
    let shows = subst (λ q. g.A.Shared.shows_full q) (sym others.0) in
    record {
      holds = search rules;
      ready =
          on_ok c.halt_by.result
          (λ u is.
          let ok = sym c.halt_by.ensures.same ∙ is in (
            fresh-begun reply i starts workers before after is_new seen u end ok submits,
            λ full. unfull-begun u end ok all.keeps.full new.pass.3 (subst (λ q. g.A.Shared.shows_full q) others.0 full),
            ready reply i starts workers before after is_new seen u end ok submits
                (subst (λ e. GoesOn reply workers (causes_of e) before after) ok goes) (ap (λ (t : Tally). t.halts) new.desk_seat.tally) new.pool_seat.1.waiting lines,
          ));
      lacks =
          on_err c.halt_by.result
          (λ cause is other.
          let full = is_full i starts before after end cause (sym c.halt_by.ensures.same ∙ is) submits other in (
            shows (all.keeps.full.1 (inr full)),
            subst (λ (v : View). g.A.Shared.safe s.archive.now ≤ length v.observed) (sym view) (room-observed _ _ (all.keeps.room full)),
            lacking reply i starts workers before after is_new seen end _ full submits goes new.pool_seat.1.waiting lines,
          ));
    }
