use Rattle.std.proofs.Common.{◌≡◌, ◌≤◌, ◌<◌, ℕ, nat_le, Bool, true, false, ◌&&◌, [], ◌∷◌, refl, subst, arith, rules, le-leb}
use Rattle.std.proofs.lemmas.Bool.{leb-true}
use Rattle.pls_archive.specs.declared.call.Call.TheVariants.{Member}
use Rattle.pls_archive.specs.declared.call.Entry.{Entry}
use Rattle.pls_archive.specs.Archives.{yes_or_no}
use Rattle.pls_archive.specs.Explorations.{is_no, skips}
use Rattle.pls_pool.specs.DeskSeats.{tally_of}
use Rattle.pls_search.specs.Workers.{task_of, hands, Did}
use Rattle.pls_search.specs.Seats.{hands_of}
use Rattle.pls_search.specs.Steps.{UnlessMemory, ExploresTask}
use Rattle.pls_search.proofs.Moments.{SameCounts-self, Did-entries, Did-counted}
use Rattle.pls_search.proofs.Neighbourhoods.{ExploresTask-skipped, ExploresTask-due, ExploresTask-cut}
use Rattle.pls_search.proofs.worker.Search.submit_due.Goals.{else-not-is_member-via-then-not-is_member+else-task-stamp, else-not-is_member-via-else-not-is_member}
use Rattle.pls_search.proofs.worker.Search.submit_due.Goals as goal

-- a point that is no member is skipped, unless the answer is older than the task
skips-late : (b : Bool) (n m : ℕ) → b ≡ false → n ≤ m → (is_no (yes_or_no b) && nat_le n m) ≡ true
skips-late true n m none late = cc
skips-late false n m none late = le-leb n m late

keeps-member : (b : Bool) (n m : ℕ) → b ≡ true → (is_no (yes_or_no b) && nat_le n m) ≡ false
keeps-member true n m is = refl
keeps-member false n m is = cc

keeps-early : (b : Bool) (n m : ℕ) → m < n → (is_no (yes_or_no b) && nat_le n m) ≡ false
keeps-early true n m early = refl
keeps-early false n m early = not_late (nat_le n m) (λ (is : nat_le n m ≡ true). let late = leb-true n m is in omega (arith, late, early))
  where
    not_late : (b : Bool) → (b ≡ true → ⊥) → b ≡ false
    not_late true not_true = absurd (not_true refl)
    not_late false not_true = refl

pub returns-then-task-stamp-clause-explores : goal.returns-then-task-stamp-clause-explores
returns-then-task-stamp-clause-explores g c =
    let before = hands_of g.A.Shared g.P.Pool c.args.worker.now in
    let after = hands (g.A.Shared.view c.member-is_member.new.pass) (g.P.Pool.account c.args.worker.now.pool_seat) (tally_of c.args.worker.now.desk_seat) c.args.worker.now.explored c.args.worker.now.evaluated in
    let t = task_of c.args.task.now in
    let answer = c.member-is_member.result in
    let asked : Entry = record { caller = before.view.number; stamp = answer.1; call = Member t.point.value; reply = yes_or_no answer.0 } in
    let did : Did (asked ∷ []) [] 0 0 0 0 0 before after = Did-entries (asked ∷ []) before after refl c.member-is_member.ensures.answers.extends.own refl (SameCounts-self before.tally) refl refl in
    ExploresTask-skipped c.args.self.now.instance.now t asked refl before after (skips-late answer.0 t.stamp answer.1 c.if-not-is_member.true c.if-task-stamp.true) did

pub returns-clause-explores : goal.returns-clause-explores
returns-clause-explores g c =
    let before = hands_of g.A.Shared g.P.Pool c.args.worker.now in
    let between = hands (g.A.Shared.view c.member-is_member.new.pass) (g.P.Pool.account c.args.worker.now.pool_seat) (tally_of c.args.worker.now.desk_seat) c.args.worker.now.explored c.args.worker.now.evaluated in
    let after = hands_of g.A.Shared g.P.Pool c.submit_neighbours.new.worker in
    let t = task_of c.args.task.now in
    let answer = c.member-is_member.result in
    let asked : Entry = record { caller = before.view.number; stamp = answer.1; call = Member t.point.value; reply = yes_or_no answer.0 } in
    let did : Did (asked ∷ []) [] 0 0 0 0 0 before between = Did-entries (asked ∷ []) before between refl c.member-is_member.ensures.answers.extends.own refl (SameCounts-self before.tally) refl refl in
    let keeps : skips t asked ≡ false = elim c.else-not-is_member.branch [
      | else-not-is_member-via-then-not-is_member+else-task-stamp w ↦ keeps-early answer.0 t.stamp answer.1 w.if-task-stamp.false
      | else-not-is_member-via-else-not-is_member w ↦ keeps-member answer.0 t.stamp answer.1 w.if-not-is_member.false
    ] in
    ExploresTask-due c.args.self.now.instance.now t asked refl before between after _ false false keeps did c.in_ok-submit_neighbours.ensures.submits
    (Did-counted after _ (search rules))

pub returns-in_err-submit_neighbours-clause-explores : goal.returns-in_err-submit_neighbours-clause-explores
returns-in_err-submit_neighbours-clause-explores g c =
    let before = hands_of g.A.Shared g.P.Pool c.args.worker.now in
    let between = hands (g.A.Shared.view c.member-is_member.new.pass) (g.P.Pool.account c.args.worker.now.pool_seat) (tally_of c.args.worker.now.desk_seat) c.args.worker.now.explored c.args.worker.now.evaluated in
    let after = hands_of g.A.Shared g.P.Pool c.submit_neighbours.new.worker in
    let t = task_of c.args.task.now in
    let answer = c.member-is_member.result in
    let asked : Entry = record { caller = before.view.number; stamp = answer.1; call = Member t.point.value; reply = yes_or_no answer.0 } in
    let did : Did (asked ∷ []) [] 0 0 0 0 0 before between = Did-entries (asked ∷ []) before between refl c.member-is_member.ensures.answers.extends.own refl (SameCounts-self before.tally) refl refl in
    let keeps : skips t asked ≡ false = elim c.else-not-is_member.branch [
      | else-not-is_member-via-then-not-is_member+else-task-stamp w ↦ keeps-early answer.0 t.stamp answer.1 w.if-task-stamp.false
      | else-not-is_member-via-else-not-is_member w ↦ keeps-member answer.0 t.stamp answer.1 w.if-not-is_member.false
    ] in
    let i = c.args.self.now.instance.now in
    let end = c.submit_neighbours.result in
    let same : end ≡ c.from_residual.result = search rules in
    subst (λ e. UnlessMemory e (ExploresTask i t 0 before after)) same
    (ExploresTask-cut i t asked refl before between after end _ c.in_err-submit_neighbours.was keeps did c.submit_neighbours.ensures.submits)
