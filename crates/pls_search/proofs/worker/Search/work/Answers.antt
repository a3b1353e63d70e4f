use Rattle.std.proofs.Common.{rules, ◌≡◌, false, [], ◌∷◌, ap, refl, sym, subst, ◌∙◌}
use Rattle.std.proofs.lemmas.List.{append-nil}
use Rattle.pls_pool.specs.declared.tally.Tally.{Tally}
use Rattle.pls_search.specs.Workers.{task_of, Did}
use Rattle.pls_search.specs.Seats.{hands_of}
use Rattle.pls_search.specs.Onwards.{ExploresOn}
use Rattle.pls_search.specs.Steps.{UnlessMemory}
use Rattle.pls_search.proofs.Moments.{SameCounts-self, SameCounts-found, Did-none, Did-nothing, Did-after, Did-took, GoesOn-seats, GoesOn-then}
use Rattle.pls_search.proofs.Keeping.{fine, Keeps-seats, Keeps-self, Keeps-then}
use Rattle.pls_search.proofs.Turns.{ExploresOn-taken, ExploresOn-took, ExploresOn-then, ExploresOn-by_end}
use Rattle.pls_search.specs.InLine.{ExploresInLine}
use Rattle.pls_search.proofs.Lining.{ExploresInLine-idle, ExploresInLine-then, ExploresInLine-took, ExploresInLine-by_end}
use Rattle.pls_search.proofs.worker.Search.work.Goals as goal

pub loop-init : goal.loop-init
loop-init g c =
    let start = hands_of g.A.Shared g.P.Pool c.args.worker.now in
    record {
      explores = ExploresOn-taken c.args.self.now.instance.now start start [] (Did-none start);
      keeps = Keeps-self g.A.Shared g.A.Law.Rule g.P.Pool c.args.self.now c.args.worker.now c.requires.seated;
      fresh = c.requires.fresh;
      in_line = λ one. ExploresInLine-idle c.args.self.now.instance.now start start refl refl (SameCounts-self start.tally) refl refl;
    }

pub loop-preserved-in-Continue-1 : goal.loop-preserved-in-Continue-1
loop-preserved-in-Continue-1 g c =
    let i = c.args.self.now.instance.now in
    let first = hands_of g.A.Shared g.P.Pool c.args.worker.now in
    let now = hands_of g.A.Shared g.P.Pool c.loop.worker in
    let mid = record c.loop.worker { pool_seat = c.take.new.seat; desk_seat = c.halted.new.seat } in
    let between = hands_of g.A.Shared g.P.Pool mid in
    let after = hands_of g.A.Shared g.P.Pool c.take_up.new.worker in
    let so_far = c.loop.invariant in
    let task = c.in-Some-take.task in
    let takes = c.in-Some-take.ensures.taken in
    let looked = c.halted.ensures.tally in
    let took : Did [] (task_of task ∷ []) 0 0 0 0 0 now between = Did-took _ task now between refl takes (SameCounts-found _ now.tally between.tally looked) refl refl in
    let goes = GoesOn-seats _ _ [] now between refl takes.same_numbers (ap (λ (t : Tally). t.share) looked) (ap (λ (t : Tally). t.halts) looked ∙ sym (append-nil now.tally.halts)) in
    let kept = Keeps-seats g.A.Shared g.A.Law.Rule g.P.Pool c.args.self.now c.loop.worker mid refl (search rules) goes in
    let turn = c.in_ok-take_up-in-Some-take.ensures in
    record {
      explores = ExploresOn-then i false false first now after so_far.explores (ExploresOn-took i (task_of task) now between after took false false turn.takes_up);
      keeps =
          Keeps-then g.A.Shared g.A.Law.Rule g.P.Pool c.args.self.now {causes = []} {end = fine} c.args.worker.now c.loop.worker c.take_up.new.worker so_far.keeps
          (Keeps-then g.A.Shared g.A.Law.Rule g.P.Pool c.args.self.now {causes = []} {end = fine} c.loop.worker mid c.take_up.new.worker kept turn.keeps);
      in_line = λ one.
          ExploresInLine-then i first now after false false (so_far.in_line one)
          (ExploresInLine-took i task now between after refl took (takes.waits one) false false turn.takes_up (turn.in_order (λ e. cc) one));
      fresh = search rules;
    }

pub returns-in_err-take_up-in-Some-take : goal.returns-in_err-take_up-in-Some-take
returns-in_err-take_up-in-Some-take g c =
    let i = c.args.self.now.instance.now in
    let first = hands_of g.A.Shared g.P.Pool c.args.worker.now in
    let now = hands_of g.A.Shared g.P.Pool c.loop.worker in
    let mid = record c.loop.worker { pool_seat = c.take.new.seat; desk_seat = c.halted.new.seat } in
    let between = hands_of g.A.Shared g.P.Pool mid in
    let after = hands_of g.A.Shared g.P.Pool c.take_up.new.worker in
    let so_far = c.loop.invariant in
    let task = c.in-Some-take.task in
    let takes = c.in-Some-take.ensures.taken in
    let took : Did [] (task_of task ∷ []) 0 0 0 0 0 now between =
    Did-took _ task now between refl takes (SameCounts-found _ now.tally between.tally c.halted.ensures.tally) refl refl in
    let end = c.take_up.result in
    let same : end ≡ c.from_residual.result = search rules in
    record {
      explores =
          subst (λ e. UnlessMemory e (λ spent full. ExploresOn i spent full first after)) same
          (ExploresOn-by_end i (task_of task) now between after took first end so_far.explores c.take_up.ensures.takes_up);
      keeps = search rules;
      left = search rules;
      in_line = λ one.
          subst (λ e. UnlessMemory e (ExploresInLine i first after)) same
          (ExploresInLine-by_end i task now between after refl took (takes.waits one) first end (so_far.in_line one) c.take_up.ensures.takes_up
          (λ some. c.take_up.ensures.in_order some one));
    }

pub returns-then-halted-clause-in_line : goal.returns-then-halted-clause-in_line
returns-then-halted-clause-in_line g c =
    let i = c.args.self.now.instance.now in
    let first = hands_of g.A.Shared g.P.Pool c.args.worker.now in
    let now = hands_of g.A.Shared g.P.Pool c.loop.worker in
    let after = hands_of g.A.Shared g.P.Pool (record c.loop.worker { desk_seat = c.halted.new.seat }) in
    λ one.
    ExploresInLine-then i first now after false false (c.loop.invariant.in_line one)
    (ExploresInLine-idle i now after refl refl (SameCounts-found _ now.tally after.tally c.halted.ensures.tally) refl refl)

pub returns-then-quiet-clause-in_line : goal.returns-then-quiet-clause-in_line
returns-then-quiet-clause-in_line g c =
    let i = c.args.self.now.instance.now in
    let first = hands_of g.A.Shared g.P.Pool c.args.worker.now in
    let now = hands_of g.A.Shared g.P.Pool c.loop.worker in
    let between = hands_of g.A.Shared g.P.Pool (record c.loop.worker { pool_seat = c.take.new.seat; desk_seat = c.halted.new.seat }) in
    let after = hands_of g.A.Shared g.P.Pool (record c.loop.worker { pool_seat = c.take.new.seat; desk_seat = c.quiet.new.seat }) in
    λ one.
    ExploresInLine-then i first now after false false (c.loop.invariant.in_line one)
    (ExploresInLine-then i now between after false false
    (ExploresInLine-idle i now between refl c.in-None-take.ensures.taken.same (SameCounts-found _ now.tally between.tally c.halted.ensures.tally) refl refl)
    (ExploresInLine-idle i between after refl refl (SameCounts-found _ between.tally after.tally c.quiet.ensures.tally) refl refl))

-- no task was found, and the desk is not quiet
pub loop-preserved : goal.loop-preserved
loop-preserved g c =
    let i = c.args.self.now.instance.now in
    let first = hands_of g.A.Shared g.P.Pool c.args.worker.now in
    let now = hands_of g.A.Shared g.P.Pool c.loop.worker in
    let between = hands_of g.A.Shared g.P.Pool (record c.loop.worker { pool_seat = c.take.new.seat; desk_seat = c.halted.new.seat }) in
    let last = record c.loop.worker { pool_seat = c.take.new.seat; desk_seat = c.quiet.new.seat } in
    let after = hands_of g.A.Shared g.P.Pool last in
    let so_far = c.loop.invariant in
    let looked = c.halted.ensures.tally in
    let again = c.quiet.ensures.tally in
    let same = c.in-None-take.ensures.taken.same in
    let one_look = SameCounts-found _ now.tally between.tally looked in
    let other_look = SameCounts-found _ between.tally after.tally again in
    let did : Did [] [] 0 0 0 0 0 now after = Did-after (Did-nothing now between refl same one_look refl refl) (Did-nothing between after refl refl other_look refl refl) in
    let goes = GoesOn-seats _ _ [] now between refl (ap (λ a. a.numbers) same) (ap (λ (t : Tally). t.share) looked) (ap (λ (t : Tally). t.halts) looked ∙ sym (append-nil now.tally.halts)) in
    let goes_then = GoesOn-seats _ _ [] between after refl refl (ap (λ (t : Tally). t.share) again) (ap (λ (t : Tally). t.halts) again ∙ sym (append-nil between.tally.halts)) in
    let kept =
    Keeps-seats g.A.Shared g.A.Law.Rule g.P.Pool c.args.self.now c.loop.worker last refl (search rules)
    (GoesOn-then _ _ {first = now} {between = between} {last = after} refl goes goes_then) in
    record {
      explores = ExploresOn-then i false false first now after so_far.explores (ExploresOn-taken i now after [] did);
      keeps = Keeps-then g.A.Shared g.A.Law.Rule g.P.Pool c.args.self.now {causes = []} {end = fine} c.args.worker.now c.loop.worker last so_far.keeps kept;
      fresh = search rules;
      in_line = λ one.
          ExploresInLine-then i first now after false false (so_far.in_line one)
          (ExploresInLine-then i now between after false false (ExploresInLine-idle i now between refl same one_look refl refl)
          (ExploresInLine-idle i between after refl refl other_look refl refl));
    }
