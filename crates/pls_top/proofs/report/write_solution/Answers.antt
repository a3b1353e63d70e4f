use Rattle.std.proofs.Common.{string_bytes, sym, ◌∙◌, ap, arith}
use Rattle.pls_top.proofs.Joined.{number_written, nothing_shown, solution_written, no_solution_written}
use Rattle.pls_top.proofs.report.write_solution.Goals as goal
use Rattle.pls_top.proofs.report.write_solution.Goals.{in-Some+in_ok-push_word, in_default}

pub loop-place-preserved : goal.loop-place-preserved
loop-place-preserved c =
    elim c.match-shown_at.branch [
      | in-Some+in_ok-push_word w ↦
          number_written c.args.instance.now c.args.sol.now (string_bytes c.args.text.now) (string_bytes c.loop-place.text) c.loop-place.any
          c.loop-place.place c.loop-place.invariant (string_bytes c.match-shown_at.text) c.match-shown_at.any
          _ (sym w.in-Some.is ∙ c.shown_at.ensures) (ap string_bytes w.text-is ∙ w.in_ok-push_word.ensures) w.any-is
      | in_default w ↦
          nothing_shown c.args.instance.now c.args.sol.now (string_bytes c.args.text.now) (string_bytes c.loop-place.text) c.loop-place.any
          c.loop-place.place c.loop-place.invariant (string_bytes c.match-shown_at.text) c.match-shown_at.any
          (sym w.in_default.is ∙ c.shown_at.ensures) (ap string_bytes w.text-is) w.any-is
    ]

pub returns-in_ok-push_str : goal.returns-in_ok-push_str
returns-in_ok-push_str c =
    no_solution_written c.args.instance.now c.args.sol.now (string_bytes c.args.text.now) (string_bytes c.loop-place.text)
    (string_bytes c.push_str.new.self) c.loop-place.any c.loop-place.place c.loop-place.invariant (omega arith) c.if-not-any.true
    c.in_ok-push_str.ensures.bytes

pub returns-else-not-any : goal.returns-else-not-any
returns-else-not-any c =
    solution_written c.args.instance.now c.args.sol.now (string_bytes c.args.text.now) (string_bytes c.loop-place.text)
    c.loop-place.any c.loop-place.place c.loop-place.invariant (omega arith) c.if-not-any.false
