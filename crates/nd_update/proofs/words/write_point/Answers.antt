use Rattle.std.proofs.Common.{◌≤◌, Some, [], ◌∷◌, subst, ap, ◌∙◌}
use Rattle.era_rows.specs.Known.{known_words}
use Rattle.era_rows.specs.Passes.{known_of}
use Rattle.nd_update.proofs.Building.{writes_both}
use Rattle.nd_update.proofs.Writing.{point_written}
use Rattle.nd_update.proofs.Reading.{only_then}
use Rattle.nd_update.proofs.words.write_point.Goals as goal

pub returns-clause-does : goal.returns-clause-does
returns-clause-does c =
    let r = c.args.rows.now in
    let row = c.args.row in
    let p = c.args.pass.now in
    let two = writes_both r row p c.write_first.new.pass c.write_value.new.pass c.write_first.ensures.does c.write_value.ensures.does in
    let three = writes_both r row p c.write_value.new.pass c.write_word.new.pass two c.write_word.ensures.does in
    let four = writes_both r row p c.write_word.new.pass c.write_sol.new.pass three c.write_sol.ensures.does in
    writes_both r row p c.write_sol.new.pass c.write_word-2.new.pass four c.write_word-2.ensures.does

pub returns-clause-point : goal.returns-clause-point
returns-clause-point c =
    let point = c.args.point.now in
    let len_is = c.len.ensures in
    point_written c.args.rows.now.shape c.args.row point (known_words (known_of c.write_first.new.pass)) (known_words (known_of c.write_value.new.pass)) (known_words (known_of c.write_word.new.pass)) (known_words (known_of c.write_sol.new.pass))
    (known_words (known_of c.write_word-2.new.pass)) c.requires.parts c.write_first.ensures.word c.write_value.ensures.outside c.write_value.ensures.value c.write_word.ensures.outside (c.write_word.ensures.word ∙ ap Some (c.from.ensures ∙ len_is.value))
    c.write_sol.ensures.outside c.write_sol.ensures.words c.write_word-2.ensures.outside (c.write_word-2.ensures.word ∙ ap Some c.len-2.ensures.value) (subst (λ n. 1 ≤ n) len_is.value len_is.some) (subst (λ n. n ≤ 256) len_is.value len_is.few) len_is.words

pub returns-clause-only : goal.returns-clause-only
returns-clause-only c =
    let r = c.args.rows.now in
    let changed = c.args.row ∷ [] in
    let end = c.write_word-2.new.pass in
    only_then r [] [] changed [] c.args.pass.now c.write_first.new.pass end c.write_first.ensures.does c.write_first.ensures.only
    (only_then r [] [] changed [] c.write_first.new.pass c.write_value.new.pass end c.write_value.ensures.does c.write_value.ensures.only
    (only_then r [] [] changed [] c.write_value.new.pass c.write_word.new.pass end c.write_word.ensures.does c.write_word.ensures.only
    (only_then r [] [] changed [] c.write_word.new.pass c.write_sol.new.pass end c.write_sol.ensures.does c.write_sol.ensures.only c.write_word-2.ensures.only)))
