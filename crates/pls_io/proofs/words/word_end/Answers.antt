use Rattle.std.proofs.Common.{◌≡◌, ◌∷◌, [], slice_range, ◌∙◌, ap, refl, sym, true, get_or, arith}
use Rattle.std.specs.List.{list_all}
use Rattle.std.proofs.lemmas.Bool.{and_from}
use Rattle.std.proofs.lemmas.List.Edits.{between_more}
use Rattle.std.proofs.lemmas.List.Folds.{list_all-append}
use Rattle.pls_io.specs.Words.{is_word_byte}
use Rattle.pls_io.proofs.words.word_end.Goals as goal

pub loop-end-preserved : goal.loop-end-preserved
loop-end-preserved c =
    let here : is_word_byte (get_or c.args.text.now c.loop-end.end 0) ≡ true = sym c.is_word_byte.ensures ∙ c.if-is_word_byte.true in
    record {
      after = omega arith;
      within = omega arith;
      word = ap (list_all is_word_byte) (between_more c.args.text.now c.args.at c.loop-end.end 0 c.loop-end.invariant.after c.loop-end-test.true) ∙ list_all-append is_word_byte (slice_range c.args.text.now c.args.at c.loop-end.end) (get_or c.args.text.now c.loop-end.end 0 ∷ []) ∙ and_from _ _ c.loop-end.invariant.word (and_from _ _ here refl);
    }
