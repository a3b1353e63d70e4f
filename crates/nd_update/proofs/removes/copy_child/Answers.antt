use Rattle.std.proofs.Common.{◌≡◌, ◌+◌, ◌%◌, ◌<◌, inl, inr, [], ◌++◌, length, sym, ap, subst, ◌∙◌, arith}
use Rattle.era_core.specs.declared.sizes.TheConstants.{ROOT_ROWS}
use Rattle.era_core.specs.Versions.{look_up}
use Rattle.era_rows.specs.Known.{known_words}
use Rattle.era_rows.specs.Passes.{known_of}
use Rattle.nd_rows.specs.declared.layout.TheConstants.{FIRST_LINK}
use Rattle.nd_rows.specs.Layout.{HasWords}
use Rattle.nd_update.proofs.Building.{words_outside, words_snoc}
use Rattle.nd_update.proofs.Removing.{alive_first}
use Rattle.nd_update.proofs.removes.copy_child.Goals as goal

pub returns-clause-links : goal.returns-clause-links
returns-clause-links c links has len =
    let low : c.args.found < 33554432 = (let h = c.if-found.false in omega (arith, h)) in
    let old = known_words (known_of c.args.pass.now) in
    let now = known_words (known_of c.write_word.new.pass) in
    let at : 1 + length links ≡ 1 + c.args.place = omega (arith, len) in
    subst (λ ws. HasWords now c.args.own FIRST_LINK (links ++ ws)) (sym (alive_first c.args.found [] low))
    (words_snoc now c.args.own 1 links (c.args.found % ROOT_ROWS)
    (words_outside c.args.own (1 + c.args.place) (1 + c.args.place + 1) old now c.write_word.ensures.outside c.args.own 1 links (inr (inl (omega (arith, len)))) has)
    (ap (look_up now c.args.own) at ∙ c.write_word.ensures.word))
