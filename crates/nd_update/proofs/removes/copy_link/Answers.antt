use Rattle.std.proofs.Common.{◌≡◌, ◌+◌, Some, inl, inr, [], ◌∷◌, ◌++◌, length, if◌then◌else◌, sym, ap, subst, ◌∙◌, arith}
use Rattle.era_core.specs.Versions.{look_up}
use Rattle.era_rows.specs.Known.{known_words}
use Rattle.era_rows.specs.Passes.{known_of}
use Rattle.nd_rows.specs.declared.layout.TheConstants.{FIRST_LINK}
use Rattle.nd_rows.specs.Layout.{HasWords}
use Rattle.nd_update.proofs.Building.{read_does, looks_do, looks_words, words_outside, words_snoc}
use Rattle.nd_update.proofs.Reading.{only_none, only_any}
use Rattle.nd_update.proofs.Opening.{only_looks}
use Rattle.nd_update.proofs.removes.copy_link.Goals as goal

pub write_word-requires-clause-building : goal.write_word-requires-clause-building
write_word-requires-clause-building c = (looks_do c.args.rows.now (c.args.row ∷ []) c.args.pass.now c.word-link.new.pass c.requires.building c.word-link.ensures.looks).building

pub returns-clause-does : goal.returns-clause-does
returns-clause-does c =
    let r = c.args.rows.now in
    let p = c.args.pass.now in
    let q = c.word-link.new.pass in
    read_does r [] [] (c.args.own ∷ []) p q c.write_word.new.pass (looks_do r (c.args.row ∷ []) p q c.requires.building c.word-link.ensures.looks) c.write_word.ensures.does

pub returns-clause-links : goal.returns-clause-links
returns-clause-links c x links there has len =
    let mid = known_words (known_of c.word-link.new.pass) in
    let now = known_words (known_of c.write_word.new.pass) in
    let own = c.args.own in
    let at : 1 + length links ≡ 1 + c.args.place = omega (arith, len) in
    let before = subst (λ cells. HasWords cells own 1 links) (sym (looks_words c.args.rows.now (c.args.row ∷ []) c.args.pass.now c.word-link.new.pass c.word-link.ensures.looks)) has in
    subst (λ s. HasWords now own FIRST_LINK (if s then links else links ++ x ∷ [])) (sym c.if-hit.false)
    (words_snoc now own 1 links x
    (words_outside own (1 + c.args.place) (1 + c.args.place + 1) mid now c.write_word.ensures.outside own 1 links (inr (inl (omega (arith, len)))) before)
    (ap (look_up now own) at ∙ c.write_word.ensures.word ∙ ap Some (c.word-link.ensures.word x there)))

pub returns-then-hit-clause-only : goal.returns-then-hit-clause-only
returns-then-hit-clause-only c = only_none (c.args.row ∷ []) (known_of c.args.pass.now)

pub returns-clause-only : goal.returns-clause-only
returns-clause-only c =
    let q = c.word-link.new.pass in
    only_looks c.args.rows.now (c.args.row ∷ []) c.args.pass.now q c.write_word.new.pass c.requires.building c.word-link.ensures.looks (only_any (c.args.row ∷ []) (known_of q) (known_of c.write_word.new.pass) c.write_word.ensures.only)
