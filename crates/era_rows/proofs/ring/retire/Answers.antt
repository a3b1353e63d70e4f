use Rattle.std.proofs.Common.{◌≡◌, ℕ, ◌+◌, [], ◌∷◌, ◌++◌, map, take, sym, ap, ◌∙◌, arith}
use Rattle.std.proofs.lemmas.List.{append_assoc, map-append, take_more}
use Rattle.era_rows.specs.Ring.{pairs_in}
use Rattle.era_rows.proofs.Orders.{pairs_push, in_at}
use Rattle.era_rows.proofs.ring.retire.Goals as goal

pub packed-requires-clause-row_fits : goal.packed-requires-clause-row_fits
packed-requires-clause-row_fits c =
    let marks = c.args.marked.now in
    let r = c.index.result.now in
    c.requires.rows r (in_at marks.items c.loop-i.i r (let low = c.loop-i-test.true in omega (arith, c.len-i-end.ensures, marks.ok.0)) c.index.ensures)

pub loop-i-preserved : goal.loop-i-preserved
loop-i-preserved c =
    let marks = c.args.marked.now in
    let old = c.args.retired.now.items in
    let r = c.index.result.now in
    let version = c.args.version in
    let at : ℕ → ℕ × ℕ = λ x. (version, x) in
    let low = c.requires.rows r (in_at marks.items c.loop-i.i r (let low = c.loop-i-test.true in omega (arith, c.len-i-end.ensures, marks.ok.0)) c.index.ensures) in
    let more : take (c.loop-i.i + 1) marks.items ≡ take c.loop-i.i marks.items ++ r ∷ [] =
    take_more marks.items c.loop-i.i r (let low = c.loop-i-test.true in omega (arith, c.len-i-end.ensures, marks.ok.0)) ∙ ap (λ x. take c.loop-i.i marks.items ++ x ∷ []) (sym c.index.ensures) in (
      ap pairs_in (c.push_back_reserved.ensures.items ∙ ap (λ w. c.loop-i.retired.items ++ w ∷ []) c.packed.ensures)
          ∙ pairs_push c.loop-i.retired.items version r low
          ∙ ap (λ ps. ps ++ (version, r) ∷ []) c.loop-i.invariant.0
          ∙ append_assoc (pairs_in old) (map at (take c.loop-i.i marks.items)) ((version, r) ∷ [])
          ∙ ap (λ ps. pairs_in old ++ ps) (sym (ap (map at) more ∙ map-append at (take c.loop-i.i marks.items) (r ∷ []))),
      c.push_back_reserved.ensures.capacity ∙ c.loop-i.invariant.1,
    )
