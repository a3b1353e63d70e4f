use Rattle.std.proofs.Common.{rules, ◌≡◌, ◌<◌, ◌+◌, ◌++◌, ◌∷◌, [], take, get_or, true, length, sym, ap, arith, ◌∙◌}
use Rattle.std.proofs.lemmas.List.{take_more, length-set}
use Rattle.era_core.proofs.Marks.{in_at, mark-more}
use Rattle.era_rows.proofs.publishes.loosen.Goals as goal

pub index_mut-requires : goal.index_mut-requires
index_mut-requires c =
    let rows = c.args.rows.now.items in
    let i = c.loop-i.i in
    let row = c.index.result.now in
    let at : row ≡ get_or rows i row = search rules in
    let low = c.requires.inside (get_or rows i row) (in_at rows i row (search rules)) in
    let len = c.loop-i.invariant.0 in
    search rules

pub loop-i-preserved : goal.loop-i-preserved
loop-i-preserved c =
    let rows = c.args.rows.now.items in
    let i = c.loop-i.i in
    let row = c.index.result.now in
    let at : row ≡ get_or rows i row = search rules in
    let inside : i < length rows = search rules in
    let low = c.requires.inside (get_or rows i row) (in_at rows i row inside) in
    let len = c.loop-i.invariant.0 in (
      length-set c.loop-i.loose.items row true ∙ len,
      mark-more c.args.loose.now.items c.loop-i.loose.items true (take i rows) (take (i + 1) rows) row
          (take_more rows i row inside ∙ ap (λ y. take i rows ++ y ∷ []) (sym at)) (omega arith) c.loop-i.invariant.1,
    )
