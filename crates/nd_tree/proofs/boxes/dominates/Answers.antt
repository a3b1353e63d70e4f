use Rattle.std.proofs.Common.{sym, ◌∙◌}
use Rattle.std.proofs.lemmas.Bool.{ne_eqb}
use Rattle.pls_archive.proofs.ValueOrder.{dominates-apart}
use Rattle.nd_tree.proofs.boxes.dominates.Goals as goal

pub returns-else-len : goal.returns-else-len
returns-else-len c =
    let apart = rw (c.len.ensures.value, c.len-2.ensures.value) at c.if-len.false in
    ne_eqb _ _ c.if-len.false ∙ sym (dominates-apart c.args.a.now c.args.b.now apart)
