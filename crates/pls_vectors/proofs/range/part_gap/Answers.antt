use Rattle.std.proofs.Common.{ap, unsigned_abs, ◌∙◌, ℕ, ◌*◌, ◌≤◌, ◌^◌, sym, subst}
use Rattle.pls_vectors.proofs.Boxes.{off_middle, off_middle-is, part_gap-bound}
use Rattle.pls_vectors.proofs.range.part_gap.Goals as goal

pub overflow_sub-part-2 : goal.overflow_sub-part-2
overflow_sub-part-2 c = off_middle c.args.ideal c.args.nadir c.args.part c.requires.ideal c.requires.nadir c.requires.part

pub returns-clause-value : goal.returns-clause-value
returns-clause-value c =
    ap (λ (n : ℕ). n * n) (c.unsigned_abs-off_middle.ensures.value
    ∙ ap unsigned_abs (off_middle-is c.args.ideal c.args.nadir c.args.part c.requires.ideal c.requires.nadir c.requires.part))

pub returns-clause-bound : goal.returns-clause-bound
returns-clause-bound c =
    subst (λ (n : ℕ). n ≤ 2 ^ 84) (sym (returns-clause-value c))
    (part_gap-bound c.args.ideal c.args.nadir c.args.part c.requires.ideal c.requires.nadir c.requires.part)
