use Rattle.era_core.specs.Passes.{view_of}
use Rattle.std.proofs.Common.{◌≡◌, ℕ, ⊎_elim, false, length, get_or, replicate, map, ap, ◌∙◌, arith}
use Rattle.std.proofs.lemmas.Bool.{cases_lt}
use Rattle.std.proofs.lemmas.List.{get_or-replicate, get_or_past, length-replicate}
use Rattle.era_core.proofs.Starts.{running_as}
use Rattle.era_core.proofs.arena.Core.start.Goals as goal

clear_at : (n r : ℕ) → get_or (replicate n false) r false ≡ false
clear_at n r =
    ⊎_elim
    (λ inside. get_or-replicate n r false false inside)
    (λ past. get_or_past (replicate n false) r false (omega (arith, length-replicate n false)))
    (cases_lt r n)

pub invariant_of-result : goal.invariant_of-result
invariant_of-result c = record {
  running =
      running_as c.args.passes c.args.rows c.in_ok-words.words.items (map view_of c.in_ok-views.views.items) c.in_ok-words.ensures c.in_ok-views.ensures
      c.requires.some_row c.requires.few_rows c.requires.some_pass c.requires.few_passes;
  marked = ap length c.in_ok-marks.ensures ∙ length-replicate c.args.rows false;
  clear = λ r. ap (λ marks. get_or marks r false) c.in_ok-marks.ensures ∙ clear_at c.args.rows r;
}
