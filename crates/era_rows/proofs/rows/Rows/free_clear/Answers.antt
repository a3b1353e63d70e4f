use Rattle.std.proofs.Common.{rules, ◌≡◌, ℕ, true, List, refl, sym, ap, subst, ◌∙◌, arith}
use Rattle.era_core.specs.Views.{clears}
use Rattle.era_rows.specs.Known.{Known}
use Rattle.era_rows.specs.Ring.{pairs_in, is_first_clear}
use Rattle.era_rows.specs.Passes.{known_of}
use Rattle.era_rows.proofs.Tied.{tied_as}
use Rattle.era_rows.proofs.Freeing.{HasFreed, freed_more, freed_count, freed_few, freed_all}
use Rattle.era_rows.proofs.rows.Rows.free_clear.Goals as goal

pub overflow_add-freed : goal.overflow_add-freed
overflow_add-freed g c =
    let few = freed_few c.args.pass.now.tied c.loop-least.pass.tied c.args.least c.loop-least.freed c.loop-least.invariant.2 in
    let rows = c.args.self.now.few_rows in
    let sized = c.requires.pass.sized in
    omega (arith, sized.rows_are)

pub free_oldest-requires-clause-cleared : goal.free_oldest-requires-clause-cleared
free_oldest-requires-clause-cleared g c =
    let so_far = c.loop-least.invariant.2 in
    ap (λ o. is_first_clear o (pairs_in c.loop-least.pass.retired.items)) (ap (λ (k : Known). k.core.least) so_far.rest ∙ c.requires.least)
    ∙ sym c.is_oldest_clear.ensures ∙ c.loop-least-test.true

pub loop-least-preserved : goal.loop-least-preserved
loop-least-preserved g c =
    let least = c.args.least in
    let pass = c.args.pass.now in
    let mid = c.loop-least.pass in
    let freed = c.free_oldest.ensures.freed in
    let left : List (ℕ × ℕ) = pairs_in c.free_oldest.new.pass.retired.items in
    let cleared : clears least freed.0.0 ≡ true = ap (is_first_clear least) (sym freed.1) ∙ sym c.is_oldest_clear.ensures ∙ c.loop-least-test.true in (
      c.free_oldest.ensures.pass,
      search rules,
      freed_more least c.loop-least.freed (known_of pass) (known_of mid) (known_of c.free_oldest.new.pass) (pairs_in pass.retired.items) left freed.0
          (tied_as refl refl refl refl refl (sym freed.1) mid.tied)
          (subst (λ ps. HasFreed least c.loop-least.freed (known_of pass) (known_of mid) (pairs_in pass.retired.items) ps) freed.1 c.loop-least.invariant.2)
          cleared freed.2,
    )

pub returns-clause-freed : goal.returns-clause-freed
returns-clause-freed g c = freed_count c.args.pass.now.tied c.loop-least.pass.tied c.args.least c.loop-least.freed c.loop-least.invariant.2

pub returns-clause-blocked : goal.returns-clause-blocked
returns-clause-blocked g c =
    freed_all c.args.pass.now.tied c.loop-least.pass.tied c.args.least c.loop-least.freed c.loop-least.invariant.2 (sym c.is_oldest_clear.ensures ∙ c.loop-least-test.false)
