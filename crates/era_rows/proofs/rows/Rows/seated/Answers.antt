use Rattle.std.proofs.Common.{rules, [], refl, ap}
use Rattle.era_rows.specs.Ring.{pairs_in}
use Rattle.era_rows.proofs.Tied.{tied_as, room_as, tied_started}
use Rattle.era_rows.proofs.Remembering.{recalls_none}
use Rattle.era_rows.proofs.rows.Rows.seated.Goals as goal

pub invariant_of-result : goal.invariant_of-result
invariant_of-result g c =
    let rows = c.args.self.now in
    let starts = ap (λ m. m.0.view) c.requires.starts in
    record {
      tied = tied_as starts refl (search rules) refl (search rules) (ap pairs_in {y = []} (search rules))
          (tied_started rows.shape rows.rows rows.passes rows.passes c.args.number c.in_ok-from_elem.field-0.items c.requires.number rows.few_rows (search rules));
      recalls = recalls_none;
      bare = ap (λ m. m.1) c.requires.starts;
      roomy = room_as (ap (λ k. k.rows) starts) refl refl refl refl refl (search rules);
    }
