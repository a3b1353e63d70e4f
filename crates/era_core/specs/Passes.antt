-- What the running views are.
use Rattle.std.specs.Prelude.{Some, List, map}
use Rattle.era_core.specs.Views.{Batch, View}
use Rattle.era_core.specs.declared.pass.Retired.{Retired}
use Rattle.era_core.specs.declared.pass.PassView.{PassView}

abbrev pub batch_of_rows : Retired → Batch
batch_of_rows b = (b.version, b.rows.items)

abbrev pub batches_of : List Retired → List Batch
batches_of batches = map batch_of_rows batches

abbrev pub view_of : PassView → View
view_of p =
    record {
      number = Some p.number;
      noted = p.noted;
      pinned = p.pinned;
      fresh = p.fresh.items;
      retired = batches_of p.retired.items;
      scanned = p.scanned;
      least = p.least;
      last = p.last;
    }
