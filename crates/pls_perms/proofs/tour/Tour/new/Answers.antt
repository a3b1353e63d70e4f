use Rattle.std.proofs.Common.{refl}
use Rattle.pls_perms.specs.declared.tour.Tour.TheInside.{Inside}
use Rattle.pls_perms.specs.Tour.{TourInstance, instance_from}
use Rattle.pls_perms.proofs.StoredTour.{Stores, instance_in-stored, IsStored-stored}
use Rattle.pls_perms.proofs.tour.Tour.new.Goals as goal
use Rattle.pls_perms.proofs.tour.Tour.new.Goals.{In_ok-edges}

abbrev wanted : In_ok-edges → TourInstance
wanted c = instance_from c.args.objectives c.args.cities c.args.edges.now

abbrev made : In_ok-edges → Inside
made c = record { cities = c.args.cities; objectives = c.args.objectives; edges = c.in_ok-edges.edges }

stores : (c : In_ok-edges) → Stores (made c) (wanted c)
stores c = record { objectives = refl; cities = refl; edges = rw c.edge_count.ensures.value at c.in_ok-edges.ensures }

pub invariant_of-result : goal.invariant_of-result
invariant_of-result c = IsStored-stored (made c) (wanted c) c.requires (stores c)

pub returns : goal.returns
returns c = instance_in-stored (made c) (wanted c) c.requires (stores c)
