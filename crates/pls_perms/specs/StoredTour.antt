use Rattle.pls_perms.specs.declared.tour.Tour.TheInside.{Inside}
use Rattle.pls_perms.specs.Tour.{TourInstance, IsWithinLimits, edge_count}
use Rattle.pls_perms.specs.Table.{IsTableOf, by_lists}

-- the instance that is stored as a table of its edges
abbrev pub instance_in : Inside → TourInstance
instance_in k =
    record { objectives = k.objectives; cities = k.cities; edges = by_lists k.objectives k.edges.items }

-- it is within the limits, and the table is 0 in each list that it does not have
pub record IsStored (k : Inside) : Type 0 where
  pub limits : IsWithinLimits (instance_in k)
  pub table : IsTableOf (edge_count k.cities) (edge_count k.cities) (instance_in k).edges k.edges.items
