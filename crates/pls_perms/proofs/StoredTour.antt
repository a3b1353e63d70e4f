-- How a tour's instance is stored: what stands in the fields is the instance.
use Rattle.std.proofs.Common.{◌≡◌, sym, subst, refl}
use Rattle.pls_perms.specs.declared.tour.Tour.TheInside.{Inside}
use Rattle.pls_perms.specs.StoredTour.{instance_in, IsStored}
use Rattle.pls_perms.specs.Table.{IsTableOf}
use Rattle.pls_perms.specs.Tour.{TourInstance, IsWithinLimits, edge_count}
use Rattle.pls_perms.proofs.Tables.{by_lists-is}
use Rattle.pls_perms.proofs.Places.{some_edges}

-- what is stored of an instance
pub record Stores (t : Inside) (k : TourInstance) : Type 0 where
  pub objectives : t.objectives ≡ k.objectives
  pub cities : t.cities ≡ k.cities
  pub edges : IsTableOf (edge_count k.cities) (edge_count k.cities) k.edges t.edges.items

module _ (t : Inside) (k : TourInstance) (limits : IsWithinLimits k) (stores : Stores t k) where
  -- it is that instance
  pub instance_in-stored : instance_in t ≡ k
  instance_in-stored =
      let edges = by_lists-is k.objectives (edge_count k.cities) k.edges t.edges.items limits.few_objectives (some_edges k.cities limits.some_cities) limits.lists stores.edges in
      rw (stores.cities, stores.objectives, edges) refl

  pub IsStored-stored : IsStored t
  IsStored-stored =
      let is = instance_in-stored in
      record {
        limits = subst IsWithinLimits (sym is) limits;
        table = subst (λ (j : TourInstance). IsTableOf (edge_count t.cities) (edge_count t.cities) j.edges t.edges.items) (sym is) (rw stores.cities stores.edges);
      }
