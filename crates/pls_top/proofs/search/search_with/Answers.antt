use Rattle.std.proofs.Common.{sym, ap, ◌∙◌, ◌≡◌, map, length, None, Some, arith}
use Rattle.nd_shared.proofs.Room.{room_safe}
use Rattle.pls_search.specs.Neighbours.{point_of}
use Rattle.pls_top.specs.Kept.{kept_of}
use Rattle.pls_top.proofs.Found.{found}
use Rattle.pls_top.proofs.search.search_with.Goals as goal

pub search-requires-clause-new_seats : goal.search-requires-clause-new_seats
search-requires-clause-new_seats g c κs within k x at = let new = c.in_ok-pool.ensures.seats k x at in (new.seat, new.account)

pub search-requires-clause-new_passes : goal.search-requires-clause-new_passes
search-requires-clause-new_passes g c κs within k x at =
    let (ready, view_is, none) = c.in_ok-archive.ensures.passes k x at in
    (ready.is_pass, ready.resting, view_is, λ shows. let h : None ≡ Some shows.0 = sym none ∙ shows.1 in cc)

pub returns-in-Ok-clause-found : goal.returns-in-Ok-clause-found
returns-in-Ok-clause-found g c =
    let sizes = c.in_ok-archive.ensures.sizes in
    let sized = c.in-Ok.ensures.pass.0.sized in
    found c.args.settings.now c.args.instance.now _ _ _ (kept_of c.in-Ok.field-0.pass) _ _ _ _ _
    (ap (map (point_of c.args.instance.now)) (c.deref.ensures.value ∙ c.in_ok-starts.ensures.value)) c.in_ok-desk.ensures.sizes.0
    (sizes.2 ∙ c.requires.workers) (sized.shape_is ∙ (sizes.0 ∙ c.objectives.ensures.value)) (sized.rows_are ∙ sizes.1) sized.passes_are
    c.in-Ok.ensures.full
    (λ one full.
    let count = c.in_ok-starts.ensures.count in
    let few = c.in-Ok.ensures.room full in
    let starts = ap length c.deref.ensures.value in
    let moves = c.in_ok-desk.ensures.sizes.0 in
    let rows = sizes.1 in
    let low = room_safe _ _ _ (sizes.2 ∙ c.requires.workers ∙ one) few in
    omega (arith, low, count, starts, moves, rows))
    _ c.keep.ensures c.in-Ok.ensures.found
