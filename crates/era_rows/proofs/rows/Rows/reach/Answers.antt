use Rattle.std.proofs.Common.{rules, ◌≡◌, ℕ, ◌<◌, ◌∙◌, [], ◌∷◌, ◌++◌, false, cond, get_or, set, length, sym, ap, subst, arith}
use Rattle.era_core.specs.Lists.{In}
use Rattle.era_core.specs.Versions.{known_links, Covers}
use Rattle.era_rows.specs.Known.{Known, known_words}
use Rattle.era_rows.specs.Reach.{IsReached, AddsLinks}
use Rattle.era_core.proofs.Marks.{in_at}
use Rattle.era_rows.proofs.Flags.{none_reached, reached_few}
use Rattle.era_rows.proofs.Holding.{fresh_inside}
use Rattle.era_rows.proofs.Reaching.{IsWalking, read_none, read_more, same_knows, new_inside, new_covered, new_linked, walk_start, walk_more, walk_done}
use Rattle.era_rows.proofs.rows.Rows.reach.Goals as goal

pub reach_row-requires-clause-row : goal.reach_row-requires-clause-row
reach_row-requires-clause-row g c =
    let k = c.args.seat.now.me.0.view in
    let low = fresh_inside k c.requires.holds c.args.root c.requires.root in
    let sized = c.requires.seat.sized.rows_are in
    let counted = c.requires.counted in omega arith

pub loop-next-init : goal.loop-next-init
loop-next-init g c =
    let k = c.args.seat.now.me.0.view in
    let root = c.args.root in
    let loose = c.args.loose.now.items in
    let inside = fresh_inside k c.requires.holds in
    let sized = c.requires.seat.sized.rows_are in
    let none : c.clear.new.self.items ≡ [] = search rules in
    let start = none_reached k.rows k.core.fresh loose (c.requires.counted ∙ sym sized) inside (λ x low. c.requires.flagged x (omega (arith, sized))) in
    let walking = walk_start k root c.requires.tree c.requires.parts c.requires.pinned c.requires.written loose c.requires.root (inside root c.requires.root) start in
    let reached_is : c.reach_row.new.reached.items ≡ cond (get_or loose root false) (root ∷ []) [] = c.reach_row.ensures.reached ∙ ap (λ xs. cond (get_or loose root false) (xs ++ root ∷ []) xs) none in (
      c.requires.seat,
      search rules,
      search rules,
      read_none k,
      subst (λ xs. IsWalking k root xs c.reach_row.new.reached.items 0) (sym c.reach_row.ensures.loose) (subst (λ xs. IsWalking k root (set loose root false) xs 0) (sym reached_is) walking),
      search rules,
    )

pub reach_links-requires-clause-row : goal.reach_links-requires-clause-row
reach_links-requires-clause-row g c =
    let k = c.args.seat.now.me.0.view in
    let walking = c.loop-next.invariant.4 in
    let row = c.index-row.result.now in
    let reached = c.loop-next.reached.items in
    let at : row ≡ get_or reached c.loop-next.next row = search rules in
    let here = subst (λ x. In x reached) (sym at) (in_at reached c.loop-next.next row (search rules)) in
    let low = new_inside k c.args.root c.requires.holds c.requires.pinned c.requires.parts row (walking.within row here) in
    let sized = c.requires.seat.sized.rows_are in omega arith

pub reach_links-requires-clause-fresh : goal.reach_links-requires-clause-fresh
reach_links-requires-clause-fresh g c =
    let walking = c.loop-next.invariant.4 in
    let row = c.index-row.result.now in
    let reached = c.loop-next.reached.items in
    let at : row ≡ get_or reached c.loop-next.next row = search rules in
    let here = subst (λ x. In x reached) (sym at) (in_at reached c.loop-next.next row (search rules)) in
    subst (λ (z : Known). In row z.core.fresh) (sym c.loop-next.invariant.3.now) (walking.is_reached.are_fresh row here)

pub reach_links-requires-clause-covered : goal.reach_links-requires-clause-covered
reach_links-requires-clause-covered g c =
    let k = c.args.seat.now.me.0.view in
    let walking = c.loop-next.invariant.4 in
    let row = c.index-row.result.now in
    let reached = c.loop-next.reached.items in
    let at : row ≡ get_or reached c.loop-next.next row = search rules in
    let here = subst (λ x. In x reached) (sym at) (in_at reached c.loop-next.next row (search rules)) in
    subst (λ (z : Known). Covers (known_words z) row) (sym c.loop-next.invariant.3.now)
    (new_covered k c.args.root c.requires.tree c.requires.parts c.requires.pinned c.requires.written row (walking.within row here))

pub reach_links-requires-clause-links : goal.reach_links-requires-clause-links
reach_links-requires-clause-links g c =
    let k = c.args.seat.now.me.0.view in
    let walking = c.loop-next.invariant.4 in
    let row = c.index-row.result.now in
    let reached = c.loop-next.reached.items in
    let at : row ≡ get_or reached c.loop-next.next row = search rules in
    let here = subst (λ x. In x reached) (sym at) (in_at reached c.loop-next.next row (search rules)) in
    let sized = c.requires.seat.sized.rows_are in
    subst (λ (z : Known). (x : ℕ) → In x (known_links (known_words z) row) → x < c.args.self.now.rows) (sym c.loop-next.invariant.3.now)
    (λ x link.
    let linked = new_linked k c.args.root c.requires.tree c.requires.parts c.requires.pinned c.requires.written row x (walking.within row here) link in
    let low = new_inside k c.args.root c.requires.holds c.requires.pinned c.requires.parts x linked in omega arith)

pub reach_links-requires-clause-inside : goal.reach_links-requires-clause-inside
reach_links-requires-clause-inside g c =
    let k = c.args.seat.now.me.0.view in
    let sized = c.requires.seat.sized.rows_are in
    subst (λ (z : Known). (x : ℕ) → In x z.core.fresh → x < c.args.self.now.rows) (sym c.loop-next.invariant.3.now)
    (λ x here. (let low = fresh_inside k c.requires.holds x here in omega arith))

pub loop-next-smaller : goal.loop-next-smaller
loop-next-smaller g c =
    let k = c.args.seat.now.me.0.view in
    let few = reached_few k.rows k.core.fresh c.loop-next.loose.items c.loop-next.reached.items c.loop-next.invariant.4.is_reached (fresh_inside k c.requires.holds) in
    let sized = c.requires.seat.sized.rows_are in
    let more : c.loop-next.next < length c.loop-next.reached.items = search rules in omega arith

pub loop-next-preserved : goal.loop-next-preserved
loop-next-preserved g c =
    let k = c.args.seat.now.me.0.view in
    let mid = c.loop-next.seat.me.0 in
    let before = c.loop-next.invariant in
    let row = c.index-row.result.now in
    let reached = c.loop-next.reached.items in
    let after = c.reach_links.new.reached.items in
    let flags = c.reach_links.new.loose.items in
    let at : row ≡ get_or reached c.loop-next.next row = search rules in
    let is_reached : IsReached k.rows k.core.fresh flags after =
    subst (λ n. IsReached n k.core.fresh flags after) (sym c.requires.seat.sized.rows_are)
    (subst (λ (z : Known). IsReached c.args.self.now.rows z.core.fresh flags after) before.3.now c.reach_links.ensures.reached) in
    let adds : AddsLinks (known_links (known_words k) row) k.core.fresh reached after =
    subst (λ (z : Known). AddsLinks (known_links (known_words z) row) z.core.fresh reached after) before.3.now c.reach_links.ensures.links in (
      c.reach_links.ensures.seat,
      same_knows c.args.seat.now.me.0 mid c.reach_links.new.seat.me.0 c.reach_links.new.seat.me.0.view before.1 c.reach_links.ensures.same.0,
      c.reach_links.ensures.same.1 ∙ before.2,
      read_more k mid.view c.reach_links.new.seat.me.0.view before.3 c.reach_links.ensures.read,
      walk_more k c.args.root c.requires.tree c.requires.parts c.requires.pinned c.requires.written c.loop-next.loose.items flags reached after c.loop-next.next row before.4 (search rules) at is_reached adds,
      c.reach_links.ensures.capacity ∙ before.5,
    )

pub returns-clause-reached : goal.returns-clause-reached
returns-clause-reached g c =
    walk_done c.args.seat.now.me.0.view c.args.root c.requires.tree c.requires.parts c.requires.pinned c.requires.written c.loop-next.loose.items c.loop-next.reached.items c.loop-next.next c.loop-next.invariant.4
    (search rules)
