use Rattle.std.proofs.Common.{rules, ◌≡◌, List, ◌++◌, subst, sym, ap}
use Rattle.pls_pool.specs.Reaches.{Guest, hand_at, guests_hand, IsReach, AreGuestsOf, PutsTogether}
use Rattle.pls_pool.proofs.ReachMoves.{passes_of, guests_append, guests_joined}
use Rattle.pls_pool.proofs.stealing_reaches.put_together.Goals as goal

pub absorb_all-requires-clause-passes : goal.absorb_all-requires-clause-passes
absorb_all-requires-clause-passes g c =
    let one = c.requires.one in
    passes_of one.0 one.1 one.2 c.in-Own.worker c.in-Guests-other.passes (subst (IsReach one.0 one.1 one.2) c.in-Own.is one.3) (subst (IsReach one.0 one.1 one.2) c.in-Guests-other.is one.4)

pub absorb_all-requires-in-Own-other-clause-passes : goal.absorb_all-requires-in-Own-other-clause-passes
absorb_all-requires-in-Own-other-clause-passes g c =
    let one = c.requires.one in
    passes_of one.0 one.1 one.2 c.in-Own-other.worker c.in-Guests.passes (subst (IsReach one.0 one.1 one.2) c.in-Own-other.is one.4) (subst (IsReach one.0 one.1 one.2) c.in-Guests.is one.3)

pub returns-in-Ok-clause-reach : goal.returns-in-Ok-clause-reach
returns-in-Ok-clause-reach g c seats room stealer mine theirs =
    let both : c.append.new.self ≡ c.in-Guests.passes ++ c.in-Guests-other-2.others = search rules in
    subst (AreGuestsOf seats stealer) (sym both)
    (guests_joined seats stealer c.in-Guests.passes c.in-Guests-other-2.others (subst (IsReach seats room stealer) c.in-Guests.is mine) (subst (IsReach seats room stealer) c.in-Guests-other-2.is theirs))

pub returns-in-Ok-clause-joined : goal.returns-in-Ok-clause-joined
returns-in-Ok-clause-joined g c =
    let both : c.append.new.self ≡ c.in-Guests.passes ++ c.in-Guests-other-2.others = search rules in
    let v = ap hand_at c.in-Guests.is in
    let w = ap hand_at c.in-Guests-other-2.is in
    subst (λ (ps : List (Guest _)). PutsTogether (hand_at c.args.mine.now) (hand_at c.args.other) (guests_hand ps)) (sym both)
    (subst (λ v. PutsTogether v (hand_at c.args.other) (guests_hand (c.in-Guests.passes ++ c.in-Guests-other-2.others))) (sym v)
    (subst (λ w. PutsTogether (guests_hand c.in-Guests.passes) w (guests_hand (c.in-Guests.passes ++ c.in-Guests-other-2.others))) (sym w) (guests_append c.in-Guests.passes c.in-Guests-other-2.others)))
