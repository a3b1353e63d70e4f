-- Where the archive was full, as many points were observed as it is safe for.
use Rattle.std.proofs.Common.{◌≡◌, ◌⊎◌, ℕ, ◌+◌, ◌<◌, ◌≤◌, nat_le, Bool, true, false, List, [], ◌∷◌, length, refl, ap, sym, ◌∙◌, arith, if◌then◌else◌, inl, inr, length-append, map, Result, Ok, Err, IfOk}
use Rattle.std.proofs.lemmas.Bool.{leb-true, leb-false}
use Rattle.std.proofs.lemmas.List.{length-map}
use Rattle.pls_vectors.specs.Solution.{Solution}
use Rattle.pls_archive.specs.declared.point.Point.{Point}
use Rattle.pls_archive.specs.declared.call.Call.{Call}
use Rattle.pls_archive.specs.declared.call.Call.TheVariants.{Update, Covered, Member, Snapshot}
use Rattle.pls_archive.specs.declared.call.Reply.{Reply}
use Rattle.pls_archive.specs.declared.call.Reply.TheVariants.{Added, Refused, Yes, No, Points}
use Rattle.pls_archive.specs.declared.call.Entry.{Entry}
use Rattle.pls_archive.specs.declared.rule.Rule as rule
use Rattle.pls_archive.specs.declared.shared.Shared as shared
use Rattle.pls_archive.specs.Rule.{accepted_by}
use Rattle.pls_archive.specs.History.{accepted}
use Rattle.pls_archive.specs.SharedCalls.{Answers}
use Rattle.pls_archive.specs.View.{View, Joins}
use Rattle.pls_archive.proofs.KeepingLists.{length-prefix}
use Rattle.pls_pool.specs.declared.cause.Cause.{Cause}
use Rattle.pls_pool.specs.declared.cause.Cause.TheVariants.{Spent, Full, Memory}
use Rattle.pls_pool.specs.declared.pool.Pool as pool
use Rattle.pls_search.specs.declared.end.End.{End}
use Rattle.pls_search.specs.declared.outcome.NoMemory.{NoMemory}
use Rattle.pls_search.specs.declared.outcome.Outcome.{Outcome}
use Rattle.pls_search.specs.declared.task.Task.{Task as Waiting}
use Rattle.pls_search.specs.declared.worker.Search.{Search}
use Rattle.pls_search.specs.declared.end.End.TheVariants as ends
use Rattle.pls_search.specs.Neighbours.{point_of}
use Rattle.pls_search.specs.Leaving.{graver}
use Rattle.pls_search.specs.Crews.{HasFound, GivesBack}
use Rattle.pls_search.specs.Outcomes.{Tells}

-- an entry accepts at most one point
accepts-one : (call : Call) (answer : Reply) → length (accepted_by call answer) ≤ 1
accepts-one (Update p) (Added removed) = omega arith
accepts-one (Update p) Refused = omega arith
accepts-one (Update p) Yes = omega arith
accepts-one (Update p) No = omega arith
accepts-one (Update p) (Points points) = omega arith
accepts-one (Covered v) answer = omega arith
accepts-one (Member v) answer = omega arith
accepts-one Snapshot answer = omega arith

accepted-few : (es : List Entry) → length (accepted es) ≤ length es
accepted-few [] = omega arith
accepted-few (e ∷ es) =
    let parts = length-append (accepted_by e.call e.reply) (accepted es) in
    let one = accepts-one e.call e.reply in
    let rest = accepted-few es in omega arith

-- no room for one more point than was accepted: as many entries were observed
pub room-observed : (safe : ℕ) (es : List Entry) → safe < length (accepted es) + 1 → safe ≤ length es
room-observed safe es full = let few = accepted-few es in omega (arith, full)

-- a question for the members may show more of what was observed
pub room-asked :
    (reply : List Point → Call → Reply) (started : ℕ) (before after : View) (answer : Reply) (stamp : ℕ)
    → Answers reply started before Snapshot answer stamp after → length before.observed ≤ length after.observed
room-asked reply started before after answer stamp answers = length-prefix before.observed after.observed answers.extends.observes.0

-- a joined pass has observed as much as each of the two
longer : (xs ys : List Entry) (b : Bool) → nat_le (length ys) (length xs) ≡ b
    → length xs ≤ length (if b then xs else ys) × length ys ≤ length (if b then xs else ys)
longer xs ys true is = let less = leb-true (length ys) (length xs) is in (omega arith, omega arith)
longer xs ys false is = let less = leb-false (length ys) (length xs) is in (omega arith, omega arith)

pub room-joined : (before other after : View) → Joins before other after
    → length before.observed ≤ length after.observed × length other.observed ≤ length after.observed
room-joined before other after joins =
    let long = ap length joins.observed in
    let each = longer before.observed other.observed (nat_le (length other.observed) (length before.observed)) refl in
    (omega (arith, long, each.0), omega (arith, long, each.1))

-- the graver of two causes is that the archive was full where one of them is
pub graver-full : (a b : Result (Unit {0}) Cause) → graver a b ≡ Err Full → (a ≡ Err Full) ⊎ (b ≡ Err Full)
graver-full (Ok u) b is = inr is
graver-full (Err Memory) b is = absurd cc
graver-full (Err Full) b is = inl refl
graver-full (Err Spent) (Ok u) is = absurd cc
graver-full (Err Spent) (Err cause) is = inr is

-- so it is after one worker has taken over what another did
pub room-taken_over :
    (safe : ℕ) (a b : Result (Unit {0}) Cause) (before other after : View) → Joins before other after
    → (a ≡ Err Full → safe ≤ length before.observed) → (b ≡ Err Full → safe ≤ length other.observed)
    → graver a b ≡ Err Full → safe ≤ length after.observed
room-taken_over safe a b before other after joins first second full = by_case (graver-full a b full)
  where
    by_case : (a ≡ Err Full) ⊎ (b ≡ Err Full) → safe ≤ length after.observed
    by_case (inl is) = let more = (room-joined before other after joins).0 in omega (arith, more, first is)
    by_case (inr is) = let more = (room-joined before other after joins).1 in omega (arith, more, second is)

not_closed : ends.Full ≡ ends.Closed → ⊥
not_closed is = cc

not_stopped : ends.Full ≡ ends.Stopped → ⊥
not_stopped is = cc

-- it ended full for no other cause
pub room-told : (left : Result (Unit {0}) Cause) (end : End) → Tells left end → end ≡ ends.Full → left ≡ Err Full
room-told (Ok u) end tells full = absurd (not_closed (sym full ∙ tells))
room-told (Err Spent) end tells full = absurd (not_stopped (sym full ∙ tells))
room-told (Err Full) end tells full = refl
room-told (Err Memory) end tells full = absurd tells

-- so there are more starts and moves than it is safe for
module _ {A P G Law Pass Seat : Type 0} (a : shared.Ghosts A Law Pass) (r : rule.Ghosts Law) (p : pool.Ghosts P Waiting Seat) {s : Search A P G Law Pass Seat} where
  pub room-found :
      (starts : List Solution) (result : Result (Outcome Pass) (NoMemory Pass)) → HasFound a r p s (map (point_of s.instance.now) starts) result → GivesBack a r p s result
      → IfOk result (λ o. o.end ≡ ends.Full → a.safe s.archive.now < length starts + s.desk.now.moves)
  room-found starts (Ok o) found back = λ full.
      let fewer = found.0.room full in
      let long = length-map starts (point_of s.instance.now) in
      let enough = back.room full in omega (arith, fewer, long, enough)
  room-found starts (Err e) found back = tt
