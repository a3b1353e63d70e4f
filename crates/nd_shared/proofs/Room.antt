-- How much room a pass that is alone needs.
use Rattle.std.proofs.Common.{◌≡◌, ℕ, suc, ◌+◌, ◌-◌, ◌*◌, ◌/◌, ◌==◌, ◌<◌, ◌≤◌, Bool, true, false, if◌then◌else◌, List, [], ◌∷◌, ◌++◌, length, take, refl, sym, ap, ◌∙◌, arith, length-append, length-take}
use Rattle.std.proofs.lemmas.Bool.{true≢false, eqb-true}
use Rattle.era_rows.specs.Known.{Known, pinned_copy}
use Rattle.era_rows.specs.Passes.{known_of, seen_of}
use Rattle.era_rows.specs.declared.pass.Pass.{Pass}
use Rattle.era_rows.specs.declared.rows.Rows.{Rows}
use Rattle.era_rows.specs.declared.law.Law.{Ghosts}
use Rattle.pls_archive.specs.declared.call.Call.{Call}
use Rattle.pls_archive.specs.declared.call.Call.TheVariants.{Update, Covered, Member, Snapshot}
use Rattle.pls_archive.specs.declared.call.Entry.{Entry}
use Rattle.pls_archive.specs.declared.call.Reply.{Reply}
use Rattle.pls_archive.specs.declared.call.Reply.TheVariants.{Added, Refused, Yes, No, Points}
use Rattle.pls_archive.specs.declared.point.Point.{Point}
use Rattle.pls_archive.specs.History.{submissions, accepted, accepts}
use Rattle.pls_archive.specs.Lists.{Every, how_many}
use Rattle.pls_archive.specs.Reply.{members, point_weakly_dominates}
use Rattle.pls_archive.specs.Rule.{submitted_by, accepted_by, is_accepting}
use Rattle.pls_vectors.specs.Archive.{members_among, belongs}
use Rattle.nd_rows.specs.Nodes.{points_of}
use Rattle.nd_rows.specs.Reads.{HasPinnedTree}
use Rattle.nd_update.specs.Building.{Builds}
use Rattle.nd_update.specs.Counted.{IsCrowded}
use Rattle.nd_update.proofs.Building.{same_copy}
use Rattle.nd_update.proofs.Sizes.{tree_rows}
use Rattle.nd_shared.specs.Views.{safe_in}

-- no more members than submissions
members-few : (all earlier later : List Point) → length (members_among point_weakly_dominates all earlier later) ≤ length later
members-few all earlier [] = omega arith
members-few all earlier (p ∷ later) =
    let rest = members-few all (earlier ++ p ∷ []) later in
    by_test (belongs point_weakly_dominates all earlier p) rest
  where
    by_test : (b : Bool) → length (members_among point_weakly_dominates all (earlier ++ p ∷ []) later) ≤ length later
        → length ((if b then p ∷ [] else []) ++ members_among point_weakly_dominates all (earlier ++ p ∷ []) later) ≤ suc (length later)
    by_test true rest = omega (arith, rest)
    by_test false rest = omega (arith, rest)

submits-one : (call : Call) → length (submitted_by call) ≤ 1
submits-one (Update p) = omega arith
submits-one (Covered v) = omega arith
submits-one (Member v) = omega arith
submits-one Snapshot = omega arith

submissions-few : (es : List Entry) → length (submissions es) ≤ length es
submissions-few [] = omega arith
submissions-few (e ∷ es) =
    let parts = length-append (submitted_by e.call) (submissions es) in
    let one = submits-one e.call in
    let rest = submissions-few es in
    omega (arith, parts, one, rest)

how_many-all : {A : Type 0} (xs : List A) → how_many (λ (x : A). true) xs ≡ length xs
how_many-all [] = refl
how_many-all (x ∷ xs) = let rest = how_many-all xs in omega (arith, rest)

-- an accepting entry accepts a point
accepts-some : (call : Call) (answer : Reply) → is_accepting call answer ≡ true → 1 ≤ length (accepted_by call answer)
accepts-some (Update p) (Added removed) is = omega arith
accepts-some (Update p) Refused is = absurd (true≢false (sym is))
accepts-some (Update p) Yes is = absurd (true≢false (sym is))
accepts-some (Update p) No is = absurd (true≢false (sym is))
accepts-some (Update p) (Points points) is = absurd (true≢false (sym is))
accepts-some (Covered v) answer is = absurd (true≢false (sym is))
accepts-some (Member v) answer is = absurd (true≢false (sym is))
accepts-some Snapshot answer is = absurd (true≢false (sym is))

pub accepted-many : (es : List Entry) → Every (λ e. accepts e ≡ true) es → length es ≤ length (accepted es)
accepted-many [] all = omega arith
accepted-many (e ∷ es) all =
    let parts = length-append (accepted_by e.call e.reply) (accepted es) in
    let some = accepts-some e.call e.reply all.0 in
    let rest = accepted-many es all.1 in
    omega (arith, parts, some, rest)

-- A pass that is alone found no row free for the version that it had pinned: the tree has nearly half the rows, and at most three
-- rows for each of its points and one more
pub alone_room : {L : Type 0} {G : Ghosts L Entry} (r : Rows L Entry) (n : ℕ) (p : Pass L Entry G) (l : Known) → r.shape ≤ 4 → HasPinnedTree r n p → length (seen_of p) ≡ n → length (known_of p).copies ≡ n + 1
    → Builds (known_of p) l → IsCrowded l → r.passes ≡ 1 → r.rows < 8 * (n + 1) + 64
alone_room r n p l few_parts pinned all copies builds crowded one =
    let t = pinned.stands.0 in
    let few = crowded (builds.passes ∙ pinned.is_pass.sized.passes_are ∙ one, (n, pinned.root, builds.pinned ∙ pinned.pinned, ap length builds.copies ∙ copies)) in
    let tree = tree_rows r.shape (pinned_copy (known_of p)) t pinned.stands.1 in
    let same = ap (λ c. length c.rows) (same_copy (known_of p) l builds) in
    let seen = take n (seen_of p) in
    let points : length (points_of t) ≡ length (members (submissions seen)) = sym (how_many-all (points_of t)) ∙ sym (pinned.stands.2 (λ x. true)) ∙ how_many-all (members (submissions seen)) in
    let some = members-few (submissions seen) [] (submissions seen) in
    let submitted = submissions-few seen in
    let taken = length-take n (seen_of p) in
    let rows = pinned.is_pass.sized.rows_are in
    let shape = pinned.is_pass.sized.shape_is in
    omega (arith, few, tree, same, points, some, submitted, taken, all, rows, shape, builds.rows, builds.shape, few_parts)

-- where no row was free for one pass, more points than is safe are accepted or submitted
pub safe_left : (rows passes seen : ℕ) (es : List Entry) → length es ≡ seen → Every (λ e. accepts e ≡ true) es → (passes ≡ 1 → rows < 8 * (seen + 1) + 64) → safe_in rows passes < length (accepted es) + 1
safe_left rows passes seen es all are room = by_test (passes == 1) refl
  where
    by_test : (b : Bool) → (passes == 1) ≡ b → safe_in rows passes < length (accepted es) + 1
    by_test true is =
        let many = accepted-many es are in
        let few = room (eqb-true passes 1 is) in
        let safe : safe_in rows passes ≡ (rows - 64) / 8 = ap (λ t. if t then (rows - 64) / 8 else 0) is in
        omega (arith, many, few, safe, all)
    by_test false is = let safe : safe_in rows passes ≡ 0 = ap (λ t. if t then (rows - 64) / 8 else 0) is in omega (arith, safe)

-- so a safe number of points is below the rows
pub room_safe : (rows passes count : ℕ) → passes ≡ 1 → safe_in rows passes < count → rows < 8 * count + 64
room_safe rows passes count one more =
    let safe : safe_in rows passes ≡ (rows - 64) / 8 = ap (λ n. safe_in rows n) one in omega (arith, more, safe)
