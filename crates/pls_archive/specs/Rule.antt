-- What a rule of an archive is: which submissions are its members, and what it replies to a call.
use Rattle.std.specs.Prelude.{◌≡◌, ℤ, Bool, true, false, List, [], ◌∷◌, ◌++◌, if◌then◌else◌}
use Rattle.pls_archive.specs.declared.point.Point.{Point}
use Rattle.pls_archive.specs.declared.call.Call.{Call}
use Rattle.pls_archive.specs.declared.call.Call.TheVariants.{Update, Covered, Member, Snapshot}
use Rattle.pls_archive.specs.declared.call.Reply.{Reply}
use Rattle.pls_archive.specs.declared.call.Reply.TheVariants.{Added, Refused, Yes, No, Points}
use Rattle.pls_archive.specs.Lists.{In}
use Rattle.pls_archive.specs.Reply.{has_value, in_order}

-- the points that a call submits
abbrev pub submitted_by : Call → List Point
submitted_by (Update p) = p ∷ []
submitted_by (Covered v) = []
submitted_by (Member v) = []
submitted_by Snapshot = []

-- the points that a call with this reply brought into the archive
abbrev pub accepted_by : Call → Reply → List Point
accepted_by (Update p) (Added removed) = p ∷ []
accepted_by (Update p) Refused = []
accepted_by (Update p) Yes = []
accepted_by (Update p) No = []
accepted_by (Update p) (Points points) = []
accepted_by (Covered v) reply = []
accepted_by (Member v) reply = []
accepted_by Snapshot reply = []

-- a call with this reply brought something in
abbrev pub is_accepting : Call → Reply → Bool
is_accepting (Update p) (Added removed) = true
is_accepting (Update p) Refused = false
is_accepting (Update p) Yes = false
is_accepting (Update p) No = false
is_accepting (Update p) (Points points) = false
is_accepting (Covered v) reply = false
is_accepting (Member v) reply = false
is_accepting Snapshot reply = false

-- The laws of a rule: `front` gives the members of the archive after submissions, and `reply` its reply to a call then.
module _ (front : List Point → List Point) (reply : List Point → Call → Reply) where
  pub record IsRule : Type 0 where
    -- the members after one more submission are given by the members before it
    pub grows : (all : List Point) (p : Point) → front (all ++ p ∷ []) ≡ front (front all ++ p ∷ [])
    -- and so are the replies
    pub replies_from_members : (all : List Point) (call : Call) → reply all call ≡ reply (front all) call
    -- a call that brings nothing in changes no member
    pub unaccepting :
        (all : List Point) (call : Call) → is_accepting call (reply all call) ≡ false → front (all ++ submitted_by call) ≡ front all
    -- a value that was submitted is refused
    pub same_value : (all : List Point) (p q : Point) → In q all → q.value ≡ p.value → reply all (Update p) ≡ Refused
    -- a point that is brought in is a member
    pub admits : (all : List Point) (p : Point) → is_accepting (Update p) (reply all (Update p)) ≡ true → In p (front (all ++ p ∷ []))
    -- each member was submitted
    pub members_submitted : (all : List Point) (p : Point) → In p (front all) → In p all
    -- questions of membership and for the members are answered from the members
    pub member : (all : List Point) (v : List ℤ) → reply all (Member v) ≡ (if has_value (front all) v then Yes else No)
    pub snapshot : (all : List Point) → reply all Snapshot ≡ Points (in_order (front all))
    -- a value is covered where a point of that value is not brought in
    pub covered :
        (all : List Point) (p : Point) → reply all (Covered p.value) ≡ (if is_accepting (Update p) (reply all (Update p)) then No else Yes)
