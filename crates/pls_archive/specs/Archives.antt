-- What the calls of an archive on one thread promise, over any rule.
use Rattle.std.specs.Prelude.{◌≡◌, Bool, List, [], ◌∷◌, ◌++◌, if◌then◌else◌}
use Rattle.pls_archive.specs.declared.point.Point.{Point}
use Rattle.pls_archive.specs.declared.call.Call.{Call}
use Rattle.pls_archive.specs.declared.call.Call.TheVariants.{Update}
use Rattle.pls_archive.specs.declared.call.Reply.{Reply}
use Rattle.pls_archive.specs.declared.call.Reply.TheVariants.{Added, Refused, Yes, No}
use Rattle.pls_archive.specs.declared.call.Taken.{Taken}
use Rattle.pls_archive.specs.declared.call.Taken.TheVariants as taken
use Rattle.pls_archive.specs.Lists.{AsOften}

-- the reply that an answer stands for
abbrev pub reply_of : Taken → Reply
reply_of (taken.Added removed) = Added removed
reply_of taken.Refused = Refused

abbrev pub yes_or_no : Bool → Reply
yes_or_no b = if b then Yes else No

module _ (front : List Point → List Point) (reply : List Point → Call → Reply) where
  -- the points are the members after these submissions, in any order
  abbrev pub IsArchiveOf : List Point → List Point → Type 0
  IsArchiveOf all points = AsOften (front all) points

  -- The points of an archive are its own members; for whichever submissions they are the members, the reply is that after these.
  pub record Replies (points : List Point) (call : Call) (answer : Reply) : Type 0 where
    pub own : IsArchiveOf points points
    pub due : (all : List Point) → IsArchiveOf all points → answer ≡ reply all call

  -- and with the submission they are those after one more
  pub record Updates (p : Point) (answer : Taken) (before after : List Point) : Type 0 where
    pub replies : Replies before (Update p) (reply_of answer)
    pub grows : (all : List Point) → IsArchiveOf all before → IsArchiveOf (all ++ p ∷ []) after
