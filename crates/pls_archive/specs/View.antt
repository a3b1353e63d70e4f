-- What a pass at a shared archive is seen as, how a call extends that, and when it is consistent.
use Rattle.std.specs.Prelude.{◌≡◌, ℕ, ◌<◌, ◌≤◌, ◌==◌, nat_le, Bool, true, false, List, [], ◌∷◌, ◌++◌, length, map, take, filter, if◌then◌else◌}
use Rattle.std.specs.List.{range_with_len}
use Rattle.pls_archive.specs.declared.point.Point.{Point}
use Rattle.pls_archive.specs.declared.call.Call.{Call}
use Rattle.pls_archive.specs.declared.call.Reply.{Reply}
use Rattle.pls_archive.specs.declared.call.Entry.{Entry}
use Rattle.pls_archive.specs.Lists.{Every, In, IsPrefix}
use Rattle.pls_archive.specs.History.{submissions, accepts, accepting, IsLegal}
use Rattle.pls_archive.specs.Serialization.{IsRising}

-- a pass: its number, the accepting entries that it has observed, its own entries, and the entries of the callers
-- that were joined into it
pub record View : Type 0 where
  pub number : ℕ
  pub observed : List Entry
  pub own : List Entry
  pub others : List (ℕ × List Entry)

-- a pass that has made no call and observed nothing
abbrev pub new_view : ℕ → View
new_view number = record { number = number; observed = []; own = []; others = [] }

-- the lists that a pass holds, each with its caller
abbrev pub lists_of : View → List (ℕ × List Entry)
lists_of v = (v.number, v.own) ∷ v.others

abbrev pub of_caller : ℕ → List Entry → List Entry
of_caller c es = filter (λ e. e.caller == c) es

module _ (reply : List Point → Call → Reply) where
  -- an observed prefix: a legal history of accepting entries, each of a caller that was started
  pub record IsObserved (started : ℕ) (seen : List Entry) : Type 0 where
    pub legal : IsLegal reply seen
    pub accepted : Every (λ e. accepts e ≡ true) seen
    pub begun : Every (λ e. e.caller < started) seen

  -- The list of a caller, of which a pass that has observed so much knows. Its accepting entries are those of the prefix
  -- that name the caller; each other one has the reply that is right after as many accepting entries as its stamp says.
  pub record IsListOf (seen : List Entry) (c : ℕ) (es : List Entry) : Type 0 where
    pub named : Every (λ e. e.caller ≡ c) es
    pub told : accepting es ≡ of_caller c seen
    pub known : Every (λ e. e.stamp ≤ length seen) es
    pub judged : Every (λ e. accepts e ≡ false → e.reply ≡ reply (submissions (take e.stamp seen)) e.call) es
    pub rising : IsRising es

  -- a consistent view, where so many callers were started
  pub record IsConsistent (started : ℕ) (v : View) : Type 0 where
    pub observed : IsObserved started v.observed
    pub lists : Every (λ (list : ℕ × List Entry). IsListOf v.observed list.0 list.1) (lists_of v)

  -- the entry is right at the end of what is observed: an accepting one is the last of it
  abbrev pub ObservesWith : Bool → List Entry → Entry → List Entry → Type 0
  ObservesWith true seen e after =
      (earlier : List Entry) × IsPrefix seen earlier × (after ≡ earlier ++ e ∷ []) × (e.reply ≡ reply (submissions earlier) e.call)
  ObservesWith false seen e after = IsPrefix seen after × (e.reply ≡ reply (submissions after) e.call)

  -- a call with this entry extends the view
  pub record Extends (before : View) (e : Entry) (after : View) : Type 0 where
    pub number : after.number ≡ before.number
    pub names : e.caller ≡ before.number
    pub own : after.own ≡ before.own ++ e ∷ []
    pub others : after.others ≡ before.others
    pub stamped : e.stamp ≡ length after.observed
    pub observes : ObservesWith (accepts e) before.observed e after.observed

-- a call that was refused may have observed more, and adds no entry
pub record ObservesMore (before after : View) : Type 0 where
  pub number : after.number ≡ before.number
  pub observed : IsPrefix before.observed after.observed
  pub own : after.own ≡ before.own
  pub others : after.others ≡ before.others

-- one pass takes over the lists of another, and keeps the longer observed prefix
pub record Joins (before other after : View) : Type 0 where
  pub number : after.number ≡ before.number
  pub observed : after.observed ≡ (if nat_le (length other.observed) (length before.observed) then before.observed else other.observed)
  pub own : after.own ≡ before.own
  pub others : after.others ≡ before.others ++ lists_of other

-- the list of a caller among lists with their callers: the first that there is
abbrev pub list_of : ℕ → List (ℕ × List Entry) → List Entry
list_of c [] = []
list_of c (list ∷ lists) = if list.0 == c then list.1 else list_of c lists

-- the lists of the callers 0 up to `started`, in order
abbrev pub held : ℕ → View → List (List Entry)
held started v = map (λ c. list_of c (lists_of v)) (range_with_len 0 started)

-- the pass holds the lists of all callers that were started
abbrev pub HoldsAll : ℕ → View → Type 0
HoldsAll started v = (c : ℕ) → c < started → In c (map (λ (list : ℕ × List Entry). list.0) (lists_of v))
