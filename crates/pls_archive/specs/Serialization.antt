-- Sequentially consistent histories: when the lists of several callers stand in one legal history.
use Rattle.std.specs.Prelude.{◌≡◌, ℕ, zero, suc, ◌+◌, ◌==◌, ◌≤◌, ◌&&◌, not, nat_lt, nat_le, List, [], ◌∷◌, ◌++◌, length, filter}
use Rattle.std.specs.List.{flat_map}
use Rattle.pls_archive.specs.declared.point.Point.{Point}
use Rattle.pls_archive.specs.declared.call.Call.{Call}
use Rattle.pls_archive.specs.declared.call.Reply.{Reply}
use Rattle.pls_archive.specs.declared.call.Entry.{Entry}
use Rattle.pls_archive.specs.Lists.{Every, one_if}
use Rattle.pls_archive.specs.History.{accepts, IsLegal}

-- the accepting entries of a list with this stamp, and its other ones
abbrev pub accepting_at : ℕ → List Entry → List Entry
accepting_at n es = filter (λ e. accepts e && (e.stamp == n)) es

abbrev pub others_at : ℕ → List Entry → List Entry
others_at n es = filter (λ e. not (accepts e) && (e.stamp == n)) es

-- the entries of all callers with one stamp: the accepting ones in order of caller, then the other ones in order of caller
abbrev pub at_stamp : ℕ → List (List Entry) → List Entry
at_stamp n lists = flat_map (accepting_at n) lists ++ flat_map (others_at n) lists

-- the lists of the callers 0, 1 and so on as one list, up to stamp n
abbrev pub serialization : ℕ → List (List Entry) → List Entry
serialization zero lists = at_stamp zero lists
serialization (suc n) lists = serialization n lists ++ at_stamp (suc n) lists

-- each list names its caller, counted from c
abbrev pub AreNamed : ℕ → List (List Entry) → Type 0
AreNamed c [] = Unit {0}
AreNamed c (es ∷ lists) = Every (λ e. e.caller ≡ c) es × AreNamed (suc c) lists

-- stamps never fall along the list, and an accepting entry has a greater one than every entry before it
abbrev pub IsRising : List Entry → Type 0
IsRising [] = Unit {0}
IsRising (d ∷ es) = Every (λ e. d.stamp + one_if (accepts e) ≤ e.stamp) es × IsRising es

-- the lists of the callers 0, 1 and so on, with n accepting entries in all, stand in one legal history
pub record AreSequentiallyConsistent (reply : List Point → Call → Reply) (n : ℕ) (lists : List (List Entry)) : Type 0 where
  pub named : AreNamed 0 lists
  -- the stamps of the accepting entries are 1 to n, each once
  pub stamped : (k : ℕ) → length (flat_map (accepting_at k) lists) ≡ one_if (nat_lt 0 k && nat_le k n)
  pub within : Every (Every (λ e. e.stamp ≤ n)) lists
  pub rising : Every IsRising lists
  pub legal : IsLegal reply (serialization n lists)
