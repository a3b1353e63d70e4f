use Rattle.std.specs.Prelude.{◌≡◌, ℕ, ◌-◌, ◌<◌, List, ◌++◌, length, take, drop, Contains, ◌⊎◌}
use Rattle.pls_io.specs.Streams.{counted}

-- a source over memory
pub record SourceState : Type 0 where
  pub left : List ℕ  -- the bytes that it has yet to give
  pub call : ℕ  -- the number of its next call, from 1
  pub fails : List ℕ  -- the numbers of the calls that fail
  pub faults : ℕ  -- how many have failed

-- a sink over memory
pub record SinkState : Type 0 where
  pub written : List ℕ  -- the bytes that it has taken
  pub room : ℕ  -- how many more it can take
  pub most : ℕ  -- how many it takes in a call
  pub call : ℕ
  pub fails : List ℕ
  pub faults : ℕ

-- the state after a call that gave n bytes
abbrev pub gave : ℕ → SourceState → SourceState
gave n s = record s { left = drop n s.left; call = counted s.call }

-- the state after a call that failed
abbrev pub source_failed : SourceState → SourceState
source_failed s = record s { call = counted s.call; faults = counted s.faults }

-- the state after a call that took the first n bytes of a piece
abbrev pub took : ℕ → List ℕ → SinkState → SinkState
took n piece s = record s { written = s.written ++ take n piece; room = s.room - n; call = counted s.call }

abbrev pub sink_failed : SinkState → SinkState
sink_failed s = record s { call = counted s.call; faults = counted s.faults }

-- a write of the piece fails: it is planned to, or there is no room for any of it
abbrev pub CannotTake : List ℕ → SinkState → Type 0
CannotTake piece s = Contains s.fails s.call ⊎ ((s.room ≡ 0) × (0 < length piece))
