-- What the calls of a shared archive promise of the pass that makes them.
use Rattle.std.specs.Prelude.{ℕ, List}
use Rattle.pls_archive.specs.declared.point.Point.{Point}
use Rattle.pls_archive.specs.declared.call.Call.{Call}
use Rattle.pls_archive.specs.declared.call.Reply.{Reply}
use Rattle.pls_archive.specs.View.{View, IsConsistent, Extends, ObservesMore}

module _ (reply : List Point → Call → Reply) (started : ℕ) where
  -- the call had this answer and this stamp: its entry extended the view, which is consistent
  pub record Answers (before : View) (call : Call) (answer : Reply) (stamp : ℕ) (after : View) : Type 0 where
    pub extends : Extends reply before (record { caller = before.number; stamp = stamp; call = call; reply = answer }) after
    pub consistent : IsConsistent reply started after

  -- the call was refused: the pass may have observed more, and its view is consistent
  pub record IsRefused (before after : View) : Type 0 where
    pub observes_more : ObservesMore before after
    pub consistent : IsConsistent reply started after
