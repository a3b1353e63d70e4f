-- The entries of the callers' runs in their serialization.
use Rattle.std.proofs.Common.{ℕ, ◌==◌, List, ◌++◌, map, refl, sym, subst, inl}
use Rattle.std.specs.List.{flat_map}
use Rattle.pls_archive.specs.declared.point.Point.{Point}
use Rattle.pls_archive.specs.declared.call.Call.{Call}
use Rattle.pls_archive.specs.declared.call.Reply.{Reply}
use Rattle.pls_archive.specs.declared.call.Entry.{Entry}
use Rattle.pls_archive.specs.Lists.{In}
use Rattle.pls_archive.specs.Serialization.{AreSequentiallyConsistent, serialization}
use Rattle.pls_archive.specs.Explorations.{Exploration, CallerRun, entries_of, entries_of_run}
use Rattle.pls_archive.specs.SearchRun.{EndsWithSnapshot}
use Rattle.pls_archive.proofs.Every.{In-left, In-right}
use Rattle.pls_archive.proofs.Membership.{In-map, In-flat_map, In-filter, In-slice_get}
use Rattle.pls_archive.proofs.OwnOrder.{own_order}

abbrev pub serialized : ℕ → List CallerRun → List Entry
serialized n runs = serialization n (map entries_of_run runs)

module _ (reply : List Point → Call → Reply) (n : ℕ) (runs : List CallerRun) (lawful : AreSequentiallyConsistent reply n (map entries_of_run runs)) where
  entry-In : (r : CallerRun) → In r runs → (e : Entry) → In e (entries_of_run r) → In e (serialized n runs)
  entry-In r of_runs e here =
      let lists = map entries_of_run runs in
      let place = In-slice_get (entries_of_run r) lists (In-map entries_of_run r runs of_runs) in
      In-filter (λ d. d.caller == place.0) e (serialized n runs)
      (subst (In e) (sym (own_order reply n lists lawful place.0 (entries_of_run r) place.1)) here)

  -- those of an exploration
  pub exploration-In :
      (r : CallerRun) → In r runs → (x : Exploration) → In x r.explorations → (e : Entry) → In e (entries_of x) → In e (serialized n runs)
  exploration-In r of_runs x there e here =
      entry-In r of_runs e
      (In-right e r.starts (flat_map entries_of r.explorations ++ r.last)
      (In-left e (flat_map entries_of r.explorations) r.last (In-flat_map entries_of e x r.explorations there here)))

  -- and the last one of a run that ends with a snapshot
  pub snapshot-In : (r : CallerRun) → In r runs → (ends : EndsWithSnapshot n r) → In ends.entry (serialized n runs)
  snapshot-In r of_runs ends =
      entry-In r of_runs ends.entry
      (In-right ends.entry r.starts (flat_map entries_of r.explorations ++ r.last)
      (In-right ends.entry (flat_map entries_of r.explorations) r.last (subst (In ends.entry) (sym ends.only) (inl refl))))
