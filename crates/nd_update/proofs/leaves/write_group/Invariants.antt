use Rattle.std.proofs.Common.{◌≡◌, ◌≤◌, [], ◌∷◌, length, take}
use Rattle.era_rows.specs.Known.{known_words}
use Rattle.era_rows.specs.Passes.{known_of, work_of}
use Rattle.nd_rows.specs.declared.layout.TheConstants.{FIRST_LINK}
use Rattle.nd_rows.specs.Layout.{HasWords}
use Rattle.nd_update.specs.Building.{Does}
use Rattle.nd_update.specs.Insertion.{at_places}
use Rattle.nd_update.specs.Needed.{ReadsOnly}
use Rattle.nd_update.specs.FilledLeaves.{values_box}
use Rattle.nd_update.proofs.leaves.write_group.Given as goal

-- the points at the places before this one are linked, and the box is that around them
abbrev pub invariant-loop-k : goal.invariant-loop-k
invariant-loop-k l = record {
  least : 1 ≤ l.k;
  does : Does l.rows (l.leaf ∷ []) [] (l.leaf ∷ []) l.fn.pass l.pass;
  work : work_of l.pass ≡ work_of l.fn.pass;
  only : ReadsOnly [] (known_of l.fn.pass) (known_of l.pass);
  linked : HasWords (known_words (known_of l.pass)) l.leaf FIRST_LINK (at_places l.links (take l.k l.group));
  long : length (at_places l.links (take l.k l.group)) ≡ l.k;
  range : l.range ≡ values_box (at_places l.values (take l.k l.group));
  ideal : length l.range.ideal ≡ l.rows.shape;
  nadir : length l.range.nadir ≡ l.rows.shape;
}
