use Rattle.std.proofs.Common.{◌≡◌, ◌+◌, length, All, drop}
use Rattle.std.specs.List.{concat}
use Rattle.nd_tree.specs.Split.{value_at, lists_in, joined}
use Rattle.nd_tree.proofs.groups.join_all.Given as goal

abbrev pub invariant-loop-place : goal.invariant-loop-place
invariant-loop-place l = record {
  lists : joined l.values (lists_in l.lists) l.boxes (drop l.place-index l.left) ≡ joined l.values (lists_in l.fn.lists) l.fn.boxes l.left;
  box_parts : All (λ b. length b.ideal ≡ length (value_at l.values 0)) l.boxes;
  many : length (concat (lists_in l.lists)) ≡ length (concat (lists_in l.fn.lists)) + l.place-index;
}
