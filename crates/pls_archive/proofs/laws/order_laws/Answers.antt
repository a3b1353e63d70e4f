use Rattle.pls_archive.proofs.InOrder.{in_order-IsPermutation, in_order-IsSorted, sorted_members-in_order}
use Rattle.pls_archive.proofs.laws.order_laws.Goals as goal

pub returns-clause-same : goal.returns-clause-same
returns-clause-same c = in_order-IsPermutation

pub returns-clause-ascending : goal.returns-clause-ascending
returns-clause-ascending c = in_order-IsSorted

pub returns-clause-only : goal.returns-clause-only
returns-clause-only c = sorted_members-in_order
