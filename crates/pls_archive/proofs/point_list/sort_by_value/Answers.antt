use Rattle.std.proofs.Common.{rules}
use Rattle.std.proofs.lemmas.Result.{on_ok_weaker}
use Rattle.pls_archive.proofs.InOrder.{by_value-IsStrictWeakOrder}
use Rattle.std.proofs.lemmas.Fn.{always_returns_same}
use Rattle.pls_archive.proofs.point_list.sort_by_value.Goals as goal

pub returns-clause-ascending : goal.returns-clause-ascending
returns-clause-ascending c =
    on_ok_weaker c.sort_by.result (λ sorted. sorted _ by_value-IsStrictWeakOrder (always_returns_same _ _ _ (λ a r f' k. search rules))) c.sort_by.ensures.sorted
