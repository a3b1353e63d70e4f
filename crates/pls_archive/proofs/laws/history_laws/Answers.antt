use Rattle.pls_archive.proofs.Counted.{same_totals, counts_accepting}
use Rattle.pls_archive.proofs.OwnOrder.{own_order}
use Rattle.pls_archive.proofs.ValuesOnce.{accepts_values_once, callers_accept_values_once}
use Rattle.pls_archive.proofs.ViewsInOrder.{holds_in_order}
use Rattle.pls_archive.proofs.ViewsLawful.{views_are_lawful}
use Rattle.pls_archive.proofs.laws.history_laws.Goals as goal

pub returns-clause-own_order : goal.returns-clause-own_order
returns-clause-own_order c = own_order

pub returns-clause-totals : goal.returns-clause-totals
returns-clause-totals c = same_totals

pub returns-clause-counted : goal.returns-clause-counted
returns-clause-counted c = counts_accepting

pub returns-clause-values : goal.returns-clause-values
returns-clause-values c = accepts_values_once

pub returns-clause-callers_values : goal.returns-clause-callers_values
returns-clause-callers_values c = callers_accept_values_once

pub returns-clause-views : goal.returns-clause-views
returns-clause-views c = views_are_lawful

pub returns-clause-in_order : goal.returns-clause-in_order
returns-clause-in_order c = holds_in_order
