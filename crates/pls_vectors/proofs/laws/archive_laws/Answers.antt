use Rattle.pls_vectors.specs.Dominance.{weakly_dominates}
use Rattle.pls_vectors.proofs.Archive.{weakly_dominated_by-archive, archive-with_submission, archive-submitted}
use Rattle.pls_vectors.proofs.ArchiveOfMembers.{archive-incomparable, archive-archive, archive-append_archive}
use Rattle.pls_vectors.proofs.Dominance.{weakly_dominates-IsPreorder}
use Rattle.pls_vectors.proofs.laws.archive_laws.Goals as goal

pub returns-clause-covers : goal.returns-clause-covers
returns-clause-covers c = weakly_dominated_by-archive weakly_dominates-IsPreorder

pub returns-clause-one_more : goal.returns-clause-one_more
returns-clause-one_more c = archive-with_submission weakly_dominates-IsPreorder

pub returns-clause-again : goal.returns-clause-again
returns-clause-again c = archive-archive weakly_dominates-IsPreorder

pub returns-clause-later : goal.returns-clause-later
returns-clause-later c = archive-append_archive weakly_dominates-IsPreorder

pub returns-clause-incomparable : goal.returns-clause-incomparable
returns-clause-incomparable c = archive-incomparable weakly_dominates-IsPreorder

pub returns-clause-submitted : goal.returns-clause-submitted
returns-clause-submitted c = archive-submitted weakly_dominates
