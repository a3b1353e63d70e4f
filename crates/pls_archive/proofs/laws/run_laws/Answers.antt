use Rattle.pls_archive.proofs.ClosedFront.{closes_front}
use Rattle.pls_archive.proofs.LocalOptima.{ends_in_local_optima}
use Rattle.pls_archive.proofs.SequentialOnly.{only_sequential_run}
use Rattle.pls_archive.proofs.SequentialSound.{runs_sequentially}
use Rattle.pls_archive.proofs.Stopped.{stops_with_more}
use Rattle.pls_archive.proofs.ToldFront.{tells_front}
use Rattle.pls_archive.proofs.laws.run_laws.Goals as goal

pub returns-clause-stopped : goal.returns-clause-stopped
returns-clause-stopped c = stops_with_more

pub returns-clause-sequential : goal.returns-clause-sequential
returns-clause-sequential c = runs_sequentially

pub returns-clause-only : goal.returns-clause-only
returns-clause-only c = only_sequential_run

pub returns-clause-front : goal.returns-clause-front
returns-clause-front c = tells_front

pub returns-clause-closed : goal.returns-clause-closed
returns-clause-closed c = closes_front

pub returns-clause-local_optima : goal.returns-clause-local_optima
returns-clause-local_optima c = ends_in_local_optima
