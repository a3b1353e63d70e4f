use Rattle.std.proofs.Common.{vec_len}
use Rattle.pls_search.proofs.worker.Search.+together.Given as goal

abbrev pub decreases-together : goal.decreases-together
decreases-together g l = vec_len l.crew.passes
