use Rattle.std.proofs.Common.{vec_len}
use Rattle.pls_search.proofs.worker.Search.+gather.Given as goal

abbrev pub decreases-gather : goal.decreases-gather
decreases-gather g l = vec_len l.crew.passes
