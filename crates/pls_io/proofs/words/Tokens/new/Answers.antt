use Rattle.pls_io.proofs.LongestRuns.{words-are_runs}
use Rattle.pls_io.proofs.words.Tokens.new.Goals as goal

pub returns-clause-runs : goal.returns-clause-runs
returns-clause-runs c = words-are_runs c.args.text.now
