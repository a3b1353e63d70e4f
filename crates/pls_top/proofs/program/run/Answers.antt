use Rattle.pls_top.proofs.Endings.{usage_exactly, asks_source, read_fault_rose, write_fault_rose, source_failed, sink_failed, too_long_exactly, bad_instance_exactly, shows_no_free_row, complete_answer, reads_all, fault_line_written, read_line_in_part, answers_with}
use Rattle.pls_top.proofs.Fronts.{IsRunOf-IsSoundRun}
use Rattle.pls_top.proofs.program.run.Goals as goal

pub returns-clause-usage : goal.returns-clause-usage
returns-clause-usage g c = usage_exactly _ _ _ _ _ c.serve.ensures.ending

pub returns-clause-asked : goal.returns-clause-asked
returns-clause-asked g c = asks_source _ _ _ _ _ c.serve.ensures.ending

pub returns-clause-read_fault : goal.returns-clause-read_fault
returns-clause-read_fault g c = read_fault_rose _ _ _ _ _ c.serve.ensures.ending

pub returns-clause-write_fault : goal.returns-clause-write_fault
returns-clause-write_fault g c = write_fault_rose _ _ _ _ _ c.serve.ensures.ending

pub returns-clause-source_failed : goal.returns-clause-source_failed
returns-clause-source_failed g c = source_failed _ _ _ _ _ c.serve.ensures.ending

pub returns-clause-sink_failed : goal.returns-clause-sink_failed
returns-clause-sink_failed g c = sink_failed _ _ _ _ _ c.serve.ensures.ending

pub returns-clause-too_long : goal.returns-clause-too_long
returns-clause-too_long g c = too_long_exactly _ _ _ _ _ c.serve.ensures.ending

pub returns-clause-bad_instance : goal.returns-clause-bad_instance
returns-clause-bad_instance g c = bad_instance_exactly _ _ _ _ _ c.serve.ensures.ending

pub returns-clause-full : goal.returns-clause-full
returns-clause-full g c = shows_no_free_row _ _ _ _ _ c.serve.ensures.ending

pub returns-clause-complete : goal.returns-clause-complete
returns-clause-complete g c = complete_answer _ _ _ _ _ c.serve.ensures.ending

pub returns-clause-reads_all : goal.returns-clause-reads_all
returns-clause-reads_all g c = reads_all _ _ _ _ _ c.serve.ensures.ending

pub returns-clause-fault_line : goal.returns-clause-fault_line
returns-clause-fault_line g c = fault_line_written _ _ _ _ _ c.serve.ensures.ending

pub returns-clause-read_line_in_part : goal.returns-clause-read_line_in_part
returns-clause-read_line_in_part g c = read_line_in_part _ _ _ _ _ c.serve.ensures.ending

pub returns-clause-sound : goal.returns-clause-sound
returns-clause-sound g c = IsRunOf-IsSoundRun

pub returns-clause-answer : goal.returns-clause-answer
returns-clause-answer g c bytes tells = answers_with _ _ _ _ _ bytes tells c.serve.ensures.ending

pub returns-clause-no_journal : goal.returns-clause-no_journal
returns-clause-no_journal g c = c.serve.ensures.no_journal
