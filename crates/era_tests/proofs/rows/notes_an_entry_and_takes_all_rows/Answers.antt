use Rattle.std.proofs.Common.{rules, ap}
use Rattle.atomic_table.proofs.Lists.{at_index}
use Rattle.era_tests.proofs.rows.notes_an_entry_and_takes_all_rows.Goals as goal

pub note-requires : goal.note-requires
note-requires g c =
    let started = c.in_ok-rows.ensures.passes 0 c.index_mut-pass.result.now (at_index _ 0 _ (search rules) (search rules)) in
    (started.is_pass, ap (λ k. k.core.pinned) started.knows, ap (λ k. k.core.number) started.knows)
