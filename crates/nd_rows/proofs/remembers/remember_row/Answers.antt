use Rattle.std.proofs.Common.{◌%◌, Some, List, ℤ, [], ◌∷◌, length, sym, ap, subst, ◌∙◌}
use Rattle.std.specs.Prelude.{slice_set}
use Rattle.era_rows.specs.Passes.{known_of, seen_of, memory_of}
use Rattle.era_rows.specs.declared.views.Knows.{Knows}
use Rattle.pls_archive.specs.declared.call.Entry.{Entry}
use Rattle.pls_archive.specs.History.{submissions}
use Rattle.pls_archive.specs.Reply.{has_value}
use Rattle.nd_rows.specs.Entries.{memory_words}
use Rattle.nd_rows.specs.Reads.{ReadsIn}
use Rattle.nd_rows.proofs.FoundPoints.{value_among}
use Rattle.nd_rows.proofs.remembers.remember_row.Goals as goal

pub read_value-value-requires-clause-point : goal.read_value-value-requires-clause-point
read_value-value-requires-clause-point c = (c.requires.point.0, c.requires.point.1)

pub remember-requires-clause-parts : goal.remember-requires-clause-parts
remember-requires-clause-parts c =
    let has = c.requires.point.1 in
    let looks = c.read_value-value.ensures.looks in
    ap length (c.read_value-value.ensures.value c.requires.point.0 has) ∙ has.value.parts ∙ sym looks.is_pass.sized.shape_is

pub remember-requires-clause-submitted : goal.remember-requires-clause-submitted
remember-requires-clause-submitted c =
    let point = c.requires.point in
    let looks = c.read_value-value.ensures.looks in
    ap (has_value (submissions (seen_of c.read_value-value.new.pass))) (c.read_value-value.ensures.value point.0 point.1)
    ∙ ap (λ (entries : List Entry). has_value (submissions entries) point.0.value) looks.same_seen
    ∙ value_among (submissions (seen_of c.args.pass.now)) point.0 point.2

pub returns-clause-pass : goal.returns-clause-pass
returns-clause-pass c = c.remember.ensures.pass c.args.rows.now c.read_value-value.ensures.looks.is_pass

pub returns-clause-reads : goal.returns-clause-reads
returns-clause-reads c = subst (λ (k : Knows Entry). ReadsIn (c.args.row ∷ []) (known_of c.args.pass.now) k.view) (sym c.remember.ensures.known) c.read_value-value.ensures.looks.reads

pub returns-clause-kept : goal.returns-clause-kept
returns-clause-kept c =
    let looks = c.read_value-value.ensures.looks in
    let now = c.remember.ensures in record {
      same_number = now.number ∙ looks.same_number;
      same_work = now.work ∙ c.read_value-value.ensures.work;
      same_marks = now.marks ∙ looks.same_marks;
      same_seen = ap (λ (k : Knows Entry). k.seen) now.known ∙ looks.same_seen;
      same_lists = ap (λ (k : Knows Entry). k.lists) now.known ∙ looks.same_lists;
    }

pub returns-clause-memory : goal.returns-clause-memory
returns-clause-memory c p has =
    c.remember.ensures.memory
    ∙ ap (λ (v : List ℤ). slice_set (memory_of c.read_value-value.new.pass) (c.args.row % 16) (Some (memory_words v))) (c.read_value-value.ensures.value p has)
    ∙ ap (λ memory. slice_set memory (c.args.row % 16) (Some (memory_words p.value))) c.read_value-value.ensures.looks.same_memory
