use Rattle.std.proofs.Common.{[], sym, ap, subst}
use Rattle.era_rows.specs.declared.views.Knows.{Knows}
use Rattle.era_rows.specs.Passes.{known_of}
use Rattle.pls_archive.specs.declared.call.Entry.{Entry}
use Rattle.nd_update.specs.Counted.{IsWithin, IsCrowded, IsShort}
use Rattle.nd_update.proofs.Reading.{only_same}
use Rattle.nd_update.proofs.Opening.{only_kept}
use Rattle.nd_update.proofs.Going.{still_within, still_crowded, still_short}
use Rattle.nd_update.proofs.builds.give_up.Goals as goal

pub returns-clause-within : goal.returns-clause-within
returns-clause-within c within =
    let back = c.give_all_back.ensures in
    subst IsWithin (sym (ap (λ (k : Knows Entry). k.view) c.unmark.ensures.known)) (still_within (known_of c.args.pass.now) (known_of c.give_all_back.new.pass) back.builds back.looks within)

pub returns-clause-crowded : goal.returns-clause-crowded
returns-clause-crowded c crowded =
    let back = c.give_all_back.ensures in
    subst IsCrowded (sym (ap (λ (k : Knows Entry). k.view) c.unmark.ensures.known)) (still_crowded (known_of c.args.pass.now) (known_of c.give_all_back.new.pass) back.builds crowded)

pub returns-clause-short : goal.returns-clause-short
returns-clause-short c short =
    let back = c.give_all_back.ensures in
    subst IsShort (sym (ap (λ (k : Knows Entry). k.view) c.unmark.ensures.known)) (still_short (known_of c.args.pass.now) (known_of c.give_all_back.new.pass) back.builds back.looks back.full back.retired short)

pub returns-clause-only : goal.returns-clause-only
returns-clause-only c =
    let p = c.args.pass.now in
    let q = c.give_all_back.new.pass in
    let back = c.give_all_back.ensures in
    only_kept [] (known_of p) q c.unmark.new.pass c.unmark.ensures.known (only_same (known_of p) (known_of q) back.looks back.builds.since back.builds.rows back.builds.passes)
