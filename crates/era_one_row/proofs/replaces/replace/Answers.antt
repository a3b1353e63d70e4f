use Rattle.std.proofs.Common.{◌≡◌, ℕ, ◌+◌, Some, length, refl, sym, ap, subst, ◌∙◌, arith}
use Rattle.era_rows.specs.Known.{Known, copy_known}
use Rattle.era_rows.specs.Passes.{known_of, looks_of}
use Rattle.era_rows.specs.declared.views.Knows.{Knows}
use Rattle.std.specs.Prelude.{Err}
use Rattle.era_rows.specs.declared.refusal.PublishRefusal.TheVariants.{Beaten}
use Rattle.era_one_row.specs.declared.law.Stamped.{Stamped}
use Rattle.era_one_row.proofs.GoingOn.{begins_twice, pin_stays}
use Rattle.era_one_row.proofs.FindingRows.{may_looked, tidies_last, replacing_takes, left_tidies_last, left_takes, shown_full, found_alone, shows_left}
use Rattle.era_one_row.proofs.Replacing.{found}
use lib.ListN.{get_elem?}
use Rattle.era_one_row.proofs.replaces.replace.Goals as goal
use Rattle.era_one_row.proofs.replaces.replace.Goals.{After-tidy-2}
use Rattle.era_rows.specs.Evidence.{ShowsFull}
use Rattle.era_rows.proofs.Evidence.{knows_number}
use Rattle.era_one_row.specs.Finding.{FindsRow, TidiesLast, TakesAtMost}
use Rattle.std.specs.Prelude.{None}
use Rattle.era_rows.specs.Known.{leaving}

pub returns-in-Ok-clause-version : goal.returns-in-Ok-clause-version
returns-in-Ok-clause-version c v done =
    let same : c.in-Ok.version ≡ v = cc in
    let k = known_of c.prepare.new.pass in
    let row = c.in-Some.row in
    let ready = c.in-Some.ensures.ready in
    record {
      copy = copy_known k row;
      there = ap (λ (x : Known). get_elem? x.copies v) c.tidy-2.ensures.tidied.now ∙ ap (get_elem? (known_of c.finish-published.new.pass).copies) (sym same) ∙ c.in-Ok.ensures.copy;
      number_is = found k row ready.no_links 1 (c.open-pin.result.0 + 1) c.in-Some.ensures.word ∙ ap Some (sym c.in-Ok.ensures.version ∙ same);
    }

pub returns-in-Err-Beaten-clause-beaten : goal.returns-in-Err-Beaten-clause-beaten
returns-in-Err-Beaten-clause-beaten c v is =
    let same : c.in-Err-Beaten.version ≡ v = cc in
    let field : c.in-Err-Beaten.field-0 ≡ Beaten c.in-Err-Beaten.version = rw c.in-Err-Beaten.is at c.in-Err-Beaten.field-0-is in
    let answer : c.finish-published.result ≡ Err (Beaten v) = c.in-Err-Beaten.is ∙ ap Err field ∙ ap (λ (x : ℕ). Err (Beaten x)) same in
    let told = c.finish-published.ensures.beaten v answer in
    let opened = known_of c.open-pin.new.pass in
    let ready = known_of c.prepare.new.pass in
    let ended = known_of c.finish-published.new.pass in
    let scan = looks_of ended.passes ended.rows 0 c.tidy-2.ensures.tidied.words in
    let pinned = pin_stays c.open-pin.result.0 (known_of c.args.pass.now) opened ended c.open-pin.ensures.pinned (begins_twice opened.looks ready.looks ended.looks (may_looked opened ready c.prepare.ensures.on) c.finish-published.ensures.on.looked) (c.finish-published.ensures.same_pin ∙ c.prepare.ensures.same_pin) in
    record {
      current = told.1 ∙ ap length (sym c.tidy-2.ensures.same.same_seen);
      pin = c.open-pin.result.0;
      pinned = pin_stays c.open-pin.result.0 (known_of c.args.pass.now) ended (known_of c.tidy-2.new.pass) pinned (scan, sym (ap (λ (x : Known). x.looks) c.tidy-2.ensures.tidied.now)) (ap (λ (x : Known). x.since) c.tidy-2.ensures.tidied.now);
      later = told.0;
    }

-- no row was found: the search, and what the pass knew after it left its version
none_found : (c : goal.After-tidy) → FindsRow c.args.rows.now.rows (known_of c.open-pin.new.pass) (known_of c.prepare.new.pass) None
none_found c = c.in_default.ensures.searched refl

left : (c : goal.After-tidy) → known_of c.unpin.new.pass ≡ leaving (known_of c.prepare.new.pass)
left c = ap (λ (k : Knows Stamped). k.view) c.unpin.ensures.left

pub returns-in_default-clause-full : goal.returns-in_default-clause-full
returns-in_default-clause-full c _ =
    let rows = c.args.rows.now in
    let begun = known_of c.args.pass.now in
    let opened = known_of c.open-pin.new.pass in
    let reads = c.open-pin.ensures.reads in
    let most = length begun.core.fresh in
    let shown = shown_full c.open-pin.result.0 rows.rows most c.open-pin.new.pass.number begun opened (known_of c.prepare.new.pass) reads.is_pass.sized.rows_are c.open-pin.ensures.pinned c.open-pin.ensures.on (knows_number c.open-pin.new.pass) reads.older (none_found c) (let same = ap length c.open-pin.ensures.fresh in omega arith) in
    shows_left rows.passes rows.rows most begun (known_of c.prepare.new.pass) (known_of c.unpin.new.pass) (known_of c.tidy.new.pass)
    (subst (λ p. ShowsFull p rows.rows most begun (known_of c.prepare.new.pass)) reads.is_pass.sized.passes_are (subst (λ r. ShowsFull opened.passes r most begun (known_of c.prepare.new.pass)) reads.is_pass.sized.rows_are shown))
    (left c) c.tidy.ensures.tidied

pub returns-in_default-clause-alone : goal.returns-in_default-clause-alone
returns-in_default-clause-alone c one fewer _ =
    let rows = c.args.rows.now in
    let opened = known_of c.open-pin.new.pass in
    let reads = c.open-pin.ensures.reads in
    found_alone rows.rows c.open-pin.new.pass.number opened (known_of c.prepare.new.pass) reads.is_pass.sized.rows_are (knows_number c.open-pin.new.pass) reads.older
    (reads.is_pass.sized.passes_are ∙ one, (c.open-pin.result.0, c.open-pin.result.1, reads.pinned, reads.last))
    (let same = ap length c.open-pin.ensures.fresh in let pinned = ap length reads.alone in omega arith) (none_found c)

pub returns-in_default-clause-tidied : goal.returns-in_default-clause-tidied
returns-in_default-clause-tidied c = left_tidies_last (known_of c.args.pass.now) (known_of c.open-pin.new.pass) (known_of c.prepare.new.pass) (known_of c.unpin.new.pass) (known_of c.tidy.new.pass) c.open-pin.ensures.on c.prepare.ensures.on (left c) c.tidy.ensures.tidied

pub returns-in_default-clause-takes : goal.returns-in_default-clause-takes
returns-in_default-clause-takes c =
    let sized = c.unpin.ensures.pass.sized in
    left_takes c.args.rows.now.passes c.args.rows.now.rows (known_of c.args.pass.now) (known_of c.open-pin.new.pass) (known_of c.prepare.new.pass) (known_of c.unpin.new.pass) (known_of c.tidy.new.pass) c.open-pin.ensures.on c.prepare.ensures.on (left c) sized.passes_are sized.rows_are c.tidy.ensures.tidied c.open-pin.ensures.takes c.prepare.ensures.takes

-- a row was found: how the replacement ended, whatever came of the publication
tidied_last : (c : After-tidy-2) → TidiesLast (known_of c.args.pass.now) (known_of c.tidy-2.new.pass)
tidied_last c = tidies_last (known_of c.args.pass.now) (known_of c.open-pin.new.pass) (known_of c.prepare.new.pass) (known_of c.finish-published.new.pass) (known_of c.tidy-2.new.pass) c.open-pin.ensures.on c.prepare.ensures.on c.finish-published.ensures.on c.tidy-2.ensures.tidied

takes_one : (c : After-tidy-2) → TakesAtMost c.args.rows.now.passes c.args.rows.now.rows 1 (known_of c.args.pass.now) (known_of c.tidy-2.new.pass)
takes_one c =
    let sized = c.finish-published.ensures.rest.is_pass.sized in
    replacing_takes c.args.rows.now.passes c.args.rows.now.rows (known_of c.args.pass.now) (known_of c.open-pin.new.pass) (known_of c.prepare.new.pass) (known_of c.finish-published.new.pass) (known_of c.tidy-2.new.pass) c.open-pin.ensures.on c.prepare.ensures.on c.finish-published.ensures.on sized.passes_are sized.rows_are c.tidy-2.ensures.tidied c.open-pin.ensures.takes c.prepare.ensures.takes c.finish-published.ensures.takes

pub returns-in-Ok-clause-tidied : goal.returns-in-Ok-clause-tidied
returns-in-Ok-clause-tidied c = tidied_last (goal.at.returns-in-Ok-clause-tidied c).After-tidy-2

pub returns-in-Ok-clause-takes : goal.returns-in-Ok-clause-takes
returns-in-Ok-clause-takes c = takes_one (goal.at.returns-in-Ok-clause-takes c).After-tidy-2

pub returns-in-Err-Beaten-clause-tidied : goal.returns-in-Err-Beaten-clause-tidied
returns-in-Err-Beaten-clause-tidied c = tidied_last (goal.at.returns-in-Err-Beaten-clause-tidied c).After-tidy-2

pub returns-in-Err-Beaten-clause-takes : goal.returns-in-Err-Beaten-clause-takes
returns-in-Err-Beaten-clause-takes c = takes_one (goal.at.returns-in-Err-Beaten-clause-takes c).After-tidy-2

pub returns-in-Err-Spent-clause-tidied : goal.returns-in-Err-Spent-clause-tidied
returns-in-Err-Spent-clause-tidied c = tidied_last (goal.at.returns-in-Err-Spent-clause-tidied c).After-tidy-2

pub returns-in-Err-Spent-clause-takes : goal.returns-in-Err-Spent-clause-takes
returns-in-Err-Spent-clause-takes c = takes_one (goal.at.returns-in-Err-Spent-clause-takes c).After-tidy-2
