use Rattle.std.proofs.Common.{rules, ◌≡◌, Some, subst}
use Rattle.era_rows.specs.Passes.{known_of, Searches}
use Rattle.era_rows.proofs.Searching.{search_after}
use Rattle.era_rows.proofs.rows.Rows.take.Goals as goal

pub returns-in_err-row-clause-searched : goal.returns-in_err-row-clause-searched
returns-in_err-row-clause-searched g c =
    let rows = c.args.self.now.rows in
    let before = known_of c.args.pass.now in
    let mid = known_of c.take_freed.new.pass in
    let after = known_of c.take_in_turn.new.pass in
    let same : c.take_in_turn.result ≡ c.from_residual.result = search rules in
    subst (Searches 0 rows before after) same (search_after rows before mid after c.take_freed.result c.take_in_turn.result (search rules) c.take_freed.ensures.searched c.take_in_turn.ensures.searched)

pub returns-clause-searched : goal.returns-clause-searched
returns-clause-searched g c =
    let before = known_of c.args.pass.now in
    let mid = known_of c.take_freed.new.pass in
    let after = known_of c.take_in_turn.new.pass in
    search_after c.args.self.now.rows before mid after c.take_freed.result (Some c.in_ok-row.row) (search rules) c.take_freed.ensures.searched c.in_ok-row.ensures.searched
