use Rattle.std.proofs.Common.{rules, ◌≡◌, None, subst, arith}
use Rattle.era_rows.specs.Passes.{known_of, Searches}
use Rattle.era_rows.proofs.Searching.{search_again}
use Rattle.era_rows.proofs.rows.Rows.take_in_turn.Goals as goal

pub returns-clause-searched : goal.returns-clause-searched
returns-clause-searched g c =
    let pass = c.args.pass.now in
    let mid = c.take_among.new.pass in
    let none : c.take_among.result ≡ None = search rules in
    let first = subst (λ o. Searches pass.next c.args.self.now.rows (known_of pass) (known_of mid) o) none c.take_among.ensures.searched in
    search_again pass.next c.args.self.now.rows (known_of pass) (known_of mid) _ c.take_among-2.result (let turn = pass.tied.turn in let sized = c.requires.sized in omega (arith, sized.rows_are)) first c.take_among-2.ensures.searched
