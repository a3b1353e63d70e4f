use Rattle.std.proofs.Common.{rules, ◌≡◌, Some, None, ◌+◌, refl, subst, arith}
use Rattle.era_core.specs.Words.{owner_at}
use Rattle.era_rows.specs.Known.{finding}
use Rattle.era_rows.specs.Passes.{known_of, Searches}
use Rattle.era_rows.proofs.Searching.{search_more, search_taken, search_again, takes_wider, search_on}
use Rattle.era_rows.proofs.rows.Rows.take_in_turn_or_full.Goals as goal

pub returns-in-Some-take_among-clause-searched : goal.returns-in-Some-take_among-clause-searched
returns-in-Some-take_among-clause-searched g c =
    let rows = c.args.self.now.rows in
    let last = c.args.last in
    let before = known_of c.args.pass.now in
    let mid = known_of c.take_among.new.pass in
    let later = known_of c.take_among-2.new.pass in
    let none : c.take_among.result ≡ None = search rules in
    let first = subst (λ o. Searches (last + 1) rows before mid o) none c.take_among.ensures.searched in
    search_again (last + 1) rows before mid later (Some c.in-Some-take_among.row) (let low = c.requires.last in omega arith) first
    (takes_wider 0 last 0 (last + 1) c.in-Some-take_among.row mid later (omega arith) (omega arith) c.in-Some-take_among.ensures.searched)

pub returns-then-try_take-clause-searched : goal.returns-then-try_take-clause-searched
returns-then-try_take-clause-searched g c =
    let rows = c.args.self.now.rows in
    let last = c.args.last in
    let before = known_of c.args.pass.now in
    let mid = known_of c.take_among.new.pass in
    let later = known_of c.take_among-2.new.pass in
    let after = known_of c.try_take.new.pass in
    let none : c.take_among.result ≡ None = search rules in
    let none_before : c.take_among-2.result ≡ None = search rules in
    let first = subst (λ o. Searches (last + 1) rows before mid o) none c.take_among.ensures.searched in
    let second = subst (λ o. Searches 0 last mid later o) none_before c.take_among-2.ensures.searched in
    let taken = c.try_take.ensures.taken (search rules) in
    search_again (last + 1) rows before mid after (Some last) (let low = c.requires.last in omega arith) first
    (search_taken 0 (last + 1) last mid later after second (omega arith) (omega arith) taken.1 taken.0)

pub returns-else-try_take-clause-searched : goal.returns-else-try_take-clause-searched
returns-else-try_take-clause-searched g c =
    let rows = c.args.self.now.rows in
    let last = c.args.last in
    let before = known_of c.args.pass.now in
    let mid = known_of c.take_among.new.pass in
    let later = known_of c.take_among-2.new.pass in
    let none : c.take_among.result ≡ None = search rules in
    let none_before : c.take_among-2.result ≡ None = search rules in
    let first = subst (λ o. Searches (last + 1) rows before mid o) none c.take_among.ensures.searched in
    let second = subst (λ o. Searches 0 last mid later o) none_before c.take_among-2.ensures.searched in
    let busy = c.try_take.ensures.busy (search rules) in
    let look = finding (owner_at c.args.self.now.passes rows last) busy.0 later in
    search_on (last + 1) rows before mid _ None (let low = c.requires.last in omega arith) first
    (look, search_more 0 last mid later look busy.0 _ second (omega arith) busy.1 (let s = c.take_among.ensures.pass.sized in omega (arith, s.passes_are)) (c.try_take.ensures.alone (search rules)) refl, busy.2)
