use Rattle.std.proofs.Common.{rules, ◌≡◌, ◌+◌, ◌⊎◌, sym, subst}
use Rattle.era_rows.specs.Known.{Known}
use Rattle.era_rows.specs.Passes.{known_of}
use Rattle.era_rows.proofs.Tidying.{HasScanned, scan_turn, scanned_more, scanned_all}
use Rattle.era_rows.proofs.rows.Rows.least_reserved.Goals as goal

pub look-word-requires : goal.look-word-requires
look-word-requires g c =
    let so_far = c.loop-j.invariant.2 in
    record {
      number = c.loop-j-test.true;
      pass = c.loop-j.invariant.0;
      turn = subst (λ (k : Known). (c.loop-j.j ≡ 0) ⊎ (c.loop-j.j ≡ k.core.scanned)) (sym so_far.3) (scan_turn so_far.0 (known_of c.args.pass.now) c.loop-j.j so_far.1);
    }

pub loop-j-preserved : goal.loop-j-preserved
loop-j-preserved g c = (
  c.look-word.ensures.pass,
  search rules,
  subst (λ least. HasScanned (c.loop-j.j + 1) least (known_of c.args.pass.now) (known_of c.look-word.new.pass)) (sym c.lesser-least.ensures)
      (scanned_more c.loop-j.j c.look-word.result c.loop-j.least (known_of c.args.pass.now) (known_of c.loop-j.pass) (known_of c.look-word.new.pass) c.loop-j.invariant.2 c.look-word.ensures.looked c.look-word.ensures.own),
)

pub returns-clause-scanned : goal.returns-clause-scanned
returns-clause-scanned g c =
    let passes_are = c.requires.sized.passes_are in
    let some_passes = c.args.self.now.some_passes in
    scanned_all c.loop-j.j c.args.pass.now.number c.loop-j.least (known_of c.args.pass.now) (known_of c.loop-j.pass) c.loop-j.invariant.2 (search rules) (search rules) c.args.pass.now.tied.numbered c.args.pass.now.tied.some_pass
