use Rattle.std.proofs.Common.{rules, arith}
use Rattle.era_rows.proofs.Opening.{opens}
use Rattle.era_rows.proofs.rows.Rows.lay.Goals as goal

pub of_words-requires : goal.of_words-requires
of_words-requires g c =
    opens g.L.Law.caller g.L.Law.stamp g.L.Law.accepted g.L.Law.lawful g.L.Law.stands g.L.Law.right (record { shape = c.args.shape; rows = c.args.rows; passes = c.args.passes }) g.L.Law.begins
    (let rows = c.requires.rows in omega arith) (let passes = c.requires.passes in omega arith) c.as_slice.result.now (search rules)
