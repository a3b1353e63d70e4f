use Rattle.std.proofs.Common.{◌≡◌, ◌==◌, true, false, sym, ◌∙◌, refl, arith}
use Rattle.std.proofs.lemmas.Bool.{eqb-true}
use Rattle.pls_perms.proofs.Distinct.{is_permutation-test}
use Rattle.pls_perms.proofs.permutation.is_permutation.Goals as goal
use Rattle.pls_perms.proofs.permutation.is_permutation.Goals.{then-len-n, else-len-n}

pub returns-then-has_no_other_entry : goal.returns-then-has_no_other_entry
returns-then-has_no_other_entry c =
    let n = c.args.n in
    let s = c.args.sol.now in
    elim c.if-len-n.branch [
      | then-len-n w ↦
          let long : (s.len == n) ≡ true = (let is = w.if-len-n.true in let len = c.len.ensures.value in grind arith) in
          c.has_distinct_entries.ensures
          ∙ sym (is_permutation-test n s true true _ long (sym w.has_no_other_entry.ensures ∙ (sym w.value-is ∙ c.if-has_no_other_entry.true)) refl)
      | else-len-n w ↦ absurd (w.if-len-n.false (eqb-true _ _ (sym w.value-is ∙ c.if-has_no_other_entry.true)))
    ]

pub returns-else-has_no_other_entry : goal.returns-else-has_no_other_entry
returns-else-has_no_other_entry c =
    let n = c.args.n in
    let s = c.args.sol.now in
    c.if-has_no_other_entry.false
    ∙ elim c.if-len-n.branch [
      | then-len-n w ↦
          let long : (s.len == n) ≡ true = (let is = w.if-len-n.true in let len = c.len.ensures.value in grind arith) in
          sym (is_permutation-test n s true false _ long (sym w.has_no_other_entry.ensures ∙ (sym w.value-is ∙ c.if-has_no_other_entry.false)) refl)
      | else-len-n w ↦
          let long : (s.len == n) ≡ false = (let is = w.if-len-n.false in let len = c.len.ensures.value in grind arith) in
          sym (is_permutation-test n s false _ _ long refl refl)
    ]
