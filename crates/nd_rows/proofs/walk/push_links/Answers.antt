use Rattle.std.proofs.Common.{◌≡◌, ◌+◌, ◌-◌, [], ◌∷◌, ◌++◌, length, length-append, Some, reverse, ap, subst, ◌∙◌, arith, get_or}
use Rattle.era_core.specs.Versions.{look_up}
use Rattle.era_rows.specs.Known.{pinned_copy}
use Rattle.era_rows.specs.Passes.{known_of, work_of}
use Rattle.nd_rows.proofs.Looks.{looks_none, looks_more, looks_work, link_there}
use Rattle.nd_rows.proofs.Links.{push_none, push_more}
use Rattle.nd_rows.proofs.walk.push_links.Goals as goal

pub loop-k-init : goal.loop-k-init
loop-k-init c = (
  looks_none c.args.rows.now (c.args.row ∷ []) c.args.pass.now c.requires.pass,
  omega arith,
  λ links there all. push_none links (reverse (work_of c.args.pass.now)) c.args.count all,
)

pub loop-k-preserved : goal.loop-k-preserved
loop-k-preserved c =
    let only = c.args.row ∷ [] in
    let looks = looks_more c.args.rows.now only c.args.pass.now c.loop-k.pass c.word-link.new.pass c.loop-k.invariant.0 c.word-link.ensures.looks in
    let push = c.work_push.ensures in
    let now = push.work ∙ ap (λ xs. xs ++ c.word-link.result ∷ []) c.word-link.ensures.work in (
      looks_more c.args.rows.now only c.args.pass.now c.word-link.new.pass c.work_push.new.self looks
          (looks_work c.args.rows.now only c.word-link.new.pass c.work_push.new.self looks.is_pass push.pass push.number push.known push.marks push.memory),
      (let len = ap length now ∙ length-append (work_of c.loop-k.pass) (c.word-link.result ∷ []) in let before = c.loop-k.invariant.1 in omega arith),
      λ links there all.
          let place = c.args.count - (c.loop-k.k + 1) in
          push_more links (reverse (work_of c.args.pass.now)) (work_of c.loop-k.pass) (work_of c.work_push.new.self) c.args.count c.loop-k.k c.word-link.result all c.loop-k-test.true now (c.loop-k.invariant.2 links there all)
          (c.word-link.ensures.word _
          (subst (λ n. look_up (pinned_copy (known_of c.loop-k.pass)).cells c.args.row n ≡ Some (get_or links place 0)) (let low = c.loop-k-test.true in let e : 1 + place ≡ c.args.count - c.loop-k.k = omega arith in e)
          (link_there c.args.rows.now only c.args.pass.now c.loop-k.pass c.loop-k.invariant.0 c.args.row 1 links there place (let low = c.loop-k-test.true in omega arith)))),
    )
