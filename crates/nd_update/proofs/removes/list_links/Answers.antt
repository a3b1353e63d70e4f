use Rattle.std.proofs.Common.{[], ◌∷◌, ◌++◌, ◌<◌, suc, length, take, drop, get_or, sym, ap, ap₂, ◌∙◌, arith, append_assoc, drop-cons}
use Rattle.era_rows.specs.Passes.{work_of}
use Rattle.nd_update.proofs.Building.{looks_do, read_does}
use Rattle.nd_update.proofs.Reading.{only_then, only_list}
use Rattle.nd_update.proofs.Opening.{only_looks}
use Rattle.nd_update.proofs.Removing.{take_more, does_work, link_at}
use Rattle.nd_update.proofs.removes.list_links.Goals as goal

pub loop-k-preserved : goal.loop-k-preserved
loop-k-preserved c =
    let r = c.args.rows.now in
    let p = c.args.pass.now in
    let q = c.loop-k.pass in
    let s = c.word-link.new.pass in
    let t = c.work_push.new.self in
    let push = c.work_push.ensures in
    let so_far = c.loop-k.invariant.0 in
    let look = looks_do r (c.args.row ∷ []) q s so_far.building c.word-link.ensures.looks in
    let all = read_does r [] [] [] p q s so_far look in (
      read_does r [] [] [] p s t all (does_work r s t look.building push.pass push.number push.known push.marks push.memory),
      λ links has len.
          let low : c.loop-k.k < length links = (let l = c.loop-k-test.true in omega (arith, l, len)) in
          push.work ∙ ap₂ (λ ws x. ws ++ x ∷ []) (c.word-link.ensures.work ∙ c.loop-k.invariant.1 links has len) (c.word-link.ensures.word _ (link_at r [] [] [] p q so_far c.args.row links has c.loop-k.k low))
          ∙ append_assoc (work_of p) (take c.loop-k.k links) (get_or links c.loop-k.k 0 ∷ [])
          ∙ ap (λ ws. work_of p ++ ws) (sym (take_more links c.loop-k.k (get_or links c.loop-k.k 0) (drop (suc c.loop-k.k) links) (drop-cons links c.loop-k.k 0 low))),
      only_then r [] [] [] (c.args.row ∷ []) p q t so_far c.loop-k.invariant.2 (only_looks r (c.args.row ∷ []) q s t so_far.building c.word-link.ensures.looks (only_list (c.args.row ∷ []) s t push.known)),
    )
