use Rattle.std.proofs.Common.{◌≡◌, nat_lt, length, ap, sym, ◌∙◌, rules}
use Rattle.nd_tree.proofs.Paired.{length-paired}
use Rattle.nd_tree.proofs.leaf.Leaf.has_room.Goals as goal

pub returns : goal.returns
returns c =
    let long : c.len.result ≡ length c.self.inside.values.items = search rules in
    ap (λ n. nat_lt n c.self.inside.room)
    (long ∙ sym (length-paired c.self.inside.values.items c.self.inside.sols.items c.self.invariant.0))
    ∙ ap (λ l. nat_lt (length l.points) l.room) c.self.view_is
