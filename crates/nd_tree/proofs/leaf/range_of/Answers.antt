use Rattle.std.proofs.Common.{◌≡◌, ◌<◌, List, ℤ, length, take, get_or, sym, subst, ◌∙◌, rules}
use Rattle.std.specs.Prelude.{IsTrue}
use Rattle.pls_vectors.specs.Box.{encloses}
use Rattle.pls_archive.proofs.Every.{Every-map}
use Rattle.nd_tree.proofs.Removing.{every-more}
use Rattle.nd_tree.proofs.leaf.range_of.Goals as goal

pub loop-k-preserved : goal.loop-k-preserved
loop-k-preserved c =
    let values = c.args.values.now in
    let k = c.loop-k.k in
    let v = c.index-values-k.result in
    let below : k < length values = search rules in
    let at : get_or values k v ≡ v = search rules in
    let before = Every-map (λ (w : List ℤ). IsTrue (encloses c.loop-k.range w)) (λ (w : List ℤ). IsTrue (encloses c.grow.new.self w)) c.grow.ensures.others (take k values) c.loop-k.invariant.0 in (
      every-more (λ (w : List ℤ). IsTrue (encloses c.grow.new.self w)) values k v below before
          (subst (λ (w : List ℤ). IsTrue (encloses c.grow.new.self w)) (sym at) c.grow.ensures.new),
      c.grow.ensures.len ∙ c.loop-k.invariant.1,
    )
