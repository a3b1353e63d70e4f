use Rattle.std.proofs.Common.{◌≡◌, ◌<◌, ◌≤◌, max, List, [], ◌∷◌, length, get_or, refl, ap, sym, subst, ◌∙◌, arith, rules}
use Rattle.std.specs.Prelude.{vec_len, IsTrue}
use Rattle.pls_vectors.specs.Box.{Box, encloses}
use Rattle.pls_archive.specs.declared.point.Point.{Point}
use Rattle.pls_archive.specs.Lists.{Every, AsOften, how_many}
use Rattle.pls_archive.proofs.Every.{Every-append, Every-map}
use Rattle.nd_tree.specs.Seen.{Seen, all_nodes, AreChildren, Encloses}
use Rattle.nd_tree.specs.Nodes.{seen, IsFormed}
use Rattle.nd_tree.proofs.Inserting.{child-below, child-longest, every-child, often-set, longest-grown, length-box, equal-parts, often-push, formed-grown}
use Rattle.nd_tree.proofs.Siblings.{enclosed-length, enclosed-both, enclosed-at, every-at}
use Rattle.nd_tree.proofs.node.Node.+insert.Goals as goal
use Rattle.nd_tree.proofs.node.Node.+insert.Goals.{else-len-eq-FULL-via-then-len-eq-FULL+else-levels-gt0, else-len-eq-FULL-via-else-len-eq-FULL}

pub add-len-requires-clause-room : goal.add-len-requires-clause-room
unfolding seen
add-len-requires-clause-room t c =
    let longest = ap (λ (s : Seen). s.longest) (sym c.self.view_is ∙ ap seen c.in-Leaf.is) in
    let room = c.requires.room in omega arith

pub divided-boxes-requires : goal.divided-boxes-requires
unfolding seen
divided-boxes-requires t c =
    let n = length c.args.point.now.value in
    let is = sym c.self.view_is ∙ ap seen c.in-Leaf.is in
    let before = subst (λ (s : Seen). Every (λ q. length q.value ≡ n) s.points) is c.requires.parts in
    let all : Every (λ q. length q.value ≡ n) c.add-len.new.leaf.points =
    subst (λ (ps : List Point). Every (λ q. length q.value ≡ n) ps) (sym c.add-len.ensures.points)
    (Every-append (λ (q : Point). length q.value ≡ n) c.in-Leaf.leaf.points (c.args.point.now ∷ []) before (refl, tt)) in
    let long = c.add-len.ensures.len in
    let full : c.add-len.result ≡ 21 = search rules in
    let equal = equal-parts n c.add-len.new.leaf.points (omega arith) all in
    let taken = c.add-len.ensures.leaves in
    let same = c.add-len.ensures.links in
    record {
      many = search rules;
      parts = equal.1;
      several = omega (arith, equal.0, c.requires.some);
      leaves = omega (arith, equal.0, c.requires.leaves, taken);
      links = omega (arith, equal.0, c.requires.links, same);
      room = search rules;
    }

pub closest-k-requires-clause-parts : goal.closest-k-requires-clause-parts
unfolding seen
closest-k-requires-clause-parts t c k d below =
    let boxes = c.in-Inner.boxes.items in
    let nodes = c.in-Inner.children.items in
    let formed : AreChildren boxes nodes = subst IsFormed c.in-Inner.is c.self.invariant in
    let n = length c.args.point.now.value in
    let is = sym c.self.view_is ∙ ap seen c.in-Inner.is in
    let all = subst (λ (s : Seen). Every (λ q. length q.value ≡ n) s.points) is c.requires.parts in
    let same = enclosed-length boxes nodes formed.enclosed in
    let here = ap length c.deref.ensures.value in
    let within : k < length nodes = omega arith in
    let e = c.args.self.now in
    ap (λ (bs : List Box). length (get_or bs k d).ideal) c.deref.ensures.value
    ∙ length-box n (get_or boxes k d) (get_or nodes k e).points (every-at (λ s. 0 < length s.points) nodes formed.occupied k within e)
    (enclosed-at boxes nodes formed.enclosed k within d e) (every-child (λ (q : Point). length q.value ≡ n) nodes k e within all)

pub index_mut-requires-in-Inner : goal.index_mut-requires-in-Inner
index_mut-requires-in-Inner t c =
    let boxes = c.in-Inner.boxes.items in
    let nodes = c.in-Inner.children.items in
    let formed : AreChildren boxes nodes = subst IsFormed c.in-Inner.is c.self.invariant in
    let same = enclosed-length boxes nodes formed.enclosed in
    let here = ap length c.deref.ensures.value in
    let bound = c.closest-k.ensures.bound in
    let long : length nodes ≡ vec_len c.in-Inner.children = search rules in
    omega arith

pub grow-requires : goal.grow-requires
unfolding seen
grow-requires t c =
    let boxes = c.in-Inner.boxes.items in
    let nodes = c.in-Inner.children.items in
    let formed : AreChildren boxes nodes = subst IsFormed c.in-Inner.is c.self.invariant in
    let n = length c.args.point.now.value in
    let is = sym c.self.view_is ∙ ap seen c.in-Inner.is in
    let all = subst (λ (s : Seen). Every (λ q. length q.value ≡ n) s.points) is c.requires.parts in
    let same = enclosed-length boxes nodes formed.enclosed in
    let here = ap length c.deref.ensures.value in
    let k = c.closest-k.result in
    let bound = c.closest-k.ensures.bound in
    let within : k < length nodes = omega arith in
    let e = c.args.self.now in
    let b = c.index_mut.result.now in
    let at : b ≡ get_or boxes k b = search rules in
    sym (ap (λ (x : Box). length x.ideal) at
    ∙ length-box n (get_or boxes k b) (get_or nodes k e).points (every-at (λ s. 0 < length s.points) nodes formed.occupied k within e)
    (enclosed-at boxes nodes formed.enclosed k within b e) (every-child (λ (q : Point). length q.value ≡ n) nodes k e within all))

pub insert-requires : goal.insert-requires
unfolding seen
insert-requires t c =
    let boxes = c.in-Inner.boxes.items in
    let nodes = c.in-Inner.children.items in
    let formed : AreChildren boxes nodes = subst IsFormed c.in-Inner.is c.self.invariant in
    let n = length c.args.point.now.value in
    let is = sym c.self.view_is ∙ ap seen c.in-Inner.is in
    let all = subst (λ (s : Seen). Every (λ q. length q.value ≡ n) s.points) is c.requires.parts in
    let same = enclosed-length boxes nodes formed.enclosed in
    let here = ap length c.deref.ensures.value in
    let k = c.closest-k.result in
    let bound = c.closest-k.ensures.bound in
    let within : k < length nodes = omega arith in
    let s = c.index_mut-in-Inner.result.now in
    let at : get_or nodes k s ≡ s = search rules in
    let fewer = subst (λ (x : Seen). x.below < all_nodes nodes) at (child-below nodes k s within) in
    let below = ap (λ (x : Seen). x.below) is in
    let smaller : s.below < c.args.self.now.below = omega arith in
    let longest = subst (λ (x : Seen). x.longest ≤ (seen c.self.inside.body).longest) at (subst (λ (x : Seen). (get_or nodes k s).longest ≤ x.longest) (sym is ∙ sym c.self.view_is) (child-longest nodes k s within)) in
    let longest' = ap (λ (x : Seen). x.longest) c.self.view_is in
    let room = c.requires.room in (
      search rules,
      (
        c.requires.some,
        (
          subst (λ (x : Seen). Every (λ q. length q.value ≡ n) x.points) at (every-child (λ (q : Point). length q.value ≡ n) nodes k s within all),
          (c.requires.leaves, (c.requires.links, (c.requires.full, omega arith))),
        ),
      ),
    )

pub invariant_of-self-in-Inner : goal.invariant_of-self-in-Inner
invariant_of-self-in-Inner t c =
    let boxes = c.in-Inner.boxes.items in
    let nodes = c.in-Inner.children.items in
    let formed : AreChildren boxes nodes = subst IsFormed c.in-Inner.is c.self.invariant in
    let same = enclosed-length boxes nodes formed.enclosed in
    let here = ap length c.deref.ensures.value in
    let k = c.closest-k.result in
    let bound = c.closest-k.ensures.bound in
    let within : k < length nodes = omega arith in
    let s = c.index_mut-in-Inner.result.now in
    let at : get_or nodes k s ≡ s = search rules in
    let b = c.index_mut.result.now in
    let box-at : b ≡ get_or boxes k b = search rules in
    let inside = enclosed-both boxes nodes formed.enclosed k within b box-at s (sym at) in
    let grown = Every-map (λ (q : Point). IsTrue (encloses b q.value)) (λ (q : Point). IsTrue (encloses c.grow.new.self q.value)) (λ q h. c.grow.ensures.others q.value h) s.points inside in
    formed-grown boxes nodes k c.grow.new.self c.insert.new.self s c.args.point.now formed within
    (subst (λ (x : Seen). AsOften (c.args.point.now ∷ x.points) c.insert.new.self.points) (sym at) c.insert.ensures.points)
    c.grow.ensures.new
    (subst (λ (x : Seen). Encloses c.grow.new.self x.points) (sym at) grown)

pub returns-then-levels-gt0-clause-points : goal.returns-then-levels-gt0-clause-points
unfolding seen
returns-then-levels-gt0-clause-points t c test =
    let is = ap (λ (s : Seen). how_many test s.points) (sym c.self.view_is ∙ ap seen c.in-Leaf.is) in
    let pushed = often-push c.in-Leaf.leaf.points c.args.point.now test in
    let added = ap (how_many test) c.add-len.ensures.points in
    let spread = c.divided-boxes.ensures.points test in
    omega arith

pub returns-then-levels-gt0-clause-longest : goal.returns-then-levels-gt0-clause-longest
unfolding seen
returns-then-levels-gt0-clause-longest t c =
    let few = c.divided-boxes.ensures.longest in
    let full : c.add-len.result ≡ 21 = search rules in
    omega arith

pub returns-else-len-eq-FULL : goal.returns-else-len-eq-FULL
unfolding seen
returns-else-len-eq-FULL t c =
    let leaf = c.add-len.new.leaf in
    let whole : (c.else-len-eq-FULL.self.points ≡ leaf.points) × (c.else-len-eq-FULL.self.longest ≡ length leaf.points) = elim c.else-len-eq-FULL.branch [
      | else-len-eq-FULL-via-then-len-eq-FULL+else-levels-gt0 w ↦ (ap (λ (s : Seen). s.points) w.self-is, ap (λ (s : Seen). s.longest) w.self-is)
      | else-len-eq-FULL-via-else-len-eq-FULL w ↦ (ap (λ (s : Seen). s.points) w.self-is, ap (λ (s : Seen). s.longest) w.self-is)
    ] in
    record {
      points = λ test.
          let is = ap (λ (s : Seen). how_many test s.points) (sym c.self.view_is ∙ ap seen c.in-Leaf.is) in
          let pushed = often-push c.in-Leaf.leaf.points c.args.point.now test in
          let added = ap (how_many test) c.add-len.ensures.points in
          let same = ap (how_many test) whole.0 in
          omega arith;
      longest = let long = c.add-len.ensures.len in omega (arith, long, whole.1);
    }

pub returns-in-Inner : goal.returns-in-Inner
unfolding seen
returns-in-Inner t c =
    let boxes = c.in-Inner.boxes.items in
    let nodes = c.in-Inner.children.items in
    let formed : AreChildren boxes nodes = subst IsFormed c.in-Inner.is c.self.invariant in
    let same = enclosed-length boxes nodes formed.enclosed in
    let here = ap length c.deref.ensures.value in
    let k = c.closest-k.result in
    let bound = c.closest-k.ensures.bound in
    let within : k < length nodes = omega arith in
    let s = c.index_mut-in-Inner.result.now in
    let at : get_or nodes k s ≡ s = search rules in
    let is = sym c.self.view_is ∙ ap seen c.in-Inner.is in
    record {
      points = λ test.
          let before = ap (λ (x : Seen). how_many test x.points) is in
          let often =
          often-set c.args.point.now nodes k c.insert.new.self s within
          (subst (λ (x : Seen). AsOften (c.args.point.now ∷ x.points) c.insert.new.self.points) (sym at) c.insert.ensures.points) test in
          omega arith;
      longest =
          let before = ap (λ (x : Seen). x.longest) is in
          let grown =
          longest-grown nodes k c.insert.result c.insert.new.self s within
          (subst (λ (x : Seen). c.insert.new.self.longest ≤ max x.longest c.insert.result) (sym at) c.insert.ensures.longest) in
          omega arith;
    }
