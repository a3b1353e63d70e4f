use Rattle.std.proofs.Common.{◌≡◌, min, not, Bool, List, ◌++◌, [], ◌∷◌, true, false, filter, length, ap, sym, subst, ◌∙◌, arith}
use Rattle.std.specs.Prelude.{IsTrue}
use Rattle.pls_vectors.specs.Archive.{dominates}
use Rattle.pls_archive.specs.declared.point.Point.{Point}
use Rattle.pls_archive.specs.declared.call.Taken.TheVariants as taken
use Rattle.pls_archive.specs.Archives.{Updates}
use Rattle.pls_archive.specs.Lists.{Every, AsOften, how_many}
use Rattle.pls_archive.specs.Reply.{point_weakly_dominates, members, nondominated, some_weakly_dominates}
use Rattle.pls_archive.proofs.Every.{Every-map, Every-filter, Every-from_All, length-filter}
use Rattle.pls_archive.proofs.ListArchive.{refused-Updates, added-Updates, added-AreMembers}
use Rattle.pls_archive.proofs.ValueOrder.{ord_min-nat}
use Rattle.nd_tree.specs.Tree.{IsTree}
use Rattle.nd_tree.proofs.AnyOrder.{ord_max-nat, AreMembers-often, still-covered}
use Rattle.nd_tree.proofs.Inserting.{often-push}
use Rattle.nd_tree.proofs.tree.NdTreeSingle.update.Goals as goal

abbrev spared : Point → Point → Bool
spared p q = not (dominates point_weakly_dominates p q)

pub returns-then-refuses-clause-updates : goal.returns-then-refuses-clause-updates
returns-then-refuses-clause-updates c =
    let points = c.self.inside.root.points in
    let p = c.args.point in
    let covered : some_weakly_dominates points p.value ≡ true = sym c.refuses.ensures.answer ∙ c.if-refuses.true in
    subst (λ (ps : List Point). Updates members nondominated p taken.Refused ps points) (ap (λ a. a.points) c.self.view_is)
    (refused-Updates points c.self.invariant.members.apart p covered)

pub insert-len-requires-clause-parts : goal.insert-len-requires-clause-parts
insert-len-requires-clause-parts c =
    let points = c.self.inside.root.points in
    let p = c.args.point in
    let same : length p.value ≡ c.self.inside.objectives = c.requires ∙ ap (λ a. a.objectives) (sym c.self.view_is) in
    let all = Every-from_All (λ (q : Point). length q.value ≡ c.self.inside.objectives) points c.self.invariant.members.parts in
    let equal = Every-map (λ (q : Point). length q.value ≡ c.self.inside.objectives) (λ (q : Point). length q.value ≡ length p.value) (λ q e. e ∙ sym same) points all in
    subst (λ (ps : List Point). Every (λ q. length q.value ≡ length p.value) ps) (sym c.remove_dominated-removed.ensures.points)
    (Every-filter (λ (q : Point). length q.value ≡ length p.value) (spared p) points equal)

pub invariant_of-self-2 : goal.invariant_of-self-2
invariant_of-self-2 c =
    let points = c.self.inside.root.points in
    let after = c.insert-len.new.self.points in
    let p = c.args.point in
    let n = c.self.inside.objectives in
    let new : some_weakly_dominates points p.value ≡ false = sym c.refuses.ensures.answer ∙ c.if-refuses.false in
    let same : length p.value ≡ n = c.requires ∙ ap (λ a. a.objectives) (sym c.self.view_is) in
    let kept = filter (spared p) points in
    let often : AsOften (kept ++ p ∷ []) after = λ test.
    sym (often-push kept p test)
    ∙ (ap (λ ps. how_many test (p ∷ ps)) (sym c.remove_dominated-removed.ensures.points) ∙ c.insert-len.ensures.points test) in
    let greatest = c.max-self-inside.ensures ∙ ord_max-nat c.self.inside.longest c.insert-len.result in
    let gone = c.remove_dominated-removed.ensures.longest in
    let come = c.insert-len.ensures.longest in
    let before = c.self.invariant.leaves in
    let full = c.self.invariant.full in
    let is : IsTree n c.max-self-inside.result c.insert-len.new.self c.refuses.new.recent = record {
      some = c.self.invariant.some;
      members = AreMembers-often n (kept ++ p ∷ []) after often
          (added-AreMembers points c.self.invariant.members.apart p n c.self.invariant.members.parts same new);
      remembered = Every-map (λ w. IsTrue (some_weakly_dominates points w)) (λ w. IsTrue (some_weakly_dominates after w))
          (λ w. still-covered points after p w c.self.invariant.members.apart new often) c.refuses.new.recent c.refuses.ensures.recent;
      leaves = omega arith;
      full = omega arith;
    } in
    is

pub returns-clause-updates : goal.returns-clause-updates
returns-clause-updates c =
    let points = c.self.inside.root.points in
    let after = c.insert-len.new.self.points in
    let p = c.args.point in
    let new : some_weakly_dominates points p.value ≡ false = sym c.refuses.ensures.answer ∙ c.if-refuses.false in
    let kept = filter (spared p) points in
    let often : AsOften (kept ++ p ∷ []) after = λ test.
    sym (often-push kept p test)
    ∙ (ap (λ ps. how_many test (p ∷ ps)) (sym c.remove_dominated-removed.ensures.points) ∙ c.insert-len.ensures.points test) in
    let count = length-filter (dominates point_weakly_dominates p) points in
    let gone = c.remove_dominated-removed.ensures.count in
    let least = c.min.ensures ∙ ord_min-nat c.remove_dominated-removed.result 4294967295 in
    let removed : c.min.result ≡ min (length (filter (dominates point_weakly_dominates p) points)) 4294967295 = omega arith in
    let added = added-Updates points c.self.invariant.members.apart p c.min.result new removed in
    let is : Updates members nondominated p (taken.Added c.min.result) points after = record {
      replies = added.replies;
      grows = λ all archive test. added.grows all archive test ∙ often test;
    } in
    subst (λ (ps : List Point). Updates members nondominated p (taken.Added c.min.result) ps after) (ap (λ a. a.points) c.self.view_is) is
