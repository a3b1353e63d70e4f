use Rattle.std.proofs.Common.{◌≡◌, ℕ, ◌-◌, min, not, List, ◌++◌, [], ◌∷◌, true, false, filter, length, ap, sym, subst, ◌∙◌, rules}
use Rattle.pls_vectors.specs.Archive.{dominates}
use Rattle.pls_archive.specs.declared.point.Point.{Point}
use Rattle.pls_archive.specs.declared.call.Taken.TheVariants as taken
use Rattle.pls_archive.specs.Archives.{Updates}
use Rattle.pls_archive.specs.Plain.{AreMembers}
use Rattle.pls_archive.specs.Reply.{point_weakly_dominates, members, nondominated, some_weakly_dominates}
use Rattle.pls_archive.proofs.ListArchive.{refused-Updates, added-Updates, added-AreMembers, removed-length}
use Rattle.pls_archive.proofs.ValueOrder.{ord_min-nat}
use Rattle.pls_archive.proofs.plain.PlainSingle.update.Goals as goal

pub returns-then-is_covered-clause-updates : goal.returns-then-is_covered-clause-updates
returns-then-is_covered-clause-updates c =
    let points = c.self.inside.points.items in
    let p = c.args.point in
    let covered : some_weakly_dominates points p.value ≡ true =
    ap (λ ps. some_weakly_dominates ps p.value) (sym c.deref.ensures.value) ∙ (sym c.is_covered.ensures ∙ c.if-is_covered.true) in
    subst (λ (ps : List Point). Updates members nondominated p taken.Refused ps ps) (ap (λ a. a.points) c.self.view_is)
    (refused-Updates points c.self.invariant.apart p covered)

pub invariant_of-self-2 : goal.invariant_of-self-2
invariant_of-self-2 c =
    let points = c.self.inside.points.items in
    let p = c.args.point in
    let new : some_weakly_dominates points p.value ≡ false =
    ap (λ ps. some_weakly_dominates ps p.value) (sym c.deref.ensures.value) ∙ (sym c.is_covered.ensures ∙ c.if-is_covered.false) in
    let is : c.push_reserved.new.self.items ≡ filter (λ q. not (dominates point_weakly_dominates p q)) points ++ p ∷ [] = search rules in
    let parts : length p.value ≡ c.self.inside.objectives = c.requires ∙ ap (λ a. a.objectives) (sym c.self.view_is) in
    subst (AreMembers c.self.inside.objectives) (sym is)
    (added-AreMembers points c.self.invariant.apart p c.self.inside.objectives c.self.invariant.parts parts new)

pub returns-clause-updates : goal.returns-clause-updates
returns-clause-updates c =
    let points = c.self.inside.points.items in
    let p = c.args.point in
    let new : some_weakly_dominates points p.value ≡ false =
    ap (λ ps. some_weakly_dominates ps p.value) (sym c.deref.ensures.value) ∙ (sym c.is_covered.ensures ∙ c.if-is_covered.false) in
    let spared = filter (λ q. not (dominates point_weakly_dominates p q)) points in
    let is : c.push_reserved.new.self.items ≡ spared ++ p ∷ [] = search rules in
    let long : c.len-before.result ≡ length points = search rules in
    let kept : c.drop_dominated.new.points.items ≡ spared = search rules in
    let short : c.len.result ≡ length spared = search rules in
    let removed = c.min.ensures ∙ (ord_min-nat (c.len-before.result - c.len.result) 4294967295
    ∙ ap (λ (n : ℕ). min n 4294967295) (removed-length points c.self.invariant.apart p c.len-before.result c.len.result long short)) in
    subst (λ (ps : List Point). Updates members nondominated p (taken.Added c.min.result) ps c.push_reserved.new.self.items) (ap (λ a. a.points) c.self.view_is)
    (subst (λ (ps : List Point). Updates members nondominated p (taken.Added c.min.result) points ps) (sym is)
    (added-Updates points c.self.invariant.apart p c.min.result new removed))
