use Rattle.std.proofs.Common.{◌≡◌, ℕ, ◌+◌, ◌*◌, ◌<◌, Some, List, [], ◌∷◌, length, take, get_or, refl, sym, ap, subst, ◌∙◌, arith, ℤ, IsTrue}
use Rattle.std.proofs.lemmas.List.{take_all}
use Rattle.era_core.specs.declared.sizes.TheConstants.{KINDS}
use Rattle.era_core.proofs.ListFacts.{in_head}
use Rattle.era_rows.specs.Known.{known_words}
use Rattle.era_rows.specs.Passes.{known_of}
use Rattle.pls_vectors.specs.Box.{box_of, grown, encloses}
use Rattle.nd_rows.specs.declared.layout.TheConstants.{LEAF, FIRST_LINK}
use Rattle.nd_rows.specs.Layout.{HasWords}
use Rattle.nd_update.specs.Insertion.{at_places}
use Rattle.nd_update.proofs.Building.{does_both, does_write, now_fresh, still_fresh}
use Rattle.nd_update.proofs.Filling.{link_row, link_first, links_long, link_next, box_first, box_next, box_long}
use Rattle.nd_update.proofs.Owning.{match_none}
use Rattle.nd_update.proofs.Reading.{only_then}
use Rattle.nd_update.proofs.leaves.write_group.Goals as goal

pub returns-in_err-leaf-clause-does : goal.returns-in_err-leaf-clause-does
returns-in_err-leaf-clause-does c = match_none c.from_residual.result _ _ c.from_residual.ensures c.in_err-leaf.ensures.does

pub write_word-requires-clause-fresh : goal.write_word-requires-clause-fresh
write_word-requires-clause-fresh c = let leaf = c.in_ok-leaf.leaf in now_fresh c.args.rows.now (leaf ∷ []) [] [] c.args.pass.now c.take_row.new.pass c.in_ok-leaf.ensures.does leaf (in_head leaf [])

pub loop-k-init : goal.loop-k-init
loop-k-init c =
    let leaf = c.in_ok-leaf.leaf in
    let links = c.args.links.now in
    let values = c.args.values.now in
    let group = c.args.group.now in
    let d = c.args.rows.now.shape in
    let inside : (i : ℕ) → i < length group → (get_or group i 0 < length links) × (get_or group i 0 < length values) = λ i low. let few = c.requires.places i 0 low in (omega (arith, few, c.told-links), omega (arith, few, c.told-values)) in
    let parts : (i : ℕ) → i < length group → (v : List ℤ) → v ≡ get_or values (get_or group i 0) v → length v ≡ d = λ i low v is. ap length is ∙ c.requires.parts (get_or group i 0) v (inside i low).1 in
    let some = c.requires.group.0 in
    let v = c.index-values-group.result in
    let one : c.of-range.result ≡ box_of v = c.of-range.ensures ∙ ap box_of (sym c.index-values-group.is) in
    let long = parts 0 some v c.index-values-group.is in
    let x = c.from.result in
    record {
      least = omega arith;
      does = does_both c.args.rows.now (leaf ∷ []) [] [] [] [] (leaf ∷ []) c.args.pass.now c.take_row.new.pass c.write_word.new.pass c.in_ok-leaf.ensures.does c.write_word.ensures.does;
      work = c.write_word.ensures.work ∙ c.in_ok-leaf.ensures.work;
      only = only_then c.args.rows.now (leaf ∷ []) [] [] [] c.args.pass.now c.take_row.new.pass c.write_word.new.pass c.in_ok-leaf.ensures.does c.take_row.ensures.only c.write_word.ensures.only;
      linked = link_first d leaf links values group inside parts (known_words (known_of c.write_word.new.pass)) x some c.from.ensures c.write_word.ensures.word;
      long = links_long d leaf links values group inside parts 0 x some c.from.ensures refl;
      range = box_first d leaf links values group inside parts v c.of-range.result some c.index-values-group.is one;
      ideal = ap (λ b. length b.ideal) one ∙ long;
      nadir = ap (λ b. length b.nadir) one ∙ long;
    }

pub write_word-requires-in-loop-k-clause-fresh : goal.write_word-requires-in-loop-k-clause-fresh
write_word-requires-in-loop-k-clause-fresh c =
    let leaf = c.in_ok-leaf.leaf in now_fresh c.args.rows.now (leaf ∷ []) [] (leaf ∷ []) c.args.pass.now c.loop-k.pass c.loop-k.invariant.does leaf (in_head leaf [])

pub loop-k-preserved : goal.loop-k-preserved
loop-k-preserved c =
    let leaf = c.in_ok-leaf.leaf in
    let links = c.args.links.now in
    let values = c.args.values.now in
    let group = c.args.group.now in
    let d = c.args.rows.now.shape in
    let inside : (i : ℕ) → i < length group → (get_or group i 0 < length links) × (get_or group i 0 < length values) = λ i low. let few = c.requires.places i 0 low in (omega (arith, few, c.told-links), omega (arith, few, c.told-values)) in
    let parts : (i : ℕ) → i < length group → (v : List ℤ) → v ≡ get_or values (get_or group i 0) v → length v ≡ d = λ i low v is. ap length is ∙ c.requires.parts (get_or group i 0) v (inside i low).1 in
    let k = c.loop-k.k in
    let low : k < length group = c.loop-k-test.true in
    let so_far = c.loop-k.invariant in
    let v = c.index-values-group-in-loop-k.result in
    let x = c.from-in-loop-k.result in
    let now = c.write_word-in-loop-k in
    let longs = box_long d leaf links values group inside parts k v c.loop-k.range c.grow.new.self low c.index-values-group-in-loop-k.is (subst (λ z. IsTrue (encloses c.grow.new.self z)) (sym c.index-values-group-in-loop-k.is) c.grow.ensures.new) in
    record {
      least = omega arith;
      does = does_write c.args.rows.now (leaf ∷ []) [] (leaf ∷ []) (leaf ∷ []) c.args.pass.now c.loop-k.pass now.new.pass (λ y here. here) so_far.does now.ensures.does;
      work = now.ensures.work ∙ so_far.work;
      only = only_then c.args.rows.now (leaf ∷ []) [] (leaf ∷ []) [] c.args.pass.now c.loop-k.pass now.new.pass so_far.does so_far.only now.ensures.only;
      linked = link_next d leaf links values group inside parts k x (FIRST_LINK + k) (known_words (known_of c.loop-k.pass)) (known_words (known_of now.new.pass)) low c.from-in-loop-k.ensures refl so_far.long so_far.linked now.ensures.outside now.ensures.word;
      long = links_long d leaf links values group inside parts k x low c.from-in-loop-k.ensures so_far.long;
      range = box_next d leaf links values group inside parts k v c.loop-k.range c.grow.new.self so_far.least low c.index-values-group-in-loop-k.is so_far.range (c.grow.ensures.value ∙ ap (λ z. grown c.loop-k.range z) (sym c.index-values-group-in-loop-k.is));
      ideal = longs.0;
      nadir = longs.1;
    }

pub write_first-requires-clause-fresh : goal.write_first-requires-clause-fresh
write_first-requires-clause-fresh c =
    let leaf = c.in_ok-leaf.leaf in now_fresh c.args.rows.now (leaf ∷ []) [] (leaf ∷ []) c.args.pass.now c.loop-k.pass c.loop-k.invariant.does leaf (in_head leaf [])

pub write_box-requires-clause-fresh : goal.write_box-requires-clause-fresh
write_box-requires-clause-fresh c =
    let leaf = c.in_ok-leaf.leaf in still_fresh c.args.rows.now [] [] (leaf ∷ []) c.loop-k.pass c.write_first.new.pass c.write_first.ensures.does leaf
    (now_fresh c.args.rows.now (leaf ∷ []) [] (leaf ∷ []) c.args.pass.now c.loop-k.pass c.loop-k.invariant.does leaf (in_head leaf []))

pub returns-clause-does : goal.returns-clause-does
returns-clause-does c =
    let r = c.args.rows.now in
    let leaf = c.in_ok-leaf.leaf in
    does_write r (leaf ∷ []) [] (leaf ∷ []) (leaf ∷ []) c.args.pass.now c.write_first.new.pass c.write_box.new.pass (λ y here. here)
    (does_write r (leaf ∷ []) [] (leaf ∷ []) (leaf ∷ []) c.args.pass.now c.loop-k.pass c.write_first.new.pass (λ y here. here) c.loop-k.invariant.does c.write_first.ensures.does) c.write_box.ensures.does

pub returns-clause-links : goal.returns-clause-links
returns-clause-links c =
    let leaf = c.in_ok-leaf.leaf in
    let links = c.args.links.now in
    let group = c.args.group.now in
    let k = c.loop-k.k in
    let done : k ≡ length group = omega (arith, c.loop-k-test.false, c.loop-k.auto.k-end) in
    let all : take k group ≡ group = take_all k group (omega arith) in
    let linked = subst (λ ks. HasWords (known_words (known_of c.loop-k.pass)) leaf FIRST_LINK (at_places links ks)) all c.loop-k.invariant.linked in
    let long : length (at_places links group) ≡ length group = sym (ap (λ ks. length (at_places links ks)) all) ∙ c.loop-k.invariant.long ∙ done in
    link_row LEAF leaf (at_places links group) (known_words (known_of c.loop-k.pass)) (known_words (known_of c.write_first.new.pass)) (known_words (known_of c.write_box.new.pass)) linked (omega (arith, long, c.requires.group.1))
    c.write_first.ensures.outside (c.write_first.ensures.word ∙ ap (λ n. Some (KINDS * n + LEAF)) (sym long)) c.write_box.ensures.outside

pub returns-in_err-leaf-clause-only : goal.returns-in_err-leaf-clause-only
returns-in_err-leaf-clause-only c = c.take_row.ensures.only

pub returns-clause-only : goal.returns-clause-only
returns-clause-only c =
    let r = c.args.rows.now in
    let leaf = c.in_ok-leaf.leaf in
    let end = c.write_box.new.pass in
    only_then r (leaf ∷ []) [] (leaf ∷ []) [] c.args.pass.now c.loop-k.pass end c.loop-k.invariant.does c.loop-k.invariant.only
    (only_then r [] [] (leaf ∷ []) [] c.loop-k.pass c.write_first.new.pass end c.write_first.ensures.does c.write_first.ensures.only c.write_box.ensures.only)
