use Rattle.std.proofs.Common.{rules, ◌≡◌, inr, ℕ, zero, suc, ◌/◌, ◌<◌, List, [], ◌∷◌, length, set, refl, sym, ap, ◌∙◌, arith}
use Rattle.era_core.specs.Versions.{Copy}
use Rattle.era_core.proofs.ListFacts.{in_head}
use Rattle.era_rows.specs.Known.{known_words, pinned_copy}
use Rattle.era_rows.specs.Passes.{known_of}
use Rattle.pls_vectors.specs.Box.{Box}
use Rattle.nd_rows.specs.Nodes.{Placed, Nodes, no_nodes, leaf, rows_with}
use Rattle.nd_rows.specs.Walk.{HasPlaced}
use Rattle.nd_update.specs.Building.{Does}
use Rattle.nd_update.specs.Needed.{ReadsOnly}
use Rattle.nd_update.specs.Sweeps.{Settles}
use Rattle.nd_update.specs.Removal.{going}
use Rattle.nd_update.specs.Left.{hits_in, hits_of, IsHitLeaf}
use Rattle.nd_update.proofs.Building.{read_does}
use Rattle.nd_update.proofs.Lacking.{does_lacks}
use Rattle.nd_update.proofs.Paying.{still_read, paid_still}
use Rattle.nd_update.proofs.Reading.{only_then, only_row}
use Rattle.nd_update.proofs.Opening.{only_kept, looks_leaf}
use Rattle.nd_update.proofs.Removing.{stay_pinned, does_work}
use Rattle.nd_update.proofs.Sweeping.{hits_are}
use Rattle.nd_update.proofs.Settled.{node_elsewhere}
use Rattle.nd_update.proofs.Settling.{settle_does, mark_list_words, node_paid, settle_unmarked, pinned_still, still_row, still_points, still_hit, still_marks, settle_row, settle_few, settle_count, leaf_settled, leaf_unchanged}
use Rattle.nd_update.proofs.removes.settle_leaf.Goals as goal
use Rattle.nd_update.proofs.removes.settle_leaf.Goals.{After-dominated-hits, In_ok-left}

positive : (n : ℕ) → (n ≡ 0 → ⊥) → 0 < n
positive zero h = absurd (h refl)
positive (suc n) h = omega arith

pub read_word-requires-clause-row : goal.read_word-requires-clause-row
read_word-requires-clause-row c =
    let leaf = c.requires.leaf in
    inr (settle_row c.args.rows.now c.args.pass.now c.requires.building c.args.value.now leaf.3 leaf.4 c.args.row leaf.0 leaf.1 leaf.2 leaf.5)

pub overflow_cast-count : goal.overflow_cast-count
overflow_cast-count c =
    let leaf = c.requires.leaf in
    let few = settle_few c.args.rows.now c.args.pass.now c.requires.building c.args.value.now leaf.3 leaf.4 c.args.row leaf.0 leaf.1 leaf.2 leaf.5 in
    let n = settle_count c.args.rows.now c.args.pass.now c.requires.building c.args.value.now leaf.3 leaf.4 c.args.row leaf.0 leaf.1 leaf.2 leaf.5 c.read_word.result c.read_word.ensures.word in omega (arith, few, n)

pub dominated-hits-requires : goal.dominated-hits-requires
dominated-hits-requires c =
    let r = c.args.rows.now in
    let p = c.args.pass.now in
    let q = c.read_word.new.pass in
    let v = c.args.value.now in
    let one = c.read_word.ensures.does in
    let leaf = c.requires.leaf in
    let n = settle_count r p c.requires.building v leaf.3 leaf.4 c.args.row leaf.0 leaf.1 leaf.2 leaf.5 c.read_word.result c.read_word.ensures.word in
    let few = settle_few r p c.requires.building v leaf.3 leaf.4 c.args.row leaf.0 leaf.1 leaf.2 leaf.5 in
    record {
      building = one.building;
      parts = c.requires.parts;
      row = still_row r p c.requires.building v leaf.3 leaf.4 c.args.row leaf.0 leaf.1 leaf.2 leaf.5 q [] [] one;
      points = (leaf.1, still_points r p c.requires.building v leaf.3 leaf.4 c.args.row leaf.0 leaf.1 leaf.2 leaf.5 q [] [] one, n);
      few = omega (arith, few, n);
    }

-- the looks at the leaf and at its points
looks : (c : After-dominated-hits) → Does c.args.rows.now [] [] [] c.args.pass.now c.dominated-hits.new.pass
looks c = read_does c.args.rows.now [] [] [] c.args.pass.now c.read_word.new.pass c.dominated-hits.new.pass c.read_word.ensures.does c.dominated-hits.ensures.does

-- and what they say of it
module _ (c : After-dominated-hits) (b : Box) (placed : List Placed) (later : Nodes) (others : List ℕ) (removed : ℕ) (can : Settles c.args.rows.now c.args.value.now (leaf c.args.row b placed later) others c.args.pass.now removed) where
  count_is : length placed ≡ c.read_word.result / 4
  count_is = settle_count c.args.rows.now c.args.pass.now c.requires.building c.args.value.now others removed c.args.row b placed later can c.read_word.result c.read_word.ensures.word

  points : HasPlaced c.args.rows.now.shape (pinned_copy (known_of c.read_word.new.pass)) c.args.row placed
  points = still_points c.args.rows.now c.args.pass.now c.requires.building c.args.value.now others removed c.args.row b placed later can c.read_word.new.pass [] [] c.read_word.ensures.does

  hits_found : c.dominated-hits.result ≡ hits_of c.args.value.now placed
  hits_found = c.dominated-hits.ensures.hits placed points count_is

  hit_leaf : 0 < length placed → IsHitLeaf c.args.rows.now.shape (pinned_copy (known_of c.dominated-hits.new.pass)) c.args.row (c.read_word.result / 4) c.dominated-hits.result c.args.value.now b placed
  hit_leaf nonempty =
      still_hit c.args.rows.now c.args.pass.now c.requires.building c.args.value.now others removed c.args.row b placed later can c.dominated-hits.new.pass [] [] (looks c) (c.read_word.result / 4) c.dominated-hits.result
      count_is nonempty hits_found

  looks_only : ReadsOnly (c.args.row ∷ rows_with placed) (known_of c.args.pass.now) (known_of c.dominated-hits.new.pass)
  looks_only =
      looks_leaf c.args.rows.now c.args.pass.now c.read_word.new.pass c.dominated-hits.new.pass c.args.row placed c.read_word.ensures.does c.read_word.ensures.only (c.dominated-hits.ensures.only placed points count_is)

-- the same leaf, once a row was taken
still_leaf : (c : In_ok-left) (b : Box) (placed : List Placed) → IsHitLeaf c.args.rows.now.shape (pinned_copy (known_of c.dominated-hits.new.pass)) c.args.row (c.read_word.result / 4) c.dominated-hits.result c.args.value.now b placed
    → IsHitLeaf c.args.rows.now.shape (pinned_copy (known_of c.left_of_leaf.new.pass)) c.args.row (c.read_word.result / 4) c.dominated-hits.result c.args.value.now b placed
still_leaf c b placed is =
    let took = c.in_ok-left.ensures.does in
    stay_pinned c.args.rows.now (λ (x : Copy). IsHitLeaf c.args.rows.now.shape x c.args.row (c.read_word.result / 4) c.dominated-hits.result c.args.value.now b placed) took.0 [] took.0 c.dominated-hits.new.pass c.left_of_leaf.new.pass took.2 is

pub returns-then-hit-eq0 : goal.returns-then-hit-eq0
returns-then-hit-eq0 c =
    let r = c.args.rows.now in
    let p = c.args.pass.now in
    let s = c.dominated-hits.new.pass in
    let v = c.args.value.now in
    let x = c.work_set.new.self in
    let set_is = c.work_set.ensures in
    let looked = (goal.at.returns-then-hit-eq0 c).After-dominated-hits in
    let all = read_does r [] [] [] p s x (looks looked) (does_work r s x c.dominated-hits.ensures.does.building set_is.pass set_is.number set_is.known set_is.marks set_is.memory) in
    record {
      lacks = search rules;
      does = ([], [], all);
      paid = paid_still r 0 [] [] p x c.requires.building all c.requires.paid;
      only = λ b placed later others removed can at nonempty. only_kept (c.args.row ∷ rows_with placed) (known_of p) s x set_is.known (looks_only looked b placed later others removed can);
      settled = λ b placed later others removed can at nonempty.
          let hit_is = hits_found looked b placed later others removed can in
          leaf_unchanged r p c.requires.building v others removed c.args.row b placed later can x all c.args.k c.told.result at (sym (hits_are v placed) ∙ sym (ap hits_in hit_is) ∙ sym c.count_hits-hit.ensures ∙ c.if-hit-eq0.true) (let e = c.told.ensures in omega (arith, e))
          (set_is.work ∙ ap (λ ws. set ws c.args.k c.told.result) (c.dominated-hits.ensures.work ∙ c.read_word.ensures.work));
    }

pub left_of_leaf-requires : goal.left_of_leaf-requires
left_of_leaf-requires c =
    let r = c.args.rows.now in
    let p = c.args.pass.now in
    let s = c.dominated-hits.new.pass in
    let v = c.args.value.now in
    let leaf = c.requires.leaf in
    let looked = (goal.at.left_of_leaf-requires c).After-dominated-hits in
    record {
      building = c.dominated-hits.ensures.does.building;
      pinned = pinned_still r p s [] [] [] (looks looked) c.requires.pinned;
      row = still_row r p c.requires.building v leaf.3 leaf.4 c.args.row leaf.0 leaf.1 leaf.2 leaf.5 s [] [] (looks looked);
      leaf = (v, leaf.0, leaf.1, hit_leaf looked leaf.0 leaf.1 leaf.2 leaf.3 leaf.4 leaf.5 leaf.7);
      hit = (c.count_hits-hit.ensures, (let some_hit = c.if-hit-eq0.false in positive c.count_hits-hit.result some_hit));
      paid = paid_still r 0 [] [] p s c.requires.building (looks looked) c.requires.paid;
    }

pub mark_leaf-requires : goal.mark_leaf-requires
mark_leaf-requires c =
    let r = c.args.rows.now in
    let p = c.args.pass.now in
    let v = c.args.value.now in
    let u = c.left_of_leaf.new.pass in
    let leaf = c.requires.leaf in
    let looked = (goal.at.mark_leaf-requires c).After-dominated-hits in
    let left = c.in_ok-left.ensures.does in
    let now = read_does r left.0 [] left.0 p c.dominated-hits.new.pass u (looks looked) left.2 in
    let hit = still_leaf (goal.at.mark_leaf-requires c).In_ok-left leaf.0 leaf.1 (hit_leaf looked leaf.0 leaf.1 leaf.2 leaf.3 leaf.4 leaf.5 leaf.7) in
    record {
      building = left.2.building;
      row = still_row r p c.requires.building v leaf.3 leaf.4 c.args.row leaf.0 leaf.1 leaf.2 leaf.5 u left.0 left.0 now;
      leaf = (v, leaf.0, leaf.1, hit, still_marks r p c.requires.building v leaf.3 leaf.4 c.args.row leaf.0 leaf.1 leaf.2 leaf.5 u left.0 left.0 now);
    }

pub returns : goal.returns
returns c =
    let r = c.args.rows.now in
    let p = c.args.pass.now in
    let q = c.read_word.new.pass in
    let s = c.dominated-hits.new.pass in
    let v = c.args.value.now in
    let row = c.args.row in
    let building = c.requires.building in
    let found = c.requires.leaf in
    let placed = found.1 in
    let u = c.left_of_leaf.new.pass in
    let taken = c.in_ok-left.ensures.does.0 in
    let left = c.in_ok-left.ensures.does.2 in
    let w = c.mark_leaf.new.pass in
    let x = c.work_set-2.new.self in
    let looked = (goal.at.returns c).After-dominated-hits in
    let kept = still_leaf (goal.at.returns c).In_ok-left in
    let marks = row ∷ rows_with (going v placed) in
    let mark = c.mark_leaf.ensures.does v found.0 placed (kept found.0 placed (hit_leaf looked found.0 placed found.2 found.3 found.4 found.5 found.7)) in
    let set_is = c.work_set-2.ensures in
    let list = does_work r w x mark.building set_is.pass set_is.number set_is.known set_is.marks set_is.memory in
    let all = settle_does r p s u w x taken marks (looks looked) left mark list in
    let rest = settle_does r q s u w x taken marks c.dominated-hits.ensures.does left mark list in
    record {
      lacks = search rules;
      does = (taken, marks, all);
      paid = node_paid r taken row (rows_with (going v placed)) taken p x building all (settle_unmarked r p building v found.3 found.4 row found.0 placed found.2 found.5)
          (λ _. still_read r taken marks taken q x c.read_word.ensures.does.building rest row c.read_word.ensures.read) c.in_ok-left.ensures.does.1 c.requires.paid;
      only = λ b placed later others removed can at nonempty.
          let rows = row ∷ rows_with placed in
          only_kept rows (known_of p) w x set_is.known
          (only_then r [] [] [] rows p s w (looks looked) (looks_only looked b placed later others removed can)
          (only_row row rows (known_of s) (known_of w) (in_head row (rows_with placed)) (only_then r taken [] taken (row ∷ []) s u w left c.left_of_leaf.ensures.only c.mark_leaf.ensures.only)));
      settled = λ b placed later others removed can at nonempty.
          let hit = hit_leaf looked b placed later others removed can nonempty in
          let left_is = c.in_ok-left.ensures.left v b placed hit in
          let taken = left_is.0 in
          let marks = row ∷ rows_with (going v placed) in
          let mark = c.mark_leaf.ensures.does v b placed (kept b placed hit) in
          leaf_settled r p building v others removed row b placed later can x taken marks (settle_does r p s u w x taken marks (looks looked) left_is.1 mark list) c.args.k c.in_ok-left.left c.count_hits-hit.result at
          (node_elsewhere r.rows v r.shape (leaf row b placed no_nodes) (known_words (known_of u)) (known_words (known_of x)) taken marks c.count_hits-hit.result c.in_ok-left.left (mark_list_words r u w x marks mark list) left_is.2)
          (set_is.work ∙ ap (λ ws. set ws c.args.k c.in_ok-left.left) (c.mark_leaf.ensures.work ∙ c.left_of_leaf.ensures.work ∙ c.dominated-hits.ensures.work ∙ c.read_word.ensures.work));
    }

pub returns-in_err-left-clause-lacks : goal.returns-in_err-left-clause-lacks
returns-in_err-left-clause-lacks c _ =
    does_lacks c.args.rows.now [] [] [] c.args.pass.now c.dominated-hits.new.pass c.left_of_leaf.new.pass (looks (goal.at.returns-in_err-left-clause-lacks c).After-dominated-hits) (c.in_err-left.ensures.lacks refl)

pub returns-in_err-left-clause-only : goal.returns-in_err-left-clause-only
returns-in_err-left-clause-only c b placed later others removed can at nonempty =
    let s = c.dominated-hits.new.pass in
    let u = c.left_of_leaf.new.pass in
    let rows = c.args.row ∷ rows_with placed in
    let looked = (goal.at.returns-in_err-left-clause-only c).After-dominated-hits in
    only_then c.args.rows.now [] [] [] rows c.args.pass.now s u (looks looked) (looks_only looked b placed later others removed can)
    (only_row c.args.row rows (known_of s) (known_of u) (in_head c.args.row (rows_with placed)) c.left_of_leaf.ensures.only)
