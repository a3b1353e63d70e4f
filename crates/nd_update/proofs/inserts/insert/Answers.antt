use Rattle.std.proofs.Common.{ℕ, IfSome, [], ◌∷◌, sym, subst}
use Rattle.era_rows.specs.Known.{pinned_copy, known_words}
use Rattle.era_rows.specs.Passes.{known_of, marked_of}
use Rattle.nd_rows.specs.Nodes.{Nodes}
use Rattle.nd_update.specs.Needed.{ReadsOnly, on_way}
use Rattle.nd_update.specs.Removal.{without_dominated}
use Rattle.nd_update.specs.Updates.{MayUpdate}
use Rattle.nd_update.specs.Left.{IsLeft}
use Rattle.nd_update.specs.Inserted.{IsInserted}
use Rattle.nd_update.proofs.Alone.{inserted_alone}
use Rattle.nd_update.proofs.Filling.{match_both}
use Rattle.nd_update.proofs.Reading.{only_any}
use Rattle.nd_update.proofs.inserts.insert.Goals as goal

pub returns-in-None-clause-does : goal.returns-in-None-clause-does
returns-in-None-clause-does c =
    match_both c.insert_alone.result _ _ _ _ (λ lacks. lacks) (λ leaf is. (is.0 ∷ leaf ∷ [], [], (is.0 ∷ leaf ∷ [], is.1))) c.insert_alone.ensures.inserted

pub returns-in-None-clause-inserted : goal.returns-in-None-clause-inserted
returns-in-None-clause-inserted c =
    let r = c.args.rows.now in
    match_both c.insert_alone.result _ _ _ _ (λ lacks. tt)
    (λ leaf is t may removed is_left. inserted_alone r r.shape c.args.point.now c.args.pass.now c.insert_alone.new.pass leaf is.0 is.1 is.2 is.3 t removed c.args.root c.in-None.is is_left)
    c.insert_alone.ensures.inserted

pub returns-in-Some-clause-inserted : goal.returns-in-Some-clause-inserted
returns-in-Some-clause-inserted c =
    let r = c.args.rows.now in
    let p = c.args.pass.now in
    let q = c.insert_below.new.pass in
    subst (λ o. IfSome c.insert_below.result (λ new_root. (t : Nodes) → MayUpdate r.shape r.rows c.args.point.now (pinned_copy (known_of p)) t
    → (removed : ℕ) → IsLeft r.rows c.args.point.now.value r.shape t (known_words (known_of p)) (known_of p).core.fresh (marked_of p) o removed
    → IsInserted r.rows r.shape c.args.point.now t (known_words (known_of q)) (known_of q).core.fresh (marked_of q) new_root)) (sym c.in-Some.is) c.insert_below.ensures.inserted

pub returns-in-None-clause-only : goal.returns-in-None-clause-only
returns-in-None-clause-only c t may removed is_left =
    let r = c.args.rows.now in
    let v = c.args.point.now.value in only_any (on_way v (without_dominated r.rows v t) 0) (known_of c.args.pass.now) (known_of c.insert_alone.new.pass) c.insert_alone.ensures.only

pub returns-in-Some-clause-only : goal.returns-in-Some-clause-only
returns-in-Some-clause-only c =
    let r = c.args.rows.now in
    let v = c.args.point.now.value in
    let p = c.args.pass.now in
    let q = c.insert_below.new.pass in
    subst (λ o. (t : Nodes) → MayUpdate r.shape r.rows c.args.point.now (pinned_copy (known_of p)) t
    → (removed : ℕ) → IsLeft r.rows v r.shape t (known_words (known_of p)) (known_of p).core.fresh (marked_of p) o removed
    → ReadsOnly (on_way v (without_dominated r.rows v t) 0) (known_of p) (known_of q)) (sym c.in-Some.is) c.insert_below.ensures.only
