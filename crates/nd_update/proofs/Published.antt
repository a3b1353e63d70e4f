-- What a pass has after it published what it built, or did not.
use Rattle.std.proofs.Common.{◌≡◌, ℕ, Bool, not, if◌then◌else◌, List, [], ◌∷◌, length, refl, sym, ap, subst, ◌∙◌, arith}
use Rattle.std.specs.Prelude.{slice_index_or, Ok}
use Rattle.std.proofs.lemmas.Bool.{lt-ltb}
use Rattle.era_core.specs.Lists.{times, In, without}
use Rattle.era_core.specs.Versions.{Copy}
use Rattle.era_core.proofs.ListFacts.{in_head, in_tail}
use Rattle.era_rows.specs.Known.{Known, copy_known}
use Rattle.era_rows.specs.Passes.{IsStarted}
use Rattle.era_rows.specs.declared.pass.Pass.{Pass}
use Rattle.era_rows.specs.declared.rows.Rows.{Rows}
use Rattle.era_rows.specs.declared.law.Law.{Ghosts}
use Rattle.era_rows.specs.declared.views.Knows.{Knows}
use Rattle.era_one_row.proofs.Finishing.{Ends}
use Rattle.pls_archive.specs.declared.call.Entry.{Entry}
use Rattle.nd_update.specs.Resting.{IsAtRest}
use mathlib.Core.Option.{some}
use lib.ListN.{get_elem?}

-- where all are gone, none is left
none_left : (gone xs : List ℕ) → ((x : ℕ) → In x xs → In x gone) → without gone xs ≡ []
none_left gone [] all = refl
none_left gone (y ∷ ys) all =
    ap (λ s. if not s then y ∷ without gone ys else without gone ys) (lt-ltb 0 (times y gone) (all y (in_head y ys)))
    ∙ none_left gone ys (λ x here. all x (in_tail x y ys here))

module _ {E : Type 0} (caller stamp : E → ℕ) (accepted : ℕ → E → Bool) (lawful : ℕ → Copy → Type 0) (stands : ℕ → Copy → List E → Type 0) (right : ℕ → E → List E → Type 0)
    (n p q : ℕ) (e : E) (before after : Knows E) where
  -- no row is fresh still, where the new tree has them all
  pub none_fresh : (v : ℕ) → Ends caller stamp accepted lawful stands right n p q e before after (Ok v)
      → ((x : ℕ) → In x before.view.core.fresh → In x (copy_known before.view q).rows) → after.view.core.fresh ≡ []
  none_fresh v done used =
      let read = done.2.1.now in
      ap (λ (k : Knows E). k.view.core.fresh) done.2.2.now
      ∙ ap (λ (k : Known). without (copy_known k q).rows k.core.fresh) read
      ∙ none_left (copy_known before.view q).rows before.view.core.fresh used

module _ {L : Type 0} {G : Ghosts L Entry} (r : Rows L Entry) where
  at_rest : (n : ℕ) (p : Pass L Entry G) → IsStarted r n p → IsAtRest r p
  at_rest n p started = record {
    is_pass = started.is_pass;
    unpinned = ap (λ (k : Known). k.core.pinned) started.knows;
    no_fresh = ap (λ (k : Known). k.core.fresh) started.knows;
    no_marks = started.no_marks;
    idle = started.no_work;
  }

  -- the only pass, as the start leaves it
  pub one_at_rest : (ps : List (Pass L Entry G)) (a : Pass L Entry G) → length ps ≡ 1 → ((i : ℕ) (p : Pass L Entry G) → get_elem? ps i ≡ some p → IsStarted r i p)
      → a ≡ slice_index_or ps 0 a → IsAtRest r a
  one_at_rest [] a one started first = absurd (omega arith)
  one_at_rest (x ∷ ps) a one started first = subst (IsAtRest r) (sym first) (at_rest 0 x (started 0 x refl))
