use Rattle.std.proofs.Common.{◌≡◌, ℕ, suc, ◌+◌, ◌-◌, ◌<◌, List, [], ◌∷◌, ◌++◌, map, sym, ap, ◌∙◌, arith, append_assoc}
use Rattle.std.proofs.lemmas.List.{map-append}
use Rattle.era_core.specs.Views.{View, start_view}
use Rattle.era_core.specs.Machine.{start_views}
use Rattle.era_core.specs.Passes.{view_of}
use Rattle.era_core.proofs.arena.first_views.Goals as goal

-- one more view moves from those that are left to those that are there
one_more : {A : Type 0} (f : A → View) (xs ys : List A) (x : A) (k n : ℕ) (all : List View) → ys ≡ xs ++ x ∷ [] → f x ≡ start_view k → k < n
    → map f xs ++ start_views k (n - k) ≡ all → map f ys ++ start_views (k + 1) (n - (k + 1)) ≡ all
one_more f xs ys x k n all more is below so_far =
    let left : n - k ≡ suc (n - (k + 1)) = omega arith in
    ap (λ (l : List View). l ++ start_views (k + 1) (n - (k + 1))) (ap (map f) more ∙ map-append f xs (x ∷ []) ∙ ap (λ v. map f xs ++ v ∷ []) is)
    ∙ append_assoc (map f xs) (start_view k ∷ []) (start_views (k + 1) (n - (k + 1)))
    ∙ ap (λ m. map f xs ++ start_views k m) (sym left)
    ∙ so_far

pub loop-number-preserved : goal.loop-number-preserved
loop-number-preserved c =
    one_more view_of _ _ _ c.loop-number.number c.args.passes (start_views 0 c.args.passes) c.in_ok-push.ensures.items c.new.ensures c.loop-number-test.true c.loop-number.invariant
