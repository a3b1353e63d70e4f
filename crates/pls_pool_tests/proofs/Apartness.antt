-- Seats that have no number in common.
use Rattle.std.proofs.Common.{◌≡◌, ℕ, ◌<◌, List, [], ◌∷◌, ⊎_elim, subst, arith}
use Rattle.pls_pool.specs.Accounts.{In, Apart}

pub apart_ones : (m n : ℕ) (ms ns : List ℕ) → ms ≡ m ∷ [] → ns ≡ n ∷ [] → m < n → Apart ms ns
apart_ones m n ms ns mine theirs less k one other =
    ⊎_elim (λ e. ⊎_elim (λ f. absurd (omega arith)) (λ none. absurd none) (subst (In k) theirs other)) (λ none. absurd none) (subst (In k) mine one)

pub apart_twos : (a b m n : ℕ) (ms ns : List ℕ) → ms ≡ a ∷ b ∷ [] → ns ≡ m ∷ n ∷ [] → a < m → b < m → a < n → b < n → Apart ms ns
apart_twos a b m n ms ns mine theirs am bm an bn k one other =
    ⊎_elim
    (λ e. ⊎_elim (λ f. absurd (omega arith)) (λ more. ⊎_elim (λ f. absurd (omega arith)) (λ none. absurd none) more) (subst (In k) theirs other))
    (λ rest. ⊎_elim (λ e. ⊎_elim (λ f. absurd (omega arith)) (λ more. ⊎_elim (λ f. absurd (omega arith)) (λ none. absurd none) more) (subst (In k) theirs other)) (λ none. absurd none) rest)
    (subst (In k) mine one)
