-- The first worker with the starts that it submitted, and with workers that have done nothing.
use Rattle.std.proofs.Common.{◌≡◌, ℕ, ◌+◌, List, [], ◌∷◌, ◌++◌, refl, ap, arith}
use Rattle.std.proofs.lemmas.List.{length-append}
use Rattle.pls_archive.specs.declared.point.Point.{Point}
use Rattle.pls_archive.specs.View.{View, new_view}
use Rattle.pls_pool.specs.Accounts.{IsNew}
use Rattle.pls_pool.specs.Tallies.{started}
use Rattle.pls_pool.specs.declared.tally.Tally.{Tally}
use Rattle.pls_problem.specs.declared.instance.Instance.{Instance}
use Rattle.pls_search.specs.Workers.{Hands, IsNewWorker}
use Rattle.pls_search.specs.Teams.{JoinsHands}
use Rattle.pls_search.specs.Leaving.{OfTeam, Lacks}
use Rattle.pls_search.proofs.Onwards.{no_work, HasDone-none}
use Rattle.pls_search.proofs.TeamJoins.{team_joins}

-- a seat whose account and tally are new, and its pass
pub IsNewWorker-made :
    (h : Hands) (number seat moves seats : ℕ) → h.view ≡ new_view number → IsNew seat h.account → h.tally ≡ started moves seats 1
    → h.explored ≡ 0 → h.evaluated ≡ 0 → IsNewWorker h
IsNewWorker-made h number seat moves seats view new tally explored evaluated = record {
  own = ap (λ (v : View). v.own) view;
  put = new.put;
  taken = new.taken;
  opened = ap (λ (t : Tally). t.opened) tally;
  done = ap (λ (t : Tally). t.done) tally;
  draws = ap (λ (t : Tally). t.draws) tally;
  goes = ap (λ (t : Tally). t.goes) tally;
  explored = explored;
  evaluated = evaluated;
}

-- ---- the team where a start is missing

-- a worker that has done nothing is taken over
pub gathered :
    (i : Instance) (starts : List Point) (k n : ℕ) (before other after : Hands) → k + 1 ≡ n → OfTeam i starts (k + 1) (Lacks starts) before
    → IsNewWorker other → other.view ≡ new_view n → JoinsHands before other after → OfTeam i starts (n + 1) (Lacks starts) after
gathered i starts k n before other after next of new seen joins =
    let all = of.all in
    let number = ap (λ (v : View). v.number) seen in
    let long = length-append of.others (no_work ∷ []) in
    record {
      first = of.first;
      others = of.others ++ no_work ∷ [];
      team =
          team_joins i starts of.first of.others no_work before other after of.team (HasDone-none i other new) refl (λ missed. refl)
          (omega (arith, number, all, next)) (ap (λ (v : View). v.others) seen) joins;
      all = omega (arith, all, long, next);
      why = of.why;
    }
