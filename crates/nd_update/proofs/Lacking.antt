-- What a pass did before it found no row free, and a change of its list afterwards.
use Rattle.std.proofs.Common.{◌≡◌, List, ℕ, sym, ap, subst, ◌∙◌}
use Rattle.era_rows.specs.Passes.{known_of, knows_of, IsPassOf}
use Rattle.era_rows.specs.declared.pass.Pass.{Pass}
use Rattle.era_rows.specs.declared.rows.Rows.{Rows}
use Rattle.era_rows.specs.declared.law.Law.{Ghosts}
use Rattle.pls_archive.specs.declared.call.Entry.{Entry}
use Rattle.nd_update.specs.Counted.{IsWithin, IsCrowded, IsShort}
use Rattle.nd_update.specs.Building.{Builds, Does, Lacks}
use Rattle.nd_update.proofs.Building.{builds_both}

module _ {L : Type 0} {G : Ghosts L Entry} (r : Rows L Entry) where
  pub does_lacks : (t m c : List ℕ) (p q s : Pass L Entry G) → Does r t m c p q → Lacks r q s → Lacks r p s
  does_lacks t m c p q s does lacks = record {
    goes = record {
      is_pass = lacks.goes.is_pass;
      same_number = lacks.goes.same_number ∙ does.same_number;
      same_seen = lacks.goes.same_seen ∙ does.same_seen;
      same_lists = lacks.goes.same_lists ∙ does.same_lists;
      builds = builds_both (known_of p) (known_of q) (known_of s) does.builds lacks.goes.builds;
    };
    within = lacks.within;
    crowded = lacks.crowded;
    short = lacks.short;
  }

  -- the list alone has changed
  pub lacks_work : (p q s : Pass L Entry G) → Lacks r p q → ((x : Rows L Entry) → IsPassOf x q → IsPassOf x s) → s.number ≡ q.number → knows_of s ≡ knows_of q → Lacks r p s
  lacks_work p q s lacks pass number knows =
      let same = sym (ap (λ k. k.view) knows) in record {
        goes = record {
          is_pass = pass r lacks.goes.is_pass;
          same_number = number ∙ lacks.goes.same_number;
          same_seen = ap (λ k. k.seen) knows ∙ lacks.goes.same_seen;
          same_lists = ap (λ k. k.lists) knows ∙ lacks.goes.same_lists;
          builds = subst (Builds (known_of p)) same lacks.goes.builds;
        };
        within = subst IsWithin same lacks.within;
        crowded = subst IsCrowded same lacks.crowded;
        short = subst IsShort same lacks.short;
      }
