-- Rows that a pass takes for a tree that it builds, and gives back.
use Rattle.std.proofs.Common.{◌≡◌, ℕ, ◌+◌, ◌<◌, Option, Some, None, [], ◌∷◌, length, refl, sym, ap, subst, ◌∙◌, arith, append-nil}
use Rattle.std.specs.Prelude.{MatchOption}
use Rattle.era_core.specs.Lists.{without}
use Rattle.era_core.specs.Versions.{look_up}
use Rattle.era_core.proofs.Room.{length_without}
use Rattle.era_rows.specs.Known.{Known, known_words}
use Rattle.era_rows.specs.Passes.{known_of, seen_of, lists_of, marked_of, memory_of, work_of, giving_back, IsPassOf, HasSame}
use Rattle.era_rows.specs.declared.pass.Pass.{Pass}
use Rattle.era_rows.specs.declared.rows.Rows.{Rows}
use Rattle.era_rows.specs.declared.law.Law.{Ghosts}
use Rattle.era_one_row.specs.Finding.{FindsRow}
use Rattle.era_one_row.proofs.FindingRows.{took_row, found_none, finds_goes, may_looked}
use Rattle.era_one_row.proofs.Preparing.{in_listed}
use Rattle.pls_archive.specs.declared.call.Entry.{Entry}
use Rattle.nd_update.specs.Building.{Builds, IsBuilding, Does, Lacks}
use Rattle.nd_update.specs.Counted.{IsCounted, IsPaid}
use Rattle.nd_update.proofs.Counting.{counted_took, none_within, none_crowded, none_short}
use Rattle.nd_update.proofs.Building.{may_build, builds_none, builds_both}
use mathlib.Core.Option.{some}
use lib.ListN.{get_elem?}

-- ---- a row that was found

module _ {L : Type 0} {G : Ghosts L Entry} (r : Rows L Entry) (p q : Pass L Entry G) (building : IsBuilding r p) (paid : IsPaid ((known_of p).shape + 2) (known_of p) (marked_of p)) (is_pass : IsPassOf r q) (same : HasSame p q) where
  took_does : (row : ℕ) → FindsRow (known_of p).rows (known_of p) (known_of q) (Some row) → Does r (row ∷ []) [] [] p q
  took_does row found =
      let k = known_of p in
      let l = known_of q in
      let took = took_row k.rows row k l found in
      let now = took.now in record {
        building = may_build r q is_pass (subst (IsCounted l) (sym same.same_marks) (counted_took k (marked_of p) building.counted paid l row found));
        same_number = same.same_pass.same_number;
        same_seen = same.same_seen;
        same_lists = same.same_lists;
        same_memory = same.same_pass.same_memory;
        builds = record {
          number = ap (λ (x : Known). x.core.number) now;
          pinned = ap (λ (x : Known). x.core.pinned) now;
          copies = ap (λ (x : Known). x.copies) now;
          shape = ap (λ (x : Known). x.shape) now;
          rows = ap (λ (x : Known). x.rows) now;
          passes = ap (λ (x : Known). x.passes) now;
          since = ap (λ (x : Known). x.since) now;
          looked = may_looked k l (finds_goes k.rows k l (Some row) found);
        };
        fresh = ap (λ (x : Known). x.core.fresh) now;
        marks = same.same_marks ∙ sym (append-nil (marked_of p));
        elsewhere = λ x i none. ap (λ (z : Known). look_up (known_words z) x i) now;
        full = ap (λ (x : Known). x.full) now;
      }

  none_lacks : FindsRow (known_of p).rows (known_of p) (known_of q) None → Lacks r p q
  none_lacks found =
      let k = known_of p in
      let l = known_of q in
      let now = (found_none k.rows k l found).now in record {
        goes = record {
          is_pass = is_pass;
          same_number = same.same_pass.same_number;
          same_seen = same.same_seen;
          same_lists = same.same_lists;
          builds = record {
            number = ap (λ (x : Known). x.core.number) now;
            pinned = ap (λ (x : Known). x.core.pinned) now;
            copies = ap (λ (x : Known). x.copies) now;
            shape = ap (λ (x : Known). x.shape) now;
            rows = ap (λ (x : Known). x.rows) now;
            passes = ap (λ (x : Known). x.passes) now;
            since = ap (λ (x : Known). x.since) now;
            looked = may_looked k l (finds_goes k.rows k l None found);
          };
        };
        crowded = none_crowded k (marked_of p) building.counted paid l p.number p.tied.numbered found;
        within = none_within k (marked_of p) building.counted paid l p.number p.tied.numbered found;
        short = none_short k (marked_of p) building.counted paid l p.number p.tied.numbered found;
      }

  -- a search for a row, by its answer
  by_answer : (answer : Option ℕ) → FindsRow (known_of p).rows (known_of p) (known_of q) answer → MatchOption answer (Lacks r p q) (λ row. Does r (row ∷ []) [] [] p q)
  by_answer (Some row) found = took_does row found
  by_answer None found = none_lacks found

pub finds_does : {L : Type 0} {G : Ghosts L Entry} (r : Rows L Entry) (p q : Pass L Entry G) → IsBuilding r p → IsPaid (r.shape + 2) (known_of p) (marked_of p) → IsPassOf r q → HasSame p q → (answer : Option ℕ)
    → FindsRow r.rows (known_of p) (known_of q) answer → MatchOption answer (Lacks r p q) (λ row. Does r (row ∷ []) [] [] p q)
finds_does r p q building paid is_pass same answer found =
    let sized = building.is_pass.sized in
    by_answer r p q building (subst (λ n. IsPaid (n + 2) (known_of p) (marked_of p)) (sym sized.shape_is) paid) is_pass same answer (subst (λ n. FindsRow n (known_of p) (known_of q) answer) (sym sized.rows_are) found)

-- ---- rows that were given back

module _ {L : Type 0} {G : Ghosts L Entry} where
  -- the pass has given rows back, and done nothing else
  pub record GivesBack (r : Rows L Entry) (p q : Pass L Entry G) : Type 0 where
    pub is_pass : IsPassOf r q
    pub same_number : q.number ≡ p.number
    pub same_seen : seen_of q ≡ seen_of p
    pub same_lists : lists_of q ≡ lists_of p
    pub same_memory : memory_of q ≡ memory_of p
    pub same_marks : marked_of q ≡ marked_of p
    pub same_work : work_of q ≡ work_of p
    pub builds : Builds (known_of p) (known_of q)
    pub same_looks : (known_of q).looks ≡ (known_of p).looks
    pub same_full : (known_of q).full ≡ (known_of p).full
    pub same_retired : (known_of q).core.retired ≡ (known_of p).core.retired

module _ {L : Type 0} {G : Ghosts L Entry} (r : Rows L Entry) where
  pub gives_none : (p : Pass L Entry G) → IsPassOf r p → GivesBack r p p
  gives_none p is_pass = record {
    is_pass = is_pass;
    same_number = refl;
    same_seen = refl;
    same_lists = refl;
    same_memory = refl;
    same_marks = refl;
    same_work = refl;
    builds = builds_none (known_of p);
    same_looks = refl;
    same_full = refl;
    same_retired = refl;
  }

  pub gives_more : (p q s : Pass L Entry G) (row : ℕ) → GivesBack r p q → IsPassOf r s → HasSame q s → known_of s ≡ giving_back row (known_of q) → GivesBack r p s
  gives_more p q s row so_far is_pass same now = record {
    is_pass = is_pass;
    same_number = same.same_pass.same_number ∙ so_far.same_number;
    same_seen = same.same_seen ∙ so_far.same_seen;
    same_lists = same.same_lists ∙ so_far.same_lists;
    same_memory = same.same_pass.same_memory ∙ so_far.same_memory;
    same_marks = same.same_marks ∙ so_far.same_marks;
    same_work = same.same_pass.same_work ∙ so_far.same_work;
    builds = builds_both (known_of p) (known_of q) (known_of s) so_far.builds (record {
      number = ap (λ (x : Known). x.core.number) now;
      pinned = ap (λ (x : Known). x.core.pinned) now;
      copies = ap (λ (x : Known). x.copies) now;
      shape = ap (λ (x : Known). x.shape) now;
      rows = ap (λ (x : Known). x.rows) now;
      passes = ap (λ (x : Known). x.passes) now;
      since = ap (λ (x : Known). x.since) now;
      looked = ([], append-nil (known_of q).looks ∙ sym (ap (λ (x : Known). x.looks) now));
    });
    same_looks = ap (λ (x : Known). x.looks) now ∙ so_far.same_looks;
    same_full = ap (λ (x : Known). x.full) now ∙ so_far.same_full;
    same_retired = ap (λ (x : Known). x.core.retired) now ∙ so_far.same_retired;
  }

-- one fresh row less
pub fewer_fresh : (k l : Known) (row i : ℕ) → get_elem? k.core.fresh i ≡ some row → l ≡ giving_back row k → length l.core.fresh < length k.core.fresh
fewer_fresh k l row i there now =
    let less = length_without row k.core.fresh in
    let here = in_listed k.core.fresh i row there in
    let is : length l.core.fresh ≡ length (without (row ∷ []) k.core.fresh) = ap (λ (x : Known). length x.core.fresh) now in
    omega (arith, less, here, is)
