-- A pass that builds has the entries and the version that it had.
use Rattle.std.proofs.Common.{◌≡◌, ℕ, List, length, sym, ap, subst, ◌∙◌, arith}
use Rattle.era_core.specs.Versions.{Copy}
use Rattle.era_rows.specs.Known.{Known, pinned_copy}
use Rattle.era_rows.specs.Passes.{known_of, marked_of, IsPassOf}
use Rattle.era_rows.specs.declared.pass.Pass.{Pass}
use Rattle.era_rows.specs.declared.rows.Rows.{Rows}
use Rattle.era_rows.specs.declared.law.Law.{Ghosts}
use Rattle.pls_archive.specs.declared.call.Entry.{Entry}
use Rattle.nd_rows.specs.Reads.{ReadsIn, HasKept}
use Rattle.nd_update.specs.Building.{Builds, Does, Goes}
use Rattle.nd_update.specs.Counted.{IsCounted, IsWithin, IsCrowded, IsShort}
use Rattle.nd_update.proofs.Building.{builds_both, same_copy}
use Rattle.nd_update.proofs.Counting.{counted_reads, short_same}

-- where a pass that was alone has all rows, they are few still
pub still_crowded : (k l : Known) → Builds k l → IsCrowded k → IsCrowded l
still_crowded k l builds crowded alone =
    let few = crowded (sym builds.passes ∙ alone.0, (alone.1.0, alone.1.1, sym builds.pinned ∙ alone.1.2, ap length (sym builds.copies) ∙ alone.1.3)) in
    let tree : length (pinned_copy l).rows ≡ length (pinned_copy k).rows = ap (λ (c : Copy). length c.rows) (same_copy k l builds) in
    omega (arith, few, builds.rows, builds.shape, tree)

-- a pass that has found nothing more
module _ (k l : Known) (builds : Builds k l) (looks : l.looks ≡ k.looks) where
  pub still_within : IsWithin k → IsWithin l
  still_within within = rw (same_copy k l builds, builds.shape, builds.rows, builds.passes, builds.since, looks) within

  pub still_short : l.full ≡ k.full → l.core.retired ≡ k.core.retired → IsShort k → IsShort l
  still_short full retired short = short_same k l full builds.shape builds.passes builds.rows builds.number looks builds.since retired short

module _ {L : Type 0} {G : Ghosts L Entry} (r : Rows L Entry) where
  pub goes_does : (t m c : List ℕ) (p q : Pass L Entry G) → Does r t m c p q → Goes r p q
  goes_does t m c p q one = record {
    is_pass = one.building.is_pass;
    same_number = one.same_number;
    same_seen = one.same_seen;
    same_lists = one.same_lists;
    builds = one.builds;
  }

  -- a look at rows of the pinned version
  pub goes_reads : (rows : List ℕ) (p q : Pass L Entry G) → IsPassOf r q → HasKept p q → ReadsIn rows (known_of p) (known_of q) → Goes r p q
  goes_reads rows p q is_pass kept reads =
      let now = reads.now in record {
        is_pass = is_pass;
        same_number = kept.same_number;
        same_seen = kept.same_seen;
        same_lists = kept.same_lists;
        builds = record {
          number = ap (λ (k : Known). k.core.number) now;
          pinned = ap (λ (k : Known). k.core.pinned) now;
          copies = ap (λ (k : Known). k.copies) now;
          shape = ap (λ (k : Known). k.shape) now;
          rows = ap (λ (k : Known). k.rows) now;
          passes = ap (λ (k : Known). k.passes) now;
          since = ap (λ (k : Known). k.since) now;
          looked = (reads.more, sym (ap (λ (k : Known). k.looks) now));
        };
      }

  -- few rows were taken before and so after it
  pub reads_counted : (rows : List ℕ) (p q : Pass L Entry G) → HasKept p q → ReadsIn rows (known_of p) (known_of q) → IsCounted (known_of p) (marked_of p) → IsCounted (known_of q) (marked_of q)
  reads_counted rows p q kept reads counted = subst (IsCounted (known_of q)) (sym kept.same_marks) (counted_reads (known_of p) (marked_of p) counted rows (known_of q) p.tied.tree.inside reads)

  pub goes_both : (p q s : Pass L Entry G) → Goes r p q → Goes r q s → Goes r p s
  goes_both p q s one two = record {
    is_pass = two.is_pass;
    same_number = two.same_number ∙ one.same_number;
    same_seen = two.same_seen ∙ one.same_seen;
    same_lists = two.same_lists ∙ one.same_lists;
    builds = builds_both (known_of p) (known_of q) (known_of s) one.builds two.builds;
  }
