-- Fresh rows that marked rows pay for, each of which was read.
use Rattle.std.proofs.Common.{◌≡◌, ℕ, ◌+◌, ◌<◌, ◌≤◌, ⊎_elim, Bool, true, false, List, [], ◌∷◌, ◌++◌, drop, length, refl, sym, ap, subst, ◌∙◌, arith, append-nil, length-append}
use Rattle.std.specs.Prelude.{◌||◌}
use Rattle.std.specs.List.{list_any}
use Rattle.std.proofs.lemmas.Bool.{cases_eq}
use Rattle.std.proofs.lemmas.List.{drop-append-le}
use Rattle.std.proofs.lemmas.List.Folds.{list_any-append}
use Rattle.era_core.specs.declared.sizes.TheConstants.{WIDTH}
use Rattle.era_core.specs.Lists.{times}
use Rattle.era_core.specs.Words.{cell_at}
use Rattle.era_core.proofs.ListFacts.{times-append, times-head, times-tail, in_cases}
use Rattle.era_rows.specs.Known.{Known, Look, reading_word}
use Rattle.era_rows.specs.Passes.{known_of, marked_of}
use Rattle.era_rows.specs.FreshRows.{is_read}
use Rattle.era_rows.specs.declared.pass.Pass.{Pass}
use Rattle.era_rows.specs.declared.rows.Rows.{Rows}
use Rattle.era_rows.specs.declared.law.Law.{Ghosts}
use Rattle.era_rows.proofs.CountingLooks.{read-own}
use Rattle.pls_archive.specs.declared.call.Entry.{Entry}
use Rattle.nd_update.specs.Building.{Builds, IsBuilding, Does}
use Rattle.nd_update.specs.Counted.{looks_since, WasRead, IsPaid}

-- looks that come after a pin that stays
pub since_more : (k l : Known) (more : List Look) → k.since ≤ length k.looks → l.since ≡ k.since → l.looks ≡ k.looks ++ more → looks_since l ≡ looks_since k ++ more
since_more k l more begun since looks = ap (λ n. drop n l.looks) since ∙ ap (drop k.since) looks ∙ drop-append-le k.since k.looks more begun

or_true : (b : Bool) → (b || true) ≡ true
or_true true = refl
or_true false = refl

-- what was read stays so
any_still : (f : Look → Bool) (looks more : List Look) → list_any f looks ≡ true → list_any f (looks ++ more) ≡ true
any_still f looks more here = list_any-append f looks more ∙ ap (λ b. b || list_any f more) here

read_still : (k l : Known) (x : ℕ) → k.since ≤ length k.looks → Builds k l → WasRead x k → WasRead x l
read_still k l x begun builds here =
    let more = builds.looked.0 in
    ap (λ n. list_any (is_read n l.rows x) (looks_since l)) builds.passes
    ∙ ap (λ n. list_any (is_read k.passes n x) (looks_since l)) builds.rows
    ∙ ap (list_any (is_read k.passes k.rows x)) (since_more k l more begun builds.since (sym builds.looked.1))
    ∙ any_still (is_read k.passes k.rows x) (looks_since k) more here

pub paid_more : (m n : ℕ) (k : Known) (marked : List ℕ) → m ≤ n → IsPaid m k marked → IsPaid n k marked
paid_more m n k marked low paid = record { rows = paid.rows; among = paid.among; read = paid.read; few = (let few = paid.few in omega arith) }

module _ {L : Type 0} {G : Ghosts L Entry} where
  pub paid_none : (n : ℕ) (p : Pass L Entry G) → (known_of p).core.fresh ≡ [] → IsPaid n (known_of p) (marked_of p)
  paid_none n p none = record {
    rows = [];
    among = λ x. omega arith;
    read = λ x here. absurd (omega arith);
    few = (let none_of = ap length none in omega arith);
  }

module _ {L : Type 0} {G : Ghosts L Entry} (r : Rows L Entry) where
  -- the row of a word that was read just now
  pub was_read : (p q : Pass L Entry G) (row place w : ℕ) → IsBuilding r p → place < WIDTH → known_of q ≡ reading_word (cell_at r.passes r.rows row place) w (known_of p) → WasRead row (known_of q)
  was_read p q row place w building near now =
      let k = known_of p in
      let l = known_of q in
      let more = (cell_at r.passes r.rows row place, w) ∷ [] in
      let sized = building.is_pass.sized in
      let passes : l.passes ≡ r.passes = ap (λ (x : Known). x.passes) now ∙ sized.passes_are in
      let rows : l.rows ≡ r.rows = ap (λ (x : Known). x.rows) now ∙ sized.rows_are in
      let found : list_any (is_read r.passes r.rows row) more ≡ true = ap (λ b. b || false) (read-own r.passes r.rows row place w near) in
      ap (λ n. list_any (is_read n l.rows row) (looks_since l)) passes
      ∙ ap (λ n. list_any (is_read r.passes n row) (looks_since l)) rows
      ∙ ap (list_any (is_read r.passes r.rows row)) (since_more k l more building.counted.begun (ap (λ (x : Known). x.since) now) (ap (λ (x : Known). x.looks) now))
      ∙ list_any-append (is_read r.passes r.rows row) (looks_since k) more
      ∙ ap (λ b. list_any (is_read r.passes r.rows row) (looks_since k) || b) found
      ∙ or_true (list_any (is_read r.passes r.rows row) (looks_since k))

  pub still_read : (t m c : List ℕ) (p q : Pass L Entry G) → IsBuilding r p → Does r t m c p q → (x : ℕ) → WasRead x (known_of p) → WasRead x (known_of q)
  still_read t m c p q building does x here = read_still (known_of p) (known_of q) x building.counted.begun does.builds here

  -- rows that were paid for are so still
  still_among : (t m c : List ℕ) (p q : Pass L Entry G) → Does r t m c p q → (rows : List ℕ) → ((x : ℕ) → times x rows ≤ times x (marked_of p)) → (x : ℕ) → times x rows ≤ times x (marked_of q)
  still_among t m c p q does rows among x =
      let marks = ap (times x) does.marks in
      let both = times-append x (marked_of p) m in
      let few = among x in omega arith

  pub paid_still : (n : ℕ) (m c : List ℕ) (p q : Pass L Entry G) → IsBuilding r p → Does r [] m c p q → IsPaid n (known_of p) (marked_of p) → IsPaid n (known_of q) (marked_of q)
  paid_still n m c p q building does paid = record {
    rows = paid.rows;
    among = still_among [] m c p q does paid.rows paid.among;
    read = λ x here. still_read [] m c p q building does x (paid.read x here);
    few = (let same = ap length (does.fresh ∙ append-nil (known_of p).core.fresh) in let few = paid.few in omega arith);
  }

  pub paid_took : (n : ℕ) (row : ℕ) (m c : List ℕ) (p q : Pass L Entry G) → IsBuilding r p → Does r (row ∷ []) m c p q → IsPaid n (known_of p) (marked_of p) → IsPaid (n + 1) (known_of q) (marked_of q)
  paid_took n row m c p q building does paid = record {
    rows = paid.rows;
    among = still_among (row ∷ []) m c p q does paid.rows paid.among;
    read = λ x here. still_read (row ∷ []) m c p q building does x (paid.read x here);
    few = (let more = ap length does.fresh ∙ length-append (known_of p).core.fresh (row ∷ []) in let few = paid.few in omega arith);
  }

  -- the mark of a row that was read pays for one row
  pub paid_marked : (n : ℕ) (t : List ℕ) (x : ℕ) (m c : List ℕ) (p q : Pass L Entry G) → IsBuilding r p → Does r t (x ∷ m) c p q → times x (marked_of p) ≡ 0 → WasRead x (known_of q) → length t ≤ 1
      → IsPaid n (known_of p) (marked_of p) → IsPaid n (known_of q) (marked_of q)
  paid_marked n t x m c p q building does unmarked read one paid = record {
    rows = x ∷ paid.rows;
    among = λ y.
        let marks = ap (times y) does.marks in
        let both = times-append y (marked_of p) (x ∷ m) in
        let few = paid.among y in
        ⊎_elim
        (λ e.
        let none : times y (marked_of p) ≡ 0 = ap (λ z. times z (marked_of p)) e ∙ unmarked in
        let head : times y (x ∷ paid.rows) ≡ 1 + times y paid.rows = ap (λ z. times y (z ∷ paid.rows)) (sym e) ∙ times-head y paid.rows in
        let here : times y (x ∷ m) ≡ 1 + times y m = ap (λ z. times y (z ∷ m)) (sym e) ∙ times-head y m in
        omega arith)
        (λ apart.
        let stays = times-tail y x paid.rows apart in omega arith)
        (cases_eq y x);
    read = λ y here. ⊎_elim (λ e. subst (λ z. WasRead z (known_of q)) (sym e) read) (λ was. still_read t (x ∷ m) c p q building does y (paid.read y was)) (in_cases y x paid.rows here);
    few = (let more = ap length does.fresh ∙ length-append (known_of p).core.fresh t in let few = paid.few in omega arith);
  }
