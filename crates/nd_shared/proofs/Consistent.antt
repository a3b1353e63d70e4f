-- What a pass at the shared tree knows, as the view of a pass at a shared archive: where one is consistent, the other is.
use Rattle.std.proofs.Common.{◌≡◌, ◌≢◌, ℕ, suc, ◌+◌, ◌<◌, ◌≤◌, ◌==◌, ⊎_elim, Bool, true, false, List, [], ◌∷◌, ◌++◌, length, map, take, refl, ap, sym, subst, ◌∙◌, arith, append-nil, append_assoc, length-append, eq-eqb, ne_eqb}
use Rattle.std.proofs.lemmas.Bool.{cond-true, cond-false, cases_Bool}
use Rattle.std.proofs.lemmas.List.{take-append-le}
use Rattle.std.proofs.Math.Seq.{take-append_seam}
use Rattle.era_core.specs.Lists.{times}
use Rattle.era_core.proofs.ListFacts.{times-head, at_within, at_longer, at_end}
use Rattle.era_core.specs.Versions.{Copy}
use Rattle.era_rows.specs.Lists.{add_entry, IsLog as Logged, IsListOf as Listed}
use Rattle.era_rows.specs.Plays.{IsConsistent as AllConsistent}
use Rattle.era_rows.specs.declared.views.Knows.{Knows}
use Rattle.era_rows.proofs.Logs.{added_callers}
use Rattle.nd_rows.specs.Entries.{IsRight}
use Rattle.nd_rows.specs.Layout.{IsLawful, StandsFor}
use Rattle.pls_archive.specs.declared.call.Call.{Call}
use Rattle.pls_archive.specs.declared.call.Reply.{Reply}
use Rattle.pls_archive.specs.declared.call.Entry.{Entry}
use Rattle.pls_archive.specs.Lists.{Every, IsPrefix, one_if}
use Rattle.pls_archive.specs.Rule.{is_accepting}
use Rattle.pls_archive.specs.Reply.{nondominated}
use Rattle.pls_archive.specs.History.{submissions, accepts}
use Rattle.pls_archive.specs.Serialization.{IsRising}
use Rattle.pls_archive.specs.View.{IsObserved, IsListOf, IsConsistent, ObservesWith, ObservesMore}
use Rattle.pls_archive.specs.SharedCalls.{Answers, IsRefused}
use Rattle.pls_archive.proofs.KeepingLists.{IsObserved-more}
use Rattle.pls_vectors.proofs.FromEnd.{from_end}
use Rattle.nd_shared.specs.Views.{own_of, others_of, view_with, AreListed}
use mathlib.Core.Option.{some}
use lib.ListN.{get_elem?}

-- ---- one more entry of the pass

-- where no list is the caller's, none has the entry
unadded : (c : ℕ) (e : Entry) (lists : List (ℕ × List Entry)) → times c (map (λ (list : ℕ × List Entry). list.0) lists) ≡ 0 → add_entry c e lists ≡ lists
unadded c e [] none = refl
unadded c e (x ∷ xs) none =
    let callers = map (λ (list : ℕ × List Entry). list.0) xs in
    let apart : x.0 ≢ c =
    (λ same. absurd (let one : times c (x.0 ∷ callers) ≡ 1 + times c callers = subst (λ n. times c (n ∷ callers) ≡ 1 + times c callers) (sym same) (times-head c callers) in omega arith)) in
    ap (λ list. list ∷ add_entry c e xs) (cond-false (x.0 == c) (x.0, x.1 ++ e ∷ []) x (ne_eqb x.0 c apart))
    ∙ ap (λ lists. x ∷ lists) (unadded c e xs (omega arith))

-- the pass's own list alone has it at its end
added_first : (number : ℕ) (e : Entry) (lists : List (ℕ × List Entry)) → AreListed number lists
    → add_entry number e lists ≡ (number, own_of lists ++ e ∷ []) ∷ others_of lists
added_first number e lists listed = ap (add_entry number e) listed.first
    ∙ ap (λ list. list ∷ add_entry number e (others_of lists)) (cond-true (number == number) (number, own_of lists ++ e ∷ []) (number, own_of lists) (eq-eqb number number refl))
    ∙ ap (λ lists_left. (number, own_of lists ++ e ∷ []) ∷ lists_left) (unadded number e (others_of lists) none)
  where
    none : times number (map (λ (list : ℕ × List Entry). list.0) (others_of lists)) ≡ 0
    none =
        let callers = map (λ (list : ℕ × List Entry). list.0) (others_of lists) in
        let same : times number (map (λ (list : ℕ × List Entry). list.0) lists) ≡ times number (number ∷ callers) =
        ap (λ ls. times number (map (λ (list : ℕ × List Entry). list.0) ls)) listed.first in
        let one = times-head number callers in
        let once = listed.once in omega arith

pub listed_added : (number : ℕ) (e : Entry) (lists : List (ℕ × List Entry)) → AreListed number lists
    → AreListed number (add_entry number e lists) × (own_of (add_entry number e lists) ≡ own_of lists ++ e ∷ []) × (others_of (add_entry number e lists) ≡ others_of lists)
listed_added number e lists listed =
    let is = added_first number e lists listed in (
      record {
        first = subst (λ ls. ls ≡ (number, own_of ls) ∷ others_of ls) (sym is) refl;
        once = subst (λ callers. times number callers ≤ 1) (sym (added_callers number e lists)) listed.once;
      },
      ap own_of is,
      ap others_of is,
    )

-- ---- the calls, by what the pass knew before it pinned a version, with that version pinned, and after the call

-- the entry of a call
abbrev pub entry_of : ℕ → ℕ → Call → Reply → Entry
entry_of caller stamp call answer = record { caller = caller; stamp = stamp; call = call; reply = answer }

module _ (started number : ℕ) (b m a : Knows Entry) (opened : ObservesMore (view_with number b) (view_with number m)) (sound : IsConsistent nondominated started (view_with number a)) where
  module _ (stamp : ℕ) (call : Call) (answer : Reply) (listed : AreListed number m.lists) (right : answer ≡ nondominated (submissions m.seen) call)
      (adds : a.lists ≡ add_entry number (entry_of number stamp call answer) m.lists) where
    answers : stamp ≡ length a.seen → ObservesWith nondominated (is_accepting call answer) b.seen (entry_of number stamp call answer) a.seen
        → Answers nondominated started (view_with number b) call answer stamp (view_with number a)
    answers stamped observes =
        let told = listed_added number (entry_of number stamp call answer) m.lists listed in
        record {
          extends = record {
            number = refl;
            names = refl;
            own = ap own_of adds ∙ told.1 ∙ ap (λ es. es ++ entry_of number stamp call answer ∷ []) opened.own;
            others = ap others_of adds ∙ told.2 ∙ opened.others;
            stamped = stamped;
            observes = observes;
          };
          consistent = sound;
        }

    -- a call that brought nothing in
    pub answers_told : length m.seen ≡ stamp → is_accepting call answer ≡ false → a.seen ≡ m.seen
        → Answers nondominated started (view_with number b) call answer stamp (view_with number a)
    answers_told long refused same =
        answers (sym long ∙ ap (λ (es : List Entry). length es) (sym same))
        (subst (λ t. ObservesWith nondominated t b.seen (entry_of number stamp call answer) a.seen) (sym refused)
        (subst (λ es. IsPrefix b.seen es × (answer ≡ nondominated (submissions es) call)) (sym same) (opened.observed, right)))

    -- a call that brought something in
    pub answers_added : stamp ≡ length m.seen + 1 → is_accepting call answer ≡ true → a.seen ≡ m.seen ++ entry_of number stamp call answer ∷ []
        → Answers nondominated started (view_with number b) call answer stamp (view_with number a)
    answers_added long accepted grown =
        answers (let whole = ap (λ (es : List Entry). length es) grown in let parts = length-append m.seen (entry_of number stamp call answer ∷ []) in omega arith)
        (subst (λ t. ObservesWith nondominated t b.seen (entry_of number stamp call answer) a.seen) (sym accepted) (m.seen, opened.observed, grown, right))

  -- a call that was refused, where the pass has seen no less than with the version pinned
  pub refused : IsPrefix m.seen a.seen → a.lists ≡ m.lists → IsRefused nondominated started (view_with number b) (view_with number a)
  refused begins same_lists = record {
    observes_more = record {
      number = refl;
      observed = (opened.observed.0 ++ begins.0, sym (append_assoc b.seen opened.observed.0 begins.0) ∙ ap (λ es. es ++ begins.0) opened.observed.1 ∙ begins.1);
      own = ap own_of same_lists ∙ opened.own;
      others = ap others_of same_lists ∙ opened.others;
    };
    consistent = sound;
  }

  -- where it has seen the same
  pub refused_same : a.seen ≡ m.seen → a.lists ≡ m.lists → IsRefused nondominated started (view_with number b) (view_with number a)
  refused_same same same_lists = refused ([], append-nil m.seen ∙ sym same) same_lists

-- ---- what the pass knows is consistent, so its view is

-- what holds at each place holds of each element
every_at : {A : Type 0} (P : A → Type 0) (xs : List A) → ((n : ℕ) (x : A) → get_elem? xs n ≡ some x → P x) → Every P xs
every_at P [] each = tt
every_at P (x ∷ xs) each = (each 0 x refl, every_at P xs (λ n y there. each (suc n) y there))

rising_at : (es : List Entry)
    → ((m n : ℕ) (d e : Entry) → m < n → get_elem? es m ≡ some d → get_elem? es n ≡ some e → d.stamp + one_if (accepts e) ≤ e.stamp) → IsRising es
rising_at [] each = tt
rising_at (x ∷ es) each = (
  every_at (λ e. x.stamp + one_if (accepts e) ≤ e.stamp) es (λ n e there. each 0 (suc n) x e (omega arith) refl there),
  rising_at es (λ m n d e below at_m at_n. each (suc m) (suc n) d e (omega (arith, below)) at_m at_n),
)

abbrev caller_of : Entry → ℕ
caller_of e = e.caller

abbrev stamp_of : Entry → ℕ
stamp_of e = e.stamp

abbrev accepted : ℕ → Entry → Bool
accepted _ e = accepts e

abbrev right : ℕ → Entry → List Entry → Type 0
right objectives e entries = IsRight objectives e entries

module _ (shape : ℕ) where
  -- the entries that were accepted are a legal history
  observed : (started : ℕ) (log : List Entry) → Logged caller_of stamp_of accepted right shape started log → IsObserved nondominated started log
  observed started log = from_end (λ (es : List Entry). Logged caller_of stamp_of accepted right shape started es → IsObserved nondominated started es)
      one_more
      (λ _. record { legal = tt; accepted = tt; begun = tt }) log
    where
      one_more : (es : List Entry) (e : Entry) → (Logged caller_of stamp_of accepted right shape started es → IsObserved nondominated started es)
          → Logged caller_of stamp_of accepted right shape started (es ++ e ∷ []) → IsObserved nondominated started (es ++ e ∷ [])
      one_more es e before logged =
          let last = at_end es e in
          IsObserved-more nondominated started es e
          (before (record {
            accepts = λ n d there. logged.accepts n d (at_longer es (e ∷ []) n d there);
            judged = λ n d there.
                subst (right shape d) (take-append-le n es (e ∷ []) (let within = at_within es n d there in omega arith)) (logged.judged n d (at_longer es (e ∷ []) n d there));
            stamped = λ n d there. logged.stamped n d (at_longer es (e ∷ []) n d there);
            begun = λ n d there. logged.begun n d (at_longer es (e ∷ []) n d there);
          }))
          (logged.accepts (length es) e last) (logged.begun (length es) e last) (logged.stamped (length es) e last)
          ((logged.judged (length es) e last).due ∙ ap (λ ds. nondominated (submissions ds) e.call) (take-append_seam es (e ∷ [])))

  -- a list that is its caller's in the one sense is so in the other
  listed_as : (seen : List Entry) (c : ℕ) (es : List Entry) → Listed caller_of stamp_of accepted right shape seen (length seen) c es → IsListOf nondominated seen c es
  listed_as seen c es list = record {
    named = every_at (λ (e : Entry). e.caller ≡ c) es list.named;
    told = list.told;
    known = every_at (λ (e : Entry). e.stamp ≤ length seen) es list.known;
    judged =
        every_at (λ (e : Entry). accepts e ≡ false → e.reply ≡ nondominated (submissions (take e.stamp seen)) e.call) es
        (λ n e there other. (list.judged n e there other).due);
    rising = rising_at es (λ m n d e below at_m at_n.
        ⊎_elim
        (λ taken. (let one = ap one_if taken in let high = list.rising m n d e below at_m at_n taken in omega arith))
        (λ other. (let none = ap one_if other in let high = list.ordered m n d e below at_m at_n in omega arith))
        (cases_Bool (accepts e)));
  }

pub consistent_view : (started number : ℕ) (k : Knows Entry) → k.view.passes ≡ started → AreListed number k.lists
    → AllConsistent (λ (e : Entry). e.caller) (λ e. e.stamp) (λ _ e. accepts e) (λ (objectives : ℕ) (c : Copy). IsLawful objectives c)
    (λ objectives c entries. StandsFor objectives c entries) (λ objectives e entries. IsRight objectives e entries) k
    → IsConsistent nondominated started (view_with number k)
consistent_view started number k passes listed all = record {
  observed = observed k.view.shape started k.seen (subst (λ n. Logged caller_of stamp_of accepted right k.view.shape n k.seen) passes all.logged);
  lists =
      subst (Every (λ (list : ℕ × List Entry). IsListOf nondominated k.seen list.0 list.1)) listed.first
      (every_at (λ (list : ℕ × List Entry). IsListOf nondominated k.seen list.0 list.1) k.lists
      (λ i list there. listed_as k.view.shape k.seen list.0 list.1 (all.held i list.0 list.1 there)));
}
