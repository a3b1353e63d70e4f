-- What a step on the word may do, whatever the table is then.
use Rattle.std.proofs.Common.{◌≡◌, ℕ, ◌+◌, ◌*◌, ◌%◌, Bool, true, false, Some, unwrap_or, eqb, List, [], ◌∷◌, length, set, slice_index, refl, ap, sym, subst, ◌∙◌, arith}
use Rattle.std.proofs.lemmas.List.{set-get_or}
use Rattle.atomic_table.specs.Table.{State, Me, Act, keeps, takes, gives, Valid, stepped, carried_after, Allows, rest, put_back}
use Rattle.atomic_table.proofs.Lists.{exchanged, set_again}
use Rattle.pls_archive.specs.declared.call.Entry.{Entry}
use Rattle.pls_archive.specs.Lists.{one_if}
use Rattle.pls_archive.specs.View.{View, IsConsistent}
use Rattle.pls_archive.specs.declared.rule.Rule as rule
use Rattle.pls_archive.specs.declared.single.Single as single
use Rattle.pls_turn.specs.declared.seen.Turn.{Turn}
use Rattle.pls_turn.specs.declared.terms.Terms.{Terms}
use Rattle.pls_turn.specs.Turns.{taking, resting}
use Rattle.pls_turn.specs.TurnRule.{Kept, Holds, Took, Takes, MayGive, Looks}
use Rattle.pls_turn.proofs.TurnSteps as steps
use prog.Atomic.{either}
use mathlib.Core.Option.{some}
use lib.ListN.{get_elem?}

-- the archive of a pass is one
same_terms : {S : Type 0} (key other : Terms S) (t : Turn S) → t.terms ≡ Some key → t.terms ≡ Some other → key ≡ other
same_terms key other t mine theirs = ap (λ o. unwrap_or o key) (sym mine ∙ theirs)

-- a word is even where no turn is held
free_where_even : (b : Bool) (n count : ℕ) → n ≡ 2 * count + one_if b → n % 2 ≡ 0 → b ≡ false
free_where_even true n count is even = absurd (omega arith)
free_where_even false n count is even = refl

module _ {S L : Type 0} (R : rule.Ghosts L) (One : single.Ghosts S L)
    (key : Terms S) where
  -- a step that changes nothing
  quiet : (s : State S (Turn S)) → Holds R One key s → (i : ℕ) (me : Me S (Turn S)) → get_elem? s.views i ≡ some me.0
      → Holds R One key (stepped s 0 (slice_index s.words 0) i me.1 me.0 keeps)
  quiet s kept i me at =
      subst (λ (vs : List (Turn S)). Holds R One key (record { words = set s.words 0 (slice_index s.words 0); homes = s.homes; views = vs }))
      (sym (set_again s.views i me.0 at))
      (subst (λ (ws : List ℕ). Holds R One key (record { words = ws; homes = s.homes; views = s.views })) (sym (set-get_or s.words 0 0)) kept)

  pub looks_at : (slots i : ℕ) (me : Me S (Turn S)) → me.0.terms ≡ Some key
      → Allows (Holds R One key) slots i me 0 (λ n. n) (λ found n. Looks R One me n)
  looks_at slots i me mine s kept homes at bound = (
    me.0,
    keeps,
    tt,
    quiet s kept i me at,
    (
      refl,
      λ other theirs.
          subst (λ (k : Terms S). IsConsistent (R.reply (One.number k.single.value)) k.passes me.0.view) (same_terms key other me.0 mine theirs)
          (steps.consistent_here R One key s kept.0 kept.1 kept.2 i me.0 at mine),
    ),
  )

  pub takes_at : (slots i : ℕ) (me : Me S (Turn S)) (guess new : ℕ) → me.0.terms ≡ Some key → guess % 2 ≡ 0 → new ≡ guess + 1
      → Allows (Holds R One key) slots i me 0 (λ n. either (eqb n guess) new n)
      (Takes R One guess me)
  takes_at slots i me guess new mine even next s kept homes at bound =
      exchanged found guess new
      (λ later. (w : Turn S) × (a : Act S) × Valid s.homes me.1 a × Holds R One key (stepped s 0 later i me.1 w a)
      × Takes R One guess me found (w, carried_after me.1 a))
      (λ same. (
        taking log me.0,
        takes 0 ((steps.home R One key s log out kept.2 i me.0 at mine (free same)).0),
        steps.slot_there R One key s log out kept.2 i me.0 at mine (free same),
        (log, true, steps.takes R One key s log out kept.2 i me.0 at mine (free same) new (let n = count same in omega arith)),
        λ other theirs. (
          (λ apart. absurd (apart same)),
          λ _. subst (λ k. Took R One k me found (taking log me.0, (0, (steps.home R One key s log out kept.2 i me.0 at mine (free same)).0) ∷ me.1)) (same_terms key other me.0 mine theirs)
              (record {
                archive = (steps.home R One key s log out kept.2 i me.0 at mine (free same)).0;
                log = log;
                turn_is = refl;
                turn = steps.in_turn R One key s log out kept.2 i me.0 at mine (free same);
                members = steps.archive_is R One key s log out kept.2 i me.0 at mine (free same);
                further = (steps.agrees_here R One key s log out kept.2 i me.0 at mine).observed;
                count = count same;
              }),
        ),
      ))
      (λ apart. (me.0, keeps, tt, quiet s kept i me at, λ other theirs. ((λ _. refl), λ same. absurd (apart same))))
    where
      found : ℕ
      found = slice_index s.words 0

      log : List Entry
      log = kept.0

      out : Bool
      out = kept.1

      word_is : found ≡ 2 * length log + one_if out
      word_is = ap (λ ws. slice_index ws 0) kept.2.word

      free : found ≡ guess → out ≡ false
      free same = free_where_even out found (length log) word_is (ap (λ n. n % 2) same ∙ even)

      count : found ≡ guess → found ≡ 2 * length log
      count same = let none = ap one_if (free same) in let is = word_is in omega arith

  pub gives_at : (slots i : ℕ) (me : Me S (Turn S)) (v : View) (a : S) (new : ℕ) → me.0.terms ≡ Some key → me.1 ≡ (0, a) ∷ []
      → MayGive R One key me.0 v a → new ≡ 2 * length v.observed
      → Allows (Holds R One key) slots i me 0 (λ _. new) (λ _ n. n ≡ (resting v me.0, rest me.1))
  gives_at slots i me v a new mine held may is s kept homes at bound = (
    resting v me.0,
    gives,
    tt,
    (
      v.observed,
      false,
      subst (λ hs. Kept R One key (record { words = set s.words 0 new; homes = hs; views = set s.views i (resting v me.0) }) v.observed false)
          (sym (ap (put_back s.homes) held))
          (steps.gives R One key s kept.0 kept.1 kept.2 i me.0 at mine v a may new is),
    ),
    refl,
  )
