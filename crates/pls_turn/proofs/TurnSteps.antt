-- Each step of a pass keeps the rule.
use Rattle.std.proofs.Common.{◌≡◌, ◌≢◌, ℕ, ◌+◌, ◌*◌, ◌^◌, ◌<◌, ◌≤◌, ⊎_elim, Bool, true, false, Some, List, [], ◌∷◌, length, set, refl, ap, ap₂, sym, subst, ◌∙◌, arith}
use Rattle.std.proofs.lemmas.Bool.{eq-eqb}
use Rattle.atomic_table.specs.Table.{State}
use Rattle.atomic_table.proofs.Lists.{at_set}
use Rattle.pls_archive.specs.declared.call.Entry.{Entry}
use Rattle.pls_archive.specs.Lists.{Every, total, one_if}
use Rattle.pls_archive.specs.View.{View, lists_of, IsObserved, IsConsistent}
use Rattle.pls_archive.specs.declared.rule.Rule as rule
use Rattle.pls_archive.specs.declared.single.Single as single
use Rattle.pls_archive.proofs.Keeping.{AgreesWith, HoldsNoneOf, AgreesWith-further, AgreesWith-consistent}
use Rattle.pls_turn.specs.declared.seen.Turn.{Turn}
use Rattle.pls_turn.specs.declared.terms.Terms.{Terms}
use Rattle.pls_turn.specs.Turns.{is_live, taking, resting}
use Rattle.pls_turn.specs.TurnRule.{times_held, IsArchiveAt, HasSlot, IsSound, Kept, IsInTurn, MayGive}
use Rattle.pls_turn.proofs.Totals.{total_set, total_same, total_here, total_two}
use Rattle.pls_turn.proofs.Lists.{whole_prefix, times_in, none_of, live_of, held_is}
use mathlib.Core.Option.{none, some}
use lib.ListN.{get_elem?}

module _ {S L : Type 0} (R : rule.Ghosts L) (One : single.Ghosts S L) where
  module _ (key : Terms S) (s : State S (Turn S)) (log : List Entry) (out : Bool) (kept : Kept R One key s log out)
      (i : ℕ) (t : Turn S) (at : get_elem? s.views i ≡ some t) (mine : t.terms ≡ Some key) where
    sound : IsSound R One key log t
    sound = kept.each i t at

    live : is_live t ≡ true
    live = live_of t key mine

    pub agrees_here : AgreesWith (R.reply (One.number key.single.value)) log t.view
    agrees_here = sound.agrees live

    pub consistent_here : IsConsistent (R.reply (One.number key.single.value)) key.passes t.view
    consistent_here = AgreesWith-consistent (R.reply (One.number key.single.value)) log t.view agrees_here key.passes kept.observed

    -- its own list is held, so its caller's is no other list
    own_list : times_held t.view.number t ≡ 1 + times_in t.view.number t.view.others
    own_list = held_is t live t.view.number ∙ ap (λ n. n + times_in t.view.number t.view.others) (ap one_if (eq-eqb t.view.number t.view.number refl))

    pub apart_here : HoldsNoneOf t.view.number t.view.others
    apart_here =
        none_of t.view.number t.view.others
        (let most = kept.once t.view.number in let here = total_here (times_held t.view.number) s.views i t at in let own = own_list in omega arith)

    apart_there : (j : ℕ) (w : Turn S) → j ≢ i → get_elem? s.views j ≡ some w → is_live w ≡ true → HoldsNoneOf t.view.number (lists_of w.view)
    apart_there j w apart there live_there =
        none_of t.view.number (lists_of w.view)
        (let most = kept.once t.view.number in
        let two = total_two (times_held t.view.number) s.views i j t w at there apart in
        let own = own_list in
        let theirs = held_is w live_there t.view.number in omega arith)

    -- the pass steps, and holds the same lists of callers
    moves : (words : List ℕ) (homes : List _) (later : List Entry) (away : Bool) (u : Turn S)
        → words ≡ (2 * length later + one_if away) ∷ [] → length later < 2 ^ 40
        → IsObserved (R.reply (One.number key.single.value)) key.passes later → HasSlot R One key later away homes
        → total (λ (w : Turn S). one_if w.holds) (set s.views i u) ≡ one_if away
        → ((c : ℕ) → times_held c u ≡ times_held c t)
        → IsSound R One key later u
        → ((j : ℕ) (w : Turn S) → j ≢ i → get_elem? s.views j ≡ some w → IsSound R One key later w)
        → Kept R One key (record { words = words; homes = homes; views = set s.views i u }) later away
    moves words homes later away u word few observed slot holders same here others = record {
      word = word;
      few = few;
      observed = observed;
      slot = slot;
      holders = holders;
      once = λ c. let total_is = total_same (times_held c) s.views i t u at (same c) in let most = kept.once c in omega arith;
      each = λ j w there.
          ⊎_elim (λ me. subst (IsSound R One key later) me.1 here) (λ other. others j w other.0 other.1) (at_set s.views i j u w there);
    }

    -- nobody holds the turn: the pass takes it, with the archive
    module _ (free : out ≡ false) where
      pub home : HasSlot R One key log false s.homes
      home = subst (λ b. HasSlot R One key log b s.homes) free kept.slot

      pub slot_there : get_elem? s.homes 0 ≡ some (some home.0)
      slot_there = ap (λ hs. get_elem? hs 0) home.1

      pub word_there : s.words ≡ (2 * length log) ∷ []
      word_there = kept.word ∙ ap (λ n. n ∷ []) (let none_out = ap one_if free in let same : 2 * length log + one_if out ≡ 2 * length log = omega arith in same)

      agrees_taken : AgreesWith (R.reply (One.number key.single.value)) log (taking log t).view
      agrees_taken = AgreesWith-further (R.reply (One.number key.single.value)) log t.view agrees_here log agrees_here.observed (whole_prefix log)

      pub archive_is : IsArchiveAt R One key log home.0
      archive_is = home.2

      pub in_turn : IsInTurn R One key (taking log t)
      in_turn = record {
        terms_are = mine;
        holds = refl;
        observed = kept.observed;
        agrees = agrees_taken;
        begun = (sound.begun live).0;
        apart = apart_here;
        few = kept.few;
      }

      pub takes : (n : ℕ) → n ≡ 2 * length log + 1
          → Kept R One key (record { words = set s.words 0 n; homes = set s.homes 0 none; views = set s.views i (taking log t) }) log true
      takes n is =
          moves (set s.words 0 n) (set s.homes 0 none) log true (taking log t)
          (ap (λ ws. set ws 0 n) kept.word ∙ ap (λ m. m ∷ []) is)
          kept.few kept.observed
          (ap (λ hs. set hs 0 none) home.1)
          (let now = total_set (λ (w : Turn S). one_if w.holds) s.views i t (taking log t) at in
          let here = total_here (λ (w : Turn S). one_if w.holds) s.views i t at in
          let were = kept.holders in
          let none_out = ap one_if free in omega arith)
          (λ c. refl)
          (record {
            terms_are = λ _. mine;
            agrees = λ _. agrees_taken;
            begun = λ _. sound.begun live;
            turn = λ _. (live, refl);
          })
          (λ j w apart there. kept.each j w there)

    -- a pass that holds the turn gives it back, with this view and this archive
    module _ (v : View) (a : S) (may : MayGive R One key t v a) where
      held_seen : t.view.observed ≡ log
      held_seen = (sound.turn may.holds).1

      out_is : one_if out ≡ 1
      out_is =
          let here = total_here (λ (w : Turn S). one_if w.holds) s.views i t at in
          let were = kept.holders in
          let mine_held = ap one_if may.holds in at_most out (omega arith)
        where
          at_most : (b : Bool) → 1 ≤ one_if b → one_if b ≡ 1
          at_most true low = refl
          at_most false low = absurd (omega arith)

      others_sound : (j : ℕ) (w : Turn S) → j ≢ i → get_elem? s.views j ≡ some w → IsSound R One key v.observed w
      others_sound j w apart there =
          let theirs = kept.each j w there in
          record {
            terms_are = theirs.terms_are;
            agrees = λ living.
                may.keeps w.view (subst (λ n. HoldsNoneOf n (lists_of w.view)) (sym may.number_is) (apart_there j w apart there living))
                (subst (λ l. AgreesWith (R.reply (One.number key.single.value)) l w.view) (sym held_seen) (theirs.agrees living));
            begun = theirs.begun;
            turn = λ held.
                absurd
                (let two = total_two (λ (u : Turn S). one_if u.holds) s.views i j t w at there apart in
                let were = kept.holders in
                let one = ap one_if may.holds in
                let other = ap one_if held in
                let most = out_is in omega arith);
          }

      pub gives : (n : ℕ) → n ≡ 2 * length v.observed
          → Kept R One key (record { words = set s.words 0 n; homes = set s.homes 0 (some a); views = set s.views i (resting v t) }) v.observed false
      gives n is =
          moves (set s.words 0 n) (set s.homes 0 (some a)) v.observed false (resting v t)
          (ap (λ ws. set ws 0 n) kept.word ∙ ap (λ m. m ∷ []) (is ∙ (let same : 2 * length v.observed ≡ 2 * length v.observed + one_if false = omega arith in same)))
          may.few may.observed
          (a, slot_back out kept.slot, may.archive)
          (let now = total_set (λ (w : Turn S). one_if w.holds) s.views i t (resting v t) at in
          let were = kept.holders in
          let one = ap one_if may.holds in
          let most = out_is in omega arith)
          (λ c. ap₂ (λ k others. times_held c (record t { view = record t.view { number = k; others = others } })) may.number_is may.others_are)
          (record {
            terms_are = λ _. mine;
            agrees = λ _. may.agrees;
            begun = λ _. (subst (λ k. k < key.passes) (sym may.number_is) (sound.begun live).0, subst (Every (λ (list : ℕ × List Entry). list.0 < key.passes)) (sym may.others_are) (sound.begun live).1);
            turn = λ held. absurd (true_not held);
          })
          others_sound
        where
          slot_back : (b : Bool) → HasSlot R One key log b s.homes → set s.homes 0 (some a) ≡ some a ∷ []
          slot_back true slot = ap (λ hs. set hs 0 (some a)) slot
          slot_back false slot = ap (λ hs. set hs 0 (some a)) slot.1

          true_not : false ≡ true → ⊥
          true_not e = cc
