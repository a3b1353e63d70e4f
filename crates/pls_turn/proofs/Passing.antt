-- A pass gives a list to a new one, and takes over the lists of another; what a look tells.
use Rattle.std.proofs.Common.{◌≡◌, ◌≢◌, ℕ, ◌+◌, ◌<◌, ◌==◌, ⊎_elim, Bool, true, false, Some, List, [], ◌∷◌, ◌++◌, drop, length, set, refl, ap, sym, subst, ◌∙◌, arith}
use Rattle.atomic_table.specs.Table.{State}
use Rattle.atomic_table.proofs.Lists.{at_set, at_snoc}
use Rattle.pls_archive.specs.declared.call.Entry.{Entry}
use Rattle.pls_archive.specs.Lists.{Every, IsPrefix, one_if}
use Rattle.pls_archive.proofs.KeepingLists.{IsListWithin}
use Rattle.pls_archive.specs.View.{lists_of}
use Rattle.pls_archive.specs.declared.rule.Rule as rule
use Rattle.pls_archive.specs.declared.single.Single as single
use Rattle.pls_archive.proofs.Every.{Every-append, total-append}
use Rattle.pls_archive.proofs.Keeping.{AgreesWith-joins}
use Rattle.pls_turn.specs.declared.seen.Turn.{Turn}
use Rattle.pls_turn.specs.declared.terms.Terms.{Terms}
use Rattle.pls_turn.specs.Turns.{is_live, view_with, giving, given, joining, joined_view, spent}
use Rattle.pls_turn.specs.TurnRule.{times_held, IsSound, Kept}
use Rattle.pls_turn.proofs.Totals.{total_split, total_joined}
use Rattle.pls_turn.proofs.Lists.{times_in, live_of, held_is}
use mathlib.Core.Option.{some}
use lib.ListN.{get_elem?}

false_true : false ≡ true → ⊥
false_true e = cc

Every-rest : {A : Type 0} (P : A → Type 0) (xs : List A) → Every P xs → Every P (drop 1 xs)
Every-rest P [] each = tt
Every-rest P (x ∷ xs) each = each.1

-- the first list and the others
parts : (c : ℕ) (seen : List Entry) (lists : List (ℕ × List Entry)) → 0 < length lists
    → times_in c (drop 1 lists) + times_in c (lists_of (view_with seen lists)) ≡ times_in c lists
parts c seen [] some_list = absurd (omega arith)
parts c seen (list ∷ lists) some_list = omega arith

with_first : (P : ℕ × List Entry → Type 0) (seen : List Entry) (lists : List (ℕ × List Entry)) → 0 < length lists → Every P lists
    → Every P (lists_of (view_with seen lists))
with_first P seen [] some_list each = absurd (omega arith)
with_first P seen (list ∷ lists) some_list each = (each.0, tt)

seen_with : (seen : List Entry) (lists : List (ℕ × List Entry)) → 0 < length lists → (view_with seen lists).observed ≡ seen
seen_with seen [] some_list = absurd (omega arith)
seen_with seen (list ∷ lists) some_list = refl

module _ {S L : Type 0} (R : rule.Ghosts L) (One : single.Ghosts S L) where
  module _ (key : Terms S) (s : State S (Turn S)) (log : List Entry) (out : Bool) (kept : Kept R One key s log out)
      (i : ℕ) (t : Turn S) (at : get_elem? s.views i ≡ some t) (mine : t.terms ≡ Some key) (rests : t.holds ≡ false) where
    sound : IsSound R One key log t
    sound = kept.each i t at

    live : is_live t ≡ true
    live = live_of t key mine

    never_held : {A : Type 0} → t.holds ≡ true → A
    never_held held = absurd (false_true (sym rests ∙ held))

    -- the other lists are not all gone
    module _ (some_list : 0 < length t.view.others) where
      left_sound : IsSound R One key log (giving t)
      left_sound =
          let agrees = sound.agrees live in
          record {
            terms_are = λ _. mine;
            agrees = λ _. record { observed = agrees.observed; lists = (agrees.lists.0, Every-rest _ t.view.others agrees.lists.1) };
            begun = λ _. let all = sound.begun live in (all.0, Every-rest _ t.view.others all.1);
            turn = never_held;
          }

      right_sound : IsSound R One key log (given t)
      right_sound =
          let agrees = sound.agrees live in
          let seen_is = seen_with t.view.observed t.view.others some_list in
          record {
            terms_are = λ _. mine;
            agrees = λ _. record {
              observed = subst (λ (l : List Entry). IsPrefix l log) (sym seen_is) agrees.observed;
              lists =
                  subst (λ (l : List Entry). Every (λ (list : ℕ × List Entry). IsListWithin (R.reply (One.number key.single.value)) log (length l) list.0 list.1) (lists_of (given t).view))
                  (sym seen_is) (with_first _ t.view.observed t.view.others some_list agrees.lists.1);
            };
            begun = λ _. with_first _ t.view.observed t.view.others some_list (sound.begun live).1;
            turn = never_held;
          }

      pub splits : Kept R One key (record { words = s.words; homes = s.homes; views = set s.views i (giving t) ++ given t ∷ [] }) log out
      splits = record {
        word = kept.word;
        few = kept.few;
        observed = kept.observed;
        slot = kept.slot;
        holders = total_split (λ (u : Turn S). one_if u.holds) s.views i t (giving t) (given t) at (let none = ap one_if rests in omega arith) ∙ kept.holders;
        once = λ c.
            let both : times_held c (giving t) + times_held c (given t) ≡ times_held c t =
            (let a = held_is (giving t) live c in
            let b = held_is (given t) live c in
            let all = held_is t live c in
            let two = parts c t.view.observed t.view.others some_list in omega arith) in
            let same = total_split (times_held c) s.views i t (giving t) (given t) at both in
            let most = kept.once c in omega arith;
        each = λ j u there.
            ⊎_elim
            (λ old.
            ⊎_elim (λ me. subst (IsSound R One key log) me.1 left_sound) (λ other. kept.each j u other.1)
            (at_set s.views i j (giving t) u old))
            (λ last. subst (IsSound R One key log) last right_sound)
            (at_snoc (set s.views i (giving t)) (given t) u j there);
      }

    pub joins : (j : ℕ) (u : Turn S) → get_elem? (set s.views i (joining t u)) j ≡ some u → j ≢ i → u.terms ≡ Some key → u.holds ≡ false
        → Kept R One key (record { words = s.words; homes = s.homes; views = set (set s.views i (joining t u)) j spent }) log out
    joins j u at_j apart theirs their_rest = record {
      word = kept.word;
      few = kept.few;
      observed = kept.observed;
      slot = kept.slot;
      holders =
          total_joined (λ (w : Turn S). one_if w.holds) s.views i j t u (joining t u) spent at at_j (let none = ap one_if their_rest in omega arith) refl
          ∙ kept.holders;
      once = λ c.
          let both : times_held c (joining t u) ≡ times_held c t + times_held c u =
          (let a = held_is (joining t u) live c in
          let b = held_is u live_there c in
          let all = held_is t live c in
          let two = total-append (λ (list : ℕ × List Entry). one_if (list.0 == c)) t.view.others (lists_of u.view) in omega arith) in
          let same = total_joined (times_held c) s.views i j t u (joining t u) spent at at_j both refl in
          let most = kept.once c in omega arith;
      each = λ k w there.
          ⊎_elim (λ gone. subst (IsSound R One key log) gone.1 gone_sound)
          (λ old.
          ⊎_elim (λ me. subst (IsSound R One key log) me.1 both_sound) (λ other. kept.each k w other.1)
          (at_set s.views i k (joining t u) w old.1))
          (at_set (set s.views i (joining t u)) j k spent w there);
    }
      where
        live_there : is_live u ≡ true
        live_there = live_of u key theirs

        there_first : get_elem? s.views j ≡ some u
        there_first = ⊎_elim (λ me. absurd (apart me.0)) (λ other. other.1) (at_set s.views i j (joining t u) u at_j)

        their_sound : IsSound R One key log u
        their_sound = kept.each j u there_first

        both_sound : IsSound R One key log (joining t u)
        both_sound = record {
          terms_are = λ _. mine;
          agrees = λ _.
              AgreesWith-joins (R.reply (One.number key.single.value)) log t.view u.view (joined_view t.view u.view) (sound.agrees live) (their_sound.agrees live_there)
              (record { number = refl; observed = refl; own = refl; others = refl });
          begun = λ _.
              let all = sound.begun live in
              (all.0, Every-append (λ (list : ℕ × List Entry). list.0 < key.passes) t.view.others (lists_of u.view) all.1 (their_sound.begun live_there));
          turn = never_held;
        }

        gone_sound : IsSound R One key log spent
        gone_sound = record {
          terms_are = λ living. absurd (false_true living);
          agrees = λ living. absurd (false_true living);
          begun = λ living. absurd (false_true living);
          turn = λ held. absurd (false_true held);
        }
