-- Each step of the desk keeps its rule.
use Rattle.std.proofs.Common.{◌≡◌, ◌≢◌, ℕ, ◌+◌, ◌-◌, ◌%◌, ◌^◌, ◌<◌, ◌≤◌, ⊎_elim, min, Bool, true, false, cond, ltb, lt-ltb, le-ltb, List, [], ◌∷◌, ◌++◌, length, set, slice_index, sum_by, count_by, bit_or, refl, sym, ap, subst, ◌∙◌, arith}
use Rattle.std.proofs.lemmas.Bool.{cases_lt}
use Rattle.std.proofs.lemmas.List.{get_or-set_same, get_or-set_other, length-set}
use Rattle.std.proofs.lemmas.List.Sums.{sum_by-cons, sum_by-append, sum_by_push}
use Rattle.atomic_table.proofs.Lists.{at_set, at_snoc}
use Rattle.pls_pool.specs.declared.cause.Cause.{Cause}
use Rattle.pls_pool.specs.declared.cause.Cause.TheVariants.{Spent, Full, Memory}
use Rattle.pls_pool.specs.declared.tally.Tally.{Tally}
use Rattle.pls_pool.specs.declared.sizes.Sizes.{Sizes}
use Rattle.pls_pool.specs.Tallies.{started, spent, giving, opening, closing, drawing, finding, halting, joining, bit_of, cause_of}
use Rattle.pls_pool.specs.DeskRule.{is_cause, times_halted, is_kept, causes_word, IsSound, Kept, HoldsAll, AllWent}
use Rattle.pls_pool.proofs.Sums.{sum_set, sum_same, sum_two, sum_only, sum_le, sum_both, sum_joined, sum_split}
use mathlib.Core.Option.{some}
use lib.ListN.{get_elem?}

abbrev opened_in : List Tally → ℕ
opened_in vs = sum_by (λ (v : Tally). v.opened) vs

abbrev done_in : List Tally → ℕ
done_in vs = sum_by (λ (v : Tally). v.done) vs

abbrev draws_in : List Tally → ℕ
draws_in vs = sum_by (λ (v : Tally). v.draws) vs

abbrev goes_in : List Tally → ℕ
goes_in vs = sum_by (λ (v : Tally). v.goes) vs

abbrev shares_in : List Tally → ℕ
shares_in vs = sum_by (λ (v : Tally). v.share) vs

abbrev causes_of : List Tally → ℕ
causes_of vs = causes_word (is_kept Spent vs) (is_kept Full vs) (is_kept Memory vs)

pub word_as : (a a' b b' c c' : Bool) → a ≡ a' → b ≡ b' → c ≡ c' → causes_word a b c ≡ causes_word a' b' c'
word_as a a' b b' c c' p q r = λ k. causes_word (p k) (q k) (r k)

-- a bit that is set by a step is set then, and the others stay
set_spent : (a b c : Bool) → bit_or (causes_word a b c) 1 ≡ causes_word true b c
set_spent true true true = refl
set_spent true true false = refl
set_spent true false true = refl
set_spent true false false = refl
set_spent false true true = refl
set_spent false true false = refl
set_spent false false true = refl
set_spent false false false = refl

set_full : (a b c : Bool) → bit_or (causes_word a b c) 2 ≡ causes_word a true c
set_full true true true = refl
set_full true true false = refl
set_full true false true = refl
set_full true false false = refl
set_full false true true = refl
set_full false true false = refl
set_full false false true = refl
set_full false false false = refl

set_memory : (a b c : Bool) → bit_or (causes_word a b c) 4 ≡ causes_word a b true
set_memory true true true = refl
set_memory true true false = refl
set_memory true false true = refl
set_memory true false false = refl
set_memory false true true = refl
set_memory false true false = refl
set_memory false false true = refl
set_memory false false false = refl

-- so much, or nothing
abbrev so_much : ℕ → Bool → ℕ
so_much n b = cond b n 0

pub cause_of-bit : (c : Cause) → cause_of (bit_of c) ≡ c
cause_of-bit Spent = refl
cause_of-bit Full = refl
cause_of-bit Memory = refl

-- the third word, where these are all causes that are kept
abbrev list_word : List Cause → ℕ
list_word cs = causes_word (ltb 0 (count_by (is_cause Spent) cs)) (ltb 0 (count_by (is_cause Full) cs)) (ltb 0 (count_by (is_cause Memory) cs))

first_kept : (c : Cause) (cs : List Cause) → is_cause c c ≡ true → ltb 0 (count_by (is_cause c) (c ∷ cs)) ≡ true
first_kept c cs same =
    let first = sum_by-cons (λ (d : Cause). cond (is_cause c d) 1 0) c cs in
    let one : so_much 1 (is_cause c c) ≡ 1 = ap (so_much 1) same in
    lt-ltb 0 (count_by (is_cause c) (c ∷ cs)) (omega arith)

some_word : (c : Cause) (cs : List Cause) → 0 < list_word (c ∷ cs)
some_word Spent cs = let one : so_much 1 (ltb 0 (count_by (is_cause Spent) (Spent ∷ cs))) ≡ 1 = ap (so_much 1) (first_kept Spent cs refl) in omega arith
some_word Full cs = let one : so_much 2 (ltb 0 (count_by (is_cause Full) (Full ∷ cs))) ≡ 2 = ap (so_much 2) (first_kept Full cs refl) in omega arith
some_word Memory cs = let one : so_much 4 (ltb 0 (count_by (is_cause Memory) (Memory ∷ cs))) ≡ 4 = ap (so_much 4) (first_kept Memory cs refl) in omega arith

told_by : (cs : List Cause) → (list_word cs ≡ 0 → cs ≡ []) × (0 < list_word cs → 0 < length cs)
told_by [] = ((λ none. refl), (λ low. absurd (omega arith)))
told_by (c ∷ cs) = ((λ none. absurd (let more = some_word c cs in omega arith)), (λ low. omega arith))

module _ (key : Sizes) (ws : List ℕ) (vs : List Tally) (kept : Kept key ws vs) (i : ℕ) (v : Tally) (at : get_elem? vs i ≡ some v) where
  sound : IsSound key v
  sound = kept.each i v at

  -- what a word is after it was set, and the others
  here : (j n : ℕ) → j < 17 → slice_index (set ws j n) j ≡ n
  here j n low = get_or-set_same ws j n 0 (let long = kept.long in omega arith)

  there : (j k n : ℕ) → k ≢ j → slice_index (set ws j n) k ≡ slice_index ws k
  there j k n apart = get_or-set_other ws j k n 0 apart

  long_set : (j n : ℕ) → length (set ws j n) ≡ 17
  long_set j n = length-set ws j n ∙ kept.long

  each_set : (w : Tally) → IsSound key w → (j : ℕ) (u : Tally) → get_elem? (set vs i w) j ≡ some u → IsSound key u
  each_set w sound_now j u at_j = ⊎_elim (λ mine. subst (IsSound key) mine.1 sound_now) (λ other. kept.each j u other.1) (at_set vs i j w u at_j)

  causes_same : (w : Tally) → w.halts ≡ v.halts → causes_of (set vs i w) ≡ causes_of vs
  causes_same w same = word_as _ _ _ _ _ _ (kept_same Spent) (kept_same Full) (kept_same Memory)
    where
      kept_same : (c : Cause) → is_kept c (set vs i w) ≡ is_kept c vs
      kept_same c = ap (ltb 0) (sum_same (times_halted c) vs i v w at (ap (count_by (is_cause c)) same))

  -- a seat steps, and holds as many seats as before
  steps : (us : List ℕ) (w : Tally) → w.share ≡ v.share → IsSound key w → length us ≡ 17
      → (slice_index us 0 + done_in (set vs i w)) % 2 ^ 64 ≡ opened_in (set vs i w) % 2 ^ 64
      → slice_index us 8 ≡ draws_in (set vs i w)
      → goes_in (set vs i w) ≡ min (draws_in (set vs i w)) key.moves
      → slice_index us 16 ≡ causes_of (set vs i w)
      → Kept key us (set vs i w)
  steps us w same sound_now long open_is drawn_is goes_are causes_are = record {
    long = long;
    shares = sum_same (λ (u : Tally). u.share) vs i v w at same ∙ kept.shares;
    each = each_set w sound_now;
    open_is = open_is;
    drawn_is = drawn_is;
    goes_are = goes_are;
    causes_are = causes_are;
  }

  pub opens : 0 < v.share → Kept key (set ws 0 ((slice_index ws 0 + 1) % 2 ^ 64)) (set vs i (opening v))
  opens holds =
      let w = opening v in
      let n = (slice_index ws 0 + 1) % 2 ^ 64 in
      steps (set ws 0 n) w refl
      (record { sized = sound.sized; few = sound.few; nothing = λ none. absurd (omega arith) })
      (long_set 0 n)
      (let a = here 0 n (omega arith) in
      let o = sum_set (λ (u : Tally). u.opened) vs i v w at in
      let d = sum_same (λ (u : Tally). u.done) vs i v w at refl in
      let is = kept.open_is in omega arith)
      (there 0 8 n (λ e. omega arith) ∙ kept.drawn_is ∙ sym (sum_same (λ (u : Tally). u.draws) vs i v w at refl))
      (let d = sum_same (λ (u : Tally). u.draws) vs i v w at refl in let g = sum_same (λ (u : Tally). u.goes) vs i v w at refl in let is = kept.goes_are in omega arith)
      (there 0 16 n (λ e. omega arith) ∙ kept.causes_are ∙ sym (causes_same w refl))

  pub closes : 0 < v.share → Kept key (set ws 0 ((slice_index ws 0 + (2 ^ 64 - 1)) % 2 ^ 64)) (set vs i (closing v))
  closes holds =
      let w = closing v in
      let n = (slice_index ws 0 + (2 ^ 64 - 1)) % 2 ^ 64 in
      steps (set ws 0 n) w refl
      (record { sized = sound.sized; few = sound.few; nothing = λ none. absurd (omega arith) })
      (long_set 0 n)
      (let a = here 0 n (omega arith) in
      let o = sum_same (λ (u : Tally). u.opened) vs i v w at refl in
      let d = sum_set (λ (u : Tally). u.done) vs i v w at in
      let is = kept.open_is in omega arith)
      (there 0 8 n (λ e. omega arith) ∙ kept.drawn_is ∙ sym (sum_same (λ (u : Tally). u.draws) vs i v w at refl))
      (let d = sum_same (λ (u : Tally). u.draws) vs i v w at refl in let g = sum_same (λ (u : Tally). u.goes) vs i v w at refl in let is = kept.goes_are in omega arith)
      (there 0 16 n (λ e. omega arith) ∙ kept.causes_are ∙ sym (causes_same w refl))

  pub finds : (found : ℕ) → Kept key ws (set vs i (finding found v))
  finds found =
      let w = finding found v in
      steps ws w refl
      (record { sized = sound.sized; few = sound.few; nothing = sound.nothing })
      kept.long
      (let o = sum_same (λ (u : Tally). u.opened) vs i v w at refl in let d = sum_same (λ (u : Tally). u.done) vs i v w at refl in let is = kept.open_is in omega arith)
      (kept.drawn_is ∙ sym (sum_same (λ (u : Tally). u.draws) vs i v w at refl))
      (let d = sum_same (λ (u : Tally). u.draws) vs i v w at refl in let g = sum_same (λ (u : Tally). u.goes) vs i v w at refl in let is = kept.goes_are in omega arith)
      (kept.causes_are ∙ sym (causes_same w refl))

  holds_sized : 0 < v.share → (v.moves ≡ key.moves) × (v.seats ≡ key.seats)
  holds_sized holds = sound.sized holds

  -- there were no more draws than moves and one for each seat
  few_draws : draws_in vs ≤ key.moves + key.seats
  few_draws =
      let most = sum_le (λ (u : Tally). u.draws) (λ (u : Tally). u.goes + u.share) vs (λ j u at_j. (kept.each j u at_j).few) in
      let parts = sum_both (λ (u : Tally). u.goes) (λ (u : Tally). u.share) vs in
      let shares = kept.shares in
      let goes = kept.goes_are in omega arith

  pub draws : 0 < v.share → v.draws ≡ v.goes → key.moves ≤ 10 ^ 9 → key.seats ≤ 16 → Kept key (set ws 8 ((slice_index ws 8 + 1) % 2 ^ 64)) (set vs i (drawing (slice_index ws 8) v))
  draws holds fresh few_moves few_seats =
      let found = slice_index ws 8 in
      let w = drawing found v in
      let n = (found + 1) % 2 ^ 64 in
      let d = sum_set (λ (u : Tally). u.draws) vs i v w at in
      let drawn = kept.drawn_is in
      steps (set ws 8 n) w refl
      (record { sized = sound.sized; few = omega arith; nothing = λ none. absurd (omega arith) })
      (long_set 8 n)
      (let a = there 8 0 n (λ e. omega arith) in
      let o = sum_same (λ (u : Tally). u.opened) vs i v w at refl in
      let e = sum_same (λ (u : Tally). u.done) vs i v w at refl in
      let is = kept.open_is in omega arith)
      (let a = here 8 n (omega arith) in let few = few_draws in omega arith)
      (let g = sum_set (λ (u : Tally). u.goes) vs i v w at in
      let is = kept.goes_are in
      let sized = (holds_sized holds).0 in
      ⊎_elim
      (λ below. let one : so_much 1 (ltb found v.moves) ≡ 1 = ap (so_much 1) (lt-ltb found v.moves below) in omega arith)
      (λ past. let none : so_much 1 (ltb found v.moves) ≡ 0 = ap (so_much 1) (le-ltb found v.moves past) in omega arith)
      (cases_lt found v.moves))
      (there 8 16 n (λ e. omega arith) ∙ kept.causes_are ∙ sym (causes_same w refl))

  kept_now : (c : Cause) → is_cause c c ≡ true → is_kept c (set vs i (halting c v)) ≡ true
  kept_now c same =
      let more = sum_set (times_halted c) vs i v (halting c v) at in
      let one : so_much 1 (is_cause c c) ≡ 1 = ap (so_much 1) same in
      let last = sum_by_push (λ (d : Cause). cond (is_cause c d) 1 0) v.halts c in
      lt-ltb 0 (sum_by (times_halted c) (set vs i (halting c v))) (omega arith)

  kept_else : (c d : Cause) → is_cause d c ≡ false → is_kept d (set vs i (halting c v)) ≡ is_kept d vs
  kept_else c d other =
      let none : so_much 1 (is_cause d c) ≡ 0 = ap (so_much 1) other in
      let last = sum_by_push (λ (e : Cause). cond (is_cause d e) 1 0) v.halts c in
      ap (ltb 0) (sum_same (times_halted d) vs i v (halting c v) at (omega arith))

  halted_word : (c : Cause) → bit_or (slice_index ws 16) (bit_of c) ≡ causes_of (set vs i (halting c v))
  halted_word Spent = ap (λ n. bit_or n 1) kept.causes_are ∙ set_spent _ _ _ ∙ word_as _ _ _ _ _ _ (sym (kept_now Spent refl)) (sym (kept_else Spent Full refl)) (sym (kept_else Spent Memory refl))
  halted_word Full = ap (λ n. bit_or n 2) kept.causes_are ∙ set_full _ _ _ ∙ word_as _ _ _ _ _ _ (sym (kept_else Full Spent refl)) (sym (kept_now Full refl)) (sym (kept_else Full Memory refl))
  halted_word Memory = ap (λ n. bit_or n 4) kept.causes_are ∙ set_memory _ _ _ ∙ word_as _ _ _ _ _ _ (sym (kept_else Memory Spent refl)) (sym (kept_else Memory Full refl)) (sym (kept_now Memory refl))

  pub halts : (c : Cause) → 0 < v.share → Kept key (set ws 16 (bit_or (slice_index ws 16) (bit_of c))) (set vs i (halting c v))
  halts c holds =
      let w = halting c v in
      let n = bit_or (slice_index ws 16) (bit_of c) in
      steps (set ws 16 n) w refl
      (record { sized = sound.sized; few = sound.few; nothing = λ none. absurd (omega arith) })
      (long_set 16 n)
      (let a = there 16 0 n (λ e. omega arith) in
      let o = sum_same (λ (u : Tally). u.opened) vs i v w at refl in
      let d = sum_same (λ (u : Tally). u.done) vs i v w at refl in
      let is = kept.open_is in omega arith)
      (there 16 8 n (λ e. omega arith) ∙ kept.drawn_is ∙ sym (sum_same (λ (u : Tally). u.draws) vs i v w at refl))
      (let d = sum_same (λ (u : Tally). u.draws) vs i v w at refl in let g = sum_same (λ (u : Tally). u.goes) vs i v w at refl in let is = kept.goes_are in omega arith)
      (here 16 n (omega arith) ∙ halted_word c)

  -- beside a seat that holds all, no other has done anything
  module _ (holds : 0 < v.share) (all : HoldsAll v) where
    alone : (j : ℕ) (u : Tally) → j ≢ i → get_elem? vs j ≡ some u → u.share ≡ 0
    alone j u apart at_j =
        let two = sum_two (λ (t : Tally). t.share) vs i j v u at at_j apart in
        let shares = kept.shares in
        let sized = (holds_sized holds).1 in omega arith

    only : (f : Tally → ℕ) → ((j : ℕ) (u : Tally) → get_elem? vs j ≡ some u → u.share ≡ 0 → f u ≡ 0) → sum_by f vs ≡ f v
    only f none = sum_only f vs i v at (λ j u apart at_j. none j u at_j (alone j u apart at_j))

    all_went : AllWent v
    all_went =
        let d = only (λ (u : Tally). u.draws) (λ j u at_j none. ((kept.each j u at_j).nothing none).2) in
        let g = only (λ (u : Tally). u.goes) (λ j u at_j none. ((kept.each j u at_j).nothing none).3) in
        let sized = (holds_sized holds).0 in
        let is = kept.goes_are in omega arith

    pub looks_open : ((slice_index ws 0 + v.done) % 2 ^ 64 ≡ v.opened % 2 ^ 64) × AllWent v
    looks_open =
        let o = only (λ (u : Tally). u.opened) (λ j u at_j none. ((kept.each j u at_j).nothing none).0) in
        let d = only (λ (u : Tally). u.done) (λ j u at_j none. ((kept.each j u at_j).nothing none).1) in
        let is = kept.open_is in (omega arith, all_went)

    own_causes : (c : Cause) → is_kept c vs ≡ ltb 0 (times_halted c v)
    own_causes c = ap (ltb 0) (only (times_halted c) (λ j u at_j none. ap (count_by (is_cause c)) ((kept.each j u at_j).nothing none).4))

    own_word : slice_index ws 16 ≡ list_word v.halts
    own_word = kept.causes_are ∙ word_as _ _ _ _ _ _ (own_causes Spent) (own_causes Full) (own_causes Memory)

    pub looks_causes : (slice_index ws 16 ≡ 0 → v.halts ≡ []) × (0 < slice_index ws 16 → 0 < length v.halts) × AllWent v
    looks_causes = let told = told_by v.halts in ((λ none. told.0 (sym own_word ∙ none)), (λ some_there. told.1 (let is = own_word in omega arith)), all_went)

module _ (key : Sizes) (ws : List ℕ) (vs : List Tally) (kept : Kept key ws vs) (i : ℕ) (v : Tally) (at : get_elem? vs i ≡ some v) where
  abbrev left : Tally
  left = giving v

  abbrev right : Tally
  right = started v.moves v.seats 1

  -- a seat that has done nothing gives a share to a new one
  pub splits : 1 < v.share → v.draws ≡ 0 → Kept key ws (set vs i left ++ right ∷ [])
  splits more none =
      let sized = (kept.each i v at).sized (omega arith) in
      let new : List Tally = set vs i left ++ right ∷ [] in
      let parts : (f : Tally → ℕ) → f left ≡ f v → f right ≡ 0 → sum_by f new ≡ sum_by f vs = λ f same zero_there. sum_split f vs i v left right at (omega arith) in
      let o = parts (λ (u : Tally). u.opened) refl refl in
      let d = parts (λ (u : Tally). u.done) refl refl in
      let n = parts (λ (u : Tally). u.draws) refl refl in
      let g = parts (λ (u : Tally). u.goes) refl refl in
      let same : (c : Cause) → is_kept c new ≡ is_kept c vs = λ c. ap (ltb 0) (parts (times_halted c) refl refl) in
      record {
        long = kept.long;
        shares = sum_split (λ (u : Tally). u.share) vs i v left right at (omega arith) ∙ kept.shares;
        each = λ j u at_j.
            ⊎_elim
            (λ old.
            ⊎_elim
            (λ mine. subst (IsSound key) mine.1 (record { sized = λ _. sized; few = omega arith; nothing = λ gone. absurd (omega arith) }))
            (λ other. kept.each j u other.1)
            (at_set vs i j left u old))
            (λ last. subst (IsSound key) last (record { sized = λ _. sized; few = omega arith; nothing = λ gone. absurd (omega arith) }))
            (at_snoc (set vs i left) right u j at_j);
        open_is = (let is = kept.open_is in omega arith);
        drawn_is = kept.drawn_is ∙ sym n;
        goes_are = (let is = kept.goes_are in omega arith);
        causes_are = kept.causes_are ∙ sym (word_as _ _ _ _ _ _ (same Spent) (same Full) (same Memory));
      }

  -- a seat takes over what another did
  pub joins : (j : ℕ) (w : Tally) → get_elem? (set vs i (joining v w)) j ≡ some w → j ≢ i → 0 < v.share → Kept key ws (set (set vs i (joining v w)) j spent)
  joins j w at_j apart holds =
      let both = joining v w in
      let new : List Tally = set (set vs i both) j spent in
      let theirs : get_elem? vs j ≡ some w = ⊎_elim (λ mine. absurd (apart mine.0)) (λ other. other.1) (at_set vs i j both w at_j) in
      let mine_sound = kept.each i v at in
      let their_sound = kept.each j w theirs in
      let parts : (f : Tally → ℕ) → f both ≡ f v + f w → f spent ≡ 0 → sum_by f new ≡ sum_by f vs = λ f adds zero_there. sum_joined f vs i j v w both spent at at_j adds zero_there in
      let o = parts (λ (u : Tally). u.opened) refl refl in
      let d = parts (λ (u : Tally). u.done) refl refl in
      let n = parts (λ (u : Tally). u.draws) refl refl in
      let g = parts (λ (u : Tally). u.goes) refl refl in
      let same : (c : Cause) → is_kept c new ≡ is_kept c vs =
      λ c. ap (ltb 0) (parts (times_halted c) (sum_by-append (λ (e : Cause). cond (is_cause c e) 1 0) v.halts w.halts) refl) in
      record {
        long = kept.long;
        shares = parts (λ (u : Tally). u.share) refl refl ∙ kept.shares;
        each = λ k u at_k.
            ⊎_elim
            (λ gone. subst (IsSound key) gone.1 (record { sized = λ low. absurd (omega arith); few = omega arith; nothing = λ _. (refl, refl, refl, refl, refl) }))
            (λ old.
            ⊎_elim
            (λ mine. subst (IsSound key) mine.1 (record { sized = λ _. mine_sound.sized holds; few = (let a = mine_sound.few in let b = their_sound.few in omega arith); nothing = λ none. absurd (omega arith) }))
            (λ other. kept.each k u other.1)
            (at_set vs i k both u old.1))
            (at_set (set vs i both) j k spent u at_k);
        open_is = (let is = kept.open_is in omega arith);
        drawn_is = kept.drawn_is ∙ sym n;
        goes_are = (let is = kept.goes_are in omega arith);
        causes_are = kept.causes_are ∙ sym (word_as _ _ _ _ _ _ (same Spent) (same Full) (same Memory));
      }
