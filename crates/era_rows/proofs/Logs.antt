-- Lists of entries, and beginnings of lists.
use Rattle.std.proofs.Common.{◌≡◌, ◌≢◌, ℕ, zero, suc, ◌+◌, ◌<◌, ◌≤◌, ◌⊎◌, ⊎_elim, inl, inr, Bool, true, false, cond, eqb, List, [], ◌∷◌, ◌++◌, map, filter, take, length, refl, sym, ap, subst, ◌∙◌, arith, append_assoc, length-append, eq-eqb, ne_eqb}
use Rattle.std.proofs.Math.Seq.{take-append_seam}
use Rattle.std.proofs.lemmas.Bool.{true≢false, eqb-true}
use Rattle.std.proofs.lemmas.List.{append-nil, take-append-le}
use Rattle.std.proofs.lemmas.List.Elements.{filter-append}
use Rattle.atomic_table.proofs.Lists.{at_map}
use Rattle.era_core.specs.Lists.{In}
use Rattle.era_core.proofs.ListFacts.{at_push, at_within, in_head, in_tail}
use Rattle.era_rows.specs.Lists.{IsPrefix, of_caller, add_entry, IsLog, IsListOf}
use mathlib.Core.Option.{some, some-injective, some-ne-none}
use lib.ListN.{get_elem?}

module _ {A : Type 0} where
  -- the first words of a list that a prefix begins are the prefix
  pub take_prefix : (xs ys : List A) → IsPrefix xs ys → take (length xs) ys ≡ xs
  take_prefix xs ys begins = ap (take (length xs)) (sym begins.1) ∙ take-append_seam xs begins.0

  -- and fewer of them are the first words of the prefix
  pub take_within : (xs ys : List A) (n : ℕ) → IsPrefix xs ys → n ≤ length xs → take n ys ≡ take n xs
  take_within xs ys n begins low = ap (take n) (sym begins.1) ∙ take-append-le n xs begins.0 low

  -- a prefix that is as long as the list is the whole list
  pub prefix_whole : (xs ys : List A) → IsPrefix xs ys → length ys ≤ length xs → xs ≡ ys
  prefix_whole xs ys begins long = by_rest begins.0 begins.1
    where
      by_rest : (more : List A) → xs ++ more ≡ ys → xs ≡ ys
      by_rest [] e = sym (append-nil xs) ∙ e
      by_rest (x ∷ more) e = absurd (let parts = length-append xs (x ∷ more) in let whole = ap (λ (zs : List A). length zs) e in omega arith)

  -- a prefix of a list begins each longer one
  pub prefix_more : (xs ys zs : List A) → IsPrefix xs ys → IsPrefix xs (ys ++ zs)
  prefix_more xs ys zs begins = (begins.0 ++ zs, sym (append_assoc xs begins.0 zs) ∙ ap (λ t. t ++ zs) begins.1)

  -- a list that is a caller's is the list of one of the callers
  pub listed : (lists : List (ℕ × A)) (i c : ℕ) (a : A) → get_elem? lists i ≡ some (c, a) → In c (map (λ list. list.0) lists)
  listed [] i c a there = absurd (some-ne-none (c, a) (sym there))
  listed (x ∷ xs) zero c a there = subst (λ n. In n (x.0 ∷ map (λ list. list.0) xs)) (ap (λ t. t.0) (some-injective x (c, a) there)) (in_head x.0 (map (λ list. list.0) xs))
  listed (x ∷ xs) (suc i) c a there = in_tail c x.0 (map (λ list. list.0) xs) (listed xs i c a there)

module _ {E : Type 0} where
  -- where an entry was added, the list of its caller has it at its end, and the others are as they were
  pub added_at : (c : ℕ) (e : E) (lists : List (ℕ × List E)) (i d : ℕ) (es : List E) → get_elem? (add_entry c e lists) i ≡ some (d, es)
      → (old : List E) × (get_elem? lists i ≡ some (d, old)) × (((d ≡ c) × (es ≡ old ++ e ∷ [])) ⊎ ((d ≢ c) × (es ≡ old)))
  added_at c e [] i d es there = absurd (some-ne-none (d, es) (sym there))
  added_at c e (x ∷ xs) zero d es there = by_test (eqb x.0 c) refl (some-injective (cond (eqb x.0 c) (x.0, x.1 ++ e ∷ []) x) (d, es) there)
    where
      by_test : (b : Bool) → eqb x.0 c ≡ b → cond b (x.0, x.1 ++ e ∷ []) x ≡ (d, es)
          → (old : List E) × (some x ≡ some (d, old)) × (((d ≡ c) × (es ≡ old ++ e ∷ [])) ⊎ ((d ≢ c) × (es ≡ old)))
      by_test true test is =
          let same : x.0 ≡ d = ap (λ t. t.0) is in
          (x.1, ap (λ n. some (n, x.1)) same, inl (sym same ∙ eqb-true x.0 c test, sym (ap (λ t. t.1) is)))
      by_test false test is =
          let same : x.0 ≡ d = ap (λ t. t.0) is in
          (x.1, ap (λ n. some (n, x.1)) same, inr ((λ is_c. true≢false (sym (eq-eqb x.0 c (same ∙ is_c)) ∙ test)), sym (ap (λ t. t.1) is)))
  added_at c e (x ∷ xs) (suc i) d es there = added_at c e xs i d es there

  pub added_own : (c : ℕ) (e : E) (lists : List (ℕ × List E)) (i : ℕ) (es : List E) → get_elem? lists i ≡ some (c, es) → get_elem? (add_entry c e lists) i ≡ some (c, es ++ e ∷ [])
  added_own c e lists i es there =
      at_map (λ list. cond (eqb list.0 c) (list.0, list.1 ++ e ∷ []) list) lists i (c, es) there
      ∙ ap (λ b. some (cond b (c, es ++ e ∷ []) (c, es))) (eq-eqb c c refl)

  -- no caller's list goes or comes
  pub added_callers : (c : ℕ) (e : E) (lists : List (ℕ × List E)) → map (λ list. list.0) (add_entry c e lists) ≡ map (λ list. list.0) lists
  added_callers c e [] = refl
  added_callers c e (x ∷ xs) = by_test (eqb x.0 c) (added_callers c e xs)
    where
      by_test : (b : Bool) → map (λ list. list.0) (add_entry c e xs) ≡ map (λ list. list.0) xs
          → (cond b (x.0, x.1 ++ e ∷ []) x).0 ∷ map (λ list. list.0) (add_entry c e xs) ≡ x.0 ∷ map (λ list. list.0) xs
      by_test true rest = ap (λ t. x.0 ∷ t) rest
      by_test false rest = ap (λ t. x.0 ∷ t) rest

module _ {E : Type 0} (caller stamp : E → ℕ) (accepted : ℕ → E → Bool) (right : ℕ → E → List E → Type 0) (shape : ℕ) where
  -- an entry that is not accepted goes to the end of its caller's list, and the longest list stays
  pub list_named : (log : List E) (seen c : ℕ) (es : List E) (e : E) → IsListOf caller stamp accepted right shape log seen c es
      → caller e ≡ c → accepted shape e ≡ false → stamp e ≡ seen → right shape e (take seen log)
      → IsListOf caller stamp accepted right shape log seen c (es ++ e ∷ [])
  list_named log seen c es e was its_caller refused its_stamp is_right = record {
    named = λ n d there. ⊎_elim (was.named n d) (λ last. ap caller (sym last.1) ∙ its_caller) (at_push es e d n there);
    told = filter-append (accepted shape) es (e ∷ []) ∙ ap (λ b. filter (accepted shape) es ++ cond b (e ∷ []) []) refused ∙ append-nil (filter (accepted shape) es) ∙ was.told;
    known = λ n d there. ⊎_elim (was.known n d) (λ last. (let same = ap stamp last.1 in omega arith)) (at_push es e d n there);
    judged = λ n d there not_accepted.
        ⊎_elim
        (λ old. was.judged n d old not_accepted)
        (λ last. subst (λ x. right shape x (take (stamp x) log)) last.1 (subst (λ m. right shape e (take m log)) (sym its_stamp) is_right))
        (at_push es e d n there);
    ordered = λ m n d f below at_m at_n.
        ⊎_elim
        (λ new. ⊎_elim
        (λ old. was.ordered m n d f below old new)
        (λ last. absurd (let within = at_within es n f new in let place = last.0 in omega arith))
        (at_push es e d m at_m))
        (λ last. ⊎_elim
        (λ old. (let low = was.known m d old in let same = ap stamp last.1 in omega arith))
        (λ both. absurd (let place = both.0 in let other = last.0 in omega arith))
        (at_push es e d m at_m))
        (at_push es e f n at_n);
    rising = λ m n d f below at_m at_n is_accepted.
        ⊎_elim
        (λ new. ⊎_elim
        (λ old. was.rising m n d f below old new is_accepted)
        (λ last. absurd (let within = at_within es n f new in let place = last.0 in omega arith))
        (at_push es e d m at_m))
        (λ last. absurd (true≢false (sym is_accepted ∙ ap (accepted shape) (sym last.1) ∙ refused)))
        (at_push es e f n at_n);
  }

  module _ (log : List E) (e : E) where
    abbrev grown : List E
    grown = log ++ e ∷ []

    -- the longest list grows by an accepted entry
    pub log_longer : (made : ℕ) → IsLog caller stamp accepted right shape made log → accepted shape e ≡ true → right shape e log → stamp e ≡ length log + 1 → caller e < made
        → IsLog caller stamp accepted right shape made (log ++ e ∷ [])
    log_longer made was is_accepted is_right its_stamp its_caller = record {
      accepts = λ n d there. ⊎_elim (was.accepts n d) (λ last. ap (accepted shape) (sym last.1) ∙ is_accepted) (at_push log e d n there);
      judged = λ n d there.
          ⊎_elim
          (λ old. subst (right shape d) (sym (take-append-le n log (e ∷ []) (let within = at_within log n d old in omega arith))) (was.judged n d old))
          (λ last. subst (λ x. right shape x (take n grown)) last.1 (subst (right shape e) (sym (ap (λ m. take m grown) last.0 ∙ take-append_seam log (e ∷ []))) is_right))
          (at_push log e d n there);
      stamped = λ n d there. ⊎_elim (was.stamped n d) (λ last. (let same = ap stamp last.1 in let place = last.0 in omega arith)) (at_push log e d n there);
      begun = λ n d there. ⊎_elim (was.begun n d) (λ last. (let same = ap caller last.1 in omega arith)) (at_push log e d n there);
    }

    -- a list stays that of another caller
    pub list_other : (seen c : ℕ) (es : List E) → IsListOf caller stamp accepted right shape log seen c es → caller e ≢ c → seen ≤ length log
        → IsListOf caller stamp accepted right shape (log ++ e ∷ []) seen c es
    list_other seen c es was apart low = record {
      named = was.named;
      told = was.told ∙ sym (filter-append (λ x. eqb (caller x) c) log (e ∷ []) ∙ ap (λ b. of_caller caller c log ++ cond b (e ∷ []) []) (ne_eqb (caller e) c apart) ∙ append-nil (of_caller caller c log));
      known = was.known;
      judged = λ n d there not_accepted.
          subst (right shape d) (sym (take-append-le (stamp d) log (e ∷ []) (let known = was.known n d there in omega arith))) (was.judged n d there not_accepted);
      ordered = was.ordered;
      rising = was.rising;
    }

    -- the accepted entry goes to the end of its caller's list
    pub list_own : (seen c : ℕ) (es : List E) → IsListOf caller stamp accepted right shape log seen c es → caller e ≡ c → accepted shape e ≡ true → stamp e ≡ seen + 1 → seen ≤ length log
        → IsListOf caller stamp accepted right shape (log ++ e ∷ []) (seen + 1) c (es ++ e ∷ [])
    list_own seen c es was its_caller is_accepted its_stamp low = record {
      named = λ n d there. ⊎_elim (was.named n d) (λ last. ap caller (sym last.1) ∙ its_caller) (at_push es e d n there);
      told =
          filter-append (accepted shape) es (e ∷ [])
          ∙ ap (λ b. filter (accepted shape) es ++ cond b (e ∷ []) []) is_accepted
          ∙ ap (λ t. t ++ e ∷ []) was.told
          ∙ sym (filter-append (λ x. eqb (caller x) c) log (e ∷ []) ∙ ap (λ b. of_caller caller c log ++ cond b (e ∷ []) []) (eq-eqb (caller e) c its_caller));
      known = λ n d there. ⊎_elim (λ old. (let known = was.known n d old in omega arith)) (λ last. (let same = ap stamp last.1 in omega arith)) (at_push es e d n there);
      judged = λ n d there not_accepted.
          ⊎_elim
          (λ old. subst (right shape d) (sym (take-append-le (stamp d) log (e ∷ []) (let known = was.known n d old in omega arith))) (was.judged n d old not_accepted))
          (λ last. absurd (true≢false (sym is_accepted ∙ ap (accepted shape) last.1 ∙ not_accepted)))
          (at_push es e d n there);
      ordered = λ m n d f below at_m at_n.
          ⊎_elim
          (λ new. ⊎_elim
          (λ old. was.ordered m n d f below old new)
          (λ last. absurd (let within = at_within es n f new in let place = last.0 in omega arith))
          (at_push es e d m at_m))
          (λ last. ⊎_elim
          (λ old. (let known = was.known m d old in let same = ap stamp last.1 in omega arith))
          (λ both. absurd (let place = both.0 in let other = last.0 in omega arith))
          (at_push es e d m at_m))
          (at_push es e f n at_n);
      rising = λ m n d f below at_m at_n taken.
          ⊎_elim
          (λ new. ⊎_elim
          (λ old. was.rising m n d f below old new taken)
          (λ last. absurd (let within = at_within es n f new in let place = last.0 in omega arith))
          (at_push es e d m at_m))
          (λ last. ⊎_elim
          (λ old. (let known = was.known m d old in let same = ap stamp last.1 in omega arith))
          (λ both. absurd (let place = both.0 in let other = last.0 in omega arith))
          (at_push es e d m at_m))
          (at_push es e f n at_n);
    }
