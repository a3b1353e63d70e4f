-- Where the longest list of accepting entries is known, what one more entry leaves of it, and of what it says of a caller's list.
use Rattle.std.proofs.Common.{◌≡◌, ◌≢◌, ℕ, ◌+◌, ◌<◌, ◌≤◌, ◌==◌, true, false, List, [], ◌∷◌, ◌++◌, length, take, ap, ap₂, sym, subst, ◌∙◌, arith, length-append, append-nil}
use Rattle.std.proofs.lemmas.Bool.{eq-eqb, ne_eqb}
use Rattle.std.proofs.lemmas.List.{take-append-le}
use Rattle.std.proofs.lemmas.List.Elements.{filter-append}
use Rattle.pls_archive.specs.declared.point.Point.{Point}
use Rattle.pls_archive.specs.declared.call.Call.{Call}
use Rattle.pls_archive.specs.declared.call.Reply.{Reply}
use Rattle.pls_archive.specs.declared.call.Entry.{Entry}
use Rattle.pls_archive.specs.Lists.{Every, IsPrefix, one_if}
use Rattle.pls_archive.specs.Rule.{is_accepting}
use Rattle.pls_archive.specs.History.{submissions, accepts, accepting, IsLegal}
use Rattle.pls_archive.specs.Serialization.{IsRising}
use Rattle.pls_archive.specs.View.{IsObserved, IsListOf, of_caller}
use Rattle.pls_archive.proofs.Every.{Every-map, Every-append, Every-left, Every-right, Every-filter, filter-keep, filter-skip, filter-all}
use Rattle.pls_archive.proofs.ViewsFilters.{Every-paired, none_from_both}
use Rattle.pls_archive.proofs.ViewsAtStamp.{AreNumbered-observed, AreNumbered-above}
use Rattle.pls_archive.proofs.SequentialCalls.{ContinuesLegally-append, ContinuesLegally-left}

pub length-prefix : {A : Type 0} (xs ys : List A) → IsPrefix xs ys → length xs ≤ length ys
length-prefix xs ys begins =
    let all : length ys ≡ length xs + length begins.0 = ap length (sym begins.1) ∙ length-append xs begins.0 in omega arith

stamps_most : (n m : ℕ) (es : List Entry) → n ≤ m → Every (λ e. e.stamp ≤ n) es → Every (λ e. e.stamp ≤ m) es
stamps_most n m es further h = Every-map (λ (e : Entry). e.stamp ≤ n) (λ e. e.stamp ≤ m) (λ e le. omega (arith, le, further)) es h

IsRising-append :
    (n : ℕ) (es : List Entry) (e : Entry) → IsRising es → Every (λ d. d.stamp ≤ n) es → n + one_if (accepts e) ≤ e.stamp → IsRising (es ++ e ∷ [])
IsRising-append n [] e rising most next = (tt, tt)
IsRising-append n (d ∷ es) e rising most next =
    let low = most.0 in
    (Every-append (λ (e : Entry). d.stamp + one_if (accepts e) ≤ e.stamp) es (e ∷ []) rising.0 (omega arith, tt), IsRising-append n es e rising.1 most.1 next)

module _ (reply : List Point → Call → Reply) where
  -- an entry that is not accepting has the reply that is right after as much of the longest list as its stamp says
  abbrev IsJudged : List Entry → Entry → Type 0
  IsJudged log e = accepts e ≡ false → e.reply ≡ reply (submissions (take e.stamp log)) e.call

  -- ---- the longest list

  pub IsObserved-prefix : (started : ℕ) (seen log : List Entry) → IsPrefix seen log → IsObserved reply started log → IsObserved reply started seen
  IsObserved-prefix started seen log begins h = record {
    legal = ContinuesLegally-left reply [] seen begins.0 (subst (IsLegal reply) (sym begins.1) h.legal);
    accepted = Every-left (λ (e : Entry). accepts e ≡ true) seen begins.0 (subst (Every (λ (e : Entry). accepts e ≡ true)) (sym begins.1) h.accepted);
    begun = Every-left (λ (e : Entry). e.caller < started) seen begins.0 (subst (Every (λ (e : Entry). e.caller < started)) (sym begins.1) h.begun);
  }

  -- one more accepting entry, with its due reply and the next place as its stamp
  pub IsObserved-more :
      (started : ℕ) (log : List Entry) (e : Entry) → IsObserved reply started log → accepts e ≡ true → e.caller < started
      → e.stamp ≡ length log + 1 → e.reply ≡ reply (submissions log) e.call → IsObserved reply started (log ++ e ∷ [])
  IsObserved-more started log e h accepted begun stamped right = record {
    legal = ContinuesLegally-append reply [] log (e ∷ []) h.legal (ap₂ (entry e) counted right, tt);
    accepted = Every-append (λ (e : Entry). accepts e ≡ true) log (e ∷ []) h.accepted (accepted, tt);
    begun = Every-append (λ (e : Entry). e.caller < started) log (e ∷ []) h.begun (begun, tt);
  }
    where
      entry : Entry → ℕ → Reply → Entry
      entry e stamp answer = record { caller = e.caller; stamp = stamp; call = e.call; reply = answer }

      counted : e.stamp ≡ length (accepting log) + one_if (is_accepting e.call (reply (submissions log) e.call))
      counted =
          let all = ap length (filter-all accepts log h.accepted) in
          let one = ap one_if (ap (is_accepting e.call) (sym right) ∙ accepted) in omega (arith, stamped)

  -- ---- the list of a caller, of which a pass that has observed n entries knows

  abbrev pub IsListWithin : List Entry → ℕ → ℕ → List Entry → Type 0
  IsListWithin log n c es = IsListOf reply log c es × Every (λ e. e.stamp ≤ n) es

  module _ (log : List Entry) (c : ℕ) (es : List Entry) where
    -- what is known of its entries does not change with the longest list
    known_further : (e : Entry) → Every (λ e. e.stamp ≤ length log) es → Every (λ d. d.stamp ≤ length (log ++ e ∷ [])) es
    known_further e known =
        let long = length-append log (e ∷ []) in
        stamps_most (length log) (length (log ++ e ∷ [])) es (omega arith) known

    judged_further : (more : List Entry) → Every (λ e. e.stamp ≤ length log) es → Every (IsJudged log) es → Every (IsJudged (log ++ more)) es
    judged_further more known judged =
        Every-map (λ e. (e.stamp ≤ length log) × IsJudged log e) (IsJudged (log ++ more))
        (λ e h other. h.1 other ∙ ap (λ xs. reply (submissions xs) e.call) (sym (take-append-le e.stamp log more h.0))) es
        (Every-paired (λ e. e.stamp ≤ length log) (IsJudged log) es known judged)

    pub no_entries : (n : ℕ) → of_caller c log ≡ [] → IsListWithin log n c []
    no_entries n none = (record { named = tt; told = sym none; known = tt; judged = tt; rising = tt }, tt)

    -- it is the list by what that pass has observed, too
    pub within-seen :
        (started : ℕ) (seen : List Entry) → IsObserved reply started log → IsPrefix seen log → IsListWithin log (length seen) c es
        → IsListOf reply seen c es
    within-seen started seen observed begins h = record {
      named = h.0.named;
      told = parts ∙ (ap (λ xs. of_caller c seen ++ xs) none_later ∙ append-nil (of_caller c seen));
      known = h.1;
      judged = Every-map Both (IsJudged seen) judged_now es (Every-paired (λ e. e.stamp ≤ length seen) (IsJudged log) es h.1 h.0.judged);
      rising = h.0.rising;
    }
      where
        parts : accepting es ≡ of_caller c seen ++ of_caller c begins.0
        parts = h.0.told ∙ (ap (of_caller c) (sym begins.1) ∙ filter-append (λ e. e.caller == c) seen begins.0)

        none_later : of_caller c begins.0 ≡ []
        none_later =
            let low = subst (Every (λ (e : Entry). e.stamp ≤ length seen)) parts (Every-filter (λ (e : Entry). e.stamp ≤ length seen) accepts es h.1) in
            let places = AreNumbered-observed reply started log seen begins.0 observed begins.1 in
            let high = Every-filter (λ (e : Entry). length seen < e.stamp) (λ e. e.caller == c) begins.0 (AreNumbered-above (length seen) begins.0 places) in
            none_from_both (λ (e : Entry). e.stamp ≤ length seen) (λ e. length seen < e.stamp) (of_caller c begins.0) (λ e le lt. omega (arith, le, lt))
            (Every-right (λ (e : Entry). e.stamp ≤ length seen) (of_caller c seen) (of_caller c begins.0) low) high

        Both : Entry → Type 0
        Both e = (e.stamp ≤ length seen) × IsJudged log e

        judged_now : (e : Entry) → Both e → IsJudged seen e
        judged_now e h other =
            let same = ap (take e.stamp) (sym begins.1) ∙ take-append-le e.stamp seen begins.0 h.0 in
            h.1 other ∙ ap (λ xs. reply (submissions xs) e.call) same

    -- after an accepting entry of another caller
    pub keeps-other : (n : ℕ) (e : Entry) → e.caller ≢ c → IsListWithin log n c es → IsListWithin (log ++ e ∷ []) n c es
    keeps-other n e apart h = (
      record {
        named = h.0.named;
        told =
            h.0.told ∙ sym (filter-append (λ e. e.caller == c) log (e ∷ [])
            ∙ (ap (λ xs. of_caller c log ++ xs) (filter-skip (λ e. e.caller == c) e [] (ne_eqb e.caller c apart)) ∙ append-nil (of_caller c log)));
        known = known_further e h.0.known;
        judged = judged_further (e ∷ []) h.0.known h.0.judged;
        rising = h.0.rising;
      },
      h.1,
    )

    -- after an accepting entry of its own caller
    pub adds-accepting :
        (n : ℕ) (e : Entry) → accepts e ≡ true → e.caller ≡ c → e.stamp ≡ length log + 1 → IsListWithin log n c es
        → IsListWithin (log ++ e ∷ []) (length (log ++ e ∷ [])) c (es ++ e ∷ [])
    adds-accepting n e accepted mine stamped h =
        let long = length-append log (e ∷ []) in
        let most = Every-append (λ (d : Entry). d.stamp ≤ length (log ++ e ∷ [])) es (e ∷ []) (known_further e h.0.known) (omega arith, tt) in (
          record {
            named = Every-append (λ (e : Entry). e.caller ≡ c) es (e ∷ []) h.0.named (mine, tt);
            told =
                filter-append accepts es (e ∷ [])
                ∙ (ap₂ (λ xs ys. xs ++ ys) h.0.told (filter-keep accepts e [] accepted ∙ sym (filter-keep (λ e. e.caller == c) e [] (eq-eqb e.caller c mine)))
                ∙ sym (filter-append (λ e. e.caller == c) log (e ∷ [])));
            known = most;
            judged = Every-append (IsJudged (log ++ e ∷ [])) es (e ∷ []) (judged_further (e ∷ []) h.0.known h.0.judged) ((λ other. cc), tt);
            rising = IsRising-append (length log) es e h.0.rising h.0.known (let one = ap one_if accepted in omega (arith, stamped));
          },
          most,
        )

    -- after an entry of its own caller that is not accepting, made after as much of the longest list as its stamp says
    pub adds-other :
        (n : ℕ) (e : Entry) → accepts e ≡ false → e.caller ≡ c → n ≤ e.stamp → e.stamp ≤ length log
        → e.reply ≡ reply (submissions (take e.stamp log)) e.call → IsListWithin log n c es → IsListWithin log e.stamp c (es ++ e ∷ [])
    adds-other n e other mine further most right h = (
      record {
        named = Every-append (λ (e : Entry). e.caller ≡ c) es (e ∷ []) h.0.named (mine, tt);
        told =
            filter-append accepts es (e ∷ [])
            ∙ (ap (λ xs. accepting es ++ xs) (filter-skip accepts e [] other) ∙ (append-nil (accepting es) ∙ h.0.told));
        known = Every-append (λ (e : Entry). e.stamp ≤ length log) es (e ∷ []) h.0.known (most, tt);
        judged = Every-append (IsJudged log) es (e ∷ []) h.0.judged ((λ _. right), tt);
        rising = IsRising-append n es e h.0.rising h.1 (let none = ap one_if other in omega (arith, further));
      },
      Every-append (λ (d : Entry). d.stamp ≤ e.stamp) es (e ∷ []) (stamps_most n e.stamp es further h.1) (omega arith, tt),
    )

    -- where the pass has observed more
    pub grows-observed : (n m : ℕ) → n ≤ m → IsListWithin log n c es → IsListWithin log m c es
    grows-observed n m further h = (h.0, stamps_most n m es further h.1)
