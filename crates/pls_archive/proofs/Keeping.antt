-- An archive that has the longest list of accepting entries keeps the view of each pass in agreement with it, through each call.
-- Agreement says that the view is consistent, and, of two views that are joined, that the joined one is.
use Rattle.std.proofs.Common.{◌≡◌, ◌≢◌, ℕ, ◌+◌, ◌<◌, ◌≤◌, Bool, true, false, nat_le, if◌then◌else◌, List, [], ◌∷◌, ◌++◌, length, take, refl, ap, ap₂, sym, subst, ◌∙◌, arith, length-append, append-nil, append_assoc}
use Rattle.std.proofs.lemmas.Bool.{leb-true, leb-false}
use Rattle.std.proofs.lemmas.List.{take-append-le, take_all}
use Rattle.pls_archive.specs.declared.point.Point.{Point}
use Rattle.pls_archive.specs.declared.call.Call.{Call}
use Rattle.pls_archive.specs.declared.call.Reply.{Reply}
use Rattle.pls_archive.specs.declared.call.Entry.{Entry}
use Rattle.pls_archive.specs.Lists.{Every, IsPrefix}
use Rattle.pls_archive.specs.Rule.{is_accepting}
use Rattle.pls_archive.specs.History.{submissions, accepts}
use Rattle.pls_archive.specs.View.{View, new_view, lists_of, of_caller, IsObserved, IsListOf, IsConsistent, ObservesWith, Joins}
use Rattle.pls_archive.specs.SharedCalls.{Answers, IsRefused}
use Rattle.pls_archive.proofs.Every.{Every-map, Every-append}
use Rattle.pls_archive.proofs.ViewsFilters.{Every-paired}
use Rattle.pls_archive.proofs.KeepingLists.{length-prefix, IsObserved-prefix, IsObserved-more, IsListWithin, no_entries, within-seen, keeps-other, adds-accepting, adds-other, grows-observed}

-- none of the lists is that caller's
abbrev pub HoldsNoneOf : ℕ → List (ℕ × List Entry) → Type 0
HoldsNoneOf c lists = Every (λ (list : ℕ × List Entry). list.0 ≢ c) lists

-- the view after a call with this entry, and after a call that was refused, with so much observed
abbrev pub with_entry : View → List Entry → Entry → View
with_entry v seen e = record { number = v.number; observed = seen; own = v.own ++ e ∷ []; others = v.others }

abbrev pub with_seen : View → List Entry → View
with_seen v seen = record { number = v.number; observed = seen; own = v.own; others = v.others }

-- the view of two passes, one joined into the other
abbrev pub joined : View → View → View
joined v w =
    record {
      number = v.number;
      observed = if nat_le (length w.observed) (length v.observed) then v.observed else w.observed;
      own = v.own;
      others = v.others ++ lists_of w;
    }

joined-only : (v w after : View) → Joins v w after → after ≡ joined v w
joined-only v w after h =
    ap₂ (λ n s. record { number = n; observed = s; own = after.own; others = after.others }) h.number h.observed
    ∙ ap₂ (λ o t. record (joined v w) { own = o; others = t }) h.own h.others

module _ (reply : List Point → Call → Reply) where
  -- a pass has observed a beginning of the longest list, and what it holds are lists by what it has observed
  pub record AgreesWith (log : List Entry) (v : View) : Type 0 where
    pub observed : IsPrefix v.observed log
    pub lists : Every (λ (list : ℕ × List Entry). IsListWithin reply log (length v.observed) list.0 list.1) (lists_of v)

  -- the longest list with nothing behind it
  whole : (log : List Entry) → IsPrefix log log
  whole log = ([], append-nil log)

  pub AgreesWith-new : (log : List Entry) (number : ℕ) → of_caller number log ≡ [] → AgreesWith log (new_view number)
  AgreesWith-new log number none = record { observed = (log, refl); lists = (no_entries reply log number [] 0 none, tt) }

  module _ (log : List Entry) (v : View) (agrees : AgreesWith log v) where
    pub AgreesWith-consistent : (started : ℕ) → IsObserved reply started log → IsConsistent reply started v
    AgreesWith-consistent started observed = record {
      observed = IsObserved-prefix reply started v.observed log agrees.observed observed;
      lists =
          Every-map (λ (list : ℕ × List Entry). IsListWithin reply log (length v.observed) list.0 list.1)
          (λ (list : ℕ × List Entry). IsListOf reply v.observed list.0 list.1)
          (λ list. within-seen reply log list.0 list.1 started v.observed observed agrees.observed) (lists_of v) agrees.lists;
    }

    -- lists of other callers than the entry's stay as they are
    others_kept :
        (e : Entry) (lists : List (ℕ × List Entry)) → HoldsNoneOf e.caller lists
        → Every (λ (list : ℕ × List Entry). IsListWithin reply log (length v.observed) list.0 list.1) lists
        → Every (λ (list : ℕ × List Entry). IsListWithin reply (log ++ e ∷ []) (length v.observed) list.0 list.1) lists
    others_kept e lists apart each =
        Every-map (λ (list : ℕ × List Entry). (list.0 ≢ e.caller) × IsListWithin reply log (length v.observed) list.0 list.1)
        (λ (list : ℕ × List Entry). IsListWithin reply (log ++ e ∷ []) (length v.observed) list.0 list.1)
        (λ list h. keeps-other reply log list.0 list.1 (length v.observed) e (λ same. h.0 (sym same)) h.1) lists
        (Every-paired (λ (list : ℕ × List Entry). list.0 ≢ e.caller) (λ (list : ℕ × List Entry). IsListWithin reply log (length v.observed) list.0 list.1) lists apart each)

    -- lists stay so where more is observed
    lists_grown :
        (more : List Entry) (n : ℕ) (lists : List (ℕ × List Entry)) → length v.observed ≤ n
        → Every (λ (list : ℕ × List Entry). IsListWithin reply more (length v.observed) list.0 list.1) lists
        → Every (λ (list : ℕ × List Entry). IsListWithin reply more n list.0 list.1) lists
    lists_grown more n lists further each =
        Every-map (λ (list : ℕ × List Entry). IsListWithin reply more (length v.observed) list.0 list.1)
        (λ (list : ℕ × List Entry). IsListWithin reply more n list.0 list.1)
        (λ list. grows-observed reply more list.0 list.1 (length v.observed) n further) lists each

    -- after an accepting entry of a caller whose list it does not hold
    pub AgreesWith-other : (e : Entry) → HoldsNoneOf e.caller (lists_of v) → AgreesWith (log ++ e ∷ []) v
    AgreesWith-other e apart = record {
      observed = (agrees.observed.0 ++ e ∷ [], sym (append_assoc v.observed agrees.observed.0 (e ∷ [])) ∙ ap (λ xs. xs ++ e ∷ []) agrees.observed.1);
      lists = others_kept e (lists_of v) apart agrees.lists;
    }

    -- after an accepting entry of its own
    pub AgreesWith-accepting :
        (e : Entry) → accepts e ≡ true → e.caller ≡ v.number → e.stamp ≡ length log + 1 → HoldsNoneOf e.caller v.others
        → AgreesWith (log ++ e ∷ []) (with_entry v (log ++ e ∷ []) e)
    AgreesWith-accepting e accepted mine stamped apart =
        let long = length-append log (e ∷ []) in
        let below = length-prefix v.observed log agrees.observed in
        record {
          observed = whole (log ++ e ∷ []);
          lists = (
            adds-accepting reply log v.number v.own (length v.observed) e accepted mine stamped agrees.lists.0,
            lists_grown (log ++ e ∷ []) (length (log ++ e ∷ [])) v.others (omega arith) (others_kept e v.others apart agrees.lists.1),
          );
        }

    module _ (seen : List Entry) (further : IsPrefix v.observed seen) (within : IsPrefix seen log) where
      -- after an entry of its own that is not accepting
      pub AgreesWith-unaccepted :
          (e : Entry) → accepts e ≡ false → e.caller ≡ v.number → e.stamp ≡ length seen → e.reply ≡ reply (submissions seen) e.call
          → AgreesWith log (with_entry v seen e)
      AgreesWith-unaccepted e other mine stamped right =
          let low = length-prefix v.observed seen further in
          let high = length-prefix seen log within in
          let due = right ∙ ap (λ xs. reply (submissions xs) e.call) (sym taken) in
          let own = adds-other reply log v.number v.own (length v.observed) e other mine (omega arith) (omega arith) due agrees.lists.0 in
          record {
            observed = within;
            lists = (subst (λ n. IsListWithin reply log n v.number (v.own ++ e ∷ [])) stamped own, lists_grown log (length seen) v.others low agrees.lists.1);
          }
        where
          taken : take e.stamp log ≡ seen
          taken =
              ap₂ take stamped (sym within.1)
              ∙ (take-append-le (length seen) seen within.0 (omega arith) ∙ take_all (length seen) seen (omega arith))

      -- after a call that was refused
      pub AgreesWith-further : AgreesWith log (with_seen v seen)
      AgreesWith-further = record { observed = within; lists = lists_grown log (length seen) (lists_of v) (length-prefix v.observed seen further) agrees.lists }

  -- of one pass joined into another
  pub AgreesWith-joins : (log : List Entry) (v w after : View) → AgreesWith log v → AgreesWith log w → Joins v w after → AgreesWith log after
  AgreesWith-joins log v w after first second joins =
      subst (AgreesWith log) (sym (joined-only v w after joins)) (by_length (nat_le (length w.observed) (length v.observed)) refl)
    where
      both : (seen : List Entry) → IsPrefix seen log → length v.observed ≤ length seen → length w.observed ≤ length seen
          → AgreesWith log (record (joined v w) { observed = seen })
      both seen within longer_first longer_second = record {
        observed = within;
        lists =
            Every-append (λ (list : ℕ × List Entry). IsListWithin reply log (length seen) list.0 list.1) (lists_of v) (lists_of w)
            (lists_grown log v first log (length seen) (lists_of v) longer_first first.lists)
            (lists_grown log w second log (length seen) (lists_of w) longer_second second.lists);
      }

      by_length :
          (b : Bool) → nat_le (length w.observed) (length v.observed) ≡ b
          → AgreesWith log (record (joined v w) { observed = if b then v.observed else w.observed })
      by_length true e = both v.observed first.observed (omega arith) (leb-true (length w.observed) (length v.observed) e)
      by_length false e = let lt = leb-false (length w.observed) (length v.observed) e in both w.observed second.observed (omega arith) (omega arith)

  -- ---- so what the calls promise of the pass that makes them follows

  module _ (started : ℕ) (log : List Entry) (observed : IsObserved reply started log) (v : View) (agrees : AgreesWith log v) where
    module _ (call : Call) (answer : Reply) (stamp : ℕ) where
      -- the entry of a call with this answer and this stamp
      abbrev pub entry_of : Entry
      entry_of = record { caller = v.number; stamp = stamp; call = call; reply = answer }

      pub answers-accepting :
          is_accepting call answer ≡ true → v.number < started → stamp ≡ length log + 1 → answer ≡ reply (submissions log) call
          → HoldsNoneOf v.number v.others
          → Answers reply started v call answer stamp (with_entry v (log ++ entry_of ∷ []) entry_of)
      answers-accepting accepted begun stamped right apart =
          let after = AgreesWith-accepting log v agrees entry_of accepted refl stamped apart in
          let more = IsObserved-more reply started log entry_of observed accepted begun stamped right in
          record {
            extends = record {
              number = refl;
              names = refl;
              own = refl;
              others = refl;
              stamped = omega (arith, stamped, length-append log (entry_of ∷ []));
              observes =
                  subst (λ b. ObservesWith reply b v.observed entry_of (log ++ entry_of ∷ [])) (sym accepted)
                  (log, agrees.observed, refl, right);
            };
            consistent = AgreesWith-consistent (log ++ entry_of ∷ []) (with_entry v (log ++ entry_of ∷ []) entry_of) after started more;
          }

      pub answers-unaccepted :
          (seen : List Entry) → IsPrefix v.observed seen → IsPrefix seen log → is_accepting call answer ≡ false → stamp ≡ length seen
          → answer ≡ reply (submissions seen) call → Answers reply started v call answer stamp (with_entry v seen entry_of)
      answers-unaccepted seen further within other stamped right =
          let after = AgreesWith-unaccepted log v agrees seen further within entry_of other refl stamped right in
          record {
            extends = record {
              number = refl;
              names = refl;
              own = refl;
              others = refl;
              stamped = stamped;
              observes = subst (λ b. ObservesWith reply b v.observed entry_of seen) (sym other) (further, right);
            };
            consistent = AgreesWith-consistent log (with_entry v seen entry_of) after started observed;
          }

    pub refused-further : (seen : List Entry) → IsPrefix v.observed seen → IsPrefix seen log → IsRefused reply started v (with_seen v seen)
    refused-further seen further within = record {
      observes_more = record { number = refl; observed = further; own = refl; others = refl };
      consistent = AgreesWith-consistent log (with_seen v seen) (AgreesWith-further log v agrees seen further within) started observed;
    }

    -- and a joined view is consistent
    pub joins-consistent : (w after : View) → AgreesWith log w → Joins v w after → IsConsistent reply started after
    joins-consistent w after other joins = AgreesWith-consistent log after (AgreesWith-joins log v w after agrees other joins) started observed
