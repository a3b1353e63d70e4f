-- A history that has reached an observed prefix: its accepting entries are those of the prefix, and its members too.
use Rattle.std.proofs.Common.{◌≡◌, ℕ, ◌+◌, true, false, List, [], ◌∷◌, ◌++◌, length, ap, ap₂, sym, subst, ◌∙◌, append_assoc, arith}
use Rattle.std.proofs.lemmas.List.{append-nil}
use Rattle.std.proofs.lemmas.List.Elements.{filter-append}
use Rattle.pls_archive.specs.declared.point.Point.{Point}
use Rattle.pls_archive.specs.declared.call.Call.{Call}
use Rattle.pls_archive.specs.declared.call.Reply.{Reply}
use Rattle.pls_archive.specs.declared.call.Entry.{Entry}
use Rattle.pls_archive.specs.Lists.{Every, one_if}
use Rattle.pls_archive.specs.Rule.{IsRule, submitted_by, is_accepting}
use Rattle.pls_archive.specs.History.{submissions, accepts, accepting, next_entry, IsLegal}
use Rattle.pls_archive.proofs.Every.{filter-keep, filter-skip}
use Rattle.pls_archive.proofs.Histories.{submissions-append}
use Rattle.pls_archive.proofs.SequentialCalls.{ContinuesLegally-append}

-- an entry that is not accepting, with the stamp and the reply that are right after this prefix
abbrev pub IsUnaccepted : (List Point → Call → Reply) → List Entry → Entry → Type 0
IsUnaccepted reply before e = (accepts e ≡ false) × (e.stamp ≡ length before) × (e.reply ≡ reply (submissions before) e.call)

pub record IsReached (front : List Point → List Point) (reply : List Point → Call → Reply) (before history : List Entry) : Type 0 where
  pub accepted : accepting history ≡ before
  pub same : front (submissions history) ≡ front (submissions before)
  pub legal : IsLegal reply history

module _ (front : List Point → List Point) (reply : List Point → Call → Reply) (rule : IsRule front reply) where
  -- lists with the same members keep the same members, whatever is submitted to both, and have the same replies
  front-more : (xs ys zs : List Point) → front xs ≡ front ys → front (xs ++ zs) ≡ front (ys ++ zs)
  front-more xs ys [] e = ap front (append-nil xs) ∙ (e ∙ sym (ap front (append-nil ys)))
  front-more xs ys (z ∷ zs) e =
      let one = rule.grows xs z ∙ (ap (λ f. front (f ++ z ∷ [])) e ∙ sym (rule.grows ys z)) in
      let rest = front-more (xs ++ z ∷ []) (ys ++ z ∷ []) zs one in
      sym (ap front (append_assoc xs (z ∷ []) zs)) ∙ (rest ∙ ap front (append_assoc ys (z ∷ []) zs))

  reply-same : (xs ys : List Point) (call : Call) → front xs ≡ front ys → reply xs call ≡ reply ys call
  reply-same xs ys call e = rule.replies_from_members xs call ∙ (ap (λ f. reply f call) e ∙ sym (rule.replies_from_members ys call))

  module _ (before history : List Entry) (reached : IsReached front reply before history) where
    submissions-one : (xs : List Entry) (e : Entry) → submissions (xs ++ e ∷ []) ≡ submissions xs ++ submitted_by e.call
    submissions-one xs e = submissions-append xs (e ∷ []) ∙ ap (λ points. submissions xs ++ points) (append-nil (submitted_by e.call))

    -- an entry with its due reply, and the stamp that is due after the prefix, is the next one of the history
    is_next :
        (e : Entry) → e.reply ≡ reply (submissions before) e.call → e.stamp ≡ length before + one_if (accepts e)
        → e ≡ next_entry reply e.caller history e.call
    is_next e right stamped =
        let answered = right ∙ sym (reply-same (submissions history) (submissions before) e.call reached.same) in
        let counted = stamped ∙ ap₂ (λ (es : List Entry) answer. length es + one_if (is_accepting e.call answer)) (sym reached.accepted) answered in
        ap₂ (entry e) counted answered
      where
        entry : Entry → ℕ → Reply → Entry
        entry e stamp answer = record { caller = e.caller; stamp = stamp; call = e.call; reply = answer }

    -- an entry that is not accepting leaves it there
    pub reached-unaccepted : (e : Entry) → IsUnaccepted reply before e → IsReached front reply before (history ++ e ∷ [])
    reached-unaccepted e h =
        let answered = reply-same (submissions history) (submissions before) e.call reached.same ∙ sym h.2 in
        let other = ap (is_accepting e.call) answered ∙ h.0 in
        record {
          accepted =
              filter-append accepts history (e ∷ [])
              ∙ (ap (λ l. accepting history ++ l) (filter-skip accepts e [] h.0) ∙ (append-nil (accepting history) ∙ reached.accepted));
          same = ap front (submissions-one history e) ∙ (rule.unaccepting (submissions history) e.call other ∙ reached.same);
          legal = ContinuesLegally-append reply [] history (e ∷ []) reached.legal (is_next e h.2 stamped, tt);
        }
      where
        stamped : e.stamp ≡ length before + one_if (accepts e)
        stamped = let none = ap one_if h.0 in omega (arith, h.1)

    -- the accepting entry that comes next in the prefix takes it one further
    pub reached-accepting :
        (e : Entry) → accepts e ≡ true → e.stamp ≡ length before + 1 → e.reply ≡ reply (submissions before) e.call
        → IsReached front reply (before ++ e ∷ []) (history ++ e ∷ [])
    reached-accepting e accepted stamp right =
        let further = front-more (submissions history) (submissions before) (submitted_by e.call) reached.same in
        record {
          accepted =
              filter-append accepts history (e ∷ []) ∙ ap₂ (λ xs ys. xs ++ ys) reached.accepted (filter-keep accepts e [] accepted);
          same = ap front (submissions-one history e) ∙ (further ∙ sym (ap front (submissions-one before e)));
          legal = ContinuesLegally-append reply [] history (e ∷ []) reached.legal (is_next e right stamped, tt);
        }
      where
        stamped : e.stamp ≡ length before + one_if (accepts e)
        stamped = let one = ap one_if accepted in omega (arith, stamp)

  -- and so do entries that are not accepting, one after another
  pub reached-all_unaccepted :
      (before history es : List Entry) → IsReached front reply before history → Every (IsUnaccepted reply before) es
      → IsReached front reply before (history ++ es)
  reached-all_unaccepted before history [] reached h = subst (IsReached front reply before) (sym (append-nil history)) reached
  reached-all_unaccepted before history (e ∷ es) reached h =
      subst (IsReached front reply before) (append_assoc history (e ∷ []) es)
      (reached-all_unaccepted before (history ++ e ∷ []) es (reached-unaccepted before history reached e h.0) h.1)
