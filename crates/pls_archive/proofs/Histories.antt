-- The submissions and the accepted points of a history with one more call.
use Rattle.std.proofs.Common.{◌≡◌, ℕ, ℤ, List, [], ◌∷◌, ◌++◌, ap, ◌∙◌}
use Rattle.std.proofs.lemmas.List.{append-nil}
use Rattle.std.proofs.lemmas.List.Concat.{flat_map-append}
use Rattle.pls_archive.specs.declared.point.Point.{Point}
use Rattle.pls_archive.specs.declared.call.Call.{Call}
use Rattle.pls_archive.specs.declared.call.Call.TheVariants.{Update, Covered, Member, Snapshot}
use Rattle.pls_archive.specs.declared.call.Reply.{Reply}
use Rattle.pls_archive.specs.declared.call.Reply.TheVariants.{Added, Refused}
use Rattle.pls_archive.specs.declared.call.Entry.{Entry}
use Rattle.pls_archive.specs.Rule.{submitted_by, accepted_by}
use Rattle.pls_archive.specs.History.{submissions, accepted, next_entry, with_call}

-- of two histories, one after the other
pub submissions-append : (xs ys : List Entry) → submissions (xs ++ ys) ≡ submissions xs ++ submissions ys
submissions-append xs ys = flat_map-append (λ e. submitted_by e.call) xs ys

pub accepted-append : (xs ys : List Entry) → accepted (xs ++ ys) ≡ accepted xs ++ accepted ys
accepted-append xs ys = flat_map-append (λ e. accepted_by e.call e.reply) xs ys

-- of one more call, whatever the rule of replies
module _ (reply : List Point → Call → Reply) (caller : ℕ) (history : List Entry) where
  pub submissions-with_call :
      (call : Call) → submissions (with_call reply caller history call) ≡ submissions history ++ submitted_by call
  submissions-with_call call =
      submissions-append history (next_entry reply caller history call ∷ [])
      ∙ ap (λ points. submissions history ++ points) (append-nil (submitted_by call))

  pub accepted-with_call :
      (call : Call)
      → accepted (with_call reply caller history call) ≡ accepted history ++ accepted_by call (reply (submissions history) call)
  accepted-with_call call =
      accepted-append history (next_entry reply caller history call ∷ [])
      ∙ ap (λ points. accepted history ++ points) (append-nil (accepted_by call (reply (submissions history) call)))

  -- an update submits its point
  pub submissions-with_update : (p : Point) → submissions (with_call reply caller history (Update p)) ≡ submissions history ++ p ∷ []
  submissions-with_update p = submissions-with_call (Update p)

  pub accepted-with_added :
      (p : Point) (removed : ℕ) → reply (submissions history) (Update p) ≡ Added removed
      → accepted (with_call reply caller history (Update p)) ≡ accepted history ++ p ∷ []
  accepted-with_added p removed e =
      accepted-with_call (Update p) ∙ ap (λ answer. accepted history ++ accepted_by (Update p) answer) e

  pub accepted-with_refused :
      (p : Point) → reply (submissions history) (Update p) ≡ Refused
      → accepted (with_call reply caller history (Update p)) ≡ accepted history
  accepted-with_refused p e =
      accepted-with_call (Update p)
      ∙ (ap (λ answer. accepted history ++ accepted_by (Update p) answer) e ∙ append-nil (accepted history))

  -- the other calls submit nothing, and bring nothing in
  pub submissions-with_covered : (v : List ℤ) → submissions (with_call reply caller history (Covered v)) ≡ submissions history
  submissions-with_covered v = submissions-with_call (Covered v) ∙ append-nil (submissions history)

  pub accepted-with_covered : (v : List ℤ) → accepted (with_call reply caller history (Covered v)) ≡ accepted history
  accepted-with_covered v = accepted-with_call (Covered v) ∙ append-nil (accepted history)

  pub submissions-with_member : (v : List ℤ) → submissions (with_call reply caller history (Member v)) ≡ submissions history
  submissions-with_member v = submissions-with_call (Member v) ∙ append-nil (submissions history)

  pub accepted-with_member : (v : List ℤ) → accepted (with_call reply caller history (Member v)) ≡ accepted history
  accepted-with_member v = accepted-with_call (Member v) ∙ append-nil (accepted history)

  pub submissions-with_snapshot : submissions (with_call reply caller history Snapshot) ≡ submissions history
  submissions-with_snapshot = submissions-with_call Snapshot ∙ append-nil (submissions history)

  pub accepted-with_snapshot : accepted (with_call reply caller history Snapshot) ≡ accepted history
  accepted-with_snapshot = accepted-with_call Snapshot ∙ append-nil (accepted history)
