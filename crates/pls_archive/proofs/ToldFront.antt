-- The last reply of a search run is the members after all submissions: what stands after it in the serialization brings nothing in.
use Rattle.std.proofs.Common.{◌≡◌, List, [], ◌∷◌, map, refl, ap, sym, ◌∙◌, arith, inl}
use Rattle.pls_archive.specs.declared.point.Point.{Point}
use Rattle.pls_archive.specs.declared.call.Call.{Call}
use Rattle.pls_archive.specs.declared.call.Call.TheVariants.{Snapshot}
use Rattle.pls_archive.specs.declared.call.Reply.{Reply}
use Rattle.pls_archive.specs.declared.call.Reply.TheVariants.{Points}
use Rattle.pls_archive.specs.declared.call.Entry.{Entry}
use Rattle.pls_archive.specs.Lists.{In, how_many, one_if}
use Rattle.pls_archive.specs.Rule.{IsRule}
use Rattle.pls_archive.specs.Reply.{in_order}
use Rattle.pls_archive.specs.History.{submissions, accepts, IsLegal}
use Rattle.pls_archive.specs.Explorations.{entries_of_run}
use Rattle.pls_archive.specs.RunLaws.{TellsFront}
use Rattle.pls_archive.proofs.Counted.{counted_up_to}
use Rattle.pls_archive.proofs.Every.{total-append, length-filter}
use Rattle.pls_archive.proofs.LegalEntries.{IsPlaced, placed, reply-placed, stamp-placed, front-all_unaccepted}
use Rattle.pls_archive.proofs.SerializedEntries.{serialized, snapshot-In}

module _
    (front : List Point → List Point) (reply : List Point → Call → Reply) (rule : IsRule front reply)
    (history : List Entry) (legal : IsLegal reply history)
  where
    -- a snapshot whose stamp counts all accepting entries shows the members after all submissions
    snapshot-front :
        (e : Entry) → In e history → e.call ≡ Snapshot → e.stamp ≡ how_many accepts history
        → e.reply ≡ Points (in_order (front (submissions history)))
    snapshot-front e there asks all =
        let at = placed reply [] history legal e there in
        reply-placed reply history e Snapshot asks at
        ∙ (rule.snapshot (submissions at.before)
        ∙ ap (λ (points : List Point). Points (in_order points)) (sym (same at)))
      where
        same : (at : IsPlaced reply history e) → front (submissions history) ≡ front (submissions at.before)
        same at =
            ap (λ (es : List Entry). front (submissions es)) at.is
            ∙ front-all_unaccepted front reply rule at.before (e ∷ at.after) at.legal
            (let stamp = stamp-placed reply history e Snapshot asks at (λ answer. refl) in
            let before = length-filter accepts at.before in
            let whole = ap (how_many accepts) at.is in
            let parts = total-append (λ d. one_if (accepts d)) at.before (e ∷ at.after) in
            omega arith)

pub tells_front :
    (front : List Point → List Point) (reply : List Point → Call → Reply) (neighbours : Point → List Point)
    → TellsFront front reply neighbours
tells_front front reply neighbours rule starts moves n first others run =
    let runs = first ∷ others in
    let all = counted_up_to reply n (map entries_of_run runs) run.consistent n (omega arith) in
    snapshot-front front reply rule (serialized n runs) run.consistent.legal run.asks_last.entry
    (snapshot-In reply n runs run.consistent first (inl refl) run.asks_last) run.asks_last.asks (run.asks_last.stamped ∙ sym all)
