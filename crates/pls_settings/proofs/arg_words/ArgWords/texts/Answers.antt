use Rattle.std.proofs.Common.{◌≡◌, ◌-◌, get_or, take, drop}
use Rattle.std.proofs.lemmas.Result.{MatchResult-at_ok}
use Rattle.pls_settings.proofs.Pieces.{ends_within, is_ok-unless, next, pieces-more}
use Rattle.pls_settings.proofs.arg_words.ArgWords.texts.Goals as goal

pub slice_bounds-from_utf8-end : goal.slice_bounds-from_utf8-end
slice_bounds-from_utf8-end c =
    let n = next _ _ _ _ _ c.deref-end-items.ensures.value c.loop-end-test.true c.loop-end.invariant.left in
    rw (c.deref.ensures.value) (ends_within _ _ _ n.left)

pub unwrap-text-requires : goal.unwrap-text-requires
unwrap-text-requires c =
    let n = next _ _ _ _ _ c.deref-end-items.ensures.value c.loop-end-test.true c.loop-end.invariant.left in
    is_ok-unless c.from_utf8.result _ _ c.from_utf8.ensures.cases (λ e no. no.0 (rw (c.deref.ensures.value) n.utf8))

pub loop-end-preserved : goal.loop-end-preserved
loop-end-preserved c =
    let n = next _ _ _ _ _ c.deref-end-items.ensures.value c.loop-end-test.true c.loop-end.invariant.left in
    let is = MatchResult-at_ok _ _ _ c.unwrap-text.ensures c.from_utf8.ensures.cases in
    let read : c.unwrap-text.result.now ≡ take (get_or c.deref-end-items.result.now c.loop-end.end-index 0 - c.loop-end.from) (drop c.loop-end.from c.self.inside.text.items) =
    rw (← c.deref.ensures.value) is.0 in
    record {
      done = pieces-more _ _ _ c.loop-end.texts.items _ c.unwrap-text.result _ c.loop-end.invariant.done n.pieces
          read c.in_ok-push.ensures.items;
      left = n.left;
    }
