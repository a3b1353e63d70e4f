-- What a pass knew it still knows, and its last pin stays.
use Rattle.std.proofs.Common.{◌≡◌, ℕ, ◌+◌, ◌<◌, Bool, List, [], ◌∷◌, ◌++◌, length, sym, ap, subst, ◌∙◌, append-nil, length-append}
use Rattle.era_core.specs.declared.sizes.TheConstants.{ROOT_ROWS}
use Rattle.era_core.specs.Words.{root_word}
use Rattle.era_core.specs.Versions.{Copy}
use Rattle.era_core.proofs.ListFacts.{at_end}
use Rattle.era_core.proofs.Publishes.{root_word-version}
use Rattle.era_rows.specs.Known.{Known, Look}
use Rattle.era_rows.specs.Lists.{IsPrefix}
use Rattle.era_rows.specs.Passes.{HasRead, PinsVersion}
use Rattle.era_rows.specs.declared.views.Knows.{Knows}
use Rattle.era_rows.proofs.Logs.{prefix_more}
use Rattle.era_rows.proofs.Seats.{prefix_at}
use Rattle.era_one_row.specs.Ready.{GoesOn, HasPinned}
use lib.ListN.{get_elem?}

-- what begins the beginning of a list begins the list
pub begins_twice : {A : Type 0} (xs ys zs : List A) → IsPrefix xs ys → IsPrefix ys zs → IsPrefix xs zs
begins_twice xs ys zs first second = subst (IsPrefix xs) second.1 (prefix_more xs ys second.0 first)

-- two calls in turn, and a call that found these words and retired these batches
pub goes_twice : (k l m : Known) → GoesOn k l → GoesOn l m → GoesOn k m
goes_twice k l m first second = record {
  looked = begins_twice k.looks l.looks m.looks first.looked second.looked;
  kept = begins_twice k.core.retired l.core.retired m.core.retired first.kept second.kept;
}

-- what is known of the looks and of the batches is all that counts
pub goes_as : (k l m : Known) → GoesOn k l → m.looks ≡ l.looks → m.core.retired ≡ l.core.retired → GoesOn k m
goes_as k l m on looks retired = record {
  looked = subst (IsPrefix k.looks) (sym looks) on.looked;
  kept = subst (IsPrefix k.core.retired) (sym retired) on.kept;
}

-- reads go on
pub read_goes : (k l : Known) → HasRead k l → GoesOn k l
read_goes k l read = record {
  looked = (read.more, sym (ap (λ (x : Known). x.looks) read.now));
  kept = ([], append-nil k.core.retired ∙ sym (ap (λ (x : Known). x.core.retired) read.now));
}

-- the last pin stays where a call finds more and pins nothing
pub pin_stays : (n : ℕ) (k l m : Known) → HasPinned n k l → IsPrefix l.looks m.looks → m.since ≡ l.since → HasPinned n k m
pin_stays n k l m pinned looked same = record {
  word = pinned.word;
  version = pinned.version;
  first = same ∙ pinned.first;
  found = ap (get_elem? m.looks) same ∙ prefix_at l.looks m.looks l.since (0, pinned.word) looked pinned.found;
}

module _ {E : Type 0} (caller stamp : E → ℕ) (accepted : ℕ → E → Bool) (lawful : ℕ → Copy → Type 0) (stands : ℕ → Copy → List E → Type 0) (right : ℕ → E → List E → Type 0)
    (n p : ℕ) (low : p < ROOT_ROWS) (before after : Knows E) (pins : PinsVersion caller stamp accepted lawful stands right n p before after) where
  -- a pin is one of this call
  pub pin_was_now : HasPinned n before.view after.view
  pin_was_now =
      let noted : List Look = before.view.looks ++ (0, pins.0) ∷ [] in
      let since : after.view.since ≡ length noted = ap (λ (k : Known). k.since) pins.1.view_is in
      let long : length noted ≡ length before.view.looks + 1 = length-append before.view.looks ((0, pins.0) ∷ []) in
      record {
        word = root_word n p;
        version = root_word-version n p low;
        first = since ∙ long;
        found = ap (get_elem? after.view.looks) since ∙ ap (λ (k : Known). get_elem? k.looks (length noted)) pins.1.view_is ∙ at_end noted (0, root_word n p);
      }
