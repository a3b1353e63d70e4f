-- A scan, and after it a search that found each row taken, show that no row was free.
use Rattle.std.proofs.Common.{◌≡◌, ℕ, zero, suc, ◌+◌, ◌-◌, ◌<◌, ◌≤◌, ⊎_elim, min, Bool, true, false, cond, lt-ltb, le-ltb, Option, Some, None, List, [], ◌∷◌, ◌++◌, take, drop, length, refl, sym, ap, subst, ◌∙◌, arith, append_assoc, length-append}
use Rattle.std.specs.Prelude.{unwrap_or}
use Rattle.std.proofs.Math.Seq.{drop-append-add}
use Rattle.std.proofs.lemmas.Bool.{cases_lt, ltb-false, true≢false}
use Rattle.std.proofs.lemmas.List.{append-nil, drop-append-le, take-append-drop}
use Rattle.era_core.specs.Lists.{In}
use Rattle.era_core.specs.Views.{Batch, versions_of, rows_in, batch_of, held, lesser, clears}
use Rattle.era_core.proofs.ListFacts.{times-append, in_cases, in_head, in_tail}
use Rattle.era_rows.specs.Known.{Known, Look, Shortage, pinned_copy, shortage, recording}
use Rattle.era_rows.specs.Held.{IsAlone}
use Rattle.era_rows.specs.Lists.{IsPrefix}
use Rattle.era_rows.specs.Passes.{known_of, having_looked, looks_of, least_of, blocked, AreTaken, SearchesOrFull, Tidies}
use Rattle.era_rows.specs.Evidence.{Blocks, ShowsFull}
use Rattle.era_rows.specs.declared.pass.Pass.{Pass}
use Rattle.era_rows.specs.declared.law.Law.{Ghosts}
use Rattle.era_core.proofs.Room.{length-all}
use mathlib.Core.Option.{some, some-injective, some-ne-none}
use lib.ListN.{get_elem?}

-- a version that is not cleared by these reservations is one that the reservation of some pass blocks
abbrev NamesOne : ℕ → List ℕ → Type 0
NamesOne b ws = (j w : ℕ) × (get_elem? ws j ≡ some w) × (0 < w) × (w ≤ b + 1)

names_later : (b v : ℕ) (ws : List ℕ) → NamesOne b ws → NamesOne b (v ∷ ws)
names_later b v ws one = (suc one.0, one.1, one.2, one.3, one.4)

names_lesser : (b n : ℕ) (ws : List ℕ) (least : Option ℕ) → least_of ws ≡ least → (clears (least_of ws) b ≡ false → NamesOne b ws) → clears (lesser (Some n) least) b ≡ false → NamesOne b (suc n ∷ ws)
names_lesser b n ws None is later blocks = (0, suc n, refl, omega arith, (let le = ltb-false b n blocks in omega arith))
names_lesser b n ws (Some m) is later blocks =
    let le = ltb-false b (min n m) blocks in
    ⊎_elim
    (λ first. (0, suc n, refl, omega arith, omega arith))
    (λ other. names_later b (suc n) ws (later (ap (λ o. clears o b) is ∙ le-ltb b m (omega arith))))
    (cases_lt n (m + 1))

names_one : (ws : List ℕ) (b : ℕ) → clears (least_of ws) b ≡ false → NamesOne b ws
names_one [] b blocks = absurd (true≢false blocks)
names_one (zero ∷ ws) b blocks = names_later b 0 ws (names_one ws b blocks)
names_one (suc n ∷ ws) b blocks = names_lesser b n ws (least_of ws) refl (names_one ws b) blocks

-- what is blocked is some of what there was
abbrev IsKept : Option ℕ → List Batch → ℕ → Type 0
IsKept least batches b = In b (versions_of batches) × (clears least b ≡ false)

kept_later : (least : Option ℕ) (c : Batch) (cs : List Batch) (b : ℕ) → IsKept least cs b → IsKept least (c ∷ cs) b
kept_later least c cs b was = (in_tail b c.0 (versions_of cs) was.0, was.1)

kept_first : (least : Option ℕ) (c : Batch) (cs : List Batch) (b : ℕ) (rows : List ℕ) → clears least c.0 ≡ false → (In b (versions_of (blocked least cs)) → IsKept least (c ∷ cs) b)
    → In b (versions_of (batch_of c.0 rows ++ blocked least cs)) → IsKept least (c ∷ cs) b
kept_first least c cs b [] stays rest there = rest there
kept_first least c cs b (r ∷ rows) stays rest there =
    ⊎_elim
    (λ e. (subst (λ n. In n (c.0 ∷ versions_of cs)) (sym e) (in_head c.0 (versions_of cs)), ap (clears least) e ∙ stays))
    rest
    (in_cases b c.0 (versions_of (blocked least cs)) there)

kept_test : (least : Option ℕ) (c : Batch) (cs : List Batch) (b : ℕ) (t : Bool) → clears least c.0 ≡ t → (In b (versions_of (blocked least cs)) → IsKept least (c ∷ cs) b)
    → In b (versions_of (cond t [] (batch_of c.0 c.1) ++ blocked least cs)) → IsKept least (c ∷ cs) b
kept_test least c cs b true goes rest there = rest there
kept_test least c cs b false stays rest there = kept_first least c cs b c.1 stays rest there

kept : (least : Option ℕ) (batches : List Batch) (b : ℕ) → In b (versions_of (blocked least batches)) → IsKept least batches b
kept least [] b here = absurd (omega arith)
kept least (c ∷ cs) b here = kept_test least c cs b (clears least c.0) refl (λ later. kept_later least c cs b (kept least cs b later)) here

pub blocked-some : (least : Option ℕ) (batches : List Batch) (b : ℕ) → In b (versions_of (blocked least batches)) → In b (versions_of batches)
blocked-some least batches b here = (kept least batches b here).0

-- where each batch is cleared, none is left
none_blocked : (least : Option ℕ) (batches : List Batch) → ((b : ℕ) → In b (versions_of batches) → clears least b ≡ true) → blocked least batches ≡ []
none_blocked least [] cleared = refl
none_blocked least (c ∷ cs) cleared =
    ap (λ t. cond t [] (batch_of c.0 c.1) ++ blocked least cs) (cleared c.0 (in_head c.0 (versions_of cs)))
    ∙ none_blocked least cs (λ b here. cleared b (in_tail b c.0 (versions_of cs) here))

-- the batches of the pass are so old that its own reservation blocks none
abbrev pub AreOlder : Known → Type 0
AreOlder k = (b : ℕ) → In b (versions_of k.core.retired) → b + 1 < k.reserves

-- what a pass knows after a scan that found these words, and then looks at owners
abbrev pub scanned : List ℕ → List Look → Known → Known
scanned words owners k =
    having_looked owners
    (record k {
      core = record k.core { retired = blocked (least_of words) k.core.retired; scanned = k.passes; least = least_of words };
      looks = k.looks ++ looks_of k.passes k.rows 0 words;
    })

-- the place where a call's last pin began is one of this call
pub record InCall (begun now : Known) : Type 0 where
  pub looked : IsPrefix begun.looks now.looks
  pub in_call : length begun.looks ≤ now.since
  pub found : now.since ≤ length now.looks

-- what was looked at since the last pin, and before it in this call
since_pin : (begun now : Known) → InCall begun now → (first : List Look) × (now.looks ≡ (begun.looks ++ first) ++ drop now.since now.looks)
since_pin begun now call =
    let m = now.since - length begun.looks in
    let more = call.looked.0 in
    let here : now.since ≡ length begun.looks + m = (let low = call.in_call in omega arith) in
    let rest : drop now.since now.looks ≡ drop m more = ap (λ n. drop n now.looks) here ∙ ap (drop (length begun.looks + m)) (sym call.looked.1) ∙ drop-append-add begun.looks more m in (
      take m more,
      sym call.looked.1 ∙ ap (λ xs. begun.looks ++ xs) (sym (take-append-drop m more)) ∙ sym (append_assoc begun.looks (take m more) (drop m more)) ∙ ap (λ xs. (begun.looks ++ take m more) ++ xs) (sym rest),
    )

no_shortage : Shortage
no_shortage = record { looks = []; versions = []; fresh = 0; number = 0 }

module _ (begun k : Known) (number : ℕ) (call : InCall begun k) (mine : k.core.number ≡ Some number) (older : AreOlder k) (words : List ℕ) (all : length words ≡ k.passes)
    (own : (j : ℕ) → k.core.number ≡ Some j → get_elem? words j ≡ some k.reserves) (owners : List Look) (taken : AreTaken k.passes k.rows 0 k.rows owners) where
  abbrev recorded_here : Shortage
  recorded_here = unwrap_or (shortage (scanned words owners k)) no_shortage

  number_is : recorded_here.number ≡ number
  number_is = ap (λ o. unwrap_or o 0) mine

  looks_are : recorded_here.looks ≡ drop k.since k.looks ++ (looks_of k.passes k.rows 0 words ++ owners)
  looks_are =
      ap (drop k.since) (append_assoc k.looks (looks_of k.passes k.rows 0 words) owners)
      ∙ drop-append-le k.since k.looks (looks_of k.passes k.rows 0 words ++ owners) call.found

  blocked_by : (b : ℕ) → In b recorded_here.versions → Blocks recorded_here.number b words
  blocked_by b here =
      let was = kept (least_of words) k.core.retired b here in
      let one = names_one words b was.1 in
      record {
        pass = one.0;
        word = one.1;
        other = λ e. absurd (let low = older b was.0 in let names = one.4 in
            let same : one.1 ≡ k.reserves = some-injective one.1 k.reserves (sym one.2 ∙ own one.0 (mine ∙ ap Some (sym number_is ∙ sym e))) in omega arith);
        found = one.2;
        reserves = one.3;
        names = one.4;
      }

  shown : (most : ℕ) → length k.core.fresh ≤ most → ShowsFull k.passes k.rows most begun (recording shortage (scanned words owners k))
  shown most few =
      let pin = since_pin begun k call in
      record {
        shortage = recorded_here;
        recorded = refl;
        evidence = record {
          before = drop k.since k.looks;
          reservations = words;
          owners = owners;
          ends = looks_are;
          all = all;
          taken = taken;
          few = few;
          blocked = blocked_by;
        };
        by_pass = mine ∙ ap Some (sym number_is);
        first = pin.0;
        last = [];
        in_call = append_assoc k.looks (looks_of k.passes k.rows 0 words) owners
            ∙ ap (λ xs. xs ++ (looks_of k.passes k.rows 0 words ++ owners)) pin.1
            ∙ append_assoc (begun.looks ++ pin.0) (drop k.since k.looks) (looks_of k.passes k.rows 0 words ++ owners)
            ∙ ap (λ xs. (begun.looks ++ pin.0) ++ xs) (sym looks_are ∙ sym (append-nil recorded_here.looks));
        batches = λ b here. here;
        fresh = refl;
      }

-- a scan, and then a search that found each row taken, show that no row was free
pub shows_full : (most number : ℕ) (begun k l after : Known) → InCall begun k → k.core.number ≡ Some number → AreOlder k → Tidies k l → SearchesOrFull k.rows l after None → length k.core.fresh ≤ most
    → ShowsFull k.passes k.rows most begun after
shows_full most number begun k l after call mine older tidied full few =
    let search = full.1 in
    let now : after ≡ recording shortage (scanned tidied.words search.0 k) = full.2 ∙ ap (recording shortage) (search.1 ∙ ap (having_looked search.0) tidied.now) in
    let taken : AreTaken k.passes k.rows 0 k.rows search.0 = subst (λ (x : Known). AreTaken x.passes x.rows 0 k.rows search.0) tidied.now search.2 in
    subst (ShowsFull k.passes k.rows most begun) (sym now) (shown begun k number call mine older tidied.words tidied.all tidied.own search.0 taken most few)

-- an evidence is one still where the call found more, and recorded no other and took no row
pub shows_still : (passes rows most : ℕ) (begun k l : Known) (more : List Look) → ShowsFull passes rows most begun k → l.full ≡ k.full → l.core.number ≡ k.core.number → l.looks ≡ k.looks ++ more
    → ((b : ℕ) → In b (versions_of l.core.retired) → In b (versions_of k.core.retired)) → l.core.fresh ≡ k.core.fresh → ShowsFull passes rows most begun l
shows_still passes rows most begun k l more shows full number looks fewer fresh = record {
  shortage = shows.shortage;
  recorded = full ∙ shows.recorded;
  evidence = shows.evidence;
  by_pass = number ∙ shows.by_pass;
  first = shows.first;
  last = shows.last ++ more;
  in_call = looks ∙ ap (λ xs. xs ++ more) shows.in_call ∙ append_assoc (begun.looks ++ shows.first) (shows.shortage.looks ++ shows.last) more
      ∙ ap (λ xs. (begun.looks ++ shows.first) ++ xs) (append_assoc shows.shortage.looks shows.last more);
  batches = λ b here. shows.batches b (fewer b here);
  fresh = ap length fresh ∙ shows.fresh;
}

-- A pass that is alone finds a row after a tidy, where its fresh rows and the pinned tree are not all rows
pub finds_alone : (number : ℕ) (k l after : Known) → k.core.number ≡ Some number → AreOlder k → IsAlone k → Tidies k l → SearchesOrFull k.rows l after None → length k.core.fresh + length (pinned_copy k).rows < k.rows → ⊥
finds_alone number k l after mine older alone tidied full fewer =
    absurd (let all = length-all k.rows (k.core.fresh ++ (pinned_copy k).rows) own in let parts = length-append k.core.fresh (pinned_copy k).rows in omega arith)
  where
    one_word : (words : List ℕ) → length words ≡ 1 → get_elem? words number ≡ some k.reserves → words ≡ k.reserves ∷ []
    one_word [] one there = absurd (omega arith)
    one_word (w ∷ v ∷ words) one there = absurd (omega arith)
    one_word (w ∷ []) one there = first number there
      where
        first : (j : ℕ) → get_elem? (w ∷ []) j ≡ some k.reserves → w ∷ [] ≡ k.reserves ∷ []
        first zero at = ap (λ x. x ∷ []) (some-injective w k.reserves at)
        first (suc j) at = absurd (some-ne-none k.reserves (sym at))

    clears_older : (w b : ℕ) → b + 1 < w → clears (least_of (w ∷ [])) b ≡ true
    clears_older zero b low = absurd (omega arith)
    clears_older (suc n) b low = lt-ltb b n (omega arith)

    none_left : l.core.retired ≡ []
    none_left =
        ap (λ (x : Known). x.core.retired) tidied.now
        ∙ ap (λ ws. blocked (least_of ws) k.core.retired) (one_word tidied.words (tidied.all ∙ alone.0) (tidied.own number mine))
        ∙ none_blocked (least_of (k.reserves ∷ [])) k.core.retired (λ b here. clears_older k.reserves b (older b here))

    own : (r : ℕ) → r < k.rows → In r (k.core.fresh ++ (pinned_copy k).rows)
    own r low =
        let still : IsAlone l = subst IsAlone (sym tidied.now) alone in
        let pinned : (pinned_copy l).rows ≡ (pinned_copy k).rows = ap (λ (x : Known). (pinned_copy x).rows) tidied.now in
        let fresh : l.core.fresh ≡ k.core.fresh = ap (λ (x : Known). x.core.fresh) tidied.now in
        let parts = times-append r k.core.fresh (pinned_copy k).rows in
        ⊎_elim
        (λ held_row.
        let held_is : held l.core ≡ k.core.fresh = ap (λ bs. l.core.fresh ++ rows_in bs) none_left ∙ append-nil l.core.fresh ∙ fresh in
        let here : In r k.core.fresh = subst (In r) held_is held_row in omega arith)
        (λ in_tree. (let here : In r (pinned_copy k).rows = subst (In r) pinned in_tree in omega arith))
        (full.1.4 still r (omega arith) low)

-- a pass knows its number
pub knows_number : {L E : Type 0} {G : Ghosts L E} (p : Pass L E G) → (known_of p).core.number ≡ Some p.number
knows_number p = p.tied.numbered
