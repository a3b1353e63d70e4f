-- The settings that are read lie in their ranges.
use Rattle.std.proofs.Common.{◌≡◌, ◌≤◌, ℕ, Bool, true, false, ◌&&◌, nat_le, List, Option, None, Some, if◌then◌else◌, codes, refl, subst, arith}
use Rattle.std.specs.Prelude.{option_and_then}
use Rattle.std.proofs.lemmas.Bool.{leb-true}
use Rattle.std.specs.Str.Parse.{digits_value}
use Rattle.pls_problem.specs.Made.{IsWithinLimits}
use Rattle.pls_problem.specs.Kinds.{kind_named, least_rules, least_size}
use Rattle.pls_problem.specs.declared.kind.Kind.{Kind}
use Rattle.pls_problem.specs.declared.kind.Kind.TheVariants.{Knapsack, Assignment, Tour}
use Rattle.pls_problem.specs.declared.make_spec.MakeSpec.{MakeSpec}
use Rattle.pls_settings.specs.declared.choices.Mode.{Mode}
use Rattle.pls_settings.specs.declared.choices.Mode.TheVariants.{Search, Make, Demo}
use Rattle.pls_settings.specs.declared.choices.Settings.{Settings}
use Rattle.pls_settings.specs.Line.{Text, with_read, is_numeral, number, or_default, mode_of, is_makeable, make_of, settings_of, Given, options, given_by, are_once, text_for, line}
use Rattle.pls_settings.specs.Limits.{HasLimits}

some-of : {A : Type 0} (a b : A) → Some a ≡ Some b → a ≡ b
some-of a b e = cc

later_parts : (a b c : Bool) → (a && b && c) ≡ true → (b ≡ true) × (c ≡ true)
later_parts true true true e = (refl, refl)
later_parts true true false e = absurd (cc)
later_parts true false c e = absurd (cc)
later_parts false b c e = absurd (cc)

taken : {A : Type 0} (b : Bool) (v n : A) → (if b then Some v else None) ≡ Some n → (b ≡ true) × (v ≡ n)
taken true v n e = (refl, some-of v n e)
taken false v n e = absurd (cc)

number-range : (least most : ℕ) (text : Text) (n : ℕ) → number least most text ≡ Some n → (least ≤ n) × (n ≤ most)
number-range least most text n e =
    let v = digits_value 10 text in
    let got = taken (is_numeral text && nat_le least v && nat_le v most) v n e in
    let parts = later_parts (is_numeral text) (nat_le least v) (nat_le v most) got.0 in
    let low = leb-true least v parts.0 in
    let high = leb-true v most parts.1 in
    (omega (arith, low, got.1), omega (arith, high, got.1))

default-range :
    (least most default : ℕ) → least ≤ default → default ≤ most
    → (text : Option Text) (n : ℕ) → or_default default (number least most) text ≡ Some n → (least ≤ n) × (n ≤ most)
default-range least most default low high None n e =
    let same = some-of default n e in (omega (arith, low, same), omega (arith, high, same))
default-range least most default low high (Some text) n e = number-range least most text n e

-- what an instance is made from, by what was read
abbrev make_from : ℕ → Option Kind → Option ℕ → Option ℕ → Option ℕ → Option MakeSpec
make_from seed kind size objectives rules =
    with_read kind (λ kind. with_read size (λ size. with_read objectives (λ objectives. with_read rules (λ rules.
    Some (record { kind = kind; objectives = objectives; size = size; rules = rules; seed = seed })))))

-- what was read lies in a range
Lies : ℕ → ℕ → Option ℕ → Type 0
Lies least most x = (n : ℕ) → x ≡ Some n → (least ≤ n) × (n ≤ most)

-- the sizes lie in the ranges of their options
record IsInRanges (make : MakeSpec) : Type 0 where
  some_objectives : 2 ≤ make.objectives
  few_objectives : make.objectives ≤ 4
  some_size : 1 ≤ make.size
  small_size : make.size ≤ 256
  some_rules : 1 ≤ make.rules
  few_rules : make.rules ≤ 8

IsMade : ℕ → MakeSpec → Type 0
IsMade seed make = IsInRanges make × (make.seed ≡ seed)

-- and so within the limits of what is made
rules_within : (kind : Kind) (rules : ℕ) → 1 ≤ rules → least_rules kind ≤ rules
rules_within Knapsack rules some = some
rules_within Assignment rules some = omega arith
rules_within Tour rules some = omega arith

limits-makeable : (make : MakeSpec) → IsInRanges make → nat_le (least_size make.kind) make.size ≡ true → IsWithinLimits make
limits-makeable make ranges large = record {
  some_objectives = ranges.some_objectives;
  few_objectives = ranges.few_objectives;
  some_size = leb-true (least_size make.kind) make.size large;
  small_size = ranges.small_size;
  some_rules = rules_within make.kind make.rules ranges.some_rules;
  few_rules = ranges.few_rules;
}

limits-by_mode : (mode : Mode) (make : MakeSpec) → IsInRanges make → is_makeable mode make ≡ true → (mode ≡ Search → ⊥) → IsWithinLimits make
limits-by_mode Search make ranges large other = absurd (other refl)
limits-by_mode Make make ranges large other = limits-makeable make ranges large
limits-by_mode Demo make ranges large other = limits-makeable make ranges large

make_from-IsMade :
    (seed : ℕ) (kind : Option Kind) (size objectives rules : Option ℕ) → Lies 1 256 size → Lies 2 4 objectives → Lies 1 8 rules
    → (make : MakeSpec) → make_from seed kind size objectives rules ≡ Some make → IsMade seed make
unfolding Lies IsMade with_read
make_from-IsMade seed (Some k) (Some n) (Some d) (Some m) of_size of_objectives of_rules make e =
    subst (λ (x : MakeSpec). IsInRanges x × (x.seed ≡ seed)) (some-of _ make e) (
      record {
        some_objectives = (of_objectives d refl).0;
        few_objectives = (of_objectives d refl).1;
        some_size = (of_size n refl).0;
        small_size = (of_size n refl).1;
        some_rules = (of_rules m refl).0;
        few_rules = (of_rules m refl).1;
      },
      refl,
    )
make_from-IsMade seed None size objectives rules of_size of_objectives of_rules make e = absurd (cc)
make_from-IsMade seed (Some k) None objectives rules of_size of_objectives of_rules make e = absurd (cc)
make_from-IsMade seed (Some k) (Some n) None rules of_size of_objectives of_rules make e = absurd (cc)
make_from-IsMade seed (Some k) (Some n) (Some d) None of_size of_objectives of_rules make e = absurd (cc)

make_of-IsMade : (seed : ℕ) (text : Text → Option Text) (make : MakeSpec) → make_of seed text ≡ Some make → IsMade seed make
unfolding make_of Lies with_read
make_of-IsMade seed text make e =
    make_from-IsMade seed (or_default Knapsack kind_named (text (codes "kind"))) (or_default 100 (number 1 256) (text (codes "size")))
    (or_default 2 (number 2 4) (text (codes "objectives"))) (or_default 1 (number 1 8) (text (codes "rules")))
    (default-range 1 256 100 (omega arith) (omega arith) (text (codes "size")))
    (default-range 2 4 2 (omega arith) (omega arith) (text (codes "objectives")))
    (default-range 1 8 1 (omega arith) (omega arith) (text (codes "rules"))) make e

-- settings, by what was read
abbrev settings_from :
    Option Mode → Option ℕ → Option ℕ → Option ℕ → Option ℕ → Option ℕ → (ℕ → Option MakeSpec) → Option Settings
settings_from mode seed moves workers starts rows make =
    with_read mode (λ mode. with_read seed (λ seed. with_read moves (λ moves. with_read workers (λ workers.
    with_read starts (λ starts. with_read rows (λ rows. with_read (make seed) (λ make.
    if is_makeable mode make
    then Some (record { mode = mode; seed = seed; moves = moves; workers = workers; starts = starts; rows = rows; make = make })
    else None)))))))

-- the last of them
with_made :
    (mode : Mode) (seed moves workers starts rows : ℕ) (make : Option MakeSpec) (s : Settings)
    → with_read make (λ make. if is_makeable mode make then Some (let x : Settings = record { mode = mode; seed = seed; moves = moves; workers = workers; starts = starts; rows = rows; make = make } in x) else None) ≡ Some s
    → (m : MakeSpec) × (make ≡ Some m) × (is_makeable mode m ≡ true)
    × ((let x : Settings = record { mode = mode; seed = seed; moves = moves; workers = workers; starts = starts; rows = rows; make = m } in x) ≡ s)
unfolding with_read
with_made mode seed moves workers starts rows None s e = absurd (cc)
with_made mode seed moves workers starts rows (Some m) s e =
    let got = taken (is_makeable mode m) _ s e in (m, refl, got.0, got.1)

settings_from-HasLimits :
    (mode : Option Mode) (seed moves workers starts rows : Option ℕ) (make : ℕ → Option MakeSpec)
    → Lies 0 1000000000 moves → Lies 1 16 workers → Lies 1 64 starts → Lies 64 262144 rows
    → ((n : ℕ) (m : MakeSpec) → make n ≡ Some m → IsMade n m)
    → (s : Settings) → settings_from mode seed moves workers starts rows make ≡ Some s → HasLimits s
unfolding Lies IsMade with_read
settings_from-HasLimits (Some d) (Some n) (Some v) (Some w) (Some b) (Some r) make of_moves of_workers of_starts of_rows of_make s e =
    let last = with_made d n v w b r (make n) s e in
    let made = of_make n last.0 last.1 in
    subst HasLimits last.3
    (record {
      few_moves = (of_moves v refl).1;
      some_workers = (of_workers w refl).0;
      few_workers = (of_workers w refl).1;
      some_starts = (of_starts b refl).0;
      few_starts = (of_starts b refl).1;
      some_rows = (of_rows r refl).0;
      few_rows = (of_rows r refl).1;
      make = limits-by_mode d last.0 made.0 last.2;
      same_seed = made.1;
    })
settings_from-HasLimits None seed moves workers starts rows make of_moves of_workers of_starts of_rows of_make s e = absurd (cc)
settings_from-HasLimits (Some d) None moves workers starts rows make of_moves of_workers of_starts of_rows of_make s e = absurd (cc)
settings_from-HasLimits (Some d) (Some n) None workers starts rows make of_moves of_workers of_starts of_rows of_make s e = absurd (cc)
settings_from-HasLimits (Some d) (Some n) (Some v) None starts rows make of_moves of_workers of_starts of_rows of_make s e = absurd (cc)
settings_from-HasLimits (Some d) (Some n) (Some v) (Some w) None rows make of_moves of_workers of_starts of_rows of_make s e = absurd (cc)
settings_from-HasLimits (Some d) (Some n) (Some v) (Some w) (Some b) None make of_moves of_workers of_starts of_rows of_make s e = absurd (cc)

settings_of-HasLimits : (text : Text → Option Text) (s : Settings) → settings_of text ≡ Some s → HasLimits s
unfolding settings_of Lies with_read
settings_of-HasLimits text s e =
    settings_from-HasLimits (option_and_then mode_of (text (codes "mode"))) (or_default 1 (number 0 18446744073709551615) (text (codes "seed")))
    (or_default 1000000 (number 0 1000000000) (text (codes "moves"))) (or_default 1 (number 1 16) (text (codes "workers")))
    (or_default 1 (number 1 64) (text (codes "starts"))) (or_default 65536 (number 64 262144) (text (codes "rows")))
    (λ seed. make_of seed text)
    (default-range 0 1000000000 1000000 (omega arith) (omega arith) (text (codes "moves")))
    (default-range 1 16 1 (omega arith) (omega arith) (text (codes "workers")))
    (default-range 1 64 1 (omega arith) (omega arith) (text (codes "starts")))
    (default-range 64 262144 65536 (omega arith) (omega arith) (text (codes "rows")))
    (λ n m. make_of-IsMade n text m) s e

pub line-HasLimits : (words : List Text) (s : Settings) → line words ≡ Some s → HasLimits s
unfolding line with_read
line-HasLimits words s e = with_given (given_by options None words) e
  where
    once : (b : Bool) (text : Text → Option Text) → (if b then settings_of text else None) ≡ Some s → HasLimits s
    once true text e = settings_of-HasLimits text s e
    once false text e = absurd (cc)

    with_given :
        (given : Option (List Given)) → with_read given (λ given. if are_once given then settings_of (text_for given) else None) ≡ Some s
        → HasLimits s
    with_given None e = absurd (cc)
    with_given (Some given) e = once (are_once given) (text_for given) e
