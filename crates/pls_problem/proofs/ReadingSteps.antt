-- One word after another, read as numbers.
use Rattle.std.proofs.Common.{◌⊎◌, inl, inr, ◌≡◌, ◌<◌, ℕ, ◌+◌, ◌-◌, suc, List, [], ◌∷◌, ◌++◌, replicate, Result, Ok, Err, refl, ap, sym, ◌∙◌, arith}
use Rattle.std.proofs.lemmas.List.{replicate_more, replicate-append-replicate}
use Rattle.pls_io.specs.Words.{PlacedWord}
use Rattle.pls_vectors.specs.Limits.{Limits}
use Rattle.pls_problem.specs.declared.reader.BadInstance.{BadInstance}
use Rattle.pls_problem.specs.Reading.{reading_then, number, numbers}

-- numbers that were read, and the words after them
abbrev pub Read : Type 0
Read = List ℕ × List PlacedWord

-- a number put before others, and numbers put before others
abbrev pub begun_with : ℕ → Result Read BadInstance → Result Read BadInstance
begun_with n r = reading_then (λ (others : Read). Ok (n ∷ others.0, others.1)) r

abbrev pub after : List ℕ → Result Read BadInstance → Result Read BadInstance
after ns r = reading_then (λ (others : Read). Ok (ns ++ others.0, others.1)) r

begun_with-after : (n : ℕ) (ns : List ℕ) (r : Result Read BadInstance) → begun_with n (after ns r) ≡ after (n ∷ ns) r
begun_with-after n ns (Ok x) = refl
begun_with-after n ns (Err e) = refl

after-none : (r : Result Read BadInstance) → r ≡ after [] r
after-none (Ok x) = refl
after-none (Err e) = refl

module _ (end : ℕ) where
  abbrev then_more : List Limits → Result Read BadInstance → Result Read BadInstance
  then_more more r = reading_then (λ (first : Read). after first.0 (numbers end more first.1)) r

  begun_with-more : (n : ℕ) (more : List Limits) (r : Result Read BadInstance) → begun_with n (then_more more r) ≡ then_more more (begun_with n r)
  begun_with-more n more (Ok x) = begun_with-after n x.0 (numbers end more x.1)
  begun_with-more n more (Err e) = refl

  abbrev then_numbers : List Limits → Result (ℕ × List PlacedWord) BadInstance → Result Read BadInstance
  then_numbers wanted r = reading_then (λ (first : ℕ × List PlacedWord). begun_with first.0 (numbers end wanted first.1)) r

  then_numbers-more :
      (wanted more : List Limits)
      → ((words : List PlacedWord) → numbers end (wanted ++ more) words ≡ then_more more (numbers end wanted words))
      → (r : Result (ℕ × List PlacedWord) BadInstance) → then_numbers (wanted ++ more) r ≡ then_more more (then_numbers wanted r)
  then_numbers-more wanted more shorter (Ok x) =
      ap (begun_with x.0) (shorter x.1) ∙ begun_with-more x.0 more (numbers end wanted x.1)
  then_numbers-more wanted more shorter (Err e) = refl

  -- numbers within some limits, and then within further ones
  pub numbers-append :
      (wanted more : List Limits) (words : List PlacedWord)
      → numbers end (wanted ++ more) words ≡ then_more more (numbers end wanted words)
  numbers-append [] more words = after-none (numbers end more words)
  numbers-append (limits ∷ wanted) more words =
      then_numbers-more wanted more (numbers-append wanted more) (number end limits words)

  pub numbers-then :
      (wanted more : List Limits) (words : List PlacedWord) (ns : List ℕ) (left : List PlacedWord)
      → numbers end wanted words ≡ Ok (ns, left) → numbers end (wanted ++ more) words ≡ after ns (numbers end more left)
  numbers-then wanted more words ns left read = numbers-append wanted more words ∙ ap (then_more more) read

  pub numbers-fault :
      (wanted more : List Limits) (words : List PlacedWord) (e : BadInstance)
      → numbers end wanted words ≡ Err e → numbers end (wanted ++ more) words ≡ Err e
  numbers-fault wanted more words e fault = numbers-append wanted more words ∙ ap (then_more more) fault

  -- one more number
  pub numbers-push :
      (limits : Limits) (words : List PlacedWord) (i : ℕ) (ns : List ℕ) (left : List PlacedWord) (n : ℕ) (left' : List PlacedWord)
      → numbers end (replicate i limits) words ≡ Ok (ns, left) → number end limits left ≡ Ok (n, left')
      → numbers end (replicate (i + 1) limits) words ≡ Ok (ns ++ n ∷ [], left')
  numbers-push limits words i ns left n left' read one =
      rw (← replicate_more i limits)
      (numbers-then (replicate i limits) (limits ∷ []) words ns left read ∙ ap (λ r. after ns (then_numbers [] r)) one)

  -- a fault at the next of so many numbers
  pub numbers-stop :
      (limits : Limits) (words : List PlacedWord) (i count : ℕ) (ns : List ℕ) (left : List PlacedWord) (e : BadInstance)
      → i < count → numbers end (replicate i limits) words ≡ Ok (ns, left) → number end limits left ≡ Err e
      → numbers end (replicate count limits) words ≡ Err e
  numbers-stop limits words i count ns left e more read fault =
      let j = count - (i + 1) in
      let all : i + suc j ≡ count = omega arith in
      ap (λ (k : ℕ). numbers end (replicate k limits) words) (sym all)
      ∙ (ap (λ (wanted : List Limits). numbers end wanted words) (sym (replicate-append-replicate i (suc j) limits))
      ∙ (numbers-then (replicate i limits) (replicate (suc j) limits) words ns left read
      ∙ ap (λ r. after ns (then_numbers (replicate j limits) r)) fault))

pub or_then : {A B C : Type 0} → (B → C) → A ⊎ B → A ⊎ C
or_then f (inl a) = inl a
or_then f (inr b) = inr (f b)
