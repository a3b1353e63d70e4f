-- Telling the outcomes of an update apart.
use Rattle.std.proofs.Common.{◌≡◌, ◌≢◌, ℕ, Bool, true, false, sym, ap, ◌∙◌}
use Rattle.std.specs.Prelude.{Result, Ok, Err}
use Rattle.std.proofs.lemmas.Bool.{true≢false}
use Rattle.pls_archive.specs.declared.call.Taken.{Taken}
use Rattle.nd_update.specs.declared.builds.Built.{Built}
use Rattle.nd_update.specs.declared.builds.BuildRefusal.{BuildRefusal}
use Rattle.nd_update.specs.declared.builds.BuildRefusal.TheVariants.{Covered, Full as NoRow}
use Rattle.nd_shared.specs.declared.refusal.TryRefusal.{TryRefusal}
use Rattle.nd_shared.specs.declared.refusal.TryRefusal.TheVariants.{Full, Spent, Beaten}

-- of a try
abbrev pub Tried : Type 0
Tried = Result (Taken × ℕ) TryRefusal

abbrev pub tried_as : TryRefusal → Tried
tried_as refusal = Err refusal

-- of a build
abbrev pub Attempt : Type 0
Attempt = Result Built BuildRefusal

abbrev pub refused_as : BuildRefusal → Attempt
refused_as refusal = Err refusal

abbrev pub is_full : Tried → Bool
is_full (Ok a) = false
is_full (Err Full) = true
is_full (Err Spent) = false
is_full (Err (Beaten v)) = false

abbrev pub is_spent : Tried → Bool
is_spent (Ok a) = false
is_spent (Err Full) = false
is_spent (Err Spent) = true
is_spent (Err (Beaten v)) = false

abbrev pub is_beaten : Tried → Bool
is_beaten (Ok a) = false
is_beaten (Err Full) = false
is_beaten (Err Spent) = false
is_beaten (Err (Beaten v)) = true

abbrev pub version_in : Tried → ℕ
version_in (Ok a) = 0
version_in (Err Full) = 0
version_in (Err Spent) = 0
version_in (Err (Beaten v)) = v

abbrev pub has_no_row : Attempt → Bool
has_no_row (Ok built) = false
has_no_row (Err Covered) = false
has_no_row (Err NoRow) = true

pub not_full : (answer end : Tried) → answer ≡ end → is_full end ≡ false → answer ≢ Err Full
not_full answer end is other full = true≢false (sym (ap is_full full) ∙ ap is_full is ∙ other)

pub not_spent : (answer : Tried) → is_spent answer ≡ false → answer ≢ Err Spent
not_spent answer other spent = true≢false (sym (ap is_spent spent) ∙ other)

pub not_beaten : (answer : Tried) (v : ℕ) → is_beaten answer ≡ false → answer ≢ Err (Beaten v)
not_beaten answer v other beaten = true≢false (sym (ap is_beaten beaten) ∙ other)

pub same_version : (answer : Tried) (v : ℕ) → answer ≡ Err (Beaten v) → v ≡ version_in answer
same_version answer v is = sym (ap version_in is)

pub has_row : (answer end : Attempt) → answer ≡ end → has_no_row end ≡ false → answer ≢ Err NoRow
has_row answer end is other full = true≢false (sym (ap has_no_row full) ∙ ap has_no_row is ∙ other)
