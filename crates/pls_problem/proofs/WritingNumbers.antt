-- Lines and tables, written one piece after another.
use Rattle.std.proofs.Common.{◌≡◌, ◌<◌, ◌≤◌, ℕ, ◌+◌, ◌*◌, ◌/◌, ◌%◌, List, ◌++◌, length, drop, get_or, sym, ap, ◌∙◌, append_assoc, arith}
use Rattle.std.proofs.lemmas.List.{length-take, length-drop, get_or-take, get_or-drop}
use Rattle.std.proofs.Math.Nat.{mul-le-mul_right, mul_comm, div-add-mod}
use Rattle.pls_problem.specs.Rows.{row_of}
use Rattle.pls_problem.specs.Text.{numbers_line, rows_text}
use Rattle.pls_problem.proofs.NumberRanges.{flat_map-range-more}

-- four pieces, one after another
pub appended :
    (before a b c d text text' text'' text''' : List ℕ) → text ≡ before ++ a → text' ≡ text ++ b → text'' ≡ text' ++ c → text''' ≡ text'' ++ d
    → text''' ≡ before ++ (a ++ b ++ c ++ d)
appended before a b c d text text' text'' text''' first second third fourth =
    let two = second ∙ (ap (λ (t : List ℕ). t ++ b) first ∙ append_assoc before a b) in
    let three = third ∙ (ap (λ (t : List ℕ). t ++ c) two ∙ append_assoc before (a ++ b) c) in
    fourth ∙ (ap (λ (t : List ℕ). t ++ d) three ∙ append_assoc before (a ++ b ++ c) d)

-- two pieces
pub appended_twice : (before a b text text' : List ℕ) → text ≡ before ++ a → text' ≡ text ++ b → text' ≡ before ++ (a ++ b)
appended_twice before a b text text' first second = second ∙ (ap (λ (t : List ℕ). t ++ b) first ∙ append_assoc before a b)

-- one more row
pub rows_text-push :
    (row items : ℕ) (table before text text' numbers : List ℕ) → text ≡ before ++ rows_text row items table
    → numbers ≡ row_of items row table → text' ≡ text ++ numbers_line numbers → text' ≡ before ++ rows_text (row + 1) items table
rows_text-push row items table before text text' numbers written is more =
    more
    ∙ (ap (λ (t : List ℕ). t ++ numbers_line numbers) written
    ∙ (append_assoc before (rows_text row items table) (numbers_line numbers)
    ∙ ap (λ (t : List ℕ). before ++ t)
    (ap (λ (ns : List ℕ). rows_text row items table ++ numbers_line ns) is
    ∙ sym (flat_map-range-more (λ r. numbers_line (row_of items r table)) row))))

-- a row of a table has all its numbers
pub length-row_of : (row rows items : ℕ) (table : List ℕ) → length table ≡ rows * items → row < rows → length (row_of items row table) ≡ items
length-row_of row rows items table whole inside =
    let within : (row + 1) * items ≤ rows * items = mul-le-mul_right items (omega arith) in
    length-take items (drop (row * items) table) ∙ omega (arith, length-drop (row * items) table, within, whole)

pub get_or-row_of :
    (row items place : ℕ) (table : List ℕ) → place < items → get_or table (row * items + place) 0 ≡ get_or (row_of items row table) place 0
get_or-row_of row items place table inside =
    sym (get_or-take items (drop (row * items) table) place 0 inside ∙ get_or-drop (row * items) table place 0)

-- row r of all matrices is row r mod n of matrix r / n
pub in_matrix :
    (n m row column : ℕ) (costs : List ℕ) (x : ℕ) → m ≡ n → x ≡ get_or costs ((row / m * n + row % m) * n + column) 0
    → x ≡ get_or costs (row * m + column) 0
in_matrix n m row column costs x same is =
    let whole : row / m * m + row % m ≡ row = ap (λ (q : ℕ). q + row % m) (mul_comm (row / m) m) ∙ div-add-mod row m in
    is
    ∙ (ap (λ (k : ℕ). get_or costs ((row / m * k + row % m) * k + column) 0) (sym same)
    ∙ ap (λ (r : ℕ). get_or costs (r * m + column) 0) whole)
