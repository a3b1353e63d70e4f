-- Command lines, computed.
use Rattle.std.proofs.Common.{◌≡◌, ℕ, [], ◌∷◌, ◌++◌, map, Some, None, is_none, true, codes, refl}
use Rattle.std.specs.List.{list_all}
use Rattle.pls_problem.specs.declared.kind.Kind.TheVariants.{Knapsack, Assignment, Tour}
use Rattle.pls_settings.specs.Line.{Text, line, number, with_read, settings_of, make_of}
use Rattle.pls_settings.specs.declared.choices.Mode.{Mode}
use Rattle.pls_settings.specs.declared.choices.Mode.TheVariants.{Search, Make, Demo}
use Rattle.pls_settings.specs.declared.choices.Settings.{Settings}

-- the settings where no option but perhaps the seed is given
plain : Mode → ℕ → Settings
plain mode seed = record {
  mode = mode;
  seed = seed;
  moves = 1000000;
  workers = 1;
  starts = 1;
  rows = 65536;
  make = record { kind = Knapsack; objectives = 2; size = 100; rules = 1; seed = seed };
}

modes : map line ((codes "search" ∷ []) ∷ (codes "make" ∷ []) ∷ (codes "demo" ∷ []) ∷ (codes "--" ∷ codes "search" ∷ []) ∷ [])
    ≡ Some (plain Search 1) ∷ Some (plain Make 1) ∷ Some (plain Demo 1) ∷ Some (plain Search 1) ∷ []
unfolding line with_read settings_of make_of plain
modes = refl

two_options : line (codes "--seed=7" ∷ codes "search" ∷ codes "--workers" ∷ codes "2" ∷ []) ≡ Some (record (plain Search 7) { workers = 2 })
unfolding line with_read settings_of make_of plain
two_options = refl

-- the last seed there is, and one in 20 digits
seeds : map line ((codes "search" ∷ codes "--seed" ∷ codes "18446744073709551615" ∷ []) ∷ (codes "search" ∷ codes "--seed" ∷ codes "00000000000000000007" ∷ []) ∷ [])
    ≡ Some (plain Search 18446744073709551615) ∷ Some (plain Search 7) ∷ []
unfolding line with_read settings_of make_of plain
seeds = refl

no_lines : list_all (λ words. is_none (line words)) (
    [] ∷ (codes "serch" ∷ []) ∷ (codes "search" ∷ codes "extra" ∷ []) ∷ (codes "search" ∷ codes "--seed" ∷ [])
    ∷ (codes "search" ∷ codes "--workers" ∷ codes "17" ∷ []) ∷ (codes "search" ∷ codes "--rows" ∷ codes "63" ∷ [])
    ∷ (codes "search" ∷ codes "--moves" ∷ codes "1" ∷ codes "--moves" ∷ codes "2" ∷ [])
    ∷ (codes "search" ∷ codes "--seed" ∷ codes "18446744073709551616" ∷ []) ∷ (codes "search" ∷ codes "--seed" ∷ codes "000000000000000000007" ∷ [])
    ∷ (codes "search" ∷ codes "--" ∷ codes "--seed=7" ∷ []) ∷ (codes "--see=7" ∷ codes "search" ∷ [])
    ∷ (codes "search" ∷ codes "--help" ∷ []) ∷ (codes "-h" ∷ []) ∷ []) ≡ true
unfolding line with_read settings_of make_of
no_lines = refl

-- a tour has three cities or more, where it is made
small_tours :
    map line (
    (codes "make" ∷ codes "--kind" ∷ codes "tour" ∷ codes "--size" ∷ codes "2" ∷ [])
    ∷ (codes "demo" ∷ codes "--kind=tour" ∷ codes "--size=2" ∷ []) ∷ (codes "search" ∷ codes "--kind=tour" ∷ codes "--size=2" ∷ [])
    ∷ (codes "make" ∷ codes "--kind=tour" ∷ codes "--size=3" ∷ []) ∷ (codes "make" ∷ codes "--kind=assignment" ∷ codes "--size=1" ∷ []) ∷ [])
    ≡ None ∷ None ∷ Some (record (plain Search 1) { make = record (plain Search 1).make { kind = Tour; size = 2 } })
    ∷ Some (record (plain Make 1) { make = record (plain Make 1).make { kind = Tour; size = 3 } })
    ∷ Some (record (plain Make 1) { make = record (plain Make 1).make { kind = Assignment; size = 1 } }) ∷ []
unfolding line with_read settings_of make_of plain
small_tours = refl

-- ---- for every value

in_either_way : (v : Text) → line (codes "search" ∷ (codes "--seed=" ++ v) ∷ []) ≡ line (codes "search" ∷ codes "--seed" ∷ v ∷ [])
unfolding line with_read settings_of make_of
in_either_way v = refl

before_or_after : (v : Text) → line (codes "--seed" ∷ v ∷ codes "search" ∷ []) ≡ line (codes "search" ∷ codes "--seed" ∷ v ∷ [])
unfolding line with_read settings_of make_of
before_or_after v = refl

read_as_a_number :
    (v : Text) → line (codes "search" ∷ codes "--seed" ∷ v ∷ []) ≡ with_read (number 0 18446744073709551615 v) (λ seed. Some (plain Search seed))
unfolding line with_read settings_of make_of plain
read_as_a_number v = refl

at_most_once : (v w : Text) → line (codes "search" ∷ codes "--moves" ∷ v ∷ codes "--moves" ∷ w ∷ []) ≡ None
unfolding line with_read
at_most_once v w = refl
