-- What a pass may publish, and which entry it may add as it leaves its version. All of it speaks of the pass alone.
use Rattle.std.specs.Prelude.{◌≡◌, ℕ, ◌+◌, ◌⊎◌, Bool, true, false, Option, Some, List, [], ◌∷◌, ◌++◌, take, length}
use Rattle.era_core.specs.Lists.{times, In, without}
use Rattle.era_core.specs.Versions.{Copy}
use Rattle.era_rows.specs.Known.{Known, pinned_copy, copy_known}
use Rattle.era_rows.specs.declared.views.Knows.{Knows}

-- the marked rows are those of the pinned tree that are not in the tree at row q
abbrev pub AreReplaced : ℕ → Known → List ℕ → Type 0
AreReplaced q k marked = (x : ℕ) → times x marked ≡ times x (without (copy_known k q).rows (pinned_copy k).rows)

module _ {E : Type 0} (caller stamp : E → ℕ) (accepted : ℕ → E → Bool) (lawful : ℕ → Copy → Type 0) (stands : ℕ → Copy → List E → Type 0) (right : ℕ → E → List E → Type 0) where
  -- the pass has pinned version n, with root row p, and may publish the tree at row q with entry e
  pub record MayPublish (n p q : ℕ) (e : E) (k : Knows E) : Type 0 where
    pub pinned : k.view.core.pinned ≡ Some (n, p)
    -- the new tree is lawful; its root is fresh, and each of its rows is fresh or in the pinned tree
    pub is_lawful : lawful k.view.shape (copy_known k.view q)
    pub fresh_root : In q k.view.core.fresh
    pub parts : (x : ℕ) → In x (copy_known k.view q).rows → In x k.view.core.fresh ⊎ In x (pinned_copy k.view).rows
    -- the entry is an accepted one of this pass, and is right at the accepted entries of the pinned version
    pub is_accepted : accepted k.view.shape e ≡ true
    pub named : k.view.core.number ≡ Some (caller e)
    pub stamped : stamp e ≡ n + 1
    pub is_right : right k.view.shape e (take n k.seen)
    -- the new tree stands for these entries with this one
    pub stands_for : stands k.view.shape (copy_known k.view q) (take n k.seen ++ e ∷ [])

  -- the pass has pinned version n, knows no later one, and may add entry e, which is not accepted
  pub record MayAdd (n p : ℕ) (e : E) (k : Knows E) : Type 0 where
    pub pinned : k.view.core.pinned ≡ Some (n, p)
    pub current : length k.seen ≡ n
    pub not_accepted : accepted k.view.shape e ≡ false
    pub named : k.view.core.number ≡ Some (caller e)
    pub stamped : stamp e ≡ n
    pub is_right : right k.view.shape e k.seen

  -- the pass may publish the tree at row q with the entry that is named
  abbrev pub MayPublishNamed : Option E → ℕ → Knows E → Type 0
  MayPublishNamed entry q k = (n p : ℕ) × (e : E) × (entry ≡ Some e) × MayPublish n p q e k

  -- the pass has pinned a version, and may add the entry that is named, if one is
  abbrev pub MayLeave : Option E → Knows E → Type 0
  MayLeave entry k = (n p : ℕ) × (k.view.core.pinned ≡ Some (n, p)) × ((e : E) → entry ≡ Some e → MayAdd n p e k)
