-- Lists in the order of keys.
use Rattle.std.specs.Prelude.{◌≡◌, ◌↔◌, List, Contains, map}
use Rattle.std.specs.List.Sorted.{IsStrictlySortedBy}
use Rattle.std.specs.declared.cmp.Ordering.{Ordering}

-- a list has exactly these entries, and keys rise along it, so each key stands once: there is one such list
pub record IsOrdered {K X : Type 0} (cmp : K → K → Ordering) (Has : K × X → Type 0) (list : List (K × X)) : Type 0 where
  pub rises : IsStrictlySortedBy cmp (map (λ (entry : K × X). entry.0) list)
  pub same : (entry : K × X) → Contains list entry ↔ Has entry

-- what is shown of each of these entries, in the order of their keys
pub record IsShown {K X Z : Type 0} (cmp : K → K → Ordering) (Has : K × X → Type 0) (shown : K × X → Z)
    (list : List Z) : Type 0 where
  pub entries : List (K × X)
  pub ordered : IsOrdered cmp Has entries
  pub are : list ≡ map shown entries
