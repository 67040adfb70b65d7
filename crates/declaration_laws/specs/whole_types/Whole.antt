-- Types of some declarations of a name, and of all.
use Rattle.std.specs.Prelude.{ℕ, ◌≡◌, ⊤, false, List, [], ◌∷◌, Some, None, slice_get, ◌⊎◌}
use Rattle.c_types.specs.Trees.{Ctype, ArrayOf}
use Rattle.core_tree.specs.Rows.{Agree}
use Rattle.c_senses.specs.Tree.{Source}
use Rattle.c_senses.specs.Limits.{lacks_a_length, is_function_type}
use Rattle.c_senses.specs.Entities.{all_together}
use Rattle.c_senses.specs.Right.{with_one}
use Rattle.c_senses.specs.Sense.{Sense}
use Rattle.declaration_laws.specs.joined_types.Joined.{AllAgree}

-- one of some types, but for a length that it may lack yet
abbrev pub IsOneOf : List Ctype → Ctype → Type 0
IsOneOf ts t =
    (k : ℕ) × (u : Ctype) × (slice_get ts k ≡ Some u)
    × ((t ≡ u) ⊎ ((of : Ctype) × (n : ℕ) × (t ≡ ArrayOf of None) × (u ≡ ArrayOf of (Some n))))

abbrev pub AllOneOf : List Ctype → List Ctype → Type 0
AllOneOf ts [] = ⊤
AllOneOf ts (t ∷ rest) = IsOneOf ts t × AllOneOf ts rest

pub record TypesWhole : Type 0 where
  pub agrees : (s : Source) (senses : List Sense) (ts seen : List Ctype) (whole t : Ctype)
      → AllAgree None ts
      → all_together None ts ≡ Some whole
      → AllOneOf ts seen
      → all_together None seen ≡ Some t
      → Agree t (with_one s senses whole)
  pub complete : (ts : List Ctype) (whole t : Ctype) (k : ℕ)
      → AllAgree None ts
      → all_together None ts ≡ Some whole
      → slice_get ts k ≡ Some t
      → lacks_a_length t ≡ false
      → is_function_type t ≡ false
      → t ≡ whole
