-- Lists of numbers that tell member lists apart.
use Rattle.std.specs.Prelude.{ℕ, ◌≡◌, ◌+◌, ◌<◌, List, [], ◌∷◌, ◌++◌, Option, Some, None, length, slice_index}
use Rattle.std.specs.List.{flat_map}
use Rattle.c_types.specs.declared.term.MemberTerm.{MemberTerm}
use Rattle.c_types.specs.Table.{Table, type_of, IsFirstOf}

abbrev pub name_code : Option (List ℕ) → List ℕ
name_code None = 0 ∷ []
name_code (Some n) = (length n + 1) ∷ n

abbrev pub bits_code : Option ℕ → ℕ
bits_code None = 0
bits_code (Some b) = b + 1

-- a member of a unit whose types begin at a number, by the first of the same type
abbrev pub member_code : List ℕ → ℕ → MemberTerm → List ℕ
member_code firsts start m = name_code m.name ++ bits_code m.bits ∷ slice_index firsts (start + m.ty.0) ∷ []

abbrev pub members_code : List ℕ → ℕ → List MemberTerm → List ℕ
members_code firsts start members = flat_map (member_code firsts start) members

-- for each type of a table the first one that is the same
pub record AreFirstIds (table : Table) (firsts : List ℕ) : Type 0 where
  pub all : length firsts ≡ length table.terms
  pub each : (i : ℕ) → i < length table.terms → IsFirstOf table (type_of table i) (slice_index firsts i)
