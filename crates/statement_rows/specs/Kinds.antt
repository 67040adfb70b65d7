-- What name resolution says of declared names, by leaf.
use Rattle.std.specs.Prelude.{ℕ, ◌≡◌, Bool, false, ◌&&◌, not, List, Option, Some, None, get_or}
use Rattle.c_scope.specs.declared.kinds.Declared.{Declared}
use Rattle.c_senses.specs.Tree.{Source}
use Rattle.c_senses.specs.Names.{names_type, entry_of}
use Rattle.c_senses.specs.Sense.{Sense}
use Rattle.c_senses.specs.Entities.{is_typedef, declares_function}
use Rattle.statement_rows.specs.declared.kinds.NameKinds.{NameKinds}

-- what a declaration says, if there is one
abbrev pub is_typedef_entry : Option Declared → Bool
is_typedef_entry None = false
is_typedef_entry (Some d) = names_type d

abbrev pub is_function_entry : Option Declared → Bool
is_function_entry None = false
is_function_entry (Some d) = d.is_function && not (names_type d)

-- the flags of leaves say which declare typedef names, and which functions
pub record AreKinds (s : Source) (kinds : NameKinds) : Type 0 where
  pub typedefs : (sense : ℕ → Sense) (leaf : ℕ) → get_or kinds.typedefs.items leaf false ≡ is_typedef s sense leaf
  pub functions : (sense : ℕ → Sense) (leaf : ℕ)
      → get_or kinds.functions.items leaf false ≡ declares_function s sense leaf

-- the flags of leaves say it of some declarations
pub record Flagged (ds : List Declared) (typedefs functions : List Bool) : Type 0 where
  pub types : (leaf : ℕ) → get_or typedefs leaf false ≡ is_typedef_entry (entry_of ds leaf)
  pub names : (leaf : ℕ) → get_or functions leaf false ≡ is_function_entry (entry_of ds leaf)
