-- Declarations that give internal linkage.
use Rattle.std.specs.Prelude.{ℕ, Bool, List, if◌then◌else◌}
use Rattle.c_scope.specs.declared.kinds.Declared.{Declared}
use Rattle.c_senses.specs.Tree.{Source}
use Rattle.c_senses.specs.Sense.{Sense}
use Rattle.c_senses.specs.Names.{linked_before, ordinary_at}
use Rattle.c_senses.specs.Entities.{some_such, keep, first_of, is_static_at_file, is_internal}

-- one of those that are seen where a name is declared is `static` at file scope
abbrev pub sees_static : Source → (ℕ → Sense) → ℕ → Bool
sees_static s sense leaf =
    some_such s sense (λ d. is_static_at_file s sense d.node) (linked_before s (ordinary_at s leaf))

-- the leaf of a declaration with internal linkage, or else another
abbrev pub internal_or : Source → (ℕ → Sense) → ℕ → ℕ → ℕ
internal_or s sense leaf other = if is_internal s sense leaf then leaf else other

-- the first of some declarations with internal linkage
abbrev pub first_internal : Source → (ℕ → Sense) → ℕ → List Declared → ℕ
first_internal s sense leaf ds = first_of s sense leaf (keep s sense (λ d. is_internal s sense d.node) ds)
