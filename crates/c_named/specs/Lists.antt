-- What declarations give, by the leaves of their names.
use Rattle.c_scope.specs.declared.kinds.Declared.{Declared as Declaration}
use Rattle.std.specs.Prelude.{ℕ, Bool, true, false, ◌&&◌, ◌||◌, is_some, List, [], ◌∷◌, Option, Some, None}
use Rattle.c_types.specs.Trees.{Ctype}
use Rattle.c_senses.specs.Tree.{Source}
use Rattle.c_senses.specs.World.{same_type}
use Rattle.c_senses.specs.Sense.{Sense}
use Rattle.c_senses.specs.Entities.{own_type, is_defined, initialiser_for}

-- the leaves of some declarations
abbrev pub leaves_of : List Declaration → List ℕ
leaves_of [] = []
leaves_of (d ∷ rest) = d.node ∷ leaves_of rest

-- one has that type
abbrev pub is_of : Ctype → Option Ctype → Bool
is_of t None = false
is_of t (Some other) = same_type other t

-- all have that type
abbrev pub all_of : Source → (ℕ → Sense) → Ctype → List ℕ → Bool
all_of s sense t [] = true
all_of s sense t (leaf ∷ rest) = is_of t (own_type s sense leaf) && all_of s sense t rest

-- the types that they give
abbrev pub with_type : Option Ctype → List Ctype → List Ctype
with_type None rest = rest
with_type (Some t) rest = t ∷ rest

abbrev pub types_at : Source → (ℕ → Sense) → List ℕ → List Ctype
types_at s sense [] = []
types_at s sense (leaf ∷ rest) = with_type (own_type s sense leaf) (types_at s sense rest)

-- one of them defines its name
abbrev pub defines_at : Source → (ℕ → Sense) → ℕ → Bool
defines_at s sense leaf = is_defined s sense leaf || is_some (initialiser_for s sense leaf)

abbrev pub some_defines : Source → (ℕ → Sense) → List ℕ → Bool
some_defines s sense [] = false
some_defines s sense (leaf ∷ rest) = defines_at s sense leaf || some_defines s sense rest
