-- Senses and values whose constants can be computed.
use Rattle.std.specs.Prelude.{ℕ, ℤ, ◌≡◌, ◌<◌, ◌^◌, ⊤, List, [], ◌∷◌, Some}
use Rattle.c_lexer.specs.declared.TokenKind.TheVariants.{Integer}
use Rattle.c_types.specs.Trees.{Ctype}
use Rattle.c_conversions.specs.passed.core_tree.Typed.{ValueNode, Holds}
use Rattle.c_conversions.specs.passed.core_tree.Rows.{int}
use Rattle.c_senses.specs.passed.c_consts.Core.{Core, core_sort}
use Rattle.c_senses.specs.Tree.{Source, kind_at, spelling_at}
use Rattle.c_senses.specs.World.{World, Value}
use Rattle.c_senses.specs.Literals.{value_of_integer}
use Rattle.c_senses.specs.Sense.{Sense, IsCore}
use Rattle.c_conversions.specs.Constants.{HasRows, IsValueOf}

-- a core tree in which each node of a constant stands in its row; nothing is asked of other senses
abbrev pub SenseHasRows : Sense → Type 0
SenseHasRows (IsCore c) = HasRows c
SenseHasRows x = ⊤

abbrev pub AllHaveRows : List Core → Type 0
AllHaveRows [] = ⊤
AllHaveRows (c ∷ rest) = HasRows c × AllHaveRows rest

-- such a value, and one of that type
abbrev pub RowsValue : Core → Type 0
RowsValue c = HasRows c × (core_sort c ≡ ValueNode)

abbrev pub RowsOf : Ctype → Core → Type 0
RowsOf t c = HasRows c × IsValueOf c t

-- 6.7.2.2: a name that means a number means one in the range of int
abbrev pub ValuesFit : World → Type 0
ValuesFit w = (leaf : ℕ) (n : ℤ) → w.meaning leaf ≡ Some (Value n) → Holds int n

-- 6.4.4.1: a leaf that is an integer constant has a value that some type holds
abbrev pub ConstantFits : Source → ℕ → Type 0
ConstantFits s i = kind_at s i ≡ Integer → value_of_integer (spelling_at s i) < 2 ^ 64
