-- The second of some statements.
use Rattle.std.specs.Prelude.{ℕ, ◌≡◌, ⊤, Bool, true, false, List, [], ◌∷◌, Option, Some, None, Result, Ok, Err}
use Rattle.pta_base.specs.declared.kind.Kind.TheVariants.{Operand}
use Rattle.core_tree.specs.declared.node.Unit.{Unit}
use Rattle.c_consts.specs.Core.{Core}
use Rattle.c_types.specs.Trees.{Ctype}
use Rattle.c_senses.specs.Given.{Given, Fits, Refuses, ◌>>=◌}
use Rattle.c_senses.specs.World.{World}
use Rattle.c_senses.specs.Conversions.{conversion}
use Rattle.c_senses.specs.Sense.{Sense, value_in}
use Rattle.core_nodes.specs.declared.fault.CheckFault.{CheckFault}
use Rattle.core_nodes.specs.declared.fault.CheckFault.TheVariants.{BadOperand, Unsupported, OutOfMemory}
use Rattle.core_nodes.specs.Standing.{core_at}

abbrev pub second_of : List ℕ → Option ℕ
second_of [] = None
second_of (c ∷ []) = None
second_of (c ∷ d ∷ rest) = Some d

abbrev pub head_of : List ℕ → Option ℕ
head_of [] = None
head_of (c ∷ rest) = Some c

-- the second one of some, or the first of those behind it
abbrev pub waiting : Bool → List ℕ → Option ℕ
waiting true rest = head_of rest
waiting false rest = second_of rest

-- what a call answers of a part that may lack
abbrev pub OtherMade : Unit → Result (Option ℕ) CheckFault → Given (Option Core) → Type 0
OtherMade u (Ok None) g = g ≡ Fits None
OtherMade u (Ok (Some i)) g = g ≡ Fits (Some (core_at u i))
OtherMade u (Err (BadOperand node)) g = g ≡ Refuses Operand node
OtherMade u (Err (Unsupported kind node)) g = g ≡ Refuses kind node
OtherMade u (Err OutOfMemory) g = ⊤

-- a value as one of the type that a function returns
abbrev pub returned : World → ℕ → Sense → Ctype → Given Core
returned w at x t = value_in w at x >>= (λ v. conversion w false at v t)
