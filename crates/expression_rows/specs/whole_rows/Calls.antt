-- The row of a call over its parts (C11 6.5.2.2).
use Rattle.std.specs.Prelude.{ℕ, ◌≡◌, ⊤, not, List, map, Result, Ok, Err}
use Rattle.pta_base.specs.declared.kind.Kind.TheVariants.{Operand}
use Rattle.core_tree.specs.declared.node.Unit.{Unit}
use Rattle.c_consts.specs.Core.{Core}
use Rattle.c_senses.specs.Given.{Given, Fits, Refuses, ◌>>=◌}
use Rattle.c_senses.specs.Tree.{Source, all_where, is_leaf, left_of, place_at}
use Rattle.c_senses.specs.World.{World}
use Rattle.c_senses.specs.Objects.{call_row}
use Rattle.c_senses.specs.Sense.{Sense, core_of}
use Rattle.c_senses.specs.Expressions.{all_cores}
use Rattle.core_nodes.specs.Standing.{core_at}
use Rattle.core_nodes.specs.declared.fault.CheckFault.{CheckFault}
use Rattle.core_nodes.specs.declared.fault.CheckFault.TheVariants.{BadOperand, Unsupported, OutOfMemory}

-- what a call answers of the trees of some parts
abbrev pub CoresGiven : Unit → Result (List ℕ) CheckFault → Given (List Core) → Type 0
CoresGiven u (Ok is) g = g ≡ Fits (map (λ i. core_at u i) is)
CoresGiven u (Err (BadOperand node)) g = g ≡ Refuses Operand node
CoresGiven u (Err (Unsupported kind node)) g = g ≡ Refuses kind node
CoresGiven u (Err OutOfMemory) g = ⊤

module _ (w : World) (s : Source) (sense : ℕ → Sense) where
  -- the trees of those of some parts that are no tokens
  abbrev pub argument_cores : ℕ → List ℕ → Given (List Core)
  argument_cores at parts = all_cores w s sense at (all_where (λ c. not (is_leaf s c)) parts)

  -- what stands to the left of a parenthesis is called with the parts behind it that are no tokens
  abbrev pub call_parts : ℕ → ℕ → List ℕ → Given Core
  call_parts at first parts =
      core_of at (sense (left_of s first)) >>= (λ f. argument_cores at parts >>= call_row w (place_at s first) at f)
