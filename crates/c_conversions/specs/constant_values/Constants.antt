-- What calls answer of integer constants, and the results whose constants can be computed.
use Rattle.std.specs.Prelude.{ℕ, ℤ, ◌≡◌, ◌||◌, ⊤, Bool, true, List, Option, Some, None, Result, Ok, Err, slice_get}
use Rattle.pta_base.specs.declared.kind.Kind.TheVariants.{Operand, Constant, ConstantRange}
use Rattle.pta_base.specs.declared.kind.Kind.TheVariants.{DivideByZero as ZeroKind}
use Rattle.pta_base.specs.declared.place.Place.{Place}
use Rattle.c_types.specs.Trees.{Ctype}
use Rattle.core_tree.specs.declared.node.Node.{Node}
use Rattle.core_tree.specs.declared.node.Unit.{Unit}
use Rattle.core_tree.specs.Typed.{decayed}
use Rattle.c_consts.specs.declared.fault.ConstFault.{ConstFault}
use Rattle.c_consts.specs.declared.fault.ConstFault.TheVariants.{NotConstant, Range, DivideByZero}
use Rattle.core_nodes.specs.passed.c_senses.Tree.{Source}
use Rattle.core_nodes.specs.passed.c_senses.Constants.{leaf_of_place}
use Rattle.core_nodes.specs.passed.c_senses.Conversions.{operand_of, is_fetched, is_list}
use Rattle.core_nodes.specs.passed.c_senses.Given.{Given, Fits, Refuses}
use Rattle.core_nodes.specs.passed.c_senses.World.{World}
use Rattle.core_nodes.specs.passed.c_senses.Sense.{Sense, IsCore}
use Rattle.c_conversions.specs.Constants.{HasRows}
use Rattle.c_results.specs.declared.made.Made.{Made}
use Rattle.c_results.specs.Standing.{sense_made}
use Rattle.core_nodes.specs.declared.fault.CheckFault.{CheckFault}
use Rattle.core_nodes.specs.declared.fault.CheckFault.TheVariants.{BadOperand, Unsupported, OutOfMemory}

-- the constant, or its refusal; memory never wants
abbrev pub ConstantMade : Result ℤ CheckFault → Given ℤ → Type 0
ConstantMade (Ok n) g = g ≡ Fits n
ConstantMade (Err (BadOperand node)) g = g ≡ Refuses Operand node
ConstantMade (Err (Unsupported kind node)) g = g ≡ Refuses kind node
ConstantMade (Err OutOfMemory) g = ⊥

-- an expression whose constants stand in their rows; nothing is asked of other senses
abbrev pub SenseHasRows : Sense → Type 0
SenseHasRows (IsCore c) = HasRows c
SenseHasRows x = ⊤

abbrev pub HasConstants : Unit → Made → Type 0
HasConstants u m = SenseHasRows (sense_made u m)

-- a place of that type has a value
abbrev pub has_value_by : World → Ctype → Option Ctype → Bool
has_value_by w t (Some pointer) = true
has_value_by w t None = is_fetched w (operand_of t) || is_list t

abbrev pub has_value : World → Ctype → Bool
has_value w t = has_value_by w t (decayed t)

abbrev pub place_in : Option Node → Place
place_in None = record { unit = 0; line = 0; column = 0 }
place_in (Some n) = n.place

-- a fault's kind, at the leaf of its own node's place
abbrev pub refused : Source → List Node → ℕ → ConstFault → CheckFault
refused s nodes at (NotConstant i) = Unsupported Constant (leaf_of_place s at (place_in (slice_get nodes i)))
refused s nodes at (Range i) = Unsupported ConstantRange (leaf_of_place s at (place_in (slice_get nodes i)))
refused s nodes at (DivideByZero i) = Unsupported ZeroKind (leaf_of_place s at (place_in (slice_get nodes i)))
