-- What a call answers of the parts of a row.
use Rattle.std.specs.Prelude.{◌≡◌, ⊤, Result, Ok, Err}
use Rattle.pta_base.specs.declared.kind.Kind.TheVariants.{Operand}
use Rattle.c_types.specs.declared.term.TypeId.{TypeId}
use Rattle.c_types.specs.Trees.{Ctype}
use Rattle.c_types.specs.Table.{type_of}
use Rattle.core_tree.specs.declared.node.Unit.{Unit}
use Rattle.c_senses.specs.Given.{Given, Fits, Refuses}
use Rattle.core_nodes.specs.declared.fault.CheckFault.{CheckFault}
use Rattle.core_nodes.specs.declared.fault.CheckFault.TheVariants.{BadOperand, Unsupported, OutOfMemory}

-- the type that a part stands for
abbrev pub TypeGiven : Unit → Result TypeId CheckFault → Given Ctype → Type 0
TypeGiven u (Ok id) g = g ≡ Fits (type_of u.types id.0)
TypeGiven u (Err (BadOperand node)) g = g ≡ Refuses Operand node
TypeGiven u (Err (Unsupported kind node)) g = g ≡ Refuses kind node
TypeGiven u (Err OutOfMemory) g = ⊤
