-- Which functions a call reaches (C11 6.5.2.2).
use Rattle.std.specs.Prelude.{ℕ, ◌&&◌, Bool, true, false, if◌then◌else◌, List, Result, Ok, Err}
use Rattle.c_types.specs.declared.key.ObjectKey.{ObjectKey}
use Rattle.c_types.specs.Trees.{Ctype, FunctionFrom, trees_at}
use Rattle.c_types.specs.Table.{types_of}
use Rattle.core_tree.specs.Typed.{CoreTrees, type_at}
use Rattle.row_numbers.specs.Functions.{key_type}
use Rattle.call_sites.specs.Signatures.{called_type, calling_type}
use Rattle.call_sites.specs.Calls.{ids_of}
use Rattle.ref_cells.specs.declared.cells.Reason.{Reason}
use Rattle.ref_cells.specs.declared.cells.Reason.TheVariants.{NullUse, Unset as UnsetUse, BadCall}
use Rattle.ref_cells.specs.declared.cells.Cell.{Cell}
use Rattle.ref_cells.specs.declared.cells.Cell.TheVariants.{Unset, Null, Function}
use Rattle.ref_elements.specs.Types.{same_type}

abbrev pub is_function : Ctype → Bool
is_function (FunctionFrom result parameters form) = true
is_function t = false

-- the type by which a function is called
abbrev pub signature_of : CoreTrees → ObjectKey → Ctype
signature_of u key = called_type (key_type u key)

-- the type of a call
abbrev pub call_type : CoreTrees → ℕ → List ℕ → Ctype
call_type u callee arguments =
    calling_type (type_at u callee) (trees_at (types_of u.types) (ids_of u.nodes arguments))

-- a call reaches the functions of its own type
abbrev pub fits : CoreTrees → ObjectKey → ℕ → List ℕ → Bool
fits u key callee arguments =
    is_function (signature_of u key) && same_type (signature_of u key) (call_type u callee arguments)

-- the function that a callee is
abbrev pub callee_of : CoreTrees → ℕ → List ℕ → Cell → Result ObjectKey Reason
callee_of u callee arguments Null = Err NullUse
callee_of u callee arguments Unset = Err UnsetUse
callee_of u callee arguments (Function key) = if fits u key callee arguments then Ok key else Err BadCall
callee_of u callee arguments cell = Err BadCall
