-- Null constants (C11 6.3.2.3p3).
use Rattle.std.specs.Prelude.{pos, Bool, true, false, ◌||◌}
use Rattle.std.specs.Ordering.{int_eq}
use Rattle.c_consts.specs.passed.core_tree.declared.node.NodeKind.{NodeKind}
use Rattle.c_consts.specs.passed.core_tree.declared.node.NodeKind.TheVariants.{NullValue}
use Rattle.c_inits.specs.passed.c_types.Trees.{Ctype, VoidType, PointerTo}
use Rattle.c_consts.specs.Core.{Core, kind_of, ctype_of}
use Rattle.c_consts.specs.Answer.{Found, Value, Fails, answer}

abbrev pub is_zero_found : Found → Bool
is_zero_found (Value n) = int_eq n (pos 0)
is_zero_found (Fails wrong path) = false

abbrev pub is_void_pointer : Ctype → Bool
is_void_pointer (PointerTo VoidType) = true
is_void_pointer t = false

abbrev pub is_null_pointer : NodeKind → Ctype → Bool
is_null_pointer NullValue t = is_void_pointer t
is_null_pointer kind t = false

-- an integer constant expression of the value 0, or a null value of the type void *
abbrev pub is_null : Core → Bool
is_null c = is_null_pointer (kind_of c) (ctype_of c) || is_zero_found (answer c true)
