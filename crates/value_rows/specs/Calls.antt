-- The parts of the row of a call (C11 6.5.2.2).
use Rattle.std.specs.Prelude.{ℕ, zero, suc, ◌≡◌, ⊤, Bool, false, List, [], ◌∷◌, Option, Some, None, Result, Ok, Err}
use Rattle.pta_base.specs.declared.kind.Kind.TheVariants.{Operand}
use Rattle.pta_base.specs.declared.place.Place.{Place}
use Rattle.c_types.specs.declared.term.Form.{Form}
use Rattle.c_types.specs.declared.term.Form.TheVariants.{Unspecified}
use Rattle.c_types.specs.Trees.{Ctype, Ctypes, NoTypes, MoreTypes, PointerTo, FunctionFrom}
use Rattle.c_types.specs.Table.{Table, type_of}
use Rattle.c_types.specs.declared.term.TypeId.{TypeId}
use Rattle.core_tree.specs.declared.node.Unit.{Unit}
use Rattle.core_tree.specs.declared.node.NodeKind.TheVariants.{CallNode}
use Rattle.c_consts.specs.Core.{Core, Cores, Of, MoreCores, ctype_of}
use Rattle.c_senses.specs.Given.{Given, Fits, Refuses, given_if, ◌>>=◌}
use Rattle.c_senses.specs.World.{World}
use Rattle.c_senses.specs.Conversions.{operand_of, value_of, conversion, typed}
use Rattle.c_senses.specs.Objects.{arguments, further_value, one_more, is_returned, call_of}
use Rattle.core_nodes.specs.Standing.{core_at, cores_at}
use Rattle.core_nodes.specs.declared.fault.CheckFault.{CheckFault}
use Rattle.core_nodes.specs.declared.fault.CheckFault.TheVariants.{BadOperand, Unsupported, OutOfMemory}

-- a function's result, parameters and form; another type is its own result, and has no list
abbrev pub result_in : Ctype → Ctype
result_in (FunctionFrom r ps form) = r
result_in t = t

abbrev pub parameters_in : Ctype → Ctypes
parameters_in (FunctionFrom r ps form) = ps
parameters_in t = NoTypes

abbrev pub form_in : Ctype → Form
form_in (FunctionFrom r ps form) = form
form_in t = Unspecified

-- the types behind the first so many of a list, and the first of a list
abbrev pub other_types : Ctypes → Ctypes
other_types NoTypes = NoTypes
other_types (MoreTypes t rest) = rest

abbrev pub types_after : ℕ → Ctypes → Ctypes
types_after zero ps = ps
types_after (suc k) ps = types_after k (other_types ps)

abbrev pub first_type : Ctypes → Option Ctype
first_type NoTypes = None
first_type (MoreTypes t rest) = Some t

-- one argument, for its parameter or past the list
abbrev pub argument_of : World → ℕ → Core → Option Ctype → Given Core
argument_of w at a (Some t) = value_of w at a >>= (λ v. conversion w false at v t)
argument_of w at a None = value_of w at a >>= (λ v. further_value w at v)

-- what is called, and then the arguments
abbrev pub passed : World → ℕ → Core → Ctypes → List Core → Given Cores
passed w at c ps args = arguments w at ps args >>= (λ cores. Fits (one_more c cores))

-- what a call answers of the nodes under a call
abbrev pub CoresMade : Unit → Result (List ℕ) CheckFault → Given Cores → Type 0
CoresMade u (Ok is) g = g ≡ Fits (cores_at u is)
CoresMade u (Err (BadOperand node)) g = g ≡ Refuses Operand node
CoresMade u (Err (Unsupported kind node)) g = g ≡ Refuses kind node
CoresMade u (Err OutOfMemory) g = ⊤

-- those nodes' trees before others
abbrev pub cores_before : Unit → List ℕ → Cores → Cores
cores_before u [] more = more
cores_before u (i ∷ is) more = MoreCores (core_at u i) (cores_before u is more)

-- a call with so many arguments as it takes
abbrev pub call_over : World → Place → ℕ → Core → Ctype → List Core → Given Core
call_over w place at c t args =
    arguments w at (parameters_in t) args >>=
    (λ cores. given_if (is_returned w (result_in t)) Operand at
    (Fits (Of CallNode place (result_in t) (MoreCores c cores))))

-- a function to which a pointer of that type points, if it points to one
abbrev pub PointsTo : Ctype → Table → Option TypeId → Type 0
PointsTo t table None = (r : Ctype) (ps : Ctypes) (form : Form) → t ≡ PointerTo (FunctionFrom r ps form) → ⊥
PointsTo t table (Some f) =
    t ≡ PointerTo
    (FunctionFrom (result_in (type_of table f.0)) (parameters_in (type_of table f.0))
    (form_in (type_of table f.0)))

-- a call of a value that points to a function of that type, where calls may stand
abbrev pub called : World → Place → ℕ → Bool → Core → Ctype → List Core → Given Core
called w place at may c t args =
    typed at (result_in t)
    (given_if may Operand at (call_of w place at c (result_in t) (parameters_in t) (form_in t) args))
