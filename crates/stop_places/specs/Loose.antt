-- Programs that hand on pointers to arrays where no type is known.
use Rattle.std.specs.Prelude.{ℕ, suc, ◌⊎◌, Bool, true, false, IsTrue, List, [], ◌∷◌, drop, Contains}
use Rattle.c_types.specs.Trees.{Ctype, Ctypes, NoTypes, MoreTypes, PointerTo, ArrayOf, FunctionFrom}
use Rattle.core_tree.specs.declared.node.NodeKind.{NodeKind}
use Rattle.core_tree.specs.declared.node.NodeKind.TheVariants.{Convert, CallNode, NextArg}
use Rattle.core_tree.specs.Typed.{CoreTrees, type_at}
use Rattle.core_tree.specs.Range.{SomeNode, IsChild}
use Rattle.stop_places.specs.Fits.{Solution}
use Rattle.stop_places.specs.Targets.{CallAt, ReachesSomeLibrary}

-- an array, or what leads to one through pointers alone
abbrev pub leads_to_array : Ctype → Bool
leads_to_array (ArrayOf of length) = true
leads_to_array (PointerTo to) = leads_to_array to
leads_to_array t = false

-- a pointer type that mentions an array through pointers alone
abbrev pub is_loose : Ctype → Bool
is_loose (PointerTo to) = leads_to_array to
is_loose t = false

abbrev pub HasLooseType : CoreTrees → ℕ → Type 0
HasLooseType u n = IsTrue (is_loose (type_at u n))

-- the node is of a loose type, or has an operand of one
abbrev pub IsLooseNode : CoreTrees → ℕ → Type 0
IsLooseNode u n = HasLooseType u n ⊎ ((c : ℕ) × IsChild u n c × HasLooseType u c)

abbrev pub IsSomeLoose : CoreTrees → List ℕ → Type 0
IsSomeLoose u values = (a : ℕ) × Contains values a × IsLooseNode u a

-- how many types stand in a list
abbrev pub count_types : Ctypes → ℕ
count_types NoTypes = 0
count_types (MoreTypes t rest) = suc (count_types rest)

-- how many parameters the type of a callee names
abbrev pub parameter_count : Ctype → ℕ
parameter_count (PointerTo (FunctionFrom result parameters form)) = count_types parameters
parameter_count t = 0

-- the arguments past the last parameter of the callee's type
abbrev pub further : CoreTrees → ℕ → List ℕ → List ℕ
further u callee arguments = drop (parameter_count (type_at u callee)) arguments

-- a call with a loose argument past the last parameter; one with a target of the library that is loose itself, or
-- has a loose argument
abbrev pub LooseCall : Solution → ℕ → List ℕ → Type 0
LooseCall x n [] = ⊥
LooseCall x n (callee ∷ arguments) =
    IsSomeLoose x.trees (further x.trees callee arguments)
    ⊎ (CallAt x n ReachesSomeLibrary × (IsLooseNode x.trees n ⊎ IsSomeLoose x.trees arguments))

abbrev pub LooseBy : Solution → ℕ → NodeKind → List ℕ → Type 0
LooseBy x n Convert children = IsLooseNode x.trees n
LooseBy x n NextArg children = IsLooseNode x.trees n
LooseBy x n CallNode children = LooseCall x n children
LooseBy x n kind children = ⊥

-- the program is loose: a node of it is
abbrev pub IsLoose : Solution → Type 0
IsLoose x = SomeNode x.trees (λ n node. LooseBy x n node.kind node.children)
