-- The calls of a program in order of node (C11 6.5.2.2).
use Rattle.std.specs.Prelude.{◌≡◌, ℕ, ◌+◌, ◌==◌, ◌||◌, Bool, true, false, if◌then◌else◌, List, [], ◌∷◌, Option}
use Rattle.std.specs.Prelude.{Some, None, ◌++◌, zero, suc, length, map, take, slice_get, option_and_then}
use Rattle.std.specs.List.{filter_map, enumerate_from, range_with_len, list_any, AllZip}
use Rattle.std.specs.Option.{is_some, option_map, option_map_or}
use Rattle.pta_base.specs.declared.effect.Effect.{Effect}
use Rattle.pta_base.specs.declared.effect.Effect.TheVariants.{GivesNew, GivesObject}
use Rattle.c_types.specs.declared.key.ObjectKey.{ObjectKey}
use Rattle.c_types.specs.declared.key.ObjectKey.TheVariants.{Call as CallKey, Library, Star, Function}
use Rattle.c_types.specs.declared.term.TypeId.{TypeId}
use Rattle.c_types.specs.declared.term.Form.TheVariants.{Variadic}
use Rattle.c_types.specs.Trees.{Ctype, Ctypes, NoTypes, MoreTypes, PointerTo, FunctionFrom, trees_at}
use Rattle.c_types.specs.Table.{types_of}
use Rattle.core_tree.specs.declared.node.Node.{Node}
use Rattle.core_tree.specs.declared.node.NodeKind.{NodeKind}
use Rattle.core_tree.specs.declared.node.NodeKind.TheVariants.{FunctionName, Decay, CallNode}
use Rattle.core_tree.specs.Typed.{CoreTrees, type_at}
use Rattle.sol_model.specs.declared.system.CallSite.{CallSite}
use Rattle.obj_space.specs.View.{SpaceView}
use Rattle.lib_summaries.specs.Table.{effects_of}
use Rattle.row_numbers.specs.Objects.{library_number}
use Rattle.row_numbers.specs.Functions.{functions_of, number_of}
use Rattle.row_numbers.specs.Setting.{Setting, row, rest_row, value_rows}
use Rattle.call_sites.specs.Signatures.{IsSignature, calling_type}

abbrev pub is_call : NodeKind → Bool
is_call CallNode = true
is_call kind = false

abbrev pub call_if : ℕ → Option Node → Option ℕ
call_if n None = None
call_if n (Some node) = if is_call node.kind then Some n else None

-- the numbers of the call nodes among the first so many nodes
abbrev pub calls_upto : List Node → ℕ → List ℕ
calls_upto nodes count = filter_map (λ n. call_if n (slice_get nodes n)) (range_with_len 0 count)

-- the first child, and those after it
abbrev pub head_of : List ℕ → ℕ
head_of [] = 0
head_of (c ∷ rest) = c

abbrev pub rest_of : List ℕ → List ℕ
rest_of [] = []
rest_of (c ∷ rest) = rest

abbrev pub name_of : NodeKind → Option ℕ
name_of (FunctionName e) = Some e
name_of kind = None

abbrev pub name_at : List Node → ℕ → Option ℕ
name_at nodes n = option_and_then (λ node. name_of node.kind) (slice_get nodes n)

-- what a Decay stands over
abbrev pub under_decay : NodeKind → List ℕ → Option ℕ
under_decay Decay (p ∷ []) = Some p
under_decay kind children = None

abbrev pub decayed_at : List Node → ℕ → Option ℕ
decayed_at nodes n = option_and_then (λ node. under_decay node.kind node.children) (slice_get nodes n)

-- the function that a call names, where its callee is a function's name
abbrev pub named_callee : CoreTrees → Node → Option ℕ
named_callee u node = option_and_then (name_at u.nodes) (decayed_at u.nodes (head_of node.children))

-- the number of the library function that a call names
abbrev pub named_library : CoreTrees → Node → Option ℕ
named_library u node =
    option_and_then (λ e. option_and_then library_number (slice_get u.entities e)) (named_callee u node)

-- a new object, or one of the library
abbrev pub is_giving : Effect → Bool
is_giving GivesNew = true
is_giving (GivesObject object) = true
is_giving effect = false

abbrev pub is_giver : ObjectKey → Bool
is_giver (Function k) = list_any is_giving (effects_of k)
is_giver key = false

abbrev pub library_of : ObjectKey → ℕ
library_of (Function k) = k
library_of key = 0

abbrev pub giver_in : ℕ → ObjectKey → Option (ℕ × ℕ)
giver_in number key = if is_giver key then Some (number, library_of key) else None

-- those of these functions that give objects: the number of each in the program, and that in the library
abbrev pub givers_in : List ObjectKey → List (ℕ × ℕ)
givers_in functions = filter_map (λ entry. giver_in entry.0 entry.1) (enumerate_from 0 functions)

abbrev pub is_named : Option ℕ → ℕ → Bool
is_named named k = option_map_or (λ number. number == k) named false

-- the object that a call gets from a library function: a new one is that of the call, where the call names the
-- function
abbrev pub object_by : SpaceView → ℕ → Option ℕ → ℕ → List Effect → Option ℕ
object_by s n named k [] = None
object_by s n named k (GivesNew ∷ rest) = if is_named named k then s.first (CallKey n) else s.first (Star k)
object_by s n named k (GivesObject object ∷ rest) = s.first (Library object)
object_by s n named k (effect ∷ rest) = object_by s n named k rest

abbrev pub fresh_by : SpaceView → ℕ → Option ℕ → ℕ × ℕ → Option (ℕ × ℕ)
fresh_by s n named giver =
    option_map (λ location. (giver.0, location)) (object_by s n named giver.1 (effects_of giver.1))

abbrev pub fresh_in : SpaceView → ℕ → Option ℕ → List (ℕ × ℕ) → List (ℕ × ℕ)
fresh_in s n named givers = filter_map (fresh_by s n named) givers

-- what the call at node n gets from each library function
abbrev pub fresh_of : CoreTrees → SpaceView → ℕ → Option ℕ → List (ℕ × ℕ)
fresh_of u s n named = fresh_in s n named (givers_in (functions_of u s))

-- the number of the function around a node
abbrev pub caller_by : Setting → Option (Option ℕ) → ℕ
caller_by w (Some (Some f)) = number_of w.trees w.space f
caller_by w owner = 0

-- the types of values
abbrev pub ids_of : List Node → List ℕ → List TypeId
ids_of nodes values = filter_map (λ n. option_map (λ node. node.ty) (slice_get nodes n)) values

-- the signature of a call: that of its callee's type, with the types of its arguments
abbrev pub IsCallSignature : Setting → ℕ → List ℕ → ℕ → Type 0
IsCallSignature w callee arguments signature =
    IsSignature w.trees.types
    (calling_type (type_at w.trees callee)
    (trees_at (types_of w.trees.types) (ids_of w.trees.nodes arguments)))
    signature

abbrev pub count_of : Ctypes → ℕ
count_of NoTypes = 0
count_of (MoreTypes t rest) = suc (count_of rest)

-- how many parameters a pointer to a variadic function has
abbrev pub variadic_count : Ctype → Option ℕ
variadic_count (PointerTo (FunctionFrom result parameters Variadic)) = Some (count_of parameters)
variadic_count t = None

-- the rows of each argument, and where the callee is variadic one row for all arguments past its parameters
abbrev pub rows_past : CoreTrees → SpaceView → ℕ → Option ℕ → List ℕ → List (List ℕ)
rows_past u s n None arguments = map (value_rows u s) arguments
rows_past u s n (Some count) arguments =
    map (value_rows u s) (take count arguments) ++ (rest_row u s n ∷ []) ∷ []

abbrev pub argument_rows : CoreTrees → SpaceView → ℕ → ℕ → List ℕ → List (List ℕ)
argument_rows u s n callee arguments = rows_past u s n (variadic_count (type_at u callee)) arguments

-- the call at node n
pub record IsCallSite (w : Setting) (n : ℕ) (node : Node) (site : CallSite) : Type 0 where
  pub caller : site.caller ≡ caller_by w (slice_get w.owners n)
  pub callee : site.callee ≡ row w.trees w.space (head_of node.children)
  pub signature : IsCallSignature w (head_of node.children) (rest_of node.children) site.signature
  pub direct : site.direct ≡ is_some (named_callee w.trees node)
  pub place : site.place ≡ node.place
  pub arguments : site.arguments
      ≡ argument_rows w.trees w.space n (head_of node.children) (rest_of node.children)
  pub result : site.result ≡ value_rows w.trees w.space n
  pub fresh : site.fresh ≡ fresh_of w.trees w.space n (named_library w.trees node)

-- the call at the node of that number
pub record IsSiteAt (w : Setting) (n : ℕ) (site : CallSite) : Type 0 where
  pub node : Node
  pub there : slice_get w.trees.nodes n ≡ Some node
  pub right : IsCallSite w n node site

abbrev pub AreCallsUpTo : Setting → ℕ → List CallSite → Type 0
AreCallsUpTo w count calls = AllZip (IsSiteAt w) (calls_upto w.trees.nodes count) calls

-- a call for each call node, in order
abbrev pub AreCalls : Setting → List CallSite → Type 0
AreCalls w calls = AreCallsUpTo w (length w.trees.nodes) calls
