-- That what a node's row gives is covered at the node.
use Rattle.std.specs.Prelude.{◌≡◌, ℕ, ◌+◌, ◌≤◌, true, false, List, [], ◌∷◌, Some, None, Ok, Contains, length, slice_get}
use Rattle.c_types.specs.declared.key.ObjectKey.{ObjectKey}
use Rattle.c_types.specs.declared.key.ObjectKey.TheVariants.{Entity as EntityKey, Varargs as VarargsKey}
use Rattle.c_types.specs.declared.term.PathStep.TheVariants.{Index}
use Rattle.c_types.specs.Trees.{Ctype, VaListType, PointerTo, trees_at}
use Rattle.c_types.specs.Table.{types_of}
use Rattle.type_rules.specs.Conversions.{result_of}
use Rattle.core_tree.specs.declared.node.Node.{Node}
use Rattle.core_tree.specs.declared.node.NodeKind.TheVariants.{Fetch, Assign, Sequence, CallNode, Return, VarArgs, NextArg}
use Rattle.core_tree.specs.declared.node.Program.{Program}
use Rattle.core_tree.specs.Typed.{trees_in, type_at}
use Rattle.sol_model.specs.declared.system.System.{System}
use Rattle.sol_model.specs.declared.system.CallSite.{CallSite}
use Rattle.sol_model.specs.declared.system.Function.{Function}
use Rattle.sol_model.specs.Families.{Family}
use Rattle.sol_model.specs.Rules.{IsTarget}
use Rattle.sol_model.specs.Solutions.{IsClosed}
use Rattle.obj_space.specs.declared.location.Location.{Location}
use Rattle.obj_space.specs.View.{first_from, view_of}
use Rattle.row_numbers.specs.Kept.{nodes_of, kept_row}
use Rattle.row_numbers.specs.Functions.{function_keys, number_at, number_of, key_type, parameters_of}
use Rattle.row_numbers.specs.Setting.{Setting, result_row, takes_further}
use Rattle.ref_cells.specs.declared.cells.Cell.{Cell}
use Rattle.ref_cells.specs.declared.cells.Cell.TheVariants.{Pointer, Function as FunctionCell}
use Rattle.ref_cells.specs.declared.cells.Value.{Value}
use Rattle.ref_cells.specs.declared.instance.Instance.{Instance}
use Rattle.ref_cells.specs.Cells.{under}
use Rattle.ref_state.specs.Values.{first_cell}
use Rattle.ref_mem.specs.Reads.{read, one_cell}
use Rattle.ref_mem.specs.Writes.{write}
use Rattle.call_sites.specs.Signatures.{called_type, calling_type}
use Rattle.call_sites.specs.Calls.{head_of, rest_of, ids_of, variadic_count, IsCallSite}
use Rattle.normal_form.specs.Assignments.{given_type}
use Rattle.normal_form.specs.Facts.{IsFunctionFact}
use Rattle.normal_form.specs.SystemOf.{setting_of, SystemOf}
use Rattle.covering_laws.specs.covered_types.Whole.{IsWhole, IsHeld}
use Rattle.covering_laws.specs.covered_memory.Cells.{EachCell}
use Rattle.covering_laws.specs.covered_memory.Covered.{Sets, CellIn, ValueIn, InstanceIn, MemoryIn, Leaves}
use Rattle.covering_laws.specs.covered_memory.Demands.{Grounds}
use Rattle.covering_laws.specs.covered_rows.Nodes.{IsNode, PlaceIn, HeldIn, IsWithin}

-- a program with its locations and its system, and a family that is closed for that
pub record Solved : Type 0 where
  pub program : Program
  pub space : List Location
  pub system : System
  pub is_system : SystemOf program (view_of space) system
  pub family : Family
  pub closed : IsClosed system family
  pub grounds : Grounds program.types space system

abbrev pub sets_in : Solved → Sets
sets_in s = record { table = s.program.types; space = s.space; family = s.family }

abbrev pub setting_in : Solved → Setting
setting_in s = setting_of s.program (view_of s.space) s.is_system.owners

-- what is fetched from a covered place is covered at the node
abbrev pub FetchesCovered : Type 0
FetchesCovered =
    (s : Solved) (n q : ℕ) (t : Ctype) (memory : List Instance) (place : Cell) (v : Value)
    → IsNode (trees_in s.program) n Fetch t (q ∷ [])
    → IsWhole s.program.types t
    → MemoryIn (sets_in s) memory
    → PlaceIn (sets_in s) (setting_in s) memory q place
    → read s.program.types memory place t ≡ Ok v
    → HeldIn (sets_in s) (setting_in s) memory n v

-- an assignment leaves the memory covered, and what is assigned is covered at the node
abbrev pub AssignsCovered : Type 0
AssignsCovered =
    (s : Solved) (n q v : ℕ) (t : Ctype) (memory after : List Instance) (place : Cell) (value : Value)
    → IsNode (trees_in s.program) n Assign t (q ∷ v ∷ [])
    → IsWhole s.program.types t
    → type_at (trees_in s.program) v ≡ t
    → MemoryIn (sets_in s) memory
    → PlaceIn (sets_in s) (setting_in s) memory q place
    → HeldIn (sets_in s) (setting_in s) memory v value
    → write s.program.types memory place t value ≡ Ok after
    → Leaves (sets_in s) memory after × HeldIn (sets_in s) (setting_in s) after n value

-- the value of a sequence is covered at it
abbrev pub SequencesCovered : Type 0
SequencesCovered =
    (s : Solved) (n a b : ℕ) (t : Ctype) (memory : List Instance) (v : Value)
    → IsNode (trees_in s.program) n Sequence t (a ∷ b ∷ [])
    → IsHeld s.program.types t
    → type_at (trees_in s.program) b ≡ t
    → HeldIn (sets_in s) (setting_in s) memory b v
    → HeldIn (sets_in s) (setting_in s) memory n v

-- a returned value is covered in the result rows of the function around it
abbrev pub ReturnsCovered : Type 0
ReturnsCovered =
    (s : Solved) (n v f : ℕ) (t own : Ctype) (memory : List Instance) (value : Value)
    → IsNode (trees_in s.program) n Return own (v ∷ [])
    → slice_get s.is_system.owners n ≡ Some (Some f)
    → given_type (setting_in s) f ≡ t
    → type_at (trees_in s.program) v ≡ t
    → IsHeld s.program.types t
    → HeldIn (sets_in s) (setting_in s) memory v value
    → ValueIn (sets_in s) memory
    (kept_row (result_row (trees_in s.program) (view_of s.space) (number_of (trees_in s.program) (view_of s.space) f))
    (nodes_of s.program.types t)) t value

-- a target of a call that has a body
pub record IsBodied (s : Solved) (n : ℕ) (node : Node) (site : CallSite) (target : ℕ) (function : Function)
    : Type 0 where
  pub number : ℕ
  pub at : slice_get s.system.calls number ≡ Some site
  pub of_call : IsCallSite (setting_in s) n node site
  pub is_target : IsTarget s.system s.family site target function
  pub body : function.library ≡ None

-- an argument is covered in the object of its parameter
abbrev pub ArgumentsCovered : Type 0
ArgumentsCovered =
    (s : Solved) (n : ℕ) (node : Node) (site : CallSite) (target : ℕ) (function : Function)
    (f k a l : ℕ) (key : ObjectKey) (t : Ctype) (memory : List Instance) (v : Value)
    → IsBodied s n node site target function
    → IsFunctionFact (trees_in s.program) (view_of s.space) target (EntityKey f) function
    → IsWithin (trees_in s.program) (head_of node.children) k
    → slice_get (rest_of node.children) k ≡ Some a
    → slice_get (parameters_of (trees_in s.program) (view_of s.space) f) k ≡ Some key
    → key_type (trees_in s.program) key ≡ t
    → type_at (trees_in s.program) a ≡ t
    → first_from 0 s.space key ≡ Some l
    → IsWhole s.program.types t
    → HeldIn (sets_in s) (setting_in s) memory a v
    → ValueIn (sets_in s) memory (λ i. l + i) t v

-- the list of what an activation was passed past its parameters is covered at the node that gives it
abbrev pub VarArgsCovered : Type 0
VarArgsCovered =
    (s : Solved) (n e i : ℕ) (t : Ctype) (children : List ℕ) (memory : List Instance) (inst : Instance)
    → IsNode (trees_in s.program) n (VarArgs e) t children
    → type_at (trees_in s.program) n ≡ VaListType
    → slice_get memory i ≡ Some inst
    → InstanceIn (sets_in s) memory inst
    → inst.key ≡ VarargsKey e
    → HeldIn (sets_in s) (setting_in s) memory n (one_cell (Pointer i (Index 0 ∷ []) false))

-- a pointer that the list at a covered place gives is covered at the node that takes it
abbrev pub NextArgsCovered : Type 0
NextArgsCovered =
    (s : Solved) (n q e i k : ℕ) (to : Ctype) (memory : List Instance) (place : Cell) (inst : Instance)
    → IsNode (trees_in s.program) n NextArg (PointerTo to) (q ∷ [])
    → MemoryIn (sets_in s) memory
    → PlaceIn (sets_in s) (setting_in s) memory q place
    → read s.program.types memory place VaListType ≡ Ok (one_cell (Pointer i (Index k ∷ []) false))
    → slice_get memory i ≡ Some inst
    → inst.key ≡ VarargsKey e
    → HeldIn (sets_in s) (setting_in s) memory n (one_cell (first_cell (under (Index k) inst.cells)))

-- an argument past the parameters of a variadic function is covered in the object of all that
abbrev pub FurtherCovered : Type 0
FurtherCovered =
    (s : Solved) (n : ℕ) (node : Node) (site : CallSite) (target : ℕ) (function : Function)
    (f count k a l : ℕ) (memory : List Instance) (v : Value)
    → IsBodied s n node site target function
    → slice_get (trees_in s.program).nodes n ≡ Some node
    → node.kind ≡ CallNode
    → IsFunctionFact (trees_in s.program) (view_of s.space) target (EntityKey f) function
    → variadic_count (type_at (trees_in s.program) (head_of node.children)) ≡ Some count
    → takes_further (key_type (trees_in s.program) (EntityKey f)) ≡ true
    → length (parameters_of (trees_in s.program) (view_of s.space) f) ≡ count
    → first_from 0 s.space (VarargsKey f) ≡ Some l
    → count ≤ k
    → slice_get (rest_of node.children) k ≡ Some a
    → IsWhole s.program.types (type_at (trees_in s.program) a)
    → HeldIn (sets_in s) (setting_in s) memory a v
    → EachCell (λ path cell. CellIn (sets_in s) memory (Some l) cell) v.cells

-- what a function returns is covered at the call
abbrev pub ResultsCovered : Type 0
ResultsCovered =
    (s : Solved) (n : ℕ) (node : Node) (site : CallSite) (target : ℕ) (function : Function) (key : ObjectKey)
    (t : Ctype) (memory : List Instance) (v : Value)
    → IsBodied s n node site target function
    → IsFunctionFact (trees_in s.program) (view_of s.space) target key function
    → result_of (key_type (trees_in s.program) key) ≡ t
    → type_at (trees_in s.program) n ≡ t
    → IsHeld s.program.types t
    → ValueIn (sets_in s) memory
    (kept_row (result_row (trees_in s.program) (view_of s.space) target) (nodes_of s.program.types t)) t v
    → HeldIn (sets_in s) (setting_in s) memory n v

-- the function of that number has that fact
abbrev pub HasFact : Solved → ℕ → ObjectKey → Function → Type 0
HasFact s number key function = IsFunctionFact (trees_in s.program) (view_of s.space) number key function

-- a function that a covered callee is, of the type of the call, is among the call's targets
abbrev pub TargetsCovered : Type 0
TargetsCovered =
    (s : Solved) (n : ℕ) (node : Node) (site : CallSite) (to : Ctype) (key : ObjectKey) (l : ℕ)
    (memory : List Instance)
    → IsCallSite (setting_in s) n node site
    → type_at (trees_in s.program) (head_of node.children) ≡ PointerTo to
    → Contains (function_keys (trees_in s.program)) key
    → first_from 0 s.space key ≡ Some l
    → HeldIn (sets_in s) (setting_in s) memory (head_of node.children) (one_cell (FunctionCell key))
    → called_type (key_type (trees_in s.program) key)
    ≡ calling_type (type_at (trees_in s.program) (head_of node.children))
    (trees_at (types_of s.program.types) (ids_of s.program.nodes.items (rest_of node.children)))
    → (function : Function)
    × HasFact s (number_at (trees_in s.program) (view_of s.space) l) key function
    × IsTarget s.system s.family site (number_at (trees_in s.program) (view_of s.space) l) function
