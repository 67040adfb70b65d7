-- That calls of library functions keep what sets cover.
use Rattle.std.specs.Prelude.{◌≡◌, ℕ, ◌<◌, true, List, Option, Some, Ok, slice_get}
use Rattle.c_types.specs.declared.key.ObjectKey.{ObjectKey}
use Rattle.c_types.specs.declared.key.ObjectKey.TheVariants.{Function as FunctionKey}
use Rattle.c_types.specs.declared.term.TypeId.{TypeId}
use Rattle.c_types.specs.Table.{type_of}
use Rattle.core_tree.specs.declared.node.Node.{Node}
use Rattle.core_tree.specs.Typed.{trees_in}
use Rattle.sol_model.specs.declared.system.CallSite.{CallSite}
use Rattle.sol_model.specs.declared.system.Function.{Function}
use Rattle.sol_model.specs.Places.{nodes_of as system_nodes}
use Rattle.sol_model.specs.Rules.{IsTarget}
use Rattle.obj_space.specs.View.{view_of}
use Rattle.row_numbers.specs.Kept.{nodes_of, kept_at}
use Rattle.row_numbers.specs.Numbers.{type_number}
use Rattle.ref_cells.specs.declared.cells.Value.{Value}
use Rattle.ref_cells.specs.declared.instance.Instance.{Instance}
use Rattle.ref_elements.specs.Outcomes.{Effected}
use Rattle.ref_lib.specs.declared.rows.Row.{Row}
use Rattle.ref_lib.specs.Effects.{rows, effect}
use Rattle.call_sites.specs.Calls.{IsCallSite}
use Rattle.normal_form.specs.Facts.{IsFunctionFact}
use Rattle.covering_laws.specs.covered_types.Whole.{HasFew}
use Rattle.covering_laws.specs.covered_memory.Covered.{MemoryIn}
use Rattle.covering_laws.specs.covered_rows.Laws.{Solved, sets_in, setting_in}
use Rattle.covering_laws.specs.covered_library.Calls.{IsEffectIn, Calling, Needs, Backs}

-- a call of the library function of that number, which is among the call's targets
pub record IsLibraryCall (s : Solved) (n : ℕ) (node : Node) (site : CallSite) (target : ℕ) (function : Function)
    (library : ℕ) : Type 0 where
  pub number : ℕ
  pub at : slice_get s.system.calls number ≡ Some site
  pub of_call : IsCallSite (setting_in s) n node site
  pub is_target : IsTarget s.system s.family site target function
  pub fact : IsFunctionFact (trees_in s.program) (view_of s.space) target (FunctionKey library) function

-- each kept node of a type of the table is one of the type's number in the system
abbrev pub AreCounted : Solved → Type 0
AreCounted s =
    (id : TypeId) (i : ℕ)
    → kept_at (slice_get (nodes_of s.program.types (type_of s.program.types id.0)) i) ≡ true
    → i < system_nodes s.system (type_number (type_of s.program.types id.0))

abbrev pub calling : Solved
    → List Instance
    → ℕ
    → Node
    → CallSite
    → ℕ
    → ObjectKey
    → Option TypeId
    → List Value
    → Calling
calling s memory n node site target key fixed arguments = record {
  sets = sets_in s;
  setting = setting_in s;
  memory = memory;
  n = n;
  node = node;
  site = site;
  target = target;
  key = key;
  fixed = fixed;
  arguments = arguments;
}

-- what each row of the table takes, where it is the function's
abbrev pub MeetsNeeds : Calling → ℕ → Type 0
MeetsNeeds c library = (row : Row) → slice_get rows library ≡ Some row → Needs c row

-- what the effect of the function's row leaves and gives is covered, and so is what it calls back with
pub record IsEffectOf (c : Calling) (library : ℕ) (needs : MeetsNeeds c library) (e : Effected) : Type 0 where
  pub row : Row
  pub row_is : slice_get rows library ≡ Some row
  pub effect_in : IsEffectIn c.sets c.setting c.n c.memory e
  pub backs : Backs c row (needs row row_is) e.outcome.next

-- the effect of a library function of any number, whatever the word and the sizes are, leaves a covered memory covered
abbrev pub EffectsCovered : Type 0
EffectsCovered =
    (s : Solved) (n : ℕ) (node : Node) (site : CallSite) (target : ℕ) (function : Function) (library : ℕ)
    (memory : List Instance) (key : ObjectKey) (fixed : Option TypeId) (result : TypeId) (arguments : List Value)
    (word : ℕ) (e : Effected)
    → IsLibraryCall s n node site target function library
    → MemoryIn (sets_in s) memory
    → HasFew s.program.types
    → AreCounted s
    → (needs : MeetsNeeds (calling s memory n node site target key fixed arguments) library)
    → effect s.program.types memory library key fixed result arguments word ≡ Ok e
    → IsEffectOf (calling s memory n node site target key fixed arguments) library needs e
