-- Rows that leave memory as it is: those that look at no object, and those that name one of the library's.
use Rattle.std.proofs.Common.{◌≡◌, ℕ, ℤ, pos, Bool, true, false, cond, List, [], ◌∷◌, Option, Some, None, Result, Ok, Err, slice_get, Contains, refl, subst}
use Rattle.pta_base.specs.declared.effect.Effect.TheVariants.{GivesObject}
use Rattle.c_types.specs.declared.term.PathStep.{PathStep}
use Rattle.c_types.specs.declared.term.PathStep.TheVariants.{Index}
use Rattle.c_types.specs.Trees.{Ctype, PointerTo}
use Rattle.core_tree.specs.declared.node.Node.{Node}
use Rattle.core_tree.specs.declared.node.Program.{Program}
use Rattle.core_tree.specs.Typed.{trees_in, type_at}
use Rattle.sol_model.specs.declared.system.System.{System}
use Rattle.sol_model.specs.declared.system.CallSite.{CallSite}
use Rattle.sol_model.specs.declared.system.Function.{Function}
use Rattle.sol_model.specs.Families.{Family}
use Rattle.sol_model.specs.Rules.{IsTarget}
use Rattle.sol_model.specs.Solutions.{IsClosed}
use Rattle.obj_space.specs.declared.location.Location.{Location}
use Rattle.obj_space.specs.View.{view_of}
use Rattle.row_numbers.specs.Setting.{Setting}
use Rattle.ref_cells.specs.declared.cells.Reason.{Reason}
use Rattle.ref_cells.specs.declared.cells.Cell.{Cell}
use Rattle.ref_cells.specs.declared.cells.Cell.TheVariants.{Unset, Number, Null, Pointer, Function as FunctionCell}
use Rattle.ref_cells.specs.declared.cells.Value.{Value}
use Rattle.ref_cells.specs.declared.instance.Instance.{Instance}
use Rattle.ref_cells.specs.Wholes.{whole_of}
use Rattle.ref_mem.specs.Reads.{one_cell}
use Rattle.ref_elements.specs.declared.outcome.LibOutcome.{LibOutcome}
use Rattle.ref_elements.specs.declared.outcome.Next.{Next}
use Rattle.ref_elements.specs.Objects.{is_odd, object_from, element_of_object, place_of_object}
use Rattle.ref_elements.specs.Outcomes.{Effected, goes, gives, no_value, null_value, number_value, start_value}
use Rattle.ref_lib.specs.ref_alloc.Allocation.{object_row, perhaps_row, place_row}
use Rattle.ref_lib.specs.ref_alloc.Plain.{keep_row}
use Rattle.ref_lib.specs.declared.rows.Plain.{Plain}
use Rattle.ref_lib.specs.declared.rows.Plain.TheVariants.{AnyNumber, Byte, InClass, ToUpper, ToLower, Keep, Exit, Abort}
use Rattle.ref_lib.specs.Effects.{answers}
use Rattle.ref_elements.specs.Arguments.{argument}
use Rattle.call_sites.specs.Calls.{IsCallSite}
use Rattle.normal_form.specs.SystemOf.{SystemOf}
use Rattle.covering_laws.specs.covered_memory.Spots.{spot, room, IsInTree}
use Rattle.covering_laws.specs.covered_memory.Covered.{Sets, MemoryIn, Leaves}
use Rattle.covering_laws.specs.covered_memory.Demands.{Grounds}
use Rattle.covering_laws.proofs.covered_memory.Stays.{same_memory}
use Rattle.covering_laws.specs.covered_rows.Nodes.{HeldIn}
use Rattle.covering_laws.proofs.covered_rows.Places.{cell_held}
use Rattle.covering_laws.proofs.covered_rows.Values.{sets, w'}
use Rattle.covering_laws.proofs.covered_library.Effects.{gives_object_in}
use Rattle.covering_laws.proofs.covered_library.Allocation.{IsCovered}
use Rattle.covering_laws.specs.covered_library.Calls.{StoresIn, IsNamed as IsNamedAt}

ok_one : {X : Type 0} → {x y : X} → ◌≡◌ {A = Result X Reason} (Ok x) (Ok y) → x ≡ y
ok_one h = cc

err_ok : {X : Type 0} → {r : Reason} → {x : X} → ◌≡◌ {A = Result X Reason} (Err r) (Ok x) → ⊥
err_ok h = cc

module _ (p : Program) (space : List Location) (system : System) (is : SystemOf p (view_of space) system) (F : Family) (closed : IsClosed system F) (grounds : Grounds p.types space system)
    (number n : ℕ) (node : Node) (site : CallSite) (at : slice_get system.calls number ≡ Some site) (of_call : IsCallSite (w' p space system is F closed grounds) n node site)
    (target : ℕ) (function : Function) (is_target : IsTarget system F site target function) (library : ℕ) (is_library : function.library ≡ Some library) where
  abbrev g : Sets
  g = sets p space system is F closed grounds

  abbrev w : Setting
  w = w' p space system is F closed grounds

  -- a row's answer is covered
  abbrev pub IsDone : List Instance → Effected → Type 0
  IsDone memory e = IsCovered p space system is F closed grounds number n node site at of_call target function is_target library is_library memory e

  -- an answer with what it leaves and gives
  pub answered : (memory after : List Instance) (o : LibOutcome) (e : Effected) → Leaves g memory after → HeldIn g w after n o.value → StoresIn g after o.stores
      → ◌≡◌ {A = Result Effected Reason} (Ok (record { memory = after; outcome = o })) (Ok e) → IsDone memory e
  answered memory after o e leaves value stored h = subst (IsDone memory) (ok_one h) (record { leaves = leaves; value = value; stores = stored })

  -- the same memory
  pub kept_in : (memory : List Instance) → MemoryIn g memory → (value : Value) (next : Next) (e : Effected) → HeldIn g w memory n value → goes memory value next ≡ Ok e → IsDone memory e
  kept_in memory all value next e held h =
      answered memory memory (record { value = value; stores = []; next = next }) e (record { extends = same_memory g memory; covered = all }) held tt h

  pub numbered_in : (memory : List Instance) → MemoryIn g memory → (t : Ctype) (k : ℤ) (next : Next) (e : Effected) → goes memory (number_value t k) next ≡ Ok e → IsDone memory e
  numbered_in memory all t k next e h = kept_in memory all (number_value t k) next e (tt, tt) h

  keep_in : (memory : List Instance) → MemoryIn g memory → (t : Ctype) (a1 : Cell) (e : Effected) → keep_row memory t a1 ≡ Ok e → IsDone memory e
  keep_in memory all t Null e h = absurd (err_ok h)
  keep_in memory all t Unset e h = absurd (err_ok h)
  keep_in memory all t (Number k) e h = absurd (err_ok h)
  keep_in memory all t (Pointer i path past) e h = absurd (err_ok h)
  keep_in memory all t (FunctionCell key) e h = numbered_in memory all t (pos 0) _ e h

  -- the rows that look at no object: 35 functions
  pub plain_in : (memory : List Instance) → MemoryIn g memory → (row : Plain) (t : Ctype) (args : List Value) (word : ℕ) (e : Effected) → answers memory row t args word ≡ Ok e → IsDone memory e
  plain_in memory all AnyNumber t args word e h = numbered_in memory all t _ _ e h
  plain_in memory all Byte t args word e h = numbered_in memory all t _ _ e h
  plain_in memory all (InClass class) t args word e h = numbered_in memory all t _ _ e h
  plain_in memory all ToUpper t args word e h = numbered_in memory all t _ _ e h
  plain_in memory all ToLower t args word e h = numbered_in memory all t _ _ e h
  plain_in memory all Keep t args word e h = keep_in memory all t (argument args 0) e h
  plain_in memory all Exit t args word e h = kept_in memory all no_value _ e tt h
  plain_in memory all Abort t args word e h = kept_in memory all no_value _ e tt h

  -- null is covered where a pointer is
  pub null_done : (to : Ctype) → type_at (trees_in p) n ≡ PointerTo to → (memory : List Instance) → MemoryIn g memory → (e : Effected) → gives memory null_value ≡ Ok e → IsDone memory e
  null_done to tn memory all e h = kept_in memory all null_value _ e (cell_held p space system is F closed grounds n to memory Null tn tt) h

  -- where the library's object is whose place a row gives
  abbrev pub IsNamed : List Instance → ℕ → List PathStep → Type 0
  IsNamed memory position path = IsNamedAt g site target memory position path

  -- from where the object is in memory, and its location among the call's objects
  pub named_by : (memory : List Instance) (position : ℕ) (path : List PathStep) (l : ℕ)
      → ((i : ℕ) → object_from position 0 memory ≡ Some i
      → (inst : Instance) × (slice_get memory i ≡ Some inst) × IsInTree p.types (whole_of p.types inst) (room inst) path × (spot p.types space inst.key path ≡ Some l))
      → Contains site.fresh (target, l) → IsNamed memory position path
  named_by memory position path l there fresh = record { known = λ i e. (let o = there i e in (o.0, l, o.1, o.2, o.3, fresh)) }

  pub named_held : (to : Ctype) (position : ℕ) → Contains function.effects (GivesObject position) → type_at (trees_in p) n ≡ PointerTo to → (memory : List Instance) (path : List PathStep) (i : ℕ)
      → ((inst : Instance) × (l : ℕ) × (slice_get memory i ≡ Some inst) × IsInTree p.types (whole_of p.types inst) (room inst) path × (spot p.types space inst.key path ≡ Some l) × Contains site.fresh (target, l))
      → HeldIn g w memory n (one_cell (Pointer i path false))
  named_held to position listed tn memory path i k =
      gives_object_in p space system is F closed grounds number n node site at of_call target function is_target library is_library to position listed tn memory i k.0 path k.1 k.2 k.3 k.4 k.5

  -- strerror
  pub object_done : (to : Ctype) (position : ℕ) → Contains function.effects (GivesObject position) → type_at (trees_in p) n ≡ PointerTo to → (memory : List Instance) → MemoryIn g memory
      → IsNamed memory position (Index 0 ∷ []) → (e : Effected) → object_row position memory ≡ Ok e → IsDone memory e
  object_done to position listed tn memory all is_named e h = by (object_from position 0 memory) refl h
    where
      by : (o : Option ℕ) → object_from position 0 memory ≡ o → element_of_object memory o ≡ Ok e → IsCovered p space system is F closed grounds number n node site at of_call target function is_target library is_library memory e
      by None k f = absurd (err_ok f)
      by (Some i) k f = kept_in memory all (start_value i) _ e (named_held to position listed tn memory (Index 0 ∷ []) i (is_named.known i k)) f

  -- getenv, fopen
  pub perhaps_done : (to : Ctype) (position : ℕ) → Contains function.effects (GivesObject position) → type_at (trees_in p) n ≡ PointerTo to → (memory : List Instance) → MemoryIn g memory
      → IsNamed memory position (Index 0 ∷ []) → (word : ℕ) (e : Effected) → perhaps_row position memory word ≡ Ok e → IsDone memory e
  perhaps_done to position listed tn memory all is_named word e h = by (is_odd word) h
    where
      by : (b : Bool) → cond b (gives memory null_value) (object_row position memory) ≡ Ok e → IsCovered p space system is F closed grounds number n node site at of_call target function is_target library is_library memory e
      by true k = null_done to tn memory all e k
      by false k = object_done to position listed tn memory all is_named e k

  -- __errno_location
  pub place_done : (to : Ctype) (position : ℕ) → Contains function.effects (GivesObject position) → type_at (trees_in p) n ≡ PointerTo to → (memory : List Instance) → MemoryIn g memory
      → IsNamed memory position [] → (e : Effected) → place_row position memory ≡ Ok e → IsDone memory e
  place_done to position listed tn memory all is_named e h = by (object_from position 0 memory) refl h
    where
      by : (o : Option ℕ) → object_from position 0 memory ≡ o → place_of_object memory o ≡ Ok e → IsCovered p space system is F closed grounds number n node site at of_call target function is_target library is_library memory e
      by None k f = absurd (err_ok f)
      by (Some i) k f = kept_in memory all (one_cell (Pointer i [] false)) _ e (named_held to position listed tn memory [] i (is_named.known i k)) f
