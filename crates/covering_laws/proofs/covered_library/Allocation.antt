-- The rows of malloc, calloc and free.
use Rattle.std.proofs.Common.{arith, ◌≡◌, ◌∙◌, inl, ℕ, ◌+◌, ◌*◌, ◌%◌, ◌^◌, true, false, Bool, cond, List, [], ◌∷◌, Option, Some, None, Result, Ok, Err, slice_get, Contains, refl, sym, ap, subst}
use Rattle.std.specs.Option.{option_map}
use Rattle.pta_base.specs.declared.effect.Effect.TheVariants.{GivesNew}
use Rattle.c_types.specs.declared.key.ObjectKey.{ObjectKey}
use Rattle.c_types.specs.declared.term.PathStep.TheVariants.{Index}
use Rattle.c_types.specs.Trees.{Ctype, PointerTo}
use Rattle.c_types.specs.Table.{Table}
use Rattle.core_tree.specs.declared.node.Node.{Node}
use Rattle.core_tree.specs.declared.node.Program.{Program}
use Rattle.core_tree.specs.Typed.{trees_in, type_at}
use Rattle.sol_model.specs.declared.system.System.{System}
use Rattle.sol_model.specs.declared.system.CallSite.{CallSite}
use Rattle.sol_model.specs.declared.system.Function.{Function}
use Rattle.sol_model.specs.Families.{Family}
use Rattle.sol_model.specs.Rules.{IsTarget}
use Rattle.sol_model.specs.Solutions.{IsClosed}
use Rattle.obj_made.specs.declared.object.Content.{Content}
use Rattle.obj_made.specs.declared.object.Content.TheVariants.{Function as FunctionContent, Blob, Scalar, Scalars, Typed, Elements}
use Rattle.obj_space.specs.declared.location.Location.{Location}
use Rattle.obj_space.specs.Spots.{node_in}
use Rattle.obj_space.specs.View.{view_of}
use Rattle.row_numbers.specs.Setting.{Setting}
use Rattle.ref_cells.specs.declared.cells.Reason.{Reason}
use Rattle.ref_cells.specs.declared.cells.Cell.{Cell}
use Rattle.ref_cells.specs.declared.cells.Cell.TheVariants.{Unset, Number, Null, Pointer, Function as FunctionCell}
use Rattle.ref_cells.specs.declared.instance.Instance.{Instance}
use Rattle.ref_elements.specs.Arguments.{count_of}
use Rattle.ref_elements.specs.Objects.{is_odd}
use Rattle.ref_elements.specs.Outcomes.{Effected, gives, null_value}
use Rattle.ref_lib.specs.ref_alloc.Allocation.{allocated, malloc_row, calloc_row, heap_at, freed, free_row}
use Rattle.call_sites.specs.Calls.{IsCallSite}
use Rattle.normal_form.specs.SystemOf.{SystemOf}
use Rattle.covering_laws.specs.covered_memory.Spots.{spot_at, spot_from, spot}
use Rattle.covering_laws.specs.covered_memory.Covered.{Sets, HasShape, MemoryIn}
use Rattle.covering_laws.specs.covered_memory.Demands.{Grounds}
use Rattle.covering_laws.proofs.covered_memory.Changes.{Begins, end_law}
use Rattle.covering_laws.proofs.covered_memory.Stays.{heap_plain, same_memory}
use Rattle.covering_laws.proofs.covered_rows.Places.{cell_held}
use Rattle.covering_laws.proofs.covered_rows.Values.{sets, w'}
use Rattle.covering_laws.proofs.covered_library.Effects.{gives_new_in}
use Rattle.covering_laws.specs.covered_library.Calls.{IsEffectIn, IsFresh}

some_none : {X : Type 0} → {x : X} → ◌≡◌ {A = Option X} (Some x) None → ⊥
some_none h = cc

ok_one : {X : Type 0} → {x y : X} → ◌≡◌ {A = Result X Reason} (Ok x) (Ok y) → x ≡ y
ok_one h = cc

err_ok : {X : Type 0} → {r : Reason} → {x : X} → ◌≡◌ {A = Result X Reason} (Err r) (Ok x) → ⊥
err_ok h = cc

-- the first element of an object without a type
start_node : (table : Table) (content : Content) → HasShape table content None → node_in table content (Index 0 ∷ []) ≡ Some 0
start_node table FunctionContent h = absurd h
start_node table Blob h = refl
start_node table (Scalar number) (t, none, scalar, same) = absurd (some_none (sym none))
start_node table (Scalars number) (t, n, none, scalar, same) = refl
start_node table (Typed id) (none, rest) = absurd (some_none (sym none))
start_node table (Elements id) h = refl

pub start_spot : (g : Sets) (key : ObjectKey) (f : IsFresh g key) → spot g.table g.space key (Index 0 ∷ []) ≡ Some f.first
start_spot g key f =
    ap (λ (o : Option ℕ). spot_from g.table g.space o (Index 0 ∷ [])) f.first_is
    ∙ (ap (λ (o : Option Location). spot_at g.table f.first o (Index 0 ∷ [])) f.location_is
    ∙ (ap (option_map (λ (n : ℕ). f.first + n)) (start_node g.table f.location.content f.shape) ∙ ap (λ (n : ℕ). Some n) (let e : f.first + 0 ≡ f.first = omega arith in e)))

abbrev made : ObjectKey → ℕ → Bool → Instance
made key bytes zero = record { key = key; live = true; ty = None; bytes = bytes; zero = zero; cells = [] }

abbrev begins : (g : Sets) (key : ObjectKey) (bytes : ℕ) (zero : Bool) → IsFresh g key → Begins g (made key bytes zero)
begins g key bytes zero f = record { first = f.first; location = f.location; first_is = f.first_is; location_is = f.location_is; shape = f.shape; untyped = λ e. inl f.allocated; further = λ x. absurd (heap_plain key f.allocated x) }

module _ (p : Program) (space : List Location) (system : System) (is : SystemOf p (view_of space) system) (F : Family) (closed : IsClosed system F) (grounds : Grounds p.types space system)
    (number n : ℕ) (node : Node) (site : CallSite) (at : slice_get system.calls number ≡ Some site) (of_call : IsCallSite (w' p space system is F closed grounds) n node site)
    (target : ℕ) (function : Function) (is_target : IsTarget system F site target function) (library : ℕ) (is_library : function.library ≡ Some library) where
  abbrev g : Sets
  g = sets p space system is F closed grounds

  abbrev w : Setting
  w = w' p space system is F closed grounds

  -- what an effect leaves is covered, what it gives is covered at the call, and the pointers that it stores at their places
  abbrev pub IsCovered : List Instance → Effected → Type 0
  IsCovered memory e = IsEffectIn g w n memory e

  null_in : (to : Ctype) → type_at (trees_in p) n ≡ PointerTo to → (memory : List Instance) → MemoryIn g memory → (e : Effected) → gives memory null_value ≡ Ok e → IsCovered memory e
  null_in to tn memory all e h =
      subst (IsCovered memory) (ok_one h)
      (record { leaves = record { extends = same_memory g memory; covered = all }; value = cell_held p space system is F closed grounds n to memory Null tn tt; stores = tt })

  pub allocated_in : (to : Ctype) → Contains function.effects GivesNew → type_at (trees_in p) n ≡ PointerTo to → (key : ObjectKey) (f : IsFresh g key) → Contains site.fresh (target, f.first)
      → (memory : List Instance) → MemoryIn g memory → (bytes : ℕ) (zero : Bool) (e : Effected) → allocated memory key bytes zero ≡ Ok e → IsCovered memory e
  allocated_in to listed tn key f fresh memory all bytes zero e h =
      let r = gives_new_in p space system is F closed grounds number n node site at of_call target function is_target library is_library to listed tn memory (made key bytes zero) all (begins g key bytes zero f) tt fresh (0, refl, omega arith) (start_spot g key f) in
      subst (IsCovered memory) (ok_one h) (record { leaves = r.0; value = r.1; stores = tt })

  -- malloc
  pub malloc_in : (to : Ctype) → Contains function.effects GivesNew → type_at (trees_in p) n ≡ PointerTo to → (key : ObjectKey) (f : IsFresh g key) → Contains site.fresh (target, f.first)
      → (memory : List Instance) → MemoryIn g memory → (word : ℕ) (a1 : Cell) (e : Effected) → malloc_row memory key word a1 ≡ Ok e → IsCovered memory e
  malloc_in to listed tn key f fresh memory all word a1 e h = by (is_odd word) h
    where
      by : (b : Bool) → cond b (gives memory null_value) (allocated memory key (count_of a1) false) ≡ Ok e → IsCovered memory e
      by true k = null_in to tn memory all e k
      by false k = allocated_in to listed tn key f fresh memory all (count_of a1) false e k

  -- calloc
  pub calloc_in : (to : Ctype) → Contains function.effects GivesNew → type_at (trees_in p) n ≡ PointerTo to → (key : ObjectKey) (f : IsFresh g key) → Contains site.fresh (target, f.first)
      → (memory : List Instance) → MemoryIn g memory → (word : ℕ) (a1 a2 : Cell) (e : Effected) → calloc_row memory key word a1 a2 ≡ Ok e → IsCovered memory e
  calloc_in to listed tn key f fresh memory all word a1 a2 e h = by (is_odd word) h
    where
      by : (b : Bool) → cond b (gives memory null_value) (allocated memory key ((count_of a1 * count_of a2) % 2 ^ 64) true) ≡ Ok e → IsCovered memory e
      by true k = null_in to tn memory all e k
      by false k = allocated_in to listed tn key f fresh memory all ((count_of a1 * count_of a2) % 2 ^ 64) true e k

  -- free
  freed_in : (memory : List Instance) → MemoryIn g memory → (o : Option ℕ) (e : Effected) → freed memory o ≡ Ok e → IsCovered memory e
  freed_in memory all None e h = absurd (err_ok h)
  freed_in memory all (Some i) e h = subst (IsCovered memory) (ok_one h) (record { leaves = end_law g system grounds memory i all; value = tt; stores = tt })

  pub free_in : (memory : List Instance) → MemoryIn g memory → (a1 : Cell) (e : Effected) → free_row memory a1 ≡ Ok e → IsCovered memory e
  free_in memory all Null e h = subst (IsCovered memory) (ok_one h) (record { leaves = record { extends = same_memory g memory; covered = all }; value = tt; stores = tt })
  free_in memory all Unset e h = freed_in memory all (heap_at memory Unset) e h
  free_in memory all (Number k) e h = freed_in memory all (heap_at memory (Number k)) e h
  free_in memory all (Pointer i path past) e h = freed_in memory all (heap_at memory (Pointer i path past)) e h
  free_in memory all (FunctionCell key) e h = freed_in memory all (heap_at memory (FunctionCell key)) e h
