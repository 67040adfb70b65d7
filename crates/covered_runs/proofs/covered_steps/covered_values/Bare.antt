-- Once a node has computed, each object that a conversion types has its type.
use Rattle.std.proofs.Common.{◌≡◌, ◌∙◌, inl, inr, ◌⊎◌, ℕ, zero, suc, Bool, true, false, cond, is_some, not, ◌&&◌, ◌||◌, List, [], ◌∷◌, Option, Some, None, IsSome, Ok, Err, set, slice_get, refl, sym, ap, subst}
use Rattle.c_types.specs.declared.key.ObjectKey.TheVariants.{Call as CallKey}
use Rattle.c_types.specs.declared.term.PathStep.TheVariants.{Index}
use Rattle.c_types.specs.declared.term.Term.{Term}
use Rattle.c_types.specs.declared.term.Term.TheVariants.{Pointer as PointerTerm}
use Rattle.c_types.specs.declared.term.TypeId.{TypeId}
use Rattle.c_types.specs.Trees.{Ctype, VoidType, BoolType, IntegerType, FloatingType, VaListType, PointerTo, ArrayOf, FunctionFrom, StructureOf, UnionOf}
use Rattle.c_types.specs.Table.{Table, type_of, extent_in}
use Rattle.c_types.specs.Made.{AreNamed}
use Rattle.type_rules.proofs.term_types.Grown.{types_grown}
use Rattle.core_tree.specs.declared.node.Node.{Node}
use Rattle.core_tree.specs.declared.node.NodeKind.{NodeKind}
use Rattle.core_tree.specs.declared.node.NodeKind.TheVariants.{Convert}
use Rattle.core_tree.specs.Typed.{type_at}
use Rattle.obj_made.specs.declared.object.Content.{Content}
use Rattle.obj_space.specs.declared.location.Location.{Location}
use Rattle.obj_space.specs.View.{first_from}
use Rattle.ref_cells.specs.declared.cells.Reason.TheVariants.{Unset as UnsetUse}
use Rattle.ref_cells.specs.declared.cells.Cell.{Cell}
use Rattle.ref_cells.specs.declared.cells.Cell.TheVariants.{Pointer}
use Rattle.ref_cells.specs.declared.cells.Value.{Value}
use Rattle.ref_cells.specs.declared.instance.Instance.{Instance}
use Rattle.ref_cells.specs.Wholes.{is_allocated, whole_of}
use Rattle.ref_mem.specs.Reads.{one_cell}
use Rattle.ref_elements.specs.Outcomes.{Effect, Effected, gives}
use Rattle.ref_state.specs.declared.items.Item.TheVariants.{Do, Wait}
use Rattle.ref_state.specs.declared.frames.Frame.{Frame}
use Rattle.ref_state.specs.Values.{cell_of, cell_in}
use Rattle.ref_values.specs.Memory.{pointee, complete_only, type_given, typed_by, pointer_converted, scalar_converted, converted_to, convert_row}
use Rattle.ref_values.specs.Values.{lacks, uses_all, computed_by, computed}
use Rattle.covering_laws.specs.covered_memory.Covered.{HasShape}
use Rattle.covering_laws.proofs.covered_memory.Firsts.{is_first}
use Rattle.covering_laws.specs.covered_state.World.{World, trees_of}
use Rattle.covering_laws.specs.covered_state.Awaited.{IsBare, IsAwaited}
use Rattle.covered_runs.specs.covered_steps.covered_values.Bare.{NothingBare}
use Rattle.covered_runs.proofs.covered_steps.covered_values.Types.{none_some, some_one}
use Rattle.covered_runs.proofs.covered_steps.covered_values.Operands.{ok_one, err_ok}
use Rattle.covered_runs.proofs.covered_steps.covered_values.Above.{number_self}
use Rattle.covered_runs.proofs.covered_steps.covered_values.Awaited.{top_one, wait_one}

some_none : {X : Type 0} → {x : X} → ◌≡◌ {A = Option X} (Some x) None → ⊥
some_none h = cc

do_wait : {n m : ℕ} → {left : List ℕ} → {values : List (ℕ × Value)} → Do n ≡ Wait m left values → ⊥
do_wait h = cc

wait_values : {n m : ℕ} → {left other : List ℕ} → {values more : List (ℕ × Value)} → Wait n left values ≡ Wait m other more → values ≡ more
wait_values h = cc

get_set : (xs : List Instance) (i : ℕ) (a v : Instance) → slice_get xs i ≡ Some a → slice_get (set xs i v) i ≡ Some v
get_set [] i a v at = absurd (none_some at)
get_set (x ∷ xs) zero a v at = refl
get_set (x ∷ xs) (suc i) a v at = get_set xs i a v at

-- a term that is a pointer
pointed_term : (o : Option Term) (id : TypeId) → pointee o ≡ Some id → o ≡ Some (PointerTerm id)
pointed_term None id e = absurd (none_some e)
pointed_term (Some (PointerTerm to)) id e = ap (λ (x : TypeId). Some (PointerTerm x)) (some_one e)
pointed_term (Some t) id e = absurd (none_some e)

module _ (table : Table) (named : AreNamed table) (memory : List Instance) (i : ℕ) (a : Instance) (at : slice_get memory i ≡ Some a) (bare : a.ty ≡ None) (heap : is_allocated a.key ≡ true) (ty id : TypeId) (points : pointee (slice_get table.terms ty.0) ≡ Some id)
    (complete : IsSome (extent_in table (type_of table id.0))) (word : ℕ) (e : Effected) where
  abbrev place : Cell
  place = Pointer i (Index 0 ∷ []) false

  type_is : type_of table ty.0 ≡ PointerTo (type_of table id.0)
  type_is = types_grown table ty.0 (PointerTerm id) named (pointed_term (slice_get table.terms ty.0) id points)

  typed_is : typed_by table memory (Pointer i (Index 0 ∷ []) false) ty ≡ set memory i (record a { ty = Some id })
  typed_is =
      ap (λ (o : Option TypeId). type_given memory i (complete_only table o) (slice_get memory i)) points
      ∙ (ap (λ (b : Bool). type_given memory i (cond b (Some id) None) (slice_get memory i)) complete
      ∙ (ap (type_given memory i (Some id)) at
      ∙ (ap (λ (o : Option TypeId). cond (is_some o || not (is_allocated a.key)) memory (set memory i (record a { ty = Some id }))) bare
      ∙ ap (λ (b : Bool). cond (not b) memory (set memory i (record a { ty = Some id }))) heap)))

  after_is : e.memory ≡ typed_by table memory (Pointer i (Index 0 ∷ []) false) ty → (inst : Instance) → slice_get e.memory i ≡ Some inst → inst.ty ≡ None → ⊥
  after_is same inst now none =
      let here = get_set memory i a (record a { ty = Some id }) at in
      let one : record a { ty = Some id } ≡ inst = some_one (sym here ∙ (ap (λ (m : List Instance). slice_get m i) (sym (same ∙ typed_is)) ∙ now)) in
      some_none (ap (λ (x : Instance). x.ty) one ∙ none)

  given_so : gives (typed_by table memory (Pointer i (Index 0 ∷ []) false) ty) (one_cell (Pointer i (Index 0 ∷ []) false)) ≡ Ok e → e.memory ≡ typed_by table memory (Pointer i (Index 0 ∷ []) false) ty
  given_so f = sym (ap (λ (x : Effected). x.memory) (ok_one f))

  by_type : (s : Ctype) → type_of table ty.0 ≡ PointerTo s → (from : Ctype) → converted_to table memory from (Pointer i (Index 0 ∷ []) false) ty word (type_of table ty.0) ≡ Ok e
      → e.memory ≡ typed_by table memory (Pointer i (Index 0 ∷ []) false) ty
  by_type s is from f = by from (sym (ap (λ (t : Ctype). converted_to table memory from (Pointer i (Index 0 ∷ []) false) ty word t) is) ∙ f)
    where
      pointer : (t : Ctype) → t ≡ PointerTo s → pointer_converted table memory (Pointer i (Index 0 ∷ []) false) ty t word ≡ Ok e → e.memory ≡ typed_by table memory (Pointer i (Index 0 ∷ []) false) ty
      pointer t q g = given_so (sym (ap (λ (x : Ctype). pointer_converted table memory (Pointer i (Index 0 ∷ []) false) ty x word) q) ∙ g)

      by : (from : Ctype) → scalar_converted table memory from (Pointer i (Index 0 ∷ []) false) ty word ≡ Ok e → e.memory ≡ typed_by table memory (Pointer i (Index 0 ∷ []) false) ty
      by (PointerTo x) g = pointer (type_of table ty.0) is g
      by VoidType g = absurd (err_ok g)
      by BoolType g = absurd (err_ok g)
      by (IntegerType size rank signed) g = absurd (err_ok g)
      by FloatingType g = absurd (err_ok g)
      by VaListType g = absurd (err_ok g)
      by (ArrayOf of k) g = absurd (err_ok g)
      by (FunctionFrom r ps z) g = absurd (err_ok g)
      by (StructureOf tag) g = absurd (err_ok g)
      by (UnionOf tag) g = absurd (err_ok g)

  pub never_bare : (from : Ctype) → convert_row table memory from (Pointer i (Index 0 ∷ []) false) ty word ≡ Ok e → (inst : Instance) → slice_get e.memory i ≡ Some inst → inst.ty ≡ None → ⊥
  unfolding convert_row
  never_bare from f = after_is (by_type (type_of table id.0) type_is from f)

-- what a conversion with its one operand computes
module _ (world : World) (memory : List Instance) (own : List ℕ) (n : ℕ) (node : Node) (call : ℕ) (c : Cell) (word : ℕ) (e : Effected) (kind : node.kind ≡ Convert) (children : node.children ≡ call ∷ []) where
  own_cell : cell_in ((call, one_cell c) ∷ []) call ≡ c
  own_cell = ap (λ (b : Bool). cell_of (cond b (one_cell c) (record { cells = [] }))) (number_self call)

  converted_by : computed_by (trees_of world) memory own n node.ty node.kind node.children ((call, one_cell c) ∷ []) word ≡ Ok e
      → convert_row world.program.types memory (type_at (trees_of world) call) c node.ty word ≡ Ok e
  converted_by f =
      sym (ap (λ (x : Cell). convert_row world.program.types memory (type_at (trees_of world) call) x node.ty word) own_cell)
      ∙ (sym (ap (λ (cs : List ℕ). computed_by (trees_of world) memory own n node.ty Convert cs ((call, one_cell c) ∷ []) word) children)
      ∙ (sym (ap (λ (k : NodeKind). computed_by (trees_of world) memory own n node.ty k node.children ((call, one_cell c) ∷ []) word) kind) ∙ f))

  pub converted_so : computed (trees_of world) memory own n node ((call, one_cell c) ∷ []) word ≡ Ok e → convert_row world.program.types memory (type_at (trees_of world) call) c node.ty word ≡ Ok e
  unfolding computed
  converted_so f = by (uses_all (type_of world.program.types node.ty.0) node.kind && lacks (trees_of world) ((call, one_cell c) ∷ []) node.children) f
    where
      by : (b : Bool) → (let r : Effect = cond b (Err UnsetUse) (computed_by (trees_of world) memory own n node.ty node.kind node.children ((call, one_cell c) ∷ []) word) in r) ≡ Ok e
          → convert_row world.program.types memory (type_at (trees_of world) call) c node.ty word ≡ Ok e
      by true g = absurd (err_ok g)
      by false g = converted_by g

pub nothing_bare : NothingBare
nothing_bare world state f rest own n node values top items word e stands typed awaited frames_are items_are how there is done i inst at bare = by how
  where
    a : (x : Instance) × (slice_get state.memory i ≡ Some x) × (inst.ty ≡ None → x.ty ≡ None)
    a = done.before i inst at

    key : a.0.key ≡ inst.key
    key = let x = done.leaves.extends i a.0 a.1 in sym (x.2.key) ∙ ap (λ (z : Instance). z.key) (some_one (sym x.1 ∙ at))

    before : IsBare world a.0
    before = record {
      untyped = a.2 bare.untyped;
      first = bare.first;
      location = bare.location;
      first_is = ap (first_from 0 world.space) key ∙ bare.first_is;
      location_is = bare.location_is;
      id = bare.id;
      content_is = bare.content_is;
    }

    w : IsAwaited world i a.0 state.memory state.frames
    w = awaited.each i a.0 a.1 before

    top_is : top ≡ Wait w.convert [] ((w.call, one_cell (Pointer i (Index 0 ∷ []) false)) ∷ [])
    top_is = top_one (sym items_are ∙ (ap (λ (g : Frame). g.items) (top_one (sym frames_are ∙ w.frames_are)) ∙ w.items_are))

    complete : IsSome (extent_in world.program.types (type_of world.program.types bare.id.0))
    complete =
        let own = done.leaves.covered i inst at in
        let first : own.first ≡ bare.first = some_one (sym own.first_is ∙ bare.first_is) in
        let location : own.location ≡ bare.location = some_one (sym own.location_is ∙ (ap (slice_get world.space) first ∙ bare.location_is)) in
        (subst (λ (c : Content). HasShape world.program.types c (whole_of world.program.types inst)) (ap (λ (l : Location). l.content) location ∙ bare.content_is) own.shape).1

    by : (top ≡ Do n) ⊎ (top ≡ Wait n [] values) → ⊥
    by (inl does) = do_wait (sym does ∙ top_is)
    by (inr waits) =
        let same = sym waits ∙ top_is in
        let one : n ≡ w.convert = wait_one same in
        let node_is : w.node ≡ node = some_one (sym w.there ∙ (ap (slice_get (trees_of world).nodes) (sym one) ∙ there)) in
        let kind : node.kind ≡ Convert = ap (λ (x : Node). x.kind) (sym node_is) ∙ w.kind in
        let children : node.children ≡ w.call ∷ [] = ap (λ (x : Node). x.children) (sym node_is) ∙ w.child in
        let here = (is_first world.space a.0.key before.first before.first_is).here in
        let named : before.location.key ≡ CallKey w.call = ap (λ (x : Location). x.key) (some_one (sym before.location_is ∙ here.1)) ∙ (here.2 ∙ w.key) in
        let points = typed bare.first bare.location w.call bare.id n node bare.location_is named bare.content_is there kind children in
        let run = converted_so world state.memory own n node w.call (Pointer i (Index 0 ∷ []) false) word e kind children
        (subst (λ (vs : List (ℕ × Value)). computed (trees_of world) state.memory own n node vs word ≡ Ok e) (wait_values same) is) in
        never_bare world.program.types stands.grounds.named state.memory i a.0 a.1 (a.2 bare.untyped) (ap is_allocated w.key) node.ty bare.id points complete word e (type_at (trees_of world) w.call) run inst at bare.untyped
