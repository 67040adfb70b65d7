-- Conversions: a pointer stays in its rows, and an object without a type gets the one that it may have.
use Rattle.std.proofs.Common.{◌≡◌, ◌∙◌, inl, inr, ℕ, pos, Bool, true, false, cond, not, ◌||◌, List, [], ◌∷◌, Option, Some, None, IsSome, IsTrue, is_some, Ok, slice_get, refl, sym, ap, subst}
use Rattle.c_types.specs.declared.term.PathStep.{PathStep}
use Rattle.c_types.specs.declared.term.TypeId.{TypeId}
use Rattle.c_types.specs.Trees.{Ctype, VoidType, BoolType, IntegerType, FloatingType, VaListType, PointerTo, ArrayOf, FunctionFrom, StructureOf, UnionOf}
use Rattle.c_types.specs.Table.{type_of, extent_in}
use Rattle.type_rules.specs.Conversions.{Converts}
use Rattle.core_tree.specs.declared.node.Node.{Node}
use Rattle.core_tree.specs.declared.node.NodeKind.TheVariants.{Convert}
use Rattle.core_tree.specs.declared.node.Program.{Program}
use Rattle.core_tree.specs.Typed.{CoreTrees, type_at}
use Rattle.row_numbers.specs.Setting.{Setting}
use Rattle.ref_cells.specs.declared.cells.Cell.{Cell}
use Rattle.ref_cells.specs.declared.cells.Cell.TheVariants.{Unset, Number, Null, Pointer, Function}
use Rattle.ref_cells.specs.declared.instance.Instance.{Instance}
use Rattle.ref_cells.specs.Numbers.{converted}
use Rattle.ref_cells.specs.Wholes.{is_allocated}
use Rattle.ref_mem.specs.Reads.{one_cell}
use Rattle.ref_mem.specs.Writes.{changed}
use Rattle.ref_elements.specs.Outcomes.{Effected, gives, no_value}
use Rattle.ref_values.specs.Memory.{pointee, complete_only, type_given, typed_by, is_null, pointer_converted, number_converted, scalar_converted, converted_to, convert_row}
use Rattle.covering_laws.specs.covered_types.Whole.{IsHeld}
use Rattle.covering_laws.specs.covered_memory.Covered.{Sets, InstanceIn, MemoryIn, Leaves}
use Rattle.covering_laws.proofs.covered_memory.Changes.{type_law}
use Rattle.covering_laws.proofs.covered_memory.Stays.{value_stays}
use Rattle.covering_laws.specs.covered_library.Calls.{Takes}
use Rattle.covering_laws.specs.covered_rows.Nodes.{node_row, HeldIn}
use Rattle.covering_laws.proofs.covered_rows.Places.{convert_in}
use Rattle.covering_laws.specs.covered_state.World.{World, trees_of, sets_of, setting_in}
use Rattle.covered_runs.specs.covered_steps.covered_values.Values.{Stands, MayType, GoesBack, IsComputed}
use Rattle.covered_runs.proofs.covered_steps.covered_values.Types.{some_one}
use Rattle.covered_runs.proofs.covered_steps.covered_values.Operands.{err_ok, value_node, same_left, same_back, set_back, left_so, given_so}

some_none : {X : Type 0} → {x : X} → ◌≡◌ {A = Option X} (Some x) None → ⊥
some_none h = cc

module _ (world : World) (stands : Stands world) (memory : List Instance) (all : MemoryIn (sets_of world) memory) where
  abbrev p : Program
  p = world.program

  abbrev u : CoreTrees
  u = trees_of world

  abbrev g : Sets
  g = sets_of world

  abbrev w : Setting
  w = setting_in world

  -- a memory that is covered, and goes back to the old one
  abbrev IsLeft : List Instance → Type 0
  IsLeft m = Leaves (sets_of world) memory m × GoesBack memory m

  stays : IsLeft memory
  stays = (same_left world memory all 0, same_back memory)

  -- an object gets its type
  module _ (i : ℕ) (path : List PathStep) (past : Bool) (ty : TypeId) (may : MayType world memory (Pointer i path past) ty) where
    given_one : (id : TypeId) → pointee (slice_get p.types.terms ty.0) ≡ Some id → IsSome (extent_in p.types (type_of p.types id.0)) → (o : Option Instance) → slice_get memory i ≡ o → IsLeft (type_given memory i (Some id) o)
    given_one id points complete None is = stays
    given_one id points complete (Some inst) is = by inst.ty refl (is_allocated inst.key) refl
      where
        one : (x : Instance) → slice_get memory i ≡ Some x → inst ≡ x
        one x at = some_one (sym is ∙ at)

        typed : inst.ty ≡ None → is_allocated inst.key ≡ true → IsLeft (changed memory i (Some inst) (λ inst. record inst { ty = Some id }))
        typed none heap = (
          subst (λ (o : Option Instance). Leaves g memory (changed memory i o (λ inst. record inst { ty = Some id }))) is
              (type_law g world.system stands.grounds memory i id all complete (λ x at. subst (λ (y : Instance). (y.ty ≡ None) × IsTrue (is_allocated y.key)) (one x at) (none, heap))
              (λ x at h. takes x at (subst (λ (y : Instance). y.ty ≡ None) (one x at) none) h)),
          set_back memory i inst (record inst { ty = Some id }) is (λ bare. absurd (some_none bare)),
        )
          where
            takes : (x : Instance) → slice_get memory i ≡ Some x → x.ty ≡ None → (h : InstanceIn g memory x) → Takes p.types id h.location.content
            takes x at none h = may x id at none points h

        by : (o : Option TypeId) → inst.ty ≡ o → (b : Bool) → is_allocated inst.key ≡ b → IsLeft (cond (is_some o || not b) memory (changed memory i (Some inst) (λ inst. record inst { ty = Some id })))
        by None none true heap = typed none heap
        by None none false other = stays
        by (Some other) some b is = stays

    complete_given : (o : Option TypeId) → pointee (slice_get p.types.terms ty.0) ≡ o → IsLeft (type_given memory i (complete_only p.types o) (slice_get memory i))
    complete_given None points = none (slice_get memory i)
      where
        none : (o : Option Instance) → IsLeft (type_given memory i None o)
        none None = stays
        none (Some x) = stays
    complete_given (Some id) points = by (is_some (extent_in p.types (type_of p.types id.0))) refl
      where
        none : (o : Option Instance) → IsLeft (type_given memory i None o)
        none None = stays
        none (Some x) = stays

        by : (b : Bool) → is_some (extent_in p.types (type_of p.types id.0)) ≡ b → IsLeft (type_given memory i (cond b (Some id) None) (slice_get memory i))
        by true is = given_one id points is (slice_get memory i) refl
        by false is = none (slice_get memory i)

  typed_left : (c : Cell) (ty : TypeId) → MayType world memory c ty → IsLeft (typed_by p.types memory c ty)
  typed_left (Pointer i path past) ty may = complete_given i path past ty may (pointee (slice_get p.types.terms ty.0)) refl
  typed_left Null ty may = stays
  typed_left Unset ty may = stays
  typed_left (Number n) ty may = stays
  typed_left (Function key) ty may = stays

  module _ (n v : ℕ) (node : Node) (there : slice_get u.nodes n ≡ Some node) (kind : node.kind ≡ Convert) (children : node.children ≡ v ∷ []) (may_hold : IsHeld p.types (type_of p.types node.ty.0))
      (own : type_at u n ≡ type_of p.types node.ty.0) (word : ℕ) (c : Cell) (may : MayType world memory c node.ty) where
    held_type : IsHeld p.types (type_at u n)
    held_type = subst (IsHeld p.types) (sym own) may_hold

    number_so : (m : List Instance) (k : Cell) (e : Effected) → IsLeft m → HeldIn g w m n (one_cell k) → gives m (one_cell k) ≡ Ok e → IsComputed world memory n e
    number_so m k e left h is = left_so world memory all n m (one_cell k) e is left.0 left.1 (value_node world m n node there Convert kind refl (one_cell k) h (inr held_type))

    numbers_so : (t : Ctype) (from : Cell) (e : Effected) → number_converted memory t from ≡ Ok e → IsComputed world memory n e
    numbers_so t (Number k) e is = number_so memory (Number (converted t k)) e stays (tt, tt) is
    numbers_so t Null e is = absurd (err_ok is)
    numbers_so t Unset e is = absurd (err_ok is)
    numbers_so t (Pointer i path past) e is = absurd (err_ok is)
    numbers_so t (Function key) e is = absurd (err_ok is)

    -- a pointer to a pointer
    pointer_so : (to from : Ctype) → type_of p.types node.ty.0 ≡ PointerTo to → type_at u v ≡ PointerTo from → HeldIn g w memory v (one_cell c) → (e : Effected) → gives (typed_by p.types memory c node.ty) (one_cell c) ≡ Ok e
        → IsComputed world memory n e
    pointer_so to from ty tv h e is =
        let left = typed_left c node.ty may in
        let held = convert_in p world.space world.system world.is_system world.family stands.closed stands.grounds n v to from
        (record { node = node; there = there; kind_is = kind; type_is = ty; children_are = children }) (own ∙ ty) tv memory c h in
        number_so (typed_by p.types memory c node.ty) c e left (value_stays g memory (typed_by p.types memory c node.ty) left.0.extends (node_row w n) (type_at u n) (one_cell c) held) is

    -- by the type of what is converted, and by the type that it is converted to
    from_pointer : (from t : Ctype) → type_of p.types node.ty.0 ≡ t → type_at u v ≡ PointerTo from → Converts (PointerTo from) t → HeldIn g w memory v (one_cell c) → (e : Effected)
        → converted_to p.types memory (PointerTo from) c node.ty word t ≡ Ok e → IsComputed world memory n e
    from_pointer from t ty tv converts h e is = by t ty converts is
      where
        scalar : (z : Ctype) → type_of p.types node.ty.0 ≡ z → scalar_converted p.types memory (PointerTo from) c node.ty word ≡ Ok e → pointer_converted p.types memory c node.ty z word ≡ Ok e
        scalar z e f = sym (ap (λ (y : Ctype). pointer_converted p.types memory c node.ty y word) e) ∙ f

        by : (z : Ctype) → type_of p.types node.ty.0 ≡ z → Converts (PointerTo from) z → converted_to p.types memory (PointerTo from) c node.ty word z ≡ Ok e → IsComputed world memory n e
        by VoidType ty x f = given_so world memory all n no_value e f (value_node world memory n node there Convert kind refl no_value tt (inl refl))
        by BoolType ty x f = number_so memory (Number (cond (is_null c) (pos 0) (pos 1))) e stays (tt, tt) (scalar BoolType ty f)
        by (IntegerType size rank signed) ty x f = number_so memory (Number (converted (IntegerType size rank signed) (pos word))) e stays (tt, tt) (scalar (IntegerType size rank signed) ty f)
        by (PointerTo to) ty x f = pointer_so to from ty tv h e (scalar (PointerTo to) ty f)
        by FloatingType ty x f = absurd (nothing from x)
          where
            nothing : (a : Ctype) → Converts (PointerTo a) FloatingType → ⊥
            nothing (PointerTo b) h = h
            nothing a h = h
        by VaListType ty x f = absurd (nothing from x)
          where
            nothing : (a : Ctype) → Converts (PointerTo a) VaListType → ⊥
            nothing (PointerTo b) h = h
            nothing a h = h
        by (ArrayOf of k) ty x f = absurd (nothing from x)
          where
            nothing : (a : Ctype) → Converts (PointerTo a) (ArrayOf of k) → ⊥
            nothing (PointerTo b) h = h
            nothing a h = h
        by (FunctionFrom r ps z) ty x f = absurd (nothing from x)
          where
            nothing : (a : Ctype) → Converts (PointerTo a) (FunctionFrom r ps z) → ⊥
            nothing (PointerTo b) h = h
            nothing a h = h
        by (StructureOf tag) ty x f = absurd (nothing from x)
          where
            nothing : (a : Ctype) → Converts (PointerTo a) (StructureOf tag) → ⊥
            nothing (PointerTo b) h = h
            nothing a h = h
        by (UnionOf tag) ty x f = absurd (nothing from x)
          where
            nothing : (a : Ctype) → Converts (PointerTo a) (UnionOf tag) → ⊥
            nothing (PointerTo b) h = h
            nothing a h = h

    from_other : (a t : Ctype) → ((to : Ctype) → a ≡ PointerTo to → ⊥) → (e : Effected) → converted_to p.types memory a c node.ty word t ≡ Ok e → IsComputed world memory n e
    from_other a t other e is = by t is
      where
        none : (z : Ctype) → scalar_converted p.types memory z c node.ty word ≡ Ok e → ((to : Ctype) → z ≡ PointerTo to → ⊥) → IsComputed world memory n e
        none (PointerTo to) f other = absurd (other to refl)
        none VoidType f other = numbers_so (type_of p.types node.ty.0) c e f
        none BoolType f other = numbers_so (type_of p.types node.ty.0) c e f
        none (IntegerType size rank signed) f other = numbers_so (type_of p.types node.ty.0) c e f
        none FloatingType f other = numbers_so (type_of p.types node.ty.0) c e f
        none VaListType f other = numbers_so (type_of p.types node.ty.0) c e f
        none (ArrayOf of k) f other = numbers_so (type_of p.types node.ty.0) c e f
        none (FunctionFrom r ps z) f other = numbers_so (type_of p.types node.ty.0) c e f
        none (StructureOf tag) f other = numbers_so (type_of p.types node.ty.0) c e f
        none (UnionOf tag) f other = numbers_so (type_of p.types node.ty.0) c e f

        by : (z : Ctype) → converted_to p.types memory a c node.ty word z ≡ Ok e → IsComputed world memory n e
        by VoidType f = given_so world memory all n no_value e f (value_node world memory n node there Convert kind refl no_value tt (inl refl))
        by BoolType f = none a f other
        by (IntegerType size rank signed) f = none a f other
        by FloatingType f = none a f other
        by VaListType f = none a f other
        by (PointerTo to) f = none a f other
        by (ArrayOf of k) f = none a f other
        by (FunctionFrom r ps z) f = none a f other
        by (StructureOf tag) f = none a f other
        by (UnionOf tag) f = none a f other

    pub convert_node : Converts (type_at u v) (type_of p.types node.ty.0) → ((to : Ctype) → type_at u v ≡ PointerTo to → HeldIn g w memory v (one_cell c)) → (e : Effected)
        → convert_row p.types memory (type_at u v) c node.ty word ≡ Ok e → IsComputed world memory n e
    unfolding convert_row
    convert_node converts h e is = by (type_at u v) refl converts is
      where
        by : (a : Ctype) → type_at u v ≡ a → Converts a (type_of p.types node.ty.0) → converted_to p.types memory a c node.ty word (type_of p.types node.ty.0) ≡ Ok e → IsComputed world memory n e
        by (PointerTo from) tv x f = from_pointer from (type_of p.types node.ty.0) refl tv x (h from tv) e f
        by VoidType tv x f = from_other VoidType (type_of p.types node.ty.0) (λ to q. cc) e f
        by BoolType tv x f = from_other BoolType (type_of p.types node.ty.0) (λ to q. cc) e f
        by (IntegerType size rank signed) tv x f = from_other (IntegerType size rank signed) (type_of p.types node.ty.0) (λ to q. cc) e f
        by FloatingType tv x f = from_other FloatingType (type_of p.types node.ty.0) (λ to q. cc) e f
        by VaListType tv x f = from_other VaListType (type_of p.types node.ty.0) (λ to q. cc) e f
        by (ArrayOf of k) tv x f = from_other (ArrayOf of k) (type_of p.types node.ty.0) (λ to q. cc) e f
        by (FunctionFrom r ps z) tv x f = from_other (FunctionFrom r ps z) (type_of p.types node.ty.0) (λ to q. cc) e f
        by (StructureOf tag) tv x f = from_other (StructureOf tag) (type_of p.types node.ty.0) (λ to q. cc) e f
        by (UnionOf tag) tv x f = from_other (UnionOf tag) (type_of p.types node.ty.0) (λ to q. cc) e f
