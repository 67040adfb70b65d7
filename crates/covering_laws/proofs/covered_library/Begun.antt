-- What an object that a call makes begins as, from what the program says of it.
use Rattle.std.proofs.Common.{◌≡◌, ◌∙◌, inl, ℕ, Bool, true, false, cond, List, [], ◌∷◌, Option, Some, None, IsSome, slice_get, Contains, refl, sym, ap, subst, arith, ◌+◌}
use Rattle.obj_space.specs.declared.location.Location.{Location}
use Rattle.std.specs.Option.{option_map}
use Rattle.covering_laws.specs.covered_memory.Spots.{spot_at, spot_from, spot, room_by, IsInTree}
use Rattle.c_types.specs.declared.key.ObjectKey.{ObjectKey}
use Rattle.c_types.specs.declared.term.PathStep.TheVariants.{Index}
use Rattle.c_types.specs.declared.term.TypeId.{TypeId}
use Rattle.c_types.specs.Trees.{Ctype, ArrayOf}
use Rattle.c_types.specs.Table.{type_of, extent_in, size_below}
use Rattle.sol_model.specs.declared.system.System.{System}
use Rattle.obj_made.specs.declared.object.Content.{Content}
use Rattle.obj_made.specs.declared.object.Content.TheVariants.{Function as FunctionContent, Blob, Scalar, Scalars, Typed, Elements}
use Rattle.obj_space.specs.Spots.{reached, node_in}
use Rattle.ref_cells.specs.declared.instance.Instance.{Instance}
use Rattle.ref_cells.specs.Cells.{CellList}
use Rattle.ref_cells.specs.Wholes.{is_allocated, elements_of, whole_of}
use Rattle.ref_elements.proofs.SameTypes.{type_true}
use Rattle.ref_lib.specs.ref_alloc.Allocation.{takes}
use Rattle.covering_laws.specs.covered_memory.Covered.{Sets, HasShape, InstanceIn, MemoryIn}
use Rattle.covering_laws.specs.covered_memory.Demands.{Grounds}
use Rattle.covering_laws.proofs.covered_memory.Access.{shape_complete}
use Rattle.covering_laws.proofs.covered_memory.Parts.{path_complete}
use Rattle.covering_laws.proofs.covered_memory.Stays.{heap_plain}
use Rattle.covering_laws.proofs.covered_memory.Changes.{Takes, typed_in}
use Rattle.covering_laws.specs.covered_library.Calls.{IsFresh, IsScalars}
use Rattle.covering_laws.proofs.covered_library.Allocation.{start_spot}
use Rattle.covering_laws.proofs.covered_library.Texts.{IsBegun}

some_one : {X : Type 0} → {x y : X} → ◌≡◌ {A = Option X} (Some x) (Some y) → x ≡ y
some_one h = cc

some_none : {X : Type 0} → {x : X} → ◌≡◌ {A = Option X} (Some x) None → ⊥
some_none h = cc

module _ (g : Sets) (system : System) (grounds : Grounds g.table g.space system) where
  -- a type that an object that a call makes may begin with
  abbrev pub Suits : Option TypeId → Content → Type 0
  Suits None content = Unit {0}
  Suits (Some id) content = IsSome (extent_in g.table (type_of g.table id.0)) × Takes g system grounds id content

  pub begun_of : (key : ObjectKey) (f : IsFresh g key) (ty : Option TypeId) → Suits ty f.location.content → (bytes : ℕ) (zero : Bool) (cells : CellList)
      → (b : IsBegun g key ty bytes zero cells) × (b.begins.first ≡ f.first)
  begun_of key f None suits bytes zero cells = (
    record {
      begins = record { first = f.first; location = f.location; first_is = f.first_is; location_is = f.location_is; shape = f.shape; untyped = λ e. inl f.allocated; further = λ x. absurd (heap_plain key f.allocated x) };
      in_tree = (0, refl, omega arith);
      spot_is = start_spot g key f;
    },
    refl,
  )
  begun_of key f (Some id) suits bytes zero cells =
      let bare : Instance = record { key = key; live = true; ty = None; bytes = bytes; zero = zero; cells = [] } in
      let inside : InstanceIn g [] (record { key = key; live = true; ty = None; bytes = bytes; zero = zero; cells = [] }) =
      record { first = f.first; location = f.location; first_is = f.first_is; location_is = f.location_is; shape = f.shape; untyped = λ e. inl f.allocated; further = λ x. absurd (heap_plain key f.allocated x); cells = tt } in
      let typed = typed_in g system grounds [] bare id refl f.allocated suits.0 inside suits.1 in
      let first : typed.1.first ≡ f.first = some_one (sym typed.1.first_is ∙ f.first_is) in (
        record {
          begins = record { first = typed.1.first; location = typed.1.location; first_is = typed.1.first_is; location_is = typed.1.location_is; shape = typed.1.shape; untyped = typed.1.untyped; further = typed.1.further };
          in_tree = typed.0.in_tree (Index 0 ∷ []) (0, refl, omega arith);
          spot_is = start_spot g key f ∙ ap (λ (k : ℕ). Some k) (sym first);
        },
        first,
      )

  -- what a call makes, with its place among the call's objects
  pub begun_here : (key : ObjectKey) (f : IsFresh g key) (fresh : List (ℕ × ℕ)) (target : ℕ) → Contains {X = ℕ × ℕ} fresh (target, f.first) → (ty : Option TypeId) → Suits ty f.location.content → (bytes : ℕ) (cells : CellList)
      → (b : IsBegun g key ty bytes false cells) × Contains {X = ℕ × ℕ} fresh (target, b.begins.first)
  begun_here key f fresh target has ty suits bytes cells =
      let b = begun_of key f ty suits bytes false cells in
      (b.0, subst (λ (k : ℕ). Contains {X = ℕ × ℕ} fresh (target, k)) (sym b.1) has)

  module _ (memory : List Instance) (all : MemoryIn g memory) where
    -- the type of an instance is complete
    own_complete : (i : ℕ) (old : Instance) → slice_get memory i ≡ Some old → (id : TypeId) → old.ty ≡ Some id → IsSome (extent_in g.table (type_of g.table id.0))
    own_complete i old old_is id ty_is =
        by (is_allocated old.key)
        (subst (λ (o : Option TypeId). HasShape g.table (all i old old_is).location.content (whole_of g.table (let r : Instance = record old { ty = o } in r))) ty_is (all i old old_is).shape)
      where
        by : (b : Bool)
            → HasShape g.table (all i old old_is).location.content (Some (cond b (ArrayOf (type_of g.table id.0) (Some (elements_of old.key old.bytes (size_below (extent_in g.table (type_of g.table id.0)))))) (type_of g.table id.0)))
            → IsSome (extent_in g.table (type_of g.table id.0))
        by false h = shape_complete g system grounds (all i old old_is).location.content (type_of g.table id.0) h
        by true h =
            path_complete g.table grounds.made (ArrayOf (type_of g.table id.0) (Some (elements_of old.key old.bytes (size_below (extent_in g.table (type_of g.table id.0)))))) 0 false (Index 0 ∷ []) (reached (type_of g.table id.0) 0 false)
            (shape_complete g system grounds (all i old old_is).location.content (ArrayOf (type_of g.table id.0) (Some (elements_of old.key old.bytes (size_below (extent_in g.table (type_of g.table id.0)))))) h) refl

    -- An object of elements of a type has that type fixed: so what realloc makes may have the old object's type.
    pub grown_suits : (fixed : Option TypeId) (content : Content) → ((other : TypeId) → content ≡ Elements other → (id : TypeId) × (fixed ≡ Some id) × (type_of g.table id.0 ≡ type_of g.table other.0))
        → (i : ℕ) (old : Instance) → slice_get memory i ≡ Some old → takes g.table fixed old.ty ≡ true → Suits old.ty content
    grown_suits fixed content fixes i old old_is taken = by old.ty refl taken
      where
        same : (id other : TypeId) → takes g.table fixed (Some id) ≡ true → (x : TypeId) × (fixed ≡ Some x) × (type_of g.table x.0 ≡ type_of g.table other.0) → type_of g.table id.0 ≡ type_of g.table other.0
        same id other k x =
            sym (type_true (type_of g.table x.0.0) (type_of g.table id.0) (sym (ap (λ (o : Option TypeId). takes g.table o (Some id)) x.1) ∙ k)) ∙ x.2

        at : (id : TypeId) → takes g.table fixed (Some id) ≡ true → (c : Content) → content ≡ c → Takes g system grounds id c
        at id k (Elements other) c_is = same id other k (fixes other c_is)
        at id k FunctionContent c_is = tt
        at id k Blob c_is = tt
        at id k (Scalar number) c_is = tt
        at id k (Scalars number) c_is = tt
        at id k (Typed other) c_is = tt

        by : (o : Option TypeId) → old.ty ≡ o → takes g.table fixed o ≡ true → Suits o content
        by None o_is k = tt
        by (Some id) o_is k = (own_complete i old old_is id o_is, at id k content refl)

module _ (g : Sets) (key : ObjectKey) (id : TypeId) (f : IsScalars g key id) (bytes : ℕ) (cells : CellList) where
  whole_is : whole_of g.table (record { key = key; live = true; ty = Some id; bytes = bytes; zero = false; cells = cells })
      ≡ Some (ArrayOf (type_of g.table id.0) (Some (elements_of key bytes (size_below (extent_in g.table (type_of g.table id.0))))))
  whole_is = ap (λ (b : Bool). Some (cond b (ArrayOf (type_of g.table id.0) (Some (elements_of key bytes (size_below (extent_in g.table (type_of g.table id.0)))))) (type_of g.table id.0))) f.allocated

  scalars_spot : spot g.table g.space key (Index 0 ∷ []) ≡ Some f.first
  scalars_spot =
      ap (λ (o : Option ℕ). spot_from g.table g.space o (Index 0 ∷ [])) f.first_is
      ∙ (ap (λ (o : Option Location). spot_at g.table f.first o (Index 0 ∷ [])) f.location_is
      ∙ (ap (λ (c : Content). option_map (λ (n : ℕ). f.first + n) (node_in g.table c (Index 0 ∷ []))) f.content_is ∙ ap (λ (n : ℕ). Some n) (let e : f.first + 0 ≡ f.first = omega arith in e)))

  pub scalars_here : (fresh : List (ℕ × ℕ)) (target : ℕ) → Contains {X = ℕ × ℕ} fresh (target, f.first) → (b : IsBegun g key (Some id) bytes false cells) × Contains {X = ℕ × ℕ} fresh (target, b.begins.first)
  scalars_here fresh target has = (
    record {
      begins = record {
        first = f.first;
        location = f.location;
        first_is = f.first_is;
        location_is = f.location_is;
        shape = subst (λ (c : Content). HasShape g.table c (whole_of g.table (record { key = key; live = true; ty = Some id; bytes = bytes; zero = false; cells = cells }))) (sym f.content_is)
            (type_of g.table id.0, elements_of key bytes (size_below (extent_in g.table (type_of g.table id.0))), whole_is, f.is_scalar, f.scalar_is);
        untyped = λ e. absurd (some_none e);
        further = λ x. absurd (heap_plain key f.allocated x);
      };
      in_tree = subst (λ (w : Option Ctype). IsInTree g.table w (room_by key bytes) (Index 0 ∷ [])) (sym whole_is) refl;
      spot_is = scalars_spot;
    },
    has,
  )
