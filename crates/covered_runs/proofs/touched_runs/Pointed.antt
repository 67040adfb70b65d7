-- The locations of cells to which a covered pointer or place leads, and of those of an object that is made, lie under the locations of a row.
use Rattle.std.proofs.Common.{arith, ◌≡◌, ◌∙◌, inl, inr, ℕ, ◌+◌, ◌<◌, Bool, true, false, cond, List, [], ◌∷◌, ◌++◌, Option, Some, None, IsSome, slice_get, refl, sym, ap, subst}
use Rattle.std.specs.Option.{option_map}
use Rattle.std.proofs.lemmas.Bool.{false≢true}
use Rattle.c_types.specs.declared.key.ObjectKey.{ObjectKey}
use Rattle.c_types.specs.declared.term.PathStep.{PathStep}
use Rattle.c_types.specs.declared.term.PathStep.TheVariants.{Index, Member}
use Rattle.c_types.specs.declared.term.TypeId.{TypeId}
use Rattle.c_types.specs.Trees.{Ctype, ArrayOf}
use Rattle.c_types.specs.Table.{Table, type_of, extent_in}
use Rattle.type_rules.specs.Kinds.{IsScalar}
use Rattle.sol_model.specs.declared.system.System.{System}
use Rattle.sol_model.specs.Families.{Has}
use Rattle.sol_model.specs.Places.{sub_of, nodes_of as system_nodes}
use Rattle.obj_made.specs.declared.object.Content.{Content}
use Rattle.obj_made.specs.declared.object.Content.TheVariants.{Function as FunctionContent, Blob, Scalar, Scalars, Typed, Elements}
use Rattle.obj_space.specs.declared.location.Location.{Location}
use Rattle.obj_space.specs.Parts.{type_number as space_number}
use Rattle.obj_space.specs.Spots.{Reached, reached, part_at, no_step, one_index, node_in}
use Rattle.obj_space.specs.View.{first_from}
use Rattle.row_numbers.specs.Numbers.{type_number}
use Rattle.mod_ref.specs.Places.{extent_by, extent_at, IsUnder, IsReachedBy}
use Rattle.ref_cells.specs.declared.cells.Cell.{Cell}
use Rattle.ref_cells.specs.declared.cells.Cell.TheVariants.{Pointer}
use Rattle.ref_cells.specs.declared.instance.Instance.{Instance}
use Rattle.ref_cells.specs.Wholes.{whole_of}
use Rattle.covering_laws.specs.covered_types.Whole.{HasFew}
use Rattle.covering_laws.specs.covered_memory.Spots.{spot, spot_at, spot_from, room, IsInTree}
use Rattle.covering_laws.specs.covered_memory.Covered.{Sets, CellIn, object_row, HasShape, InstanceIn, MemoryIn}
use Rattle.covering_laws.specs.covered_memory.Demands.{ContentTells, Grounds}
use Rattle.covering_laws.proofs.covered_memory.Access.{found_at}
use Rattle.covering_laws.proofs.covered_memory.Anchors.{spot_is}
use Rattle.covering_laws.proofs.covered_memory.Fields.{part_index, spot_index}
use Rattle.covering_laws.proofs.covered_memory.Filled.{nowhere}
use Rattle.covering_laws.proofs.covered_memory.Puts.{part_along}
use Rattle.covered_runs.specs.touched_runs.called_frames.Layers.{AreBeside}
use Rattle.covered_runs.specs.touched_runs.Accesses.{IsOfPlace, MayHold}
use Rattle.covered_runs.proofs.touched_runs.Parts.{IsKnown, listed_known, repeated_known, part_known, part_sub, sub_under, object_start}

some_one : {X : Type 0} → {x y : X} → ◌≡◌ {A = Option X} (Some x) (Some y) → x ≡ y
some_one h = cc

none_some : {X : Type 0} → {x : X} → ◌≡◌ {A = Option X} None (Some x) → ⊥
none_some h = cc

pointers_one : (i j : ℕ) (p q : List PathStep) (b c : Bool) → Pointer i p b ≡ Pointer j q c → (i ≡ j) × (p ≡ q)
pointers_one i j p q b c h = (cc, cc)

there : {X : Type 0} (o : Option X) → IsSome o → (x : X) × (o ≡ Some x)
there None h = absurd (false≢true h)
there (Some x) h = (x, refl)

-- two elements of one array are one part, at one location
pub beside_part : (table : Table) (o : Option Reached) (p q : List PathStep) → AreBeside p q → part_at table o p ≡ part_at table o q
beside_part table o p q (inl same) = ap (part_at table o) same
beside_part table o p q (inr (front, i, j, p_is, q_is)) = ap (part_at table o) p_is ∙ (part_index table o front i j ∙ sym (ap (part_at table o) q_is))

pub beside_spot : (table : Table) (space : List Location) (key : ObjectKey) (p q : List PathStep) → AreBeside p q → spot table space key p ≡ spot table space key q
beside_spot table space key p q (inl same) = ap (spot table space key) same
beside_spot table space key p q (inr (front, i, j, p_is, q_is)) = ap (spot table space key) p_is ∙ (spot_index table space key front i j ∙ sym (ap (spot table space key) q_is))

module _ (g : Sets) (system : System) (grounds : Grounds g.table g.space system) (few : HasFew g.table) where
  -- where an object's node stands
  spot_value : (key : ObjectKey) (first : ℕ) (x : Location) (path : List PathStep) → first_from 0 g.space key ≡ Some first → slice_get g.space first ≡ Some x
      → spot g.table g.space key path ≡ option_map (λ (n : ℕ). first + n) (node_in g.table x.content path)
  spot_value key first x path first_is x_is = ap (λ (o : Option ℕ). spot_from g.table g.space o path) first_is ∙ ap (λ (o : Option Location). spot_at g.table first o path) x_is

  -- a collapsed location lies under itself
  collapsed_under : (first : ℕ) (x : Location) → slice_get g.space first ≡ Some x → x.collapsed ≡ true → IsUnder system first first
  collapsed_under first x x_is c =
      let f = grounds.facts first x x_is in
      let size : extent_at system first ≡ 1 = ap (extent_by system) f.1 ∙ ap (λ (b : Bool). cond b 1 (system_nodes system f.0.ty)) (f.2.collapsed ∙ c) in
      (omega arith, omega arith)

  -- below the whole of an object
  whole_under : (key : ObjectKey) (first : ℕ) (x : Location) → first_from 0 g.space key ≡ Some first → slice_get g.space first ≡ Some x → (whole : Ctype) → HasShape g.table x.content (Some whole) → IsKnown g system grounds few whole
      → (path : List PathStep) (r : Reached) → part_at g.table (Some (reached whole 0 false)) path ≡ Some r → IsUnder system first (object_row x.content first r.node)
  whole_under key first x first_is x_is whole shape known path r r_is =
      subst (λ (at : ℕ). IsUnder system at (object_row x.content first r.node)) (object_start g system grounds few x.content first)
      (sub_under g system grounds few (object_row x.content first 0) (type_number whole) (object_row x.content first r.node)
      (part_sub g system grounds few key first x first_is x_is whole shape [] path (reached whole 0 false) r refl r_is known))

  -- a location of an object that may have no type yet lies under the object's
  pub made_under : (key : ObjectKey) (first : ℕ) (x : Location) → first_from 0 g.space key ≡ Some first → slice_get g.space first ≡ Some x → HasShape g.table x.content None → (path : List PathStep) (l : ℕ)
      → spot g.table g.space key path ≡ Some l → IsUnder system first l
  made_under key first x first_is x_is shape path l lands = by x.content refl (sym (spot_value key first x path first_is x_is) ∙ lands)
    where
      at_first : (n : ℕ) → first + 0 ≡ n → IsUnder system first first → IsUnder system first n
      at_first n same h = subst (IsUnder system first) (let zero_is : first ≡ n = omega arith in zero_is) h

      elements : (id : TypeId) → x.content ≡ Elements id → (p : List PathStep) (r : Reached) → part_at g.table (Some (reached (ArrayOf (type_of g.table id.0) (Some 1)) 0 false)) p ≡ Some r → IsUnder system first (first + r.node)
      elements id is p r r_is =
          let complete : IsSome (extent_in g.table (type_of g.table id.0)) = (subst (λ (c : Content). HasShape g.table c None) is shape).1 in
          let whole : Ctype = ArrayOf (type_of g.table id.0) (Some 1) in
          let own : HasShape g.table x.content (Some whole) = subst (λ (c : Content). HasShape g.table c (Some (ArrayOf (type_of g.table id.0) (Some 1)))) (sym is) (inr (1, refl), complete) in
          subst (λ (c : Content). IsUnder system first (object_row c first r.node)) is
          (whole_under key first x first_is x_is whole own (repeated_known g system grounds few (type_of g.table id.0) 1 (listed_known g system grounds few id.0)) p r r_is)

      element : (id : TypeId) → x.content ≡ Elements id → (p : List PathStep) (o : Option Reached) → part_at g.table (Some (reached (ArrayOf (type_of g.table id.0) (Some 1)) 0 false)) p ≡ o
          → option_map (λ (n : ℕ). first + n) (option_map (λ (r : Reached). r.node) o) ≡ Some l → IsUnder system first l
      element id is p None o_is h = absurd (none_some h)
      element id is p (Some r) o_is h = subst (IsUnder system first) (some_one h) (elements id is p r o_is)

      -- the length of the array is nothing to its parts
      any_length : (id : TypeId) → x.content ≡ Elements id → (p : List PathStep) → option_map (λ (n : ℕ). first + n) (node_in g.table (Elements id) p) ≡ Some l → IsUnder system first l
      any_length id is [] h = element id is [] (Some (reached (ArrayOf (type_of g.table id.0) (Some 1)) 0 false)) refl h
      any_length id is (Index i ∷ rest) h = element id is (Index i ∷ rest) (part_at g.table (Some (reached (type_of g.table id.0) 0 false)) rest) refl h
      any_length id is (Member k ∷ rest) h = absurd (none_some (sym (ap (λ (o : Option Reached). option_map (λ (n : ℕ). first + n) (option_map (λ (r : Reached). r.node) o)) (nowhere g.table rest)) ∙ h))

      by : (content : Content) → x.content ≡ content → option_map (λ (n : ℕ). first + n) (node_in g.table content path) ≡ Some l → IsUnder system first l
      by Blob is h = at_first l (some_one h) (collapsed_under first x x_is (subst (λ (c : Content). ContentTells c x) is (grounds.contents first x x_is)))
      by (Elements id) is h = any_length id is path h
      by FunctionContent is h = absurd (subst (λ (c : Content). HasShape g.table c None) is shape)
      by (Scalar number) is h = absurd (none_some (subst (λ (c : Content). HasShape g.table c None) is shape).1)
      by (Scalars number) is h = absurd (none_some (subst (λ (c : Content). HasShape g.table c None) is shape).2)
      by (Typed id) is h = absurd (none_some (subst (λ (c : Content). HasShape g.table c None) is shape).0)

  -- the cells of an object of scalars have its location alone
  pub scalars_first : (key : ObjectKey) (first number : ℕ) (x : Location) → first_from 0 g.space key ≡ Some first → slice_get g.space first ≡ Some x → x.content ≡ Scalars number → (path : List PathStep) (l : ℕ)
      → spot g.table g.space key path ≡ Some l → l ≡ first
  scalars_first key first number x first_is x_is is path l lands =
      by path (sym (spot_value key first x path first_is x_is ∙ ap (λ (c : Content). option_map (λ (n : ℕ). first + n) (node_in g.table c path)) is) ∙ lands)
    where
      none_left : (p : List PathStep) → option_map (λ (n : ℕ). first + n) (no_step p) ≡ Some l → l ≡ first
      none_left [] h = (let same : first + 0 ≡ l = some_one h in omega arith)
      none_left (step ∷ rest) h = absurd (none_some h)

      by : (p : List PathStep) → option_map (λ (n : ℕ). first + n) (one_index p) ≡ Some l → l ≡ first
      by [] h = (let same : first + 0 ≡ l = some_one h in omega arith)
      by (Index i ∷ rest) h = none_left rest h
      by (Member k ∷ rest) h = absurd (none_some h)

  pub scalars_under : (key : ObjectKey) (first number : ℕ) (x : Location) → first_from 0 g.space key ≡ Some first → slice_get g.space first ≡ Some x → x.content ≡ Scalars number → (id : TypeId) → IsScalar (type_of g.table id.0)
      → space_number (type_of g.table id.0) ≡ number → (path : List PathStep) (l : ℕ) → spot g.table g.space key path ≡ Some l → IsUnder system first l
  scalars_under key first number x first_is x_is is id scalar number_is path l lands =
      let whole : Ctype = ArrayOf (type_of g.table id.0) (Some 1) in
      let own : HasShape g.table x.content (Some whole) =
      subst (λ (c : Content). HasShape g.table c (Some (ArrayOf (type_of g.table id.0) (Some 1)))) (sym is) (type_of g.table id.0, 1, refl, scalar, number_is) in
      let under = whole_under key first x first_is x_is whole own (repeated_known g system grounds few (type_of g.table id.0) 1 (listed_known g system grounds few id.0)) [] (reached whole 0 false) refl in
      subst (IsUnder system first) (object_start g system grounds few x.content first ∙ sym (scalars_first key first number x first_is x_is is path l lands)) under

  -- ---- cells of instances

  module _ (memory : List Instance) (all : MemoryIn g memory) where
    part_of : (inst : Instance) (whole : Ctype) (path : List PathStep) → whole_of g.table inst ≡ Some whole → MayHold g.table (whole_of g.table inst) path → (r : Reached) × (part_at g.table (Some (reached whole 0 false)) path ≡ Some r)
    part_of inst whole path is h = there (part_at g.table (Some (reached whole 0 false)) path) (subst (λ (o : Option Ctype). MayHold g.table o path) is h)

    -- a cell of an instance that has a type lies under its object
    pub instance_under : (i : ℕ) (inst : Instance) → slice_get memory i ≡ Some inst → (inside : InstanceIn g memory inst) (whole : Ctype) → whole_of g.table inst ≡ Some whole → (path : List PathStep) (l : ℕ)
        → MayHold g.table (whole_of g.table inst) path → spot g.table g.space inst.key path ≡ Some l → IsUnder system inside.first l
    instance_under i inst at inside whole whole_is path l may_hold lands =
        let shape : HasShape g.table inside.location.content (Some whole) = subst (HasShape g.table inside.location.content) whole_is inside.shape in
        let r = part_of inst whole path whole_is may_hold in
        let there_is = spot_is g.table g.space system grounds inst.key inside.first inside.location inside.first_is inside.location_is (Some whole) shape path r.0 r.1 in
        subst (IsUnder system inside.first) (some_one (sym there_is ∙ lands))
        (whole_under inst.key inside.first inside.location inside.first_is inside.location_is whole shape (part_known g system grounds few inst whole [] (reached whole 0 false) whole_is refl) path r.0 r.1)

    -- a cell in the array in which a covered pointer points, or below the part to which it points
    pub pointer_reached : (row i : ℕ) (front : List PathStep) (past : Bool) → CellIn g memory (Some row) (Pointer i front past) → (inst : Instance) → slice_get memory i ≡ Some inst → (beside below : List PathStep) → AreBeside beside front
        → MayHold g.table (whole_of g.table inst) (beside ++ below) → (l : ℕ) → spot g.table g.space inst.key (beside ++ below) ≡ Some l → IsReachedBy system g.family None row l
    pointer_reached row i front past points inst at beside below is_beside may_hold l lands = by (whole_of g.table inst) refl
      where
        same : points.inst ≡ inst
        same = some_one (sym points.inst_is ∙ at)

        inside : InstanceIn g memory inst
        inside = all i inst at

        front_tree : IsInTree g.table (whole_of g.table inst) (room inst) front
        front_tree = subst (λ (x : Instance). IsInTree g.table (whole_of g.table x) (room x) front) same points.in_tree

        has : Has g.family row points.lands.location
        has = subst (λ (r : ℕ). Has g.family r points.lands.location) (sym (some_one points.lands.row_is)) points.lands.has

        found : spot g.table g.space inst.key front ≡ Some points.lands.location
        found = ap (λ (x : Instance). spot g.table g.space x.key front) (sym same) ∙ points.lands.found_is

        typed : (whole : Ctype) → whole_of g.table inst ≡ Some whole → IsReachedBy system g.family None row l
        typed whole whole_is =
            let shape : HasShape g.table inside.location.content (Some whole) = subst (HasShape g.table inside.location.content) whole_is inside.shape in
            let top = there (part_at g.table (Some (reached whole 0 false)) front) (subst (λ (o : Option Ctype). IsInTree g.table o (room inst) front) whole_is front_tree) in
            let r = part_of inst whole (beside ++ below) whole_is may_hold in
            let along : part_at g.table (Some (reached whole 0 false)) (front ++ below) ≡ Some r.0 =
            part_along g.table (Some (reached whole 0 false)) front below
            ∙ (ap (λ (o : Option Reached). part_at g.table o below) (sym (beside_part g.table (Some (reached whole 0 false)) beside front is_beside))
            ∙ (sym (part_along g.table (Some (reached whole 0 false)) beside below) ∙ r.1)) in
            let s = part_sub g system grounds few inst.key inside.first inside.location inside.first_is inside.location_is whole shape front below top.0 r.0 top.1 along (part_known g system grounds few inst whole front top.0 whole_is top.1) in
            let here : points.lands.location ≡ object_row inside.location.content inside.first top.0.node =
            some_one (sym found ∙ spot_is g.table g.space system grounds inst.key inside.first inside.location inside.first_is inside.location_is (Some whole) shape front top.0 top.1) in
            let end : object_row inside.location.content inside.first r.0.node ≡ l =
            some_one (sym (spot_is g.table g.space system grounds inst.key inside.first inside.location inside.first_is inside.location_is (Some whole) shape (beside ++ below) r.0 r.1) ∙ lands) in (
              points.lands.location,
              has,
              subst (λ (k : ℕ). IsUnder system points.lands.location k) end
                  (subst (λ (k : ℕ). IsUnder system k (object_row inside.location.content inside.first r.0.node)) (sym here)
                  (sub_under g system grounds few (object_row inside.location.content inside.first top.0.node) (type_number top.0.ty) (object_row inside.location.content inside.first r.0.node) s)),
            )

        -- without a type all elements have the object's location, and all that they may hold lies under it
        untyped : whole_of g.table inst ≡ None → IsReachedBy system g.family None row l
        untyped none =
            let shape : HasShape g.table inside.location.content None = subst (HasShape g.table inside.location.content) none inside.shape in
            let element = subst (λ (o : Option Ctype). IsInTree g.table o (room inst) front) none front_tree in
            let start : points.lands.location ≡ inside.first = element_first element.0 (sym (ap (spot g.table g.space inst.key) element.1) ∙ found) shape in
            let under = made_under inst.key inside.first inside.location inside.first_is inside.location_is shape (beside ++ below) l lands in
            (points.lands.location, has, subst (λ (k : ℕ). IsUnder system k l) (sym start) under)
          where
            element_first : (j : ℕ) → spot g.table g.space inst.key (Index j ∷ []) ≡ Some points.lands.location → HasShape g.table inside.location.content None → points.lands.location ≡ inside.first
            element_first j at_j shape = of_content inside.location.content shape (sym (spot_value inst.key inside.first inside.location (Index j ∷ []) inside.first_is inside.location_is) ∙ at_j)
              where
                of_content : (content : Content) → HasShape g.table content None → option_map (λ (n : ℕ). inside.first + n) (node_in g.table content (Index j ∷ [])) ≡ Some points.lands.location → points.lands.location ≡ inside.first
                of_content Blob h e = (let same_one : inside.first + 0 ≡ points.lands.location = some_one e in omega arith)
                of_content (Elements id) h e = (let same_one : inside.first + 0 ≡ points.lands.location = some_one e in omega arith)
                of_content FunctionContent h e = absurd h
                of_content (Scalar number) h e = absurd (none_some h.1)
                of_content (Scalars number) h e = absurd (none_some h.2)
                of_content (Typed id) h e = absurd (none_some h.0)

        by : (o : Option Ctype) → whole_of g.table inst ≡ o → IsReachedBy system g.family None row l
        by (Some whole) is = typed whole is
        by None is = untyped is

    -- a cell of a covered place of a type
    pub place_reached : (through i l : ℕ) (place : Cell) (t : Ctype) (path : List PathStep) (inst : Instance) → CellIn g memory (Some through) place → IsOfPlace g.table memory place t i path → slice_get memory i ≡ Some inst
        → MayHold g.table (whole_of g.table inst) path → spot g.table g.space inst.key path ≡ Some l → IsReachedBy system g.family (Some (type_number t)) through l
    place_reached through i l place t path inst covered cell at may_hold lands =
        let f = found_at g system grounds memory through place t cell.found all covered cell.reached in
        let one = pointers_one f.reaches.i i f.reaches.path cell.front f.reaches.past cell.past (sym f.reaches.place_is ∙ cell.place_is) in
        let same : f.reaches.inst ≡ inst = some_one (sym f.reaches.inst_is ∙ (ap (slice_get memory) one.0 ∙ at)) in
        let target = f.target in
        let inside = target.inside in
        let shape : HasShape g.table inside.location.content (Some target.whole) = subst (HasShape g.table inside.location.content) target.whole_is inside.shape in
        let tree : MayHold g.table (whole_of g.table f.reaches.inst) path = subst (λ (x : Instance). MayHold g.table (whole_of g.table x) path) (sym same) may_hold in
        let path_is : path ≡ f.reaches.path ++ cell.below = cell.path_is ∙ ap (λ (p : List PathStep). p ++ cell.below) (sym one.1) in
        let r = part_of f.reaches.inst target.whole path target.whole_is tree in
        let along : part_at g.table (Some (reached target.whole 0 false)) (f.reaches.path ++ cell.below) ≡ Some r.0 = ap (part_at g.table (Some (reached target.whole 0 false))) (sym path_is) ∙ r.1 in
        let s = part_sub g system grounds few f.reaches.inst.key inside.first inside.location inside.first_is inside.location_is target.whole shape f.reaches.path cell.below target.part r.0 target.part_is along
        (part_known g system grounds few f.reaches.inst target.whole f.reaches.path target.part target.whole_is target.part_is) in
        let end : object_row inside.location.content inside.first r.0.node ≡ l =
        some_one (sym (spot_is g.table g.space system grounds f.reaches.inst.key inside.first inside.location inside.first_is inside.location_is (Some target.whole) shape path r.0 r.1)
        ∙ (ap (λ (x : Instance). spot g.table g.space x.key path) same ∙ lands)) in
        let number : type_number target.part.ty ≡ type_number t = ap type_number f.ty ∙ f.alike.number in (
          object_row inside.location.content inside.first target.part.node,
          target.has,
          (
            s.sub,
            subst (λ (k : ℕ). s.sub < system_nodes system k) number s.within,
            ap (λ (k : ℕ). sub_of system (object_row inside.location.content inside.first target.part.node) k s.sub) (sym number) ∙ (s.is ∙ ap (λ (k : ℕ). Some k) end),
          ),
        )
