-- What each kind of node demands leaves an allocating function's location at its names and at what decays from them.
use Rattle.std.proofs.Common.{arith, ◌≡◌, ◌∙◌, ◌&&◌, inl, inr, ℕ, zero, suc, ◌+◌, ◌<◌, ◌≤◌, Bool, true, false, cond, List, [], ◌∷◌, ◌++◌, length, get_or, drop, Option, Some, None, unwrap_or, slice_get, refl, sym, ap, subst}
use Rattle.std.specs.List.{All, flat_map}
use Rattle.std.specs.Option.{option_and_then}
use Rattle.std.proofs.lemmas.Bool.{false≢true}
use Rattle.std.proofs.lemmas.List.Elements.{All-nil, All-cons, All-append, All-map}
use Rattle.std.proofs.lemmas.List.Concat.{flat_map-cons}
use Rattle.c_types.specs.declared.key.ObjectKey.TheVariants.{Text as TextKey, Function as FunctionKey, Varargs as VarargsKey}
use Rattle.c_types.specs.declared.term.PathStep.{PathStep}
use Rattle.c_types.specs.declared.term.Term.TheVariants.{Union}
use Rattle.c_types.specs.Trees.{Ctype, VoidType, BoolType, IntegerType, FloatingType, VaListType, PointerTo, ArrayOf, FunctionFrom, StructureOf, UnionOf}
use Rattle.c_types.specs.Table.{Table, type_of}
use Rattle.type_rules.specs.Conversions.{Agree}
use Rattle.type_rules.specs.Kinds.{IsFunction, IsArray}
use Rattle.type_rules.specs.Members.{IsMemberOf}
use Rattle.type_rules.specs.Sizes.{PointsToObject}
use Rattle.core_tree.specs.declared.node.Entity.{Entity}
use Rattle.core_tree.specs.declared.node.Node.{Node}
use Rattle.core_tree.specs.declared.node.NodeKind.{NodeKind}
use Rattle.core_tree.specs.declared.node.NodeKind.TheVariants.{Named, Text, Literal, FunctionName, Deref, Member, Fetch, AddressOf, Decay, PointerAdd, Convert, Upcast, Assign, Update, Choose, Sequence, CallNode, VarArgs, NextArg, MemberOfValue, Return, Initialise}
use Rattle.core_tree.specs.declared.node.Program.{Program}
use Rattle.core_tree.specs.declared.node.Storage.TheVariants.{Static, Automatic, Declared}
use Rattle.core_tree.specs.Range.{Has}
use Rattle.core_tree.specs.Rows.{RowOf, CallRow, IsEntityIn, InitialValues}
use Rattle.core_tree.specs.Typed.{ValueNode, sort_at, type_in, type_at, trees_in}
use Rattle.core_tree.specs.Valid.{IsLiteral, IsLasting}
use Rattle.sol_model.specs.declared.system.System.{System}
use Rattle.sol_model.specs.Families.{Family}
use Rattle.sol_model.specs.Systems.{IsValid, IsConstraintValid}
use Rattle.sol_model.proofs.InRange.{sub_location}
use Rattle.obj_made.specs.Uses.{is_allocator, is_starred, entity_number, star_number, is_number, library_number as number_at}
use Rattle.obj_space.specs.declared.location.Location.{Location}
use Rattle.obj_space.specs.View.{first_from, view_of}
use Rattle.row_numbers.specs.Kept.{nodes_of, kept, kept_count, kept_row}
use Rattle.row_numbers.specs.Numbers.{type_number}
use Rattle.row_numbers.specs.Objects.{location_of}
use Rattle.row_numbers.specs.Setting.{Setting, row, list_row, rest_row}
use Rattle.call_sites.specs.Calls.{variadic_count}
use Rattle.normal_form.specs.declared.normal.Assignment.{Assignment}
use Rattle.normal_form.specs.declared.normal.Assignment.TheVariants.{Address, Copy, Load, Store, Field}
use Rattle.normal_form.specs.Assignments.{copies, spreads, loads, stores, passed_row, is_pointer, is_union_type, part_first, part_of_value, given_type, returned_by, put_at, gathered_row, gathered_past, call_row, initialise_row, place_of_kind, value_of_kind, statement_of_kind, node_assignments}
use Rattle.normal_form.specs.SystemOf.{constraint_of, setting_of, SystemOf}
use Rattle.linked_laws.proofs.system_laws.demand_laws.Fitting.{count_is}
use Rattle.linked_laws.proofs.system_laws.fact_laws.Facts.{structure_proper}
use Rattle.covered_runs.specs.covered_programs.allocation_laws.Spread.{IsRight, ReturnsFit, AreSpaced}
use Rattle.covered_runs.proofs.covered_programs.allocation_laws.Marks.{none_some, same_number, name_marked}
use Rattle.covered_runs.proofs.covered_programs.allocation_laws.Ranges.{kept_low, IsRowOf, place_row, value_row, pointer_row, location_plain, marked_special}
use Rattle.covered_runs.proofs.covered_programs.allocation_laws.Firsts.{first_item}
use Rattle.covered_runs.proofs.covered_programs.allocation_laws.Fields.{no_field}
use Rattle.covered_runs.proofs.covered_programs.allocation_laws.Members.{part_rows, union_row}
use Rattle.covered_runs.proofs.covered_programs.allocation_laws.Calls.{row_values}
use Rattle.covered_runs.proofs.covered_programs.allocation_laws.Keeping.{made_number, number_declared, is_plain, IsSpecial, Keeps, key_or, entity_own, from_child, plain_child}

-- what agrees with a function's type is one
agree_function : (t a : Ctype) → Agree t a → IsFunction a → IsFunction t
agree_function (FunctionFrom r ps f) a h function = tt
agree_function VoidType (FunctionFrom r ps f) h function = cc
agree_function BoolType (FunctionFrom r ps f) h function = cc
agree_function (IntegerType size rank signed) (FunctionFrom r ps f) h function = cc
agree_function FloatingType (FunctionFrom r ps f) h function = cc
agree_function VaListType (FunctionFrom r ps f) h function = cc
agree_function (PointerTo to) (FunctionFrom r ps f) h function = cc
agree_function (ArrayOf of None) (FunctionFrom r ps f) h function = cc
agree_function (ArrayOf of (Some n)) (FunctionFrom r ps f) h function = cc
agree_function (StructureOf tag) (FunctionFrom r ps f) h function = cc
agree_function (UnionOf tag) (FunctionFrom r ps f) h function = cc
agree_function t a h function = absurd function

text_function : (n k : ℕ) → TextKey n ≡ FunctionKey k → ⊥
text_function n k h = cc

varargs_function : (e k : ℕ) → VarargsKey e ≡ FunctionKey k → ⊥
varargs_function e k h = cc

past_first : {j : ℕ} → suc j ≡ 0 → ⊥
past_first h = omega arith

-- what stands behind the first so many
dropped : (count : ℕ) (xs : List ℕ) (j v : ℕ) → slice_get (drop count xs) j ≡ Some v → slice_get xs (count + j) ≡ Some v
dropped zero xs j v h = subst (λ (i : ℕ). slice_get xs i ≡ Some v) (let e : j ≡ 0 + j = omega arith in e) h
dropped (suc count) [] j v h = absurd (none_some h)
dropped (suc count) (x ∷ xs) j v h = subst (λ (i : ℕ). slice_get (x ∷ xs) i ≡ Some v) (let e : suc (count + j) ≡ suc count + j = omega arith in e) (dropped count xs j v h)

static_declared : Static ≡ Declared → ⊥
static_declared h = cc

automatic_declared : Automatic ≡ Declared → ⊥
automatic_declared h = cc

decay_call : Decay ≡ CallNode → ⊥
decay_call h = cc

pointer_type : (t : Ctype) → is_pointer t ≡ true → (to : Ctype) × (t ≡ PointerTo to)
pointer_type (PointerTo to) h = (to, refl)
pointer_type t h = absurd (false≢true h)

object_pointer : (table : Table) (t : Ctype) → PointsToObject table t → (to : Ctype) × (t ≡ PointerTo to)
object_pointer table (PointerTo to) h = (to, refl)
object_pointer table t h = absurd h

and_right : (a b : Bool) → (a && b) ≡ true → b ≡ true
and_right true b h = h
and_right false b h = absurd (false≢true h)

module _ (p : Program) (space : List Location) (system : System) (is : SystemOf p (view_of space) system) (right : IsRight p) (spaced : AreSpaced p space) (F : Family) (k L : ℕ) (own : first_from 0 space (FunctionKey k) ≡ Some L) (unused : is_starred p.entities.items p.nodes.items k ≡ false)
    (returns : ReturnsFit p space system is) (valid : IsValid system) (allocates : is_allocator k ≡ true) where
  abbrev w : Setting
  w = setting_of p (view_of space) is.owners

  abbrev Right : Assignment → Type 0
  Right a = Keeps p space system is right spaced F k L own unused (constraint_of a)

  abbrev AllRight : List Assignment → Type 0
  AllRight list = All Right list

  abbrev Special : ℕ → Type 0
  Special r = IsSpecial p space system is right spaced F k L own unused r

  abbrev first_row : ℕ → ℕ
  first_row n = row (trees_in p) (view_of space) n

  nothing : AllRight []
  nothing = All-nil Right

  one : (a : Assignment) → Right a → AllRight (a ∷ [])
  one a h = All-cons Right a [] h nothing

  -- an object that is no function, and a function's name
  other_right : (n l : ℕ) → (l ≡ L → ⊥) → AllRight (Address (first_row n) l ∷ [])
  other_right n l other = one (Address (first_row n) l) (record { edges = λ a b ok h special. absurd h; facts = λ r h. absurd (other (sym h.1)) })

  load_right : (to pointer ty sub : ℕ) → Right (Load to pointer ty sub)
  load_right to pointer ty sub = record {
    edges = λ a b ok h special.
        absurd (location_plain (trees_in p) (view_of space) right.rows k a (let less = sub_location system valid h.0 ty sub a ok.2 h.2 in let many = count_is p space system is in omega arith) special);
    facts = λ r h. absurd h;
  }

  loads_right : (nodes : List Ctype) (to pointer ty : ℕ) → AllRight (loads nodes to pointer ty)
  loads_right nodes to pointer ty =
      All-map Right (λ i. Load (kept_row to nodes i) pointer ty i) (kept nodes) (λ j d lt. load_right (kept_row to nodes (get_or (kept nodes) j d)) pointer ty (get_or (kept nodes) j d))

  field_right : (to from ty member : ℕ) → AllRight (Field to from ty member ∷ [])
  field_right to from ty member =
      let x = first_item space (FunctionKey k) L own in
      one (Field to from ty member)
      (record { edges = λ a b ok h special. absurd h; facts = λ r h. absurd (no_field p space system is right.made right.fit spaced k L x.0 x.1 x.2 h.0 ty member h.2) })

  module _ (n : ℕ) (node : Node) (at : slice_get p.nodes.items n ≡ Some node) where
    -- a row of a value, where its nodes are among the value's
    among : (v from : ℕ) (t : Ctype) (nodes : List Ctype) → sort_at (trees_in p) v ≡ ValueNode → type_at (trees_in p) v ≡ t → first_row v ≤ from → from + kept_count nodes ≤ first_row v + kept_count (nodes_of p.types t)
        → (j d : ℕ) → j < length (kept nodes) → IsRowOf (trees_in p) (view_of space) v (kept_row from nodes (get_or (kept nodes) j d))
    among v from t nodes sort type low high j d lt =
        let few = kept_low nodes j d lt in
        value_row (trees_in p) (view_of space) v t (kept_row from nodes (get_or (kept nodes) j d)) sort type (omega arith) (omega arith)

    module _ (plain : is_plain node.kind ≡ true) where
      from_plain : (v from : ℕ) → Has node.children v → IsRowOf (trees_in p) (view_of space) v from → Special from → ⊥
      from_plain v from child rows special = plain_child p space system is right spaced F k L own unused n node v from at plain child rows special

      copy_right : (v to from : ℕ) → Has node.children v → IsRowOf (trees_in p) (view_of space) v from → Right (Copy to from)
      copy_right v to from child rows = record { edges = λ a b ok h special. absurd (from_plain v from child rows (subst Special h.0 special)); facts = λ r h. absurd h }

      store_right : (v pointer from ty sub : ℕ) → Has node.children v → IsRowOf (trees_in p) (view_of space) v from → Right (Store pointer from ty sub)
      store_right v pointer from ty sub child rows = record { edges = λ a b ok h special. absurd (from_plain v from child rows (subst Special h.3 special)); facts = λ r h. absurd h }

      one_copy : (v to : ℕ) → Has node.children v → IsRowOf (trees_in p) (view_of space) v (first_row v) → AllRight (Copy to (first_row v) ∷ [])
      one_copy v to child rows = one (Copy to (first_row v)) (copy_right v to (first_row v) child rows)

      copies_right : (v from to : ℕ) (t : Ctype) (nodes : List Ctype) → Has node.children v → sort_at (trees_in p) v ≡ ValueNode → type_at (trees_in p) v ≡ t → first_row v ≤ from
          → from + kept_count nodes ≤ first_row v + kept_count (nodes_of p.types t) → AllRight (copies nodes to from)
      copies_right v from to t nodes child sort type low high =
          All-map Right (λ i. Copy (kept_row to nodes i) (kept_row from nodes i)) (kept nodes)
          (λ j d lt. copy_right v (kept_row to nodes (get_or (kept nodes) j d)) (kept_row from nodes (get_or (kept nodes) j d)) child (among v from t nodes sort type low high j d lt))

      value_copies : (v to : ℕ) (t : Ctype) → Has node.children v → sort_at (trees_in p) v ≡ ValueNode → type_at (trees_in p) v ≡ t → AllRight (copies (nodes_of p.types t) to (first_row v))
      value_copies v to t child sort type = copies_right v (first_row v) to t (nodes_of p.types t) child sort type (omega arith) (omega arith)

      value_stores : (v pointer ty : ℕ) (t : Ctype) → Has node.children v → sort_at (trees_in p) v ≡ ValueNode → type_at (trees_in p) v ≡ t → AllRight (stores (nodes_of p.types t) pointer (first_row v) ty)
      value_stores v pointer ty t child sort type =
          All-map Right (λ i. Store pointer (kept_row (first_row v) (nodes_of p.types t) i) ty i) (kept (nodes_of p.types t))
          (λ j d lt.
          store_right v pointer (kept_row (first_row v) (nodes_of p.types t) (get_or (kept (nodes_of p.types t)) j d)) ty (get_or (kept (nodes_of p.types t)) j d) child
          (among v (first_row v) t (nodes_of p.types t) sort type (omega arith) (omega arith) j d lt))

      spreads_right : (v to : ℕ) (nodes : List Ctype) → Has node.children v → IsRowOf (trees_in p) (view_of space) v (first_row v) → AllRight (spreads nodes to (first_row v))
      spreads_right v to nodes child rows =
          All-map Right (λ i. Copy (kept_row to nodes i) (first_row v)) (kept nodes) (λ j d lt. copy_right v (kept_row to nodes (get_or (kept nodes) j d)) (first_row v) child rows)

      put_right : (v location : ℕ) (collapsed : Bool) → Has node.children v → sort_at (trees_in p) v ≡ ValueNode → AllRight (put_at (nodes_of p.types (type_at (trees_in p) v)) collapsed location (first_row v))
      put_right v location true child sort =
          let nodes = nodes_of p.types (type_at (trees_in p) v) in
          All-map Right (λ i. Copy location (kept_row (first_row v) nodes i)) (kept nodes)
          (λ j d lt. copy_right v location (kept_row (first_row v) nodes (get_or (kept nodes) j d)) child (among v (first_row v) (type_at (trees_in p) v) nodes sort refl (omega arith) (omega arith) j d lt))
      put_right v location false child sort =
          let nodes = nodes_of p.types (type_at (trees_in p) v) in
          All-map Right (λ i. Copy (location + i) (kept_row (first_row v) nodes i)) (kept nodes)
          (λ j d lt. copy_right v (location + get_or (kept nodes) j d) (kept_row (first_row v) nodes (get_or (kept nodes) j d)) child (among v (first_row v) (type_at (trees_in p) v) nodes sort refl (omega arith) (omega arith) j d lt))

      -- each item of an initialiser
      items_right : (e : ℕ) (o : Option Ctype) (paths : List (List PathStep)) (values : List ℕ) → ((j v : ℕ) → slice_get values j ≡ Some v → Has node.children v) → InitialValues (trees_in p) o paths values → AllRight (initialise_row w e paths values)
      items_right e o [] [] mine h = nothing
      items_right e o [] (v ∷ values) mine h = nothing
      items_right e o (path ∷ paths) [] mine h = nothing
      items_right e o (path ∷ paths) (v ∷ values) mine h = All-append Right _ (initialise_row w e paths values) (put_right v _ _ (mine 0 v refl) h.0) (items_right e o paths values (λ j x found. mine (suc j) x found) h.2)

    -- what a call passes
    passed_right : node.kind ≡ CallNode → (j v to from : ℕ) → slice_get node.children (suc j) ≡ Some v → IsRowOf (trees_in p) (view_of space) v from → Right (Copy to from)
    passed_right call j v to from child rows = record { edges = edges; facts = λ r h. absurd h }
      where
        edges : (a b : ℕ) → IsConstraintValid system (constraint_of (Copy to from)) → (a ≡ from) × (b ≡ to) → Special a → Special b
        edges a b ok g special = elim (from_child p space system is right spaced F k L own unused n node (suc j) v from at child rows (subst Special g.0 special)) [
          | inl d ↦ absurd (decay_call (sym d.0 ∙ call))
          | inr c ↦ absurd (past_first c.1)
        ]

    gathered_right : node.kind ≡ CallNode → (j v : ℕ) → slice_get node.children (suc j) ≡ Some v → sort_at (trees_in p) v ≡ ValueNode → AllRight (gathered_row w n v)
    gathered_right call j v child sort =
        let nodes = nodes_of p.types (type_at (trees_in p) v) in
        let to = rest_row (trees_in p) (view_of space) n in
        All-map Right (λ i. Copy to (kept_row (first_row v) nodes i)) (kept nodes)
        (λ i d lt. passed_right call j v to (kept_row (first_row v) nodes (get_or (kept nodes) i d)) child (among v (first_row v) (type_at (trees_in p) v) nodes sort refl (omega arith) (omega arith) i d lt))

    gathered_all : node.kind ≡ CallNode → (values : List ℕ) → ((j v : ℕ) → slice_get values j ≡ Some v → (i : ℕ) × (slice_get node.children (suc i) ≡ Some v) × (sort_at (trees_in p) v ≡ ValueNode)) → AllRight (flat_map (gathered_row w n) values)
    gathered_all call [] each = nothing
    gathered_all call (v ∷ values) each =
        let mine = each 0 v refl in
        subst (λ (list : List Assignment). All Right list) (sym (flat_map-cons (gathered_row w n) v values))
        (All-append Right (gathered_row w n v) (flat_map (gathered_row w n) values) (gathered_right call mine.0 v mine.1 mine.2) (gathered_all call values (λ j x found. each (suc j) x found)))

    call_right : node.kind ≡ CallNode → (t : Ctype) (children : List ℕ) → node.children ≡ children → CallRow (trees_in p) t children → AllRight (call_row w n children)
    call_right call t [] list h = nothing
    call_right call t (c ∷ arguments) list h = by (variadic_count (type_at (trees_in p) c))
      where
        by : (o : Option ℕ) → AllRight (gathered_past w n o arguments)
        by None = nothing
        by (Some count) =
            gathered_all call (drop count arguments)
            (λ j v found. (count + j, ap (λ (l : List ℕ). slice_get l (suc (count + j))) list ∙ dropped count arguments j v found, row_values (trees_in p) t (c ∷ arguments) h (count + j) v (dropped count arguments j v found)))

    named_own : (e : ℕ) (t : Ctype) → L ≡ location_of (trees_in p) (view_of space) e → IsEntityIn (trees_in p) (slice_get p.entities.items e) t → IsFunction t
    named_own e t h row =
        let x = entity_own p space system is right spaced F k L own unused e h in
        agree_function t (type_of p.types x.0.ty.0) (subst (λ (o : Option Entity). IsEntityIn (trees_in p) o t) x.1 row) (right.shaped e x.0 x.1 k x.2 allocates)

    literal_own : (e : ℕ) → node.kind ≡ Literal e → L ≡ location_of (trees_in p) (view_of space) e → ⊥
    literal_own e kind h =
        let x = entity_own p space system is right spaced F k L own unused e h in
        let lasting = subst (λ (o : Option Entity). IsLasting o) x.1 (subst (IsLiteral (trees_in p) n) kind (right.literals n node at)).0 in
        let declared = number_declared x.0 k x.2 in
        elim lasting [ inl static ↦ static_declared (sym static ∙ declared) | inr automatic ↦ automatic_declared (sym automatic ∙ declared) ]

    name_right : (e : ℕ) → node.kind ≡ FunctionName e → AllRight (Address (first_row n) (location_of (trees_in p) (view_of space) e) ∷ [])
    name_right e kind = one (Address (first_row n) (location_of (trees_in p) (view_of space) e)) (record { edges = λ a b ok h special. absurd h; facts = facts })
      where
        facts : (r : ℕ) → (r ≡ first_row n) × (L ≡ location_of (trees_in p) (view_of space) e) → Special r
        facts r h =
            let x = entity_own p space system is right spaced F k L own unused e h.1 in
            let number : number_at p.entities.items e ≡ Some k = ap (option_and_then entity_number) x.1 ∙ made_number x.0 k x.2 in
            let name : is_number k (star_number p.entities.items false node.kind) ≡ true = ap (λ (j : NodeKind). is_number k (star_number p.entities.items false j)) kind ∙ (ap (is_number k) number ∙ same_number k) in
            subst Special (sym h.0) (marked_special (trees_in p) (view_of space) k n node at (name_marked (trees_in p) k n (record { node = node; there = at; name = name })))

    module _ (t : Ctype) (type : type_of p.types node.ty.0 ≡ t) where
      -- places
      place_right : (kind : NodeKind) → node.kind ≡ kind → (children : List ℕ) → node.children ≡ children → RowOf (trees_in p) kind t children → AllRight (place_of_kind w n kind children)
      place_right (Named e) kind [] list h = other_right n (location_of (trees_in p) (view_of space) e) (λ same. h.1 (named_own e t (sym same) h.0))
      place_right (Named e) kind (v ∷ rest) list h = absurd h
      place_right (Text bytes) kind children list h = other_right n (unwrap_or (first_from 0 space (TextKey n)) 0) (λ same. text_function n k (key_or p space system is right spaced F k L own unused (TextKey n) same))
      place_right (Literal e) kind children list h = other_right n (location_of (trees_in p) (view_of space) e) (λ same. literal_own e kind (sym same))
      place_right (FunctionName e) kind children list h = name_right e kind
      place_right Deref kind [] list h = nothing
      place_right Deref kind (v ∷ []) list h =
          one_copy (ap is_plain kind) v (first_row n) (0, ap (λ (l : List ℕ). slice_get l 0) list) (pointer_row (trees_in p) (view_of space) v t h.0.0 h.0.1)
      place_right Deref kind (v ∷ x ∷ rest) list h = nothing
      place_right (Member m) kind [] list h = nothing
      place_right (Member m) kind (v ∷ []) list h = field_right _ _ _ _
      place_right (Member m) kind (v ∷ x ∷ rest) list h = nothing
      place_right other kind children list h = nothing

      -- what decays from a function's name
      decay_right : node.kind ≡ Decay → (children : List ℕ) → node.children ≡ children → RowOf (trees_in p) Decay t children → AllRight (passed_row w n children)
      decay_right kind [] list h = nothing
      decay_right kind (v ∷ x ∷ rest) list h = nothing
      decay_right kind (v ∷ []) list h = one (Copy (first_row n) (first_row v)) (record { edges = edges; facts = λ r g. absurd g })
        where
          edges : (a b : ℕ) → IsConstraintValid system (constraint_of (Copy (first_row n) (first_row v))) → (a ≡ first_row v) × (b ≡ first_row n) → Special a → Special b
          edges a b ok g special =
              elim
              (from_child p space system is right spaced F k L own unused n node 0 v (first_row v) at (ap (λ (l : List ℕ). slice_get l 0) list) (place_row (trees_in p) (view_of space) v h.0) (subst Special g.0 special)) [
                | inl d ↦ subst Special (sym g.1) d.1
                | inr c ↦ absurd (decay_call (sym kind ∙ c.0))
              ]

      convert_right : (b : Bool) (v : ℕ) → is_plain node.kind ≡ true → Has node.children v → sort_at (trees_in p) v ≡ ValueNode → (is_pointer t && is_pointer (type_at (trees_in p) v)) ≡ b
          → AllRight (let l : List Assignment = cond b (Copy (first_row n) (first_row v) ∷ []) [] in l)
      convert_right true v plain child sort both =
          let to = pointer_type (type_at (trees_in p) v) (and_right (is_pointer t) (is_pointer (type_at (trees_in p) v)) both) in
          one_copy plain v (first_row n) child (pointer_row (trees_in p) (view_of space) v to.0 sort to.1)
      convert_right false v plain child sort both = nothing

      part_right : (m v : ℕ) → is_plain node.kind ≡ true → Has node.children v → sort_at (trees_in p) v ≡ ValueNode → IsMemberOf p.types (type_at (trees_in p) v) m t → (IsArray t → ⊥) → AllRight (part_of_value w n m t (type_at (trees_in p) v) v)
      part_right m v plain child sort member no_array = by (is_union_type (type_at (trees_in p) v)) refl
        where
          whole : Ctype
          whole = type_at (trees_in p) v

          proper : (tag : ℕ) → type_at (trees_in p) v ≡ StructureOf tag → (i : ℕ) → slice_get p.types.terms i ≡ Some (Union tag) → ⊥
          proper tag e i there = by_node (slice_get p.nodes.items v) e
            where
              by_node : (o : Option Node) → type_in p.types o ≡ StructureOf tag → ⊥
              by_node None bad = cc
              by_node (Some x) same = structure_proper p.types right.made right.named system is.types x.ty.0 tag same i there

          by : (b : Bool) → is_union_type (type_at (trees_in p) v) ≡ b
              → AllRight (let l : List Assignment = cond b (spreads (nodes_of p.types t) (first_row n) (first_row v)) (copies (nodes_of p.types t) (first_row n) (part_first p.types (type_at (trees_in p) v) (first_row v) m)) in l)
          by true union =
              let one_row = union_row p.types right.made right.fit (type_at (trees_in p) v) m t union member in
              spreads_right plain v (first_row n) (nodes_of p.types t) child (value_row (trees_in p) (view_of space) v (type_at (trees_in p) v) (first_row v) sort refl (omega arith) (omega arith))
          by false apart =
              let part = part_rows p.types right.made right.fit (type_at (trees_in p) v) m t (first_row v) apart proper member no_array in
              copies_right plain v (part_first p.types (type_at (trees_in p) v) (first_row v) m) (first_row n) (type_at (trees_in p) v) (nodes_of p.types t) child sort refl (omega arith) part

      -- values
      value_right : (kind : NodeKind) → node.kind ≡ kind → (children : List ℕ) → node.children ≡ children → RowOf (trees_in p) kind t children → AllRight (value_of_kind w n kind t children)
      value_right Fetch kind [] list h = nothing
      value_right Fetch kind (a ∷ []) list h = loads_right (nodes_of p.types t) (first_row n) (first_row a) (type_number t)
      value_right Fetch kind (a ∷ x ∷ rest) list h = nothing
      value_right AddressOf kind [] list h = nothing
      value_right AddressOf kind (v ∷ []) list h = one_copy (ap is_plain kind) v (first_row n) (0, ap (λ (l : List ℕ). slice_get l 0) list) (place_row (trees_in p) (view_of space) v h.0)
      value_right AddressOf kind (v ∷ x ∷ rest) list h = nothing
      value_right Decay kind children list h = decay_right kind children list h
      value_right (PointerAdd minus) kind [] list h = nothing
      value_right (PointerAdd minus) kind (v ∷ []) list h = nothing
      value_right (PointerAdd minus) kind (v ∷ i ∷ []) list h =
          let to = object_pointer p.types t h.1 in
          one_copy (ap is_plain kind) v (first_row n) (0, ap (λ (l : List ℕ). slice_get l 0) list) (pointer_row (trees_in p) (view_of space) v to.0 h.0.0 (h.0.1 ∙ to.1))
      value_right (PointerAdd minus) kind (v ∷ i ∷ x ∷ rest) list h = nothing
      value_right Convert kind [] list h = nothing
      value_right Convert kind (v ∷ []) list h = convert_right (is_pointer t && is_pointer (type_at (trees_in p) v)) v (ap is_plain kind) (0, ap (λ (l : List ℕ). slice_get l 0) list) h.0 refl
      value_right Convert kind (v ∷ x ∷ rest) list h = nothing
      value_right Upcast kind [] list h = nothing
      value_right Upcast kind (v ∷ []) list h = field_right _ _ _ _
      value_right Upcast kind (v ∷ x ∷ rest) list h = nothing
      value_right Assign kind [] list h = nothing
      value_right Assign kind (a ∷ []) list h = nothing
      value_right Assign kind (a ∷ v ∷ []) list h =
          let child : Has node.children v = (1, ap (λ (l : List ℕ). slice_get l 1) list) in
          All-append Right _ _ (value_stores (ap is_plain kind) v _ _ t child h.1.0 h.1.1) (value_copies (ap is_plain kind) v (first_row n) t child h.1.0 h.1.1)
      value_right Assign kind (a ∷ v ∷ x ∷ rest) list h = nothing
      value_right (Update op post) kind [] list h = nothing
      value_right (Update op post) kind (a ∷ []) list h = nothing
      value_right (Update op post) kind (a ∷ v ∷ []) list h = loads_right (nodes_of p.types t) (first_row n) (first_row a) (type_number t)
      value_right (Update op post) kind (a ∷ v ∷ x ∷ rest) list h = nothing
      value_right Choose kind [] list h = nothing
      value_right Choose kind (c ∷ []) list h = nothing
      value_right Choose kind (c ∷ a ∷ []) list h = nothing
      value_right Choose kind (c ∷ a ∷ b ∷ []) list h =
          All-append Right _ _ (value_copies (ap is_plain kind) a (first_row n) t (1, ap (λ (l : List ℕ). slice_get l 1) list) h.1.0 h.1.1)
          (value_copies (ap is_plain kind) b (first_row n) t (2, ap (λ (l : List ℕ). slice_get l 2) list) h.2.0 h.2.1)
      value_right Choose kind (c ∷ a ∷ b ∷ x ∷ rest) list h = nothing
      value_right Sequence kind [] list h = nothing
      value_right Sequence kind (a ∷ []) list h = nothing
      value_right Sequence kind (a ∷ b ∷ []) list h = value_copies (ap is_plain kind) b (first_row n) t (1, ap (λ (l : List ℕ). slice_get l 1) list) h.1.0 h.1.1
      value_right Sequence kind (a ∷ b ∷ x ∷ rest) list h = nothing
      value_right (MemberOfValue m) kind [] list h = nothing
      value_right (MemberOfValue m) kind (v ∷ []) list h = part_right m v (ap is_plain kind) (0, ap (λ (l : List ℕ). slice_get l 0) list) h.0 h.1 h.2
      value_right (MemberOfValue m) kind (v ∷ x ∷ rest) list h = nothing
      value_right CallNode kind children list h = call_right kind t children list h
      value_right (VarArgs e) kind children list h =
          other_right n (unwrap_or (first_from 0 space (VarargsKey e)) 0) (λ same. varargs_function e k (key_or p space system is right spaced F k L own unused (VarargsKey e) same))
      value_right NextArg kind [] list h = nothing
      value_right NextArg kind (q ∷ []) list h =
          let lists = list_row (trees_in p) (view_of space) n in
          All-cons Right (Load lists (first_row q) 7 0) (loads (nodes_of p.types t) (first_row n) lists (type_number t)) (load_right lists (first_row q) 7 0) (loads_right (nodes_of p.types t) (first_row n) lists (type_number t))
      value_right NextArg kind (q ∷ x ∷ rest) list h = nothing
      value_right other kind children list h = nothing

      -- statements
      returned_right : (v : ℕ) (o : Option (Option ℕ)) → slice_get is.owners n ≡ o → node.kind ≡ Return → node.children ≡ v ∷ [] → sort_at (trees_in p) v ≡ ValueNode → AllRight (returned_by w o v)
      returned_right v None owner kind list sort = nothing
      returned_right v (Some None) owner kind list sort = nothing
      returned_right v (Some (Some f)) owner kind list sort = value_copies (ap is_plain kind) v _ (given_type w f) (0, ap (λ (l : List ℕ). slice_get l 0) list) sort (returns n node at v f kind list owner)

      statement_right : (kind : NodeKind) → node.kind ≡ kind → (children : List ℕ) → node.children ≡ children → RowOf (trees_in p) kind t children → AllRight (statement_of_kind w n kind children)
      statement_right Return kind [] list h = nothing
      statement_right Return kind (v ∷ []) list h = returned_right v (slice_get is.owners n) refl kind list h
      statement_right Return kind (v ∷ x ∷ rest) list h = nothing
      statement_right (Initialise e paths) kind children list h = items_right (ap is_plain kind) e _ paths children (λ j v found. (j, ap (λ (l : List ℕ). slice_get l j) list ∙ found)) h
      statement_right other kind children list h = nothing

    -- what a node demands
    pub node_right : AllRight (node_assignments w n node)
    unfolding node_assignments
    node_right =
        let t = type_of p.types node.ty.0 in
        let row = right.rows n node at in
        All-append Right (place_of_kind w n node.kind node.children ++ value_of_kind w n node.kind t node.children) (statement_of_kind w n node.kind node.children)
        (All-append Right (place_of_kind w n node.kind node.children) (value_of_kind w n node.kind t node.children) (place_right t refl node.kind refl node.children refl row) (value_right t refl node.kind refl node.children refl row))
        (statement_right t refl node.kind refl node.children refl row)
