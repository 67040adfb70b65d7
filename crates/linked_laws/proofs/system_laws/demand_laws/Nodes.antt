-- What each kind of node demands is in range.
use Rattle.std.proofs.Common.{arith, ◌≡◌, ◌∙◌, ◌&&◌, ℕ, suc, ◌+◌, ◌<◌, ◌≤◌, Bool, true, false, cond, List, [], ◌∷◌, ◌++◌, length, get_or, take, drop, Option, Some, None, unwrap_or, slice_get, refl, sym, ap, subst}
use Rattle.std.specs.List.{All, flat_map}
use Rattle.std.specs.Option.{option_map}
use Rattle.std.proofs.lemmas.Option.{slice_get-get_or}
use Rattle.std.proofs.lemmas.List.Concat.{flat_map-cons}
use Rattle.std.proofs.lemmas.List.Elements.{All-nil, All-cons, All-append, All-map, All-drop}
use Rattle.c_types.specs.declared.key.ObjectKey.TheVariants.{Entity as EntityKey, Text as TextKey}
use Rattle.c_types.specs.declared.term.Term.TheVariants.{Union}
use Rattle.c_types.specs.Trees.{Ctype, VaListType, PointerTo, StructureOf}
use Rattle.c_types.specs.Table.{type_of}
use Rattle.c_types.specs.Made.{IsMade, AreNamed}
use Rattle.type_rules.specs.Conversions.{IsFirstOf, result_of}
use Rattle.type_rules.specs.Kinds.{IsArray}
use Rattle.type_rules.specs.Members.{IsMemberOf}
use Rattle.core_tree.specs.declared.node.Program.{Program}
use Rattle.core_tree.specs.declared.node.Node.{Node}
use Rattle.core_tree.specs.declared.node.Entity.{Entity}
use Rattle.core_tree.specs.declared.node.NodeKind.{NodeKind}
use Rattle.core_tree.specs.declared.node.NodeKind.TheVariants.{Named, Text, Literal, FunctionName, Deref, Member, Fetch, AddressOf, Decay, PointerAdd, Convert, Upcast, Assign, Update, Choose, Sequence, MemberOfValue, CallNode, VarArgs, NextArg, Return, Initialise}
use Rattle.core_tree.specs.Typed.{CoreTrees, PlaceNode, ValueNode, sort_of, sort_in, sort_at, type_in, type_at, trees_in}
use Rattle.sol_model.specs.declared.system.System.{System}
use Rattle.sol_model.specs.Systems.{HasMember, IsNodeOf}
use Rattle.core_tree.specs.Rows.{IsListPlace}
use Rattle.type_rules.specs.Kinds.{IsList}
use Rattle.c_types.specs.declared.key.ObjectKey.TheVariants.{Varargs as VarargsKey}
use Rattle.obj_space.specs.declared.location.Location.{Location}
use Rattle.obj_space.specs.Space.{locations_in}
use Rattle.obj_space.specs.View.{SpaceView, first_from, view_of}
use Rattle.row_numbers.specs.Kept.{nodes_of, kept, kept_count, kept_row}
use Rattle.row_numbers.specs.Numbers.{type_number}
use Rattle.row_numbers.specs.Objects.{entity_key, location_of}
use Rattle.row_numbers.specs.Functions.{number_of, key_type, type_or_void}
use Rattle.row_numbers.specs.Setting.{Setting, row, list_row, rest_row, result_row, none_row}
use Rattle.row_numbers.proofs.FrameLemmas.{node_within}
use Rattle.normal_form.specs.declared.normal.Assignment.{Assignment}
use Rattle.normal_form.specs.declared.normal.Assignment.TheVariants.{Address, Copy, Load, Field}
use Rattle.normal_form.specs.Assignments.{loads, stores, copies, spreads, passed_row, moved_row, convert_row, is_pointer, pointed, is_union_type, part_first, part_of_value, gathered_row, gathered_past, call_row, given_type, returned_by, return_row, place_of_kind, value_of_kind, statement_of_kind, node_assignments}
use Rattle.normal_form.specs.SystemOf.{SystemOf, setting_of}
use Rattle.linked_laws.proofs.system_laws.Rows.{result_fits, list_fits, rest_fits, kept_fewer}
use Rattle.linked_laws.specs.merged_laws.Merged.{TagsFit}
use Rattle.linked_laws.specs.node_laws.Rows.{Takes, HasRows}
use Rattle.linked_laws.proofs.system_laws.fact_laws.Facts.{nodes_known, members_known, structure_proper}
use Rattle.linked_laws.specs.return_laws.Returns.{HasReturns}
use Rattle.linked_laws.specs.call_laws.Values.{AreCallsOfValues}
use Rattle.call_sites.specs.Calls.{variadic_count}
use Rattle.linked_laws.specs.system_laws.demand_laws.Demands.{InitialsFit}
use Rattle.linked_laws.proofs.system_laws.demand_laws.Parts.{part_rows}
use Rattle.linked_laws.proofs.system_laws.demand_laws.Fitting.{Fits, row_in, node_row, first_or, one_fits, copies_fit, spreads_fit, AreKnown, loads_fit, stores_fit, value_fit}
use Rattle.linked_laws.proofs.system_laws.demand_laws.Numbered.{body_stands}

module _ (p : Program) (space : List Location) (is_space : space ≡ locations_in p) (system : System) (is : SystemOf p (view_of space) system) (made : IsMade p.types) (named : AreNamed p.types) (some : 0 < length space) (fit : TagsFit p.types) (values : AreCallsOfValues p) where
  abbrev w : Setting
  w = setting_of p (view_of space) is.owners

  abbrev tree : CoreTrees
  tree = trees_in p

  abbrev view : SpaceView
  view = view_of space

  abbrev Right : Assignment → Type 0
  Right a = Fits p space system is a

  abbrev AllRight : List Assignment → Type 0
  AllRight list = All Right list

  nothing : AllRight []
  nothing = All-nil Right

  copy_right : (n v : ℕ) → AllRight (Copy (row tree view n) (row tree view v) ∷ [])
  copy_right n v = one_fits p space system is (Copy (row tree view n) (row tree view v)) (node_row p space system is v, node_row p space system is n)

  named_right : (n e : ℕ) → AllRight (Address (row tree view n) (location_of tree view e) ∷ [])
  named_right n e =
      one_fits p space system is (Address (row tree view n) (location_of tree view e)) (node_row p space system is n, first_or p space system is some (entity_key e (slice_get p.entities.items e)))

  passed_right : (n : ℕ) (children : List ℕ) → AllRight (passed_row w n children)
  passed_right n [] = nothing
  passed_right n (v ∷ []) = copy_right n v
  passed_right n (v ∷ x ∷ rest) = nothing

  moved_right : (n : ℕ) (children : List ℕ) → AllRight (moved_row w n children)
  moved_right n [] = nothing
  moved_right n (v ∷ []) = nothing
  moved_right n (v ∷ i ∷ []) = copy_right n v
  moved_right n (v ∷ i ∷ x ∷ rest) = nothing

  if_right : (b : Bool) (a : Assignment) → AllRight (a ∷ []) → AllRight (cond b (a ∷ []) [])
  if_right true a h = h
  if_right false a h = nothing

  convert_right : (n : ℕ) (t : Ctype) (children : List ℕ) → AllRight (convert_row w n t children)
  convert_right n t [] = nothing
  convert_right n t (v ∷ []) = if_right (is_pointer t && is_pointer (type_at tree v)) (Copy (row tree view n) (row tree view v)) (copy_right n v)
  convert_right n t (v ∷ x ∷ rest) = nothing

  field_right : (n v ty k : ℕ) → HasMember system ty k → AllRight (Field (row tree view n) (row tree view v) ty k ∷ [])
  field_right n v ty k h = one_fits p space system is (Field (row tree view n) (row tree view v) ty k) (node_row p space system is v, node_row p space system is n, h)

  member_right : (whole : Ctype) (k : ℕ) (t : Ctype) → IsMemberOf p.types whole k t → HasMember system (type_number whole) k
  member_right whole k t m = members_known p.types made named system is.types whole k t m

  first_right : (a t : Ctype) → IsFirstOf p.types a t → HasMember system (type_number (pointed a)) 0
  first_right (PointerTo (StructureOf tag)) (PointerTo first) m = member_right (StructureOf tag) 0 first m
  first_right a t m = absurd m

  -- places
  place_right : (n : ℕ) (kind : NodeKind) (t : Ctype) (children : List ℕ) → Takes tree kind t children → AllRight (place_of_kind w n kind children)
  place_right n (Named e) t children h = named_right n e
  place_right n (Text bytes) t children h =
      one_fits p space system is (Address (row tree view n) (unwrap_or (first_from 0 space (TextKey n)) 0)) (node_row p space system is n, first_or p space system is some (TextKey n))
  place_right n (Literal e) t children h = named_right n e
  place_right n (FunctionName e) t children h = named_right n e
  place_right n Deref t children h = passed_right n children
  place_right n (Member k) t [] h = nothing
  place_right n (Member k) t (v ∷ []) h = field_right n v (type_number (type_at tree v)) k (member_right (type_at tree v) k t h)
  place_right n (Member k) t (v ∷ x ∷ rest) h = nothing
  place_right n kind t children h = nothing

  -- a place of a list has the one node of the type of lists
  list_known : (q : ℕ) → IsListPlace tree q → IsNodeOf system 7 0
  list_known q h = by (slice_get p.nodes.items q) h.0 h.1
    where
      of_type : (id : ℕ) (t : Ctype) → type_of p.types id ≡ t → IsList t → IsNodeOf system 7 0
      of_type id VaListType e l =
          subst (λ (t : Ctype). IsNodeOf system (type_number t) 0) e
          (nodes_known p.types made named system is.types id 0 (subst (λ (t : Ctype). 0 < length (nodes_of p.types t)) (sym e) (omega arith)))
      of_type id t e l = absurd l

      by : (o : Option Node) → sort_in o ≡ PlaceNode → IsList (type_in p.types o) → IsNodeOf system 7 0
      by None sort list = cc
      by (Some x) sort list = of_type x.ty.0 (type_of p.types x.ty.0) refl list

  -- the rows of a member of a value
  part_right : (n k : ℕ) (t : Ctype) (v : ℕ) → row tree view n + kept_count (nodes_of p.types t) ≤ none_row tree view → sort_at tree v ≡ ValueNode → IsMemberOf p.types (type_at tree v) k t → (IsArray t → ⊥)
      → ((tag : ℕ) → type_at tree v ≡ StructureOf tag → (i : ℕ) → slice_get p.types.terms i ≡ Some (Union tag) → ⊥) → AllRight (part_of_value w n k t (type_at tree v) v)
  part_right n k t v own sort m no_array proper = by (is_union_type (type_at tree v)) refl
    where
      by : (b : Bool) → is_union_type (type_at tree v) ≡ b → AllRight (cond b (spreads (nodes_of p.types t) (row tree view n) (row tree view v)) (copies (nodes_of p.types t) (row tree view n) (part_first p.types (type_at tree v) (row tree view v) k)))
      by true kind = spreads_fit p space system is (nodes_of p.types t) (row tree view n) (row tree view v) own (node_within tree view v)
      by false kind =
          let part = part_rows p.types made fit (type_at tree v) k t (row tree view v) kind proper m no_array in
          let whole = value_fit p space system is v (type_at tree v) sort refl in
          copies_fit p space system is (nodes_of p.types t) (row tree view n) (part_first p.types (type_at tree v) (row tree view v) k) own (omega arith)

  -- what is passed past the parameters of a variadic function
  gathered_right : (n : ℕ) (v : ℕ) → rest_row tree view n ≤ none_row tree view → sort_at tree v ≡ ValueNode → AllRight (gathered_row w n v)
  gathered_right n v rest sort =
      let nodes = nodes_of p.types (type_at tree v) in
      let whole = value_fit p space system is v (type_at tree v) sort refl in
      All-map Right (λ i. Copy (rest_row tree view n) (kept_row (row tree view v) nodes i)) (kept nodes)
      (λ k d lt.
      let i = get_or (kept nodes) k d in
      let few = kept_fewer nodes i in
      (row_in p space system is (kept_row (row tree view v) nodes i) (omega arith), row_in p space system is (rest_row tree view n) rest))

  all_gathered : (n : ℕ) (vs : List ℕ) → rest_row tree view n ≤ none_row tree view → All (λ v. sort_at tree v ≡ ValueNode) vs → AllRight (flat_map (gathered_row w n) vs)
  all_gathered n [] rest h = nothing
  all_gathered n (v ∷ vs) rest h =
      subst AllRight (sym (flat_map-cons (gathered_row w n) v vs))
      (All-append Right (gathered_row w n v) (flat_map (gathered_row w n) vs) (gathered_right n v rest (h 0 v (omega arith))) (all_gathered n vs rest (λ k d lt. h (suc k) d (omega (arith, lt)))))

  past_right : (n : ℕ) (count : Option ℕ) (arguments : List ℕ) → rest_row tree view n ≤ none_row tree view → All (λ v. sort_at tree v ≡ ValueNode) arguments → AllRight (gathered_past w n count arguments)
  past_right n None arguments rest h = nothing
  past_right n (Some count) arguments rest h = all_gathered n (drop count arguments) rest (All-drop (λ v. sort_at tree v ≡ ValueNode) count arguments h)

  call_right : (n : ℕ) (node : Node) → slice_get p.nodes.items n ≡ Some node → node.kind ≡ CallNode → (children : List ℕ) → node.children ≡ children → AllRight (call_row w n children)
  call_right n node at call [] is_children = nothing
  call_right n node at call (c ∷ arguments) is_children =
      past_right n (variadic_count (type_at tree c)) arguments (rest_fits tree view n node at (ap sort_of call))
      (λ k d lt. values.each n node at call (suc k) (get_or arguments k d) (ap (λ (l : List ℕ). slice_get l (suc k)) is_children ∙ slice_get-get_or arguments k d lt))

  -- values
  value_right : (n : ℕ) (kind : NodeKind) (t : Ctype) (children : List ℕ) → Takes tree kind t children → (sort_of kind ≡ ValueNode → row tree view n + kept_count (nodes_of p.types t) ≤ none_row tree view)
      → AreKnown p space system is (nodes_of p.types t) (type_number t) → ((v tag : ℕ) → type_at tree v ≡ StructureOf tag → (i : ℕ) → slice_get p.types.terms i ≡ Some (Union tag) → ⊥)
      → (CallNode ≡ kind → AllRight (call_row w n children)) → AllRight (value_of_kind w n kind t children)
  value_right n Fetch t [] h own known proper calls = nothing
  value_right n Fetch t (a ∷ []) h own known proper calls = loads_fit p space system is (nodes_of p.types t) (row tree view n) (row tree view a) (type_number t) (own refl) (node_within tree view a) known
  value_right n Fetch t (a ∷ x ∷ rest) h own known proper calls = nothing
  value_right n AddressOf t children h own known proper calls = passed_right n children
  value_right n Decay t children h own known proper calls = passed_right n children
  value_right n (PointerAdd minus) t children h own known proper calls = moved_right n children
  value_right n Convert t children h own known proper calls = convert_right n t children
  value_right n Upcast t [] h own known proper calls = nothing
  value_right n Upcast t (v ∷ []) h own known proper calls = field_right n v (type_number (pointed (type_at tree v))) 0 (first_right (type_at tree v) t h)
  value_right n Upcast t (v ∷ x ∷ rest) h own known proper calls = nothing
  value_right n Assign t [] h own known proper calls = nothing
  value_right n Assign t (a ∷ []) h own known proper calls = nothing
  value_right n Assign t (a ∷ v ∷ []) h own known proper calls =
      let from = value_fit p space system is v t h.0 h.1 in
      All-append Right (stores (nodes_of p.types t) (row tree view a) (row tree view v) (type_number t)) (copies (nodes_of p.types t) (row tree view n) (row tree view v))
      (stores_fit p space system is (nodes_of p.types t) (row tree view a) (row tree view v) (type_number t) (node_within tree view a) from known)
      (copies_fit p space system is (nodes_of p.types t) (row tree view n) (row tree view v) (own refl) from)
  value_right n Assign t (a ∷ v ∷ x ∷ rest) h own known proper calls = nothing
  value_right n (Update op post) t [] h own known proper calls = nothing
  value_right n (Update op post) t (a ∷ []) h own known proper calls = nothing
  value_right n (Update op post) t (a ∷ v ∷ []) h own known proper calls = loads_fit p space system is (nodes_of p.types t) (row tree view n) (row tree view a) (type_number t) (own refl) (node_within tree view a) known
  value_right n (Update op post) t (a ∷ v ∷ x ∷ rest) h own known proper calls = nothing
  value_right n Choose t [] h own known proper calls = nothing
  value_right n Choose t (c ∷ []) h own known proper calls = nothing
  value_right n Choose t (c ∷ a ∷ []) h own known proper calls = nothing
  value_right n Choose t (c ∷ a ∷ b ∷ []) h own known proper calls =
      All-append Right (copies (nodes_of p.types t) (row tree view n) (row tree view a)) (copies (nodes_of p.types t) (row tree view n) (row tree view b))
      (copies_fit p space system is (nodes_of p.types t) (row tree view n) (row tree view a) (own refl) (value_fit p space system is a t h.0.0 h.0.1))
      (copies_fit p space system is (nodes_of p.types t) (row tree view n) (row tree view b) (own refl) (value_fit p space system is b t h.1.0 h.1.1))
  value_right n Choose t (c ∷ a ∷ b ∷ x ∷ rest) h own known proper calls = nothing
  value_right n Sequence t [] h own known proper calls = nothing
  value_right n Sequence t (a ∷ []) h own known proper calls = nothing
  value_right n Sequence t (a ∷ b ∷ []) h own known proper calls = copies_fit p space system is (nodes_of p.types t) (row tree view n) (row tree view b) (own refl) (value_fit p space system is b t h.0 h.1)
  value_right n Sequence t (a ∷ b ∷ x ∷ rest) h own known proper calls = nothing
  value_right n (MemberOfValue k) t [] h own known proper calls = nothing
  value_right n (MemberOfValue k) t (v ∷ []) h own known proper calls = part_right n k t v (own refl) h.0 h.1 h.2 (proper v)
  value_right n (MemberOfValue k) t (v ∷ x ∷ rest) h own known proper calls = nothing
  value_right n (VarArgs e) t children h own known proper calls =
      one_fits p space system is (Address (row tree view n) (unwrap_or (first_from 0 space (VarargsKey e)) 0)) (node_row p space system is n, first_or p space system is some (VarargsKey e))
  value_right n NextArg t [] h own known proper calls = nothing
  value_right n NextArg t (a ∷ []) h own known proper calls =
      All-cons Right (Load (list_row tree view n) (row tree view a) 7 0) (loads (nodes_of p.types t) (row tree view n) (list_row tree view n) (type_number t))
      (row_in p space system is (row tree view a) (node_within tree view a), row_in p space system is (list_row tree view n) (list_fits tree view n), list_known a h)
      (loads_fit p space system is (nodes_of p.types t) (row tree view n) (list_row tree view n) (type_number t) (own refl) (list_fits tree view n) known)
  value_right n NextArg t (a ∷ x ∷ rest) h own known proper calls = nothing
  value_right n CallNode t children h own known proper calls = calls refl
  value_right n kind t children h own known proper calls = nothing

  -- statements
  module _ (returns : HasReturns p) where
    returned_right : (n v : ℕ) (node : Node) → slice_get p.nodes.items n ≡ Some node → node.kind ≡ Return → node.children ≡ v ∷ [] → (o : Option (Option ℕ)) → slice_get is.owners n ≡ o → AllRight (returned_by w o v)
    returned_right n v node at kind children None owner = nothing
    returned_right n v node at kind children (Some None) owner = nothing
    returned_right n v node at kind children (Some (Some f)) owner =
        let (function, there, around) = is.around.right n (Some f) owner in
        let value = returns.each n node v f function at kind children there around in
        let type : key_type tree (EntityKey f) ≡ type_of p.types function.ty.0 = ap (λ (o : Option Entity). type_or_void p.types (option_map (λ (x : Entity). x.ty) o)) there in
        let own = value_fit p space system is v (given_type w f) value.0 (value.1 ∙ sym (ap result_of type)) in
        let result = result_fits tree view (number_of tree view f) (EntityKey f) (body_stands p space is_space f function there around.0) in
        copies_fit p space system is (nodes_of p.types (given_type w f)) (result_row tree view (number_of tree view f)) (row tree view v) result own

    return_right : (n : ℕ) (node : Node) → slice_get p.nodes.items n ≡ Some node → node.kind ≡ Return → (children : List ℕ) → node.children ≡ children → AllRight (return_row w n children)
    return_right n node at kind [] is_children = nothing
    return_right n node at kind (v ∷ []) is_children = returned_right n v node at kind is_children (slice_get is.owners n) refl
    return_right n node at kind (v ∷ x ∷ rest) is_children = nothing

    module _ (initials : InitialsFit p (view_of space) system) where
      statement_right : (n : ℕ) (node : Node) → slice_get p.nodes.items n ≡ Some node → (kind : NodeKind) → node.kind ≡ kind → AllRight (statement_of_kind w n kind node.children)
      statement_right n node at Return kind = return_right n node at kind node.children refl
      statement_right n node at (Initialise e paths) kind = initials.each n node e paths is.owners at kind
      statement_right n node at other kind = nothing

      module _ (rows : HasRows p) where
        -- what a node demands
        pub node_right : (n : ℕ) (node : Node) → slice_get p.nodes.items n ≡ Some node → AllRight (node_assignments w n node)
        unfolding node_assignments
        node_right n node at =
            let t = type_of p.types node.ty.0 in
            let takes = rows.each n node at in
            let type : type_at tree n ≡ t = ap (type_in p.types) at in
            All-append Right (place_of_kind w n node.kind node.children ++ value_of_kind w n node.kind t node.children) (statement_of_kind w n node.kind node.children)
            (All-append Right (place_of_kind w n node.kind node.children) (value_of_kind w n node.kind t node.children) (place_right n node.kind t node.children takes)
            (value_right n node.kind t node.children takes (λ sort. value_fit p space system is n t (ap sort_in at ∙ sort) type) (λ i lt. nodes_known p.types made named system is.types node.ty.0 i lt) proper (λ call. call_right n node at (sym call) node.children refl)))
            (statement_right n node at node.kind refl)
          where
            proper : (v tag : ℕ) → type_at tree v ≡ StructureOf tag → (i : ℕ) → slice_get p.types.terms i ≡ Some (Union tag) → ⊥
            proper v tag e i there = by (slice_get p.nodes.items v) e
              where
                by : (o : Option Node) → type_in p.types o ≡ StructureOf tag → ⊥
                by None bad = cc
                by (Some x) same = structure_proper p.types made named system is.types x.ty.0 tag same i there
