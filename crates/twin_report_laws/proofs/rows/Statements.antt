-- What returns and initialisers demand, in two programs that are one, but for numbers.
use Rattle.std.proofs.Common.{◌≡◌, ◌∙◌, ◌+◌, ◌<◌, ℕ, Bool, true, false, List, [], ◌∷◌, ◌++◌, map, length, Option, Some, None, unwrap_or, refl, sym, ap, subst}
use Rattle.std.specs.Prelude.{⊤, if◌then◌else◌}
use Rattle.std.specs.List.{slice_get}
use Rattle.std.specs.Option.{option_map, option_and_then, IfSome}
use Rattle.c_types.specs.declared.term.MemberTerm.{MemberTerm}
use Rattle.c_types.specs.declared.term.PathStep.{PathStep}
use Rattle.c_types.specs.declared.term.PathStep.TheVariants.{Index, Member as MemberStep}
use Rattle.c_types.specs.declared.term.TypeId.{TypeId}
use Rattle.c_types.specs.Trees.{Ctype, VoidType, BoolType, IntegerType, FloatingType, VaListType, PointerTo, ArrayOf, FunctionFrom, StructureOf, UnionOf}
use Rattle.c_types.specs.Table.{Table, type_of, members_in}
use Rattle.c_types.specs.Parts.{field_in}
use Rattle.c_types.specs.Paths.{with_length, member_type, part_type}
use Rattle.type_rules.specs.Conversions.{result_of}
use Rattle.core_tree.specs.declared.node.Node.{Node}
use Rattle.core_tree.specs.declared.node.NodeKind.{NodeKind}
use Rattle.core_tree.specs.declared.node.NodeKind.TheVariants.{Return, Initialise}
use Rattle.core_tree.specs.declared.node.Entity.{Entity}
use Rattle.core_tree.specs.declared.node.Program.{Program}
use Rattle.core_tree.specs.Typed.{ValueNode, sort_at, type_at, trees_in}
use Rattle.core_tree.specs.Range.{named_by}
use Rattle.core_tree.specs.Rows.{RowOf}
use Rattle.link_model.specs.Renamed.{renamed}
use Rattle.link_model.specs.Partition.{HasTags}
use Rattle.unit_link.specs.Places.{kind_renamed}
use Rattle.obj_space.specs.Parts.{is_collapsed}
use Rattle.obj_space.specs.Space.{locations_in}
use Rattle.obj_space.specs.Spots.{Reached, reached, member_reached, step_by, part_at}
use Rattle.obj_space.specs.View.{collapsed_of}
use Rattle.obj_space.proofs.Followed.{step_member}
use Rattle.row_numbers.specs.Around.{AreOwners}
use Rattle.row_numbers.specs.Kept.{nodes_of}
use Rattle.row_numbers.specs.Functions.{number_of, type_or_void}
use Rattle.row_numbers.specs.Objects.{location_of}
use Rattle.row_numbers.specs.Setting.{result_row, Setting}
use Rattle.linked_laws.specs.initial_laws.Initials.{Fills, AllFill}
use Rattle.linked_laws.specs.system_laws.item_laws.Items.{HasPlace, KindPlaced}
use Rattle.linked_laws.proofs.system_laws.item_laws.Spots.{IsPut, item_put, entity_of}
use Rattle.normal_form.specs.declared.normal.Assignment.{Assignment}
use Rattle.normal_form.specs.Assignments.{copies, given_type, returned_by, return_row, path_node, target_node, spot, put_at, item_row, initialise_row, place_of_kind, value_of_kind, statement_of_kind, row_of_kind, node_assignments}
use Rattle.twin_report_laws.specs.outcome_laws.twin_programs.One.{Numbers, SameNode}
use Rattle.twin_report_laws.proofs.outcome_laws.twin_words.Results.{result_renamed, result_tags}
use Rattle.twin_report_laws.specs.rows.Paired.{ArePaired}
use Rattle.twin_report_laws.specs.rows.Ready.{IsReady}
use Rattle.twin_report_laws.proofs.rows.Views.{here, over, collapsed_same, number_same}
use Rattle.twin_report_laws.proofs.rows.Types.{nodes_moved, own_tags, field_moved, part_moved}
use Rattle.twin_report_laws.proofs.rows.Rows.{row_moved, row_location, result_moved}
use Rattle.twin_report_laws.proofs.rows.Owners.{owner_there}
use Rattle.twin_report_laws.proofs.rows.Copies.{moved_append, copies_moved, put_moved}
use Rattle.twin_report_laws.proofs.rows.Nodes.{is_value, w, x, own_row, row_over, Twins, value_row, tags_of, location_same, place_kind, value_kind}

abbrev TagsIf : ℕ → Option Ctype → Type 0
TagsIf n None = ⊤
TagsIf n (Some t) = HasTags n t

abbrev ReachedTags : ℕ → Option Reached → Type 0
ReachedTags n None = ⊤
ReachedTags n (Some r) = HasTags n r.ty

-- the same part, under other numbers of tags
abbrev part_over : (ℕ → ℕ) → Reached → Reached
part_over f r = reached (renamed f r.ty) r.node r.inside

module _ (f : ℕ → ℕ) where
  collapsed_over : (t : Ctype) → is_collapsed (renamed f t) ≡ is_collapsed t
  collapsed_over (UnionOf tag) = refl
  collapsed_over t = refl

  member_over : (t : Ctype) (o : Option Ctype) (place : Option ℕ) (node : ℕ) (inside : Bool) → member_reached (renamed f t) (option_map (renamed f) o) place node inside ≡ option_map (part_over f) (member_reached t o place node inside)
  member_over t None place node inside = refl
  member_over t (Some ty) place node true = refl
  member_over t (Some ty) None node false = refl
  member_over t (Some ty) (Some p) node false = ap (λ (b : Bool). Some (reached (renamed f ty) (node + p) b)) (collapsed_over t)

  element_over : (one other : Table) (t : Ctype) (node : ℕ) (inside : Bool) (i : ℕ) → step_by other (renamed f t) node inside (Index i) ≡ option_map (part_over f) (step_by one t node inside (Index i))
  element_over one other (ArrayOf of length) node inside i = refl
  element_over one other t node inside i = refl

  node_over : (o : Option Reached) → option_map (λ (r : Reached). r.node) (option_map (part_over f) o) ≡ option_map (λ (r : Reached). r.node) o
  node_over None = refl
  node_over (Some r) = refl

module _ (n : ℕ) where
  element_tags : (table : Table) (t : Ctype) → HasTags n t → (node : ℕ) (inside : Bool) (i : ℕ) → ReachedTags n (step_by table t node inside (Index i))
  element_tags table (ArrayOf of length) has node inside i = has
  element_tags table t has node inside i = tt

  reached_tags : (t : Ctype) (o : Option Ctype) (place : Option ℕ) (node : ℕ) (inside : Bool) → TagsIf n o → ReachedTags n (member_reached t o place node inside)
  reached_tags t None place node inside has = tt
  reached_tags t (Some ty) place node true has = has
  reached_tags t (Some ty) None node false has = tt
  reached_tags t (Some ty) (Some p) node false has = has

module _ (p q : Program) (to back : Numbers) (h : ArePaired p q to back) where
  length_tags : (t : Ctype) → HasTags p.types.tags t → TagsIf p.types.tags (with_length t)
  length_tags (ArrayOf of None) has = tt
  length_tags (ArrayOf of (Some n)) has = has
  length_tags VoidType has = tt
  length_tags BoolType has = tt
  length_tags (IntegerType size rank signed) has = tt
  length_tags FloatingType has = tt
  length_tags VaListType has = tt
  length_tags (PointerTo to) has = has
  length_tags (FunctionFrom result parameters form) has = has
  length_tags (StructureOf tag) has = has
  length_tags (UnionOf tag) has = has

  member_tags : (o : Option (List MemberTerm)) (k : ℕ) → TagsIf p.types.tags (member_type p.types o k)
  member_tags None k = tt
  member_tags (Some ms) k = by (slice_get ms k)
    where
      by : (o : Option MemberTerm) → TagsIf p.types.tags (option_and_then (λ (a : MemberTerm). with_length (type_of p.types a.ty.0)) o)
      by None = tt
      by (Some a) = length_tags (type_of p.types a.ty.0) (own_tags p q to back h a.ty.0)

  part_tags : (t : Ctype) → HasTags p.types.tags t → (step : PathStep) → TagsIf p.types.tags (part_type p.types t step)
  part_tags (ArrayOf of None) has step = tt
  part_tags (ArrayOf of (Some n)) has (Index i) = by _
    where
      by : (b : Bool) → TagsIf p.types.tags (if b then Some of else None)
      by true = has
      by false = tt
  part_tags (ArrayOf of (Some n)) has (MemberStep k) = tt
  part_tags (StructureOf tag) has (Index i) = tt
  part_tags (StructureOf tag) has (MemberStep k) = member_tags (members_in p.types tag) k
  part_tags (UnionOf tag) has (Index i) = tt
  part_tags (UnionOf tag) has (MemberStep k) = member_tags (members_in p.types tag) k
  part_tags VoidType has step = tt
  part_tags BoolType has step = tt
  part_tags (IntegerType size rank signed) has step = tt
  part_tags FloatingType has step = tt
  part_tags VaListType has step = tt
  part_tags (PointerTo to) has step = tt
  part_tags (FunctionFrom result parameters form) has step = tt

  step_over : (t : Ctype) → HasTags p.types.tags t → (node : ℕ) (inside : Bool) (step : PathStep) → step_by q.types (renamed to.tag t) node inside step ≡ option_map (part_over to.tag) (step_by p.types t node inside step)
  step_over t has node inside (Index i) = element_over to.tag p.types q.types t node inside i
  step_over t has node inside (MemberStep k) =
      step_member q.types (renamed to.tag t) node inside k
      ∙ (ap (λ (o : Option Ctype). member_reached (renamed to.tag t) o (field_in q.types (renamed to.tag t) k) node inside) (part_moved p q to back h t has (MemberStep k))
      ∙ (ap (λ (o : Option ℕ). member_reached (renamed to.tag t) (option_map (renamed to.tag) (part_type p.types t (MemberStep k))) o node inside) (field_moved p q to back h t has k)
      ∙ (member_over to.tag t (part_type p.types t (MemberStep k)) (field_in p.types t k) node inside
      ∙ sym (ap (option_map (part_over to.tag)) (step_member p.types t node inside k)))))

  step_tags : (t : Ctype) → HasTags p.types.tags t → (node : ℕ) (inside : Bool) (step : PathStep) → ReachedTags p.types.tags (step_by p.types t node inside step)
  step_tags t has node inside (Index i) = element_tags p.types.tags p.types t has node inside i
  step_tags t has node inside (MemberStep k) =
      subst (ReachedTags p.types.tags) (sym (step_member p.types t node inside k))
      (reached_tags p.types.tags t (part_type p.types t (MemberStep k)) (field_in p.types t k) node inside (part_tags t has (MemberStep k)))

  -- the end of a path is the same part
  end_over : (path : List PathStep) (o : Option Reached) → ReachedTags p.types.tags o → part_at q.types (option_map (part_over to.tag) o) path ≡ option_map (part_over to.tag) (part_at p.types o path)
  end_over [] o has = refl
  end_over (step ∷ rest) None has = end_over rest None tt
  end_over (step ∷ rest) (Some r) has =
      ap (λ (o : Option Reached). part_at q.types o rest) (step_over r.ty has r.node r.inside step)
      ∙ end_over rest (step_by p.types r.ty r.node r.inside step) (step_tags r.ty has r.node r.inside step)

  path_same : (t : Ctype) → HasTags p.types.tags t → (path : List PathStep) → path_node q.types (Some (renamed to.tag t)) path ≡ path_node p.types (Some t) path
  path_same t has path =
      ap (λ (o : Option Reached). unwrap_or (option_map (λ (r : Reached). r.node) o) 0) (end_over path (Some (reached t 0 false)) has)
      ∙ ap (λ (o : Option ℕ). unwrap_or o 0) (node_over to.tag (part_at p.types (Some (reached t 0 false)) path))

module _ (p q : Program) (to back : Numbers) (h : ArePaired p q to back) (ready : IsReady p) (other_ready : IsReady q) (owners other_owners : List (Option ℕ)) (are : AreOwners (trees_in p) owners) (others : AreOwners (trees_in q) other_owners) where
  abbrev its_row : ℕ → ℕ
  its_row n = own_row p q to back h ready owners other_owners n

  abbrev over_row : ℕ → ℕ
  over_row n = row_over p q to back h ready owners other_owners n

  abbrev Are : List Assignment → List Assignment → Type 0
  Are other one = Twins p q to back h ready owners other_owners other one

  abbrev here_w : Setting
  here_w = w p q to back h ready owners other_owners

  abbrev over_w : Setting
  over_w = x p q to back h ready owners other_owners

  -- ---- returns
  given_same : (f : ℕ) (a : Entity) → slice_get p.entities.items f ≡ Some a → given_type over_w (to.entity f) ≡ renamed to.tag (given_type here_w f)
  given_same f a at =
      let (b, there, same) = h.lead.entities f a at in
      ap (λ (o : Option Entity). result_of (type_or_void q.types (option_map (λ (e : Entity). e.ty) o))) there
      ∙ (ap result_of same.type ∙ (result_renamed to.tag (type_of p.types a.ty.0) ∙ sym (ap (λ (o : Option Entity). renamed to.tag (result_of (type_or_void p.types (option_map (λ (e : Entity). e.ty) o)))) at)))

  given_is : (f : ℕ) (a : Entity) → slice_get p.entities.items f ≡ Some a → given_type here_w f ≡ result_of (type_of p.types a.ty.0)
  given_is f a at = ap (λ (o : Option Entity). result_of (type_or_void p.types (option_map (λ (e : Entity). e.ty) o))) at

  returned_kind : (n c : ℕ) (y : Node) → slice_get p.nodes.items n ≡ Some y → y.kind ≡ Return → y.children ≡ c ∷ [] → (o : Option (Option ℕ)) → slice_get owners n ≡ o
      → Are (returned_by over_w (option_map (option_map to.entity) o) (to.node c)) (returned_by here_w o c)
  returned_kind n c y at kind children None e = refl
  returned_kind n c y at kind children (Some None) e = refl
  returned_kind n c y at kind children (Some (Some f)) e =
      let (a, f_at, around) = are.right n (Some f) e in
      let value = ready.returns.each n y c f a at kind children f_at around in
      let given : Ctype = given_type here_w f in
      let type : type_at (trees_in p) c ≡ given = value.1 ∙ sym (given_is f a f_at) in
      let has : HasTags p.types.tags given = subst (HasTags p.types.tags) (sym (given_is f a f_at)) (result_tags p.types.tags (type_of p.types a.ty.0) (own_tags p q to back h a.ty.0)) in
      let nodes : nodes_of q.types (given_type over_w (to.entity f)) ≡ map (renamed to.tag) (nodes_of p.types given) = ap (nodes_of q.types) (given_same f a f_at) ∙ nodes_moved p q to back h given has in
      let number = number_same p q to back h f a f_at in
      let first : ℕ = number_of (trees_in p) (here p q to back h) f in
      ap (λ ns. copies ns (result_row (trees_in q) (over p q to back h) (number_of (trees_in q) (over p q to back h) (to.entity f))) (over_row (to.node c))) nodes
      ∙ (ap (λ (k : ℕ). copies (map (renamed to.tag) (nodes_of p.types given)) (result_row (trees_in q) (over p q to back h) k) (over_row (to.node c))) number
      ∙ copies_moved (row_moved p q to back h) to.tag (nodes_of p.types given) (result_row (trees_in p) (here p q to back h) first) (its_row c) (result_row (trees_in q) (over p q to back h) first) (over_row (to.node c))
      (λ j lt. result_moved p q to back h first j) (value_row p q to back h ready owners other_owners c given (value.0, type)))

  return_kind : (n : ℕ) (y : Node) → slice_get p.nodes.items n ≡ Some y → y.kind ≡ Return → (children : List ℕ) → y.children ≡ children → Are (return_row over_w (to.node n) (map to.node children)) (return_row here_w n children)
  return_kind n y at kind [] is = refl
  return_kind n y at kind (c ∷ []) is =
      ap (λ (o : Option (Option ℕ)). returned_by over_w o (to.node c)) (owner_there p q to back h.lead h.again other_ready.trees owners other_owners are others n y at)
      ∙ returned_kind n c y at kind is (slice_get owners n) refl
  return_kind n y at kind (c ∷ d ∷ rest) is = refl

  -- ---- initialisers
  module _ (e : ℕ) (a : Entity) (e_at : slice_get p.entities.items e ≡ Some a) (has_place : HasPlace a.storage) where
    target_same : (path : List PathStep) → target_node (trees_in q) (to.entity e) path ≡ target_node (trees_in p) e path
    target_same path =
        let (b, there, same) = h.lead.entities e a e_at in
        ap (λ (o : Option Entity). path_node q.types (option_map (λ (id : TypeId). type_of q.types id.0) (option_map (λ (k : Entity). k.ty) o)) path) there
        ∙ (ap (λ (t : Ctype). path_node q.types (Some t) path) same.type
        ∙ (path_same p q to back h (type_of p.types a.ty.0) (own_tags p q to back h a.ty.0) path
        ∙ sym (ap (λ (o : Option Entity). path_node p.types (option_map (λ (id : TypeId). type_of p.types id.0) (option_map (λ (k : Entity). k.ty) o)) path) e_at)))

    spot_same : (path : List PathStep) → spot (trees_in q) (over p q to back h) (to.entity e) path ≡ spot (trees_in p) (here p q to back h) e path
    spot_same path =
        ap (λ (l : ℕ). l + target_node (trees_in q) (to.entity e) path) (location_same p q to back h ready owners other_owners e a e_at)
        ∙ ap (λ (k : ℕ). location_of (trees_in p) (here p q to back h) e + k) (target_same path)

    item_kind : (path : List PathStep) (c : ℕ) → sort_at (trees_in p) c ≡ ValueNode → Fills (trees_in p) (type_of p.types a.ty.0) path c → Are (item_row over_w (to.entity e) path (to.node c)) (item_row here_w e path c)
    item_kind path c value fills =
        let t : Ctype = type_at (trees_in p) c in
        let (has, type) = tags_of p q to back h ready owners other_owners c ValueNode value is_value in
        let nodes : nodes_of q.types (type_at (trees_in q) (to.node c)) ≡ map (renamed to.tag) (nodes_of p.types t) = ap (nodes_of q.types) type ∙ nodes_moved p q to back h t has in
        let l : ℕ = spot (trees_in p) (here p q to back h) e path in
        let put : IsPut (locations_in p) l (nodes_of p.types t) = item_put p (locations_in p) refl h.sound.made ready.wholes ready.few e a e_at has_place path c fills in
        ap (λ ns. put_at ns (collapsed_of (slice_get (locations_in q) (spot (trees_in q) (over p q to back h) (to.entity e) path))) (spot (trees_in q) (over p q to back h) (to.entity e) path) (over_row (to.node c))) nodes
        ∙ (ap (λ (k : ℕ). put_at (map (renamed to.tag) (nodes_of p.types t)) (collapsed_of (slice_get (locations_in q) k)) k (over_row (to.node c))) (spot_same path)
        ∙ (ap (λ (b : Bool). put_at (map (renamed to.tag) (nodes_of p.types t)) b l (over_row (to.node c))) (collapsed_same p q to back h l)
        ∙ put_moved (row_moved p q to back h) to.tag (nodes_of p.types t) (collapsed_of (slice_get (locations_in p) l)) l (its_row c) (over_row (to.node c))
        (λ some. row_location p q to back h l (put.here some)) (λ apart i lt. row_location p q to back h (l + i) (put.each apart i lt))
        (value_row p q to back h ready owners other_owners c t (value, refl))))

    initialise_kind : (paths : List (List PathStep)) (children : List ℕ) → AllFill (trees_in p) (type_of p.types a.ty.0) paths children
        → Are (initialise_row over_w (to.entity e) paths (map to.node children)) (initialise_row here_w e paths children)
    initialise_kind [] children fills = refl
    initialise_kind (path ∷ paths) [] fills = refl
    initialise_kind (path ∷ paths) (c ∷ children) fills =
        moved_append (row_moved p q to back h) to.tag (item_row over_w (to.entity e) path (to.node c)) (initialise_row over_w (to.entity e) paths (map to.node children)) (item_row here_w e path c) (initialise_row here_w e paths children)
        (item_kind path c fills.0 fills.1) (initialise_kind paths children fills.2)

  statement_kind : (n : ℕ) (y : Node) (kind : NodeKind) → slice_get p.nodes.items n ≡ Some y → y.kind ≡ kind
      → Are (statement_of_kind over_w (to.node n) (kind_renamed to.entity kind) (map to.node y.children)) (statement_of_kind here_w n kind y.children)
  statement_kind n y Return at is = return_kind n y at is y.children refl
  statement_kind n y (Initialise e paths) at is =
      let (a, e_at, has_place) = entity_of (slice_get p.entities.items e) (subst (KindPlaced p) is (ready.placed n y at)) in
      initialise_kind e a e_at has_place paths y.children (ready.initials.each n y e paths a at is e_at)
  statement_kind n y kind at is = refl

  -- ---- all kinds together
  pub node_moved : (n : ℕ) (y b : Node) → slice_get p.nodes.items n ≡ Some y → SameNode p.types q.types to y b → Are (node_assignments over_w (to.node n) b) (node_assignments here_w n y)
  unfolding node_assignments
  node_moved n y b at same =
      ap (λ (kind : NodeKind). row_of_kind over_w (to.node n) kind (type_of q.types b.ty.0) b.children) same.kind
      ∙ (ap (λ (t : Ctype). row_of_kind over_w (to.node n) (kind_renamed to.entity y.kind) t b.children) same.type
      ∙ (ap (λ (cs : List ℕ). row_of_kind over_w (to.node n) (kind_renamed to.entity y.kind) (renamed to.tag (type_of p.types y.ty.0)) cs) same.children
      ∙ moved_append (row_moved p q to back h) to.tag
      (place_of_kind over_w (to.node n) (kind_renamed to.entity y.kind) (map to.node y.children) ++ value_of_kind over_w (to.node n) (kind_renamed to.entity y.kind) (renamed to.tag (type_of p.types y.ty.0)) (map to.node y.children))
      (statement_of_kind over_w (to.node n) (kind_renamed to.entity y.kind) (map to.node y.children))
      (place_of_kind here_w n y.kind y.children ++ value_of_kind here_w n y.kind (type_of p.types y.ty.0) y.children)
      (statement_of_kind here_w n y.kind y.children)
      (moved_append (row_moved p q to back h) to.tag
      (place_of_kind over_w (to.node n) (kind_renamed to.entity y.kind) (map to.node y.children))
      (value_of_kind over_w (to.node n) (kind_renamed to.entity y.kind) (renamed to.tag (type_of p.types y.ty.0)) (map to.node y.children))
      (place_of_kind here_w n y.kind y.children)
      (value_of_kind here_w n y.kind (type_of p.types y.ty.0) y.children)
      (place_kind p q to back h ready owners other_owners n y y.kind at refl y.children rows named)
      (value_kind p q to back h ready owners other_owners n y y.kind at refl y.children rows refl))
      (statement_kind n y y.kind at refl)))
    where
      rows : RowOf (trees_in p) y.kind (type_of p.types y.ty.0) y.children
      rows = ready.rows.rows n y at

      named : (e : ℕ) → named_by y.kind ≡ Some e → e < length p.entities.items
      named e is = subst (λ (o : Option ℕ). IfSome o (λ k. k < length p.entities.items)) is (ready.named n y at)
