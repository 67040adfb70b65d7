-- What the nodes of a program with more types demand.
use Rattle.std.proofs.Common.{◌≡◌, ◌∙◌, ℕ, ◌+◌, ◌<◌, ◌&&◌, cond, List, [], ◌∷◌, ◌++◌, length, map, drop, Option, Some, None, slice_get, refl, ap}
use Rattle.std.specs.List.{flat_map, range_with_len}
use Rattle.std.specs.Option.{option_map}
use Rattle.c_types.specs.declared.key.ObjectKey.TheVariants.{Entity as EntityKey}
use Rattle.c_types.specs.declared.term.PathStep.{PathStep}
use Rattle.c_types.specs.declared.term.Term.{Term}
use Rattle.c_types.specs.declared.term.TypeId.{TypeId}
use Rattle.c_types.specs.Trees.{Ctype}
use Rattle.c_types.specs.Table.{type_of}
use Rattle.c_types.specs.Made.{IsMade}
use Rattle.type_rules.specs.Conversions.{result_of}
use Rattle.core_tree.specs.declared.node.Node.{Node}
use Rattle.core_tree.specs.declared.node.Entity.{Entity}
use Rattle.core_tree.specs.declared.node.NodeKind.{NodeKind}
use Rattle.core_tree.specs.declared.node.NodeKind.TheVariants.{Named, Text, Literal, FunctionName, Deref, Member, Fetch, AddressOf, Decay, PointerAdd, Convert, Upcast, Assign, Update, Choose, Sequence, CallNode, MemberOfValue, VarArgs, NextArg, Return, Initialise}
use Rattle.core_tree.specs.declared.node.Program.{Program}
use Rattle.core_tree.specs.Typed.{CoreTrees, type_at, trees_in}
use Rattle.obj_space.specs.View.{SpaceView}
use Rattle.row_numbers.specs.Numbers.{type_number}
use Rattle.row_numbers.specs.Objects.{location_of}
use Rattle.row_numbers.specs.Functions.{number_of, key_id}
use Rattle.row_numbers.specs.Kept.{kept as kept_nodes, kept_row}
use Rattle.row_numbers.specs.Setting.{Setting, list_row, rest_row, result_row}
use Rattle.call_sites.specs.Calls.{variadic_count}
use Rattle.normal_form.specs.declared.normal.Assignment.{Assignment}
use Rattle.normal_form.specs.declared.normal.Assignment.TheVariants.{Address, Copy, Load, Field}
use Rattle.normal_form.specs.Assignments.{row_in, type_nodes, copies, spreads, loads, stores, passed_row, moved_row, is_pointer, convert_row, member_row, pointed, upcast_row, fetch_row, update_row, assign_row, choose_row, sequence_row, is_union_type, part_first, part_of_value, member_of_value_row, given_type, returned_by, return_row, next_arg_row, gathered_row, gathered_past, call_row, path_node, target_node, spot, put_at, item_row, initialise_row, place_of_kind, value_of_kind, statement_of_kind, row_of_kind, node_assignments, assignments_by, assignments_at, assignments_of}
use Rattle.normal_form.specs.SystemOf.{setting_of}
use Rattle.covering_laws.specs.grown_programs.Grown.{with_terms, MayFollow, IsKept, with_types}
use Rattle.covering_laws.proofs.grown_programs.Types.{both, three, nodes_same, path_same, first_same}
use Rattle.covering_laws.proofs.grown_programs.Numbers.{type_same, key_type_same, key_known, number_same, row_same, list_row_same, rest_row_same, result_row_same}

pub flat_same : {X Y : Type 0} (f g : X → List Y) (xs : List X) → ((x : X) → f x ≡ g x) → flat_map f xs ≡ flat_map g xs
flat_same f g [] h = refl
flat_same {Y = Y} f g (x ∷ xs) h = both (λ (a b : List Y). a ++ b) (h x) (flat_same f g xs h)

module _ (p : Program) (more : List Term) (made : IsMade p.types) (follow : MayFollow (length p.types.terms) more) (kept : IsKept p.types (with_terms p.types more))
    (nodes_known : (n : ℕ) (node : Node) → slice_get p.nodes.items n ≡ Some node → node.ty.0 < length p.types.terms)
    (entities_known : (e : ℕ) (x : Entity) → slice_get p.entities.items e ≡ Some x → x.ty.0 < length p.types.terms) (s : SpaceView) (owners : List (Option ℕ)) where
  abbrev u : CoreTrees
  u = trees_in p

  abbrev u' : CoreTrees
  u' = trees_in (with_types p more)

  abbrev w : Setting
  w = setting_of p s owners

  abbrev w' : Setting
  w' = setting_of (with_types p more) s owners

  at_row : (n : ℕ) → row_in w' n ≡ row_in w n
  at_row n = row_same p more made follow kept nodes_known entities_known s n

  at_type : (n : ℕ) → type_at u' n ≡ type_at u n
  at_type n = type_same p more made follow kept nodes_known entities_known n

  at_nodes : (t : Ctype) → type_nodes w' t ≡ type_nodes w t
  at_nodes t = nodes_same p.types more made follow kept t

  copied : (to from : ℕ) → Copy (row_in w' to) (row_in w' from) ∷ [] ≡ Copy (row_in w to) (row_in w from) ∷ []
  copied to from = both (λ (a b : ℕ). Copy a b ∷ []) (at_row to) (at_row from)

  passed_same : (n : ℕ) (children : List ℕ) → passed_row w' n children ≡ passed_row w n children
  passed_same n [] = refl
  passed_same n (v ∷ []) = copied n v
  passed_same n (v ∷ x ∷ rest) = refl

  moved_same : (n : ℕ) (children : List ℕ) → moved_row w' n children ≡ moved_row w n children
  moved_same n [] = refl
  moved_same n (v ∷ []) = refl
  moved_same n (v ∷ i ∷ []) = copied n v
  moved_same n (v ∷ i ∷ x ∷ rest) = refl

  convert_same : (n : ℕ) (t : Ctype) (children : List ℕ) → convert_row w' n t children ≡ convert_row w n t children
  convert_same n t [] = refl
  convert_same n t (v ∷ []) = both (λ (c : Ctype) (list : List Assignment). cond (is_pointer t && is_pointer c) list []) (at_type v) (copied n v)
  convert_same n t (v ∷ x ∷ rest) = refl

  fielded : (n v k : ℕ) (c d : Ctype) → c ≡ d → Field (row_in w' n) (row_in w' v) (type_number c) k ∷ [] ≡ Field (row_in w n) (row_in w v) (type_number d) k ∷ []
  fielded n v k c d same = three (λ (a b : ℕ) (t : Ctype). Field a b (type_number t) k ∷ []) (at_row n) (at_row v) same

  member_same : (n k : ℕ) (children : List ℕ) → member_row w' n k children ≡ member_row w n k children
  member_same n k [] = refl
  member_same n k (q ∷ []) = fielded n q k (type_at u' q) (type_at u q) (at_type q)
  member_same n k (q ∷ x ∷ rest) = refl

  upcast_same : (n : ℕ) (children : List ℕ) → upcast_row w' n children ≡ upcast_row w n children
  upcast_same n [] = refl
  upcast_same n (v ∷ []) = fielded n v 0 (pointed (type_at u' v)) (pointed (type_at u v)) (ap pointed (at_type v))
  upcast_same n (v ∷ x ∷ rest) = refl

  loaded : (n q : ℕ) (t : Ctype) → loads (type_nodes w' t) (row_in w' n) (row_in w' q) (type_number t) ≡ loads (type_nodes w t) (row_in w n) (row_in w q) (type_number t)
  loaded n q t = three (λ (ts : List Ctype) (a b : ℕ). loads ts a b (type_number t)) (at_nodes t) (at_row n) (at_row q)

  copies_same : (t : Ctype) (to from : ℕ) → copies (type_nodes w' t) (row_in w' to) (row_in w' from) ≡ copies (type_nodes w t) (row_in w to) (row_in w from)
  copies_same t to from = three copies (at_nodes t) (at_row to) (at_row from)

  fetch_same : (n : ℕ) (t : Ctype) (children : List ℕ) → fetch_row w' n t children ≡ fetch_row w n t children
  fetch_same n t [] = refl
  fetch_same n t (q ∷ []) = loaded n q t
  fetch_same n t (q ∷ x ∷ rest) = refl

  update_same : (n : ℕ) (t : Ctype) (children : List ℕ) → update_row w' n t children ≡ update_row w n t children
  update_same n t [] = refl
  update_same n t (q ∷ []) = refl
  update_same n t (q ∷ v ∷ []) = loaded n q t
  update_same n t (q ∷ v ∷ x ∷ rest) = refl

  assign_same : (n : ℕ) (t : Ctype) (children : List ℕ) → assign_row w' n t children ≡ assign_row w n t children
  assign_same n t [] = refl
  assign_same n t (q ∷ []) = refl
  assign_same n t (q ∷ v ∷ []) =
      both (λ (a b : List Assignment). a ++ b) (three (λ (ts : List Ctype) (a b : ℕ). stores ts a b (type_number t)) (at_nodes t) (at_row q) (at_row v)) (copies_same t n v)
  assign_same n t (q ∷ v ∷ x ∷ rest) = refl

  choose_same : (n : ℕ) (t : Ctype) (children : List ℕ) → choose_row w' n t children ≡ choose_row w n t children
  choose_same n t [] = refl
  choose_same n t (c ∷ []) = refl
  choose_same n t (c ∷ a ∷ []) = refl
  choose_same n t (c ∷ a ∷ b ∷ []) = both (λ (x y : List Assignment). x ++ y) (copies_same t n a) (copies_same t n b)
  choose_same n t (c ∷ a ∷ b ∷ x ∷ rest) = refl

  sequence_same : (n : ℕ) (t : Ctype) (children : List ℕ) → sequence_row w' n t children ≡ sequence_row w n t children
  sequence_same n t [] = refl
  sequence_same n t (a ∷ []) = refl
  sequence_same n t (a ∷ b ∷ []) = copies_same t n b
  sequence_same n t (a ∷ b ∷ x ∷ rest) = refl

  part_same : (n k : ℕ) (t whole : Ctype) (v : ℕ) → part_of_value w' n k t whole v ≡ part_of_value w n k t whole v
  part_same n k t whole v =
      both (λ (a b : List Assignment). cond (is_union_type whole) a b) (three spreads (at_nodes t) (at_row n) (at_row v))
      (three copies (at_nodes t) (at_row n) (ap (λ (r : ℕ). part_first (with_terms p.types more) whole r k) (at_row v) ∙ first_same p.types more made follow kept whole (row_in w v) k))

  member_of_value_same : (n k : ℕ) (t : Ctype) (children : List ℕ) → member_of_value_row w' n k t children ≡ member_of_value_row w n k t children
  member_of_value_same n k t [] = refl
  member_of_value_same n k t (v ∷ []) = ap (λ (c : Ctype). part_of_value w' n k t c v) (at_type v) ∙ part_same n k t (type_at u v) v
  member_of_value_same n k t (v ∷ x ∷ rest) = refl

  -- operations on variadic lists
  at_list : (n : ℕ) → list_row u' s n ≡ list_row u s n
  at_list n = list_row_same p more made follow kept nodes_known entities_known s n

  at_rest : (n : ℕ) → rest_row u' s n ≡ rest_row u s n
  at_rest n = rest_row_same p more made follow kept nodes_known entities_known s n

  next_same : (n : ℕ) (t : Ctype) (children : List ℕ) → next_arg_row w' n t children ≡ next_arg_row w n t children
  next_same n t [] = refl
  next_same n t (q ∷ []) =
      both (λ (l r : ℕ). Load l r 7 0 ∷ loads (type_nodes w' t) (row_in w' n) l (type_number t)) (at_list n) (at_row q)
      ∙ both (λ (ts : List Ctype) (a : ℕ). Load (list_row u s n) (row_in w q) 7 0 ∷ loads ts a (list_row u s n) (type_number t)) (at_nodes t) (at_row n)
  next_same n t (q ∷ x ∷ rest) = refl

  gathered_same : (n v : ℕ) → gathered_row w' n v ≡ gathered_row w n v
  gathered_same n v =
      three (λ (ts : List Ctype) (to r : ℕ). map (λ (i : ℕ). Copy to (kept_row r ts i)) (kept_nodes ts)) (ap (type_nodes w') (at_type v) ∙ at_nodes (type_at u v)) (at_rest n) (at_row v)

  all_gathered_same : (n : ℕ) (values : List ℕ) → flat_map (gathered_row w' n) values ≡ flat_map (gathered_row w n) values
  all_gathered_same n [] = refl
  all_gathered_same n (v ∷ values) = both (λ (a b : List Assignment). a ++ b) (gathered_same n v) (all_gathered_same n values)

  past_same : (n : ℕ) (o : Option ℕ) (values : List ℕ) → gathered_past w' n o values ≡ gathered_past w n o values
  past_same n None values = refl
  past_same n (Some count) values = all_gathered_same n (drop count values)

  call_same : (n : ℕ) (children : List ℕ) → call_row w' n children ≡ call_row w n children
  call_same n [] = refl
  call_same n (c ∷ values) = ap (λ (t : Ctype). gathered_past w' n (variadic_count t) values) (at_type c) ∙ past_same n (variadic_count (type_at u c)) values

  given_same : (f : ℕ) → given_type w' f ≡ given_type w f
  given_same f = ap result_of (key_type_same p more made follow kept nodes_known entities_known (EntityKey f))

  returned_same : (o : Option (Option ℕ)) (v : ℕ) → returned_by w' o v ≡ returned_by w o v
  returned_same None v = refl
  returned_same (Some None) v = refl
  returned_same (Some (Some f)) v =
      three copies (ap (type_nodes w') (given_same f) ∙ at_nodes (given_type w f))
      (ap (result_row u' s) (number_same p more made follow kept nodes_known entities_known s f) ∙ result_row_same p more made follow kept nodes_known entities_known s (number_of u s f)) (at_row v)

  return_same : (n : ℕ) (children : List ℕ) → return_row w' n children ≡ return_row w n children
  return_same n [] = refl
  return_same n (v ∷ []) = returned_same (slice_get owners n) v
  return_same n (v ∷ x ∷ rest) = refl

  -- the location of a path in an entity's object
  own_type : (e : ℕ) (o : Option TypeId) → key_id u (EntityKey e) ≡ o → option_map (λ (id : TypeId). type_of (with_terms p.types more) id.0) o ≡ option_map (λ (id : TypeId). type_of p.types id.0) o
  own_type e None is = refl
  own_type e (Some id) is = ap (λ (t : Ctype). Some t) (kept.types id.0 (key_known p more made follow kept nodes_known entities_known (EntityKey e) id is))

  target_same : (e : ℕ) (path : List PathStep) → target_node u' e path ≡ target_node u e path
  target_same e path =
      ap (λ (t : Option Ctype). path_node (with_terms p.types more) t path) (own_type e (key_id u (EntityKey e)) refl)
      ∙ path_same p.types more made follow kept path (option_map (λ (id : TypeId). type_of p.types id.0) (key_id u (EntityKey e)))

  spot_same : (e : ℕ) (path : List PathStep) → spot u' s e path ≡ spot u s e path
  spot_same e path = ap (λ (k : ℕ). location_of u s e + k) (target_same e path)

  item_same : (e : ℕ) (path : List PathStep) (v : ℕ) → item_row w' e path v ≡ item_row w e path v
  item_same e path v =
      three (λ (ts : List Ctype) (l r : ℕ). put_at ts (s.collapsed l) l r) (ap (type_nodes w') (at_type v) ∙ at_nodes (type_at u v)) (spot_same e path) (at_row v)

  initialise_same : (e : ℕ) (paths : List (List PathStep)) (values : List ℕ) → initialise_row w' e paths values ≡ initialise_row w e paths values
  initialise_same e [] values = refl
  initialise_same e (path ∷ paths) [] = refl
  initialise_same e (path ∷ paths) (v ∷ values) = both (λ (a b : List Assignment). a ++ b) (item_same e path v) (initialise_same e paths values)

  addressed : (n l : ℕ) → Address (row_in w' n) l ∷ [] ≡ Address (row_in w n) l ∷ []
  addressed n l = ap (λ (a : ℕ). Address a l ∷ []) (at_row n)

  place_same : (n : ℕ) (kind : NodeKind) (children : List ℕ) → place_of_kind w' n kind children ≡ place_of_kind w n kind children
  place_same n (Named e) children = addressed n (location_of u s e)
  place_same n (Text bytes) children = addressed n _
  place_same n (Literal e) children = addressed n (location_of u s e)
  place_same n (FunctionName e) children = addressed n (location_of u s e)
  place_same n Deref children = passed_same n children
  place_same n (Member k) children = member_same n k children
  place_same n kind children = refl

  value_same : (n : ℕ) (kind : NodeKind) (t : Ctype) (children : List ℕ) → value_of_kind w' n kind t children ≡ value_of_kind w n kind t children
  value_same n Fetch t children = fetch_same n t children
  value_same n AddressOf t children = passed_same n children
  value_same n Decay t children = passed_same n children
  value_same n (PointerAdd minus) t children = moved_same n children
  value_same n Convert t children = convert_same n t children
  value_same n Upcast t children = upcast_same n children
  value_same n Assign t children = assign_same n t children
  value_same n (Update op post) t children = update_same n t children
  value_same n Choose t children = choose_same n t children
  value_same n Sequence t children = sequence_same n t children
  value_same n (MemberOfValue k) t children = member_of_value_same n k t children
  value_same n CallNode t children = call_same n children
  value_same n (VarArgs e) t children = addressed n _
  value_same n NextArg t children = next_same n t children
  value_same n kind t children = refl

  statement_same : (n : ℕ) (kind : NodeKind) (children : List ℕ) → statement_of_kind w' n kind children ≡ statement_of_kind w n kind children
  statement_same n Return children = return_same n children
  statement_same n (Initialise e paths) children = initialise_same e paths children
  statement_same n kind children = refl

  kind_same : (n : ℕ) (kind : NodeKind) (t : Ctype) (children : List ℕ) → row_of_kind w' n kind t children ≡ row_of_kind w n kind t children
  kind_same n kind t children = three (λ (a b c : List Assignment). a ++ b ++ c) (place_same n kind children) (value_same n kind t children) (statement_same n kind children)

  node_by : (n : ℕ) (o : Option Node) → slice_get p.nodes.items n ≡ o → assignments_by w' n o ≡ assignments_by w n o
  unfolding node_assignments
  node_by n None is = refl
  node_by n (Some node) is =
      ap (λ (t : Ctype). row_of_kind w' n node.kind t node.children) (kept.types node.ty.0 (nodes_known n node is)) ∙ kind_same n node.kind (type_of p.types node.ty.0) node.children

  pub assignments_same : assignments_of w' ≡ assignments_of w
  assignments_same = flat_same (assignments_at w') (assignments_at w) (range_with_len 0 (length p.nodes.items)) (λ n. node_by n (slice_get p.nodes.items n) refl)
