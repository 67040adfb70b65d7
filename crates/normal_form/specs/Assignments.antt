-- What each kind of node demands: one definition for each row of the table of core nodes.
use Rattle.std.specs.Prelude.{ℕ, ◌+◌, ◌++◌, ◌&&◌, Bool, true, false, if◌then◌else◌, List, [], ◌∷◌, Option, Some}
use Rattle.std.specs.Prelude.{None, length, map, drop, slice_get, unwrap_or}
use Rattle.c_types.specs.Trees.{Ctype, VoidType, PointerTo, UnionOf}
use Rattle.c_types.specs.Table.{Table, type_of}
use Rattle.std.specs.Option.{option_map}
use Rattle.std.specs.List.{flat_map, range_with_len}
use Rattle.c_types.specs.declared.term.PathStep.{PathStep}
use Rattle.c_types.specs.declared.key.ObjectKey.TheVariants.{Entity as EntityKey, Text as TextKey}
use Rattle.c_types.specs.declared.key.ObjectKey.TheVariants.{Varargs as VarargsKey}
use Rattle.type_rules.specs.Conversions.{result_of}
use Rattle.core_tree.specs.declared.node.Node.{Node}
use Rattle.core_tree.specs.declared.node.NodeKind.{NodeKind}
use Rattle.core_tree.specs.declared.node.NodeKind.TheVariants.{Named, Text, Literal, FunctionName, Deref, Member}
use Rattle.core_tree.specs.declared.node.NodeKind.TheVariants.{Fetch, AddressOf, Decay, PointerAdd, Convert, Upcast}
use Rattle.core_tree.specs.declared.node.NodeKind.TheVariants.{Assign, Update, Choose, Sequence, MemberOfValue}
use Rattle.core_tree.specs.declared.node.NodeKind.TheVariants.{CallNode, VarArgs, NextArg}
use Rattle.core_tree.specs.declared.node.NodeKind.TheVariants.{Return, Initialise}
use Rattle.core_tree.specs.Typed.{CoreTrees, type_at}
use Rattle.obj_space.specs.View.{SpaceView}
use Rattle.obj_space.specs.Spots.{node_along}
use Rattle.normal_form.specs.declared.normal.Assignment.{Assignment}
use Rattle.normal_form.specs.declared.normal.Assignment.TheVariants.{Address, Copy, Load, Store, Field}
use Rattle.row_numbers.specs.Kept.{nodes_of, member_node, kept, kept_row}
use Rattle.row_numbers.specs.Numbers.{type_number}
use Rattle.row_numbers.specs.Objects.{location_of}
use Rattle.row_numbers.specs.Functions.{number_of, key_id, key_type}
use Rattle.row_numbers.specs.Setting.{Setting, row, list_row, rest_row, result_row}
use Rattle.call_sites.specs.Calls.{variadic_count}

-- the row of a place or of a pointer, and the first row of any other value
abbrev pub row_in : Setting → ℕ → ℕ
row_in w n = row w.trees w.space n

-- the nodes of a type
abbrev pub type_nodes : Setting → Ctype → List Ctype
type_nodes w t = nodes_of w.trees.types t

-- to each kept node of a type, counted by rows from `to`, what the same node has by rows from `from`
abbrev pub copies : List Ctype → ℕ → ℕ → List Assignment
copies nodes to from = map (λ i. Copy (kept_row to nodes i) (kept_row from nodes i)) (kept nodes)

-- to each kept node, what a row has
abbrev pub spreads : List Ctype → ℕ → ℕ → List Assignment
spreads nodes to from = map (λ i. Copy (kept_row to nodes i) from) (kept nodes)

-- to each kept node, what that node of the objects of a row has
abbrev pub loads : List Ctype → ℕ → ℕ → ℕ → List Assignment
loads nodes to pointer ty = map (λ i. Load (kept_row to nodes i) pointer ty i) (kept nodes)

-- to that node of the objects of a row, what each kept node has
abbrev pub stores : List Ctype → ℕ → ℕ → ℕ → List Assignment
stores nodes pointer from ty = map (λ i. Store pointer (kept_row from nodes i) ty i) (kept nodes)

-- a name (C11 6.5.1p2), or a compound literal (6.5.2.5): its place has its object
abbrev pub named_row : Setting → ℕ → ℕ → List Assignment
named_row w n e = Address (row_in w n) (location_of w.trees w.space e) ∷ []

-- a string literal (6.4.5, 6.5.1p4): its place has its object
abbrev pub text_row : Setting → ℕ → List Assignment
text_row w n = Address (row_in w n) (unwrap_or (w.space.first (TextKey n)) 0) ∷ []

-- what is pointed to and the address of a place (6.5.3.2), a place that decays (6.3.2.1p3, p4), and a pointer that
-- is moved (6.5.6p8) or converted (6.3.2.3): what the operand has
abbrev pub passed_row : Setting → ℕ → List ℕ → List Assignment
passed_row w n (v ∷ []) = Copy (row_in w n) (row_in w v) ∷ []
passed_row w n children = []

abbrev pub moved_row : Setting → ℕ → List ℕ → List Assignment
moved_row w n (v ∷ i ∷ []) = Copy (row_in w n) (row_in w v) ∷ []
moved_row w n children = []

abbrev pub is_pointer : Ctype → Bool
is_pointer (PointerTo to) = true
is_pointer t = false

abbrev pub convert_row : Setting → ℕ → Ctype → List ℕ → List Assignment
convert_row w n t (v ∷ []) =
    if is_pointer t && is_pointer (type_at w.trees v) then Copy (row_in w n) (row_in w v) ∷ [] else []
convert_row w n t children = []

-- a member (6.5.2.3): that member's node of each location of the whole
abbrev pub member_row : Setting → ℕ → ℕ → List ℕ → List Assignment
member_row w n k (p ∷ []) = Field (row_in w n) (row_in w p) (type_number (type_at w.trees p)) k ∷ []
member_row w n k children = []

abbrev pub pointed : Ctype → Ctype
pointed (PointerTo to) = to
pointed t = VoidType

-- a pointer to a structure as one to its first member (6.7.2.1p15)
abbrev pub upcast_row : Setting → ℕ → List ℕ → List Assignment
upcast_row w n (v ∷ []) = Field (row_in w n) (row_in w v) (type_number (pointed (type_at w.trees v))) 0 ∷ []
upcast_row w n children = []

-- the value of a place (6.3.2.1p2)
abbrev pub fetch_row : Setting → ℕ → Ctype → List ℕ → List Assignment
fetch_row w n t (p ∷ []) = loads (type_nodes w t) (row_in w n) (row_in w p) (type_number t)
fetch_row w n t children = []

-- the old or the new value of a place (6.5.2.4, 6.5.3.1, 6.5.16.2): a pointer stays in its object
abbrev pub update_row : Setting → ℕ → Ctype → List ℕ → List Assignment
update_row w n t (p ∷ v ∷ []) = loads (type_nodes w t) (row_in w n) (row_in w p) (type_number t)
update_row w n t children = []

-- an assignment stores its value, and is that value (6.5.16p3, 6.5.16.1)
abbrev pub assign_row : Setting → ℕ → Ctype → List ℕ → List Assignment
assign_row w n t (p ∷ v ∷ []) =
    stores (type_nodes w t) (row_in w p) (row_in w v) (type_number t)
    ++ copies (type_nodes w t) (row_in w n) (row_in w v)
assign_row w n t children = []

-- one value of two (6.5.15; also 6.5.13 and 6.5.14)
abbrev pub choose_row : Setting → ℕ → Ctype → List ℕ → List Assignment
choose_row w n t (c ∷ a ∷ b ∷ []) =
    copies (type_nodes w t) (row_in w n) (row_in w a) ++ copies (type_nodes w t) (row_in w n) (row_in w b)
choose_row w n t children = []

-- the second of two (6.5.17)
abbrev pub sequence_row : Setting → ℕ → Ctype → List ℕ → List Assignment
sequence_row w n t (a ∷ b ∷ []) = copies (type_nodes w t) (row_in w n) (row_in w b)
sequence_row w n t children = []

-- a member of a value (6.5.2.3p3): the rows of the member's nodes begin behind those of the nodes before it; all
-- members of a union have its one row
abbrev pub is_union_type : Ctype → Bool
is_union_type (UnionOf tag) = true
is_union_type t = false

-- where the rows of a member's nodes begin
abbrev pub part_first : Table → Ctype → ℕ → ℕ → ℕ
part_first table whole first k = kept_row first (nodes_of table whole) (member_node table whole k)

abbrev pub part_of_value : Setting → ℕ → ℕ → Ctype → Ctype → ℕ → List Assignment
part_of_value w n k t whole v =
    if is_union_type whole then spreads (type_nodes w t) (row_in w n) (row_in w v)
    else copies (type_nodes w t) (row_in w n) (part_first w.trees.types whole (row_in w v) k)

abbrev pub member_of_value_row : Setting → ℕ → ℕ → Ctype → List ℕ → List Assignment
member_of_value_row w n k t (v ∷ []) = part_of_value w n k t (type_at w.trees v) v
member_of_value_row w n k t children = []

-- the list of what a function is passed past its parameters (7.16.1.4): its object
abbrev pub varargs_row : Setting → ℕ → ℕ → List Assignment
varargs_row w n e = Address (row_in w n) (unwrap_or (w.space.first (VarargsKey e)) 0) ∷ []

-- the next argument of a list (7.16.1.1): the list at the place may be some functions' objects, and a pointer is what
-- these have
abbrev pub next_arg_row : Setting → ℕ → Ctype → List ℕ → List Assignment
next_arg_row w n t (p ∷ []) =
    Load (list_row w.trees w.space n) (row_in w p) 7 0
    ∷ loads (type_nodes w t) (row_in w n) (list_row w.trees w.space n) (type_number t)
next_arg_row w n t children = []

-- a call (6.5.2.2p7): all that is passed past the parameters of a variadic function is in one row
abbrev pub gathered_row : Setting → ℕ → ℕ → List Assignment
gathered_row w n v =
    let nodes = type_nodes w (type_at w.trees v) in
    map (λ i. Copy (rest_row w.trees w.space n) (kept_row (row_in w v) nodes i)) (kept nodes)

abbrev pub gathered_past : Setting → ℕ → Option ℕ → List ℕ → List Assignment
gathered_past w n None arguments = []
gathered_past w n (Some count) arguments = flat_map (gathered_row w n) (drop count arguments)

abbrev pub call_row : Setting → ℕ → List ℕ → List Assignment
call_row w n (c ∷ arguments) = gathered_past w n (variadic_count (type_at w.trees c)) arguments
call_row w n [] = []

-- what a function gives
abbrev pub given_type : Setting → ℕ → Ctype
given_type w f = result_of (key_type w.trees (EntityKey f))

-- a return (6.8.6.4p3): the result of the function around it has its value
abbrev pub returned_by : Setting → Option (Option ℕ) → ℕ → List Assignment
returned_by w (Some (Some f)) v =
    copies (type_nodes w (given_type w f)) (result_row w.trees w.space (number_of w.trees w.space f)) (row_in w v)
returned_by w owner v = []

abbrev pub return_row : Setting → ℕ → List ℕ → List Assignment
return_row w n (v ∷ []) = returned_by w (slice_get w.owners n) v
return_row w n children = []

-- how far the node at the end of a path stands behind an object's first
abbrev pub path_node : Table → Option Ctype → List PathStep → ℕ
path_node table None path = 0
path_node table (Some t) path = unwrap_or (node_along table t path) 0

-- how far it stands behind the first location of an entity's object, and which location it is
abbrev pub target_node : CoreTrees → ℕ → List PathStep → ℕ
target_node u e path = path_node u.types (option_map (λ id. type_of u.types id.0) (key_id u (EntityKey e))) path

abbrev pub spot : CoreTrees → SpaceView → ℕ → List PathStep → ℕ
spot u s e path = location_of u s e + target_node u e path

-- what a value puts at a location: one row for each node, or all into one where the location is collapsed
abbrev pub put_at : List Ctype → Bool → ℕ → ℕ → List Assignment
put_at nodes true location from = map (λ i. Copy location (kept_row from nodes i)) (kept nodes)
put_at nodes false location from = map (λ i. Copy (location + i) (kept_row from nodes i)) (kept nodes)

-- one item of an initialiser (6.7.9p11, p13): its value is put at the location of its path
abbrev pub item_at : Setting → ℕ → ℕ → List Assignment
item_at w location v = put_at (type_nodes w (type_at w.trees v)) (w.space.collapsed location) location (row_in w v)

abbrev pub item_row : Setting → ℕ → List PathStep → ℕ → List Assignment
item_row w e path v = item_at w (spot w.trees w.space e path) v

-- an initialiser (6.7.9p19): each of its items, in order
abbrev pub initialise_row : Setting → ℕ → List (List PathStep) → List ℕ → List Assignment
initialise_row w e (path ∷ paths) (v ∷ values) = item_row w e path v ++ initialise_row w e paths values
initialise_row w e paths values = []

-- the row of each kind of place
abbrev pub place_of_kind : Setting → ℕ → NodeKind → List ℕ → List Assignment
place_of_kind w n (Named e) children = named_row w n e
place_of_kind w n (Text bytes) children = text_row w n
place_of_kind w n (Literal e) children = named_row w n e
place_of_kind w n (FunctionName e) children = named_row w n e
place_of_kind w n Deref children = passed_row w n children
place_of_kind w n (Member k) children = member_row w n k children
place_of_kind w n kind children = []

-- the row of each kind of value
abbrev pub value_of_kind : Setting → ℕ → NodeKind → Ctype → List ℕ → List Assignment
value_of_kind w n Fetch t children = fetch_row w n t children
value_of_kind w n AddressOf t children = passed_row w n children
value_of_kind w n Decay t children = passed_row w n children
value_of_kind w n (PointerAdd minus) t children = moved_row w n children
value_of_kind w n Convert t children = convert_row w n t children
value_of_kind w n Upcast t children = upcast_row w n children
value_of_kind w n Assign t children = assign_row w n t children
value_of_kind w n (Update op post) t children = update_row w n t children
value_of_kind w n Choose t children = choose_row w n t children
value_of_kind w n Sequence t children = sequence_row w n t children
value_of_kind w n (MemberOfValue k) t children = member_of_value_row w n k t children
value_of_kind w n CallNode t children = call_row w n children
value_of_kind w n (VarArgs e) t children = varargs_row w n e
value_of_kind w n NextArg t children = next_arg_row w n t children
value_of_kind w n kind t children = []

-- the row of each kind of statement
abbrev pub statement_of_kind : Setting → ℕ → NodeKind → List ℕ → List Assignment
statement_of_kind w n Return children = return_row w n children
statement_of_kind w n (Initialise e paths) children = initialise_row w e paths children
statement_of_kind w n kind children = []

-- the row of a node of number n and type t over those children; each kind is in one of the three tables
abbrev pub row_of_kind : Setting → ℕ → NodeKind → Ctype → List ℕ → List Assignment
row_of_kind w n kind t children =
    place_of_kind w n kind children ++ value_of_kind w n kind t children ++ statement_of_kind w n kind children

-- what the node of number n demands
unfoldable pub node_assignments : Setting → ℕ → Node → List Assignment
node_assignments w n node = row_of_kind w n node.kind (type_of w.trees.types node.ty.0) node.children

abbrev pub assignments_by : Setting → ℕ → Option Node → List Assignment
assignments_by w n None = []
assignments_by w n (Some node) = node_assignments w n node

-- what the node of that number demands
abbrev pub assignments_at : Setting → ℕ → List Assignment
assignments_at w n = assignments_by w n (slice_get w.trees.nodes n)

-- what all nodes demand
abbrev pub assignments_of : Setting → List Assignment
assignments_of w = flat_map (assignments_at w) (range_with_len 0 (length w.trees.nodes))
