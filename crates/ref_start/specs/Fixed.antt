-- The values of the initialisers of static objects, which are fixed before the program starts (C11 6.6, 6.7.9p4). A
-- node's operands have smaller numbers.
use Rattle.std.specs.Prelude.{◌≡◌, ℕ, zero, suc, ◌+◌, ◌<◌, Bool, true, false, if◌then◌else◌, List, [], ◌∷◌, Option}
use Rattle.std.specs.Prelude.{Some, None, Result, Ok, Err, slice_get, get_or, All}
use Rattle.std.specs.List.{cons_option}
use Rattle.std.specs.Option.{option_and_then}
use Rattle.c_types.specs.declared.term.Term.{Term}
use Rattle.c_types.specs.declared.term.Term.TheVariants.{Pointer as PointerTerm}
use Rattle.core_tree.specs.declared.node.Node.{Node}
use Rattle.core_tree.specs.declared.node.NodeKind.{NodeKind}
use Rattle.core_tree.specs.declared.node.NodeKind.TheVariants.{Named, Text, Literal, FunctionName, Deref, Member}
use Rattle.core_tree.specs.declared.node.NodeKind.TheVariants.{Number, NullValue, AddressOf, Decay, PointerAdd}
use Rattle.core_tree.specs.declared.node.NodeKind.TheVariants.{Convert, Upcast, Choose, Arith}
use Rattle.core_tree.specs.declared.node.Entity.{Entity}
use Rattle.core_tree.specs.Typed.{CoreTrees}
use Rattle.core_nodes.specs.kept_nodes.Marked.{marked}
use Rattle.ref_cells.specs.declared.cells.Reason.{Reason}
use Rattle.ref_cells.specs.declared.cells.Value.{Value}
use Rattle.ref_cells.specs.declared.instance.Instance.{Instance}
use Rattle.ref_elements.specs.Outcomes.{Effected}
use Rattle.ref_state.specs.Values.{cell_of}
use Rattle.ref_values.specs.Values.{is_true, computed}
use Rattle.ref_start.specs.declared.fixed.Way.{Way}
use Rattle.ref_start.specs.declared.fixed.Way.TheVariants.{Computed, Alone, Kept, Chosen, Never}
use Rattle.ref_start.specs.Objects.{is_static}

abbrev pub convert_way : Option Term → Way
convert_way (Some (PointerTerm to)) = Kept
convert_way ty = Computed

-- how a kind makes a fixed value, by the term of its type: from its operands' values; without them; as its operand's
-- value, which a pointer that is converted to a pointer stays; as the value of one of two; or never, as a fixed value
-- neither reads nor changes what memory holds
abbrev pub way_of : NodeKind → Option Term → Way
way_of (Named e) ty = Computed
way_of (Text bytes) ty = Computed
way_of (Literal e) ty = Alone
way_of (FunctionName e) ty = Computed
way_of Deref ty = Computed
way_of (Member k) ty = Computed
way_of (Number n) ty = Computed
way_of NullValue ty = Computed
way_of AddressOf ty = Computed
way_of Decay ty = Computed
way_of (PointerAdd minus) ty = Computed
way_of Convert ty = convert_way ty
way_of Upcast ty = Computed
way_of Choose ty = Chosen
way_of (Arith op) ty = Computed
way_of kind ty = Never

-- a node is computed, which leaves the memory as it is
abbrev pub Keeps : Way → Type 0
Keeps Computed = Unit {0}
Keeps Alone = Unit {0}
Keeps way = ⊥

abbrev pub Fixing : Type 0
Fixing = ℕ → Option Value

abbrev pub with_value : ℕ → Option Value → Option (List (ℕ × Value)) → Option (List (ℕ × Value))
with_value c (Some v) (Some values) = Some ((c, v) ∷ values)
with_value c v values = None

-- the values of operands, each of which has one
abbrev pub all_fixed : Fixing → List ℕ → Option (List (ℕ × Value))
all_fixed fix [] = Some []
all_fixed fix (c ∷ rest) = with_value c (fix c) (all_fixed fix rest)

abbrev pub value_of : Result Effected Reason → Option Value
value_of (Ok e) = Some e.outcome.value
value_of (Err reason) = None

abbrev pub value_over : CoreTrees → List Instance → ℕ → Node → List (ℕ × Value) → Option Value
value_over u memory n node values = value_of (computed u memory [] n node values 0)

abbrev pub kept_by : Fixing → List ℕ → Option Value
kept_by fix (v ∷ []) = fix v
kept_by fix children = None

abbrev pub branch_if : Fixing → ℕ → ℕ → Result Bool Reason → Option Value
branch_if fix a b (Ok true) = fix a
branch_if fix a b (Ok false) = fix b
branch_if fix a b (Err reason) = None

abbrev pub branch_by : Fixing → ℕ → ℕ → Option Value → Option Value
branch_by fix a b None = None
branch_by fix a b (Some condition) = branch_if fix a b (is_true (cell_of condition))

abbrev pub chosen_by : Fixing → List ℕ → Option Value
chosen_by fix (c ∷ a ∷ b ∷ []) = branch_by fix a b (fix c)
chosen_by fix children = None

abbrev pub fixed_by : CoreTrees → List Instance → Fixing → ℕ → Node → Way → Option Value
fixed_by u memory fix n node Computed = option_and_then (value_over u memory n node) (all_fixed fix node.children)
fixed_by u memory fix n node Alone = value_over u memory n node []
fixed_by u memory fix n node Kept = kept_by fix node.children
fixed_by u memory fix n node Chosen = chosen_by fix node.children
fixed_by u memory fix n node Never = None

abbrev pub fixed_in : CoreTrees → List Instance → Fixing → ℕ → Option Node → Option Value
fixed_in u memory fix n None = None
fixed_in u memory fix n (Some node) =
    fixed_by u memory fix n node (way_of node.kind (slice_get u.types.terms node.ty.0))

abbrev pub fixed_to : CoreTrees → List Instance → ℕ → Fixing
fixed_to u memory zero = λ n. None
fixed_to u memory (suc fuel) = λ n. fixed_in u memory (fixed_to u memory fuel) n (slice_get u.nodes n)

-- the value of a fixed expression over these objects, none where its computation stops
unfoldable pub fixed : CoreTrees → List Instance → ℕ → Option Value
fixed u memory n = fixed_to u memory (n + 1) n

-- a table's value of a node, none behind its end
abbrev pub value_at : List (Option Value) → Fixing
value_at table n = get_or table n None

-- a table has the values of these nodes
abbrev pub AreGiven : CoreTrees → List Instance → List (Option Value) → List ℕ → Type 0
AreGiven u memory table nodes = All (λ n. value_at table n ≡ fixed u memory n) nodes

-- a table has the values of the marked nodes below a number
abbrev pub MarkedGiven : CoreTrees → List Instance → List Bool → ℕ → List (Option Value) → Type 0
MarkedGiven u memory marks count table =
    (n : ℕ) → n < count → marked marks n → value_at table n ≡ fixed u memory n

-- the initialiser of a static object
abbrev pub static_body : Entity → Option ℕ
static_body entity = if is_static entity.storage then entity.body else None

-- those of all static objects
abbrev pub static_bodies : List Entity → List ℕ
static_bodies [] = []
static_bodies (entity ∷ rest) = cons_option (static_body entity) (static_bodies rest)

-- a table has the values of what a node is made of
abbrev pub PartsGiven : CoreTrees → List Instance → List (Option Value) → ℕ → Type 0
PartsGiven u memory table n =
    (node : Node) → slice_get u.nodes n ≡ Some node → AreGiven u memory table node.children

-- a table has the values that static objects are initialised with
abbrev pub BodiesGiven : CoreTrees → List Instance → List (Option Value) → Type 0
BodiesGiven u memory table =
    (e : ℕ) (entity : Entity) (b : ℕ)
    → slice_get u.entities e ≡ Some entity
    → static_body entity ≡ Some b
    → PartsGiven u memory table b
