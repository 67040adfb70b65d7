-- What is asked of each node and entity, taken together, is all that is asked of a unit or a program.
use Rattle.std.proofs.Common.{arith, ◌≡◌, ℕ, ◌<◌, Option, Some, IfSome, slice_get, length, get_or, sym, ap, ◌∙◌, subst, inl, inr, All}
use Rattle.std.proofs.lemmas.Option.{slice_get_within, slice_get-get_or, slice_get_cases, get_or_from_slice_get}
use Rattle.core_tree.specs.declared.node.Node.{Node}
use Rattle.core_tree.specs.declared.node.Entity.{Entity}
use Rattle.core_tree.specs.declared.under.Group.TheVariants.{Children}
use Rattle.core_tree.specs.Typed.{CoreTrees}
use Rattle.core_tree.specs.Range.{EachNode, EachEntity, node_at, entity_at, child_at, child_in, named_by, InRange, ChildOnce, OnceHeld}
use Rattle.core_tree.specs.Groups.{group_of}
use Rattle.core_tree.specs.declared.node.Program.{Program}
use Rattle.core_tree.specs.Typed.{trees_in}
use Rattle.core_tree.specs.Valid.{Valid, ValidProgram, IsEntryAt}
use Rattle.core_valid.specs.Each.{NodeInRange, EntityInRange, NodeRightIn, EntityRightIn, NodesRight, EntitiesRight, Checked, Linked}
use Rattle.core_tree.proofs.Climb.{parent_node, parent_within, child_before}

pub range_from : (u : CoreTrees) → EachNode u (λ n node. NodeInRange u n node) → EachEntity u (λ e entity. EntityInRange u entity) → InRange u
range_from u nodes entities = record {
  types = λ n node at. (nodes n node at).ty;
  children = λ n node at. (nodes n node at).children;
  entities = λ n node at. (nodes n node at).entity;
  lists = λ n node at. (nodes n node at).list;
  entity_types = λ e entity at. (entities e entity at).ty;
  owners = λ e entity at. (entities e entity at).owner;
  bodies = λ e entity at. (entities e entity at).body;
}

pub range_nodes : (u : CoreTrees) → InRange u → EachNode u (λ n node. NodeInRange u n node)
range_nodes u range n node at = record {
  ty = range.types n node at;
  children = range.children n node at;
  entity = range.entities n node at;
  list = range.lists n node at;
}

pub range_entities : (u : CoreTrees) → InRange u → EachEntity u (λ e entity. EntityInRange u entity)
range_entities u range e entity at = record {
  ty = range.entity_types e entity at;
  owner = range.owners e entity at;
  body = range.bodies e entity at;
}

pub all_types : (u : CoreTrees) → InRange u → All (λ (entity : Entity). entity.ty.0 < length u.types.terms) u.entities
all_types u range k d lt = range.entity_types k (get_or u.entities k d) (slice_get-get_or u.entities k d lt)

pub all_node_types : (u : CoreTrees) → InRange u → All (λ (node : Node). node.ty.0 < length u.types.terms) u.nodes
all_node_types u range k d lt = range.types k (get_or u.nodes k d) (slice_get-get_or u.nodes k d lt)

pub all_named : (u : CoreTrees) → InRange u → All (λ (node : Node). IfSome (named_by node.kind) (λ e. e < length u.entities)) u.nodes
all_named u range k d lt = range.entities k (get_or u.nodes k d) (slice_get-get_or u.nodes k d lt)

-- a child as an entry of a node's list
child_entry : (u : CoreTrees) (n k c : ℕ) (node : Node) → node_at u n ≡ Some node → child_at u n k ≡ Some c → slice_get node.children k ≡ Some c
child_entry u n k c node at e = sym (ap (λ o. child_in o k) at) ∙ e

entry_child : (u : CoreTrees) (n k c : ℕ) (node : Node) → node_at u n ≡ Some node → slice_get node.children k ≡ Some c → child_at u n k ≡ Some c
entry_child u n k c node at e = ap (λ o. child_in o k) at ∙ e

pub once_from : (u : CoreTrees) → InRange u → EachNode u (λ c node. OnceHeld u (group_of Children) c) → ChildOnce u
once_from u range h a b i j c ea eb =
    let (one, at) = parent_node u a c (i, ea) in
    let (other, there) = parent_node u b c (j, eb) in
    let before : c < a = child_before u range a c (i, ea) in
    let within : a < length u.nodes = parent_within u a c (i, ea) in
    let lt : c < length u.nodes = omega arith in
    let held = (h c (get_or u.nodes c one) (slice_get-get_or u.nodes c one lt)).each a one at in
    let first = child_entry u a i c one at ea in
    let same : a ≡ b = held.others (i, first) b other there (j, child_entry u b j c other there eb) in
    let again : child_at u a j ≡ Some c = subst (λ (n : ℕ). child_at u n j ≡ Some c) (sym same) eb in
    (same, held.places (i, first) i j first (child_entry u a j c one at again))

pub once_to : (u : CoreTrees) → ChildOnce u → (c : ℕ) → OnceHeld u (group_of Children) c
once_to u once c = record {
  each = λ a node at. record {
    places = λ h i j ei ej. (once a a i j c (entry_child u a i c node at ei) (entry_child u a j c node at ej)).1;
    others = λ h b other there g. (once a b h.0 g.0 c (entry_child u a h.0 c node at h.1) (entry_child u b g.0 c other there g.1)).0;
  };
}

pub nodes_from : (u : CoreTrees) → ((k : ℕ) → k < length u.nodes → NodeRightIn u k (node_at u k)) → NodesRight u
nodes_from u h = record { each = λ n node at. subst (λ (o : Option Node). NodeRightIn u n o) at (h n (slice_get_within u.nodes n node at)) }

pub node_of_all : (u : CoreTrees) → NodesRight u → (n : ℕ) → n < length u.nodes → NodeRightIn u n (node_at u n)
node_of_all u h n lt =
    elim (slice_get_cases u.nodes n).1 [
      | inl p ↦ subst (λ (o : Option Node). NodeRightIn u n o) (sym p.2) (h.each n p.0 p.2)
      | inr p ↦ absurd (omega (arith, p.0))
    ]

pub entities_from : (u : CoreTrees) → ((k : ℕ) → k < length u.entities → EntityRightIn u k (entity_at u k)) → EntitiesRight u
entities_from u h = record { each = λ e entity at. subst (λ (o : Option Entity). EntityRightIn u e o) at (h e (slice_get_within u.entities e entity at)) }

pub entity_of_all : (u : CoreTrees) → EntitiesRight u → (e : ℕ) → e < length u.entities → EntityRightIn u e (entity_at u e)
entity_of_all u h e lt =
    elim (slice_get_cases u.entities e).1 [
      | inl p ↦ subst (λ (o : Option Entity). EntityRightIn u e o) (sym p.2) (h.each e p.0 p.2)
      | inr p ↦ absurd (omega (arith, p.0))
    ]

pub checked_valid : (u : CoreTrees) → Checked u → Valid u
checked_valid u c = record {
  in_range = c.range;
  child_once = c.once;
  rows = λ n node at. (c.nodes.each n node at).stands.row;
  owned = λ e entity at. (c.entities.each e entity at).owned;
  bodied = λ e entity at. (c.entities.each e entity at).bodied;
  in_owner = λ n node at. (c.nodes.each n node at).stands.owner;
  literals = λ n node at. (c.nodes.each n node at).stands.literal;
  listed = λ e entity at. (c.entities.each e entity at).listed;
  lists = λ n node at. (c.nodes.each n node at).stands.lists;
  fixed = λ n node at. (c.nodes.each n node at).holds.fixed;
  standing = λ n node at. (c.nodes.each n node at).stands.stands;
  functions = λ n node at. (c.nodes.each n node at).holds.functions;
  cases = λ n node at. (c.nodes.each n node at).holds.case;
  uses = λ e entity at. (c.entities.each e entity at).used;
  measured = record {
    objects = λ e entity at. (c.entities.each e entity at).sized;
    tags = c.tags;
    values = λ n node at. (c.nodes.each n node at).holds.sized;
    results = λ e entity at. (c.entities.each e entity at).result;
  };
}

pub valid_checked : (u : CoreTrees) → Valid u → Checked u
valid_checked u v = record {
  range = v.in_range;
  once = v.child_once;
  tags = v.measured.tags;
  nodes = record {
    each = λ n node at. record {
      stands = record {
        row = v.rows n node at;
        owner = v.in_owner n node at;
        literal = v.literals n node at;
        lists = v.lists n node at;
        stands = v.standing n node at;
      };
      holds = record {
        fixed = v.fixed n node at;
        functions = v.functions n node at;
        case = v.cases n node at;
        sized = v.measured.values n node at;
      };
    };
  };
  entities = record {
    each = λ e entity at. record {
      owned = v.owned e entity at;
      bodied = v.bodied e entity at;
      listed = v.listed e entity at;
      used = v.uses e entity at;
      sized = v.measured.objects e entity at;
      result = v.measured.results e entity at;
    };
  };
}

pub program_from : (program : Program) → Checked (trees_in program) → Linked (trees_in program) (length program.names.items) program.entries.items → ValidProgram program
program_from program c l = record {
  trees = checked_valid (trees_in program) c;
  signatures = λ e entity at. (l.entities.each e entity at).signature;
  lengths = λ e entity at. (l.entities.each e entity at).sized;
  entities = λ e entity at. (l.entities.each e entity at).within;
  nodes = λ n node at. l.nodes.each n node at;
  entries = λ k d lt. (l.entries.each k (get_or program.entries.items k d) (slice_get-get_or program.entries.items k d lt)).entry;
}

pub program_linked : (program : Program) → ValidProgram program → Linked (trees_in program) (length program.names.items) program.entries.items
program_linked program v = record {
  entities = record {
    each = λ e entity at. record {
      signature = v.signatures e entity at;
      sized = v.lengths e entity at;
      within = v.entities e entity at;
    };
  };
  nodes = record { each = λ n node at. v.nodes n node at };
  entries = record { each = λ k e at. record { entry = subst (IsEntryAt (trees_in program)) (get_or_from_slice_get program.entries.items k e e at) (v.entries k e (slice_get_within program.entries.items k e at)) } };
}
