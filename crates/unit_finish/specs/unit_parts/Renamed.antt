-- Nodes that name entities by their numbers in place of the leaves by which they are known.
use Rattle.std.specs.Prelude.{ℕ, ◌&&◌, Bool, true, List, [], ◌∷◌, map, Option, is_some, unwrap_or, slice_get}
use Rattle.core_tree.specs.declared.node.Node.{Node}
use Rattle.core_tree.specs.declared.node.NodeKind.{NodeKind}
use Rattle.core_tree.specs.declared.node.NodeKind.TheVariants.{Named, Literal, FunctionName, Block, For, Initialise}
use Rattle.core_tree.specs.declared.node.NodeKind.TheVariants.{VarArgs}
use Rattle.unit_finish.specs.declared.unit_parts.literals.LiteralAt.{LiteralAt}

-- the number of the entity of a leaf, and 0 where there is none
abbrev pub entity_number : (ℕ → Option ℕ) → ℕ → ℕ
entity_number n leaf = unwrap_or (n leaf) 0

abbrev pub renamed : (ℕ → Option ℕ) → NodeKind → NodeKind
renamed n (Named d) = Named (entity_number n d)
renamed n (FunctionName d) = FunctionName (entity_number n d)
renamed n (Literal d) = Literal (entity_number n d)
renamed n (VarArgs d) = VarArgs (entity_number n d)
renamed n (Initialise d paths) = Initialise (entity_number n d) paths
renamed n (Block ds) = Block (map (entity_number n) ds)
renamed n (For ds c a) = For (map (entity_number n) ds) c a
renamed n kind = kind

abbrev pub renamed_node : (ℕ → Option ℕ) → Node → Node
renamed_node n node = record node { kind = renamed n node.kind }

-- all entities that a kind names are known
abbrev pub all_known : (ℕ → Option ℕ) → List ℕ → Bool
all_known n [] = true
all_known n (d ∷ ds) = is_some (n d) && all_known n ds

abbrev pub is_known : (ℕ → Option ℕ) → NodeKind → Bool
is_known n (Named d) = is_some (n d)
is_known n (FunctionName d) = is_some (n d)
is_known n (Literal d) = is_some (n d)
is_known n (VarArgs d) = is_some (n d)
is_known n (Initialise d paths) = is_some (n d)
is_known n (Block ds) = all_known n ds
is_known n (For ds c a) = all_known n ds
is_known n kind = true

-- the compound literals among nodes, in order
abbrev pub with_literal : Node → NodeKind → List LiteralAt → List LiteralAt
with_literal x (Literal d) rest = record { leaf = d; ty = x.ty; body = slice_get x.children 0 } ∷ rest
with_literal x kind rest = rest

abbrev pub literals_in : List Node → List LiteralAt
literals_in [] = []
literals_in (x ∷ rest) = with_literal x x.kind (literals_in rest)
