-- Blocks, those around a node, and their automatic objects (C11 6.2.4p6, 6.8p3).
use Rattle.std.specs.Prelude.{ℕ, ◌==◌, ◌&&◌, not, Bool, true, false, if◌then◌else◌, List, [], ◌∷◌, ◌++◌, Option, Some}
use Rattle.std.specs.Prelude.{None, filter, slice_get}
use Rattle.std.specs.List.{list_any, enumerate_from, filter_map}
use Rattle.core_tree.specs.declared.node.Node.{Node}
use Rattle.core_tree.specs.declared.node.Entity.{Entity}
use Rattle.core_tree.specs.declared.node.Storage.{Storage}
use Rattle.core_tree.specs.declared.node.Storage.TheVariants.{Automatic}
use Rattle.core_tree.specs.declared.node.NodeKind.{NodeKind}
use Rattle.core_tree.specs.declared.node.NodeKind.TheVariants.{Literal}
use Rattle.core_tree.specs.Typed.{CoreTrees}
use Rattle.core_tree.specs.Range.{listed_by}
use Rattle.ref_blocks.specs.declared.block.Block.{Block}
use Rattle.ref_blocks.specs.declared.block.Block.TheVariants.{Own, Part}
use Rattle.ref_blocks.specs.declared.ways.Link.{Link}
use Rattle.ref_blocks.specs.Order.{put_all}
use Rattle.ref_blocks.specs.Ways.{above, kind_at, children_at, is_block, is_body}

abbrev pub same_block : Block → Block → Bool
same_block (Own a) (Own b) = a == b
same_block (Part a) (Part b) = a == b
same_block a b = false

abbrev pub is_block_statement : NodeKind → Bool
is_block_statement (NodeKind.Block entities) = true
is_block_statement kind = false

-- a child that is a branch or a body, and no Block, is a block of its own
abbrev pub opens_part : List Node → Link → Bool
opens_part nodes link =
    is_body (kind_at nodes link.node) (children_at nodes link.node) link.child
    && not (is_block_statement (kind_at nodes link.child))

-- the block of a branch or a body that is no Block, where a way goes through one
abbrev pub part_on : List Node → Link → List Block
part_on nodes link = if opens_part nodes link then Part link.child ∷ [] else []

-- the block of a statement, where a way goes through one
abbrev pub own_on : List Node → Link → List Block
own_on nodes link = if is_block (kind_at nodes link.node) then Own link.node ∷ [] else []

-- the blocks on a way up, the innermost first
abbrev pub blocks_in : List Node → List Link → List Block
blocks_in nodes [] = []
blocks_in nodes (link ∷ rest) = part_on nodes link ++ (own_on nodes link ++ blocks_in nodes rest)

abbrev pub blocks_on : CoreTrees → List Link → List Block
blocks_on u links = blocks_in u.nodes links

-- the blocks in which a node stands, the innermost first
abbrev pub blocks_around : CoreTrees → ℕ → List Block
blocks_around u n = blocks_on u (above u.nodes n)

abbrev pub is_innermost : Block → List Block → Bool
is_innermost b [] = false
is_innermost b (first ∷ rest) = same_block first b

abbrev pub lives_with_block : Storage → Bool
lives_with_block Automatic = true
lives_with_block storage = false

abbrev pub is_automatic : Option Entity → Bool
is_automatic None = false
is_automatic (Some entity) = lives_with_block entity.storage

-- the automatic object of a compound literal
abbrev pub literal_of : CoreTrees → NodeKind → Option ℕ
literal_of u (Literal e) = if is_automatic (slice_get u.entities e) then Some e else None
literal_of u kind = None

abbrev pub literal_within : CoreTrees → Block → ℕ × Node → Option ℕ
literal_within u b entry = if is_innermost b (blocks_around u entry.0) then literal_of u entry.1.kind else None

-- those whose innermost block it is
abbrev pub literals_of : CoreTrees → Block → List ℕ
literals_of u b = filter_map (literal_within u b) (enumerate_from 0 u.nodes)

abbrev pub listed_of : CoreTrees → Block → List ℕ
listed_of u (Own n) = listed_by (kind_at u.nodes n)
listed_of u (Part n) = []

-- the objects of a block in order of place: those that it lists, and its compound literals
unfoldable pub objects_of : CoreTrees → Block → List ℕ
objects_of u b = put_all u.entities [] (listed_of u b ++ literals_of u b)

abbrev pub is_among : List Block → Block → Bool
is_among list b = list_any (same_block b) list

-- the blocks of a list that another one doesn't have
abbrev pub but_for : List Block → List Block → List Block
but_for list others = filter (λ b. not (is_among others b)) list
