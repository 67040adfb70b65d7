-- The counting law: all bodies together have no more nodes of a kind than the rows make.
use Rattle.std.specs.Prelude.{ℕ, zero, suc, ◌+◌, ◌≤◌, ◌≡◌, true, ◌||◌, Bool, is_some, List, ◌∷◌, take, length}
use Rattle.std.specs.Prelude.{Option, Some, None, if◌then◌else◌}
use Rattle.core_tree.specs.declared.node.NodeKind.{NodeKind}
use Rattle.core_tree.specs.declared.node.NodeKind.TheVariants.{Text, Literal, CallNode, Block, For, Initialise}
use Rattle.c_grammar.specs.Productions.{p_external, p_rest, p_init, p_items, p_block, p_statement, p_cast, p_unary}
use Rattle.c_grammar.specs.Productions.{p_post, p_primary, p_type_name}
use Rattle.c_consts.specs.Core.{Core, Of, MoreCores, NoCores}
use Rattle.c_inits.specs.Shapes.{Path}
use Rattle.c_senses.specs.Tree.{Source, is_a, token_at, place_at, child_of, parent_of, children_at}
use Rattle.c_senses.specs.World.{World}
use Rattle.c_senses.specs.Places.{own_place}
use Rattle.c_senses.specs.Entities.{entity_of, initialised_by}
use Rattle.c_senses.specs.Initialised.{name_of_declarator, opening, brace}
use Rattle.c_senses.specs.Statements.{objects_in, for_objects, for_parts}
use Rattle.c_senses.specs.Sense.{Sense, IsCore, IsInitial, sense_in}
use Rattle.c_senses.specs.Rows.{AreSenses, world_at}
use Rattle.parsed_tree_laws.specs.family_laws.Families.{Families}
use Rattle.parsed_tree_laws.specs.span_laws.Spans.{Spanned}
use Rattle.core_node_laws.specs.count_laws.count_rows.Counts.{Count, own_weight, count_under, count_of}
use Rattle.core_node_laws.specs.count_laws.count_rows.Covers.{stays}

-- a sum over the numbers below one
abbrev pub sum_below : (ℕ → ℕ) → ℕ → ℕ
sum_below f zero = 0
sum_below f (suc k) = sum_below f k + f k

-- an initialiser that is left out where it stands, as a body of its own: that of an object, or that of a compound
-- literal
abbrev pub left_out_of : Count → NodeKind → ℕ → ℕ
left_out_of n (Initialise e paths) k = if n.leaves_out e then k else 0
left_out_of n kind k = 0

abbrev pub left_out : Count → Core → ℕ
left_out n (Of kind place type under) = left_out_of n kind (own_weight n kind place + count_under n under)

abbrev pub left_out_in : Count → Sense → ℕ
left_out_in n (IsInitial c length) = left_out n c
left_out_in n (IsCore (Of (Literal e) place type (MoreCores v NoCores))) = left_out n v
left_out_in n x = 0

abbrev pub of_block : Count → List Sense → Option ℕ → ℕ
of_block n senses None = 0
of_block n senses (Some b) = count_of n (sense_in senses b)

module _ (n : Count) (s : Source) (senses : List Sense) where
  -- the senses and the world that the row of a node sees
  abbrev pub seen_at : ℕ → ℕ → Sense
  seen_at i c = sense_in (take i senses) c

  abbrev pub world_of : ℕ → World
  world_of i = world_at s (take i senses) i

  -- what the bodies have that a node brings: an initialiser that is left out; those of the rest of a declaration
  -- that don't run where they stand; the block of a function
  abbrev pub bodies : ℕ → ℕ
  bodies i =
      if is_a s p_init i || is_a s p_items i then left_out_in n (sense_in senses i)
      else if is_a s p_rest i then stays n (world_of i) s (seen_at i) (children_at s i)
      else if is_a s p_external i then of_block n senses (child_of s p_block i)
      else 0

  -- a bound for what each node's row makes itself
  pub record Makes (bound : ℕ → ℕ) : Type 0 where
    pub texts : (i first : ℕ) (rest : List ℕ) (bytes : List ℕ)
        → is_a s p_primary i ≡ true
        → children_at s i ≡ first ∷ rest
        → is_some (token_at s first) ≡ true
        → n.weight (Text bytes) (place_at s first) ≤ bound i
    pub calls : (i first : ℕ) (rest : List ℕ)
        → is_a s p_post i ≡ true
        → children_at s i ≡ first ∷ rest
        → is_some (token_at s first) ≡ true
        → n.weight CallNode (place_at s first) ≤ bound i
    pub objects : (i declarator leaf : ℕ) (paths : List Path)
        → is_a s p_init i ≡ true
        → initialised_by s (seen_at i) i ≡ Some declarator
        → name_of_declarator (world_of i) s (seen_at i) (seen_at i declarator) ≡ Some leaf
        → n.weight (Initialise (entity_of s (seen_at i) leaf) paths) (own_place s i) ≤ bound i
    pub literals : (i p : ℕ) (paths : List Path)
        → is_a s p_items i ≡ true
        → parent_of s i ≡ Some p
        → (is_a s p_cast p || is_a s p_unary p) ≡ true
        → is_some (child_of s p_type_name p) ≡ true
        → n.weight (Literal (opening (world_of i) s (seen_at i) p))
        (place_at s (opening (world_of i) s (seen_at i) p))
        + n.weight (Initialise (opening (world_of i) s (seen_at i) p) paths)
        (place_at s (brace (world_of i) s (seen_at i) p))
        ≤ bound i
    pub blocks : (i : ℕ)
        → is_a s p_block i ≡ true
        → n.weight (Block (objects_in (world_of i) s (seen_at i) (children_at s i))) (place_at s i) ≤ bound i
    pub loops : (i word parenthesis : ℕ) (rest : List ℕ) (c a : Bool)
        → is_a s p_statement i ≡ true
        → children_at s i ≡ word ∷ parenthesis ∷ rest
        → n.weight
        (For
        (for_objects (world_of i) s (seen_at i) (for_parts (world_of i) s (seen_at i) rest).first) c a)
        (place_at s i)
        ≤ bound i

-- over all nodes of a tree whose nodes stand in order
abbrev pub CountingLaw : Type 0
CountingLaw =
    (n : Count) (s : Source) (senses : List Sense) (bound : ℕ → ℕ)
    → Spanned s
    → Families s
    → AreSenses s senses
    → length senses ≡ length s.nodes
    → Makes n s senses bound
    → sum_below (bodies n s senses) (length s.nodes) ≤ sum_below bound (length s.nodes)
