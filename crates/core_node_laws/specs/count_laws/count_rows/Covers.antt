-- Which numbers of nodes cover what a row makes: its own nodes, and what the senses that it uses have.
use Rattle.std.specs.Prelude.{ℕ, ◌==◌, ◌+◌, ◌≤◌, ◌≡◌, Bool, true, ◌||◌, not, is_some, List, [], ◌∷◌, Some}
use Rattle.std.specs.Prelude.{slice_get, if◌then◌else◌}
use Rattle.core_tree.specs.declared.node.NodeKind.TheVariants.{Text, Literal, CallNode, Block, For, Initialise}
use Rattle.c_grammar.specs.Productions.{p_rest, p_init, p_items, p_block, p_statement, p_cast, p_unary, p_post}
use Rattle.c_grammar.specs.Productions.{p_primary, p_type_name}
use Rattle.c_inits.specs.Shapes.{Path}
use Rattle.c_inits.specs.Syntax.{Init, Items}
use Rattle.c_inits.specs.View as view
use Rattle.c_senses.specs.Tree.{Source, is_a, token_at, place_at, child_of, parent_of, left_of}
use Rattle.c_senses.specs.Given.{Given, Fits, Refuses}
use Rattle.c_senses.specs.World.{World}
use Rattle.c_senses.specs.Places.{own_place}
use Rattle.c_senses.specs.Entities.{entity_of, initialised_by}
use Rattle.c_senses.specs.Initialised.{expression_of, name_of_declarator, seen, opening, brace}
use Rattle.c_senses.specs.Statements.{objects_in, for_objects, for_parts, runs_initialiser}
use Rattle.c_senses.specs.Sense.{Sense, IsInitial}
use Rattle.c_senses.specs.Rows.{row_of}
use Rattle.core_node_laws.specs.count_laws.count_rows.Counts.{Count, count_in, count_of, count_full, total, init_total}
use Rattle.core_node_laws.specs.count_laws.count_rows.Counts.{items_total}

-- a list has a number in some place
abbrev pub IsIn : List ℕ → ℕ → Type 0
IsIn list c = (k : ℕ) × (slice_get list k ≡ Some c)

-- a row that is made over one of its parts, and one whose parts are used once each
abbrev pub is_one : ℕ → Bool
is_one production = (production == p_unary) || (production == p_cast)

abbrev pub is_summed : ℕ → Bool
is_summed production =
    not (is_one production || ((production == p_post) || ((production == p_init) || (production == p_items))))

module _ (n : Count) (w : World) (s : Source) (sense : ℕ → Sense) where
  -- what is counted for the node of a value in an initialiser
  abbrev pub value_at : ℕ → ℕ
  value_at node = count_of n (expression_of w s sense node)

  -- the initialisers among some nodes that don't run where they stand
  abbrev pub stays : List ℕ → ℕ
  stays [] = 0
  stays (c ∷ rest) =
      (elim (sense c) [ IsInitial x length ↦ if runs_initialiser w s sense c then 0 else count_in n x | _ ↦ 0 ])
      + stays rest

  -- what a row is for: of initialisers and literals the whole, of the rest of a declaration also what doesn't run
  abbrev pub made_by : ℕ → List ℕ → Sense → ℕ
  made_by production children x =
      if (production == p_init)
      || (production == p_items) then count_full n x else if production == p_rest
      then count_of n x + stays children else count_of n x

  pub record Covers (production at : ℕ) (children : List ℕ) (m : ℕ) : Type 0 where
    pub one : is_one production ≡ true → (c : ℕ) → IsIn children c → count_of n (sense c) ≤ m
    pub text : (production == p_primary) ≡ true
        → (first : ℕ) (rest : List ℕ) (bytes : List ℕ)
        → children ≡ first ∷ rest
        → is_some (token_at s first) ≡ true
        → n.weight (Text bytes) (place_at s first) ≤ m
    pub post : (production == p_post) ≡ true
        → (first : ℕ) (rest : List ℕ)
        → children ≡ first ∷ rest
        → is_some (token_at s first) ≡ true
        → n.weight CallNode (place_at s first) + (count_of n (sense (left_of s first)) + total n sense rest) ≤ m
    pub object : (production == p_init) ≡ true
        → (declarator leaf : ℕ) (init : Init) (paths : List Path)
        → initialised_by s sense at ≡ Some declarator
        → name_of_declarator w s sense (sense declarator) ≡ Some leaf
        → view.init_at (seen w s sense) s.nodes at ≡ Some init
        → n.weight (Initialise (entity_of s sense leaf) paths) (own_place s at) + init_total value_at init
        ≤ m
    pub literal : (production == p_items) ≡ true
        → (p : ℕ) (items : Items) (paths : List Path)
        → parent_of s at ≡ Some p
        → (is_a s p_cast p || is_a s p_unary p) ≡ true
        → is_some (child_of s p_type_name p) ≡ true
        → view.items_at (seen w s sense) s.nodes at ≡ Some items
        → n.weight (Literal (opening w s sense p)) (place_at s (opening w s sense p))
        + (n.weight (Initialise (opening w s sense p) paths) (place_at s (brace w s sense p))
        + items_total value_at items)
        ≤ m
    pub block : (production == p_block) ≡ true
        → n.weight (Block (objects_in w s sense children)) (place_at s at) + total n sense children ≤ m
    pub loop : (production == p_statement) ≡ true
        → (word parenthesis : ℕ) (rest : List ℕ) (c a : Bool)
        → children ≡ word ∷ parenthesis ∷ rest
        → n.weight (For (for_objects w s sense (for_parts w s sense rest).first) c a) (place_at s at)
        + total n sense rest
        ≤ m
    pub others : is_summed production ≡ true → total n sense children ≤ m

-- what a row gives, if it gives something, has no more
abbrev pub GivesMost : (Sense → ℕ) → ℕ → Given Sense → Type 0
GivesMost count m (Fits x) = count x ≤ m
GivesMost count m (Refuses kind node) = Unit {0}

-- each row uses the senses of its parts once
abbrev pub RowsCount : Type 0
RowsCount =
    (n : Count) (w : World) (s : Source) (sense : ℕ → Sense) (production at m : ℕ) (children : List ℕ)
    → Covers n w s sense production at children m
    → GivesMost (made_by n w s sense production children) m (row_of w s sense production at children)
