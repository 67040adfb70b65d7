-- The initialiser that a syntax tree's nodes are.
use Rattle.std.specs.Prelude.{ℕ, suc, cond, eqb, Bool, List, [], ◌∷◌, ◌++◌, Option, Some, None, get_or}
use Rattle.c_types.specs.Trees.{Ctype}
use Rattle.c_grammar.specs.declared.trees.SyntaxNode.{SyntaxNode}
use Rattle.c_grammar.specs.Productions.{p_init, p_items, p_item, p_designator}
use Rattle.c_inits.specs.Syntax.{Designator, AtIndex, AtName, Init, Items, Value, Braces, NoItems, Item}

-- what the rest of the unit says of a node: an expression's type, whether it is a string, an index, the name behind
-- a dot
pub record Source : Type 0 where
  pub type_at : ℕ → Ctype
  pub is_text : ℕ → Bool
  pub index_at : ℕ → Option ℕ
  pub name_at : ℕ → List ℕ

-- what a node is to an initialiser
pub data SyntaxPart : Type 0 where
  AnInit : Init → SyntaxPart
  AList : Items → SyntaxPart
  AnItem : List Designator → Option Init → SyntaxPart
  ADesignator : Designator → SyntaxPart
  Other : SyntaxPart

abbrev pub list_part : SyntaxPart → Option Items
list_part (AList items) = Some items
list_part _ = None

abbrev pub or_first : {A : Type 0} → Option A → Option A → Option A
or_first None other = other
or_first (Some x) other = Some x

abbrev pub first_list : (ℕ → SyntaxPart) → List ℕ → Option Items
first_list part [] = None
first_list part (child ∷ rest) = or_first (list_part (part child)) (first_list part rest)

abbrev pub init_part : SyntaxPart → Option Init
init_part (AnInit init) = Some init
init_part _ = None

abbrev pub first_init : (ℕ → SyntaxPart) → List ℕ → Option Init
first_init part [] = None
first_init part (child ∷ rest) = or_first (init_part (part child)) (first_init part rest)

abbrev pub with_designator : SyntaxPart → List Designator → List Designator
with_designator (ADesignator d) rest = d ∷ rest
with_designator _ rest = rest

abbrev pub all_designators : (ℕ → SyntaxPart) → List ℕ → List Designator
all_designators part [] = []
all_designators part (child ∷ rest) = with_designator (part child) (all_designators part rest)

abbrev pub with_item : SyntaxPart → Items → Items
with_item (AnItem designators (Some init)) rest = Item designators init rest
with_item _ rest = rest

abbrev pub all_items : (ℕ → SyntaxPart) → List ℕ → Items
all_items part [] = NoItems
all_items part (child ∷ rest) = with_item (part child) (all_items part rest)

abbrev pub braced_or_value : Source → ℕ → Option Items → Init
braced_or_value s i None = Value i (s.type_at i) (s.is_text i)
braced_or_value s i (Some items) = Braces i items

abbrev pub index_or_name : Source → ℕ → Option ℕ → Designator
index_or_name s i None = AtName i (s.name_at i)
index_or_name s i (Some k) = AtIndex i k

-- what node i is, over the nodes before it
abbrev pub part_over : Source → (ℕ → SyntaxPart) → ℕ → SyntaxNode → SyntaxPart
part_over s part i n =
    cond (eqb n.production p_init) (AnInit (braced_or_value s i (first_list part n.children.items)))
    (cond (eqb n.production p_items) (AList (all_items part n.children.items))
    (cond (eqb n.production p_item)
    (AnItem (all_designators part n.children.items) (first_init part n.children.items))
    (cond (eqb n.production p_designator) (ADesignator (index_or_name s i (s.index_at i))) Other)))

-- all nodes in order, each over those before it
abbrev pub parts : Source → List SyntaxPart → ℕ → List SyntaxNode → List SyntaxPart
parts s done i [] = done
parts s done i (n ∷ rest) = parts s (done ++ part_over s (λ j. get_or done j Other) i n ∷ []) (suc i) rest

-- the initialiser, or the list of items, that a node is
abbrev pub init_at : Source → List SyntaxNode → ℕ → Option Init
init_at s nodes i = init_part (get_or (parts s [] 0 nodes) i Other)

abbrev pub items_at : Source → List SyntaxNode → ℕ → Option Items
items_at s nodes i = list_part (get_or (parts s [] 0 nodes) i Other)
