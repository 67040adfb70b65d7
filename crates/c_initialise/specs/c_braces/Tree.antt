-- The initialisers of a list, each over those before it.
use Rattle.std.specs.Prelude.{ℕ, ◌≡◌, ◌<◌, List, [], ◌∷◌, ◌++◌, map, get_or, slice_get, All, false, length, Option}
use Rattle.std.specs.Prelude.{Some, None, ◌==◌, if◌then◌else◌}
use Rattle.c_types.specs.Trees.{VoidType}
use Rattle.c_types.specs.Table.{Table, type_of}
use Rattle.c_inits.specs.declared.cursor.Expression.{Expression}
use Rattle.c_initialise.specs.declared.c_braces.tree.InitNode.{InitNode}
use Rattle.c_initialise.specs.declared.c_braces.tree.InitNode.TheVariants.{Value as ValueNode, Braces as BracesNode}
use Rattle.c_initialise.specs.declared.c_braces.tree.InitEntry.{InitEntry}
use Rattle.c_inits.specs.Syntax.{Init, Items, Value, Braces, NoItems, Item}
use Rattle.c_inits.specs.Designated.{designator_of}

-- what is read past the list's end
abbrev pub no_init : Init
no_init = Value 0 VoidType false

abbrev pub items_over : (ℕ → Init) → List InitEntry → Items
items_over init [] = NoItems
items_over init (e ∷ rest) = Item (map designator_of e.designators.items) (init e.init) (items_over init rest)

abbrev pub init_over : Table → (ℕ → Init) → InitNode → Init
init_over table init (ValueNode node value) = Value node (type_of table value.ty.0) value.text
init_over table init (BracesNode node items) = Braces node (items_over init items.items)

abbrev pub inits_of : Table → List Init → List InitNode → List Init
inits_of table done [] = done
inits_of table done (n ∷ rest) = inits_of table (done ++ init_over table (λ i. get_or done i no_init) n ∷ []) rest

-- the initialiser in that position
unfoldable pub init_at : Table → List InitNode → ℕ → Init
init_at table nodes i = get_or (inits_of table [] nodes) i no_init

-- items stand before their list, and types are the table's
abbrev pub IsBefore : Table → ℕ → InitNode → Type 0
IsBefore table i (ValueNode node value) = value.ty.0 < length table.terms
IsBefore table i (BracesNode node items) = All (λ e. e.init < i) items.items

pub record AreInits (table : Table) (nodes : List InitNode) : Type 0 where
  pub each : (i : ℕ) (n : InitNode) → slice_get nodes i ≡ Some n → IsBefore table i n

abbrev pub head_node : InitNode → ℕ
head_node (ValueNode node value) = node
head_node (BracesNode node items) = node

abbrev pub head_value : InitNode → Option Expression
head_value (ValueNode node value) = Some value
head_value (BracesNode node items) = None

-- the string that an initialiser is
abbrev pub string_of : Option InitNode → Option (ℕ × Expression)
string_of (Some (ValueNode node value)) = if value.text then Some (node, value) else None
string_of n = None

-- the string that alone and without designators is the item of a list
abbrev pub only_in : List InitNode → List InitEntry → Option (ℕ × Expression)
only_in nodes (e ∷ []) = if length e.designators.items == 0 then string_of (slice_get nodes e.init) else None
only_in nodes items = None

-- a list's items stand before a position
abbrev pub ItemsBefore : ℕ → List InitEntry → Type 0
ItemsBefore at items = All (λ e. e.init < at) items

-- initialisers behind others, all of which are ones
pub record Grows (table : Table) (old new : List InitNode) : Type 0 where
  pub more : List InitNode
  pub behind : new ≡ old ++ more
  pub inits : AreInits table new
