-- How the items of a frame stand on one another, and how frames do: what a node gives goes to the node above it.
use Rattle.std.specs.Prelude.{◌≡◌, ◌⊎◌, ℕ, ⊤, Bool, true, false, List, [], ◌∷◌, drop, Option, Some, None}
use Rattle.core_tree.specs.declared.node.Node.{Node}
use Rattle.core_tree.specs.declared.node.NodeKind.TheVariants.{Choose, Convert}
use Rattle.core_tree.specs.Rows.{Has}
use Rattle.core_tree.specs.Typed.{ValueNode, sort_of}
use Rattle.ref_cells.specs.declared.cells.Value.{Value}
use Rattle.ref_state.specs.declared.items.Item.{Item}
use Rattle.ref_state.specs.declared.items.Item.TheVariants.{Do, Wait, Library, Result}
use Rattle.ref_state.specs.declared.frames.Frame.{Frame}
use Rattle.ref_blocks.specs.Ways.{kind_at, children_at}
use Rattle.ref_cells.specs.declared.instance.Instance.{Instance}
use Rattle.covering_laws.specs.covered_state.World.{World, trees_of}
use Rattle.covering_laws.specs.covered_state.Items.{Each, IsPending, IsPendingBack}

-- the node that an item does
abbrev pub item_node : Item → Option ℕ
item_node (Do n) = Some n
item_node (Wait n left values) = Some n
item_node (Library n function arguments) = Some n
item_node (Result v) = None

-- one of the two branches of a choice
abbrev pub IsBranch : List ℕ → ℕ → Type 0
IsBranch (c ∷ a ∷ b ∷ []) x = (x ≡ a) ⊎ (x ≡ b)
IsBranch children x = ⊥

-- A choice waits for its condition and both branches, then for its branches, and then for none: from then on it has
-- only what a branch gave.
abbrev pub ChoiceWaits : List ℕ → List ℕ → List (ℕ × Value) → Type 0
ChoiceWaits children left values =
    (left ≡ children) ⊎ ((left ≡ drop 1 children) ⊎ ((left ≡ []) × Each (λ v. IsBranch children v.0) values))

-- a node that waits: what is left are children of it, and it has its operand only once that isn't left
pub record WaitStands (nodes : List Node) (n : ℕ) (left : List ℕ) (values : List (ℕ × Value)) : Type 0 where
  pub left_in : Each (Has (children_at nodes n)) left
  pub choice : kind_at nodes n ≡ Choose → ChoiceWaits (children_at nodes n) left values
  pub conversion : kind_at nodes n ≡ Convert → (left ≡ []) ⊎ ((left ≡ children_at nodes n) × (values ≡ []))

-- the item that is next waits for values
abbrev pub waits_next : List Item → Bool
waits_next (Wait n left values ∷ rest) = true
waits_next items = false

-- A library function is pending on these items: where one waits next, for a call of the program; else another library
-- function, or the program's end, called it back.
abbrev pub PendingOn : World → List Instance → ℕ → ℕ → List Value → List Item → Type 0
PendingOn world memory n function arguments items =
    ((waits_next items ≡ true) × IsPending world memory n function arguments)
    ⊎ ((waits_next items ≡ false) × IsPendingBack world memory n function arguments)

abbrev pub ItemStands : List Node → (ℕ → ℕ → List Value → List Item → Type 0) → Item → List Item → Type 0
ItemStands nodes pend (Wait n left values) items = WaitStands nodes n left values
ItemStands nodes pend (Library n function arguments) items = pend n function arguments items
ItemStands nodes pend item items = ⊤

-- what is done above a choice without operands is one of its branches; above a conversion it is its operand, and the
-- conversion has nothing yet
pub record GivesTo (nodes : List Node) (m : ℕ) (left : List ℕ) (values : List (ℕ × Value)) (x : ℕ) : Type 0 where
  pub choice : kind_at nodes m ≡ Choose → left ≡ [] → IsBranch (children_at nodes m) x
  pub conversion : kind_at nodes m ≡ Convert → (children_at nodes m ≡ x ∷ []) × (left ≡ []) × (values ≡ [])

abbrev pub GivesBelow : List Node → ℕ → List Item → Type 0
GivesBelow nodes x (Wait m left values ∷ rest) = GivesTo nodes m left values x
GivesBelow nodes x items = ⊤

-- the item below waits at the node above
abbrev pub OnParent : List Node → ℕ → List Item → Type 0
OnParent nodes x (Wait m left values ∷ rest) = Has (children_at nodes m) x
OnParent nodes x items = ⊥

-- a node is done on top of these items: a value's node on the one that waits for it
pub record NodeStands (nodes : List Node) (x : ℕ) (items : List Item) : Type 0 where
  pub gives : GivesBelow nodes x items
  pub parent : sort_of (kind_at nodes x) ≡ ValueNode → OnParent nodes x items

abbrev pub StandsOn : List Node → Item → List Item → Type 0
StandsOn nodes (Do n) items = NodeStands nodes n items
StandsOn nodes (Wait n left values) items = NodeStands nodes n items
StandsOn nodes (Library n function arguments) items = waits_next items ≡ true → NodeStands nodes n items
StandsOn nodes (Result v) items = ⊤

-- each item stands on those below it
abbrev pub Stacked : List Node → (ℕ → ℕ → List Value → List Item → Type 0) → List Item → Type 0
Stacked nodes pend [] = ⊤
Stacked nodes pend (item ∷ rest) =
    ItemStands nodes pend item rest × StandsOn nodes item rest × Stacked nodes pend rest

abbrev pub top_node : List Item → Option ℕ
top_node [] = None
top_node (item ∷ rest) = item_node item

-- the frame below is at the call that entered a frame
abbrev pub CallStands : Option ℕ → List Frame → Type 0
CallStands (Some n) (f ∷ rest) = top_node f.items ≡ Some n
CallStands call frames = ⊤

-- each frame's items are stacked, and each frame stands on its call
abbrev pub FramesStand : World → List Instance → List Frame → Type 0
FramesStand world memory [] = ⊤
FramesStand world memory (f ∷ rest) =
    Stacked (trees_of world).nodes (PendingOn world memory) f.items
    × CallStands f.call rest
    × FramesStand world memory rest
