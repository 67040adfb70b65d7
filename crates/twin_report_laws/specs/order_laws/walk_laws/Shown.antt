-- Which calls, completed tags and items a walk gives.
use Rattle.std.specs.Prelude.{◌≡◌, ◌↔◌, ℕ, ◌<◌, true, false, List, [], Some, length, slice_get}
use Rattle.std.specs.Ordering.{nat_cmp}
use Rattle.c_grammar.specs.Productions.{p_struct, p_members}
use Rattle.core_tree.specs.declared.node.Node.{Node}
use Rattle.core_tree.specs.declared.node.NodeKind.TheVariants.{CallNode}
use Rattle.call_sites.specs.Calls.{calls_upto}
use Rattle.c_inits.specs.Shapes.{Path}
use Rattle.c_inits.specs.Initial.{Placed, Action, Clears, Puts, is_under, lasting}
use Rattle.c_inits.specs.Made.{TagParts}
use Rattle.c_senses.specs.Tree.{Source, is_a, child_of}
use Rattle.c_senses.specs.Sense.{Sense, IsMembers}
use Rattle.c_senses.specs.Tags.{tag_of, completed_from}
use Rattle.twin_report_laws.specs.order_laws.walk_laws.Ordered.{IsShown}

-- a call stands at that number
abbrev pub IsCallAt : List Node → ℕ × Node → Type 0
IsCallAt nodes call = (slice_get nodes call.0 ≡ Some call.1) × (call.1.kind ≡ CallNode)

-- the numbers of the calls, in order
abbrev pub CallsNumbered : Type 0
CallsNumbered =
    (nodes : List Node) (count : ℕ) (list : List ℕ)
    → (list ≡ calls_upto nodes count)
    ↔ IsShown nat_cmp (λ (call : ℕ × Node). (call.0 < count) × IsCallAt nodes call) (λ call. call.0) list

-- the node of that number is the specifier of a structure or union with a list of members, and completes its tag
pub record CompletesAt (s : Source) (sense : ℕ → Sense) (node : ℕ) (completed : TagParts) : Type 0 where
  pub specifier : is_a s p_struct node ≡ true
  pub list : ℕ
  pub list_is : child_of s p_members node ≡ Some list
  pub members : sense list ≡ IsMembers completed.members
  pub tag : completed.tag ≡ tag_of s node

-- what the nodes below a number complete, in order of the nodes
abbrev pub TagsCompleted : Type 0
TagsCompleted =
    (s : Source) (senses : List Sense) (sense : ℕ → Sense) (list : List TagParts)
    → (list ≡ completed_from s senses sense 0)
    ↔ IsShown nat_cmp (λ (at : ℕ × TagParts). (at.0 < length senses) × CompletesAt s sense at.0 at.1) (λ at. at.1) list

-- no action behind that one takes away what is at the path
abbrev pub IsLeft : List Action → ℕ → Path → Type 0
IsLeft actions number path =
    (later : ℕ) (cleared : Path)
    → number < later
    → slice_get actions later ≡ Some (Clears cleared)
    → is_under cleared path ≡ false

-- an item is put by that action, and left
abbrev pub IsLastPut : List Action → ℕ × Placed → Type 0
IsLastPut actions put = (slice_get actions put.0 ≡ Some (Puts put.1)) × IsLeft actions put.0 put.1.path

-- the items that are left, in order
abbrev pub ItemsLast : Type 0
ItemsLast =
    (actions : List Action) (list : List Placed)
    → (list ≡ lasting [] actions) ↔ IsShown nat_cmp (IsLastPut actions) (λ put. put.1) list
