-- Where a jump goes (C11 6.8.4.2, 6.8.6).
use Rattle.std.specs.Prelude.{ℕ, ℤ, ◌==◌, ◌+◌, ◌&&◌, not, Bool, true, false, if◌then◌else◌, List, [], ◌∷◌, ◌++◌}
use Rattle.std.specs.Prelude.{Option, Some, None, reverse, find}
use Rattle.std.specs.List.{list_any, enumerate_from}
use Rattle.std.specs.Option.{option_map}
use Rattle.std.specs.Ordering.{int_eq}
use Rattle.std.specs.Str.{bytes_eq}
use Rattle.core_tree.specs.declared.node.Node.{Node}
use Rattle.core_tree.specs.declared.node.NodeKind.{NodeKind}
use Rattle.core_tree.specs.declared.node.NodeKind.TheVariants.{Case, Default, Label}
use Rattle.core_tree.specs.Typed.{CoreTrees}
use Rattle.ref_state.specs.declared.items.Item.{Item}
use Rattle.ref_state.specs.declared.items.Item.TheVariants.{Do, Wait}
use Rattle.ref_state.specs.Changes.{Change, Blocks}
use Rattle.ref_blocks.specs.declared.block.Block.{Block}
use Rattle.ref_blocks.specs.declared.block.Block.TheVariants.{Own}
use Rattle.ref_blocks.specs.declared.ways.Link.{Link}
use Rattle.ref_blocks.specs.Ways.{above, root_of, kind_at, children_at, is_label, is_switch, is_block}
pub use Rattle.ref_blocks.specs.Ways.{nearest, is_sought}
use Rattle.ref_blocks.specs.Loops.{left_behind}
use Rattle.ref_blocks.specs.Around.{blocks_around, but_for}
use Rattle.ref_blocks.specs.Blocks.{all_left, all_entered}

-- the switch in which a case stands
abbrev pub switch_of : List Node → ℕ → Option ℕ
switch_of nodes n = nearest nodes is_switch (above nodes n)

abbrev pub is_some_number : ℕ → Option ℕ → Bool
is_some_number n None = false
is_some_number n (Some m) = m == n

-- a case of that number, or `default` where there is none
abbrev pub is_case : Option ℤ → NodeKind → Bool
is_case (Some x) (Case y) = int_eq y x
is_case None Default = true
is_case x kind = false

abbrev pub number_of : Option (ℕ × Node) → Option ℕ
number_of found = option_map (λ entry. entry.0) found

-- the case of a switch with that number, or its `default`
abbrev pub case_of : List Node → ℕ → Option ℤ → Option ℕ
case_of nodes s x =
    number_of
    (find (λ entry. is_case x entry.1.kind && is_some_number s (switch_of nodes entry.0))
    (enumerate_from 0 nodes))

abbrev pub or_default : Option ℕ → Option ℕ → Option ℕ
or_default (Some n) other = Some n
or_default None other = other

-- where a switch goes for a number
unfoldable pub switch_target : List Node → ℕ → ℤ → Option ℕ
switch_target nodes s x = or_default (case_of nodes s (Some x)) (case_of nodes s None)

abbrev pub is_label_named : List ℕ → NodeKind → Bool
is_label_named name (Label other) = bytes_eq other name
is_label_named name kind = false

-- the label of that name in the body in which a node stands
unfoldable pub label_target : List Node → ℕ → List ℕ → Option ℕ
label_target nodes n name =
    number_of
    (find (λ entry. is_label_named name entry.1.kind && (root_of nodes entry.0 == root_of nodes n))
    (enumerate_from 0 nodes))

-- an item is that of a node that waits
abbrev pub is_wait_of : ℕ → Item → Bool
is_wait_of a (Wait n left values) = n == a
is_wait_of a item = false

-- how many items stand on that one that waits, and it
abbrev pub items_to : ℕ → List Item → ℕ
items_to a [] = 0
items_to a (Wait n left values ∷ rest) = if n == a then 1 else 1 + items_to a rest
items_to a (item ∷ rest) = 1 + items_to a rest

-- the item of a statement, a child of which is being done
abbrev pub wait_for : List Node → Link → List Item
wait_for nodes link =
    if is_label (kind_at nodes link.node) then []
    else Wait link.node (left_behind (kind_at nodes link.node) (children_at nodes link.node) link.child) [] ∷ []

-- the items on a way up to a statement, the innermost first
abbrev pub waits_to : List Node → ℕ → List Link → List Item
waits_to nodes a [] = []
waits_to nodes a (link ∷ rest) = wait_for nodes link ++ (if link.node == a then [] else waits_to nodes a rest)

-- a jump into a statement: from the blocks `inside`, down from statement a to node t
abbrev pub jump : CoreTrees → List Item → Blocks → List Block → ℕ → ℕ → Change
jump u items s inside a t = record {
  off = items_to a items;
  on = Do t ∷ waits_to u.nodes a (above u.nodes t);
  blocks =
      all_entered u (reverse (but_for (blocks_around u t) inside))
      (all_left u (but_for inside (blocks_around u t)) s);
}

abbrev pub is_above : ℕ → List Link → Bool
is_above n links = list_any (λ link. link.node == n) links

-- the nearest statement on the way up from a label that contains the goto too, and is no label
abbrev pub meeting : List Node → List Link → List Link → Option ℕ
meeting nodes from [] = None
meeting nodes from (link ∷ rest) =
    if is_above link.node from
    && not (is_label (kind_at nodes link.node)) then Some link.node else meeting nodes from rest

-- the blocks around a node, and its own
abbrev pub blocks_with : CoreTrees → ℕ → List Block
blocks_with u n = (if is_block (kind_at u.nodes n) then Own n ∷ [] else []) ++ blocks_around u n
