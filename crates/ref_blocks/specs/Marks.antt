-- From which nodes jumps are found (C11 6.8.4.2, 6.8.6.1): from a switch its cases and its `default`, from the topmost
-- node of a body its labels.
use Rattle.std.specs.Prelude.{ℕ, ℤ, ◌==◌, ◌&&◌, Bool, if◌then◌else◌, List, Option, Some, None, take}
use Rattle.std.specs.List.{enumerate_from, filter_map}
use Rattle.core_tree.specs.declared.node.Node.{Node}
use Rattle.core_tree.specs.declared.node.NodeKind.{NodeKind}
use Rattle.core_tree.specs.declared.node.NodeKind.TheVariants.{Case, Default, Label}
use Rattle.ref_blocks.specs.Ways.{root_of, kind_at}
use Rattle.ref_blocks.specs.Jumps.{switch_of, is_some_number, is_case, is_label_named}

-- the node from which one is found, where jumps go to it
abbrev pub found_from : List Node → ℕ → NodeKind → Option ℕ
found_from nodes n (Case x) = switch_of nodes n
found_from nodes n Default = switch_of nodes n
found_from nodes n (Label name) = Some (root_of nodes n)
found_from nodes n kind = None

abbrev pub mark_for : List Node → ℕ → ℕ × Node → Option ℕ
mark_for nodes m entry =
    if is_some_number m (found_from nodes entry.0 entry.1.kind) then Some entry.0 else None

-- those among the first k nodes that are found from node m
abbrev pub marks_to : List Node → ℕ → ℕ → List ℕ
marks_to nodes k m = filter_map (mark_for nodes m) (take k (enumerate_from 0 nodes))

-- all of them
unfoldable pub marks_of : List Node → ℕ → List ℕ
marks_of nodes m = filter_map (mark_for nodes m) (enumerate_from 0 nodes)

-- whether a node is the case of that number, or the `default`, of a switch
abbrev pub is_case_at : List Node → ℕ → Option ℤ → ℕ → Bool
is_case_at nodes s x n = is_case x (kind_at nodes n) && is_some_number s (switch_of nodes n)

-- whether a node is the label of that name under a topmost node
abbrev pub is_label_at : List Node → ℕ → List ℕ → ℕ → Bool
is_label_at nodes root name t = is_label_named name (kind_at nodes t) && (root_of nodes t == root)
