-- What is found once of a program, and what blocks that are left and entered leave.
use Rattle.std.specs.Prelude.{◌≡◌, ℕ, ◌+◌, ◌<◌, List, [], ◌++◌, map, take, length, All}
use Rattle.std.specs.List.{range_with_len, enumerate_from, filter_map}
use Rattle.core_tree.specs.Typed.{CoreTrees}
use Rattle.ref_cells.specs.declared.instance.Instance.{Instance}
use Rattle.ref_state.specs.declared.doors.Doors.{Doors}
use Rattle.ref_state.specs.Changes.{Blocks, ended_all}
use Rattle.ref_blocks.specs.declared.block.Block.{Block}
use Rattle.ref_blocks.specs.declared.block.Block.TheVariants.{Own, Part}
use Rattle.ref_blocks.specs.declared.plan.Plan.{Plan}
use Rattle.ref_blocks.specs.Parents.{AreParents}
use Rattle.ref_blocks.specs.Around.{objects_of, listed_of, literal_within}
use Rattle.ref_blocks.specs.Order.{put_all}
use Rattle.ref_blocks.specs.Marks.{marks_of}

-- the node above each node, the objects of each block, and where jumps go that are found from each node
pub record IsPlan (u : CoreTrees) (plan : Plan) : Type 0 where
  pub parents : AreParents u.nodes plan.parents.items
  pub own : plan.own.items ≡ map (λ n. objects_of u (Own n)) (range_with_len 0 (length u.nodes))
  pub parts : plan.parts.items ≡ map (λ n. objects_of u (Part n)) (range_with_len 0 (length u.nodes))
  pub marks : plan.marks.items ≡ map (marks_of u.nodes) (range_with_len 0 (length u.nodes))

-- the memory and a frame's instances after doors
abbrev pub blocks_by : List Instance → Doors → Blocks
blocks_by memory doors = record { memory = ended_all (memory ++ doors.fresh) doors.ended; own = doors.own }

-- instances that are to end are among those that there are, or are to be made
abbrev pub EndsKnown : List Instance → Doors → Type 0
EndsKnown memory doors = All (λ i. i < length memory + length doors.fresh) doors.ended

-- How the code finds these: one node after another.

-- the objects of a block, with the compound literals among the first k nodes
abbrev pub objects_to : CoreTrees → ℕ → Block → List ℕ
objects_to u k b =
    put_all u.entities (put_all u.entities [] (listed_of u b))
    (filter_map (literal_within u b) (take k (enumerate_from 0 u.nodes)))
