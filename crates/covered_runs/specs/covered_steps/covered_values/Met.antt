-- That what covered values stand on is there for each linked program, over the machine's types.
use Rattle.std.specs.Prelude.{◌≡◌, ℕ, ◌<◌, ◌^◌, List, Some, Contains, length, slice_get}
use Rattle.c_types.specs.declared.term.MemberTerm.{MemberTerm}
use Rattle.c_types.specs.declared.term.Term.{Term}
use Rattle.c_types.specs.declared.term.Term.TheVariants.{Union}
use Rattle.c_types.specs.Layout.{all_nodes}
use Rattle.c_types.specs.Table.{Table, members_in, extents_in}
use Rattle.c_types.specs.Made.{IsMade, AreNamed}
use Rattle.core_tree.specs.declared.node.Program.{Program}
use Rattle.core_tree.specs.Typed.{trees_in}
use Rattle.core_tree.specs.Range.{EachNode}
use Rattle.core_tree.specs.Valid.{ValidProgram}
use Rattle.obj_space.specs.Space.{locations_in}
use Rattle.covering_laws.specs.covered_memory.Demands.{Grounds}
use Rattle.covering_laws.specs.grown_programs.Grown.{MayFollow, with_types}
use Rattle.covering_laws.specs.covered_state.World.{World}
use Rattle.sol_model.specs.Solutions.{IsClosed}
use Rattle.covered_runs.specs.covered_steps.covered_values.Values.{Stands, IsFound, HasFirst}
use Rattle.covered_runs.specs.covered_steps.covered_values.Passed.{AreTypedAbove}

-- a tag that stands in no union has members of few nodes, if it is complete
abbrev pub HasFit : Table → Type 0
HasFit table =
    (tag : ℕ) (members : List MemberTerm)
    → members_in table tag ≡ Some members
    → ((i : ℕ) → slice_get table.terms i ≡ Some (Union tag) → ⊥)
    → length (all_nodes (extents_in table members)) < 2 ^ 24

-- a world over a program with more types
pub record IsOver (p : Program) (more : List Term) (world : World) : Type 0 where
  pub program : world.program ≡ with_types p more
  pub space : world.space ≡ locations_in p

-- a world over a valid program with more types, none of which is a structure, a union or a function, stands, where
-- its sets are closed, and its functions and those at which it is entered have locations
abbrev pub StandsMet : Type 0
StandsMet =
    (p : Program) (more : List Term) (world : World)
    → ValidProgram p
    → IsMade p.types
    → AreNamed p.types
    → HasFit p.types
    → MayFollow (length p.types.terms) more
    → IsOver p more world
    → Grounds p.types world.space world.system
    → IsClosed world.system world.family
    → EachNode (trees_in p) (λ n node. IsFound world node.kind)
    → ((e : ℕ) → Contains p.entries.items e → HasFirst world e)
    → Stands world

-- what calls allocate there has the types of the conversions above
abbrev pub AboveMet : Type 0
AboveMet =
    (p : Program) (more : List Term) (world : World)
    → ValidProgram p
    → IsMade p.types
    → IsOver p more world
    → AreTypedAbove world
