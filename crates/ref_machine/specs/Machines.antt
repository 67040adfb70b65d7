-- The machine of a program.
use Rattle.std.specs.Prelude.{◌≡◌, ◌+◌, ◌<◌, length}
use Rattle.c_types.specs.Made.{IsMade, AreNamed}
use Rattle.core_tree.specs.declared.node.Program.{Program}
use Rattle.core_tree.specs.Range.{InRange}
use Rattle.obj_space.specs.Space.{locations_in}
use Rattle.obj_space.specs.View.{view_of}
use Rattle.ref_cells.specs.Places.{AreKnown}
use Rattle.ref_state.specs.ref_types.Types.{id, types_with, library_ids}
use Rattle.ref_blocks.specs.Plans.{IsPlan}
use Rattle.ref_frames.specs.Made.{AreParameters, AreElementsKnown}
use Rattle.ref_frames.specs.Running.{Running}
use Rattle.ref_start.specs.Handed.{AreRead}
use Rattle.ref_machine.specs.declared.prepared.Prepared.{Prepared}
use Rattle.ref_machine.specs.declared.machine.Machine.{Machine}
use Rattle.ref_machine.specs.Types.{trees_with}
use Rattle.ref_machine.specs.Standing.{AreStanding}

-- what is found of a program once
pub record IsPreparedOf (p : Program) (prepared : Prepared) : Type 0 where
  pub types : prepared.types ≡ types_with p.types
  pub library : prepared.library ≡ library_ids (length p.types.terms)
  pub space : prepared.space ≡ locations_in p
  pub plan : IsPlan (trees_with p) prepared.plan
  pub parameters : AreParameters (trees_with p) (view_of (locations_in p)) prepared.parameters.items
  pub range : InRange (trees_with p)
  pub elements : AreElementsKnown (length (types_with p.types).terms) (id (length p.types.terms)) (locations_in p)

-- what is true of the types of a program that runs
pub record IsGrounded (w : Running) : Type 0 where
  pub range : InRange w.trees
  pub named : AreNamed w.trees.types
  pub made : IsMade w.trees.types
  pub elements : AreElementsKnown (length w.trees.types.terms) w.characters w.space
  pub texts : w.characters.0 + 1 < length w.trees.types.terms

-- it, a state whose objects have types of the machine's table, the instances that objects have from the start, and
-- what is kept of the pointers that were handed over
pub record IsMachineOf (p : Program) (machine : Machine) : Type 0 where
  pub prepared : IsPreparedOf p machine.prepared
  pub known : AreKnown (length (types_with p.types).terms) machine.state.memory
  pub standing : AreStanding machine.standing machine.state.memory
  pub handed : AreRead (types_with p.types) machine.state.handed machine.places
