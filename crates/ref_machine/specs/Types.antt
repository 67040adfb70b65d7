-- What the steps of a program's run are over.
use Rattle.std.specs.Prelude.{length}
use Rattle.core_tree.specs.declared.node.Program.{Program}
use Rattle.core_tree.specs.Typed.{CoreTrees, trees_in}
use Rattle.obj_space.specs.Space.{locations_in}
use Rattle.ref_state.specs.ref_types.Types.{id, types_with}
use Rattle.ref_frames.specs.Running.{Running}

-- a program's trees over the machine's own table of types
abbrev pub trees_with : Program → CoreTrees
trees_with p = record (trees_in p) { types = types_with p.types }

abbrev pub running : Program → Running
running p = record {
  trees = trees_with p;
  space = locations_in p;
  characters = id (length p.types.terms);
  entries = p.entries.items;
}
