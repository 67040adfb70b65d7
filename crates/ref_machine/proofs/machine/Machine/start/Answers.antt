use Rattle.std.proofs.Common.{List, length, ap, sym, subst, ◌∙◌}
use Rattle.c_types.specs.declared.term.TypeId.{TypeId}
use Rattle.ref_cells.specs.declared.cells.Cell.{Cell}
use Rattle.ref_cells.specs.Places.{AreKnown}
use Rattle.ref_places.specs.Places.{first_instance}
use Rattle.ref_state.specs.ref_types.Types.{types_with}
use Rattle.ref_frames.specs.Made.{seen}
use Rattle.ref_start.specs.Handed.{AreRead}
use Rattle.ref_frames.specs.Running.{Running}
use Rattle.ref_machine.proofs.PreparedFacts.{library_types_known, memory_starts, starts}
use Rattle.ref_machine.proofs.machine.Machine.start.Goals as goal

pub start_memory-requires-clause-library : goal.start_memory-requires-clause-library
start_memory-requires-clause-library c =
    library_types_known c.args.program.now c.in_ok-prepared.prepared c.in_ok-prepared.ensures (seen c.running-running.result) c.running-running.ensures.seen

pub returns-clause-machine : goal.returns-clause-machine
returns-clause-machine c = record {
  prepared = c.in_ok-prepared.ensures;
  known = subst (λ (w : Running). AreKnown (length w.trees.types.terms) c.in_ok-memory.memory) c.running-running.ensures.seen c.in_ok-memory.ensures.known;
  standing = λ key i at.
      sym (c.in_ok-standing.ensures key ∙ ap (first_instance key 0) c.instances.ensures) ∙ at;
  handed = subst (λ (list : List (TypeId × Cell)). AreRead (types_with c.args.program.now.types) list c.no_places.result) (sym c.new-3.ensures)
      (c.no_places.ensures.read (types_with c.args.program.now.types));
}

pub returns-clause-state : goal.returns-clause-state
returns-clause-state c =
    starts c.args.program.now c.in_ok-memory.memory c.new.result c.new-2.result c.none.result c.new-3.result
    (memory_starts c.args.program.now c.in_ok-prepared.prepared c.in_ok-prepared.ensures (seen c.running-running.result) c.in_ok-memory.memory
    c.running-running.ensures.seen c.in_ok-memory.ensures.memory)
    c.new.ensures c.new-2.ensures c.none.ensures c.new-3.ensures
