use Rattle.std.proofs.Common.{arith, length, ap, sym, subst, ◌∙◌}
use Rattle.core_tree.specs.Typed.{CoreTrees}
use Rattle.ref_cells.specs.Places.{AreKnown}
use Rattle.ref_start.specs.Handed.{AreRead}
use Rattle.ref_state.specs.ref_types.Types.{types_with, library_ids}
use Rattle.ref_blocks.specs.Plans.{IsPlan}
use Rattle.ref_frames.specs.Running.{Running}
use Rattle.ref_calls.specs.Outcomes.{Steps}
use Rattle.ref_machine.specs.Types.{running}
use Rattle.ref_machine.specs.Step.{item_step, outside_step}
use Rattle.ref_machine.proofs.KnownSteps.{later}
use Rattle.ref_machine.proofs.FirstInstances.{standing_stays}
use Rattle.ref_machine.proofs.HandedOnward.{read_after}
use Rattle.ref_machine.proofs.Stepped.{framed, unframed}
use Rattle.ref_machine.proofs.machine.stepped.Goals as goal

pub frame_step-requires-clause-plan : goal.frame_step-requires-clause-plan
frame_step-requires-clause-plan c =
    subst (λ (u : CoreTrees). IsPlan u c.args.prepared.now.plan) (sym (ap (λ (w : Running). w.trees) c.running-running.ensures.seen))
    c.requires.prepared.plan

pub frame_step-requires-clause-memory : goal.frame_step-requires-clause-memory
frame_step-requires-clause-memory c =
    subst (λ (w : Running). AreKnown (length w.trees.types.terms) c.args.state.now.memory) (sym c.running-running.ensures.seen) c.requires.known

pub outside_step-requires-clause-library : goal.outside_step-requires-clause-library
outside_step-requires-clause-library c =
    c.requires.prepared.library ∙ ap (λ (w : Running). library_ids w.characters.0) (sym c.running-running.ensures.seen)

pub outside_step-requires-clause-kept : goal.outside_step-requires-clause-kept
outside_step-requires-clause-kept c =
    subst (λ (w : Running). AreRead w.trees.types c.args.state.now.handed c.args.kept.now) (sym c.running-running.ensures.seen) c.requires.handed

pub returns-then-depth-gt0-clause-step : goal.returns-then-depth-gt0-clause-step
returns-then-depth-gt0-clause-step c =
    let st = c.args.state.now in
    let new = c.frame_step.new.state in
    framed c.frame_step.result st new (running c.args.program.now) c.args.word (omega (arith, c.if-depth-gt0.true, c.depth.ensures))
    (λ f rest e. subst (λ (w : Running). Steps c.frame_step.result st new (item_step w st f rest f.items c.args.word))
    c.running-running.ensures.seen (c.frame_step.ensures f rest e))

pub returns-then-depth-gt0-clause-known : goal.returns-then-depth-gt0-clause-known
returns-then-depth-gt0-clause-known c =
    (later (running c.args.program.now) c.running-running.ensures.grounded c.frame_step.result c.args.state.now c.frame_step.new.state c.args.word
    (returns-then-depth-gt0-clause-step c) c.requires.known).known

pub returns-then-depth-gt0-clause-standing : goal.returns-then-depth-gt0-clause-standing
returns-then-depth-gt0-clause-standing c =
    standing_stays c.args.standing.now c.args.state.now.memory c.frame_step.new.state.memory
    (later (running c.args.program.now) c.running-running.ensures.grounded c.frame_step.result c.args.state.now c.frame_step.new.state c.args.word
    (returns-then-depth-gt0-clause-step c) c.requires.known).keys
    c.requires.standing

pub returns-then-depth-gt0-clause-handed : goal.returns-then-depth-gt0-clause-handed
returns-then-depth-gt0-clause-handed c =
    read_after (running c.args.program.now) (types_with c.args.program.now.types) c.frame_step.result c.args.state.now c.frame_step.new.state c.args.word c.args.kept.now
    (returns-then-depth-gt0-clause-step c) c.requires.handed

pub returns-else-depth-gt0-clause-step : goal.returns-else-depth-gt0-clause-step
returns-else-depth-gt0-clause-step c =
    let st = c.args.state.now in
    let new = c.outside_step.new.state in
    unframed c.outside_step.result st new (running c.args.program.now) c.args.word (omega (arith, c.if-depth-gt0.false, c.depth.ensures))
    (subst (λ (w : Running). Steps c.outside_step.result st new (outside_step w st st.status c.args.word)) c.running-running.ensures.seen c.outside_step.ensures.step)

pub returns-else-depth-gt0-clause-known : goal.returns-else-depth-gt0-clause-known
returns-else-depth-gt0-clause-known c =
    (later (running c.args.program.now) c.running-running.ensures.grounded c.outside_step.result c.args.state.now c.outside_step.new.state c.args.word
    (returns-else-depth-gt0-clause-step c) c.requires.known).known

pub returns-else-depth-gt0-clause-standing : goal.returns-else-depth-gt0-clause-standing
returns-else-depth-gt0-clause-standing c =
    standing_stays c.args.standing.now c.args.state.now.memory c.outside_step.new.state.memory
    (later (running c.args.program.now) c.running-running.ensures.grounded c.outside_step.result c.args.state.now c.outside_step.new.state c.args.word
    (returns-else-depth-gt0-clause-step c) c.requires.known).keys
    c.requires.standing

pub returns-else-depth-gt0-clause-handed : goal.returns-else-depth-gt0-clause-handed
returns-else-depth-gt0-clause-handed c =
    read_after (running c.args.program.now) (types_with c.args.program.now.types) c.outside_step.result c.args.state.now c.outside_step.new.state c.args.word c.outside_step.new.kept
    (returns-else-depth-gt0-clause-step c)
    (subst (λ (w : Running). AreRead w.trees.types c.args.state.now.handed c.outside_step.new.kept) c.running-running.ensures.seen c.outside_step.ensures.kept)
