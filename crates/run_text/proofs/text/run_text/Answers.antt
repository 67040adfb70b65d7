use Rattle.std.proofs.Common.{arith, ◌≡◌, suc, ◌+◌, ◌-◌, Bool, Option, subst}
use Rattle.ref_machine.specs.Step.{step}
use Rattle.ref_machine.specs.Types.{running}
use Rattle.run_text.specs.RunText.{Adds, run_told}
use Rattle.run_text.proofs.Telling.{ended, told_start, went, went_all}
use Rattle.run_text.proofs.text.run_text.Goals as goal

pub loop-init : goal.loop-init
loop-init c =
    (c.in_ok-machine.ensures.machine, told_start c.args.program.now c.args.steps c.args.words.now c.in_ok-text.text.items c.in_ok-machine.machine.state c.in_ok-text.ensures.items c.in_ok-machine.ensures.state)

pub returns-in-Some : goal.returns-in-Some
returns-in-Some c =
    let p = c.args.program.now in
    let A : Option Bool → Type 0 = λ o. Adds p c.loop.text.items c.add_step.new.text.items c.add_step.new.machine.state (step (running p) c.loop.machine.state c.next_word-word.result.0) o in
    let left : c.args.steps - c.loop.counter ≡ suc (c.args.steps - (c.loop.counter + 1)) = omega arith in
    ended p c.args.steps c.loop.machine.state c.loop.left.now c.chooses.result c.next_word-word.result.0 c.loop.text.items (run_told p c.args.words.now c.args.steps) (c.args.steps - c.loop.counter) (c.args.steps - (c.loop.counter + 1))
    c.chooses.ensures c.next_word-word.ensures.word left c.loop.invariant.1 c.in-Some.stopped c.add_step.new.machine.state c.add_step.new.text.items (subst A c.in-Some.is c.in_ok-stopped.ensures.told)

pub loop-preserved : goal.loop-preserved
loop-preserved c =
    let p = c.args.program.now in
    let A : Option Bool → Type 0 = λ o. Adds p c.loop.text.items c.add_step.new.text.items c.add_step.new.machine.state (step (running p) c.loop.machine.state c.next_word-word.result.0) o in
    let left : c.args.steps - c.loop.counter ≡ suc (c.args.steps - (c.loop.counter + 1)) = omega arith in (
      c.in_ok-stopped.ensures.machine,
      went p c.args.steps c.loop.machine.state c.loop.left.now c.chooses.result c.next_word-word.result.0 c.loop.text.items (run_told p c.args.words.now c.args.steps) (c.args.steps - c.loop.counter) (c.args.steps - (c.loop.counter + 1))
          c.chooses.ensures c.next_word-word.ensures.word left c.loop.invariant.1 c.add_step.new.machine.state c.next_word-word.result.1.now c.add_step.new.text.items c.next_word-word.ensures.rest (subst A c.in_default.is c.in_ok-stopped.ensures.told),
    )

pub returns : goal.returns
returns c =
    let p = c.args.program.now in
    let none : c.args.steps - c.loop.counter ≡ 0 = omega arith in
    went_all p c.args.steps (c.args.steps - c.loop.counter) c.loop.machine.state c.loop.left.now c.loop.text.items c.add_went.new.text.items (run_told p c.args.words.now c.args.steps) none c.in_ok-add_went.ensures c.loop.invariant.1
