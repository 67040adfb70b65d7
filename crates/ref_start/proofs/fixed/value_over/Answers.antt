use Rattle.std.proofs.Common.{arith, ◌≡◌, inl, inr, [], Result, Ok, IfOk, subst}
use Rattle.std.proofs.lemmas.Option.{slice_get_cases}
use Rattle.core_tree.specs.Seen.{core_of}
use Rattle.ref_cells.specs.declared.cells.Reason.{Reason}
use Rattle.ref_elements.specs.Outcomes.{Effected}
use Rattle.ref_values.specs.Values.{computed}
use Rattle.ref_start.proofs.MemoryKept.{computed_leaves}
use Rattle.ref_start.proofs.fixed.value_over.Goals as goal

pub returns-in-Ok-clause-memory : goal.returns-in-Ok-clause-memory
returns-in-Ok-clause-memory c =
    let u = core_of c.args.trees.now in
    let memory = c.args.memory.now in
    let n = c.args.n in
    let values = c.args.values.now in
    elim (slice_get_cases u.nodes n).1 [
      | inl there ↦
          let node = there.0 in
          let given : computed u memory [] n node values 0 ≡ Ok (record { memory = c.computed.new.memory; outcome = c.in-Ok.outcome }) =
          c.in-Ok.ensures.value node there.2 in
          let L : Result Effected Reason → Type 0 = λ r. IfOk r (λ e. e.memory ≡ memory) in
          subst L given (computed_leaves u memory n node values 0 (c.requires.keeps node there.2))
      | inr past ↦ absurd (omega (arith, c.requires.node, past.0))
    ]
