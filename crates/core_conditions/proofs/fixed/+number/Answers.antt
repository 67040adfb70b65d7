use Rattle.std.proofs.Common.{arith, ℕ, IsTrue}
use Rattle.std.proofs.lemmas.Option.{slice_get-get_or}
use Rattle.std.proofs.lemmas.List.Elements.{All-take, All-drop}
use Rattle.core_tree.specs.Seen.{core_of}
use Rattle.core_tree.specs.Valid.{FixedNumber}
use Rattle.core_conditions.proofs.Steps.{number_iff}
use Rattle.core_conditions.proofs.fixed.+number.Goals as goal

pub fixed_number-returns-in-Told : goal.fixed_number-returns-in-Told
fixed_number-returns-in-Told t c =
    let same = c.down.invariant.same in
    let k = number_iff (core_of c.args.trees.now) c.down.at _ (slice_get-get_or c.args.trees.now.nodes.now c.down.at c.index-trees-at.result (omega arith)) (IsTrue c.in-Told.told) c.in-Told.ensures.says in
    (λ h. same.0 (k.0 h), λ h. k.1 (same.1 h))

pub fixed_number-down-preserved : goal.fixed_number-down-preserved
fixed_number-down-preserved t c =
    let same = c.down.invariant.same in
    let k = number_iff (core_of c.args.trees.now) c.down.at _ (slice_get-get_or c.args.trees.now.nodes.now c.down.at c.index-trees-at.result (omega arith)) (FixedNumber (core_of c.args.trees.now) c.in-Below.below) c.in-Below.ensures.says in
    record {
      within = omega (arith, c.in-Below.ensures.before);
      same = (λ h. same.0 (k.0 h), λ h. k.1 (same.1 h));
    }

pub operands-returns-else-fixed_numbers-clause-says : goal.operands-returns-else-fixed_numbers-clause-says
operands-returns-else-fixed_numbers-clause-says t c =
    let P : ℕ → Type 0 = λ n. FixedNumber (core_of c.args.trees.now) n in (
      λ h. absurd (let never : ⊥ = cc in never),
      λ h. c.if-fixed_numbers.ensures.1 (All-take P _ _ (All-drop P 1 c.args.children.now h)),
    )
