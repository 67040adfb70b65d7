-- The case, or else the default.
use Rattle.std.proofs.Common.{ℤ, ℕ, Option, Some, None, sym, ap, ◌∙◌}
use Rattle.std.proofs.lemmas.Int.{to_z-of_z}
use Rattle.ref_blocks.specs.Jumps.{case_of, or_default, switch_target}
use Rattle.ref_blocks.proofs.targets.switch_target.Goals as goal

pub returns-in-Some : goal.returns-in-Some
unfolding switch_target
returns-in-Some c =
    let hit = c.case_of.ensures ∙ ap (λ (z : ℤ). case_of c.args.trees.now.nodes.now c.args.s (Some z)) (to_z-of_z _ c.args.x c.ranges.x) in
    sym (ap (λ (o : Option ℕ). or_default o (case_of c.args.trees.now.nodes.now c.args.s None)) (sym hit ∙ c.in-Some.is))

pub returns-in-None : goal.returns-in-None
unfolding switch_target
returns-in-None c =
    let hit = c.case_of.ensures ∙ ap (λ (z : ℤ). case_of c.args.trees.now.nodes.now c.args.s (Some z)) (to_z-of_z _ c.args.x c.ranges.x) in
    c.case_of-in-None.ensures ∙ sym (ap (λ (o : Option ℕ). or_default o (case_of c.args.trees.now.nodes.now c.args.s None)) (sym hit ∙ c.in-None.is))
