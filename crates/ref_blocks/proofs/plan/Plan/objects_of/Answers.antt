-- What is read is the list of the block.
use Rattle.std.proofs.Common.{ℕ, List, [], get_or, sym, ap, ◌∙◌}
use Rattle.core_tree.specs.Seen.{core_of}
use Rattle.ref_blocks.specs.Around.{objects_of}
use Rattle.ref_blocks.proofs.Objects.{read_own, read_part}
use Rattle.ref_blocks.proofs.plan.Plan.objects_of.Goals as goal

pub returns-in-Own : goal.returns-in-Own
returns-in-Own c = c.list_at.ensures ∙ ap (λ (w : List (List ℕ)). get_or w c.in-Own.n []) c.as_slice.ensures.value
    ∙ read_own (core_of c.args.trees.now) c.in-Own.n c.args.self.now.own.items c.requires.own ∙ ap (objects_of (core_of c.args.trees.now)) (sym c.in-Own.is)

pub returns-in-Part : goal.returns-in-Part
returns-in-Part c = c.list_at-in-Part.ensures ∙ ap (λ (w : List (List ℕ)). get_or w c.in-Part.n []) c.as_slice-in-Part.ensures.value
    ∙ read_part (core_of c.args.trees.now) c.in-Part.n c.args.self.now.parts.items c.requires.parts ∙ ap (objects_of (core_of c.args.trees.now)) (sym c.in-Part.is)
