use Rattle.core_tree.specs.Seen.{core_of}
use Rattle.core_valid.proofs.Whole.{once_from, once_to}
use Rattle.core_valid.proofs.valid.child_once.Goals as goal

pub returns : goal.returns
returns c =
    (λ t. once_from (core_of c.args.trees.now) c.requires (c.each_once_held.ensures.0 t), λ h. c.each_once_held.ensures.1 (λ k node at. once_to (core_of c.args.trees.now) h k))
