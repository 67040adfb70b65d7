use Rattle.std.proofs.Common.{Option, ℕ, ap, ◌∙◌, map, set}
use Rattle.std.proofs.lemmas.List.{map-set}
use Rattle.tree_reads.specs.Held.{parent_held}
use Rattle.tree_reads.proofs.Kept.{held_below}
use Rattle.tree_reads.proofs.held.ParentList.put.Goals as goal

pub returns : goal.returns
returns c = rw (← c.self.view_is) (
    map-set parent_held c.self.inside.held.items c.args.node c.args.parent
    ∙ ap (λ (o : Option ℕ). set (map parent_held c.self.inside.held.items) c.args.node o) (held_below c.args.parent c.requires.room))
