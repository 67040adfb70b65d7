use Rattle.std.proofs.Common.{◌∙◌, ◌++◌, ◌∷◌, [], ap}
use Rattle.c_types.specs.declared.term.PathStep.TheVariants.{Index}
use Rattle.c_inits.proofs.Puts.{next_character}
use Rattle.c_inits.proofs.filling.put_characters.Goals as goal

pub loop-k-preserved : goal.loop-k-preserved
loop-k-preserved c =
    next_character c.args.actions.now.items c.loop-k.actions.items c.push_action.new.actions.items c.args.path.now c.args.node c.loop-k.k c.push_step.new.path c.loop-k.invariant c.in_ok-push_action.ensures
    (c.in_ok-push_step.ensures ∙ ap (λ l. l ++ Index c.loop-k.k ∷ []) c.in_ok-element.ensures)
