use Rattle.std.proofs.Common.{◌<◌, List, All, subst, ◌∙◌}
use Rattle.c_scope.specs.declared.kinds.Declared.{Declared}
use Rattle.c_senses.specs.Names.{names_of}
use Rattle.name_chains.specs.symbol_lists.Lists.{AreOf}
use Rattle.c_meanings.specs.Known.{nodes_in}
use Rattle.name_uses.proofs.name_sayings.opening.lists_of_unit.Goals as goal

pub returns-in-Ok-clause-lists : goal.returns-in-Ok-clause-lists
unfolding names_of
returns-in-Ok-clause-lists c =
    let n = nodes_in c.args.syntax.now in
    record {
      those = subst (λ (ds : List Declared). AreOf ds c.in-Ok.lists) (c.as_slice.ensures.value ∙ c.requires.bound.names) c.in-Ok.ensures;
      nodes = subst (λ (ds : List Declared). All (λ d. d.node < n) ds) c.requires.bound.names c.requires.leaves.names;
    }
