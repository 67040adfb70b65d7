use Rattle.std.proofs.Common.{Bool, false, Option, Some, None, ap, ◌∙◌}
use Rattle.c_scope.specs.declared.kinds.Declared.{Declared}
use Rattle.c_senses.specs.Names.{has_linkage}
use Rattle.c_meanings.proofs.names.is_linked.Goals as goal

pub returns-in-Some : goal.returns-in-Some
returns-in-Some c = λ uses sense. c.has_linkage.ensures ∙ ap (λ (o : Option Declared). elim o as (λ x. Bool) [ None ↦ false | Some d ↦ has_linkage d ]) (c.in-Some.ensures uses)

pub returns-in-None : goal.returns-in-None
returns-in-None c = λ uses sense. ap (λ (o : Option Declared). elim o as (λ x. Bool) [ None ↦ false | Some d ↦ has_linkage d ]) (c.in-None.ensures uses)
