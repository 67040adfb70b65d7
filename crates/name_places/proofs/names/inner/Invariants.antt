use Rattle.std.proofs.Common.{◌≡◌, drop}
use Rattle.core_tree.specs.declared.node.Unit.{Unit}
use Rattle.c_senses.specs.Sense.{sense_in}
use Rattle.c_results.specs.Standing.{senses_made}
use Rattle.c_entities.specs.PassedOn.{first_declarator}
use Rattle.name_places.proofs.names.inner.Given as goal

abbrev pub invariant-loop-node : goal.invariant-loop-node
invariant-loop-node l = (u : Unit) → first_declarator (sense_in (senses_made u l.results)) (drop l.node-index l.list) ≡ first_declarator (sense_in (senses_made u l.results)) l.list
