use Rattle.std.proofs.Common.{refl}
use Rattle.c_senses.specs.Tree.{children_at, production_at}
use Rattle.parsed_tree_laws.proofs.sense_laws.Rows.{row_sound}
use Rattle.parsed_tree_laws.proofs.sense_laws.Names.{proper_world, meanings_fit}
use Rattle.parsed_tree_laws.proofs.sense_laws.laws.every_row_sound.Goals as goal

pub returns : goal.returns
returns c = λ w entities s sense world sound ints parts fit i. row_sound w entities (proper_world w entities world) s sense sound i
    (record { objects = λ p declarator leaf t is parent rest by name type. fit.objects i declarator leaf t type; literals = λ p name t is parent over named type. fit.literals i p t }) ints parts (production_at s i)
    (children_at s i) refl refl (λ primary. meanings_fit w entities world (children_at s i))
