use Rattle.obj_space.proofs.Begins.{all_begin, all_reached}
use Rattle.obj_space.specs.Spots.{HasWholes, ReachesParts}
use Rattle.std.proofs.Common.{List, sym, ◌∙◌, subst}
use Rattle.obj_space.specs.declared.location.Location.{Location}
use Rattle.obj_space.specs.Objects.{objects_of}
use Rattle.obj_space.specs.Space.{AreTyped, HasTrees, locations_in}
use Rattle.obj_space.proofs.Small.{objects_small}
use Rattle.obj_space.proofs.Placed.{all_placed}
use Rattle.obj_space.proofs.Numbered.{all_numbered}
use Rattle.obj_space.proofs.space.objects.Goals as goal

pub returns-clause-trees : goal.returns-clause-trees
unfolding locations_in
returns-clause-trees c =
    let p = c.args.program.now in
    subst (λ (ls : List Location). HasTrees p.types ls) (sym (c.in_ok-space.ensures ∙ c.in_ok-list.ensures))
    (all_placed p.types c.type_count-count.ensures.made (objects_of p) (objects_small p))

pub returns-clause-types : goal.returns-clause-types
unfolding locations_in
returns-clause-types c =
    let p = c.args.program.now in
    subst (λ (ls : List Location). AreTyped p.types ls) (sym (c.in_ok-space.ensures ∙ c.in_ok-list.ensures))
    (all_numbered p.types c.type_count-count.ensures.made c.type_count-count.ensures.named (objects_of p) (objects_small p))

pub returns-clause-parts : goal.returns-clause-parts
unfolding locations_in
returns-clause-parts c =
    let p = c.args.program.now in
    subst (λ (ls : List Location). ReachesParts p.types ls) (sym (c.in_ok-space.ensures ∙ c.in_ok-list.ensures))
    (all_reached p.types c.type_count-count.ensures.made (objects_of p))

pub returns-clause-wholes : goal.returns-clause-wholes
unfolding locations_in
returns-clause-wholes c =
    let p = c.args.program.now in
    subst (λ (ls : List Location). HasWholes p.types ls) (sym (c.in_ok-space.ensures ∙ c.in_ok-list.ensures))
    (all_begin p.types c.type_count-count.ensures.made (objects_of p))
