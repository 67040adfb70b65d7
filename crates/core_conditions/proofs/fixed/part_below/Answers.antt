use Rattle.std.proofs.Common.{arith, ◌≤◌, ◌+◌, ◌↔◌, length, sym, subst}
use Rattle.std.proofs.lemmas.Option.{slice_get-get_or}
use Rattle.core_tree.specs.Seen.{core_of}
use Rattle.core_conditions.specs.declared.fixed.Part.{Part}
use Rattle.core_conditions.specs.Fixed.{PartSays, part_rank}
use Rattle.core_conditions.proofs.Steps.{place_iff, pointer_iff}
use Rattle.core_conditions.proofs.fixed.part_below.Goals as goal

pub returns-in-Place-clause-says : goal.returns-in-Place-clause-says
returns-in-Place-clause-says c =
    let u = core_of c.args.trees.now in
    let nodes = c.args.trees.now.nodes.now in
    let within : c.in-Place.p + 1 ≤ length nodes = subst (λ (part : Part). part_rank part ≤ length nodes) c.in-Place.is c.requires.part in
    let k = place_iff u c.in-Place.p _ (slice_get-get_or nodes c.in-Place.p c.index-trees-p.result (omega arith)) (PartSays u c.place_step.result) c.place_step.ensures.says in
    subst (λ (part : Part). PartSays u c.place_step.result ↔ PartSays u part) (sym c.in-Place.is) k

pub returns-in-Pointer-clause-says : goal.returns-in-Pointer-clause-says
returns-in-Pointer-clause-says c =
    let u = core_of c.args.trees.now in
    let nodes = c.args.trees.now.nodes.now in
    let within : c.in-Pointer.v + 1 ≤ length nodes = subst (λ (part : Part). part_rank part ≤ length nodes) c.in-Pointer.is c.requires.part in
    let k = pointer_iff u c.in-Pointer.v _ (slice_get-get_or nodes c.in-Pointer.v c.index-trees-v.result (omega arith)) (PartSays u c.pointer_step.result) c.pointer_step.ensures.says in
    subst (λ (part : Part). PartSays u c.pointer_step.result ↔ PartSays u part) (sym c.in-Pointer.is) k
