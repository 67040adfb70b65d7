use Rattle.std.proofs.Common.{List, refl, subst}
use Rattle.core_tree.specs.declared.node.Node.{Node}
use Rattle.unit_finish.specs.own_bodies.Own.{HaveOwnBodies}
use Rattle.unit_walk.specs.Ground.{source_ground, nodes_ground}
use Rattle.c_lower.proofs.unit_lowering.Ending.{all_named, walked_so, tag_types_so, parts_so, with_tags}
use Rattle.c_lower.proofs.unit_lowering.lowering.completed.Goals as goal

pub declared_names-requires-clause-named : goal.declared_names-requires-clause-named
declared_names-requires-clause-named c =
    let n = nodes_ground c.args.walked.ground in
    all_named n c.args.walked.unit c.args.walked.results c.requires.stand.kept

pub declared_names-requires-clause-names : goal.declared_names-requires-clause-names
declared_names-requires-clause-names c = c.requires.ground.names c.args.walked.results

pub finished-requires-clause-names : goal.finished-requires-clause-names
finished-requires-clause-names c = c.requires.ground.names c.args.walked.results

pub finished-requires-clause-named : goal.finished-requires-clause-named
finished-requires-clause-named c =
    let n = nodes_ground c.args.walked.ground in
    all_named n c.args.walked.unit c.args.walked.results c.requires.stand.kept

pub finished-requires-clause-completes : goal.finished-requires-clause-completes
finished-requires-clause-completes c =
    let g = c.args.walked.ground in
    let s = source_ground g c.args.bound.now in
    let u = c.args.walked.unit in
    let uses = c.args.bound.now.uses.items in
    let listed = c.in_ok-list.ensures in
    let own = subst (λ (l : List Node). HaveOwnBodies l c.in_ok-list.list.items c.in_ok-list-2.list.items) c.as_slice.ensures.value c.in_ok-list-2.ensures.own in (
      u,
      uses,
      c.requires.completes
          (parts_so s u c.declared_names.new.unit c.args.walked.results g.numbered.tags c.in-Ok.keys.items c.in_ok-list.list.items c.in_ok-list-2.list.items c.requires.walked c.requires.ground.tags listed.builds listed.ready (c.in-Ok.ensures.right u) c.in-Ok.ensures.count (listed.names uses) own c.requires.initials c.in_ok-kept.kept c.requires.types c.type_count-count.ensures.made c.type_count-count.ensures.named c.in_ok-kept.ensures.kept),
    )

pub returns : goal.returns
returns c =
    let g = c.args.walked.ground in
    let s = source_ground g c.args.bound.now in
    let u = c.args.walked.unit in
    let rs = c.args.walked.results in
    let new = c.declared_names.new.unit in
    let uses = c.args.bound.now.uses.items in
    let listed = c.in_ok-list.ensures in
    let own = subst (λ (l : List Node). HaveOwnBodies l c.in_ok-list.list.items c.in_ok-list-2.list.items) c.as_slice.ensures.value c.in_ok-list-2.ensures.own in
    let walked = walked_so s u new rs g.numbered.tags c.in-Ok.keys.items c.in_ok-list.list.items c.in_ok-list-2.list.items c.requires.walked c.requires.ground.tags listed.builds listed.ready (c.in-Ok.ensures.right u) c.in-Ok.ensures.count (listed.names uses) own c.requires.initials in
    let types = tag_types_so s u new rs g.numbered.tags c.in-Ok.keys.items c.in_ok-list.list.items c.in_ok-list-2.list.items c.requires.walked c.requires.ground.tags listed.builds listed.ready (c.in-Ok.ensures.right u) c.in-Ok.ensures.count (listed.names uses) own c.requires.initials c.requires.types in
    with_tags s c.args.name new.types types c.type_count-count.ensures.made c.type_count-count.ensures.named (listed.builds.once c.requires.once) c.finished.result
    (c.finished.ensures.right u new uses c.in_ok-list-2.list.items listed.ready refl refl walked c.in_ok-kept.ensures.kept) c.finished.ensures.types
