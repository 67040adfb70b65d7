use Rattle.std.proofs.Common.{Bool, List, Option, ℕ, sym, subst}
use Rattle.unit_walk.specs.Ground.{source_ground}
use Rattle.carried_trees.specs.carried_types.Told.{AreMarks}
use Rattle.c_check.specs.Reached.{Reaches, IsReached}
use Rattle.c_check.specs.Told.{AreMarked}
use Rattle.c_check.proofs.ToldTrees.{no_core, told_answer}
use Rattle.c_check.proofs.telling.tells.Goals as goal

pub returns-in_default-clause-told : goal.returns-in_default-clause-told
unfolding IsReached
returns-in_default-clause-told c =
    let w = c.args.walked.now in
    let r : Reaches w c.args.bound.now c.args.node = c.requires.reached in
    no_core (source_ground w.ground c.args.bound.now) c.args.node w.unit w.results r.walked c.args.list.now c.args.unit.now (c.in_default.ensures.seen w.unit)

pub marked_tags-requires-clause-bound : goal.marked_tags-requires-clause-bound
unfolding IsReached
marked_tags-requires-clause-bound c = let r : Reaches c.args.walked.now c.args.bound.now c.args.node = c.requires.reached in r.bound_are

pub marked_tags-requires-clause-tags : goal.marked_tags-requires-clause-tags
unfolding IsReached
marked_tags-requires-clause-tags c = let r : Reaches c.args.walked.now c.args.bound.now c.args.node = c.requires.reached in r.ground.tags

pub marked_tags-requires-clause-node : goal.marked_tags-requires-clause-node
unfolding IsReached
marked_tags-requires-clause-node c = let r : Reaches c.args.walked.now c.args.bound.now c.args.node = c.requires.reached in r.inside

pub marked_tags-requires-clause-first : goal.marked_tags-requires-clause-first
unfolding IsReached
marked_tags-requires-clause-first c = let r : Reaches c.args.walked.now c.args.bound.now c.args.node = c.requires.reached in r.ground.ordered

pub is_tree_told-requires-clause-walked : goal.is_tree_told-requires-clause-walked
unfolding IsReached
is_tree_told-requires-clause-walked c = let r : Reaches c.args.walked.now c.args.bound.now c.args.node = c.requires.reached in r.stand.ready

pub is_tree_told-requires-clause-top : goal.is_tree_told-requires-clause-top
unfolding IsReached
is_tree_told-requires-clause-top c = let r : Reaches c.args.walked.now c.args.bound.now c.args.node = c.requires.reached in c.in-Some.ensures.within c.args.walked.now.unit r.stand.within

pub is_tree_told-requires-clause-marks : goal.is_tree_told-requires-clause-marks
is_tree_told-requires-clause-marks c = subst AreMarks (sym c.as_slice.ensures.value) c.in_ok-tags.ensures.marks

pub returns-clause-told : goal.returns-clause-told
unfolding IsReached
returns-clause-told c =
    let w = c.args.walked.now in
    let s = source_ground w.ground c.args.bound.now in
    let list = c.args.list.now in
    let old = c.args.unit.now in
    let tags = c.in_ok-tags.tags in
    let given = c.in_ok-given.ensures.given in
    let r : Reaches w c.args.bound.now c.args.node = c.requires.reached in
    let marked : AreMarked s c.args.node list old tags.marks.items tags.incomplete.items = c.in_ok-tags.ensures.marked list given in
    let there : AreMarked s c.args.node list old c.as_slice.result.now c.as_slice-2.result.now =
    subst (λ (l : List (Option ℕ)). AreMarked s c.args.node list old l c.as_slice-2.result.now) (sym c.as_slice.ensures.value)
    (subst (λ (l : List Bool). AreMarked s c.args.node list old tags.marks.items l) (sym c.as_slice-2.ensures.value) marked) in
    told_answer s c.args.node w.unit w.results r.walked list old c.in-Some.top (c.in-Some.ensures.seen w.unit) c.as_slice.result.now c.as_slice-2.result.now there c.in_ok-given.given.entities given.entities c.is_tree_told.result c.is_tree_told.ensures.told
