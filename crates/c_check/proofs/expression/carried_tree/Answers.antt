use Rattle.std.proofs.Common.{◌≡◌, ◌∙◌, ◌<◌, ◌++◌, ℕ, Option, Some, None, List, All, map, refl, length, sym, ap, subst}
use Rattle.std.specs.Prelude.{IfSome, MatchOption, slice_index}
use Rattle.c_types.specs.Table.{members_in}
use Rattle.c_inits.specs.Made.{Part}
use Rattle.core_tree.specs.declared.node.Entity.{Entity}
use Rattle.core_tree.specs.declared.node.Node.{Node}
use Rattle.core_tree.specs.declared.node.Unit.{Unit}
use Rattle.core_nodes.specs.Standing.{core_at, parts_in}
use Rattle.core_nodes.specs.kept_nodes.Keeps.{AllUnder}
use Rattle.tree_reads.specs.leaf_maps.Numbers.{number_at}
use Rattle.c_results.specs.Standing.{senses_made}
use Rattle.unit_walk.specs.Ground.{source_ground}
use Rattle.carried_trees.specs.carried_types.Terms.{AreTagIds, tag_type}
use Rattle.carried_trees.specs.declared.carrying.WholeTree.{WholeTree}
use Rattle.carried_trees.specs.Extends.{IsMissing, IsWhole}
use Rattle.carried_trees.proofs.Extending.{extends_on}
use Rattle.c_check.specs.literal_entities.Entities.{literal_entity}
use Rattle.c_check.specs.Expressed.{AreOwn, IsUnknown, members_behind}
use Rattle.c_check.specs.Reached.{Reaches, IsReached}
use Rattle.c_check.specs.Told.{NoneUnknown}
use Rattle.c_check.proofs.Answering.{tags_tagged, members_there, carried_there, unknown_there}
use Rattle.c_check.proofs.Growing.{extends_grows, grows_on, all_under_kept, whole_kept, nodes_there}
use Rattle.c_check.proofs.expression.carried_tree.Goals as goal

pub own_names-requires-clause-bound : goal.own_names-requires-clause-bound
unfolding IsReached
own_names-requires-clause-bound c = let r : Reaches c.args.walked.now c.args.bound.now c.args.node = c.requires.reached in r.bound_are

pub own_names-requires-clause-node : goal.own_names-requires-clause-node
unfolding IsReached
own_names-requires-clause-node c = let r : Reaches c.args.walked.now c.args.bound.now c.args.node = c.requires.reached in r.inside

pub own_names-requires-clause-first : goal.own_names-requires-clause-first
unfolding IsReached
own_names-requires-clause-first c = let r : Reaches c.args.walked.now c.args.bound.now c.args.node = c.requires.reached in r.ground.ordered

pub carry_whole-requires-clause-walked : goal.carry_whole-requires-clause-walked
unfolding IsReached
carry_whole-requires-clause-walked c = let r : Reaches c.args.walked.now c.args.bound.now c.args.node = c.requires.reached in r.stand.ready

pub push_entities-requires-clause-first : goal.push_entities-requires-clause-first
unfolding IsReached
push_entities-requires-clause-first c = let r : Reaches c.args.walked.now c.args.bound.now c.args.node = c.requires.reached in r.ground.ordered

pub carry_whole-requires-clause-tags : goal.carry_whole-requires-clause-tags
carry_whole-requires-clause-tags c = subst (λ (l : List (Option ℕ)). AreTagIds l c.own_names.new.unit.types) (sym c.as_slice.ensures.value) c.in_ok-own.ensures.within

pub carry_whole-requires-clause-tagged : goal.carry_whole-requires-clause-tagged
unfolding IsReached
carry_whole-requires-clause-tagged c =
    let r : Reaches c.args.walked.now c.args.bound.now c.args.node = c.requires.reached in
    let n = c.args.walked.now.ground.numbered in
    let s = source_ground c.args.walked.now.ground c.args.bound.now in
    let first = slice_index n.tags.firsts.items in
    let list = c.args.list.now in
    let old = c.args.unit.now.types in
    let mid = c.own_names.new.unit.types in
    let names = c.in_ok-own.ensures.own c.args.walked.now.unit list c.in_ok-given.ensures.given in
    let pairs = names.pairs in
    let own : AreOwn s first c.args.node list n.tags.count old mid c.as_slice.result.now pairs = subst (λ (l : List (Option ℕ)). AreOwn s first c.args.node list n.tags.count old mid l pairs) (sym c.as_slice.ensures.value) names.own in
    tags_tagged s first c.args.node list old mid c.own_names.ensures.extends.types n.tags.count r.ground.tags.count c.as_slice.result.now pairs own

pub push_entities-requires-clause-nodes : goal.push_entities-requires-clause-nodes
push_entities-requires-clause-nodes c =
    let w = c.args.walked.now in
    let mid = c.own_names.new.unit in
    let full = c.carry_whole.new.unit in
    let ids = c.as_slice.result.now in
    let entity = number_at c.in_ok-given.given.entities in
    let tag = tag_type mid.types ids in
    let core = core_at w.unit c.args.top in
    let members : ℕ → Option (List Part) = λ k. parts_in w.unit.types (members_in w.unit.types k) in
    let whole = c.in_ok-found.ensures.answer members (λ k. refl) in
    let there =
    subst (λ (o : Option WholeTree). MatchOption o (IsMissing entity tag members core mid) (λ (t : WholeTree). IsWhole entity tag members core mid full t.node t.literals.items)) c.in-Some.is whole in
    let all = nodes_there core (length mid.nodes.items) (length mid.entities.items) full c.in-Some.tree.literals.items there.tree.literals in
    subst (λ (l : List Node). All (λ (x : ℕ × ℕ). x.1 < length l) c.as_slice-3.result.now) (sym c.as_slice-2.ensures.value)
    (subst (λ (l : List (ℕ × ℕ)). All (λ (x : ℕ × ℕ). x.1 < length full.nodes.items) l) (sym c.as_slice-3.ensures.value) all)

pub returns-in_err-found-clause-grows : goal.returns-in_err-found-clause-grows
returns-in_err-found-clause-grows c =
    extends_grows c.args.unit.now c.carry_whole.new.unit (extends_on c.args.unit.now c.own_names.new.unit c.carry_whole.new.unit c.own_names.ensures.extends c.carry_whole.ensures.extends)

pub returns-in_err-push_entities-clause-grows : goal.returns-in_err-push_entities-clause-grows
returns-in_err-push_entities-clause-grows c =
    let full = c.carry_whole.new.unit in
    let new : Unit = record full { entities = c.push_entities.new.entities } in
    grows_on full new refl refl c.args.unit.now (extends_on c.args.unit.now c.own_names.new.unit full c.own_names.ensures.extends c.carry_whole.ensures.extends) c.push_entities.ensures.kept

pub returns-clause-grows : goal.returns-clause-grows
returns-clause-grows c =
    let full = c.carry_whole.new.unit in
    let new : Unit = record full { entities = c.push_entities.new.entities } in
    grows_on full new refl refl c.args.unit.now (extends_on c.args.unit.now c.own_names.new.unit full c.own_names.ensures.extends c.carry_whole.ensures.extends) c.push_entities.ensures.kept

pub returns-clause-only : goal.returns-clause-only
returns-clause-only c =
    let mid = c.own_names.new.unit in
    let full = c.carry_whole.new.unit in
    let new : Unit = record full { entities = c.push_entities.new.entities } in
    let there = subst (λ (o : Option WholeTree). IfSome o (λ (t : WholeTree). AllUnder full (length mid.nodes.items) t.node)) c.in-Some.is c.in_ok-found.ensures.only in
    all_under_kept full new refl refl (length c.args.unit.now.nodes.items) c.in-Some.tree.node (subst (λ (n : ℕ). AllUnder full n c.in-Some.tree.node) (ap length c.own_names.ensures.nodes) there)

pub returns-clause-answer : goal.returns-clause-answer
unfolding IsReached
returns-clause-answer c =
    let r : Reaches c.args.walked.now c.args.bound.now c.args.node = c.requires.reached in
    let w = c.args.walked.now in
    let n = w.ground.numbered in
    let s = source_ground w.ground c.args.bound.now in
    let first = slice_index n.tags.firsts.items in
    let list = c.args.list.now in
    let old = c.args.unit.now in
    let mid = c.own_names.new.unit in
    let full = c.carry_whole.new.unit in
    let new : Unit = record full { entities = c.push_entities.new.entities } in
    let ids = c.as_slice.result.now in
    let given = c.in_ok-given.ensures.given in
    let names = c.in_ok-own.ensures.own w.unit list given in
    let pairs = names.pairs in
    let own : AreOwn s first c.args.node list n.tags.count old.types mid.types ids pairs = subst (λ (l : List (Option ℕ)). AreOwn s first c.args.node list n.tags.count old.types mid.types l pairs) (sym c.as_slice.ensures.value) names.own in
    let entity = number_at c.in_ok-given.given.entities in
    let tag = tag_type mid.types ids in
    let core = core_at w.unit c.args.top in
    let members = members_behind s (senses_made w.unit w.results) in
    let node = c.in-Some.tree.node in
    let literals = c.in-Some.tree.literals.items in
    let whole = c.in_ok-found.ensures.answer members (members_there s c.args.node w.unit w.results r.walked) in
    let there =
    subst (λ (o : Option WholeTree). MatchOption o (IsMissing entity tag members core mid) (λ (t : WholeTree). IsWhole entity tag members core mid full t.node t.literals.items)) c.in-Some.is whole in
    let here = whole_kept full new refl refl entity tag members core mid node literals there in
    let f : List Node → ℕ × ℕ → Entity = literal_entity s (senses_made w.unit w.results) c.args.owner in
    let pushed = c.in_ok-push_entities.ensures.added w.unit c.args.bound.now.uses.items in
    let gained : new.entities.items ≡ mid.entities.items ++ map (f new.nodes.items) literals =
    pushed
    ∙ (ap (λ (l : List Node). full.entities.items ++ map (f l) c.as_slice-3.result.now) c.as_slice-2.ensures.value
    ∙ (ap (λ (l : List (ℕ × ℕ)). full.entities.items ++ map (f full.nodes.items) l) c.as_slice-3.ensures.value ∙ ap (λ (l : List Entity). l ++ map (f full.nodes.items) literals) c.carry_whole.ensures.extends.entities)) in
    carried_there s c.args.node w.unit w.results r.walked c.args.top c.requires.core n.tags r.ground.tags list old mid c.own_names.ensures.extends c.own_names.ensures.parts ids pairs own c.in_ok-given.given.entities given.entities new node literals c.args.owner
    c.in_ok-own.own.pairs.items c.own_names.ensures.nodes names.all_are names.numbers c.carry_whole.ensures.tags gained here

none_of : {X : Type 0} (o : Option X) → ((x : X) → o ≡ Some x → ⊥) → o ≡ None
none_of None h = refl
none_of (Some x) h = absurd (h x refl)

pub unreachable-requires : goal.unreachable-requires
unfolding IsReached NoneUnknown
unreachable-requires c =
    let r : Reaches c.args.walked.now c.args.bound.now c.args.node = c.requires.reached in
    let w = c.args.walked.now in
    let n = w.ground.numbered in
    let s = source_ground w.ground c.args.bound.now in
    let first = slice_index n.tags.firsts.items in
    let list = c.args.list.now in
    let old = c.args.unit.now in
    let mid = c.own_names.new.unit in
    let full = c.carry_whole.new.unit in
    let ids = c.as_slice.result.now in
    let given = c.in_ok-given.ensures.given in
    let names = c.in_ok-own.ensures.own w.unit list given in
    let pairs = names.pairs in
    let own : AreOwn s first c.args.node list n.tags.count old.types mid.types ids pairs = subst (λ (l : List (Option ℕ)). AreOwn s first c.args.node list n.tags.count old.types mid.types l pairs) (sym c.as_slice.ensures.value) names.own in
    let entity = number_at c.in_ok-given.given.entities in
    let tag = tag_type mid.types ids in
    let core = core_at w.unit c.args.top in
    let members = members_behind s (senses_made w.unit w.results) in
    let whole = c.in_ok-found.ensures.answer members (members_there s c.args.node w.unit w.results r.walked) in
    let there =
    subst (λ (o : Option WholeTree). MatchOption o (IsMissing entity tag members core mid) (λ (t : WholeTree). IsWhole entity tag members core mid full t.node t.literals.items)) (none_of c.in_ok-found.found (λ x e. c.in_default.not-Some x e)) whole in
    let unknown : IsUnknown s c.args.node list old =
    unknown_there s c.args.node w.unit w.results r.walked c.args.top c.requires.core n.tags r.ground.tags list old mid c.own_names.ensures.extends c.own_names.ensures.parts ids pairs own c.in_ok-given.given.entities given.entities there in
    c.requires.told unknown
