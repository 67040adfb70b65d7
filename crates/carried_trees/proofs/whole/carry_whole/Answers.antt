use Rattle.std.proofs.Common.{◌≡◌, ◌∙◌, ℕ, Option, IfOk, inr, length, sym, subst}
use Rattle.std.specs.Prelude.{MatchOption}
use Rattle.c_consts.specs.Core.{Core}
use Rattle.c_types.specs.Trees.{Ctype}
use Rattle.tree_reads.specs.leaf_maps.Numbers.{number_at}
use Rattle.core_nodes.specs.Standing.{core_at}
use Rattle.carried_trees.specs.carried_types.Terms.{tag_type}
use Rattle.carried_trees.specs.carried_types.Members.{AreTagged}
use Rattle.carried_trees.proofs.carried_types.Adding.{types_same}
use Rattle.carried_trees.specs.declared.carrying.WholeTree.{WholeTree}
use Rattle.carried_trees.specs.Extends.{AreFilled, LacksPart, IsMissing, IsWhole}
use Rattle.carried_trees.proofs.Extending.{extends_on, builds_extends, tags_grown, filled_between, lacks_first, whole_answer}
use Rattle.carried_trees.proofs.whole.carry_whole.Goals as goal

pub returns-in_err-types-clause-extends : goal.returns-in_err-types-clause-extends
returns-in_err-types-clause-extends c = builds_extends c.args.unit.now c.add_types.new.unit c.add_types.ensures.builds

pub complete_in-requires-clause-tagged : goal.complete_in-requires-clause-tagged
complete_in-requires-clause-tagged c =
    subst AreTagged (sym (tags_grown c.args.unit.now.types c.add_types.new.unit.types c.args.tags.now c.requires.tags c.add_types.ensures.builds.types)) c.requires.tagged

pub returns-in_err-complete_in-clause-extends : goal.returns-in_err-complete_in-clause-extends
returns-in_err-complete_in-clause-extends c =
    extends_on c.args.unit.now c.add_types.new.unit c.complete_in.new.unit (builds_extends c.args.unit.now c.add_types.new.unit c.add_types.ensures.builds) c.complete_in.ensures.extends

pub returns-then-not-branch-clause-extends : goal.returns-then-not-branch-clause-extends
returns-then-not-branch-clause-extends c =
    extends_on c.args.unit.now c.add_types.new.unit c.complete_in.new.unit (builds_extends c.args.unit.now c.add_types.new.unit c.add_types.ensures.builds) c.complete_in.ensures.extends

pub returns-then-not-branch-clause-answer : goal.returns-then-not-branch-clause-answer
returns-then-not-branch-clause-answer c = λ members are.
    let old = c.args.unit.now in
    let mid = c.add_types.new.unit in
    let same = tags_grown old.types mid.types c.args.tags.now c.requires.tags c.add_types.ensures.builds.types in
    let there = λ (k : ℕ). are k ∙ sym (c.keep_under.ensures.keeps.parts k) in
    let lacks = c.in_ok-complete_in.ensures.lacks members there c.if-not-branch.true in
    inr (lacks_first (tag_type old.types c.args.tags.now) members old mid c.add_types.ensures.builds.parts (subst (λ (f : ℕ → Option Ctype). LacksPart f members mid) same lacks))

pub carry-requires-clause-types : goal.carry-requires-clause-types
carry-requires-clause-types c =
    let tag = tag_type c.args.unit.now.types c.args.tags.now in (
      tag,
      types_same tag c.keep_under.new.unit.types c.add_types.new.unit.types c.complete_in.new.unit.types (length c.keep_under.new.unit.types.terms) c.in_ok-types.types.ids.items c.in_ok-types.types.given.items c.complete_in.ensures.terms c.in_ok-types.ensures.types,
    )

pub returns-clause-extends : goal.returns-clause-extends
returns-clause-extends c =
    let old = c.args.unit.now in
    let mid = c.add_types.new.unit in
    let filled = c.complete_in.new.unit in
    extends_on old filled c.carry.new.unit (extends_on old mid filled (builds_extends old mid c.add_types.ensures.builds) c.complete_in.ensures.extends) (builds_extends filled c.carry.new.unit c.carry.ensures.builds)

pub returns-clause-answer : goal.returns-clause-answer
returns-clause-answer c = λ members are.
    let old = c.args.unit.now in
    let mid = c.add_types.new.unit in
    let full = c.complete_in.new.unit in
    let new = c.carry.new.unit in
    let tag = tag_type old.types c.args.tags.now in
    let same = tags_grown old.types mid.types c.args.tags.now c.requires.tags c.add_types.ensures.builds.types in
    let types = types_same tag c.keep_under.new.unit.types mid.types full.types (length c.keep_under.new.unit.types.terms) c.in_ok-types.types.ids.items c.in_ok-types.types.given.items c.complete_in.ensures.terms c.in_ok-types.ensures.types in
    let there = λ (k : ℕ). are k ∙ sym (c.keep_under.ensures.keeps.parts k) in
    let filled : AreFilled tag members mid full = subst (λ (f : ℕ → Option Ctype). AreFilled f members mid full) same (c.in_ok-complete_in.ensures.filled members there c.if-not-branch.false) in
    let entity = number_at c.args.entities.now in
    let core : core_at c.keep_under.new.unit c.in_ok-node.node ≡ core_at c.args.walked.now c.args.top = c.in_ok-node.ensures.tree in
    let nodes : full.nodes.items ≡ old.nodes.items = c.complete_in.ensures.nodes ∙ c.add_types.ensures.nodes in
    let entities : full.entities.items ≡ old.entities.items = c.complete_in.ensures.extends.entities ∙ c.add_types.ensures.builds.entities in
    subst (λ (t : Core). IfOk c.carry.result (λ (found : Option WholeTree). MatchOption found (IsMissing entity tag members t old) (λ (w : WholeTree). IsWhole entity tag members t old new w.node w.literals.items))) core
    (whole_answer entity tag members (core_at c.keep_under.new.unit c.in_ok-node.node) old full new c.carry.result
    (filled_between tag members old mid full new c.add_types.ensures.builds.parts filled c.carry.ensures.builds.parts) nodes entities (c.carry.ensures.tree tag types))
