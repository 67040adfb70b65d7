use Rattle.std.proofs.Common.{◌≡◌, ◌∙◌, ℕ, Bool, false, List, length, get_or, inl, inr, None, sym, ap, subst}
use Rattle.std.specs.Option.{is_some}
use Rattle.c_consts.specs.Core.{Core}
use Rattle.core_nodes.specs.Standing.{core_at}
use Rattle.tree_reads.specs.leaf_maps.Numbers.{number_at}
use Rattle.carried_trees.specs.carried_types.Terms.{tag_type}
use Rattle.carried_trees.specs.carried_types.Told.{IsPartUntold}
use Rattle.carried_trees.specs.Carried.{is_given_core}
use Rattle.carried_trees.specs.Literals.{has_literal}
use Rattle.carried_trees.specs.Told.{marked, LacksMark}
use Rattle.carried_trees.proofs.carried_types.Flagging.{when_true, when_false}
use Rattle.carried_trees.proofs.Telling.{marks_within, mark_here, core_same, part_untold, untold_part, lacking_there, found_given, not_given, both_ways}
use Rattle.carried_trees.proofs.told.told_in.Goals as goal

pub add_types-requires-clause-tags : goal.add_types-requires-clause-tags
add_types-requires-clause-tags c = marks_within c.args.scratch.now.types c.args.marks.now c.requires.one c.requires.marks

pub are_parts_told-requires : goal.are_parts_told-requires
are_parts_told-requires c = let types = c.in_ok-types.ensures.types in record { given = ap length c.as_slice.ensures.value ∙ types.flags }

pub carry-requires-clause-types : goal.carry-requires-clause-types
carry-requires-clause-types c = (tag_type c.args.scratch.now.types c.args.marks.now, c.in_ok-types.ensures.types)

pub returns-then-not-are_parts_told-clause-told : goal.returns-then-not-are_parts_told-clause-told
returns-then-not-are_parts_told-clause-told c =
    let kept = c.keep_under.new.unit in
    let walked = c.args.walked.now in
    let scratch = c.args.scratch.now in
    let marks = c.args.marks.now in
    let incomplete = c.args.incomplete.now in
    let carried = c.in_ok-types.types in
    let part : IsPartUntold kept.types c.as_slice.result.now incomplete kept.types.tags = when_false c.are_parts_told.result (IsPartUntold kept.types c.as_slice.result.now incomplete kept.types.tags) c.if-not-are_parts_told.true c.are_parts_told.ensures in
    let there : IsPartUntold kept.types carried.given.items incomplete kept.types.tags = subst (λ (l : List Bool). IsPartUntold kept.types l incomplete kept.types.tags) c.as_slice.ensures.value part in
    let lacks : LacksMark marks incomplete kept.types =
    part_untold kept.types c.type_count-count.ensures.made c.type_count-count.ensures.named (tag_type scratch.types marks) c.add_types.new.unit.types carried.ids.items carried.given.items incomplete c.in_ok-types.ensures.types
    marks (λ k. mark_here scratch.types (get_or marks k None)) there in
    inr (lacking_there marks incomplete kept.types walked.types c.keep_under.ensures.keeps.parts lacks)

pub returns-in-Some-clause-told : goal.returns-in-Some-clause-told
returns-in-Some-clause-told c =
    let kept = c.keep_under.new.unit in
    let walked = c.args.walked.now in
    let scratch = c.args.scratch.now in
    let mid = c.add_types.new.unit in
    let marks = c.args.marks.now in
    let incomplete = c.args.incomplete.now in
    let type = tag_type scratch.types marks in
    let entity = number_at c.args.entities.now in
    let carried = c.in_ok-types.types in
    let here = λ (k : ℕ). mark_here scratch.types (get_or marks k None) in
    let core : Core = core_at kept c.in_ok-node.node in
    let same : core ≡ core_at walked c.args.top = c.in_ok-node.ensures.tree in
    λ untold. elim untold [
      | inl h ↦
          let tree = c.in_ok-found.ensures.tree type c.in_ok-types.ensures.types in
          let whole = found_given c.in_ok-found.found _ entity type core mid c.carry.new.unit (ap is_some c.in-Some.is) tree in
          let lacks : is_given_core entity (has_literal core) (marked marks) core ≡ false = subst (λ (t : Core). is_given_core entity (has_literal t) (marked marks) t ≡ false) (sym same) h in
          both_ways (is_given_core entity (has_literal core) type core) whole (core_same type (marked marks) here entity (has_literal core) core ∙ lacks)
      | inr h ↦
          let part : IsPartUntold kept.types carried.given.items incomplete kept.types.tags =
          untold_part kept.types c.type_count-count.ensures.made c.type_count-count.ensures.named type mid.types carried.ids.items carried.given.items incomplete c.in_ok-types.ensures.types
          marks here (lacking_there marks incomplete walked.types kept.types (λ k. sym (c.keep_under.ensures.keeps.parts k)) h) in
          when_true c.are_parts_told.result (IsPartUntold kept.types c.as_slice.result.now incomplete kept.types.tags) c.if-not-are_parts_told.false c.are_parts_told.ensures
          (subst (λ (l : List Bool). IsPartUntold kept.types l incomplete kept.types.tags) (sym c.as_slice.ensures.value) part)
    ]

pub returns-clause-told : goal.returns-clause-told
returns-clause-told c =
    let kept = c.keep_under.new.unit in
    let scratch = c.args.scratch.now in
    let marks = c.args.marks.now in
    let type = tag_type scratch.types marks in
    let entity = number_at c.args.entities.now in
    let core : Core = core_at kept c.in_ok-node.node in
    let same : core ≡ core_at c.args.walked.now c.args.top = c.in_ok-node.ensures.tree in
    let tree = c.in_ok-found.ensures.tree type c.in_ok-types.ensures.types in
    let lacks = not_given c.in_ok-found.found entity type core c.add_types.new.unit c.carry.new.unit c.in-None.is tree in
    let there : is_given_core entity (has_literal core) (marked marks) core ≡ false = sym (core_same type (marked marks) (λ (k : ℕ). mark_here scratch.types (get_or marks k None)) entity (has_literal core) core) ∙ lacks in
    inl (subst (λ (t : Core). is_given_core entity (has_literal t) (marked marks) t ≡ false) same there)
