use Rattle.std.proofs.Common.{rules, ◌≡◌, ◌<◌, ℕ, subst}
use Rattle.carried_trees.specs.carried_types.Told.{LacksFlag, IsPartUntold}
use Rattle.carried_trees.proofs.carried_types.Flagging.{when_true, when_false, none_untold, one_more}
use Rattle.carried_trees.proofs.carried_types.telling.are_parts_told.Goals as goal

pub loop-tag-init : goal.loop-tag-init
loop-tag-init c = none_untold c.args.types.now c.args.given.now c.args.incomplete.now

pub loop-tag-preserved : goal.loop-tag-preserved
loop-tag-preserved c =
    let table = c.args.types.now in
    let given = c.args.given.now in
    let incomplete = c.args.incomplete.now in
    let tag = c.loop-tag.tag in
    one_more table given incomplete tag (when_true c.is_tag_told.result (LacksFlag table given incomplete tag) c.if-not-is_tag_told.false c.is_tag_told.ensures) c.loop-tag.invariant

pub returns-then-not-is_tag_told : goal.returns-then-not-is_tag_told
returns-then-not-is_tag_told c =
    let tag = c.loop-tag.tag in
    let few : tag < c.args.types.now.tags = search rules in
    record {
      own = tag;
      few = few;
      lacks = when_false c.is_tag_told.result (LacksFlag c.args.types.now c.args.given.now c.args.incomplete.now tag) c.if-not-is_tag_told.true c.is_tag_told.ensures;
    }

pub returns : goal.returns
returns c =
    let last : c.loop-tag.tag ≡ c.args.types.now.tags = search rules in
    subst (λ (n : ℕ). IsPartUntold c.args.types.now c.args.given.now c.args.incomplete.now n → ⊥) last c.loop-tag.invariant
