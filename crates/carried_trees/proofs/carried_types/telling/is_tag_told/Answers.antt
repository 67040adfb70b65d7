use Rattle.std.proofs.Common.{◌≡◌, true, false, get_or, sym, ◌∙◌}
use Rattle.carried_trees.proofs.carried_types.Flagging.{not_open, without_members, by_members}
use Rattle.carried_trees.proofs.carried_types.telling.is_tag_told.Goals as goal

pub returns-then-not-flag_of : goal.returns-then-not-flag_of
returns-then-not-flag_of c = not_open c.args.types.now c.args.given.now c.args.incomplete.now c.args.tag (sym c.flag_of.ensures ∙ c.if-not-flag_of.true)

pub returns-in-Some : goal.returns-in-Some
returns-in-Some c =
    let flag : get_or c.args.incomplete.now c.args.tag false ≡ true = sym c.flag_of.ensures ∙ c.if-not-flag_of.false in
    by_members c.args.types.now c.args.given.now c.args.incomplete.now c.args.tag c.in-Some.members.now flag c.in-Some.ensures.list c.are_flagged.result c.are_flagged.ensures

pub returns-in-None : goal.returns-in-None
returns-in-None c = without_members c.args.types.now c.args.given.now c.args.incomplete.now c.args.tag c.in-None.ensures.list
