use Rattle.std.proofs.Common.{◌≤◌, ◌∙◌, rules, sym, ap}
use Rattle.std.specs.Prelude.{is_none}
use Rattle.c_check.specs.known_tags.Told.{lacks_members}
use Rattle.c_check.proofs.known_tags.Telling.{members_none}
use Rattle.c_check.proofs.known_tags.told.lacks_members.Goals as goal

pub returns-then-tag-tag_count : goal.returns-then-tag-tag_count
returns-then-tag-tag_count c =
    let past : c.args.types.now.tags ≤ c.in-Some.tag = search rules in
    let none = members_none c.args.types.now c.type_count-count.ensures.made c.type_count-count.ensures.named c.in-Some.tag past in
    sym (ap (lacks_members c.args.types.now) c.in-Some.is ∙ ap is_none none)
