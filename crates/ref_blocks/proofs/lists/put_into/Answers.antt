-- The list of that number gets the object.
use Rattle.std.proofs.Common.{arith, [], length, set, ap, ◌<◌, ◌∙◌}
use Rattle.std.proofs.lemmas.List.{set-set, get_or_default}
use Rattle.ref_blocks.specs.Order.{put_in_order}
use Rattle.ref_blocks.proofs.lists.put_into.Goals as goal

pub returns-in_ok-put_in_order : goal.returns-in_ok-put_in_order
returns-in_ok-put_in_order c =
    let lists = c.args.lists.now.items in
    let l : c.args.b < length lists = omega arith in
    let list = c.into_vec-list.ensures ∙ c.replace.ensures.value ∙ c.index_mut.ensures.value ∙ get_or_default lists c.args.b _ [] l in
    set-set lists c.args.b c.replace.new.dest c.of.result
    ∙ ap (set lists c.args.b) (c.of.ensures ∙ c.in_ok-put_in_order.ensures ∙ ap (put_in_order c.args.entities.now c.args.e) list)
