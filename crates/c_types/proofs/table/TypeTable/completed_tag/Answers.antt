use Rattle.std.proofs.Common.{◌≡◌, ◌∙◌, ◌<◌, ap, refl, Some, length, map}
use Rattle.std.specs.Option.{option_map}
use Rattle.std.specs.List.{slice_get}
use Rattle.std.proofs.lemmas.List.{length-map}
use Rattle.std.proofs.lemmas.Option.{slice_get_read, slice_get-map}
use Rattle.c_types.specs.Inside.{members_of}
use Rattle.c_types.proofs.table.TypeTable.completed_tag.Goals as goal

pub returns : goal.returns
returns c =
    let ls = c.self.inside.completed.items in
    let lt : c.args.position < length (map members_of ls) = rw (← c.self.view_is) at c.requires in
    let less : c.args.position < length ls = rw length-map at lt in
    let read : slice_get ls c.args.position ≡ Some c.index.result.now = slice_get_read ls (length ls) c.args.position c.index.result.now refl less c.index.ensures in
    (c.index.result.now.members.items, rw (← c.self.view_is) (slice_get-map members_of ls c.args.position ∙ ap (option_map members_of) read))
