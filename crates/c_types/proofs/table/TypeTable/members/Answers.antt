use Rattle.std.proofs.Common.{◌≡◌, ◌∙◌, ◌<◌, ap, sym, refl, Some, None, length, slice_get}
use Rattle.std.proofs.lemmas.Option.{slice_get_read, get_or_from_slice_get}
use Rattle.c_types.specs.declared.table.TagLayout.{TagLayout}
use Rattle.c_types.proofs.MembersOf.{tag_members, no_members}
use Rattle.c_types.proofs.table.TypeTable.members.Goals as goal

pub returns-in-Some-clause-list : goal.returns-in-Some-clause-list
returns-in-Some-clause-list c =
    let ts = c.self.inside.tags.items in
    let lt : c.args.tag < length ts = rw (← c.self.view_is) at c.requires in
    let at : slice_get ts c.args.tag ≡ Some (Some c.in-Some.k) = slice_get_read ts (length ts) c.args.tag c.index.result.now refl lt c.index.ensures ∙ ap Some c.in-Some.is in
    let found = tag_members c.self.inside.entries.items ts c.self.inside.completed.items c.self.invariant.right c.args.tag c.in-Some.k c.index-in-Some.result.now at in
    rw (← c.self.view_is) (found ∙ (sym (ap (λ (m : TagLayout). Some m.members.items) c.index-in-Some.ensures) ∙ ap Some (sym c.as_slice.ensures.value)))

pub returns-in-Some-clause-types : goal.returns-in-Some-clause-types
returns-in-Some-clause-types c =
    let cs = c.self.inside.completed.items in
    let right = c.self.invariant.right in
    let ts = c.self.inside.tags.items in
    let lt : c.args.tag < length ts = rw (← c.self.view_is) at c.requires in
    let at : slice_get ts c.args.tag ≡ Some (Some c.in-Some.k) = slice_get_read ts (length ts) c.args.tag c.index.result.now refl lt c.index.ensures ∙ ap Some c.in-Some.is in
    let (l, there, tag) = right.layouts_right.known c.args.tag c.in-Some.k at in
    let same : c.index-in-Some.result.now ≡ l = c.index-in-Some.ensures ∙ get_or_from_slice_get cs c.in-Some.k l c.index-in-Some.result.now there in
    rw (← c.self.view_is) (rw (c.as_slice.ensures.value, same) (right.layouts_right.before c.in-Some.k l there))

pub returns-in-None-clause-list : goal.returns-in-None-clause-list
returns-in-None-clause-list c =
    let ts = c.self.inside.tags.items in
    let lt : c.args.tag < length ts = rw (← c.self.view_is) at c.requires in
    let at : slice_get ts c.args.tag ≡ Some None = slice_get_read ts (length ts) c.args.tag c.index.result.now refl lt c.index.ensures ∙ ap Some c.in-None.is in
    rw (← c.self.view_is) (no_members c.self.inside.entries.items ts c.self.inside.completed.items c.self.invariant.right c.args.tag at)
