use Rattle.std.proofs.Common.{◌∙◌, ap, sym, subst, Some, None}
use Rattle.std.proofs.lemmas.Option.{slice_get-get_or}
use Rattle.c_types.specs.Inside.{IsLayoutOf, table_of}
use Rattle.c_types.proofs.Found.{layout_at}
use Rattle.c_types.proofs.MembersOf.{no_members}
use Rattle.c_types.proofs.parts.layout_for.Goals as goal

pub returns-in-Some : goal.returns-in-Some
returns-in-Some c =
    let at = slice_get-get_or c.args.tags.now c.args.tag None c.requires.tag ∙ ap Some c.in-Some.is in
    subst (IsLayoutOf (table_of c.args.entries.now c.args.tags.now c.args.completed.now) c.args.tag) (sym c.index-completed-k.is) (layout_at c.args.entries.now c.args.tags.now c.args.completed.now c.requires.right c.args.tag c.in-Some.k c.index-completed-k.result at)

pub returns-in-None : goal.returns-in-None
returns-in-None c =
    let at = slice_get-get_or c.args.tags.now c.args.tag None c.requires.tag ∙ ap Some c.in-None.is in
    no_members c.args.entries.now c.args.tags.now c.args.completed.now c.requires.right c.args.tag at
