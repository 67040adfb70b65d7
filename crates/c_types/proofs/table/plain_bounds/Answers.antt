use Rattle.std.proofs.Common.{◌∙◌, ap, length, Some, None, ◌<◌}
use Rattle.std.proofs.lemmas.Option.{slice_get-get_or}
use Rattle.c_types.specs.Trees.{BoolType, IntegerType, FloatingType, VaListType, PointerTo, tree_at}
use Rattle.c_types.proofs.Found.{found_structure, found_union, no_structure, no_union}
use Rattle.c_types.proofs.table.plain_bounds.Goals as goal

pub returns-in-Bool : goal.returns-in-Bool
returns-in-Bool c trees = rw c.in-Bool.is (ap Some (c.scalar_bounds.ensures BoolType))

pub returns-in-Integer : goal.returns-in-Integer
returns-in-Integer c trees = rw c.in-Integer.is (ap Some (c.scalar_bounds-in-Integer.ensures (IntegerType c.in-Integer.size c.in-Integer.rank c.in-Integer.signed)))

pub returns-in-Floating : goal.returns-in-Floating
returns-in-Floating c trees = rw c.in-Floating.is (ap Some (c.scalar_bounds-in-Floating.ensures FloatingType))

pub returns-in-VaList : goal.returns-in-VaList
returns-in-VaList c trees = rw c.in-VaList.is (ap Some (c.scalar_bounds-in-VaList.ensures VaListType))

pub returns-in-Pointer : goal.returns-in-Pointer
returns-in-Pointer c trees = rw c.in-Pointer.is (ap Some (c.scalar_bounds-in-Pointer.ensures (PointerTo (tree_at trees c.in-Pointer.field-0.0))))

pub returns-in-Some : goal.returns-in-Some
returns-in-Some c trees =
    let lt : c.in-Structure.tag < length c.args.tags.now = rw c.in-Structure.is at c.requires.tag in
    let at = slice_get-get_or c.args.tags.now c.in-Structure.tag None lt ∙ ap Some c.in-Some.is in
    rw c.in-Structure.is (found_structure _ _ _ c.requires.right c.in-Structure.tag c.in-Some.k c.index-completed-k.result at)

pub returns-in-None : goal.returns-in-None
returns-in-None c trees =
    let lt : c.in-Structure.tag < length c.args.tags.now = rw c.in-Structure.is at c.requires.tag in
    let at = slice_get-get_or c.args.tags.now c.in-Structure.tag None lt ∙ ap Some c.in-None.is in
    rw c.in-Structure.is (no_structure _ _ _ c.requires.right c.in-Structure.tag at)

pub returns-in-Some-tags : goal.returns-in-Some-tags
returns-in-Some-tags c trees =
    let lt : c.in-Union.tag < length c.args.tags.now = rw c.in-Union.is at c.requires.tag in
    let at = slice_get-get_or c.args.tags.now c.in-Union.tag None lt ∙ ap Some c.in-Some-tags.is in
    rw c.in-Union.is (found_union _ _ _ c.requires.right c.in-Union.tag c.in-Some-tags.k c.index-completed-k-in-Some-tags.result at)

pub returns-in-None-tags : goal.returns-in-None-tags
returns-in-None-tags c trees =
    let lt : c.in-Union.tag < length c.args.tags.now = rw c.in-Union.is at c.requires.tag in
    let at = slice_get-get_or c.args.tags.now c.in-Union.tag None lt ∙ ap Some c.in-None-tags.is in
    rw c.in-Union.is (no_union _ _ _ c.requires.right c.in-Union.tag at)
