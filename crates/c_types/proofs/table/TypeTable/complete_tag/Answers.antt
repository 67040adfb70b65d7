use Rattle.std.proofs.Common.{arith, ◌≡◌, ◌<◌, ◌⊎◌, None, All, length, refl}
use Rattle.std.proofs.lemmas.List.{length-map}
use Rattle.c_types.specs.declared.table.Entry.{Entry}
use Rattle.c_types.specs.declared.table.TagLayout.{TagLayout}
use Rattle.c_types.specs.Trees.{StructureOf, UnionOf}
use Rattle.c_types.specs.Layout.{structure_of, union_of}
use Rattle.c_types.specs.Table.{extents_in, members_in}
use Rattle.c_types.specs.Made.{AreMembers, StandsAsStructure, StandsAsUnion}
use Rattle.c_types.specs.Bounds.{bounds}
use Rattle.c_types.specs.Inside.{table_of, terms_of, starts}
use Rattle.c_types.proofs.Completed.{right_completed}
use Rattle.c_types.proofs.MadeLemmas.{all_members}
use Rattle.c_types.proofs.table.TypeTable.complete_tag.Goals as goal

pub layout_of-requires-clause-members : goal.layout_of-requires-clause-members
layout_of-requires-clause-members c =
    let are = rw (← c.self.view_is) at c.requires.members in
    rw (c.deref.ensures.value, c.as_slice.ensures.value) (all_members c.self.inside.entries.items _ c.args.tag c.args.members.items refl are)

pub positions_of-requires-clause-members : goal.positions_of-requires-clause-members
positions_of-requires-clause-members c =
    let are = rw (← c.self.view_is) at c.requires.members in
    rw (c.deref-4.ensures.value, c.as_slice-2.ensures.value) (all_members c.self.inside.entries.items _ c.args.tag c.args.members.items refl are)

pub invariant_of-self : goal.invariant_of-self
invariant_of-self c =
    let es = c.self.inside.entries.items in
    let ts = c.self.inside.tags.items in
    let cs = c.self.inside.completed.items in
    let l : TagLayout = record { tag = c.args.tag; members = c.args.members; structure = c.layout_of.result.0; union = c.layout_of.result.1; positions = c.in_ok-positions.positions } in
    let structure : c.layout_of.result.0 ≡ bounds (structure_of (StructureOf c.args.tag) (extents_in (table_of es ts cs) c.args.members.items)) =
    rw (c.deref.ensures.value, c.deref-3.ensures.value, c.as_slice.ensures.value) at (c.layout_of.ensures.structure (StructureOf c.args.tag)) in
    let union : c.layout_of.result.1 ≡ bounds (union_of (UnionOf c.args.tag) (extents_in (table_of es ts cs) c.args.members.items)) =
    rw (c.deref.ensures.value, c.deref-3.ensures.value, c.as_slice.ensures.value) at (c.layout_of.ensures.union (UnionOf c.args.tag)) in
    let tag : c.args.tag < length ts = rw (← c.self.view_is) at c.requires.tag in
    let unseen : members_in (table_of es ts cs) c.args.tag ≡ None = rw (← c.self.view_is) at c.requires.incomplete in
    let stands : StandsAsStructure (terms_of es) c.args.tag ⊎ StandsAsUnion (terms_of es) c.args.tag = rw (← c.self.view_is) at c.requires.stands in
    let are : AreMembers (table_of es ts cs) c.args.tag c.args.members.items = rw (← c.self.view_is) at c.requires.members in
    let place : c.len-place.result ≡ length cs = omega arith in
    let positions : c.in_ok-positions.positions.items ≡ starts 1 (extents_in (table_of es ts cs) c.args.members.items) =
    rw (c.deref-4.ensures.value, c.deref-6.ensures.value, c.as_slice-2.ensures.value) at c.in_ok-positions.ensures in
    let inside = all_members es (table_of es ts cs) c.args.tag c.args.members.items refl are in
    let within : All (λ m. m.ty.0 < length (terms_of es)) c.args.members.items = rw (length-map es (λ (x : Entry). x.term)) inside in
    record {
      right = rw (place, c.in-Ok.ensures.items) (right_completed es ts cs l c.self.invariant.right tag unseen within structure union positions stands are (omega arith));
      index = c.self.invariant.index;
    }
