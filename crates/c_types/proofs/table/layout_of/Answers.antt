use Rattle.std.proofs.Common.{arith, ◌≡◌, ◌∙◌, ◌<◌, sym, ap, length, List, take}
use Rattle.c_types.specs.declared.term.MemberTerm.{MemberTerm}
use Rattle.c_types.specs.Layout.{placed, overlaid, first_extent, structure_of, union_of, member_extent}
use Rattle.c_types.specs.Table.{extents_in, look_in, type_of}
use Rattle.c_types.specs.Bounds.{bounds}
use Rattle.c_types.specs.Inside.{table_of}
use Rattle.c_types.proofs.Members.{step_placed, step_overlaid, take_all}
use Rattle.c_types.proofs.table.layout_of.Goals as goal

pub loop-m-preserved : goal.loop-m-preserved
loop-m-preserved c =
    let table = table_of c.args.entries.now c.args.tags.now c.args.completed.now in
    let ms = c.args.members.now in
    let m = member_extent (look_in table) (type_of table c.m-item.result.ty.0) in
    let lt : c.loop-m.m-index < length ms = c.loop-m-test.true in
    let b : c.member_bounds-b.result ≡ bounds m = c.member_bounds-b.ensures in
    record {
      structure = λ t. c.beside-beside_all.ensures (placed (first_extent t) (extents_in table (take c.loop-m.m-index ms))) m (c.loop-m.invariant.structure t) b ∙ sym (ap bounds (step_placed table ms c.loop-m.m-index c.m-item.result lt c.m-item.is (first_extent t)));
      union = λ t. c.above-above_all.ensures (overlaid (first_extent t) (extents_in table (take c.loop-m.m-index ms))) m (c.loop-m.invariant.union t) b ∙ sym (ap bounds (step_overlaid table ms c.loop-m.m-index c.m-item.result lt c.m-item.is (first_extent t)));
    }

pub returns-clause-structure : goal.returns-clause-structure
returns-clause-structure c t =
    let table = table_of c.args.entries.now c.args.tags.now c.args.completed.now in
    c.padded.ensures _ (c.loop-m.invariant.structure t) ∙ ap (λ (ms : List MemberTerm). bounds (structure_of t (extents_in table ms))) (take_all c.args.members.now c.loop-m.m-index (omega arith))

pub returns-clause-union : goal.returns-clause-union
returns-clause-union c t =
    let table = table_of c.args.entries.now c.args.tags.now c.args.completed.now in
    c.padded-2.ensures _ (c.loop-m.invariant.union t) ∙ ap (λ (ms : List MemberTerm). bounds (union_of t (extents_in table ms))) (take_all c.args.members.now c.loop-m.m-index (omega arith))
