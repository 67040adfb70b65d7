use Rattle.std.proofs.Common.{◌≡◌, true, false, List, map, sym, ap, ◌∙◌}
use Rattle.c_types.specs.declared.term.MemberTerm.{MemberTerm}
use Rattle.c_inits.specs.Tables.{part_of}
use Rattle.struct_rows.proofs.Memberships.{are_members}
use Rattle.struct_rows.proofs.Building.{table_takes, takes_all, row_done}
use Rattle.struct_rows.proofs.rows.completed.Goals as goal

pub complete-requires-clause-members : goal.complete-requires-clause-members
complete-requires-clause-members c =
    let taken : table_takes c.args.unit.now.types c.args.number c.args.is_union (map (part_of c.args.unit.now.types) c.args.members.items) ≡ true
    = ap (λ (ms : List MemberTerm). table_takes c.args.unit.now.types c.args.number c.args.is_union (map (part_of c.args.unit.now.types) ms)) (sym c.as_slice.ensures.value) ∙ sym c.if-not-may_complete.ensures in
    are_members c.args.unit.now.types c.args.number c.args.members.items c.args.is_union c.requires.tagged.structure c.requires.members
    (takes_all c.args.unit.now.types c.args.number c.args.is_union (map (part_of c.args.unit.now.types) c.args.members.items) taken)

pub returns-then-is_small_type-clause-row : goal.returns-then-is_small_type-clause-row
returns-then-is_small_type-clause-row c = λ w k.
    let taken : table_takes c.args.unit.now.types c.args.number c.args.is_union (map (part_of c.args.unit.now.types) c.args.members.items) ≡ true
    = ap (λ (ms : List MemberTerm). table_takes c.args.unit.now.types c.args.number c.args.is_union (map (part_of c.args.unit.now.types) ms)) (sym c.as_slice.ensures.value) ∙ sym c.if-not-may_complete.ensures in
    row_done c.args.unit.now c.complete.new.unit c.args.number c.args.is_union (map (part_of c.args.unit.now.types) c.args.members.items) c.requires.is c.in-Ok.ensures.completes
    w k c.args.at true taken c.if-is_small_type.ensures

pub returns-else-is_small_type-clause-row : goal.returns-else-is_small_type-clause-row
returns-else-is_small_type-clause-row c = λ w k.
    let taken : table_takes c.args.unit.now.types c.args.number c.args.is_union (map (part_of c.args.unit.now.types) c.args.members.items) ≡ true
    = ap (λ (ms : List MemberTerm). table_takes c.args.unit.now.types c.args.number c.args.is_union (map (part_of c.args.unit.now.types) ms)) (sym c.as_slice.ensures.value) ∙ sym c.if-not-may_complete.ensures in
    row_done c.args.unit.now c.complete.new.unit c.args.number c.args.is_union (map (part_of c.args.unit.now.types) c.args.members.items) c.requires.is c.in-Ok.ensures.completes
    w k c.args.at false taken c.if-is_small_type.ensures
