use Rattle.std.proofs.Common.{◌≡◌, ◌<◌, ◌^◌, List, length, sym, subst, arith}
use Rattle.link_names.specs.declared.declared.Declared.{Declared}
use Rattle.link_names.specs.Externals.{AreDeclarations}
use Rattle.unit_link.specs.link_program.Merging.{placed}
use Rattle.unit_link.specs.link_program.Checked.{joined_by, AreChecked}
use Rattle.unit_link.proofs.link_program.Scenes.{scene_right, fault_then}
use Rattle.unit_link.proofs.link_program.checked.checked.Goals as goal

pub check_names-requires : goal.check_names-requires
check_names-requires c =
    let d = c.in_ok-declared.ensures in
    let declared = subst (AreDeclarations c.args.units.now) (sym c.as_slice.ensures.value) d.declared in
    let room : length c.args.types.now.terms < 2 ^ 32 = omega (arith, c.type_count-count.ensures.count) in
    scene_right _ c.requires.units c.requires.merged room d.many d.small declared

pub returns-in-Err : goal.returns-in-Err
returns-in-Err c =
    let declared = subst (AreDeclarations c.args.units.now) (sym c.as_slice.ensures.value) c.in_ok-declared.ensures.declared in
    fault_then c.in-Err.fault (λ fault. record {
      numbers = placed c.args.type_starts.now c.requires.merged.tag;
      table = c.args.types.now;
      merged = c.requires.merged.merged;
      declarations = c.as_slice.result.now;
      declared = declared;
      fault_is = fault;
    }) c.in-Err.ensures

pub returns-in-Ok : goal.returns-in-Ok
returns-in-Ok c =
    let j = joined_by c.args.units.now c.args.types.now c.args.type_starts.now in
    let declared = subst (AreDeclarations c.args.units.now) (sym c.as_slice.ensures.value) c.in_ok-declared.ensures.declared in
    subst (λ (ds : List Declared). AreChecked c.args.entries.now j ds c.in-Ok.names) c.as_slice.ensures.value (record { declared = declared; faultless = c.in-Ok.ensures.0; said = c.in-Ok.ensures.1 })
