use Rattle.std.proofs.Common.{List, arith, sym, subst}
use Rattle.obj_space.specs.declared.location.Location.{Location}
use Rattle.obj_space.specs.View.{view_of}
use Rattle.constraints.specs.System.{IsFaultOf as IsSystemFault}
use Rattle.linked_laws.proofs.system_laws.demand_laws.Fitting.{count_is}
use Rattle.linked_laws.proofs.system_laws.filled_laws.PassedOn.{spots_fit}
use Rattle.unit_report.proofs.unit_system.Validity.{some_located, valid_of}
use Rattle.unit_report.proofs.unit_system.systems.system_over.Goals as goal

pub normalise-requires-clause-spots : goal.normalise-requires-clause-spots
normalise-requires-clause-spots c =
    let told = c.type_count-types.ensures in
    let count = c.count-locations.ensures in
    spots_fit c.args.program.now c.args.space.now c.requires.space told.made c.requires.wholes (omega arith) c.requires.right.initials c.requires.placed

pub system-requires-clause-located : goal.system-requires-clause-located
system-requires-clause-located c = some_located c.args.program.now c.args.space.now c.requires.space c.requires.right

pub returns : goal.returns
returns c =
    let ensured = c.in-Ok.ensures in
    let told = c.type_count-types.ensures in
    let located = ensured.located c.requires.typed c.requires.trees in
    let count = c.count-locations.ensures in
    record {
      few = c.requires.few;
      space_is = c.requires.space;
      system_is = ensured.system;
      valid = valid_of c.args.program.now c.args.space.now c.in-Ok.system c.requires.space ensured.system told.made told.named c.requires.wholes (omega arith) c.requires.right c.requires.placed ensured.sized located;
      count = sym (count_is c.args.program.now c.args.space.now c.in-Ok.system ensured.system);
    }

pub returns-in-Err : goal.returns-in-Err
returns-in-Err c =
    c.fault_of.ensures c.args.program.now (subst (λ (s : List Location). IsSystemFault c.args.program.now (view_of s) c.in-Err.fault) c.requires.space c.in-Err.ensures.fault)
