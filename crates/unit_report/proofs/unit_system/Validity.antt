-- The system of a program that is right is valid.
use Rattle.std.proofs.Common.{◌≡◌, ◌<◌, ◌^◌, List, length, sym, subst}
use Rattle.core_tree.specs.declared.node.Program.{Program}
use Rattle.c_types.specs.Made.{IsMade, AreNamed}
use Rattle.sol_model.specs.declared.system.System.{System}
use Rattle.sol_model.specs.Systems.{IsValid}
use Rattle.obj_space.specs.declared.location.Location.{Location}
use Rattle.obj_space.specs.Space.{locations_in}
use Rattle.obj_space.specs.Spots.{HasWholes}
use Rattle.obj_space.specs.View.{view_of}
use Rattle.normal_form.specs.SystemOf.{SystemOf}
use Rattle.constraints.specs.System.{IsSized, AreLocated}
use Rattle.linked_laws.proofs.main_laws.Objects.{body_located}
use Rattle.linked_laws.proofs.system_laws.parameter_laws.Deciding.{typed_decide}
use Rattle.linked_laws.proofs.system_laws.demand_laws.Demands.{demands_fit}
use Rattle.linked_laws.specs.system_laws.filled_laws.PassedOn.{ArePlaced}
use Rattle.linked_laws.proofs.system_laws.filled_laws.PassedOn.{items_fit}
use Rattle.unit_report.specs.unit_system.Right.{IsRight}

-- it has a location
pub some_located : (p : Program) (space : List Location) → space ≡ locations_in p → IsRight p → 0 < length space
some_located p space is right =
    let body = right.body in
    subst (λ (s : List Location). 0 < length s) (sym is) (body_located p body.number body.entity body.entity_is body.storage)

pub valid_of : (p : Program) (space : List Location) (system : System) → space ≡ locations_in p → SystemOf p (view_of space) system → IsMade p.types → AreNamed p.types → HasWholes p.types space → length space < 2 ^ 32
    → IsRight p → ArePlaced p → IsSized system → AreLocated system → IsValid system
valid_of p space system is of made named wholes few right placed sized located =
    typed_decide p space is system of wholes right.body right.values sized located
    (demands_fit p space system is of made named wholes (some_located p space is right) right.tags right.rows right.returns right.values (items_fit p space system is of made wholes few right.initials placed) right.entered)
