-- How often what a program demands stands in its system.
use Rattle.std.specs.Prelude.{◌≡◌, ◌∷◌, ◌↔◌, length, Contains}
use Rattle.core_tree.specs.declared.node.Program.{Program}
use Rattle.obj_space.specs.View.{SpaceView}
use Rattle.sol_model.specs.declared.system.System.{System}
use Rattle.sol_model.specs.declared.system.Constraint.{Constraint}
use Rattle.normal_form.specs.SystemOf.{Demands, setting_of, SystemOf}

-- the constraints are those that the program demands
abbrev pub EachDemand : Type 0
EachDemand =
    (p : Program) (s : SpaceView) (system : System) (c : Constraint)
    → (is : SystemOf p s system)
    → Contains system.constraints c ↔ Demands (setting_of p s is.owners) (length system.calls) c

-- and none stands in the list once more
abbrev pub NoDouble : Type 0
NoDouble =
    (p : Program) (s : SpaceView) (system : System) (c : Constraint)
    → (is : SystemOf p s system)
    → (double : SystemOf p s (record system { constraints = c ∷ system.constraints }))
    → double.owners ≡ is.owners
    → ⊥
