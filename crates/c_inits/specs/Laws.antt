-- How what is behind a place is found one step at a time.
use Rattle.std.specs.Prelude.{◌≡◌, [], ◌∷◌, ◌++◌, Some, None}
use Rattle.c_types.specs.declared.term.PathStep.{PathStep}
use Rattle.c_inits.specs.Shapes.{Shape, Path, from, behind}
use Rattle.c_inits.specs.Parts.{Part, shape_at, DistinctIn, first_part, next_part}

-- where a sub-object has parts, its first one follows it in order
abbrev pub GoesDown : Type 0
GoesDown =
    (t : Shape) (path : Path) (s : Shape) (p : Part) → shape_at t path ≡ Some s → first_part s ≡ Some p
    → from t path ≡ record { path = path; shape = s } ∷ from t (path ++ p.step ∷ [])

-- where it has none, what is behind it follows
abbrev pub GoesOver : Type 0
GoesOver =
    (t : Shape) (path : Path) (s : Shape)
    → shape_at t path ≡ Some s
    → first_part s ≡ None
    → from t path ≡ record { path = path; shape = s } ∷ behind t path

-- behind another part is the next one, with what is behind that
abbrev pub GoesAcross : Type 0
GoesAcross =
    (t : Shape) (path : Path) (step : PathStep) (s : Shape) (p : Part)
    → shape_at t path ≡ Some s
    → DistinctIn s
    → next_part s step ≡ Some p
    → behind t (path ++ step ∷ []) ≡ from t (path ++ p.step ∷ [])

-- behind the last part is what is behind the whole
abbrev pub GoesUp : Type 0
GoesUp =
    (t : Shape) (path : Path) (step : PathStep) (s : Shape) → shape_at t path ≡ Some s → next_part s step ≡ None
    → behind t (path ++ step ∷ []) ≡ behind t path
