-- What the code answers, given what the definition gives.
use Rattle.std.specs.Prelude.{◌≡◌, Result, Ok, Err}
use Rattle.ref_cells.specs.declared.cells.Reason.{Reason}
use Rattle.ref_cells.specs.declared.cells.MemFault.{MemFault}
use Rattle.ref_cells.specs.declared.cells.MemFault.TheVariants.{Stop, OutOfMemory}

abbrev pub Fails : {Y : Type 0} → MemFault → Result Y Reason → Type 0
Fails OutOfMemory given = Unit {0}
Fails (Stop reason) given = given ≡ Err reason

-- an answer, seen by view, is what is given, unless memory ran out
abbrev pub Gives : {X Y : Type 0} → (X → Y) → Result X MemFault → Result Y Reason → Type 0
Gives view (Ok x) given = given ≡ Ok (view x)
Gives view (Err e) given = Fails e given

-- an answer that takes no memory
abbrev pub Agrees : {X Y : Type 0} → (X → Y) → Result X Reason → Result Y Reason → Type 0
Agrees view (Ok x) given = given ≡ Ok (view x)
Agrees view (Err reason) given = given ≡ Err reason
