-- The lines of a run text.
use Rattle.std.specs.Prelude.{ℕ, ℤ, List, [], ◌++◌, Option, Some, None, codes, decimal, flat_map}
use Rattle.std.specs.Fmt.{signed_decimal}
use Rattle.c_types.specs.declared.key.ObjectKey.{ObjectKey}
use Rattle.core_tree.specs.declared.node.Program.{Program}
use Rattle.obj_space.specs.Space.{locations_in}
use Rattle.ref_cells.specs.declared.cells.Cell.{Cell}
use Rattle.ref_cells.specs.declared.cells.Reason.{Reason}
use Rattle.ref_cells.specs.declared.cells.Reason.TheVariants.{NullUse, DeadUse, OutOfRange, Unset, Overflow}
use Rattle.ref_cells.specs.declared.cells.Reason.TheVariants.{DivideByZero, Mismatch, BadCall}
use Rattle.ref_cells.specs.declared.instance.Instance.{Instance}
use Rattle.ref_state.specs.declared.notes.Notes.{Notes}
use Rattle.run_text.specs.Names.{part_name, target_name, node_place}

-- a call through a pointer: its place and the function that it called
abbrev pub target_line : Program → Option (ℕ × ObjectKey) → List ℕ
target_line p None = []
target_line p (Some call) =
    codes "target " ++ node_place p call.0 ++ codes " " ++ part_name (locations_in p) p.types call.1 [] ++ codes "\n"

-- a pointer that was put into a cell: the cell, and what it points to
abbrev pub store_line : Program → List Instance → Cell × Cell → List ℕ
store_line p memory store =
    codes "store " ++ target_name (locations_in p) p.types memory store.0 ++ codes " "
    ++ target_name (locations_in p) p.types memory store.1 ++ codes "\n"

-- what a step noted: the target of its call, then the pointers that it put into cells
abbrev pub notes_text : Program → List Instance → Notes → List ℕ
notes_text p memory notes = target_line p notes.target ++ flat_map (store_line p memory) notes.stores

abbrev pub reason_name : Reason → List ℕ
reason_name NullUse = codes "NullUse"
reason_name DeadUse = codes "DeadUse"
reason_name OutOfRange = codes "OutOfRange"
reason_name Unset = codes "Unset"
reason_name Overflow = codes "Overflow"
reason_name DivideByZero = codes "DivideByZero"
reason_name Mismatch = codes "Mismatch"
reason_name BadCall = codes "BadCall"

-- a program that has finished, with its status
abbrev pub finished_line : ℤ → List ℕ
finished_line status = codes "finished " ++ signed_decimal status ++ codes "\n"

-- a step that isn't defined
abbrev pub stopped_line : Program → Reason → ℕ → List ℕ
stopped_line p reason n = codes "stopped " ++ reason_name reason ++ codes " " ++ node_place p n ++ codes "\n"

-- so many steps that all went
abbrev pub went_line : ℕ → List ℕ
went_line steps = codes "went " ++ decimal steps ++ codes "\n"
