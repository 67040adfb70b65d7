use Rattle.std.proofs.Common.{◌≡◌, ◌++◌, take}
use Rattle.std.specs.Prelude.{flat_map}
use Rattle.run_text.specs.Lines.{store_line}
use Rattle.run_text.proofs.lines.add_notes.Given as goal

abbrev pub invariant-loop-store : goal.invariant-loop-store
invariant-loop-store l = l.text.items ≡ l.initial.text.items ++ flat_map (store_line l.program l.memory) (take l.store-index l.notes.stores)
