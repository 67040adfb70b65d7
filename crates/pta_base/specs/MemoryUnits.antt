-- When a read of texts in memory fails.
use Rattle.std.specs.Prelude.{ℕ, List, Contains, IsNone, Option}
use Rattle.pta_base.specs.Outside.{text_of}
use Rattle.pta_base.specs.declared.memory_units.MemoryUnits.{MemoryUnits}

-- how many reads there were
abbrev pub reads_of : MemoryUnits → ℕ
reads_of units = units.calls

-- the numbers of the reads that are to fail, from 0
abbrev pub failing_of : MemoryUnits → List ℕ
failing_of units = units.failing.items

-- the next read is one that is to fail
abbrev pub IsListed : MemoryUnits → Type 0
IsListed units = Contains units.failing.items units.calls

-- no text has this name
abbrev pub IsUnknown : MemoryUnits → List ℕ → Type 0
IsUnknown units name = IsNone (text_of units.texts.items name)

-- at most so many bytes at a time, where there is such a bound
abbrev pub step_of : MemoryUnits → Option ℕ
step_of units = units.step
