-- When a write to a sink in memory fails.
use Rattle.std.specs.Prelude.{ℕ, ◌-◌, List, Contains, length, Option}
use Rattle.pta_base.specs.declared.memory_sink.MemorySink.{MemorySink}

-- how many writes there were
abbrev pub writes_of : MemorySink → ℕ
writes_of sink = sink.calls

-- the numbers of the writes that are to fail, from 0
abbrev pub failing_of : MemorySink → List ℕ
failing_of sink = sink.failing.items

-- for how many bytes there is room
abbrev pub room_of : MemorySink → ℕ
room_of sink = length sink.room.items - sink.len

-- the next write is one that is to fail
abbrev pub IsListed : MemorySink → Type 0
IsListed sink = Contains sink.failing.items sink.calls

-- at most so many bytes at a time, where there is such a bound
abbrev pub step_of : MemorySink → Option ℕ
step_of sink = sink.step
