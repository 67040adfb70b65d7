use Rattle.std.proofs.Common.{◌≡◌, ◌<◌, ℕ, length, get_or}
use Rattle.set_rows.specs.Views.{OnlyLooked, IsLeastWord}
use Rattle.set_rows.specs.Calls.{system_of, view, IsOf}
use Rattle.set_rows.proofs.table.RowTable.copy_rows.Given as goal

abbrev pub invariant-loop-word : goal.invariant-loop-word
invariant-loop-word l = record {
  own : IsOf l.self l.seat;
  view : OnlyLooked (view l.initial.seat) (view l.seat);
  sized : length l.words.items ≡ l.word;
  least : (i : ℕ) → i < length l.words.items → IsLeastWord (system_of l.self) i (get_or l.words.items i 0);
  same : (i : ℕ) → i < length l.words.items → get_or l.seat.seat.me.0.seen i 0 ≡ get_or l.words.items i 0;
}
