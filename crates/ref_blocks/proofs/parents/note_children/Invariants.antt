-- The children so far are looked at.
use Rattle.std.proofs.Common.{◌≡◌, ℕ, ◌<◌, None, length, take, get_or}
use Rattle.ref_blocks.specs.Parents.{noted}
use Rattle.ref_blocks.proofs.parents.note_children.Given as goal

abbrev pub invariant-loop-c : goal.invariant-loop-c
invariant-loop-c l = (n : ℕ) → n < length l.fn.parents → get_or l.parents n None ≡ noted l.p (take l.c-index l.children) n (get_or l.fn.parents n None)
