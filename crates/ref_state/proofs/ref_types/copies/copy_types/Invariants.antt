use Rattle.std.proofs.Common.{◌≡◌, [], take}
use Rattle.ref_state.proofs.ref_types.copies.copy_types.Given as goal

abbrev pub invariant-loop-tag : goal.invariant-loop-tag
invariant-loop-tag l = l.table ≡ record { terms = []; tags = l.tag; completed = [] }

abbrev pub invariant-loop-number : goal.invariant-loop-number
invariant-loop-number l = l.table ≡ record l.types { terms = take l.number l.types.terms; completed = [] }

abbrev pub invariant-loop-position : goal.invariant-loop-position
invariant-loop-position l = l.table ≡ record l.types { completed = take l.position l.types.completed }
