-- The pointers so far, and those of what is left.
use Rattle.std.proofs.Common.{◌≡◌, ◌++◌, drop}
use Rattle.ref_elements.specs.Parts.{pointers_of}
use Rattle.ref_elements.proofs.parts.pointers_of.Given as goal

abbrev pub invariant-loop-part : goal.invariant-loop-part
invariant-loop-part l = l.list.items ++ pointers_of l.instance (drop l.part-index l.parts) ≡ pointers_of l.instance l.parts
