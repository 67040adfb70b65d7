use Rattle.std.proofs.Common.{◌≡◌, replicate}
use Rattle.c_types.specs.declared.key.ObjectKey.TheVariants.{Library}
use Rattle.ref_start.specs.Objects.{text_object}
use Rattle.ref_start.proofs.begin.texts.Given as goal

abbrev pub invariant-loop-i : goal.invariant-loop-i
invariant-loop-i l = l.list.items ≡ replicate l.i (text_object (Library 10) l.types.argument l.text.items)
