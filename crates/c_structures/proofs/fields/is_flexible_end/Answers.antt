use Rattle.std.proofs.Common.{true, false, refl, ◌∙◌, sym}
use Rattle.c_types.specs.Table.{type_of}
use Rattle.tree_reads.specs.Sources.{source_read}
use Rattle.c_structures.proofs.Fielding.{flexible_none, flexible_some}
use Rattle.c_structures.proofs.fields.is_flexible_end.Goals as goal

pub returns-then-has_size : goal.returns-then-has_size
returns-then-has_size c = λ w sense k h.
    let u = c.args.unit.now in
    let s = source_read c.args.syntax.now in
    flexible_some w s sense c.args.at (type_of u.types c.args.ty.0) (type_of u.types c.in-Some.of.0) true _ c.args.has_earlier (c.in-Some.ensures.element w s sense) h (c.if-has_size.ensures w k) (c.ends_list.ensures w sense)

pub returns-else-has_size : goal.returns-else-has_size
returns-else-has_size c = λ w sense k h.
    let u = c.args.unit.now in
    let s = source_read c.args.syntax.now in
    c.if-has_size.false ∙ flexible_some w s sense c.args.at (type_of u.types c.args.ty.0) (type_of u.types c.in-Some.of.0) false _ c.args.has_earlier (c.in-Some.ensures.element w s sense) h (c.if-has_size.ensures w k) refl

pub returns-in-None : goal.returns-in-None
returns-in-None c = λ w sense k h.
    sym (flexible_none w (source_read c.args.syntax.now) sense c.args.at (type_of c.args.unit.now.types c.args.ty.0) (c.in-None.ensures.element w (source_read c.args.syntax.now) sense))
