use Rattle.std.proofs.Common.{refl, ap, ◌∙◌, rules}
use Rattle.c_types.specs.Table.{types_of, type_of}
use Rattle.c_types.specs.Trees.{grow}
use Rattle.row_covers.proofs.Walked.{element_follows}
use Rattle.row_covers.proofs.parts.into_element.Goals as goal

pub returns-in-Array : goal.returns-in-Array
returns-in-Array c n at =
    element_follows c.args.types.now (type_of c.args.types.now c.args.whole.ty.0) (type_of c.args.types.now c.in-Array.of.0) c.in-Array.length n c.args.i (record c.args.whole { ty = c.in-Array.of }) (c.term.ensures.tree ∙ ap (grow (types_of c.args.types.now)) c.in-Array.is) refl at (search rules)
