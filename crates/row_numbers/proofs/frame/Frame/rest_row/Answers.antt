use Rattle.std.proofs.Common.{arith, ◌≡◌, ◌+◌, slice_get, Some, refl, sym, ap, ◌∙◌}
use Rattle.std.proofs.lemmas.Option.{slice_get_read}
use Rattle.c_types.specs.Trees.{Ctype}
use Rattle.c_types.specs.Table.{type_of}
use Rattle.core_tree.specs.Typed.{trees_in, type_in, type_at}
use Rattle.obj_space.specs.View.{view_of}
use Rattle.row_numbers.specs.Kept.{nodes_of, kept_count}
use Rattle.row_numbers.specs.Setting.{row, rest_row}
use Rattle.row_numbers.proofs.frame.Frame.rest_row.Goals as goal

pub returns-clause-value : goal.returns-clause-value
unfolding rest_row
returns-clause-value c =
    let u = trees_in c.args.self.now.program.now in
    let s = view_of c.args.self.now.space.now in
    let at : slice_get u.nodes c.args.n ≡ Some c.index.result.now = slice_get_read u.nodes _ c.args.n c.index.result.now refl c.requires.node c.index.ensures in
    let kept : c.kept_count.result ≡ kept_count (nodes_of u.types (type_at u c.args.n)) = c.kept_count.ensures.count ∙ ap (λ o. kept_count (nodes_of u.types (type_in u.types o))) (sym at) in
    let whole : c.row.result + c.kept_count.result ≡ row u s c.args.n + kept_count (nodes_of u.types (type_at u c.args.n)) = omega (arith, c.row.ensures.value, kept) in
    whole
