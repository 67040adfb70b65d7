use Rattle.std.proofs.Common.{◌≡◌, Some, length, sym, ap, ◌∙◌}
use Rattle.c_types.specs.declared.term.Form.{Form}
use Rattle.c_types.specs.declared.term.Form.TheVariants.{Variadic}
use Rattle.c_types.specs.Trees.{Ctype, PointerTo, FunctionFrom, tree_at, trees_at, grow}
use Rattle.c_types.specs.Table.{types_of, type_of}
use Rattle.call_sites.specs.Calls.{variadic_count}
use Rattle.call_sites.proofs.SignatureLemmas.{counted}
use Rattle.call_sites.proofs.calls.variadic_count.Goals as goal

pub returns-in-Variadic : goal.returns-in-Variadic
returns-in-Variadic c =
    let trees = types_of c.args.types.now in
    let f = c.in-Function in
    let pointed = c.term-in-Pointer.ensures.tree ∙ (ap (grow trees) f.is ∙ ap (λ (form : Form). FunctionFrom (tree_at trees f.result.0) (trees_at trees f.parameters) form) c.in-Variadic.is) in
    let whole = c.term.ensures.tree ∙ (ap (grow trees) c.in-Pointer.is ∙ ap PointerTo pointed) in
    sym (ap variadic_count whole ∙ ap Some (counted trees f.parameters ∙ sym (ap length c.as_slice.ensures)))
