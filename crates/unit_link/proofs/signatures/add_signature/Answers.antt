use Rattle.std.proofs.Common.{◌≡◌, ◌+◌, List, length, length-append, ap, ◌∙◌, arith}
use Rattle.c_types.specs.declared.term.TypeId.{TypeId}
use Rattle.c_types.specs.declared.term.Form.TheVariants.{Fixed}
use Rattle.c_types.specs.Trees.{FunctionFrom, trees_at, tree_at}
use Rattle.c_types.specs.Table.{Table, type_of, types_of}
use Rattle.unit_link.proofs.signatures.add_signature.Goals as goal

pub returns-in-Ok-clause-added : goal.returns-in-Ok-clause-added
returns-in-Ok-clause-added c = λ i low high.
    let old = c.args.types.now in
    let id = c.in-Ok.ensures.id in
    let grown : length c.add.new.self.terms ≡ length old.terms + 1 = ap (λ (t : Table). length t.terms) c.in-Ok.ensures.ok ∙ length-append old.terms _ in
    let same : i ≡ c.in-Ok.field-0.0 = omega arith in
    let empty = c.from_items.ensures ∙ c.new.ensures.items in
    (tree_at (types_of old) c.in-Some.given.0, ap (type_of c.add.new.self) same ∙ (c.in-Ok.ensures.tree ∙ ap (λ (ps : List TypeId). FunctionFrom (tree_at (types_of old) c.in-Some.given.0) (trees_at (types_of old) ps) Fixed) empty))
