use Rattle.std.proofs.Common.{◌≡◌, ◌∙◌, sym, ap, subst, IfOk, MatchOption, None, Option}
use Rattle.c_types.specs.Trees.{grow}
use Rattle.c_types.specs.Table.{types_of}
use Rattle.c_inits.specs.Parts.{Part}
use Rattle.c_inits.specs.Cursor.{IsPart}
use Rattle.c_inits.proofs.Tags.{structure_first, union_first}
use Rattle.c_inits.proofs.cursor.first_step.Goals as goal

pub returns-in-Structure : goal.returns-in-Structure
returns-in-Structure c =
    let table = c.args.types.now in
    let same = structure_first table c.type_count-count.ensures.made c.args.limit c.args.id.0 c.in-Structure.tag (c.term.ensures.tree ∙ ap (grow (types_of table)) c.in-Structure.is) c.requires.shaped in
    subst (λ (o : Option Part). IfOk c.member_of.result (λ found. MatchOption found (o ≡ None) (λ p. IsPart table c.args.limit o p.0 p.1.0))) (sym same) c.member_of.ensures

pub returns-in-Union : goal.returns-in-Union
returns-in-Union c =
    let table = c.args.types.now in
    let same = union_first table c.type_count-count.ensures.made c.args.limit c.args.id.0 c.in-Union.tag (c.term.ensures.tree ∙ ap (grow (types_of table)) c.in-Union.is) c.requires.shaped in
    subst (λ (o : Option Part). IfOk c.member_of-in-Union.result (λ found. MatchOption found (o ≡ None) (λ p. IsPart table c.args.limit o p.0 p.1.0))) (sym same) c.member_of-in-Union.ensures
