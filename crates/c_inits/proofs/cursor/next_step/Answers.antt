use Rattle.std.proofs.Common.{◌≡◌, ◌∙◌, ◌∷◌, [], sym, ap, subst, IfOk, MatchOption, None, Option, IsSome}
use Rattle.c_types.specs.Trees.{grow}
use Rattle.c_types.specs.Table.{types_of}
use Rattle.c_types.specs.declared.term.PathStep.{PathStep}
use Rattle.c_inits.specs.Parts.{Part, shape_at, next_part}
use Rattle.c_inits.specs.Tables.{type_shape}
use Rattle.c_inits.specs.Cursor.{IsPart}
use Rattle.c_inits.proofs.Tags.{structure_next}
use Rattle.c_inits.proofs.cursor.next_step.Goals as goal

pub returns-in-Structure-Member : goal.returns-in-Structure-Member
returns-in-Structure-Member c =
    let table = c.args.types.now in
    let whole = type_shape table c.args.limit c.args.owner.0 in
    let within = subst (λ (s : PathStep). IsSome (shape_at whole (s ∷ []))) c.in-Structure-Member.is-1 c.requires.step in
    let same = structure_next table c.type_count-count.ensures.made c.args.limit c.args.owner.0 c.in-Structure-Member.tag (c.term.ensures.tree ∙ ap (grow (types_of table)) c.in-Structure-Member.is-0) c.requires.shaped c.in-Structure-Member.k within in
    subst (λ (o : Option Part). IfOk c.member_of.result (λ found. MatchOption found (o ≡ None) (λ p. IsPart table c.args.limit o p.0 p.1.0))) (sym (ap (λ s. next_part whole s) c.in-Structure-Member.is-1 ∙ same)) c.member_of.ensures
