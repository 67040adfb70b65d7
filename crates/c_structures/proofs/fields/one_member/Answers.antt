use Rattle.std.proofs.Common.{rules, ◌≡◌, ap, sym, ◌∙◌, ◌∷◌, [], List, ℕ, Option, map}
use Rattle.c_types.specs.declared.term.MemberTerm.{MemberTerm}
use Rattle.c_types.specs.Table.{type_of}
use Rattle.c_inits.specs.Tables.{part_of}
use Rattle.c_senses.specs.Given.{Fits}
use Rattle.c_senses.specs.Sense.{IsMembers}
use Rattle.c_structures.proofs.fields.one_member.Goals as goal

pub returns-clause-row : goal.returns-clause-row
returns-clause-row c = λ u w sense.
    let one : c.push.new.self.items ≡ record { name = c.in_ok-name.name; ty = c.args.ty; bits = c.args.bits } ∷ [] = search rules in
    ap (λ (o : Option (List ℕ)). Fits (IsMembers (record { name = o; type = type_of u.types c.args.ty.0; bits = c.args.bits } ∷ []))) (sym (c.in_ok-name.ensures.name w sense))
    ∙ ap (λ (ms : List MemberTerm). Fits (IsMembers (map (part_of u.types) ms))) (sym one)
