use Rattle.std.proofs.Common.{true, refl, ap, ◌∙◌, ◌||◌, List, ℕ}
use Rattle.c_inits.specs.Tables.{part_of}
use Rattle.c_structures.specs.Named.{is_among, same_name}
use Rattle.c_structures.proofs.Naming.{says_named, says_unnamed}
use Rattle.c_structures.proofs.names.MemberNames.add.Goals as goal

pub returns-in_ok-add_name : goal.returns-in_ok-add_name
returns-in_ok-add_name c = λ table parts says.
    says_named c.args.self.now (record { names = c.add_name.new.names; any = true }) parts (part_of table c.args.member.now) c.in-Some.name c.in-Some.is refl
    (λ other. c.in_ok-add_name.ensures other ∙ ap (λ (own : List ℕ). same_name own other || is_among c.args.self.now.names other) (c.as_bytes.ensures.value ∙ c.as_str.ensures))
    says

pub returns-in_default : goal.returns-in_default
returns-in_default c = λ table parts says. says_unnamed c.args.self.now (record { names = c.args.self.now.names; any = true }) parts (part_of table c.args.member.now) c.in_default.is refl refl says
