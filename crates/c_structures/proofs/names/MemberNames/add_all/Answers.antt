use Rattle.std.proofs.Common.{◌++◌, List, map, take, subst}
use Rattle.std.proofs.lemmas.List.{take_all}
use Rattle.c_types.specs.declared.term.MemberTerm.{MemberTerm}
use Rattle.c_inits.specs.Tables.{part_of}
use Rattle.c_structures.specs.Named.{SaysNames}
use Rattle.c_structures.proofs.Naming.{says_next}
use Rattle.c_structures.proofs.names.MemberNames.add_all.Goals as goal

pub loop-member-preserved : goal.loop-member-preserved
loop-member-preserved c = λ table parts says.
    says_next table c.args.members.now c.loop-member.member-index c.member-item.result c.add.new.self parts c.loop-member-test.true c.member-item.is
    (c.in_ok-add.ensures table (parts ++ map (part_of table) (take c.loop-member.member-index c.args.members.now)) (c.loop-member.invariant table parts says))

pub returns : goal.returns
returns c = λ table parts says.
    subst (λ (ms : List MemberTerm). SaysNames c.loop-member.self (parts ++ map (part_of table) ms)) (take_all c.loop-member.member-index c.args.members.now c.loop-member-test.false) (c.loop-member.invariant table parts says)
