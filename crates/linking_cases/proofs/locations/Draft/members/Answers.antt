use Rattle.std.proofs.Common.{subst, List}
use Rattle.c_types.specs.declared.term.MemberTerm.{MemberTerm}
use Rattle.c_types.specs.Made.{ArePlain}
use Rattle.linking_cases.proofs.locations.Draft.members.Goals as goal

pub new_union-requires : goal.new_union-requires
new_union-requires c =
    let P : List MemberTerm → Type 0 = λ ms. ArePlain c.args.self.now.program.types ms in
    subst P c.as_slice.ensures.value (c.are_plain.ensures c.if-not-are_plain.false)

pub new_structure-requires : goal.new_structure-requires
new_structure-requires c =
    let P : List MemberTerm → Type 0 = λ ms. ArePlain c.args.self.now.program.types ms in
    subst P c.as_slice.ensures.value (c.are_plain.ensures c.if-not-are_plain.false)
