use Rattle.std.proofs.Common.{subst, List}
use Rattle.c_types.specs.declared.term.MemberTerm.{MemberTerm}
use Rattle.typing_cases.specs.tagged.Members.{AllFit}
use Rattle.typing_cases.proofs.tagged.add_tagged.Goals as goal

pub new_union-requires : goal.new_union-requires
new_union-requires c =
    let P : List MemberTerm → Type 0 = λ ms. AllFit c.args.table.now ms in
    subst P c.as_slice.ensures.value (c.all_fit.ensures c.if-not-all_fit.false)

pub new_structure-requires : goal.new_structure-requires
new_structure-requires c =
    let P : List MemberTerm → Type 0 = λ ms. AllFit c.args.table.now ms in
    subst P c.as_slice.ensures.value (c.all_fit.ensures c.if-not-all_fit.false)
