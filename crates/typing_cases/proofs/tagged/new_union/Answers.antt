use Rattle.std.proofs.Common.{◌∙◌, ap, subst, sym, inr, length, ◌<◌, ◌++◌, ◌∷◌, []}
use Rattle.c_types.specs.declared.term.Term.TheVariants.{Union}
use Rattle.c_types.specs.Table.{Table, extent_in, type_of}
use Rattle.c_types.proofs.Plain.{last_term}
use Rattle.typing_cases.proofs.tagged.Members.{fit_members}
use Rattle.typing_cases.proofs.tagged.new_union.Goals as goal

pub complete-requires-clause-incomplete : goal.complete-requires-clause-incomplete
complete-requires-clause-incomplete c =
    rw (c.in_ok-id.ensures.ok, c.in_ok-tag.ensures.ok) c.in_ok-tag.ensures.fresh.incomplete

pub complete-requires-clause-stands : goal.complete-requires-clause-stands
complete-requires-clause-stands c =
    rw c.in_ok-id.ensures.ok (inr (length c.tag.new.self.terms, last_term c.tag.new.self.terms (Union c.in_ok-tag.tag)))

pub complete-requires-clause-members : goal.complete-requires-clause-members
complete-requires-clause-members c =
    let same = c.in_ok-tag.ensures.ok in
    fit_members c.args.table.now c.add.new.self (Union c.in_ok-tag.tag) c.in_ok-tag.tag c.args.members.items
    (ap (λ (t : Table). t.terms) c.in_ok-id.ensures.ok ∙ ap (λ (t : Table). t.terms ++ Union c.in_ok-tag.tag ∷ []) same)
    (λ i lt. c.in_ok-id.ensures.kept i (subst (λ (t : Table). i < length t.terms) (sym same) lt) ∙ ap (λ (t : Table). type_of t i) same)
    (λ x. c.in_ok-id.ensures.extents x ∙ ap (λ (t : Table). extent_in t x) same) c.requires
