use Rattle.std.proofs.Common.{◌≡◌, ℕ, List, sym, subst, ◌∙◌, inl, inr}
use Rattle.c_grammar.specs.Productions.{p_members, p_member, p_field}
use Rattle.c_senses.specs.Tree.{production_at, children_at}
use Rattle.c_senses.specs.Sense.{sense_in}
use Rattle.c_senses.specs.Rows.{declaring_row}
use Rattle.c_results.specs.Standing.{senses_made, Rowed}
use Rattle.tree_reads.specs.Sources.{source_in}
use Rattle.c_structures.proofs.joined.listed_member.Goals as goal

pub returns-then-production-eq-MEMBERS-clause-within : goal.returns-then-production-eq-MEMBERS-clause-within
returns-then-production-eq-MEMBERS-clause-within c = c.members_row.ensures.within c.args.unit.now c.requires.results

pub returns-then-production-eq-MEMBERS-clause-row : goal.returns-then-production-eq-MEMBERS-clause-row
returns-then-production-eq-MEMBERS-clause-row c = λ w uses k flexible.
    let s = source_in c.args.syntax.now uses in
    let sense = sense_in (senses_made c.args.unit.now c.args.results.now) in
    let list : production_at s c.args.at ≡ p_members = sym c.production_of-production.ensures ∙ c.if-production-eq-MEMBERS.true in
    subst (λ (p : ℕ). Rowed c.args.unit.now c.members_row.result (declaring_row w s sense p c.args.at (children_at s c.args.at))) (sym list)
    (subst (λ (xs : List ℕ). Rowed c.args.unit.now c.members_row.result (declaring_row w s sense p_members c.args.at xs)) c.children_of.ensures
    (c.members_row.ensures.row c.args.unit.now w s))

pub returns-then-production-eq-MEMBER-clause-row : goal.returns-then-production-eq-MEMBER-clause-row
returns-then-production-eq-MEMBER-clause-row c = λ w uses k flexible.
    let s = source_in c.args.syntax.now uses in
    let sense = sense_in (senses_made c.args.unit.now c.args.results.now) in
    let own : production_at s c.args.at ≡ p_member = sym c.production_of-production.ensures ∙ c.if-production-eq-MEMBER.true in
    subst (λ (p : ℕ). Rowed c.args.unit.now c.member_declaration.result (declaring_row w s sense p c.args.at (children_at s c.args.at))) (sym own)
    (subst (λ (xs : List ℕ). Rowed c.args.unit.now c.member_declaration.result (declaring_row w s sense p_member c.args.at xs)) c.children_of-children.ensures
    (c.member_declaration.ensures.row w uses k flexible))

pub returns-clause-row : goal.returns-clause-row
returns-clause-row c = λ w uses k flexible.
    let s = source_in c.args.syntax.now uses in
    let sense = sense_in (senses_made c.args.unit.now c.args.results.now) in
    let is = c.production_of-production.ensures in
    let field : production_at s c.args.at ≡ p_field = elim c.requires.production [
      | inl a ↦ absurd (c.if-production-eq-MEMBERS.false (is ∙ a))
      | inr b ↦ elim b [ inl a ↦ absurd (c.if-production-eq-MEMBER.false (is ∙ a)) | inr a ↦ a ]
    ] in
    subst (λ (p : ℕ). Rowed c.listed_field.new.unit c.listed_field.result (declaring_row w s sense p c.args.at (children_at s c.args.at))) (sym field)
    (c.listed_field.ensures.row w uses k flexible)
