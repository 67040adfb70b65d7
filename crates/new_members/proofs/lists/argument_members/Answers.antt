use Rattle.std.proofs.Common.{◌≡◌, ◌↔◌, ℕ, Some, Contains, IfOk, Vec, Global, sym, ◌∙◌, subst}
use Rattle.sol_model.specs.Families.{Has, members}
use Rattle.sol_model.specs.Rules.{IsInArgument}
use Rattle.new_members.proofs.Answering.{if_ok, argument_as}
use Rattle.new_members.proofs.lists.argument_members.Goals as goal

pub returns-then-k-eq0-clause-has : goal.returns-then-k-eq0-clause-has
returns-then-k-eq0-clause-has c =
    subst (λ (n : ℕ). IfOk c.fresh_members.result (λ list. (location : ℕ) → Contains list.items location ↔ IsInArgument (members c.args.rows.now) c.args.call.now c.args.number n location)) (sym c.if-k-eq0.true) c.fresh_members.ensures.has

pub returns-clause-has : goal.returns-clause-has
returns-clause-has c =
    let call = c.args.call.now in
    let F = members c.args.rows.now in
    if_ok c.members_of_any.result
    (λ (list : Vec ℕ Global). (location : ℕ) → (Contains list.items location ↔ ((at : ℕ) × (c.argument_row.result ≡ Some at) × Has F at location)))
    (λ (list : Vec ℕ Global). (location : ℕ) → (Contains list.items location ↔ IsInArgument F call c.args.number c.args.k location))
    (λ list has location. (
      λ h. (let p = (has location).0 h in (argument_as F call c.args.number c.args.k location c.if-k-eq0.false).1 (p.0, sym c.argument_row.ensures.value ∙ p.1, p.2)),
      λ h. (has location).1 (let p = (argument_as F call c.args.number c.args.k location c.if-k-eq0.false).0 h in (p.0, c.argument_row.ensures.value ∙ p.1, p.2)),
    ))
    c.members_of_any.ensures.has
