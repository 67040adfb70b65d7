use Rattle.std.proofs.Common.{◌≡◌, ◌↔◌, ℕ, zero, suc, Some, refl, sym, subst}
use Rattle.sol_model.specs.declared.system.CallSite.{CallSite}
use Rattle.sol_model.specs.Families.{Family, Has}
use Rattle.sol_model.specs.Rules.{argument_row, IsInArgument}
use Rattle.edge_book.specs.Edges.{only}
use Rattle.edge_book.proofs.effects.object_of.Goals as goal

pub returns-then-k-eq0-clause-value : goal.returns-then-k-eq0-clause-value
returns-then-k-eq0-clause-value c object =
    subst (λ (k : ℕ). IsInArgument (only c.args.call.now.callee c.args.location) c.args.call.now c.args.number k object ↔ (c.fresh_of.result ≡ Some object)) (sym c.if-k-eq0.true) (c.fresh_of.ensures.value object)

-- what an argument with a number above 0 has stands in its row
in_row : (F : Family) (call : CallSite) (number k object : ℕ) → (k ≡ 0 → ⊥) → IsInArgument F call number k object ↔ ((row : ℕ) × (argument_row call k ≡ Some row) × Has F row object)
in_row F call number zero object some = absurd (some refl)
in_row F call number (suc k) object some = (λ h. h, λ h. h)

pub returns-else-k-eq0-clause-value : goal.returns-else-k-eq0-clause-value
returns-else-k-eq0-clause-value c object =
    let both = in_row (only c.args.call.now.callee c.args.location) c.args.call.now c.args.number c.args.k object c.if-k-eq0.false in
    let told = c.reached_of.ensures.value object in
    (λ h. told.0 (both.0 h), λ h. both.1 (told.1 h))
