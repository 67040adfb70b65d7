use Rattle.std.proofs.Common.{◌≡◌, ℕ, sym, ◌∙◌}
use Rattle.edge_book.proofs.Gaining.{gains_same}
use Rattle.sol_model.specs.declared.system.Constraint.{Constraint}
use Rattle.sol_model.specs.declared.system.Constraint.TheVariants.{Copy, Address}
use Rattle.new_members.proofs.Taking.{takes_one}
use Rattle.new_members.proofs.starting.start_constraint.Goals as goal

same_copy : (from to a b : ℕ) → ◌≡◌ {A = Constraint} (Copy from to) (Copy a b) → (a ≡ from) × (b ≡ to)
same_copy from to a b e = ((cc), (cc))

same_address : (row location a b : ℕ) → ◌≡◌ {A = Constraint} (Address row location) (Address a b) → (a ≡ row) × (b ≡ location)
same_address row location a b e = ((cc), (cc))

pub returns-in_ok-add-in-Copy-clause-book : goal.returns-in_ok-add-in-Copy-clause-book
returns-in_ok-add-in-Copy-clause-book c =
    let from : ℕ = c.in-Copy.from in
    let to : ℕ = c.in-Copy.to in
    gains_same c.args.book.now c.add.new.self (λ a b. (a ≡ from) × (b ≡ to)) (λ a b. c.args.constraint ≡ Copy a b)
    (λ a b h. c.in-Copy.is ∙ (λ i. Copy (sym h.0 i) (sym h.1 i)))
    (λ a b h. same_copy from to a b (sym c.in-Copy.is ∙ h))
    (takes_one c.args.book.now c.add.new.self from to c.in_ok-add-in-Copy.field-0 c.in_ok-add-in-Copy.ensures.added c.in_ok-add-in-Copy.ensures.new).gains

pub returns-in_ok-put-in-Address-clause-facts : goal.returns-in_ok-put-in-Address-clause-facts
returns-in_ok-put-in-Address-clause-facts c =
    let row : ℕ = c.in-Address.row in
    let location : ℕ = c.in-Address.location in
    gains_same c.args.facts.now.items c.put.new.pairs.items (λ a b. (a ≡ row) × (b ≡ location)) (λ a b. c.args.constraint ≡ Address a b)
    (λ a b h. c.in-Address.is ∙ (λ i. Address (sym h.0 i) (sym h.1 i)))
    (λ a b h. same_address row location a b (sym c.in-Address.is ∙ h))
    c.in_ok-put-in-Address.ensures
