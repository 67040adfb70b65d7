use Rattle.std.proofs.Common.{◌≡◌, ◌⊎◌, ℕ, Option, Some, sym, ◌∙◌, subst, inl, inr}
use Rattle.edge_book.specs.Edges.{Gains}
use Rattle.edge_book.proofs.Gaining.{gains_same, gains_both}
use Rattle.sol_model.specs.Rules.{PassesBack}
use Rattle.new_members.proofs.Answering.{on_ok, none_of}
use Rattle.new_members.proofs.pairs.put_passed.Goals as goal

pub returns : goal.returns
returns c =
    let call = c.args.call.now in
    let function = c.args.function.now in
    let old = c.args.pairs.now.items in
    let mid = c.put_between.new.pairs.items in
    let new = c.put_between-2.new.pairs.items in
    let One : ℕ → ℕ → Type 0 = λ a b. (c.argument_row-one.result ≡ Some a) × (c.parameter_row.result ≡ Some b) in
    let Two : ℕ → ℕ → Type 0 = λ a b. (c.argument_row-other.result ≡ Some a) × (c.parameter_row-2.result ≡ Some b) in
    on_ok c.put_between-2.result (Gains mid new Two) (Gains old new (PassesBack call c.args.passed function))
    (λ g. gains_same old new (λ a b. One a b ⊎ Two a b) (PassesBack call c.args.passed function)
    (λ a b h. subst (λ (p : Option (ℕ × ℕ)). PassesBack call p function a b) (sym c.in-Some.is) (
      none_of function.library (sym c.is_some.ensures ∙ c.if-is_some.false),
      elim h [
        | inl x ↦ inl (sym c.argument_row-one.ensures.value ∙ x.0, sym c.parameter_row.ensures.value ∙ x.1)
        | inr x ↦ inr (sym c.argument_row-other.ensures.value ∙ x.0, sym c.parameter_row-2.ensures.value ∙ x.1)
      ],
    ))
    (λ a b h. let k = subst (λ (p : Option (ℕ × ℕ)). PassesBack call p function a b) c.in-Some.is h in elim k.1 [
      | inl x ↦ inl (c.argument_row-one.ensures.value ∙ x.0, c.parameter_row.ensures.value ∙ x.1)
      | inr x ↦ inr (c.argument_row-other.ensures.value ∙ x.0, c.parameter_row-2.ensures.value ∙ x.1)
    ])
    (gains_both old mid new One Two c.in_ok-put_between.ensures g))
    c.put_between-2.ensures
