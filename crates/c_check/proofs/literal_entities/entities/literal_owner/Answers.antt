use Rattle.std.proofs.Common.{◌∙◌, ℕ, Bool, Option, None, cond, ap, sym}
use Rattle.c_check.proofs.literal_entities.entities.literal_owner.Goals as goal

pub returns-then-is_in_function : goal.returns-then-is_in_function
returns-then-is_in_function c = λ u uses. ap (λ (b : Bool). cond {A = Option ℕ} b c.args.owner None) (sym c.if-is_in_function.true ∙ c.is_in_function.ensures u)

pub returns-else-is_in_function : goal.returns-else-is_in_function
returns-else-is_in_function c = λ u uses. ap (λ (b : Bool). cond {A = Option ℕ} b c.args.owner None) (sym c.if-is_in_function.false ∙ c.is_in_function.ensures u)
