use Rattle.std.proofs.Common.{ℕ, Option, is_some, cond, ap}
use Rattle.core_tree.specs.declared.node.Storage.TheVariants.{Static, Automatic}
use Rattle.unit_names.proofs.literals.literal_storage.Goals as goal

pub returns-in-Some : goal.returns-in-Some
returns-in-Some c = λ u uses. ap (λ (o : Option ℕ). cond (is_some o) Automatic Static) (c.in-Some.ensures.name u)

pub returns-in-None : goal.returns-in-None
returns-in-None c = λ u uses. ap (λ (o : Option ℕ). cond (is_some o) Automatic Static) (c.in-None.ensures.name u)
