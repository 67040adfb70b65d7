-- How many entities units have.
use Rattle.std.proofs.Common.{ℕ, ◌<◌, ◌^◌, get_or, Option, List, length, sym, subst, arith, inl, inr}
use Rattle.std.proofs.lemmas.Option.{slice_get_cases}
use Rattle.std.specs.List.{slice_get}
use Rattle.core_tree.specs.declared.node.Unit.{Unit}
use Rattle.link_names.specs.Externals.{entities_if}

-- the sizes of lists of entities
pub small_entities : (units : List Unit) → ((k : ℕ) (d : Unit) → k < length units → length (get_or units k d).entities.items < 2 ^ 32) → (u : ℕ) → length (entities_if (slice_get units u)) < 2 ^ 32
small_entities units all u = elim (slice_get_cases units u).1 [
  | inl p ↦ subst (λ (o : Option Unit). length (entities_if o) < 2 ^ 32) (sym p.2) (subst (λ (y : Unit). length y.entities.items < 2 ^ 32) p.3 (all u p.0 p.1))
  | inr past ↦ subst (λ (o : Option Unit). length (entities_if o) < 2 ^ 32) (sym past.1) (omega arith)
]
