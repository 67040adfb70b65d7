-- How many entities a unit has.
use Rattle.std.proofs.Common.{◌≡◌, ℕ, ◌<◌, ◌^◌, Option, Some, None, Result, Ok, Err, IfOk, OnOk, List, All, length, refl, ap, subst, arith}
use Rattle.std.specs.List.{slice_get}
use Rattle.std.proofs.lemmas.Option.{slice_get_within, get_or_from_slice_get}
use Rattle.core_tree.specs.declared.node.Unit.{Unit}
use Rattle.link_names.specs.Externals.{entities_if}

pub few : (units : List Unit) → All (λ (x : Unit). length x.entities.items < 2 ^ 32) units → (u : ℕ) → length (entities_if (slice_get units u)) < 2 ^ 32
few units small u = here (slice_get units u) refl
  where
    here : (o : Option Unit) → slice_get units u ≡ o → length (entities_if o) < 2 ^ 32
    here None e = omega arith
    here (Some x) e = subst (λ (y : Unit). length y.entities.items < 2 ^ 32) (get_or_from_slice_get units u x x e) (small u x (slice_get_within units u x e))

-- what holds anyway holds of a result
pub if_ok : {X E P : Type 0} (r : Result X E) → P → IfOk r (λ _. P)
if_ok (Ok x) h = h
if_ok (Err e) h = tt

-- what follows from two facts of a result
pub both_on_ok : {X E P Q R : Type 0} (r : Result X E) → (P → Q → R) → OnOk r P → OnOk r Q → OnOk r R
both_on_ok (Ok x) f p q = f p q
both_on_ok (Err e) f p q = tt
