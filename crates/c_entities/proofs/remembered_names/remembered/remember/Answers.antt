use Rattle.std.proofs.Common.{inl, inr, subst}
use Rattle.c_entities.specs.declared.remembered_names.remembered.Remembered.{Remembered}
use Rattle.c_entities.specs.remembered_names.Remembering.{IsRemembered}
use Rattle.c_entities.proofs.remembered_names.remembered.remember.Goals as goal

pub returns-then-place-len : goal.returns-then-place-len
returns-then-place-len c = λ syntax results right all slot e at.
    elim (c.put.ensures slot e at) [
      | inl old ↦ all slot e old
      | inr new ↦ subst (λ (x : Remembered). IsRemembered syntax results x) new right
    ]
