-- Rows with members that don't fit.
use Rattle.std.proofs.Common.{◌≡◌, ◌↔◌, ℕ, Bool, true, false, List, Contains, sym, ◌∙◌, ap, refl}
use Rattle.std.specs.Prelude.{not, IsTrue}
use Rattle.std.specs.List.{list_any}
use Rattle.sol_model.specs.declared.system.System.{System}
use Rattle.sol_model.specs.Families.{Family, Has}
use Rattle.stop_places.specs.Fits.{fits, HasMisfit}
use Rattle.stop_places.proofs.Pushed.{any_in, in_any}

from_not : (b : Bool) → not b ≡ true → b ≡ false
from_not true h = sym h
from_not false h = refl

pub misfit_is : (system : System) (F : Family) (row number : ℕ) (list : List ℕ) (r : Bool) → r ≡ list_any (λ l. not (fits system number l)) list
    → ((l : ℕ) → Contains list l ↔ Has F row l) → IsTrue r ↔ HasMisfit system F row number
misfit_is system F row number list r is has = (
  (λ h.
      let a = any_in (λ l. not (fits system number l)) list (sym is ∙ h) in (a.0, (has a.0).0 a.1, from_not (fits system number a.0) a.2)),
  (λ h. is ∙ in_any (λ l. not (fits system number l)) list h.0 ((has h.0).1 h.1) (ap not h.2)),
)
