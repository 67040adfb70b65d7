-- A valid system by functions that their locations know, and locations that their functions stand at.
use Rattle.std.proofs.Common.{◌≡◌, ℕ, zero, suc, ◌<◌, Option, Some, None, IfSome, List, [], ◌∷◌, slice_get, length, refl, sym, ◌∙◌, ap, subst, arith}
use Rattle.std.proofs.lemmas.Option.{same_Some, slice_get_within}
use Rattle.sol_model.specs.declared.system.System.{System}
use Rattle.sol_model.specs.declared.system.LocationFact.{LocationFact}
use Rattle.sol_model.specs.declared.system.Function.{Function}
use Rattle.sol_model.specs.Systems.{IsLocationValid, IsFunctionValid, IsValid}
use Rattle.sol_model.proofs.Members.{All-at}
use Rattle.call_graph.specs.system_check.Owners.{IsAt, IsPlaced, IsOwned}

module _ (system : System) where
  known_of : (location : ℕ) (o : Option ℕ) → IfSome o (λ number. IsAt system number location) → IfSome o (λ number. number < length system.functions)
  known_of location None h = h
  known_of location (Some number) h = slice_get_within system.functions number h.0 h.1

  stands : (location : ℕ) (o : Option ℕ) (number : ℕ) (function : Function) → IfSome o (λ number. IsAt system number location) → slice_get system.functions number ≡ Some function → o ≡ Some number → function.location ≡ location
  stands location o number function h known e =
      let at : IsAt system number location = subst (λ (o' : Option ℕ). IfSome o' (λ number. IsAt system number location)) e h in
      ap (λ (f : Function). f.location) (same_Some _ _ (sym known ∙ at.1)) ∙ at.2

  pub valid_from : ((number : ℕ) (function : Function) → slice_get system.functions number ≡ Some function → IsOwned system number function) → (location : ℕ) (fact : LocationFact) → slice_get system.locations location ≡ Some fact → IsPlaced system location fact → IsLocationValid system location fact
  valid_from owned location fact known placed = record {
    typed = placed.typed;
    nodes = placed.nodes;
    function = known_of location fact.function placed.function;
    own = λ number function there. (
      (λ e. stands location fact.function number function placed.function there e),
      (λ e.
          let owner = owned number function there in
          let same : owner.fact ≡ fact = same_Some _ _ (sym owner.known ∙ ap (slice_get system.locations) e ∙ known) in
          ap (λ (f : LocationFact). f.function) (sym same) ∙ owner.owner),
    );
  }

  element : {X : Type 0} (xs : List X) (i : ℕ) → i < length xs → (x : X) × (slice_get xs i ≡ Some x)
  element [] i h = absurd (omega arith)
  element (x ∷ xs) zero h = (x, refl)
  element (x ∷ xs) (suc i) h = element xs i (omega arith)

  at_of : (location : ℕ) (o : Option ℕ) → IfSome o (λ number. number < length system.functions) → ((number : ℕ) (function : Function) → slice_get system.functions number ≡ Some function → o ≡ Some number → function.location ≡ location) → IfSome o (λ number. IsAt system number location)
  at_of location None h own = h
  at_of location (Some number) h own = let f = element system.functions number h in (f.0, f.1, own number f.0 f.1 refl)

  pub placed_from : IsValid system → (location : ℕ) (fact : LocationFact) → slice_get system.locations location ≡ Some fact → IsPlaced system location fact
  placed_from valid location fact known =
      let ok = valid.locations location fact known in
      record {
        typed = ok.typed;
        nodes = ok.nodes;
        function = at_of location fact.function ok.function (λ number function there e. (ok.own number function there).0 e);
      }

  pub owned_from : IsValid system → (number : ℕ) (function : Function) → slice_get system.functions number ≡ Some function → IsOwned system number function
  owned_from valid number function there =
      let at = element system.locations function.location (All-at (IsFunctionValid system) system.functions number function valid.functions there).location in
      record {
        fact = at.0;
        known = at.1;
        owner = ((valid.locations function.location at.0 at.1).own number function there).1 refl;
      }
