-- What is demanded from some facts is demanded from more, so a fact that is given from facts of a closed family is
-- in that family.
use Rattle.std.proofs.Common.{◌≡◌, Bool, true, false, IsTrue, refl, ℕ, zero, suc, Option, Some, None, inl, inr, sym, subst, IsFalse}
use Rattle.std.proofs.lemmas.Bool.{both_ways}
use Rattle.pta_base.specs.declared.effect.Effect.{Effect}
use Rattle.pta_base.specs.declared.effect.Effect.TheVariants.{Nothing, GivesArgument, GivesNew, GivesObject, Copies, StoresInto, CallsBack}
use Rattle.sol_model.specs.declared.system.System.{System}
use Rattle.sol_model.specs.declared.system.CallSite.{CallSite}
use Rattle.sol_model.specs.declared.system.Function.{Function}
use Rattle.sol_model.specs.declared.system.Constraint.{Constraint}
use Rattle.sol_model.specs.declared.system.Constraint.TheVariants.{Address, Copy, Load, Store, Field, Contents, Call}
use Rattle.sol_model.specs.Families.{Family, Has, IsInside, Adds}
use Rattle.sol_model.specs.Rules.{IsTarget, IsInArgument, IsCalledBack, EffectEdge, TargetEdge, DemandsEdge, DemandsFact, Satisfies, Gives}
use Rattle.sol_model.specs.Solutions.{IsLeast, IsClosed, IsBelow, IsGiven}

module _ (system : System) (F G : Family) (inside : IsInside F G) where
  more_target : (call : CallSite) (number : ℕ) (function : Function) → IsTarget system F call number function → IsTarget system G call number function
  more_target call number function t = record { known = t.known; reached = inside _ _ t.reached; agrees = t.agrees }

  pub more_argument : (call : CallSite) (number k location : ℕ) → IsInArgument F call number k location → IsInArgument G call number k location
  more_argument call number zero location h = h
  more_argument call number (suc k) location h = (h.0, h.1, inside _ _ h.2)

  more_called_back : (call : CallSite) (k : ℕ) (passed : Option (ℕ × ℕ)) (number : ℕ) (function : Function) → IsCalledBack system F call k passed number function → IsCalledBack system G call k passed number function
  more_called_back call k passed number function t = record { known = t.known; reached = (t.reached.0, t.reached.1, inside _ _ t.reached.2); agrees = t.agrees }

  more_effect : (call : CallSite) (number : ℕ) (effect : Effect) (a b : ℕ) → EffectEdge system F call number effect a b → EffectEdge system G call number effect a b
  more_effect call number Nothing a b h = h
  more_effect call number (GivesArgument k) a b h = h
  more_effect call number GivesNew a b h = h
  more_effect call number (GivesObject object) a b h = h
  more_effect call number (Copies i j) a b h = (h.0, h.1, more_argument call number i h.0 h.2, more_argument call number j h.1 h.3, h.4)
  more_effect call number (StoresInto i j) a b h = (h.0, h.1, inside _ _ h.2, h.3)
  more_effect call number (CallsBack k passed) a b h = (h.0, h.1, more_called_back call k passed h.0 h.1 h.2, h.3)

  more_target_edge : (call : CallSite) (number : ℕ) (function : Function) (library : Option ℕ) (a b : ℕ) → TargetEdge system F call number function library a b → TargetEdge system G call number function library a b
  more_target_edge call number function None a b h = h
  more_target_edge call number function (Some library) a b h = (h.0, h.1, more_effect call number h.0 a b h.2)

  pub more_edge : (constraint : Constraint) (a b : ℕ) → DemandsEdge system F constraint a b → DemandsEdge system G constraint a b
  more_edge (Address row location) a b h = h
  more_edge (Copy from to) a b h = h
  more_edge (Load pointer to ty sub) a b h = (h.0, inside _ _ h.1, h.2, h.3)
  more_edge (Store pointer from ty sub) a b h = (h.0, inside _ _ h.1, h.2, h.3)
  more_edge (Field from to ty member) a b h = h
  more_edge (Contents to from) a b h = (h.0, h.1, inside _ _ h.2, inside _ _ h.3, h.4)
  more_edge (Call number) a b h =
      (h.0, h.1, h.2, h.3, more_target h.0 h.1 h.2 h.4, more_target_edge h.0 h.1 h.2 (h.2).library a b h.5)

  pub more_fact : (constraint : Constraint) (row location : ℕ) → DemandsFact system F constraint row location → DemandsFact system G constraint row location
  more_fact (Address to what) row location h = h
  more_fact (Copy from to) row location h = h
  more_fact (Load pointer to ty sub) row location h = h
  more_fact (Store pointer from ty sub) row location h = h
  more_fact (Field from to ty member) row location h = (h.0, inside _ _ h.1, h.2, h.3)
  more_fact (Contents to from) row location h = h
  more_fact (Call number) row location h = (h.0, h.1, h.2, h.3, more_target h.0 h.1 h.2 h.4, h.5)

  -- a fact that a constraint gives is in each family that satisfies its rule
  pub given_in_satisfied : (constraint : Constraint) (row location : ℕ) → Satisfies system G constraint → Gives system F constraint row location → Has G row location
  given_in_satisfied constraint row location met given = elim given [
    | inl fact ↦ met.facts row location (more_fact constraint row location fact)
    | inr edge ↦ met.edges edge.0 row (more_edge constraint edge.0 row edge.1) location (inside _ _ edge.2)
  ]

  pub given_in_closed : (row location : ℕ) → IsClosed system G → IsGiven system F row location → Has G row location
  given_in_closed row location closed given = given_in_satisfied given.0 row location (closed given.0 given.1) given.2

-- a family below each closed one stays so when it gets a given fact
pub IsBelow-added : (system : System) (F new : Family) (row location : ℕ) → IsBelow system F → IsGiven system F row location → Adds F new row location → IsBelow system new
IsBelow-added system F new row location below given adds G closed r l h = elim (adds.nothing_else r l h) [
  | inl old ↦ below G closed r l old
  | inr here ↦ subst (λ r'. Has G r' l) (sym here.0) (subst (λ l'. Has G row l') (sym here.1) (given_in_closed system F G (below G closed) row location closed given))
]

-- a family that lacks a fact which its own facts give is not closed
pub not_closed : (system : System) (F : Family) (row location : ℕ) → IsGiven system F row location → IsFalse (F row location) → IsClosed system F → ⊥
not_closed system F row location given lacks closed =
    both_ways _ lacks (given_in_closed system F F (λ r l h. h) row location closed given)

same_tests : (a b : Bool) → (IsTrue a → IsTrue b) → (IsTrue b → IsTrue a) → a ≡ b
same_tests true b h k = sym (h refl)
same_tests false true h k = k refl
same_tests false false h k = refl

-- there is one least family
pub same_least : (system : System) (F G : Family) → IsLeast system F → IsLeast system G → (row location : ℕ) → F row location ≡ G row location
same_least system F G least_F least_G row location =
    same_tests (F row location) (G row location) (least_F.below G least_G.closed row location) (least_G.below F least_F.closed row location)
