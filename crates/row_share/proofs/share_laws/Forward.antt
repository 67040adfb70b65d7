-- What a rule demands of new rows follows what it demands of old ones, and the other way round, where a family of old rows
-- takes the sets of their new rows.
use Rattle.std.proofs.Common.{◌≡◌, ℕ, zero, suc, List, map, eqb, Option, Some, None, slice_get, option_map, option_and_then, Contains, refl, sym, ◌∙◌, ap, subst, inl, inr}
use Rattle.std.specs.Option.{option_map_or}
use Rattle.std.proofs.lemmas.Option.{slice_get-map}
use Rattle.pta_base.specs.declared.effect.Effect.{Effect}
use Rattle.pta_base.specs.declared.effect.Effect.TheVariants.{Nothing, GivesArgument, GivesNew, GivesObject, Copies, StoresInto, CallsBack}
use Rattle.sol_model.specs.declared.system.System.{System}
use Rattle.sol_model.specs.declared.system.TypeFact.{TypeFact}
use Rattle.sol_model.specs.declared.system.LocationFact.{LocationFact}
use Rattle.sol_model.specs.declared.system.CallSite.{CallSite}
use Rattle.sol_model.specs.declared.system.Function.{Function}
use Rattle.sol_model.specs.declared.system.Constraint.{Constraint}
use Rattle.sol_model.specs.declared.system.Constraint.TheVariants.{Address, Copy, Load, Store, Field, Contents, Call}
use Rattle.sol_model.specs.Families.{Family, Has}
use Rattle.sol_model.specs.Places.{node_from, sub_of, member_position, field_of, pairs_of, pairs_between, deep}
use Rattle.sol_model.specs.Rules.{IsInArgument, PassesBack, EffectEdge, EffectFact, TargetEdge, TargetFact, DemandsEdge, DemandsFact, first_row, argument_row, parameter_row}
use Rattle.sol_model.specs.Systems.{IsValid, IsLocation, IsConstraintValid}
use Rattle.sol_model.proofs.InRange.{sub_location, deep_locations}
use Rattle.row_share.specs.share_laws.Renumbering.{renumbered, renumbered_call, renumbered_function}
use Rattle.row_share.proofs.share_laws.Parts.{zip_forward, zip_back, mapped_some, argument_new, parameter_new, result_new, joined_forward, joined_back}

-- the parts of a system that rules read, with new numbers for rows
pub record IsRenumbered (S T : System) (new : ℕ → ℕ) : Type 0 where
  pub valid : IsValid S
  pub locations : T.locations ≡ S.locations
  pub types : T.types ≡ S.types
  pub calls : T.calls ≡ map (renumbered_call new) S.calls
  pub functions : T.functions ≡ map (renumbered_function new) S.functions
  pub fixed : (location : ℕ) → IsLocation S location → new location ≡ location

abbrev pub over : Family → (ℕ → ℕ) → Family
over G new = λ row location. G (new row) location

-- a pair of new rows that stems from a pair of old ones
abbrev pub Stems : (ℕ → ℕ) → (ℕ → ℕ → Type 0) → ℕ → ℕ → Type 0
Stems new Edge a' b' = (a : ℕ) × (b : ℕ) × (a' ≡ new a) × (b' ≡ new b) × Edge a b

module _ (S T : System) (new : ℕ → ℕ) (is : IsRenumbered S T new) where
  pub same_sub : (l ty sub : ℕ) → sub_of T l ty sub ≡ sub_of S l ty sub
  same_sub l ty sub = ap (λ (facts : List LocationFact). node_from (slice_get facts l) l ty sub) is.locations

  pub same_field : (l ty member : ℕ) → field_of T l ty member ≡ field_of S l ty member
  same_field l ty member =
      ap (λ (facts : List LocationFact). option_and_then (λ distance. node_from (slice_get facts l) l ty distance) (member_position T ty member)) is.locations
      ∙ ap (λ (facts : List TypeFact). option_and_then (λ distance. node_from (slice_get S.locations l) l ty distance) (option_and_then (λ (fact : TypeFact). slice_get fact.members member) (slice_get facts ty))) is.types

  same_pairs : (o p : Option LocationFact) (d s : ℕ) → pairs_between T o p d s ≡ pairs_between S o p d s
  same_pairs None p d s = refl
  same_pairs (Some target) None d s = refl
  same_pairs (Some target) (Some source) d s =
      ap (λ (facts : List TypeFact). pairs_of target.collapsed source.collapsed (eqb target.ty source.ty) d s (option_map_or (λ (fact : TypeFact). fact.nodes) (slice_get facts target.ty) 0) (option_map_or (λ (fact : TypeFact). fact.nodes) (slice_get facts source.ty) 0)) is.types

  pub same_deep : (d s : ℕ) → deep T d s ≡ deep S d s
  same_deep d s =
      ap (λ (facts : List LocationFact). pairs_between T (slice_get facts d) (slice_get facts s) d s) is.locations
      ∙ same_pairs (slice_get S.locations d) (slice_get S.locations s) d s

  pub known_call : (number : ℕ) (call : CallSite) → slice_get S.calls number ≡ Some call → slice_get T.calls number ≡ Some (renumbered_call new call)
  known_call number call h = ap (λ (calls : List CallSite). slice_get calls number) is.calls ∙ slice_get-map (renumbered_call new) S.calls number ∙ ap (option_map (renumbered_call new)) h

  pub known_function : (number : ℕ) (function : Function) → slice_get S.functions number ≡ Some function → slice_get T.functions number ≡ Some (renumbered_function new function)
  known_function number function h = ap (λ (functions : List Function). slice_get functions number) is.functions ∙ slice_get-map (renumbered_function new) S.functions number ∙ ap (option_map (renumbered_function new)) h

  pub call_back : (number : ℕ) (call' : CallSite) → slice_get T.calls number ≡ Some call' → (call : CallSite) × (slice_get S.calls number ≡ Some call) × (call' ≡ renumbered_call new call)
  call_back number call' h = mapped_some (renumbered_call new) (slice_get S.calls number) call' (sym (slice_get-map (renumbered_call new) S.calls number) ∙ ap (λ (calls : List CallSite). slice_get calls number) (sym is.calls) ∙ h)

  pub function_back : (number : ℕ) (function' : Function) → slice_get T.functions number ≡ Some function' → (function : Function) × (slice_get S.functions number ≡ Some function) × (function' ≡ renumbered_function new function)
  function_back number function' h = mapped_some (renumbered_function new) (slice_get S.functions number) function' (sym (slice_get-map (renumbered_function new) S.functions number) ∙ ap (λ (functions : List Function). slice_get functions number) (sym is.functions) ∙ h)

  pub deep_forward : (d s a b : ℕ) → Contains (deep S d s) (b, a) → Contains (deep T d s) (new b, new a)
  deep_forward d s a b h =
      let p = deep_locations S is.valid d s b a h in
      subst (λ (pairs : List (ℕ × ℕ)). Contains pairs (new b, new a)) (sym (same_deep d s))
      (subst (λ (x : ℕ). Contains (deep S d s) (x, new a)) (sym (is.fixed b p.0))
      (subst (λ (y : ℕ). Contains (deep S d s) (b, y)) (sym (is.fixed a p.1)) h))

  pub deep_back : (d s a b : ℕ) → Contains (deep T d s) (b, a) → (a ≡ new a) × (b ≡ new b) × Contains (deep S d s) (b, a)
  deep_back d s a b h =
      let old : Contains (deep S d s) (b, a) = subst (λ (pairs : List (ℕ × ℕ)). Contains pairs (b, a)) (same_deep d s) h in
      let p = deep_locations S is.valid d s b a old in
      (sym (is.fixed a p.1), sym (is.fixed b p.0), old)

  pub argument_forward : (call : CallSite) (k row : ℕ) → argument_row call k ≡ Some row → argument_row (renumbered_call new call) k ≡ Some (new row)
  argument_forward call k row h = argument_new new call k ∙ ap (option_map new) h

  pub argument_back : (call : CallSite) (k row' : ℕ) → argument_row (renumbered_call new call) k ≡ Some row' → (row : ℕ) × (argument_row call k ≡ Some row) × (row' ≡ new row)
  argument_back call k row' h = mapped_some new (argument_row call k) row' (sym (argument_new new call k) ∙ h)

  parameter_forward : (function : Function) (k row : ℕ) → parameter_row function k ≡ Some row → parameter_row (renumbered_function new function) k ≡ Some (new row)
  parameter_forward function k row h = parameter_new new function k ∙ ap (option_map new) h

  parameter_back : (function : Function) (k row' : ℕ) → parameter_row (renumbered_function new function) k ≡ Some row' → (row : ℕ) × (parameter_row function k ≡ Some row) × (row' ≡ new row)
  parameter_back function k row' h = mapped_some new (parameter_row function k) row' (sym (parameter_new new function k) ∙ h)

  result_forward : (rows : List ℕ) (row : ℕ) → first_row rows ≡ Some row → first_row (map new rows) ≡ Some (new row)
  result_forward rows row h = result_new new rows ∙ ap (option_map new) h

  result_back : (rows : List ℕ) (row' : ℕ) → first_row (map new rows) ≡ Some row' → (row : ℕ) × (first_row rows ≡ Some row) × (row' ≡ new row)
  result_back rows row' h = mapped_some new (first_row rows) row' (sym (result_new new rows) ∙ h)

  passes_forward : (call : CallSite) (passed : Option (ℕ × ℕ)) (function : Function) (a b : ℕ) → PassesBack call passed function a b → PassesBack (renumbered_call new call) passed (renumbered_function new function) (new a) (new b)
  passes_forward call None function a b h = absurd h
  passes_forward call (Some pair) function a b h = (
    h.0,
    elim h.1 [
      | inl p ↦ inl (argument_forward call pair.0 a p.0, parameter_forward function 0 b p.1)
      | inr p ↦ inr (argument_forward call pair.1 a p.0, parameter_forward function 1 b p.1)
    ],
  )

  passes_stem : (call : CallSite) (passed : Option (ℕ × ℕ)) (function : Function) (a' b' : ℕ) → PassesBack (renumbered_call new call) passed (renumbered_function new function) a' b' → Stems new (PassesBack call passed function) a' b'
  passes_stem call None function a' b' h = absurd h
  passes_stem call (Some pair) function a' b' h = elim h.1 [
    | inl p ↦ (let a = argument_back call pair.0 a' p.0 in let b = parameter_back function 0 b' p.1 in (a.0, b.0, a.2, b.2, (h.0, inl (a.1, b.1))))
    | inr p ↦ (let a = argument_back call pair.1 a' p.0 in let b = parameter_back function 1 b' p.1 in (a.0, b.0, a.2, b.2, (h.0, inr (a.1, b.1))))
  ]

  module _ (G : Family) (range : (row location : ℕ) → Has G row location → IsLocation S location) where
    in_forward : (call : CallSite) (number k location : ℕ) → IsInArgument (over G new) call number k location → IsInArgument G (renumbered_call new call) number k location
    in_forward call number zero location h = h
    in_forward call number (suc k) location h = (new h.0, argument_forward call (suc k) h.0 h.1, h.2)

    in_back : (call : CallSite) (number k location : ℕ) → IsInArgument G (renumbered_call new call) number k location → IsInArgument (over G new) call number k location
    in_back call number zero location h = h
    in_back call number (suc k) location h = let r = argument_back call (suc k) h.0 h.1 in (r.0, r.1, subst (λ (row : ℕ). Has G row location) r.2 h.2)

    effect_forward : (call : CallSite) (number : ℕ) (effect : Effect) (a b : ℕ) → EffectEdge S (over G new) call number effect a b → EffectEdge T G (renumbered_call new call) number effect (new a) (new b)
    effect_forward call number Nothing a b h = absurd h
    effect_forward call number (GivesArgument k) a b h = (argument_forward call k a h.0, result_forward call.result b h.1)
    effect_forward call number GivesNew a b h = absurd h
    effect_forward call number (GivesObject object) a b h = absurd h
    effect_forward call number (Copies i j) a b h = (h.0, h.1, in_forward call number i h.0 h.2, in_forward call number j h.1 h.3, deep_forward h.0 h.1 a b h.4)
    effect_forward call number (StoresInto i j) a b h = (new h.0, argument_forward call i h.0 h.1, subst (λ (x : ℕ). Has G (new h.0) x) (sym (is.fixed b (range (new h.0) b h.2))) h.2, argument_forward call j a h.3)
    effect_forward call number (CallsBack k passed) a b h = (
      h.0,
      renumbered_function new h.1,
      record {
        known = known_function h.0 h.1 h.2.known;
        reached = (new h.2.reached.0, argument_forward call k h.2.reached.0 h.2.reached.1, h.2.reached.2);
        agrees = h.2.agrees;
      },
      passes_forward call passed h.1 a b h.3,
    )

    effect_stem : (call : CallSite) (number : ℕ) (effect : Effect) (a' b' : ℕ) → EffectEdge T G (renumbered_call new call) number effect a' b' → Stems new (EffectEdge S (over G new) call number effect) a' b'
    effect_stem call number Nothing a' b' h = absurd h
    effect_stem call number (GivesArgument k) a' b' h = let a = argument_back call k a' h.0 in let b = result_back call.result b' h.1 in (a.0, b.0, a.2, b.2, (a.1, b.1))
    effect_stem call number GivesNew a' b' h = absurd h
    effect_stem call number (GivesObject object) a' b' h = absurd h
    effect_stem call number (Copies i j) a' b' h = let p = deep_back h.0 h.1 a' b' h.4 in (a', b', p.0, p.1, (h.0, h.1, in_back call number i h.0 h.2, in_back call number j h.1 h.3, p.2))
    effect_stem call number (StoresInto i j) a' b' h =
        let row = argument_back call i h.0 h.1 in
        let a = argument_back call j a' h.3 in
        (a.0, b', a.2, sym (is.fixed b' (range h.0 b' h.2)), (row.0, row.1, subst (λ (r : ℕ). Has G r b') row.2 h.2, a.1))
    effect_stem call number (CallsBack k passed) a' b' h =
        let f = function_back h.0 h.1 h.2.known in
        let row = argument_back call k h.2.reached.0 h.2.reached.1 in
        let p = passes_stem call passed f.0 a' b' (subst (λ (function : Function). PassesBack (renumbered_call new call) passed function a' b') f.2 h.3) in (
          p.0,
          p.1,
          p.2,
          p.3,
          (
            h.0,
            f.0,
            record {
              known = f.1;
              reached = (row.0, row.1, subst (λ (r : ℕ). Has G r f.0.location) row.2 (subst (λ (function : Function). Has G h.2.reached.0 function.location) f.2 h.2.reached.2));
              agrees = ap (λ (function : Function). function.signature) (sym f.2) ∙ h.2.agrees;
            },
            p.4,
          ),
        )

    target_forward : (call : CallSite) (number : ℕ) (function : Function) (library : Option ℕ) (a b : ℕ) → TargetEdge S (over G new) call number function library a b → TargetEdge T G (renumbered_call new call) number (renumbered_function new function) library (new a) (new b)
    target_forward call number function None a b h = elim h [
      | inl joined ↦ inl (joined_forward new call.arguments function.parameters a b joined)
      | inr pair ↦ inr (zip_forward new function.result call.result a b pair)
    ]
    target_forward call number function (Some library) a b h = (h.0, h.1, effect_forward call number h.0 a b h.2)

    target_stem : (call : CallSite) (number : ℕ) (function : Function) (library : Option ℕ) (a' b' : ℕ) → TargetEdge T G (renumbered_call new call) number (renumbered_function new function) library a' b' → Stems new (TargetEdge S (over G new) call number function library) a' b'
    target_stem call number function None a' b' h = elim h [
      | inl joined ↦ (let j = joined_back new call.arguments function.parameters a' b' joined in (j.0, j.1, j.2, j.3, inl j.4))
      | inr pair ↦ (let j = zip_back new function.result call.result a' b' pair in (j.0, j.1, j.2, j.3, inr j.4))
    ]
    target_stem call number function (Some library) a' b' h = let e = effect_stem call number h.0 a' b' h.2 in (e.0, e.1, e.2, e.3, (h.0, h.1, e.4))

    pub edge_forward : (constraint : Constraint) (a b : ℕ) → IsConstraintValid S constraint → DemandsEdge S (over G new) constraint a b → DemandsEdge T G (renumbered new constraint) (new a) (new b)
    edge_forward (Address row location) a b ok h = absurd h
    edge_forward (Copy from to) a b ok h = (ap new h.0, ap new h.1)
    edge_forward (Load pointer to ty sub) a b ok h = (h.0, h.1, same_sub h.0 ty sub ∙ h.2 ∙ ap Some (sym (is.fixed a (sub_location S is.valid h.0 ty sub a ok.2 h.2))), ap new h.3)
    edge_forward (Store pointer from ty sub) a b ok h = (h.0, h.1, same_sub h.0 ty sub ∙ h.2 ∙ ap Some (sym (is.fixed b (sub_location S is.valid h.0 ty sub b ok.2 h.2))), ap new h.3)
    edge_forward (Field from to ty member) a b ok h = absurd h
    edge_forward (Contents to from) a b ok h = (h.0, h.1, h.2, h.3, deep_forward h.0 h.1 a b h.4)
    edge_forward (Call number) a b ok h = (
      renumbered_call new h.0,
      h.1,
      renumbered_function new h.2,
      known_call number h.0 h.3,
      record {
        known = known_function h.1 h.2 h.4.known;
        reached = h.4.reached;
        agrees = h.4.agrees;
      },
      target_forward h.0 h.1 h.2 (h.2).library a b h.5,
    )

    pub edge_stem : (constraint : Constraint) (a' b' : ℕ) → IsConstraintValid S constraint → DemandsEdge T G (renumbered new constraint) a' b' → Stems new (DemandsEdge S (over G new) constraint) a' b'
    edge_stem (Address row location) a' b' ok h = absurd h
    edge_stem (Copy from to) a' b' ok h = (from, to, h.0, h.1, (refl, refl))
    edge_stem (Load pointer to ty sub) a' b' ok h =
        let old = sym (same_sub h.0 ty sub) ∙ h.2 in
        (a', to, sym (is.fixed a' (sub_location S is.valid h.0 ty sub a' ok.2 old)), h.3, (h.0, h.1, old, refl))
    edge_stem (Store pointer from ty sub) a' b' ok h =
        let old = sym (same_sub h.0 ty sub) ∙ h.2 in
        (from, b', h.3, sym (is.fixed b' (sub_location S is.valid h.0 ty sub b' ok.2 old)), (h.0, h.1, old, refl))
    edge_stem (Field from to ty member) a' b' ok h = absurd h
    edge_stem (Contents to from) a' b' ok h = let p = deep_back h.0 h.1 a' b' h.4 in (a', b', p.0, p.1, (h.0, h.1, h.2, h.3, p.2))
    edge_stem (Call number) a' b' ok h =
        let c = call_back number h.0 h.3 in
        let f = function_back h.1 h.2 h.4.known in
        let edge = subst (λ (function : Function). TargetEdge T G (renumbered_call new c.0) h.1 function function.library a' b') f.2
        (subst (λ (call : CallSite). TargetEdge T G call h.1 h.2 (h.2).library a' b') c.2 h.5) in
        let e = target_stem c.0 h.1 f.0 (f.0).library a' b' edge in (
          e.0,
          e.1,
          e.2,
          e.3,
          (
            c.0,
            h.1,
            f.0,
            c.1,
            record {
              known = f.1;
              reached = subst (λ (call : CallSite). Has G call.callee f.0.location) c.2 (subst (λ (function : Function). Has G (h.0).callee function.location) f.2 h.4.reached);
              agrees = ap (λ (function : Function). function.signature) (sym f.2) ∙ h.4.agrees ∙ ap (λ (call : CallSite). call.signature) c.2;
            },
            e.4,
          ),
        )

    effect_same : (call : CallSite) (number : ℕ) (effect : Effect) (row location : ℕ) → EffectFact call number effect row location → EffectFact (renumbered_call new call) number effect (new row) location
    effect_same call number Nothing row location h = absurd h
    effect_same call number (GivesArgument k) row location h = absurd h
    effect_same call number GivesNew row location h = (result_forward call.result row h.0, h.1)
    effect_same call number (GivesObject object) row location h = (result_forward call.result row h.0, h.1)
    effect_same call number (Copies i j) row location h = absurd h
    effect_same call number (StoresInto i j) row location h = absurd h
    effect_same call number (CallsBack k passed) row location h = absurd h

    target_same : (call : CallSite) (number : ℕ) (function : Function) (library : Option ℕ) (row location : ℕ) → TargetFact call number function library row location → TargetFact (renumbered_call new call) number (renumbered_function new function) library (new row) location
    target_same call number function None row location h = absurd h
    target_same call number function (Some library) row location h = (h.0, h.1, effect_same call number h.0 row location h.2)

    effect_was : (call : CallSite) (number : ℕ) (effect : Effect) (row' location : ℕ) → EffectFact (renumbered_call new call) number effect row' location → (row : ℕ) × (row' ≡ new row) × EffectFact call number effect row location
    effect_was call number Nothing row' location h = absurd h
    effect_was call number (GivesArgument k) row' location h = absurd h
    effect_was call number GivesNew row' location h = let r = result_back call.result row' h.0 in (r.0, r.2, (r.1, h.1))
    effect_was call number (GivesObject object) row' location h = let r = result_back call.result row' h.0 in (r.0, r.2, (r.1, h.1))
    effect_was call number (Copies i j) row' location h = absurd h
    effect_was call number (StoresInto i j) row' location h = absurd h
    effect_was call number (CallsBack k passed) row' location h = absurd h

    target_was : (call : CallSite) (number : ℕ) (function : Function) (library : Option ℕ) (row' location : ℕ) → TargetFact (renumbered_call new call) number (renumbered_function new function) library row' location → (row : ℕ) × (row' ≡ new row) × TargetFact call number function library row location
    target_was call number function None row' location h = absurd h
    target_was call number function (Some library) row' location h = let r = effect_was call number h.0 row' location h.2 in (r.0, r.1, (h.0, h.1, r.2))

    pub fact_forward : (constraint : Constraint) (row location : ℕ) → DemandsFact S (over G new) constraint row location → DemandsFact T G (renumbered new constraint) (new row) location
    fact_forward (Address to what) row location h = (ap new h.0, h.1)
    fact_forward (Copy from to) row location h = absurd h
    fact_forward (Load pointer to ty sub) row location h = absurd h
    fact_forward (Store pointer from ty sub) row location h = absurd h
    fact_forward (Field from to ty member) row location h = (h.0, h.1, same_field h.0 ty member ∙ h.2, ap new h.3)
    fact_forward (Contents to from) row location h = absurd h
    fact_forward (Call number) row location h = (
      renumbered_call new h.0,
      h.1,
      renumbered_function new h.2,
      known_call number h.0 h.3,
      record {
        known = known_function h.1 h.2 h.4.known;
        reached = h.4.reached;
        agrees = h.4.agrees;
      },
      target_same h.0 h.1 h.2 (h.2).library row location h.5,
    )

    pub fact_stem : (constraint : Constraint) (row' location : ℕ) → DemandsFact T G (renumbered new constraint) row' location → (row : ℕ) × (row' ≡ new row) × DemandsFact S (over G new) constraint row location
    fact_stem (Address to what) row' location h = (to, h.0, (refl, h.1))
    fact_stem (Copy from to) row' location h = absurd h
    fact_stem (Load pointer to ty sub) row' location h = absurd h
    fact_stem (Store pointer from ty sub) row' location h = absurd h
    fact_stem (Field from to ty member) row' location h = (to, h.3, (h.0, h.1, sym (same_field h.0 ty member) ∙ h.2, refl))
    fact_stem (Contents to from) row' location h = absurd h
    fact_stem (Call number) row' location h =
        let c = call_back number h.0 h.3 in
        let f = function_back h.1 h.2 h.4.known in
        let fact = subst (λ (function : Function). TargetFact (renumbered_call new c.0) h.1 function function.library row' location) f.2
        (subst (λ (call : CallSite). TargetFact call h.1 h.2 (h.2).library row' location) c.2 h.5) in
        let e = target_was c.0 h.1 f.0 (f.0).library row' location fact in (
          e.0,
          e.1,
          (
            c.0,
            h.1,
            f.0,
            c.1,
            record {
              known = f.1;
              reached = subst (λ (call : CallSite). Has G call.callee f.0.location) c.2 (subst (λ (function : Function). Has G (h.0).callee function.location) f.2 h.4.reached);
              agrees = ap (λ (function : Function). function.signature) (sym f.2) ∙ h.4.agrees ∙ ap (λ (call : CallSite). call.signature) c.2;
            },
            e.2,
          ),
        )
