-- In a valid system what a rule demands has rows and locations in range.
use Rattle.std.proofs.Common.{◌≡◌, ◌⊎◌, ℕ, zero, suc, ◌+◌, ◌*◌, ◌^◌, ◌<◌, ◌≤◌, Bool, true, false, cond, eqb, List, [], ◌∷◌, length, Contains, All, Option, Some, None, slice_get, option_and_then, refl, sym, ap, subst, inl, inr, arith}
use Rattle.std.specs.List.{range_with_len}
use Rattle.std.proofs.lemmas.Bool.{eqb-true}
use Rattle.std.proofs.lemmas.Option.{none-some, same_Some, slice_get_within, option_and_then_some}
use Rattle.std.proofs.lemmas.List.Elements.{All-contains}
use Rattle.pta_base.specs.declared.effect.Effect.{Effect}
use Rattle.pta_base.specs.declared.effect.Effect.TheVariants.{Nothing, GivesArgument, GivesNew, GivesObject, Copies, StoresInto, CallsBack}
use Rattle.sol_model.specs.declared.system.System.{System}
use Rattle.sol_model.specs.declared.system.LocationFact.{LocationFact}
use Rattle.sol_model.specs.declared.system.TypeFact.{TypeFact}
use Rattle.sol_model.specs.declared.system.CallSite.{CallSite}
use Rattle.sol_model.specs.declared.system.Function.{Function}
use Rattle.sol_model.specs.declared.system.Constraint.{Constraint}
use Rattle.sol_model.specs.declared.system.Constraint.TheVariants.{Address, Copy, Load, Store, Field, Contents, Call}
use Rattle.sol_model.specs.Families.{Family, Has}
use Rattle.sol_model.specs.Places.{node_from, sub_of, member_position, field_of, nodes_of, pairs_of, pairs_between, deep}
use Rattle.sol_model.specs.Rules.{PassesBack, EffectEdge, EffectFact, TargetEdge, TargetFact, DemandsEdge, DemandsFact, AreJoined, first_row, argument_row, parameter_row}
use Rattle.sol_model.specs.Systems.{IsValid, IsRow, IsLocation, IsNodeOf, IsConstraintValid, IsCallValid, IsFunctionValid, location_count, width_of}
use Rattle.std.proofs.Math.Nat.{mul-le-mul_left}
use Rattle.sol_model.specs.Solutions.{IsGiven}
use Rattle.sol_model.proofs.Members.{at_Contains, All-at, Contains-range, Contains-map, Contains-zip}

-- what a location leads to
lead : (c t : Bool) (l d m : ℕ) → cond c (Some l) (cond t (Some (l + d)) None) ≡ Some m → ((c ≡ true) × (m ≡ l)) ⊎ ((c ≡ false) × (t ≡ true) × (m ≡ l + d))
lead true t l d m e = inl (refl, sym (same_Some _ _ e))
lead false true l d m e = inr (refl, refl, sym (same_Some _ _ e))
lead false false l d m e = absurd (none-some _ e)

-- the two places of a pair are below a bound
pairs_below : (c k t : Bool) (d s m n count a b : ℕ) → d < count → s < count → (c ≡ false → d + m ≤ count) → (k ≡ false → s + n ≤ count) → (t ≡ true → m ≡ n) → Contains (pairs_of c k t d s m n) (a, b) → (a < count) × (b < count)
pairs_below true true t d s m n count a b hd hs rd rs same h =
    let w = at_Contains ((d, s) ∷ []) (a, b) h in
    let first : w.0 ≡ 0 = omega (arith, w.1) in
    let e = same_Some _ _ (subst (λ i. slice_get {X = ℕ × ℕ} ((d, s) ∷ []) i ≡ Some (a, b)) first w.2) in
    (subst (λ x. x < count) (ap (λ x. x.0) e) hd, subst (λ x. x < count) (ap (λ x. x.1) e) hs)
pairs_below true false t d s m n count a b hd hs rd rs same h =
    let w = Contains-map (λ node. (d, node)) (range_with_len s n) (a, b) h in
    let r = Contains-range s n w.0 w.1 in
    let at_a : a ≡ d = ap (λ x. x.0) w.2 in
    let at_b : b ≡ w.0 = ap (λ x. x.1) w.2 in
    let room = rs refl in let lt = r.1 in let is = r.2 in
    (omega arith, omega arith)
pairs_below false true t d s m n count a b hd hs rd rs same h =
    let w = Contains-map (λ node. (node, s)) (range_with_len d m) (a, b) h in
    let r = Contains-range d m w.0 w.1 in
    let at_a : a ≡ w.0 = ap (λ x. x.0) w.2 in
    let at_b : b ≡ s = ap (λ x. x.1) w.2 in
    let room = rd refl in let lt = r.1 in let is = r.2 in
    (omega arith, omega arith)
pairs_below false false true d s m n count a b hd hs rd rs same h =
    let w = Contains-map (λ i. (d + i, s + i)) (range_with_len 0 m) (a, b) h in
    let r = Contains-range 0 m w.0 w.1 in
    let at_a : a ≡ d + w.0 = ap (λ x. x.0) w.2 in
    let at_b : b ≡ s + w.0 = ap (λ x. x.1) w.2 in
    let one = rd refl in let two = rs refl in let eq = same refl in let lt = r.1 in let is = r.2 in
    (omega arith, omega arith)
pairs_below false false false d s m n count a b hd hs rd rs same h = absurd (omega (arith, h.1))

module _ (system : System) (valid : IsValid system) where
  pub row_of_location : (location : ℕ) → IsLocation system location → IsRow system location
  row_of_location location h = let r = valid.rows in omega arith

  node_from_range : (o : Option LocationFact) (l ty d m : ℕ) → slice_get system.locations l ≡ o → node_from o l ty d ≡ Some m → d < nodes_of system ty → IsLocation system m
  node_from_range None l ty d m e h k = absurd (none-some _ h)
  node_from_range (Some fact) l ty d m e h k =
      let here = slice_get_within system.locations l fact e in
      let ok = valid.locations l fact e in
      elim (lead fact.collapsed (eqb fact.ty ty) l d m h) [
        | inl p ↦ subst (IsLocation system) (sym p.1) here
        | inr p ↦
            let same : nodes_of system ty ≡ nodes_of system fact.ty = ap (nodes_of system) (sym (eqb-true _ _ p.1)) in
            let room = ok.nodes p.0 in
            let is = p.2 in
            omega arith
      ]

  pub sub_location : (l ty sub m : ℕ) → IsNodeOf system ty sub → sub_of system l ty sub ≡ Some m → IsLocation system m
  sub_location l ty sub m node h = node_from_range (slice_get system.locations l) l ty sub m refl h node.within

  pub nodes_known : (ty : ℕ) (fact : TypeFact) → slice_get system.types ty ≡ Some fact → nodes_of system ty ≡ fact.nodes
  nodes_known ty fact e = rw e

  pub field_location : (l ty member m : ℕ) → field_of system l ty member ≡ Some m → IsLocation system m
  field_location l ty member m h =
      option_and_then_some (λ distance. node_from (slice_get system.locations l) l ty distance) (member_position system ty member) m h
      (λ distance at to. option_and_then_some (λ (fact : TypeFact). slice_get fact.members member) (slice_get system.types ty) distance at
      (λ fact known position.
      let below : distance < fact.nodes = All-at (λ p. p < fact.nodes) fact.members member distance (All-at (λ (f : TypeFact). All (λ p. p < f.nodes) f.members) system.types ty fact valid.types known) position in
      node_from_range (slice_get system.locations l) l ty distance m refl to (subst (λ n. distance < n) (sym (nodes_known ty fact known)) below)))

  pairs_location : (o p : Option LocationFact) (d s a b : ℕ) → slice_get system.locations d ≡ o → slice_get system.locations s ≡ p → Contains (pairs_between system o p d s) (a, b) → IsLocation system a × IsLocation system b
  pairs_location None p d s a b e f h = absurd (omega (arith, h.1))
  pairs_location (Some target) None d s a b e f h = absurd (omega (arith, h.1))
  pairs_location (Some target) (Some source) d s a b e f h =
      pairs_below target.collapsed source.collapsed (eqb target.ty source.ty) d s _ _ (location_count system) a b
      (slice_get_within system.locations d target e) (slice_get_within system.locations s source f)
      (valid.locations d target e).nodes (valid.locations s source f).nodes
      (λ t. ap (nodes_of system) (eqb-true _ _ t)) h

  -- the pairs that a copy of whole objects joins are locations
  pub deep_locations : (d s a b : ℕ) → Contains (deep system d s) (a, b) → IsLocation system a × IsLocation system b
  deep_locations d s a b h = pairs_location (slice_get system.locations d) (slice_get system.locations s) d s a b refl refl h

  all_rows : (lists : List (List ℕ)) (rows : List ℕ) (row : ℕ) → All (λ rows. All (IsRow system) rows) lists → Contains lists rows → Contains rows row → IsRow system row
  all_rows lists rows row all h k = All-contains (IsRow system) rows row (All-contains (λ rows. All (IsRow system) rows) lists rows all h) k

  first_in_range : (lists : List (List ℕ)) (k row : ℕ) → All (λ rows. All (IsRow system) rows) lists → option_and_then first_row (slice_get lists k) ≡ Some row → IsRow system row
  first_in_range lists k row all h =
      option_and_then_some first_row (slice_get lists k) row h
      (λ rows at first. All-at (IsRow system) rows 0 row (All-at (λ rows. All (IsRow system) rows) lists k rows all at) first)

  pub argument_in_range : (call : CallSite) (k row : ℕ) → IsCallValid system call → argument_row call k ≡ Some row → IsRow system row
  argument_in_range call zero row ok h = absurd (none-some _ h)
  argument_in_range call (suc k) row ok h = first_in_range call.arguments k row ok.arguments h

  pub result_in_range : (call : CallSite) (row : ℕ) → IsCallValid system call → first_row call.result ≡ Some row → IsRow system row
  result_in_range call row ok h = All-at (IsRow system) call.result 0 row ok.result h

  pub parameter_in_range : (function : Function) (k row : ℕ) → IsFunctionValid system function → parameter_row function k ≡ Some row → IsRow system row
  parameter_in_range function k row ok h = first_in_range function.parameters k row ok.parameters h

  joined_rows : (from to : List (List ℕ)) (a b : ℕ) → All (λ rows. All (IsRow system) rows) from → All (λ rows. All (IsRow system) rows) to → AreJoined from to a b → IsRow system a × IsRow system b
  joined_rows from to a b ok_from ok_to h =
      let outer = Contains-zip from to h.0.0 h.0.1 h.1 in
      let inner = Contains-zip h.0.0 h.0.1 a b h.2 in
      (all_rows from h.0.0 a ok_from outer.0 inner.0, all_rows to h.0.1 b ok_to outer.1 inner.1)

  fresh_in_range : (call : CallSite) (number location : ℕ) → IsCallValid system call → Contains call.fresh (number, location) → IsLocation system location
  fresh_in_range call number location ok h = (All-contains (λ (pair : ℕ × ℕ). (pair.0 < length system.functions) × IsLocation system pair.1) call.fresh (number, location) ok.fresh h).1

  passes_back : (call : CallSite) (passed : Option (ℕ × ℕ)) (function : Function) (a b : ℕ) → IsCallValid system call → IsFunctionValid system function → PassesBack call passed function a b → IsRow system a × IsRow system b
  passes_back call None function a b ok known h = absurd h
  passes_back call (Some pair) function a b ok known h = elim h.1 [
    | inl p ↦ (argument_in_range call pair.0 a ok p.0, parameter_in_range function 0 b known p.1)
    | inr p ↦ (argument_in_range call pair.1 a ok p.0, parameter_in_range function 1 b known p.1)
  ]

  module _ (F : Family) (range : (row location : ℕ) → Has F row location → IsRow system row × IsLocation system location) where
    effect_rows : (call : CallSite) (number : ℕ) (effect : Effect) (a b : ℕ) → IsCallValid system call → EffectEdge system F call number effect a b → IsRow system a × IsRow system b
    effect_rows call number Nothing a b ok h = absurd h
    effect_rows call number (GivesArgument k) a b ok h = (argument_in_range call k a ok h.0, result_in_range call b ok h.1)
    effect_rows call number GivesNew a b ok h = absurd h
    effect_rows call number (GivesObject object) a b ok h = absurd h
    effect_rows call number (Copies i j) a b ok h = let p = deep_locations h.0 h.1 b a h.4 in (row_of_location a p.1, row_of_location b p.0)
    effect_rows call number (StoresInto i j) a b ok h = (argument_in_range call j a ok h.3, row_of_location b (range _ _ h.2).1)
    effect_rows call number (CallsBack k passed) a b ok h = passes_back call passed h.1 a b ok (All-at (IsFunctionValid system) system.functions h.0 h.1 valid.functions h.2.known) h.3

    target_rows : (call : CallSite) (number : ℕ) (function : Function) (library : Option ℕ) (a b : ℕ) → IsCallValid system call → IsFunctionValid system function → TargetEdge system F call number function library a b → IsRow system a × IsRow system b
    target_rows call number function None a b ok known h = elim h [
      | inl joined ↦ joined_rows call.arguments function.parameters a b ok.arguments known.parameters joined
      | inr result ↦ (let w = Contains-zip function.result call.result a b result in
          (All-contains (IsRow system) function.result a known.result w.0, All-contains (IsRow system) call.result b ok.result w.1))
    ]
    target_rows call number function (Some library) a b ok known h = effect_rows call number h.0 a b ok h.2

    effect_fact : (call : CallSite) (number : ℕ) (effect : Effect) (row location : ℕ) → IsCallValid system call → EffectFact call number effect row location → IsRow system row × IsLocation system location
    effect_fact call number Nothing row location ok h = absurd h
    effect_fact call number (GivesArgument k) row location ok h = absurd h
    effect_fact call number GivesNew row location ok h = (result_in_range call row ok h.0, fresh_in_range call number location ok h.1)
    effect_fact call number (GivesObject object) row location ok h = (result_in_range call row ok h.0, fresh_in_range call number location ok h.1)
    effect_fact call number (Copies i j) row location ok h = absurd h
    effect_fact call number (StoresInto i j) row location ok h = absurd h
    effect_fact call number (CallsBack k passed) row location ok h = absurd h

    target_fact : (call : CallSite) (number : ℕ) (function : Function) (library : Option ℕ) (row location : ℕ) → IsCallValid system call → TargetFact call number function library row location → IsRow system row × IsLocation system location
    target_fact call number function None row location ok h = absurd h
    target_fact call number function (Some library) row location ok h = effect_fact call number h.0 row location ok h.2

    -- both rows of a demanded edge are rows
    pub edge_rows : (constraint : Constraint) (a b : ℕ) → IsConstraintValid system constraint → DemandsEdge system F constraint a b → IsRow system a × IsRow system b
    edge_rows (Address row location) a b ok h = absurd h
    edge_rows (Copy from to) a b ok h = (subst (IsRow system) (sym h.0) ok.0, subst (IsRow system) (sym h.1) ok.1)
    edge_rows (Load pointer to ty sub) a b ok h = (row_of_location a (sub_location h.0 ty sub a ok.2 h.2), subst (IsRow system) (sym h.3) ok.1)
    edge_rows (Store pointer from ty sub) a b ok h = (subst (IsRow system) (sym h.3) ok.1, row_of_location b (sub_location h.0 ty sub b ok.2 h.2))
    edge_rows (Field from to ty member) a b ok h = absurd h
    edge_rows (Contents to from) a b ok h = let p = deep_locations h.0 h.1 b a h.4 in (row_of_location a p.1, row_of_location b p.0)
    edge_rows (Call number) a b ok h =
        target_rows h.0 h.1 h.2 (h.2).library a b
        (All-at (IsCallValid system) system.calls number h.0 valid.calls h.3)
        (All-at (IsFunctionValid system) system.functions h.1 h.2 valid.functions h.4.known) h.5

    -- a demanded fact is in range
    pub fact_range : (constraint : Constraint) (row location : ℕ) → IsConstraintValid system constraint → DemandsFact system F constraint row location → IsRow system row × IsLocation system location
    fact_range (Address to what) row location ok h = (subst (IsRow system) (sym h.0) ok.0, subst (IsLocation system) (sym h.1) ok.1)
    fact_range (Copy from to) row location ok h = absurd h
    fact_range (Load pointer to ty sub) row location ok h = absurd h
    fact_range (Store pointer from ty sub) row location ok h = absurd h
    fact_range (Field from to ty member) row location ok h = (subst (IsRow system) (sym h.3) ok.1, field_location h.0 ty member location h.2)
    fact_range (Contents to from) row location ok h = absurd h
    fact_range (Call number) row location ok h =
        target_fact h.0 h.1 h.2 (h.2).library row location (All-at (IsCallValid system) system.calls number h.0 valid.calls h.3) h.5

    -- what is given from facts in range is in range
    pub given_range : (row location : ℕ) → IsGiven system F row location → IsRow system row × IsLocation system location
    given_range row location given =
        let ok = All-contains (IsConstraintValid system) system.constraints given.0 valid.constraints given.1 in
        elim given.2 [
          | inl fact ↦ fact_range given.0 row location ok fact
          | inr edge ↦ ((edge_rows given.0 edge.0 row ok edge.1).1, (range _ _ edge.2).1)
        ]

  pub location_small : (location : ℕ) → IsLocation system location → location < 2 ^ 24
  location_small location h =
      let rows = valid.rows in
      let size = valid.size in
      let wide : 1 ≤ width_of system = omega arith in
      let more : system.rows * 1 ≤ system.rows * width_of system = mul-le-mul_left system.rows wide in
      omega arith
