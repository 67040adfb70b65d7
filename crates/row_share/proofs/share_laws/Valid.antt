-- The reduced system is valid.
use Rattle.std.proofs.Common.{◌≡◌, ℕ, ◌+◌, ◌*◌, ◌^◌, ◌<◌, ◌≤◌, not, List, map, length, get_or, Option, Some, None, slice_get, IfSome, All, Contains, refl, sym, ◌∙◌, ap, subst, inl, inr, arith}
use Rattle.std.specs.List.{filter}
use Rattle.std.specs.Option.{option_map_or}
use Rattle.std.proofs.lemmas.Bool.{cases_lt}
use Rattle.std.proofs.lemmas.List.{length-map}
use Rattle.std.proofs.lemmas.List.Elements.{All-contains, All-map, All-weaker, Contains-get_or, Contains-append_cases}
use Rattle.std.proofs.Math.Nat.{mul-le-mul_right}
use Rattle.sol_model.specs.declared.system.System.{System}
use Rattle.sol_model.specs.declared.system.TypeFact.{TypeFact}
use Rattle.sol_model.specs.declared.system.LocationFact.{LocationFact}
use Rattle.sol_model.specs.declared.system.CallSite.{CallSite}
use Rattle.sol_model.specs.declared.system.Function.{Function}
use Rattle.sol_model.specs.declared.system.Constraint.{Constraint}
use Rattle.sol_model.specs.declared.system.Constraint.TheVariants.{Address, Copy, Load, Store, Field, Contents, Call}
use Rattle.sol_model.specs.Places.{nodes_of}
use Rattle.sol_model.specs.Systems.{IsValid, IsRow, IsLocation, IsNodeOf, HasMember, IsConstraintValid, IsLocationValid, IsCallValid, IsFunctionValid, location_count, width_of}
use Rattle.sol_model.proofs.Members.{Contains-map}
use Rattle.sol_model.proofs.InRange.{row_of_location}
use Rattle.row_share.specs.share_laws.Classes.{AreClasses}
use Rattle.row_share.specs.share_laws.Renumbering.{new_row, renumbered, renumbered_call, renumbered_function, is_idle, twins, own_below, AreNumbers, IsReduced}
use Rattle.row_share.proofs.share_laws.Members.{from_filter}
use Rattle.row_share.proofs.share_laws.Parts.{mapped_some}
use Rattle.row_share.proofs.share_laws.Numbers.{own_small, own_more, is_own_at, representative_own}
use Rattle.row_share.proofs.share_laws.Twins.{twin_cases}
use Rattle.std.proofs.lemmas.Option.{slice_get-map}

all_from : {X : Type 0} (P : X → Type 0) (xs : List X) → ((x : X) → Contains xs x → P x) → All P xs
all_from P xs each k d lt = each (get_or xs k d) (Contains-get_or xs k d lt)

module _ (S : System) (of row : List ℕ) (valid : IsValid S) (classes : AreClasses S of) (numbers : AreNumbers S of row) where
  own_in : (key : ℕ) → IsRow S key → location_count S ≤ key → get_or of key 0 ≡ key → new_row row key < location_count S + own_below (location_count S) of S.rows
  own_in key known above own =
      let x = numbers.own key known above own in
      let m = own_more (location_count S) of key S.rows known (is_own_at (location_count S) of key above own) in
      omega arith

  location_in : (key : ℕ) → IsLocation S key → new_row row key < location_count S + own_below (location_count S) of S.rows
  location_in key low = let x = numbers.locations key low in omega arith

  -- each new number is a row of the new system
  pub number_in : (old : ℕ) → IsRow S old → new_row row old < location_count S + own_below (location_count S) of S.rows
  number_in old known = elim (cases_lt old (location_count S)) [
    | inl low ↦ location_in old low
    | inr above ↦ (let x = numbers.others old known above in
        let r = (classes.classes old known).known in
        let there : new_row row (get_or of old 0) < location_count S + own_below (location_count S) of S.rows = elim (cases_lt (get_or of old 0) (location_count S)) [
          | inl low ↦ location_in (get_or of old 0) low
          | inr high ↦ own_in (get_or of old 0) r high (representative_own S of classes old known)
        ] in
        omega arith)
  ]

module _ (S T : System) (of row : List ℕ) (valid : IsValid S) (classes : AreClasses S of) (reduced : IsReduced S of row T) where
  count : location_count T ≡ location_count S
  count = ap length reduced.locations

  row_in : (old : ℕ) → IsRow S old → IsRow T (new_row row old)
  row_in old known = let n = number_in S of row valid classes reduced.numbers old known in let r = reduced.rows in omega arith

  location_too : (l : ℕ) → IsLocation S l → IsLocation T l
  location_too l h = let c = count in omega arith

  node_too : (ty node : ℕ) → IsNodeOf S ty node → IsNodeOf T ty node
  node_too ty node h = record {
    known = subst (λ (types : List TypeFact). ty < length types) (sym reduced.types) h.known;
    within = subst (λ (types : List TypeFact). node < option_map_or (λ (fact : TypeFact). fact.nodes) (slice_get types ty) 0) (sym reduced.types) h.within;
  }

  member_too : (ty member : ℕ) → HasMember S ty member → HasMember T ty member
  member_too ty member h = record {
    fact = h.fact;
    known = subst (λ (types : List TypeFact). slice_get types ty ≡ Some h.fact) (sym reduced.types) h.known;
    within = h.within;
  }

  calls_length : length T.calls ≡ length S.calls
  calls_length = ap length reduced.calls ∙ length-map S.calls (renumbered_call (new_row row))

  functions_length : length T.functions ≡ length S.functions
  functions_length = ap length reduced.functions ∙ length-map S.functions (renumbered_function (new_row row))

  constraint_too : (constraint : Constraint) → IsConstraintValid S constraint → IsConstraintValid T (renumbered (new_row row) constraint)
  constraint_too (Address to location) h = (row_in to h.0, location_too location h.1)
  constraint_too (Copy from to) h = (row_in from h.0, row_in to h.1)
  constraint_too (Load pointer to ty sub) h = (row_in pointer h.0, row_in to h.1, node_too ty sub h.2)
  constraint_too (Store pointer from ty sub) h = (row_in pointer h.0, row_in from h.1, node_too ty sub h.2)
  constraint_too (Field from to ty member) h = (row_in from h.0, row_in to h.1, member_too ty member h.2)
  constraint_too (Contents to from) h = (row_in to h.0, row_in from h.1)
  constraint_too (Call number) h = let e = calls_length in omega arith

  location_row : (l : ℕ) → IsLocation S l → IsRow T l
  location_row l h = subst (IsRow T) (reduced.numbers.locations l h) (row_in l (row_of_location S valid l h))

  representative_row : (l : ℕ) → IsLocation S l → IsRow T (get_or of l 0)
  representative_row l h =
      let known = row_of_location S valid l h in
      let le = (classes.classes l known).smallest l known (λ set undivided. refl) in
      location_row (get_or of l 0) (let lt = h in omega arith)

  listed_too : (constraint : Constraint) → Contains T.constraints constraint → IsConstraintValid T constraint
  listed_too constraint there =
      elim (Contains-append_cases (filter (λ c. not (is_idle c)) (map (renumbered (new_row row)) S.constraints)) (twins of (location_count S)) constraint (subst (λ (cs : List Constraint). Contains cs constraint) reduced.constraints there)) [
        | inl kept ↦ (let old = Contains-map (renumbered (new_row row)) S.constraints constraint (from_filter (λ c. not (is_idle c)) (map (renumbered (new_row row)) S.constraints) constraint kept).0 in
            subst (IsConstraintValid T) (sym old.2) (constraint_too old.0 (All-contains (IsConstraintValid S) S.constraints old.0 valid.constraints old.1)))
        | inr twin ↦ (let t = twin_cases of (location_count S) constraint twin in elim t.2 [
          | inl there ↦ subst (IsConstraintValid T) (sym there) (location_row t.0 t.1, representative_row t.0 t.1)
          | inr back ↦ subst (IsConstraintValid T) (sym back) (representative_row t.0 t.1, location_row t.0 t.1)
        ])
      ]

  rows_too : (rows : List ℕ) → All (IsRow S) rows → All (IsRow T) (map (new_row row) rows)
  rows_too rows all = All-map (IsRow T) (new_row row) rows (All-weaker (IsRow S) (λ r. IsRow T (new_row row r)) row_in rows all)

  lists_too : (lists : List (List ℕ)) → All (λ rows. All (IsRow S) rows) lists → All (λ rows. All (IsRow T) rows) (map (map (new_row row)) lists)
  lists_too lists all = All-map (λ rows. All (IsRow T) rows) (map (new_row row)) lists (All-weaker (λ rows. All (IsRow S) rows) (λ rows. All (IsRow T) (map (new_row row) rows)) rows_too lists all)

  call_too : (call : CallSite) → IsCallValid S call → IsCallValid T (renumbered_call (new_row row) call)
  call_too call h = record {
    caller = (let e = functions_length in let lt = h.caller in omega arith);
    callee = row_in call.callee h.callee;
    arguments = lists_too call.arguments h.arguments;
    result = rows_too call.result h.result;
    fresh = All-weaker (λ (pair : ℕ × ℕ). (pair.0 < length S.functions) × IsLocation S pair.1) (λ (pair : ℕ × ℕ). (pair.0 < length T.functions) × IsLocation T pair.1)
        (λ pair p. ((let e = functions_length in let lt = p.0 in omega arith), location_too pair.1 p.1)) call.fresh h.fresh;
    once = h.once;
  }

  function_too : (function : Function) → IsFunctionValid S function → IsFunctionValid T (renumbered_function (new_row row) function)
  function_too function h = record {
    location = location_too function.location h.location;
    parameters = lists_too function.parameters h.parameters;
    result = rows_too function.result h.result;
    effects = h.effects;
  }

  some_function : (o : Option ℕ) → IfSome o (λ number. number < length S.functions) → IfSome o (λ number. number < length T.functions)
  some_function None h = h
  some_function (Some number) h = let e = functions_length in omega arith

  fact_too : (l : ℕ) (fact : LocationFact) → IsLocationValid S l fact → IsLocationValid T l fact
  fact_too l fact h = record {
    typed = subst (λ (types : List TypeFact). fact.ty < length types) (sym reduced.types) h.typed;
    nodes = λ whole. (let c = count in
        let e : nodes_of T fact.ty ≡ nodes_of S fact.ty = ap (λ (types : List TypeFact). option_map_or (λ (f : TypeFact). f.nodes) (slice_get types fact.ty) 0) reduced.types in
        let le = h.nodes whole in omega arith);
    function = some_function fact.function h.function;
    own = λ number function known.
        (let f = mapped_some (renumbered_function (new_row row)) (slice_get S.functions number) function
        (sym (slice_get-map (renumbered_function (new_row row)) S.functions number) ∙ ap (λ (functions : List Function). slice_get functions number) (sym reduced.functions) ∙ known) in
        let o = h.own number f.0 f.1 in
        let at : function.location ≡ f.0.location = ap (λ (g : Function). g.location) f.2 in
        (λ is. at ∙ o.0 is, λ is. o.1 (sym at ∙ is)));
  }

  width_same : width_of T ≡ width_of S
  width_same = ap (λ (facts : List LocationFact). width_of (record S { locations = facts })) reduced.locations

  rows_fewer : T.rows ≤ S.rows
  rows_fewer = let r = reduced.rows in let s = own_small (location_count S) of S.rows in let v = valid.rows in omega arith

  pub reduced_valid : IsValid T
  reduced_valid = record {
    rows = (let r = reduced.rows in let c = count in omega arith);
    constraints = all_from (IsConstraintValid T) T.constraints listed_too;
    locations = λ l fact known. fact_too l fact (valid.locations l fact (subst (λ (facts : List LocationFact). slice_get facts l ≡ Some fact) reduced.locations known));
    types = subst (λ (types : List TypeFact). All (λ (fact : TypeFact). All (λ position. position < fact.nodes) fact.members) types) (sym reduced.types) valid.types;
    calls = subst (λ (calls : List CallSite). All (IsCallValid T) calls) (sym reduced.calls)
        (All-map (IsCallValid T) (renumbered_call (new_row row)) S.calls (All-weaker (IsCallValid S) (λ call. IsCallValid T (renumbered_call (new_row row) call)) call_too S.calls valid.calls));
    functions = subst (λ (functions : List Function). All (IsFunctionValid T) functions) (sym reduced.functions)
        (All-map (IsFunctionValid T) (renumbered_function (new_row row)) S.functions (All-weaker (IsFunctionValid S) (λ function. IsFunctionValid T (renumbered_function (new_row row) function)) function_too S.functions valid.functions));
    size = subst (λ (w : ℕ). T.rows * w ≤ 2 ^ 24) (sym width_same) (let m = mul-le-mul_right (width_of S) rows_fewer in let s = valid.size in omega arith);
  }
