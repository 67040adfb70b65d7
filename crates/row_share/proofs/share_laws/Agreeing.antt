-- The least solutions of a system and of the reduced one agree.
use Rattle.std.proofs.Common.{◌≡◌, ◌⊎◌, ℕ, ◌<◌, ◌≤◌, ◌&&◌, Bool, true, not, eqb, List, map, length, get_or, IsTrue, Contains, refl, sym, ◌∙◌, ap, subst, inl, inr, arith}
use Rattle.std.specs.List.{filter}
use Rattle.std.proofs.lemmas.Bool.{eqb-true, eq-eqb, and_from, and_parts, cases_lt, cases_Bool, true≢false, not_from_false}
use Rattle.std.proofs.lemmas.List.{get_or_past}
use Rattle.std.proofs.lemmas.List.Elements.{All-contains, Contains-append_left, Contains-append_cases}
use Rattle.sol_model.specs.declared.system.System.{System}
use Rattle.sol_model.specs.declared.system.Constraint.{Constraint}
use Rattle.sol_model.specs.declared.system.Constraint.TheVariants.{Address, Copy, Load, Store, Field, Contents, Call}
use Rattle.sol_model.specs.Families.{Family, Has, IsInside, IsContained}
use Rattle.sol_model.specs.Rules.{DemandsEdge, DemandsFact}
use Rattle.sol_model.specs.Solutions.{IsLeast, IsClosed}
use Rattle.sol_model.specs.Systems.{IsValid, IsLocation, IsConstraintValid, location_count}
use Rattle.sol_model.proofs.Members.{Contains-map}
use Rattle.sol_model.proofs.InRange.{row_of_location}
use Rattle.sol_model.specs.Words.{full}
use Rattle.sol_model.proofs.Closed.{closed_same, least_is_in_range, full_has}
use Rattle.row_share.specs.share_laws.Classes.{AreClasses, AreTogether}
use Rattle.row_share.specs.share_laws.Laws.{HaveEqualSets}
use Rattle.row_share.specs.share_laws.Renumbering.{new_row, renumbered, is_idle, twins, IsReduced}
use Rattle.row_share.proofs.share_laws.Members.{in_filter, from_filter, some_below, below_some, some_found}
use Rattle.row_share.proofs.share_laws.Parts.{map_Contains}
use Rattle.row_share.proofs.share_laws.Forward.{IsRenumbered, over, edge_forward, edge_stem, fact_forward, fact_stem}
use Rattle.row_share.proofs.share_laws.Twins.{IsTwin, twin_cases}
use Rattle.row_share.proofs.share_laws.Valid.{reduced_valid}
use Rattle.row_share.proofs.share_laws.Numbers.{same_number, number_small}

idle_edge : (T : System) (G : Family) (constraint : Constraint) (a b : ℕ) → is_idle constraint ≡ true → DemandsEdge T G constraint a b → a ≡ b
idle_edge T G (Address row location) a b idle h = absurd h
idle_edge T G (Copy from to) a b idle h = h.0 ∙ eqb-true from to idle ∙ sym h.1
idle_edge T G (Load pointer to ty sub) a b idle h = absurd (true≢false (sym idle))
idle_edge T G (Store pointer from ty sub) a b idle h = absurd (true≢false (sym idle))
idle_edge T G (Field from to ty member) a b idle h = absurd h
idle_edge T G (Contents to from) a b idle h = absurd (true≢false (sym idle))
idle_edge T G (Call number) a b idle h = absurd (true≢false (sym idle))

idle_fact : (T : System) (G : Family) (constraint : Constraint) (row location : ℕ) → is_idle constraint ≡ true → DemandsFact T G constraint row location → ⊥
idle_fact T G (Address row location) r l idle h = true≢false (sym idle)
idle_fact T G (Copy from to) r l idle h = h
idle_fact T G (Load pointer to ty sub) r l idle h = h
idle_fact T G (Store pointer from ty sub) r l idle h = h
idle_fact T G (Field from to ty member) r l idle h = true≢false (sym idle)
idle_fact T G (Contents to from) r l idle h = h
idle_fact T G (Call number) r l idle h = true≢false (sym idle)

module _ (S T : System) (of row : List ℕ) (valid : IsValid S) (classes : AreClasses S of) (reduced : IsReduced S of row T) (G : Family) (least_T : IsLeast T G) where
  new : ℕ → ℕ
  new = new_row row

  renumbering : IsRenumbered S T (new_row row)
  renumbering = record {
    valid = valid;
    locations = reduced.locations;
    types = reduced.types;
    calls = reduced.calls;
    functions = reduced.functions;
    fixed = reduced.numbers.locations;
  }

  ok_of : (constraint : Constraint) → Contains S.constraints constraint → IsConstraintValid S constraint
  ok_of constraint there = All-contains (IsConstraintValid S) S.constraints constraint valid.constraints there

  same_count : location_count T ≡ location_count S
  same_count = ap length reduced.locations

  range_T : (r location : ℕ) → Has G r location → IsLocation S location
  range_T r location h = subst (λ (n : ℕ). location < n) same_count (full_has T r location (least_is_in_range T G (reduced_valid S T of row valid classes reduced) least_T r location h)).1

  -- each constraint is there with the new numbers, or idle with them
  into : (constraint : Constraint) → Contains S.constraints constraint → Contains T.constraints (renumbered (new_row row) constraint) ⊎ (is_idle (renumbered (new_row row) constraint) ≡ true)
  into constraint there = elim (cases_Bool (is_idle (renumbered (new_row row) constraint))) [
    | inl idle ↦ inr idle
    | inr busy ↦ inl (subst (λ (cs : List Constraint). Contains cs (renumbered (new_row row) constraint)) (sym reduced.constraints)
        (Contains-append_left (filter (λ c. not (is_idle c)) (map (renumbered (new_row row)) S.constraints)) (twins of (location_count S)) (renumbered (new_row row) constraint)
        (in_filter (λ c. not (is_idle c)) (map (renumbered (new_row row)) S.constraints) (renumbered (new_row row) constraint)
        (map_Contains (renumbered (new_row row)) S.constraints constraint there) (not_from_false (is_idle (renumbered (new_row row) constraint)) busy))))
  ]

  -- the least solution of the new system, read through the new numbers, is closed in the old
  pub over_closed : IsClosed S (over G (new_row row))
  over_closed constraint there = record {
    edges = λ a b edge location has.
        (let forward = edge_forward S T (new_row row) renumbering G range_T constraint a b (ok_of constraint there) edge in
        elim (into constraint there) [
          | inl listed ↦ (least_T.closed (renumbered (new_row row) constraint) listed).edges (new_row row a) (new_row row b) forward location has
          | inr idle ↦ subst (λ (r : ℕ). Has G r location) (idle_edge T G (renumbered (new_row row) constraint) (new_row row a) (new_row row b) idle forward) has
        ]);
    facts = λ r location fact.
        (let forward = fact_forward S T (new_row row) renumbering G range_T constraint r location fact in
        elim (into constraint there) [
          | inl listed ↦ (least_T.closed (renumbered (new_row row) constraint) listed).facts (new_row row r) location forward
          | inr idle ↦ absurd (idle_fact T G (renumbered (new_row row) constraint) (new_row row r) location idle forward)
        ]);
  }

module _ (S T : System) (of row : List ℕ) (valid : IsValid S) (classes : AreClasses S of) (reduced : IsReduced S of row T) (F G : Family) (closed : IsClosed S F) (range_F : IsInside F (full S)) (equal : (a b : ℕ) → AreTogether S a b → HaveEqualSets F a b) (least_T : IsLeast T G) where
  -- the old sets by new numbers
  lifted : Family
  lifted s location = some_below S.rows (λ r. eqb (new_row row r) s && F r location)

  past_end : (r : ℕ) → S.rows ≤ r → new_row row r ≡ r
  past_end r le = get_or_past row r r (let e = reduced.numbers.count in omega arith)

  lifted_found : (r location : ℕ) → Has lifted (new_row row r) location → Has F r location
  unfolding lifted
  lifted_found r location h =
      let k = some_found S.rows (λ q. eqb (new_row row q) (new_row row r) && F q location) h in
      let parts = and_parts (eqb (new_row row k.0) (new_row row r)) (F k.0 location) k.2 in
      let same = eqb-true (new_row row k.0) (new_row row r) parts.0 in
      elim (cases_lt r S.rows) [
        | inl here ↦ subst (λ (b : Bool). IsTrue b) (same_number S F of row equal classes reduced.numbers k.0 r k.1 here same location) parts.1
        | inr past ↦ absurd (let small = number_small S F of row equal classes reduced.numbers k.0 k.1 in let p = past_end r past in let lt = k.1 in omega arith)
      ]

  found_lifted : (r location : ℕ) → Has F r location → Has lifted (new_row row r) location
  unfolding lifted
  found_lifted r location h =
      below_some S.rows (λ q. eqb (new_row row q) (new_row row r) && F q location) r (full_has S r location (range_F r location h)).0
      (and_from (eqb (new_row row r) (new_row row r)) (F r location) (eq-eqb (new_row row r) (new_row row r) refl) h)

  range_lifted : (s location : ℕ) → Has lifted s location → IsLocation S location
  unfolding lifted
  range_lifted s location h =
      let k = some_found S.rows (λ q. eqb (new_row row q) s && F q location) h in
      (full_has S k.0 location (range_F k.0 location (and_parts (eqb (new_row row k.0) s) (F k.0 location) k.2).1)).1

  over_lifted_closed : IsClosed S (over lifted (new_row row))
  over_lifted_closed = closed_same S F (over lifted (new_row row)) found_lifted lifted_found closed

  -- a location and its representative have equal sets
  twin_sets : (l : ℕ) → IsLocation S l → (s : ℕ) × (s ≡ get_or of l 0) × IsLocation S s × HaveEqualSets F l s
  twin_sets l h =
      let one = classes.classes l (row_of_location S valid l h) in
      let le = one.smallest l (row_of_location S valid l h) (λ set undivided. refl) in
      (get_or of l 0, refl, (let lt = h in omega arith), equal l (get_or of l 0) one.together)

  lifted_at : (l location : ℕ) → IsLocation S l → Has lifted l location → Has F l location
  lifted_at l location here h = lifted_found l location (subst (λ (s : ℕ). Has lifted s location) (sym (reduced.numbers.locations l here)) h)

  at_lifted : (l location : ℕ) → IsLocation S l → Has F l location → Has lifted l location
  at_lifted l location here h = subst (λ (s : ℕ). Has lifted s location) (reduced.numbers.locations l here) (found_lifted l location h)

  contained_twins : (l : ℕ) → IsLocation S l → IsContained lifted l (get_or of l 0) × IsContained lifted (get_or of l 0) l
  contained_twins l h =
      let t = twin_sets l h in
      let low : IsLocation S (get_or of l 0) = subst (IsLocation S) t.1 t.2 in
      let same : HaveEqualSets F l (get_or of l 0) = subst (λ (s : ℕ). HaveEqualSets F l s) t.1 t.3 in (
        λ location has. at_lifted (get_or of l 0) location low (subst (λ (b : Bool). IsTrue b) (same location) (lifted_at l location h has)),
        λ location has. at_lifted l location h (subst (λ (b : Bool). IsTrue b) (sym (same location)) (lifted_at (get_or of l 0) location low has)),
      )

  twin_edge : (constraint : Constraint) (x y a b : ℕ) → constraint ≡ Copy x y → DemandsEdge T lifted constraint a b → IsContained lifted x y → IsContained lifted a b
  twin_edge constraint x y a b is edge inside =
      let e = subst (λ (c : Constraint). DemandsEdge T lifted c a b) is edge in
      subst (λ (p : ℕ). IsContained lifted p b) (sym e.0) (subst (λ (q : ℕ). IsContained lifted x q) (sym e.1) inside)

  twin_fact : (constraint : Constraint) (x y r location : ℕ) → constraint ≡ Copy x y → DemandsFact T lifted constraint r location → ⊥
  twin_fact constraint x y r location is fact = subst (λ (c : Constraint). DemandsFact T lifted c r location) is fact

  -- where each constraint of the new system stems from
  stem : (constraint : Constraint) → Contains T.constraints constraint → ((old : Constraint) × Contains S.constraints old × (constraint ≡ renumbered (new_row row) old)) ⊎ IsTwin of (location_count S) constraint
  stem constraint there =
      elim (Contains-append_cases (filter (λ c. not (is_idle c)) (map (renumbered (new_row row)) S.constraints)) (twins of (location_count S)) constraint (subst (λ (cs : List Constraint). Contains cs constraint) reduced.constraints there)) [
        | inl kept ↦ inl (Contains-map (renumbered (new_row row)) S.constraints constraint (from_filter (λ c. not (is_idle c)) (map (renumbered (new_row row)) S.constraints) constraint kept).0)
        | inr twin ↦ inr (twin_cases of (location_count S) constraint twin)
      ]

  stem_edge : (constraint old : Constraint) (a b : ℕ) → Contains S.constraints old → constraint ≡ renumbered (new_row row) old → DemandsEdge T lifted constraint a b → IsContained lifted a b
  stem_edge constraint old a b there is edge =
      let e = edge_stem S T (new_row row) (renumbering S T of row valid classes reduced G least_T) lifted range_lifted old a b (ok_of S T of row valid classes reduced G least_T old there) (subst (λ (c : Constraint). DemandsEdge T lifted c a b) is edge) in
      subst (λ (p : ℕ). IsContained lifted p b) (sym e.2) (subst (λ (q : ℕ). IsContained lifted (new_row row e.0) q) (sym e.3) ((over_lifted_closed old there).edges e.0 e.1 e.4))

  stem_fact : (constraint old : Constraint) (r location : ℕ) → Contains S.constraints old → constraint ≡ renumbered (new_row row) old → DemandsFact T lifted constraint r location → Has lifted r location
  stem_fact constraint old r location there is fact =
      let e = fact_stem S T (new_row row) (renumbering S T of row valid classes reduced G least_T) lifted range_lifted old r location (subst (λ (c : Constraint). DemandsFact T lifted c r location) is fact) in
      subst (λ (p : ℕ). Has lifted p location) (sym e.1) ((over_lifted_closed old there).facts e.0 location e.2)

  lifted_closed : IsClosed T lifted
  lifted_closed constraint there = record {
    edges = λ a b edge. elim (stem constraint there) [
      | inl from ↦ stem_edge constraint from.0 a b from.1 from.2 edge
      | inr twin ↦ elim twin.2 [
        | inl there ↦ twin_edge constraint twin.0 (get_or of twin.0 0) a b there edge (contained_twins twin.0 twin.1).0
        | inr back ↦ twin_edge constraint (get_or of twin.0 0) twin.0 a b back edge (contained_twins twin.0 twin.1).1
      ]
    ];
    facts = λ r location fact. elim (stem constraint there) [
      | inl from ↦ stem_fact constraint from.0 r location from.1 from.2 fact
      | inr twin ↦ elim twin.2 [
        | inl there ↦ absurd (twin_fact constraint twin.0 (get_or of twin.0 0) r location there fact)
        | inr back ↦ absurd (twin_fact constraint (get_or of twin.0 0) twin.0 r location back fact)
      ]
    ];
  }

  -- so the new least solution, read through the new numbers, is inside such a family
  pub over_inside : (old location : ℕ) → Has G (new_row row old) location → Has F old location
  over_inside old location h = lifted_found old location (least_T.below lifted lifted_closed (new_row row old) location h)
