-- Pairs of functions that families keep.
use Rattle.std.proofs.Common.{◌≡◌, ◌≢◌, ◌↔◌, ℕ, zero, suc, ◌+◌, ◌*◌, ◌<◌, ◌≤◌, ◌⊎◌, ◌==◌, Bool, true, false, IsTrue, List, [], ◌∷◌, ◌++◌, length, map, get_or, Option, Some, None, option_map, slice_get, Contains, All, ◌^◌, refl, sym, ◌∙◌, ap, subst, inl, inr, arith}
use Rattle.std.specs.List.{filter, range_with_len}
use Rattle.std.proofs.lemmas.Bool.{cases_lt, cases_eq, eq-eqb, false≢true}
use Rattle.std.proofs.lemmas.Option.{none-some, same_Some, slice_get_within, slice_get-get_or, slice_get-map, get_or_from_slice_get}
use Rattle.std.proofs.lemmas.List.Elements.{All-contains, Contains-append_cases, Contains-append_left, Contains-get_or, Contains-push, Contains-push_cases}
use Rattle.sol_model.specs.declared.system.System.{System}
use Rattle.sol_model.specs.declared.system.Constraint.{Constraint}
use Rattle.sol_model.specs.declared.system.Constraint.TheVariants.{Address, Copy, Load, Store, Field, Contents, Call}
use Rattle.sol_model.specs.Families.{Family, Has, IsContained}
use Rattle.sol_model.specs.Systems.{IsValid, IsRow, IsConstraintValid, location_count, width_of}
use Rattle.sol_model.proofs.Members.{Contains-map, Contains-range, at_Contains, Contains-at, at_range}
use Rattle.row_share.specs.share_laws.Classes.{IsCopy, IsKept, Reaches, Follows, IsUndivided, IsSmallest, AreClasses, adding, adds_to}
use Rattle.row_share.proofs.share_laws.Members.{in_filter, from_filter, only_one}
use Rattle.mod_ref.specs.Ways.{Keeps, KeepsKeyed, AreWays, AreBelow, AreKeyedBelow, AreOneSet, AreClassEdges, AddsBoth, AddsPair, AddsWays, IsMember, IsBetween, IsGraphSystem, own_copy, call_copy}

-- a function below n, with the one that stands for its class
abbrev pub IsMemberBelow : List ℕ → ℕ → ℕ → ℕ → Type 0
IsMemberBelow first n a b = (a ≢ b) × (((b < n) × (slice_get first b ≡ Some a)) ⊎ ((a < n) × (slice_get first a ≡ Some b)))

-- ---- the system of the graph
abbrev source_of : Constraint → ℕ
source_of (Copy from to) = from
source_of _ = 0

abbrev target_of : Constraint → ℕ
target_of (Copy from to) = to
target_of _ = 0

same_bools : (a b : Bool) → (a ≡ true → b ≡ true) → (b ≡ true → a ≡ true) → a ≡ b
same_bools true b h k = sym (h refl)
same_bools false true h k = k refl
same_bools false false h k = refl

module _ (count : ℕ) (edges : List (ℕ × ℕ)) (S : System) (below : AreBelow count edges) (is : IsGraphSystem count edges S) where
  -- a copy is that of a row to itself, or that of an edge
  copy_of : (from to : ℕ) → IsCopy S from to → ((from ≡ to) × (to < count)) ⊎ Contains edges (to, from)
  copy_of from to h = elim (Contains-append_cases (map own_copy (range_with_len 0 count)) (map call_copy edges) (Copy from to) (subst (λ (cs : List Constraint). Contains cs (Copy from to)) is.constraints h)) [
    | inl own ↦
        (let w = Contains-map own_copy (range_with_len 0 count) (Copy from to) own in
        let at = Contains-range 0 count w.0 w.1 in
        let lt = at.1 in
        let number = at.2 in
        let source : from ≡ w.0 = ap source_of w.2 in
        let target : to ≡ w.0 = ap target_of w.2 in
        inl (omega arith, omega arith))
    | inr call ↦
        (let w = Contains-map call_copy edges (Copy from to) call in
        let source : from ≡ (w.0).1 = ap source_of w.2 in
        let target : to ≡ (w.0).0 = ap target_of w.2 in
        let pair : ◌≡◌ {A = ℕ × ℕ} w.0 (to, from) = λ i. (sym target i, sym source i) in
        inr (subst (λ (e : ℕ × ℕ). Contains edges e) pair w.1))
  ]

  own_there : (row : ℕ) → row < count → IsCopy S row row
  own_there row lt = subst (λ (cs : List Constraint). Contains cs (Copy row row)) (sym is.constraints)
      (Contains-append_left (map own_copy (range_with_len 0 count)) (map call_copy edges) (Copy row row) (mapped own_copy (range_with_len 0 count) row (Contains-at (range_with_len 0 count) row row (at_range 0 count row lt ∙ ap Some (omega arith)))))
    where
      mapped : {X Y : Type 0} (f : X → Y) (xs : List X) (x : X) → Contains xs x → Contains (map f xs) (f x)
      mapped f xs x h = let w = at_Contains xs x h in Contains-at (map f xs) w.0 (f x) (slice_get-map f xs w.0 ∙ ap (option_map f) w.2)

  none_located : location_count S ≡ 0
  none_located = ap length is.locations

  pub graph_valid : IsValid S
  graph_valid = record {
    rows = let none = none_located in omega arith;
    constraints = λ k d lt. each (get_or S.constraints k d) (Contains-get_or S.constraints k d lt);
    locations = λ location fact at. absurd (none-some _ (ap (λ (xs : List _). slice_get xs location) (sym is.locations) ∙ at));
    types = λ k d lt. absurd (let none = ap length is.types in omega arith);
    calls = λ k d lt. absurd (let none = ap length is.calls in omega arith);
    functions = λ k d lt. absurd (let none = ap length is.functions in omega arith);
    size = let none = none_located in let narrow : width_of S ≡ 0 = omega arith in subst (λ n. S.rows * n ≤ 2 ^ 24) (sym narrow) (omega arith);
  }
    where
      row_known : (row : ℕ) → row < count → IsRow S row
      row_known row lt = let rows = is.rows in omega arith

      each : (c : Constraint) → Contains S.constraints c → IsConstraintValid S c
      each c h = elim (Contains-append_cases (map own_copy (range_with_len 0 count)) (map call_copy edges) c (subst (λ (cs : List Constraint). Contains cs c) is.constraints h)) [
        | inl own ↦
            (let w = Contains-map own_copy (range_with_len 0 count) c own in
            let at = Contains-range 0 count w.0 w.1 in
            let lt = at.1 in
            let number = at.2 in
            let known = row_known w.0 (omega arith) in
            subst (IsConstraintValid S) (sym w.2) (known, known))
        | inr call ↦
            (let w = Contains-map call_copy edges c call in
            let pair = All-contains (λ (edge : ℕ × ℕ). (edge.0 < count) × (edge.1 < count)) edges w.0 below w.1 in
            subst (IsConstraintValid S) (sym w.2) (row_known (w.0).1 pair.1, row_known (w.0).0 pair.0))
      ]

  module _ (G : Family) (keeps : Keeps G edges) (location : ℕ) where
    kept : IsKept S (λ row. G row location)
    kept from to copy has = elim (copy_of from to copy) [
      | inl own ↦ subst (λ row. Has G row location) own.0 has
      | inr call ↦ keeps to from call location has
    ]

    undivided : IsUndivided S (λ row. G row location)
    undivided = record {
      followed = λ row from follows. ap (λ r. G r location) (sym (own_source row from follows));
      cycles = λ a b there back. same_bools (G a location) (G b location) (there (λ row. G row location) kept) (back (λ row. G row location) kept);
    }
      where
        own_source : (row from : ℕ) → Follows S row from → from ≡ row
        own_source row from follows =
            let listed : Contains (adding row S.constraints) (Copy from row) = subst (λ (cs : List Constraint). Contains cs (Copy from row)) (sym follows.alone) (0, omega arith, refl) in
            let copy = (from_filter (adds_to row) S.constraints (Copy from row) listed).0 in
            elim (copy_of from row copy) [
              | inl own ↦ own.0
              | inr call ↦
                  (let own = in_filter (adds_to row) S.constraints (Copy row row) (own_there row (All-contains (λ (edge : ℕ × ℕ). (edge.0 < count) × (edge.1 < count)) edges (row, from) below call).0) (eq-eqb row row refl) in
                  let one = only_one (Copy from row) (Copy row row) (subst (λ (cs : List Constraint). Contains cs (Copy row row)) follows.alone own) in
                  sym (ap source_of one))
            ]

  pub one_set : (first : List ℕ) → AreClasses S first → AreOneSet count edges first
  one_set first classes = record {
    count = classes.count ∙ is.rows;
    known = λ f one at. subst (λ n. one < n) is.rows (subst (λ r. r < S.rows) (value f one at) (smallest f one at).known);
    equal = λ G keeps f one location at. (smallest f one at).together (λ row. G row location) (undivided G keeps location) ∙ ap (λ r. G r location) (value f one at);
  }
    where
      value : (f one : ℕ) → slice_get first f ≡ Some one → get_or first f 0 ≡ one
      value f one at = get_or_from_slice_get first f one 0 at

      row_of : (f one : ℕ) → slice_get first f ≡ Some one → IsRow S f
      row_of f one at = let lt = slice_get_within first f one at in let n = classes.count in omega arith

      smallest : (f one : ℕ) (at : slice_get first f ≡ Some one) → IsSmallest S f (get_or first f 0)
      smallest f one at = classes.classes f (row_of f one at)

-- ---- lists of pairs behind keys
pub adds_none : (ways : List (ℕ × ℕ × ℕ)) (Way : ℕ → ℕ → Type 0) → ((a b : ℕ) → Way a b → ⊥) → AddsWays ways ways Way
adds_none ways Way none = record {
  kept = λ way h. h;
  added = λ a b h. absurd (none a b h);
  nothing_else = λ key a b h. inl h;
}

pub adds_as : (old new : List (ℕ × ℕ × ℕ)) (One Other : ℕ → ℕ → Type 0) → AddsWays old new One → ((a b : ℕ) → One a b → Other a b) → ((a b : ℕ) → Other a b → One a b) → AddsWays old new Other
adds_as old new One Other adds to from = record {
  kept = adds.kept;
  added = λ a b h. adds.added a b (from a b h);
  nothing_else = λ key a b h. elim (adds.nothing_else key a b h) [ inl before ↦ inl before | inr one ↦ inr (to a b one) ];
}

-- one more pair
pub adds_push : (old now new : List (ℕ × ℕ × ℕ)) (Way : ℕ → ℕ → Type 0) (key a b : ℕ) → new ≡ now ++ (key, a, b) ∷ [] → AddsWays old now Way → AddsWays old new (λ x y. Way x y ⊎ ((x ≡ a) × (y ≡ b)))
adds_push old now new Way key a b is adds = record {
  kept = λ way h. there way (adds.kept way h);
  added = λ x y h. elim h [
    | inl way ↦ (let w = adds.added x y way in (w.0, there (w.0, x, y) w.1))
    | inr pair ↦
        (let same : ◌≡◌ {A = ℕ × ℕ × ℕ} (key, a, b) (key, x, y) = λ i. (key, sym pair.0 i, sym pair.1 i) in (
          key,
          subst (λ (ways : List (ℕ × ℕ × ℕ)). Contains ways (key, x, y)) (sym is)
              (subst (λ (w : ℕ × ℕ × ℕ). Contains (now ++ (key, a, b) ∷ []) w) same (Contains-push now (key, a, b))),
        ))
  ];
  nothing_else = λ k x y h. elim (Contains-push_cases now (key, a, b) (k, x, y) (subst (λ (ways : List (ℕ × ℕ × ℕ)). Contains ways (k, x, y)) is h)) [
    | inl before ↦ elim (adds.nothing_else k x y before) [ inl first ↦ inl first | inr way ↦ inr (inl way) ]
    | inr last ↦ inr (inr (sym (ap (λ (w : ℕ × ℕ × ℕ). w.1) last), sym (ap (λ (w : ℕ × ℕ × ℕ). w.2) last)))
  ];
}
  where
    there : (way : ℕ × ℕ × ℕ) → Contains now way → Contains new way
    there way h = subst (λ (ways : List (ℕ × ℕ × ℕ)). Contains ways way) (sym is) (Contains-append_left now ((key, a, b) ∷ []) way h)

pub members_none : (ways : List (ℕ × ℕ × ℕ)) (first : List ℕ) → AddsWays ways ways (IsMemberBelow first 0)
members_none ways first = adds_none ways (IsMemberBelow first 0) (λ a b h. elim h.1 [ inl one ↦ absurd (let lt = one.0 in omega arith) | inr other ↦ absurd (let lt = other.0 in omega arith) ])

-- a function that stands for its class itself adds none
pub members_same : (old now : List (ℕ × ℕ × ℕ)) (first : List ℕ) (f : ℕ) → slice_get first f ≡ Some f → AddsWays old now (IsMemberBelow first f) → AddsWays old now (IsMemberBelow first (f + 1))
members_same old now first f own adds =
    adds_as old now (IsMemberBelow first f) (IsMemberBelow first (f + 1)) adds
    (λ a b h. (h.0, elim h.1 [ inl one ↦ inl (let lt = one.0 in omega arith, one.1) | inr other ↦ inr (let lt = other.0 in omega arith, other.1) ]))
    (λ a b h. (
      h.0,
      elim h.1 [
        | inl one ↦ elim (cases_lt b f) [
          | inl lt ↦ inl (lt, one.1)
          | inr ge ↦ absurd (let lt = one.0 in let e : b ≡ f = omega arith in h.0 (same_Some _ _ (sym one.1 ∙ (ap (slice_get first) e ∙ own)) ∙ sym e))
        ]
        | inr other ↦ elim (cases_lt a f) [
          | inl lt ↦ inr (lt, other.1)
          | inr ge ↦ absurd (let lt = other.0 in let e : a ≡ f = omega arith in h.0 (e ∙ sym (same_Some _ _ (sym other.1 ∙ (ap (slice_get first) e ∙ own)))))
        ]
      ],
    ))

-- any other one adds both
pub members_more : (old now next new : List (ℕ × ℕ × ℕ)) (first : List ℕ) (f one low high : ℕ) → slice_get first f ≡ Some one → one ≢ f → next ≡ now ++ (low, one, f) ∷ [] → new ≡ next ++ (high, f, one) ∷ []
    → AddsWays old now (IsMemberBelow first f) → AddsWays old new (IsMemberBelow first (f + 1))
members_more old now next new first f one low high at apart there back adds =
    adds_as old new (λ x y. (IsMemberBelow first f x y ⊎ ((x ≡ one) × (y ≡ f))) ⊎ ((x ≡ f) × (y ≡ one))) (IsMemberBelow first (f + 1))
    (adds_push old next new (λ x y. IsMemberBelow first f x y ⊎ ((x ≡ one) × (y ≡ f))) high f one back (adds_push old now next (IsMemberBelow first f) low one f there adds))
    (λ a b h. elim h [
      | inl before ↦ elim before [
        | inl m ↦ (m.0, elim m.1 [ inl one ↦ inl (let lt = one.0 in omega arith, one.1) | inr other ↦ inr (let lt = other.0 in omega arith, other.1) ])
        | inr to ↦ ((λ e. apart (sym to.0 ∙ (e ∙ to.1))), inl (let e = to.1 in omega arith, ap (slice_get first) to.1 ∙ (at ∙ ap Some (sym to.0))))
      ]
      | inr from ↦ ((λ e. apart (sym from.1 ∙ (sym e ∙ from.0))), inr (let e = from.0 in omega arith, ap (slice_get first) from.0 ∙ (at ∙ ap Some (sym from.1))))
    ])
    (λ a b h. elim h.1 [
      | inl m ↦ elim (cases_lt b f) [
        | inl lt ↦ inl (inl (h.0, inl (lt, m.1)))
        | inr ge ↦ (let lt = m.0 in let e : b ≡ f = omega arith in inl (inr (same_Some _ _ (sym m.1 ∙ (ap (slice_get first) e ∙ at)), e)))
      ]
      | inr m ↦ elim (cases_lt a f) [
        | inl lt ↦ inl (inl (h.0, inr (lt, m.1)))
        | inr ge ↦ (let lt = m.0 in let e : a ≡ f = omega arith in inr (e, same_Some _ _ (sym m.1 ∙ (ap (slice_get first) e ∙ at))))
      ]
    ])

pub members_all : (old new : List (ℕ × ℕ × ℕ)) (first : List ℕ) (n : ℕ) → length first ≤ n → AddsWays old new (IsMemberBelow first n) → AddsWays old new (IsMember first)
members_all old new first n all adds =
    adds_as old new (IsMemberBelow first n) (IsMember first) adds
    (λ a b h. (h.0, elim h.1 [ inl m ↦ inl m.1 | inr m ↦ inr m.1 ]))
    (λ a b h. (
      h.0,
      elim h.1 [
        | inl m ↦ inl (let lt = slice_get_within first b a m in omega arith, m)
        | inr m ↦ inr (let lt = slice_get_within first a b m in omega arith, m)
      ],
    ))

-- ---- all pairs
module _ (count : ℕ) (edges made : List (ℕ × ℕ)) (first : List ℕ) (none one two : List (ℕ × ℕ × ℕ)) (empty : none ≡ []) (sets : AreOneSet count edges first) (classes : AreClassEdges edges first made)
    (members : AddsWays none one (IsMember first)) (between : AddsWays one two (IsBetween made)) where
  -- a pair is that of two functions of one class, or that of two classes
  pair_of : (key a b : ℕ) → Contains two (key, a, b) → IsMember first a b ⊎ Contains made (a, b)
  pair_of key a b h = elim (between.nothing_else key a b h) [
    | inl before ↦ elim (members.nothing_else key a b before) [
      | inl nothing ↦ absurd (let at = at_Contains none (key, a, b) nothing in let lt = at.1 in let size : length none ≡ 0 = ap length empty in omega arith)
      | inr member ↦ inl member
    ]
    | inr made ↦ inr made
  ]

  member_known : (f one : ℕ) → slice_get first f ≡ Some one → (f < count) × (one < count)
  member_known f one at = ((let lt = slice_get_within first f one at in let n = sets.count in omega arith), sets.known f one at)

  below_each : (key a b : ℕ) → Contains two (key, a, b) → (a < count) × (b < count)
  below_each key a b h = elim (pair_of key a b h) [
    | inl member ↦ elim member.1 [
      | inl at ↦ (let k = member_known b a at in (k.1, k.0))
      | inr at ↦ member_known a b at
    ]
    | inr pair ↦ (let from = classes.from_edge a b pair in ((member_known from.0 a from.3).1, (member_known from.1 b from.4).1))
  ]

  pub ways_below : AreKeyedBelow count two
  ways_below k d lt = let way = get_or two k d in below_each way.0 way.1 way.2 (Contains-get_or two k d lt)

  pub ways_kept : (G : Family) → Keeps G edges → KeepsKeyed G two
  ways_kept G keeps key a b h location has = elim (pair_of key a b h) [
    | inl member ↦ elim member.1 [
      | inl at ↦ sym (sets.equal G keeps b a location at) ∙ has
      | inr at ↦ sets.equal G keeps a b location at ∙ has
    ]
    | inr pair ↦
        (let from = classes.from_edge a b pair in
        let callee = sets.equal G keeps from.1 b location from.4 ∙ has in
        let caller = keeps from.0 from.1 from.2 location callee in
        sym (sets.equal G keeps from.0 a location from.3) ∙ caller)
  ]

  module _ (below : AreBelow count edges) (G : Family) (keeps : KeepsKeyed G two) where
    carried : (caller callee : ℕ) → IsMember first caller callee ⊎ Contains made (caller, callee) → IsContained G callee caller
    carried caller callee h = elim h [
      | inl member ↦ (let w = members.added caller callee member in keeps w.0 caller callee (between.kept (w.0, caller, callee) w.1))
      | inr pair ↦ (let w = between.added caller callee pair in keeps w.0 caller callee w.1)
    ]

    -- to the function that stands for its class, and from it
    up : (f one : ℕ) → slice_get first f ≡ Some one → IsContained G f one
    up f one at = elim (cases_eq one f) [
      | inl same ↦ subst (λ g. IsContained G f g) (sym same) (λ l h. h)
      | inr apart ↦ carried one f (inl (apart, inl at))
    ]

    down : (f one : ℕ) → slice_get first f ≡ Some one → IsContained G one f
    down f one at = elim (cases_eq f one) [
      | inl same ↦ subst (λ g. IsContained G g f) same (λ l h. h)
      | inr apart ↦ carried f one (inl (apart, inr at))
    ]

    across : (a b : ℕ) → (a ≡ b) ⊎ Contains made (a, b) → IsContained G b a
    across a b h = elim h [
      | inl same ↦ subst (λ g. IsContained G g a) same (λ l h. h)
      | inr pair ↦ carried a b (inr pair)
    ]

    pub edges_kept : Keeps G edges
    edges_kept caller callee h location has =
        let known = All-contains (λ (edge : ℕ × ℕ). (edge.0 < count) × (edge.1 < count)) edges (caller, callee) below h in
        let n = sets.count in
        let a = get_or first caller 0 in
        let c = get_or first callee 0 in
        let at : slice_get first caller ≡ Some a = slice_get-get_or first caller 0 (let lt = known.0 in omega arith) in
        let of : slice_get first callee ≡ Some c = slice_get-get_or first callee 0 (let lt = known.1 in omega arith) in
        down caller a at location (across a c (classes.each caller callee a c h at of) location (up callee c of location has))

-- ---- steps of loops
pub class_edges_below : (count : ℕ) (edges made : List (ℕ × ℕ)) (first : List ℕ) → AreOneSet count edges first → AreClassEdges edges first made → AreBelow count made
class_edges_below count edges made first sets classes k d lt =
    let pair = get_or made k d in
    let from = classes.from_edge pair.0 pair.1 (Contains-get_or made k d lt) in
    (sets.known from.0 pair.0 from.3, sets.known from.1 pair.1 from.4)

-- a function more with the one that stands for its class
pub both_more : (old now new : List (ℕ × ℕ × ℕ)) (first : List ℕ) (f one : ℕ) → slice_get first f ≡ Some one → AddsBoth now new one f → AddsWays old now (IsMemberBelow first f) → AddsWays old new (IsMemberBelow first (f + 1))
both_more old now new first f one at both adds = elim both [
  | inl same ↦ subst (λ (ways : List (ℕ × ℕ × ℕ)). AddsWays old ways (IsMemberBelow first (f + 1))) (sym same.1) (members_same old now first f (at ∙ ap Some same.0) adds)
  | inr apart ↦ (let keys = apart.1 in members_more old now (now ++ (keys.0, one, f) ∷ []) new first f one keys.0 keys.1 at apart.0 refl keys.2 adds)
]

-- what the edges so far make
pub record MadeOf (edges : List (ℕ × ℕ)) (first : List ℕ) (made : List (ℕ × ℕ)) (n : ℕ) : Type 0 where
  pub from_edge : (a b : ℕ) → Contains made (a, b) → (caller : ℕ) × (callee : ℕ) × Contains edges (caller, callee) × (slice_get first caller ≡ Some a) × (slice_get first callee ≡ Some b)
  pub each : (k caller callee a b : ℕ) → k < n → slice_get edges k ≡ Some (caller, callee) → slice_get first caller ≡ Some a → slice_get first callee ≡ Some b → (a ≡ b) ⊎ Contains made (a, b)

pub made_none : (edges : List (ℕ × ℕ)) (first : List ℕ) (made : List (ℕ × ℕ)) → made ≡ [] → MadeOf edges first made 0
made_none edges first made empty = record {
  from_edge = λ a b h. absurd (let at = at_Contains made (a, b) h in let lt = at.1 in let size : length made ≡ 0 = ap length empty in omega arith);
  each = λ k caller callee a b lt. absurd (omega arith);
}

pub made_more : (edges : List (ℕ × ℕ)) (first : List ℕ) (old new : List (ℕ × ℕ)) (n : ℕ) (edge : ℕ × ℕ) (a b : ℕ) → slice_get edges n ≡ Some edge → slice_get first edge.0 ≡ Some a → slice_get first edge.1 ≡ Some b
    → AddsPair old new a b → MadeOf edges first old n → MadeOf edges first new (n + 1)
made_more edges first old new n edge a b at caller_is callee_is adds so_far = record {
  from_edge = λ x y h. elim adds [
    | inl same ↦ so_far.from_edge x y (subst (λ (made : List (ℕ × ℕ)). Contains made (x, y)) same.1 h)
    | inr apart ↦ elim (Contains-push_cases old (a, b) (x, y) (subst (λ (made : List (ℕ × ℕ)). Contains made (x, y)) apart.1 h)) [
      | inl before ↦ so_far.from_edge x y before
      | inr last ↦ (
        edge.0,
        edge.1,
        Contains-at edges n edge at,
        caller_is ∙ ap (λ (pair : ℕ × ℕ). Some pair.0) last,
        callee_is ∙ ap (λ (pair : ℕ × ℕ). Some pair.1) last,
      )
    ]
  ];
  each = λ k caller callee x y lt there x_is y_is. elim (cases_lt k n) [
    | inl less ↦ elim (so_far.each k caller callee x y less there x_is y_is) [ inl same ↦ inl same | inr pair ↦ inr (still (x, y) pair) ]
    | inr ge ↦
        (let e : k ≡ n = omega arith in
        let pair : ◌≡◌ {A = ℕ × ℕ} (caller, callee) edge = same_Some _ _ (sym there ∙ (ap (slice_get edges) e ∙ at)) in
        let x_same : x ≡ a = same_Some _ _ (sym x_is ∙ (ap (λ (p : ℕ × ℕ). slice_get first p.0) pair ∙ caller_is)) in
        let y_same : y ≡ b = same_Some _ _ (sym y_is ∙ (ap (λ (p : ℕ × ℕ). slice_get first p.1) pair ∙ callee_is)) in
        elim adds [
          | inl same ↦ inl (x_same ∙ (same.0 ∙ sym y_same))
          | inr apart ↦
              (let moved : ◌≡◌ {A = ℕ × ℕ} (a, b) (x, y) = λ i. (sym x_same i, sym y_same i) in
              inr (subst (λ (made : List (ℕ × ℕ)). Contains made (x, y)) (sym apart.1)
              (subst (λ (p : ℕ × ℕ). Contains (old ++ (a, b) ∷ []) p) moved (Contains-push old (a, b)))))
        ])
  ];
}
  where
    still : (pair : ℕ × ℕ) → Contains old pair → Contains new pair
    still pair h = elim adds [
      | inl same ↦ subst (λ (made : List (ℕ × ℕ)). Contains made pair) (sym same.1) h
      | inr apart ↦ subst (λ (made : List (ℕ × ℕ)). Contains made pair) (sym apart.1) (Contains-append_left old ((a, b) ∷ []) pair h)
    ]

pub made_all : (edges : List (ℕ × ℕ)) (first : List ℕ) (made sorted : List (ℕ × ℕ)) (n : ℕ) → length edges ≤ n → MadeOf edges first made n → ((pair : ℕ × ℕ) → Contains made pair → Contains sorted pair) → ((pair : ℕ × ℕ) → Contains sorted pair → Contains made pair)
    → AreClassEdges edges first sorted
made_all edges first made sorted n all so_far to from = record {
  from_edge = λ a b h. so_far.from_edge a b (from (a, b) h);
  each = λ caller callee a b h a_is b_is. let at = at_Contains edges (caller, callee) h in
      elim (so_far.each at.0 caller callee a b (let lt = at.1 in omega arith) at.2 a_is b_is) [ inl same ↦ inl same | inr pair ↦ inr (to (a, b) pair) ];
}

-- one pair after another
pub between_next : (old now new : List (ℕ × ℕ × ℕ)) (made : List (ℕ × ℕ)) (i key a b : ℕ) → slice_get made i ≡ Some (a, b) → new ≡ now ++ (key, a, b) ∷ []
    → AddsWays old now (λ x y. (k : ℕ) × (k < i) × (slice_get made k ≡ Some (x, y))) → AddsWays old new (λ x y. (k : ℕ) × (k < i + 1) × (slice_get made k ≡ Some (x, y)))
between_next old now new made i key a b at is adds =
    adds_as old new (λ x y. ((k : ℕ) × (k < i) × (slice_get made k ≡ Some (x, y))) ⊎ ((x ≡ a) × (y ≡ b))) (λ x y. (k : ℕ) × (k < i + 1) × (slice_get made k ≡ Some (x, y)))
    (adds_push old now new (λ x y. (k : ℕ) × (k < i) × (slice_get made k ≡ Some (x, y))) key a b is adds)
    (λ x y h. elim h [
      | inl before ↦ (before.0, omega (arith, before.1), before.2)
      | inr here ↦ (i, omega arith, at ∙ ap Some (pair_is x y here.0 here.1))
    ])
    (λ x y h. elim (cases_lt h.0 i) [
      | inl lt ↦ inl (h.0, lt, h.2)
      | inr ge ↦
          (let below = h.1 in
          let e : h.0 ≡ i = omega arith in
          let same : ◌≡◌ {A = ℕ × ℕ} (x, y) (a, b) = same_Some _ _ (sym h.2 ∙ (ap (slice_get made) e ∙ at)) in
          inr (ap (λ (p : ℕ × ℕ). p.0) same, ap (λ (p : ℕ × ℕ). p.1) same))
    ])
  where
    pair_is : (x y : ℕ) → x ≡ a → y ≡ b → ◌≡◌ {A = ℕ × ℕ} (a, b) (x, y)
    pair_is x y p q = λ j. (sym p j, sym q j)

pub between_all : (old new : List (ℕ × ℕ × ℕ)) (made : List (ℕ × ℕ)) (n : ℕ) → length made ≤ n → AddsWays old new (λ x y. (k : ℕ) × (k < n) × (slice_get made k ≡ Some (x, y))) → AddsWays old new (IsBetween made)
between_all old new made n all adds =
    adds_as old new (λ x y. (k : ℕ) × (k < n) × (slice_get made k ≡ Some (x, y))) (IsBetween made) adds
    (λ x y h. Contains-at made h.0 (x, y) h.2)
    (λ x y h. let at = at_Contains made (x, y) h in (at.0, (let lt = at.1 in omega arith), at.2))

-- the same pairs in another order
pub ways_sorted : (edges : List (ℕ × ℕ)) (ways sorted : List (ℕ × ℕ × ℕ)) → ((way : ℕ × ℕ × ℕ) → Contains ways way → Contains sorted way) → ((way : ℕ × ℕ × ℕ) → Contains sorted way → Contains ways way) → AreWays edges ways → AreWays edges sorted
ways_sorted edges ways sorted to from are G = (
  λ keeps key a b h. (are G).0 keeps key a b (from (key, a, b) h),
  λ keeps. (are G).1 (λ key a b h. keeps key a b (to (key, a, b) h)),
)
