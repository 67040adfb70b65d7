-- What functions are passed past their parameters, in programs that are one, but for numbers.
use Rattle.std.proofs.Common.{arith, ◌≡◌, ◌∙◌, ◌⊎◌, ◌<◌, ℕ, zero, suc, Bool, true, false, codes, List, [], ◌∷◌, ◌++◌, Option, Some, refl, sym, ap, subst, inl, inr}
use Rattle.std.specs.Prelude.{if◌then◌else◌, ◌&&◌}
use Rattle.std.specs.declared.cmp.Ordering.{Ordering}
use Rattle.std.specs.declared.cmp.Ordering.TheVariants.{Less, Equal, Greater}
use Rattle.std.specs.Cmp.{nat_cmp_is}
use Rattle.std.specs.Ordering.{nat_cmp, ordering_then}
use Rattle.std.specs.List.{slice_get}
use Rattle.std.specs.Option.{option_map}
use Rattle.std.proofs.lemmas.Bool.{cases_eq, cases_lt, false≢true}
use Rattle.std.proofs.lemmas.Option.{slice_get_within}
use Rattle.pta_base.specs.declared.place.Place.{Place}
use Rattle.c_types.specs.Trees.{Ctype, FunctionFrom}
use Rattle.c_types.specs.Table.{type_of}
use Rattle.core_tree.specs.declared.node.Entity.{Entity}
use Rattle.core_tree.specs.declared.node.Storage.{Storage}
use Rattle.core_tree.specs.declared.node.Storage.TheVariants.{Static, Automatic, FunctionBody, Parameter, Declared}
use Rattle.core_tree.specs.declared.node.Program.{Program}
use Rattle.link_model.specs.Renamed.{renamed}
use Rattle.obj_made.specs.Spelling.{varargs_name}
use Rattle.obj_made.specs.Uses.{is_number}
use Rattle.obj_made.specs.Made.{spot_at, by_place, is_less, is_before, later, parameter_owner, last_place, has_body, is_variadic, has_varargs}
use Rattle.twin_report_laws.specs.outcome_laws.twin_programs.One.{Numbers, SameEntity, LeadsTo}
use Rattle.twin_report_laws.proofs.outcome_laws.twin_locations.Options.{some_one, none_some, number_is, is_the_number}
use Rattle.twin_report_laws.proofs.outcome_laws.twin_locations.Names.{linked_same}

-- ---- the order of places
-- a place in front of another one: by units, lines and columns
abbrev pub Front : Place → Place → Type 0
Front a b = (a.unit < b.unit) ⊎ ((a.unit ≡ b.unit) × ((a.line < b.line) ⊎ ((a.line ≡ b.line) × (a.column < b.column))))

front_then : (a b c : Place) → Front a b → Front b c → Front a c
front_then a b c (inl h) (inl k) = inl (omega (arith, h, k))
front_then a b c (inl h) (inr k) = inl (let e = k.0 in omega (arith, h, e))
front_then a b c (inr h) (inl k) = inl (let e = h.0 in omega (arith, e, k))
front_then a b c (inr h) (inr k) = inr (h.0 ∙ k.0, by h.1 k.1)
  where
    by : (a.line < b.line) ⊎ ((a.line ≡ b.line) × (a.column < b.column)) → (b.line < c.line) ⊎ ((b.line ≡ c.line) × (b.column < c.column)) → (a.line < c.line) ⊎ ((a.line ≡ c.line) × (a.column < c.column))
    by (inl x) (inl y) = inl (omega (arith, x, y))
    by (inl x) (inr y) = inl (let e = y.0 in omega (arith, x, e))
    by (inr x) (inl y) = inl (let e = x.0 in omega (arith, e, y))
    by (inr x) (inr y) = inr (x.0 ∙ y.0, (let m = x.1 in let n = y.1 in omega (arith, m, n)))

one_place : (a b : Place) → a.unit ≡ b.unit → a.line ≡ b.line → a.column ≡ b.column → a ≡ b
one_place a b unit line column = λ i. record { unit = unit i; line = line i; column = column i }

-- places are one, or one is in front
front_or : (a b : Place) → (a ≡ b) ⊎ (Front a b ⊎ Front b a)
front_or a b = elim (cases_lt a.unit b.unit) [
  | inl lt ↦ inr (inl (inl lt))
  | inr ge ↦ elim (cases_eq a.unit b.unit) [
    | inl unit ↦ elim (cases_lt a.line b.line) [
      | inl lt ↦ inr (inl (inr (unit, inl lt)))
      | inr above ↦ elim (cases_eq a.line b.line) [
        | inl line ↦ elim (cases_lt a.column b.column) [
          | inl lt ↦ inr (inl (inr (unit, inr (line, lt))))
          | inr past ↦ elim (cases_eq a.column b.column) [
            | inl column ↦ inl (one_place a b unit line column)
            | inr other ↦ inr (inr (inr (sym unit, inr (sym line, omega (arith, past, other)))))
          ]
        ]
        | inr other ↦ inr (inr (inr (sym unit, inl (omega (arith, above, other)))))
      ]
    ]
    | inr other ↦ inr (inr (inl (omega (arith, ge, other))))
  ]
]

-- what the test of places says
then_less : (o q : Ordering) → ordering_then o q ≡ Less → (o ≡ Less) ⊎ ((o ≡ Equal) × (q ≡ Less))
then_less Less q e = inl refl
then_less Equal q e = inr (refl, e)
then_less Greater q e = absurd (cc)

less_is : (a b : ℕ) → nat_cmp a b ≡ Less → a < b
less_is a b e = elim (cases_lt a b) [
  | inl lt ↦ lt
  | inr ge ↦ elim (cases_eq a b) [
    | inl same ↦ absurd (let equal = nat_cmp_is a b Equal same in let bad : Less ≡ Equal = sym e ∙ sym equal in cc)
    | inr other ↦ absurd (let more = nat_cmp_is a b Greater (omega (arith, ge, other)) in let bad : Less ≡ Greater = sym e ∙ sym more in cc)
  ]
]

equal_is : (a b : ℕ) → nat_cmp a b ≡ Equal → a ≡ b
equal_is a b e = elim (cases_eq a b) [
  | inl same ↦ same
  | inr other ↦ absurd (elim (cases_lt a b) [
    | inl lt ↦ (let less = nat_cmp_is a b Less lt in let bad : Equal ≡ Less = sym e ∙ sym less in cc)
    | inr ge ↦ (let more = nat_cmp_is a b Greater (omega (arith, ge, other)) in let bad : Equal ≡ Greater = sym e ∙ sym more in cc)
  ])
]

is_less_so : (o : Ordering) → is_less o ≡ true → o ≡ Less
is_less_so Less e = refl
is_less_so Equal e = absurd (false≢true e)
is_less_so Greater e = absurd (false≢true e)

front_is : (a b : Place) → is_before a b ≡ true → Front a b
front_is a b e =
    elim (then_less (nat_cmp a.unit b.unit) _ (is_less_so (by_place (spot_at a 0) (spot_at b 0)) e)) [
      | inl less ↦ inl (less_is a.unit b.unit less)
      | inr same ↦ elim (then_less (nat_cmp a.line b.line) _ same.1) [
        | inl less ↦ inr (equal_is a.unit b.unit same.0, inl (less_is a.line b.line less))
        | inr line ↦ elim (then_less (nat_cmp a.column b.column) _ line.1) [
          | inl less ↦ inr (equal_is a.unit b.unit same.0, inr (equal_is a.line b.line line.0, less_is a.column b.column less))
          | inr column ↦ absurd (let zeros = column.1 in let equal = nat_cmp_is 0 0 Equal refl in let bad : Less ≡ Equal = sym zeros ∙ sym equal in cc)
        ]
      ]
    ]

abbrev columns : Place → Place → Ordering
columns a b = ordering_then (nat_cmp a.column b.column) (nat_cmp 0 0)

abbrev lines : Place → Place → Ordering
lines a b = ordering_then (nat_cmp a.line b.line) (columns a b)

is_front : (a b : Place) → Front a b → is_before a b ≡ true
is_front a b (inl lt) = ap (λ (o : Ordering). is_less (ordering_then o (lines a b))) (sym (nat_cmp_is a.unit b.unit Less lt))
is_front a b (inr (unit, inl lt)) =
    ap (λ (o : Ordering). is_less (ordering_then o (lines a b))) (sym (nat_cmp_is a.unit b.unit Equal unit)) ∙ ap (λ (o : Ordering). is_less (ordering_then o (columns a b))) (sym (nat_cmp_is a.line b.line Less lt))
is_front a b (inr (unit, inr (line, lt))) =
    ap (λ (o : Ordering). is_less (ordering_then o (lines a b))) (sym (nat_cmp_is a.unit b.unit Equal unit))
    ∙ (ap (λ (o : Ordering). is_less (ordering_then o (columns a b))) (sym (nat_cmp_is a.line b.line Equal line))
    ∙ ap (λ (o : Ordering). is_less (ordering_then o (nat_cmp 0 0))) (sym (nat_cmp_is a.column b.column Less lt)))

-- ---- the last place of a function's parameters
-- a parameter of that function
pub record IsParameterAt (f : ℕ) (xs : List Entity) (place : Place) : Type 0 where
  pub number : ℕ
  pub entity : Entity
  pub there : slice_get xs number ≡ Some entity
  pub storage : entity.storage ≡ Parameter
  pub owner : entity.owner ≡ Some f
  pub place_is : entity.place ≡ place

more_at : (f : ℕ) (x : Entity) (xs : List Entity) (place : Place) → IsParameterAt f xs place → IsParameterAt f (x ∷ xs) place
more_at f x xs place h = record { number = suc h.number; entity = h.entity; there = h.there; storage = h.storage; owner = h.owner; place_is = h.place_is }

owner_is : (f : ℕ) (storage : Storage) (owner : Option ℕ) → is_number f (parameter_owner storage owner) ≡ true → (storage ≡ Parameter) × (owner ≡ Some f)
owner_is f Parameter owner e = (refl, number_is f owner e)
owner_is f Static owner e = absurd (false≢true e)
owner_is f Automatic owner e = absurd (false≢true e)
owner_is f FunctionBody owner e = absurd (false≢true e)
owner_is f Declared owner e = absurd (false≢true e)

is_owner : (f : ℕ) (storage : Storage) (owner : Option ℕ) → storage ≡ Parameter → owner ≡ Some f → is_number f (parameter_owner storage owner) ≡ true
is_owner f storage owner s o = is_the_number f (parameter_owner storage owner) (ap (λ (st : Storage). parameter_owner st owner) s ∙ o)

-- it is the place that was there, or that of a parameter
pub last_from : (place : Place) (f : ℕ) (xs : List Entity) → (last_place place f xs ≡ place) ⊎ IsParameterAt f xs (last_place place f xs)
last_from place f [] = inl refl
last_from place f (x ∷ rest) = by (is_number f (parameter_owner x.storage x.owner)) refl (λ p. last_from p f rest)
  where
    own : (storage : x.storage ≡ Parameter) (owner : x.owner ≡ Some f) (place : Place) → place ≡ x.place → IsParameterAt f (x ∷ rest) place
    own storage owner place is = record { number = 0; entity = x; there = refl; storage = storage; owner = owner; place_is = sym is }

    pick : (b : Bool) → (last : Place) → last ≡ (if b then x.place else place) → (x.storage ≡ Parameter) × (x.owner ≡ Some f) → (last ≡ place) ⊎ IsParameterAt f (x ∷ rest) last
    pick true last is o = inr (own o.0 o.1 last is)
    pick false last is o = inl is

    by : (b : Bool) → is_number f (parameter_owner x.storage x.owner) ≡ b → ((p : Place) → (last_place p f rest ≡ p) ⊎ IsParameterAt f rest (last_place p f rest)) → (last_place (if b then later place x.place else place) f rest ≡ place) ⊎ IsParameterAt f (x ∷ rest) (last_place (if b then later place x.place else place) f rest)
    by false e more = elim (more place) [ inl same ↦ inl same | inr h ↦ inr (more_at f x rest (last_place place f rest) h) ]
    by true e more = elim (more (later place x.place)) [
      | inl same ↦ pick (is_before place x.place) (last_place (later place x.place) f rest) same (owner_is f x.storage x.owner e)
      | inr h ↦ inr (more_at f x rest (last_place (later place x.place) f rest) h)
    ]

front_self : (a : Place) → Front a a → ⊥
front_self a (inl h) = omega (arith, h)
front_self a (inr (e, inl h)) = omega (arith, h)
front_self a (inr (e, inr (d, h))) = omega (arith, h)

behind : (a b c : Place) → (Front a b → ⊥) → (Front b c → ⊥) → Front a c → ⊥
behind a b c h k front = elim (front_or b c) [
  | inl same ↦ h (subst (Front a) (sym same) front)
  | inr differ ↦ elim differ [ inl before ↦ k before | inr after ↦ h (front_then a c b front after) ]
]

-- the later one of two places is in front of neither
later_past : (a b : Place) → (Front (later a b) a → ⊥) × (Front (later a b) b → ⊥)
later_past a b = by (is_before a b) refl
  where
    by : (c : Bool) → is_before a b ≡ c → (Front (if c then b else a) a → ⊥) × (Front (if c then b else a) b → ⊥)
    by true e = ((λ h. front_self a (front_then a b a (front_is a b e) h)), front_self b)
    by false e = (front_self a, λ h. false≢true (sym e ∙ is_front a b h))

-- the last place is in front of none of them
past_start : (place : Place) (f : ℕ) (xs : List Entity) → Front (last_place place f xs) place → ⊥
past_start place f [] h = front_self place h
past_start place f (x ∷ rest) h = by (is_number f (parameter_owner x.storage x.owner)) (λ p. past_start p f rest) h
  where
    by : (b : Bool) → ((p : Place) → Front (last_place p f rest) p → ⊥) → Front (last_place (if b then later place x.place else place) f rest) place → ⊥
    by true more k = behind (last_place (later place x.place) f rest) (later place x.place) place (more (later place x.place)) (later_past place x.place).0 k
    by false more k = more place k

past_at : (place : Place) (f : ℕ) (xs : List Entity) (i : ℕ) (z : Entity) → slice_get xs i ≡ Some z → z.storage ≡ Parameter → z.owner ≡ Some f → Front (last_place place f xs) z.place → ⊥
past_at place f [] i z at storage owner h = none_some at
past_at place f (x ∷ rest) zero z at storage owner h =
    let same : x ≡ z = some_one at in
    let counts : is_number f (parameter_owner x.storage x.owner) ≡ true = is_owner f x.storage x.owner (ap (λ (y : Entity). y.storage) same ∙ storage) (ap (λ (y : Entity). y.owner) same ∙ owner) in
    let here : Front (last_place (later place x.place) f rest) x.place =
    subst (λ (b : Bool). Front (last_place (if b then later place x.place else place) f rest) x.place) counts (subst (λ (y : Entity). Front (last_place place f (x ∷ rest)) y.place) (sym same) h) in
    behind (last_place (later place x.place) f rest) (later place x.place) x.place (past_start (later place x.place) f rest) (later_past place x.place).1 here
past_at place f (x ∷ rest) (suc i) z at storage owner h = by (is_number f (parameter_owner x.storage x.owner)) (λ p. past_at p f rest i z at storage owner) h
  where
    by : (b : Bool) → ((p : Place) → Front (last_place p f rest) z.place → ⊥) → Front (last_place (if b then later place x.place else place) f rest) z.place → ⊥
    by true more k = more (later place x.place) k
    by false more k = more place k

past_each : (place : Place) (f : ℕ) (xs : List Entity) (c : Place) → IsParameterAt f xs c → Front (last_place place f xs) c → ⊥
past_each place f xs c h front = past_at place f xs h.number h.entity h.there h.storage h.owner (subst (Front (last_place place f xs)) (sym h.place_is) front)

-- ---- in programs that are one
variadic_renamed : (f : ℕ → ℕ) (t : Ctype) → is_variadic (renamed f t) ≡ is_variadic t
variadic_renamed f (FunctionFrom result parameters form) = refl
variadic_renamed f t = refl

module _ (p q : Program) (to back : Numbers) (l : LeadsTo p q to back) where
  pub has_same : (x y : Entity) → SameEntity p.types q.types to x y → has_varargs q.types y ≡ has_varargs p.types x
  has_same x y same =
      ap (λ (s : Storage). has_body s && is_variadic (type_of q.types y.ty.0)) same.storage
      ∙ (ap (λ (t : Ctype). has_body x.storage && is_variadic t) same.type ∙ ap (λ (b : Bool). has_body x.storage && b) (variadic_renamed to.tag (type_of p.types x.ty.0)))

  pub further_name : (x y : Entity) → SameEntity p.types q.types to x y → varargs_name q.names.items y ≡ varargs_name p.names.items x
  further_name x y same = ap (λ (name : List ℕ). name ++ codes "/...") (linked_same p q to back l x y same)

  parameter_there : (f : ℕ) (c : Place) → IsParameterAt f p.entities.items c → IsParameterAt (to.entity f) q.entities.items c
  parameter_there f c h =
      let (y, there, same) = l.entities h.number h.entity h.there in
      record { number = to.entity h.number; entity = y; there = there; storage = same.storage ∙ h.storage; owner = same.owner ∙ ap (option_map to.entity) h.owner; place_is = same.place ∙ h.place_is }

module _ (p q : Program) (to back : Numbers) (l : LeadsTo p q to back) (r : LeadsTo q p back to) where
  -- the last places are the same
  pub last_same : (e : ℕ) (x y : Entity) → slice_get p.entities.items e ≡ Some x → SameEntity p.types q.types to x y → last_place y.place (to.entity e) q.entities.items ≡ last_place x.place e p.entities.items
  last_same e x y at same = elim (front_or (last_place y.place (to.entity e) q.entities.items) (last_place x.place e p.entities.items)) [
    | inl one ↦ one
    | inr differ ↦ elim differ [ inl before ↦ absurd (not_there before) | inr after ↦ absurd (not_here after) ]
  ]
    where
      parameter_back : (c : Place) → IsParameterAt (to.entity e) q.entities.items c → IsParameterAt e p.entities.items c
      parameter_back c h = subst (λ (f : ℕ). IsParameterAt f p.entities.items c) (l.entity_back e (slice_get_within p.entities.items e x at)) (parameter_there q p back to r (to.entity e) c h)

      not_here : Front (last_place x.place e p.entities.items) (last_place y.place (to.entity e) q.entities.items) → ⊥
      not_here h = elim (last_from y.place (to.entity e) q.entities.items) [
        | inl start ↦ past_start x.place e p.entities.items (subst (Front (last_place x.place e p.entities.items)) (start ∙ same.place) h)
        | inr at_parameter ↦ past_each x.place e p.entities.items (last_place y.place (to.entity e) q.entities.items) (parameter_back (last_place y.place (to.entity e) q.entities.items) at_parameter) h
      ]

      not_there : Front (last_place y.place (to.entity e) q.entities.items) (last_place x.place e p.entities.items) → ⊥
      not_there h = elim (last_from x.place e p.entities.items) [
        | inl start ↦ past_start y.place (to.entity e) q.entities.items (subst (Front (last_place y.place (to.entity e) q.entities.items)) (start ∙ sym same.place) h)
        | inr at_parameter ↦
            past_each y.place (to.entity e) q.entities.items (last_place x.place e p.entities.items) (parameter_there p q to back l e (last_place x.place e p.entities.items) at_parameter) h
      ]
