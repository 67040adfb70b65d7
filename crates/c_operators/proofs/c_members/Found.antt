-- The search finds ways, and finds one where there is one.
use Rattle.std.proofs.Common.{◌≡◌, ℕ, zero, suc, ◌+◌, ◌≤◌, Bool, true, false, cond, Option, Some, None, List, [], ◌∷◌, length, slice_get, is_some, refl, sym, ap, ◌∙◌, subst, ◌⊎◌, inl, inr, arith}
use Rattle.std.proofs.lemmas.Bool.{cases_Bool, cond-true, cond-false}
use Rattle.c_types.specs.Trees.{Ctype}
use Rattle.c_inits.specs.Made.{Part}
use Rattle.c_senses.specs.World.{World, members_of, has_name, own_position, or_else, one_step, step_into, in_unnamed, in_members, way_within}
use Rattle.c_operators.specs.c_members.Ways.{IsWay, own, inner, WaysAreWays, WaysAreFound}

-- a member of that name stands where the first one is found
record Own (name : List ℕ) (j k : ℕ) (ms : List Part) : Type 0 where
  place : ℕ
  member : Part
  at : k ≡ j + place
  there : slice_get ms place ≡ Some member
  named : has_name name member.name ≡ true

own_at : (name : List ℕ) (j k : ℕ) (ms : List Part) → own_position name j ms ≡ Some k → Own name j k ms
own_at name j k [] e = absurd cc
own_at name j k (m ∷ rest) e =
    elim (cases_Bool (has_name name m.name)) [
      | inl h ↦ let same : Some j ≡ Some k = sym (cond-true (has_name name m.name) (Some j) (own_position name (suc j) rest) h) ∙ e in
          let equal : j ≡ k = cc in
          record { place = 0; member = m; at = omega arith; there = refl; named = h }
      | inr h ↦
          let o = own_at name (suc j) k rest (sym (cond-false (has_name name m.name) (Some j) (own_position name (suc j) rest) h) ∙ e) in
          record { place = suc o.place; member = o.member; at = let a = o.at in omega arith; there = o.there; named = o.named }
    ]

-- an unnamed member from whose type the search finds a way
record Inner (search : Ctype → Option (List ℕ)) (j : ℕ) (way : List ℕ) (ms : List Part) : Type 0 where
  place : ℕ
  member : Part
  rest : List ℕ
  there : slice_get ms place ≡ Some member
  unnamed : member.name ≡ None
  found : search member.type ≡ Some rest
  whole : way ≡ (j + place) ∷ rest

pick : (j : ℕ) (o s r : Option (List ℕ)) (way : List ℕ) → or_else (elim o as (λ x. Option (List ℕ)) [ None ↦ step_into j s | Some name ↦ None ]) r ≡ Some way → ((o ≡ None) × ((v : List ℕ) × (s ≡ Some v) × (way ≡ j ∷ v))) ⊎ (r ≡ Some way)
pick j None None r way e = inr e
pick j None (Some v) r way e = inl (refl, (v, refl, cc))
pick j (Some name) s r way e = inr e

inner_at : (search : Ctype → Option (List ℕ)) (j : ℕ) (way : List ℕ) (ms : List Part) → in_unnamed search j ms ≡ Some way → Inner search j way ms
inner_at search j way [] e = absurd cc
inner_at search j way (m ∷ rest) e =
    elim (pick j m.name (search m.type) (in_unnamed search (suc j) rest) way e) [
      | inl p ↦ let here : j ≡ j + 0 = omega arith in
          record { place = 0; member = m; rest = p.1.0; there = refl; unnamed = p.0; found = p.1.1; whole = p.1.2 ∙ ap (λ x. x ∷ p.1.0) here }
      | inr r ↦
          let o = inner_at search (suc j) way rest r in
          let here : suc j + o.place ≡ j + suc o.place = omega arith in
          record {
            place = suc o.place;
            member = o.member;
            rest = o.rest;
            there = o.there;
            unnamed = o.unnamed;
            found = o.found;
            whole = o.whole ∙ ap (λ x. x ∷ o.rest) here;
          }
    ]

module _ (w : World) (name : List ℕ) where
  -- what a level finds is a way, where what the next one finds is
  from_own : (depth : ℕ) (t : Ctype) (ms : List Part) (p : Option ℕ) (way : List ℕ) → ((u : Ctype) (v : List ℕ) → way_within w depth name u ≡ Some v → IsWay w name u v) → members_of w t ≡ Some ms → own_position name 0 ms ≡ p → or_else (one_step p) (in_unnamed (way_within w depth name) 0 ms) ≡ Some way → IsWay w name t way
  from_own depth t ms (Some k) way deeper h e f =
      let o = own_at name 0 k ms e in
      let place : o.place ≡ k = let a = o.at in omega arith in
      let whole : k ∷ [] ≡ way = cc in
      subst (IsWay w name t) (ap (λ i. i ∷ []) place ∙ whole) (own h o.there o.named)
  from_own depth t ms None way deeper h e f =
      let o = inner_at (way_within w depth name) 0 way ms f in
      let place : o.place ≡ 0 + o.place = omega arith in
      subst (IsWay w name t) (ap (λ i. i ∷ o.rest) place ∙ sym o.whole) (inner h o.there o.unnamed (deeper o.member.type o.rest o.found))

  from_members : (depth : ℕ) (t : Ctype) (o : Option (List Part)) (way : List ℕ) → ((u : Ctype) (v : List ℕ) → way_within w depth name u ≡ Some v → IsWay w name u v) → members_of w t ≡ o → in_members (way_within w depth name) name o ≡ Some way → IsWay w name t way
  from_members depth t None way deeper h e = absurd cc
  from_members depth t (Some ms) way deeper h e = from_own depth t ms (own_position name 0 ms) way deeper h refl e

  is_way : (depth : ℕ) (t : Ctype) (way : List ℕ) → way_within w depth name t ≡ Some way → IsWay w name t way
  is_way zero t way e = absurd cc
  is_way (suc depth) t way e = from_members depth t (members_of w t) way (is_way depth) refl e

-- where a member of that name stands, one is found
left_some : (p : Option ℕ) (r : Option (List ℕ)) → is_some p ≡ true → is_some (or_else (one_step p) r) ≡ true
left_some None r e = cc
left_some (Some k) r e = refl

right_some : (a r : Option (List ℕ)) → is_some r ≡ true → is_some (or_else a r) ≡ true
right_some None r e = e
right_some (Some x) r e = refl

cond_some : (b : Bool) (j : ℕ) (p : Option ℕ) → is_some p ≡ true → is_some (cond b (Some j) p) ≡ true
cond_some true j p e = refl
cond_some false j p e = e

own_some : (name : List ℕ) (j k : ℕ) (ms : List Part) (m : Part) → slice_get ms k ≡ Some m → has_name name m.name ≡ true → is_some (own_position name j ms) ≡ true
own_some name j k [] m e h = absurd cc
own_some name j zero (x ∷ ms) m e h =
    let same : x ≡ m = cc in
    ap is_some (cond-true (has_name name x.name) (Some j) (own_position name (suc j) ms) (ap (λ (y : Part). has_name name y.name) same ∙ h))
own_some name j (suc k) (x ∷ ms) m e h = cond_some (has_name name x.name) j (own_position name (suc j) ms) (own_some name (suc j) k ms m e h)

-- and where an unnamed member has a way
into_some : (j : ℕ) (o s r : Option (List ℕ)) → o ≡ None → is_some s ≡ true → is_some (or_else (elim o as (λ x. Option (List ℕ)) [ None ↦ step_into j s | Some name ↦ None ]) r) ≡ true
into_some j None None r e h = cc
into_some j None (Some v) r e h = refl
into_some j (Some name) s r e h = cc

unnamed_some : (search : Ctype → Option (List ℕ)) (j k : ℕ) (ms : List Part) (m : Part) → slice_get ms k ≡ Some m → m.name ≡ None → is_some (search m.type) ≡ true → is_some (in_unnamed search j ms) ≡ true
unnamed_some search j k [] m e u h = absurd cc
unnamed_some search j zero (x ∷ ms) m e u h =
    let same : x ≡ m = cc in
    into_some j x.name (search x.type) (in_unnamed search (suc j) ms) (ap (λ (y : Part). y.name) same ∙ u) (ap (λ (y : Part). is_some (search y.type)) same ∙ h)
unnamed_some search j (suc k) (x ∷ ms) m e u h = right_some _ (in_unnamed search (suc j) ms) (unnamed_some search (suc j) k ms m e u h)

found_within : (w : World) (name : List ℕ) (t : Ctype) (way : List ℕ) → IsWay w name t way → (depth : ℕ) → length way ≤ depth → is_some (way_within w depth name t) ≡ true
found_within w name t way (own {ms = ms} {k = k} {m = m} h e named) zero l = absurd (omega arith)
found_within w name t way (own {ms = ms} {k = k} {m = m} h e named) (suc depth) l =
    ap (λ o. is_some (in_members (way_within w depth name) name o)) h ∙ left_some (own_position name 0 ms) (in_unnamed (way_within w depth name) 0 ms) (own_some name 0 k ms m e named)
found_within w name t way (inner {ms = ms} {k = k} {m = m} {way = v} h e u i) zero l = absurd (omega arith)
found_within w name t way (inner {ms = ms} {k = k} {m = m} {way = v} h e u i) (suc depth) l =
    ap (λ o. is_some (in_members (way_within w depth name) name o)) h
    ∙ right_some (one_step (own_position name 0 ms)) (in_unnamed (way_within w depth name) 0 ms) (unnamed_some (way_within w depth name) 0 k ms m e u (found_within w name m.type v i depth (omega arith)))

pub ways_are_ways : WaysAreWays
ways_are_ways w name t way e = is_way w name (suc w.tags) t way e

pub ways_are_found : WaysAreFound
ways_are_found w name t way i l = found_within w name t way i (suc w.tags) l
