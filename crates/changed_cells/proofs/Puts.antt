-- What a value put under a path leaves of the cells at other paths.
use Rattle.std.proofs.Common.{arith, ◌≡◌, ◌∙◌, ◌⊎◌, inl, inr, ℕ, ◌<◌, ◌≤◌, Bool, true, false, cond, eqb, ltb, eq-eqb, ne_eqb, lt-ltb, le-ltb, append-nil, List, [], ◌∷◌, ◌++◌, filter, map, Option, Some, None, refl, sym, ap, subst}
use Rattle.std.proofs.lemmas.Bool.{false≢true, cases_lt}
use Rattle.std.proofs.lemmas.Bool.Decides.{eqb_tells}
use Rattle.std.proofs.lemmas.List.{map-append}
use Rattle.std.proofs.lemmas.List.Elements.{filter-append}
use Rattle.c_types.specs.declared.term.PathStep.{PathStep}
use Rattle.c_types.specs.declared.term.PathStep.TheVariants.{Index, Member}
use Rattle.c_types.specs.Trees.{Ctype, VoidType, BoolType, IntegerType, FloatingType, VaListType, PointerTo, ArrayOf, FunctionFrom, StructureOf, UnionOf}
use Rattle.c_types.specs.Table.{Table}
use Rattle.c_types.specs.Paths.{part_below}
use Rattle.obj_space.specs.Spots.{Reached, step_by, part_at}
use Rattle.ref_cells.specs.Cells.{Entry, CellList, step_key, head_key, behind, under, below, above, prefixed, is_below, is_above, is_under}
use Rattle.ref_cells.specs.Values.{goes_on}
use Rattle.ref_cells.specs.Puts.{put, lost}
use Rattle.ref_mem.specs.Reads.{opened}
use Rattle.ref_mem.specs.Writes.{put_all}
use Rattle.ref_elements.specs.Parts.{Parts}
use Rattle.covering_laws.proofs.covered_memory.Filled.{nowhere}
use Rattle.covering_laws.proofs.covered_memory.Walks.{part_steps}
use Rattle.changed_cells.specs.Cells.{IsPlain, AreInUnion}

some_one : {X : Type 0} → {x y : X} → ◌≡◌ {A = Option X} (Some x) (Some y) → x ≡ y
some_one h = cc

none_some : {X : Type 0} → {x : X} → ◌≡◌ {A = Option X} None (Some x) → ⊥
none_some h = cc

-- ---- steps
step_one : (s t : PathStep) → step_key s ≡ step_key t → s ≡ t
step_one (Index i) (Index j) e = (let n : i ≡ j = omega arith in ap Index n)
step_one (Index i) (Member k) e = absurd (omega arith)
step_one (Member k) (Index i) e = absurd (omega arith)
step_one (Member k) (Member l) e = (let n : k ≡ l = omega arith in ap Member n)

step_cases : (s t : PathStep) → (s ≡ t) ⊎ (step_key s ≡ step_key t → ⊥)
step_cases s t = elim (eqb_tells (step_key s) (step_key t)) [ inl same ↦ inl (step_one s t same.1) | inr other ↦ inr other.1 ]

-- ---- what is listed under a step
filter_within : (p q : Entry → Bool) (xs : CellList) → ((e : Entry) → p e ≡ true → q e ≡ true) → filter p (filter q xs) ≡ filter p xs
filter_within p q [] f = refl
filter_within p q (e ∷ xs) f = by (q e) refl (p e) refl (filter_within p q xs f)
  where
    by : (b : Bool) → q e ≡ b → (c : Bool) → p e ≡ c → filter p (filter q xs) ≡ filter p xs → filter p (cond b (e ∷ filter q xs) (filter q xs)) ≡ cond c (e ∷ filter p xs) (filter p xs)
    by true q_is c p_is rest = ap (λ (d : Bool). cond d (e ∷ filter p (filter q xs)) (filter p (filter q xs))) p_is ∙ ap (λ (ys : CellList). cond c (e ∷ ys) ys) rest
    by false q_is true p_is rest = absurd (false≢true (sym q_is ∙ f e p_is))
    by false q_is false p_is rest = rest

filter_without : (p q : Entry → Bool) (xs : CellList) → ((e : Entry) → p e ≡ true → q e ≡ false) → filter p (filter q xs) ≡ []
filter_without p q [] f = refl
filter_without p q (e ∷ xs) f = by (q e) refl (p e) refl (filter_without p q xs f)
  where
    by : (b : Bool) → q e ≡ b → (c : Bool) → p e ≡ c → filter p (filter q xs) ≡ [] → filter p (cond b (e ∷ filter q xs) (filter q xs)) ≡ []
    by true q_is true p_is rest = absurd (false≢true (sym (f e p_is) ∙ q_is))
    by true q_is false p_is rest = ap (λ (d : Bool). cond d (e ∷ filter p (filter q xs)) (filter p (filter q xs))) p_is ∙ rest
    by false q_is c p_is rest = rest

same_number : (a b : ℕ) → eqb a b ≡ true → a ≡ b
same_number a b e = elim (eqb_tells a b) [ inl same ↦ same.1 | inr other ↦ absurd (false≢true (sym other.0 ∙ e)) ]

under_append : (s : PathStep) (xs ys : CellList) → under s (xs ++ ys) ≡ under s xs ++ under s ys
under_append s xs ys = ap (map behind) (filter-append (is_under (step_key s)) xs ys) ∙ map-append behind (filter (is_under (step_key s)) xs) (filter (is_under (step_key s)) ys)

under_below_less : (s t : PathStep) (cells : CellList) → step_key t < step_key s → under t (below s cells) ≡ under t cells
under_below_less s t cells lt =
    ap (map behind) (filter_within (is_under (step_key t)) (is_below (step_key s)) cells
    (λ e h. (let n : head_key e.0 ≡ step_key t = same_number (head_key e.0) (step_key t) h in lt-ltb (head_key e.0) (step_key s) (omega arith))))

under_below_none : (s t : PathStep) (cells : CellList) → step_key s ≤ step_key t → under t (below s cells) ≡ []
under_below_none s t cells le =
    ap (map behind) (filter_without (is_under (step_key t)) (is_below (step_key s)) cells
    (λ e h. (let n : head_key e.0 ≡ step_key t = same_number (head_key e.0) (step_key t) h in le-ltb (head_key e.0) (step_key s) (omega arith))))

under_above_more : (s t : PathStep) (cells : CellList) → step_key s < step_key t → under t (above s cells) ≡ under t cells
under_above_more s t cells lt =
    ap (map behind) (filter_within (is_under (step_key t)) (is_above (step_key s)) cells
    (λ e h. (let n : head_key e.0 ≡ step_key t = same_number (head_key e.0) (step_key t) h in lt-ltb (step_key s) (head_key e.0) (omega arith))))

under_above_none : (s t : PathStep) (cells : CellList) → step_key t ≤ step_key s → under t (above s cells) ≡ []
under_above_none s t cells le =
    ap (map behind) (filter_without (is_under (step_key t)) (is_above (step_key s)) cells
    (λ e h. (let n : head_key e.0 ≡ step_key t = same_number (head_key e.0) (step_key t) h in le-ltb (step_key s) (head_key e.0) (omega arith))))

under_prefixed : (s : PathStep) (cells : CellList) → under s (prefixed s cells) ≡ cells
under_prefixed s [] = refl
under_prefixed s (e ∷ rest) =
    ap (λ (b : Bool). map behind (cond b ((s ∷ e.0, e.1) ∷ filter (is_under (step_key s)) (prefixed s rest)) (filter (is_under (step_key s)) (prefixed s rest)))) (eq-eqb (step_key s) (step_key s) refl)
    ∙ ap (λ (xs : CellList). e ∷ xs) (under_prefixed s rest)

under_prefixed_none : (s t : PathStep) (cells : CellList) → (step_key s ≡ step_key t → ⊥) → under t (prefixed s cells) ≡ []
under_prefixed_none s t [] other = refl
under_prefixed_none s t (e ∷ rest) other =
    ap (λ (b : Bool). map behind (cond b ((s ∷ e.0, e.1) ∷ filter (is_under (step_key t)) (prefixed s rest)) (filter (is_under (step_key t)) (prefixed s rest)))) (ne_eqb (step_key s) (step_key t) other)
    ∙ under_prefixed_none s t rest other

-- cells with others in place of those under a step
abbrev around : PathStep → CellList → CellList → CellList
around s cells inner = below s cells ++ prefixed s inner ++ above s cells

parts_of : (t : PathStep) (xs ys zs : CellList) → under t (xs ++ ys ++ zs) ≡ under t xs ++ under t ys ++ under t zs
parts_of t xs ys zs = under_append t (xs ++ ys) zs ∙ ap (λ (ws : CellList). ws ++ under t zs) (under_append t xs ys)

around_same : (s : PathStep) (cells inner : CellList) → under s (around s cells inner) ≡ inner
around_same s cells inner =
    parts_of s (below s cells) (prefixed s inner) (above s cells)
    ∙ (ap (λ (ws : CellList). ws ++ under s (prefixed s inner) ++ under s (above s cells)) (under_below_none s s cells (omega arith))
    ∙ (ap (λ (ws : CellList). ws ++ under s (above s cells)) (under_prefixed s inner)
    ∙ (ap (λ (ws : CellList). inner ++ ws) (under_above_none s s cells (omega arith)) ∙ append-nil inner)))

around_other : (s t : PathStep) (cells inner : CellList) → (step_key s ≡ step_key t → ⊥) → under t (around s cells inner) ≡ under t cells
around_other s t cells inner other =
    parts_of t (below s cells) (prefixed s inner) (above s cells)
    ∙ (ap (λ (ws : CellList). under t (below s cells) ++ ws ++ under t (above s cells)) (under_prefixed_none s t inner other)
    ∙ (ap (λ (ws : CellList). ws ++ under t (above s cells)) (append-nil (under t (below s cells))) ∙ by (cases_lt (step_key t) (step_key s))))
  where
    by : (step_key t < step_key s) ⊎ (step_key s ≤ step_key t) → under t (below s cells) ++ under t (above s cells) ≡ under t cells
    by (inl lt) =
        ap (λ (ws : CellList). under t (below s cells) ++ ws) (under_above_none s t cells (omega arith))
        ∙ (append-nil (under t (below s cells)) ∙ under_below_less s t cells lt)
    by (inr le) = ap (λ (ws : CellList). ws ++ under t (above s cells)) (under_below_none s t cells le) ∙ under_above_more s t cells (more (cases_lt (step_key s) (step_key t)))
      where
        more : (step_key s < step_key t) ⊎ (step_key t ≤ step_key s) → step_key s < step_key t
        more (inl lt) = lt
        more (inr ge) = (let same : step_key s ≡ step_key t = omega arith in absurd (other same))

-- ---- types
-- a type that the code follows is the part's; where an index is out of its array there is none
abbrev IsTypeOf : Option Ctype → Ctype → Type 0
IsTypeOf b t = (s : Ctype) → b ≡ Some s → s ≡ t

as_union : (t : Ctype) → ((tag : ℕ) × (t ≡ UnionOf tag)) ⊎ ((tag : ℕ) → t ≡ UnionOf tag → ⊥)
as_union (UnionOf tag) = inl (tag, refl)
as_union VoidType = inr (λ tag h. cc)
as_union BoolType = inr (λ tag h. cc)
as_union (IntegerType size rank signed) = inr (λ tag h. cc)
as_union FloatingType = inr (λ tag h. cc)
as_union VaListType = inr (λ tag h. cc)
as_union (PointerTo to) = inr (λ tag h. cc)
as_union (ArrayOf of n) = inr (λ tag h. cc)
as_union (FunctionFrom r ps f) = inr (λ tag h. cc)
as_union (StructureOf tag) = inr (λ other h. cc)

-- outside of unions each step goes on
on_way : (b : Option Ctype) (t : Ctype) → IsTypeOf b t → ((tag : ℕ) → t ≡ UnionOf tag → ⊥) → (s : PathStep) (cells : CellList) → goes_on b s cells ≡ true
on_way (Some (UnionOf tag)) t typed other (Member k) cells = absurd (other tag (sym (typed (UnionOf tag) refl)))
on_way b t typed other s cells = refl

-- a scalar has no parts
pub never : (⊥ ⊎ ⊥) ⊎ ⊥ → ⊥
never (inl (inl h)) = h
never (inl (inr h)) = h
never (inr h) = h

module _ (table : Table) where
  plain_stop : (t : Ctype) → IsPlain t → (n : ℕ) (i : Bool) (s : PathStep) (q : Reached) → step_by table t n i s ≡ Some q → ⊥
  plain_stop BoolType h n i (Index k) q e = none_some e
  plain_stop BoolType h n i (Member k) q e = none_some e
  plain_stop (IntegerType size rank signed) h n i (Index k) q e = none_some e
  plain_stop (IntegerType size rank signed) h n i (Member k) q e = none_some e
  plain_stop VaListType h n i (Index k) q e = none_some e
  plain_stop VaListType h n i (Member k) q e = none_some e
  plain_stop (PointerTo to) h n i (Index k) q e = none_some e
  plain_stop (PointerTo to) h n i (Member k) q e = none_some e
  plain_stop t h n i s q e = never h

  -- the type one step on
  step_typed : (b : Option Ctype) (r q : Reached) (s : PathStep) → IsTypeOf b r.ty → step_by table r.ty r.node r.inside s ≡ Some q → IsTypeOf (part_below table b s) q.ty
  step_typed None r q s typed e x is = absurd (none_some is)
  step_typed (Some t) r q s typed e x is =
      let same : t ≡ r.ty = typed t refl in
      let st = part_steps table t r.node r.inside s x is in
      let one : st.part ≡ q = some_one (sym st.part_is ∙ (ap (λ (y : Ctype). step_by table y r.node r.inside s) same ∙ e)) in
      sym st.ty ∙ ap (λ (y : Reached). y.ty) one

  -- only members are below a union
  union_member : (r : Reached) (tag : ℕ) → r.ty ≡ UnionOf tag → (s : PathStep) (rest : List PathStep) (q : Reached) → part_at table (Some r) (s ∷ rest) ≡ Some q → (k : ℕ) × (s ≡ Member k)
  union_member r tag is (Member k) rest q e = (k, refl)
  union_member r tag is (Index i) rest q e =
      absurd (none_some (sym (nowhere table rest) ∙ (ap (λ (t : Ctype). part_at table (step_by table t r.node r.inside (Index i)) rest) (sym is) ∙ e)))

  -- the same under one more step
  union_under : (s : PathStep) (r next : Reached) → step_by table r.ty r.node r.inside s ≡ Some next → (p q : List PathStep) → AreInUnion table (Some next) p q → AreInUnion table (Some r) (s ∷ p) (s ∷ q)
  union_under s r next is p q u = record {
    front = s ∷ u.front;
    top = u.top;
    top_is = ap (λ (o : Option Reached). part_at table o u.front) is ∙ u.top_is;
    tag = u.tag;
    union = u.union;
    first = u.first;
    below = u.below;
    p_is = ap (λ (ps : List PathStep). s ∷ ps) u.p_is;
    second = u.second;
    beside = u.beside;
    q_is = ap (λ (ps : List PathStep). s ∷ ps) u.q_is;
  }

  -- ---- one put
  -- a path is below another one, or goes into one union with it
  abbrev IsNear : Reached → List PathStep → List PathStep → Type 0
  IsNear r p q = ((rest : List PathStep) × (q ≡ p ++ rest)) ⊎ AreInUnion table (Some r) p q

  -- what is put and what is seen, where the whole isn't a union
  put_on : (marked : Bool) (b : Option Ctype) (s : PathStep) (p : List PathStep) (value cells : CellList) → goes_on b s cells ≡ true
      → put table marked b (s ∷ p) value cells ≡ around s cells (put table marked (part_below table b s) p value (under s cells))
  put_on marked b s p value cells on =
      ap (λ (c : Bool). cond c (around s cells (put table marked (part_below table b s) p value (under s cells))) (prefixed s (put table marked (part_below table b s) p value (lost table marked (part_below table b s))))) on

  opened_on : (b : Option Ctype) (s : PathStep) (p : List PathStep) (cells : CellList) → goes_on b s cells ≡ true → opened table b (s ∷ p) cells ≡ opened table (part_below table b s) p (under s cells)
  opened_on b s p cells on = ap (λ (c : Bool). cond c (opened table (part_below table b s) p (under s cells)) None) on

  -- the same one step on
  abbrev IsSoBelow : Bool → Option Ctype → PathStep → List PathStep → List PathStep → CellList → CellList → Reached → Reached → Type 0
  IsSoBelow marked b s p q value cells pr qr =
      (next : Reached) → IsTypeOf (part_below table b s) next.ty → part_at table (Some next) p ≡ Some pr → part_at table (Some next) q ≡ Some qr
      → (opened table (part_below table b s) q (put table marked (part_below table b s) p value (under s cells)) ≡ opened table (part_below table b s) q (under s cells)) ⊎ IsNear next p q

  -- A value put under a path leaves what is listed at any other scalar's, but for those of a union through which the
  -- path goes.
  pub put_keeps : (marked : Bool) (b : Option Ctype) (r : Reached) (p q : List PathStep) (value cells : CellList) (pr qr : Reached) → IsTypeOf b r.ty → part_at table (Some r) p ≡ Some pr → part_at table (Some r) q ≡ Some qr → IsPlain qr.ty
      → (opened table b q (put table marked b p value cells) ≡ opened table b q cells) ⊎ IsNear r p q
  put_keeps marked b r [] q value cells pr qr typed p_is q_is plain = inr (inl (q, refl))
  put_keeps marked b r (s ∷ p) [] value cells pr qr typed p_is q_is plain = absurd (by (step_by table r.ty r.node r.inside s) refl p_is)
    where
      by : (o : Option Reached) → step_by table r.ty r.node r.inside s ≡ o → part_at table o p ≡ Some pr → ⊥
      by None is e = none_some (sym (nowhere table p) ∙ e)
      by (Some x) is e = plain_stop r.ty (subst (λ (y : Reached). IsPlain y.ty) (sym (some_one q_is)) plain) r.node r.inside s x is
  put_keeps marked b r (s ∷ p) (t ∷ q) value cells pr qr typed p_is q_is plain =
      by (as_union r.ty) (λ next f g h. put_keeps marked (part_below table b s) next p q value (under s cells) pr qr f g h plain)
    where
      same : ((tag : ℕ) → r.ty ≡ UnionOf tag → ⊥) → (next : Reached) → step_by table r.ty r.node r.inside s ≡ Some next → part_at table (Some next) q ≡ Some qr
          → (opened table (part_below table b s) q (put table marked (part_below table b s) p value (under s cells)) ≡ opened table (part_below table b s) q (under s cells)) ⊎ IsNear next p q
          → (opened table b (s ∷ q) (put table marked b (s ∷ p) value cells) ≡ opened table b (s ∷ q) cells) ⊎ IsNear r (s ∷ p) (s ∷ q)
      same other next is g (inl e) =
          inl (opened_on b s q (put table marked b (s ∷ p) value cells) (on_way b r.ty typed other s (put table marked b (s ∷ p) value cells))
          ∙ (ap (λ (xs : CellList). opened table (part_below table b s) q (under s xs)) (put_on marked b s p value cells (on_way b r.ty typed other s cells))
          ∙ (ap (opened table (part_below table b s) q) (around_same s cells (put table marked (part_below table b s) p value (under s cells)))
          ∙ (e ∙ sym (opened_on b s q cells (on_way b r.ty typed other s cells))))))
      same other next is g (inr (inl (rest, e))) = inr (inl (rest, ap (λ (ps : List PathStep). s ∷ ps) e))
      same other next is g (inr (inr u)) = inr (inr (union_under s r next is p q u))

      differs : ((tag : ℕ) → r.ty ≡ UnionOf tag → ⊥) → (step_key s ≡ step_key t → ⊥) → opened table b (t ∷ q) (put table marked b (s ∷ p) value cells) ≡ opened table b (t ∷ q) cells
      differs other apart =
          opened_on b t q (put table marked b (s ∷ p) value cells) (on_way b r.ty typed other t (put table marked b (s ∷ p) value cells))
          ∙ (ap (λ (xs : CellList). opened table (part_below table b t) q (under t xs)) (put_on marked b s p value cells (on_way b r.ty typed other s cells))
          ∙ (ap (opened table (part_below table b t) q) (around_other s t cells (put table marked (part_below table b s) p value (under s cells)) apart)
          ∙ sym (opened_on b t q cells (on_way b r.ty typed other t cells))))

      stepped : ((tag : ℕ) → r.ty ≡ UnionOf tag → ⊥) → IsSoBelow marked b s p q value cells pr qr → (o : Option Reached) → step_by table r.ty r.node r.inside s ≡ o → part_at table o p ≡ Some pr → part_at table o q ≡ Some qr
          → (opened table b (s ∷ q) (put table marked b (s ∷ p) value cells) ≡ opened table b (s ∷ q) cells) ⊎ IsNear r (s ∷ p) (s ∷ q)
      stepped other inside None is f g = absurd (none_some (sym (nowhere table p) ∙ f))
      stepped other inside (Some next) is f g = same other next is g (inside next (step_typed b r next s typed is) f g)

      at : ((tag : ℕ) → r.ty ≡ UnionOf tag → ⊥) → IsSoBelow marked b s p q value cells pr qr → (s ≡ t) ⊎ (step_key s ≡ step_key t → ⊥)
          → (opened table b (t ∷ q) (put table marked b (s ∷ p) value cells) ≡ opened table b (t ∷ q) cells) ⊎ IsNear r (s ∷ p) (t ∷ q)
      at other inside (inl one) =
          subst (λ (x : PathStep). (opened table b (x ∷ q) (put table marked b (s ∷ p) value cells) ≡ opened table b (x ∷ q) cells) ⊎ IsNear r (s ∷ p) (x ∷ q)) one
          (stepped other inside (step_by table r.ty r.node r.inside s) refl p_is (ap (λ (x : PathStep). part_at table (Some r) (x ∷ q)) one ∙ q_is))
      at other inside (inr apart) = inl (differs other apart)

      by : ((tag : ℕ) × (r.ty ≡ UnionOf tag)) ⊎ ((tag : ℕ) → r.ty ≡ UnionOf tag → ⊥) → IsSoBelow marked b s p q value cells pr qr
          → (opened table b (t ∷ q) (put table marked b (s ∷ p) value cells) ≡ opened table b (t ∷ q) cells) ⊎ IsNear r (s ∷ p) (t ∷ q)
      by (inl (tag, union)) inside =
          let one = union_member r tag union s p pr p_is in
          let two = union_member r tag union t q qr q_is in
          inr (inr (record {
            front = [];
            top = r;
            top_is = refl;
            tag = tag;
            union = union;
            first = one.0;
            below = p;
            p_is = ap (λ (x : PathStep). x ∷ p) one.1;
            second = two.0;
            beside = q;
            q_is = ap (λ (x : PathStep). x ∷ q) two.1;
          }))
      by (inr other) inside = at other inside (step_cases s t)

  -- ---- several puts
  -- each part stands under a path that is written, with all that is below it, and leads to a part of the whole
  abbrev pub AreWritten : (List PathStep → Type 0) → Option Reached → Parts → Type 0
  AreWritten W whole [] = Unit {0}
  AreWritten W whole (part ∷ rest) = (((below : List PathStep) → W (part.0 ++ below)) × ((r : Reached) × (part_at table whole part.0 ≡ Some r))) × AreWritten W whole rest

  -- a path is written, or goes into one union with one that is
  abbrev pub IsNearWritten : (List PathStep → Type 0) → Option Reached → List PathStep → Type 0
  IsNearWritten W whole q = W q ⊎ ((p : List PathStep) × W p × ((r : Reached) × (part_at table whole p ≡ Some r)) × AreInUnion table whole p q)

  whole_path : (p : List PathStep) → p ++ [] ≡ p
  whole_path p = append-nil p

  near_written : (W : List PathStep → Type 0) (r : Reached) (p q : List PathStep) → ((below : List PathStep) → W (p ++ below)) → (x : Reached) → part_at table (Some r) p ≡ Some x → IsNear r p q → IsNearWritten W (Some r) q
  near_written W r p q writes x is (inl (rest, e)) = inl (subst W (sym e) (writes rest))
  near_written W r p q writes x is (inr u) = inr (p, subst W (whole_path p) (writes []), (x, is), u)

  pub parts_keep : (W : List PathStep → Type 0) (marked : Bool) (b : Option Ctype) (r : Reached) (parts : Parts) (q : List PathStep) (cells : CellList) (qr : Reached) → IsTypeOf b r.ty → AreWritten W (Some r) parts → part_at table (Some r) q ≡ Some qr → IsPlain qr.ty
      → (opened table b q (put_all table marked b parts cells) ≡ opened table b q cells) ⊎ IsNearWritten W (Some r) q
  parts_keep W marked b r [] q cells qr typed written q_is plain = inl refl
  parts_keep W marked b r (part ∷ rest) q cells qr typed written q_is plain =
      by (put_keeps marked b r part.0 q part.1 cells written.0.1.0 qr typed written.0.1.1 q_is plain) (parts_keep W marked b r rest q (put table marked b part.0 part.1 cells) qr typed written.1 q_is plain)
    where
      by : (opened table b q (put table marked b part.0 part.1 cells) ≡ opened table b q cells) ⊎ IsNear r part.0 q
          → (opened table b q (put_all table marked b rest (put table marked b part.0 part.1 cells)) ≡ opened table b q (put table marked b part.0 part.1 cells)) ⊎ IsNearWritten W (Some r) q
          → (opened table b q (put_all table marked b rest (put table marked b part.0 part.1 cells)) ≡ opened table b q cells) ⊎ IsNearWritten W (Some r) q
      by (inl e) (inl f) = inl (f ∙ e)
      by (inl e) (inr near) = inr near
      by (inr near) other = inr (near_written W r part.0 q written.0.0 written.0.1.0 written.0.1.1 near)
