-- The sub-objects of an object are parts of it, by their paths.
use Rattle.std.proofs.Common.{arith, ◌≡◌, ℕ, zero, suc, ◌+◌, ◌-◌, ◌<◌, ◌≤◌, Bool, true, false, cond, eqb, T, List, [], ◌∷◌, ◌++◌, Option, Some, None, refl, sym, ap, ◌∙◌, subst}
use Rattle.std.specs.Prelude.{⊤, nat_lt, if◌then◌else◌}
use Rattle.std.proofs.lemmas.Bool.{eqb-true, ltb-true}
use Rattle.std.proofs.Math.Facts.{yes_ltb}
use Rattle.c_types.specs.declared.term.PathStep.{PathStep}
use Rattle.c_types.specs.declared.term.PathStep.TheVariants.{Index, Member}
use Rattle.c_types.specs.Trees.{Ctype, ArrayOf, StructureOf, UnionOf}
use Rattle.c_inits.specs.Shapes.{Shape, Fields, Scalar, Elements, Structured, Overlaid, NoFields, Field, Path, SubObject, within, elements, whole, inner, members as members_of, first_member, subs, onward, onward_in, onward_at}
use Rattle.c_inits.specs.Made.{Part}
use Rattle.c_initialise.specs.placed_paths.Within.{Members, part_type, step_in, step_under, type_in, IsShape, AreShapes}

pub cond_holds : {A : Type 0} (P : A → Type 0) (b : Bool) (x y : A) → (b ≡ true → P x) → (b ≡ false → P y) → P (cond b x y)
cond_holds P true x y h k = h refl
cond_holds P false x y h k = k refl

module _ (members : Members) where
  along : (o : Option Ctype) (p q : Path) → type_in members o (p ++ q) ≡ type_in members (type_in members o p) q
  along o [] q = refl
  along o (step ∷ p) q = along (step_under members o step) p q

  pub further : (t e : Ctype) (p q : Path) → type_in members (Some t) p ≡ Some e → type_in members (Some t) (p ++ q) ≡ type_in members (Some e) q
  further t e p q h = along (Some t) p q ∙ ap (λ (o : Option Ctype). type_in members o q) h

  pub none_in : (p : Path) → type_in members None p ≡ None
  none_in [] = refl
  none_in (step ∷ p) = none_in p

  pub no_type : (p : Path) (e : Ctype) → type_in members None p ≡ Some e → ⊥
  no_type p e h = let n : type_in members None p ≡ None = none_in p in cc

  -- elements within the bounds
  pub index_in : (e : Ctype) (n k : ℕ) → k < n → step_in members (ArrayOf e (Some n)) (Index k) ≡ Some e
  index_in e n k lt = by (nat_lt k n) (yes_ltb lt)
    where
      by : (b : Bool) → T b → (if b then Some e else None) ≡ Some e
      by true h = refl
      by false h = absurd h

  pub in_bound : (e to : Ctype) (n k : ℕ) (p : Path) → type_in members (step_in members (ArrayOf e (Some n)) (Index k)) p ≡ Some to → (k < n) × (type_in members (Some e) p ≡ Some to)
  in_bound e to n k p h = by (nat_lt k n) refl h
    where
      by : (b : Bool) → nat_lt k n ≡ b → type_in members (if b then Some e else None) p ≡ Some to → (k < n) × (type_in members (Some e) p ≡ Some to)
      by true same g = (ltb-true k n same, g)
      by false same g = absurd (no_type p to g)

  -- a part with its shape
  abbrev pub Sub : Ctype → SubObject → Type 0
  Sub t s = (type : Ctype) × (type_in members (Some t) s.path ≡ Some type) × IsShape members type s.shape

  abbrev pub AllSub : Ctype → List SubObject → Type 0
  AllSub t [] = ⊤
  AllSub t (s ∷ rest) = Sub t s × AllSub t rest

  all_append : (t : Ctype) (xs ys : List SubObject) → AllSub t xs → AllSub t ys → AllSub t (xs ++ ys)
  all_append t [] ys h k = k
  all_append t (x ∷ xs) ys h k = (h.0, all_append t xs ys h.1 k)

  within_sub : (t e : Ctype) (step : PathStep) (xs : List SubObject) → step_in members t step ≡ Some e → AllSub e xs → AllSub t (within step xs)
  within_sub t e step [] same h = tt
  within_sub t e step (x ∷ xs) same h = ((h.0.0, ap (λ (o : Option Ctype). type_in members o x.path) same ∙ h.0.1, h.0.2), within_sub t e step xs same h.1)

  elements_sub : (e : Ctype) (n k count : ℕ) (of : List SubObject) → k + count ≤ n → AllSub e of → AllSub (ArrayOf e (Some n)) (elements k count of)
  elements_sub e n k zero of le h = tt
  elements_sub e n k (suc more) of le h =
      all_append (ArrayOf e (Some n)) (within (Index k) of) (elements (suc k) more of) (within_sub (ArrayOf e (Some n)) e (Index k) of (index_in e n k (omega (arith, le))) h)
      (elements_sub e n (suc k) more of (omega (arith, le)) h)

  -- the members of a type
  abbrev pub Steps : Ctype → List Part → Type 0
  Steps t parts = (k : ℕ) → step_in members t (Member k) ≡ part_type (Some parts) k

  pub structure_steps : (t : Ctype) (tag : ℕ) (parts : List Part) → t ≡ StructureOf tag → members tag ≡ Some parts → Steps t parts
  structure_steps t tag parts h e k = ap (λ (x : Ctype). step_in members x (Member k)) h ∙ ap (λ (o : Option (List Part)). part_type o k) e

  pub union_steps : (t : Ctype) (tag : ℕ) (parts : List Part) → t ≡ UnionOf tag → members tag ≡ Some parts → Steps t parts
  union_steps t tag parts h e k = ap (λ (x : Ctype). step_in members x (Member k)) h ∙ ap (λ (o : Option (List Part)). part_type o k) e

  mutual
    inner_sub : (t : Ctype) (s : Shape) → IsShape members t s → AllSub t (inner s)
    inner_sub t (Scalar type) h = tt
    inner_sub t (Elements type of length) h =
        subst (λ (x : Ctype). AllSub x (elements 0 length (whole of ∷ inner of))) (sym h.1)
        (elements_sub h.0 length 0 length (whole of ∷ inner of) (omega arith) ((h.0, refl, h.2), inner_sub h.0 of h.2))
    inner_sub t (Structured type fields) h = members_sub t h.1 (structure_steps t h.0 h.1 h.2 h.3) fields h.4
    inner_sub t (Overlaid type fields) h = first_sub t h.1 (union_steps t h.0 h.1 h.2 h.3) fields h.4

    members_sub : (t : Ctype) (parts : List Part) → Steps t parts → (fields : Fields) → AreShapes members parts fields → AllSub t (members_of fields)
    members_sub t parts steps NoFields h = tt
    members_sub t parts steps (Field name number shape rest) h =
        all_append t (within (Member number) (whole shape ∷ inner shape)) (members_of rest)
        (within_sub t h.0 (Member number) (whole shape ∷ inner shape) (steps number ∙ h.1) ((h.0, refl, h.2), inner_sub h.0 shape h.2)) (members_sub t parts steps rest h.3)

    first_sub : (t : Ctype) (parts : List Part) → Steps t parts → (fields : Fields) → AreShapes members parts fields → AllSub t (first_member fields)
    first_sub t parts steps NoFields h = tt
    first_sub t parts steps (Field name number shape rest) h =
        within_sub t h.0 (Member number) (whole shape ∷ inner shape) (steps number ∙ h.1) ((h.0, refl, h.2), inner_sub h.0 shape h.2)

  pub parts_sub : (t : Ctype) (s : Shape) → IsShape members t s → AllSub t (inner s)
  parts_sub t s h = inner_sub t s h

  pub subs_sub : (t : Ctype) (s : Shape) → IsShape members t s → AllSub t (subs s)
  subs_sub t s h = ((t, refl, h), inner_sub t s h)

  -- from a path on
  module _ (start : Shape → List SubObject) (each : (t : Ctype) (s : Shape) → IsShape members t s → AllSub t (start s)) where
    mutual
      pub onward_sub : (t : Ctype) (s : Shape) (path : Path) (e : Ctype) → IsShape members t s → type_in members (Some t) path ≡ Some e → AllSub t (onward start s path)
      onward_sub t s [] e h k = each t s h
      onward_sub t (Elements type of length) (Index i ∷ path) e h k =
          let at : type_in members (step_in members (ArrayOf h.0 (Some length)) (Index i)) path ≡ Some e = subst (λ (x : Ctype). type_in members (step_in members x (Index i)) path ≡ Some e) h.1 k in
          let found : (i < length) × (type_in members (Some h.0) path ≡ Some e) = in_bound h.0 e length i path at in
          let lt : i < length = found.0 in
          subst (λ (x : Ctype). AllSub x (within (Index i) (onward start of path) ++ elements (suc i) (length - suc i) (subs of))) (sym h.1)
          (all_append (ArrayOf h.0 (Some length)) (within (Index i) (onward start of path)) (elements (suc i) (length - suc i) (subs of))
          (within_sub (ArrayOf h.0 (Some length)) h.0 (Index i) (onward start of path) (index_in h.0 length i lt) (onward_sub h.0 of path e h.2 found.1))
          (elements_sub h.0 length (suc i) (length - suc i) (subs of) (omega (arith, lt)) (subs_sub h.0 of h.2)))
      onward_sub t (Structured type fields) (Member m ∷ path) e h k =
          let steps = structure_steps t h.0 h.1 h.2 h.3 in onward_in_sub t h.1 steps fields m path e h.4 (ap (λ (o : Option Ctype). type_in members o path) (sym (steps m)) ∙ k)
      onward_sub t (Overlaid type fields) (Member m ∷ path) e h k =
          let steps = union_steps t h.0 h.1 h.2 h.3 in onward_at_sub t h.1 steps fields m path e h.4 (ap (λ (o : Option Ctype). type_in members o path) (sym (steps m)) ∙ k)
      onward_sub t s (step ∷ path) e h k = tt

      onward_in_sub : (t : Ctype) (parts : List Part) → Steps t parts → (fields : Fields) (m : ℕ) (path : Path) (e : Ctype) → AreShapes members parts fields
          → type_in members (part_type (Some parts) m) path ≡ Some e → AllSub t (onward_in start fields m path)
      onward_in_sub t parts steps NoFields m path e h k = tt
      onward_in_sub t parts steps (Field name number shape rest) m path e h k =
          cond_holds (AllSub t) (eqb number m) (within (Member number) (onward start shape path) ++ members_of rest) (onward_in start rest m path)
          (λ same. all_append t (within (Member number) (onward start shape path)) (members_of rest)
          (within_sub t h.0 (Member number) (onward start shape path) (steps number ∙ h.1)
          (onward_sub h.0 shape path e h.2 (ap (λ (o : Option Ctype). type_in members o path) (sym h.1 ∙ ap (part_type (Some parts)) (eqb-true number m same)) ∙ k)))
          (members_sub t parts steps rest h.3))
          (λ other. onward_in_sub t parts steps rest m path e h.3 k)

      onward_at_sub : (t : Ctype) (parts : List Part) → Steps t parts → (fields : Fields) (m : ℕ) (path : Path) (e : Ctype) → AreShapes members parts fields
          → type_in members (part_type (Some parts) m) path ≡ Some e → AllSub t (onward_at start fields m path)
      onward_at_sub t parts steps NoFields m path e h k = tt
      onward_at_sub t parts steps (Field name number shape rest) m path e h k =
          cond_holds (AllSub t) (eqb number m) (within (Member number) (onward start shape path)) (onward_at start rest m path)
          (λ same. within_sub t h.0 (Member number) (onward start shape path) (steps number ∙ h.1)
          (onward_sub h.0 shape path e h.2 (ap (λ (o : Option Ctype). type_in members o path) (sym h.1 ∙ ap (part_type (Some parts)) (eqb-true number m same)) ∙ k)))
          (λ other. onward_at_sub t parts steps rest m path e h.3 k)
