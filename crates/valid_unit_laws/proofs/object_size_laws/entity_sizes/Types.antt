-- The types that declarations give together.
use Rattle.std.proofs.Common.{◌≡◌, ◌⊎◌, inl, inr, ℕ, Bool, true, false, List, [], ◌∷◌, Option, Some, None, refl, sym, ap, ◌∙◌, subst}
use Rattle.std.specs.Prelude.{⊤, if◌then◌else◌}
use Rattle.c_types.specs.declared.term.Form.TheVariants.{Fixed, Variadic, Unspecified}
use Rattle.c_types.specs.Trees.{Ctype, VoidType, ArrayOf, FunctionFrom, StructureOf, UnionOf}
use Rattle.type_rules.specs.Kinds.{IsAggregate, LacksLength}
use Rattle.type_rules.specs.Sizes.{with_one}
use Rattle.core_tree.specs.Rows.{IsFunction}
use Rattle.c_scope.specs.declared.kinds.Declared.{Declared}
use Rattle.c_senses.specs.Tree.{Source}
use Rattle.c_senses.specs.Entities.{own_type, agree, fuller, together, all_together, types_of}
use Rattle.c_senses.specs.Sense.{Sense}
use Rattle.c_senses.specs.Right as right
use Rattle.declaration_laws.specs.joined_types.Joined.{Below, AllBelow}
use Rattle.valid_unit_laws.proofs.object_size_laws.entity_sizes.Lists.{In}

some_one : {X : Type 0} → {x y : X} → ◌≡◌ {A = Option X} (Some x) (Some y) → x ≡ y
some_one h = cc

-- what two give together is one of them
fuller_is : (a b : Ctype) → (fuller a b ≡ a) ⊎ (fuller a b ≡ b)
fuller_is (FunctionFrom r ps Fixed) (FunctionFrom q qs Unspecified) = inl refl
fuller_is (FunctionFrom r ps Variadic) (FunctionFrom q qs Unspecified) = inl refl
fuller_is (ArrayOf a (Some n)) (ArrayOf b None) = inl refl
fuller_is a b = inr refl

together_is : (a b : Ctype) → (together a b ≡ a) ⊎ (together a b ≡ b)
together_is a b = by (agree a b) (fuller_is a b)
  where
    by : (x : Bool) → (fuller a b ≡ a) ⊎ (fuller a b ≡ b) → ((if x then fuller a b else b) ≡ a) ⊎ ((if x then fuller a b else b) ≡ b)
    by true h = h
    by false h = inr refl

module _ (s : Source) (f : ℕ → Sense) where
  abbrev IsOneOf : List Declared → Ctype → Type 0
  IsOneOf ds T = (d : Declared) × In d ds × (own_type s f d.node ≡ Some T)

  abbrev with_type : Option Ctype → List Ctype → List Ctype
  with_type o rest = elim o as (λ _. List Ctype) [ None ↦ rest | Some t ↦ t ∷ rest ]

  -- so what all give together is one declaration's
  one_of : (so_far : Option Ctype) (ds : List Declared) (T : Ctype) → all_together so_far (types_of s f ds) ≡ Some T → (so_far ≡ Some T) ⊎ IsOneOf ds T
  one_of so_far [] T e = inl e
  one_of so_far (d ∷ ds) T e = by (own_type s f d.node) refl so_far e (λ before k. one_of before ds T k)
    where
      later : IsOneOf ds T → IsOneOf (d ∷ ds) T
      later h = (h.0, inr h.1, h.2)

      by : (o : Option Ctype) → own_type s f d.node ≡ o → (before : Option Ctype) → all_together before (with_type o (types_of s f ds)) ≡ Some T
          → ((x : Option Ctype) → all_together x (types_of s f ds) ≡ Some T → (x ≡ Some T) ⊎ IsOneOf ds T) → (before ≡ Some T) ⊎ IsOneOf (d ∷ ds) T
      by None own before k more = elim (more before k) [ inl same ↦ inl same | inr h ↦ inr (later h) ]
      by (Some t) own None k more = elim (more (Some t) k) [ inl same ↦ inr (d, inl refl, own ∙ same) | inr h ↦ inr (later h) ]
      by (Some t) own (Some a) k more = elim (more (Some (together a t)) k) [
        | inl same ↦ elim (together_is a t) [
          | inl first ↦ inl (ap (λ (x : Ctype). Some x) (sym first) ∙ same)
          | inr second ↦ inr (d, inl refl, own ∙ (ap (λ (x : Ctype). Some x) (sym second) ∙ same))
        ]
        | inr h ↦ inr (later h)
      ]

  pub type_of_one : (ds : List Declared) (T : Ctype) → all_together None (types_of s f ds) ≡ Some T → IsOneOf ds T
  type_of_one ds T e = by (one_of None ds T e)
    where
      by : (None ≡ Some T) ⊎ IsOneOf ds T → IsOneOf ds T
      by (inl never) = cc
      by (inr h) = h

  pub below_of : (ds : List Declared) (whole : Ctype) (d : Declared) (t : Ctype) → AllBelow (types_of s f ds) whole → In d ds → own_type s f d.node ≡ Some t → Below t whole
  below_of [] whole d t h i own = absurd i
  below_of (x ∷ ds) whole d t h i own = by (own_type s f x.node) refl h i (λ k j. below_of ds whole d t k j own)
    where
      by : (o : Option Ctype) → own_type s f x.node ≡ o → AllBelow (with_type o (types_of s f ds)) whole → (x ≡ d) ⊎ In d ds → (AllBelow (types_of s f ds) whole → In d ds → Below t whole) → Below t whole
      by None e k (inl same) more = let no : None ≡ Some t = sym e ∙ (ap (λ (y : Declared). own_type s f y.node) same ∙ own) in cc
      by None e k (inr j) more = more k j
      by (Some u) e k (inl same) more = let one : u ≡ t = some_one (sym e ∙ (ap (λ (y : Declared). own_type s f y.node) same ∙ own)) in subst (λ (y : Ctype). Below y whole) one k.0
      by (Some u) e k (inr j) more = more k.1 j

-- void, a structure or a union
abbrev pub IsOpenKind : Ctype → Type 0
IsOpenKind VoidType = ⊤
IsOpenKind (StructureOf tag) = ⊤
IsOpenKind (UnionOf tag) = ⊤
IsOpenKind t = ⊥

-- below such a type stands that type alone
pub below_open : (t whole : Ctype) → IsOpenKind whole → Below t whole → t ≡ whole
below_open (ArrayOf a None) VoidType o h = h
below_open (ArrayOf a None) (StructureOf tag) o h = h
below_open (ArrayOf a None) (UnionOf tag) o h = h
below_open (FunctionFrom r ps Unspecified) VoidType o h = h
below_open (FunctionFrom r ps Unspecified) (StructureOf tag) o h = h
below_open (FunctionFrom r ps Unspecified) (UnionOf tag) o h = h
below_open t VoidType o h = h
below_open t (StructureOf tag) o h = h
below_open t (UnionOf tag) o h = h
below_open t whole o h = absurd o

pub open_plain : (t : Ctype) → IsOpenKind t → IsFunction t → ⊥
open_plain VoidType o h = h
open_plain (StructureOf tag) o h = h
open_plain (UnionOf tag) o h = h
open_plain t o h = o

-- ---- arrays of one

pub one_is : (s : Source) (senses : List Sense) (t : Ctype) → right.with_one s senses t ≡ with_one t
one_is s senses (ArrayOf of None) = refl
one_is s senses (ArrayOf of (Some n)) = refl
one_is s senses t = refl

pub one_again : (t : Ctype) → with_one (with_one t) ≡ with_one t
one_again (ArrayOf of None) = refl
one_again (ArrayOf of (Some n)) = refl
one_again t = refl

pub one_closed : (t : Ctype) → LacksLength (with_one t) → ⊥
one_closed (ArrayOf of None) h = h
one_closed (ArrayOf of (Some n)) h = h
one_closed t h = h

pub one_function : (t : Ctype) → IsFunction t → IsFunction (with_one t)
one_function (FunctionFrom r ps form) h = tt
one_function (ArrayOf of None) h = h
one_function (ArrayOf of (Some n)) h = h
one_function t h = h

pub one_aggregate : (t : Ctype) → IsAggregate t → with_one t ≡ t
one_aggregate (ArrayOf of None) h = absurd h
one_aggregate (ArrayOf of (Some n)) h = refl
one_aggregate t h = refl

pub aggregate_closed : (t : Ctype) → IsAggregate t → LacksLength t → ⊥
aggregate_closed (StructureOf tag) h k = k
aggregate_closed (UnionOf tag) h k = k
aggregate_closed t h k = h
