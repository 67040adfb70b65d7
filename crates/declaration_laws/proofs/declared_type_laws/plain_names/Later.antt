-- Types of declarations, as they are known and later.
use Rattle.std.proofs.Common.{◌≡◌, ◌⊎◌, inl, inr, ℕ, Bool, true, false, List, [], ◌∷◌, Option, Some, None, refl, sym, ap, ◌∙◌, subst}
use Rattle.std.specs.Prelude.{option_map, option_and_then, if◌then◌else◌}
use Rattle.c_types.specs.Trees.{Ctype, VoidType, BoolType, IntegerType, FloatingType, VaListType, PointerTo, ArrayOf, FunctionFrom, StructureOf, UnionOf}
use Rattle.c_grammar.specs.Productions.{p_rest}
use Rattle.c_senses.specs.Tree.{Source, is_a, children_at, parent_of}
use Rattle.c_senses.specs.Declarators.{derived, outermost_of, specs_of}
use Rattle.c_senses.specs.Entities.{with_length, behind, specified, specified_of, derived_type, parameter_type, is_parameter, declaration_of, length_given_by, initialiser_in, without_asm, in_rest, initialiser_of, initialiser_for, own_type}
use Rattle.c_senses.specs.Sense.{Sense, Nothing, IsSpecified, IsDeclarator, IsParameter, IsInitial, Specified, sense_in}
use Rattle.core_node_laws.proofs.built_unit_laws.run_laws.Times.{known_at, known, told_before}

some_one : {X : Type 0} → {x y : X} → ◌≡◌ {A = Option X} (Some x) (Some y) → x ≡ y
some_one h = cc

-- all that is known is known later
abbrev pub Later : (ℕ → Sense) → (ℕ → Sense) → Type 0
Later f g = (j : ℕ) (x : Sense) → f j ≡ x → (x ≡ Nothing → ⊥) → g j ≡ x

pub known_later : (s : Source) (senses : List Sense) (n : ℕ) → Later (known_at s senses n) (sense_in senses)
known_later s senses n j x e some = sym (known s senses n j (told_before s senses n j x e some)) ∙ e

-- the same type, or an array that got a length
abbrev pub Grown : Ctype → Ctype → Type 0
Grown t u = (t ≡ u) ⊎ ((of : Ctype) × (n : ℕ) × (t ≡ ArrayOf of None) × (u ≡ ArrayOf of (Some n)))

with_length_grown : (n : Option ℕ) (t : Ctype) → Grown t (with_length n t)
with_length_grown None t = inl refl
with_length_grown (Some n) (ArrayOf of None) = inr (of, n, refl, refl)
with_length_grown (Some n) (ArrayOf of (Some k)) = inl refl
with_length_grown (Some n) VoidType = inl refl
with_length_grown (Some n) BoolType = inl refl
with_length_grown (Some n) (IntegerType size rank signed) = inl refl
with_length_grown (Some n) FloatingType = inl refl
with_length_grown (Some n) VaListType = inl refl
with_length_grown (Some n) (PointerTo to) = inl refl
with_length_grown (Some n) (FunctionFrom r ps form) = inl refl
with_length_grown (Some n) (StructureOf tag) = inl refl
with_length_grown (Some n) (UnionOf tag) = inl refl

module _ (s : Source) (f g : ℕ → Sense) where
  -- initialisers stand where they stand
  without_same : (list : List ℕ) → without_asm s f list ≡ without_asm s g list
  without_same [] = refl
  without_same (c ∷ rest) = refl

  in_same : (list : List ℕ) → initialiser_in s f list ≡ initialiser_in s g list
  in_same [] = refl
  in_same (x ∷ []) = refl
  in_same (x ∷ y ∷ rest) = refl

  rest_same : (list : List ℕ) → in_rest s f list ≡ in_rest s g list
  rest_same [] = refl
  rest_same (c ∷ rest) = ap (λ (o : Option ℕ). if is_a s p_rest c then o else None) (in_same (children_at s c))

  pub initialiser_same : (declarator : ℕ) → initialiser_of s f declarator ≡ initialiser_of s g declarator
  initialiser_same declarator = by (parent_of s declarator)
    where
      of_list : (b : Bool) (list : List ℕ) → (if b then initialiser_in s f (without_asm s f list) else in_rest s f (without_asm s f list)) ≡ (if b then initialiser_in s g (without_asm s g list) else in_rest s g (without_asm s g list))
      of_list true list = ap (initialiser_in s f) (without_same list) ∙ in_same (without_asm s g list)
      of_list false list = ap (in_rest s f) (without_same list) ∙ rest_same (without_asm s g list)

      by : (o : Option ℕ)
          → (elim o as (λ _. Option ℕ) [ None ↦ None | Some p ↦ if is_a s p_rest p then initialiser_in s f (without_asm s f (behind declarator (children_at s p))) else in_rest s f (without_asm s f (behind declarator (children_at s p))) ])
          ≡ (elim o as (λ _. Option ℕ) [ None ↦ None | Some p ↦ if is_a s p_rest p then initialiser_in s g (without_asm s g (behind declarator (children_at s p))) else in_rest s g (without_asm s g (behind declarator (children_at s p))) ])
      by None = refl
      by (Some p) = of_list (is_a s p_rest p) (behind declarator (children_at s p))

  pub initialiser_for_same : (leaf : ℕ) → initialiser_for s f leaf ≡ initialiser_for s g leaf
  initialiser_for_same leaf = by (outermost_of s leaf)
    where
      by : (o : Option ℕ) → option_and_then (initialiser_of s f) o ≡ option_and_then (initialiser_of s g) o
      by None = refl
      by (Some d) = initialiser_same d

  module _ (later : Later f g) where
    pub told : (o : Option ℕ) (z : Specified) → specified s f o ≡ Some z → specified s g o ≡ Some z
    told None z e = cc
    told (Some i) z e =
        ap (λ (y : Sense). elim y as (λ _. Option Specified) [ IsSpecified x ↦ Some x | _ ↦ None ]) (later i (IsSpecified z) (of_sense (f i) e) (λ no. cc))
      where
        of_sense : (y : Sense) → (elim y as (λ _. Option Specified) [ IsSpecified x ↦ Some x | _ ↦ None ]) ≡ Some z → y ≡ IsSpecified z
        of_sense (IsSpecified x) h = ap IsSpecified (some_one h)
        of_sense y h = cc

    derived_on : (x : Specified) (o : Option ℕ) (t : Ctype) → derived_type s f (Some x) o ≡ Some t → derived_type s g (Some x) o ≡ Some t
    derived_on x None t e = cc
    derived_on x (Some d) t e = by (f d) refl e
      where
        by : (y : Sense) → f d ≡ y → (elim y as (λ _. Option Ctype) [ IsDeclarator name ds ↦ Some (derived ds x.type) | _ ↦ None ]) ≡ Some t
            → (elim (g d) as (λ _. Option Ctype) [ IsDeclarator name ds ↦ Some (derived ds x.type) | _ ↦ None ]) ≡ Some t
        by (IsDeclarator name ds) is h =
            ap (λ (y : Sense). elim y as (λ _. Option Ctype) [ IsDeclarator n es ↦ Some (derived es x.type) | _ ↦ None ]) (later d (IsDeclarator name ds) is (λ no. cc)) ∙ h
        by y is h = cc

    pub derived_later : (leaf : ℕ) (o : Option ℕ) (t : Ctype) → derived_type s f (specified_of s f leaf) o ≡ Some t → derived_type s g (specified_of s g leaf) o ≡ Some t
    derived_later leaf o t e = by (specified_of s f leaf) refl e
      where
        by : (z : Option Specified) → specified_of s f leaf ≡ z → derived_type s f z o ≡ Some t → derived_type s g (specified_of s g leaf) o ≡ Some t
        by None is h = cc
        by (Some x) is h = ap (λ (z : Option Specified). derived_type s g z o) (told (option_and_then (specs_of s) (outermost_of s leaf)) x is) ∙ derived_on x o t h

    lengths : (o : Option ℕ) → (length_given_by s f o ≡ length_given_by s g o) ⊎ (length_given_by s f o ≡ None)
    lengths None = inr refl
    lengths (Some init) = by (f init) refl
      where
        by : (y : Sense) → f init ≡ y
            → ((elim y as (λ _. Option ℕ) [ IsInitial c n ↦ n | _ ↦ None ]) ≡ (elim (g init) as (λ _. Option ℕ) [ IsInitial c n ↦ n | _ ↦ None ])) ⊎ ((elim y as (λ _. Option ℕ) [ IsInitial c n ↦ n | _ ↦ None ]) ≡ None)
        by (IsInitial c n) is = inl (sym (ap (λ (y : Sense). elim y as (λ _. Option ℕ) [ IsInitial d k ↦ k | _ ↦ None ]) (later init (IsInitial c n) is (λ no. cc))))
        by y is = inr refl

    parameter_later : (o : Option ℕ) (t : Ctype) → parameter_type s f o ≡ Some t → parameter_type s g o ≡ Some t
    parameter_later None t e = cc
    parameter_later (Some p) t e = by (f p) refl e
      where
        by : (y : Sense) → f p ≡ y → (elim y as (λ _. Option Ctype) [ IsParameter x ↦ Some x.type | _ ↦ None ]) ≡ Some t → (elim (g p) as (λ _. Option Ctype) [ IsParameter x ↦ Some x.type | _ ↦ None ]) ≡ Some t
        by (IsParameter x) is h = ap (λ (y : Sense). elim y as (λ _. Option Ctype) [ IsParameter z ↦ Some z.type | _ ↦ None ]) (later p (IsParameter x) is (λ no. cc)) ∙ h
        by y is h = cc

    mapped : (o : Option Ctype) (n : Option ℕ) (t : Ctype) → option_map (with_length n) o ≡ Some t → (u : Ctype) × (o ≡ Some u) × (with_length n u ≡ t)
    mapped None n t e = cc
    mapped (Some u) n t e = (u, refl, some_one e)

    -- what a declaration alone says of its type, it says later, but for a length
    pub own_later : (leaf : ℕ) (t : Ctype) → own_type s f leaf ≡ Some t → (u : Ctype) × (own_type s g leaf ≡ Some u) × Grown t u
    own_later leaf t e = by (is_parameter s f leaf) e
      where
        plain : option_map (with_length (length_given_by s f (initialiser_for s f leaf))) (derived_type s f (specified_of s f leaf) (outermost_of s leaf)) ≡ Some t
            → (u : Ctype) × (option_map (with_length (length_given_by s g (initialiser_for s g leaf))) (derived_type s g (specified_of s g leaf) (outermost_of s leaf)) ≡ Some u) × Grown t u
        plain h =
            let base = mapped (derived_type s f (specified_of s f leaf) (outermost_of s leaf)) (length_given_by s f (initialiser_for s f leaf)) t h in
            let n : Option ℕ = length_given_by s g (initialiser_for s g leaf) in
            let there : option_map (with_length n) (derived_type s g (specified_of s g leaf) (outermost_of s leaf)) ≡ Some (with_length n base.0) = ap (option_map (with_length n)) (derived_later leaf (outermost_of s leaf) base.0 base.1) in
            let here : length_given_by s f (initialiser_for s f leaf) ≡ length_given_by s f (initialiser_for s g leaf) = ap (length_given_by s f) (initialiser_for_same leaf) in (
              with_length n base.0,
              there,
              elim (lengths (initialiser_for s g leaf)) [
                | inl same ↦ inl (sym base.2 ∙ ap (λ (k : Option ℕ). with_length k base.0) (here ∙ same))
                | inr none ↦ subst (λ (x : Ctype). Grown x (with_length n base.0)) (sym (ap (λ (k : Option ℕ). with_length k base.0) (here ∙ none)) ∙ base.2) (with_length_grown n base.0)
              ],
            )

        by : (b : Bool) → (if b then parameter_type s f (declaration_of s f leaf) else option_map (with_length (length_given_by s f (initialiser_for s f leaf))) (derived_type s f (specified_of s f leaf) (outermost_of s leaf))) ≡ Some t
            → (u : Ctype) × ((if b then parameter_type s g (declaration_of s g leaf) else option_map (with_length (length_given_by s g (initialiser_for s g leaf))) (derived_type s g (specified_of s g leaf) (outermost_of s leaf))) ≡ Some u) × Grown t u
        by true h = (t, parameter_later (declaration_of s f leaf) t h, inl refl)
        by false h = plain h
