-- What the senses of the first nodes say of a function, as those of all do.
use Rattle.std.proofs.Common.{arith, ◌≡◌, ◌<◌, ◌≤◌, ℕ, zero, suc, Bool, true, false, cond, List, [], ◌∷◌, Option, Some, None, take, get_or, refl, sym, ap, ◌∙◌, subst, ◌⊎◌, inl, inr}
use Rattle.std.specs.Prelude.{option_and_then, option_map, if◌then◌else◌}
use Rattle.pta_base.specs.declared.kind.Kind.TheVariants.{Operand, IntegerSizeCast}
use Rattle.c_types.specs.declared.term.Form.{Form}
use Rattle.c_types.specs.Trees.{Ctype, Ctypes, VoidType, BoolType, IntegerType, PointerTo, ArrayOf, FunctionFrom}
use Rattle.c_grammar.specs.Productions.{p_declarator}
use Rattle.c_consts.specs.Core.{Core, ctype_of}
use Rattle.c_senses.specs.Tree.{Source, child_of}
use Rattle.c_senses.specs.Given.{Given, Fits, Refuses, given_if}
use Rattle.c_senses.specs.Nulls.{is_null}
use Rattle.c_senses.specs.World.{World, same_type}
use Rattle.c_senses.specs.Conversions.{conversion, to_other, to_pointer, to_whole, pointers, operand_of, OperandSort, Whole, Address, Aggregate, Other, Target, ToFunction, ToVoid, ToWhole, ToPointer, ToStructure, ToUnion, ToOther, target_of, converted, null_value}
use Rattle.c_senses.specs.Declarators.{outermost_of, specs_of, specified_at, base_type, derived}
use Rattle.c_senses.specs.Entities.{own_type, is_parameter, parameter_type, declaration_of, derived_type, specified, specified_of, initialiser_for, length_given_by, with_length, defined_name}
use Rattle.c_senses.specs.Sense.{Sense, Nothing, IsSpecified, IsDeclarator, Specified, Derivation, sense_in}
use Rattle.core_nodes.proofs.SameTypes.{type_sound}

some_same : {A : Type 0} → {x y : A} → ◌≡◌ {A = Option A} (Some x) (Some y) → x ≡ y
some_same e = cc

-- ---- the first senses

beyond : (xs : List Sense) (i c : ℕ) → i ≤ c → get_or (take i xs) c Nothing ≡ Nothing
beyond xs zero c h = refl
beyond [] (suc i) c h = refl
beyond (x ∷ xs) (suc i) zero h = absurd (omega (arith, h))
beyond (x ∷ xs) (suc i) (suc c) h = beyond xs i c (omega (arith, h))

within : (xs : List Sense) (i c : ℕ) → c < i → get_or (take i xs) c Nothing ≡ get_or xs c Nothing
within xs zero c h = absurd (omega (arith, h))
within [] (suc i) c h = refl
within (x ∷ xs) (suc i) zero h = refl
within (x ∷ xs) (suc i) (suc c) h = within xs i c (omega (arith, h))

split : (c i : ℕ) → (c < i) ⊎ (i ≤ c)
split c zero = inr (omega arith)
split zero (suc i) = inl (omega arith)
split (suc c) (suc i) = by (split c i)
  where
    by : (c < i) ⊎ (i ≤ c) → (suc c < suc i) ⊎ (suc i ≤ suc c)
    by (inl h) = inl (omega (arith, h))
    by (inr h) = inr (omega (arith, h))

-- a sense among the first ones is nothing, or what it is among all
pub earlier : (senses : List Sense) (i c : ℕ) → (sense_in (take i senses) c ≡ sense_in senses c) ⊎ (sense_in (take i senses) c ≡ Nothing)
earlier senses i c = by (split c i)
  where
    by : (c < i) ⊎ (i ≤ c) → (sense_in (take i senses) c ≡ sense_in senses c) ⊎ (sense_in (take i senses) c ≡ Nothing)
    by (inl h) = inl (within senses i c h)
    by (inr h) = inr (beyond senses i c h)

-- senses that are nothing, or those of other ones
abbrev pub Below : (ℕ → Sense) → (ℕ → Sense) → Type 0
Below g f = (c : ℕ) → (g c ≡ f c) ⊎ (g c ≡ Nothing)

module _ (s : Source) (g f : ℕ → Sense) (below : Below g f) where
  same_specified : (o : Option ℕ) (x : Specified) → specified s g o ≡ Some x → specified s f o ≡ Some x
  same_specified None x e = cc
  same_specified (Some c) x e = by (below c)
    where
      by : (g c ≡ f c) ⊎ (g c ≡ Nothing) → specified s f (Some c) ≡ Some x
      by (inl same) = subst (λ (y : Sense). (elim y as (λ _. Option Specified) [ IsSpecified x ↦ Some x | _ ↦ None ]) ≡ Some x) same e
      by (inr none) = let never : None ≡ Some x = subst (λ (y : Sense). (elim y as (λ _. Option Specified) [ IsSpecified x ↦ Some x | _ ↦ None ]) ≡ Some x) none e in cc

  same_declarator : (x : Specified) (c : ℕ) (t : Ctype) → derived_type s g (Some x) (Some c) ≡ Some t → derived_type s f (Some x) (Some c) ≡ Some t
  same_declarator x c t e = by (below c)
    where
      by : (g c ≡ f c) ⊎ (g c ≡ Nothing) → derived_type s f (Some x) (Some c) ≡ Some t
      by (inl same) = subst (λ (y : Sense). (elim y as (λ _. Option Ctype) [ IsDeclarator name ds ↦ Some (derived ds x.type) | _ ↦ None ]) ≡ Some t) same e
      by (inr none) = let never : None ≡ Some t = subst (λ (y : Sense). (elim y as (λ _. Option Ctype) [ IsDeclarator name ds ↦ Some (derived ds x.type) | _ ↦ None ]) ≡ Some t) none e in cc

  same_derived : (o d : Option ℕ) (t : Ctype) → derived_type s g (specified s g o) d ≡ Some t → derived_type s f (specified s f o) d ≡ Some t
  same_derived o d t e = by (specified s g o) refl d e
    where
      by : (x : Option Specified) → specified s g o ≡ x → (d : Option ℕ) → derived_type s g x d ≡ Some t → derived_type s f (specified s f o) d ≡ Some t
      by None is d e = cc
      by (Some x) is None e = cc
      by (Some x) is (Some c) e = subst (λ (y : Option Specified). derived_type s f y (Some c) ≡ Some t) (sym (same_specified o x is)) (same_declarator x c t e)

  -- the type without what an initialiser adds
  plain : (leaf : ℕ) (sense : ℕ → Sense) → is_parameter s sense leaf ≡ false → own_type s sense leaf ≡ option_map (with_length (length_given_by s sense (initialiser_for s sense leaf))) (derived_type s sense (specified_of s sense leaf) (outermost_of s leaf))
  plain leaf sense h = by (is_parameter s sense leaf) h
    where
      by : (b : Bool) → b ≡ false → cond b (parameter_type s sense (declaration_of s sense leaf)) (option_map (with_length (length_given_by s sense (initialiser_for s sense leaf))) (derived_type s sense (specified_of s sense leaf) (outermost_of s leaf)))
          ≡ option_map (with_length (length_given_by s sense (initialiser_for s sense leaf))) (derived_type s sense (specified_of s sense leaf) (outermost_of s leaf))
      by false e = refl
      by true e = cc

  -- only an array is given a length
  unlengthened : (n : Option ℕ) (t r : Ctype) (ps : Ctypes) (form : Form) → with_length n t ≡ FunctionFrom r ps form → t ≡ FunctionFrom r ps form
  unlengthened None t r ps form e = e
  unlengthened (Some n) (ArrayOf of None) r ps form e = cc
  unlengthened (Some n) t r ps form e = e

  kept : (n : Option ℕ) (r : Ctype) (ps : Ctypes) (form : Form) → with_length n (FunctionFrom r ps form) ≡ FunctionFrom r ps form
  kept None r ps form = refl
  kept (Some n) r ps form = refl

  -- the type of a function is what it was
  pub same_function : (leaf : ℕ) (t r : Ctype) (ps : Ctypes) (form : Form) → is_parameter s f leaf ≡ false → own_type s f leaf ≡ Some (FunctionFrom r ps form) → own_type s g leaf ≡ Some t → t ≡ FunctionFrom r ps form
  same_function leaf t r ps form parameter all some =
      let whole = sym (plain leaf f parameter) ∙ all in
      let part = sym (plain leaf g parameter) ∙ some in
      by (derived_type s g (specified_of s g leaf) (outermost_of s leaf)) refl part whole
    where
      by : (o : Option Ctype) → derived_type s g (specified_of s g leaf) (outermost_of s leaf) ≡ o → option_map (with_length (length_given_by s g (initialiser_for s g leaf))) o ≡ Some t
          → option_map (with_length (length_given_by s f (initialiser_for s f leaf))) (derived_type s f (specified_of s f leaf) (outermost_of s leaf)) ≡ Some (FunctionFrom r ps form) → t ≡ FunctionFrom r ps form
      by None is part whole = cc
      by (Some x) is part whole =
          let own = same_derived (option_and_then (specs_of s) (outermost_of s leaf)) (outermost_of s leaf) x is in
          let there : Some (with_length (length_given_by s f (initialiser_for s f leaf)) x) ≡ Some (FunctionFrom r ps form) = subst (λ (o : Option Ctype). option_map (with_length (length_given_by s f (initialiser_for s f leaf))) o ≡ Some (FunctionFrom r ps form)) own whole in
          let it : x ≡ FunctionFrom r ps form = unlengthened (length_given_by s f (initialiser_for s f leaf)) x r ps form (some_same there) in
          let its : Some (with_length (length_given_by s g (initialiser_for s g leaf)) (FunctionFrom r ps form)) ≡ Some t = subst (λ (y : Ctype). Some (with_length (length_given_by s g (initialiser_for s g leaf)) y) ≡ Some t) it part in
          sym (some_same its) ∙ kept (length_given_by s g (initialiser_for s g leaf)) r ps form

  -- the type of a function is what its outermost declarator makes of its specifiers
  pub function_derived : (w : World) (leaf o : ℕ) (base : Ctype) (ds : List Derivation) (name : Option ℕ) (r : Ctype) (ps : Ctypes) (form : Form) → is_parameter s f leaf ≡ false → own_type s f leaf ≡ Some (FunctionFrom r ps form) → outermost_of s leaf ≡ Some o
      → f o ≡ IsDeclarator name ds → base_type w s g o ≡ Some base → derived ds base ≡ FunctionFrom r ps form
  function_derived w leaf o base ds name r ps form parameter all outer sensed based = by_specs (specs_of s o) refl based
    where
      whole : option_map (with_length (length_given_by s f (initialiser_for s f leaf))) (derived_type s f (specified_of s f leaf) (outermost_of s leaf)) ≡ Some (FunctionFrom r ps form)
      whole = sym (plain leaf f parameter) ∙ all

      by_sense : (c : ℕ) → specs_of s o ≡ Some c → (y : Sense) → f c ≡ y → (elim y as (λ _. Option Ctype) [ IsSpecified x ↦ Some x.type | _ ↦ None ]) ≡ Some base → derived ds base ≡ FunctionFrom r ps form
      by_sense c is (IsSpecified x) e b =
          let base_is : x.type ≡ base = some_same b in
          let specified_is : specified_of s f leaf ≡ Some x =
          ap (λ (p : Option ℕ). specified s f (option_and_then (specs_of s) p)) outer ∙ (ap (λ (p : Option ℕ). specified s f p) is ∙ ap (λ (y : Sense). elim y as (λ _. Option Specified) [ IsSpecified x ↦ Some x | _ ↦ None ]) e) in
          let one : derived_type s f (specified_of s f leaf) (outermost_of s leaf) ≡ Some (derived ds x.type) =
          ap (λ (p : Option Specified). derived_type s f p (outermost_of s leaf)) specified_is
          ∙ (ap (λ (p : Option ℕ). derived_type s f (Some x) p) outer ∙ ap (λ (y : Sense). elim y as (λ _. Option Ctype) [ IsDeclarator name ds ↦ Some (derived ds x.type) | _ ↦ None ]) sensed) in
          let there : Some (with_length (length_given_by s f (initialiser_for s f leaf)) (derived ds x.type)) ≡ Some (FunctionFrom r ps form) = subst (λ (p : Option Ctype). option_map (with_length (length_given_by s f (initialiser_for s f leaf))) p ≡ Some (FunctionFrom r ps form)) one whole in
          let it = unlengthened (length_given_by s f (initialiser_for s f leaf)) (derived ds x.type) r ps form (some_same there) in
          ap (λ (t : Ctype). derived ds t) (sym base_is) ∙ it
      by_sense c is y e b = cc

      by_specs : (p : Option ℕ) → specs_of s o ≡ p → specified_at w s g p ≡ Some base → derived ds base ≡ FunctionFrom r ps form
      by_specs None is b = cc
      by_specs (Some c) is b = by_below (below c)
        where
          by_below : (g c ≡ f c) ⊎ (g c ≡ Nothing) → derived ds base ≡ FunctionFrom r ps form
          by_below (inl same) = by_sense c is (f c) refl (subst (λ (y : Sense). (elim y as (λ _. Option Ctype) [ IsSpecified x ↦ Some x.type | _ ↦ None ]) ≡ Some base) same b)
          by_below (inr none) = let never : None ≡ Some base = subst (λ (y : Sense). (elim y as (λ _. Option Ctype) [ IsSpecified x ↦ Some x.type | _ ↦ None ]) ≡ Some base) none b in cc

  -- and so is the name of its declarator
  pub same_name : (d c leaf r : ℕ) → child_of s p_declarator d ≡ Some c → ((name : Option ℕ) → elim (f c) as (λ _. Option ℕ) [ IsDeclarator name ds ↦ name | _ ↦ None ] ≡ Some leaf → leaf ≡ r) → defined_name s g d ≡ Some leaf → leaf ≡ r
  same_name d c leaf r first told e = by (below c)
    where
      own : (elim (g c) as (λ _. Option ℕ) [ IsDeclarator name ds ↦ name | _ ↦ None ]) ≡ Some leaf
      own = subst (λ (o : Option ℕ). option_and_then (λ d. elim (g d) as (λ _. Option ℕ) [ IsDeclarator name ds ↦ name | _ ↦ None ]) o ≡ Some leaf) first e

      by : (g c ≡ f c) ⊎ (g c ≡ Nothing) → leaf ≡ r
      by (inl same) = told None (subst (λ (y : Sense). (elim y as (λ _. Option ℕ) [ IsDeclarator name ds ↦ name | _ ↦ None ]) ≡ Some leaf) same own)
      by (inr none) = let never : None ≡ Some leaf = subst (λ (y : Sense). (elim y as (λ _. Option ℕ) [ IsDeclarator name ds ↦ name | _ ↦ None ]) ≡ Some leaf) none own in cc

-- ---- conversions

abbrev pub HasType : Ctype → Given Core → Type 0
HasType t (Fits x) = ctype_of x ≡ t
HasType t (Refuses kind node) = Unit {0}

module _ (w : World) (at : ℕ) where
  given_typed : (t : Ctype) (b : Bool) (x : Core) → ctype_of x ≡ t → HasType t (given_if b Operand at (Fits x))
  given_typed t true x e = e
  given_typed t false x e = tt

  sized_typed : (t : Ctype) (b : Bool) (x : Core) → ctype_of x ≡ t → HasType t (given_if b IntegerSizeCast at (Fits x))
  sized_typed t true x e = e
  sized_typed t false x e = tt

  whole_typed : (pointer : Bool) (v : Core) (t : Ctype) (o : OperandSort) → HasType t (to_whole pointer at v t o)
  whole_typed pointer v t Whole = refl
  whole_typed pointer v t (Address from) = given_typed t pointer (converted t v) refl
  whole_typed pointer v t (Aggregate tag) = tt
  whole_typed pointer v t Other = tt

  pointers_typed : (v : Core) (from to : Ctype) (a b : Target) → HasType (PointerTo to) (pointers w false at v from to a b)
  pointers_typed v from to ToFunction ToFunction = refl
  pointers_typed v from to ToFunction ToVoid = tt
  pointers_typed v from to ToFunction (ToWhole b) = tt
  pointers_typed v from to ToFunction ToPointer = tt
  pointers_typed v from to ToFunction (ToStructure b) = tt
  pointers_typed v from to ToFunction (ToUnion b) = tt
  pointers_typed v from to ToFunction ToOther = tt
  pointers_typed v from to ToVoid ToFunction = tt
  pointers_typed v from to ToVoid ToVoid = refl
  pointers_typed v from to ToVoid (ToWhole b) = refl
  pointers_typed v from to ToVoid ToPointer = refl
  pointers_typed v from to ToVoid (ToStructure b) = refl
  pointers_typed v from to ToVoid (ToUnion b) = refl
  pointers_typed v from to ToVoid ToOther = refl
  pointers_typed v from to (ToWhole a) ToFunction = tt
  pointers_typed v from to (ToWhole a) ToVoid = refl
  pointers_typed v from to (ToWhole a) (ToWhole b) = sized_typed (PointerTo to) _ (converted (PointerTo to) v) refl
  pointers_typed v from to (ToWhole a) ToPointer = tt
  pointers_typed v from to (ToWhole a) (ToStructure b) = tt
  pointers_typed v from to (ToWhole a) (ToUnion b) = tt
  pointers_typed v from to (ToWhole a) ToOther = tt
  pointers_typed v from to ToPointer ToFunction = tt
  pointers_typed v from to ToPointer ToVoid = refl
  pointers_typed v from to ToPointer (ToWhole b) = tt
  pointers_typed v from to ToPointer ToPointer = refl
  pointers_typed v from to ToPointer (ToStructure b) = tt
  pointers_typed v from to ToPointer (ToUnion b) = tt
  pointers_typed v from to ToPointer ToOther = tt
  pointers_typed v from to (ToStructure a) ToFunction = tt
  pointers_typed v from to (ToStructure a) ToVoid = refl
  pointers_typed v from to (ToStructure a) (ToWhole b) = tt
  pointers_typed v from to (ToStructure a) ToPointer = tt
  pointers_typed v from to (ToStructure a) (ToStructure b) = tt
  pointers_typed v from to (ToStructure a) (ToUnion b) = tt
  pointers_typed v from to (ToStructure a) ToOther = tt
  pointers_typed v from to (ToUnion a) ToFunction = tt
  pointers_typed v from to (ToUnion a) ToVoid = refl
  pointers_typed v from to (ToUnion a) (ToWhole b) = tt
  pointers_typed v from to (ToUnion a) ToPointer = tt
  pointers_typed v from to (ToUnion a) (ToStructure b) = tt
  pointers_typed v from to (ToUnion a) (ToUnion b) = tt
  pointers_typed v from to (ToUnion a) ToOther = tt
  pointers_typed v from to ToOther ToFunction = tt
  pointers_typed v from to ToOther ToVoid = refl
  pointers_typed v from to ToOther (ToWhole b) = tt
  pointers_typed v from to ToOther ToPointer = tt
  pointers_typed v from to ToOther (ToStructure b) = tt
  pointers_typed v from to ToOther (ToUnion b) = tt
  pointers_typed v from to ToOther ToOther = tt

  pointer_typed : (v : Core) (to : Ctype) (o : OperandSort) → HasType (PointerTo to) (to_pointer w false at v to o)
  pointer_typed v to Whole = tt
  pointer_typed v to (Address from) = pointers_typed v from to (target_of from) (target_of to)
  pointer_typed v to (Aggregate tag) = tt
  pointer_typed v to Other = tt

  other_typed : (v : Core) (t : Ctype) → HasType t (to_other w false at v t)
  other_typed v VoidType = tt
  other_typed v BoolType = whole_typed true v BoolType (operand_of (ctype_of v))
  other_typed v (IntegerType size rank signed) = whole_typed false v (IntegerType size rank signed) (operand_of (ctype_of v))
  other_typed v (PointerTo to) = by (is_null v)
    where
      by : (b : Bool) → HasType (PointerTo to) (if b then Fits (null_value (PointerTo to) v) else to_pointer w false at v to (operand_of (ctype_of v)))
      by true = refl
      by false = pointer_typed v to (operand_of (ctype_of v))
  other_typed v t = tt

  -- what is converted as by assignment has the type
  pub conversion_typed : (v : Core) (t : Ctype) → HasType t (conversion w false at v t)
  conversion_typed v t = by (same_type (ctype_of v) t) refl
    where
      by : (b : Bool) → same_type (ctype_of v) t ≡ b → HasType t (if b then Fits v else to_other w false at v t)
      by true e = type_sound (ctype_of v) t e
      by false e = other_typed v t
