-- What is asked of a row holds: the types of typedef names, of parameters and of type names are those of outermost declarators, which were
-- asked whether their types are within the limits (C11 6.7.6 to 6.7.8).
use Rattle.std.proofs.Common.{arith, ◌≡◌, ◌==◌, ◌<◌, ◌≤◌, ℕ, zero, suc, Bool, true, false, ◌&&◌, ◌||◌, not, List, Option, Some, None, length, refl, sym, ap, ◌∙◌, subst, ◌⊎◌, inl, inr}
use Rattle.std.specs.Prelude.{option_and_then, option_map, if◌then◌else◌}
use Rattle.std.proofs.lemmas.Bool.{eqb-true}
use Rattle.c_types.specs.Trees.{Ctype}
use Rattle.c_grammar.specs.Productions.{p_rest, p_field, p_specs, p_enumerator, p_declarator, p_abstract, p_either, p_parameter, p_type_name}
use Rattle.c_scope.specs.declared.kinds.Declared.{Declared as Declaration}
use Rattle.c_senses.specs.Given.{Fits}
use Rattle.c_senses.specs.Names.{names_type, ordinary_at}
use Rattle.c_senses.specs.Tree.{Source, is_a, first_where, child_of, children_at, parent_of, paired, production_at, above_within}
use Rattle.c_senses.specs.World.{World, Meaning, Object, Function, TypeName, Value}
use Rattle.c_senses.specs.Limits.{within_limits, is_function_type}
use Rattle.c_senses.specs.Declarators.{derived, all_derive, type_fits, derives_well, base_type, specified_at, sense_of_child, derivations, name_in, is_declarator, is_outermost, outermost_of, declaration_around, specs_of}
use Rattle.c_senses.specs.Entities.{specified, is_typedef, is_parameter, declaration_of, initialiser_of, length_given_by, with_length, parameter_type, derived_type, own_type, object_or_function, entity_of, named_by, type_behind, declared_meaning, enumerated, meaning_of, meaning_at}
use Rattle.c_senses.specs.Sense.{Sense, Nothing, IsSpecified, IsDeclarator, IsParameter, IsValue, Specified, Derivation, sense_in}
use Rattle.c_senses.specs.Rows.{world_at, row_of, declarator_row, AreSenses}
use Rattle.parsed_tree_laws.specs.sense_laws.Senses.{ChildrenFirst}
use Rattle.parsed_tree_laws.specs.sense_laws.Sound.{Gives}
use Rattle.parsed_tree_laws.proofs.sense_laws.Giving.{and_left, and_right}
use Rattle.parsed_tree_laws.specs.family_laws.Families.{Families}
use Rattle.parsed_tree_laws.proofs.placed_laws.Climbing.{IsNamedPart, Grown}
use Rattle.limit_laws.proofs.Reading.{found, parent_is, side_of, taken_sense, taken_past, before, around, row_whole, grows_to}
use Rattle.limit_laws.proofs.Deriving.{Within, derived_within}
use Rattle.limit_laws.proofs.Shapes.{declarators_give}
use Rattle.limit_laws.proofs.Rows.{IsNaming}
use Rattle.limit_laws.proofs.Climbing.{unfilled}

either : (a b : Bool) → (a || b) ≡ true → (a ≡ true) ⊎ (b ≡ true)
either true b e = inl refl
either false b e = inr e

some_is : {A : Type 0} (x y : A) → ◌≡◌ {A = Option A} (Some x) (Some y) → x ≡ y
some_is x y e = cc

-- what is found above passes
above_passes : (s : Source) (test : ℕ → Bool) (levels : ℕ) (o : Option ℕ) (d : ℕ) → above_within s test levels o ≡ Some d → test d ≡ true
above_passes s test zero o d e = cc
above_passes s test (suc levels) None d e = cc
above_passes s test (suc levels) (Some p) d e = by (test p) refl e (λ f. above_passes s test levels (parent_of s p) d f)
  where
    by : (b : Bool) → test p ≡ b → (if b then Some p else above_within s test levels (parent_of s p)) ≡ Some d → (above_within s test levels (parent_of s p) ≡ Some d → test d ≡ true) → test d ≡ true
    by true is e f = let same : p ≡ d = cc in ap test (sym same) ∙ is
    by false is e f = f e

-- each typedef name is a name in a declarator
abbrev pub TypedefsNamed : Source → Type 0
TypedefsNamed s = (r : ℕ) (y : Declaration) → ordinary_at s r ≡ Some y → names_type y ≡ true → IsNamedPart s r

module _ (s : Source) (senses : List Sense) (are : AreSenses s senses) (first : ChildrenFirst s) (n : ℕ) (short : n ≤ length senses) where
  abbrev w : World
  w = world_at s senses (length senses)

  abbrev f : ℕ → Sense
  f = sense_in senses

  abbrev F : ℕ → Sense
  F = before senses n

  -- what is seen there stands before
  seen : (m k : ℕ) (y : Sense) → (Nothing ≡ y → ⊥) → before senses m k ≡ y → (k < m) × (f k ≡ y)
  seen m k y never e = by (side_of k m)
    where
      by : (k < m) ⊎ (m ≤ k) → (k < m) × (f k ≡ y)
      by (inl less) = (less, sym (taken_sense senses m k less) ∙ e)
      by (inr past) = absurd (never (sym (taken_past senses m k past) ∙ e))

  module _ (all : (i : ℕ) → i < n → Within w (f i)) where
    -- an outermost declarator was asked
    module _ (d j : ℕ) (name : Option ℕ) (ds : List Derivation) (x : Specified) (below : d < n) (outer : is_outermost s d ≡ true) (made : f d ≡ IsDeclarator name ds) (specs : specs_of s d ≡ Some j) (said : f j ≡ IsSpecified x) where
      abbrev v : World
      v = around s senses d

      abbrev G : ℕ → Sense
      G = before senses d

      abbrev xs : List ℕ
      xs = children_at s d

      inside : d < length senses
      inside = omega (arith, below, short)

      row_is : declarator_row v s G d xs ≡ Fits (f d)
      row_is = by (either (is_a s p_declarator d || is_a s p_abstract d) (is_a s p_either d) (and_left (is_declarator s d) _ outer))
        where
          there : (q : ℕ) → is_a s q d ≡ true → row_of v s G q d xs ≡ Fits (f d)
          there q e = subst (λ (p : ℕ). row_of v s G p d xs ≡ Fits (f d)) (eqb-true (production_at s d) q e) (row_whole s senses are d inside)

          more : (is_a s p_declarator d ≡ true) ⊎ (is_a s p_abstract d ≡ true) → declarator_row v s G d xs ≡ Fits (f d)
          more (inl e) = there p_declarator e
          more (inr e) = there p_abstract e

          by : ((is_a s p_declarator d || is_a s p_abstract d) ≡ true) ⊎ (is_a s p_either d ≡ true) → declarator_row v s G d xs ≡ Fits (f d)
          by (inl e) = more (either (is_a s p_declarator d) (is_a s p_abstract d) e)
          by (inr e) = there p_either e

      abbrev Told : Sense → Type 0
      Told y = (derives_well v s G d (derivations v s G xs) ≡ true) × (y ≡ IsDeclarator (name_in v s G xs) (derivations v s G xs))

      told : Told (f d)
      told = subst (Gives Told) row_is (declarators_give Told v s G d xs (λ well. (well, refl)))

      steps_are : derivations v s G xs ≡ ds
      steps_are = let both : IsDeclarator (name_in v s G xs) (derivations v s G xs) ≡ IsDeclarator name ds = sym told.1 ∙ made in cc

      abbrev well_by : Bool → Option Ctype → Bool
      well_by b o = if b then (elim o [ None ↦ false | Some base ↦ type_fits v s G base (derivations v s G xs) ]) else true

      abbrev specified_by : Sense → Option Ctype
      specified_by y = elim y [ IsSpecified z ↦ Some z.type | _ ↦ None ]

      base_is : (base : Ctype) → base_type v s G d ≡ Some base → (j < n) × (x.type ≡ base)
      base_is base e = by (side_of j d)
        where
          here : specified_by (G j) ≡ Some base
          here = subst (λ (o : Option ℕ). specified_at v s G o ≡ Some base) specs e

          by : (j < d) ⊎ (d ≤ j) → (j < n) × (x.type ≡ base)
          by (inl less) =
              let same : G j ≡ IsSpecified x = taken_sense senses d j less ∙ said in
              let both : Some x.type ≡ Some base = sym (ap specified_by same) ∙ here in
              (omega (arith, less, below), some_is x.type base both)
          by (inr past) = let none : None ≡ Some base = sym (ap specified_by (taken_past senses d j past)) ∙ here in absurd cc

      outer_within : within_limits w (derived ds x.type) ≡ true
      outer_within = by (base_type v s G d) refl (subst (λ (b : Bool). well_by b (base_type v s G d) ≡ true) outer told.0)
        where
          by : (o : Option Ctype) → base_type v s G d ≡ o → well_by true o ≡ true → within_limits w (derived ds x.type) ≡ true
          by None e h = cc
          by (Some base) e h =
              let of = base_is base e in
              let fit : (all_derive v ds x.type && within_limits v (derived ds x.type)) ≡ true =
              subst (λ (t : Ctype). (all_derive v ds t && within_limits v (derived ds t)) ≡ true) (sym of.1) (subst (λ (l : List Derivation). (all_derive v l base && within_limits v (derived l base)) ≡ true) steps_are h) in
              derived_within v w (grows_to s first senses d (omega (arith, inside))) ds x.type
              (and_left (all_derive v ds x.type) (within_limits v (derived ds x.type)) fit) (and_right (all_derive v ds x.type) (within_limits v (derived ds x.type)) fit)
              (subst (Within w) made (all d below)) (subst (Within w) said (all j of.0))

    -- ---- parameters and type names

    module _ (families : Families s) where
      production_outer : (p : ℕ) → (p ≡ p_parameter) ⊎ (p ≡ p_type_name) → (p == p_declarator || p == p_abstract || p == p_either) ≡ false
      production_outer p (inl e) = subst (λ (q : ℕ). (q == p_declarator || q == p_abstract || q == p_either) ≡ false) (sym e) refl
      production_outer p (inr e) = subst (λ (q : ℕ). (q == p_declarator || q == p_abstract || q == p_either) ≡ false) (sym e) refl

      abbrev around_by : ℕ → Option ℕ
      around_by q = if (q == p_rest) || (q == p_field) then parent_of s n else Some n

      production_around : (p : ℕ) → (p ≡ p_parameter) ⊎ (p ≡ p_type_name) → around_by p ≡ Some n
      production_around p (inl e) = subst (λ (q : ℕ). around_by q ≡ Some n) (sym e) refl
      production_around p (inr e) = subst (λ (q : ℕ). around_by q ≡ Some n) (sym e) refl

      abbrev outer_by : Option ℕ → Bool
      outer_by parent = elim parent [ None ↦ true | Some p ↦ not (is_declarator s p) ]

      naming : (child : ℕ) → IsNaming (production_at s n) child → (production_at s n ≡ p_parameter) ⊎ (production_at s n ≡ p_type_name)
      naming child (inl e) = inl e.0
      naming child (inr e) = inr e.0

      child_declares : (child c : ℕ) → IsNaming (production_at s n) child → is_a s child c ≡ true → is_declarator s c ≡ true
      child_declares child c (inl e) is = at_either (is_a s p_declarator c) (is_a s p_abstract c) (is_a s p_either c) (subst (λ (q : ℕ). is_a s q c ≡ true) e.1 is)
        where
          at_either : (a b x : Bool) → x ≡ true → (a || b || x) ≡ true
          at_either true b x h = refl
          at_either false true x h = refl
          at_either false false x h = h
      child_declares child c (inr e) is = at_abstract (is_a s p_declarator c) (is_a s p_abstract c) (is_a s p_either c) (subst (λ (q : ℕ). is_a s q c ≡ true) e.1 is)
        where
          at_abstract : (a b x : Bool) → b ≡ true → (a || b || x) ≡ true
          at_abstract true b x h = refl
          at_abstract false true x h = refl
          at_abstract false false x h = cc

      pub named_whole : (child : ℕ) → IsNaming (production_at s n) child → (base : Ctype) (name : Option ℕ) (ds : List Derivation) → specified_at (around s senses n) s F (child_of s p_specs n) ≡ Some base
          → sense_of_child (around s senses n) s F child n ≡ IsDeclarator name ds → within_limits w (derived ds base) ≡ true
      named_whole child naming_is base name ds e m = by (child_of s child n) refl m
        where
          which : (production_at s n ≡ p_parameter) ⊎ (production_at s n ≡ p_type_name)
          which = naming child naming_is

          with_specs : (c : ℕ) → first_where (is_a s child) (children_at s n) ≡ Some c → F c ≡ IsDeclarator name ds → (o : Option ℕ) → child_of s p_specs n ≡ o → specified_at (around s senses n) s F o ≡ Some base → within_limits w (derived ds base) ≡ true
          with_specs c is made None specs e = cc
          with_specs c is made (Some j) specs e = by_sense (F j) refl e
            where
              by_sense : (y : Sense) → F j ≡ y → (elim y as (λ _. Option Ctype) [ IsSpecified z ↦ Some z.type | _ ↦ None ]) ≡ Some base → within_limits w (derived ds base) ≡ true
              by_sense (IsSpecified x) said e =
                  let g = found (is_a s child) (children_at s n) c is in
                  let parent : parent_of s c ≡ Some n = parent_is s families n c (g.place, g.there) in
                  let own : is_declarator s c ≡ true = child_declares child c naming_is g.passes in
                  let outer : is_outermost s c ≡ true = ap (λ (b : Bool). b && outer_by (parent_of s c)) own ∙ (ap outer_by parent ∙ ap not (production_outer (production_at s n) which)) in
                  let specs_are : specs_of s c ≡ Some j =
                  ap (λ (o : Option ℕ). option_and_then (child_of s p_specs) (option_and_then (declaration_around s) o)) parent ∙ (ap (λ (o : Option ℕ). option_and_then (child_of s p_specs) o) (production_around (production_at s n) which) ∙ specs) in
                  let there = seen n c (IsDeclarator name ds) (λ e. cc) made in
                  let spoken = seen n j (IsSpecified x) (λ e. cc) said in
                  subst (λ (t : Ctype). within_limits w (derived ds t) ≡ true) (some_is x.type base e) (outer_within c j name ds x there.0 outer there.1 specs_are spoken.1)
              by_sense y said e = cc

          by : (o : Option ℕ) → child_of s child n ≡ o → (elim o as (λ _. Sense) [ None ↦ Nothing | Some c ↦ F c ]) ≡ IsDeclarator name ds → within_limits w (derived ds base) ≡ true
          by None is m = cc
          by (Some c) is m = with_specs c is m (child_of s p_specs n) refl e

    -- ---- typedef names

    module _ (grown : Grown s) (named : TypedefsNamed s) (l : ℕ) (t : Ctype) where
      named_part : is_typedef s F l ≡ true → IsNamedPart s l
      named_part h = by (ordinary_at s l) refl h
        where
          by : (o : Option Declaration) → ordinary_at s l ≡ o → (elim o as (λ _. Bool) [ None ↦ false | Some d ↦ names_type d ]) ≡ true → IsNamedPart s l
          by None e h = cc
          by (Some y) e h = named l y e h

      no_length : (u : Ctype) → with_length None u ≡ u
      no_length u = refl

      -- outside of parameters
      module _ (typed : is_typedef s F l ≡ true) (free : is_parameter s F l ≡ false) (d : ℕ) (outermost : outermost_of s l ≡ Some d) where
        by_initialiser : (o : Option ℕ) → initialiser_of s F d ≡ o → d < n → (u : Ctype) → Some (with_length (length_given_by s F o) u) ≡ Some t → u ≡ t
        by_initialiser None e less u h = sym (no_length u) ∙ some_is (with_length None u) t h
        by_initialiser (Some init) e less u h = absurd (unfilled s senses grown are l d init (omega (arith, less, short)) (named_part typed) typed outermost free e)

        abbrev lengthened : Option Ctype → Option Ctype
        lengthened o = option_map (with_length (length_given_by s F (initialiser_of s F d))) o

        abbrev derived_by : Specified → Sense → Option Ctype
        derived_by x y = elim y [ IsDeclarator name ds ↦ Some (derived ds x.type) | _ ↦ None ]

        by_declarator : (j : ℕ) (x : Specified) → specs_of s d ≡ Some j → F j ≡ IsSpecified x → (y : Sense) → F d ≡ y → lengthened (derived_by x y) ≡ Some t → within_limits w t ≡ true
        by_declarator j x specs said (IsDeclarator name ds) made h =
            let there = seen n d (IsDeclarator name ds) (λ e. cc) made in
            let spoken = seen n j (IsSpecified x) (λ e. cc) said in
            let outer : is_outermost s d ≡ true = above_passes s (is_outermost s) (length s.nodes) (parent_of s l) d outermost in
            subst (λ (u : Ctype). within_limits w u ≡ true) (by_initialiser (initialiser_of s F d) refl there.0 (derived ds x.type) h) (outer_within d j name ds x there.0 outer there.1 specs spoken.1)
        by_declarator j x specs said y made h = cc

        abbrev spoken_by : Sense → Option Specified
        spoken_by y = elim y [ IsSpecified x ↦ Some x | _ ↦ None ]

        by_specified : (j : ℕ) → specs_of s d ≡ Some j → (y : Sense) → F j ≡ y → lengthened (derived_type s F (spoken_by y) (Some d)) ≡ Some t → within_limits w t ≡ true
        by_specified j specs (IsSpecified x) said h = by_declarator j x specs said (F d) refl h
        by_specified j specs y said h = cc

        by_specs : (o : Option ℕ) → specs_of s d ≡ o → lengthened (derived_type s F (specified s F o) (Some d)) ≡ Some t → within_limits w t ≡ true
        by_specs None specs h = cc
        by_specs (Some j) specs h = by_specified j specs (F j) refl h

      abbrev whole_by : Option ℕ → Option Ctype
      whole_by o = option_map (with_length (length_given_by s F (option_and_then (initialiser_of s F) o))) (derived_type s F (specified s F (option_and_then (specs_of s) o)) o)

      by_outermost : is_typedef s F l ≡ true → is_parameter s F l ≡ false → (o : Option ℕ) → outermost_of s l ≡ o → whole_by o ≡ Some t → within_limits w t ≡ true
      by_outermost typed free None e h = cc
      by_outermost typed free (Some d) e h = by_specs typed free d e (specs_of s d) refl h

      by_parameter : (o : Option ℕ) → parameter_type s F o ≡ Some t → within_limits w t ≡ true
      by_parameter None h = cc
      by_parameter (Some p) h = by (F p) refl h
        where
          by : (y : Sense) → F p ≡ y → (elim y as (λ _. Option Ctype) [ IsParameter x ↦ Some x.type | _ ↦ None ]) ≡ Some t → within_limits w t ≡ true
          by (IsParameter x) e h =
              let there = seen n p (IsParameter x) (λ e. cc) e in
              subst (λ (u : Ctype). within_limits w u ≡ true) (some_is x.type t h) (subst (Within w) there.1 (all p there.0))
          by y e h = cc

      own_within : is_typedef s F l ≡ true → own_type s F l ≡ Some t → within_limits w t ≡ true
      own_within typed h = by (is_parameter s F l) refl h
        where
          by : (b : Bool) → is_parameter s F l ≡ b → (if b then parameter_type s F (declaration_of s F l) else whole_by (outermost_of s l)) ≡ Some t → within_limits w t ≡ true
          by true e h = by_parameter (declaration_of s F l) h
          by false e h = by_outermost typed e (outermost_of s l) refl h

      object_never : (e : ℕ) (o : Option Ctype) → option_map (object_or_function s F e) o ≡ Some (TypeName t) → ⊥
      object_never e None h = cc
      object_never e (Some u) h = by (is_function_type u) h
        where
          by : (b : Bool) → Some (if b then Function e u else Object e u) ≡ Some (TypeName t) → ⊥
          by true h = cc
          by false h = cc

      declared_within : declared_meaning s F l ≡ Some (TypeName t) → within_limits w t ≡ true
      declared_within h = by (is_typedef s F l) refl h
        where
          typed : is_typedef s F l ≡ true → (o : Option Ctype) → own_type s F l ≡ o → option_map TypeName o ≡ Some (TypeName t) → within_limits w t ≡ true
          typed is None e h = cc
          typed is (Some u) e h = own_within is (e ∙ (let same : u ≡ t = cc in ap (λ (x : Ctype). Some x) same))

          by : (b : Bool) → is_typedef s F l ≡ b → (if b then option_map TypeName (own_type s F l) else option_map (object_or_function s F (entity_of s F (named_by s F l))) (type_behind s F l)) ≡ Some (TypeName t) → within_limits w t ≡ true
          by true is h = typed is (own_type s F l) refl h
          by false is h = absurd (object_never (entity_of s F (named_by s F l)) (type_behind s F l) h)

      enumerated_never : (p : ℕ) → enumerated s F p ≡ Some (TypeName t) → ⊥
      enumerated_never p h = by (F p) h
        where
          by : (y : Sense) → (elim y as (λ _. Option Meaning) [ IsValue k ↦ Some (Value k) | _ ↦ None ]) ≡ Some (TypeName t) → ⊥
          by (IsValue k) h = cc
          by y h = cc

      meaning_within : meaning_of s F l ≡ Some (TypeName t) → within_limits w t ≡ true
      meaning_within h = by (parent_of s l) h
        where
          by_kind : (p : ℕ) (b : Bool) → (if b then enumerated s F p else declared_meaning s F l) ≡ Some (TypeName t) → within_limits w t ≡ true
          by_kind p true h = absurd (enumerated_never p h)
          by_kind p false h = declared_within h

          by : (o : Option ℕ) → (elim o as (λ _. Option Meaning) [ None ↦ None | Some p ↦ if is_a s p_enumerator p then enumerated s F p else declared_meaning s F l ]) ≡ Some (TypeName t) → within_limits w t ≡ true
          by None h = cc
          by (Some p) h = by_kind p (is_a s p_enumerator p) h

    pub named_within : Grown s → TypedefsNamed s → (i : ℕ) (t : Ctype) → meaning_at s F i ≡ Some (TypeName t) → within_limits w t ≡ true
    named_within grown named i t h = by (paired s.uses i) h
      where
        by : (o : Option ℕ) → option_and_then (meaning_of s F) o ≡ Some (TypeName t) → within_limits w t ≡ true
        by None h = cc
        by (Some l) h = meaning_within grown named l t h
