-- The sizes of declared objects.
use Rattle.std.proofs.Common.{arith, ◌≡◌, ◌<◌, ◌≤◌, ℕ, zero, suc, Bool, true, false, ◌&&◌, ◌||◌, nat_eq, List, [], ◌∷◌, length, Option, Some, None, refl, sym, ap, ◌∙◌, subst}
use Rattle.std.specs.Prelude.{is_some, option_map, option_and_then, if◌then◌else◌}
use Rattle.std.proofs.lemmas.Bool.{eqb-true}
use Rattle.c_types.specs.declared.term.MemberTerm.{MemberTerm}
use Rattle.c_types.specs.Trees.{Ctype, VoidType, BoolType, IntegerType, FloatingType, VaListType, PointerTo, ArrayOf, FunctionFrom, StructureOf, UnionOf}
use Rattle.c_types.specs.Table.{members_in}
use Rattle.c_grammar.specs.Productions.{p_rest, p_field, p_parameter, p_declarator, p_abstract, p_either}
use Rattle.c_grammar.specs.Terminals.{contains}
use Rattle.c_grammar.specs.Words.{word_extern}
use Rattle.type_rules.specs.Kinds.{IsFunction, LacksLength}
use Rattle.type_rules.specs.Sizes.{HasSize, with_one}
use Rattle.core_tree.specs.declared.node.Unit.{Unit}
use Rattle.core_nodes.specs.Standing.{Knows}
use Rattle.c_senses.specs.Names.{source_of, numbered}
use Rattle.c_senses.specs.Tree.{Source, production_at, is_a, parent_of, above_within}
use Rattle.c_senses.specs.World.{World, has_size}
use Rattle.c_senses.specs.Limits.{within_limits}
use Rattle.c_senses.specs.Declarators.{is_declarator, is_outermost, outermost_of, declaration_around, derived, all_derive, specs_of, specified_at}
use Rattle.c_senses.specs.Entities.{with_length, specified, declaration_of, is_parameter, parameter_type, derived_type, length_given_by, initialiser_of, initialiser_for, own_type, specified_of, is_typedef, declares_function, is_linked, has_storage, element_has_size, will_have_size, may_stay_open}
use Rattle.c_senses.specs.Sense.{Sense, IsSpecified, IsDeclarator, IsInitial, Derivation, Specified, sense_in}
use Rattle.c_senses.specs.Rows.{AreSenses, world_at}
use Rattle.core_node_laws.specs.standing_laws.Standing.{IsGrown}
use Rattle.core_node_laws.proofs.standing_laws.Climbing.{parent_holds}
use Rattle.parsed_tree_laws.proofs.placed_laws.Climbing.{IsNamedPart, Grown}
use Rattle.declaration_laws.proofs.function_laws.body_returns.Naming.{Told, told}
use Rattle.declaration_laws.proofs.function_laws.body_returns.Built.{grown, placed}
use Rattle.declaration_laws.specs.declared_type_laws.declared_leaves.Leaves.{IsNamed, Own, Inner, IsDeclaredBy}
use Rattle.core_node_laws.proofs.built_unit_laws.run_laws.Times.{known_at, world_of}
use Rattle.core_node_laws.proofs.built_unit_laws.run_laws.Times as times
use Rattle.declaration_laws.proofs.declared_type_laws.plain_names.Later.{Later, known_later, initialiser_same}
use Rattle.declaration_laws.proofs.declared_type_laws.plain_names.Later as later
use Rattle.limit_laws.proofs.member_laws.Growing.{sized_stays}
use Rattle.core_node_laws.proofs.built_unit_laws.value_laws.Shapes.{structure_complete, union_complete}
use Rattle.declaration_laws.specs.function_laws.passed.definition_laws.initialiser_laws.Initialisers.{InitialisersAreOf}
use Rattle.declaration_laws.proofs.function_laws.passed.definition_laws.initialiser_laws.Found.{initialisers_found}
use Rattle.valid_unit_laws.specs.object_initialiser_laws.placed_initialisers.PassedOn.{InitialisersPlaced}
use Rattle.valid_unit_laws.proofs.object_initialiser_laws.placed_initialisers.Whole.{units_place}
use Rattle.valid_unit_laws.specs.object_size_laws.object_sizes.Sized.{TypeSized, Sized, Complete, Open, ObjectsSized}
use Rattle.valid_unit_laws.proofs.object_size_laws.object_sizes.Growing.{grows_between, array_sized, one_sized}
use Rattle.valid_unit_laws.proofs.object_size_laws.object_sizes.Completing.{structure_is, union_is}
use Rattle.valid_unit_laws.proofs.object_size_laws.object_sizes.Rows.{Ways, Now, Elements, Later as Awaited, Never, object_ways}
use Rattle.valid_unit_laws.proofs.object_size_laws.object_sizes.Lengths.{length_is, declarator_before}

some_one : {X : Type 0} → {x y : X} → ◌≡◌ {A = Option X} (Some x) (Some y) → x ≡ y
some_one h = cc

both : (a b : Bool) → (a && b) ≡ true → (a ≡ true) × (b ≡ true)
both true b e = (refl, e)
both false b e = cc

-- what is found above passes
pub found_above : (s : Source) (test : ℕ → Bool) (fuel d : ℕ) (o : Option ℕ) → above_within s test fuel o ≡ Some d → test d ≡ true
found_above s test zero d o e = cc
found_above s test (suc fuel) d None e = cc
found_above s test (suc fuel) d (Some p) e = by (test p) refl e (λ f. found_above s test fuel d (parent_of s p) f)
  where
    by : (b : Bool) → test p ≡ b → (if b then Some p else above_within s test fuel (parent_of s p)) ≡ Some d → (above_within s test fuel (parent_of s p) ≡ Some d → test d ≡ true) → test d ≡ true
    by true is e later = ap test (sym (some_one e)) ∙ is
    by false is e later = later e

-- a declarator of any form declares
form_declares : (q : ℕ) → ((nat_eq q p_declarator || nat_eq q p_abstract) || nat_eq q p_either) ≡ true → contains (19 ∷ 20 ∷ 21 ∷ []) q ≡ true
form_declares q h = by (nat_eq q p_declarator) (nat_eq q p_abstract) (nat_eq q p_either) refl refl refl h
  where
    by : (a b c : Bool) → nat_eq q p_declarator ≡ a → nat_eq q p_abstract ≡ b → nat_eq q p_either ≡ c → ((a || b) || c) ≡ true → contains (19 ∷ 20 ∷ 21 ∷ []) q ≡ true
    by true b c ea eb ec k = subst (λ (x : ℕ). contains (19 ∷ 20 ∷ 21 ∷ []) x ≡ true) (sym (eqb-true q 19 ea)) refl
    by false true c ea eb ec k = subst (λ (x : ℕ). contains (19 ∷ 20 ∷ 21 ∷ []) x ≡ true) (sym (eqb-true q 20 eb)) refl
    by false false true ea eb ec k = subst (λ (x : ℕ). contains (19 ∷ 20 ∷ 21 ∷ []) x ≡ true) (sym (eqb-true q 21 ec)) refl
    by false false false ea eb ec k = cc

pub named_part : (s : Source) (m leaf : ℕ) → is_declarator s m ≡ true → IsNamed s m leaf → IsNamedPart s leaf
named_part s m leaf is (Own child name) = (m, form_declares (production_at s m) is, child, name)
named_part s m leaf is (Inner c child inner more) = named_part s c leaf inner more

-- a name that is no parameter's has a type
pub has_type : (s : Source) (senses : List Sense) (leaf m : ℕ) (by_it : IsDeclaredBy s senses m leaf) → is_parameter s (sense_in senses) leaf ≡ false
    → own_type s (sense_in senses) leaf ≡ Some (with_length (length_given_by s (sense_in senses) (initialiser_for s (sense_in senses) leaf)) (derived by_it.derives by_it.words.type))
has_type s senses leaf m by_it plain =
    let words_last : specified_of s (sense_in senses) leaf ≡ Some by_it.words = later.told s (known_at s senses m) (sense_in senses) (known_later s senses m) (option_and_then (specs_of s) (outermost_of s leaf)) by_it.words by_it.told in
    let derived_is : derived_type s (sense_in senses) (specified_of s (sense_in senses) leaf) (outermost_of s leaf) ≡ Some (derived by_it.derives by_it.words.type) =
    ap (λ (o : Option Specified). derived_type s (sense_in senses) o (outermost_of s leaf)) words_last
    ∙ (ap (derived_type s (sense_in senses) (Some by_it.words)) by_it.outermost ∙ ap (λ (x : Sense). elim x as (λ _. Option Ctype) [ IsDeclarator name ds ↦ Some (derived ds by_it.words.type) | _ ↦ None ]) by_it.is) in
    let n : Option ℕ = length_given_by s (sense_in senses) (initialiser_for s (sense_in senses) leaf) in
    ap (λ (b : Bool). if b then parameter_type s (sense_in senses) (declaration_of s (sense_in senses) leaf) else option_map (with_length n) (derived_type s (sense_in senses) (specified_of s (sense_in senses) leaf) (outermost_of s leaf))) plain
    ∙ ap (option_map (with_length n)) derived_is

-- types that have a size, or are structures or unions, are no arrays without a length
pub sized_closed : (w : World) (t : Ctype) → has_size w t ≡ true → ((l : Option ℕ) → with_length l t ≡ t) × (with_one t ≡ t) × (LacksLength t → ⊥)
sized_closed w VoidType h = cc
sized_closed w BoolType h = (λ l. (elim l as (λ l. with_length l BoolType ≡ BoolType) [ None ↦ refl | Some n ↦ refl ]), refl, λ k. k)
sized_closed w (IntegerType size rank signed) h = (λ l. (elim l as (λ l. with_length l (IntegerType size rank signed) ≡ IntegerType size rank signed) [ None ↦ refl | Some n ↦ refl ]), refl, λ k. k)
sized_closed w FloatingType h = (λ l. (elim l as (λ l. with_length l FloatingType ≡ FloatingType) [ None ↦ refl | Some n ↦ refl ]), refl, λ k. k)
sized_closed w VaListType h = (λ l. (elim l as (λ l. with_length l VaListType ≡ VaListType) [ None ↦ refl | Some n ↦ refl ]), refl, λ k. k)
sized_closed w (PointerTo to) h = (λ l. (elim l as (λ l. with_length l (PointerTo to) ≡ PointerTo to) [ None ↦ refl | Some n ↦ refl ]), refl, λ k. k)
sized_closed w (ArrayOf of None) h = cc
sized_closed w (ArrayOf of (Some k)) h = (λ l. (elim l as (λ l. with_length l (ArrayOf of (Some k)) ≡ ArrayOf of (Some k)) [ None ↦ refl | Some n ↦ refl ]), refl, λ j. j)
sized_closed w (FunctionFrom r ps form) h = cc
sized_closed w (StructureOf tag) h = (λ l. (elim l as (λ l. with_length l (StructureOf tag) ≡ StructureOf tag) [ None ↦ refl | Some n ↦ refl ]), refl, λ k. k)
sized_closed w (UnionOf tag) h = (λ l. (elim l as (λ l. with_length l (UnionOf tag) ≡ UnionOf tag) [ None ↦ refl | Some n ↦ refl ]), refl, λ k. k)

structure_plain : (l : Option ℕ) (tag : ℕ) → with_length l (StructureOf tag) ≡ StructureOf tag
structure_plain None tag = refl
structure_plain (Some n) tag = refl

union_plain : (l : Option ℕ) (tag : ℕ) → with_length l (UnionOf tag) ≡ UnionOf tag
union_plain None tag = refl
union_plain (Some n) tag = refl

-- a length makes no function's type
length_function : (l : Option ℕ) (t : Ctype) → IsFunction (with_length l t) → IsFunction t
length_function l (FunctionFrom r ps form) h = tt
length_function None (ArrayOf of None) h = h
length_function (Some n) (ArrayOf of None) h = h
length_function None t h = h
length_function (Some n) t h = h

element_of : (w : World) (s : Source) (sense : ℕ → Sense) (t : Ctype) → element_has_size w s sense t ≡ true → (of : Ctype) × (t ≡ ArrayOf of None) × (has_size w of ≡ true)
element_of w s sense (ArrayOf of None) h = (of, refl, h)
element_of w s sense t h = cc

module _
    (s : Source) (senses : List Sense) (tree : Grown s) (are : AreSenses s senses) (whole : length senses ≡ length s.nodes) (leaf m p : ℕ) (by_it : IsDeclaredBy s senses m leaf) (parent : parent_of s m ≡ Some p) (field : is_a s p_field p ≡ false)
    (no_parameter : is_parameter s (sense_in senses) leaf ≡ false) (typedefs : is_typedef s (sense_in senses) leaf ≡ false) (function : declares_function s (sense_in senses) leaf ≡ false)
  where
    abbrev f : ℕ → Sense
    f = sense_in senses

    abbrev W : World
    W = world_of s senses m

    abbrev F : ℕ → Sense
    F = known_at s senses m

    outer : is_outermost s m ≡ true
    outer = found_above s (is_outermost s) (length s.nodes) m (parent_of s leaf) by_it.outermost

    row : Told s senses tree are whole leaf m
    row = told s senses tree are whole leaf m (named_part s m leaf (both (is_declarator s m) _ outer).0 by_it.named) by_it.outermost

    parameter : is_a s p_parameter p ≡ false
    parameter = by (is_a s p_parameter p) refl
      where
        around_is : declaration_of s f leaf ≡ declaration_around s p
        around_is = ap (λ (o : Option ℕ). option_and_then (declaration_around s) (option_and_then (parent_of s) o)) by_it.outermost ∙ ap (option_and_then (declaration_around s)) parent

        plain : (q : ℕ) → nat_eq q p_parameter ≡ true → (nat_eq q p_rest || nat_eq q p_field) ≡ false
        plain q e = subst (λ (x : ℕ). (nat_eq x p_rest || nat_eq x p_field) ≡ false) (sym (eqb-true q p_parameter e)) refl

        by : (b : Bool) → is_a s p_parameter p ≡ b → b ≡ false
        by false e = refl
        by true e =
            let here : declaration_around s p ≡ Some p = ap (λ (b : Bool). if b then parent_of s p else Some p) (plain (production_at s p) e) in
            let is : is_parameter s f leaf ≡ true = ap (λ (o : Option ℕ). elim o as (λ _. Bool) [ None ↦ false | Some q ↦ is_a s p_parameter q ]) (around_is ∙ here) ∙ e in
            let no : true ≡ false = sym is ∙ no_parameter in cc

    -- the specifiers are known from the declarator on
    words_at : (n : ℕ) → m ≤ n → specified_of s (known_at s senses n) leaf ≡ Some by_it.words
    words_at n le = later.told s F (known_at s senses n) (λ j x e some. times.told_later s senses m n j x e some le) (option_and_then (specs_of s) (outermost_of s leaf)) by_it.words by_it.told

    words_last : specified_of s f leaf ≡ Some by_it.words
    words_last = later.told s F f (known_later s senses m) (option_and_then (specs_of s) (outermost_of s leaf)) by_it.words by_it.told

    abbrev T : Ctype
    T = derived by_it.derives by_it.words.type

    -- the type of the row is the declarator's
    same_derives : row.ds ≡ by_it.derives
    same_derives = of (sym row.sensed ∙ by_it.is)
      where
        of : IsDeclarator (Some leaf) row.ds ≡ IsDeclarator (Some leaf) by_it.derives → row.ds ≡ by_it.derives
        of e = cc

    same_base : row.base ≡ by_it.words.type
    same_base = some_one (sym row.base_is ∙ by (specs_of s m) (sym (ap (λ (o : Option ℕ). specified s F (option_and_then (specs_of s) o)) by_it.outermost) ∙ by_it.told))
      where
        of_sense : (x : Sense) → (elim x as (λ _. Option Specified) [ IsSpecified y ↦ Some y | _ ↦ None ]) ≡ Some by_it.words → (elim x as (λ _. Option Ctype) [ IsSpecified y ↦ Some y.type | _ ↦ None ]) ≡ Some by_it.words.type
        of_sense (IsSpecified y) h = let same : y ≡ by_it.words = some_one h in ap (λ (z : Specified). Some z.type) same
        of_sense x h = cc

        by : (o : Option ℕ) → specified s F o ≡ Some by_it.words → specified_at W s F o ≡ Some by_it.words.type
        by None h = cc
        by (Some i) h = of_sense (F i) h

    same_type : derived row.ds row.base ≡ T
    same_type = ap (λ (ds : List Derivation). derived ds row.base) same_derives ∙ ap (derived by_it.derives) same_base

    limited : within_limits W T ≡ true
    limited = subst (λ (x : Ctype). within_limits W x ≡ true) same_type (both (all_derive W row.ds row.base) (within_limits W (derived row.ds row.base)) row.fits).1

    asked : Ways W s F m T leaf (is_some (initialiser_of s F m))
    asked = subst (λ (x : Ctype). Ways W s F m x leaf (is_some (initialiser_of s F m))) same_type (object_ways W s F m leaf (derived row.ds row.base) row.adjusted_type row.given (f m) row.placed p parent field parameter typedefs function)

    -- the type of the declaration
    abbrev L : Option ℕ
    L = length_given_by s f (initialiser_for s f leaf)

    -- which is no function's
    pub no_function : (t : Ctype) → own_type s f leaf ≡ Some t → IsFunction t → ⊥
    no_function t typed h = by T (length_function L T (subst IsFunction (sym (some_one (sym (has_type s senses leaf m by_it no_parameter) ∙ typed))) h)) asked
      where
        by : (x : Ctype) → IsFunction x → Ways W s F m x leaf (is_some (initialiser_of s F m)) → ⊥
        by (FunctionFrom r ps form) k (Now e) = cc
        by (FunctionFrom r ps form) k (Elements e i) = cc
        by (FunctionFrom r ps form) k (Awaited e) = cc
        by (FunctionFrom r ps form) k (Never e extern bare) = cc
        by x k ways = k

    module _ (grows : IsGrown s) (u : Unit) (knows : Knows (world_at s senses (length senses)) u) (places : InitialisersPlaced s senses) (owns : InitialisersAreOf s) (t : Ctype) (typed : own_type s f leaf ≡ Some t) where
      typed_is : with_length L T ≡ t
      typed_is = some_one (sym (has_type s senses leaf m by_it no_parameter) ∙ typed)

      inside : m < length senses
      inside =
          let child = parent_holds s grows p m parent in
          let before = tree.before p m child in
          let within = tree.within p m child in
          omega (arith, before, within, whole)

      for_is : initialiser_for s f leaf ≡ initialiser_of s f m
      for_is = ap (option_and_then (initialiser_of s f)) by_it.outermost

      now : has_size W T ≡ true → TypeSized s f u.types leaf t
      now h =
          let closed = sized_closed W T h in
          let same : T ≡ t = sym (closed.0 L) ∙ typed_is in
          let size : HasSize u.types (with_one T) = subst (HasSize u.types) (sym closed.1) (sized_stays s grows.first senses m u T (let lt = inside in omega (arith, lt)) knows limited h) in
          subst (λ (x : Ctype). TypeSized s f u.types leaf x) same (Sized size (λ lacks. absurd (closed.2 lacks)))

      -- an array of elements that have a size
      module _ (of : Ctype) (array : T ≡ ArrayOf of None) (sized : has_size W of ≡ true) where
        element_limited : within_limits W of ≡ true
        element_limited = (both true (within_limits W of) (subst (λ (x : Ctype). within_limits W x ≡ true) array limited)).1

        lone : initialiser_of s f m ≡ None → (is_some (initialiser_of s F m) || is_linked s F leaf) ≡ true → TypeSized s f u.types leaf t
        lone none h =
            let length_none : length_given_by s f (initialiser_for s f leaf) ≡ None = ap (length_given_by s f) (for_is ∙ none) in
            let here : t ≡ ArrayOf of None = sym typed_is ∙ (ap (λ (l : Option ℕ). with_length l T) length_none ∙ array) in
            let linked : is_linked s f leaf ≡ true = ap (λ (o : Option ℕ). is_some o || is_linked s f leaf) (sym (initialiser_same s F f m ∙ none)) ∙ h in
            let size : HasSize u.types (ArrayOf of (Some 1)) = one_sized u.types of (sized_stays s grows.first senses m u of (let lt = inside in omega (arith, lt)) knows element_limited sized) in
            subst (λ (x : Ctype). TypeSized s f u.types leaf x) (sym here) (Sized size (λ lacks. linked))

        filled : (init : ℕ) → initialiser_of s f m ≡ Some init → TypeSized s f u.types leaf t
        filled init some =
            let place = places m init outer some in
            let child = parent_holds s grows place.above init place.parent in
            let lt : init < length senses = (let before = tree.before place.above init child in let within = tree.within place.above init child in omega (arith, before, within, whole)) in
            let found = owns (known_at s senses init) m init place.declarator (initialiser_same s (known_at s senses init) f m ∙ some) in
            let before : m < init = declarator_before s senses are init place.above m leaf by_it.derives by_it.words of lt place.initialiser place.parent place.rest found in
            let h = length_is s senses are init place.above m leaf by_it.derives by_it.words of lt place.initialiser place.parent place.rest found by_it.is by_it.outermost by_it.told array words_at in
            let n : ℕ = h.1 in
            let length_some : length_given_by s f (initialiser_for s f leaf) ≡ Some n = ap (length_given_by s f) (for_is ∙ some) ∙ ap (λ (x : Sense). elim x as (λ _. Option ℕ) [ IsInitial c k ↦ k | _ ↦ None ]) h.2 in
            let here : t ≡ ArrayOf of (Some n) = sym typed_is ∙ (ap (λ (l : Option ℕ). with_length l T) length_some ∙ ap (with_length (Some n)) array) in
            let has = array_sized W (world_of s senses init) (grows_between s grows.first senses m init (omega (arith, before)) (omega (arith, lt))) of n sized h.3 in
            let size : HasSize u.types (ArrayOf of (Some n)) = sized_stays s grows.first senses init u (ArrayOf of (Some n)) (omega (arith, lt)) knows h.3 has in
            subst (λ (x : Ctype). TypeSized s f u.types leaf x) (sym here) (Sized size (λ lacks. absurd lacks))

        elements : (is_some (initialiser_of s F m) || is_linked s F leaf) ≡ true → TypeSized s f u.types leaf t
        elements h = by (initialiser_of s f m) refl
          where
            by : (o : Option ℕ) → initialiser_of s f m ≡ o → TypeSized s f u.types leaf t
            by None e = lone e h
            by (Some init) e = filled init e

      -- what will be complete
      awaited : (x : Ctype) → T ≡ x → will_have_size W s F x ≡ true → TypeSized s f u.types leaf t
      awaited (StructureOf tag) e h = subst (λ (y : Ctype). TypeSized s f u.types leaf y) (sym (structure_plain L tag) ∙ (ap (with_length L) (sym e) ∙ typed_is)) (Complete tt (structure_is s senses grows.first are whole tag u knows h))
      awaited (UnionOf tag) e h = subst (λ (y : Ctype). TypeSized s f u.types leaf y) (sym (union_plain L tag) ∙ (ap (with_length L) (sym e) ∙ typed_is)) (Complete tt (union_is s senses grows.first are whole tag u knows h))
      awaited x e h = cc

      -- what may stay open
      module _ (extern : has_storage s F word_extern leaf ≡ true) (bare : is_some (initialiser_of s F m) ≡ false) where
        extern_last : has_storage s f word_extern leaf ≡ true
        extern_last = ap (λ (o : Option Specified). elim o as (λ _. Bool) [ None ↦ false | Some x ↦ contains x.storage word_extern ]) (words_last ∙ sym by_it.told) ∙ extern

        none_first : initialiser_of s f m ≡ None
        none_first = by (initialiser_of s f m) (ap is_some (sym (initialiser_same s F f m)) ∙ bare)
          where
            by : (o : Option ℕ) → is_some o ≡ false → o ≡ None
            by None e = refl
            by (Some x) e = cc

        no_initialiser : initialiser_for s f leaf ≡ None
        no_initialiser = for_is ∙ none_first

        type_is : T ≡ t
        type_is = ap (λ (l : Option ℕ). with_length l T) (sym (ap (length_given_by s f) no_initialiser)) ∙ typed_is

        open_as : (x : Ctype) → T ≡ x → may_stay_open W s F x ≡ true → TypeSized s f u.types leaf x
        open_as VoidType e h = Open tt extern_last no_initialiser
        open_as (StructureOf tag) e h = by (members_in u.types tag) refl
          where
            by : (o : Option (List MemberTerm)) → members_in u.types tag ≡ o → TypeSized s f u.types leaf (StructureOf tag)
            by None at = Open at extern_last no_initialiser
            by (Some ms) at = Complete tt (structure_complete u.types tag (ap is_some at))
        open_as (UnionOf tag) e h = by (members_in u.types tag) refl
          where
            by : (o : Option (List MemberTerm)) → members_in u.types tag ≡ o → TypeSized s f u.types leaf (UnionOf tag)
            by None at = Open at extern_last no_initialiser
            by (Some ms) at = Complete tt (union_complete u.types tag (ap is_some at))
        open_as x e h = cc

      pub object_sized : TypeSized s f u.types leaf t
      object_sized = by asked
        where
          by : Ways W s F m T leaf (is_some (initialiser_of s F m)) → TypeSized s f u.types leaf t
          by (Now h) = now h
          by (Elements e i) = let array = element_of W s F T e in elements array.0 array.1 array.2 i
          by (Awaited h) = awaited T refl h
          by (Never h extern bare) = subst (λ (x : Ctype). TypeSized s f u.types leaf x) (type_is extern bare) (open_as extern bare T refl h)

pub objects_sized : ObjectsSized
objects_sized tokens unit tree tag_number name u cut is b leaf m p t by_it parent field parameter typedefs function typed =
    object_sized (numbered tag_number (source_of tokens tree)) b.senses (placed tokens unit tree tag_number is) b.are_senses b.whole leaf m p by_it parent field parameter typedefs function
    (grown tokens unit tree tag_number cut is) u b.knows (units_place tokens unit tree tag_number b.senses cut is) (initialisers_found tokens unit tree tag_number cut is) t typed
