-- The sizes of parameters of definitions.
use Rattle.std.proofs.Common.{arith, ◌≡◌, ◌<◌, ℕ, zero, suc, Bool, true, false, ◌&&◌, ◌||◌, nat_eq, List, [], ◌∷◌, length, Option, Some, None, refl, sym, ap, ◌∙◌, subst, inl, inr}
use Rattle.std.specs.Prelude.{option_map, option_and_then, if◌then◌else◌}
use Rattle.std.proofs.lemmas.Bool.{eqb-true}
use Rattle.pta_base.specs.declared.kind.Kind.TheVariants.{Operand}
use Rattle.c_types.specs.Trees.{Ctype, ArrayOf, FunctionFrom, StructureOf, UnionOf}
use Rattle.c_grammar.specs.Productions.{p_external, p_rest, p_declaration, p_specs, p_field, p_parameter, p_either}
use Rattle.c_grammar.specs.Terminals.{contains}
use Rattle.type_rules.specs.Sizes.{HasSize}
use Rattle.core_tree.specs.declared.node.Unit.{Unit}
use Rattle.core_nodes.specs.Standing.{Knows}
use Rattle.c_senses.specs.Names.{source_of, numbered}
use Rattle.c_senses.specs.Tree.{Source, production_at, children_at, is_a, is_name, child_of, parent_of}
use Rattle.c_senses.specs.Given.{Fits, given_if}
use Rattle.c_senses.specs.World.{World, has_size, same_length}
use Rattle.c_senses.specs.Limits.{is_small, within_limits}
use Rattle.c_senses.specs.World.{extent}
use Rattle.c_senses.specs.Declarators.{is_declarator, is_outermost, outermost_of, declaration_around, adjusted, derived, derivations, name_in, all_derive, specs_of, specified_at, sense_of_child, parameter_of, parameter_fits, is_defined_list}
use Rattle.c_senses.specs.Entities.{declaration_of, is_parameter, parameter_type, derived_type, length_given_by, initialiser_for, own_type, specified_of, defined_parameter, is_parameter_complete, will_have_size, with_length}
use Rattle.c_senses.specs.Sense.{Sense, Nothing, IsSpecified, IsDeclarator, IsParameter, Parameter, Derivation, sense_in}
use Rattle.c_senses.specs.Rows.{AreSenses, world_at, declarator_row}
use Rattle.c_senses.specs.Right.{is_declaring}
use Rattle.core_node_laws.specs.standing_laws.Standing.{IsGrown}
use Rattle.core_node_laws.proofs.standing_laws.Climbing.{parent_holds}
use Rattle.parsed_tree_laws.specs.grown_parts.Parts.{IsBrought}
use Rattle.parsed_tree_laws.proofs.grown_parts.Reading.{units_bring}
use Rattle.parsed_tree_laws.proofs.placed_laws.Climbing.{Grown}
use Rattle.declaration_laws.proofs.function_laws.body_returns.Naming.{Told, told}
use Rattle.declaration_laws.proofs.function_laws.body_returns.Built.{grown, placed}
use Rattle.declaration_laws.specs.declared_type_laws.declared_leaves.Leaves.{IsDeclaredBy}
use Rattle.declaration_laws.proofs.declared_type_laws.declared_leaves.Climbing.{leaves_declared}
use Rattle.core_node_laws.proofs.built_unit_laws.run_laws.Times.{known_at, world_of, known, told_later, row_as}
use Rattle.limit_laws.proofs.member_laws.Growing.{sized_stays}
use Rattle.declaration_laws.proofs.function_laws.passed.definition_laws.function_definitions.Whole.{declarator_gives, declarator_asks}
use Rattle.valid_unit_laws.specs.object_size_laws.object_sizes.Sized.{IsSizedType}
use Rattle.valid_unit_laws.proofs.object_size_laws.object_sizes.Completing.{structure_is, union_is}
use Rattle.valid_unit_laws.proofs.object_size_laws.object_sizes.Sizes.{sized_closed, named_part, found_above}
use Rattle.valid_unit_laws.specs.object_size_laws.parameter_sizes.Parameters.{ParametersSized}
use Rattle.valid_unit_laws.proofs.object_size_laws.parameter_sizes.Lists.{Parts, parts, specs_found, declarator_found, no_field, declarator_is}
use Rattle.valid_unit_laws.proofs.object_size_laws.parameter_sizes.Named.{parameter_told, list_defined}

some_one : {X : Type 0} → {x y : X} → ◌≡◌ {A = Option X} (Some x) (Some y) → x ≡ y
some_one h = cc

both : (a b : Bool) → (a && b) ≡ true → (a ≡ true) × (b ≡ true)
both true b e = (refl, e)
both false b e = cc

and_then_some : {A B : Type 0} → (o : Option A) (k : A → Option B) (y : B) → option_and_then k o ≡ Some y → (x : A) × (o ≡ Some x) × (k x ≡ Some y)
and_then_some None k y e = cc
and_then_some (Some x) k y e = (x, refl, e)

no_both : (b : Bool) → b ≡ true → b ≡ false → ⊥
no_both b e f = let both : true ≡ false = sym e ∙ f in cc

-- what an adjusted type is within the limits of
adjusted_limited : (w : World) (t : Ctype) → within_limits w t ≡ true → within_limits w (adjusted t) ≡ true
adjusted_limited w (ArrayOf of n) h = (both (is_small (extent w (ArrayOf of n))) (within_limits w of) h).1
adjusted_limited w (FunctionFrom r ps form) h = h
adjusted_limited w t h = h

-- a node that has a sense stands among the senses
pub sense_within : (senses : List Sense) (m : ℕ) → (sense_in senses m ≡ Nothing → ⊥) → m < length senses
sense_within [] m h = absurd (h refl)
sense_within (x ∷ xs) zero h = omega arith
sense_within (x ∷ xs) (suc m) h = let more = sense_within xs m h in omega (arith, more)

-- who declares a leaf
pub named_at : (s : Source) (senses : List Sense) (leaf : ℕ) → is_declaring s senses leaf ≡ true → (m : ℕ) × (ds : List Derivation) × (outermost_of s leaf ≡ Some m) × (sense_in senses m ≡ IsDeclarator (Some leaf) ds)
named_at s senses leaf h = by (outermost_of s leaf) refl (both (is_name s leaf) _ h).1
  where
    of : (m : ℕ) (x : Sense) → sense_in senses m ≡ x → (elim x as (λ _. Bool) [ IsDeclarator name ds ↦ same_length name (Some leaf) | _ ↦ false ]) ≡ true → (ds : List Derivation) × (sense_in senses m ≡ IsDeclarator (Some leaf) ds)
    of m (IsDeclarator (Some n) ds) e k = (ds, e ∙ ap (λ (j : ℕ). IsDeclarator (Some j) ds) (eqb-true n leaf k))
    of m (IsDeclarator None ds) e k = cc
    of m x e k = cc

    by : (o : Option ℕ) → outermost_of s leaf ≡ o → (elim o as (λ _. Bool) [ None ↦ false | Some d ↦ elim (sense_in senses d) as (λ _. Bool) [ IsDeclarator name ds ↦ same_length name (Some leaf) | _ ↦ false ] ]) ≡ true
        → (m : ℕ) × (ds : List Derivation) × (outermost_of s leaf ≡ Some m) × (sense_in senses m ≡ IsDeclarator (Some leaf) ds)
    by None e k = cc
    by (Some m) e k = let r = of m (sense_in senses m) refl k in (m, r.0, e, r.1)

module _
    (s : Source) (senses : List Sense) (grows : IsGrown s) (tree : Grown s) (brought : IsBrought s) (are : AreSenses s senses) (whole : length senses ≡ length s.nodes) (u : Unit) (knows : Knows (world_at s senses (length senses)) u) (leaf m q : ℕ) (t : Ctype) (ds : List Derivation)
    (outermost : outermost_of s leaf ≡ Some m) (sense : sense_in senses m ≡ IsDeclarator (Some leaf) ds) (parent : parent_of s m ≡ Some q) (is : is_a s p_parameter q ≡ true)
  where
    abbrev f : ℕ → Sense
    f = sense_in senses

    abbrev W : World
    W = world_of s senses m

    abbrev F : ℕ → Sense
    F = known_at s senses m

    abbrev V : World
    V = world_of s senses q

    abbrev G : ℕ → Sense
    G = known_at s senses q

    child : contains (children_at s q) m ≡ true
    child = parent_holds s grows q m parent

    before : m < q
    before = tree.before q m child

    q_inside : q < length senses
    q_inside = let within = tree.within q m child in omega (arith, within, whole)

    inside : m < length senses
    inside = let a = before in let b = q_inside in omega (arith, a, b)

    outer : is_outermost s m ≡ true
    outer = found_above s (is_outermost s) (length s.nodes) m (parent_of s leaf) outermost

    by_it : IsDeclaredBy s senses m leaf
    by_it = leaves_declared.by_sense s senses are tree brought m leaf ds inside outer sense

    form : is_declarator s m ≡ true
    form = (both (is_declarator s m) _ outer).0

    row : Told s senses tree are whole leaf m
    row = told s senses tree are whole leaf m (named_part s m leaf form by_it.named) outermost

    h : Parts s q
    h = parts s q brought is

    second : m ≡ h.declarator
    second = declarator_is s q h m child form

    either : is_a s p_either m ≡ true
    either = ap (λ (x : ℕ). is_a s p_either x) second ∙ ap (λ (x : ℕ). nat_eq x p_either) h.second

    plain_around : declaration_around s q ≡ Some q
    plain_around = ap (λ (b : Bool). if b then parent_of s q else Some q) (subst (λ (x : ℕ). (nat_eq x p_rest || nat_eq x p_field) ≡ false) (sym (eqb-true (production_at s q) p_parameter is)) refl)

    specs_are : specs_of s m ≡ Some h.specs
    specs_are = ap (λ (o : Option ℕ). option_and_then (child_of s p_specs) (option_and_then (declaration_around s) o)) parent ∙ (ap (option_and_then (child_of s p_specs)) plain_around ∙ specs_found s q h)

    -- the declarator's row
    own_row : declarator_row W s F m (children_at s m) ≡ Fits (f m)
    own_row = row_as s senses are p_either m inside either

    given_is : IsDeclarator (name_in W s F (children_at s m)) (derivations W s F (children_at s m)) ≡ IsDeclarator (Some leaf) ds
    given_is = declarator_gives W s F m (children_at s m) (f m) own_row ∙ sense

    name_is : name_in W s F (children_at s m) ≡ Some leaf
    name_is = by given_is
      where
        by : IsDeclarator (name_in W s F (children_at s m)) (derivations W s F (children_at s m)) ≡ IsDeclarator (Some leaf) ds → name_in W s F (children_at s m) ≡ Some leaf
        by e = cc

    derivations_are : derivations W s F (children_at s m) ≡ ds
    derivations_are = by given_is
      where
        by : IsDeclarator (name_in W s F (children_at s m)) (derivations W s F (children_at s m)) ≡ IsDeclarator (Some leaf) ds → derivations W s F (children_at s m) ≡ ds
        by e = cc

    row_derives : row.ds ≡ ds
    row_derives = by (sym row.sensed ∙ sense)
      where
        by : IsDeclarator (Some leaf) row.ds ≡ IsDeclarator (Some leaf) ds → row.ds ≡ ds
        by e = cc

    abbrev T : Ctype
    T = adjusted (derived ds row.base)

    limited : within_limits W T ≡ true
    limited =
        adjusted_limited W (derived ds row.base)
        (subst (λ (x : List Derivation). within_limits W (derived x row.base) ≡ true) row_derives (both (all_derive W row.ds row.base) (within_limits W (derived row.ds row.base)) row.fits).1)

    module _ (suffix : ℕ) (above : parent_of s q ≡ Some suffix) (list : is_defined_list (world_at s senses suffix) s f suffix ≡ true) where
      defined : defined_parameter W s F m ≡ true
      defined =
          ap (λ (o : Option ℕ). elim (option_and_then (parent_of s) o) as (λ _. Bool) [ None ↦ false | Some x ↦ is_defined_list W s F x ]) parent
          ∙ (ap (λ (o : Option ℕ). elim o as (λ _. Bool) [ None ↦ false | Some x ↦ is_defined_list W s F x ]) above ∙ list_defined s senses m W (world_at s senses suffix) grows.families.ascend suffix list)

      no_field_is : is_a s p_field q ≡ false
      no_field_is = subst (λ (x : ℕ). nat_eq x p_field ≡ false) (sym (eqb-true (production_at s q) p_parameter is)) refl

      complete : is_parameter_complete W s F T ≡ true
      complete =
          let asks = declarator_asks W s F m leaf (children_at s m) (f m) outer name_is own_row in
          let same_base : asks.0 ≡ row.base = some_one (sym asks.1 ∙ row.base_is) in
          let told = parameter_told W s F m leaf (derived (derivations W s F (children_at s m)) asks.0) (adjusted (derived (derivations W s F (children_at s m)) asks.0)) (Fits (IsDeclarator (Some leaf) (derivations W s F (children_at s m)))) (f m) asks.2 q parent no_field_is is defined in
          subst (λ (x : Ctype). is_parameter_complete W s F (adjusted (derived ds x)) ≡ true) same_base
          (subst (λ (x : List Derivation). is_parameter_complete W s F (adjusted (derived x asks.0)) ≡ true) derivations_are told)

      size_of : (x : Ctype) → T ≡ x → is_parameter_complete W s F x ≡ true → IsSizedType u.types x
      size_of x e k = by (has_size W x) refl k
        where
          awaited : (x : Ctype) → will_have_size W s F x ≡ true → IsSizedType u.types x
          awaited (StructureOf tag) a = inr (tt, structure_is s senses grows.first are whole tag u knows a)
          awaited (UnionOf tag) a = inr (tt, union_is s senses grows.first are whole tag u knows a)
          awaited x a = cc

          by : (b : Bool) → has_size W x ≡ b → (b || will_have_size W s F x) ≡ true → IsSizedType u.types x
          by true sized a =
              let closed = sized_closed W x sized in
              let size = sized_stays s grows.first senses m u x (let lt = inside in omega (arith, lt)) knows (subst (λ (y : Ctype). within_limits W y ≡ true) e limited) sized in
              inl (subst (HasSize u.types) (sym closed.1) size, closed.2)
          by false none a = awaited x a

      -- the parameter's type is that one
      specs_known : specified_at V s G (Some h.specs) ≡ Some row.base
      specs_known = of (F h.specs) refl (sym (ap (specified_at W s F) specs_are) ∙ row.base_is)
        where
          of : (x : Sense) → F h.specs ≡ x → (elim x as (λ _. Option Ctype) [ IsSpecified y ↦ Some y.type | _ ↦ None ]) ≡ Some row.base → specified_at V s G (Some h.specs) ≡ Some row.base
          of (IsSpecified y) e k = ap (λ (x : Sense). elim x as (λ _. Option Ctype) [ IsSpecified z ↦ Some z.type | _ ↦ None ]) (told_later s senses m q h.specs (IsSpecified y) e (λ no. cc) (let lt = before in omega (arith, lt))) ∙ k
          of x e k = cc

      abbrev here : Parameter
      here = record { name = Some leaf; type = adjusted (derived ds row.base) }

      row_is : given_if (parameter_fits V s G q here) Operand q (Fits (IsParameter here)) ≡ Fits (f q)
      row_is =
          let first : specified_at V s G (child_of s p_specs q) ≡ Some row.base = ap (specified_at V s G) (specs_found s q h) ∙ specs_known in
          let own : sense_of_child V s G p_either q ≡ IsDeclarator (Some leaf) ds =
          ap (λ (o : Option ℕ). elim o as (λ _. Sense) [ None ↦ Nothing | Some c ↦ G c ]) (declarator_found s q h) ∙ (ap G (sym second) ∙ (known s senses q m before ∙ sense)) in
          sym (ap (λ (o : Option Ctype). parameter_of V s G q o (sense_of_child V s G p_either q)) first ∙ ap (parameter_of V s G q (Some row.base)) own) ∙ row_as s senses are p_parameter q q_inside is

      parameter_is : f q ≡ IsParameter here
      parameter_is = by (parameter_fits V s G q here) row_is
        where
          by : (b : Bool) → given_if b Operand q (Fits (IsParameter here)) ≡ Fits (f q) → f q ≡ IsParameter here
          by true e = cc
          by false e = cc

      pub parameter_sized : own_type s f leaf ≡ Some t → IsSizedType u.types t
      parameter_sized typed =
          let declaration : declaration_of s f leaf ≡ Some q = ap (λ (o : Option ℕ). option_and_then (declaration_around s) (option_and_then (parent_of s) o)) outermost ∙ (ap (option_and_then (declaration_around s)) parent ∙ plain_around) in
          let yes : is_parameter s f leaf ≡ true = ap (λ (o : Option ℕ). elim o as (λ _. Bool) [ None ↦ false | Some p ↦ is_a s p_parameter p ]) declaration ∙ is in
          let own : own_type s f leaf ≡ Some T =
          ap (λ (b : Bool). if b then parameter_type s f (declaration_of s f leaf) else option_map (with_length (length_given_by s f (initialiser_for s f leaf))) (derived_type s f (specified_of s f leaf) (outermost_of s leaf))) yes
          ∙ (ap (parameter_type s f) declaration ∙ ap (λ (x : Sense). elim x as (λ _. Option Ctype) [ IsParameter y ↦ Some y.type | _ ↦ None ]) parameter_is) in
          subst (λ (x : Ctype). IsSizedType u.types x) (some_one (sym own ∙ typed)) (size_of T refl complete)

-- where a parameter's declarator stands
module _ (s : Source) (grows : IsGrown s) (brought : IsBrought s) (p q : ℕ) (is : is_a s p_parameter q ≡ true) where
  two_no : (a : ℕ) → (is_a s p_external a || is_a s p_declaration a) ≡ true → is_a s p_parameter a ≡ false
  two_no a k = by (is_a s p_external a) (is_a s p_declaration a) refl refl k
    where
      by : (x y : Bool) → is_a s p_external a ≡ x → is_a s p_declaration a ≡ y → (x || y) ≡ true → is_a s p_parameter a ≡ false
      by true y e g k = subst (λ (z : ℕ). nat_eq z p_parameter ≡ false) (sym (eqb-true (production_at s a) p_external e)) refl
      by false true e g k = subst (λ (z : ℕ). nat_eq z p_parameter ≡ false) (sym (eqb-true (production_at s a) p_declaration g)) refl
      by false false e g k = cc

  stands : declaration_around s p ≡ Some q → p ≡ q
  stands around = by (is_a s p_rest p) (is_a s p_field p) refl refl around
    where
      by : (a b : Bool) → is_a s p_rest p ≡ a → is_a s p_field p ≡ b → (if a || b then parent_of s p else Some p) ≡ Some q → p ≡ q
      by true b rest field k = absurd (no_both (is_a s p_parameter q) is (two_no q (grows.nested.rests q p (parent_holds s grows q p k) rest)))
      by false true rest field k = absurd (no_both (is_a s p_field p) field (no_field s q (parts s q brought is) p (parent_holds s grows q p k)))
      by false false rest field k = some_one k

pub parameters_sized : ParametersSized
parameters_sized tokens unit tree tag_number name u cut is b leaf t declares parameter defined typed =
    by (declaration_of (numbered tag_number (source_of tokens tree)) (sense_in b.senses) leaf) refl parameter defined
  where
    by : (o : Option ℕ) → declaration_of (numbered tag_number (source_of tokens tree)) (sense_in b.senses) leaf ≡ o
        → (elim o as (λ _. Bool) [ None ↦ false | Some p ↦ is_a (numbered tag_number (source_of tokens tree)) p_parameter p ]) ≡ true
        → (elim (option_and_then (parent_of (numbered tag_number (source_of tokens tree))) o) as (λ _. Bool) [
          | None ↦ false
          | Some suffix ↦ is_defined_list (world_at (numbered tag_number (source_of tokens tree)) b.senses suffix) (numbered tag_number (source_of tokens tree)) (sense_in b.senses) suffix
        ]) ≡ true → IsSizedType u.types t
    by None e k l = cc
    by (Some q) e k l =
        let s : Source = numbered tag_number (source_of tokens tree) in
        let grows : IsGrown s = grown tokens unit tree tag_number cut is in
        let brought : IsBrought s = units_bring tokens unit tree tag_number is in
        let named = named_at (numbered tag_number (source_of tokens tree)) b.senses leaf declares in
        let a = and_then_some (option_and_then (parent_of s) (outermost_of s leaf)) (declaration_around s) q e in
        let c = and_then_some (outermost_of s leaf) (parent_of s) a.0 a.1 in
        let same : c.0 ≡ named.0 = some_one (sym c.1 ∙ named.2) in
        let at : a.0 ≡ q = stands s grows brought a.0 q k a.2 in
        let parent : parent_of s named.0 ≡ Some q = ap (parent_of s) (sym same) ∙ (c.2 ∙ ap (λ (x : ℕ). Some x) at) in
        above q (parent_of s q) refl l
        (λ suffix above list. parameter_sized s b.senses grows (placed tokens unit tree tag_number is) brought b.are_senses b.whole u b.knows leaf named.0 q t named.1 named.2 named.3 parent k suffix above list typed)
      where
        above : (q : ℕ) (o : Option ℕ) → parent_of (numbered tag_number (source_of tokens tree)) q ≡ o
            → (elim o as (λ _. Bool) [ None ↦ false | Some suffix ↦ is_defined_list (world_at (numbered tag_number (source_of tokens tree)) b.senses suffix) (numbered tag_number (source_of tokens tree)) (sense_in b.senses) suffix ]) ≡ true
            → ((suffix : ℕ) → parent_of (numbered tag_number (source_of tokens tree)) q ≡ Some suffix → is_defined_list (world_at (numbered tag_number (source_of tokens tree)) b.senses suffix) (numbered tag_number (source_of tokens tree)) (sense_in b.senses) suffix ≡ true
            → IsSizedType u.types t)
            → IsSizedType u.types t
        above q None e k later = cc
        above q (Some suffix) e k later = later suffix e k
