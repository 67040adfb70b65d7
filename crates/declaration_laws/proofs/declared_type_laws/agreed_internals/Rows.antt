-- What the rows of a declarator and of its initialiser ask of the type of an internal name.
use Rattle.std.proofs.Common.{arith, ◌≡◌, ◌<◌, ◌⊎◌, inl, inr, nat_eq, ℕ, Bool, true, false, ◌||◌, List, [], length, Option, Some, None, refl, sym, ap, ◌∙◌, subst}
use Rattle.std.specs.Prelude.{⊤, option_and_then, if◌then◌else◌}
use Rattle.std.proofs.lemmas.Bool.{eqb-true}
use Rattle.pta_base.specs.declared.kind.Kind.TheVariants.{Operand}
use Rattle.pta_base.specs.declared.place.Place.{Place}
use Rattle.c_types.specs.Trees.{Ctype}
use Rattle.c_grammar.specs.Productions.{p_external, p_rest, p_declaration, p_field, p_parameter, p_declarator, p_init}
use Rattle.c_consts.specs.Core.{Core}
use Rattle.c_inits.specs.Made.{shape_for}
use Rattle.c_inits.specs.View as view
use Rattle.c_inits.specs.Initial.{Outcome, Places, NoPlace, length_given, lasting}
use Rattle.c_senses.specs.Tree.{Source, production_at, children_at, is_a, parent_of}
use Rattle.c_senses.specs.Given.{Given, Fits, Refuses, ◌>>=◌, given_some}
use Rattle.c_senses.specs.World.{World}
use Rattle.c_senses.specs.Limits.{within_limits, lacks_a_length}
use Rattle.c_senses.specs.Places.{own_place}
use Rattle.c_senses.specs.Declarators.{is_outermost, specs_of, specified_at, base_type, derived, derivations, adjusted, name_in}
use Rattle.c_senses.specs.Entities.{with_length, length_seen, entity_of, is_static_object, specified, specified_of, derived_type, initialised_by, internal_agrees, parameter_named, named_row, by_place}
use Rattle.c_senses.specs.Initialised.{most_elements, seen, outcome_of, made_of, placed_cores, new_length, initialised_fits, object_initialiser, with_seen, initialised_as, initialised_object, init_in, name_of_declarator}
use Rattle.c_senses.specs.Sense.{Sense, Nothing, IsSpecified, IsDeclarator, IsInitial, Specified, Derivation, sense_in}
use Rattle.c_senses.specs.Rows.{AreSenses, declarator_row}
use Rattle.parsed_tree_laws.specs.sense_laws.Sound.{Gives}
use Rattle.parsed_tree_laws.proofs.sense_laws.Giving.{then_gives, if_given, and_left, and_right}
use Rattle.parsed_tree_laws.proofs.sense_laws.Types.{anything}
use Rattle.parsed_tree_laws.proofs.sense_laws.Seen.{initial_length, seen_is, seen_length}
use Rattle.core_node_laws.proofs.count_laws.passed.parsed_tree_laws.placed_laws.Climbing.{Grown}
use Rattle.declaration_laws.proofs.declared_type_laws.owner_laws.passed.definition_laws.linkage_laws.Seen.{parent_is}
use Rattle.declaration_laws.proofs.declared_type_laws.owner_laws.passed.definition_laws.function_definitions.Whole as whole_of
use Rattle.core_node_laws.proofs.built_unit_laws.run_laws.Times.{known_at, world_of, known, told_before, row_as, fitted}
use Rattle.core_node_laws.proofs.built_unit_laws.run_laws.Automatic.{specified_later}
use Rattle.declaration_laws.specs.declared_type_laws.declared_leaves.Leaves.{IsDeclaredBy}
use Rattle.declaration_laws.specs.declared_type_laws.owner_laws.passed.definition_laws.earlier_initialisers.Earlier.{StandsDeclaring}

some_one : {X : Type 0} → {x y : X} → ◌≡◌ {A = Option X} (Some x) (Some y) → x ≡ y
some_one h = cc

declarator_same : (x y : Option ℕ) (ds es : List Derivation) → IsDeclarator x ds ≡ IsDeclarator y es → (x ≡ y) × (ds ≡ es)
declarator_same x y ds es h = (cc, cc)

specified_there : (s : Source) (w : World) (f : ℕ → Sense) (o : Option ℕ) (z : Specified) → specified s f o ≡ Some z → specified_at w s f o ≡ Some z.type
specified_there s w f None z e = cc
specified_there s w f (Some i) z e = by (f i) e
  where
    by : (y : Sense) → (elim y as (λ _. Option Specified) [ IsSpecified x ↦ Some x | _ ↦ None ]) ≡ Some z → (elim y as (λ _. Option Ctype) [ IsSpecified x ↦ Some x.type | _ ↦ None ]) ≡ Some z.type
    by (IsSpecified x) h = ap (λ (u : Specified). Some u.type) (some_one h)
    by y h = cc

-- what an object's initialiser that fits says of its type
module _ (w : World) (s : Source) (f : ℕ → Sense) (i declarator leaf : ℕ) (t : Ctype) where
  abbrev IsAsked : Sense → Type 0
  IsAsked x = (c : Core) × (n : Option ℕ) × (x ≡ IsInitial c n) × (internal_agrees w s f (with_length n t) leaf ≡ true)

  -- with the length that was seen of its name
  abbrev N : Option ℕ
  N = length_seen s f leaf

  abbrev U : Ctype
  U = with_length N t

  -- a type that has a length gets no new one
  abbrev IsNew : Option ℕ → Type 0
  IsNew m = lacks_a_length U ≡ false → m ≡ None

  abbrev IsPlaced : Sense → Type 0
  IsPlaced x = (c : Core) × (m : Option ℕ) × (x ≡ IsInitial c m) × IsNew m × (internal_agrees w s f (with_length m U) leaf ≡ true)

  made_new : (static : Bool) (entity : ℕ) (place : Place) (o : Outcome) → Gives (λ m. IsNew m.length) (made_of w s f static entity place U o)
  made_new static entity place (NoPlace node) = tt
  made_new static entity place (Places actions) =
      then_gives (λ x. ⊤) (λ m. IsNew m.length) (placed_cores w s f static (with_length (new_length w s f U actions) U) (lasting [] actions)) _ (anything _) (λ values k e. ap (λ (lacks : Bool). if lacks then Some (length_given actions) else None) e)

  object_asks : Gives IsPlaced (object_initialiser w s f i declarator leaf U)
  object_asks =
      then_gives (λ o. ⊤) IsPlaced (outcome_of w s f i (shape_for w.fillable most_elements U) (view.init_at (seen w s f) s.nodes i)) _ (anything _)
      (λ o k.
      then_gives (λ m. IsNew m.length) IsPlaced (made_of w s f (is_static_object s f leaf) (entity_of s f leaf) (own_place s i) U o) _ (made_new (is_static_object s f leaf) (entity_of s f leaf) (own_place s i) o)
      (λ m new.
      if_given IsPlaced (initialised_fits w s f (with_length m.length U) leaf) Operand leaf (Fits (IsInitial m.initial m.length))
      (λ fit. (m.initial, m.length, refl, new, and_right (within_limits w (with_length m.length U)) (internal_agrees w s f (with_length m.length U) leaf) fit))))

  as_asks : Gives IsAsked (initialised_as w s f i declarator leaf t)
  as_asks =
      then_gives IsPlaced IsAsked (object_initialiser w s f i declarator leaf U) (λ x. Fits (with_seen N x)) object_asks
      (λ x h.
      let l : Option ℕ = initial_length (with_seen N (IsInitial h.0 h.1)) in
      (h.0, l, ap (with_seen N) h.2 ∙ seen_is N h.1 h.0, ap (λ (u : Ctype). internal_agrees w s f u leaf) (seen_length N h.1 t h.0 h.3) ∙ h.4))

module _ (s : Source) (tree : Grown s) (senses : List Sense) (are : AreSenses s senses) where
  abbrev G : ℕ → Sense
  G = sense_in senses

  abbrev F : ℕ → ℕ → Sense
  F n = known_at s senses n

  abbrev W : ℕ → World
  W n = world_of s senses n

  -- a declaration is neither a parameter nor a member's field
  plain : (a q : ℕ) → nat_eq p_rest q ≡ false → nat_eq p_external q ≡ false → nat_eq p_declaration q ≡ false → (is_a s p_rest a ≡ true) ⊎ ((is_a s p_external a || is_a s p_declaration a) ≡ true) → is_a s q a ≡ false
  plain a q x y z (inl rest) = ap (λ (p : ℕ). nat_eq p q) (eqb-true (production_at s a) p_rest rest) ∙ x
  plain a q x y z (inr two) = by (is_a s p_external a) (is_a s p_declaration a) refl refl two
    where
      by : (b c : Bool) → is_a s p_external a ≡ b → is_a s p_declaration a ≡ c → (b || c) ≡ true → is_a s q a ≡ false
      by true c e f h = ap (λ (p : ℕ). nat_eq p q) (eqb-true (production_at s a) p_external e) ∙ y
      by false true e f h = ap (λ (p : ℕ). nat_eq p q) (eqb-true (production_at s a) p_declaration f) ∙ z
      by false false e f h = cc

  module _ (m leaf : ℕ) (one : IsDeclaredBy s senses m leaf) where
    -- the type that its specifiers and its declarator give it
    abbrev T : Ctype
    T = derived one.derives one.words.type

    -- the row of its declarator
    pub declarator_asks : m < length senses → StandsDeclaring s m → is_outermost s m ≡ true → internal_agrees (W m) s (F m) (derived one.derives one.words.type) leaf ≡ true
    declarator_asks lt stands outer =
        let w : World = W m in
        let f : ℕ → Sense = F m in
        let x : Sense = sense_in senses m in
        let row : declarator_row w s f m (children_at s m) ≡ Fits x = row_as s senses are p_declarator m lt stands.1 in
        let parts = declarator_same (name_in w s f (children_at s m)) (Some leaf) (derivations w s f (children_at s m)) one.derives (whole_of.declarator_gives w s f m (children_at s m) x row ∙ one.is) in
        let asked = whole_of.declarator_asks w s f m leaf (children_at s m) x outer parts.0 row in
        let base : base_type w s f m ≡ Some one.words.type = specified_there s w f (specs_of s m) one.words (sym (ap (λ (o : Option ℕ). specified s f (option_and_then (specs_of s) o)) one.outermost) ∙ one.told) in
        let type : derived (derivations w s f (children_at s m)) asked.0 ≡ T = ap (λ (ds : List Derivation). derived ds asked.0) parts.1 ∙ ap (derived one.derives) (some_one (sym asked.1 ∙ base)) in
        let t : Ctype = derived (derivations w s f (children_at s m)) asked.0 in
        let g : Given Sense = Fits (IsDeclarator (Some leaf) (derivations w s f (children_at s m))) in
        let named = whole_of.named_then w s f m leaf t g x (placed w f t (adjusted t) g x asked.2) in
        subst (λ (u : Ctype). internal_agrees w s f u leaf ≡ true) type (and_left (internal_agrees w s f t leaf) _ named.1)
      where
        placed : (w : World) (f : ℕ → Sense) (t u : Ctype) (g : Given Sense) (x : Sense) → by_place w s f m leaf t u g ≡ Fits x → named_row w s f m leaf t g ≡ Fits x
        placed w f t u g x e =
            pick (is_a s p_field stands.0) (is_a s p_parameter stands.0) (plain stands.0 p_field refl refl refl stands.3) (plain stands.0 p_parameter refl refl refl stands.3)
            (subst (λ (o : Option ℕ). (elim o as (λ _. Given Sense) [ None ↦ g | Some p ↦ if is_a s p_field p then g else (if is_a s p_parameter p then parameter_named w s f m leaf u g else named_row w s f m leaf t g) ]) ≡ Fits x) (parent_is s tree stands.0 m stands.2) e)
          where
            pick : (a b : Bool) → a ≡ false → b ≡ false → (if a then g else (if b then parameter_named w s f m leaf u g else named_row w s f m leaf t g)) ≡ Fits x → named_row w s f m leaf t g ≡ Fits x
            pick true b e h k = cc
            pick false true e h k = cc
            pick false false e h k = k

    pub record Initial (i : ℕ) : Type 0 where
      pub before : m < i
      pub core : Core
      pub length_is : Option ℕ
      pub is : sense_in senses i ≡ IsInitial core length_is
      pub asked : internal_agrees (W i) s (F i) (with_length length_is (derived one.derives one.words.type)) leaf ≡ true

    name_found : (w : World) (f : ℕ → Sense) (x : Sense) (l : ℕ) → name_of_declarator w s f x ≡ Some l → (ds : List Derivation) × (x ≡ IsDeclarator (Some l) ds)
    name_found w f (IsDeclarator name ds) l e = (ds, ap (λ (o : Option ℕ). IsDeclarator o ds) e)
    name_found w f x l e = cc

    -- the row of its initialiser
    pub initialiser_asks : (i p : ℕ) → i < length senses → is_a s p_init i ≡ true → parent_of s i ≡ Some p → is_a s p_rest p ≡ true → initialised_by s (F i) i ≡ Some m → Initial i
    initialiser_asks i p lt is parent rest by_it = by (name_of_declarator (W i) s (F i) (F i m)) refl there
      where
        there : initialised_object (W i) s (F i) i m (name_of_declarator (W i) s (F i) (F i m)) ≡ Fits (sense_in senses i)
        there =
            let init : Given Sense = init_in (W i) s (F i) i (initialised_by s (F i) i) in
            sym (ap (λ (o : Option ℕ). elim o as (λ _. Given Sense) [ None ↦ Fits Nothing | Some q ↦ if is_a s p_rest q then init else Fits Nothing ]) parent
            ∙ (ap (λ (b : Bool). if b then init else Fits Nothing) rest ∙ ap (init_in (W i) s (F i) i) by_it))
            ∙ row_as s senses are p_init i lt is

        of_name : (l : ℕ) → name_of_declarator (W i) s (F i) (F i m) ≡ Some l → initialised_object (W i) s (F i) i m (Some l) ≡ Fits (sense_in senses i) → Initial i
        of_name l name e =
            let found = name_found (W i) (F i) (F i m) l name in
            let before : m < i = told_before s senses i m (IsDeclarator (Some l) found.0) found.1 (λ no. cc) in
            let same_leaf : l ≡ leaf = some_one (declarator_same (Some l) (Some leaf) found.0 one.derives (sym found.1 ∙ (known s senses i m before ∙ one.is))).0 in
            let told : specified_of s (F i) leaf ≡ Some one.words = specified_later s senses m i leaf one.words one.told (omega (arith, before)) in
            let type : derived_type s (F i) (specified_of s (F i) leaf) (Some m) ≡ Some T =
            ap (λ (o : Option Specified). derived_type s (F i) o (Some m)) told ∙ ap (λ (y : Sense). elim y as (λ _. Option Ctype) [ IsDeclarator n ds ↦ Some (derived ds one.words.type) | _ ↦ None ]) (known s senses i m before ∙ one.is) in
            let row : initialised_as (W i) s (F i) i m leaf T ≡ Fits (sense_in senses i) =
            sym (ap (λ (k : ℕ). initialised_object (W i) s (F i) i m (Some k)) same_leaf ∙ ap (λ (o : Option Ctype). given_some o Operand i >>= initialised_as (W i) s (F i) i m leaf) type) ∙ e in
            let asks = fitted (IsAsked (W i) s (F i) i m leaf T) (initialised_as (W i) s (F i) i m leaf T) (sense_in senses i) row (as_asks (W i) s (F i) i m leaf T) in
            record { before = before; core = asks.0; length_is = asks.1; is = asks.2; asked = asks.3 }

        by : (o : Option ℕ) → name_of_declarator (W i) s (F i) (F i m) ≡ o → initialised_object (W i) s (F i) i m (name_of_declarator (W i) s (F i) (F i m)) ≡ Fits (sense_in senses i) → Initial i
        by None name e = absurd (let no : Refuses Operand i ≡ Fits (sense_in senses i) = sym (ap (initialised_object (W i) s (F i) i m) name) ∙ e in cc)
        by (Some l) name e = of_name l name (sym (ap (initialised_object (W i) s (F i) i m) name) ∙ e)
