-- The type of an initialised object is that of its entity.
use Rattle.std.proofs.Common.{arith, ◌≡◌, ◌==◌, ◌<◌, ◌⊎◌, inl, inr, ℕ, Bool, true, false, ◌&&◌, ◌||◌, not, List, [], ◌∷◌, length, Option, Some, None, refl, sym, ap, ◌∙◌, subst}
use Rattle.std.specs.Prelude.{⊤, nat_lt, option_map, option_and_then, if◌then◌else◌}
use Rattle.std.proofs.lemmas.Bool.{eqb-true}
use Rattle.pta_base.specs.declared.kind.Kind.TheVariants.{Operand}
use Rattle.pta_base.specs.declared.place.Place.{Place}
use Rattle.c_types.specs.Trees.{Ctype, ArrayOf}
use Rattle.core_tree.specs.declared.node.Linkage.TheVariants.{External, Internal, Local}
use Rattle.c_grammar.specs.Productions.{p_external, p_rest, p_declaration, p_field, p_parameter, p_declarator, p_abstract, p_either, p_init}
use Rattle.c_grammar.specs.Terminals.{contains}
use Rattle.c_grammar.specs.Words.{word_extern, word_static}
use Rattle.c_consts.specs.Core.{Core}
use Rattle.c_scope.specs.declared.kinds.Declared.{Declared}
use Rattle.c_inits.specs.Made.{shape_for}
use Rattle.c_inits.specs.Initial.{Outcome, Places, NoPlace, Action, lasting, length_given}
use Rattle.c_inits.specs.View as view
use Rattle.c_senses.specs.Tree.{Source, production_at, children_at, is_a, is_name, last_where, child_of, parent_of}
use Rattle.c_senses.specs.Given.{Given, Fits, ◌>>=◌, given_some}
use Rattle.c_senses.specs.World.{World}
use Rattle.c_senses.specs.Limits.{lacks_a_length}
use Rattle.c_senses.specs.Names.{ordinary_at, linked_before}
use Rattle.c_senses.specs.Declarators.{is_declarator, is_outermost, outermost_of, declaration_around, specs_of}
use Rattle.c_senses.specs.Entities.{with_length, length_seen, entity_of, first_of, internal_among, specified_of, derived_type, parameter_type, declaration_of, is_parameter, own_type, length_given_by, initialised_by, initialiser_for, is_internal, is_linked, is_at_file, has_storage, declares_function, is_without_storage, is_static_at_file, some_such, is_static_object}
use Rattle.c_senses.specs.Initialised.{new_length, most_elements, seen, outcome_of, name_of_declarator, made_of, placed_cores, object_initialiser, with_seen, initialised_as, initialised_object, init_in, initialised_fits}
use Rattle.c_senses.specs.Places.{own_place}
use Rattle.c_senses.specs.Sense.{Sense, Nothing, IsDeclarator, IsInitial, Derivation, Specified, sense_in}
use Rattle.c_senses.specs.Rows.{AreSenses}
use Rattle.c_senses.specs.Right as right
use Rattle.parsed_tree_laws.specs.sense_laws.Sound.{Gives}
use Rattle.parsed_tree_laws.proofs.sense_laws.Giving.{then_gives, if_given, and_left}
use Rattle.parsed_tree_laws.proofs.sense_laws.Types.{anything}
use Rattle.parsed_tree_laws.proofs.sense_laws.Seen.{seen_whole}
use Rattle.core_node_laws.proofs.count_laws.passed.parsed_tree_laws.placed_laws.Climbing.{Grown}
use Rattle.core_node_laws.specs.built_unit_laws.passed.core_node_laws.standing_laws.Standing.{IsGrown}
use Rattle.core_node_laws.proofs.built_unit_laws.passed.core_node_laws.standing_laws.Climbing.{in_list, found_where, parent_is, parent_holds}
use Rattle.core_node_laws.specs.count_laws.passed.parsed_tree_laws.grown_parts.Parts.{IsBrought}
use Rattle.declaration_laws.proofs.declared_type_laws.declared_leaves.PassedOn.{known_at, world_of, told_before, row_as, fitted}
use Rattle.declaration_laws.proofs.declared_type_laws.declared_leaves.PassedOn.{first_in, last_found}
use Rattle.declaration_laws.specs.declared_type_laws.plain_names.PassedOn.{types_declared, literal_type}
use Rattle.declaration_laws.proofs.declared_type_laws.plain_names.Later.{Later, known_later, told, derived_later}
use Rattle.declaration_laws.specs.declared_type_laws.declared_leaves.Leaves.{IsNamed, Own, Inner, IsDeclaredBy}
use Rattle.declaration_laws.proofs.declared_type_laws.declared_leaves.Climbing.{leaves_declared}
use Rattle.declaration_laws.specs.declared_type_laws.object_types.Objects.{ObjectsTyped}

some_one : {X : Type 0} → {x y : X} → ◌≡◌ {A = Option X} (Some x) (Some y) → x ≡ y
some_one h = cc

pub is_named : (s : Source) (m leaf : ℕ) → IsNamed s m leaf → is_name s leaf ≡ true
is_named s m leaf (Own k named) = named
is_named s m leaf (Inner c k inner more) = is_named s c leaf more

-- what is internal by what is known stays so
module _ (s : Source) (f g : ℕ → Sense) (later : Later f g) where
  storage_later : (word leaf : ℕ) → has_storage s f word leaf ≡ true → has_storage s g word leaf ≡ true
  storage_later word leaf h = by (specified_of s f leaf) refl h
    where
      by : (o : Option Specified) → specified_of s f leaf ≡ o → (elim o as (λ _. Bool) [ None ↦ false | Some x ↦ contains x.storage word ]) ≡ true → has_storage s g word leaf ≡ true
      by None e k = cc
      by (Some z) e k = ap (λ (o : Option Specified). elim o as (λ _. Bool) [ None ↦ false | Some x ↦ contains x.storage word ]) (told s f g later (option_and_then (specs_of s) (outermost_of s leaf)) z e) ∙ k

  static_later : (leaf : ℕ) → is_static_at_file s f leaf ≡ true → is_static_at_file s g leaf ≡ true
  static_later leaf h = by (is_at_file s f leaf) h
    where
      by : (b : Bool) → (b && has_storage s f word_static leaf) ≡ true → (b && has_storage s g word_static leaf) ≡ true
      by true k = storage_later word_static leaf k
      by false k = cc

  such_later : (ds : List Declared) → some_such s f (λ d. is_static_at_file s f d.node) ds ≡ true → some_such s g (λ d. is_static_at_file s g d.node) ds ≡ true
  such_later [] h = cc
  such_later (d ∷ ds) h = by (is_static_at_file s f d.node) refl h (such_later ds)
    where
      or_right : (b : Bool) → some_such s g (λ e. is_static_at_file s g e.node) ds ≡ true → (b || some_such s g (λ e. is_static_at_file s g e.node) ds) ≡ true
      or_right true k = refl
      or_right false k = k

      by : (b : Bool) → is_static_at_file s f d.node ≡ b → (b || some_such s f (λ e. is_static_at_file s f e.node) ds) ≡ true
          → (some_such s f (λ e. is_static_at_file s f e.node) ds ≡ true → some_such s g (λ e. is_static_at_file s g e.node) ds ≡ true)
          → (is_static_at_file s g d.node || some_such s g (λ e. is_static_at_file s g e.node) ds) ≡ true
      by true e k more = ap (λ (b : Bool). b || some_such s g (λ x. is_static_at_file s g x.node) ds) (static_later d.node e)
      by false e k more = or_right (is_static_at_file s g d.node) (more k)

  flags : (linked static static' extern extern' function without without' such such' : Bool) → (static ≡ true → static' ≡ true) → extern ≡ extern' → without ≡ without' → (such ≡ true → such' ≡ true)
      → (linked && (static' || ((extern' || (function && without')) && such'))) ≡ false → (linked && (static || ((extern || (function && without)) && such))) ≡ false
  flags false st st' x x' fn wo wo' su su' a b c d h = refl
  flags true false st' x x' fn wo wo' false su' a b c d h = and_no (x || (fn && wo))
    where
      and_no : (y : Bool) → (y && false) ≡ false
      and_no true = refl
      and_no false = refl
  flags true false st' false x' false wo wo' true su' a b c d h = refl
  flags true false st' false x' true false wo' true su' a b c d h = refl
  flags true false true x x' fn wo wo' true su' a b c d h = cc
  flags true false false false x' true true wo' true su' a b c d h = let e : false ≡ x' = b in let k : true ≡ wo' = c in let l : su' ≡ true = d refl in cc
  flags true false false true x' fn wo wo' true su' a b c d h = let e : true ≡ x' = b in let l : su' ≡ true = d refl in cc
  flags true true st' x x' fn wo wo' su su' a b c d h = let e : st' ≡ true = a refl in cc

  -- where specifiers are known, what isn't internal later isn't yet
  pub not_yet : (leaf : ℕ) (z : Specified) → specified_of s f leaf ≡ Some z → is_internal s g leaf ≡ false → is_internal s f leaf ≡ false
  not_yet leaf z e h =
      let same : specified_of s f leaf ≡ specified_of s g leaf = e ∙ sym (told s f g later (option_and_then (specs_of s) (outermost_of s leaf)) z e) in
      flags (is_linked s f leaf) (is_static_at_file s f leaf) (is_static_at_file s g leaf) (has_storage s f word_extern leaf) (has_storage s g word_extern leaf) (declares_function s f leaf) (is_without_storage s f leaf) (is_without_storage s g leaf)
      (some_such s f (λ d. is_static_at_file s f d.node) (linked_before s (ordinary_at s leaf))) (some_such s g (λ d. is_static_at_file s g d.node) (linked_before s (ordinary_at s leaf))) (static_later leaf)
      (ap (λ (o : Option Specified). elim o as (λ _. Bool) [ None ↦ false | Some x ↦ contains x.storage word_extern ]) same)
      (ap (λ (o : Option Specified). elim o as (λ _. Bool) [ None ↦ true | Some x ↦ elim x.storage as (λ _. Bool) [ [] ↦ true | word ∷ rest ↦ false ] ]) same) (such_later (linked_before s (ordinary_at s leaf))) h

-- the sense of an initialiser has the length that it gives
module _ (w : World) (s : Source) (f : ℕ → Sense) (i declarator leaf : ℕ) (t : Ctype) (actions : List Action) (placed : outcome_of w s f i (shape_for w.fillable most_elements t) (view.init_at (seen w s f) s.nodes i) ≡ Fits (Places actions)) where
  abbrev HasLength : Sense → Type 0
  HasLength x = (c : Core) × (x ≡ IsInitial c (new_length w s f t actions))

  made_length : (static : Bool) (entity : ℕ) (place : Place) (o : Outcome) → o ≡ Places actions → Gives (λ m. m.length ≡ new_length w s f t actions) (made_of w s f static entity place t o)
  made_length static entity place (NoPlace node) e = tt
  made_length static entity place (Places others) e =
      let same : others ≡ actions = cc in
      then_gives (λ x. ⊤) (λ m. m.length ≡ new_length w s f t actions) (placed_cores w s f static (with_length (new_length w s f t others) t) (lasting [] others)) _ (anything _) (λ values k. ap (new_length w s f t) same)

  object_length : Gives HasLength (object_initialiser w s f i declarator leaf t)
  object_length =
      then_gives (λ o. o ≡ Places actions) HasLength (outcome_of w s f i (shape_for w.fillable most_elements t) (view.init_at (seen w s f) s.nodes i)) _ (subst (Gives (λ o. o ≡ Places actions)) (sym placed) refl)
      (λ o is.
      then_gives (λ m. m.length ≡ new_length w s f t actions) HasLength (made_of w s f (is_static_object s f leaf) (entity_of s f leaf) (own_place s i) t o) _ (made_length (is_static_object s f leaf) (entity_of s f leaf) (own_place s i) o is)
      (λ m h. if_given HasLength (initialised_fits w s f (with_length m.length t) leaf) Operand leaf (Fits (IsInitial m.initial m.length)) (λ small. (m.initial, ap (IsInitial m.initial) h))))

module _ (s : Source) (senses : List Sense) (are : AreSenses s senses) (grown : IsGrown s) (tree : Grown s) (brought : IsBrought s) where
  abbrev G : ℕ → Sense
  G = sense_in senses

  abbrev F : ℕ → ℕ → Sense
  F n = known_at s senses n

  -- where the declarator of an initialiser stands
  record Stands (declarator : ℕ) : Type 0 where
    above : ℕ
    is : is_a s p_declarator declarator ≡ true
    inside : contains (children_at s above) declarator ≡ true
    in_rest : (is_a s p_rest above ≡ true) ⊎ ((is_a s p_external above || is_a s p_declaration above) ≡ true)

  stands : (i p d : ℕ) (f : ℕ → Sense) → parent_of s i ≡ Some p → is_a s p_rest p ≡ true → initialised_by s f i ≡ Some d → Stands d
  stands i p d f parent rest by_it = by (last_where (λ j. is_a s p_declarator j && nat_lt j i) (children_at s p)) refl there
    where
      there : (elim (last_where (λ j. is_a s p_declarator j && nat_lt j i) (children_at s p)) as (λ _. Option ℕ) [ Some j ↦ Some j | None ↦ option_and_then (child_of s p_declarator) (parent_of s p) ]) ≡ Some d
      there =
          sym (ap (λ (o : Option ℕ). elim o as (λ _. Option ℕ) [
            | None ↦ None
            | Some q ↦ elim (last_where (λ j. is_a s p_declarator j && nat_lt j i) (children_at s q)) as (λ _. Option ℕ) [ Some j ↦ Some j | None ↦ option_and_then (child_of s p_declarator) (parent_of s q) ]
          ]) parent) ∙ by_it

      up : (o : Option ℕ) → parent_of s p ≡ o → option_and_then (child_of s p_declarator) o ≡ Some d → Stands d
      up None e g = cc
      up (Some a) e g = record {
        above = a;
        is = found_where (is_a s p_declarator) (children_at s a) d g;
        inside = first_in (is_a s p_declarator) (children_at s a) d g;
        in_rest = inr (grown.nested.rests a p (parent_holds s grown a p e) rest);
      }

      by : (o : Option ℕ) → last_where (λ j. is_a s p_declarator j && nat_lt j i) (children_at s p) ≡ o → (elim o as (λ _. Option ℕ) [ Some j ↦ Some j | None ↦ option_and_then (child_of s p_declarator) (parent_of s p) ]) ≡ Some d → Stands d
      by (Some j) last g =
          let at = last_found (λ k. is_a s p_declarator k && nat_lt k i) (children_at s p) d (last ∙ g) in
          record { above = p; is = and_left (is_a s p_declarator d) (nat_lt d i) at.1; inside = at.0; in_rest = inl rest }
      by None last g = up (parent_of s p) refl g

  parent_at : (p c : ℕ) → contains (children_at s p) c ≡ true → parent_of s c ≡ Some p
  parent_at p c h = parent_is s grown p c (in_list (children_at s p) c h)

  -- it is outermost, and its name is no parameter's
  no_form : (q : ℕ) → (q == p_rest) ≡ true ⊎ ((q == p_external || q == p_declaration) ≡ true) → ((q == p_declarator || q == p_abstract) || q == p_either) ≡ false
  no_form q h = elim h [
    | inl e ↦ subst (λ (x : ℕ). ((x == p_declarator || x == p_abstract) || x == p_either) ≡ false) (sym (eqb-true q p_rest e)) refl
    | inr e ↦ two (q == p_external) (q == p_declaration) refl refl e
  ]
    where
      two : (a b : Bool) → (q == p_external) ≡ a → (q == p_declaration) ≡ b → (a || b) ≡ true → ((q == p_declarator || q == p_abstract) || q == p_either) ≡ false
      two true b e f k = subst (λ (x : ℕ). ((x == p_declarator || x == p_abstract) || x == p_either) ≡ false) (sym (eqb-true q p_external e)) refl
      two false true e f k = subst (λ (x : ℕ). ((x == p_declarator || x == p_abstract) || x == p_either) ≡ false) (sym (eqb-true q p_declaration f)) refl
      two false false e f k = cc

  outermost : (d : ℕ) → Stands d → is_outermost s d ≡ true
  outermost d at =
      ap (λ (b : Bool). ((b || is_a s p_abstract d) || is_a s p_either d) && (elim (parent_of s d) as (λ _. Bool) [ None ↦ true | Some q ↦ not (is_declarator s q) ])) at.is
      ∙ (ap (λ (o : Option ℕ). elim o as (λ _. Bool) [ None ↦ true | Some q ↦ not (is_declarator s q) ]) (parent_at at.above d at.inside) ∙ ap not (no_form (production_at s at.above) at.in_rest))

  two_no : (a : ℕ) → (is_a s p_external a || is_a s p_declaration a) ≡ true → is_a s p_parameter a ≡ false
  two_no a h = by (is_a s p_external a) (is_a s p_declaration a) refl refl h
    where
      by : (x y : Bool) → is_a s p_external a ≡ x → is_a s p_declaration a ≡ y → (x || y) ≡ true → is_a s p_parameter a ≡ false
      by true y e f k = subst (λ (q : ℕ). (q == p_parameter) ≡ false) (sym (eqb-true (production_at s a) p_external e)) refl
      by false true e f k = subst (λ (q : ℕ). (q == p_parameter) ≡ false) (sym (eqb-true (production_at s a) p_declaration f)) refl
      by false false e f k = cc

  two_plain : (a : ℕ) → (is_a s p_external a || is_a s p_declaration a) ≡ true → (is_a s p_rest a || is_a s p_field a) ≡ false
  two_plain a h = by (is_a s p_external a) (is_a s p_declaration a) refl refl h
    where
      by : (x y : Bool) → is_a s p_external a ≡ x → is_a s p_declaration a ≡ y → (x || y) ≡ true → (is_a s p_rest a || is_a s p_field a) ≡ false
      by true y e f k = subst (λ (q : ℕ). (q == p_rest || q == p_field) ≡ false) (sym (eqb-true (production_at s a) p_external e)) refl
      by false true e f k = subst (λ (q : ℕ). (q == p_rest || q == p_field) ≡ false) (sym (eqb-true (production_at s a) p_declaration f)) refl
      by false false e f k = cc

  abbrev is_one : Option ℕ → Bool
  is_one o = elim o as (λ _. Bool) [ None ↦ false | Some q ↦ is_a s p_parameter q ]

  pub around : (a : ℕ) → (is_a s p_rest a ≡ true) ⊎ ((is_a s p_external a || is_a s p_declaration a) ≡ true) → is_one (declaration_around s a) ≡ false
  around a (inl rest) = ap (λ (b : Bool). is_one (if b || is_a s p_field a then parent_of s a else Some a)) rest ∙ by (parent_of s a) refl
    where
      by : (o : Option ℕ) → parent_of s a ≡ o → is_one o ≡ false
      by None e = refl
      by (Some q) e = two_no q (grown.nested.rests q a (parent_holds s grown q a e) rest)
  around a (inr two) = ap (λ (b : Bool). is_one (if b then parent_of s a else Some a)) (two_plain a two) ∙ two_no a two

  no_parameter : (d leaf : ℕ) → Stands d → outermost_of s leaf ≡ Some d → is_parameter s G leaf ≡ false
  no_parameter d leaf at up =
      ap (λ (o : Option ℕ). is_one (option_and_then (declaration_around s) (option_and_then (parent_of s) o))) up
      ∙ (ap (λ (o : Option ℕ). is_one (option_and_then (declaration_around s) o)) (parent_at at.above d at.inside) ∙ around at.above at.in_rest)

  pub linkage_plain : (leaf : ℕ) → is_internal s G leaf ≡ false → is_name s leaf ≡ true → types_declared s senses leaf ≡ own_type s G leaf
  linkage_plain leaf h named =
      ap (λ (b : Bool). if b then right.entity_type s senses leaf else literal_type s senses leaf) named
      ∙ (ap (λ (b : Bool). elim (if b then Internal else (if is_linked s G leaf then External else Local)) as (λ _. Option Ctype) [ Internal ↦ right.internal_type s senses leaf | _ ↦ own_type s G leaf ]) h ∙ either (is_linked s G leaf))
    where
      either : (b : Bool) → (elim (if b then External else Local) as (λ _. Option Ctype) [ Internal ↦ right.internal_type s senses leaf | _ ↦ own_type s G leaf ]) ≡ own_type s G leaf
      either true = refl
      either false = refl

  -- no length changes a type that has one, or none to have
  kept : (t : Ctype) (n : Option ℕ) → lacks_a_length t ≡ false → with_length n t ≡ t
  kept (ArrayOf of None) n h = cc
  kept t None h = refl
  kept t (Some n) h = refl

  closed : (w : World) (f : ℕ → Sense) (t : Ctype) (n k : Option ℕ) (actions : List Action) → lacks_a_length t ≡ false → with_length n t ≡ with_length (new_length w s f (with_length k t) actions) (with_length k t)
  closed w f t n k actions h =
      let same : with_length k t ≡ t = kept t k h in
      let none : new_length w s f t actions ≡ None = ap (λ (lacks : Bool). if lacks then Some (length_given actions) else None) h in
      kept t n h ∙ sym (ap (λ (u : Ctype). with_length (new_length w s f u actions) u) same ∙ ap (λ (m : Option ℕ). with_length m t) none)

  name_found : (w : World) (f : ℕ → Sense) (x : Sense) (leaf : ℕ) → name_of_declarator w s f x ≡ Some leaf → (ds : List Derivation) × (x ≡ IsDeclarator (Some leaf) ds)
  name_found w f (IsDeclarator name ds) leaf e = (ds, ap (λ (o : Option ℕ). IsDeclarator o ds) e)
  name_found w f x leaf e = cc

  module _ (i : ℕ) (lt : i < length senses) (p d leaf : ℕ) (t : Ctype) (actions : List Action) (is : is_a s p_init i ≡ true) (parent : parent_of s i ≡ Some p) (rest : is_a s p_rest p ≡ true) (by_it : initialised_by s (F i) i ≡ Some d) where
    module _ (name : name_of_declarator (world_of s senses i) s (F i) (F i d) ≡ Some leaf) (type : derived_type s (F i) (specified_of s (F i) leaf) (Some d) ≡ Some t)
        (placed : outcome_of (world_of s senses i) s (F i) i (shape_for (world_of s senses i).fillable most_elements (with_length (length_seen s (F i) leaf) t)) (view.init_at (seen (world_of s senses i) s (F i)) s.nodes i) ≡ Fits (Places actions)) where
      -- the type with the length that was seen of the name
      abbrev U : Ctype
      U = with_length (length_seen s (F i) leaf) t

      abbrev RowIs : Sense → Type 0
      RowIs x = (c : Core) × (x ≡ with_seen (length_seen s (F i) leaf) (IsInitial c (new_length (world_of s senses i) s (F i) U actions)))

      row_length : RowIs (sense_in senses i)
      row_length =
          let w : World = world_of s senses i in
          let f : ℕ → Sense = F i in
          let init : Given Sense = init_in w s f i (initialised_by s f i) in
          let step : (elim (parent_of s i) as (λ _. Given Sense) [ None ↦ Fits Nothing | Some q ↦ if is_a s p_rest q then init else Fits Nothing ]) ≡ initialised_as w s f i d leaf t =
          ap (λ (o : Option ℕ). elim o as (λ _. Given Sense) [ None ↦ Fits Nothing | Some q ↦ if is_a s p_rest q then init else Fits Nothing ]) parent
          ∙ (ap (λ (b : Bool). if b then init else Fits Nothing) rest
          ∙ (ap (init_in w s f i) by_it
          ∙ (ap (initialised_object w s f i d) name ∙ ap (λ (o : Option Ctype). given_some o Operand i >>= initialised_as w s f i d leaf) type))) in
          let n : Option ℕ = length_seen s f leaf in
          fitted RowIs (initialised_as w s f i d leaf t) (sense_in senses i) (sym step ∙ row_as s senses are p_init i lt is)
          (then_gives (HasLength w s f i d leaf U actions placed) RowIs (object_initialiser w s f i d leaf U) (λ x. Fits (with_seen n x)) (object_length w s f i d leaf U actions placed) (λ x h. (h.0, ap (with_seen n) h.1)))

      typed_object : is_internal s G leaf ≡ false → (lacks_a_length t ≡ false) ⊎ (initialiser_for s G leaf ≡ Some i)
          → types_declared s senses (entity_of s (F i) leaf) ≡ Some (with_length (new_length (world_of s senses i) s (F i) U actions) U)
      typed_object plain sized =
          let w : World = world_of s senses i in
          let f : ℕ → Sense = F i in
          let later : Later f G = known_later s senses i in
          let found = name_found w f (f d) leaf name in
          let before : d < i = told_before s senses i d (IsDeclarator (Some leaf) found.0) found.1 (λ no. cc) in
          let sense : G d ≡ IsDeclarator (Some leaf) found.0 = later d (IsDeclarator (Some leaf) found.0) found.1 (λ no. cc) in
          let at : Stands d = stands i p d f parent rest by_it in
          let by_sense : IsDeclaredBy s senses d leaf = leaves_declared.by_sense s senses are tree brought d leaf found.0 (omega (arith, before, lt)) (outermost d at) sense in
          let named : is_name s leaf ≡ true = is_named s d leaf by_sense.named in
          let known_words = words_of (specified_of s f leaf) refl type in
          let entity : entity_of s f leaf ≡ leaf = ap (λ (b : Bool). if b then first_of s f leaf (internal_among s f s.declared.ordinary (ordinary_at s leaf)) else leaf) (not_yet s f G later leaf known_words.0 known_words.1 plain) in
          let derived_at : derived_type s G (specified_of s G leaf) (outermost_of s leaf) ≡ Some t = ap (derived_type s G (specified_of s G leaf)) by_sense.outermost ∙ derived_later s f G later leaf (Some d) t type in
          let own : own_type s G leaf ≡ Some (with_length (length_given_by s G (initialiser_for s G leaf)) t) =
          ap (λ (b : Bool). if b then parameter_type s G (declaration_of s G leaf) else option_map (with_length (length_given_by s G (initialiser_for s G leaf))) (derived_type s G (specified_of s G leaf) (outermost_of s leaf))) (no_parameter d leaf at by_sense.outermost)
          ∙ ap (option_map (with_length (length_given_by s G (initialiser_for s G leaf)))) derived_at in
          let same : with_length (length_given_by s G (initialiser_for s G leaf)) t ≡ with_length (new_length w s f U actions) U = elim sized [
            | inl has ↦ closed w f t (length_given_by s G (initialiser_for s G leaf)) (length_seen s f leaf) actions has
            | inr own_init ↦ ap (λ (n : Option ℕ). with_length n t) (ap (length_given_by s G) own_init ∙ ap (λ (x : Sense). elim x as (λ _. Option ℕ) [ IsInitial c n ↦ n | _ ↦ None ]) row_length.1)
                ∙ seen_whole w s f (length_seen s f leaf) t actions row_length.0
          ] in
          ap (types_declared s senses) entity ∙ (linkage_plain leaf plain named ∙ (own ∙ ap Some same))
        where
          words_of : (o : Option Specified) → specified_of s (F i) leaf ≡ o → derived_type s (F i) o (Some d) ≡ Some t → (z : Specified) × (specified_of s (F i) leaf ≡ Some z)
          words_of None e h = cc
          words_of (Some z) e h = (z, e)

pub objects_typed : ObjectsTyped
objects_typed s senses are grown tree brought i lt p d leaf t actions is parent rest by_it name type placed plain sized =
    typed_object s senses are grown tree brought i lt p d leaf t actions is parent rest by_it name type placed plain sized
