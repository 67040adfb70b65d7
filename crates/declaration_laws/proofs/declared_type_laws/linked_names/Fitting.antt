-- An external name has a type that agrees with its entity's.
use Rattle.std.proofs.Common.{arith, ◌≡◌, ◌==◌, ◌<◌, ◌⊎◌, inl, inr, ℕ, zero, suc, Bool, true, false, ◌&&◌, ◌||◌, not, List, [], ◌∷◌, ◌++◌, length, Option, Some, None, slice_get, refl, sym, ap, ◌∙◌, subst}
use Rattle.std.specs.Prelude.{is_some, option_map, option_and_then, if◌then◌else◌}
use Rattle.c_types.specs.Trees.{Ctype, ArrayOf}
use Rattle.core_tree.specs.Rows.{Agree}
use Rattle.c_grammar.specs.Productions.{p_external, p_rest, p_declaration, p_parameter, p_declarator, p_abstract, p_either, p_enumerator, p_primary}
use Rattle.c_grammar.specs.Terminals.{contains}
use Rattle.c_scope.specs.declared.kinds.Declared.{Declared}
use Rattle.c_senses.specs.Tree.{Source, production_at, children_at, is_a, is_name, parent_of, paired}
use Rattle.c_senses.specs.Names.{has_linkage, ordinary_at, typing_declarations, linked_before}
use Rattle.c_senses.specs.World.{Meaning}
use Rattle.c_senses.specs.Limits.{lacks_a_length}
use Rattle.c_senses.specs.Declarators.{is_declarator, is_outermost, outermost_of, declaration_around, derived}
use Rattle.c_senses.specs.Entities.{with_length, is_linked, is_internal, is_open, has_earlier_length, last_of, named_by, entity_of, first_of, internal_among, initialiser_for, length_given_by, is_parameter, parameter_type, declaration_of, specified_of, derived_type, own_type, types_of, all_together, type_behind, meaning_of, enumerated, declared_meaning}
use Rattle.c_senses.specs.Sense.{Sense, IsDeclarator, Specified, sense_in}
use Rattle.c_senses.specs.Rows.{AreSenses}
use Rattle.parsed_tree_laws.specs.sense_laws.Sound.{AgreesWith, MeaningFits}
use Rattle.core_node_laws.proofs.count_laws.passed.parsed_tree_laws.placed_laws.Climbing.{Grown}
use Rattle.core_node_laws.specs.built_unit_laws.run_laws.PassedOn.{IsGrown}
use Rattle.core_node_laws.proofs.built_unit_laws.run_laws.PassedOn.{in_list, parent_is}
use Rattle.core_node_laws.specs.count_laws.passed.parsed_tree_laws.grown_parts.Parts.{IsBrought}
use Rattle.core_node_laws.proofs.built_unit_laws.run_laws.Times.{known_at, known}
use Rattle.core_node_laws.proofs.built_unit_laws.run_laws.Automatic.{specified_later}
use Rattle.declaration_laws.specs.name_order.Order.{declaring, linking, IsNameOf, Declares, Enumerates, Names, Links, IsOrdered}
use Rattle.declaration_laws.specs.name_order.Order as order
use Rattle.declaration_laws.proofs.declared_type_laws.object_types.PassedOn.{Later, Grown as Grew, known_later, own_later, initialiser_for_same, derived_later}
use Rattle.declaration_laws.proofs.declared_type_laws.object_types.PassedOn.{SomeFits, no_value, meaning_fits, found_node}
use Rattle.declaration_laws.proofs.joined_types.Joining.{types_joined}
use Rattle.declaration_laws.specs.declared_type_laws.object_types.PassedOn.{IsNamed, Own, Inner, IsDeclaredBy}
use Rattle.declaration_laws.proofs.declared_type_laws.object_types.PassedOn.{leaves_declared, outermost_is}
use Rattle.declaration_laws.proofs.declared_type_laws.object_types.Typing.{not_yet, around, linkage_plain, is_named}
use Rattle.core_node_laws.specs.built_unit_laws.built_rows.Rows.{types_declared}
use Rattle.declaration_laws.specs.declared_type_laws.linked_names.Linked.{ExternalNamesFit}

some_one : {X : Type 0} → {x y : X} → ◌≡◌ {A = Option X} (Some x) (Some y) → x ≡ y
some_one h = cc

-- the name of a declarator by the two relations
either_form : (s : Source) (c : ℕ) → (is_a s p_declarator c || is_a s p_either c) ≡ true → is_declarator s c ≡ true
either_form s c h = by (is_a s p_declarator c) (is_a s p_abstract c) (is_a s p_either c) h
  where
    by : (a b d : Bool) → (a || d) ≡ true → ((a || b) || d) ≡ true
    by true b d k = refl
    by false true d k = refl
    by false false d k = k

name_in : (s : Source) (m leaf : ℕ) → IsNameOf s m leaf → IsNamed s m leaf
name_in s m leaf (order.Own k named) = Own k named
name_in s m leaf (order.Inner {c = c} k is more) = Inner c k (either_form s c is) (name_in s c leaf more)

-- no declarator has one of these productions
no_form : (q : ℕ) → contains declaring q ≡ true → ((q == p_declarator || q == p_abstract) || q == p_either) ≡ false
no_form q h = let found = in_list declaring q h in by found.0 found.1
  where
    at : (r : ℕ) → ◌≡◌ {A = Option ℕ} (Some r) (Some q) → ((r == p_declarator || r == p_abstract) || r == p_either) ≡ false → ((q == p_declarator || q == p_abstract) || q == p_either) ≡ false
    at r e k = subst (λ (x : ℕ). ((x == p_declarator || x == p_abstract) || x == p_either) ≡ false) (some_one e) k

    by : (j : ℕ) → slice_get declaring j ≡ Some q → ((q == p_declarator || q == p_abstract) || q == p_either) ≡ false
    by zero e = at p_external e refl
    by (suc zero) e = at p_rest e refl
    by (suc (suc zero)) e = at p_declaration e refl
    by (suc (suc (suc zero))) e = at p_parameter e refl
    by (suc (suc (suc (suc j)))) e = cc

linking_form : (q : ℕ) → contains linking q ≡ true → ((q == p_rest) ≡ true) ⊎ ((q == p_external || q == p_declaration) ≡ true)
linking_form q h = let found = in_list linking q h in by found.0 found.1
  where
    by : (j : ℕ) → slice_get linking j ≡ Some q → ((q == p_rest) ≡ true) ⊎ ((q == p_external || q == p_declaration) ≡ true)
    by zero e = inr (subst (λ (x : ℕ). (x == p_external || x == p_declaration) ≡ true) (some_one e) refl)
    by (suc zero) e = inl (subst (λ (x : ℕ). (x == p_rest) ≡ true) (some_one e) refl)
    by (suc (suc zero)) e = inr (subst (λ (x : ℕ). (x == p_external || x == p_declaration) ≡ true) (some_one e) refl)
    by (suc (suc (suc j))) e = cc

linking_declares : (q : ℕ) → contains linking q ≡ true → contains declaring q ≡ true
linking_declares q h = let found = in_list linking q h in by found.0 found.1
  where
    by : (j : ℕ) → slice_get linking j ≡ Some q → contains declaring q ≡ true
    by zero e = subst (λ (x : ℕ). contains declaring x ≡ true) (some_one e) refl
    by (suc zero) e = subst (λ (x : ℕ). contains declaring x ≡ true) (some_one e) refl
    by (suc (suc zero)) e = subst (λ (x : ℕ). contains declaring x ≡ true) (some_one e) refl
    by (suc (suc (suc j))) e = cc

-- types, one behind another
types_append : (s : Source) (f : ℕ → Sense) (xs : List Declared) (d : Declared) (t : Ctype) → own_type s f d.node ≡ Some t → types_of s f (xs ++ d ∷ []) ≡ types_of s f xs ++ t ∷ []
types_append s f [] d t e = ap (λ (o : Option Ctype). elim o as (λ _. List Ctype) [ None ↦ [] | Some u ↦ u ∷ [] ]) e
types_append s f (x ∷ xs) d t e = by (own_type s f x.node) (types_append s f xs d t e)
  where
    by : (o : Option Ctype) → types_of s f (xs ++ d ∷ []) ≡ types_of s f xs ++ t ∷ []
        → (elim o as (λ _. List Ctype) [ None ↦ types_of s f (xs ++ d ∷ []) | Some u ↦ u ∷ types_of s f (xs ++ d ∷ []) ]) ≡ (elim o as (λ _. List Ctype) [ None ↦ types_of s f xs | Some u ↦ u ∷ types_of s f xs ]) ++ t ∷ []
    by None k = k
    by (Some u) k = ap (λ (l : List Ctype). u ∷ l) k

open_array : (t : Ctype) → lacks_a_length t ≡ true → (of : Ctype) × (t ≡ ArrayOf of None)
open_array (ArrayOf of None) h = (of, refl)
open_array t h = cc

module _ (s : Source) (senses : List Sense) (are : AreSenses s senses) (grew : IsGrown s) (tree : Grown s) (brought : IsBrought s) (ordered : IsOrdered s) where
  parent_at : (p c : ℕ) → contains (children_at s p) c ≡ true → parent_of s c ≡ Some p
  parent_at p c h = parent_is s grew p c (in_list (children_at s p) c h)

  outermost : (m p : ℕ) → is_declarator s m ≡ true → contains (children_at s p) m ≡ true → contains declaring (production_at s p) ≡ true → is_outermost s m ≡ true
  outermost m p is inside part =
      ap (λ (b : Bool). b && (elim (parent_of s m) as (λ _. Bool) [ None ↦ true | Some q ↦ not (is_declarator s q) ])) is
      ∙ (ap (λ (o : Option ℕ). elim o as (λ _. Bool) [ None ↦ true | Some q ↦ not (is_declarator s q) ]) (parent_at p m inside) ∙ ap not (no_form (production_at s p) part))

  module _ (i x : ℕ) (lt : i < length senses) (plain : is_internal s (sense_in senses) x ≡ false) (waits : has_earlier_length s (known_at s senses i) x ≡ false) where
    F : ℕ → Sense
    F = known_at s senses i

    -- by its declarator, which stands before
    typed : (m : ℕ) → m < i → (above : ℕ) → contains (children_at s above) m ≡ true → contains linking (production_at s above) ≡ true → IsDeclaredBy s senses m x → (d : Declared) → ordinary_at s x ≡ Some d → has_linkage d ≡ true
        → (whole : Ctype) → type_behind s F x ≡ Some whole → AgreesWith (types_declared s senses (entity_of s F (named_by s F x))) whole
    unfolding F
    typed m before above inside part by_tree d found links whole e =
        let f : ℕ → Sense = known_at s senses i in
        let g : ℕ → Sense = sense_in senses in
        let later : Later f g = known_later s senses i in
        let told : specified_of s f x ≡ Some by_tree.words = specified_later s senses m i x by_tree.words by_tree.told (omega (arith, before)) in
        let sense : f m ≡ IsDeclarator (Some x) by_tree.derives = known s senses i m before ∙ by_tree.is in
        let no_parameter : is_parameter s f x ≡ false =
        ap (λ (o : Option ℕ). elim (option_and_then (declaration_around s) (option_and_then (parent_of s) o)) as (λ _. Bool) [ None ↦ false | Some q ↦ is_a s p_parameter q ]) by_tree.outermost
        ∙ (ap (λ (o : Option ℕ). elim (option_and_then (declaration_around s) o) as (λ _. Bool) [ None ↦ false | Some q ↦ is_a s p_parameter q ]) (parent_at above m inside)
        ∙ around s senses are grew tree brought above (linking_form (production_at s above) part)) in
        let base : derived_type s f (specified_of s f x) (outermost_of s x) ≡ Some (derived by_tree.derives by_tree.words.type) =
        ap (λ (o : Option Specified). derived_type s f o (outermost_of s x)) told
        ∙ (ap (derived_type s f (Some by_tree.words)) by_tree.outermost ∙ ap (λ (y : Sense). elim y as (λ _. Option Ctype) [ IsDeclarator name ds ↦ Some (derived ds by_tree.words.type) | _ ↦ None ]) sense) in
        let t : Ctype = with_length (length_given_by s f (initialiser_for s f x)) (derived by_tree.derives by_tree.words.type) in
        let own : own_type s f x ≡ Some t =
        ap (λ (b : Bool). if b then parameter_type s f (declaration_of s f x) else option_map (with_length (length_given_by s f (initialiser_for s f x))) (derived_type s f (specified_of s f x) (outermost_of s x))) no_parameter
        ∙ ap (option_map (with_length (length_given_by s f (initialiser_for s f x)))) base in
        let node : d.node ≡ x = found_node s.declared.ordinary x d found in
        let own_d : own_type s f d.node ≡ Some t = ap (own_type s f) node ∙ own in
        let typing : typing_declarations s (ordinary_at s x) ≡ linked_before s (Some d) ++ d ∷ [] = ap (typing_declarations s) found ∙ ap (λ (b : Bool). if b then linked_before s (Some d) ++ d ∷ [] else d ∷ []) links in
        let all : all_together None (types_of s f (linked_before s (Some d)) ++ t ∷ []) ≡ Some whole =
        sym (ap (λ (l : List Declared). all_together None (types_of s f l)) typing ∙ ap (all_together None) (types_append s f (linked_before s (Some d)) d t own_d)) ∙ e in
        let agrees : Agree whole t = types_joined.last None (types_of s f (linked_before s (Some d))) t whole all in
        let grown = own_later s f g later x t own in
        let named : is_name s x ≡ true = is_named s m x by_tree.named in
        let by_name : named_by s f x ≡ x = ap (λ (b : Bool). if b then last_of s f x (linked_before s (ordinary_at s x)) else x) waits in
        let entity : entity_of s f (named_by s f x) ≡ x =
        ap (entity_of s f) by_name ∙ ap (λ (b : Bool). if b then first_of s f x (internal_among s f s.declared.ordinary (ordinary_at s x)) else x) (not_yet s f g later x by_tree.words told plain) in
        let declared : types_declared s senses (entity_of s f (named_by s f x)) ≡ Some grown.0 = ap (types_declared s senses) entity ∙ (linkage_plain s senses are grew tree brought x plain named ∙ grown.1) in
        let no_parameter_g : is_parameter s g x ≡ false = no_parameter in
        let same_init : initialiser_for s f x ≡ None → t ≡ grown.0 = λ none.
        let base_g : derived_type s g (specified_of s g x) (outermost_of s x) ≡ Some (derived by_tree.derives by_tree.words.type) = derived_later s f g later x (outermost_of s x) (derived by_tree.derives by_tree.words.type) base in
        let none_g : initialiser_for s g x ≡ None = sym (initialiser_for_same s f g x) ∙ none in
        let own_g : own_type s g x ≡ Some (derived by_tree.derives by_tree.words.type) =
        ap (λ (b : Bool). if b then parameter_type s g (declaration_of s g x) else option_map (with_length (length_given_by s g (initialiser_for s g x))) (derived_type s g (specified_of s g x) (outermost_of s x))) no_parameter_g
        ∙ (ap (option_map (with_length (length_given_by s g (initialiser_for s g x)))) base_g ∙ ap (λ (o : Option ℕ). Some (with_length (length_given_by s g o) (derived by_tree.derives by_tree.words.type))) none_g) in
        ap (λ (o : Option ℕ). with_length (length_given_by s f o) (derived by_tree.derives by_tree.words.type)) none ∙ some_one (sym own_g ∙ grown.1) in
        subst (λ (o : Option Ctype). AgreesWith o whole) (sym declared) (by_growth t whole grown.0 own e agrees grown.2 same_init (initialiser_for s f x) refl)
      where
        and_third : (a b c : Bool) → (a && (b && not c)) ≡ false → a ≡ true → b ≡ true → c ≡ true
        and_third true true true h j k = refl
        and_third true true false h j k = cc
        and_third true false c h j k = cc
        and_third false b c h j k = cc

        by_growth : (t whole u : Ctype) → own_type s (known_at s senses i) x ≡ Some t → type_behind s (known_at s senses i) x ≡ Some whole → Agree whole t → Grew t u → (initialiser_for s (known_at s senses i) x ≡ None → t ≡ u)
            → (o : Option ℕ) → initialiser_for s (known_at s senses i) x ≡ o → Agree whole u
        by_growth t whole u own behind agrees (inl same) none o init = subst (Agree whole) same agrees
        by_growth t whole u own behind agrees (inr sized) none None init = subst (Agree whole) (none init) agrees
        by_growth t whole u own behind agrees (inr sized) none (Some at) init =
            let f : ℕ → Sense = known_at s senses i in
            let is_open_own : is_open s f (own_type s f x) ≡ true = ap (is_open s f) own ∙ ap lacks_a_length sized.2 in
            let is_open_whole : is_open s f (type_behind s f x) ≡ true = and_third (is_some (initialiser_for s f x)) (is_open s f (own_type s f x)) (is_open s f (type_behind s f x)) waits (ap is_some init) is_open_own in
            let array = open_array whole (sym (ap (is_open s f) behind) ∙ is_open_whole) in
            let elements : array.0 ≡ sized.0 = subst (λ (x : Ctype). Agree (ArrayOf array.0 None) x) sized.2 (subst (λ (x : Ctype). Agree x t) array.1 agrees) in
            subst (λ (x : Ctype). Agree x u) (sym array.1) (subst (λ (x : Ctype). Agree (ArrayOf array.0 None) x) (sym sized.3) elements)

  use_fits : (i first x : ℕ) (m : Meaning) → i < length senses → is_a s p_primary i ≡ true → contains (children_at s i) first ≡ true → paired s.uses first ≡ Some x → is_linked s (sense_in senses) x ≡ true
      → is_internal s (sense_in senses) x ≡ false → has_earlier_length s (known_at s senses i) x ≡ false → meaning_of s (known_at s senses i) x ≡ Some m → MeaningFits (types_declared s senses) m
  unfolding F
  use_fits i first x m lt primary inside pair linked plain waits e = by (ordered.uses first x i pair primary inside)
    where
      of_declared : (o : Option Declared) → ordinary_at s x ≡ o → (elim o as (λ _. Bool) [ None ↦ false | Some d ↦ has_linkage d ]) ≡ true → (d : Declared) × (ordinary_at s x ≡ Some d) × (has_linkage d ≡ true)
      of_declared None found h = cc
      of_declared (Some d) found h = (d, found, h)

      by : (k : ℕ) × (k < first) × Declares s k x → MeaningFits (types_declared s senses) m
      by (k, before, Enumerates is part) =
          let f : ℕ → Sense = known_at s senses i in
          let means : meaning_of s f x ≡ enumerated s f k =
          ap (λ (o : Option ℕ). elim o as (λ _. Option Meaning) [ None ↦ None | Some p ↦ if is_a s p_enumerator p then enumerated s f p else declared_meaning s f x ]) (parent_at k x part) ∙ ap (λ (b : Bool). if b then enumerated s f k else declared_meaning s f x) is in
          subst (SomeFits (types_declared s senses)) (sym means ∙ e) (no_value s f (types_declared s senses) k)
      by (k, before, Names p is part place named) =
          let d = of_declared (ordinary_at s x) refl linked in
          let link = ordered.linked x d.0 d.1 d.2 in
          let first_before : first < i = tree.before i first inside in
          let one : IsDeclaredBy s senses k x = leaves_declared.by_tree s senses are tree brought k x (omega (arith, before, first_before, lt)) (outermost k p (either_form s k is) part place) (name_in s k x named) in
          let below : link.0 < link.1.above = tree.before link.1.above link.0 link.1.inside in
          let within : link.1.above < length s.nodes = tree.within link.1.above link.0 link.1.inside in
          let up : outermost_of s x ≡ Some link.0 =
          outermost_is s tree link.0 x (name_in s link.0 x link.1.named) (omega (arith, below, within)) (outermost link.0 link.1.above (either_form s link.0 link.1.is) link.1.inside (linking_declares (production_at s link.1.above) link.1.part)) in
          let same : link.0 ≡ k = some_one (sym up ∙ one.outermost) in
          let stands : contains (children_at s link.1.above) k ≡ true = subst (λ (n : ℕ). contains (children_at s link.1.above) n ≡ true) same link.1.inside in
          subst (SomeFits (types_declared s senses)) e
          (meaning_fits s (known_at s senses i) (types_declared s senses) x (λ whole h. typed i x lt plain waits k (omega (arith, before, first_before)) link.1.above stands link.1.part one d.0 d.1 d.2 whole h))

pub external_names_fit : ExternalNamesFit
external_names_fit s senses are grew tree brought ordered i first x m lt primary inside pair linked plain waits e =
    use_fits s senses are grew tree brought ordered i first x m lt primary inside pair linked plain waits (sym (ap (option_and_then (meaning_of s (known_at s senses i))) pair) ∙ e)
