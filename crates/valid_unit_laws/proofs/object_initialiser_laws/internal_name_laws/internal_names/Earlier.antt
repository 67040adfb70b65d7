-- An open array within its own initialiser, whose length an earlier declaration has.
use Rattle.std.proofs.Common.{arith, ◌≡◌, ◌<◌, ◌⊎◌, inl, inr, ℕ, Bool, true, false, ◌&&◌, ◌||◌, not, List, [], ◌∷◌, ◌++◌, length, Option, Some, None, refl, sym, ap, ◌∙◌, subst}
use Rattle.std.specs.Prelude.{option_map, option_and_then, is_some, if◌then◌else◌}
use Rattle.c_types.specs.Trees.{Ctype, ArrayOf}
use Rattle.core_tree.specs.Rows.{Agree}
use Rattle.c_grammar.specs.Words.{word_extern}
use Rattle.c_grammar.specs.Terminals.{contains}
use Rattle.c_scope.specs.declared.kinds.Declared.{Declared}
use Rattle.c_senses.specs.Tree.{Source, is_name}
use Rattle.c_senses.specs.Names.{linked_before, typing_declarations, ordinary_at}
use Rattle.c_senses.specs.Limits.{lacks_a_length}
use Rattle.c_senses.specs.World.{World}
use Rattle.c_senses.specs.Declarators.{outermost_of, specs_of, derived}
use Rattle.c_senses.specs.Entities.{with_length, is_linked, is_internal, is_parameter, is_typedef, is_at_file, has_storage, declares_function, specified_of, derived_type, parameter_type, declaration_of, length_given_by, initialiser_of, initialiser_for, internal_among, first_of, entity_of, own_type, types_of, all_together, together, type_behind, is_open, has_earlier_length, last_of, named_by, words_go}
use Rattle.c_senses.specs.Sense.{Sense, IsDeclarator, Specified, sense_in}
use Rattle.c_senses.specs.Rows.{AreSenses}
use Rattle.parsed_tree_laws.specs.sense_laws.Sound.{AgreesWith}
use Rattle.declaration_laws.specs.function_laws.passed.definition_laws.scope_laws.Scoped.{DeclaredOnce}
use Rattle.parsed_tree_laws.proofs.placed_laws.Climbing.{Grown}
use Rattle.core_node_laws.specs.standing_laws.Standing.{IsGrown}
use Rattle.parsed_tree_laws.specs.grown_parts.Parts.{IsBrought}
use Rattle.declaration_laws.specs.name_order.Order.{IsOrdered}
use Rattle.declaration_laws.specs.function_laws.passed.definition_laws.linkage_laws.Linked.{StandsLinked}
use Rattle.declaration_laws.proofs.declared_type_laws.passed.built_unit_laws.run_laws.Times.{known_at, world_of, known}
use Rattle.declaration_laws.proofs.declared_type_laws.passed.built_unit_laws.run_laws.Automatic.{specified_later}
use Rattle.declaration_laws.specs.declared_type_laws.passed.built_unit_laws.built_rows.Rows.{types_declared}
use Rattle.declaration_laws.proofs.declared_type_laws.plain_names.Later.{known_later, told, initialiser_same}
use Rattle.declaration_laws.proofs.joined_types.Joining.{types_joined}
use Rattle.valid_unit_laws.proofs.object_initialiser_laws.internal_name_laws.internal_types.PassedOn.{is_named, linkage_plain}
use Rattle.declaration_laws.specs.declared_type_laws.declared_once.PassedOn.{AreSettled}
use Rattle.declaration_laws.specs.declared_type_laws.declared_once.Once.{IsDeclaredOnce}
use Rattle.declaration_laws.specs.declared_type_laws.linked_scopes.Scoped.{AreScoped}
use Rattle.valid_unit_laws.proofs.object_initialiser_laws.internal_name_laws.internal_types.Initials.{initialised_words}
use Rattle.valid_unit_laws.proofs.object_initialiser_laws.internal_name_laws.internal_names.Lists.{Last, last_at, types_append, next_of, together_open, open_array}
use Rattle.valid_unit_laws.proofs.object_initialiser_laws.internal_name_laws.internal_names.Order.{earlier}
use Rattle.valid_unit_laws.proofs.object_initialiser_laws.internal_name_laws.internal_names.Seen.{Entry, Row, row, Sees, sees, at_file, one_linkage}

some_one : {X : Type 0} → {x y : X} → ◌≡◌ {A = Option X} (Some x) (Some y) → x ≡ y
some_one h = cc

no_both : (b : Bool) → b ≡ true → b ≡ false → ⊥
no_both b e f = let bad : true ≡ false = sym e ∙ f in cc

three : (a b c : Bool) → (a && (b && not c)) ≡ true → (a ≡ true) × (b ≡ true) × (c ≡ false)
three true true false h = (refl, refl, refl)
three true true true h = cc
three true false c h = cc
three false b c h = cc

module _ (s : Source) (tree : Grown s) (grew : IsGrown s) (brought : IsBrought s) (ordered : IsOrdered s) (settled : AreSettled s) (names_once : DeclaredOnce s) (scoped : AreScoped s) (senses : List Sense) (are : AreSenses s senses) (whole : length senses ≡ length s.nodes)
    (once : IsDeclaredOnce s senses) (stands : (leaf : ℕ) → is_linked s (sense_in senses) leaf ≡ true → StandsLinked s (sense_in senses) leaf) where
  abbrev G : ℕ → Sense
  G = sense_in senses

  abbrev F : ℕ → ℕ → Sense
  F n = known_at s senses n

  abbrev W : ℕ → World
  W n = world_of s senses n

  -- the type of a declaration, once its specifiers and its declarator are known
  own_known : (d : Declared) (e : Entry s tree names_once scoped senses are whole once stands d) (i : ℕ) → (row s tree names_once scoped senses are whole once stands d e).declarator < i → (t : Ctype) × (own_type s (F i) d.node ≡ Some t)
  own_known d e i lt =
      let r = row s tree names_once scoped senses are whole once stands d e in
      let less = lt in
      let words : specified_of s (F i) d.node ≡ Some r.one.words = specified_later s senses r.declarator i d.node r.one.words r.one.told (omega (arith, less)) in
      let sense : F i r.declarator ≡ IsDeclarator (Some d.node) r.one.derives = known s senses i r.declarator lt ∙ r.one.is in
      let base : derived_type s (F i) (specified_of s (F i) d.node) (outermost_of s d.node) ≡ Some (derived r.one.derives r.one.words.type) =
      ap (λ (o : Option Specified). derived_type s (F i) o (outermost_of s d.node)) words
      ∙ (ap (derived_type s (F i) (Some r.one.words)) r.one.outermost ∙ ap (λ (y : Sense). elim y as (λ _. Option Ctype) [ IsDeclarator name ds ↦ Some (derived ds r.one.words.type) | _ ↦ None ]) sense) in
      let plain : is_parameter s (F i) d.node ≡ false = (stands d.node e.linked).parameter in (
        with_length (length_given_by s (F i) (initialiser_for s (F i) d.node)) (derived r.one.derives r.one.words.type),
        ap (λ (b : Bool). if b then parameter_type s (F i) (declaration_of s (F i) d.node) else option_map (with_length (length_given_by s (F i) (initialiser_for s (F i) d.node))) (derived_type s (F i) (specified_of s (F i) d.node) (outermost_of s d.node))) plain
            ∙ ap (option_map (with_length (length_given_by s (F i) (initialiser_for s (F i) d.node)))) base,
      )

  module _ (x : Declared) (e : Entry s tree names_once scoped senses are whole once stands x) (external : is_internal s (sense_in senses) x.node ≡ false) (i : ℕ) (lt : (row s tree names_once scoped senses are whole once stands x e).declarator < i)
      (waits : has_earlier_length s (known_at s senses i) x.node ≡ true) where
    parts : (is_some (initialiser_for s (F i) x.node) ≡ true) × (is_open s (F i) (own_type s (F i) x.node) ≡ true) × (is_open s (F i) (type_behind s (F i) x.node) ≡ false)
    parts = three (is_some (initialiser_for s (F i) x.node)) (is_open s (F i) (own_type s (F i) x.node)) (is_open s (F i) (type_behind s (F i) x.node)) waits

    -- it stands at file scope
    file : is_at_file s G x.node ≡ true
    file = by said.2
      where
        r : Row s tree names_once scoped senses are whole once stands x
        r = row s tree names_once scoped senses are whole once stands x e

        some : is_some (initialiser_of s (F r.declarator) r.declarator) ≡ true
        some = ap is_some (initialiser_same s (F r.declarator) (F i) r.declarator) ∙ (ap (λ (o : Option ℕ). is_some (option_and_then (initialiser_of s (F i)) o)) (sym r.one.outermost) ∙ parts.0)

        words_same : specified_of s (F r.declarator) x.node ≡ specified_of s G x.node
        words_same = r.one.told ∙ sym (told s (F r.declarator) G (known_later s senses r.declarator) (option_and_then (specs_of s) (outermost_of s x.node)) r.one.words r.one.told)

        said : (is_typedef s (F r.declarator) x.node ≡ false) × (declares_function s (F r.declarator) x.node ≡ false) × ((is_at_file s (F r.declarator) x.node ≡ true) ⊎ (has_storage s (F r.declarator) word_extern x.node ≡ false))
        said = initialised_words (W r.declarator) s (F r.declarator) x.node (ap (λ (b : Bool). words_go (W r.declarator) s (F r.declarator) b x.node) (sym some) ∙ r.words)

        by : (is_at_file s G x.node ≡ true) ⊎ (has_storage s (F r.declarator) word_extern x.node ≡ false) → is_at_file s G x.node ≡ true
        by (inl at) = at
        by (inr none) =
            pick (declares_function s G x.node) (is_at_file s G x.node) (has_storage s G word_extern x.node) (stands x.node e.linked).declared said.1
            (ap (λ (o : Option Specified). elim o as (λ _. Bool) [ None ↦ false | Some z ↦ contains z.storage word_extern ]) (sym words_same) ∙ none)
          where
            pick : (a b c : Bool) → (a || (b || c)) ≡ true → a ≡ false → c ≡ false → b ≡ true
            pick a true c h f g = refl
            pick true false c h f g = cc
            pick false false true h f g = cc
            pick false false false h f g = cc

    own_open : (b : Ctype) × (own_type s (F i) x.node ≡ Some (ArrayOf b None))
    own_open = by (own_type s (F i) x.node) refl parts.1
      where
        by : (o : Option Ctype) → own_type s (F i) x.node ≡ o → is_open s (F i) o ≡ true → (b : Ctype) × (own_type s (F i) x.node ≡ Some (ArrayOf b None))
        by None own h = cc
        by (Some u) own h = let array = open_array u h in (array.0, own ∙ ap Some array.1)

    typing_is : typing_declarations s (ordinary_at s x.node) ≡ linked_before s (Some x) ++ x ∷ []
    typing_is = ap (typing_declarations s) e.at ∙ ap (λ (b : Bool). if b then linked_before s (Some x) ++ x ∷ [] else x ∷ []) e.links

    behind_is : type_behind s (F i) x.node ≡ all_together None (types_of s (F i) (linked_before s (Some x)) ++ ArrayOf own_open.0 None ∷ [])
    behind_is =
        ap (λ (ds : List Declared). all_together None (types_of s (F i) ds)) typing_is ∙ ap (all_together None) (types_append s (F i) (linked_before s (Some x)) x (ArrayOf own_open.0 None) own_open.1)

    -- the last declaration that is seen
    by_last : (l : Last s (F i) x.node (linked_before s (Some x))) → (t : Ctype) → type_behind s (F i) x.node ≡ Some t → AgreesWith (types_declared s senses (entity_of s (F i) (last_of s (F i) x.node (linked_before s (Some x))))) t
    by_last l t behind = subst (λ (k : ℕ). AgreesWith (types_declared s senses (entity_of s (F i) k)) t) (sym l.named) (subst (λ (o : Option Ctype). AgreesWith o t) (sym declared) agrees)
      where
        sy : Sees s tree names_once scoped senses are whole once stands x l.last
        sy = sees s tree names_once scoped senses are whole once stands x l.last l.there

        ry : Row s tree names_once scoped senses are whole once stands l.last
        ry = row s tree names_once scoped senses are whole once stands l.last sy.entry

        rx : Row s tree names_once scoped senses are whole once stands x
        rx = row s tree names_once scoped senses are whole once stands x e

        before : ry.declarator < rx.declarator
        before = earlier s tree brought ordered x.node rx.declarator l.last.node ry.declarator x l.last e.at e.links rx.one.outermost sy.entry.at sy.entry.links ry.one.outermost refl refl sy.before

        early : ry.declarator < i
        early = let one = before in let two = lt in omega (arith, one, two)

        plain : is_internal s G l.last.node ≡ false
        plain = one_linkage s tree names_once scoped senses are whole once stands x l.last e (at_file s tree names_once scoped senses are whole once stands x l.last e file l.there) ∙ external

        here : is_internal s (F i) l.last.node ≡ false
        here = let less = early in once.internal l.last.node ry.declarator i sy.entry.linked ry.one.outermost (omega (arith, less)) ∙ plain

        own : (u : Ctype) × (own_type s (F i) l.last.node ≡ Some u)
        own = own_known l.last sy.entry i early

        own_end : own_type s G l.last.node ≡ Some own.0
        own_end = let less = lt in settled senses ry.declarator l.last.node rx.declarator i own.0 ry.one.outermost ry.declares rx.declares before (omega (arith, less)) own.1

        named : is_name s l.last.node ≡ true
        named = is_named s ry.declarator l.last.node ry.one.named

        declared : types_declared s senses (entity_of s (F i) l.last.node) ≡ Some own.0
        declared =
            ap (types_declared s senses) (ap (λ (b : Bool). if b then first_of s (F i) l.last.node (internal_among s (F i) s.declared.ordinary (ordinary_at s l.last.node)) else l.last.node) here)
            ∙ (linkage_plain s senses are grew tree brought l.last.node plain named ∙ own_end)

        types_are : types_of s (F i) (linked_before s (Some x)) ≡ types_of s (F i) l.front ++ own.0 ∷ []
        types_are = ap (types_of s (F i)) l.are ∙ types_append s (F i) l.front l.last own.0 own.1

        given : (w : Ctype) × (all_together None (types_of s (F i) l.front ++ own.0 ∷ []) ≡ Some w) × (all_together None ((types_of s (F i) l.front ++ own.0 ∷ []) ++ ArrayOf own_open.0 None ∷ []) ≡ Some (together w (ArrayOf own_open.0 None)))
        given = next_of (types_of s (F i) l.front) own.0 (ArrayOf own_open.0 None)

        together_is : type_behind s (F i) x.node ≡ Some (together given.0 (ArrayOf own_open.0 None))
        together_is = behind_is ∙ (ap (λ (ts : List Ctype). all_together None (ts ++ ArrayOf own_open.0 None ∷ [])) types_are ∙ given.2)

        closed : lacks_a_length (together given.0 (ArrayOf own_open.0 None)) ≡ false
        closed = sym (ap (is_open s (F i)) together_is) ∙ parts.2

        type_is : t ≡ given.0
        type_is = some_one (sym behind ∙ together_is) ∙ together_open given.0 own_open.0 closed

        agrees : Agree t own.0
        agrees = subst (λ (u : Ctype). Agree u own.0) (sym type_is) (types_joined.last None (types_of s (F i) l.front) own.0 given.0 given.1)

    pub earlier_fits : (t : Ctype) → type_behind s (F i) x.node ≡ Some t → AgreesWith (types_declared s senses (entity_of s (F i) (named_by s (F i) x.node))) t
    earlier_fits t behind =
        subst (λ (k : ℕ). AgreesWith (types_declared s senses (entity_of s (F i) k)) t)
        (sym (ap (λ (b : Bool). if b then last_of s (F i) x.node (linked_before s (ordinary_at s x.node)) else x.node) waits ∙ ap (λ (o : Option Declared). last_of s (F i) x.node (linked_before s o)) e.at)) (by (linked_before s (Some x)) refl)
      where
        by : (ds : List Declared) → linked_before s (Some x) ≡ ds → AgreesWith (types_declared s senses (entity_of s (F i) (last_of s (F i) x.node (linked_before s (Some x))))) t
        by [] none =
            let alone : type_behind s (F i) x.node ≡ Some (ArrayOf own_open.0 None) = behind_is ∙ ap (λ (ds : List Declared). all_together None (types_of s (F i) ds ++ ArrayOf own_open.0 None ∷ [])) none in
            absurd (no_both (is_open s (F i) (type_behind s (F i) x.node)) (ap (is_open s (F i)) alone) parts.2)
        by (d ∷ ds) some = by_last (subst (Last s (F i) x.node) (sym some) (last_at s (F i) x.node d ds)) t behind
