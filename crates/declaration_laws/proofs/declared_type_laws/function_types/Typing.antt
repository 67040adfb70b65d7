-- What is declared as a function has a function's type, or one that its specifiers name.
use Rattle.std.proofs.Common.{arith, ◌≡◌, ◌<◌, ◌⊎◌, inl, inr, ℕ, ◌==◌, ◌&&◌, ◌||◌, not, nat_eq, Bool, true, false, cond, List, [], ◌∷◌, Option, Some, None, length, refl, sym, ap, ◌∙◌, subst, eq-eqb}
use Rattle.std.specs.Prelude.{option_map, option_and_then, is_some, if◌then◌else◌}
use Rattle.std.specs.List.{find}
use Rattle.std.proofs.lemmas.Bool.{eqb-true}
use Rattle.c_types.specs.Trees.{Ctype, VoidType, BoolType, IntegerType, FloatingType, VaListType, PointerTo, ArrayOf, FunctionFrom, StructureOf, UnionOf}
use Rattle.c_grammar.specs.Productions.{p_external, p_rest, p_declaration, p_field, p_parameter, p_specs, p_type, p_declarator, p_either, p_enumerator}
use Rattle.c_grammar.specs.Terminals.{contains, own_meaning, own_words}
use Rattle.c_mentions.specs.declared.declarators.Derivation.TheVariants.{Bare, Function as FunctionDerivation, Other}
use Rattle.c_mentions.specs.Syntax as syntax
use Rattle.c_mentions.specs.Symbols.{symbol_of}
use Rattle.c_mentions.specs.Declarators.{declarator}
use Rattle.c_mentions.specs.Roles.{specified as specified_by, type_name, named_type, first_child_of, begins_with_name}
use Rattle.c_mentions.specs.declared.roles.Specifiers.{Specifiers}
use Rattle.c_scope.specs.declared.kinds.Declared.{Declared}
use Rattle.c_scope.specs.Resolves.{bindings}
use Rattle.core_tree.specs.Rows.{IsFunction, int}
use Rattle.c_senses.specs.Tree.{Source, children_at, is_a, child_of, first_where, parent_of, paired, spelling_at}
use Rattle.c_senses.specs.Given.{Given, Fits}
use Rattle.c_senses.specs.World.{World, Meaning, Object, Function, TypeName}
use Rattle.c_senses.specs.Names.{ordinary_at, names_type, entry_of}
use Rattle.c_senses.specs.Declarators.{derived, is_outermost, outermost_of, declaration_around, specs_of}
use Rattle.c_senses.specs.Specifiers as specifiers
use Rattle.c_senses.specs.Entities.{with_length, length_given_by, initialiser_for, is_parameter, is_typedef, declares_function, parameter_type, declaration_of, derived_type, specified, specified_of, own_type, meaning_of, enumerated, declared_meaning, type_behind, object_or_function, entity_of, named_by}
use Rattle.c_senses.specs.Rows.{AreSenses}
use Rattle.c_senses.specs.Sense.{Sense, Nothing, IsType, IsSpecified, IsDeclarator, Specified, Derivation, sense_in}
use Rattle.core_node_laws.specs.count_laws.passed.parsed_tree_laws.grown_parts.Parts.{IsBrought}
use Rattle.declaration_laws.proofs.declared_type_laws.owner_laws.passed.definition_laws.linkage_laws.Origins.{HasOrigin}
use Rattle.declaration_laws.proofs.declared_type_laws.owner_laws.passed.definition_laws.linkage_laws.Roles.{ByDeclarator}
use Rattle.declaration_laws.proofs.declared_type_laws.owner_laws.passed.definition_laws.linkage_laws.Seen.{nodes, children_are, parent_is, apart, node_within}
use Rattle.declaration_laws.proofs.declared_type_laws.owner_laws.passed.definition_laws.linkage_laws.Chains.{Declares, declares, either_is, declaring, Reached, name_reached}
use Rattle.declaration_laws.proofs.declared_type_laws.owner_laws.passed.definition_laws.linkage_laws.Scopes.{rests_nest}
use Rattle.declaration_laws.proofs.declared_type_laws.owner_laws.passed.definition_laws.linkage_laws.Linked.{Tree}
use Rattle.declaration_laws.proofs.declared_type_laws.owner_laws.passed.definition_laws.function_definitions.Declaring.{outer_is, declared_by_outermost, Declares as declares_role}
use Rattle.declaration_laws.proofs.declared_type_laws.owner_laws.passed.definition_laws.function_definitions.Sensed.{Ends, derives_function}
use Rattle.core_node_laws.proofs.built_unit_laws.run_laws.Times.{known_at, world_of, known, told_before, told_later}
use Rattle.declaration_laws.proofs.declared_type_laws.plain_names.Later as later
use Rattle.declaration_laws.specs.declared_type_laws.declared_leaves.Leaves.{IsDeclaredBy}
use Rattle.declaration_laws.proofs.declared_type_laws.declared_leaves.Climbing.{leaves_declared}
use Rattle.declaration_laws.specs.declared_type_laws.owner_laws.passed.definition_laws.function_origins.Origins.{In, IsFunctionBy, Listed, Typed}
use Rattle.declaration_laws.proofs.declared_type_laws.owner_laws.passed.definition_laws.function_origins.Declaring as origins
use Rattle.declaration_laws.proofs.declared_type_laws.owner_laws.passed.definition_laws.function_origins.Coming.{functions_come}
use Rattle.declaration_laws.specs.declared_type_laws.function_types.Typed.{IsNamedType}
use Rattle.declaration_laws.proofs.declared_type_laws.function_types.Views.{part_same}
use Rattle.declaration_laws.proofs.declared_type_laws.function_types.Deriving.{found_in, Says, says}
use Rattle.declaration_laws.proofs.declared_type_laws.function_types.Specs.{named_row, specified_is}

some_one : {X : Type 0} → {x y : X} → ◌≡◌ {A = Option X} (Some x) (Some y) → x ≡ y
some_one h = cc

both : (a b : Bool) → (a && b) ≡ true → (a ≡ true) × (b ≡ true)
both true b e = (refl, e)
both false b e = cc

fits_same : {x y : Sense} → ◌≡◌ {A = Given Sense} (Fits x) (Fits y) → x ≡ y
fits_same e = cc

-- a type that what is declared as a function has
abbrev IsGiven : Ctype → Type 0
IsGiven t = IsFunction t ⊎ IsNamedType t

-- it gets no length
with_plain : (n : Option ℕ) (t : Ctype) → IsGiven t → with_length n t ≡ t
with_plain None t h = refl
with_plain (Some n) (ArrayOf of None) (inl h) = absurd h
with_plain (Some n) (ArrayOf of None) (inr h) = let no : ArrayOf of None ≡ int = h in cc
with_plain (Some n) (ArrayOf of (Some k)) h = refl
with_plain (Some n) VoidType h = refl
with_plain (Some n) BoolType h = refl
with_plain (Some n) (IntegerType size rank signed) h = refl
with_plain (Some n) FloatingType h = refl
with_plain (Some n) VaListType h = refl
with_plain (Some n) (PointerTo to) h = refl
with_plain (Some n) (FunctionFrom r ps form) h = refl
with_plain (Some n) (StructureOf tag) h = refl
with_plain (Some n) (UnionOf tag) h = refl

of_words : (b : Bool) → IsNamedType (if b then FloatingType else VaListType)
of_words true = tt
of_words false = tt

module _
    (s : Source) (tree : Tree s) (brought : IsBrought s) (senses : List Sense) (are : AreSenses s senses) (whole : length senses ≡ length s.nodes) (uses_are : s.uses ≡ (bindings s.text s.tokens (nodes s)).uses)
    (uses_named : (j x : ℕ) → paired s.uses j ≡ Some x → syntax.is_name s.tokens (nodes s) j ≡ true)
    (only : (q : ℕ) (k : ℕ) (ks : List ℕ) → (is_a s p_external q ≡ true) ⊎ (is_a s p_declaration q ≡ true) → children_at s q ≡ k ∷ ks → first_where (is_a s p_specs) ks ≡ None)
  where
    abbrev f : ℕ → Sense
    f = sense_in senses

    abbrev F : ℕ → ℕ → Sense
    F m = known_at s senses m

    abbrev W : ℕ → World
    W m = world_of s senses m

    -- what is read of a declaration of a function
    record Read (d : Declared) : Type 0 where
      m : ℕ
      outer : is_outermost s m ≡ true
      reached : Reached s tree.grown m d.node outer
      by_it : IsDeclaredBy s senses m d.node
      inside : m < length senses
      plain : is_parameter s (sense_in senses) d.node ≡ false
      given : IsGiven (derived by_it.derives by_it.words.type)

    -- the type that a name is declared with, where its declarator is known
    typed_in : (g : ℕ → Sense) (leaf m : ℕ) (by_it : IsDeclaredBy s senses m leaf) → later.Later (known_at s senses m) g → g m ≡ IsDeclarator (Some leaf) by_it.derives → is_parameter s (sense_in senses) leaf ≡ false → IsGiven (derived by_it.derives by_it.words.type)
        → own_type s g leaf ≡ Some (derived by_it.derives by_it.words.type)
    typed_in g leaf m by_it on sensed plain given =
        let words_last : specified_of s g leaf ≡ Some by_it.words = later.told s (known_at s senses m) g on (option_and_then (specs_of s) (outermost_of s leaf)) by_it.words by_it.told in
        let derived_is : derived_type s g (specified_of s g leaf) (outermost_of s leaf) ≡ Some (derived by_it.derives by_it.words.type) =
        ap (λ (o : Option Specified). derived_type s g o (outermost_of s leaf)) words_last
        ∙ (ap (derived_type s g (Some by_it.words)) by_it.outermost ∙ ap (λ (x : Sense). elim x as (λ _. Option Ctype) [ IsDeclarator name ds ↦ Some (derived ds by_it.words.type) | _ ↦ None ]) sensed) in
        let n : Option ℕ = length_given_by s g (initialiser_for s g leaf) in
        ap (λ (b : Bool). if b then parameter_type s g (declaration_of s g leaf) else option_map (with_length n) (derived_type s g (specified_of s g leaf) (outermost_of s leaf))) plain
        ∙ (ap (option_map (with_length n)) derived_is ∙ ap Some (with_plain n (derived by_it.derives by_it.words.type) given))

    typed_at : (k leaf m : ℕ) (by_it : IsDeclaredBy s senses m leaf) → m < k → is_parameter s (sense_in senses) leaf ≡ false → IsGiven (derived by_it.derives by_it.words.type) → own_type s (F k) leaf ≡ Some (derived by_it.derives by_it.words.type)
    typed_at k leaf m by_it lt plain given = typed_in (F k) leaf m by_it (λ j x e some. told_later s senses m k j x e some (omega (arith, lt))) (known s senses k m lt ∙ by_it.is) plain given

    -- what the leaf of such a name means as a type
    meant : (k n : ℕ) (t : Declared) (read : Read t) → read.m < k → paired s.uses n ≡ Some t.node → specifiers.named_type (W k) s (F k) k n ((W k).meaning n) ≡ Fits (f k) → (T : Ctype) × (f k ≡ IsType T) × IsGiven T
    meant k n t read lt pair row = by (is_typedef s (F k) t.node) (type_behind s (F k) t.node) (sym (ap (λ (o : Option Meaning). specifiers.named_type (W k) s (F k) k n o) meaning) ∙ row)
      where
        no_enumerator : (is_a s p_declarator read.reached.holder ≡ true) ⊎ (is_a s p_either read.reached.holder ≡ true) → is_a s p_enumerator read.reached.holder ≡ false
        no_enumerator (inl h) = apart s read.reached.holder p_declarator p_enumerator h refl
        no_enumerator (inr h) = apart s read.reached.holder p_either p_enumerator h refl

        T : Ctype
        T = derived read.by_it.derives read.by_it.words.type

        own : own_type s (F k) t.node ≡ Some (derived read.by_it.derives read.by_it.words.type)
        own = typed_at k t.node read.m read.by_it lt read.plain read.given

        meaning : (W k).meaning n ≡ (if is_typedef s (F k) t.node then Some (TypeName (derived read.by_it.derives read.by_it.words.type)) else option_map (object_or_function s (F k) (entity_of s (F k) (named_by s (F k) t.node))) (type_behind s (F k) t.node))
        meaning =
            ap (option_and_then (meaning_of s (F k))) pair
            ∙ (ap (λ (o : Option ℕ). elim o as (λ _. Option Meaning) [ None ↦ None | Some p ↦ if is_a s p_enumerator p then enumerated s (F k) p else declared_meaning s (F k) t.node ]) (parent_is s tree.grown read.reached.holder t.node read.reached.child)
            ∙ (ap (λ (b : Bool). if b then enumerated s (F k) read.reached.holder else declared_meaning s (F k) t.node) (no_enumerator read.reached.declares)
            ∙ ap (λ (o : Option Ctype). if is_typedef s (F k) t.node then option_map TypeName o else option_map (object_or_function s (F k) (entity_of s (F k) (named_by s (F k) t.node))) (type_behind s (F k) t.node)) own))

        by : (b : Bool) (o : Option Ctype) → specifiers.named_type (W k) s (F k) k n (if b then Some (TypeName (derived read.by_it.derives read.by_it.words.type)) else option_map (object_or_function s (F k) (entity_of s (F k) (named_by s (F k) t.node))) o) ≡ Fits (f k)
            → (T : Ctype) × (f k ≡ IsType T) × IsGiven T
        by true o h = (derived read.by_it.derives read.by_it.words.type, sym (fits_same h), read.given)
        by false None h = (_, sym (fits_same h), inr (of_words (is_some (own_meaning own_words (spelling_at s n)))))
        by false (Some x) h = pick _ h
          where
            pick : (b : Bool) → specifiers.named_type (W k) s (F k) k n (Some (if b then Function (entity_of s (F k) (named_by s (F k) t.node)) x else Object (entity_of s (F k) (named_by s (F k) t.node)) x)) ≡ Fits (f k) → (T : Ctype) × (f k ≡ IsType T) × IsGiven T
            pick true k = cc
            pick false k = cc

    abbrev Origin : Declared → Type 0
    Origin d = HasOrigin s.text s.tokens (nodes s) d

    abbrev ByIt : (d : Declared) → Origin d → Type 0
    ByIt d h = ByDeclarator s.tokens (nodes s) h.node h.standing.role h.leaf h.linkage h.derivation h.type_name

    by_declarator : (d : Declared) (h : Origin d) → (h.derivation ≡ Other → ⊥) → ByIt d h
    by_declarator d h known = elim (origins.declares s.tokens (nodes s) s.text (symbol_of s.text s.tokens) h.node h.standing.role h.leaf h.symbol h.linkage h.derivation h.type_name (_) h.mentions) [ inl other ↦ absurd (known other) | inr b ↦ b ]

    module _ (d : Declared) (h : HasOrigin s.text s.tokens (nodes s) d) (b : ByDeclarator s.tokens (nodes s) h.node h.standing.role h.leaf h.linkage h.derivation h.type_name) where
      which : (is_a s p_declarator h.node ≡ true) ⊎ (is_a s p_either h.node ≡ true)
      which = either_is s tree.grown h.node p_declarator p_either refl refl b.production

      outer : is_outermost s h.node ≡ true
      outer = outer_is s tree.grown h.node h.standing h.stands (subst declares_role (sym b.role_is) tt) (declaring s tree.grown h.node which)

      within : h.node < length s.nodes
      within = elim which [ inl e ↦ node_within s p_declarator h.node e refl | inr e ↦ node_within s p_either h.node e refl ]

      inside : h.node < length senses
      inside = let lt = within in omega (arith, lt, whole)

      name_is : (declarator s.tokens (nodes s) h.node).name ≡ Some d.node
      name_is = b.name ∙ ap (λ (k : ℕ). Some k) (sym (ap (λ (x : Declared). x.node) h.is))

      reached : Reached s tree.grown h.node d.node outer
      reached = name_reached s tree.grown h.node d.node outer which within name_is

      declaration : Declares s tree.grown h.node h.standing b.specifiers
      declaration = declares s tree.grown (rests_nest s tree.grown tree.nested) h.node h.standing b.specifiers h.stands b.role_is

      said : Says s senses tree.grown are whole h.node d.node (declarator s.tokens (nodes s) h.node).derivation
      said = says s senses tree.grown are whole h.node d.node inside which name_is

      by_it : IsDeclaredBy s senses h.node d.node
      by_it = leaves_declared.by_tree s senses are tree.grown brought h.node d.node inside outer said.named

      derives_are : by_it.derives ≡ said.derives
      derives_are = same_derives (sym by_it.is ∙ said.sense)
        where
          same_derives : {x y : Option ℕ} → {p q : List Derivation} → IsDeclarator x p ≡ IsDeclarator y q → p ≡ q
          same_derives e = cc

      around : option_and_then (declaration_around s) (parent_of s h.node) ≡ Some declaration.declaration
      around = ap (option_and_then (declaration_around s)) (parent_is s tree.grown declaration.parent h.node declaration.child) ∙ by declaration.around declaration.is
        where
          own_around : (i : ℕ) → is_a s p_rest i ≡ false → is_a s p_field i ≡ false → declaration_around s i ≡ Some i
          own_around i rest field = pick (is_a s p_rest i) (is_a s p_field i) rest field
            where
              pick : (a b : Bool) → a ≡ false → b ≡ false → (if a || b then parent_of s i else Some i) ≡ Some i
              pick true b e f = cc
              pick false true e f = cc
              pick false false e f = refl

          by : (declaration.parent ≡ declaration.declaration) ⊎ ((is_a s p_rest declaration.parent ≡ true) × (contains (children_at s declaration.declaration) declaration.parent ≡ true))
              → (is_a s p_external declaration.declaration ≡ true) ⊎ (is_a s p_declaration declaration.declaration ≡ true) → declaration_around s declaration.parent ≡ Some declaration.declaration
          by (inl same) (inl is) = ap (declaration_around s) same ∙ own_around declaration.declaration (apart s declaration.declaration p_external p_rest is refl) (apart s declaration.declaration p_external p_field is refl)
          by (inl same) (inr is) = ap (declaration_around s) same ∙ own_around declaration.declaration (apart s declaration.declaration p_declaration p_rest is refl) (apart s declaration.declaration p_declaration p_field is refl)
          by (inr rest) is = ap (λ (b : Bool). if b || is_a s p_field declaration.parent then parent_of s declaration.parent else Some declaration.parent) rest.0 ∙ parent_is s tree.grown declaration.declaration declaration.parent rest.1

      plain : is_parameter s (sense_in senses) d.node ≡ false
      plain = ap (λ (o : Option ℕ). elim o as (λ _. Bool) [ None ↦ false | Some p ↦ is_a s p_parameter p ]) (ap (λ (o : Option ℕ). option_and_then (declaration_around s) (option_and_then (parent_of s) o)) reached.outermost ∙ around) ∙ no_parameter declaration.is
        where
          no_parameter : (is_a s p_external declaration.declaration ≡ true) ⊎ (is_a s p_declaration declaration.declaration ≡ true) → is_a s p_parameter declaration.declaration ≡ false
          no_parameter (inl is) = apart s declaration.declaration p_external p_parameter is refl
          no_parameter (inr is) = apart s declaration.declaration p_declaration p_parameter is refl

      read : IsGiven (derived by_it.derives by_it.words.type) → Read d
      read given = record { m = h.node; outer = outer; reached = reached; by_it = by_it; inside = inside; plain = plain; given = given }

      -- one with a parameter list
      listed : h.derivation ≡ FunctionDerivation → Read d
      listed e =
          let ends : Ends said.derives = said.function (sym b.derivation_is ∙ e) in
          read (inl (subst IsFunction (sym (ap (λ (ds : List Derivation). derived ds by_it.words.type) derives_are ∙ derives_function said.derives by_it.words.type ends)) tt))

      -- the specifiers are the first part
      specs_are : (o : Option ℕ) → option_and_then (specs_of s) (outermost_of s d.node) ≡ o → specified s (F h.node) o ≡ Some by_it.words
          → (f declaration.specs ≡ IsSpecified by_it.words) × (is_a s p_specs declaration.specs ≡ true) × (declaration.specs < length senses)
      specs_are None at e = cc
      specs_are (Some c) at e =
          let sensed : F h.node c ≡ IsSpecified by_it.words = of_sense (F h.node c) e in
          let before : c < h.node = told_before s senses h.node c (IsSpecified by_it.words) sensed (λ no. never no) in
          let child : child_of s p_specs declaration.declaration ≡ Some c = sym (ap (option_and_then (specs_of s)) reached.outermost ∙ ap (option_and_then (child_of s p_specs)) around) ∙ at in
          let first = first_one (children_at s declaration.declaration) refl (ap syntax.first_of (sym (children_are s declaration.declaration)) ∙ declaration.first) child in
          (subst (λ (k : ℕ). f k ≡ IsSpecified by_it.words) (sym first.0) (sym (known s senses h.node c before) ∙ sensed), first.1, (let same = first.0 in let lt = inside in omega (arith, before, same, lt)))
        where
          never : IsSpecified by_it.words ≡ Nothing → ⊥
          never e = cc

          of_sense : (y : Sense) → (elim y as (λ _. Option Specified) [ IsSpecified x ↦ Some x | _ ↦ None ]) ≡ Some by_it.words → y ≡ IsSpecified by_it.words
          of_sense (IsSpecified x) k = ap IsSpecified (some_one k)
          of_sense y k = cc

          first_one : (ks : List ℕ) → children_at s declaration.declaration ≡ ks → syntax.first_of ks ≡ Some declaration.specs → first_where (is_a s p_specs) ks ≡ Some c → (declaration.specs ≡ c) × (is_a s p_specs declaration.specs ≡ true)
          first_one [] is k j = cc
          first_one (x ∷ ks) is k j = pick (is_a s p_specs x) refl j
            where
              same : x ≡ declaration.specs
              same = some_one k

              pick : (b : Bool) → is_a s p_specs x ≡ b → (if b then Some x else first_where (is_a s p_specs) ks) ≡ Some c → (declaration.specs ≡ c) × (is_a s p_specs declaration.specs ≡ true)
              pick true g i = (sym same ∙ some_one i, subst (λ (y : ℕ). is_a s p_specs y ≡ true) same g)
              pick false g i = let none : None ≡ Some c = sym (only declaration.declaration x ks declaration.is is) ∙ i in cc

      -- one that has the type that its specifiers name
      module _ (n : ℕ) (t : Declared) (o : HasOrigin s.text s.tokens (nodes s) t) (bare : h.derivation ≡ Bare) (type : h.type_name ≡ Some n) (pair : paired (bindings s.text s.tokens (nodes s)).uses n ≡ Some t.node) (lt : o.node < n) (earlier : Read t) where
        paired_is : paired s.uses n ≡ Some t.node
        paired_is = ap (λ (us : List (ℕ × ℕ)). paired us n) uses_are ∙ pair

        type_told : type_name s.tokens (nodes s) declaration.specs ≡ Some n
        unfolding specified_by
        type_told = sym (b.type_is ∙ ap (λ (x : Specifiers). x.type_name) declaration.specified_is) ∙ type

        named_first : (o : Option ℕ) → first_child_of (nodes s) o ≡ Some n → (k : ℕ) × (o ≡ Some k) × (syntax.first_child (nodes s) k ≡ Some n)
        named_first None e = cc
        named_first (Some k) e = (k, refl, e)

        of_name : (k : ℕ) → named_type s.tokens (nodes s) declaration.specs ≡ Some k → syntax.first_child (nodes s) k ≡ Some n → Read d
        unfolding named_type
        of_name k e first =
            let found = found_in (λ child. syntax.is_of (nodes s) p_type child && begins_with_name s.tokens (nodes s) child) (syntax.children_at (nodes s) declaration.specs) k e in
            let test = both (syntax.is_of (nodes s) p_type k) (begins_with_name s.tokens (nodes s) k) found.1 in
            let child : contains (children_at s declaration.specs) k ≡ true = subst (λ (l : List ℕ). contains l k ≡ true) (children_are s declaration.specs) found.0 in
            let is : is_a s p_type k ≡ true = sym (part_same s p_type k refl refl) ∙ test.0 in
            let specs = specs_are (option_and_then (specs_of s) (outermost_of s d.node)) refl by_it.told in
            let below = tree.grown.before declaration.specs k child in
            let bound = specs.2 in
            let small : k < length senses = omega (arith, below, bound) in
            let row = named_row s senses tree.grown are whole brought uses_named k n small is first (uses_named n t.node paired_is) in
            let under : n < k = tree.grown.before k n (first_part k first) in
            let same : o.node ≡ earlier.m = declared_by_outermost s tree.grown t earlier.m t.node earlier.outer earlier.reached o refl in
            let meaning = meant k n t earlier (omega (arith, lt, under, same)) paired_is row in
            of_type (specified_is s senses tree.grown are whole brought uses_named declaration.specs k n bound specs.1 meaning.0 meaning.1 by_it.words specs.0 e) meaning.2
          where
            first_part : (k : ℕ) → syntax.first_child (nodes s) k ≡ Some n → contains (children_at s k) n ≡ true
            first_part k e = by (children_at s k) (ap syntax.first_of (sym (children_are s k)) ∙ e)
              where
                by : (l : List ℕ) → syntax.first_of l ≡ Some n → contains l n ≡ true
                by [] q = cc
                by (x ∷ l) q = let same : x ≡ n = some_one q in ap (λ (b : Bool). b || contains l n) (eq-eqb x n same)

            none : by_it.derives ≡ []
            none = derives_are ∙ said.bare (sym b.derivation_is ∙ bare)

            of_type : {T : Ctype} → IsNamedType by_it.words.type ⊎ (by_it.words.type ≡ T) → IsGiven T → Read d
            of_type (inl named) given = read (inr (subst (λ (ds : List Derivation). IsNamedType (derived ds by_it.words.type)) (sym none) named))
            of_type (inr same) given = read (subst (λ (ds : List Derivation). IsGiven (derived ds by_it.words.type)) (sym none) (subst IsGiven (sym same) given))

        typed : Read d
        unfolding type_name
        typed = let first = named_first (named_type s.tokens (nodes s) declaration.specs) type_told in of_name first.0 first.1 first.2

    abbrev names : List Declared
    names = (bindings s.text s.tokens (nodes s)).names

    abbrev uses : List (ℕ × ℕ)
    uses = (bindings s.text s.tokens (nodes s)).uses

    reads : (d : Declared) → IsFunctionBy s.text s.tokens (nodes s) uses names d → Read d
    reads d (Listed h e) = listed d h (by_declarator d h (λ other. let no : Other ≡ FunctionDerivation = sym other ∙ e in cc)) e
    reads d (Typed n t h o bare type pair inside lt more) = typed d h (by_declarator d h (λ other. let no : Other ≡ Bare = sym other ∙ bare in cc)) n t o bare type pair lt (reads t more)

    -- what is found by a leaf is one of those that are declared
    found_entry : (leaf : ℕ) (ds : List Declared) (y : Declared) → entry_of ds leaf ≡ Some y → In y ds × (y.node ≡ leaf)
    found_entry leaf [] y e = cc
    found_entry leaf (x ∷ xs) y e = by (nat_eq x.node leaf) refl e (found_entry leaf xs y)
      where
        by : (b : Bool) → nat_eq x.node leaf ≡ b → cond b (Some x) (find (λ (d : Declared). d.node == leaf) xs) ≡ Some y → (entry_of xs leaf ≡ Some y → In y xs × (y.node ≡ leaf)) → In y (x ∷ xs) × (y.node ≡ leaf)
        by true h k later = let same : x ≡ y = some_one k in (inl same, ap (λ (d : Declared). d.node) (sym same) ∙ eqb-true x.node leaf h)
        by false h k later = let r = later k in (inr r.0, r.1)

    pub functions_given : (leaf : ℕ) (t : Ctype) → declares_function s (sense_in senses) leaf ≡ true → own_type s (sense_in senses) leaf ≡ Some t → IsFunction t ⊎ IsNamedType t
    functions_given leaf t function own = by (ordinary_at s leaf) refl function
      where
        of_read : (y : Declared) → y.node ≡ leaf → Read y → IsFunction t ⊎ IsNamedType t
        of_read y same r =
            let type = typed_in (sense_in senses) y.node r.m r.by_it (later.known_later s senses r.m) r.by_it.is r.plain r.given in
            subst IsGiven (some_one (sym type ∙ (ap (own_type s (sense_in senses)) same ∙ own))) r.given

        by : (o : Option Declared) → ordinary_at s leaf ≡ o → (elim o as (λ _. Bool) [ None ↦ false | Some d ↦ d.is_function && not (names_type d) ]) ≡ true → IsFunction t ⊎ IsNamedType t
        by None at h = cc
        by (Some y) at h =
            let found = found_entry leaf s.declared.ordinary y at in
            of_read y found.1 (reads y (functions_come s.text s.tokens (nodes s) y (subst (λ (ds : List Declared). In y ds) tree.names found.0) (both y.is_function (not (names_type y)) h).0))
