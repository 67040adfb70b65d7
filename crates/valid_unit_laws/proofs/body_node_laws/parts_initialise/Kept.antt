-- What the initialisers of a name that is no automatic object are: each stays where it stands, in the rest of a declaration.
use Rattle.std.proofs.Common.{arith, ◌≡◌, ◌<◌, ℕ, nat_eq, ◌&&◌, ◌||◌, Bool, true, false, List, [], ◌∷◌, Option, Some, None, take, length, eq-eqb, refl, sym, ap, ◌∙◌, subst, ◌⊎◌, inl, inr}
use Rattle.std.specs.Prelude.{is_none, option_and_then, if◌then◌else◌}
use Rattle.std.proofs.lemmas.Bool.{eqb-true}
use Rattle.c_lexer.specs.declared.Tokens.{Tokens}
use Rattle.c_lexer.specs.Cut.{IsTokens}
use Rattle.c_grammar.specs.declared.trees.Tree.{Tree}
use Rattle.c_grammar.specs.Productions.{p_external, p_rest, p_field, p_declaration, p_declarator, p_parameter, p_init}
use Rattle.c_grammar.specs.Terminals.{contains}
use Rattle.c_grammar.specs.Words.{word_extern, word_static}
use Rattle.c_parser.specs.c_units.Units.{IsUnit}
use Rattle.core_tree.specs.declared.node.NodeKind.TheVariants.{Initialise}
use Rattle.core_tree.specs.declared.node.Linkage.TheVariants.{Internal, External, Local}
use Rattle.core_tree.specs.declared.node.Linkage.{Linkage}
use Rattle.core_tree.specs.declared.node.Storage.TheVariants.{Static, Automatic, FunctionBody, Parameter, Declared}
use Rattle.c_consts.specs.Core.{Core, kind_of}
use Rattle.c_inits.specs.Shapes.{Path}
use Rattle.c_senses.specs.Names.{source_of, numbered}
use Rattle.c_senses.specs.Tree.{Source, is_a, production_at, parent_of}
use Rattle.c_senses.specs.Sense.{Sense, Nothing, IsDeclarator, IsInitial, Derivation, sense_in}
use Rattle.c_senses.specs.Rows.{AreSenses, world_at}
use Rattle.c_senses.specs.Declarators.{declaration_around, is_outermost}
use Rattle.c_senses.specs.Entities.{keep, first_of, is_defined, is_parameter, is_at_file, is_internal, is_linked, declares_function, has_storage, declaration_of, storage_of, entity_of, initialiser_for, initialised_by}
use Rattle.c_senses.specs.Statements.{is_automatic_object, runs_initialiser}
use Rattle.c_senses.specs.Right.{Declared as Declares, of_internal, is_definition_at, is_tentative, representative, declared_name, is_declaring, is_defined_parameter, stands_in_declaration}
use Rattle.parsed_tree_laws.proofs.family_laws.Reading.{units_families}
use Rattle.parsed_tree_laws.specs.sign_parts.Parts.{IsBrought}
use Rattle.parsed_tree_laws.proofs.sign_parts.Reading as signs
use Rattle.parsed_tree_laws.proofs.grown_parts.Reading.{units_bring}
use Rattle.declaration_laws.specs.declared_type_laws.declared_leaves.Leaves.{IsDeclaredBy}
use Rattle.declaration_laws.proofs.declared_type_laws.declared_leaves.Climbing.{leaves_declared}
use Rattle.declaration_laws.proofs.function_laws.passed.definition_laws.linkage_laws.Seen.{some_same, no_both, parent_is, parent_holds}
use Rattle.declaration_laws.proofs.function_laws.passed.definition_laws.linkage_laws.Linked as linked
use Rattle.declaration_laws.proofs.function_laws.passed.definition_laws.linkage_laws.Reading.{tree_is}
use Rattle.core_node_laws.proofs.built_unit_laws.run_laws.Times.{known_at, told_before}
use Rattle.declaration_laws.proofs.function_laws.passed.definition_laws.single_initialisers.Apart.{stands_outermost}
use Rattle.declaration_laws.proofs.function_laws.passed.definition_laws.single_initialisers.Parts.{member, Holds, in_rest, in_other, holder, inner_holder, item_in, no_declarator_in}
use Rattle.declaration_laws.proofs.declared_type_laws.known_entities.Known.{entities_known}
use Rattle.valid_unit_laws.specs.body_node_laws.own_initials.PassedOn.{IsOwnInitial}
use Rattle.valid_unit_laws.proofs.body_node_laws.own_initials.PassedOn.{initialisers_own}
use Rattle.valid_unit_laws.proofs.body_node_laws.own_initials.Names.{both}
use Rattle.valid_unit_laws.proofs.body_node_laws.own_initials.Rests.{name_in, seen_later, Place, beside, above, place_of}
use Rattle.valid_unit_laws.proofs.body_node_laws.parts_initialise.Stored.{runs_for, automatic_later, stands_for}

-- a name with linkage is no automatic object
no_automatic : (p f d x n a t : Bool) → p ≡ false → (f || (a || x)) ≡ true
    → (if p then Parameter else if f then (if d then FunctionBody else Declared) else if x && n then Declared else if a || (t || x) then Static else Automatic) ≡ Automatic → ⊥
no_automatic true f d x n a t e h k = cc
no_automatic false true true x n a t e h k = cc
no_automatic false true false x n a t e h k = cc
no_automatic false false d true true a t e h k = cc
no_automatic false false d true false true t e h k = cc
no_automatic false false d true false false true e h k = cc
no_automatic false false d true false false false e h k = cc
no_automatic false false d false n true t e h k = cc
no_automatic false false d false n false t e h k = cc

-- where a declaration stands
abbrev IsDeclaration : Source → ℕ → Type 0
IsDeclaration s a = (is_a s p_external a ≡ true) ⊎ ((is_a s p_declaration a ≡ true) ⊎ (is_a s p_parameter a ≡ true))

module _ (s : Source) (tree : linked.Tree s) (brought : IsBrought s) (f : ℕ → Sense) (i m : ℕ) where
  abbrev in_node : ℕ → ℕ → Option ℕ
  in_node p n = if nat_eq n p_rest || nat_eq n p_field then parent_of s p else Some p

  -- the initialiser of a declarator of a declaration stands in a rest
  rest_holds : (p a : ℕ) → is_a s p_init i ≡ true → parent_of s i ≡ Some p → Place s tree f i m p → option_and_then (declaration_around s) (parent_of s m) ≡ Some a → IsDeclaration s a → is_a s p_rest p ≡ true
  rest_holds p a is up (above b over h declarator) e declaration =
      by (inner_holder s brought b p i over (parent_holds s tree.grown p i up) (eqb-true (production_at s i) p_init is))
    where
      by : (production_at s p ≡ 2) ⊎ (production_at s p ≡ 27) → is_a s p_rest p ≡ true
      by (inl x) = eq-eqb (production_at s p) p_rest x
      by (inr x) = absurd (no_declarator_in s brought b m (item_in s brought b p over x) h (eqb-true (production_at s m) p_declarator declarator))
  rest_holds p a is up (beside h declarator) e declaration = by (holder s brought p i (parent_holds s tree.grown p i up) (eqb-true (production_at s i) p_init is))
    where
      own : declaration_around s p ≡ Some a
      own = sym (ap (option_and_then (declaration_around s)) (parent_is s tree.grown p m h)) ∙ e

      one_of : (n : ℕ) → production_at s a ≡ n → (nat_eq n p_external ≡ false) → (nat_eq n p_declaration ≡ false) → (nat_eq n p_parameter ≡ false) → IsDeclaration s a → ⊥
      one_of n x b c d (inl k) = no_both (nat_eq n p_external) (ap (λ (q : ℕ). nat_eq q p_external) (sym x) ∙ k) b
      one_of n x b c d (inr (inl k)) = no_both (nat_eq n p_declaration) (ap (λ (q : ℕ). nat_eq q p_declaration) (sym x) ∙ k) c
      one_of n x b c d (inr (inr k)) = no_both (nat_eq n p_parameter) (ap (λ (q : ℕ). nat_eq q p_parameter) (sym x) ∙ k) d

      no_one : (n : ℕ) → production_at s p ≡ n → in_node p n ≡ Some p → nat_eq n p_external ≡ false → nat_eq n p_declaration ≡ false → nat_eq n p_parameter ≡ false → ⊥
      no_one n x out b c d =
          let same : p ≡ a = some_same (sym (ap (in_node p) x ∙ out) ∙ own) in
          one_of n (ap (production_at s) (sym same) ∙ x) b c d declaration

      third : (55 ≡ production_at s p) ⊎ (contains [] (production_at s p) ≡ true) → ⊥
      third (inl x) = no_one 55 (sym x) refl refl refl refl
      third (inr x) = cc

      second : (54 ≡ production_at s p) ⊎ (contains (55 ∷ []) (production_at s p) ≡ true) → ⊥
      second (inl x) = no_one 54 (sym x) refl refl refl refl
      second (inr x) = third (member 55 (production_at s p) [] x)

      first : (27 ≡ production_at s p) ⊎ (contains (54 ∷ 55 ∷ []) (production_at s p) ≡ true) → ⊥
      first (inl x) = no_one 27 (sym x) refl refl refl refl
      first (inr x) = second (member 54 (production_at s p) (55 ∷ []) x)

      by : Holds s brought p → is_a s p_rest p ≡ true
      by (in_rest x) = eq-eqb (production_at s p) p_rest x
      by (in_other x) = absurd (first (member 27 (production_at s p) (54 ∷ 55 ∷ []) x))

module _ (tokens : Tokens) (unit : ℕ) (tree : Tree) (tag_number : ℕ → ℕ) (senses : List Sense) (cut : IsTokens tokens.text.now tokens.list.items) (read : IsUnit tokens unit tree)
    (are : AreSenses (numbered tag_number (source_of tokens tree)) senses) (whole : length senses ≡ length (numbered tag_number (source_of tokens tree)).nodes)
  where
    abbrev s : Source
    s = numbered tag_number (source_of tokens tree)

    abbrev sense : ℕ → Sense
    sense i = sense_in senses i

    abbrev t : linked.Tree s
    t = tree_is tokens unit tree read tag_number

    -- an initialiser of the entity that is known by a leaf, as its row sees it
    pub record Makes (k i : ℕ) : Type 0 where
      pub declarator : ℕ
      pub leaf : ℕ
      pub is : is_a s p_init i ≡ true
      pub by_it : initialised_by s (sense_in (take i senses)) i ≡ Some declarator
      pub named : name_in (sense_in (take i senses) declarator) ≡ Some leaf
      pub entity : entity_of s (sense_in (take i senses)) leaf ≡ k

    -- it is an initialiser that stays
    pub record Kept (k i : ℕ) : Type 0 where
      pub above : ℕ
      pub core : Core
      pub length_given : Option ℕ
      pub paths : List Path
      pub parent : parent_of s i ≡ Some above
      pub rest : is_a s p_rest above ≡ true
      pub sensed : sense i ≡ IsInitial core length_given
      pub kind : kind_of core ≡ Initialise k paths
      pub stays : runs_initialiser (world_at s (take above senses) above) s (sense_in (take above senses)) i ≡ false

    no_name : (x : Sense) (l : ℕ) → name_in x ≡ Some l → x ≡ Nothing → ⊥
    no_name Nothing l e none = cc
    no_name x l e none = cc

    if_off : (b : Bool) (x y : ℕ) → b ≡ false → (if b then x else y) ≡ y
    if_off false x y e = refl
    if_off true x y e = cc

    module _ (k : ℕ) (what : Declares) (told : declared_name s senses k ≡ Some what) (lasts : what.storage ≡ Automatic → ⊥) (i : ℕ) (h : Makes k i) where
      abbrev m : ℕ
      m = h.declarator

      abbrev l : ℕ
      l = h.leaf

      outer : is_outermost s m ≡ true
      outer = stands_outermost s t (units_families tokens unit tree tag_number cut read) (signs.units_bring tokens unit tree tag_number read) (sense_in (take i senses)) i m h.is h.by_it

      last : (ds : List Derivation) × (sense m ≡ IsDeclarator (Some l) ds) × (m < length senses)
      last = seen_later senses i m l h.named

      declared : IsDeclaredBy s senses m l
      declared = leaves_declared.by_sense s senses are t.grown (units_bring tokens unit tree tag_number read) m l last.0 last.2 outer last.1

      before : m < i
      before = told_before s senses i m (known_at s senses i m) refl (λ none. no_name (known_at s senses i m) l h.named none)

      entity : entity_of s sense l ≡ k
      entity = sym (entities_known tokens unit tree tag_number senses cut read l m i declared.outermost (let b = before in omega (arith, b))).entity ∙ h.entity

      -- the name has linkage, or is the entity's own
      own : is_linked s sense l ≡ false → l ≡ k
      own off = sym (if_off (is_internal s sense l) _ l (internal_off (is_linked s sense l) _ off)) ∙ entity
        where
          internal_off : (a b : Bool) → a ≡ false → (a && b) ≡ false
          internal_off false b e = refl
          internal_off true b e = cc

      declaration : (a : ℕ) × (declaration_of s sense l ≡ Some a) × IsDeclaration s a
      declaration = by (is_linked s sense l) refl
        where
          by : (b : Bool) → is_linked s sense l ≡ b → (a : ℕ) × (declaration_of s sense l ≡ Some a) × IsDeclaration s a
          by true e =
              let (y, at, kind, n) = linked.linked_named s t senses are whole l e in
              (n.at.declaration, linked.declaration_is s t senses are whole l y n, pick n.at.declaration n.at.is)
            where
              pick : (a : ℕ) → (is_a s p_external a ≡ true) ⊎ (is_a s p_declaration a ≡ true) → IsDeclaration s a
              pick a (inl x) = inl x
              pick a (inr x) = inr (inl x)
          by false e =
              let f = stands_for tokens unit tree tag_number senses cut read are whole k what told in
              let parts = both (is_declaring s senses k) _ f.known_entity in
              subst (λ (z : ℕ). (a : ℕ) × (declaration_of s sense z ≡ Some a) × IsDeclaration s a) (sym (own e)) (stood (declaration_of s sense k) refl (both (stands_in_declaration s senses k) _ parts.1).0)
            where
              three : (a : ℕ) (b : Bool) → (x y z : Bool) → is_a s p_external a ≡ x → is_a s p_declaration a ≡ y → is_a s p_parameter a ≡ z → (x || (y || (z && b))) ≡ true → IsDeclaration s a
              three a b true y z e f g h = inl e
              three a b false true z e f g h = inr (inl f)
              three a b false false true e f g h = inr (inr g)
              three a b false false false e f g h = cc

              stood : (o : Option ℕ) → declaration_of s sense k ≡ o → (elim o as (λ _. Bool) [ None ↦ false | Some p ↦ is_a s p_external p || (is_a s p_declaration p || (is_a s p_parameter p && is_defined_parameter s senses k)) ]) ≡ true
                  → (a : ℕ) × (declaration_of s sense k ≡ Some a) × IsDeclaration s a
              stood None e h = cc
              stood (Some a) e h = (a, e, three a (is_defined_parameter s senses k) (is_a s p_external a) (is_a s p_declaration a) (is_a s p_parameter a) refl refl refl h)

      place : (p : ℕ) × (parent_of s i ≡ Some p) × Place s t (sense_in (take i senses)) i m p
      place = place_of s t (sense_in (take i senses)) i m h.by_it

      rest : is_a s p_rest place.0 ≡ true
      rest =
          let around : option_and_then (declaration_around s) (parent_of s m) ≡ Some declaration.0 = sym (ap (λ (o : Option ℕ). option_and_then (declaration_around s) (option_and_then (parent_of s) o)) declared.outermost) ∙ declaration.1 in
          rest_holds s t (signs.units_bring tokens unit tree tag_number read) (sense_in (take i senses)) i m place.0 declaration.0 h.is place.1 place.2 around declaration.2

      initial : IsOwnInitial s senses i
      initial = initialisers_own tokens unit tree tag_number senses cut read are whole i place.0 h.is place.1 rest

      same_declarator : initial.declarator ≡ m
      same_declarator = some_same (sym initial.by_it ∙ h.by_it)

      same_name : initial.leaf ≡ l
      same_name = let both_are : IsDeclarator (Some initial.leaf) initial.derives ≡ IsDeclarator (Some l) last.0 = sym initial.named ∙ (ap sense same_declarator ∙ last.1) in cc

      -- it is no automatic object's
      no_auto : storage_of s sense l ≡ Automatic → ⊥
      no_auto auto = by (is_linked s sense l) refl
        where
          by : (b : Bool) → is_linked s sense l ≡ b → ⊥
          by true e =
              let stands = linked.stands_linked s t senses are whole l e in
              no_automatic (is_parameter s sense l) (declares_function s sense l) (is_defined s sense l) (has_storage s sense word_extern l) (is_none (initialiser_for s sense l)) (is_at_file s sense l) (has_storage s sense word_static l) stands.parameter stands.declared auto
          by false e =
              let f = stands_for tokens unit tree tag_number senses cut read are whole k what told in
              let same = own e in
              let unlinked : is_linked s sense k ≡ false = subst (λ (z : ℕ). is_linked s sense z ≡ false) same e in
              lasts (f.storage (subst (λ (z : ℕ). storage_of s sense z ≡ Automatic) (same ∙ sym (stands unlinked)) auto))
            where
              chosen : Linkage → ℕ
              chosen linkage =
                  elim linkage as (λ _. ℕ) [
                    | Internal ↦ first_of s sense (first_of s sense k (keep s sense (is_tentative s senses) (of_internal s senses k))) (keep s sense (is_definition_at s senses) (of_internal s senses k))
                    | _ ↦ k
                  ]

              local : (a b : Bool) → a ≡ false → (if a && b then Internal else (if a then External else Local)) ≡ Local
              local false b e = refl
              local true b e = cc

              stands : is_linked s sense k ≡ false → representative s senses k ≡ k
              stands off = ap chosen (local (is_linked s sense k) _ off)

      runs_not : (b : Bool) → runs_initialiser (world_at s (take place.0 senses) place.0) s (sense_in (take place.0 senses)) i ≡ b → runs_initialiser (world_at s (take place.0 senses) place.0) s (sense_in (take place.0 senses)) i ≡ false
      runs_not false e = e
      runs_not true e =
          let q = place.0 in
          let (r, named, auto) = runs_for (world_at s (take q senses) q) s (known_at s senses q) i m h.by_it e in
          let lower = told_before s senses q m (known_at s senses q m) refl (λ none. no_name (known_at s senses q m) r named none) in
          let (ds, told_last, lt) = seen_later senses q m r named in
          let both_are : IsDeclarator (Some r) ds ≡ IsDeclarator (Some l) last.0 = sym told_last ∙ last.1 in
          let same : r ≡ l = cc in
          absurd (no_auto (automatic_later s senses (world_at s (take q senses) q) q m l declared.words lower declared.told (subst (λ (z : ℕ). is_automatic_object (world_at s (take q senses) q) s (known_at s senses q) z ≡ true) same auto)))

      pub kept : Kept k i
      kept = record {
        above = place.0;
        core = initial.core;
        length_given = initial.length_given;
        paths = initial.paths;
        parent = place.1;
        rest = rest;
        sensed = initial.is;
        kind = initial.kind ∙ ap (λ (z : ℕ). Initialise z initial.paths) (ap (entity_of s sense) same_name ∙ entity);
        stays = runs_not (runs_initialiser (world_at s (take place.0 senses) place.0) s (sense_in (take place.0 senses)) i) refl;
      }
