-- The lists of blocks and of `for` statements have names that declare.
use Rattle.std.proofs.Common.{arith, ◌≡◌, ◌∙◌, ◌<◌, ℕ, zero, suc, nat_eq, eq-eqb, not, ◌&&◌, ◌||◌, ◌⊎◌, inl, inr, Bool, true, false, List, [], ◌∷◌, ◌++◌, length, take, Option, Some, None, refl, sym, ap, subst}
use Rattle.std.specs.Prelude.{⊤, option_and_then, option_map, if◌then◌else◌}
use Rattle.std.proofs.lemmas.Bool.{eqb-true}
use Rattle.c_lexer.specs.declared.Tokens.{Tokens}
use Rattle.c_lexer.specs.Cut.{IsTokens}
use Rattle.c_grammar.specs.declared.trees.Tree.{Tree}
use Rattle.c_grammar.specs.Terminals.{contains}
use Rattle.c_grammar.specs.Productions.{p_external, p_rest, p_declaration, p_declarator, p_abstract, p_either, p_parameter, p_field}
use Rattle.c_grammar.specs.Words.{word_extern, word_static}
use Rattle.c_parser.specs.c_units.Units.{IsUnit}
use Rattle.c_types.specs.Trees.{Ctype}
use Rattle.core_tree.specs.declared.node.Linkage.{Linkage}
use Rattle.core_tree.specs.declared.node.Linkage.TheVariants.{External, Internal, Local}
use Rattle.core_tree.specs.declared.node.NodeKind.TheVariants.{Block, For, VarArgs}
use Rattle.c_consts.specs.Core.{Core, Cores, Of, NoCores, MoreCores, kind_of, core_in}
use Rattle.c_senses.specs.Names.{source_of, numbered, ordinary_at, linked_before}
use Rattle.c_senses.specs.Tree.{Source, is_a, is_name, children_at, parent_of, production_at}
use Rattle.c_senses.specs.World.{World, Meaning, Object, Function, TypeName, Tag, Value, same_length}
use Rattle.c_senses.specs.Sense.{Sense, IsCore, IsDeclarator, IsInitial, Specified, Derivation, sense_in}
use Rattle.c_senses.specs.Rows.{AreSenses, world_at}
use Rattle.c_senses.specs.Declarators.{is_declarator, is_outermost, outermost_of, declaration_around, derived}
use Rattle.c_senses.specs.Entities.{is_typedef, is_parameter, is_internal, is_linked, is_at_file, is_static_at_file, is_without_storage, some_such, has_storage, declares_function, declaration_of, specified_of, derived_type, own_type, length_given_by, parameter_type, first_of, internal_among, initialiser_for, with_length, entity_of, linkage_of}
use Rattle.c_senses.specs.Statements.{is_automatic_object, automatic_name, objects_among, objects_in_rest, objects_declared, objects_in}
use Rattle.c_senses.specs.Right.{core_of_sense, declared_as, declared_name, declares_entity, is_declaring, is_defined_parameter, stands_in_declaration, entity_type, internal_type, representative, IsPart, Within, Itself, Below}
use Rattle.c_senses.specs.Right as right
use Rattle.core_node_laws.specs.near_nodes.Holding.{Holds, AllHold, OfSense, MeaningGives, RowGives, Closed}
use Rattle.core_node_laws.proofs.near_nodes.All.{near_kept}
use Rattle.core_node_laws.proofs.built_unit_laws.run_laws.Automatic.{local_of, local_as}
use Rattle.core_node_laws.proofs.count_laws.once_nodes.Rooted.{OfBlock, OfInitial, body_is, body_by}
use Rattle.core_node_laws.specs.built_unit_laws.built_laws.Placed.{IsInBody}
use Rattle.declaration_laws.proofs.function_laws.passed.definition_laws.linkage_laws.Seen.{some_same, apart, node_within, parent_is}
use Rattle.declaration_laws.proofs.function_laws.passed.definition_laws.linkage_laws.Linked as linked
use Rattle.declaration_laws.proofs.function_laws.passed.definition_laws.linkage_laws.Reading.{tree_is}
use Rattle.parsed_tree_laws.proofs.grown_parts.Reading.{units_bring}
use Rattle.declaration_laws.specs.declared_type_laws.declared_leaves.Leaves.{IsDeclaredBy}
use Rattle.declaration_laws.proofs.declared_type_laws.declared_leaves.Climbing.{leaves_declared}
use Rattle.valid_unit_laws.specs.body_node_laws.parts_named.Named.{IsDeclared, AreDeclared}
use Rattle.declaration_laws.proofs.declared_type_laws.known_entities.Further.{further_found}
use Rattle.valid_unit_laws.proofs.body_node_laws.parts_named.Owners.{named_name}
use Rattle.valid_unit_laws.proofs.body_node_laws.parts_named.Linked.{entity_declared}
use Rattle.valid_unit_laws.proofs.body_node_laws.parts_named.Roots.{seen_declarator, words_kept}

both_true : (a b : Bool) → a ≡ true → b ≡ true → (a && b) ≡ true
both_true true true e f = refl
both_true true false e f = cc
both_true false b e f = cc

or_right : (a b : Bool) → b ≡ true → (a || b) ≡ true
or_right true b e = refl
or_right false b e = e

or_left : (a b : Bool) → a ≡ true → (a || b) ≡ true
or_left true b e = refl
or_left false b e = cc

not_internal : (linked file static extern function without such : Bool) → file ≡ false → extern ≡ false → function ≡ false → (linked && ((file && static) || ((extern || (function && without)) && such))) ≡ false
not_internal false a t x f o e h i j = refl
not_internal true true t x f o e h i j = cc
not_internal true false t true f o e h i j = cc
not_internal true false t false true o e h i j = cc
not_internal true false t false false o e h i j = refl

module _ (tokens : Tokens) (unit : ℕ) (tree : Tree) (tag_number : ℕ → ℕ) (senses : List Sense) (cut : IsTokens tokens.text.now tokens.list.items) (read : IsUnit tokens unit tree)
    (are : AreSenses (numbered tag_number (source_of tokens tree)) senses) (whole : length senses ≡ length (numbered tag_number (source_of tokens tree)).nodes)
  where
    abbrev s : Source
    s = numbered tag_number (source_of tokens tree)

    abbrev sense : ℕ → Sense
    sense i = sense_in senses i

    abbrev t : linked.Tree s
    t = tree_is tokens unit tree read tag_number

    abbrev before : ℕ → ℕ → Sense
    before i = sense_in (take i senses)

    -- a name without linkage that is declared in a declaration, or as a parameter of a definition
    module _ (leaf m : ℕ) (d : IsDeclaredBy s senses m leaf) where
      pub declaring : is_declaring s senses leaf ≡ true
      declaring =
          both_true (is_name s leaf) _ (named_name s m leaf d.named)
          (ap (λ (o : Option ℕ). elim o as (λ _. Bool) [ None ↦ false | Some x ↦ elim (sense x) as (λ _. Bool) [ IsDeclarator name ds ↦ same_length name (Some leaf) | _ ↦ false ] ]) d.outermost
          ∙ (ap (λ (y : Sense). elim y as (λ _. Bool) [ IsDeclarator name ds ↦ same_length name (Some leaf) | _ ↦ false ]) d.is ∙ eq-eqb leaf leaf refl))

      told : specified_of s sense leaf ≡ Some d.words
      told = sym (words_kept tokens unit tree tag_number senses cut read are whole leaf m m d.words (omega arith) d.told) ∙ d.told

      pub typed : is_parameter s sense leaf ≡ false → (x : Ctype) × (own_type s sense leaf ≡ Some x)
      typed off = (
        with_length (length_given_by s sense (initialiser_for s sense leaf)) (derived d.derives d.words.type),
        ap (λ (b : Bool). if b then right_side else option_map (with_length (length_given_by s sense (initialiser_for s sense leaf))) (derived_type s sense (specified_of s sense leaf) (outermost_of s leaf))) off
            ∙ ap (option_map (with_length (length_given_by s sense (initialiser_for s sense leaf))))
            (ap (λ (o : Option Specified). derived_type s sense o (outermost_of s leaf)) told
            ∙ (ap (derived_type s sense (Some d.words)) d.outermost ∙ ap (λ (y : Sense). elim y as (λ _. Option Ctype) [ IsDeclarator name ds ↦ Some (derived ds d.words.type) | _ ↦ None ]) d.is)),
      )
        where
          right_side : Option Ctype
          right_side = parameter_type s sense (declaration_of s sense leaf)

      pub plain_declared : stands_in_declaration s senses leaf ≡ true → is_typedef s sense leaf ≡ false → is_internal s sense leaf ≡ false → is_parameter s sense leaf ≡ false → IsDeclared s senses leaf
      plain_declared stands untyped unshared off =
          let (x, type) = typed off in
          let own : entity_of s sense leaf ≡ leaf = ap (λ (b : Bool). if b then first_of s sense leaf (internal_among s sense s.declared.ordinary (ordinary_at s leaf)) else leaf) unshared in
          let declares : declares_entity s senses leaf ≡ true =
          both_true (is_declaring s senses leaf) _ declaring (both_true (stands_in_declaration s senses leaf) _ stands (both_true (not (is_typedef s sense leaf)) _ (ap not untyped) (eq-eqb (entity_of s sense leaf) leaf own))) in
          let linkage : (b : Bool) → is_linked s sense leaf ≡ b → entity_type s senses leaf ≡ own_type s sense leaf =
          λ b e. by b (ap (λ (a : Bool). if a then Internal else (if is_linked s sense leaf then External else Local)) unshared ∙ ap (λ (a : Bool). if a then External else Local) e) in (
            declared_as s senses leaf x,
            ap (λ (b : Bool). if b then option_map (declared_as s senses leaf) (entity_type s senses leaf) else None) declares
                ∙ ap (option_map (declared_as s senses leaf)) (linkage (is_linked s sense leaf) refl ∙ type),
          )
        where
          by : (b : Bool) → linkage_of s sense leaf ≡ (if b then External else Local) → entity_type s senses leaf ≡ own_type s sense leaf
          by true e = ap (λ (l : Linkage). elim l as (λ _. Option Ctype) [ Internal ↦ internal_type s senses leaf | _ ↦ own_type s sense leaf ]) e
          by false e = ap (λ (l : Linkage). elim l as (λ _. Option Ctype) [ Internal ↦ internal_type s senses leaf | _ ↦ own_type s sense leaf ]) e

    -- ---- the declarators of a declaration

    abbrev Above : ℕ → ℕ → Type 0
    Above p r = (r ≡ p) ⊎ ((contains (children_at s p) r ≡ true) × (is_a s p_rest r ≡ true))

    no_declarator : (r p : ℕ) → is_a s p_declaration p ≡ true → Above p r → is_declarator s r ≡ false
    no_declarator r p is (inl same) = ap (λ (q : ℕ). (nat_eq q 19 || nat_eq q 20) || nat_eq q 21) (eqb-true (production_at s r) p_declaration (subst (λ (k : ℕ). is_a s p_declaration k ≡ true) (sym same) is))
    no_declarator r p is (inr (child, rest)) = ap (λ (q : ℕ). (nat_eq q 19 || nat_eq q 20) || nat_eq q 21) (eqb-true (production_at s r) p_rest rest)

    around : (r p : ℕ) → is_a s p_declaration p ≡ true → Above p r → declaration_around s r ≡ Some p
    around r p is (inl same) =
        let here = subst (λ (k : ℕ). is_a s p_declaration k ≡ true) (sym same) is in
        ap (λ (b : Bool). if b || is_a s p_field r then parent_of s r else Some r) (apart s r p_declaration p_rest here refl)
        ∙ (ap (λ (b : Bool). if b then parent_of s r else Some r) (apart s r p_declaration p_field here refl) ∙ ap (λ (k : ℕ). Some k) same)
    around r p is (inr (child, rest)) = ap (λ (b : Bool). if b || is_a s p_field r then parent_of s r else Some r) rest ∙ parent_is s t.grown p r child

    outer_there : (r c p : ℕ) → contains (children_at s r) c ≡ true → is_a s p_declarator c ≡ true → is_a s p_declaration p ≡ true → Above p r → is_outermost s c ≡ true
    outer_there r c p child is declaration over =
        ap (λ (b : Bool). ((b || is_a s p_abstract c) || is_a s p_either c) && elim (parent_of s c) as (λ _. Bool) [ None ↦ true | Some q ↦ not (is_declarator s q) ]) is
        ∙ (ap (λ (o : Option ℕ). elim o as (λ _. Bool) [ None ↦ true | Some q ↦ not (is_declarator s q) ]) (parent_is s t.grown r c child) ∙ ap not (no_declarator r p declaration over))

    pub record IsThere (p r c leaf : ℕ) : Type 0 where
      pub declared : IsDeclaredBy s senses c leaf
      pub declaration : declaration_of s sense leaf ≡ Some p

    pub there : (n p r c leaf : ℕ) (ds : List Derivation) → contains (children_at s r) c ≡ true → is_a s p_declarator c ≡ true → is_a s p_declaration p ≡ true → Above p r → before n c ≡ IsDeclarator (Some leaf) ds → IsThere p r c leaf × (c < n)
    there n p r c leaf ds child is declaration over seen =
        let (es, later, lt) = seen_declarator tokens unit tree tag_number senses cut read are whole n c leaf (ap (λ (y : Sense). elim y as (λ _. Option ℕ) [ IsDeclarator name xs ↦ name | _ ↦ None ]) seen) in
        let few : c < length senses = (let inside = node_within s p_declarator c is refl in omega (arith, inside, whole)) in
        let d = leaves_declared.by_sense s senses are t.grown (units_bring tokens unit tree tag_number read) c leaf es few (outer_there r c p child is declaration over) later in (
          record {
            declared = d;
            declaration = ap (λ (o : Option ℕ). option_and_then (declaration_around s) (option_and_then (parent_of s) o)) d.outermost ∙ (ap (option_and_then (declaration_around s)) (parent_is s t.grown r c child) ∙ around r p declaration over);
          },
          lt,
        )

    pub stands_there : (p leaf : ℕ) → declaration_of s sense leaf ≡ Some p → is_a s p_declaration p ≡ true → stands_in_declaration s senses leaf ≡ true
    stands_there p leaf e is =
        ap (λ (o : Option ℕ). elim o as (λ _. Bool) [ None ↦ false | Some q ↦ is_a s p_external q || (is_a s p_declaration q || (is_a s p_parameter q && is_defined_parameter s senses leaf)) ]) e
        ∙ or_right (is_a s p_external p) _ (or_left (is_a s p_declaration p) _ is)

    -- an automatic object
    object_declared : (w : World) (n p r c leaf : ℕ) (ds : List Derivation) → contains (children_at s r) c ≡ true → is_a s p_declarator c ≡ true → is_a s p_declaration p ≡ true → Above p r → before n c ≡ IsDeclarator (Some leaf) ds
        → is_automatic_object w s (before n) leaf ≡ true → IsDeclared s senses leaf
    object_declared w n p r c leaf ds child is declaration over seen auto =
        let (h, lt) = there n p r c leaf ds child is declaration over seen in
        let d = h.declared in
        let final = told leaf c d in
        let early : specified_of s (before n) leaf ≡ Some d.words = words_kept tokens unit tree tag_number senses cut read are whole leaf c n d.words (omega (arith, lt)) d.told ∙ final in
        let local = local_as s (before n) sense leaf d.words early final (local_of s w (before n) leaf auto) in
        let unshared : is_internal s sense leaf ≡ false =
        not_internal (is_linked s sense leaf) (is_at_file s sense leaf) (has_storage s sense word_static leaf) (has_storage s sense word_extern leaf) (declares_function s sense leaf) (is_without_storage s sense leaf)
        (some_such s sense (λ x. is_static_at_file s sense x.node) (linked_before s (ordinary_at s leaf))) local.file local.extern local.function in
        plain_declared leaf c d (stands_there p leaf h.declaration declaration) local.typedef unshared local.parameter

    -- ---- lists

    append : (xs ys : List ℕ) → AreDeclared s senses xs → AreDeclared s senses ys → AreDeclared s senses (xs ++ ys)
    append [] ys h k = k
    append (x ∷ xs) ys h k = (h.0, append xs ys h.1 k)

    module _ (w : World) (n p : ℕ) (declaration : is_a s p_declaration p ≡ true) where
      name_declared : (r c : ℕ) → contains (children_at s r) c ≡ true → is_a s p_declarator c ≡ true → Above p r → (y : Sense) → before n c ≡ y → AreDeclared s senses (automatic_name w s (before n) y)
      name_declared r c child is over (IsDeclarator None ds) e = tt
      name_declared r c child is over (IsDeclarator (Some leaf) ds) e = by (is_automatic_object w s (before n) leaf) refl
        where
          by : (b : Bool) → is_automatic_object w s (before n) leaf ≡ b → AreDeclared s senses (if b then leaf ∷ [] else [])
          by true auto = (object_declared w n p r c leaf ds child is declaration over e auto, tt)
          by false auto = tt
      name_declared r c child is over y e = tt

      among_declared : (r : ℕ) → Above p r → (list : List ℕ) → ((c : ℕ) → contains list c ≡ true → contains (children_at s r) c ≡ true) → AreDeclared s senses (objects_among w s (before n) list)
      among_declared r over [] h = tt
      among_declared r over (c ∷ rest) h = by (is_a s p_declarator c) refl (among_declared r over rest (λ x k. h x (or_right (nat_eq c x) (contains rest x) k)))
        where
          by : (b : Bool) → is_a s p_declarator c ≡ b → AreDeclared s senses (objects_among w s (before n) rest) → AreDeclared s senses (if b then automatic_name w s (before n) (before n c) ++ objects_among w s (before n) rest else objects_among w s (before n) rest)
          by true is more = append (automatic_name w s (before n) (before n c)) (objects_among w s (before n) rest) (name_declared r c (h c (or_left (nat_eq c c) (contains rest c) (eq-eqb c c refl))) is over (before n c) refl) more
          by false is more = more

      rest_declared : (list : List ℕ) → ((c : ℕ) → contains list c ≡ true → contains (children_at s p) c ≡ true) → AreDeclared s senses (objects_in_rest w s (before n) list)
      rest_declared [] h = tt
      rest_declared (c ∷ rest) h = by (is_a s p_rest c) refl (rest_declared rest (λ x k. h x (or_right (nat_eq c x) (contains rest x) k)))
        where
          by : (b : Bool) → is_a s p_rest c ≡ b → AreDeclared s senses (objects_in_rest w s (before n) rest) → AreDeclared s senses (if b then objects_among w s (before n) (children_at s c) else objects_in_rest w s (before n) rest)
          by true is more = among_declared c (inr (h c (or_left (nat_eq c c) (contains rest c) (eq-eqb c c refl)), is)) (children_at s c) (λ x k. k)
          by false is more = more

      pub declaration_lists : AreDeclared s senses (objects_declared w s (before n) p)
      declaration_lists =
          append (objects_among w s (before n) (children_at s p)) (objects_in_rest w s (before n) (children_at s p)) (among_declared p (inl refl) (children_at s p) (λ x k. k)) (rest_declared (children_at s p) (λ x k. k))

    block_lists : (w : World) (n : ℕ) (list : List ℕ) → AreDeclared s senses (objects_in w s (before n) list)
    block_lists w n [] = tt
    block_lists w n (c ∷ rest) = by (is_a s p_declaration c) refl (block_lists w n rest)
      where
        by : (b : Bool) → is_a s p_declaration c ≡ b → AreDeclared s senses (objects_in w s (before n) rest) → AreDeclared s senses (if b then objects_declared w s (before n) c ++ objects_in w s (before n) rest else objects_in w s (before n) rest)
        by true is more = append (objects_declared w s (before n) c) (objects_in w s (before n) rest) (declaration_lists w n c is) more
        by false is more = more

    -- ---- in trees

    abbrev Near : ℕ → Type 0
    Near i = ⊤

    abbrev Lists : Core → Type 0
    Lists (Of (Block ds) place type under) = AreDeclared s senses ds
    Lists (Of (For ds c a) place type under) = AreDeclared s senses ds
    Lists (Of (VarArgs d) place type under) = IsDeclared s senses d
    Lists c = ⊤

    meaning_free : (o : Option Meaning) → MeaningGives Lists o
    meaning_free None = tt
    meaning_free (Some (Object e x)) = λ place. tt
    meaning_free (Some (Function e x)) = λ place. tt
    meaning_free (Some (TypeName x)) = tt
    meaning_free (Some (Tag tag)) = tt
    meaning_free (Some (Value k)) = tt

    closed : Closed s Near
    closed = record { parts = λ i c h near. tt; lefts = λ i first rest post e near. tt }

    row_lists : (n : ℕ) → RowGives Lists (world_at s (take n senses) n) s (before n) n (children_at s n)
    row_lists n = record {
      names = λ leaf has. meaning_free _;
      lists = λ entity function place at type asked e.
          let x = further_found tokens unit tree tag_number senses cut read are whole n entity function e in
          subst (IsDeclared s senses) x.entity (entity_declared tokens unit tree tag_number senses cut read are whole x.defines.name x.defines.linked);
      objects = λ declarator leaf by_it named paths values fixed. tt;
      initials = λ q above paths values over fixed. tt;
      literals = λ q above type initial over. tt;
      blocks = λ is place under. block_lists (world_at s (take n senses) n) n (children_at s n);
      plains = λ c a place under. tt;
      fors = λ is declaration has own c a place under. declaration_lists (world_at s (take n senses) n) n declaration own;
    }

    sense_lists : (i : ℕ) → OfSense s Near Lists (sense i)
    sense_lists i = near_kept Lists s senses Near are closed (λ n lt here each. row_lists n) i tt

    part_in : (under : Cores) (k : ℕ) (c : Core) → AllHold Lists under → core_in under k ≡ Some c → Holds Lists c
    part_in NoCores k c h e = cc
    part_in (MoreCores x rest) zero c h e = subst (Holds Lists) (let same : x ≡ c = cc in same) h.0
    part_in (MoreCores x rest) (suc k) c h e = part_in rest k c h.1 e

    part_held : (part c : Core) → Holds Lists c → IsPart s senses part c → Holds Lists part
    part_held part (Of kind place type under) h p = part_in under p.0 part h.1 p.1

    within_held : (c body : Core) → Within s senses c body → Holds Lists body → Holds Lists c
    within_held c body Itself h = h
    within_held c body (Below {part = part} p inner) h = within_held c part inner (part_held part body h p)

    of_sense : (y : Sense) (c : Core) → OfSense s Near Lists y → core_of_sense s senses y ≡ Some c → Holds Lists c
    of_sense (IsCore x) c h e = subst (Holds Lists) (some_same e) h
    of_sense (IsInitial x k) c h e = subst (Holds Lists) (some_same e) h
    of_sense y c h e = cc

    body_held : (d : ℕ) (what : right.Declared) (c : Core) → declared_name s senses d ≡ Some what → what.body ≡ Some c → Holds Lists c
    body_held d what c told body = by (body_by s senses (representative s senses d) c (sym (body_is s senses d what told) ∙ body))
      where
        by : OfBlock s senses (representative s senses d) c ⊎ OfInitial s senses (representative s senses d) c → Holds Lists c
        by (inl (defined, (b, block, core))) = of_sense (sense b) c (sense_lists b) core
        by (inr (init, found, core)) = of_sense (sense init) c (sense_lists init) core

    pub listed_declared : (c : Core) → IsInBody s senses c → (ds : List ℕ) → (kind_of c ≡ Block ds) ⊎ ((x : Bool) × (y : Bool) × (kind_of c ≡ For ds x y)) → AreDeclared s senses ds
    listed_declared c h ds e = by c e (within_held c h.body h.within (body_held h.leaf h.what h.body h.declared h.has))
      where
        by : (c : Core) → (kind_of c ≡ Block ds) ⊎ ((x : Bool) × (y : Bool) × (kind_of c ≡ For ds x y)) → Holds Lists c → AreDeclared s senses ds
        by (Of (Block es) place type under) (inl e) held = let same : es ≡ ds = cc in subst (AreDeclared s senses) same held.0
        by (Of (For es a b) place type under) (inr (x, y, e)) held = let same : es ≡ ds = cc in subst (AreDeclared s senses) same held.0
        by (Of (Block es) place type under) (inr (x, y, e)) held = cc
        by (Of (For es a b) place type under) (inl e) held = cc
        by (Of kind place type under) (inl e) held = cc
        by (Of kind place type under) (inr (x, y, e)) held = cc

    -- the function whose further arguments a list has
    pub further_declared : (c : Core) → IsInBody s senses c → (d : ℕ) → kind_of c ≡ VarArgs d → IsDeclared s senses d
    further_declared c h d e = by c e (within_held c h.body h.within (body_held h.leaf h.what h.body h.declared h.has))
      where
        by : (c : Core) → kind_of c ≡ VarArgs d → Holds Lists c → IsDeclared s senses d
        by (Of (VarArgs x) place type under) e held = let same : x ≡ d = cc in subst (IsDeclared s senses) same held.0
        by (Of kind place type under) e held = cc
