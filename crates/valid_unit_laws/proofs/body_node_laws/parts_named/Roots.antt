-- The bodies of what lasts: the block of a function, or an initialiser that doesn't run where it stands; and how many compound literals of one
-- leaf they have.
use Rattle.std.proofs.Common.{arith, ◌≡◌, ◌<◌, ◌≤◌, ◌+◌, ℕ, zero, suc, nat_eq, not, ◌&&◌, ◌||◌, Bool, true, false, List, [], ◌∷◌, Option, Some, None, take, length, slice_get, refl, sym, ap, ◌∙◌, subst, ◌⊎◌, inl, inr}
use Rattle.std.specs.Prelude.{is_none, is_some, option_and_then, option_map, if◌then◌else◌}
use Rattle.std.proofs.lemmas.Bool.{eqb-true, eqb-false}
use Rattle.std.proofs.lemmas.List.{get_or-take}
use Rattle.c_lexer.specs.declared.Tokens.{Tokens}
use Rattle.c_lexer.specs.Cut.{IsTokens}
use Rattle.c_grammar.specs.declared.trees.Tree.{Tree}
use Rattle.c_grammar.specs.Productions.{p_external, p_rest, p_init, p_items, p_block}
use Rattle.c_grammar.specs.Terminals.{contains}
use Rattle.c_grammar.specs.Words.{word_extern, word_static}
use Rattle.c_parser.specs.c_units.Units.{IsUnit}
use Rattle.c_types.specs.Trees.{Ctype}
use Rattle.core_tree.specs.declared.node.Linkage.{Linkage}
use Rattle.core_tree.specs.declared.node.Linkage.TheVariants.{External, Internal, Local}
use Rattle.core_tree.specs.declared.node.Storage.{Storage}
use Rattle.core_tree.specs.declared.node.Storage.TheVariants.{Static, Automatic, FunctionBody, Parameter, Declared}
use Rattle.c_consts.specs.Core.{Core}
use Rattle.c_senses.specs.Names.{source_of, numbered}
use Rattle.c_senses.specs.Tree.{Source, is_a, is_name, child_of, children_at, parent_of}
use Rattle.c_senses.specs.World.{World, same_length}
use Rattle.c_senses.specs.Sense.{Sense, Nothing, IsCore, IsDeclarator, IsInitial, IsSpecified, Specified, Derivation, sense_in}
use Rattle.c_senses.specs.Rows.{AreSenses, world_at}
use Rattle.c_senses.specs.Declarators.{is_outermost, outermost_of, specs_of}
use Rattle.c_senses.specs.Entities.{keep, first_of, is_at_file, specified, specified_of, is_typedef, is_defined, is_parameter, is_linked, is_internal, is_static_object, declares_function, has_storage, declaration_of, storage_of, linkage_of, entity_of, initialiser_of, initialiser_for, initialised_by}
use Rattle.c_senses.specs.Statements.{is_automatic_object, runs_initialiser}
use Rattle.c_senses.specs.Right.{Declared as Declares, core_of_sense, of_internal, is_definition_at, is_tentative, representative, declared_as, declared_name, declares_entity, is_declaring, stands_in_declaration, entity_type, storage_at, block_for}
use Rattle.parsed_tree_laws.specs.family_laws.Families.{IsChild}
use Rattle.parsed_tree_laws.proofs.family_laws.Reading.{units_families}
use Rattle.parsed_tree_laws.proofs.span_laws.Whole.{units_are_spanned}
use Rattle.core_node_laws.specs.count_laws.count_rows.Counts.{Count, count_in, count_of}
use Rattle.core_node_laws.specs.count_laws.count_rows.Covers.{stays}
use Rattle.core_node_laws.specs.count_laws.Counting.{sum_below, of_block, bodies}
use Rattle.core_node_laws.proofs.count_laws.once_nodes.Rooted.{OfBlock, OfInitial, body_is, body_by, block_in, found_where}
use Rattle.declaration_laws.proofs.function_laws.passed.definition_laws.block_laws.Whole.{blocks_differ}
use Rattle.core_node_laws.proofs.standing_laws.Climbing.{in_list}
use Rattle.core_node_laws.proofs.standing_laws.Descending.{sense_before, child_before}
use Rattle.declaration_laws.proofs.declared_type_laws.passed.owner_laws.Whole.{grown_of}
use Rattle.declaration_laws.proofs.function_laws.passed.definition_laws.linkage_laws.Seen.{some_same, none_some, no_both, apart, node_within, parent_holds}
use Rattle.declaration_laws.proofs.function_laws.passed.definition_laws.linkage_laws.Linked as linked
use Rattle.declaration_laws.proofs.function_laws.passed.definition_laws.linkage_laws.Reading.{tree_is}
use Rattle.declaration_laws.specs.function_laws.passed.definition_laws.function_definitions.Defined.{Defines}
use Rattle.declaration_laws.proofs.function_laws.passed.definition_laws.function_definitions.Reading.{definitions_declare}
use Rattle.declaration_laws.proofs.function_laws.function_bodies.Reading.{parts_of, declarators_of}
use Rattle.declaration_laws.proofs.function_laws.function_bodies.Standing.{named_by}
use Rattle.valid_unit_laws.specs.object_initialiser_laws.passed.internal_name_laws.representative_names.Representatives.{IsKnown}
use Rattle.valid_unit_laws.proofs.object_initialiser_laws.passed.internal_name_laws.representative_names.Standing.{representatives_known}
use Rattle.declaration_laws.proofs.function_laws.passed.definition_laws.initialiser_laws.Found.{initialisers_found}
use Rattle.valid_unit_laws.specs.object_initialiser_laws.initial_entities.Own.{IsOwnInitial}
use Rattle.valid_unit_laws.proofs.object_initialiser_laws.initial_entities.Rows.{initialisers_own}
use Rattle.valid_unit_laws.specs.object_initialiser_laws.placed_initialisers.PassedOn.{IsPlaced}
use Rattle.valid_unit_laws.proofs.object_initialiser_laws.placed_initialisers.Whole.{units_place}
use Rattle.parsed_tree_laws.proofs.grown_parts.Reading.{units_bring}
use Rattle.declaration_laws.proofs.declared_type_laws.declared_leaves.Climbing.{leaves_declared}
use Rattle.valid_unit_laws.proofs.body_node_laws.parts_named.Counts.{literals_of, few_literals}
use Rattle.valid_unit_laws.proofs.body_node_laws.parts_named.Owners.{both, found_above, and_then_some}

-- one or two numbers of a sum
pub one_below : (f : ℕ → ℕ) (k i : ℕ) → i < k → f i ≤ sum_below f k
one_below f zero i lt = absurd (omega (arith, lt))
one_below f (suc k) i lt = by (nat_eq i k) refl (λ less. one_below f k i less)
  where
    by : (b : Bool) → nat_eq i k ≡ b → (i < k → f i ≤ sum_below f k) → f i ≤ sum_below f k + f k
    by true e later = let same : f i ≡ f k = ap f (eqb-true i k e) in omega (arith, same)
    by false e later = let differ = eqb-false i k e in let h = later (omega (arith, lt, differ)) in omega (arith, h)

pub two_below : (f : ℕ → ℕ) (k i j : ℕ) → i < k → j < k → (i ≡ j → ⊥) → f i + f j ≤ sum_below f k
two_below f zero i j lt less differ = absurd (omega (arith, lt))
two_below f (suc k) i j lt less differ = by (nat_eq i k) refl (nat_eq j k) refl (λ a b. two_below f k i j a b differ)
  where
    by : (b : Bool) → nat_eq i k ≡ b → (c : Bool) → nat_eq j k ≡ c → (i < k → j < k → f i + f j ≤ sum_below f k) → f i + f j ≤ sum_below f k + f k
    by true e true g later = absurd (differ (eqb-true i k e ∙ sym (eqb-true j k g)))
    by true e false g later =
        let same : f i ≡ f k = ap f (eqb-true i k e) in
        let other = eqb-false j k g in
        let h = one_below f k j (omega (arith, less, other)) in
        omega (arith, same, h)
    by false e true g later =
        let same : f j ≡ f k = ap f (eqb-true j k g) in
        let other = eqb-false i k e in
        let h = one_below f k i (omega (arith, lt, other)) in
        omega (arith, same, h)
    by false e false g later = let a = eqb-false i k e in let b = eqb-false j k g in let h = later (omega (arith, lt, a)) (omega (arith, less, b)) in omega (arith, h)

-- what a node brings, by its production
pick_rest : (a b r : Bool) (x y z : ℕ) → a ≡ false → b ≡ false → r ≡ true → (if a || b then x else if r then y else z) ≡ y
pick_rest false false true x y z e f g = refl
pick_rest true b r x y z e f g = cc
pick_rest false true r x y z e f g = cc
pick_rest false false false x y z e f g = cc

pick_block : (a b r t : Bool) (x y z : ℕ) → a ≡ false → b ≡ false → r ≡ false → t ≡ true → (if a || b then x else if r then y else if t then z else 0) ≡ z
pick_block false false false true x y z e f g h = refl
pick_block true b r t x y z e f g h = cc
pick_block false true r t x y z e f g h = cc
pick_block false false true t x y z e f g h = cc
pick_block false false false false x y z e f g h = cc

-- one or two of the initialisers that stay
module _ (n : Count) (w : World) (s : Source) (f : ℕ → Sense) where
  of_one : (x : ℕ) (c : Core) (k : Option ℕ) → f x ≡ IsInitial c k → runs_initialiser w s f x ≡ false
      → (elim (f x) as (λ _. ℕ) [ IsInitial z m ↦ if runs_initialiser w s f x then 0 else count_in n z | _ ↦ 0 ]) ≡ count_in n c
  of_one x c k is off = by (f x) is (runs_initialiser w s f x) off
    where
      by : (y : Sense) → y ≡ IsInitial c k → (b : Bool) → b ≡ false → (elim y as (λ _. ℕ) [ IsInitial z m ↦ if b then 0 else count_in n z | _ ↦ 0 ]) ≡ count_in n c
      by (IsInitial z m) is false e = let same : z ≡ c = cc in ap (count_in n) same
      by (IsInitial z m) is true e = cc
      by y is b e = cc

  one_stays : (list : List ℕ) (k init : ℕ) (c : Core) (m : Option ℕ) → slice_get list k ≡ Some init → f init ≡ IsInitial c m → runs_initialiser w s f init ≡ false → count_in n c ≤ stays n w s f list
  one_stays [] k init c m e is off = cc
  one_stays (x ∷ rest) zero init c m e is off = let same : x ≡ init = cc in let h = of_one x c m (ap f same ∙ is) (ap (runs_initialiser w s f) same ∙ off) in omega (arith, h)
  one_stays (x ∷ rest) (suc k) init c m e is off = let h = one_stays rest k init c m e is off in omega (arith, h)

  two_stay : (list : List ℕ) (k l init other : ℕ) (c d : Core) (m o : Option ℕ) → slice_get list k ≡ Some init → slice_get list l ≡ Some other → (init ≡ other → ⊥)
      → f init ≡ IsInitial c m → f other ≡ IsInitial d o → runs_initialiser w s f init ≡ false → runs_initialiser w s f other ≡ false → count_in n c + count_in n d ≤ stays n w s f list
  two_stay [] k l init other c d m o e g differ is also off out = cc
  two_stay (x ∷ rest) zero zero init other c d m o e g differ is also off out = absurd (differ (let same : init ≡ other = cc in same))
  two_stay (x ∷ rest) zero (suc l) init other c d m o e g differ is also off out =
      let same : x ≡ init = cc in
      let h = of_one x c m (ap f same ∙ is) (ap (runs_initialiser w s f) same ∙ off) in
      let k = one_stays rest l other d o g also out in
      omega (arith, h, k)
  two_stay (x ∷ rest) (suc k) zero init other c d m o e g differ is also off out =
      let same : x ≡ other = cc in
      let h = of_one x d o (ap f same ∙ also) (ap (runs_initialiser w s f) same ∙ out) in
      let j = one_stays rest k init c m e is off in
      omega (arith, h, j)
  two_stay (x ∷ rest) (suc k) (suc l) init other c d m o e g differ is also off out = let h = two_stay rest k l init other c d m o e g differ is also off out in omega (arith, h)

-- which name an initialiser that runs is of
abbrev pub name_in : Sense → Option ℕ
name_in (IsDeclarator name ds) = name
name_in x = None

runs_for : (w : World) (s : Source) (f : ℕ → Sense) (init m : ℕ) → initialised_by s f init ≡ Some m → runs_initialiser w s f init ≡ true → (l : ℕ) × (name_in (f m) ≡ Some l) × (is_automatic_object w s f l ≡ true)
runs_for w s f init m by_it runs =
    by (f m) (sym (ap (λ (o : Option ℕ). elim (option_and_then (λ d. elim (f d) as (λ _. Option ℕ) [ IsDeclarator name ds ↦ name | _ ↦ None ]) o) as (λ _. Bool) [ None ↦ false | Some leaf ↦ is_automatic_object w s f leaf ]) by_it) ∙ runs)
  where
    named : (o : Option ℕ) → (elim o as (λ _. Bool) [ None ↦ false | Some leaf ↦ is_automatic_object w s f leaf ]) ≡ true → (l : ℕ) × (o ≡ Some l) × (is_automatic_object w s f l ≡ true)
    named None e = cc
    named (Some l) e = (l, refl, e)

    by : (y : Sense) → (elim (elim y as (λ _. Option ℕ) [ IsDeclarator name ds ↦ name | _ ↦ None ]) as (λ _. Bool) [ None ↦ false | Some leaf ↦ is_automatic_object w s f leaf ]) ≡ true → (l : ℕ) × (name_in y ≡ Some l) × (is_automatic_object w s f l ≡ true)
    by (IsDeclarator name ds) e = named name e
    by y e = cc

automatic_storage : (w : World) (s : Source) (f : ℕ → Sense) (l : ℕ) → is_automatic_object w s f l ≡ true → storage_of s f l ≡ Automatic
automatic_storage w s f l e = by (storage_of s f l) (both (not (is_typedef s f l)) _ e).1
  where
    by : (x : Storage) → (elim x as (λ _. Bool) [ Automatic ↦ true | _ ↦ false ]) ≡ true → x ≡ Automatic
    by Automatic e = refl
    by x e = cc

module _ (tokens : Tokens) (unit : ℕ) (tree : Tree) (tag_number : ℕ → ℕ) (senses : List Sense) (cut : IsTokens tokens.text.now tokens.list.items) (read : IsUnit tokens unit tree)
    (are : AreSenses (numbered tag_number (source_of tokens tree)) senses) (whole : length senses ≡ length (numbered tag_number (source_of tokens tree)).nodes)
  where
    abbrev s : Source
    s = numbered tag_number (source_of tokens tree)

    abbrev sense : ℕ → Sense
    sense i = sense_in senses i

    abbrev t : linked.Tree s
    t = tree_is tokens unit tree read tag_number

    abbrev before : ℕ → ℕ → Sense
    before i = sense_in (take i senses)

    abbrev world : ℕ → World
    world i = world_at s (take i senses) i

    -- the node that has a body as its sense, with the one whose row brings it
    pub record IsBlock (key : ℕ) (c : Core) : Type 0 where
      pub node : ℕ
      pub external : is_a s p_external node ≡ true
      pub child : child_of s p_block node ≡ Some key
      pub core : core_of_sense s senses (sense key) ≡ Some c

    pub record Stays (key : ℕ) (c : Core) : Type 0 where
      pub node : ℕ
      pub rest : is_a s p_rest node ≡ true
      pub starts : is_a s p_init key ≡ true
      pub inside : IsChild s node key
      pub length_given : Option ℕ
      pub is : sense key ≡ IsInitial c length_given
      pub off : runs_initialiser (world node) s (before node) key ≡ false

    abbrev pub IsRoot : ℕ → Core → Type 0
    IsRoot key c = IsBlock key c ⊎ Stays key c

    pub sum_few : (d : ℕ) → sum_below (bodies (literals_of d) s senses) (length s.nodes) ≤ 1
    sum_few d = few_literals s senses d (units_are_spanned tokens unit tree tag_number read) (units_families tokens unit tree tag_number cut read) are whole

    module _ (n : Count) where
      abbrev B : ℕ → ℕ
      B = bodies n s senses

      core_count : (x : Sense) (c : Core) → core_of_sense s senses x ≡ Some c → count_of n x ≡ count_in n c
      core_count (IsCore y) c e = ap (count_in n) (some_same e)
      core_count (IsInitial y m) c e = ap (count_in n) (some_same e)
      core_count x c e = cc

      block_counts : (key : ℕ) (c : Core) (h : IsBlock key c) → count_in n c ≡ B h.node
      block_counts key c h =
          let own : B h.node ≡ of_block n senses (child_of s p_block h.node) =
          pick_block (is_a s p_init h.node) (is_a s p_items h.node) (is_a s p_rest h.node) (is_a s p_external h.node) _ _ _ (apart s h.node p_external p_init h.external refl) (apart s h.node p_external p_items h.external refl)
          (apart s h.node p_external p_rest h.external refl) h.external in
          let of : of_block n senses (child_of s p_block h.node) ≡ count_in n c = ap (of_block n senses) h.child ∙ core_count (sense key) c h.core in
          sym (own ∙ of)

      rest_is : (i : ℕ) → is_a s p_rest i ≡ true → B i ≡ stays n (world i) s (before i) (children_at s i)
      rest_is i h = pick_rest (is_a s p_init i) (is_a s p_items i) (is_a s p_rest i) _ _ _ (apart s i p_rest p_init h refl) (apart s i p_rest p_items h refl) h

      told : (key : ℕ) (c : Core) (h : Stays key c) → before h.node key ≡ IsInitial c h.length_given
      told key c h = let grown = grown_of tokens unit tree tag_number cut read in sense_before s senses grown are whole h.node key (child_before s senses grown are whole h.node key h.inside) ∙ h.is

      stays_counts : (key : ℕ) (c : Core) (h : Stays key c) → count_in n c ≤ B h.node
      stays_counts key c h =
          let own = rest_is h.node h.rest in
          let has = one_stays n (world h.node) s (before h.node) (children_at s h.node) h.inside.0 key c h.length_given h.inside.1 (told key c h) h.off in
          omega (arith, own, has)

      abbrev node_of : (key : ℕ) (c : Core) → IsRoot key c → ℕ
      node_of key c (inl h) = h.node
      node_of key c (inr h) = h.node

      node_in : (key : ℕ) (c : Core) (r : IsRoot key c) → node_of key c r < length s.nodes
      node_in key c (inl h) = node_within s p_external h.node h.external refl
      node_in key c (inr h) = node_within s p_rest h.node h.rest refl

      counts : (key : ℕ) (c : Core) (r : IsRoot key c) → count_in n c ≤ B (node_of key c r)
      counts key c (inl h) = let e = block_counts key c h in omega (arith, e)
      counts key c (inr h) = stays_counts key c h

      -- all bodies together have what one has
      pub root_sum : (key : ℕ) (c : Core) → IsRoot key c → count_in n c ≤ sum_below B (length s.nodes)
      root_sum key c r = let own = counts key c r in let all = one_below B (length s.nodes) (node_of key c r) (node_in key c r) in omega (arith, own, all)

      -- a body has one such literal at most, and so have two of them together
      pub one_few : sum_below B (length s.nodes) ≤ 1 → (key : ℕ) (c : Core) → IsRoot key c → count_in n c ≤ 1
      one_few few key c r =
          let own = counts key c r in
          let all = one_below B (length s.nodes) (node_of key c r) (node_in key c r) in
          omega (arith, own, all, few)

      both_few : (key other : ℕ) (c e : Core) (r : IsRoot key c) (q : IsRoot other e) → (key ≡ other → ⊥) → node_of key c r ≡ node_of other e q → count_in n c + count_in n e ≤ B (node_of key c r)
      both_few key other c e (inl h) (inl g) differ same = absurd (differ (some_same (sym h.child ∙ (ap (child_of s p_block) same ∙ g.child))))
      both_few key other c e (inl h) (inr g) differ same = absurd (no_both (is_a s p_rest g.node) g.rest (subst (λ (k : ℕ). is_a s p_rest k ≡ false) same (apart s h.node p_external p_rest h.external refl)))
      both_few key other c e (inr h) (inl g) differ same = absurd (no_both (is_a s p_rest h.node) h.rest (subst (λ (k : ℕ). is_a s p_rest k ≡ false) (sym same) (apart s g.node p_external p_rest g.external refl)))
      both_few key other c e (inr h) (inr g) differ same =
          let own = rest_is h.node h.rest in
          let inside : IsChild s h.node other = subst (λ (k : ℕ). IsChild s k other) (sym same) g.inside in
          let seen : before h.node other ≡ IsInitial e g.length_given = ap (λ (k : ℕ). before k other) same ∙ told other e g in
          let off : runs_initialiser (world h.node) s (before h.node) other ≡ false = subst (λ (k : ℕ). runs_initialiser (world k) s (before k) other ≡ false) (sym same) g.off in
          let has = two_stay n (world h.node) s (before h.node) (children_at s h.node) h.inside.0 inside.0 key other c e h.length_given g.length_given h.inside.1 inside.1 differ (told key c h) seen h.off off in
          omega (arith, own, has)

      pub two_few : sum_below B (length s.nodes) ≤ 1 → (key other : ℕ) (c e : Core) → IsRoot key c → IsRoot other e → (key ≡ other → ⊥) → count_in n c + count_in n e ≤ 1
      two_few few key other c e r q differ = by (nat_eq (node_of key c r) (node_of other e q)) refl
        where
          by : (b : Bool) → nat_eq (node_of key c r) (node_of other e q) ≡ b → count_in n c + count_in n e ≤ 1
          by true h =
              let two = both_few key other c e r q differ (eqb-true (node_of key c r) (node_of other e q) h) in
              let all = one_below B (length s.nodes) (node_of key c r) (node_in key c r) in
              omega (arith, two, all, few)
          by false h =
              let one = counts key c r in
              let two = counts other e q in
              let all = two_below B (length s.nodes) (node_of key c r) (node_of other e q) (node_in key c r) (node_in other e q) (eqb-false (node_of key c r) (node_of other e q) h) in
              omega (arith, one, two, all, few)

    -- ---- the bodies of names

    -- the name in a declarator's sense is the one that it declares
    same_leaf : (d o leaf : ℕ) (ds : List Derivation) → is_declaring s senses d ≡ true → outermost_of s d ≡ Some o → sense o ≡ IsDeclarator (Some leaf) ds → leaf ≡ d
    same_leaf d o leaf ds declares outer named =
        let told : (elim (sense o) as (λ _. Bool) [ IsDeclarator m xs ↦ same_length m (Some d) | _ ↦ false ]) ≡ true =
        sym (ap (λ (x : Option ℕ). elim x as (λ _. Bool) [ None ↦ false | Some y ↦ elim (sense y) as (λ _. Bool) [ IsDeclarator m xs ↦ same_length m (Some d) | _ ↦ false ] ]) outer) ∙ (both (is_name s d) _ declares).1 in
        eqb-true leaf d (sym (ap (λ (x : Sense). elim x as (λ _. Bool) [ IsDeclarator m xs ↦ same_length m (Some d) | _ ↦ false ]) named) ∙ told)

    abbrev chosen : ℕ → Linkage → ℕ
    chosen d linkage =
        elim linkage [
          | Internal ↦ first_of s sense (first_of s sense d (keep s sense (is_tentative s senses) (of_internal s senses d))) (keep s sense (is_definition_at s senses) (of_internal s senses d))
          | _ ↦ d
        ]

    abbrev shown : ℕ → Storage → Storage
    shown d x = elim x as (λ _. Storage) [ Declared ↦ if declares_function s sense d then Declared else Static | other ↦ other ]

    abbrev stored : ℕ → Linkage → Storage
    stored d linkage = elim linkage as (λ _. Storage) [ Internal ↦ shown d (storage_of s sense (representative s senses d)) | _ ↦ storage_of s sense d ]

    -- the declaration that stands for a name: it declares its entity, and what it has for the whole run or in a function, the name has
    pub record IsStood (d : ℕ) : Type 0 where
      pub declares : is_declaring s senses (representative s senses d) ≡ true
      pub entity : entity_of s sense (representative s senses d) ≡ d
      pub function : storage_of s sense (representative s senses d) ≡ FunctionBody → storage_at s senses d ≡ FunctionBody
      pub automatic : storage_of s sense (representative s senses d) ≡ Automatic → storage_at s senses d ≡ Automatic

    pub stood : (d : ℕ) → is_declaring s senses d ≡ true → entity_of s sense d ≡ d → IsStood d
    stood d declares own = by (is_internal s sense d) refl
      where
        plain : (l : Linkage) → linkage_of s sense d ≡ l → (chosen d l ≡ d) → ((x : Storage) → storage_of s sense d ≡ x → stored d l ≡ x) → IsStood d
        plain l e same told =
            let itself : representative s senses d ≡ d = ap (chosen d) e ∙ same in
            record {
              declares = subst (λ (k : ℕ). is_declaring s senses k ≡ true) (sym itself) declares;
              entity = ap (entity_of s sense) itself ∙ own;
              function = λ h. ap (stored d) e ∙ told FunctionBody (ap (storage_of s sense) (sym itself) ∙ h);
              automatic = λ h. ap (stored d) e ∙ told Automatic (ap (storage_of s sense) (sym itself) ∙ h);
            }

        by_linked : (x : Bool) → is_internal s sense d ≡ false → is_linked s sense d ≡ x → IsStood d
        by_linked true e f = plain External (ap (λ (a : Bool). if a then Internal else (if is_linked s sense d then External else Local)) e ∙ ap (λ (a : Bool). if a then External else Local) f) refl (λ x h. h)
        by_linked false e f = plain Local (ap (λ (a : Bool). if a then Internal else (if is_linked s sense d then External else Local)) e ∙ ap (λ (a : Bool). if a then External else Local) f) refl (λ x h. h)

        by : (x : Bool) → is_internal s sense d ≡ x → IsStood d
        by true e =
            let known : IsKnown s senses d = representatives_known tokens unit tree tag_number senses cut read are whole d e in
            let linkage : linkage_of s sense d ≡ Internal = ap (λ (a : Bool). if a then Internal else (if is_linked s sense d then External else Local)) e in
            record { declares = known.declares; entity = known.entity ∙ own; function = λ h. ap (stored d) linkage ∙ ap (shown d) h; automatic = λ h. ap (stored d) linkage ∙ ap (shown d) h }
        by false e = by_linked (is_linked s sense d) e refl

    -- a name that is defined as a function is stored as one
    defined_stored : (d : ℕ) → is_declaring s senses d ≡ true → is_defined s sense d ≡ true → storage_of s sense d ≡ FunctionBody
    defined_stored d declares defined = by (declaration_of s sense d) refl defined
      where
        choose : (p x m q : Bool) → p ≡ false → x ≡ true → (if p then Parameter else if x then (if is_defined s sense d then FunctionBody else Declared) else if m then Declared else if q then Static else Automatic) ≡ FunctionBody
        choose true x m q e h = cc
        choose false true m q e h = ap (λ (z : Bool). if z then FunctionBody else Declared) defined
        choose false false m q e h = cc

        by : (o : Option ℕ) → declaration_of s sense d ≡ o → (elim o as (λ _. Bool) [ None ↦ false | Some p ↦ is_a s p_external p && is_some (child_of s p_block p) ]) ≡ true → storage_of s sense d ≡ FunctionBody
        by None e k = cc
        by (Some q) e k =
            let h : Defines s senses q = definitions_declare tokens unit tree tag_number senses q cut read are whole k in
            let same : d ≡ h.name =
            named_by s t senses are whole (λ p z. parts_of tokens unit tree tag_number read p z) (λ p z. definitions_declare tokens unit tree tag_number senses p cut read are whole z) (λ p z. declarators_of tokens unit tree tag_number senses cut read are whole p z) d q k e (inl declares) in
            let stands = linked.stands_linked s t senses are whole h.name h.linked in
            choose (is_parameter s sense d) (declares_function s sense d) (has_storage s sense word_extern d && is_none (initialiser_for s sense d)) (is_static_object s sense d) (ap (is_parameter s sense) same ∙ stands.parameter) (ap (declares_function s sense) same ∙ h.function)

    -- what the first senses say of the storage of a name is so in the end, where its declarator is one of them
    pub seen_declarator : (q m l : ℕ) → name_in (before q m) ≡ Some l → (ds : List Derivation) × (sense m ≡ IsDeclarator (Some l) ds) × (m < q)
    seen_declarator q m l e = go senses q m e
      where
        go : (xs : List Sense) (i k : ℕ) → name_in (sense_in (take i xs) k) ≡ Some l → (ds : List Derivation) × (sense_in xs k ≡ IsDeclarator (Some l) ds) × (k < i)
        go [] zero k e = absurd (none_some e)
        go [] (suc i) k e = absurd (none_some e)
        go (x ∷ xs) zero k e = absurd (none_some e)
        go (x ∷ xs) (suc i) zero e = by x e
          where
            by : (x : Sense) → name_in x ≡ Some l → (ds : List Derivation) × (x ≡ IsDeclarator (Some l) ds) × (0 < suc i)
            by (IsDeclarator name ds) f = (ds, ap (λ (o : Option ℕ). IsDeclarator o ds) f, omega arith)
            by x f = absurd (none_some f)
        go (x ∷ xs) (suc i) (suc k) e = let (ds, is, lt) = go xs i k e in (ds, is, omega (arith, lt))

    told_before : (q c : ℕ) → (sense_in (take q senses) c ≡ Nothing → ⊥) → c < q
    told_before q c some = go senses q c some
      where
        go : (xs : List Sense) (i k : ℕ) → (sense_in (take i xs) k ≡ Nothing → ⊥) → k < i
        go [] zero k h = absurd (h refl)
        go [] (suc i) k h = absurd (h refl)
        go (x ∷ xs) zero k h = absurd (h refl)
        go (x ∷ xs) (suc i) zero h = omega arith
        go (x ∷ xs) (suc i) (suc k) h = let lt = go xs i k h in omega (arith, lt)

    module _ (l : ℕ) where
      abbrev pub words : Option ℕ
      words = option_and_then (specs_of s) (outermost_of s l)

      -- specifiers that are known at a node are so from there on
      pub words_kept : (m q : ℕ) (x : Specified) → m ≤ q → specified s (before m) words ≡ Some x → specified s (before q) words ≡ specified s sense words
      words_kept m q x le e = by words e
        where
          same : (c : ℕ) → c < q → sense_in (take q senses) c ≡ sense_in senses c
          same c lt = get_or-take q senses c Nothing lt

          some : (c : ℕ) → (elim (before m c) as (λ _. Option Specified) [ IsSpecified y ↦ Some y | _ ↦ None ]) ≡ Some x → before m c ≡ Nothing → ⊥
          some c h none = none_some (sym (ap (λ (y : Sense). elim y as (λ _. Option Specified) [ IsSpecified z ↦ Some z | _ ↦ None ]) none) ∙ h)

          by : (o : Option ℕ) → specified s (before m) o ≡ Some x → specified s (before q) o ≡ specified s sense o
          by None h = refl
          by (Some c) h = let lt = told_before m c (some c h) in ap (λ (y : Sense). elim y as (λ _. Option Specified) [ IsSpecified z ↦ Some z | _ ↦ None ]) (same c (omega (arith, lt, le)))

      abbrev has : ℕ → Option Specified → Bool
      has word o = elim o as (λ _. Bool) [ None ↦ false | Some x ↦ contains x.storage word ]

      abbrev storage_by : Option Specified → Storage
      storage_by o =
          if is_parameter s sense l then Parameter
          else if declares_function s sense l then (if is_defined s sense l then FunctionBody else Declared)
          else if has word_extern o && is_none (initialiser_for s sense l) then Declared
          else if is_at_file s sense l || (has word_static o || has word_extern o) then Static
          else Automatic

      storage_kept : (m q : ℕ) (x : Specified) → m ≤ q → specified_of s (before m) l ≡ Some x → storage_of s (before q) l ≡ storage_of s sense l
      storage_kept m q x le e = ap storage_by (words_kept m q x le e)

    -- the body of a name that lasts has a node of its own
    pub record KeyOf (d key : ℕ) (what : Declares) (c : Core) : Type 0 where
      pub root : IsRoot key c
      pub stands : IsStood d
      pub by : ((is_defined s sense (representative s senses d) ≡ true) × (block_for s senses (representative s senses d) ≡ Some key) × (what.storage ≡ FunctionBody) × (is_a s p_block key ≡ true)) ⊎ ((initialiser_for s sense (representative s senses d) ≡ Some key) × (is_a s p_init key ≡ true))

    -- the initialiser of a declarator of a name, in its rest of a declaration
    module _ (r init : ℕ) (declares : is_declaring s senses r ≡ true) (found : initialiser_for s sense r ≡ Some init) where
      outer : (o : ℕ) × (outermost_of s r ≡ Some o) × (initialiser_of s sense o ≡ Some init)
      outer = and_then_some (outermost_of s r) (initialiser_of s sense) init found

      outermost : is_outermost s outer.0 ≡ true
      outermost = found_above s (is_outermost s) (length s.nodes) outer.0 (parent_of s r) outer.1

      place : IsPlaced s outer.0 init
      place = units_place tokens unit tree tag_number senses cut read outer.0 init outermost outer.2

      own : IsOwnInitial s senses init
      own = initialisers_own tokens unit tree tag_number senses cut read are whole init place.above place.initialiser place.parent place.rest

      by_it : initialised_by s sense init ≡ Some outer.0
      by_it = initialisers_found tokens unit tree tag_number cut read sense outer.0 init place.declarator outer.2

      named : (ds : List Derivation) × (sense outer.0 ≡ IsDeclarator (Some r) ds)
      named =
          let same : own.declarator ≡ outer.0 = some_same (sym own.by_it ∙ by_it) in
          let leaf = same_leaf r outer.0 own.leaf own.derives declares outer.1 (ap sense (sym same) ∙ own.named) in
          (own.derives, ap sense (sym same) ∙ (own.named ∙ ap (λ (k : ℕ). IsDeclarator (Some k) own.derives) leaf))

      -- one that runs is an automatic object's
      runs_automatic : runs_initialiser (world place.above) s (before place.above) init ≡ true → storage_of s sense r ≡ Automatic
      runs_automatic runs =
          let q = place.above in
          let (l, there, automatic) = runs_for (world q) s (before q) init outer.0 by_it runs in
          let (ds, is, lt) = seen_declarator q outer.0 l there in
          let same : l ≡ r = same_leaf r outer.0 l ds declares outer.1 is in
          let few : outer.0 < length senses = (let inside = node_within s p_rest q place.rest refl in omega (arith, lt, inside, whole)) in
          let told = leaves_declared.by_sense s senses are t.grown (units_bring tokens unit tree tag_number read) outer.0 r named.0 few outermost named.1 in
          sym (storage_kept r outer.0 q told.words (omega (arith, lt)) told.told) ∙ subst (λ (k : ℕ). storage_of s (before q) k ≡ Automatic) same (automatic_storage (world q) s (before q) l automatic)

      stays_there : (c : Core) → core_of_sense s senses (sense init) ≡ Some c → (runs_initialiser (world place.above) s (before place.above) init ≡ true → ⊥) → Stays init c
      stays_there c core off = record {
        node = place.above;
        rest = place.rest;
        starts = place.initialiser;
        inside = in_list (children_at s place.above) init (parent_holds s t.grown place.above init place.parent);
        length_given = own.length_given;
        is = own.is ∙ ap (λ (x : Core). IsInitial x own.length_given) (some_same (sym (ap (core_of_sense s senses) own.is) ∙ core));
        off = by (runs_initialiser (world place.above) s (before place.above) init) refl;
      }
        where
          by : (b : Bool) → runs_initialiser (world place.above) s (before place.above) init ≡ b → b ≡ false
          by true e = absurd (off e)
          by false e = refl

    declared_parts : (d : ℕ) (what : Declares) → declared_name s senses d ≡ Some what → (is_declaring s senses d ≡ true) × (entity_of s sense d ≡ d) × (what.storage ≡ storage_at s senses d)
    declared_parts d what e = pick (declares_entity s senses d) refl (entity_type s senses d) e
      where
        pick : (a : Bool) → declares_entity s senses d ≡ a → (o : Option Ctype) → (if a then option_map (declared_as s senses d) o else None) ≡ Some what → (is_declaring s senses d ≡ true) × (entity_of s sense d ≡ d) × (what.storage ≡ storage_at s senses d)
        pick false h o k = absurd (none_some k)
        pick true h None k = absurd (none_some k)
        pick true h (Some x) k =
            let a = both (is_declaring s senses d) _ h in
            let b = both (stands_in_declaration s senses d) _ a.1 in
            let c = both (not (is_typedef s sense d)) _ b.1 in
            (a.0, eqb-true (entity_of s sense d) d c.1, ap (λ (z : Declares). z.storage) (sym (some_same k)))

    pub key_of : (d : ℕ) (what : Declares) (c : Core) → declared_name s senses d ≡ Some what → (what.storage ≡ Automatic → ⊥) → what.body ≡ Some c → (key : ℕ) × KeyOf d key what c
    key_of d what c told lasts body = by (body_by s senses r c (sym (body_is s senses d what told) ∙ body))
      where
        r : ℕ
        r = representative s senses d

        parts : (is_declaring s senses d ≡ true) × (entity_of s sense d ≡ d) × (what.storage ≡ storage_at s senses d)
        parts = declared_parts d what told

        st : IsStood d
        st = stood d parts.0 parts.1

        by : OfBlock s senses r c ⊎ OfInitial s senses r c → (key : ℕ) × KeyOf d key what c
        by (inl (defined, (b, block, core))) =
            let (p, external, child) = block_in s senses r b defined block in (
              b,
              record {
                root = inl (record { node = p; external = external; child = child; core = core });
                stands = st;
                by = inl (defined, block, parts.2 ∙ st.function (defined_stored r st.declares defined), (found_where (is_a s p_block) (children_at s p) b child).0);
              },
            )
        by (inr (init, found, core)) = (
          init,
          record {
            root = inr (stays_there r init st.declares found c core (λ runs. lasts (parts.2 ∙ st.automatic (runs_automatic r init st.declares found runs))));
            stands = st;
            by = inr (found, (place r init st.declares found).initialiser);
          },
        )

    -- of one name alone
    pub one_key : (d e key : ℕ) (what other : Declares) (c f : Core) → declared_name s senses d ≡ Some what → declared_name s senses e ≡ Some other → KeyOf d key what c → KeyOf e key other f → d ≡ e
    one_key d e key what other c f told said h g = by h.by g.by
      where
        by : ((is_defined s sense (representative s senses d) ≡ true) × (block_for s senses (representative s senses d) ≡ Some key) × (what.storage ≡ FunctionBody) × (is_a s p_block key ≡ true)) ⊎ ((initialiser_for s sense (representative s senses d) ≡ Some key) × (is_a s p_init key ≡ true))
            → ((is_defined s sense (representative s senses e) ≡ true) × (block_for s senses (representative s senses e) ≡ Some key) × (other.storage ≡ FunctionBody) × (is_a s p_block key ≡ true)) ⊎ ((initialiser_for s sense (representative s senses e) ≡ Some key) × (is_a s p_init key ≡ true))
            → d ≡ e
        by (inl (a, block, stored_so, is)) (inl (b, same, also, it)) = (blocks_differ tokens unit tree tag_number senses read are whole).once d e key what other told said stored_so also a b block same
        by (inl (a, block, stored_so, is)) (inr (found, it)) = absurd (no_both (is_a s p_init key) it (apart s key p_block p_init is refl))
        by (inr (found, it)) (inl (b, same, also, is)) = absurd (no_both (is_a s p_init key) it (apart s key p_block p_init is refl))
        by (inr (found, it)) (inr (same, also)) =
            let a = by_it (representative s senses d) key h.stands.declares found in
            let b = by_it (representative s senses e) key g.stands.declares same in
            let one = some_same (sym a ∙ b) in
            let x = named (representative s senses d) key h.stands.declares found in
            let y = named (representative s senses e) key g.stands.declares same in
            let names : IsDeclarator (Some (representative s senses d)) x.0 ≡ IsDeclarator (Some (representative s senses e)) y.0 = sym x.1 ∙ (ap sense one ∙ y.1) in
            let leaves : representative s senses d ≡ representative s senses e = cc in
            sym h.stands.entity ∙ (ap (entity_of s sense) leaves ∙ g.stands.entity)
