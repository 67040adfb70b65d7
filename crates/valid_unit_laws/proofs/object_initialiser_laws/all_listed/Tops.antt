-- The function around an automatic name, its block and its body.
use Rattle.std.proofs.Common.{arith, ◌≡◌, ◌<◌, nat_eq, ℕ, zero, suc, ◌&&◌, ◌||◌, Bool, true, false, List, Option, Some, None, length, slice_get, refl, sym, ap, ◌∙◌, subst, ◌⊎◌, inl, inr}
use Rattle.std.specs.Prelude.{is_some, option_and_then, option_map, if◌then◌else◌}
use Rattle.c_lexer.specs.declared.Tokens.{Tokens}
use Rattle.c_lexer.specs.Cut.{IsTokens}
use Rattle.c_grammar.specs.declared.trees.Tree.{Tree}
use Rattle.c_grammar.specs.Productions.{p_unit, p_external, p_block, p_statement}
use Rattle.c_parser.specs.c_units.Units.{IsUnit}
use Rattle.core_tree.specs.declared.node.Unit.{Unit}
use Rattle.core_tree.specs.declared.node.Entity.{Entity}
use Rattle.core_tree.specs.declared.node.NodeKind.TheVariants.{Block}
use Rattle.core_tree.specs.Typed.{trees_of}
use Rattle.core_tree.specs.Range.{entity_at}
use Rattle.core_tree.specs.Valid.{IsFunctionEntity}
use Rattle.c_consts.specs.Core.{Core}
use Rattle.c_senses.specs.Names.{source_of, numbered}
use Rattle.c_senses.specs.Tree.{Source, is_a, children_at, child_of, place_at, parent_of, above_within, nearest_above}
use Rattle.c_senses.specs.Sense.{Sense, IsCore, sense_in}
use Rattle.c_senses.specs.Entities.{entity_of, function_around, defined_name}
use Rattle.c_senses.specs.Statements.{statement, objects_in, cores_in}
use Rattle.c_senses.specs.Right.{StandsBy}
use Rattle.declaration_laws.specs.declared_type_laws.owner_laws.passed.definition_laws.Definitions.{is_definition}
use Rattle.declaration_laws.proofs.declared_type_laws.owner_laws.passed.definition_laws.Locals.{locals}
use Rattle.declaration_laws.specs.declared_type_laws.owner_laws.passed.definition_laws.function_definitions.Defined.{Defines}
use Rattle.declaration_laws.proofs.declared_type_laws.owner_laws.passed.definition_laws.function_definitions.Reading.{definitions_declare}
use Rattle.core_node_laws.specs.built_unit_laws.built_units.Built.{IsBuilt}
use Rattle.declaration_laws.specs.declared_type_laws.owner_laws.passed.definition_laws.scope_laws.Beneath.{Beneath, part, deeper}
use Rattle.declaration_laws.specs.declared_type_laws.owner_laws.passed.definition_laws.scope_laws.Scoped.{IsPart}
use Rattle.declaration_laws.proofs.declared_type_laws.owner_laws.passed.definition_laws.scope_laws.Tree.{compare, Order}
use Rattle.core_node_laws.specs.standing_laws.Standing.{IsGrown}
use Rattle.core_node_laws.proofs.standing_laws.Climbing.{in_list, child_inside}
use Rattle.core_node_laws.proofs.standing_laws.Descending.{F, W, row_there, same_given}
use Rattle.declaration_laws.proofs.declared_type_laws.owner_laws.Whole.{grown_of}
use Rattle.declaration_laws.proofs.declared_type_laws.owner_laws.passed.definition_laws.linkage_laws.Seen.{some_same, none_some, no_both, apart, parent_holds}
use Rattle.declaration_laws.proofs.declared_type_laws.owner_laws.passed.definition_laws.linkage_laws.Linked as linked
use Rattle.declaration_laws.proofs.declared_type_laws.owner_laws.passed.definition_laws.linkage_laws.Reading.{tree_is}
use Rattle.declaration_laws.proofs.declared_type_laws.owner_laws.internal_laws.Reading as internal_laws
use Rattle.declaration_laws.proofs.declared_type_laws.owner_laws.owned_laws.Owners.{IsOwner, owner_is}
use Rattle.valid_unit_laws.proofs.object_initialiser_laws.owned_initialisers.Function.{TopOf, function_top}
use Rattle.valid_unit_laws.proofs.object_initialiser_laws.listing_blocks.PassedOn.{Above, above_blocks}

found_above : (s : Source) (test : ℕ → Bool) (fuel d : ℕ) (o : Option ℕ) → above_within s test fuel o ≡ Some d → test d ≡ true
found_above s test zero d o e = cc
found_above s test (suc fuel) d None e = cc
found_above s test (suc fuel) d (Some p) e = by (test p) refl e (λ f. found_above s test fuel d (parent_of s p) f)
  where
    by : (b : Bool) → test p ≡ b → (if b then Some p else above_within s test fuel (parent_of s p)) ≡ Some d → (above_within s test fuel (parent_of s p) ≡ Some d → test d ≡ true) → test d ≡ true
    by true is e later = ap test (sym (some_same e)) ∙ is
    by false is e later = later e

and_then_some : {A B : Type 0} → (o : Option A) (k : A → Option B) (y : B) → option_and_then k o ≡ Some y → (x : A) × (o ≡ Some x) × (k x ≡ Some y)
and_then_some None k y e = cc
and_then_some (Some x) k y e = (x, refl, e)

map_some : {A B : Type 0} → (o : Option A) (k : A → B) (y : B) → option_map k o ≡ Some y → (x : A) × (o ≡ Some x) × (k x ≡ y)
map_some None k y e = cc
map_some (Some x) k y e = (x, refl, some_same e)

and_first : (a b : Bool) → (a && b) ≡ true → a ≡ true
and_first true b e = refl
and_first false b e = cc

module _
    (tokens : Tokens) (unit : ℕ) (tree : Tree) (tag_number : ℕ → ℕ) (name : List ℕ) (u : Unit) (cut : IsTokens tokens.text.now tokens.list.items) (is : IsUnit tokens unit tree)
    (built : IsBuilt (numbered tag_number (source_of tokens tree)) name u)
  where
    abbrev s : Source
    s = numbered tag_number (source_of tokens tree)

    abbrev senses : List Sense
    senses = built.senses

    abbrev sense : ℕ → Sense
    sense i = sense_in built.senses i

    abbrev t : linked.Tree s
    t = tree_is tokens unit tree is tag_number

    grown : IsGrown s
    grown = grown_of tokens unit tree tag_number cut is

    defines : (p : ℕ) → is_definition s p ≡ true → Defines s senses p
    defines p h = definitions_declare tokens unit tree tag_number senses p cut is built.are_senses built.whole h

    -- what is found above a node stands above it
    found_beneath : (test : ℕ → Bool) (fuel p q c : ℕ) → IsPart s p c → above_within s test fuel (Some p) ≡ Some q → Beneath (IsPart s) q c
    found_beneath test zero p q c r e = cc
    found_beneath test (suc fuel) p q c r e = by (test p) (parent_of s p) refl e (λ x h f. found_beneath test fuel x q p h f)
      where
        nothing : (fuel : ℕ) → above_within s test fuel None ≡ None
        nothing zero = refl
        nothing (suc fuel) = refl

        by : (b : Bool) (o : Option ℕ) → parent_of s p ≡ o → (if b then Some p else above_within s test fuel (parent_of s p)) ≡ Some q
            → ((x : ℕ) → IsPart s x p → above_within s test fuel (Some x) ≡ Some q → Beneath (IsPart s) q p) → Beneath (IsPart s) q c
        by true o up e more = subst (λ (k : ℕ). Beneath (IsPart s) k c) (some_same e) (part r)
        by false None up e more = absurd (none_some (sym (nothing fuel) ∙ (sym (ap (above_within s test fuel) up) ∙ e)))
        by false (Some x) up e more = deeper (more x (parent_holds s t.grown x p up) (sym (ap (above_within s test fuel) up) ∙ e)) r

    nearest_beneath : (test : ℕ → Bool) (c q : ℕ) → nearest_above s test c ≡ Some q → Beneath (IsPart s) q c
    nearest_beneath test c q e = by (parent_of s c) refl e
      where
        nothing : (fuel : ℕ) → above_within s test fuel None ≡ None
        nothing zero = refl
        nothing (suc fuel) = refl

        by : (o : Option ℕ) → parent_of s c ≡ o → above_within s test (length s.nodes) (parent_of s c) ≡ Some q → Beneath (IsPart s) q c
        by None up e = absurd (none_some (sym (nothing (length s.nodes)) ∙ (sym (ap (above_within s test (length s.nodes)) up) ∙ e)))
        by (Some p) up e = found_beneath test (length s.nodes) p q c (parent_holds s t.grown p c up) (sym (ap (above_within s test (length s.nodes)) up) ∙ e)

    -- ---- the block of a definition above a block or statement

    abbrev B : ℕ → Type 0
    B i = (is_a s p_block i || is_a s p_statement i) ≡ true

    -- the part towards a node
    record Towards (p b : ℕ) : Type 0 where
      node : ℕ
      holds : IsPart s p node
      on : (node ≡ b) ⊎ Beneath (IsPart s) node b

    towards : (p b : ℕ) → Beneath (IsPart s) p b → Towards p b
    towards p b (part r) = record { node = b; holds = r; on = inl refl }
    towards p b (deeper {i = i} d r) = let up = towards p i d in record { node = up.node; holds = up.holds; on = inr (by up.node up.on) }
      where
        by : (c : ℕ) → (c ≡ i) ⊎ Beneath (IsPart s) c i → Beneath (IsPart s) c b
        by c (inl same) = part (subst (λ (k : ℕ). IsPart s k b) (sym same) r)
        by c (inr e) = deeper e r

    block_of : (p c b : ℕ) → is_a s p_external p ≡ true → IsPart s p c → (c ≡ b) ⊎ Beneath (IsPart s) c b → B b → is_a s p_block c ≡ true
    block_of p c b external holds on kind = block (kinds on)
      where
        no_statement : is_a s p_statement c ≡ true → ⊥
        no_statement e = pick (is_a s p_block p) (is_a s p_statement p) refl refl (t.nested.statements p c holds e)
          where
            pick : (x y : Bool) → is_a s p_block p ≡ x → is_a s p_statement p ≡ y → (x || y) ≡ true → ⊥
            pick true y ex ey h = no_both (is_a s p_block p) ex (apart s p p_external p_block external refl)
            pick false true ex ey h = no_both (is_a s p_statement p) ey (apart s p p_external p_statement external refl)
            pick false false ex ey h = cc

        above : Above s t.grown t.nested c b c → B c
        above (inl h) = h
        above (inr (inl h)) = absurd (no_both (is_a s p_unit p) (t.nested.externals p c holds h) (apart s p p_external p_unit external refl))
        above (inr (inr h)) = absurd (no_both (is_a s p_unit c) h (t.nested.units p c holds))

        kinds : (c ≡ b) ⊎ Beneath (IsPart s) c b → B c
        kinds (inl same) = subst B (sym same) kind
        kinds (inr d) = above (above_blocks s t.grown t.nested c b c b d (inl kind))

        block : B c → is_a s p_block c ≡ true
        block h = by (is_a s p_block c) (is_a s p_statement c) refl h
          where
            by : (x y : Bool) → is_a s p_statement c ≡ y → (x || y) ≡ true → x ≡ true
            by true y ey h = refl
            by false true ey h = absurd (no_statement ey)
            by false false ey h = cc

    -- an external declaration that stands above what a block stands above as well stands above the block
    over_block : (p b leaf : ℕ) → is_a s p_external p ≡ true → B b → Beneath (IsPart s) p leaf → Beneath (IsPart s) b leaf → Beneath (IsPart s) p b
    over_block p b leaf external kind up own = by (compare (IsPart s) t.grown.once p b leaf up own)
      where
        no_kind : (q : ℕ) → is_a s q b ≡ true → nat_eq q p_block ≡ false → nat_eq q p_statement ≡ false → ⊥
        no_kind q e x y = pick (is_a s p_block b) (is_a s p_statement b) refl refl kind
          where
            pick : (m n : Bool) → is_a s p_block b ≡ m → is_a s p_statement b ≡ n → (m || n) ≡ true → ⊥
            pick true n em en h = no_both (is_a s p_block b) em (apart s b q p_block e x)
            pick false true em en h = no_both (is_a s p_statement b) en (apart s b q p_statement e y)
            pick false false em en h = cc

        above_external : (c : ℕ) → Beneath (IsPart s) b c → is_a s p_external c ≡ true → ⊥
        above_external c (part r) e = no_kind p_unit (t.nested.externals b c r e) refl refl
        above_external c (deeper {i = i} (part q) r) e = no_both (is_a s p_unit i) (t.nested.externals i c r e) (t.nested.units b i q)
        above_external c (deeper {i = i} (deeper {i = j} d q) r) e = no_both (is_a s p_unit i) (t.nested.externals i c r e) (t.nested.units j i q)

        by : Order (IsPart s) p b → Beneath (IsPart s) p b
        by (inl same) = absurd (no_kind p_external (subst (λ (k : ℕ). is_a s p_external k ≡ true) same external) refl refl)
        by (inr (inl d)) = d
        by (inr (inr d)) = absurd (above_external p d external)

    -- ---- the function

    -- a function that owns an automatic name, by the block around a block or statement above the name
    pub record Top (f b : ℕ) : Type 0 where
      pub entity : Entity
      pub at : entity_at (trees_of u) f ≡ Some entity
      pub function : IsFunctionEntity (trees_of u) entity
      pub external : ℕ
      pub is_external : is_a s p_external external ≡ true
      pub block : ℕ
      pub part_is : IsPart s external block
      pub is_block : is_a s p_block block ≡ true
      pub on : (block ≡ b) ⊎ Beneath (IsPart s) block b
      pub core : Core
      pub sensed : sense block ≡ IsCore core
      pub top : ℕ
      pub body : entity.body ≡ Some top
      pub stands : StandsBy built.numbering u top core

    -- the tree of a block
    abbrev block_core : ℕ → Core
    block_core b =
        statement (Block (objects_in (W s senses grown built.are_senses built.whole b) s (F s senses grown built.are_senses built.whole b) (children_at s b))) (place_at s b)
        (cores_in (W s senses grown built.are_senses built.whole b) s (F s senses grown built.are_senses built.whole b) (children_at s b))

    pub top_of : (leaf f g b : ℕ) → option_map (entity_of s sense) (function_around s sense leaf) ≡ Some g → built.numbering g ≡ Some f → B b → Beneath (IsPart s) b leaf → Top f b
    top_of leaf f g b around number kind own = record {
      entity = function.0;
      at = function.1;
      function = function.2.function;
      external = p.0;
      is_external = external;
      block = way.node;
      part_is = way.holds;
      is_block = is_block;
      on = way.on;
      core = block_core way.node;
      sensed = sensed;
      top = whole.top;
      body = whole.body;
      stands = whole.stands;
    }
      where
        z : (x : ℕ) × (function_around s sense leaf ≡ Some x) × (entity_of s sense x ≡ g)
        z = map_some (function_around s sense leaf) (entity_of s sense) g around

        p : (x : ℕ) × (nearest_above s (is_definition s) leaf ≡ Some x) × (defined_name s sense x ≡ Some z.0)
        p = and_then_some (nearest_above s (is_definition s) leaf) (defined_name s sense) z.0 z.1

        definition : is_definition s p.0 ≡ true
        definition = found_above s (is_definition s) (length s.nodes) p.0 (parent_of s leaf) p.1

        external : is_a s p_external p.0 ≡ true
        external = and_first (is_a s p_external p.0) (is_some (child_of s p_block p.0)) definition

        h : Defines s senses p.0
        h = defines p.0 definition

        function : (entity : Entity) × (entity_at (trees_of u) f ≡ Some entity) × IsOwner u entity
        function =
            owner_is s name u built (λ l k. linked.stands_linked s t senses built.are_senses built.whole l k) defines (internal_laws.definitions_known tokens unit tree tag_number senses cut is built.are_senses built.whole)
            (λ l k. (linked.linked_named s t senses built.are_senses built.whole l k).3.reached.named) (λ l q e other stands. locals tokens unit tree tag_number senses l q cut is e other stands) g f
            (record { node = leaf; function = z.0; around = z.1; is = z.2 }) number

        way : Towards p.0 b
        way = towards p.0 b (over_block p.0 b leaf external kind (nearest_beneath (is_definition s) leaf p.0 p.1) own)

        is_block : is_a s p_block way.node ≡ true
        is_block = block_of p.0 way.node b external way.holds way.on kind

        inside : way.node < length senses
        inside =
            let k = in_list (children_at s p.0) way.node way.holds in
            let lt = grown.first p.0 k.0 way.node k.1 in
            let more = child_inside (slice_get s.nodes p.0) s.nodes p.0 k.0 way.node refl k.1 in
            let all = built.whole in
            omega (arith, lt, more, all)

        sensed : sense way.node ≡ IsCore (block_core way.node)
        sensed = sym (same_given (IsCore (block_core way.node)) (sense way.node) (row_there s senses grown built.are_senses built.whole way.node p_block inside is_block))

        its : built.numbering (entity_of s sense h.name) ≡ Some f
        its = ap (λ (k : ℕ). built.numbering (entity_of s sense k)) (some_same (sym h.named ∙ p.2)) ∙ (ap built.numbering z.2 ∙ number)

        whole : TopOf tokens unit tree tag_number name u cut is built function.0 (block_core way.node)
        whole = function_top tokens unit tree tag_number name u cut is built p.0 way.node f (block_core way.node) function.0 definition h way.holds is_block sensed its function.1 function.2.storage
