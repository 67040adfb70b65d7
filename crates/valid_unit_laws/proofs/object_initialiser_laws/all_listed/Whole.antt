-- Each automatic object that no literal makes is listed once, around its names.
use Rattle.std.proofs.Common.{◌≡◌, ◌&&◌, ◌||◌, ℕ, Bool, true, false, List, Option, Some, None, slice_get, refl, sym, ap, ◌∙◌, subst, ◌⊎◌, inl, inr}
use Rattle.std.specs.Prelude.{IfSome, option_map, if◌then◌else◌}
use Rattle.c_lexer.specs.declared.Tokens.{Tokens}
use Rattle.c_lexer.specs.Cut.{IsTokens}
use Rattle.c_grammar.specs.declared.trees.Tree.{Tree}
use Rattle.c_grammar.specs.Productions.{p_unit, p_external, p_declaration, p_block, p_statement}
use Rattle.c_parser.specs.c_units.Units.{IsUnit}
use Rattle.c_types.specs.Trees.{Ctype}
use Rattle.core_tree.specs.declared.node.Unit.{Unit}
use Rattle.core_tree.specs.declared.node.Node.{Node}
use Rattle.core_tree.specs.declared.node.Entity.{Entity}
use Rattle.core_tree.specs.declared.node.NodeKind.{NodeKind}
use Rattle.core_tree.specs.declared.node.NodeKind.TheVariants.{Named, Initialise}
use Rattle.core_tree.specs.declared.node.Linkage.{Linkage}
use Rattle.core_tree.specs.declared.node.Linkage.TheVariants.{External, Internal, Local}
use Rattle.core_tree.specs.declared.node.Storage.{Storage}
use Rattle.core_tree.specs.declared.node.Storage.TheVariants.{Static, Automatic, Declared}
use Rattle.core_tree.specs.Typed.{trees_of}
use Rattle.core_tree.specs.Rows.{Has, Initialises, InitialisesIn, InitialisesEntity}
use Rattle.core_tree.specs.Range.{Under, OnceHeld, entity_at, listed_in}
use Rattle.core_tree.specs.Valid.{IsLocal, InOwner, InOwnerIn, IsInOwner, InOwnersBody, InBody, InBodyOf, UnderBody, IsNamedOrMade, HasLister, IsLister, NamesUnder, Listed, AllListed}
use Rattle.c_consts.specs.Core.{Core, Of, kind_of}
use Rattle.c_senses.specs.Names.{source_of, numbered}
use Rattle.c_senses.specs.Tree.{Source, is_a, is_name, children_at}
use Rattle.c_senses.specs.Sense.{Sense, IsCore, sense_in}
use Rattle.c_senses.specs.Entities.{is_internal, is_linked, declares_function, storage_of, linkage_of, entity_of, function_around}
use Rattle.c_senses.specs.Right.{SameOwner, IsEntityOf, IsDeclaredAt, Declared as Declares, representative, storage_at, declared_as, is_declaring, declares_entity, entity_type}
use Rattle.core_node_laws.specs.built_unit_laws.built_units.Built.{IsBuilt}
use Rattle.declaration_laws.specs.declared_type_laws.owner_laws.passed.definition_laws.scope_laws.Beneath.{Beneath, part, deeper}
use Rattle.declaration_laws.specs.declared_type_laws.owner_laws.passed.definition_laws.scope_laws.Scoped.{IsPart}
use Rattle.declaration_laws.proofs.declared_type_laws.owner_laws.passed.definition_laws.scope_laws.Tree.{further}
use Rattle.core_node_laws.proofs.standing_laws.Climbing.{in_list}
use Rattle.declaration_laws.specs.declared_type_laws.owner_laws.Owners.{Forward}
use Rattle.core_node_laws.specs.count_laws.once_nodes.Once.{IsLaid}
use Rattle.declaration_laws.proofs.declared_type_laws.owner_laws.passed.definition_laws.linkage_laws.Seen.{some_same, no_both, apart}
use Rattle.declaration_laws.proofs.declared_type_laws.owner_laws.passed.definition_laws.linkage_laws.Linked as linked
use Rattle.declaration_laws.proofs.declared_type_laws.owner_laws.passed.definition_laws.linkage_laws.Reading.{tree_is}
use Rattle.declaration_laws.proofs.declared_type_laws.owner_laws.passed.definition_laws.linkage_laws.Unlinked.{lives, local, Made, made}
use Rattle.declaration_laws.specs.declared_type_laws.owner_laws.held_parts.Held.{StandsIn, IsHeld, PartsHeld}
use Rattle.declaration_laws.proofs.declared_type_laws.owner_laws.held_parts.Whole.{units_hold_parts}
use Rattle.declaration_laws.specs.declared_type_laws.owner_laws.held_runs.Runs.{NodeOf}
use Rattle.declaration_laws.proofs.declared_type_laws.owner_laws.held_runs.Whole.{node_of}
use Rattle.valid_unit_laws.specs.object_initialiser_laws.block_uses.Uses.{OpensOwn}
use Rattle.valid_unit_laws.specs.object_initialiser_laws.listing_blocks.PassedOn.{ListsIt, Covered, IsBlockOf}
use Rattle.valid_unit_laws.proofs.object_initialiser_laws.listing_blocks.PassedOn.{on_blockish, blocks_cover}
use Rattle.valid_unit_laws.specs.object_initialiser_laws.listing_blocks.Listing.{IsListedBy}
use Rattle.valid_unit_laws.proofs.object_initialiser_laws.listing_blocks.Whole.{objects_are_listed}
use Rattle.valid_unit_laws.proofs.object_initialiser_laws.listed_once.Whole.{lists_once}
use Rattle.valid_unit_laws.specs.object_initialiser_laws.all_listed.Listed.{UnitsList}
use Rattle.valid_unit_laws.proofs.object_initialiser_laws.all_listed.Path.{stands_lists, names_below}
use Rattle.valid_unit_laws.proofs.object_initialiser_laws.all_listed.Literals.{no_literal}
use Rattle.valid_unit_laws.proofs.object_initialiser_laws.all_listed.Tops.{Top, top_of}

-- a local name has no linkage
not_linked : (a b : Bool) → (if a then Internal else (if b then External else Local)) ≡ Local → b ≡ false
not_linked true b e = cc
not_linked false true e = cc
not_linked false false e = refl

and_first : (a b : Bool) → (a && b) ≡ true → a ≡ true
and_first true b e = refl
and_first false b e = cc

listed_covered : (d : ℕ) (c : Core) → ListsIt d (kind_of c) → Covered d c
listed_covered d (Of kind place type under) h = inl h

stands_itself : (c : Core) → StandsIn c c
stands_itself (Of kind place type under) = inl refl

module _
    (tokens : Tokens) (unit : ℕ) (tree : Tree) (tag_number : ℕ → ℕ) (name : List ℕ) (u : Unit) (cut : IsTokens tokens.text.now tokens.list.items) (is : IsUnit tokens unit tree)
    (built : IsBuilt (numbered tag_number (source_of tokens tree)) name u) (laid : IsLaid (numbered tag_number (source_of tokens tree)) built.senses built.numbering u) (in_owner : InOwner (trees_of u)) (forward : Forward (trees_of u))
  where
    abbrev s : Source
    s = numbered tag_number (source_of tokens tree)

    abbrev senses : List Sense
    senses = built.senses

    abbrev sense : ℕ → Sense
    sense i = sense_in built.senses i

    abbrev t : linked.Tree s
    t = tree_is tokens unit tree is tag_number

    -- ---- an automatic name

    module _ (e leaf f : ℕ) (entity : Entity) (what : Declares) (at : entity_at (trees_of u) e ≡ Some entity) (number : built.numbering leaf ≡ Some e) (same : IsEntityOf built.numbering u s.unit what entity) (auto : entity.storage ≡ Automatic)
        (owner : entity.owner ≡ Some f) (declares : declares_entity s senses leaf ≡ true) (type : Ctype) (told : declared_as s senses leaf type ≡ what) where
      stored : storage_at s senses leaf ≡ Automatic
      stored = ap (λ (x : Declares). x.storage) told ∙ (sym same.storage ∙ auto)

      is_local : linkage_of s sense leaf ≡ Local
      is_local = local s senses (λ l h. linked.stands_linked s t senses built.are_senses built.whole l h) leaf (ap lives stored)

      unlinked : is_linked s sense leaf ≡ false
      unlinked = not_linked (is_internal s sense leaf) (is_linked s sense leaf) is_local

      own_storage : storage_of s sense leaf ≡ Automatic
      own_storage =
          sym (ap (λ (l : Linkage). elim l as (λ _. Storage) [ Internal ↦ (elim (storage_of s sense (representative s senses leaf)) as (λ _. Storage) [ Declared ↦ if declares_function s sense leaf then Declared else Static | other ↦ other ]) | _ ↦ storage_of s sense leaf ]) is_local)
          ∙ stored

      own_owner : what.owner ≡ option_map (entity_of s sense) (function_around s sense leaf)
      own_owner =
          ap (λ (x : Declares). x.owner) (sym told) ∙ ap (λ (l : Linkage). elim l as (λ _. Option ℕ) [ Local ↦ option_map (entity_of s sense) (function_around s sense leaf) | _ ↦ None ]) is_local

      by_block : IsListedBy s senses leaf
      by_block = objects_are_listed tokens unit tree tag_number senses cut is built.are_senses built.whole leaf declares own_storage

      one : (x : ℕ) → built.numbering x ≡ Some e → x ≡ leaf
      one x h = built.entity_once x leaf e h number

      module _ (function : Top tokens unit tree tag_number name u cut is built f by_block.node) where
        -- a block within the function's
        module _ (below : Beneath (IsPart s) function.block by_block.node) where
          no_external : (c : ℕ) → Beneath (IsPart s) function.block c → is_a s p_external c ≡ true → ⊥
          no_external c (part r) h = no_both (is_a s p_unit function.block) (t.nested.externals function.block c r h) (apart s function.block p_block p_unit function.is_block refl)
          no_external c (deeper {i = i} (part q) r) h = no_both (is_a s p_unit i) (t.nested.externals i c r h) (t.nested.units function.block i q)
          no_external c (deeper {i = i} (deeper {i = j} d q) r) h = no_both (is_a s p_unit i) (t.nested.externals i c r h) (t.nested.units j i q)

          opens : OpensOwn s by_block.node
          opens = by by_block.place
            where
              up : (p : ℕ) → IsPart s p by_block.node → is_a s p_external p ≡ true → Beneath (IsPart s) function.block by_block.node → ⊥
              up p r h (part q) = no_both (is_a s p_external function.block) (subst (λ (k : ℕ). is_a s p_external k ≡ true) (t.grown.once p function.block by_block.node r q) h) (apart s function.block p_block p_external function.is_block refl)
              up p r h (deeper {i = i} d q) = no_external p (subst (λ (k : ℕ). Beneath (IsPart s) function.block k) (t.grown.once i p by_block.node q r) d) h

              by : OpensOwn s by_block.node ⊎ ((is_a s p_block by_block.node ≡ true) × ((p : ℕ) × IsPart s p by_block.node × (is_a s p_external p ≡ true))) → OpensOwn s by_block.node
              by (inl h) = h
              by (inr (block, (p, r, h))) = absurd (up p r h below)

          own : IsBlockOf s senses function.external function.block by_block.node leaf
          own = record {
            external = function.is_external;
            part = function.part_is;
            is_block = function.is_block;
            within = below;
            opens = opens;
            declared = by_block.declared;
            name = and_first (is_name s leaf) _ (and_first (is_declaring s senses leaf) _ declares);
            linkage = unlinked;
            core = by_block.core;
            sensed = by_block.sensed;
            lists = by_block.lists;
          }

          kept : PartsHeld s senses
          kept = units_hold_parts tokens unit tree tag_number senses cut is built.are_senses built.whole

          abbrev On : ℕ → Type 0
          On c = (c ≡ by_block.node) ⊎ Beneath (IsPart s) c by_block.node

          blockish : (c : ℕ) → On c → Beneath (IsPart s) function.block c → (is_a s p_block c || is_a s p_statement c) ≡ true
          blockish c on down = on_blockish tokens unit tree tag_number senses cut is built.are_senses built.whole function.external function.block by_block.node leaf own c on down

          turned : (a b : Bool) → (a || b) ≡ true → (b || a) ≡ true
          turned true true e = refl
          turned true false e = refl
          turned false true e = refl
          turned false false e = cc

          or_left : (a b : Bool) → a ≡ true → (a || b) ≡ true
          or_left true b e = refl
          or_left false b e = cc

          or_right : (a b : Bool) → b ≡ true → (a || b) ≡ true
          or_right true b e = refl
          or_right false b e = e

          sort : (c : ℕ) → On c → Beneath (IsPart s) function.block c → (is_a s p_declaration c || (is_a s p_statement c || is_a s p_block c)) ≡ true
          sort c on down = or_right (is_a s p_declaration c) (is_a s p_statement c || is_a s p_block c) (turned (is_a s p_block c) (is_a s p_statement c) (blockish c on down))

          -- what stands in the block stands in the function's
          held : (c : ℕ) → Beneath (IsPart s) function.block c → On c → IsHeld by_block.core (sense c) → IsHeld by_block.core (sense function.block)
          held c (part r) on h =
              kept.each function.block c by_block.core (turned (is_a s p_block function.block) (is_a s p_statement function.block) (or_left (is_a s p_block function.block) (is_a s p_statement function.block) function.is_block)) (in_list (children_at s function.block) c r)
              (sort c on (part r)) h
          held c (deeper {i = i} d r) on h =
              held i d (inr (higher on)) (kept.each i c by_block.core (turned (is_a s p_block i) (is_a s p_statement i) (blockish i (inr (higher on)) d)) (in_list (children_at s i) c r) (sort c on (deeper d r)) h)
            where
              higher : On c → Beneath (IsPart s) i by_block.node
              higher (inl same) = part (subst (λ (k : ℕ). IsPart s i k) same r)
              higher (inr e) = further (IsPart s) i c by_block.node (part r) e

          inner_stands : StandsIn by_block.core function.core
          inner_stands =
              subst (λ (x : Sense). IsHeld by_block.core x) function.sensed
              (held by_block.node below (inl refl) (subst (λ (x : Sense). IsHeld by_block.core x) (sym by_block.sensed) (stands_itself by_block.core)))

          inner_covered : Covered leaf function.core
          inner_covered = blocks_cover tokens unit tree tag_number senses cut is built.are_senses built.whole function.external function.block by_block.node leaf own function.core function.sensed

        -- ---- the block itself, or one within it

        same_core : function.block ≡ by_block.node → by_block.core ≡ function.core
        same_core e = let both : IsCore by_block.core ≡ IsCore function.core = sym by_block.sensed ∙ (ap sense (sym e) ∙ function.sensed) in cc

        stands_in : StandsIn by_block.core function.core
        stands_in = by function.on
          where
            by : (function.block ≡ by_block.node) ⊎ Beneath (IsPart s) function.block by_block.node → StandsIn by_block.core function.core
            by (inl e) = subst (λ (c : Core). StandsIn by_block.core c) (same_core e) (stands_itself by_block.core)
            by (inr d) = inner_stands d

        covered : Covered leaf function.core
        covered = by function.on
          where
            by : (function.block ≡ by_block.node) ⊎ Beneath (IsPart s) function.block by_block.node → Covered leaf function.core
            by (inl e) = subst (λ (c : Core). Covered leaf c) (same_core e) (listed_covered leaf by_block.core by_block.lists)
            by (inr d) = inner_covered d

        -- ---- the node that lists

        node : NodeOf built.numbering u function.top by_block.core
        node = node_of built.numbering u by_block.core built.initialises_once function.top function.core function.stands stands_in

        lister : (x : Node) × (slice_get u.nodes.items node.node ≡ Some x) × Has (listed_in x) e
        lister = stands_lists built.numbering u leaf e number one node.node by_block.core node.stands by_block.lists

        once : OnceHeld (trees_of u) listed_in e
        once = lists_once tokens unit tree tag_number name u cut is built laid e entity at

        body_of : (n : ℕ) → Under (trees_of u) function.top n → InBody (trees_of u) f n
        body_of n under = subst (λ (o : Option Entity). InBodyOf (trees_of u) o n) (sym function.at) (function.function, subst (λ (o : Option ℕ). UnderBody (trees_of u) o n) (sym function.body) under)

        under_body : (n : ℕ) → InOwnersBody (trees_of u) entity.owner n → Under (trees_of u) function.top n
        under_body n h =
            let own : InBodyOf (trees_of u) (entity_at (trees_of u) f) n = subst (λ (o : Option ℕ). InOwnersBody (trees_of u) o n) owner h in
            subst (λ (o : Option ℕ). UnderBody (trees_of u) o n) function.body (subst (λ (o : Option Entity). InBodyOf (trees_of u) o n) function.at own).1

        -- names and initialisers stand in the function's body
        in_body : (n : ℕ) (x : Node) → slice_get u.nodes.items n ≡ Some x → IsNamedOrMade x.kind e → Under (trees_of u) function.top n
        in_body n x there names = by x.kind refl names
          where
            named : (o : ℕ) → o ≡ e → InOwnerIn (trees_of u) (entity_at (trees_of u) o) n → Under (trees_of u) function.top n
            named o same_one h =
                let own : InOwnerIn (trees_of u) (Some entity) n = subst (λ (y : Option Entity). InOwnerIn (trees_of u) y n) at (subst (λ (k : ℕ). InOwnerIn (trees_of u) (entity_at (trees_of u) k) n) same_one h) in
                under_body n (own (subst IsLocal (sym auto) tt))

            initialised : Initialises (trees_of u) n e → Under (trees_of u) function.top n
            initialised h =
                let (y, at_y, body) = built.initialises_once n e h in
                let own : y ≡ entity = some_same (sym at_y ∙ at) in
                let its : entity.body ≡ Some n = ap (λ (z : Entity). z.body) (sym own) ∙ body in
                under_body n (subst (λ (o : Option ℕ). IfSome o (λ b. InOwnersBody (trees_of u) entity.owner b)) its (forward e entity at auto))

            by : (kind : NodeKind) → x.kind ≡ kind → IsNamedOrMade kind e → Under (trees_of u) function.top n
            by (Named o) is_kind h = named o h (subst (λ (k : NodeKind). IsInOwner (trees_of u) n k) is_kind (in_owner n x there))
            by (Initialise o paths) is_kind h = initialised (subst (λ (y : Option Node). InitialisesIn y e) (sym there) (subst (λ (k : NodeKind). InitialisesEntity k e) (sym is_kind) h))
            by kind is_kind h = absurd h

        names : NamesUnder (trees_of u) e node.node
        names = record { each = λ n x there is_one. each n x there is_one }
          where
            each : (n : ℕ) (x : Node) → slice_get u.nodes.items n ≡ Some x → IsNamedOrMade x.kind e → Under (trees_of u) node.node n
            each n x there is_one =
                let (l, own, at_l, has, under) = names_below built.numbering u leaf e number one function.top n function.core x function.stands covered (in_body n x there is_one) there is_one in
                let same_node : node.node ≡ l = (once.each node.node lister.0 lister.1).others lister.2 l own at_l has in
                subst (λ (k : ℕ). Under (trees_of u) k n) (sym same_node) under

        has_lister : HasLister (trees_of u) e f
        unfolding IsLister
        has_lister = record { some = (node.node, lister.0, lister.1, (lister.2, body_of node.node node.under, names)) }

      listed : (g : ℕ) → what.owner ≡ Some g → built.numbering g ≡ Some f → Listed (trees_of u) e f
      listed g has known =
          let function = top_of tokens unit tree tag_number name u cut is built leaf f g by_block.node (sym own_owner ∙ has) known by_block.is by_block.above in
          record { lister = has_lister function; once = lists_once tokens unit tree tag_number name u cut is built laid e entity at }

    all : AllListed (trees_of u)
    all e entity at auto none = by entity.owner refl
      where
        m : Made s name u built e entity
        m = made s name u built e entity at

        with_type : (f : ℕ) → entity.owner ≡ Some f → (b : Bool) → declares_entity s senses m.leaf ≡ b → (o : Option Ctype) → (if b then option_map (declared_as s senses m.leaf) o else None) ≡ Some m.what → (w : Option ℕ) → m.what.owner ≡ w
            → SameOwner built.numbering w entity.owner → Listed (trees_of u) e f
        with_type f owner false declares o told w has h = cc
        with_type f owner true declares None told w has h = cc
        with_type f owner true declares (Some type) told None has h = absurd (subst (λ (o : Option ℕ). SameOwner built.numbering None o) owner h)
        with_type f owner true declares (Some type) told (Some g) has h =
            listed e m.leaf f entity m.what at m.number m.is auto owner declares type (some_same told) g has (subst (λ (o : Option ℕ). SameOwner built.numbering (Some g) o) owner h)

        declared : (f : ℕ) → entity.owner ≡ Some f → IsDeclaredAt s senses m.leaf m.what → Listed (trees_of u) e f
        declared f owner (inl told) = with_type f owner (declares_entity s senses m.leaf) refl (entity_type s senses m.leaf) told m.what.owner refl m.is.owner
        declared f owner (inr (c, literal, is_one)) = absurd (no_literal s name u built m.leaf e c literal m.number none)

        by : (o : Option ℕ) → entity.owner ≡ o → IfSome o (λ f. Listed (trees_of u) e f)
        by None owner = tt
        by (Some f) owner = declared f owner m.declared

pub units_list : UnitsList
units_list tokens unit tree tag_number name u cut is built laid in_owner forward = all tokens unit tree tag_number name u cut is built laid in_owner forward
