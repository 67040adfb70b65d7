-- Initialisers that stand under no node, and those of automatic objects.
use Rattle.std.proofs.Common.{◌≡◌, ◌<◌, ℕ, true, List, Option, Some, None, length, slice_get, refl, sym, ap, ◌∙◌, subst, ◌⊎◌, inl, inr}
use Rattle.std.proofs.lemmas.Option.{slice_get_within}
use Rattle.c_lexer.specs.declared.Tokens.{Tokens}
use Rattle.c_lexer.specs.Cut.{IsTokens}
use Rattle.c_grammar.specs.declared.trees.Tree.{Tree}
use Rattle.c_parser.specs.c_units.Units.{IsUnit}
use Rattle.c_types.specs.Trees.{VoidType}
use Rattle.c_grammar.specs.Productions.{p_block}
use Rattle.core_tree.specs.declared.node.Unit.{Unit}
use Rattle.core_tree.specs.declared.node.Node.{Node}
use Rattle.core_tree.specs.declared.node.NodeKind.{NodeKind}
use Rattle.core_tree.specs.declared.node.NodeKind.TheVariants.{Initialise, Block}
use Rattle.core_tree.specs.declared.node.Entity.{Entity}
use Rattle.core_tree.specs.declared.node.Storage.TheVariants.{Automatic}
use Rattle.core_tree.specs.Typed.{trees_of}
use Rattle.core_tree.specs.Range.{IsChild, entity_at}
use Rattle.core_tree.specs.Rows.{Initialises}
use Rattle.c_consts.specs.Core.{Core, Of, kind_of}
use Rattle.c_inits.specs.Shapes.{Path}
use Rattle.c_senses.specs.Names.{source_of, numbered}
use Rattle.c_senses.specs.Tree.{Source, is_a, child_of, children_at, place_at}
use Rattle.c_senses.specs.Given.{Given, Fits}
use Rattle.c_senses.specs.Statements.{objects_in, cores_in}
use Rattle.c_senses.specs.Sense.{Sense, IsCore, sense_in}
use Rattle.c_senses.specs.Rows.{AreSenses}
use Rattle.c_senses.specs.Right.{Numbering, SameKind, SameBody, StandsBy, Declared, declared_name, Within, Itself, Below, IsBody, core_of_sense}
use Rattle.valid_unit_laws.specs.object_initialiser_laws.once_initialised.Once.{initialises}
use Rattle.valid_unit_laws.proofs.object_initialiser_laws.once_initialised.Whole.{initialised_once}
use Rattle.core_node_laws.proofs.count_laws.once_nodes.Found.{some_one, Found, top, inside, found_stands, kind_there}
use Rattle.core_node_laws.proofs.count_laws.once_nodes.Rooted.{same_initialise, found_where}
use Rattle.core_node_laws.proofs.built_unit_laws.run_laws.Times.{known_at, world_of, row_as}
use Rattle.declaration_laws.proofs.function_laws.passed.definition_laws.linkage_laws.Seen.{node_within}
use Rattle.valid_unit_laws.proofs.body_node_laws.own_initials.Own.{units_initialise_own}
use Rattle.valid_unit_laws.proofs.body_node_laws.own_initials.Automatic.{automatic}
use Rattle.valid_unit_laws.proofs.body_node_laws.own_initials.Roots.{IsBlock}
use Rattle.valid_unit_laws.specs.body_node_laws.parts_initialise.Initialise.{IsRaised, IsBodyOf, IsLasting, TopsInitialise, AutomaticsInitialise}
use Rattle.valid_unit_laws.proofs.body_node_laws.parts_initialise.Stored.{BlockAt, StaysAt}
use Rattle.valid_unit_laws.proofs.body_node_laws.parts_initialise.Forest.{node_initialises, Top, top_of, rooted, one_node}

found_within : (k : ℕ) (m : Numbering) (u : Unit) (s : Source) (senses : List Sense) {r x : ℕ} {c own : Core} → Found (initialises k) m u r c x own → Within s senses own c
found_within k m u s senses top = Itself
found_within k m u s senses (inside j at child is kept found) = Below (j, is) (found_within k m u s senses found)

pub same_leaf : {d f : ℕ} {paths others : List Path} → Initialise d paths ≡ Initialise f others → d ≡ f
same_leaf h = cc

pub body_some : (m : Numbering) (u : Unit) (c : Core) (o : Option ℕ) → SameBody m u (Some c) o → (b : ℕ) × (o ≡ Some b) × StandsBy m u b c
body_some m u c None h = absurd h
body_some m u c (Some b) h = (b, refl, h)

-- a tree that initialises stands at a node that does
pub stands_initialises : (m : Numbering) (u : Unit) (b d e : ℕ) (c : Core) (paths : List Path) → StandsBy m u b c → kind_of c ≡ Initialise d paths → m d ≡ Some e → (node : Node) × (others : List Path) × (slice_get u.nodes.items b ≡ Some node) × (node.kind ≡ Initialise e others)
stands_initialises m u b d e (Of kind place type under) paths (node, at, kinds, place_is, typed, more) is number = by node.kind refl (subst (λ (k : NodeKind). SameKind m k node.kind) is kinds)
  where
    by : (k : NodeKind) → node.kind ≡ k → SameKind m (Initialise d paths) k → (x : Node) × (others : List Path) × (slice_get u.nodes.items b ≡ Some x) × (x.kind ≡ Initialise e others)
    by (Initialise f others) own h = (node, others, at, own ∙ ap (λ (z : ℕ). Initialise z others) (some_one (sym h.0 ∙ number)))
    by k own h = absurd (cc)

module _ (tokens : Tokens) (unit : ℕ) (tree : Tree) (tag_number : ℕ → ℕ) (senses : List Sense) (cut : IsTokens tokens.text.now tokens.list.items) (read : IsUnit tokens unit tree)
    (are : AreSenses (numbered tag_number (source_of tokens tree)) senses) (whole : length senses ≡ length (numbered tag_number (source_of tokens tree)).nodes) (m : Numbering) (u : Unit)
    (raised : IsRaised (numbered tag_number (source_of tokens tree)) senses m u)
  where
    abbrev s : Source
    s = numbered tag_number (source_of tokens tree)

    abbrev sense : ℕ → Sense
    sense i = sense_in senses i

    -- the leaf of a tree that stands at a node that initialises
    pub leaf_of : (x e d : ℕ) (own : Core) (node : Node) (paths : List Path) → StandsBy m u x own → slice_get u.nodes.items x ≡ Some node → node.kind ≡ Initialise e paths → m d ≡ Some e → (others : List Path) × (kind_of own ≡ Initialise d others)
    leaf_of x e d own node paths stands at is number =
        let (f, others, kind, numbered) = same_initialise m (kind_of own) e paths (subst (SameKind m (kind_of own)) is (kind_there (initialises 0) m u x own node stands at)) in
        (others, kind ∙ ap (λ (z : ℕ). Initialise z others) (raised.entity_once f d e numbered number))

    pub automatic_body : (x e d : ℕ) (what : Declared) → Initialises (trees_of u) x e → m d ≡ Some e → declared_name s senses d ≡ Some what → what.storage ≡ Automatic → IsBodyOf u x e
    automatic_body x e d what h number named auto =
        let (node, paths, at, is) = node_initialises (slice_get u.nodes.items x) e h in
        let lt = slice_get_within u.nodes.items x node at in
        let a = rooted tokens unit tree tag_number senses cut read are whole m u raised d x lt in
        let stands = found_stands (initialises d) m u a.is.stands a.found in
        let (others, kind) = leaf_of x e d a.own node paths stands at is number in
        let own = (units_initialise_own tokens unit tree tag_number senses cut read are whole).own a.is.d d a.is.what what a.c a.own others a.is.named a.is.body (found_within d m u s senses a.found) kind named auto in
        let (f, entity, numbered, there, entered) = raised.each_declared d what (inl named) in
        let same : f ≡ e = some_one (sym numbered ∙ number) in
        let (b, body, whole_tree) = body_some m u a.own entity.body (subst (λ (o : Option Core). SameBody m u o entity.body) own entered.body) in
        let (low, more, low_at, low_is) = stands_initialises m u b d e a.own others whole_tree kind number in
        let auto_name = automatic tokens unit tree tag_number senses cut read are whole d what named auto in
        let few = initialised_once tokens unit tree tag_number senses cut read are whole d auto_name.name auto_name.unlinked in
        let one = one_node tokens unit tree tag_number senses cut read are whole m u raised d e number few x b node low paths more at low_at is low_is in
        (entity, ap (entity_at (trees_of u)) (sym same) ∙ there, body ∙ ap (λ (z : ℕ). Some z) (sym one))

    -- a block initialises nothing
    pub block_apart : (i x e : ℕ) (c : Core) (paths : List Path) (node : Node) → IsBlock tokens unit tree tag_number senses cut read are whole i c → StandsBy m u x c → slice_get u.nodes.items x ≡ Some node → node.kind ≡ Initialise e paths → ⊥
    block_apart i x e c paths node h stands at is =
        let found = first_child i h.block h.child in
        let lt = subst (λ (n : ℕ). h.block < n) (sym whole) (node_within s p_block h.block found refl) in
        let row = row_as s senses are p_block h.block lt found in
        let sensed : sense h.block ≡ IsCore (blocked h.block) = sym (fits_one row) in
        let same : blocked h.block ≡ c = some_one (sym (ap (core_of_sense s senses) sensed) ∙ h.core) in
        let (d, own, kind, number) = same_initialise m (kind_of c) e paths (subst (SameKind m (kind_of c)) is (kind_there (initialises 0) m u x c node stands at)) in
        apart_kinds (ap kind_of same ∙ kind)
      where
        blocked : ℕ → Core
        blocked b = Of (Block (objects_in (world_of s senses b) s (known_at s senses b) (children_at s b))) (place_at s b) VoidType (cores_in (world_of s senses b) s (known_at s senses b) (children_at s b))

        fits_one : {x y : Sense} → ◌≡◌ {A = Given Sense} (Fits x) (Fits y) → x ≡ y
        fits_one h = cc

        apart_kinds : {es : List ℕ} {d : ℕ} {own : List Path} → ◌≡◌ {A = NodeKind} (Block es) (Initialise d own) → ⊥
        apart_kinds h = cc

        first_child : (p b : ℕ) → child_of s p_block p ≡ Some b → is_a s p_block b ≡ true
        first_child p b e = (found_where (is_a s p_block) (children_at s p) b e).0

    pub top_body : (x e : ℕ) → Initialises (trees_of u) x e → ((p : ℕ) → IsChild (trees_of u) p x → ⊥) → IsBodyOf u x e
    top_body x e h alone = by (raised.no_other_node x (slice_get_within u.nodes.items x node at))
      where
        found : (node : Node) × (paths : List Path) × (slice_get u.nodes.items x ≡ Some node) × (node.kind ≡ Initialise e paths)
        found = node_initialises (slice_get u.nodes.items x) e h

        node : Node
        node = found.0

        at : slice_get u.nodes.items x ≡ Some node
        at = found.2

        of_root : (i f : ℕ) (c : Core) (entity : Entity) (a : Top tokens unit tree tag_number senses cut read are whole m u raised x i c) → a.e ≡ f → entity_at (trees_of u) f ≡ Some entity → entity.body ≡ Some x
            → BlockAt tokens unit tree tag_number senses cut read are whole a.d i c ⊎ StaysAt tokens unit tree tag_number senses cut read are whole a.d i c → IsBodyOf u x e
        of_root i f c entity a same there own (inl b) = absurd (block_apart i x e c found.1 node b.block a.stands at found.3)
        of_root i f c entity a same there own (inr b) =
            let (d, others, kind, number) = same_initialise m (kind_of c) e found.1 (subst (SameKind m (kind_of c)) found.3 (kind_there (initialises 0) m u x c node a.stands at)) in
            let leaf : d ≡ a.d = same_leaf (sym kind ∙ b.kind) in
            let one : f ≡ e = some_one (sym (ap (λ (z : ℕ). Some z) same) ∙ (sym a.number ∙ (ap m (sym leaf) ∙ number))) in
            (entity, ap (entity_at (trees_of u)) (sym one) ∙ there, own)

        body : (f : ℕ) (entity : Entity) → entity_at (trees_of u) f ≡ Some entity → entity.body ≡ Some x → ((p : ℕ) × IsChild (trees_of u) p x) ⊎ IsLasting s senses m f → IsBodyOf u x e
        body f entity there own (inl (p, child)) = absurd (alone p child)
        body f entity there own (inr lasts) =
            let (i, c, a) = top_of tokens unit tree tag_number senses cut read are whole m u raised f x entity there own lasts in
            of_root i a.e c a.entity a refl a.there a.own a.root

        by : IsBody u x ⊎ ((p : ℕ) × IsChild (trees_of u) p x) → IsBodyOf u x e
        by (inl (f, entity, there, own)) = body f entity there own (raised.tops f x entity there own)
        by (inr (p, child)) = absurd (alone p child)

pub tops_initialise : TopsInitialise
tops_initialise tokens unit tree tag_number senses cut read are whole m u raised x e h alone = top_body tokens unit tree tag_number senses cut read are whole m u raised x e h alone

pub automatics_initialise : AutomaticsInitialise
automatics_initialise tokens unit tree tag_number senses cut read are whole m u raised x e d what h number named auto = automatic_body tokens unit tree tag_number senses cut read are whole m u raised x e d what h number named auto
