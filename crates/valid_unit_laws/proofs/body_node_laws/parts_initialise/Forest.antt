-- Each node of a unit stands in the tree of one root, and two that initialise one entity are one where the roots' trees have one such node.
use Rattle.std.proofs.Common.{arith, ◌≡◌, ◌<◌, ◌≤◌, ◌+◌, ℕ, zero, suc, nat_eq, ◌==◌, ◌||◌, Bool, true, false, List, [], ◌∷◌, Option, Some, None, take, length, slice_get, eq-eqb, refl, sym, ap, ◌∙◌, subst, ◌⊎◌, inl, inr}
use Rattle.std.specs.Prelude.{option_map, if◌then◌else◌}
use Rattle.std.specs.List.{All, slice_index_or}
use Rattle.std.proofs.lemmas.Bool.{eqb-true, eqb-false}
use Rattle.std.proofs.lemmas.Option.{slice_get_within, slice_get-get_or}
use Rattle.pta_base.specs.declared.place.Place.{Place}
use Rattle.c_lexer.specs.declared.Tokens.{Tokens}
use Rattle.c_lexer.specs.Cut.{IsTokens}
use Rattle.c_grammar.specs.declared.trees.Tree.{Tree}
use Rattle.c_grammar.specs.Productions.{p_external, p_rest, p_init, p_items}
use Rattle.c_parser.specs.c_units.Units.{IsUnit}
use Rattle.core_tree.specs.declared.node.Unit.{Unit}
use Rattle.core_tree.specs.declared.node.Node.{Node}
use Rattle.core_tree.specs.declared.node.NodeKind.{NodeKind}
use Rattle.core_tree.specs.declared.node.NodeKind.TheVariants.{Initialise}
use Rattle.core_tree.specs.declared.node.Entity.{Entity}
use Rattle.core_tree.specs.Typed.{trees_of}
use Rattle.core_tree.specs.Range.{child_in, entity_at}
use Rattle.core_tree.specs.Range.{IsChild as IsChildIn}
use Rattle.parsed_tree_laws.specs.family_laws.Families.{IsChild}
use Rattle.core_tree.specs.Rows.{InitialisesEntity, InitialisesIn}
use Rattle.c_consts.specs.Core.{Core, Of, kind_of, cores_under}
use Rattle.c_inits.specs.Shapes.{Path}
use Rattle.c_senses.specs.Names.{source_of, numbered}
use Rattle.c_senses.specs.Tree.{Source, is_a, children_at}
use Rattle.c_senses.specs.World.{World}
use Rattle.c_senses.specs.Sense.{Sense, IsInitial, sense_in}
use Rattle.c_senses.specs.Rows.{AreSenses, world_at}
use Rattle.c_senses.specs.Entities.{entity_of, function_around}
use Rattle.c_senses.specs.Statements.{runs_initialiser}
use Rattle.c_senses.specs.Right.{Numbering, SameKind, StandsBy, SameBody, Declared, declared_name, IsBody, core_of_sense}
use Rattle.core_node_laws.specs.count_laws.count_rows.Counts.{Count, own_weight, count_in, count_whole}
use Rattle.core_node_laws.specs.count_laws.count_rows.Covers.{stays}
use Rattle.core_node_laws.specs.count_laws.Counting.{sum_below, bodies}
use Rattle.core_node_laws.proofs.count_laws.once_nodes.Found.{some_one, Found, top, found_stands, found_under, one_found, two_found, part_of, all_under}
use Rattle.core_node_laws.proofs.count_laws.once_nodes.Rooted.{none_some, same_initialise}
use Rattle.valid_unit_laws.specs.object_initialiser_laws.once_initialised.Once.{initialises}
use Rattle.core_node_laws.proofs.standing_laws.Descending.{sense_before, child_before}
use Rattle.declaration_laws.proofs.declared_type_laws.passed.owner_laws.Whole.{grown_of}
use Rattle.declaration_laws.proofs.function_laws.passed.definition_laws.linkage_laws.Seen.{no_both, apart}
use Rattle.declaration_laws.proofs.function_laws.named_definitions.Naming.{definitions_named}
use Rattle.valid_unit_laws.proofs.body_node_laws.own_initials.Roots.{IsRoot, root_counts, root_within, one_below, two_below}
use Rattle.valid_unit_laws.specs.body_node_laws.parts_initialise.Initialise.{IsRaised, IsLasting}
use Rattle.valid_unit_laws.proofs.body_node_laws.parts_initialise.Stored.{BlockAt, StaysAt, lasting_root}

below_at : (list : List ℕ) (n k i : ℕ) → All (λ c. c < n) list → slice_get list k ≡ Some i → i < n
below_at list n k i h at =
    let lt = slice_get_within list k i at in
    let same : slice_index_or list k i ≡ i = some_one (sym (slice_get-get_or list k i lt) ∙ at) in
    subst (λ (c : ℕ). c < n) same (h k i lt)

child_of_some : (o : Option Node) (k i : ℕ) → child_in o k ≡ Some i → (node : Node) × (o ≡ Some node) × (slice_get node.children k ≡ Some i)
child_of_some None k i e = absurd (none_some e)
child_of_some (Some node) k i e = (node, refl, e)

-- the node that initialises
pub node_initialises : (o : Option Node) (e : ℕ) → InitialisesIn o e → (node : Node) × (paths : List Path) × (o ≡ Some node) × (node.kind ≡ Initialise e paths)
node_initialises None e h = absurd h
node_initialises (Some node) e h = by node.kind refl h
  where
    by : (kind : NodeKind) → node.kind ≡ kind → InitialisesEntity kind e → (x : Node) × (paths : List Path) × (Some node ≡ Some x) × (x.kind ≡ Initialise e paths)
    by (Initialise o paths) is same = (node, paths, refl, is ∙ ap (λ (k : ℕ). Initialise k paths) same)
    by kind is h = absurd h

-- trees that are counted whole
module _ (k : ℕ) where
  pub whole_in : (c : Core) → count_in (initialises k) c ≡ count_whole (initialises k) c
  whole_in (Of (Initialise e paths) place type under) = refl
  whole_in (Of kind place type under) = refl

  -- two initialisers that stay
  module _ (w : World) (s : Source) (f : ℕ → Sense) where
    abbrev pub one : Sense → Bool → ℕ
    one y b = elim y as (λ _. ℕ) [ IsInitial z m ↦ if b then 0 else count_in (initialises k) z | _ ↦ 0 ]

    pub one_has : (y : Sense) (c : Core) (n : Option ℕ) (b : Bool) → y ≡ IsInitial c n → b ≡ false → count_in (initialises k) c ≤ one y b
    one_has (IsInitial z m) c n false is e = let same : z ≡ c = cc in subst (λ (v : Core). count_in (initialises k) c ≤ count_in (initialises k) v) (sym same) (omega arith)
    one_has (IsInitial z m) c n true is e = cc
    one_has y c n b is e = cc

    stays_one : (list : List ℕ) (j init : ℕ) (c : Core) (n : Option ℕ) → slice_get list j ≡ Some init → f init ≡ IsInitial c n → runs_initialiser w s f init ≡ false → count_in (initialises k) c ≤ stays (initialises k) w s f list
    stays_one [] j init c n at is off = cc
    stays_one (x ∷ rest) zero init c n at is off =
        let same : x ≡ init = some_one at in
        let h = one_has (f x) c n (runs_initialiser w s f x) (ap f same ∙ is) (ap (runs_initialiser w s f) same ∙ off) in
        omega (arith, h)
    stays_one (x ∷ rest) (suc j) init c n at is off = let h = stays_one rest j init c n at is off in omega (arith, h)

    pub stays_two : (list : List ℕ) (i j a b : ℕ) (c d : Core) (n o : Option ℕ) → (i ≡ j → ⊥) → slice_get list i ≡ Some a → slice_get list j ≡ Some b → f a ≡ IsInitial c n → f b ≡ IsInitial d o → runs_initialiser w s f a ≡ false → runs_initialiser w s f b ≡ false
        → count_in (initialises k) c + count_in (initialises k) d ≤ stays (initialises k) w s f list
    stays_two [] i j a b c d n o differ at there is same off out = cc
    stays_two (x ∷ rest) zero zero a b c d n o differ at there is same off out = absurd (differ refl)
    stays_two (x ∷ rest) zero (suc j) a b c d n o differ at there is same off out =
        let first : x ≡ a = some_one at in
        let h = one_has (f x) c n (runs_initialiser w s f x) (ap f first ∙ is) (ap (runs_initialiser w s f) first ∙ off) in
        let more = stays_one rest j b d o there same out in
        omega (arith, h, more)
    stays_two (x ∷ rest) (suc i) zero a b c d n o differ at there is same off out =
        let first : x ≡ b = some_one there in
        let h = one_has (f x) d o (runs_initialiser w s f x) (ap f first ∙ same) (ap (runs_initialiser w s f) first ∙ out) in
        let more = stays_one rest i a c n at is off in
        omega (arith, h, more)
    stays_two (x ∷ rest) (suc i) (suc j) a b c d n o differ at there is same off out = let h = stays_two rest i j a b c d n o (λ e. differ (ap suc e)) at there is same off out in omega (arith, h)

pub pick_rest : (a b r : Bool) (x y z : ℕ) → a ≡ false → b ≡ false → r ≡ true → (if a || b then x else if r then y else z) ≡ y
pick_rest false false true x y z e f g = refl
pick_rest true b r x y z e f g = cc
pick_rest false true r x y z e f g = cc
pick_rest false false false x y z e f g = cc

one_leaf : {d f : ℕ} {paths others : List Path} → Initialise d paths ≡ Initialise f others → d ≡ f
one_leaf h = cc

module _ (tokens : Tokens) (unit : ℕ) (tree : Tree) (tag_number : ℕ → ℕ) (senses : List Sense) (cut : IsTokens tokens.text.now tokens.list.items) (read : IsUnit tokens unit tree)
    (are : AreSenses (numbered tag_number (source_of tokens tree)) senses) (whole : length senses ≡ length (numbered tag_number (source_of tokens tree)).nodes) (m : Numbering) (u : Unit)
    (raised : IsRaised (numbered tag_number (source_of tokens tree)) senses m u)
  where
    abbrev s : Source
    s = numbered tag_number (source_of tokens tree)

    abbrev sense : ℕ → Sense
    sense i = sense_in senses i

    abbrev Block : ℕ → ℕ → Core → Type 0
    Block d i c = BlockAt tokens unit tree tag_number senses cut read are whole d i c

    abbrev Init : ℕ → ℕ → Core → Type 0
    Init d i c = StaysAt tokens unit tree tag_number senses cut read are whole d i c

    -- the body of a name that is no automatic object, at its node
    pub record Top (r i : ℕ) (c : Core) : Type 0 where
      pub d : ℕ
      pub e : ℕ
      pub what : Declared
      pub entity : Entity
      pub named : declared_name s senses d ≡ Some what
      pub body : what.body ≡ Some c
      pub number : m d ≡ Some e
      pub there : entity_at (trees_of u) e ≡ Some entity
      pub own : entity.body ≡ Some r
      pub root : Block d i c ⊎ Init d i c
      pub stands : StandsBy m u r c

    stands_at : (o : Option Core) (b : Option ℕ) (x : ℕ) → SameBody m u o b → b ≡ Some x → (c : Core) × (o ≡ Some c) × StandsBy m u x c
    stands_at None None x h e = cc
    stands_at None (Some b) x h e = absurd h
    stands_at (Some c) None x h e = cc
    stands_at (Some c) (Some b) x h e = (c, refl, subst (λ (y : ℕ). StandsBy m u y c) (some_one e) h)

    pub top_of : (e r : ℕ) (entity : Entity) → entity_at (trees_of u) e ≡ Some entity → entity.body ≡ Some r → IsLasting s senses m e → (i : ℕ) × (c : Core) × Top r i c
    top_of e r entity at own (d, what, named, number, lasts) =
        let (f, other, numbered, there, is) = raised.each_declared d what (inl named) in
        let same : f ≡ e = some_one (sym numbered ∙ number) in
        let one : other ≡ entity = some_one (sym there ∙ (ap (entity_at (trees_of u)) same ∙ at)) in
        let (c, body, stands) = stands_at what.body other.body r is.body (ap (λ (z : Entity). z.body) one ∙ own) in
        let (i, root) = lasting_root tokens unit tree tag_number senses cut read are whole d what c named body lasts in
        (i, c, record { d = d; e = e; what = what; entity = entity; named = named; body = body; number = number; there = at; own = own; root = root; stands = stands })

    pub root_is : (d i : ℕ) (c : Core) → Block d i c ⊎ Init d i c → IsRoot tokens unit tree tag_number senses cut read are whole i c
    root_is d i c (inl h) = inl h.block
    root_is d i c (inr h) = inr h.stays

    same_entity : (r q i j : ℕ) (c d : Core) (a : Top r i c) (b : Top q j d) → a.d ≡ b.d → r ≡ q
    same_entity r q i j c d a b leaf =
        let number : a.e ≡ b.e = some_one (sym a.number ∙ (ap m leaf ∙ b.number)) in
        let entity : a.entity ≡ b.entity = some_one (sym a.there ∙ (ap (entity_at (trees_of u)) number ∙ b.there)) in
        some_one (sym a.own ∙ (ap (λ (z : Entity). z.body) entity ∙ b.own))

    module _ (k : ℕ) where
      abbrev n : Count
      n = initialises k

      abbrev D : ℕ → ℕ
      D = bodies (initialises k) s senses

      abbrev all : ℕ
      all = sum_below D (length s.nodes)

      pub top_counts : (r i : ℕ) (c : Core) → Top r i c → count_in n c ≤ D i
      top_counts r i c a = root_counts tokens unit tree tag_number senses cut read are whole k i c (root_is a.d i c a.root)

      pub top_within : (r i : ℕ) (c : Core) → Top r i c → i < length s.nodes
      top_within r i c a = root_within tokens unit tree tag_number senses cut read are whole i c (root_is a.d i c a.root)

      -- two of them are one, or their trees are counted both
      abbrev Compared : ℕ → ℕ → Core → Core → Type 0
      Compared r q c d = ((r ≡ q) × (c ≡ d)) ⊎ (count_in n c + count_in n d ≤ all)

      at_one : (r q i : ℕ) (c d : Core) (a : Top r i c) (b : Top q i d) → Compared r q c d
      at_one r q i c d a b = by a.root b.root
        where
          blocks : Block a.d i c → Block b.d i d → Compared r q c d
          blocks x y =
              let block : x.block.block ≡ y.block.block = some_one (sym x.block.child ∙ y.block.child) in
              let named = definitions_named tokens unit tree tag_number senses cut read are whole in
              let first = named a.d x.block.block x.declares x.defined x.is_for in
              let second = named b.d y.block.block y.declares y.defined y.is_for in
              let leaf : a.d ≡ b.d = some_one (sym first ∙ (ap (λ (z : ℕ). option_map (entity_of s sense) (function_around s sense z)) block ∙ second)) in
              inl (same_entity r q i i c d a b leaf, some_one (sym x.block.core ∙ (ap (λ (z : ℕ). core_of_sense s senses (sense z)) block ∙ y.block.core)))

          inits : (x : Init a.d i c) (y : Init b.d i d) → (t : Bool) → nat_eq x.stays.init y.stays.init ≡ t → Compared r q c d
          inits x y true e =
              let init = eqb-true x.stays.init y.stays.init e in
              let told : IsInitial c x.stays.length_given ≡ IsInitial d y.stays.length_given = sym x.stays.is ∙ (ap sense init ∙ y.stays.is) in
              let core : c ≡ d = cc in
              let leaf : a.d ≡ b.d = one_leaf (sym x.kind ∙ (ap kind_of core ∙ y.kind)) in
              inl (same_entity r q i i c d a b leaf, core)
          inits x y false e =
              let grown = grown_of tokens unit tree tag_number cut read in
              let before : (init : ℕ) → IsChild s i init → sense_in (take i senses) init ≡ sense init = λ init at. sense_before s senses grown are whole i init (child_before s senses grown are whole i init at) in
              let differ : x.stays.inside.0 ≡ y.stays.inside.0 → ⊥ = λ same. eqb-false x.stays.init y.stays.init e (some_one (sym x.stays.inside.1 ∙ (ap (slice_get (children_at s i)) same ∙ y.stays.inside.1))) in
              let two = stays_two k (world_at s (take i senses) i) s (λ (z : ℕ). sense_in (take i senses) z) (children_at s i) x.stays.inside.0 y.stays.inside.0 x.stays.init y.stays.init c d x.stays.length_given y.stays.length_given differ x.stays.inside.1 y.stays.inside.1
              (before x.stays.init x.stays.inside ∙ x.stays.is) (before y.stays.init y.stays.inside ∙ y.stays.is) x.stays.off y.stays.off in
              let own : D i ≡ stays n (world_at s (take i senses) i) s (λ (z : ℕ). sense_in (take i senses) z) (children_at s i) =
              pick_rest (is_a s p_init i) (is_a s p_items i) (is_a s p_rest i) _ _ _ (apart s i p_rest p_init x.stays.rest refl) (apart s i p_rest p_items x.stays.rest refl) x.stays.rest in
              let below = one_below D (length s.nodes) i (top_within r i c a) in
              inr (omega (arith, two, own, below))

          by : Block a.d i c ⊎ Init a.d i c → Block b.d i d ⊎ Init b.d i d → Compared r q c d
          by (inl x) (inl y) = blocks x y
          by (inl x) (inr y) = absurd (no_both (is_a s p_external i) x.block.external (apart s i p_rest p_external y.stays.rest refl))
          by (inr x) (inl y) = absurd (no_both (is_a s p_external i) y.block.external (apart s i p_rest p_external x.stays.rest refl))
          by (inr x) (inr y) = inits x y (nat_eq x.stays.init y.stays.init) refl

      compare : (r q i j : ℕ) (c d : Core) (a : Top r i c) (b : Top q j d) → Compared r q c d
      compare r q i j c d a b = by (nat_eq i j) refl
        where
          by : (t : Bool) → nat_eq i j ≡ t → Compared r q c d
          by true e = at_one r q i c d a (subst (λ (z : ℕ). Top q z d) (sym (eqb-true i j e)) b)
          by false e =
              let one = top_counts r i c a in
              let other = top_counts q j d b in
              let two = two_below D (length s.nodes) i j (top_within r i c a) (top_within q j d b) (eqb-false i j e) in
              inr (omega (arith, one, other, two))

      -- ---- each node stands in the tree of one of them
      pub record Rooted (x : ℕ) : Type 0 where
        pub r : ℕ
        pub i : ℕ
        pub c : Core
        pub own : Core
        pub is : Top r i c
        pub found : Found n m u r c x own

      extended : (p x j : ℕ) (node : Node) → Rooted p → slice_get u.nodes.items p ≡ Some node → slice_get node.children j ≡ Some x → Rooted x
      extended p x j node h at child =
          let there = found_stands n m u h.is.stands h.found in
          let under = all_under n m u p h.own node there at in
          let part = part_of n m u node.children (cores_under h.own) j x under child in
          record { r = h.r; i = h.i; c = h.c; own = part.0; is = h.is; found = found_under n m u j h.found at child part.1 (whole_in k part.0) }

      rooted_from : (fuel x : ℕ) → x < length u.nodes.items → length u.nodes.items ≤ x + fuel → Rooted x
      rooted_from zero x lt enough = absurd (omega (arith, lt, enough))
      rooted_from (suc fuel) x lt enough =
          by (λ p within before. rooted_from fuel p within (omega (arith, before, enough))) (raised.no_other_node x lt)
        where
          Above : Type 0
          Above = (p : ℕ) → p < length u.nodes.items → x < p → Rooted p

          child : Above → (p : ℕ) × IsChildIn (trees_of u) p x → Rooted x
          child above (p, (j, h)) =
              let (up, at, own) = child_of_some (slice_get u.nodes.items p) j x h in
              let before = below_at up.children p j x (raised.children_first p up at) own in
              let within = slice_get_within u.nodes.items p up at in
              extended p x j up (above p within before) at own

          of_top : (i : ℕ) × (c : Core) × Top x i c → Rooted x
          of_top (i, c, is) = record { r = x; i = i; c = c; own = c; is = is; found = top }

          body : Above → (e : ℕ) (entity : Entity) → entity_at (trees_of u) e ≡ Some entity → entity.body ≡ Some x → ((p : ℕ) × IsChildIn (trees_of u) p x) ⊎ IsLasting s senses m e → Rooted x
          body above e entity there own (inl h) = child above h
          body above e entity there own (inr lasts) = of_top (top_of e x entity there own lasts)

          by : Above → IsBody u x ⊎ ((p : ℕ) × IsChildIn (trees_of u) p x) → Rooted x
          by above (inl (e, entity, there, own)) = body above e entity there own (raised.tops e x entity there own)
          by above (inr h) = child above h

      pub rooted : (x : ℕ) → x < length u.nodes.items → Rooted x
      rooted x lt = rooted_from (length u.nodes.items) x lt (omega arith)

      -- ---- nodes that initialise the entity
      module _ (e : ℕ) (number : m k ≡ Some e) where
        pub marked : (node : Node) (paths : List Path) → node.kind ≡ Initialise e paths → (kind : NodeKind) (place : Place) → SameKind m kind node.kind → node.place ≡ place → 1 ≤ own_weight n kind place
        marked node paths is kind place same at =
            let (d, own, kind_is, numbered) = same_initialise m kind e paths (subst (SameKind m kind) is same) in
            let leaf : d ≡ k = raised.entity_once d k e numbered number in
            subst (λ (x : NodeKind). 1 ≤ own_weight n x place) (sym kind_is) (one (d == k) (eq-eqb d k leaf))
          where
            one : (b : Bool) → b ≡ true → 1 ≤ (if b then 1 else 0)
            one true e = omega arith
            one false e = cc

        pub one_node : all ≤ 1 → (x y : ℕ) (node other : Node) (paths others : List Path) → slice_get u.nodes.items x ≡ Some node → slice_get u.nodes.items y ≡ Some other → node.kind ≡ Initialise e paths → other.kind ≡ Initialise e others → x ≡ y
        one_node few x y node other paths others at there is same = by (nat_eq x y) refl
          where
            a : Rooted x
            a = rooted x (slice_get_within u.nodes.items x node at)

            b : Rooted y
            b = rooted y (slice_get_within u.nodes.items y other there)

            meet : (x ≡ y → ⊥) → Compared a.r b.r a.c b.c → ⊥
            meet differ (inl (roots, cores)) =
                let found : Found n m u a.r a.c y b.own = subst (λ (r : ℕ). Found n m u r a.c y b.own) (sym roots) (subst (λ (c : Core). Found n m u b.r c y b.own) (sym cores) b.found) in
                let two = two_found n m u node other a.is.stands a.found found at there (marked node paths is) (marked other others same) differ in
                let counts = top_counts a.r a.i a.c a.is in
                let one = one_below D (length s.nodes) a.i (top_within a.r a.i a.c a.is) in
                let kept = whole_in k a.c in
                omega (arith, two, counts, one, kept, few)
            meet differ (inr both) =
                let first = one_found n m u node a.is.stands a.found at (marked node paths is) in
                let second = one_found n m u other b.is.stands b.found there (marked other others same) in
                let kept = whole_in k a.c in
                let more = whole_in k b.c in
                omega (arith, both, first, second, kept, more, few)

            by : (t : Bool) → nat_eq x y ≡ t → x ≡ y
            by true e = eqb-true x y e
            by false e = absurd (meet (eqb-false x y e) (compare a.r b.r a.i b.i a.c b.c a.is b.is))
