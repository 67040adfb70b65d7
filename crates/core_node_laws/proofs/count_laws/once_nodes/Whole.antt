-- A node that the rows make once stands once in a unit.
use Rattle.std.proofs.Common.{arith, ◌≡◌, ◌<◌, ◌≤◌, ◌+◌, ℕ, zero, suc, nat_eq, ◌||◌, Bool, true, false, List, Option, Some, None, length, slice_get, refl, sym, ap, ◌∙◌, subst, ◌⊎◌, inl, inr}
use Rattle.std.specs.Prelude.{⊤, is_some, if◌then◌else◌}
use Rattle.std.specs.List.{All, slice_index_or}
use Rattle.std.proofs.lemmas.Bool.{eqb-true, eqb-false}
use Rattle.std.proofs.lemmas.Option.{slice_get_within, slice_get-get_or}
use Rattle.pta_base.specs.declared.place.Place.{Place}
use Rattle.core_tree.specs.declared.node.Unit.{Unit}
use Rattle.core_tree.specs.declared.node.Node.{Node}
use Rattle.core_tree.specs.declared.node.NodeKind.{NodeKind}
use Rattle.core_tree.specs.declared.node.NodeKind.TheVariants.{Initialise, Block}
use Rattle.core_tree.specs.declared.node.Entity.{Entity}
use Rattle.core_tree.specs.declared.node.Storage.TheVariants.{FunctionBody, Static, Automatic}
use Rattle.core_tree.specs.Typed.{trees_of}
use Rattle.core_tree.specs.Range.{child_in, entity_at}
use Rattle.core_tree.specs.Rows.{Initialises, InitialisesEntity, InitialisesIn}
use Rattle.c_types.specs.Trees.{VoidType}
use Rattle.c_grammar.specs.declared.trees.SyntaxNode.{SyntaxNode}
use Rattle.c_grammar.specs.Productions.{p_external, p_rest, p_init, p_items, p_block, p_declarator, p_asm_name}
use Rattle.c_grammar.specs.Reads.{leaf}
use Rattle.c_consts.specs.Core.{Core, Cores, Of, NoCores, MoreCores, kind_of, cores_under, core_in}
use Rattle.c_senses.specs.Given.{Given, Fits}
use Rattle.c_senses.specs.Tree.{Source, is_a, is_leaf, production_at, child_of, children_of, children_at, place_at}
use Rattle.c_senses.specs.Sense.{Sense, Nothing, IsCore, IsInitial, sense_in}
use Rattle.c_senses.specs.Entities.{is_defined, function_around}
use Rattle.c_senses.specs.Statements.{objects_in, cores_in}
use Rattle.c_senses.specs.Rows.{row_of}
use Rattle.c_senses.specs.Right.{Numbering, SameKind, StandsBy, AllStandBy, SameBody, Declared, IsDeclaredAt, Within, Itself, Below, declared_name, representative, core_of_sense, block_for, literal_storage}
use Rattle.parsed_tree_laws.specs.family_laws.Families.{Families}
use Rattle.parsed_tree_laws.specs.span_laws.Spans.{Spanned}
use Rattle.core_node_laws.specs.count_laws.count_rows.Counts.{Count, count_in, count_whole, count_under, count_of}
use Rattle.core_node_laws.specs.count_laws.count_rows.Covers.{IsIn}
use Rattle.core_node_laws.proofs.count_laws.count_rows.Giving.{Gives}
use Rattle.core_node_laws.specs.count_laws.Counting.{sum_below, bodies, Makes, left_out, left_out_in, of_block, seen_at, world_of}
use Rattle.core_node_laws.proofs.count_laws.Rooms.{apart}
use Rattle.core_node_laws.proofs.count_laws.Main.{row_is, is_nothing, node_inside, all_bodies}
use Rattle.core_node_laws.specs.count_laws.once_nodes.Once.{IsLaid, apart_from_names, Weighs, NodesOnce}
use Rattle.core_node_laws.proofs.count_laws.once_nodes.Found.{some_one, Found, top, found_stands, found_under, one_found, two_found, part_of, all_under, kind_there, children_stand}
use Rattle.core_node_laws.proofs.count_laws.once_nodes.Shapes.{InitShape, Bodiless, leaf_is, asm_is, init_shape, declarator_shape}
use Rattle.core_node_laws.proofs.count_laws.once_nodes.Rooted.{none_some, found_where, OfBlock, OfInitial, body_is, body_by, block_in, IsRestInit, initial_of, same_initialise}

-- two numbers of a sum
one_below : (f : ℕ → ℕ) (k i : ℕ) → i < k → f i ≤ sum_below f k
one_below f zero i lt = absurd (omega (arith, lt))
one_below f (suc k) i lt = by (nat_eq i k) refl (λ less. one_below f k i less)
  where
    by : (b : Bool) → nat_eq i k ≡ b → (i < k → f i ≤ sum_below f k) → f i ≤ sum_below f k + f k
    by true e later = let same : f i ≡ f k = ap f (eqb-true i k e) in omega (arith, same)
    by false e later = let differ = eqb-false i k e in let h = later (omega (arith, lt, differ)) in omega (arith, h)

two_below : (f : ℕ → ℕ) (k i j : ℕ) → i < k → j < k → (i ≡ j → ⊥) → f i + f j ≤ sum_below f k
two_below f zero i j lt less differ = absurd (omega (arith, lt))
two_below f (suc k) i j lt less differ = by (nat_eq i k) refl (nat_eq j k) refl (λ a b. two_below f k i j a b differ)
  where
    by : (b : Bool) → nat_eq i k ≡ b → (c : Bool) → nat_eq j k ≡ c → (i < k → j < k → f i + f j ≤ sum_below f k) → f i + f j ≤ sum_below f k + f k
    by true e true g later = absurd (differ (eqb-true i k e ∙ sym (eqb-true j k g)))
    by true e false g later =
        let same : f i ≡ f k = ap f (eqb-true i k e) in
        let other = eqb-false j k g in
        let h = one_below f k j (omega (arith, less, other)) in
        omega (arith, same, h)
    by false e true g later =
        let same : f j ≡ f k = ap f (eqb-true j k g) in
        let other = eqb-false i k e in
        let h = one_below f k i (omega (arith, lt, other)) in
        omega (arith, same, h)
    by false e false g later = let a = eqb-false i k e in let b = eqb-false j k g in let h = later (omega (arith, lt, a)) (omega (arith, less, b)) in omega (arith, h)

below_at : (list : List ℕ) (n k i : ℕ) → All (λ c. c < n) list → slice_get list k ≡ Some i → i < n
below_at list n k i h at =
    let lt = slice_get_within list k i at in
    let same : slice_index_or list k i ≡ i = some_one (sym (slice_get-get_or list k i lt) ∙ at) in
    subst (λ (c : ℕ). c < n) same (h k i lt)

child_of_some : (o : Option Node) (k i : ℕ) → child_in o k ≡ Some i → (node : Node) × (o ≡ Some node) × (slice_get node.children k ≡ Some i)
child_of_some None k i e = absurd (none_some e)
child_of_some (Some node) k i e = (node, refl, e)

-- what a node initialises
initialised_by_node : (o : Option Node) (e : ℕ) → InitialisesIn o e → (node : Node) × (o ≡ Some node) × InitialisesEntity node.kind e
initialised_by_node None e h = absurd h
initialised_by_node (Some node) e h = (node, refl, h)

node_initialises : (o : Option Node) (node : Node) (e : ℕ) → o ≡ Some node → InitialisesEntity node.kind e → InitialisesIn o e
node_initialises None node e at h = absurd (none_some at)
node_initialises (Some x) node e at h = let same : x ≡ node = some_one at in subst (λ (y : Node). InitialisesEntity y.kind e) (sym same) h

-- a kind of an initialiser, or another one
abbrev IsOther : NodeKind → Type 0
IsOther (Initialise e paths) = ⊥
IsOther kind = ⊤

kind_either : (kind : NodeKind) → ((e : ℕ) × InitialisesEntity kind e) ⊎ IsOther kind
kind_either (Initialise e paths) = inl (e, refl)
kind_either kind = inr tt

others_apart : (kind : NodeKind) (e : ℕ) → IsOther kind → InitialisesEntity kind e → ⊥
others_apart (Initialise d paths) e o h = o
others_apart kind e o h = h

module _ (s : Source) (senses : List Sense) (m : Numbering) (u : Unit) (weight : NodeKind → Place → ℕ) (bound : ℕ → ℕ) (spanned : Spanned s) (families : Families s) (laid : IsLaid s senses m u) (makes : Makes (apart_from_names s senses weight) s senses bound) where
  abbrev n : Count
  n = apart_from_names s senses weight

  abbrev S : ℕ → Sense
  S i = sense_in senses i

  abbrev D : ℕ → ℕ
  D i = bodies n s senses i

  child_inside : (j c : ℕ) → IsIn (children_at s j) c → c < length s.nodes
  child_inside j c at = node_inside n s senses bound spanned families laid.are_senses laid.whole makes j c at

  -- what a row gives for a node of a production
  gives_at : (P : Sense → Type 0) (i p : ℕ) → i < length s.nodes → is_a s p i ≡ true → Gives P (row_of (world_of n s senses i) s (seen_at n s senses i) p i (children_at s i)) → P (S i)
  gives_at P i p lt is h =
      let production = eqb-true (production_at s i) p is in
      subst (λ (g : Given Sense). Gives P g) (row_is n s senses bound spanned families laid.are_senses laid.whole makes i lt)
      (subst (λ (q : ℕ). Gives P (row_of (world_of n s senses i) s (seen_at n s senses i) q i (children_at s i))) (sym production) h)

  nothing_at : (i p : ℕ) → i < length s.nodes → is_a s p i ≡ true → row_of (world_of n s senses i) s (seen_at n s senses i) p i (children_at s i) ≡ Fits Nothing → S i ≡ Nothing
  nothing_at i p lt is e = is_nothing n s senses bound spanned families laid.are_senses laid.whole makes i p lt is e

  no_body : (x : Sense) (c : Core) → x ≡ Nothing → core_of_sense s senses x ≡ Some c → ⊥
  no_body x c e h = none_some (sym (ap (core_of_sense s senses) e) ∙ h)

  bodiless : (x : Sense) (c : Core) → Bodiless x → core_of_sense s senses x ≡ Some c → ⊥
  bodiless (IsCore y) c b h = b
  bodiless (IsInitial y length) c b h = b
  bodiless x c b h = absurd (cc)

  -- what stands in the rest of a declaration and may be a body is an initialiser
  is_initial : (i : ℕ) (c : Core) → IsRestInit s S i → core_of_sense s senses (S i) ≡ Some c → is_a s p_init i ≡ true
  is_initial i c (q, is, at) h =
      let lt = child_inside q i at in
      by (is_leaf s i) refl (is_a s p_asm_name i) refl (is_a s p_declarator i) refl (is_a s p_init i) refl (spanned.rests q at.0 i is at.1) lt
    where
      by : (a : Bool) → is_leaf s i ≡ a → (b : Bool) → is_a s p_asm_name i ≡ b → (d : Bool) → is_a s p_declarator i ≡ d → (e : Bool) → is_a s p_init i ≡ e → (a || (b || (d || e))) ≡ true → i < length s.nodes → e ≡ true
      by true ea b eb d ed e ee all lt = absurd (no_body (S i) c (nothing_at i leaf lt ea (leaf_is (world_of n s senses i) s (seen_at n s senses i) i (children_at s i))) h)
      by false ea true eb d ed e ee all lt = absurd (no_body (S i) c (nothing_at i p_asm_name lt eb (asm_is (world_of n s senses i) s (seen_at n s senses i) i (children_at s i))) h)
      by false ea false eb true ed e ee all lt = absurd (bodiless (S i) c (gives_at Bodiless i p_declarator lt ed (declarator_shape (world_of n s senses i) s (seen_at n s senses i) i (children_at s i))) h)
      by false ea false eb false ed true ee all lt = refl
      by false ea false eb false ed false ee all lt = cc

  -- ---- roots

  -- the block of a definition that is the body of a named entity
  record BlockRoot (r i : ℕ) (c : Core) : Type 0 where
    d : ℕ
    b : ℕ
    e : ℕ
    what : Declared
    entity : Entity
    named : declared_name s senses d ≡ Some what
    number : m d ≡ Some e
    there : entity_at (trees_of u) e ≡ Some entity
    body : entity.body ≡ Some r
    stored : what.storage ≡ FunctionBody
    defined : is_defined s S (representative s senses d) ≡ true
    block : block_for s senses (representative s senses d) ≡ Some b
    external : is_a s p_external i ≡ true
    child : child_of s p_block i ≡ Some b
    core : core_of_sense s senses (S b) ≡ Some c
    within : i < length s.nodes

  -- the initialiser of a named object
  record InitialRoot (r i : ℕ) (c : Core) : Type 0 where
    d : ℕ
    e : ℕ
    what : Declared
    node : Node
    named : declared_name s senses d ≡ Some what
    number : m d ≡ Some e
    at : slice_get u.nodes.items r ≡ Some node
    kind : InitialisesEntity node.kind e
    init : is_a s p_init i ≡ true
    core : core_of_sense s senses (S i) ≡ Some c
    within : i < length s.nodes

  abbrev IsRoot : ℕ → ℕ → Core → Type 0
  IsRoot r i c = BlockRoot r i c ⊎ InitialRoot r i c

  -- kinds that initialise an entity, by its leaf
  kind_initialises : (kind other : NodeKind) (e d : ℕ) → SameKind m kind other → InitialisesEntity other e → m d ≡ Some e → InitialisesEntity kind d
  kind_initialises kind (Initialise f paths) e d h is number =
      let (x, own, same, numbered) = same_initialise m kind f paths h in
      subst (λ (k : NodeKind). InitialisesEntity k d) (sym same) (laid.entity_once x d e (numbered ∙ ap Some is) number)
  kind_initialises kind other e d h is number = absurd is

  core_initialises : (r e d : ℕ) (c : Core) (node : Node) → StandsBy m u r c → slice_get u.nodes.items r ≡ Some node → InitialisesEntity node.kind e → m d ≡ Some e → InitialisesEntity (kind_of c) d
  core_initialises r e d c node stands at is number = kind_initialises (kind_of c) node.kind e d (kind_there n m u r c node stands at) is number

  -- all of a named object's initialiser is a body of its own
  whole_left : (c : Core) (d : ℕ) → InitialisesEntity (kind_of c) d → is_some (declared_name s senses d) ≡ true → count_whole n c ≤ left_out n c
  whole_left (Of (Initialise x own) place type under) d is named = by (is_some (declared_name s senses x)) (ap (λ (y : ℕ). is_some (declared_name s senses y)) is ∙ named)
    where
      by : (b : Bool) → b ≡ true → weight (Initialise x own) place + count_under n under ≤ (if b then weight (Initialise x own) place + count_under n under else 0)
      by true e = omega arith
      by false e = cc
  whole_left c d is named = absurd is

  in_sense : (x : Sense) (c : Core) → InitShape x → core_of_sense s senses x ≡ Some c → count_whole n c ≤ left_out n c → count_whole n c ≤ left_out_in n x
  in_sense (IsInitial y length) c shape e le = let same : y ≡ c = some_one e in subst (λ (z : Core). count_whole n c ≤ left_out n z) (sym same) le
  in_sense (IsCore y) c shape e le = absurd shape
  in_sense x c shape e le = absurd (none_some e)

  named_some : (d : ℕ) (what : Declared) → declared_name s senses d ≡ Some what → is_some (declared_name s senses d) ≡ true
  named_some d what e = ap (λ (o : Option Declared). is_some o) e

  initial_counts : (r i : ℕ) (c : Core) → InitialRoot r i c → StandsBy m u r c → count_whole n c ≤ D i
  initial_counts r i c root stands =
      let shape = gives_at InitShape i p_init root.within root.init (init_shape (world_of n s senses i) s (seen_at n s senses i) i (children_at s i)) in
      let le = whole_left c root.d (core_initialises r root.e root.d c root.node stands root.at root.kind root.number) (named_some root.d root.what root.named) in
      by (is_a s p_init i) root.init (is_a s p_items i) _ (in_sense (S i) c shape root.core le)
    where
      by : (a : Bool) → a ≡ true → (b : Bool) (rest : ℕ) → count_whole n c ≤ left_out_in n (S i) → count_whole n c ≤ (if a || b then left_out_in n (S i) else rest)
      by true e b rest h = h
      by false e b rest h = cc

  block_counts : (r i : ℕ) (c : Core) → BlockRoot r i c → count_whole n c ≤ D i
  block_counts r i c root =
      let (is, at) = found_where (is_a s p_block) (children_at s i) root.b root.child in
      let lt = child_inside i root.b at in
      let block = gives_at (λ x. x ≡ IsCore (blocked root.b)) root.b p_block lt is refl in
      let same : blocked root.b ≡ c = some_one (sym (ap (core_of_sense s senses) block) ∙ root.core) in
      let count : count_of n (S root.b) ≡ count_whole n c = ap (count_of n) block ∙ ap (count_whole n) same in
      by (is_a s p_init i) (apart s p_external p_init i refl root.external) (is_a s p_items i) (apart s p_external p_items i refl root.external) (is_a s p_rest i) (apart s p_external p_rest i refl root.external) (is_a s p_external i) root.external _ _ (child_of s p_block i) root.child count
    where
      blocked : ℕ → Core
      blocked b = Of (Block (objects_in (world_of n s senses b) s (seen_at n s senses b) (children_at s b))) (place_at s b) VoidType (cores_in (world_of n s senses b) s (seen_at n s senses b) (children_at s b))

      by : (x : Bool) → x ≡ false → (y : Bool) → y ≡ false → (z : Bool) → z ≡ false → (w : Bool) → w ≡ true → (k l : ℕ) (o : Option ℕ) → o ≡ Some root.b → count_of n (S root.b) ≡ count_whole n c → count_whole n c ≤ (if x || y then k else if z then l else if w then of_block n senses o else 0)
      by true e y f z g w h k l o is same = cc
      by false e true f z g w h k l o is same = cc
      by false e false f true g w h k l o is same = cc
      by false e false f false g false h k l o is same = cc
      by false e false f false g true h k l None is same = cc
      by false e false f false g true h k l (Some b) is same = let one : count_of n (S b) ≡ count_of n (S root.b) = ap (λ (q : ℕ). count_of n (S q)) (some_one is) in omega (arith, one, same)

  root_counts : (r i : ℕ) (c : Core) → IsRoot r i c → StandsBy m u r c → count_whole n c ≤ D i
  root_counts r i c (inl root) stands = block_counts r i c root
  root_counts r i c (inr root) stands = initial_counts r i c root stands

  root_within : (r i : ℕ) (c : Core) → IsRoot r i c → i < length s.nodes
  root_within r i c (inl root) = root.within
  root_within r i c (inr root) = root.within

  -- the node that initialises an entity is one
  one_initialiser : (r q e : ℕ) → Initialises (trees_of u) r e → Initialises (trees_of u) q e → r ≡ q
  one_initialiser r q e a b =
      let (x, at, body) = laid.initialises_once r e a in
      let (y, there, other) = laid.initialises_once q e b in
      let same : x ≡ y = some_one (sym at ∙ there) in
      some_one (sym body ∙ (ap (λ (z : Entity). z.body) same ∙ other))

  same_root : (r q i : ℕ) (c d : Core) → IsRoot r i c → IsRoot q i d → StandsBy m u r c → StandsBy m u q d → (r ≡ q) × (c ≡ d)
  same_root r q i c d (inl a) (inl b) sa sb =
      let block : a.b ≡ b.b = some_one (sym a.child ∙ b.child) in
      let leaf_same : a.d ≡ b.d = laid.blocks.once a.d b.d a.b a.what b.what a.named b.named a.stored b.stored a.defined b.defined a.block (b.block ∙ ap Some (sym block)) in
      let number : a.e ≡ b.e = some_one (sym a.number ∙ (ap m leaf_same ∙ b.number)) in
      let entity : a.entity ≡ b.entity = some_one (sym a.there ∙ (ap (entity_at (trees_of u)) number ∙ b.there)) in
      (some_one (sym a.body ∙ (ap (λ (z : Entity). z.body) entity ∙ b.body)), some_one (sym a.core ∙ (ap (λ (z : ℕ). core_of_sense s senses (S z)) block ∙ b.core)))
  same_root r q i c d (inl a) (inr b) sa sb = absurd (let off = apart s p_external p_init i refl a.external in let never : true ≡ false = sym b.init ∙ off in cc)
  same_root r q i c d (inr a) (inl b) sa sb = absurd (let off = apart s p_external p_init i refl b.external in let never : true ≡ false = sym a.init ∙ off in cc)
  same_root r q i c d (inr a) (inr b) sa sb =
      let core : c ≡ d = some_one (sym a.core ∙ b.core) in
      let one = core_initialises r a.e a.d c a.node sa a.at a.kind a.number in
      let two = subst (λ (z : Core). InitialisesEntity (kind_of z) b.d) (sym core) (core_initialises q b.e b.d d b.node sb b.at b.kind b.number) in
      let leaf_same : a.d ≡ b.d = one_leaf (kind_of c) a.d b.d one two in
      let number : a.e ≡ b.e = some_one (sym a.number ∙ (ap m leaf_same ∙ b.number)) in
      let first = node_initialises (slice_get u.nodes.items r) a.node a.e a.at a.kind in
      let second = subst (λ (z : ℕ). Initialises (trees_of u) q z) (sym number) (node_initialises (slice_get u.nodes.items q) b.node b.e b.at b.kind) in
      (one_initialiser r q a.e first second, core)
    where
      one_leaf : (kind : NodeKind) (x y : ℕ) → InitialisesEntity kind x → InitialisesEntity kind y → x ≡ y
      one_leaf (Initialise z own) x y h k = sym h ∙ k
      one_leaf kind x y h k = absurd h

  -- ---- the root of a node

  record Rooted (x : ℕ) : Type 0 where
    r : ℕ
    i : ℕ
    c : Core
    own : Core
    stands : StandsBy m u r c
    found : Found n m u r c x own
    root : IsRoot r i c

  -- nodes that are no initialisers of names are found under what they stand under
  kept_other : (c : Core) → IsOther (kind_of c) → count_in n c ≡ count_whole n c
  kept_other (Of (Initialise e paths) place type under) o = absurd o
  kept_other (Of kind place type under) o = refl

  other_kind : (kind other : NodeKind) → SameKind m kind other → IsOther other → IsOther kind
  other_kind (Initialise d paths) (Initialise e others) h o = o
  other_kind (Initialise d paths) other h o = subst IsOther (sym h) o
  other_kind kind other h o = tt

  kept_literal : (c : Core) (d : ℕ) → InitialisesEntity (kind_of c) d → declared_name s senses d ≡ None → count_in n c ≡ count_whole n c
  kept_literal (Of (Initialise x own) place type under) d is none = by (is_some (declared_name s senses x)) (ap (λ (y : ℕ). is_some (declared_name s senses y)) is ∙ ap (λ (o : Option Declared). is_some o) none)
    where
      by : (b : Bool) → b ≡ false → (if b then 0 else weight (Initialise x own) place + count_under n under) ≡ weight (Initialise x own) place + count_under n under
      by true e = cc
      by false e = refl
  kept_literal c d is none = absurd is

  extended : (p x k : ℕ) (node : Node) → Rooted p → slice_get u.nodes.items p ≡ Some node → slice_get node.children k ≡ Some x → ((part : Core) → StandsBy m u x part → count_in n part ≡ count_whole n part) → Rooted x
  extended p x k node h at child kept =
      let there = found_stands n m u h.stands h.found in
      let under = all_under n m u p h.own node there at in
      let part = part_of n m u node.children (cores_under h.own) k x under child in
      let stands = children_stand n m u node.children (cores_under h.own) k x part.0 under child part.1 in
      record { r = h.r; i = h.i; c = h.c; own = part.0; stands = h.stands; found = found_under n m u k h.found at child part.1 (kept part.0 stands); root = h.root }

  stands_at : (o : Option Core) (b : Option ℕ) (x : ℕ) → SameBody m u o b → b ≡ Some x → (c : Core) × (o ≡ Some c) × StandsBy m u x c
  stands_at None None x h e = cc
  stands_at None (Some b) x h e = absurd h
  stands_at (Some c) None x h e = cc
  stands_at (Some c) (Some b) x h e = (c, refl, subst (λ (y : ℕ). StandsBy m u y c) (some_one e) h)

  node_of : (q : ℕ) (c : Core) → StandsBy m u q c → (node : Node) × (slice_get u.nodes.items q ≡ Some node)
  node_of q (Of kind place type under) h = (h.0, h.1)

  -- the tree of the body of what is declared, at its node
  declared_body : (d e x : ℕ) (what : Declared) (entity : Entity) → IsDeclaredAt s senses d what → m d ≡ Some e → entity_at (trees_of u) e ≡ Some entity → entity.body ≡ Some x → (c : Core) × (what.body ≡ Some c) × StandsBy m u x c
  declared_body d e x what entity dec number at body =
      let (f, other, numbered, there, is) = laid.each_declared d what dec in
      let same : f ≡ e = some_one (sym numbered ∙ number) in
      let one : other ≡ entity = some_one (sym there ∙ (ap (entity_at (trees_of u)) same ∙ at)) in
      stands_at what.body other.body x is.body (ap (λ (z : Entity). z.body) one ∙ body)

  declared_storage : (d e : ℕ) (what : Declared) (entity : Entity) → IsDeclaredAt s senses d what → m d ≡ Some e → entity_at (trees_of u) e ≡ Some entity → entity.storage ≡ what.storage
  declared_storage d e what entity dec number at =
      let (f, other, numbered, there, is) = laid.each_declared d what dec in
      let same : f ≡ e = some_one (sym numbered ∙ number) in
      let one : other ≡ entity = some_one (sym there ∙ (ap (entity_at (trees_of u)) same ∙ at)) in
      subst (λ (z : Entity). z.storage ≡ what.storage) one is.storage

  block_kind : (b : ℕ) (c : Core) (p : ℕ) → child_of s p_block p ≡ Some b → core_of_sense s senses (S b) ≡ Some c → IsOther (kind_of c)
  block_kind b c p child core =
      let (is, at) = found_where (is_a s p_block) (children_at s p) b child in
      let lt = child_inside p b at in
      let block = gives_at (λ x. x ≡ IsCore (blocked b)) b p_block lt is refl in
      subst (λ (z : Core). IsOther (kind_of z)) (some_one (sym (ap (core_of_sense s senses) block) ∙ core)) tt
    where
      blocked : ℕ → Core
      blocked b = Of (Block (objects_in (world_of n s senses b) s (seen_at n s senses b) (children_at s b))) (place_at s b) VoidType (cores_in (world_of n s senses b) s (seen_at n s senses b) (children_at s b))

  initial_kind : (x : Sense) (c : Core) → InitShape x → core_of_sense s senses x ≡ Some c → IsOther (kind_of c) → ⊥
  initial_kind (IsInitial (Of (Initialise e paths) place type under) l) c shape e' o = subst (λ (z : Core). IsOther (kind_of z)) (sym (some_one e')) o
  initial_kind (IsInitial y l) c shape e' o = shape
  initial_kind (IsCore y) c shape e' o = shape
  initial_kind x c shape e' o = none_some e'

  -- the initialiser of a named object
  named_root : (x e d : ℕ) (what : Declared) (node : Node) → slice_get u.nodes.items x ≡ Some node → InitialisesEntity node.kind e → declared_name s senses d ≡ Some what → m d ≡ Some e → Rooted x
  named_root x e d what node at is named number =
      let (entity, there, body) = laid.initialises_once x e (node_initialises (slice_get u.nodes.items x) node e at is) in
      let (c, tree, stands) = declared_body d e x what entity (inl named) number there body in
      by c stands (body_by s senses (representative s senses d) c (sym (body_is s senses d what named) ∙ tree))
    where
      by : (c : Core) → StandsBy m u x c → OfBlock s senses (representative s senses d) c ⊎ OfInitial s senses (representative s senses d) c → Rooted x
      by c stands (inl (defined, (b, block, core))) =
          let (p, external, child) = block_in s senses (representative s senses d) b defined block in
          absurd (others_apart (kind_of c) d (block_kind b c p child core) (core_initialises x e d c node stands at is number))
      by c stands (inr (init, found, core)) =
          let place = initial_of s S (representative s senses d) init found in
          record {
            r = x;
            i = init;
            c = c;
            own = c;
            stands = stands;
            found = top;
            root = inr (record { d = d; e = e; what = what; node = node; named = named; number = number; at = at; kind = is; init = is_initial init c place core; core = core; within = child_inside place.0 init place.2 });
          }

  child_there : (is : List ℕ) (cs : Cores) (k : ℕ) (part : Core) → AllStandBy m u is cs → core_in cs k ≡ Some part → (j : ℕ) × (slice_get is k ≡ Some j)
  child_there is NoCores k part h e = absurd (none_some e)
  child_there is (MoreCores c rest) zero part h e = (h.0, ap (λ (l : List ℕ). slice_get l 0) h.2)
  child_there is (MoreCores c rest) (suc k) part h e = let more = child_there h.1 rest k part h.4 e in (more.0, ap (λ (l : List ℕ). slice_get l (suc k)) h.2 ∙ more.1)

  within_stands : {c d : Core} → Within s senses c d → (i : ℕ) → StandsBy m u i d → (j : ℕ) × StandsBy m u j c
  within_stands Itself i h = (i, h)
  within_stands {d = d} (Below {part = part} k inside) i h =
      let node = node_of i d h in
      let under = all_under n m u i d node.0 h node.1 in
      let child = child_there node.0.children (cores_under d) k.0 part under k.1 in
      within_stands inside child.0 (children_stand n m u node.0.children (cores_under d) k.0 child.0 part under child.1 k.1)

  body_node : (c : Core) (o : Option ℕ) → SameBody m u (Some c) o → (i : ℕ) × StandsBy m u i c
  body_node c None h = absurd h
  body_node c (Some i) h = (i, h)

  -- a node with a part stands in the tree
  parent_inside : (p c : ℕ) → IsIn (children_at s p) c → p < length s.nodes
  parent_inside p c at = by (slice_get s.nodes p) refl at.1
    where
      by : (o : Option SyntaxNode) → slice_get s.nodes p ≡ o → slice_get (children_of o) at.0 ≡ Some c → p < length s.nodes
      by None e h = absurd (none_some h)
      by (Some x) e h = slice_get_within s.nodes p x e

  -- a tree that initialises stands at nodes that do
  back_initialises : (kind other : NodeKind) (d e : ℕ) → SameKind m kind other → InitialisesEntity kind d → m d ≡ Some e → InitialisesEntity other e
  back_initialises (Initialise x own) (Initialise f paths) d e h is number = some_one (sym h.0 ∙ (ap m is ∙ number))
  back_initialises (Initialise x own) other d e h is number = absurd (cc)
  back_initialises kind other d e h is number = absurd is

  -- the initialiser of a literal stands under it
  record UnderLiteral (x : ℕ) : Type 0 where
    p : ℕ
    k : ℕ
    node : Node
    at : slice_get u.nodes.items p ≡ Some node
    child : slice_get node.children k ≡ Some x

  under_literal : (x e d : ℕ) (what : Declared) (node : Node) → slice_get u.nodes.items x ≡ Some node → InitialisesEntity node.kind e → IsDeclaredAt s senses d what → declared_name s senses d ≡ None → m d ≡ Some e → UnderLiteral x
  under_literal x e d what node at is (inl named) none number = absurd (none_some (sym none ∙ named))
  under_literal x e d what node at is (inr (cl, literal, as_is)) none number =
      let (kind, (f, other, body, named, tree, within)) = literal in
      let (entity, there, own) = laid.initialises_once x e (node_initialises (slice_get u.nodes.items x) node e at is) in
      let (c, mine, stands) = declared_body d e x what entity (inr (cl, literal, as_is)) number there own in
      let part : core_in (cores_under cl) 0 ≡ Some c = sym (ap (λ (z : Declared). z.body) as_is) ∙ mine in
      let (g, outer, numbered, placed, entered) = laid.each_declared f other (inl named) in
      let (b, whole) = body_node body outer.body (subst (λ (o : Option Core). SameBody m u o outer.body) tree entered.body) in
      let (q, at_q) = within_stands within b whole in
      let (up, up_at) = node_of q cl at_q in
      let under = all_under n m u q cl up at_q up_at in
      let (j, child) = child_there up.children (cores_under cl) 0 c under part in
      let there_j = children_stand n m u up.children (cores_under cl) 0 j c under child part in
      let (low, low_at) = node_of j c there_j in
      let also = back_initialises (kind_of c) low.kind d e (kind_there n m u j c low there_j low_at) (core_initialises x e d c node stands at is number) number in
      let same = one_initialiser x j e (node_initialises (slice_get u.nodes.items x) node e at is) (node_initialises (slice_get u.nodes.items j) low e low_at also) in
      record { p = q; k = 0; node = up; at = up_at; child = child ∙ ap Some (sym same) }

  -- a node that initialises nothing is a part, or the block of a definition
  no_literal_storage : (d : ℕ) → literal_storage s senses d ≡ FunctionBody → ⊥
  no_literal_storage d e = by (is_some (function_around s S d)) e
    where
      by : (b : Bool) → (if b then Automatic else Static) ≡ FunctionBody → ⊥
      by true e = cc
      by false e = cc

  other_root : (x e : ℕ) (entity : Entity) (node : Node) → slice_get u.nodes.items x ≡ Some node → IsOther node.kind → entity_at (trees_of u) e ≡ Some entity → entity.body ≡ Some x → Rooted x
  other_root x e entity node at other there body =
      let storage = function_body (laid.bodies e x entity there body) in
      let (d, what, dec, number) = laid.no_other_entity e (slice_get_within u.entities.items e entity there) in
      let (c, tree, stands) = declared_body d e x what entity dec number there body in
      by d what dec number c tree stands (sym (declared_storage d e what entity dec number there) ∙ storage)
    where
      function_body : (entity.storage ≡ FunctionBody) ⊎ Initialises (trees_of u) x e → entity.storage ≡ FunctionBody
      function_body (inl h) = h
      function_body (inr h) =
          let (own, own_at, is) = initialised_by_node (slice_get u.nodes.items x) e h in
          absurd (others_apart node.kind e other (subst (λ (z : Node). InitialisesEntity z.kind e) (some_one (sym own_at ∙ at)) is))

      of_body : (d : ℕ) (what : Declared) (c : Core) → declared_name s senses d ≡ Some what → what.storage ≡ FunctionBody → m d ≡ Some e → StandsBy m u x c → OfBlock s senses (representative s senses d) c ⊎ OfInitial s senses (representative s senses d) c → Rooted x
      of_body d what c named stored number stands (inl (defined, (b, block, core))) =
          let (p, external, child) = block_in s senses (representative s senses d) b defined block in
          let (is, at_b) = found_where (is_a s p_block) (children_at s p) b child in
          record {
            r = x;
            i = p;
            c = c;
            own = c;
            stands = stands;
            found = top;
            root = inl (record { d = d; b = b; e = e; what = what; entity = entity; named = named; number = number; there = there; body = body; stored = stored; defined = defined; block = block; external = external; child = child; core = core; within = parent_inside p b at_b });
          }
      of_body d what c named stored number stands (inr (init, found, core)) =
          let place = initial_of s S (representative s senses d) init found in
          let is = is_initial init c place core in
          let lt = child_inside place.0 init place.2 in
          let shape = gives_at InitShape init p_init lt is (init_shape (world_of n s senses init) s (seen_at n s senses init) init (children_at s init)) in
          absurd (initial_kind (S init) c shape core (other_kind (kind_of c) node.kind (kind_there n m u x c node stands at) other))

      by : (d : ℕ) (what : Declared) → IsDeclaredAt s senses d what → m d ≡ Some e → (c : Core) → what.body ≡ Some c → StandsBy m u x c → what.storage ≡ FunctionBody → Rooted x
      by d what (inl named) number c tree stands storage = of_body d what c named storage number stands (body_by s senses (representative s senses d) c (sym (body_is s senses d what named) ∙ tree))
      by d what (inr (cl, literal, as_is)) number c tree stands storage = absurd (no_literal_storage d (sym (ap (λ (z : Declared). z.storage) as_is) ∙ storage))

  -- ---- from the last node down
  rooted_from : (fuel x : ℕ) → x < length u.nodes.items → length u.nodes.items ≤ x + fuel → (node : Node) → slice_get u.nodes.items x ≡ Some node → Rooted x
  rooted_from zero x lt enough node at = absurd (omega (arith, lt, enough))
  rooted_from (suc fuel) x lt enough node at = by (kind_either node.kind) (λ p k up up_at child. up_from p k up up_at child (let before = below_at up.children p k x (laid.children_first p up up_at) child in let within = slice_get_within u.nodes.items p up up_at in rooted_from fuel p within (omega (arith, before, enough)) up up_at))
    where
      up_from : (p k : ℕ) (up : Node) → slice_get u.nodes.items p ≡ Some up → slice_get up.children k ≡ Some x → Rooted p → (p : ℕ) × (k : ℕ) × (up : Node) × (slice_get u.nodes.items p ≡ Some up) × (slice_get up.children k ≡ Some x) × Rooted p
      up_from p k up at child root = (p, k, up, at, child, root)

      kept_lit : (d : ℕ) (e : ℕ) → InitialisesEntity node.kind e → declared_name s senses d ≡ None → m d ≡ Some e → (part : Core) → StandsBy m u x part → count_in n part ≡ count_whole n part
      kept_lit d e is none number part stands = kept_literal part d (core_initialises x e d part node stands at is number) none

      by_name : (e d : ℕ) (what : Declared) → InitialisesEntity node.kind e → IsDeclaredAt s senses d what → m d ≡ Some e → (o : Option Declared) → declared_name s senses d ≡ o
          → ((p k : ℕ) (up : Node) → slice_get u.nodes.items p ≡ Some up → slice_get up.children k ≡ Some x → (p : ℕ) × (k : ℕ) × (up : Node) × (slice_get u.nodes.items p ≡ Some up) × (slice_get up.children k ≡ Some x) × Rooted p) → Rooted x
      by_name e d what is dec number (Some own) named again = named_root x e d own node at is named number
      by_name e d what is dec number None none again =
          let lit = under_literal x e d what node at is dec none number in
          let (p, k, up, up_at, child, root) = again lit.p lit.k lit.node lit.at lit.child in
          extended p x k up root up_at child (kept_lit d e is none number)

      kept_part : IsOther node.kind → (part : Core) → StandsBy m u x part → count_in n part ≡ count_whole n part
      kept_part other part stands = kept_other part (other_kind (kind_of part) node.kind (kind_there n m u x part node stands at) other)

      by : ((e : ℕ) × InitialisesEntity node.kind e) ⊎ IsOther node.kind
          → ((p k : ℕ) (up : Node) → slice_get u.nodes.items p ≡ Some up → slice_get up.children k ≡ Some x → (p : ℕ) × (k : ℕ) × (up : Node) × (slice_get u.nodes.items p ≡ Some up) × (slice_get up.children k ≡ Some x) × Rooted p) → Rooted x
      by (inl (e, is)) again =
          let (entity, there, body) = laid.initialises_once x e (node_initialises (slice_get u.nodes.items x) node e at is) in
          let (d, what, dec, number) = laid.no_other_entity e (slice_get_within u.entities.items e entity there) in
          by_name e d what is dec number (declared_name s senses d) refl again
      by (inr other) again = elim (laid.no_other_node x lt) [
        | inl (e, entity, there, body) ↦ other_root x e entity node at other there body
        | inr (p, (k, child)) ↦
            let (up, up_at, own_child) = child_of_some (slice_get u.nodes.items p) k x child in
            let (q, j, over, over_at, there, root) = again p k up up_at own_child in
            extended q x j over root over_at there (kept_part other)
      ]

  rooted : (x : ℕ) (node : Node) → slice_get u.nodes.items x ≡ Some node → Rooted x
  rooted x node at = rooted_from (length u.nodes.items) x (slice_get_within u.nodes.items x node at) (omega arith) node at

  pub one_node : sum_below bound (length s.nodes) ≤ 1 → (x y : ℕ) (node other : Node) → slice_get u.nodes.items x ≡ Some node → slice_get u.nodes.items y ≡ Some other → Weighs s senses m weight node → Weighs s senses m weight other → x ≡ y
  one_node few x y node other at there marked weighed = by (nat_eq x y) refl
    where
      all : sum_below D (length s.nodes) ≤ sum_below bound (length s.nodes)
      all = all_bodies n s senses bound spanned families laid.are_senses laid.whole makes

      meet : (a : Rooted x) (b : Rooted y) → (x ≡ y → ⊥) → (i : Bool) → nat_eq a.i b.i ≡ i → ⊥
      meet a b differ true same_i =
          let same = eqb-true a.i b.i same_i in
          let roots = same_root a.r b.r a.i a.c b.c a.root (subst (λ (i : ℕ). IsRoot b.r i b.c) (sym same) b.root) a.stands b.stands in
          let found : Found n m u a.r a.c y b.own = subst (λ (r : ℕ). Found n m u r a.c y b.own) (sym roots.0) (subst (λ (c : Core). Found n m u b.r c y b.own) (sym roots.1) b.found) in
          let two = two_found n m u node other a.stands a.found found at there marked weighed differ in
          let counts = root_counts a.r a.i a.c a.root a.stands in
          let one = one_below D (length s.nodes) a.i (root_within a.r a.i a.c a.root) in
          let sum = all in
          omega (arith, two, counts, one, sum, few)
      meet a b differ false apart_i =
          let first = one_found n m u node a.stands a.found at marked in
          let second = one_found n m u other b.stands b.found there weighed in
          let counts = root_counts a.r a.i a.c a.root a.stands in
          let more = root_counts b.r b.i b.c b.root b.stands in
          let two = two_below D (length s.nodes) a.i b.i (root_within a.r a.i a.c a.root) (root_within b.r b.i b.c b.root) (eqb-false a.i b.i apart_i) in
          let sum = all in
          omega (arith, first, second, counts, more, two, sum, few)

      by : (b : Bool) → nat_eq x y ≡ b → x ≡ y
      by true e = eqb-true x y e
      by false e = let a = rooted x node at in let b = rooted y other there in absurd (meet a b (eqb-false x y e) (nat_eq a.i b.i) refl)

pub nodes_once : NodesOnce
nodes_once s senses m u weight bound spanned families laid makes few x y node other at there marked weighed = one_node s senses m u weight bound spanned families laid makes few x y node other at there marked weighed
