-- The Initialise of a compound literal stands once, under its Literal (C11 6.5.2.5).
use Rattle.std.proofs.Common.{arith, ◌≡◌, ◌≤◌, ◌==◌, ℕ, zero, suc, nat_eq, ◌&&◌, ◌||◌, Bool, true, false, List, [], ◌∷◌, Option, Some, None, take, length, slice_get, refl, sym, ap, ◌∙◌, subst, ◌⊎◌, inl, inr}
use Rattle.std.specs.Prelude.{⊤, option_and_then, option_map, if◌then◌else◌}
use Rattle.std.proofs.lemmas.Bool.{eqb-true, and_parts}
use Rattle.c_lexer.specs.declared.Tokens.{Tokens}
use Rattle.c_lexer.specs.Cut.{IsTokens}
use Rattle.c_grammar.specs.declared.trees.Tree.{Tree}
use Rattle.c_grammar.specs.Productions.{p_cast, p_unary, p_init, p_items}
use Rattle.c_grammar.specs.Words.{sign_left_parenthesis}
use Rattle.c_grammar.specs.Reads.{leaf}
use Rattle.c_grammar.specs.Terminals.{contains}
use Rattle.c_parser.specs.c_units.Units.{IsUnit}
use Rattle.c_types.specs.Trees.{Ctype}
use Rattle.c_scope.specs.declared.kinds.Declared.{Declared as Declaration}
use Rattle.core_tree.specs.declared.node.Unit.{Unit}
use Rattle.core_tree.specs.declared.node.NodeKind.{NodeKind}
use Rattle.core_tree.specs.declared.node.NodeKind.TheVariants.{Literal, Initialise}
use Rattle.core_tree.specs.Typed.{trees_of}
use Rattle.core_tree.specs.Range.{entity_at}
use Rattle.core_tree.specs.Rows.{Initialises, InitialisesEntity}
use Rattle.c_consts.specs.Core.{Core, Cores, Of, NoCores, MoreCores, kind_of, cores_under, core_in}
use Rattle.c_inits.specs.Shapes.{Path}
use Rattle.c_senses.specs.Names.{source_of, numbered, ordinary_at, is_linked_kind}
use Rattle.c_senses.specs.Tree.{Source, is_a, is_leaf, is_name, has_sign, children_at, parent_of, first_where, all_nodes}
use Rattle.c_senses.specs.World.{World}
use Rattle.c_senses.specs.Sense.{Sense, Nothing, IsCore, IsInitial, IsDeclarator, sense_in}
use Rattle.c_senses.specs.Rows.{AreSenses, world_at}
use Rattle.c_senses.specs.Entities.{keep, first_of, is_internal, is_internal_of, is_linked, internal_among, entity_of, initialised_by, is_defined, initialiser_for}
use Rattle.c_senses.specs.Initialised.{name_of_declarator, opening}
use Rattle.c_senses.specs.Right.{Numbering, SameBody, Declared, IsLiteralOf, declared_name, declared_as, declares_entity, entity_type, representative, literal_as, core_of_sense, block_for, body_at, Within, Itself, Below}
use Rattle.parsed_tree_laws.specs.family_laws.Families.{Families, IsChild}
use Rattle.parsed_tree_laws.proofs.family_laws.Reading.{units_families}
use Rattle.parsed_tree_laws.specs.span_laws.Spans.{Spanned}
use Rattle.parsed_tree_laws.proofs.span_laws.Whole.{units_are_spanned}
use Rattle.declaration_laws.proofs.declared_type_laws.passed.owner_laws.Whole.{grown_of}
use Rattle.declaration_laws.proofs.function_laws.passed.definition_laws.linkage_laws.Linked as linked
use Rattle.declaration_laws.proofs.function_laws.passed.definition_laws.linkage_laws.Reading.{tree_is}
use Rattle.parsed_tree_laws.proofs.grown_parts.Reading.{units_bring}
use Rattle.declaration_laws.proofs.name_order.Ordered.{units_ordered}
use Rattle.declaration_laws.specs.declared_type_laws.declared_leaves.Leaves.{IsNamed, Own, Inner}
use Rattle.declaration_laws.proofs.declared_type_laws.declared_leaves.Climbing.{leaves_declared}
use Rattle.valid_unit_laws.proofs.object_initialiser_laws.passed.internal_name_laws.representative_names.Declaring.{linked_declares}
use Rattle.declaration_laws.proofs.declared_type_laws.known_entities.Known.{entities_known}
use Rattle.declaration_laws.proofs.function_laws.passed.definition_laws.single_initialisers.Apart.{stands_outermost}
use Rattle.parsed_tree_laws.proofs.sign_parts.Reading as signs
use Rattle.core_node_laws.proofs.built_unit_laws.run_laws.Times.{known_at, told_before}
use Rattle.core_node_laws.specs.literal_nodes.Holding.{Holds}
use Rattle.core_node_laws.specs.literal_nodes.Unnamed.{IsUnnamed}
use Rattle.core_node_laws.proofs.literal_nodes.Unnamed.{unnamed}
use Rattle.core_node_laws.proofs.built_unit_laws.unlinked_laws.Inside.{in_body_holds}
use Rattle.core_node_laws.specs.built_unit_laws.built_laws.Placed.{IsInBody}
use Rattle.core_node_laws.specs.built_unit_laws.built_rows.Rows.{types_declared}
use Rattle.parsed_tree_laws.specs.sense_laws.Sound.{Sound, AllSound, RowOver, list_of}
use Rattle.parsed_tree_laws.specs.sense_laws.Senses.{SoundSense}
use Rattle.parsed_tree_laws.proofs.sense_laws.All.{asked_sound}
use Rattle.core_node_laws.proofs.built_unit_laws.align_laws.Fitting.{asked_aligns_fit}
use Rattle.parsed_tree_laws.proofs.sense_laws.parsed_laws.Constants.{constants_fit}
use Rattle.valid_unit_laws.specs.object_initialiser_laws.passed.internal_name_laws.text_rows.Texts.{TypesFit}
use Rattle.valid_unit_laws.proofs.object_initialiser_laws.passed.internal_name_laws.text_rows.Fitting.{grown, asked_fit}
use Rattle.core_node_laws.specs.count_laws.Counting.{sum_below, bodies, seen_at, world_of, Makes}
use Rattle.core_node_laws.proofs.count_laws.Main.{counting}
use Rattle.core_node_laws.proofs.count_laws.Rooms.{apart}
use Rattle.core_node_laws.proofs.count_laws.once_nodes.Found.{some_one}
use Rattle.core_node_laws.proofs.count_laws.once_nodes.Rooted.{none_some, found_where}
use Rattle.core_node_laws.proofs.count_laws.single_nodes.Places.{once_only}
use Rattle.valid_unit_laws.specs.object_initialiser_laws.once_initialised.Once.{initialises}
use Rattle.valid_unit_laws.proofs.body_node_laws.own_initials.Names.{both}
use Rattle.valid_unit_laws.proofs.body_node_laws.own_initials.Rests.{name_in, seen_later}
use Rattle.valid_unit_laws.specs.body_node_laws.parts_initialise.Initialise.{IsRaised, IsBodyOf}
use Rattle.valid_unit_laws.proofs.body_node_laws.parts_initialise.Forest.{node_initialises, one_node}
use Rattle.valid_unit_laws.proofs.body_node_laws.parts_initialise.Whole.{stands_initialises, body_some}

abbrev one_if : Bool → ℕ
one_if b = if b then 1 else 0

most_one : (b : Bool) → one_if b ≤ 1
most_one true = omega arith
most_one false = omega arith

is_one : (b : Bool) → 1 ≤ one_if b → b ≡ true
is_one true h = refl
is_one false h = absurd (omega (arith, h))

less_if : (a b : Bool) → (a ≡ true → b ≡ true) → one_if a ≤ one_if b
less_if true b h = by b (h refl)
  where
    by : (b : Bool) → b ≡ true → 1 ≤ one_if b
    by true e = omega arith
    by false e = cc
less_if false b h = omega arith

both_true : (a b : Bool) → a ≡ true → b ≡ true → (a && b) ≡ true
both_true true true e f = refl
both_true true false e f = cc
both_true false b e f = cc

-- ---- compound literals

in_list : (list : List ℕ) (i : ℕ) → contains list i ≡ true → (k : ℕ) × (slice_get list k ≡ Some i)
in_list [] i h = cc
in_list (x ∷ list) i h = by (in_list list i) (nat_eq x i) refl h
  where
    by : (contains list i ≡ true → (k : ℕ) × (slice_get list k ≡ Some i)) → (b : Bool) → nat_eq x i ≡ b → (b || contains list i) ≡ true → (k : ℕ) × (slice_get (x ∷ list) k ≡ Some i)
    by rest true e h = (0, ap Some (eqb-true x i e))
    by rest false e h = let more = rest h in (suc more.0, more.1)

module _ (s : Source) where
  -- the parenthesis before the type of a compound literal
  abbrev opened : ℕ → ℕ
  opened p = elim (first_where (has_sign s sign_left_parenthesis) (children_at s p)) as (λ _. ℕ) [ None ↦ p | Some leaf ↦ leaf ]

  child_of_parent : (p c : ℕ) → parent_of s c ≡ Some p → IsChild s p c
  child_of_parent p c e = in_list (children_at s p) c (found_where (λ (q : ℕ). contains (children_at s q) c) (all_nodes s) p e).0

  -- the node itself, or a leaf that is its child
  data Opens : ℕ → ℕ → Type 0 where
    itself : {p : ℕ} → Opens p p
    leafy : {p d : ℕ} → IsChild s p d → is_leaf s d ≡ true → Opens p d

  opens : (p : ℕ) → Opens p (opened p)
  opens p = by (first_where (has_sign s sign_left_parenthesis) (children_at s p)) refl
    where
      by : (o : Option ℕ) → first_where (has_sign s sign_left_parenthesis) (children_at s p) ≡ o → Opens p (elim o as (λ _. ℕ) [ None ↦ p | Some leaf ↦ leaf ])
      by None e = itself
      by (Some d) e = let found = found_where (has_sign s sign_left_parenthesis) (children_at s p) d e in leafy found.1 (and_parts (is_leaf s d) _ found.0).0

  no_leaf : (p : ℕ) → (is_a s p_cast p || is_a s p_unary p) ≡ true → is_leaf s p ≡ false
  no_leaf p h = by (is_a s p_cast p) refl (is_a s p_unary p) refl h
    where
      by : (a : Bool) → is_a s p_cast p ≡ a → (b : Bool) → is_a s p_unary p ≡ b → (a || b) ≡ true → is_leaf s p ≡ false
      by true e b f h = apart s p_cast leaf p refl e
      by false e true f h = apart s p_unary leaf p refl f
      by false e false f h = cc

  one_opener : Families s → (p q d e : ℕ) → Opens p d → Opens q e → d ≡ e → (is_a s p_cast p || is_a s p_unary p) ≡ true → (is_a s p_cast q || is_a s p_unary q) ≡ true → p ≡ q
  one_opener families p q d e itself itself same a b = same
  one_opener families p q d e itself (leafy child leafy_e) same a b = absurd (let off = no_leaf p a in let never : true ≡ false = sym leafy_e ∙ (ap (is_leaf s) (sym same) ∙ off) in cc)
  one_opener families p q d e (leafy child leafy_d) itself same a b = absurd (let off = no_leaf q b in let never : true ≡ false = sym leafy_d ∙ (ap (is_leaf s) same ∙ off) in cc)
  one_opener families p q d e (leafy child leafy_d) (leafy other leafy_e) same a b = families.single p q d child (subst (λ (x : ℕ). IsChild s q x) (sym same) other)

  -- a list of items below what a parenthesis opens
  abbrev opened_by : ℕ → Option ℕ → Bool
  opened_by d None = false
  opened_by d (Some p) = (is_a s p_cast p || is_a s p_unary p) && (opened p == d)

  abbrev listed : ℕ → ℕ → Bool
  listed d i = is_a s p_items i && opened_by d (parent_of s i)

  parent_in : (d : ℕ) (o : Option ℕ) → opened_by d o ≡ true → (p : ℕ) × (o ≡ Some p) × ((is_a s p_cast p || is_a s p_unary p) ≡ true) × (opened p ≡ d)
  parent_in d None h = cc
  parent_in d (Some p) h = let parts = and_parts (is_a s p_cast p || is_a s p_unary p) (opened p == d) h in (p, refl, parts.0, eqb-true (opened p) d parts.1)

  one_listed : Spanned s → Families s → (d i j : ℕ) → listed d i ≡ true → listed d j ≡ true → i ≡ j
  one_listed spanned families d i j a b =
      let x = and_parts (is_a s p_items i) (opened_by d (parent_of s i)) a in
      let y = and_parts (is_a s p_items j) (opened_by d (parent_of s j)) b in
      let (p, parent, kind, opening) = parent_in d (parent_of s i) x.1 in
      let (q, other, also, closing) = parent_in d (parent_of s j) y.1 in
      let same = one_opener families p q (opened p) (opened q) (opens p) (opens q) (opening ∙ sym closing) kind also in
      let first = child_of_parent p i parent in
      let second : IsChild s p j = subst (λ (z : ℕ). IsChild s z j) (sym same) (child_of_parent q j other) in
      let place = spanned.lists p first.0 second.0 i j first.1 second.1 x.0 y.0 in
      one (sym first.1 ∙ (ap (slice_get (children_at s p)) place ∙ second.1))
    where
      one : {x y : ℕ} → ◌≡◌ {A = Option ℕ} (Some x) (Some y) → x ≡ y
      one h = cc

  listed_is : (d i p : ℕ) → is_a s p_items i ≡ true → parent_of s i ≡ Some p → (is_a s p_cast p || is_a s p_unary p) ≡ true → (opened p == d) ≡ true → listed d i ≡ true
  listed_is d i p is parent kind e =
      both_true (is_a s p_items i) (opened_by d (parent_of s i)) is (subst (λ (o : Option ℕ). opened_by d o ≡ true) (sym parent) (both_true (is_a s p_cast p || is_a s p_unary p) (opened p == d) kind e))

-- ---- what an initialiser is of is a name

named_is : (s : Source) {m l : ℕ} → IsNamed s m l → is_name s l ≡ true
named_is s (Own at name) = name
named_is s (Inner c at is inner) = named_is s inner

first_internal : (s : Source) (sense : ℕ → Sense) (symbol l : ℕ) (ds : List Declaration) → is_internal s sense l ≡ true → is_internal s sense (first_of s sense l (keep s sense (is_internal_of s sense symbol) ds)) ≡ true
first_internal s sense symbol l [] h = h
first_internal s sense symbol l (y ∷ ds) h = by (is_internal_of s sense symbol y) refl (first_internal s sense symbol l ds h)
  where
    by : (b : Bool) → is_internal_of s sense symbol y ≡ b → is_internal s sense (first_of s sense l (keep s sense (is_internal_of s sense symbol) ds)) ≡ true
        → is_internal s sense (first_of s sense l (if b then y ∷ keep s sense (is_internal_of s sense symbol) ds else keep s sense (is_internal_of s sense symbol) ds)) ≡ true
    by true e later = (both (y.symbol == symbol) (is_internal s sense y.node) e).1
    by false e later = later

entity_internal : (s : Source) (sense : ℕ → Sense) (l : ℕ) → (entity_of s sense l ≡ l) ⊎ (is_internal s sense (entity_of s sense l) ≡ true)
entity_internal s sense l = by (is_internal s sense l) refl
  where
    among : (o : Option Declaration) → is_internal s sense l ≡ true → is_internal s sense (first_of s sense l (internal_among s sense s.declared.ordinary o)) ≡ true
    among None h = h
    among (Some y) h = first_internal s sense y.symbol l s.declared.ordinary h

    by : (b : Bool) → is_internal s sense l ≡ b → ((if b then first_of s sense l (internal_among s sense s.declared.ordinary (ordinary_at s l)) else l) ≡ l) ⊎ (is_internal s sense (if b then first_of s sense l (internal_among s sense s.declared.ordinary (ordinary_at s l)) else l) ≡ true)
    by true h = inr (among (ordinary_at s l) h)
    by false h = inl refl

-- ---- trees in bodies are sound

module _ (w : World) (entities : ℕ → Option Ctype) where
  abbrev SomeSound : Option Core → Type 0
  SomeSound None = ⊤
  SomeSound (Some c) = Sound w entities c

  part_sound : (cs : Cores) (k : ℕ) → AllSound w entities cs → SomeSound (core_in cs k)
  part_sound NoCores k h = tt
  part_sound (MoreCores c rest) zero h = h.0
  part_sound (MoreCores c rest) (suc k) h = part_sound rest k h.1

  under_sound : (c : Core) → Sound w entities c → AllSound w entities (cores_under c)
  under_sound (Of kind place type under) h = h.3

  some_sound : (o : Option Core) (c : Core) → o ≡ Some c → SomeSound o → Sound w entities c
  some_sound None c e h = absurd (none_some e)
  some_sound (Some x) c e h = subst (λ (y : Core). Sound w entities y) (some_one e) h

  if_sound : (b : Bool) (x y : Option Core) → SomeSound x → SomeSound y → SomeSound (if b then x else y)
  if_sound true x y h k = h
  if_sound false x y h k = k

  module _ (s : Source) (senses : List Sense) (all : (i : ℕ) → SoundSense w entities (sense_in senses i)) where
    core_sound : (x : Sense) → SoundSense w entities x → SomeSound (core_of_sense s senses x)
    core_sound (IsCore c) h = h
    core_sound (IsInitial c n) h = h.0
    core_sound x h = tt

    found_sound : (o : Option ℕ) → SomeSound (option_and_then (λ b. core_of_sense s senses (sense_in senses b)) o)
    found_sound None = tt
    found_sound (Some b) = core_sound (sense_in senses b) (all b)

    body_sound : (i : ℕ) → SomeSound (body_at s senses i)
    body_sound i = if_sound (is_defined s (λ (j : ℕ). sense_in senses j) i) _ _ (found_sound (block_for s senses i)) (found_sound (initialiser_for s (λ (j : ℕ). sense_in senses j) i))

    declared_sound : (i : ℕ) (b : Bool) (o : Option Ctype) (what : Declared) → (if b then option_map (declared_as s senses i) o else None) ≡ Some what → SomeSound what.body
    declared_sound i false o what e = absurd (none_some e)
    declared_sound i true None what e = absurd (none_some e)
    declared_sound i true (Some t) what e = subst (λ (x : Declared). SomeSound x.body) (some_one e) (body_sound (representative s senses i))

    within_sound : {c d : Core} → Within s senses c d → Sound w entities d → Sound w entities c
    within_sound Itself h = h
    within_sound (Below {c = c} {part = part} k h) whole = within_sound h (some_sound (core_in (cores_under c) k.0) part k.1 (part_sound (cores_under c) k.0 (under_sound c whole)))

    named_sound : (c : Core) (f : ℕ) (other : Declared) (body : Core) → declared_name s senses f ≡ Some other → other.body ≡ Some body → Within s senses c body → Sound w entities c
    named_sound c f other body told has inside = within_sound inside (some_sound other.body body has (declared_sound f (declares_entity s senses f) (entity_type s senses f) other told))

  -- a literal has its initialiser
  initial_under : (c : Core) (d : ℕ) → kind_of c ≡ Literal d → Sound w entities c → (v : Core) × (core_in (cores_under c) 0 ≡ Some v) × InitialisesEntity (kind_of v) d
  initial_under (Of kind place type under) d is h = by under (subst (λ (k : NodeKind). RowOver w entities k type (list_of under)) is h.0)
    where
      by : (cs : Cores) → RowOver w entities (Literal d) type (list_of cs) → (v : Core) × (core_in cs 0 ≡ Some v) × InitialisesEntity (kind_of v) d
      by NoCores h = absurd h
      by (MoreCores v NoCores) h = (v, refl, h.1)
      by (MoreCores v (MoreCores x rest)) h = absurd h

initialises_kind : (kind : NodeKind) (d : ℕ) → InitialisesEntity kind d → (paths : List Path) × (kind ≡ Initialise d paths)
initialises_kind (Initialise o paths) d h = (paths, ap (λ (k : ℕ). Initialise k paths) h)
initialises_kind kind d h = absurd h

unnamed_kind : (s : Source) (c : Core) (d : ℕ) → kind_of c ≡ Literal d → Holds (IsUnnamed s) c → is_name s d ≡ false
unnamed_kind s (Of (Literal f) place type under) d is h = let same : f ≡ d = cc in subst (λ (x : ℕ). is_name s x ≡ false) same h.0
unnamed_kind s (Of kind place type under) d is h = absurd (cc)

module _ (tokens : Tokens) (unit : ℕ) (tree : Tree) (tag_number : ℕ → ℕ) (senses : List Sense) (cut : IsTokens tokens.text.now tokens.list.items) (read : IsUnit tokens unit tree)
    (are : AreSenses (numbered tag_number (source_of tokens tree)) senses) (whole : length senses ≡ length (numbered tag_number (source_of tokens tree)).nodes) (m : Numbering) (u : Unit)
    (raised : IsRaised (numbered tag_number (source_of tokens tree)) senses m u) (fit : TypesFit (numbered tag_number (source_of tokens tree)) senses)
  where
    abbrev s : Source
    s = numbered tag_number (source_of tokens tree)

    abbrev sense : ℕ → Sense
    sense i = sense_in senses i

    abbrev t : linked.Tree s
    t = tree_is tokens unit tree read tag_number

    all_sound : (j : ℕ) → SoundSense (world_at s senses (length senses)) (types_declared s senses) (sense_in senses j)
    all_sound j =
        let grew = grown tokens unit tree tag_number cut read in
        let constants = constants_fit tokens tree tag_number cut in
        (asked_sound (types_declared s senses) s senses are grew.first constants grew.statements
        (asked_aligns_fit (types_declared s senses) s senses are grew.first constants grew.statements (asked_fit s senses are grew (units_bring tokens unit tree tag_number read) fit)) j).0

    -- the leaf of a literal is no entity's of a name
    module _ (d : ℕ) (plain : is_name s d ≡ false) where
      clash : (x : ℕ) → x ≡ d → is_name s x ≡ true → ⊥
      clash x same name = let yes : is_name s d ≡ true = subst (λ (y : ℕ). is_name s y ≡ true) same name in let never : true ≡ false = sym yes ∙ plain in cc

      no_entity : (i f l : ℕ) → is_a s p_init i ≡ true → initialised_by s (sense_in (take i senses)) i ≡ Some f → name_in (sense_in (take i senses) f) ≡ Some l → entity_of s (sense_in (take i senses)) l ≡ d → ⊥
      no_entity i f l is by_it named entity =
          let outer = stands_outermost s t (units_families tokens unit tree tag_number cut read) (signs.units_bring tokens unit tree tag_number read) (sense_in (take i senses)) i f is by_it in
          let (ds, last, lt) = seen_later senses i f l named in
          let declared = leaves_declared.by_sense s senses are t.grown (units_bring tokens unit tree tag_number read) f l ds lt outer last in
          let before = told_before s senses i f (known_at s senses i f) refl (λ none. no_name (known_at s senses i f) l named none) in
          let final : entity_of s sense l ≡ d = sym (entities_known tokens unit tree tag_number senses cut read l f i declared.outermost (omega (arith, before))).entity ∙ entity in
          by l final (named_is s declared.named) (entity_internal s sense l)
        where
          no_name : (x : Sense) (l : ℕ) → name_in x ≡ Some l → x ≡ Nothing → ⊥
          no_name Nothing l e none = cc
          no_name x l e none = cc

          linked_name : (x : ℕ) → is_internal s sense x ≡ true → is_name s x ≡ true
          linked_name x internal =
              let on = (both (is_linked s sense x) _ internal).0 in
              let (y, at, kind, n) = linked.linked_named s t senses are whole x on in
              let declaring = linked_declares s senses are whole (grown_of tokens unit tree tag_number cut read) t.grown (units_bring tokens unit tree tag_number read) (units_ordered tokens unit tree tag_number cut read) x y at (ap is_linked_kind kind) in
              (both (is_name s x) _ declaring).0

          by : (l : ℕ) → entity_of s sense l ≡ d → is_name s l ≡ true → (entity_of s sense l ≡ l) ⊎ (is_internal s sense (entity_of s sense l) ≡ true) → ⊥
          by l final name (inl own) = clash l (sym own ∙ final) name
          by l final name (inr internal) = clash (entity_of s sense l) final (linked_name (entity_of s sense l) internal)

      same_name : (i : ℕ) (x : Sense) → name_of_declarator (world_of (initialises d) s senses i) s (seen_at (initialises d) s senses i) x ≡ name_in x
      same_name i (IsDeclarator name ds) = refl
      same_name i x = refl

      none_if : (b : Bool) (k : ℕ) → (b ≡ true → ⊥) → one_if b ≤ k
      none_if true k h = absurd (h refl)
      none_if false k h = omega arith

      made : Makes (initialises d) s senses (λ i. one_if (listed s d i))
      made = record {
        texts = λ i first rest bytes is e there. omega arith;
        calls = λ i first rest is e there. omega arith;
        objects = λ i declarator l paths is by_it named.
            none_if (entity_of s (seen_at (initialises d) s senses i) l == d) (one_if (listed s d i)) (λ e. no_entity i declarator l is by_it (sym (same_name i (seen_at (initialises d) s senses i declarator)) ∙ named) (eqb-true (entity_of s (seen_at (initialises d) s senses i) l) d e));
        literals = λ i p paths is parent kind typed. let h = less_if (opened s p == d) (listed s d i) (λ e. listed_is s d i p is parent kind e) in omega (arith, h);
        blocks = λ i is. omega arith;
        loops = λ i word parenthesis rest c a is e. omega arith;
      }

      few : sum_below (bodies (initialises d) s senses) (length s.nodes) ≤ 1
      few =
          let spanned = units_are_spanned tokens unit tree tag_number read in
          let families = units_families tokens unit tree tag_number cut read in
          let law = counting (initialises d) s senses (λ i. one_if (listed s d i)) spanned families are whole made in
          let one = once_only (λ i. one_if (listed s d i)) (length s.nodes) (λ i. most_one (listed s d i)) (λ i j h g. one_listed s spanned families d i j (is_one (listed s d i) h) (is_one (listed s d j) g)) in
          omega (arith, law, one)

    pub literal_body : (x e d : ℕ) (c : Core) → Initialises (trees_of u) x e → m d ≡ Some e → IsLiteralOf s senses d c → IsBodyOf u x e
    literal_body x e d c h number literal =
        let (kind, (f, other, body, told, has, inside)) = literal in
        let (node, paths, at, is) = node_initialises (slice_get u.nodes.items x) e h in
        let in_body : IsInBody s senses c = record { leaf = f; what = other; body = body; declared = told; has = has; within = inside } in
        let plain = unnamed_kind s c d kind (in_body_holds (IsUnnamed s) s senses (λ (i : ℕ). unnamed s senses are i) c in_body) in
        let sound = named_sound (world_at s senses (length senses)) (types_declared s senses) s senses all_sound c f other body told has inside in
        let (v, first, initial) = initial_under (world_at s senses (length senses)) (types_declared s senses) c d kind sound in
        let (others, initial_kind) = initialises_kind (kind_of v) d initial in
        let (g, entity, numbered, there, entered) = raised.each_declared d (literal_as s senses d c) (inr (c, literal, refl)) in
        let same : g ≡ e = some_one (sym numbered ∙ number) in
        let (b, own, stands) = body_some m u v entity.body (subst (λ (o : Option Core). SameBody m u o entity.body) first entered.body) in
        let (low, more, low_at, low_is) = stands_initialises m u b d e v others stands initial_kind number in
        let one = one_node tokens unit tree tag_number senses cut read are whole m u raised d e number (few d plain) x b node low paths more at low_at is low_is in
        (entity, ap (entity_at (trees_of u)) (sym same) ∙ there, own ∙ ap (λ (z : ℕ). Some z) (sym one))
