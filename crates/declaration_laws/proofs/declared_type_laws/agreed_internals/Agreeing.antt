-- The declarations of an internal name agree one after another.
use Rattle.std.proofs.Common.{arith, ◌≡◌, ◌<◌, ◌≤◌, nat_eq, ℕ, Bool, true, false, ◌||◌, not, List, ◌∷◌, ◌++◌, length, slice_get, Option, Some, None, refl, sym, ap, ◌∙◌, subst}
use Rattle.std.specs.Prelude.{All}
use Rattle.std.proofs.lemmas.Bool.{eqb-true}
use Rattle.std.proofs.lemmas.Option.{slice_get_within, get_or_from_slice_get}
use Rattle.c_lexer.specs.declared.Token.{Token}
use Rattle.c_lexer.specs.Laws.{Stands}
use Rattle.c_lexer.proofs.OneCut.{stand}
use Rattle.c_types.specs.Trees.{Ctype}
use Rattle.c_scope.specs.declared.kinds.Declared.{Declared}
use Rattle.c_senses.specs.Tree.{Source}
use Rattle.c_senses.specs.Names.{source_of, numbered, made_before, ordinary_at}
use Rattle.c_senses.specs.World.{World}
use Rattle.c_senses.specs.Declarators.{is_outermost, derived}
use Rattle.c_senses.specs.Entities.{with_length, length_given_by, initialiser_of, is_linked, is_internal, is_internal_of, internal_among, keep, own_type, types_of, all_together, agrees_with, internal_agrees}
use Rattle.c_senses.specs.Sense.{Sense, IsInitial, sense_in}
use Rattle.c_senses.specs.Rows.{AreSenses}
use Rattle.core_node_laws.specs.count_laws.passed.parsed_tree_laws.family_laws.Families.{Families}
use Rattle.core_node_laws.proofs.count_laws.passed.parsed_tree_laws.family_laws.Reading.{units_families}
use Rattle.core_node_laws.specs.count_laws.passed.parsed_tree_laws.nesting_laws.Nested.{Nested}
use Rattle.core_node_laws.proofs.count_laws.passed.parsed_tree_laws.nesting_laws.Nesting.{units_nest}
use Rattle.core_node_laws.proofs.count_laws.passed.parsed_tree_laws.placed_laws.Climbing.{Grown}
use Rattle.declaration_laws.proofs.declared_type_laws.owner_laws.passed.definition_laws.linkage_laws.Seen.{parent_is}
use Rattle.declaration_laws.proofs.declared_type_laws.owner_laws.passed.definition_laws.linkage_laws.Linked.{Tree}
use Rattle.declaration_laws.proofs.declared_type_laws.owner_laws.passed.definition_laws.linkage_laws.Reading.{tree_is}
use Rattle.core_node_laws.specs.count_laws.passed.parsed_tree_laws.sign_parts.Parts.{IsBrought}
use Rattle.core_node_laws.proofs.count_laws.passed.parsed_tree_laws.sign_parts.Reading.{units_bring}
use Rattle.core_node_laws.proofs.built_unit_laws.run_laws.Times.{known_at, world_of}
use Rattle.declaration_laws.proofs.declared_type_laws.plain_names.Later.{initialiser_same}
use Rattle.declaration_laws.specs.declared_type_laws.owner_laws.passed.definition_laws.initialiser_laws.Initialisers.{InitialisersAreOf}
use Rattle.declaration_laws.proofs.declared_type_laws.owner_laws.passed.definition_laws.initialiser_laws.Found.{initialisers_found}
use Rattle.declaration_laws.specs.declared_type_laws.declared_leaves.Leaves.{IsDeclaredBy}
use Rattle.declaration_laws.specs.declared_type_laws.owner_laws.passed.definition_laws.earlier_initialisers.Earlier.{StandsDeclaring}
use Rattle.declaration_laws.specs.joined_types.Joined.{AllAgree}
use Rattle.declaration_laws.proofs.agreed_types.Agreeing.{types_agreed}
use Rattle.declaration_laws.specs.declared_type_laws.declared_once.Once.{IsDeclaredOnce}
use Rattle.declaration_laws.proofs.declared_type_laws.declared_once.Knowing.{declared_once}
use Rattle.declaration_laws.specs.declared_type_laws.agreed_internals.Agreeing.{AreAgreed, InternalsAgree}
use Rattle.declaration_laws.proofs.declared_type_laws.agreed_internals.Rows.{Initial, declarator_asks, initialiser_asks}
use Rattle.declaration_laws.proofs.declared_type_laws.agreed_internals.Found.{StandsIn, stands_in}
use Rattle.declaration_laws.proofs.declared_type_laws.agreed_internals.Lists.{TypeAt, type_at, KeptAt, kept_at}
use Rattle.declaration_laws.proofs.declared_type_laws.agreed_internals.Entities.{both, entry_at, entity_is, entity_known, own_in}

some_one : {X : Type 0} → {x y : X} → ◌≡◌ {A = Option X} (Some x) (Some y) → x ≡ y
some_one h = cc

or_second : (a b : Bool) → a ≡ true → (not a || b) ≡ true → b ≡ true
or_second true b e h = h
or_second false b e h = cc

agrees_same : (w v : World) (s : Source) (f g : ℕ → Sense) (t : Ctype) (o : Option Ctype) → agrees_with w s f t o ≡ agrees_with v s g t o
agrees_same w v s f g t None = refl
agrees_same w v s f g t (Some a) = refl

module _ (s : Source) (tree : Grown s) (nested : Nested s) (families : Families s) (standing : (k : ℕ) (t : Token) → slice_get s.tokens k ≡ Some t → Stands s.text t) (brought : IsBrought s) (of : InitialisersAreOf s) (senses : List Sense) (are : AreSenses s senses)
    (whole : length senses ≡ length s.nodes) (once : IsDeclaredOnce s senses) where
  abbrev G : ℕ → Sense
  G = sense_in senses

  abbrev F : ℕ → ℕ → Sense
  F n = known_at s senses n

  abbrev W : ℕ → World
  W n = world_of s senses n

  abbrev ordinary : List Declared
  ordinary = s.declared.ordinary

  -- a declaration of an internal name, and the types that those before it give
  module _ (leaf m : ℕ) (internal : is_internal s G leaf ≡ true) (linked : is_linked s G leaf ≡ true) (stands : StandsDeclaring s m) (outer : is_outermost s m ≡ true) (one : IsDeclaredBy s senses m leaf) (before : List Ctype)
      (types : types_of s G (internal_among s G (made_before leaf s.declared.ordinary) (ordinary_at s leaf)) ≡ before) where
    short : m < length senses
    short = let below = tree.before stands.0 m stands.2 in let within = tree.within stands.0 m stands.2 in omega (arith, below, within, whole)

    -- what a row asks from its declarator on
    from_row : (n : ℕ) (u : Ctype) → m ≤ n → internal_agrees (W n) s (F n) u leaf ≡ true → agrees_with (W 0) s G u (all_together None before) ≡ true
    from_row n u le asked =
        let here : is_internal s (F n) leaf ≡ true = once.internal leaf m n linked one.outermost le ∙ internal in
        let told : agrees_with (W n) s (F n) u (all_together None (types_of s (F n) (internal_among s (F n) (made_before leaf ordinary) (ordinary_at s leaf)))) ≡ true = or_second (is_internal s (F n) leaf) _ here asked in
        agrees_same (W 0) (W n) s G (F n) u (all_together None before) ∙ (ap (λ (ts : List Ctype). agrees_with (W n) s (F n) u (all_together None ts)) (sym (once.types leaf m n linked one.outermost le ∙ types)) ∙ told)

    own_agrees : (t : Ctype) → own_type s G leaf ≡ Some t → agrees_with (W 0) s G t (all_together None before) ≡ true
    own_agrees t own = by (initialiser_of s G m) refl
      where
        type_is : with_length (length_given_by s G (initialiser_of s G m)) (derived one.derives one.words.type) ≡ t
        type_is = some_one (sym (once.own leaf m one linked) ∙ own)

        bare : (u : Ctype) → with_length None u ≡ u
        bare u = refl

        by : (o : Option ℕ) → initialiser_of s G m ≡ o → agrees_with (W 0) s G t (all_together None before) ≡ true
        by None none =
            let same : derived one.derives one.words.type ≡ t = sym (ap (λ (x : Option ℕ). with_length (length_given_by s G x) (derived one.derives one.words.type)) none ∙ bare (derived one.derives one.words.type)) ∙ type_is in
            subst (λ (u : Ctype). agrees_with (W 0) s G u (all_together None before) ≡ true) same (from_row m (derived one.derives one.words.type) (omega arith) (declarator_asks s tree senses are m leaf one short stands outer))
        by (Some i) given =
            let place : StandsIn s tree nested families standing brought G i = stands_in s tree nested families standing brought G m i stands given in
            let below = tree.before place.rest i place.inside in
            let within = tree.within place.rest i place.inside in
            let asks : Initial s tree senses are m leaf one i =
            initialiser_asks s tree senses are m leaf one i place.rest (omega (arith, below, within, whole)) place.is (parent_is s tree place.rest i place.inside) place.is_rest (of (F i) m i stands.1 (initialised i given)) in
            let length_is : length_given_by s G (Some i) ≡ asks.length_is = ap (λ (x : Sense). elim x as (λ _. Option ℕ) [ IsInitial c n ↦ n | _ ↦ None ]) asks.is in
            let same : with_length asks.length_is (derived one.derives one.words.type) ≡ t =
            sym (ap (λ (x : Option ℕ). with_length (length_given_by s G x) (derived one.derives one.words.type)) given ∙ ap (λ (l : Option ℕ). with_length l (derived one.derives one.words.type)) length_is) ∙ type_is in
            let lt = asks.before in
            subst (λ (u : Ctype). agrees_with (W 0) s G u (all_together None before) ≡ true) same (from_row i (with_length asks.length_is (derived one.derives one.words.type)) (omega (arith, lt)) asks.asked)
          where
            initialised : (i : ℕ) → initialiser_of s G m ≡ Some i → initialiser_of s (F i) m ≡ Some i
            initialised i e = initialiser_same s (F i) G m ∙ e

  -- of all declarations of that symbol
  module _ (symbol : ℕ) where
    abbrev test : Declared → Bool
    test = is_internal_of s G symbol

    each : (before : List Ctype) (t : Ctype) (after : List Ctype) → types_of s G (keep s G (is_internal_of s G symbol) ordinary) ≡ before ++ t ∷ after → agrees_with (W 0) s G t (all_together None before) ≡ true
    each before t after e =
        let r : TypeAt s G (keep s G test ordinary) before t = type_at s G (keep s G test ordinary) before t after e in
        let d : Declared = r.entry in
        let k : KeptAt s G test ordinary r.front d = kept_at s G test ordinary r.front d r.back r.are in
        let parts = both (nat_eq d.symbol symbol) (is_internal s G d.node) k.passes in
        let linked = (both (is_linked s G d.node) _ parts.1).0 in
        let alone = once.alone k.before d k.behind k.are linked in
        let st = once.stands d.node linked in
        let among : internal_among s G (made_before d.node ordinary) (ordinary_at s d.node) ≡ r.front =
        ap (internal_among s G (made_before d.node ordinary)) alone.1
        ∙ (ap (λ (ds : List Declared). keep s G (is_internal_of s G d.symbol) ds) alone.0
        ∙ (ap (λ (x : ℕ). keep s G (is_internal_of s G x) k.before) (eqb-true d.symbol symbol parts.0) ∙ k.kept)) in
        own_agrees d.node st.0 parts.1 linked st.1 st.2 st.3 before (ap (types_of s G) among ∙ r.types) t r.own

    agreed : AllAgree None (types_of s G (keep s G (is_internal_of s G symbol) ordinary))
    agreed = types_agreed (W 0) s G (types_of s G (keep s G test ordinary)) each

  of_leaf : (o : Option Declared) → AllAgree None (types_of s G (internal_among s G ordinary o))
  of_leaf None = tt
  of_leaf (Some d) = agreed d.symbol

  pub all_agreed : AreAgreed s senses
  all_agreed = record {
    agree = λ leaf. of_leaf (ordinary_at s leaf);
    entity = λ leaf h. entity_is s senses once leaf h (entry_at s senses once leaf h);
    entity_known = λ leaf m n h up le. entity_known s senses once leaf h (entry_at s senses once leaf h) m n up le;
    one_of = λ leaf t h own. own_in s senses once leaf h (entry_at s senses once leaf h) t own;
  }

token_has : (P : Token → Type 0) (list : List Token) (k : ℕ) (t : Token) → All P list → slice_get list k ≡ Some t → P t
token_has P list k t h e = subst P (get_or_from_slice_get list k t t e) (h k t (slice_get_within list k t e))

pub internals_agree : InternalsAgree
unfolding source_of
internals_agree tokens unit tree tag_number senses cut is are whole =
    let s : Source = numbered tag_number (source_of tokens tree) in
    let read : Tree s = tree_is tokens unit tree is tag_number in
    all_agreed s read.grown (units_nest tokens unit tree tag_number is) (units_families tokens unit tree tag_number cut is) (λ k t e. token_has (Stands tokens.text.now) tokens.list.items k t (stand tokens.text.now tokens.list.items cut) e) (units_bring tokens unit tree tag_number is)
    (initialisers_found tokens unit tree tag_number cut is) senses are whole (declared_once tokens unit tree tag_number senses cut is are whole)
