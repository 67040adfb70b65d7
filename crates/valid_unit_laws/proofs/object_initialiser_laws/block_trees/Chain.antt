-- From a block up to the function's.
use Rattle.std.proofs.Common.{arith, ◌≡◌, ◌<◌, ◌||◌, nat_eq, ℕ, Bool, true, false, List, length, slice_get, refl, sym, ◌∙◌, subst, ◌⊎◌, inl, inr}
use Rattle.std.proofs.lemmas.Bool.{eqb-true, eqb-false}
use Rattle.c_lexer.specs.declared.Tokens.{Tokens}
use Rattle.c_lexer.specs.Cut.{IsTokens}
use Rattle.c_grammar.specs.declared.trees.Tree.{Tree}
use Rattle.c_grammar.specs.Productions.{p_unit, p_external, p_block, p_statement, p_expression}
use Rattle.c_parser.specs.c_units.Units.{IsUnit}
use Rattle.core_tree.specs.Rows.{Has}
use Rattle.c_consts.specs.Core.{Core, Of, kind_of}
use Rattle.c_senses.specs.Names.{source_of, numbered}
use Rattle.c_senses.specs.Tree.{Source, children_at, is_a}
use Rattle.c_senses.specs.Given.{Given}
use Rattle.c_senses.specs.Sense.{Sense, sense_in}
use Rattle.c_senses.specs.Rows.{AreSenses}
use Rattle.core_node_laws.specs.near_nodes.Holding.{OfSense}
use Rattle.core_node_laws.proofs.near_nodes.Giving.{Gives}
use Rattle.declaration_laws.specs.declared_type_laws.owner_laws.passed.definition_laws.scope_laws.Beneath.{Beneath, part, deeper}
use Rattle.declaration_laws.specs.declared_type_laws.owner_laws.passed.definition_laws.scope_laws.Scoped.{IsPart}
use Rattle.declaration_laws.proofs.declared_type_laws.owner_laws.passed.definition_laws.scope_laws.Tree.{further, compare, Order}
use Rattle.core_node_laws.specs.standing_laws.Standing.{IsGrown}
use Rattle.core_node_laws.proofs.standing_laws.Climbing.{in_list, list_in, child_inside}
use Rattle.core_node_laws.proofs.standing_laws.Descending.{F, W, row_there, sense_before}
use Rattle.declaration_laws.proofs.declared_type_laws.owner_laws.Whole.{grown_of}
use Rattle.declaration_laws.proofs.declared_type_laws.owner_laws.passed.definition_laws.linkage_laws.Seen.{no_both, apart}
use Rattle.declaration_laws.proofs.declared_type_laws.owner_laws.passed.definition_laws.linkage_laws.Linked as linked
use Rattle.declaration_laws.proofs.declared_type_laws.owner_laws.passed.definition_laws.linkage_laws.Reading.{tree_is}
use Rattle.valid_unit_laws.specs.object_initialiser_laws.block_trees.Covered.{ListsIt, Covered, IsBlockOf, BlocksCover}
use Rattle.valid_unit_laws.proofs.object_initialiser_laws.block_trees.Off.{Off, IsBlockish, Above, smaller, up_one, above_blocks}
use Rattle.valid_unit_laws.proofs.object_initialiser_laws.block_trees.Free.{IsFree, off_free, blockish}
use Rattle.valid_unit_laws.proofs.object_initialiser_laws.block_trees.Rows.{CoveredSense, sense_covered, statement_covered, block_covered}

decide : (x y : ℕ) → (x ≡ y) ⊎ (x ≡ y → ⊥)
decide x y = by (nat_eq x y) refl
  where
    by : (b : Bool) → nat_eq x y ≡ b → (x ≡ y) ⊎ (x ≡ y → ⊥)
    by true e = inl (eqb-true x y e)
    by false e = inr (eqb-false x y e)

listed_covered : (d : ℕ) (c : Core) → ListsIt d (kind_of c) → Covered d c
listed_covered d (Of kind place type under) h = inl h

module _
    (tokens : Tokens) (unit : ℕ) (tree : Tree) (tag_number : ℕ → ℕ) (senses : List Sense) (cut : IsTokens tokens.text.now tokens.list.items) (is : IsUnit tokens unit tree) (are : AreSenses (numbered tag_number (source_of tokens tree)) senses)
    (whole : length senses ≡ length (numbered tag_number (source_of tokens tree)).nodes) (p block b leaf : ℕ) (own : IsBlockOf (numbered tag_number (source_of tokens tree)) senses p block b leaf)
  where
    abbrev s : Source
    s = numbered tag_number (source_of tokens tree)

    abbrev t : linked.Tree s
    t = tree_is tokens unit tree is tag_number

    grown : IsGrown s
    grown = grown_of tokens unit tree tag_number cut is

    abbrev O : ℕ → Type 0
    O i = Off s t.grown t.nested block b i

    abbrev Down : ℕ → ℕ → Type 0
    Down a c = Beneath (IsPart s) a c

    abbrev B : ℕ → Type 0
    B i = IsBlockish s t.grown t.nested block b i

    abbrev On : ℕ → Type 0
    On c = (c ≡ b) ⊎ Down c b

    less : (a c : ℕ) → Down a c → c < a
    less a c d = smaller s t.grown t.nested block b a c d

    up : (a i c : ℕ) → IsPart s i c → Down a c → (a ≡ i) ⊎ Down a i
    up a i c r d = up_one s t.grown t.nested block b a i c r d

    -- a part isn't above its node
    no_round : (i c : ℕ) → IsPart s i c → (c ≡ i) ⊎ Down c i → ⊥
    no_round i c r (inl same) = let lt = t.grown.before i c r in omega (arith, lt, same)
    no_round i c r (inr d) = let lt = t.grown.before i c r in let more = less c i d in omega (arith, lt, more)

    -- a part beside the one towards the block
    beside : (i c x : ℕ) → IsPart s i c → IsPart s i x → On c → Down block x → (x ≡ c → ⊥) → O x
    beside i c x rc rx on down differ = (down, no_block on, no_lower on, no_upper on)
      where
        no_block : On c → x ≡ b → ⊥
        no_block (inl same) e = differ (e ∙ sym same)
        no_block (inr d) e = no_round i c rc (up c i b (subst (λ (k : ℕ). IsPart s i k) e rx) d)

        over : On c → (b ≡ i) ⊎ Down b i → ⊥
        over (inl same) h = no_round i b (subst (λ (k : ℕ). IsPart s i k) same rc) h
        over (inr d) (inl e) = no_round i c rc (inr (subst (λ (k : ℕ). Down c k) e d))
        over (inr d) (inr h) = no_round i c rc (inr (further (IsPart s) c b i d h))

        no_lower : On c → Down b x → ⊥
        no_lower on h = over on (up b i x rx h)

        order : Order (IsPart s) x c → ⊥
        order (inl same) = differ same
        order (inr (inl d)) = no_round i x rx (up x i c rc d)
        order (inr (inr d)) = no_round i c rc (up c i x rx d)

        no_upper : On c → Down x b → ⊥
        no_upper (inl same) h = no_round i x rx (up x i b (subst (λ (k : ℕ). IsPart s i k) same rc) h)
        no_upper (inr d) h = order (compare (IsPart s) t.grown.once x c b h d)

    own_blockish : B b
    own_blockish = blockish tokens unit tree tag_number senses cut is are p block b leaf own

    -- what stands above a block and below another one is a block or a statement
    pub on_blockish : (c : ℕ) → On c → Down block c → B c
    on_blockish c (inl same) down = subst B (sym same) own_blockish
    on_blockish c (inr d) down = by (above_blocks s t.grown t.nested block b c b d (inl own_blockish))
      where
        no_unit : (i x : ℕ) → IsPart s i x → is_a s p_unit x ≡ true → ⊥
        no_unit i x r e = no_both (is_a s p_unit x) e (t.nested.units i x r)

        no_external : Down block c → is_a s p_external c ≡ true → ⊥
        no_external (part r) e = no_both (is_a s p_unit block) (t.nested.externals block c r e) (apart s block p_block p_unit own.is_block refl)
        no_external (deeper {i = i} (part q) r) e = no_unit block i q (t.nested.externals i c r e)
        no_external (deeper {i = i} (deeper {i = j} f q) r) e = no_unit j i q (t.nested.externals i c r e)

        unit_part : Down block c → is_a s p_unit c ≡ true → ⊥
        unit_part (part r) e = no_unit block c r e
        unit_part (deeper {i = i} f r) e = no_unit i c r e

        by : Above s t.grown t.nested block b c → B c
        by (inl h) = h
        by (inr (inl h)) = absurd (no_external down h)
        by (inr (inr h)) = absurd (unit_part down h)

    no_expression : (c : ℕ) → B c → is_a s p_expression c ≡ true → ⊥
    no_expression c h e = pick (is_a s p_block c) (is_a s p_statement c) refl refl h
      where
        pick : (x y : Bool) → is_a s p_block c ≡ x → is_a s p_statement c ≡ y → (x || y) ≡ true → ⊥
        pick true y ex ey k = no_both (is_a s p_block c) ex (apart s c p_expression p_block e refl)
        pick false true ex ey k = no_both (is_a s p_statement c) ey (apart s c p_expression p_statement e refl)
        pick false false ex ey k = cc

    -- one step up
    module _ (i c : ℕ) (r : IsPart s i c) (on : On c) (below : (x : ℕ) → IsPart s i x → Down block x) (h : CoveredSense leaf (sense_in senses c)) where
      abbrev f : ℕ → Sense
      f = F s senses grown are whole i

      inside : i < length senses
      inside = let k = in_list (children_at s i) c r in let lt = child_inside (slice_get s.nodes i) s.nodes i k.0 c refl k.1 in omega (arith, lt, whole)

      before : (x : ℕ) → Has (children_at s i) x → f x ≡ sense_in senses x
      before x has = sense_before s senses grown are whole i x (grown.first i has.0 x has.1)

      part_of : (x : ℕ) → Has (children_at s i) x → IsPart s i x
      part_of x has = list_in (children_at s i) has.0 x has.1

      free : (x : ℕ) → Has (children_at s i) x → (x ≡ c → ⊥) → OfSense s O (IsFree leaf) (f x)
      free x has differ =
          subst (λ (y : Sense). OfSense s O (IsFree leaf) y) (sym (before x has))
          (off_free tokens unit tree tag_number senses cut is are p block b leaf own x (beside i c x r (part_of x has) on (below x (part_of x has)) differ))

      each : (x : ℕ) → Has (children_at s i) x → CoveredSense leaf (f x)
      each x has = by (decide x c)
        where
          by : (x ≡ c) ⊎ (x ≡ c → ⊥) → CoveredSense leaf (f x)
          by (inl same) = subst (λ (y : Sense). CoveredSense leaf y) (sym (before x has)) (subst (λ (k : ℕ). CoveredSense leaf (sense_in senses k)) (sym same) h)
          by (inr differ) = sense_covered leaf s O (f x) (free x has differ)

      values : (x : ℕ) → Has (children_at s i) x → is_a s p_expression x ≡ true → OfSense s O (IsFree leaf) (f x)
      values x has expression = free x has (λ same. no_expression c (on_blockish c on (below c r)) (subst (λ (k : ℕ). is_a s p_expression k ≡ true) same expression))

      step : B i → CoveredSense leaf (sense_in senses i)
      step kind = by (is_a s p_block i) (is_a s p_statement i) refl refl kind
        where
          by : (x y : Bool) → is_a s p_block i ≡ x → is_a s p_statement i ≡ y → (x || y) ≡ true → CoveredSense leaf (sense_in senses i)
          by true y ex ey e =
              subst (λ (g : Given Sense). Gives (CoveredSense leaf) g) (row_there s senses grown are whole i p_block inside ex) (block_covered leaf (W s senses grown are whole i) s f O i (children_at s i) each values)
          by false true ex ey e =
              subst (λ (g : Given Sense). Gives (CoveredSense leaf) g) (row_there s senses grown are whole i p_statement inside ey) (statement_covered leaf (W s senses grown are whole i) s f O i (children_at s i) each values)
          by false false ex ey e = cc

    block_kind : B block
    block_kind = by (is_a s p_block block) (is_a s p_statement block) own.is_block
      where
        by : (x y : Bool) → x ≡ true → (x || y) ≡ true
        by true y e = refl
        by false y e = cc

    climb : (c : ℕ) → Down block c → On c → CoveredSense leaf (sense_in senses c) → CoveredSense leaf (sense_in senses block)
    climb c (part r) on h = step block c r on (λ x q. part q) h block_kind
    climb c (deeper {i = i} d r) on h = climb i d (inr (higher on)) (step i c r on (λ x q. deeper d q) h (on_blockish i (inr (higher on)) d))
      where
        higher : On c → Down i b
        higher (inl same) = part (subst (λ (k : ℕ). IsPart s i k) same r)
        higher (inr e) = further (IsPart s) i c b (part r) e

    all : CoveredSense leaf (sense_in senses block)
    all = climb b own.within (inl refl) (subst (λ (x : Sense). CoveredSense leaf x) (sym own.sensed) (listed_covered leaf own.core own.lists))

pub blocks_cover : BlocksCover
blocks_cover tokens unit tree tag_number senses cut is are whole p block b leaf own core sensed =
    subst (λ (x : Sense). CoveredSense leaf x) sensed (all tokens unit tree tag_number senses cut is are whole p block b leaf own)
