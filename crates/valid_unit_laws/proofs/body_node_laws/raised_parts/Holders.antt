-- A function's name stands before what is declared in its block.
use Rattle.std.proofs.Common.{arith, ◌≡◌, ◌∙◌, ℕ, zero, suc, ◌+◌, ◌<◌, ◌≤◌, ◌==◌, nat_eq, not, ◌&&◌, ◌||◌, ◌⊎◌, inl, inr, Bool, true, false, cond, List, [], ◌∷◌, length, map, slice_get, Option, Some, None, eq-eqb, refl, sym, ap, subst}
use Rattle.std.specs.Prelude.{is_some, option_and_then, option_map, if◌then◌else◌}
use Rattle.std.specs.List.{find}
use Rattle.std.proofs.lemmas.Bool.{eqb-true, eqb-false}
use Rattle.std.proofs.lemmas.Option.{slice_get_within}
use Rattle.c_lexer.specs.declared.Tokens.{Tokens}
use Rattle.c_lexer.specs.Cut.{IsTokens}
use Rattle.c_grammar.specs.declared.trees.Tree.{Tree}
use Rattle.c_grammar.specs.declared.trees.SyntaxNode.{SyntaxNode}
use Rattle.c_grammar.specs.Reads.{Node as TreeNode}
use Rattle.c_grammar.specs.Reads.{node_of}
use Rattle.c_grammar.specs.Productions.{p_unit, p_external, p_rest, p_field, p_declaration, p_declarator, p_either, p_abstract, p_enumerator, p_parameter, p_block, p_statement}
use Rattle.c_grammar.specs.Terminals.{contains}
use Rattle.c_parser.specs.c_units.Units.{IsUnit}
use Rattle.c_scope.specs.declared.kinds.Declared.{Declared as Declaration}
use Rattle.core_tree.specs.declared.node.Storage.TheVariants.{Automatic}
use Rattle.c_consts.specs.Core.{Core}
use Rattle.c_senses.specs.Names.{source_of, numbered, ordinary_at}
use Rattle.c_senses.specs.Tree.{Source, is_a, production_of, production_at, child_of, children_at, parent_of, first_where, above_within}
use Rattle.c_senses.specs.Sense.{Sense, IsDeclarator, Derivation, sense_in}
use Rattle.c_senses.specs.Rows.{AreSenses}
use Rattle.c_senses.specs.Declarators.{declaration_around, is_declarator, is_outermost, outermost_of}
use Rattle.c_senses.specs.Entities.{keep, first_of, internal_among, is_internal, is_internal_of, is_linked, defined_name, entity_of, function_around}
use Rattle.c_senses.specs.Right.{Declared as Declares, declared_name, core_of_sense, Within}
use Rattle.parsed_tree_laws.specs.span_laws.Spans.{Spans, Runs, over, no_more, one_more}
use Rattle.parsed_tree_laws.proofs.span_laws.Whole.{units_are_spanned}
use Rattle.declaration_laws.specs.function_laws.passed.definition_laws.scope_laws.Beneath.{Beneath, part, deeper}
use Rattle.declaration_laws.specs.function_laws.passed.definition_laws.scope_laws.Scoped.{IsPart}
use Rattle.declaration_laws.specs.function_laws.passed.definition_laws.Definitions.{is_definition, InDefinition, itself, below}
use Rattle.declaration_laws.specs.function_laws.passed.definition_laws.function_definitions.Defined.{Defines}
use Rattle.declaration_laws.proofs.function_laws.passed.definition_laws.function_definitions.Shapes.{Heads, IsFunction, own, deep}
use Rattle.declaration_laws.proofs.function_laws.passed.definition_laws.function_definitions.Reading.{heads, definitions_declare}
use Rattle.declaration_laws.proofs.function_laws.passed.definition_laws.linkage_laws.Seen.{some_same, no_both, apart, parent_is, parent_holds, list_in, node_within}
use Rattle.declaration_laws.proofs.function_laws.passed.definition_laws.linkage_laws.Linked as linked
use Rattle.declaration_laws.proofs.function_laws.passed.definition_laws.linkage_laws.Reading.{tree_is}
use Rattle.parsed_tree_laws.proofs.grown_parts.Reading.{units_bring}
use Rattle.declaration_laws.specs.name_order.Order as order
use Rattle.declaration_laws.proofs.name_order.Ordered.{units_ordered}
use Rattle.declaration_laws.specs.declared_type_laws.declared_leaves.Leaves.{IsDeclaredBy, IsNamed, Own, Inner}
use Rattle.declaration_laws.proofs.declared_type_laws.declared_leaves.Climbing.{leaves_declared}
use Rattle.core_node_laws.proofs.standing_laws.Climbing.{in_list}
use Rattle.declaration_laws.proofs.declared_type_laws.passed.owner_laws.Whole.{grown_of}
use Rattle.declaration_laws.proofs.function_laws.named_definitions.Naming.{definitions_named}
use Rattle.declaration_laws.proofs.declared_type_laws.passed.owner_laws.held_parts.Whole.{units_hold_parts}
use Rattle.declaration_laws.specs.declared_type_laws.passed.owner_laws.held_runs.Runs.{BlockWith}
use Rattle.declaration_laws.proofs.declared_type_laws.passed.owner_laws.held_runs.Whole.{climb}
use Rattle.declaration_laws.specs.declared_type_laws.passed.owner_laws.automatic_runs.Automatic.{RunsFor}
use Rattle.declaration_laws.proofs.declared_type_laws.passed.owner_laws.automatic_runs.Whole.{automatic_runs}
use Rattle.core_node_laws.specs.count_laws.Counting.{sum_below, bodies}
use Rattle.valid_unit_laws.specs.object_initialiser_laws.once_initialised.Once.{initialises}
use Rattle.valid_unit_laws.proofs.object_initialiser_laws.once_initialised.Whole.{initialised_once}
use Rattle.valid_unit_laws.proofs.body_node_laws.parts_initialise.PassedOn.{both}
use Rattle.valid_unit_laws.proofs.body_node_laws.parts_initialise.PassedOn.{stands, one_in}
use Rattle.valid_unit_laws.proofs.body_node_laws.parts_initialise.PassedOn.{child}
use Rattle.valid_unit_laws.proofs.body_node_laws.parts_initialise.PassedOn.{IsAutomatic, automatic, OwnBody, body_of}
use Rattle.valid_unit_laws.proofs.body_node_laws.parts_initialise.PassedOn.{IsBlock, IsRoot, root_counts, root_within, two_below}
use Rattle.unit_finish.proofs.Lists.{map_back}
use Rattle.valid_unit_laws.proofs.body_node_laws.parts_initialise.Stored.{BlockAt, StaysAt, lasting_root}
use Rattle.valid_unit_laws.specs.body_node_laws.raised_parts.Raised.{HoldersFirst}

and_then_some : {A B : Type 0} → (o : Option A) (k : A → Option B) (y : B) → option_and_then k o ≡ Some y → (x : A) × (o ≡ Some x) × (k x ≡ Some y)
and_then_some None k y e = cc
and_then_some (Some x) k y e = (x, refl, e)

or_parts : (a b : Bool) → (a || b) ≡ true → (a ≡ true) ⊎ (b ≡ true)
or_parts true b e = inl refl
or_parts false b e = inr e

-- ---- numbers beneath a node
module _ (s : Source) where
  mutual
    spans_le : (low i : ℕ) → Spans s low i → low ≤ i
    spans_le low i (over runs) = runs_le low (children_at s i) i runs

    runs_le : (low : ℕ) (list : List ℕ) (high : ℕ) → Runs s low list high → low ≤ high
    runs_le low list high no_more = omega arith
    runs_le low list high (one_more {c = c} {rest = rest} span runs) = let a = spans_le low c span in let b = runs_le (suc c) rest high runs in omega (arith, a, b)

  abbrev IsSpanned : ℕ → ℕ → Type 0
  IsSpanned low c = (z : ℕ) × (low ≤ z) × Spans s z c

  runs_at : (low : ℕ) (list : List ℕ) (high k c : ℕ) → Runs s low list high → slice_get list k ≡ Some c → IsSpanned low c
  runs_at low list high k c no_more at = cc
  runs_at low list high zero c (one_more {c = d} span runs) at = (low, omega arith, subst (Spans s low) (some_same at) span)
  runs_at low list high (suc k) c (one_more {c = d} {rest = rest} span runs) at = let (z, le, more) = runs_at (suc d) rest high k c runs at in (z, (let first = spans_le low d span in omega (arith, le, first)), more)

  part_at : (low p c : ℕ) → Spans s low p → IsPart s p c → IsSpanned low c
  part_at low p c (over runs) h = let (k, at) = in_list (children_at s p) c h in runs_at low (children_at s p) p k c runs at

  beneath_at : {low p x : ℕ} → Spans s low p → Beneath (IsPart s) p x → IsSpanned low x
  beneath_at {low = low} {p = p} {x = x} span (part h) = part_at low p x span h
  beneath_at {low = low} {x = x} span (deeper {i = i} b h) = let (z, le, more) = beneath_at span b in let (y, less, last) = part_at z i x more h in (y, omega (arith, le, less), last)

  beneath_low : {low p x : ℕ} → Spans s low p → Beneath (IsPart s) p x → low ≤ x
  beneath_low {x = x} span b = let (z, le, more) = beneath_at span b in let last = spans_le z x more in omega (arith, le, last)

  then_beneath : {a b c : ℕ} → Beneath (IsPart s) a b → Beneath (IsPart s) b c → Beneath (IsPart s) a c
  then_beneath h (part x) = deeper h x
  then_beneath h (deeper b x) = deeper (then_beneath h b) x

  -- what is found above
  found_up : (holds : (p c : ℕ) → parent_of s c ≡ Some p → IsPart s p c) (test : ℕ → Bool) (fuel x d : ℕ) (o : Option ℕ) → parent_of s x ≡ o → above_within s test fuel o ≡ Some d → Beneath (IsPart s) d x
  found_up holds test zero x d o up e = cc
  found_up holds test (suc fuel) x d None up e = cc
  found_up holds test (suc fuel) x d (Some p) up e = by (test p) e (λ f. found_up holds test fuel p d (parent_of s p) refl f)
    where
      by : (b : Bool) → (if b then Some p else above_within s test fuel (parent_of s p)) ≡ Some d → (above_within s test fuel (parent_of s p) ≡ Some d → Beneath (IsPart s) d p) → Beneath (IsPart s) d x
      by true f later = part (subst (λ (k : ℕ). IsPart s k x) (some_same f) (holds p x up))
      by false f later = deeper (later f) (holds p x up)

  -- the first above, where it passes
  first_up : (test : ℕ → Bool) (x p n : ℕ) → p < n → parent_of s x ≡ Some p → test p ≡ true → above_within s test n (parent_of s x) ≡ Some p
  first_up test x p zero lt up h = absurd (omega (arith, lt))
  first_up test x p (suc n) lt up h = ap (above_within s test (suc n)) up ∙ ap (λ (b : Bool). if b then Some p else above_within s test n (parent_of s p)) h

  definition_above : (a : ℕ) → InDefinition s a → (p : ℕ) × (is_definition s p ≡ true) × ((p ≡ a) ⊎ Beneath (IsPart s) p a)
  definition_above a (itself h) = (a, h, inl refl)
  definition_above a (below {p = q} at inner) = let (p, is, found) = definition_above q inner in (p, is, inr (by p found))
    where
      holds : IsPart s q a
      holds = list_in (children_at s q) at.0 a at.1

      by : (p : ℕ) → (p ≡ q) ⊎ Beneath (IsPart s) p q → Beneath (IsPart s) p a
      by p (inl same) = part (subst (λ (k : ℕ). IsPart s k a) (sym same) holds)
      by p (inr b) = deeper b holds

  -- ---- what is declared in order
  module _ (sense : ℕ → Sense) (test : Declaration → Bool) where
    rises_find : (low high g : ℕ) (ds : List Declaration) (y : Declaration) → order.Rises s low high ds → find (λ (d : Declaration). d.node == g) ds ≡ Some y → (m : ℕ) × (low ≤ m) × order.Declares s m g
    rises_find low high g [] y r e = cc
    rises_find low high g (d ∷ ds) y (m, le, at, rest) e = by (nat_eq d.node g) refl e (λ f. rises_find (m + 1) high g ds y rest f)
      where
        by : (b : Bool) → nat_eq d.node g ≡ b → cond b (Some d) (find (λ (x : Declaration). x.node == g) ds) ≡ Some y → (find (λ (x : Declaration). x.node == g) ds ≡ Some y → (k : ℕ) × (m + 1 ≤ k) × order.Declares s k g) → (k : ℕ) × (low ≤ k) × order.Declares s k g
        by true same f later = (m, le, subst (order.Declares s m) (eqb-true d.node g same) at)
        by false same f later = let (k, more, there) = later f in (k, omega (arith, le, more), there)

    first_before : (low high g l : ℕ) (ds : List Declaration) (y : Declaration) → order.Rises s low high ds → find (λ (d : Declaration). d.node == g) ds ≡ Some y → test y ≡ true
        → (m k : ℕ) × (m ≤ k) × order.Declares s m (first_of s sense l (keep s sense test ds)) × order.Declares s k g
    first_before low high g l [] y r e t = cc
    first_before low high g l (d ∷ ds) y (m, le, at, rest) e t = by (test d) refl (nat_eq d.node g) refl e (λ f. first_before (m + 1) high g l ds y rest f t)
      where
        by : (a : Bool) → test d ≡ a → (b : Bool) → nat_eq d.node g ≡ b → cond b (Some d) (find (λ (x : Declaration). x.node == g) ds) ≡ Some y
            → (find (λ (x : Declaration). x.node == g) ds ≡ Some y → (m k : ℕ) × (m ≤ k) × order.Declares s m (first_of s sense l (keep s sense test ds)) × order.Declares s k g)
            → (n k : ℕ) × (n ≤ k) × order.Declares s n (first_of s sense l (if a then d ∷ keep s sense test ds else keep s sense test ds)) × order.Declares s k g
        by true on true same f later = (m, m, omega arith, at, subst (order.Declares s m) (eqb-true d.node g same) at)
        by true on false same f later = let (k, more, there) = rises_find (m + 1) high g ds y rest f in (m, k, omega (arith, more), at, there)
        by false off true same f later = absurd (no_both (test d) (ap test (some_same f) ∙ t) off)
        by false off false same f later = later f

module _ (tokens : Tokens) (unit : ℕ) (tree : Tree) (tag_number : ℕ → ℕ) (senses : List Sense) (cut : IsTokens tokens.text.now tokens.list.items) (read : IsUnit tokens unit tree)
    (are : AreSenses (numbered tag_number (source_of tokens tree)) senses) (whole : length senses ≡ length (numbered tag_number (source_of tokens tree)).nodes)
  where
    abbrev s : Source
    s = numbered tag_number (source_of tokens tree)

    abbrev sense : ℕ → Sense
    sense i = sense_in senses i

    abbrev t : linked.Tree s
    t = tree_is tokens unit tree read tag_number

    abbrev Under : ℕ → ℕ → Type 0
    Under p c = Beneath (IsPart s) p c

    less : (p c : ℕ) → IsPart s p c → c < p
    less p c h = let (k, at) = in_list (children_at s p) c h in (grown_of tokens unit tree tag_number cut read).first p k c at

    holds : (p c : ℕ) → parent_of s c ≡ Some p → IsPart s p c
    holds p c up = parent_holds s t.grown p c up

    single : (p q c : ℕ) → IsPart s p c → IsPart s q c → p ≡ q
    single p q c h g = some_same (sym (parent_is s t.grown p c h) ∙ parent_is s t.grown q c g)

    -- the parts of a definition
    record IsHeaded (p : ℕ) : Type 0 where
      specs : ℕ
      declarator : ℕ
      rest : List ℕ
      parts : children_at s p ≡ specs ∷ declarator ∷ rest
      specs_is : production_at s specs ≡ 6
      declarator_is : production_at s declarator ≡ 19

    production_there : (items : List SyntaxNode) (k q : ℕ) (n : TreeNode) → slice_get (map node_of items) k ≡ Some n → n.production ≡ q → production_of (slice_get items k) ≡ q
    production_there items k q n at is =
        let (x, there, same) = map_back node_of items k n at in
        ap production_of there ∙ (sym (ap (λ (y : TreeNode). y.production) same) ∙ is)

    headed : (p : ℕ) → is_definition s p ≡ true → IsHeaded p
    unfolding source_of
    headed p h = by (heads tokens unit tree cut read p h)
      where
        function : (d : ℕ) → IsFunction tokens.list.items (map node_of tree.nodes.items) d → production_of (slice_get tree.nodes.items d) ≡ 19
        function d (own {n = n} stars middle at is c q m l) = production_there tree.nodes.items d 19 n at is
        function d (deep {n = n} stars suffixes at is c q s1 i s2 z) = production_there tree.nodes.items d 19 n at is

        by : Heads tokens.list.items (map node_of tree.nodes.items) (children_at s p) → IsHeaded p
        by g = record {
          specs = g.specs;
          declarator = g.declarator;
          rest = g.rest;
          parts = g.are;
          specs_is = production_there tree.nodes.items g.specs 6 g.before g.before_at g.before_is;
          declarator_is = function g.declarator g.is;
        }

    -- ---- the block that holds a declaration
    abbrev Sort : ℕ → Type 0
    Sort c = (is_a s p_declaration c ≡ true) ⊎ ((is_a s p_block c ≡ true) ⊎ (is_a s p_statement c ≡ true))

    no_unit_in : (i c : ℕ) → Under i c → is_a s p_unit c ≡ true → ⊥
    no_unit_in i c (part h) is = no_both (is_a s p_unit c) is (t.nested.units i c h)
    no_unit_in i c (deeper {i = j} b h) is = no_both (is_a s p_unit c) is (t.nested.units j c h)

    no_external_in : (p c : ℕ) → is_a s p_external p ≡ true → Under p c → is_a s p_external c ≡ true → ⊥
    no_external_in p c external (part h) is = no_both (is_a s p_unit p) (t.nested.externals p c h is) (apart s p p_external p_unit external refl)
    no_external_in p c external (deeper {i = j} b h) is = no_unit_in p j b (t.nested.externals j c h is)

    abbrev HasBlock : ℕ → ℕ → Type 0
    HasBlock p c = (q : ℕ) × IsPart s p q × (is_a s p_block q ≡ true) × ((q ≡ c) ⊎ Under q c)

    above_sort : (i c : ℕ) → IsPart s i c → Sort c → Sort i ⊎ ((is_a s p_external i ≡ true) × (is_a s p_block c ≡ true))
    above_sort i c h (inl is) = elim (or_parts (is_a s p_block i) (is_a s p_statement i) (t.nested.declarations i c h is)) [ inl b ↦ inl (inr (inl b)) | inr b ↦ inl (inr (inr b)) ]
    above_sort i c h (inr (inl is)) = elim (or_parts (is_a s p_external i) (is_a s p_statement i) (t.nested.blocks i c h is)) [ inl b ↦ inr (b, is) | inr b ↦ inl (inr (inr b)) ]
    above_sort i c h (inr (inr is)) = elim (or_parts (is_a s p_block i) (is_a s p_statement i) (t.nested.statements i c h is)) [ inl b ↦ inl (inr (inl b)) | inr b ↦ inl (inr (inr b)) ]

    no_sort : (p : ℕ) → is_a s p_external p ≡ true → Sort p → ⊥
    no_sort p external (inl is) = no_both (is_a s p_declaration p) is (apart s p p_external p_declaration external refl)
    no_sort p external (inr (inl is)) = no_both (is_a s p_block p) is (apart s p p_external p_block external refl)
    no_sort p external (inr (inr is)) = no_both (is_a s p_statement p) is (apart s p p_external p_statement external refl)

    block_above : (p c : ℕ) → is_a s p_external p ≡ true → Under p c → Sort c → HasBlock p c
    block_above p c external (part h) sort = by (above_sort p c h sort)
      where
        by : Sort p ⊎ ((is_a s p_external p ≡ true) × (is_a s p_block c ≡ true)) → HasBlock p c
        by (inl up) = absurd (no_sort p external up)
        by (inr (e, block)) = (c, h, block, inl refl)
    block_above p c external (deeper {i = i} b h) sort = by (above_sort i c h sort) (λ up. block_above p i external b up)
      where
        by : Sort i ⊎ ((is_a s p_external i ≡ true) × (is_a s p_block c ≡ true)) → (Sort i → HasBlock p i) → HasBlock p c
        by (inr (e, block)) later = absurd (no_external_in p i external b e)
        by (inl up) later = further (later up)
          where
            further : HasBlock p i → HasBlock p c
            further (q, at, block, inl same) = (q, at, block, inr (part (subst (λ (k : ℕ). IsPart s k c) (sym same) h)))
            further (q, at, block, inr more) = (q, at, block, inr (deeper more h))

    -- what is declared in the block of a definition stands behind its declarator
    behind : (p a leaf : ℕ) (g : IsHeaded p) → is_a s p_external p ≡ true → Under p a → is_a s p_declaration a ≡ true → Under a leaf → g.declarator < leaf
    behind p a leaf g external b declaration inside =
        let spanned = units_are_spanned tokens unit tree tag_number read in
        let (low, span) = spanned.each p (node_within s p_external p external refl) in
        let (q, at, block, found) = block_above p a external b (inl declaration) in
        let (z, le, more) = in_rest q at block (run low span) in
        let last = below q z a leaf more found inside in
        omega (arith, le, last)
      where
        run : (low : ℕ) → Spans s low p → Runs s low (g.specs ∷ g.declarator ∷ g.rest) p
        run low (over runs) = subst (λ (l : List ℕ). Runs s low l p) g.parts runs

        number_apart : (c k q : ℕ) → production_at s c ≡ k → is_a s q c ≡ true → nat_eq k q ≡ false → ⊥
        number_apart c k q is h off = no_both (nat_eq k q) (ap (λ (n : ℕ). nat_eq n q) (sym is) ∙ h) off

        in_rest : {low : ℕ} (q : ℕ) → IsPart s p q → is_a s p_block q ≡ true → Runs s low (g.specs ∷ g.declarator ∷ g.rest) p → (z : ℕ) × (suc g.declarator ≤ z) × Spans s z q
        in_rest q at block (one_more first (one_more second runs)) = by (in_list (children_at s p) q at)
          where
            by : (k : ℕ) × (slice_get (children_at s p) k ≡ Some q) → (z : ℕ) × (suc g.declarator ≤ z) × Spans s z q
            by (zero, e) = let same : g.specs ≡ q = some_same (sym (ap (λ (l : List ℕ). slice_get l 0) g.parts) ∙ e) in absurd (number_apart q 6 p_block (ap (production_at s) (sym same) ∙ g.specs_is) block refl)
            by (suc zero, e) = let same : g.declarator ≡ q = some_same (sym (ap (λ (l : List ℕ). slice_get l 1) g.parts) ∙ e) in absurd (number_apart q 19 p_block (ap (production_at s) (sym same) ∙ g.declarator_is) block refl)
            by (suc (suc k), e) = runs_at s (suc g.declarator) g.rest p k q runs (sym (ap (λ (l : List ℕ). slice_get l (suc (suc k))) g.parts) ∙ e)

        below : (q z a leaf : ℕ) → Spans s z q → (q ≡ a) ⊎ Under q a → Under a leaf → z ≤ leaf
        below q z a leaf span (inl same) inside = beneath_low s span (subst (λ (k : ℕ). Under k leaf) (sym same) inside)
        below q z a leaf span (inr b) inside = beneath_low s span (then_beneath s b inside)

    -- ---- names under their declarators
    named_less : {m l : ℕ} → IsNamed s m l → l < m
    named_less {m = m} {l = l} (Own at name) = less m l at
    named_less {m = m} {l = l} (Inner c at is inner) = let a = named_less inner in let b = less m c at in omega (arith, a, b)

    name_less : {m l : ℕ} → order.IsNameOf s m l → l < m
    name_less {m = m} {l = l} (order.Own at name) = less m l at
    name_less {m = m} {l = l} (order.Inner {c = c} at is inner) = let a = name_less inner in let b = less m c at in omega (arith, a, b)

    declares_less : (m l : ℕ) → order.Declares s m l → l < m
    declares_less m l (order.Enumerates is at) = less m l at
    declares_less m l (order.Names p is at which named) = name_less named

    declarator_form : (c : ℕ) → (is_a s p_declarator c || is_a s p_either c) ≡ true → is_declarator s c ≡ true
    declarator_form c h = by (is_a s p_declarator c) (is_a s p_abstract c) (is_a s p_either c) h
      where
        by : (a b d : Bool) → (a || d) ≡ true → (a || b || d) ≡ true
        by true b d e = refl
        by false true d e = refl
        by false false d e = e

    as_named : {m l : ℕ} → order.IsNameOf s m l → IsNamed s m l
    as_named (order.Own at name) = Own at name
    as_named (order.Inner {c = c} at is inner) = Inner c at (declarator_form c is) (as_named inner)

    -- what stands directly above a name is a declarator
    above_name : {m l : ℕ} → IsNamed s m l → is_declarator s m ≡ true → (c : ℕ) × IsPart s c l × (is_declarator s c ≡ true)
    above_name {m = m} (Own at name) is = (m, at, is)
    above_name (Inner c at is inner) h = above_name inner is

    quiet : (p : ℕ) → contains order.declaring (production_at s p) ≡ true → is_declarator s p ≡ false
    quiet p h = by (or_parts (p_external == production_at s p) _ h)
      where
        of_number : (q : ℕ) → (q == production_at s p) ≡ true → nat_eq q p_declarator ≡ false → nat_eq q p_abstract ≡ false → nat_eq q p_either ≡ false → is_declarator s p ≡ false
        of_number q e a b c =
            let same = eqb-true q (production_at s p) e in
            three (is_a s p_declarator p) (is_a s p_abstract p) (is_a s p_either p) (ap (λ (n : ℕ). nat_eq n p_declarator) (sym same) ∙ a) (ap (λ (n : ℕ). nat_eq n p_abstract) (sym same) ∙ b) (ap (λ (n : ℕ). nat_eq n p_either) (sym same) ∙ c)
          where
            three : (a b c : Bool) → a ≡ false → b ≡ false → c ≡ false → (a || b || c) ≡ false
            three false false false e f g = refl
            three true b c e f g = cc
            three false true c e f g = cc
            three false false true e f g = cc

        fourth : (p_parameter == production_at s p) ≡ true ⊎ (false ≡ true) → is_declarator s p ≡ false
        fourth (inl e) = of_number p_parameter e refl refl refl
        fourth (inr e) = cc

        third : (p_declaration == production_at s p) ≡ true ⊎ ((p_parameter == production_at s p) || false) ≡ true → is_declarator s p ≡ false
        third (inl e) = of_number p_declaration e refl refl refl
        third (inr e) = fourth (or_parts (p_parameter == production_at s p) false e)

        second : (p_rest == production_at s p) ≡ true ⊎ ((p_declaration == production_at s p) || ((p_parameter == production_at s p) || false)) ≡ true → is_declarator s p ≡ false
        second (inl e) = of_number p_rest e refl refl refl
        second (inr e) = third (or_parts (p_declaration == production_at s p) _ e)

        by : (p_external == production_at s p) ≡ true ⊎ ((p_rest == production_at s p) || ((p_declaration == production_at s p) || ((p_parameter == production_at s p) || false))) ≡ true → is_declarator s p ≡ false
        by (inl e) = of_number p_external e refl refl refl
        by (inr e) = second (or_parts (p_rest == production_at s p) _ e)

    outer_there : (m p : ℕ) → is_declarator s m ≡ true → IsPart s p m → is_declarator s p ≡ false → is_outermost s m ≡ true
    outer_there m p is at off =
        ap (λ (b : Bool). b && elim (parent_of s m) as (λ _. Bool) [ None ↦ true | Some q ↦ not (is_declarator s q) ]) is
        ∙ (ap (λ (o : Option ℕ). elim o as (λ _. Bool) [ None ↦ true | Some q ↦ not (is_declarator s q) ]) (parent_is s t.grown p m at) ∙ ap not off)

    long : (c p : ℕ) → IsPart s p c → c < length senses
    long c p h = subst (λ (n : ℕ). c < n) (sym whole) (inside c p (parent_is s t.grown p c h))
      where
        inside : (c p : ℕ) → parent_of s c ≡ Some p → c < length s.nodes
        inside c p up = let lt = less p c (holds p c up) in let there = bound p c (holds p c up) in omega (arith, lt, there)
          where
            bound : (p c : ℕ) → IsPart s p c → p < length s.nodes
            bound p c h = by (slice_get s.nodes p) refl h
              where
                by : (o : Option SyntaxNode) → slice_get s.nodes p ≡ o → contains (elim o as (λ _. List ℕ) [ None ↦ [] | Some x ↦ x.children.items ]) c ≡ true → p < length s.nodes
                by None e g = cc
                by (Some x) e g = slice_get_within s.nodes p x e

    -- the declarator that declares a function's name is the definition's
    declared_at : (k m g : ℕ) → order.Declares s k g → outermost_of s g ≡ Some m → IsNamed s m g → is_declarator s m ≡ true → k ≡ m
    declared_at k m g (order.Enumerates is at) outer named form =
        let (c, child_is, declarator) = above_name named form in
        let same = single k c g at child_is in
        absurd (no_both (is_declarator s c) declarator (subst (λ (x : ℕ). is_declarator s x ≡ false) same (plain k is)))
      where
        plain : (k : ℕ) → is_a s p_enumerator k ≡ true → is_declarator s k ≡ false
        plain k is = three (is_a s p_declarator k) (is_a s p_abstract k) (is_a s p_either k) (apart s k p_enumerator p_declarator is refl) (apart s k p_enumerator p_abstract is refl) (apart s k p_enumerator p_either is refl)
          where
            three : (a b c : Bool) → a ≡ false → b ≡ false → c ≡ false → (a || b || c) ≡ false
            three false false false e f g = refl
            three true b c e f g = cc
            three false true c e f g = cc
            three false false true e f g = cc
    declared_at k m g (order.Names p is at which named_k) outer named form =
        let told = leaves_declared.by_tree s senses are t.grown (units_bring tokens unit tree tag_number read) k g (long k p at) (outer_there k p (declarator_form k is) at (quiet p which)) (as_named named_k) in
        some_same (sym told.outermost ∙ outer)

    -- the entity of a function's name is known by a leaf before the end of the definition's declarator
    entity_before : (m g : ℕ) → is_linked s sense g ≡ true → outermost_of s g ≡ Some m → IsNamed s m g → is_declarator s m ≡ true → entity_of s sense g < m
    entity_before m g linked_g outer named form = let (y, at, kind, n) = linked.linked_named s t senses are whole g linked_g in by (is_internal s sense g) refl y at
      where
        found_node : (ds : List Declaration) (y : Declaration) → find (λ (d : Declaration). d.node == g) ds ≡ Some y → y.node ≡ g
        found_node [] y e = cc
        found_node (d ∷ ds) y e = pick (nat_eq d.node g) refl e (found_node ds y)
          where
            pick : (b : Bool) → nat_eq d.node g ≡ b → cond b (Some d) (find (λ (x : Declaration). x.node == g) ds) ≡ Some y → (find (λ (x : Declaration). x.node == g) ds ≡ Some y → y.node ≡ g) → y.node ≡ g
            pick true same f later = ap (λ (z : Declaration). z.node) (sym (some_same f)) ∙ eqb-true d.node g same
            pick false same f later = later f

        both_true : (a b : Bool) → a ≡ true → b ≡ true → (a && b) ≡ true
        both_true true true e f = refl
        both_true true false e f = cc
        both_true false b e f = cc

        first : (y : Declaration) → ordinary_at s g ≡ Some y → is_internal s sense g ≡ true → first_of s sense g (keep s sense (is_internal_of s sense y.symbol) s.declared.ordinary) < m
        first y at internal =
            let passes : is_internal_of s sense y.symbol y ≡ true = both_true (y.symbol == y.symbol) (is_internal s sense y.node) (eq-eqb y.symbol y.symbol refl) (subst (λ (x : ℕ). is_internal s sense x ≡ true) (sym (found_node s.declared.ordinary y at)) internal) in
            let (a, k, le, there, there_too) = first_before s sense (is_internal_of s sense y.symbol) 0 (length s.nodes) g g s.declared.ordinary y (units_ordered tokens unit tree tag_number cut read).names at passes in
            let same = declared_at k m g there_too outer named form in
            let small = declares_less a _ there in
            omega (arith, le, same, small)

        by : (b : Bool) → is_internal s sense g ≡ b → (y : Declaration) → ordinary_at s g ≡ Some y → (if b then first_of s sense g (internal_among s sense s.declared.ordinary (ordinary_at s g)) else g) < m
        by false e y at = named_less named
        by true e y at = subst (λ (o : Option Declaration). first_of s sense g (internal_among s sense s.declared.ordinary o) < m) (sym at) (first y at e)

    -- ---- what holds an automatic object's initialiser
    or_first : (a b : Bool) → a ≡ true → (a || b) ≡ true
    or_first true b e = refl
    or_first false b e = cc

    module _ (leaf d : ℕ) (object what : Declares) (x c : Core) (named_leaf : declared_name s senses leaf ≡ Some object) (auto : object.storage ≡ Automatic) (body : object.body ≡ Some x)
        (named_d : declared_name s senses d ≡ Some what) (lasts : what.storage ≡ Automatic → ⊥) (has : what.body ≡ Some c) (inside : Within s senses x c)
      where
        a : IsAutomatic tokens unit tree tag_number senses cut read are whole leaf object
        a = automatic tokens unit tree tag_number senses cut read are whole leaf object named_leaf auto

        o : OwnBody tokens unit tree tag_number senses cut read are whole leaf x
        o = body_of tokens unit tree tag_number senses cut read are whole leaf object x a body

        run : RunsFor s senses leaf x
        run = automatic_runs tokens unit tree tag_number senses cut read are whole leaf o.init x o.length_given a.declares a.storage o.declarator o.found o.is

        beneath_declaration : Under run.declaration leaf
        beneath_declaration =
            let (q, up_q, around) = and_then_some (option_and_then (parent_of s) (outermost_of s leaf)) (declaration_around s) run.declaration run.declares in
            let (m, outer, up) = and_then_some (outermost_of s leaf) (parent_of s) q up_q in
            then_beneath s (by q m (holds q m up) (is_a s p_rest q || is_a s p_field q) around) (found_up s holds (is_outermost s) (length s.nodes) leaf m (parent_of s leaf) refl outer)
          where
            by : (q m : ℕ) → IsPart s q m → (b : Bool) → (if b then parent_of s q else Some q) ≡ Some run.declaration → Under run.declaration m
            by q m at true e = deeper (part (holds run.declaration q e)) at
            by q m at false e = part (subst (λ (k : ℕ). IsPart s k m) (some_same e) at)

        -- the definition around it
        record IsAround : Type 0 where
          p : ℕ
          definition : is_definition s p ≡ true
          under : Under p run.declaration

        around : IsAround
        around = by (definition_above s run.declaration (t.defined run.declaration run.is_declaration))
          where
            by : (p : ℕ) × (is_definition s p ≡ true) × ((p ≡ run.declaration) ⊎ Under p run.declaration) → IsAround
            by (p, is, inl same) =
                absurd (no_both (is_a s p_external p) (both (is_a s p_external p) (is_some (child_of s p_block p)) is).0 (apart s p p_declaration p_external (subst (λ (k : ℕ). is_a s p_declaration k ≡ true) (sym same) run.is_declaration) refl))
            by (p, is, inr b) = record { p = p; definition = is; under = b }

        abbrev p : ℕ
        p = around.p

        external : is_a s p_external p ≡ true
        external = (both (is_a s p_external p) (is_some (child_of s p_block p)) around.definition).0

        own_block : BlockWith s senses p x
        own_block =
            climb s senses (grown_of tokens unit tree tag_number cut read) are whole (units_hold_parts tokens unit tree tag_number senses cut read are whole) p external x run.declaration around.under
            (or_first (is_a s p_declaration run.declaration) (is_a s p_statement run.declaration || is_a s p_block run.declaration) run.is_declaration) run.runs

        abbrev block : IsBlock tokens unit tree tag_number senses cut read are whole p own_block.core
        block = record {
          block = own_block.block;
          external = external;
          child = child tokens unit tree tag_number senses cut read are whole p own_block.block own_block.core around.definition own_block.part own_block.is_block own_block.sensed;
          core = ap (core_of_sense s senses) own_block.sensed;
        }

        abbrev D : ℕ → ℕ
        D = bodies (initialises leaf) s senses

        at_own : 1 ≤ D p
        at_own =
            let one = one_in leaf x own_block.core o.marks own_block.stands in
            let counts = root_counts tokens unit tree tag_number senses cut read are whole leaf p own_block.core (inl block) in
            omega (arith, one, counts)

        few : sum_below D (length s.nodes) ≤ 1
        few = initialised_once tokens unit tree tag_number senses cut read are whole leaf a.name a.unlinked

        same_root : (i : ℕ) → IsRoot tokens unit tree tag_number senses cut read are whole i c → i ≡ p
        same_root i root = by (nat_eq i p) refl
          where
            by : (b : Bool) → nat_eq i p ≡ b → i ≡ p
            by true e = eqb-true i p e
            by false e =
                let one = one_in leaf x c o.marks (stands s senses inside) in
                let counts = root_counts tokens unit tree tag_number senses cut read are whole leaf i c root in
                let own_counts = at_own in
                let two = two_below D (length s.nodes) i p (root_within tokens unit tree tag_number senses cut read are whole i c root) (root_within tokens unit tree tag_number senses cut read are whole p own_block.core (inl block)) (eqb-false i p e) in
                let all = few in
                absurd (omega (arith, one, counts, own_counts, two, all))

        -- ---- the function's name
        h : Defines s senses p
        h = definitions_declare tokens unit tree tag_number senses p cut read are whole around.definition

        g : IsHeaded p
        g = headed p around.definition

        -- the declarator in which it stands
        record HasName : Type 0 where
          m : ℕ
          derives : List Derivation
          child_is : child_of s p_declarator p ≡ Some m
          sensed : sense m ≡ IsDeclarator (Some h.name) derives

        name : HasName
        name =
            let (m, child_is, told) = and_then_some (child_of s p_declarator p) (λ d. elim (sense d) as (λ _. Option ℕ) [ IsDeclarator n xs ↦ n | _ ↦ None ]) h.name h.named in
            let (ds, sensed) = by (sense m) told in
            record { m = m; derives = ds; child_is = child_is; sensed = sensed }
          where
            by : (y : Sense) → (elim y as (λ _. Option ℕ) [ IsDeclarator n xs ↦ n | _ ↦ None ]) ≡ Some h.name → (ds : List Derivation) × (y ≡ IsDeclarator (Some h.name) ds)
            by (IsDeclarator n xs) e = (xs, ap (λ (o : Option ℕ). IsDeclarator o xs) e)
            by y e = cc

        is_head : name.m ≡ g.declarator
        is_head = some_same (sym name.child_is ∙ (ap (first_where (is_a s p_declarator)) g.parts ∙ pick (is_a s p_declarator g.specs) (is_a s p_declarator g.declarator) (ap (λ (n : ℕ). nat_eq n p_declarator) g.specs_is) (ap (λ (n : ℕ). nat_eq n p_declarator) g.declarator_is)))
          where
            pick : (a b : Bool) → a ≡ false → b ≡ true → (if a then Some g.specs else (if b then Some g.declarator else first_where (is_a s p_declarator) g.rest)) ≡ Some g.declarator
            pick false true e f = refl
            pick true b e f = cc
            pick false false e f = cc

        in_definition : IsPart s p name.m
        in_definition = subst (λ (k : ℕ). IsPart s p k) (sym is_head) (list_in (children_at s p) 1 g.declarator (ap (λ (l : List ℕ). slice_get l 1) g.parts))

        form : is_declarator s name.m ≡ true
        form = declarator_form name.m (or_first (is_a s p_declarator name.m) (is_a s p_either name.m) (ap (λ (n : ℕ). nat_eq n p_declarator) (ap (production_at s) is_head ∙ g.declarator_is)))

        no_form : is_declarator s p ≡ false
        no_form = three (is_a s p_declarator p) (is_a s p_abstract p) (is_a s p_either p) (apart s p p_external p_declarator external refl) (apart s p p_external p_abstract external refl) (apart s p p_external p_either external refl)
          where
            three : (a b c : Bool) → a ≡ false → b ≡ false → c ≡ false → (a || b || c) ≡ false
            three false false false e f g = refl
            three true b c e f g = cc
            three false true c e f g = cc
            three false false true e f g = cc

        declared : IsDeclaredBy s senses name.m h.name
        declared = leaves_declared.by_sense s senses are t.grown (units_bring tokens unit tree tag_number read) name.m h.name name.derives (long name.m p in_definition) (outer_there name.m p form in_definition no_form) name.sensed

        entity_less : entity_of s sense h.name < leaf
        entity_less =
            let before = entity_before name.m h.name h.linked declared.outermost declared.named form in
            let after = behind p run.declaration leaf g external around.under run.is_declaration beneath_declaration in
            let same = is_head in
            omega (arith, before, after, same)

        around_block : function_around s sense block.block ≡ Some h.name
        around_block =
            let up : parent_of s block.block ≡ Some p = parent_is s t.grown p block.block own_block.part in
            ap (option_and_then (defined_name s sense)) (first_up s (is_definition s) block.block p (length s.nodes) (node_within s p_external p external refl) up around.definition) ∙ h.named

        of_block : BlockAt tokens unit tree tag_number senses cut read are whole d p c → d < leaf
        of_block b =
            let known = definitions_named tokens unit tree tag_number senses cut read are whole d b.block.block b.declares b.defined b.is_for in
            let one : b.block.block ≡ block.block = some_same (sym b.block.child ∙ block.child) in
            let same : entity_of s sense h.name ≡ d = some_same (sym (ap (option_map (entity_of s sense)) (ap (function_around s sense) one ∙ around_block)) ∙ known) in
            subst (λ (k : ℕ). k < leaf) same entity_less

        pub holder_first : d < leaf
        holder_first = let (i, root) = lasting_root tokens unit tree tag_number senses cut read are whole d what c named_d has lasts in by i root
          where
            by : (i : ℕ) → BlockAt tokens unit tree tag_number senses cut read are whole d i c ⊎ StaysAt tokens unit tree tag_number senses cut read are whole d i c → d < leaf
            by i (inl b) = of_block (subst (λ (k : ℕ). BlockAt tokens unit tree tag_number senses cut read are whole d k c) (same_root i (inl b.block)) b)
            by i (inr b) =
                let same = same_root i (inr b.stays) in
                absurd (no_both (is_a s p_external i) (subst (λ (k : ℕ). is_a s p_external k ≡ true) (sym same) external) (apart s i p_rest p_external b.stays.rest refl))

pub holders_first : (tokens : Tokens) (unit : ℕ) (tree : Tree) (tag_number : ℕ → ℕ) (senses : List Sense) → IsTokens tokens.text.now tokens.list.items → IsUnit tokens unit tree
    → AreSenses (numbered tag_number (source_of tokens tree)) senses → length senses ≡ length (numbered tag_number (source_of tokens tree)).nodes → HoldersFirst (numbered tag_number (source_of tokens tree)) senses
holders_first tokens unit tree tag_number senses cut read are whole leaf d object what x c named_leaf auto body named_d lasts has inside =
    holder_first tokens unit tree tag_number senses cut read are whole leaf d object what x c named_leaf auto body named_d lasts has inside
