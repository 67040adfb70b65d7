-- What stands in blocks stands in a definition, which is found.
use Rattle.std.proofs.Common.{arith, ◌≡◌, ◌==◌, ◌<◌, ◌≤◌, ◌+◌, ℕ, zero, suc, Bool, true, false, ◌&&◌, ◌||◌, List, [], ◌∷◌, map, Option, Some, None, length, slice_get, refl, sym, ap, ◌∙◌, subst}
use Rattle.std.specs.Prelude.{nat_eq, is_some, if◌then◌else◌}
use Rattle.std.proofs.lemmas.Bool.{eqb-true, eq-eqb}
use Rattle.std.proofs.lemmas.Option.{slice_get_within}
use Rattle.c_grammar.specs.declared.trees.SyntaxNode.{SyntaxNode}
use Rattle.c_grammar.specs.Productions.{p_external, p_block}
use Rattle.c_grammar.specs.Reads.{Node, node_of}
use Rattle.c_grammar.specs.Terminals.{contains}
use Rattle.c_senses.specs.Names.{source_of, numbered}
use Rattle.c_senses.specs.Tree.{Source, is_a, children_at, children_of, child_of, parent_of, nearest_above, above_within, first_where, numbers_from, production_at, production_of}
use Rattle.core_node_laws.specs.count_laws.passed.parsed_tree_laws.member_names.PassedOn.{IsChild, Families}
use Rattle.core_node_laws.proofs.count_laws.passed.parsed_tree_laws.member_names.PassedOn.{units_families}
use Rattle.core_node_laws.specs.count_laws.passed.parsed_tree_laws.member_names.Differ.{InOrder}
use Rattle.core_node_laws.proofs.count_laws.passed.parsed_tree_laws.member_names.Order.{units_in_order}
use Rattle.declaration_laws.specs.definition_laws.Definitions.{is_definition, InDefinition, itself, below, is_block_part, BlockPartsAreDefined, HasDefinition, DefinitionsAreFound}
use Rattle.declaration_laws.proofs.definition_laws.Covering.{Beneath, top, under, parts, all_beneath}

node_there : (items : List SyntaxNode) (k : ℕ) (n : Node) → slice_get (map node_of items) k ≡ Some n → (m : SyntaxNode) × (slice_get items k ≡ Some m) × (node_of m ≡ n)
node_there [] k n e = cc
node_there (x ∷ items) zero n e = let f : node_of x ≡ n = cc in (x, refl, f)
node_there (x ∷ items) (suc k) n e = node_there items k n e

there_node : (items : List SyntaxNode) (k : ℕ) (n : SyntaxNode) → slice_get items k ≡ Some n → slice_get (map node_of items) k ≡ Some (node_of n)
there_node [] k n e = cc
there_node (x ∷ items) zero n e = let same : x ≡ n = cc in ap (λ (m : SyntaxNode). Some (node_of m)) same
there_node (x ∷ items) (suc k) n e = there_node items k n e

some_passes : (test : ℕ → Bool) (cs : List ℕ) (r c : ℕ) → slice_get cs r ≡ Some c → test c ≡ true → is_some (first_where test cs) ≡ true
some_passes test [] r c e h = cc
some_passes test (x ∷ cs) zero c e h = let same : x ≡ c = cc in ap (λ (b : Bool). is_some (if b then Some x else first_where test cs)) (ap test same ∙ h)
some_passes test (x ∷ cs) (suc r) c e h = by (test x) (some_passes test cs r c e h)
  where
    by : (b : Bool) → is_some (first_where test cs) ≡ true → is_some (if b then Some x else first_where test cs) ≡ true
    by true h = refl
    by false h = h

both : (a b : Bool) → a ≡ true → b ≡ true → (a && b) ≡ true
both true b e f = f
both false b e f = cc

in_list : (list : List ℕ) (i : ℕ) → contains list i ≡ true → (k : ℕ) × (slice_get list k ≡ Some i)
in_list [] i h = cc
in_list (x ∷ list) i h = by (in_list list i) (x == i) refl h
  where
    by : (contains list i ≡ true → (k : ℕ) × (slice_get list k ≡ Some i)) → (b : Bool) → (x == i) ≡ b → (b || contains list i) ≡ true → (k : ℕ) × (slice_get (x ∷ list) k ≡ Some i)
    by rest true e h = (0, ap Some (eqb-true x i e))
    by rest false e h = let more = rest h in (suc more.0, more.1)

list_in : (list : List ℕ) (k i : ℕ) → slice_get list k ≡ Some i → contains list i ≡ true
list_in [] k i h = cc
list_in (x ∷ list) zero i h = let same : x ≡ i = cc in ap (λ (b : Bool). b || contains list i) (eq-eqb x i same)
list_in (x ∷ list) (suc k) i h = by (x == i) (list_in list k i h)
  where
    by : (b : Bool) → contains list i ≡ true → (b || contains list i) ≡ true
    by true e = refl
    by false e = e

some_found : (test : ℕ → Bool) (k n j : ℕ) → k ≤ j → j < k + n → test j ≡ true → (i : ℕ) × (first_where test (numbers_from k n) ≡ Some i) × (test i ≡ true)
some_found test k zero j low high h = absurd (omega (arith, low, high))
some_found test k (suc n) j low high h = by (λ l. some_found test (suc k) n j l (omega (arith, high)) h) (test k) refl
  where
    differs : test k ≡ false → k ≡ j → ⊥
    differs e same = let f : test k ≡ true = ap test same ∙ h in cc

    by : (suc k ≤ j → (i : ℕ) × (first_where test (numbers_from (suc k) n) ≡ Some i) × (test i ≡ true)) → (b : Bool) → test k ≡ b → (i : ℕ) × ((if b then Some k else first_where test (numbers_from (suc k) n)) ≡ Some i) × (test i ≡ true)
    by rest true e = (k, refl, e)
    by rest false e = let apart = differs e in rest (omega (arith, low, apart))

none_is_some : {X : Type 0} → {x : X} → ◌≡◌ {A = Option X} None (Some x) → ⊥
none_is_some h = cc

some_same : {X : Type 0} → {x y : X} → ◌≡◌ {A = Option X} (Some x) (Some y) → x ≡ y
some_same h = cc

found_passes : (test : ℕ → Bool) (xs : List ℕ) (c : ℕ) → first_where test xs ≡ Some c → test c ≡ true
found_passes test [] c e = absurd (none_is_some e)
found_passes test (x ∷ xs) c e = by (test x) refl e (found_passes test xs c)
  where
    by : (b : Bool) → test x ≡ b → (if b then Some x else first_where test xs) ≡ Some c → (first_where test xs ≡ Some c → test c ≡ true) → test c ≡ true
    by true h f rest = ap test (sym (some_same f)) ∙ h
    by false h f rest = rest f

child_inside : (o : Option SyntaxNode) (nodes : List SyntaxNode) (p k c : ℕ) → slice_get nodes p ≡ o → slice_get (children_of o) k ≡ Some c → p < length nodes
child_inside None nodes p k c e h = cc
child_inside (Some n) nodes p k c e h = slice_get_within nodes p n e

-- ---- a tree's nodes

module _ (s : Source) where
  child_is : (p r c : ℕ) (m : SyntaxNode) → slice_get s.nodes p ≡ Some m → slice_get m.children.items r ≡ Some c → IsChild s p c
  child_is p r c m e h = (r, ap (λ (o : Option SyntaxNode). slice_get (children_of o) r) e ∙ h)

  is_there : (q k : ℕ) (m : SyntaxNode) → slice_get s.nodes k ≡ Some m → m.production ≡ q → is_a s q k ≡ true
  is_there q k m e is = eq-eqb (production_at s k) q (ap production_of e ∙ is)

  in_definition : (d : ℕ) → Beneath (map node_of s.nodes) d → InDefinition s d
  in_definition d (top {n = n} e is block) =
      let m = node_there s.nodes d n e in
      let child = node_there s.nodes block.0 block.2.0 block.2.1 in
      let here = is_there p_external d m.0 m.1 (ap (λ (x : Node). x.production) m.2 ∙ is) in
      let there = is_there p_block block.0 child.0 child.1 (ap (λ (x : Node). x.production) child.2 ∙ block.2.2) in
      let at : slice_get (children_at s d) block.1.0 ≡ Some block.0 = ap (λ (o : Option SyntaxNode). slice_get (children_of o) block.1.0) m.1 ∙ (ap (λ (x : Node). slice_get x.children block.1.0) m.2 ∙ block.1.1) in
      itself (both (is_a s p_external d) (is_some (child_of s p_block d)) here (some_passes (is_a s p_block) (children_at s d) block.1.0 block.0 at there))
  in_definition d (under {i = i} {n = n} e h above) =
      let m = node_there s.nodes i n e in
      below (child_is i h.0 d m.0 m.1 (ap (λ (x : Node). slice_get x.children h.0) m.2 ∙ h.1)) (in_definition i above)

  part_listed : (q : ℕ) → (nat_eq q 3 || (nat_eq q 29 || nat_eq q 30)) ≡ true → contains parts q ≡ true
  part_listed q h = by (nat_eq q 3) (nat_eq q 29) (nat_eq q 30) refl refl refl h
    where
      by : (x y z : Bool) → nat_eq q 3 ≡ x → nat_eq q 29 ≡ y → nat_eq q 30 ≡ z → (x || (y || z)) ≡ true → contains parts q ≡ true
      by true y z a b c e = subst (λ (k : ℕ). contains parts k ≡ true) (sym (eqb-true q 3 a)) refl
      by false true z a b c e = subst (λ (k : ℕ). contains parts k ≡ true) (sym (eqb-true q 29 b)) refl
      by false false true a b c e = subst (λ (k : ℕ). contains parts k ≡ true) (sym (eqb-true q 30 c)) refl
      by false false false a b c e = cc

  part_there : (i : ℕ) → is_block_part s i ≡ true → (m : SyntaxNode) × (slice_get s.nodes i ≡ Some m) × (contains parts m.production ≡ true)
  part_there i h = by (slice_get s.nodes i) refl (part_listed (production_at s i) h)
    where
      by : (o : Option SyntaxNode) → slice_get s.nodes i ≡ o → contains parts (production_of o) ≡ true → (m : SyntaxNode) × (slice_get s.nodes i ≡ Some m) × (contains parts m.production ≡ true)
      by None e is = cc
      by (Some m) e is = (m, e, is)

  above_none : (test : ℕ → Bool) (fuel : ℕ) → above_within s test fuel None ≡ None
  above_none test zero = refl
  above_none test (suc fuel) = refl

  module _ (order : InOrder s) (families : Families s) where
    pub parent_is : (p c : ℕ) → IsChild s p c → parent_of s c ≡ Some p
    parent_is p c h =
        let inside : p < length s.nodes = child_inside (slice_get s.nodes p) s.nodes p h.0 c refl h.1 in
        let first = some_found (λ q. contains (children_at s q) c) 0 (length s.nodes) p (omega arith) (omega (arith, inside)) (list_in (children_at s p) h.0 c h.1) in
        let other = in_list (children_at s first.0) c first.2 in
        let same : first.0 ≡ p = families.single first.0 p c other h in
        first.1 ∙ ap Some same

    -- the way up is long enough
    found_above : (fuel p : ℕ) → InDefinition s p → p < length s.nodes → length s.nodes ≤ p + fuel → (d : ℕ) × (above_within s (is_definition s) fuel (Some p) ≡ Some d) × (is_definition s d ≡ true)
    found_above zero p h inside enough = absurd (omega (arith, inside, enough))
    found_above (suc fuel) p h inside enough = by (is_definition s p) refl h (λ q child more. found_above fuel q more (child_inside (slice_get s.nodes q) s.nodes q child.0 p refl child.1) (let lt = order.below q p child in omega (arith, lt, enough)))
      where
        by : (b : Bool) → is_definition s p ≡ b → InDefinition s p → ((q : ℕ) → IsChild s q p → InDefinition s q → (d : ℕ) × (above_within s (is_definition s) fuel (Some q) ≡ Some d) × (is_definition s d ≡ true))
            → (d : ℕ) × ((if b then Some p else above_within s (is_definition s) fuel (parent_of s p)) ≡ Some d) × (is_definition s d ≡ true)
        by true e h rest = (p, refl, e)
        by false e (itself is) rest = absurd (let never : true ≡ false = sym is ∙ e in cc)
        by false e (below {p = q} child more) rest = let g = rest q child more in (g.0, ap (above_within s (is_definition s) fuel) (parent_is q p child) ∙ g.1, g.2)

    pub has_definition : (p c : ℕ) → IsChild s p c → InDefinition s p → HasDefinition s c
    has_definition p c child h =
        let inside : p < length s.nodes = child_inside (slice_get s.nodes p) s.nodes p child.0 c refl child.1 in
        let g = found_above (length s.nodes) p h inside (omega arith) in
        record { definition = g.0; nearest = ap (above_within s (is_definition s) (length s.nodes)) (parent_is p c child) ∙ g.1; is = g.2 }

    -- from a node above one that is or stands in a definition down to it
    pub child_of_parent : (c p : ℕ) → parent_of s c ≡ Some p → IsChild s p c
    child_of_parent c p e = let h = found_passes (λ q. contains (children_at s q) c) (numbers_from 0 (length s.nodes)) p e in in_list (children_at s p) c h

    down_from : (test : ℕ → Bool) (fuel d p : ℕ) → above_within s test fuel (Some p) ≡ Some d → InDefinition s d → InDefinition s p
    down_from test zero d p e h = absurd (none_is_some e)
    down_from test (suc fuel) d p e h = by (test p) (parent_of s p) refl e (λ q g. down_from test fuel d q g h)
      where
        by : (b : Bool) (o : Option ℕ) → parent_of s p ≡ o → (if b then Some p else above_within s test fuel (parent_of s p)) ≡ Some d → ((q : ℕ) → above_within s test fuel (Some q) ≡ Some d → InDefinition s q) → InDefinition s p
        by true o up e rest = subst (InDefinition s) (sym (some_same e)) h
        by false None up e rest = absurd (none_is_some (sym (above_none test fuel) ∙ (sym (ap (above_within s test fuel) up) ∙ e)))
        by false (Some q) up e rest = below (child_of_parent p q up) (rest q (sym (ap (above_within s test fuel) up) ∙ e))

    pub reach_down : (test : ℕ → Bool) (i d : ℕ) → nearest_above s test i ≡ Some d → InDefinition s d → (p : ℕ) × (parent_of s i ≡ Some p) × InDefinition s p
    reach_down test i d e h = by (parent_of s i) refl e
      where
        by : (o : Option ℕ) → parent_of s i ≡ o → above_within s test (length s.nodes) (parent_of s i) ≡ Some d → (p : ℕ) × (parent_of s i ≡ Some p) × InDefinition s p
        by None up e = absurd (none_is_some (sym (above_none test (length s.nodes)) ∙ (sym (ap (above_within s test (length s.nodes)) up) ∙ e)))
        by (Some p) up e = (p, up, down_from test (length s.nodes) d p (sym (ap (above_within s test (length s.nodes)) up) ∙ e) h)

pub block_parts : BlockPartsAreDefined
unfolding source_of
block_parts tokens unit tree tag_number i read is =
    let s = numbered tag_number (source_of tokens tree) in
    let m = part_there s i is in
    in_definition s i (all_beneath tokens unit tree read i (node_of m.0) (there_node tree.nodes.items i m.0 m.1) m.2)

pub definitions : DefinitionsAreFound
definitions tokens unit tree tag_number p c cut read child h =
    has_definition (numbered tag_number (source_of tokens tree)) (units_in_order tokens unit tree tag_number read) (units_families tokens unit tree tag_number cut read) p c child h
