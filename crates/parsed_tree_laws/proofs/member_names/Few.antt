-- A tag has no more members than the text has tokens.
use Rattle.std.proofs.Common.{arith, ◌≡◌, ◌<◌, ◌≤◌, ◌+◌, ℕ, zero, suc, true, List, [], ◌∷◌, map, Option, Some, None, length, length-append, slice_get, take, refl, sym, ap, subst, ◌⊎◌, inl, inr}
use Rattle.std.proofs.lemmas.Bool.{eqb-true}
use Rattle.c_grammar.specs.declared.trees.SyntaxNode.{SyntaxNode}
use Rattle.c_grammar.specs.Productions.{p_members, p_member, p_field}
use Rattle.c_grammar.specs.Reads.{Node, node_of}
use Rattle.c_inits.specs.Made.{Part}
use Rattle.c_senses.specs.Names.{source_of, numbered}
use Rattle.c_senses.specs.Tree.{Source, is_a, children_at, production_at, production_of}
use Rattle.c_senses.specs.Sense.{Sense, sense_in}
use Rattle.c_senses.specs.Rows.{AreSenses}
use Rattle.parsed_tree_laws.specs.family_laws.Families.{IsChild, Ascend, Families}
use Rattle.parsed_tree_laws.proofs.family_laws.Reading.{units_families}
use Rattle.parsed_tree_laws.specs.member_names.Differ.{InOrder, UnitsHaveFewMembers}
use Rattle.parsed_tree_laws.proofs.member_names.Order.{units_in_order}
use Rattle.parsed_tree_laws.proofs.member_names.Counted.{due, is_counted, count, few_counted}
use Rattle.parsed_tree_laws.proofs.member_names.Among.{parts_of, among}
use Rattle.parsed_tree_laws.proofs.member_names.Members.{field_names, part_of_member, MemberParts, member_parts, list_part, entry_of, under_each}

-- ---- counts of the first so many nodes

abbrev so_far : List Node → ℕ → ℕ
so_far nodes k = count (take k nodes)

one_more : (nodes : List Node) (k : ℕ) (n : Node) → slice_get nodes k ≡ Some n → so_far nodes (suc k) ≡ so_far nodes k + due (is_counted n.production)
one_more [] k n e = cc
one_more (m ∷ nodes) zero n e = subst (λ (x : Node). due (is_counted m.production) + 0 ≡ 0 + due (is_counted x.production)) (let same : m ≡ n = cc in same) (omega arith)
one_more (m ∷ nodes) (suc k) n e = let h = one_more nodes k n e in omega (arith, h)

rises : (nodes : List Node) (j k : ℕ) → j ≤ k → so_far nodes j ≤ so_far nodes k
rises nodes zero k le = omega arith
rises [] (suc j) k le = omega arith
rises (m ∷ nodes) (suc j) zero le = absurd (omega (arith, le))
rises (m ∷ nodes) (suc j) (suc k) le = let h = rises nodes j k (omega (arith, le)) in omega (arith, h)

never_more : (nodes : List Node) (k : ℕ) → so_far nodes k ≤ count nodes
never_more nodes zero = omega arith
never_more [] (suc k) = omega arith
never_more (m ∷ nodes) (suc k) = let h = never_more nodes k in omega (arith, h)

there_node : (items : List SyntaxNode) (k : ℕ) (n : SyntaxNode) → slice_get items k ≡ Some n → slice_get (map node_of items) k ≡ Some (node_of n)
there_node [] k n e = cc
there_node (x ∷ items) zero n e = let same : x ≡ n = cc in ap (λ (m : SyntaxNode). Some (node_of m)) same
there_node (x ∷ items) (suc k) n e = there_node items k n e

-- ---- numbers that ascend

raised : (low least : ℕ) (ks : List ℕ) → Ascend low ks → ((r k : ℕ) → slice_get ks r ≡ Some k → least ≤ k) → Ascend least ks
raised low least [] up h = tt
raised low least (k ∷ ks) up h = (h 0 k refl, up.1)

above : (low : ℕ) (ks : List ℕ) (r k : ℕ) → Ascend low ks → slice_get ks r ≡ Some k → low ≤ k
above low [] r k h e = cc
above low (c ∷ ks) zero k h e = let same : c ≡ k = cc in let up : low ≤ c = h.0 in omega (arith, same, up)
above low (c ∷ ks) (suc r) k h e = let more = above (suc c) ks r k h.1 e in let up : low ≤ c = h.0 in omega (arith, more, up)

module _ (s : Source) (senses : List Sense) (are : AreSenses s senses) (order : InOrder s) (families : Families s) where
  abbrev f : ℕ → Sense
  f = sense_in senses

  abbrev nodes : List Node
  nodes = map node_of s.nodes

  abbrev C : ℕ → ℕ
  C k = so_far nodes k

  one_counted : (d : ℕ) → is_counted (production_at s d) ≡ true → 1 + C d ≤ C (suc d)
  one_counted d is = by (slice_get s.nodes d) refl is
    where
      by : (o : Option SyntaxNode) → slice_get s.nodes d ≡ o → is_counted (production_of o) ≡ true → 1 + C d ≤ C (suc d)
      by None e h = cc
      by (Some n) e h =
          let more = one_more nodes d (node_of n) (there_node s.nodes d n e) in
          let one : due (is_counted n.production) ≡ 1 = ap due h in
          omega (arith, more, one)

  counted_member : (d : ℕ) → is_a s p_member d ≡ true → is_counted (production_at s d) ≡ true
  counted_member d is = subst (λ (p : ℕ). is_counted p ≡ true) (sym (eqb-true (production_at s d) p_member is)) refl

  counted_field : (d : ℕ) → is_a s p_field d ≡ true → is_counted (production_at s d) ≡ true
  counted_field d is = subst (λ (p : ℕ). is_counted p ≡ true) (sym (eqb-true (production_at s d) p_field is)) refl

  nothing_long : (ps : List Part) → ps ≡ [] → length ps ≡ 0
  nothing_long ps e = ap length e

  -- nodes each of which has no more members than are counted at it
  in_turn : (low high : ℕ) (ks : List ℕ) → Ascend low ks → low ≤ high → ((r k : ℕ) → slice_get ks r ≡ Some k → k < high) → ((r k : ℕ) → slice_get ks r ≡ Some k → length (parts_of (f k)) + C k ≤ C (suc k)) → length (among f ks) + C low ≤ C high
  in_turn low high [] up le below own = let h = rises nodes low high le in omega (arith, h)
  in_turn low high (k ∷ ks) up le below own =
      let lt = below 0 k refl in
      let rest = in_turn (suc k) high ks up.1 (omega (arith, lt)) (λ r d e. below (suc r) d e) (λ r d e. own (suc r) d e) in
      let here = own 0 k refl in
      let before = rises nodes low k up.0 in
      let long = length-append (parts_of (f k)) (among f ks) in
      omega (arith, rest, here, before, long)

  module _ (list : ℕ) (inside : list < length senses) (is_list : is_a s p_members list ≡ true) where
    -- one declaration of members, behind what stands before it
    step : (k low : ℕ) → IsChild s list k → low ≤ k → ((d : ℕ) → IsChild s k d → low ≤ d) → length (parts_of (f k)) + C low ≤ C (suc k)
    step k low own le clear = by (list_part s senses are order families list inside is_list k own)
      where
        k_below : k < length senses
        k_below = let lt = order.below list k own in omega (arith, lt, inside)

        none : length (parts_of (f k)) ≡ 0 → length (parts_of (f k)) + C low ≤ C (suc k)
        none e = let h = rises nodes low (suc k) (omega (arith, le)) in omega (arith, h, e)

        field_step : (r d : ℕ) → is_a s p_member k ≡ true → slice_get (children_at s k) r ≡ Some d → length (parts_of (f d)) + C d ≤ C (suc d)
        field_step r d member e = elim (part_of_member s senses are order families k d member (r, e) (let lt = order.below k d (r, e) in omega (arith, lt, k_below))) [
          | inl field ↦
              let names = field_names s senses are order families d (let lt = order.below k d (r, e) in omega (arith, lt, k_below)) field in
              let few = names.few in
              let one = one_counted d (counted_field d field) in
              omega (arith, few, one)
          | inr empty ↦ let long = nothing_long (parts_of (f d)) empty in let h = rises nodes d (suc d) (omega arith) in omega (arith, long, h)
        ]

        by_parts : is_a s p_member k ≡ true → MemberParts s senses are order families k → length (parts_of (f k)) + C low ≤ C (suc k)
        by_parts member (inl same) =
            let all = in_turn low k (children_at s k) (raised 0 low (children_at s k) (families.ascend k) (λ r d e. clear d (r, e))) le (λ r d e. order.below k d (r, e)) (λ r d e. field_step r d member e) in
            let long : length (parts_of (f k)) ≡ length (among f (children_at s k)) = ap length same in
            let h = rises nodes k (suc k) (omega arith) in
            omega (arith, all, long, h)
        by_parts member (inr (inl one)) =
            let long : length (parts_of (f k)) ≡ 1 = ap length one.1 in
            let here = one_counted k (counted_member k member) in
            let h = rises nodes low k le in
            omega (arith, long, here, h)
        by_parts member (inr (inr empty)) = none (nothing_long (parts_of (f k)) empty)

        by : (is_a s p_member k ≡ true) ⊎ (parts_of (f k) ≡ []) → length (parts_of (f k)) + C low ≤ C (suc k)
        by (inl member) = by_parts member (member_parts s senses are order families k k_below member)
        by (inr empty) = none (nothing_long (parts_of (f k)) empty)

    -- all of them
    steps : (low : ℕ) (ks : List ℕ) → Ascend low ks → low ≤ list → ((r k : ℕ) → slice_get ks r ≡ Some k → IsChild s list k) → ((r k d : ℕ) → slice_get ks r ≡ Some k → IsChild s k d → low ≤ d) → length (among f ks) + C low ≤ C list
    steps low [] up le own clear = let h = rises nodes low list le in omega (arith, h)
    steps low (k ∷ ks) up le own clear =
        let lt = order.below list k (own 0 k refl) in
        let here = step k low (own 0 k refl) up.0 (λ d h. clear 0 k d refl h) in
        let rest = steps (suc k) ks up.1 (omega (arith, lt)) (λ r j e. own (suc r) j e)
        (λ r j d e h.
        let before : k < j = (let g = above (suc k) ks r j up.1 e in omega (arith, g)) in
        let g = order.behind list k j d (own 0 k refl) (own (suc r) j e) before h in omega (arith, g)) in
        let long = length-append (parts_of (f k)) (among f ks) in
        omega (arith, here, rest, long)

    list_few : length (among f (children_at s list)) ≤ count nodes
    list_few =
        let all = steps 0 (children_at s list) (families.ascend list) (omega arith) (λ r k e. (r, e)) (λ r k d e h. omega arith) in
        let h = never_more nodes list in
        omega (arith, all, h)

pub units_few : UnitsHaveFewMembers
unfolding source_of
units_few tokens unit tree tag_number senses tag parts cut read are e =
    let s : Source = numbered tag_number (source_of tokens tree) in
    let order = units_in_order tokens unit tree tag_number read in
    let families = units_families tokens unit tree tag_number cut read in
    let few = few_counted tokens unit tree read in
    let P : List Part → Type 0 = λ ps. length ps ≤ count (map node_of tree.nodes.items) in
    let all = under_each s senses are order families (λ ps. length ps ≤ count (map node_of s.nodes)) (entry_of s senses are order families (λ ps. length ps ≤ count (map node_of s.nodes)) (list_few s senses are order families)) senses 0 tag parts e in
    let same : length parts ≤ count (map node_of tree.nodes.items) = all in
    omega (arith, same, few)
