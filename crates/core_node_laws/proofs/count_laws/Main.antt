-- The counting law, from node to node.
use Rattle.std.proofs.Common.{arith, ◌≡◌, ◌<◌, ◌≤◌, ◌+◌, ◌-◌, ℕ, zero, suc, nat_eq, not, Bool, true, false, ◌||◌, List, [], ◌∷◌, Option, Some, None, length, slice_get, refl, sym, ap, ◌∙◌, subst}
use Rattle.std.specs.Prelude.{◌==◌, if◌then◌else◌}
use Rattle.std.proofs.lemmas.Bool.{eqb-true, eqb-false}
use Rattle.std.proofs.lemmas.Option.{slice_get-get_or}
use Rattle.c_grammar.specs.declared.trees.SyntaxNode.{SyntaxNode}
use Rattle.core_tree.specs.declared.node.NodeKind.{NodeKind}
use Rattle.core_tree.specs.declared.node.NodeKind.TheVariants.{Initialise, Literal}
use Rattle.c_grammar.specs.Productions.{p_external, p_rest, p_init, p_items, p_item, p_block, p_statement, p_cast, p_unary, p_post, p_assignment}
use Rattle.c_consts.specs.Core.{Of, MoreCores, NoCores}
use Rattle.c_inits.specs.Syntax.{Init, Items, Value, Braces, NoItems, Item}
use Rattle.c_senses.specs.Given.{Given, Fits}
use Rattle.c_senses.specs.Tree.{Source, is_a, production_of, children_of, production_at, children_at, child_of, left_of}
use Rattle.c_senses.specs.World.{World}
use Rattle.c_senses.specs.Initialised.{seen}
use Rattle.c_senses.specs.Sense.{Sense, Nothing, IsCore, IsInitial, sense_in}
use Rattle.c_senses.specs.Rows.{AreSenses, row_of}
use Rattle.parsed_tree_laws.specs.family_laws.Families.{Families}
use Rattle.parsed_tree_laws.specs.span_laws.Spans.{Spans, over, Runs, Spanned}
use Rattle.core_node_laws.specs.count_laws.count_rows.Counts.{Count, own_weight, unless_left_out, count_under, count_of, count_full, total, init_total, items_total}
use Rattle.core_node_laws.specs.count_laws.count_rows.Covers.{IsIn, value_at, stays, made_by, Covers, GivesMost}
use Rattle.core_node_laws.proofs.count_laws.count_rows.Rows.{rows_count}
use Rattle.core_node_laws.specs.count_laws.Counting.{sum_below, left_out_of, left_out_in, of_block, seen_at, world_of, bodies, Makes, CountingLaw}
use Rattle.core_node_laws.proofs.count_laws.Rooms.{sum_of, taken_less, apart, runs_in, Room, Claim, plain_room, balance_run, sum_run, first_run, walk, begins_at}
use Rattle.core_node_laws.proofs.count_laws.Parents.{parent_is, external_none, init_none, items_none}
use Rattle.core_node_laws.proofs.count_laws.Parts.{E, init_values, list_values}

-- what a body that is left out has, with what is left of it where it stands
whole_of : (n : Count) (kind : NodeKind) (k : ℕ) → unless_left_out n kind k + left_out_of n kind k ≤ k
whole_of n (Initialise e paths) k = by (n.leaves_out e)
  where
    by : (b : Bool) → (if b then 0 else k) + (if b then k else 0) ≤ k
    by true = omega arith
    by false = omega arith
whole_of n kind k = omega arith

mutual
  init_less : (e f : ℕ → ℕ) → ((node : ℕ) → e node ≤ f node) → (init : Init) → init_total e init ≤ init_total f init
  init_less e f h (Value node type text) = h node
  init_less e f h (Braces node items) = items_less e f h items

  items_less : (e f : ℕ → ℕ) → ((node : ℕ) → e node ≤ f node) → (items : Items) → items_total e items ≤ items_total f items
  items_less e f h NoItems = omega arith
  items_less e f h (Item designators init rest) = let a = init_less e f h init in let b = items_less e f h rest in omega (arith, a, b)

no_node : (xs : List SyntaxNode) (k : ℕ) → slice_get xs k ≡ None → k < length xs → ⊥
no_node [] k e lt = omega (arith, lt)
no_node (x ∷ xs) zero e lt = cc
no_node (x ∷ xs) (suc k) e lt = no_node xs k e (omega (arith, lt))

or_false : (a b : Bool) → a ≡ false → b ≡ false → (a || b) ≡ false
or_false a b ea eb = ap (λ (x : Bool). x || b) ea ∙ eb

-- by the tests of a node's production: what its row has and what bodies it brings
both_in : (n : Count) (a b c d : Bool) (x : Sense) (st bl m : ℕ) → d ≡ false → count_of n x + left_out_in n x ≤ count_full n x → (if a || b then count_full n x else if c then count_of n x + st else count_of n x) ≤ m
    → count_of n x + (if a || b then left_out_in n x else if c then st else if d then bl else 0) ≤ m
both_in n true b c d x st bl m e h g = omega (arith, h, g)
both_in n false true c d x st bl m e h g = omega (arith, h, g)
both_in n false false true d x st bl m e h g = omega (arith, g)
both_in n false false false true x st bl m e h g = cc
both_in n false false false false x st bl m e h g = omega (arith, g)

summed_no : (b c d : Bool) → not ((b || c) || d) ≡ true → (b || c) ≡ false
summed_no true c d h = cc
summed_no false true d h = cc
summed_no false false d h = refl

module _ (n : Count) (s : Source) (senses : List Sense) (bound : ℕ → ℕ) (spanned : Spanned s) (families : Families s) (are : AreSenses s senses) (whole : length senses ≡ length s.nodes) (makes : Makes n s senses bound) where
  abbrev N : ℕ → ℕ
  N c = count_of n (sense_in senses c)

  abbrev D : ℕ → ℕ
  D i = bodies n s senses i

  abbrev F : ℕ → ℕ → Sense
  F i c = seen_at n s senses i c

  abbrev W : ℕ → World
  W i = world_of n s senses i

  less : (i c : ℕ) → count_of n (F i c) ≤ N c
  less i c = taken_less n senses i c

  total_less : (i : ℕ) (list : List ℕ) → total n (F i) list ≤ sum_of N list
  total_less i [] = omega arith
  total_less i (c ∷ rest) = let a = less i c in let b = total_less i rest in omega (arith, a, b)

  pub row_is : (i : ℕ) → i < length s.nodes → row_of (W i) s (F i) (production_at s i) i (children_at s i) ≡ Fits (sense_in senses i)
  row_is i lt = by (slice_get s.nodes i) refl
    where
      by : (o : Option SyntaxNode) → slice_get s.nodes i ≡ o → row_of (W i) s (F i) (production_of o) i (children_of o) ≡ Fits (sense_in senses i)
      by None e = absurd (no_node s.nodes i e lt)
      by (Some node) e = are.each i node (sense_in senses i) e (slice_get-get_or senses i Nothing (omega (arith, lt, whole)))

  row_most : (i m : ℕ) → i < length s.nodes → Covers n (W i) s (F i) (production_at s i) i (children_at s i) m → made_by n (W i) s (F i) (production_at s i) (children_at s i) (sense_in senses i) ≤ m
  row_most i m lt covers = subst (λ (g : Given Sense). GivesMost (made_by n (W i) s (F i) (production_at s i) (children_at s i)) m g) (row_is i lt) (rows_count n (W i) s (F i) (production_at s i) i m (children_at s i) covers)

  -- a row that gives nothing
  pub is_nothing : (i p : ℕ) → i < length s.nodes → is_a s p i ≡ true → row_of (W i) s (F i) p i (children_at s i) ≡ Fits Nothing → sense_in senses i ≡ Nothing
  is_nothing i p lt is none =
      let production : production_at s i ≡ p = eqb-true (production_at s i) p is in
      let e : Fits (sense_in senses i) ≡ Fits Nothing = sym (row_is i lt) ∙ (ap (λ (q : ℕ). row_of (W i) s (F i) q i (children_at s i)) production ∙ none) in
      cc

  -- a child stands in the list of nodes
  pub node_inside : (j c : ℕ) → IsIn (children_at s j) c → c < length s.nodes
  node_inside j c at = by (slice_get s.nodes j) refl at.1
    where
      below : (lt : j < length s.nodes) → c < j
      below lt = by_span (spanned.each j lt)
        where
          by_span : (low : ℕ) × Spans s low j → c < j
          by_span (low, over runs) = runs_in s low (children_at s j) j c runs at

      inside : (xs : List SyntaxNode) (k : ℕ) (x : SyntaxNode) → slice_get xs k ≡ Some x → k < length xs
      inside [] k x e = cc
      inside (y ∷ xs) zero x e = omega arith
      inside (y ∷ xs) (suc k) x e = let h = inside xs k x e in omega (arith, h)

      by : (o : Option SyntaxNode) → slice_get s.nodes j ≡ o → slice_get (children_of o) at.0 ≡ Some c → c < length s.nodes
      by None e h = cc
      by (Some node) e h = let lt = inside s.nodes j node e in let less = below lt in omega (arith, lt, less)

  -- what a sense has, with the bodies that are left out of it
  full_is : (x : Sense) → count_of n x + left_out_in n x ≤ count_full n x
  full_is (IsInitial (Of kind place type under) length) = whole_of n kind (own_weight n kind place + count_under n under)
  full_is (IsCore (Of (Literal e) place type (MoreCores (Of kind own t under) NoCores))) = let h = whole_of n kind (own_weight n kind own + count_under n under) in omega (arith, h)
  full_is x = omega arith

  -- nodes that bring no body
  none_if : (a b : Bool) (k l : ℕ) → (a || b) ≡ true → k ≡ 0 → (if a || b then k else l) ≡ 0
  none_if true b k l e h = h
  none_if false true k l e h = h
  none_if false false k l e h = cc

  left_of_nothing : (x : Sense) → x ≡ Nothing → left_out_in n x ≡ 0
  left_of_nothing x e = ap (left_out_in n) e

  lists_none : (j c : ℕ) → IsIn (children_at s j) c → is_a s p_items c ≡ true → is_a s p_init j ≡ true → D c ≡ 0
  lists_none j c at items init =
      let off = or_false (is_a s p_cast j) (is_a s p_unary j) (apart s p_init p_cast j refl init) (apart s p_init p_unary j refl init) in
      let nothing = is_nothing c p_items (node_inside j c at) items (items_none (W c) s (F c) c (children_at s c) j (parent_is s families j c at) off) in
      none_if (is_a s p_init c) (is_a s p_items c) (left_out_in n (sense_in senses c)) _ (or_second (is_a s p_init c) (is_a s p_items c) items) (left_of_nothing (sense_in senses c) nothing)
    where
      or_second : (a b : Bool) → b ≡ true → (a || b) ≡ true
      or_second true b e = refl
      or_second false b e = e

  inits_none : (j c : ℕ) → IsIn (children_at s j) c → is_a s p_init c ≡ true → is_a s p_item j ≡ true → D c ≡ 0
  inits_none j c at init item =
      let nothing = is_nothing c p_init (node_inside j c at) init (init_none (W c) s (F c) c (children_at s c) j (parent_is s families j c at) (apart s p_item p_rest j refl item)) in
      none_if (is_a s p_init c) (is_a s p_items c) (left_out_in n (sense_in senses c)) _ (ap (λ (b : Bool). b || is_a s p_items c) init) (left_of_nothing (sense_in senses c) nothing)

  bare : (a b c d : Bool) (k l o : ℕ) → a ≡ false → b ≡ false → c ≡ false → d ≡ false → (if a || b then k else if c then l else if d then o else 0) ≡ 0
  bare true b c d k l o ea eb ec ed = cc
  bare false true c d k l o ea eb ec ed = cc
  bare false false true d k l o ea eb ec ed = cc
  bare false false false true k l o ea eb ec ed = cc
  bare false false false false k l o ea eb ec ed = refl

  -- a node of a production that is none of four
  plain_none : (p c : ℕ) → (p == p_init) ≡ false → (p == p_items) ≡ false → (p == p_rest) ≡ false → (p == p_external) ≡ false → is_a s p c ≡ true → D c ≡ 0
  plain_none p c a b d e is =
      bare (is_a s p_init c) (is_a s p_items c) (is_a s p_rest c) (is_a s p_external c) _ _ _ (apart s p p_init c a is) (apart s p p_items c b is) (apart s p p_rest c d is) (apart s p p_external c e is)

  items_bare : (c : ℕ) → is_a s p_item c ≡ true → D c ≡ 0
  items_bare c is = plain_none p_item c refl refl refl refl is

  -- ---- one node, over those before it
  module _ (i : ℕ) (lt : i < length s.nodes) (below : (j : ℕ) → j < i → Claim bound D s N j) (low : ℕ) (span : Spans s low i) where
    abbrev R : ℕ → ℕ → Type 0
    R k high = Room bound D k low high

    own_runs : Spans s low i → Runs s low (children_at s i) i
    own_runs (over runs) = runs

    runs : Runs s low (children_at s i) i
    runs = own_runs span

    before : R 0 i
    before = balance_run bound D s N i below low (children_at s i) i runs (omega arith)

    abbrev slack : ℕ
    slack = (sum_below bound i + sum_below D low) - (sum_below D i + sum_below bound low)

    roomy : (k : ℕ) → R k i → k ≤ slack
    roomy k h = omega (arith, h)

    one_less : (c : ℕ) → IsIn (children_at s i) c → N c ≤ slack
    one_less c at =
        roomy (N c)
        (walk bound D s N i below spanned.leaves low low 0 (children_at s i) i runs (omega arith) (omega arith) (λ h. absurd (omega (arith, h))) (λ h. absurd (omega (arith, h))) (λ k d e is. let h = spanned.behind i k d e is in omega (arith, h)) c at)

    -- where what follows a primary is no part, all together
    no_posts : (is_a s p_unary i || is_a s p_cast i) ≡ false → (c : ℕ) → IsIn (children_at s i) c → is_a s p_post c ≡ false
    no_posts off c at = by (is_a s p_post c) refl
      where
        by : (b : Bool) → is_a s p_post c ≡ b → b ≡ false
        by true is = let yes = spanned.parents i at.0 c at.1 is in let never : true ≡ false = sym yes ∙ off in cc
        by false is = refl

    all_less : (is_a s p_unary i || is_a s p_cast i) ≡ false → sum_of N (children_at s i) ≤ slack
    all_less off =
        roomy (sum_of N (children_at s i))
        (sum_run bound D s N i below N low (children_at s i) i runs (omega arith) (λ c z at less sp. plain_room bound D s N c z (below c less) sp (no_posts off c at)))

    apart_two : (p : ℕ) → (p == p_unary) ≡ false → (p == p_cast) ≡ false → is_a s p i ≡ true → (is_a s p_unary i || is_a s p_cast i) ≡ false
    apart_two p a b is = or_false (is_a s p_unary i) (is_a s p_cast i) (apart s p p_unary i a is) (apart s p p_cast i b is)

    values_less : (node : ℕ) → value_at n (W i) s (F i) node ≤ E s bound D N i below lists_none inits_none items_bare node
    values_less node = by (child_of s p_assignment node)
      where
        by : (o : Option ℕ) → count_of n (elim o as (λ _. Sense) [ None ↦ Nothing | Some c ↦ F i c ]) ≤ (elim o as (λ _. ℕ) [ None ↦ 0 | Some c ↦ N c ])
        by None = omega arith
        by (Some c) = less i c

    -- what follows a primary begins at the first number under it
    first_is : (first : ℕ) (rest : List ℕ) → is_a s p_post i ≡ true → children_at s i ≡ first ∷ rest → low ≡ first
    first_is first rest is e = begins_at s spanned.leaves low (children_at s i) i first rest e (spanned.begins i first rest is e) runs

    -- so many, if they are enough, cover what the row makes
    covers : (m : ℕ) → slack + bound i ≤ m → (is_a s p_post i ≡ true → (slack + bound i) + N (left_of s low) ≤ m) → Covers n (W i) s (F i) (production_at s i) i (children_at s i) m
    covers m enough left = record {
      one = λ e c at. let a = one_less c at in let b = less i c in omega (arith, enough, a, b);
      text = λ e first rest bytes ch there. let a = makes.texts i first rest bytes e ch there in omega (arith, enough, a);
      post = λ e first rest ch there.
          let a = makes.calls i first rest e ch there in
          let first_low = first_is first rest e ch in
          let b = all_less (apart_two p_post refl refl e) in
          let c = subst (λ (l : List ℕ). sum_of N l ≤ slack) ch b in
          let d = total_less i rest in
          let l = subst (λ (k : ℕ). (slack + bound i) + N (left_of s k) ≤ m) first_low (left e) in
          let o = less i (left_of s first) in
          omega (arith, a, c, d, l, o);
      object = λ e declarator leaf init paths by_it named found.
          let a = makes.objects i declarator leaf paths e by_it named in
          let b = roomy (init_total (E s bound D N i below lists_none inits_none items_bare) init) (init_values s bound D N i below lists_none inits_none items_bare (seen (W i) s (F i)) low init span found) in
          let c = init_less (λ node. value_at n (W i) s (F i) node) (E s bound D N i below lists_none inits_none items_bare) values_less init in
          omega (arith, enough, a, b, c);
      literal = λ e p items paths parent kind typed found.
          let a = makes.literals i p paths e parent kind typed in
          let b = roomy (items_total (E s bound D N i below lists_none inits_none items_bare) items) (list_values s bound D N i below lists_none inits_none items_bare (seen (W i) s (F i)) low items span found) in
          let c = items_less (λ node. value_at n (W i) s (F i) node) (E s bound D N i below lists_none inits_none items_bare) values_less items in
          omega (arith, enough, a, b, c);
      block = λ e.
          let a = makes.blocks i e in
          let b = all_less (apart_two p_block refl refl e) in
          let c = total_less i (children_at s i) in
          omega (arith, enough, a, b, c);
      loop = λ e word parenthesis rest c a ch.
          let own = makes.loops i word parenthesis rest c a e ch in
          let b = subst (λ (l : List ℕ). sum_of N l ≤ slack) ch (all_less (apart_two p_statement refl refl e)) in
          let d = total_less i rest in
          omega (arith, enough, own, b, d);
      others = λ e.
          let a = all_less (summed_no (is_a s p_unary i) (is_a s p_cast i) ((production_at s i == p_post) || ((production_at s i == p_init) || (production_at s i == p_items))) e) in
          let b = total_less i (children_at s i) in
          omega (arith, enough, a, b);
    }

    -- an external declaration stands for nothing, and brings the block of its function
    external : is_a s p_external i ≡ true → N i + D i ≤ slack + bound i
    external e =
        let nothing = is_nothing i p_external lt e (external_none (W i) s (F i) i (children_at s i)) in
        let none : N i ≡ 0 = ap (count_of n) nothing in
        let block = roomy _ (first_run bound D s N i below N (is_a s p_block) low (children_at s i) i runs (omega arith) (λ c z at lt is sp. plain_room bound D s N c z (below c lt) sp (apart s p_block p_post c refl is))) in
        let brings = by_tests (is_a s p_init i) (is_a s p_items i) (is_a s p_rest i) (is_a s p_external i) (apart s p_external p_init i refl e) (apart s p_external p_items i refl e) (apart s p_external p_rest i refl e) e (child_of s p_block i) block in
        omega (arith, none, brings)
      where
        by_tests : (a b c d : Bool) → a ≡ false → b ≡ false → c ≡ false → d ≡ true → (o : Option ℕ) → (elim o as (λ _. ℕ) [ None ↦ 0 | Some x ↦ N x ]) ≤ slack
            → (if a || b then left_out_in n (sense_in senses i) else if c then stays n (W i) s (F i) (children_at s i) else if d then of_block n senses o else 0) ≤ slack + bound i
        by_tests true b c d ea eb ec ed o h = cc
        by_tests false true c d ea eb ec ed o h = cc
        by_tests false false true d ea eb ec ed o h = cc
        by_tests false false false false ea eb ec ed o h = cc
        by_tests false false false true ea eb ec ed None h = omega arith
        by_tests false false false true ea eb ec ed (Some x) h = omega (arith, h)

    -- what the row has, and the bodies that it brings
    both_most : (m : ℕ) → is_a s p_external i ≡ false → Covers n (W i) s (F i) (production_at s i) i (children_at s i) m → N i + D i ≤ m
    both_most m off c =
        both_in n (is_a s p_init i) (is_a s p_items i) (is_a s p_rest i) (is_a s p_external i) (sense_in senses i) (stays n (W i) s (F i) (children_at s i)) (of_block n senses (child_of s p_block i)) m off (full_is (sense_in senses i)) (row_most i m lt c)

    plain_most : is_a s p_post i ≡ false → N i + D i ≤ slack + bound i
    plain_most off = by (is_a s p_external i) refl
      where
        by : (b : Bool) → is_a s p_external i ≡ b → N i + D i ≤ slack + bound i
        by true e = external e
        by false e = both_most (slack + bound i) e (covers (slack + bound i) (omega arith) (λ is. absurd (let never : true ≡ false = sym is ∙ off in cc)))

    post_most : is_a s p_post i ≡ true → N i ≤ (slack + bound i) + N (left_of s low)
    post_most is =
        let m : ℕ = (slack + bound i) + N (left_of s low) in
        let h = both_most m (apart s p_post p_external i refl is) (covers m (omega arith) (λ _. omega arith)) in
        omega (arith, h)

    balance_here : R 0 (suc i)
    balance_here = by (is_a s p_post i) refl
      where
        by : (b : Bool) → is_a s p_post i ≡ b → R 0 (suc i)
        by true is = let none = plain_none p_post i refl refl refl refl is in omega (arith, before, none)
        by false off = let h = plain_most off in omega (arith, before, h)

    most_here : N i + (sum_below D (suc i) + sum_below bound low) ≤ (sum_below bound (suc i) + sum_below D low) + (if is_a s p_post i then N (left_of s low) else 0)
    most_here = by (is_a s p_post i) refl
      where
        by : (b : Bool) → is_a s p_post i ≡ b → N i + (sum_below D (suc i) + sum_below bound low) ≤ (sum_below bound (suc i) + sum_below D low) + (if b then N (left_of s low) else 0)
        by true is = let none = plain_none p_post i refl refl refl refl is in let h = post_most is in omega (arith, before, none, h)
        by false off = let h = plain_most off in omega (arith, before, h)

  claim_at : (i : ℕ) → i < length s.nodes → ((j : ℕ) → j < i → Claim bound D s N j) → Claim bound D s N i
  claim_at i lt below = record { balance = λ low span. balance_here i lt below low span; most = λ low span. most_here i lt below low span }

  all_below : (k : ℕ) → k ≤ length s.nodes → (j : ℕ) → j < k → Claim bound D s N j
  all_below zero le j lt = absurd (omega (arith, lt))
  all_below (suc k) le j lt =
      let before = all_below k (omega (arith, le)) in
      by (nat_eq j k) refl before (claim_at k (omega (arith, le)) before)
    where
      by : (b : Bool) → nat_eq j k ≡ b → ((i : ℕ) → i < k → Claim bound D s N i) → Claim bound D s N k → Claim bound D s N j
      by true e before here = subst (λ (x : ℕ). Claim bound D s N x) (sym (eqb-true j k e)) here
      by false e before here = let differ = eqb-false j k e in before j (omega (arith, lt, differ))

  -- each node
  pub claims : (i : ℕ) → i < length s.nodes → Claim bound D s N i
  claims i lt = all_below (suc i) (omega (arith, lt)) i (omega arith)

  pub all_bodies : sum_below D (length s.nodes) ≤ sum_below bound (length s.nodes)
  all_bodies =
      let lt : spanned.root < length s.nodes = let last = spanned.last in omega (arith, last) in
      let h = (claims spanned.root lt).balance 0 spanned.whole in
      subst (λ (k : ℕ). sum_below D k ≤ sum_below bound k) spanned.last (omega (arith, h))

pub counting : CountingLaw
counting n s senses bound spanned families are whole makes = all_bodies n s senses bound spanned families are whole makes
