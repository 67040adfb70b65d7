-- The objects of blocks, as they are found one node after another.
use Rattle.std.proofs.Common.{arith, ◌≡◌, ℕ, ◌+◌, ◌<◌, ◌≤◌, Bool, true, false, List, [], ◌∷◌, ◌++◌, length, get_or, set, take, map, Option, Some, None, slice_get, refl, ap, sym, ◌∙◌, if◌then◌else◌, inl, inr, zero-add}
use Rattle.std.proofs.Math.Path.{fun_ext}
use Rattle.std.proofs.lemmas.Bool.{cases_eq, cases_lt, ne_eqb, eq-eqb}
use Rattle.std.proofs.lemmas.List.{take_more, take_all, get_or_past, length-set, get_or-set_same, get_or-set_other}
use Rattle.std.proofs.lemmas.List.Elements.{filter_map-append}
use Rattle.std.proofs.lemmas.List.FromFn.{map-range_with_len_more, length-map-range_with_len, get_or-map-range_with_len, fill_by_all, length-enumerate_from, get_or-enumerate_from}
use Rattle.std.proofs.lemmas.Option.{slice_get_past, slice_get-get_or}
use Rattle.std.specs.List.{range_with_len, enumerate_from, filter_map, cons_option}
use Rattle.core_tree.specs.declared.node.Node.{Node}
use Rattle.core_tree.specs.Typed.{CoreTrees}
use Rattle.core_tree.specs.Range.{listed_by}
use Rattle.ref_blocks.specs.Ways.{kind_in}
use Rattle.ref_blocks.specs.declared.block.Block.{Block}
use Rattle.ref_blocks.specs.declared.block.Block.TheVariants.{Own, Part}
use Rattle.ref_blocks.specs.Order.{put_in_order, put_all}
use Rattle.ref_blocks.specs.Around.{same_block, blocks_around, is_innermost, literal_of, literal_within, literals_of, listed_of, objects_of}
use Rattle.ref_blocks.specs.Plans.{objects_to}
use Rattle.ref_blocks.proofs.Ordered.{put_all-append}
use Rattle.ref_blocks.proofs.Around.{node_of, not_innermost}

-- One node more is looked at.

more_objects : (u : CoreTrees) (n : ℕ) (b : Block) (node : Node) → n < length u.nodes → node ≡ get_or u.nodes n node → objects_to u (n + 1) b ≡ put_all u.entities (objects_to u n b) (cons_option (literal_within u b (n, node)) [])
more_objects u n b node l e =
    let base = put_all u.entities [] (listed_of u b) in
    let all = enumerate_from 0 u.nodes in
    let k : n < length all = omega (arith, length-enumerate_from 0 u.nodes) in
    let at : get_or all n (n, node) ≡ (n, node) = get_or-enumerate_from 0 u.nodes n (n, node) l ∙ ap (λ (k : ℕ). (k, get_or u.nodes n node)) (zero-add n) ∙ ap (λ (x : Node). (n, x)) (sym e) in
    ap (λ (w : List (ℕ × Node)). put_all u.entities base (filter_map (literal_within u b) w)) (take_more all n (n, node) k)
    ∙ ap (put_all u.entities base) (filter_map-append (literal_within u b) (take n all) (get_or all n (n, node) ∷ []))
    ∙ put_all-append u.entities base (filter_map (literal_within u b) (take n all)) (filter_map (literal_within u b) (get_or all n (n, node) ∷ []))
    ∙ ap (λ (x : ℕ × Node). put_all u.entities (objects_to u n b) (cons_option (literal_within u b x) [])) at

-- nothing is added
same_objects : (u : CoreTrees) (n : ℕ) (b : Block) (node : Node) → n < length u.nodes → node ≡ get_or u.nodes n node → literal_within u b (n, node) ≡ None → objects_to u (n + 1) b ≡ objects_to u n b
same_objects u n b node l e h = more_objects u n b node l e ∙ ap (λ (o : Option ℕ). put_all u.entities (objects_to u n b) (cons_option o [])) h

-- a literal is added
added_object : (u : CoreTrees) (n : ℕ) (b : Block) (node : Node) (x : ℕ) → n < length u.nodes → node ≡ get_or u.nodes n node → literal_within u b (n, node) ≡ Some x → objects_to u (n + 1) b ≡ put_in_order u.entities x (objects_to u n b)
added_object u n b node x l e h = more_objects u n b node l e ∙ ap (λ (o : Option ℕ). put_all u.entities (objects_to u n b) (cons_option o [])) h

-- Which block's literal a node is.

no_literal_in : (t : Bool) → ◌≡◌ {A = Option ℕ} (if t then None else None) None
no_literal_in true = refl
no_literal_in false = refl

no_literal : (u : CoreTrees) (n : ℕ) (b : Block) (node : Node) → literal_of u node.kind ≡ None → literal_within u b (n, node) ≡ None
no_literal u n b node h = ap (λ (o : Option ℕ). if is_innermost b (blocks_around u n) then o else None) h ∙ no_literal_in (is_innermost b (blocks_around u n))

first_is : Block → Option Block → Bool
first_is b None = false
first_is b (Some c) = same_block c b

first_in : (b : Block) (blocks : List Block) (o : Option Block) → o ≡ slice_get blocks 0 → is_innermost b blocks ≡ first_is b o
unfolding first_is
first_in b [] None h = refl
first_in b [] (Some c) h = cc
first_in b (c ∷ rest) None h = cc
first_in b (c ∷ rest) (Some d) h = let e : d ≡ c = cc in ap (λ (x : Block). same_block x b) (sym e)

other_literal : (u : CoreTrees) (n : ℕ) (b : Block) (node : Node) (o : Option Block) → o ≡ slice_get (blocks_around u n) 0 → first_is b o ≡ false → literal_within u b (n, node) ≡ None
other_literal u n b node o h f = ap (λ (t : Bool). if t then literal_of u node.kind else None) (first_in b (blocks_around u n) o h ∙ f)

own_literal : (u : CoreTrees) (n : ℕ) (b : Block) (node : Node) (o : Option Block) → o ≡ slice_get (blocks_around u n) 0 → first_is b o ≡ true → literal_within u b (n, node) ≡ literal_of u node.kind
own_literal u n b node o h f = ap (λ (t : Bool). if t then literal_of u node.kind else None) (first_in b (blocks_around u n) o h ∙ f)

-- All lists.

pub same_lists_of : (f g : ℕ → List ℕ) (n : ℕ) → ((b : ℕ) → g b ≡ f b) → map f (range_with_len 0 n) ≡ map g (range_with_len 0 n)
same_lists_of f g n h = ap (λ (k : ℕ → List ℕ). map k (range_with_len 0 n)) (fun_ext (λ (b : ℕ). sym (h b)))

pub set_list : (f g : ℕ → List ℕ) (n c : ℕ) (xs : List (List ℕ)) (change : List ℕ → List ℕ) → xs ≡ map f (range_with_len 0 n) → ((b : ℕ) → (b ≡ c → ⊥) → g b ≡ f b) → g c ≡ change (f c) → set xs c (change (get_or xs c [])) ≡ map g (range_with_len 0 n)
set_list f g n c xs change e other here =
    fill_by_all g (set xs c (change (get_or xs c []))) n []
    (length-set xs c (change (get_or xs c [])) ∙ ap length e ∙ length-map-range_with_len f 0 n)
    (λ k l.
    let at : get_or xs k [] ≡ f k = ap (λ (w : List (List ℕ)). get_or w k []) e ∙ get_or-map-range_with_len f 0 n k k [] l (omega arith) in
    let long : length xs ≡ n = ap length e ∙ length-map-range_with_len f 0 n in
    elim (cases_eq k c) [
      | inl q ↦
          ap (λ (j : ℕ). get_or (set xs c (change (get_or xs c []))) j []) q
          ∙ get_or-set_same xs c (change (get_or xs c [])) [] (omega arith)
          ∙ ap (λ (j : ℕ). change (get_or xs j [])) (sym q)
          ∙ ap change at
          ∙ ap (λ (j : ℕ). change (f j)) q
          ∙ sym here
          ∙ ap g (sym q)
      | inr q ↦ get_or-set_other xs c k (change (get_or xs c [])) [] q ∙ at ∙ sym (other k q)
    ])

pub no_literal_own : (u : CoreTrees) (n : ℕ) (node : Node) (xs : List (List ℕ)) → n < length u.nodes → node ≡ get_or u.nodes n node → literal_of u node.kind ≡ None
    → xs ≡ map (λ b. objects_to u n (Own b)) (range_with_len 0 (length u.nodes)) → xs ≡ map (λ b. objects_to u (n + 1) (Own b)) (range_with_len 0 (length u.nodes))
no_literal_own u n node xs l e h q = q ∙ same_lists_of (λ (b : ℕ). objects_to u n (Own b)) (λ (b : ℕ). objects_to u (n + 1) (Own b)) (length u.nodes) (λ b. same_objects u n (Own b) node l e (no_literal u n (Own b) node h))

pub no_literal_part : (u : CoreTrees) (n : ℕ) (node : Node) (xs : List (List ℕ)) → n < length u.nodes → node ≡ get_or u.nodes n node → literal_of u node.kind ≡ None
    → xs ≡ map (λ b. objects_to u n (Part b)) (range_with_len 0 (length u.nodes)) → xs ≡ map (λ b. objects_to u (n + 1) (Part b)) (range_with_len 0 (length u.nodes))
no_literal_part u n node xs l e h q = q ∙ same_lists_of (λ (b : ℕ). objects_to u n (Part b)) (λ (b : ℕ). objects_to u (n + 1) (Part b)) (length u.nodes) (λ b. same_objects u n (Part b) node l e (no_literal u n (Part b) node h))

not_own : (o : Option Block) (b : ℕ) → ((k : ℕ) → o ≡ Some (Own k) → ⊥) → first_is (Own b) o ≡ false
unfolding first_is
not_own None b never = refl
not_own (Some (Own k)) b never = absurd (never k refl)
not_own (Some (Part k)) b never = refl

not_part : (o : Option Block) (b : ℕ) → ((k : ℕ) → o ≡ Some (Part k) → ⊥) → first_is (Part b) o ≡ false
unfolding first_is
not_part None b never = refl
not_part (Some (Own k)) b never = refl
not_part (Some (Part k)) b never = absurd (never k refl)

pub other_own : (u : CoreTrees) (n : ℕ) (node : Node) (o : Option Block) (xs : List (List ℕ)) → n < length u.nodes → node ≡ get_or u.nodes n node → o ≡ slice_get (blocks_around u n) 0 → ((b : ℕ) → o ≡ Some (Own b) → ⊥)
    → xs ≡ map (λ b. objects_to u n (Own b)) (range_with_len 0 (length u.nodes)) → xs ≡ map (λ b. objects_to u (n + 1) (Own b)) (range_with_len 0 (length u.nodes))
other_own u n node o xs l e h never q = q ∙ same_lists_of (λ (b : ℕ). objects_to u n (Own b)) (λ (b : ℕ). objects_to u (n + 1) (Own b)) (length u.nodes) (λ b. same_objects u n (Own b) node l e (other_literal u n (Own b) node o h (not_own o b never)))

pub other_part : (u : CoreTrees) (n : ℕ) (node : Node) (o : Option Block) (xs : List (List ℕ)) → n < length u.nodes → node ≡ get_or u.nodes n node → o ≡ slice_get (blocks_around u n) 0 → ((b : ℕ) → o ≡ Some (Part b) → ⊥)
    → xs ≡ map (λ b. objects_to u n (Part b)) (range_with_len 0 (length u.nodes)) → xs ≡ map (λ b. objects_to u (n + 1) (Part b)) (range_with_len 0 (length u.nodes))
other_part u n node o xs l e h never q = q ∙ same_lists_of (λ (b : ℕ). objects_to u n (Part b)) (λ (b : ℕ). objects_to u (n + 1) (Part b)) (length u.nodes) (λ b. same_objects u n (Part b) node l e (other_literal u n (Part b) node o h (not_part o b never)))

first_own : (c : ℕ) → first_is (Own c) (Some (Own c)) ≡ true
unfolding first_is
first_own c = eq-eqb c c refl

first_part : (c : ℕ) → first_is (Part c) (Some (Part c)) ≡ true
unfolding first_is
first_part c = eq-eqb c c refl

first_other_own : (b c : ℕ) → (b ≡ c → ⊥) → first_is (Own b) (Some (Own c)) ≡ false
unfolding first_is
first_other_own b c q = ne_eqb c b (λ r. q (sym r))

first_other_part : (b c : ℕ) → (b ≡ c → ⊥) → first_is (Part b) (Some (Part c)) ≡ false
unfolding first_is
first_other_part b c q = ne_eqb c b (λ r. q (sym r))

pub put_own : (u : CoreTrees) (n : ℕ) (node : Node) (c x : ℕ) (xs : List (List ℕ)) → n < length u.nodes → node ≡ get_or u.nodes n node → Some (Own c) ≡ slice_get (blocks_around u n) 0 → literal_of u node.kind ≡ Some x
    → xs ≡ map (λ b. objects_to u n (Own b)) (range_with_len 0 (length u.nodes)) → set xs c (put_in_order u.entities x (get_or xs c [])) ≡ map (λ b. objects_to u (n + 1) (Own b)) (range_with_len 0 (length u.nodes))
put_own u n node c x xs l e h t q =
    set_list (λ (b : ℕ). objects_to u n (Own b)) (λ (b : ℕ). objects_to u (n + 1) (Own b)) (length u.nodes) c xs (put_in_order u.entities x) q
    (λ b r. same_objects u n (Own b) node l e (other_literal u n (Own b) node (Some (Own c)) h (first_other_own b c r)))
    (added_object u n (Own c) node x l e (own_literal u n (Own c) node (Some (Own c)) h (first_own c) ∙ t))

pub put_part : (u : CoreTrees) (n : ℕ) (node : Node) (c x : ℕ) (xs : List (List ℕ)) → n < length u.nodes → node ≡ get_or u.nodes n node → Some (Part c) ≡ slice_get (blocks_around u n) 0 → literal_of u node.kind ≡ Some x
    → xs ≡ map (λ b. objects_to u n (Part b)) (range_with_len 0 (length u.nodes)) → set xs c (put_in_order u.entities x (get_or xs c [])) ≡ map (λ b. objects_to u (n + 1) (Part b)) (range_with_len 0 (length u.nodes))
put_part u n node c x xs l e h t q =
    set_list (λ (b : ℕ). objects_to u n (Part b)) (λ (b : ℕ). objects_to u (n + 1) (Part b)) (length u.nodes) c xs (put_in_order u.entities x) q
    (λ b r. same_objects u n (Part b) node l e (other_literal u n (Part b) node (Some (Part c)) h (first_other_part b c r)))
    (added_object u n (Part c) node x l e (own_literal u n (Part c) node (Some (Part c)) h (first_part c) ∙ t))

-- The lists that nodes begin with.

pub listed_more : (u : CoreTrees) (i : ℕ) (node : Node) (lists : List (List ℕ)) (list : List ℕ) → i < length u.nodes → node ≡ get_or u.nodes i node
    → lists ≡ map (λ n. objects_to u 0 (Own n)) (range_with_len 0 i) → list ≡ put_all u.entities [] (listed_by node.kind)
    → lists ++ list ∷ [] ≡ map (λ n. objects_to u 0 (Own n)) (range_with_len 0 (i + 1))
listed_more u i node lists list l e q h =
    let at : slice_get u.nodes i ≡ Some node = slice_get-get_or u.nodes i node l ∙ ap (λ (x : Node). Some x) (sym e) in
    let here : list ≡ objects_to u 0 (Own i) = h ∙ ap (λ (o : Option Node). put_all u.entities [] (listed_by (kind_in o))) (sym at) in
    ap (λ (w : List (List ℕ)). w ++ list ∷ []) q ∙ ap (λ (x : List ℕ). map (λ (n : ℕ). objects_to u 0 (Own n)) (range_with_len 0 i) ++ x ∷ []) here
    ∙ sym (map-range_with_len_more (λ (n : ℕ). objects_to u 0 (Own n)) 0 i i (omega arith))

pub empty_more : (u : CoreTrees) (i : ℕ) (lists : List (List ℕ)) (list : List ℕ) → lists ≡ map (λ n. objects_to u 0 (Part n)) (range_with_len 0 i) → list ≡ []
    → lists ++ list ∷ [] ≡ map (λ n. objects_to u 0 (Part n)) (range_with_len 0 (i + 1))
empty_more u i lists list q h =
    ap (λ (w : List (List ℕ)). w ++ list ∷ []) q ∙ ap (λ (x : List ℕ). map (λ (n : ℕ). objects_to u 0 (Part n)) (range_with_len 0 i) ++ x ∷ []) h
    ∙ sym (map-range_with_len_more (λ (n : ℕ). objects_to u 0 (Part n)) 0 i i (omega arith))

-- All nodes are looked at.

pub all_objects : (u : CoreTrees) (k : ℕ) (b : Block) → length u.nodes ≤ k → objects_to u k b ≡ objects_of u b
unfolding objects_of
all_objects u k b l =
    ap (λ (w : List (ℕ × Node)). put_all u.entities (put_all u.entities [] (listed_of u b)) (filter_map (literal_within u b) w)) (take_all k (enumerate_from 0 u.nodes) (omega (arith, length-enumerate_from 0 u.nodes)))
    ∙ sym (put_all-append u.entities [] (listed_of u b) (literals_of u b))

pub all_own : (u : CoreTrees) (k : ℕ) (xs : List (List ℕ)) → length u.nodes ≤ k → xs ≡ map (λ b. objects_to u k (Own b)) (range_with_len 0 (length u.nodes)) → xs ≡ map (λ n. objects_of u (Own n)) (range_with_len 0 (length u.nodes))
all_own u k xs l q = q ∙ same_lists_of (λ (b : ℕ). objects_to u k (Own b)) (λ (b : ℕ). objects_of u (Own b)) (length u.nodes) (λ b. sym (all_objects u k (Own b) l))

pub all_parts : (u : CoreTrees) (k : ℕ) (xs : List (List ℕ)) → length u.nodes ≤ k → xs ≡ map (λ b. objects_to u k (Part b)) (range_with_len 0 (length u.nodes)) → xs ≡ map (λ n. objects_of u (Part n)) (range_with_len 0 (length u.nodes))
all_parts u k xs l q = q ∙ same_lists_of (λ (b : ℕ). objects_to u k (Part b)) (λ (b : ℕ). objects_of u (Part b)) (length u.nodes) (λ b. sym (all_objects u k (Part b) l))

nothing_within : (u : CoreTrees) (b : Block) (xs : List (ℕ × Node)) → length u.nodes ≤ node_of b → filter_map (literal_within u b) xs ≡ []
nothing_within u b [] l = refl
nothing_within u b (x ∷ xs) l =
    ap (λ (t : Bool). cons_option (if t then literal_of u x.1.kind else None) (filter_map (literal_within u b) xs)) (not_innermost u b x.0 l)
    ∙ nothing_within u b xs l

nothing_listed : (u : CoreTrees) (b : Block) → length u.nodes ≤ node_of b → listed_of u b ≡ []
nothing_listed u (Own n) l = ap (λ (o : Option Node). listed_by (kind_in o)) (slice_get_past u.nodes n l)
nothing_listed u (Part n) l = refl

-- a block of a number that is beyond the nodes has no objects
pub no_objects : (u : CoreTrees) (b : Block) → length u.nodes ≤ node_of b → [] ≡ objects_of u b
unfolding objects_of
no_objects u b l = sym (ap (λ (w : List ℕ). put_all u.entities [] (w ++ literals_of u b)) (nothing_listed u b l) ∙ ap (put_all u.entities []) (nothing_within u b (enumerate_from 0 u.nodes) l))

-- The lists are read.

pub read_there : (f : ℕ → List ℕ) (n k : ℕ) (xs : List (List ℕ)) → xs ≡ map f (range_with_len 0 n) → k < n → get_or xs k [] ≡ f k
read_there f n k xs e l = ap (λ (w : List (List ℕ)). get_or w k []) e ∙ get_or-map-range_with_len f 0 n k k [] l (omega arith)

pub read_past : (f : ℕ → List ℕ) (n k : ℕ) (xs : List (List ℕ)) → xs ≡ map f (range_with_len 0 n) → n ≤ k → get_or xs k [] ≡ []
read_past f n k xs e l =
    let long : length xs ≡ n = ap length e ∙ length-map-range_with_len f 0 n in
    get_or_past xs k [] (omega arith)

pub read_own : (u : CoreTrees) (n : ℕ) (xs : List (List ℕ)) → xs ≡ map (λ b. objects_of u (Own b)) (range_with_len 0 (length u.nodes)) → get_or xs n [] ≡ objects_of u (Own n)
read_own u n xs e = elim (cases_lt n (length u.nodes)) [
  | inl l ↦ read_there (λ (b : ℕ). objects_of u (Own b)) (length u.nodes) n xs e l
  | inr l ↦ read_past (λ (b : ℕ). objects_of u (Own b)) (length u.nodes) n xs e l ∙ no_objects u (Own n) l
]

pub read_part : (u : CoreTrees) (n : ℕ) (xs : List (List ℕ)) → xs ≡ map (λ b. objects_of u (Part b)) (range_with_len 0 (length u.nodes)) → get_or xs n [] ≡ objects_of u (Part n)
read_part u n xs e = elim (cases_lt n (length u.nodes)) [
  | inl l ↦ read_there (λ (b : ℕ). objects_of u (Part b)) (length u.nodes) n xs e l
  | inr l ↦ read_past (λ (b : ℕ). objects_of u (Part b)) (length u.nodes) n xs e l ∙ no_objects u (Part n) l
]
