-- The values of an initialiser stand under its node, each once.
use Rattle.std.proofs.Common.{arith, ◌≡◌, ◌<◌, ◌≤◌, ◌+◌, ℕ, zero, suc, eqb, cond, Bool, true, false, List, [], ◌∷◌, ◌++◌, Option, Some, None, length, slice_get, get_or, refl, sym, ap, ◌∙◌, subst}
use Rattle.std.specs.Prelude.{⊤, ◌==◌}
use Rattle.c_grammar.specs.declared.trees.SyntaxNode.{SyntaxNode}
use Rattle.c_grammar.specs.Productions.{p_init, p_items, p_item, p_designator, p_assignment, p_post}
use Rattle.c_inits.specs.Syntax.{Designator, Init, Items}
use Rattle.c_inits.specs.View as view
use Rattle.c_inits.specs.View.{SyntaxPart, AnInit, AList, AnItem, ADesignator, Other, parts, part_over, list_part, or_first, first_list, init_part, first_init, with_designator, all_designators, with_item, all_items, braced_or_value, index_or_name}
use Rattle.c_senses.specs.Tree.{Source, production_of, children_of, is_a, production_at, children_at, child_of}
use Rattle.parsed_tree_laws.specs.span_laws.Spans.{Spans, over, Runs, no_more, one_more}
use Rattle.core_node_laws.specs.count_laws.count_rows.Counts.{init_total, items_total}
use Rattle.core_node_laws.specs.count_laws.count_rows.Covers.{IsIn}
use Rattle.core_node_laws.proofs.count_laws.Rooms.{Room, Claim, runs_le, balance_run, first_run, plain_room, apart}

-- a fact of each part by its number, where one is added
one_more_part : (P : ℕ → SyntaxPart → Type 0) (k : ℕ) (xs : List SyntaxPart) (x : SyntaxPart) → ((i : ℕ) → P (k + i) (get_or xs i Other)) → P (k + length xs) x → ((i : ℕ) → P i Other) → (i : ℕ) → P (k + i) (get_or (xs ++ x ∷ []) i Other)
one_more_part P k [] x each h n zero = h
one_more_part P k [] x each h n (suc i) = n (k + suc i)
one_more_part P k (y ∷ ys) x each h n zero = each 0
one_more_part P k (y ∷ ys) x each h n (suc i) =
    let move : (j : ℕ) → suc k + j ≡ k + suc j = λ j. omega arith in
    subst (λ (j : ℕ). P j (get_or (ys ++ x ∷ []) i Other)) (move i)
    (one_more_part P (suc k) ys x (λ j. subst (λ (q : ℕ). P q (get_or ys j Other)) (sym (move j)) (each (suc j))) (subst (λ (q : ℕ). P q x) (sym (move (length ys))) h) n i)

module _ (v : view.Source) (P : ℕ → SyntaxPart → Type 0) (none : (i : ℕ) → P i Other) (all : List SyntaxNode) (step : (i : ℕ) (n : SyntaxNode) (f : ℕ → SyntaxPart) → slice_get all i ≡ Some n → ((j : ℕ) → P j (f j)) → P i (part_over v f i n)) where
  behind_one : (before rest : List SyntaxNode) (n : SyntaxNode) → slice_get (before ++ n ∷ rest) (length before) ≡ Some n
  behind_one [] rest n = refl
  behind_one (x ∷ before) rest n = behind_one before rest n

  moved_on : (before rest : List SyntaxNode) (n : SyntaxNode) → before ++ n ∷ rest ≡ (before ++ n ∷ []) ++ rest
  moved_on [] rest n = refl
  moved_on (x ∷ before) rest n = ap (λ (l : List SyntaxNode). x ∷ l) (moved_on before rest n)

  longer : {A : Type 0} (xs : List A) (x : A) → length (xs ++ x ∷ []) ≡ suc (length xs)
  longer [] x = refl
  longer (y ∷ xs) x = ap suc (longer xs x)

  parts_hold : (before : List SyntaxNode) (done : List SyntaxPart) (i : ℕ) (rest : List SyntaxNode) → length before ≡ i → length done ≡ i → all ≡ before ++ rest → ((j : ℕ) → P j (get_or done j Other)) → (j : ℕ) → P j (get_or (parts v done i rest) j Other)
  parts_hold before done i [] lb ld e each j = each j
  parts_hold before done i (n ∷ rest) lb ld e each j =
      let x : SyntaxPart = part_over v (λ k. get_or done k Other) i n in
      let at : slice_get all i ≡ Some n = ap (λ (l : List SyntaxNode). slice_get l i) e ∙ (ap (slice_get (before ++ n ∷ rest)) (sym lb) ∙ behind_one before rest n) in
      let here : P i x = step i n (λ k. get_or done k Other) at each in
      let zero_and : (k : ℕ) → 0 + k ≡ k = λ k. omega arith in
      let each0 : (k : ℕ) → P (0 + k) (get_or done k Other) = λ k. subst (λ (q : ℕ). P q (get_or done k Other)) (sym (zero_and k)) (each k) in
      let here0 : P (0 + length done) x = subst (λ (q : ℕ). P q x) (sym (zero_and (length done) ∙ ld)) here in
      parts_hold (before ++ n ∷ []) (done ++ x ∷ []) (suc i) rest (longer before n ∙ ap suc lb) (longer done x ∙ ap suc ld) (e ∙ moved_on before rest n)
      (λ k. subst (λ (q : ℕ). P q (get_or (done ++ x ∷ []) k Other)) (zero_and k) (one_more_part P 0 done x each0 here0 none k)) j

  pub each_part : (j : ℕ) → P j (get_or (parts v [] 0 all) j Other)
  each_part j = parts_hold [] [] 0 all refl refl refl (λ k. none k) j

module _ (s : Source) (bound bodies N : ℕ → ℕ) (i : ℕ) (below : (j : ℕ) → j < i → Claim bound bodies s N j) (lists : (j c : ℕ) → IsIn (children_at s j) c → is_a s p_items c ≡ true → is_a s p_init j ≡ true → bodies c ≡ 0) (inits : (j c : ℕ) → IsIn (children_at s j) c → is_a s p_init c ≡ true → is_a s p_item j ≡ true → bodies c ≡ 0)
    (items : (c : ℕ) → is_a s p_item c ≡ true → bodies c ≡ 0) where
  -- what is counted for the value of an initialiser's node
  abbrev pub E : ℕ → ℕ
  E node = elim (child_of s p_assignment node) as (λ _. ℕ) [ None ↦ 0 | Some c ↦ N c ]

  abbrev pub of_part : SyntaxPart → ℕ
  of_part (AnInit init) = init_total E init
  of_part (AList list) = items_total E list
  of_part (AnItem designators (Some init)) = init_total E init
  of_part part = 0

  -- the production of a part
  abbrev Shape : ℕ → SyntaxPart → Type 0
  Shape j (AnInit init) = is_a s p_init j ≡ true
  Shape j (AList list) = is_a s p_items j ≡ true
  Shape j (AnItem designators o) = is_a s p_item j ≡ true
  Shape j part = ⊤

  abbrev R : ℕ → ℕ → ℕ → Type 0
  R k low high = Room bound bodies k low high

  abbrev Good : ℕ → SyntaxPart → Type 0
  Good j part = Shape j part × (j ≤ i → (low : ℕ) → Spans s low j → R (of_part part) low j)

  other_good : (j : ℕ) → Good j Other
  other_good j = (tt, λ le low span. by span le)
    where
      by : {low : ℕ} → Spans s low j → j ≤ i → R 0 low j
      by {low = low} (over runs) le = balance_run bound bodies s N i below low (children_at s j) j runs le

  runs_in : (low j : ℕ) → Spans s low j → Runs s low (children_at s j) j
  runs_in low j (over runs) = runs

  value_room : (j low : ℕ) → j ≤ i → Spans s low j → R (E j) low j
  value_room j low le span =
      first_run bound bodies s N i below N (is_a s p_assignment) low (children_at s j) j (runs_in low j span) le
      (λ c z at lt is sp. plain_room bound bodies s N c z (below c lt) sp (apart s p_assignment p_post c refl is))

  -- a part that brings no body of its own
  closed_room : (k low c : ℕ) → bodies c ≡ 0 → R k low c → R k low (suc c)
  closed_room k low c none h = omega (arith, none, h)

  module _ (f : ℕ → SyntaxPart) (good : (j : ℕ) → Good j (f j)) where
    total_list : Option Items → ℕ
    total_list None = 0
    total_list (Some list) = items_total E list

    total_init : Option Init → ℕ
    total_init None = 0
    total_init (Some init) = init_total E init

    list_room : (j low : ℕ) (list : List ℕ) (high : ℕ) → is_a s p_init j ≡ true → ((c : ℕ) → IsIn list c → IsIn (children_at s j) c) → Runs s low list high → high ≤ i → R (total_list (first_list f list)) low high
    unfolding total_list
    list_room j low list high is within no_more le = omega arith
    list_room j low list high is within (one_more {c = c} {rest = rest} span runs) le =
        let up = runs_le s (suc c) rest high runs in
        let lt : c < i = omega (arith, up, le) in
        by (f c) (good c) lt (balance_run bound bodies s N i below (suc c) rest high runs le) ((below c lt).balance low span) (list_room j (suc c) rest high is (λ d at. within d (suc at.0, at.1)) runs le)
      where
        by : (part : SyntaxPart) → Good c part → c < i → R 0 (suc c) high → R 0 low (suc c) → R (total_list (first_list f rest)) (suc c) high → R (total_list (or_first (list_part part) (first_list f rest))) low high
        by (AList own) g lt after here later = let mine = closed_room (items_total E own) low c (lists j c (within c (0, refl)) g.0 is) (g.1 (omega (arith, lt)) low span) in omega (arith, mine, after)
        by (AnInit init) g lt after here later = omega (arith, here, later)
        by (AnItem designators o) g lt after here later = omega (arith, here, later)
        by (ADesignator d) g lt after here later = omega (arith, here, later)
        by Other g lt after here later = omega (arith, here, later)

    init_room : (j low : ℕ) (list : List ℕ) (high : ℕ) → is_a s p_item j ≡ true → ((c : ℕ) → IsIn list c → IsIn (children_at s j) c) → Runs s low list high → high ≤ i → R (total_init (first_init f list)) low high
    unfolding total_init
    init_room j low list high is within no_more le = omega arith
    init_room j low list high is within (one_more {c = c} {rest = rest} span runs) le =
        let up = runs_le s (suc c) rest high runs in
        let lt : c < i = omega (arith, up, le) in
        by (f c) (good c) lt (balance_run bound bodies s N i below (suc c) rest high runs le) ((below c lt).balance low span) (init_room j (suc c) rest high is (λ d at. within d (suc at.0, at.1)) runs le)
      where
        by : (part : SyntaxPart) → Good c part → c < i → R 0 (suc c) high → R 0 low (suc c) → R (total_init (first_init f rest)) (suc c) high → R (total_init (or_first (init_part part) (first_init f rest))) low high
        by (AnInit init) g lt after here later = let mine = closed_room (init_total E init) low c (inits j c (within c (0, refl)) g.0 is) (g.1 (omega (arith, lt)) low span) in omega (arith, mine, after)
        by (AList own) g lt after here later = omega (arith, here, later)
        by (AnItem designators o) g lt after here later = omega (arith, here, later)
        by (ADesignator d) g lt after here later = omega (arith, here, later)
        by Other g lt after here later = omega (arith, here, later)

    items_room : (low : ℕ) (list : List ℕ) (high : ℕ) → Runs s low list high → high ≤ i → R (items_total E (all_items f list)) low high
    items_room low list high no_more le = omega arith
    items_room low list high (one_more {c = c} {rest = rest} span runs) le =
        let up = runs_le s (suc c) rest high runs in
        let lt : c < i = omega (arith, up, le) in
        by (f c) (good c) lt ((below c lt).balance low span) (items_room (suc c) rest high runs le)
      where
        by : (part : SyntaxPart) → Good c part → c < i → R 0 low (suc c) → R (items_total E (all_items f rest)) (suc c) high → R (items_total E (with_item part (all_items f rest))) low high
        by (AnItem designators (Some init)) g lt here later = let mine = closed_room (init_total E init) low c (items c g.0) (g.1 (omega (arith, lt)) low span) in omega (arith, mine, later)
        by (AnItem designators None) g lt here later = omega (arith, here, later)
        by (AnInit init) g lt here later = omega (arith, here, later)
        by (AList own) g lt here later = omega (arith, here, later)
        by (ADesignator d) g lt here later = omega (arith, here, later)
        by Other g lt here later = omega (arith, here, later)

    braced_room : (v : view.Source) (j low : ℕ) (o : Option Items) → j ≤ i → Spans s low j → R (total_list o) low j → R (init_total E (braced_or_value v j o)) low j
    unfolding total_list
    braced_room v j low None le span h = value_room j low le span
    braced_room v j low (Some list) le span h = h

    item_room : (low j : ℕ) (ds : List Designator) (o : Option Init) → R (total_init o) low j → R (of_part (AnItem ds o)) low j
    unfolding total_init
    item_room low j ds None h = h
    item_room low j ds (Some init) h = h

    all_in : (j c : ℕ) → IsIn (children_at s j) c → IsIn (children_at s j) c
    all_in j c h = h

    pub step_good : (v : view.Source) (j : ℕ) (n : SyntaxNode) → production_at s j ≡ n.production → children_at s j ≡ n.children.items → Good j (part_over v f j n)
    step_good v j n production children = by_init (eqb n.production p_init) refl
      where
        by_designator : (b : Bool) → Good j (cond b (ADesignator (index_or_name v j (v.index_at j))) Other)
        by_designator true = (tt, (other_good j).1)
        by_designator false = other_good j

        by_item : (b : Bool) → eqb n.production p_item ≡ b → Good j (cond b (AnItem (all_designators f n.children.items) (first_init f n.children.items)) (cond (eqb n.production p_designator) (ADesignator (index_or_name v j (v.index_at j))) Other))
        by_item true e =
            let is : is_a s p_item j ≡ true = ap (λ (p : ℕ). p == p_item) production ∙ e in
            (is, λ le low span. item_room low j (all_designators f n.children.items) (first_init f n.children.items) (subst (λ (l : List ℕ). R (total_init (first_init f l)) low j) children (init_room j low (children_at s j) j is (all_in j) (runs_in low j span) le)))
        by_item false e = by_designator (eqb n.production p_designator)

        by_items : (b : Bool) → eqb n.production p_items ≡ b
            → Good j (cond b (AList (all_items f n.children.items)) (cond (eqb n.production p_item) (AnItem (all_designators f n.children.items) (first_init f n.children.items)) (cond (eqb n.production p_designator) (ADesignator (index_or_name v j (v.index_at j))) Other)))
        by_items true e =
            let is : is_a s p_items j ≡ true = ap (λ (p : ℕ). p == p_items) production ∙ e in
            (is, λ le low span. subst (λ (l : List ℕ). R (items_total E (all_items f l)) low j) children (items_room low (children_at s j) j (runs_in low j span) le))
        by_items false e = by_item (eqb n.production p_item) refl

        by_init : (b : Bool) → eqb n.production p_init ≡ b
            → Good j (cond b (AnInit (braced_or_value v j (first_list f n.children.items))) (cond (eqb n.production p_items) (AList (all_items f n.children.items)) (cond (eqb n.production p_item) (AnItem (all_designators f n.children.items) (first_init f n.children.items)) (cond (eqb n.production p_designator) (ADesignator (index_or_name v j (v.index_at j))) Other))))
        by_init true e =
            let is : is_a s p_init j ≡ true = ap (λ (p : ℕ). p == p_init) production ∙ e in
            (is, λ le low span. braced_room v j low (first_list f n.children.items) le span (subst (λ (l : List ℕ). R (total_list (first_list f l)) low j) children (list_room j low (children_at s j) j is (all_in j) (runs_in low j span) le)))
        by_init false e = by_items (eqb n.production p_items) refl

  node_kids : (j : ℕ) (n : SyntaxNode) → slice_get s.nodes j ≡ Some n → (production_at s j ≡ n.production) × (children_at s j ≡ n.children.items)
  node_kids j n e = (ap production_of e, ap children_of e)

  good_parts : (v : view.Source) (j : ℕ) → Good j (get_or (parts v [] 0 s.nodes) j Other)
  good_parts v j = each_part v Good other_good s.nodes (λ k n f at good. let is = node_kids k n at in step_good f good v k n is.0 is.1) j

  -- the values of the initialiser, or of the list, that a node is
  pub init_values : (v : view.Source) (low : ℕ) (init : Init) → Spans s low i → view.init_at v s.nodes i ≡ Some init → R (init_total E init) low i
  init_values v low init span e = by (get_or (parts v [] 0 s.nodes) i Other) (good_parts v i) e
    where
      by : (part : SyntaxPart) → Good i part → init_part part ≡ Some init → R (init_total E init) low i
      by (AnInit own) g e = let same : own ≡ init = cc in subst (λ (x : Init). R (init_total E x) low i) same (g.1 (omega arith) low span)
      by (AList own) g e = cc
      by (AnItem designators o) g e = cc
      by (ADesignator d) g e = cc
      by Other g e = cc

  pub list_values : (v : view.Source) (low : ℕ) (list : Items) → Spans s low i → view.items_at v s.nodes i ≡ Some list → R (items_total E list) low i
  list_values v low list span e = by (get_or (parts v [] 0 s.nodes) i Other) (good_parts v i) e
    where
      by : (part : SyntaxPart) → Good i part → list_part part ≡ Some list → R (items_total E list) low i
      by (AList own) g e = let same : own ≡ list = cc in subst (λ (x : Items). R (items_total E x) low i) same (g.1 (omega arith) low span)
      by (AnInit own) g e = cc
      by (AnItem designators o) g e = cc
      by (ADesignator d) g e = cc
      by Other g e = cc
