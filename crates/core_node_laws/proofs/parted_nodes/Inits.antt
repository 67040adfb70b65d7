-- The expressions of an initialiser stand below it, and are no suffixes.
use Rattle.std.proofs.Common.{arith, ◌≡◌, ◌==◌, nat_eq, ℕ, zero, suc, ◌+◌, cond, eqb, Bool, true, false, List, [], ◌∷◌, ◌++◌, length, Option, Some, None, slice_get, get_or, refl, sym, ap, ◌∙◌, subst}
use Rattle.std.specs.Prelude.{⊤}
use Rattle.std.proofs.lemmas.Bool.{eqb-true}
use Rattle.c_grammar.specs.declared.trees.SyntaxNode.{SyntaxNode}
use Rattle.c_grammar.specs.Productions.{p_init, p_items, p_item, p_designator, p_suffix}
use Rattle.core_tree.specs.Rows.{Has}
use Rattle.c_inits.specs.Syntax.{Designator, Init, Items}
use Rattle.c_inits.specs.View as view
use Rattle.c_inits.specs.View.{SyntaxPart, AnInit, AList, AnItem, ADesignator, Other, list_part, init_part, or_first, first_list, first_init, all_designators, with_item, all_items, braced_or_value, index_or_name, part_over, parts, init_at, items_at}
use Rattle.core_nodes.specs.passed.c_senses.Tree.{children_of, production_of}
use Rattle.core_node_laws.proofs.near_nodes.Nearness.{AllNear, all_near}
use Rattle.core_node_laws.proofs.near_nodes.Inits.{ValuesNear, ItemsNear, IfValues, IfItems}

module _ (near value : ℕ → Type 0) where
  -- ---- what a syntax tree's nodes are to an initialiser

  abbrev PartNear : SyntaxPart → Type 0
  PartNear (AnInit init) = ValuesNear value init
  PartNear (AList items) = ItemsNear value items
  PartNear (AnItem ds (Some init)) = ValuesNear value init
  PartNear part = ⊤

  init_of : (x : SyntaxPart) → PartNear x → IfValues value (init_part x)
  init_of (AnInit init) h = h
  init_of (AList items) h = tt
  init_of (AnItem ds o) h = tt
  init_of (ADesignator d) h = tt
  init_of Other h = tt

  items_of : (x : SyntaxPart) → PartNear x → IfItems value (list_part x)
  items_of (AList items) h = h
  items_of (AnInit init) h = tt
  items_of (AnItem ds o) h = tt
  items_of (ADesignator d) h = tt
  items_of Other h = tt

  or_values : (a b : Option Init) → IfValues value a → IfValues value b → IfValues value (or_first a b)
  or_values None b h k = k
  or_values (Some x) b h k = h

  or_items : (a b : Option Items) → IfItems value a → IfItems value b → IfItems value (or_first a b)
  or_items None b h k = k
  or_items (Some x) b h k = h

  with_near : (x : SyntaxPart) (rest : Items) → PartNear x → ItemsNear value rest → ItemsNear value (with_item x rest)
  with_near (AnItem ds (Some init)) rest h k = (h, k)
  with_near (AnItem ds None) rest h k = k
  with_near (AnInit init) rest h k = k
  with_near (AList items) rest h k = k
  with_near (ADesignator d) rest h k = k
  with_near Other rest h k = k

  module _ (part : ℕ → SyntaxPart) (fine : (j : ℕ) → near j → PartNear (part j)) where
    list_near : (list : List ℕ) → AllNear near list → IfItems value (first_list part list)
    list_near [] h = tt
    list_near (c ∷ rest) h = or_items (list_part (part c)) (first_list part rest) (items_of (part c) (fine c h.0)) (list_near rest h.1)

    inits_near : (list : List ℕ) → AllNear near list → IfValues value (first_init part list)
    inits_near [] h = tt
    inits_near (c ∷ rest) h = or_values (init_part (part c)) (first_init part rest) (init_of (part c) (fine c h.0)) (inits_near rest h.1)

    all_items_near : (list : List ℕ) → AllNear near list → ItemsNear value (all_items part list)
    all_items_near [] h = tt
    all_items_near (c ∷ rest) h = with_near (part c) (all_items part rest) (fine c h.0) (all_items_near rest h.1)

    braced_near : (v : view.Source) (i : ℕ) (o : Option Items) → value i → IfItems value o → ValuesNear value (braced_or_value v i o)
    braced_near v i None h k = h
    braced_near v i (Some items) h k = k

    item_near : (ds : List Designator) (o : Option Init) → IfValues value o → PartNear (AnItem ds o)
    item_near ds None h = tt
    item_near ds (Some init) h = h

    part_near : (v : view.Source) (i : ℕ) (n : SyntaxNode) → value i → AllNear near n.children.items → PartNear (part_over v part i n)
    part_near v i n h k =
        choose (eqb n.production p_init) _ _ (braced_near v i (first_list part n.children.items) h (list_near n.children.items k))
        (choose (eqb n.production p_items) _ _ (all_items_near n.children.items k)
        (choose (eqb n.production p_item) _ _ (item_near (all_designators part n.children.items) (first_init part n.children.items) (inits_near n.children.items k))
        (choose (eqb n.production p_designator) (ADesignator (index_or_name v i (v.index_at i))) Other tt tt)))
      where
        choose : (b : Bool) (x y : SyntaxPart) → PartNear x → PartNear y → PartNear (cond b x y)
        choose true x y h k = h
        choose false x y h k = k

  one_part : (Q : ℕ → SyntaxPart → Type 0) (xs : List SyntaxPart) (x : SyntaxPart) → ((j : ℕ) → Q j (get_or xs j Other)) → Q (length xs) x → ((j : ℕ) → Q j Other) → (j : ℕ) → Q j (get_or (xs ++ x ∷ []) j Other)
  one_part Q [] x each h n zero = h
  one_part Q [] x each h n (suc j) = n (suc j)
  one_part Q (y ∷ ys) x each h n zero = each 0
  one_part Q (y ∷ ys) x each h n (suc j) = one_part (λ k p. Q (suc k) p) ys x (λ k. each (suc k)) h (λ k. n (suc k)) j

  one_longer : (xs : List SyntaxPart) (x : SyntaxPart) → length (xs ++ x ∷ []) ≡ suc (length xs)
  one_longer [] x = refl
  one_longer (y ∷ ys) x = ap suc (one_longer ys x)

  module _ (v : view.Source) (nodes : List SyntaxNode) (down : (i c : ℕ) → Has (children_of (slice_get nodes i)) c → (production_of (slice_get nodes i) == p_suffix) ≡ false → near i → near c)
      (own_value : (i : ℕ) → (production_of (slice_get nodes i) == p_suffix) ≡ false → near i → value i)
    where
      abbrev Fine : List SyntaxPart → Type 0
      Fine done = (j : ℕ) → near j → PartNear (get_or done j Other)

      parts_fine : (done : List SyntaxPart) (i : ℕ) (rest : List SyntaxNode) → length done ≡ i → ((k : ℕ) → slice_get nodes (i + k) ≡ slice_get rest k) → Fine done → Fine (parts v done i rest)
      parts_fine done i [] long at fine = fine
      parts_fine done i (n ∷ rest) long at fine =
          let x : SyntaxPart = part_over v (λ j. get_or done j Other) i n in
          let more : Fine (done ++ x ∷ []) = one_part (λ j p. near j → PartNear p) done x fine (subst (λ (k : ℕ). near k → PartNear x) (sym long) own) (λ j h. tt) in
          parts_fine (done ++ x ∷ []) (suc i) rest (one_longer done x ∙ ap suc long) (λ k. let e : suc i + k ≡ i + suc k = omega arith in ap (λ (j : ℕ). slice_get nodes j) e ∙ at (suc k)) more
        where
          here : slice_get nodes i ≡ Some n
          here = let e : i ≡ i + 0 = omega arith in ap (λ (j : ℕ). slice_get nodes j) e ∙ at 0

          -- a suffix is no part of an initialiser
          part_by : (part : ℕ → SyntaxPart) → (n.production == p_suffix) ≡ true → PartNear (part_over v part i n)
          part_by part is =
              subst
              (λ (q : ℕ).
              PartNear
              (cond (eqb q p_init) (AnInit (braced_or_value v i (first_list part n.children.items)))
              (cond (eqb q p_items) (AList (all_items part n.children.items))
              (cond (eqb q p_item) (AnItem (all_designators part n.children.items) (first_init part n.children.items)) (cond (eqb q p_designator) (ADesignator (index_or_name v i (v.index_at i))) Other)))))
              (sym (eqb-true n.production p_suffix is)) tt

          own : near i → PartNear (part_over v (λ j. get_or done j Other) i n)
          own h = by (n.production == p_suffix) refl
            where
              of_node : (b : Bool) → (n.production == p_suffix) ≡ b → (production_of (slice_get nodes i) == p_suffix) ≡ b
              of_node b e = ap (λ (o : Option SyntaxNode). production_of o == p_suffix) here ∙ e

              by : (b : Bool) → nat_eq n.production p_suffix ≡ b → PartNear (part_over v (λ j. get_or done j Other) i n)
              by true e = part_by (λ j. get_or done j Other) e
              by false e =
                  let off = of_node false e in
                  let below = λ (c : ℕ) (k : Has n.children.items c). down i c (subst (λ (o : Option SyntaxNode). Has (children_of o) c) (sym here) k) off h in
                  part_near (λ j. get_or done j Other) fine v i n (own_value i off h) (all_near near n.children.items below)

      all_fine : Fine (parts v [] 0 nodes)
      all_fine = parts_fine [] 0 nodes refl (λ k. let e : 0 + k ≡ k = omega arith in ap (λ (j : ℕ). slice_get nodes j) e) (λ j h. tt)

      pub init_near : (i : ℕ) → near i → IfValues value (init_at v nodes i)
      init_near i h = init_of (get_or (parts v [] 0 nodes) i Other) (all_fine i h)

      pub items_near : (i : ℕ) → near i → IfItems value (items_at v nodes i)
      items_near i h = items_of (get_or (parts v [] 0 nodes) i Other) (all_fine i h)
