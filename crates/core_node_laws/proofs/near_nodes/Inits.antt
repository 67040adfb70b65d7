-- The expressions of an initialiser stand below it.
use Rattle.std.proofs.Common.{arith, ◌≡◌, ℕ, zero, suc, ◌+◌, ◌&&◌, cond, eqb, nat_lt, min, Bool, true, false, List, [], ◌∷◌, ◌++◌, map, length, Option, Some, None, slice_get, get_or, refl, sym, ap, ◌∙◌, subst}
use Rattle.std.specs.Prelude.{⊤}
use Rattle.c_types.specs.Trees.{Ctype}
use Rattle.c_grammar.specs.declared.trees.SyntaxNode.{SyntaxNode}
use Rattle.c_grammar.specs.Productions.{p_init, p_items, p_item, p_designator}
use Rattle.core_tree.specs.Rows.{Has}
use Rattle.c_inits.specs.Shapes.{Shape, Scalar, Elements, Structured, Overlaid, Path, SubObject}
use Rattle.c_inits.specs.Syntax.{Designator, Init, Items, Value, Braces, NoItems, Item, init_node}
use Rattle.c_inits.specs.Initial.{Placed, Action, Clears, Puts, Outcome, Places, NoPlace, Start, At, Nothing, starts, place, text_size, characters, given, fits, of_value, acts_under, joined, at_place, at_start, only_text, is_scalar, is_braced, or_text, initial, listed, is_under, cleared, lasting}
use Rattle.c_inits.specs.View as view
use Rattle.c_inits.specs.View.{SyntaxPart, AnInit, AList, AnItem, ADesignator, Other, list_part, init_part, or_first, first_list, first_init, all_designators, with_item, all_items, braced_or_value, index_or_name, part_over, parts, init_at, items_at}
use Rattle.core_nodes.specs.passed.c_senses.Tree.{children_of}
use Rattle.core_node_laws.proofs.near_nodes.Nearness.{AllNear, all_near}

module _ (near : ℕ → Type 0) where
  -- the expressions of an initialiser are near
  abbrev mutual
    pub ValuesNear : Init → Type 0
    ValuesNear (Value node type text) = near node
    ValuesNear (Braces node items) = ItemsNear items

    pub ItemsNear : Items → Type 0
    ItemsNear NoItems = ⊤
    ItemsNear (Item ds init rest) = ValuesNear init × ItemsNear rest

  abbrev PutsNear : List Action → Type 0
  PutsNear [] = ⊤
  PutsNear (Clears path ∷ rest) = PutsNear rest
  PutsNear (Puts p ∷ rest) = near p.node × PutsNear rest

  abbrev pub OutcomeNear : Outcome → Type 0
  OutcomeNear (Places actions) = PutsNear actions
  OutcomeNear (NoPlace node) = ⊤

  abbrev pub AllPlaced : List Placed → Type 0
  AllPlaced [] = ⊤
  AllPlaced (p ∷ rest) = near p.node × AllPlaced rest

  appended_near : (a b : List Action) → PutsNear a → PutsNear b → PutsNear (a ++ b)
  appended_near [] b h k = k
  appended_near (Clears path ∷ rest) b h k = appended_near rest b h k
  appended_near (Puts p ∷ rest) b h k = (h.0, appended_near rest b h.1 k)

  under_near : (path : Path) (a : List Action) → PutsNear a → PutsNear (map (acts_under path) a)
  under_near path [] h = tt
  under_near path (Clears p ∷ rest) h = under_near path rest h
  under_near path (Puts p ∷ rest) h = (h.0, under_near path rest h.1)

  characters_near : (node k n : ℕ) → near node → PutsNear (characters node k n)
  characters_near node k zero h = tt
  characters_near node k (suc n) h = (h, characters_near node (suc k) n h)

  either : (P : Outcome → Type 0) (b : Bool) (x y : Outcome) → P x → P y → P (cond b x y)
  either P true x y h k = h
  either P false x y h k = k

  given_near : (t : Shape) (node : ℕ) (type : Ctype) → near node → OutcomeNear (given t node type)
  given_near (Elements t of length) node type h = either OutcomeNear (nat_lt (suc length) (text_size type)) (NoPlace node) (Places (characters node 0 (min (text_size type) length))) tt (characters_near node 0 (min (text_size type) length) h)
  given_near (Scalar t) node type h = (h, tt)
  given_near (Structured t list) node type h = (h, tt)
  given_near (Overlaid t list) node type h = (h, tt)

  value_near : (t : Shape) (node : ℕ) (type : Ctype) (text : Bool) → near node → OutcomeNear (of_value t node type text)
  value_near t node type text h = either OutcomeNear (fits type text t) (given t node type) (NoPlace node) (given_near t node type h) tt

  joined_near : (path : Path) (this rest : Outcome) → OutcomeNear this → OutcomeNear rest → OutcomeNear (joined path this rest)
  joined_near path (NoPlace node) rest h k = tt
  joined_near path (Places actions) (NoPlace node) h k = tt
  joined_near path (Places actions) (Places more) h k = appended_near (map (acts_under path) actions) more (under_near path actions h) k

  place_near : (node : ℕ) (o : Option SubObject) (this : Shape → Outcome) (rest : Path → Outcome) → ((t : Shape) → OutcomeNear (this t)) → ((p : Path) → OutcomeNear (rest p)) → OutcomeNear (at_place node o this rest)
  place_near node None this rest h k = tt
  place_near node (Some s) this rest h k = joined_near s.path (this s.shape) (rest s.path) (h s.shape) (k s.path)

  start_near : (start : Start) (init : Init) (this : Shape → Outcome) (rest : Path → Outcome) → ((t : Shape) → OutcomeNear (this t)) → ((p : Path) → OutcomeNear (rest p)) → OutcomeNear (at_start start init this rest)
  start_near (Nothing node) init this rest h k = tt
  start_near (At subs) init this rest h k = place_near (init_node init) (place init subs) this rest h k

  abbrev TextNear : Option (ℕ × Ctype) → Type 0
  TextNear None = ⊤
  TextNear (Some v) = near v.0

  only_near : (items : Items) → ItemsNear items → TextNear (only_text items)
  only_near (Item [] (Value node type true) NoItems) h = h.0
  only_near items h = tt

  text_near : (t : Shape) (o : Option (ℕ × Ctype)) (list : Outcome) → TextNear o → OutcomeNear list → OutcomeNear (or_text t o list)
  text_near t None list h k = k
  text_near t (Some v) list h k = either OutcomeNear (fits v.1 true t && (cond (is_scalar t) false true)) (of_value t v.0 v.1 true) list (value_near t v.0 v.1 true h) k

  mutual
    pub initial_near : (t : Shape) (init : Init) → ValuesNear init → OutcomeNear (initial t init)
    initial_near t (Value node type text) h = value_near t node type text h
    initial_near t (Braces node items) h = text_near t (only_text items) (listed t None items) (only_near items h) (listed_near t None items h)

    listed_near : (t : Shape) (before : Option Path) (items : Items) → ItemsNear items → OutcomeNear (listed t before items)
    listed_near t before NoItems h = tt
    listed_near t before (Item ds init rest) h =
        start_near (starts t before ds) init _ _ (λ s. either OutcomeNear (is_scalar t && is_braced init) (NoPlace (init_node init)) (initial s init) tt (initial_near s init h.0)) (λ path. listed_near t (Some path) rest h.1)

  cleared_near : (path : Path) (list : List Placed) → AllPlaced list → AllPlaced (cleared path list)
  cleared_near path [] h = tt
  cleared_near path (p ∷ rest) h = by (is_under path p.path) (cleared_near path rest h.1)
    where
      by : (b : Bool) → AllPlaced (cleared path rest) → AllPlaced (cond b (cleared path rest) (p ∷ cleared path rest))
      by true more = more
      by false more = (h.0, more)

  one_more_near : (list : List Placed) (p : Placed) → AllPlaced list → near p.node → AllPlaced (list ++ p ∷ [])
  one_more_near [] p h k = (k, tt)
  one_more_near (q ∷ rest) p h k = (h.0, one_more_near rest p h.1 k)

  pub lasting_near : (so_far : List Placed) (actions : List Action) → AllPlaced so_far → PutsNear actions → AllPlaced (lasting so_far actions)
  lasting_near so_far [] h k = h
  lasting_near so_far (Clears path ∷ rest) h k = lasting_near (cleared path so_far) rest (cleared_near path so_far h) k
  lasting_near so_far (Puts p ∷ rest) h k = lasting_near (so_far ++ p ∷ []) rest (one_more_near so_far p h k.0) k.1

  -- ---- what a syntax tree's nodes are to an initialiser

  abbrev PartNear : SyntaxPart → Type 0
  PartNear (AnInit init) = ValuesNear init
  PartNear (AList items) = ItemsNear items
  PartNear (AnItem ds (Some init)) = ValuesNear init
  PartNear part = ⊤

  abbrev pub IfValues : Option Init → Type 0
  IfValues None = ⊤
  IfValues (Some init) = ValuesNear init

  abbrev pub IfItems : Option Items → Type 0
  IfItems None = ⊤
  IfItems (Some items) = ItemsNear items

  init_of : (x : SyntaxPart) → PartNear x → IfValues (init_part x)
  init_of (AnInit init) h = h
  init_of (AList items) h = tt
  init_of (AnItem ds o) h = tt
  init_of (ADesignator d) h = tt
  init_of Other h = tt

  items_of : (x : SyntaxPart) → PartNear x → IfItems (list_part x)
  items_of (AList items) h = h
  items_of (AnInit init) h = tt
  items_of (AnItem ds o) h = tt
  items_of (ADesignator d) h = tt
  items_of Other h = tt

  or_values : (a b : Option Init) → IfValues a → IfValues b → IfValues (or_first a b)
  or_values None b h k = k
  or_values (Some x) b h k = h

  or_items : (a b : Option Items) → IfItems a → IfItems b → IfItems (or_first a b)
  or_items None b h k = k
  or_items (Some x) b h k = h

  with_near : (x : SyntaxPart) (rest : Items) → PartNear x → ItemsNear rest → ItemsNear (with_item x rest)
  with_near (AnItem ds (Some init)) rest h k = (h, k)
  with_near (AnItem ds None) rest h k = k
  with_near (AnInit init) rest h k = k
  with_near (AList items) rest h k = k
  with_near (ADesignator d) rest h k = k
  with_near Other rest h k = k

  module _ (part : ℕ → SyntaxPart) (fine : (j : ℕ) → near j → PartNear (part j)) where
    list_near : (list : List ℕ) → AllNear near list → IfItems (first_list part list)
    list_near [] h = tt
    list_near (c ∷ rest) h = or_items (list_part (part c)) (first_list part rest) (items_of (part c) (fine c h.0)) (list_near rest h.1)

    inits_near : (list : List ℕ) → AllNear near list → IfValues (first_init part list)
    inits_near [] h = tt
    inits_near (c ∷ rest) h = or_values (init_part (part c)) (first_init part rest) (init_of (part c) (fine c h.0)) (inits_near rest h.1)

    all_items_near : (list : List ℕ) → AllNear near list → ItemsNear (all_items part list)
    all_items_near [] h = tt
    all_items_near (c ∷ rest) h = with_near (part c) (all_items part rest) (fine c h.0) (all_items_near rest h.1)

    braced_near : (v : view.Source) (i : ℕ) (o : Option Items) → near i → IfItems o → ValuesNear (braced_or_value v i o)
    braced_near v i None h k = h
    braced_near v i (Some items) h k = k

    item_near : (ds : List Designator) (o : Option Init) → IfValues o → PartNear (AnItem ds o)
    item_near ds None h = tt
    item_near ds (Some init) h = h

    part_near : (v : view.Source) (i : ℕ) (n : SyntaxNode) → near i → AllNear near n.children.items → PartNear (part_over v part i n)
    part_near v i n h k =
        choose (eqb n.production p_init) _ _ (braced_near v i (first_list part n.children.items) h (list_near n.children.items k))
        (choose (eqb n.production p_items) _ _ (all_items_near n.children.items k)
        (choose (eqb n.production p_item) _ _ (item_near (all_designators part n.children.items) (first_init part n.children.items) (inits_near n.children.items k))
        (choose (eqb n.production p_designator) (ADesignator (index_or_name v i (v.index_at i))) Other tt tt)))
      where
        choose : (b : Bool) (x y : SyntaxPart) → PartNear x → PartNear y → PartNear (cond b x y)
        choose true x y h k = h
        choose false x y h k = k

  one_part : (Q : ℕ → SyntaxPart → Type 0) (xs : List SyntaxPart) (x : SyntaxPart) → ((j : ℕ) → Q j (get_or xs j Other)) → Q (length xs) x → ((j : ℕ) → Q j Other) → (j : ℕ) → Q j (get_or (xs ++ x ∷ []) j Other)
  one_part Q [] x each h n zero = h
  one_part Q [] x each h n (suc j) = n (suc j)
  one_part Q (y ∷ ys) x each h n zero = each 0
  one_part Q (y ∷ ys) x each h n (suc j) = one_part (λ k p. Q (suc k) p) ys x (λ k. each (suc k)) h (λ k. n (suc k)) j

  one_longer : (xs : List SyntaxPart) (x : SyntaxPart) → length (xs ++ x ∷ []) ≡ suc (length xs)
  one_longer [] x = refl
  one_longer (y ∷ ys) x = ap suc (one_longer ys x)

  module _ (v : view.Source) (nodes : List SyntaxNode) (down : (i c : ℕ) → Has (children_of (slice_get nodes i)) c → near i → near c) where
    abbrev Fine : List SyntaxPart → Type 0
    Fine done = (j : ℕ) → near j → PartNear (get_or done j Other)

    parts_fine : (done : List SyntaxPart) (i : ℕ) (rest : List SyntaxNode) → length done ≡ i → ((k : ℕ) → slice_get nodes (i + k) ≡ slice_get rest k) → Fine done → Fine (parts v done i rest)
    parts_fine done i [] long at fine = fine
    parts_fine done i (n ∷ rest) long at fine =
        let x : SyntaxPart = part_over v (λ j. get_or done j Other) i n in
        let more : Fine (done ++ x ∷ []) = one_part (λ j p. near j → PartNear p) done x fine (subst (λ (k : ℕ). near k → PartNear x) (sym long) own) (λ j h. tt) in
        parts_fine (done ++ x ∷ []) (suc i) rest (one_longer done x ∙ ap suc long) (λ k. let e : suc i + k ≡ i + suc k = omega arith in ap (λ (j : ℕ). slice_get nodes j) e ∙ at (suc k)) more
      where
        here : slice_get nodes i ≡ Some n
        here = let e : i ≡ i + 0 = omega arith in ap (λ (j : ℕ). slice_get nodes j) e ∙ at 0

        own : near i → PartNear (part_over v (λ j. get_or done j Other) i n)
        own h =
            let below = λ (c : ℕ) (k : Has n.children.items c). down i c (subst (λ (o : Option SyntaxNode). Has (children_of o) c) (sym here) k) h in
            part_near (λ j. get_or done j Other) fine v i n h (all_near near n.children.items below)

    all_fine : Fine (parts v [] 0 nodes)
    all_fine = parts_fine [] 0 nodes refl (λ k. let e : 0 + k ≡ k = omega arith in ap (λ (j : ℕ). slice_get nodes j) e) (λ j h. tt)

    pub init_near : (i : ℕ) → near i → IfValues (init_at v nodes i)
    init_near i h = init_of (get_or (parts v [] 0 nodes) i Other) (all_fine i h)

    pub items_near : (i : ℕ) → near i → IfItems (items_at v nodes i)
    items_near i h = items_of (get_or (parts v [] 0 nodes) i Other) (all_fine i h)
