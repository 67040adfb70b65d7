-- Two nodes that list one entity are one.
use Rattle.std.proofs.Common.{arith, ◌≡◌, ◌≤◌, ◌<◌, ◌&&◌, ◌||◌, ℕ, zero, suc, Bool, true, false, List, [], ◌∷◌, ◌++◌, Option, Some, None, take, length, slice_get, refl, sym, ◌∙◌, subst, inl, inr}
use Rattle.std.specs.Prelude.{if◌then◌else◌}
use Rattle.pta_base.specs.declared.place.Place.{Place}
use Rattle.c_grammar.specs.Productions.{p_declaration, p_block, p_statement, p_expression}
use Rattle.c_grammar.specs.Terminals.{contains}
use Rattle.core_tree.specs.declared.node.Unit.{Unit}
use Rattle.core_tree.specs.declared.node.Node.{Node}
use Rattle.core_tree.specs.declared.node.NodeKind.{NodeKind}
use Rattle.core_tree.specs.declared.node.NodeKind.TheVariants.{Named, FunctionName, Literal, VarArgs, Initialise, Block, For}
use Rattle.core_tree.specs.Rows.{Has}
use Rattle.core_tree.specs.Range.{listed_by, listed_in}
use Rattle.c_senses.specs.Tree.{Source, is_a, children_at}
use Rattle.c_senses.specs.World.{World}
use Rattle.c_senses.specs.Sense.{Sense, sense_in}
use Rattle.c_senses.specs.Statements.{ForParts, objects_declared, objects_in, for_objects, for_parts}
use Rattle.c_senses.specs.Rows.{world_at}
use Rattle.c_senses.specs.Right.{Numbering, SameEntities, SameKind}
use Rattle.parsed_tree_laws.specs.family_laws.Families.{Families}
use Rattle.parsed_tree_laws.proofs.placed_laws.Climbing.{Grown}
use Rattle.parsed_tree_laws.specs.span_laws.Spans.{Spanned}
use Rattle.core_node_laws.proofs.near_nodes.Giving.{if_holds}
use Rattle.core_node_laws.specs.count_laws.count_rows.Counts.{own_weight}
use Rattle.core_node_laws.specs.count_laws.Counting.{sum_below, Makes}
use Rattle.core_node_laws.specs.count_laws.once_nodes.Once.{IsLaid, apart_from_names, Weighs}
use Rattle.core_node_laws.proofs.count_laws.once_nodes.Whole.{nodes_once}
use Rattle.core_node_laws.proofs.count_laws.single_nodes.Places.{once_only}
use Rattle.valid_unit_laws.specs.object_initialiser_laws.listed_declarations.Listed.{AreApart}
use Rattle.valid_unit_laws.proofs.object_initialiser_laws.listed_declarations.Apart.{head_in, next_in, either_list}
use Rattle.valid_unit_laws.proofs.object_initialiser_laws.listed_once.Sums.{one_if, most_one, is_one, one_is, less_if}

and_parts : (a b : Bool) → (a && b) ≡ true → (a ≡ true) × (b ≡ true)
and_parts true b e = (refl, e)
and_parts false b e = cc

-- ---- what a block or a `for` lists

module _ (w : World) (s : Source) (f : ℕ → Sense) (d : ℕ) where
  -- the declaration among some nodes that lists the object
  pub record Listing (ks : List ℕ) : Type 0 where
    pub declaration : ℕ
    pub child : contains ks declaration ≡ true
    pub is : is_a s p_declaration declaration ≡ true
    pub has : contains (objects_declared w s f declaration) d ≡ true

  further : (k : ℕ) (ks : List ℕ) → Listing ks → Listing (k ∷ ks)
  further k ks l = record { declaration = l.declaration; child = next_in k l.declaration ks l.child; is = l.is; has = l.has }

  pub in_objects : (ks : List ℕ) → contains (objects_in w s f ks) d ≡ true → Listing ks
  in_objects [] h = cc
  in_objects (c ∷ rest) h = by (is_a s p_declaration c) refl h (λ g. further c rest (in_objects rest g))
    where
      by : (b : Bool) → is_a s p_declaration c ≡ b → contains (if b then objects_declared w s f c ++ objects_in w s f rest else objects_in w s f rest) d ≡ true → (contains (objects_in w s f rest) d ≡ true → Listing (c ∷ rest)) → Listing (c ∷ rest)
      by true e g later = elim (either_list (objects_declared w s f c) (objects_in w s f rest) d g) [
        | inl own ↦ record { declaration = c; child = head_in c rest; is = e; has = own }
        | inr more ↦ later more
      ]
      by false e g later = later g

  abbrev InFor : List ℕ → Option ℕ → Type 0
  InFor ks o = contains (for_objects w s f o) d ≡ true → Listing ks

  of_some : (c : ℕ) (rest : List ℕ) → InFor (c ∷ rest) (Some c)
  of_some c rest = by (is_a s p_declaration c) refl
    where
      by : (b : Bool) → is_a s p_declaration c ≡ b → contains (if b then objects_declared w s f c else []) d ≡ true → Listing (c ∷ rest)
      by true e g = record { declaration = c; child = head_in c rest; is = e; has = g }
      by false e g = cc

  of_none : (ks : List ℕ) → InFor ks None
  of_none ks h = cc

  pub in_for : (ks : List ℕ) → InFor ks (for_parts w s f ks).first
  in_for [] = of_none []
  in_for (c ∷ rest) = if_holds (λ (p : ForParts). InFor (c ∷ rest) p.first) (is_a s p_declaration c) _ _ (of_some c rest) (by (is_a s p_expression c))
    where
      by : (b : Bool) → InFor (c ∷ rest) (if b then Some c else None)
      by true = of_some c rest
      by false = of_none (c ∷ rest)

-- ---- nodes of the tree that list an object

abbrev pub list_weight : ℕ → NodeKind → Place → ℕ
list_weight d (Block es) place = one_if (contains es d)
list_weight d (For es c a) place = one_if (contains es d)
list_weight d kind place = 0

module _ (s : Source) (senses : List Sense) (grown : Grown s) (apart : AreApart s senses) (d : ℕ) where
  abbrev W : ℕ → World
  W i = world_at s (take i senses) i

  abbrev F : ℕ → ℕ → Sense
  F i = sense_in (take i senses)

  abbrev for_lists : ℕ → List ℕ → List ℕ
  for_lists i (word ∷ parenthesis ∷ rest) = for_objects (W i) s (F i) (for_parts (W i) s (F i) rest).first
  for_lists i children = []

  abbrev block_has : ℕ → Bool
  block_has i = contains (objects_in (W i) s (F i) (children_at s i)) d

  abbrev for_has : ℕ → Bool
  for_has i = contains (for_lists i (children_at s i)) d

  abbrev pub found : ℕ → Bool
  found i = (is_a s p_block i && block_has i) || (is_a s p_statement i && for_has i)

  first_or : (a b c : Bool) → a ≡ true → b ≡ true → ((a && b) || c) ≡ true
  first_or true true c x y = refl
  first_or true false c x y = cc
  first_or false b c x y = cc

  second_or : (a b c : Bool) → b ≡ true → c ≡ true → (a || (b && c)) ≡ true
  second_or true b c x y = refl
  second_or false true c x y = y
  second_or false false c x y = cc

  for_listing : (i : ℕ) (ks : List ℕ) → contains (for_lists i ks) d ≡ true → Listing (W i) s (F i) d ks
  for_listing i (word ∷ parenthesis ∷ rest) h = further (W i) s (F i) d word (parenthesis ∷ rest) (further (W i) s (F i) d parenthesis rest (in_for (W i) s (F i) d rest h))
  for_listing i [] h = cc
  for_listing i (word ∷ []) h = cc

  listing : (i : ℕ) → found i ≡ true → Listing (W i) s (F i) d (children_at s i)
  listing i h = by (is_a s p_block i && block_has i) refl h
    where
      by : (b : Bool) → (is_a s p_block i && block_has i) ≡ b → (b || (is_a s p_statement i && for_has i)) ≡ true → Listing (W i) s (F i) d (children_at s i)
      by true e g = in_objects (W i) s (F i) d (children_at s i) (and_parts (is_a s p_block i) (block_has i) e).1
      by false e g = for_listing i (children_at s i) (and_parts (is_a s p_statement i) (for_has i) g).1

  one_found : (i j : ℕ) → found i ≡ true → found j ≡ true → i ≡ j
  one_found i j a b =
      let x = listing i a in
      let y = listing j b in
      let same : x.declaration ≡ y.declaration = apart (W i) (W j) i j x.declaration y.declaration d x.is y.is x.has y.has in
      grown.once i j x.declaration x.child (subst (λ (c : ℕ). contains (children_at s j) c ≡ true) (sym same) y.child)

  abbrev pub bound : ℕ → ℕ
  bound i = one_if (found i)

  pub bound_once : (k : ℕ) → sum_below bound k ≤ 1
  bound_once k = once_only bound k (λ i. most_one (found i)) (λ i j a b. one_found i j (is_one (found i) a) (is_one (found j) b))

  pub made : Makes (apart_from_names s senses (list_weight d)) s senses bound
  made = record {
    texts = λ i first rest bytes is e there. omega arith;
    calls = λ i first rest is e there. omega arith;
    objects = λ i declarator leaf paths is by_it named. omega arith;
    literals = λ i p paths is parent kind typed. omega arith;
    blocks = λ i is. less_if (block_has i) (found i) (λ h. first_or (is_a s p_block i) (block_has i) (is_a s p_statement i && for_has i) is h);
    loops = λ i word parenthesis rest c a is e. less_if (contains (for_lists i (word ∷ parenthesis ∷ rest)) d) (found i)
        (λ h. second_or (is_a s p_block i && block_has i) (is_a s p_statement i) (for_has i) is (subst (λ (l : List ℕ). contains (for_lists i l) d ≡ true) (sym e) h));
  }

-- ---- nodes of a unit

module _ (s : Source) (senses : List Sense) (m : Numbering) (d e : ℕ) (one : (x : ℕ) → m x ≡ Some e → x ≡ d) where
  found_in : (ds es : List ℕ) → SameEntities m ds es → Has es e → contains ds d ≡ true
  found_in [] [] h (k, at) = cc
  found_in (x ∷ ds) (y ∷ es) h (zero, at) = let same : x ≡ d = one x (h.0 ∙ at) in subst (λ (z : ℕ). contains (x ∷ ds) z ≡ true) same (head_in x ds)
  found_in (x ∷ ds) (y ∷ es) h (suc k, at) = next_in x d ds (found_in ds es h.1 (k, at))
  found_in [] (y ∷ es) h has = absurd h
  found_in (x ∷ ds) [] h has = absurd h

  abbrev weighed : NodeKind → Place → ℕ
  weighed kind place = own_weight (apart_from_names s senses (list_weight d)) kind place

  of_block : (kind : NodeKind) (es : List ℕ) (place : Place) → SameKind m kind (Block es) → Has es e → 1 ≤ weighed kind place
  of_block (Block ds) es place h has = one_is (contains ds d) (found_in ds es h has)
  of_block (For ds c a) es place h has = absurd (let g : For ds c a ≡ Block es = h in cc)
  of_block (Named x) es place h has = absurd (let g : Named x ≡ Block es = h in cc)
  of_block (FunctionName x) es place h has = absurd (let g : FunctionName x ≡ Block es = h in cc)
  of_block (Literal x) es place h has = absurd (let g : Literal x ≡ Block es = h in cc)
  of_block (VarArgs x) es place h has = absurd (let g : VarArgs x ≡ Block es = h in cc)
  of_block (Initialise x paths) es place h has = absurd (let g : Initialise x paths ≡ Block es = h in cc)
  of_block kind es place h has = absurd (let g : kind ≡ Block es = h in cc)

  of_for : (kind : NodeKind) (es : List ℕ) (x y : Bool) (place : Place) → SameKind m kind (For es x y) → Has es e → 1 ≤ weighed kind place
  of_for (For ds c a) es x y place h has = one_is (contains ds d) (found_in ds es h.0 has)
  of_for (Block ds) es x y place h has = absurd (let g : Block ds ≡ For es x y = h in cc)
  of_for (Named z) es x y place h has = absurd (let g : Named z ≡ For es x y = h in cc)
  of_for (FunctionName z) es x y place h has = absurd (let g : FunctionName z ≡ For es x y = h in cc)
  of_for (Literal z) es x y place h has = absurd (let g : Literal z ≡ For es x y = h in cc)
  of_for (VarArgs z) es x y place h has = absurd (let g : VarArgs z ≡ For es x y = h in cc)
  of_for (Initialise z paths) es x y place h has = absurd (let g : Initialise z paths ≡ For es x y = h in cc)
  of_for kind es x y place h has = absurd (let g : kind ≡ For es x y = h in cc)

  of_kind : (kind other : NodeKind) (place : Place) → SameKind m kind other → Has (listed_by other) e → 1 ≤ weighed kind place
  of_kind kind (Block es) place h has = of_block kind es place h has
  of_kind kind (For es x y) place h has = of_for kind es x y place h has
  of_kind kind other place h has = cc

  pub weighs : (node : Node) → Has (listed_in node) e → Weighs s senses m (list_weight d) node
  weighs node has kind place same at = of_kind kind node.kind place same has

-- two nodes that list an entity are one
pub one_lister : (s : Source) (senses : List Sense) (m : Numbering) (u : Unit) → Grown s → AreApart s senses → Spanned s → Families s → IsLaid s senses m u → (e : ℕ) → e < length u.entities.items
    → (x y : ℕ) (node other : Node) → slice_get u.nodes.items x ≡ Some node → slice_get u.nodes.items y ≡ Some other → Has (listed_in node) e → Has (listed_in other) e → x ≡ y
one_lister s senses m u grown apart spanned families laid e lt x y node other at there has also =
    let (d, what, declared, number) = laid.no_other_entity e lt in
    let one : (z : ℕ) → m z ≡ Some e → z ≡ d = λ z h. laid.entity_once z d e h number in
    nodes_once s senses m u (list_weight d) (bound s senses grown apart d) spanned families laid (made s senses grown apart d) (bound_once s senses grown apart d (length s.nodes))
    x y node other at there (weighs s senses m d e one node has) (weighs s senses m d e one other also)
