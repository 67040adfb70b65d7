-- Under a node that stands by a covered tree, what names the object stands under a node that lists it.
use Rattle.std.proofs.Common.{◌≡◌, ◌||◌, nat_eq, ℕ, zero, suc, Bool, true, false, List, [], ◌∷◌, Option, Some, slice_get, refl, sym, ap, ◌∙◌, subst, ◌⊎◌, inl, inr}
use Rattle.std.proofs.lemmas.Bool.{eqb-true}
use Rattle.c_grammar.specs.Terminals.{contains}
use Rattle.core_tree.specs.declared.node.Unit.{Unit}
use Rattle.core_tree.specs.declared.node.Node.{Node}
use Rattle.core_tree.specs.declared.node.NodeKind.{NodeKind}
use Rattle.core_tree.specs.declared.node.NodeKind.TheVariants.{Named, Block, For, Initialise}
use Rattle.core_tree.specs.Typed.{trees_of}
use Rattle.core_tree.specs.Rows.{Has}
use Rattle.core_tree.specs.Range.{Under, here, below, IsChild, listed_by, listed_in}
use Rattle.core_tree.specs.Valid.{IsNamedOrMade}
use Rattle.core_tree.proofs.Climb.{child_has}
use Rattle.c_consts.specs.Core.{Core, Cores, Of, NoCores, MoreCores, kind_of}
use Rattle.c_senses.specs.Right.{Numbering, SameEntities, SameKind, StandsBy, AllStandBy}
use Rattle.declaration_laws.proofs.declared_type_laws.owner_laws.Walk.{named_is}
use Rattle.core_node_laws.proofs.count_laws.once_nodes.Rooted.{same_initialise}
use Rattle.valid_unit_laws.specs.object_initialiser_laws.listing_blocks.PassedOn.{ListsIt, IsBare, Covered, AllCovered}

some_same : {A : Type 0} → {x y : A} → ◌≡◌ {A = Option A} (Some x) (Some y) → x ≡ y
some_same e = cc

module _ (m : Numbering) (u : Unit) (d e : ℕ) (number : m d ≡ Some e) (one : (x : ℕ) → m x ≡ Some e → x ≡ d) where
  has_in : (ds es : List ℕ) → SameEntities m ds es → contains ds d ≡ true → Has es e
  has_in [] es h c = cc
  has_in (x ∷ ds) [] h c = absurd h
  has_in (x ∷ ds) (y ∷ es) h c = by (nat_eq x d) refl c (has_in ds es h.1)
    where
      by : (b : Bool) → nat_eq x d ≡ b → (b || contains ds d) ≡ true → (contains ds d ≡ true → Has es e) → Has (y ∷ es) e
      by true same c later = (0, sym h.0 ∙ (ap m (eqb-true x d same) ∙ number))
      by false other c later = let more = later c in (suc more.0, more.1)

  lists_has : (kind other : NodeKind) → SameKind m kind other → ListsIt d kind → Has (listed_by other) e
  lists_has (Block ds) (Block es) h l = has_in ds es h l
  lists_has (Block ds) other h l = absurd (let g : Block ds ≡ other = h in cc)
  lists_has (For ds c a) (For es x y) h l = has_in ds es h.0 l
  lists_has (For ds c a) other h l = absurd (let g : For ds c a ≡ other = h in cc)
  lists_has kind other h l = absurd l

  bare_not : (kind other : NodeKind) → SameKind m kind other → IsBare d kind → IsNamedOrMade other e → ⊥
  bare_not kind (Named o) h bare is = let own = named_is m kind (Named o) o h refl in (subst (λ (k : NodeKind). IsBare d k) own.1 bare) (one own.0 (own.2 ∙ ap (λ (k : ℕ). Some k) is))
  bare_not kind (Initialise o paths) h bare is =
      let (x, own, same, numbered) = same_initialise m kind o paths h in (subst (λ (k : NodeKind). IsBare d k) same bare) (one x (numbered ∙ ap (λ (k : ℕ). Some k) is))
  bare_not kind other h bare is = absurd is

  -- a node that stands by a tree that lists the object lists the entity
  pub stands_lists : (n : ℕ) (c : Core) → StandsBy m u n c → ListsIt d (kind_of c) → (node : Node) × (slice_get u.nodes.items n ≡ Some node) × Has (listed_in node) e
  stands_lists n (Of kind place type under) (node, at, same, place_is, type_is, are) l = (node, at, lists_has kind node.kind same l)

  -- a node that lists the entity above another one
  abbrev pub ListsAbove : ℕ → Type 0
  ListsAbove n = (l : ℕ) × (node : Node) × (slice_get u.nodes.items l ≡ Some node) × Has (listed_in node) e × Under (trees_of u) l n

  abbrev IsCovered : ℕ → Type 0
  IsCovered n = (c : Core) × StandsBy m u n c × Covered d c

  child_covered : (is : List ℕ) (under : Cores) (k n : ℕ) → AllStandBy m u is under → AllCovered d under → slice_get is k ≡ Some n → IsCovered n
  child_covered is NoCores k n stand all e = let none : slice_get [] k ≡ Some n = subst (λ (l : List ℕ). slice_get l k ≡ Some n) stand e in cc
  child_covered is (MoreCores c rest) k n (i, more, same, own, others) all e = by k (subst (λ (l : List ℕ). slice_get l k ≡ Some n) same e) (λ j f. child_covered more rest j n others all.1 f)
    where
      by : (k : ℕ) → slice_get (i ∷ more) k ≡ Some n → ((j : ℕ) → slice_get more j ≡ Some n → IsCovered n) → IsCovered n
      by zero f later = let same : i ≡ n = cc in subst IsCovered same (c, own, all.0)
      by (suc j) f later = later j f

  step : (p n : ℕ) → IsChild (trees_of u) p n → ListsAbove p ⊎ IsCovered p → ListsAbove n ⊎ IsCovered n
  step p n child (inl (l, node, at, has, up)) = inl (l, node, at, has, below up child)
  step p n child (inr (Of kind place type under, (node, at, same, place_is, type_is, are), inl lists)) = inl (p, node, at, lists_has kind node.kind same lists, below here child)
  step p n child (inr (Of kind place type under, (node, at, same, place_is, type_is, are), inr (bare, all))) =
      let has = child_has (trees_of u) p n node at child in
      inr (child_covered node.children under has.0 n are all has.1)

  down : (top n : ℕ) → Under (trees_of u) top n → ListsAbove top ⊎ IsCovered top → ListsAbove n ⊎ IsCovered n
  down top n here h = h
  down top n (below {parent = p} up child) h = step p n child (down top p up h)

  -- what names the entity stands under a node that lists it
  pub names_below : (top n : ℕ) (core : Core) (node : Node) → StandsBy m u top core → Covered d core → Under (trees_of u) top n → slice_get u.nodes.items n ≡ Some node → IsNamedOrMade node.kind e → ListsAbove n
  names_below top n core node stands covered under there names = by (down top n under (inr (core, stands, covered)))
    where
      by : ListsAbove n ⊎ IsCovered n → ListsAbove n
      by (inl h) = h
      by (inr (Of kind place type parts, (own, at, same, place_is, type_is, are), inl lists)) = (n, own, at, lists_has kind own.kind same lists, here)
      by (inr (Of kind place type parts, (own, at, same, place_is, type_is, are), inr (bare, all))) =
          absurd (bare_not kind own.kind same bare (subst (λ (x : Node). IsNamedOrMade x.kind e) (some_same (sym there ∙ at)) names))
