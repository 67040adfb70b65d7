-- The bodies of functions of a unit that is read.
use Rattle.std.proofs.Common.{length, ◌≡◌, ℕ, zero, suc, ◌||◌, ◌&&◌, not, nat_eq, Bool, true, false, Ok, List, [], ◌∷◌, map, Option, Some, None, slice_get, refl, sym, ap, ◌∙◌, subst, inl, inr}
use Rattle.std.specs.Prelude.{is_some, if◌then◌else◌}
use Rattle.std.proofs.lemmas.Bool.{eqb-true}
use Rattle.c_lexer.specs.declared.Token.{Token}
use Rattle.c_lexer.specs.declared.Tokens.{Tokens}
use Rattle.c_lexer.specs.Cut.{IsTokens}
use Rattle.pta_base.specs.declared.place.Place.{Place}
use Rattle.c_types.specs.Trees.{Ctype}
use Rattle.c_grammar.specs.declared.trees.SyntaxNode.{SyntaxNode}
use Rattle.c_grammar.specs.declared.trees.Tree.{Tree as SyntaxTree}
use Rattle.c_grammar.specs.Names.{no_names}
use Rattle.c_grammar.specs.Productions.{p_unit, p_external, p_block, p_declarator, p_abstract, p_either}
use Rattle.c_grammar.specs.Tree.{makes_node}
use Rattle.c_grammar.specs.Reads.{State, Node, node_of, leaf, opened, Walks, Opens}
use Rattle.c_parser.specs.Parse.{begin}
use Rattle.c_parser.specs.c_units.Units.{IsUnit}
use Rattle.c_mentions.specs.Syntax as syntax
use Rattle.core_tree.specs.declared.node.Unit.{Unit}
use Rattle.core_tree.specs.declared.node.Node.{Node as CoreNode}
use Rattle.core_tree.specs.declared.node.NodeKind.{NodeKind}
use Rattle.core_tree.specs.declared.node.NodeKind.TheVariants.{Block}
use Rattle.core_tree.specs.declared.node.Entity.{Entity}
use Rattle.core_tree.specs.declared.node.Storage.TheVariants.{FunctionBody}
use Rattle.core_tree.specs.Typed.{trees_of}
use Rattle.core_tree.specs.Range.{node_at}
use Rattle.core_tree.specs.Rows.{IsFunction}
use Rattle.core_tree.specs.Valid.{IsBlock, IsBlockIn}
use Rattle.c_consts.specs.Core.{Core, Cores, Of}
use Rattle.c_senses.specs.Names.{source_of, numbered}
use Rattle.c_senses.specs.Rows.{AreSenses}
use Rattle.c_senses.specs.Sense.{Sense}
use Rattle.c_senses.specs.Tree.{Source, production_of, children_of, children_at, is_a, first_where}
use Rattle.c_senses.specs.Declarators.{is_declarator}
use Rattle.c_senses.specs.Right.{Numbering, StandsBy, SameKind, SameBody}
use Rattle.declaration_laws.specs.definition_laws.Definitions.{is_definition}
use Rattle.parsed_tree_laws.proofs.placed_laws.Once.{Extends}
use Rattle.parsed_tree_laws.proofs.placed_laws.Adding.{All}
use Rattle.declaration_laws.specs.definition_laws.passed.built_unit_laws.built_units.Built.{IsBuilt}
use Rattle.declaration_laws.proofs.definition_laws.linkage_laws.Every.{every}
use Rattle.declaration_laws.proofs.definition_laws.linkage_laws.Inverting.{node_opened}
use Rattle.declaration_laws.proofs.definition_laws.linkage_laws.Seen.{nodes, no_both, production_is}
use Rattle.declaration_laws.proofs.definition_laws.linkage_laws.Linked.{stands_linked}
use Rattle.declaration_laws.proofs.definition_laws.linkage_laws.Reading.{tree_is}
use Rattle.declaration_laws.proofs.definition_laws.linkage_laws.Unlinked.{made, Made}
use Rattle.declaration_laws.proofs.definition_laws.function_definitions.Reading.{definitions_declare, heads}
use Rattle.declaration_laws.proofs.definition_laws.function_definitions.Whole as whole_of
use Rattle.declaration_laws.proofs.function_laws.function_bodies.Heads.{Heads, Parts, heads_on, external_read, no_block}
use Rattle.declaration_laws.proofs.function_laws.function_bodies.Standing.{stored, Stored}
use Rattle.declaration_laws.specs.function_laws.function_bodies.Bodies.{FunctionFits, FunctionsStand}

right : (a b : Bool) → (a && b) ≡ true → b ≡ true
right true b e = e
right false b e = cc

left : (a b : Bool) → (a && b) ≡ true → a ≡ true
left true b e = refl
left false b e = cc

module _ (text : List ℕ) (tokens : List Token) where
  Good : List Node → Node → Type 0
  Good nodes n = n.production ≡ p_external → Heads nodes n.children

  good_on : (a b : List Node) (n : Node) → Extends a b → Good a n → Good b n
  unfolding Good
  good_on a b n x g = λ is. heads_on a b n.children x (g is)

  leaf_good : (nodes : List Node) (place : ℕ) → Good nodes (record { production = leaf; token = place; children = [] })
  unfolding Good
  leaf_good nodes place = λ is. inl tt

  own_good : (q d : ℕ) (s u : State) → makes_node q ≡ true → Walks text tokens q 0 d (opened q s) (Ok u) → Good u.nodes (record { production = q; token = s.place; children = u.children })
  unfolding Good
  own_good q d s u node w = λ is. external_read text tokens d (opened q s) u (ap (λ (x : State). x.children) (node_opened q s node)) (subst (λ (p : ℕ). Walks text tokens p 0 d (opened q s) (Ok u)) is w)

  pub all_heads : (q d : ℕ) (s t : State) → s.nodes ≡ [] → Opens text tokens q d s (Ok t) → (i : ℕ) (n : Node) → slice_get t.nodes i ≡ Some n → n.production ≡ p_external → Heads t.nodes n.children
  unfolding Good
  all_heads q d s t none o i n e = every text tokens Good good_on leaf_good own_good q d s t none o i n e

there_node : (items : List SyntaxNode) (k : ℕ) (n : SyntaxNode) → slice_get items k ≡ Some n → slice_get (map node_of items) k ≡ Some (node_of n)
there_node [] k n e = cc
there_node (x ∷ items) zero n e = let same : x ≡ n = cc in ap (λ (m : SyntaxNode). Some (node_of m)) same
there_node (x ∷ items) (suc k) n e = there_node items k n e

produced : (items : List SyntaxNode) (k : ℕ) (m : Node) → slice_get (map node_of items) k ≡ Some m → production_of (slice_get items k) ≡ m.production
produced [] k m e = cc
produced (x ∷ items) zero m e = let same : node_of x ≡ m = cc in ap (λ (n : Node). n.production) same
produced (x ∷ items) (suc k) m e = produced items k m e

none_found : (items : List SyntaxNode) (ks : List ℕ) → All no_block (map node_of items) ks → is_some (first_where (λ c. nat_eq (production_of (slice_get items c)) p_block) ks) ≡ false
none_found items [] h = refl
none_found items (k ∷ ks) h = by (nat_eq (production_of (slice_get items k)) p_block) refl (none_found items ks h.1)
  where
    by : (b : Bool) → nat_eq (production_of (slice_get items k)) p_block ≡ b → is_some (first_where (λ c. nat_eq (production_of (slice_get items c)) p_block) ks) ≡ false
        → is_some (if b then Some k else first_where (λ c. nat_eq (production_of (slice_get items c)) p_block) ks) ≡ false
    by true e later = absurd (let bad : not (nat_eq (production_of (slice_get items k)) 29) ≡ true = subst (λ (q : ℕ). not (nat_eq q 29) ≡ true) (sym (produced items k h.0.0 h.0.1)) h.0.2 in let no : not true ≡ true = subst (λ (b : Bool). not b ≡ true) e bad in cc)
    by false e later = later

module _ (tokens : Tokens) (unit : ℕ) (tree : SyntaxTree) (is : IsUnit tokens unit tree) where
  abbrev items : List SyntaxNode
  items = tree.nodes.items

  external : (i : ℕ) (n : SyntaxNode) → slice_get items i ≡ Some n → n.production ≡ p_external → Heads (map node_of items) n.children.items
  external i n e p =
      let read = is.0 in
      subst (λ (l : List Node). Heads l n.children.items) read.2
      (all_heads tokens.text.now tokens.list.items p_unit 0 (begin 0 no_names []) read.0 refl read.1 i (node_of n) (subst (λ (l : List Node). slice_get l i ≡ Some (node_of n)) (sym read.2) (there_node items i n e)) p)

  pub parts : (d : ℕ) → (nat_eq (production_of (slice_get items d)) p_external && is_some (first_where (λ c. nat_eq (production_of (slice_get items c)) p_block) (children_of (slice_get items d)))) ≡ true → Parts (map node_of items) (children_of (slice_get items d))
  parts d h = by (slice_get items d) refl h
    where
      by : (o : Option SyntaxNode) → slice_get items d ≡ o → (nat_eq (production_of o) p_external && is_some (first_where (λ c. nat_eq (production_of (slice_get items c)) p_block) (children_of o))) ≡ true → Parts (map node_of items) (children_of o)
      by None e h = cc
      by (Some n) e h = pick (external d n e (eqb-true n.production p_external (left (nat_eq n.production p_external) _ h)))
        where
          pick : Heads (map node_of items) n.children.items → Parts (map node_of items) n.children.items
          pick (inl none) = absurd (no_both (is_some (first_where (λ c. nat_eq (production_of (slice_get items c)) p_block) n.children.items)) (right (nat_eq n.production p_external) _ h) (none_found items n.children.items none))
          pick (inr found) = found

same_second : (l : List ℕ) (a b x y : ℕ) (xs ys : List ℕ) → l ≡ a ∷ x ∷ xs → l ≡ b ∷ y ∷ ys → x ≡ y
same_second l a b x y xs ys e f = let same : a ∷ x ∷ xs ≡ b ∷ y ∷ ys = sym e ∙ f in cc

-- a node that stands by a block is one
block_kind : (n : Numbering) (ds : List ℕ) (kind : NodeKind) → SameKind n (Block ds) kind → IsBlock kind
block_kind n ds (Block es) h = tt
block_kind n ds kind h = cc

block_in : (o : Option CoreNode) (n : CoreNode) → o ≡ Some n → IsBlock n.kind → IsBlockIn o
block_in None n e h = cc
block_in (Some m) n e h = let same : m ≡ n = cc in subst (λ (x : CoreNode). IsBlock x.kind) (sym same) h

module _ (s : Source) (u : Unit) (n : Numbering) where
  by_block : (b : ℕ) (ds : List ℕ) (place : Place) (type : Ctype) (under : Cores) → StandsBy n u b (Of (Block ds) place type under) → IsBlockIn (node_at (trees_of u) b)
  by_block b ds place type under h = block_in (node_at (trees_of u) b) h.0 h.1 (block_kind n ds h.0.kind h.2)

pub parts_of : (tokens : Tokens) (unit : ℕ) (tree : SyntaxTree) (tag_number : ℕ → ℕ) → IsUnit tokens unit tree → (q : ℕ) → is_definition (numbered tag_number (source_of tokens tree)) q ≡ true
    → Parts (nodes (numbered tag_number (source_of tokens tree))) (children_at (numbered tag_number (source_of tokens tree)) q)
unfolding source_of
parts_of tokens unit tree tag_number is q h = parts tokens unit tree is q h

-- the declarator of a definition is one
pub declarators_of : (tokens : Tokens) (unit : ℕ) (tree : SyntaxTree) (tag_number : ℕ → ℕ) (senses : List Sense) → IsTokens tokens.text.now tokens.list.items → (is : IsUnit tokens unit tree) → AreSenses (numbered tag_number (source_of tokens tree)) senses
    → length senses ≡ length (numbered tag_number (source_of tokens tree)).nodes → (q : ℕ) (h : is_definition (numbered tag_number (source_of tokens tree)) q ≡ true)
    → is_declarator (numbered tag_number (source_of tokens tree)) (parts_of tokens unit tree tag_number is q h).declarator ≡ true
unfolding source_of
declarators_of tokens unit tree tag_number senses cut is are whole q h =
    let s = numbered tag_number (source_of tokens tree) in
    let head = heads tokens unit tree cut is q h in
    let own = parts_of tokens unit tree tag_number is q h in
    let node = whole_of.function_node s senses (tree_is tokens unit tree is tag_number).grown are whole head.declarator head.is in
    let one : is_a s p_declarator head.declarator ≡ true = production_is s p_declarator head.declarator refl (ap (λ (p : ℕ). nat_eq p 19) (ap syntax.production_of node.1 ∙ node.2)) in
    let same : head.declarator ≡ own.declarator = same_second (children_at s q) head.specs own.specs head.declarator own.declarator head.rest own.rest head.are own.are in
    subst (λ (k : ℕ). is_declarator s k ≡ true) same (ap (λ (x : Bool). x || is_a s p_abstract head.declarator || is_a s p_either head.declarator) one)

module _ (tokens : Tokens) (unit : ℕ) (tree : SyntaxTree) (tag_number : ℕ → ℕ) (name : List ℕ) (u : Unit) (cut : IsTokens tokens.text.now tokens.list.items) (is : IsUnit tokens unit tree) (b : IsBuilt (numbered tag_number (source_of tokens tree)) name u) where
  abbrev s : Source
  s = numbered tag_number (source_of tokens tree)

  abbrev parts_are : (q : ℕ) → is_definition s q ≡ true → Parts (nodes s) (children_at s q)
  parts_are = parts_of tokens unit tree tag_number is

  abbrev declarators : (q : ℕ) (h : is_definition s q ≡ true) → is_declarator s (parts_are q h).declarator ≡ true
  declarators = declarators_of tokens unit tree tag_number b.senses cut is b.are_senses b.whole

  fits : (e : ℕ) (entity : Entity) → slice_get u.entities.items e ≡ Some entity → FunctionFits (trees_of u) entity entity.body
  fits e entity at = by entity.body m.is.body
    where
      m : Made s name u b e entity
      m = made s name u b e entity at

      own : entity.storage ≡ FunctionBody → Stored s (tree_is tokens unit tree is tag_number) b.senses b.are_senses b.whole parts_are (λ q h. definitions_declare tokens unit tree tag_number b.senses q cut is b.are_senses b.whole h) declarators m.what
      own h =
          stored s (tree_is tokens unit tree is tag_number) b.senses b.are_senses b.whole parts_are (λ q k. definitions_declare tokens unit tree tag_number b.senses q cut is b.are_senses b.whole k) declarators
          (λ leaf k. stands_linked s (tree_is tokens unit tree is tag_number) b.senses b.are_senses b.whole leaf k) m.leaf m.what m.declared (sym m.is.storage ∙ h)

      by : (o : Option ℕ) → SameBody b.numbering u m.what.body o → FunctionFits (trees_of u) entity o
      by None same = λ h. let k = (own h).body in subst (λ (x : Option Core). SameBody b.numbering u x None) k.is same
      by (Some x) same = λ h.
          let k = own h in
          (subst IsFunction (sym m.is.type) k.function, by_block s u b.numbering x k.body.objects k.body.place k.body.type k.body.under (subst (λ (y : Option Core). SameBody b.numbering u y (Some x)) k.body.is same))

pub functions_stand : FunctionsStand
functions_stand tokens unit tree tag_number name u cut is b e entity at = fits tokens unit tree tag_number name u cut is b e entity at
