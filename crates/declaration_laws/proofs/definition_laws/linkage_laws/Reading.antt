-- What reading and the resolution of names give of a unit's tree.
use Rattle.std.proofs.Common.{◌≡◌, ℕ, zero, suc, ◌||◌, nat_eq, Bool, true, false, cond, Ok, List, [], ◌∷◌, ◌++◌, map, Option, Some, None, slice_get, eq-eqb, refl, sym, ap, ◌∙◌, subst}
use Rattle.std.proofs.lemmas.Bool.{eqb-true}
use Rattle.c_lexer.specs.declared.Token.{Token}
use Rattle.c_lexer.specs.declared.Tokens.{Tokens}
use Rattle.c_grammar.specs.declared.trees.SyntaxNode.{SyntaxNode}
use Rattle.c_grammar.specs.declared.trees.Tree.{Tree as SyntaxTree}
use Rattle.c_grammar.specs.Names.{no_names}
use Rattle.c_grammar.specs.Productions.{p_unit, p_storage, p_block, p_statement}
use Rattle.c_grammar.specs.Terminals.{contains}
use Rattle.c_grammar.specs.Tree.{makes_node}
use Rattle.c_grammar.specs.Reads.{State, Node, node_of, leaf, opened, Walks, Opens}
use Rattle.c_parser.specs.Parse.{begin}
use Rattle.declaration_laws.specs.definition_laws.PassedOn.{IsUnit}
use Rattle.c_senses.specs.Names.{source_of, names_of, numbered}
use Rattle.c_senses.specs.Tree.{production_of, children_of, is_a}
use Rattle.core_node_laws.proofs.count_laws.passed.parsed_tree_laws.nesting_laws.PassedOn.{Extends}
use Rattle.core_node_laws.proofs.count_laws.passed.parsed_tree_laws.nesting_laws.PassedOn.{All, all_on}
use Rattle.core_node_laws.proofs.count_laws.passed.parsed_tree_laws.nesting_laws.PassedOn.{grown_read}
use Rattle.core_node_laws.proofs.count_laws.passed.parsed_tree_laws.nesting_laws.Nesting.{units_nest}
use Rattle.declaration_laws.proofs.definition_laws.Reading.{block_parts}
use Rattle.declaration_laws.specs.definition_laws.linkage_laws.Linked.{LinkedNamesStand}
use Rattle.declaration_laws.proofs.definition_laws.linkage_laws.Every.{every}
use Rattle.declaration_laws.proofs.definition_laws.linkage_laws.Inverting.{node_opened}
use Rattle.declaration_laws.proofs.definition_laws.linkage_laws.Words.{passes, may_have, any, in_rest, no_storage, HasWord, leaf_at, own_parts, storage_word}
use Rattle.declaration_laws.proofs.definition_laws.linkage_laws.Linked.{Tree, stands_linked}

get_more : (nodes more : List Node) (k : ℕ) (n : Node) → slice_get nodes k ≡ Some n → slice_get (nodes ++ more) k ≡ Some n
get_more [] more k n e = cc
get_more (m ∷ nodes) more zero n e = e
get_more (m ∷ nodes) more (suc k) n e = get_more nodes more k n e

get_on : (a b : List Node) (k : ℕ) (n : Node) → Extends a b → slice_get a k ≡ Some n → slice_get b k ≡ Some n
get_on a b k n x e = subst (λ (l : List Node). slice_get l k ≡ Some n) (sym x.1) (get_more a x.0 k n e)

-- the parts of a node, and the word of a storage-class specifier
pub record Good (nodes : List Node) (n : Node) : Type 0 where
  pub parts : All (passes n.production) nodes n.children
  pub word : n.production ≡ p_storage → HasWord nodes n

good_on : (a b : List Node) (n : Node) → Extends a b → Good a n → Good b n
good_on a b n x g = record { parts = all_on (passes n.production) a b n.children x g.parts; word = λ is. let w = g.word is in (w.0, w.1, get_on a b w.0 (leaf_at n.token) x w.2) }

leaf_good : (nodes : List Node) (place : ℕ) → Good nodes (record { production = leaf; token = place; children = [] })
leaf_good nodes place = record { parts = tt; word = λ is. absurd (let never : nat_eq leaf p_storage ≡ true = eq-eqb leaf p_storage is in cc) }

module _ (text : List ℕ) (tokens : List Token) where
  begun : (q : ℕ) (s : State) → makes_node q ≡ true → ((opened q s).children ≡ []) × ((opened q s).place ≡ s.place)
  begun q s node = let o = node_opened q s node in (ap (λ (x : State). x.children) o, ap (λ (x : State). x.place) o)

  own_good : (q d : ℕ) (s u : State) → makes_node q ≡ true → Walks text tokens q 0 d (opened q s) (Ok u) → Good u.nodes (record { production = q; token = s.place; children = u.children })
  own_good q d s u node w =
      let b = begun q s node in
      record {
        parts = own_parts text tokens q d s u node b.0 w;
        word = λ is.
            let own = storage_word text tokens d (opened q s) u b.0 (subst (λ (p : ℕ). Walks text tokens p 0 d (opened q s) (Ok u)) is w) in
            (own.0, own.1, own.2 ∙ ap (λ (k : ℕ). Some (leaf_at k)) b.1);
      }

  pub all_good : (q d : ℕ) (s t : State) → s.nodes ≡ [] → Opens text tokens q d s (Ok t) → (i : ℕ) (n : Node) → slice_get t.nodes i ≡ Some n → Good t.nodes n
  all_good q d s t none o i n e = every text tokens Good good_on leaf_good own_good q d s t none o i n e

there_node : (items : List SyntaxNode) (k : ℕ) (n : SyntaxNode) → slice_get items k ≡ Some n → slice_get (map node_of items) k ≡ Some (node_of n)
there_node [] k n e = cc
there_node (x ∷ items) zero n e = let same : x ≡ n = cc in ap (λ (m : SyntaxNode). Some (node_of m)) same
there_node (x ∷ items) (suc k) n e = there_node items k n e

produced : (items : List SyntaxNode) (k : ℕ) (m : Node) → slice_get (map node_of items) k ≡ Some m → production_of (slice_get items k) ≡ m.production
produced [] k m e = cc
produced (x ∷ items) zero m e = let same : node_of x ≡ m = cc in ap (λ (n : Node). n.production) same
produced (x ∷ items) (suc k) m e = produced items k m e

passing : (p : ℕ) (items : List SyntaxNode) (ks : List ℕ) (c : ℕ) → All (passes p) (map node_of items) ks → contains ks c ≡ true → may_have p (production_of (slice_get items c)) ≡ true
passing p items [] c h e = cc
passing p items (k ∷ ks) c h e = by (nat_eq k c) refl e (λ f. passing p items ks c h.1 f)
  where
    by : (b : Bool) → nat_eq k c ≡ b → (b || contains ks c) ≡ true → (contains ks c ≡ true → may_have p (production_of (slice_get items c)) ≡ true) → may_have p (production_of (slice_get items c)) ≡ true
    by true same f later =
        subst (λ (x : ℕ). may_have p (production_of (slice_get items x)) ≡ true) (eqb-true k c same) (subst (λ (x : ℕ). may_have p x ≡ true) (sym (produced items k h.0.0 h.0.1)) h.0.2)
    by false other f later = later f

module _ (tokens : Tokens) (unit : ℕ) (tree : SyntaxTree) (is : IsUnit tokens unit tree) where
  abbrev items : List SyntaxNode
  items = tree.nodes.items

  good : (i : ℕ) (n : SyntaxNode) → slice_get items i ≡ Some n → Good (map node_of items) (node_of n)
  good i n e =
      let read = is.0 in
      subst (λ (l : List Node). Good l (node_of n)) read.2 (all_good tokens.text.now tokens.list.items p_unit 0 (begin 0 no_names []) read.0 refl read.1 i (node_of n) (subst (λ (l : List Node). slice_get l i ≡ Some (node_of n)) (sym read.2) (there_node items i n e)))

  -- a part of a node is one that it may have
  pub part_may : (i c : ℕ) → contains (children_of (slice_get items i)) c ≡ true → may_have (production_of (slice_get items i)) (production_of (slice_get items c)) ≡ true
  part_may i c h = by (slice_get items i) refl h
    where
      by : (o : Option SyntaxNode) → slice_get items i ≡ o → contains (children_of o) c ≡ true → may_have (production_of o) (production_of (slice_get items c)) ≡ true
      by None at h = cc
      by (Some n) at h = passing n.production items n.children.items c (good i n at).parts h

  -- a storage word stands in specifiers alone
  storage_in : (p : ℕ) → may_have p 7 ≡ true → nat_eq p 6 ≡ true
  storage_in p h = by (nat_eq p 6) (nat_eq p 2) h
    where
      by : (a b : Bool) → (cond {A = ℕ → Bool} a any (cond {A = ℕ → Bool} b in_rest no_storage)) 7 ≡ true → a ≡ true
      by true b h = refl
      by false true h = cc
      by false false h = cc

  pub tree_is : (tag_number : ℕ → ℕ) → Tree (numbered tag_number (source_of tokens tree))
  unfolding source_of names_of
  tree_is tag_number =
      let read = is.0 in
      record {
        grown = grown_read tokens tree tag_number (begin 0 no_names []) read.0 refl refl read.1 read.2;
        nested = units_nest tokens unit tree tag_number is;
        defined = λ i h. block_parts tokens unit tree tag_number i is (ap (λ (b : Bool). b || (is_a (numbered tag_number (source_of tokens tree)) p_block i || is_a (numbered tag_number (source_of tokens tree)) p_statement i)) h);
        words = λ c n at h. (good c n at).word h;
        storage = λ i c child h. storage_in (production_of (slice_get items i)) (subst (λ (q : ℕ). may_have (production_of (slice_get items i)) q ≡ true) (eqb-true (production_of (slice_get items c)) 7 h) (part_may i c child));
        names = refl;
      }

pub linked_stand : LinkedNamesStand
linked_stand tokens unit tree tag_number senses leaf cut is are whole linked = stands_linked (numbered tag_number (source_of tokens tree)) (tree_is tokens unit tree is tag_number) senses are whole leaf linked
