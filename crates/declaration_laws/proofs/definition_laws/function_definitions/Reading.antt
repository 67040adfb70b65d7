-- The definitions of a unit that is read.
use Rattle.std.proofs.Common.{◌≡◌, ℕ, zero, suc, ◌&&◌, not, nat_eq, Bool, true, false, Ok, List, [], ◌∷◌, map, Option, Some, None, slice_get, eq-eqb, refl, sym, ap, subst, inl, inr}
use Rattle.std.specs.Prelude.{is_some, if◌then◌else◌}
use Rattle.std.proofs.lemmas.Bool.{eqb-true}
use Rattle.c_lexer.specs.declared.Token.{Token}
use Rattle.c_lexer.specs.declared.Tokens.{Tokens}
use Rattle.c_lexer.specs.Cut.{IsTokens}
use Rattle.std.proofs.Common.{All as AllOf}
use Rattle.std.proofs.lemmas.Option.{slice_get_within, get_or_from_slice_get}
use Rattle.c_lexer.specs.Laws.{Stands}
use Rattle.c_lexer.proofs.OneCut.{stand}
use Rattle.c_grammar.specs.declared.trees.SyntaxNode.{SyntaxNode}
use Rattle.c_grammar.specs.declared.trees.Tree.{Tree as SyntaxTree}
use Rattle.c_grammar.specs.Names.{no_names}
use Rattle.c_grammar.specs.Productions.{p_unit, p_external, p_block}
use Rattle.c_grammar.specs.Tree.{makes_node}
use Rattle.c_grammar.specs.Reads.{State, Node, node_of, leaf, opened, Walks, Opens}
use Rattle.c_parser.specs.Parse.{begin}
use Rattle.c_parser.specs.c_units.Units.{IsUnit}
use Rattle.c_senses.specs.Names.{source_of, numbered}
use Rattle.c_senses.specs.Tree.{production_of, children_of, first_where}
use Rattle.core_node_laws.proofs.count_laws.passed.parsed_tree_laws.placed_laws.Once.{Extends}
use Rattle.core_node_laws.proofs.count_laws.passed.parsed_tree_laws.placed_laws.Adding.{All}
use Rattle.declaration_laws.proofs.definition_laws.linkage_laws.Every.{every}
use Rattle.declaration_laws.proofs.definition_laws.linkage_laws.Inverting.{node_opened}
use Rattle.declaration_laws.proofs.definition_laws.linkage_laws.Seen.{no_both}
use Rattle.declaration_laws.proofs.definition_laws.linkage_laws.Reading.{tree_is}
use Rattle.declaration_laws.specs.definition_laws.function_definitions.Defined.{DefinitionsDeclare}
use Rattle.declaration_laws.proofs.definition_laws.function_definitions.Shapes.{External, Heads, external_on, external_read, no_block}
use Rattle.declaration_laws.proofs.definition_laws.function_definitions.Defining.{defines}

left : (a b : Bool) → (a && b) ≡ true → a ≡ true
left true b e = refl
left false b e = cc

right : (a b : Bool) → (a && b) ≡ true → b ≡ true
right true b e = e
right false b e = cc

-- an external declaration is one without a block, or has such a declarator
module _ (text : List ℕ) (tokens : List Token) (all_stand : (k : ℕ) (t : Token) → slice_get tokens k ≡ Some t → Stands text t) where
  Good : List Node → Node → Type 0
  Good nodes n = n.production ≡ p_external → External tokens nodes n.children

  good_on : (a b : List Node) (n : Node) → Extends a b → Good a n → Good b n
  unfolding Good
  good_on a b n x g = λ is. external_on tokens a b n.children x (g is)

  leaf_good : (nodes : List Node) (place : ℕ) → Good nodes (record { production = leaf; token = place; children = [] })
  unfolding Good
  leaf_good nodes place = λ is. absurd (let never : nat_eq leaf p_external ≡ true = eq-eqb leaf p_external is in cc)

  own_good : (q d : ℕ) (s u : State) → makes_node q ≡ true → Walks text tokens q 0 d (opened q s) (Ok u) → Good u.nodes (record { production = q; token = s.place; children = u.children })
  unfolding Good
  own_good q d s u node w = λ is. external_read tokens text all_stand d (opened q s) u (ap (λ (x : State). x.children) (node_opened q s node)) (subst (λ (p : ℕ). Walks text tokens p 0 d (opened q s) (Ok u)) is w)

  pub all_good : (q d : ℕ) (s t : State) → s.nodes ≡ [] → Opens text tokens q d s (Ok t) → (i : ℕ) (n : Node) → slice_get t.nodes i ≡ Some n → n.production ≡ p_external → External tokens t.nodes n.children
  unfolding Good
  all_good q d s t none o i n e = every text tokens Good good_on leaf_good own_good q d s t none o i n e

token_has : (P : Token → Type 0) (list : List Token) (k : ℕ) (t : Token) → AllOf P list → slice_get list k ≡ Some t → P t
token_has P list k t h e = subst P (get_or_from_slice_get list k t t e) (h k t (slice_get_within list k t e))

stand_all : (tokens : Tokens) → IsTokens tokens.text.now tokens.list.items → (k : ℕ) (t : Token) → slice_get tokens.list.items k ≡ Some t → Stands tokens.text.now t
stand_all tokens cut k t e = token_has (Stands tokens.text.now) tokens.list.items k t (stand tokens.text.now tokens.list.items cut) e

there_node : (items : List SyntaxNode) (k : ℕ) (n : SyntaxNode) → slice_get items k ≡ Some n → slice_get (map node_of items) k ≡ Some (node_of n)
there_node [] k n e = cc
there_node (x ∷ items) zero n e = let same : x ≡ n = cc in ap (λ (m : SyntaxNode). Some (node_of m)) same
there_node (x ∷ items) (suc k) n e = there_node items k n e

produced : (items : List SyntaxNode) (k : ℕ) (m : Node) → slice_get (map node_of items) k ≡ Some m → production_of (slice_get items k) ≡ m.production
produced [] k m e = cc
produced (x ∷ items) zero m e = let same : node_of x ≡ m = cc in ap (λ (n : Node). n.production) same
produced (x ∷ items) (suc k) m e = produced items k m e

-- where no part is a block, none is found
none_found : (list : List Token) (items : List SyntaxNode) (ks : List ℕ) → All (no_block list) (map node_of items) ks → is_some (first_where (λ c. nat_eq (production_of (slice_get items c)) p_block) ks) ≡ false
none_found list items [] h = refl
none_found list items (k ∷ ks) h = by (nat_eq (production_of (slice_get items k)) p_block) refl (none_found list items ks h.1)
  where
    by : (b : Bool) → nat_eq (production_of (slice_get items k)) p_block ≡ b → is_some (first_where (λ c. nat_eq (production_of (slice_get items c)) p_block) ks) ≡ false
        → is_some (if b then Some k else first_where (λ c. nat_eq (production_of (slice_get items c)) p_block) ks) ≡ false
    by true e later = absurd (let bad : not (nat_eq (production_of (slice_get items k)) 29) ≡ true = subst (λ (q : ℕ). not (nat_eq q 29) ≡ true) (sym (produced items k h.0.0 h.0.1)) h.0.2 in let no : not true ≡ true = subst (λ (b : Bool). not b ≡ true) e bad in cc)
    by false e later = later

module _ (tokens : Tokens) (unit : ℕ) (tree : SyntaxTree) (cut : IsTokens tokens.text.now tokens.list.items) (is : IsUnit tokens unit tree) where
  abbrev items : List SyntaxNode
  items = tree.nodes.items

  external : (i : ℕ) (n : SyntaxNode) → slice_get items i ≡ Some n → n.production ≡ p_external → External tokens.list.items (map node_of items) n.children.items
  external i n e p =
      let read = is.0 in
      subst (λ (l : List Node). External tokens.list.items l n.children.items) read.2
      (all_good tokens.text.now tokens.list.items (stand_all tokens cut) p_unit 0 (begin 0 no_names []) read.0 refl read.1 i (node_of n) (subst (λ (l : List Node). slice_get l i ≡ Some (node_of n)) (sym read.2) (there_node items i n e)) p)

  pub heads : (d : ℕ) → (nat_eq (production_of (slice_get items d)) p_external && is_some (first_where (λ c. nat_eq (production_of (slice_get items c)) p_block) (children_of (slice_get items d)))) ≡ true → Heads tokens.list.items (map node_of items) (children_of (slice_get items d))
  unfolding External
  heads d h = by (slice_get items d) refl h
    where
      by : (o : Option SyntaxNode) → slice_get items d ≡ o → (nat_eq (production_of o) p_external && is_some (first_where (λ c. nat_eq (production_of (slice_get items c)) p_block) (children_of o))) ≡ true → Heads tokens.list.items (map node_of items) (children_of o)
      by None e h = cc
      by (Some n) e h = pick (external d n e (eqb-true n.production p_external (left (nat_eq n.production p_external) _ h)))
        where
          pick : External tokens.list.items (map node_of items) n.children.items → Heads tokens.list.items (map node_of items) n.children.items
          pick (inl none) = absurd (no_both (is_some (first_where (λ c. nat_eq (production_of (slice_get items c)) p_block) n.children.items)) (right (nat_eq n.production p_external) _ h) (none_found tokens.list.items items n.children.items none))
          pick (inr found) = found

pub definitions_declare : DefinitionsDeclare
unfolding source_of
definitions_declare tokens unit tree tag_number senses d cut is are whole h =
    defines (numbered tag_number (source_of tokens tree)) (tree_is tokens unit tree is tag_number) senses are whole d h (heads tokens unit tree cut is d h)
