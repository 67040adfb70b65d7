-- The order of names, as the rows see it.
use Rattle.std.proofs.Common.{arith, ◌≡◌, ℕ, zero, suc, ◌+◌, ◌==◌, inl, inr, nat_eq, Bool, true, false, ◌||◌, ◌&&◌, List, [], ◌∷◌, length, map, Option, Some, None, slice_get, eq-eqb, refl, sym, ap, ◌∙◌, subst}
use Rattle.std.specs.Prelude.{IfSome, nat_lt, option_map, if◌then◌else◌}
use Rattle.std.specs.List.{find}
use Rattle.std.proofs.lemmas.Bool.{eqb-true}
use Rattle.std.proofs.lemmas.Option.{slice_get-map}
use Rattle.c_lexer.specs.declared.Token.{Token}
use Rattle.c_lexer.specs.declared.TokenKind.{TokenKind}
use Rattle.c_lexer.specs.declared.TokenKind.TheVariants.{End}
use Rattle.c_grammar.specs.declared.trees.SyntaxNode.{SyntaxNode}
use Rattle.c_grammar.specs.Productions.{p_declarator, p_either, p_enumerator, p_primary, p_nothing}
use Rattle.c_grammar.specs.Terminals.{contains}
use Rattle.c_grammar.specs.Reads.{Node, node_of, leaf}
use Rattle.c_mentions.specs.Syntax as syntax
use Rattle.c_mentions.specs.Declarators.{declarator, within, name_of, inner_of, is_inner, level}
use Rattle.c_mentions.specs.Settings.{Standing, standings}
use Rattle.c_scope.specs.declared.kinds.Declared.{Declared}
use Rattle.c_scope.specs.Known.{nothing_known, first_label}
use Rattle.c_scope.specs.Resolves.{bindings, happenings, happenings_from}
use Rattle.c_senses.specs.Tree.{Source, production_of, children_of, production_at, children_at, is_a, is_name, is_identifier, kind_of_token, token_of}
use Rattle.c_senses.specs.Names.{source_of, names_of, numbered}
use Rattle.core_node_laws.proofs.passed.parsed_tree_laws.family_laws.Reading.{units_families}
use Rattle.core_node_laws.proofs.passed.parsed_tree_laws.placed_laws.Rows.{left}
use Rattle.core_node_laws.proofs.passed.parsed_tree_laws.placed_laws.Names.{found}
use Rattle.declaration_laws.specs.name_order.Order.{declaring, linking, Links, IsNameOf, Own, Inner, Declares, Enumerates, Names, Rises, UnitsOrdered}
use Rattle.declaration_laws.proofs.name_order.Knowing.{RisesBy, linked_found, known_holds, use_found}
use Rattle.declaration_laws.proofs.name_order.Roles.{DeclaresName, IsInPrimary, LinkedPlace, standings_fit, happenings_fit}

in_list : (list : List ℕ) (i : ℕ) → contains list i ≡ true → (k : ℕ) × (slice_get list k ≡ Some i)
in_list [] i h = cc
in_list (x ∷ list) i h = by (in_list list i) (nat_eq x i) refl h
  where
    by : (contains list i ≡ true → (k : ℕ) × (slice_get list k ≡ Some i)) → (b : Bool) → nat_eq x i ≡ b → (b || contains list i) ≡ true → (k : ℕ) × (slice_get (x ∷ list) k ≡ Some i)
    by rest true e h = (0, ap Some (eqb-true x i e))
    by rest false e h = let more = rest h in (suc more.0, more.1)

module _ (s : Source) where
  abbrev nodes : List Node
  nodes = map node_of s.nodes

  children_same : (n : ℕ) → syntax.children_at nodes n ≡ children_at s n
  children_same n = ap syntax.children_of (slice_get-map node_of s.nodes n) ∙ by (slice_get s.nodes n)
    where
      by : (o : Option SyntaxNode) → syntax.children_of (option_map node_of o) ≡ children_of o
      by None = refl
      by (Some x) = refl

  -- a production that is one of some, none of which has no node
  production_in : (test : ℕ → Bool) → test p_nothing ≡ false → (n : ℕ) → test (syntax.production_at nodes n) ≡ true → test (production_at s n) ≡ true
  production_in test none n h = by (slice_get s.nodes n) (subst (λ (o : Option Node). test (syntax.production_of o) ≡ true) (slice_get-map node_of s.nodes n) h)
    where
      by : (o : Option SyntaxNode) → test (syntax.production_of (option_map node_of o)) ≡ true → test (production_of o) ≡ true
      by None g = let no : true ≡ false = sym g ∙ none in cc
      by (Some x) g = g

  production_back : (test : ℕ → Bool) → test leaf ≡ false → (n : ℕ) → test (production_at s n) ≡ true → test (syntax.production_at nodes n) ≡ true
  production_back test none n h = subst (λ (o : Option Node). test (syntax.production_of o) ≡ true) (sym (slice_get-map node_of s.nodes n)) (by (slice_get s.nodes n) h)
    where
      by : (o : Option SyntaxNode) → test (production_of o) ≡ true → test (syntax.production_of (option_map node_of o)) ≡ true
      by None g = let no : true ≡ false = sym g ∙ none in cc
      by (Some x) g = g

  abbrev named : Option Node → Bool
  named o = syntax.is_identifier (if syntax.production_of o == leaf then syntax.token_kind s.tokens (syntax.token_of o) else End)

  name_is : (r : ℕ) → syntax.is_name s.tokens nodes r ≡ true → is_name s r ≡ true
  name_is r h = by (slice_get s.nodes r) (subst (λ (o : Option Node). named o ≡ true) (slice_get-map node_of s.nodes r) h)
    where
      seen : (b : Bool) (k : TokenKind) → is_identifier (if b then k else End) ≡ true → (b && is_identifier k) ≡ true
      seen true k h = h
      seen false k h = cc

      by : (o : Option SyntaxNode) → named (option_map node_of o) ≡ true → ((production_of o == leaf) && is_identifier (kind_of_token (token_of s o))) ≡ true
      by None h = cc
      by (Some n) h = seen (n.production == leaf) (syntax.token_kind s.tokens n.token) h

  inside : (n c : ℕ) → contains (syntax.children_at nodes n) c ≡ true → contains (children_at s n) c ≡ true
  inside n c h = subst (λ (l : List ℕ). contains l c ≡ true) (children_same n) h

  -- the name of a declarator
  own_name : (n leaf : ℕ) → name_of s.tokens nodes n ≡ Some leaf → IsNameOf s n leaf
  unfolding name_of
  own_name n leaf e =
      let at = subst (λ (o : Option ℕ). IfSome o (λ y. (contains (syntax.children_at nodes n) y ≡ true) × (syntax.is_name s.tokens nodes y ≡ true))) e (found (λ child. syntax.is_name s.tokens nodes child) (syntax.children_at nodes n)) in
      Own (inside n leaf at.0) (name_is leaf at.1)

  name_within : (levels n leaf : ℕ) → (within s.tokens nodes levels n).name ≡ Some leaf → IsNameOf s n leaf
  unfolding inner_of
  name_within zero n leaf e = cc
  name_within (suc levels) n leaf e = by (find (λ child. is_inner nodes n child) (syntax.children_at nodes n)) (found (λ child. is_inner nodes n child) (syntax.children_at nodes n)) e (λ inner f. name_within levels inner leaf f)
    where
      by : (o : Option ℕ) → IfSome o (λ y. (contains (syntax.children_at nodes n) y ≡ true) × (is_inner nodes n y ≡ true)) → (level s.tokens nodes (within s.tokens nodes levels) n o).name ≡ Some leaf
          → ((inner : ℕ) → (within s.tokens nodes levels inner).name ≡ Some leaf → IsNameOf s inner leaf) → IsNameOf s n leaf
      by None h f deeper = own_name n leaf f
      by (Some inner) h f deeper =
          let is : (syntax.is_of nodes p_declarator inner || syntax.is_of nodes p_either inner) ≡ true = left (syntax.is_of nodes p_declarator inner || syntax.is_of nodes p_either inner) (nat_lt inner n) h.1 in
          Inner (inside n inner h.0) (production_in (λ (p : ℕ). (p == p_declarator) || (p == p_either)) refl inner is) (deeper inner f)

  name_is_of : (n leaf : ℕ) → (declarator s.tokens nodes n).name ≡ Some leaf → IsNameOf s n leaf
  unfolding declarator
  name_is_of n leaf e = name_within (suc n) n leaf e

  first_inside : (list : List ℕ) (x : ℕ) → syntax.first_of list ≡ Some x → contains list x ≡ true
  first_inside [] x e = cc
  first_inside (y ∷ list) x e = ap (λ (b : Bool). b || contains list x) (eq-eqb y x (let same : y ≡ x = cc in same))

  declares_is : (m leaf : ℕ) → DeclaresName s.tokens nodes m leaf → Declares s m leaf
  declares_is m leaf (inl h) = Enumerates (production_in (λ (p : ℕ). p == p_enumerator) refl m h.0) (inside m leaf (first_inside (syntax.children_at nodes m) leaf h.1))
  declares_is m leaf (inr h) =
      Names h.2.0 (production_in (λ (p : ℕ). (p == p_declarator) || (p == p_either)) refl m h.0) (inside h.2.0 m h.2.1) (production_in (λ (p : ℕ). contains declaring p) refl h.2.0 h.2.2) (name_is_of m leaf h.1)

  -- an enumerator is no declarator, so what may have linkage is a declarator's name
  no_enumerator : (p : ℕ) → (p == p_enumerator) ≡ true → (p == p_declarator || p == p_either) ≡ true → ⊥
  no_enumerator p e h = let f : false ≡ true = subst (λ (x : ℕ). (x == p_declarator || x == p_either) ≡ true) (eqb-true p p_enumerator e) h in cc

  links_is : (m name : ℕ) → DeclaresName s.tokens nodes m name → LinkedPlace s.tokens nodes m → Links s m name
  links_is m name (inl h) stands = absurd (no_enumerator (syntax.production_at nodes m) h.0 stands.0)
  links_is m name (inr h) stands = record {
    above = stands.1.0;
    is = production_in (λ (p : ℕ). (p == p_declarator) || (p == p_either)) refl m h.0;
    inside = inside stands.1.0 m stands.1.1;
    part = production_in (λ (p : ℕ). contains linking p) refl stands.1.0 stands.1.2;
    named = name_is_of m name h.1;
  }

  rises_is : (low high : ℕ) (ds : List Declared) → RisesBy (DeclaresName s.tokens nodes) (IsInPrimary s.tokens nodes) (LinkedPlace s.tokens nodes) low high ds → Rises s low high ds
  rises_is low high [] h = h
  rises_is low high (d ∷ ds) h = (h.0, h.1, declares_is h.0 d.node h.2.0, rises_is (h.0 + 1) high ds h.3)

  in_primary : (n p : ℕ) → is_a s p_primary p ≡ true → contains (children_at s p) n ≡ true → IsInPrimary s.tokens nodes n
  in_primary n p is h = (p, subst (λ (l : List ℕ). contains l n ≡ true) (sym (children_same p)) h, eqb-true (syntax.production_at nodes p) p_primary (production_back (λ (q : ℕ). q == p_primary) refl p is))

standing_count : (list : List Token) (all ns : List Node) (i : ℕ) → length (standings list all i ns) ≡ length ns
standing_count list all [] i = refl
standing_count list all (n ∷ ns) i = ap suc (standing_count list all ns (i + 1))

happening_count : (text : List ℕ) (list : List Token) (all : List Node) (n : ℕ) (ss : List Standing) → length (happenings_from text list all n ss) ≡ length ss
happening_count text list all n [] = refl
happening_count text list all n (x ∷ ss) = ap suc (happening_count text list all (n + 1) ss)

map_count : (items : List SyntaxNode) → length (map node_of items) ≡ length items
map_count [] = refl
map_count (x ∷ items) = ap suc (map_count items)

counted : (items : List SyntaxNode) (text : List ℕ) (list : List Token) → 0 + length (happenings_from text list (map node_of items) 0 (standings list (map node_of items) 0 (map node_of items))) ≡ length items
counted items text list =
    let ns : List Node = map node_of items in
    let same : length (happenings_from text list ns 0 (standings list ns 0 ns)) ≡ length items = happening_count text list ns 0 (standings list ns 0 ns) ∙ (standing_count list ns ns 0 ∙ map_count items) in
    omega (arith, same)

pub units_ordered : UnitsOrdered
unfolding source_of names_of bindings happenings
units_ordered tokens unit tree tag_number cut is =
    let s : Source = numbered tag_number (source_of tokens tree) in
    let text : List ℕ = tokens.text.now in
    let list : List Token = tokens.list.items in
    let ns : List Node = nodes s in
    let families = units_families tokens unit tree tag_number cut is in
    let single : (i j c : ℕ) → contains (syntax.children_at ns i) c ≡ true → contains (syntax.children_at ns j) c ≡ true → i ≡ j =
    λ i j c h k. families.single i j c (in_list (children_at s i) c (inside s i c h)) (in_list (children_at s j) c (inside s j c k)) in
    let all = happenings_from text list ns 0 (standings list ns 0 ns) in
    let fit = happenings_fit list ns single text 0 (standings list ns 0 ns) (standings_fit list ns single 0 ns (λ k. ap (slice_get ns) (let z : 0 + k ≡ k = omega arith in z))) in
    let many : 0 + length all ≡ length s.nodes = counted s.nodes text list in
    let holds = known_holds (DeclaresName list ns) (IsInPrimary list ns) (LinkedPlace list ns) (length ns) (first_label 0 all) 0 (length s.nodes) nothing_known all many fit (record { names = omega arith; uses = tt }) in
    record {
      names = rises_is s 0 (length s.nodes) _ holds.names;
      uses = λ n x p e primary h.
          let found = use_found (DeclaresName list ns) (IsInPrimary list ns) (LinkedPlace list ns) n (length s.nodes) x _ holds.uses e (in_primary s n p primary h) in (found.0, found.1, declares_is s found.0 x found.2);
      linked = λ x d e linked.
          let found = linked_found (DeclaresName list ns) (IsInPrimary list ns) (LinkedPlace list ns) 0 (length s.nodes) x d _ holds.names e linked in (found.0, links_is s found.0 x found.2 found.3);
    }
