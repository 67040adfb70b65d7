-- The laws of sources.
use Rattle.std.proofs.Common.{◌≡◌, ◌<◌, ◌==◌, ◌||◌, ◌&&◌, nat_eq, ℕ, zero, suc, ◌+◌, Bool, true, false, cond, List, [], ◌∷◌, map, Option, Some, None, length, slice_get, refl, sym, ap, ◌∙◌, subst, ◌⊎◌, inl, inr}
use Rattle.std.specs.Prelude.{if◌then◌else◌}
use Rattle.std.proofs.lemmas.Bool.{eqb-true}
use Rattle.c_lexer.specs.declared.Token.{Token}
use Rattle.c_lexer.specs.declared.TokenKind.{TokenKind}
use Rattle.c_lexer.specs.declared.TokenKind.TheVariants.{Identifier, Keyword, Punctuator, Integer, Floating, Character, Text, End}
use Rattle.c_grammar.specs.declared.trees.SyntaxNode.{SyntaxNode}
use Rattle.c_grammar.specs.Productions.{p_unit, p_external, p_suffix, p_parameter, p_enumerator, p_nothing}
use Rattle.c_grammar.specs.Reads.{Node, node_of, leaf}
use Rattle.c_grammar.specs.Terminals.{contains}
use Rattle.c_mentions.specs.declared.roles.Role.TheVariants as role
use Rattle.c_mentions.specs.Syntax as syntax
use Rattle.c_mentions.specs.Declarators.{is_list}
use Rattle.c_mentions.specs.Settings.{Standing, standings}
use Rattle.c_scope.specs.declared.kinds.Declared.{Declared}
use Rattle.c_scope.specs.Known.{first_scope, Known}
use Rattle.c_scope.specs.Resolves.{bindings}
use Rattle.c_senses.specs.Names.{source_of, numbered, names_of, entry_of, has_linkage, names_type}
use Rattle.c_senses.specs.Tree.{Source, is_name, is_identifier, kind_at, kind_of_token, token_of, children_of, production_of, paired}
use Rattle.declaration_laws.specs.definition_laws.scope_laws.Scoped.{UsesStay, NamesDeclaredOnce, LinkedAreNames}
use Rattle.declaration_laws.proofs.definition_laws.scope_laws.Tree.{further, beneath_by}
use Rattle.declaration_laws.proofs.definition_laws.scope_laws.Scopes.{Part, Below, IsOf, IsNot, IsOpened, placed, equal}
use Rattle.declaration_laws.proofs.definition_laws.scope_laws.Around.{no_both, scope_below, below_scope}
use Rattle.declaration_laws.proofs.definition_laws.scope_laws.Parameters.{parameter_scoped}
use Rattle.declaration_laws.proofs.definition_laws.scope_laws.Knowing.{In, every_at, S, StandsAt, KindTold, IsNameMade, IsTagMade, IsUseOf, IsKnown, made_below, no_tag, all_known, paired_in}

-- ---- nodes as the grammar sees them

seen_children : (items : List SyntaxNode) (i : ℕ) → syntax.children_at (map node_of items) i ≡ children_of (slice_get items i)
seen_children [] i = refl
seen_children (n ∷ items) zero = refl
seen_children (n ∷ items) (suc i) = seen_children items i

-- of a production that isn't that of no node
seen_production : (items : List SyntaxNode) (p i : ℕ) → nat_eq p_nothing p ≡ false → nat_eq leaf p ≡ false → (syntax.production_at (map node_of items) i == p) ≡ (production_of (slice_get items i) == p)
seen_production [] p i none other = none ∙ sym other
seen_production (n ∷ items) p zero none other = refl
seen_production (n ∷ items) p (suc i) none other = seen_production items p i none other

entry_in : (ds : List Declared) (leaf : ℕ) (d : Declared) → entry_of ds leaf ≡ Some d → In ds d × (d.node ≡ leaf)
entry_in [] leaf d e = cc
entry_in (x ∷ xs) leaf d e = by (x.node == leaf) refl e (λ f. entry_in xs leaf d f)
  where
    by : (b : Bool) → nat_eq x.node leaf ≡ b → cond b (Some x) (entry_of xs leaf) ≡ Some d → (entry_of xs leaf ≡ Some d → In xs d × (d.node ≡ leaf)) → In (x ∷ xs) d × (d.node ≡ leaf)
    by true is e later = let same : x ≡ d = cc in ((0, ap (λ (y : Declared). Some y) same), subst (λ (y : Declared). y.node ≡ leaf) same (eqb-true x.node leaf is))
    by false is e later = let h = later e in ((suc h.0.0, h.0.1), h.1)

same_place : {A : Type 0} (xs : List A) (i j : ℕ) (d e : A) → slice_get xs i ≡ Some d → slice_get xs j ≡ Some e → i ≡ j → d ≡ e
same_place xs i j d e di ej same = let one : ◌≡◌ {A = Option _} (Some d) (Some e) = sym di ∙ (ap (λ (k : ℕ). slice_get xs k) same ∙ ej) in cc

module _
    (text : List ℕ) (tokens : List Token) (nodes : List Node) (before : (i c : ℕ) → Part tokens nodes i c → c < i) (single : (i j c : ℕ) → Part tokens nodes i c → Part tokens nodes j c → i ≡ j)
    (externals : (i c : ℕ) → Part tokens nodes i c → IsOf tokens nodes p_external c → IsOf tokens nodes p_unit i) (units : (i c : ℕ) → Part tokens nodes i c → IsNot tokens nodes p_unit c)
    (listed : (c : ℕ) → IsOf tokens nodes p_parameter c → (i : ℕ) × Part tokens nodes i c × IsOf tokens nodes p_suffix i × (is_list tokens nodes i ≡ true))
  where
    abbrev K : Known
    K = bindings text tokens nodes

    known_is : IsKnown tokens nodes before single (0 + length (S tokens nodes before single)) K
    known_is = all_known tokens nodes before single text

    -- a scope around a node that isn't the file's is opened above it
    is_opened : (i scope : ℕ) (s : Standing) → slice_get (standings tokens nodes 0 nodes) i ≡ Some s → contains s.scopes scope ≡ true → (scope ≡ length nodes → ⊥) → IsOpened tokens nodes i scope
    is_opened i scope s at has other = by ((placed tokens nodes i s at).0 scope has)
      where
        by : (scope ≡ length nodes) ⊎ IsOpened tokens nodes i scope → IsOpened tokens nodes i scope
        by (inl e) = absurd (other e)
        by (inr h) = h

    first_has : (scopes : List ℕ) (scope : ℕ) → scope ≡ first_scope (length nodes) scopes → (scope ≡ length nodes → ⊥) → contains scopes scope ≡ true
    first_has [] scope e other = absurd (other e)
    first_has (x ∷ xs) scope e other = ap (λ (b : Bool). b || contains xs scope) (subst (λ (k : ℕ). nat_eq x k ≡ true) (sym e) (equal x))

    stays : (p at leaf : ℕ) (d : Declared) → IsOf tokens nodes p_external p → Below tokens nodes p at → paired K.uses at ≡ Some leaf → In K.names d → d.node ≡ leaf → has_linkage d ≡ false → names_type d ≡ false
        → ((i : ℕ) → Part tokens nodes i leaf → IsNot tokens nodes p_enumerator i) → Below tokens nodes p leaf
    stays p at leaf d is below paired_is has node_is unlinked untyped plain = by_use (every_at (IsUseOf tokens nodes before single K.names K.tags) K.uses (at, leaf) known_is.uses (paired_in tokens nodes before single text K.uses at leaf paired_is))
      where
        made : IsNameMade tokens nodes before single (0 + length (S tokens nodes before single)) d
        made = every_at (IsNameMade tokens nodes before single (0 + length (S tokens nodes before single))) K.names d known_is.names has

        no_file : (m : ℕ) (t : Standing) → StandsAt tokens nodes before single m t → d.scope ≡ first_scope (length nodes) t.scopes → KindTold tokens nodes before single m t d → d.scope ≡ length nodes → ⊥
        no_file m t there scope told e = by (told e)
          where
            by : (has_linkage d ≡ true) ⊎ ((names_type d ≡ true) ⊎ ((t.role ≡ role.Parameter) ⊎ (Part tokens nodes m d.node × IsOf tokens nodes p_enumerator m))) → ⊥
            by (inl h) = no_both (has_linkage d) h unlinked
            by (inr (inl h)) = no_both (names_type d) h untyped
            by (inr (inr (inl h))) = parameter_scoped tokens nodes before single listed m t there h (sym scope ∙ e)
            by (inr (inr (inr (child, h)))) = no_both _ h (plain m (subst (λ (k : ℕ). Part tokens nodes m k) node_is child))

        of_scope : (s : Standing) → slice_get (standings tokens nodes 0 nodes) at ≡ Some s → contains s.scopes d.scope ≡ true → IsNameMade tokens nodes before single (0 + length (S tokens nodes before single)) d → Below tokens nodes p leaf
        of_scope s here around (m, t, there, lt, name, scope, told, linked) =
            let other = no_file m t there scope told in
            let opened = is_opened at d.scope s here around other in
            let inside = scope_below tokens nodes single externals units p at d.scope is below opened in
            let lower = below_scope tokens nodes single externals units p m d.scope is inside (is_opened m d.scope t there (first_has t.scopes d.scope scope other) other) in
            subst (λ (k : ℕ). Below tokens nodes p k) node_is (further (Part tokens nodes) p m d.node lower (made_below tokens nodes before single m t d.node name))

        by_use : IsUseOf tokens nodes before single K.names K.tags (at, leaf) → Below tokens nodes p leaf
        by_use (s, here, (x, inl there, own, around)) =
            let place = known_is.once has.0 there.0 d x has.1 there.1 (node_is ∙ sym own) in
            let same : d ≡ x = same_place K.names has.0 there.0 d x has.1 there.1 place in
            of_scope s here (subst (λ (y : Declared). contains s.scopes y.scope ≡ true) (sym same) around) made
        by_use (s, here, (x, inr there, own, around)) =
            absurd (no_tag tokens nodes before single d x (0 + length (S tokens nodes before single)) made (every_at (IsTagMade tokens nodes before single) K.tags x known_is.tags there) (node_is ∙ sym own))

-- ---- sources

module _ (items : List SyntaxNode) where
  abbrev N : List Node
  N = map node_of items

  there : (i c : ℕ) → contains (syntax.children_at N i) c ≡ true → contains (children_of (slice_get items i)) c ≡ true
  there i c h = subst (λ (l : List ℕ). contains l c ≡ true) (seen_children items i) h

  back : (i c : ℕ) → contains (children_of (slice_get items i)) c ≡ true → contains (syntax.children_at N i) c ≡ true
  back i c h = subst (λ (l : List ℕ). contains l c ≡ true) (sym (seen_children items i)) h

pub uses_stay : UsesStay
unfolding source_of names_of
uses_stay tokens tree tag_number rooted listed p at leaf d is below paired_is ordinary unlinked untyped plain =
    let items = tree.nodes.items in
    let list = tokens.list.items in
    let P : ℕ → ℕ → Type 0 = λ i c. contains (children_of (slice_get items i)) c ≡ true in
    let Q : ℕ → ℕ → Type 0 = λ i c. contains (syntax.children_at (map node_of items) i) c ≡ true in
    let entry = entry_in (bindings tokens.text.now list (map node_of items)).names leaf d ordinary in
    beneath_by Q P (there items) p leaf
    (stays tokens.text.now list (map node_of items) (λ i c h. rooted.before i c (there items i c h)) (λ i j c h k. rooted.single i j c (there items i c h) (there items j c k))
    (λ i c h e. seen_production items p_unit i refl refl ∙ rooted.externals i c (there items i c h) (sym (seen_production items p_external c refl refl) ∙ e))
    (λ i c h. seen_production items p_unit c refl refl ∙ rooted.units i c (there items i c h))
    (λ c e. let l = listed c (sym (seen_production items p_parameter c refl refl) ∙ e) in (l.0, back items l.0 c l.1, seen_production items p_suffix l.0 refl refl ∙ l.2, l.3))
    p at leaf d (seen_production items p_external p refl refl ∙ is) (beneath_by P Q (back items) p at below) paired_is entry.0 entry.1 unlinked untyped
    (λ i h. seen_production items p_enumerator i refl refl ∙ plain i (there items i leaf h)))

pub names_declared_once : NamesDeclaredOnce
unfolding source_of names_of
names_declared_once tokens tree tag_number rooted =
    let items = tree.nodes.items in
    record {
      names = once tokens.text.now tokens.list.items items (λ i c h. rooted.before i c (there items i c h)) (λ i j c h k. rooted.single i j c (there items i c h) (there items j c k));
      tags = apart tokens.text.now tokens.list.items items (λ i c h. rooted.before i c (there items i c h)) (λ i j c h k. rooted.single i j c (there items i c h) (there items j c k));
    }
  where
    once : (text : List ℕ) (list : List Token) (items : List SyntaxNode) → ((i c : ℕ) → Part list (map node_of items) i c → c < i)
        → ((i j c : ℕ) → Part list (map node_of items) i c → Part list (map node_of items) j c → i ≡ j)
        → (i j : ℕ) (d e : Declared) → slice_get (bindings text list (map node_of items)).names i ≡ Some d → slice_get (bindings text list (map node_of items)).names j ≡ Some e → d.node ≡ e.node → i ≡ j
    once text list items before single = (all_known list (map node_of items) before single text).once

    apart : (text : List ℕ) (list : List Token) (items : List SyntaxNode) → ((i c : ℕ) → Part list (map node_of items) i c → c < i)
        → ((i j c : ℕ) → Part list (map node_of items) i c → Part list (map node_of items) j c → i ≡ j)
        → (i j : ℕ) (d e : Declared) → slice_get (bindings text list (map node_of items)).names i ≡ Some d → slice_get (bindings text list (map node_of items)).tags j ≡ Some e → d.node ≡ e.node → ⊥
    apart text list items before single i j d e di ej same =
        let nodes = map node_of items in
        let h = all_known list nodes before single text in
        let n = 0 + length (S list nodes before single) in
        no_tag list nodes before single d e n (every_at (IsNameMade list nodes before single n) (bindings text list nodes).names d h.names (i, di))
        (every_at (IsTagMade list nodes before single) (bindings text list nodes).tags e h.tags (j, ej)) same

-- ---- names with linkage

seen_token : (items : List SyntaxNode) (i : ℕ) (n : SyntaxNode) → slice_get items i ≡ Some n → syntax.token_at (map node_of items) i ≡ n.token
seen_token [] i n e = cc
seen_token (m ∷ items) zero n e = let same : m ≡ n = cc in ap (λ (x : SyntaxNode). x.token) same
seen_token (m ∷ items) (suc i) n e = seen_token items i n e

identifier_same : (k : TokenKind) → syntax.is_identifier k ≡ is_identifier k
identifier_same Identifier = refl
identifier_same (Keyword k) = refl
identifier_same (Punctuator p) = refl
identifier_same Integer = refl
identifier_same Floating = refl
identifier_same Character = refl
identifier_same Text = refl
identifier_same End = refl

-- the leaf of an identifier as the rows see it
seen_name : (s : Source) (i : ℕ) → syntax.is_name s.tokens (map node_of s.nodes) i ≡ true → is_name s i ≡ true
seen_name s i h = by (slice_get s.nodes i) refl (syntax.is_leaf (map node_of s.nodes) i) refl h
  where
    absent : (items : List SyntaxNode) (k : ℕ) → slice_get items k ≡ None → syntax.production_at (map node_of items) k ≡ p_nothing
    absent [] k e = refl
    absent (n ∷ items) zero e = cc
    absent (n ∷ items) (suc k) e = absent items k e

    by : (o : Option SyntaxNode) → slice_get s.nodes i ≡ o → (b : Bool) → syntax.is_leaf (map node_of s.nodes) i ≡ b → syntax.is_identifier (if b then syntax.token_kind s.tokens (syntax.token_at (map node_of s.nodes) i) else End) ≡ true → is_name s i ≡ true
    by o at false e h = cc
    by None at true e h =
        let off : syntax.is_leaf (map node_of s.nodes) i ≡ false = ap (λ (p : ℕ). p == leaf) (absent s.nodes i at) in
        absurd (no_both _ e off)
    by (Some n) at true e h =
        let is_leaf : (production_of (slice_get s.nodes i) == leaf) ≡ true = ap (λ (o : Option SyntaxNode). production_of o == leaf) at ∙ (sym (leaf_at s.nodes i n at) ∙ e) in
        let kind : is_identifier (kind_of_token (slice_get s.tokens n.token)) ≡ true =
        kinds (slice_get s.tokens n.token) (ap (λ (k : ℕ). syntax.is_identifier (syntax.token_kind s.tokens k)) (sym (seen_token s.nodes i n at)) ∙ h) in
        and_true (production_of (slice_get s.nodes i) == leaf) (is_identifier (kind_at s i)) is_leaf (ap (λ (o : Option SyntaxNode). is_identifier (kind_of_token (token_of s o))) at ∙ kind)
      where
        leaf_at : (items : List SyntaxNode) (k : ℕ) (m : SyntaxNode) → slice_get items k ≡ Some m → syntax.is_leaf (map node_of items) k ≡ (m.production == leaf)
        leaf_at [] k m e = cc
        leaf_at (x ∷ items) zero m e = let same : x ≡ m = cc in ap (λ (y : SyntaxNode). y.production == leaf) same
        leaf_at (x ∷ items) (suc k) m e = leaf_at items k m e

        kinds : (o : Option Token) → syntax.is_identifier (syntax.kind_of o) ≡ true → is_identifier (kind_of_token o) ≡ true
        kinds None e = cc
        kinds (Some t) e = sym (identifier_same t.kind) ∙ e

        and_true : (a b : Bool) → a ≡ true → b ≡ true → (a && b) ≡ true
        and_true true true x y = refl
        and_true false b x y = cc
        and_true true false x y = cc

pub linked_names : LinkedAreNames
unfolding source_of names_of
linked_names tokens tree tag_number rooted i d at linked =
    let items = tree.nodes.items in
    let list = tokens.list.items in
    seen_name (numbered tag_number (source_of tokens tree)) d.node
    (spelled tokens.text.now list items (λ i c h. rooted.before i c (there items i c h)) (λ i j c h k. rooted.single i j c (there items i c h) (there items j c k)) i d at linked)
  where
    spelled : (text : List ℕ) (list : List Token) (items : List SyntaxNode) → ((i c : ℕ) → Part list (map node_of items) i c → c < i)
        → ((i j c : ℕ) → Part list (map node_of items) i c → Part list (map node_of items) j c → i ≡ j)
        → (i : ℕ) (d : Declared) → slice_get (bindings text list (map node_of items)).names i ≡ Some d → has_linkage d ≡ true → syntax.is_name list (map node_of items) d.node ≡ true
    spelled text list items before single i d at linked =
        let nodes = map node_of items in
        let n = 0 + length (S list nodes before single) in
        by (every_at (IsNameMade list nodes before single n) (bindings text list nodes).names d (all_known list nodes before single text).names (i, at))
      where
        by : IsNameMade list (map node_of items) before single (0 + length (S list (map node_of items) before single)) d → syntax.is_name list (map node_of items) d.node ≡ true
        by (m, t, there, lt, name, scope, told, own) = own linked
