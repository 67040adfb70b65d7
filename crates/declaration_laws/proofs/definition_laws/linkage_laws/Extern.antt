-- The word `extern` among specifiers, as the resolution of names and as the rows see it.
use Rattle.std.proofs.Common.{◌≡◌, ℕ, ◌||◌, ◌&&◌, ◌==◌, nat_eq, Bool, true, false, List, [], ◌∷◌, Option, Some, None, length, take, slice_get, eq-eqb, refl, sym, ap, ◌∙◌, subst}
use Rattle.std.specs.Prelude.{if◌then◌else◌}
use Rattle.std.specs.List.{list_any}
use Rattle.std.proofs.lemmas.Bool.{eqb-true}
use Rattle.pta_base.specs.declared.kind.Kind.TheVariants.{Operand}
use Rattle.c_lexer.specs.declared.Token.{Token}
use Rattle.c_lexer.specs.declared.TokenKind.{TokenKind}
use Rattle.c_lexer.specs.declared.TokenKind.TheVariants.{Identifier, Keyword, Punctuator, Integer, Floating, Character, Text, End}
use Rattle.c_grammar.specs.declared.trees.SyntaxNode.{SyntaxNode}
use Rattle.c_grammar.specs.Productions.{p_specs, p_storage, p_type}
use Rattle.c_grammar.specs.Terminals.{contains}
use Rattle.c_grammar.specs.Reads.{Node, leaf}
use Rattle.c_mentions.specs.Syntax as syntax
use Rattle.c_mentions.specs.Roles as roles
use Rattle.c_senses.specs.Tree.{Source, production_of, children_of, children_at, is_a, token_of, kind_of_token, word_at, word_of_kind, all_where}
use Rattle.c_senses.specs.Given.{Fits, given_if}
use Rattle.c_senses.specs.World.{World}
use Rattle.c_senses.specs.Sense.{Sense, IsSpecified, Specified, sense_in}
use Rattle.c_senses.specs.Specifiers.{words_at, with_word, storage_words, specs_row, words_fit, function_words, specified_type, first_type}
use Rattle.c_senses.specs.Rows.{AreSenses, row_of, world_at}
use Rattle.core_node_laws.proofs.count_laws.passed.parsed_tree_laws.nesting_laws.PassedOn.{Grown, row_at}
use Rattle.declaration_laws.proofs.definition_laws.linkage_laws.Seen.{nodes, some_same, none_some, production_is, children_are}
use Rattle.declaration_laws.proofs.definition_laws.linkage_laws.Words.{leaf_at}

any_found : (test : ℕ → Bool) (xs : List ℕ) → list_any test xs ≡ true → (y : ℕ) × (contains xs y ≡ true) × (test y ≡ true)
any_found test [] h = cc
any_found test (x ∷ xs) h = by (test x) refl h (λ f. any_found test xs f)
  where
    more : (a b : Bool) → b ≡ true → (a || b) ≡ true
    more true b e = refl
    more false b e = e

    by : (b : Bool) → test x ≡ b → (b || list_any test xs) ≡ true → (list_any test xs ≡ true → (y : ℕ) × (contains xs y ≡ true) × (test y ≡ true)) → (y : ℕ) × ((nat_eq x y || contains xs y) ≡ true) × (test y ≡ true)
    by true e h later = (x, ap (λ (b : Bool). b || contains xs x) (eq-eqb x x refl), e)
    by false e h later = let found = later h in (found.0, more (nat_eq x found.0) (contains xs found.0) found.1, found.2)

both : (a b : Bool) → (a && b) ≡ true → (a ≡ true) × (b ≡ true)
both true true e = (refl, refl)
both true false e = cc
both false b e = cc

word_is : (k : TokenKind) (word : ℕ) → syntax.is_keyword k word ≡ true → word_of_kind k ≡ Some word
word_is (Keyword w) word h = ap Some (eqb-true w word h)
word_is (Punctuator w) word h = cc
word_is Identifier word h = cc
word_is Integer word h = cc
word_is Floating word h = cc
word_is Character word h = cc
word_is Text word h = cc
word_is End word h = cc

module _ (s : Source) where
  -- among the words of some nodes
  in_words : (word c : ℕ) (test : ℕ → Bool) (xs : List ℕ) → contains xs c ≡ true → test c ≡ true → word_at s c ≡ Some word → contains (words_at s (all_where test xs)) word ≡ true
  in_words word c test [] h is at = cc
  in_words word c test (x ∷ xs) h is at = by (nat_eq x c) refl h (λ f. in_words word c test xs f is at)
    where
      kept : (o : Option ℕ) (rest : List ℕ) → contains rest word ≡ true → contains (with_word o rest) word ≡ true
      kept None rest e = e
      kept (Some w) rest e = more (nat_eq w word) (contains rest word) e
        where
          more : (a b : Bool) → b ≡ true → (a || b) ≡ true
          more true b e = refl
          more false b e = e

      first : (o : Option ℕ) (rest : List ℕ) → o ≡ Some word → contains (with_word o rest) word ≡ true
      first None rest e = absurd (none_some e)
      first (Some w) rest e = ap (λ (b : Bool). b || contains rest word) (eq-eqb w word (some_same e))

      here : (b : Bool) → b ≡ true → word_at s x ≡ Some word → contains (words_at s (if b then x ∷ all_where test xs else all_where test xs)) word ≡ true
      here true e f = first (word_at s x) (words_at s (all_where test xs)) f
      here false e f = cc

      there : (b : Bool) → contains (words_at s (all_where test xs)) word ≡ true → contains (words_at s (if b then x ∷ all_where test xs else all_where test xs)) word ≡ true
      there true e = kept (word_at s x) (words_at s (all_where test xs)) e
      there false e = e

      by : (b : Bool) → nat_eq x c ≡ b → (b || contains xs c) ≡ true → (contains xs c ≡ true → contains (words_at s (all_where test xs)) word ≡ true) → contains (words_at s (if test x then x ∷ all_where test xs else all_where test xs)) word ≡ true
      by true e h later = let same : x ≡ c = eqb-true x c e in here (test x) (ap test same ∙ is) (ap (word_at s) same ∙ at)
      by false e h later = there (test x) (later h)

  -- the node of a storage-class specifier has the leaf of its own word
  abbrev pub StorageWords : Type 0
  StorageWords = (c : ℕ) (n : SyntaxNode) → slice_get s.nodes c ≡ Some n → n.production ≡ p_storage → (k : ℕ) × (n.children.items ≡ k ∷ []) × (slice_get (nodes s) k ≡ Some (leaf_at n.token))

  word_of : StorageWords → (c word : ℕ) → is_a s p_storage c ≡ true → roles.begins_with s.tokens (nodes s) c word ≡ true → word_at s c ≡ Some word
  unfolding roles.begins_with
  word_of words c word is begins = by (slice_get s.nodes c) refl is
    where
      by : (o : Option SyntaxNode) → slice_get s.nodes c ≡ o → (production_of o == p_storage) ≡ true → word_at s c ≡ Some word
      by None at h = cc
      by (Some n) at h =
          let own = words c n at (eqb-true n.production p_storage h) in
          let children : syntax.children_at (nodes s) c ≡ own.0 ∷ [] = children_are s c ∙ (ap children_of at ∙ own.1) in
          let told : syntax.is_word s.tokens (nodes s) own.0 word ≡ true = sym (ap (λ (l : List ℕ). roles.word_first s.tokens (nodes s) word (syntax.first_of l)) children) ∙ begins in
          let kind : syntax.leaf_kind s.tokens (nodes s) own.0 ≡ syntax.token_kind s.tokens n.token = ap (λ (o : Option Node). if syntax.production_of o == leaf then syntax.token_kind s.tokens (syntax.token_of o) else End) own.2 in
          ap (λ (o : Option SyntaxNode). word_of_kind (kind_of_token (token_of s o))) at ∙ kind_word (slice_get s.tokens n.token) (sym (ap (λ (k : TokenKind). syntax.is_keyword k word) kind) ∙ told)
        where
          kind_word : (o : Option Token) → syntax.is_keyword (syntax.kind_of o) word ≡ true → word_of_kind (kind_of_token o) ≡ Some word
          kind_word None h = cc
          kind_word (Some t) h = word_is t.kind word h

  module _ (senses : List Sense) (grown : Grown s) (are : AreSenses s senses) (whole : length senses ≡ length s.nodes) where
    given_fits : (b : Bool) (at : ℕ) (x y : Sense) → given_if b Operand at (Fits x) ≡ Fits y → x ≡ y
    given_fits true at x y e = let same : x ≡ y = cc in same
    given_fits false at x y e = cc

    specs_of_row : (w : World) (sense : ℕ → Sense) (at p : ℕ) (children : List ℕ) (y : Sense) → p ≡ p_specs → row_of w s sense p at children ≡ Fits y → (x : Specified) × (y ≡ IsSpecified x) × (x.storage ≡ storage_words s children)
    specs_of_row w sense at p children y is e =
        let told : specs_row w s sense at children ≡ Fits y = subst (λ (q : ℕ). row_of w s sense q at children ≡ Fits y) is e in
        let types = all_where (is_a s p_type) children in
        let x : Specified = record { storage = storage_words s children; functions = function_words s children; type = specified_type w s sense types (first_type w s sense types) } in
        (x, sym (given_fits (words_fit s at (storage_words s children) (function_words s children)) at (IsSpecified x) y told), refl)

    -- what specifiers stand for
    pub specs_sense : (i : ℕ) → is_a s p_specs i ≡ true → (x : Specified) × (sense_in senses i ≡ IsSpecified x) × (x.storage ≡ storage_words s (children_at s i))
    specs_sense i h = by (slice_get s.nodes i) refl h
      where
        by : (o : Option SyntaxNode) → slice_get s.nodes i ≡ o → (production_of o == p_specs) ≡ true → (x : Specified) × (sense_in senses i ≡ IsSpecified x) × (x.storage ≡ storage_words s (children_of o))
        by None at h = cc
        by (Some n) at h = specs_of_row (world_at s (take i senses) i) (sense_in (take i senses)) i n.production n.children.items (sense_in senses i) (eqb-true n.production p_specs h) (row_at s senses grown are whole i n at)

    -- a word that name resolution finds there
    pub has_word : StorageWords → (specs word : ℕ) → roles.has_storage s.tokens (nodes s) specs word ≡ true → ((c : ℕ) → contains (children_at s specs) c ≡ true → is_a s p_storage c ≡ true → is_a s p_specs specs ≡ true)
        → (is_a s p_specs specs ≡ true) × ((x : Specified) × (sense_in senses specs ≡ IsSpecified x) × (contains x.storage word ≡ true))
    unfolding roles.has_storage
    has_word words specs word h only =
        let found = any_found (λ child. syntax.is_of (nodes s) p_storage child && roles.begins_with s.tokens (nodes s) child word) (syntax.children_at (nodes s) specs) h in
        let c = found.0 in
        let parts = both (syntax.is_of (nodes s) p_storage c) (roles.begins_with s.tokens (nodes s) c word) found.2 in
        let storage : is_a s p_storage c ≡ true = production_is s p_storage c refl parts.0 in
        let child : contains (children_at s specs) c ≡ true = subst (λ (l : List ℕ). contains l c ≡ true) (children_are s specs) found.1 in
        let is = only c child storage in
        let (x, told, storage_is) = specs_sense specs is in
        (is, (x, told, subst (λ (l : List ℕ). contains l word ≡ true) (sym storage_is) (in_words word c (is_a s p_storage) (children_at s specs) child storage (word_of words c word storage parts.1))))
