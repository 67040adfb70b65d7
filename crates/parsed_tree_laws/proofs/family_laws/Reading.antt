-- The family of each node of a parsed tree.
use Rattle.std.proofs.Common.{arith, ◌≡◌, ℕ, zero, suc, Bool, true, false, ◌&&◌, ◌||◌, List, [], ◌∷◌, map, Option, Some, None, slice_get, refl, sym, ap, ◌∙◌, subst, inl, inr, ◌⊎◌}
use Rattle.std.specs.Prelude.{nat_eq, is_some, if◌then◌else◌, All}
use Rattle.std.proofs.lemmas.Option.{slice_get_within, get_or_from_slice_get}
use Rattle.std.proofs.lemmas.Bool.{eqb-true}
use Rattle.c_lexer.specs.declared.Token.{Token}
use Rattle.c_lexer.specs.declared.Tokens.{Tokens}
use Rattle.c_lexer.specs.declared.TokenKind.{TokenKind}
use Rattle.c_lexer.specs.declared.TokenKind.TheVariants.{Identifier, Keyword}
use Rattle.c_lexer.specs.Cut.{IsTokens}
use Rattle.c_lexer.specs.Laws.{Stands}
use Rattle.c_lexer.proofs.OneCut.{stand}
use Rattle.c_grammar.specs.declared.trees.SyntaxNode.{SyntaxNode}
use Rattle.c_grammar.specs.declared.trees.Tree.{Tree}
use Rattle.c_grammar.specs.Names.{no_names}
use Rattle.c_grammar.specs.Productions.{p_unit}
use Rattle.c_grammar.specs.Terminals.{contains}
use Rattle.c_grammar.specs.Reads.{Node, node_of, leaf}
use Rattle.c_parser.specs.c_units.PassedOn.{begin}
use Rattle.c_parser.specs.c_units.Units.{IsUnit}
use Rattle.c_senses.specs.Names.{source_of, numbered}
use Rattle.c_senses.specs.Tree.{Source, production_of, children_of, token_of, kind_of_token, word_of_kind, is_number, word_at, has_word, any_where, is_name, is_identifier, first_where}
use Rattle.parsed_tree_laws.specs.family_laws.Families.{IsChild, Ascend, UnitsAreFamilies}
use Rattle.parsed_tree_laws.proofs.family_laws.Owning.{Climbs, Owned, none_owned}
use Rattle.parsed_tree_laws.proofs.family_laws.Rows.{list_children, member_children}
use Rattle.parsed_tree_laws.proofs.family_laws.Tokens.{IsName}
use Rattle.parsed_tree_laws.proofs.family_laws.Parts.{AreOf, NoUnion, IsPlain, ArePlain, IsHeaded, HasTag, Good, AllGood, opens_good, opens_owned}

-- ---- from the list of the tree's nodes

node_there : (items : List SyntaxNode) (k : ℕ) (n : Node) → slice_get (map node_of items) k ≡ Some n → (m : SyntaxNode) × (slice_get items k ≡ Some m) × (node_of m ≡ n)
node_there [] k n e = cc
node_there (x ∷ items) zero n e = let f : node_of x ≡ n = cc in (x, refl, f)
node_there (x ∷ items) (suc k) n e = node_there items k n e

there_node : (items : List SyntaxNode) (k : ℕ) (n : SyntaxNode) → slice_get items k ≡ Some n → slice_get (map node_of items) k ≡ Some (node_of n)
there_node [] k n e = cc
there_node (x ∷ items) zero n e = let same : x ≡ n = cc in ap (λ (m : SyntaxNode). Some (node_of m)) same
there_node (x ∷ items) (suc k) n e = there_node items k n e

-- a node with a child stands there
child_there : (items : List SyntaxNode) (i k c : ℕ) (o : Option SyntaxNode) → slice_get items i ≡ o → slice_get (children_of o) k ≡ Some c → (n : SyntaxNode) × (slice_get items i ≡ Some n) × (slice_get n.children.items k ≡ Some c)
child_there items i k c None e h = cc
child_there items i k c (Some n) e h = (n, e, h)

stands : (o : Option SyntaxNode) (p : ℕ) → production_of o ≡ p → (p ≡ leaf → ⊥) → (n : SyntaxNode) × (o ≡ Some n)
stands None p e never = absurd (never (sym e))
stands (Some n) p e never = (n, refl)

climbs_ascend : (low high : ℕ) (ks : List ℕ) → Climbs low ks high → Ascend low ks
climbs_ascend low high [] h = tt
climbs_ascend low high (k ∷ ks) h = (h.0, climbs_ascend (suc k) high ks h.1)

ascend_zero : (low : ℕ) (ks : List ℕ) → Ascend low ks → Ascend 0 ks
ascend_zero low [] h = tt
ascend_zero low (k ∷ ks) h = (omega arith, h.1)

produced : (items : List SyntaxNode) (k : ℕ) (m : Node) → slice_get (map node_of items) k ≡ Some m → production_of (slice_get items k) ≡ m.production
produced items k m e = let f = node_there items k m e in ap production_of f.1 ∙ ap (λ (x : Node). x.production) f.2

nth_child : (list : List ℕ) (items : List SyntaxNode) (children : List ℕ) (k c : ℕ) → AreOf list (map node_of items) children → slice_get children k ≡ Some c → contains list (production_of (slice_get items c)) ≡ true
nth_child list items [] k c h e = cc
nth_child list items (x ∷ children) zero c h e =
    let same : x ≡ c = cc in
    subst (λ (y : ℕ). contains list (production_of (slice_get items y)) ≡ true) same (subst (λ (p : ℕ). contains list p ≡ true) (sym (produced items x h.0.0 h.0.1)) h.0.2)
nth_child list items (x ∷ children) (suc k) c h e = nth_child list items children k c h.1 e

-- a production of a list, tested the other way round
two : (p : ℕ) → contains list_children p ≡ true → (nat_eq p leaf || nat_eq p 14) ≡ true
two p h = by (nat_eq leaf p) (nat_eq 14 p) refl refl h
  where
    by : (a b : Bool) → nat_eq leaf p ≡ a → nat_eq 14 p ≡ b → (a || (b || false)) ≡ true → (nat_eq p leaf || nat_eq p 14) ≡ true
    by true b ea eb h = subst (λ (x : ℕ). (nat_eq x leaf || nat_eq x 14) ≡ true) (eqb-true leaf p ea) refl
    by false true ea eb h = subst (λ (x : ℕ). (nat_eq x leaf || nat_eq x 14) ≡ true) (eqb-true 14 p eb) refl
    by false false ea eb h = cc

four : (p : ℕ) → contains member_children p ≡ true → (nat_eq p leaf || (nat_eq p 4 || (nat_eq p 6 || nat_eq p 15))) ≡ true
four p h = by (nat_eq leaf p) (nat_eq 4 p) (nat_eq 6 p) (nat_eq 15 p) refl refl refl refl h
  where
    by : (a b c d : Bool) → nat_eq leaf p ≡ a → nat_eq 4 p ≡ b → nat_eq 6 p ≡ c → nat_eq 15 p ≡ d → (a || (b || (c || (d || false)))) ≡ true → (nat_eq p leaf || (nat_eq p 4 || (nat_eq p 6 || nat_eq p 15))) ≡ true
    by true b c d ea eb ec ed h = subst (λ (x : ℕ). (nat_eq x leaf || (nat_eq x 4 || (nat_eq x 6 || nat_eq x 15))) ≡ true) (eqb-true leaf p ea) refl
    by false true c d ea eb ec ed h = subst (λ (x : ℕ). (nat_eq x leaf || (nat_eq x 4 || (nat_eq x 6 || nat_eq x 15))) ≡ true) (eqb-true 4 p eb) refl
    by false false true d ea eb ec ed h = subst (λ (x : ℕ). (nat_eq x leaf || (nat_eq x 4 || (nat_eq x 6 || nat_eq x 15))) ≡ true) (eqb-true 6 p ec) refl
    by false false false true ea eb ec ed h = subst (λ (x : ℕ). (nat_eq x leaf || (nat_eq x 4 || (nat_eq x 6 || nat_eq x 15))) ≡ true) (eqb-true 15 p ed) refl
    by false false false false ea eb ec ed h = cc

token_has : (P : Token → Type 0) (list : List Token) (k : ℕ) (t : Token) → All P list → slice_get list k ≡ Some t → P t
token_has P list k t h e = subst P (get_or_from_slice_get list k t t e) (h k t (slice_get_within list k t e))

some_passes : (test : ℕ → Bool) (cs : List ℕ) (r c : ℕ) → slice_get cs r ≡ Some c → test c ≡ true → is_some (first_where test cs) ≡ true
some_passes test [] r c e h = cc
some_passes test (x ∷ cs) zero c e h = let same : x ≡ c = cc in ap (λ (b : Bool). is_some (if b then Some x else first_where test cs)) (ap test same ∙ h)
some_passes test (x ∷ cs) (suc r) c e h = by (test x) (some_passes test cs r c e h)
  where
    by : (b : Bool) → is_some (first_where test cs) ≡ true → is_some (if b then Some x else first_where test cs) ≡ true
    by true h = refl
    by false h = h

none_never : {A : Type 0} (o : Option A) → o ≡ None → is_some o ≡ true → ⊥
none_never None e h = cc
none_never (Some x) e h = cc

-- ---- words

no_word_in : (k : TokenKind) → (k ≡ Keyword 29 → ⊥) → is_number (word_of_kind k) 29 ≡ false
no_word_in (Keyword n) never = by (nat_eq n 29) refl
  where
    by : (b : Bool) → nat_eq n 29 ≡ b → b ≡ false
    by true e = absurd (never (ap Keyword (eqb-true n 29 e)))
    by false e = refl
no_word_in k never = refl

no_word : (o : Option Token) → ((t : Token) → o ≡ Some t → t.kind ≡ Keyword 29 → ⊥) → is_number (word_of_kind (kind_of_token o)) 29 ≡ false
no_word None never = refl
no_word (Some t) never = no_word_in t.kind (λ e. never t refl e)

and_none : (a b : Bool) → b ≡ false → (a && b) ≡ false
and_none true b e = e
and_none false b e = refl

not_leaf : (p : ℕ) → (p ≡ leaf → ⊥) → nat_eq p leaf ≡ false
not_leaf p never = by (nat_eq p leaf) refl
  where
    by : (b : Bool) → nat_eq p leaf ≡ b → b ≡ false
    by true e = absurd (never (eqb-true p leaf e))
    by false e = refl

or_none : (a b c : Bool) → a ≡ c → b ≡ false → (a || b) ≡ c
or_none true b c e f = e
or_none false b c e f = f ∙ e

module _ (tokens : Tokens) (unit : ℕ) (tree : Tree) (tag_number : ℕ → ℕ) (cut : IsTokens tokens.text.now tokens.list.items) (read : IsUnit tokens unit tree) where
  abbrev there : Source
  there = numbered tag_number (source_of tokens tree)

  abbrev items : List SyntaxNode
  items = tree.nodes.items

  abbrev text : List ℕ
  text = tokens.text.now

  abbrev list : List Token
  list = tokens.list.items

  stand_all : (k : ℕ) (t : Token) → slice_get list k ≡ Some t → Stands text t
  stand_all k t e = token_has (Stands text) list k t (stand text list cut) e

  all_good : AllGood text list stand_all (map node_of items) (map node_of items)
  all_good = let whole = read.0 in subst (λ (l : List Node). AllGood text list stand_all l l) whole.2 (opens_good text list stand_all p_unit 0 (begin 0 no_names []) whole.0 whole.1 tt)

  all_owned : Owned (map node_of items)
  all_owned = let whole = read.0 in subst Owned whole.2 (opens_owned text list stand_all p_unit 0 (begin 0 no_names []) whole.0 whole.1 none_owned)

  good_in : (more : List SyntaxNode) (i : ℕ) (n : SyntaxNode) → AllGood text list stand_all (map node_of items) (map node_of more) → slice_get more i ≡ Some n → Good text list stand_all (map node_of items) (node_of n)
  good_in [] i n g e = cc
  good_in (m ∷ more) zero n g e = let same : m ≡ n = cc in subst (λ (x : SyntaxNode). Good text list stand_all (map node_of items) (node_of x)) same g.0
  good_in (m ∷ more) (suc i) n g e = good_in more i n g.1 e

  single : (i j c : ℕ) → IsChild there i c → IsChild there j c → i ≡ j
  unfolding source_of
  single i j c h g =
      let n = child_there items i h.0 c (slice_get items i) refl h.1 in
      let m = child_there items j g.0 c (slice_get items j) refl g.1 in
      all_owned.single i j c (node_of n.0) (node_of m.0) (there_node items i n.0 n.1) (there_node items j m.0 m.1) (h.0, n.2) (g.0, m.2)

  ascend_of : (i : ℕ) (o : Option SyntaxNode) → slice_get items i ≡ o → Ascend 0 (children_of o)
  ascend_of i None e = tt
  ascend_of i (Some n) e = let g = good_in items i n all_good e in ascend_zero g.low n.children.items (climbs_ascend g.low g.high n.children.items g.ascends)

  lists_of : (i k c : ℕ) → nat_eq (production_of (slice_get items i)) 13 ≡ true → slice_get (children_of (slice_get items i)) k ≡ Some c → (nat_eq (production_of (slice_get items c)) leaf || nat_eq (production_of (slice_get items c)) 14) ≡ true
  lists_of i k c is h =
      let n = child_there items i k c (slice_get items i) refl h in
      let g = good_in items i n.0 all_good n.1 in
      let own = g.lists (ap production_of (sym n.1) ∙ eqb-true (production_of (slice_get items i)) 13 is) in
      two (production_of (slice_get items c)) (nth_child list_children items n.0.children.items k c own n.2)

  members_of : (i k c : ℕ) → nat_eq (production_of (slice_get items i)) 14 ≡ true → slice_get (children_of (slice_get items i)) k ≡ Some c
      → (nat_eq (production_of (slice_get items c)) leaf || (nat_eq (production_of (slice_get items c)) 4 || (nat_eq (production_of (slice_get items c)) 6 || nat_eq (production_of (slice_get items c)) 15))) ≡ true
  members_of i k c is h =
      let n = child_there items i k c (slice_get items i) refl h in
      let g = good_in items i n.0 all_good n.1 in
      let own = g.members (ap production_of (sym n.1) ∙ eqb-true (production_of (slice_get items i)) 14 is) in
      four (production_of (slice_get items c)) (nth_child member_children items n.0.children.items k c own n.2)

  -- no leaf of the word
  plain_word : (c : ℕ) → IsPlain text list stand_all (map node_of items) c → has_word there 29 c ≡ false
  unfolding source_of
  plain_word c h =
      let m = node_there items c h.0 h.1 in
      let of : production_of (slice_get items c) ≡ h.0.production = produced items c h.0 h.1 in
      let token : token_of there (slice_get items c) ≡ slice_get list h.0.token = ap (token_of there) m.1 ∙ ap (λ (x : Node). slice_get list x.token) m.2 in
      by h.2 of token
    where
      by : (h.0.production ≡ leaf → ⊥) ⊎ NoUnion text list stand_all (slice_get list h.0.token) → production_of (slice_get items c) ≡ h.0.production → token_of there (slice_get items c) ≡ slice_get list h.0.token → has_word there 29 c ≡ false
      by (inl never) of token =
          ap (λ (b : Bool). b && is_number (word_at there c) 29) (ap (λ (p : ℕ). nat_eq p leaf) of ∙ not_leaf h.0.production never)
      by (inr never) of token =
          and_none (nat_eq (production_of (slice_get items c)) leaf) (is_number (word_at there c) 29)
          (ap (λ (o : Option Token). is_number (word_of_kind (kind_of_token o)) 29) token ∙ no_word (slice_get list h.0.token) never)

  plain_words : (cs : List ℕ) → ArePlain text list stand_all (map node_of items) cs → any_where (has_word there 29) cs ≡ false
  plain_words [] h = refl
  plain_words (c ∷ cs) h = or_none (has_word there 29 c) (any_where (has_word there 29) cs) false (plain_word c h.0) (plain_words cs h.1)

  headed_words : (n : SyntaxNode) (cs : List ℕ) → IsHeaded text list stand_all n.token (map node_of items) cs → any_where (has_word there 29) cs ≡ is_number (word_of_kind (kind_of_token (slice_get list n.token))) 29
  unfolding source_of
  headed_words n [] h = absurd h
  headed_words n (c ∷ cs) h =
      let m = node_there items c h.0.0 h.0.1 in
      let of : production_of (slice_get items c) ≡ leaf = produced items c h.0.0 h.0.1 ∙ h.0.2 in
      let token : token_of there (slice_get items c) ≡ slice_get list n.token = ap (token_of there) m.1 ∙ (ap (λ (x : Node). slice_get list x.token) m.2 ∙ ap (slice_get list) h.0.3) in
      let word : is_number (word_at there c) 29 ≡ is_number (word_of_kind (kind_of_token (slice_get list n.token))) 29 = ap (λ (o : Option Token). is_number (word_of_kind (kind_of_token o)) 29) token in
      or_none (has_word there 29 c) (any_where (has_word there 29) cs) (is_number (word_of_kind (kind_of_token (slice_get list n.token))) 29)
      (ap (λ (p : ℕ). nat_eq p leaf && is_number (word_at there c) 29) of ∙ word) (plain_words cs h.1)

  words_of : (i : ℕ) → nat_eq (production_of (slice_get items i)) 12 ≡ true
      → any_where (has_word there 29) (children_of (slice_get items i)) ≡ is_number (word_of_kind (kind_of_token (token_of there (slice_get items i)))) 29
  unfolding source_of
  words_of i is =
      let p = eqb-true (production_of (slice_get items i)) 12 is in
      let n = stands (slice_get items i) 12 p (λ e. absurd (omega arith)) in
      let g = good_in items i n.0 all_good n.1 in
      let own = g.structures (ap production_of (sym n.1) ∙ p) in
      ap (λ (o : Option SyntaxNode). any_where (has_word there 29) (children_of o)) n.1
      ∙ (headed_words n.0 n.0.children.items own ∙ ap (λ (o : Option SyntaxNode). is_number (word_of_kind (kind_of_token (token_of there o))) 29) (sym n.1))

  -- a name, or a list
  tagged_in : (n : SyntaxNode) (cs : List ℕ) → HasTag text list stand_all (map node_of items) cs → first_where (is_name there) cs ≡ None → is_some (first_where (λ c. nat_eq (production_of (slice_get items c)) 13) cs) ≡ true
  unfolding source_of
  tagged_in n cs h none = by h.3.2
    where
      m : (m : SyntaxNode) × (slice_get items h.1 ≡ Some m) × (node_of m ≡ h.3.0)
      m = node_there items h.1 h.3.0 h.3.1

      of : production_of (slice_get items h.1) ≡ h.3.0.production
      of = produced items h.1 h.3.0 h.3.1

      token : token_of there (slice_get items h.1) ≡ slice_get list h.3.0.token
      token = ap (token_of there) m.1 ∙ ap (λ (x : Node). slice_get list x.token) m.2

      by : (h.3.0.production ≡ 13) ⊎ ((h.3.0.production ≡ leaf) × IsName (slice_get list h.3.0.token)) → is_some (first_where (λ c. nat_eq (production_of (slice_get items c)) 13) cs) ≡ true
      by (inl e) = some_passes (λ c. nat_eq (production_of (slice_get items c)) 13) cs h.0 h.1 h.2 (ap (λ (p : ℕ). nat_eq p 13) (of ∙ e))
      by (inr e) =
          let kind : kind_of_token (token_of there (slice_get items h.1)) ≡ Identifier = ap kind_of_token token ∙ (ap kind_of_token e.1.1 ∙ e.1.2) in
          let name : is_name there h.1 ≡ true = ap (λ (p : ℕ). nat_eq p leaf && is_identifier (kind_of_token (token_of there (slice_get items h.1)))) (of ∙ e.0) ∙ ap is_identifier kind in
          absurd (none_never (first_where (is_name there) cs) none (some_passes (is_name there) cs h.0 h.1 h.2 name))

  untagged_of : (i : ℕ) → nat_eq (production_of (slice_get items i)) 12 ≡ true → first_where (is_name there) (children_of (slice_get items i)) ≡ None
      → is_some (first_where (λ c. nat_eq (production_of (slice_get items c)) 13) (children_of (slice_get items i))) ≡ true
  untagged_of i is none =
      let p = eqb-true (production_of (slice_get items i)) 12 is in
      let n = stands (slice_get items i) 12 p (λ e. absurd (omega arith)) in
      let g = good_in items i n.0 all_good n.1 in
      let own = g.tagged (ap production_of (sym n.1) ∙ p) in
      let list : children_of (slice_get items i) ≡ n.0.children.items = ap children_of n.1 in
      subst (λ (l : List ℕ). is_some (first_where (λ c. nat_eq (production_of (slice_get items c)) 13) l) ≡ true) (sym list)
      (tagged_in n.0 n.0.children.items own (subst (λ (l : List ℕ). first_where (is_name there) l ≡ None) list none))

pub units_families : UnitsAreFamilies
unfolding source_of
units_families tokens unit tree tag_number cut read = record {
  single = single tokens unit tree tag_number cut read;
  ascend = λ i. ascend_of tokens unit tree tag_number cut read i (slice_get tree.nodes.items i) refl;
  lists = λ i c is h. lists_of tokens unit tree tag_number cut read i h.0 c is h.1;
  members = λ i c is h. members_of tokens unit tree tag_number cut read i h.0 c is h.1;
  words = λ i is. words_of tokens unit tree tag_number cut read i is;
  untagged = λ i is none. untagged_of tokens unit tree tag_number cut read i is none;
}
