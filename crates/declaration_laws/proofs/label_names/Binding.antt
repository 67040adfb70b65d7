-- The labels of the functions of a tree whose names are bound.
use Rattle.std.proofs.Common.{arith, ◌≡◌, ◌<◌, ◌≤◌, ◌+◌, ℕ, zero, suc, nat_eq, nat_lt, Bool, true, false, ◌&&◌, ◌||◌, ◌==◌, cond, List, [], ◌∷◌, map, Option, Some, None, length, slice_get, refl, sym, ap, ◌∙◌, subst, ◌⊎◌, inl, inr}
use Rattle.std.specs.Prelude.{is_some, if◌then◌else◌}
use Rattle.std.specs.List.{position_from}
use Rattle.std.specs.Option.{unwrap_or}
use Rattle.std.specs.Cmp.Lexicographic.{pointwise}
use Rattle.std.proofs.lemmas.Bool.{eqb-true}
use Rattle.std.proofs.lemmas.List.{length-map}
use Rattle.c_lexer.specs.declared.Token.{Token}
use Rattle.c_lexer.specs.declared.Tokens.{Tokens}
use Rattle.c_lexer.specs.Cut.{IsTokens}
use Rattle.c_lexer.specs.declared.TokenKind.{TokenKind}
use Rattle.c_lexer.specs.declared.TokenKind.TheVariants.{Identifier, Keyword, Punctuator, Integer, Floating, Character, Text, End}
use Rattle.c_grammar.specs.declared.trees.SyntaxNode.{SyntaxNode}
use Rattle.c_grammar.specs.declared.trees.Tree.{Tree}
use Rattle.c_grammar.specs.Productions.{p_unit, p_external, p_rest, p_declaration, p_block, p_statement}
use Rattle.c_grammar.specs.Reads.{Node, node_of, leaf}
use Rattle.c_grammar.specs.Reads as reads
use Rattle.c_grammar.specs.Terminals.{contains, spelled}
use Rattle.c_mentions.specs.declared.roles.Role.{Role}
use Rattle.c_mentions.specs.declared.roles.Role.TheVariants as role
use Rattle.c_mentions.specs.declared.mentions.Mention.{Mention}
use Rattle.c_mentions.specs.declared.mentions.Mention.TheVariants as mention
use Rattle.c_mentions.specs.Syntax as syntax
use Rattle.c_mentions.specs.Syntax.{nodes_of}
use Rattle.c_mentions.specs.Roles.{handed, selects, is_body, is_function}
use Rattle.c_mentions.specs.Mentions.{mention_at}
use Rattle.c_mentions.specs.Settings.{Standing, standings, handed_down}
use Rattle.c_mentions.specs.Symbols.{symbol_of, first_token, spells}
use Rattle.c_scope.specs.Known.{Happening, nothing_known, first_label, is_first}
use Rattle.c_scope.specs.Resolves.{bindings, happenings, happenings_from, happening, first_of}
use Rattle.c_parser.specs.c_units.Units.{IsUnit}
use Rattle.c_senses.specs.Names.{source_of, numbered}
use Rattle.c_senses.specs.Tree.{Source, production_of, children_of, production_at, children_at, kind_of_token, token_of, is_a, is_name, is_identifier, spelling_of, spelling_at, first_where}
use Rattle.core_node_laws.proofs.passed.parsed_tree_laws.family_laws.Reading.{units_families}
use Rattle.core_node_laws.proofs.passed.parsed_tree_laws.nesting_laws.Nesting.{units_nest}
use Rattle.parsed_tree_laws.proofs.sense_laws.parsed_laws.InOrder.{children_first}
use Rattle.parsed_tree_laws.proofs.sense_laws.statement_laws.Grammar.{statements_parsed}
use Rattle.core_node_laws.specs.standing_laws.Standing.{IsGrown}
use Rattle.core_node_laws.proofs.standing_laws.Climbing.{list_in, in_list}
use Rattle.core_node_laws.specs.passed.parsed_tree_laws.ordered_parts.Ordered.{IsPart, Beneath, itself, under}
use Rattle.declaration_laws.specs.label_names.Labels.{IsBody, IsLabelled, HasLabel, LabelsAreBound}
use Rattle.declaration_laws.proofs.label_names.Known.{Fine, all_fine, first_is}
use Rattle.declaration_laws.proofs.label_names.Standing.{Stand, somewhere, From, outside, below, from_where, statement_role, external_role, no_body, inner_block, own_body, statement_from, names_label, names_goto, label_named}

some_same : {A : Type 0} → {x y : A} → ◌≡◌ {A = Option A} (Some x) (Some y) → x ≡ y
some_same e = cc

both : (a b : Bool) → (a && b) ≡ true → (a ≡ true) × (b ≡ true)
both true b e = (refl, e)
both false b e = cc

left_on : (a b : Bool) → a ≡ true → (a || b) ≡ true
left_on true b e = refl
left_on false b e = cc

right_on : (a b : Bool) → b ≡ true → (a || b) ≡ true
right_on true b e = refl
right_on false b e = e

node_there : (items : List SyntaxNode) (k : ℕ) (n : SyntaxNode) → slice_get items k ≡ Some n → slice_get (map node_of items) k ≡ Some (node_of n)
node_there [] k n e = cc
node_there (x ∷ items) zero n e = let same : x ≡ n = cc in ap (λ (m : SyntaxNode). Some (node_of m)) same
node_there (x ∷ items) (suc k) n e = node_there items k n e

there_node : (items : List SyntaxNode) (k : ℕ) (n : Node) → slice_get (map node_of items) k ≡ Some n → (m : SyntaxNode) × (slice_get items k ≡ Some m) × (node_of m ≡ n)
there_node [] k n e = cc
there_node (x ∷ items) zero n e = let same : node_of x ≡ n = cc in (x, refl, same)
there_node (x ∷ items) (suc k) n e = there_node items k n e

-- ---- symbols

bytes_same : (xs : List ℕ) → pointwise nat_eq xs xs ≡ true
bytes_same [] = refl
bytes_same (x ∷ xs) = both_are (nat_eq x x) (pointwise nat_eq xs xs) (same x) (bytes_same xs)
  where
    both_are : (a b : Bool) → a ≡ true → b ≡ true → (a && b) ≡ true
    both_are true b e f = f
    both_are false b e f = cc

    same : (n : ℕ) → nat_eq n n ≡ true
    same n = grind (arith)

same_bytes : (xs ys : List ℕ) → pointwise nat_eq xs ys ≡ true → xs ≡ ys
same_bytes [] [] e = refl
same_bytes [] (y ∷ ys) e = cc
same_bytes (x ∷ xs) [] e = cc
same_bytes (x ∷ xs) (y ∷ ys) e =
    let parts = both (nat_eq x y) (pointwise nat_eq xs ys) e in
    ap (λ (n : ℕ). n ∷ xs) (eqb-true x y parts.0) ∙ ap (λ (l : List ℕ). y ∷ l) (same_bytes xs ys parts.1)

found_from : (test : Token → Bool) (ts : List Token) (from k : ℕ) (t : Token) → slice_get ts k ≡ Some t → test t ≡ true → (x : ℕ) × (position_from test from ts ≡ Some x)
found_from test [] from k t e h = cc
found_from test (x ∷ ts) from zero t e h = by (test x) (let same : x ≡ t = cc in ap test same ∙ h)
  where
    by : (b : Bool) → b ≡ true → (y : ℕ) × (cond b (Some from) (position_from test (from + 1) ts) ≡ Some y)
    by true is = (from, refl)
    by false is = cc
found_from test (x ∷ ts) from (suc k) t e h = by (test x) (found_from test ts (from + 1) k t e h)
  where
    by : (b : Bool) → (y : ℕ) × (position_from test (from + 1) ts ≡ Some y) → (y : ℕ) × (cond b (Some from) (position_from test (from + 1) ts) ≡ Some y)
    by true rest = (from, refl)
    by false rest = rest

found_passes : (test : Token → Bool) (ts : List Token) (from x : ℕ) → position_from test from ts ≡ Some x → (k : ℕ) × (u : Token) × (slice_get ts k ≡ Some u) × (test u ≡ true) × (x ≡ from + k)
found_passes test [] from x e = cc
found_passes test (t ∷ ts) from x e = by (test t) refl e (λ f. found_passes test ts (from + 1) x f)
  where
    by : (b : Bool) → test t ≡ b → cond b (Some from) (position_from test (from + 1) ts) ≡ Some x
        → (position_from test (from + 1) ts ≡ Some x → (k : ℕ) × (u : Token) × (slice_get ts k ≡ Some u) × (test u ≡ true) × (x ≡ from + 1 + k))
        → (k : ℕ) × (u : Token) × (slice_get (t ∷ ts) k ≡ Some u) × (test u ≡ true) × (x ≡ from + k)
    by true is e later = let same : from ≡ x = cc in (0, t, refl, is, omega (arith, same))
    by false is e later = let more = later e in (suc more.0, more.1, more.2, more.3, (let plus = more.4 in omega (arith, plus)))

-- a name's symbol is the first token that spells it
record Symbol (text : List ℕ) (tokens : List Token) (k : ℕ) (name : List ℕ) : Type 0 where
  number : ℕ
  symbol : symbol_of text tokens k ≡ number
  token : Token
  there : slice_get tokens number ≡ Some token
  spells_it : spelled text token ≡ name
  found : first_token text tokens name ≡ Some number

name_symbol : (text : List ℕ) (tokens : List Token) (k : ℕ) (t : Token) → slice_get tokens k ≡ Some t → t.kind ≡ Identifier → Symbol text tokens k (spelled text t)
unfolding symbol_of
name_symbol text tokens k t e is =
    let passes : spells text (spelled text t) t ≡ true = rw (is) (bytes_same (spelled text t)) in
    let found = found_from (spells text (spelled text t)) tokens 0 k t e passes in
    let kind : syntax.is_identifier (syntax.token_kind tokens k) ≡ true = ap (λ (o : Option Token). syntax.is_identifier (syntax.kind_of o)) e ∙ ap syntax.is_identifier is in
    let name : first_token text tokens (reads.name_at text (slice_get tokens k)) ≡ Some found.0 = ap (λ (o : Option Token). first_token text tokens (reads.name_at text o)) e ∙ found.1 in
    let passed = found_passes (spells text (spelled text t)) tokens 0 found.0 found.1 in
    let place : passed.0 ≡ found.0 = (let plus = passed.4 in omega (arith, plus)) in
    record {
      number = found.0;
      symbol = chosen (syntax.is_identifier (syntax.token_kind tokens k)) (first_token text tokens (reads.name_at text (slice_get tokens k))) found.0 kind name;
      token = passed.1;
      there = ap (λ (n : ℕ). slice_get tokens n) (sym place) ∙ passed.2;
      spells_it = sym (same_bytes (spelled text t) (spelled text passed.1) (both (syntax.is_identifier passed.1.kind) (pointwise nat_eq (spelled text t) (spelled text passed.1)) passed.3).1);
      found = found.1;
    }
  where
    chosen : (b : Bool) (o : Option ℕ) (x : ℕ) → b ≡ true → o ≡ Some x → (if b then unwrap_or o k else k) ≡ x
    chosen b o x p q = rw (p, q) refl

-- what each node does
happens : (text : List ℕ) (tokens : List Token) (nodes : List Node) (k : ℕ) (ss : List Standing) (j : ℕ) (st : Standing) → slice_get ss j ≡ Some st → slice_get (happenings_from text tokens nodes k ss) j ≡ Some (happening text tokens nodes (k + j) st)
happens text tokens nodes k [] j st e = cc
happens text tokens nodes k (x ∷ ss) zero st e = let same : x ≡ st = cc in let plus : k ≡ k + 0 = omega arith in ap (λ (y : Standing). Some (happening text tokens nodes k y)) same ∙ ap (λ (n : ℕ). Some (happening text tokens nodes n st)) plus
happens text tokens nodes k (x ∷ ss) (suc j) st e = let plus : k + 1 + j ≡ k + suc j = omega arith in happens text tokens nodes (k + 1) ss j st e ∙ ap (λ (n : ℕ). Some (happening text tokens nodes n st)) plus

-- a happening is that of where a node stands
happened : (text : List ℕ) (tokens : List Token) (nodes : List Node) (k : ℕ) (ss : List Standing) (j : ℕ) (h : Happening) → slice_get (happenings_from text tokens nodes k ss) j ≡ Some h → (st : Standing) × (slice_get ss j ≡ Some st)
happened text tokens nodes k [] j h e = cc
happened text tokens nodes k (x ∷ ss) zero h e = (x, refl)
happened text tokens nodes k (x ∷ ss) (suc j) h e = happened text tokens nodes (k + 1) ss j h e

module _ (s : Source) (grown : IsGrown s) (right : first_of s.text s.tokens (map node_of s.nodes) ≡ None) where
  abbrev nodes : List Node
  nodes = map node_of s.nodes

  abbrev S : ℕ → Standing → Type 0
  S c st = Stand s.tokens nodes c st

  abbrev symbol : ℕ → ℕ
  symbol c = symbol_of s.text s.tokens (syntax.token_at nodes c)

  abbrev within : ℕ → Bool
  within i = is_a s p_statement i || is_a s p_block i

  count_same : length nodes ≡ length s.nodes
  count_same = length-map s.nodes node_of

  -- ---- the nodes as the resolution of names sees them

  there_of : (p c : ℕ) → IsPart s p c → (m : SyntaxNode) × (slice_get s.nodes p ≡ Some m)
  there_of p c h = by (slice_get s.nodes p) refl h.1
    where
      by : (o : Option SyntaxNode) → slice_get s.nodes p ≡ o → slice_get (children_of o) h.0 ≡ Some c → (m : SyntaxNode) × (slice_get s.nodes p ≡ Some m)
      by None e f = cc
      by (Some m) e f = (m, e)

  production_is : (p : ℕ) (m : SyntaxNode) → slice_get s.nodes p ≡ Some m → syntax.production_at nodes p ≡ production_at s p
  production_is p m e = ap syntax.production_of (node_there s.nodes p m e) ∙ sym (ap production_of e)

  children_are : (p : ℕ) (m : SyntaxNode) → slice_get s.nodes p ≡ Some m → syntax.children_at nodes p ≡ children_at s p
  children_are p m e = ap syntax.children_of (node_there s.nodes p m e) ∙ sym (ap children_of e)

  first_is_child : (p first : ℕ) (rest : List ℕ) (m : SyntaxNode) → slice_get s.nodes p ≡ Some m → children_at s p ≡ first ∷ rest → syntax.first_child nodes p ≡ Some first
  first_is_child p first rest m e children = ap syntax.first_of (children_are p m e ∙ children)

  inside : (c : ℕ) (m : SyntaxNode) → slice_get s.nodes c ≡ Some m → c < length s.nodes
  inside c m e = by s.nodes c e
    where
      by : (l : List SyntaxNode) (k : ℕ) → slice_get l k ≡ Some m → k < length l
      by [] k f = cc
      by (x ∷ l) zero f = omega arith
      by (x ∷ l) (suc k) f = let more = by l k f in omega (arith, more)

  before_is : (p c : ℕ) → IsPart s p c → c < p
  before_is p c h = grown.first p h.0 c h.1

  -- a part stands where its node hands it down
  handed_is : (p c : ℕ) (st : Standing) → IsPart s p c → S c st → (sp : Standing) × S p sp × (st ≡ handed_down s.tokens nodes p sp)
  handed_is p c st part stands = by (from_where s.tokens nodes c st stands)
    where
      by : From s.tokens nodes c st → (sp : Standing) × S p sp × (st ≡ handed_down s.tokens nodes p sp)
      by (outside out none) =
          let own = there_of p c part in
          let not_there = none p (node_of own.0) (before_is p c part) (node_there s.nodes p own.0 own.1) in
          let has = list_in own.0.children.items part.0 c (subst (λ (o : Option SyntaxNode). slice_get (children_of o) part.0 ≡ Some c) own.1 part.1) in
          let never : true ≡ false = sym has ∙ not_there in
          cc
      by (below q n sp at has there is) =
          let mq = there_node s.nodes q n at in
          let listed = in_list n.children c has in
          let part2 : IsPart s q c = (listed.0, ap (λ (o : Option SyntaxNode). slice_get (children_of o) listed.0) mq.1 ∙ (ap (λ (y : Node). slice_get y.children listed.0) mq.2 ∙ listed.1)) in
          let same = grown.families.single q p c part2 part in
          (sp, subst (λ (y : ℕ). S y sp) same there, is ∙ ap (λ (y : ℕ). handed_down s.tokens nodes y sp) same)

  -- ---- from a statement up to the body stand statements and blocks alone

  child_in : (i c : ℕ) → IsPart s i c → contains (children_at s i) c ≡ true
  child_in i c h = list_in (children_at s i) h.0 c h.1

  apart : (i a b : ℕ) → is_a s a i ≡ true → nat_eq a b ≡ false → is_a s b i ≡ false
  apart i a b h differ = ap (λ (q : ℕ). nat_eq q b) (eqb-true (production_at s i) a h) ∙ differ

  neither : (a b : Bool) → a ≡ false → b ≡ false → (a || b) ≡ true → ⊥
  neither false false ea eb h = cc
  neither true b ea eb h = cc
  neither false true ea eb h = cc

  module _ (top : ℕ) (outer : is_a s p_block top ≡ true) where
    outer_within : within top ≡ true
    outer_within = right_on (is_a s p_statement top) (is_a s p_block top) outer

    no_external : (q : ℕ) → is_a s p_external q ≡ true → Beneath s top q → ⊥
    no_external q external itself = neither (is_a s p_statement q) (is_a s p_block q) (apart q p_external p_statement external refl) (apart q p_external p_block external refl) outer_within
    no_external q external (under {q = r} part itself) =
        let root = grown.nested.externals r q (child_in r q part) external in
        neither (is_a s p_statement r) (is_a s p_block r) (apart r p_unit p_statement root refl) (apart r p_unit p_block root refl) outer_within
    no_external q external (under {q = r} part (under {q = t} up more)) =
        let root = grown.nested.externals r q (child_in r q part) external in
        let none = grown.nested.units t r (child_in t r up) in
        let never : true ≡ false = sym root ∙ none in
        cc

    within_above : (q i : ℕ) → IsPart s q i → within i ≡ true → Beneath s top q → within q ≡ true
    within_above q i part inner above = by (is_a s p_statement i) (is_a s p_block i) refl refl inner
      where
        block_above : (a b : Bool) → is_a s p_external q ≡ a → is_a s p_statement q ≡ b → (a || b) ≡ true → within q ≡ true
        block_above true b ea eb h = absurd (no_external q ea above)
        block_above false true ea eb h = left_on (is_a s p_statement q) (is_a s p_block q) eb
        block_above false false ea eb h = cc

        statement_above : (a b : Bool) → is_a s p_block q ≡ a → is_a s p_statement q ≡ b → (a || b) ≡ true → within q ≡ true
        statement_above true b ea eb h = right_on (is_a s p_statement q) (is_a s p_block q) ea
        statement_above false true ea eb h = left_on (is_a s p_statement q) (is_a s p_block q) eb
        statement_above false false ea eb h = cc

        by : (a b : Bool) → is_a s p_statement i ≡ a → is_a s p_block i ≡ b → (a || b) ≡ true → within q ≡ true
        by true b ea eb h = statement_above (is_a s p_block q) (is_a s p_statement q) refl refl (grown.nested.statements q i (child_in q i part) ea)
        by false true ea eb h = block_above (is_a s p_external q) (is_a s p_statement q) refl refl (grown.nested.blocks q i (child_in q i part) eb)
        by false false ea eb h = cc

    -- a block within it is a part of a statement
    statement_of_block : (q i : ℕ) → IsPart s q i → is_a s p_block i ≡ true → Beneath s top q → is_a s p_statement q ≡ true
    statement_of_block q i part block above = by (is_a s p_external q) (is_a s p_statement q) refl refl (grown.nested.blocks q i (child_in q i part) block)
      where
        by : (a b : Bool) → is_a s p_external q ≡ a → is_a s p_statement q ≡ b → (a || b) ≡ true → is_a s p_statement q ≡ true
        by true b ea eb h = absurd (no_external q ea above)
        by false true ea eb h = eb
        by false false ea eb h = cc

    abbrev body_handed : ℕ → Standing → ℕ
    body_handed i st = if is_body nodes i st.role then i else st.body

    -- where a node stands whose parts are in that body
    abbrev Inner : ℕ → Type 0
    Inner i = (st : Standing) × S i st × (body_handed i st ≡ top)

    taken : (b : Bool) (x y : ℕ) → b ≡ true → (if b then x else y) ≡ x
    taken true x y e = refl
    taken false x y e = cc

    skipped : (b : Bool) (x y : ℕ) → b ≡ false → (if b then x else y) ≡ y
    skipped true x y e = cc
    skipped false x y e = refl

    node_of_statement : (q i : ℕ) → IsPart s q i → is_a s p_statement q ≡ true → syntax.production_at nodes q ≡ 30
    node_of_statement q i part is = let m = there_of q i part in production_is q m.0 m.1 ∙ eqb-true (production_at s q) p_statement is

    module _ (external : ℕ) (is_external : is_a s p_external external ≡ true) (part : IsPart s external top) where
      top_inside : top < length nodes
      top_inside =
          let m = there_of external top part in
          let lt = before_is external top part in
          let up = inside external m.0 m.1 in
          omega (arith, lt, up, count_same)

      first_there : (children : List ℕ) → (k c : ℕ) → slice_get children k ≡ Some c → (first : ℕ) × (rest : List ℕ) × (children ≡ first ∷ rest)
      first_there [] k c e = cc
      first_there (x ∷ rest) k c e = (x, rest, refl)

      block_production : (i : ℕ) (m : SyntaxNode) → slice_get s.nodes i ≡ Some m → is_a s p_block i ≡ true → (syntax.production_at nodes i == p_block) ≡ true
      block_production i m e is = subst (λ (q : ℕ). nat_eq q p_block ≡ true) (sym (production_is i m e)) is

      node_at : (i : ℕ) (q : ℕ) → is_a s q i ≡ true → (q ≡ leaf → ⊥) → (m : SyntaxNode) × (slice_get s.nodes i ≡ Some m)
      node_at i q is never = by (slice_get s.nodes i) refl (eqb-true (production_at s i) q is)
        where
          by : (o : Option SyntaxNode) → slice_get s.nodes i ≡ o → production_of o ≡ q → (m : SyntaxNode) × (slice_get s.nodes i ≡ Some m)
          by None e f = absurd (never (sym f))
          by (Some m) e f = (m, e)

      inner : (i : ℕ) → within i ≡ true → Beneath s top i → Inner i
      inner i is itself =
          let at = somewhere s.tokens nodes i top_inside in
          let up = handed_is external i at.0 part at.1 in
          let me = there_of external i part in
          let first = first_there (children_at s external) part.0 i part.1 in
          let role_is : at.0.role ≡ handed s.tokens nodes external up.0.role = ap (λ (y : Standing). y.role) up.2 in
          let function : is_function at.0.role ≡ true = ap is_function role_is ∙ external_role s.tokens nodes external first.0 up.0.role (production_is external me.0 me.1 ∙ eqb-true (production_at s external) p_external is_external) (first_is_child external first.0 first.1 me.0 me.1 first.2) in
          let m = node_at i p_block outer (λ e. absurd (omega (arith, e))) in
          (at.0, at.1, taken (is_body nodes i at.0.role) i at.0.body (own_body s.tokens nodes i at.0.role (block_production i m.0 m.1 outer) function))
      inner i is (under {q = q} child above) =
          let higher = inner q (within_above q i child is above) above in
          let me = there_of q i child in
          let lt = before_is q i child in
          let up = inside q me.0 me.1 in
          let at = somewhere s.tokens nodes i (omega (arith, lt, up, count_same)) in
          let from = handed_is q i at.0 child at.1 in
          let same : from.0 ≡ higher.0 = some_same (sym from.1 ∙ higher.1) in
          let body_is : at.0.body ≡ top = ap (λ (y : Standing). y.body) from.2 ∙ (ap (λ (y : Standing). body_handed q y) same ∙ higher.2) in
          (at.0, at.1, skipped (is_body nodes i at.0.role) i at.0.body (no_own q i child is above at.0 from) ∙ body_is)
        where
          no_own : (q i : ℕ) → IsPart s q i → within i ≡ true → Beneath s top q → (st : Standing) → (sp : Standing) × S q sp × (st ≡ handed_down s.tokens nodes q sp) → is_body nodes i st.role ≡ false
          no_own q i child is above st (sp, there, e) = by (is_a s p_block i) refl
            where
              by : (b : Bool) → is_a s p_block i ≡ b → is_body nodes i st.role ≡ false
              by false f = no_body s.tokens nodes i st.role (off (slice_get s.nodes i) refl)
                where
                  off : (o : Option SyntaxNode) → slice_get s.nodes i ≡ o → (syntax.production_at nodes i == p_block) ≡ false
                  off None g = absurd (neither (is_a s p_statement i) (is_a s p_block i) (no_leaf g) f is)
                    where
                      no_leaf : slice_get s.nodes i ≡ None → is_a s p_statement i ≡ false
                      no_leaf g = ap (λ (o : Option SyntaxNode). nat_eq (production_of o) p_statement) g
                  off (Some m) g = ap (λ (x : ℕ). nat_eq x p_block) (production_is i m g) ∙ f
              by true f =
                  let statement = statement_of_block q i child f above in
                  let role_is : st.role ≡ handed s.tokens nodes q sp.role = ap (λ (y : Standing). y.role) e in
                  inner_block s.tokens nodes i st.role (ap is_function (role_is ∙ statement_role s.tokens nodes q sp.role (node_of_statement q i child statement)))

      -- the parts of a statement there
      record PartOf (p c : ℕ) : Type 0 where
        standing : Standing
        stands : S c standing
        body : standing.body ≡ top
        selected : Bool
        role_is : standing.role ≡ role.Statement (syntax.first_child nodes p) selected

      part_of : (p c : ℕ) → Beneath s top p → is_a s p_statement p ≡ true → IsPart s p c → PartOf p c
      part_of p c above is child =
          let me = there_of p c child in
          let lt = before_is p c child in
          let up = inside p me.0 me.1 in
          let at = somewhere s.tokens nodes c (omega (arith, lt, up, count_same)) in
          let from = handed_is p c at.0 child at.1 in
          let higher = inner p (left_on (is_a s p_statement p) (is_a s p_block p) is) above in
          let same : from.0 ≡ higher.0 = some_same (sym from.1 ∙ higher.1) in
          record {
            standing = at.0;
            stands = at.1;
            body = ap (λ (y : Standing). y.body) from.2 ∙ (ap (λ (y : Standing). body_handed p y) same ∙ higher.2);
            selected = selects s.tokens nodes p;
            role_is = ap (λ (y : Standing). y.role) from.2 ∙ statement_role s.tokens nodes p from.0.role (node_of_statement p c child is);
          }

  -- ---- names

  token_same : (o : Option Token) → kind_of_token o ≡ syntax.kind_of o
  token_same None = refl
  token_same (Some t) = refl

  identifier_same : (k : TokenKind) → is_identifier k ≡ syntax.is_identifier k
  identifier_same Identifier = refl
  identifier_same (Keyword x) = refl
  identifier_same (Punctuator p) = refl
  identifier_same Integer = refl
  identifier_same Floating = refl
  identifier_same Character = refl
  identifier_same Text = refl
  identifier_same End = refl

  abbrev named_node : Option Node → Bool
  named_node o = syntax.is_identifier (if syntax.production_of o == leaf then syntax.token_kind s.tokens (syntax.token_of o) else End)

  name_there : (c : ℕ) (m : SyntaxNode) → slice_get s.nodes c ≡ Some m → syntax.is_name s.tokens nodes c ≡ is_name s c
  name_there c m e =
      ap named_node (node_there s.nodes c m e)
      ∙ (by (nat_eq m.production leaf) (slice_get s.tokens m.token) ∙ sym (ap (λ (o : Option SyntaxNode). (production_of o == leaf) && is_identifier (kind_of_token (token_of s o))) e))
    where
      by : (b : Bool) (o : Option Token) → syntax.is_identifier (if b then syntax.kind_of o else End) ≡ (b && is_identifier (kind_of_token o))
      by true o = ap syntax.is_identifier (sym (token_same o)) ∙ sym (identifier_same (kind_of_token o))
      by false o = refl

  identifier_is : (k : TokenKind) → is_identifier k ≡ true → k ≡ Identifier
  identifier_is Identifier e = refl
  identifier_is (Keyword x) e = cc
  identifier_is (Punctuator p) e = cc
  identifier_is Integer e = cc
  identifier_is Floating e = cc
  identifier_is Character e = cc
  identifier_is Text e = cc
  identifier_is End e = cc

  -- the token of a name
  record NameToken (c : ℕ) : Type 0 where
    node : SyntaxNode
    at : slice_get s.nodes c ≡ Some node
    token : Token
    there : slice_get s.tokens node.token ≡ Some token
    kind : token.kind ≡ Identifier

  name_token : (c : ℕ) → is_name s c ≡ true → NameToken c
  name_token c h = by (slice_get s.nodes c) refl h
    where
      by_token : (m : SyntaxNode) → slice_get s.nodes c ≡ Some m → (o : Option Token) → slice_get s.tokens m.token ≡ o → is_identifier (kind_of_token o) ≡ true → NameToken c
      by_token m e None f k = cc
      by_token m e (Some t) f k = record { node = m; at = e; token = t; there = f; kind = identifier_is t.kind k }

      by : (o : Option SyntaxNode) → slice_get s.nodes c ≡ o → ((production_of o == leaf) && is_identifier (kind_of_token (token_of s o))) ≡ true → NameToken c
      by None e k = cc
      by (Some m) e k = by_token m e (slice_get s.tokens m.token) refl (both (m.production == leaf) (is_identifier (kind_of_token (slice_get s.tokens m.token))) k).1

  spelling_is : (c : ℕ) (n : NameToken c) → spelling_at s c ≡ spelled s.text n.token
  spelling_is c n = ap (λ (o : Option SyntaxNode). spelling_of s (token_of s o)) n.at ∙ ap (λ (o : Option Token). spelling_of s o) n.there

  own_symbol : (c : ℕ) (n : NameToken c) → symbol c ≡ symbol_of s.text s.tokens n.node.token
  own_symbol c n = ap (λ (o : Option Node). symbol_of s.text s.tokens (syntax.token_of o)) (node_there s.nodes c n.node n.at)

  same_symbol : (a b : ℕ) → is_name s a ≡ true → is_name s b ≡ true → spelling_at s a ≡ spelling_at s b → symbol a ≡ symbol b
  same_symbol a b ha hb same =
      let na = name_token a ha in
      let nb = name_token b hb in
      let x = name_symbol s.text s.tokens na.node.token na.token na.there na.kind in
      let y = name_symbol s.text s.tokens nb.node.token nb.token nb.there nb.kind in
      let names : spelled s.text na.token ≡ spelled s.text nb.token = sym (spelling_is a na) ∙ (same ∙ spelling_is b nb) in
      let one : ◌≡◌ {A = Option ℕ} (Some x.number) (Some y.number) = sym x.found ∙ (ap (first_token s.text s.tokens) names ∙ y.found) in
      own_symbol a na ∙ (x.symbol ∙ (some_same one ∙ (sym y.symbol ∙ sym (own_symbol b nb))))

  same_spelling : (a b : ℕ) → is_name s a ≡ true → is_name s b ≡ true → symbol a ≡ symbol b → spelling_at s a ≡ spelling_at s b
  same_spelling a b ha hb same =
      let na = name_token a ha in
      let nb = name_token b hb in
      let x = name_symbol s.text s.tokens na.node.token na.token na.there na.kind in
      let y = name_symbol s.text s.tokens nb.node.token nb.token nb.there nb.kind in
      let number : x.number ≡ y.number = sym x.symbol ∙ (sym (own_symbol a na) ∙ (same ∙ (own_symbol b nb ∙ y.symbol))) in
      let token : x.token ≡ y.token = some_same (sym x.there ∙ (ap (λ (n : ℕ). slice_get s.tokens n) number ∙ y.there)) in
      spelling_is a na ∙ (sym x.spells_it ∙ (ap (λ (t : Token). spelled s.text t) token ∙ (y.spells_it ∙ sym (spelling_is b nb))))

  -- ---- what is known

  abbrev all : List Happening
  all = happenings_from s.text s.tokens nodes 0 (standings s.tokens nodes 0 nodes)

  abbrev labels : ℕ → ℕ → Option ℕ
  labels = first_label 0 all

  fine : (c : ℕ) (st : Standing) → S c st → Fine (length nodes) labels c st.body (mention_at s.text s.tokens (symbol_of s.text s.tokens) nodes c (nat_lt st.body (length nodes)) st.role)
  unfolding bindings happenings
  fine c st stands =
      let own = all_fine (length nodes) labels 0 nothing_known all right c (happening s.text s.tokens nodes (0 + c) st) (happens s.text s.tokens nodes 0 (standings s.tokens nodes 0 nodes) c st stands) in
      let plus : 0 + c ≡ c = omega arith in
      subst (λ (n : ℕ). Fine (length nodes) labels n st.body (mention_at s.text s.tokens (symbol_of s.text s.tokens) nodes n (nat_lt st.body (length nodes)) st.role)) plus own

  first_here : (n : ℕ) (o : Option ℕ) → is_first n o ≡ true → o ≡ Some n
  first_here n None e = cc
  first_here n (Some x) e = ap (λ (y : ℕ). Some y) (eqb-true x n e)

  some_there : (o : Option ℕ) → is_some o ≡ true → (x : ℕ) × (o ≡ Some x)
  some_there None e = cc
  some_there (Some x) e = (x, refl)

  head_part : (p a : ℕ) (rest : List ℕ) → children_at s p ≡ a ∷ rest → IsPart s p a
  head_part p a rest e = (0, ap (λ (l : List ℕ). slice_get l 0) e)

  -- a label is the first of its symbol in its body
  label_first : (block p a : ℕ) → IsBody s block → IsLabelled s block p a → labels block (symbol a) ≡ Some a
  label_first block p a body l =
      let child = head_part p a l.rest l.children in
      let part = part_of block body.is_block body.external body.is_external body.part p a l.beneath l.statement child in
      let mp = there_of p a child in
      let na = name_token a l.named in
      let named : syntax.is_name s.tokens nodes a ≡ true = name_there a na.node na.at ∙ l.named in
      let role_is : part.standing.role ≡ role.Statement (Some a) part.selected = part.role_is ∙ ap (λ (o : Option ℕ). role.Statement o part.selected) (first_is_child p a l.rest mp.0 mp.1 l.children) in
      let is : mention_at s.text s.tokens (symbol_of s.text s.tokens) nodes a (nat_lt part.standing.body (length nodes)) part.standing.role ≡ mention.Label (symbol a) =
      ap (λ (r : Role). mention_at s.text s.tokens (symbol_of s.text s.tokens) nodes a (nat_lt part.standing.body (length nodes)) r) role_is ∙ names_label s.tokens nodes s.text (symbol_of s.text s.tokens) a (nat_lt part.standing.body (length nodes)) part.selected named in
      let own : is_first a (labels part.standing.body (symbol a)) ≡ true = subst (λ (m : Mention). Fine (length nodes) labels a part.standing.body m) is (fine a part.standing part.stands) in
      first_here a (labels block (symbol a)) (subst (λ (b : ℕ). is_first a (labels b (symbol a)) ≡ true) part.body own)

  once : (block p q a b : ℕ) → IsBody s block → IsLabelled s block p a → IsLabelled s block q b → spelling_at s a ≡ spelling_at s b → p ≡ q
  once block p q a b body lp lq same =
      let one = label_first block p a body lp in
      let two = label_first block q b body lq in
      let signs = same_symbol a b lp.named lq.named same in
      let name : a ≡ b = some_same (sym one ∙ (ap (λ (x : ℕ). labels block x) signs ∙ two)) in
      grown.families.single p q a (head_part p a lp.rest lp.children) (subst (λ (y : ℕ). IsPart s q y) (sym name) (head_part q b lq.rest lq.children))

  -- ---- a node that stands in a body stands beneath it

  climb : (k c block : ℕ) (st : Standing) → length s.nodes ≤ c + k → S c st → st.body ≡ block → block < length nodes → (p : ℕ) × IsPart s p c × Beneath s block p
  climb zero c block st long stands body lt = absurd (past (standings s.tokens nodes 0 nodes) c st stands)
    where
      past : (ss : List Standing) (j : ℕ) (st : Standing) → slice_get (standings s.tokens nodes 0 nodes) c ≡ Some st → ⊥
      past ss j st e = by (from_where s.tokens nodes c st e)
        where
          by : From s.tokens nodes c st → ⊥
          by (outside out none) = let end : st.body ≡ length nodes = ap (λ (y : Standing). y.body) out in small nodes 0 nodes c st e (omega (arith, long, count_same))
            where
              small : (ns : List Node) (i : ℕ) (ms : List Node) (j : ℕ) (st : Standing) → slice_get (standings s.tokens ns i ms) j ≡ Some st → length ms ≤ j → ⊥
              small ns i [] j st e le = cc
              small ns i (x ∷ ms) zero st e le = omega (arith, le)
              small ns i (x ∷ ms) (suc j) st e le = small ns (i + 1) ms j st e (omega (arith, le))
          by (below p n sp at has there is) =
              let m = there_node s.nodes p n at in
              let listed = in_list n.children c has in
              let part : IsPart s p c = (listed.0, ap (λ (o : Option SyntaxNode). slice_get (children_of o) listed.0) m.1 ∙ (ap (λ (y : Node). slice_get y.children listed.0) m.2 ∙ listed.1)) in
              let less = before_is p c part in
              let up = inside p m.0 m.1 in
              omega (arith, less, up, long)
  climb (suc k) c block st long stands body lt = by (from_where s.tokens nodes c st stands) (λ p less sp there same. climb k p block sp (omega (arith, long, less)) there same lt)
    where
      by : From s.tokens nodes c st → ((p : ℕ) → c < p → (sp : Standing) → S p sp → sp.body ≡ block → (q : ℕ) × IsPart s q p × Beneath s block q) → (p : ℕ) × IsPart s p c × Beneath s block p
      by (outside out none) later = let end : st.body ≡ length nodes = ap (λ (y : Standing). y.body) out in absurd (omega (arith, end, body, lt))
      by (below p n sp at has there is) later =
          let m = there_node s.nodes p n at in
          let listed = in_list n.children c has in
          let part : IsPart s p c = (listed.0, ap (λ (o : Option SyntaxNode). slice_get (children_of o) listed.0) m.1 ∙ (ap (λ (y : Node). slice_get y.children listed.0) m.2 ∙ listed.1)) in
          let less = before_is p c part in
          own p part less sp there (is_body nodes p sp.role) (sym (ap (λ (y : Standing). y.body) is) ∙ body)
        where
          own : (p : ℕ) → IsPart s p c → c < p → (sp : Standing) → S p sp → (b : Bool) → (if b then p else sp.body) ≡ block → (q : ℕ) × IsPart s q c × Beneath s block q
          own p part less sp there true same = (p, part, subst (λ (y : ℕ). Beneath s y p) same itself)
          own p part less sp there false same = let up = later p less sp there same in (p, part, under up.1 up.2)

  -- the statement that a label begins
  no_statement_role : (q : ℕ) (r : Role) (f : Option ℕ) (sel : Bool) → (syntax.production_at nodes q ≡ 1) ⊎ (syntax.production_at nodes q ≡ 3) → handed s.tokens nodes q r ≡ role.Statement f sel → ⊥
  no_statement_role q r f sel sort e = by (statement_from s.tokens nodes q r f sel e) sort
    where
      by : ((syntax.production_at nodes q ≡ 30) × (f ≡ syntax.first_child nodes q)) ⊎ ((syntax.production_at nodes q ≡ 2) × ((sel : Bool) × (r ≡ role.Statement f sel))) → (syntax.production_at nodes q ≡ 1) ⊎ (syntax.production_at nodes q ≡ 3) → ⊥
      by (inl h) (inl g) = let a = h.0 in omega (arith, a, g)
      by (inl h) (inr g) = let a = h.0 in omega (arith, a, g)
      by (inr h) (inl g) = let a = h.0 in omega (arith, a, g)
      by (inr h) (inr g) = let a = h.0 in omega (arith, a, g)

  -- a part of the rest of a declaration has no statement's role
  rest_role : (p c : ℕ) (sp : Standing) (f : Option ℕ) (sel : Bool) → S p sp → is_a s p_rest p ≡ true → sp.role ≡ role.Statement f sel → ⊥
  rest_role p c sp f sel stands rest role_is = by (from_where s.tokens nodes p sp stands)
    where
      sorted : (q : ℕ) (m : SyntaxNode) → slice_get s.nodes q ≡ Some m → (a b : Bool) → is_a s p_external q ≡ a → is_a s p_declaration q ≡ b → (a || b) ≡ true → (syntax.production_at nodes q ≡ 1) ⊎ (syntax.production_at nodes q ≡ 3)
      sorted q m e true b ea eb h = inl (production_is q m e ∙ eqb-true (production_at s q) p_external ea)
      sorted q m e false true ea eb h = inr (production_is q m e ∙ eqb-true (production_at s q) p_declaration eb)
      sorted q m e false false ea eb h = cc

      by : From s.tokens nodes p sp → ⊥
      by (outside out none) = let end : sp.role ≡ role.Elsewhere = ap (λ (y : Standing). y.role) out in let no : role.Elsewhere ≡ role.Statement f sel = sym end ∙ role_is in cc
      by (below q n sq at has there is) =
          let m = there_node s.nodes q n at in
          let holds : contains (children_at s q) p ≡ true = subst (λ (l : List ℕ). contains l p ≡ true) (sym (ap children_of m.1 ∙ ap (λ (y : Node). y.children) m.2)) has in
          let own : handed s.tokens nodes q sq.role ≡ role.Statement f sel = sym (ap (λ (y : Standing). y.role) is) ∙ role_is in
          no_statement_role q sq.role f sel (sorted q m.0 m.1 (is_a s p_external q) (is_a s p_declaration q) refl refl (grown.nested.rests q p holds rest)) own

  label_statement : (m p block : ℕ) (st : Standing) (sel : Bool) → S m st → st.role ≡ role.Statement (Some m) sel → IsPart s p m → Beneath s block p → is_name s m ≡ true → IsLabelled s block p m
  label_statement m p block st sel stands role_is part above named =
      let from = handed_is p m st part stands in
      let own : handed s.tokens nodes p from.0.role ≡ role.Statement (Some m) sel = sym (ap (λ (y : Standing). y.role) from.2) ∙ role_is in
      by from.0 from.1 (statement_from s.tokens nodes p from.0.role (Some m) sel own)
    where
      first_of_list : (l : List ℕ) → Some m ≡ syntax.first_of l → (rest : List ℕ) × (l ≡ m ∷ rest)
      first_of_list [] e = cc
      first_of_list (x ∷ rest) e = let same : m ≡ x = cc in (rest, ap (λ (y : ℕ). y ∷ rest) (sym same))

      as_statement : syntax.production_at nodes p ≡ 30 → is_a s p_statement p ≡ true
      as_statement e = let own = there_of p m part in subst (λ (q : ℕ). nat_eq q p_statement ≡ true) (sym (sym (production_is p own.0 own.1) ∙ e)) refl

      as_rest : syntax.production_at nodes p ≡ 2 → is_a s p_rest p ≡ true
      as_rest e = let own = there_of p m part in subst (λ (q : ℕ). nat_eq q p_rest ≡ true) (sym (sym (production_is p own.0 own.1) ∙ e)) refl

      by : (sp : Standing) → S p sp → ((syntax.production_at nodes p ≡ 30) × (Some m ≡ syntax.first_child nodes p)) ⊎ ((syntax.production_at nodes p ≡ 2) × ((sel : Bool) × (sp.role ≡ role.Statement (Some m) sel))) → IsLabelled s block p m
      by sp there (inl (thirty, first)) =
          let own = there_of p m part in
          let begins = first_of_list (children_at s p) (first ∙ ap syntax.first_of (children_are p own.0 own.1)) in
          record { beneath = above; statement = as_statement thirty; rest = begins.0; children = begins.1; named = named }
      by sp there (inr (two, (sel, role_is))) = absurd (rest_role p m sp (Some m) sel there (as_rest two) role_is)

  there : (block g first c : ℕ) (rest : List ℕ) → IsBody s block → Beneath s block g → is_a s p_statement g ≡ true → children_at s g ≡ first ∷ rest → is_name s first ≡ false → first_where (is_name s) (children_at s g) ≡ Some c → HasLabel s block c
  there block g first c rest body above is children no_name found =
      let place = placed (children_at s g) found in
      let part = part_of block body.is_block body.external body.is_external body.part g c above is place.0 in
      let mg = there_of g c place.0 in
      let nc = name_token c place.1 in
      let named : syntax.is_name s.tokens nodes c ≡ true = name_there c nc.node nc.at ∙ place.1 in
      let role_is : part.standing.role ≡ role.Statement (Some first) part.selected = part.role_is ∙ ap (λ (o : Option ℕ). role.Statement o part.selected) (first_is_child g first rest mg.0 mg.1 children) in
      let goes : mention_at s.text s.tokens (symbol_of s.text s.tokens) nodes c (nat_lt part.standing.body (length nodes)) part.standing.role ≡ mention.Goto (symbol c) =
      ap (λ (r : Role). mention_at s.text s.tokens (symbol_of s.text s.tokens) nodes c (nat_lt part.standing.body (length nodes)) r) role_is
      ∙ names_goto s.tokens nodes s.text (symbol_of s.text s.tokens) c first (nat_lt part.standing.body (length nodes)) part.selected named (differ (nat_eq first c) refl place.1) in
      let own : is_some (labels part.standing.body (symbol c)) ≡ true = subst (λ (m : Mention). Fine (length nodes) labels c part.standing.body m) goes (fine c part.standing part.stands) in
      let some = some_there (labels block (symbol c)) (subst (λ (b : ℕ). is_some (labels b (symbol c)) ≡ true) part.body own) in
      let is_one = first_is 0 all block (symbol c) some.0 some.1 in
      let number : is_one.0 ≡ some.0 = (let plus = is_one.3 in omega (arith, plus)) in
      let at = happened s.text s.tokens nodes 0 (standings s.tokens nodes 0 nodes) is_one.0 is_one.1 is_one.2 in
      let same : happening s.text s.tokens nodes (0 + is_one.0) at.0 ≡ is_one.1 = some_same (sym (happens s.text s.tokens nodes 0 (standings s.tokens nodes 0 nodes) is_one.0 at.0 at.1) ∙ is_one.2) in
      let zero_plus : 0 + is_one.0 ≡ is_one.0 = omega arith in
      let here : happening s.text s.tokens nodes is_one.0 at.0 ≡ is_one.1 = ap (λ (n : ℕ). happening s.text s.tokens nodes n at.0) (sym zero_plus) ∙ same in
      let in_body : at.0.body ≡ block = ap (λ (h : Happening). h.body) here ∙ is_one.4 in
      let mentions : mention_at s.text s.tokens (symbol_of s.text s.tokens) nodes is_one.0 (nat_lt at.0.body (length nodes)) at.0.role ≡ mention.Label (symbol c) = ap (λ (h : Happening). h.mention) here ∙ is_one.5 in
      let label = label_named s.tokens nodes s.text (symbol_of s.text s.tokens) is_one.0 (symbol c) (nat_lt at.0.body (length nodes)) at.0.role mentions in
      let up = climb (length s.nodes) is_one.0 block at.0 (omega arith) at.1 in_body (top_inside block body.is_block body.external body.is_external body.part) in
      let mm = inside_child up.0 is_one.0 up.1 in
      let is_it : is_name s is_one.0 ≡ true = sym (name_there is_one.0 mm.0 mm.1) ∙ label.0 in
      record {
        statement = up.0;
        name = is_one.0;
        labelled = label_statement is_one.0 up.0 block at.0 label.2.0 at.1 label.2.1 up.1 up.2 is_it;
        spelled = same_spelling is_one.0 c is_it place.1 (sym label.1);
      }
    where
      placed : (l : List ℕ) → first_where (is_name s) l ≡ Some c → ((k : ℕ) × (slice_get l k ≡ Some c)) × (is_name s c ≡ true)
      placed [] e = cc
      placed (x ∷ l) e = by (is_name s x) refl e (placed l)
        where
          by : (b : Bool) → is_name s x ≡ b → (if b then Some x else first_where (is_name s) l) ≡ Some c → (first_where (is_name s) l ≡ Some c → ((k : ℕ) × (slice_get l k ≡ Some c)) × (is_name s c ≡ true)) → ((k : ℕ) × (slice_get (x ∷ l) k ≡ Some c)) × (is_name s c ≡ true)
          by true n e later = let same : x ≡ c = cc in ((0, ap (λ (y : ℕ). Some y) same), subst (λ (y : ℕ). is_name s y ≡ true) same n)
          by false n e later = let more = later e in ((suc more.0.0, more.0.1), more.1)

      differ : (b : Bool) → nat_eq first c ≡ b → is_name s c ≡ true → nat_eq first c ≡ false
      differ false e h = e
      differ true e h = let no : is_name s c ≡ false = subst (λ (y : ℕ). is_name s y ≡ false) (eqb-true first c e) no_name in let never : true ≡ false = sym h ∙ no in cc

      inside_child : (p x : ℕ) → IsPart s p x → (m : SyntaxNode) × (slice_get s.nodes x ≡ Some m)
      inside_child p x h =
          let m = there_of p x h in
          let lt = before_is p x h in
          let up = inside p m.0 m.1 in
          exists_at s.nodes x (omega (arith, lt, up))
        where
          exists_at : (l : List SyntaxNode) (k : ℕ) → k < length l → (m : SyntaxNode) × (slice_get l k ≡ Some m)
          exists_at [] k lt = absurd (omega (arith, lt))
          exists_at (y ∷ l) zero lt = (y, refl)
          exists_at (y ∷ l) (suc k) lt = exists_at l k (omega (arith, lt))

grown : (tokens : Tokens) (unit : ℕ) (tree : Tree) (tag_number : ℕ → ℕ) → IsTokens tokens.text.now tokens.list.items → IsUnit tokens unit tree → IsGrown (numbered tag_number (source_of tokens tree))
grown tokens unit tree tag_number cut is = record {
  first = children_first tokens unit tree tag_number is;
  families = units_families tokens unit tree tag_number cut is;
  statements = statements_parsed tokens unit tree tag_number is;
  nested = units_nest tokens unit tree tag_number is;
}

pub labels_bound : LabelsAreBound
unfolding source_of
labels_bound tokens unit tree tag_number bound cut is bind =
    let s = numbered tag_number (source_of tokens tree) in
    record {
      once = λ block p q a b body lp lq same. once s (grown tokens unit tree tag_number cut is) bind.right block p q a b body lp lq same;
      there = λ block g first c rest body above st children no_name found. there s (grown tokens unit tree tag_number cut is) bind.right block g first c rest body above st children no_name found;
    }
