-- What such declarators stand for.
use Rattle.std.proofs.Common.{◌≡◌, ℕ, zero, suc, ◌==◌, ◌&&◌, Bool, true, false, List, [], ◌∷◌, ◌++◌, map, reverse, Option, Some, None, take, length, slice_get, refl, sym, ap, ◌∙◌, subst, append_assoc}
use Rattle.std.specs.Prelude.{if◌then◌else◌}
use Rattle.c_lexer.specs.declared.Token.{Token}
use Rattle.c_lexer.specs.declared.TokenKind.{TokenKind}
use Rattle.c_types.specs.Trees.{Ctype, Ctypes, NoTypes, MoreTypes, FunctionFrom}
use Rattle.c_types.specs.declared.term.Form.{Form}
use Rattle.c_types.specs.declared.term.Form.TheVariants.{Fixed, Variadic}
use Rattle.c_grammar.specs.declared.trees.SyntaxNode.{SyntaxNode}
use Rattle.c_grammar.specs.Reads.{Node, node_of, leaf}
use Rattle.c_mentions.specs.Syntax as syntax
use Rattle.c_senses.specs.Tree.{Source, production_of, is_name, has_sign, is_identifier, is_number, sign_of_kind, kind_of_token, token_of, first_where}
use Rattle.c_senses.specs.Given.{Given, Fits}
use Rattle.c_senses.specs.World.{World}
use Rattle.c_senses.specs.Sense.{Sense, Nothing, IsDeclarator, IsDerivation, Parameter, Derivation, Pointing, Returning, sense_in}
use Rattle.c_senses.specs.Entities.{takes_further, ends_further}
use Rattle.c_senses.specs.Declarators.{suffixes, inner_derivations, inner_name, name_in, stars, derivations, derived, derived_once, list_of, is_void_alone}
use Rattle.c_senses.specs.Rows.{AreSenses, row_of, world_at}
use Rattle.core_node_laws.proofs.count_laws.passed.parsed_tree_laws.placed_laws.Climbing.{Grown, row_at}
use Rattle.declaration_laws.proofs.definition_laws.linkage_laws.Seen.{nodes}

pub node_at : (items : List SyntaxNode) (k : ℕ) (n : Node) → slice_get (map node_of items) k ≡ Some n → (m : SyntaxNode) × (slice_get items k ≡ Some m) × (node_of m ≡ n)
node_at [] k n e = cc
node_at (x ∷ items) zero n e = let same : node_of x ≡ n = cc in (x, refl, same)
node_at (x ∷ items) (suc k) n e = node_at items k n e

-- the last derivation makes a function
pub record Ends (ds : List Derivation) : Type 0 where
  pub before : List Derivation
  pub parameters : Ctypes
  pub form : Form
  pub are : ds ≡ before ++ Returning parameters form ∷ []

pub ends_more : (xs ds : List Derivation) → Ends ds → Ends (xs ++ ds)
ends_more xs ds h = record { before = xs ++ h.before; parameters = h.parameters; form = h.form; are = ap (λ (l : List Derivation). xs ++ l) h.are ∙ sym (append_assoc xs h.before (Returning h.parameters h.form ∷ [])) }

-- so what it derives is a function
derived_last : (xs : List Derivation) (ps : Ctypes) (form : Form) (t : Ctype) → derived (xs ++ Returning ps form ∷ []) t ≡ FunctionFrom (derived xs t) ps form
derived_last [] ps form t = refl
derived_last (x ∷ xs) ps form t = derived_last xs ps form (derived_once x t)

pub derives_function : (ds : List Derivation) (t : Ctype) (h : Ends ds) → derived ds t ≡ FunctionFrom (derived h.before t) h.parameters h.form
derives_function ds t h = ap (λ (l : List Derivation). derived l t) h.are ∙ derived_last h.before h.parameters h.form t

-- it takes arguments past its parameters where its list ends so
last_further : (xs : List Derivation) (ps : Ctypes) (form : Form) → ends_further (xs ++ Returning ps form ∷ []) ≡ takes_further (Returning ps form)
last_further [] ps form = refl
last_further (x ∷ []) ps form = refl
last_further (x ∷ y ∷ xs) ps form = last_further (y ∷ xs) ps form

form_variadic : (form : Form) (ps : Ctypes) → takes_further (Returning ps form) ≡ true → form ≡ Variadic
form_variadic Variadic ps e = refl
form_variadic form ps e = cc

pub further_ends : (ds : List Derivation) (h : Ends ds) → ends_further ds ≡ true → h.form ≡ Variadic
further_ends ds h e = form_variadic h.form h.parameters (sym (last_further h.before h.parameters h.form) ∙ (sym (ap ends_further h.are) ∙ e))

module _ (s : Source) where
  kind_same : (o : Option Token) → syntax.kind_of o ≡ kind_of_token o
  kind_same None = refl
  kind_same (Some t) = refl

  -- a leaf of a kind, as the rows see it
  pub leaf_name : (k : ℕ) (n : Node) (kind : TokenKind) → slice_get (nodes s) k ≡ Some n → n.production ≡ leaf → syntax.token_kind s.tokens n.token ≡ kind → is_name s k ≡ is_identifier kind
  leaf_name k n kind e is t =
      let m = node_at s.nodes k n e in
      ap (λ (o : Option SyntaxNode). (production_of o == leaf) && is_identifier (kind_of_token (token_of s o))) m.1
      ∙ (ap (λ (p : ℕ). (p == leaf) && is_identifier (kind_of_token (slice_get s.tokens m.0.token))) (ap (λ (x : Node). x.production) m.2 ∙ is)
      ∙ ap is_identifier (sym (kind_same (slice_get s.tokens m.0.token)) ∙ (ap (λ (x : Node). syntax.token_kind s.tokens x.token) m.2 ∙ t)))

  pub leaf_sign : (g k : ℕ) (n : Node) (kind : TokenKind) → slice_get (nodes s) k ≡ Some n → n.production ≡ leaf → syntax.token_kind s.tokens n.token ≡ kind → has_sign s g k ≡ is_number (sign_of_kind kind) g
  leaf_sign g k n kind e is t =
      let m = node_at s.nodes k n e in
      ap (λ (o : Option SyntaxNode). (production_of o == leaf) && is_number (sign_of_kind (kind_of_token (token_of s o))) g) m.1
      ∙ (ap (λ (p : ℕ). (p == leaf) && is_number (sign_of_kind (kind_of_token (slice_get s.tokens m.0.token))) g) (ap (λ (x : Node). x.production) m.2 ∙ is)
      ∙ ap (λ (x : TokenKind). is_number (sign_of_kind x) g) (sym (kind_same (slice_get s.tokens m.0.token)) ∙ (ap (λ (x : Node). syntax.token_kind s.tokens x.token) m.2 ∙ t)))

  node_is_no_leaf : (k p : ℕ) (n : Node) → slice_get (nodes s) k ≡ Some n → n.production ≡ p → (p == leaf) ≡ false → (production_of (slice_get s.nodes k) == leaf) ≡ false
  node_is_no_leaf k p n e is other = let m = node_at s.nodes k n e in ap (λ (o : Option SyntaxNode). production_of o == leaf) m.1 ∙ (ap (λ (q : ℕ). q == leaf) (ap (λ (x : Node). x.production) m.2 ∙ is) ∙ other)

  pub node_name : (k p : ℕ) (n : Node) → slice_get (nodes s) k ≡ Some n → n.production ≡ p → (p == leaf) ≡ false → is_name s k ≡ false
  node_name k p n e is other = ap (λ (b : Bool). b && is_identifier (kind_of_token (token_of s (slice_get s.nodes k)))) (node_is_no_leaf k p n e is other)

  pub node_sign : (g k p : ℕ) (n : Node) → slice_get (nodes s) k ≡ Some n → n.production ≡ p → (p == leaf) ≡ false → has_sign s g k ≡ false
  node_sign g k p n e is other = ap (λ (b : Bool). b && is_number (sign_of_kind (kind_of_token (token_of s (slice_get s.nodes k)))) g) (node_is_no_leaf k p n e is other)

  module _ (senses : List Sense) (grown : Grown s) (are : AreSenses s senses) (whole : length senses ≡ length s.nodes) where
    abbrev pub f : ℕ → Sense
    f i = sense_in senses i

    abbrev pub before : ℕ → ℕ → Sense
    before k = sense_in (take k senses)

    fits_same : {A : Type 0} → {x y : A} → ◌≡◌ {A = Given A} (Fits x) (Fits y) → x ≡ y
    fits_same e = cc

    -- the row of a node of a production
    pub row_is : (k p : ℕ) (n : Node) → slice_get (nodes s) k ≡ Some n → n.production ≡ p → row_of (world_at s (take k senses) k) s (before k) p k n.children ≡ Fits (f k)
    row_is k p n e is =
        let m = node_at s.nodes k n e in
        let told = row_at s senses grown are whole k m.0 m.1 in
        let same : m.0.production ≡ p = ap (λ (x : Node). x.production) m.2 ∙ is in
        subst (λ (l : List ℕ). row_of (world_at s (take k senses) k) s (before k) p k l ≡ Fits (f k)) (ap (λ (x : Node). x.children) m.2) (subst (λ (q : ℕ). row_of (world_at s (take k senses) k) s (before k) q k m.0.children.items ≡ Fits (f k)) same told)

    pub leaf_sense : (k : ℕ) (n : Node) → slice_get (nodes s) k ≡ Some n → n.production ≡ leaf → f k ≡ Nothing
    leaf_sense k n e is = sym (fits_same (row_is k leaf n e is))

    pub qualifier_sense : (k : ℕ) (n : Node) → slice_get (nodes s) k ≡ Some n → n.production ≡ 9 → f k ≡ Nothing
    qualifier_sense k n e is = sym (fits_same (row_is k 9 n e is))

    module _ (w : World) (g : ℕ → Sense) where
      pub list_returns : (b : Bool) (ps : List Parameter) → (types : Ctypes) × (form : Form) × (list_of w s g b ps ≡ Returning types form)
      list_returns b [] = (_, _, refl)
      list_returns true (p ∷ ps) = (_, _, refl)
      list_returns false (p ∷ []) = by (is_void_alone w s g p)
        where
          by : (c : Bool) → (types : Ctypes) × (form : Form) × ((if c then Returning NoTypes Fixed else Returning (MoreTypes p.type NoTypes) Fixed) ≡ Returning types form)
          by true = (_, _, refl)
          by false = (_, _, refl)
      list_returns false (p ∷ q ∷ ps) = (_, _, refl)

      -- the steps of what is made of the parts
      abbrev with_suffix : Sense → List Derivation → List Derivation
      with_suffix x rest = elim x as (λ _. List Derivation) [ IsDerivation d ↦ d ∷ rest | _ ↦ rest ]

      abbrev with_inner : Sense → List Derivation → List Derivation
      with_inner x rest = elim x as (λ _. List Derivation) [ IsDeclarator name ds ↦ ds | _ ↦ rest ]

      abbrev with_name : Sense → Option ℕ → Option ℕ
      with_name x rest = elim x as (λ _. Option ℕ) [ IsDeclarator name ds ↦ name | _ ↦ rest ]

      suffix_step : (c : ℕ) (rest : List ℕ) (x : Sense) → g c ≡ x → suffixes w s g (c ∷ rest) ≡ with_suffix x (suffixes w s g rest)
      suffix_step c rest x e = ap (λ (y : Sense). with_suffix y (suffixes w s g rest)) e

      inner_step : (c : ℕ) (rest : List ℕ) (x : Sense) → g c ≡ x → inner_derivations w s g (c ∷ rest) ≡ with_inner x (inner_derivations w s g rest)
      inner_step c rest x e = ap (λ (y : Sense). with_inner y (inner_derivations w s g rest)) e

      name_step : (c : ℕ) (rest : List ℕ) (x : Sense) → g c ≡ x → inner_name w s g (c ∷ rest) ≡ with_name x (inner_name w s g rest)
      name_step c rest x e = ap (λ (y : Sense). with_name y (inner_name w s g rest)) e

      star_step : (c : ℕ) (rest : List ℕ) → has_sign s 11 c ≡ false → stars w s g (c ∷ rest) ≡ stars w s g rest
      star_step c rest e = ap (λ (b : Bool). if b then Pointing ∷ stars w s g rest else stars w s g rest) e

      pub first_step : (c : ℕ) (rest : List ℕ) → is_name s c ≡ false → first_where (is_name s) (c ∷ rest) ≡ first_where (is_name s) rest
      first_step c rest e = ap (λ (b : Bool). if b then Some c else first_where (is_name s) rest) e

      first_here : (c : ℕ) (rest : List ℕ) → is_name s c ≡ true → first_where (is_name s) (c ∷ rest) ≡ Some c
      first_here c rest e = ap (λ (b : Bool). if b then Some c else first_where (is_name s) rest) e

      abbrev pub name_or : Option ℕ → Option ℕ → Option ℕ
      name_or o other = elim o as (λ _. Option ℕ) [ None ↦ other | Some leaf ↦ Some leaf ]

      -- parts of no name and no sense
      abbrev pub Calm : List ℕ → Type 0
      Calm [] = Unit {0}
      Calm (c ∷ cs) = (is_name s c ≡ false) × (g c ≡ Nothing) × Calm cs

      past_suffixes : (cs rest : List ℕ) → Calm cs → suffixes w s g (cs ++ rest) ≡ suffixes w s g rest
      past_suffixes [] rest h = refl
      past_suffixes (c ∷ cs) rest h = suffix_step c (cs ++ rest) Nothing h.1 ∙ past_suffixes cs rest h.2

      past_inner : (cs rest : List ℕ) → Calm cs → inner_derivations w s g (cs ++ rest) ≡ inner_derivations w s g rest
      past_inner [] rest h = refl
      past_inner (c ∷ cs) rest h = inner_step c (cs ++ rest) Nothing h.1 ∙ past_inner cs rest h.2

      pub past_name : (cs rest : List ℕ) → Calm cs → inner_name w s g (cs ++ rest) ≡ inner_name w s g rest
      past_name [] rest h = refl
      past_name (c ∷ cs) rest h = name_step c (cs ++ rest) Nothing h.1 ∙ past_name cs rest h.2

      pub past_first : (cs rest : List ℕ) → Calm cs → first_where (is_name s) (cs ++ rest) ≡ first_where (is_name s) rest
      past_first [] rest h = refl
      past_first (c ∷ cs) rest h = first_step c (cs ++ rest) h.0 ∙ past_first cs rest h.2

      pub past_names : (cs rest : List ℕ) → Calm cs → name_in w s g (cs ++ rest) ≡ name_in w s g rest
      past_names cs rest h = ap (λ (o : Option ℕ). name_or o (inner_name w s g (cs ++ rest))) (past_first cs rest h) ∙ ap (name_or (first_where (is_name s) rest)) (past_name cs rest h)

      -- ---- the parts of a declarator, by what stands where the name stands

      pub record Ident (i : ℕ) : Type 0 where
        pub name : is_name s i ≡ true
        pub star : has_sign s 11 i ≡ false
        pub sense : g i ≡ Nothing

      pub record Inner (l j r leaf : ℕ) (ds : List Derivation) : Type 0 where
        pub left : (is_name s l ≡ false) × (has_sign s 11 l ≡ false) × (g l ≡ Nothing)
        pub middle : (is_name s j ≡ false) × (has_sign s 11 j ≡ false) × (g j ≡ IsDeclarator (Some leaf) ds)
        pub right : (is_name s r ≡ false) × (has_sign s 11 r ≡ false) × (g r ≡ Nothing)

      pub ident_name : (i : ℕ) (rest : List ℕ) → Ident i → name_in w s g (i ∷ rest) ≡ Some i
      ident_name i rest h = ap (λ (o : Option ℕ). name_or o (inner_name w s g (i ∷ rest))) (first_here i rest h.name)

      pub ident_bare : (i : ℕ) → Ident i → derivations w s g (i ∷ []) ≡ []
      ident_bare i h = ap (λ (l : List Derivation). l ++ (reverse (suffixes w s g (i ∷ [])) ++ inner_derivations w s g (i ∷ []))) (star_step i [] h.star)
          ∙ (ap (λ (l : List Derivation). reverse l ++ inner_derivations w s g (i ∷ [])) (suffix_step i [] Nothing h.sense) ∙ inner_step i [] Nothing h.sense)

      pub inner_has_name : (l j r leaf : ℕ) (ds : List Derivation) (rest : List ℕ) → Inner l j r leaf ds → first_where (is_name s) rest ≡ None → name_in w s g (l ∷ j ∷ r ∷ rest) ≡ Some leaf
      inner_has_name l j r leaf ds rest h none =
          ap (λ (o : Option ℕ). name_or o (inner_name w s g (l ∷ j ∷ r ∷ rest))) (first_step l (j ∷ r ∷ rest) h.left.0 ∙ (first_step j (r ∷ rest) h.middle.0 ∙ (first_step r rest h.right.0 ∙ none)))
          ∙ (name_step l (j ∷ r ∷ rest) Nothing h.left.2 ∙ name_step j (r ∷ rest) (IsDeclarator (Some leaf) ds) h.middle.2)

      pub inner_has_derivations : (l j r leaf : ℕ) (ds : List Derivation) (rest : List ℕ) → Inner l j r leaf ds → inner_derivations w s g (l ∷ j ∷ r ∷ rest) ≡ ds
      inner_has_derivations l j r leaf ds rest h = inner_step l (j ∷ r ∷ rest) Nothing h.left.2 ∙ inner_step j (r ∷ rest) (IsDeclarator (Some leaf) ds) h.middle.2

      inner_has_suffixes : (l j r leaf : ℕ) (ds : List Derivation) (rest : List ℕ) → Inner l j r leaf ds → suffixes w s g (l ∷ j ∷ r ∷ rest) ≡ suffixes w s g rest
      inner_has_suffixes l j r leaf ds rest h = suffix_step l (j ∷ r ∷ rest) Nothing h.left.2 ∙ (suffix_step j (r ∷ rest) (IsDeclarator (Some leaf) ds) h.middle.2 ∙ suffix_step r rest Nothing h.right.2)

      pub inner_bare : (l j r leaf : ℕ) → Inner l j r leaf [] → derivations w s g (l ∷ j ∷ r ∷ []) ≡ []
      inner_bare l j r leaf h =
          ap (λ (x : List Derivation). x ++ (reverse (suffixes w s g (l ∷ j ∷ r ∷ [])) ++ inner_derivations w s g (l ∷ j ∷ r ∷ []))) (star_step l (j ∷ r ∷ []) h.left.1 ∙ (star_step j (r ∷ []) h.middle.1 ∙ star_step r [] h.right.1))
          ∙ (ap (λ (x : List Derivation). reverse x ++ inner_derivations w s g (l ∷ j ∷ r ∷ [])) (inner_has_suffixes l j r leaf [] [] h) ∙ inner_has_derivations l j r leaf [] [] h)

      -- a list behind the name ends what is derived
      pub record Returns (c : ℕ) : Type 0 where
        pub name : is_name s c ≡ false
        pub parameters : Ctypes
        pub form : Form
        pub sense : g c ≡ IsDerivation (Returning parameters form)

      listed_ends : (cs rest : List ℕ) (c : ℕ) (r : Returns c) → Calm cs → suffixes w s g rest ≡ suffixes w s g (c ∷ []) → inner_derivations w s g rest ≡ [] → Ends (derivations w s g (cs ++ rest))
      listed_ends cs rest c r calm suffix none =
          let own : suffixes w s g (cs ++ rest) ≡ Returning r.parameters r.form ∷ [] = past_suffixes cs rest calm ∙ (suffix ∙ suffix_step c [] (IsDerivation (Returning r.parameters r.form)) r.sense) in
          let inside : inner_derivations w s g (cs ++ rest) ≡ [] = past_inner cs rest calm ∙ none in
          ends_more (stars w s g (cs ++ rest)) (reverse (suffixes w s g (cs ++ rest)) ++ inner_derivations w s g (cs ++ rest))
          (record { before = []; parameters = r.parameters; form = r.form; are = ap (λ (l : List Derivation). reverse l ++ inner_derivations w s g (cs ++ rest)) own ∙ ap (λ (l : List Derivation). (Returning r.parameters r.form ∷ []) ++ l) inside })

      pub ident_ends : (cs : List ℕ) (i c : ℕ) → Calm cs → Ident i → Returns c → Ends (derivations w s g (cs ++ ((i ∷ []) ++ c ∷ [])))
      ident_ends cs i c calm h r = listed_ends cs (i ∷ c ∷ []) c r calm (suffix_step i (c ∷ []) Nothing h.sense) (inner_step i (c ∷ []) Nothing h.sense ∙ inner_step c [] (IsDerivation (Returning r.parameters r.form)) r.sense)

      pub inner_ends : (cs : List ℕ) (l j k leaf c : ℕ) → Calm cs → Inner l j k leaf [] → Returns c → Ends (derivations w s g (cs ++ ((l ∷ j ∷ k ∷ []) ++ c ∷ [])))
      inner_ends cs l j k leaf c calm h r = listed_ends cs (l ∷ j ∷ k ∷ c ∷ []) c r calm (inner_has_suffixes l j k leaf [] (c ∷ []) h) (inner_has_derivations l j k leaf [] (c ∷ []) h)

      pub deep_ends : (cs : List ℕ) (l j k leaf : ℕ) (ds : List Derivation) (rest : List ℕ) → Calm cs → Inner l j k leaf ds → Ends ds → Ends (derivations w s g (cs ++ (l ∷ j ∷ k ∷ rest)))
      deep_ends cs l j k leaf ds rest calm h ends =
          let all = cs ++ (l ∷ j ∷ k ∷ rest) in
          let inside : inner_derivations w s g all ≡ ds = past_inner cs (l ∷ j ∷ k ∷ rest) calm ∙ inner_has_derivations l j k leaf ds rest h in
          ends_more (stars w s g all) (reverse (suffixes w s g all) ++ inner_derivations w s g all) (ends_more (reverse (suffixes w s g all)) (inner_derivations w s g all) (subst Ends (sym inside) ends))
