-- The Initialise of a name without linkage stands once at most.
use Rattle.std.proofs.Common.{arith, ◌≡◌, ◌<◌, ◌≤◌, ℕ, zero, suc, nat_eq, Bool, true, false, ◌&&◌, ◌||◌, ◌==◌, List, [], ◌∷◌, Option, Some, None, take, length, refl, sym, ap, ◌∙◌, subst, ◌⊎◌, inl, inr}
use Rattle.std.specs.Prelude.{if◌then◌else◌}
use Rattle.std.proofs.lemmas.Bool.{eqb-true}
use Rattle.c_lexer.specs.declared.Tokens.{Tokens}
use Rattle.c_lexer.specs.Cut.{IsTokens}
use Rattle.c_lexer.specs.declared.TokenKind.{TokenKind}
use Rattle.c_lexer.specs.declared.TokenKind.TheVariants.{Identifier}
use Rattle.c_grammar.specs.declared.trees.Tree.{Tree as SyntaxTree}
use Rattle.c_grammar.specs.Productions.{p_init, p_cast, p_unary}
use Rattle.c_grammar.specs.Reads.{leaf}
use Rattle.c_grammar.specs.Words.{sign_left_parenthesis}
use Rattle.c_scope.specs.declared.kinds.Declared.{Declared}
use Rattle.c_parser.specs.c_units.Units.{IsUnit}
use Rattle.c_senses.specs.Names.{source_of, numbered, ordinary_at}
use Rattle.c_senses.specs.Tree.{Source, is_a, is_leaf, is_name, is_identifier, kind_at, has_sign, is_number, sign_at, sign_of_kind, production_at, children_at, first_where}
use Rattle.c_senses.specs.Declarators.{outermost_of}
use Rattle.c_senses.specs.Entities.{initialised_by, entity_of, is_linked, is_internal, is_internal_of, internal_among, keep, first_of}
use Rattle.c_senses.specs.Initialised.{name_of_declarator, opening}
use Rattle.c_senses.specs.Sense.{Sense, IsDeclarator, Derivation, sense_in}
use Rattle.c_senses.specs.Rows.{AreSenses}
use Rattle.parsed_tree_laws.proofs.family_laws.Reading.{units_families}
use Rattle.parsed_tree_laws.proofs.grown_parts.Reading.{units_bring}
use Rattle.valid_unit_laws.proofs.object_initialiser_laws.internal_name_laws.passed.declared_type_laws.declared_leaves.Climbing.{leaves_declared}
use Rattle.declaration_laws.proofs.declared_type_laws.owner_laws.passed.definition_laws.linkage_laws.Reading.{tree_is}
use Rattle.declaration_laws.proofs.declared_type_laws.owner_laws.passed.definition_laws.linkage_laws.Seen.{some_same, none_some, no_both}
use Rattle.parsed_tree_laws.proofs.span_laws.Whole.{units_are_spanned}
use Rattle.parsed_tree_laws.proofs.sign_parts.Reading as signs
use Rattle.core_node_laws.specs.count_laws.Counting.{seen_at, world_of, Makes}
use Rattle.core_node_laws.proofs.count_laws.Main.{counting}
use Rattle.core_node_laws.proofs.count_laws.single_nodes.Places.{once_only}
use Rattle.declaration_laws.proofs.declared_type_laws.owner_laws.passed.definition_laws.single_initialisers.Apart.{are_apart, stands_outermost}
use Rattle.valid_unit_laws.specs.object_initialiser_laws.once_initialised.Once.{initialises, InitialisedOnce}

abbrev one_if : Bool → ℕ
one_if b = if b then 1 else 0

most_one : (b : Bool) → one_if b ≤ 1
most_one true = omega arith
most_one false = omega arith

is_one : (b : Bool) → 1 ≤ one_if b → b ≡ true
is_one true h = refl
is_one false h = absurd (omega (arith, h))

less_if : (a b : Bool) → (a ≡ true → b ≡ true) → one_if a ≤ one_if b
less_if true b h = by b (h refl)
  where
    by : (b : Bool) → b ≡ true → 1 ≤ one_if b
    by true e = omega arith
    by false e = cc
less_if false b h = omega arith

and_parts : (a b : Bool) → (a && b) ≡ true → (a ≡ true) × (b ≡ true)
and_parts true true e = (refl, refl)
and_parts true false e = cc
and_parts false b e = cc

both_true : (a b : Bool) → a ≡ true → b ≡ true → (a && b) ≡ true
both_true true b h k = k
both_true false b h k = cc

-- a declarator that is seen so is one at the end
abbrev name_in : Sense → Option ℕ
name_in (IsDeclarator name ds) = name
name_in x = None

seen_later : (xs : List Sense) (i m leaf : ℕ) → name_in (sense_in (take i xs) m) ≡ Some leaf → (ds : List Derivation) × (sense_in xs m ≡ IsDeclarator (Some leaf) ds) × (m < length xs)
seen_later [] zero m leaf e = absurd (none_some e)
seen_later [] (suc i) m leaf e = absurd (none_some e)
seen_later (x ∷ xs) zero m leaf e = absurd (none_some e)
seen_later (x ∷ xs) (suc i) zero leaf e = by x e
  where
    by : (x : Sense) → name_in x ≡ Some leaf → (ds : List Derivation) × (x ≡ IsDeclarator (Some leaf) ds) × (0 < length (x ∷ xs))
    by (IsDeclarator name ds) f = (ds, ap (λ (o : Option ℕ). IsDeclarator o ds) f, omega arith)
    by x f = absurd (none_some f)
seen_later (x ∷ xs) (suc i) (suc m) leaf e = let (ds, is, lt) = seen_later xs i m leaf e in (ds, is, omega (arith, lt))

module _ (s : Source) (d : ℕ) (name : is_name s d ≡ true) where
  -- no parenthesis is a name, nor is a cast
  no_sign : (x : TokenKind) → is_identifier x ≡ true → (k : ℕ) → is_number (sign_of_kind x) k ≡ false
  no_sign Identifier h k = refl
  no_sign x h k = cc

  pub opening_differs : (p : ℕ) → (is_a s p_cast p || is_a s p_unary p) ≡ true →
      (nat_eq (elim (first_where (has_sign s sign_left_parenthesis) (children_at s p)) as (λ _. ℕ) [ None ↦ p | Some l ↦ l ]) d) ≡ false
  opening_differs p h = by (first_where (has_sign s sign_left_parenthesis) (children_at s p)) refl
    where
      leafy : is_leaf s d ≡ true
      leafy = (and_parts (is_leaf s d) (is_identifier (kind_at s d)) name).0

      first_passes : (test : ℕ → Bool) (ks : List ℕ) (x : ℕ) → first_where test ks ≡ Some x → test x ≡ true
      first_passes test [] x e = absurd (none_some e)
      first_passes test (k ∷ ks) x e = pick (test k) refl e (first_passes test ks x)
        where
          pick : (b : Bool) → test k ≡ b → (if b then Some k else first_where test ks) ≡ Some x → (first_where test ks ≡ Some x → test x ≡ true) → test x ≡ true
          pick true t f later = ap test (sym (some_same f)) ∙ t
          pick false t f later = later f

      no_equal : (x : ℕ) → (x ≡ d → ⊥) → nat_eq x d ≡ false
      no_equal x no_same = pick (nat_eq x d) refl
        where
          pick : (b : Bool) → nat_eq x d ≡ b → b ≡ false
          pick true e = absurd (no_same (eqb-true x d e))
          pick false e = refl

      no_cast : (q : ℕ) → nat_eq leaf q ≡ false → is_a s q d ≡ false
      no_cast q off = ap (λ (n : ℕ). nat_eq n q) (eqb-true (production_at s d) leaf leafy) ∙ off

      either_not : (a b : Bool) → a ≡ false → b ≡ false → (a || b) ≡ true → ⊥
      either_not true b e f g = cc
      either_not false true e f g = cc
      either_not false false e f g = cc

      by : (o : Option ℕ) → first_where (has_sign s sign_left_parenthesis) (children_at s p) ≡ o → nat_eq (elim o as (λ _. ℕ) [ None ↦ p | Some l ↦ l ]) d ≡ false
      by None e = no_equal p (λ same. either_not (is_a s p_cast d) (is_a s p_unary d) (no_cast p_cast refl) (no_cast p_unary refl) (subst (λ (x : ℕ). (is_a s p_cast x || is_a s p_unary x) ≡ true) same h))
      by (Some l) e =
          no_equal l (λ same. let sign = subst (λ (x : ℕ). has_sign s sign_left_parenthesis x ≡ true) same (first_passes (has_sign s sign_left_parenthesis) (children_at s p) l e) in
          no_both (is_number (sign_at s d) sign_left_parenthesis) (and_parts (is_leaf s d) (is_number (sign_at s d) sign_left_parenthesis) sign).1 (no_sign (kind_at s d) (and_parts (is_leaf s d) (is_identifier (kind_at s d)) name).1 sign_left_parenthesis))

-- an entity without linkage is known by its own name alone
module _ (s : Source) (sense : ℕ → Sense) (d : ℕ) (linked : is_linked s sense d ≡ false) where
  first_kept : (symbol : ℕ) (ds : List Declared) (l : ℕ) → first_of s sense l (keep s sense (is_internal_of s sense symbol) ds) ≡ d → (l ≡ d) ⊎ (is_internal s sense d ≡ true)
  first_kept symbol [] l e = inl e
  first_kept symbol (y ∷ ds) l e = by (is_internal_of s sense symbol y) refl e (first_kept symbol ds l)
    where
      by : (b : Bool) → is_internal_of s sense symbol y ≡ b → first_of s sense l (if b then y ∷ keep s sense (is_internal_of s sense symbol) ds else keep s sense (is_internal_of s sense symbol) ds) ≡ d
          → (first_of s sense l (keep s sense (is_internal_of s sense symbol) ds) ≡ d → (l ≡ d) ⊎ (is_internal s sense d ≡ true)) → (l ≡ d) ⊎ (is_internal s sense d ≡ true)
      by true h f later = inr (subst (λ (x : ℕ). is_internal s sense x ≡ true) f (and_parts (y.symbol == symbol) (is_internal s sense y.node) h).1)
      by false h f later = later f

  not_internal : (l : ℕ) → l ≡ d → is_internal s sense l ≡ true → ⊥
  not_internal l same h = no_both (is_linked s sense d) (subst (λ (x : ℕ). is_linked s sense x ≡ true) same (and_parts (is_linked s sense l) _ h).0) linked

  pub own_name : (l : ℕ) → entity_of s sense l ≡ d → l ≡ d
  own_name l e = by (is_internal s sense l) refl e
    where
      among : (o : Option Declared) → is_internal s sense l ≡ true → first_of s sense l (internal_among s sense s.declared.ordinary o) ≡ d → (l ≡ d) ⊎ (is_internal s sense d ≡ true)
      among None h f = inl f
      among (Some y) h f = first_kept y.symbol s.declared.ordinary l f

      pick : is_internal s sense l ≡ true → (l ≡ d) ⊎ (is_internal s sense d ≡ true) → l ≡ d
      pick h (inl same) = absurd (not_internal l same h)
      pick h (inr own) = absurd (not_internal d refl own)

      by : (b : Bool) → is_internal s sense l ≡ b → (if b then first_of s sense l (internal_among s sense s.declared.ordinary (ordinary_at s l)) else l) ≡ d → l ≡ d
      by true h f = pick h (among (ordinary_at s l) h f)
      by false h f = f

module _ (s : Source) (senses : List Sense) (d : ℕ) where
  abbrev F : ℕ → ℕ → Sense
  F i = seen_at (initialises d) s senses i

  -- an initialiser of the entity
  abbrev named_so : ℕ → Option ℕ → Bool
  named_so i None = false
  named_so i (Some l) = entity_of s (F i) l == d

  abbrev declared_so : ℕ → Option ℕ → Bool
  declared_so i None = false
  declared_so i (Some m) = named_so i (name_of_declarator (world_of (initialises d) s senses i) s (F i) (F i m))

  abbrev found : ℕ → Bool
  found i = is_a s p_init i && declared_so i (initialised_by s (F i) i)

  abbrev bound : ℕ → ℕ
  bound i = one_if (found i)

  record Found (i : ℕ) : Type 0 where
    declarator : ℕ
    leaf_of : ℕ
    is : is_a s p_init i ≡ true
    by_it : initialised_by s (F i) i ≡ Some declarator
    named : name_in (F i declarator) ≡ Some leaf_of
    entity : entity_of s (F i) leaf_of ≡ d

  same_name : (i : ℕ) (x : Sense) → name_of_declarator (world_of (initialises d) s senses i) s (F i) x ≡ name_in x
  same_name i (IsDeclarator name ds) = refl
  same_name i x = refl

  found_one : (i : ℕ) → found i ≡ true → Found i
  found_one i h = let parts = and_parts (is_a s p_init i) (declared_so i (initialised_by s (F i) i)) h in by parts.0 (initialised_by s (F i) i) refl parts.1
    where
      by_name : is_a s p_init i ≡ true → (m : ℕ) → initialised_by s (F i) i ≡ Some m → (o : Option ℕ) → name_of_declarator (world_of (initialises d) s senses i) s (F i) (F i m) ≡ o → named_so i o ≡ true → Found i
      by_name is m at None e g = cc
      by_name is m at (Some l) e g = record { declarator = m; leaf_of = l; is = is; by_it = at; named = sym (same_name i (F i m)) ∙ e; entity = eqb-true (entity_of s (F i) l) d g }

      by : is_a s p_init i ≡ true → (o : Option ℕ) → initialised_by s (F i) i ≡ o → declared_so i o ≡ true → Found i
      by is None e g = cc
      by is (Some m) e g = by_name is m e (name_of_declarator (world_of (initialises d) s senses i) s (F i) (F i m)) refl g

  found_is : (i m l : ℕ) → is_a s p_init i ≡ true → initialised_by s (F i) i ≡ Some m → name_of_declarator (world_of (initialises d) s senses i) s (F i) (F i m) ≡ Some l → (entity_of s (F i) l == d) ≡ true → found i ≡ true
  found_is i m l is by_it named e =
      both_true (is_a s p_init i) (declared_so i (initialised_by s (F i) i)) is (ap (declared_so i) by_it ∙ (ap (named_so i) named ∙ e))

  module _ (name : is_name s d ≡ true) where
    made : Makes (initialises d) s senses bound
    made = record {
      texts = λ i first rest bytes is e there. omega arith;
      calls = λ i first rest is e there. omega arith;
      objects = λ i declarator l paths is by_it named. less_if (entity_of s (F i) l == d) (found i) (λ e. found_is i declarator l is by_it named e);
      literals = λ i p paths is parent kind typed. let none = none_of (opening (world_of (initialises d) s senses i) s (F i) p == d) (opening_differs s d name p kind) in omega (arith, none);
      blocks = λ i is. omega arith;
      loops = λ i word parenthesis rest c a is e. omega arith;
    }
      where
        none_of : (b : Bool) → b ≡ false → one_if b ≤ 0
        none_of true e = cc
        none_of false e = omega arith

module _ (tokens : Tokens) (unit : ℕ) (tree : SyntaxTree) (tag_number : ℕ → ℕ) (senses : List Sense) (cut : IsTokens tokens.text.now tokens.list.items) (read : IsUnit tokens unit tree) where
  abbrev src : Source
  src = numbered tag_number (source_of tokens tree)

  module _ (are : AreSenses src senses) (d : ℕ) (linked : is_linked src (sense_in senses) d ≡ false) where
    -- the outermost declarator of the name
    declarator_is : (i : ℕ) (f : Found src senses d i) → outermost_of src d ≡ Some f.declarator
    declarator_is i f =
        let same = own_name src (F src senses d i) d linked f.leaf_of f.entity in
        let (ds, is, lt) = seen_later senses i f.declarator f.leaf_of f.named in
        let outer = stands_outermost src (tree_is tokens unit tree read tag_number) (units_families tokens unit tree tag_number cut read) (signs.units_bring tokens unit tree tag_number read) (F src senses d i) i f.declarator f.is f.by_it in
        let told = leaves_declared.by_sense src senses are (tree_is tokens unit tree read tag_number).grown (units_bring tokens unit tree tag_number read) f.declarator f.leaf_of ds lt outer is in
        ap (outermost_of src) (sym same) ∙ told.outermost

    one_found : (i j : ℕ) → found src senses d i ≡ true → found src senses d j ≡ true → i ≡ j
    one_found i j a b =
        let f = found_one src senses d i a in
        let g = found_one src senses d j b in
        let same = some_same (sym (declarator_is j g) ∙ declarator_is i f) in
        are_apart src (tree_is tokens unit tree read tag_number) (units_families tokens unit tree tag_number cut read) (signs.units_bring tokens unit tree tag_number read) (F src senses d i) (F src senses d j) i j f.declarator f.is g.is f.by_it (g.by_it ∙ ap (λ (x : ℕ). Some x) same)

pub initialised_once : InitialisedOnce
initialised_once tokens unit tree tag_number senses cut read are whole d name linked =
    let s = numbered tag_number (source_of tokens tree) in
    let law = counting (initialises d) s senses (bound s senses d) (units_are_spanned tokens unit tree tag_number read) (units_families tokens unit tree tag_number cut read) are whole (made s senses d name) in
    let one = once_only (bound s senses d) (length s.nodes) (λ i. most_one (found s senses d i))
    (λ i j a b. one_found tokens unit tree tag_number senses cut read are d linked i j (is_one (found s senses d i) a) (is_one (found s senses d j) b)) in
    omega (arith, law, one)
