-- What the resolution of names sees of such declarators.
use Rattle.std.proofs.Common.{arith, ◌≡◌, ◌<◌, ℕ, zero, suc, ◌==◌, ◌&&◌, ◌||◌, nat_eq, nat_lt, Bool, true, false, cond, List, [], ◌∷◌, ◌++◌, Option, Some, None, slice_get, eq-eqb, lt-ltb, refl, ap, ◌∙◌}
use Rattle.std.specs.Prelude.{if◌then◌else◌}
use Rattle.std.specs.List.{find, list_any}
use Rattle.c_lexer.specs.declared.Token.{Token}
use Rattle.c_lexer.specs.declared.TokenKind.{TokenKind}
use Rattle.c_lexer.specs.declared.TokenKind.TheVariants.{Identifier, Punctuator, End}
use Rattle.c_grammar.specs.Productions.{p_declarator, p_either, p_suffix}
use Rattle.c_grammar.specs.Terminals.{contains}
use Rattle.c_grammar.specs.Reads.{Node, leaf}
use Rattle.c_mentions.specs.declared.declarators.Derivation.{Derivation}
use Rattle.c_mentions.specs.declared.declarators.Derivation.TheVariants as derives
use Rattle.c_mentions.specs.Syntax as syntax
use Rattle.c_mentions.specs.Declarators.{within, level, nearest, by_suffix, inner_of, name_of, derivation_of, has_star, is_list, is_inner, begins_with}
use Rattle.declaration_laws.proofs.definition_laws.function_definitions.Shapes.{IsIdent, IsSign, IsQuiet, star, qualifier, IsListed, AllQuiet}

-- a part below a node
abbrev pub BelowAll : List Node → Type 0
BelowAll nodes = (i c : ℕ) (n : Node) → slice_get nodes i ≡ Some n → contains n.children c ≡ true → c < i

-- ---- finding in lists

abbrev pub Fails : (ℕ → Bool) → List ℕ → Type 0
Fails test [] = Unit {0}
Fails test (x ∷ xs) = (test x ≡ false) × Fails test xs

pub find_none : (test : ℕ → Bool) (xs : List ℕ) → Fails test xs → find test xs ≡ None
find_none test [] h = refl
find_none test (x ∷ xs) h = by (test x) h.0 (find_none test xs h.1)
  where
    by : (b : Bool) → b ≡ false → find test xs ≡ None → cond b (Some x) (find test xs) ≡ None
    by true e f = cc
    by false e f = f

pub find_past : (test : ℕ → Bool) (xs ys : List ℕ) → Fails test xs → find test (xs ++ ys) ≡ find test ys
find_past test [] ys h = refl
find_past test (x ∷ xs) ys h = by (test x) h.0 (find_past test xs ys h.1)
  where
    by : (b : Bool) → b ≡ false → find test (xs ++ ys) ≡ find test ys → cond b (Some x) (find test (xs ++ ys)) ≡ find test ys
    by true e f = cc
    by false e f = f

pub find_here : (test : ℕ → Bool) (x : ℕ) (ys : List ℕ) → test x ≡ true → find test (x ∷ ys) ≡ Some x
find_here test x ys h = ap (λ (b : Bool). cond b (Some x) (find test ys)) h

pub find_next : (test : ℕ → Bool) (x : ℕ) (ys : List ℕ) → test x ≡ false → find test (x ∷ ys) ≡ find test ys
find_next test x ys h = ap (λ (b : Bool). cond b (Some x) (find test ys)) h

pub in_last : (xs ys : List ℕ) (k : ℕ) → contains ys k ≡ true → contains (xs ++ ys) k ≡ true
in_last [] ys k h = h
in_last (x ∷ xs) ys k h = by (nat_eq x k) (in_last xs ys k h)
  where
    by : (b : Bool) → contains (xs ++ ys) k ≡ true → (b || contains (xs ++ ys) k) ≡ true
    by true e = refl
    by false e = e

pub in_second : (l j r : ℕ) (more : List ℕ) → contains (l ∷ j ∷ r ∷ more) j ≡ true
in_second l j r more = by (nat_eq l j) (nat_eq j j) (eq-eqb j j refl)
  where
    by : (a b : Bool) → b ≡ true → (a || (b || contains (r ∷ more) j)) ≡ true
    by true b e = refl
    by false true e = refl
    by false false e = cc

module _ (tokens : List Token) (nodes : List Node) where
  -- a leaf of a kind, and a node of a production
  pub leaf_inner : (m k : ℕ) (n : Node) → slice_get nodes k ≡ Some n → n.production ≡ leaf → is_inner nodes m k ≡ false
  leaf_inner m k n e is = ap (λ (o : Option Node). (syntax.production_of o == p_declarator || syntax.production_of o == p_either) && nat_lt k m) e ∙ ap (λ (p : ℕ). (p == p_declarator || p == p_either) && nat_lt k m) is

  pub node_inner : (m k p : ℕ) (n : Node) → slice_get nodes k ≡ Some n → n.production ≡ p → (p == p_declarator || p == p_either) ≡ false → is_inner nodes m k ≡ false
  node_inner m k p n e is other = ap (λ (o : Option Node). (syntax.production_of o == p_declarator || syntax.production_of o == p_either) && nat_lt k m) e ∙ (ap (λ (q : ℕ). (q == p_declarator || q == p_either) && nat_lt k m) is ∙ ap (λ (b : Bool). b && nat_lt k m) other)

  pub declarator_inner : (m k : ℕ) (n : Node) → slice_get nodes k ≡ Some n → n.production ≡ 19 → k < m → is_inner nodes m k ≡ true
  declarator_inner m k n e is lt = ap (λ (o : Option Node). (syntax.production_of o == p_declarator || syntax.production_of o == p_either) && nat_lt k m) e ∙ (ap (λ (q : ℕ). (q == p_declarator || q == p_either) && nat_lt k m) is ∙ lt-ltb k m lt)

  pub leaf_kind_is : (k : ℕ) (n : Node) (kind : TokenKind) → slice_get nodes k ≡ Some n → n.production ≡ leaf → syntax.token_kind tokens n.token ≡ kind → syntax.leaf_kind tokens nodes k ≡ kind
  leaf_kind_is k n kind e is t =
      ap (λ (o : Option Node). if syntax.production_of o == leaf then syntax.token_kind tokens (syntax.token_of o) else End) e ∙ (ap (λ (p : ℕ). if p == leaf then syntax.token_kind tokens n.token else End) is ∙ t)

  pub node_kind_is : (k p : ℕ) (n : Node) → slice_get nodes k ≡ Some n → n.production ≡ p → (p == leaf) ≡ false → syntax.leaf_kind tokens nodes k ≡ End
  node_kind_is k p n e is other =
      ap (λ (o : Option Node). if syntax.production_of o == leaf then syntax.token_kind tokens (syntax.token_of o) else End) e ∙ (ap (λ (q : ℕ). if q == leaf then syntax.token_kind tokens n.token else End) is ∙ ap (λ (b : Bool). if b then syntax.token_kind tokens n.token else End) other)

  pub is_production : (k p q : ℕ) (n : Node) → slice_get nodes k ≡ Some n → n.production ≡ p → syntax.is_of nodes q k ≡ (p == q)
  is_production k p q n e is = ap (λ (o : Option Node). syntax.production_of o == q) e ∙ ap (λ (x : ℕ). x == q) is

  -- the tests of the parts of a declarator
  abbrev pub name_test : ℕ → Bool
  name_test k = syntax.is_name tokens nodes k

  abbrev pub suffix_test : ℕ → Bool
  suffix_test k = syntax.is_of nodes p_suffix k

  abbrev pub star_test : ℕ → Bool
  star_test k = syntax.is_sign tokens nodes k 11

  pub record Plain (m k : ℕ) : Type 0 where
    pub inner_no : is_inner nodes m k ≡ false
    pub suffix_no : suffix_test k ≡ false
    pub name_no : name_test k ≡ false

  pub sign_plain : (m k g : ℕ) → IsSign tokens nodes k g → Plain m k
  sign_plain m k g h = record {
    inner_no = leaf_inner m k h.node h.there h.leaf_is;
    suffix_no = is_production k leaf p_suffix h.node h.there h.leaf_is;
    name_no = ap syntax.is_identifier (leaf_kind_is k h.node (Punctuator g) h.there h.leaf_is h.kind);
  }

  pub sign_star : (k g : ℕ) → IsSign tokens nodes k g → star_test k ≡ (g == 11)
  sign_star k g h = ap (λ (x : TokenKind). syntax.is_punctuator x 11) (leaf_kind_is k h.node (Punctuator g) h.there h.leaf_is h.kind)

  pub quiet_plain : (m k : ℕ) → IsQuiet tokens nodes k → Plain m k
  quiet_plain m k (star h) = sign_plain m k 11 h
  quiet_plain m k (qualifier {n = n} e is) = record {
    inner_no = node_inner m k 9 n e is refl;
    suffix_no = is_production k 9 p_suffix n e is;
    name_no = ap syntax.is_identifier (node_kind_is k 9 n e is refl);
  }

  pub record AllPlain (m : ℕ) (ks : List ℕ) : Type 0 where
    pub inner_no : Fails (is_inner nodes m) ks
    pub suffix_no : Fails suffix_test ks
    pub name_no : Fails name_test ks

  pub quiet_all : (m : ℕ) (ks : List ℕ) → AllQuiet tokens nodes ks → AllPlain m ks
  quiet_all m [] h = record { inner_no = tt; suffix_no = tt; name_no = tt }
  quiet_all m (k ∷ ks) h =
      let p = quiet_plain m k h.0 in
      let more = quiet_all m ks h.1 in
      record { inner_no = (p.inner_no, more.inner_no); suffix_no = (p.suffix_no, more.suffix_no); name_no = (p.name_no, more.name_no) }

  pub ident_name : (k : ℕ) → IsIdent tokens nodes k → name_test k ≡ true
  ident_name k h = ap syntax.is_identifier (leaf_kind_is k h.node Identifier h.there h.leaf_is h.kind)

  pub ident_star : (k : ℕ) → IsIdent tokens nodes k → star_test k ≡ false
  ident_star k h = ap (λ (x : TokenKind). syntax.is_punctuator x 11) (leaf_kind_is k h.node Identifier h.there h.leaf_is h.kind)

  pub declarator_star : (k : ℕ) (n : Node) → slice_get nodes k ≡ Some n → n.production ≡ 19 → star_test k ≡ false
  declarator_star k n e is = ap (λ (x : TokenKind). syntax.is_punctuator x 11) (node_kind_is k 19 n e is refl)

  pub listed_is : (f : ℕ) → IsListed tokens nodes f → is_list tokens nodes f ≡ true
  unfolding is_list
  listed_is f h =
      ap (begins_with tokens nodes 2) (ap (λ (o : Option Node). syntax.first_of (syntax.children_of o)) h.there ∙ ap syntax.first_of h.children)
      ∙ ap (λ (x : TokenKind). syntax.is_punctuator x 2) (leaf_kind_is h.first h.sign.node (Punctuator 2) h.sign.there h.sign.leaf_is h.sign.kind)

  pub children_is : (k : ℕ) (n : Node) → slice_get nodes k ≡ Some n → syntax.children_at nodes k ≡ n.children
  children_is k n e = ap syntax.children_of e

  -- what a declarator says, however many levels are asked
  pub record Says (k leaf : ℕ) (d : Derivation) : Type 0 where
    pub name : (levels : ℕ) → k < levels → (within tokens nodes levels k).name ≡ Some leaf
    pub derivation : (levels : ℕ) → k < levels → (within tokens nodes levels k).derivation ≡ d

  abbrev no_star : List ℕ → Bool
  no_star ks = list_any star_test ks

  pub bare_derives : (k : ℕ) (ks : List ℕ) → syntax.children_at nodes k ≡ ks → find suffix_test ks ≡ None → list_any star_test ks ≡ false → derivation_of tokens nodes k ≡ derives.Bare
  unfolding derivation_of has_star
  bare_derives k ks are none quiet =
      ap (λ (l : List ℕ). by_suffix tokens nodes k (find suffix_test l)) are ∙ (ap (by_suffix tokens nodes k) none
      ∙ (ap (λ (l : List ℕ). if list_any star_test l then derives.Other else derives.Bare) are ∙ ap (λ (b : Bool). if b then derives.Other else derives.Bare) quiet))

  pub list_derives : (k f : ℕ) (ks : List ℕ) → syntax.children_at nodes k ≡ ks → find suffix_test ks ≡ Some f → is_list tokens nodes f ≡ true → derivation_of tokens nodes k ≡ derives.Function
  unfolding derivation_of
  list_derives k f ks are found listed = ap (λ (l : List ℕ). by_suffix tokens nodes k (find suffix_test l)) are ∙ (ap (by_suffix tokens nodes k) found ∙ ap (λ (b : Bool). if b then derives.Function else derives.Other) listed)

  -- a declarator that holds its name itself
  pub own_says : (k leaf : ℕ) (ks : List ℕ) (d : Derivation) → syntax.children_at nodes k ≡ ks → find (is_inner nodes k) ks ≡ None → find name_test ks ≡ Some leaf → derivation_of tokens nodes k ≡ d → Says k leaf d
  unfolding inner_of name_of
  own_says k leaf ks d are no_inner named derivation = record {
    name = λ levels lt. by levels lt;
    derivation = λ levels lt. also levels lt;
  }
    where
      none : inner_of nodes k ≡ None
      none = ap (find (is_inner nodes k)) are ∙ no_inner

      by : (levels : ℕ) → k < levels → (within tokens nodes levels k).name ≡ Some leaf
      by zero lt = absurd (omega (arith, lt))
      by (suc levels) lt = ap (λ (o : Option ℕ). (level tokens nodes (within tokens nodes levels) k o).name) none ∙ (ap (find name_test) are ∙ named)

      also : (levels : ℕ) → k < levels → (within tokens nodes levels k).derivation ≡ d
      also zero lt = absurd (omega (arith, lt))
      also (suc levels) lt = ap (λ (o : Option ℕ). (level tokens nodes (within tokens nodes levels) k o).derivation) none ∙ derivation

  -- one around another
  pub around_says : (k j leaf : ℕ) (ks : List ℕ) (d e : Derivation) → j < k → syntax.children_at nodes k ≡ ks → find (is_inner nodes k) ks ≡ Some j → Says j leaf d → nearest d (derivation_of tokens nodes k) ≡ e → Says k leaf e
  unfolding inner_of
  around_says k j leaf ks d e small are found says derivation = record {
    name = λ levels lt. by levels lt;
    derivation = λ levels lt. also levels lt;
  }
    where
      one : inner_of nodes k ≡ Some j
      one = ap (find (is_inner nodes k)) are ∙ found

      by : (levels : ℕ) → k < levels → (within tokens nodes levels k).name ≡ Some leaf
      by zero lt = absurd (omega (arith, lt))
      by (suc levels) lt = ap (λ (o : Option ℕ). (level tokens nodes (within tokens nodes levels) k o).name) one ∙ says.name levels (omega (arith, small, lt))

      also : (levels : ℕ) → k < levels → (within tokens nodes levels k).derivation ≡ e
      also zero lt = absurd (omega (arith, lt))
      also (suc levels) lt =
          ap (λ (o : Option ℕ). (level tokens nodes (within tokens nodes levels) k o).derivation) one ∙ (ap (λ (x : Derivation). nearest x (derivation_of tokens nodes k)) (says.derivation levels (omega (arith, small, lt))) ∙ derivation)

  abbrev pub SaysSome : ℕ → Derivation → Type 0
  SaysSome k d = (leaf : ℕ) × Says k leaf d

  pub all_false : (a b c : Bool) → a ≡ false → b ≡ false → c ≡ false → (a || (b || (c || false))) ≡ false
  all_false true b c e f g = cc
  all_false false true c e f g = cc
  all_false false false true e f g = cc
  all_false false false false e f g = refl
