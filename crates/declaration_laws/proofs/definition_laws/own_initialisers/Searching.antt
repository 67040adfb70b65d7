-- Where the parts of a rest stand, and what is found behind a declarator.
use Rattle.std.proofs.Common.{arith, ◌≡◌, ◌<◌, ◌≤◌, ℕ, suc, ◌⊎◌, inl, inr, ◌||◌, ◌&&◌, nat_eq, nat_lt, Bool, true, false, List, [], ◌∷◌, ◌++◌, slice_get, Option, Some, None, eq-eqb, lt-ltb, refl, sym, ap, ◌∙◌, subst}
use Rattle.std.specs.Prelude.{⊤, if◌then◌else◌}
use Rattle.std.proofs.lemmas.Bool.{eqb-true, ltb-true}
use Rattle.c_lexer.specs.declared.Token.{Token}
use Rattle.c_lexer.specs.declared.TokenKind.{TokenKind}
use Rattle.c_lexer.specs.declared.TokenKind.TheVariants.{Punctuator}
use Rattle.c_lexer.specs.Laws.{Stands}
use Rattle.c_grammar.specs.declared.trees.SyntaxNode.{SyntaxNode}
use Rattle.c_grammar.specs.Productions.{p_init, p_asm_name, p_declarator}
use Rattle.c_grammar.specs.Terminals.{contains, terminal}
use Rattle.c_grammar.specs.Words.{sign_assign}
use Rattle.c_grammar.specs.Reads.{leaf}
use Rattle.c_senses.specs.Tree.{Source, production_of, is_a, is_leaf, is_number, sign_of_kind, kind_of_token, token_of, has_sign, last_where, last_or}
use Rattle.c_senses.specs.Entities.{behind, without_asm, initialiser_in}
use Rattle.c_senses.specs.Sense.{Sense}
use Rattle.core_node_laws.specs.count_laws.passed.parsed_tree_laws.family_laws.Families.{Ascend}
use Rattle.declaration_laws.proofs.definition_laws.function_definitions.Tokens.{sign_taken}
use Rattle.core_node_laws.specs.count_laws.passed.parsed_tree_laws.sign_parts.Parts.{Mark, leaf_mark, Takes}
use Rattle.declaration_laws.proofs.definition_laws.own_initialisers.Parts.{mark, MaybeInit, Absent, Present, MaybeAsm, NoAsm, Asm, Further, Over, Next}

pub member : (k x : ℕ) (ks : List ℕ) → contains (k ∷ ks) x ≡ true → (k ≡ x) ⊎ (contains ks x ≡ true)
member k x ks h = by (nat_eq k x) refl h
  where
    by : (b : Bool) → nat_eq k x ≡ b → (b || contains ks x) ≡ true → (k ≡ x) ⊎ (contains ks x ≡ true)
    by true e f = inl (eqb-true k x e)
    by false e f = inr f

pub head_in : (k : ℕ) (ks : List ℕ) → contains (k ∷ ks) k ≡ true
head_in k ks = ap (λ (b : Bool). b || contains ks k) (eq-eqb k k refl)

pub next_in : (k x : ℕ) (ks : List ℕ) → contains ks x ≡ true → contains (k ∷ ks) x ≡ true
next_in k x ks h = by (nat_eq k x)
  where
    by : (b : Bool) → (b || contains ks x) ≡ true
    by true = refl
    by false = h

pub ascend_in : (low : ℕ) (ks : List ℕ) (x : ℕ) → Ascend low ks → contains ks x ≡ true → low ≤ x
ascend_in low [] x a h = cc
ascend_in low (k ∷ ks) x a h = by (member k x ks h) (λ f. ascend_in (suc k) ks x a.1 f)
  where
    by : (k ≡ x) ⊎ (contains ks x ≡ true) → (contains ks x ≡ true → suc k ≤ x) → low ≤ x
    by (inl same) later = let le = a.0 in omega (arith, same, le)
    by (inr f) later = let more = later f in let le = a.0 in omega (arith, more, le)

abbrev pub AllFail : (ℕ → Bool) → List ℕ → Type 0
AllFail test [] = ⊤
AllFail test (x ∷ xs) = (test x ≡ false) × AllFail test xs

pub last_none : (test : ℕ → Bool) (xs : List ℕ) → AllFail test xs → last_where test xs ≡ None
last_none test [] h = refl
last_none test (x ∷ xs) h = ap (λ (o : Option ℕ). last_or o (if test x then Some x else None)) (last_none test xs h.1) ∙ ap (λ (b : Bool). last_or None (if b then Some x else None)) h.0

and_false : (a b : Bool) → a ≡ false → (a && b) ≡ false
and_false true b e = cc
and_false false b e = refl

and_then_false : (a b : Bool) → b ≡ false → (a && b) ≡ false
and_then_false true b e = e
and_then_false false b e = refl

not_less : (x y : ℕ) → y ≤ x → nat_lt x y ≡ false
not_less x y le = by (nat_lt x y) refl
  where
    by : (b : Bool) → nat_lt x y ≡ b → b ≡ false
    by true e = absurd (let lt = ltb-true x y e in omega (arith, lt, le))
    by false e = refl

pub not_same : (x y : ℕ) → x < y → nat_eq x y ≡ false
not_same x y lt = by (nat_eq x y) refl
  where
    by : (b : Bool) → nat_eq x y ≡ b → b ≡ false
    by true e = absurd (let same = eqb-true x y e in omega (arith, lt, same))
    by false e = refl

pub apart : (s : Source) (i a b : ℕ) → is_a s a i ≡ true → nat_eq a b ≡ false → is_a s b i ≡ false
apart s i a b h differ = ap (λ (q : ℕ). nat_eq q b) (eqb-true (production_of (slice_get s.nodes i)) a h) ∙ differ

module _ (s : Source) (sense : ℕ → Sense) where
  -- a node stands there, with that production and that token
  abbrev pub StandsAs : ℕ → Mark → Type 0
  StandsAs k m = (n : SyntaxNode) × (slice_get s.nodes k ≡ Some n) × (n.production ≡ m.production) × (n.token ≡ m.token)

  abbrev pub Reads : List ℕ → List Mark → Type 0
  Reads [] [] = ⊤
  Reads [] (m ∷ ms) = ⊥
  Reads (k ∷ ks) [] = ⊥
  Reads (k ∷ ks) (m ∷ ms) = StandsAs k m × Reads ks ms

  pub is_as : (k q place : ℕ) → StandsAs k (mark q place) → is_a s q k ≡ true
  is_as k q place h = ap (λ (o : Option SyntaxNode). nat_eq (production_of o) q) h.1 ∙ eq-eqb h.0.production q h.2

  module _ (standing : (k : ℕ) (t : Token) → slice_get s.tokens k ≡ Some t → Stands s.text t) where
    pub sign_is : (k place : ℕ) → StandsAs k (leaf_mark place) → Takes s.text s.tokens 54 (Punctuator sign_assign) place → has_sign s sign_assign k ≡ true
    unfolding terminal
    sign_is k place h takes =
        let t = sign_taken s.text 54 sign_assign takes.0 (slice_get s.tokens place) (λ t e. standing place t e) (omega arith) takes.1 in
        let token : token_of s (slice_get s.nodes k) ≡ Some t.0 = ap (token_of s) h.1 ∙ (ap (slice_get s.tokens) h.3 ∙ t.1) in
        ap (λ (b : Bool). b && is_number (sign_of_kind (kind_of_token (token_of s (slice_get s.nodes k)))) sign_assign) (is_as k leaf place h)
        ∙ (ap (λ (o : Option Token). is_number (sign_of_kind (kind_of_token o)) sign_assign) token ∙ ap (λ (x : TokenKind). is_number (sign_of_kind x) sign_assign) t.2)

    abbrev T : ℕ → TokenKind → ℕ → Type 0
    T = Takes s.text s.tokens

    module _ (init : ℕ) (is : is_a s p_init init ≡ true) where
      abbrev pub test : ℕ → Bool
      test c = is_a s p_declarator c && nat_lt c init

      pub record FoundIn (ks : List ℕ) : Type 0 where
        pub declarator : ℕ
        pub inside : contains ks declarator ≡ true
        pub last : last_where test ks ≡ Some declarator
        pub own : initialiser_in s sense (without_asm s sense (behind declarator ks)) ≡ Some init

      pub skip : (low x : ℕ) (ks : List ℕ) → Ascend low (x ∷ ks) → FoundIn ks → FoundIn (x ∷ ks)
      skip low x ks a f =
          let lt : x < f.declarator = ascend_in (suc x) ks f.declarator a.1 f.inside in
          record {
            declarator = f.declarator;
            inside = next_in x f.declarator ks f.inside;
            last = ap (λ (o : Option ℕ). last_or o (if test x then Some x else None)) f.last;
            own = ap (λ (b : Bool). initialiser_in s sense (without_asm s sense (if b then ks else behind f.declarator ks))) (not_same x f.declarator lt) ∙ f.own;
          }

      -- past an initialiser no declarator stands before it
      past : (xs : List ℕ) → Ascend (suc init) xs → AllFail test xs
      past xs a = each xs (λ x h. ascend_in (suc init) xs x a h)
        where
          each : (ys : List ℕ) → ((x : ℕ) → contains ys x ≡ true → suc init ≤ x) → AllFail test ys
          each [] h = tt
          each (y ∷ ys) h = (and_then_false (is_a s p_declarator y) (nat_lt y init) (not_less y init (let le = h y (head_in y ys) in omega (arith, le))), each ys (λ x i. h x (next_in y x ys i)))

      fails : (c q : ℕ) → is_a s q c ≡ true → nat_eq q p_declarator ≡ false → test c ≡ false
      fails c q h differ = and_false (is_a s p_declarator c) (nat_lt c init) (apart s c q p_declarator h differ)

      itself : test init ≡ false
      itself = fails init p_init is refl

      left : (a b : Bool) → (a && b) ≡ true → a ≡ true
      left true b e = refl
      left false b e = cc

      -- the sign and the initialiser, and what is behind
      pub behind_sign : (low e : ℕ) (more : List ℕ) → Ascend low (e ∷ init ∷ more) → has_sign s sign_assign e ≡ true → AllFail test (e ∷ init ∷ more)
      behind_sign low e more a sign = (fails e leaf (left (is_leaf s e) _ sign) refl, (itself, past more a.1.1))

      starts : (d : ℕ) (tail : List ℕ) → is_a s p_declarator d ≡ true → d < init → AllFail test tail → initialiser_in s sense (without_asm s sense tail) ≡ Some init → FoundIn (d ∷ tail)
      starts d tail declares lt none found =
          record {
            declarator = d;
            inside = head_in d tail;
            last =
                ap (λ (o : Option ℕ). last_or o (if test d then Some d else None)) (last_none test tail none)
                ∙ ap (λ (b : Bool). last_or None (if b then Some d else None)) (ap (λ (b : Bool). b && nat_lt d init) declares ∙ lt-ltb d init lt);
            own = ap (λ (b : Bool). initialiser_in s sense (without_asm s sense (if b then tail else behind d tail))) (eq-eqb d d refl) ∙ found;
          }

      plain_start : (low d e : ℕ) (more : List ℕ) → Ascend low (d ∷ e ∷ init ∷ more) → is_a s p_declarator d ≡ true → has_sign s sign_assign e ≡ true → FoundIn (d ∷ e ∷ init ∷ more)
      plain_start low d e more a declares sign =
          let lt : suc d ≤ init = ascend_in (suc d) (e ∷ init ∷ more) init a.1 (next_in e init (init ∷ more) (head_in init more)) in
          starts d (e ∷ init ∷ more) declares lt (behind_sign (suc d) e more a.1 sign)
          (ap (λ (b : Bool). initialiser_in s sense (if b then init ∷ more else e ∷ init ∷ more)) (apart s e leaf p_asm_name (left (is_leaf s e) _ sign) refl) ∙ ap (λ (b : Bool). if b then Some init else None) sign)

      asm_start : (low d a e : ℕ) (more : List ℕ) → Ascend low (d ∷ a ∷ e ∷ init ∷ more) → is_a s p_declarator d ≡ true → is_a s p_asm_name a ≡ true → has_sign s sign_assign e ≡ true → FoundIn (d ∷ a ∷ e ∷ init ∷ more)
      asm_start low d a e more asc declares asm sign =
          let lt : suc d ≤ init = ascend_in (suc d) (a ∷ e ∷ init ∷ more) init asc.1 (next_in a init (e ∷ init ∷ more) (next_in e init (init ∷ more) (head_in init more))) in
          starts d (a ∷ e ∷ init ∷ more) declares lt (fails a p_asm_name asm refl, behind_sign (suc a) e more asc.1.1 sign)
          (ap (λ (b : Bool). initialiser_in s sense (if b then e ∷ init ∷ more else a ∷ e ∷ init ∷ more)) asm ∙ ap (λ (b : Bool). if b then Some init else None) sign)

      drop_other : (k q : ℕ) (ks : List ℕ) → is_a s q k ≡ true → nat_eq q p_init ≡ false → contains (k ∷ ks) init ≡ true → contains ks init ≡ true
      drop_other k q ks other differ h = elim (member k init ks h) [
        | inl same ↦ absurd (let no : is_a s p_init k ≡ false = apart s k q p_init other differ in let yes : is_a s p_init k ≡ true = ap (is_a s p_init) same ∙ is in let both : true ≡ false = sym yes ∙ no in cc)
        | inr more ↦ more
      ]

      abbrev Later : List Mark → Type 0
      Later ms = (low : ℕ) (ks : List ℕ) → Reads ks ms → Ascend low ks → contains ks init ≡ true → FoundIn ks

      -- behind a declarator and its assembler's name: an initialiser or none
      with_init : (ms ns : List Mark) → MaybeInit T ms → Later ns → (low d : ℕ) (ks : List ℕ) → Reads ks (ms ++ ns) → Ascend low (d ∷ ks) → is_a s p_declarator d ≡ true → contains ks init ≡ true → FoundIn (d ∷ ks)
      with_init ms ns Absent later low d ks r a declares h = skip low d ks a (later (suc d) ks r a.1 h)
      with_init ms ns (Present equals place takes) later low d [] r a declares h = absurd r
      with_init ms ns (Present equals place takes) later low d (e ∷ []) r a declares h = absurd r.1
      with_init ms ns (Present equals place takes) later low d (e ∷ i ∷ ks) r a declares h =
          let in_rest = drop_other e leaf (i ∷ ks) (is_as e leaf equals r.0) refl h in
          elim (member i init ks in_rest) [
            | inl same ↦ subst (λ (x : ℕ). FoundIn (d ∷ e ∷ x ∷ ks)) (sym same) (plain_start low d e ks (subst (λ (x : ℕ). Ascend low (d ∷ e ∷ x ∷ ks)) same a) declares (sign_is e equals r.0 takes))
            | inr more ↦ skip low d (e ∷ i ∷ ks) a (skip (suc d) e (i ∷ ks) a.1 (skip (suc e) i ks a.1.1 (later (suc i) ks r.1.1 a.1.1.1 more)))
          ]

      with_asm : (ms ns : List Mark) → MaybeInit T ms → Later ns → (low d a : ℕ) (ks : List ℕ) → Reads ks (ms ++ ns) → Ascend low (d ∷ a ∷ ks) → is_a s p_declarator d ≡ true → is_a s p_asm_name a ≡ true → contains ks init ≡ true → FoundIn (d ∷ a ∷ ks)
      with_asm ms ns Absent later low d a ks r asc declares asm h = skip low d (a ∷ ks) asc (skip (suc d) a ks asc.1 (later (suc a) ks r asc.1.1 h))
      with_asm ms ns (Present equals place takes) later low d a [] r asc declares asm h = absurd r
      with_asm ms ns (Present equals place takes) later low d a (e ∷ []) r asc declares asm h = absurd r.1
      with_asm ms ns (Present equals place takes) later low d a (e ∷ i ∷ ks) r asc declares asm h =
          let in_rest = drop_other e leaf (i ∷ ks) (is_as e leaf equals r.0) refl h in
          elim (member i init ks in_rest) [
            | inl same ↦ subst (λ (x : ℕ). FoundIn (d ∷ a ∷ e ∷ x ∷ ks)) (sym same) (asm_start low d a e ks (subst (λ (x : ℕ). Ascend low (d ∷ a ∷ e ∷ x ∷ ks)) same asc) declares asm (sign_is e equals r.0 takes))
            | inr more ↦ skip low d (a ∷ e ∷ i ∷ ks) asc (skip (suc d) a (e ∷ i ∷ ks) asc.1 (skip (suc a) e (i ∷ ks) asc.1.1 (skip (suc e) i ks asc.1.1.1 (later (suc i) ks r.1.1 asc.1.1.1.1 more))))
          ]

      declared : (xs ms ns : List Mark) → MaybeAsm T xs → MaybeInit T ms → Later ns → (low d : ℕ) (ks : List ℕ) → Reads ks (xs ++ (ms ++ ns)) → Ascend low (d ∷ ks) → is_a s p_declarator d ≡ true → contains ks init ≡ true → FoundIn (d ∷ ks)
      declared xs ms ns NoAsm maybe later low d ks r a declares h = with_init ms ns maybe later low d ks r a declares h
      declared xs ms ns (Asm place) maybe later low d [] r a declares h = absurd r
      declared xs ms ns (Asm place) maybe later low d (x ∷ ks) r a declares h =
          let asm = is_as x p_asm_name place r.0 in
          with_asm ms ns maybe later low d x ks r.1 a declares asm (drop_other x p_asm_name ks asm refl h)

      pub further : (ms : List Mark) → Further T ms → (low : ℕ) (ks : List ℕ) → Reads ks ms → Ascend low ks → contains ks init ≡ true → FoundIn ks
      further ms (Over place) low [] r a h = absurd r
      further ms (Over place) low (k ∷ []) r a h = absurd (let no = drop_other k leaf [] (is_as k leaf place r.0) refl h in cc)
      further ms (Over place) low (k ∷ j ∷ ks) r a h = absurd r.1
      further ms (Next {asm = xs} {init = ys} {more = zs} comma place takes asm maybe next) low [] r a h = absurd r
      further ms (Next {asm = xs} {init = ys} {more = zs} comma place takes asm maybe next) low (c ∷ []) r a h = absurd r.1
      further ms (Next {asm = xs} {init = ys} {more = zs} comma place takes asm maybe next) low (c ∷ d ∷ ks) r a h =
          let declares = is_as d p_declarator place r.1.0 in
          let in_rest = drop_other d p_declarator ks declares refl (drop_other c leaf (d ∷ ks) (is_as c leaf comma r.0) refl h) in
          skip low c (d ∷ ks) a (declared xs ys zs asm maybe (λ low ks r a h. further zs next low ks r a h) (suc c) d ks r.1.1 a.1 declares in_rest)
