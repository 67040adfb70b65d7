-- A declarator's initialiser is found to be its.
use Rattle.std.proofs.Common.{arith, ◌≡◌, ◌≤◌, ℕ, zero, suc, ◌||◌, ◌&&◌, nat_eq, nat_lt, not, Bool, true, false, Ok, List, [], ◌∷◌, map, Option, Some, None, slice_get, eq-eqb, lt-ltb, refl, sym, ap, ◌∙◌, subst, ◌⊎◌, inl, inr}
use Rattle.std.specs.Prelude.{⊤, option_and_then, if◌then◌else◌}
use Rattle.std.proofs.lemmas.Bool.{eqb-true, ltb-true}
use Rattle.c_lexer.specs.declared.Token.{Token}
use Rattle.c_lexer.specs.declared.Tokens.{Tokens}
use Rattle.c_grammar.specs.declared.trees.SyntaxNode.{SyntaxNode}
use Rattle.c_grammar.specs.declared.trees.Tree.{Tree as SyntaxTree}
use Rattle.c_grammar.specs.Names.{no_names}
use Rattle.c_grammar.specs.Productions.{p_unit, p_external, p_rest, p_declaration, p_asm_name, p_declarator}
use Rattle.c_grammar.specs.Terminals.{contains}
use Rattle.c_grammar.specs.Tree.{makes_node}
use Rattle.c_grammar.specs.Words.{sign_assign}
use Rattle.c_grammar.specs.Reads.{State, Node, node_of, leaf, opened, Walks, Opens}
use Rattle.c_parser.specs.Parse.{begin}
use Rattle.c_parser.specs.c_units.Units.{IsUnit}
use Rattle.c_senses.specs.Names.{source_of, numbered}
use Rattle.c_senses.specs.Tree.{Source, production_of, children_of, children_at, is_a, is_leaf, has_sign, is_number, sign_at, first_where, last_where, last_or, child_of, parent_of}
use Rattle.c_senses.specs.Entities.{behind, without_asm, in_rest, initialiser_in, initialiser_of, initialised_by}
use Rattle.c_senses.specs.Sense.{Sense}
use Rattle.core_node_laws.specs.count_laws.passed.parsed_tree_laws.family_laws.Families.{Families, Ascend}
use Rattle.core_node_laws.proofs.count_laws.passed.parsed_tree_laws.family_laws.Reading.{units_families}
use Rattle.core_node_laws.proofs.count_laws.passed.parsed_tree_laws.placed_laws.Once.{Extends}
use Rattle.core_node_laws.proofs.count_laws.passed.parsed_tree_laws.placed_laws.Adding.{All}
use Rattle.declaration_laws.proofs.definition_laws.linkage_laws.Every.{every}
use Rattle.declaration_laws.proofs.definition_laws.linkage_laws.Inverting.{node_opened}
use Rattle.declaration_laws.proofs.definition_laws.linkage_laws.Seen.{some_same, none_some, no_both, apart, parent_is, parent_holds}
use Rattle.declaration_laws.proofs.definition_laws.linkage_laws.Linked.{Tree}
use Rattle.declaration_laws.proofs.definition_laws.linkage_laws.Reading.{tree_is}
use Rattle.declaration_laws.specs.definition_laws.initialiser_laws.Initialisers.{InitialisersFound}
use Rattle.declaration_laws.proofs.definition_laws.initialiser_laws.Second.{OnlySecond, no_declarator, second_on, external_second, declaration_second}

-- ---- lists of numbers

member : (k x : ℕ) (ks : List ℕ) → contains (k ∷ ks) x ≡ true → (k ≡ x) ⊎ (contains ks x ≡ true)
member k x ks h = by (nat_eq k x) refl h
  where
    by : (b : Bool) → nat_eq k x ≡ b → (b || contains ks x) ≡ true → (k ≡ x) ⊎ (contains ks x ≡ true)
    by true e f = inl (eqb-true k x e)
    by false e f = inr f

head_in : (k : ℕ) (ks : List ℕ) → contains (k ∷ ks) k ≡ true
head_in k ks = ap (λ (b : Bool). b || contains ks k) (eq-eqb k k refl)

next_in : (k x : ℕ) (ks : List ℕ) → contains ks x ≡ true → contains (k ∷ ks) x ≡ true
next_in k x ks h = by (nat_eq k x)
  where
    by : (b : Bool) → (b || contains ks x) ≡ true
    by true = refl
    by false = h

ascend_in : (low : ℕ) (ks : List ℕ) (x : ℕ) → Ascend low ks → contains ks x ≡ true → low ≤ x
ascend_in low [] x a h = cc
ascend_in low (k ∷ ks) x a h = by (member k x ks h) (λ f. ascend_in (suc k) ks x a.1 f)
  where
    by : (k ≡ x) ⊎ (contains ks x ≡ true) → (contains ks x ≡ true → suc k ≤ x) → low ≤ x
    by (inl same) later = let le = a.0 in omega (arith, same, le)
    by (inr f) later = let more = later f in let le = a.0 in omega (arith, more, le)

-- what is behind a number of an ascending list ascends from it on
behind_ascends : (low o : ℕ) (ks : List ℕ) → Ascend low ks → contains ks o ≡ true → Ascend (suc o) (behind o ks)
behind_ascends low o [] a h = cc
behind_ascends low o (k ∷ ks) a h = by (nat_eq k o) refl (λ f. behind_ascends (suc k) o ks a.1 f)
  where
    tail : (b : Bool) → nat_eq k o ≡ b → b ≡ false → contains (k ∷ ks) o ≡ true → contains ks o ≡ true
    tail true e f g = cc
    tail false e f g = pick (member k o ks g)
      where
        pick : (k ≡ o) ⊎ (contains ks o ≡ true) → contains ks o ≡ true
        pick (inl same) = absurd (let bad : true ≡ false = sym (eq-eqb k o same) ∙ e in cc)
        pick (inr more) = more

    by : (b : Bool) → nat_eq k o ≡ b → (contains ks o ≡ true → Ascend (suc o) (behind o ks)) → Ascend (suc o) (if b then ks else behind o ks)
    by true e later = subst (λ (x : ℕ). Ascend (suc x) ks) (eqb-true k o e) a.1
    by false e later = later (tail (nat_eq k o) refl e h)

behind_in : (i : ℕ) (ks : List ℕ) (c : ℕ) → contains (behind i ks) c ≡ true → contains ks c ≡ true
behind_in i [] c h = h
behind_in i (k ∷ ks) c h = by (nat_eq k i) h (λ d. behind_in i ks c d)
  where
    by : (b : Bool) → contains (if b then ks else behind i ks) c ≡ true → (contains (behind i ks) c ≡ true → contains ks c ≡ true) → contains (k ∷ ks) c ≡ true
    by true h rest = next_in k c ks h
    by false h rest = next_in k c ks (rest h)

abbrev AllFail : (ℕ → Bool) → List ℕ → Type 0
AllFail test [] = ⊤
AllFail test (x ∷ xs) = (test x ≡ false) × AllFail test xs

last_none : (test : ℕ → Bool) (xs : List ℕ) → AllFail test xs → last_where test xs ≡ None
last_none test [] h = refl
last_none test (x ∷ xs) h = ap (λ (o : Option ℕ). last_or o (if test x then Some x else None)) (last_none test xs h.1) ∙ ap (λ (b : Bool). last_or None (if b then Some x else None)) h.0

-- the last that passes is the one behind which none does
last_is : (test : ℕ → Bool) (o : ℕ) (ks : List ℕ) → contains ks o ≡ true → test o ≡ true → AllFail test (behind o ks) → last_where test ks ≡ Some o
last_is test o [] h t none = cc
last_is test o (k ∷ ks) h t none = by (nat_eq k o) refl none (λ f g. last_is test o ks f t g)
  where
    by : (b : Bool) → nat_eq k o ≡ b → AllFail test (if b then ks else behind o ks) → (contains ks o ≡ true → AllFail test (behind o ks) → last_where test ks ≡ Some o) → last_or (last_where test ks) (if test k then Some k else None) ≡ Some o
    by true e none later =
        let same : k ≡ o = eqb-true k o e in
        ap (λ (x : Option ℕ). last_or x (if test k then Some k else None)) (last_none test ks none) ∙ (ap (λ (b : Bool). last_or None (if b then Some k else None)) (ap test same ∙ t) ∙ ap (λ (x : ℕ). Some x) same)
    by false e none later = ap (λ (x : Option ℕ). last_or x (if test k then Some k else None)) (later (pick (member k o ks h)) none)
      where
        pick : (k ≡ o) ⊎ (contains ks o ≡ true) → contains ks o ≡ true
        pick (inl same) = absurd (let bad : true ≡ false = sym (eq-eqb k o same) ∙ e in cc)
        pick (inr more) = more

and_false : (a b : Bool) → a ≡ false → (a && b) ≡ false
and_false true b e = cc
and_false false b e = refl

and_then_false : (a b : Bool) → b ≡ false → (a && b) ≡ false
and_then_false true b e = e
and_then_false false b e = refl

not_less : (x y : ℕ) → y ≤ x → nat_lt x y ≡ false
not_less x y le = by (nat_lt x y) refl
  where
    by : (b : Bool) → nat_lt x y ≡ b → b ≡ false
    by true e = absurd (let lt = ltb-true x y e in omega (arith, lt, le))
    by false e = refl

module _ (s : Source) (tree : Tree s) (families : Families s) (second : (q k j : ℕ) (ks : List ℕ) → (is_a s p_external q ≡ true) ⊎ (is_a s p_declaration q ≡ true) → children_at s q ≡ k ∷ j ∷ ks → (is_a s p_declarator k ≡ false) × (first_where (is_a s p_declarator) ks ≡ None)) (sense : ℕ → Sense) where
  abbrev test : ℕ → ℕ → Bool
  test init c = is_a s p_declarator c && nat_lt c init

  -- past an initialiser no declarator stands before it
  past : (init : ℕ) (xs : List ℕ) → Ascend (suc init) xs → AllFail (test init) xs
  past init xs a = each xs (λ x h. ascend_in (suc init) xs x a h)
    where
      each : (ys : List ℕ) → ((x : ℕ) → contains ys x ≡ true → suc init ≤ x) → AllFail (test init) ys
      each [] h = tt
      each (y ∷ ys) h = (and_then_false (is_a s p_declarator y) (nat_lt y init) (not_less y init (let le = h y (head_in y ys) in omega (arith, le))), each ys (λ x i. h x (next_in y x ys i)))

  leaf_fails : (init c : ℕ) → is_leaf s c ≡ true → test init c ≡ false
  leaf_fails init c h = and_false (is_a s p_declarator c) (nat_lt c init) (apart s c leaf p_declarator h refl)

  left : (a b : Bool) → (a && b) ≡ true → a ≡ true
  left true b e = refl
  left false b e = cc

  -- the sign of an initialiser, then it, and what is behind it
  record Begins (init : ℕ) (list : List ℕ) : Type 0 where
    equals : ℕ
    more : List ℕ
    are : list ≡ equals ∷ init ∷ more
    sign : is_leaf s equals ≡ true

  begins : (init : ℕ) (list : List ℕ) → initialiser_in s sense list ≡ Some init → Begins init list
  begins init [] e = absurd (none_some e)
  begins init (x ∷ []) e = absurd (none_some e)
  begins init (x ∷ y ∷ more) e = by (has_sign s sign_assign x) refl e
    where
      by : (b : Bool) → has_sign s sign_assign x ≡ b → (if b then Some y else None) ≡ Some init → Begins init (x ∷ y ∷ more)
      by true is f = record { equals = x; more = more; are = ap (λ (k : ℕ). x ∷ k ∷ more) (some_same f); sign = left (is_leaf s x) (is_number (sign_at s x) sign_assign) is }
      by false is f = absurd (none_some f)

  fails : (init low : ℕ) (list : List ℕ) → Ascend low list → Begins init list → AllFail (test init) list
  fails init low list a h =
      let asc = subst (Ascend low) h.are a in
      subst (AllFail (test init)) (sym h.are) (leaf_fails init h.equals h.sign, (and_then_false (is_a s p_declarator init) (nat_lt init init) (not_less init init (omega arith)), past init h.more asc.1.1))

  -- without what names an assembler symbol
  fails_asm : (init low : ℕ) (list : List ℕ) → Ascend low list → initialiser_in s sense (without_asm s sense list) ≡ Some init → AllFail (test init) list × (contains list init ≡ true)
  fails_asm init low [] a e = absurd (none_some e)
  fails_asm init low (x ∷ xs) a e = by (is_a s p_asm_name x) refl e
    where
      by : (b : Bool) → is_a s p_asm_name x ≡ b → initialiser_in s sense (if b then xs else x ∷ xs) ≡ Some init → AllFail (test init) (x ∷ xs) × (contains (x ∷ xs) init ≡ true)
      by true is f =
          let h = begins init xs f in
          ((and_false (is_a s p_declarator x) (nat_lt x init) (apart s x p_asm_name p_declarator is refl), fails init (suc x) xs a.1 h), next_in x init xs (subst (λ (l : List ℕ). contains l init ≡ true) (sym h.are) (next_in h.equals init (init ∷ h.more) (head_in init h.more))))
      by false is f = let h = begins init (x ∷ xs) f in (fails init low (x ∷ xs) a h, subst (λ (l : List ℕ). contains l init ≡ true) (sym h.are) (next_in h.equals init (init ∷ h.more) (head_in init h.more)))

  abbrev by_parent : ℕ → Option ℕ → Option ℕ
  by_parent init o = elim o as (λ _. Option ℕ) [
    | None ↦ None
    | Some p ↦ elim (last_where (test init) (children_at s p)) as (λ _. Option ℕ) [ Some d ↦ Some d | None ↦ option_and_then (child_of s p_declarator) (parent_of s p) ]
  ]

  -- behind a further declarator of a rest
  in_list : (o init p : ℕ) → is_a s p_declarator o ≡ true → parent_of s o ≡ Some p → initialiser_in s sense (without_asm s sense (behind o (children_at s p))) ≡ Some init → initialised_by s sense init ≡ Some o
  in_list o init p is up e =
      let child = parent_holds s tree.grown p o up in
      let asc = behind_ascends 0 o (children_at s p) (families.ascend p) child in
      let f = fails_asm init (suc o) (behind o (children_at s p)) asc e in
      let at : contains (children_at s p) init ≡ true = behind_in o (children_at s p) init f.1 in
      let small : suc o ≤ init = ascend_in (suc o) (behind o (children_at s p)) init asc f.1 in
      let passes : test init o ≡ true = ap (λ (b : Bool). b && nat_lt o init) is ∙ lt-ltb o init (omega (arith, small)) in
      ap (by_parent init) (parent_is s tree.grown p init at)
      ∙ ap (λ (x : Option ℕ). elim x as (λ _. Option ℕ) [ Some d ↦ Some d | None ↦ option_and_then (child_of s p_declarator) (parent_of s p) ]) (last_is (test init) o (children_at s p) child passes f.0)

  -- the head of a list without an assembler's name
  head_of : (list more : List ℕ) (c : ℕ) → without_asm s sense list ≡ c ∷ more → contains list c ≡ true
  head_of [] more c e = cc
  head_of (x ∷ xs) more c e = by (is_a s p_asm_name x) e
    where
      by : (b : Bool) → (if b then xs else x ∷ xs) ≡ c ∷ more → contains (x ∷ xs) c ≡ true
      by true f = next_in x c xs (subst (λ (l : List ℕ). contains l c ≡ true) (sym f) (head_in c more))
      by false f = subst (λ (l : List ℕ). contains l c ≡ true) (sym f) (head_in c more)

  -- the declarator of a declaration
  second_is : (q o : ℕ) → (is_a s p_external q ≡ true) ⊎ (is_a s p_declaration q ≡ true) → contains (children_at s q) o ≡ true → is_a s p_declarator o ≡ true → (c : ℕ) → contains (behind o (children_at s q)) c ≡ true → child_of s p_declarator q ≡ Some o
  second_is q o which child is c more = by (children_at s q) refl child
    where
      none_in : (ks : List ℕ) → first_where (is_a s p_declarator) ks ≡ None → contains ks o ≡ true → ⊥
      none_in [] e h = cc
      none_in (k ∷ ks) e h = pick (is_a s p_declarator k) refl e (member k o ks h) (λ f g. none_in ks f g)
        where
          pick : (b : Bool) → is_a s p_declarator k ≡ b → (if b then Some k else first_where (is_a s p_declarator) ks) ≡ None → (k ≡ o) ⊎ (contains ks o ≡ true) → (first_where (is_a s p_declarator) ks ≡ None → contains ks o ≡ true → ⊥) → ⊥
          pick true e f m later = none_some (sym f)
          pick false e f (inl same) later = no_both (is_a s p_declarator o) is (subst (λ (j : ℕ). is_a s p_declarator j ≡ false) same e)
          pick false e f (inr g) later = later f g

      by : (l : List ℕ) → children_at s q ≡ l → contains l o ≡ true → first_where (is_a s p_declarator) l ≡ Some o
      by [] e h = cc
      by (k ∷ []) e h = one (member k o [] h)
        where
          one : (k ≡ o) ⊎ (contains [] o ≡ true) → (if is_a s p_declarator k then Some k else None) ≡ Some o
          one (inl same) = ap (λ (b : Bool). if b then Some k else None) (ap (is_a s p_declarator) same ∙ is) ∙ ap (λ (x : ℕ). Some x) same
          one (inr never) = cc
      by (k ∷ j ∷ ks) e h =
          let two = second q k j ks which e in
          ap (λ (b : Bool). if b then Some k else first_where (is_a s p_declarator) (j ∷ ks)) two.0 ∙ pick two (member k o (j ∷ ks) h)
        where
          next : (is_a s p_declarator k ≡ false) × (first_where (is_a s p_declarator) ks ≡ None) → (j ≡ o) ⊎ (contains ks o ≡ true) → (if is_a s p_declarator j then Some j else first_where (is_a s p_declarator) ks) ≡ Some o
          next two (inl same) = ap (λ (b : Bool). if b then Some j else first_where (is_a s p_declarator) ks) (ap (is_a s p_declarator) same ∙ is) ∙ ap (λ (x : ℕ). Some x) same
          next two (inr more) = absurd (none_in ks two.1 more)

          pick : (is_a s p_declarator k ≡ false) × (first_where (is_a s p_declarator) ks ≡ None) → (k ≡ o) ⊎ (contains (j ∷ ks) o ≡ true) → first_where (is_a s p_declarator) (j ∷ ks) ≡ Some o
          pick two (inl same) = absurd (no_both (is_a s p_declarator o) is (subst (λ (x : ℕ). is_a s p_declarator x ≡ false) same two.0))
          pick two (inr more) = next two (member j o ks more)

  either_of : (i : ℕ) → (is_a s p_external i || is_a s p_declaration i) ≡ true → (is_a s p_external i ≡ true) ⊎ (is_a s p_declaration i ≡ true)
  either_of i h = by (is_a s p_external i) (is_a s p_declaration i) refl refl h
    where
      by : (a b : Bool) → is_a s p_external i ≡ a → is_a s p_declaration i ≡ b → (a || b) ≡ true → (is_a s p_external i ≡ true) ⊎ (is_a s p_declaration i ≡ true)
      by true b e f h = inl e
      by false true e f h = inr f
      by false false e f h = cc

  -- the first declarator of a declaration
  in_declaration : (o init p : ℕ) → is_a s p_declarator o ≡ true → parent_of s o ≡ Some p → (list : List ℕ) → without_asm s sense (behind o (children_at s p)) ≡ list → in_rest s sense list ≡ Some init → initialised_by s sense init ≡ Some o
  in_declaration o init p is up [] list e = absurd (none_some e)
  in_declaration o init p is up (c ∷ more) list e = by (is_a s p_rest c) refl e
    where
      by : (b : Bool) → is_a s p_rest c ≡ b → (if b then initialiser_in s sense (children_at s c) else None) ≡ Some init → initialised_by s sense init ≡ Some o
      by false rest k = absurd (none_some k)
      by true rest k =
          let child = parent_holds s tree.grown p o up in
          let behind_c = head_of (behind o (children_at s p)) more c list in
          let in_p = behind_in o (children_at s p) c behind_c in
          let h = begins init (children_at s c) k in
          let at : contains (children_at s c) init ≡ true = subst (λ (l : List ℕ). contains l init ≡ true) (sym h.are) (next_in h.equals init (init ∷ h.more) (head_in init h.more)) in
          let which = either_of p (tree.nested.rests p c in_p rest) in
          ap (by_parent init) (parent_is s tree.grown c init at)
          ∙ (ap (λ (x : Option ℕ). elim x as (λ _. Option ℕ) [ Some d ↦ Some d | None ↦ option_and_then (child_of s p_declarator) (parent_of s c) ]) (last_none (test init) (children_at s c) (fails init 0 (children_at s c) (families.ascend c) h))
          ∙ (ap (option_and_then (child_of s p_declarator)) (parent_is s tree.grown p c in_p) ∙ second_is p o which child is c behind_c))

  pub initialisers : (o init : ℕ) → is_a s p_declarator o ≡ true → initialiser_of s sense o ≡ Some init → initialised_by s sense init ≡ Some o
  initialisers o init is e = by (parent_of s o) refl e
    where
      pick : (p : ℕ) → parent_of s o ≡ Some p → (b : Bool) → (if b then initialiser_in s sense (without_asm s sense (behind o (children_at s p))) else in_rest s sense (without_asm s sense (behind o (children_at s p)))) ≡ Some init → initialised_by s sense init ≡ Some o
      pick p up true k = in_list o init p is up k
      pick p up false k = in_declaration o init p is up (without_asm s sense (behind o (children_at s p))) refl k

      by : (x : Option ℕ) → parent_of s o ≡ x
          → (elim x as (λ _. Option ℕ) [ None ↦ None | Some p ↦ (if is_a s p_rest p then initialiser_in s sense (without_asm s sense (behind o (children_at s p))) else in_rest s sense (without_asm s sense (behind o (children_at s p)))) ]) ≡ Some init
          → initialised_by s sense init ≡ Some o
      by None up k = absurd (none_some k)
      by (Some p) up k = pick p up (is_a s p_rest p) k

-- ---- reading

module _ (text : List ℕ) (tokens : List Token) where
  Good : List Node → Node → Type 0
  Good nodes n = (n.production ≡ 1) ⊎ (n.production ≡ 3) → OnlySecond nodes n.children

  good_on : (a b : List Node) (n : Node) → Extends a b → Good a n → Good b n
  unfolding Good
  good_on a b n x g = λ is. second_on a b n.children x (g is)

  leaf_good : (nodes : List Node) (place : ℕ) → Good nodes (record { production = leaf; token = place; children = [] })
  unfolding Good
  leaf_good nodes place = λ is. tt

  own_good : (q d : ℕ) (s u : State) → makes_node q ≡ true → Walks text tokens q 0 d (opened q s) (Ok u) → Good u.nodes (record { production = q; token = s.place; children = u.children })
  unfolding Good
  own_good q d s u node w = λ is. by is
    where
      none : (opened q s).children ≡ []
      none = ap (λ (x : State). x.children) (node_opened q s node)

      by : (q ≡ 1) ⊎ (q ≡ 3) → OnlySecond u.nodes u.children
      by (inl e) = external_second text tokens d (opened q s) u none (subst (λ (p : ℕ). Walks text tokens p 0 d (opened q s) (Ok u)) e w)
      by (inr e) = declaration_second text tokens d (opened q s) u none (subst (λ (p : ℕ). Walks text tokens p 0 d (opened q s) (Ok u)) e w)

  pub all_second : (q d : ℕ) (s t : State) → s.nodes ≡ [] → Opens text tokens q d s (Ok t) → (i : ℕ) (n : Node) → slice_get t.nodes i ≡ Some n → (n.production ≡ 1) ⊎ (n.production ≡ 3) → OnlySecond t.nodes n.children
  unfolding Good
  all_second q d s t none o i n e = every text tokens Good good_on leaf_good own_good q d s t none o i n e

there_node : (items : List SyntaxNode) (k : ℕ) (n : SyntaxNode) → slice_get items k ≡ Some n → slice_get (map node_of items) k ≡ Some (node_of n)
there_node [] k n e = cc
there_node (x ∷ items) zero n e = let same : x ≡ n = cc in ap (λ (m : SyntaxNode). Some (node_of m)) same
there_node (x ∷ items) (suc k) n e = there_node items k n e

produced : (items : List SyntaxNode) (k : ℕ) (m : Node) → slice_get (map node_of items) k ≡ Some m → production_of (slice_get items k) ≡ m.production
produced [] k m e = cc
produced (x ∷ items) zero m e = let same : node_of x ≡ m = cc in ap (λ (n : Node). n.production) same
produced (x ∷ items) (suc k) m e = produced items k m e

negated : (b : Bool) → not b ≡ true → b ≡ false
negated true e = cc
negated false e = refl

none_found : (items : List SyntaxNode) (ks : List ℕ) → All no_declarator (map node_of items) ks → first_where (λ c. nat_eq (production_of (slice_get items c)) p_declarator) ks ≡ None
none_found items [] h = refl
none_found items (k ∷ ks) h =
    ap (λ (b : Bool). if b then Some k else first_where (λ c. nat_eq (production_of (slice_get items c)) p_declarator) ks) (negated (nat_eq (production_of (slice_get items k)) 19) (subst (λ (q : ℕ). not (nat_eq q 19) ≡ true) (sym (produced items k h.0.0 h.0.1)) h.0.2)) ∙ none_found items ks h.1

module _ (tokens : Tokens) (unit : ℕ) (tree : SyntaxTree) (is : IsUnit tokens unit tree) where
  abbrev items : List SyntaxNode
  items = tree.nodes.items

  seconds : (i : ℕ) (n : SyntaxNode) → slice_get items i ≡ Some n → (n.production ≡ 1) ⊎ (n.production ≡ 3) → OnlySecond (map node_of items) n.children.items
  seconds i n e p =
      let read = is.0 in
      subst (λ (l : List Node). OnlySecond l n.children.items) read.2
      (all_second tokens.text.now tokens.list.items p_unit 0 (begin 0 no_names []) read.0 refl read.1 i (node_of n) (subst (λ (l : List Node). slice_get l i ≡ Some (node_of n)) (sym read.2) (there_node items i n e)) p)

  second : (q k j : ℕ) (ks : List ℕ) → (nat_eq (production_of (slice_get items q)) p_external ≡ true) ⊎ (nat_eq (production_of (slice_get items q)) p_declaration ≡ true) → children_of (slice_get items q) ≡ k ∷ j ∷ ks
      → (nat_eq (production_of (slice_get items k)) p_declarator ≡ false) × (first_where (λ c. nat_eq (production_of (slice_get items c)) p_declarator) ks ≡ None)
  second q k j ks which e = by (slice_get items q) refl which e
    where
      turn : (p : ℕ) → (nat_eq p p_external ≡ true) ⊎ (nat_eq p p_declaration ≡ true) → (p ≡ 1) ⊎ (p ≡ 3)
      turn p (inl h) = inl (eqb-true p 1 h)
      turn p (inr h) = inr (eqb-true p 3 h)

      by : (o : Option SyntaxNode) → slice_get items q ≡ o → (nat_eq (production_of o) p_external ≡ true) ⊎ (nat_eq (production_of o) p_declaration ≡ true) → children_of o ≡ k ∷ j ∷ ks
          → (nat_eq (production_of (slice_get items k)) p_declarator ≡ false) × (first_where (λ c. nat_eq (production_of (slice_get items c)) p_declarator) ks ≡ None)
      by None at which e = cc
      by (Some n) at which e =
          let h = subst (OnlySecond (map node_of items)) e (seconds q n at (turn n.production which)) in
          (negated (nat_eq (production_of (slice_get items k)) 19) (subst (λ (p : ℕ). not (nat_eq p 19) ≡ true) (sym (produced items k h.0.0.0 h.0.0.1)) h.0.0.2), none_found items ks h.1)

pub initialisers_found : InitialisersFound
unfolding source_of
initialisers_found tokens unit tree tag_number cut is sense o init declares e =
    let s = numbered tag_number (source_of tokens tree) in
    initialisers s (tree_is tokens unit tree is tag_number) (units_families tokens unit tree tag_number cut is) (λ q k j ks which f. second tokens unit tree is q k j ks which f) sense o init declares e
