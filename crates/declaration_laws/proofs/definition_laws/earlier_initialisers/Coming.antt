-- An initialiser stands before each later declarator.
use Rattle.std.proofs.Common.{arith, ◌≡◌, ◌<◌, ◌≤◌, ℕ, suc, ◌⊎◌, inl, inr, ◌||◌, ◌&&◌, nat_eq, nat_lt, Bool, true, false, List, [], ◌∷◌, ◌++◌, map, length, Option, Some, None, refl, sym, ap, ◌∙◌, subst, lt-ltb}
use Rattle.std.specs.Prelude.{option_and_then, if◌then◌else◌}
use Rattle.std.proofs.lemmas.Bool.{eqb-true}
use Rattle.std.proofs.lemmas.Bool.Decides.{nat_tests}
use Rattle.c_lexer.specs.declared.TokenKind.{TokenKind}
use Rattle.c_grammar.specs.Names.{no_names}
use Rattle.c_grammar.specs.Productions.{p_unit, p_external, p_rest, p_declaration, p_assert, p_asm_name, p_specs, p_declarator, p_init, p_block, p_statement}
use Rattle.c_grammar.specs.Terminals.{contains}
use Rattle.c_grammar.specs.Reads.{leaf}
use Rattle.c_parser.specs.Parse.{begin}
use Rattle.c_senses.specs.Names.{source_of, numbered}
use Rattle.c_senses.specs.Tree.{Source, production_at, children_at, is_a, is_leaf, first_where, last_where, last_or, child_of, parent_of}
use Rattle.c_senses.specs.Entities.{initialised_by}
use Rattle.c_senses.specs.Sense.{Sense}
use Rattle.core_node_laws.specs.count_laws.passed.parsed_tree_laws.family_laws.Families.{Families, Ascend}
use Rattle.core_node_laws.proofs.count_laws.passed.parsed_tree_laws.family_laws.Reading.{units_families}
use Rattle.core_node_laws.specs.count_laws.passed.parsed_tree_laws.nesting_laws.Nested.{Nested}
use Rattle.core_node_laws.proofs.count_laws.passed.parsed_tree_laws.nesting_laws.Nesting.{units_nest}
use Rattle.core_node_laws.proofs.count_laws.passed.parsed_tree_laws.placed_laws.Climbing.{Grown, exists_at}
use Rattle.core_node_laws.proofs.count_laws.passed.parsed_tree_laws.placed_laws.Growing.{grown_read}
use Rattle.core_node_laws.specs.count_laws.passed.parsed_tree_laws.span_laws.Spans.{Spanned}
use Rattle.core_node_laws.proofs.count_laws.passed.parsed_tree_laws.span_laws.Whole.{units_are_spanned}
use Rattle.core_node_laws.proofs.built_unit_laws.passed.core_node_laws.standing_laws.Climbing.{in_list, list_in, found_where}
use Rattle.declaration_laws.proofs.definition_laws.linkage_laws.Seen.{parent_holds}
use Rattle.core_node_laws.specs.count_laws.passed.parsed_tree_laws.ordered_parts.Ordered.{IsPart, Beneath, itself, under, Follows}
use Rattle.core_node_laws.proofs.count_laws.passed.parsed_tree_laws.ordered_parts.Read.{parts_follow}
use Rattle.core_node_laws.specs.count_laws.passed.parsed_tree_laws.sign_parts.Parts.{Mark, mark_of, mark_at, Brings, Takes, IsBrought}
use Rattle.core_node_laws.proofs.count_laws.passed.parsed_tree_laws.sign_parts.Reading.{units_bring}
use Rattle.declaration_laws.proofs.definition_laws.own_initialisers.Parts.{mark, MaybeAsm, NoAsm, Asm, IsNaming, Naming, IsOther, Assert, Alone, Body, external_list, declaration_list}
use Rattle.declaration_laws.proofs.definition_laws.own_initialisers.Searching.{member, head_in, next_in, ascend_in, apart, Reads, is_as}
use Rattle.declaration_laws.specs.definition_laws.earlier_initialisers.Earlier.{StandsDeclaring, InitialisersEarlier}
use Rattle.declaration_laws.proofs.definition_laws.earlier_initialisers.Under.{part_low, within_part, top_down}

or_cases : (P : Type 0) (a b : Bool) → (a || b) ≡ true → (a ≡ true → P) → (b ≡ true → P) → P
or_cases P true b e f g = f refl
or_cases P false b e f g = g e

and_left : (a b : Bool) → (a && b) ≡ true → a ≡ true
and_left true b e = refl
and_left false b e = cc

no_both : (b : Bool) → b ≡ true → b ≡ false → ⊥
no_both b e f = let both : true ≡ false = sym e ∙ f in cc

not_before : (x y : ℕ) → nat_lt x y ≡ false → y ≤ x
not_before x y e = grind (arith, nat_tests, e)

-- ---- the last number of a list that passes

last_not : (test : ℕ → Bool) (ks : List ℕ) (c : ℕ) → contains ks c ≡ true → test c ≡ true → last_where test ks ≡ None → ⊥
last_not test [] c h t e = cc
last_not test (k ∷ ks) c h t e = by (last_where test ks) refl e (member k c ks h) (λ more last. last_not test ks c more t last)
  where
    here : k ≡ c → last_or None (if test k then Some k else None) ≡ None → ⊥
    here same f = let some : ◌≡◌ {A = Option ℕ} (Some k) None = sym (ap (λ (b : Bool). last_or None (if b then Some k else None)) (ap test same ∙ t)) ∙ f in cc

    by : (o : Option ℕ) → last_where test ks ≡ o → last_or o (if test k then Some k else None) ≡ None → (k ≡ c) ⊎ (contains ks c ≡ true) → (contains ks c ≡ true → last_where test ks ≡ None → ⊥) → ⊥
    by (Some x) last f place later = cc
    by None last f (inl same) later = here same f
    by None last f (inr more) later = later more last

last_inside : (test : ℕ → Bool) (ks : List ℕ) (x : ℕ) → last_where test ks ≡ Some x → (contains ks x ≡ true) × (test x ≡ true)
last_inside test [] x e = cc
last_inside test (k ∷ ks) x e = by (last_where test ks) refl e (λ f. last_inside test ks x f)
  where
    here : (b : Bool) → test k ≡ b → last_or None (if b then Some k else None) ≡ Some x → (contains (k ∷ ks) x ≡ true) × (test x ≡ true)
    here true is f = let same : k ≡ x = cc in (subst (λ (y : ℕ). contains (k ∷ ks) y ≡ true) same (head_in k ks), subst (λ (y : ℕ). test y ≡ true) same is)
    here false is f = cc

    by : (o : Option ℕ) → last_where test ks ≡ o → last_or o (if test k then Some k else None) ≡ Some x → (last_where test ks ≡ Some x → (contains ks x ≡ true) × (test x ≡ true)) → (contains (k ∷ ks) x ≡ true) × (test x ≡ true)
    by (Some y) last f later = let found = later (last ∙ f) in (next_in k x ks found.0, found.1)
    by None last f later = here (test k) refl f

last_most : (test : ℕ → Bool) (low : ℕ) (ks : List ℕ) (m c : ℕ) → Ascend low ks → last_where test ks ≡ Some m → contains ks c ≡ true → test c ≡ true → c ≤ m
last_most test low [] m c a e h t = cc
last_most test low (k ∷ ks) m c a e h t = by (last_where test ks) refl e (member k c ks h) (λ f g. last_most test (suc k) ks m c a.1 f g t)
  where
    here : (b : Bool) → last_or None (if b then Some k else None) ≡ Some m → k ≡ c → c ≤ m
    here true f same = let own : k ≡ m = cc in omega (arith, own, same)
    here false f same = cc

    by : (o : Option ℕ) → last_where test ks ≡ o → last_or o (if test k then Some k else None) ≡ Some m → (k ≡ c) ⊎ (contains ks c ≡ true) → (last_where test ks ≡ Some m → contains ks c ≡ true → c ≤ m) → c ≤ m
    by (Some y) last f (inl same) later = let le = ascend_in (suc k) ks m a.1 (last_inside test ks m (last ∙ f)).0 in omega (arith, le, same)
    by (Some y) last f (inr more) later = later (last ∙ f) more
    by None last f (inl same) later = here (test k) f same
    by None last f (inr more) later = absurd (last_not test ks c more t last)

first_inside : (test : ℕ → Bool) (ks : List ℕ) (x : ℕ) → first_where test ks ≡ Some x → contains ks x ≡ true
first_inside test [] x e = cc
first_inside test (k ∷ ks) x e = by (test k) e (λ f. first_inside test ks x f)
  where
    by : (b : Bool) → (if b then Some k else first_where test ks) ≡ Some x → (first_where test ks ≡ Some x → contains ks x ≡ true) → contains (k ∷ ks) x ≡ true
    by true f later = let same : k ≡ x = cc in subst (λ (y : ℕ). contains (k ∷ ks) y ≡ true) same (head_in k ks)
    by false f later = next_in k x ks (later f)

module _ (s : Source) (tree : Grown s) (nested : Nested s) (families : Families s) (order : Follows s) (spanned : Spanned s) (brought : IsBrought s) (sense : ℕ → Sense) where
  abbrev T : ℕ → TokenKind → ℕ → Type 0
  T = Takes s.text s.tokens

  -- what stands around a declaration
  data IsAround (e : ℕ) : Type 0 where
    AtUnit : is_a s p_unit e ≡ true → IsAround e
    AtExternal : is_a s p_external e ≡ true → IsAround e
    AtRest : is_a s p_rest e ≡ true → IsAround e
    AtDeclaration : is_a s p_declaration e ≡ true → IsAround e
    AtBlock : is_a s p_block e ≡ true → IsAround e
    AtStatement : is_a s p_statement e ≡ true → IsAround e

  held : (q c : ℕ) → IsPart s q c → contains (children_at s q) c ≡ true
  held q c part = list_in (children_at s q) part.0 c part.1

  up : (q c : ℕ) → contains (children_at s q) c ≡ true → IsAround c → IsAround q
  up q c h (AtUnit e) = absurd (no_both (is_a s p_unit c) e (nested.units q c h))
  up q c h (AtExternal e) = AtUnit (nested.externals q c h e)
  up q c h (AtRest e) = or_cases (IsAround q) (is_a s p_external q) (is_a s p_declaration q) (nested.rests q c h e) AtExternal AtDeclaration
  up q c h (AtDeclaration e) = or_cases (IsAround q) (is_a s p_block q) (is_a s p_statement q) (nested.declarations q c h e) AtBlock AtStatement
  up q c h (AtBlock e) = or_cases (IsAround q) (is_a s p_external q) (is_a s p_statement q) (nested.blocks q c h e) AtExternal AtStatement
  up q c h (AtStatement e) = or_cases (IsAround q) (is_a s p_block q) (is_a s p_statement q) (nested.statements q c h e) AtBlock AtStatement

  all_around : (x c : ℕ) → Beneath s x c → IsAround c → IsAround x
  all_around x c itself d = d
  all_around x c (under {q = q} of below) d = all_around x q below (up q c (held q c of) d)

  -- a production of which nothing around a declaration is
  abbrev IsInner : ℕ → Type 0
  IsInner a = (nat_eq a p_unit ≡ false) × (nat_eq a p_external ≡ false) × (nat_eq a p_rest ≡ false) × (nat_eq a p_declaration ≡ false) × (nat_eq a p_block ≡ false) × (nat_eq a p_statement ≡ false)

  not_around : (x a : ℕ) → is_a s a x ≡ true → IsInner a → IsAround x → ⊥
  not_around x a is six (AtUnit e) = no_both (is_a s p_unit x) e (apart s x a p_unit is six.0)
  not_around x a is six (AtExternal e) = no_both (is_a s p_external x) e (apart s x a p_external is six.1)
  not_around x a is six (AtRest e) = no_both (is_a s p_rest x) e (apart s x a p_rest is six.2)
  not_around x a is six (AtDeclaration e) = no_both (is_a s p_declaration x) e (apart s x a p_declaration is six.3)
  not_around x a is six (AtBlock e) = no_both (is_a s p_block x) e (apart s x a p_block is six.4)
  not_around x a is six (AtStatement e) = no_both (is_a s p_statement x) e (apart s x a p_statement is six.5)

  around_of : (k : ℕ) → (stands : StandsDeclaring s k) → IsAround stands.0
  around_of k stands = elim stands.3 [
    | inl rest ↦ AtRest rest
    | inr two ↦ or_cases (IsAround stands.0) (is_a s p_external stands.0) (is_a s p_declaration stands.0) two AtExternal AtDeclaration
  ]

  only_itself : (x a k : ℕ) → is_a s a x ≡ true → IsInner a → StandsDeclaring s k → Beneath s x k → x ≡ k
  only_itself x a k is six stands itself = refl
  only_itself x a k is six stands (under {q = q} of below) =
      absurd (not_around x a is six (all_around x q below (subst IsAround (tree.once stands.0 q k stands.2 (held q k of)) (around_of k stands))))

  never : (x a k : ℕ) → is_a s a x ≡ true → IsInner a → nat_eq a p_declarator ≡ false → StandsDeclaring s k → Beneath s x k → ⊥
  never x a k is six differ stands below =
      no_both (is_a s p_declarator x) (ap (is_a s p_declarator) (only_itself x a k is six stands below) ∙ stands.1) (apart s x a p_declarator is differ)

  beneath_le : (x k : ℕ) → Beneath s x k → k ≤ x
  beneath_le x k itself = omega arith
  beneath_le x k (under {q = q} of below) = let lt = tree.before q k (held q k of) in let le = beneath_le x q below in omega (arith, lt, le)

  drop_other : (x q k a : ℕ) (ks : List ℕ) → is_a s q x ≡ true → is_a s a k ≡ true → nat_eq a q ≡ false → contains (k ∷ ks) x ≡ true → contains ks x ≡ true
  drop_other x q k a ks is other differ h = elim (member k x ks h) [
    | inl same ↦ absurd (no_both (is_a s q k) (ap (is_a s q) same ∙ is) (apart s k a q other differ))
    | inr more ↦ more
  ]

  reads : (ks : List ℕ) (ms : List Mark) → map (mark_at s) ks ≡ ms → ((k : ℕ) → contains ks k ≡ true → k < length s.nodes) → Reads s sense ks ms
  reads [] [] e inside = tt
  reads [] (m ∷ ms) e inside = cc
  reads (k ∷ ks) [] e inside = cc
  reads (k ∷ ks) (m ∷ ms) e inside =
      let first : mark_at s k ≡ m = cc in
      let rest : map (mark_at s) ks ≡ ms = cc in
      let there = exists_at s.nodes k (inside k (head_in k ks)) in
      let same : mark_of (Some there.0) ≡ m = sym (ap mark_of there.1) ∙ first in
      ((there.0, there.1, ap (λ (x : Mark). x.production) same, ap (λ (x : Mark). x.token) same), reads ks ms rest (λ j h. inside j (next_in k j ks h)))

  parts : (p : ℕ) (ms : List Mark) → map (mark_at s) (children_at s p) ≡ ms → Reads s sense (children_at s p) ms
  parts p ms e = reads (children_at s p) ms e (λ c h. let low = tree.before p c h in let high = tree.within p c h in omega (arith, low, high))

  -- ---- the parts of a declaration

  data IsOneOf (declarator rest x : ℕ) : Type 0 where
    Words : is_a s p_specs x ≡ true → IsOneOf declarator rest x
    Own : x ≡ declarator → IsOneOf declarator rest x
    Symbol : is_a s p_asm_name x ≡ true → IsOneOf declarator rest x
    More : x ≡ rest → IsOneOf declarator rest x

  record Named (ks : List ℕ) : Type 0 where
    declarator : ℕ
    rest : ℕ
    declares : is_a s p_declarator declarator ≡ true
    is_rest : is_a s p_rest rest ≡ true
    which : (x : ℕ) → contains ks x ≡ true → IsOneOf declarator rest x

  in_tail : (j : ℕ) (xs : List Mark) (place : ℕ) → MaybeAsm T xs → (tail : List ℕ) → Reads s sense tail (xs ++ mark 2 place ∷ []) → (r : ℕ) × (is_a s p_rest r ≡ true) × ((x : ℕ) → contains tail x ≡ true → IsOneOf j r x)
  in_tail j xs place NoAsm [] h = absurd h
  in_tail j xs place NoAsm (r ∷ []) h = (r, is_as s sense r p_rest place h.0, λ x at. elim (member r x [] at) [ inl same ↦ More (sym same) | inr more ↦ absurd (cc) ])
  in_tail j xs place NoAsm (r ∷ y ∷ more) h = absurd h.1
  in_tail j xs place (Asm at) [] h = absurd h
  in_tail j xs place (Asm at) (y ∷ []) h = absurd h.1
  in_tail j xs place (Asm at) (y ∷ r ∷ []) h =
      let asm = is_as s sense y p_asm_name at h.0 in
      (r, is_as s sense r p_rest place h.1.0, λ x inside. elim (member y x (r ∷ []) inside) [ inl same ↦ Symbol (ap (is_a s p_asm_name) (sym same) ∙ asm) | inr later ↦ elim (member r x [] later) [ inl same ↦ More (sym same) | inr more ↦ absurd (cc) ] ])
  in_tail j xs place (Asm at) (y ∷ r ∷ z ∷ more) h = absurd h.1.1

  named_of : (xs : List Mark) (specs declarator place : ℕ) → MaybeAsm T xs → (ks : List ℕ) → Reads s sense ks (mark 6 specs ∷ mark 19 declarator ∷ (xs ++ mark 2 place ∷ [])) → Named ks
  named_of xs specs declarator place asm [] h = absurd h
  named_of xs specs declarator place asm (k ∷ []) h = absurd h.1
  named_of xs specs declarator place asm (k ∷ j ∷ tail) h =
      let words = is_as s sense k p_specs specs h.0 in
      let found = in_tail j xs place asm tail h.1.1 in
      record {
        declarator = j;
        rest = found.0;
        declares = is_as s sense j p_declarator declarator h.1.0;
        is_rest = found.1;
        which = λ x at. elim (member k x (j ∷ tail) at) [
          | inl same ↦ Words (ap (is_a s p_specs) (sym same) ∙ words)
          | inr later ↦ elim (member j x tail later) [ inl same ↦ Own (sym same) | inr more ↦ found.2 x more ]
        ];
      }

  no_rest : (p : ℕ) → is_a s p_rest p ≡ true → (xs : List Mark) (block : ℕ) → MaybeAsm T xs → (tail : List ℕ) → Reads s sense tail (xs ++ mark 29 block ∷ []) → contains tail p ≡ true → ⊥
  no_rest p rest xs block NoAsm [] r h = r
  no_rest p rest xs block NoAsm (x ∷ []) r h = let no : contains [] p ≡ true = drop_other p p_rest x p_block [] rest (is_as s sense x p_block block r.0) refl h in cc
  no_rest p rest xs block NoAsm (x ∷ y ∷ more) r h = r.1
  no_rest p rest xs block (Asm at) [] r h = r
  no_rest p rest xs block (Asm at) (y ∷ []) r h = r.1
  no_rest p rest xs block (Asm at) (y ∷ x ∷ []) r h =
      let no : contains [] p ≡ true = drop_other p p_rest x p_block [] rest (is_as s sense x p_block block r.1.0) refl (drop_other p p_rest y p_asm_name (x ∷ []) rest (is_as s sense y p_asm_name at r.0) refl h) in cc
  no_rest p rest xs block (Asm at) (y ∷ x ∷ z ∷ more) r h = r.1.1

  other : (p : ℕ) → is_a s p_rest p ≡ true → (ms : List Mark) → IsOther T ms → (ks : List ℕ) → Reads s sense ks ms → contains ks p ≡ true → ⊥
  other p rest ms (Assert place) [] r h = r
  other p rest ms (Assert place) (k ∷ []) r h = let no : contains [] p ≡ true = drop_other p p_rest k p_assert [] rest (is_as s sense k p_assert place r.0) refl h in cc
  other p rest ms (Assert place) (k ∷ j ∷ ks) r h = r.1
  other p rest ms (Alone specs place) [] r h = r
  other p rest ms (Alone specs place) (k ∷ []) r h = r.1
  other p rest ms (Alone specs place) (k ∷ j ∷ []) r h =
      let no : contains [] p ≡ true = drop_other p p_rest j leaf [] rest (is_as s sense j leaf place r.1.0) refl (drop_other p p_rest k p_specs (j ∷ []) rest (is_as s sense k p_specs specs r.0) refl h) in cc
  other p rest ms (Alone specs place) (k ∷ j ∷ i ∷ ks) r h = r.1.1
  other p rest ms (Body {asm = xs} specs declarator block asm) [] r h = r
  other p rest ms (Body {asm = xs} specs declarator block asm) (k ∷ []) r h = r.1
  other p rest ms (Body {asm = xs} specs declarator block asm) (k ∷ j ∷ tail) r h =
      no_rest p rest xs block asm tail r.1.1
      (drop_other p p_rest j p_declarator tail rest (is_as s sense j p_declarator declarator r.1.0) refl (drop_other p p_rest k p_specs (j ∷ tail) rest (is_as s sense k p_specs specs r.0) refl h))

  listed : (a p : ℕ) → is_a s p_rest p ≡ true → contains (children_at s a) p ≡ true → (ms : List Mark) → map (mark_at s) (children_at s a) ≡ ms → IsNaming T ms ⊎ IsOther T ms → Named (children_at s a)
  listed a p rest h ms e (inl (Naming {asm = xs} specs declarator place asm)) = named_of xs specs declarator place asm (children_at s a) (parts a (mark 6 specs ∷ mark 19 declarator ∷ (xs ++ mark 2 place ∷ [])) e)
  listed a p rest h ms e (inr o) = absurd (other p rest ms o (children_at s a) (parts a ms e) h)

  naming : (a p : ℕ) → is_a s p_rest p ≡ true → contains (children_at s a) p ≡ true → (is_a s p_external a || is_a s p_declaration a) ≡ true → Named (children_at s a)
  naming a p rest h two =
      or_cases (Named (children_at s a)) (is_a s p_external a) (is_a s p_declaration a) two
      (λ is. listed a p rest h (map (mark_at s) (children_at s a)) refl (external_list T (map (mark_at s) (children_at s a)) (subst (λ (q : ℕ). Brings T q 0 (map (mark_at s) (children_at s a))) (eqb-true (production_at s a) p_external is) (brought a))))
      (λ is. listed a p rest h (map (mark_at s) (children_at s a)) refl (declaration_list T (map (mark_at s) (children_at s a)) (subst (λ (q : ℕ). Brings T q 0 (map (mark_at s) (children_at s a))) (eqb-true (production_at s a) p_declaration is) (brought a))))

  -- ---- the numbers

  module _ (i p m k : ℕ) (is : is_a s p_init i ≡ true) (parent : parent_of s i ≡ Some p) (rest : is_a s p_rest p ≡ true) (by_it : initialised_by s sense i ≡ Some m) (stands : StandsDeclaring s k) (behind_it : m < k) where
    abbrev tested : ℕ → Bool
    tested c = is_a s p_declarator c && nat_lt c i

    abbrev from_last : Option ℕ → Option ℕ
    from_last o = elim o as (λ _. Option ℕ) [ Some j ↦ Some j | None ↦ option_and_then (child_of s p_declarator) (parent_of s p) ]

    there : from_last (last_where tested (children_at s p)) ≡ Some m
    there =
        sym (ap (λ (o : Option ℕ). elim o as (λ _. Option ℕ) [
          | None ↦ None
          | Some q ↦ elim (last_where tested (children_at s q)) as (λ _. Option ℕ) [ Some j ↦ Some j | None ↦ option_and_then (child_of s p_declarator) (parent_of s q) ]
        ]) parent) ∙ by_it

    inside : contains (children_at s p) i ≡ true
    inside = parent_holds s tree p i parent

    -- no part of the rest has it beneath, before the initialiser and behind the declarator
    no_part : ((c : ℕ) → contains (children_at s p) c ≡ true → tested c ≡ true → c ≤ m) → k < i → (c : ℕ) → contains (children_at s p) c ≡ true → Beneath s c k → ⊥
    no_part most early c at below = by (nat_lt i c) refl
      where
        kinds : c ≤ i → ⊥
        kinds le =
            let part = in_list (children_at s p) c at in
            or_cases ⊥ (is_leaf s c) (is_a s p_asm_name c || (is_a s p_declarator c || is_a s p_init c)) (spanned.rests p part.0 c rest part.1) (λ e. never c leaf k e (refl, refl, refl, refl, refl, refl) refl stands below)
            (λ f.
            or_cases ⊥ (is_a s p_asm_name c) (is_a s p_declarator c || is_a s p_init c) f (λ e. never c p_asm_name k e (refl, refl, refl, refl, refl, refl) refl stands below)
            (λ g.
            or_cases ⊥ (is_a s p_declarator c) (is_a s p_init c) g
            (λ e.
            let same : c ≡ k = only_itself c p_declarator k e (refl, refl, refl, refl, refl, refl) stands below in
            let small : nat_lt c i ≡ true = lt-ltb c i (omega (arith, same, early)) in
            let low = most c at (ap (λ (b : Bool). b && nat_lt c i) e ∙ small) in
            omega (arith, same, low, behind_it)) (λ e. never c p_init k e (refl, refl, refl, refl, refl, refl) refl stands below)))

        by : (b : Bool) → nat_lt i c ≡ b → ⊥
        by true e = let later = order.follows p i c k (in_list (children_at s p) i inside) (in_list (children_at s p) c at) (let lt : nat_lt i c ≡ true = e in is_less i c lt) below in omega (arith, later, early)
          where
            is_less : (x y : ℕ) → nat_lt x y ≡ true → x < y
            is_less x y f = grind (arith, nat_tests, f)
        by false e = kinds (not_before i c e)

    in_rest : last_where tested (children_at s p) ≡ Some m → k < i → ⊥
    in_rest last early =
        let at = last_inside tested (children_at s p) m last in
        let spans = spanned.each p (tree.within p i inside) in
        let low = part_low s spans.0 p m spans.1 at.0 in
        let high = tree.before p i inside in
        let found = within_part s spans.0 p k spans.1 (omega (arith, low, behind_it)) (omega (arith, early, high)) in
        no_part (λ c h t. last_most tested 0 (children_at s p) m c (families.ascend p) last h t) early found.0 found.1 found.2

    in_declaration : last_where tested (children_at s p) ≡ None → (a : ℕ) → contains (children_at s a) p ≡ true → child_of s p_declarator a ≡ Some m → k < i → ⊥
    in_declaration none a holds child early =
        let at = first_inside (is_a s p_declarator) (children_at s a) m child in
        let declares = found_where (is_a s p_declarator) (children_at s a) m child in
        let spans = spanned.each a (tree.within a p holds) in
        let low = part_low s spans.0 a m spans.1 at in
        let first = tree.before p i inside in
        let second = tree.before a p holds in
        let found = within_part s spans.0 a k spans.1 (omega (arith, low, behind_it)) (omega (arith, early, first, second)) in
        let names = naming a p rest holds (nested.rests a p holds rest) in
        by names at declares found.0 (names.which found.0 found.1) found.2
      where
        own : (n : Named (children_at s a)) → contains (children_at s a) m ≡ true → is_a s p_declarator m ≡ true → m ≡ n.declarator
        own n at declares = pick (n.which m at)
          where
            pick : IsOneOf n.declarator n.rest m → m ≡ n.declarator
            pick (Words e) = absurd (no_both (is_a s p_declarator m) declares (apart s m p_specs p_declarator e refl))
            pick (Own e) = e
            pick (Symbol e) = absurd (no_both (is_a s p_declarator m) declares (apart s m p_asm_name p_declarator e refl))
            pick (More e) = absurd (no_both (is_a s p_declarator m) declares (apart s m p_rest p_declarator (ap (is_a s p_rest) e ∙ n.is_rest) refl))

        the_rest : (n : Named (children_at s a)) → p ≡ n.rest
        the_rest n = pick (n.which p holds)
          where
            pick : IsOneOf n.declarator n.rest p → p ≡ n.rest
            pick (Words e) = absurd (no_both (is_a s p_rest p) rest (apart s p p_specs p_rest e refl))
            pick (Own e) = absurd (no_both (is_a s p_rest p) rest (apart s p p_declarator p_rest (ap (is_a s p_declarator) e ∙ n.declares) refl))
            pick (Symbol e) = absurd (no_both (is_a s p_rest p) rest (apart s p p_asm_name p_rest e refl))
            pick (More e) = e

        within : Beneath s p k → ⊥
        within below = elim (top_down s p k below) [
          | inl same ↦ no_both (is_a s p_declarator p) (ap (is_a s p_declarator) same ∙ stands.1) (apart s p p_rest p_declarator rest refl)
          | inr part ↦ no_part (λ c h t. absurd (last_not tested (children_at s p) c h t none)) early part.0 (held p part.0 part.1) part.2
        ]

        by : (n : Named (children_at s a)) → contains (children_at s a) m ≡ true → is_a s p_declarator m ≡ true → (c : ℕ) → IsOneOf n.declarator n.rest c → Beneath s c k → ⊥
        by n at declares c (Words e) below = never c p_specs k e (refl, refl, refl, refl, refl, refl) refl stands below
        by n at declares c (Own e) below = let same = own n at declares in let le = beneath_le c k below in omega (arith, same, e, le, behind_it)
        by n at declares c (Symbol e) below = never c p_asm_name k e (refl, refl, refl, refl, refl, refl) refl stands below
        by n at declares c (More e) below = within (subst (λ (x : ℕ). Beneath s x k) (e ∙ sym (the_rest n)) below)

    not_early : k < i → ⊥
    not_early early = by (last_where tested (children_at s p)) refl there
      where
        up_to : (o : Option ℕ) → parent_of s p ≡ o → last_where tested (children_at s p) ≡ None → option_and_then (child_of s p_declarator) o ≡ Some m → ⊥
        up_to None at none h = cc
        up_to (Some a) at none h = in_declaration none a (parent_holds s tree a p at) h early

        by : (o : Option ℕ) → last_where tested (children_at s p) ≡ o → from_last o ≡ Some m → ⊥
        by (Some j) last h = in_rest (last ∙ h) early
        by None last h = up_to (parent_of s p) refl last h

    pub comes_first : i < k
    comes_first = by (nat_lt i k) refl
      where
        is_less : (x y : ℕ) → nat_lt x y ≡ true → x < y
        is_less x y f = grind (arith, nat_tests, f)

        differ : (b : Bool) → nat_eq i k ≡ b → k ≤ i → ⊥
        differ true e le = no_both (is_a s p_declarator i) (ap (is_a s p_declarator) (eqb-true i k e) ∙ stands.1) (apart s i p_init p_declarator is refl)
        differ false e le = not_early (is_above i k e le)
          where
            is_above : (x y : ℕ) → nat_eq x y ≡ false → y ≤ x → y < x
            is_above x y f g = grind (arith, nat_tests, f, g)

        by : (b : Bool) → nat_lt i k ≡ b → i < k
        by true e = is_less i k e
        by false e = absurd (differ (nat_eq i k) refl (not_before i k e))

pub initialisers_earlier : InitialisersEarlier
unfolding source_of
initialisers_earlier tokens unit tree tag_number cut is sense init p declarator k init_is parent rest by_it stands behind_it =
    let s : Source = numbered tag_number (source_of tokens tree) in
    let read = is.0 in
    let grown : Grown s = grown_read tokens tree tag_number (begin 0 no_names []) read.0 refl refl read.1 read.2 in
    comes_first s grown (units_nest tokens unit tree tag_number is) (units_families tokens unit tree tag_number cut is) (parts_follow tokens unit tree tag_number is) (units_are_spanned tokens unit tree tag_number is) (units_bring tokens unit tree tag_number is) sense init p declarator k init_is parent rest by_it stands behind_it
