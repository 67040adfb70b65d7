-- Functions that are defined by one block are one.
use Rattle.std.proofs.Common.{arith, ◌≡◌, ◌≤◌, ◌+◌, ◌==◌, ℕ, zero, suc, nat_eq, not, ◌&&◌, ◌||◌, Bool, true, false, cond, List, [], ◌∷◌, Option, Some, None, length, slice_get, eq-eqb, refl, sym, ap, ◌∙◌, subst, ◌⊎◌, inl, inr}
use Rattle.std.specs.Prelude.{is_some, is_none, option_map, option_and_then, if◌then◌else◌}
use Rattle.std.proofs.lemmas.Bool.{eqb-true, eqb-false}
use Rattle.c_grammar.specs.Names.{no_names}
use Rattle.c_grammar.specs.Productions.{p_external, p_rest, p_field, p_block, p_declarator, p_abstract, p_either}
use Rattle.c_grammar.specs.Terminals.{contains}
use Rattle.c_grammar.specs.Words.{word_extern}
use Rattle.c_parser.specs.Parse.{begin}
use Rattle.c_types.specs.Trees.{Ctype}
use Rattle.core_tree.specs.declared.node.Storage.{Storage}
use Rattle.core_tree.specs.declared.node.Storage.TheVariants.{FunctionBody, Declared as DeclaredStorage, Static, Automatic, Parameter}
use Rattle.core_tree.specs.declared.node.Linkage.{Linkage}
use Rattle.core_tree.specs.declared.node.Linkage.TheVariants.{Internal, External, Local}
use Rattle.c_scope.specs.declared.kinds.Declared.{Declared as Declaration}
use Rattle.c_senses.specs.Names.{source_of, numbered, ordinary_at, entry_of, names_type}
use Rattle.c_senses.specs.Tree.{Source, is_a, child_of, children_at, parent_of, first_where, all_where, all_nodes}
use Rattle.c_senses.specs.Sense.{Sense, IsDeclarator, Derivation, sense_in}
use Rattle.c_senses.specs.Rows.{AreSenses}
use Rattle.c_senses.specs.Declarators.{outermost_of, is_outermost, is_declarator, declaration_around}
use Rattle.c_senses.specs.Entities.{keep, first_of, is_internal, is_internal_of, internal_among, is_linked, entity_of, linkage_of, storage_of, is_parameter, is_static_object, has_storage, initialiser_for, declares_function, is_defined, is_typedef, declaration_of}
use Rattle.c_senses.specs.Right.{Declared, declared_name, declares_entity, is_declaring, stands_in_declaration, declared_as, entity_type, representative, of_internal, is_tentative, is_definition_at, storage_at, block_for}
use Rattle.core_node_laws.proofs.count_laws.passed.parsed_tree_laws.placed_laws.Climbing.{Grown, IsNamedPart}
use Rattle.core_node_laws.proofs.count_laws.passed.parsed_tree_laws.placed_laws.Growing.{grown_read}
use Rattle.core_node_laws.specs.count_laws.passed.parsed_tree_laws.nesting_laws.Nested.{Nested}
use Rattle.core_node_laws.proofs.count_laws.passed.parsed_tree_laws.nesting_laws.Nesting.{units_nest}
use Rattle.core_node_laws.specs.count_laws.passed.parsed_tree_laws.counted_parts.Counted.{is_ending, is_inner, CountedParts}
use Rattle.core_node_laws.proofs.count_laws.passed.parsed_tree_laws.counted_parts.Read.{parts_are_counted}
use Rattle.declaration_laws.specs.definition_laws.scope_laws.Scoped.{Rooted, DeclaredOnce}
use Rattle.declaration_laws.proofs.definition_laws.scope_laws.Whole.{names_declared_once}
use Rattle.core_node_laws.specs.count_laws.once_nodes.Once.{BlocksDiffer}
use Rattle.declaration_laws.specs.definition_laws.block_laws.Blocks.{UnitsBlocksDiffer}
use Rattle.declaration_laws.proofs.definition_laws.block_laws.Naming.{declares, outermost_declares}

some_one : {A : Type 0} → {x y : A} → ◌≡◌ {A = Option A} (Some x) (Some y) → x ≡ y
some_one e = cc

both : (a b : Bool) → (a && b) ≡ true → (a ≡ true) × (b ≡ true)
both true b e = (refl, e)
both false b e = cc

or_left : (a b : Bool) → a ≡ true → (a || b) ≡ true
or_left true b e = refl
or_left false b e = cc

or_right : (a b : Bool) → b ≡ true → (a || b) ≡ true
or_right true b e = refl
or_right false b e = e

-- ---- parts

module _ (s : Source) where
  abbrev IsIn : List ℕ → ℕ → Type 0
  IsIn list c = (k : ℕ) × (slice_get list k ≡ Some c)

  in_list : (list : List ℕ) (i : ℕ) → contains list i ≡ true → IsIn list i
  in_list [] i h = cc
  in_list (x ∷ list) i h = by (in_list list i) (nat_eq x i) refl h
    where
      by : (contains list i ≡ true → IsIn list i) → (b : Bool) → nat_eq x i ≡ b → (b || contains list i) ≡ true → IsIn (x ∷ list) i
      by rest true e h = (0, ap Some (eqb-true x i e))
      by rest false e h = let more = rest h in (suc more.0, more.1)

  found_where : (test : ℕ → Bool) (ks : List ℕ) (x : ℕ) → first_where test ks ≡ Some x → (test x ≡ true) × IsIn ks x
  found_where test [] x e = cc
  found_where test (k ∷ ks) x e = by (test k) refl e (found_where test ks x)
    where
      by : (b : Bool) → test k ≡ b → (if b then Some k else first_where test ks) ≡ Some x → (first_where test ks ≡ Some x → (test x ≡ true) × IsIn ks x) → (test x ≡ true) × IsIn (k ∷ ks) x
      by true is e f = let same : k ≡ x = cc in (subst (λ (y : ℕ). test y ≡ true) same is, (0, ap Some same))
      by false is e f = let g = f e in (g.0, (suc g.1.0, g.1.1))

  child_of_parent : (p c : ℕ) → parent_of s c ≡ Some p → contains (children_at s p) c ≡ true
  child_of_parent p c e = (found_where (λ (q : ℕ). contains (children_at s q) c) (all_nodes s) p e).0

  apart : (p q c : ℕ) → (p == q) ≡ false → is_a s p c ≡ true → is_a s q c ≡ false
  apart p q c differ e = ap (λ (x : ℕ). x == q) (eqb-true _ p e) ∙ differ

-- numbers of a list that pass a test
counted_more : (b : Bool) (k : ℕ) (ks : List ℕ) (n : ℕ) → n ≤ length ks → n ≤ length (if b then k ∷ ks else ks)
counted_more true k ks n h = omega (arith, h)
counted_more false k ks n h = h

counted_own : (b : Bool) (k : ℕ) (ks : List ℕ) (n : ℕ) → b ≡ true → n ≤ length ks → n + 1 ≤ length (if b then k ∷ ks else ks)
counted_own true k ks n e h = omega (arith, h)
counted_own false k ks n e h = cc

some_counted : (test : ℕ → Bool) (ks : List ℕ) (k x : ℕ) → slice_get ks k ≡ Some x → test x ≡ true → 1 ≤ length (all_where test ks)
some_counted test [] k x e h = cc
some_counted test (y ∷ ks) zero x e h = let same : y ≡ x = cc in let own = counted_own (test y) y (all_where test ks) 0 (subst (λ (z : ℕ). test z ≡ true) (sym same) h) (omega arith) in omega (arith, own)
some_counted test (y ∷ ks) (suc k) x e h = counted_more (test y) y (all_where test ks) 1 (some_counted test ks k x e h)

two_counted : (test : ℕ → Bool) (ks : List ℕ) (j k x y : ℕ) → slice_get ks j ≡ Some x → slice_get ks k ≡ Some y → test x ≡ true → test y ≡ true → (x ≡ y → ⊥) → 2 ≤ length (all_where test ks)
two_counted test [] j k x y e f h i differ = cc
two_counted test (z ∷ ks) zero zero x y e f h i differ = let same : x ≡ y = cc in absurd (differ same)
two_counted test (z ∷ ks) zero (suc k) x y e f h i differ = let same : z ≡ x = cc in let own = counted_own (test z) z (all_where test ks) 1 (subst (λ (a : ℕ). test a ≡ true) (sym same) h) (some_counted test ks k y f i) in omega (arith, own)
two_counted test (z ∷ ks) (suc j) zero x y e f h i differ = let same : z ≡ y = cc in let own = counted_own (test z) z (all_where test ks) 1 (subst (λ (a : ℕ). test a ≡ true) (sym same) i) (some_counted test ks j x e h) in omega (arith, own)
two_counted test (z ∷ ks) (suc j) (suc k) x y e f h i differ = counted_more (test z) z (all_where test ks) 2 (two_counted test ks j k x y e f h i differ)

-- ---- lists of declarations

abbrev In : List Declaration → Declaration → Type 0
In ds d = (k : ℕ) × (slice_get ds k ≡ Some d)

entry_in : (ds : List Declaration) (leaf : ℕ) (d : Declaration) → entry_of ds leaf ≡ Some d → In ds d × (d.node ≡ leaf)
entry_in [] leaf d e = cc
entry_in (x ∷ xs) leaf d e = by (x.node == leaf) refl e (λ f. entry_in xs leaf d f)
  where
    by : (b : Bool) → nat_eq x.node leaf ≡ b → cond b (Some x) (entry_of xs leaf) ≡ Some d → (entry_of xs leaf ≡ Some d → In xs d × (d.node ≡ leaf)) → In (x ∷ xs) d × (d.node ≡ leaf)
    by true is e later = let same : x ≡ d = cc in ((0, ap (λ (y : Declaration). Some y) same), subst (λ (y : Declaration). y.node ≡ leaf) same (eqb-true x.node leaf is))
    by false is e later = let h = later e in ((suc h.0.0, h.0.1), h.1)

entry_found : (ds : List Declaration) (d : Declaration) → In ds d → (y : Declaration) × (entry_of ds d.node ≡ Some y)
entry_found [] d (k, e) = cc
entry_found (x ∷ xs) d (k, e) = by (x.node == d.node) refl k e (λ j f. entry_found xs d (j, f))
  where
    same_no : nat_eq x.node d.node ≡ false → x ≡ d → ⊥
    same_no off same = eqb-false x.node d.node off (ap (λ (y : Declaration). y.node) same)

    by : (b : Bool) → nat_eq x.node d.node ≡ b → (k : ℕ) → slice_get (x ∷ xs) k ≡ Some d → ((j : ℕ) → slice_get xs j ≡ Some d → (y : Declaration) × (entry_of xs d.node ≡ Some y)) → (y : Declaration) × (cond b (Some x) (entry_of xs d.node) ≡ Some y)
    by true is k e later = (x, refl)
    by false is zero e later = absurd (same_no is (let same : x ≡ d = cc in same))
    by false is (suc k) e later = later k e

module _ (s : Source) (senses : List Sense) where
  abbrev S : ℕ → Sense
  S i = sense_in senses i

  keep_in : (test : Declaration → Bool) (ds : List Declaration) (d : Declaration) → In (keep s S test ds) d → In ds d × (test d ≡ true)
  keep_in test [] d h = absurd (let e = h.1 in let never : ◌≡◌ {A = Option Declaration} None (Some d) = e in none_some never)
    where
      none_some : {x : Declaration} → ◌≡◌ {A = Option Declaration} None (Some x) → ⊥
      none_some e = cc
  keep_in test (x ∷ xs) d h = by (test x) refl h (λ g. keep_in test xs d g)
    where
      by : (b : Bool) → test x ≡ b → In (if b then x ∷ keep s S test xs else keep s S test xs) d → (In (keep s S test xs) d → In xs d × (test d ≡ true)) → In (x ∷ xs) d × (test d ≡ true)
      by true is (zero, e) later = let same : x ≡ d = cc in ((0, ap (λ (y : Declaration). Some y) same), subst (λ (y : Declaration). test y ≡ true) same is)
      by true is (suc k, e) later = let g = later (k, e) in ((suc g.0.0, g.0.1), g.1)
      by false is h later = let g = later h in ((suc g.0.0, g.0.1), g.1)

  first_same : (x z : ℕ) (ds : List Declaration) (y : Declaration) → In ds y → first_of s S x ds ≡ first_of s S z ds
  first_same x z [] y h = absurd (none_some h.1)
    where
      none_some : {x : Declaration} → ◌≡◌ {A = Option Declaration} None (Some x) → ⊥
      none_some e = cc
  first_same x z (d ∷ ds) y h = refl

  -- of the declarations of an internal name, the representative is one, or the leaf itself
  abbrev Chosen : ℕ → List Declaration → ℕ → Type 0
  Chosen c all x = (x ≡ c) ⊎ ((y : Declaration) × In all y × (x ≡ y.node))

  step : (c : ℕ) (all some : List Declaration) (x : ℕ) → ((y : Declaration) → In some y → In all y) → Chosen c all x → Chosen c all (first_of s S x some)
  step c all [] x sub h = h
  step c all (d ∷ some) x sub h = inr (d, sub d (0, refl), refl)

  abbrev told : ℕ → Linkage → ℕ
  told c linkage =
      elim linkage as (λ _. ℕ) [
        | Internal ↦ first_of s S (first_of s S c (keep s S (is_tentative s senses) (of_internal s senses c))) (keep s S (is_definition_at s senses) (of_internal s senses c))
        | _ ↦ c
      ]

  chosen_in : (c : ℕ) → linkage_of s S c ≡ Internal → Chosen c (of_internal s senses c) (representative s senses c)
  chosen_in c is = by (linkage_of s S c) is
    where
      by : (linkage : Linkage) → linkage ≡ Internal → Chosen c (of_internal s senses c) (told c linkage)
      by Internal e =
          step c (of_internal s senses c) (keep s S (is_definition_at s senses) (of_internal s senses c)) (first_of s S c (keep s S (is_tentative s senses) (of_internal s senses c))) (λ y h. (keep_in (is_definition_at s senses) (of_internal s senses c) y h).0)
          (step c (of_internal s senses c) (keep s S (is_tentative s senses) (of_internal s senses c)) c (λ y h. (keep_in (is_tentative s senses) (of_internal s senses c) y h).0) (inl refl))
      by External e = cc
      by Local e = cc

  own_leaf : (c : ℕ) → (linkage_of s S c ≡ Internal → ⊥) → representative s senses c ≡ c
  own_leaf c other = by (linkage_of s S c) other
    where
      by : (linkage : Linkage) → (linkage ≡ Internal → ⊥) → told c linkage ≡ c
      by Internal other = absurd (other refl)
      by External other = refl
      by Local other = refl

  internal_is : (c : ℕ) → linkage_of s S c ≡ Internal → is_internal s S c ≡ true
  internal_is c e = by (is_internal s S c) (is_linked s S c) e
    where
      by : (a b : Bool) → (if a then Internal else (if b then External else Local)) ≡ Internal → a ≡ true
      by true b e = refl
      by false true e = cc
      by false false e = cc

  -- where a leaf is internal its entity is that of the first of its declarations
  internal_entity : (r : ℕ) → is_internal s S r ≡ true → entity_of s S r ≡ first_of s S r (internal_among s S s.declared.ordinary (ordinary_at s r))
  internal_entity r e = by (is_internal s S r) e
    where
      by : (b : Bool) → b ≡ true → (if b then first_of s S r (internal_among s S s.declared.ordinary (ordinary_at s r)) else r) ≡ first_of s S r (internal_among s S s.declared.ordinary (ordinary_at s r))
      by true e = refl
      by false e = cc

  module _ (once : DeclaredOnce s) where
    -- the representative has the leaf's entity
    same_entity : (c : ℕ) (y : Declaration) → is_internal s S c ≡ true → In (of_internal s senses c) y → entity_of s S y.node ≡ entity_of s S c
    same_entity c y internal at = by (ordinary_at s c) refl at
      where
        one_entry : (found : Declaration) → In s.declared.ordinary found → In s.declared.ordinary y → found.node ≡ y.node → found ≡ y
        one_entry found a b e = let place = once.names a.0 b.0 found y a.1 b.1 e in some_one (sym a.1 ∙ (ap (slice_get s.declared.ordinary) place ∙ b.1))

        by : (o : Option Declaration) → ordinary_at s c ≡ o → In (internal_among s S s.declared.ordinary o) y → entity_of s S y.node ≡ entity_of s S c
        by None e h = absurd (none_some h.1)
          where
            none_some : {x : Declaration} → ◌≡◌ {A = Option Declaration} None (Some x) → ⊥
            none_some e = cc
        by (Some d) e h =
            let kept = keep_in (is_internal_of s S d.symbol) s.declared.ordinary y h in
            let parts = both (y.symbol == d.symbol) (is_internal s S y.node) kept.1 in
            let (found, is) = entry_found s.declared.ordinary y kept.0 in
            let where_found = entry_in s.declared.ordinary y.node found is in
            let same : found ≡ y = one_entry found where_found.0 kept.0 where_found.1 in
            let symbol : y.symbol ≡ d.symbol = eqb-true y.symbol d.symbol parts.0 in
            let own : ordinary_at s y.node ≡ Some y = is ∙ ap (λ (z : Declaration). Some z) same in
            let list : internal_among s S s.declared.ordinary (ordinary_at s y.node) ≡ internal_among s S s.declared.ordinary (ordinary_at s c) =
            ap (internal_among s S s.declared.ordinary) own ∙ (ap (λ (k : ℕ). keep s S (is_internal_of s S k) s.declared.ordinary) symbol ∙ ap (internal_among s S s.declared.ordinary) (sym e)) in
            internal_entity y.node parts.1 ∙ (ap (first_of s S y.node) list ∙ (first_same y.node c (internal_among s S s.declared.ordinary (ordinary_at s c)) y (subst (λ (o : Option Declaration). In (internal_among s S s.declared.ordinary o) y) (sym e) h) ∙ sym (internal_entity c internal)))

    rep_entity : (c : ℕ) → entity_of s S (representative s senses c) ≡ entity_of s S c
    rep_entity c = by (linkage_of s S c) refl
      where
        of_internals : linkage_of s S c ≡ Internal → Chosen c (of_internal s senses c) (representative s senses c) → entity_of s S (representative s senses c) ≡ entity_of s S c
        of_internals is (inl e) = ap (entity_of s S) e
        of_internals is (inr (y, at, e)) = ap (entity_of s S) e ∙ same_entity c y (internal_is c is) at

        by : (linkage : Linkage) → linkage_of s S c ≡ linkage → entity_of s S (representative s senses c) ≡ entity_of s S c
        by Internal is = of_internals is (chosen_in c is)
        by External is = ap (entity_of s S) (own_leaf c (λ e. let never : External ≡ Internal = sym is ∙ e in absurd (cc)))
        by Local is = ap (entity_of s S) (own_leaf c (λ e. let never : Local ≡ Internal = sym is ∙ e in absurd (cc)))

-- ---- storage

module _ (s : Source) (senses : List Sense) where
  -- what has the storage of a function's body is a function
  function_of : (r : ℕ) → storage_of s (S s senses) r ≡ FunctionBody → declares_function s (S s senses) r ≡ true
  function_of r h = by (is_parameter s (S s senses) r) (declares_function s (S s senses) r) (is_defined s (S s senses) r) (has_storage s (S s senses) word_extern r && is_none (initialiser_for s (S s senses) r)) (is_static_object s (S s senses) r) h
    where
      by : (p f d e t : Bool) → (if p then Parameter else if f then (if d then FunctionBody else DeclaredStorage) else if e then DeclaredStorage else if t then Static else Automatic) ≡ FunctionBody → f ≡ true
      by true f d e t h = cc
      by false true d e t h = refl
      by false false d true t h = cc
      by false false d false true h = cc
      by false false d false false h = cc

  kept_storage : (x : Storage) (function : Bool) → (elim x as (λ _. Storage) [ DeclaredStorage ↦ if function then DeclaredStorage else Static | other ↦ other ]) ≡ FunctionBody → x ≡ FunctionBody
  kept_storage FunctionBody function h = refl
  kept_storage DeclaredStorage true h = cc
  kept_storage DeclaredStorage false h = cc
  kept_storage Static function h = cc
  kept_storage Automatic function h = cc
  kept_storage Parameter function h = cc

  own_storage : (d : ℕ) → storage_at s senses d ≡ FunctionBody → storage_of s (S s senses) (representative s senses d) ≡ FunctionBody
  own_storage d h = by (linkage_of s (S s senses) d) refl h
    where
      by : (linkage : Linkage) → linkage_of s (S s senses) d ≡ linkage
          → (elim linkage as (λ _. Storage) [
            | Internal ↦ (elim (storage_of s (S s senses) (representative s senses d)) as (λ _. Storage) [ DeclaredStorage ↦ if declares_function s (S s senses) d then DeclaredStorage else Static | other ↦ other ])
            | _ ↦ storage_of s (S s senses) d
          ]) ≡ FunctionBody
          → storage_of s (S s senses) (representative s senses d) ≡ FunctionBody
      by Internal is h = kept_storage (storage_of s (S s senses) (representative s senses d)) (declares_function s (S s senses) d) h
      by External is h = let same = own_leaf s senses d (λ e. let never : External ≡ Internal = sym is ∙ e in absurd (cc)) in subst (λ (x : ℕ). storage_of s (S s senses) x ≡ FunctionBody) (sym same) h
      by Local is h = let same = own_leaf s senses d (λ e. let never : Local ≡ Internal = sym is ∙ e in absurd (cc)) in subst (λ (x : ℕ). storage_of s (S s senses) x ≡ FunctionBody) (sym same) h

  declared_is : (c : ℕ) (what : Declared) → declared_name s senses c ≡ Some what → (declares_entity s senses c ≡ true) × (what.storage ≡ storage_at s senses c)
  declared_is c what e = by (declares_entity s senses c) (entity_type s senses c) e
    where
      by : (b : Bool) (o : Option Ctype) → (if b then option_map (declared_as s senses c) o else None) ≡ Some what → (b ≡ true) × (what.storage ≡ storage_at s senses c)
      by true (Some t) e = (refl, sym (ap (λ (x : Declared). x.storage) (some_one e)))
      by true None e = cc
      by false o e = cc

  entity_is : (c : ℕ) → declares_entity s senses c ≡ true → entity_of s (S s senses) c ≡ c
  entity_is c e =
      let a = both (is_declaring s senses c) (stands_in_declaration s senses c && (not (is_typedef s (S s senses) c) && (entity_of s (S s senses) c == c))) e in
      let b = both (stands_in_declaration s senses c) (not (is_typedef s (S s senses) c) && (entity_of s (S s senses) c == c)) a.1 in
      let d = both (not (is_typedef s (S s senses) c)) (entity_of s (S s senses) c == c) b.1 in
      eqb-true (entity_of s (S s senses) c) c d.1

  -- a function is in the table of names
  entered : (r : ℕ) → declares_function s (S s senses) r ≡ true → (y : Declaration) × (ordinary_at s r ≡ Some y) × (y.is_function ≡ true)
  entered r e = by (ordinary_at s r) refl e
    where
      by : (o : Option Declaration) → ordinary_at s r ≡ o → (elim o as (λ _. Bool) [ None ↦ false | Some d ↦ d.is_function && not (names_type d) ]) ≡ true → (y : Declaration) × (ordinary_at s r ≡ Some y) × (y.is_function ≡ true)
      by None is e = cc
      by (Some d) is e = (d, is, (both d.is_function (not (names_type d)) e).0)

  module _ (grown : Grown s) (counted : CountedParts s) (once : DeclaredOnce s) (are : AreSenses s senses) (whole : length senses ≡ length s.nodes) where
    -- the declarator of a function that a block defines
    record Defines (r b p : ℕ) : Type 0 where
      o : ℕ
      child : contains (children_at s p) o ≡ true
      declarator : is_a s p_declarator o ≡ true
      external : is_a s p_external p ≡ true
      block : child_of s p_block p ≡ Some b
      names : (ds : List Derivation) × (S s senses o ≡ IsDeclarator (Some r) ds)

    is_one_of : (o : ℕ) → is_outermost s o ≡ true → is_inner s o ≡ false → is_a s p_declarator o ≡ true
    is_one_of o outer off = by (is_a s p_declarator o) (is_a s p_abstract o) (is_a s p_either o) (is_a s p_field o) (both (is_declarator s o) _ outer).0 off
      where
        by : (a b c d : Bool) → (a || b || c) ≡ true → (d || (b || c)) ≡ false → a ≡ true
        by true b c d h off = refl
        by false true c true h off = cc
        by false true c false h off = cc
        by false false true true h off = cc
        by false false true false h off = cc
        by false false false d h off = cc

    not_inner : (p c : ℕ) → is_a s p_external p ≡ true → contains (children_at s p) c ≡ true → is_inner s c ≡ false
    not_inner p c external child = by (is_inner s c) refl
      where
        by : (b : Bool) → is_inner s c ≡ b → b ≡ false
        by true e =
            let at = in_list s (children_at s p) c child in
            let some = some_counted (is_inner s) (children_at s p) at.0 c at.1 e in
            let none = counted.inner p external in
            absurd (omega (arith, some, none))
        by false e = refl

    -- beside a block stands no rest of a declaration
    no_rest : (p b q : ℕ) → is_a s p_external p ≡ true → child_of s p_block p ≡ Some b → contains (children_at s p) q ≡ true → is_a s p_rest q ≡ true → ⊥
    no_rest p b q external block child rest =
        let found = found_where s (is_a s p_block) (children_at s p) b block in
        let at = in_list s (children_at s p) q child in
        let two = two_counted (is_ending s) (children_at s p) at.0 found.1.0 q b at.1 found.1.1 (or_right (is_a s p_block q) (is_a s p_rest q) rest) (or_left (is_a s p_block b) (is_a s p_rest b) found.0)
        (λ same. let off = apart s p_rest p_block q refl rest in let never : true ≡ false = sym found.0 ∙ (ap (is_a s p_block) (sym same) ∙ off) in cc) in
        let few = counted.endings p external in
        omega (arith, two, few)

    defines : (r b : ℕ) → declares_function s (S s senses) r ≡ true → is_defined s (S s senses) r ≡ true → block_for s senses r ≡ Some b → (p : ℕ) × Defines r b p
    defines r b function defined block = by_declaration (declaration_of s (S s senses) r) refl defined block
      where
        named : IsNamedPart s r
        named = let (y, at, is) = entered r function in grown.named r y at is

        outer : (p o q : ℕ) → is_a s p_external p ≡ true → child_of s p_block p ≡ Some b → outermost_of s r ≡ Some o → parent_of s o ≡ Some q → declaration_around s q ≡ Some p → Defines r b p
        outer p o q external block at parent around =
            let same = by (is_a s p_rest q) refl (is_a s p_field q) refl around in
            let child = subst (λ (x : ℕ). contains (children_at s x) o ≡ true) same (child_of_parent s q o parent) in
            record {
              o = o;
              child = child;
              declarator = is_one_of o (outermost_declares s senses grown are whole r o named at) (not_inner p o external child);
              external = external;
              block = block;
              names = declares s senses grown are whole r o named at;
            }
          where
            by : (x : Bool) → is_a s p_rest q ≡ x → (y : Bool) → is_a s p_field q ≡ y → (if x || y then parent_of s q else Some q) ≡ Some p → q ≡ p
            by true ex y ey e = absurd (no_rest p b q external block (child_of_parent s p q e) ex)
            by false ex true ey e =
                let off = not_inner p q external (child_of_parent s p q e) in
                let on = or_left (is_a s p_field q) (is_a s p_abstract q || is_a s p_either q) ey in
                absurd (let never : true ≡ false = sym on ∙ off in cc)
            by false ex false ey e = some_one e

        by_parent : (p o : ℕ) → is_a s p_external p ≡ true → child_of s p_block p ≡ Some b → outermost_of s r ≡ Some o → (w : Option ℕ) → parent_of s o ≡ w → option_and_then (declaration_around s) w ≡ Some p → Defines r b p
        by_parent p o external block at None e h = cc
        by_parent p o external block at (Some q) e h = outer p o q external block at e h

        by_outer : (p : ℕ) → is_a s p_external p ≡ true → child_of s p_block p ≡ Some b → (w : Option ℕ) → outermost_of s r ≡ w → option_and_then (declaration_around s) (option_and_then (parent_of s) w) ≡ Some p → Defines r b p
        by_outer p external block None e h = cc
        by_outer p external block (Some o) e h = by_parent p o external block e (parent_of s o) refl h

        by_declaration : (w : Option ℕ) → declaration_of s (S s senses) r ≡ w → (elim w as (λ _. Bool) [ None ↦ false | Some p ↦ is_a s p_external p && is_some (child_of s p_block p) ]) ≡ true → option_and_then (child_of s p_block) w ≡ Some b → (p : ℕ) × Defines r b p
        by_declaration None e d h = cc
        by_declaration (Some p) e d h = let parts = both (is_a s p_external p) (is_some (child_of s p_block p)) d in (p, by_outer p parts.0 h (outermost_of s r) refl e)

    -- one block, one declarator, one name
    one_name : (r q b x y : ℕ) → Defines r b x → Defines q b y → r ≡ q
    one_name r q b x y a c =
        let block = found_where s (is_a s p_block) (children_at s x) b a.block in
        let other = found_where s (is_a s p_block) (children_at s y) b c.block in
        let same : x ≡ y = grown.once x y b (list_in (children_at s x) block.1.0 b block.1.1) (list_in (children_at s y) other.1.0 b other.1.1) in
        let child = subst (λ (z : ℕ). contains (children_at s z) c.o ≡ true) (sym same) c.child in
        let first = in_list s (children_at s x) a.o a.child in
        let second = in_list s (children_at s x) c.o child in
        let one = only (nat_eq a.o c.o) refl first second in
        named_one (sym a.names.1 ∙ (ap (S s senses) one ∙ c.names.1))
      where
        list_in : (list : List ℕ) (k i : ℕ) → slice_get list k ≡ Some i → contains list i ≡ true
        list_in [] k i h = cc
        list_in (x ∷ list) zero i h = let same : x ≡ i = cc in ap (λ (b : Bool). b || contains list i) (eq-eqb x i same)
        list_in (x ∷ list) (suc k) i h = more (nat_eq x i) (list_in list k i h)
          where
            more : (b : Bool) → contains list i ≡ true → (b || contains list i) ≡ true
            more true e = refl
            more false e = e

        named_one : {ds es : List Derivation} → IsDeclarator (Some r) ds ≡ IsDeclarator (Some q) es → r ≡ q
        named_one e = cc

        only : (t : Bool) → nat_eq a.o c.o ≡ t → (k : ℕ) × (slice_get (children_at s x) k ≡ Some a.o) → (j : ℕ) × (slice_get (children_at s x) j ≡ Some c.o) → a.o ≡ c.o
        only true e f g = eqb-true a.o c.o e
        only false e f g =
            let two = two_counted (is_a s p_declarator) (children_at s x) f.0 g.0 a.o c.o f.1 g.1 a.declarator c.declarator (eqb-false a.o c.o e) in
            let few = counted.declarators x a.external in
            absurd (omega (arith, two, few))

    pub differ : BlocksDiffer s senses
    differ = record { once = λ c d b what other nc nd sc sd dc dd bc bd. one c d b what other nc nd sc sd dc dd bc bd }
      where
        one : (c d b : ℕ) (what other : Declared) → declared_name s senses c ≡ Some what → declared_name s senses d ≡ Some other → what.storage ≡ FunctionBody → other.storage ≡ FunctionBody → is_defined s (S s senses) (representative s senses c) ≡ true → is_defined s (S s senses) (representative s senses d) ≡ true
            → block_for s senses (representative s senses c) ≡ Some b → block_for s senses (representative s senses d) ≡ Some b → c ≡ d
        one c d b what other nc nd sc sd dc dd bc bd =
            let x = declared_is c what nc in
            let y = declared_is d other nd in
            let f = defines (representative s senses c) b (function_of (representative s senses c) (own_storage c (sym x.1 ∙ sc))) dc bc in
            let g = defines (representative s senses d) b (function_of (representative s senses d) (own_storage d (sym y.1 ∙ sd))) dd bd in
            let same = one_name (representative s senses c) (representative s senses d) b f.0 g.0 f.1 g.1 in
            sym (entity_is c x.0) ∙ (sym (rep_entity s senses once c) ∙ (ap (entity_of s (S s senses)) same ∙ (rep_entity s senses once d ∙ entity_is d y.0)))

pub blocks_differ : UnitsBlocksDiffer
blocks_differ tokens unit tree tag_number senses is are whole =
    let s : Source = numbered tag_number (source_of tokens tree) in
    let read = is.0 in
    let grown : Grown s = grown_read tokens tree tag_number (begin 0 no_names []) read.0 refl refl read.1 read.2 in
    let nested : Nested s = units_nest tokens unit tree tag_number is in
    let rooted : Rooted s = record { before = grown.before; single = grown.once; externals = nested.externals; units = nested.units } in
    differ s senses grown (parts_are_counted tokens unit tree tag_number is) (names_declared_once tokens tree tag_number rooted) are whole
