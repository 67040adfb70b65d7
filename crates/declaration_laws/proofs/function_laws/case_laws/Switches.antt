-- In the tree of a switch each number has one case.
use Rattle.std.proofs.Common.{arith, ◌≡◌, ◌<◌, ◌≤◌, ◌+◌, ℕ, zero, suc, nat_eq, nat_lt, Bool, true, false, ◌&&◌, ◌||◌, cond, List, [], ◌∷◌, take, length, get_or, Option, Some, None, slice_get, refl, sym, ap, ◌∙◌, subst, ◌⊎◌, inl, inr}
use Rattle.std.specs.Prelude.{ℤ, if◌then◌else◌}
use Rattle.std.specs.Ordering.{int_eq}
use Rattle.std.proofs.lemmas.Bool.{eqb-true, eqb-false, ltb-true, ltb-false}
use Rattle.std.proofs.lemmas.Bool.Decides.{Decides-int_eq}
use Rattle.pta_base.specs.declared.kind.Kind.TheVariants.{Operand}
use Rattle.core_tree.specs.declared.node.NodeKind.{NodeKind}
use Rattle.core_tree.specs.declared.node.NodeKind.TheVariants.{Switch, Case, Default}
use Rattle.core_tree.specs.Rows.{Has}
use Rattle.c_grammar.specs.Productions.{p_unit, p_external, p_block, p_statement, p_expression}
use Rattle.c_grammar.specs.Words.{word_case, word_default, word_switch}
use Rattle.c_grammar.specs.Terminals.{contains}
use Rattle.c_consts.specs.Core.{Core, Cores, Of, kind_of, cores_under}
use Rattle.c_senses.specs.Tree.{Source, is_a, is_leaf, has_word, is_number, word_at, production_at, children_at, first_where, all_where, any_where, parent_of, above_within, nearest_above, numbers_from, all_nodes}
use Rattle.c_senses.specs.Given.{Given, Fits, Refuses, ◌>>=◌}
use Rattle.c_senses.specs.World.{World}
use Rattle.c_senses.specs.Sense.{Sense, Nothing, IsCore, sense_in, fits}
use Rattle.c_senses.specs.Rows.{AreSenses}
use Rattle.c_senses.specs.Statements.{statement_row, leaf_statement, expression_statement, expression_in, switched, case_value, is_default, in_switch, is_case_again, is_default_again}
use Rattle.parsed_tree_laws.specs.family_laws.Families.{IsChild, Ascend}
use Rattle.parsed_tree_laws.specs.sense_laws.Sound.{Gives}
use Rattle.parsed_tree_laws.specs.counted_parts.Counted.{count, CountedParts}
use Rattle.parsed_tree_laws.specs.ordered_parts.Ordered.{Beneath, itself, under, Follows}
use Rattle.parsed_tree_laws.specs.statement_shapes.Shaped.{ShapedStatements}
use Rattle.declaration_laws.specs.passed.core_node_laws.standing_laws.Standing.{IsGrown, RunsInitialise}
use Rattle.declaration_laws.proofs.passed.core_node_laws.standing_laws.Climbing.{found_where, in_list, list_in, parent_is, parent_holds}
use Rattle.declaration_laws.proofs.passed.core_node_laws.standing_laws.Kept.{opens}
use Rattle.declaration_laws.proofs.passed.core_node_laws.standing_laws.Enclosing.{EnclosesSense, switches_stop}
use Rattle.declaration_laws.proofs.passed.core_node_laws.standing_laws.Descending.{F, W, row_there, sense_before, child_before, same_given}
use Rattle.declaration_laws.proofs.passed.core_node_laws.marked_trees.Beneath.{ascend_where, ascend_take, ascend_above, has_where, beneath_small}
use Rattle.declaration_laws.proofs.passed.core_node_laws.marked_trees.Marks.{marking, IsPlain, marks_all}
use Rattle.declaration_laws.proofs.passed.core_node_laws.marked_trees.Trees.{stands_within, Shape, statement_shape, block_shape, statements_of, statement_child, take_has, one_of, few_marks}
use Rattle.declaration_laws.proofs.function_laws.case_laws.Tested.{IsFit, TellsKind, Tells, leaf_tells, is_telling, expression_quiet, switched_again}

-- ---- the cases of one number

abbrev pub is_switch : NodeKind → Bool
is_switch Switch = true
is_switch kind = false

abbrev pub is_case : Option ℤ → NodeKind → Bool
is_case (Some n) (Case m) = int_eq m n
is_case None Default = true
is_case x kind = false

pub case_plain : (x : Option ℤ) → IsPlain (marking (is_case x))
case_plain (Some n) (Case m) parts e = cc
case_plain None Default parts e = cc
case_plain (Some n) kind parts e = refl
case_plain None kind parts e = refl

-- two or more of them
abbrev pub heavy : ℕ → ℕ
heavy zero = 0
heavy (suc zero) = 0
heavy (suc (suc n)) = 1

pub heavy_none : (n : ℕ) → n ≤ 1 → heavy n ≡ 0
heavy_none zero h = refl
heavy_none (suc zero) h = refl
heavy_none (suc (suc n)) h = absurd (omega (arith, h))

pub none_heavy : (n : ℕ) → heavy n ≡ 0 → n ≤ 1
none_heavy zero h = omega arith
none_heavy (suc zero) h = omega arith
none_heavy (suc (suc n)) h = cc

-- a switch weighs something where it has two
abbrev pub switch_weight : Option ℤ → NodeKind → Cores → ℕ
switch_weight x Switch parts = heavy (marks_all (marking (is_case x)) is_switch parts)
switch_weight x kind parts = 0

pub switch_plain : (x : Option ℤ) → IsPlain (switch_weight x)
switch_plain x Switch parts e = cc
switch_plain x kind parts e = refl

same_is : (x y : ℤ) → int_eq x y ≡ true → x ≡ y
same_is x y is = (Decides-int_eq x y).0 is

is_same : (x : ℤ) → int_eq x x ≡ true
is_same x = (Decides-int_eq x x).1 refl

both : (a b : Bool) → (a && b) ≡ true → (a ≡ true) × (b ≡ true)
both true b e = (refl, e)
both false b e = cc

both_on : (a b : Bool) → a ≡ true → b ≡ true → (a && b) ≡ true
both_on true b e f = f
both_on false b e f = cc

left_on : (a b : Bool) → a ≡ true → (a || b) ≡ true
left_on true b e = refl
left_on false b e = cc

right_on : (a b : Bool) → b ≡ true → (a || b) ≡ true
right_on true b e = refl
right_on false b e = e

-- a number that passes, among the first ones
passes_among : (test : ℕ → Bool) (from count i : ℕ) → from ≤ i → i < from + count → test i ≡ true → any_where test (numbers_from from count) ≡ true
passes_among test from zero i low high is = absurd (omega (arith, low, high))
passes_among test from (suc count) i low high is = by (nat_eq from i) refl (λ less. passes_among test (suc from) count i less (omega (arith, high)) is)
  where
    by : (b : Bool) → nat_eq from i ≡ b → (suc from ≤ i → any_where test (numbers_from (suc from) count) ≡ true) → (test from || any_where test (numbers_from (suc from) count)) ≡ true
    by true e later = left_on (test from) _ (subst (λ (x : ℕ). test x ≡ true) (sym (eqb-true from i e)) is)
    by false e later = right_on (test from) _ (later (apart (λ same. let t : nat_eq from from ≡ false = subst (λ (x : ℕ). nat_eq from x ≡ false) (sym same) e in let u : nat_eq from from ≡ true = own from in cc)))
      where
        own : (x : ℕ) → nat_eq x x ≡ true
        own x = grind (arith)

        apart : (from ≡ i → ⊥) → suc from ≤ i
        apart differ = omega (arith, low, differ)

first_none : (test : ℕ → Bool) (from count i : ℕ) → from ≤ i → i < from + count → first_where test (numbers_from from count) ≡ None → test i ≡ false
first_none test from zero i low high e = absurd (omega (arith, low, high))
first_none test from (suc count) i low high e = by (test from) refl e (λ less f. first_none test (suc from) count i less (omega (arith, high)) f)
  where
    by : (b : Bool) → test from ≡ b → (if b then Some from else first_where test (numbers_from (suc from) count)) ≡ None → (suc from ≤ i → first_where test (numbers_from (suc from) count) ≡ None → test i ≡ false) → test i ≡ false
    by true is e later = cc
    by false is e later = at (nat_eq from i) refl
      where
        at : (x : Bool) → nat_eq from i ≡ x → test i ≡ false
        at true same = subst (λ (y : ℕ). test y ≡ false) (eqb-true from i same) is
        at false other = later (apart (λ same. let t : nat_eq from from ≡ false = subst (λ (x : ℕ). nat_eq from x ≡ false) (sym same) other in let u : nat_eq from from ≡ true = own from in cc)) e
          where
            own : (x : ℕ) → nat_eq x x ≡ true
            own x = grind (arith)

            apart : (from ≡ i → ⊥) → suc from ≤ i
            apart differ = omega (arith, low, differ)

fits_core : (g : Given Core) (x : Sense) → (g >>= fits) ≡ Fits x → (c : Core) × (g ≡ Fits c) × (x ≡ IsCore c)
fits_core (Fits c) x e = let same : IsCore c ≡ x = same_given (IsCore c) x e in (c, refl, sym same)
fits_core (Refuses kind node) x e = cc

gives_is : {A : Type 0} (P : A → Type 0) (g : Given A) (x : A) → Gives P g → g ≡ Fits x → P x
gives_is P (Fits y) x h e = let same : y ≡ x = cc in subst P same h
gives_is P (Refuses kind node) x h e = cc

core_same : (a b : Core) → IsCore a ≡ IsCore b → a ≡ b
core_same a b e = cc

module _
    (s : Source) (senses : List Sense) (grown : IsGrown s) (are : AreSenses s senses) (whole : length senses ≡ length s.nodes) (counted : CountedParts s) (runs : RunsInitialise senses) (follows : Follows s) (shaped : ShapedStatements s)
  where
    abbrev sense : ℕ → Sense
    sense i = sense_in senses i

    abbrev before : ℕ → ℕ → Sense
    before i = F s senses grown are whole i

    abbrev w : ℕ → World
    w i = W s senses grown are whole i

    abbrev is_word : ℕ → ℕ → Bool
    is_word word i = is_a s p_statement i && elim (children_at s i) [ [] ↦ false | first ∷ rest ↦ has_word s word first ]

    abbrev within : ℕ → Bool
    within i = is_a s p_statement i || is_a s p_block i

    -- what the sense of a statement tells
    unfoldable pub Tells_at : ℕ → Core → Type 0
    Tells_at i c = (first : ℕ) × (rest : List ℕ) × (children_at s i ≡ first ∷ rest) × (is_leaf s first ≡ true) × Tells (w i) s (before i) i (first ∷ rest) c

    pub statement_tells : (i : ℕ) (c : Core) → i < length senses → is_a s p_statement i ≡ true → sense i ≡ IsCore c → is_telling (kind_of c) ≡ true → Tells_at i c
    unfolding Tells_at
    statement_tells i c inside is sensed tells = by (children_at s i) refl (row_there s senses grown are whole i p_statement inside is)
      where
        plain : (x : Core) → is_telling (kind_of x) ≡ false → x ≡ c → ⊥
        plain x e same = let f : true ≡ false = sym tells ∙ (ap (λ (y : Core). is_telling (kind_of y)) (sym same) ∙ e) in cc

        by_leaf : (first : ℕ) (rest : List ℕ) → children_at s i ≡ first ∷ rest → (b : Bool) → is_leaf s first ≡ b → (x : Bool) → is_a s p_expression first ≡ x
            → cond b (leaf_statement (w i) s (before i) i first (first ∷ rest) >>= fits) (cond x (expression_statement (w i) s (before i) i first >>= fits) (Fits (before i first))) ≡ Fits (sense i)
            → (first : ℕ) × (rest : List ℕ) × (children_at s i ≡ first ∷ rest) × (is_leaf s first ≡ true) × Tells (w i) s (before i) i (first ∷ rest) c
        by_leaf first rest e true lf x ex row =
            let got = fits_core (leaf_statement (w i) s (before i) i first (first ∷ rest)) (sense i) row in
            let same : got.0 ≡ c = core_same got.0 c (sym got.2 ∙ sensed) in
            let own = gives_is (λ y. Tells (w i) s (before i) i (first ∷ rest) y) (leaf_statement (w i) s (before i) i first (first ∷ rest)) got.0 (leaf_tells (w i) s (before i) i (first ∷ rest) first refl) got.1 in
            (first, rest, e, lf, subst (λ (y : Core). Tells (w i) s (before i) i (first ∷ rest) y) same own)
        by_leaf first rest e false lf true ex row =
            let got = fits_core (expression_statement (w i) s (before i) i first) (sense i) row in
            let same : got.0 ≡ c = core_same got.0 c (sym got.2 ∙ sensed) in
            let quiet = gives_is (λ y. is_telling (kind_of y) ≡ false) (expression_statement (w i) s (before i) i first) got.0 (expression_quiet (w i) s (before i) i first) got.1 in
            absurd (plain got.0 quiet same)
        by_leaf first rest e false lf false ex row =
            let child : IsChild s i first = (0, ap (λ (l : List ℕ). slice_get l 0) e) in
            let block = grown.statements.begins i first rest is e lf ex in
            let lt = child_before s senses grown are whole i first child in
            let shape = block_shape s senses grown are whole counted runs (marking (is_case None)) is_switch (case_plain None) first (omega (arith, lt, inside)) block in
            let here : sense i ≡ sense first = sym (same_given (before i first) (sense i) row) ∙ sense_before s senses grown are whole i first lt in
            let same : shape.0.core ≡ c = core_same shape.0.core c (sym shape.0.sensed ∙ (sym here ∙ sensed)) in
            absurd (plain shape.0.core (ap is_telling shape.2) same)

        by : (children : List ℕ) → children_at s i ≡ children → statement_row (w i) s (before i) i (children_at s i) ≡ Fits (sense i) → (first : ℕ) × (rest : List ℕ) × (children_at s i ≡ first ∷ rest) × (is_leaf s first ≡ true) × Tells (w i) s (before i) i (first ∷ rest) c
        by [] e row = let none : Refuses Operand i ≡ Fits (sense i) = subst (λ (l : List ℕ). statement_row (w i) s (before i) i l ≡ Fits (sense i)) e row in cc
        by (first ∷ rest) e row = by_leaf first rest e (is_leaf s first) refl (is_a s p_expression first) refl (subst (λ (l : List ℕ). statement_row (w i) s (before i) i l ≡ Fits (sense i)) e row)

    pub sense_there : (i : ℕ) (c : Core) → sense i ≡ IsCore c → i < length senses
    sense_there i c e = within_list senses i e
      where
        within_list : (list : List Sense) (i : ℕ) → get_or list i Nothing ≡ IsCore c → i < length list
        within_list [] i e = cc
        within_list (y ∷ list) zero e = omega arith
        within_list (y ∷ list) (suc i) e = let more = within_list list i e in omega (arith, more)

    -- ---- one switch

    module _ (x : Option ℤ) (top : ℕ) where
      -- the statement or block stands so many levels below the switch
      abbrev pub In : ℕ → Type 0
      In i = (k : ℕ) × (i + k ≤ top) × (above_within s (is_word word_switch) k (parent_of s i) ≡ Some top)

      more_levels : (test : ℕ → Bool) (k m d : ℕ) (o : Option ℕ) → above_within s test k o ≡ Some d → k ≤ m → above_within s test m o ≡ Some d
      more_levels test zero m d o e le = cc
      more_levels test (suc k) zero d o e le = absurd (omega (arith, le))
      more_levels test (suc k) (suc m) d None e le = cc
      more_levels test (suc k) (suc m) d (Some p) e le = by (test p) e (λ f. more_levels test k m d (parent_of s p) f (omega (arith, le)))
        where
          by : (b : Bool) → (if b then Some p else above_within s test k (parent_of s p)) ≡ Some d → (above_within s test k (parent_of s p) ≡ Some d → above_within s test m (parent_of s p) ≡ Some d) → (if b then Some p else above_within s test m (parent_of s p)) ≡ Some d
          by true e later = e
          by false e later = later e

      found : (i : ℕ) → top < length s.nodes → In i → nearest_above s (is_word word_switch) i ≡ Some top
      found i lt (k, le, up) = more_levels (is_word word_switch) k (length s.nodes) top (parent_of s i) up (omega (arith, le, lt))

      -- what stands above passes, and the node beneath it
      passes : (test : ℕ → Bool) (k : ℕ) (o : Option ℕ) → above_within s test k o ≡ Some top → test top ≡ true
      passes test zero o e = cc
      passes test (suc k) None e = cc
      passes test (suc k) (Some p) e = by (test p) refl e (λ f. passes test k (parent_of s p) f)
        where
          by : (b : Bool) → test p ≡ b → (if b then Some p else above_within s test k (parent_of s p)) ≡ Some top → (above_within s test k (parent_of s p) ≡ Some top → test top ≡ true) → test top ≡ true
          by true is e later = let same : p ≡ top = cc in subst (λ (y : ℕ). test y ≡ true) same is
          by false is e later = later e

      part_of : (p c : ℕ) → parent_of s c ≡ Some p → IsChild s p c
      part_of p c e = in_list (children_at s p) c (parent_holds s grown p c e)

      beneath : (test : ℕ → Bool) (k p : ℕ) → above_within s test k (Some p) ≡ Some top → Beneath s top p
      beneath test zero p e = cc
      beneath test (suc k) p e = by (test p) e (parent_of s p) refl (λ q f. beneath test k q f)
        where
          by : (b : Bool) → (if b then Some p else above_within s test k (parent_of s p)) ≡ Some top → (o : Option ℕ) → parent_of s p ≡ o → ((q : ℕ) → above_within s test k (Some q) ≡ Some top → Beneath s top q) → Beneath s top p
          by true e o is later = let same : p ≡ top = cc in subst (λ (y : ℕ). Beneath s top y) (sym same) itself
          by false e None is later = absurd (nothing k (subst (λ (o : Option ℕ). above_within s test k o ≡ Some top) is e))
            where
              nothing : (k : ℕ) → above_within s test k None ≡ Some top → ⊥
              nothing zero e = cc
              nothing (suc k) e = cc
          by false e (Some q) is later = under (part_of q p is) (later q (subst (λ (o : Option ℕ). above_within s test k o ≡ Some top) is e))

      nothing : (k : ℕ) → above_within s (is_word word_switch) k None ≡ Some top → ⊥
      nothing zero e = cc
      nothing (suc k) e = cc

      -- the parent stands beneath the switch
      parent_below : (k i : ℕ) → above_within s (is_word word_switch) k (parent_of s i) ≡ Some top → (q : ℕ) × IsChild s q i × Beneath s top q
      parent_below k i up = by (parent_of s i) refl up
        where
          by : (o : Option ℕ) → parent_of s i ≡ o → above_within s (is_word word_switch) k o ≡ Some top → (q : ℕ) × IsChild s q i × Beneath s top q
          by None is e = absurd (nothing k e)
          by (Some q) is e = (q, part_of q i is, beneath (is_word word_switch) k q e)

      -- ---- from a statement up to the switch stand statements and blocks alone

      child_in : (i c : ℕ) → IsChild s i c → contains (children_at s i) c ≡ true
      child_in i c h = list_in (children_at s i) h.0 c h.1

      apart : (i a b : ℕ) → is_a s a i ≡ true → nat_eq a b ≡ false → is_a s b i ≡ false
      apart i a b h differ = ap (λ (q : ℕ). nat_eq q b) (eqb-true (production_at s i) a h) ∙ differ

      no_external : (q : ℕ) → is_a s p_external q ≡ true → within top ≡ true → Beneath s top q → ⊥
      no_external q external inner itself = let a = apart q p_external p_statement external refl in let b = apart q p_external p_block external refl in by (is_a s p_statement q) (is_a s p_block q) a b inner
        where
          by : (x y : Bool) → x ≡ false → y ≡ false → (x || y) ≡ true → ⊥
          by false false ex ey h = cc
          by true y ex ey h = cc
          by false true ex ey h = cc
      no_external q external inner (under {q = r} part itself) =
          let root = grown.nested.externals r q (child_in r q part) external in
          let a = apart r p_unit p_statement root refl in
          let b = apart r p_unit p_block root refl in
          by (is_a s p_statement r) (is_a s p_block r) a b inner
        where
          by : (x y : Bool) → x ≡ false → y ≡ false → (x || y) ≡ true → ⊥
          by false false ex ey h = cc
          by true y ex ey h = cc
          by false true ex ey h = cc
      no_external q external inner (under {q = r} part (under {q = t} up more)) =
          let root = grown.nested.externals r q (child_in r q part) external in
          let none = grown.nested.units t r (child_in t r up) in
          let never : true ≡ false = sym root ∙ none in
          cc

      within_above : (q i : ℕ) → IsChild s q i → within i ≡ true → within top ≡ true → Beneath s top q → within q ≡ true
      within_above q i part inner outer above = by (is_a s p_statement i) (is_a s p_block i) refl refl inner
        where
          block_above : (a b : Bool) → is_a s p_external q ≡ a → is_a s p_statement q ≡ b → (a || b) ≡ true → within q ≡ true
          block_above true b ea eb h = absurd (no_external q ea outer above)
          block_above false true ea eb h = left_on (is_a s p_statement q) (is_a s p_block q) eb
          block_above false false ea eb h = cc

          statement_above : (a b : Bool) → is_a s p_block q ≡ a → is_a s p_statement q ≡ b → (a || b) ≡ true → within q ≡ true
          statement_above true b ea eb h = right_on (is_a s p_statement q) (is_a s p_block q) ea
          statement_above false true ea eb h = left_on (is_a s p_statement q) (is_a s p_block q) eb
          statement_above false false ea eb h = cc

          by : (a b : Bool) → is_a s p_statement i ≡ a → is_a s p_block i ≡ b → (a || b) ≡ true → within q ≡ true
          by true b ea eb h = statement_above (is_a s p_block q) (is_a s p_statement q) refl refl (grown.nested.statements q i (child_in q i part) ea)
          by false true ea eb h = block_above (is_a s p_external q) (is_a s p_statement q) refl refl (grown.nested.blocks q i (child_in q i part) eb)
          by false false ea eb h = cc

      -- the part of the switch in which it stands
      step_down : (i : ℕ) → within top ≡ true → within i ≡ true → Beneath s top i → (i ≡ top) ⊎ ((d : ℕ) × IsChild s top d × (within d ≡ true) × Beneath s d i)
      step_down i outer inner itself = inl refl
      step_down i outer inner (under {q = q} part above) = by (step_down q outer (within_above q i part inner outer above) above)
        where
          by : (q ≡ top) ⊎ ((d : ℕ) × IsChild s top d × (within d ≡ true) × Beneath s d q) → (i ≡ top) ⊎ ((d : ℕ) × IsChild s top d × (within d ≡ true) × Beneath s d i)
          by (inl same) = inr (i, subst (λ (y : ℕ). IsChild s y i) same part, inner, itself)
          by (inr more) = inr (more.0, more.1, more.2, under part more.3)

      abbrev R : ℕ → Type 0
      R i = nearest_above s (is_word word_switch) i ≡ Some top

      region_below : (i : ℕ) → R i → Beneath s top i
      region_below i r = let p = parent_below (length s.nodes) i r in under p.1 p.2

      never_top : R top → ⊥
      never_top r =
          let p = parent_below (length s.nodes) top r in
          let le = beneath_small s grown.first grown.families top p.0 p.2 in
          let lt = child_before s senses grown are whole p.0 top p.1 in
          omega (arith, le, lt)

      ascend_order : (low : ℕ) (ks : List ℕ) (j k c d : ℕ) → Ascend low ks → slice_get ks j ≡ Some c → slice_get ks k ≡ Some d → j < k → c < d
      ascend_order low [] j k c d asc ec ed lt = cc
      ascend_order low (y ∷ ks) zero zero c d asc ec ed lt = absurd (omega (arith, lt))
      ascend_order low (y ∷ ks) (suc j) zero c d asc ec ed lt = absurd (omega (arith, lt))
      ascend_order low (y ∷ ks) zero (suc k) c d asc ec ed lt = let same : y ≡ c = cc in let above = ascend_above (suc y) ks d asc.1 (k, ed) in omega (arith, same, above)
      ascend_order low (y ∷ ks) (suc j) (suc k) c d asc ec ed lt = ascend_order (suc y) ks j k c d asc.1 ec ed (omega (arith, lt))

      some_counted : (test : ℕ → Bool) (ks : List ℕ) (c : ℕ) → Has ks c → test c ≡ true → length (all_where test ks) ≡ 0 → ⊥
      some_counted test ks c h is e = let has = has_where test ks c h is in by (all_where test ks) has e
        where
          by : (l : List ℕ) → Has l c → length l ≡ 0 → ⊥
          by [] h e = cc
          by (y ∷ l) h e = omega (arith, e)

      word_is : (word first : ℕ) → is_leaf s first ≡ true → word_at s first ≡ Some word → has_word s word first ≡ true
      word_is word first lf is = both_on (is_leaf s first) (is_number (word_at s first) word) lf (ap (λ (o : Option ℕ). is_number o word) is ∙ own word)
        where
          own : (y : ℕ) → nat_eq y y ≡ true
          own y = grind (arith)

      begun : (word i first : ℕ) (rest : List ℕ) → is_a s p_statement i ≡ true → children_at s i ≡ first ∷ rest → is_leaf s first ≡ true → word_at s first ≡ Some word → is_word word i ≡ true
      begun word i first rest is e lf word_at_is =
          both_on (is_a s p_statement i) _ is (ap (λ (l : List ℕ). elim l as (λ _. Bool) [ [] ↦ false | c ∷ more ↦ has_word s word c ]) e ∙ word_is word first lf word_at_is)

      told_kind : (i : ℕ) (children : List ℕ) (c : Core) (kind : NodeKind) → kind_of c ≡ kind → Tells (w i) s (before i) i children c → TellsKind (w i) s (before i) i children kind
      told_kind i children (Of k place type parts) kind e h = subst (λ (y : NodeKind). TellsKind (w i) s (before i) i children y) e h

      module _ (inside : top < length senses) (is_top : is_word word_switch top ≡ true) (core : Core) (sensed : sense top ≡ IsCore core) (switching : kind_of core ≡ Switch) where
        statement_top : is_a s p_statement top ≡ true
        statement_top = (both (is_a s p_statement top) _ is_top).0

        nodes_inside : top < length s.nodes
        nodes_inside = omega (arith, inside, whole)

        told : Tells_at top core
        told = statement_tells top core inside statement_top sensed (ap is_telling switching)

        record Begun : Type 0 where
          first : ℕ
          rest : List ℕ
          children : children_at s top ≡ first ∷ rest
          lf : is_leaf s first ≡ true
          word : has_word s word_switch first ≡ true
          fit : IsFit (switched (w top) s (before top) top (expression_in (w top) s (before top) (children_at s top)))

        begins : Begun
        unfolding Tells_at
        begins =
            let (first, rest, children, lf, tells) = told in
            let own = told_kind top (first ∷ rest) core Switch switching tells in
            record {
              first = first;
              rest = rest;
              children = children;
              lf = lf;
              word = word_is word_switch first lf own.0;
              fit = subst (λ (l : List ℕ). IsFit (switched (w top) s (before top) top (expression_in (w top) s (before top) l))) (sym children) own.1;
            }

        -- the switch's expression comes before what stands in its statement
        expression_before : (j c : ℕ) → within j ≡ true → R j → first_where (is_a s p_expression) (children_at s top) ≡ Some c → c < j
        expression_before j c inner r e = by (step_down j (left_on (is_a s p_statement top) (is_a s p_block top) statement_top) inner (region_below j r))
          where
            b : Begun
            b = begins

            place : (ks : List ℕ) → first_where (is_a s p_expression) ks ≡ Some c → Has ks c
            place [] e = cc
            place (y ∷ ks) e = at (is_a s p_expression y) e (place ks)
              where
                at : (z : Bool) → (if z then Some y else first_where (is_a s p_expression) ks) ≡ Some c → (first_where (is_a s p_expression) ks ≡ Some c → Has ks c) → Has (y ∷ ks) c
                at true e later = (0, e)
                at false e later = let more = later e in (suc more.0, more.1)

            statement_of : (d : ℕ) → IsChild s top d → within d ≡ true → is_a s p_statement d ≡ true
            statement_of d part inner = at (is_a s p_statement d) (is_a s p_block d) refl refl inner
              where
                at : (y z : Bool) → is_a s p_statement d ≡ y → is_a s p_block d ≡ z → (y || z) ≡ true → is_a s p_statement d ≡ true
                at true z ey ez h = ey
                at false true ey ez h = absurd (some_counted (is_a s p_block) (children_at s top) d part ez (shaped.blocks top b.first b.rest statement_top b.children b.lf))
                at false false ey ez h = cc

            by : (j ≡ top) ⊎ ((d : ℕ) × IsChild s top d × (within d ≡ true) × Beneath s d j) → c < j
            by (inl same) = absurd (never_top (subst R same r))
            by (inr (d, part, inner, below)) =
                let at = place (children_at s top) e in
                let order = shaped.switches top b.first b.rest statement_top b.children b.word at.0 part.0 c d at.1 part.1 (found_where (is_a s p_expression) (children_at s top) c e) (statement_of d part inner) in
                let less = ascend_order 0 (children_at s top) at.0 part.0 c d (grown.families.ascend top) at.1 part.1 order in
                follows.follows top c d j at part less below

        fits_there : (j : ℕ) → within j ≡ true → R j → IsFit (switched (w j) s (before j) top (expression_in (w j) s (before j) (children_at s top)))
        fits_there j inner r =
            switched_again (w top) (w j) s (before top) (before j) top (first_where (is_a s p_expression) (children_at s top))
            (λ c e.
            let lt = expression_before j c inner r e in
            let small = child_before s senses grown are whole top c (place (children_at s top) c e) in
            sense_before s senses grown are whole top c small ∙ sym (sense_before s senses grown are whole j c lt)) begins.fit
          where
            place : (ks : List ℕ) (c : ℕ) → first_where (is_a s p_expression) ks ≡ Some c → Has ks c
            place [] c e = cc
            place (y ∷ ks) c e = at (is_a s p_expression y) e (place ks c)
              where
                at : (z : Bool) → (if z then Some y else first_where (is_a s p_expression) ks) ≡ Some c → (first_where (is_a s p_expression) ks ≡ Some c → Has ks c) → Has (y ∷ ks) c
                at true e later = (0, e)
                at false e later = let more = later e in (suc more.0, more.1)

        -- a case, or a default, of the switch
        record Hit (i : ℕ) : Type 0 where
          in_region : R i
          is_statement : is_a s p_statement i ≡ true
          there : i < length senses
          own : Core
          sense_is : sense i ≡ IsCore own
          counts : is_case x (kind_of own) ≡ true

        in_top : (i : ℕ) → R i → in_switch (w i) s (before i) top i ≡ true
        in_top i r = ap (λ (o : Option ℕ). is_number o top) r ∙ own top
          where
            own : (y : ℕ) → nat_eq y y ≡ true
            own y = grind (arith)

        case_is : (n : ℤ) (kind : NodeKind) → is_case (Some n) kind ≡ true → (m : ℤ) × (kind ≡ Case m) × (m ≡ n)
        case_is n (Case m) e = (m, refl, same_is m n e)
        case_is n kind e = cc

        default_is : (kind : NodeKind) → is_case None kind ≡ true → kind ≡ Default
        default_is Default e = refl
        default_is kind e = cc

        value_of_core : (c : Core) (m : ℤ) (i : ℕ) → kind_of c ≡ Case m → case_value (w i) s (before i) (IsCore c) ≡ Some m
        value_of_core c m i e = ap (λ (k : NodeKind). elim k as (λ _. Option ℤ) [ Case n ↦ Some n | _ ↦ None ]) e

        default_core : (c : Core) (i : ℕ) → kind_of c ≡ Default → is_default (w i) s (before i) (IsCore c) ≡ true
        default_core c i e = ap (λ (k : NodeKind). elim k as (λ _. Bool) [ Default ↦ true | _ ↦ false ]) e

        pair_case : (n : ℤ) → x ≡ Some n → (i j : ℕ) → Hit i → Hit j → i < j → ⊥
        unfolding Tells_at
        pair_case n is i j hi hj lt =
            let ci = case_is n (kind_of hi.own) (subst (λ (y : Option ℤ). is_case y (kind_of hi.own) ≡ true) is hi.counts) in
            let cj = case_is n (kind_of hj.own) (subst (λ (y : Option ℤ). is_case y (kind_of hj.own) ≡ true) is hj.counts) in
            let (fi, ri, ei, li, ti) = statement_tells i hi.own hi.there hi.is_statement hi.sense_is (ap is_telling ci.1) in
            let (fj, rj, ej, lj, tj) = statement_tells j hj.own hj.there hj.is_statement hj.sense_is (ap is_telling cj.1) in
            let word_i = begun word_case i fi ri hi.is_statement ei li (told_kind i (fi ∷ ri) hi.own (Case ci.0) ci.1 ti).0 in
            let tested = (told_kind j (fj ∷ rj) hj.own (Case cj.0) cj.1 tj).1 top hj.in_region (fits_there j (left_on (is_a s p_statement j) (is_a s p_block j) hj.is_statement) hj.in_region) in
            let seen : before j i ≡ IsCore hi.own = sense_before s senses grown are whole j i lt ∙ hi.sense_is in
            let value : case_value (w j) s (before j) (before j i) ≡ Some ci.0 = ap (λ (y : Sense). case_value (w j) s (before j) y) seen ∙ value_of_core hi.own ci.0 j ci.1 in
            let equal : int_eq ci.0 cj.0 ≡ true = subst (λ (y : ℤ). int_eq ci.0 y ≡ true) (ci.2 ∙ sym cj.2) (is_same ci.0) in
            let again : is_case_again (w j) s (before j) top cj.0 i ≡ true =
            both_on (is_word word_case i) _ word_i
            (both_on (in_switch (w j) s (before j) top i) _ (in_top i hi.in_region) (ap (λ (o : Option ℤ). elim o as (λ _. Bool) [ None ↦ false | Some m ↦ int_eq m cj.0 ]) value ∙ equal)) in
            let some = passes_among (is_case_again (w j) s (before j) top cj.0) 0 j i (omega arith) (omega (arith, lt)) again in
            let never : true ≡ false = sym some ∙ tested in
            cc

        pair_default : x ≡ None → (i j : ℕ) → Hit i → Hit j → i < j → ⊥
        unfolding Tells_at
        pair_default is i j hi hj lt =
            let ci = default_is (kind_of hi.own) (subst (λ (y : Option ℤ). is_case y (kind_of hi.own) ≡ true) is hi.counts) in
            let cj = default_is (kind_of hj.own) (subst (λ (y : Option ℤ). is_case y (kind_of hj.own) ≡ true) is hj.counts) in
            let (fi, ri, ei, li, ti) = statement_tells i hi.own hi.there hi.is_statement hi.sense_is (ap is_telling ci) in
            let (fj, rj, ej, lj, tj) = statement_tells j hj.own hj.there hj.is_statement hj.sense_is (ap is_telling cj) in
            let word_i = begun word_default i fi ri hi.is_statement ei li (told_kind i (fi ∷ ri) hi.own Default ci ti).0 in
            let tested = (told_kind j (fj ∷ rj) hj.own Default cj tj).1 top hj.in_region in
            let seen : before j i ≡ IsCore hi.own = sense_before s senses grown are whole j i lt ∙ hi.sense_is in
            let value : is_default (w j) s (before j) (before j i) ≡ true = ap (λ (y : Sense). is_default (w j) s (before j) y) seen ∙ default_core hi.own j ci in
            let again : is_default_again (w j) s (before j) top i ≡ true =
            both_on (is_word word_default i) _ word_i (both_on (in_switch (w j) s (before j) top i) _ (in_top i hi.in_region) value) in
            let some = passes_among (is_default_again (w j) s (before j) top) 0 j i (omega arith) (omega (arith, lt)) again in
            let never : true ≡ false = sym some ∙ tested in
            cc

        pair : (i j : ℕ) → Hit i → Hit j → i < j → ⊥
        pair i j hi hj lt = by x refl
          where
            by : (y : Option ℤ) → x ≡ y → ⊥
            by (Some n) e = pair_case n e i j hi hj lt
            by None e = pair_default e i j hi hj lt

        side : (i j : ℕ) → (i ≡ j → ⊥) → (i < j → ⊥) → (j < i → ⊥) → ⊥
        side i j a b c = by (nat_lt i j) (nat_lt j i) refl refl
          where
            by : (y z : Bool) → nat_lt i j ≡ y → nat_lt j i ≡ z → ⊥
            by true z ey ez = b (ltb-true i j ey)
            by false true ey ez = c (ltb-true j i ez)
            by false false ey ez = let p = ltb-false i j ey in let q = ltb-false j i ez in a (omega (arith, p, q))

        one_hit : (i j : ℕ) → Hit i → Hit j → i ≡ j
        one_hit i j hi hj = by (nat_eq i j) refl
          where
            by : (b : Bool) → nat_eq i j ≡ b → i ≡ j
            by true e = eqb-true i j e
            by false e = absurd (side i j (λ same. let f = eqb-false i j e in absurd (f same)) (λ lt. pair i j hi hj lt) (λ lt. pair j i hj hi lt))

        -- the first of them
        abbrev marked_sense : Sense → Bool
        marked_sense (IsCore c) = is_case x (kind_of c)
        marked_sense y = false

        abbrev is_hit : ℕ → Bool
        is_hit i = is_number (nearest_above s (is_word word_switch) i) top && (is_a s p_statement i && marked_sense (sense i))

        hit_is : (i : ℕ) → Hit i → is_hit i ≡ true
        hit_is i h =
            both_on (is_number (nearest_above s (is_word word_switch) i) top) _ (in_top i h.in_region) (both_on (is_a s p_statement i) _ h.is_statement (ap marked_sense h.sense_is ∙ h.counts))

        is_some_number : (o : Option ℕ) (n : ℕ) → is_number o n ≡ true → o ≡ Some n
        is_some_number None n e = cc
        is_some_number (Some m) n e = ap (λ (y : ℕ). Some y) (eqb-true m n e)

        is_hit_there : (i : ℕ) → i < length senses → is_hit i ≡ true → Hit i
        is_hit_there i lt e =
            let a = both (is_number (nearest_above s (is_word word_switch) i) top) _ e in
            let b = both (is_a s p_statement i) _ a.1 in
            by (sense i) refl b.1
          where
            by : (y : Sense) → sense i ≡ y → marked_sense y ≡ true → Hit i
            by (IsCore c) is m =
                let a = both (is_number (nearest_above s (is_word word_switch) i) top) _ e in
                record { in_region = is_some_number (nearest_above s (is_word word_switch) i) top a.0; is_statement = (both (is_a s p_statement i) _ a.1).0; there = lt; own = c; sense_is = is; counts = m }
            by y is m = cc

        chosen : Option ℕ → ℕ
        chosen None = 0
        chosen (Some p) = p

        p : ℕ
        p = chosen (first_where is_hit (all_nodes s))

        listed : (test : ℕ → Bool) (from count y : ℕ) → first_where test (numbers_from from count) ≡ Some y → y < from + count
        listed test from zero y e = cc
        listed test from (suc count) y e = by (test from) e (λ f. listed test (suc from) count y f)
          where
            by : (b : Bool) → (if b then Some from else first_where test (numbers_from (suc from) count)) ≡ Some y → (first_where test (numbers_from (suc from) count) ≡ Some y → y < suc from + count) → y < from + suc count
            by true e later = let same : from ≡ y = cc in omega (arith, same)
            by false e later = let lt = later e in omega (arith, lt)

        sole : (i : ℕ) (c : Core) → In i → is_a s p_statement i ≡ true → sense i ≡ IsCore c → is_case x (kind_of c) ≡ true → i ≡ p
        unfolding p chosen
        sole i c at is e m = by (first_where is_hit (all_nodes s)) refl
          where
            hit : Hit i
            hit = record { in_region = found i nodes_inside at; is_statement = is; there = sense_there i c e; own = c; sense_is = e; counts = m }

            by : (o : Option ℕ) → first_where is_hit (all_nodes s) ≡ o → i ≡ chosen o
            by None f =
                let lt = sense_there i c e in
                let none = first_none is_hit 0 (length s.nodes) i (omega arith) (omega (arith, lt, whole)) f in
                let never : true ≡ false = sym (hit_is i hit) ∙ none in
                cc
            by (Some q) f =
                let lt = listed is_hit 0 (length s.nodes) q f in
                one_hit i q hit (is_hit_there q (omega (arith, lt, whole)) (found_where is_hit (all_nodes s) q f))

        onward : (i d : ℕ) (c : Core) → In i → stands_within s senses grown are whole counted runs i ≡ true → sense i ≡ IsCore c → is_switch (kind_of c) ≡ false → IsChild s i d → In d
        onward i d c (k, le, up) inner e quiet part =
            let lt = child_before s senses grown are whole i d part in
            (suc k, omega (arith, lt, le), ap (λ (o : Option ℕ). above_within s (is_word word_switch) (suc k) o) (parent_is s grown i d part) ∙ (skipped (is_word word_switch i) (no_switch (is_word word_switch i) refl) ∙ up))
          where
            skipped : (b : Bool) → b ≡ false → (if b then Some i else above_within s (is_word word_switch) k (parent_of s i)) ≡ above_within s (is_word word_switch) k (parent_of s i)
            skipped true e = cc
            skipped false e = refl

            stopped : (y : Sense) → EnclosesSense (w i) s (before i) i is_switch y → y ≡ IsCore c → ⊥
            stopped (IsCore y) h same = let one = core_same y c same in let f : true ≡ false = sym h.1 ∙ (ap (λ (z : Core). is_switch (kind_of z)) one ∙ quiet) in cc
            stopped y h same = absurd h

            no_switch : (b : Bool) → is_word word_switch i ≡ b → b ≡ false
            no_switch false f = refl
            no_switch true f =
                let row = row_there s senses grown are whole i p_statement (sense_there i c e) (both (is_a s p_statement i) _ f).0 in
                absurd (stopped (sense i) (gives_is (EnclosesSense (w i) s (before i) i is_switch) (statement_row (w i) s (before i) i (children_at s i)) (sense i) (switches_stop (w i) s (before i) i is_switch refl f) row) e)

        child_in_region : (d : ℕ) → IsChild s top d → In d
        child_in_region d part =
            let lt = child_before s senses grown are whole top d part in
            (1, omega (arith, lt), ap (λ (o : Option ℕ). above_within s (is_word word_switch) 1 o) (parent_is s grown top d part) ∙ taken (is_word word_switch top) is_top)
          where
            taken : (b : Bool) → b ≡ true → (if b then Some top else None) ≡ Some top
            taken true e = refl
            taken false e = cc

        -- what stands in the switch has one such case at most
        pub few_cases : marks_all (marking (is_case x)) is_switch (cores_under core) ≤ 1
        few_cases = by (statement_shape s senses grown are whole counted runs (marking (is_case x)) is_switch (case_plain x) top inside statement_top)
          where
            kind_same : (c : Core) → sense top ≡ IsCore c → c ≡ core
            kind_same c e = core_same c core (sym e ∙ sensed)

            by : Shape s senses grown are whole counted runs (marking (is_case x)) is_switch (case_plain x) top → marks_all (marking (is_case x)) is_switch (cores_under core) ≤ 1
            by (inl o) =
                let same = kind_same o.core o.sensed in
                let opening : opens (kind_of o.core) ≡ true = ap (λ (c : Core). opens (kind_of c)) same ∙ ap opens switching in
                let list = take o.most (statements_of s senses grown are whole counted runs (marking (is_case x)) is_switch (case_plain x) top) in
                let asc : Ascend 0 list = ascend_take o.most 0 _ (ascend_where (is_a s p_statement) 0 (children_at s top) (grown.families.ascend top)) in
                let one =
                one_of s senses grown are whole counted runs (is_case x) is_switch (case_plain x) In p sole onward (λ es. refl) top 0 list asc
                (λ c h.
                let part = statement_child s senses grown are whole counted runs (marking (is_case x)) is_switch (case_plain x) top c (take_has s senses grown are whole counted runs (marking (is_case x)) is_switch (case_plain x) o.most _ c h) in (
                  part.0,
                  few_marks s senses grown are whole counted runs (is_case x) is_switch (case_plain x) In p sole onward (λ es. refl) c
                      (let lt = child_before s senses grown are whole top c part.0 in omega (arith, lt, inside)) (child_in_region c part.0) (left_on (is_a s p_statement c) (is_a s p_block c) part.1),
                )) in
                let few = one.few in
                let value = o.exact opening in
                let turned : marks_all (marking (is_case x)) is_switch (cores_under core) ≡ marks_all (marking (is_case x)) is_switch (cores_under o.core) = ap (λ (c : Core). marks_all (marking (is_case x)) is_switch (cores_under c)) (sym same) in
                omega (arith, few, value, turned)
            by (inr (inl o)) =
                let same = kind_same o.core o.sensed in
                let never : true ≡ false = sym (ap (λ (c : Core). opens (kind_of c)) same ∙ ap opens switching) ∙ o.shut in
                cc
            by (inr (inr o)) =
                let lt = child_before s senses grown are whole top o.block o.child in
                let shape = block_shape s senses grown are whole counted runs (marking (is_case x)) is_switch (case_plain x) o.block (omega (arith, lt, inside)) o.is_block in
                let same = kind_same shape.0.core (o.same ∙ shape.0.sensed) in
                let never : true ≡ false = sym (ap is_switch switching) ∙ (ap (λ (c : Core). is_switch (kind_of c)) (sym same) ∙ ap is_switch shape.2) in
                cc

    -- a statement that stands for a switch begins with that word
    pub switch_begun : (i : ℕ) (c : Core) → i < length senses → is_a s p_statement i ≡ true → sense i ≡ IsCore c → kind_of c ≡ Switch → is_word word_switch i ≡ true
    unfolding Tells_at
    switch_begun i c inside is sensed switching =
        let (first, rest, e, lf, tells) = statement_tells i c inside is sensed (ap is_telling switching) in
        begun None i word_switch i first rest is e lf (told_kind None i i (first ∷ rest) c Switch switching tells).0
