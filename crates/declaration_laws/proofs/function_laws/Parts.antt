-- A statement's tree weighs no less than those of the statements in it.
use Rattle.std.proofs.Common.{arith, ◌≡◌, ◌<◌, ◌≤◌, ℕ, zero, suc, nat_eq, Bool, true, false, ◌&&◌, ◌||◌, not, cond, List, [], ◌∷◌, take, length, Option, Some, slice_get, refl, sym, ap, ◌∙◌, subst, ◌⊎◌, inl, inr}
use Rattle.std.specs.Prelude.{if◌then◌else◌}
use Rattle.std.proofs.lemmas.Bool.{eqb-true}
use Rattle.pta_base.specs.declared.kind.Kind.TheVariants.{Operand}
use Rattle.core_tree.specs.declared.node.NodeKind.{NodeKind}
use Rattle.core_tree.specs.declared.node.NodeKind.TheVariants.{Block}
use Rattle.core_tree.specs.Rows.{Has}
use Rattle.c_grammar.specs.Productions.{p_unit, p_external, p_block, p_statement, p_expression}
use Rattle.c_grammar.specs.Words.{word_case, word_default, word_switch, word_while, word_do, word_for, sign_semicolon}
use Rattle.c_grammar.specs.Terminals.{contains}
use Rattle.c_consts.specs.Core.{Core, kind_of, cores_under}
use Rattle.c_senses.specs.Tree.{Source, is_a, is_leaf, is_name, is_number, has_sign, has_word, word_at, production_at, children_at, all_where}
use Rattle.c_senses.specs.Given.{Given, Fits, Refuses, ◌>>=◌}
use Rattle.c_senses.specs.World.{World}
use Rattle.c_senses.specs.Sense.{Sense, IsCore, sense_in, fits}
use Rattle.c_senses.specs.Rows.{AreSenses}
use Rattle.c_senses.specs.Statements.{statements_among, statement_row, leaf_statement, expression_statement}
use Rattle.parsed_tree_laws.specs.family_laws.Families.{IsChild}
use Rattle.parsed_tree_laws.specs.sense_laws.Sound.{Gives}
use Rattle.parsed_tree_laws.specs.counted_parts.Counted.{CountedParts}
use Rattle.parsed_tree_laws.specs.ordered_parts.Ordered.{Beneath, itself, under}
use Rattle.parsed_tree_laws.specs.statement_shapes.Shaped.{is_part, of_word, allowed, ShapedStatements}
use Rattle.declaration_laws.specs.passed.core_node_laws.standing_laws.Standing.{IsGrown, RunsInitialise, RunsOf}
use Rattle.declaration_laws.proofs.passed.core_node_laws.standing_laws.Climbing.{list_in, child_inside}
use Rattle.declaration_laws.proofs.passed.core_node_laws.standing_laws.Kept.{opens}
use Rattle.declaration_laws.proofs.passed.core_node_laws.standing_laws.Descending.{F, W, row_there, sense_before, child_before, same_given}
use Rattle.declaration_laws.proofs.passed.core_node_laws.marked_trees.Beneath.{where_has, has_where}
use Rattle.declaration_laws.proofs.passed.core_node_laws.marked_trees.Earlier.{earlier}
use Rattle.declaration_laws.proofs.passed.core_node_laws.marked_trees.Marks.{Weight, IsPlain, goes_in, marks, marks_all, marks_of, total, reach, Exact, leaf_exact}
use Rattle.declaration_laws.proofs.passed.core_node_laws.marked_trees.Trees.{stands_within, M, T, statements_of, opened_weighs, weighs, block_shape}
use Rattle.declaration_laws.proofs.function_laws.Says.{limit, Says, leaf_says, is_jump, expression_quiet}

gives_is : {A : Type 0} (P : A → Type 0) (g : Given A) (x : A) → Gives P g → g ≡ Fits x → P x
gives_is P (Fits y) x h e = let same : y ≡ x = cc in subst P same h
gives_is P (Refuses kind node) x h e = cc

fits_core : (g : Given Core) (x : Sense) → (g >>= fits) ≡ Fits x → (c : Core) × (g ≡ Fits c) × (x ≡ IsCore c)
fits_core (Fits c) x e = let same : IsCore c ≡ x = same_given (IsCore c) x e in (c, refl, sym same)
fits_core (Refuses kind node) x e = cc

left_on : (a b : Bool) → a ≡ true → (a || b) ≡ true
left_on true b e = refl
left_on false b e = cc

right_on : (a b : Bool) → b ≡ true → (a || b) ≡ true
right_on true b e = refl
right_on false b e = e

-- ---- lists

some_counted : (test : ℕ → Bool) (ks : List ℕ) (c : ℕ) → Has ks c → test c ≡ true → 1 ≤ length (all_where test ks)
some_counted test ks c h is = let has = has_where test ks c h is in by (all_where test ks) has
  where
    by : (l : List ℕ) → Has l c → 1 ≤ length l
    by [] h = cc
    by (y ∷ l) h = omega arith

fewer : (f g : ℕ → Bool) → ((x : ℕ) → f x ≡ true → g x ≡ true) → (ks : List ℕ) → length (all_where f ks) ≤ length (all_where g ks)
fewer f g h [] = omega arith
fewer f g h (k ∷ ks) = by (f k) (g k) refl refl (fewer f g h ks)
  where
    by : (a b : Bool) → f k ≡ a → g k ≡ b → length (all_where f ks) ≤ length (all_where g ks) → length (if a then k ∷ all_where f ks else all_where f ks) ≤ length (if b then k ∷ all_where g ks else all_where g ks)
    by true true ea eb le = omega (arith, le)
    by false true ea eb le = omega (arith, le)
    by false false ea eb le = le
    by true false ea eb le = let never : true ≡ false = sym (h k ea) ∙ eb in cc

take_whole : (n : ℕ) (list : List ℕ) → length list ≤ n → take n list ≡ list
take_whole zero [] le = refl
take_whole zero (x ∷ list) le = absurd (omega (arith, le))
take_whole (suc n) [] le = refl
take_whole (suc n) (x ∷ list) le = ap (λ (l : List ℕ). x ∷ l) (take_whole n list (omega (arith, le)))

-- where one at most is there, two are one
one_there : (l : List ℕ) (x y : ℕ) → length l ≤ 1 → Has l x → Has l y → x ≡ y
one_there [] x y le hx hy = cc
one_there (a ∷ []) x y le (zero, ex) (zero, ey) = let same : ◌≡◌ {A = Option ℕ} (Some x) (Some y) = sym ex ∙ ey in cc
one_there (a ∷ []) x y le (suc j, ex) hy = cc
one_there (a ∷ []) x y le hx (suc k, ey) = cc
one_there (a ∷ b ∷ l) x y le hx hy = absurd (omega (arith, le))

neither : (a b : Bool) → a ≡ false → b ≡ false → (a || b) ≡ true → ⊥
neither false false ea eb h = cc
neither true b ea eb h = cc
neither false true ea eb h = cc

module _
    (s : Source) (senses : List Sense) (grown : IsGrown s) (are : AreSenses s senses) (whole : length senses ≡ length s.nodes) (counted : CountedParts s) (runs : RunsInitialise senses) (shaped : ShapedStatements s)
  where
    abbrev sense : ℕ → Sense
    sense i = sense_in senses i

    abbrev before : ℕ → ℕ → Sense
    before i = F s senses grown are whole i

    abbrev w : ℕ → World
    w i = W s senses grown are whole i

    abbrev pub inner : ℕ → Bool
    inner i = stands_within s senses grown are whole counted runs i

    run_before : (i c : ℕ) → RunsOf (before i c)
    run_before i c = elim (earlier senses i c) [
      | inl same ↦ subst RunsOf (sym same) (runs.each c)
      | inr none ↦ subst RunsOf (sym none) tt
    ]

    -- ---- what begins a statement

    pub record ByLeaf (weight : Weight) (stops : NodeKind → Bool) (plain : IsPlain weight) (i : ℕ) : Type 0 where
      pub first : ℕ
      pub rest : List ℕ
      pub children : children_at s i ≡ first ∷ rest
      pub lf : is_leaf s first ≡ true
      pub core : Core
      pub sensed : sense i ≡ IsCore core
      pub row : leaf_statement (w i) s (before i) i first (first ∷ rest) ≡ Fits core
      pub says : Says (w i) s (before i) i (first ∷ rest) core
      pub exact : Exact weight stops plain (w i) s (before i) i (statements_among (w i) s (before i) (first ∷ rest)) core

    pub record ByExpression (i : ℕ) : Type 0 where
      pub first : ℕ
      pub rest : List ℕ
      pub children : children_at s i ≡ first ∷ rest
      pub no_leaf : is_leaf s first ≡ false
      pub expression : is_a s p_expression first ≡ true
      pub core : Core
      pub sensed : sense i ≡ IsCore core
      pub quiet : is_jump (kind_of core) ≡ false

    pub record ByBlock (i : ℕ) : Type 0 where
      pub first : ℕ
      pub rest : List ℕ
      pub children : children_at s i ≡ first ∷ rest
      pub no_leaf : is_leaf s first ≡ false
      pub no_expression : is_a s p_expression first ≡ false
      pub is_block : is_a s p_block first ≡ true
      pub same : sense i ≡ sense first
      pub core : Core
      pub sensed : sense first ≡ IsCore core
      pub objects : List ℕ
      pub kind : kind_of core ≡ Block objects

    module _ (weight : Weight) (stops : NodeKind → Bool) (plain : IsPlain weight) where
      abbrev pub Begun : ℕ → Type 0
      Begun i = ByLeaf weight stops plain i ⊎ (ByExpression i ⊎ ByBlock i)

      pub begun : (i : ℕ) → i < length senses → is_a s p_statement i ≡ true → Begun i
      begun i inside is = by (children_at s i) refl (row_there s senses grown are whole i p_statement inside is)
        where
          few_for : (first : ℕ) (rest : List ℕ) → children_at s i ≡ first ∷ rest → is_leaf s first ≡ true → word_at s first ≡ Some word_for → length (statements_among (w i) s (before i) (first ∷ rest)) ≤ 1
          few_for first rest e lf word =
              let has : has_word s word_for first ≡ true = ap (λ (b : Bool). b && is_number (word_at s first) word_for) lf ∙ ap (λ (o : Option ℕ). is_number o word_for) word in
              subst (λ (l : List ℕ). length (all_where (is_a s p_statement) l) ≤ 1) e
              (counted.begun i first rest is e
              (right_on (is_name s first) _ (right_on (has_word s word_case first) _ (right_on (has_word s word_default first) _ (right_on (has_word s word_switch first) _ (right_on (has_word s word_while first) _ (right_on (has_word s word_do first) (has_word s word_for first) has)))))))

          by_leaf : (first : ℕ) (rest : List ℕ) → children_at s i ≡ first ∷ rest → (b : Bool) → is_leaf s first ≡ b → (x : Bool) → is_a s p_expression first ≡ x
              → cond b (leaf_statement (w i) s (before i) i first (first ∷ rest) >>= fits) (cond x (expression_statement (w i) s (before i) i first >>= fits) (Fits (before i first))) ≡ Fits (sense i) → Begun i
          by_leaf first rest e true lf x ex row =
              let got = fits_core (leaf_statement (w i) s (before i) i first (first ∷ rest)) (sense i) row in
              inl (record {
                first = first;
                rest = rest;
                children = e;
                lf = lf;
                core = got.0;
                sensed = got.2;
                row = got.1;
                says = gives_is (λ c. Says (w i) s (before i) i (first ∷ rest) c) (leaf_statement (w i) s (before i) i first (first ∷ rest)) got.0 (leaf_says (w i) s (before i) i (first ∷ rest) lf) got.1;
                exact = gives_is (λ c. Exact weight stops plain (w i) s (before i) i (statements_among (w i) s (before i) (first ∷ rest)) c) (leaf_statement (w i) s (before i) i first (first ∷ rest)) got.0
                    (leaf_exact weight stops plain (w i) s (before i) i (first ∷ rest) (λ c. run_before i c) (λ word. few_for first rest e lf word) first refl) got.1;
              })
          by_leaf first rest e false lf true ex row =
              let got = fits_core (expression_statement (w i) s (before i) i first) (sense i) row in
              inr (inl (record { first = first; rest = rest; children = e; no_leaf = lf; expression = ex; core = got.0; sensed = got.2; quiet = gives_is (λ y. is_jump (kind_of y) ≡ false) (expression_statement (w i) s (before i) i first) got.0 (expression_quiet (w i) s (before i) i first) got.1 }))
          by_leaf first rest e false lf false ex row =
              let child : IsChild s i first = (0, ap (λ (l : List ℕ). slice_get l 0) e) in
              let lt = child_before s senses grown are whole i first child in
              let shape = block_shape s senses grown are whole counted runs weight stops plain first (omega (arith, lt, inside)) (grown.statements.begins i first rest is e lf ex) in
              inr (inr (record {
                core = shape.0.core;
                sensed = shape.0.sensed;
                objects = _;
                kind = shape.2;
                first = first;
                rest = rest;
                children = e;
                no_leaf = lf;
                no_expression = ex;
                is_block = grown.statements.begins i first rest is e lf ex;
                same = sym (same_given (before i first) (sense i) row) ∙ sense_before s senses grown are whole i first (child_before s senses grown are whole i first child);
              }))

          by : (children : List ℕ) → children_at s i ≡ children → statement_row (w i) s (before i) i (children_at s i) ≡ Fits (sense i) → Begun i
          by [] e row = let none : Refuses Operand i ≡ Fits (sense i) = subst (λ (l : List ℕ). statement_row (w i) s (before i) i l ≡ Fits (sense i)) e row in cc
          by (first ∷ rest) e row = by_leaf first rest e (is_leaf s first) refl (is_a s p_expression first) refl (subst (λ (l : List ℕ). statement_row (w i) s (before i) i l ≡ Fits (sense i)) e row)

      -- ---- no less than each part

      abbrev pub N : ℕ → ℕ
      N i = M s senses grown are whole counted runs weight stops plain i

      total_has : (list : List ℕ) (c : ℕ) → Has list c → N c ≤ total weight stops sense list
      total_has [] c h = cc
      total_has (y ∷ list) c (zero, e) = let same : y ≡ c = cc in let own : N y ≡ N c = ap N same in omega (arith, own)
      total_has (y ∷ list) c (suc k, e) = let later = total_has list c (k, e) in omega (arith, later)

      total_before : (i : ℕ) (list : List ℕ) → ((c : ℕ) → Has list c → c < i) → total weight stops (before i) list ≡ total weight stops sense list
      total_before i [] h = refl
      total_before i (c ∷ list) h =
          let own : marks_of weight stops (before i c) ≡ N c = ap (marks_of weight stops) (sense_before s senses grown are whole i c (h c (0, refl))) in
          let later = total_before i list (λ d k. h d (suc k.0, k.1)) in
          omega (arith, own, later)

      module _ (free : (kind : NodeKind) → stops kind ≡ false) where
        opens_in : (kind : NodeKind) → opens kind ≡ true → goes_in weight stops kind ≡ true
        opens_in kind e = by (opens kind) (stops kind) e (free kind)
          where
            by : (a b : Bool) → a ≡ true → b ≡ false → (a && not b) ≡ true
            by true false ea eb = refl
            by true true ea eb = cc
            by false b ea eb = cc

        core_over : (c : Core) → opens (kind_of c) ≡ true → marks_all weight stops (cores_under c) ≤ marks weight stops c
        core_over c e =
            let all = weighs s senses grown are whole counted runs weight stops plain c in
            let value : cond (goes_in weight stops (kind_of c)) (marks_all weight stops (cores_under c)) 0 ≡ marks_all weight stops (cores_under c) = ap (λ (b : Bool). cond b (marks_all weight stops (cores_under c)) 0) (opens_in (kind_of c) e) in
            omega (arith, all, value)

        opens_of : (kind : NodeKind) → 1 ≤ limit kind → (opens kind ≡ true) × (limit kind ≡ reach kind)
        opens_of kind h = by (opens kind) h
          where
            by : (b : Bool) → 1 ≤ cond b (reach kind) 0 → (b ≡ true) × (cond b (reach kind) 0 ≡ reach kind)
            by true h = (refl, refl)
            by false h = absurd (omega (arith, h))

        statement_holds : (q c : ℕ) → q < length senses → is_a s p_statement q ≡ true → IsChild s q c → is_part s c ≡ true → N c ≤ N q
        statement_holds q c inside is child part = by (begun q inside is)
          where
            by : Begun q → N c ≤ N q
            by (inl b) =
                let many = shaped.parts q b.first b.rest is b.children in
                let some = some_counted (is_part s) (children_at s q) c child part in
                let allowed_is = b.says.0 in
                let opening = opens_of (kind_of b.core) (omega (arith, many, some, allowed_is)) in
                let limit_is = opening.1 in
                let list = all_where (is_a s p_statement) (b.first ∷ b.rest) in
                let less : length list ≤ length (all_where (is_part s) (children_at s q)) =
                subst (λ (l : List ℕ). length (all_where (is_a s p_statement) l) ≤ length (all_where (is_part s) (children_at s q))) b.children (fewer (is_a s p_statement) (is_part s) (λ y h. left_on (is_a s p_statement y) (is_a s p_block y) h) (children_at s q)) in
                let whole_list = take_whole (reach (kind_of b.core)) list (omega (arith, less, many, allowed_is, limit_is)) in
                let has : Has list c = subst (λ (l : List ℕ). Has (all_where (is_a s p_statement) l) c) b.children (has_where (is_a s p_statement) (children_at s q) c child (statement_of b.first b.rest b.children b.lf)) in
                let exact : marks_all weight stops (cores_under b.core) ≡ total weight stops (before q) list = b.exact opening.0 ∙ ap (λ (l : List ℕ). total weight stops (before q) l) whole_list in
                let same = total_before q list (λ d h. child_before s senses grown are whole q d (subst (λ (l : List ℕ). Has l d) (sym b.children) (where_has (is_a s p_statement) (b.first ∷ b.rest) d h))) in
                let over = core_over b.core opening.0 in
                let own : N q ≡ marks weight stops b.core = ap (marks_of weight stops) b.sensed in
                let least = total_has list c has in
                omega (arith, exact, same, over, own, least)
              where
                statement_of : (first : ℕ) (rest : List ℕ) → children_at s q ≡ first ∷ rest → is_leaf s first ≡ true → is_a s p_statement c ≡ true
                statement_of first rest e lf = at (is_a s p_statement c) (is_a s p_block c) refl refl part
                  where
                    at : (y z : Bool) → is_a s p_statement c ≡ y → is_a s p_block c ≡ z → (y || z) ≡ true → is_a s p_statement c ≡ true
                    at true z ey ez h = ey
                    at false true ey ez h = let none = shaped.blocks q first rest is e lf in let some = some_counted (is_a s p_block) (children_at s q) c child ez in absurd (omega (arith, none, some))
                    at false false ey ez h = cc
            by (inr (inl b)) =
                let many = shaped.parts q b.first b.rest is b.children in
                let some = some_counted (is_part s) (children_at s q) c child part in
                let value : allowed s b.first ≡ 0 = allowed_expression b.first b.no_leaf b.expression in
                absurd (omega (arith, many, some, value))
              where
                allowed_expression : (first : ℕ) → is_leaf s first ≡ false → is_a s p_expression first ≡ true → allowed s first ≡ 0
                allowed_expression first lf ex = at (is_leaf s first) (is_a s p_expression first) lf ex (if has_sign s sign_semicolon first then 0 else if is_name s first then 1 else of_word (word_at s first))
                  where
                    at : (y z : Bool) → y ≡ false → z ≡ true → (n : ℕ) → (if y then n else if z then 0 else 1) ≡ 0
                    at false true ey ez n = refl
                    at true z ey ez n = cc
                    at false false ey ez n = cc
            by (inr (inr b)) =
                let many = shaped.parts q b.first b.rest is b.children in
                let value : allowed s b.first ≡ 1 = allowed_block b.first b.no_leaf b.no_expression in
                let first_child : IsChild s q b.first = (0, ap (λ (l : List ℕ). slice_get l 0) b.children) in
                let one = one_there (all_where (is_part s) (children_at s q)) c b.first (omega (arith, many, value)) (has_where (is_part s) (children_at s q) c child part)
                (has_where (is_part s) (children_at s q) b.first first_child (right_on (is_a s p_statement b.first) (is_a s p_block b.first) b.is_block)) in
                let own : N q ≡ N b.first = ap (marks_of weight stops) b.same in
                let it : N c ≡ N b.first = ap N one in
                omega (arith, own, it)
              where
                allowed_block : (first : ℕ) → is_leaf s first ≡ false → is_a s p_expression first ≡ false → allowed s first ≡ 1
                allowed_block first lf ex = at (is_leaf s first) (is_a s p_expression first) lf ex (if has_sign s sign_semicolon first then 0 else if is_name s first then 1 else of_word (word_at s first))
                  where
                    at : (y z : Bool) → y ≡ false → z ≡ false → (n : ℕ) → (if y then n else if z then 0 else 1) ≡ 1
                    at false false ey ez n = refl
                    at true z ey ez n = cc
                    at false true ey ez n = cc

        child_in : (i c : ℕ) → IsChild s i c → contains (children_at s i) c ≡ true
        child_in i c h = list_in (children_at s i) h.0 c h.1

        apart : (i a b : ℕ) → is_a s a i ≡ true → nat_eq a b ≡ false → is_a s b i ≡ false
        apart i a b h differ = ap (λ (q : ℕ). nat_eq q b) (eqb-true (production_at s i) a h) ∙ differ

        block_holds : (q c : ℕ) → q < length senses → is_a s p_block q ≡ true → IsChild s q c → is_part s c ≡ true → N c ≤ N q
        block_holds q c inside is child part =
            let shape = block_shape s senses grown are whole counted runs weight stops plain q inside is in
            let o = shape.0 in
            let list = statements_of s senses grown are whole counted runs weight stops plain q in
            let has = has_where (is_a s p_statement) (children_at s q) c child statement in
            let all = opened_weighs s senses grown are whole counted runs weight stops plain q o in
            let opening : opens (kind_of o.core) ≡ true = ap opens shape.2 in
            let taken : take o.most list ≡ list = take_whole o.most list (let e = shape.1 in omega (arith, e)) in
            let value : cond (goes_in weight stops (kind_of o.core)) (T s senses grown are whole counted runs weight stops plain (take o.most list)) 0 ≡ T s senses grown are whole counted runs weight stops plain list =
            ap (λ (b : Bool). cond b (T s senses grown are whole counted runs weight stops plain (take o.most list)) 0) (opens_in (kind_of o.core) opening) ∙ ap (λ (l : List ℕ). T s senses grown are whole counted runs weight stops plain l) taken in
            let own : N q ≡ marks weight stops o.core = ap (marks_of weight stops) o.sensed in
            let least = total_has list c has in
            omega (arith, all, value, own, least)
          where
            statement : is_a s p_statement c ≡ true
            statement = at (is_a s p_statement c) (is_a s p_block c) refl refl part
              where
                at : (y z : Bool) → is_a s p_statement c ≡ y → is_a s p_block c ≡ z → (y || z) ≡ true → is_a s p_statement c ≡ true
                at true z ey ez h = ey
                at false true ey ez h = absurd (neither (is_a s p_external q) (is_a s p_statement q) (apart q p_block p_external is refl) (apart q p_block p_statement is refl) (grown.nested.blocks q c (child_in q c child) ez))
                at false false ey ez h = cc

        -- ---- up to the body

        module _ (top : ℕ) (outer : is_a s p_block top ≡ true) (top_inside : top < length senses) where
          outer_within : inner top ≡ true
          outer_within = right_on (is_a s p_statement top) (is_a s p_block top) outer

          no_external : (q : ℕ) → is_a s p_external q ≡ true → Beneath s top q → ⊥
          no_external q external itself = neither (is_a s p_statement q) (is_a s p_block q) (apart q p_external p_statement external refl) (apart q p_external p_block external refl) outer_within
          no_external q external (under {q = r} part itself) =
              let root = grown.nested.externals r q (child_in r q part) external in
              neither (is_a s p_statement r) (is_a s p_block r) (apart r p_unit p_statement root refl) (apart r p_unit p_block root refl) outer_within
          no_external q external (under {q = r} part (under {q = t} up more)) =
              let root = grown.nested.externals r q (child_in r q part) external in
              let none = grown.nested.units t r (child_in t r up) in
              let never : true ≡ false = sym root ∙ none in
              cc

          within_above : (q i : ℕ) → IsChild s q i → inner i ≡ true → Beneath s top q → inner q ≡ true
          within_above q i part is above = by (is_a s p_statement i) (is_a s p_block i) refl refl is
            where
              block_above : (a b : Bool) → is_a s p_external q ≡ a → is_a s p_statement q ≡ b → (a || b) ≡ true → inner q ≡ true
              block_above true b ea eb h = absurd (no_external q ea above)
              block_above false true ea eb h = left_on (is_a s p_statement q) (is_a s p_block q) eb
              block_above false false ea eb h = cc

              statement_above : (a b : Bool) → is_a s p_block q ≡ a → is_a s p_statement q ≡ b → (a || b) ≡ true → inner q ≡ true
              statement_above true b ea eb h = right_on (is_a s p_statement q) (is_a s p_block q) ea
              statement_above false true ea eb h = left_on (is_a s p_statement q) (is_a s p_block q) eb
              statement_above false false ea eb h = cc

              by : (a b : Bool) → is_a s p_statement i ≡ a → is_a s p_block i ≡ b → (a || b) ≡ true → inner q ≡ true
              by true b ea eb h = statement_above (is_a s p_block q) (is_a s p_statement q) refl refl (grown.nested.statements q i (child_in q i part) ea)
              by false true ea eb h = block_above (is_a s p_external q) (is_a s p_statement q) refl refl (grown.nested.blocks q i (child_in q i part) eb)
              by false false ea eb h = cc

          child_within : (i c : ℕ) → IsChild s i c → i < length senses
          child_within i c h = let lt = child_inside (slice_get s.nodes i) s.nodes i h.0 c refl h.1 in omega (arith, lt, whole)

          -- the body's tree weighs no less than that of each statement beneath
          pub body_holds : (c : ℕ) → inner c ≡ true → Beneath s top c → N c ≤ N top
          body_holds c is itself = omega arith
          body_holds c is (under {q = q} part above) =
              let higher = within_above q c part is above in
              let later = body_holds q higher above in
              let own : N c ≤ N q = by q part (is_a s p_statement q) (is_a s p_block q) refl refl higher in
              omega (arith, later, own)
            where
              by : (q : ℕ) → IsChild s q c → (a b : Bool) → is_a s p_statement q ≡ a → is_a s p_block q ≡ b → (a || b) ≡ true → N c ≤ N q
              by q part true b ea eb h = statement_holds q c (child_within q c part) ea part is
              by q part false true ea eb h = block_holds q c (child_within q c part) eb part is
              by q part false false ea eb h = cc
