-- Of statements of which one alone is marked, no tree has two marks.
use Rattle.std.proofs.Common.{arith, ◌≡◌, ◌<◌, ◌≤◌, ◌+◌, ℕ, zero, suc, Bool, true, false, ◌&&◌, ◌||◌, not, cond, List, [], ◌∷◌, take, length, Option, Some, None, slice_get, refl, sym, ap, ◌∙◌, subst, ◌⊎◌, inl, inr}
use Rattle.std.specs.Prelude.{ℤ, pos}
use Rattle.std.specs.Ordering.{int_eq}
use Rattle.pta_base.specs.declared.kind.Kind.TheVariants.{Operand}
use Rattle.core_tree.specs.declared.node.NodeKind.{NodeKind}
use Rattle.core_tree.specs.declared.node.NodeKind.TheVariants.{Block}
use Rattle.core_tree.specs.Rows.{Has}
use Rattle.c_grammar.specs.Productions.{p_declaration, p_assert, p_block, p_statement, p_expression, p_conditional}
use Rattle.c_grammar.specs.Reads.{leaf}
use Rattle.c_grammar.specs.Words.{word_case, word_default, word_switch, word_while, word_do, word_for}
use Rattle.c_consts.specs.Core.{Core, Of, NoCores, kind_of, cores_under}
use Rattle.core_nodes.specs.passed.c_senses.Tree.{Source, is_a, is_leaf, is_name, has_word, is_number, word_at, children_at, all_where, child_of, place_at}
use Rattle.core_nodes.specs.passed.c_senses.Given.{Given, Fits, Refuses, ◌>>=◌, given_if, given_some}
use Rattle.core_nodes.specs.passed.c_senses.World.{World}
use Rattle.core_nodes.specs.passed.c_senses.Constants.{constant_in}
use Rattle.core_nodes.specs.passed.c_senses.Sense.{Sense, Nothing, IsCore, IsRun, sense_in, fits}
use Rattle.core_nodes.specs.passed.c_senses.Rows.{AreSenses}
use Rattle.core_nodes.specs.passed.c_senses.Statements.{statement, objects_in, cores_in, run_in, statements_among, statement_row, leaf_statement, expression_statement}
use Rattle.parsed_tree_laws.specs.family_laws.Families.{IsChild, Ascend}
use Rattle.parsed_tree_laws.specs.passed.sense_laws.Sound.{Gives}
use Rattle.parsed_tree_laws.specs.passed.sense_laws.Senses.{is_block_part}
use Rattle.parsed_tree_laws.specs.counted_parts.Counted.{CountedParts}
use Rattle.core_node_laws.specs.standing_laws.Standing.{IsGrown, RunsInitialise, RunsOf}
use Rattle.core_node_laws.proofs.standing_laws.Climbing.{child_inside}
use Rattle.core_node_laws.proofs.standing_laws.Kept.{opens}
use Rattle.core_node_laws.proofs.standing_laws.Descending.{F, W, row_there, sense_before, child_before, same_given}
use Rattle.parsed_tree_laws.specs.ordered_parts.Ordered.{Beneath, itself}
use Rattle.core_node_laws.proofs.marked_trees.Beneath.{where_has, where_passes, ascend_where, ascend_take, ascend_above, beneath_small, beneath_child, apart}
use Rattle.core_node_laws.specs.marked_trees.Marked.{is_mark}
use Rattle.core_node_laws.proofs.marked_trees.Marks.{number, Weight, IsPlain, marking, weight_of, reach, goes_in, marks, marks_all, marks_of, total, Exact, leaf_exact, expression_exact, block_exact, QuietPart}
use Rattle.core_node_laws.proofs.marked_trees.Earlier.{earlier}

gives_is : {A : Type 0} (P : A → Type 0) (g : Given A) (x : A) → Gives P g → g ≡ Fits x → P x
gives_is P (Fits y) x h e = let same : y ≡ x = cc in subst P same h
gives_is P (Refuses kind node) x h e = cc

fits_core : (g : Given Core) (x : Sense) → (g >>= fits) ≡ Fits x → (c : Core) × (g ≡ Fits c) × (x ≡ IsCore c)
fits_core (Fits c) x e = let same : IsCore c ≡ x = same_given (IsCore c) x e in (c, refl, sym same)
fits_core (Refuses kind node) x e = cc

left_on : (a b : Bool) → a ≡ true → (a || b) ≡ true
left_on true b e = refl
left_on false b e = cc

right_on : (a b : Bool) → b ≡ true → (a || b) ≡ true
right_on true b e = refl
right_on false b e = e

module _
    (s : Source) (senses : List Sense) (grown : IsGrown s) (are : AreSenses s senses) (whole : length senses ≡ length s.nodes) (counted : CountedParts s) (runs : RunsInitialise senses)
  where
    abbrev pub sense : ℕ → Sense
    sense i = sense_in senses i

    abbrev before : ℕ → ℕ → Sense
    before i = F s senses grown are whole i

    abbrev w : ℕ → World
    w i = W s senses grown are whole i

    abbrev pub stands_within : ℕ → Bool
    stands_within i = is_a s p_statement i || is_a s p_block i

    child_within : (i c : ℕ) → IsChild s i c → i < length senses
    child_within i c h = let lt = child_inside (slice_get s.nodes i) s.nodes i h.0 c refl h.1 in omega (arith, lt, whole)

    -- ---- what declarations and assertions stand for

    run_there : (i : ℕ) → RunsOf (sense i)
    run_there i = runs.each i

    run_before : (i c : ℕ) → RunsOf (before i c)
    run_before i c = elim (earlier senses i c) [
      | inl same ↦ subst RunsOf (sym same) (run_there c)
      | inr none ↦ subst RunsOf (sym none) tt
    ]

    quiet_leaf : (i : ℕ) → i < length senses → is_leaf s i ≡ true → QuietPart (sense i)
    quiet_leaf i inside is = let own : Fits Nothing ≡ Fits (sense i) = row_there s senses grown are whole i leaf inside is in subst QuietPart (same_given Nothing (sense i) own) tt

    quiet_declaration : (i : ℕ) → i < length senses → is_a s p_declaration i ≡ true → QuietPart (sense i)
    quiet_declaration i inside is =
        let cores = run_in (w i) s (before i) (children_at s i) in
        let own : Fits (IsRun cores) ≡ Fits (sense i) = row_there s senses grown are whole i p_declaration inside is in
        let same = same_given (IsRun cores) (sense i) own in
        subst QuietPart same (subst RunsOf (sym same) (run_there i))

    quiet_assert : (i : ℕ) → i < length senses → is_a s p_assert i ≡ true → QuietPart (sense i)
    quiet_assert i inside is = by (child_of s p_conditional i) (row_there s senses grown are whole i p_assert inside is)
      where
        value : (g : Given ℤ) → (g >>= (λ n. given_if (not (int_eq n (pos 0))) Operand i (Fits Nothing))) ≡ Fits (sense i) → QuietPart (sense i)
        value (Refuses kind node) e = cc
        value (Fits n) e = holds (not (int_eq n (pos 0))) e
          where
            holds : (b : Bool) → given_if b Operand i (Fits Nothing) ≡ Fits (sense i) → QuietPart (sense i)
            holds true e = subst QuietPart (same_given Nothing (sense i) e) tt
            holds false e = cc

        by : (o : Option ℕ) → (given_some o Operand i >>= (λ c. constant_in (w i) s i (before i c) >>= (λ n. given_if (not (int_eq n (pos 0))) Operand i (Fits Nothing)))) ≡ Fits (sense i) → QuietPart (sense i)
        by None e = cc
        by (Some c) e = value (constant_in (w i) s i (before i c)) e

    -- a part of a block that is no statement
    quiet_part : (c : ℕ) → c < length senses → is_block_part s c ≡ true → is_a s p_statement c ≡ false → QuietPart (sense c)
    quiet_part c inside part differs = by (is_leaf s c) (is_a s p_declaration c) (is_a s p_assert c) (is_a s p_statement c) refl refl refl differs part
      where
        by : (a b d e : Bool) → is_leaf s c ≡ a → is_a s p_declaration c ≡ b → is_a s p_assert c ≡ d → e ≡ false → (a || (b || (d || e))) ≡ true → QuietPart (sense c)
        by true b d e ea eb ed ee h = quiet_leaf c inside ea
        by false true d e ea eb ed ee h = quiet_declaration c inside eb
        by false false true e ea eb ed ee h = quiet_assert c inside ed
        by false false false true ea eb ed ee h = cc
        by false false false false ea eb ed ee h = cc

    module _ (weight : Weight) (stops : NodeKind → Bool) (plain : IsPlain weight) where
      abbrev pub M : ℕ → ℕ
      M i = marks_of weight stops (sense i)

      abbrev pub T : List ℕ → ℕ
      T list = total weight stops sense list

      abbrev m : Core → ℕ
      m = marks weight stops

      total_same : (i : ℕ) (list : List ℕ) → ((c : ℕ) → Has list c → c < i) → total weight stops (before i) list ≡ T list
      total_same i [] h = refl
      total_same i (c ∷ list) h =
          let own : marks_of weight stops (before i c) ≡ M c = ap (marks_of weight stops) (sense_before s senses grown are whole i c (h c (0, refl))) in
          let later = total_same i list (λ d k. h d (suc k.0, k.1)) in
          omega (arith, own, later)

      total_take : (n : ℕ) (list : List ℕ) → T (take n list) ≤ T list
      total_take zero list = omega arith
      total_take (suc n) [] = omega arith
      total_take (suc n) (c ∷ list) = let later = total_take n list in omega (arith, later)

      pub take_has : (n : ℕ) (list : List ℕ) (c : ℕ) → Has (take n list) c → Has list c
      take_has zero list c h = cc
      take_has (suc n) [] c h = cc
      take_has (suc n) (x ∷ list) c (zero, e) = (0, e)
      take_has (suc n) (x ∷ list) c (suc k, e) = let more = take_has n list c (k, e) in (suc more.0, more.1)

      abbrev pub statements_of : ℕ → List ℕ
      statements_of i = all_where (is_a s p_statement) (children_at s i)

      pub statement_child : (i c : ℕ) → Has (statements_of i) c → IsChild s i c × (is_a s p_statement c ≡ true)
      statement_child i c h = (where_has (is_a s p_statement) (children_at s i) c h, where_passes (is_a s p_statement) (children_at s i) c h)

      -- ---- what a statement or a block stands for

      -- a statement that a leaf begins, or a block: its marks by its kind and its statements
      pub record Opened (i : ℕ) : Type 0 where
        pub core : Core
        pub sensed : sense i ≡ IsCore core
        pub most : ℕ
        pub exact : opens (kind_of core) ≡ true → marks_all weight stops (cores_under core) ≡ T (take most (statements_of i))

      -- an expression
      pub record Shut (i : ℕ) : Type 0 where
        pub core : Core
        pub sensed : sense i ≡ IsCore core
        pub none : m core ≡ 0
        pub shut : opens (kind_of core) ≡ false

      -- a statement that is a block
      pub record Blocked (i : ℕ) : Type 0 where
        pub block : ℕ
        pub child : IsChild s i block
        pub is_block : is_a s p_block block ≡ true
        pub same : sense i ≡ sense block

      abbrev pub Shape : ℕ → Type 0
      Shape i = Opened i ⊎ (Shut i ⊎ Blocked i)

      opened : (i : ℕ) (c : Core) (n : ℕ) → sense i ≡ IsCore c → (opens (kind_of c) ≡ true → marks_all weight stops (cores_under c) ≡ total weight stops (before i) (take n (statements_of i))) → Opened i
      opened i c n is e =
          let same = total_same i (take n (statements_of i)) (λ d h. child_before s senses grown are whole i d (statement_child i d (take_has n (statements_of i) d h)).0) in
          record { core = c; sensed = is; most = n; exact = λ opens_it. e opens_it ∙ same }

      pub statement_shape : (i : ℕ) → i < length senses → is_a s p_statement i ≡ true → Shape i
      statement_shape i inside is = by (children_at s i) refl (row_there s senses grown are whole i p_statement inside is)
        where
          few_for : (first : ℕ) (rest : List ℕ) → children_at s i ≡ first ∷ rest → is_leaf s first ≡ true → word_at s first ≡ Some word_for → length (statements_among (w i) s (before i) (children_at s i)) ≤ 1
          few_for first rest e lf word =
              let has : has_word s word_for first ≡ true = ap (λ (b : Bool). b && is_number (word_at s first) word_for) lf ∙ ap (λ (o : Option ℕ). is_number o word_for) word in
              counted.begun i first rest is e
              (right_on (is_name s first) _ (right_on (has_word s word_case first) _ (right_on (has_word s word_default first) _ (right_on (has_word s word_switch first) _ (right_on (has_word s word_while first) _ (right_on (has_word s word_do first) (has_word s word_for first) has))))))

          by_leaf : (first : ℕ) (rest : List ℕ) → children_at s i ≡ first ∷ rest → (b : Bool) → is_leaf s first ≡ b → (x : Bool) → is_a s p_expression first ≡ x
              → cond b (leaf_statement (w i) s (before i) i first (first ∷ rest) >>= fits) (cond x (expression_statement (w i) s (before i) i first >>= fits) (Fits (before i first))) ≡ Fits (sense i) → Shape i
          by_leaf first rest e true lf x ex row =
              let got = fits_core (leaf_statement (w i) s (before i) i first (first ∷ rest)) (sense i) row in
              let own =
              leaf_exact weight stops plain (w i) s (before i) i (first ∷ rest) (λ c. run_before i c) (λ word. subst (λ (l : List ℕ). length (statements_among (w i) s (before i) l) ≤ 1) e (few_for first rest e lf word)) first refl in
              let exact = gives_is (λ c. Exact weight stops plain (w i) s (before i) i (statements_among (w i) s (before i) (first ∷ rest)) c) (leaf_statement (w i) s (before i) i first (first ∷ rest)) got.0 own got.1 in
              inl (opened i got.0 (reach (kind_of got.0)) got.2 (λ opens_it. exact opens_it ∙ ap (λ (l : List ℕ). total weight stops (before i) (take (reach (kind_of got.0)) (all_where (is_a s p_statement) l))) (sym e)))
          by_leaf first rest e false lf true ex row =
              let got = fits_core (expression_statement (w i) s (before i) i first) (sense i) row in
              let own = gives_is (λ c. (m c ≡ 0) × (opens (kind_of c) ≡ false)) (expression_statement (w i) s (before i) i first) got.0 (expression_exact weight stops plain (w i) s (before i) i first) got.1 in
              inr (inl (record { core = got.0; sensed = got.2; none = own.0; shut = own.1 }))
          by_leaf first rest e false lf false ex row =
              let child : IsChild s i first = (0, ap (λ (l : List ℕ). slice_get l 0) e) in
              let block = grown.statements.begins i first rest is e lf ex in
              inr (inr (record { block = first; child = child; is_block = block; same = sym (same_given (before i first) (sense i) row) ∙ sense_before s senses grown are whole i first (child_before s senses grown are whole i first child) }))

          by : (children : List ℕ) → children_at s i ≡ children → statement_row (w i) s (before i) i (children_at s i) ≡ Fits (sense i) → Shape i
          by [] e row = let none : Refuses Operand i ≡ Fits (sense i) = subst (λ (l : List ℕ). statement_row (w i) s (before i) i l ≡ Fits (sense i)) e row in cc
          by (first ∷ rest) e row = by_leaf first rest e (is_leaf s first) refl (is_a s p_expression first) refl (subst (λ (l : List ℕ). statement_row (w i) s (before i) i l ≡ Fits (sense i)) e row)

      take_all : (list : List ℕ) → take (length list) list ≡ list
      take_all [] = refl
      take_all (c ∷ list) = ap (λ (l : List ℕ). c ∷ l) (take_all list)

      pub block_shape : (i : ℕ) → i < length senses → is_a s p_block i ≡ true → (o : Opened i) × (o.most ≡ length (statements_of i)) × (kind_of o.core ≡ Block (objects_in (w i) s (before i) (children_at s i)))
      unfolding opened
      block_shape i inside is =
          let objects = objects_in (w i) s (before i) (children_at s i) in
          let under = cores_in (w i) s (before i) (children_at s i) in
          let block : Core = statement (Block objects) (place_at s i) under in
          let own : Fits (IsCore block) ≡ Fits (sense i) = row_there s senses grown are whole i p_block inside is in
          let same = same_given (IsCore block) (sense i) own in
          let parts : (j : ℕ) → Has (children_at s i) j → is_a s p_statement j ≡ false → QuietPart (before i j) =
          λ j h differs.
          subst QuietPart (sym (sense_before s senses grown are whole i j (child_before s senses grown are whole i j h)))
          (quiet_part j (let lt = child_before s senses grown are whole i j h in omega (arith, lt, inside)) (grown.statements.blocks i h.0 j is h.1) differs) in
          let exact = block_exact weight stops plain (w i) s (before i) i (children_at s i) (λ c. run_before i c) parts in
          let all = take_all (statements_of i) in (
            opened i block (length (statements_of i)) (sym same)
                (λ opens_it. exact ∙ ap (λ (l : List ℕ). total weight stops (before i) l) (sym all)),
            refl,
            refl,
          )

      -- what a tree weighs by what stands in it
      pub weighs : (c : Core) → m c ≡ weight_of weight c + cond (goes_in weight stops (kind_of c)) (marks_all weight stops (cores_under c)) 0
      weighs (Of kind place type parts) = refl

      goes_opens : (a b : Bool) → (a && b) ≡ true → a ≡ true
      goes_opens true b e = refl
      goes_opens false b e = cc

      pub opened_weighs : (i : ℕ) (o : Opened i) → m o.core ≡ weight_of weight o.core + cond (goes_in weight stops (kind_of o.core)) (T (take o.most (statements_of i))) 0
      opened_weighs i o = weighs o.core ∙ by (goes_in weight stops (kind_of o.core)) refl
        where
          by : (b : Bool) → goes_in weight stops (kind_of o.core) ≡ b → weight_of weight o.core + cond b (marks_all weight stops (cores_under o.core)) 0 ≡ weight_of weight o.core + cond b (T (take o.most (statements_of i))) 0
          by false e = refl
          by true e = ap (λ (n : ℕ). weight_of weight o.core + n) (o.exact (goes_opens (opens (kind_of o.core)) (not (stops (kind_of o.core))) e))

      -- ---- where no statement weighs anything

      module _ (free : (i : ℕ) (c : Core) → is_a s p_statement i ≡ true → sense i ≡ IsCore c → weight_of weight c ≡ 0) where
        abbrev Light : ℕ → Type 0
        Light i = stands_within i ≡ true → M i ≡ 0

        none_of : (list : List ℕ) → ((c : ℕ) → Has list c → M c ≡ 0) → T list ≡ 0
        none_of [] h = refl
        none_of (c ∷ list) h = let own = h c (0, refl) in let later = none_of list (λ d k. h d (suc k.0, k.1)) in omega (arith, own, later)

        cond_none : (b : Bool) (n : ℕ) → n ≡ 0 → cond b n 0 ≡ 0
        cond_none true n e = e
        cond_none false n e = refl

        opened_none : (i : ℕ) → (o : Opened i) → weight_of weight o.core ≡ 0 → ((c : ℕ) → c < i → Light c) → M i ≡ 0
        opened_none i o own lower =
            let below = none_of (take o.most (statements_of i)) (λ c h.
            let part = statement_child i c (take_has o.most (statements_of i) c h) in
            lower c (child_before s senses grown are whole i c part.0) (left_on (is_a s p_statement c) (is_a s p_block c) part.1)) in
            let all = opened_weighs i o in
            let rest = cond_none (goes_in weight stops (kind_of o.core)) (T (take o.most (statements_of i))) below in
            let same : M i ≡ m o.core = ap (marks_of weight stops) o.sensed in
            omega (arith, same, all, own, rest)

        none_at : (i : ℕ) → i < length senses → ((c : ℕ) → c < i → Light c) → Light i
        none_at i inside lower h = by (is_a s p_statement i) (is_a s p_block i) refl refl h
          where
            shaped : is_a s p_statement i ≡ true → Shape i → M i ≡ 0
            shaped is (inl o) = opened_none i o (free i o.core is o.sensed) lower
            shaped is (inr (inl o)) = ap (marks_of weight stops) o.sensed ∙ o.none
            shaped is (inr (inr o)) = ap (marks_of weight stops) o.same ∙ lower o.block (child_before s senses grown are whole i o.block o.child) (right_on (is_a s p_statement o.block) (is_a s p_block o.block) o.is_block)

            by : (a b : Bool) → is_a s p_statement i ≡ a → is_a s p_block i ≡ b → (a || b) ≡ true → M i ≡ 0
            by true b ea eb h = shaped ea (statement_shape i inside ea)
            by false true ea eb h =
                let shape = block_shape i inside eb in
                opened_none i shape.0 (plain_weight shape.0.core (ap is_mark shape.2)) lower
              where
                plain_weight : (c : Core) → is_mark (kind_of c) ≡ false → weight_of weight c ≡ 0
                plain_weight (Of kind place type parts) e = plain kind parts e
            by false false ea eb h = cc

        nothing_up_to : (n i : ℕ) → i < n → i < length senses → Light i
        nothing_up_to zero i lt inside = absurd (omega (arith, lt))
        nothing_up_to (suc n) i lt inside = none_at i inside (λ c below. nothing_up_to n c (omega (arith, lt, below)) (omega (arith, below, inside)))

        pub no_marks : (i : ℕ) → i < length senses → stands_within i ≡ true → M i ≡ 0
        no_marks i inside is = nothing_up_to (suc i) i (omega arith) inside is

    -- ---- where one statement alone is marked

    module _ (marked : NodeKind → Bool) (stops : NodeKind → Bool) (plain : IsPlain (marking marked)) where
      abbrev N : ℕ → ℕ
      N i = M (marking marked) stops plain i

      abbrev S : List ℕ → ℕ
      S list = T (marking marked) stops plain list

      marking_is : (c : Core) → weight_of (marking marked) c ≡ number (marked (kind_of c))
      marking_is (Of kind place type parts) = refl

      unmarked : (kind : NodeKind) → is_mark kind ≡ false → marked kind ≡ false
      unmarked kind e = by (marked kind) (plain kind NoCores e)
        where
          by : (b : Bool) → number b ≡ 0 → b ≡ false
          by true e = absurd (omega (arith, e))
          by false e = refl

      -- where a tree has a mark, a statement beneath stands for it
      pub record FoundMark (i : ℕ) : Type 0 where
        pub statement : ℕ
        pub beneath : Beneath s i statement
        pub is : is_a s p_statement statement ≡ true
        pub core : Core
        pub sensed : sense statement ≡ IsCore core
        pub mark : marked (kind_of core) ≡ true

      up_one : (i c : ℕ) → IsChild s i c → FoundMark c → FoundMark i
      up_one i c child f = record { statement = f.statement; beneath = beneath_child s grown.first grown.families i c f.statement child f.beneath; is = f.is; core = f.core; sensed = f.sensed; mark = f.mark }

      among_marks : (i : ℕ) (list : List ℕ) → ((c : ℕ) → Has list c → IsChild s i c × (1 ≤ N c → FoundMark c)) → 1 ≤ S list → FoundMark i
      among_marks i [] each h = absurd (omega (arith, h))
      among_marks i (c ∷ list) each h = by (N c) refl (λ k. among_marks i list (λ d hd. each d (suc hd.0, hd.1)) k)
        where
          by : (a : ℕ) → N c ≡ a → (1 ≤ S list → FoundMark i) → FoundMark i
          by zero e later = later (omega (arith, e, h))
          by (suc a) e later = let own = each c (0, refl) in up_one i c own.0 (own.1 (omega (arith, e)))

      module _ (i : ℕ) (inside : i < length senses) (lower : (c : ℕ) → c < i → stands_within c ≡ true → 1 ≤ N c → FoundMark c) where
        opened_found : (o : Opened (marking marked) stops plain i) → (marked (kind_of o.core) ≡ true → is_a s p_statement i ≡ true) → 1 ≤ N i → FoundMark i
        opened_found o statement h = by (marked (kind_of o.core)) refl (goes_in (marking marked) stops (kind_of o.core)) refl
          where
            all_is : marks (marking marked) stops o.core ≡ number (marked (kind_of o.core)) + cond (goes_in (marking marked) stops (kind_of o.core)) (S (take o.most (statements_of (marking marked) stops plain i))) 0
            all_is =
                opened_weighs (marking marked) stops plain i o
                ∙ ap (λ (n : ℕ). n + cond (goes_in (marking marked) stops (kind_of o.core)) (S (take o.most (statements_of (marking marked) stops plain i))) 0) (marking_is o.core)

            m_is : N i ≡ marks (marking marked) stops o.core
            m_is = ap (marks_of (marking marked) stops) o.sensed

            by : (a : Bool) → marked (kind_of o.core) ≡ a → (b : Bool) → goes_in (marking marked) stops (kind_of o.core) ≡ b → FoundMark i
            by true ea b eb = record { statement = i; beneath = itself; is = statement ea; core = o.core; sensed = o.sensed; mark = ea }
            by false ea false eb =
                let value : marks (marking marked) stops o.core ≡ 0 = all_is ∙ (ap (λ (x : Bool). number x + cond (goes_in (marking marked) stops (kind_of o.core)) (S (take o.most (statements_of (marking marked) stops plain i))) 0) ea ∙ ap (λ (x : Bool). 0 + cond x (S (take o.most (statements_of (marking marked) stops plain i))) 0) eb) in
                absurd (omega (arith, m_is, value, h))
            by false ea true eb =
                let value : marks (marking marked) stops o.core ≡ 0 + S (take o.most (statements_of (marking marked) stops plain i)) = all_is ∙ (ap (λ (x : Bool). number x + cond (goes_in (marking marked) stops (kind_of o.core)) (S (take o.most (statements_of (marking marked) stops plain i))) 0) ea ∙ ap (λ (x : Bool). 0 + cond x (S (take o.most (statements_of (marking marked) stops plain i))) 0) eb) in
                among_marks i (take o.most (statements_of (marking marked) stops plain i))
                (λ c hc.
                let part = statement_child (marking marked) stops plain i c (take_has (marking marked) stops plain o.most (statements_of (marking marked) stops plain i) c hc) in
                (part.0, λ k. lower c (child_before s senses grown are whole i c part.0) (left_on (is_a s p_statement c) (is_a s p_block c) part.1) k))
                (omega (arith, m_is, value, h))

        found_at : stands_within i ≡ true → 1 ≤ N i → FoundMark i
        found_at is h = by (is_a s p_statement i) (is_a s p_block i) refl refl is
          where
            shaped : is_a s p_statement i ≡ true → Shape (marking marked) stops plain i → FoundMark i
            shaped st (inl o) = opened_found o (λ e. st) h
            shaped st (inr (inl o)) = let none : N i ≡ 0 = ap (marks_of (marking marked) stops) o.sensed ∙ o.none in absurd (omega (arith, none, h))
            shaped st (inr (inr o)) =
                let same : N i ≡ N o.block = ap (marks_of (marking marked) stops) o.same in
                up_one i o.block o.child (lower o.block (child_before s senses grown are whole i o.block o.child) (right_on (is_a s p_statement o.block) (is_a s p_block o.block) o.is_block) (omega (arith, same, h)))

            by : (a b : Bool) → is_a s p_statement i ≡ a → is_a s p_block i ≡ b → (a || b) ≡ true → FoundMark i
            by true b ea eb k = shaped ea (statement_shape (marking marked) stops plain i inside ea)
            by false true ea eb k =
                let shape = block_shape (marking marked) stops plain i inside eb in
                let none : marked (kind_of shape.0.core) ≡ false = ap marked shape.2 ∙ unmarked (Block _) refl in
                opened_found shape.0 (λ e. let never : true ≡ false = sym e ∙ none in cc) h
            by false false ea eb k = cc

      found_up_to : (n i : ℕ) → i < n → i < length senses → stands_within i ≡ true → 1 ≤ N i → FoundMark i
      found_up_to zero i lt inside is h = absurd (omega (arith, lt))
      found_up_to (suc n) i lt inside is h = found_at i inside (λ c below within k. found_up_to n c (omega (arith, lt, below)) (omega (arith, below, inside)) within k) is h

      pub found_mark : (i : ℕ) → i < length senses → stands_within i ≡ true → 1 ≤ N i → FoundMark i
      found_mark i inside is h = found_up_to (suc i) i (omega arith) inside is h

      module _
          (In : ℕ → Type 0) (p : ℕ) (sole : (i : ℕ) (c : Core) → In i → is_a s p_statement i ≡ true → sense i ≡ IsCore c → marked (kind_of c) ≡ true → i ≡ p)
          (onward : (i d : ℕ) (c : Core) → In i → stands_within i ≡ true → sense i ≡ IsCore c → stops (kind_of c) ≡ false → IsChild s i d → In d) (block_goes : (es : List ℕ) → stops (Block es) ≡ false)
        where
          -- a tree has one mark at most, and where it has one, that statement stands beneath
          abbrev pub Few : ℕ → Type 0
          Few i = (N i ≤ 1) × (1 ≤ N i → Beneath s i p)

          abbrev Claim : ℕ → Type 0
          Claim i = In i → stands_within i ≡ true → Few i

          pub record OneOf (i : ℕ) (list : List ℕ) : Type 0 where
            pub few : S list ≤ 1
            pub found : 1 ≤ S list → (c : ℕ) × Has list c × Beneath s c p

          pub one_of : (i low : ℕ) (list : List ℕ) → Ascend low list → ((c : ℕ) → Has list c → IsChild s i c × Few c) → OneOf i list
          one_of i low [] asc each = record { few = omega arith; found = λ h. absurd (omega (arith, h)) }
          one_of i low (c ∷ list) asc each =
              let own = each c (0, refl) in
              let later = one_of i (suc c) list asc.1 (λ d h. each d (suc h.0, h.1)) in
              by own later (N c) refl (S list) refl
            where
              by : IsChild s i c × Few c → OneOf i list → (a : ℕ) → N c ≡ a → (b : ℕ) → S list ≡ b → OneOf i (c ∷ list)
              by own later zero ea b eb = record {
                few = let le = later.few in omega (arith, ea, le);
                found = λ h. let more = later.found (omega (arith, ea, h)) in (more.0, (suc more.1.0, more.1.1), more.2);
              }
              by own later (suc a) ea zero eb = record {
                few = let le = own.1.0 in omega (arith, eb, le);
                found = λ h. (c, (0, refl), own.1.1 (omega (arith, ea)));
              }
              by own later (suc a) ea (suc b) eb =
                  let here = own.1.1 (omega (arith, ea)) in
                  let there = later.found (omega (arith, eb)) in
                  let other = each there.0 (suc there.1.0, there.1.1) in
                  let same = apart s grown.first grown.families i c there.0 p own.0 other.0 here there.2 in
                  let above = ascend_above (suc c) list there.0 asc.1 there.1 in
                  absurd (omega (arith, same, above))

          module _ (i : ℕ) (inside : i < length senses) (lower : (c : ℕ) → c < i → Claim c) where
            child_few : (c : ℕ) → (core : Core) → In i → stands_within i ≡ true → sense i ≡ IsCore core → stops (kind_of core) ≡ false → IsChild s i c → stands_within c ≡ true → Few c
            child_few c core at is sensed goes child part = lower c (child_before s senses grown are whole i c child) (onward i c core at is sensed goes child) part

            goes_of : (a b : Bool) → (a && not b) ≡ true → b ≡ false
            goes_of true false e = refl
            goes_of true true e = cc
            goes_of false b e = cc

            -- what is opened, marked or not
            opened_few : (o : Opened (marking marked) stops plain i) → In i → stands_within i ≡ true → (marked (kind_of o.core) ≡ true → i ≡ p) → Few i
            opened_few o at is own = by (marked (kind_of o.core)) refl (goes_in (marking marked) stops (kind_of o.core)) refl
              where
                all_is : marks (marking marked) stops o.core ≡ number (marked (kind_of o.core)) + cond (goes_in (marking marked) stops (kind_of o.core)) (S (take o.most (statements_of (marking marked) stops plain i))) 0
                all_is =
                    opened_weighs (marking marked) stops plain i o
                    ∙ ap (λ (n : ℕ). n + cond (goes_in (marking marked) stops (kind_of o.core)) (S (take o.most (statements_of (marking marked) stops plain i))) 0) (marking_is o.core)

                m_is : N i ≡ marks (marking marked) stops o.core
                m_is = ap (marks_of (marking marked) stops) o.sensed

                asc : Ascend 0 (take o.most (statements_of (marking marked) stops plain i))
                asc = ascend_take o.most 0 (statements_of (marking marked) stops plain i) (ascend_where (is_a s p_statement) 0 (children_at s i) (grown.families.ascend i))

                below : goes_in (marking marked) stops (kind_of o.core) ≡ true → OneOf i (take o.most (statements_of (marking marked) stops plain i))
                below goes =
                    one_of i 0 (take o.most (statements_of (marking marked) stops plain i)) asc
                    (λ c h.
                    let part = statement_child (marking marked) stops plain i c (take_has (marking marked) stops plain o.most (statements_of (marking marked) stops plain i) c h) in
                    (part.0, child_few c o.core at is o.sensed (goes_of (opens (kind_of o.core)) (stops (kind_of o.core)) goes) part.0 (left_on (is_a s p_statement c) (is_a s p_block c) part.1)))

                by : (a : Bool) → marked (kind_of o.core) ≡ a → (b : Bool) → goes_in (marking marked) stops (kind_of o.core) ≡ b → Few i
                by false ea false eb =
                    let value : marks (marking marked) stops o.core ≡ 0 = all_is ∙ (ap (λ (x : Bool). number x + cond (goes_in (marking marked) stops (kind_of o.core)) (S (take o.most (statements_of (marking marked) stops plain i))) 0) ea ∙ ap (λ (x : Bool). 0 + cond x (S (take o.most (statements_of (marking marked) stops plain i))) 0) eb) in
                    (omega (arith, m_is, value), λ h. absurd (omega (arith, m_is, value, h)))
                by true ea false eb =
                    let value : marks (marking marked) stops o.core ≡ 1 = all_is ∙ (ap (λ (x : Bool). number x + cond (goes_in (marking marked) stops (kind_of o.core)) (S (take o.most (statements_of (marking marked) stops plain i))) 0) ea ∙ ap (λ (x : Bool). 1 + cond x (S (take o.most (statements_of (marking marked) stops plain i))) 0) eb) in
                    (omega (arith, m_is, value), λ h. subst (λ (x : ℕ). Beneath s i x) (own ea) itself)
                by false ea true eb =
                    let value : marks (marking marked) stops o.core ≡ 0 + S (take o.most (statements_of (marking marked) stops plain i)) = all_is ∙ (ap (λ (x : Bool). number x + cond (goes_in (marking marked) stops (kind_of o.core)) (S (take o.most (statements_of (marking marked) stops plain i))) 0) ea ∙ ap (λ (x : Bool). 0 + cond x (S (take o.most (statements_of (marking marked) stops plain i))) 0) eb) in
                    let some = below eb in (
                      let few = some.few in omega (arith, m_is, value, few),
                      λ h.
                          let one = some.found (omega (arith, m_is, value, h)) in
                          beneath_child s grown.first grown.families i one.0 p (statement_child (marking marked) stops plain i one.0 (take_has (marking marked) stops plain o.most (statements_of (marking marked) stops plain i) one.0 one.1)).0 one.2,
                    )
                by true ea true eb =
                    let value : marks (marking marked) stops o.core ≡ 1 + S (take o.most (statements_of (marking marked) stops plain i)) = all_is ∙ (ap (λ (x : Bool). number x + cond (goes_in (marking marked) stops (kind_of o.core)) (S (take o.most (statements_of (marking marked) stops plain i))) 0) ea ∙ ap (λ (x : Bool). 1 + cond x (S (take o.most (statements_of (marking marked) stops plain i))) 0) eb) in
                    let some = below eb in
                    let same = own ea in
                    let none : S (take o.most (statements_of (marking marked) stops plain i)) ≡ 0 =
                    no_more (S (take o.most (statements_of (marking marked) stops plain i)))
                    (λ h.
                    let one = some.found h in
                    let child = (statement_child (marking marked) stops plain i one.0 (take_has (marking marked) stops plain o.most (statements_of (marking marked) stops plain i) one.0 one.1)).0 in
                    let lt = child_before s senses grown are whole i one.0 child in
                    let le = beneath_small s grown.first grown.families one.0 p one.2 in
                    omega (arith, lt, le, same)) in
                    (omega (arith, m_is, value, none), λ h. subst (λ (x : ℕ). Beneath s i x) same itself)
                  where
                    no_more : (n : ℕ) → (1 ≤ n → ⊥) → n ≡ 0
                    no_more zero h = refl
                    no_more (suc n) h = absurd (h (omega arith))

            statement_few : In i → is_a s p_statement i ≡ true → Few i
            statement_few at is = by (statement_shape (marking marked) stops plain i inside is)
              where
                within : stands_within i ≡ true
                within = left_on (is_a s p_statement i) (is_a s p_block i) is

                by : Shape (marking marked) stops plain i → Few i
                by (inl o) = opened_few o at within (λ e. sole i o.core at is o.sensed e)
                by (inr (inl o)) =
                    let value : N i ≡ 0 = ap (marks_of (marking marked) stops) o.sensed ∙ o.none in
                    (omega (arith, value), λ h. absurd (omega (arith, value, h)))
                by (inr (inr o)) =
                    let inner = child_within i o.block o.child in
                    let lt = child_before s senses grown are whole i o.block o.child in
                    let shape = block_shape (marking marked) stops plain o.block (omega (arith, lt, inner)) o.is_block in
                    let goes : stops (kind_of shape.0.core) ≡ false = ap stops shape.2 ∙ block_goes _ in
                    let own = child_few o.block shape.0.core at within (o.same ∙ shape.0.sensed) goes o.child (right_on (is_a s p_statement o.block) (is_a s p_block o.block) o.is_block) in
                    let same : N i ≡ N o.block = ap (marks_of (marking marked) stops) o.same in
                    (let le = own.0 in omega (arith, same, le), λ h. beneath_child s grown.first grown.families i o.block p o.child (own.1 (omega (arith, same, h))))

            block_few : In i → is_a s p_block i ≡ true → Few i
            block_few at is =
                let shape = block_shape (marking marked) stops plain i inside is in
                let none : marked (kind_of shape.0.core) ≡ false = ap marked shape.2 ∙ unmarked (Block _) refl in
                opened_few shape.0 at (right_on (is_a s p_statement i) (is_a s p_block i) is) (λ e. let never : true ≡ false = sym e ∙ none in cc)

            claim : Claim i
            claim at is = by (is_a s p_statement i) (is_a s p_block i) refl refl is
              where
                by : (a b : Bool) → is_a s p_statement i ≡ a → is_a s p_block i ≡ b → (a || b) ≡ true → Few i
                by true b ea eb h = statement_few at ea
                by false true ea eb h = block_few at eb
                by false false ea eb h = cc

          up_to : (n i : ℕ) → i < n → i < length senses → Claim i
          up_to zero i lt inside = absurd (omega (arith, lt))
          up_to (suc n) i lt inside = claim i inside (λ c below. up_to n c (omega (arith, lt, below)) (omega (arith, below, inside)))

          -- each statement and each block there
          pub few_marks : (i : ℕ) → i < length senses → In i → stands_within i ≡ true → Few i
          few_marks i inside at is = up_to (suc i) i (omega arith) inside at is
