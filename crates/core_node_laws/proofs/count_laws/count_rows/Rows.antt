-- The nodes of the row of every production.
use Rattle.std.proofs.Common.{arith, ◌≡◌, refl, sym, ap, ◌∙◌, subst, ◌≤◌, ◌+◌, true, false, ◌==◌, ℕ, Bool, ◌&&◌, ◌||◌, not, List, [], ◌∷◌, Option, Some, None}
use Rattle.std.specs.Prelude.{nat_le, is_some, if◌then◌else◌}
use Rattle.pta_base.specs.declared.kind.Kind.TheVariants.{Operand, InlineDefinition}
use Rattle.c_types.specs.Trees.{Ctype}
use Rattle.c_grammar.specs.Productions.{p_rest, p_declaration, p_assert, p_specs, p_align, p_type, p_struct, p_members, p_member, p_field, p_enum, p_enumerator, p_declarator, p_abstract, p_either, p_suffix, p_parameter, p_type_name, p_init, p_items, p_designator, p_block, p_statement, p_expression, p_primary, p_conditional}
use Rattle.c_grammar.specs.Words.{word_inline, word_static}
use Rattle.c_consts.specs.Core.{Core}
use Rattle.c_senses.specs.Tree.{Source, is_a, child_of, parent_of}
use Rattle.c_senses.specs.Given.{Given, Fits, Refuses, given_if}
use Rattle.c_senses.specs.World.{World, has_size}
use Rattle.c_senses.specs.Constants.{constant_in}
use Rattle.c_senses.specs.Sense.{Sense, Nothing, IsDeclarator, IsMembers, IsRun, IsInitial}
use Rattle.c_senses.specs.Declarators.{is_outermost, base_type, derived, adjusted, plain_declarator_row}
use Rattle.c_senses.specs.Entities.{named_row, parameter_named, initialiser_of, words_go, is_same_again, has_one_linkage, internal_fits, is_name_complete, definition_row, is_void_type, result_of, has_function_word, has_storage, is_defined}
use Rattle.c_senses.specs.Statements.{runs_initialiser, initials_among, run_in, assert_row, block_row}
use Rattle.c_senses.specs.Rows.{at_its_name, declarator_row, declaring_row, row_of}
use Rattle.std.proofs.lemmas.Bool.{eqb-true}
use Rattle.c_grammar.specs.Productions.{p_post, p_unary, p_cast, p_assignment}
use Rattle.c_senses.specs.Tags.{members_among}
use Rattle.c_senses.specs.Expressions.{is_binary, expression_row}
use Rattle.core_node_laws.specs.count_laws.count_rows.Counts.{Count, count_in, count_all, count_of, count_full}
use Rattle.core_node_laws.specs.count_laws.count_rows.Covers.{IsIn, is_one, is_summed, stays, made_by, Covers, GivesMost, RowsCount}
use Rattle.core_node_laws.proofs.count_laws.count_rows.Giving.{Gives, then_gives, after, if_given, some_given, if_holds}
use Rattle.core_node_laws.proofs.count_laws.count_rows.Lists.{T}
use Rattle.core_node_laws.proofs.count_laws.count_rows.Expressions.{SenseMost, binary_kept, primary_kept, post_kept, unary_kept, cast_row_kept, conditional_kept, assignment_kept}
use Rattle.core_node_laws.proofs.count_laws.count_rows.Initialised.{FullMost, designator_kept, init_kept, items_kept}
use Rattle.core_node_laws.proofs.count_laws.count_rows.Statements.{block_kept, statement_kept}
use Rattle.core_node_laws.proofs.count_laws.count_rows.Types.{type_kept, specs_kept, plain_kept, suffix_kept, parameter_kept, type_name_kept, struct_kept, enum_kept, member_kept, field_kept, enumerator_kept, align_kept}

-- the branches of a choice, with what the test says
if_known : {A : Type 0} (P : A → Type 0) (b : Bool) (x y : A) → (b ≡ true → P x) → (b ≡ false → P y) → P (if b then x else y)
if_known P true x y h k = h refl
if_known P false x y h k = k refl

initial_or : (n : Count) (b : Bool) (x : Sense) (cores : List Core)
    → count_all n (elim x as (λ _. List Core) [ IsInitial y l ↦ if b then y ∷ cores else cores | _ ↦ cores ]) + (elim x as (λ _. ℕ) [ IsInitial y l ↦ if b then 0 else count_in n y | _ ↦ 0 ]) ≤ count_of n x + count_all n cores
initial_or n true (IsInitial y l) cores = omega arith
initial_or n false (IsInitial y l) cores = omega arith
initial_or n b x cores = omega arith

run_or : (n : Count) (x : Sense) (cores : List Core) (k : ℕ) → count_all n cores ≤ k → count_all n (elim x as (λ _. List Core) [ IsRun own ↦ own | _ ↦ cores ]) ≤ count_of n x + k
run_or n (IsRun own) cores k h = omega arith
run_or n x cores k h = omega (arith, h)

module _ (n : Count) (m : ℕ) (w : World) (s : Source) (sense : ℕ → Sense) where
  G : Given Sense → Type 0
  G g = Gives (SenseMost n m) g

  -- a declarator at its name
  defined_gives : (t : Ctype) (leaf : ℕ) (g : Given Sense) → G g → G (definition_row w s sense t leaf g)
  unfolding G
  defined_gives t leaf g h =
      let second : Given Sense = given_if (not (has_function_word s sense word_inline leaf && not (has_storage s sense word_static leaf))) InlineDefinition leaf g in
      let complete : Bool = is_void_type w s sense (result_of w s sense t) || has_size w (result_of w s sense t) in
      if_holds (Gives (SenseMost n m)) (is_defined s sense leaf) (given_if complete Operand leaf second) g
      (if_given (SenseMost n m) complete Operand leaf second
      (if_given (SenseMost n m) (not (has_function_word s sense word_inline leaf && not (has_storage s sense word_static leaf))) InlineDefinition leaf g h)) h

  named_gives : (at leaf : ℕ) (t : Ctype) (g : Given Sense) → G g → G (named_row w s sense at leaf t g)
  unfolding G
  named_gives at leaf t g h =
      let initialised : Bool = is_some (initialiser_of s sense at) in
      let fifth : Given Sense = given_if (is_name_complete w s sense initialised t leaf) Operand leaf (definition_row w s sense t leaf g) in
      let fourth : Given Sense = given_if (internal_fits w s sense (initialised || is_defined s sense leaf) t leaf) Operand leaf fifth in
      let third : Given Sense = given_if (has_one_linkage w s sense leaf) Operand leaf fourth in
      let second : Given Sense = given_if (is_same_again w s sense t leaf) Operand leaf third in
      if_given (SenseMost n m) (words_go w s sense initialised leaf) Operand leaf second
      (if_given (SenseMost n m) (is_same_again w s sense t leaf) Operand leaf third
      (if_given (SenseMost n m) (has_one_linkage w s sense leaf) Operand leaf fourth
      (if_given (SenseMost n m) (internal_fits w s sense (initialised || is_defined s sense leaf) t leaf) Operand leaf fifth
      (if_given (SenseMost n m) (is_name_complete w s sense initialised t leaf) Operand leaf (definition_row w s sense t leaf g) (defined_gives t leaf g h)))))

  placed_gives : (at leaf : ℕ) (t a : Ctype) (g : Given Sense) → G g → (o : Option ℕ) → G (elim o as (λ _. Given Sense) [ None ↦ g | Some p ↦ if is_a s p_field p then g else (if is_a s p_parameter p then parameter_named w s sense at leaf a g else named_row w s sense at leaf t g) ])
  unfolding G
  placed_gives at leaf t a g h None = h
  placed_gives at leaf t a g h (Some p) =
      if_holds (Gives (SenseMost n m)) (is_a s p_field p) g _ h
      (if_holds (Gives (SenseMost n m)) (is_a s p_parameter p) _ _ (if_given (SenseMost n m) _ Operand leaf g h) (named_gives at leaf t g h))

  at_name_gives : (at : ℕ) (g : Given Sense) (o : Option Ctype) (x : Sense) → G g → G (at_its_name w s sense at g o x)
  unfolding G
  at_name_gives at g (Some base) (IsDeclarator (Some leaf) ds) h = if_holds (Gives (SenseMost n m)) (is_outermost s at) _ g (placed_gives at leaf (derived ds base) (adjusted (derived ds base)) g h (parent_of s at)) h
  at_name_gives at g o x h = h

  declarator_gives : (at : ℕ) (children : List ℕ) → G (declarator_row w s sense at children)
  unfolding G
  declarator_gives at children =
      then_gives (SenseMost n m) (SenseMost n m) (plain_declarator_row w s sense at children) (λ x. at_its_name w s sense at (Fits x) (base_type w s sense at) x) (plain_kept n m w s sense at children)
      (λ x h. at_name_gives at (Fits x) (base_type w s sense at) x h)

  -- what declarations run
  initials_kept : (list : List ℕ) → count_all n (initials_among w s sense list) + stays n w s sense list ≤ T n sense list
  initials_kept [] = omega arith
  initials_kept (c ∷ rest) = let h = initial_or n (runs_initialiser w s sense c) (sense c) (initials_among w s sense rest) in let k = initials_kept rest in omega (arith, h, k)

  run_kept : (list : List ℕ) → count_all n (run_in w s sense list) ≤ T n sense list
  run_kept [] = omega arith
  run_kept (c ∷ rest) = run_or n (sense c) (run_in w s sense rest) (T n sense rest) (run_kept rest)

  assert_gives : (at : ℕ) → G (assert_row w s sense at)
  unfolding G
  assert_gives at =
      some_given (SenseMost n m) (child_of s p_conditional at) Operand at _ (λ c. after (SenseMost n m) (constant_in w s at (sense c)) _ (λ x. if_given (SenseMost n m) _ Operand at (Fits Nothing) (omega arith)))

  assert_plain : (at : ℕ) → Gives (SenseMost n m) (assert_row w s sense at)
  unfolding G
  assert_plain at = assert_gives at

  declarator_plain : (at : ℕ) (children : List ℕ) → Gives (SenseMost n m) (declarator_row w s sense at children)
  unfolding G
  declarator_plain at children = declarator_gives at children

  -- ---- by production
  module _ (production at : ℕ) (children : List ℕ) (covers : Covers n w s sense production at children m) where
    M : Given Sense → Type 0
    M g = Gives (λ x. made_by n w s sense production children x ≤ m) g

    plainly : (p : ℕ) → (production == p) ≡ true → ((x : Sense) → made_by n w s sense p children x ≡ count_of n x) → (g : Given Sense) → Gives (SenseMost n m) g → M g
    unfolding M
    plainly p e plain (Fits x) h = subst (λ (q : ℕ). made_by n w s sense q children x ≤ m) (sym (eqb-true production p e)) (subst (λ (k : ℕ). k ≤ m) (sym (plain x)) h)
    plainly p e plain (Refuses kind node) h = tt

    by_tests : (a b c : Bool) → a ≡ false → b ≡ false → c ≡ false → (x : Sense) → count_of n x ≤ m → (if a || b then count_full n x else if c then count_of n x + stays n w s sense children else count_of n x) ≤ m
    by_tests true b c ea eb ec x h = cc
    by_tests false true c ea eb ec x h = cc
    by_tests false false true ea eb ec x h = cc
    by_tests false false false ea eb ec x h = h

    otherwise : (production == p_init) ≡ false → (production == p_items) ≡ false → (production == p_rest) ≡ false → (g : Given Sense) → Gives (SenseMost n m) g → M g
    unfolding M
    otherwise a b c (Fits x) h = by_tests (production == p_init) (production == p_items) (production == p_rest) a b c x h
    otherwise a b c (Refuses kind node) h = tt

    full : (p : ℕ) → (production == p) ≡ true → ((x : Sense) → made_by n w s sense p children x ≡ count_full n x) → (g : Given Sense) → Gives (FullMost n m) g → M g
    unfolding M
    full p e plain (Fits x) h = subst (λ (q : ℕ). made_by n w s sense q children x ≤ m) (sym (eqb-true production p e)) (subst (λ (k : ℕ). k ≤ m) (sym (plain x)) h)
    full p e plain (Refuses kind node) h = tt

    summed : (p : ℕ) → (production == p) ≡ true → is_summed p ≡ true → T n sense children ≤ m
    summed p e h = covers.others (ap is_summed (eqb-true production p e) ∙ h)

    single : (p : ℕ) → (production == p) ≡ true → is_one p ≡ true → (c : ℕ) → IsIn children c → count_of n (sense c) ≤ m
    single p e h = covers.one (ap is_one (eqb-true production p e) ∙ h)

    rest_gives : (production == p_rest) ≡ true → M (Fits (IsRun (initials_among w s sense children)))
    unfolding M
    rest_gives e =
        let sum = summed p_rest e refl in
        let h = initials_kept children in
        subst (λ (q : ℕ). made_by n w s sense q children (IsRun (initials_among w s sense children)) ≤ m) (sym (eqb-true production p_rest e)) (omega (arith, sum, h))

    declaring_gives : M (declaring_row w s sense production at children)
    unfolding M
    declaring_gives =
        let P : Given Sense → Type 0 = M in
        if_known P (production == p_rest) _ _ (λ e. rest_gives e)
        (λ no_rest.
        if_known P (production == p_declaration) _ _ (λ e. plainly p_declaration e (λ x. refl) (Fits (IsRun (run_in w s sense children))) (let sum = summed p_declaration e refl in let h = run_kept children in omega (arith, sum, h)))
        (λ _.
        if_known P (production == p_assert) _ _ (λ e. plainly p_assert e (λ x. refl) _ (assert_plain at))
        (λ _.
        if_known P (production == p_specs) _ _ (λ e. plainly p_specs e (λ x. refl) _ (specs_kept n m w s sense at children))
        (λ _.
        if_known P (production == p_align) _ _ (λ e. plainly p_align e (λ x. refl) _ (align_kept n m w s sense at children))
        (λ _.
        if_known P (production == p_type) _ _ (λ e. plainly p_type e (λ x. refl) _ (type_kept n m w s sense at children (summed p_type e refl)))
        (λ _.
        if_known P (production == p_struct) _ _ (λ e. plainly p_struct e (λ x. refl) _ (struct_kept n m w s sense at))
        (λ _.
        if_known P (production == p_members) _ _ (λ e. plainly p_members e (λ x. refl) (Fits (IsMembers (members_among w s sense children))) (omega arith))
        (λ _.
        if_known P (production == p_member) _ _ (λ e. plainly p_member e (λ x. refl) _ (member_kept n m w s sense at children))
        (λ _.
        if_known P (production == p_field) _ _ (λ e. plainly p_field e (λ x. refl) _ (field_kept n m w s sense at))
        (λ _.
        if_known P (production == p_enum) _ _ (λ e. plainly p_enum e (λ x. refl) _ (enum_kept n m w s sense at))
        (λ _.
        if_known P (production == p_enumerator) _ _ (λ e. plainly p_enumerator e (λ x. refl) _ (enumerator_kept n m w s sense at children))
        (λ _.
        if_known P (production == p_suffix) _ _ (λ e. plainly p_suffix e (λ x. refl) _ (suffix_kept n m w s sense at children))
        (λ _.
        if_known P (production == p_parameter) _ _ (λ e. plainly p_parameter e (λ x. refl) _ (parameter_kept n m w s sense at))
        (λ _.
        if_known P (production == p_type_name) _ _ (λ e. plainly p_type_name e (λ x. refl) _ (type_name_kept n m w s sense at))
        (λ _.
        if_known P (production == p_init) _ _ (λ e. full p_init e (λ x. refl) _ (init_kept n w s sense m at (parent_of s at) (covers.object e)))
        (λ no_init.
        if_known P (production == p_items) _ _ (λ e. full p_items e (λ x. refl) _ (items_kept n w s sense m at (parent_of s at) refl (covers.literal e)))
        (λ no_items.
        if_known P (production == p_designator) _ _ (λ e. otherwise no_init no_items no_rest _ (designator_kept n w s sense m at children))
        (λ _.
        if_known P (production == p_block) _ _ (λ e. otherwise no_init no_items no_rest (block_row w s sense at children) (block_kept n w s sense m at children (covers.block e)))
        (λ _.
        if_known P (production == p_statement) _ _ (λ e. otherwise no_init no_items no_rest _ (statement_kept n w s sense m at children (summed p_statement e refl) (covers.loop e)))
        (λ _.
        if_known P ((production == p_declarator) || ((production == p_abstract) || (production == p_either))) _ (Fits Nothing) (λ e. otherwise no_init no_items no_rest _ (declarator_plain at children))
        (λ _. otherwise no_init no_items no_rest (Fits Nothing) (omega arith))))))))))))))))))))))

    -- no expression is an initialiser or the rest of a declaration
    apart_from : (p : ℕ) → nat_le p_expression p ≡ false → nat_le p_expression production ≡ true → (production == p) ≡ false
    apart_from p small large = by (production == p) refl
      where
        by : (b : Bool) → (production == p) ≡ b → b ≡ false
        by true e = let never : true ≡ false = sym large ∙ (ap (nat_le p_expression) (eqb-true production p e) ∙ small) in cc
        by false e = refl

    summed_by : (b c d e f : Bool) → b ≡ false → c ≡ false → d ≡ false → e ≡ false → f ≡ false → not ((b || c) || (d || (e || f))) ≡ true
    summed_by false false false false false hb hc hd he hf = refl
    summed_by true c d e f hb hc hd he hf = cc
    summed_by false true d e f hb hc hd he hf = cc
    summed_by false false true e f hb hc hd he hf = cc
    summed_by false false false true f hb hc hd he hf = cc
    summed_by false false false false true hb hc hd he hf = cc

    expression_gives : nat_le p_expression production ≡ true → Gives (SenseMost n m) (expression_row w s sense production at children)
    expression_gives large =
        let P : Given Sense → Type 0 = Gives (SenseMost n m) in
        if_known P (production == p_primary) _ _ (λ e. primary_kept n w s sense m at children (covers.text e) (summed p_primary e refl))
        (λ no_primary.
        if_known P (production == p_post) _ _ (λ e. post_kept n w s sense m at children (covers.post e))
        (λ no_post.
        if_known P (production == p_unary) _ _ (λ e. unary_kept n w s sense m at children (single p_unary e refl))
        (λ no_unary.
        if_known P (production == p_cast) _ _ (λ e. cast_row_kept n w s sense m at children (single p_cast e refl))
        (λ no_cast.
        if_known P (production == p_conditional) _ _ (λ e. conditional_kept n w s sense m at children (summed p_conditional e refl))
        (λ _.
        if_known P (production == p_assignment) _ _ (λ e. assignment_kept n w s sense m at children (summed p_assignment e refl))
        (λ _.
        if_known P (is_binary w s sense production) _ (Refuses Operand at)
        (λ _. binary_kept n w s sense m at children (covers.others (summed_by (production == p_unary) (production == p_cast) (production == p_post) (production == p_init) (production == p_items) no_unary no_cast no_post (apart_from p_init refl large) (apart_from p_items refl large))))
        (λ _. tt)))))))

    left_true : (a b : Bool) → (a && b) ≡ true → a ≡ true
    left_true true b e = refl
    left_true false b e = cc

    pub row_gives : Gives (λ x. made_by n w s sense production children x ≤ m) (row_of w s sense production at children)
    unfolding M
    row_gives =
        if_known M (nat_le p_expression production && nat_le production p_primary) _ _
        (λ e.
        let large = left_true (nat_le p_expression production) (nat_le production p_primary) e in
        otherwise (apart_from p_init refl large) (apart_from p_items refl large) (apart_from p_rest refl large) _ (expression_gives large))
        (λ _. declaring_gives)

gives_most : (count : Sense → ℕ) (m : ℕ) (g : Given Sense) → Gives (λ x. count x ≤ m) g → GivesMost count m g
gives_most count m (Fits x) h = h
gives_most count m (Refuses kind node) h = tt

pub rows_count : RowsCount
rows_count n w s sense production at m children covers = gives_most (made_by n w s sense production children) m (row_of w s sense production at children) (row_gives n m w s sense production at children covers)
