-- What the tree of a statement weighs: what those of its parts weigh, and what it weighs itself.
use Rattle.std.proofs.Common.{arith, ◌≡◌, ◌+◌, ◌≤◌, ℕ, suc, Bool, true, false, ◌&&◌, ◌||◌, ◌==◌, not, cond, List, [], ◌∷◌, take, length, Option, Some, None, refl, sym, ap, ◌∙◌}
use Rattle.std.specs.Prelude.{⊤, ℤ, is_some, if◌then◌else◌}
use Rattle.std.proofs.lemmas.Bool.{eqb-true}
use Rattle.pta_base.specs.declared.kind.Kind.TheVariants.{Operand}
use Rattle.c_types.specs.Trees.{Ctype}
use Rattle.core_tree.specs.declared.node.NodeKind.{NodeKind}
use Rattle.core_tree.specs.declared.node.NodeKind.TheVariants.{Expression, Block, If, While, DoWhile, For, Switch, Case, Default, Label, Goto, Break, Continue, Return, Initialise, Skip, Fetch, Convert}
use Rattle.core_tree.specs.Typed.{Sort, NoNode, PlaceNode, ValueNode, StatementNode, sort_of, decayed}
use Rattle.core_tree.specs.Rows.{Has}
use Rattle.c_grammar.specs.Productions.{p_declaration, p_statement, p_conditional}
use Rattle.c_grammar.specs.Words.{word_case, word_default, word_if, word_switch, word_while, word_do, word_for, word_goto, word_continue, word_break, word_return, sign_semicolon}
use Rattle.c_consts.specs.Core.{Core, Cores, Of, NoCores, MoreCores, kind_of, ctype_of, cores_under, core_sort, place_of, over}
use Rattle.c_consts.specs.Wrapped.{converted}
use Rattle.core_nodes.specs.passed.c_senses.Tree.{Source, is_a, is_name, has_sign, place_at, spelling_at, word_at, children_at, first_where, all_where, any_where, child_of, nearest_above, numbers_from}
use Rattle.core_nodes.specs.passed.c_senses.Given.{Given, Fits, Refuses, ◌>>=◌, given_if}
use Rattle.core_nodes.specs.passed.c_senses.World.{World, same_type}
use Rattle.core_nodes.specs.passed.c_senses.Conversions.{operand_of, is_scalar, is_fetched, value_of, value_of_sort, fetched_or_decayed, made, promoted, is_narrow, read_width, promotion, conversion, is_list}
use Rattle.core_nodes.specs.passed.c_senses.Constants.{constant_in, is_whole}
use Rattle.core_nodes.specs.passed.c_senses.Places.{own_place}
use Rattle.core_nodes.specs.passed.c_senses.Sense.{Sense, IsCore, IsRun, core_of, value_in}
use Rattle.core_nodes.specs.passed.c_senses.Statements.{statement, one, appended, with_some, ForParts, cores_in, condition_of, statements_among, body_of, other_body, expression_in, labelled, switch_around, switched, is_case_again, is_default_again, case_row, default_row, if_row, switch_row, while_row, do_row, for_parts, expression_statement, for_first, for_objects, for_condition, for_after, for_of, for_row, is_loop, is_statement_of, goto_row, returned_type, return_row, of_word, leaf_statement}
use Rattle.parsed_tree_laws.specs.passed.sense_laws.Sound.{Gives}
use Rattle.parsed_tree_laws.specs.passed.sense_laws.Senses.{IsInitialiser, AreInitialisers}
use Rattle.parsed_tree_laws.proofs.passed.sense_laws.Giving.{then_gives, if_given, some_given, if_holds}
use Rattle.core_node_laws.specs.standing_laws.Standing.{RunsOf}
use Rattle.core_node_laws.proofs.standing_laws.Kept.{opens}
use Rattle.core_node_laws.specs.marked_trees.Marked.{is_mark}

abbrev pub number : Bool → ℕ
number true = 1
number false = 0

-- how many statements a statement of a kind has as parts, at most
abbrev pub reach : NodeKind → ℕ
reach If = 2
reach kind = 1

abbrev pub first_or : List ℕ → ℕ
first_or [] = 0
first_or (c ∷ rest) = c

-- kinds of which nothing is counted
abbrev pub IsQuiet : NodeKind → Type 0
IsQuiet kind = (opens kind ≡ false) × (is_mark kind ≡ false)

value_quiet : (kind : NodeKind) → sort_of kind ≡ ValueNode → IsQuiet kind
value_quiet (Block es) e = cc
value_quiet If e = cc
value_quiet While e = cc
value_quiet DoWhile e = cc
value_quiet (For es c a) e = cc
value_quiet Switch e = cc
value_quiet (Case n) e = cc
value_quiet Default e = cc
value_quiet (Label name) e = cc
value_quiet (Goto name) e = cc
value_quiet kind e = (refl, refl)

initial_quiet : (kind : NodeKind) → IsInitialiser kind → IsQuiet kind
initial_quiet (Initialise o paths) h = (refl, refl)
initial_quiet kind h = absurd h

abbrev IsValueCore : Core → Type 0
IsValueCore c = core_sort c ≡ ValueNode

anything : {A : Type 0} (g : Given A) → Gives (λ n. ⊤) g
anything (Fits n) = tt
anything (Refuses kind node) = tt

by_sort : (w : World) (at : ℕ) (c : Core) (sort : Sort) → core_sort c ≡ sort → Gives IsValueCore (value_of_sort w at c sort)
by_sort w at c NoNode e = tt
by_sort w at c PlaceNode e = by (decayed (ctype_of c))
  where
    by : (o : Option Ctype) → Gives IsValueCore (fetched_or_decayed w at c o)
    by (Some pointer) = refl
    by None = if_given IsValueCore (is_fetched w (operand_of (ctype_of c)) || is_list (ctype_of c)) Operand at (Fits (over Fetch (place_of c) (ctype_of c) c)) (λ e. refl)
by_sort w at c ValueNode e = e
by_sort w at c StatementNode e = tt

value_gives : (w : World) (at : ℕ) (x : Sense) → Gives IsValueCore (value_in w at x)
value_gives w at x = then_gives (λ c. ⊤) IsValueCore (core_of at x) (value_of w at) (anything (core_of at x)) (λ c h. by_sort w at c (core_sort c) refl)

made_value : (t : Ctype) (v : Core) → IsValueCore v → IsValueCore (made t v)
made_value t v h = if_holds IsValueCore (same_type (ctype_of v) t) v (over Convert (place_of v) t v) (λ e. h) (λ e. refl)

when_true : {A : Type 0} (b : Bool) (x y : A) → b ≡ true → cond b x y ≡ x
when_true true x y e = refl
when_true false x y e = cc

when_false : {A : Type 0} (b : Bool) (x y : A) → b ≡ false → cond b x y ≡ y
when_false true x y e = cc
when_false false x y e = refl

-- what stands for no statement
abbrev pub QuietPart : Sense → Type 0
QuietPart (IsCore c) = ⊥
QuietPart (IsRun cores) = AreInitialisers cores
QuietPart x = ⊤

abbrev pub Weight : Type 0
Weight = NodeKind → Cores → ℕ

abbrev pub IsPlain : Weight → Type 0
IsPlain weight = (kind : NodeKind) (under : Cores) → is_mark kind ≡ false → weight kind under ≡ 0

abbrev pub weight_of : Weight → Core → ℕ
weight_of weight (Of kind place type under) = weight kind under

-- one for each kind that is marked
abbrev pub marking : (NodeKind → Bool) → Weight
marking marked kind under = number (marked kind)

module _ (weight : Weight) (stops : NodeKind → Bool) where
  abbrev pub goes_in : NodeKind → Bool
  goes_in kind = opens kind && not (stops kind)

  -- what a tree weighs, without what stands within a kind that stops
  abbrev mutual
    pub marks : Core → ℕ
    marks (Of kind place type under) = weight kind under + cond (goes_in kind) (marks_all under) 0

    pub marks_all : Cores → ℕ
    marks_all NoCores = 0
    marks_all (MoreCores c rest) = marks c + marks_all rest

  abbrev pub marks_of : Sense → ℕ
  marks_of (IsCore c) = marks c
  marks_of x = 0

  abbrev pub total : (ℕ → Sense) → List ℕ → ℕ
  total sense [] = 0
  total sense (c ∷ rest) = marks_of (sense c) + total sense rest

module _ (weight : Weight) (stops : NodeKind → Bool) (plain : IsPlain weight) where
  abbrev m : Core → ℕ
  m = marks weight stops

  abbrev all : Cores → ℕ
  all = marks_all weight stops

  quiet_none : (kind : NodeKind) (under : Cores) → IsQuiet kind → weight kind under + cond (opens kind && not (stops kind)) (all under) 0 ≡ 0
  quiet_none kind under h = ap (λ (n : ℕ). n + cond (opens kind && not (stops kind)) (all under) 0) (plain kind under h.1) ∙ ap (λ (b : Bool). 0 + cond (b && not (stops kind)) (all under) 0) h.0

  value_none : (c : Core) → IsValueCore c → m c ≡ 0
  value_none (Of kind place type under) h = quiet_none kind under (value_quiet kind h)

  initial_none : (c : Core) → IsInitialiser (kind_of c) → m c ≡ 0
  initial_none (Of kind place type under) h = quiet_none kind under (initial_quiet kind h)

  initials_none : (cores : List Core) (more : Cores) → AreInitialisers cores → all (appended cores more) ≡ all more
  initials_none [] more h = refl
  initials_none (c ∷ cores) more h = let own = initial_none c h.0 in let later = initials_none cores more h.1 in omega (arith, own, later)

  module _ (w : World) (s : Source) (sense : ℕ → Sense) (at : ℕ) where
    abbrev T : List ℕ → ℕ
    T list = total weight stops sense list

    -- what stands in a statement that opens something weighs what its statements do
    abbrev pub Exact : List ℕ → Core → Type 0
    Exact list c = opens (kind_of c) ≡ true → all (cores_under c) ≡ T (take (reach (kind_of c)) list)

    exact : (kind : NodeKind) (under : Cores) (list : List ℕ) → all under ≡ T (take (reach kind) list) → Exact list (statement kind (place_at s at) under)
    exact kind under list e = λ opened. e

    shut_exact : (kind : NodeKind) (place : ℕ) (under : Cores) (list : List ℕ) → opens kind ≡ false → Exact list (statement kind (place_at s place) under)
    shut_exact kind place under list e = λ opened. let never : true ≡ false = sym opened ∙ e in cc

    abbrev BodyIs : List ℕ → Core → Type 0
    BodyIs list b = m b ≡ T (take 1 list)

    core_marks : (n : ℕ) (x : Sense) → Gives (λ b. m b ≡ marks_of weight stops x) (core_of n x)
    core_marks n (IsCore c) = refl
    core_marks n x = tt

    weaken : {A : Type 0} (P Q : A → Type 0) (g : Given A) → ((x : A) → P x → Q x) → Gives P g → Gives Q g
    weaken P Q (Fits x) f h = f x h
    weaken P Q (Refuses kind node) f h = tt

    body_is : (list : List ℕ) → Gives (BodyIs list) (body_of w s sense at list)
    body_is [] = tt
    body_is (c ∷ rest) = weaken (λ b. m b ≡ marks_of weight stops (sense c)) (BodyIs (c ∷ rest)) (core_of at (sense c)) (λ b h. omega (arith, h)) (core_marks at (sense c))

    some_marks : Option Core → ℕ
    some_marks None = 0
    some_marks (Some c) = m c

    with_marks : (o : Option Core) (more : Cores) → all (with_some o more) ≡ some_marks o + all more
    unfolding some_marks
    with_marks None more = omega arith
    with_marks (Some c) more = refl

    other_is : (list : List ℕ) → Gives (λ o. T (take 1 list) + some_marks o ≡ T (take 2 list)) (other_body w s sense at list)
    unfolding some_marks
    other_is [] = refl
    other_is (c ∷ []) = omega arith
    other_is (c ∷ d ∷ rest) =
        then_gives (λ b. m b ≡ marks_of weight stops (sense d)) (λ o. T (take 1 (c ∷ d ∷ rest)) + some_marks o ≡ T (take 2 (c ∷ d ∷ rest))) (core_of at (sense d)) (λ x. Fits (Some x)) (core_marks at (sense d)) (λ x h. omega (arith, h))

    one_body : (kind : NodeKind) (list : List ℕ) (body : Core) → reach kind ≡ 1 → BodyIs list body → Exact list (statement kind (place_at s at) (one body))
    one_body kind list body e h = exact kind (one body) list (let same : T (take (reach kind) list) ≡ T (take 1 list) = ap (λ (n : ℕ). T (take n list)) e in omega (arith, same, h))

    condition_is : (o : Option ℕ) → Gives IsValueCore (condition_of w s sense at o)
    condition_is None = tt
    condition_is (Some c) =
        then_gives IsValueCore IsValueCore (value_in w at (sense c)) (λ v. given_if (is_scalar (operand_of (ctype_of v))) Operand at (Fits v)) (value_gives w at (sense c))
        (λ v h. if_given IsValueCore (is_scalar (operand_of (ctype_of v))) Operand at (Fits v) (λ scalar. h))

    switched_is : (o : Option ℕ) → Gives IsValueCore (switched w s sense at o)
    switched_is None = tt
    switched_is (Some c) =
        then_gives IsValueCore IsValueCore (value_in w at (sense c)) (λ v. given_if (is_whole (operand_of (ctype_of v))) Operand at (Fits (promotion w v))) (value_gives w at (sense c))
        (λ v h. if_given IsValueCore (is_whole (operand_of (ctype_of v))) Operand at (Fits (promotion w v)) (λ whole. made_value (promoted (ctype_of v) (is_narrow (read_width w v))) v h))

    module _ (children : List ℕ) where
      abbrev list : List ℕ
      list = statements_among w s sense children

      abbrev E : Core → Type 0
      E c = Exact list c

      body : Gives (BodyIs list) (body_of w s sense at list)
      body = body_is list

      label_exact : (name : ℕ) → Gives E (labelled w s sense at name children)
      label_exact name = then_gives (BodyIs list) E (body_of w s sense at list) (λ c. Fits (statement (Label (spelling_at s name)) (place_at s at) (one c))) body (λ c h. one_body (Label (spelling_at s name)) list c refl h)

      case_by : (switch : ℕ) (b : Core) (n : ℤ) → BodyIs list b → (g : Given Core)
          → Gives E
          (elim g as (λ _. Given Core) [
            | Refuses kind node ↦ Fits (statement (Case n) (place_at s at) (one b))
            | Fits v ↦
                let x = converted (ctype_of v) n in
                given_if (not (any_where (is_case_again w s sense switch x) (numbers_from 0 at))) Operand at (Fits (statement (Case x) (place_at s at) (one b)))
          ])
      case_by switch b n h (Refuses kind node) = one_body (Case n) list b refl h
      case_by switch b n h (Fits v) =
          if_given E (not (any_where (is_case_again w s sense switch (converted (ctype_of v) n)) (numbers_from 0 at))) Operand at (Fits (statement (Case (converted (ctype_of v) n)) (place_at s at) (one b)))
          (λ new. one_body (Case (converted (ctype_of v) n)) list b refl h)

      case_exact : Gives E (case_row w s sense at children)
      case_exact =
          some_given E (child_of s p_conditional at) Operand at _
          (λ c e.
          then_gives (λ n. ⊤) E (constant_in w s at (sense c)) _ (anything (constant_in w s at (sense c)))
          (λ n k.
          some_given E (switch_around w s sense at) Operand at _
          (λ switch around. then_gives (BodyIs list) E (body_of w s sense at list) _ body (λ b h. case_by switch b n h (switched w s sense switch (expression_in w s sense (children_at s switch)))))))

      default_exact : Gives E (default_row w s sense at children)
      default_exact =
          some_given E (switch_around w s sense at) Operand at _
          (λ switch around.
          if_given E (not (any_where (is_default_again w s sense switch) (numbers_from 0 at))) Operand at (body_of w s sense at list >>= (λ b. Fits (statement Default (place_at s at) (one b))))
          (λ new. then_gives (BodyIs list) E (body_of w s sense at list) (λ b. Fits (statement Default (place_at s at) (one b))) body (λ b h. one_body Default list b refl h)))

      if_exact : Gives E (if_row w s sense at children)
      if_exact =
          then_gives IsValueCore E (condition_of w s sense at (expression_in w s sense children)) _ (condition_is (expression_in w s sense children))
          (λ c h.
          then_gives (BodyIs list) E (body_of w s sense at list) _ body
          (λ b k.
          then_gives (λ o. T (take 1 list) + some_marks o ≡ T (take 2 list)) E (other_body w s sense at list) _ (other_is list)
          (λ other l. exact If (MoreCores c (MoreCores b (with_some other NoCores))) list (let none = value_none c h in let more = with_marks other NoCores in omega (arith, none, more, k, l)))))

      switch_exact : Gives E (switch_row w s sense at children)
      switch_exact =
          then_gives IsValueCore E (switched w s sense at (expression_in w s sense children)) _ (switched_is (expression_in w s sense children))
          (λ c h. then_gives (BodyIs list) E (body_of w s sense at list) _ body (λ b k. exact Switch (MoreCores c (MoreCores b NoCores)) list (let none = value_none c h in omega (arith, none, k))))

      while_exact : Gives E (while_row w s sense at children)
      while_exact =
          then_gives IsValueCore E (condition_of w s sense at (expression_in w s sense children)) _ (condition_is (expression_in w s sense children))
          (λ c h. then_gives (BodyIs list) E (body_of w s sense at list) _ body (λ b k. exact While (MoreCores c (MoreCores b NoCores)) list (let none = value_none c h in omega (arith, none, k))))

      do_exact : Gives E (do_row w s sense at children)
      do_exact =
          then_gives IsValueCore E (condition_of w s sense at (expression_in w s sense children)) _ (condition_is (expression_in w s sense children))
          (λ c h. then_gives (BodyIs list) E (body_of w s sense at list) _ body (λ b k. exact DoWhile (MoreCores b (MoreCores c NoCores)) list (let none = value_none c h in omega (arith, none, k))))

    -- a for
    expression_none : (c : ℕ) → Gives (λ x. m x ≡ 0) (expression_statement w s sense at c)
    expression_none c =
        then_gives (λ v. ⊤) (λ x. m x ≡ 0) (value_in w at (sense c)) (λ v. Fits (statement Expression (own_place s c) (one v))) (anything (value_in w at (sense c)))
        (λ v h. quiet_none Expression (one v) (refl, refl))

    abbrev NoneIn : List Core → Type 0
    NoneIn cores = (more : Cores) → all (appended cores more) ≡ all more

    run_none : (x : Sense) → RunsOf x → NoneIn (elim x as (λ _. List Core) [ IsRun cores ↦ cores | _ ↦ [] ])
    run_none (IsRun cores) h = λ more. initials_none cores more h
    run_none x h = λ more. refl

    first_none : (o : Option ℕ) → ((c : ℕ) → RunsOf (sense c)) → Gives NoneIn (for_first w s sense at o)
    first_none None h = λ more. refl
    first_none (Some c) h =
        if_holds (Gives NoneIn) (is_a s p_declaration c) (Fits (elim (sense c) as (λ _. List Core) [ IsRun cores ↦ cores | _ ↦ [] ])) (expression_statement w s sense at c >>= (λ x. Fits (x ∷ [])))
        (λ t. run_none (sense c) (h c))
        (λ f. then_gives (λ x. m x ≡ 0) NoneIn (expression_statement w s sense at c) (λ x. Fits (x ∷ [])) (expression_none c) (λ x k more. omega (arith, k)))

    some_value : Option Core → Type 0
    some_value None = ⊤
    some_value (Some c) = IsValueCore c

    after_condition : (o : Option ℕ) → Gives some_value (for_condition w s sense at o)
    unfolding some_value
    after_condition None = tt
    after_condition (Some c) = then_gives IsValueCore some_value (condition_of w s sense at (Some c)) (λ v. Fits (Some v)) (condition_is (Some c)) (λ v h. h)

    after_turn : (o : Option ℕ) → Gives some_value (for_after w s sense at o)
    unfolding some_value
    after_turn None = tt
    after_turn (Some c) = then_gives IsValueCore some_value (value_in w at (sense c)) (λ v. Fits (Some v)) (value_gives w at (sense c)) (λ v h. h)

    value_some : (o : Option Core) (more : Cores) → some_value o → all (with_some o more) ≡ all more
    unfolding some_value
    value_some None more h = refl
    value_some (Some c) more h = let none = value_none c h in omega (arith, none)

    for_of_exact : (p : ForParts) (rest list : List ℕ) → ((c : ℕ) → RunsOf (sense c)) → Gives (BodyIs list) (body_of w s sense at (statements_among w s sense rest)) → Gives (Exact list) (for_of w s sense at p rest)
    for_of_exact p rest list h own =
        then_gives NoneIn (Exact list) (for_first w s sense at p.first) _ (first_none p.first h)
        (λ first a.
        then_gives some_value (Exact list) (for_condition w s sense at p.condition) _ (after_condition p.condition)
        (λ condition b.
        then_gives some_value (Exact list) (for_after w s sense at p.after) _ (after_turn p.after)
        (λ after c.
        then_gives (BodyIs list) (Exact list) (body_of w s sense at (statements_among w s sense rest)) _ own
        (λ body k.
        exact (For (for_objects w s sense p.first) (is_some condition) (is_some after)) (appended first (with_some condition (with_some after (one body)))) list
        (let x = a (with_some condition (with_some after (one body))) in let y = value_some condition (with_some after (one body)) b in let z = value_some after (one body) c in omega (arith, x, y, z, k))))))

    -- where there is one statement at most, it is the body
    last_body : (rest list : List ℕ) → length list ≤ 0 → Gives (BodyIs rest) (body_of w s sense at list)
    last_body rest [] few = tt
    last_body rest (x ∷ list) few = absurd (omega (arith, few))

    for_exact : (children : List ℕ) → ((c : ℕ) → RunsOf (sense c)) → length (statements_among w s sense children) ≤ 1 → Gives (Exact (statements_among w s sense children)) (for_row w s sense at children)
    for_exact [] h few = tt
    for_exact (word ∷ []) h few = tt
    for_exact (word ∷ parenthesis ∷ rest) h few =
        for_of_exact (for_parts w s sense rest) rest (statements_among w s sense (word ∷ parenthesis ∷ rest)) h (by (is_a s p_statement word) (is_a s p_statement parenthesis) few)
      where
        l : List ℕ
        l = statements_among w s sense rest

        by : (a b : Bool) → length (if a then word ∷ (if b then parenthesis ∷ statements_among w s sense rest else statements_among w s sense rest) else if b then parenthesis ∷ statements_among w s sense rest else statements_among w s sense rest) ≤ 1
            → Gives (BodyIs (if a then word ∷ (if b then parenthesis ∷ statements_among w s sense rest else statements_among w s sense rest) else if b then parenthesis ∷ statements_among w s sense rest else statements_among w s sense rest)) (body_of w s sense at (statements_among w s sense rest))
        by false false few = body_is (statements_among w s sense rest)
        by true true few = absurd (omega (arith, few))
        by true false few = last_body (word ∷ statements_among w s sense rest) (statements_among w s sense rest) (omega (arith, few))
        by false true few = last_body (parenthesis ∷ statements_among w s sense rest) (statements_among w s sense rest) (omega (arith, few))

    -- ---- the statement that a leaf begins

    module _ (children : List ℕ) (h : (c : ℕ) → RunsOf (sense c)) (few : word_at s (first_or children) ≡ Some word_for → length (statements_among w s sense children) ≤ 1) where
      abbrev E2 : Core → Type 0
      E2 c = Exact (statements_among w s sense children) c

      goto_exact : Gives E2 (goto_row w s sense at children)
      goto_exact = some_given E2 (first_where (is_name s) children) Operand at _ (λ name e. shut_exact (Goto (spelling_at s name)) at NoCores (statements_among w s sense children) refl)

      return_exact : (o : Option ℕ) → Gives E2 (return_row w s sense at o)
      return_exact None = shut_exact Return at NoCores (statements_among w s sense children) refl
      return_exact (Some c) =
          some_given E2 (returned_type w s sense at) Operand at _
          (λ t e.
          then_gives (λ v. ⊤) E2 (value_in w at (sense c)) _ (anything (value_in w at (sense c)))
          (λ v k. then_gives (λ x. ⊤) E2 (conversion w false at v t) (λ x. Fits (statement Return (place_at s at) (one x))) (anything (conversion w false at v t)) (λ x i. shut_exact Return at (one x) (statements_among w s sense children) refl)))

      is_word : (word x : ℕ) → (word == x) ≡ true → word ≡ x
      is_word word x e = eqb-true word x e

      word_exact : (o : Option ℕ) → word_at s (first_or children) ≡ o → Gives E2 (of_word w s sense at children o)
      word_exact None e = tt
      word_exact (Some word) is =
          if_holds (Gives E2) (word == word_case) _ _ (λ e. case_exact children)
          (λ e. if_holds (Gives E2) (word == word_default) _ _ (λ e. default_exact children)
          (λ e. if_holds (Gives E2) (word == word_if) _ _ (λ e. if_exact children)
          (λ e. if_holds (Gives E2) (word == word_switch) _ _ (λ e. switch_exact children)
          (λ e. if_holds (Gives E2) (word == word_while) _ _ (λ e. while_exact children)
          (λ e. if_holds (Gives E2) (word == word_do) _ _ (λ e. do_exact children)
          (λ e. if_holds (Gives E2) (word == word_for) _ _ (λ e. for_exact children h (few (is ∙ ap (λ (x : ℕ). Some x) (is_word word word_for e))))
          (λ e. if_holds (Gives E2) (word == word_goto) _ _ (λ e. goto_exact)
          (λ e. if_holds (Gives E2) (word == word_continue) _ _ (λ e. if_given E2 (is_some (nearest_above s (is_loop w s sense) at)) Operand at (Fits (statement Continue (place_at s at) NoCores)) (λ t. shut_exact Continue at NoCores (statements_among w s sense children) refl))
          (λ e. if_holds (Gives E2) (word == word_break) _ _ (λ e. if_given E2 (is_some (nearest_above s (λ i. is_loop w s sense i || is_statement_of w s sense word_switch i) at)) Operand at (Fits (statement Break (place_at s at) NoCores)) (λ t. shut_exact Break at NoCores (statements_among w s sense children) refl))
          (λ e. if_holds (Gives E2) (word == word_return) _ (Refuses Operand at) (λ e. return_exact (expression_in w s sense children)) (λ e. tt)))))))))))

      pub leaf_exact : (first : ℕ) → first_or children ≡ first → Gives E2 (leaf_statement w s sense at first children)
      leaf_exact first same =
          if_holds (Gives E2) (has_sign s sign_semicolon first) _ _ (λ t. shut_exact Skip at NoCores (statements_among w s sense children) refl)
          (λ f. if_holds (Gives E2) (is_name s first) _ _ (λ t. label_exact children first) (λ f. word_exact (word_at s first) (ap (λ (x : ℕ). word_at s x) same)))

    pub expression_exact : (c : ℕ) → Gives (λ x. (m x ≡ 0) × (opens (kind_of x) ≡ false)) (expression_statement w s sense at c)
    expression_exact c =
        then_gives (λ v. ⊤) (λ x. (m x ≡ 0) × (opens (kind_of x) ≡ false)) (value_in w at (sense c)) (λ v. Fits (statement Expression (own_place s c) (one v))) (anything (value_in w at (sense c)))
        (λ v h. (quiet_none Expression (one v) (refl, refl), refl))

    -- a block
    pub block_exact : (children : List ℕ) → ((c : ℕ) → RunsOf (sense c)) → ((j : ℕ) → Has children j → is_a s p_statement j ≡ false → QuietPart (sense j)) → all (cores_in w s sense children) ≡ T (all_where (is_a s p_statement) children)
    block_exact [] h parts = refl
    block_exact (c ∷ rest) h parts = by (is_a s p_statement c) (sense c) refl refl (h c) (parts c (0, refl)) (block_exact rest h (λ j k. parts j (suc k.0, k.1)))
      where
        by : (b : Bool) (x : Sense) → is_a s p_statement c ≡ b → sense c ≡ x → RunsOf x → (b ≡ false → QuietPart x) → all (cores_in w s sense rest) ≡ T (all_where (is_a s p_statement) rest)
            → all (elim x as (λ _. Cores) [ IsCore y ↦ MoreCores y (cores_in w s sense rest) | IsRun cores ↦ appended cores (cores_in w s sense rest) | _ ↦ cores_in w s sense rest ]) ≡ T (if b then c ∷ all_where (is_a s p_statement) rest else all_where (is_a s p_statement) rest)
        by true (IsCore y) eb ex quiet part later = let own : marks_of weight stops (sense c) ≡ m y = ap (marks_of weight stops) ex in omega (arith, own, later)
        by false (IsCore y) eb ex quiet part later = absurd (part refl)
        by true (IsRun cores) eb ex quiet part later = let own : marks_of weight stops (sense c) ≡ 0 = ap (marks_of weight stops) ex in let none = initials_none cores (cores_in w s sense rest) quiet in omega (arith, own, none, later)
        by false (IsRun cores) eb ex quiet part later = let none = initials_none cores (cores_in w s sense rest) quiet in omega (arith, none, later)
        by true x eb ex quiet part later = let own : marks_of weight stops (sense c) ≡ 0 = ap (marks_of weight stops) ex in omega (arith, own, later)
        by false x eb ex quiet part later = later
