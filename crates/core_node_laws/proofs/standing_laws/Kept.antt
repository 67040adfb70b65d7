-- What the rows of statements keep of their parts: of each statement in a tree that no kind of some sort stands above, something holds.
use Rattle.std.proofs.Common.{◌≡◌, ℕ, suc, Bool, true, false, ◌&&◌, ◌||◌, ◌==◌, not, List, [], ◌∷◌, Option, Some, None, refl, sym, ap, ◌∙◌, subst}
use Rattle.std.specs.Prelude.{⊤, ℤ, is_some, if◌then◌else◌}
use Rattle.pta_base.specs.declared.kind.Kind.TheVariants.{Operand}
use Rattle.c_types.specs.Trees.{Ctype}
use Rattle.core_tree.specs.declared.node.NodeKind.{NodeKind}
use Rattle.core_tree.specs.declared.node.NodeKind.TheVariants.{Expression, Block, If, While, DoWhile, For, Switch, Case, Default, Label, Goto, Break, Continue, Return, Initialise, Skip, Fetch, Convert}
use Rattle.core_tree.specs.Typed.{Sort, NoNode, PlaceNode, ValueNode, StatementNode, decayed}
use Rattle.core_tree.specs.Rows.{Has}
use Rattle.c_grammar.specs.Productions.{p_declaration, p_statement, p_block, p_expression, p_conditional}
use Rattle.c_grammar.specs.Words.{word_case, word_default, word_if, word_switch, word_while, word_do, word_for, word_goto, word_continue, word_break, word_return, sign_semicolon}
use Rattle.c_consts.specs.Core.{Core, Cores, Of, NoCores, MoreCores, kind_of, ctype_of, core_sort, place_of, over}
use Rattle.c_consts.specs.Wrapped.{converted}
use Rattle.core_nodes.specs.passed.c_senses.Tree.{Source, is_a, is_leaf, is_name, has_sign, place_at, spelling_at, word_at, children_at, first_where, all_where, any_where, child_of, nearest_above, numbers_from}
use Rattle.core_nodes.specs.passed.c_senses.Given.{Given, Fits, Refuses, ◌>>=◌, given_if}
use Rattle.core_nodes.specs.passed.c_senses.World.{World, same_type}
use Rattle.core_nodes.specs.passed.c_senses.Conversions.{operand_of, is_scalar, is_fetched, value_of, value_of_sort, fetched_or_decayed, made, promoted, is_narrow, read_width, promotion, conversion, is_list}
use Rattle.core_nodes.specs.passed.c_senses.Constants.{constant_in, is_whole}
use Rattle.core_nodes.specs.passed.c_senses.Places.{own_place}
use Rattle.core_nodes.specs.passed.c_senses.Sense.{Sense, IsCore, IsRun, core_of, value_in, fits}
use Rattle.core_nodes.specs.passed.c_senses.Statements.{statement, one, appended, with_some, ForParts, objects_in, cores_in, block_row, condition_of, statements_among, body_of, other_body, expression_in, is_statement_of, labelled, switch_around, switched, is_case_again, case_row, default_row, if_row, switch_row, while_row, do_row, expression_before, for_parts, expression_statement, for_first, for_objects, for_condition, for_after, for_of, for_row, is_loop, goto_row, returned_type, return_row, of_word, leaf_statement, statement_row}
use Rattle.parsed_tree_laws.specs.passed.sense_laws.Sound.{Gives}
use Rattle.parsed_tree_laws.specs.passed.sense_laws.Senses.{IsInitialiser, AreInitialisers}
use Rattle.parsed_tree_laws.proofs.passed.sense_laws.Giving.{then_gives, if_given, some_given, if_holds}

-- the kinds of statements that have statements as parts
abbrev pub opens : NodeKind → Bool
opens (Block es) = true
opens If = true
opens While = true
opens DoWhile = true
opens (For es c a) = true
opens Switch = true
opens (Case n) = true
opens Default = true
opens (Label name) = true
opens kind = false

-- the kinds of which nothing is asked
abbrev pub is_plain : NodeKind → Bool
is_plain (Case n) = false
is_plain Default = false
is_plain (Goto name) = false
is_plain Break = false
is_plain Continue = false
is_plain Return = false
is_plain kind = true

module _ (Good : NodeKind → Cores → Type 0) (stops : NodeKind → Bool) where
  abbrev pub enters : NodeKind → Bool
  enters kind = opens kind && not (stops kind)

  -- something holds of a statement, and of those in it where nothing stops
  abbrev mutual
    pub Kept : Core → Type 0
    Kept (Of kind place type under) = Good kind under × (enters kind ≡ true → AllKept under)

    pub AllKept : Cores → Type 0
    AllKept NoCores = ⊤
    AllKept (MoreCores c rest) = (core_sort c ≡ StatementNode → Kept c) × AllKept rest

  -- so it is if it is a statement
  abbrev pub IfKept : Core → Type 0
  IfKept c = core_sort c ≡ StatementNode → Kept c

  abbrev pub EachKept : List Core → Type 0
  EachKept [] = ⊤
  EachKept (c ∷ rest) = IfKept c × EachKept rest

  abbrev pub KeptSense : Sense → Type 0
  KeptSense (IsCore c) = IfKept c
  KeptSense (IsRun cores) = AreInitialisers cores
  KeptSense x = ⊤

  -- what a statement without statements in it may be, by where it stands
  pub record RowGood (w : World) (s : Source) (sense : ℕ → Sense) (at : ℕ) : Type 0 where
    pub breaks : is_some (nearest_above s (λ i. is_loop w s sense i || is_statement_of w s sense word_switch i) at) ≡ true → Good Break NoCores
    pub continues : is_some (nearest_above s (is_loop w s sense) at) ≡ true → Good Continue NoCores
    pub cases : (switch : ℕ) → switch_around w s sense at ≡ Some switch → (n : ℤ) (under : Cores) → Good (Case n) under
    pub defaults : (switch : ℕ) → switch_around w s sense at ≡ Some switch → (under : Cores) → Good Default under
    pub gotos : (name : List ℕ) → Good (Goto name) NoCores
    pub empties : Good Return NoCores
    pub returns : (t : Ctype) (v : Core) → returned_type w s sense at ≡ Some t → Gives (λ x. Good Return (one x)) (conversion w false at v t)

-- the parts that may be statements
abbrev pub is_part : Source → ℕ → Bool
is_part s j = is_a s p_block j || (is_leaf s j || (is_a s p_declaration j || is_a s p_statement j))

abbrev IsValueCore : Core → Type 0
IsValueCore c = core_sort c ≡ ValueNode

anything : {A : Type 0} (g : Given A) → Gives (λ n. ⊤) g
anything (Fits n) = tt
anything (Refuses kind node) = tt

by_sort : (w : World) (at : ℕ) (c : Core) (sort : Sort) → core_sort c ≡ sort → Gives IsValueCore (value_of_sort w at c sort)
by_sort w at c NoNode e = tt
by_sort w at c PlaceNode e = by (decayed (ctype_of c))
  where
    by : (o : Option Ctype) → Gives IsValueCore (fetched_or_decayed w at c o)
    by (Some pointer) = refl
    by None = if_given IsValueCore (is_fetched w (operand_of (ctype_of c)) || is_list (ctype_of c)) Operand at (Fits (over Fetch (place_of c) (ctype_of c) c)) (λ e. refl)
by_sort w at c ValueNode e = e
by_sort w at c StatementNode e = tt

value_gives : (w : World) (at : ℕ) (x : Sense) → Gives IsValueCore (value_in w at x)
value_gives w at x = then_gives (λ c. ⊤) IsValueCore (core_of at x) (value_of w at) (anything (core_of at x)) (λ c h. by_sort w at c (core_sort c) refl)

made_value : (t : Ctype) (v : Core) → IsValueCore v → IsValueCore (made t v)
made_value t v h = if_holds IsValueCore (same_type (ctype_of v) t) v (over Convert (place_of v) t v) (λ e. h) (λ e. refl)

first_among : (test : ℕ → Bool) (list : List ℕ) (c : ℕ) (rest : List ℕ) → all_where test list ≡ c ∷ rest → Has list c × (test c ≡ true)
first_among test [] c rest e = cc
first_among test (x ∷ xs) c rest e =
    if_holds (λ (l : List ℕ). l ≡ c ∷ rest → Has (x ∷ xs) c × (test c ≡ true)) (test x) (x ∷ all_where test xs) (all_where test xs)
    (λ t h. let same : x ≡ c = cc in ((0, ap Some same), subst (λ (y : ℕ). test y ≡ true) same t))
    (λ f h. let more = first_among test xs c rest h in ((suc more.0.0, more.0.1), more.1)) e

second_among : (test : ℕ → Bool) (list : List ℕ) (c d : ℕ) (rest : List ℕ) → all_where test list ≡ c ∷ d ∷ rest → Has list d × (test d ≡ true)
second_among test [] c d rest e = cc
second_among test (x ∷ xs) c d rest e =
    if_holds (λ (l : List ℕ). l ≡ c ∷ d ∷ rest → Has (x ∷ xs) d × (test d ≡ true)) (test x) (x ∷ all_where test xs) (all_where test xs)
    (λ t h. let more = first_among test xs d rest (let same : all_where test xs ≡ d ∷ rest = cc in same) in ((suc more.0.0, more.0.1), more.1))
    (λ f h. let more = second_among test xs c d rest h in ((suc more.0.0, more.0.1), more.1)) e

statement_part : (s : Source) (j : ℕ) → is_a s p_statement j ≡ true → is_part s j ≡ true
statement_part s j h = by (is_a s p_block j) (is_leaf s j) (is_a s p_declaration j) (is_a s p_statement j) h
  where
    by : (a b c d : Bool) → d ≡ true → (a || (b || (c || d))) ≡ true
    by true b c d h = refl
    by false true c d h = refl
    by false false true d h = refl
    by false false false d h = h

declaration_part : (s : Source) (j : ℕ) → is_a s p_declaration j ≡ true → is_part s j ≡ true
declaration_part s j h = by (is_a s p_block j) (is_leaf s j) (is_a s p_declaration j) (is_a s p_statement j) h
  where
    by : (a b c d : Bool) → c ≡ true → (a || (b || (c || d))) ≡ true
    by true b c d h = refl
    by false true c d h = refl
    by false false true d h = refl
    by false false false d h = cc

pub block_part : (s : Source) (j : ℕ) → is_a s p_block j ≡ true → is_part s j ≡ true
block_part s j h = by (is_a s p_block j) (is_leaf s j || (is_a s p_declaration j || is_a s p_statement j)) h
  where
    by : (a b : Bool) → a ≡ true → (a || b) ≡ true
    by true b h = refl
    by false b h = cc

module _ (Good : NodeKind → Cores → Type 0) (stops : NodeKind → Bool) (plain : (kind : NodeKind) (under : Cores) → is_plain kind ≡ true → Good kind under) where
  abbrev K : Core → Type 0
  K = IfKept Good stops

  abbrev S : Sense → Type 0
  S = KeptSense Good stops

  value_kept : (c : Core) → IsValueCore c → K c
  value_kept c h e = let both : ValueNode ≡ StatementNode = sym h ∙ e in cc

  initialiser_kept : (c : Core) → IsInitialiser (kind_of c) → K c
  initialiser_kept (Of (Initialise o paths) place type under) h e = (plain (Initialise o paths) under refl, λ enters. cc)
  initialiser_kept (Of kind place type under) h e = absurd h

  initialisers_kept : (cores : List Core) → AreInitialisers cores → EachKept Good stops cores
  initialisers_kept [] h = tt
  initialisers_kept (c ∷ rest) h = (initialiser_kept c h.0, initialisers_kept rest h.1)

  appended_kept : (first : List Core) (more : Cores) → EachKept Good stops first → AllKept Good stops more → AllKept Good stops (appended first more)
  appended_kept [] more h k = k
  appended_kept (c ∷ first) more h k = (h.0, appended_kept first more h.1 k)

  SomeKept : Option Core → Type 0
  SomeKept None = ⊤
  SomeKept (Some c) = K c

  with_kept : (o : Option Core) (more : Cores) → SomeKept o → AllKept Good stops more → AllKept Good stops (with_some o more)
  unfolding SomeKept
  with_kept None more h k = k
  with_kept (Some c) more h k = (h, k)

  module _ (w : World) (s : Source) (sense : ℕ → Sense) (at : ℕ) (good : RowGood Good stops w s sense at) (children : List ℕ) (parts : (j : ℕ) → Has children j → is_part s j ≡ true → S (sense j)) where
    core_kept : (n : ℕ) (x : Sense) → S x → Gives K (core_of n x)
    core_kept n (IsCore c) h = h
    core_kept n x h = tt

    body_kept : (list : List ℕ) → statements_among w s sense children ≡ list → Gives K (body_of w s sense at list)
    body_kept [] e = tt
    body_kept (c ∷ rest) e =
        let f = first_among (is_a s p_statement) children c rest e in
        core_kept at (sense c) (parts c f.0 (statement_part s c f.1))

    other_kept : (list : List ℕ) → statements_among w s sense children ≡ list → Gives SomeKept (other_body w s sense at list)
    unfolding SomeKept
    other_kept (c ∷ d ∷ rest) e =
        let f = second_among (is_a s p_statement) children c d rest e in
        then_gives K SomeKept (core_of at (sense d)) (λ x. Fits (Some x)) (core_kept at (sense d) (parts d f.0 (statement_part s d f.1))) (λ x h. h)
    other_kept [] e = tt
    other_kept (c ∷ []) e = tt

    body_is : Gives K (body_of w s sense at (statements_among w s sense children))
    body_is = body_kept (statements_among w s sense children) refl

    condition_is : (o : Option ℕ) → Gives IsValueCore (condition_of w s sense at o)
    condition_is None = tt
    condition_is (Some c) =
        then_gives IsValueCore IsValueCore (value_in w at (sense c)) (λ v. given_if (is_scalar (operand_of (ctype_of v))) Operand at (Fits v)) (value_gives w at (sense c))
        (λ v h. if_given IsValueCore (is_scalar (operand_of (ctype_of v))) Operand at (Fits v) (λ scalar. h))

    switched_is : (o : Option ℕ) → Gives IsValueCore (switched w s sense at o)
    switched_is None = tt
    switched_is (Some c) =
        then_gives IsValueCore IsValueCore (value_in w at (sense c)) (λ v. given_if (is_whole (operand_of (ctype_of v))) Operand at (Fits (promotion w v))) (value_gives w at (sense c))
        (λ v h. if_given IsValueCore (is_whole (operand_of (ctype_of v))) Operand at (Fits (promotion w v)) (λ whole. made_value (promoted (ctype_of v) (is_narrow (read_width w v))) v h))

    label_kept : (name : ℕ) → Gives K (labelled w s sense at name children)
    label_kept name =
        then_gives K K (body_of w s sense at (statements_among w s sense children)) (λ c. Fits (statement (Label (spelling_at s name)) (place_at s at) (one c))) body_is
        (λ c h e. (plain (Label (spelling_at s name)) (one c) refl, λ enter. (h, tt)))

    case_by : (switch : ℕ) (body : Core) (n : ℤ) → switch_around w s sense at ≡ Some switch → K body → (g : Given Core)
        → Gives K
        (elim g as (λ _. Given Core) [
          | Refuses kind node ↦ Fits (statement (Case n) (place_at s at) (one body))
          | Fits v ↦
              let m = converted (ctype_of v) n in
              given_if (not (any_where (is_case_again w s sense switch m) (numbers_from 0 at))) Operand at (Fits (statement (Case m) (place_at s at) (one body)))
        ])
    case_by switch body n around h (Refuses kind node) = λ e. (good.cases switch around n (one body), λ enter. (h, tt))
    case_by switch body n around h (Fits v) =
        if_given K _ Operand at (Fits (statement (Case (converted (ctype_of v) n)) (place_at s at) (one body))) (λ new e. (good.cases switch around (converted (ctype_of v) n) (one body), λ enter. (h, tt)))

    case_kept : Gives K (case_row w s sense at children)
    case_kept =
        some_given K (child_of s p_conditional at) Operand at _
        (λ c e.
        then_gives (λ n. ⊤) K (constant_in w s at (sense c)) _ (anything (constant_in w s at (sense c)))
        (λ n k.
        some_given K (switch_around w s sense at) Operand at _
        (λ switch around.
        then_gives K K (body_of w s sense at (statements_among w s sense children)) _ body_is
        (λ body h. case_by switch body n around h (switched w s sense switch (expression_in w s sense (children_at s switch)))))))

    default_kept : Gives K (default_row w s sense at children)
    default_kept =
        some_given K (switch_around w s sense at) Operand at _
        (λ switch around.
        if_given K _ Operand at (body_of w s sense at (statements_among w s sense children) >>= (λ body. Fits (statement Default (place_at s at) (one body))))
        (λ new.
        then_gives K K (body_of w s sense at (statements_among w s sense children)) (λ body. Fits (statement Default (place_at s at) (one body))) body_is
        (λ body h e. (good.defaults switch around (one body), λ enter. (h, tt)))))

    if_kept : Gives K (if_row w s sense at children)
    if_kept =
        then_gives IsValueCore K (condition_of w s sense at (expression_in w s sense children)) _ (condition_is (expression_in w s sense children))
        (λ c h.
        then_gives K K (body_of w s sense at (statements_among w s sense children)) _ body_is
        (λ body k.
        then_gives SomeKept K (other_body w s sense at (statements_among w s sense children)) _ (other_kept (statements_among w s sense children) refl)
        (λ other l e. (plain If (MoreCores c (MoreCores body (with_some other NoCores))) refl, λ enter. (value_kept c h, (k, with_kept other NoCores l tt))))))

    switch_kept : Gives K (switch_row w s sense at children)
    switch_kept =
        then_gives IsValueCore K (switched w s sense at (expression_in w s sense children)) _ (switched_is (expression_in w s sense children))
        (λ c h.
        then_gives K K (body_of w s sense at (statements_among w s sense children)) _ body_is
        (λ body k e. (plain Switch (MoreCores c (MoreCores body NoCores)) refl, λ enter. (value_kept c h, (k, tt)))))

    while_kept : Gives K (while_row w s sense at children)
    while_kept =
        then_gives IsValueCore K (condition_of w s sense at (expression_in w s sense children)) _ (condition_is (expression_in w s sense children))
        (λ c h.
        then_gives K K (body_of w s sense at (statements_among w s sense children)) _ body_is
        (λ body k e. (plain While (MoreCores c (MoreCores body NoCores)) refl, λ enter. (value_kept c h, (k, tt)))))

    do_kept : Gives K (do_row w s sense at children)
    do_kept =
        then_gives IsValueCore K (condition_of w s sense at (expression_in w s sense children)) _ (condition_is (expression_in w s sense children))
        (λ c h.
        then_gives K K (body_of w s sense at (statements_among w s sense children)) _ body_is
        (λ body k e. (plain DoWhile (MoreCores body (MoreCores c NoCores)) refl, λ enter. (k, (value_kept c h, tt)))))

    -- a for
    run_kept : (x : Sense) → S x → EachKept Good stops (elim x as (λ _. List Core) [ IsRun cores ↦ cores | _ ↦ [] ])
    run_kept (IsRun cores) h = initialisers_kept cores h
    run_kept x h = tt

    expression_kept : (c : ℕ) → Gives K (expression_statement w s sense at c)
    expression_kept c =
        then_gives IsValueCore K (value_in w at (sense c)) (λ v. Fits (statement Expression (own_place s c) (one v))) (value_gives w at (sense c))
        (λ v h e. (plain Expression (one v) refl, λ enter. cc))

    first_kept : (o : Option ℕ) → ((c : ℕ) → o ≡ Some c → is_a s p_declaration c ≡ true → S (sense c)) → Gives (EachKept Good stops) (for_first w s sense at o)
    first_kept None h = tt
    first_kept (Some c) h =
        if_holds (Gives (EachKept Good stops)) (is_a s p_declaration c) (Fits (elim (sense c) as (λ _. List Core) [ IsRun cores ↦ cores | _ ↦ [] ])) (expression_statement w s sense at c >>= (λ x. Fits (x ∷ [])))
        (λ t. run_kept (sense c) (h c refl t))
        (λ f. then_gives K (EachKept Good stops) (expression_statement w s sense at c) (λ x. Fits (x ∷ [])) (expression_kept c) (λ x k. (k, tt)))

    some_value : Option Core → Type 0
    some_value None = ⊤
    some_value (Some c) = IsValueCore c

    after_condition : (o : Option ℕ) → Gives some_value (for_condition w s sense at o)
    unfolding some_value
    after_condition None = tt
    after_condition (Some c) = then_gives IsValueCore some_value (condition_of w s sense at (Some c)) (λ v. Fits (Some v)) (condition_is (Some c)) (λ v h. h)

    after_turn : (o : Option ℕ) → Gives some_value (for_after w s sense at o)
    unfolding some_value
    after_turn None = tt
    after_turn (Some c) = then_gives IsValueCore some_value (value_in w at (sense c)) (λ v. Fits (Some v)) (value_gives w at (sense c)) (λ v h. h)

    value_some : (o : Option Core) → some_value o → SomeKept o
    unfolding some_value SomeKept
    value_some None h = tt
    value_some (Some c) h = value_kept c h

    for_of_kept : (p : ForParts) (rest : List ℕ) → ((c : ℕ) → p.first ≡ Some c → is_a s p_declaration c ≡ true → S (sense c)) → Gives K (body_of w s sense at (statements_among w s sense rest)) → Gives K (for_of w s sense at p rest)
    for_of_kept p rest h own =
        then_gives (EachKept Good stops) K (for_first w s sense at p.first) _ (first_kept p.first h)
        (λ first a.
        then_gives some_value K (for_condition w s sense at p.condition) _ (after_condition p.condition)
        (λ condition b.
        then_gives some_value K (for_after w s sense at p.after) _ (after_turn p.after)
        (λ after c.
        then_gives K K (body_of w s sense at (statements_among w s sense rest)) _ own
        (λ body k e. (
          plain (For (for_objects w s sense p.first) (is_some condition) (is_some after)) (appended first (with_some condition (with_some after (one body)))) refl,
          λ enter. appended_kept first (with_some condition (with_some after (one body))) a (with_kept condition (with_some after (one body)) (value_some condition b) (with_kept after (one body) (value_some after c) (k, tt))),
        )))))

  before_is : (w : World) (s : Source) (sense : ℕ → Sense) (c : ℕ) (rest : List ℕ) (x : ℕ) → expression_before w s sense (c ∷ rest) ≡ Some x → c ≡ x
  before_is w s sense c rest x e = by (is_a s p_expression c) e
    where
      by : (b : Bool) → (if b then Some c else None) ≡ Some x → c ≡ x
      by true e = cc
      by false e = cc

  parts_first : (w : World) (s : Source) (sense : ℕ → Sense) (list : List ℕ) (x : ℕ) → (for_parts w s sense list).first ≡ Some x → Has list x
  parts_first w s sense [] x e = cc
  parts_first w s sense (c ∷ rest) x e =
      if_holds (λ (p : ForParts). p.first ≡ Some x → Has (c ∷ rest) x) (is_a s p_declaration c) _ _ (λ t h. (0, h)) (λ f h. (0, ap Some (before_is w s sense c rest x h))) e

  module _ (w : World) (s : Source) (sense : ℕ → Sense) (at : ℕ) (good : RowGood Good stops w s sense at) where
    abbrev Parts : List ℕ → Type 0
    Parts children = (j : ℕ) → Has children j → is_part s j ≡ true → S (sense j)

    for_kept : (children : List ℕ) → Parts children → Gives K (for_row w s sense at children)
    for_kept [] parts = tt
    for_kept (word ∷ []) parts = tt
    for_kept (word ∷ parenthesis ∷ rest) parts =
        for_of_kept w s sense at good (word ∷ parenthesis ∷ rest) parts (for_parts w s sense rest) rest
        (λ c e t. let h = parts_first w s sense rest c e in parts c (suc (suc h.0), h.1) (declaration_part s c t))
        (body_is w s sense at good rest (λ j h p. parts j (suc (suc h.0), h.1) p))

    goto_kept : (children : List ℕ) → Gives K (goto_row w s sense at children)
    goto_kept children = some_given K (first_where (is_name s) children) Operand at _ (λ name e f. (good.gotos (spelling_at s name), λ enter. cc))

    return_kept : (o : Option ℕ) → Gives K (return_row w s sense at o)
    return_kept None = λ e. (good.empties, λ enter. cc)
    return_kept (Some c) =
        some_given K (returned_type w s sense at) Operand at _
        (λ t e.
        then_gives (λ v. ⊤) K (value_in w at (sense c)) _ (anything (value_in w at (sense c)))
        (λ v h. then_gives (λ x. Good Return (one x)) K (conversion w false at v t) (λ x. Fits (statement Return (place_at s at) (one x))) (good.returns t v e) (λ x k f. (k, λ enter. cc))))

    word_kept : (children : List ℕ) → Parts children → (o : Option ℕ) → Gives K (of_word w s sense at children o)
    word_kept children parts None = tt
    word_kept children parts (Some word) =
        if_holds (Gives K) (word == word_case) _ _ (λ e. case_kept w s sense at good children parts)
        (λ e. if_holds (Gives K) (word == word_default) _ _ (λ e. default_kept w s sense at good children parts)
        (λ e. if_holds (Gives K) (word == word_if) _ _ (λ e. if_kept w s sense at good children parts)
        (λ e. if_holds (Gives K) (word == word_switch) _ _ (λ e. switch_kept w s sense at good children parts)
        (λ e. if_holds (Gives K) (word == word_while) _ _ (λ e. while_kept w s sense at good children parts)
        (λ e. if_holds (Gives K) (word == word_do) _ _ (λ e. do_kept w s sense at good children parts)
        (λ e. if_holds (Gives K) (word == word_for) _ _ (λ e. for_kept children parts)
        (λ e. if_holds (Gives K) (word == word_goto) _ _ (λ e. goto_kept children)
        (λ e. if_holds (Gives K) (word == word_continue) _ _ (λ e. if_given K _ Operand at (Fits (statement Continue (place_at s at) NoCores)) (λ t f. (good.continues t, λ enter. cc)))
        (λ e. if_holds (Gives K) (word == word_break) _ _ (λ e. if_given K _ Operand at (Fits (statement Break (place_at s at) NoCores)) (λ t f. (good.breaks t, λ enter. cc)))
        (λ e. if_holds (Gives K) (word == word_return) _ (Refuses Operand at) (λ e. return_kept (expression_in w s sense children)) (λ e. tt)))))))))))

    leaf_kept : (first : ℕ) (children : List ℕ) → Parts children → Gives K (leaf_statement w s sense at first children)
    leaf_kept first children parts =
        if_holds (Gives K) (has_sign s sign_semicolon first) _ _ (λ t e. (plain Skip NoCores refl, λ enter. cc))
        (λ f. if_holds (Gives K) (is_name s first) _ _ (λ t. label_kept w s sense at good children parts first) (λ f. word_kept children parts (word_at s first)))

    -- 6.8: a statement
    pub statement_kept : (children : List ℕ) → Parts children
        → ((first : ℕ) (rest : List ℕ) → children ≡ first ∷ rest → is_leaf s first ≡ false → is_a s p_expression first ≡ false → is_a s p_block first ≡ true) → Gives S (statement_row w s sense at children)
    statement_kept [] parts begins = tt
    statement_kept (first ∷ rest) parts begins =
        if_holds (Gives S) (is_leaf s first) _ _ (λ t. then_gives K S (leaf_statement w s sense at first (first ∷ rest)) fits (leaf_kept first (first ∷ rest) parts) (λ c h. h))
        (λ f. if_holds (Gives S) (is_a s p_expression first) _ _
        (λ t. then_gives K S (expression_statement w s sense at first) fits (expression_kept w s sense at good (first ∷ rest) parts first) (λ c h. h))
        (λ g. parts first (0, refl) (block_part s first (begins first rest refl f g))))

  -- 6.8.2: a block
  module _ (w : World) (s : Source) (sense : ℕ → Sense) where
    cores_kept : (list : List ℕ) → ((j : ℕ) → Has list j → S (sense j)) → AllKept Good stops (cores_in w s sense list)
    cores_kept [] parts = tt
    cores_kept (c ∷ rest) parts = by (sense c) (parts c (0, refl)) (cores_kept rest (λ j h. parts j (suc h.0, h.1)))
      where
        by : (x : Sense) → S x → AllKept Good stops (cores_in w s sense rest)
            → AllKept Good stops (elim x as (λ _. Cores) [ IsCore y ↦ MoreCores y (cores_in w s sense rest) | IsRun cores ↦ appended cores (cores_in w s sense rest) | _ ↦ cores_in w s sense rest ])
        by (IsCore y) h later = (h, later)
        by (IsRun cores) h later = appended_kept cores (cores_in w s sense rest) (initialisers_kept cores h) later
        by x h later = later

    pub block_kept : (at : ℕ) (children : List ℕ) → ((j : ℕ) → Has children j → S (sense j)) → Gives S (block_row w s sense at children)
    block_kept at children parts = λ e. (plain (Block (objects_in w s sense children)) (cores_in w s sense children) refl, λ enter. cores_kept children parts)
