-- The rows of statements over sound senses.
use Rattle.std.proofs.Common.{◌≡◌, ℕ, suc, Bool, true, false, ◌==◌, List, [], ◌∷◌, slice_get, Option, Some, None, refl, sym, subst, All, inl, inr}
use Rattle.std.specs.Prelude.{⊤, ℤ, is_some, not, reverse, if◌then◌else◌}
use Rattle.std.proofs.lemmas.List.Elements.{All-cons, All-nil, All-head, All-tail}
use mathlib.Core.List.{reverse_aux}
use Rattle.pta_base.specs.declared.kind.Kind.TheVariants.{Operand}
use Rattle.pta_base.specs.declared.place.Place.{Place}
use Rattle.c_types.specs.Trees.{Ctype}
use Rattle.c_conversions.specs.passed.core_tree.declared.node.NodeKind.{NodeKind}
use Rattle.c_conversions.specs.passed.core_tree.declared.node.NodeKind.TheVariants.{Expression, If, For, Case, Default, Label, Goto, Break, Continue, Initialise}
use Rattle.c_conversions.specs.passed.core_tree.Typed.{ValueNode, StatementNode, IsInteger, sort_of}
use Rattle.c_conversions.specs.passed.core_tree.Rows.{InitialisesOneOf}
use Rattle.c_grammar.specs.Productions.{p_declaration, p_statement, p_block, p_expression, p_conditional}
use Rattle.c_grammar.specs.Words.{word_case, word_default, word_if, word_switch, word_while, word_do, word_for, word_goto, word_continue, word_break, word_return, sign_semicolon}
use Rattle.c_senses.specs.passed.c_consts.Core.{Core, Cores, NoCores, MoreCores, kind_of, ctype_of, core_sort}
use Rattle.c_senses.specs.Tree.{Source, is_a, is_leaf, is_name, has_sign, place_at, spelling_at, word_at, children_at, first_where, all_where, any_where, child_of, numbers_from}
use Rattle.c_senses.specs.Given.{Given, Fits, Refuses, ◌>>=◌, given_if}
use Rattle.c_senses.specs.World.{World}
use Rattle.c_senses.specs.Conversions.{OperandSort, Whole, operand_of, is_scalar, promotion, conversion}
use Rattle.c_senses.specs.Constants.{constant_in, is_whole}
use Rattle.c_senses.specs.passed.c_consts.Wrapped.{converted}
use Rattle.c_senses.specs.Places.{own_place}
use Rattle.c_senses.specs.Sense.{Sense, IsCore, IsRun, core_of, value_in, fits}
use Rattle.c_senses.specs.Statements.{statement, one, appended, with_some, ForParts, objects_declared, cores_in, block_row, condition_of, statements_among, body_of, other_body, expression_in, labelled, switch_around, switched, is_case_again, case_in, case_row, default_row, if_row, switch_row, while_row, do_row, for_parts, expression_statement, for_first, for_objects, for_condition, for_after, for_of, for_row, break_row, continue_row, goto_row, returned_type, return_row, of_word, leaf_statement, statement_of, statement_row}
use Rattle.parsed_tree_laws.specs.sense_laws.Sound.{Sound, AllSound, AreSound, SoundValue, SoundOf, ProperWorld, IsStatementCore, IsConditionCore, IsForFirst, AreForParts, list_of, Gives}
use Rattle.parsed_tree_laws.specs.sense_laws.Senses.{SoundSense, IsStatementSense, AllInitialise, RunsIn, AreInitialisers, IsInitialiser, StatementParts}
use Rattle.parsed_tree_laws.proofs.sense_laws.Giving.{then_gives, if_given, some_given, if_holds}
use Rattle.parsed_tree_laws.proofs.sense_laws.Conversions.{whole_integer, promotion_value, promotion_promoted, promoted_integer, conversion_sound}
use Rattle.parsed_tree_laws.proofs.sense_laws.Operators.{scalar_type}
use Rattle.parsed_tree_laws.proofs.sense_laws.Expressions.{value_in_sound}

whole_sort : (x : OperandSort) → is_whole x ≡ true → x ≡ Whole
whole_sort Whole h = refl
whole_sort x h = cc

whole_type : (t : Ctype) → is_whole (operand_of t) ≡ true → IsInteger t
whole_type t h = whole_integer t (whole_sort (operand_of t) h)

first_passes : (test : ℕ → Bool) (list : List ℕ) (c : ℕ) (rest : List ℕ) → all_where test list ≡ c ∷ rest → test c ≡ true
first_passes test [] c rest e = cc
first_passes test (x ∷ xs) c rest e =
    if_holds (λ (l : List ℕ). l ≡ c ∷ rest → test c ≡ true) (test x) (x ∷ all_where test xs) (all_where test xs)
    (λ t h. let same : x ≡ c = cc in subst (λ (y : ℕ). test y ≡ true) same t) (λ f h. first_passes test xs c rest h) e

second_passes : (test : ℕ → Bool) (list : List ℕ) (c d : ℕ) (rest : List ℕ) → all_where test list ≡ c ∷ d ∷ rest → test d ≡ true
second_passes test [] c d rest e = cc
second_passes test (x ∷ xs) c d rest e =
    if_holds (λ (l : List ℕ). l ≡ c ∷ d ∷ rest → test d ≡ true) (test x) (x ∷ all_where test xs) (all_where test xs)
    (λ t h. first_passes test xs d rest (let same : all_where test xs ≡ d ∷ rest = cc in same)) (λ f h. second_passes test xs c d rest h) e

initialiser_sort : (kind : NodeKind) → IsInitialiser kind → sort_of kind ≡ StatementNode
initialiser_sort (Initialise e paths) h = refl
initialiser_sort kind h = absurd h

reverse_onto_all : (P : Core → Type 0) (xs ys : List Core) → All P xs → All P ys → All P (reverse_aux xs ys)
reverse_onto_all P [] ys h k = k
reverse_onto_all P (x ∷ xs) ys h k = reverse_onto_all P xs (x ∷ ys) (All-tail P x xs h) (All-cons P x ys (All-head P x xs h) k)

module _ (w : World) (entities : ℕ → Option Ctype) where
  -- a sound statement
  abbrev pub SoundStatement : Core → Type 0
  SoundStatement c = Sound w entities c × IsStatementCore c

  reverse_twice : (xs ys : List Core) → reverse_aux (reverse_aux xs ys) [] ≡ reverse_aux ys xs
  reverse_twice [] ys = refl
  reverse_twice (x ∷ xs) ys = reverse_twice xs (x ∷ ys)

  reverse_reverse : (xs : List Core) → reverse (reverse xs) ≡ xs
  reverse_reverse xs = reverse_twice xs []

  appended_all : (P : Core → Type 0) (first : List Core) (more : Cores) → All P first → All P (list_of more) → All P (list_of (appended first more))
  appended_all P [] more h k = k
  appended_all P (c ∷ first) more h k = All-cons P c (list_of (appended first more)) (All-head P c first h) (appended_all P first more (All-tail P c first h) k)

  appended_sound : (first : List Core) (more : Cores) → AreSound w entities first → AllSound w entities more → AllSound w entities (appended first more)
  appended_sound [] more h k = k
  appended_sound (c ∷ first) more h k = (h.0, appended_sound first more h.1 k)

  initialisers_are : (first : List Core) → AreInitialisers first → All IsStatementCore first
  initialisers_are [] h = All-nil IsStatementCore
  initialisers_are (c ∷ first) h = All-cons IsStatementCore c first (initialiser_sort (kind_of c) h.0) (initialisers_are first h.1)

  pub SomeStatement : Option Core → Type 0
  SomeStatement None = ⊤
  SomeStatement (Some c) = SoundStatement c

  anything : {A : Type 0} (g : Given A) → Gives (λ n. ⊤) g
  anything (Fits n) = tt
  anything (Refuses kind node) = tt

  initialise_all : (es : List ℕ) (first : List Core) → AllInitialise es first → All (λ c. InitialisesOneOf es (kind_of c)) first
  initialise_all es [] h = All-nil (λ c. InitialisesOneOf es (kind_of c))
  initialise_all es (c ∷ first) h = All-cons (λ c. InitialisesOneOf es (kind_of c)) c first h.0 (initialise_all es first h.1)

  module _ (world : ProperWorld w) (s : Source) (sense : ℕ → Sense) (sound : (i : ℕ) → SoundSense w entities (sense i)) (parts : StatementParts w s sense) where
    -- statements and conditions within a statement
    statement_given : (at : ℕ) (x : Sense) → SoundSense w entities x → IsStatementSense x → Gives SoundStatement (core_of at x)
    statement_given at (IsCore c) h k = (h, k)
    statement_given at x h k = tt

    body_sound : (at : ℕ) (children list : List ℕ) → statements_among w s sense children ≡ list → Gives SoundStatement (body_of w s sense at list)
    body_sound at children [] e = tt
    body_sound at children (c ∷ rest) e = statement_given at (sense c) (sound c) (parts.statements c (first_passes (is_a s p_statement) children c rest e))

    AreCondition : Core → Type 0
    AreCondition c = Sound w entities c × IsConditionCore c

    condition_sound : (at : ℕ) (o : Option ℕ) → Gives AreCondition (condition_of w s sense at o)
    unfolding AreCondition
    condition_sound at None = tt
    condition_sound at (Some c) =
        then_gives (SoundValue w entities) AreCondition (value_in w at (sense c)) (λ v. given_if (is_scalar (operand_of (ctype_of v))) Operand at (Fits v)) (value_in_sound w entities world at (sense c) (sound c))
        (λ v h. if_given AreCondition (is_scalar (operand_of (ctype_of v))) Operand at (Fits v) (λ scalar. (h.0, (h.1, scalar_type (ctype_of v) scalar))))

    AreSwitched : Core → Type 0
    AreSwitched c = Sound w entities c × (core_sort c ≡ ValueNode) × IsInteger (ctype_of c)

    switched_sound : (at : ℕ) (o : Option ℕ) → Gives AreSwitched (switched w s sense at o)
    unfolding AreSwitched
    switched_sound at None = tt
    switched_sound at (Some c) =
        then_gives (SoundValue w entities) AreSwitched (value_in w at (sense c)) (λ v. given_if (is_whole (operand_of (ctype_of v))) Operand at (Fits (promotion w v))) (value_in_sound w entities world at (sense c) (sound c))
        (λ v h.
        if_given AreSwitched (is_whole (operand_of (ctype_of v))) Operand at (Fits (promotion w v))
        (λ whole.
        let t : IsInteger (ctype_of v) = whole_type (ctype_of v) whole in
        let p = promotion_value w entities v h t in
        (p.0, p.1, promoted_integer (ctype_of (promotion w v)) (promotion_promoted w entities v h t))))

    -- labels and cases
    labelled_sound : (at name : ℕ) (children : List ℕ) → Gives SoundStatement (labelled w s sense at name children)
    labelled_sound at name children =
        then_gives SoundStatement SoundStatement (body_of w s sense at (statements_among w s sense children)) (λ c. Fits (statement (Label (spelling_at s name)) (place_at s at) (one c))) (body_sound at children (statements_among w s sense children) refl)
        (λ c h. ((h.1, tt, refl, (h.0, tt)), refl))

    case_by : (at switch : ℕ) (body : Core) (n : ℤ) → SoundStatement body → (g : Given Core)
        → Gives SoundStatement
        (elim g as (λ _. Given Core) [
          | Refuses kind node ↦ Fits (statement (Case n) (place_at s at) (one body))
          | Fits v ↦
              let m = converted (ctype_of v) n in
              given_if (not (any_where (is_case_again w s sense switch m) (numbers_from 0 at))) Operand at (Fits (statement (Case m) (place_at s at) (one body)))
        ])
    case_by at switch body n h (Refuses kind node) = ((h.1, tt, refl, (h.0, tt)), refl)
    case_by at switch body n h (Fits v) =
        if_given SoundStatement _ Operand at (Fits (statement (Case (converted (ctype_of v) n)) (place_at s at) (one body))) (λ new. ((h.1, tt, refl, (h.0, tt)), refl))

    case_in_sound : (at switch : ℕ) (body : Core) (n : ℤ) → SoundStatement body → Gives SoundStatement (case_in w s sense at switch body n)
    case_in_sound at switch body n h = case_by at switch body n h (switched w s sense switch (expression_in w s sense (children_at s switch)))

    case_sound : (at : ℕ) (children : List ℕ) → Gives SoundStatement (case_row w s sense at children)
    case_sound at children =
        some_given SoundStatement (child_of s p_conditional at) Operand at _
        (λ c e.
        then_gives (λ n. ⊤) SoundStatement (constant_in w s at (sense c)) _ (anything (constant_in w s at (sense c)))
        (λ n k.
        some_given SoundStatement (switch_around w s sense at) Operand at _
        (λ switch f.
        then_gives SoundStatement SoundStatement (body_of w s sense at (statements_among w s sense children)) _ (body_sound at children (statements_among w s sense children) refl)
        (λ body h. case_in_sound at switch body n h))))

    default_sound : (at : ℕ) (children : List ℕ) → Gives SoundStatement (default_row w s sense at children)
    default_sound at children =
        some_given SoundStatement (switch_around w s sense at) Operand at _
        (λ switch f.
        if_given SoundStatement _ Operand at (body_of w s sense at (statements_among w s sense children) >>= (λ body. Fits (statement Default (place_at s at) (one body))))
        (λ new.
        then_gives SoundStatement SoundStatement (body_of w s sense at (statements_among w s sense children)) (λ body. Fits (statement Default (place_at s at) (one body))) (body_sound at children (statements_among w s sense children) refl)
        (λ body h. ((h.1, tt, refl, (h.0, tt)), refl))))

    -- choices and loops
    other_sound : (at : ℕ) (children list : List ℕ) → statements_among w s sense children ≡ list → Gives (λ o. SomeStatement o) (other_body w s sense at list)
    unfolding SomeStatement
    other_sound at children (c ∷ d ∷ rest) e =
        then_gives SoundStatement (λ o. SomeStatement o) (core_of at (sense d)) (λ x. Fits (Some x)) (statement_given at (sense d) (sound d) (parts.statements d (second_passes (is_a s p_statement) children c d rest e))) (λ x h. h)
    other_sound at children [] e = tt
    other_sound at children (c ∷ []) e = tt

    if_of : (place : Place) (c body : Core) (other : Option Core) → AreCondition c → SoundStatement body → SomeStatement other → SoundStatement (statement If place (MoreCores c (MoreCores body (with_some other NoCores))))
    unfolding SomeStatement AreCondition
    if_of place c body None h k l = (((h.1, k.1), tt, refl, (h.0, (k.0, tt))), refl)
    if_of place c body (Some x) h k l = (((h.1, k.1, l.1), tt, refl, (h.0, (k.0, (l.0, tt)))), refl)

    if_sound : (at : ℕ) (children : List ℕ) → Gives SoundStatement (if_row w s sense at children)
    if_sound at children =
        then_gives AreCondition SoundStatement (condition_of w s sense at (expression_in w s sense children)) _ (condition_sound at (expression_in w s sense children))
        (λ c h.
        then_gives SoundStatement SoundStatement (body_of w s sense at (statements_among w s sense children)) _ (body_sound at children (statements_among w s sense children) refl)
        (λ body k.
        then_gives (λ o. SomeStatement o) SoundStatement (other_body w s sense at (statements_among w s sense children)) _ (other_sound at children (statements_among w s sense children) refl)
        (λ other l. if_of (place_at s at) c body other h k l)))

    switch_sound : (at : ℕ) (children : List ℕ) → Gives SoundStatement (switch_row w s sense at children)
    unfolding AreSwitched
    switch_sound at children =
        then_gives AreSwitched SoundStatement (switched w s sense at (expression_in w s sense children)) _ (switched_sound at (expression_in w s sense children))
        (λ c h.
        then_gives SoundStatement SoundStatement (body_of w s sense at (statements_among w s sense children)) _ (body_sound at children (statements_among w s sense children) refl)
        (λ body k. ((((h.1, h.2), k.1), tt, refl, (h.0, (k.0, tt))), refl)))

    while_sound : (at : ℕ) (children : List ℕ) → Gives SoundStatement (while_row w s sense at children)
    unfolding AreCondition
    while_sound at children =
        then_gives AreCondition SoundStatement (condition_of w s sense at (expression_in w s sense children)) _ (condition_sound at (expression_in w s sense children))
        (λ c h.
        then_gives SoundStatement SoundStatement (body_of w s sense at (statements_among w s sense children)) _ (body_sound at children (statements_among w s sense children) refl)
        (λ body k. (((h.1, k.1), tt, refl, (h.0, (k.0, tt))), refl)))

    do_sound : (at : ℕ) (children : List ℕ) → Gives SoundStatement (do_row w s sense at children)
    unfolding AreCondition
    do_sound at children =
        then_gives AreCondition SoundStatement (condition_of w s sense at (expression_in w s sense children)) _ (condition_sound at (expression_in w s sense children))
        (λ c h.
        then_gives SoundStatement SoundStatement (body_of w s sense at (statements_among w s sense children)) _ (body_sound at children (statements_among w s sense children) refl)
        (λ body k. (((h.1, k.1), tt, refl, (k.0, (h.0, tt))), refl)))

    -- an expression, and jumps
    expression_sound : (at c : ℕ) → Gives SoundStatement (expression_statement w s sense at c)
    expression_sound at c = then_gives (SoundValue w entities) SoundStatement (value_in w at (sense c)) _ (value_in_sound w entities world at (sense c) (sound c)) (λ v h. ((h.1, tt, refl, (h.0, tt)), refl))

    return_sound : (at : ℕ) (o : Option ℕ) → Gives SoundStatement (return_row w s sense at o)
    return_sound at None = ((tt, tt, refl, tt), refl)
    return_sound at (Some c) =
        some_given SoundStatement (returned_type w s sense at) Operand at _
        (λ t e.
        then_gives (SoundValue w entities) SoundStatement (value_in w at (sense c)) _ (value_in_sound w entities world at (sense c) (sound c))
        (λ v h.
        then_gives (SoundOf w entities t) SoundStatement (conversion w false at v t) _ (conversion_sound w entities v h world false at t (parts.returns at t e))
        (λ x k. ((k.1.0, tt, refl, (k.0, tt)), refl))))

    -- a For
    FirstIn : List ℕ → List Core → Type 0
    FirstIn es first = AreSound w entities first × IsForFirst es first

    run_of : (es : List ℕ) (x : Sense) → SoundSense w entities x → RunsIn es x → FirstIn es (elim x as (λ _. List Core) [ IsRun cores ↦ cores | _ ↦ [] ])
    unfolding FirstIn
    run_of es (IsRun cores) h k = (h.0, inl (initialise_all es cores k))
    run_of es x h k = (tt, inl (All-nil (λ c. InitialisesOneOf es (kind_of c))))

    first_in : (at c : ℕ) (b : Bool) → is_a s p_declaration c ≡ b → Gives (FirstIn (if b then objects_declared w s sense c else [])) (if b then Fits (elim (sense c) as (λ _. List Core) [ IsRun cores ↦ cores | _ ↦ [] ]) else (expression_statement w s sense at c >>= (λ x. Fits (x ∷ []))))
    unfolding FirstIn
    first_in at c true e = run_of (objects_declared w s sense c) (sense c) (sound c) (parts.runs c e)
    first_in at c false e =
        then_gives (λ x. SoundStatement x × (kind_of x ≡ Expression)) (FirstIn []) (expression_statement w s sense at c) (λ x. Fits (x ∷ []))
        (then_gives (SoundValue w entities) (λ x. SoundStatement x × (kind_of x ≡ Expression)) (value_in w at (sense c)) (λ v. Fits (statement Expression (own_place s c) (one v))) (value_in_sound w entities world at (sense c) (sound c))
        (λ v h. (((h.1, tt, refl, (h.0, tt)), refl), refl)))
        (λ x h. ((h.0.0, tt), inr h.1))

    first_sound : (at : ℕ) (o : Option ℕ) → Gives (FirstIn (for_objects w s sense o)) (for_first w s sense at o)
    unfolding FirstIn
    first_sound at None = (tt, inl (All-nil (λ c. InitialisesOneOf [] (kind_of c))))
    first_sound at (Some c) = first_in at c (is_a s p_declaration c) refl

    SomeCondition : Option Core → Type 0
    SomeCondition None = ⊤
    SomeCondition (Some c) = AreCondition c

    SomeValue : Option Core → Type 0
    SomeValue None = ⊤
    SomeValue (Some c) = SoundValue w entities c

    for_condition_sound : (at : ℕ) (o : Option ℕ) → Gives SomeCondition (for_condition w s sense at o)
    unfolding SomeCondition
    for_condition_sound at None = tt
    for_condition_sound at (Some c) = then_gives AreCondition SomeCondition (condition_of w s sense at (Some c)) (λ v. Fits (Some v)) (condition_sound at (Some c)) (λ v h. h)

    for_after_sound : (at : ℕ) (o : Option ℕ) → Gives SomeValue (for_after w s sense at o)
    unfolding SomeValue
    for_after_sound at None = tt
    for_after_sound at (Some c) = then_gives (SoundValue w entities) SomeValue (value_in w at (sense c)) (λ v. Fits (Some v)) (value_in_sound w entities world at (sense c) (sound c)) (λ v h. h)

    turned : (first : List Core) (more : Cores) (done : List Core) → reverse_aux (list_of (appended first more)) done ≡ reverse_aux (list_of more) (reverse_aux first done)
    turned [] more done = refl
    turned (c ∷ first) more done = turned first more (c ∷ done)

    for_made : (es : List ℕ) (place : Place) (first : List Core) (condition after : Option Core) (body : Core) → FirstIn es first → SomeCondition condition → SomeValue after → SoundStatement body → SoundStatement (statement (For es (is_some condition) (is_some after)) place (appended first (with_some condition (with_some after (one body)))))
    unfolding FirstIn SomeCondition SomeValue AreCondition
    for_made es place first condition after body f c a b =
        let twice : IsForFirst es (reverse (reverse first)) = subst (λ (l : List Core). IsForFirst es l) (sym (reverse_reverse first)) f.1 in
        ((subst (λ (l : List Core). AreForParts es (is_some condition) (is_some after) l) (sym (turned first (with_some condition (with_some after (one body))) [])) (rows condition after c a twice), tt, refl, appended_sound first (with_some condition (with_some after (one body))) f.0 (all condition after c a)), refl)
      where
        rows : (condition after : Option Core) → SomeCondition condition → SomeValue after → IsForFirst es (reverse (reverse first)) → AreForParts es (is_some condition) (is_some after) (reverse_aux (list_of (with_some condition (with_some after (one body)))) (reverse first))
        rows None None c a h = (b.1, h)
        rows (Some x) None c a h = (b.1, (c.1, h))
        rows None (Some y) c a h = (b.1, (a.1, h))
        rows (Some x) (Some y) c a h = (b.1, (a.1, (c.1, h)))

        all : (condition after : Option Core) → SomeCondition condition → SomeValue after → AllSound w entities (with_some condition (with_some after (one body)))
        all None None c a = (b.0, tt)
        all (Some x) None c a = (c.0, (b.0, tt))
        all None (Some y) c a = (a.0, (b.0, tt))
        all (Some x) (Some y) c a = (c.0, (a.0, (b.0, tt)))

    for_of_sound : (at : ℕ) (p : ForParts) (children : List ℕ) → Gives SoundStatement (for_of w s sense at p children)
    for_of_sound at p children =
        then_gives (FirstIn (for_objects w s sense p.first)) SoundStatement (for_first w s sense at p.first) _ (first_sound at p.first)
        (λ first f.
        then_gives SomeCondition SoundStatement (for_condition w s sense at p.condition) _ (for_condition_sound at p.condition)
        (λ condition c.
        then_gives SomeValue SoundStatement (for_after w s sense at p.after) _ (for_after_sound at p.after)
        (λ after a.
        then_gives SoundStatement SoundStatement (body_of w s sense at (statements_among w s sense children)) _ (body_sound at children (statements_among w s sense children) refl)
        (λ body b. for_made (for_objects w s sense p.first) (place_at s at) first condition after body f c a b))))

    for_sound : (at : ℕ) (children : List ℕ) → Gives SoundStatement (for_row w s sense at children)
    for_sound at [] = tt
    for_sound at (word ∷ []) = tt
    for_sound at (word ∷ parenthesis ∷ rest) = for_of_sound at (for_parts w s sense rest) rest

    break_sound : (at : ℕ) → Gives SoundStatement (break_row w s sense at)
    break_sound at = if_given SoundStatement _ Operand at (Fits (statement Break (place_at s at) NoCores)) (λ within. ((tt, tt, refl, tt), refl))

    continue_sound : (at : ℕ) → Gives SoundStatement (continue_row w s sense at)
    continue_sound at = if_given SoundStatement _ Operand at (Fits (statement Continue (place_at s at) NoCores)) (λ within. ((tt, tt, refl, tt), refl))

    goto_sound : (at : ℕ) (children : List ℕ) → Gives SoundStatement (goto_row w s sense at children)
    goto_sound at children = some_given SoundStatement (first_where (is_name s) children) Operand at (λ name. Fits (statement (Goto (spelling_at s name)) (place_at s at) NoCores)) (λ name e. ((tt, tt, refl, tt), refl))

    of_word_sound : (at : ℕ) (children : List ℕ) (o : Option ℕ) → Gives SoundStatement (of_word w s sense at children o)
    of_word_sound at children None = tt
    of_word_sound at children (Some word) =
        if_holds (Gives SoundStatement) (word == word_case) _ _ (λ e. case_sound at children)
        (λ e. if_holds (Gives SoundStatement) (word == word_default) _ _ (λ e. default_sound at children)
        (λ e. if_holds (Gives SoundStatement) (word == word_if) _ _ (λ e. if_sound at children)
        (λ e. if_holds (Gives SoundStatement) (word == word_switch) _ _ (λ e. switch_sound at children)
        (λ e. if_holds (Gives SoundStatement) (word == word_while) _ _ (λ e. while_sound at children)
        (λ e. if_holds (Gives SoundStatement) (word == word_do) _ _ (λ e. do_sound at children)
        (λ e. if_holds (Gives SoundStatement) (word == word_for) _ _ (λ e. for_sound at children)
        (λ e. if_holds (Gives SoundStatement) (word == word_goto) _ _ (λ e. goto_sound at children)
        (λ e. if_holds (Gives SoundStatement) (word == word_continue) _ _ (λ e. continue_sound at)
        (λ e. if_holds (Gives SoundStatement) (word == word_break) _ _ (λ e. break_sound at)
        (λ e. if_holds (Gives SoundStatement) (word == word_return) _ (Refuses Operand at) (λ e. return_sound at (expression_in w s sense children)) (λ e. tt)))))))))))

    leaf_sound : (at first : ℕ) (children : List ℕ) → Gives SoundStatement (leaf_statement w s sense at first children)
    leaf_sound at first children =
        if_holds (Gives SoundStatement) (has_sign s sign_semicolon first) _ _ (λ e. ((tt, tt, refl, tt), refl))
        (λ e. if_holds (Gives SoundStatement) (is_name s first) _ _ (λ e. labelled_sound at first children) (λ e. of_word_sound at children (word_at s first)))

    StatementSense : Sense → Type 0
    StatementSense x = SoundSense w entities x × IsStatementSense x

    fits_sound : (g : Given Core) → Gives SoundStatement g → Gives StatementSense (g >>= fits)
    unfolding StatementSense
    fits_sound (Fits c) h = h
    fits_sound (Refuses kind node) h = tt

    statement_of_sound : (at first : ℕ) (rest : List ℕ) → is_a s p_statement at ≡ true → children_at s at ≡ first ∷ rest → Gives StatementSense (statement_of w s sense at first (first ∷ rest))
    unfolding StatementSense
    statement_of_sound at first rest is e =
        if_holds (Gives StatementSense) (is_leaf s first) _ _ (λ leafy. fits_sound (leaf_statement w s sense at first (first ∷ rest)) (leaf_sound at first (first ∷ rest)))
        (λ over.
        if_holds (Gives StatementSense) (is_a s p_expression first) _ _ (λ expression. fits_sound (expression_statement w s sense at first) (expression_sound at first))
        (λ other. (sound first, parts.begins at first rest is e over other)))

    pub statement_sound : (at : ℕ) (children : List ℕ) → is_a s p_statement at ≡ true → children_at s at ≡ children → Gives (λ x. SoundSense w entities x × IsStatementSense x) (statement_row w s sense at children)
    unfolding StatementSense
    statement_sound at [] is e = tt
    statement_sound at (first ∷ rest) is e = statement_of_sound at first rest is e

    -- blocks
    Stands : Cores → Type 0
    Stands cs = All IsStatementCore (list_of cs) × AllSound w entities cs

    one_in : (x : Sense) (more : Cores) → SoundSense w entities x → IsStatementSense x → Stands more → Stands (elim x as (λ _. Cores) [ IsCore c ↦ MoreCores c more | IsRun cores ↦ appended cores more | _ ↦ more ])
    unfolding Stands
    one_in (IsCore c) more h k m = (All-cons IsStatementCore c (list_of more) k m.0, (h, m.1))
    one_in (IsRun cores) more h k m = (appended_all IsStatementCore cores more (initialisers_are cores h.1) m.0, appended_sound cores more h.0 m.1)
    one_in x more h k m = m

    all_in : (list : List ℕ) → ((k c : ℕ) → slice_get list k ≡ Some c → IsStatementSense (sense c)) → Stands (cores_in w s sense list)
    unfolding Stands
    all_in [] each = (All-nil IsStatementCore, tt)
    all_in (c ∷ rest) each = one_in (sense c) (cores_in w s sense rest) (sound c) (each 0 c refl) (all_in rest (λ k d e. each (suc k) d e))

    pub block_sound : (at : ℕ) → is_a s p_block at ≡ true → Gives (λ x. SoundSense w entities x × IsStatementSense x) (block_row w s sense at (children_at s at))
    unfolding Stands
    block_sound at is = let all = all_in (children_at s at) (λ k c e. parts.blocks at k c is e) in ((all.0, tt, refl, all.1), refl)
