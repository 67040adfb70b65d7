-- The rows of statements and blocks keep an object covered.
use Rattle.std.proofs.Common.{◌≡◌, ◌==◌, not, ℕ, zero, suc, Bool, true, false, List, [], ◌∷◌, Option, Some, None, refl, sym, ◌∙◌, subst, ◌⊎◌, inl, inr}
use Rattle.std.specs.Prelude.{⊤, ℤ, if◌then◌else◌}
use Rattle.pta_base.specs.declared.kind.Kind.TheVariants.{Operand}
use Rattle.pta_base.specs.declared.place.Place.{Place}
use Rattle.c_types.specs.Trees.{Ctype}
use Rattle.core_tree.specs.declared.node.NodeKind.{NodeKind}
use Rattle.core_tree.specs.declared.node.NodeKind.TheVariants.{Named, Case, Default, Label, Break, Continue, Initialise}
use Rattle.core_tree.specs.Rows.{Has}
use Rattle.c_grammar.specs.Productions.{p_declaration, p_statement, p_expression, p_conditional}
use Rattle.c_grammar.specs.Words.{word_case, word_default, word_if, word_switch, word_while, word_do, word_for, word_goto, word_continue, word_break, word_return, sign_semicolon}
use Rattle.c_consts.specs.Core.{Core, Cores, Of, NoCores, MoreCores, ctype_of}
use Rattle.c_consts.specs.Wrapped.{converted}
use Rattle.c_senses.specs.Tree.{Source, is_a, is_leaf, is_name, has_sign, place_at, spelling_at, word_at, children_at, first_where, all_where, any_where, child_of, numbers_from}
use Rattle.c_senses.specs.Given.{Given, Fits, Refuses, ◌>>=◌, given_if}
use Rattle.c_senses.specs.World.{World}
use Rattle.c_senses.specs.Conversions.{operand_of, is_scalar, promotion, conversion}
use Rattle.c_senses.specs.Constants.{constant_in, is_whole}
use Rattle.c_senses.specs.Sense.{Sense, IsCore, IsRun, core_of, value_in, fits}
use Rattle.c_senses.specs.Statements.{statement, one, appended, with_some, ForParts, behind_semicolon, expression_before, cores_in, block_row, condition_of, statements_among, body_of, other_body, expression_in, labelled, switch_around, switched, case_row, is_case_again, default_row, if_row, switch_row, while_row, do_row, for_parts, expression_statement, for_first, for_condition, for_after, for_of, for_row, goto_row, returned_type, return_row, of_word, leaf_statement, statement_of, statement_row}
use Rattle.core_node_laws.specs.near_nodes.Holding.{AreOf, OfSense, Holds, AllHold, Asks}
use Rattle.core_node_laws.proofs.near_nodes.Giving.{Gives, then_gives, after, if_given, some_given, if_says, if_holds}
use Rattle.core_node_laws.proofs.near_nodes.Values.{promotion_kept, conversion_kept}
use Rattle.core_node_laws.proofs.near_nodes.Expressions.{value_in_kept}
use Rattle.valid_unit_laws.specs.object_initialiser_laws.block_trees.Covered.{IsBare, Covered, AllCovered}
use Rattle.valid_unit_laws.proofs.object_initialiser_laws.block_trees.Free.{IsFree}

module _ (d : ℕ) where
  -- what is free is covered
  bare : (kind : NodeKind) (place : Place) (type : Ctype) (under : Cores) → Asks (IsFree d) kind place type under → IsBare d kind
  bare (Named x) place type under h = h
  bare (Initialise x paths) place type under h = h
  bare kind place type under h = tt

  mutual
    pub free_covered : (c : Core) → Holds (IsFree d) c → Covered d c
    free_covered (Of kind place type under) h = inr (bare kind place type under h.0, all_covered under h.1)

    all_covered : (cs : Cores) → AllHold (IsFree d) cs → AllCovered d cs
    all_covered NoCores h = tt
    all_covered (MoreCores c rest) h = (free_covered c h.0, all_covered rest h.1)

  abbrev pub EachCovered : List Core → Type 0
  EachCovered [] = ⊤
  EachCovered (c ∷ rest) = Covered d c × EachCovered rest

  each_covered : (cores : List Core) → AreOf (IsFree d) cores → EachCovered cores
  each_covered [] h = tt
  each_covered (c ∷ rest) h = (free_covered c h.0, each_covered rest h.1)

  abbrev pub CoveredSense : Sense → Type 0
  CoveredSense (IsCore c) = Covered d c
  CoveredSense (IsRun cores) = EachCovered cores
  CoveredSense x = ⊤

  pub sense_covered : (s : Source) (near : ℕ → Type 0) (x : Sense) → OfSense s near (IsFree d) x → CoveredSense x
  sense_covered s near (IsCore c) h = free_covered c h
  sense_covered s near (IsRun cores) h = each_covered cores h
  sense_covered s near x h = tt

  SomeCovered : Option Core → Type 0
  SomeCovered None = ⊤
  SomeCovered (Some c) = Covered d c

  appended_covered : (first : List Core) (more : Cores) → EachCovered first → AllCovered d more → AllCovered d (appended first more)
  appended_covered [] more h k = k
  appended_covered (c ∷ first) more h k = (h.0, appended_covered first more h.1 k)

  with_covered : (o : Option Core) (more : Cores) → SomeCovered o → AllCovered d more → AllCovered d (with_some o more)
  unfolding SomeCovered
  with_covered None more h k = k
  with_covered (Some c) more h k = (h, k)

  weaker : (g : Given Core) → Gives (Holds (IsFree d)) g → Gives (Covered d) g
  weaker (Fits c) h = free_covered c h
  weaker (Refuses kind node) h = tt

  -- ---- lists of parts

  all_has : (test : ℕ → Bool) (list : List ℕ) (c : ℕ) → Has (all_where test list) c → Has list c
  all_has test [] c h = h
  all_has test (x ∷ xs) c h = by (test x) h (all_has test xs c)
    where
      by : (b : Bool) → Has (if b then x ∷ all_where test xs else all_where test xs) c → (Has (all_where test xs) c → Has xs c) → Has (x ∷ xs) c
      by true (zero, e) later = (0, e)
      by true (suc k, e) later = let more = later (k, e) in (suc more.0, more.1)
      by false h later = let more = later h in (suc more.0, more.1)

  first_has : (test : ℕ → Bool) (list : List ℕ) (c : ℕ) → first_where test list ≡ Some c → Has list c × (test c ≡ true)
  first_has test [] c e = cc
  first_has test (k ∷ ks) c e = by (test k) refl e (λ f. first_has test ks c f)
    where
      by : (b : Bool) → test k ≡ b → (if b then Some k else first_where test ks) ≡ Some c → (first_where test ks ≡ Some c → Has ks c × (test c ≡ true)) → Has (k ∷ ks) c × (test c ≡ true)
      by true t f later = ((0, f), subst (λ (y : ℕ). test y ≡ true) (let same : k ≡ c = cc in same) t)
      by false t f later = let more = later f in ((suc more.0.0, more.0.1), more.1)

  module _ (w : World) (s : Source) (f : ℕ → Sense) (near : ℕ → Type 0) (at : ℕ) (children : List ℕ) (each : (c : ℕ) → Has children c → CoveredSense (f c)) (values : (c : ℕ) → Has children c → is_a s p_expression c ≡ true → OfSense s near (IsFree d) (f c)) where
    -- an expression among the parts
    abbrev IsValue : Option ℕ → Type 0
    IsValue None = ⊤
    IsValue (Some c) = Has children c × (is_a s p_expression c ≡ true)

    expression_value : (list : List ℕ) → ((c : ℕ) → Has list c → Has children c) → IsValue (expression_in w s f list)
    expression_value list inside = by (expression_in w s f list) refl
      where
        by : (o : Option ℕ) → expression_in w s f list ≡ o → IsValue o
        by None e = tt
        by (Some c) e = let own = first_has (is_a s p_expression) list c e in (inside c own.0, own.1)

    core_covered : (n : ℕ) (x : Sense) → CoveredSense x → Gives (Covered d) (core_of n x)
    core_covered n (IsCore c) h = h
    core_covered n x h = tt

    condition_free : (o : Option ℕ) → IsValue o → Gives (Holds (IsFree d)) (condition_of w s f at o)
    condition_free None n = tt
    condition_free (Some c) n =
        then_gives (Holds (IsFree d)) (Holds (IsFree d)) (value_in w at (f c)) (λ v. given_if (is_scalar (operand_of (ctype_of v))) Operand at (Fits v)) (value_in_kept s near (IsFree d) w at (f c) (values c n.0 n.1))
        (λ v h. if_given (Holds (IsFree d)) (is_scalar (operand_of (ctype_of v))) Operand at (Fits v) h)

    condition_covered : (o : Option ℕ) → IsValue o → Gives (Covered d) (condition_of w s f at o)
    condition_covered o n = weaker (condition_of w s f at o) (condition_free o n)

    value_free : (c : ℕ) → IsValue (Some c) → Gives (Holds (IsFree d)) (value_in w at (f c))
    value_free c n = value_in_kept s near (IsFree d) w at (f c) (values c n.0 n.1)

    value_covered : (c : ℕ) → IsValue (Some c) → Gives (Covered d) (value_in w at (f c))
    value_covered c n = weaker (value_in w at (f c)) (value_free c n)

    body_covered : (list : List ℕ) → ((c : ℕ) → Has list c → Has children c) → Gives (Covered d) (body_of w s f at (statements_among w s f list))
    body_covered list inside = by (statements_among w s f list) refl
      where
        by : (l : List ℕ) → statements_among w s f list ≡ l → Gives (Covered d) (body_of w s f at l)
        by [] e = tt
        by (c ∷ rest) e = core_covered at (f c) (each c (inside c (all_has (is_a s p_statement) list c (subst (λ (k : List ℕ). Has k c) (sym e) (0, refl)))))

    other_covered : Gives SomeCovered (other_body w s f at (statements_among w s f children))
    unfolding SomeCovered
    other_covered = by (statements_among w s f children) refl
      where
        by : (l : List ℕ) → statements_among w s f children ≡ l → Gives SomeCovered (other_body w s f at l)
        by [] e = tt
        by (c ∷ []) e = tt
        by (c ∷ x ∷ rest) e =
            then_gives (Covered d) SomeCovered (core_of at (f x)) (λ y. Fits (Some y)) (core_covered at (f x) (each x (all_has (is_a s p_statement) children x (subst (λ (k : List ℕ). Has k x) (sym e) (1, refl))))) (λ y h. h)

    own : (c : ℕ) → Has children c → Has children c
    own c h = h

    body : Gives (Covered d) (body_of w s f at (statements_among w s f children))
    body = body_covered children own

    condition : Gives (Covered d) (condition_of w s f at (expression_in w s f children))
    condition = condition_covered (expression_in w s f children) (expression_value children own)

    labelled_covered : (name : ℕ) → Gives (Covered d) (labelled w s f at name children)
    labelled_covered name =
        then_gives (Covered d) (Covered d) (body_of w s f at (statements_among w s f children)) (λ c. Fits (statement (Label (spelling_at s name)) (place_at s at) (one c))) body (λ c h. inr (tt, (h, tt)))

    switched_free : (o : Option ℕ) → IsValue o → Gives (Holds (IsFree d)) (switched w s f at o)
    switched_free None n = tt
    switched_free (Some c) n =
        then_gives (Holds (IsFree d)) (Holds (IsFree d)) (value_in w at (f c)) (λ v. given_if (is_whole (operand_of (ctype_of v))) Operand at (Fits (promotion w v))) (value_free c n)
        (λ v h. if_given (Holds (IsFree d)) (is_whole (operand_of (ctype_of v))) Operand at (Fits (promotion w v)) (promotion_kept (IsFree d) w v h))

    case_by : (switch : ℕ) (x : Core) (n : ℤ) → Covered d x → (g : Given Core) → Gives (Covered d)
        (elim g as (λ _. Given Core) [
          | Refuses kind node ↦ Fits (statement (Case n) (place_at s at) (one x))
          | Fits v ↦
              let m = converted (ctype_of v) n in
              given_if (not (any_where (is_case_again w s f switch m) (numbers_from 0 at))) Operand at (Fits (statement (Case m) (place_at s at) (one x)))
        ])
    case_by switch x n h (Refuses kind node) = inr (tt, (h, tt))
    case_by switch x n h (Fits v) = if_given (Covered d) _ Operand at (Fits (statement (Case (converted (ctype_of v) n)) (place_at s at) (one x))) (inr (tt, (h, tt)))

    case_covered : Gives (Covered d) (case_row w s f at children)
    case_covered =
        some_given (Covered d) (child_of s p_conditional at) Operand at _
        (λ c.
        after (Covered d) (constant_in w s at (f c)) _
        (λ n.
        some_given (Covered d) (switch_around w s f at) Operand at _
        (λ switch. then_gives (Covered d) (Covered d) (body_of w s f at (statements_among w s f children)) _ body (λ x h. case_by switch x n h (switched w s f switch (expression_in w s f (children_at s switch)))))))

    default_covered : Gives (Covered d) (default_row w s f at children)
    default_covered =
        some_given (Covered d) (switch_around w s f at) Operand at _
        (λ switch.
        if_given (Covered d) _ Operand at (body_of w s f at (statements_among w s f children) >>= (λ x. Fits (statement Default (place_at s at) (one x))))
        (then_gives (Covered d) (Covered d) (body_of w s f at (statements_among w s f children)) (λ x. Fits (statement Default (place_at s at) (one x))) body (λ x h. inr (tt, (h, tt)))))

    if_covered : Gives (Covered d) (if_row w s f at children)
    if_covered =
        then_gives (Covered d) (Covered d) (condition_of w s f at (expression_in w s f children)) _ condition
        (λ c h.
        then_gives (Covered d) (Covered d) (body_of w s f at (statements_among w s f children)) _ body
        (λ x k.
        then_gives SomeCovered (Covered d) (other_body w s f at (statements_among w s f children)) _ other_covered
        (λ other l. inr (tt, (h, (k, with_covered other NoCores l tt))))))

    switch_covered : Gives (Covered d) (switch_row w s f at children)
    switch_covered =
        then_gives (Covered d) (Covered d) (switched w s f at (expression_in w s f children)) _ (weaker (switched w s f at (expression_in w s f children)) (switched_free (expression_in w s f children) (expression_value children own)))
        (λ c h. then_gives (Covered d) (Covered d) (body_of w s f at (statements_among w s f children)) _ body (λ x k. inr (tt, (h, (k, tt)))))

    while_covered : Gives (Covered d) (while_row w s f at children)
    while_covered =
        then_gives (Covered d) (Covered d) (condition_of w s f at (expression_in w s f children)) _ condition
        (λ c h. then_gives (Covered d) (Covered d) (body_of w s f at (statements_among w s f children)) _ body (λ x k. inr (tt, (h, (k, tt)))))

    do_covered : Gives (Covered d) (do_row w s f at children)
    do_covered =
        then_gives (Covered d) (Covered d) (condition_of w s f at (expression_in w s f children)) _ condition
        (λ c h. then_gives (Covered d) (Covered d) (body_of w s f at (statements_among w s f children)) _ body (λ x k. inr (tt, (k, (h, tt)))))

    expression_covered : (c : ℕ) → IsValue (Some c) → Gives (Covered d) (expression_statement w s f at c)
    expression_covered c n = then_gives (Covered d) (Covered d) (value_in w at (f c)) _ (value_covered c n) (λ v h. inr (tt, (h, tt)))

    return_covered : (o : Option ℕ) → IsValue o → Gives (Covered d) (return_row w s f at o)
    return_covered None n = inr (tt, tt)
    return_covered (Some c) n =
        some_given (Covered d) (returned_type w s f at) Operand at _
        (λ t.
        then_gives (Holds (IsFree d)) (Covered d) (value_in w at (f c)) _ (value_free c n)
        (λ v h. then_gives (Holds (IsFree d)) (Covered d) (conversion w false at v t) _ (conversion_kept (IsFree d) w false at v t h) (λ x k. inr (tt, (free_covered x k, tt)))))

    -- ---- a `for`

    -- what may begin it: an expression, or a declaration
    abbrev Begins : Option ℕ → Type 0
    Begins None = ⊤
    Begins (Some c) = Has children c × ((is_a s p_declaration c ≡ true) ⊎ (is_a s p_expression c ≡ true))

    run_covered : (x : Sense) → CoveredSense x → EachCovered (elim x as (λ _. List Core) [ IsRun cores ↦ cores | _ ↦ [] ])
    run_covered (IsRun cores) h = h
    run_covered x h = tt

    first_in : (c : ℕ) (b : Bool) → is_a s p_declaration c ≡ b → Begins (Some c) → Gives EachCovered (if b then Fits (elim (f c) as (λ _. List Core) [ IsRun cores ↦ cores | _ ↦ [] ]) else (expression_statement w s f at c >>= (λ x. Fits (x ∷ []))))
    first_in c true e n = run_covered (f c) (each c n.0)
    first_in c false e n = then_gives (Covered d) EachCovered (expression_statement w s f at c) (λ x. Fits (x ∷ [])) (expression_covered c (n.0, which n.1)) (λ x h. (h, tt))
      where
        which : (is_a s p_declaration c ≡ true) ⊎ (is_a s p_expression c ≡ true) → is_a s p_expression c ≡ true
        which (inl is) = let both : true ≡ false = sym is ∙ e in cc
        which (inr is) = is

    first_covered : (o : Option ℕ) → Begins o → Gives EachCovered (for_first w s f at o)
    first_covered None n = tt
    first_covered (Some c) n = first_in c (is_a s p_declaration c) refl n

    for_condition_covered : (o : Option ℕ) → IsValue o → Gives SomeCovered (for_condition w s f at o)
    unfolding SomeCovered
    for_condition_covered None n = tt
    for_condition_covered (Some c) n = then_gives (Covered d) SomeCovered (condition_of w s f at (Some c)) (λ v. Fits (Some v)) (condition_covered (Some c) n) (λ v h. h)

    for_after_covered : (o : Option ℕ) → IsValue o → Gives SomeCovered (for_after w s f at o)
    unfolding SomeCovered
    for_after_covered None n = tt
    for_after_covered (Some c) n = then_gives (Covered d) SomeCovered (value_in w at (f c)) (λ v. Fits (Some v)) (value_covered c n) (λ v h. h)

    for_of_covered : (parts : ForParts) (list : List ℕ) → ((c : ℕ) → Has list c → Has children c) → Begins parts.first → IsValue parts.condition → IsValue parts.after → Gives (Covered d) (for_of w s f at parts list)
    for_of_covered parts list inside nf nc na =
        then_gives EachCovered (Covered d) (for_first w s f at parts.first) _ (first_covered parts.first nf)
        (λ first h.
        then_gives SomeCovered (Covered d) (for_condition w s f at parts.condition) _ (for_condition_covered parts.condition nc)
        (λ condition k.
        then_gives SomeCovered (Covered d) (for_after w s f at parts.after) _ (for_after_covered parts.after na)
        (λ next l.
        then_gives (Covered d) (Covered d) (body_of w s f at (statements_among w s f list)) _ (body_covered list inside)
        (λ x m. inr (tt, appended_covered first (with_some condition (with_some next (one x))) h (with_covered condition (with_some next (one x)) k (with_covered next (one x) l (m, tt))))))))

    behind_has : (list : List ℕ) (c : ℕ) → Has (behind_semicolon w s f list) c → Has list c
    behind_has [] c h = h
    behind_has (x ∷ xs) c h = by (has_sign s sign_semicolon x) h (behind_has xs c)
      where
        by : (b : Bool) → Has (if b then xs else behind_semicolon w s f xs) c → (Has (behind_semicolon w s f xs) c → Has xs c) → Has (x ∷ xs) c
        by true h later = (suc h.0, h.1)
        by false h later = let more = later h in (suc more.0, more.1)

    before_value : (list : List ℕ) → ((c : ℕ) → Has list c → Has children c) → IsValue (expression_before w s f list)
    before_value [] inside = tt
    before_value (c ∷ rest) inside = by (is_a s p_expression c) refl
      where
        by : (b : Bool) → is_a s p_expression c ≡ b → IsValue (if b then Some c else None)
        by true e = (inside c (0, refl), e)
        by false e = tt

    begins_value : (o : Option ℕ) → IsValue o → Begins o
    begins_value None n = tt
    begins_value (Some c) n = (n.0, inr n.1)

    for_parts_covered : (list : List ℕ) → ((c : ℕ) → Has list c → Has children c) → Begins (for_parts w s f list).first × IsValue (for_parts w s f list).condition × IsValue (for_parts w s f list).after
    for_parts_covered [] inside = (tt, tt, tt)
    for_parts_covered (c ∷ rest) inside =
        let behind = λ (x : ℕ) (h : Has (behind_semicolon w s f (c ∷ rest)) x). inside x (behind_has (c ∷ rest) x h) in
        if_says (λ (p : ForParts). Begins p.first × IsValue p.condition × IsValue p.after) (is_a s p_declaration c) _ _
        (λ e. (
          (inside c (0, refl), inl e),
          before_value rest (λ x h. inside x (suc h.0, h.1)),
          before_value (behind_semicolon w s f rest) (λ x h. let g = behind_has rest x h in inside x (suc g.0, g.1)),
        )) (
          begins_value (expression_before w s f (c ∷ rest)) (before_value (c ∷ rest) inside),
          before_value (behind_semicolon w s f (c ∷ rest)) behind,
          before_value (behind_semicolon w s f (behind_semicolon w s f (c ∷ rest))) (λ x h. behind x (behind_has (behind_semicolon w s f (c ∷ rest)) x h)),
        )

    for_covered : (list : List ℕ) → ((c : ℕ) → Has list c → Has children c) → Gives (Covered d) (for_row w s f at list)
    for_covered (word ∷ parenthesis ∷ rest) inside =
        let deeper = λ (c : ℕ) (h : Has rest c). inside c (suc (suc h.0), h.1) in
        let parts = for_parts_covered rest deeper in
        for_of_covered (for_parts w s f rest) rest deeper parts.0 parts.1 parts.2
    for_covered [] inside = tt
    for_covered (word ∷ []) inside = tt

    goto_covered : Gives (Covered d) (goto_row w s f at children)
    goto_covered = some_given (Covered d) (first_where (is_name s) children) Operand at _ (λ name. inr (tt, tt))

    word_covered : (o : Option ℕ) → Gives (Covered d) (of_word w s f at children o)
    word_covered None = tt
    word_covered (Some word) =
        if_holds (Gives (Covered d)) (word == word_case) _ _ case_covered
        (if_holds (Gives (Covered d)) (word == word_default) _ _ default_covered
        (if_holds (Gives (Covered d)) (word == word_if) _ _ if_covered
        (if_holds (Gives (Covered d)) (word == word_switch) _ _ switch_covered
        (if_holds (Gives (Covered d)) (word == word_while) _ _ while_covered
        (if_holds (Gives (Covered d)) (word == word_do) _ _ do_covered
        (if_holds (Gives (Covered d)) (word == word_for) _ _ (for_covered children own)
        (if_holds (Gives (Covered d)) (word == word_goto) _ _ goto_covered
        (if_holds (Gives (Covered d)) (word == word_continue) _ _ (if_given (Covered d) _ Operand at (Fits (statement Continue (place_at s at) NoCores)) (inr (tt, tt)))
        (if_holds (Gives (Covered d)) (word == word_break) _ _ (if_given (Covered d) _ Operand at (Fits (statement Break (place_at s at) NoCores)) (inr (tt, tt)))
        (if_holds (Gives (Covered d)) (word == word_return) _ (Refuses Operand at) (return_covered (expression_in w s f children) (expression_value children own)) tt))))))))))

    leaf_covered : (first : ℕ) → Gives (Covered d) (leaf_statement w s f at first children)
    leaf_covered first =
        if_holds (Gives (Covered d)) (has_sign s sign_semicolon first) _ _ (inr (tt, tt))
        (if_holds (Gives (Covered d)) (is_name s first) _ _ (labelled_covered first) (word_covered (word_at s first)))

    as_sense : (g : Given Core) → Gives (Covered d) g → Gives CoveredSense (g >>= fits)
    as_sense (Fits c) h = h
    as_sense (Refuses kind node) h = tt

    first_statement : (first : ℕ) → Has children first → Gives CoveredSense (statement_of w s f at first children)
    first_statement first has =
        if_holds (Gives CoveredSense) (is_leaf s first) _ _ (as_sense (leaf_statement w s f at first children) (leaf_covered first))
        (if_says (Gives CoveredSense) (is_a s p_expression first) _ _ (λ e. as_sense (expression_statement w s f at first) (expression_covered first (has, e))) (each first has))

    begun : (list : List ℕ) → children ≡ list → Gives CoveredSense (statement_row w s f at list)
    begun [] e = tt
    begun (first ∷ rest) e = subst (λ (l : List ℕ). Gives CoveredSense (statement_of w s f at first l)) e (first_statement first (subst (λ (l : List ℕ). Has l first) (sym e) (0, refl)))

    -- 6.8: a statement
    pub statement_covered : Gives CoveredSense (statement_row w s f at children)
    statement_covered = begun children refl

    -- 6.8.2: a block
    cores_covered : (list : List ℕ) → ((c : ℕ) → Has list c → Has children c) → AllCovered d (cores_in w s f list)
    cores_covered [] inside = tt
    cores_covered (c ∷ rest) inside = by (f c) (each c (inside c (0, refl))) (cores_covered rest (λ x h. inside x (suc h.0, h.1)))
      where
        by : (x : Sense) → CoveredSense x → AllCovered d (cores_in w s f rest)
            → AllCovered d (elim x as (λ _. Cores) [ IsCore y ↦ MoreCores y (cores_in w s f rest) | IsRun cores ↦ appended cores (cores_in w s f rest) | _ ↦ cores_in w s f rest ])
        by (IsCore y) h later = (h, later)
        by (IsRun cores) h later = appended_covered cores (cores_in w s f rest) h later
        by x h later = later

    pub block_covered : Gives CoveredSense (block_row w s f at children)
    block_covered = inr (tt, cores_covered children own)
