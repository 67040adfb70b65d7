-- The places of statements.
use Rattle.std.proofs.Common.{◌==◌, ℕ, Bool, true, false, List, [], ◌∷◌, Option, Some, None}
use Rattle.std.specs.Prelude.{ℤ, not, if◌then◌else◌}
use Rattle.pta_base.specs.declared.kind.Kind.TheVariants.{Operand}
use Rattle.core_tree.specs.declared.node.NodeKind.TheVariants.{Case, Default, Label, Break, Continue}
use Rattle.c_grammar.specs.Productions.{p_declaration, p_expression, p_conditional}
use Rattle.c_grammar.specs.Words.{word_case, word_default, word_if, word_switch, word_while, word_do, word_for, word_goto, word_continue, word_break, word_return, sign_semicolon}
use Rattle.c_consts.specs.Core.{Core, Cores, NoCores, MoreCores, ctype_of}
use Rattle.c_consts.specs.Wrapped.{converted}
use Rattle.c_senses.specs.Tree.{Source, is_a, is_leaf, is_name, has_sign, place_at, spelling_at, word_at, children_at, first_where, any_where, numbers_from, child_of}
use Rattle.c_senses.specs.Given.{Given, Fits, Refuses, ◌>>=◌, given_if}
use Rattle.c_senses.specs.World.{World}
use Rattle.c_senses.specs.Conversions.{operand_of, is_scalar, promotion, conversion}
use Rattle.c_senses.specs.Constants.{constant_in, is_whole}
use Rattle.c_senses.specs.Sense.{Sense, IsCore, IsRun, core_of, value_in}
use Rattle.c_senses.specs.Statements.{statement, one, appended, with_some, ForParts, cores_in, block_row, condition_of, statements_among, body_of, other_body, expression_in, labelled, switch_around, switched, case_in, case_row, is_case_again, default_row, if_row, switch_row, while_row, do_row, for_parts, expression_statement, for_first, for_condition, for_after, for_of, for_row, goto_row, returned_type, return_row, of_word, leaf_statement, statement_of, statement_row}
use Rattle.core_node_laws.proofs.count_laws.named_units.Standing.{OfSource, AllOfSource}
use Rattle.core_node_laws.proofs.count_laws.named_units.Giving.{Gives, then_gives, after, if_given, some_given, if_holds}
use Rattle.core_node_laws.proofs.count_laws.named_units.Values.{SomeOf, promotion_kept, conversion_kept}
use Rattle.core_node_laws.proofs.count_laws.named_units.Operators.{AreOf}
use Rattle.core_node_laws.proofs.count_laws.named_units.Expressions.{OfSense, at_node, core_kept, value_in_kept, as_sense_kept}
use Rattle.core_node_laws.proofs.count_laws.named_units.Initialised.{own_node}

module _ (source : Source) where
  appended_kept : (first : List Core) (more : Cores) → AreOf source first → AllOfSource source more → AllOfSource source (appended first more)
  appended_kept [] more h k = k
  appended_kept (c ∷ first) more h k = (h.0, appended_kept first more h.1 k)

  with_kept : (o : Option Core) (more : Cores) → SomeOf source o → AllOfSource source more → AllOfSource source (with_some o more)
  with_kept None more h k = k
  with_kept (Some c) more h k = (h, k)

  one_in : (x : Sense) (more : Cores) → OfSense source x → AllOfSource source more → AllOfSource source (elim x as (λ _. Cores) [ IsCore c ↦ MoreCores c more | IsRun cores ↦ appended cores more | _ ↦ more ])
  one_in (IsCore c) more h m = (h, m)
  one_in (IsRun cores) more h m = appended_kept cores more h m
  one_in x more h m = m

  run_of : (x : Sense) → OfSense source x → AreOf source (elim x as (λ _. List Core) [ IsRun cores ↦ cores | _ ↦ [] ])
  run_of (IsRun cores) h = h
  run_of x h = tt

module _ (w : World) (s : Source) (sense : ℕ → Sense) (each : (i : ℕ) → OfSense s (sense i)) where
  all_in : (list : List ℕ) → AllOfSource s (cores_in w s sense list)
  all_in [] = tt
  all_in (c ∷ rest) = one_in s (sense c) (cores_in w s sense rest) (each c) (all_in rest)

  pub block_kept : (at : ℕ) (children : List ℕ) → Gives (OfSense s) (block_row w s sense at children)
  block_kept at children = (at_node s at, all_in children)

  condition_kept : (at : ℕ) (o : Option ℕ) → Gives (OfSource s) (condition_of w s sense at o)
  condition_kept at None = tt
  condition_kept at (Some c) =
      then_gives (OfSource s) (OfSource s) (value_in w at (sense c)) (λ v. given_if (is_scalar (operand_of (ctype_of v))) Operand at (Fits v)) (value_in_kept s w at (sense c) (each c))
      (λ v h. if_given (OfSource s) (is_scalar (operand_of (ctype_of v))) Operand at (Fits v) h)

  body_kept : (at : ℕ) (list : List ℕ) → Gives (OfSource s) (body_of w s sense at list)
  body_kept at [] = tt
  body_kept at (c ∷ rest) = core_kept s w at (sense c) (each c)

  other_kept : (at : ℕ) (list : List ℕ) → Gives (SomeOf s) (other_body w s sense at list)
  other_kept at (c ∷ d ∷ rest) = then_gives (OfSource s) (SomeOf s) (core_of at (sense d)) (λ x. Fits (Some x)) (core_kept s w at (sense d) (each d)) (λ x h. h)
  other_kept at [] = tt
  other_kept at (c ∷ []) = tt

  labelled_kept : (at name : ℕ) (children : List ℕ) → Gives (OfSource s) (labelled w s sense at name children)
  labelled_kept at name children =
      then_gives (OfSource s) (OfSource s) (body_of w s sense at (statements_among w s sense children)) (λ c. Fits (statement (Label (spelling_at s name)) (place_at s at) (one c))) (body_kept at (statements_among w s sense children))
      (λ c h. (at_node s at, (h, tt)))

  switched_kept : (at : ℕ) (o : Option ℕ) → Gives (OfSource s) (switched w s sense at o)
  switched_kept at None = tt
  switched_kept at (Some c) =
      then_gives (OfSource s) (OfSource s) (value_in w at (sense c)) (λ v. given_if (is_whole (operand_of (ctype_of v))) Operand at (Fits (promotion w v))) (value_in_kept s w at (sense c) (each c))
      (λ v h. if_given (OfSource s) (is_whole (operand_of (ctype_of v))) Operand at (Fits (promotion w v)) (promotion_kept s w v h))

  case_by : (at switch : ℕ) (body : Core) (n : ℤ) → OfSource s body → (g : Given Core) → Gives (OfSource s)
      (elim g as (λ _. Given Core) [
        | Refuses kind node ↦ Fits (statement (Case n) (place_at s at) (one body))
        | Fits v ↦
            let m = converted (ctype_of v) n in
            given_if (not (any_where (is_case_again w s sense switch m) (numbers_from 0 at))) Operand at (Fits (statement (Case m) (place_at s at) (one body)))
      ])
  case_by at switch body n h (Refuses kind node) = (at_node s at, (h, tt))
  case_by at switch body n h (Fits v) = if_given (OfSource s) _ Operand at (Fits (statement (Case (converted (ctype_of v) n)) (place_at s at) (one body))) (at_node s at, (h, tt))

  case_in_kept : (at switch : ℕ) (body : Core) (n : ℤ) → OfSource s body → Gives (OfSource s) (case_in w s sense at switch body n)
  case_in_kept at switch body n h = case_by at switch body n h (switched w s sense switch (expression_in w s sense (children_at s switch)))

  case_kept : (at : ℕ) (children : List ℕ) → Gives (OfSource s) (case_row w s sense at children)
  case_kept at children =
      some_given (OfSource s) (child_of s p_conditional at) Operand at _
      (λ c.
      after (OfSource s) (constant_in w s at (sense c)) _
      (λ n.
      some_given (OfSource s) (switch_around w s sense at) Operand at _
      (λ switch. then_gives (OfSource s) (OfSource s) (body_of w s sense at (statements_among w s sense children)) _ (body_kept at (statements_among w s sense children)) (λ body h. case_in_kept at switch body n h))))

  default_kept : (at : ℕ) (children : List ℕ) → Gives (OfSource s) (default_row w s sense at children)
  default_kept at children =
      some_given (OfSource s) (switch_around w s sense at) Operand at _
      (λ switch.
      if_given (OfSource s) _ Operand at (body_of w s sense at (statements_among w s sense children) >>= (λ body. Fits (statement Default (place_at s at) (one body))))
      (then_gives (OfSource s) (OfSource s) (body_of w s sense at (statements_among w s sense children)) (λ body. Fits (statement Default (place_at s at) (one body))) (body_kept at (statements_among w s sense children))
      (λ body h. (at_node s at, (h, tt)))))

  if_kept : (at : ℕ) (children : List ℕ) → Gives (OfSource s) (if_row w s sense at children)
  if_kept at children =
      then_gives (OfSource s) (OfSource s) (condition_of w s sense at (expression_in w s sense children)) _ (condition_kept at (expression_in w s sense children))
      (λ c h.
      then_gives (OfSource s) (OfSource s) (body_of w s sense at (statements_among w s sense children)) _ (body_kept at (statements_among w s sense children))
      (λ body k.
      then_gives (SomeOf s) (OfSource s) (other_body w s sense at (statements_among w s sense children)) _ (other_kept at (statements_among w s sense children))
      (λ other l. (at_node s at, (h, (k, with_kept s other NoCores l tt))))))

  switch_kept : (at : ℕ) (children : List ℕ) → Gives (OfSource s) (switch_row w s sense at children)
  switch_kept at children =
      then_gives (OfSource s) (OfSource s) (switched w s sense at (expression_in w s sense children)) _ (switched_kept at (expression_in w s sense children))
      (λ c h. then_gives (OfSource s) (OfSource s) (body_of w s sense at (statements_among w s sense children)) _ (body_kept at (statements_among w s sense children)) (λ body k. (at_node s at, (h, (k, tt)))))

  while_kept : (at : ℕ) (children : List ℕ) → Gives (OfSource s) (while_row w s sense at children)
  while_kept at children =
      then_gives (OfSource s) (OfSource s) (condition_of w s sense at (expression_in w s sense children)) _ (condition_kept at (expression_in w s sense children))
      (λ c h. then_gives (OfSource s) (OfSource s) (body_of w s sense at (statements_among w s sense children)) _ (body_kept at (statements_among w s sense children)) (λ body k. (at_node s at, (h, (k, tt)))))

  do_kept : (at : ℕ) (children : List ℕ) → Gives (OfSource s) (do_row w s sense at children)
  do_kept at children =
      then_gives (OfSource s) (OfSource s) (condition_of w s sense at (expression_in w s sense children)) _ (condition_kept at (expression_in w s sense children))
      (λ c h. then_gives (OfSource s) (OfSource s) (body_of w s sense at (statements_among w s sense children)) _ (body_kept at (statements_among w s sense children)) (λ body k. (at_node s at, (k, (h, tt)))))

  expression_kept : (at c : ℕ) → Gives (OfSource s) (expression_statement w s sense at c)
  expression_kept at c = then_gives (OfSource s) (OfSource s) (value_in w at (sense c)) _ (value_in_kept s w at (sense c) (each c)) (λ v h. (own_node s c, (h, tt)))

  return_kept : (at : ℕ) (o : Option ℕ) → Gives (OfSource s) (return_row w s sense at o)
  return_kept at None = (at_node s at, tt)
  return_kept at (Some c) =
      some_given (OfSource s) (returned_type w s sense at) Operand at _
      (λ t.
      then_gives (OfSource s) (OfSource s) (value_in w at (sense c)) _ (value_in_kept s w at (sense c) (each c))
      (λ v h. then_gives (OfSource s) (OfSource s) (conversion w false at v t) _ (conversion_kept s w false at v t h) (λ x k. (at_node s at, (k, tt)))))

  -- a For
  first_in : (at c : ℕ) (b : Bool) → Gives (AreOf s) (if b then Fits (elim (sense c) as (λ _. List Core) [ IsRun cores ↦ cores | _ ↦ [] ]) else (expression_statement w s sense at c >>= (λ x. Fits (x ∷ []))))
  first_in at c true = run_of s (sense c) (each c)
  first_in at c false = then_gives (OfSource s) (AreOf s) (expression_statement w s sense at c) (λ x. Fits (x ∷ [])) (expression_kept at c) (λ x h. (h, tt))

  first_kept : (at : ℕ) (o : Option ℕ) → Gives (AreOf s) (for_first w s sense at o)
  first_kept at None = tt
  first_kept at (Some c) = first_in at c (is_a s p_declaration c)

  for_condition_kept : (at : ℕ) (o : Option ℕ) → Gives (SomeOf s) (for_condition w s sense at o)
  for_condition_kept at None = tt
  for_condition_kept at (Some c) = then_gives (OfSource s) (SomeOf s) (condition_of w s sense at (Some c)) (λ v. Fits (Some v)) (condition_kept at (Some c)) (λ v h. h)

  for_after_kept : (at : ℕ) (o : Option ℕ) → Gives (SomeOf s) (for_after w s sense at o)
  for_after_kept at None = tt
  for_after_kept at (Some c) = then_gives (OfSource s) (SomeOf s) (value_in w at (sense c)) (λ v. Fits (Some v)) (value_in_kept s w at (sense c) (each c)) (λ v h. h)

  for_of_kept : (at : ℕ) (parts : ForParts) (children : List ℕ) → Gives (OfSource s) (for_of w s sense at parts children)
  for_of_kept at parts children =
      then_gives (AreOf s) (OfSource s) (for_first w s sense at parts.first) _ (first_kept at parts.first)
      (λ first h.
      then_gives (SomeOf s) (OfSource s) (for_condition w s sense at parts.condition) _ (for_condition_kept at parts.condition)
      (λ condition k.
      then_gives (SomeOf s) (OfSource s) (for_after w s sense at parts.after) _ (for_after_kept at parts.after)
      (λ next l.
      then_gives (OfSource s) (OfSource s) (body_of w s sense at (statements_among w s sense children)) _ (body_kept at (statements_among w s sense children))
      (λ body m. (at_node s at, appended_kept s first (with_some condition (with_some next (one body))) h (with_kept s condition (with_some next (one body)) k (with_kept s next (one body) l (m, tt))))))))

  for_kept : (at : ℕ) (children : List ℕ) → Gives (OfSource s) (for_row w s sense at children)
  for_kept at (word ∷ parenthesis ∷ rest) = for_of_kept at (for_parts w s sense rest) rest
  for_kept at [] = tt
  for_kept at (word ∷ []) = tt

  goto_kept : (at : ℕ) (children : List ℕ) → Gives (OfSource s) (goto_row w s sense at children)
  goto_kept at children = some_given (OfSource s) (first_where (is_name s) children) Operand at _ (λ name. (at_node s at, tt))

  of_word_kept : (at : ℕ) (children : List ℕ) (o : Option ℕ) → Gives (OfSource s) (of_word w s sense at children o)
  of_word_kept at children None = tt
  of_word_kept at children (Some word) =
      if_holds (Gives (OfSource s)) (word == word_case) _ _ (case_kept at children)
      (if_holds (Gives (OfSource s)) (word == word_default) _ _ (default_kept at children)
      (if_holds (Gives (OfSource s)) (word == word_if) _ _ (if_kept at children)
      (if_holds (Gives (OfSource s)) (word == word_switch) _ _ (switch_kept at children)
      (if_holds (Gives (OfSource s)) (word == word_while) _ _ (while_kept at children)
      (if_holds (Gives (OfSource s)) (word == word_do) _ _ (do_kept at children)
      (if_holds (Gives (OfSource s)) (word == word_for) _ _ (for_kept at children)
      (if_holds (Gives (OfSource s)) (word == word_goto) _ _ (goto_kept at children)
      (if_holds (Gives (OfSource s)) (word == word_continue) _ _ (if_given (OfSource s) _ Operand at (Fits (statement Continue (place_at s at) NoCores)) (at_node s at, tt))
      (if_holds (Gives (OfSource s)) (word == word_break) _ _ (if_given (OfSource s) _ Operand at (Fits (statement Break (place_at s at) NoCores)) (at_node s at, tt))
      (if_holds (Gives (OfSource s)) (word == word_return) _ (Refuses Operand at) (return_kept at (expression_in w s sense children)) tt))))))))))

  leaf_kept : (at first : ℕ) (children : List ℕ) → Gives (OfSource s) (leaf_statement w s sense at first children)
  leaf_kept at first children =
      if_holds (Gives (OfSource s)) (has_sign s sign_semicolon first) _ _ (at_node s at, tt)
      (if_holds (Gives (OfSource s)) (is_name s first) _ _ (labelled_kept at first children) (of_word_kept at children (word_at s first)))

  statement_of_kept : (at first : ℕ) (children : List ℕ) → Gives (OfSense s) (statement_of w s sense at first children)
  statement_of_kept at first children =
      if_holds (Gives (OfSense s)) (is_leaf s first) _ _ (as_sense_kept s w (leaf_statement w s sense at first children) (leaf_kept at first children))
      (if_holds (Gives (OfSense s)) (is_a s p_expression first) _ _ (as_sense_kept s w (expression_statement w s sense at first) (expression_kept at first)) (each first))

  pub statement_kept : (at : ℕ) (children : List ℕ) → Gives (OfSense s) (statement_row w s sense at children)
  statement_kept at [] = tt
  statement_kept at (first ∷ rest) = statement_of_kept at first (first ∷ rest)
