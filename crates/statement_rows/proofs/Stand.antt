-- The rows of statements keep the rows of constants.
use Rattle.std.proofs.Common.{◌≡◌, ℕ, Bool, true, false, ◌==◌, List, [], ◌∷◌, Option, Some, None, refl}
use Rattle.std.specs.Prelude.{⊤, ℤ, not, if◌then◌else◌}
use Rattle.pta_base.specs.declared.kind.Kind.TheVariants.{Operand}
use Rattle.c_types.specs.Trees.{Ctype}
use Rattle.core_tree.specs.declared.node.NodeKind.TheVariants.{Expression, Case, Default, Label, Goto, Break, Continue}
use Rattle.core_tree.specs.Typed.{IsInteger}
use Rattle.c_grammar.specs.Productions.{p_declaration, p_expression, p_conditional}
use Rattle.c_grammar.specs.Words.{word_case, word_default, word_if, word_switch, word_while, word_do, word_for, word_goto, word_continue, word_break, word_return, sign_semicolon}
use Rattle.c_consts.specs.Core.{Core, Cores, NoCores, MoreCores, ctype_of}
use Rattle.c_consts.specs.Wrapped.{converted}
use Rattle.c_senses.specs.Tree.{Source, is_a, is_leaf, is_name, has_sign, place_at, spelling_at, word_at, children_at, first_where, any_where, child_of, numbers_from}
use Rattle.c_senses.specs.Given.{Given, Fits, Refuses, ◌>>=◌, given_if}
use Rattle.c_senses.specs.World.{World}
use Rattle.c_senses.specs.Conversions.{OperandSort, Whole, operand_of, is_scalar, promotion, conversion}
use Rattle.c_senses.specs.Constants.{constant_in, is_whole}
use Rattle.c_senses.specs.Places.{own_place}
use Rattle.c_senses.specs.Sense.{Sense, IsCore, IsRun, IsInitial, core_of, value_in, fits}
use Rattle.c_senses.specs.Statements.{statement, one, appended, with_some, ForParts, cores_in, block_row, condition_of, statements_among, body_of, other_body, expression_in, labelled, switch_around, switched, is_case_again, case_row, default_row, if_row, switch_row, while_row, do_row, for_parts, expression_statement, for_first, for_condition, for_after, for_of, for_row, break_row, continue_row, goto_row, returned_type, return_row, of_word, leaf_statement, statement_row, runs_initialiser, initials_among, rest_row, run_in, declaration_row}
use Rattle.c_conversions.specs.Constants.{HasRows, HaveRows}
use Rattle.parsed_tree_laws.specs.sense_laws.Sound.{Gives}
use Rattle.parsed_tree_laws.proofs.sense_laws.Giving.{then_gives, if_given, some_given, if_holds}
use Rattle.parsed_tree_laws.proofs.sense_laws.Conversions.{whole_integer}
use Rattle.parsed_tree_laws.specs.sense_laws.row_trees.Trees.{AllHaveRows, RowsValue, RowsOf}
use Rattle.parsed_tree_laws.proofs.sense_laws.row_trees.Conversions.{promotion_value, conversion_rows}
use Rattle.parsed_tree_laws.proofs.sense_laws.row_trees.Expressions.{core_rows, value_in_rows}
use Rattle.statement_rows.specs.Kept.{RunHasRows, HasAllRows}

whole_sort : (x : OperandSort) → is_whole x ≡ true → x ≡ Whole
whole_sort Whole h = refl
whole_sort x h = cc

whole_type : (t : Ctype) → is_whole (operand_of t) ≡ true → IsInteger t
whole_type t h = whole_integer t (whole_sort (operand_of t) h)

anything : {A : Type 0} (g : Given A) → Gives (λ n. ⊤) g
anything (Fits n) = tt
anything (Refuses kind node) = tt

pub SomeRows : Option Core → Type 0
SomeRows None = ⊤
SomeRows (Some c) = HasRows c

appended_rows : (first : List Core) (more : Cores) → AllHaveRows first → HaveRows more → HaveRows (appended first more)
appended_rows [] more h k = k
appended_rows (c ∷ first) more h k = (h.0, appended_rows first more h.1 k)

some_rows : (o : Option Core) (more : Cores) → SomeRows o → HaveRows more → HaveRows (with_some o more)
unfolding SomeRows
some_rows None more h k = k
some_rows (Some c) more h k = (h, k)

module _ (w : World) (s : Source) (sense : ℕ → Sense) (kept : (i : ℕ) → HasAllRows (sense i)) where
  -- statements and conditions within a statement
  core_kept : (at c : ℕ) → Gives HasRows (core_of at (sense c))
  core_kept at c = core_rows w at (sense c) (kept c).0

  value_kept : (at c : ℕ) → Gives RowsValue (value_in w at (sense c))
  value_kept at c = value_in_rows w at (sense c) (kept c).0

  body_kept : (at : ℕ) (list : List ℕ) → Gives HasRows (body_of w s sense at list)
  body_kept at [] = tt
  body_kept at (c ∷ rest) = core_kept at c

  condition_kept : (at : ℕ) (o : Option ℕ) → Gives HasRows (condition_of w s sense at o)
  condition_kept at None = tt
  condition_kept at (Some c) =
      then_gives RowsValue HasRows (value_in w at (sense c)) (λ v. given_if (is_scalar (operand_of (ctype_of v))) Operand at (Fits v)) (value_kept at c)
      (λ v h. if_given HasRows (is_scalar (operand_of (ctype_of v))) Operand at (Fits v) (λ scalar. h.0))

  switched_kept : (at : ℕ) (o : Option ℕ) → Gives HasRows (switched w s sense at o)
  switched_kept at None = tt
  switched_kept at (Some c) =
      then_gives RowsValue HasRows (value_in w at (sense c)) (λ v. given_if (is_whole (operand_of (ctype_of v))) Operand at (Fits (promotion w v))) (value_kept at c)
      (λ v h. if_given HasRows (is_whole (operand_of (ctype_of v))) Operand at (Fits (promotion w v)) (λ whole. (promotion_value w v h (whole_type (ctype_of v) whole)).0))

  -- labels and cases
  labelled_kept : (at name : ℕ) (children : List ℕ) → Gives HasRows (labelled w s sense at name children)
  labelled_kept at name children =
      then_gives HasRows HasRows (body_of w s sense at (statements_among w s sense children)) (λ c. Fits (statement (Label (spelling_at s name)) (place_at s at) (one c))) (body_kept at (statements_among w s sense children))
      (λ c h. (tt, (h, tt)))

  case_by : (at switch : ℕ) (body : Core) (n : ℤ) → HasRows body → (g : Given Core)
      → Gives HasRows
      (elim g as (λ _. Given Core) [
        | Refuses kind node ↦ Fits (statement (Case n) (place_at s at) (one body))
        | Fits v ↦
            let m = converted (ctype_of v) n in
            given_if (not (any_where (is_case_again w s sense switch m) (numbers_from 0 at))) Operand at (Fits (statement (Case m) (place_at s at) (one body)))
      ])
  case_by at switch body n h (Refuses kind node) = (tt, (h, tt))
  case_by at switch body n h (Fits v) = if_given HasRows _ Operand at (Fits (statement (Case (converted (ctype_of v) n)) (place_at s at) (one body))) (λ new. (tt, (h, tt)))

  case_kept : (at : ℕ) (children : List ℕ) → Gives HasRows (case_row w s sense at children)
  case_kept at children =
      some_given HasRows (child_of s p_conditional at) Operand at _
      (λ c e.
      then_gives (λ n. ⊤) HasRows (constant_in w s at (sense c)) _ (anything (constant_in w s at (sense c)))
      (λ n k.
      some_given HasRows (switch_around w s sense at) Operand at _
      (λ switch f.
      then_gives HasRows HasRows (body_of w s sense at (statements_among w s sense children)) _ (body_kept at (statements_among w s sense children))
      (λ body h. case_by at switch body n h (switched w s sense switch (expression_in w s sense (children_at s switch)))))))

  default_kept : (at : ℕ) (children : List ℕ) → Gives HasRows (default_row w s sense at children)
  default_kept at children =
      some_given HasRows (switch_around w s sense at) Operand at _
      (λ switch f.
      if_given HasRows _ Operand at (body_of w s sense at (statements_among w s sense children) >>= (λ body. Fits (statement Default (place_at s at) (one body))))
      (λ new.
      then_gives HasRows HasRows (body_of w s sense at (statements_among w s sense children)) (λ body. Fits (statement Default (place_at s at) (one body))) (body_kept at (statements_among w s sense children))
      (λ body h. (tt, (h, tt)))))

  -- choices and loops
  other_kept : (at : ℕ) (list : List ℕ) → Gives SomeRows (other_body w s sense at list)
  unfolding SomeRows
  other_kept at (c ∷ d ∷ rest) = then_gives HasRows SomeRows (core_of at (sense d)) (λ x. Fits (Some x)) (core_kept at d) (λ x h. h)
  other_kept at [] = tt
  other_kept at (c ∷ []) = tt

  if_kept : (at : ℕ) (children : List ℕ) → Gives HasRows (if_row w s sense at children)
  if_kept at children =
      then_gives HasRows HasRows (condition_of w s sense at (expression_in w s sense children)) _ (condition_kept at (expression_in w s sense children))
      (λ c h.
      then_gives HasRows HasRows (body_of w s sense at (statements_among w s sense children)) _ (body_kept at (statements_among w s sense children))
      (λ body k.
      then_gives SomeRows HasRows (other_body w s sense at (statements_among w s sense children)) _ (other_kept at (statements_among w s sense children))
      (λ other l. (tt, (h, (k, some_rows other NoCores l tt))))))

  switch_kept : (at : ℕ) (children : List ℕ) → Gives HasRows (switch_row w s sense at children)
  switch_kept at children =
      then_gives HasRows HasRows (switched w s sense at (expression_in w s sense children)) _ (switched_kept at (expression_in w s sense children))
      (λ c h.
      then_gives HasRows HasRows (body_of w s sense at (statements_among w s sense children)) _ (body_kept at (statements_among w s sense children)) (λ body k. (tt, (h, (k, tt)))))

  while_kept : (at : ℕ) (children : List ℕ) → Gives HasRows (while_row w s sense at children)
  while_kept at children =
      then_gives HasRows HasRows (condition_of w s sense at (expression_in w s sense children)) _ (condition_kept at (expression_in w s sense children))
      (λ c h.
      then_gives HasRows HasRows (body_of w s sense at (statements_among w s sense children)) _ (body_kept at (statements_among w s sense children)) (λ body k. (tt, (h, (k, tt)))))

  do_kept : (at : ℕ) (children : List ℕ) → Gives HasRows (do_row w s sense at children)
  do_kept at children =
      then_gives HasRows HasRows (condition_of w s sense at (expression_in w s sense children)) _ (condition_kept at (expression_in w s sense children))
      (λ c h.
      then_gives HasRows HasRows (body_of w s sense at (statements_among w s sense children)) _ (body_kept at (statements_among w s sense children)) (λ body k. (tt, (k, (h, tt)))))

  -- an expression, and a return
  expression_kept : (at c : ℕ) → Gives HasRows (expression_statement w s sense at c)
  expression_kept at c = then_gives RowsValue HasRows (value_in w at (sense c)) (λ v. Fits (statement Expression (own_place s c) (one v))) (value_kept at c) (λ v h. (tt, (h.0, tt)))

  return_kept : (at : ℕ) (o : Option ℕ) → Gives HasRows (return_row w s sense at o)
  return_kept at None = (tt, tt)
  return_kept at (Some c) =
      some_given HasRows (returned_type w s sense at) Operand at _
      (λ t e.
      then_gives RowsValue HasRows (value_in w at (sense c)) _ (value_kept at c)
      (λ v h. then_gives (RowsOf t) HasRows (conversion w false at v t) _ (conversion_rows w v h false at t) (λ x k. (tt, (k.0, tt)))))

  -- a for
  run_kept : (x : Sense) → RunHasRows x → AllHaveRows (elim x as (λ _. List Core) [ IsRun cores ↦ cores | _ ↦ [] ])
  run_kept (IsRun cores) h = h
  run_kept x h = tt

  first_of : (at c : ℕ) (b : Bool) → Gives AllHaveRows (if b then Fits (elim (sense c) as (λ _. List Core) [ IsRun cores ↦ cores | _ ↦ [] ]) else (expression_statement w s sense at c >>= (λ x. Fits (x ∷ []))))
  first_of at c true = run_kept (sense c) (kept c).1
  first_of at c false = then_gives HasRows AllHaveRows (expression_statement w s sense at c) (λ x. Fits (x ∷ [])) (expression_kept at c) (λ x h. (h, tt))

  first_kept : (at : ℕ) (o : Option ℕ) → Gives AllHaveRows (for_first w s sense at o)
  first_kept at None = tt
  first_kept at (Some c) = first_of at c (is_a s p_declaration c)

  for_condition_kept : (at : ℕ) (o : Option ℕ) → Gives SomeRows (for_condition w s sense at o)
  unfolding SomeRows
  for_condition_kept at None = tt
  for_condition_kept at (Some c) = then_gives HasRows SomeRows (condition_of w s sense at (Some c)) (λ v. Fits (Some v)) (condition_kept at (Some c)) (λ v h. h)

  for_after_kept : (at : ℕ) (o : Option ℕ) → Gives SomeRows (for_after w s sense at o)
  unfolding SomeRows
  for_after_kept at None = tt
  for_after_kept at (Some c) = then_gives RowsValue SomeRows (value_in w at (sense c)) (λ v. Fits (Some v)) (value_kept at c) (λ v h. h.0)

  for_of_kept : (at : ℕ) (p : ForParts) (children : List ℕ) → Gives HasRows (for_of w s sense at p children)
  for_of_kept at p children =
      then_gives AllHaveRows HasRows (for_first w s sense at p.first) _ (first_kept at p.first)
      (λ first f.
      then_gives SomeRows HasRows (for_condition w s sense at p.condition) _ (for_condition_kept at p.condition)
      (λ condition c.
      then_gives SomeRows HasRows (for_after w s sense at p.after) _ (for_after_kept at p.after)
      (λ after a.
      then_gives HasRows HasRows (body_of w s sense at (statements_among w s sense children)) _ (body_kept at (statements_among w s sense children))
      (λ body b. (tt, appended_rows first (with_some condition (with_some after (one body))) f (some_rows condition (with_some after (one body)) c (some_rows after (one body) a (b, tt))))))))

  for_kept : (at : ℕ) (children : List ℕ) → Gives HasRows (for_row w s sense at children)
  for_kept at [] = tt
  for_kept at (word ∷ []) = tt
  for_kept at (word ∷ parenthesis ∷ rest) = for_of_kept at (for_parts w s sense rest) rest

  -- jumps
  break_kept : (at : ℕ) → Gives HasRows (break_row w s sense at)
  break_kept at = if_given HasRows _ Operand at (Fits (statement Break (place_at s at) NoCores)) (λ within. (tt, tt))

  continue_kept : (at : ℕ) → Gives HasRows (continue_row w s sense at)
  continue_kept at = if_given HasRows _ Operand at (Fits (statement Continue (place_at s at) NoCores)) (λ within. (tt, tt))

  goto_kept : (at : ℕ) (children : List ℕ) → Gives HasRows (goto_row w s sense at children)
  goto_kept at children = some_given HasRows (first_where (is_name s) children) Operand at (λ name. Fits (statement (Goto (spelling_at s name)) (place_at s at) NoCores)) (λ name e. (tt, tt))

  of_word_kept : (at : ℕ) (children : List ℕ) (o : Option ℕ) → Gives HasRows (of_word w s sense at children o)
  of_word_kept at children None = tt
  of_word_kept at children (Some word) =
      if_holds (Gives HasRows) (word == word_case) _ _ (λ e. case_kept at children)
      (λ e. if_holds (Gives HasRows) (word == word_default) _ _ (λ e. default_kept at children)
      (λ e. if_holds (Gives HasRows) (word == word_if) _ _ (λ e. if_kept at children)
      (λ e. if_holds (Gives HasRows) (word == word_switch) _ _ (λ e. switch_kept at children)
      (λ e. if_holds (Gives HasRows) (word == word_while) _ _ (λ e. while_kept at children)
      (λ e. if_holds (Gives HasRows) (word == word_do) _ _ (λ e. do_kept at children)
      (λ e. if_holds (Gives HasRows) (word == word_for) _ _ (λ e. for_kept at children)
      (λ e. if_holds (Gives HasRows) (word == word_goto) _ _ (λ e. goto_kept at children)
      (λ e. if_holds (Gives HasRows) (word == word_continue) _ _ (λ e. continue_kept at)
      (λ e. if_holds (Gives HasRows) (word == word_break) _ _ (λ e. break_kept at)
      (λ e. if_holds (Gives HasRows) (word == word_return) _ (Refuses Operand at) (λ e. return_kept at (expression_in w s sense children)) (λ e. tt)))))))))))

  leaf_kept : (at first : ℕ) (children : List ℕ) → Gives HasRows (leaf_statement w s sense at first children)
  leaf_kept at first children =
      if_holds (Gives HasRows) (has_sign s sign_semicolon first) _ _ (λ e. (tt, tt))
      (λ e. if_holds (Gives HasRows) (is_name s first) _ _ (λ e. labelled_kept at first children) (λ e. of_word_kept at children (word_at s first)))

  fits_kept : (g : Given Core) → Gives HasRows g → Gives HasAllRows (g >>= fits)
  fits_kept (Fits c) h = (h, tt)
  fits_kept (Refuses kind node) h = tt

  pub statement_kept : (at : ℕ) (children : List ℕ) → Gives HasAllRows (statement_row w s sense at children)
  statement_kept at [] = tt
  statement_kept at (first ∷ rest) =
      if_holds (Gives HasAllRows) (is_leaf s first) _ _ (λ leafy. fits_kept (leaf_statement w s sense at first (first ∷ rest)) (leaf_kept at first (first ∷ rest)))
      (λ over.
      if_holds (Gives HasAllRows) (is_a s p_expression first) _ _ (λ expression. fits_kept (expression_statement w s sense at first) (expression_kept at first)) (λ other. kept first))

  -- blocks and declarations
  one_kept : (x : Sense) (more : Cores) → HasAllRows x → HaveRows more → HaveRows (elim x as (λ _. Cores) [ IsCore c ↦ MoreCores c more | IsRun cores ↦ appended cores more | _ ↦ more ])
  one_kept (IsCore c) more h m = (h.0, m)
  one_kept (IsRun cores) more h m = appended_rows cores more h.1 m
  one_kept x more h m = m

  cores_kept : (list : List ℕ) → HaveRows (cores_in w s sense list)
  cores_kept [] = tt
  cores_kept (c ∷ rest) = one_kept (sense c) (cores_in w s sense rest) (kept c) (cores_kept rest)

  pub block_kept : (at : ℕ) (children : List ℕ) → Gives HasAllRows (block_row w s sense at children)
  block_kept at children = ((tt, cores_kept children), tt)

  initial_kept : (x : Sense) (b : Bool) (more : List Core) → RunHasRows x → AllHaveRows more → AllHaveRows (elim x as (λ _. List Core) [ IsInitial c n ↦ if b then c ∷ more else more | _ ↦ more ])
  initial_kept (IsInitial c n) true more h m = (h, m)
  initial_kept (IsInitial c n) false more h m = m
  initial_kept x b more h m = m

  initials_kept : (list : List ℕ) → AllHaveRows (initials_among w s sense list)
  initials_kept [] = tt
  initials_kept (c ∷ rest) = initial_kept (sense c) (runs_initialiser w s sense c) (initials_among w s sense rest) (kept c).1 (initials_kept rest)

  pub rest_kept : (children : List ℕ) → Gives HasAllRows (rest_row w s sense children)
  rest_kept children = (tt, initials_kept children)

  first_run : (x : Sense) (more : List Core) → RunHasRows x → AllHaveRows more → AllHaveRows (elim x as (λ _. List Core) [ IsRun cores ↦ cores | _ ↦ more ])
  first_run (IsRun cores) more h m = h
  first_run x more h m = m

  runs_kept : (list : List ℕ) → AllHaveRows (run_in w s sense list)
  runs_kept [] = tt
  runs_kept (c ∷ rest) = first_run (sense c) (run_in w s sense rest) (kept c).1 (runs_kept rest)

  pub declaration_kept : (children : List ℕ) → Gives HasAllRows (declaration_row w s sense children)
  declaration_kept children = (tt, runs_kept children)
