-- Statements, blocks and declarations within them (C11 6.7.10, 6.8).
use Rattle.std.specs.Prelude.{ℕ, ◌==◌, ℤ, pos, Bool, true, false, ◌&&◌, ◌||◌, not, List, [], ◌∷◌, ◌++◌, Option}
use Rattle.std.specs.Prelude.{Some, None, is_some, option_and_then, if◌then◌else◌}
use Rattle.std.specs.Ordering.{int_eq}
use Rattle.c_scope.specs.passed.pta_base.declared.kind.Kind.TheVariants.{Operand}
use Rattle.c_scope.specs.passed.pta_base.declared.place.Place.{Place}
use Rattle.c_inits.specs.passed.c_types.Trees.{Ctype, VoidType}
use Rattle.c_consts.specs.passed.core_tree.declared.node.Storage.TheVariants.{Automatic}
use Rattle.c_consts.specs.passed.core_tree.declared.node.NodeKind.{NodeKind}
use Rattle.c_consts.specs.passed.core_tree.declared.node.NodeKind.TheVariants.{Expression, Block, If, While}
use Rattle.c_consts.specs.passed.core_tree.declared.node.NodeKind.TheVariants.{DoWhile, For, Switch, Case, Default}
use Rattle.c_consts.specs.passed.core_tree.declared.node.NodeKind.TheVariants.{Label, Goto, Break, Continue, Return}
use Rattle.c_consts.specs.passed.core_tree.declared.node.NodeKind.TheVariants.{Skip}
use Rattle.c_inits.specs.passed.c_grammar.Productions.{p_rest, p_declaration, p_declarator, p_statement}
use Rattle.c_inits.specs.passed.c_grammar.Productions.{p_expression, p_conditional}
use Rattle.c_inits.specs.passed.c_grammar.Words.{word_case, word_default, word_if, word_switch, word_while, word_do}
use Rattle.c_inits.specs.passed.c_grammar.Words.{word_for, word_goto, word_continue, word_break, word_return}
use Rattle.c_inits.specs.passed.c_grammar.Words.{sign_semicolon}
use Rattle.c_consts.specs.Core.{Core, Cores, Of, NoCores, MoreCores, kind_of, ctype_of, leaf}
use Rattle.c_consts.specs.Wrapped.{converted}
use Rattle.c_senses.specs.Tree.{Source, is_a, is_leaf, is_name, has_sign, has_word, is_number, place_at}
use Rattle.c_senses.specs.Tree.{spelling_at, word_at, children_at, first_where, all_where, any_where, child_of}
use Rattle.c_senses.specs.Tree.{nearest_above, numbers_from}
use Rattle.c_senses.specs.Given.{Given, Fits, Refuses, ◌>>=◌, given_if, given_some}
use Rattle.c_senses.specs.World.{World}
use Rattle.c_senses.specs.Conversions.{operand_of, is_scalar, promotion, conversion}
use Rattle.c_senses.specs.Constants.{constant_in, is_whole}
use Rattle.c_senses.specs.Places.{own_place}
use Rattle.c_senses.specs.Entities.{is_typedef, function_around, own_type, storage_of, initialised_by, result_of}
use Rattle.c_senses.specs.Sense.{Sense, Nothing, IsCore, IsDeclarator, IsRun, IsInitial, core_of, value_in, fits}

abbrev pub statement : NodeKind → Place → Cores → Core
statement kind place under = Of kind place VoidType under

abbrev pub one : Core → Cores
one c = MoreCores c NoCores

abbrev pub two : Core → Core → Cores
two a b = MoreCores a (MoreCores b NoCores)

abbrev pub appended : List Core → Cores → Cores
appended [] more = more
appended (c ∷ rest) more = MoreCores c (appended rest more)

abbrev pub with_some : Option Core → Cores → Cores
with_some None more = more
with_some (Some c) more = MoreCores c more

-- the parts of a For: its declaration or first expression, its condition, what is done after a turn, and its body
pub record ForParts : Type 0 where
  pub first : Option ℕ
  pub condition : Option ℕ
  pub after : Option ℕ

module _ (w : World) (s : Source) (sense : ℕ → Sense) where
  -- the automatic objects whose declarators are among some nodes; a typedef name is no object
  abbrev pub is_automatic_object : ℕ → Bool
  is_automatic_object leaf =
      not (is_typedef s sense leaf) && elim (storage_of s sense leaf) [ Automatic ↦ true | _ ↦ false ]

  abbrev pub automatic_name : Sense → List ℕ
  automatic_name (IsDeclarator (Some leaf) ds) = if is_automatic_object leaf then leaf ∷ [] else []
  automatic_name x = []

  abbrev pub objects_among : List ℕ → List ℕ
  objects_among [] = []
  objects_among (c ∷ rest) =
      if is_a s p_declarator c then automatic_name (sense c) ++ objects_among rest else objects_among rest

  abbrev pub objects_in_rest : List ℕ → List ℕ
  objects_in_rest [] = []
  objects_in_rest (c ∷ rest) = if is_a s p_rest c then objects_among (children_at s c) else objects_in_rest rest

  abbrev pub objects_declared : ℕ → List ℕ
  objects_declared declaration =
      objects_among (children_at s declaration) ++ objects_in_rest (children_at s declaration)

  -- the initialisers that run where they stand: those of automatic objects
  abbrev pub runs_initialiser : ℕ → Bool
  runs_initialiser init =
      elim
      (option_and_then (λ d. elim (sense d) [ IsDeclarator name ds ↦ name | _ ↦ None ])
      (initialised_by s sense init))
      [ None ↦ false | Some leaf ↦ is_automatic_object leaf ]

  abbrev pub initials_among : List ℕ → List Core
  initials_among [] = []
  initials_among (c ∷ rest) =
      elim
      (sense c) [
        | IsInitial x n ↦ if runs_initialiser c then x
            ∷ initials_among rest else initials_among rest
        | _ ↦ initials_among rest
      ]

  abbrev pub rest_row : List ℕ → Given Sense
  rest_row children = Fits (IsRun (initials_among children))

  abbrev pub run_in : List ℕ → List Core
  run_in [] = []
  run_in (c ∷ rest) = elim (sense c) [ IsRun cores ↦ cores | _ ↦ run_in rest ]

  abbrev pub declaration_row : List ℕ → Given Sense
  declaration_row children = Fits (IsRun (run_in children))

  -- 6.7.10
  abbrev pub assert_row : ℕ → Given Sense
  assert_row at =
      given_some (child_of s p_conditional at) Operand at >>=
      (λ c. constant_in w s at (sense c) >>=
      (λ n. given_if (not (int_eq n (pos 0))) Operand at (Fits Nothing)))

  -- 6.8.2: a block over the statements in it, and the initialisers of its automatic objects
  abbrev pub objects_in : List ℕ → List ℕ
  objects_in [] = []
  objects_in (c ∷ rest) = if is_a s p_declaration c then objects_declared c ++ objects_in rest else objects_in rest

  abbrev pub cores_in : List ℕ → Cores
  cores_in [] = NoCores
  cores_in (c ∷ rest) =
      elim
      (sense c) [
        | IsCore x ↦ MoreCores x (cores_in rest)
        | IsRun cores ↦ appended cores
            (cores_in rest)
        | _ ↦ cores_in rest
      ]

  abbrev pub block_row : ℕ → List ℕ → Given Sense
  block_row at children = fits (statement (Block (objects_in children)) (place_at s at) (cores_in children))

  -- parts of a statement
  abbrev pub condition_of : ℕ → Option ℕ → Given Core
  condition_of at None = Refuses Operand at
  condition_of at (Some c) =
      value_in w at (sense c) >>= (λ v. given_if (is_scalar (operand_of (ctype_of v))) Operand at (Fits v))

  abbrev pub statements_among : List ℕ → List ℕ
  statements_among children = all_where (is_a s p_statement) children

  abbrev pub body_of : ℕ → List ℕ → Given Core
  body_of at [] = Refuses Operand at
  body_of at (c ∷ rest) = core_of at (sense c)

  abbrev pub other_body : ℕ → List ℕ → Given (Option Core)
  other_body at (c ∷ d ∷ rest) = core_of at (sense d) >>= (λ x. Fits (Some x))
  other_body at list = Fits None

  abbrev pub expression_in : List ℕ → Option ℕ
  expression_in children = first_where (is_a s p_expression) children

  -- 6.8.1: labels and cases
  abbrev pub labelled : ℕ → ℕ → List ℕ → Given Core
  labelled at name children =
      body_of at (statements_among children) >>=
      (λ c. Fits (statement (Label (spelling_at s name)) (place_at s at) (one c)))

  abbrev pub is_statement_of : ℕ → ℕ → Bool
  is_statement_of word i =
      is_a s p_statement i && elim (children_at s i) [ [] ↦ false | first ∷ rest ↦ has_word s word first ]

  abbrev pub switch_around : ℕ → Option ℕ
  switch_around i = nearest_above s (is_statement_of word_switch) i

  abbrev pub switched : ℕ → Option ℕ → Given Core
  switched at None = Refuses Operand at
  switched at (Some c) =
      value_in w at (sense c) >>=
      (λ v. given_if (is_whole (operand_of (ctype_of v))) Operand at (Fits (promotion w v)))

  abbrev pub case_value : Sense → Option ℤ
  case_value (IsCore c) = elim (kind_of c) [ Case n ↦ Some n | _ ↦ None ]
  case_value x = None

  abbrev pub is_default : Sense → Bool
  is_default (IsCore c) = elim (kind_of c) [ Default ↦ true | _ ↦ false ]
  is_default x = false

  abbrev pub in_switch : ℕ → ℕ → Bool
  in_switch switch i = is_number (switch_around i) switch

  abbrev pub is_case_again : ℕ → ℤ → ℕ → Bool
  is_case_again switch n i =
      is_statement_of word_case i
      && (in_switch switch i && elim (case_value (sense i)) [ None ↦ false | Some m ↦ int_eq m n ])

  abbrev pub is_default_again : ℕ → ℕ → Bool
  is_default_again switch i = is_statement_of word_default i && (in_switch switch i && is_default (sense i))

  -- a case has the type of its switch's value and a number of its own; a switch whose value is no integer is itself
  -- refused
  abbrev pub case_in : ℕ → ℕ → Core → ℤ → Given Core
  case_in at switch body n =
      elim (switched switch (expression_in (children_at s switch))) [
        | Refuses kind node ↦ Fits (statement (Case n) (place_at s at) (one body))
        | Fits v ↦
            let m = converted (ctype_of v) n in
            given_if (not (any_where (is_case_again switch m) (numbers_from 0 at))) Operand at
            (Fits (statement (Case m) (place_at s at) (one body)))
      ]

  abbrev pub case_row : ℕ → List ℕ → Given Core
  case_row at children =
      given_some (child_of s p_conditional at) Operand at >>= (λ c.
      constant_in w s at (sense c) >>= (λ n.
      given_some (switch_around at) Operand at >>= (λ switch.
      body_of at (statements_among children) >>= (λ body. case_in at switch body n))))

  abbrev pub default_row : ℕ → List ℕ → Given Core
  default_row at children =
      given_some (switch_around at) Operand at >>= (λ switch.
      given_if (not (any_where (is_default_again switch) (numbers_from 0 at))) Operand at
      (body_of at (statements_among children) >>= (λ body. Fits (statement Default (place_at s at) (one body)))))

  -- 6.8.4, 6.8.5
  abbrev pub if_row : ℕ → List ℕ → Given Core
  if_row at children =
      condition_of at (expression_in children) >>= (λ c.
      body_of at (statements_among children) >>= (λ body.
      other_body at (statements_among children) >>=
      (λ other. Fits
      (statement If (place_at s at) (MoreCores c (MoreCores body (with_some other NoCores)))))))

  abbrev pub switch_row : ℕ → List ℕ → Given Core
  switch_row at children =
      switched at (expression_in children) >>=
      (λ c. body_of at (statements_among children) >>=
      (λ body. Fits (statement Switch (place_at s at) (two c body))))

  abbrev pub while_row : ℕ → List ℕ → Given Core
  while_row at children =
      condition_of at (expression_in children) >>=
      (λ c. body_of at (statements_among children) >>=
      (λ body. Fits (statement While (place_at s at) (two c body))))

  abbrev pub do_row : ℕ → List ℕ → Given Core
  do_row at children =
      condition_of at (expression_in children) >>=
      (λ c. body_of at (statements_among children) >>=
      (λ body. Fits (statement DoWhile (place_at s at) (two body c))))

  -- an expression that may lack before a token
  abbrev pub expression_before : List ℕ → Option ℕ
  expression_before [] = None
  expression_before (c ∷ rest) = if is_a s p_expression c then Some c else None

  abbrev pub behind_semicolon : List ℕ → List ℕ
  behind_semicolon [] = []
  behind_semicolon (c ∷ rest) = if has_sign s sign_semicolon c then rest else behind_semicolon rest

  abbrev pub for_parts : List ℕ → ForParts
  for_parts (c ∷ rest) =
      if is_a s p_declaration c
      then record {
        first = Some c;
        condition = expression_before rest;
        after = expression_before (behind_semicolon rest);
      }
      else
      (let behind = behind_semicolon
      (c ∷ rest) in record {
        first = expression_before (c ∷ rest);
        condition = expression_before behind;
        after = expression_before (behind_semicolon behind);
      })
  for_parts [] = record { first = None; condition = None; after = None }

  abbrev pub expression_statement : ℕ → ℕ → Given Core
  expression_statement at c = value_in w at (sense c) >>= (λ v. Fits (statement Expression (own_place s c) (one v)))

  abbrev pub for_first : ℕ → Option ℕ → Given (List Core)
  for_first at None = Fits []
  for_first at (Some c) =
      if is_a s p_declaration c then Fits (elim (sense c) [ IsRun cores ↦ cores | _ ↦ [] ])
      else (expression_statement at c >>= (λ x. Fits (x ∷ [])))

  abbrev pub for_objects : Option ℕ → List ℕ
  for_objects None = []
  for_objects (Some c) = if is_a s p_declaration c then objects_declared c else []

  abbrev pub for_condition : ℕ → Option ℕ → Given (Option Core)
  for_condition at None = Fits None
  for_condition at (Some c) = condition_of at (Some c) >>= (λ v. Fits (Some v))

  abbrev pub for_after : ℕ → Option ℕ → Given (Option Core)
  for_after at None = Fits None
  for_after at (Some c) = value_in w at (sense c) >>= (λ v. Fits (Some v))

  abbrev pub for_of : ℕ → ForParts → List ℕ → Given Core
  for_of at parts children =
      for_first at parts.first >>= (λ first.
      for_condition at parts.condition >>= (λ condition.
      for_after at parts.after >>= (λ after.
      body_of at (statements_among children) >>= (λ body.
      Fits
      (statement (For (for_objects parts.first) (is_some condition) (is_some after)) (place_at s at)
      (appended first (with_some condition (with_some after (one body)))))))))

  abbrev pub for_row : ℕ → List ℕ → Given Core
  for_row at (word ∷ parenthesis ∷ rest) = for_of at (for_parts rest) rest
  for_row at children = Refuses Operand at

  -- 6.8.6: jumps
  abbrev pub is_loop : ℕ → Bool
  is_loop i = is_statement_of word_while i || (is_statement_of word_do i || is_statement_of word_for i)

  abbrev pub break_row : ℕ → Given Core
  break_row at =
      given_if (is_some (nearest_above s (λ i. is_loop i || is_statement_of word_switch i) at)) Operand at
      (Fits (statement Break (place_at s at) NoCores))

  abbrev pub continue_row : ℕ → Given Core
  continue_row at =
      given_if (is_some (nearest_above s is_loop at)) Operand at (Fits (statement Continue (place_at s at) NoCores))

  abbrev pub goto_row : ℕ → List ℕ → Given Core
  goto_row at children =
      given_some (first_where (is_name s) children) Operand at >>=
      (λ name. Fits (statement (Goto (spelling_at s name)) (place_at s at) NoCores))

  abbrev pub returned_type : ℕ → Option Ctype
  returned_type at =
      elim
      (option_and_then (own_type s sense) (function_around s sense at))
      [ None ↦ None | Some t ↦ Some (result_of w s sense t) ]

  abbrev pub return_row : ℕ → Option ℕ → Given Core
  return_row at None = Fits (statement Return (place_at s at) NoCores)
  return_row at (Some c) =
      given_some (returned_type at) Operand at >>= (λ t.
      value_in w at (sense c) >>=
      (λ v. conversion w false at v t >>= (λ x. Fits (statement Return (place_at s at) (one x)))))

  abbrev pub of_word : ℕ → List ℕ → Option ℕ → Given Core
  of_word at children None = Refuses Operand at
  of_word at children (Some word) =
      if word == word_case then case_row at children
      else if word == word_default then default_row at children
      else if word == word_if then if_row at children
      else if word == word_switch then switch_row at children
      else if word == word_while then while_row at children
      else if word == word_do then do_row at children
      else if word == word_for then for_row at children
      else if word == word_goto then goto_row at children
      else if word == word_continue then continue_row at
      else if word == word_break then break_row at
      else if word == word_return then return_row at (expression_in children)
      else Refuses Operand at

  abbrev pub leaf_statement : ℕ → ℕ → List ℕ → Given Core
  leaf_statement at first children =
      if has_sign s sign_semicolon first then Fits (statement Skip (place_at s at) NoCores)
      else if is_name s first then labelled at first children
      else of_word at children (word_at s first)

  abbrev pub statement_of : ℕ → ℕ → List ℕ → Given Sense
  statement_of at first children =
      if is_leaf s first then (leaf_statement at first children >>= fits)
      else if is_a s p_expression first then (expression_statement at first >>= fits)
      else Fits (sense first)

  abbrev pub statement_row : ℕ → List ℕ → Given Sense
  statement_row at [] = Refuses Operand at
  statement_row at (first ∷ rest) = statement_of at first (first ∷ rest)
