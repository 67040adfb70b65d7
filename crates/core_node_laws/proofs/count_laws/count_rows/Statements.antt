-- The nodes of statements.
use Rattle.std.proofs.Common.{arith, ◌==◌, ℕ, ◌+◌, ◌≤◌, ◌≡◌, refl, sym, ◌∙◌, Bool, true, false, ◌&&◌, List, [], ◌∷◌, Option, Some, None}
use Rattle.std.specs.Prelude.{ℤ, not, is_some, if◌then◌else◌}
use Rattle.pta_base.specs.declared.kind.Kind.TheVariants.{Operand}
use Rattle.core_tree.specs.declared.node.NodeKind.TheVariants.{Case, Default, Label, Break, Continue, Block, For}
use Rattle.c_grammar.specs.Productions.{p_declaration, p_expression, p_conditional, p_statement}
use Rattle.c_grammar.specs.Words.{word_case, word_default, word_if, word_switch, word_while, word_do, word_for, word_goto, word_continue, word_break, word_return, sign_semicolon}
use Rattle.c_grammar.specs.Reads.{leaf}
use Rattle.c_consts.specs.Core.{Core, Cores, NoCores, MoreCores, ctype_of}
use Rattle.c_consts.specs.Wrapped.{converted}
use Rattle.c_senses.specs.Tree.{Source, is_a, is_leaf, is_name, has_sign, sign_at, is_number, place_at, spelling_at, word_at, children_at, first_where, any_where, numbers_from, child_of}
use Rattle.c_senses.specs.Given.{Given, Fits, Refuses, ◌>>=◌, given_if}
use Rattle.c_senses.specs.World.{World}
use Rattle.c_senses.specs.Conversions.{operand_of, is_scalar, promotion, conversion}
use Rattle.c_senses.specs.Constants.{constant_in, is_whole}
use Rattle.c_senses.specs.Sense.{Sense, IsCore, IsRun, core_of, value_in}
use Rattle.c_senses.specs.Statements.{statement, one, appended, with_some, ForParts, cores_in, objects_in, block_row, condition_of, statements_among, body_of, other_body, expression_in, labelled, switch_around, switched, case_in, case_row, is_case_again, default_row, if_row, switch_row, while_row, do_row, expression_before, behind_semicolon, for_parts, expression_statement, for_first, for_objects, for_condition, for_after, for_of, for_row, goto_row, returned_type, return_row, of_word, leaf_statement, statement_row}
use Rattle.core_node_laws.specs.count_laws.count_rows.Counts.{Count, count_in, count_under, count_all, count_of}
use Rattle.core_node_laws.proofs.count_laws.count_rows.Giving.{Gives, then_gives, after, if_given, some_given, if_holds}
use Rattle.core_node_laws.proofs.count_laws.count_rows.Lists.{N, T, U, of_some, split, outside, later, first_less, apart}
use Rattle.core_node_laws.proofs.count_laws.count_rows.Values.{AtMost, SomeAtMost, promotion_kept, conversion_kept}
use Rattle.core_node_laws.proofs.count_laws.count_rows.Expressions.{SenseMost, AllMost, core_less, value_in_less, as_sense_kept}

module _ (n : Count) where
  appended_same : (first : List Core) (more : Cores) → count_under n (appended first more) ≤ count_all n first + count_under n more
  appended_same [] more = omega arith
  appended_same (c ∷ first) more = let h = appended_same first more in omega (arith, h)

  of_option : Option Core → ℕ
  of_option None = 0
  of_option (Some c) = count_in n c

  with_same : (k : ℕ) (o : Option Core) (more : Cores) → SomeAtMost n k o → count_under n (with_some o more) ≤ k + count_under n more
  with_same k None more h = omega arith
  with_same k (Some c) more h = omega (arith, h)

  one_in : (x : Sense) (more : Cores) → count_under n (elim x as (λ _. Cores) [ IsCore c ↦ MoreCores c more | IsRun cores ↦ appended cores more | _ ↦ more ]) ≤ count_of n x + count_under n more
  one_in (IsCore c) more = omega arith
  one_in (IsRun cores) more = appended_same cores more
  one_in x more = omega arith

  run_of : (x : Sense) → count_all n (elim x as (λ _. List Core) [ IsRun cores ↦ cores | _ ↦ [] ]) ≤ count_of n x
  run_of (IsRun cores) = omega arith
  run_of x = omega arith

module _ (n : Count) (w : World) (s : Source) (sense : ℕ → Sense) where
  all_in : (list : List ℕ) → count_under n (cores_in w s sense list) ≤ T n sense list
  all_in [] = omega arith
  all_in (c ∷ rest) = let h = one_in n (sense c) (cores_in w s sense rest) in let k = all_in rest in omega (arith, h, k)

  pub block_kept : (m at : ℕ) (children : List ℕ) → n.weight (Block (objects_in w s sense children)) (place_at s at) + T n sense children ≤ m → Gives (SenseMost n m) (block_row w s sense at children)
  block_kept m at children h = let k = all_in children in omega (arith, h, k)

  condition_less : (at : ℕ) (o : Option ℕ) → Gives (AtMost n (of_some n sense o)) (condition_of w s sense at o)
  condition_less at None = tt
  condition_less at (Some c) =
      then_gives (AtMost n (N n sense c)) (AtMost n (N n sense c)) (value_in w at (sense c)) (λ v. given_if (is_scalar (operand_of (ctype_of v))) Operand at (Fits v)) (value_in_less n w at (sense c))
      (λ v h. if_given (AtMost n (N n sense c)) (is_scalar (operand_of (ctype_of v))) Operand at (Fits v) h)

  -- one statement, and two
  first_in : List ℕ → ℕ
  first_in [] = 0
  first_in (c ∷ rest) = N n sense c

  second_in : List ℕ → ℕ
  second_in [] = 0
  second_in (c ∷ rest) = first_in rest

  both_less : (list : List ℕ) → first_in list + second_in list ≤ T n sense list
  unfolding first_in second_in
  both_less [] = omega arith
  both_less (c ∷ []) = omega arith
  both_less (c ∷ d ∷ rest) = omega arith

  body_first : (at : ℕ) (list : List ℕ) → Gives (AtMost n (first_in list)) (body_of w s sense at list)
  unfolding first_in
  body_first at [] = tt
  body_first at (c ∷ rest) = core_less n w at (sense c)

  body_most : (at : ℕ) (list : List ℕ) → Gives (AtMost n (T n sense list)) (body_of w s sense at list)
  body_most at [] = tt
  body_most at (c ∷ rest) = by (core_of at (sense c)) (core_less n w at (sense c))
    where
      by : (g : Given Core) → Gives (AtMost n (N n sense c)) g → Gives (AtMost n (T n sense (c ∷ rest))) g
      by (Fits x) h = omega (arith, h)
      by (Refuses kind node) h = tt

  other_second : (at : ℕ) (list : List ℕ) → Gives (SomeAtMost n (second_in list)) (other_body w s sense at list)
  unfolding first_in second_in
  other_second at (c ∷ d ∷ rest) = then_gives (AtMost n (N n sense d)) (SomeAtMost n (N n sense d)) (core_of at (sense d)) (λ x. Fits (Some x)) (core_less n w at (sense d)) (λ x h. h)
  other_second at [] = tt
  other_second at (c ∷ []) = tt

  labelled_kept : (m at name : ℕ) (children : List ℕ) → T n sense children ≤ m → Gives (AtMost n m) (labelled w s sense at name children)
  labelled_kept m at name children sum =
      let list : List ℕ = statements_among w s sense children in
      let less = split n s sense children in
      then_gives (AtMost n (T n sense list)) (AtMost n m) (body_of w s sense at list) (λ c. Fits (statement (Label (spelling_at s name)) (place_at s at) (one c))) (body_most at list)
      (λ c h. omega (arith, h, sum, less))

  switched_less : (at : ℕ) (o : Option ℕ) → Gives (AtMost n (of_some n sense o)) (switched w s sense at o)
  switched_less at None = tt
  switched_less at (Some c) =
      then_gives (AtMost n (N n sense c)) (AtMost n (N n sense c)) (value_in w at (sense c)) (λ v. given_if (is_whole (operand_of (ctype_of v))) Operand at (Fits (promotion w v))) (value_in_less n w at (sense c))
      (λ v h. if_given (AtMost n (N n sense c)) (is_whole (operand_of (ctype_of v))) Operand at (Fits (promotion w v)) (promotion_kept n (N n sense c) w v h))

  case_by : (m at switch : ℕ) (body : Core) (x : ℤ) → AtMost n m body → (g : Given Core) → Gives (AtMost n m)
      (elim g as (λ _. Given Core) [
        | Refuses kind node ↦ Fits (statement (Case x) (place_at s at) (one body))
        | Fits v ↦
            let m = converted (ctype_of v) x in
            given_if (not (any_where (is_case_again w s sense switch m) (numbers_from 0 at))) Operand at (Fits (statement (Case m) (place_at s at) (one body)))
      ])
  case_by m at switch body x h (Refuses kind node) = omega (arith, h)
  case_by m at switch body x h (Fits v) = if_given (AtMost n m) _ Operand at (Fits (statement (Case (converted (ctype_of v) x)) (place_at s at) (one body))) (omega (arith, h))

  case_in_kept : (m at switch : ℕ) (body : Core) (x : ℤ) → AtMost n m body → Gives (AtMost n m) (case_in w s sense at switch body x)
  case_in_kept m at switch body x h = case_by m at switch body x h (switched w s sense switch (expression_in w s sense (children_at s switch)))

  case_kept : (m at : ℕ) (children : List ℕ) → T n sense children ≤ m → Gives (AtMost n m) (case_row w s sense at children)
  case_kept m at children sum =
      let list : List ℕ = statements_among w s sense children in
      let less = split n s sense children in
      some_given (AtMost n m) (child_of s p_conditional at) Operand at _
      (λ c.
      after (AtMost n m) (constant_in w s at (sense c)) _
      (λ x.
      some_given (AtMost n m) (switch_around w s sense at) Operand at _
      (λ switch. then_gives (AtMost n (T n sense list)) (AtMost n m) (body_of w s sense at list) _ (body_most at list) (λ body h. case_in_kept m at switch body x (omega (arith, h, sum, less))))))

  default_kept : (m at : ℕ) (children : List ℕ) → T n sense children ≤ m → Gives (AtMost n m) (default_row w s sense at children)
  default_kept m at children sum =
      let list : List ℕ = statements_among w s sense children in
      let less = split n s sense children in
      some_given (AtMost n m) (switch_around w s sense at) Operand at _
      (λ switch.
      if_given (AtMost n m) _ Operand at (body_of w s sense at list >>= (λ body. Fits (statement Default (place_at s at) (one body))))
      (then_gives (AtMost n (T n sense list)) (AtMost n m) (body_of w s sense at list) (λ body. Fits (statement Default (place_at s at) (one body))) (body_most at list)
      (λ body h. omega (arith, h, sum, less))))

  if_kept : (m at : ℕ) (children : List ℕ) → T n sense children ≤ m → Gives (AtMost n m) (if_row w s sense at children)
  if_kept m at children sum =
      let first : Option ℕ = expression_in w s sense children in
      let list : List ℕ = statements_among w s sense children in
      let least = first_less n s sense children in
      let less = split n s sense children in
      let two = both_less list in
      then_gives (AtMost n (of_some n sense first)) (AtMost n m) (condition_of w s sense at first) _ (condition_less at first)
      (λ c h.
      then_gives (AtMost n (first_in list)) (AtMost n m) (body_of w s sense at list) _ (body_first at list)
      (λ body k.
      then_gives (SomeAtMost n (second_in list)) (AtMost n m) (other_body w s sense at list) _ (other_second at list)
      (λ other l. let more = with_same n (second_in list) other NoCores l in omega (arith, sum, least, less, two, h, k, more))))

  switch_kept : (m at : ℕ) (children : List ℕ) → T n sense children ≤ m → Gives (AtMost n m) (switch_row w s sense at children)
  switch_kept m at children sum =
      let first : Option ℕ = expression_in w s sense children in
      let list : List ℕ = statements_among w s sense children in
      let least = first_less n s sense children in
      let less = split n s sense children in
      then_gives (AtMost n (of_some n sense first)) (AtMost n m) (switched w s sense at first) _ (switched_less at first)
      (λ c h. then_gives (AtMost n (T n sense list)) (AtMost n m) (body_of w s sense at list) _ (body_most at list) (λ body k. omega (arith, sum, least, less, h, k)))

  while_kept : (m at : ℕ) (children : List ℕ) → T n sense children ≤ m → Gives (AtMost n m) (while_row w s sense at children)
  while_kept m at children sum =
      let first : Option ℕ = expression_in w s sense children in
      let list : List ℕ = statements_among w s sense children in
      let least = first_less n s sense children in
      let less = split n s sense children in
      then_gives (AtMost n (of_some n sense first)) (AtMost n m) (condition_of w s sense at first) _ (condition_less at first)
      (λ c h. then_gives (AtMost n (T n sense list)) (AtMost n m) (body_of w s sense at list) _ (body_most at list) (λ body k. omega (arith, sum, least, less, h, k)))

  do_kept : (m at : ℕ) (children : List ℕ) → T n sense children ≤ m → Gives (AtMost n m) (do_row w s sense at children)
  do_kept m at children sum =
      let first : Option ℕ = expression_in w s sense children in
      let list : List ℕ = statements_among w s sense children in
      let least = first_less n s sense children in
      let less = split n s sense children in
      then_gives (AtMost n (of_some n sense first)) (AtMost n m) (condition_of w s sense at first) _ (condition_less at first)
      (λ c h. then_gives (AtMost n (T n sense list)) (AtMost n m) (body_of w s sense at list) _ (body_most at list) (λ body k. omega (arith, sum, least, less, h, k)))

  expression_less : (at c : ℕ) → Gives (AtMost n (N n sense c)) (expression_statement w s sense at c)
  expression_less at c = then_gives (AtMost n (N n sense c)) (AtMost n (N n sense c)) (value_in w at (sense c)) _ (value_in_less n w at (sense c)) (λ v h. omega (arith, h))

  return_kept : (at : ℕ) (o : Option ℕ) → Gives (AtMost n (of_some n sense o)) (return_row w s sense at o)
  return_kept at None = omega arith
  return_kept at (Some c) =
      let k : ℕ = N n sense c in
      some_given (AtMost n k) (returned_type w s sense at) Operand at _
      (λ t.
      then_gives (AtMost n k) (AtMost n k) (value_in w at (sense c)) _ (value_in_less n w at (sense c))
      (λ v h. then_gives (AtMost n k) (AtMost n k) (conversion w false at v t) _ (conversion_kept n k w false at v t h) (λ x l. omega (arith, l))))

  return_most : (m at : ℕ) (children : List ℕ) → T n sense children ≤ m → Gives (AtMost n m) (return_row w s sense at (expression_in w s sense children))
  return_most m at children sum =
      let least = first_less n s sense children in
      let less = split n s sense children in
      by (return_row w s sense at (expression_in w s sense children)) (omega (arith, sum, least, less)) (return_kept at (expression_in w s sense children))
    where
      by : (g : Given Core) → of_some n sense (expression_in w s sense children) ≤ m → Gives (AtMost n (of_some n sense (expression_in w s sense children))) g → Gives (AtMost n m) g
      by (Fits x) le h = omega (arith, h, le)
      by (Refuses kind node) le h = tt

  -- the parts of a For
  leaf_apart : (p k c : ℕ) → (leaf == p) ≡ false → has_sign s k c ≡ true → is_a s p c ≡ false
  leaf_apart p k c differ e = apart s leaf p c differ (left_true (is_leaf s c) (is_number (sign_at s c) k) e)
    where
      left_true : (a b : Bool) → (a && b) ≡ true → a ≡ true
      left_true true b e = refl
      left_true false b e = cc

  before_less : (list : List ℕ) → of_some n sense (expression_before w s sense list) ≤ U n s sense list
  before_less [] = omega arith
  before_less (c ∷ rest) = by (is_a s p_expression c) refl
    where
      by : (b : Bool) → is_a s p_expression c ≡ b → of_some n sense (if b then Some c else None) ≤ U n s sense (c ∷ rest)
      by true e = let k = outside n s sense c rest (apart s p_expression p_statement c refl e) in omega (arith, k)
      by false e = omega arith

  behind_less : (list : List ℕ) → U n s sense (behind_semicolon w s sense list) ≤ U n s sense list
  behind_less [] = omega arith
  behind_less (c ∷ rest) = by (has_sign s sign_semicolon c) (behind_less rest)
    where
      by : (b : Bool) → U n s sense (behind_semicolon w s sense rest) ≤ U n s sense rest → U n s sense (if b then rest else behind_semicolon w s sense rest) ≤ U n s sense (c ∷ rest)
      by true h = later n s sense c rest
      by false h = let k = later n s sense c rest in omega (arith, h, k)

  step_less : (list : List ℕ) → of_some n sense (expression_before w s sense list) + U n s sense (behind_semicolon w s sense list) ≤ U n s sense list
  step_less [] = omega arith
  step_less (c ∷ rest) = by (is_a s p_expression c) refl (has_sign s sign_semicolon c) refl (behind_less rest)
    where
      by : (a : Bool) → is_a s p_expression c ≡ a → (b : Bool) → has_sign s sign_semicolon c ≡ b → U n s sense (behind_semicolon w s sense rest) ≤ U n s sense rest
          → of_some n sense (if a then Some c else None) + U n s sense (if b then rest else behind_semicolon w s sense rest) ≤ U n s sense (c ∷ rest)
      by true e true f h = absurd (let g = leaf_apart p_expression sign_semicolon c refl f in let never : true ≡ false = sym e ∙ g in cc)
      by true e false f h = let k = outside n s sense c rest (apart s p_expression p_statement c refl e) in omega (arith, h, k)
      by false e true f h = let k = later n s sense c rest in omega (arith, k)
      by false e false f h = let k = later n s sense c rest in omega (arith, h, k)

  abbrev Parts : ForParts → ℕ
  Parts parts = of_some n sense parts.first + (of_some n sense parts.condition + of_some n sense parts.after)

  parts_less : (list : List ℕ) → Parts (for_parts w s sense list) ≤ U n s sense list
  parts_less [] = omega arith
  parts_less (c ∷ rest) = by (is_a s p_declaration c) refl
    where
      by : (b : Bool) → is_a s p_declaration c ≡ b
          → Parts (if b then record { first = Some c; condition = expression_before w s sense rest; after = expression_before w s sense (behind_semicolon w s sense rest) }
          else (let behind = behind_semicolon w s sense (c ∷ rest) in record { first = expression_before w s sense (c ∷ rest); condition = expression_before w s sense behind; after = expression_before w s sense (behind_semicolon w s sense behind) })) ≤ U n s sense (c ∷ rest)
      by true e =
          let k = outside n s sense c rest (apart s p_declaration p_statement c refl e) in
          let one = step_less rest in
          let two = before_less (behind_semicolon w s sense rest) in
          omega (arith, k, one, two)
      by false e =
          let behind : List ℕ = behind_semicolon w s sense (c ∷ rest) in
          let one = step_less (c ∷ rest) in
          let two = step_less behind in
          let three = before_less (behind_semicolon w s sense behind) in
          omega (arith, one, two, three)

  start_in : (at c : ℕ) (b : Bool) → Gives (AllMost n (N n sense c)) (if b then Fits (elim (sense c) as (λ _. List Core) [ IsRun cores ↦ cores | _ ↦ [] ]) else (expression_statement w s sense at c >>= (λ x. Fits (x ∷ []))))
  start_in at c true = run_of n (sense c)
  start_in at c false = then_gives (AtMost n (N n sense c)) (AllMost n (N n sense c)) (expression_statement w s sense at c) (λ x. Fits (x ∷ [])) (expression_less at c) (λ x h. omega (arith, h))

  start_less : (at : ℕ) (o : Option ℕ) → Gives (AllMost n (of_some n sense o)) (for_first w s sense at o)
  start_less at None = omega arith
  start_less at (Some c) = start_in at c (is_a s p_declaration c)

  for_condition_less : (at : ℕ) (o : Option ℕ) → Gives (SomeAtMost n (of_some n sense o)) (for_condition w s sense at o)
  for_condition_less at None = tt
  for_condition_less at (Some c) = then_gives (AtMost n (N n sense c)) (SomeAtMost n (N n sense c)) (condition_of w s sense at (Some c)) (λ v. Fits (Some v)) (condition_less at (Some c)) (λ v h. h)

  for_after_less : (at : ℕ) (o : Option ℕ) → Gives (SomeAtMost n (of_some n sense o)) (for_after w s sense at o)
  for_after_less at None = tt
  for_after_less at (Some c) = then_gives (AtMost n (N n sense c)) (SomeAtMost n (N n sense c)) (value_in w at (sense c)) (λ v. Fits (Some v)) (value_in_less n w at (sense c)) (λ v h. h)

  for_of_kept : (m at : ℕ) (parts : ForParts) (children : List ℕ) → ((c a : Bool) → n.weight (For (for_objects w s sense parts.first) c a) (place_at s at) + T n sense children ≤ m) → Parts parts ≤ U n s sense children → Gives (AtMost n m) (for_of w s sense at parts children)
  for_of_kept m at parts children sum least =
      let list : List ℕ = statements_among w s sense children in
      let less = split n s sense children in
      then_gives (AllMost n (of_some n sense parts.first)) (AtMost n m) (for_first w s sense at parts.first) _ (start_less at parts.first)
      (λ first h.
      then_gives (SomeAtMost n (of_some n sense parts.condition)) (AtMost n m) (for_condition w s sense at parts.condition) _ (for_condition_less at parts.condition)
      (λ condition k.
      then_gives (SomeAtMost n (of_some n sense parts.after)) (AtMost n m) (for_after w s sense at parts.after) _ (for_after_less at parts.after)
      (λ next l.
      then_gives (AtMost n (T n sense list)) (AtMost n m) (body_of w s sense at list) _ (body_most at list)
      (λ body g.
      let own = sum (is_some condition) (is_some next) in
      let a = appended_same n first (with_some condition (with_some next (one body))) in
      let b = with_same n (of_some n sense parts.condition) condition (with_some next (one body)) k in
      let c = with_same n (of_some n sense parts.after) next (one body) l in
      omega (arith, own, a, b, c, g, h, least, less)))))

  for_kept : (m at : ℕ) (children : List ℕ) → ((word parenthesis : ℕ) (rest : List ℕ) (c a : Bool) → children ≡ word ∷ parenthesis ∷ rest → n.weight (For (for_objects w s sense (for_parts w s sense rest).first) c a) (place_at s at) + T n sense rest ≤ m)
      → Gives (AtMost n m) (for_row w s sense at children)
  for_kept m at (word ∷ parenthesis ∷ rest) sum = for_of_kept m at (for_parts w s sense rest) rest (λ c a. sum word parenthesis rest c a refl) (parts_less rest)
  for_kept m at [] sum = tt
  for_kept m at (word ∷ []) sum = tt

  goto_kept : (m at : ℕ) (children : List ℕ) → Gives (AtMost n m) (goto_row w s sense at children)
  goto_kept m at children = some_given (AtMost n m) (first_where (is_name s) children) Operand at _ (λ name. omega arith)

  -- what a For makes itself, with what its parts have
  abbrev pub ForMost : ℕ → ℕ → List ℕ → Type 0
  ForMost m at children = (word parenthesis : ℕ) (rest : List ℕ) (c a : Bool) → children ≡ word ∷ parenthesis ∷ rest → n.weight (For (for_objects w s sense (for_parts w s sense rest).first) c a) (place_at s at) + T n sense rest ≤ m

  of_word_kept : (m at : ℕ) (children : List ℕ) (o : Option ℕ) → T n sense children ≤ m → ForMost m at children → Gives (AtMost n m) (of_word w s sense at children o)
  of_word_kept m at children None sum own = tt
  of_word_kept m at children (Some word) sum own =
      if_holds (Gives (AtMost n m)) (word == word_case) _ _ (case_kept m at children sum)
      (if_holds (Gives (AtMost n m)) (word == word_default) _ _ (default_kept m at children sum)
      (if_holds (Gives (AtMost n m)) (word == word_if) _ _ (if_kept m at children sum)
      (if_holds (Gives (AtMost n m)) (word == word_switch) _ _ (switch_kept m at children sum)
      (if_holds (Gives (AtMost n m)) (word == word_while) _ _ (while_kept m at children sum)
      (if_holds (Gives (AtMost n m)) (word == word_do) _ _ (do_kept m at children sum)
      (if_holds (Gives (AtMost n m)) (word == word_for) _ _ (for_kept m at children own)
      (if_holds (Gives (AtMost n m)) (word == word_goto) _ _ (goto_kept m at children)
      (if_holds (Gives (AtMost n m)) (word == word_continue) _ _ (if_given (AtMost n m) _ Operand at (Fits (statement Continue (place_at s at) NoCores)) (omega arith))
      (if_holds (Gives (AtMost n m)) (word == word_break) _ _ (if_given (AtMost n m) _ Operand at (Fits (statement Break (place_at s at) NoCores)) (omega arith))
      (if_holds (Gives (AtMost n m)) (word == word_return) _ (Refuses Operand at) (return_most m at children sum) tt))))))))))

  leaf_kept : (m at first : ℕ) (children : List ℕ) → T n sense children ≤ m → ForMost m at children → Gives (AtMost n m) (leaf_statement w s sense at first children)
  leaf_kept m at first children sum own =
      if_holds (Gives (AtMost n m)) (has_sign s sign_semicolon first) _ _ (omega arith)
      (if_holds (Gives (AtMost n m)) (is_name s first) _ _ (labelled_kept m at first children sum) (of_word_kept m at children (word_at s first) sum own))

  pub statement_kept : (m at : ℕ) (children : List ℕ) → T n sense children ≤ m → ForMost m at children → Gives (SenseMost n m) (statement_row w s sense at children)
  statement_kept m at [] sum own = tt
  statement_kept m at (first ∷ rest) sum own =
      if_holds (Gives (SenseMost n m)) (is_leaf s first) _ _ (as_sense_kept n w m (leaf_statement w s sense at first (first ∷ rest)) (leaf_kept m at first (first ∷ rest) sum own))
      (if_holds (Gives (SenseMost n m)) (is_a s p_expression first) _ _ (as_sense_kept n w m (expression_statement w s sense at first) (by (expression_statement w s sense at first) (expression_less at first))) (omega (arith, sum)))
    where
      by : (g : Given Core) → Gives (AtMost n (N n sense first)) g → Gives (AtMost n m) g
      by (Fits x) h = omega (arith, h, sum)
      by (Refuses kind node) h = tt
