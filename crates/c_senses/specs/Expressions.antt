-- One row for each production of expressions, over what the nodes before stand for (C11 6.5).
use Rattle.std.specs.Prelude.{ℕ, ◌==◌, pos, Bool, true, false, ◌||◌, not, List, [], ◌∷◌, Option, Some, None}
use Rattle.std.specs.Prelude.{if◌then◌else◌}
use Rattle.std.specs.List.{flat_map}
use Rattle.std.specs.Prelude.{codes}
use Rattle.std.specs.Str.{bytes_eq}
use Rattle.c_scope.specs.passed.pta_base.declared.kind.Kind.TheVariants.{Operand}
use Rattle.c_scope.specs.passed.pta_base.declared.place.Place.{Place}
use Rattle.c_inits.specs.passed.c_grammar.PassedOn.{TokenKind}
use Rattle.c_inits.specs.passed.c_grammar.PassedOn.{Identifier, Keyword, Punctuator, Integer, Floating, Character}
use Rattle.c_inits.specs.passed.c_grammar.PassedOn.{Text, End}
use Rattle.c_consts.specs.passed.core_tree.declared.node.Op.TheVariants.{Plus, Minus, Complement}
use Rattle.c_consts.specs.passed.core_tree.declared.node.NodeKind.TheVariants.{Number}
use Rattle.c_consts.specs.passed.core_tree.Rows.{int}
use Rattle.c_inits.specs.passed.c_grammar.Productions.{p_type_name, p_expression, p_assignment, p_conditional}
use Rattle.c_inits.specs.passed.c_grammar.Productions.{p_logical_or, p_logical_and, p_inclusive_or, p_exclusive_or}
use Rattle.c_inits.specs.passed.c_grammar.Productions.{p_and, p_equality, p_relational, p_shift, p_additive}
use Rattle.c_inits.specs.passed.c_grammar.Productions.{p_multiplicative, p_cast, p_unary, p_post, p_primary}
use Rattle.c_inits.specs.passed.c_grammar.Words.{word_sizeof, word_alignof, sign_left_bracket}
use Rattle.c_inits.specs.passed.c_grammar.Words.{sign_left_parenthesis, sign_dot, sign_arrow, sign_increment}
use Rattle.c_inits.specs.passed.c_grammar.Words.{sign_decrement, sign_ampersand, sign_star, sign_plus, sign_minus}
use Rattle.c_inits.specs.passed.c_grammar.Words.{sign_tilde, sign_exclamation, sign_assign}
use Rattle.c_consts.specs.Core.{Core, ctype_of, core_sort, leaf}
use Rattle.c_senses.specs.Tree.{Source, is_a, is_leaf, place_at, spelling_at, kind_at, sign_at, last_where}
use Rattle.c_senses.specs.Tree.{all_where, left_of}
use Rattle.c_senses.specs.Given.{Given, Fits, Refuses, ◌>>=◌, given_some}
use Rattle.c_senses.specs.World.{World}
use Rattle.c_senses.specs.Literals.{value_of_integer, type_of_integer, value_of_character, bytes_of_string}
use Rattle.c_senses.specs.Conversions.{operand_of, value_of}
use Rattle.c_senses.specs.Operators.{Between, between, operator, number_core, promoted_row, not_row, choice_row}
use Rattle.c_senses.specs.Objects.{text_core, name_row, address_row, indirection_row, index_row, member_row}
use Rattle.c_senses.specs.Objects.{arrow_row, assign_row, assigned_op, update_row, call_row, cast_row, size_row}
use Rattle.c_senses.specs.Objects.{align_row, sized_expression, start_row, copy_row, next_row, end_row}
use Rattle.c_senses.specs.Sense.{Sense, core_of, value_in, type_of_sense, fits, last_of}

abbrev pub as_sense : Given Core → Given Sense
as_sense g = g >>= fits

-- 6.5.2.1: an index over the senses of its parts
abbrev pub indexed_core : World → Place → ℕ → Sense → Sense → Given Core
indexed_core w place at left right =
    value_in w at left >>=
    (λ a. value_in w at right >>=
    (λ b. index_row w place at a b (operand_of (ctype_of a)) (operand_of (ctype_of b))))

-- 6.5.3.2, 6.5.3.3: an operator before its operand that changes nothing
abbrev pub is_operator : ℕ → Bool
is_operator sign =
    (sign == sign_ampersand)
    || ((sign == sign_star)
    || ((sign == sign_plus)
    || ((sign == sign_minus) || ((sign == sign_tilde) || (sign == sign_exclamation)))))

abbrev pub value_core : World → Place → ℕ → Core → ℕ → Given Core
value_core w place at v sign =
    if sign == sign_star then indirection_row place at v (operand_of (ctype_of v))
    else if sign == sign_plus then promoted_row w Plus place at v (operand_of (ctype_of v))
    else if sign == sign_minus then promoted_row w Minus place at v (operand_of (ctype_of v))
    else if sign == sign_tilde then promoted_row w Complement place at v (operand_of (ctype_of v))
    else not_row place at v

abbrev pub operator_core : World → Place → ℕ → Core → ℕ → Given Core
operator_core w place at x sign =
    if sign == sign_ampersand then address_row w place at x (core_sort x)
    else (value_of w at x >>= (λ v. value_core w place at v sign))

-- a production with one part has its part's sense
abbrev pub passed : (ℕ → Sense) → ℕ → List ℕ → Given Sense
passed sense at [] = Refuses Operand at
passed sense at (c ∷ rest) = Fits (sense c)

-- 6.5.5 to 6.5.14, 6.5.17: operators between operands, from the left, by what an operator makes of two values.
-- Where there are several, the one that doesn't fit is named, and else the node itself.
module _ (w : World) (s : Source) (sense : ℕ → Sense) (join : Between → Place → ℕ → Core → Core → Given Core) where
  abbrev pub named_of : ℕ → ℕ → Bool → ℕ
  named_of at operator_leaf single = if single then at else operator_leaf

  abbrev pub step : ℕ → ℕ → Core → Core → Option ℕ → Given Core
  step named operator_leaf a b None = Refuses Operand named
  step named operator_leaf a b (Some sign) =
      value_of w named a >>= (λ x. value_of w named b >>= join (operator sign) (place_at s operator_leaf) named x)

  abbrev pub chained : ℕ → Bool → Core → List ℕ → Given Core
  chained at single left [] = Fits left
  chained at single left (o ∷ []) = Refuses Operand at
  chained at single left (o ∷ c ∷ rest) =
      core_of (named_of at o single) (sense c) >>=
      (λ b. step (named_of at o single) o left b (sign_at s o) >>= (λ x. chained at single x rest))

  abbrev pub is_single : List ℕ → Bool
  is_single (o ∷ c ∷ []) = true
  is_single rest = false

  abbrev pub binary_of : ℕ → ℕ → List ℕ → Given Sense
  binary_of at first [] = Fits (sense first)
  binary_of at first (o ∷ rest) =
      as_sense (core_of at (sense first) >>= (λ a. chained at (is_single (o ∷ rest)) a (o ∷ rest)))

  abbrev pub binary_row : ℕ → List ℕ → Given Sense
  binary_row at [] = Refuses Operand at
  binary_row at (first ∷ rest) = binary_of at first rest

module _ (w : World) (s : Source) (sense : ℕ → Sense) where
  -- 6.5.1: the bytes of string literals side by side are those of one
  abbrev pub string_bytes : List ℕ → List ℕ
  string_bytes leaves = flat_map (λ i. bytes_of_string (spelling_at s i)) leaves

  -- 7.16.1: operations on variadic lists, by their parts and how they are named
  abbrev pub two_lists : ℕ → Place → List ℕ → Core → Core → Given Core
  two_lists at place name a b =
      if bytes_eq name (codes "__builtin_va_copy") then copy_row w place at a b else start_row w place at a b

  abbrev pub list_core : ℕ → Place → List ℕ → List ℕ → Given Core
  list_core at place name (a ∷ []) = core_of at (sense a) >>= end_row w place at
  list_core at place name (a ∷ b ∷ []) =
      if is_a s p_type_name b
      then (core_of at (sense a) >>= (λ x. type_of_sense at (sense b) >>= next_row place at x))
      else (core_of at (sense a) >>= (λ x. core_of at (sense b) >>= two_lists at place name x))
  list_core at place name parts = Refuses Operand at

  abbrev pub list_row : ℕ → ℕ → List ℕ → Given Sense
  list_row at first rest =
      as_sense
      (list_core at (place_at s first) (spelling_at s first) (all_where (λ c. not (is_leaf s c)) rest))

  -- a name alone, or with the parts of an operation on variadic lists
  abbrev pub named_primary : ℕ → ℕ → List ℕ → Given Sense
  named_primary at first [] = as_sense (name_row w (place_at s first) at (w.meaning first))
  named_primary at first (c ∷ rest) = list_row at first (c ∷ rest)

  abbrev pub primary_of : ℕ → ℕ → List ℕ → TokenKind → Given Sense
  primary_of at first rest Identifier = named_primary at first rest
  primary_of at first rest Integer =
      fits
      (leaf (Number (pos (value_of_integer (spelling_at s first)))) (place_at s first)
      (type_of_integer (spelling_at s first)))
  primary_of at first rest Character =
      fits (leaf (Number (value_of_character (spelling_at s first))) (place_at s first) int)
  primary_of at first rest Text = fits (text_core (place_at s first) (string_bytes (first ∷ rest)))
  primary_of at first rest (Punctuator p) = passed sense at rest
  primary_of at first rest (Keyword k) = Refuses Operand at
  primary_of at first rest Floating = Refuses Operand at
  primary_of at first rest End = Refuses Operand at

  abbrev pub primary_row : ℕ → List ℕ → Given Sense
  primary_row at [] = Refuses Operand at
  primary_row at (first ∷ rest) = primary_of at first rest (kind_at s first)

  -- 6.5.2: what follows a primary stands over what is to its left
  abbrev pub indexed : Place → ℕ → Sense → List ℕ → Given Sense
  indexed place at left [] = Refuses Operand at
  indexed place at left (e ∷ rest) = as_sense (indexed_core w place at left (sense e))

  abbrev pub dotted : Place → ℕ → Sense → List ℕ → Given Sense
  dotted place at left [] = Refuses Operand at
  dotted place at left (name ∷ rest) = as_sense (core_of at left >>= member_row w place at (spelling_at s name))

  abbrev pub pointed : Place → ℕ → Sense → List ℕ → Given Sense
  pointed place at left [] = Refuses Operand at
  pointed place at left (name ∷ rest) =
      as_sense (value_in w at left >>= (λ v. arrow_row w place at (spelling_at s name) v (operand_of (ctype_of v))))

  abbrev pub all_cores : ℕ → List ℕ → Given (List Core)
  all_cores at [] = Fits []
  all_cores at (c ∷ rest) = core_of at (sense c) >>= (λ x. all_cores at rest >>= (λ more. Fits (x ∷ more)))

  abbrev pub called : Place → ℕ → Sense → List ℕ → Given Sense
  called place at left rest =
      as_sense
      (core_of at left >>=
      (λ f. all_cores at (all_where (λ c. not (is_leaf s c)) rest) >>= call_row w place at f))

  abbrev pub counted_after : Place → ℕ → Sense → Bool → Given Sense
  counted_after place at left down =
      as_sense
      (core_of at left >>=
      (λ p. update_row w (if down then Minus else Plus) true place at p (number_core 1 place)))

  abbrev pub post_of : Place → ℕ → Sense → List ℕ → ℕ → Given Sense
  post_of place at left rest sign =
      if sign == sign_left_bracket then indexed place at left rest
      else if sign == sign_left_parenthesis then called place at left rest
      else if sign == sign_dot then dotted place at left rest
      else if sign == sign_arrow then pointed place at left rest
      else if sign == sign_increment then counted_after place at left false
      else if sign == sign_decrement then counted_after place at left true
      else Refuses Operand at

  abbrev pub post_signed : Place → ℕ → Sense → List ℕ → Option ℕ → Given Sense
  post_signed place at left rest None = Refuses Operand at
  post_signed place at left rest (Some sign) = post_of place at left rest sign

  abbrev pub post_row : ℕ → List ℕ → Given Sense
  post_row at [] = Refuses Operand at
  post_row at (first ∷ rest) = post_signed (place_at s first) at (sense (left_of s first)) rest (sign_at s first)

  -- 6.5.3: an operator before its operand, sizeof and _Alignof, or a primary with what follows it
  abbrev pub counted_before : Place → ℕ → Core → Bool → Given Core
  counted_before place at p down =
      update_row w (if down then Minus else Plus) false place at p (number_core 1 place)

  abbrev pub prefixed_core : Place → ℕ → Core → ℕ → Given Core
  prefixed_core place at x sign =
      if is_operator sign then operator_core w place at x sign
      else if sign == sign_increment then counted_before place at x false
      else if sign == sign_decrement then counted_before place at x true
      else Refuses Operand at

  abbrev pub prefixed : Place → ℕ → ℕ → List ℕ → Given Sense
  prefixed place at sign [] = Refuses Operand at
  prefixed place at sign (operand ∷ rest) =
      as_sense (core_of at (sense operand) >>= (λ x. prefixed_core place at x sign))

  -- the operand of sizeof is its last part: a type, or an expression
  abbrev pub sized : Place → ℕ → Option ℕ → Given Sense
  sized place at None = Refuses Operand at
  sized place at (Some c) =
      if is_a s p_type_name c then as_sense (type_of_sense at (sense c) >>= size_row w place at)
      else as_sense (core_of at (sense c) >>= sized_expression w place at)

  abbrev pub aligned : Place → ℕ → Option ℕ → Given Sense
  aligned place at None = Refuses Operand at
  aligned place at (Some c) = as_sense (type_of_sense at (sense c) >>= align_row w place at)

  abbrev pub worded : Place → ℕ → List ℕ → ℕ → Given Sense
  worded place at rest word =
      if word == word_sizeof then sized place at (last_where (λ c. not (is_leaf s c)) rest)
      else if word == word_alignof then aligned place at (last_where (λ c. not (is_leaf s c)) rest)
      else Refuses Operand at

  abbrev pub unary_of : ℕ → ℕ → List ℕ → Bool → TokenKind → Given Sense
  unary_of at first rest false kind = Fits (sense (last_of first rest))
  unary_of at first rest true (Punctuator p) = prefixed (place_at s first) at p rest
  unary_of at first rest true (Keyword k) = worded (place_at s first) at rest k
  unary_of at first rest true kind = Refuses Operand at

  abbrev pub unary_row : ℕ → List ℕ → Given Sense
  unary_row at [] = Refuses Operand at
  unary_row at (first ∷ rest) = unary_of at first rest (is_leaf s first) (kind_at s first)

  -- 6.5.4: a unary expression, a cast, or a compound literal with what follows it
  abbrev pub cast_over : ℕ → List ℕ → ℕ → Given Sense
  cast_over at rest c =
      if is_a s p_cast c
      then as_sense
      (elim rest [
        | [] ↦ Refuses Operand at
        | t
            ∷ more ↦ type_of_sense at (sense t) >>=
            (λ type. core_of at (sense c) >>= (λ x. cast_row w at x type))
      ])
      else Fits (sense c)

  abbrev pub cast_last : ℕ → List ℕ → Option ℕ → Given Sense
  cast_last at rest None = Refuses Operand at
  cast_last at rest (Some c) = cast_over at rest c

  abbrev pub cast_of : ℕ → ℕ → List ℕ → Bool → Given Sense
  cast_of at first rest false = Fits (sense first)
  cast_of at first rest true = cast_last at rest (last_where (λ c. not (is_leaf s c)) rest)

  abbrev pub cast_row_of : ℕ → List ℕ → Given Sense
  cast_row_of at [] = Refuses Operand at
  cast_row_of at (first ∷ rest) = cast_of at first rest (is_leaf s first)

  -- 6.5.15
  abbrev pub conditional_row : ℕ → List ℕ → Given Sense
  conditional_row at (c ∷ []) = Fits (sense c)
  conditional_row at (c ∷ question ∷ a ∷ colon ∷ b ∷ []) =
      as_sense
      (value_in w at (sense c) >>=
      (λ x. value_in w at (sense a) >>=
      (λ y. value_in w at (sense b) >>= choice_row w (place_at s question) at x y)))
  conditional_row at children = Refuses Operand at

  -- 6.5.16
  abbrev pub assigned : ℕ → ℕ → Core → Core → ℕ → Given Core
  assigned at o p b sign =
      if sign == sign_assign then (value_of w at b >>= assign_row w (place_at s o) at p)
      else
      (given_some (assigned_op sign) Operand at >>=
      (λ op. value_of w at b >>= update_row w op false (place_at s o) at p))

  abbrev pub assigned_by : ℕ → ℕ → Core → Core → Option ℕ → Given Core
  assigned_by at o p b None = Refuses Operand at
  assigned_by at o p b (Some sign) = assigned at o p b sign

  abbrev pub assignment_row : ℕ → List ℕ → Given Sense
  assignment_row at (c ∷ []) = Fits (sense c)
  assignment_row at (p ∷ o ∷ v ∷ []) =
      as_sense (core_of at (sense p) >>= (λ a. core_of at (sense v) >>= (λ b. assigned_by at o a b (sign_at s o))))
  assignment_row at children = Refuses Operand at

  abbrev pub is_binary : ℕ → Bool
  is_binary production =
      (production == p_expression) || (production == p_logical_or) || (production == p_logical_and)
      || (production == p_inclusive_or)
      || (production == p_exclusive_or) || (production == p_and) || (production == p_equality)
      || (production == p_relational)
      || (production == p_shift) || (production == p_additive) || (production == p_multiplicative)

  -- the row of an expression's production
  abbrev pub expression_row : ℕ → ℕ → List ℕ → Given Sense
  expression_row production at children =
      if production == p_primary then primary_row at children
      else if production == p_post then post_row at children
      else if production == p_unary then unary_row at children
      else if production == p_cast then cast_row_of at children
      else if production == p_conditional then conditional_row at children
      else if production == p_assignment then assignment_row at children
      else if is_binary production then binary_row w s sense (between w) at children
      else Refuses Operand at
