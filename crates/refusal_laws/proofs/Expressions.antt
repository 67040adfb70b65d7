-- Rows of expressions.
use Rattle.std.specs.Str.{bytes_eq}
use Rattle.std.proofs.Common.{◌==◌, ℕ, Bool, true, false, not, List, [], ◌∷◌, Option, Some, None}
use Rattle.std.specs.Prelude.{if◌then◌else◌, codes}
use Rattle.pta_base.specs.declared.kind.Kind.TheVariants.{Operand}
use Rattle.pta_base.specs.declared.place.Place.{Place}
use Rattle.core_tree.specs.declared.node.Op.TheVariants.{Plus, Minus, Complement}
use Rattle.c_lexer.specs.declared.TokenKind.{TokenKind}
use Rattle.c_lexer.specs.declared.TokenKind.TheVariants.{Identifier, Integer, Character, Text, Punctuator, Keyword, Floating, End}
use Rattle.c_grammar.specs.Productions.{p_primary, p_post, p_unary, p_cast, p_conditional, p_assignment, p_type_name}
use Rattle.c_grammar.specs.Words.{sign_left_bracket, sign_left_parenthesis, sign_dot, sign_arrow, sign_increment, sign_decrement, sign_ampersand, sign_star, sign_plus, sign_minus, sign_tilde, sign_assign, word_sizeof, word_alignof}
use Rattle.c_consts.specs.Core.{Core, core_sort, ctype_of}
use Rattle.c_senses.specs.Tree.{Source, is_a, is_leaf, kind_at, sign_at, spelling_at, place_at, last_where, all_where, left_of}
use Rattle.c_senses.specs.Given.{Given, Fits, Refuses, ◌>>=◌}
use Rattle.c_senses.specs.World.{World}
use Rattle.c_senses.specs.Sense.{Sense, core_of, value_in, type_of_sense, fits}
use Rattle.c_senses.specs.Conversions.{operand_of, value_of}
use Rattle.c_senses.specs.Operators.{operator, between, choice_row, number_core}
use Rattle.c_senses.specs.Objects.{name_row, member_row, arrow_row, call_row, update_row, cast_row, size_row, align_row, sized_expression, assign_row, assigned_op, start_row, copy_row, next_row, end_row}
use Rattle.c_senses.specs.Expressions.{as_sense, indexed_core, is_operator, value_core, operator_core, passed, step, chained, is_single, named_of, binary_row, primary_of, primary_row, indexed, dotted, pointed, all_cores, called, counted_after, post_of, post_signed, post_row, prefixed_core, prefixed, sized, aligned, worded, unary_of, unary_row, cast_last, cast_of, cast_row_of, conditional_row, assigned, assigned_by, assignment_row, is_binary, expression_row, two_lists, list_core}
use Rattle.refusal_laws.specs.Refusals.{IsBuilt}
use Rattle.refusal_laws.proofs.Steps.{then_built, some_built, either_built}
use Rattle.refusal_laws.proofs.Values.{value_built, core_built, value_in_built, type_built, between_built, promoted_built, not_built, choice_built, name_built, address_built, indirection_built, index_built, member_built, arrow_built, assign_built, update_built, call_built, cast_built, size_built, align_built, sized_built, start_built, copy_built, next_built, end_built}

pub sense_built : (g : Given Core) → IsBuilt g → IsBuilt (as_sense g)
sense_built g h = then_built {B = Sense} g fits h (λ c. tt)

module _ (w : World) (s : Source) (sense : ℕ → Sense) where
  core_at : (at c : ℕ) → IsBuilt (core_of at (sense c))
  core_at at c = core_built at (sense c)

  step_built : (named o : ℕ) (a b : Core) (sign : Option ℕ) → IsBuilt (step w s sense (between w) named o a b sign)
  step_built named o a b None = tt
  step_built named o a b (Some sign) =
      then_built {B = Core} (value_of w named a) _ (value_built w named a)
      (λ x. then_built {B = Core} (value_of w named b) _ (value_built w named b) (λ y. between_built w (operator sign) (place_at s o) named x y))

  chained_built : (at : ℕ) (single : Bool) (left : Core) (rest : List ℕ) → IsBuilt (chained w s sense (between w) at single left rest)
  chained_built at single left [] = tt
  chained_built at single left (o ∷ []) = tt
  chained_built at single left (o ∷ c ∷ rest) = go (λ x. chained_built at single x rest)
    where
      go : ((x : Core) → IsBuilt (chained w s sense (between w) at single x rest)) → IsBuilt (chained w s sense (between w) at single left (o ∷ c ∷ rest))
      go h =
          let named = named_of w s sense (between w) at o single in
          then_built {B = Core} (core_of named (sense c)) _ (core_at named c)
          (λ b. then_built {B = Core} (step w s sense (between w) named o left b (sign_at s o)) _ (step_built named o left b (sign_at s o)) h)

  binary_built : (at : ℕ) (xs : List ℕ) → IsBuilt (binary_row w s sense (between w) at xs)
  binary_built at [] = tt
  binary_built at (c ∷ []) = tt
  binary_built at (c ∷ o ∷ rest) =
      let single = is_single w s sense (between w) (o ∷ rest) in
      sense_built (core_of at (sense c) >>= (λ a. chained w s sense (between w) at single a (o ∷ rest)))
      (then_built {B = Core} (core_of at (sense c)) (λ a. chained w s sense (between w) at single a (o ∷ rest)) (core_at at c) (λ a. chained_built at single a (o ∷ rest)))

  passed_built : (at : ℕ) (xs : List ℕ) → IsBuilt (passed sense at xs)
  passed_built at [] = tt
  passed_built at (c ∷ rest) = tt

  two_lists_built : (at : ℕ) (place : Place) (name : List ℕ) (a b : Core) → IsBuilt (two_lists w s sense at place name a b)
  two_lists_built at place name a b = by (bytes_eq name (codes "__builtin_va_copy"))
    where
      by : (t : Bool) → IsBuilt (if t then copy_row w place at a b else start_row w place at a b)
      by true = copy_built w place at a b
      by false = start_built w place at a b

  pair_built : (at : ℕ) (place : Place) (name : List ℕ) (a b : ℕ) → IsBuilt (list_core w s sense at place name (a ∷ b ∷ []))
  pair_built at place name a b = by (is_a s p_type_name b)
    where
      by : (t : Bool) → IsBuilt (if t then (core_of at (sense a) >>= (λ x. type_of_sense at (sense b) >>= next_row place at x)) else (core_of at (sense a) >>= (λ x. core_of at (sense b) >>= two_lists w s sense at place name x)))
      by true =
          then_built {B = Core} (core_of at (sense a)) (λ x. type_of_sense at (sense b) >>= next_row place at x) (core_at at a)
          (λ x. then_built {B = Core} (type_of_sense at (sense b)) (next_row place at x) (type_built at (sense b)) (λ t. next_built place at x t))
      by false =
          then_built {B = Core} (core_of at (sense a)) (λ x. core_of at (sense b) >>= two_lists w s sense at place name x) (core_at at a)
          (λ x. then_built {B = Core} (core_of at (sense b)) (two_lists w s sense at place name x) (core_at at b) (λ y. two_lists_built at place name x y))

  list_core_built : (at : ℕ) (place : Place) (name : List ℕ) (parts : List ℕ) → IsBuilt (list_core w s sense at place name parts)
  list_core_built at place name [] = tt
  list_core_built at place name (a ∷ []) = then_built {B = Core} (core_of at (sense a)) (end_row w place at) (core_at at a) (λ x. end_built w place at x)
  list_core_built at place name (a ∷ b ∷ []) = pair_built at place name a b
  list_core_built at place name (a ∷ b ∷ c ∷ rest) = tt

  primary_by : (at first : ℕ) (rest : List ℕ) (kind : TokenKind) → IsBuilt (primary_of w s sense at first rest kind)
  primary_by at first [] Identifier = sense_built (name_row w (place_at s first) at (w.meaning first)) (name_built w (place_at s first) at (w.meaning first))
  primary_by at first (c ∷ rest) Identifier =
      sense_built (list_core w s sense at (place_at s first) (spelling_at s first) (all_where (λ i. not (is_leaf s i)) (c ∷ rest)))
      (list_core_built at (place_at s first) (spelling_at s first) (all_where (λ i. not (is_leaf s i)) (c ∷ rest)))
  primary_by at first rest Integer = tt
  primary_by at first rest Character = tt
  primary_by at first rest Text = tt
  primary_by at first rest (Punctuator p) = passed_built at rest
  primary_by at first rest (Keyword k) = tt
  primary_by at first rest Floating = tt
  primary_by at first rest End = tt

  primary_built : (at : ℕ) (xs : List ℕ) → IsBuilt (primary_row w s sense at xs)
  primary_built at [] = tt
  primary_built at (first ∷ rest) = primary_by at first rest (kind_at s first)

  indexed_built : (place : Place) (at : ℕ) (left : Sense) (xs : List ℕ) → IsBuilt (indexed w s sense place at left xs)
  indexed_built place at left [] = tt
  indexed_built place at left (e ∷ rest) =
      sense_built (indexed_core w place at left (sense e))
      (then_built {B = Core} (value_in w at left) _ (value_in_built w at left)
      (λ a. then_built {B = Core} (value_in w at (sense e)) _ (value_in_built w at (sense e)) (λ b. index_built w place at a b (operand_of (ctype_of a)) (operand_of (ctype_of b)))))

  dotted_built : (place : Place) (at : ℕ) (left : Sense) (xs : List ℕ) → IsBuilt (dotted w s sense place at left xs)
  dotted_built place at left [] = tt
  dotted_built place at left (name ∷ rest) =
      sense_built (core_of at left >>= member_row w place at (spelling_at s name)) (then_built {B = Core} (core_of at left) (member_row w place at (spelling_at s name)) (core_built at left) (λ c. member_built w place at (spelling_at s name) c))

  pointed_built : (place : Place) (at : ℕ) (left : Sense) (xs : List ℕ) → IsBuilt (pointed w s sense place at left xs)
  pointed_built place at left [] = tt
  pointed_built place at left (name ∷ rest) =
      sense_built (value_in w at left >>= (λ v. arrow_row w place at (spelling_at s name) v (operand_of (ctype_of v))))
      (then_built {B = Core} (value_in w at left) (λ v. arrow_row w place at (spelling_at s name) v (operand_of (ctype_of v))) (value_in_built w at left) (λ v. arrow_built w place at (spelling_at s name) v (operand_of (ctype_of v))))

  cores_built : (at : ℕ) (xs : List ℕ) → IsBuilt (all_cores w s sense at xs)
  cores_built at [] = tt
  cores_built at (c ∷ rest) = go (cores_built at rest)
    where
      go : IsBuilt (all_cores w s sense at rest) → IsBuilt (all_cores w s sense at (c ∷ rest))
      go h = then_built {B = List Core} (core_of at (sense c)) _ (core_at at c) (λ x. then_built {B = List Core} (all_cores w s sense at rest) _ h (λ more. tt))

  called_built : (place : Place) (at : ℕ) (left : Sense) (xs : List ℕ) → IsBuilt (called w s sense place at left xs)
  called_built place at left xs =
      let cs = all_where (λ c. not (is_leaf s c)) xs in
      sense_built (core_of at left >>= (λ f. all_cores w s sense at cs >>= call_row w place at f))
      (then_built {B = Core} (core_of at left) (λ f. all_cores w s sense at cs >>= call_row w place at f) (core_built at left)
      (λ f. then_built {B = Core} (all_cores w s sense at cs) (call_row w place at f) (cores_built at cs) (λ args. call_built w place at f args)))

  after_built : (place : Place) (at : ℕ) (left : Sense) (down : Bool) → IsBuilt (counted_after w s sense place at left down)
  after_built place at left down =
      sense_built (core_of at left >>= (λ p. update_row w (if down then Minus else Plus) true place at p (number_core 1 place)))
      (then_built {B = Core} (core_of at left) (λ p. update_row w (if down then Minus else Plus) true place at p (number_core 1 place)) (core_built at left)
      (λ p. update_built w (if down then Minus else Plus) true place at p (number_core 1 place)))

  post_by : (place : Place) (at : ℕ) (left : Sense) (rest : List ℕ) (sign : ℕ) → IsBuilt (post_of w s sense place at left rest sign)
  post_by place at left rest sign =
      either_built {A = Sense} (sign == sign_left_bracket) _ _ (indexed_built place at left rest)
      (either_built {A = Sense} (sign == sign_left_parenthesis) _ _ (called_built place at left rest)
      (either_built {A = Sense} (sign == sign_dot) _ _ (dotted_built place at left rest)
      (either_built {A = Sense} (sign == sign_arrow) _ _ (pointed_built place at left rest)
      (either_built {A = Sense} (sign == sign_increment) _ _ (after_built place at left false)
      (either_built {A = Sense} (sign == sign_decrement) _ (Refuses Operand at) (after_built place at left true) tt)))))

  signed_built : (place : Place) (at : ℕ) (left : Sense) (rest : List ℕ) (o : Option ℕ) → IsBuilt (post_signed w s sense place at left rest o)
  signed_built place at left rest None = tt
  signed_built place at left rest (Some sign) = post_by place at left rest sign

  post_built : (at : ℕ) (xs : List ℕ) → IsBuilt (post_row w s sense at xs)
  post_built at [] = tt
  post_built at (first ∷ rest) = signed_built (place_at s first) at (sense (left_of s first)) rest (sign_at s first)

  value_core_built : (place : Place) (at : ℕ) (v : Core) (sign : ℕ) → IsBuilt (value_core w place at v sign)
  value_core_built place at v sign =
      let x = operand_of (ctype_of v) in
      either_built {A = Core} (sign == sign_star) _ _ (indirection_built place at v x)
      (either_built {A = Core} (sign == sign_plus) _ _ (promoted_built w Plus place at v x)
      (either_built {A = Core} (sign == sign_minus) _ _ (promoted_built w Minus place at v x)
      (either_built {A = Core} (sign == sign_tilde) _ _ (promoted_built w Complement place at v x) (not_built place at v))))

  operator_built : (place : Place) (at : ℕ) (x : Core) (sign : ℕ) → IsBuilt (operator_core w place at x sign)
  operator_built place at x sign =
      either_built {A = Core} (sign == sign_ampersand) _ _ (address_built w place at x (core_sort x))
      (then_built {B = Core} (value_of w at x) (λ v. value_core w place at v sign) (value_built w at x) (λ v. value_core_built place at v sign))

  prefixed_by : (place : Place) (at : ℕ) (x : Core) (sign : ℕ) → IsBuilt (prefixed_core w s sense place at x sign)
  prefixed_by place at x sign =
      either_built {A = Core} (is_operator sign) _ _ (operator_built place at x sign)
      (either_built {A = Core} (sign == sign_increment) _ _ (update_built w Plus false place at x (number_core 1 place))
      (either_built {A = Core} (sign == sign_decrement) _ (Refuses Operand at) (update_built w Minus false place at x (number_core 1 place)) tt))

  prefixed_built : (place : Place) (at sign : ℕ) (xs : List ℕ) → IsBuilt (prefixed w s sense place at sign xs)
  prefixed_built place at sign [] = tt
  prefixed_built place at sign (operand ∷ rest) =
      sense_built (core_of at (sense operand) >>= (λ x. prefixed_core w s sense place at x sign))
      (then_built {B = Core} (core_of at (sense operand)) (λ x. prefixed_core w s sense place at x sign) (core_at at operand) (λ x. prefixed_by place at x sign))

  sized_by : (place : Place) (at : ℕ) (o : Option ℕ) → IsBuilt (sized w s sense place at o)
  sized_by place at None = tt
  sized_by place at (Some c) =
      either_built {A = Sense} (is_a s p_type_name c) _ _
      (sense_built (type_of_sense at (sense c) >>= size_row w place at) (then_built {B = Core} (type_of_sense at (sense c)) (size_row w place at) (type_built at (sense c)) (λ t. size_built w place at t)))
      (sense_built (core_of at (sense c) >>= sized_expression w place at) (then_built {B = Core} (core_of at (sense c)) (sized_expression w place at) (core_at at c) (λ x. sized_built w place at x)))

  aligned_built : (place : Place) (at : ℕ) (o : Option ℕ) → IsBuilt (aligned w s sense place at o)
  aligned_built place at None = tt
  aligned_built place at (Some c) =
      sense_built (type_of_sense at (sense c) >>= align_row w place at) (then_built {B = Core} (type_of_sense at (sense c)) (align_row w place at) (type_built at (sense c)) (λ t. align_built w place at t))

  worded_built : (place : Place) (at : ℕ) (rest : List ℕ) (word : ℕ) → IsBuilt (worded w s sense place at rest word)
  worded_built place at rest word =
      either_built {A = Sense} (word == word_sizeof) _ _ (sized_by place at (last_where (λ c. not (is_leaf s c)) rest))
      (either_built {A = Sense} (word == word_alignof) _ (Refuses Operand at) (aligned_built place at (last_where (λ c. not (is_leaf s c)) rest)) tt)

  unary_by : (at first : ℕ) (rest : List ℕ) (b : Bool) (kind : TokenKind) → IsBuilt (unary_of w s sense at first rest b kind)
  unary_by at first rest false kind = tt
  unary_by at first rest true (Punctuator p) = prefixed_built (place_at s first) at p rest
  unary_by at first rest true (Keyword k) = worded_built (place_at s first) at rest k
  unary_by at first rest true Identifier = tt
  unary_by at first rest true Integer = tt
  unary_by at first rest true Character = tt
  unary_by at first rest true Text = tt
  unary_by at first rest true Floating = tt
  unary_by at first rest true End = tt

  unary_built : (at : ℕ) (xs : List ℕ) → IsBuilt (unary_row w s sense at xs)
  unary_built at [] = tt
  unary_built at (first ∷ rest) = unary_by at first rest (is_leaf s first) (kind_at s first)

  abbrev cast_parts : ℕ → List ℕ → ℕ → Given Core
  cast_parts at rest c = elim rest [ [] ↦ Refuses Operand at | t ∷ more ↦ type_of_sense at (sense t) >>= (λ type. core_of at (sense c) >>= (λ x. cast_row w at x type)) ]

  parts_built : (at : ℕ) (rest : List ℕ) (c : ℕ) → IsBuilt (cast_parts at rest c)
  parts_built at [] c = tt
  parts_built at (t ∷ more) c =
      then_built {B = Core} (type_of_sense at (sense t)) (λ type. core_of at (sense c) >>= (λ x. cast_row w at x type)) (type_built at (sense t))
      (λ type. then_built {B = Core} (core_of at (sense c)) (λ x. cast_row w at x type) (core_at at c) (λ x. cast_built w at x type))

  last_built : (at : ℕ) (rest : List ℕ) (o : Option ℕ) → IsBuilt (cast_last w s sense at rest o)
  last_built at rest None = tt
  last_built at rest (Some c) = either_built {A = Sense} (is_a s p_cast c) _ (Fits (sense c)) (sense_built (cast_parts at rest c) (parts_built at rest c)) tt

  cast_by : (at first : ℕ) (rest : List ℕ) (b : Bool) → IsBuilt (cast_of w s sense at first rest b)
  cast_by at first rest false = tt
  cast_by at first rest true = last_built at rest (last_where (λ c. not (is_leaf s c)) rest)

  cast_row_built : (at : ℕ) (xs : List ℕ) → IsBuilt (cast_row_of w s sense at xs)
  cast_row_built at [] = tt
  cast_row_built at (first ∷ rest) = cast_by at first rest (is_leaf s first)

  conditional_built : (at : ℕ) (xs : List ℕ) → IsBuilt (conditional_row w s sense at xs)
  conditional_built at [] = tt
  conditional_built at (c ∷ []) = tt
  conditional_built at (c ∷ q ∷ []) = tt
  conditional_built at (c ∷ q ∷ a ∷ []) = tt
  conditional_built at (c ∷ q ∷ a ∷ colon ∷ []) = tt
  conditional_built at (c ∷ q ∷ a ∷ colon ∷ b ∷ []) =
      sense_built (value_in w at (sense c) >>= (λ x. value_in w at (sense a) >>= (λ y. value_in w at (sense b) >>= choice_row w (place_at s q) at x y)))
      (then_built {B = Core} (value_in w at (sense c)) (λ x. value_in w at (sense a) >>= (λ y. value_in w at (sense b) >>= choice_row w (place_at s q) at x y)) (value_in_built w at (sense c))
      (λ x. then_built {B = Core} (value_in w at (sense a)) (λ y. value_in w at (sense b) >>= choice_row w (place_at s q) at x y) (value_in_built w at (sense a))
      (λ y. then_built {B = Core} (value_in w at (sense b)) (choice_row w (place_at s q) at x y) (value_in_built w at (sense b)) (λ z. choice_built w (place_at s q) at x y z))))
  conditional_built at (c ∷ q ∷ a ∷ colon ∷ b ∷ more ∷ rest) = tt

  assigned_built : (at o : ℕ) (p b : Core) (sign : ℕ) → IsBuilt (assigned w s sense at o p b sign)
  assigned_built at o p b sign =
      either_built {A = Core} (sign == sign_assign) _ _
      (then_built {B = Core} (value_of w at b) (assign_row w (place_at s o) at p) (value_built w at b) (λ v. assign_built w (place_at s o) at p v))
      (some_built {B = Core} (assigned_op sign) Operand at (λ op. value_of w at b >>= update_row w op false (place_at s o) at p) tt
      (λ op. then_built {B = Core} (value_of w at b) (update_row w op false (place_at s o) at p) (value_built w at b) (λ v. update_built w op false (place_at s o) at p v)))

  assigned_some : (at o : ℕ) (p b : Core) (sign : Option ℕ) → IsBuilt (assigned_by w s sense at o p b sign)
  assigned_some at o p b None = tt
  assigned_some at o p b (Some sign) = assigned_built at o p b sign

  assignment_built : (at : ℕ) (xs : List ℕ) → IsBuilt (assignment_row w s sense at xs)
  assignment_built at [] = tt
  assignment_built at (c ∷ []) = tt
  assignment_built at (p ∷ o ∷ []) = tt
  assignment_built at (p ∷ o ∷ v ∷ []) =
      sense_built (core_of at (sense p) >>= (λ a. core_of at (sense v) >>= (λ b. assigned_by w s sense at o a b (sign_at s o))))
      (then_built {B = Core} (core_of at (sense p)) (λ a. core_of at (sense v) >>= (λ b. assigned_by w s sense at o a b (sign_at s o))) (core_at at p)
      (λ a. then_built {B = Core} (core_of at (sense v)) (λ b. assigned_by w s sense at o a b (sign_at s o)) (core_at at v) (λ b. assigned_some at o a b (sign_at s o))))
  assignment_built at (p ∷ o ∷ v ∷ more ∷ rest) = tt

  pub expressions_built : (production at : ℕ) (xs : List ℕ) → IsBuilt (expression_row w s sense production at xs)
  expressions_built production at xs =
      either_built {A = Sense} (production == p_primary) _ _ (primary_built at xs)
      (either_built {A = Sense} (production == p_post) _ _ (post_built at xs)
      (either_built {A = Sense} (production == p_unary) _ _ (unary_built at xs)
      (either_built {A = Sense} (production == p_cast) _ _ (cast_row_built at xs)
      (either_built {A = Sense} (production == p_conditional) _ _ (conditional_built at xs)
      (either_built {A = Sense} (production == p_assignment) _ _ (assignment_built at xs)
      (either_built {A = Sense} (is_binary w s sense production) _ (Refuses Operand at) (binary_built at xs) tt))))))
