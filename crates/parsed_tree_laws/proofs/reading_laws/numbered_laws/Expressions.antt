-- The places of expressions.
use Rattle.std.specs.Prelude.{codes}
use Rattle.std.specs.Str.{bytes_eq}
use Rattle.std.proofs.Common.{◌≡◌, ◌==◌, ℕ, Bool, true, false, not, List, [], ◌∷◌, Option, Some, None, refl}
use Rattle.std.specs.Prelude.{⊤, is_none, if◌then◌else◌}
use Rattle.pta_base.specs.declared.kind.Kind.TheVariants.{Operand}
use Rattle.pta_base.specs.declared.place.Place.{Place}
use Rattle.c_lexer.specs.declared.Token.{Token}
use Rattle.c_lexer.specs.declared.TokenKind.{TokenKind}
use Rattle.c_lexer.specs.declared.TokenKind.TheVariants.{Identifier, Keyword, Punctuator, Integer, Character, Text}
use Rattle.core_tree.specs.declared.node.Op.TheVariants.{Plus, Minus, Complement}
use Rattle.c_grammar.specs.Productions.{p_type_name, p_conditional, p_assignment, p_cast, p_unary, p_post, p_primary}
use Rattle.c_grammar.specs.Words.{word_sizeof, word_alignof, sign_left_bracket, sign_left_parenthesis, sign_dot, sign_arrow, sign_increment, sign_decrement, sign_ampersand, sign_star, sign_plus, sign_minus, sign_tilde, sign_assign}
use Rattle.c_consts.specs.Core.{Core, ctype_of, core_sort}
use Rattle.c_senses.specs.Tree.{Source, is_a, is_leaf, place_of_token, token_at, place_at, spelling_at, kind_at, sign_at, last_where, all_where, left_of}
use Rattle.c_senses.specs.Given.{Given, Fits, Refuses, ◌>>=◌}
use Rattle.c_senses.specs.World.{World}
use Rattle.c_senses.specs.Conversions.{operand_of, value_of}
use Rattle.c_senses.specs.Operators.{between, operator, number_core, choice_row}
use Rattle.c_senses.specs.Objects.{name_row, index_row, member_row, arrow_row, assign_row, assigned_op, update_row, call_row, cast_row, size_row, align_row, named_width, sized_expression, next_row, end_row}
use Rattle.c_senses.specs.Sense.{Sense, IsCore, IsRun, IsInitial, core_of, value_in, type_of_sense, last_of}
use Rattle.c_senses.specs.Expressions.{as_sense, indexed_core, is_operator, value_core, operator_core, passed, named_of, step, chained, is_single, binary_row, primary_of, primary_row, indexed, dotted, pointed, all_cores, called, counted_after, post_of, post_signed, post_row, prefixed_core, prefixed, sized, aligned, worded, unary_of, unary_row, cast_over, cast_last, cast_of, cast_row_of, conditional_row, assigned, assigned_by, assignment_row, is_binary, expression_row, two_lists, list_core, list_row}
use Rattle.parsed_tree_laws.specs.reading_laws.numbered_laws.Numbered.{OfUnit}
use Rattle.parsed_tree_laws.proofs.reading_laws.numbered_laws.Giving.{Gives, then_gives, after, if_given, some_given, if_holds}
use Rattle.parsed_tree_laws.proofs.reading_laws.numbered_laws.Values.{value_kept}
use Rattle.parsed_tree_laws.proofs.reading_laws.numbered_laws.Operators.{AreOf, between_kept, promoted_kept, not_kept, choice_kept, name_kept, address_kept, indirection_kept, index_kept, member_kept, arrow_kept, assign_kept, update_kept, call_kept, cast_kept, size_kept, align_kept, start_kept, copy_kept, next_kept, end_kept}

-- each place of what a sense stands for is of that unit
abbrev pub OfSense : ℕ → Sense → Type 0
OfSense unit (IsCore c) = OfUnit unit c
OfSense unit (IsRun cores) = AreOf unit cores
OfSense unit (IsInitial c n) = OfUnit unit c
OfSense unit x = ⊤

pub token_unit : (unit : ℕ) (o : Option Token) → (place_of_token unit o).unit ≡ unit
token_unit unit None = refl
token_unit unit (Some t) = refl

pub at_unit : (s : Source) (i : ℕ) → (place_at s i).unit ≡ s.unit
at_unit s i = token_unit s.unit (token_at s i)

module _ (unit : ℕ) (w : World) where
  pub as_sense_kept : (g : Given Core) → Gives (OfUnit unit) g → Gives (OfSense unit) (as_sense g)
  as_sense_kept (Fits c) h = h
  as_sense_kept (Refuses kind node) h = tt

  pub core_kept : (at : ℕ) (x : Sense) → OfSense unit x → Gives (OfUnit unit) (core_of at x)
  core_kept at (IsCore c) h = h
  core_kept at x h = tt

  pub value_in_kept : (at : ℕ) (x : Sense) → OfSense unit x → Gives (OfUnit unit) (value_in w at x)
  value_in_kept at x h = then_gives (OfUnit unit) (OfUnit unit) (core_of at x) (value_of w at) (core_kept at x h) (λ c k. value_kept unit w at c k)

  indexed_core_kept : (place : Place) (at : ℕ) (x y : Sense) → place.unit ≡ unit → OfSense unit x → OfSense unit y → Gives (OfUnit unit) (indexed_core w place at x y)
  indexed_core_kept place at x y p h k =
      then_gives (OfUnit unit) (OfUnit unit) (value_in w at x) (λ a. value_in w at y >>= (λ b. index_row w place at a b (operand_of (ctype_of a)) (operand_of (ctype_of b)))) (value_in_kept at x h)
      (λ a l.
      then_gives (OfUnit unit) (OfUnit unit) (value_in w at y) (λ b. index_row w place at a b (operand_of (ctype_of a)) (operand_of (ctype_of b))) (value_in_kept at y k)
      (λ b m. index_kept unit w place at a b (operand_of (ctype_of a)) (operand_of (ctype_of b)) p l m))

  value_core_kept : (place : Place) (at : ℕ) (v : Core) (sign : ℕ) → place.unit ≡ unit → OfUnit unit v → Gives (OfUnit unit) (value_core w place at v sign)
  value_core_kept place at v sign p h =
      if_holds (Gives (OfUnit unit)) (sign == sign_star) _ _ (indirection_kept unit place at v (operand_of (ctype_of v)) p h)
      (if_holds (Gives (OfUnit unit)) (sign == sign_plus) _ _ (promoted_kept unit w Plus place at v (operand_of (ctype_of v)) p h)
      (if_holds (Gives (OfUnit unit)) (sign == sign_minus) _ _ (promoted_kept unit w Minus place at v (operand_of (ctype_of v)) p h)
      (if_holds (Gives (OfUnit unit)) (sign == sign_tilde) _ _ (promoted_kept unit w Complement place at v (operand_of (ctype_of v)) p h) (not_kept unit place at v p h))))

  operator_core_kept : (place : Place) (at : ℕ) (x : Core) (sign : ℕ) → place.unit ≡ unit → OfUnit unit x → Gives (OfUnit unit) (operator_core w place at x sign)
  operator_core_kept place at x sign p h =
      if_holds (Gives (OfUnit unit)) (sign == sign_ampersand) _ _ (address_kept unit w place at x (core_sort x) p h)
      (then_gives (OfUnit unit) (OfUnit unit) (value_of w at x) (λ v. value_core w place at v sign) (value_kept unit w at x h) (λ v k. value_core_kept place at v sign p k))

module _ (w : World) (s : Source) (sense : ℕ → Sense) (each : (i : ℕ) → OfSense s.unit (sense i)) where
  -- operators between operands
  step_kept : (named o : ℕ) (a b : Core) (sign : Option ℕ) → OfUnit s.unit a → OfUnit s.unit b → Gives (OfUnit s.unit) (step w s sense (between w) named o a b sign)
  step_kept named o a b None h k = tt
  step_kept named o a b (Some sign) h k =
      then_gives (OfUnit s.unit) (OfUnit s.unit) (value_of w named a) (λ x. value_of w named b >>= between w (operator sign) (place_at s o) named x) (value_kept s.unit w named a h)
      (λ x l.
      then_gives (OfUnit s.unit) (OfUnit s.unit) (value_of w named b) (between w (operator sign) (place_at s o) named x) (value_kept s.unit w named b k)
      (λ y m. between_kept s.unit w (operator sign) (place_at s o) named x y (at_unit s o) l m))

  chained_kept : (at : ℕ) (single : Bool) (left : Core) (list : List ℕ) → OfUnit s.unit left → Gives (OfUnit s.unit) (chained w s sense (between w) at single left list)
  chained_kept at single left [] h = h
  chained_kept at single left (o ∷ []) h = tt
  chained_kept at single left (o ∷ c ∷ rest) h =
      let named : ℕ = named_of w s sense (between w) at o single in
      then_gives (OfUnit s.unit) (OfUnit s.unit) (core_of named (sense c)) (λ b. step w s sense (between w) named o left b (sign_at s o) >>= (λ x. chained w s sense (between w) at single x rest)) (core_kept s.unit w named (sense c) (each c))
      (λ b k.
      then_gives (OfUnit s.unit) (OfUnit s.unit) (step w s sense (between w) named o left b (sign_at s o)) (λ x. chained w s sense (between w) at single x rest) (step_kept named o left b (sign_at s o) h k)
      (λ x q. chained_kept at single x rest q))

  binary_kept : (at : ℕ) (children : List ℕ) → Gives (OfSense s.unit) (binary_row w s sense (between w) at children)
  binary_kept at [] = tt
  binary_kept at (first ∷ []) = each first
  binary_kept at (first ∷ o ∷ rest) =
      as_sense_kept s.unit w (core_of at (sense first) >>= (λ a. chained w s sense (between w) at (is_single w s sense (between w) (o ∷ rest)) a (o ∷ rest)))
      (then_gives (OfUnit s.unit) (OfUnit s.unit) (core_of at (sense first)) (λ a. chained w s sense (between w) at (is_single w s sense (between w) (o ∷ rest)) a (o ∷ rest)) (core_kept s.unit w at (sense first) (each first))
      (λ a h. chained_kept at (is_single w s sense (between w) (o ∷ rest)) a (o ∷ rest) h))

  passed_kept : (at : ℕ) (children : List ℕ) → Gives (OfSense s.unit) (passed sense at children)
  passed_kept at [] = tt
  passed_kept at (c ∷ rest) = each c

  -- operations on variadic lists
  two_lists_kept : (at first : ℕ) (name : List ℕ) (a b : Core) → OfUnit s.unit a → OfUnit s.unit b → Gives (OfUnit s.unit) (two_lists w s sense at (place_at s first) name a b)
  two_lists_kept at first name a b h k =
      if_holds (Gives (OfUnit s.unit)) (bytes_eq name (codes "__builtin_va_copy")) _ _ (copy_kept s.unit w (place_at s first) at a b (at_unit s first) h k) (start_kept s.unit w (place_at s first) at a b (at_unit s first) h)

  list_core_kept : (at first : ℕ) (name : List ℕ) (parts : List ℕ) → Gives (OfUnit s.unit) (list_core w s sense at (place_at s first) name parts)
  list_core_kept at first name [] = tt
  list_core_kept at first name (a ∷ []) =
      then_gives (OfUnit s.unit) (OfUnit s.unit) (core_of at (sense a)) (end_row w (place_at s first) at) (core_kept s.unit w at (sense a) (each a)) (λ x h. end_kept s.unit w (place_at s first) at x (at_unit s first) h)
  list_core_kept at first name (a ∷ b ∷ []) =
      if_holds (Gives (OfUnit s.unit)) (is_a s p_type_name b) _ _
      (then_gives (OfUnit s.unit) (OfUnit s.unit) (core_of at (sense a)) _ (core_kept s.unit w at (sense a) (each a))
      (λ x h. after (OfUnit s.unit) (type_of_sense at (sense b)) (next_row (place_at s first) at x) (λ t. next_kept s.unit (place_at s first) at x t (at_unit s first) h)))
      (then_gives (OfUnit s.unit) (OfUnit s.unit) (core_of at (sense a)) _ (core_kept s.unit w at (sense a) (each a))
      (λ x h. then_gives (OfUnit s.unit) (OfUnit s.unit) (core_of at (sense b)) (two_lists w s sense at (place_at s first) name x) (core_kept s.unit w at (sense b) (each b)) (λ y k. two_lists_kept at first name x y h k)))
  list_core_kept at first name (a ∷ b ∷ c ∷ rest) = tt

  list_row_kept : (at first : ℕ) (rest : List ℕ) → Gives (OfSense s.unit) (list_row w s sense at first rest)
  list_row_kept at first rest =
      as_sense_kept s.unit w (list_core w s sense at (place_at s first) (spelling_at s first) (all_where (λ c. not (is_leaf s c)) rest))
      (list_core_kept at first (spelling_at s first) (all_where (λ c. not (is_leaf s c)) rest))

  primary_of_kept : (at first : ℕ) (rest : List ℕ) (kind : TokenKind) → Gives (OfSense s.unit) (primary_of w s sense at first rest kind)
  primary_of_kept at first [] Identifier = as_sense_kept s.unit w (name_row w (place_at s first) at (w.meaning first)) (name_kept s.unit w (place_at s first) at (w.meaning first) (at_unit s first))
  primary_of_kept at first (c ∷ rest) Identifier = list_row_kept at first (c ∷ rest)
  primary_of_kept at first rest Integer = (at_unit s first, tt)
  primary_of_kept at first rest Character = (at_unit s first, tt)
  primary_of_kept at first rest Text = (at_unit s first, tt)
  primary_of_kept at first rest (Punctuator p) = passed_kept at rest
  primary_of_kept at first rest kind = tt

  primary_kept : (at : ℕ) (children : List ℕ) → Gives (OfSense s.unit) (primary_row w s sense at children)
  primary_kept at [] = tt
  primary_kept at (first ∷ rest) = primary_of_kept at first rest (kind_at s first)

  -- what follows a primary
  indexed_kept : (place : Place) (at : ℕ) (left : Sense) (list : List ℕ) → place.unit ≡ s.unit → OfSense s.unit left → Gives (OfSense s.unit) (indexed w s sense place at left list)
  indexed_kept place at left [] p h = tt
  indexed_kept place at left (e ∷ rest) p h = as_sense_kept s.unit w (indexed_core w place at left (sense e)) (indexed_core_kept s.unit w place at left (sense e) p h (each e))

  dotted_kept : (place : Place) (at : ℕ) (left : Sense) (list : List ℕ) → place.unit ≡ s.unit → OfSense s.unit left → Gives (OfSense s.unit) (dotted w s sense place at left list)
  dotted_kept place at left [] p h = tt
  dotted_kept place at left (name ∷ rest) p h =
      as_sense_kept s.unit w (core_of at left >>= member_row w place at (spelling_at s name))
      (then_gives (OfUnit s.unit) (OfUnit s.unit) (core_of at left) (member_row w place at (spelling_at s name)) (core_kept s.unit w at left h) (λ c k. member_kept s.unit w place at (spelling_at s name) c p k))

  pointed_kept : (place : Place) (at : ℕ) (left : Sense) (list : List ℕ) → place.unit ≡ s.unit → OfSense s.unit left → Gives (OfSense s.unit) (pointed w s sense place at left list)
  pointed_kept place at left [] p h = tt
  pointed_kept place at left (name ∷ rest) p h =
      as_sense_kept s.unit w (value_in w at left >>= (λ v. arrow_row w place at (spelling_at s name) v (operand_of (ctype_of v))))
      (then_gives (OfUnit s.unit) (OfUnit s.unit) (value_in w at left) (λ v. arrow_row w place at (spelling_at s name) v (operand_of (ctype_of v))) (value_in_kept s.unit w at left h)
      (λ v k. arrow_kept s.unit w place at (spelling_at s name) v (operand_of (ctype_of v)) p k))

  all_cores_kept : (at : ℕ) (list : List ℕ) → Gives (AreOf s.unit) (all_cores w s sense at list)
  all_cores_kept at [] = tt
  all_cores_kept at (c ∷ rest) =
      then_gives (OfUnit s.unit) (AreOf s.unit) (core_of at (sense c)) (λ x. all_cores w s sense at rest >>= (λ more. Fits (x ∷ more))) (core_kept s.unit w at (sense c) (each c))
      (λ x h. then_gives (AreOf s.unit) (AreOf s.unit) (all_cores w s sense at rest) (λ more. Fits (x ∷ more)) (all_cores_kept at rest) (λ more k. (h, k)))

  called_kept : (place : Place) (at : ℕ) (left : Sense) (rest : List ℕ) → place.unit ≡ s.unit → OfSense s.unit left → Gives (OfSense s.unit) (called w s sense place at left rest)
  called_kept place at left rest p h =
      let list : List ℕ = all_where (λ c. not (is_leaf s c)) rest in
      as_sense_kept s.unit w (core_of at left >>= (λ f. all_cores w s sense at list >>= call_row w place at f))
      (then_gives (OfUnit s.unit) (OfUnit s.unit) (core_of at left) (λ f. all_cores w s sense at list >>= call_row w place at f) (core_kept s.unit w at left h)
      (λ f k. then_gives (AreOf s.unit) (OfUnit s.unit) (all_cores w s sense at list) (call_row w place at f) (all_cores_kept at list) (λ args l. call_kept s.unit w place at f args p k l)))

  counted_kept : (post : Bool) (place : Place) (at : ℕ) (q : Core) (down : Bool) → place.unit ≡ s.unit → OfUnit s.unit q → Gives (OfUnit s.unit) (update_row w (if down then Minus else Plus) post place at q (number_core 1 place))
  counted_kept post place at q down p h = update_kept s.unit w (if down then Minus else Plus) post place at q (number_core 1 place) p h (p, tt)

  counted_after_kept : (place : Place) (at : ℕ) (left : Sense) (down : Bool) → place.unit ≡ s.unit → OfSense s.unit left → Gives (OfSense s.unit) (counted_after w s sense place at left down)
  counted_after_kept place at left down p h =
      as_sense_kept s.unit w (core_of at left >>= (λ q. update_row w (if down then Minus else Plus) true place at q (number_core 1 place)))
      (then_gives (OfUnit s.unit) (OfUnit s.unit) (core_of at left) (λ q. update_row w (if down then Minus else Plus) true place at q (number_core 1 place)) (core_kept s.unit w at left h) (λ q k. counted_kept true place at q down p k))

  post_of_kept : (place : Place) (at : ℕ) (left : Sense) (rest : List ℕ) (sign : ℕ) → place.unit ≡ s.unit → OfSense s.unit left → Gives (OfSense s.unit) (post_of w s sense place at left rest sign)
  post_of_kept place at left rest sign p h =
      if_holds (Gives (OfSense s.unit)) (sign == sign_left_bracket) _ _ (indexed_kept place at left rest p h)
      (if_holds (Gives (OfSense s.unit)) (sign == sign_left_parenthesis) _ _ (called_kept place at left rest p h)
      (if_holds (Gives (OfSense s.unit)) (sign == sign_dot) _ _ (dotted_kept place at left rest p h)
      (if_holds (Gives (OfSense s.unit)) (sign == sign_arrow) _ _ (pointed_kept place at left rest p h)
      (if_holds (Gives (OfSense s.unit)) (sign == sign_increment) _ _ (counted_after_kept place at left false p h)
      (if_holds (Gives (OfSense s.unit)) (sign == sign_decrement) _ (Refuses Operand at) (counted_after_kept place at left true p h) tt)))))

  post_signed_kept : (place : Place) (at : ℕ) (left : Sense) (rest : List ℕ) (sign : Option ℕ) → place.unit ≡ s.unit → OfSense s.unit left → Gives (OfSense s.unit) (post_signed w s sense place at left rest sign)
  post_signed_kept place at left rest None p h = tt
  post_signed_kept place at left rest (Some sign) p h = post_of_kept place at left rest sign p h

  post_kept : (at : ℕ) (children : List ℕ) → Gives (OfSense s.unit) (post_row w s sense at children)
  post_kept at [] = tt
  post_kept at (first ∷ rest) = post_signed_kept (place_at s first) at (sense (left_of s first)) rest (sign_at s first) (at_unit s first) (each (left_of s first))

  -- operators before their operands
  prefixed_core_kept : (place : Place) (at : ℕ) (x : Core) (sign : ℕ) → place.unit ≡ s.unit → OfUnit s.unit x → Gives (OfUnit s.unit) (prefixed_core w s sense place at x sign)
  prefixed_core_kept place at x sign p h =
      if_holds (Gives (OfUnit s.unit)) (is_operator sign) _ _ (operator_core_kept s.unit w place at x sign p h)
      (if_holds (Gives (OfUnit s.unit)) (sign == sign_increment) _ _ (counted_kept false place at x false p h)
      (if_holds (Gives (OfUnit s.unit)) (sign == sign_decrement) _ (Refuses Operand at) (counted_kept false place at x true p h) tt))

  prefixed_kept : (place : Place) (at sign : ℕ) (list : List ℕ) → place.unit ≡ s.unit → Gives (OfSense s.unit) (prefixed w s sense place at sign list)
  prefixed_kept place at sign [] p = tt
  prefixed_kept place at sign (operand ∷ rest) p =
      as_sense_kept s.unit w (core_of at (sense operand) >>= (λ x. prefixed_core w s sense place at x sign))
      (then_gives (OfUnit s.unit) (OfUnit s.unit) (core_of at (sense operand)) (λ x. prefixed_core w s sense place at x sign) (core_kept s.unit w at (sense operand) (each operand)) (λ x h. prefixed_core_kept place at x sign p h))

  sized_kept : (place : Place) (at : ℕ) (o : Option ℕ) → place.unit ≡ s.unit → Gives (OfSense s.unit) (sized w s sense place at o)
  sized_kept place at None p = tt
  sized_kept place at (Some c) p =
      if_holds (Gives (OfSense s.unit)) (is_a s p_type_name c) _ _
      (as_sense_kept s.unit w (type_of_sense at (sense c) >>= size_row w place at) (after (OfUnit s.unit) (type_of_sense at (sense c)) (size_row w place at) (λ t. size_kept s.unit w place at t p)))
      (as_sense_kept s.unit w (core_of at (sense c) >>= sized_expression w place at)
      (after (OfUnit s.unit) (core_of at (sense c)) (sized_expression w place at) (λ x. if_given (OfUnit s.unit) (is_none (named_width w x)) Operand at (size_row w place at (ctype_of x)) (size_kept s.unit w place at (ctype_of x) p))))

  aligned_kept : (place : Place) (at : ℕ) (o : Option ℕ) → place.unit ≡ s.unit → Gives (OfSense s.unit) (aligned w s sense place at o)
  aligned_kept place at None p = tt
  aligned_kept place at (Some c) p =
      as_sense_kept s.unit w (type_of_sense at (sense c) >>= align_row w place at) (after (OfUnit s.unit) (type_of_sense at (sense c)) (align_row w place at) (λ t. align_kept s.unit w place at t p))

  worded_kept : (place : Place) (at : ℕ) (rest : List ℕ) (word : ℕ) → place.unit ≡ s.unit → Gives (OfSense s.unit) (worded w s sense place at rest word)
  worded_kept place at rest word p =
      if_holds (Gives (OfSense s.unit)) (word == word_sizeof) _ _ (sized_kept place at (last_where (λ c. not (is_leaf s c)) rest) p)
      (if_holds (Gives (OfSense s.unit)) (word == word_alignof) _ (Refuses Operand at) (aligned_kept place at (last_where (λ c. not (is_leaf s c)) rest) p) tt)

  unary_of_kept : (at first : ℕ) (rest : List ℕ) (leafy : Bool) (kind : TokenKind) → Gives (OfSense s.unit) (unary_of w s sense at first rest leafy kind)
  unary_of_kept at first rest false kind = each (last_of first rest)
  unary_of_kept at first rest true (Punctuator p) = prefixed_kept (place_at s first) at p rest (at_unit s first)
  unary_of_kept at first rest true (Keyword k) = worded_kept (place_at s first) at rest k (at_unit s first)
  unary_of_kept at first rest true kind = tt

  unary_kept : (at : ℕ) (children : List ℕ) → Gives (OfSense s.unit) (unary_row w s sense at children)
  unary_kept at [] = tt
  unary_kept at (first ∷ rest) = unary_of_kept at first rest (is_leaf s first) (kind_at s first)

  -- casts
  cast_with : (at c : ℕ) (rest : List ℕ) → Gives (OfUnit s.unit) (elim rest as (λ _. Given Core) [ [] ↦ Refuses Operand at | t ∷ more ↦ type_of_sense at (sense t) >>= (λ type. core_of at (sense c) >>= (λ x. cast_row w at x type)) ])
  cast_with at c [] = tt
  cast_with at c (t ∷ more) =
      after (OfUnit s.unit) (type_of_sense at (sense t)) (λ type. core_of at (sense c) >>= (λ x. cast_row w at x type))
      (λ type. then_gives (OfUnit s.unit) (OfUnit s.unit) (core_of at (sense c)) (λ x. cast_row w at x type) (core_kept s.unit w at (sense c) (each c)) (λ x h. cast_kept s.unit w at x type h))

  cast_over_kept : (at : ℕ) (rest : List ℕ) (c : ℕ) → Gives (OfSense s.unit) (cast_over w s sense at rest c)
  cast_over_kept at rest c = if_holds (Gives (OfSense s.unit)) (is_a s p_cast c) _ (Fits (sense c)) (as_sense_kept s.unit w _ (cast_with at c rest)) (each c)

  cast_last_kept : (at : ℕ) (rest : List ℕ) (o : Option ℕ) → Gives (OfSense s.unit) (cast_last w s sense at rest o)
  cast_last_kept at rest None = tt
  cast_last_kept at rest (Some c) = cast_over_kept at rest c

  cast_of_kept : (at first : ℕ) (rest : List ℕ) (leafy : Bool) → Gives (OfSense s.unit) (cast_of w s sense at first rest leafy)
  cast_of_kept at first rest false = each first
  cast_of_kept at first rest true = cast_last_kept at rest (last_where (λ c. not (is_leaf s c)) rest)

  cast_row_kept : (at : ℕ) (children : List ℕ) → Gives (OfSense s.unit) (cast_row_of w s sense at children)
  cast_row_kept at [] = tt
  cast_row_kept at (first ∷ rest) = cast_of_kept at first rest (is_leaf s first)

  -- choices and assignments
  chosen_kept : (at c question a b : ℕ) → Gives (OfUnit s.unit) (value_in w at (sense c) >>= (λ x. value_in w at (sense a) >>= (λ y. value_in w at (sense b) >>= choice_row w (place_at s question) at x y)))
  chosen_kept at c question a b =
      then_gives (OfUnit s.unit) (OfUnit s.unit) (value_in w at (sense c)) (λ x. value_in w at (sense a) >>= (λ y. value_in w at (sense b) >>= choice_row w (place_at s question) at x y)) (value_in_kept s.unit w at (sense c) (each c))
      (λ x g.
      then_gives (OfUnit s.unit) (OfUnit s.unit) (value_in w at (sense a)) (λ y. value_in w at (sense b) >>= choice_row w (place_at s question) at x y) (value_in_kept s.unit w at (sense a) (each a))
      (λ y h.
      then_gives (OfUnit s.unit) (OfUnit s.unit) (value_in w at (sense b)) (choice_row w (place_at s question) at x y) (value_in_kept s.unit w at (sense b) (each b))
      (λ z k. choice_kept s.unit w (place_at s question) at x y z (at_unit s question) g h k)))

  conditional_kept : (at : ℕ) (children : List ℕ) → Gives (OfSense s.unit) (conditional_row w s sense at children)
  conditional_kept at (c ∷ []) = each c
  conditional_kept at (c ∷ question ∷ a ∷ colon ∷ b ∷ []) = as_sense_kept s.unit w _ (chosen_kept at c question a b)
  conditional_kept at children = tt

  assigned_kept : (at o : ℕ) (q b : Core) (sign : ℕ) → OfUnit s.unit q → OfUnit s.unit b → Gives (OfUnit s.unit) (assigned w s sense at o q b sign)
  assigned_kept at o q b sign h k =
      if_holds (Gives (OfUnit s.unit)) (sign == sign_assign) _ _
      (then_gives (OfUnit s.unit) (OfUnit s.unit) (value_of w at b) (assign_row w (place_at s o) at q) (value_kept s.unit w at b k) (λ v l. assign_kept s.unit w (place_at s o) at q v (at_unit s o) h l))
      (some_given (OfUnit s.unit) (assigned_op sign) Operand at _
      (λ op. then_gives (OfUnit s.unit) (OfUnit s.unit) (value_of w at b) (update_row w op false (place_at s o) at q) (value_kept s.unit w at b k) (λ v l. update_kept s.unit w op false (place_at s o) at q v (at_unit s o) h l)))

  assigned_by_kept : (at o : ℕ) (q b : Core) (sign : Option ℕ) → OfUnit s.unit q → OfUnit s.unit b → Gives (OfUnit s.unit) (assigned_by w s sense at o q b sign)
  assigned_by_kept at o q b None h k = tt
  assigned_by_kept at o q b (Some sign) h k = assigned_kept at o q b sign h k

  assignment_kept : (at : ℕ) (children : List ℕ) → Gives (OfSense s.unit) (assignment_row w s sense at children)
  assignment_kept at (c ∷ []) = each c
  assignment_kept at (p ∷ o ∷ v ∷ []) =
      as_sense_kept s.unit w (core_of at (sense p) >>= (λ a. core_of at (sense v) >>= (λ b. assigned_by w s sense at o a b (sign_at s o))))
      (then_gives (OfUnit s.unit) (OfUnit s.unit) (core_of at (sense p)) (λ a. core_of at (sense v) >>= (λ b. assigned_by w s sense at o a b (sign_at s o))) (core_kept s.unit w at (sense p) (each p))
      (λ a h. then_gives (OfUnit s.unit) (OfUnit s.unit) (core_of at (sense v)) (λ b. assigned_by w s sense at o a b (sign_at s o)) (core_kept s.unit w at (sense v) (each v)) (λ b k. assigned_by_kept at o a b (sign_at s o) h k)))
  assignment_kept at children = tt

  pub expression_kept : (production at : ℕ) (children : List ℕ) → Gives (OfSense s.unit) (expression_row w s sense production at children)
  expression_kept production at children =
      if_holds (Gives (OfSense s.unit)) (production == p_primary) _ _ (primary_kept at children)
      (if_holds (Gives (OfSense s.unit)) (production == p_post) _ _ (post_kept at children)
      (if_holds (Gives (OfSense s.unit)) (production == p_unary) _ _ (unary_kept at children)
      (if_holds (Gives (OfSense s.unit)) (production == p_cast) _ _ (cast_row_kept at children)
      (if_holds (Gives (OfSense s.unit)) (production == p_conditional) _ _ (conditional_kept at children)
      (if_holds (Gives (OfSense s.unit)) (production == p_assignment) _ _ (assignment_kept at children)
      (if_holds (Gives (OfSense s.unit)) (is_binary w s sense production) _ (Refuses Operand at) (binary_kept at children) tt))))))
