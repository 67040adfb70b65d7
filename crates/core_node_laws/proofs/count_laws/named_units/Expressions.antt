-- The places of expressions.
use Rattle.std.specs.Prelude.{codes}
use Rattle.std.specs.Str.{bytes_eq}
use Rattle.std.proofs.Common.{◌==◌, ℕ, Bool, true, false, not, List, [], ◌∷◌, Option, Some, None, refl}
use Rattle.std.specs.Prelude.{⊤, is_none, if◌then◌else◌}
use Rattle.pta_base.specs.declared.kind.Kind.TheVariants.{Operand}
use Rattle.pta_base.specs.declared.place.Place.{Place}
use Rattle.c_lexer.specs.declared.TokenKind.{TokenKind}
use Rattle.c_lexer.specs.declared.TokenKind.TheVariants.{Identifier, Keyword, Punctuator, Integer, Character, Text}
use Rattle.core_tree.specs.declared.node.Op.TheVariants.{Plus, Minus, Complement}
use Rattle.c_grammar.specs.Productions.{p_type_name, p_conditional, p_assignment, p_cast, p_unary, p_post, p_primary}
use Rattle.c_grammar.specs.Words.{word_sizeof, word_alignof, sign_left_bracket, sign_left_parenthesis, sign_dot, sign_arrow, sign_increment, sign_decrement, sign_ampersand, sign_star, sign_plus, sign_minus, sign_tilde, sign_assign}
use Rattle.c_consts.specs.Core.{Core, ctype_of, core_sort}
use Rattle.c_senses.specs.Tree.{Source, is_a, is_leaf, place_at, spelling_at, kind_at, sign_at, last_where, all_where, left_of}
use Rattle.c_senses.specs.Given.{Given, Fits, Refuses, ◌>>=◌}
use Rattle.c_senses.specs.World.{World}
use Rattle.c_senses.specs.Conversions.{operand_of, value_of}
use Rattle.c_senses.specs.Operators.{between, operator, number_core, choice_row}
use Rattle.c_senses.specs.Objects.{name_row, index_row, member_row, arrow_row, assign_row, assigned_op, update_row, call_row, cast_row, size_row, align_row, named_width, sized_expression, next_row, end_row}
use Rattle.c_senses.specs.Sense.{Sense, IsCore, IsRun, IsInitial, IsDeclarator, IsMembers, core_of, value_in, type_of_sense, last_of}
use Rattle.c_senses.specs.Expressions.{as_sense, indexed_core, is_operator, value_core, operator_core, passed, named_of, step, chained, is_single, binary_row, primary_of, primary_row, indexed, dotted, pointed, all_cores, called, counted_after, post_of, post_signed, post_row, prefixed_core, prefixed, sized, aligned, worded, unary_of, unary_row, cast_over, cast_last, cast_of, cast_row_of, conditional_row, assigned, assigned_by, assignment_row, is_binary, expression_row, two_lists, list_core, list_row}
use Rattle.core_node_laws.proofs.count_laws.named_units.Standing.{IsAt, IsNameLeaf, AreSpelled, OfSource}
use Rattle.core_node_laws.proofs.count_laws.named_units.Giving.{Gives, then_gives, after, if_given, some_given, if_holds}
use Rattle.core_node_laws.proofs.count_laws.named_units.Values.{value_kept}
use Rattle.core_node_laws.proofs.count_laws.named_units.Operators.{AreOf, between_kept, promoted_kept, not_kept, choice_kept, name_kept, address_kept, indirection_kept, index_kept, member_kept, arrow_kept, assign_kept, update_kept, call_kept, cast_kept, size_kept, align_kept, start_kept, copy_kept, next_kept, end_kept}

-- each place of what a sense stands for is of that source
abbrev pub OfSense : Source → Sense → Type 0
OfSense source (IsCore c) = OfSource source c
OfSense source (IsRun cores) = AreOf source cores
OfSense source (IsInitial c n) = OfSource source c
OfSense source (IsDeclarator name ds) = IsNameLeaf source name
OfSense source (IsMembers parts) = AreSpelled source parts
OfSense source x = ⊤

pub at_node : (s : Source) (i : ℕ) → IsAt s (place_at s i)
at_node s i = (i, refl)

module _ (source : Source) (w : World) where
  pub as_sense_kept : (g : Given Core) → Gives (OfSource source) g → Gives (OfSense source) (as_sense g)
  as_sense_kept (Fits c) h = h
  as_sense_kept (Refuses kind node) h = tt

  pub core_kept : (at : ℕ) (x : Sense) → OfSense source x → Gives (OfSource source) (core_of at x)
  core_kept at (IsCore c) h = h
  core_kept at x h = tt

  pub value_in_kept : (at : ℕ) (x : Sense) → OfSense source x → Gives (OfSource source) (value_in w at x)
  value_in_kept at x h = then_gives (OfSource source) (OfSource source) (core_of at x) (value_of w at) (core_kept at x h) (λ c k. value_kept source w at c k)

  indexed_core_kept : (place : Place) (at : ℕ) (x y : Sense) → IsAt source place → OfSense source x → OfSense source y → Gives (OfSource source) (indexed_core w place at x y)
  indexed_core_kept place at x y p h k =
      then_gives (OfSource source) (OfSource source) (value_in w at x) (λ a. value_in w at y >>= (λ b. index_row w place at a b (operand_of (ctype_of a)) (operand_of (ctype_of b)))) (value_in_kept at x h)
      (λ a l.
      then_gives (OfSource source) (OfSource source) (value_in w at y) (λ b. index_row w place at a b (operand_of (ctype_of a)) (operand_of (ctype_of b))) (value_in_kept at y k)
      (λ b m. index_kept source w place at a b (operand_of (ctype_of a)) (operand_of (ctype_of b)) p l m))

  value_core_kept : (place : Place) (at : ℕ) (v : Core) (sign : ℕ) → IsAt source place → OfSource source v → Gives (OfSource source) (value_core w place at v sign)
  value_core_kept place at v sign p h =
      if_holds (Gives (OfSource source)) (sign == sign_star) _ _ (indirection_kept source place at v (operand_of (ctype_of v)) p h)
      (if_holds (Gives (OfSource source)) (sign == sign_plus) _ _ (promoted_kept source w Plus place at v (operand_of (ctype_of v)) p h)
      (if_holds (Gives (OfSource source)) (sign == sign_minus) _ _ (promoted_kept source w Minus place at v (operand_of (ctype_of v)) p h)
      (if_holds (Gives (OfSource source)) (sign == sign_tilde) _ _ (promoted_kept source w Complement place at v (operand_of (ctype_of v)) p h) (not_kept source place at v p h))))

  operator_core_kept : (place : Place) (at : ℕ) (x : Core) (sign : ℕ) → IsAt source place → OfSource source x → Gives (OfSource source) (operator_core w place at x sign)
  operator_core_kept place at x sign p h =
      if_holds (Gives (OfSource source)) (sign == sign_ampersand) _ _ (address_kept source w place at x (core_sort x) p h)
      (then_gives (OfSource source) (OfSource source) (value_of w at x) (λ v. value_core w place at v sign) (value_kept source w at x h) (λ v k. value_core_kept place at v sign p k))

module _ (w : World) (s : Source) (sense : ℕ → Sense) (each : (i : ℕ) → OfSense s (sense i)) where
  -- operators between operands
  step_kept : (named o : ℕ) (a b : Core) (sign : Option ℕ) → OfSource s a → OfSource s b → Gives (OfSource s) (step w s sense (between w) named o a b sign)
  step_kept named o a b None h k = tt
  step_kept named o a b (Some sign) h k =
      then_gives (OfSource s) (OfSource s) (value_of w named a) (λ x. value_of w named b >>= between w (operator sign) (place_at s o) named x) (value_kept s w named a h)
      (λ x l.
      then_gives (OfSource s) (OfSource s) (value_of w named b) (between w (operator sign) (place_at s o) named x) (value_kept s w named b k)
      (λ y m. between_kept s w (operator sign) (place_at s o) named x y (at_node s o) l m))

  chained_kept : (at : ℕ) (single : Bool) (left : Core) (list : List ℕ) → OfSource s left → Gives (OfSource s) (chained w s sense (between w) at single left list)
  chained_kept at single left [] h = h
  chained_kept at single left (o ∷ []) h = tt
  chained_kept at single left (o ∷ c ∷ rest) h =
      let named : ℕ = named_of w s sense (between w) at o single in
      then_gives (OfSource s) (OfSource s) (core_of named (sense c)) (λ b. step w s sense (between w) named o left b (sign_at s o) >>= (λ x. chained w s sense (between w) at single x rest)) (core_kept s w named (sense c) (each c))
      (λ b k.
      then_gives (OfSource s) (OfSource s) (step w s sense (between w) named o left b (sign_at s o)) (λ x. chained w s sense (between w) at single x rest) (step_kept named o left b (sign_at s o) h k)
      (λ x q. chained_kept at single x rest q))

  binary_kept : (at : ℕ) (children : List ℕ) → Gives (OfSense s) (binary_row w s sense (between w) at children)
  binary_kept at [] = tt
  binary_kept at (first ∷ []) = each first
  binary_kept at (first ∷ o ∷ rest) =
      as_sense_kept s w (core_of at (sense first) >>= (λ a. chained w s sense (between w) at (is_single w s sense (between w) (o ∷ rest)) a (o ∷ rest)))
      (then_gives (OfSource s) (OfSource s) (core_of at (sense first)) (λ a. chained w s sense (between w) at (is_single w s sense (between w) (o ∷ rest)) a (o ∷ rest)) (core_kept s w at (sense first) (each first))
      (λ a h. chained_kept at (is_single w s sense (between w) (o ∷ rest)) a (o ∷ rest) h))

  passed_kept : (at : ℕ) (children : List ℕ) → Gives (OfSense s) (passed sense at children)
  passed_kept at [] = tt
  passed_kept at (c ∷ rest) = each c

  -- operations on variadic lists
  two_lists_kept : (at first : ℕ) (name : List ℕ) (a b : Core) → OfSource s a → OfSource s b → Gives (OfSource s) (two_lists w s sense at (place_at s first) name a b)
  two_lists_kept at first name a b h k =
      if_holds (Gives (OfSource s)) (bytes_eq name (codes "__builtin_va_copy")) _ _ (copy_kept s w (place_at s first) at a b (at_node s first) h k) (start_kept s w (place_at s first) at a b (at_node s first) h)

  list_core_kept : (at first : ℕ) (name : List ℕ) (parts : List ℕ) → Gives (OfSource s) (list_core w s sense at (place_at s first) name parts)
  list_core_kept at first name [] = tt
  list_core_kept at first name (a ∷ []) =
      then_gives (OfSource s) (OfSource s) (core_of at (sense a)) (end_row w (place_at s first) at) (core_kept s w at (sense a) (each a)) (λ x h. end_kept s w (place_at s first) at x (at_node s first) h)
  list_core_kept at first name (a ∷ b ∷ []) =
      if_holds (Gives (OfSource s)) (is_a s p_type_name b) _ _
      (then_gives (OfSource s) (OfSource s) (core_of at (sense a)) _ (core_kept s w at (sense a) (each a))
      (λ x h. after (OfSource s) (type_of_sense at (sense b)) (next_row (place_at s first) at x) (λ t. next_kept s (place_at s first) at x t (at_node s first) h)))
      (then_gives (OfSource s) (OfSource s) (core_of at (sense a)) _ (core_kept s w at (sense a) (each a))
      (λ x h. then_gives (OfSource s) (OfSource s) (core_of at (sense b)) (two_lists w s sense at (place_at s first) name x) (core_kept s w at (sense b) (each b)) (λ y k. two_lists_kept at first name x y h k)))
  list_core_kept at first name (a ∷ b ∷ c ∷ rest) = tt

  list_row_kept : (at first : ℕ) (rest : List ℕ) → Gives (OfSense s) (list_row w s sense at first rest)
  list_row_kept at first rest =
      as_sense_kept s w (list_core w s sense at (place_at s first) (spelling_at s first) (all_where (λ c. not (is_leaf s c)) rest))
      (list_core_kept at first (spelling_at s first) (all_where (λ c. not (is_leaf s c)) rest))

  primary_of_kept : (at first : ℕ) (rest : List ℕ) (kind : TokenKind) → Gives (OfSense s) (primary_of w s sense at first rest kind)
  primary_of_kept at first [] Identifier = as_sense_kept s w (name_row w (place_at s first) at (w.meaning first)) (name_kept s w (place_at s first) at (w.meaning first) (at_node s first))
  primary_of_kept at first (c ∷ rest) Identifier = list_row_kept at first (c ∷ rest)
  primary_of_kept at first rest Integer = (at_node s first, tt)
  primary_of_kept at first rest Character = (at_node s first, tt)
  primary_of_kept at first rest Text = (at_node s first, tt)
  primary_of_kept at first rest (Punctuator p) = passed_kept at rest
  primary_of_kept at first rest kind = tt

  primary_kept : (at : ℕ) (children : List ℕ) → Gives (OfSense s) (primary_row w s sense at children)
  primary_kept at [] = tt
  primary_kept at (first ∷ rest) = primary_of_kept at first rest (kind_at s first)

  -- what follows a primary
  indexed_kept : (place : Place) (at : ℕ) (left : Sense) (list : List ℕ) → IsAt s place → OfSense s left → Gives (OfSense s) (indexed w s sense place at left list)
  indexed_kept place at left [] p h = tt
  indexed_kept place at left (e ∷ rest) p h = as_sense_kept s w (indexed_core w place at left (sense e)) (indexed_core_kept s w place at left (sense e) p h (each e))

  dotted_kept : (place : Place) (at : ℕ) (left : Sense) (list : List ℕ) → IsAt s place → OfSense s left → Gives (OfSense s) (dotted w s sense place at left list)
  dotted_kept place at left [] p h = tt
  dotted_kept place at left (name ∷ rest) p h =
      as_sense_kept s w (core_of at left >>= member_row w place at (spelling_at s name))
      (then_gives (OfSource s) (OfSource s) (core_of at left) (member_row w place at (spelling_at s name)) (core_kept s w at left h) (λ c k. member_kept s w place at (spelling_at s name) c p k))

  pointed_kept : (place : Place) (at : ℕ) (left : Sense) (list : List ℕ) → IsAt s place → OfSense s left → Gives (OfSense s) (pointed w s sense place at left list)
  pointed_kept place at left [] p h = tt
  pointed_kept place at left (name ∷ rest) p h =
      as_sense_kept s w (value_in w at left >>= (λ v. arrow_row w place at (spelling_at s name) v (operand_of (ctype_of v))))
      (then_gives (OfSource s) (OfSource s) (value_in w at left) (λ v. arrow_row w place at (spelling_at s name) v (operand_of (ctype_of v))) (value_in_kept s w at left h)
      (λ v k. arrow_kept s w place at (spelling_at s name) v (operand_of (ctype_of v)) p k))

  all_cores_kept : (at : ℕ) (list : List ℕ) → Gives (AreOf s) (all_cores w s sense at list)
  all_cores_kept at [] = tt
  all_cores_kept at (c ∷ rest) =
      then_gives (OfSource s) (AreOf s) (core_of at (sense c)) (λ x. all_cores w s sense at rest >>= (λ more. Fits (x ∷ more))) (core_kept s w at (sense c) (each c))
      (λ x h. then_gives (AreOf s) (AreOf s) (all_cores w s sense at rest) (λ more. Fits (x ∷ more)) (all_cores_kept at rest) (λ more k. (h, k)))

  called_kept : (place : Place) (at : ℕ) (left : Sense) (rest : List ℕ) → IsAt s place → OfSense s left → Gives (OfSense s) (called w s sense place at left rest)
  called_kept place at left rest p h =
      let list : List ℕ = all_where (λ c. not (is_leaf s c)) rest in
      as_sense_kept s w (core_of at left >>= (λ f. all_cores w s sense at list >>= call_row w place at f))
      (then_gives (OfSource s) (OfSource s) (core_of at left) (λ f. all_cores w s sense at list >>= call_row w place at f) (core_kept s w at left h)
      (λ f k. then_gives (AreOf s) (OfSource s) (all_cores w s sense at list) (call_row w place at f) (all_cores_kept at list) (λ args l. call_kept s w place at f args p k l)))

  counted_kept : (post : Bool) (place : Place) (at : ℕ) (q : Core) (down : Bool) → IsAt s place → OfSource s q → Gives (OfSource s) (update_row w (if down then Minus else Plus) post place at q (number_core 1 place))
  counted_kept post place at q down p h = update_kept s w (if down then Minus else Plus) post place at q (number_core 1 place) p h (p, tt)

  counted_after_kept : (place : Place) (at : ℕ) (left : Sense) (down : Bool) → IsAt s place → OfSense s left → Gives (OfSense s) (counted_after w s sense place at left down)
  counted_after_kept place at left down p h =
      as_sense_kept s w (core_of at left >>= (λ q. update_row w (if down then Minus else Plus) true place at q (number_core 1 place)))
      (then_gives (OfSource s) (OfSource s) (core_of at left) (λ q. update_row w (if down then Minus else Plus) true place at q (number_core 1 place)) (core_kept s w at left h) (λ q k. counted_kept true place at q down p k))

  post_of_kept : (place : Place) (at : ℕ) (left : Sense) (rest : List ℕ) (sign : ℕ) → IsAt s place → OfSense s left → Gives (OfSense s) (post_of w s sense place at left rest sign)
  post_of_kept place at left rest sign p h =
      if_holds (Gives (OfSense s)) (sign == sign_left_bracket) _ _ (indexed_kept place at left rest p h)
      (if_holds (Gives (OfSense s)) (sign == sign_left_parenthesis) _ _ (called_kept place at left rest p h)
      (if_holds (Gives (OfSense s)) (sign == sign_dot) _ _ (dotted_kept place at left rest p h)
      (if_holds (Gives (OfSense s)) (sign == sign_arrow) _ _ (pointed_kept place at left rest p h)
      (if_holds (Gives (OfSense s)) (sign == sign_increment) _ _ (counted_after_kept place at left false p h)
      (if_holds (Gives (OfSense s)) (sign == sign_decrement) _ (Refuses Operand at) (counted_after_kept place at left true p h) tt)))))

  post_signed_kept : (place : Place) (at : ℕ) (left : Sense) (rest : List ℕ) (sign : Option ℕ) → IsAt s place → OfSense s left → Gives (OfSense s) (post_signed w s sense place at left rest sign)
  post_signed_kept place at left rest None p h = tt
  post_signed_kept place at left rest (Some sign) p h = post_of_kept place at left rest sign p h

  post_kept : (at : ℕ) (children : List ℕ) → Gives (OfSense s) (post_row w s sense at children)
  post_kept at [] = tt
  post_kept at (first ∷ rest) = post_signed_kept (place_at s first) at (sense (left_of s first)) rest (sign_at s first) (at_node s first) (each (left_of s first))

  -- operators before their operands
  prefixed_core_kept : (place : Place) (at : ℕ) (x : Core) (sign : ℕ) → IsAt s place → OfSource s x → Gives (OfSource s) (prefixed_core w s sense place at x sign)
  prefixed_core_kept place at x sign p h =
      if_holds (Gives (OfSource s)) (is_operator sign) _ _ (operator_core_kept s w place at x sign p h)
      (if_holds (Gives (OfSource s)) (sign == sign_increment) _ _ (counted_kept false place at x false p h)
      (if_holds (Gives (OfSource s)) (sign == sign_decrement) _ (Refuses Operand at) (counted_kept false place at x true p h) tt))

  prefixed_kept : (place : Place) (at sign : ℕ) (list : List ℕ) → IsAt s place → Gives (OfSense s) (prefixed w s sense place at sign list)
  prefixed_kept place at sign [] p = tt
  prefixed_kept place at sign (operand ∷ rest) p =
      as_sense_kept s w (core_of at (sense operand) >>= (λ x. prefixed_core w s sense place at x sign))
      (then_gives (OfSource s) (OfSource s) (core_of at (sense operand)) (λ x. prefixed_core w s sense place at x sign) (core_kept s w at (sense operand) (each operand)) (λ x h. prefixed_core_kept place at x sign p h))

  sized_kept : (place : Place) (at : ℕ) (o : Option ℕ) → IsAt s place → Gives (OfSense s) (sized w s sense place at o)
  sized_kept place at None p = tt
  sized_kept place at (Some c) p =
      if_holds (Gives (OfSense s)) (is_a s p_type_name c) _ _
      (as_sense_kept s w (type_of_sense at (sense c) >>= size_row w place at) (after (OfSource s) (type_of_sense at (sense c)) (size_row w place at) (λ t. size_kept s w place at t p)))
      (as_sense_kept s w (core_of at (sense c) >>= sized_expression w place at)
      (after (OfSource s) (core_of at (sense c)) (sized_expression w place at) (λ x. if_given (OfSource s) (is_none (named_width w x)) Operand at (size_row w place at (ctype_of x)) (size_kept s w place at (ctype_of x) p))))

  aligned_kept : (place : Place) (at : ℕ) (o : Option ℕ) → IsAt s place → Gives (OfSense s) (aligned w s sense place at o)
  aligned_kept place at None p = tt
  aligned_kept place at (Some c) p =
      as_sense_kept s w (type_of_sense at (sense c) >>= align_row w place at) (after (OfSource s) (type_of_sense at (sense c)) (align_row w place at) (λ t. align_kept s w place at t p))

  worded_kept : (place : Place) (at : ℕ) (rest : List ℕ) (word : ℕ) → IsAt s place → Gives (OfSense s) (worded w s sense place at rest word)
  worded_kept place at rest word p =
      if_holds (Gives (OfSense s)) (word == word_sizeof) _ _ (sized_kept place at (last_where (λ c. not (is_leaf s c)) rest) p)
      (if_holds (Gives (OfSense s)) (word == word_alignof) _ (Refuses Operand at) (aligned_kept place at (last_where (λ c. not (is_leaf s c)) rest) p) tt)

  unary_of_kept : (at first : ℕ) (rest : List ℕ) (leafy : Bool) (kind : TokenKind) → Gives (OfSense s) (unary_of w s sense at first rest leafy kind)
  unary_of_kept at first rest false kind = each (last_of first rest)
  unary_of_kept at first rest true (Punctuator p) = prefixed_kept (place_at s first) at p rest (at_node s first)
  unary_of_kept at first rest true (Keyword k) = worded_kept (place_at s first) at rest k (at_node s first)
  unary_of_kept at first rest true kind = tt

  unary_kept : (at : ℕ) (children : List ℕ) → Gives (OfSense s) (unary_row w s sense at children)
  unary_kept at [] = tt
  unary_kept at (first ∷ rest) = unary_of_kept at first rest (is_leaf s first) (kind_at s first)

  -- casts
  cast_with : (at c : ℕ) (rest : List ℕ) → Gives (OfSource s) (elim rest as (λ _. Given Core) [ [] ↦ Refuses Operand at | t ∷ more ↦ type_of_sense at (sense t) >>= (λ type. core_of at (sense c) >>= (λ x. cast_row w at x type)) ])
  cast_with at c [] = tt
  cast_with at c (t ∷ more) =
      after (OfSource s) (type_of_sense at (sense t)) (λ type. core_of at (sense c) >>= (λ x. cast_row w at x type))
      (λ type. then_gives (OfSource s) (OfSource s) (core_of at (sense c)) (λ x. cast_row w at x type) (core_kept s w at (sense c) (each c)) (λ x h. cast_kept s w at x type h))

  cast_over_kept : (at : ℕ) (rest : List ℕ) (c : ℕ) → Gives (OfSense s) (cast_over w s sense at rest c)
  cast_over_kept at rest c = if_holds (Gives (OfSense s)) (is_a s p_cast c) _ (Fits (sense c)) (as_sense_kept s w _ (cast_with at c rest)) (each c)

  cast_last_kept : (at : ℕ) (rest : List ℕ) (o : Option ℕ) → Gives (OfSense s) (cast_last w s sense at rest o)
  cast_last_kept at rest None = tt
  cast_last_kept at rest (Some c) = cast_over_kept at rest c

  cast_of_kept : (at first : ℕ) (rest : List ℕ) (leafy : Bool) → Gives (OfSense s) (cast_of w s sense at first rest leafy)
  cast_of_kept at first rest false = each first
  cast_of_kept at first rest true = cast_last_kept at rest (last_where (λ c. not (is_leaf s c)) rest)

  cast_row_kept : (at : ℕ) (children : List ℕ) → Gives (OfSense s) (cast_row_of w s sense at children)
  cast_row_kept at [] = tt
  cast_row_kept at (first ∷ rest) = cast_of_kept at first rest (is_leaf s first)

  -- choices and assignments
  chosen_kept : (at c question a b : ℕ) → Gives (OfSource s) (value_in w at (sense c) >>= (λ x. value_in w at (sense a) >>= (λ y. value_in w at (sense b) >>= choice_row w (place_at s question) at x y)))
  chosen_kept at c question a b =
      then_gives (OfSource s) (OfSource s) (value_in w at (sense c)) (λ x. value_in w at (sense a) >>= (λ y. value_in w at (sense b) >>= choice_row w (place_at s question) at x y)) (value_in_kept s w at (sense c) (each c))
      (λ x g.
      then_gives (OfSource s) (OfSource s) (value_in w at (sense a)) (λ y. value_in w at (sense b) >>= choice_row w (place_at s question) at x y) (value_in_kept s w at (sense a) (each a))
      (λ y h.
      then_gives (OfSource s) (OfSource s) (value_in w at (sense b)) (choice_row w (place_at s question) at x y) (value_in_kept s w at (sense b) (each b))
      (λ z k. choice_kept s w (place_at s question) at x y z (at_node s question) g h k)))

  conditional_kept : (at : ℕ) (children : List ℕ) → Gives (OfSense s) (conditional_row w s sense at children)
  conditional_kept at (c ∷ []) = each c
  conditional_kept at (c ∷ question ∷ a ∷ colon ∷ b ∷ []) = as_sense_kept s w _ (chosen_kept at c question a b)
  conditional_kept at children = tt

  assigned_kept : (at o : ℕ) (q b : Core) (sign : ℕ) → OfSource s q → OfSource s b → Gives (OfSource s) (assigned w s sense at o q b sign)
  assigned_kept at o q b sign h k =
      if_holds (Gives (OfSource s)) (sign == sign_assign) _ _
      (then_gives (OfSource s) (OfSource s) (value_of w at b) (assign_row w (place_at s o) at q) (value_kept s w at b k) (λ v l. assign_kept s w (place_at s o) at q v (at_node s o) h l))
      (some_given (OfSource s) (assigned_op sign) Operand at _
      (λ op. then_gives (OfSource s) (OfSource s) (value_of w at b) (update_row w op false (place_at s o) at q) (value_kept s w at b k) (λ v l. update_kept s w op false (place_at s o) at q v (at_node s o) h l)))

  assigned_by_kept : (at o : ℕ) (q b : Core) (sign : Option ℕ) → OfSource s q → OfSource s b → Gives (OfSource s) (assigned_by w s sense at o q b sign)
  assigned_by_kept at o q b None h k = tt
  assigned_by_kept at o q b (Some sign) h k = assigned_kept at o q b sign h k

  assignment_kept : (at : ℕ) (children : List ℕ) → Gives (OfSense s) (assignment_row w s sense at children)
  assignment_kept at (c ∷ []) = each c
  assignment_kept at (p ∷ o ∷ v ∷ []) =
      as_sense_kept s w (core_of at (sense p) >>= (λ a. core_of at (sense v) >>= (λ b. assigned_by w s sense at o a b (sign_at s o))))
      (then_gives (OfSource s) (OfSource s) (core_of at (sense p)) (λ a. core_of at (sense v) >>= (λ b. assigned_by w s sense at o a b (sign_at s o))) (core_kept s w at (sense p) (each p))
      (λ a h. then_gives (OfSource s) (OfSource s) (core_of at (sense v)) (λ b. assigned_by w s sense at o a b (sign_at s o)) (core_kept s w at (sense v) (each v)) (λ b k. assigned_by_kept at o a b (sign_at s o) h k)))
  assignment_kept at children = tt

  pub expression_kept : (production at : ℕ) (children : List ℕ) → Gives (OfSense s) (expression_row w s sense production at children)
  expression_kept production at children =
      if_holds (Gives (OfSense s)) (production == p_primary) _ _ (primary_kept at children)
      (if_holds (Gives (OfSense s)) (production == p_post) _ _ (post_kept at children)
      (if_holds (Gives (OfSense s)) (production == p_unary) _ _ (unary_kept at children)
      (if_holds (Gives (OfSense s)) (production == p_cast) _ _ (cast_row_kept at children)
      (if_holds (Gives (OfSense s)) (production == p_conditional) _ _ (conditional_kept at children)
      (if_holds (Gives (OfSense s)) (production == p_assignment) _ _ (assignment_kept at children)
      (if_holds (Gives (OfSense s)) (is_binary w s sense production) _ (Refuses Operand at) (binary_kept at children) tt))))))
