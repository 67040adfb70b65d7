-- The rows of expressions over sound senses.
use Rattle.std.proofs.Common.{◌≡◌, ℕ, Bool, true, false, ◌==◌, not, List, [], ◌∷◌, Option, Some, None, refl, subst}
use Rattle.std.specs.Prelude.{⊤, codes, if◌then◌else◌}
use Rattle.std.specs.Str.{bytes_eq}
use Rattle.pta_base.specs.declared.kind.Kind.TheVariants.{Operand}
use Rattle.pta_base.specs.declared.place.Place.{Place}
use Rattle.c_lexer.specs.declared.TokenKind.{TokenKind}
use Rattle.c_lexer.specs.declared.TokenKind.TheVariants.{Identifier, Keyword, Punctuator, Integer, Character, Text}
use Rattle.c_types.specs.Trees.{Ctype}
use Rattle.c_conversions.specs.passed.core_tree.declared.node.Op.{Op}
use Rattle.c_conversions.specs.passed.core_tree.declared.node.Op.TheVariants.{Multiply, Divide, Remainder, Plus, Minus, ShiftLeft, ShiftRight, And, Xor, Or, Complement}
use Rattle.c_conversions.specs.passed.core_tree.Rows.{IsUpdate}
use Rattle.c_grammar.specs.Productions.{p_type_name, p_conditional, p_assignment, p_cast, p_unary, p_post, p_primary}
use Rattle.c_grammar.specs.Words.{word_sizeof, word_alignof, sign_left_bracket, sign_left_parenthesis, sign_dot, sign_arrow, sign_increment, sign_decrement, sign_ampersand, sign_star, sign_plus, sign_minus, sign_tilde, sign_assign, sign_multiply_assign, sign_divide_assign, sign_remainder_assign, sign_add_assign, sign_subtract_assign, sign_shift_left_assign, sign_shift_right_assign, sign_and_assign, sign_xor_assign, sign_or_assign}
use Rattle.c_senses.specs.passed.c_consts.Core.{Core, ctype_of, core_sort}
use Rattle.c_senses.specs.Tree.{Source, is_a, is_leaf, place_at, spelling_at, kind_at, sign_at, last_where, all_where, left_of}
use Rattle.c_senses.specs.Given.{Given, Fits, Refuses, ◌>>=◌}
use Rattle.c_senses.specs.World.{World}
use Rattle.c_senses.specs.Conversions.{operand_of, value_of}
use Rattle.c_senses.specs.Operators.{between, operator, number_core, choice_row}
use Rattle.c_senses.specs.Objects.{name_row, index_row, member_row, arrow_row, assign_row, assigned_op, update_row, call_row, cast_row, size_row, align_row, sized_expression, next_row, end_row}
use Rattle.c_senses.specs.Sense.{Sense, IsCore, IsType, core_of, value_in, type_of_sense, last_of}
use Rattle.c_senses.specs.Expressions.{as_sense, indexed_core, is_operator, value_core, operator_core, passed, named_of, step, chained, is_single, binary_row, string_bytes, primary_of, primary_row, indexed, dotted, pointed, all_cores, called, counted_after, post_of, post_signed, post_row, prefixed_core, prefixed, sized, aligned, worded, unary_of, unary_row, cast_over, cast_last, cast_of, cast_row_of, conditional_row, assigned, assigned_by, assignment_row, is_binary, expression_row, two_lists, list_core, list_row, named_primary}
use Rattle.parsed_tree_laws.specs.sense_laws.Asked.{PrimaryFits}
use Rattle.parsed_tree_laws.specs.sense_laws.Sound.{FurtherIsVariadic, Sound, SoundValue, SoundOf, ProperWorld, AreSound, IsProper, Gives}
use Rattle.parsed_tree_laws.specs.sense_laws.Senses.{SoundSense, ConstantsFit}
use Rattle.parsed_tree_laws.proofs.sense_laws.Giving.{then_gives, gives_weaker, some_given, if_holds}
use Rattle.parsed_tree_laws.proofs.sense_laws.Conversions.{value_sound}
use Rattle.parsed_tree_laws.proofs.sense_laws.Operators.{between_sound, operator_fits, promoted_row_sound, not_sound, choice_sound, one_sound}
use Rattle.parsed_tree_laws.proofs.sense_laws.Objects.{text_sound, name_sound, address_sound, indirection_sound, index_sound, member_sound, arrow_sound, assign_sound, update_sound, cast_sound, size_sound, sized_sound, align_sound, call_sound, start_sound, copy_sound, next_sound, end_sound}
use Rattle.parsed_tree_laws.proofs.sense_laws.Literals.{integer_holds, character_holds}

op_updates : (o : Option Op) → Type 0
op_updates None = ⊤
op_updates (Some op) = IsUpdate op

updates_if : (b : Bool) (x y : Option Op) → op_updates x → op_updates y → op_updates (if b then x else y)
updates_if true x y h k = h
updates_if false x y h k = k

assigned_updates : (sign : ℕ) → op_updates (assigned_op sign)
unfolding op_updates
assigned_updates sign =
    updates_if (sign == sign_multiply_assign) (Some Multiply) _ tt
    (updates_if (sign == sign_divide_assign) (Some Divide) _ tt
    (updates_if (sign == sign_remainder_assign) (Some Remainder) _ tt
    (updates_if (sign == sign_add_assign) (Some Plus) _ tt
    (updates_if (sign == sign_subtract_assign) (Some Minus) _ tt
    (updates_if (sign == sign_shift_left_assign) (Some ShiftLeft) _ tt
    (updates_if (sign == sign_shift_right_assign) (Some ShiftRight) _ tt
    (updates_if (sign == sign_and_assign) (Some And) _ tt
    (updates_if (sign == sign_xor_assign) (Some Xor) _ tt (updates_if (sign == sign_or_assign) (Some Or) None tt tt)))))))))

some_updates : (o : Option Op) (op : Op) → o ≡ Some op → op_updates o → IsUpdate op
unfolding op_updates
some_updates None op e h = cc
some_updates (Some x) op e h = subst IsUpdate (let same : x ≡ op = cc in same) h

module _ (w : World) (entities : ℕ → Option Ctype) (world : ProperWorld w) where
  pub as_sense_sound : (g : Given Core) → Gives (Sound w entities) g → Gives (SoundSense w entities) (as_sense g)
  as_sense_sound (Fits c) h = h
  as_sense_sound (Refuses kind node) h = tt

  pub value_given : (g : Given Core) → Gives (SoundValue w entities) g → Gives (Sound w entities) g
  value_given g h = gives_weaker (SoundValue w entities) (Sound w entities) g (λ c s. s.0) h

  pub core_sound : (at : ℕ) (x : Sense) → SoundSense w entities x → Gives (Sound w entities) (core_of at x)
  core_sound at (IsCore c) h = h
  core_sound at x h = tt

  pub value_in_sound : (at : ℕ) (x : Sense) → SoundSense w entities x → Gives (SoundValue w entities) (value_in w at x)
  value_in_sound at x h = then_gives (Sound w entities) (SoundValue w entities) (core_of at x) (value_of w at) (core_sound at x h) (λ c s. value_sound w entities at c s)

  pub type_sense_sound : (at : ℕ) (x : Sense) → SoundSense w entities x → Gives IsProper (type_of_sense at x)
  type_sense_sound at (IsType t) h = h
  type_sense_sound at x h = tt

  indexed_core_sound : (place : Place) (at : ℕ) (x y : Sense) → SoundSense w entities x → SoundSense w entities y → Gives (Sound w entities) (indexed_core w place at x y)
  indexed_core_sound place at x y h k =
      then_gives (SoundValue w entities) (Sound w entities) (value_in w at x) (λ a. value_in w at y >>= (λ b. index_row w place at a b (operand_of (ctype_of a)) (operand_of (ctype_of b)))) (value_in_sound at x h)
      (λ a s.
      then_gives (SoundValue w entities) (Sound w entities) (value_in w at y) (λ b. index_row w place at a b (operand_of (ctype_of a)) (operand_of (ctype_of b))) (value_in_sound at y k)
      (λ b t. index_sound w entities world place at a b s t (operand_of (ctype_of a)) (operand_of (ctype_of b)) refl refl))

  value_core_sound : (place : Place) (at : ℕ) (v : Core) (sign : ℕ) → SoundValue w entities v → Gives (Sound w entities) (value_core w place at v sign)
  value_core_sound place at v sign h =
      if_holds (Gives (Sound w entities)) (sign == sign_star) _ _ (λ e. indirection_sound w entities world place at v h (operand_of (ctype_of v)) refl)
      (λ e. if_holds (Gives (Sound w entities)) (sign == sign_plus) _ _ (λ e. value_given _ (promoted_row_sound w entities Plus place at v (λ a t r. r) h (operand_of (ctype_of v)) refl))
      (λ e. if_holds (Gives (Sound w entities)) (sign == sign_minus) _ _ (λ e. value_given _ (promoted_row_sound w entities Minus place at v (λ a t r. r) h (operand_of (ctype_of v)) refl))
      (λ e. if_holds (Gives (Sound w entities)) (sign == sign_tilde) _ _ (λ e. value_given _ (promoted_row_sound w entities Complement place at v (λ a t r. r) h (operand_of (ctype_of v)) refl))
      (λ e. value_given _ (not_sound w entities place at v h)))))

  operator_core_sound : (place : Place) (at : ℕ) (x : Core) (sign : ℕ) → Sound w entities x → Gives (Sound w entities) (operator_core w place at x sign)
  operator_core_sound place at x sign h =
      if_holds (Gives (Sound w entities)) (sign == sign_ampersand) _ _ (λ e. value_given _ (address_sound w entities world place at x h (core_sort x) refl))
      (λ e. then_gives (SoundValue w entities) (Sound w entities) (value_of w at x) (λ v. value_core w place at v sign) (value_sound w entities at x h) (λ v s. value_core_sound place at v sign s))

  module _ (s : Source) (sense : ℕ → Sense) (sound : (i : ℕ) → SoundSense w entities (sense i)) where
    -- operators between operands
    step_sound : (named o : ℕ) (a b : Core) (sign : Option ℕ) → Sound w entities a → Sound w entities b → Gives (Sound w entities) (step w s sense (between w) named o a b sign)
    step_sound named o a b None h k = tt
    step_sound named o a b (Some sign) h k =
        then_gives (SoundValue w entities) (Sound w entities) (value_of w named a) (λ x. value_of w named b >>= between w (operator sign) (place_at s o) named x) (value_sound w entities named a h)
        (λ x p.
        then_gives (SoundValue w entities) (Sound w entities) (value_of w named b) (between w (operator sign) (place_at s o) named x) (value_sound w entities named b k)
        (λ y q. value_given _ (between_sound w entities (operator sign) (place_at s o) named x y (operator_fits w entities sign) p q)))

    chained_sound : (at : ℕ) (single : Bool) (left : Core) (list : List ℕ) → Sound w entities left → Gives (Sound w entities) (chained w s sense (between w) at single left list)
    chained_sound at single left [] h = h
    chained_sound at single left (o ∷ []) h = tt
    chained_sound at single left (o ∷ c ∷ rest) h =
        let named : ℕ = named_of w s sense (between w) at o single in
        then_gives (Sound w entities) (Sound w entities) (core_of named (sense c)) (λ b. step w s sense (between w) named o left b (sign_at s o) >>= (λ x. chained w s sense (between w) at single x rest)) (core_sound named (sense c) (sound c))
        (λ b k.
        then_gives (Sound w entities) (Sound w entities) (step w s sense (between w) named o left b (sign_at s o)) (λ x. chained w s sense (between w) at single x rest) (step_sound named o left b (sign_at s o) h k)
        (λ x q. chained_sound at single x rest q))

    binary_sound : (at : ℕ) (children : List ℕ) → Gives (SoundSense w entities) (binary_row w s sense (between w) at children)
    binary_sound at [] = tt
    binary_sound at (first ∷ []) = sound first
    binary_sound at (first ∷ o ∷ rest) =
        as_sense_sound (core_of at (sense first) >>= (λ a. chained w s sense (between w) at (is_single w s sense (between w) (o ∷ rest)) a (o ∷ rest)))
        (then_gives (Sound w entities) (Sound w entities) (core_of at (sense first)) (λ a. chained w s sense (between w) at (is_single w s sense (between w) (o ∷ rest)) a (o ∷ rest)) (core_sound at (sense first) (sound first))
        (λ a h. chained_sound at (is_single w s sense (between w) (o ∷ rest)) a (o ∷ rest) h))

    passed_sound : (at : ℕ) (children : List ℕ) → Gives (SoundSense w entities) (passed sense at children)
    passed_sound at [] = tt
    passed_sound at (c ∷ rest) = sound c

    module _ (fit : ConstantsFit s) where
      -- operations on variadic lists
      two_lists_sound : FurtherIsVariadic w entities → (at : ℕ) (place : Place) (name : List ℕ) (a b : Core) → Sound w entities a → Sound w entities b → Gives (Sound w entities) (two_lists w s sense at place name a b)
      two_lists_sound variadic at place name a b h k =
          if_holds (Gives (Sound w entities)) (bytes_eq name (codes "__builtin_va_copy")) _ _ (λ e. copy_sound w entities world place at a b h k) (λ e. start_sound w entities world variadic place at a b h)

      list_core_sound : FurtherIsVariadic w entities → (at : ℕ) (place : Place) (name : List ℕ) (parts : List ℕ) → Gives (Sound w entities) (list_core w s sense at place name parts)
      list_core_sound variadic at place name [] = tt
      list_core_sound variadic at place name (a ∷ []) =
          then_gives (Sound w entities) (Sound w entities) (core_of at (sense a)) (end_row w place at) (core_sound at (sense a) (sound a)) (λ x h. end_sound w entities world place at x h)
      list_core_sound variadic at place name (a ∷ b ∷ []) =
          if_holds (Gives (Sound w entities)) (is_a s p_type_name b) _ _
          (λ e.
          then_gives (Sound w entities) (Sound w entities) (core_of at (sense a)) (λ x. type_of_sense at (sense b) >>= next_row place at x) (core_sound at (sense a) (sound a))
          (λ x h. then_gives IsProper (Sound w entities) (type_of_sense at (sense b)) (next_row place at x) (type_sense_sound at (sense b) (sound b)) (λ t proper. next_sound w entities world place at x t h proper)))
          (λ e.
          then_gives (Sound w entities) (Sound w entities) (core_of at (sense a)) (λ x. core_of at (sense b) >>= two_lists w s sense at place name x) (core_sound at (sense a) (sound a))
          (λ x h. then_gives (Sound w entities) (Sound w entities) (core_of at (sense b)) (two_lists w s sense at place name x) (core_sound at (sense b) (sound b)) (λ y k. two_lists_sound variadic at place name x y h k)))
      list_core_sound variadic at place name (a ∷ b ∷ c ∷ rest) = tt

      list_row_sound : FurtherIsVariadic w entities → (at first : ℕ) (rest : List ℕ) → Gives (SoundSense w entities) (list_row w s sense at first rest)
      list_row_sound variadic at first rest =
          as_sense_sound (list_core w s sense at (place_at s first) (spelling_at s first) (all_where (λ c. not (is_leaf s c)) rest))
          (list_core_sound variadic at (place_at s first) (spelling_at s first) (all_where (λ c. not (is_leaf s c)) rest))

      named_primary_sound : (at first : ℕ) (rest : List ℕ) → PrimaryFits w entities (first ∷ rest) → Gives (SoundSense w entities) (named_primary w s sense at first rest)
      named_primary_sound at first [] fits = as_sense_sound (name_row w (place_at s first) at (w.meaning first)) (name_sound w entities world (place_at s first) at first (w.meaning first) refl fits.0)
      named_primary_sound at first (c ∷ rest) fits = list_row_sound fits.1 at first (c ∷ rest)

      primary_of_sound : (at first : ℕ) (rest : List ℕ) (kind : TokenKind) → kind_at s first ≡ kind → PrimaryFits w entities (first ∷ rest)
          → Gives (SoundSense w entities) (primary_of w s sense at first rest kind)
      primary_of_sound at first rest Identifier e names = named_primary_sound at first rest names
      primary_of_sound at first rest Integer e names = let holds = integer_holds (spelling_at s first) (fit first e) in (holds.0, holds.1, tt, tt)
      primary_of_sound at first rest Character e names = (character_holds (spelling_at s first), tt, tt, tt)
      primary_of_sound at first rest Text e names = text_sound w entities world (place_at s first) (string_bytes w s sense (first ∷ rest))
      primary_of_sound at first rest (Punctuator p) e names = passed_sound at rest
      primary_of_sound at first rest kind e names = tt

      primary_sound : (at : ℕ) (children : List ℕ) → PrimaryFits w entities children → Gives (SoundSense w entities) (primary_row w s sense at children)
      primary_sound at [] names = tt
      primary_sound at (first ∷ rest) names = primary_of_sound at first rest (kind_at s first) refl names

      -- what follows a primary
      indexed_sound : (place : Place) (at : ℕ) (left : Sense) (list : List ℕ) → SoundSense w entities left → Gives (SoundSense w entities) (indexed w s sense place at left list)
      indexed_sound place at left [] h = tt
      indexed_sound place at left (e ∷ rest) h = as_sense_sound (indexed_core w place at left (sense e)) (indexed_core_sound place at left (sense e) h (sound e))

      dotted_sound : (place : Place) (at : ℕ) (left : Sense) (list : List ℕ) → SoundSense w entities left → Gives (SoundSense w entities) (dotted w s sense place at left list)
      dotted_sound place at left [] h = tt
      dotted_sound place at left (name ∷ rest) h =
          as_sense_sound (core_of at left >>= member_row w place at (spelling_at s name))
          (then_gives (Sound w entities) (Sound w entities) (core_of at left) (member_row w place at (spelling_at s name)) (core_sound at left h) (λ c k. member_sound w entities world place at (spelling_at s name) c k))

      pointed_sound : (place : Place) (at : ℕ) (left : Sense) (list : List ℕ) → SoundSense w entities left → Gives (SoundSense w entities) (pointed w s sense place at left list)
      pointed_sound place at left [] h = tt
      pointed_sound place at left (name ∷ rest) h =
          as_sense_sound (value_in w at left >>= (λ v. arrow_row w place at (spelling_at s name) v (operand_of (ctype_of v))))
          (then_gives (SoundValue w entities) (Sound w entities) (value_in w at left) (λ v. arrow_row w place at (spelling_at s name) v (operand_of (ctype_of v))) (value_in_sound at left h)
          (λ v k. arrow_sound w entities world place at (spelling_at s name) v k (operand_of (ctype_of v)) refl))

      all_cores_sound : (at : ℕ) (list : List ℕ) → Gives (AreSound w entities) (all_cores w s sense at list)
      all_cores_sound at [] = tt
      all_cores_sound at (c ∷ rest) =
          then_gives (Sound w entities) (AreSound w entities) (core_of at (sense c)) (λ x. all_cores w s sense at rest >>= (λ more. Fits (x ∷ more))) (core_sound at (sense c) (sound c))
          (λ x h. then_gives (AreSound w entities) (AreSound w entities) (all_cores w s sense at rest) (λ more. Fits (x ∷ more)) (all_cores_sound at rest) (λ more k. (h, k)))

      called_sound : (place : Place) (at : ℕ) (left : Sense) (rest : List ℕ) → SoundSense w entities left → Gives (SoundSense w entities) (called w s sense place at left rest)
      called_sound place at left rest h =
          let list : List ℕ = all_where (λ c. not (is_leaf s c)) rest in
          as_sense_sound (core_of at left >>= (λ f. all_cores w s sense at list >>= call_row w place at f))
          (then_gives (Sound w entities) (Sound w entities) (core_of at left) (λ f. all_cores w s sense at list >>= call_row w place at f) (core_sound at left h)
          (λ f k.
          then_gives (AreSound w entities) (Sound w entities) (all_cores w s sense at list) (call_row w place at f) (all_cores_sound at list)
          (λ args l. value_given _ (call_sound w entities world at place f args k l))))

      updates_by : (down : Bool) → IsUpdate (if down then Minus else Plus)
      updates_by true = tt
      updates_by false = tt

      counted_sound : (post : Bool) (place : Place) (at : ℕ) (p : Core) (down : Bool) → Sound w entities p → Gives (Sound w entities) (update_row w (if down then Minus else Plus) post place at p (number_core 1 place))
      counted_sound post place at p down h =
          let one = one_sound w entities place in
          value_given _ (update_sound w entities world (if down then Minus else Plus) post place at p (number_core 1 place) (updates_by down) h (one.0, one.1.0))

      counted_after_sound : (place : Place) (at : ℕ) (left : Sense) (down : Bool) → SoundSense w entities left → Gives (SoundSense w entities) (counted_after w s sense place at left down)
      counted_after_sound place at left down h =
          as_sense_sound (core_of at left >>= (λ p. update_row w (if down then Minus else Plus) true place at p (number_core 1 place)))
          (then_gives (Sound w entities) (Sound w entities) (core_of at left) (λ p. update_row w (if down then Minus else Plus) true place at p (number_core 1 place)) (core_sound at left h) (λ p k. counted_sound true place at p down k))

      post_of_sound : (place : Place) (at : ℕ) (left : Sense) (rest : List ℕ) (sign : ℕ) → SoundSense w entities left → Gives (SoundSense w entities) (post_of w s sense place at left rest sign)
      post_of_sound place at left rest sign h =
          if_holds (Gives (SoundSense w entities)) (sign == sign_left_bracket) _ _ (λ e. indexed_sound place at left rest h)
          (λ e. if_holds (Gives (SoundSense w entities)) (sign == sign_left_parenthesis) _ _ (λ e. called_sound place at left rest h)
          (λ e. if_holds (Gives (SoundSense w entities)) (sign == sign_dot) _ _ (λ e. dotted_sound place at left rest h)
          (λ e. if_holds (Gives (SoundSense w entities)) (sign == sign_arrow) _ _ (λ e. pointed_sound place at left rest h)
          (λ e. if_holds (Gives (SoundSense w entities)) (sign == sign_increment) _ _ (λ e. counted_after_sound place at left false h)
          (λ e. if_holds (Gives (SoundSense w entities)) (sign == sign_decrement) _ (Refuses Operand at) (λ e. counted_after_sound place at left true h) (λ e. tt))))))

      post_signed_sound : (place : Place) (at : ℕ) (left : Sense) (rest : List ℕ) (sign : Option ℕ) → SoundSense w entities left → Gives (SoundSense w entities) (post_signed w s sense place at left rest sign)
      post_signed_sound place at left rest None h = tt
      post_signed_sound place at left rest (Some sign) h = post_of_sound place at left rest sign h

      post_sound : (at : ℕ) (children : List ℕ) → Gives (SoundSense w entities) (post_row w s sense at children)
      post_sound at [] = tt
      post_sound at (first ∷ rest) = post_signed_sound (place_at s first) at (sense (left_of s first)) rest (sign_at s first) (sound (left_of s first))

      -- operators before their operands
      prefixed_core_sound : (place : Place) (at : ℕ) (x : Core) (sign : ℕ) → Sound w entities x → Gives (Sound w entities) (prefixed_core w s sense place at x sign)
      prefixed_core_sound place at x sign h =
          if_holds (Gives (Sound w entities)) (is_operator sign) _ _ (λ e. operator_core_sound place at x sign h)
          (λ e. if_holds (Gives (Sound w entities)) (sign == sign_increment) _ _ (λ e. counted_sound false place at x false h)
          (λ e. if_holds (Gives (Sound w entities)) (sign == sign_decrement) _ (Refuses Operand at) (λ e. counted_sound false place at x true h) (λ e. tt)))

      prefixed_sound : (place : Place) (at sign : ℕ) (list : List ℕ) → Gives (SoundSense w entities) (prefixed w s sense place at sign list)
      prefixed_sound place at sign [] = tt
      prefixed_sound place at sign (operand ∷ rest) =
          as_sense_sound (core_of at (sense operand) >>= (λ x. prefixed_core w s sense place at x sign))
          (then_gives (Sound w entities) (Sound w entities) (core_of at (sense operand)) (λ x. prefixed_core w s sense place at x sign) (core_sound at (sense operand) (sound operand)) (λ x h. prefixed_core_sound place at x sign h))

      sized_of : (place : Place) (at : ℕ) (o : Option ℕ) → Gives (SoundSense w entities) (sized w s sense place at o)
      sized_of place at None = tt
      sized_of place at (Some c) =
          if_holds (Gives (SoundSense w entities)) (is_a s p_type_name c) _ _
          (λ e.
          as_sense_sound (type_of_sense at (sense c) >>= size_row w place at)
          (then_gives IsProper (Sound w entities) (type_of_sense at (sense c)) (size_row w place at) (type_sense_sound at (sense c) (sound c)) (λ t h. value_given _ (size_sound w entities world place at t))))
          (λ e.
          as_sense_sound (core_of at (sense c) >>= sized_expression w place at)
          (then_gives (Sound w entities) (Sound w entities) (core_of at (sense c)) (sized_expression w place at) (core_sound at (sense c) (sound c)) (λ x h. value_given _ (sized_sound w entities world place at x))))

      aligned_of : (place : Place) (at : ℕ) (o : Option ℕ) → Gives (SoundSense w entities) (aligned w s sense place at o)
      aligned_of place at None = tt
      aligned_of place at (Some c) =
          as_sense_sound (type_of_sense at (sense c) >>= align_row w place at)
          (then_gives IsProper (Sound w entities) (type_of_sense at (sense c)) (align_row w place at) (type_sense_sound at (sense c) (sound c)) (λ t h. value_given _ (align_sound w entities world place at t h)))

      worded_sound : (place : Place) (at : ℕ) (rest : List ℕ) (word : ℕ) → Gives (SoundSense w entities) (worded w s sense place at rest word)
      worded_sound place at rest word =
          if_holds (Gives (SoundSense w entities)) (word == word_sizeof) _ _ (λ e. sized_of place at (last_where (λ c. not (is_leaf s c)) rest))
          (λ e. if_holds (Gives (SoundSense w entities)) (word == word_alignof) _ (Refuses Operand at) (λ e. aligned_of place at (last_where (λ c. not (is_leaf s c)) rest)) (λ e. tt))

      unary_of_sound : (at first : ℕ) (rest : List ℕ) (leafy : Bool) (kind : TokenKind) → Gives (SoundSense w entities) (unary_of w s sense at first rest leafy kind)
      unary_of_sound at first rest false kind = sound (last_of first rest)
      unary_of_sound at first rest true (Punctuator p) = prefixed_sound (place_at s first) at p rest
      unary_of_sound at first rest true (Keyword k) = worded_sound (place_at s first) at rest k
      unary_of_sound at first rest true kind = tt

      unary_sound : (at : ℕ) (children : List ℕ) → Gives (SoundSense w entities) (unary_row w s sense at children)
      unary_sound at [] = tt
      unary_sound at (first ∷ rest) = unary_of_sound at first rest (is_leaf s first) (kind_at s first)

      -- casts
      cast_with : (at c : ℕ) (rest : List ℕ) → Gives (Sound w entities) (elim rest as (λ _. Given Core) [ [] ↦ Refuses Operand at | t ∷ more ↦ type_of_sense at (sense t) >>= (λ type. core_of at (sense c) >>= (λ x. cast_row w at x type)) ])
      cast_with at c [] = tt
      cast_with at c (t ∷ more) =
          then_gives IsProper (Sound w entities) (type_of_sense at (sense t)) (λ type. core_of at (sense c) >>= (λ x. cast_row w at x type)) (type_sense_sound at (sense t) (sound t))
          (λ type proper.
          then_gives (Sound w entities) (Sound w entities) (core_of at (sense c)) (λ x. cast_row w at x type) (core_sound at (sense c) (sound c))
          (λ x h. gives_weaker (SoundOf w entities type) (Sound w entities) (cast_row w at x type) (λ c s. s.0) (cast_sound w entities world at x type h proper)))

      cast_over_sound : (at : ℕ) (rest : List ℕ) (c : ℕ) → Gives (SoundSense w entities) (cast_over w s sense at rest c)
      cast_over_sound at rest c = if_holds (Gives (SoundSense w entities)) (is_a s p_cast c) _ (Fits (sense c)) (λ e. as_sense_sound _ (cast_with at c rest)) (λ e. sound c)

      cast_last_sound : (at : ℕ) (rest : List ℕ) (o : Option ℕ) → Gives (SoundSense w entities) (cast_last w s sense at rest o)
      cast_last_sound at rest None = tt
      cast_last_sound at rest (Some c) = cast_over_sound at rest c

      cast_of_sound : (at first : ℕ) (rest : List ℕ) (leafy : Bool) → Gives (SoundSense w entities) (cast_of w s sense at first rest leafy)
      cast_of_sound at first rest false = sound first
      cast_of_sound at first rest true = cast_last_sound at rest (last_where (λ c. not (is_leaf s c)) rest)

      cast_row_sound : (at : ℕ) (children : List ℕ) → Gives (SoundSense w entities) (cast_row_of w s sense at children)
      cast_row_sound at [] = tt
      cast_row_sound at (first ∷ rest) = cast_of_sound at first rest (is_leaf s first)

      -- choices and assignments
      chosen_row_sound : (at c question a b : ℕ) → Gives (Sound w entities) (value_in w at (sense c) >>= (λ x. value_in w at (sense a) >>= (λ y. value_in w at (sense b) >>= choice_row w (place_at s question) at x y)))
      chosen_row_sound at c question a b =
          then_gives (SoundValue w entities) (Sound w entities) (value_in w at (sense c)) (λ x. value_in w at (sense a) >>= (λ y. value_in w at (sense b) >>= choice_row w (place_at s question) at x y)) (value_in_sound at (sense c) (sound c))
          (λ x g.
          then_gives (SoundValue w entities) (Sound w entities) (value_in w at (sense a)) (λ y. value_in w at (sense b) >>= choice_row w (place_at s question) at x y) (value_in_sound at (sense a) (sound a))
          (λ y h.
          then_gives (SoundValue w entities) (Sound w entities) (value_in w at (sense b)) (choice_row w (place_at s question) at x y) (value_in_sound at (sense b) (sound b))
          (λ z k. value_given _ (choice_sound w entities (place_at s question) at x y z g h k))))

      conditional_sound : (at : ℕ) (children : List ℕ) → Gives (SoundSense w entities) (conditional_row w s sense at children)
      conditional_sound at (c ∷ []) = sound c
      conditional_sound at (c ∷ question ∷ a ∷ colon ∷ b ∷ []) = as_sense_sound _ (chosen_row_sound at c question a b)
      conditional_sound at children = tt

      assigned_sound : (at o : ℕ) (p b : Core) (sign : ℕ) → Sound w entities p → Sound w entities b → Gives (Sound w entities) (assigned w s sense at o p b sign)
      assigned_sound at o p b sign h k =
          if_holds (Gives (Sound w entities)) (sign == sign_assign) _ _
          (λ e. then_gives (SoundValue w entities) (Sound w entities) (value_of w at b) (assign_row w (place_at s o) at p) (value_sound w entities at b k) (λ v q. value_given _ (assign_sound w entities world (place_at s o) at p v h q)))
          (λ e.
          some_given (Sound w entities) (assigned_op sign) Operand at (λ op. value_of w at b >>= update_row w op false (place_at s o) at p)
          (λ op f.
          then_gives (SoundValue w entities) (Sound w entities) (value_of w at b) (update_row w op false (place_at s o) at p) (value_sound w entities at b k)
          (λ v q. value_given _ (update_sound w entities world op false (place_at s o) at p v (some_updates (assigned_op sign) op f (assigned_updates sign)) h q))))

      assigned_by_sound : (at o : ℕ) (p b : Core) (sign : Option ℕ) → Sound w entities p → Sound w entities b → Gives (Sound w entities) (assigned_by w s sense at o p b sign)
      assigned_by_sound at o p b None h k = tt
      assigned_by_sound at o p b (Some sign) h k = assigned_sound at o p b sign h k

      assignment_sound : (at : ℕ) (children : List ℕ) → Gives (SoundSense w entities) (assignment_row w s sense at children)
      assignment_sound at (c ∷ []) = sound c
      assignment_sound at (p ∷ o ∷ v ∷ []) =
          as_sense_sound (core_of at (sense p) >>= (λ a. core_of at (sense v) >>= (λ b. assigned_by w s sense at o a b (sign_at s o))))
          (then_gives (Sound w entities) (Sound w entities) (core_of at (sense p)) (λ a. core_of at (sense v) >>= (λ b. assigned_by w s sense at o a b (sign_at s o))) (core_sound at (sense p) (sound p))
          (λ a h.
          then_gives (Sound w entities) (Sound w entities) (core_of at (sense v)) (λ b. assigned_by w s sense at o a b (sign_at s o)) (core_sound at (sense v) (sound v)) (λ b k. assigned_by_sound at o a b (sign_at s o) h k)))
      assignment_sound at children = tt

      pub expression_sound : (production at : ℕ) (children : List ℕ) → ((production == p_primary) ≡ true → PrimaryFits w entities children)
          → Gives (SoundSense w entities) (expression_row w s sense production at children)
      expression_sound production at children names =
          if_holds (Gives (SoundSense w entities)) (production == p_primary) _ _ (λ e. primary_sound at children (names e))
          (λ e. if_holds (Gives (SoundSense w entities)) (production == p_post) _ _ (λ e. post_sound at children)
          (λ e. if_holds (Gives (SoundSense w entities)) (production == p_unary) _ _ (λ e. unary_sound at children)
          (λ e. if_holds (Gives (SoundSense w entities)) (production == p_cast) _ _ (λ e. cast_row_sound at children)
          (λ e. if_holds (Gives (SoundSense w entities)) (production == p_conditional) _ _ (λ e. conditional_sound at children)
          (λ e. if_holds (Gives (SoundSense w entities)) (production == p_assignment) _ _ (λ e. assignment_sound at children)
          (λ e. if_holds (Gives (SoundSense w entities)) (is_binary w s sense production) _ (Refuses Operand at) (λ e. binary_sound at children) (λ e. tt)))))))
