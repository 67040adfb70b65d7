-- The rows of expressions keep the rows of constants.
use Rattle.std.specs.Prelude.{codes}
use Rattle.std.specs.Str.{bytes_eq}
use Rattle.std.proofs.Common.{◌≡◌, ℕ, Bool, true, false, ◌==◌, not, List, [], ◌∷◌, Option, Some, None, refl}
use Rattle.std.specs.Prelude.{if◌then◌else◌}
use Rattle.pta_base.specs.declared.kind.Kind.TheVariants.{Operand}
use Rattle.pta_base.specs.declared.place.Place.{Place}
use Rattle.c_lexer.specs.declared.TokenKind.{TokenKind}
use Rattle.c_lexer.specs.declared.TokenKind.TheVariants.{Identifier, Punctuator, Integer, Character, Text}
use Rattle.c_types.specs.Trees.{Ctype}
use Rattle.c_conversions.specs.passed.core_tree.declared.node.Op.TheVariants.{Plus, Minus, Complement}
use Rattle.c_grammar.specs.Productions.{p_type_name, p_cast}
use Rattle.c_grammar.specs.Words.{sign_left_bracket, sign_left_parenthesis, sign_dot, sign_arrow, sign_increment, sign_decrement, sign_ampersand, sign_star, sign_plus, sign_minus, sign_tilde, sign_assign}
use Rattle.c_senses.specs.passed.c_consts.Core.{Core, ctype_of, core_sort}
use Rattle.c_senses.specs.Tree.{Source, is_a, is_leaf, place_at, spelling_at, kind_at, sign_at, last_where, all_where, left_of}
use Rattle.c_senses.specs.Given.{Given, Fits, Refuses, ◌>>=◌}
use Rattle.c_senses.specs.World.{World}
use Rattle.c_senses.specs.Conversions.{operand_of, value_of}
use Rattle.c_senses.specs.Operators.{between, operator, number_core, choice_row}
use Rattle.c_senses.specs.Objects.{name_row, index_row, member_row, arrow_row, assign_row, assigned_op, update_row, call_row, cast_row, size_row, sized_expression, next_row, end_row}
use Rattle.c_senses.specs.Sense.{Sense, IsCore, IsType, core_of, value_in, type_of_sense}
use Rattle.c_senses.specs.Expressions.{as_sense, indexed_core, is_operator, value_core, operator_core, passed, named_of, step, chained, is_single, binary_row, string_bytes, primary_of, primary_row, indexed, dotted, pointed, all_cores, called, counted_after, post_of, post_signed, post_row, prefixed_core, prefixed, sized, cast_over, cast_last, cast_of, cast_row_of, conditional_row, assigned, assigned_by, assignment_row, two_lists, list_core, list_row}
use Rattle.c_conversions.specs.Constants.{HasRows}
use Rattle.parsed_tree_laws.specs.sense_laws.Sound.{Gives}
use Rattle.parsed_tree_laws.proofs.sense_laws.Giving.{then_gives, gives_weaker, some_given, if_holds}
use Rattle.parsed_tree_laws.proofs.sense_laws.Literals.{integer_holds, character_holds}
use Rattle.parsed_tree_laws.specs.sense_laws.row_trees.Trees.{RowsValue, RowsOf, SenseHasRows, AllHaveRows, ValuesFit, ConstantFits}
use Rattle.parsed_tree_laws.proofs.sense_laws.row_trees.Conversions.{value_rows}
use Rattle.parsed_tree_laws.proofs.sense_laws.row_trees.Operators.{between_rows, operator_fits, promoted_row_rows, not_rows, choice_rows, one_rows}
use Rattle.parsed_tree_laws.proofs.sense_laws.row_trees.Objects.{text_rows, name_rows, address_rows, indirection_rows, index_rows, member_rows, arrow_rows, assign_rows, update_rows, cast_rows, size_rows, sized_rows, call_rows, start_rows, copy_rows, next_rows, end_rows}

module _ (w : World) where
  pub as_sense_rows : (g : Given Core) → Gives HasRows g → Gives SenseHasRows (as_sense g)
  as_sense_rows (Fits c) h = h
  as_sense_rows (Refuses kind node) h = tt

  pub value_given : (g : Given Core) → Gives (RowsValue) g → Gives HasRows g
  value_given g h = gives_weaker (RowsValue) HasRows g (λ c s. s.0) h

  pub core_rows : (at : ℕ) (x : Sense) → SenseHasRows x → Gives HasRows (core_of at x)
  core_rows at (IsCore c) h = h
  core_rows at x h = tt

  pub value_in_rows : (at : ℕ) (x : Sense) → SenseHasRows x → Gives (RowsValue) (value_in w at x)
  value_in_rows at x h = then_gives HasRows (RowsValue) (core_of at x) (value_of w at) (core_rows at x h) (λ c s. value_rows w at c s)

  type_given : {A : Type 0} (P : A → Type 0) (at : ℕ) (x : Sense) (f : Ctype → Given A) → ((t : Ctype) → Gives P (f t)) → Gives P (type_of_sense at x >>= f)
  type_given P at (IsType t) f h = h t
  type_given P at x f h = tt

  indexed_core_rows : (place : Place) (at : ℕ) (x y : Sense) → SenseHasRows x → SenseHasRows y → Gives HasRows (indexed_core w place at x y)
  indexed_core_rows place at x y h k =
      then_gives (RowsValue) HasRows (value_in w at x) (λ a. value_in w at y >>= (λ b. index_row w place at a b (operand_of (ctype_of a)) (operand_of (ctype_of b)))) (value_in_rows at x h)
      (λ a s.
      then_gives (RowsValue) HasRows (value_in w at y) (λ b. index_row w place at a b (operand_of (ctype_of a)) (operand_of (ctype_of b))) (value_in_rows at y k)
      (λ b t. index_rows w place at a b s t (operand_of (ctype_of a)) (operand_of (ctype_of b)) refl refl))

  value_core_rows : (place : Place) (at : ℕ) (v : Core) (sign : ℕ) → RowsValue v → Gives HasRows (value_core w place at v sign)
  value_core_rows place at v sign h =
      if_holds (Gives HasRows) (sign == sign_star) _ _ (λ e. indirection_rows w place at v h.0 (operand_of (ctype_of v)))
      (λ e. if_holds (Gives HasRows) (sign == sign_plus) _ _ (λ e. value_given _ (promoted_row_rows w Plus place at v (λ a t r. r) h (operand_of (ctype_of v)) refl))
      (λ e. if_holds (Gives HasRows) (sign == sign_minus) _ _ (λ e. value_given _ (promoted_row_rows w Minus place at v (λ a t r. r) h (operand_of (ctype_of v)) refl))
      (λ e. if_holds (Gives HasRows) (sign == sign_tilde) _ _ (λ e. value_given _ (promoted_row_rows w Complement place at v (λ a t r. r) h (operand_of (ctype_of v)) refl))
      (λ e. value_given _ (not_rows w place at v h)))))

  operator_core_rows : (place : Place) (at : ℕ) (x : Core) (sign : ℕ) → HasRows x → Gives HasRows (operator_core w place at x sign)
  operator_core_rows place at x sign h =
      if_holds (Gives HasRows) (sign == sign_ampersand) _ _ (λ e. address_rows w place at x h (core_sort x))
      (λ e. then_gives (RowsValue) HasRows (value_of w at x) (λ v. value_core w place at v sign) (value_rows w at x h) (λ v s. value_core_rows place at v sign s))

  module _ (s : Source) (sense : ℕ → Sense) (sound : (i : ℕ) → SenseHasRows (sense i)) where
    -- operators between operands
    pub step_rows : (named o : ℕ) (a b : Core) (sign : Option ℕ) → HasRows a → HasRows b → Gives HasRows (step w s sense (between w) named o a b sign)
    step_rows named o a b None h k = tt
    step_rows named o a b (Some sign) h k =
        then_gives (RowsValue) HasRows (value_of w named a) (λ x. value_of w named b >>= between w (operator sign) (place_at s o) named x) (value_rows w named a h)
        (λ x p.
        then_gives (RowsValue) HasRows (value_of w named b) (between w (operator sign) (place_at s o) named x) (value_rows w named b k)
        (λ y q. value_given _ (between_rows w (operator sign) (place_at s o) named x y (operator_fits w sign) p q)))

    chained_rows : (at : ℕ) (single : Bool) (left : Core) (list : List ℕ) → HasRows left → Gives HasRows (chained w s sense (between w) at single left list)
    chained_rows at single left [] h = h
    chained_rows at single left (o ∷ []) h = tt
    chained_rows at single left (o ∷ c ∷ rest) h =
        let named : ℕ = named_of w s sense (between w) at o single in
        then_gives HasRows HasRows (core_of named (sense c)) (λ b. step w s sense (between w) named o left b (sign_at s o) >>= (λ x. chained w s sense (between w) at single x rest)) (core_rows named (sense c) (sound c))
        (λ b k.
        then_gives HasRows HasRows (step w s sense (between w) named o left b (sign_at s o)) (λ x. chained w s sense (between w) at single x rest) (step_rows named o left b (sign_at s o) h k)
        (λ x q. chained_rows at single x rest q))

    pub binary_rows : (at : ℕ) (children : List ℕ) → Gives SenseHasRows (binary_row w s sense (between w) at children)
    binary_rows at [] = tt
    binary_rows at (first ∷ []) = sound first
    binary_rows at (first ∷ o ∷ rest) =
        as_sense_rows (core_of at (sense first) >>= (λ a. chained w s sense (between w) at (is_single w s sense (between w) (o ∷ rest)) a (o ∷ rest)))
        (then_gives HasRows HasRows (core_of at (sense first)) (λ a. chained w s sense (between w) at (is_single w s sense (between w) (o ∷ rest)) a (o ∷ rest)) (core_rows at (sense first) (sound first))
        (λ a h. chained_rows at (is_single w s sense (between w) (o ∷ rest)) a (o ∷ rest) h))

    passed_rows : (at : ℕ) (children : List ℕ) → Gives SenseHasRows (passed sense at children)
    passed_rows at [] = tt
    passed_rows at (c ∷ rest) = sound c

    -- operations on variadic lists
    two_lists_rows : (at : ℕ) (place : Place) (name : List ℕ) (a b : Core) → HasRows a → HasRows b → Gives HasRows (two_lists w s sense at place name a b)
    two_lists_rows at place name a b h k =
        if_holds (Gives HasRows) (bytes_eq name (codes "__builtin_va_copy")) _ _ (λ e. copy_rows w place at a b h k) (λ e. start_rows w place at a b h)

    list_core_rows : (at : ℕ) (place : Place) (name : List ℕ) (parts : List ℕ) → Gives HasRows (list_core w s sense at place name parts)
    list_core_rows at place name [] = tt
    list_core_rows at place name (a ∷ []) =
        then_gives HasRows HasRows (core_of at (sense a)) (end_row w place at) (core_rows at (sense a) (sound a)) (λ x h. end_rows w place at x h)
    list_core_rows at place name (a ∷ b ∷ []) =
        if_holds (Gives HasRows) (is_a s p_type_name b) _ _
        (λ e. then_gives HasRows HasRows (core_of at (sense a)) _ (core_rows at (sense a) (sound a)) (λ x h. type_given HasRows at (sense b) (next_row place at x) (λ t. next_rows w place at x t h)))
        (λ e. then_gives HasRows HasRows (core_of at (sense a)) _ (core_rows at (sense a) (sound a))
        (λ x h. then_gives HasRows HasRows (core_of at (sense b)) (two_lists w s sense at place name x) (core_rows at (sense b) (sound b)) (λ y k. two_lists_rows at place name x y h k)))
    list_core_rows at place name (a ∷ b ∷ c ∷ rest) = tt

    pub list_row_rows : (at first : ℕ) (rest : List ℕ) → Gives SenseHasRows (list_row w s sense at first rest)
    list_row_rows at first rest =
        as_sense_rows (list_core w s sense at (place_at s first) (spelling_at s first) (all_where (λ c. not (is_leaf s c)) rest))
        (list_core_rows at (place_at s first) (spelling_at s first) (all_where (λ c. not (is_leaf s c)) rest))

    primary_of_rows : ValuesFit w → (at first : ℕ) (rest : List ℕ) (kind : TokenKind) → ConstantFits s first → kind_at s first ≡ kind → Gives SenseHasRows (primary_of w s sense at first rest kind)
    primary_of_rows values at first (c ∷ rest) Identifier fit e = list_row_rows at first (c ∷ rest)
    primary_of_rows values at first [] Identifier fit e = as_sense_rows (name_row w (place_at s first) at (w.meaning first)) (name_rows w values (place_at s first) at first (w.meaning first) refl)
    primary_of_rows values at first rest Integer fit e = ((integer_holds (spelling_at s first) (fit e)).0, tt)
    primary_of_rows values at first rest Character fit e = (character_holds (spelling_at s first), tt)
    primary_of_rows values at first rest Text fit e = text_rows w (place_at s first) (string_bytes w s sense (first ∷ rest))
    primary_of_rows values at first rest (Punctuator p) fit e = passed_rows at rest
    primary_of_rows values at first rest kind fit e = tt

    pub primary_rows : ValuesFit w → (at first : ℕ) (rest : List ℕ) → ConstantFits s first → Gives SenseHasRows (primary_row w s sense at (first ∷ rest))
    primary_rows values at first rest fit = primary_of_rows values at first rest (kind_at s first) fit refl

    -- what follows a primary
    indexed_rows : (place : Place) (at : ℕ) (left : Sense) (list : List ℕ) → SenseHasRows left → Gives SenseHasRows (indexed w s sense place at left list)
    indexed_rows place at left [] h = tt
    indexed_rows place at left (e ∷ rest) h = as_sense_rows (indexed_core w place at left (sense e)) (indexed_core_rows place at left (sense e) h (sound e))

    dotted_rows : (place : Place) (at : ℕ) (left : Sense) (list : List ℕ) → SenseHasRows left → Gives SenseHasRows (dotted w s sense place at left list)
    dotted_rows place at left [] h = tt
    dotted_rows place at left (name ∷ rest) h =
        as_sense_rows (core_of at left >>= member_row w place at (spelling_at s name))
        (then_gives HasRows HasRows (core_of at left) (member_row w place at (spelling_at s name)) (core_rows at left h) (λ c k. member_rows w place at (spelling_at s name) c k))

    pointed_rows : (place : Place) (at : ℕ) (left : Sense) (list : List ℕ) → SenseHasRows left → Gives SenseHasRows (pointed w s sense place at left list)
    pointed_rows place at left [] h = tt
    pointed_rows place at left (name ∷ rest) h =
        as_sense_rows (value_in w at left >>= (λ v. arrow_row w place at (spelling_at s name) v (operand_of (ctype_of v))))
        (then_gives (RowsValue) HasRows (value_in w at left) (λ v. arrow_row w place at (spelling_at s name) v (operand_of (ctype_of v))) (value_in_rows at left h)
        (λ v k. arrow_rows w place at (spelling_at s name) v k.0 (operand_of (ctype_of v))))

    all_cores_rows : (at : ℕ) (list : List ℕ) → Gives AllHaveRows (all_cores w s sense at list)
    all_cores_rows at [] = tt
    all_cores_rows at (c ∷ rest) =
        then_gives HasRows AllHaveRows (core_of at (sense c)) (λ x. all_cores w s sense at rest >>= (λ more. Fits (x ∷ more))) (core_rows at (sense c) (sound c))
        (λ x h. then_gives AllHaveRows AllHaveRows (all_cores w s sense at rest) (λ more. Fits (x ∷ more)) (all_cores_rows at rest) (λ more k. (h, k)))

    pub called_rows : (place : Place) (at : ℕ) (left : Sense) (rest : List ℕ) → SenseHasRows left → Gives SenseHasRows (called w s sense place at left rest)
    called_rows place at left rest h =
        let list : List ℕ = all_where (λ c. not (is_leaf s c)) rest in
        as_sense_rows (core_of at left >>= (λ f. all_cores w s sense at list >>= call_row w place at f))
        (then_gives HasRows HasRows (core_of at left) (λ f. all_cores w s sense at list >>= call_row w place at f) (core_rows at left h)
        (λ f k.
        then_gives AllHaveRows HasRows (all_cores w s sense at list) (call_row w place at f) (all_cores_rows at list)
        (λ args l. call_rows w place at f args k l)))

    counted_rows : (post : Bool) (place : Place) (at : ℕ) (p : Core) (down : Bool) → HasRows p → Gives HasRows (update_row w (if down then Minus else Plus) post place at p (number_core 1 place))
    counted_rows post place at p down h =
        let one = one_rows w place in
        value_given _ (update_rows w (if down then Minus else Plus) post place at p (number_core 1 place) h (one.0, one.1.0))

    counted_after_rows : (place : Place) (at : ℕ) (left : Sense) (down : Bool) → SenseHasRows left → Gives SenseHasRows (counted_after w s sense place at left down)
    counted_after_rows place at left down h =
        as_sense_rows (core_of at left >>= (λ p. update_row w (if down then Minus else Plus) true place at p (number_core 1 place)))
        (then_gives HasRows HasRows (core_of at left) (λ p. update_row w (if down then Minus else Plus) true place at p (number_core 1 place)) (core_rows at left h) (λ p k. counted_rows true place at p down k))

    pub post_of_rows : (place : Place) (at : ℕ) (left : Sense) (rest : List ℕ) (sign : ℕ) → SenseHasRows left → Gives SenseHasRows (post_of w s sense place at left rest sign)
    post_of_rows place at left rest sign h =
        if_holds (Gives SenseHasRows) (sign == sign_left_bracket) _ _ (λ e. indexed_rows place at left rest h)
        (λ e. if_holds (Gives SenseHasRows) (sign == sign_left_parenthesis) _ _ (λ e. called_rows place at left rest h)
        (λ e. if_holds (Gives SenseHasRows) (sign == sign_dot) _ _ (λ e. dotted_rows place at left rest h)
        (λ e. if_holds (Gives SenseHasRows) (sign == sign_arrow) _ _ (λ e. pointed_rows place at left rest h)
        (λ e. if_holds (Gives SenseHasRows) (sign == sign_increment) _ _ (λ e. counted_after_rows place at left false h)
        (λ e. if_holds (Gives SenseHasRows) (sign == sign_decrement) _ (Refuses Operand at) (λ e. counted_after_rows place at left true h) (λ e. tt))))))

    pub post_signed_rows : (place : Place) (at : ℕ) (left : Sense) (rest : List ℕ) (sign : Option ℕ) → SenseHasRows left → Gives SenseHasRows (post_signed w s sense place at left rest sign)
    post_signed_rows place at left rest None h = tt
    post_signed_rows place at left rest (Some sign) h = post_of_rows place at left rest sign h

    pub post_rows : (at : ℕ) (children : List ℕ) → Gives SenseHasRows (post_row w s sense at children)
    post_rows at [] = tt
    post_rows at (first ∷ rest) = post_signed_rows (place_at s first) at (sense (left_of s first)) rest (sign_at s first) (sound (left_of s first))

    -- operators before their operands
    prefixed_core_rows : (place : Place) (at : ℕ) (x : Core) (sign : ℕ) → HasRows x → Gives HasRows (prefixed_core w s sense place at x sign)
    prefixed_core_rows place at x sign h =
        if_holds (Gives HasRows) (is_operator sign) _ _ (λ e. operator_core_rows place at x sign h)
        (λ e. if_holds (Gives HasRows) (sign == sign_increment) _ _ (λ e. counted_rows false place at x false h)
        (λ e. if_holds (Gives HasRows) (sign == sign_decrement) _ (Refuses Operand at) (λ e. counted_rows false place at x true h) (λ e. tt)))

    pub prefixed_rows : (place : Place) (at sign : ℕ) (list : List ℕ) → Gives SenseHasRows (prefixed w s sense place at sign list)
    prefixed_rows place at sign [] = tt
    prefixed_rows place at sign (operand ∷ rest) =
        as_sense_rows (core_of at (sense operand) >>= (λ x. prefixed_core w s sense place at x sign))
        (then_gives HasRows HasRows (core_of at (sense operand)) (λ x. prefixed_core w s sense place at x sign) (core_rows at (sense operand) (sound operand)) (λ x h. prefixed_core_rows place at x sign h))

    pub sized_of : (place : Place) (at : ℕ) (o : Option ℕ) → Gives SenseHasRows (sized w s sense place at o)
    sized_of place at None = tt
    sized_of place at (Some c) =
        if_holds (Gives SenseHasRows) (is_a s p_type_name c) _ _ (λ e. as_sense_rows (type_of_sense at (sense c) >>= size_row w place at) (type_given HasRows at (sense c) (size_row w place at) (λ t. size_rows w place at t)))
        (λ e.
        as_sense_rows (core_of at (sense c) >>= sized_expression w place at)
        (then_gives HasRows HasRows (core_of at (sense c)) (sized_expression w place at) (core_rows at (sense c) (sound c)) (λ x h. sized_rows w place at x)))

    -- casts
    cast_with : (at c : ℕ) (rest : List ℕ) → Gives HasRows (elim rest as (λ _. Given Core) [ [] ↦ Refuses Operand at | t ∷ more ↦ type_of_sense at (sense t) >>= (λ type. core_of at (sense c) >>= (λ x. cast_row w at x type)) ])
    cast_with at c [] = tt
    cast_with at c (t ∷ more) =
        type_given HasRows at (sense t) (λ type. core_of at (sense c) >>= (λ x. cast_row w at x type))
        (λ type.
        then_gives HasRows HasRows (core_of at (sense c)) (λ x. cast_row w at x type) (core_rows at (sense c) (sound c)) (λ x h. gives_weaker (RowsOf type) HasRows (cast_row w at x type) (λ c s. s.0) (cast_rows w at x type h)))

    cast_over_rows : (at : ℕ) (rest : List ℕ) (c : ℕ) → Gives SenseHasRows (cast_over w s sense at rest c)
    cast_over_rows at rest c = if_holds (Gives SenseHasRows) (is_a s p_cast c) _ (Fits (sense c)) (λ e. as_sense_rows _ (cast_with at c rest)) (λ e. sound c)

    cast_last_rows : (at : ℕ) (rest : List ℕ) (o : Option ℕ) → Gives SenseHasRows (cast_last w s sense at rest o)
    cast_last_rows at rest None = tt
    cast_last_rows at rest (Some c) = cast_over_rows at rest c

    cast_of_rows : (at first : ℕ) (rest : List ℕ) (leafy : Bool) → Gives SenseHasRows (cast_of w s sense at first rest leafy)
    cast_of_rows at first rest false = sound first
    cast_of_rows at first rest true = cast_last_rows at rest (last_where (λ c. not (is_leaf s c)) rest)

    pub cast_row_rows : (at : ℕ) (children : List ℕ) → Gives SenseHasRows (cast_row_of w s sense at children)
    cast_row_rows at [] = tt
    cast_row_rows at (first ∷ rest) = cast_of_rows at first rest (is_leaf s first)

    -- choices and assignments
    chosen_row_rows : (at c question a b : ℕ) → Gives HasRows (value_in w at (sense c) >>= (λ x. value_in w at (sense a) >>= (λ y. value_in w at (sense b) >>= choice_row w (place_at s question) at x y)))
    chosen_row_rows at c question a b =
        then_gives (RowsValue) HasRows (value_in w at (sense c)) (λ x. value_in w at (sense a) >>= (λ y. value_in w at (sense b) >>= choice_row w (place_at s question) at x y)) (value_in_rows at (sense c) (sound c))
        (λ x g.
        then_gives (RowsValue) HasRows (value_in w at (sense a)) (λ y. value_in w at (sense b) >>= choice_row w (place_at s question) at x y) (value_in_rows at (sense a) (sound a))
        (λ y h.
        then_gives (RowsValue) HasRows (value_in w at (sense b)) (choice_row w (place_at s question) at x y) (value_in_rows at (sense b) (sound b))
        (λ z k. value_given _ (choice_rows w (place_at s question) at x y z g h k))))

    pub conditional_rows : (at : ℕ) (children : List ℕ) → Gives SenseHasRows (conditional_row w s sense at children)
    conditional_rows at (c ∷ []) = sound c
    conditional_rows at (c ∷ question ∷ a ∷ colon ∷ b ∷ []) = as_sense_rows _ (chosen_row_rows at c question a b)
    conditional_rows at children = tt

    assigned_rows : (at o : ℕ) (p b : Core) (sign : ℕ) → HasRows p → HasRows b → Gives HasRows (assigned w s sense at o p b sign)
    assigned_rows at o p b sign h k =
        if_holds (Gives HasRows) (sign == sign_assign) _ _
        (λ e. then_gives (RowsValue) HasRows (value_of w at b) (assign_row w (place_at s o) at p) (value_rows w at b k) (λ v q. value_given _ (assign_rows w (place_at s o) at p v h q)))
        (λ e.
        some_given HasRows (assigned_op sign) Operand at (λ op. value_of w at b >>= update_row w op false (place_at s o) at p)
        (λ op f.
        then_gives (RowsValue) HasRows (value_of w at b) (update_row w op false (place_at s o) at p) (value_rows w at b k)
        (λ v q. value_given _ (update_rows w op false (place_at s o) at p v h q))))

    pub assigned_by_rows : (at o : ℕ) (p b : Core) (sign : Option ℕ) → HasRows p → HasRows b → Gives HasRows (assigned_by w s sense at o p b sign)
    assigned_by_rows at o p b None h k = tt
    assigned_by_rows at o p b (Some sign) h k = assigned_rows at o p b sign h k

    pub assignment_rows : (at : ℕ) (children : List ℕ) → Gives SenseHasRows (assignment_row w s sense at children)
    assignment_rows at (c ∷ []) = sound c
    assignment_rows at (p ∷ o ∷ v ∷ []) =
        as_sense_rows (core_of at (sense p) >>= (λ a. core_of at (sense v) >>= (λ b. assigned_by w s sense at o a b (sign_at s o))))
        (then_gives HasRows HasRows (core_of at (sense p)) (λ a. core_of at (sense v) >>= (λ b. assigned_by w s sense at o a b (sign_at s o))) (core_rows at (sense p) (sound p))
        (λ a h.
        then_gives HasRows HasRows (core_of at (sense v)) (λ b. assigned_by w s sense at o a b (sign_at s o)) (core_rows at (sense v) (sound v)) (λ b k. assigned_by_rows at o a b (sign_at s o) h k)))
    assignment_rows at children = tt
