-- Rows of expressions give core trees, or what one of their parts stands for.
use Rattle.std.proofs.Common.{◌==◌, ℕ, Bool, true, false, cond, List, [], ◌∷◌, Option, Some, None}
use Rattle.c_lexer.specs.declared.TokenKind.{TokenKind}
use Rattle.c_lexer.specs.declared.TokenKind.TheVariants.{Identifier, Integer, Character, Text, Punctuator, Keyword, Floating, End}
use Rattle.pta_base.specs.declared.place.Place.{Place}
use Rattle.c_grammar.specs.Productions.{p_primary, p_post, p_unary, p_cast, p_conditional, p_assignment, p_cast, p_type_name}
use Rattle.c_grammar.specs.Words.{sign_left_bracket, sign_left_parenthesis, sign_dot, sign_arrow, sign_increment, sign_decrement, word_sizeof, word_alignof}
use Rattle.c_consts.specs.Core.{Core}
use Rattle.c_senses.specs.Tree.{Source, is_a, is_leaf, kind_at, sign_at, place_at, last_where, all_where}
use Rattle.c_senses.specs.Given.{Given, Fits, Refuses}
use Rattle.c_senses.specs.World.{World}
use Rattle.c_senses.specs.Sense.{Sense, IsCore, last_of}
use Rattle.c_senses.specs.Tree.{left_of}
use Rattle.c_senses.specs.Operators.{between}
use Rattle.c_senses.specs.Expressions.{as_sense, passed, binary_of, binary_row, primary_of, primary_row, indexed, dotted, pointed, called, counted_after, post_of, post_signed, post_row, prefixed, sized, aligned, worded, unary_of, unary_row, cast_over, cast_last, cast_of, cast_row_of, conditional_row, assignment_row, is_binary, expression_row}
use Rattle.parsed_tree_laws.specs.sense_laws.Sound.{Gives}
use Rattle.parsed_tree_laws.proofs.sense_laws.Giving.{if_holds}

module _ (K : Sense → Type 0) (core : (c : Core) → K (IsCore c)) where
  pub cores_give : (g : Given Core) → Gives K (as_sense g)
  cores_give (Fits c) = core c
  cores_give (Refuses kind node) = tt

  module _ (w : World) (s : Source) (sense : ℕ → Sense) (all : (i : ℕ) → K (sense i)) where
    binary_gives : (at : ℕ) (xs : List ℕ) → Gives K (binary_row w s sense (between w) at xs)
    binary_gives at [] = tt
    binary_gives at (c ∷ []) = all c
    binary_gives at (c ∷ o ∷ rest) = cores_give _

    passed_gives : (at : ℕ) (xs : List ℕ) → Gives K (passed sense at xs)
    passed_gives at [] = tt
    passed_gives at (c ∷ rest) = all c

    kind_gives : (at first : ℕ) (rest : List ℕ) (kind : TokenKind) → Gives K (primary_of w s sense at first rest kind)
    kind_gives at first [] Identifier = cores_give _
    kind_gives at first (c ∷ rest) Identifier = cores_give _
    kind_gives at first rest Integer = core _
    kind_gives at first rest Character = core _
    kind_gives at first rest Text = core _
    kind_gives at first rest (Punctuator p) = passed_gives at rest
    kind_gives at first rest (Keyword k) = tt
    kind_gives at first rest Floating = tt
    kind_gives at first rest End = tt

    primary_gives : (at : ℕ) (xs : List ℕ) → Gives K (primary_row w s sense at xs)
    primary_gives at [] = tt
    primary_gives at (first ∷ rest) = kind_gives at first rest (kind_at s first)

    indexed_gives : (place : Place) (at : ℕ) (left : Sense) (xs : List ℕ) → Gives K (indexed w s sense place at left xs)
    indexed_gives place at left [] = tt
    indexed_gives place at left (e ∷ rest) = cores_give _

    dotted_gives : (place : Place) (at : ℕ) (left : Sense) (xs : List ℕ) → Gives K (dotted w s sense place at left xs)
    dotted_gives place at left [] = tt
    dotted_gives place at left (e ∷ rest) = cores_give _

    pointed_gives : (place : Place) (at : ℕ) (left : Sense) (xs : List ℕ) → Gives K (pointed w s sense place at left xs)
    pointed_gives place at left [] = tt
    pointed_gives place at left (e ∷ rest) = cores_give _

    post_gives : (at : ℕ) (xs : List ℕ) → Gives K (post_row w s sense at xs)
    post_gives at [] = tt
    post_gives at (first ∷ rest) = by_sign (sign_at s first)
      where
        place : Place
        place = place_at s first

        left : Sense
        left = sense (left_of s first)

        by : (sign : ℕ) → Gives K (post_of w s sense place at left rest sign)
        by sign =
            if_holds (Gives K) (sign == sign_left_bracket) _ _ (λ e. indexed_gives place at left rest)
            (λ e. if_holds (Gives K) (sign == sign_left_parenthesis) _ _ (λ e. cores_give _)
            (λ e. if_holds (Gives K) (sign == sign_dot) _ _ (λ e. dotted_gives place at left rest)
            (λ e. if_holds (Gives K) (sign == sign_arrow) _ _ (λ e. pointed_gives place at left rest)
            (λ e. if_holds (Gives K) (sign == sign_increment) _ _ (λ e. cores_give _)
            (λ e. if_holds (Gives K) (sign == sign_decrement) _ (Refuses _ at) (λ e. cores_give _) (λ e. tt))))))

        by_sign : (o : Option ℕ) → Gives K (post_signed w s sense place at left rest o)
        by_sign None = tt
        by_sign (Some sign) = by sign

    prefixed_gives : (place : Place) (at sign : ℕ) (xs : List ℕ) → Gives K (prefixed w s sense place at sign xs)
    prefixed_gives place at sign [] = tt
    prefixed_gives place at sign (operand ∷ rest) = cores_give _

    sized_gives : (place : Place) (at : ℕ) (o : Option ℕ) → Gives K (sized w s sense place at o)
    sized_gives place at None = tt
    sized_gives place at (Some c) = if_holds (Gives K) (is_a s p_type_name c) _ _ (λ e. cores_give _) (λ e. cores_give _)

    aligned_gives : (place : Place) (at : ℕ) (o : Option ℕ) → Gives K (aligned w s sense place at o)
    aligned_gives place at None = tt
    aligned_gives place at (Some c) = cores_give _

    worded_gives : (place : Place) (at : ℕ) (rest : List ℕ) (word : ℕ) → Gives K (worded w s sense place at rest word)
    worded_gives place at rest word =
        if_holds (Gives K) (word == word_sizeof) _ _ (λ e. sized_gives place at (last_where _ rest))
        (λ e. if_holds (Gives K) (word == word_alignof) _ (Refuses _ at) (λ e. aligned_gives place at (last_where _ rest)) (λ e. tt))

    unary_of_gives : (at first : ℕ) (rest : List ℕ) (leafy : Bool) (kind : TokenKind) → Gives K (unary_of w s sense at first rest leafy kind)
    unary_of_gives at first rest false kind = all (last_of first rest)
    unary_of_gives at first rest true (Punctuator p) = prefixed_gives (place_at s first) at p rest
    unary_of_gives at first rest true (Keyword k) = worded_gives (place_at s first) at rest k
    unary_of_gives at first rest true Identifier = tt
    unary_of_gives at first rest true Integer = tt
    unary_of_gives at first rest true Character = tt
    unary_of_gives at first rest true Text = tt
    unary_of_gives at first rest true Floating = tt
    unary_of_gives at first rest true End = tt

    unary_gives : (at : ℕ) (xs : List ℕ) → Gives K (unary_row w s sense at xs)
    unary_gives at [] = tt
    unary_gives at (first ∷ rest) = unary_of_gives at first rest (is_leaf s first) (kind_at s first)

    cast_last_gives : (at : ℕ) (rest : List ℕ) (o : Option ℕ) → Gives K (cast_last w s sense at rest o)
    cast_last_gives at rest None = tt
    cast_last_gives at rest (Some c) = if_holds (Gives K) (is_a s p_cast c) _ (Fits (sense c)) (λ e. cores_give _) (λ e. all c)

    cast_of_gives : (at first : ℕ) (rest : List ℕ) (leafy : Bool) → Gives K (cast_of w s sense at first rest leafy)
    cast_of_gives at first rest false = all first
    cast_of_gives at first rest true = cast_last_gives at rest (last_where _ rest)

    cast_gives : (at : ℕ) (xs : List ℕ) → Gives K (cast_row_of w s sense at xs)
    cast_gives at [] = tt
    cast_gives at (first ∷ rest) = cast_of_gives at first rest (is_leaf s first)

    conditional_gives : (at : ℕ) (xs : List ℕ) → Gives K (conditional_row w s sense at xs)
    conditional_gives at [] = tt
    conditional_gives at (c ∷ []) = all c
    conditional_gives at (c ∷ q ∷ []) = tt
    conditional_gives at (c ∷ q ∷ a ∷ []) = tt
    conditional_gives at (c ∷ q ∷ a ∷ colon ∷ []) = tt
    conditional_gives at (c ∷ q ∷ a ∷ colon ∷ b ∷ []) = cores_give _
    conditional_gives at (c ∷ q ∷ a ∷ colon ∷ b ∷ more ∷ rest) = tt

    assignment_gives : (at : ℕ) (xs : List ℕ) → Gives K (assignment_row w s sense at xs)
    assignment_gives at [] = tt
    assignment_gives at (c ∷ []) = all c
    assignment_gives at (p ∷ o ∷ []) = tt
    assignment_gives at (p ∷ o ∷ v ∷ []) = cores_give _
    assignment_gives at (p ∷ o ∷ v ∷ more ∷ rest) = tt

    pub expressions_give : (production at : ℕ) (xs : List ℕ) → Gives K (expression_row w s sense production at xs)
    expressions_give production at xs =
        if_holds (Gives K) (production == p_primary) _ _ (λ e. primary_gives at xs)
        (λ e. if_holds (Gives K) (production == p_post) _ _ (λ e. post_gives at xs)
        (λ e. if_holds (Gives K) (production == p_unary) _ _ (λ e. unary_gives at xs)
        (λ e. if_holds (Gives K) (production == p_cast) _ _ (λ e. cast_gives at xs)
        (λ e. if_holds (Gives K) (production == p_conditional) _ _ (λ e. conditional_gives at xs)
        (λ e. if_holds (Gives K) (production == p_assignment) _ _ (λ e. assignment_gives at xs)
        (λ e. if_holds (Gives K) (is_binary w s sense production) _ (Refuses _ at) (λ e. binary_gives at xs) (λ e. tt)))))))
