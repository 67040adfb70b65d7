-- An expression's row gives a core tree, or what one of its parts stands for.
use Rattle.std.proofs.Common.{◌≡◌, ℕ, zero, suc, Bool, true, false, cond, ◌==◌, not, List, [], ◌∷◌, All, Option, Some, None, Result, Ok, Err, IfOk, subst}
use Rattle.std.specs.Prelude.{if◌then◌else◌}
use Rattle.std.proofs.lemmas.List.Elements.{All-head, All-tail}
use Rattle.std.proofs.lemmas.Result.{IfOk-weaker}
use Rattle.pta_base.specs.declared.kind.Kind.TheVariants.{Operand}
use Rattle.pta_base.specs.declared.place.Place.{Place}
use Rattle.c_lexer.specs.declared.TokenKind.{TokenKind}
use Rattle.c_lexer.specs.declared.TokenKind.TheVariants.{Identifier, Keyword, Punctuator, Integer, Floating, Character, Text, End}
use Rattle.core_tree.specs.declared.node.Unit.{Unit}
use Rattle.core_tree.specs.declared.node.Op.TheVariants.{Plus, Minus}
use Rattle.c_grammar.specs.Productions.{p_type_name, p_primary, p_post, p_unary, p_cast, p_conditional, p_assignment}
use Rattle.c_grammar.specs.Words.{word_sizeof, word_alignof, sign_left_bracket, sign_left_parenthesis, sign_dot, sign_arrow, sign_increment, sign_decrement}
use Rattle.c_consts.specs.Core.{Core, ctype_of}
use Rattle.c_senses.specs.Tree.{Source, is_a, is_leaf, place_at, spelling_at, kind_at, sign_at, last_where, all_where, left_of}
use Rattle.c_senses.specs.Given.{Given, Fits, Refuses, ◌>>=◌}
use Rattle.c_senses.specs.World.{World}
use Rattle.c_senses.specs.Conversions.{operand_of}
use Rattle.c_senses.specs.Operators.{between, number_core, choice_row}
use Rattle.c_senses.specs.Objects.{name_row, member_row, arrow_row, update_row, call_row, cast_row, size_row, align_row, sized_expression}
use Rattle.c_senses.specs.Sense.{Sense, IsCore, core_of, value_in, type_of_sense, sense_in, last_of}
use Rattle.c_senses.specs.Expressions.{as_sense, list_core, indexed_core, passed, chained, is_single, binary_row, string_bytes, indexed, dotted, pointed, all_cores, called, counted_after, post_of, post_signed, post_row, prefixed_core, prefixed, sized, aligned, worded, unary_of, unary_row, cast_over, cast_last, cast_of, cast_row_of, conditional_row, assigned_by, assignment_row, is_binary}
use Rattle.core_nodes.specs.declared.fault.CheckFault.{CheckFault}
use Rattle.c_results.specs.declared.made.Made.{Made}
use Rattle.c_results.specs.Standing.{sense_made, senses_made, Rowed}
use Rattle.expression_rows.specs.c_rows.Literals.{character_core, built_integer, built_text}
use Rattle.expression_rows.specs.c_rows.Built.{built_primary, built_primary_of}
use Rattle.expression_rows.specs.Built.{built_row}
use Rattle.parsed_tree_laws.specs.sense_laws.Sound.{Gives}
use Rattle.parsed_tree_laws.proofs.sense_laws.Giving.{if_holds}
use Rattle.name_places.specs.Named.{IsNamedIn, IsNamedSense}
use Rattle.name_places.proofs.Naming.{named_from_sense, named_to_sense}

-- what holds of core trees, and of all parts, holds of what is given
module _ (P : Sense → Type 0) (cores : (c : Core) → P (IsCore c)) where
  of_cores : (g : Given Core) → Gives P (as_sense g)
  of_cores (Fits c) = cores c
  of_cores (Refuses kind node) = tt

  module _ (w : World) (s : Source) (sense : ℕ → Sense) (parts : (i : ℕ) → P (sense i)) where
    passed_gives : (at : ℕ) (children : List ℕ) → Gives P (passed sense at children)
    passed_gives at [] = tt
    passed_gives at (c ∷ rest) = parts c

    kind_gives : (at first : ℕ) (rest : List ℕ) (kind : TokenKind) → Gives P (built_primary_of w s sense at first rest kind)
    kind_gives at first [] Identifier = of_cores (name_row w (place_at s first) at (w.meaning first))
    kind_gives at first (c ∷ rest) Identifier = of_cores (list_core w s sense at (place_at s first) (spelling_at s first) (all_where (λ i. not (is_leaf s i)) (c ∷ rest)))
    kind_gives at first rest Integer = of_cores (built_integer at (place_at s first) (spelling_at s first))
    kind_gives at first rest (Punctuator p) = passed_gives at rest
    kind_gives at first rest Character = cores (character_core (place_at s first) (spelling_at s first))
    kind_gives at first rest Text = of_cores (built_text at (place_at s first) (string_bytes w s sense (first ∷ rest)))
    kind_gives at first rest (Keyword k) = tt
    kind_gives at first rest Floating = tt
    kind_gives at first rest End = tt

    primary_gives : (at : ℕ) (children : List ℕ) → Gives P (built_primary w s sense at children)
    primary_gives at [] = tt
    primary_gives at (first ∷ rest) = kind_gives at first rest (kind_at s first)

    indexed_gives : (place : Place) (at : ℕ) (left : Sense) (list : List ℕ) → Gives P (indexed w s sense place at left list)
    indexed_gives place at left [] = tt
    indexed_gives place at left (e ∷ rest) = of_cores (indexed_core w place at left (sense e))

    dotted_gives : (place : Place) (at : ℕ) (left : Sense) (list : List ℕ) → Gives P (dotted w s sense place at left list)
    dotted_gives place at left [] = tt
    dotted_gives place at left (name ∷ rest) = of_cores (core_of at left >>= member_row w place at (spelling_at s name))

    pointed_gives : (place : Place) (at : ℕ) (left : Sense) (list : List ℕ) → Gives P (pointed w s sense place at left list)
    pointed_gives place at left [] = tt
    pointed_gives place at left (name ∷ rest) = of_cores (value_in w at left >>= (λ v. arrow_row w place at (spelling_at s name) v (operand_of (ctype_of v))))

    called_gives : (place : Place) (at : ℕ) (left : Sense) (rest : List ℕ) → Gives P (called w s sense place at left rest)
    called_gives place at left rest = of_cores (core_of at left >>= (λ f. all_cores w s sense at (all_where (λ c. not (is_leaf s c)) rest) >>= call_row w place at f))

    counted_gives : (place : Place) (at : ℕ) (left : Sense) (down : Bool) → Gives P (counted_after w s sense place at left down)
    counted_gives place at left down = of_cores (core_of at left >>= (λ p. update_row w (if down then Minus else Plus) true place at p (number_core 1 place)))

    post_of_gives : (place : Place) (at : ℕ) (left : Sense) (rest : List ℕ) (sign : ℕ) → Gives P (post_of w s sense place at left rest sign)
    post_of_gives place at left rest sign =
        if_holds (Gives P) (sign == sign_left_bracket) _ _ (λ e. indexed_gives place at left rest)
        (λ e. if_holds (Gives P) (sign == sign_left_parenthesis) _ _ (λ e. called_gives place at left rest)
        (λ e. if_holds (Gives P) (sign == sign_dot) _ _ (λ e. dotted_gives place at left rest)
        (λ e. if_holds (Gives P) (sign == sign_arrow) _ _ (λ e. pointed_gives place at left rest)
        (λ e. if_holds (Gives P) (sign == sign_increment) _ _ (λ e. counted_gives place at left false)
        (λ e. if_holds (Gives P) (sign == sign_decrement) _ (Refuses Operand at) (λ e. counted_gives place at left true) (λ e. tt))))))

    post_signed_gives : (place : Place) (at : ℕ) (left : Sense) (rest : List ℕ) (sign : Option ℕ) → Gives P (post_signed w s sense place at left rest sign)
    post_signed_gives place at left rest None = tt
    post_signed_gives place at left rest (Some sign) = post_of_gives place at left rest sign

    post_gives : (at : ℕ) (children : List ℕ) → Gives P (post_row w s sense at children)
    post_gives at [] = tt
    post_gives at (first ∷ rest) = post_signed_gives (place_at s first) at (sense (left_of s first)) rest (sign_at s first)

    prefixed_gives : (place : Place) (at sign : ℕ) (list : List ℕ) → Gives P (prefixed w s sense place at sign list)
    prefixed_gives place at sign [] = tt
    prefixed_gives place at sign (operand ∷ rest) = of_cores (core_of at (sense operand) >>= (λ x. prefixed_core w s sense place at x sign))

    sized_gives : (place : Place) (at : ℕ) (o : Option ℕ) → Gives P (sized w s sense place at o)
    sized_gives place at None = tt
    sized_gives place at (Some c) =
        if_holds (Gives P) (is_a s p_type_name c) _ _ (λ e. of_cores (type_of_sense at (sense c) >>= size_row w place at))
        (λ e. of_cores (core_of at (sense c) >>= sized_expression w place at))

    aligned_gives : (place : Place) (at : ℕ) (o : Option ℕ) → Gives P (aligned w s sense place at o)
    aligned_gives place at None = tt
    aligned_gives place at (Some c) = of_cores (type_of_sense at (sense c) >>= align_row w place at)

    worded_gives : (place : Place) (at : ℕ) (rest : List ℕ) (word : ℕ) → Gives P (worded w s sense place at rest word)
    worded_gives place at rest word =
        if_holds (Gives P) (word == word_sizeof) _ _ (λ e. sized_gives place at (last_where (λ c. not (is_leaf s c)) rest))
        (λ e. if_holds (Gives P) (word == word_alignof) _ (Refuses Operand at) (λ e. aligned_gives place at (last_where (λ c. not (is_leaf s c)) rest)) (λ e. tt))

    unary_of_gives : (at first : ℕ) (rest : List ℕ) (leafy : Bool) (kind : TokenKind) → Gives P (unary_of w s sense at first rest leafy kind)
    unary_of_gives at first rest false kind = parts (last_of first rest)
    unary_of_gives at first rest true (Punctuator p) = prefixed_gives (place_at s first) at p rest
    unary_of_gives at first rest true (Keyword k) = worded_gives (place_at s first) at rest k
    unary_of_gives at first rest true kind = tt

    unary_gives : (at : ℕ) (children : List ℕ) → Gives P (unary_row w s sense at children)
    unary_gives at [] = tt
    unary_gives at (first ∷ rest) = unary_of_gives at first rest (is_leaf s first) (kind_at s first)

    cast_over_gives : (at : ℕ) (rest : List ℕ) (c : ℕ) → Gives P (cast_over w s sense at rest c)
    cast_over_gives at rest c =
        if_holds (Gives P) (is_a s p_cast c) _ (Fits (sense c))
        (λ e. of_cores (elim rest as (λ _. Given Core) [ [] ↦ Refuses Operand at | t ∷ more ↦ type_of_sense at (sense t) >>= (λ type. core_of at (sense c) >>= (λ x. cast_row w at x type)) ]))
        (λ e. parts c)

    cast_last_gives : (at : ℕ) (rest : List ℕ) (o : Option ℕ) → Gives P (cast_last w s sense at rest o)
    cast_last_gives at rest None = tt
    cast_last_gives at rest (Some c) = cast_over_gives at rest c

    cast_of_gives : (at first : ℕ) (rest : List ℕ) (leafy : Bool) → Gives P (cast_of w s sense at first rest leafy)
    cast_of_gives at first rest false = parts first
    cast_of_gives at first rest true = cast_last_gives at rest (last_where (λ c. not (is_leaf s c)) rest)

    cast_gives : (at : ℕ) (children : List ℕ) → Gives P (cast_row_of w s sense at children)
    cast_gives at [] = tt
    cast_gives at (first ∷ rest) = cast_of_gives at first rest (is_leaf s first)

    conditional_gives : (at : ℕ) (children : List ℕ) → Gives P (conditional_row w s sense at children)
    conditional_gives at (c ∷ []) = parts c
    conditional_gives at (c ∷ question ∷ a ∷ colon ∷ b ∷ []) =
        of_cores (value_in w at (sense c) >>= (λ x. value_in w at (sense a) >>= (λ y. value_in w at (sense b) >>= choice_row w (place_at s question) at x y)))
    conditional_gives at children = tt

    assignment_gives : (at : ℕ) (children : List ℕ) → Gives P (assignment_row w s sense at children)
    assignment_gives at (c ∷ []) = parts c
    assignment_gives at (p ∷ o ∷ v ∷ []) =
        of_cores (core_of at (sense p) >>= (λ a. core_of at (sense v) >>= (λ b. assigned_by w s sense at o a b (sign_at s o))))
    assignment_gives at children = tt

    binary_gives : (at : ℕ) (children : List ℕ) → Gives P (binary_row w s sense (between w) at children)
    binary_gives at [] = tt
    binary_gives at (first ∷ []) = parts first
    binary_gives at (first ∷ o ∷ rest) =
        of_cores (core_of at (sense first) >>= (λ a. chained w s sense (between w) at (is_single w s sense (between w) (o ∷ rest)) a (o ∷ rest)))

    second : (t : Bool) (a b : Given Sense) → t ≡ false → Gives P b → Gives P (cond t a b)
    second true a b e h = cc
    second false a b e h = h

    pub built_gives : (production at : ℕ) (children : List ℕ) → Gives P (built_row w s sense production at children)
    built_gives production at children =
        if_holds (Gives P) (production == p_primary) _ _ (λ e. primary_gives at children)
        (λ e. second (production == p_primary) _ _ e
        (if_holds (Gives P) (production == p_post) _ _ (λ e. post_gives at children)
        (λ e. if_holds (Gives P) (production == p_unary) _ _ (λ e. unary_gives at children)
        (λ e. if_holds (Gives P) (production == p_cast) _ _ (λ e. cast_gives at children)
        (λ e. if_holds (Gives P) (production == p_conditional) _ _ (λ e. conditional_gives at children)
        (λ e. if_holds (Gives P) (production == p_assignment) _ _ (λ e. assignment_gives at children)
        (λ e. if_holds (Gives P) (is_binary w s sense production) _ (Refuses Operand at) (λ e. binary_gives at children) (λ e. tt))))))))

-- what is made for a row
made_gives : (P : Sense → Type 0) (u : Unit) (r : Result Made CheckFault) (g : Given Sense) → Rowed u r g → Gives P g → IfOk r (λ m. P (sense_made u m))
made_gives P u (Ok m) g e h = subst (Gives P) e h
made_gives P u (Err fault) g e h = tt

senses_named : (u : Unit) (count : ℕ) (rs : List Made) → All (IsNamedIn count) rs → (i : ℕ) → IsNamedSense count (sense_in (senses_made u rs) i)
senses_named u count [] all i = tt
senses_named u count (r ∷ rs) all zero = named_to_sense u count r (All-head (IsNamedIn count) r rs all)
senses_named u count (r ∷ rs) all (suc i) = senses_named u count rs (All-tail (IsNamedIn count) r rs all) i

-- what a part stands for has the part's name
pub part_named : (u : Unit) (count : ℕ) (rs : List Made) (part : ℕ) (r : Result Made CheckFault) → All (IsNamedIn count) rs → Rowed u r (Fits (sense_in (senses_made u rs) part)) → IfOk r (IsNamedIn count)
part_named u count rs part r all made =
    let given : Given Sense = Fits (sense_in (senses_made u rs) part) in
    IfOk-weaker r (λ m. IsNamedSense count (sense_made u m)) (IsNamedIn count) (λ m h. named_from_sense u count m h) (made_gives (IsNamedSense count) u r given made (senses_named u count rs all part))

-- its name, if it has one, is that of a part
pub named_made : (w : World) (s : Source) (u v : Unit) (count : ℕ) (rs : List Made) (production at : ℕ) (children : List ℕ) (r : Result Made CheckFault) → All (IsNamedIn count) rs
    → Rowed v r (built_row w s (sense_in (senses_made u rs)) production at children) → IfOk r (IsNamedIn count)
named_made w s u v count rs production at children r all made =
    let S = sense_in (senses_made u rs) in
    let gives = built_gives (IsNamedSense count) (λ c. tt) w s S (senses_named u count rs all) production at children in
    IfOk-weaker r (λ m. IsNamedSense count (sense_made v m)) (IsNamedIn count) (λ m h. named_from_sense v count m h) (made_gives (IsNamedSense count) v r (built_row w s S production at children) made gives)
