-- The own token of a syntax node, at whose place it is refused.
use Rattle.std.specs.Prelude.{ℕ, zero, suc, Bool, ◌||◌, List, [], ◌∷◌, Option, Some, None, if◌then◌else◌}
use Rattle.c_scope.specs.passed.pta_base.declared.place.Place.{Place}
use Rattle.c_inits.specs.passed.c_grammar.Productions.{p_field, p_declarator, p_abstract, p_either, p_parameter}
use Rattle.c_inits.specs.passed.c_grammar.Productions.{p_init, p_statement, p_expression, p_assignment}
use Rattle.c_inits.specs.passed.c_grammar.Productions.{p_conditional, p_logical_or, p_logical_and, p_inclusive_or}
use Rattle.c_inits.specs.passed.c_grammar.Productions.{p_exclusive_or, p_and, p_equality, p_relational, p_shift}
use Rattle.c_inits.specs.passed.c_grammar.Productions.{p_additive, p_multiplicative, p_cast, p_unary, p_post}
use Rattle.c_inits.specs.passed.c_grammar.Productions.{p_primary}
use Rattle.c_inits.specs.passed.c_grammar.Words.{sign_colon, sign_left_parenthesis}
use Rattle.c_senses.specs.Tree.{Source, is_a, is_leaf, is_name, has_sign, place_at, children_at, first_where}
use Rattle.c_senses.specs.Tree.{last_where}
use Rattle.c_senses.specs.Sense.{last_of}

-- where a node's own token is: its first one; a leaf among its children; or that of a part
pub data Own : Type 0 where
  First : Own
  At : (leaf : ℕ) → Own
  OfPart : (part : ℕ) → Own

abbrev pub leaf_or_first : Option ℕ → Own
leaf_or_first None = First
leaf_or_first (Some c) = At c

module _ (s : Source) where
  abbrev pub is_declarator_part : ℕ → Bool
  is_declarator_part c = is_a s p_declarator c || is_a s p_either c || is_a s p_abstract c

  -- the name of a declarator or a parameter, also one within parentheses; parts have smaller numbers, so that there
  -- are no more levels than nodes up to the node
  abbrev pub name_within : ℕ → ℕ → Option ℕ
  name_within zero i = None
  name_within (suc depth) i =
      elim (first_where (is_name s) (children_at s i)) [
        | Some leaf ↦ Some leaf
        | None ↦ elim
            (first_where is_declarator_part (children_at s i)) [ None ↦ None | Some c ↦ name_within depth c ]
      ]

  -- a bit-field without a name: its colon
  abbrev pub own_of_field : List ℕ → Own
  own_of_field children =
      elim
      (first_where (is_a s p_declarator) children)
      [ Some d ↦ OfPart d | None ↦ leaf_or_first (first_where (has_sign s sign_colon) children) ]

  -- operators: the first of them, and without one the only part
  abbrev pub own_of_operators : List ℕ → Own
  own_of_operators [] = First
  own_of_operators (c ∷ []) = OfPart c
  own_of_operators (c ∷ o ∷ rest) = At o

  -- a primary in parentheses: what is in them
  abbrev pub own_of_primary : List ℕ → Own
  own_of_primary [] = First
  own_of_primary (c ∷ []) = First
  own_of_primary (c ∷ e ∷ rest) = if has_sign s sign_left_parenthesis c then OfPart e else First

  -- what follows a compound literal; else what begins with a token has that one; what begins with a part, the last
  -- part
  abbrev pub own_of_parts : List ℕ → Own
  own_of_parts [] = First
  own_of_parts (c ∷ rest) = if is_leaf s c then First else OfPart (last_of c rest)

  abbrev pub own_of_cast : List ℕ → Own
  own_of_cast children =
      elim (last_where (is_a s p_post) children) [ Some p ↦ OfPart p | None ↦ own_of_parts children ]

  -- a statement: its word; an expression with its semicolon, the expression
  abbrev pub own_of_statement : List ℕ → Own
  own_of_statement [] = First
  own_of_statement (c ∷ rest) = if is_leaf s c then First else OfPart c

  abbrev pub is_operators : ℕ → Bool
  is_operators i =
      is_a s p_expression i || is_a s p_assignment i || is_a s p_conditional i || is_a s p_logical_or i
      || is_a s p_logical_and i || is_a s p_inclusive_or i
      || is_a s p_exclusive_or i || is_a s p_and i || is_a s p_equality i || is_a s p_relational i
      || is_a s p_shift i || is_a s p_additive i || is_a s p_multiplicative i

  abbrev pub own_of : ℕ → Own
  own_of i =
      let children = children_at s i in
      if is_declarator_part i || is_a s p_parameter i then leaf_or_first (name_within (suc i) i)
      else if is_a s p_field i then own_of_field children
      else if is_operators i then own_of_operators children
      else if is_a s p_primary i then own_of_primary children
      else if is_a s p_cast i then own_of_cast children
      else if is_a s p_unary i || is_a s p_init i then own_of_parts children
      else if is_a s p_statement i then own_of_statement children
      else First

  abbrev pub own_within : ℕ → ℕ → Place
  own_within zero i = place_at s i
  own_within (suc depth) i =
      elim (own_of i) [ First ↦ place_at s i | At leaf ↦ place_at s leaf | OfPart c ↦ own_within depth c ]

  abbrev pub own_place : ℕ → Place
  own_place i = own_within (suc i) i
