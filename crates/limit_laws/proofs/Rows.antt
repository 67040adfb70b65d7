-- The row of each node over senses whose types are within the limits gives one whose types are, in each world behind it.
use Rattle.std.proofs.Common.{◌≡◌, ℕ, ◌==◌, Bool, true, false, ◌&&◌, ◌||◌, not, pos, negsuc, List, [], ◌∷◌, Option, Some, None, refl, ◌⊎◌, inl, inr}
use Rattle.std.specs.Prelude.{⊤, ℤ, ◌+ℤ◌, nat_lt, nat_le, is_some, reverse, option_and_then, if◌then◌else◌}
use Rattle.std.proofs.lemmas.Bool.{and_from, eqb-true}
use Rattle.pta_base.specs.declared.kind.Kind.TheVariants.{Operand, Vla}
use Rattle.c_types.specs.declared.term.Form.TheVariants.{Fixed}
use Rattle.c_types.specs.Trees.{Ctype, NoTypes, VoidType, BoolType, FloatingType, VaListType}
use Rattle.core_tree.specs.Rows.{int}
use Rattle.c_grammar.specs.Productions.{p_rest, p_declaration, p_assert, p_specs, p_align, p_type, p_struct, p_members, p_member, p_field, p_enum, p_enumerator, p_declarator, p_abstract, p_either, p_suffix, p_parameter, p_type_name, p_init, p_items, p_designator, p_block, p_statement, p_expression, p_primary, p_conditional, p_assignment}
use Rattle.c_grammar.specs.Words.{sign_left_bracket, sign_ellipsis, sign_star, word_void, word_bool, word_float, word_double, word_char, word_short, word_unsigned, word_signed, word_long}
use Rattle.c_grammar.specs.Terminals.{contains}
use Rattle.c_consts.specs.Core.{Core, ctype_of}
use Rattle.c_consts.specs.Operators.{NoForm, OutOfRange, ZeroDivisor}
use Rattle.c_consts.specs.Answer.{Found, Value, Fails, answer}
use Rattle.c_senses.specs.Tree.{Source, is_a, is_leaf, has_sign, kind_at, last_where, all_where, any_where, child_of, parent_of}
use Rattle.c_senses.specs.Given.{Given, Fits, Refuses, ◌>>=◌, given_if}
use Rattle.c_senses.specs.World.{has_size, World, Meaning, TypeName}
use Rattle.c_senses.specs.Conversions.{operand_of}
use Rattle.c_senses.specs.Constants.{constant_in, is_whole}
use Rattle.c_senses.specs.Sense.{Derivation, Pointing, Elements, Returning, Parameter, Sense, Nothing, IsCore, IsType, IsSpecified, IsDeclarator, IsDerivation, IsParameter, IsMembers, IsValue, IsRun, IsInitial, value_in, fits}
use Rattle.c_senses.specs.Limits.{is_small, within_limits, all_within_limits}
use Rattle.c_senses.specs.Tags.{laid, is_union, named_tag, tag_fits, aggregate_type, bits_in, width_fits, members_in_sense, struct_type, struct_row, enum_row, untagged_in, type_in_sense, unnamed_member, member_specs, member_declaration, field_name, is_new_name, named_field, bit_field, field_typed, field_of, field_row, before_enumerator, value_before, enumerator_of, enumerator_named, enumerator_row}
use Rattle.c_senses.specs.Specifiers.{align_operand, align_specifier, short_type, char_type, long_types, type_of_words, counted, words_at, storage_words, function_words, words_fit, is_word_kind, named_type, type_leaf, type_row, first_type, specified_type, specs_row}
use Rattle.c_senses.specs.Declarators.{derived, adjusted, specified_at, suffixes, inner_derivations, stars, derivations, is_parameter_array, positive, length_found, length_of, array_length, array_suffix, is_void_alone, parameters_in, types_in, list_of, suffix_row, parameter_fits, parameter_of, sense_of_child, parameter_row, type_name_of, type_name_row}
use Rattle.c_senses.specs.Statements.{assert_row, statement_row, leaf_statement, expression_statement}
use Rattle.c_senses.specs.Initialised.{designator_row}
use Rattle.c_senses.specs.Rows.{declarator_row, declaring_row, row_of}
use Rattle.parsed_tree_laws.specs.sense_laws.Sound.{Gives}
use Rattle.parsed_tree_laws.proofs.sense_laws.Giving.{then_gives, if_given, some_given, if_holds}
use Rattle.parsed_tree_laws.proofs.sense_laws.Types.{anything}
use Rattle.limit_laws.proofs.Deriving.{step_within, StepsWithin, Within, steps_append, steps_reversed, adjusted_within}
use Rattle.limit_laws.proofs.Expressions.{expressions_give}
use Rattle.limit_laws.proofs.Shapes.{declarators_give, inits_give, items_give}

-- a type within the limits
abbrev IsIn : World → Ctype → Type 0
IsIn w t = within_limits w t ≡ true

words_within : (w : World) (words : List ℕ) → IsIn w (type_of_words words)
words_within w words =
    if_holds (IsIn w) (contains words word_void) VoidType _ (λ e. refl)
    (λ e. if_holds (IsIn w) (contains words word_bool) BoolType _ (λ e. refl)
    (λ e. if_holds (IsIn w) (contains words word_float || contains words word_double) FloatingType _ (λ e. refl)
    (λ e. if_holds (IsIn w) (contains words word_char) (char_type words) _ (λ e. chars)
    (λ e. if_holds (IsIn w) (contains words word_short) (short_type (contains words word_unsigned)) (long_types (contains words word_unsigned) (counted words word_long)) (λ e. refl) (λ e. longs (contains words word_unsigned) (counted words word_long))))))
  where
    chars : IsIn w (char_type words)
    chars = if_holds (IsIn w) (contains words word_unsigned) _ _ (λ e. refl) (λ e. if_holds (IsIn w) (contains words word_signed) _ _ (λ e. refl) (λ e. refl))

    longs : (unsigned : Bool) (count : ℕ) → IsIn w (long_types unsigned count)
    longs unsigned count =
        if_holds (IsIn w) (count == 0) _ _ (λ e. if_holds (IsIn w) unsigned _ _ (λ e. refl) (λ e. refl))
        (λ e. if_holds (IsIn w) (count == 1) _ _ (λ e. if_holds (IsIn w) unsigned _ _ (λ e. refl) (λ e. refl)) (λ e. if_holds (IsIn w) unsigned _ _ (λ e. refl) (λ e. refl)))

-- a parameter and a type name have a declarator whose type was asked for
abbrev pub IsNaming : ℕ → ℕ → Type 0
IsNaming production child = ((production ≡ p_parameter) × (child ≡ p_either)) ⊎ ((production ≡ p_type_name) × (child ≡ p_abstract))

-- what is known where the row of a node is asked in `v`, of a world `w` behind it
pub record Asks (v w : World) (s : Source) (sense : ℕ → Sense) (production at : ℕ) : Type 0 where
  pub senses : (i : ℕ) → Within w (sense i)
  pub names : (leaf : ℕ) (t : Ctype) → v.meaning leaf ≡ Some (TypeName t) → within_limits w t ≡ true
  pub tagged : production ≡ p_struct → tag_fits s at ≡ true → within_limits w (aggregate_type s at) ≡ true
  pub whole : (child : ℕ) → IsNaming production child → (base : Ctype) (name : Option ℕ) (ds : List Derivation) → specified_at v s sense (child_of s p_specs at) ≡ Some base → sense_of_child v s sense child at ≡ IsDeclarator name ds → within_limits w (derived ds base) ≡ true

module _ (v w : World) (s : Source) (sense : ℕ → Sense) (production at : ℕ) (asks : Asks v w s sense production at) where
  abbrev K : Sense → Type 0
  K = Within w

  -- specifiers
  named_within : (c : ℕ) (o : Option Meaning) → v.meaning c ≡ o → Gives K (named_type v s sense at c o)
  named_within c (Some (TypeName t)) e = asks.names c t e
  named_within c None e = if_holds (IsIn w) _ FloatingType VaListType (λ e. refl) (λ e. refl)
  named_within c (Some x) e = tt

  type_within : (children : List ℕ) → Gives K (type_row v s sense at children)
  type_within [] = tt
  type_within (c ∷ rest) = if_holds (Gives K) (is_leaf s c) _ (Fits (sense c)) (λ e. leaf_within (is_word_kind (kind_at s c))) (λ e. asks.senses c)
    where
      leaf_within : (b : Bool) → Gives K (type_leaf v s sense at c b)
      leaf_within true = tt
      leaf_within false = named_within c (v.meaning c) refl

  SomeIn : Option Ctype → Type 0
  SomeIn None = ⊤
  SomeIn (Some t) = IsIn w t

  first_within : (list : List ℕ) → SomeIn (first_type v s sense list)
  unfolding SomeIn
  first_within [] = tt
  first_within (c ∷ rest) = by_sense (sense c) (asks.senses c) (first_type v s sense rest) (first_within rest)
    where
      by_sense : (x : Sense) → Within w x → (o : Option Ctype) → SomeIn o → SomeIn (elim x as (λ _. Option Ctype) [ IsType t ↦ Some t | _ ↦ o ])
      by_sense (IsType t) h o k = h
      by_sense x h o k = k

  specified_within : (types : List ℕ) (o : Option Ctype) → SomeIn o → IsIn w (specified_type v s sense types o)
  unfolding SomeIn
  specified_within types None h = words_within w (words_at s types)
  specified_within types (Some t) h = h

  specs_within : (children : List ℕ) → Gives K (specs_row v s sense at children)
  specs_within children =
      let types : List ℕ = all_where (is_a s p_type) children in
      if_given K (words_fit s at (storage_words s children) (function_words s children)) Operand at _ (λ fit. specified_within types (first_type v s sense types) (first_within types))

  -- declarators
  suffixes_within : (list : List ℕ) → StepsWithin w (suffixes v s sense list)
  suffixes_within [] = tt
  suffixes_within (c ∷ rest) = by_sense (sense c) (asks.senses c) (suffixes v s sense rest) (suffixes_within rest)
    where
      by_sense : (x : Sense) → Within w x → (ds : List Derivation) → StepsWithin w ds → StepsWithin w (elim x as (λ _. List Derivation) [ IsDerivation d ↦ d ∷ ds | _ ↦ ds ])
      by_sense (IsDerivation d) h ds k = (h, k)
      by_sense x h ds k = k

  inner_within : (list : List ℕ) → StepsWithin w (inner_derivations v s sense list)
  inner_within [] = tt
  inner_within (c ∷ rest) = by_sense (sense c) (asks.senses c) (inner_derivations v s sense rest) (inner_within rest)
    where
      by_sense : (x : Sense) → Within w x → (ds : List Derivation) → StepsWithin w ds → StepsWithin w (elim x as (λ _. List Derivation) [ IsDeclarator name inner ↦ inner | _ ↦ ds ])
      by_sense (IsDeclarator name inner) h ds k = h
      by_sense x h ds k = k

  stars_within : (list : List ℕ) → StepsWithin w (stars v s sense list)
  stars_within [] = tt
  stars_within (c ∷ rest) = if_holds (StepsWithin w) (has_sign s sign_star c) (Pointing ∷ stars v s sense rest) (stars v s sense rest) (λ e. (refl, stars_within rest)) (λ e. stars_within rest)

  derivations_within : (children : List ℕ) → StepsWithin w (derivations v s sense children)
  derivations_within children =
      steps_append w (stars v s sense children) _ (stars_within children)
      (steps_append w (reverse (suffixes v s sense children)) _ (steps_reversed w (suffixes v s sense children) [] (suffixes_within children) tt) (inner_within children))

  declarator_within : (children : List ℕ) → Gives K (declarator_row v s sense at children)
  declarator_within children = declarators_give K v s sense at children (λ well. derivations_within children)

  -- suffixes
  IsStep : Derivation → Type 0
  IsStep d = step_within w d ≡ true

  positive_within : (n : ℤ) → Gives IsStep (positive v s sense at n)
  unfolding IsStep
  positive_within (pos k) = if_given IsStep (nat_lt 0 k) Operand at (Fits (Elements (Some k))) (λ e. refl)
  positive_within (negsuc k) = tt

  found_within : (c : Core) (f : Found) → Gives IsStep (length_found v s sense at c f)
  unfolding IsStep
  found_within c (Value n) = positive_within n
  found_within c (Fails NoForm path) = tt
  found_within c (Fails OutOfRange path) = tt
  found_within c (Fails ZeroDivisor path) = tt

  open_within : (c : Core) (f : Found) → Gives IsStep (elim f as (λ _. Given Derivation) [ Fails NoForm path ↦ Fits (Elements None) | found ↦ length_found v s sense at c found ])
  unfolding IsStep
  open_within c (Fails NoForm path) = refl
  open_within c (Value n) = positive_within n
  open_within c (Fails OutOfRange path) = tt
  open_within c (Fails ZeroDivisor path) = tt

  length_within : (c : Core) → Gives IsStep (length_of v s sense at c)
  length_within c =
      if_given IsStep (is_whole (operand_of (ctype_of c))) Operand at _
      (λ whole. if_holds (Gives IsStep) (is_parameter_array v s sense at) _ (length_found v s sense at c (answer c true)) (λ e. open_within c (answer c true)) (λ e. found_within c (answer c true)))

  array_within : (o : Option ℕ) (rest : List ℕ) → Gives IsStep (elim o as (λ _. Given Derivation) [ Some c ↦ value_in v at (sense c) >>= length_of v s sense at | None ↦ if any_where (has_sign s sign_star) rest then given_if (is_parameter_array v s sense at) Vla at (Fits (Elements None)) else Fits (Elements None) ])
  unfolding IsStep
  array_within (Some c) rest = then_gives (λ c. ⊤) IsStep (value_in v at (sense c)) (length_of v s sense at) (anything (value_in v at (sense c))) (λ c h. length_within c)
  array_within None rest =
      if_holds (Gives IsStep) (any_where (has_sign s sign_star) rest) _ (Fits (Elements None)) (λ e. if_given IsStep (is_parameter_array v s sense at) Vla at (Fits (Elements None)) (λ e. refl)) (λ e. refl)

  AreParameters : List Parameter → Type 0
  AreParameters [] = ⊤
  AreParameters (p ∷ rest) = IsIn w p.type × AreParameters rest

  parameters_within : (list : List ℕ) → AreParameters (parameters_in v s sense list)
  unfolding AreParameters
  parameters_within [] = tt
  parameters_within (c ∷ rest) = by_sense (sense c) (asks.senses c) (parameters_in v s sense rest) (parameters_within rest)
    where
      by_sense : (x : Sense) → Within w x → (ps : List Parameter) → AreParameters ps → AreParameters (elim x as (λ _. List Parameter) [ IsParameter p ↦ p ∷ ps | _ ↦ ps ])
      by_sense (IsParameter p) h ps k = (h, k)
      by_sense x h ps k = k

  types_within : (ps : List Parameter) → AreParameters ps → all_within_limits w (types_in v s sense ps) ≡ true
  unfolding AreParameters
  types_within [] h = refl
  types_within (p ∷ ps) h = and_from (within_limits w p.type) (all_within_limits w (types_in v s sense ps)) h.0 (types_within ps h.1)

  list_within : (variadic : Bool) (ps : List Parameter) → AreParameters ps → IsStep (list_of v s sense variadic ps)
  unfolding AreParameters IsStep
  list_within true [] h = refl
  list_within false [] h = refl
  list_within true (p ∷ ps) h = types_within (p ∷ ps) h
  list_within false (p ∷ []) h = if_holds IsStep (is_void_alone v s sense p) (Returning NoTypes Fixed) _ (λ e. refl) (λ e. types_within (p ∷ []) h)
  list_within false (p ∷ q ∷ ps) h = types_within (p ∷ q ∷ ps) h

  suffix_within : (children : List ℕ) → Gives K (suffix_row v s sense at children)
  unfolding IsStep
  suffix_within [] = tt
  suffix_within (first ∷ rest) =
      if_holds (Gives K) (has_sign s sign_left_bracket first) _ _
      (λ e.
      then_gives IsStep K (array_suffix v s sense at rest) (λ d. Fits (IsDerivation d))
      (if_given IsStep _ Operand at (array_length v s sense at rest) (λ e. array_within (child_of s p_assignment at) rest)) (λ d h. h))
      (λ e. list_within (any_where (has_sign s sign_ellipsis) rest) (parameters_in v s sense rest) (parameters_within rest))

  -- parameters and type names
  parameter_by : (o : Option Ctype) (x : Sense) → ((base : Ctype) (name : Option ℕ) (ds : List Derivation) → o ≡ Some base → x ≡ IsDeclarator name ds → within_limits w (derived ds base) ≡ true) → Gives K (parameter_of v s sense at o x)
  parameter_by (Some base) (IsDeclarator name ds) h =
      if_given K (parameter_fits v s sense at (record { name = name; type = adjusted (derived ds base) })) Operand at _ (λ fit. adjusted_within w (derived ds base) (h base name ds refl refl))
  parameter_by o x h = tt

  parameter_within : production ≡ p_parameter → Gives K (parameter_row v s sense at)
  parameter_within is = parameter_by (specified_at v s sense (child_of s p_specs at)) (sense_of_child v s sense p_either at) (asks.whole p_either (inl (is, refl)))

  name_by : (o : Option Ctype) (x : Sense) → ((base : Ctype) (name : Option ℕ) (ds : List Derivation) → o ≡ Some base → x ≡ IsDeclarator name ds → within_limits w (derived ds base) ≡ true) → Gives K (type_name_of v s sense at o x)
  name_by (Some base) (IsDeclarator name ds) h = h base name ds refl refl
  name_by o x h = tt

  type_name_within : production ≡ p_type_name → Gives K (type_name_row v s sense at)
  type_name_within is = name_by (specified_at v s sense (child_of s p_specs at)) (sense_of_child v s sense p_abstract at) (asks.whole p_abstract (inr (is, refl)))

  -- structures, unions, enumerations and their members
  struct_within : production ≡ p_struct → Gives K (struct_row v s sense at)
  struct_within is = if_given K (tag_fits s at) Operand (named_tag s at) (struct_type v s sense at (child_of s p_members at)) (λ fit. by_list fit (child_of s p_members at))
    where
      by_list : tag_fits s at ≡ true → (o : Option ℕ) → Gives K (struct_type v s sense at o)
      by_list fit None = asks.tagged is fit
      by_list fit (Some list) = if_given K (is_small (Some (laid v (is_union s at) (aggregate_type s at) (members_in_sense v s sense (sense list))))) Operand at (Fits (IsType (aggregate_type s at))) (λ small. asks.tagged is fit)

  enum_within : Gives K (enum_row v s sense at)
  enum_within = if_given K (tag_fits s at) Operand (named_tag s at) (Fits (IsType int)) (λ fit. refl)

  unnamed_within : (o : Option Ctype) → Gives K (unnamed_member v s sense at o)
  unnamed_within None = tt
  unnamed_within (Some t) = if_given K _ Operand at (Fits (IsMembers (record { name = None; type = t; bits = None } ∷ []))) (λ fit. tt)

  member_within : (children : List ℕ) → Gives K (member_declaration v s sense at children)
  member_within children = by_specs (child_of s p_specs at)
    where
      by_specs : (o : Option ℕ) → Gives K (member_specs v s sense at children o)
      by_specs None = tt
      by_specs (Some specs) = if_holds (Gives K) (any_where (is_a s p_field) children) _ _ (λ e. tt) (λ e. unnamed_within (option_and_then (λ i. type_in_sense v s sense (sense i)) (untagged_in v s sense specs)))

  field_typed_within : (leaf : Option ℕ) (t : Ctype) (width : Option ℕ) → Gives K (field_typed v s sense at leaf t width)
  field_typed_within leaf t None = if_given K _ Operand (named_field v s sense at leaf) (Fits (IsMembers (record { name = field_name v s sense leaf; type = t; bits = None } ∷ []))) (λ fit. tt)
  field_typed_within leaf t (Some width) =
      some_given K (bits_in t) Operand (named_field v s sense at leaf) _
      (λ most e.
      then_gives (λ n. ⊤) K (constant_in v s at (sense width)) _ (anything (constant_in v s at (sense width)))
      (λ n k.
      if_given K (is_new_name v s sense at (field_name v s sense leaf)) Operand (named_field v s sense at leaf) (bit_field v s sense (named_field v s sense at leaf) (field_name v s sense leaf) t n most)
      (λ new.
      some_given K (width_fits most (is_some (field_name v s sense leaf)) n) Operand (named_field v s sense at leaf) (λ k. if k == 0 then Fits (IsMembers []) else Fits (IsMembers (record { name = field_name v s sense leaf; type = t; bits = Some k } ∷ [])))
      (λ k f. if_holds (Gives K) (k == 0) (Fits (IsMembers [])) _ (λ zero. tt) (λ some. tt)))))

  field_by : (o : Option Ctype) (x : Sense) → Gives K (field_of v s sense at o x)
  field_by None x = tt
  field_by (Some base) (IsDeclarator leaf ds) = field_typed_within leaf (derived ds base) (child_of s p_conditional at)
  field_by (Some base) x = field_typed_within None base (child_of s p_conditional at)

  field_within : Gives K (field_row v s sense at)
  field_within = field_by (specified_at v s sense (option_and_then (child_of s p_specs) (parent_of s at))) (sense_of_child v s sense p_declarator at)

  enumerator_of_within : (leaf : ℕ) (n : ℤ) → Gives K (enumerator_of v s sense at leaf n)
  enumerator_of_within leaf n = if_given K _ Operand leaf (Fits (IsValue n)) (λ fit. tt)

  enumerator_by : (leaf : ℕ) (o : Option ℕ) → Gives K (enumerator_named v s sense at leaf o)
  enumerator_by leaf None = enumerator_of_within leaf (value_before v s sense (before_enumerator v s sense at) +ℤ pos 1)
  enumerator_by leaf (Some e) = then_gives (λ n. ⊤) K (constant_in v s at (sense e)) (enumerator_of v s sense at leaf) (anything (constant_in v s at (sense e))) (λ n k. enumerator_of_within leaf n)

  enumerator_within : (children : List ℕ) → Gives K (enumerator_row v s sense at children)
  enumerator_within [] = tt
  enumerator_within (leaf ∷ rest) = enumerator_by leaf (child_of s p_conditional at)

  align_within : (children : List ℕ) → Gives K (align_specifier v s sense at children)
  align_within children = by_last (last_where (λ c. not (is_leaf s c)) children)
    where
      constant : (x : Sense) → Gives K (constant_in v s at x >>= (λ n. Fits Nothing))
      constant x = then_gives (λ n. ⊤) K (constant_in v s at x) (λ n. Fits Nothing) (anything (constant_in v s at x)) (λ n k. tt)

      by_sense : (x : Sense) → Gives K (align_operand v s sense at x)
      by_sense (IsType t) = if_given K (has_size v t) Operand at (Fits Nothing) (λ fit. tt)
      by_sense Nothing = constant Nothing
      by_sense (IsCore c) = constant (IsCore c)
      by_sense (IsSpecified x) = constant (IsSpecified x)
      by_sense (IsDeclarator n ds) = constant (IsDeclarator n ds)
      by_sense (IsDerivation d) = constant (IsDerivation d)
      by_sense (IsParameter p) = constant (IsParameter p)
      by_sense (IsMembers ps) = constant (IsMembers ps)
      by_sense (IsValue n) = constant (IsValue n)
      by_sense (IsRun cs) = constant (IsRun cs)
      by_sense (IsInitial c n) = constant (IsInitial c n)

      by_last : (o : Option ℕ) → Gives K (elim o as (λ _. Given Sense) [ None ↦ Refuses Operand at | Some c ↦ align_operand v s sense at (sense c) ])
      by_last None = tt
      by_last (Some c) = by_sense (sense c)

  -- assertions, designators and statements
  assert_within : Gives K (assert_row v s sense at)
  assert_within =
      some_given K (child_of s p_conditional at) Operand at _
      (λ c e. then_gives (λ n. ⊤) K (constant_in v s at (sense c)) _ (anything (constant_in v s at (sense c))) (λ n k. if_given K _ Operand at (Fits Nothing) (λ e. tt)))

  designator_within : (children : List ℕ) → Gives K (designator_row v s sense at children)
  designator_within [] = tt
  designator_within (first ∷ rest) =
      if_holds (Gives K) (has_sign s sign_left_bracket first) _ (Fits Nothing)
      (λ e. some_given K (child_of s p_conditional at) Operand at _ (λ c f. then_gives (λ n. ⊤) K (constant_in v s at (sense c)) _ (anything (constant_in v s at (sense c))) (λ n k. tt)))
      (λ e. tt)

  fits_within : (g : Given Core) → Gives K (g >>= fits)
  fits_within (Fits c) = tt
  fits_within (Refuses kind node) = tt

  statement_within : (children : List ℕ) → Gives K (statement_row v s sense at children)
  statement_within [] = tt
  statement_within (first ∷ rest) =
      if_holds (Gives K) (is_leaf s first) _ _ (λ e. fits_within (leaf_statement v s sense at first (first ∷ rest)))
      (λ e. if_holds (Gives K) (is_a s p_expression first) _ (Fits (sense first)) (λ e. fits_within (expression_statement v s sense at first)) (λ e. asks.senses first))

  -- the row of each production
  is_one : (p : ℕ) → (production == p) ≡ true → production ≡ p
  is_one p e = eqb-true production p e

  declaring_within : (children : List ℕ) → Gives K (declaring_row v s sense production at children)
  declaring_within children =
      let P : Given Sense → Type 0 = Gives (Within w) in
      if_holds P (production == p_rest) _ _ (λ e. tt)
      (λ e. if_holds P (production == p_declaration) _ _ (λ e. tt)
      (λ e. if_holds P (production == p_assert) _ _ (λ e. assert_within)
      (λ e. if_holds P (production == p_specs) _ _ (λ e. specs_within children)
      (λ e. if_holds P (production == p_align) _ _ (λ e. align_within children)
      (λ e. if_holds P (production == p_type) _ _ (λ e. type_within children)
      (λ e. if_holds P (production == p_struct) _ _ (λ e. struct_within (is_one p_struct e))
      (λ e. if_holds P (production == p_members) _ _ (λ e. tt)
      (λ e. if_holds P (production == p_member) _ _ (λ e. member_within children)
      (λ e. if_holds P (production == p_field) _ _ (λ e. field_within)
      (λ e. if_holds P (production == p_enum) _ _ (λ e. enum_within)
      (λ e. if_holds P (production == p_enumerator) _ _ (λ e. enumerator_within children)
      (λ e. if_holds P (production == p_suffix) _ _ (λ e. suffix_within children)
      (λ e. if_holds P (production == p_parameter) _ _ (λ e. parameter_within (is_one p_parameter e))
      (λ e. if_holds P (production == p_type_name) _ _ (λ e. type_name_within (is_one p_type_name e))
      (λ e. if_holds P (production == p_init) _ _ (λ e. inits_give (Within w) tt (λ c. tt) (λ c n. tt) v s sense at)
      (λ e. if_holds P (production == p_items) _ _ (λ e. items_give (Within w) tt (λ c. tt) (λ c n. tt) v s sense at)
      (λ e. if_holds P (production == p_designator) _ _ (λ e. designator_within children)
      (λ e. if_holds P (production == p_block) _ _ (λ e. tt)
      (λ e. if_holds P (production == p_statement) _ _ (λ e. statement_within children)
      (λ e. if_holds P ((production == p_declarator) || ((production == p_abstract) || (production == p_either))) _ (Fits Nothing) (λ e. declarator_within children) (λ e. tt)))))))))))))))))))))

  pub row_within : (children : List ℕ) → Gives (Within w) (row_of v s sense production at children)
  row_within children =
      if_holds (Gives (Within w)) (nat_le p_expression production && nat_le production p_primary) _ _
      (λ e. expressions_give (Within w) (λ c. tt) v s sense asks.senses production at children) (λ e. declaring_within children)
