-- The rows of types and declarators over sound senses give proper types.
use Rattle.std.proofs.Common.{◌≡◌, ℕ, ◌==◌, Bool, true, false, ◌||◌, not, pos, negsuc, List, [], ◌∷◌, ◌++◌, Option, Some, None, refl, subst}
use Rattle.std.specs.Prelude.{⊤, ℤ, ◌+ℤ◌, nat_lt, is_some, reverse, option_and_then, if◌then◌else◌}
use mathlib.Core.List.{reverse_aux}
use Rattle.pta_base.specs.declared.kind.Kind.TheVariants.{Operand, Vla}
use Rattle.c_types.specs.declared.term.Form.TheVariants.{Fixed}
use Rattle.c_types.specs.Trees.{Ctype, NoTypes, VoidType, BoolType, FloatingType, VaListType, ArrayOf, FunctionFrom, StructureOf, UnionOf}
use Rattle.c_conversions.specs.passed.core_tree.Rows.{int}
use Rattle.c_grammar.specs.Productions.{p_specs, p_either, p_abstract, p_declarator, p_conditional, p_type, p_assignment, p_members, p_field}
use Rattle.c_grammar.specs.Words.{sign_left_bracket, sign_ellipsis, sign_star, word_void, word_bool, word_float, word_double, word_char, word_short, word_unsigned, word_signed, word_long}
use Rattle.c_grammar.specs.Terminals.{contains}
use Rattle.c_senses.specs.passed.c_consts.Core.{Core, ctype_of}
use Rattle.c_senses.specs.passed.c_consts.Operators.{NoForm, OutOfRange, ZeroDivisor}
use Rattle.c_senses.specs.passed.c_consts.Answer.{Found, Value, Fails, answer}
use Rattle.c_senses.specs.passed.c_inits.Made.{Part}
use Rattle.c_senses.specs.Tree.{Source, is_a, is_leaf, has_sign, kind_at, last_where, all_where, any_where, child_of, parent_of}
use Rattle.c_senses.specs.Given.{Given, Fits, Refuses, ◌>>=◌, given_if}
use Rattle.c_senses.specs.World.{has_size, World, Meaning, TypeName}
use Rattle.c_senses.specs.Conversions.{operand_of}
use Rattle.c_senses.specs.Constants.{constant_in, is_whole}
use Rattle.c_senses.specs.Sense.{Derivation, Pointing, Elements, Returning, Parameter, Sense, Nothing, IsCore, IsType, IsSpecified, IsDeclarator, IsDerivation, IsParameter, IsMembers, IsValue, IsRun, IsInitial, value_in}
use Rattle.c_senses.specs.Limits.{is_small}
use Rattle.c_senses.specs.Tags.{laid, tag_of, is_union, named_tag, tag_fits, aggregate_type, bits_in, width_fits, members_in_sense, members_among, struct_type, struct_row, enum_row, untagged_in, type_in_sense, unnamed_member, member_specs, member_declaration, field_name, is_new_name, named_field, bit_field, field_typed, field_of, field_row, before_enumerator, value_before, enumerator_of, enumerator_named, enumerator_row}
use Rattle.c_senses.specs.Specifiers.{align_operand, align_specifier, short_type, char_type, long_types, type_of_words, counted, words_at, storage_words, function_words, words_fit, is_word_kind, named_type, type_leaf, type_row, first_type, specified_type, specs_row}
use Rattle.c_senses.specs.Declarators.{derived_once, derived, adjusted, specified_at, suffixes, inner_derivations, stars, derivations, is_parameter_array, positive, length_found, length_of, array_length, array_suffix, is_void_alone, parameters_in, types_in, list_of, suffix_row, parameter_fits, parameter_of, sense_of_child, parameter_row, type_name_of, type_name_row, derives_well, plain_declarator_row}
use Rattle.parsed_tree_laws.specs.sense_laws.Sound.{ProperWorld, IsProper, AreProper, Gives}
use Rattle.parsed_tree_laws.specs.sense_laws.Senses.{IsProperStep, AreProperSteps, AreProperParts, SoundSense}
use Rattle.parsed_tree_laws.proofs.sense_laws.Giving.{then_gives, if_given, some_given, if_holds}

pub anything : {A : Type 0} (g : Given A) → Gives (λ n. ⊤) g
anything (Fits n) = tt
anything (Refuses kind node) = tt

steps_append : (xs ys : List Derivation) → AreProperSteps xs → AreProperSteps ys → AreProperSteps (xs ++ ys)
steps_append [] ys h k = k
steps_append (x ∷ xs) ys h k = (h.0, steps_append xs ys h.1 k)

steps_reversed : (xs ys : List Derivation) → AreProperSteps xs → AreProperSteps ys → AreProperSteps (reverse_aux xs ys)
steps_reversed [] ys h k = k
steps_reversed (x ∷ xs) ys h k = steps_reversed xs (x ∷ ys) h.1 (h.0, k)

once_proper : (d : Derivation) (t : Ctype) → IsProperStep d → IsProper t → IsProper (derived_once d t)
once_proper Pointing t h k = k
once_proper (Elements n) t h k = k
once_proper (Returning ps form) t h k = (k, h.0, h.1)

pub derived_proper : (ds : List Derivation) (t : Ctype) → AreProperSteps ds → IsProper t → IsProper (derived ds t)
derived_proper [] t h k = k
derived_proper (d ∷ ds) t h k = derived_proper ds (derived_once d t) h.1 (once_proper d t h.0 k)

pub adjusted_proper : (t : Ctype) → IsProper t → IsProper (adjusted t)
adjusted_proper (ArrayOf of n) h = h
adjusted_proper (FunctionFrom r ps form) h = h
adjusted_proper t h = h

words_proper : (words : List ℕ) → IsProper (type_of_words words)
words_proper words =
    if_holds IsProper (contains words word_void) VoidType _ (λ e. tt)
    (λ e. if_holds IsProper (contains words word_bool) BoolType _ (λ e. tt)
    (λ e. if_holds IsProper (contains words word_float || contains words word_double) FloatingType _ (λ e. tt)
    (λ e. if_holds IsProper (contains words word_char) (char_type words) _ (λ e. chars)
    (λ e. if_holds IsProper (contains words word_short) (short_type (contains words word_unsigned)) (long_types (contains words word_unsigned) (counted words word_long)) (λ e. tt) (λ e. longs (contains words word_unsigned) (counted words word_long))))))
  where
    chars : IsProper (char_type words)
    chars = if_holds IsProper (contains words word_unsigned) _ _ (λ e. tt) (λ e. if_holds IsProper (contains words word_signed) _ _ (λ e. tt) (λ e. tt))

    longs : (unsigned : Bool) (count : ℕ) → IsProper (long_types unsigned count)
    longs unsigned count =
        if_holds IsProper (count == 0) _ _ (λ e. if_holds IsProper unsigned _ _ (λ e. tt) (λ e. tt))
        (λ e. if_holds IsProper (count == 1) _ _ (λ e. if_holds IsProper unsigned _ _ (λ e. tt) (λ e. tt)) (λ e. if_holds IsProper unsigned _ _ (λ e. tt) (λ e. tt)))

module _ (w : World) (entities : ℕ → Option Ctype) (world : ProperWorld w) (s : Source) (sense : ℕ → Sense) (sound : (i : ℕ) → SoundSense w entities (sense i)) where
  -- specifiers
  named_sound : (at c : ℕ) (o : Option Meaning) → w.meaning c ≡ o → Gives (SoundSense w entities) (named_type w s sense at c o)
  named_sound at c (Some (TypeName t)) e = world.names c (TypeName t) e
  named_sound at c None e = if_holds IsProper _ FloatingType VaListType (λ e. tt) (λ e. tt)
  named_sound at c (Some x) e = tt

  pub type_sound : (at : ℕ) (children : List ℕ) → Gives (SoundSense w entities) (type_row w s sense at children)
  type_sound at [] = tt
  type_sound at (c ∷ rest) = if_holds (Gives (SoundSense w entities)) (is_leaf s c) _ (Fits (sense c)) (λ e. leaf_sound (is_word_kind (kind_at s c))) (λ e. sound c)
    where
      leaf_sound : (b : Bool) → Gives (SoundSense w entities) (type_leaf w s sense at c b)
      leaf_sound true = tt
      leaf_sound false = named_sound at c (w.meaning c) refl

  SomeProper : Option Ctype → Type 0
  SomeProper None = ⊤
  SomeProper (Some t) = IsProper t

  first_proper : (list : List ℕ) → SomeProper (first_type w s sense list)
  unfolding SomeProper
  first_proper [] = tt
  first_proper (c ∷ rest) = by_sense (sense c) (sound c) (first_type w s sense rest) (first_proper rest)
    where
      by_sense : (x : Sense) → SoundSense w entities x → (o : Option Ctype) → SomeProper o → SomeProper (elim x as (λ _. Option Ctype) [ IsType t ↦ Some t | _ ↦ o ])
      by_sense (IsType t) h o k = h
      by_sense x h o k = k

  specified_proper : (types : List ℕ) (o : Option Ctype) → SomeProper o → IsProper (specified_type w s sense types o)
  unfolding SomeProper
  specified_proper types None h = words_proper (words_at s types)
  specified_proper types (Some t) h = h

  pub specs_sound : (at : ℕ) (children : List ℕ) → Gives (SoundSense w entities) (specs_row w s sense at children)
  specs_sound at children =
      let types : List ℕ = all_where (is_a s p_type) children in
      if_given (SoundSense w entities) (words_fit s at (storage_words s children) (function_words s children)) Operand at _ (λ fit. specified_proper types (first_type w s sense types) (first_proper types))

  -- declarators
  pub specified_at_proper : (o : Option ℕ) (t : Ctype) → specified_at w s sense o ≡ Some t → IsProper t
  specified_at_proper None t e = cc
  specified_at_proper (Some i) t e = by_sense (sense i) (sound i) e
    where
      by_sense : (x : Sense) → SoundSense w entities x → (elim x as (λ _. Option Ctype) [ IsSpecified y ↦ Some y.type | _ ↦ None ]) ≡ Some t → IsProper t
      by_sense (IsSpecified y) h f = subst IsProper (let same : y.type ≡ t = cc in same) h
      by_sense x h f = cc

  suffixes_proper : (list : List ℕ) → AreProperSteps (suffixes w s sense list)
  suffixes_proper [] = tt
  suffixes_proper (c ∷ rest) = by_sense (sense c) (sound c) (suffixes w s sense rest) (suffixes_proper rest)
    where
      by_sense : (x : Sense) → SoundSense w entities x → (ds : List Derivation) → AreProperSteps ds → AreProperSteps (elim x as (λ _. List Derivation) [ IsDerivation d ↦ d ∷ ds | _ ↦ ds ])
      by_sense (IsDerivation d) h ds k = (h, k)
      by_sense x h ds k = k

  inner_proper : (list : List ℕ) → AreProperSteps (inner_derivations w s sense list)
  inner_proper [] = tt
  inner_proper (c ∷ rest) = by_sense (sense c) (sound c) (inner_derivations w s sense rest) (inner_proper rest)
    where
      by_sense : (x : Sense) → SoundSense w entities x → (ds : List Derivation) → AreProperSteps ds → AreProperSteps (elim x as (λ _. List Derivation) [ IsDeclarator name inner ↦ inner | _ ↦ ds ])
      by_sense (IsDeclarator name inner) h ds k = h
      by_sense x h ds k = k

  stars_proper : (list : List ℕ) → AreProperSteps (stars w s sense list)
  stars_proper [] = tt
  stars_proper (c ∷ rest) = if_holds AreProperSteps (has_sign s sign_star c) (Pointing ∷ stars w s sense rest) (stars w s sense rest) (λ e. (tt, stars_proper rest)) (λ e. stars_proper rest)

  derivations_proper : (children : List ℕ) → AreProperSteps (derivations w s sense children)
  derivations_proper children =
      steps_append (stars w s sense children) _ (stars_proper children)
      (steps_append (reverse (suffixes w s sense children)) _ (steps_reversed (suffixes w s sense children) [] (suffixes_proper children) tt) (inner_proper children))

  pub plain_sound : (at : ℕ) (children : List ℕ) → Gives (SoundSense w entities) (plain_declarator_row w s sense at children)
  plain_sound at children = if_given (SoundSense w entities) (derives_well w s sense at (derivations w s sense children)) Operand at _ (λ well. derivations_proper children)

  -- suffixes
  positive_proper : (at : ℕ) (n : ℤ) → Gives IsProperStep (positive w s sense at n)
  positive_proper at (pos k) = if_given IsProperStep (nat_lt 0 k) Operand at (Fits (Elements (Some k))) (λ e. tt)
  positive_proper at (negsuc k) = tt

  found_proper : (at : ℕ) (c : Core) (f : Found) → Gives IsProperStep (length_found w s sense at c f)
  found_proper at c (Value n) = positive_proper at n
  found_proper at c (Fails NoForm path) = tt
  found_proper at c (Fails OutOfRange path) = tt
  found_proper at c (Fails ZeroDivisor path) = tt

  open_proper : (at : ℕ) (c : Core) (f : Found) → Gives IsProperStep (elim f as (λ _. Given Derivation) [ Fails NoForm path ↦ Fits (Elements None) | found ↦ length_found w s sense at c found ])
  open_proper at c (Fails NoForm path) = tt
  open_proper at c (Value n) = positive_proper at n
  open_proper at c (Fails OutOfRange path) = tt
  open_proper at c (Fails ZeroDivisor path) = tt

  length_proper : (at : ℕ) (c : Core) → Gives IsProperStep (length_of w s sense at c)
  length_proper at c =
      if_given IsProperStep (is_whole (operand_of (ctype_of c))) Operand at _
      (λ whole. if_holds (Gives IsProperStep) (is_parameter_array w s sense at) _ (length_found w s sense at c (answer c true)) (λ e. open_proper at c (answer c true)) (λ e. found_proper at c (answer c true)))

  array_length_proper : (at : ℕ) (o : Option ℕ) (rest : List ℕ) → Gives IsProperStep (elim o as (λ _. Given Derivation) [ Some c ↦ value_in w at (sense c) >>= length_of w s sense at | None ↦ if any_where (has_sign s sign_star) rest then given_if (is_parameter_array w s sense at) Vla at (Fits (Elements None)) else Fits (Elements None) ])
  array_length_proper at (Some c) rest = then_gives (λ c. ⊤) IsProperStep (value_in w at (sense c)) (length_of w s sense at) (anything (value_in w at (sense c))) (λ c h. length_proper at c)
  array_length_proper at None rest =
      if_holds (Gives IsProperStep) (any_where (has_sign s sign_star) rest) _ (Fits (Elements None)) (λ e. if_given IsProperStep (is_parameter_array w s sense at) Vla at (Fits (Elements None)) (λ e. tt)) (λ e. tt)

  AreParameters : List Parameter → Type 0
  AreParameters [] = ⊤
  AreParameters (p ∷ rest) = IsProper p.type × AreParameters rest

  parameters_proper : (list : List ℕ) → AreParameters (parameters_in w s sense list)
  unfolding AreParameters
  parameters_proper [] = tt
  parameters_proper (c ∷ rest) = by_sense (sense c) (sound c) (parameters_in w s sense rest) (parameters_proper rest)
    where
      by_sense : (x : Sense) → SoundSense w entities x → (ps : List Parameter) → AreParameters ps → AreParameters (elim x as (λ _. List Parameter) [ IsParameter p ↦ p ∷ ps | _ ↦ ps ])
      by_sense (IsParameter p) h ps k = (h, k)
      by_sense x h ps k = k

  types_proper : (ps : List Parameter) → AreParameters ps → AreProper (types_in w s sense ps)
  unfolding AreParameters
  types_proper [] h = tt
  types_proper (p ∷ ps) h = (h.0, types_proper ps h.1)

  list_proper : (variadic : Bool) (ps : List Parameter) → AreParameters ps → IsProperStep (list_of w s sense variadic ps)
  unfolding AreParameters
  list_proper true [] h = (tt, tt)
  list_proper false [] h = (tt, tt)
  list_proper true (p ∷ ps) h = ((h.0, types_proper ps h.1), tt)
  list_proper false (p ∷ []) h = if_holds IsProperStep (is_void_alone w s sense p) (Returning NoTypes Fixed) _ (λ e. (tt, tt)) (λ e. ((h.0, tt), tt))
  list_proper false (p ∷ q ∷ ps) h = ((h.0, (h.1.0, types_proper ps h.1.1)), tt)

  pub suffix_sound : (at : ℕ) (children : List ℕ) → Gives (SoundSense w entities) (suffix_row w s sense at children)
  suffix_sound at [] = tt
  suffix_sound at (first ∷ rest) =
      if_holds (Gives (SoundSense w entities)) (has_sign s sign_left_bracket first) _ _
      (λ e.
      then_gives IsProperStep (SoundSense w entities) (array_suffix w s sense at rest) (λ d. Fits (IsDerivation d))
      (if_given IsProperStep _ Operand at (array_length w s sense at rest) (λ e. array_length_proper at (child_of s p_assignment at) rest)) (λ d h. h))
      (λ e. list_proper (any_where (has_sign s sign_ellipsis) rest) (parameters_in w s sense rest) (parameters_proper rest))

  -- parameters and type names
  parameter_of_sound : (at : ℕ) (o : Option Ctype) (x : Sense) → ((t : Ctype) → o ≡ Some t → IsProper t) → SoundSense w entities x → Gives (SoundSense w entities) (parameter_of w s sense at o x)
  parameter_of_sound at (Some base) (IsDeclarator name ds) h k =
      if_given (SoundSense w entities) (parameter_fits w s sense at (record { name = name; type = adjusted (derived ds base) })) Operand at _ (λ fit. adjusted_proper (derived ds base) (derived_proper ds base k (h base refl)))
  parameter_of_sound at o x h k = tt

  child_sense : (o : Option ℕ) → SoundSense w entities (elim o as (λ _. Sense) [ None ↦ Nothing | Some c ↦ sense c ])
  child_sense None = tt
  child_sense (Some c) = sound c

  pub parameter_sound : (at : ℕ) → Gives (SoundSense w entities) (parameter_row w s sense at)
  parameter_sound at = parameter_of_sound at (specified_at w s sense (child_of s p_specs at)) (sense_of_child w s sense p_either at) (specified_at_proper (child_of s p_specs at)) (child_sense (child_of s p_either at))

  type_name_of_sound : (at : ℕ) (o : Option Ctype) (x : Sense) → ((t : Ctype) → o ≡ Some t → IsProper t) → SoundSense w entities x → Gives (SoundSense w entities) (type_name_of w s sense at o x)
  type_name_of_sound at (Some base) (IsDeclarator name ds) h k = derived_proper ds base k (h base refl)
  type_name_of_sound at o x h k = tt

  pub type_name_sound : (at : ℕ) → Gives (SoundSense w entities) (type_name_row w s sense at)
  type_name_sound at = type_name_of_sound at (specified_at w s sense (child_of s p_specs at)) (sense_of_child w s sense p_abstract at) (specified_at_proper (child_of s p_specs at)) (child_sense (child_of s p_abstract at))

  -- structures, unions, enumerations and their members
  parts_append : (xs ys : List Part) → AreProperParts xs → AreProperParts ys → AreProperParts (xs ++ ys)
  parts_append [] ys h k = k
  parts_append (x ∷ xs) ys h k = (h.0, parts_append xs ys h.1 k)

  members_of_sense : (x : Sense) → SoundSense w entities x → AreProperParts (members_in_sense w s sense x)
  members_of_sense (IsMembers parts) h = h
  members_of_sense x h = tt

  pub members_proper : (list : List ℕ) → AreProperParts (members_among w s sense list)
  members_proper [] = tt
  members_proper (c ∷ rest) = parts_append (members_in_sense w s sense (sense c)) (members_among w s sense rest) (members_of_sense (sense c) (sound c)) (members_proper rest)

  pub struct_sound : (at : ℕ) → Gives (SoundSense w entities) (struct_row w s sense at)
  struct_sound at = if_given (SoundSense w entities) (tag_fits s at) Operand (named_tag s at) (struct_type w s sense at (child_of s p_members at)) (λ fit. by_list (child_of s p_members at))
    where
      aggregate : IsProper (aggregate_type s at)
      aggregate = if_holds IsProper (is_union s at) (UnionOf (tag_of s at)) (StructureOf (tag_of s at)) (λ e. tt) (λ e. tt)

      by_list : (o : Option ℕ) → Gives (SoundSense w entities) (struct_type w s sense at o)
      by_list None = aggregate
      by_list (Some list) = if_given (SoundSense w entities) (is_small (Some (laid w (is_union s at) (aggregate_type s at) (members_in_sense w s sense (sense list))))) Operand at (Fits (IsType (aggregate_type s at))) (λ small. aggregate)

  pub enum_sound : (at : ℕ) → Gives (SoundSense w entities) (enum_row w s sense at)
  enum_sound at = if_given (SoundSense w entities) (tag_fits s at) Operand (named_tag s at) (Fits (IsType int)) (λ fit. tt)

  unnamed_sound : (at : ℕ) (o : Option Ctype) → SomeProper o → Gives (SoundSense w entities) (unnamed_member w s sense at o)
  unfolding SomeProper
  unnamed_sound at None h = tt
  unnamed_sound at (Some t) h = if_given (SoundSense w entities) _ Operand at (Fits (IsMembers (record { name = None; type = t; bits = None } ∷ []))) (λ fit. (h, tt))

  type_found : (o : Option ℕ) → SomeProper (option_and_then (λ i. type_in_sense w s sense (sense i)) o)
  unfolding SomeProper
  type_found None = tt
  type_found (Some i) = by_sense (sense i) (sound i)
    where
      by_sense : (x : Sense) → SoundSense w entities x → SomeProper (type_in_sense w s sense x)
      by_sense (IsType t) h = h
      by_sense x h = tt

  pub member_sound : (at : ℕ) (children : List ℕ) → Gives (SoundSense w entities) (member_declaration w s sense at children)
  member_sound at children = by_specs (child_of s p_specs at)
    where
      by_specs : (o : Option ℕ) → Gives (SoundSense w entities) (member_specs w s sense at children o)
      by_specs None = tt
      by_specs (Some specs) =
          if_holds (Gives (SoundSense w entities)) (any_where (is_a s p_field) children) (Fits (IsMembers (members_among w s sense children))) _ (λ e. members_proper children)
          (λ e. unnamed_sound at _ (type_found (untagged_in w s sense specs)))

  field_typed_sound : (at : ℕ) (leaf : Option ℕ) (t : Ctype) (width : Option ℕ) → IsProper t → Gives (SoundSense w entities) (field_typed w s sense at leaf t width)
  field_typed_sound at leaf t None h = if_given (SoundSense w entities) _ Operand (named_field w s sense at leaf) (Fits (IsMembers (record { name = field_name w s sense leaf; type = t; bits = None } ∷ []))) (λ fit. (h, tt))
  field_typed_sound at leaf t (Some width) h =
      some_given (SoundSense w entities) (bits_in t) Operand (named_field w s sense at leaf) _
      (λ most e.
      then_gives (λ n. ⊤) (SoundSense w entities) (constant_in w s at (sense width)) _ (anything (constant_in w s at (sense width)))
      (λ n k.
      if_given (SoundSense w entities) (is_new_name w s sense at (field_name w s sense leaf)) Operand (named_field w s sense at leaf) (bit_field w s sense (named_field w s sense at leaf) (field_name w s sense leaf) t n most)
      (λ new.
      some_given (SoundSense w entities) (width_fits most (is_some (field_name w s sense leaf)) n) Operand (named_field w s sense at leaf) (λ k. if k == 0 then Fits (IsMembers []) else Fits (IsMembers (record { name = field_name w s sense leaf; type = t; bits = Some k } ∷ [])))
      (λ k f. if_holds (Gives (SoundSense w entities)) (k == 0) (Fits (IsMembers [])) _ (λ zero. tt) (λ some. (h, tt))))))

  field_of_sound : (at : ℕ) (o : Option Ctype) (x : Sense) → ((t : Ctype) → o ≡ Some t → IsProper t) → SoundSense w entities x → Gives (SoundSense w entities) (field_of w s sense at o x)
  field_of_sound at None x h k = tt
  field_of_sound at (Some base) (IsDeclarator leaf ds) h k = field_typed_sound at leaf (derived ds base) (child_of s p_conditional at) (derived_proper ds base k (h base refl))
  field_of_sound at (Some base) x h k = field_typed_sound at None base (child_of s p_conditional at) (h base refl)

  pub field_sound : (at : ℕ) → Gives (SoundSense w entities) (field_row w s sense at)
  field_sound at =
      field_of_sound at (specified_at w s sense (option_and_then (child_of s p_specs) (parent_of s at))) (sense_of_child w s sense p_declarator at) (specified_at_proper (option_and_then (child_of s p_specs) (parent_of s at))) (child_sense (child_of s p_declarator at))

  enumerator_of_sound : (at leaf : ℕ) (n : ℤ) → Gives (SoundSense w entities) (enumerator_of w s sense at leaf n)
  enumerator_of_sound at leaf n = if_given (SoundSense w entities) _ Operand leaf (Fits (IsValue n)) (λ fit. tt)

  enumerator_by : (at leaf : ℕ) (o : Option ℕ) → Gives (SoundSense w entities) (enumerator_named w s sense at leaf o)
  enumerator_by at leaf None = enumerator_of_sound at leaf (value_before w s sense (before_enumerator w s sense at) +ℤ pos 1)
  enumerator_by at leaf (Some e) = then_gives (λ n. ⊤) (SoundSense w entities) (constant_in w s at (sense e)) (enumerator_of w s sense at leaf) (anything (constant_in w s at (sense e))) (λ n k. enumerator_of_sound at leaf n)

  pub enumerator_sound : (at : ℕ) (children : List ℕ) → Gives (SoundSense w entities) (enumerator_row w s sense at children)
  enumerator_sound at [] = tt
  enumerator_sound at (leaf ∷ rest) = enumerator_by at leaf (child_of s p_conditional at)

  pub align_sound : (at : ℕ) (children : List ℕ) → Gives (SoundSense w entities) (align_specifier w s sense at children)
  align_sound at children = by_last (last_where (λ c. not (is_leaf s c)) children)
    where
      constant : (x : Sense) → Gives (SoundSense w entities) (constant_in w s at x >>= (λ n. Fits Nothing))
      constant x = then_gives (λ n. ⊤) (SoundSense w entities) (constant_in w s at x) (λ n. Fits Nothing) (anything (constant_in w s at x)) (λ n k. tt)

      by_sense : (x : Sense) → Gives (SoundSense w entities) (align_operand w s sense at x)
      by_sense (IsType t) = if_given (SoundSense w entities) (has_size w t) Operand at (Fits Nothing) (λ fit. tt)
      by_sense Nothing = constant Nothing
      by_sense (IsCore c) = constant (IsCore c)
      by_sense (IsSpecified x) = constant (IsSpecified x)
      by_sense (IsDeclarator n ds) = constant (IsDeclarator n ds)
      by_sense (IsDerivation d) = constant (IsDerivation d)
      by_sense (IsParameter p) = constant (IsParameter p)
      by_sense (IsMembers ps) = constant (IsMembers ps)
      by_sense (IsValue n) = constant (IsValue n)
      by_sense (IsRun cs) = constant (IsRun cs)
      by_sense (IsInitial c n) = constant (IsInitial c n)

      by_last : (o : Option ℕ) → Gives (SoundSense w entities) (elim o as (λ _. Given Sense) [ None ↦ Refuses Operand at | Some c ↦ align_operand w s sense at (sense c) ])
      by_last None = tt
      by_last (Some c) = by_sense (sense c)
