-- Rows of declarations.
use Rattle.std.proofs.Common.{◌==◌, ℕ, Bool, true, false, ◌&&◌, ◌||◌, not, pos, negsuc, List, [], ◌∷◌, Option, Some, None}
use Rattle.std.specs.Prelude.{ℤ, ◌+ℤ◌, nat_lt, is_some, option_and_then, if◌then◌else◌}
use Rattle.pta_base.specs.declared.kind.Kind.TheVariants.{Operand, Vla, InlineDefinition}
use Rattle.c_types.specs.Trees.{Ctype}
use Rattle.core_tree.specs.Rows.{int}
use Rattle.c_grammar.specs.Productions.{p_specs, p_members, p_field, p_declarator, p_abstract, p_either, p_parameter, p_assignment, p_conditional}
use Rattle.c_grammar.specs.Words.{sign_left_bracket, sign_star, word_inline, word_static}
use Rattle.c_consts.specs.Core.{Core, ctype_of}
use Rattle.c_consts.specs.Operators.{Wrong, NoForm, OutOfRange, ZeroDivisor}
use Rattle.c_consts.specs.Answer.{Found, Value, Fails, answer}
use Rattle.c_senses.specs.Tree.{Source, is_a, is_leaf, has_sign, kind_at, last_where, any_where, child_of, parent_of}
use Rattle.c_senses.specs.Given.{Given, Fits, Refuses, ◌>>=◌, given_if}
use Rattle.c_senses.specs.World.{World, has_size, Meaning, Object, Function, TypeName, Tag, Value as ValueMeaning}
use Rattle.c_senses.specs.Conversions.{operand_of}
use Rattle.c_senses.specs.Constants.{kind_of_wrong, valued, constant_in, is_whole}
use Rattle.c_senses.specs.Sense.{Derivation, Elements, Parameter, Sense, Nothing, IsCore, IsType, IsSpecified, IsDeclarator, IsDerivation, IsParameter, IsMembers, IsValue, IsRun, IsInitial, value_in}
use Rattle.c_senses.specs.Limits.{is_small, ends_flexible}
use Rattle.c_senses.specs.Specifiers.{align_operand, align_specifier, words_fit, storage_words, function_words, is_word_kind, named_type, type_leaf, type_row, specs_row}
use Rattle.c_senses.specs.Declarators.{derived, adjusted, specified_at, sense_of_child, is_parameter_array, positive, length_found, length_of, array_length, array_suffix, suffix_row, parameter_fits, parameter_of, parameter_row, type_name_of, type_name_row, derivations, derives_well, plain_declarator_row, is_outermost, base_type}
use Rattle.c_senses.specs.Tags.{tag_fits, named_tag, is_union, aggregate_type, laid, members_in_sense, struct_type, struct_row, enum_row, members_among, is_in_union, untagged_in, type_in_sense, unnamed_member, member_specs, member_declaration, may_be_member, width_fits, bits_in, bit_field, field_name, is_new_name, named_field, field_typed, field_of, field_row, is_int, value_before, before_enumerator, enumerator_of, enumerator_named, enumerator_row}
use Rattle.c_senses.specs.Entities.{is_defined, is_void_type, result_of, has_function_word, has_storage, initialiser_of, words_go, is_same_again, has_one_linkage, internal_fits, is_name_complete, definition_row, named_row, defined_parameter, is_parameter_complete, parameter_named, by_place}
use Rattle.c_senses.specs.Rows.{at_its_name, declarator_row}
use Rattle.refusal_laws.specs.Refusals.{IsOther, IsBuilt}
use Rattle.refusal_laws.proofs.Steps.{then_built, if_built, some_built, either_built}
use Rattle.refusal_laws.proofs.Values.{value_in_built}

-- ---- constants

wrong_other : (x : Wrong) → IsOther (kind_of_wrong x)
wrong_other NoForm = tt
wrong_other OutOfRange = tt
wrong_other ZeroDivisor = tt

valued_built : (s : Source) (at : ℕ) (c : Core) (f : Found) → IsBuilt (valued s at c f)
valued_built s at c (Value n) = tt
valued_built s at c (Fails x path) = wrong_other x

pub constant_built : (w : World) (s : Source) (at : ℕ) (x : Sense) → IsBuilt (constant_in w s at x)
constant_built w s at x = then_built {B = ℤ} (value_in w at x) (λ c. valued s at c (answer c true)) (value_in_built w at x) (λ c. valued_built s at c (answer c true))

module _ (w : World) (s : Source) (sense : ℕ → Sense) where
  -- ---- specifiers

  operand_built : (at : ℕ) (x : Sense) → IsBuilt (align_operand w s sense at x)
  operand_built at (IsType t) = if_built {A = Sense} (has_size w t) Operand at (Fits Nothing) tt tt
  operand_built at Nothing = tt
  operand_built at (IsCore c) = then_built {B = Sense} (constant_in w s at (IsCore c)) (λ n. Fits Nothing) (constant_built w s at (IsCore c)) (λ n. tt)
  operand_built at (IsSpecified x) = tt
  operand_built at (IsDeclarator n ds) = tt
  operand_built at (IsDerivation d) = tt
  operand_built at (IsParameter p) = tt
  operand_built at (IsMembers ps) = tt
  operand_built at (IsValue n) = tt
  operand_built at (IsRun cs) = tt
  operand_built at (IsInitial c n) = tt

  pub align_specified : (at : ℕ) (xs : List ℕ) → IsBuilt (align_specifier w s sense at xs)
  align_specified at xs = by (last_where (λ c. not (is_leaf s c)) xs)
    where
      by : (o : Option ℕ) → IsBuilt (elim o as (λ _. Given Sense) [ None ↦ Refuses Operand at | Some c ↦ align_operand w s sense at (sense c) ])
      by None = tt
      by (Some c) = operand_built at (sense c)

  named_built : (at c : ℕ) (o : Option Meaning) → IsBuilt (named_type w s sense at c o)
  named_built at c None = tt
  named_built at c (Some (TypeName t)) = tt
  named_built at c (Some (Object e t)) = tt
  named_built at c (Some (Function e t)) = tt
  named_built at c (Some (Tag tag)) = tt
  named_built at c (Some (ValueMeaning n)) = tt

  leaf_built : (at c : ℕ) (b : Bool) → IsBuilt (type_leaf w s sense at c b)
  leaf_built at c true = tt
  leaf_built at c false = named_built at c (w.meaning c)

  pub types_built : (at : ℕ) (xs : List ℕ) → IsBuilt (type_row w s sense at xs)
  types_built at [] = tt
  types_built at (c ∷ rest) = either_built {A = Sense} (is_leaf s c) _ (Fits (sense c)) (leaf_built at c (is_word_kind (kind_at s c))) tt

  pub specs_built : (at : ℕ) (xs : List ℕ) → IsBuilt (specs_row w s sense at xs)
  specs_built at xs = if_built {A = Sense} (words_fit s at (storage_words s xs) (function_words s xs)) Operand at _ tt tt

  -- ---- declarators

  positive_built : (at : ℕ) (n : ℤ) → IsBuilt (positive w s sense at n)
  positive_built at (pos k) = if_built {A = Derivation} (nat_lt 0 k) Operand at _ tt tt
  positive_built at (negsuc k) = tt

  found_built : (at : ℕ) (c : Core) (f : Found) → IsBuilt (length_found w s sense at c f)
  found_built at c (Value n) = positive_built at n
  found_built at c (Fails NoForm path) = tt
  found_built at c (Fails OutOfRange path) = tt
  found_built at c (Fails ZeroDivisor path) = tt

  open_built : (at : ℕ) (c : Core) (f : Found) → IsBuilt (elim f as (λ _. Given Derivation) [ Fails NoForm path ↦ Fits (Elements None) | found ↦ length_found w s sense at c found ])
  open_built at c (Fails NoForm path) = tt
  open_built at c (Value n) = positive_built at n
  open_built at c (Fails OutOfRange path) = tt
  open_built at c (Fails ZeroDivisor path) = tt

  length_built : (at : ℕ) (c : Core) → IsBuilt (length_of w s sense at c)
  length_built at c =
      if_built {A = Derivation} (is_whole (operand_of (ctype_of c))) Operand at _ tt
      (either_built {A = Derivation} (is_parameter_array w s sense at) _ (length_found w s sense at c (answer c true)) (open_built at c (answer c true)) (found_built at c (answer c true)))

  array_built : (at : ℕ) (o : Option ℕ) (rest : List ℕ)
      → IsBuilt (elim o as (λ _. Given Derivation) [ Some c ↦ value_in w at (sense c) >>= length_of w s sense at | None ↦ if any_where (has_sign s sign_star) rest then given_if (is_parameter_array w s sense at) Vla at (Fits (Elements None)) else Fits (Elements None) ])
  array_built at (Some c) rest = then_built {B = Derivation} (value_in w at (sense c)) (length_of w s sense at) (value_in_built w at (sense c)) (λ v. length_built at v)
  array_built at None rest = either_built {A = Derivation} (any_where (has_sign s sign_star) rest) _ (Fits (Elements None)) (if_built {A = Derivation} (is_parameter_array w s sense at) Vla at (Fits (Elements None)) tt tt) tt

  pub suffix_built : (at : ℕ) (xs : List ℕ) → IsBuilt (suffix_row w s sense at xs)
  suffix_built at [] = tt
  suffix_built at (first ∷ rest) =
      either_built {A = Sense} (has_sign s sign_left_bracket first) (array_suffix w s sense at rest >>= (λ d. Fits (IsDerivation d))) _
      (then_built {B = Sense} (array_suffix w s sense at rest) (λ d. Fits (IsDerivation d)) suffix (λ d. tt)) tt
    where
      suffix : IsBuilt (array_suffix w s sense at rest)
      suffix = go _ (array_built at (child_of s p_assignment at) rest)
        where
          go : (b : Bool) → IsBuilt (array_length w s sense at rest) → IsBuilt (given_if b Operand at (array_length w s sense at rest))
          go b h = if_built {A = Derivation} b Operand at (array_length w s sense at rest) tt h

  parameter_by : (at : ℕ) (o : Option Ctype) (x : Sense) → IsBuilt (parameter_of w s sense at o x)
  parameter_by at (Some base) (IsDeclarator name ds) =
      let p : Parameter = record { name = name; type = adjusted (derived ds base) } in if_built {A = Sense} (parameter_fits w s sense at p) Operand at (Fits (IsParameter p)) tt tt
  parameter_by at None x = tt
  parameter_by at (Some base) x = tt

  pub parameter_built : (at : ℕ) → IsBuilt (parameter_row w s sense at)
  parameter_built at = parameter_by at (specified_at w s sense (child_of s p_specs at)) (sense_of_child w s sense p_either at)

  name_by : (at : ℕ) (o : Option Ctype) (x : Sense) → IsBuilt (type_name_of w s sense at o x)
  name_by at (Some base) (IsDeclarator name ds) = tt
  name_by at None x = tt
  name_by at (Some base) x = tt

  pub type_name_built : (at : ℕ) → IsBuilt (type_name_row w s sense at)
  type_name_built at = name_by at (specified_at w s sense (child_of s p_specs at)) (sense_of_child w s sense p_abstract at)

  definition_built : (t : Ctype) (leaf : ℕ) (g : Given Sense) → IsBuilt g → IsBuilt (definition_row w s sense t leaf g)
  definition_built t leaf g h =
      either_built {A = Sense} (is_defined s sense leaf) _ g
      (if_built {A = Sense} (is_void_type w s sense (result_of w s sense t) || has_size w (result_of w s sense t)) Operand leaf _ tt
      (if_built {A = Sense} (not (has_function_word s sense word_inline leaf && not (has_storage s sense word_static leaf))) InlineDefinition leaf g tt h))
      h

  named_row_built : (at leaf : ℕ) (t : Ctype) (g : Given Sense) → IsBuilt g → IsBuilt (named_row w s sense at leaf t g)
  named_row_built at leaf t g h =
      let initialised = is_some (initialiser_of s sense at) in
      if_built {A = Sense} (words_go w s sense initialised leaf) Operand leaf _ tt
      (if_built {A = Sense} (is_same_again w s sense t leaf) Operand leaf _ tt
      (if_built {A = Sense} (has_one_linkage w s sense leaf) Operand leaf _ tt
      (if_built {A = Sense} (internal_fits w s sense (initialised || is_defined s sense leaf) t leaf) Operand leaf _ tt
      (if_built {A = Sense} (is_name_complete w s sense initialised t leaf) Operand leaf _ tt (definition_built t leaf g h)))))

  place_built : (at leaf : ℕ) (t narrow : Ctype) (g : Given Sense) → IsBuilt g → IsBuilt (by_place w s sense at leaf t narrow g)
  place_built at leaf t narrow g h = by (parent_of s at)
    where
      by : (o : Option ℕ) → IsBuilt (elim o as (λ _. Given Sense) [ None ↦ g | Some p ↦ if is_a s p_field p then g else (if is_a s p_parameter p then parameter_named w s sense at leaf narrow g else named_row w s sense at leaf t g) ])
      by None = h
      by (Some p) =
          either_built {A = Sense} (is_a s p_field p) g _ h
          (either_built {A = Sense} (is_a s p_parameter p) (parameter_named w s sense at leaf narrow g) (named_row w s sense at leaf t g)
          (if_built {A = Sense} (not (defined_parameter w s sense at) || is_parameter_complete w s sense narrow) Operand leaf g tt h) (named_row_built at leaf t g h))

  name_built : (at : ℕ) (g : Given Sense) (base : Option Ctype) (x : Sense) → IsBuilt g → IsBuilt (at_its_name w s sense at g base x)
  name_built at g (Some base) (IsDeclarator (Some leaf) ds) h = either_built {A = Sense} (is_outermost s at) _ g (place_built at leaf (derived ds base) (adjusted (derived ds base)) g h) h
  name_built at g (Some base) (IsDeclarator None ds) h = h
  name_built at g (Some base) x h = h
  name_built at g None x h = h

  pub declarator_built : (at : ℕ) (xs : List ℕ) → IsBuilt (declarator_row w s sense at xs)
  declarator_built at xs =
      then_built {B = Sense} (plain_declarator_row w s sense at xs) (λ x. at_its_name w s sense at (Fits x) (base_type w s sense at) x)
      (if_built {A = Sense} (derives_well w s sense at (derivations w s sense xs)) Operand at _ tt tt) (λ x. name_built at (Fits x) (base_type w s sense at) x tt)

  -- ---- structures, unions, enumerations and members

  struct_by : (at : ℕ) (o : Option ℕ) → IsBuilt (struct_type w s sense at o)
  struct_by at None = tt
  struct_by at (Some list) = if_built {A = Sense} (is_small (Some (laid w (is_union s at) (aggregate_type s at) (members_in_sense w s sense (sense list))))) Operand at (Fits (IsType (aggregate_type s at))) tt tt

  pub structs_built : (at : ℕ) → IsBuilt (struct_row w s sense at)
  structs_built at = if_built {A = Sense} (tag_fits s at) Operand (named_tag s at) (struct_type w s sense at (child_of s p_members at)) tt (struct_by at (child_of s p_members at))

  pub enums_built : (at : ℕ) → IsBuilt (enum_row w s sense at)
  enums_built at = if_built {A = Sense} (tag_fits s at) Operand (named_tag s at) (Fits (IsType int)) tt tt

  unnamed_built : (at : ℕ) (o : Option Ctype) → IsBuilt (unnamed_member w s sense at o)
  unnamed_built at None = tt
  unnamed_built at (Some t) = if_built {A = Sense} (is_in_union w s sense at || not (ends_flexible w t)) Operand at _ tt tt

  member_by : (at : ℕ) (xs : List ℕ) (o : Option ℕ) → IsBuilt (member_specs w s sense at xs o)
  member_by at xs None = tt
  member_by at xs (Some specs) =
      either_built {A = Sense} (any_where (is_a s p_field) xs) (Fits (IsMembers (members_among w s sense xs))) _ tt (unnamed_built at (option_and_then (λ i. type_in_sense w s sense (sense i)) (untagged_in w s sense specs)))

  pub members_built : (at : ℕ) (xs : List ℕ) → IsBuilt (member_declaration w s sense at xs)
  members_built at xs = member_by at xs (child_of s p_specs at)

  bits_built : (named : ℕ) (name : Option (List ℕ)) (t : Ctype) (n : ℤ) (most : ℕ) → IsBuilt (bit_field w s sense named name t n most)
  bits_built named name t n most =
      some_built {B = Sense} (width_fits most (is_some name) n) Operand named (λ k. if k == 0 then Fits (IsMembers []) else Fits (IsMembers (record { name = name; type = t; bits = Some k } ∷ []))) tt
      (λ k. either_built {A = Sense} (k == 0) (Fits (IsMembers [])) (Fits (IsMembers (record { name = name; type = t; bits = Some k } ∷ []))) tt tt)

  field_by : (at : ℕ) (leaf : Option ℕ) (t : Ctype) (o : Option ℕ) → IsBuilt (field_typed w s sense at leaf t o)
  field_by at leaf t None =
      if_built {A = Sense} (may_be_member w s sense at t && is_new_name w s sense at (field_name w s sense leaf)) Operand (named_field w s sense at leaf)
      (Fits (IsMembers (record { name = field_name w s sense leaf; type = t; bits = None } ∷ []))) tt tt
  field_by at leaf t (Some width) =
      let named = named_field w s sense at leaf in
      let name = field_name w s sense leaf in
      let rest : ℕ → ℤ → Given Sense = λ most n. given_if (is_new_name w s sense at name) Operand named (bit_field w s sense named name t n most) in
      some_built {B = Sense} (bits_in t) Operand named (λ most. constant_in w s at (sense width) >>= rest most) tt
      (λ most. then_built {B = Sense} (constant_in w s at (sense width)) (rest most) (constant_built w s at (sense width))
      (λ n. if_built {A = Sense} (is_new_name w s sense at name) Operand named (bit_field w s sense named name t n most) tt (bits_built named name t n most)))

  field_from : (at : ℕ) (o : Option Ctype) (x : Sense) → IsBuilt (field_of w s sense at o x)
  field_from at None x = tt
  field_from at (Some base) (IsDeclarator leaf ds) = field_by at leaf (derived ds base) (child_of s p_conditional at)
  field_from at (Some base) Nothing = field_by at None base (child_of s p_conditional at)
  field_from at (Some base) (IsCore c) = field_by at None base (child_of s p_conditional at)
  field_from at (Some base) (IsType t) = field_by at None base (child_of s p_conditional at)
  field_from at (Some base) (IsSpecified x) = field_by at None base (child_of s p_conditional at)
  field_from at (Some base) (IsDerivation d) = field_by at None base (child_of s p_conditional at)
  field_from at (Some base) (IsParameter p) = field_by at None base (child_of s p_conditional at)
  field_from at (Some base) (IsMembers ms) = field_by at None base (child_of s p_conditional at)
  field_from at (Some base) (IsValue n) = field_by at None base (child_of s p_conditional at)
  field_from at (Some base) (IsRun cs) = field_by at None base (child_of s p_conditional at)
  field_from at (Some base) (IsInitial c n) = field_by at None base (child_of s p_conditional at)

  pub fields_built : (at : ℕ) → IsBuilt (field_row w s sense at)
  fields_built at = field_from at (specified_at w s sense (option_and_then (child_of s p_specs) (parent_of s at))) (sense_of_child w s sense p_declarator at)

  value_built : (at leaf : ℕ) (n : ℤ) → IsBuilt (enumerator_of w s sense at leaf n)
  value_built at leaf n = if_built {A = Sense} (is_int w s sense n) Operand leaf (Fits (IsValue n)) tt tt

  enumerator_by : (at leaf : ℕ) (o : Option ℕ) → IsBuilt (enumerator_named w s sense at leaf o)
  enumerator_by at leaf None = value_built at leaf (value_before w s sense (before_enumerator w s sense at) +ℤ pos 1)
  enumerator_by at leaf (Some e) = then_built {B = Sense} (constant_in w s at (sense e)) (enumerator_of w s sense at leaf) (constant_built w s at (sense e)) (λ n. value_built at leaf n)

  pub enumerators_built : (at : ℕ) (xs : List ℕ) → IsBuilt (enumerator_row w s sense at xs)
  enumerators_built at [] = tt
  enumerators_built at (leaf ∷ rest) = enumerator_by at leaf (child_of s p_conditional at)
