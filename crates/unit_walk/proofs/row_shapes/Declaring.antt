-- Rows of declarations and statements.
use Rattle.std.proofs.Common.{◌≡◌, ◌==◌, ◌||◌, ℕ, Bool, true, false, cond, List, [], ◌∷◌, Option, Some, None, refl}
use Rattle.std.specs.Ordering.{int_eq}
use Rattle.std.specs.Prelude.{⊤, ℤ, pos, ◌+ℤ◌, not, ◌&&◌, nat_lt, option_and_then, is_some}
use Rattle.c_types.specs.Trees.{Ctype}
use Rattle.pta_base.specs.declared.kind.Kind.TheVariants.{Operand}
use Rattle.c_grammar.specs.Productions.{p_type, p_specs, p_conditional, p_expression, p_field, p_declarator, p_either, p_abstract, p_members, p_rest}
use Rattle.c_grammar.specs.Words.{sign_left_bracket}
use Rattle.c_consts.specs.Core.{Core}
use Rattle.c_inits.specs.Made.{Part}
use Rattle.c_senses.specs.Tree.{Source, is_a, is_leaf, is_name, spelling_at, kind_at, last_where, all_where, any_where, has_sign, child_of, parent_of}
use Rattle.c_senses.specs.Given.{Given, Fits, Refuses, given_if, ◌>>=◌}
use Rattle.c_senses.specs.World.{World, Meaning, Object, Function, TypeName, Tag, Value}
use Rattle.c_senses.specs.Sense.{Sense, Nothing, IsCore, IsType, IsSpecified, IsDeclarator, IsDerivation, IsParameter, IsMembers, IsValue, IsRun, IsInitial, Derivation, Parameter, fits}
use Rattle.c_senses.specs.Constants.{constant_in}
use Rattle.c_senses.specs.Specifiers.{align_specifier, align_operand, specs_row, words_fit, storage_words, function_words, specified_type, first_type, type_row, type_leaf, named_type, is_word_kind}
use Rattle.c_senses.specs.Declarators.{derived, adjusted, parameter_fits, suffix_row, array_suffix, parameter_of, type_name_of, specified_at, sense_of_child, parameter_row, type_name_row}
use Rattle.c_senses.specs.Statements.{assert_row, statement_row, statement_of, leaf_statement, expression_statement}
use Rattle.c_senses.specs.Tags.{tag_fits, named_tag, enum_row, enumerator_row, enumerator_named, enumerator_of, is_int, value_before, before_enumerator, struct_row, struct_type, aggregate_type, laid, is_union, members_in_sense, members_row, member_declaration, member_specs, unnamed_member, untagged_in, type_in_sense, members_among, is_in_union, field_row, field_of, field_typed, may_be_member, is_new_name, field_name, named_field, bits_in, bit_field, width_fits}
use Rattle.c_senses.specs.Initialised.{designator_row}
use Rattle.c_senses.specs.Limits.{is_small, ends_flexible}
use Rattle.parsed_tree_laws.specs.sense_laws.Sound.{Gives}
use Rattle.parsed_tree_laws.proofs.sense_laws.Giving.{if_given, some_given, then_gives, if_holds}
use Rattle.unit_walk.specs.row_shapes.Kept.{Keeps}

anything : {A : Type 0} (g : Given A) → Gives (λ x. ⊤) g
anything (Fits x) = tt
anything (Refuses kind node) = tt

-- what is asked of core trees alone, or of none
module _ (K : Sense → Type 0) (core : (c : Core) → K (IsCore c)) (w : World) (s : Source) (sense : ℕ → Sense) (all : (i : ℕ) → K (sense i)) where
  fits_give : (g : Given Core) → Gives K (g >>= fits)
  fits_give (Fits c) = core c
  fits_give (Refuses kind node) = tt

  pub statements_give : (at : ℕ) (xs : List ℕ) → Gives K (statement_row w s sense at xs)
  statements_give at [] = tt
  statements_give at (first ∷ rest) =
      if_holds (Gives K) (is_leaf s first) _ _ (λ e. fits_give (leaf_statement w s sense at first (first ∷ rest)))
      (λ e. if_holds (Gives K) (is_a s p_expression first) _ (Fits (sense first)) (λ e. fits_give (expression_statement w s sense at first)) (λ e. all first))

module _ (count : ℕ) (w : World) (s : Source) (sense : ℕ → Sense) (all : (i : ℕ) → Keeps count (sense i)) (at : ℕ) where
  abbrev K : Sense → Type 0
  K = Keeps count

  -- nothing is asked
  derivation_gives : (g : Given Derivation) → Gives K (g >>= (λ d. Fits (IsDerivation d)))
  derivation_gives (Fits d) = (tt, (tt, tt))
  derivation_gives (Refuses kind node) = tt

  asserted : ℤ → Given Sense
  asserted n = given_if (not (int_eq n (pos 0))) Operand at (Fits Nothing)

  asserted_gives : (n : ℤ) → Gives K (asserted n)
  unfolding asserted
  asserted_gives n = if_given K (not (int_eq n (pos 0))) Operand at (Fits Nothing) (λ e. (tt, (tt, tt)))

  pub assert_gives : Gives K (assert_row w s sense at)
  unfolding asserted
  assert_gives =
      some_given K (child_of s p_conditional at) Operand at (λ c. constant_in w s at (sense c) >>= asserted)
      (λ c e. then_gives (λ n. ⊤) K (constant_in w s at (sense c)) asserted (anything (constant_in w s at (sense c))) (λ n k. asserted_gives n))

  operand_gives : (x : Sense) → Gives K (align_operand w s sense at x)
  operand_gives (IsType t) = if_given K _ Operand at (Fits Nothing) (λ e. (tt, (tt, tt)))
  operand_gives Nothing = tt
  operand_gives (IsCore c) = then_gives (λ n. ⊤) K (constant_in w s at (IsCore c)) (λ n. Fits Nothing) (anything (constant_in w s at (IsCore c))) (λ n k. (tt, (tt, tt)))
  operand_gives (IsSpecified x) = tt
  operand_gives (IsDeclarator name ds) = tt
  operand_gives (IsDerivation d) = tt
  operand_gives (IsParameter p) = tt
  operand_gives (IsMembers ms) = tt
  operand_gives (IsValue n) = tt
  operand_gives (IsRun cs) = tt
  operand_gives (IsInitial c n) = tt

  pub align_gives : (xs : List ℕ) → Gives K (align_specifier w s sense at xs)
  align_gives xs = by (last_where (λ c. not (is_leaf s c)) xs)
    where
      by : (o : Option ℕ) → Gives K (elim o as (λ _. Given Sense) [ None ↦ Refuses Operand at | Some c ↦ align_operand w s sense at (sense c) ])
      by None = tt
      by (Some c) = operand_gives (sense c)

  value_gives : (leaf : ℕ) (n : ℤ) → Gives K (enumerator_of w s sense at leaf n)
  value_gives leaf n = if_given K (is_int w s sense n) Operand leaf (Fits (IsValue n)) (λ e. (tt, (tt, tt)))

  pub enumerator_gives : (xs : List ℕ) → Gives K (enumerator_row w s sense at xs)
  enumerator_gives [] = tt
  enumerator_gives (leaf ∷ rest) = by (child_of s p_conditional at)
    where
      by : (o : Option ℕ) → Gives K (enumerator_named w s sense at leaf o)
      by None = value_gives leaf (value_before w s sense (before_enumerator w s sense at) +ℤ pos 1)
      by (Some e) = then_gives (λ n. ⊤) K (constant_in w s at (sense e)) (enumerator_of w s sense at leaf) (anything (constant_in w s at (sense e))) (λ n k. value_gives leaf n)

  pub enum_gives : Gives K (enum_row w s sense at)
  enum_gives = if_given K (tag_fits s at) Operand (named_tag s at) _ (λ e. (tt, (tt, tt)))

  pub specs_gives : (xs : List ℕ) → Gives K (specs_row w s sense at xs)
  specs_gives xs = if_given K (words_fit s at (storage_words s xs) (function_words s xs)) Operand at _ (λ e. (tt, (tt, tt)))

  pub suffix_gives : (xs : List ℕ) → Gives K (suffix_row w s sense at xs)
  suffix_gives [] = tt
  suffix_gives (first ∷ rest) = if_holds (Gives K) (has_sign s sign_left_bracket first) _ _ (λ e. derivation_gives (array_suffix w s sense at rest)) (λ e. (tt, (tt, tt)))

  parameter_by : (o : Option Ctype) (x : Sense) → Gives K (parameter_of w s sense at o x)
  parameter_by (Some base) (IsDeclarator name ds) =
      let p : Parameter = record { name = name; type = adjusted (derived ds base) } in
      if_given K (parameter_fits w s sense at p) Operand at (Fits (IsParameter p)) (λ e. (tt, (tt, tt)))
  parameter_by None x = tt
  parameter_by (Some base) x = tt

  pub parameter_gives : Gives K (parameter_row w s sense at)
  parameter_gives = parameter_by (specified_at w s sense (child_of s p_specs at)) (sense_of_child w s sense p_either at)

  name_by : (o : Option Ctype) (x : Sense) → Gives K (type_name_of w s sense at o x)
  name_by (Some base) (IsDeclarator name ds) = (tt, (tt, tt))
  name_by None x = tt
  name_by (Some base) x = tt

  pub type_name_gives : Gives K (type_name_row w s sense at)
  type_name_gives = name_by (specified_at w s sense (child_of s p_specs at)) (sense_of_child w s sense p_abstract at)

  -- a type specifier, a structure or union, and members
  named_gives : (c : ℕ) (o : Option Meaning) → Gives K (named_type w s sense at c o)
  named_gives c None = (tt, (tt, tt))
  named_gives c (Some (TypeName t)) = (tt, (tt, tt))
  named_gives c (Some (Object e t)) = tt
  named_gives c (Some (Function e t)) = tt
  named_gives c (Some (Tag tag)) = tt
  named_gives c (Some (Value n)) = tt

  leaf_gives : (c : ℕ) (b : Bool) → Gives K (type_leaf w s sense at c b)
  leaf_gives c true = (tt, (tt, tt))
  leaf_gives c false = named_gives c (w.meaning c)

  pub type_gives : (xs : List ℕ) → Gives K (type_row w s sense at xs)
  type_gives [] = tt
  type_gives (c ∷ rest) = if_holds (Gives K) (is_leaf s c) _ (Fits (sense c)) (λ e. leaf_gives c (is_word_kind (kind_at s c))) (λ e. all c)

  struct_by : (o : Option ℕ) → Gives K (struct_type w s sense at o)
  struct_by None = (tt, (tt, tt))
  struct_by (Some list) =
      if_given K (is_small (Some (laid w (is_union s at) (aggregate_type s at) (members_in_sense w s sense (sense list))))) Operand at (Fits (IsType (aggregate_type s at))) (λ e. (tt, (tt, tt)))

  pub struct_gives : Gives K (struct_row w s sense at)
  struct_gives = if_given K (tag_fits s at) Operand (named_tag s at) _ (λ e. struct_by (child_of s p_members at))

  pub members_give : (xs : List ℕ) → Gives K (members_row w s sense xs)
  members_give xs = (tt, (tt, tt))

  unnamed_gives : (o : Option Ctype) → Gives K (unnamed_member w s sense at o)
  unnamed_gives None = (tt, (tt, tt))
  unnamed_gives (Some t) =
      let m : Part = record { name = None; type = t; bits = None } in
      if_given K (is_in_union w s sense at || not (ends_flexible w t)) Operand at (Fits (IsMembers (m ∷ []))) (λ e. (tt, (tt, tt)))

  member_by : (xs : List ℕ) (o : Option ℕ) → Gives K (member_specs w s sense at xs o)
  member_by xs None = (tt, (tt, tt))
  member_by xs (Some specs) =
      if_holds (Gives K) (any_where (is_a s p_field) xs) _ _ (λ e. (tt, (tt, tt))) (λ e. unnamed_gives (option_and_then (λ i. type_in_sense w s sense (sense i)) (untagged_in w s sense specs)))

  pub member_gives : (xs : List ℕ) → Gives K (member_declaration w s sense at xs)
  member_gives xs = member_by xs (child_of s p_specs at)

  width_gives : (named : ℕ) (name : Option (List ℕ)) (t : Ctype) (n : ℤ) (most : ℕ) → Gives K (bit_field w s sense named name t n most)
  width_gives named name t n most =
      some_given K (width_fits most (is_some name) n) Operand named _ (λ k e. if_holds (Gives K) (k == 0) _ _ (λ f. (tt, (tt, tt))) (λ f. (tt, (tt, tt))))

  field_by : (leaf : Option ℕ) (t : Ctype) (o : Option ℕ) → Gives K (field_typed w s sense at leaf t o)
  field_by leaf t None =
      let m : Part = record { name = field_name w s sense leaf; type = t; bits = None } in
      if_given K (may_be_member w s sense at t && is_new_name w s sense at (field_name w s sense leaf)) Operand (named_field w s sense at leaf) (Fits (IsMembers (m ∷ []))) (λ e. (tt, (tt, tt)))
  field_by leaf t (Some width) =
      some_given K (bits_in t) Operand (named_field w s sense at leaf) _
      (λ most e. then_gives (λ n. ⊤) K (constant_in w s at (sense width)) _ (anything (constant_in w s at (sense width)))
      (λ n k. if_given K (is_new_name w s sense at (field_name w s sense leaf)) Operand (named_field w s sense at leaf) _ (λ f. width_gives (named_field w s sense at leaf) (field_name w s sense leaf) t n most)))

  field_from : (o : Option Ctype) (x : Sense) → Gives K (field_of w s sense at o x)
  field_from None x = tt
  field_from (Some base) (IsDeclarator leaf ds) = field_by leaf (derived ds base) (child_of s p_conditional at)
  field_from (Some base) Nothing = field_by None base (child_of s p_conditional at)
  field_from (Some base) (IsCore c) = field_by None base (child_of s p_conditional at)
  field_from (Some base) (IsType t) = field_by None base (child_of s p_conditional at)
  field_from (Some base) (IsSpecified x) = field_by None base (child_of s p_conditional at)
  field_from (Some base) (IsDerivation d) = field_by None base (child_of s p_conditional at)
  field_from (Some base) (IsParameter p) = field_by None base (child_of s p_conditional at)
  field_from (Some base) (IsMembers ms) = field_by None base (child_of s p_conditional at)
  field_from (Some base) (IsValue n) = field_by None base (child_of s p_conditional at)
  field_from (Some base) (IsRun cs) = field_by None base (child_of s p_conditional at)
  field_from (Some base) (IsInitial c n) = field_by None base (child_of s p_conditional at)

  pub field_gives : Gives K (field_row w s sense at)
  field_gives = field_from (specified_at w s sense (option_and_then (child_of s p_specs) (parent_of s at))) (sense_of_child w s sense p_declarator at)

  pub designator_gives : (xs : List ℕ) → Gives K (designator_row w s sense at xs)
  designator_gives [] = tt
  designator_gives (first ∷ rest) =
      if_holds (Gives K) (has_sign s sign_left_bracket first) _ _
      (λ e. some_given K (child_of s p_conditional at) Operand at _ (λ c f. then_gives (λ n. ⊤) K (constant_in w s at (sense c)) (λ n. Fits (IsValue n)) (anything (constant_in w s at (sense c))) (λ n k. (tt, (tt, tt)))))
      (λ e. (tt, (tt, tt)))
