-- The rows of types and declarators stand for no tree.
use Rattle.std.proofs.Common.{◌==◌, ℕ, Bool, true, false, not, pos, List, [], ◌∷◌, Option, Some, None, ◌≡◌, refl}
use Rattle.std.specs.Prelude.{ℤ, ◌+ℤ◌, is_some, option_and_then, if◌then◌else◌}
use Rattle.pta_base.specs.declared.kind.Kind.TheVariants.{Operand}
use Rattle.c_types.specs.Trees.{Ctype}
use Rattle.core_tree.specs.Rows.{int}
use Rattle.c_grammar.specs.Productions.{p_specs, p_either, p_abstract, p_declarator, p_conditional, p_members, p_field}
use Rattle.c_grammar.specs.Words.{sign_left_bracket}
use Rattle.c_senses.specs.Tree.{Source, is_name, first_where, is_a, is_leaf, has_sign, kind_at, last_where, any_where, child_of, parent_of}
use Rattle.c_senses.specs.Given.{Given, Fits, Refuses, ◌>>=◌}
use Rattle.c_senses.specs.World.{has_size, World, Meaning, TypeName}
use Rattle.c_senses.specs.Constants.{constant_in}
use Rattle.c_senses.specs.Sense.{Parameter, Sense, Nothing, IsType, IsDeclarator, IsDerivation, IsParameter, IsMembers, IsValue}
use Rattle.c_senses.specs.Tags.{laid, is_union, aggregate_type, members_in_sense, named_tag, tag_fits, bits_in, width_fits, members_among, struct_type, struct_row, enum_row, unnamed_member, member_specs, member_declaration, field_name, is_new_name, named_field, bit_field, field_typed, field_of, field_row, before_enumerator, value_before, enumerator_of, enumerator_named, enumerator_row}
use Rattle.c_senses.specs.Specifiers.{align_operand, align_specifier, storage_words, function_words, words_fit, is_word_kind, named_type, type_leaf, type_row, specs_row}
use Rattle.c_senses.specs.Limits.{is_small}
use Rattle.c_senses.specs.Declarators.{derivations, inner_name, derives_well, name_in, adjusted, parameter_fits, derived, specified_at, array_suffix, suffix_row, parameter_of, sense_of_child, parameter_row, type_name_of, type_name_row, plain_declarator_row}
use Rattle.core_node_laws.proofs.count_laws.named_units.Standing.{IsNameLeaf, IsSpelled, AreSpelled, spelled_both}
use Rattle.core_node_laws.proofs.count_laws.named_units.Giving.{Gives, after, if_given, some_given, if_holds}
use Rattle.core_node_laws.proofs.count_laws.named_units.Expressions.{OfSense}

module _ (w : World) (s : Source) (sense : ℕ → Sense) (each : (i : ℕ) → OfSense s (sense i)) where
  -- specifiers
  named_kept : (at c : ℕ) (o : Option Meaning) → Gives (OfSense s) (named_type w s sense at c o)
  named_kept at c (Some (TypeName t)) = tt
  named_kept at c None = tt
  named_kept at c (Some x) = tt

  leaf_kept : (at c : ℕ) (b : Bool) → Gives (OfSense s) (type_leaf w s sense at c b)
  leaf_kept at c true = tt
  leaf_kept at c false = named_kept at c (w.meaning c)

  pub type_kept : (at : ℕ) (children : List ℕ) → Gives (OfSense s) (type_row w s sense at children)
  type_kept at [] = tt
  type_kept at (c ∷ rest) = if_holds (Gives (OfSense s)) (is_leaf s c) _ (Fits (sense c)) (leaf_kept at c (is_word_kind (kind_at s c))) (each c)

  pub specs_kept : (at : ℕ) (children : List ℕ) → Gives (OfSense s) (specs_row w s sense at children)
  specs_kept at children = if_given (OfSense s) (words_fit s at (storage_words s children) (function_words s children)) Operand at _ tt

  -- the name of a declarator is a leaf
  first_name : (children : List ℕ) → IsNameLeaf s (first_where (is_name s) children)
  first_name [] = tt
  first_name (c ∷ rest) = by (is_name s c) refl (first_name rest)
    where
      by : (b : Bool) → is_name s c ≡ b → IsNameLeaf s (first_where (is_name s) rest) → IsNameLeaf s (if b then Some c else first_where (is_name s) rest)
      by true e h = e
      by false e h = h

  inner_named : (children : List ℕ) → IsNameLeaf s (inner_name w s sense children)
  inner_named [] = tt
  inner_named (c ∷ rest) = by (sense c) (each c) (inner_named rest)
    where
      by : (x : Sense) → OfSense s x → IsNameLeaf s (inner_name w s sense rest) → IsNameLeaf s (elim x as (λ _. Option ℕ) [ IsDeclarator name ds ↦ name | _ ↦ inner_name w s sense rest ])
      by (IsDeclarator name ds) h k = h
      by x h k = k

  named_in : (children : List ℕ) → IsNameLeaf s (name_in w s sense children)
  named_in children = by (first_where (is_name s) children) (first_name children)
    where
      by : (o : Option ℕ) → IsNameLeaf s o → IsNameLeaf s (elim o as (λ _. Option ℕ) [ None ↦ inner_name w s sense children | Some leaf ↦ Some leaf ])
      by None h = inner_named children
      by (Some leaf) h = h

  child_kept : (production at : ℕ) → OfSense s (sense_of_child w s sense production at)
  child_kept production at = by (child_of s production at)
    where
      by : (o : Option ℕ) → OfSense s (elim o as (λ _. Sense) [ None ↦ Nothing | Some c ↦ sense c ])
      by None = tt
      by (Some c) = each c

  -- members by their names
  in_sense : (x : Sense) → OfSense s x → AreSpelled s (members_in_sense w s sense x)
  in_sense (IsMembers parts) h = h
  in_sense x h = tt

  pub among_kept : (children : List ℕ) → AreSpelled s (members_among w s sense children)
  among_kept [] = tt
  among_kept (c ∷ rest) = spelled_both s (members_in_sense w s sense (sense c)) (members_among w s sense rest) (in_sense (sense c) (each c)) (among_kept rest)

  field_spelled : (leaf : Option ℕ) → IsNameLeaf s leaf → IsSpelled s (field_name w s sense leaf)
  field_spelled None h = tt
  field_spelled (Some leaf) h = (leaf, h, refl)

  pub plain_kept : (at : ℕ) (children : List ℕ) → Gives (OfSense s) (plain_declarator_row w s sense at children)
  plain_kept at children = if_given (OfSense s) (derives_well w s sense at (derivations w s sense children)) Operand at (Fits (IsDeclarator (name_in w s sense children) (derivations w s sense children))) (named_in children)

  pub suffix_kept : (at : ℕ) (children : List ℕ) → Gives (OfSense s) (suffix_row w s sense at children)
  suffix_kept at [] = tt
  suffix_kept at (first ∷ rest) =
      if_holds (Gives (OfSense s)) (has_sign s sign_left_bracket first) _ _ (after (OfSense s) (array_suffix w s sense at rest) (λ d. Fits (IsDerivation d)) (λ d. tt)) tt

  -- parameters and type names
  parameter_of_kept : (at : ℕ) (o : Option Ctype) (x : Sense) → Gives (OfSense s) (parameter_of w s sense at o x)
  parameter_of_kept at (Some base) (IsDeclarator name ds) =
      let parameter : Parameter = record { name = name; type = adjusted (derived ds base) } in
      if_given (OfSense s) (parameter_fits w s sense at parameter) Operand at (Fits (IsParameter parameter)) tt
  parameter_of_kept at o x = tt

  pub parameter_kept : (at : ℕ) → Gives (OfSense s) (parameter_row w s sense at)
  parameter_kept at = parameter_of_kept at (specified_at w s sense (child_of s p_specs at)) (sense_of_child w s sense p_either at)

  type_name_of_kept : (at : ℕ) (o : Option Ctype) (x : Sense) → Gives (OfSense s) (type_name_of w s sense at o x)
  type_name_of_kept at (Some base) (IsDeclarator name ds) = tt
  type_name_of_kept at o x = tt

  pub type_name_kept : (at : ℕ) → Gives (OfSense s) (type_name_row w s sense at)
  type_name_kept at = type_name_of_kept at (specified_at w s sense (child_of s p_specs at)) (sense_of_child w s sense p_abstract at)

  -- structures, unions, enumerations and their members
  struct_type_kept : (at : ℕ) (o : Option ℕ) → Gives (OfSense s) (struct_type w s sense at o)
  struct_type_kept at None = tt
  struct_type_kept at (Some list) = if_given (OfSense s) (is_small (Some (laid w (is_union s at) (aggregate_type s at) (members_in_sense w s sense (sense list))))) Operand at (Fits (IsType (aggregate_type s at))) tt

  pub struct_kept : (at : ℕ) → Gives (OfSense s) (struct_row w s sense at)
  struct_kept at = if_given (OfSense s) (tag_fits s at) Operand (named_tag s at) (struct_type w s sense at (child_of s p_members at)) (struct_type_kept at (child_of s p_members at))

  pub enum_kept : (at : ℕ) → Gives (OfSense s) (enum_row w s sense at)
  enum_kept at = if_given (OfSense s) (tag_fits s at) Operand (named_tag s at) (Fits (IsType int)) tt

  unnamed_kept : (at : ℕ) (o : Option Ctype) → Gives (OfSense s) (unnamed_member w s sense at o)
  unnamed_kept at None = tt
  unnamed_kept at (Some t) = if_given (OfSense s) _ Operand at (Fits (IsMembers (record { name = None; type = t; bits = None } ∷ []))) (tt, tt)

  member_specs_kept : (at : ℕ) (children : List ℕ) (o : Option ℕ) → Gives (OfSense s) (member_specs w s sense at children o)
  member_specs_kept at children None = tt
  member_specs_kept at children (Some specs) =
      if_holds (Gives (OfSense s)) (any_where (is_a s p_field) children) (Fits (IsMembers (members_among w s sense children))) _ (among_kept children) (unnamed_kept at _)

  pub member_kept : (at : ℕ) (children : List ℕ) → Gives (OfSense s) (member_declaration w s sense at children)
  member_kept at children = member_specs_kept at children (child_of s p_specs at)

  field_typed_kept : (at : ℕ) (leaf : Option ℕ) (t : Ctype) (width : Option ℕ) → IsNameLeaf s leaf → Gives (OfSense s) (field_typed w s sense at leaf t width)
  field_typed_kept at leaf t None named = if_given (OfSense s) _ Operand (named_field w s sense at leaf) (Fits (IsMembers (record { name = field_name w s sense leaf; type = t; bits = None } ∷ []))) (field_spelled leaf named, tt)
  field_typed_kept at leaf t (Some width) named =
      some_given (OfSense s) (bits_in t) Operand (named_field w s sense at leaf) _
      (λ most.
      after (OfSense s) (constant_in w s at (sense width)) _
      (λ n.
      if_given (OfSense s) (is_new_name w s sense at (field_name w s sense leaf)) Operand (named_field w s sense at leaf) (bit_field w s sense (named_field w s sense at leaf) (field_name w s sense leaf) t n most)
      (some_given (OfSense s) (width_fits most (is_some (field_name w s sense leaf)) n) Operand (named_field w s sense at leaf) (λ k. if k == 0 then Fits (IsMembers []) else Fits (IsMembers (record { name = field_name w s sense leaf; type = t; bits = Some k } ∷ [])))
      (λ k. if_holds (Gives (OfSense s)) (k == 0) (Fits (IsMembers [])) _ tt (field_spelled leaf named, tt)))))

  field_of_kept : (at : ℕ) (o : Option Ctype) (x : Sense) → OfSense s x → Gives (OfSense s) (field_of w s sense at o x)
  field_of_kept at None x h = tt
  field_of_kept at (Some base) (IsDeclarator leaf ds) h = field_typed_kept at leaf (derived ds base) (child_of s p_conditional at) h
  field_of_kept at (Some base) x h = field_typed_kept at None base (child_of s p_conditional at) tt

  pub field_kept : (at : ℕ) → Gives (OfSense s) (field_row w s sense at)
  field_kept at = field_of_kept at (specified_at w s sense (option_and_then (child_of s p_specs) (parent_of s at))) (sense_of_child w s sense p_declarator at) (child_kept p_declarator at)

  enumerator_of_kept : (at leaf : ℕ) (n : ℤ) → Gives (OfSense s) (enumerator_of w s sense at leaf n)
  enumerator_of_kept at leaf n = if_given (OfSense s) _ Operand leaf (Fits (IsValue n)) tt

  enumerator_by : (at leaf : ℕ) (o : Option ℕ) → Gives (OfSense s) (enumerator_named w s sense at leaf o)
  enumerator_by at leaf None = enumerator_of_kept at leaf (value_before w s sense (before_enumerator w s sense at) +ℤ pos 1)
  enumerator_by at leaf (Some e) = after (OfSense s) (constant_in w s at (sense e)) (enumerator_of w s sense at leaf) (λ n. enumerator_of_kept at leaf n)

  pub enumerator_kept : (at : ℕ) (children : List ℕ) → Gives (OfSense s) (enumerator_row w s sense at children)
  enumerator_kept at [] = tt
  enumerator_kept at (leaf ∷ rest) = enumerator_by at leaf (child_of s p_conditional at)

  constant_kept : (at : ℕ) (x : Sense) → Gives (OfSense s) (constant_in w s at x >>= (λ n. Fits Nothing))
  constant_kept at x = after (OfSense s) (constant_in w s at x) (λ n. Fits Nothing) (λ n. tt)

  operand_kept : (at : ℕ) (x : Sense) → Gives (OfSense s) (align_operand w s sense at x)
  operand_kept at (IsType t) = if_given (OfSense s) (has_size w t) Operand at (Fits Nothing) tt
  operand_kept at x = constant_kept at x

  by_last : (at : ℕ) (o : Option ℕ) → Gives (OfSense s) (elim o as (λ _. Given Sense) [ None ↦ Refuses Operand at | Some c ↦ align_operand w s sense at (sense c) ])
  by_last at None = tt
  by_last at (Some c) = operand_kept at (sense c)

  pub align_kept : (at : ℕ) (children : List ℕ) → Gives (OfSense s) (align_specifier w s sense at children)
  align_kept at children = by_last at (last_where (λ c. not (is_leaf s c)) children)
