-- Structures, unions and enumerations: their tags, members and enumerators, and the keys by which units share them
-- (C11 6.7.2.1 to 6.7.2.3).
use Rattle.std.specs.Prelude.{ℕ, suc, ◌*◌, ◌==◌, max, ℤ, pos, neg_ℤ, ◌+ℤ◌, int_le, Bool, true, false, ◌&&◌, ◌||◌}
use Rattle.std.specs.Prelude.{not, nat_lt, nat_le, List, [], ◌∷◌, ◌++◌, map, length, Option, Some, None, is_some}
use Rattle.std.specs.Prelude.{is_none, option_and_then, if◌then◌else◌}
use Rattle.c_scope.specs.passed.pta_base.declared.kind.Kind.TheVariants.{Operand}
use Rattle.c_inits.specs.passed.c_types.Trees.{Ctype, BoolType, IntegerType, ArrayOf, StructureOf, UnionOf}
use Rattle.c_inits.specs.passed.c_types.Layout.{Extent, Look, structure_of, union_of, member_extent, looked_up}
use Rattle.c_inits.specs.passed.c_types.Layout.{laid_out, Completed}
use Rattle.c_consts.specs.passed.core_tree.Rows.{int}
use Rattle.c_inits.specs.passed.c_grammar.Productions.{p_specs, p_struct, p_members, p_field, p_enum, p_enumerators}
use Rattle.c_inits.specs.passed.c_grammar.Productions.{p_enumerator, p_declarator, p_conditional}
use Rattle.c_inits.specs.passed.c_grammar.Words.{word_union, sign_colon}
use Rattle.c_inits.specs.Made.{Part, TagParts}
use Rattle.c_senses.specs.Tree.{Source, is_a, is_leaf, is_name, has_sign, has_word, children_at, spelling_at}
use Rattle.c_senses.specs.Tree.{word_at, first_where, last_where, all_where, any_where, child_of, parent_of}
use Rattle.c_senses.specs.Tree.{numbers_from, all_nodes}
use Rattle.c_senses.specs.Names.{tag_of_leaf}
use Rattle.c_senses.specs.Given.{Given, Fits, Refuses, ◌>>=◌, given_if, given_some}
use Rattle.c_senses.specs.World.{World, has_size, has_name, same_length}
use Rattle.c_senses.specs.Constants.{constant_in}
use Rattle.c_senses.specs.Limits.{is_small, ends_flexible}
use Rattle.c_senses.specs.Declarators.{derived, specified_at, sense_of_child}
use Rattle.c_senses.specs.Sense.{Sense, IsType, IsDeclarator, IsMembers, IsValue}

-- a specifier of a structure, union or enumeration, its tag's leaf, and its list
abbrev pub is_tag_specifier : Source → ℕ → Bool
is_tag_specifier s i = is_a s p_struct i || is_a s p_enum i

abbrev pub tag_leaf : Source → ℕ → Option ℕ
tag_leaf s i = first_where (is_name s) (children_at s i)

abbrev pub has_list : Source → ℕ → Bool
has_list s i = is_some (child_of s p_members i) || is_some (child_of s p_enumerators i)

abbrev pub is_union : Source → ℕ → Bool
is_union s i = any_where (has_word s word_union) (children_at s i)

-- the node of the first declaration of a specifier's tag; an untagged one is known by its specifier
abbrev pub tag_declared : Source → ℕ → ℕ
tag_declared s i = elim (tag_leaf s i) [ None ↦ i | Some leaf ↦ tag_of_leaf s leaf ]

-- the number of a specifier's tag
abbrev pub tag_of : Source → ℕ → ℕ
tag_of s i = s.tag_number (tag_declared s i)

-- the specifier that declares a tag, around its leaf; another one that stands in its list ends before it
abbrev pub declaring_specifier : Source → ℕ → Option ℕ
declaring_specifier s tag = if is_leaf s tag then parent_of s tag else Some tag

-- a number above those of the tags of some nodes, and of all structures and unions
abbrev pub tags_among : Source → List ℕ → ℕ
tags_among s [] = 0
tags_among s (i ∷ rest) =
    if is_a s p_struct i then max (suc (tag_of s i)) (tags_among s rest) else tags_among s rest

abbrev pub tags_below : Source → ℕ
tags_below s = tags_among s (all_nodes s)

-- the word of a tag's declaration
abbrev pub keyword_of : Source → ℕ → Option ℕ
keyword_of s tag = option_and_then (word_at s) (declaring_specifier s tag)

-- the specifiers before a node
abbrev pub specifiers_before : Source → ℕ → List ℕ
specifiers_before s i = all_where (is_tag_specifier s) (numbers_from 0 i)

-- 6.7.2.3: one list, and one keyword, for each tag
abbrev pub is_listed_before : Source → ℕ → Bool
is_listed_before s i =
    any_where (λ j. has_list s j && (tag_declared s j == tag_declared s i)) (specifiers_before s i)

abbrev pub has_other_keyword : Source → ℕ → Bool
has_other_keyword s i = not (same_length (keyword_of s (tag_declared s i)) (word_at s i))

abbrev pub tag_fits : Source → ℕ → Bool
tag_fits s i = not ((has_list s i && is_listed_before s i) || has_other_keyword s i)

-- the tag is named where it has a name
abbrev pub named_tag : Source → ℕ → ℕ
named_tag s i = elim (tag_leaf s i) [ None ↦ i | Some leaf ↦ leaf ]

abbrev pub aggregate_type : Source → ℕ → Ctype
aggregate_type s i = if is_union s i then UnionOf (tag_of s i) else StructureOf (tag_of s i)

abbrev pub types_of_parts : List Part → List Ctype
types_of_parts [] = []
types_of_parts (m ∷ rest) = m.type ∷ types_of_parts rest

-- what a structure or union takes over its members
abbrev pub laid : World → Bool → Ctype → List Part → Extent
laid w true t members = union_of t (map (member_extent w.look) (types_of_parts members))
laid w false t members = structure_of t (map (member_extent w.look) (types_of_parts members))

-- a bit-field's type, and its width: up to the bits of its type, and 0 only without a name
abbrev pub bits_in : Ctype → Option ℕ
bits_in BoolType = Some 8
bits_in (IntegerType size rank signed) = Some (8 * size)
bits_in t = None

abbrev pub width_fits : ℕ → Bool → ℤ → Option ℕ
width_fits most named n =
    elim n [ pos k ↦ if nat_le k most && (nat_lt 0 k || not named) then Some k else None | _ ↦ None ]

module _ (w : World) (s : Source) (sense : ℕ → Sense) where
  abbrev pub members_in_sense : Sense → List Part
  members_in_sense (IsMembers parts) = parts
  members_in_sense x = []

  abbrev pub members_among : List ℕ → List Part
  members_among [] = []
  members_among (c ∷ rest) = members_in_sense (sense c) ++ members_among rest

  -- a structure or union: its size and its nodes are limited
  abbrev pub struct_type : ℕ → Option ℕ → Given Sense
  struct_type at None = Fits (IsType (aggregate_type s at))
  struct_type at (Some list) =
      given_if
      (is_small (Some (laid w (is_union s at) (aggregate_type s at) (members_in_sense (sense list)))))
      Operand at
      (Fits (IsType (aggregate_type s at)))

  abbrev pub struct_row : ℕ → Given Sense
  struct_row at = given_if (tag_fits s at) Operand (named_tag s at) (struct_type at (child_of s p_members at))

  abbrev pub enum_row : ℕ → Given Sense
  enum_row at = given_if (tag_fits s at) Operand (named_tag s at) (Fits (IsType int))

  -- a list of members, and one declaration of members
  abbrev pub members_row : List ℕ → Given Sense
  members_row children = Fits (IsMembers (members_among children))

  -- specifiers alone are a member where they are an untagged structure or union
  abbrev pub untagged_in : ℕ → Option ℕ
  untagged_in specs =
      option_and_then
      (λ t. first_where (λ c. is_a s p_struct c && is_none (tag_leaf s c)) (children_at s t))
      (first_where (λ t. any_where (is_a s p_struct) (children_at s t)) (children_at s specs))

  abbrev pub type_in_sense : Sense → Option Ctype
  type_in_sense (IsType t) = Some t
  type_in_sense x = None

  abbrev pub is_in_union : ℕ → Bool
  is_in_union member =
      elim (option_and_then (parent_of s) (parent_of s member)) [ None ↦ false | Some i ↦ is_union s i ]

  abbrev pub unnamed_member : ℕ → Option Ctype → Given Sense
  unnamed_member at None = Fits (IsMembers [])
  unnamed_member at (Some t) =
      given_if (is_in_union at || not (ends_flexible w t)) Operand at
      (Fits (IsMembers (record { name = None; type = t; bits = None } ∷ [])))

  abbrev pub member_specs : ℕ → List ℕ → Option ℕ → Given Sense
  member_specs at children None = Fits (IsMembers [])
  member_specs at children (Some specs) =
      if any_where (is_a s p_field) children then Fits (IsMembers (members_among children))
      else unnamed_member at (option_and_then (λ i. type_in_sense (sense i)) (untagged_in specs))

  abbrev pub member_declaration : ℕ → List ℕ → Given Sense
  member_declaration at children = member_specs at children (child_of s p_specs at)

  -- the members that stand before a field in its list
  abbrev pub is_before : ℕ → ℕ → Bool
  is_before i j = nat_lt j i

  abbrev pub earlier_parts : ℕ → List Part
  earlier_parts i =
      elim (parent_of s i) [
        | None ↦ []
        | Some member ↦
            elim
            (parent_of s member)
            [ None ↦ [] | Some list ↦ members_among (all_where (is_before member) (children_at s list)) ]
            ++ members_among (all_where (is_before i) (children_at s member))
      ]

  abbrev pub has_part_named : List ℕ → List Part → Bool
  has_part_named name [] = false
  has_part_named name (m ∷ rest) = has_name name m.name || has_part_named name rest

  -- the last field of its declaration, with no further declaration of members; one of specifiers alone declares a
  -- member only where they are an untagged structure or union
  abbrev pub is_last_in : (ℕ → Bool) → ℕ → ℕ → Bool
  is_last_in test p i = elim (last_where test (children_at s p)) [ None ↦ false | Some last ↦ last == i ]

  abbrev pub has_untagged : Option ℕ → Bool
  has_untagged None = false
  has_untagged (Some specs) = is_some (untagged_in specs)

  abbrev pub declares_members : ℕ → Bool
  declares_members member = is_some (child_of s p_field member) || has_untagged (child_of s p_specs member)

  abbrev pub is_last_field : ℕ → Bool
  is_last_field i =
      elim (parent_of s i) [
        | None ↦ false
        | Some member ↦
            is_last_in (is_a s p_field) member i
            && elim
            (parent_of s member) [ None ↦ false | Some list ↦ is_last_in declares_members list member ]
      ]

  abbrev pub in_union : ℕ → Bool
  in_union i = elim (parent_of s i) [ None ↦ false | Some member ↦ is_in_union member ]

  abbrev pub element_of : Ctype → Option Ctype
  element_of (ArrayOf of None) = Some of
  element_of t = None

  -- an array without a length may end a structure that has another member
  abbrev pub is_flexible_end : ℕ → Ctype → Bool
  is_flexible_end i t =
      elim
      (element_of t) [
        | None ↦ false
        | Some of ↦ has_size w of
            && (not (in_union i) && (is_last_field i && nat_lt 0 (length (earlier_parts i))))
      ]

  abbrev pub may_be_member : ℕ → Ctype → Bool
  may_be_member i t = is_flexible_end i t || (has_size w t && (in_union i || not (ends_flexible w t)))

  abbrev pub bit_field : ℕ → Option (List ℕ) → Ctype → ℤ → ℕ → Given Sense
  bit_field named name t n most =
      given_some (width_fits most (is_some name) n) Operand named >>= (λ k.
      if k == 0 then Fits (IsMembers [])
      else Fits (IsMembers (record { name = name; type = t; bits = Some k } ∷ [])))

  abbrev pub field_name : Option ℕ → Option (List ℕ)
  field_name None = None
  field_name (Some leaf) = Some (spelling_at s leaf)

  abbrev pub is_new_name : ℕ → Option (List ℕ) → Bool
  is_new_name i None = true
  is_new_name i (Some name) = not (has_part_named name (earlier_parts i))

  -- a field is named by its name, and one without by its colon
  abbrev pub named_field : ℕ → Option ℕ → ℕ
  named_field at (Some leaf) = leaf
  named_field at None =
      elim (first_where (has_sign s sign_colon) (children_at s at)) [ None ↦ at | Some colon ↦ colon ]

  abbrev pub field_typed : ℕ → Option ℕ → Ctype → Option ℕ → Given Sense
  field_typed at leaf t None =
      given_if (may_be_member at t && is_new_name at (field_name leaf)) Operand (named_field at leaf)
      (Fits (IsMembers (record { name = field_name leaf; type = t; bits = None } ∷ [])))
  field_typed at leaf t (Some width) =
      given_some (bits_in t) Operand (named_field at leaf) >>= (λ most.
      constant_in w s at (sense width) >>= (λ n.
      given_if (is_new_name at (field_name leaf)) Operand (named_field at leaf)
      (bit_field (named_field at leaf) (field_name leaf) t n most)))

  abbrev pub field_of : ℕ → Option Ctype → Sense → Given Sense
  field_of at None x = Refuses Operand at
  field_of at (Some base) (IsDeclarator leaf ds) =
      field_typed at leaf (derived ds base) (child_of s p_conditional at)
  field_of at (Some base) x = field_typed at None base (child_of s p_conditional at)

  abbrev pub field_row : ℕ → Given Sense
  field_row at =
      field_of at (specified_at w s sense (option_and_then (child_of s p_specs) (parent_of s at)))
      (sense_of_child w s sense p_declarator at)

  -- 6.7.2.2: an enumerator's value is in the range of int; without an expression it is one more than the one before
  abbrev pub before_enumerator : ℕ → Option ℕ
  before_enumerator at =
      option_and_then
      (λ list. last_where (λ c. is_a s p_enumerator c && is_before at c) (children_at s list))
      (parent_of s at)

  abbrev pub value_before : Option ℕ → ℤ
  value_before None = neg_ℤ (pos 1)
  value_before (Some i) = elim (sense i) [ IsValue n ↦ n | _ ↦ pos 0 ]

  abbrev pub is_int : ℤ → Bool
  is_int n = int_le (neg_ℤ (pos 2147483648)) n && int_le n (pos 2147483647)

  abbrev pub enumerator_of : ℕ → ℕ → ℤ → Given Sense
  enumerator_of at leaf n = given_if (is_int n) Operand leaf (Fits (IsValue n))

  abbrev pub enumerator_named : ℕ → ℕ → Option ℕ → Given Sense
  enumerator_named at leaf None = enumerator_of at leaf (value_before (before_enumerator at) +ℤ pos 1)
  enumerator_named at leaf (Some e) = constant_in w s at (sense e) >>= enumerator_of at leaf

  abbrev pub enumerator_row : ℕ → List ℕ → Given Sense
  enumerator_row at [] = Refuses Operand at
  enumerator_row at (leaf ∷ rest) = enumerator_named at leaf (child_of s p_conditional at)

-- the completed structures and unions, in the order in which their specifiers end, among the nodes that have senses
abbrev pub completed_from : Source → List Sense → (ℕ → Sense) → ℕ → List TagParts
completed_from s [] sense i = []
completed_from s (x ∷ rest) sense i =
    elim (if is_a s p_struct i then child_of s p_members i else None) [
      | None ↦ completed_from s rest sense (suc i)
      | Some list ↦ elim
          (sense list) [
            | IsMembers parts ↦ record { tag = tag_of s i; members = parts }
                ∷ completed_from s rest sense (suc i)
            | _ ↦ completed_from s rest sense (suc i)
          ]
    ]

abbrev pub members_under : List TagParts → ℕ → Option (List Part)
members_under [] tag = None
members_under (c ∷ rest) tag = if c.tag == tag then Some c.members else members_under rest tag

abbrev pub completions_of : List TagParts → List Completed
completions_of [] = []
completions_of (c ∷ rest) = record { tag = c.tag; types = types_of_parts c.members } ∷ completions_of rest

abbrev pub look_of : List TagParts → Look
look_of completed = looked_up (laid_out [] (completions_of completed))
