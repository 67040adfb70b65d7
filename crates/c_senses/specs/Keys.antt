-- The keys by which units share structures and unions.
use Rattle.std.specs.Prelude.{ℕ, zero, suc, ◌+◌, ◌==◌, Bool, false, ◌&&◌, ◌||◌, nat_lt, List, [], ◌∷◌, ◌++◌, length}
use Rattle.std.specs.Prelude.{codes, decimal, Option, Some, None, is_some, is_none, option_and_then, option_map}
use Rattle.std.specs.Prelude.{if◌then◌else◌}
use Rattle.std.specs.Str.{bytes_eq}
use Rattle.c_inits.specs.passed.c_grammar.Productions.{p_external, p_rest, p_specs, p_struct, p_member}
use Rattle.c_inits.specs.passed.c_grammar.Productions.{p_declarator, p_suffix, p_block}
use Rattle.c_inits.specs.passed.c_grammar.Words.{sign_left_parenthesis}
use Rattle.c_senses.specs.Tree.{Source, is_a, has_sign, spelling_at, children_at, any_where, parent_of}
use Rattle.c_senses.specs.Tree.{nearest_above, numbers_from}
use Rattle.c_senses.specs.Tags.{tag_leaf, is_union}
use Rattle.c_senses.specs.Sense.{Sense, IsDeclarator, IsMembers}

-- the first word of a key
abbrev pub word_of_key : Source → ℕ → List ℕ
word_of_key s i = if is_union s i then codes "union " else codes "struct "

module _ (s : Source) (sense : ℕ → Sense) where
  -- a specifier that stands in a block or a parameter list has no key; one in the brackets of an array may have one
  abbrev pub is_parameter_list : ℕ → Bool
  is_parameter_list i = is_a s p_suffix i && any_where (has_sign s sign_left_parenthesis) (children_at s i)

  abbrev pub is_inner : ℕ → Bool
  is_inner i = is_some (nearest_above s (λ p. is_a s p_block p || is_parameter_list p) i)

  -- the specifiers, and what is declared, around a structure's specifier
  abbrev pub specs_around : ℕ → Option ℕ
  specs_around i =
      option_and_then (λ t. option_and_then (λ p. if is_a s p_specs p then Some p else None) (parent_of s t))
      (parent_of s i)

  abbrev pub declaration_with : ℕ → Option ℕ
  declaration_with i = option_and_then (parent_of s) (specs_around i)

  abbrev pub names_among : List ℕ → List (List ℕ)
  names_among [] = []
  names_among (c ∷ rest) =
      if is_a s p_declarator c
      then
      (elim
      (sense c)
      [ IsDeclarator (Some leaf) ds ↦ spelling_at s leaf ∷ names_among rest | _ ↦ names_among rest ])
      else names_among rest

  abbrev pub names_in_rest : List ℕ → List (List ℕ)
  names_in_rest [] = []
  names_in_rest (c ∷ rest) = if is_a s p_rest c then names_among (children_at s c) else names_in_rest rest

  -- the names that are declared at file scope with a specifier, in order
  abbrev pub names_with : ℕ → List (List ℕ)
  names_with i =
      elim
      (declaration_with i) [
        | None ↦ []
        | Some p ↦ if is_a s p_external p then names_among (children_at s p)
            ++ names_in_rest (children_at s p) else []
      ]

  abbrev pub has_bytes : List ℕ → List (List ℕ) → Bool
  has_bytes name [] = false
  has_bytes name (n ∷ rest) = bytes_eq n name || has_bytes name rest

  -- a name that was declared with another untagged structure or union before
  abbrev pub is_untagged : ℕ → Bool
  is_untagged i = is_a s p_struct i && is_none (tag_leaf s i)

  abbrev pub is_taken : List ℕ → ℕ → Bool
  is_taken name i = any_where (λ j. is_untagged j && has_bytes name (names_with j)) (numbers_from 0 i)

  abbrev pub first_free : ℕ → List (List ℕ) → Option (List ℕ)
  first_free i [] = None
  first_free i (name ∷ rest) = if is_taken name i then first_free i rest else Some name

  -- the members of one declaration of members stand behind those before it in the list
  abbrev pub parts_of : Sense → ℕ
  parts_of (IsMembers parts) = length parts
  parts_of x = 0

  abbrev pub parts_before : ℕ → List ℕ → ℕ
  parts_before member [] = 0
  parts_before member (c ∷ rest) = if c == member then 0 else parts_of (sense c) + parts_before member rest

  -- the structure in whose members a specifier stands, and the position of the first of these members
  abbrev pub member_around : ℕ → Option ℕ
  member_around i = option_and_then (λ p. if is_a s p_member p then Some p else None) (declaration_with i)

  abbrev pub list_around : ℕ → Option ℕ
  list_around i = option_and_then (parent_of s) (member_around i)

  abbrev pub position_in : ℕ → ℕ
  position_in i =
      elim
      (member_around i) [
        | None ↦ 0
        | Some member ↦ elim
            (parent_of s member) [ None ↦ 0 | Some list ↦ parts_before member (children_at s list) ]
      ]

  abbrev pub has_members : ℕ → Bool
  has_members i = elim (member_around i) [ None ↦ false | Some member ↦ nat_lt 0 (parts_of (sense member)) ]

  -- the key of a specifier: by its tag; else by the first free name that is declared with it; else, as the
  -- specifier of members, by the key of the structure around and the position
  abbrev pub key_within : ℕ → ℕ → Option (List ℕ)
  key_within zero i = None
  key_within (suc depth) i =
      if is_inner i then None
      else (elim (tag_leaf s i) [
        | Some leaf ↦ Some (word_of_key s i ++ spelling_at s leaf)
        | None ↦
            elim (first_free i (names_with i)) [
              | Some name ↦ Some (word_of_key s i ++ (codes ":" ++ name))
              | None ↦
                  if has_members i
                  then option_map
                  (λ key. word_of_key s i ++ (key ++ (codes ":" ++ decimal (position_in i))))
                  (option_and_then (key_within depth) (option_and_then (parent_of s) (list_around i)))
                  else None
            ]
      ])

  -- a specifier around has a larger number, so that there are no more levels than nodes
  abbrev pub key_of : ℕ → Option (List ℕ)
  key_of i = key_within (length s.nodes) i
