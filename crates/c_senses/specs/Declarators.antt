-- Declarators: what they make of a type (C11 6.7.6, 6.7.7).
use Rattle.std.specs.Prelude.{ℕ, ◌==◌, ℤ, pos, Bool, true, false, ◌&&◌, ◌||◌, not, nat_lt, List, [], ◌∷◌, ◌++◌}
use Rattle.std.specs.Prelude.{length, reverse, Option, Some, None, is_some, is_none, option_and_then, if◌then◌else◌}
use Rattle.c_scope.specs.passed.pta_base.declared.kind.Kind.TheVariants.{Operand, Vla}
use Rattle.c_inits.specs.passed.c_types.declared.term.Form.TheVariants.{Fixed, Variadic, Unspecified}
use Rattle.c_inits.specs.passed.c_types.Trees.{Ctype, Ctypes, NoTypes, MoreTypes, VoidType, PointerTo, ArrayOf}
use Rattle.c_inits.specs.passed.c_types.Trees.{FunctionFrom}
use Rattle.c_inits.specs.passed.c_grammar.Productions.{p_external, p_rest, p_specs, p_qualifier, p_field}
use Rattle.c_inits.specs.passed.c_grammar.Productions.{p_declarator, p_abstract, p_either, p_suffix, p_parameter}
use Rattle.c_inits.specs.passed.c_grammar.Productions.{p_block, p_assignment}
use Rattle.c_inits.specs.passed.c_grammar.Words.{word_static, sign_star, sign_left_bracket, sign_ellipsis}
use Rattle.c_consts.specs.Core.{Core, ctype_of}
use Rattle.c_consts.specs.Operators.{NoForm, OutOfRange, ZeroDivisor}
use Rattle.c_consts.specs.Answer.{Found, Value, Fails, answer}
use Rattle.c_senses.specs.Tree.{Source, is_a, is_name, has_sign, has_word, children_at, first_where, all_where}
use Rattle.c_senses.specs.Tree.{any_where, child_of, parent_of, nearest_above}
use Rattle.c_senses.specs.Given.{Given, Fits, Refuses, ◌>>=◌, given_if}
use Rattle.c_senses.specs.World.{World, has_size}
use Rattle.c_senses.specs.Conversions.{operand_of}
use Rattle.c_senses.specs.Constants.{valued, is_whole}
use Rattle.c_senses.specs.Limits.{is_function_type, is_array_type, ends_flexible, within_limits}
use Rattle.c_senses.specs.Sense.{Sense, Nothing, IsType, IsSpecified, IsDeclarator, IsDerivation, IsParameter}
use Rattle.c_senses.specs.Sense.{Parameter, Derivation, Pointing, Elements, Returning, value_in}

-- a declarator of any of its three forms
abbrev pub is_declarator : Source → ℕ → Bool
is_declarator s i = is_a s p_declarator i || is_a s p_abstract i || is_a s p_either i

-- a declarator that isn't within the parentheses of another one
abbrev pub is_outermost : Source → ℕ → Bool
is_outermost s i = is_declarator s i && elim (parent_of s i) [ None ↦ true | Some p ↦ not (is_declarator s p) ]

-- the outermost declarator in which a name or a suffix stands, and the node in which that declarator stands
abbrev pub outermost_of : Source → ℕ → Option ℕ
outermost_of s i = nearest_above s (is_outermost s) i

abbrev pub behind_declarators : Source → ℕ → Option ℕ
behind_declarators s i = option_and_then (parent_of s) (outermost_of s i)

-- the specifiers of a declarator: the first child of the declaration in which it stands
abbrev pub declaration_around : Source → ℕ → Option ℕ
declaration_around s p = if is_a s p_rest p || is_a s p_field p then parent_of s p else Some p

abbrev pub specs_of : Source → ℕ → Option ℕ
specs_of s i = option_and_then (child_of s p_specs) (option_and_then (declaration_around s) (parent_of s i))

-- a type with one derivation more
abbrev pub derived_once : Derivation → Ctype → Ctype
derived_once Pointing t = PointerTo t
derived_once (Elements n) t = ArrayOf t n
derived_once (Returning ps form) t = FunctionFrom t ps form

abbrev pub derived : List Derivation → Ctype → Ctype
derived [] t = t
derived (d ∷ rest) t = derived rest (derived_once d t)

-- an array's element is complete, no function, and no structure that ends in a flexible array; a function returns
-- neither an array nor a function
abbrev pub may_derive : World → Derivation → Ctype → Bool
may_derive w Pointing t = true
may_derive w (Elements n) t = has_size w t && not (ends_flexible w t)
may_derive w (Returning ps form) t = not (is_function_type t || is_array_type t)

abbrev pub all_derive : World → List Derivation → Ctype → Bool
all_derive w [] t = true
all_derive w (d ∷ rest) t = may_derive w d t && all_derive w rest (derived_once d t)

-- 6.7.6.3p7, p8: a parameter of array or function type is a pointer
abbrev pub adjusted : Ctype → Ctype
adjusted (ArrayOf of length) = PointerTo of
adjusted (FunctionFrom result parameters form) = PointerTo (FunctionFrom result parameters form)
adjusted t = t

module _ (w : World) (s : Source) (sense : ℕ → Sense) where
  abbrev pub specified_at : Option ℕ → Option Ctype
  specified_at None = None
  specified_at (Some i) = elim (sense i) [ IsSpecified x ↦ Some x.type | _ ↦ None ]

  -- the type of the specifiers before a declarator
  abbrev pub base_type : ℕ → Option Ctype
  base_type i = specified_at (specs_of s i)

  -- the derivations and the name of a declarator's parts
  abbrev pub suffixes : List ℕ → List Derivation
  suffixes [] = []
  suffixes (c ∷ rest) = elim (sense c) [ IsDerivation d ↦ d ∷ suffixes rest | _ ↦ suffixes rest ]

  abbrev pub inner_derivations : List ℕ → List Derivation
  inner_derivations [] = []
  inner_derivations (c ∷ rest) = elim (sense c) [ IsDeclarator name ds ↦ ds | _ ↦ inner_derivations rest ]

  abbrev pub inner_name : List ℕ → Option ℕ
  inner_name [] = None
  inner_name (c ∷ rest) = elim (sense c) [ IsDeclarator name ds ↦ name | _ ↦ inner_name rest ]

  abbrev pub name_in : List ℕ → Option ℕ
  name_in children = elim (first_where (is_name s) children) [ None ↦ inner_name children | Some leaf ↦ Some leaf ]

  abbrev pub stars : List ℕ → List Derivation
  stars [] = []
  stars (c ∷ rest) = if has_sign s sign_star c then Pointing ∷ stars rest else stars rest

  -- from the specifiers' side to the name: the stars, the suffixes from the last to the first, then what the inner
  -- declarator makes
  abbrev pub derivations : List ℕ → List Derivation
  derivations children = stars children ++ (reverse (suffixes children) ++ inner_derivations children)

  -- whether a suffix stands next to the name: it is the first of its declarator, whose inner one derives nothing,
  -- and so it is in the declarators around
  abbrev pub is_first_suffix : ℕ → ℕ → Bool
  is_first_suffix declarator i =
      elim (first_where (is_a s p_suffix) (children_at s declarator)) [ None ↦ false | Some first ↦ first == i ]

  abbrev pub derives_nothing : List Derivation → Bool
  derives_nothing [] = true
  derives_nothing (d ∷ rest) = false

  abbrev pub is_next_to_name : ℕ → Bool
  is_next_to_name i =
      elim
      (parent_of s i)
      [ None ↦ false | Some d ↦ is_first_suffix d i && derives_nothing (inner_derivations (children_at s d)) ]

  -- the outermost array of a parameter, which is turned into a pointer; and the list of the function that is
  -- defined
  abbrev pub is_parameter_array : ℕ → Bool
  is_parameter_array i =
      is_next_to_name i && elim (behind_declarators s i) [ None ↦ false | Some p ↦ is_a s p_parameter p ]

  abbrev pub is_definition : ℕ → Bool
  is_definition p = is_a s p_external p && is_some (child_of s p_block p)

  abbrev pub is_defined_list : ℕ → Bool
  is_defined_list i = is_next_to_name i && elim (behind_declarators s i) [ None ↦ false | Some p ↦ is_definition p ]

  -- 6.7.6.2: a length is an integer, constant and above 0; in a parameter's outermost array it is typed alone
  abbrev pub positive : ℕ → ℤ → Given Derivation
  positive at n =
      elim n [ pos k ↦ given_if (nat_lt 0 k) Operand at (Fits (Elements (Some k))) | _ ↦ Refuses Operand at ]

  abbrev pub length_found : ℕ → Core → Found → Given Derivation
  length_found at c (Value n) = positive at n
  length_found at c (Fails NoForm path) = Refuses Vla at
  length_found at c (Fails OutOfRange path) = valued s at c (Fails OutOfRange path) >>= positive at
  length_found at c (Fails ZeroDivisor path) = valued s at c (Fails ZeroDivisor path) >>= positive at

  abbrev pub length_of : ℕ → Core → Given Derivation
  length_of at c =
      given_if (is_whole (operand_of (ctype_of c))) Operand at
      (if is_parameter_array at
      then
      (elim
      (answer c true) [ Fails NoForm path ↦ Fits (Elements None) | found ↦ length_found at c found ])
      else length_found at c (answer c true))

  abbrev pub array_length : ℕ → List ℕ → Given Derivation
  array_length at rest =
      elim (child_of s p_assignment at) [
        | Some c ↦ value_in w at (sense c) >>= length_of at
        | None ↦ if any_where (has_sign s sign_star) rest
            then given_if (is_parameter_array at) Vla at (Fits (Elements None)) else Fits (Elements None)
      ]

  -- static and qualifiers stand within the brackets of a parameter's outermost array alone
  abbrev pub has_array_words : List ℕ → Bool
  has_array_words rest = any_where (λ c. has_word s word_static c || is_a s p_qualifier c) rest

  abbrev pub array_suffix : ℕ → List ℕ → Given Derivation
  array_suffix at rest =
      given_if (is_parameter_array at || not (has_array_words rest)) Operand at (array_length at rest)

  -- 6.7.6.3: a parameter list. It is empty where its only parameter is of type void and has no name.
  abbrev pub is_void_alone : Parameter → Bool
  is_void_alone p = is_none p.name && elim p.type [ VoidType ↦ true | _ ↦ false ]

  abbrev pub parameters_in : List ℕ → List Parameter
  parameters_in [] = []
  parameters_in (c ∷ rest) = elim (sense c) [ IsParameter p ↦ p ∷ parameters_in rest | _ ↦ parameters_in rest ]

  abbrev pub types_in : List Parameter → Ctypes
  types_in [] = NoTypes
  types_in (p ∷ rest) = MoreTypes p.type (types_in rest)

  abbrev pub list_of : Bool → List Parameter → Derivation
  list_of variadic [] = Returning NoTypes Unspecified
  list_of true ps = Returning (types_in ps) Variadic
  list_of false (p ∷ []) =
      if is_void_alone p then Returning NoTypes Fixed else Returning (MoreTypes p.type NoTypes) Fixed
  list_of false ps = Returning (types_in ps) Fixed

  abbrev pub suffix_row : ℕ → List ℕ → Given Sense
  suffix_row at [] = Refuses Operand at
  suffix_row at (first ∷ rest) =
      if has_sign s sign_left_bracket first then (array_suffix at rest >>= (λ d. Fits (IsDerivation d)))
      else Fits (IsDerivation (list_of (any_where (has_sign s sign_ellipsis) rest) (parameters_in rest)))

  -- a parameter: void without a name stands alone in its list; in a definition each one has a name
  abbrev pub is_only_parameter : ℕ → Bool
  is_only_parameter at =
      elim (parent_of s at) [
        | None ↦ false
        | Some p ↦ (length (all_where (is_a s p_parameter) (children_at s p)) == 1)
            && not (any_where (has_sign s sign_ellipsis) (children_at s p))
      ]

  abbrev pub in_defined_list : ℕ → Bool
  in_defined_list at = elim (parent_of s at) [ None ↦ false | Some p ↦ is_defined_list p ]

  abbrev pub parameter_fits : ℕ → Parameter → Bool
  parameter_fits at p =
      if is_void_alone p then is_only_parameter at else (is_some p.name || not (in_defined_list at))

  abbrev pub parameter_of : ℕ → Option Ctype → Sense → Given Sense
  parameter_of at (Some base) (IsDeclarator name ds) =
      let p : Parameter = record { name = name; type = adjusted (derived ds base) } in given_if
      (parameter_fits at p) Operand at (Fits (IsParameter p))
  parameter_of at base x = Refuses Operand at

  abbrev pub sense_of_child : ℕ → ℕ → Sense
  sense_of_child production at = elim (child_of s production at) [ None ↦ Nothing | Some c ↦ sense c ]

  abbrev pub parameter_row : ℕ → Given Sense
  parameter_row at = parameter_of at (specified_at (child_of s p_specs at)) (sense_of_child p_either at)

  -- 6.7.7: a type name
  abbrev pub type_name_of : ℕ → Option Ctype → Sense → Given Sense
  type_name_of at (Some base) (IsDeclarator name ds) = Fits (IsType (derived ds base))
  type_name_of at base x = Refuses Operand at

  abbrev pub type_name_row : ℕ → Given Sense
  type_name_row at = type_name_of at (specified_at (child_of s p_specs at)) (sense_of_child p_abstract at)

  -- a declarator: its type is made where it is outermost, and each type on the way is asked whether it may be made
  abbrev pub type_fits : Ctype → List Derivation → Bool
  type_fits base ds = all_derive w ds base && within_limits w (derived ds base)

  abbrev pub derives_well : ℕ → List Derivation → Bool
  derives_well at ds =
      if is_outermost s at then (elim (base_type at) [ None ↦ false | Some base ↦ type_fits base ds ]) else true

  abbrev pub plain_declarator_row : ℕ → List ℕ → Given Sense
  plain_declarator_row at children =
      given_if (derives_well at (derivations children)) Operand at
      (Fits (IsDeclarator (name_in children) (derivations children)))
