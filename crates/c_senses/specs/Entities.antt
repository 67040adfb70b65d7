-- What declarations declare: linkage, storage, and the types that declarations of one name give together (C11
-- 6.2.2, 6.2.4, 6.2.7, 6.7, 6.9.1, 6.9.2).
use Rattle.std.specs.Prelude.{ℕ, ◌==◌, Bool, true, false, ◌&&◌, ◌||◌, not, nat_lt, List, [], ◌∷◌, length, Option, Some}
use Rattle.std.specs.Prelude.{None, is_some, is_none, option_and_then, option_map, if◌then◌else◌}
use Rattle.c_scope.specs.passed.pta_base.declared.kind.Kind.TheVariants.{Operand, InlineDefinition}
use Rattle.c_inits.specs.passed.c_types.declared.term.Form.TheVariants.{Fixed, Variadic, Unspecified}
use Rattle.c_inits.specs.passed.c_types.Trees.{Ctype, VoidType, ArrayOf, FunctionFrom, StructureOf, UnionOf}
use Rattle.c_consts.specs.passed.core_tree.declared.node.Linkage.{Linkage}
use Rattle.c_consts.specs.passed.core_tree.declared.node.Linkage.TheVariants.{External, Internal, Local}
use Rattle.c_consts.specs.passed.core_tree.declared.node.Storage.{Storage}
use Rattle.c_consts.specs.passed.core_tree.declared.node.Storage.TheVariants.{Static, Automatic, FunctionBody}
use Rattle.c_consts.specs.passed.core_tree.declared.node.Storage.TheVariants.{Parameter as ParameterStorage}
use Rattle.c_consts.specs.passed.core_tree.declared.node.Storage.TheVariants.{Declared}
use Rattle.c_inits.specs.passed.c_grammar.Terminals.{contains}
use Rattle.c_inits.specs.passed.c_grammar.Productions.{p_external, p_rest, p_asm_name, p_align, p_field}
use Rattle.c_inits.specs.passed.c_grammar.Productions.{p_enumerator, p_declarator, p_suffix, p_parameter, p_init}
use Rattle.c_inits.specs.passed.c_grammar.Productions.{p_designator, p_block, p_statement, p_unary, p_assert}
use Rattle.c_inits.specs.passed.c_grammar.Productions.{p_struct, p_members}
use Rattle.c_inits.specs.passed.c_grammar.Words.{word_extern, word_static, word_inline, word_sizeof, word_alignof}
use Rattle.c_inits.specs.passed.c_grammar.Words.{sign_assign}
use Rattle.c_senses.specs.Tree.{Source, is_a, has_sign, has_word, children_at, paired, last_where, any_where, first_is}
use Rattle.c_senses.specs.Tree.{child_of, parent_of, nearest_above, all_nodes}
use Rattle.c_scope.specs.declared.kinds.Declared.{Declared as Declaration}
use Rattle.c_senses.specs.Names.{has_linkage, names_type, made_before, linked_before, before_in_scope}
use Rattle.c_senses.specs.Names.{typing_declarations, ordinary_at}
use Rattle.c_senses.specs.Given.{Given, given_if}
use Rattle.c_senses.specs.World.{World, Meaning, Object, Function, TypeName, Value, has_size, same_type}
use Rattle.c_senses.specs.Limits.{is_function_type, lacks_a_length}
use Rattle.c_senses.specs.Declarators.{outermost_of, specs_of, declaration_around, derived, is_defined_list}
use Rattle.c_senses.specs.Tags.{tag_of}
use Rattle.c_senses.specs.Sense.{Sense, IsSpecified, IsDeclarator, IsParameter, IsValue, IsInitial, Specified}
use Rattle.c_senses.specs.Sense.{Derivation, Returning}

-- 6.2.7: types agree at their top, and of two that agree the one with the list or the length is the type of both;
-- where they don't, a declaration has its own
abbrev pub agree : Ctype → Ctype → Bool
agree (FunctionFrom r ps Unspecified) (FunctionFrom q qs g) = same_type r q
agree (FunctionFrom r ps f) (FunctionFrom q qs Unspecified) = same_type r q
agree (ArrayOf a None) (ArrayOf b n) = same_type a b
agree (ArrayOf a n) (ArrayOf b None) = same_type a b
agree a b = same_type a b

abbrev pub fuller : Ctype → Ctype → Ctype
fuller (FunctionFrom r ps Fixed) (FunctionFrom q qs Unspecified) = FunctionFrom r ps Fixed
fuller (FunctionFrom r ps Variadic) (FunctionFrom q qs Unspecified) = FunctionFrom r ps Variadic
fuller (ArrayOf a (Some n)) (ArrayOf b None) = ArrayOf a (Some n)
fuller a b = b

abbrev pub together : Ctype → Ctype → Ctype
together a b = if agree a b then fuller a b else b

abbrev pub all_together : Option Ctype → List Ctype → Option Ctype
all_together so_far [] = so_far
all_together None (t ∷ rest) = all_together (Some t) rest
all_together (Some a) (t ∷ rest) = all_together (Some (together a t)) rest

abbrev pub with_length : Option ℕ → Ctype → Ctype
with_length (Some n) (ArrayOf of None) = ArrayOf of (Some n)
with_length n t = t

-- the length of an array
abbrev pub length_in : Option Ctype → Option ℕ
length_in (Some (ArrayOf of n)) = n
length_in t = None

-- what stands behind a node among some nodes
abbrev pub behind : ℕ → List ℕ → List ℕ
behind i [] = []
behind i (c ∷ rest) = if c == i then rest else behind i rest

-- whether a declarator whose steps are these, from the outside in, declares a function that takes arguments past its
-- parameters
abbrev pub takes_further : Derivation → Bool
takes_further (Returning ps Variadic) = true
takes_further d = false

abbrev pub ends_further : List Derivation → Bool
ends_further [] = false
ends_further (d ∷ []) = takes_further d
ends_further (d ∷ e ∷ rest) = ends_further (e ∷ rest)

module _ (s : Source) (sense : ℕ → Sense) where
  -- the declaration, or external declaration, of a name by its leaf
  abbrev pub declaration_of : ℕ → Option ℕ
  declaration_of leaf = option_and_then (declaration_around s) (option_and_then (parent_of s) (outermost_of s leaf))

  abbrev pub is_at_file : ℕ → Bool
  is_at_file leaf = elim (declaration_of leaf) [ None ↦ false | Some p ↦ is_a s p_external p ]

  abbrev pub is_parameter : ℕ → Bool
  is_parameter leaf = elim (declaration_of leaf) [ None ↦ false | Some p ↦ is_a s p_parameter p ]

  abbrev pub is_defined : ℕ → Bool
  is_defined leaf =
      elim (declaration_of leaf) [ None ↦ false | Some p ↦ is_a s p_external p && is_some (child_of s p_block p) ]

  abbrev pub specified : Option ℕ → Option Specified
  specified None = None
  specified (Some i) = elim (sense i) [ IsSpecified x ↦ Some x | _ ↦ None ]

  abbrev pub specified_of : ℕ → Option Specified
  specified_of leaf = specified (option_and_then (specs_of s) (outermost_of s leaf))

  abbrev pub has_storage : ℕ → ℕ → Bool
  has_storage word leaf = elim (specified_of leaf) [ None ↦ false | Some x ↦ contains x.storage word ]

  abbrev pub has_function_word : ℕ → ℕ → Bool
  has_function_word word leaf = elim (specified_of leaf) [ None ↦ false | Some x ↦ contains x.functions word ]

  -- what name resolution says of a declared name: whether it is a typedef name, has linkage, or declares a function
  abbrev pub is_typedef : ℕ → Bool
  is_typedef leaf = elim (ordinary_at s leaf) [ None ↦ false | Some d ↦ names_type d ]

  abbrev pub is_linked : ℕ → Bool
  is_linked leaf = elim (ordinary_at s leaf) [ None ↦ false | Some d ↦ has_linkage d ]

  abbrev pub declares_function : ℕ → Bool
  declares_function leaf = elim (ordinary_at s leaf) [ None ↦ false | Some d ↦ d.is_function && not (names_type d) ]

  -- the initialiser of a declarator stands behind it, or begins the rest of its declaration
  abbrev pub initialiser_in : List ℕ → Option ℕ
  initialiser_in (equals ∷ init ∷ rest) = if has_sign s sign_assign equals then Some init else None
  initialiser_in list = None

  abbrev pub without_asm : List ℕ → List ℕ
  without_asm [] = []
  without_asm (c ∷ rest) = if is_a s p_asm_name c then rest else c ∷ rest

  abbrev pub in_rest : List ℕ → Option ℕ
  in_rest [] = None
  in_rest (c ∷ rest) = if is_a s p_rest c then initialiser_in (children_at s c) else None

  abbrev pub initialiser_of : ℕ → Option ℕ
  initialiser_of declarator =
      elim (parent_of s declarator) [
        | None ↦ None
        | Some p ↦ let list =
            without_asm (behind declarator (children_at s p)) in if is_a s p_rest p then initialiser_in list
            else in_rest list
      ]

  abbrev pub initialiser_for : ℕ → Option ℕ
  initialiser_for leaf = option_and_then initialiser_of (outermost_of s leaf)

  -- the declarator whose initialiser a node is
  abbrev pub initialised_by : ℕ → Option ℕ
  initialised_by init =
      elim (parent_of s init) [
        | None ↦ None
        | Some p ↦
            elim
            (last_where (λ c. is_a s p_declarator c && nat_lt c init) (children_at s p))
            [ Some d ↦ Some d | None ↦ option_and_then (child_of s p_declarator) (parent_of s p) ]
      ]

  abbrev pub length_given_by : Option ℕ → Option ℕ
  length_given_by None = None
  length_given_by (Some init) = elim (sense init) [ IsInitial c n ↦ n | _ ↦ None ]

  -- the type of a declared name: of a parameter the adjusted one; an initialiser gives an array its length
  abbrev pub parameter_type : Option ℕ → Option Ctype
  parameter_type None = None
  parameter_type (Some p) = elim (sense p) [ IsParameter x ↦ Some x.type | _ ↦ None ]

  abbrev pub derived_type : Option Specified → Option ℕ → Option Ctype
  derived_type None d = None
  derived_type x None = None
  derived_type (Some x) (Some d) = elim (sense d) [ IsDeclarator name ds ↦ Some (derived ds x.type) | _ ↦ None ]

  abbrev pub own_type : ℕ → Option Ctype
  own_type leaf =
      if is_parameter leaf then parameter_type (declaration_of leaf)
      else option_map (with_length (length_given_by (initialiser_for leaf)))
      (derived_type (specified_of leaf) (outermost_of s leaf))

  -- some of a list of declarations
  abbrev pub keep : (Declaration → Bool) → List Declaration → List Declaration
  keep test [] = []
  keep test (d ∷ rest) = if test d then d ∷ keep test rest else keep test rest

  abbrev pub some_such : (Declaration → Bool) → List Declaration → Bool
  some_such test [] = false
  some_such test (d ∷ rest) = test d || some_such test rest

  -- 6.2.2p3, p4: an identifier has internal linkage where it is declared `static` at file scope, and where it is
  -- declared `extern`, or as a function without a storage word, and a declaration that is seen there has
  abbrev pub is_without_storage : ℕ → Bool
  is_without_storage leaf =
      elim (specified_of leaf) [ None ↦ true | Some x ↦ elim x.storage [ [] ↦ true | word ∷ rest ↦ false ] ]

  abbrev pub takes_over : ℕ → Bool
  takes_over leaf = has_storage word_extern leaf || (declares_function leaf && is_without_storage leaf)

  abbrev pub is_static_at_file : ℕ → Bool
  is_static_at_file leaf = is_at_file leaf && has_storage word_static leaf

  abbrev pub is_internal : ℕ → Bool
  is_internal leaf =
      is_linked leaf
      && (is_static_at_file leaf
      || (takes_over leaf
      && some_such (λ d. is_static_at_file d.node) (linked_before s (ordinary_at s leaf))))

  abbrev pub linkage_of : ℕ → Linkage
  linkage_of leaf = if is_internal leaf then Internal else (if is_linked leaf then External else Local)

  -- the declarations among some that give a name internal linkage
  abbrev pub is_internal_of : ℕ → Declaration → Bool
  is_internal_of symbol d = (d.symbol == symbol) && is_internal d.node

  abbrev pub internal_among : List Declaration → Option Declaration → List Declaration
  internal_among ds None = []
  internal_among ds (Some d) = keep (is_internal_of d.symbol) ds

  -- the declarations of one internal object or function share one entity, known by the first of them; any other
  -- declaration has its own
  abbrev pub first_of : ℕ → List Declaration → ℕ
  first_of leaf [] = leaf
  first_of leaf (d ∷ rest) = d.node

  abbrev pub entity_of : ℕ → ℕ
  entity_of leaf =
      if is_internal leaf then first_of leaf (internal_among s.declared.ordinary (ordinary_at s leaf)) else leaf

  -- 6.2.4: an object's or a function's storage
  abbrev pub is_static_object : ℕ → Bool
  is_static_object leaf = is_at_file leaf || (has_storage word_static leaf || has_storage word_extern leaf)

  abbrev pub storage_of : ℕ → Storage
  storage_of leaf =
      if is_parameter leaf then ParameterStorage
      else if declares_function leaf then (if is_defined leaf then FunctionBody else Declared)
      else if has_storage word_extern leaf && is_none (initialiser_for leaf) then Declared
      else if is_static_object leaf then Static
      else Automatic

  abbrev pub is_automatic_storage : Storage → Bool
  is_automatic_storage Automatic = true
  is_automatic_storage ParameterStorage = true
  is_automatic_storage storage = false

  -- the types that some declarations gave
  abbrev pub types_of : List Declaration → List Ctype
  types_of [] = []
  types_of (d ∷ rest) = elim (own_type d.node) [ None ↦ types_of rest | Some t ↦ t ∷ types_of rest ]

  -- the type of a declared name behind its declaration: of one with linkage the type that the declarations of it
  -- that are seen there give together
  abbrev pub type_behind : ℕ → Option Ctype
  type_behind leaf = all_together None (types_of (typing_declarations s (ordinary_at s leaf)))

  -- the length that the declarations of a name that are seen behind its own give it together (6.2.7p4)
  abbrev pub length_seen : ℕ → Option ℕ
  length_seen leaf = length_in (type_behind leaf)

  -- an array that waits for its initialiser to give it a length has, in that initialiser, the length that the
  -- declarations before it give, if they do; there the name is still the last one of them
  abbrev pub is_open : Option Ctype → Bool
  is_open None = false
  is_open (Some t) = lacks_a_length t

  abbrev pub has_earlier_length : ℕ → Bool
  has_earlier_length leaf =
      is_some (initialiser_for leaf) && (is_open (own_type leaf) && not (is_open (type_behind leaf)))

  abbrev pub last_of : ℕ → List Declaration → ℕ
  last_of leaf [] = leaf
  last_of leaf (d ∷ rest) = last_of d.node rest

  abbrev pub named_by : ℕ → ℕ
  named_by leaf = if has_earlier_length leaf then last_of leaf (linked_before s (ordinary_at s leaf)) else leaf

  -- what a use of a name means, by the leaf that declares it: an external name has the entity of that declaration,
  -- the latest one that is seen
  abbrev pub object_or_function : ℕ → Ctype → Meaning
  object_or_function entity t = if is_function_type t then Function entity t else Object entity t

  abbrev pub declared_meaning : ℕ → Option Meaning
  declared_meaning leaf =
      if is_typedef leaf then option_map TypeName (own_type leaf)
      else option_map (object_or_function (entity_of (named_by leaf))) (type_behind leaf)

  abbrev pub enumerated : ℕ → Option Meaning
  enumerated i = elim (sense i) [ IsValue n ↦ Some (Value n) | _ ↦ None ]

  abbrev pub meaning_of : ℕ → Option Meaning
  meaning_of leaf =
      elim
      (parent_of s leaf)
      [ None ↦ None | Some p ↦ if is_a s p_enumerator p then enumerated p else declared_meaning leaf ]

  abbrev pub meaning_at : ℕ → Option Meaning
  meaning_at i = option_and_then meaning_of (paired s.uses i)

  -- the function in whose definition a node stands, by the leaf of its name
  abbrev pub defined_name : ℕ → Option ℕ
  defined_name p =
      option_and_then (λ d. elim (sense d) [ IsDeclarator name ds ↦ name | _ ↦ None ]) (child_of s p_declarator p)

  abbrev pub function_around : ℕ → Option ℕ
  function_around i =
      option_and_then defined_name (nearest_above s (λ p. is_a s p_external p && is_some (child_of s p_block p)) i)

  -- whether that function takes arguments past its parameters
  abbrev pub is_variadic_definition : ℕ → Bool
  is_variadic_definition p =
      elim
      (child_of s p_declarator p)
      [ None ↦ false | Some d ↦ elim (sense d) [ IsDeclarator name ds ↦ ends_further ds | _ ↦ false ] ]

  abbrev pub is_in_variadic : ℕ → Bool
  is_in_variadic i =
      elim
      (nearest_above s (λ p. is_a s p_external p && is_some (child_of s p_block p)) i)
      [ None ↦ false | Some p ↦ is_variadic_definition p ]

  -- a node in the initialiser of an object that has its place for the whole run, and in no operand that isn't
  -- evaluated
  abbrev pub is_operand_word : ℕ → Bool
  is_operand_word i =
      is_a s p_unary i && first_is (λ c. has_word s word_sizeof c || has_word s word_alignof c) (children_at s i)

  abbrev pub is_object_initialiser : ℕ → Bool
  is_object_initialiser i = is_a s p_init i && elim (parent_of s i) [ None ↦ false | Some p ↦ is_a s p_rest p ]

  abbrev pub is_boundary : ℕ → Bool
  is_boundary i =
      is_operand_word i
      || (is_a s p_suffix i
      || (is_a s p_align i
      || (is_a s p_enumerator i
      || (is_a s p_field i
      || (is_a s p_designator i
      || (is_a s p_statement i || (is_a s p_assert i || is_object_initialiser i)))))))

  abbrev pub initialises_static : ℕ → Bool
  initialises_static i =
      elim
      (option_and_then (λ d. elim (sense d) [ IsDeclarator name ds ↦ name | _ ↦ None ])
      (initialised_by i))
      [ None ↦ false | Some leaf ↦ is_static_object leaf ]

  abbrev pub is_in_static : ℕ → Bool
  is_in_static i =
      elim
      (nearest_above s is_boundary i) [ None ↦ false | Some b ↦ is_object_initialiser b && initialises_static b ]

module _ (w : World) (s : Source) (sense : ℕ → Sense) where
  -- words that don't go with what is declared
  abbrev pub is_in_for : ℕ → Bool
  is_in_for leaf =
      elim
      (option_and_then (parent_of s) (declaration_of s sense leaf))
      [ None ↦ false | Some p ↦ is_a s p_statement p ]

  abbrev pub has_function_words : ℕ → Bool
  has_function_words leaf =
      elim
      (specified_of s sense leaf) [ None ↦ false | Some x ↦ elim x.functions [ [] ↦ false | word ∷ rest ↦ true ] ]

  abbrev pub only_extern : ℕ → Bool
  only_extern leaf = is_without_storage s sense leaf || has_storage s sense word_extern leaf

  abbrev pub words_go : Bool → ℕ → Bool
  words_go initialised leaf =
      let typedefs = is_typedef s sense leaf in
      let function = declares_function s sense leaf in
      let file = is_at_file s sense leaf in
      not (has_function_words leaf && (typedefs || not function))
      && (not (initialised && (typedefs || (function || (not file && has_storage s sense word_extern leaf))))
      && (not (function && (not file && not (only_extern leaf)))
      && (not (typedefs && is_defined s sense leaf)
      && not
      (is_in_for leaf
      && (typedefs
      || (function
      || (has_storage s sense word_static leaf || has_storage s sense word_extern leaf)))))))

  -- 6.7p3: a typedef again in one scope is of the same type
  abbrev pub all_same : Ctype → List Declaration → Bool
  all_same t [] = true
  all_same t (d ∷ rest) =
      elim (own_type s sense d.node) [ None ↦ false | Some other ↦ same_type other t ] && all_same t rest

  abbrev pub is_same_again : Ctype → ℕ → Bool
  is_same_again t leaf = not (is_typedef s sense leaf) || all_same t (before_in_scope s (ordinary_at s leaf))

  -- 6.2.2p7: one name has one linkage in a scope
  abbrev pub same_internal : Bool → List Declaration → Bool
  same_internal internal [] = true
  same_internal internal (d ∷ rest) =
      (if is_internal s sense d.node then internal else not internal) && same_internal internal rest

  abbrev pub has_one_linkage : ℕ → Bool
  has_one_linkage leaf =
      not (is_linked s sense leaf)
      || same_internal (is_internal s sense leaf) (before_in_scope s (ordinary_at s leaf))

  -- a declaration of an internal name agrees with those before, and defines it only once
  abbrev pub agrees_with : Ctype → Option Ctype → Bool
  agrees_with t None = true
  agrees_with t (Some before) = agree before t

  abbrev pub internal_before : ℕ → List Declaration
  internal_before leaf = internal_among s sense (made_before leaf s.declared.ordinary) (ordinary_at s leaf)

  abbrev pub defines : ℕ → Bool
  defines leaf = is_defined s sense leaf || is_some (initialiser_for s sense leaf)

  abbrev pub one_definition : Bool → ℕ → Bool
  one_definition again leaf = not (again && some_such s sense (λ d. defines d.node) (internal_before leaf))

  abbrev pub internal_agrees : Ctype → ℕ → Bool
  internal_agrees t leaf =
      not (is_internal s sense leaf) || agrees_with t (all_together None (types_of s sense (internal_before leaf)))

  abbrev pub internal_fits : Bool → Ctype → ℕ → Bool
  internal_fits defined t leaf =
      internal_agrees t leaf && (not (is_internal s sense leaf) || one_definition defined leaf)

  -- the type of an object is complete at the unit's end: it has a size, or will have one, or the object is only
  -- declared
  abbrev pub is_completed_somewhere : ℕ → Bool
  is_completed_somewhere tag =
      any_where (λ i. is_a s p_struct i && (is_some (child_of s p_members i) && (tag_of s i == tag))) (all_nodes s)

  abbrev pub will_have_size : Ctype → Bool
  will_have_size (StructureOf tag) = is_completed_somewhere tag
  will_have_size (UnionOf tag) = is_completed_somewhere tag
  will_have_size t = false

  abbrev pub may_stay_open : Ctype → Bool
  may_stay_open VoidType = true
  may_stay_open (StructureOf tag) = true
  may_stay_open (UnionOf tag) = true
  may_stay_open t = false

  abbrev pub element_has_size : Ctype → Bool
  element_has_size (ArrayOf of None) = has_size w of
  element_has_size t = false

  abbrev pub is_object_complete : Bool → Ctype → ℕ → Bool
  is_object_complete initialised t leaf =
      has_size w t
      || ((element_has_size t && (initialised || is_linked s sense leaf))
      || (will_have_size t || (may_stay_open t && (has_storage s sense word_extern leaf && not initialised))))

  abbrev pub is_name_complete : Bool → Ctype → ℕ → Bool
  is_name_complete initialised t leaf =
      is_typedef s sense leaf || (declares_function s sense leaf || is_object_complete initialised t leaf)

  -- 6.9.1: a function definition
  abbrev pub result_of : Ctype → Ctype
  result_of (FunctionFrom r ps f) = r
  result_of t = t

  abbrev pub is_void_type : Ctype → Bool
  is_void_type VoidType = true
  is_void_type t = false

  abbrev pub definition_row : Ctype → ℕ → Given Sense → Given Sense
  definition_row t leaf g =
      if is_defined s sense leaf then
      given_if (is_void_type (result_of t) || has_size w (result_of t)) Operand leaf
      (given_if
      (not (has_function_word s sense word_inline leaf && not (has_storage s sense word_static leaf)))
      InlineDefinition leaf g)
      else g

  -- the declarator of a declaration, at its name, for its type without what an initialiser adds
  abbrev pub named_row : ℕ → ℕ → Ctype → Given Sense → Given Sense
  named_row at leaf t g =
      let initialised = is_some (initialiser_of s sense at) in
      given_if (words_go initialised leaf) Operand leaf
      (given_if (is_same_again t leaf) Operand leaf
      (given_if (has_one_linkage leaf) Operand leaf
      (given_if (internal_fits (initialised || is_defined s sense leaf) t leaf) Operand leaf
      (given_if (is_name_complete initialised t leaf) Operand leaf (definition_row t leaf g)))))

  -- the last parameter of the list of a definition
  abbrev pub is_last_parameter : ℕ → ℕ → Bool
  is_last_parameter list parameter =
      elim
      (last_where (is_a s p_parameter) (children_at s list))
      [ None ↦ false | Some last ↦ last == parameter ]

  abbrev pub closes_list : ℕ → Bool
  closes_list parameter =
      elim (parent_of s parameter) [
        | None ↦ false
        | Some list ↦ is_defined_list w s sense list && is_last_parameter list parameter
      ]

  -- the entity of a variadic function, by the name of the last parameter of its definition (7.16.1.4p4)
  abbrev pub further_by : ℕ → Option ℕ → Option ℕ
  further_by leaf None = None
  further_by leaf (Some p) =
      if (is_a s p_parameter p && closes_list p) && is_in_variadic s sense leaf
      then option_map (entity_of s sense) (function_around s sense leaf) else None

  abbrev pub further_of : ℕ → Option ℕ
  further_of leaf =
      if nat_lt leaf (length s.nodes) then further_by leaf (declaration_of s sense leaf) else None

  -- the name of a parameter of a definition has a complete type
  abbrev pub is_parameter_complete : Ctype → Bool
  is_parameter_complete t = has_size w t || will_have_size t

  abbrev pub defined_parameter : ℕ → Bool
  defined_parameter at =
      elim
      (option_and_then (parent_of s) (parent_of s at))
      [ None ↦ false | Some suffix ↦ is_defined_list w s sense suffix ]

  abbrev pub parameter_named : ℕ → ℕ → Ctype → Given Sense → Given Sense
  parameter_named at leaf t g = given_if (not (defined_parameter at) || is_parameter_complete t) Operand leaf g

  abbrev pub by_place : ℕ → ℕ → Ctype → Ctype → Given Sense → Given Sense
  by_place at leaf t adjusted g =
      elim (parent_of s at) [
        | None ↦ g
        | Some p ↦ if is_a s p_field p then g
            else (if is_a s p_parameter p then parameter_named at leaf adjusted g else named_row at leaf t g)
      ]
