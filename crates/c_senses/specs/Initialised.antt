-- Initialised objects and compound literals (C11 6.5.2.5, 6.7.9).
use Rattle.std.specs.Prelude.{ℕ, pos, Bool, true, false, ◌&&◌, ◌||◌, not, List, [], ◌∷◌, Option, Some, None}
use Rattle.std.specs.Prelude.{is_some, slice_index, if◌then◌else◌}
use Rattle.c_scope.specs.passed.pta_base.declared.kind.Kind.TheVariants.{Operand, Initialiser}
use Rattle.c_scope.specs.passed.pta_base.declared.place.Place.{Place}
use Rattle.c_inits.specs.passed.c_types.declared.term.PathStep.{PathStep}
use Rattle.c_inits.specs.passed.c_types.declared.term.PathStep.TheVariants.{Index, Member as MemberStep}
use Rattle.c_inits.specs.passed.c_types.Trees.{Ctype, VoidType, BoolType, IntegerType, PointerTo, ArrayOf}
use Rattle.c_consts.specs.passed.core_tree.declared.node.NodeKind.{NodeKind}
use Rattle.c_consts.specs.passed.core_tree.declared.node.NodeKind.TheVariants.{Named, Text, Literal, FunctionName}
use Rattle.c_consts.specs.passed.core_tree.declared.node.NodeKind.TheVariants.{Deref, Member, Number, NullValue}
use Rattle.c_consts.specs.passed.core_tree.declared.node.NodeKind.TheVariants.{AddressOf, Decay, PointerAdd}
use Rattle.c_consts.specs.passed.core_tree.declared.node.NodeKind.TheVariants.{Convert, Upcast, Choose, Arith}
use Rattle.c_consts.specs.passed.core_tree.declared.node.NodeKind.TheVariants.{Initialise}
use Rattle.c_inits.specs.passed.c_grammar.Productions.{p_rest, p_type_name, p_assignment, p_block, p_conditional}
use Rattle.c_inits.specs.passed.c_grammar.Productions.{p_cast, p_unary}
use Rattle.c_inits.specs.passed.c_grammar.Words.{sign_left_parenthesis, sign_left_brace, sign_left_bracket}
use Rattle.c_consts.specs.Core.{Core, Cores, Of, NoCores, MoreCores, kind_of, place_of, ctype_of, leaf, over}
use Rattle.c_consts.specs.Wrapped.{converted}
use Rattle.c_inits.specs.Made.{shape_for}
use Rattle.c_inits.specs.Shapes.{Shape, Path}
use Rattle.c_inits.specs.Syntax.{Init, Items, Braces}
use Rattle.c_inits.specs.View as view
use Rattle.c_inits.specs.Initial.{Outcome, Places, NoPlace, Action, Placed, initial, lasting, length_given}
use Rattle.c_senses.specs.Tree.{Source, is_a, is_name, has_sign, place_at, spelling_at, children_at, first_where}
use Rattle.c_senses.specs.Tree.{child_of, parent_of, nearest_above}
use Rattle.c_senses.specs.Given.{Given, Fits, Refuses, ◌>>=◌, given_if, given_some}
use Rattle.c_senses.specs.World.{World, members_of}
use Rattle.c_senses.specs.Literals.{char_value}
use Rattle.c_senses.specs.Conversions.{conversion, typed}
use Rattle.c_senses.specs.Objects.{part_at}
use Rattle.c_senses.specs.Constants.{constant_in}
use Rattle.c_senses.specs.Limits.{within_limits, lacks_a_length}
use Rattle.c_senses.specs.Places.{own_place}
use Rattle.c_senses.specs.Entities.{with_length, length_seen, internal_agrees, initialised_by, derived_type}
use Rattle.c_senses.specs.Entities.{specified_of}
use Rattle.c_senses.specs.Entities.{entity_of, is_static_object, is_in_static, is_automatic_storage, storage_of}
use Rattle.c_senses.specs.Sense.{Sense, Nothing, IsCore, IsType, IsDeclarator, IsInitial, IsValue, value_in, fits}

-- the sense of an initialiser of an array whose length was seen before: it has that length
abbrev pub with_seen : Option ℕ → Sense → Sense
with_seen n (IsInitial initial None) = IsInitial initial n
with_seen n x = x

-- a number, a place or a pointer that is fixed before the program runs: what a static object's initialiser may hold
abbrev pub is_integer_type : Ctype → Bool
is_integer_type BoolType = true
is_integer_type (IntegerType size rank signed) = true
is_integer_type t = false

abbrev pub is_pointer_type : Ctype → Bool
is_pointer_type (PointerTo to) = true
is_pointer_type t = false

-- how a kind of node may be fixed
pub data FixedForm : Type 0 where
  Always : FixedForm
  OfNumbers : FixedForm
  OfEntity : (entity : ℕ) → FixedForm
  OfPlace : FixedForm
  OfPointer : FixedForm
  OfMoved : FixedForm
  Never : FixedForm

abbrev pub number_form : NodeKind → FixedForm
number_form (Number n) = Always
number_form (Arith op) = OfNumbers
number_form Choose = OfNumbers
number_form Convert = OfNumbers
number_form kind = Never

abbrev pub place_form : NodeKind → FixedForm
place_form (Text bytes) = Always
place_form (FunctionName e) = Always
place_form (Named e) = OfEntity e
place_form (Literal e) = OfEntity e
place_form (Member k) = OfPlace
place_form Deref = OfPointer
place_form kind = Never

abbrev pub pointer_form : NodeKind → FixedForm
pointer_form NullValue = Always
pointer_form AddressOf = OfPlace
pointer_form Decay = OfPlace
pointer_form Upcast = OfPointer
pointer_form Convert = OfPointer
pointer_form (PointerAdd minus) = OfMoved
pointer_form kind = Never

abbrev mutual
  pub is_fixed_number : Core → Bool
  is_fixed_number (Of kind place type under) =
      elim
      (number_form kind)
      [ Always ↦ true | OfNumbers ↦ is_integer_type type && are_fixed_numbers under | _ ↦ false ]

  pub are_fixed_numbers : Cores → Bool
  are_fixed_numbers NoCores = true
  are_fixed_numbers (MoreCores c rest) = is_fixed_number c && are_fixed_numbers rest

module _ (automatic : ℕ → Bool) where
  abbrev mutual
    pub is_fixed_place : Core → Bool
    is_fixed_place (Of kind place type under) =
        elim
        (place_form kind) [
          | Always ↦ true
          | OfEntity e ↦ not
              (automatic e)
          | OfPlace ↦ first_place under
          | OfPointer ↦ first_pointer under
          | _ ↦ false
        ]

    pub is_fixed_pointer : Core → Bool
    is_fixed_pointer (Of kind place type under) =
        elim
        (pointer_form kind) [
          | Always ↦ true
          | OfPlace ↦ first_place under
          | OfPointer ↦ is_pointer_type type
              && first_pointer under
          | OfMoved ↦ first_moved under
          | _ ↦ false
        ]

    pub first_place : Cores → Bool
    first_place NoCores = false
    first_place (MoreCores c rest) = is_fixed_place c

    pub first_pointer : Cores → Bool
    first_pointer NoCores = false
    first_pointer (MoreCores c rest) = is_fixed_pointer c

    pub first_moved : Cores → Bool
    first_moved NoCores = false
    first_moved (MoreCores c rest) = is_fixed_pointer c && are_fixed_numbers rest

  abbrev pub is_fixed : Core → Bool
  is_fixed c = is_fixed_number c || is_fixed_pointer c

-- the type at the end of a path
abbrev pub type_below : World → Ctype → PathStep → Option Ctype
type_below w (ArrayOf of n) (Index k) = Some of
type_below w t (MemberStep k) = elim (part_at (members_of w t) k) [ None ↦ None | Some m ↦ Some m.type ]
type_below w t step = None

abbrev pub type_along : World → Option Ctype → Path → Option Ctype
type_along w None path = None
type_along w (Some t) [] = Some t
type_along w (Some t) (step ∷ path) = type_along w (type_below w t step) path

-- so many elements an array without a length may have
abbrev pub most_elements : ℕ
most_elements = 9223372036854775808

-- an index that no array has: a written length is below it
abbrev pub past_every_array : ℕ
past_every_array = 18446744073709551616

module _ (w : World) (s : Source) (sense : ℕ → Sense) where
  -- the expression of an initialiser
  abbrev pub expression_of : ℕ → Sense
  expression_of init = elim (child_of s p_assignment init) [ None ↦ Nothing | Some c ↦ sense c ]

  abbrev pub core_type : Sense → Ctype
  core_type (IsCore c) = ctype_of c
  core_type x = VoidType

  abbrev pub is_text_kind : NodeKind → Bool
  is_text_kind (Text bytes) = true
  is_text_kind kind = false

  abbrev pub is_text : Sense → Bool
  is_text (IsCore c) = is_text_kind (kind_of c)
  is_text x = false

  -- a negative index is past every array
  abbrev pub index_of : Sense → Option ℕ
  index_of (IsValue n) = elim n [ pos k ↦ Some k | _ ↦ Some past_every_array ]
  index_of x = None

  abbrev pub name_behind_dot : ℕ → List ℕ
  name_behind_dot i =
      elim (first_where (is_name s) (children_at s i)) [ None ↦ [] | Some leaf ↦ spelling_at s leaf ]

  -- what an initialiser's tree is
  abbrev pub seen : view.Source
  seen = record {
    type_at = λ i. core_type (expression_of i);
    is_text = λ i. is_text (expression_of i);
    index_at = λ i. index_of (sense i);
    name_at = name_behind_dot;
  }

  abbrev pub designator_row : ℕ → List ℕ → Given Sense
  designator_row at [] = Refuses Operand at
  designator_row at (first ∷ rest) =
      if has_sign s sign_left_bracket first
      then
      (given_some (child_of s p_conditional at) Operand at >>=
      (λ c. constant_in w s at (sense c) >>= (λ n. Fits (IsValue n))))
      else Fits Nothing

  -- a value at its path: an expression is converted to the type there, and of a string each character is a number
  abbrev pub text_bytes : NodeKind → List ℕ
  text_bytes (Text bytes) = bytes
  text_bytes kind = []

  abbrev pub character_core : Sense → Ctype → ℕ → Given Core
  character_core (IsCore c) t k =
      Fits (leaf (Number (converted t (char_value (slice_index (text_bytes (kind_of c)) k)))) (place_of c) t)
  character_core x t k = Refuses Operand 0

  abbrev pub expression_core : ℕ → Ctype → Given Core
  expression_core init t = value_in w init (expression_of init) >>= (λ v. conversion w false init v t)

  -- an entity is known by the leaf of a name, or by a compound literal's parenthesis
  abbrev pub is_in_body : ℕ → Bool
  is_in_body i = is_some (nearest_above s (λ p. is_a s p_block p) i)

  abbrev pub is_automatic : ℕ → Bool
  is_automatic e = if is_name s e then is_automatic_storage s sense (storage_of s sense e) else is_in_body e

  abbrev pub fixed_or : Bool → ℕ → Core → Given Core
  fixed_or static init c = given_if (not static || is_fixed is_automatic c) Operand init (Fits c)

  abbrev pub placed_core : Bool → Placed → Ctype → Given Core
  placed_core static p t =
      elim p.character [
        | None ↦ expression_core p.node t
        | Some k ↦ character_core (expression_of p.node) t k
      ] >>= fixed_or static p.node

  abbrev pub placed_cores : Bool → Ctype → List Placed → Given Cores
  placed_cores static t [] = Fits NoCores
  placed_cores static t (p ∷ rest) =
      given_some (type_along w (Some t) p.path) Operand p.node >>= (λ type.
      placed_core static p type >>= (λ c. placed_cores static t rest >>= (λ more. Fits (MoreCores c more))))

  abbrev pub paths_of : List Placed → List Path
  paths_of [] = []
  paths_of (p ∷ rest) = p.path ∷ paths_of rest

  -- an array without a length gets one
  abbrev pub new_length : Ctype → List Action → Option ℕ
  new_length t actions = if lacks_a_length t then Some (length_given actions) else None

  pub record Made : Type 0 where
    pub initial : Core
    pub length : Option ℕ

  abbrev pub initialise_core : ℕ → Place → List Placed → Cores → Core
  initialise_core entity place items values = Of (Initialise entity (paths_of items)) place VoidType values

  -- an initialiser: first where each value goes, the first node without a place being refused; then the values in
  -- order
  abbrev pub made_of : Bool → ℕ → Place → Ctype → Outcome → Given Made
  made_of static entity place t (NoPlace node) = Refuses Initialiser node
  made_of static entity place t (Places actions) =
      placed_cores static (with_length (new_length t actions) t) (lasting [] actions) >>= (λ values.
      Fits
      (record {
        initial = initialise_core entity place (lasting [] actions) values;
        length = new_length t actions;
      }))

  abbrev pub outcome_of : ℕ → Option Shape → Option Init → Given Outcome
  outcome_of at None init = Refuses Initialiser at
  outcome_of at shape None = Refuses Operand at
  outcome_of at (Some shape) (Some init) = Fits (initial shape init)

  -- an object's initialiser; a length that makes its type one past the limits, or one that doesn't agree with an
  -- earlier declaration of an internal name, is refused at the declarator
  abbrev pub initialised_fits : Ctype → ℕ → Bool
  initialised_fits t leaf = within_limits w t && internal_agrees w s sense t leaf

  abbrev pub object_initialiser : ℕ → ℕ → ℕ → Ctype → Given Sense
  object_initialiser at declarator leaf t =
      outcome_of at (shape_for w.fillable most_elements t) (view.init_at seen s.nodes at) >>= (λ outcome.
      made_of (is_static_object s sense leaf) (entity_of s sense leaf) (own_place s at) t outcome >>= (λ made.
      given_if (initialised_fits (with_length made.length t) leaf) Operand leaf
      (Fits (IsInitial made.initial made.length))))

  abbrev pub name_of_declarator : Sense → Option ℕ
  name_of_declarator (IsDeclarator name ds) = name
  name_of_declarator x = None

  -- an array without a length has, before its values are placed, the length that is seen of its name (6.2.7p4), and
  -- keeps it
  abbrev pub initialised_as : ℕ → ℕ → ℕ → Ctype → Given Sense
  initialised_as at declarator leaf t =
      object_initialiser at declarator leaf (with_length (length_seen s sense leaf) t) >>= (λ made.
      Fits (with_seen (length_seen s sense leaf) made))

  abbrev pub initialised_object : ℕ → ℕ → Option ℕ → Given Sense
  initialised_object at declarator None = Refuses Operand at
  initialised_object at declarator (Some leaf) =
      given_some
      (derived_type s sense (specified_of s sense leaf) (Some declarator)) Operand at >>=
      initialised_as
      at declarator leaf

  abbrev pub init_in : ℕ → Option ℕ → Given Sense
  init_in at None = Refuses Operand at
  init_in at (Some declarator) = initialised_object at declarator (name_of_declarator (sense declarator))

  -- an initialiser within braces has no sense of its own: the outermost one has them all
  abbrev pub init_row : ℕ → Given Sense
  init_row at =
      elim
      (parent_of s at) [
        | None ↦ Fits Nothing
        | Some p ↦ if is_a s p_rest p then init_in at (initialised_by s sense at)
            else Fits Nothing
      ]

  -- 6.5.2.5: a compound literal. Its object is known by the leaf of its parenthesis; it has automatic storage in a
  -- function's body.
  abbrev pub opening : ℕ → ℕ
  opening p =
      elim (first_where (has_sign s sign_left_parenthesis) (children_at s p)) [ None ↦ p | Some leaf ↦ leaf ]

  abbrev pub brace : ℕ → ℕ
  brace p = elim (first_where (has_sign s sign_left_brace) (children_at s p)) [ None ↦ p | Some leaf ↦ leaf ]

  abbrev pub braced : ℕ → Option Items → Option Init
  braced node None = None
  braced node (Some items) = Some (Braces node items)

  abbrev pub literal_core : ℕ → Ctype → Made → Core
  literal_core p t made =
      over (Literal (opening p)) (place_at s (opening p)) (with_length made.length t) made.initial

  abbrev pub literal_of : ℕ → ℕ → Ctype → Given Core
  literal_of at p t =
      outcome_of (brace p) (shape_for w.fillable most_elements t)
      (braced (brace p) (view.items_at seen s.nodes at)) >>= (λ outcome.
      made_of (not (is_in_body at)) (opening p) (place_at s (brace p)) t outcome >>= (λ made.
      given_if
      (within_limits w (with_length made.length t) && not (is_in_body at && is_in_static s sense at))
      Operand
      (opening p) (Fits (literal_core p t made))))

  abbrev pub literal_type : ℕ → Sense → Given Ctype
  literal_type at (IsType t) = Fits t
  literal_type at x = Refuses Operand at

  abbrev pub literal_in : ℕ → ℕ → Option ℕ → Given Sense
  literal_in at p None = Refuses Operand at
  literal_in at p (Some t) =
      literal_type at (sense t) >>= (λ type. typed (opening p) type (literal_of at p type)) >>= fits

  abbrev pub items_row : ℕ → Given Sense
  items_row at =
      elim
      (parent_of s at) [
        | None ↦ Fits Nothing
        | Some p ↦ if is_a s p_cast p
            || is_a s p_unary p then literal_in at p (child_of s p_type_name p) else Fits Nothing
      ]
