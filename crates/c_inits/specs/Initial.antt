-- What an initialiser initialises, in order.
use Rattle.std.specs.Prelude.{ℕ, zero, suc, ◌&&◌, min, max, cond, eqb, nat_lt, Bool, true, false, List, [], ◌∷◌}
use Rattle.std.specs.Prelude.{◌++◌, Option, Some, None, map}
use Rattle.c_types.specs.Trees.{Ctype, IntegerType, ArrayOf, StructureOf, UnionOf}
use Rattle.c_types.specs.declared.term.PathStep.{PathStep}
use Rattle.c_types.specs.declared.term.PathStep.TheVariants.{Index, Member}
use Rattle.c_inits.specs.Shapes.{Shape, Fields, Scalar, Elements, Structured, Overlaid, NoFields, Field, Path}
use Rattle.c_inits.specs.Shapes.{SubObject, whole, inner, from, behind}
use Rattle.c_inits.specs.Syntax.{Designator, AtIndex, AtName, Init, Items, Value, Braces, NoItems, Item}
use Rattle.c_inits.specs.Syntax.{designator_node, init_node}

-- a path of the object with the initialiser that gives its value; of a string, the position of a character
pub record Placed : Type 0 where
  pub path : Path
  pub node : ℕ
  pub character : Option ℕ

-- what items do, in order: an item clears its place, and then values are put
pub data Action : Type 0 where
  Clears : Path → Action
  Puts : Placed → Action

-- the actions, or the first node without a place
pub data Outcome : Type 0 where
  Places : (actions : List Action) → Outcome
  NoPlace : (node : ℕ) → Outcome

-- designators

abbrev pub same_name : List ℕ → List ℕ → Bool
same_name [] [] = true
same_name (a ∷ more) (b ∷ others) = eqb a b && same_name more others
same_name _ _ = false

abbrev pub has_name : Option (List ℕ) → List ℕ → Bool
has_name None name = false
has_name (Some own) name = same_name own name

abbrev pub or_else : Option SubObject → Option SubObject → Option SubObject
or_else None other = other
or_else (Some s) other = Some s

abbrev pub moved : Path → Option SubObject → Option SubObject
moved path None = None
moved path (Some s) = Some (record s { path = path ++ s.path })

-- the member of that name: among a list's own names first, then in its unnamed members, each one whole before the
-- next
abbrev mutual
  pub named : Shape → List ℕ → Option SubObject
  named (Structured type fields) name = or_else (own fields name) (in_unnamed fields name)
  named (Overlaid type fields) name = or_else (own fields name) (in_unnamed fields name)
  named _ name = None

  pub own : Fields → List ℕ → Option SubObject
  own NoFields name = None
  own (Field called number shape rest) name =
      cond (has_name called name) (Some (record { path = Member number ∷ []; shape = shape })) (own rest name)

  pub in_unnamed : Fields → List ℕ → Option SubObject
  in_unnamed NoFields name = None
  in_unnamed (Field None number shape rest) name =
      or_else (moved (Member number ∷ []) (named shape name)) (in_unnamed rest name)
  in_unnamed (Field (Some called) number shape rest) name = in_unnamed rest name

abbrev pub element : Shape → ℕ → Option SubObject
element (Elements type of length) k =
    cond (nat_lt k length) (Some (record { path = Index k ∷ []; shape = of })) None
element _ k = None

abbrev pub designated : Shape → Designator → Option SubObject
designated t (AtIndex node k) = element t k
designated t (AtName node name) = named t name

-- where an item's search for its place begins
pub data Start : Type 0 where
  At : List SubObject → Start
  Nothing : (node : ℕ) → Start

pub data Described : Type 0 where
  Found : Path → Described
  Missing : (node : ℕ) → Described

abbrev pub farther : Path → Described → Described
farther path (Found more) = Found (path ++ more)
farther path (Missing node) = Missing node

abbrev pub and_then : Option SubObject → ℕ → (Shape → Described) → Described
and_then None node rest = Missing node
and_then (Some s) node rest = farther s.path (rest s.shape)

-- the sub-object that designators describe
abbrev pub described : Shape → List Designator → Described
described t [] = Found []
described t (d ∷ ds) = and_then (designated t d) (designator_node d) (λ s. described s ds)

-- what a braced list for the object may fill, in order: a scalar itself, else what is in it
abbrev pub parts : Shape → List SubObject
parts (Scalar type) = whole (Scalar type) ∷ []
parts t = inner t

-- behind the sub-object of the item before
abbrev pub next : Shape → Option Path → List SubObject
next t None = parts t
next t (Some path) = behind t path

abbrev pub start_at : Shape → Described → Start
start_at t (Found path) = At (from t path)
start_at t (Missing node) = Nothing node

abbrev pub starts : Shape → Option Path → List Designator → Start
starts t before [] = At (next t before)
starts t before (d ∷ ds) = start_at t (described t (d ∷ ds))

-- values

abbrev pub same_tag : Ctype → Ctype → Bool
same_tag (StructureOf a) (StructureOf b) = eqb a b
same_tag (UnionOf a) (UnionOf b) = eqb a b
same_tag _ _ = false

abbrev pub is_character : Shape → Bool
is_character (Scalar (IntegerType size rank signed)) = eqb size 1
is_character _ = false

-- an expression initialises a scalar, a structure or union of its own type, and a string an array of characters
abbrev pub fits : Ctype → Bool → Shape → Bool
fits type text (Scalar t) = true
fits type text (Elements t of length) = text && is_character of
fits type text (Structured t list) = same_tag type t
fits type text (Overlaid t list) = same_tag type t

abbrev pub first_fit : Ctype → Bool → List SubObject → Option SubObject
first_fit type text [] = None
first_fit type text (s ∷ rest) = cond (fits type text s.shape) (Some s) (first_fit type text rest)

abbrev pub first_of : List SubObject → Option SubObject
first_of [] = None
first_of (s ∷ rest) = Some s

-- an expression has the first sub-object that it initialises, a braced list the first of all
abbrev pub place : Init → List SubObject → Option SubObject
place (Value node type text) subs = first_fit type text subs
place (Braces node items) subs = first_of subs

-- the size of a string with its closing zero
abbrev pub text_size : Ctype → ℕ
text_size (ArrayOf of (Some size)) = size
text_size _ = 0

abbrev pub characters : ℕ → ℕ → ℕ → List Action
characters node k zero = []
characters node k (suc more) =
    Puts (record { path = Index k ∷ []; node = node; character = Some k }) ∷ characters node (suc k) more

-- a string may lack room for its closing zero alone
abbrev pub filled : ℕ → ℕ → ℕ → Outcome
filled node size length =
    cond (nat_lt (suc length) size) (NoPlace node) (Places (characters node 0 (min size length)))

-- what an expression gives to an object that it fits
abbrev pub given : Shape → ℕ → Ctype → Outcome
given (Elements t of length) node type = filled node (text_size type) length
given t node type = Places (Puts (record { path = []; node = node; character = None }) ∷ [])

abbrev pub of_value : Shape → ℕ → Ctype → Bool → Outcome
of_value t node type text = cond (fits type text t) (given t node type) (NoPlace node)

-- lists

abbrev pub acts_under : Path → Action → Action
acts_under path (Clears p) = Clears (path ++ p)
acts_under path (Puts p) = Puts (record p { path = path ++ p.path })

abbrev pub and_rest : List Action → Outcome → Outcome
and_rest actions (Places more) = Places (actions ++ more)
and_rest actions (NoPlace node) = NoPlace node

abbrev pub joined : Path → Outcome → Outcome → Outcome
joined path (NoPlace node) rest = NoPlace node
joined path (Places actions) rest = and_rest (Clears path ∷ map (acts_under path) actions) rest

abbrev pub at_place : ℕ → Option SubObject → (Shape → Outcome) → (Path → Outcome) → Outcome
at_place node None this rest = NoPlace node
at_place node (Some s) this rest = joined s.path (this s.shape) (rest s.path)

abbrev pub at_start : Start → Init → (Shape → Outcome) → (Path → Outcome) → Outcome
at_start (Nothing node) init this rest = NoPlace node
at_start (At subs) init this rest = at_place (init_node init) (place init subs) this rest

-- the only item of a list, where it is a string without designators
abbrev pub only_text : Items → Option (ℕ × Ctype)
only_text (Item [] (Value node type true) NoItems) = Some (node, type)
only_text _ = None

abbrev pub is_scalar : Shape → Bool
is_scalar (Scalar type) = true
is_scalar _ = false

abbrev pub is_braced : Init → Bool
is_braced (Braces node items) = true
is_braced _ = false

-- a string in braces fills an array of characters as without them
abbrev pub or_text : Shape → Option (ℕ × Ctype) → Outcome → Outcome
or_text t None list = list
or_text t (Some value) list =
    cond (fits value.1 true t && (cond (is_scalar t) false true)) (of_value t value.0 value.1 true) list

-- what an initialiser initialises of an object; a scalar's braces hold an expression
abbrev mutual
  pub initial : Shape → Init → Outcome
  initial t (Value node type text) = of_value t node type text
  initial t (Braces node items) = or_text t (only_text items) (listed t None items)

  -- the items of a braced list, behind that of the last place
  pub listed : Shape → Option Path → Items → Outcome
  listed t before NoItems = Places []
  listed t before (Item designators init rest) =
      at_start (starts t before designators) init
      (λ s. cond (is_scalar t && is_braced init) (NoPlace (init_node init)) (initial s init))
      (λ path. listed t (Some path) rest)

-- replacement and length

abbrev pub same_step : PathStep → PathStep → Bool
same_step (Index a) (Index b) = eqb a b
same_step (Member a) (Member b) = eqb a b
same_step _ _ = false

abbrev pub same_path : Path → Path → Bool
same_path [] [] = true
same_path (a ∷ more) (b ∷ others) = same_step a b && same_path more others
same_path _ _ = false

abbrev pub is_under : Path → Path → Bool
is_under [] path = true
is_under (a ∷ more) (b ∷ others) = same_step a b && is_under more others
is_under path _ = false

-- the values that are at no place of this one or under it
abbrev pub cleared : Path → List Placed → List Placed
cleared path [] = []
cleared path (p ∷ rest) = cond (is_under path p.path) (cleared path rest) (p ∷ cleared path rest)

-- 6.7.9p19: an item takes away every earlier value at its place or under it
abbrev pub lasting : List Placed → List Action → List Placed
lasting so_far [] = so_far
lasting so_far (Clears path ∷ rest) = lasting (cleared path so_far) rest
lasting so_far (Puts p ∷ rest) = lasting (so_far ++ p ∷ []) rest

-- one more than the largest index at which a path begins
abbrev pub reach : Path → ℕ
reach (Index k ∷ path) = suc k
reach _ = 0

abbrev pub path_of : Action → Path
path_of (Clears path) = path
path_of (Puts p) = p.path

-- the number of elements that an array without a length gets
abbrev pub length_given : List Action → ℕ
length_given [] = 0
length_given (a ∷ rest) = max (reach (path_of a)) (length_given rest)
