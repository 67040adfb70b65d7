-- Short words for core trees and types in cases.
use Rattle.std.specs.Prelude.{◌≡◌, ℕ, pos, false, true, List, [], ◌∷◌, Bool, Some}
use Rattle.pta_base.specs.declared.kind.Kind.{Kind}
use Rattle.c_types.specs.declared.term.Form.TheVariants.{Fixed, Variadic, Unspecified}
use Rattle.c_types.specs.Trees.{Ctype, NoTypes, MoreTypes, VoidType, IntegerType, PointerTo, ArrayOf, FunctionFrom}
use Rattle.c_types.specs.Trees.{StructureOf}
use Rattle.core_tree.specs.declared.node.Op.{Op}
use Rattle.core_tree.specs.declared.node.NodeKind.TheVariants.{Named, FunctionName, Text, Deref, Member, Number}
use Rattle.core_tree.specs.declared.node.NodeKind.TheVariants.{NullValue, Fetch, AddressOf, Decay, PointerAdd}
use Rattle.core_tree.specs.declared.node.NodeKind.TheVariants.{Convert, Upcast, Assign, Update, Choose, Arith}
use Rattle.core_tree.specs.declared.node.NodeKind.TheVariants.{CallNode, Expression, Block, Return, Initialise}
use Rattle.core_tree.specs.declared.node.NodeKind.{NodeKind}
use Rattle.c_inits.specs.Shapes.{Path}
use Rattle.core_tree.specs.Rows.{int, character}
use Rattle.c_grammar.specs.Productions.{p_init, p_primary, p_block}
use Rattle.c_consts.specs.Core.{Core, Cores, Of, NoCores, MoreCores, place_of, ctype_of, leaf, over, over_two}
use Rattle.c_consts.specs.Core.{over_three}
use Rattle.c_senses.specs.Sense.{IsCore}
use Rattle.sense_cases.specs.Branches.{Branch}
use Rattle.sense_cases.specs.Columns.{at}
use Rattle.sense_cases.specs.Run.{outcome, outcome_before, Stands, Refused}

abbrev pub short : Ctype
short = IntegerType 2 3 true

abbrev pub unsigned : Ctype
unsigned = IntegerType 4 4 false

abbrev pub unsigned_long : Ctype
unsigned_long = IntegerType 8 5 false

abbrev pub unsigned_long_long : Ctype
unsigned_long_long = IntegerType 8 6 false

abbrev pub unsigned_char : Ctype
unsigned_char = IntegerType 1 2 false

abbrev pub ints : Ctype
ints = PointerTo int

abbrev pub pointers : Ctype
pointers = PointerTo ints

abbrev pub to_void : Ctype
to_void = PointerTo VoidType

abbrev pub three_ints : Ctype
three_ints = ArrayOf int (Some 3)

abbrev pub two_ints : Ctype
two_ints = ArrayOf int (Some 2)

-- the structure whose tag stands in column 2
abbrev pub S : Ctype
S = StructureOf 2

-- functions without parameters and of one, and pointers to such
abbrev pub of_void : Ctype → Ctype
of_void result = FunctionFrom result NoTypes Fixed

abbrev pub of_one : Ctype → Ctype → Ctype
of_one result parameter = FunctionFrom result (MoreTypes parameter NoTypes) Fixed

abbrev pub procedure : Ctype
procedure = of_void VoidType

abbrev pub takes_nothing : Ctype
takes_nothing = PointerTo (of_void int)

abbrev pub takes_one : Ctype
takes_one = PointerTo (of_one int int)

abbrev pub takes_more : Ctype
takes_more = FunctionFrom int (MoreTypes int NoTypes) Variadic

abbrev pub takes_any : Ctype
takes_any = FunctionFrom int NoTypes Unspecified

abbrev pub cores : List Core → Cores
cores [] = NoCores
cores (c ∷ rest) = MoreCores c (cores rest)

-- places: an object and a function by the column of the name that declares it, its own column and its type
abbrev pub object : ℕ → ℕ → Ctype → Core
object entity column t = leaf (Named entity) (at column) t

abbrev pub function : ℕ → ℕ → Ctype → Core
function entity column t = leaf (FunctionName entity) (at column) t

abbrev pub deref : ℕ → Ctype → Core → Core
deref column t v = over Deref (at column) t v

abbrev pub member : ℕ → ℕ → Ctype → Core → Core
member k column t p = over (Member k) (at column) t p

-- values: what a place holds, what an array or a function decays to
abbrev pub read : Core → Core
read p = over Fetch (place_of p) (ctype_of p) p

abbrev pub decayed : Ctype → Core → Core
decayed t p = over Decay (place_of p) t p

-- the string "ab"
abbrev pub two_letters : ℕ → Core
two_letters column = leaf (Text (97 ∷ 98 ∷ [])) (at column) (ArrayOf character (Some 3))

abbrev pub number : ℕ → ℕ → Ctype → Core
number n column t = leaf (Number (pos n)) (at column) t

abbrev pub null : ℕ → Ctype → Core
null column t = leaf NullValue (at column) t

abbrev pub changed : Ctype → Core → Core
changed t v = over Convert (place_of v) t v

abbrev pub upcast : Ctype → Core → Core
upcast t v = over Upcast (place_of v) t v

abbrev pub addressed : ℕ → Core → Core
addressed column p = over AddressOf (at column) (PointerTo (ctype_of p)) p

abbrev pub moved : Bool → ℕ → Core → Core → Core
moved minus column p n = over_two (PointerAdd minus) (at column) (ctype_of p) p n

abbrev pub computed : Op → ℕ → Ctype → Core → Core → Core
computed op column t a b = over_two (Arith op) (at column) t a b

abbrev pub assigned : ℕ → Core → Core → Core
assigned column p v = over_two Assign (at column) (ctype_of p) p v

abbrev pub updated : Op → Bool → ℕ → Core → Core → Core
updated op post column p v = over_two (Update op post) (at column) (ctype_of p) p v

abbrev pub chosen : ℕ → Ctype → Core → Core → Core → Core
chosen column t c a b = over_three Choose (at column) t c a b

abbrev pub called : ℕ → Ctype → Core → List Core → Core
called column t f arguments = Of CallNode (at column) t (MoreCores f (cores arguments))

-- statements
abbrev pub expression : ℕ → Core → Core
expression column v = over Expression (at column) VoidType v

abbrev pub returned : ℕ → Core → Core
returned column v = over Return (at column) VoidType v

abbrev pub block : List ℕ → ℕ → List Core → Core
block objects column statements = Of (Block objects) (at column) VoidType (cores statements)

abbrev pub initialised : ℕ → ℕ → List Path → List Core → Core
initialised entity column paths values = Of (Initialise entity paths) (at column) VoidType (cores values)

abbrev pub statement : NodeKind → ℕ → List Core → Core
statement kind column parts = Of kind (at column) VoidType (cores parts)

-- the body of a unit's last function is this; the unit is refused with that kind in that column
abbrev pub HasBody : Branch → Core → Type 0
HasBody b c = outcome b p_block ≡ Stands (IsCore c)

abbrev pub IsRefused : Branch → Kind → ℕ → Type 0
IsRefused b kind column = outcome b p_block ≡ Refused kind column

-- the last operand in a unit's last initialiser is this, before that initialiser is judged as a whole
abbrev pub HasOperand : Branch → Core → Type 0
HasOperand b c = outcome_before b p_init p_primary ≡ Stands (IsCore c)
