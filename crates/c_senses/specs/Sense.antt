-- What syntax nodes stand for.
use Rattle.std.specs.Prelude.{ℕ, ℤ, List, [], ◌∷◌, Option, get_or}
use Rattle.c_scope.specs.passed.pta_base.declared.kind.Kind.TheVariants.{Operand}
use Rattle.c_inits.specs.passed.c_types.declared.term.Form.{Form}
use Rattle.c_inits.specs.passed.c_types.Trees.{Ctype, Ctypes}
use Rattle.c_consts.specs.Core.{Core}
use Rattle.c_inits.specs.Made.{Part}
use Rattle.c_senses.specs.Given.{Given, Fits, Refuses, ◌>>=◌}
use Rattle.c_senses.specs.World.{World}
use Rattle.c_senses.specs.Conversions.{value_of}

-- one step of a declarator, from the outside in
pub data Derivation : Type 0 where
  Pointing : Derivation
  Elements : (length : Option ℕ) → Derivation
  Returning : (parameters : Ctypes) (form : Form) → Derivation

-- specifiers: the words for storage and for functions by their keywords, and the type
pub record Specified : Type 0 where
  pub storage : List ℕ
  pub functions : List ℕ
  pub type : Ctype

-- a parameter: the leaf of its name, and its type with arrays and functions turned into pointers
pub record Parameter : Type 0 where
  pub name : Option ℕ
  pub type : Ctype

-- what a syntax node stands for: nothing of its own; a core tree, of an expression or a statement; a type;
-- specifiers; the name and the derivations of a declarator; one derivation; a parameter; members; an enumerator's
-- value; the initialisers that a declaration runs; or an initialiser, with the number of elements that it gives to
-- an array
pub data Sense : Type 0 where
  Nothing : Sense
  IsCore : Core → Sense
  IsType : Ctype → Sense
  IsSpecified : Specified → Sense
  IsDeclarator : (name : Option ℕ) (derivations : List Derivation) → Sense
  IsDerivation : Derivation → Sense
  IsParameter : Parameter → Sense
  IsMembers : List Part → Sense
  IsValue : ℤ → Sense
  IsRun : List Core → Sense
  IsInitial : (initial : Core) (length : Option ℕ) → Sense

-- the core tree of a sense, for the row of node `at`
abbrev pub core_of : ℕ → Sense → Given Core
core_of at (IsCore c) = Fits c
core_of at sense = Refuses Operand at

-- the value of the expression of a sense
abbrev pub value_in : World → ℕ → Sense → Given Core
value_in w at sense = core_of at sense >>= value_of w at

abbrev pub type_of_sense : ℕ → Sense → Given Ctype
type_of_sense at (IsType t) = Fits t
type_of_sense at sense = Refuses Operand at

abbrev pub fits : Core → Given Sense
fits c = Fits (IsCore c)

-- the sense of a node, by the senses of all nodes before some node
abbrev pub sense_in : List Sense → ℕ → Sense
sense_in senses i = get_or senses i Nothing

-- the last of a list that begins so
abbrev pub last_of : ℕ → List ℕ → ℕ
last_of x [] = x
last_of x (y ∷ rest) = last_of y rest
