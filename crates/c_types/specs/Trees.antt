-- A type as a tree. A structure or union is its tag, so each tree is finite.
use Rattle.std.specs.Prelude.{◌≡◌, ◌<◌, ℕ, Bool, List, [], ◌∷◌, ◌++◌, Option}
use Rattle.std.proofs.Common.{get_or}
use Rattle.c_types.specs.declared.term.Term.{Term}
use Rattle.c_types.specs.declared.term.Term.TheVariants.{Void, Bool as BoolTerm, Integer, Floating, VaList, Pointer}
use Rattle.c_types.specs.declared.term.Term.TheVariants.{Array, Function, Structure, Union}
use Rattle.c_types.specs.declared.term.TypeId.{TypeId}
use Rattle.c_types.specs.declared.term.Form.{Form}

mutual
  pub data Ctype : Type 0 where
    VoidType : Ctype
    BoolType : Ctype
    IntegerType : (size rank : ℕ) (signed : Bool) → Ctype
    FloatingType : Ctype
    VaListType : Ctype
    PointerTo : (to : Ctype) → Ctype
    ArrayOf : (of : Ctype) (length : Option ℕ) → Ctype
    FunctionFrom : (result : Ctype) (parameters : Ctypes) (form : Form) → Ctype
    StructureOf : (tag : ℕ) → Ctype
    UnionOf : (tag : ℕ) → Ctype

  pub data Ctypes : Type 0 where
    NoTypes : Ctypes
    MoreTypes : (first : Ctype) (rest : Ctypes) → Ctypes

-- the tree under a number
abbrev pub tree_at : List Ctype → ℕ → Ctype
tree_at trees i = get_or trees i VoidType

abbrev pub trees_at : List Ctype → List TypeId → Ctypes
trees_at trees [] = NoTypes
trees_at trees (id ∷ rest) = MoreTypes (tree_at trees id.0) (trees_at trees rest)

-- the tree of a term over the trees before it
abbrev pub grow : List Ctype → Term → Ctype
grow trees Void = VoidType
grow trees BoolTerm = BoolType
grow trees (Integer size rank signed) = IntegerType size rank signed
grow trees Floating = FloatingType
grow trees VaList = VaListType
grow trees (Pointer to) = PointerTo (tree_at trees to.0)
grow trees (Array of length) = ArrayOf (tree_at trees of.0) length
grow trees (Function result parameters form) =
    FunctionFrom (tree_at trees result.0) (trees_at trees parameters) form
grow trees (Structure tag) = StructureOf tag
grow trees (Union tag) = UnionOf tag

-- the trees of a list of terms, each over those before it
abbrev pub grown : List Ctype → List Term → List Ctype
grown trees [] = trees
grown trees (term ∷ rest) = grown (trees ++ grow trees term ∷ []) rest

-- the first so many ids of two lists name the same types
abbrev pub SameBefore : List Ctype → List TypeId → List TypeId → ℕ → Type 0
SameBefore trees a b n =
    (k : ℕ)
    → k < n
    → tree_at trees (get_or a k (record { 0 = 0 })).0 ≡ tree_at trees (get_or b k (record { 0 = 0 })).0
