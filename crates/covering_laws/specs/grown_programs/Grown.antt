-- A table with more types behind its own.
use Rattle.std.specs.Prelude.{◌≡◌, ℕ, ◌+◌, ◌<◌, List, [], ◌∷◌, ◌++◌, length}
use Rattle.c_types.specs.declared.term.Term.{Term}
use Rattle.c_types.specs.declared.term.Term.TheVariants.{Structure, Union, Function}
use Rattle.c_types.specs.Trees.{Ctype}
use Rattle.c_types.specs.Table.{Table, IsAfter, type_of, look_in, extent_in}
use Rattle.c_types.specs.Made.{IsMade, AreNamed, IsSized}
use Rattle.core_tree.specs.declared.node.Program.{Program}
use Rattle.core_tree.specs.Valid.{ValidProgram}
use Rattle.sol_model.specs.declared.system.System.{System}
use Rattle.obj_space.specs.Space.{locations_in}
use Rattle.obj_space.specs.View.{view_of}
use Rattle.normal_form.specs.SystemOf.{SystemOf}

-- the table with these terms behind its own
abbrev pub with_terms : Table → List Term → Table
with_terms table more = record table { terms = table.terms ++ more }

-- neither a structure, a union nor a function
abbrev pub IsSimple : Term → Type 0
IsSimple (Structure tag) = ⊥
IsSimple (Union tag) = ⊥
IsSimple (Function result parameters form) = ⊥
IsSimple term = Unit {0}

-- terms that may stand behind so many: each is simple, and its types come before it
abbrev pub MayFollow : ℕ → List Term → Type 0
MayFollow n [] = Unit {0}
MayFollow n (t ∷ rest) = (IsAfter n t × IsSized t × IsSimple t) × MayFollow (n + 1) rest

-- the types of a table stay as they were in a longer one, which is a table too
pub record IsKept (old new : Table) : Type 0 where
  pub types : (id : ℕ) → id < length old.terms → type_of new id ≡ type_of old id
  pub look : look_in new ≡ look_in old
  pub extents : (t : Ctype) → extent_in new t ≡ extent_in old t
  pub made : IsMade new
  pub named : AreNamed new

abbrev pub TablesGrow : Type 0
TablesGrow =
    (table : Table) (more : List Term)
    → IsMade table
    → AreNamed table
    → MayFollow (length table.terms) more
    → IsKept table (with_terms table more)

-- the program with these types behind its own
abbrev pub with_types : Program → List Term → Program
with_types p more = record p { types = with_terms p.types more }

-- each system of a program is one of the program with more types
abbrev pub SystemsGrow : Type 0
SystemsGrow =
    (p : Program) (more : List Term) (system : System)
    → ValidProgram p
    → IsMade p.types
    → AreNamed p.types
    → MayFollow (length p.types.terms) more
    → SystemOf p (view_of (locations_in p)) system
    → SystemOf (with_types p more) (view_of (locations_in p)) system
