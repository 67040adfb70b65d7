-- The type by which a function is called, in its parts.
use Rattle.std.specs.Prelude.{◌≡◌, ◌<◌, List, ◌∷◌, length, All}
use Rattle.c_types.specs.declared.term.TypeId.{TypeId}
use Rattle.c_types.specs.Trees.{Ctype, FunctionFrom, trees_at}
use Rattle.c_types.specs.Table.{Table, type_of, types_of}
use Rattle.ref_calls.specs.declared.signatures.Signature.{Signature}

abbrev pub type_by : Table → Signature → Ctype
type_by table s = FunctionFrom (type_of table s.result.0) (trees_at (types_of table) s.parameters.now) s.form

-- each of these is a type of the table
abbrev pub AreTypes : Table → List TypeId → Type 0
AreTypes table ids = All (λ id. id.0 < length table.terms) ids

-- the parts of a type, all of the table
pub record IsSignatureOf (table : Table) (t : Ctype) (s : Signature) : Type 0 where
  pub whole : type_by table s ≡ t
  pub known : AreTypes table (s.result ∷ s.parameters.now)
