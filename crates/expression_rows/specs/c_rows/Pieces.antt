-- How the bytes of string literals side by side are gathered (C11 6.4.5p5).
use Rattle.std.specs.Prelude.{ℕ, ◌≡◌, ◌++◌, true, false, ⊤, List, Result, Ok, Err}
use Rattle.std.specs.List.{flat_map}
use Rattle.pta_base.specs.declared.kind.Kind.TheVariants.{NotBuilt}
use Rattle.core_nodes.specs.declared.fault.CheckFault.{CheckFault}
use Rattle.core_nodes.specs.declared.fault.CheckFault.TheVariants.{BadOperand, Unsupported, OutOfMemory}
use Rattle.c_senses.specs.Tree.{Source, spelling_at}
use Rattle.c_senses.specs.Literals.{bytes_of_string}
use Rattle.expression_rows.specs.c_rows.Literals.{are_bytes}

abbrev pub piece_at : Source → ℕ → List ℕ
piece_at s leaf = bytes_of_string (spelling_at s leaf)

abbrev pub pieces : Source → List ℕ → List ℕ
pieces s leaves = flat_map (piece_at s) leaves

-- a refusal: some of them are no bytes
abbrev pub IsUnbuilt : CheckFault → ℕ → List ℕ → Type 0
IsUnbuilt (BadOperand node) at bytes = ⊥
IsUnbuilt (Unsupported kind node) at bytes = (kind ≡ NotBuilt) × (node ≡ at) × (are_bytes bytes ≡ false)
IsUnbuilt OutOfMemory at bytes = ⊤

-- the bytes of a piece are added
abbrev pub PieceAdded : {A : Type 0} → List ℕ → List ℕ → Result A CheckFault → ℕ → List ℕ → Type 0
PieceAdded old new (Ok done) at bytes = (new ≡ old ++ bytes) × (are_bytes bytes ≡ true)
PieceAdded old new (Err fault) at bytes = IsUnbuilt fault at bytes

-- these are the bytes of all pieces
abbrev pub AreGathered : Result (List ℕ) CheckFault → ℕ → List ℕ → Type 0
AreGathered (Ok text) at bytes = (text ≡ bytes) × (are_bytes bytes ≡ true)
AreGathered (Err fault) at bytes = IsUnbuilt fault at bytes
