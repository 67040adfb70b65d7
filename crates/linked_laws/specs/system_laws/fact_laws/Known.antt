-- What a system knows of the types of a table.
use Rattle.std.specs.Prelude.{ℕ, ◌≡◌, ◌<◌, All, length}
use Rattle.c_types.specs.Trees.{Ctype}
use Rattle.c_types.specs.Table.{Table, type_of}
use Rattle.c_types.specs.Made.{IsMade, AreNamed}
use Rattle.type_rules.specs.Members.{IsMemberOf}
use Rattle.sol_model.specs.declared.system.System.{System}
use Rattle.sol_model.specs.Systems.{IsNodeOf, HasMember}
use Rattle.row_numbers.specs.Kept.{nodes_of}
use Rattle.row_numbers.specs.Numbers.{type_number}
use Rattle.normal_form.specs.Facts.{type_facts}
use Rattle.linked_laws.specs.merged_laws.Merged.{TagsFit}

abbrev pub FactsValid : Type 0
FactsValid =
    (table : Table)
    → IsMade table
    → TagsFit table
    → All (λ fact. All (λ position. position < fact.nodes) fact.members) (type_facts table)

abbrev pub NodesKnown : Type 0
NodesKnown =
    (table : Table)
    → IsMade table
    → AreNamed table
    → (system : System)
    → system.types ≡ type_facts table
    → (id i : ℕ)
    → i < length (nodes_of table (type_of table id)) → IsNodeOf system (type_number (type_of table id)) i

abbrev pub MembersKnown : Type 0
MembersKnown =
    (table : Table)
    → IsMade table
    → AreNamed table
    → (system : System)
    → system.types ≡ type_facts table
    → (whole : Ctype) (k : ℕ) (t : Ctype)
    → IsMemberOf table whole k t → HasMember system (type_number whole) k
