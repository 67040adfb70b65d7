-- What a sense is, by its kind, and what has been made for it.
use Rattle.std.specs.Prelude.{ℕ, ℤ, ◌≡◌, List, map, Option, Some, None}
use Rattle.std.specs.Borrow.{Bor}
use Rattle.c_types.specs.declared.term.TypeId.{TypeId}
use Rattle.c_types.specs.declared.term.MemberTerm.{MemberTerm}
use Rattle.c_types.specs.Trees.{Ctype}
use Rattle.c_types.specs.Table.{type_of}
use Rattle.core_tree.specs.declared.node.Unit.{Unit}
use Rattle.core_nodes.specs.passed.c_senses.PassedOn.{Core}
use Rattle.c_inits.specs.Made.{Part}
use Rattle.c_inits.specs.Tables.{part_of}
use Rattle.core_nodes.specs.passed.c_senses.Sense.{Sense, Nothing, IsCore, IsType, IsSpecified, IsDeclarator}
use Rattle.core_nodes.specs.passed.c_senses.Sense.{IsDerivation, IsParameter, IsMembers, IsValue, IsRun, IsInitial}
use Rattle.core_nodes.specs.passed.c_senses.Sense.{Parameter}
use Rattle.core_nodes.specs.passed.c_senses.Sense as sense
use Rattle.core_nodes.specs.Standing.{core_at}
use Rattle.c_results.specs.declared.derivation.Derivation.{Derivation}
use Rattle.c_results.specs.Standing.{derivation_seen, derivations_seen}

abbrev pub core_in : Sense → Option Core
core_in (IsCore c) = Some c
core_in x = None

abbrev pub type_in : Sense → Option Ctype
type_in (IsType t) = Some t
type_in x = None

abbrev pub specified_in : Sense → Option Ctype
specified_in (IsSpecified x) = Some x.type
specified_in x = None

abbrev pub derivation_in : Sense → Option sense.Derivation
derivation_in (IsDerivation d) = Some d
derivation_in x = None

abbrev pub declarator_in : Sense → Option (Option ℕ × List sense.Derivation)
declarator_in (IsDeclarator name ds) = Some (name, ds)
declarator_in x = None

abbrev pub parameter_in : Sense → Option Parameter
parameter_in (IsParameter p) = Some p
parameter_in x = None

abbrev pub number_in : Sense → Option ℤ
number_in (IsValue n) = Some n
number_in x = None

abbrev pub parts_in : Sense → Option (List Part)
parts_in (IsMembers parts) = Some parts
parts_in x = None

abbrev pub NodeSeen : Unit → Option ℕ → Option Core → Type 0
NodeSeen u None c = c ≡ None
NodeSeen u (Some i) c = c ≡ Some (core_at u i)

abbrev pub DerivationSeen : Unit → Option (Bor Derivation) → Option sense.Derivation → Type 0
DerivationSeen u None d = d ≡ None
DerivationSeen u (Some made) d = d ≡ Some (derivation_seen u.types made.now)

abbrev pub DeclaratorSeen : Unit
    → Option (Option ℕ × Bor (List Derivation))
    → Option (Option ℕ × List sense.Derivation)
    → Type 0
DeclaratorSeen u None d = d ≡ None
DeclaratorSeen u (Some made) d = d ≡ Some (made.0, derivations_seen u.types made.1.now)

abbrev pub ParameterSeen : Unit → Option (Option ℕ × TypeId) → Option Parameter → Type 0
ParameterSeen u None p = p ≡ None
ParameterSeen u (Some made) p = p ≡ Some (record { name = made.0; type = type_of u.types made.1.0 })

abbrev pub MembersSeen : Unit → Option (Bor (List MemberTerm)) → Option (List Part) → Type 0
MembersSeen u None parts = parts ≡ None
MembersSeen u (Some made) parts = parts ≡ Some (map (part_of u.types) made.now)
