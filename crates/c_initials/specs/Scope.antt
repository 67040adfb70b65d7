-- What rows of initialisers are told of names, and what they answer.
use Rattle.std.specs.Prelude.{ℕ, ◌≡◌, Bool, false, List, Option, Some, None, get_or, ⊤, Result, Ok, Err}
use Rattle.pta_base.specs.declared.kind.Kind.TheVariants.{Operand}
use Rattle.pta_base.specs.declared.place.Place.{Place}
use Rattle.c_types.specs.Trees.{Ctype}
use Rattle.core_tree.specs.declared.node.Unit.{Unit}
use Rattle.c_consts.specs.Core.{Core, Cores, NoCores, MoreCores}
use Rattle.c_inits.specs.Initial.{Placed}
use Rattle.c_senses.specs.Tree.{Source}
use Rattle.c_senses.specs.World.{World}
use Rattle.c_senses.specs.Sense.{Sense}
use Rattle.c_senses.specs.Given.{Given, Fits, Refuses, ◌>>=◌, given_some}
use Rattle.c_senses.specs.Conversions.{value_of, conversion}
use Rattle.c_senses.specs.Entities.{declares_function}
use Rattle.c_senses.specs.Initialised.{type_along, expression_of, expression_core, character_core, placed_core}
use Rattle.c_senses.specs.Initialised.{placed_cores, initialise_core, Made}
use Rattle.core_nodes.specs.Standing.{core_at, cores_at, Knows}
use Rattle.core_nodes.specs.declared.fault.CheckFault.{CheckFault}
use Rattle.core_nodes.specs.declared.fault.CheckFault.TheVariants.{BadOperand, Unsupported, OutOfMemory}
use Rattle.tree_reads.specs.Sources.{source_read}
use Rattle.c_initials.specs.declared.storage.Scope.{Scope}

-- by leaf, which names are declared as functions
abbrev pub AreFunctions : Source → (ℕ → Sense) → List Bool → Type 0
AreFunctions s sense functions = (leaf : ℕ) → get_or functions leaf false ≡ declares_function s sense leaf

-- what is asked of a world around an initialiser
pub record IsTold (w : World) (u : Unit) (scope : Scope) : Type 0 where
  pub knows : Knows w u
  pub functions : (sense : ℕ → Sense) → AreFunctions (source_read scope.syntax.now) sense scope.functions.now

-- what a call answers of some nodes, or of their refusal
abbrev pub CoresMade : Unit → Result (List ℕ) CheckFault → Given Cores → Type 0
CoresMade u (Ok list) g = g ≡ Fits (cores_at u list)
CoresMade u (Err (BadOperand node)) g = g ≡ Refuses Operand node
CoresMade u (Err (Unsupported kind node)) g = g ≡ Refuses kind node
CoresMade u (Err OutOfMemory) g = ⊤

-- some trees, and others behind them
abbrev pub behind : Cores → Cores → Cores
behind NoCores more = more
behind (MoreCores c rest) more = MoreCores c (behind rest more)

-- the value of an expression as one of a type
abbrev pub value_as : World → ℕ → Core → Ctype → Given Core
value_as w at c t = value_of w at c >>= (λ v. conversion w false at v t)

module _ (w : World) (s : Source) (sense : ℕ → Sense) where
  -- an item's value, before it is asked whether it is fixed
  abbrev pub item_value : Placed → Ctype → Given Core
  item_value p t =
      elim p.character [
        | None ↦ expression_core w s sense p.node t
        | Some k ↦ character_core w s sense
            (expression_of w s sense p.node) t k
      ]

  -- an item's value in an object of a type
  abbrev pub item_given : Bool → Ctype → Placed → Given Core
  item_given static t p =
      given_some (type_along w (Some t) p.path) Operand p.node >>= placed_core w s sense static p

  -- the node that initialises an object of a type by items
  abbrev pub initialised : Bool → ℕ → Place → Ctype → List Placed → Given Core
  initialised static entity place t items =
      placed_cores w s sense static t items >>=
      (λ values. Fits (initialise_core w s sense entity place items values))

  -- what a call answers of an initialised object: its node, with the length that is given
  abbrev pub ObjectMade : Unit → Result ℕ CheckFault → Option ℕ → Given (Made w s sense) → Type 0
  ObjectMade u (Ok i) n g = g ≡ Fits (record { initial = core_at u i; length = n })
  ObjectMade u (Err (BadOperand node)) n g = g ≡ Refuses Operand node
  ObjectMade u (Err (Unsupported kind node)) n g = g ≡ Refuses kind node
  ObjectMade u (Err OutOfMemory) n g = ⊤
