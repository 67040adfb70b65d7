-- What the initialiser of an object, or the list of a compound literal, gives.
use Rattle.std.specs.Prelude.{ℕ, ◌≡◌, Bool, ⊤, if◌then◌else◌, Option, Some, None, Result, Ok, Err}
use Rattle.pta_base.specs.declared.kind.Kind.TheVariants.{Operand}
use Rattle.pta_base.specs.declared.place.Place.{Place}
use Rattle.c_types.specs.Trees.{Ctype}
use Rattle.core_tree.specs.declared.node.Unit.{Unit}
use Rattle.c_inits.specs.Made.{shape_for}
use Rattle.c_inits.specs.Initial.{Outcome, NoPlace}
use Rattle.c_inits.specs.View as view
use Rattle.c_initialise.specs.declared.c_braces.items.Initialised.{Initialised}
use Rattle.c_initialise.specs.c_braces.Initialised.{IsGiven}
use Rattle.c_senses.specs.Tree.{Source}
use Rattle.c_senses.specs.World.{World}
use Rattle.c_senses.specs.Sense.{Sense}
use Rattle.c_senses.specs.Given.{Given, Fits, Refuses, ◌>>=◌}
use Rattle.c_senses.specs.Initialised.{most_elements, seen, outcome_of, made_of, braced, Made}
use Rattle.core_nodes.specs.Standing.{core_at}
use Rattle.core_nodes.specs.declared.fault.CheckFault.{CheckFault}
use Rattle.core_nodes.specs.declared.fault.CheckFault.TheVariants.{BadOperand, Unsupported, OutOfMemory}
use Rattle.c_results.specs.declared.made.Made.{Made as MadeNode}
use Rattle.c_results.specs.declared.made.Made.TheVariants.{Initial}
use Rattle.c_senses.specs.Entities.{is_static_object, entity_of}
use Rattle.c_senses.specs.Places.{own_place}
use Rattle.init_rows.specs.declared.objects.Object.{Object}
use Rattle.init_rows.specs.declared.objects.Target.{Target}

-- what is read of an initialiser: the items that last with the length, or the first node without a place
abbrev pub OutcomeIs : Ctype → Outcome → Result Initialised ℕ → Type 0
OutcomeIs t o (Ok given) = IsGiven t o given
OutcomeIs t o (Err bad) = o ≡ NoPlace bad

module _ (w : World) (s : Source) (sense : ℕ → Sense) where
  -- what the initialiser at a node gives an object of a type
  abbrev pub object_given : Bool → ℕ → Place → Ctype → ℕ → Given (Made w s sense)
  object_given static entity place t at =
      outcome_of w s sense at (shape_for w.fillable most_elements t)
      (view.init_at (seen w s sense) s.nodes at) >>= made_of w s sense static entity place t

  -- what the list at a node gives the object of a compound literal, by its brace
  abbrev pub list_given : Bool → ℕ → Place → Ctype → ℕ → ℕ → Given (Made w s sense)
  list_given static entity place t brace at =
      outcome_of w s sense brace (shape_for w.fillable most_elements t)
      (braced w s sense brace (view.items_at (seen w s sense) s.nodes at)) >>= made_of w s sense static
      entity place t

  -- the outcome of an initialiser, and of a list
  abbrev pub IsOutcome : Ctype → ℕ → Outcome → Type 0
  IsOutcome t at o =
      (static : Bool) (entity : ℕ) (place : Place)
      → object_given static entity place t at ≡ made_of w s sense static entity place t o

  abbrev pub IsOutcomeOf : Ctype → ℕ → ℕ → Outcome → Type 0
  IsOutcomeOf t brace at o =
      (static : Bool) (entity : ℕ) (place : Place)
      → list_given static entity place t brace at ≡ made_of w s sense static entity place t o

  -- what a call answers of it: the node with the length that is given, or the refusal
  abbrev pub ObjectGiven : Unit → Result Object CheckFault → Given (Made w s sense) → Type 0
  ObjectGiven u (Ok object) g = g ≡ Fits (record { initial = core_at u object.node; length = object.length })
  ObjectGiven u (Err (BadOperand node)) g = g ≡ Refuses Operand node
  ObjectGiven u (Err (Unsupported kind node)) g = g ≡ Refuses kind node
  ObjectGiven u (Err OutOfMemory) g = ⊤

-- what an object is before it is initialised, by the leaf of its name and its initialiser
pub record IsTarget (s : Source) (sense : ℕ → Sense) (leaf at : ℕ) (target : Target) : Type 0 where
  pub static : target.is_static ≡ is_static_object s sense leaf
  pub entity : target.entity ≡ entity_of s sense leaf
  pub place : target.place ≡ own_place s at

-- the length of an array behind its initialiser: the one that this gives, or else the one that is seen
abbrev pub known_length : Option ℕ → Option ℕ → Option ℕ
known_length before None = before
known_length before (Some count) = Some count

-- what is made of an object's initialiser, by whether the object's type fits
abbrev pub JudgedAs : Result MadeNode CheckFault → Object → ℕ → Bool → Type 0
JudgedAs r object leaf fits = r ≡ (if fits then Ok (Initial object.node object.length) else Err (BadOperand leaf))
