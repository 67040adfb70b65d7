-- What is known where each row is asked, with no word on alignments.
use Rattle.std.specs.Prelude.{ℕ, ◌≡◌, ◌<◌, true, take, length, List, Option, Some}
use Rattle.c_types.specs.Trees.{Ctype}
use Rattle.c_grammar.specs.Productions.{p_declaration, p_primary}
use Rattle.c_senses.specs.Tree.{Source, is_a, children_at}
use Rattle.c_senses.specs.World.{Meaning}
use Rattle.c_senses.specs.Statements.{objects_declared}
use Rattle.c_senses.specs.Sense.{Sense, sense_in}
use Rattle.c_senses.specs.Rows.{AreSenses, world_at}
use Rattle.c_initialise.specs.passed.sense_laws.Sound.{MeaningFits, FurtherIsVariadic}
use Rattle.c_initialise.specs.passed.sense_laws.Senses.{ChildrenFirst, ConstantsFit, StatementGrammar, RunsIn}
use Rattle.c_initialise.specs.passed.sense_laws.Senses.{InitialisersFit}
use Rattle.c_initialise.specs.passed.sense_laws.Laws.{SensesFit}
use Rattle.c_initialise.specs.passed.sense_laws.Asked.{FirstFits, InitialAsks, OutcomeStands, AskedFit}

pub record AllElseFits (entities : ℕ → Option Ctype) (s : Source) (senses : List Sense) : Type 0 where
  pub names : (i : ℕ)
      → i < length senses
      → (leaf : ℕ) (m : Meaning)
      → (world_at s (take i senses) i).meaning leaf ≡ Some m
      → MeaningFits entities m
  pub further : (i : ℕ) → i < length senses → FurtherIsVariadic (world_at s (take i senses) i) entities
  pub runs : (i : ℕ) → i < length senses → (d : ℕ) → is_a s p_declaration d ≡ true
      → RunsIn (objects_declared (world_at s (take i senses) i) s (sense_in (take i senses)) d)
      (sense_in (take i senses) d)
  pub initials : (i : ℕ)
      → i < length senses
      → InitialisersFit (world_at s (take i senses) i) entities s (sense_in (take i senses))

abbrev pub AlignsFit : Type 0
AlignsFit =
    (entities : ℕ → Option Ctype) (s : Source) (senses : List Sense)
    → AreSenses s senses
    → ChildrenFirst s
    → ConstantsFit s
    → StatementGrammar s
    → AllElseFits entities s senses → SensesFit entities s senses

-- what each row asks, with no word on alignments
pub record AskedElseFit (entities : ℕ → Option Ctype) (s : Source) (senses : List Sense) : Type 0 where
  pub names : (i : ℕ)
      → i < length senses
      → is_a s p_primary i ≡ true
      → FirstFits (world_at s (take i senses) i) entities (children_at s i)
  pub further : (i : ℕ)
      → i < length senses
      → is_a s p_primary i ≡ true
      → FurtherIsVariadic (world_at s (take i senses) i) entities
  pub runs : (i : ℕ) → i < length senses → (d : ℕ) → is_a s p_declaration d ≡ true
      → RunsIn (objects_declared (world_at s (take i senses) i) s (sense_in (take i senses)) d)
      (sense_in (take i senses) d)
  pub initials : (i : ℕ) → i < length senses
      → InitialAsks (OutcomeStands (world_at s (take i senses) i) entities s (sense_in (take i senses)))
      (world_at s (take i senses) i) s (sense_in (take i senses)) i

abbrev pub AskedAlignsFit : Type 0
AskedAlignsFit =
    (entities : ℕ → Option Ctype) (s : Source) (senses : List Sense)
    → AreSenses s senses
    → ChildrenFirst s
    → ConstantsFit s
    → StatementGrammar s
    → AskedElseFit entities s senses → AskedFit entities s senses
