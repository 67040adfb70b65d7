-- The initialisers of objects that live for the whole run, in a unit that is built (C11 6.7.9p4).
use Rattle.std.specs.Prelude.{ℕ, ◌≡◌, Bool, true, false, List, Some, length, ◌&&◌}
use Rattle.c_lexer.specs.declared.Tokens.{Tokens}
use Rattle.c_lexer.specs.Cut.{IsTokens}
use Rattle.pta_base.specs.declared.place.Place.{Place}
use Rattle.c_types.specs.Trees.{Ctype}
use Rattle.c_inits.specs.Shapes.{Path}
use Rattle.c_grammar.specs.declared.trees.Tree.{Tree}
use Rattle.c_parser.specs.c_units.Units.{IsUnit}
use Rattle.core_tree.specs.declared.node.Unit.{Unit}
use Rattle.core_tree.specs.declared.node.NodeKind.TheVariants.{Initialise}
use Rattle.core_tree.specs.declared.node.Storage.TheVariants.{Static}
use Rattle.core_tree.specs.Typed.{trees_of}
use Rattle.core_tree.specs.Valid.{InRows, FixedStatics}
use Rattle.c_consts.specs.Core.{Core, Cores, Of, NoCores, MoreCores, core_in, cores_under}
use Rattle.c_senses.specs.Tree.{Source, is_a}
use Rattle.c_senses.specs.Declarators.{outermost_of}
use Rattle.c_senses.specs.Entities.{initialiser_of}
use Rattle.c_grammar.specs.Productions.{p_declarator}
use Rattle.c_senses.specs.Names.{source_of, numbered}
use Rattle.c_senses.specs.Rows.{world_at}
use Rattle.c_senses.specs.Sense.{Sense, sense_in}
use Rattle.c_senses.specs.Initialised.{is_automatic, is_fixed}
use Rattle.c_senses.specs.Right.{Declared, IsDeclaredAt, IsLiteralOf, literal_storage}
use Rattle.declaration_laws.specs.declared_type_laws.passed.built_unit_laws.built_units.Built.{IsBuilt}

-- what is automatic, by its leaf, as it is known by the senses of the whole tree
abbrev pub automatic_by : Source → List Sense → ℕ → Bool
automatic_by s senses = is_automatic (world_at s senses (length senses)) s (sense_in senses)

abbrev pub all_fixed : (ℕ → Bool) → Cores → Bool
all_fixed automatic NoCores = true
all_fixed automatic (MoreCores c rest) = is_fixed automatic c && all_fixed automatic rest

-- each value of the initialiser of what is declared to live for the whole run is fixed
abbrev pub ValuesFixed : Source → List Sense → Type 0
ValuesFixed s senses =
    (leaf : ℕ) (what : Declared) (paths : List Path) (place : Place) (type : Ctype) (values : Cores)
    → IsDeclaredAt s senses leaf what
    → what.storage ≡ Static
    → what.body ≡ Some (Of (Initialise leaf paths) place type values)
    → all_fixed (automatic_by s senses) values ≡ true

-- so it is for the objects of compound literals
abbrev pub LiteralValuesFixed : Source → List Sense → Type 0
LiteralValuesFixed s senses =
    (leaf : ℕ) (c : Core) (paths : List Path) (place : Place) (type : Ctype) (values : Cores)
    → IsLiteralOf s senses leaf c
    → literal_storage s senses leaf ≡ Static
    → core_in (cores_under c) 0 ≡ Some (Of (Initialise leaf paths) place type values)
    → all_fixed (automatic_by s senses) values ≡ true

-- what is initialised is a declarator with a name (C11 6.7)
abbrev pub DeclaratorsInitialised : Source → Type 0
DeclaratorsInitialised s =
    (sense : ℕ → Sense) (leaf o i : ℕ)
    → outermost_of s leaf ≡ Some o
    → initialiser_of s sense o ≡ Some i
    → is_a s p_declarator o ≡ true

-- a compound literal that stands in no block has its object for the whole run (C11 6.5.2.5p5)
abbrev pub LiteralsStatic : Source → List Sense → Type 0
LiteralsStatic s senses =
    (leaf : ℕ) (c : Core)
    → IsLiteralOf s senses leaf c
    → automatic_by s senses leaf ≡ false
    → literal_storage s senses leaf ≡ Static

-- then each value in the initialiser of a static object of the unit is fixed
abbrev pub FixedWhole : Type 0
FixedWhole =
    (tokens : Tokens) (unit : ℕ) (tree : Tree) (tag_number : ℕ → ℕ) (name : List ℕ) (u : Unit)
    → IsTokens tokens.text.now tokens.list.items
    → IsUnit tokens unit tree
    → (built : IsBuilt (numbered tag_number (source_of tokens tree)) name u)
    → LiteralsStatic (numbered tag_number (source_of tokens tree)) built.senses
    → InRows (trees_of u)
    → FixedStatics (trees_of u)
