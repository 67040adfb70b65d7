-- The Initialise of a name without linkage.
use Rattle.std.specs.Prelude.{ℕ, ◌==◌, ◌≡◌, ◌≤◌, true, false, List, length, if◌then◌else◌}
use Rattle.pta_base.specs.declared.place.Place.{Place}
use Rattle.core_tree.specs.declared.node.NodeKind.{NodeKind}
use Rattle.core_tree.specs.declared.node.NodeKind.TheVariants.{Initialise}
use Rattle.c_lexer.specs.declared.Tokens.{Tokens}
use Rattle.c_lexer.specs.Cut.{IsTokens}
use Rattle.c_grammar.specs.declared.trees.Tree.{Tree}
use Rattle.c_parser.specs.c_units.Units.{IsUnit}
use Rattle.c_senses.specs.Tree.{Source, is_name}
use Rattle.c_senses.specs.Names.{source_of, numbered}
use Rattle.c_senses.specs.Entities.{is_linked}
use Rattle.c_senses.specs.Sense.{Sense, sense_in}
use Rattle.c_senses.specs.Rows.{AreSenses}
use Rattle.core_node_laws.specs.count_laws.count_rows.Counts.{Count}
use Rattle.core_node_laws.specs.count_laws.Counting.{sum_below, bodies}

-- an Initialise of one entity weighs one, and nothing is left out
abbrev pub initialise_weight : ℕ → NodeKind → Place → ℕ
initialise_weight d (Initialise e paths) place = if e == d then 1 else 0
initialise_weight d kind place = 0

abbrev pub initialises : ℕ → Count
initialises d = record { weight = initialise_weight d; leaves_out = λ e. false }

-- it stands at most once in what the nodes of a tree bring as bodies
abbrev pub AreOnce : Source → List Sense → Type 0
AreOnce s senses =
    (d : ℕ)
    → is_name s d ≡ true
    → is_linked s (sense_in senses) d ≡ false
    → sum_below (bodies (initialises d) s senses) (length s.nodes) ≤ 1

-- so it is of a text that is read whose rows all fit
abbrev pub InitialisedOnce : Type 0
InitialisedOnce =
    (tokens : Tokens) (unit : ℕ) (tree : Tree) (tag_number : ℕ → ℕ) (senses : List Sense)
    → IsTokens tokens.text.now tokens.list.items
    → IsUnit tokens unit tree
    → AreSenses (numbered tag_number (source_of tokens tree)) senses
    → length senses ≡ length (numbered tag_number (source_of tokens tree)).nodes
    → AreOnce (numbered tag_number (source_of tokens tree)) senses
