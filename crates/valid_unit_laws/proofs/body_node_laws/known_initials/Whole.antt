-- What is initialised in a body is declared, or the object of a literal there.
use Rattle.std.proofs.Common.{◌≡◌, ℕ, List, length, ◌⊎◌, inl, inr}
use Rattle.c_lexer.specs.declared.Tokens.{Tokens}
use Rattle.c_lexer.specs.Cut.{IsTokens}
use Rattle.c_grammar.specs.declared.trees.Tree.{Tree}
use Rattle.c_parser.specs.c_units.Units.{IsUnit}
use Rattle.core_tree.specs.declared.node.NodeKind.TheVariants.{Initialise}
use Rattle.c_consts.specs.Core.{Core, kind_of}
use Rattle.c_inits.specs.Shapes.{Path}
use Rattle.c_senses.specs.Names.{source_of, numbered}
use Rattle.c_senses.specs.Tree.{Source}
use Rattle.c_senses.specs.Rows.{AreSenses}
use Rattle.c_senses.specs.Sense.{Sense}
use Rattle.core_node_laws.specs.built_unit_laws.built_laws.Placed.{IsInBody}
use Rattle.core_node_laws.specs.literal_initials.Placed.{IsInitialised}
use Rattle.core_node_laws.proofs.literal_initials.All.{placed}
use Rattle.valid_unit_laws.specs.body_node_laws.parts_named.Named.{IsDeclared, IsLiteralThere}
use Rattle.valid_unit_laws.specs.body_node_laws.known_initials.Initials.{InitialsKnown}
use Rattle.valid_unit_laws.proofs.body_node_laws.known_initials.Trees.{top_holds, Found, found}
use Rattle.valid_unit_laws.proofs.body_node_laws.known_initials.Names.{declared}

module _ (tokens : Tokens) (unit : ℕ) (tree : Tree) (tag_number : ℕ → ℕ) (senses : List Sense) (cut : IsTokens tokens.text.now tokens.list.items) (read : IsUnit tokens unit tree)
    (are : AreSenses (numbered tag_number (source_of tokens tree)) senses) (whole : length senses ≡ length (numbered tag_number (source_of tokens tree)).nodes)
    (c : Core) (d : ℕ) (paths : List Path) (h : IsInBody (numbered tag_number (source_of tokens tree)) senses c) (is : kind_of c ≡ Initialise d paths)
  where
    abbrev s : Source
    s = numbered tag_number (source_of tokens tree)

    abbrev asks : ℕ → Type 0
    asks e = IsInitialised s senses e

    by : Found asks s senses c d paths is h.body → IsDeclared s senses d ⊎ IsLiteralThere s senses d
    by (inl i) = inl (declared tokens unit tree tag_number senses cut read are whole d i)
    by (inr (literal, within, kind)) =
        inr (record { tree = literal; in_body = record { leaf = h.leaf; what = h.what; body = h.body; declared = h.declared; has = h.has; within = within }; kind = kind })

    known : IsDeclared s senses d ⊎ IsLiteralThere s senses d
    known = by (found asks s senses c d paths is h.within (top_holds asks s senses (placed s senses are) h.leaf h.what h.body h.declared h.has))

pub initials_known : InitialsKnown
initials_known tokens unit tree tag_number senses cut read are whole c d paths h is = known tokens unit tree tag_number senses cut read are whole c d paths h is
