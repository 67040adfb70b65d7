-- Definitions of functions (C11 6.9.1): what their names declare.
use Rattle.std.specs.Prelude.{ℕ, ◌≡◌, true, List, Some, length}
use Rattle.c_lexer.specs.declared.Tokens.{Tokens}
use Rattle.c_lexer.specs.Cut.{IsTokens}
use Rattle.c_types.specs.Trees.{Ctype, Ctypes, FunctionFrom}
use Rattle.c_types.specs.declared.term.Form.{Form}
use Rattle.c_types.specs.declared.term.Form.TheVariants.{Variadic}
use Rattle.c_grammar.specs.declared.trees.Tree.{Tree}
use Rattle.c_grammar.specs.Productions.{p_declarator}
use Rattle.c_parser.specs.c_units.Units.{IsUnit}
use Rattle.c_senses.specs.Tree.{Source, child_of}
use Rattle.c_senses.specs.Names.{source_of, numbered}
use Rattle.c_senses.specs.Sense.{Sense, Derivation, IsDeclarator, sense_in}
use Rattle.c_senses.specs.Declarators.{outermost_of}
use Rattle.c_senses.specs.Rows.{AreSenses}
use Rattle.c_senses.specs.Entities.{declaration_of, declares_function, is_linked, own_type, defined_name}
use Rattle.c_senses.specs.Entities.{ends_further}
use Rattle.c_senses.specs.Right.{is_declaring}
use Rattle.declaration_laws.specs.definition_laws.linkage_laws.PassedOn.{is_definition}

-- the definition has a name, which its declarator declares as a function, with linkage and of a function's type; one
-- that ends in a list with `...` declares a variadic one
pub record Defines (s : Source) (senses : List Sense) (d : ℕ) : Type 0 where
  pub name : ℕ
  pub named : defined_name s (sense_in senses) d ≡ Some name
  pub declaring : is_declaring s senses name ≡ true
  pub declaration : declaration_of s (sense_in senses) name ≡ Some d
  pub function : declares_function s (sense_in senses) name ≡ true
  pub linked : is_linked s (sense_in senses) name ≡ true
  pub result : Ctype
  pub parameters : Ctypes
  pub form : Form
  pub type : own_type s (sense_in senses) name ≡ Some (FunctionFrom result parameters form)
  pub declarator : ℕ
  pub part : child_of s p_declarator d ≡ Some declarator
  pub outermost : outermost_of s name ≡ Some declarator
  pub steps : List Derivation
  pub sense : sense_in senses declarator ≡ IsDeclarator (Some name) steps
  pub ends : ends_further steps ≡ true → form ≡ Variadic

-- so does each in a unit that is read, whose rows all fit
abbrev pub DefinitionsDeclare : Type 0
DefinitionsDeclare =
    (tokens : Tokens) (unit : ℕ) (tree : Tree) (tag_number : ℕ → ℕ) (senses : List Sense) (d : ℕ)
    → IsTokens tokens.text.now tokens.list.items
    → IsUnit tokens unit tree
    → AreSenses (numbered tag_number (source_of tokens tree)) senses
    → length senses ≡ length (numbered tag_number (source_of tokens tree)).nodes
    → is_definition (numbered tag_number (source_of tokens tree)) d ≡ true
    → Defines (numbered tag_number (source_of tokens tree)) senses d
