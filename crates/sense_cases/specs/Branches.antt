-- Syntax trees written as data, and the sources that they are.
use Rattle.std.specs.Prelude.{ℕ, suc, ◌+◌, ◌-◌, List, [], ◌∷◌, ◌++◌, length}
use Rattle.c_lexer.specs.declared.Token.{Token}
use Rattle.c_lexer.specs.declared.TokenKind.{TokenKind}
use Rattle.c_lexer.specs.declared.TokenKind.TheVariants.{Identifier, Keyword, Punctuator, Integer, Character, Text}
use Rattle.c_lexer.specs.declared.TokenKind.TheVariants.{End}
use Rattle.c_grammar.specs.declared.trees.SyntaxNode.{SyntaxNode}
use Rattle.c_grammar.specs.Reads as reads
use Rattle.c_grammar.specs.Productions.{p_specs, p_type, p_struct, p_declarator, p_either, p_suffix, p_parameter}
use Rattle.c_grammar.specs.Productions.{p_rest, p_statement, p_expression, p_primary}
use Rattle.c_grammar.specs.Words.{word_void, word_return, sign_semicolon, sign_comma, sign_left_parenthesis}
use Rattle.c_grammar.specs.Words.{sign_right_parenthesis, sign_left_bracket, sign_right_bracket, sign_left_brace}
use Rattle.c_grammar.specs.Words.{sign_right_brace, sign_star, sign_assign}
use Rattle.c_mentions.specs.Syntax.{nodes_of}
use Rattle.c_scope.specs.Resolves.{bindings}
use Rattle.c_senses.specs.Tree.{Source}
use Rattle.c_senses.specs.Names.{names_of}

-- a leaf with the kind and the spelling of its token, or a production over its parts
mutual
  pub data Branch : Type 0 where
    Leaf : (kind : TokenKind) (spelling : List ℕ) → Branch
    Node : (production : ℕ) (parts : Branches) → Branch

  pub data Branches : Type 0 where
    Done : Branches
    ◌▸◌ : (first : Branch) (rest : Branches) → Branches

infixr 5 ◌▸◌
-- tokens: an identifier, a keyword and a punctuator by their numbers, a number, a character constant, a string
-- literal
abbrev pub name : List ℕ → Branch
name spelling = Leaf Identifier spelling

abbrev pub word : ℕ → Branch
word k = Leaf (Keyword k) []

abbrev pub sign : ℕ → Branch
sign p = Leaf (Punctuator p) []

abbrev pub number : List ℕ → Branch
number spelling = Leaf Integer spelling

abbrev pub character : List ℕ → Branch
character spelling = Leaf Character spelling

abbrev pub text : List ℕ → Branch
text spelling = Leaf Text spelling

abbrev pub unit_end : Branch
unit_end = Leaf End []

-- the punctuators that most trees have
abbrev pub semicolon : Branch
semicolon = sign sign_semicolon

abbrev pub comma : Branch
comma = sign sign_comma

abbrev pub opening : Branch
opening = sign sign_left_parenthesis

abbrev pub closing : Branch
closing = sign sign_right_parenthesis

abbrev pub open_bracket : Branch
open_bracket = sign sign_left_bracket

abbrev pub shut_bracket : Branch
shut_bracket = sign sign_right_bracket

abbrev pub open_brace : Branch
open_brace = sign sign_left_brace

abbrev pub shut_brace : Branch
shut_brace = sign sign_right_brace

abbrev pub star : Branch
star = sign sign_star

abbrev pub equals : Branch
equals = sign sign_assign

-- specifiers of one type word, or of a structure or union by its tag
abbrev pub of_word : ℕ → Branch
of_word k = Node p_specs ((Node p_type (word k ▸ Done)) ▸ Done)

abbrev pub tag_words : ℕ → List ℕ → Branch
tag_words k tag = Node p_specs ((Node p_type ((Node p_struct (word k ▸ name tag ▸ Done)) ▸ Done)) ▸ Done)

-- declarators that are a name alone, the list `(void)`, and the end of a declaration
abbrev pub plain : List ℕ → Branch
plain spelling = Node p_declarator (name spelling ▸ Done)

abbrev pub parameter_name : List ℕ → Branch
parameter_name spelling = Node p_either (name spelling ▸ Done)

abbrev pub void_list : Branch
void_list =
    Node p_suffix (opening ▸ (Node p_parameter (of_word word_void ▸ (Node p_either Done) ▸ Done)) ▸ closing ▸ Done)

abbrev pub ending : Branch
ending = Node p_rest (semicolon ▸ Done)

-- a name and a number as expressions; an expression as a statement, and one that is returned
abbrev pub named : List ℕ → Branch
named spelling = Node p_primary (name spelling ▸ Done)

abbrev pub counted : List ℕ → Branch
counted spelling = Node p_primary (number spelling ▸ Done)

abbrev pub evaluates : Branch → Branch
evaluates e = Node p_statement ((Node p_expression (e ▸ Done)) ▸ semicolon ▸ Done)

abbrev pub returns : Branch → Branch
returns e = Node p_statement (word word_return ▸ (Node p_expression (e ▸ Done)) ▸ semicolon ▸ Done)

-- what has been written: the text, its tokens, and the nodes in the order in which their productions end
pub record Written : Type 0 where
  pub bytes : List ℕ
  pub tokens : List Token
  pub nodes : List SyntaxNode

abbrev pub nothing_written : Written
nothing_written = record { bytes = []; tokens = []; nodes = [] }

-- every token stands on line 1, in the column that is its number from 1 on
abbrev pub token_after : Written → TokenKind → List ℕ → Token
token_after w kind spelling =
    record {
      kind = kind;
      start = length w.bytes;
      end = length w.bytes
          + length spelling;
      line = 1;
      column = suc (length w.tokens);
    }

abbrev pub with_node : ℕ → ℕ → List ℕ → Written → Written
with_node production first children w =
    record w {
      nodes = w.nodes
          ++ (record { production = production; token = first; children = record { items = children } }) ∷ [];
    }

abbrev pub with_token : TokenKind → List ℕ → Written → Written
with_token kind spelling w =
    record w { bytes = w.bytes ++ spelling; tokens = w.tokens ++ token_after w kind spelling ∷ [] }

-- children's numbers, and what is written with them
pub record Parts : Type 0 where
  pub children : List ℕ
  pub written : Written

abbrev mutual
  pub written : Branch → Written → Written
  written (Leaf kind spelling) w = with_node reads.leaf (length w.tokens) [] (with_token kind spelling w)
  written (Node production parts) w =
      let all = written_all parts [] w in with_node production (length w.tokens) all.children all.written

  pub written_all : Branches → List ℕ → Written → Parts
  written_all Done children w = record { children = children; written = w }
  written_all (b ▸ rest) children w =
      let more = written b w in written_all rest (children ++ (length more.nodes - 1) ∷ []) more

abbrev pub source_from : Written → Source
source_from w = record {
  unit = 0;
  text = w.bytes;
  tokens = w.tokens;
  nodes = w.nodes;
  uses = (bindings w.bytes w.tokens (nodes_of w.nodes)).uses;
  declared = names_of w.bytes w.tokens w.nodes;
  tag_number = λ node. node;
}

-- the source that a tree is, by name resolution
abbrev pub source : Branch → Source
source b = source_from (written b nothing_written)
