-- The unit `int x,*p;int main(void){p=&x;return 0;}`.
use Rattle.std.specs.Prelude.{◌≡◌, ℕ, pos, List, [], ◌∷◌, Some, None, true, codes}
use Rattle.c_grammar.specs.Productions.{p_assignment, p_block, p_declarator, p_external, p_rest, p_unary, p_unit}
use Rattle.c_grammar.specs.Words.{sign_ampersand, word_int}
use Rattle.c_types.specs.declared.term.Form.TheVariants.{Fixed}
use Rattle.c_types.specs.declared.term.Term.TheVariants.{Void, Integer, Pointer, Function}
use Rattle.c_types.specs.Table.{Table}
use Rattle.core_tree.specs.declared.node.NodeKind.TheVariants.{Named, Number, AddressOf, Assign, Expression, Block}
use Rattle.core_tree.specs.declared.node.NodeKind.TheVariants.{Return}
use Rattle.core_tree.specs.declared.node.Node.{Node}
use Rattle.core_tree.specs.declared.node.Entity.{Entity}
use Rattle.core_tree.specs.declared.node.Storage.TheVariants.{Static, FunctionBody}
use Rattle.c_senses.specs.Right.{Right}
use Rattle.sense_cases.specs.Branches.{Branch, Node as Tree, Done, ◌▸◌, name, sign, unit_end, of_word, named}
use Rattle.sense_cases.specs.Branches.{counted, semicolon, comma, open_brace, shut_brace, star, equals, plain}
use Rattle.sense_cases.specs.Branches.{void_list, evaluates, returns, source}
use Rattle.sense_cases.specs.Columns.{at}
use Rattle.sense_cases.specs.right_cases.Units.{id, node, external, Vectors, unit}

abbrev pub tree : Branch
tree = Tree p_unit (
    (Tree p_external
    ((of_word word_int) ▸ (plain (codes "x")) ▸
    (Tree p_rest (comma ▸ (Tree p_declarator (star ▸ name (codes "p") ▸ Done)) ▸ semicolon ▸ Done)) ▸
    Done))
    ▸ (Tree p_external (
    (of_word word_int)
    ▸ (Tree p_declarator (name (codes "main") ▸ void_list ▸ Done))
    ▸ (Tree p_block (
    open_brace
    ▸ (evaluates
    (Tree p_assignment
    ((named (codes "p")) ▸ equals ▸
    (Tree p_unary (sign sign_ampersand ▸ (named (codes "x")) ▸ Done)) ▸ Done)))
    ▸ (returns (counted (codes "0")))
    ▸ shut_brace
    ▸ Done))
    ▸ Done))
    ▸ unit_end
    ▸ Done)

-- types: int, a pointer to it, a function without parameters that gives it, and void
abbrev pub types : Table
types = record {
  terms = Integer 4 4 true ∷ Pointer (id 0) ∷ Function (id 0) [] Fixed ∷ Void ∷ [];
  tags = 0;
  completed = [];
}

-- p, x, &x, p=&x and its statement; 0 and its return; the body
abbrev pub nodes : List Node
nodes =
    node (Named 1) 13 1 []
    ∷ node (Named 0) 16 0 []
    ∷ node AddressOf 15 1 (1 ∷ [])
    ∷ node Assign 14 1 (0 ∷ 2 ∷ [])
    ∷ node Expression 14 3 (3 ∷ [])
    ∷ node (Number (pos 0)) 19 0 []
    ∷ node Return 18 3 (5 ∷ [])
    ∷ node (Block []) 12 3 (4 ∷ 6 ∷ [])
    ∷ []

abbrev pub x : Entity
x = external (codes "x") 2 0 Static None (Some (at 16))

abbrev pub p : Entity
p = external (codes "p") 5 1 Static None (Some (at 13))

abbrev pub main : Entity
main = external (codes "main") 8 2 FunctionBody (Some 7) None

abbrev pub entities : List Entity
entities = x ∷ p ∷ main ∷ []

-- each unit with these parts is right for the tree, whatever memory its vectors have
pub record HasParts (v : Vectors) : Type 0 where
  pub keys : v.keys.items ≡ []
  pub nodes_are : v.nodes.items ≡ nodes
  pub entities_are : v.entities.items ≡ entities

abbrev pub PointedRight : Type 0
PointedRight = (called : List ℕ) (v : Vectors) → HasParts v → Right (source tree) called (unit called types v)
