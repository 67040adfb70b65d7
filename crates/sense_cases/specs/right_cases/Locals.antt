-- The unit `struct s{int*q;};int f(void){typedef struct s T;static int n;T v={&n};return 0;}`.
use Rattle.std.specs.Prelude.{◌≡◌, ℕ, pos, List, [], ◌∷◌, Some, None, true, codes}
use Rattle.c_grammar.specs.Productions.{p_assignment, p_block, p_declaration, p_declarator, p_external, p_field}
use Rattle.c_grammar.specs.Productions.{p_init, p_item, p_items, p_member, p_members, p_rest, p_specs, p_storage}
use Rattle.c_grammar.specs.Productions.{p_struct, p_type, p_unary, p_unit}
use Rattle.c_grammar.specs.Words.{sign_ampersand, word_int, word_static, word_struct, word_typedef}
use Rattle.c_types.specs.declared.term.Form.TheVariants.{Fixed}
use Rattle.c_types.specs.declared.term.PathStep.TheVariants.{Member as MemberStep}
use Rattle.c_types.specs.declared.term.Term.TheVariants.{Void, Integer, Pointer, Function, Structure}
use Rattle.c_types.specs.Table.{Table}
use Rattle.core_tree.specs.declared.node.Linkage.TheVariants.{Local}
use Rattle.core_tree.specs.declared.node.NodeKind.TheVariants.{Named, Number, AddressOf, Block, Return, Initialise}
use Rattle.core_tree.specs.declared.node.Node.{Node}
use Rattle.core_tree.specs.declared.node.Entity.{Entity}
use Rattle.core_tree.specs.declared.node.Storage.TheVariants.{Static, Automatic, FunctionBody}
use Rattle.c_senses.specs.Names.{numbered}
use Rattle.c_senses.specs.Right.{Right}
use Rattle.sense_cases.specs.Branches.{Branch, Node as Tree, Done, ◌▸◌, name, word, sign, unit_end, of_word, named}
use Rattle.sense_cases.specs.Branches.{counted, semicolon, open_brace, shut_brace, star, equals, plain, void_list}
use Rattle.sense_cases.specs.Branches.{ending, returns, source}
use Rattle.sense_cases.specs.Columns.{at}
use Rattle.sense_cases.specs.right_cases.Units.{id, node, external, Vectors, unit}

-- {int*q;}
abbrev pub members : Branch
members =
    Tree p_members
    (open_brace ▸
    (Tree p_member
    ((of_word word_int) ▸
    (Tree p_field ((Tree p_declarator (star ▸ name (codes "q") ▸ Done)) ▸ Done)) ▸ semicolon ▸ Done))
    ▸ shut_brace ▸ Done)

-- typedef struct s T;
abbrev pub typedef_declaration : Branch
typedef_declaration = Tree p_declaration (
    (Tree p_specs
    ((Tree p_storage (word word_typedef ▸ Done)) ▸
    (Tree p_type ((Tree p_struct (word word_struct ▸ name (codes "s") ▸ Done)) ▸ Done)) ▸ Done))
    ▸ (plain (codes "T"))
    ▸ ending
    ▸ Done)

-- static int n;
abbrev pub static_declaration : Branch
static_declaration = Tree p_declaration (
    (Tree p_specs
    ((Tree p_storage (word word_static ▸ Done)) ▸ (Tree p_type (word word_int ▸ Done)) ▸ Done))
    ▸
    (plain (codes "n")) ▸ ending ▸ Done)

-- {&n}
abbrev pub initialiser : Branch
initialiser = Tree p_init (
    open_brace
    ▸ (Tree p_items
    ((Tree p_item
    ((Tree p_init
    ((Tree p_assignment
    ((Tree p_unary (sign sign_ampersand ▸ (named (codes "n")) ▸ Done)) ▸ Done))
    ▸ Done))
    ▸ Done))
    ▸ Done))
    ▸ shut_brace
    ▸ Done)

abbrev pub tree : Branch
tree = Tree p_unit (
    (Tree p_external
    ((Tree p_specs
    ((Tree p_type ((Tree p_struct (word word_struct ▸ name (codes "s") ▸ members ▸ Done)) ▸ Done)) ▸
    Done))
    ▸ semicolon ▸ Done))
    ▸ (Tree p_external (
    (of_word word_int)
    ▸ (Tree p_declarator (name (codes "f") ▸ void_list ▸ Done))
    ▸ (Tree p_block (
    open_brace
    ▸ typedef_declaration
    ▸ static_declaration
    ▸ (Tree p_declaration
    ((Tree p_specs ((Tree p_type (name (codes "T") ▸ Done)) ▸ Done)) ▸ (plain (codes "v")) ▸
    (Tree p_rest (equals ▸ initialiser ▸ semicolon ▸ Done)) ▸ Done))
    ▸ (returns (counted (codes "0")))
    ▸ shut_brace
    ▸ Done))
    ▸ Done))
    ▸ unit_end
    ▸ Done)

-- types: int, a pointer to it, the structure, a function without parameters that gives an int, and void
abbrev pub types : Table
types = record {
  terms = Integer 4 4 true ∷ Pointer (id 0) ∷ Structure 0 ∷ Function (id 0) [] Fixed ∷ Void ∷ [];
  tags = 1;
  completed = record { tag = 0; members = record { name = Some (codes "q"); ty = id 1; bits = None } ∷ [] } ∷ [];
}

-- n, &n and the initialiser of v; 0 and its return; the body
abbrev pub nodes : List Node
nodes =
    node (Named 1) 30 0 []
    ∷ node AddressOf 29 1 (0 ∷ [])
    ∷ node (Initialise 2 ((MemberStep 0 ∷ []) ∷ [])) 28 4 (1 ∷ [])
    ∷ node (Number (pos 0)) 34 0 []
    ∷ node Return 33 4 (3 ∷ [])
    ∷ node (Block (2 ∷ [])) 15 4 (2 ∷ 4 ∷ [])
    ∷ []

abbrev pub f : Entity
f = external (codes "f") 11 3 FunctionBody (Some 5) None

-- the static object has its place for the whole run, and no initialiser
abbrev pub n : Entity
n = record (external (codes "n") 23 0 Static None (Some (at 30))) { linkage = Local; owner = Some 0 }

abbrev pub v : Entity
v = record (external (codes "v") 26 2 Automatic (Some 2) None) { linkage = Local; owner = Some 0 }

abbrev pub entities : List Entity
entities = f ∷ n ∷ v ∷ []

-- each unit with these parts is right for the tree where the tag has the number 0, whatever memory its vectors have
pub record HasParts (parts : Vectors) : Type 0 where
  pub keys : parts.keys.items ≡ Some (codes "struct s") ∷ []
  pub nodes_are : parts.nodes.items ≡ nodes
  pub entities_are : parts.entities.items ≡ entities

abbrev pub LocalsRight : Type 0
LocalsRight =
    (called : List ℕ) (parts : Vectors)
    → HasParts parts
    → Right (numbered (λ tag. 0) (source tree)) called (unit called types parts)
