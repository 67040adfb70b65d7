-- The nodes of a tree's list.
use Rattle.std.specs.Prelude.{ℕ, Bool, ◌&&◌, eqb, nat_lt, List, [], ◌∷◌, Option, Some, None, slice_get}
use Rattle.std.specs.Prelude.{if◌then◌else◌}
use Rattle.c_grammar.specs.declared.trees.SyntaxNode.{SyntaxNode}
pub use Rattle.c_senses.specs.Tree.{production_of, children_of}

-- a node of that production that stands before another
abbrev pub is_before : List SyntaxNode → (production before i : ℕ) → Bool
is_before nodes production before i = nat_lt i before && eqb (production_of (slice_get nodes i)) production

abbrev pub first_such : (ℕ → Bool) → List ℕ → Option ℕ
first_such test [] = None
first_such test (x ∷ xs) = if test x then Some x else first_such test xs
