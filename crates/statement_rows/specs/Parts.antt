-- What the parts of declarations bring.
use Rattle.std.specs.Prelude.{ℕ, ◌≡◌, Bool, ◌&&◌, ◌||◌, is_some, List, [], ◌∷◌, Option, Some, None, map}
use Rattle.std.specs.Prelude.{if◌then◌else◌}
use Rattle.c_grammar.specs.Productions.{p_external, p_declarator, p_declaration, p_block}
use Rattle.core_tree.specs.declared.node.Unit.{Unit}
use Rattle.std.specs.Borrow.{Bor}
use Rattle.c_consts.specs.Core.{Core}
use Rattle.core_nodes.specs.Standing.{core_at}
use Rattle.c_senses.specs.Tree.{Source, is_a, child_of}
use Rattle.c_senses.specs.World.{World}
use Rattle.c_grammar.specs.Words.{word_extern, word_static}
use Rattle.c_senses.specs.Entities.{is_parameter, is_at_file, has_storage}
use Rattle.c_senses.specs.Sense.{Sense, IsDeclarator, IsRun, IsInitial}
use Rattle.c_senses.specs.Statements.{automatic_name, objects_declared, runs_initialiser}

-- the name of a declarator, if a sense is one
abbrev pub name_in : Sense → Option ℕ
name_in x = elim x [ IsDeclarator name ds ↦ name | _ ↦ None ]

-- what a declaration runs, if a sense is that
abbrev pub run_in_sense : Sense → Option (List Core)
run_in_sense x = elim x [ IsRun cores ↦ Some cores | _ ↦ None ]

-- the core tree of an initialiser, if a sense is one
abbrev pub initial_in : Sense → Option Core
initial_in x = elim x [ IsInitial c n ↦ Some c | _ ↦ None ]

abbrev pub RunSeen : Unit → Option (Bor (List ℕ)) → Option (List Core) → Type 0
RunSeen u None run = run ≡ None
RunSeen u (Some nodes) run = run ≡ Some (map (core_at u) nodes.now)

-- a function definition
abbrev pub is_definition : Source → ℕ → Bool
is_definition s p = is_a s p_external p && is_some (child_of s p_block p)

-- what a leaf declares is a parameter, or stands at file scope, or has a word for storage with which it isn't
-- automatic
abbrev pub is_placed : Source → (ℕ → Sense) → ℕ → Bool
is_placed s sense leaf =
    is_parameter s sense leaf
    || (is_at_file s sense leaf || (has_storage s sense word_static leaf || has_storage s sense word_extern leaf))

module _ (w : World) (s : Source) (sense : ℕ → Sense) where
  -- the automatic object that a node declares, if it is a declarator that does
  abbrev pub object_at : ℕ → List ℕ
  object_at c = if is_a s p_declarator c then automatic_name w s sense (sense c) else []

  -- those that a node declares, if it is a declaration
  abbrev pub objects_at : ℕ → List ℕ
  objects_at c = if is_a s p_declaration c then objects_declared w s sense c else []

  -- the initialiser that runs at a node, if it is one of an automatic object
  abbrev pub initial_at : ℕ → List Core
  initial_at c = elim (sense c) [ IsInitial x n ↦ if runs_initialiser w s sense c then x ∷ [] else [] | _ ↦ [] ]
