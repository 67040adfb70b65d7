-- What the nodes above a node are asked.
use Rattle.std.specs.Prelude.{ℕ, Bool, false, ◌&&◌, ◌||◌, Some, None, is_some}
use Rattle.c_grammar.specs.Productions.{p_external, p_rest, p_block}
use Rattle.c_grammar.specs.Words.{word_sizeof, word_alignof}
use Rattle.c_senses.specs.Tree.{Source, is_a, has_word, child_of, parent_of}
use Rattle.c_senses.specs.Sense.{Sense, Nothing}
use Rattle.c_senses.specs.Entities.{is_boundary}
use Rattle.name_places.specs.declared.levels.Level.{Level}
use Rattle.name_places.specs.declared.levels.Level.TheVariants.{Definition, Boundary}

-- no sense at all: for questions of which none asks
abbrev pub no_senses : ℕ → Sense
no_senses i = Nothing

-- a keyword that asks of an operand without evaluating it
abbrev pub asks : Source → ℕ → Bool
asks s c = has_word s word_sizeof c || has_word s word_alignof c

-- a node in what follows a declared name
abbrev pub is_in_rest : Source → ℕ → Bool
is_in_rest s i = elim (parent_of s i) [ None ↦ false | Some p ↦ is_a s p_rest p ]

-- the definition of a function
abbrev pub is_definition : Source → ℕ → Bool
is_definition s p = is_a s p_external p && is_some (child_of s p_block p)

abbrev pub level_seen : Source → Level → ℕ → Bool
level_seen s Definition = is_definition s
level_seen s Boundary = is_boundary s no_senses
