-- Statements by the keyword with which they begin, as the code asks for them.
use Rattle.std.specs.Prelude.{ℕ, ◌==◌, List, if◌then◌else◌}
use Rattle.pta_base.specs.declared.kind.Kind.TheVariants.{Operand}
use Rattle.c_grammar.specs.Words.{word_if, word_switch, word_while, word_do, word_for, word_goto, word_continue}
use Rattle.c_grammar.specs.Words.{word_break, word_return}
use Rattle.c_consts.specs.Core.{Core}
use Rattle.c_senses.specs.Tree.{Source}
use Rattle.c_senses.specs.Given.{Given, Refuses, ◌>>=◌}
use Rattle.c_senses.specs.World.{World}
use Rattle.c_senses.specs.Sense.{Sense, fits}
use Rattle.c_senses.specs.Statements.{if_row, switch_row, while_row, do_row, for_row, goto_row, continue_row}
use Rattle.c_senses.specs.Statements.{break_row, return_row, expression_in}

-- a core tree as the sense of its node
abbrev pub sensed : Given Core → Given Sense
sensed g = g >>= fits

module _ (w : World) (s : Source) (sense : ℕ → Sense) (at : ℕ) (children : List ℕ) where
  -- a jump, or no statement
  abbrev pub of_jump : ℕ → Given Core
  of_jump word =
      if word == word_goto then goto_row w s sense at children
      else if word == word_continue then continue_row w s sense at
      else if word == word_break then break_row w s sense at
      else if word == word_return then return_row w s sense at (expression_in w s sense children)
      else Refuses Operand at

  -- a selection or a loop, or one of those
  abbrev pub of_condition : ℕ → Given Core
  of_condition word =
      if word == word_if then if_row w s sense at children
      else if word == word_switch then switch_row w s sense at children
      else if word == word_while then while_row w s sense at children
      else if word == word_do then do_row w s sense at children
      else if word == word_for then for_row w s sense at children
      else of_jump word
