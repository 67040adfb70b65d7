-- What initialisers make of arrays without a length, which have as many elements as are wanted: here eight at most
-- (C11 6.7.9p22).
use Rattle.std.specs.Prelude.{◌≡◌, ℕ, true, false, List, [], ◌∷◌, Some, None}
use Rattle.c_types.specs.declared.term.PathStep.TheVariants.{Index}
use Rattle.c_types.specs.Trees.{ArrayOf}
use Rattle.core_tree.specs.Rows.{int, character}
use Rattle.c_inits.specs.Shapes.{Shape, Scalar, Elements}
use Rattle.c_inits.specs.Syntax.{Init, Value, Braces, NoItems, Item, AtIndex}
use Rattle.c_inits.specs.Initial.{Placed, Outcome, Places, NoPlace, initial, lasting, length_given}

abbrev pub open_ints : Shape
open_ints = Elements (ArrayOf int None) (Scalar int) 8

abbrev pub open_characters : Shape
open_characters = Elements (ArrayOf character None) (Scalar character) 8

-- the values that are left, and the length; nothing where a node has no place
pub data Filled : Type 0 where
  With : (values : List Placed) (length : ℕ) → Filled
  Without : (node : ℕ) → Filled

abbrev pub filled : Outcome → Filled
filled (Places actions) = With (lasting [] actions) (length_given actions)
filled (NoPlace node) = Without node

abbrev pub at_index : ℕ → ℕ → Placed
at_index k node = record { path = Index k ∷ []; node = node; character = None }

abbrev pub character_at : ℕ → ℕ → Placed
character_at k node = record { path = Index k ∷ []; node = node; character = Some k }

abbrev pub value : ℕ → Init
value node = Value node int false

-- int a[] = {[2] = 5, 6}, int b[] = {[5] = 1, [0] = 2}, int c[] = {}, char d[] = "ab", char e[] = {"ab"} and int
-- f[] = {[0] = 1, 2, [1] = 3}
pub record OpenArraysStand : Type 0 where
  pub on_from_designator : filled
      (initial open_ints (Braces 9 (Item (AtIndex 1 2 ∷ []) (value 2) (Item [] (value 3) NoItems))))
      ≡ With (at_index 2 2 ∷ at_index 3 3 ∷ []) 4
  pub back_to_first : filled
      (initial open_ints
      (Braces 9 (Item (AtIndex 1 5 ∷ []) (value 2) (Item (AtIndex 3 0 ∷ []) (value 4) NoItems))))
      ≡ With (at_index 5 2 ∷ at_index 0 4 ∷ []) 6
  pub empty : filled (initial open_ints (Braces 9 NoItems)) ≡ With [] 0
  pub string : filled (initial open_characters (Value 1 (ArrayOf character (Some 3)) true))
      ≡ With (character_at 0 1 ∷ character_at 1 1 ∷ character_at 2 1 ∷ []) 3
  pub string_in_braces : filled
      (initial open_characters (Braces 9 (Item [] (Value 1 (ArrayOf character (Some 3)) true) NoItems)))
      ≡ With (character_at 0 1 ∷ character_at 1 1 ∷ character_at 2 1 ∷ []) 3
  pub replaced : filled
      (initial open_ints
      (Braces 9
      (Item (AtIndex 1 0 ∷ []) (value 2)
      (Item [] (value 3) (Item (AtIndex 4 1 ∷ []) (value 5) NoItems)))))
      ≡ With (at_index 0 2 ∷ at_index 1 5 ∷ []) 2
  pub past_limit : filled (initial open_ints (Braces 9 (Item (AtIndex 1 8 ∷ []) (value 2) NoItems))) ≡ Without 1
