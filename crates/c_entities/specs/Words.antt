-- The words that stand before a declared name, as they have been made.
use Rattle.std.specs.Prelude.{ℕ, ◌≡◌, Bool, true, false, List, [], ◌∷◌, Option, Some, None}
use Rattle.std.specs.Borrow.{Bor}
use Rattle.core_nodes.specs.passed.c_senses.Sense.{Sense, IsSpecified, IsInitial, Specified}

-- the words for storage, and those for functions, of specifiers
abbrev pub storage_in : Option Specified → Option (List ℕ)
storage_in None = None
storage_in (Some x) = Some x.storage

abbrev pub functions_in : Option Specified → Option (List ℕ)
functions_in None = None
functions_in (Some x) = Some x.functions

abbrev pub specified_in : Sense → Option Specified
specified_in sense = elim sense [ IsSpecified x ↦ Some x | _ ↦ None ]

-- no words, and some
abbrev pub is_nothing : List ℕ → Bool
is_nothing words = elim words [ [] ↦ true | word ∷ rest ↦ false ]

abbrev pub is_something : List ℕ → Bool
is_something words = elim words [ [] ↦ false | word ∷ rest ↦ true ]

-- the number of elements that an initialiser gives to an array
abbrev pub length_in : Sense → Option ℕ
length_in sense = elim sense [ IsInitial c n ↦ n | _ ↦ None ]

-- the words that a call answers are these
abbrev pub WordsSeen : Option (Bor (List ℕ)) → Option (List ℕ) → Type 0
WordsSeen None words = words ≡ None
WordsSeen (Some found) words = words ≡ Some found.now
