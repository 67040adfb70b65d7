-- Which tags get keys.
use Rattle.std.specs.Prelude.{ℕ, ◌≡◌, ◌<◌, Bool, true, false, ◌&&◌, List, Option, Some, None, slice_get}
use Rattle.std.specs.Prelude.{if◌then◌else◌}
use Rattle.std.specs.Str.{bytes_eq}
use Rattle.std.specs.Global.{Vec}
use Rattle.std.specs.BTreeMap.{BTreeMap}
use Rattle.c_senses.specs.Tree.{Source, any_where, numbers_from}
use Rattle.c_senses.specs.Right.{is_tag, key_of_tag, TagsDiffer}
use Rattle.c_senses.specs.Sense.{Sense}
use Rattle.unit_keys.specs.Words.{has_word}

abbrev pub is_key : Option (List ℕ) → List ℕ → Bool
is_key None key = false
is_key (Some other) key = bytes_eq other key

-- one of the tags before a node has a key
abbrev pub is_given : Source → (ℕ → Sense) → ℕ → List ℕ → Bool
is_given s sense d key = any_where (λ c. is_tag s c && is_key (key_of_tag s sense c) key) (numbers_from 0 d)

-- a key that isn't taken
abbrev pub untaken : (List ℕ → Bool) → Option (List ℕ) → Option (List ℕ)
untaken taken None = None
untaken taken (Some key) = if taken key then None else Some key

-- the key that a tag gets
abbrev pub own_key : Source → (ℕ → Sense) → ℕ → Option (List ℕ)
own_key s sense d = untaken (is_given s sense d) (key_of_tag s sense d)

-- tags have different numbers below a count
pub record AreBelow (s : Source) (count : ℕ) : Type 0 where
  pub below : (d : ℕ) → is_tag s d ≡ true → s.tag_number d < count
  pub differ : TagsDiffer s

-- each tag below a node has got its key
abbrev pub GotKeys : Source → (ℕ → Sense) → List (Option (List ℕ)) → ℕ → Type 0
GotKeys s sense keys count =
    (d : ℕ) → d < count → is_tag s d ≡ true → slice_get keys (s.tag_number d) ≡ Some (own_key s sense d)

-- each tag below a node has got its key, and these keys are given
pub record AreGiven (s : Source) (sense : ℕ → Sense) (keys : List (Option (List ℕ)))
    (given : BTreeMap (Vec ℕ) ℕ) (count : ℕ) : Type 0 where
  pub got : GotKeys s sense keys count
  pub words : (key : List ℕ) → has_word given key ≡ is_given s sense count key
