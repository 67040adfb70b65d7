-- The bytes that the parts of a location's name are made of.
use Rattle.std.specs.Prelude.{ℕ, nat_eq, ◌&&◌, Bool, true, false, not, List, [], ◌∷◌, ◌≡◌, ⊤}
use Rattle.std.specs.List.{list_all}

-- neither ':' nor '@', which stand between the parts of names
abbrev pub is_head : ℕ → Bool
is_head c = not (nat_eq c 58) && not (nat_eq c 64)

-- a byte of a unit's name: no ':', no '@' and no '*'
abbrev pub is_unit_byte : ℕ → Bool
is_unit_byte c = is_head c && not (nat_eq c 42)

-- a byte of an object's own name: no ':', no '@', no '.' and no '/'
abbrev pub is_base_byte : ℕ → Bool
is_base_byte c = is_head c && (not (nat_eq c 46) && not (nat_eq c 47))

-- a byte of an identifier: none of these, no '#' and no '<'
abbrev pub is_letter : ℕ → Bool
is_letter c = is_base_byte c && (not (nat_eq c 35) && not (nat_eq c 60))

-- a name of such bytes
abbrev pub IsMadeOf : (ℕ → Bool) → List ℕ → Type 0
IsMadeOf test name = list_all test name ≡ true

-- an identifier has a byte at least
abbrev pub IsWord : List ℕ → Type 0
IsWord [] = ⊥
IsWord (c ∷ rest) = IsMadeOf is_letter (c ∷ rest)

-- the text is empty, or its first byte fails the test
abbrev pub Stops : (ℕ → Bool) → List ℕ → Type 0
Stops test [] = ⊤
Stops test (c ∷ rest) = test c ≡ false

-- what stands behind the name of a whole: nothing, or a dot and more, with neither ':' nor '@'
abbrev pub Begins : List ℕ → Type 0
Begins [] = ⊤
Begins (c ∷ rest) = c ≡ 46

pub record IsSuffix (text : List ℕ) : Type 0 where
  pub dot : Begins text
  pub bytes : IsMadeOf is_head text
