-- The values of enumerators.
use Rattle.std.proofs.Common.{◌≡◌, ℤ, Option, Some, None, refl, sym, ap}
use Rattle.c_senses.specs.World.{Meaning, Value}
use Rattle.c_senses.specs.Sense.{Sense, Nothing, IsCore, IsType, IsSpecified, IsDeclarator, IsDerivation, IsParameter, IsMembers, IsValue, IsRun, IsInitial}
use Rattle.c_results.specs.Parts.{number_in}

abbrev pub meant : Sense → Option Meaning
meant x = elim x [ IsValue n ↦ Some (Value n) | _ ↦ None ]

pub value_seen : (x : Sense) (n : ℤ) → number_in x ≡ Some n → Some (Value n) ≡ meant x
value_seen Nothing n e = absurd (cc)
value_seen (IsCore a) n e = absurd (cc)
value_seen (IsType a) n e = absurd (cc)
value_seen (IsSpecified a) n e = absurd (cc)
value_seen (IsDeclarator a b) n e = absurd (cc)
value_seen (IsDerivation a) n e = absurd (cc)
value_seen (IsParameter a) n e = absurd (cc)
value_seen (IsMembers a) n e = absurd (cc)
value_seen (IsValue m) n e = let i : m ≡ n = cc in ap (λ (x : ℤ). Some (Value x)) (sym i)
value_seen (IsRun a) n e = absurd (cc)
value_seen (IsInitial a b) n e = absurd (cc)

pub no_value : (x : Sense) → number_in x ≡ None → ◌≡◌ {A = Option Meaning} None (meant x)
no_value Nothing e = refl
no_value (IsCore a) e = refl
no_value (IsType a) e = refl
no_value (IsSpecified a) e = refl
no_value (IsDeclarator a b) e = refl
no_value (IsDerivation a) e = refl
no_value (IsParameter a) e = refl
no_value (IsMembers a) e = refl
no_value (IsValue m) e = absurd (cc)
no_value (IsRun a) e = refl
no_value (IsInitial a b) e = refl
