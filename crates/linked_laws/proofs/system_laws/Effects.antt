-- The effects of library functions name no argument 0 where that isn't one.
use Rattle.std.proofs.Common.{◌≡◌, ℕ, zero, suc, Bool, true, false, ◌&&◌, List, [], ◌∷◌, Some, None, refl}
use Rattle.std.specs.Prelude.{nat_lt}
use Rattle.std.specs.List.{All}
use Rattle.std.proofs.lemmas.Bool.{false≢true}
use Rattle.std.proofs.lemmas.List.Elements.{All-nil, All-cons}
use borrow.Author.Tests.{ltb-true}
use Rattle.pta_base.specs.declared.effect.Effect.{Effect}
use Rattle.pta_base.specs.declared.effect.Effect.TheVariants.{GivesArgument, StoresInto, CallsBack}
use Rattle.sol_model.specs.Systems.{IsEffectValid}
use Rattle.lib_summaries.specs.Table.{Row, rows, effects_among, effects_of}

is_valid : Effect → Bool
is_valid (GivesArgument k) = nat_lt 0 k
is_valid (StoresInto i j) = nat_lt 0 i && nat_lt 0 j
is_valid (CallsBack k None) = nat_lt 0 k
is_valid (CallsBack k (Some pair)) = nat_lt 0 k && (nat_lt 0 pair.0 && nat_lt 0 pair.1)
is_valid effect = true

left : (a b : Bool) → (a && b) ≡ true → a ≡ true
left true b e = refl
left false b e = absurd (false≢true e)

right : (a b : Bool) → (a && b) ≡ true → b ≡ true
right true b e = e
right false b e = absurd (false≢true e)

effect_valid : (e : Effect) → is_valid e ≡ true → IsEffectValid e
unfolding is_valid
effect_valid (GivesArgument k) h = ltb-true 0 k h
effect_valid (StoresInto i j) h = (ltb-true 0 i (left (nat_lt 0 i) (nat_lt 0 j) h), ltb-true 0 j (right (nat_lt 0 i) (nat_lt 0 j) h))
effect_valid (CallsBack k None) h = ltb-true 0 k h
effect_valid (CallsBack k (Some pair)) h =
    let rest = right (nat_lt 0 k) (nat_lt 0 pair.0 && nat_lt 0 pair.1) h in
    (ltb-true 0 k (left (nat_lt 0 k) (nat_lt 0 pair.0 && nat_lt 0 pair.1) h), ltb-true 0 pair.0 (left (nat_lt 0 pair.0) (nat_lt 0 pair.1) rest), ltb-true 0 pair.1 (right (nat_lt 0 pair.0) (nat_lt 0 pair.1) rest))
effect_valid e h = tt

all_valid : List Effect → Bool
all_valid [] = true
all_valid (e ∷ rest) = is_valid e && all_valid rest

effects_valid : (list : List Effect) → all_valid list ≡ true → All IsEffectValid list
unfolding all_valid
effects_valid [] h = All-nil IsEffectValid
effects_valid (e ∷ rest) h = All-cons IsEffectValid e rest (effect_valid e (left (is_valid e) (all_valid rest) h)) (effects_valid rest (right (is_valid e) (all_valid rest) h))

rows_valid : List Row → Bool
rows_valid [] = true
rows_valid (r ∷ rest) = all_valid r.effects && rows_valid rest

among_valid : (table : List Row) (n : ℕ) → rows_valid table ≡ true → All IsEffectValid (effects_among table n)
unfolding rows_valid
among_valid [] n h = All-nil IsEffectValid
among_valid (r ∷ rest) zero h = effects_valid r.effects (left (all_valid r.effects) (rows_valid rest) h)
among_valid (r ∷ rest) (suc n) h = among_valid rest n (right (all_valid r.effects) (rows_valid rest) h)

table_valid : rows_valid rows ≡ true
unfolding rows rows_valid all_valid is_valid
table_valid = refl

pub library_valid : (n : ℕ) → All IsEffectValid (effects_of n)
unfolding effects_of
library_valid n = among_valid rows n table_valid
