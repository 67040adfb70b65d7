-- What declarators make of types is within the limits of each world behind the one in which they were asked.
use Rattle.std.proofs.Common.{◌≡◌, ℕ, Bool, true, List, [], ◌∷◌, ◌++◌, Option, Some, None, refl, sym, ap, ◌∙◌}
use Rattle.std.specs.Prelude.{⊤, is_some}
use mathlib.Core.List.{reverse_aux}
use Rattle.std.proofs.lemmas.Bool.{and_from}
use Rattle.c_types.specs.Trees.{Ctype, ArrayOf, FunctionFrom}
use Rattle.c_types.specs.Layout.{Extent, repeated}
use Rattle.c_types.specs.Table.{size_below}
use Rattle.c_senses.specs.World.{World, extent, has_size}
use Rattle.c_senses.specs.Limits.{is_small, within_limits, all_within_limits}
use Rattle.c_senses.specs.Declarators.{derived_once, derived, may_derive, all_derive, adjusted}
use Rattle.c_senses.specs.Sense.{Derivation, Pointing, Elements, Returning, Sense, IsType, IsSpecified, IsDeclarator, IsDerivation, IsParameter}
use Rattle.parsed_tree_laws.specs.sense_laws.Laws.{Grows}
use Rattle.parsed_tree_laws.proofs.sense_laws.Giving.{and_left, and_right}

-- the types of parameters, in one derivation and in several
abbrev pub step_within : World → Derivation → Bool
step_within w (Returning parameters form) = all_within_limits w parameters
step_within w d = true

abbrev pub StepsWithin : World → List Derivation → Type 0
StepsWithin w [] = ⊤
StepsWithin w (d ∷ ds) = (step_within w d ≡ true) × StepsWithin w ds

-- the types of a sense
abbrev pub Within : World → Sense → Type 0
Within w (IsType t) = within_limits w t ≡ true
Within w (IsSpecified x) = within_limits w x.type ≡ true
Within w (IsDeclarator name ds) = StepsWithin w ds
Within w (IsDerivation d) = step_within w d ≡ true
Within w (IsParameter p) = within_limits w p.type ≡ true
Within w x = ⊤

pub steps_append : (w : World) (xs ys : List Derivation) → StepsWithin w xs → StepsWithin w ys → StepsWithin w (xs ++ ys)
steps_append w [] ys h k = k
steps_append w (x ∷ xs) ys h k = (h.0, steps_append w xs ys h.1 k)

pub steps_reversed : (w : World) (xs ys : List Derivation) → StepsWithin w xs → StepsWithin w ys → StepsWithin w (reverse_aux xs ys)
steps_reversed w [] ys h k = k
steps_reversed w (x ∷ xs) ys h k = steps_reversed w xs (x ∷ ys) h.1 (h.0, k)

pub adjusted_within : (w : World) (t : Ctype) → within_limits w t ≡ true → within_limits w (adjusted t) ≡ true
adjusted_within w (ArrayOf of n) h = and_right (is_small (extent w (ArrayOf of n))) (within_limits w of) h
adjusted_within w (FunctionFrom r ps form) h = h
adjusted_within w t h = h

size_some : (o : Option Extent) → is_some (size_below o) ≡ true → is_some o ≡ true
size_some None e = e
size_some (Some x) e = refl

-- of the types that are made on the way the last one was asked for alone
once_inner : (w : World) (d : Derivation) (t : Ctype) → within_limits w (derived_once d t) ≡ true → within_limits w t ≡ true
once_inner w Pointing t h = h
once_inner w (Elements n) t h = and_right (is_small (extent w (ArrayOf t n))) (within_limits w t) h
once_inner w (Returning ps form) t h = and_left (within_limits w t) (all_within_limits w ps) h

inner_within : (w : World) (ds : List Derivation) (t : Ctype) → within_limits w (derived ds t) ≡ true → within_limits w t ≡ true
inner_within w [] t h = h
inner_within w (d ∷ ds) t h = once_inner w d t (inner_within w ds (derived_once d t) h)

module _ (old new : World) (grows : Grows old new) where
  array_small : (of : Ctype) (n : Option ℕ) → has_size old of ≡ true → is_small (extent old (ArrayOf of n)) ≡ true → is_small (extent new (ArrayOf of n)) ≡ true
  array_small of None size small = refl
  array_small of (Some n) size small = by (extent old of) refl (size_some (extent old of) size)
    where
      by : (o : Option Extent) → extent old of ≡ o → is_some o ≡ true → is_small (extent new (ArrayOf of (Some n))) ≡ true
      by None e h = cc
      by (Some x) e h = ap (λ (o : Option Extent). is_small (repeated n o)) (grows.extents of x e ∙ sym e) ∙ small

  once_within : (d : Derivation) (t : Ctype) → may_derive old d t ≡ true → within_limits old (derived_once d t) ≡ true → step_within new d ≡ true → within_limits new t ≡ true → within_limits new (derived_once d t) ≡ true
  once_within Pointing t m h p k = k
  once_within (Elements n) t m h p k =
      and_from (is_small (extent new (ArrayOf t n))) (within_limits new t)
      (array_small t n (and_left (has_size old t) _ m) (and_left (is_small (extent old (ArrayOf t n))) (within_limits old t) h)) k
  once_within (Returning ps form) t m h p k = and_from (within_limits new t) (all_within_limits new ps) k p

  pub derived_within : (ds : List Derivation) (t : Ctype) → all_derive old ds t ≡ true → within_limits old (derived ds t) ≡ true → StepsWithin new ds → within_limits new t ≡ true → within_limits new (derived ds t) ≡ true
  derived_within [] t a h ps k = k
  derived_within (d ∷ ds) t a h ps k =
      derived_within ds (derived_once d t) (and_right (may_derive old d t) (all_derive old ds (derived_once d t)) a) h ps.1
      (once_within d t (and_left (may_derive old d t) (all_derive old ds (derived_once d t)) a) (inner_within old ds (derived_once d t) h) ps.0 k)
