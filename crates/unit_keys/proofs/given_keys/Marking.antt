-- Nodes by which tags are known, one specifier more at a time.
use Rattle.std.proofs.Common.{◌≡◌, ◌∙◌, ℕ, ◌+◌, ◌<◌, Bool, true, false, List, length, get_or, inl, inr, refl, sym, ap, ◌≢◌}
use Rattle.std.specs.Prelude.{◌||◌, ◌&&◌, ◌==◌, slice_set}
use Rattle.std.proofs.Common.{get_or-set_other, get_or-set_same}
use Rattle.std.proofs.lemmas.Bool.Decides.{eqb_tells}
use Rattle.c_grammar.specs.Productions.{p_struct}
use Rattle.c_senses.specs.Tree.{Source, is_a}
use Rattle.c_senses.specs.Tags.{tag_declared}
use Rattle.unit_keys.proofs.Lists.{any_more}
use Rattle.unit_keys.specs.given_keys.Flags.{is_tag_below, FlagsBelow}

or_false : (a : Bool) → (a || false) ≡ a
or_false true = refl
or_false false = refl

or_true : (a : Bool) → (a || true) ≡ true
or_true true = refl
or_true false = refl

pub below_more : (s : Source) (n d : ℕ) → is_tag_below s (n + 1) d ≡ (is_tag_below s n d || (is_a s p_struct n && (tag_declared s n == d)))
below_more s n d = any_more (λ i. is_a s p_struct i && (tag_declared s i == d)) n

-- a node that is no such specifier
pub flags_same : (s : Source) (n : ℕ) (flags : List Bool) → is_a s p_struct n ≡ false → FlagsBelow s n flags → FlagsBelow s (n + 1) flags
flags_same s n flags e h = λ d.
    h d ∙ sym (below_more s n d ∙ (ap (λ (b : Bool). is_tag_below s n d || (b && (tag_declared s n == d))) e ∙ or_false (is_tag_below s n d)))

-- one specifier more
pub flags_more : (s : Source) (n declared : ℕ) (flags new : List Bool) → is_a s p_struct n ≡ true → declared ≡ tag_declared s n → declared < length flags → new ≡ slice_set flags declared true → FlagsBelow s n flags → FlagsBelow s (n + 1) new
flags_more s n declared flags new e ed lt en h = λ d.
    let one : is_tag_below s (n + 1) d ≡ (is_tag_below s n d || (declared == d)) =
    below_more s n d ∙ (ap (λ (b : Bool). is_tag_below s n d || (b && (tag_declared s n == d))) e ∙ ap (λ (k : ℕ). is_tag_below s n d || (k == d)) (sym ed)) in
    elim (eqb_tells declared d) [
      | inl p ↦
          let here : get_or (slice_set flags declared true) declared false ≡ true = rw get_or-set_same in
          ap (λ (l : List Bool). get_or l d false) en
          ∙ (ap (λ (k : ℕ). get_or (slice_set flags declared true) k false) (sym p.1)
          ∙ (here ∙ sym (one ∙ (ap (λ (b : Bool). is_tag_below s n d || b) p.0 ∙ or_true (is_tag_below s n d)))))
      | inr p ↦
          let ne : d ≢ declared = λ x. p.1 (sym x) in
          let there : get_or (slice_set flags declared true) d false ≡ get_or flags d false = rw get_or-set_other in
          ap (λ (l : List Bool). get_or l d false) en ∙ (there ∙ (h d ∙ sym (one ∙ (ap (λ (b : Bool). is_tag_below s n d || b) p.0 ∙ or_false (is_tag_below s n d)))))
    ]
