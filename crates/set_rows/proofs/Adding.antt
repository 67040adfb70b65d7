-- Facts on `OnlyAdded`, for callers.
use Rattle.std.proofs.Common.{◌≡◌, ℕ, [], ◌∷◌, ◌++◌, length-append, ◌<◌, List, length, get_or, set, bit_or, refl, sym, ap, ◌∙◌, subst, inl, inr, arith, get_or-set_same, get_or-set_other}
use Rattle.std.proofs.lemmas.Bool.{cases_lt}
use Rattle.std.proofs.Math.ListN.{get_or-append}
use Rattle.std.proofs.Math.Seq.{get_or-append_seam}
use Rattle.sol_model.specs.Families.{IsInside}
use Rattle.sol_model.specs.Systems.{width_of}
use Rattle.sol_model.specs.Words.{Within}
use Rattle.set_rows.specs.declared.view.View.{View}
use Rattle.set_rows.specs.Views.{OnlyAdded, looked, added, known}
use Rattle.sol_model.proofs.Words.{within_set, within_or, words_inside}

pub nothing_added : (v : View) → OnlyAdded v v
nothing_added v = record { system = refl; ors = omega arith; shuts = refl; reads = refl; last = refl; knows = refl; part = refl; halvings = refl; seen = λ i k h. h }

pub added_twice : (u v w : View) → OnlyAdded u v → OnlyAdded v w → OnlyAdded u w
added_twice u v w a b = record {
  system = b.system ∙ a.system;
  ors = (let x = a.ors in let y = b.ors in omega arith);
  shuts = b.shuts ∙ a.shuts;
  reads = b.reads ∙ a.reads;
  last = b.last ∙ a.last;
  knows = b.knows ∙ a.knows;
  part = b.part ∙ a.part;
  halvings = b.halvings ∙ a.halvings;
  seen = λ i k h. b.seen i k (a.seen i k h);
}

pub look_only_adds : (v : View) (word found : ℕ) → word < length v.seen → Within (get_or v.seen word 0) found → OnlyAdded v (looked v word found)
look_only_adds v word found lt w = record { system = refl; ors = omega arith; shuts = refl; reads = refl; last = refl; knows = refl; part = refl; halvings = refl; seen = within_set v.seen word found lt w }

pub add_only_adds : (v : View) (word mask found : ℕ) → word < length v.seen → Within (get_or v.seen word 0) found → OnlyAdded v (added v word mask found)
add_only_adds v word mask found lt w = record { system = refl; ors = omega arith; shuts = refl; reads = refl; last = refl; knows = refl; part = refl; halvings = refl; seen = within_set v.seen word (bit_or found mask) lt (λ k h. within_or found mask k (w k h)) }

-- what was known is known
pub known_more : (v w : View) → OnlyAdded v w → IsInside (known v) (known w)
known_more v w o = subst (λ (n : ℕ). IsInside (known v) (Rattle.sol_model.specs.Families.shown n w.seen)) (ap width_of (sym o.system)) (words_inside (width_of v.system) v.seen w.seen o.seen)

pub same_more : (seen words : List ℕ) (word found : ℕ) → ((i : ℕ) → i < length words → get_or seen i 0 ≡ get_or words i 0) → length words ≡ word → word < length seen
    → (i : ℕ) → i < length (words ++ found ∷ []) → get_or (set seen word found) i 0 ≡ get_or (words ++ found ∷ []) i 0
same_more seen words word found same n there i lt = elim (cases_lt i (length words)) [
  | inl below ↦ get_or-set_other seen word i found 0 (λ e. omega arith) ∙ same i below ∙ sym (get_or-append words (found ∷ []) 0 i below)
  | inr above ↦ let e : i ≡ length words = (let l = length-append words (found ∷ []) in omega arith) in
      ap (λ (j : ℕ). get_or (set seen word found) j 0) (e ∙ n) ∙ get_or-set_same seen word found 0 there ∙ sym (get_or-append_seam words found [] 0) ∙ ap (λ (j : ℕ). get_or (words ++ found ∷ []) j 0) (sym e)
]
