-- Units that are right for texts of distinct names can be linked, initialise only objects that they define, store functions as such, define
-- those with () without parameters, and have tables that were made.
use Rattle.std.proofs.Common.{◌≡◌, ◌∙◌, ℕ, zero, suc, ◌+◌, ◌<◌, List, [], ◌∷◌, Option, Some, None, map, length, arith, refl, sym, ap, subst, inl, inr, slice_get}
use Rattle.std.proofs.lemmas.Bool.{cases_order}
use Rattle.core_tree.specs.declared.node.Unit.{Unit}
use Rattle.core_tree.specs.Typed.{trees_of}
use Rattle.core_tree.specs.Valid.{ValidUnit}
use Rattle.unit_link.specs.Needs.{AreLinkable, IsNumbered}
use Rattle.c_senses.specs.Names.{source_of, numbered}
use Rattle.command_line.specs.Distinct.{AreDistinct}
use Rattle.link_model.specs.filled_units.Filled.{IsFilled, AreFilled}
use Rattle.linked_laws.specs.alike_laws.Plain.{DefinesPlain, DefinePlain}
use Rattle.linked_laws.specs.merged_laws.Merged.{AreTables}
use Rattle.parsed_tree_laws.proofs.placed_laws.Whole.{units_filled}
use Rattle.covered_runs.proofs.covered_programs.passed.valid_unit_laws.plain_functions.Whole.{functions_plain}
use Rattle.covered_runs.specs.covered_programs.passed.valid_unit_laws.object_size_laws.function_storage.Stored.{StoresFunctions}
use Rattle.covered_runs.proofs.covered_programs.passed.valid_unit_laws.object_size_laws.function_storage.Whole.{functions_stored}
use Rattle.unit_report.proofs.unit_system.Numbering.{right_numbered}
use Rattle.text_units.specs.Answers.{NamedText}
use Rattle.text_units.specs.Lowered.{IsRightText, AreRightTexts}
use Rattle.text_units.proofs.Lowering.{cut_tokens}
use Rattle.covered_runs.specs.covered_programs.served_worlds.Stored.{StoreFunctions}

some_one : {X : Type 0} → {x y : X} → ◌≡◌ {A = Option X} (Some x) (Some y) → x ≡ y
some_one h = cc

none_some : {X : Type 0} → {x : X} → ◌≡◌ {A = Option X} None (Some x) → ⊥
none_some h = cc

within : (names : List (List ℕ)) (at : ℕ) (name : List ℕ) → slice_get names at ≡ Some name → at < length names
within [] at name is = absurd (none_some is)
within (n ∷ names) zero name is = omega arith
within (n ∷ names) (suc at) name is = let below = within names at name is in omega arith

-- a unit at a position, and the text for which it is right
pub record IsUnitOf (first : ℕ) (texts : List NamedText) (at : ℕ) (x : Unit) : Type 0 where
  pub text : NamedText
  pub stands : slice_get (map (λ (t : NamedText). t.0) texts) at ≡ Some text.0
  pub right : IsRightText (first + at) text x

pub unit_of : (first : ℕ) (texts : List NamedText) (units : List Unit) (at : ℕ) (x : Unit) → AreRightTexts first texts units → slice_get units at ≡ Some x → IsUnitOf first texts at x
unit_of first texts [] at x right is = absurd (none_some is)
unit_of first [] (u ∷ us) at x right is = absurd right
unit_of first (text ∷ texts) (u ∷ us) zero x right is =
    let P : ℕ → Type 0 = λ n. IsRightText n text x in
    let Q : Unit → Type 0 = λ v. IsRightText first text v in
    let e : first ≡ first + 0 = omega arith in
    record { text = text; stands = refl; right = subst P e (subst Q (some_one is) right.0) }
unit_of first (text ∷ texts) (u ∷ us) (suc at) x right is =
    let rest = unit_of (first + 1) texts us at x right.1 is in
    let P : ℕ → Type 0 = λ n. IsRightText n rest.text x in
    let e : first + 1 + at ≡ first + suc at = omega arith in
    record { text = rest.text; stands = rest.stands; right = subst P e rest.right }

valid_of : (number : ℕ) (text : NamedText) (x : Unit) → IsRightText number text x → ValidUnit x
valid_of number text x h = h.right.valid

numbered_of : (number : ℕ) (text : NamedText) (x : Unit) → IsRightText number text x → IsNumbered number x
unfolding source_of
numbered_of number text x h = right_numbered (numbered h.tag_number (source_of h.tokens h.tree)) text.0 x number h.parsed.tree_is.1 h.right

filled_of : (number : ℕ) (text : NamedText) (x : Unit) → IsRightText number text x → IsFilled x
filled_of number text x h = units_filled h.tokens number h.tree h.tag_number text.0 x h.parsed.tree_is h.right

stored_of : (number : ℕ) (text : NamedText) (x : Unit) → IsRightText number text x → StoresFunctions (trees_of x)
stored_of number text x h = functions_stored h.tokens number h.tree h.tag_number text.0 x (cut_tokens number text h.tokens h.tree h.parsed) h.parsed.tree_is h.right

plain_of : (number : ℕ) (text : NamedText) (x : Unit) → IsRightText number text x → DefinesPlain (trees_of x)
plain_of number text x h = functions_plain h.tokens number h.tree h.tag_number text.0 x (cut_tokens number text h.tokens h.tree h.parsed) h.parsed.tree_is h.right

pub plain : (texts : List NamedText) (units : List Unit) → AreRightTexts 0 texts units → DefinePlain units
plain texts units right u x at = let own = unit_of 0 texts units u x right at in plain_of (0 + u) own.text x own.right

pub tables : (texts : List NamedText) (units : List Unit) → AreRightTexts 0 texts units → AreTables units
tables texts units right = record {
  made = λ u x at. let own = unit_of 0 texts units u x right at in own.right.tags.made;
  named = λ u x at. let own = unit_of 0 texts units u x right at in own.right.tags.named;
}

pub stored : (texts : List NamedText) (units : List Unit) → AreRightTexts 0 texts units → StoreFunctions units
stored texts units right = record { each = λ u x at. let own = unit_of 0 texts units u x right at in stored_of (0 + u) own.text x own.right }

pub filled : (texts : List NamedText) (units : List Unit) → AreRightTexts 0 texts units → AreFilled units
filled texts units right = record { each = λ u x at. let own = unit_of 0 texts units u x right at in filled_of (0 + u) own.text x own.right }

pub linkable : (texts : List NamedText) (units : List Unit) → AreDistinct (map (λ (t : NamedText). t.0) texts) → AreRightTexts 0 texts units → AreLinkable units
linkable texts units distinct right = record {
  valid = λ u x at. let own = unit_of 0 texts units u x right at in valid_of (0 + u) own.text x own.right;
  numbered = λ u x at.
      let own = unit_of 0 texts units u x right at in
      let P : ℕ → Type 0 = λ n. IsNumbered n x in
      let e : 0 + u ≡ u = omega arith in
      subst P e (numbered_of (0 + u) own.text x own.right);
  distinct = λ u v x y at there same.
      let a = unit_of 0 texts units u x right at in
      let b = unit_of 0 texts units v y right there in
      let N = map (λ (t : NamedText). t.0) texts in
      let named : x.name ≡ a.text.0 = a.right.right.named in
      let other : y.name ≡ b.text.0 = b.right.right.named in
      let e : slice_get N u ≡ slice_get N v = a.stands ∙ ap (λ (n : List ℕ). Some n) (sym named ∙ same ∙ other) ∙ sym b.stands in
      elim (cases_order u v) [
        | inl one ↦ one
        | inr (inl less) ↦ absurd (distinct u v less (within N v b.text.0 b.stands) e)
        | inr (inr more) ↦ absurd (distinct v u more (within N u a.text.0 a.stands) (sym e))
      ];
}
