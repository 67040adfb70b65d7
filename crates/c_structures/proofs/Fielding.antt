-- Fields by their parts.
use Rattle.std.proofs.Common.{arith, ◌≡◌, ℕ, ◌≤◌, Bool, false, ◌&&◌, not, List, [], ◌∷◌, Option, Some, None, length, refl, sym, ap, ◌∙◌}
use Rattle.std.specs.Prelude.{nat_lt}
use Rattle.std.specs.Prelude.{ℤ, is_some, ◌==◌, if◌then◌else◌, IsTrue}
use Rattle.std.proofs.lemmas.Bool.Decides.{nat_tests}
use Rattle.pta_base.specs.declared.kind.Kind.{Kind}
use Rattle.c_types.specs.Made.{is_integer_size}
use Rattle.c_senses.specs.Constants.{constant_in}
use Rattle.pta_base.specs.declared.kind.Kind.TheVariants.{Operand}
use Rattle.c_types.specs.Trees.{Ctype}
use Rattle.std.specs.Prelude.{option_and_then}
use Rattle.c_grammar.specs.Productions.{p_specs, p_declarator, p_conditional}
use Rattle.c_senses.specs.Tree.{Source, child_of, parent_of}
use Rattle.c_senses.specs.Declarators.{specified_at, sense_of_child, derived}
use Rattle.c_results.specs.Parts.{declarator_in}
use Rattle.c_senses.specs.World.{World, has_size}
use Rattle.c_senses.specs.Given.{Given, Fits, Refuses, given_if, given_some, ◌>>=◌}
use Rattle.c_senses.specs.Sense.{Sense, IsMembers, IsDeclarator, Derivation}
use Rattle.c_senses.specs.Tags.{field_name, element_of, is_flexible_end, in_union, is_last_field, earlier_parts, is_new_name, may_be_member, named_field, field_typed, bits_in, width_fits, bit_field, field_of, field_row}
use Rattle.c_structures.specs.Fields.{ends_list}

module _ (w : World) (s : Source) (sense : ℕ → Sense) where
  abbrev fitted : ℕ → Option ℕ → Ctype → Bool → Given Sense
  fitted at leaf t b = given_if b Operand (named_field w s sense at leaf) (Fits (IsMembers (record { name = field_name w s sense leaf; type = t; bits = None } ∷ [])))

  pub plain_is : (at : ℕ) (leaf : Option ℕ) (t : Ctype) (b : Bool) → b ≡ (may_be_member w s sense at t && is_new_name w s sense at (field_name w s sense leaf)) → fitted at leaf t b ≡ field_typed w s sense at leaf t None
  plain_is at leaf t b e = ap (fitted at leaf t) e

  -- an array without a length
  abbrev ends : ℕ → Option Ctype → Bool
  ends at o = elim o [ None ↦ false | Some of ↦ has_size w of && (not (in_union w s sense at) && (is_last_field w s sense at && nat_lt 0 (length (earlier_parts w s sense at)))) ]

  pub flexible_none : (at : ℕ) (t : Ctype) → element_of w s sense t ≡ None → is_flexible_end w s sense at t ≡ false
  flexible_none at t e = ap (ends at) e

  pub flexible_some : (at : ℕ) (t of : Ctype) (a b has_earlier : Bool) → element_of w s sense t ≡ Some of → has_earlier ≡ nat_lt 0 (length (earlier_parts w s sense at)) → a ≡ has_size w of → b ≡ ends_list w s sense at has_earlier → (a && b) ≡ is_flexible_end w s sense at t
  flexible_some at t of a b has_earlier e h ea eb =
      ap (λ (x : Bool). x && b) ea
      ∙ (ap (λ (x : Bool). has_size w of && x) (eb ∙ ap (λ (x : Bool). not (in_union w s sense at) && (is_last_field w s sense at && x)) h) ∙ sym (ap (ends at) e))

  -- a field with a width
  width_named : (leaf : Option ℕ) → is_some (field_name w s sense leaf) ≡ is_some leaf
  width_named None = refl
  width_named (Some leaf) = refl

  abbrev by_width : ℕ → Option (List ℕ) → Ctype → Option ℕ → Given Sense
  by_width named name t o =
      given_some o Operand named >>= (λ k. if k == 0 then Fits (IsMembers []) else Fits (IsMembers (record { name = name; type = t; bits = Some k } ∷ [])))

  pub bit_member : (named most bits : ℕ) (leaf : Option ℕ) (t : Ctype) (n : ℤ) → Some bits ≡ width_fits most (is_some leaf) n → (bits ≡ 0 → ⊥) → Fits (IsMembers (record { name = field_name w s sense leaf; type = t; bits = Some bits } ∷ [])) ≡ bit_field w s sense named (field_name w s sense leaf) t n most
  bit_member named most bits leaf t n e some =
      let name = field_name w s sense leaf in
      let differs : (bits == 0) ≡ false = not_zero bits some in
      sym (ap (λ (b : Bool). if b then Fits (IsMembers []) else Fits (IsMembers (record { name = name; type = t; bits = Some bits } ∷ []))) differs)
      ∙ ap (by_width named name t) (e ∙ ap (λ (b : Bool). width_fits most b n) (sym (width_named leaf)))
    where
      not_zero : (k : ℕ) → (k ≡ 0 → ⊥) → (k == 0) ≡ false
      not_zero k h = grind (arith, nat_tests, h)

  -- what a field of a width is, by the bits of its type and the constant
  abbrev typed_by : ℕ → Option ℕ → Ctype → Option ℕ → Given ℤ → Bool → Given Sense
  typed_by at leaf t most constant fresh =
      given_some most Operand (named_field w s sense at leaf) >>= (λ k.
      constant >>= (λ n.
      given_if fresh Operand (named_field w s sense at leaf) (bit_field w s sense (named_field w s sense at leaf) (field_name w s sense leaf) t n k)))

  pub no_bits : (at : ℕ) (leaf : Option ℕ) (t : Ctype) (node : ℕ) → bits_in t ≡ None → field_typed w s sense at leaf t (Some node) ≡ Refuses Operand (named_field w s sense at leaf)
  no_bits at leaf t node e = ap (λ (o : Option ℕ). typed_by at leaf t o (constant_in w s at (sense node)) (is_new_name w s sense at (field_name w s sense leaf))) e

  pub with_width : (at : ℕ) (leaf : Option ℕ) (t : Ctype) (node most : ℕ) (n : ℤ) (fresh : Bool) → bits_in t ≡ Some most → constant_in w s at (sense node) ≡ Fits n → fresh ≡ is_new_name w s sense at (field_name w s sense leaf) →
      given_if fresh Operand (named_field w s sense at leaf) (bit_field w s sense (named_field w s sense at leaf) (field_name w s sense leaf) t n most) ≡ field_typed w s sense at leaf t (Some node)
  with_width at leaf t node most n fresh e constant same =
      let f = is_new_name w s sense at (field_name w s sense leaf) in
      ap (λ (b : Bool). given_if b Operand (named_field w s sense at leaf) (bit_field w s sense (named_field w s sense at leaf) (field_name w s sense leaf) t n most)) same
      ∙ (sym (ap (λ (g : Given ℤ). typed_by at leaf t (Some most) g f) constant) ∙ sym (ap (λ (o : Option ℕ). typed_by at leaf t o (constant_in w s at (sense node)) f) e))

  pub width_refused : (at : ℕ) (leaf : Option ℕ) (t : Ctype) (node most : ℕ) (kind : Kind) (at' : ℕ) → bits_in t ≡ Some most → constant_in w s at (sense node) ≡ Refuses kind at' → field_typed w s sense at leaf t (Some node) ≡ Refuses kind at'
  width_refused at leaf t node most kind at' e constant =
      let f = is_new_name w s sense at (field_name w s sense leaf) in
      ap (λ (o : Option ℕ). typed_by at leaf t o (constant_in w s at (sense node)) f) e ∙ ap (λ (g : Given ℤ). typed_by at leaf t (Some most) g f) constant

-- sizes of integers
pub size_small : (n : ℕ) → IsTrue (is_integer_size n) → n ≤ 8
size_small n h = grind (arith, nat_tests, h)

-- a field by its specifiers and its declarator
module _ (w : World) (s : Source) (sense : ℕ → Sense) where
  pub no_type : (at member : ℕ) → parent_of s at ≡ Some member → specified_at w s sense (child_of s p_specs member) ≡ None → field_row w s sense at ≡ Refuses Operand at
  no_type at member parent none =
      ap (λ (o : Option ℕ). field_of w s sense at (specified_at w s sense (option_and_then (child_of s p_specs) o)) (sense_of_child w s sense p_declarator at)) parent
      ∙ ap (λ (t : Option Ctype). field_of w s sense at t (sense_of_child w s sense p_declarator at)) none

  abbrev typed : ℕ → Option ℕ → Ctype → Given Sense
  typed at leaf t = field_typed w s sense at leaf t (child_of s p_conditional at)

  without_one : (at : ℕ) (t : Ctype) (x : Sense) → declarator_in x ≡ None → field_of w s sense at (Some t) x ≡ typed at None t
  without_one at t (IsDeclarator leaf ds) e = cc
  without_one at t x e = refl

  with_one : (at : ℕ) (t : Ctype) (x : Sense) (leaf : Option ℕ) (ds : List Derivation) → declarator_in x ≡ Some (leaf, ds) → field_of w s sense at (Some t) x ≡ typed at leaf (derived ds t)
  with_one at t (IsDeclarator name steps) leaf ds e =
      let pair : ◌≡◌ {A = Option ℕ × List Derivation} (name, steps) (leaf, ds) = cc in
      let one : name ≡ leaf = ap (λ (p : Option ℕ × List Derivation). p.0) pair in
      let other : steps ≡ ds = ap (λ (p : Option ℕ × List Derivation). p.1) pair in
      ap (λ (o : Option ℕ). typed at o (derived steps t)) one ∙ ap (λ (xs : List Derivation). typed at leaf (derived xs t)) other
  with_one at t x leaf ds e = cc

  module _ (at member : ℕ) (t : Ctype) (parent : parent_of s at ≡ Some member) (base : specified_at w s sense (child_of s p_specs member) ≡ Some t) where
    row_is : field_row w s sense at ≡ field_of w s sense at (Some t) (sense_of_child w s sense p_declarator at)
    row_is =
        ap (λ (o : Option ℕ). field_of w s sense at (specified_at w s sense (option_and_then (child_of s p_specs) o)) (sense_of_child w s sense p_declarator at)) parent
        ∙ ap (λ (o : Option Ctype). field_of w s sense at o (sense_of_child w s sense p_declarator at)) base

    pub no_declarator : declarator_in (sense_of_child w s sense p_declarator at) ≡ None → field_row w s sense at ≡ field_typed w s sense at None t (child_of s p_conditional at)
    no_declarator e = row_is ∙ without_one at t (sense_of_child w s sense p_declarator at) e

    pub by_declarator : (leaf : Option ℕ) (ds : List Derivation) → declarator_in (sense_of_child w s sense p_declarator at) ≡ Some (leaf, ds) → field_row w s sense at ≡ field_typed w s sense at leaf (derived ds t) (child_of s p_conditional at)
    by_declarator leaf ds e = row_is ∙ with_one at t (sense_of_child w s sense p_declarator at) leaf ds e
