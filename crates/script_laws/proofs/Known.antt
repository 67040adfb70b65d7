-- What is known of units that are right for texts of distinct names, and that right words name such texts.
use Rattle.std.proofs.Common.{◌≡◌, ◌∙◌, ◌+◌, ℕ, List, [], ◌∷◌, ◌++◌, Option, Some, None, option_map, IfSome, map, take, length, arith, append-nil, refl, sym, ap, subst}
use Rattle.core_tree.specs.declared.node.Unit.{Unit}
use Rattle.command_line.specs.Distinct.{AreDistinct}
use Rattle.command_line.specs.Language.{found_in}
use Rattle.command_line.specs.Rules.{AreRight, gen_word}
use Rattle.text_units.specs.Answers.{NamedText, told_units}
use Rattle.text_units.specs.Lowered.{AreRightTexts}
use Rattle.text_units.proofs.Lowering.{cut_tokens}
use Rattle.report_cli.proofs.covered_reports.Linkable.{IsUnitOf, unit_of, linkable, tables, filled}
use Rattle.valid_unit_laws.proofs.plain_functions.Whole.{functions_plain}
use Rattle.twin_report_laws.specs.linked.Linked.{AreKnown}
use Rattle.twin_report_laws.proofs.apart.Units.{right_apart}
use Rattle.report_cli.specs.Words.{AreUnitNames, entries_read, names_read, number_read, script_read, side_name, steps_read, units_read, with_side}
use Rattle.report_cli.specs.Told.{Told, form_read, parted, told_by, told_for}
use Rattle.report_cli.proofs.Lifted.{names_told}
use Rattle.report_cli.proofs.Naming.{distinct_units, formed_units, gen_name, unit_names}
use Rattle.script_laws.specs.Scripted.{AreNamedTexts}

pub known : (texts : List NamedText) (units : List Unit) → AreNamedTexts texts → AreRightTexts 0 texts units → AreKnown units
known texts units named right =
    let table = tables texts units right in
    record {
      linkable = linkable texts units named.distinct right;
      tables = record { made = table.made; named = table.named };
      filled = filled texts units right;
      apart = λ k u at.
          let own : IsUnitOf 0 texts k u = unit_of 0 texts units k u right at in
          let h = own.right in
          right_apart h.tokens (0 + k) h.tree h.tag_number own.text.0 u (cut_tokens (0 + k) own.text h.tokens h.tree h.parsed) h.parsed.tree_is h.right;
      plain = λ k u at.
          let own : IsUnitOf 0 texts k u = unit_of 0 texts units k u right at in
          let h = own.right in
          functions_plain h.tokens (0 + k) h.tree h.tag_number own.text.0 u (cut_tokens (0 + k) own.text h.tokens h.tree h.parsed) h.parsed.tree_is h.right;
    }

-- ---- the names of what is told
abbrev names_in : List NamedText → List (List ℕ)
names_in texts = map (λ (text : NamedText). text.0) texts

some_one : {X : Type 0} → {x y : X} → ◌≡◌ {A = Option X} (Some x) (Some y) → x ≡ y
some_one h = cc

none_some : {X : Type 0} → {x : X} → ◌≡◌ {A = Option X} None (Some x) → ⊥
none_some h = cc

first_names : (units more : List (List ℕ)) (texts : List NamedText) → names_in texts ≡ units ++ more → names_in (take (length units) texts) ≡ units
first_names [] more texts e = refl
first_names (unit ∷ units) more [] e = cc
first_names (unit ∷ units) more (text ∷ texts) e =
    let first : text.0 ≡ unit = cc in
    let rest : names_in texts ≡ units ++ more = cc in
    ap (λ (n : List ℕ). n ∷ names_in (take (length units) texts)) first ∙ ap (λ (l : List (List ℕ)). unit ∷ l) (first_names units more texts rest)

taken_names : (units : List (List ℕ)) (side : Option (List ℕ)) (texts : List NamedText) → names_in texts ≡ with_side units side → names_in (take (length units) texts) ≡ units
taken_names units None texts e = first_names units [] texts (e ∙ sym (append-nil units))
taken_names units (Some side) texts e = first_names units (side ∷ []) texts e

units_named : (words : List (List ℕ)) (texts : List NamedText) → AreRight words → names_in texts ≡ names_read words → AreNamedTexts (take (length (units_read words)) texts)
units_named words texts right e =
    let same : names_in (take (length (units_read words)) texts) ≡ units_read words = taken_names (units_read words) (side_name (script_read words) (steps_read words)) texts e in
    let D : List (List ℕ) → Type 0 = AreDistinct in
    let N : List (List ℕ) → Type 0 = AreUnitNames in
    record {
      distinct = subst D (sym same) (distinct_units (gen_word (found_in words)) (units_read words) right.rules.units);
      bytes = subst N (sym same) (unit_names (units_read words) (formed_units (gen_word (found_in words)) (units_read words) right.rules.units));
    }

named_by : (number : Option ℕ) (read : Told) → AreNamedTexts read.units → AreNamedTexts (told_by number read).units
named_by None read h = h
named_by (Some number) read h = record { distinct = λ j k lt within same. absurd (omega arith); bytes = gen_name }

-- right words name texts of distinct names
pub words_named : (text_of : List ℕ → Option (List ℕ)) (words : List (List ℕ)) (told : Told) → told_for text_of words ≡ Some told → AreRight words → AreNamedTexts told.units
words_named text_of words told e right = by (told_units text_of (names_read words)) refl e
  where
    by : (o : Option (List NamedText)) → told_units text_of (names_read words) ≡ o → option_map (λ (texts : List NamedText). told_by (number_read words) (parted (entries_read words) (form_read words) (steps_read words) (length (units_read words)) texts)) o ≡ Some told
        → AreNamedTexts told.units
    by None at k = absurd (none_some k)
    by (Some texts) at k =
        let names : names_read words ≡ names_in texts = subst (λ (o : Option (List NamedText)). IfSome o (λ units. names_read words ≡ names_in units)) at (names_told text_of (names_read words)) in
        subst (λ (t : Told). AreNamedTexts t.units) (some_one k)
        (named_by (number_read words) (parted (entries_read words) (form_read words) (steps_read words) (length (units_read words)) texts) (units_named words texts right (sym names)))
