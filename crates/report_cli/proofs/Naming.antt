-- Units that are right for texts whose names are well formed are told apart by their names, and so are the locations of a whole program.
use Rattle.std.proofs.Common.{◌≡◌, ◌∙◌, ℕ, zero, suc, ◌+◌, ◌<◌, ◌≤◌, ◌&&◌, not, Bool, true, false, Option, None, Some, List, [], ◌∷◌, map, length, arith, refl, sym, ap, subst, get_or}
use Rattle.std.specs.Prelude.{nat_eq, codes}
use Rattle.std.specs.List.{All, list_all}
use Rattle.std.proofs.lemmas.Bool.{eqb-true}
use Rattle.std.proofs.lemmas.Option.{slice_get-get_or, slice_get_within}
use Rattle.core_tree.specs.declared.node.Unit.{Unit}
use Rattle.core_tree.specs.declared.node.Program.{Program}
use Rattle.sol_model.specs.declared.system.System.{System}
use Rattle.obj_space.specs.declared.location.Location.{Location}
use Rattle.obj_space.specs.Space.{DistinctNames}
use Rattle.unit_report.specs.unit_system.Of.{IsSystemOf}
use Rattle.linked_laws.specs.location_laws.name_shapes.Bytes.{is_unit_byte, IsMadeOf}
use Rattle.linked_laws.proofs.location_laws.name_shapes.Cutting.{and}
use Rattle.linked_laws.specs.location_laws.named_laws.Units.{IsNamedUnit, AreNamedUnits}
use Rattle.linked_laws.specs.location_laws.named_laws.Whole.{IsWhole}
use Rattle.declaration_laws.proofs.declared_type_laws.named_rest.Whole.{named_whole}
use Rattle.command_line.specs.Distinct.{AreDistinct}
use Rattle.command_line.specs.Rules.{HasUnits, IsUnitWord}
use Rattle.command_line.specs.Rules as word
use Rattle.text_units.specs.Answers.{NamedText}
use Rattle.report_cli.specs.Words.{AreUnitNames}
use Rattle.text_units.specs.Lowered.{IsRightText, AreRightTexts}
use Rattle.text_units.proofs.Texts.{some_same}
use Rattle.text_units.proofs.Lowering.{cut_tokens}
use Rattle.report_cli.proofs.covered_reports.Linkable.{IsUnitOf, unit_of}

-- a byte of a word is none that stands between the parts of a location's name
off : (k : ℕ) → word.is_unit_byte k ≡ false → (c : ℕ) → word.is_unit_byte c ≡ true → nat_eq c k ≡ false
off k fails c passes = by (nat_eq c k) refl
  where
    by : (b : Bool) → nat_eq c k ≡ b → b ≡ false
    by true e = let both : true ≡ false = sym passes ∙ (ap word.is_unit_byte (eqb-true c k e) ∙ fails) in cc
    by false e = refl

byte_of : (c : ℕ) → word.is_unit_byte c ≡ true → is_unit_byte c ≡ true
byte_of c passes =
    and (not (nat_eq c 58) && not (nat_eq c 64)) (not (nat_eq c 42)) (and (not (nat_eq c 58)) (not (nat_eq c 64)) (ap not (off 58 refl c passes)) (ap not (off 64 refl c passes))) (ap not (off 42 refl c passes))

made_of : (name : List ℕ) → All (λ (b : ℕ). word.is_unit_byte b ≡ true) name → IsMadeOf is_unit_byte name
made_of [] h = refl
made_of (c ∷ rest) h = and (is_unit_byte c) (list_all is_unit_byte rest) (byte_of c (h zero c (omega arith))) (made_of rest (λ k d within. h (suc k) d (omega arith)))

pub unit_names : (names : List (List ℕ)) → All IsUnitWord names → AreUnitNames names
unit_names names h k d within = made_of _ (h k d within).bytes

-- the name of the unit of a generated program
pub gen_name : AreUnitNames (codes "gen" ∷ [])
gen_name zero d within = refl
gen_name (suc k) d within = absurd (omega arith)

-- a unit that is right for a text
named_of : (number : ℕ) (text : NamedText) (u : Unit) → IsRightText number text u → IsMadeOf is_unit_byte text.0 → IsNamedUnit u
named_of number text u h bytes = named_whole h.tokens number h.tree h.tag_number text.0 u (cut_tokens number text h.tokens h.tree h.parsed) h.parsed.tree_is h.right bytes h.tags.made h.tags.named

-- each of the units
pub are_named : (texts : List NamedText) (units : List Unit) → AreUnitNames (map (λ (text : NamedText). text.0) texts) → AreRightTexts 0 texts units → AreNamedUnits units
are_named texts units bytes right u x at =
    let own : IsUnitOf 0 texts u x = unit_of 0 texts units u x right at in
    let names = map (λ (text : NamedText). text.0) texts in
    let within : u < length names = slice_get_within names u own.text.0 own.stands in
    let same : get_or names u own.text.0 ≡ own.text.0 = some_same _ _ (sym (slice_get-get_or names u own.text.0 within) ∙ own.stands) in
    let P : List ℕ → Type 0 = λ name. IsMadeOf is_unit_byte name in
    named_of (0 + u) own.text x own.right (subst P same (bytes u own.text.0 within))

-- and the locations of a whole program
pub are_distinct : (program : Program) (space : List Location) (system : System) → IsSystemOf program space system → IsWhole program → DistinctNames space
are_distinct program space system of whole = let P : List Location → Type 0 = λ locations. DistinctNames locations in subst P (sym of.space_is) whole.names

-- the unit words of right words, of which a generated program has none
pub distinct_units : (number : Option (List ℕ)) (units : List (List ℕ)) → HasUnits number units → AreDistinct units
distinct_units None units h = h.distinct
distinct_units (Some text) units h = let D : List (List ℕ) → Type 0 = AreDistinct in subst D (sym h) (λ j k lt within same. absurd (omega arith))

pub formed_units : (number : Option (List ℕ)) (units : List (List ℕ)) → HasUnits number units → All IsUnitWord units
formed_units None units h = h.formed
formed_units (Some text) units h = let A : List (List ℕ) → Type 0 = λ words. All IsUnitWord words in subst A (sym h) (λ k d within. absurd (omega arith))

pub few_units : (number : Option (List ℕ)) (units : List (List ℕ)) → HasUnits number units → length units ≤ 256
few_units None units h = h.few
few_units (Some text) units h = let size : length units ≡ 0 = ap length h in omega arith
