-- The law.
use Rattle.std.proofs.Common.{arith, ◌≡◌, ◌<◌, ◌≤◌, ℕ, Bool, true, false, ◌||◌, List, [], ◌∷◌, Some, length, slice_get, refl, sym, ◌∙◌, subst}
use Rattle.c_grammar.specs.Productions.{p_declaration, p_block, p_statement}
use Rattle.c_consts.specs.Core.{Core}
use Rattle.c_senses.specs.Names.{source_of, numbered}
use Rattle.c_senses.specs.Tree.{Source, is_a, children_at, all_where}
use Rattle.c_senses.specs.Given.{Given, Fits, Refuses}
use Rattle.c_senses.specs.World.{World}
use Rattle.c_senses.specs.Sense.{Sense, IsRun, sense_in}
use Rattle.c_senses.specs.Rows.{AreSenses}
use Rattle.c_senses.specs.Statements.{run_in, block_row, statement_row}
use Rattle.core_node_laws.specs.passed.parsed_tree_laws.family_laws.Families.{IsChild}
use Rattle.parsed_tree_laws.specs.sense_laws.Sound.{Gives}
use Rattle.core_node_laws.specs.standing_laws.Standing.{IsGrown}
use Rattle.core_node_laws.proofs.standing_laws.Climbing.{child_inside}
use Rattle.core_node_laws.proofs.standing_laws.Descending.{F, W, row_there, sense_before, child_before, same_given}
use Rattle.declaration_laws.proofs.declared_type_laws.owner_laws.Whole.{grown_of}
use Rattle.core_node_laws.specs.passed.parsed_tree_laws.statement_shapes.Shaped.{ShapedStatements, is_part, allowed}
use Rattle.core_node_laws.proofs.passed.parsed_tree_laws.statement_shapes.Rows.{statements_shaped}
use Rattle.declaration_laws.specs.declared_type_laws.owner_laws.held_parts.Held.{IsHeld, ForDeclarations, UnitsHoldParts}
use Rattle.declaration_laws.proofs.declared_type_laws.owner_laws.held_parts.Rows.{declaration_held, statement_held, block_held}
use Rattle.declaration_laws.proofs.declared_type_laws.owner_laws.held_parts.Declarations.{for_declarations}

gives_is : {A : Type 0} (P : A → Type 0) (g : Given A) (x : A) → Gives P g → g ≡ Fits x → P x
gives_is P (Fits y) x h e = let same : y ≡ x = cc in subst P same h
gives_is P (Refuses kind node) x h e = cc

module _ (s : Source) (senses : List Sense) (grown : IsGrown s) (are : AreSenses s senses) (whole : length senses ≡ length s.nodes) (shaped : ShapedStatements s) (fors : ForDeclarations s) (i c : ℕ) (x : Core) (h : IsChild s i c) where
  abbrev before : ℕ → Sense
  before = F s senses grown are whole i

  abbrev w : World
  w = W s senses grown are whole i

  lt : c < i
  lt = child_before s senses grown are whole i c h

  inside : i < length senses
  inside = let k = child_inside (slice_get s.nodes i) s.nodes i h.0 c refl h.1 in omega (arith, k, whole)

  same : before c ≡ sense_in senses c
  same = sense_before s senses grown are whole i c lt

  -- what a declaration runs
  run_of : is_a s p_declaration c ≡ true → (cores : List Core) × (before c ≡ IsRun cores)
  run_of declares =
      let lower : c < length senses = omega (arith, lt, inside) in
      let cores = run_in (W s senses grown are whole c) s (F s senses grown are whole c) (children_at s c) in
      let own : Fits (IsRun cores) ≡ Fits (sense_in senses c) = row_there s senses grown are whole c p_declaration lower declares in
      (cores, same ∙ sym (same_given (IsRun cores) (sense_in senses c) own))

  module _ (held : IsHeld x (sense_in senses c)) where
    held_before : IsHeld x (before c)
    held_before = subst (λ (y : Sense). IsHeld x y) (sym same) held

    in_block : is_a s p_block i ≡ true → IsHeld x (sense_in senses i)
    in_block is = gives_is (IsHeld x) (block_row w s before i (children_at s i)) (sense_in senses i) (block_held x w s before i c held_before (children_at s i) h) (row_there s senses grown are whole i p_block inside is)

    in_statement : is_a s p_statement i ≡ true → Gives (IsHeld x) (statement_row w s before i (children_at s i)) → IsHeld x (sense_in senses i)
    in_statement is g = gives_is (IsHeld x) (statement_row w s before i (children_at s i)) (sense_in senses i) g (row_there s senses grown are whole i p_statement inside is)

    of_declaration : is_a s p_statement i ≡ true → is_a s p_declaration c ≡ true → Gives (IsHeld x) (statement_row w s before i (children_at s i))
    of_declaration is declares =
        let (word, parenthesis, rest, e, begins) = fors.first i c is h declares in
        subst (λ (l : List ℕ). Gives (IsHeld x) (statement_row w s before i l)) (sym e) (declaration_held x w s before i c held_before declares (run_of declares) word parenthesis rest begins)

    of_part : is_a s p_statement i ≡ true → is_part s c ≡ true → (l : List ℕ) → children_at s i ≡ l → Gives (IsHeld x) (statement_row w s before i l)
    of_part is part [] e = tt
    of_part is part (first ∷ rest) e =
        statement_held x w s before i c held_before first rest (h.0, subst (λ (l : List ℕ). slice_get l h.0 ≡ Some c) e h.1) part
        (subst (λ (l : List ℕ). length (all_where (is_part s) l) ≤ allowed s first) e (shaped.parts i first rest is e)) (λ lf. subst (λ (l : List ℕ). length (all_where (is_a s p_block) l) ≡ 0) e (shaped.blocks i first rest is e lf))
        (λ no_leaf no_expression. grown.statements.begins i first rest is e no_leaf no_expression)

    pub part_held : (is_a s p_statement i || is_a s p_block i) ≡ true → (is_a s p_declaration c || (is_a s p_statement c || is_a s p_block c)) ≡ true → IsHeld x (sense_in senses i)
    part_held above sort = by (is_a s p_statement i) (is_a s p_block i) refl refl above
      where
        of_sort : is_a s p_statement i ≡ true → (a : Bool) → is_a s p_declaration c ≡ a → (a || is_part s c) ≡ true → Gives (IsHeld x) (statement_row w s before i (children_at s i))
        of_sort is true ea e = of_declaration is ea
        of_sort is false ea e = of_part is e (children_at s i) refl

        by : (a b : Bool) → is_a s p_statement i ≡ a → is_a s p_block i ≡ b → (a || b) ≡ true → IsHeld x (sense_in senses i)
        by true b ea eb e = in_statement ea (of_sort ea (is_a s p_declaration c) refl sort)
        by false true ea eb e = in_block eb
        by false false ea eb e = cc

pub units_hold_parts : UnitsHoldParts
units_hold_parts tokens unit tree tag_number senses cut is are whole =
    let s : Source = numbered tag_number (source_of tokens tree) in
    record {
      each = λ i c x above h sort held.
          part_held s senses (grown_of tokens unit tree tag_number cut is) are whole (statements_shaped tokens unit tree tag_number is) (for_declarations tokens unit tree tag_number is) i c x h held above sort;
    }
