-- Each row is built.
use Rattle.std.proofs.Common.{◌==◌, ℕ, ◌&&◌, ◌||◌, List, length, subst}
use Rattle.std.specs.Prelude.{nat_le}
use Rattle.pta_base.specs.declared.kind.Kind.{Kind}
use Rattle.c_grammar.specs.Productions.{p_rest, p_declaration, p_assert, p_specs, p_align, p_type, p_struct, p_members, p_member, p_field, p_enum, p_enumerator, p_declarator, p_abstract, p_either, p_suffix, p_parameter, p_type_name, p_init, p_items, p_designator, p_block, p_statement, p_expression, p_primary}
use Rattle.c_senses.specs.Tree.{Source}
use Rattle.c_senses.specs.Given.{Fits}
use Rattle.c_senses.specs.World.{World}
use Rattle.c_senses.specs.Sense.{Sense, Nothing, sense_in}
use Rattle.c_senses.specs.Rows.{world_at, row_of, declaring_row, RefusedAt}
use Rattle.refusal_laws.specs.Refusals.{IsOther, IsBuilt, RowsAreBuilt}
use Rattle.refusal_laws.proofs.Steps.{either_built}
use Rattle.refusal_laws.proofs.Expressions.{expressions_built}
use Rattle.refusal_laws.proofs.Declaring.{align_specified, types_built, specs_built, suffix_built, parameter_built, type_name_built, declarator_built, structs_built, enums_built, members_built, fields_built, enumerators_built}
use Rattle.refusal_laws.proofs.Statements.{inits_built, items_built, designators_built, asserts_built, statements_built}

module _ (w : World) (s : Source) (sense : ℕ → Sense) where
  declaring_built : (production at : ℕ) (xs : List ℕ) → IsBuilt (declaring_row w s sense production at xs)
  declaring_built production at xs =
      either_built {A = Sense} (production == p_rest) _ _ tt
      (either_built {A = Sense} (production == p_declaration) _ _ tt
      (either_built {A = Sense} (production == p_assert) _ _ (asserts_built w s sense at)
      (either_built {A = Sense} (production == p_specs) _ _ (specs_built w s sense at xs)
      (either_built {A = Sense} (production == p_align) _ _ (align_specified w s sense at xs)
      (either_built {A = Sense} (production == p_type) _ _ (types_built w s sense at xs)
      (either_built {A = Sense} (production == p_struct) _ _ (structs_built w s sense at)
      (either_built {A = Sense} (production == p_members) _ _ tt
      (either_built {A = Sense} (production == p_member) _ _ (members_built w s sense at xs)
      (either_built {A = Sense} (production == p_field) _ _ (fields_built w s sense at)
      (either_built {A = Sense} (production == p_enum) _ _ (enums_built w s sense at)
      (either_built {A = Sense} (production == p_enumerator) _ _ (enumerators_built w s sense at xs)
      (either_built {A = Sense} (production == p_suffix) _ _ (suffix_built w s sense at xs)
      (either_built {A = Sense} (production == p_parameter) _ _ (parameter_built w s sense at)
      (either_built {A = Sense} (production == p_type_name) _ _ (type_name_built w s sense at)
      (either_built {A = Sense} (production == p_init) _ _ (inits_built w s sense at)
      (either_built {A = Sense} (production == p_items) _ _ (items_built w s sense at)
      (either_built {A = Sense} (production == p_designator) _ _ (designators_built w s sense at xs)
      (either_built {A = Sense} (production == p_block) _ _ tt
      (either_built {A = Sense} (production == p_statement) _ _ (statements_built w s sense at xs)
      (either_built {A = Sense} ((production == p_declarator) || ((production == p_abstract) || (production == p_either))) _ (Fits Nothing) (declarator_built w s sense at xs) tt))))))))))))))))))))

  row_built : (production at : ℕ) (xs : List ℕ) → IsBuilt (row_of w s sense production at xs)
  row_built production at xs =
      either_built {A = Sense} (nat_le p_expression production && nat_le production p_primary) _ _ (expressions_built w s sense production at xs) (declaring_built production at xs)

never_unbuilt : (s : Source) (kind : Kind) (named : ℕ) → RefusedAt s kind named → IsOther kind
never_unbuilt s kind named h =
    subst IsBuilt h.refuses (row_built (world_at s h.senses (length h.senses)) s (sense_in h.senses) h.node.production (length h.senses) h.node.children.items)

pub rows_built : RowsAreBuilt
rows_built = record { rows = λ w s sense production at xs. row_built w s sense production at xs; never = never_unbuilt }
