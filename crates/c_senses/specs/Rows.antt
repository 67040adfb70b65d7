-- One row for each production, over what the nodes before stand for.
use Rattle.std.specs.Prelude.{ℕ, ◌==◌, ◌&&◌, ◌||◌, not, nat_le, List, [], length, take, Option, Some, None, option_map}
use Rattle.std.specs.Prelude.{slice_get, ◌≡◌, ◌≤◌, if◌then◌else◌}
use Rattle.c_scope.specs.passed.pta_base.declared.kind.Kind.{Kind}
use Rattle.c_inits.specs.passed.c_types.Trees.{Ctype}
use Rattle.c_inits.specs.passed.c_grammar.declared.trees.SyntaxNode.{SyntaxNode}
use Rattle.c_inits.specs.passed.c_grammar.Reads.{leaf}
use Rattle.c_inits.specs.passed.c_grammar.Productions.{p_rest, p_declaration, p_assert, p_specs, p_align, p_type}
use Rattle.c_inits.specs.passed.c_grammar.Productions.{p_struct, p_members, p_member, p_field, p_enum, p_enumerator}
use Rattle.c_inits.specs.passed.c_grammar.Productions.{p_declarator, p_abstract, p_either, p_suffix, p_parameter}
use Rattle.c_inits.specs.passed.c_grammar.Productions.{p_type_name, p_init, p_items, p_designator, p_block}
use Rattle.c_inits.specs.passed.c_grammar.Productions.{p_statement, p_expression, p_primary}
use Rattle.c_inits.specs.Made.{TagParts, looked_up, laid_out}
use Rattle.c_senses.specs.Tree.{Source, spelling_at}
use Rattle.c_senses.specs.Given.{Given, Fits, Refuses, ◌>>=◌}
use Rattle.c_senses.specs.World.{World}
use Rattle.c_senses.specs.Expressions.{expression_row}
use Rattle.c_senses.specs.Specifiers.{align_specifier, type_row, specs_row}
use Rattle.c_senses.specs.Declarators.{plain_declarator_row, suffix_row, parameter_row, type_name_row, is_outermost}
use Rattle.c_senses.specs.Declarators.{base_type, derived, adjusted}
use Rattle.c_senses.specs.Tags.{struct_row, enum_row, members_row, member_declaration, field_row, enumerator_row}
use Rattle.c_senses.specs.Tags.{completed_from, members_under, look_of, tags_below}
use Rattle.c_senses.specs.Entities.{meaning_at, storage_of, is_automatic_storage, is_in_static, function_around}
use Rattle.c_senses.specs.Entities.{by_place, further_of}
use Rattle.c_senses.specs.Initialised.{designator_row, init_row, items_row}
use Rattle.c_senses.specs.Statements.{rest_row, declaration_row, assert_row, block_row, statement_row}
use Rattle.c_senses.specs.Sense.{Sense, Nothing, IsDeclarator, sense_in}

-- what the declarations before node i give, but which parameter is the last one of a variadic function
abbrev pub names_over : Source → List Sense → (ℕ → Sense) → List TagParts → ℕ → World
names_over s senses sense completed i = record {
  meaning = meaning_at s sense;
  members = members_under completed;
  look = look_of completed;
  fillable = looked_up (laid_out [] completed);
  tags = tags_below s;
  may_name = λ e. not (is_in_static s sense i && is_automatic_storage s sense (storage_of s sense e));
  may_call = not (is_in_static s sense i);
  own_name = option_map (spelling_at s) (function_around s sense i);
  further = λ leaf. None;
}

-- what the declarations before node i give
abbrev pub world_over : Source → List Sense → (ℕ → Sense) → List TagParts → ℕ → World
world_over s senses sense completed i =
    let names = names_over s senses sense completed i in record names { further = further_of names s sense }

abbrev pub world_at : Source → List Sense → ℕ → World
world_at s senses i = world_over s senses (sense_in senses) (completed_from s senses (sense_in senses) 0) i

module _ (w : World) (s : Source) (sense : ℕ → Sense) where
  -- a declarator, with what its declaration may say of its name
  abbrev pub at_its_name : ℕ → Given Sense → Option Ctype → Sense → Given Sense
  at_its_name at g (Some base) (IsDeclarator (Some leaf) ds) = if is_outermost s at
      then by_place w s sense at leaf (derived ds base) (adjusted (derived ds base)) g else g
  at_its_name at g base x = g

  abbrev pub declarator_row : ℕ → List ℕ → Given Sense
  declarator_row at children =
      plain_declarator_row w s sense at children >>= (λ x. at_its_name at (Fits x) (base_type w s sense at) x)

  abbrev pub declaring_row : ℕ → ℕ → List ℕ → Given Sense
  declaring_row production at children =
      if production == p_rest then rest_row w s sense children
      else if production == p_declaration then declaration_row w s sense children
      else if production == p_assert then assert_row w s sense at
      else if production == p_specs then specs_row w s sense at children
      else if production == p_align then align_specifier w s sense at children
      else if production == p_type then type_row w s sense at children
      else if production == p_struct then struct_row w s sense at
      else if production == p_members then members_row w s sense children
      else if production == p_member then member_declaration w s sense at children
      else if production == p_field then field_row w s sense at
      else if production == p_enum then enum_row w s sense at
      else if production == p_enumerator then enumerator_row w s sense at children
      else if production == p_suffix then suffix_row w s sense at children
      else if production == p_parameter then parameter_row w s sense at
      else if production == p_type_name then type_name_row w s sense at
      else if production == p_init then init_row w s sense at
      else if production == p_items then items_row w s sense at
      else if production == p_designator then designator_row w s sense at children
      else if production == p_block then block_row w s sense at children
      else if production == p_statement then statement_row w s sense at children
      else if (production == p_declarator)
      || ((production == p_abstract) || (production == p_either)) then declarator_row at children
      else Fits Nothing

  -- a leaf, and a production that only lists others, has no sense
  abbrev pub row_of : ℕ → ℕ → List ℕ → Given Sense
  row_of production at children =
      if nat_le p_expression production
      && nat_le production p_primary then expression_row w s sense production at children
      else declaring_row production at children

-- the row of node i over the senses of the nodes before it
abbrev pub row : Source → List Sense → ℕ → SyntaxNode → Given Sense
row s senses i n = row_of (world_at s senses i) s (sense_in senses) n.production i n.children.items

-- the senses of the first so many nodes: each is what its row gives over those before it
pub record AreSenses (s : Source) (senses : List Sense) : Type 0 where
  pub within : length senses ≤ length s.nodes
  pub each : (i : ℕ) (n : SyntaxNode) (x : Sense)
      → slice_get s.nodes i ≡ Some n
      → slice_get senses i ≡ Some x
      → row s (take i senses) i n ≡ Fits x

-- the first node whose row doesn't fit, with the kind of its refusal and the node that is named
pub record RefusedAt (s : Source) (kind : Kind) (named : ℕ) : Type 0 where
  pub senses : List Sense
  pub before : AreSenses s senses
  pub node : SyntaxNode
  pub stands : slice_get s.nodes (length senses) ≡ Some node
  pub refuses : row s senses (length senses) node ≡ Refuses kind named
