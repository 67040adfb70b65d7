-- A world over a valid program with more types stands.
use Rattle.std.proofs.Common.{◌≡◌, ◌∙◌, ℕ, ◌<◌, ◌^◌, List, length, Some, All, Contains, slice_get, sym, ap, subst}
use Rattle.std.proofs.lemmas.List.Elements.{All-weaker}
use Rattle.std.proofs.lemmas.Option.{slice_get_within}
use Rattle.c_types.specs.declared.term.Term.{Term}
use Rattle.c_types.specs.declared.term.Term.TheVariants.{Union}
use Rattle.c_types.specs.Trees.{Ctype}
use Rattle.c_types.specs.Layout.{Extent, all_nodes}
use Rattle.c_types.specs.Table.{type_of}
use Rattle.c_types.specs.Made.{IsMade, AreNamed}
use Rattle.type_rules.specs.Kinds.{IsEntryType}
use Rattle.core_tree.specs.declared.node.Entity.{Entity}
use Rattle.core_tree.specs.declared.node.Node.{Node}
use Rattle.core_tree.specs.declared.node.Program.{Program}
use Rattle.core_tree.specs.Rows.{RowOf}
use Rattle.core_tree.specs.Typed.{IsStored, trees_in}
use Rattle.core_tree.specs.Valid.{InRows, Literals, ValidProgram, IsEntryAt}
use Rattle.sol_model.specs.declared.system.System.{System}
use Rattle.obj_space.specs.declared.location.Location.{Location}
use Rattle.obj_space.specs.Space.{locations_in}
use Rattle.covering_laws.specs.object_contents.Contents.{IsOutside}
use Rattle.covering_laws.proofs.object_contents.Outside.{outside_placed}
use Rattle.covering_laws.specs.covered_types.Whole.{IsWhole, HasFew, HasValue, AreWhole}
use Rattle.covering_laws.proofs.covered_types.Whole.{whole_types, placed}
use Rattle.covering_laws.specs.covered_memory.Demands.{Grounds}
use Rattle.covering_laws.proofs.covered_memory.Few.{types_few}
use Rattle.covering_laws.specs.grown_programs.Grown.{with_terms, MayFollow, IsKept, with_types}
use Rattle.covering_laws.proofs.grown_programs.Tables.{tables_grow}
use Rattle.covering_laws.proofs.grown_programs.Types.{extents_same}
use Rattle.covering_laws.proofs.covered_needs.Grounded.{grounds_grow}
use Rattle.covered_runs.specs.covered_steps.covered_values.Met.{HasFit, StandsMet}
use Rattle.covered_runs.proofs.covered_steps.covered_values.Above.{get_before}
use Rattle.covered_runs.proofs.covered_steps.covered_values.Rows.{whole_same, value_same, row_same}

module _ (p : Program) (more : List Term) (valid : ValidProgram p) (made : IsMade p.types) (named : AreNamed p.types) (fit : HasFit p.types) (follow : MayFollow (length p.types.terms) more) where
  pub kept : IsKept p.types (with_terms p.types more)
  kept = tables_grow p.types more made named follow

  pub nodes_known : (n : ℕ) (node : Node) → slice_get p.nodes.items n ≡ Some node → node.ty.0 < length p.types.terms
  nodes_known n node at = valid.trees.in_range.types n node at

  pub entities_known : (e : ℕ) (x : Entity) → slice_get p.entities.items e ≡ Some x → x.ty.0 < length p.types.terms
  entities_known e x at = valid.trees.in_range.entity_types e x at

  own : AreWhole p
  own = whole_types p valid made (types_few p.types made named fit)

  pub fit_more : HasFit (with_terms p.types more)
  fit_more tag members is none =
      subst (λ (es : List Extent). length (all_nodes es) < 2 ^ 24) (sym (extents_same p.types more made follow kept tag members is))
      (fit tag members is (λ i at. none i (get_before p.types.terms more i (slice_get_within p.types.terms i (Union tag) at) ∙ at)))

  few_more : HasFew (with_terms p.types more)
  few_more id = types_few (with_terms p.types more) kept.made kept.named fit_more id

  same_id : (n : ℕ) (node : Node) → slice_get p.nodes.items n ≡ Some node → type_of (with_terms p.types more) node.ty.0 ≡ type_of p.types node.ty.0
  same_id n node at = kept.types node.ty.0 (nodes_known n node at)

  whole_more : AreWhole (with_types p more)
  whole_more = record {
    stored = λ n node at sort h.
        subst (λ (t : Ctype). IsWhole (with_terms p.types more) t) (sym (same_id n node at))
        (whole_same p more made follow kept nodes_known entities_known (type_of p.types node.ty.0) (own.stored n node at sort (subst IsStored (same_id n node at) h)));
    values = λ n node at sort.
        subst (λ (t : Ctype). HasValue (trees_in (with_types p more)) node.kind t node.children) (sym (same_id n node at))
        (value_same p more made follow kept nodes_known entities_known node.kind (type_of p.types node.ty.0) node.children (own.values n node at sort));
    members = λ whole k t h long. placed (with_terms p.types more) kept.made whole k t h long;
  }

  rows_more : InRows (trees_in (with_types p more))
  rows_more n node at =
      subst (λ (t : Ctype). RowOf (trees_in (with_types p more)) node.kind t node.children) (sym (same_id n node at))
      (row_same p more made follow kept nodes_known entities_known node.kind (type_of p.types node.ty.0) node.children (valid.trees.rows n node at))

  literals_more : Literals (trees_in (with_types p more))
  literals_more n node at = valid.trees.literals n node at

  -- a function at which the program is entered has the type that it had
  entry_more : (e : ℕ) → IsEntryAt (trees_in p) e → IsEntryAt (trees_in (with_types p more)) e
  entry_more e h =
      (h.0, h.1, record { linkage = h.2.linkage; storage = h.2.storage; type = subst IsEntryType (sym (kept.types h.0.ty.0 (entities_known e h.0 h.1))) h.2.type })

  entries_more : All (λ e. IsEntryAt (trees_in (with_types p more)) e) p.entries.items
  entries_more = All-weaker (λ e. IsEntryAt (trees_in p) e) (λ e. IsEntryAt (trees_in (with_types p more)) e) entry_more p.entries.items valid.entries

  grounds_more : (s : List Location) (system : System) → s ≡ locations_in p → Grounds p.types s system → Grounds (with_terms p.types more) s system
  grounds_more s system is g =
      subst (λ (z : List Location). Grounds (with_terms p.types more) z system) (sym is)
      (grounds_grow p more system made named follow (subst (λ (z : List Location). Grounds p.types z system) is g))

pub stands_met : StandsMet
stands_met p more world valid made named fit follow over grounds closed found firsts = record {
  closed = closed;
  grounds = subst (λ (q : Program). Grounds q.types world.space world.system) (sym over.program) (grounds_more p more valid made named fit follow world.space world.system over.space grounds);
  whole = subst AreWhole (sym over.program) (whole_more p more valid made named fit follow);
  few = subst (λ (q : Program). HasFew q.types) (sym over.program) (few_more p more valid made named fit follow);
  rows = subst (λ (q : Program). InRows (trees_in q)) (sym over.program) (rows_more p more valid made named fit follow);
  literals = subst (λ (q : Program). Literals (trees_in q)) (sym over.program) (literals_more p more valid made named fit follow);
  found = λ n node at. found n node (subst (λ (q : Program). slice_get q.nodes.items n ≡ Some node) over.program at);
  opened = λ some. record {
    outside = subst IsOutside (sym over.space) (outside_placed p made (λ none. some (ap (λ (q : Program). q.entries.items) over.program ∙ none)));
    entries = subst (λ (q : Program). All (λ e. IsEntryAt (trees_in q) e) q.entries.items) (sym over.program) (entries_more p more valid made named fit follow);
    firsts = λ e has. firsts e (subst (λ (q : Program). Contains q.entries.items e) over.program has);
  };
}
