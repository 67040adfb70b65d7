use Rattle.std.proofs.Common.{arith, ◌≡◌, ◌∙◌, sym, ap, subst, ◌<◌, ◌^◌, List, ℕ, Some, None, [], Option}
use Rattle.c_types.specs.declared.term.Term.{Term}
use Rattle.c_types.specs.declared.term.Term.TheVariants.{Structure}
use Rattle.c_types.specs.Trees.{Ctype, StructureOf, tree_at, grow, grown}
use Rattle.c_types.specs.Layout.{Extent, of_members, structure_of}
use Rattle.c_types.specs.Table.{Table, look_in, extent_in, node_of}
use Rattle.std.specs.Option.{option_map}
use Rattle.c_types.specs.Inside.{IsPlain, terms_of, table_of}
use Rattle.c_types.proofs.Read.{entry_at}
use Rattle.c_types.proofs.Grow.{types_length}
use Rattle.c_types.proofs.Nodes.{deeper}
use Rattle.c_types.proofs.Lies.{as_many, in_order, some_position, first_position, part_is}
use Rattle.c_types.proofs.parts.part_at.Goals as goal

-- what is known of the structure that the term names
of_tag : (table : Table) (types : List Ctype) (tree : Ctype) (t : Term) (tag node : ℕ) (x : Ctype) → tree ≡ grow types t → t ≡ Structure tag → node_of (extent_in table tree) node ≡ Some x → node_of (extent_in table (StructureOf tag)) node ≡ Some x
of_tag table types tree t tag node x e is at =
    ap (λ (y : Ctype). node_of (extent_in table y) node) (sym (e ∙ ap (grow types) is)) ∙ at

pub member_at-requires-clause-positions : goal.member_at-requires-clause-positions
member_at-requires-clause-positions c =
    rw (c.as_slice-in-Some.ensures.value, c.as_slice.ensures.value) (as_many _ _ _ c.in-Some.ensures)

pub member_at-requires-clause-ordered : goal.member_at-requires-clause-ordered
member_at-requires-clause-ordered c =
    rw c.as_slice-in-Some.ensures.value (in_order _ _ _ c.in-Some.ensures)

pub member_at-requires-clause-first : goal.member_at-requires-clause-first
member_at-requires-clause-first c =
    let types = grown [] (terms_of c.args.entries.now) in
    let table = table_of c.args.entries.now c.args.tags.now c.args.completed.now in
    let e = entry_at c.args.entries.now _ c.requires.right.entries_right c.args.whole c.index-entries-whole.result c.requires.whole in
    let (x, at) = c.requires.inside in
    let inside = of_tag table types (tree_at types c.args.whole) _ c.in-Structure.tag c.args.node x e.term c.in-Structure.is at in
    rw c.as_slice-in-Some.ensures.value (first_position table c.in-Structure.tag c.in-Some.layout.now c.in-Some.ensures c.args.node x c.requires.deep inside)

pub member_at-requires-clause-some : goal.member_at-requires-clause-some
member_at-requires-clause-some c =
    let types = grown [] (terms_of c.args.entries.now) in
    let table = table_of c.args.entries.now c.args.tags.now c.args.completed.now in
    let e = entry_at c.args.entries.now _ c.requires.right.entries_right c.args.whole c.index-entries-whole.result c.requires.whole in
    let (x, at) = c.requires.inside in
    let inside = of_tag table types (tree_at types c.args.whole) _ c.in-Structure.tag c.args.node x e.term c.in-Structure.is at in
    rw c.as_slice-in-Some.ensures.value (some_position table c.in-Structure.tag c.in-Some.layout.now c.in-Some.ensures c.args.node x c.requires.deep inside)

pub unreachable-requires : goal.unreachable-requires
unreachable-requires c =
    let types = grown [] (terms_of c.args.entries.now) in
    let table = table_of c.args.entries.now c.args.tags.now c.args.completed.now in
    let e = entry_at c.args.entries.now _ c.requires.right.entries_right c.args.whole c.index-entries-whole.result c.requires.whole in
    let (x, at) = c.requires.inside in
    let inside = of_tag table types (tree_at types c.args.whole) _ c.in-Structure.tag c.args.node x e.term c.in-Structure.is at in
    let look : look_in table c.in-Structure.tag ≡ None = c.requires.right.made.laid c.in-Structure.tag ∙ ap (option_map _) c.in-None.ensures in
    let none : node_of (extent_in table (StructureOf c.in-Structure.tag)) c.args.node ≡ None = ap (λ (o : Option (List Extent)). node_of (of_members (structure_of (StructureOf c.in-Structure.tag)) o) c.args.node) look in
    cc

pub unreachable-requires-in_default : goal.unreachable-requires-in_default
unreachable-requires-in_default c =
    let types = grown [] (terms_of c.args.entries.now) in
    let table = table_of c.args.entries.now c.args.tags.now c.args.completed.now in
    let e = entry_at c.args.entries.now _ c.requires.right.entries_right c.args.whole c.index-entries-whole.result c.requires.whole in
    let (x, at) = c.requires.inside in
    let found = deeper (look_in table) types _ x c.args.node (subst IsPlain e.term c.requires.plain) c.requires.deep (ap (λ (t : Ctype). node_of (extent_in table t) c.args.node) (sym e.term) ∙ at) in
    c.in_default.not-Structure found.0 found.1

pub returns : goal.returns
returns c =
    let types = grown [] (terms_of c.args.entries.now) in
    let table = table_of c.args.entries.now c.args.tags.now c.args.completed.now in
    let e = entry_at c.args.entries.now _ c.requires.right.entries_right c.args.whole c.index-entries-whole.result c.requires.whole in
    let (x, at) = c.requires.inside in
    let inside = of_tag table types (tree_at types c.args.whole) _ c.in-Structure.tag c.args.node x e.term c.in-Structure.is at in
    let small : c.args.node < 2 ^ 63 = omega arith in
    let (k, lies) = rw (c.as_slice-in-Some.ensures.value, c.as_slice.ensures.value) at c.member_at.ensures in
    let part = part_is table c.in-Structure.tag c.in-Some.layout.now c.in-Some.ensures c.args.node x c.requires.deep inside small k c.member_at.result.0 c.member_at.result.1 lies in
    record {
      part = omega (arith, lies.before, types_length c.args.entries.now);
      plain = part.2;
      start = part.0;
      before = part.1;
      node = at ∙ sym part.3;
    }
