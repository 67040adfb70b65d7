use Rattle.std.proofs.lemmas.List.Elements.{All-nil}
use Rattle.std.proofs.Common.{rules, ◌≡◌, ◌≤◌, ◌+◌, false, List, All, None, append-nil, length, arith, sym, ap, subst, ◌∙◌}
use Rattle.c_results.specs.Standing.{senses_made}
use Rattle.tree_reads.specs.Sources.{source_in}
use Rattle.core_tree.specs.declared.node.Unit.{Unit}
use Rattle.core_nodes.specs.Standing.{Builds}
use Rattle.core_nodes.proofs.Growing.{builds_on}
use Rattle.c_senses.specs.Sense.{Sense}
use Rattle.c_senses.specs.Right.{declared_name}
use Rattle.c_results.proofs.Keeping.{mades_kept, withins_kept}
use Rattle.unit_finish.specs.declared.unit_parts.declared.Declared.{Declared}
use Rattle.unit_names.specs.Entries.{IsDeclaredIn}
use Rattle.unit_names.specs.Firsts.{may_declare}
use Rattle.unit_names.proofs.Known.{declares_none}
use Rattle.unit_names.proofs.Parts.{named_none}
use Rattle.unit_names.proofs.Listing.{ListsTo, lists_none, lists_more, inside_more, lists_all, bodies_within}
use Rattle.unit_names.proofs.list.declared_names.Goals as goal

pub returns-in_err-found-clause-builds : goal.returns-in_err-found-clause-builds
returns-in_err-found-clause-builds c = builds_on c.args.unit.now c.loop-leaf.unit c.declared_at.new.unit c.loop-leaf.invariant.builds c.in_err-found.ensures.builds

pub returns-in_err-add_some-clause-builds : goal.returns-in_err-add_some-clause-builds
returns-in_err-add_some-clause-builds c = builds_on c.args.unit.now c.loop-leaf.unit c.declared_at.new.unit c.loop-leaf.invariant.builds c.in_ok-found.ensures.builds

pub loop-leaf-init : goal.loop-leaf-init
loop-leaf-init c =
    let u = c.args.unit.now in
    let none = c.new-list.ensures.items in
    record {
      ready = c.requires.ready;
      asked = c.in_ok-asked.ensures.asked c.args.syntax.now c.args.results.now;
      builds = search rules;
      results = c.requires.results;
      inside = subst (All (IsDeclaredIn u)) (sym none) (All-nil (IsDeclaredIn u));
      lists = λ uses.
          let s = source_in c.args.syntax.now uses in
          let senses = senses_made u c.args.results.now in
          subst (λ (l : List Declared). ListsTo s senses u 0 l) (sym none) (lists_none s senses u);
    }

-- a leaf that declares nothing
pub loop-leaf-preserved-then-not-may_declare : goal.loop-leaf-preserved-then-not-may_declare
loop-leaf-preserved-then-not-may_declare c =
    let first = c.args.unit.now in
    let old = c.loop-leaf.unit in
    let inv = c.loop-leaf.invariant in
    let list = c.loop-leaf.list.items in
    record {
      ready = inv.ready;
      asked = inv.asked;
      builds = inv.builds;
      results = inv.results;
      inside = inv.inside;
      lists = λ uses.
          let s = source_in c.args.syntax.now uses in
          let senses = senses_made first c.args.results.now in
          let off : may_declare s senses c.loop-leaf.leaf ≡ false = sym (c.may_declare.ensures first uses) ∙ c.if-not-may_declare.true in
          let none = named_none s senses c.loop-leaf.leaf (declares_none s senses c.loop-leaf.leaf (sym off)) in
          subst (λ (l : List Declared). ListsTo s senses old (c.loop-leaf.leaf + 1) l) (append-nil list)
          (lists_more s senses old old (builds_same old) c.loop-leaf.leaf list inv.inside (inv.lists uses) None none tt);
    }
  where
    builds_same : (u : Unit) → Builds u u
    builds_same u = search rules

pub declared_at-requires-clause-may : goal.declared_at-requires-clause-may
declared_at-requires-clause-may c = λ u uses. sym (c.may_declare.ensures u uses) ∙ c.if-not-may_declare.false

pub loop-leaf-preserved : goal.loop-leaf-preserved
loop-leaf-preserved c =
    let first = c.args.unit.now in
    let old = c.loop-leaf.unit in
    let new = c.declared_at.new.unit in
    let inv = c.loop-leaf.invariant in
    let more = c.in_ok-found.ensures.builds in
    let added = c.in_ok-add_some.ensures.added in
    let list = c.loop-leaf.list.items in
    record {
      ready = c.in_ok-found.ensures.ready;
      asked = c.in_ok-found.ensures.asked;
      builds = builds_on first old new inv.builds more;
      results = withins_kept old new more c.args.results.now inv.results;
      inside = subst (All (IsDeclaredIn new)) (sym added) (inside_more old new more list c.in_ok-found.found inv.inside c.in_ok-found.ensures.within);
      lists = λ uses.
          let s = source_in c.args.syntax.now uses in
          let senses = senses_made first c.args.results.now in
          let seen = c.in_ok-found.ensures.declared uses ∙ ap (λ (ss : List Sense). declared_name s ss c.loop-leaf.leaf) (mades_kept first old inv.builds c.args.results.now c.requires.results) in
          subst (λ (l : List Declared). ListsTo s senses new (c.loop-leaf.leaf + 1) l) (sym added)
          (lists_more s senses old new more c.loop-leaf.leaf list inv.inside (inv.lists uses) c.in_ok-found.found seen c.in_ok-found.ensures.leaf);
    }

pub returns-clause-names : goal.returns-clause-names
returns-clause-names c = λ uses.
    let s = source_in c.args.syntax.now uses in
    let whole : length s.nodes ≤ c.loop-leaf.leaf = omega (arith, c.in-Ok.ensures, c.len.ensures) in
    lists_all s (senses_made c.args.unit.now c.args.results.now) c.loop-leaf.unit c.loop-leaf.leaf c.loop-leaf.list.items whole c.loop-leaf.invariant.inside (c.loop-leaf.invariant.lists uses)

pub returns-clause-bodies : goal.returns-clause-bodies
returns-clause-bodies c = bodies_within c.loop-leaf.unit c.loop-leaf.list.items c.loop-leaf.invariant.inside
