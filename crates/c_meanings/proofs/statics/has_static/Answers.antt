use Rattle.c_scope.specs.declared.kinds.Declared.{Declared}
use Rattle.c_senses.specs.Entities.{some_such, is_static_at_file}
use Rattle.name_chains.specs.Links.{listed, IsLinkOf}
use Rattle.name_chains.proofs.Linked.{listed-none}
use Rattle.c_meanings.specs.Statics.{some_static}
use Rattle.c_meanings.proofs.Lists.{ends, before_is, before_less, some_here, some_earlier}
use Rattle.std.proofs.Common.{◌≡◌, ℕ, [], Bool, Option, Some, ap, sym, subst, ◌∙◌}
use Rattle.c_senses.specs.Sense.{sense_in}
use Rattle.c_results.specs.Standing.{senses_made}
use Rattle.tree_reads.specs.Sources.{source_in}
use Rattle.c_meanings.proofs.statics.has_static.Goals as goal

pub link_at-link-requires : goal.link_at-link-requires
link_at-link-requires c = subst (IsLinkOf c.args.names.now.chains.links.items) c.in-Some.is c.loop-at.invariant.last

pub is_static_at_file-requires : goal.is_static_at_file-requires
is_static_at_file-requires c = c.requires.names.chains.leaves.each c.in-Some.place c.link_at-link.result c.link_at-link.ensures

pub returns-then-is_known : goal.returns-then-is_known
returns-then-is_known c = λ u uses.
    let s = source_in c.args.syntax.now uses in
    let sense = sense_in (senses_made u c.args.results.now) in
    let xs = c.args.names.now.chains.links.items in
    let e : c.args.seen.last ≡ Some c.in-Some.place = c.is_known.ensures c.if-is_known.true in
    c.requires.seen.flag u uses ∙ (ap (λ (o : Option ℕ). some_static s sense (listed xs o)) (e ∙ sym c.in-Some.is) ∙ c.loop-at.invariant.some u uses)

pub returns-then-is_static_at_file : goal.returns-then-is_static_at_file
returns-then-is_static_at_file c = λ u uses.
    let s = source_in c.args.syntax.now uses in
    let sense = sense_in (senses_made u c.args.results.now) in
    let xs = c.args.names.now.chains.links.items in
    let l = c.link_at-link.result in
    let test : Declared → Bool = λ d. is_static_at_file s sense d.node in
    sym (some_here s sense test (listed xs l.before) l.declared (sym (c.is_static_at_file.ensures u uses) ∙ c.if-is_static_at_file.true))
    ∙ (sym (ap (some_such s sense test) (ends xs c.in-Some.place l c.link_at-link.ensures c.requires.names.chains.links c.loop-at.at c.in-Some.is)) ∙ c.loop-at.invariant.some u uses)

pub loop-at-smaller : goal.loop-at-smaller
loop-at-smaller c = before_less c.args.names.now.chains.links.items c.in-Some.place c.link_at-link.result c.link_at-link.ensures c.requires.names.chains.links c.loop-at.at c.in-Some.is

pub loop-at-preserved : goal.loop-at-preserved
loop-at-preserved c =
    let xs = c.args.names.now.chains.links.items in
    let l = c.link_at-link.result in
    record {
      last = before_is xs c.in-Some.place l c.link_at-link.ensures c.requires.names.chains.links;
      some = λ u uses.
          let s = source_in c.args.syntax.now uses in
          let sense = sense_in (senses_made u c.args.results.now) in
          let test : Declared → Bool = λ d. is_static_at_file s sense d.node in
          sym (some_earlier s sense test (listed xs l.before) l.declared (sym (c.is_static_at_file.ensures u uses) ∙ c.if-is_static_at_file.false))
          ∙ (sym (ap (some_such s sense test) (ends xs c.in-Some.place l c.link_at-link.ensures c.requires.names.chains.links c.loop-at.at c.in-Some.is)) ∙ c.loop-at.invariant.some u uses);
    }

pub returns : goal.returns
returns c = λ u uses.
    let s = source_in c.args.syntax.now uses in
    let sense = sense_in (senses_made u c.args.results.now) in
    let test : Declared → Bool = λ d. is_static_at_file s sense d.node in
    let xs = c.args.names.now.chains.links.items in
    let none : listed xs c.loop-at.at ≡ [] = ap (listed xs) c.in_default.is ∙ listed-none xs in
    sym (ap (some_such s sense test) none) ∙ c.loop-at.invariant.some u uses
