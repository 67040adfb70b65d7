use Rattle.std.proofs.Common.{length, get_or, take, add-one}
use Rattle.std.proofs.Math.Seq.{take-suc, take-length}
use Rattle.c_types.specs.Trees.{Ctype}
use Rattle.c_scope.specs.declared.kinds.Declared.{Declared}
use Rattle.c_senses.specs.Sense.{Sense}
use Rattle.c_senses.specs.Entities.{own_type, all_together, types_of}
use Rattle.core_nodes.proofs.Growing.{builds_on}
use Rattle.c_results.proofs.Keeping.{mades_kept, withins_kept}
use Rattle.c_entities.specs.Types.{type_in}
use Rattle.name_chains.proofs.Linked.{no_link}
use Rattle.c_meanings.specs.Joined.{with_own}
use Rattle.c_meanings.proofs.Lists.{types_more}
use Rattle.std.proofs.Common.{◌≡◌, ℕ, ◌<◌, List, Option, ap, sym, ◌∙◌, arith}
use Rattle.c_senses.specs.Sense.{sense_in}
use Rattle.c_results.specs.Standing.{senses_made}
use Rattle.tree_reads.specs.Sources.{source_in}
use Rattle.c_meanings.proofs.types.all_of.Goals as goal

pub loop-declared-preserved : goal.loop-declared-preserved
loop-declared-preserved c =
    let u0 = c.args.unit.now in
    let u = c.loop-declared.unit in
    let u1 = c.one_more.new.unit in
    let rs = c.args.results.now in
    let list = c.args.list.now in
    let i = c.loop-declared.declared-index in
    let d : Declared = get_or list i no_link.declared in
    let lt : i < length list = omega arith in
    record {
      ready = c.in_ok-so_far.ensures.ready;
      builds = builds_on u0 u u1 c.loop-declared.invariant.builds c.in_ok-so_far.ensures.builds;
      results = withins_kept u u1 c.in_ok-so_far.ensures.builds rs c.loop-declared.invariant.results;
      within = c.in_ok-so_far.ensures.within;
      made = λ uses.
          let s = source_in c.args.syntax.now uses in
          let sense = sense_in (senses_made u0 rs) in
          let o = type_in u0.types c.args.before in
          let so_far = type_in u.types c.loop-declared.so_far in
          c.in_ok-so_far.ensures.made uses
          ∙ (ap (λ (ss : List Sense). with_own so_far (own_type s (sense_in ss) d.node)) (mades_kept u0 u c.loop-declared.invariant.builds rs c.requires.results)
          ∙ (ap (λ (t : Option Ctype). with_own t (own_type s sense d.node)) (c.loop-declared.invariant.made uses)
          ∙ (sym (types_more s sense o (take i list) d)
          ∙ ap (λ (l : List Declared). all_together o (types_of s sense l)) (sym (ap (λ (k : ℕ). take k list) (add-one i) ∙ take-suc list i no_link.declared lt)))));
    }

pub returns-in_err-so_far-clause-builds : goal.returns-in_err-so_far-clause-builds
returns-in_err-so_far-clause-builds c = builds_on c.args.unit.now c.loop-declared.unit c.one_more.new.unit c.loop-declared.invariant.builds c.in_err-so_far.ensures.builds

pub returns-clause-made : goal.returns-clause-made
returns-clause-made c = λ uses.
    let s = source_in c.args.syntax.now uses in
    let sense = sense_in (senses_made c.args.unit.now c.args.results.now) in
    let list = c.args.list.now in
    let whole : c.loop-declared.declared-index ≡ length list = omega arith in
    c.loop-declared.invariant.made uses
    ∙ ap (λ (l : List Declared). all_together (type_in c.args.unit.now.types c.args.before) (types_of s sense l)) (ap (λ (k : ℕ). take k list) whole ∙ take-length list)
