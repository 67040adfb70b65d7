use Rattle.std.proofs.Common.{ℕ, Bool, List, length, sym, subst}
use Rattle.c_senses.specs.Tree.{Source}
use Rattle.c_senses.specs.Sense.{Sense, sense_in}
use Rattle.c_results.specs.Standing.{senses_made}
use Rattle.tree_reads.specs.Sources.{source_in, source_read}
use Rattle.unit_keys.specs.Placed.{AreInner}
use Rattle.unit_keys.proofs.given_keys.KeyIs.{parents_behind}
use Rattle.unit_keys.proofs.given_keys.given.all_keys.Goals as goal

pub inner_flags-requires-clause-behind : goal.inner_flags-requires-clause-behind
inner_flags-requires-clause-behind c = parents_behind (source_read c.args.syntax.now) c.requires.first

pub returns : goal.returns
returns c = λ u uses roles.
    let s : Source = source_in c.args.syntax.now uses in
    let sense : ℕ → Sense = sense_in (senses_made u c.args.results.now) in
    c.in_ok-list.ensures u uses (record {
      roles = roles;
      inner = subst (λ (l : List Bool). AreInner s sense l (length s.nodes)) (sym c.as_slice.ensures.value) (c.in_ok-inner.ensures uses sense roles);
      free = c.in_ok-free.ensures u uses roles;
      positions = c.in_ok-positions.ensures u uses roles;
    })
