use Rattle.std.proofs.Common.{◌≡◌, List, Bool, false, get_or, sym, subst}
use Rattle.c_senses.specs.Entities.{declares_function}
use Rattle.tree_reads.specs.Sources.{source_read}
use Rattle.unit_walk.proofs.unit_rows.initials.initial_row.Goals as goal

pub initial-requires-clause-names : goal.initial-requires-clause-names
initial-requires-clause-names c = c.requires.known.names c.args.results.now

pub returns-clause-row : goal.returns-clause-row
returns-clause-row c w knows fills limits =
    let k = c.args.known.now in
    c.initial.ensures.row w k.bound.now.uses.items
    (record {
      list = record {
        told = record {
          knows = knows;
          functions = λ S leaf. subst (λ (fs : List Bool). get_or fs leaf false ≡ declares_function (source_read k.numbered.now.syntax) S leaf) (sym c.as_slice.ensures.value) (c.requires.known.kinds.functions S leaf);
        };
        fills = fills;
        limited = limits;
      };
      holds = λ leaf e. c.in-Ok.ensures.said c.args.unit.now w leaf e;
    })
