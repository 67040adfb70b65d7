use Rattle.std.proofs.Common.{◌+◌, ℕ, ap}
use Rattle.obj_space.specs.View.{view_of}
use Rattle.constraints.proofs.CallLemmas.{calls_few}
use Rattle.constraints.proofs.Demanded.{listed}
use Rattle.constraints.proofs.whole.numbered.Goals as goal

pub constraints-requires-clause-calls : goal.constraints-requires-clause-calls
constraints-requires-clause-calls c = calls_few c.args.program.now (view_of c.args.space.now) c.args.normal.now c.requires.numbered c.requires.normal

pub returns : goal.returns
returns c =
    let s = view_of c.args.space.now in
    let whole = c.requires.normal in
    record {
      owners = whole.owners;
      around = whole.around;
      rows = ap (λ (n : ℕ). n + 1) c.requires.results.none;
      locations = c.in_ok-location_facts.ensures;
      types = c.in_ok-type_facts.ensures;
      constraints = rw (c.in_ok-constraints.ensures, c.in_ok-copy_calls.ensures) (listed c.args.program.now s c.args.normal.now whole);
      calls = rw c.in_ok-copy_calls.ensures whole.calls;
      functions = c.in_ok-function_facts.ensures;
    }
