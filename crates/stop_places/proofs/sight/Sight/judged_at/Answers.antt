use Rattle.std.proofs.Common.{◌≡◌, ◌<◌, length, get_or, ap, ◌∙◌, arith}
use Rattle.std.proofs.lemmas.List.FromFn.{length-map-range_with_len}
use Rattle.call_sites.specs.Calls.{calls_upto}
use Rattle.stop_places.specs.Sight.{solution_in}
use Rattle.stop_places.proofs.Pushed.{read_map}
use Rattle.stop_places.proofs.Sighted.{called, uncalled}
use Rattle.stop_places.proofs.sight.Sight.judged_at.Goals as goal

pub bounds-self-n : goal.bounds-self-n
bounds-self-n c =
    let nodes = c.args.self.now.program.now.nodes.items in
    let long : length c.args.self.now.calls.now ≡ length nodes = ap length c.requires.sight.calls ∙ length-map-range_with_len (λ n. length (calls_upto nodes n)) 0 (length nodes) in
    omega (arith, long, c.requires.node)

pub returns-then-number-self : goal.returns-then-number-self
returns-then-number-self c =
    let s = c.args.self.now in
    let nodes = s.program.now.nodes.items in
    let is = read_map (λ n. length (calls_upto nodes n)) (length nodes) c.args.n s.calls.now 0 c.requires.sight.calls c.requires.node in
    let many = c.requires.sight.judged.each in
    let below = c.if-number-self.true in
    let lt : get_or s.calls.now c.args.n 0 < length s.system.now.calls = omega (arith, many, below) in
    called (solution_in s) c.args.n (get_or s.calls.now c.args.n 0) _ is lt (c.requires.sight.judged.right (get_or s.calls.now c.args.n 0) lt)

pub returns : goal.returns
returns c =
    let s = c.args.self.now in
    let nodes = s.program.now.nodes.items in
    let is = read_map (λ n. length (calls_upto nodes n)) (length nodes) c.args.n s.calls.now 0 c.requires.sight.calls c.requires.node in
    let many = c.requires.sight.judged.each in
    let past = c.if-number-self.false in
    uncalled (solution_in s) c.args.n (get_or s.calls.now c.args.n 0) is (omega (arith, many, past))
