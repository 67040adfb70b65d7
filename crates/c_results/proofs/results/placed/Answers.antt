use Rattle.std.proofs.Common.{arith, ◌+◌, ◌∙◌, ◌≡◌, ap, List, length, length-append, ◌∷◌, []}
use Rattle.c_results.specs.declared.made.Made.{Made}
use Rattle.c_results.specs.Placed.{made_at_place}
use Rattle.c_results.proofs.Places.{at_more, at_end}
use Rattle.c_results.proofs.results.placed.Goals as goal

pub returns : goal.returns
returns c =
    let old = c.args.list.now.items in
    let items = c.in_ok-push.ensures.items in
    let long = ap (λ (l : List Made). length l) items in
    let count : c.len-count.result ≡ length old = omega (arith, c.len-count.ensures, c.args.list.now.ok) in
    let more = length-append old (c.args.made ∷ []) in
    record {
      more = omega (arith, long, more);
      kept = λ place h. ap (λ (l : List Made). made_at_place l place) items ∙ at_more old c.args.made place h;
      there = ap (λ (l : List Made). made_at_place l (c.len-count.result + 1)) items ∙ at_end old c.args.made c.len-count.result count;
      within = omega (arith, long, more, count);
    }
