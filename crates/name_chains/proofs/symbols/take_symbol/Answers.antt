use Rattle.std.proofs.Common.{◌≡◌, List, [], ◌∷◌, ◌++◌, Some, length, sym, ap, subst, ◌∙◌, arith}
use Rattle.name_chains.specs.declared.links.Link.{Link}
use Rattle.name_chains.specs.Symbols.{Last, last_at}
use Rattle.name_chains.proofs.Symboled.{last_more}
use Rattle.name_chains.proofs.symbols.take_symbol.Goals as goal

pub returns : goal.returns
returns c = λ n ds lt h.
    let d = c.args.declared in
    let old = c.args.links.now.items in
    let symbols = c.args.symbols.now in
    let symbols' = c.put.new.symbols in
    let place : c.in_ok-place.place ≡ length old = omega arith in
    let more = last_more n ds d old symbols symbols' h lt (c.in_ok-put.ensures.here ∙ ap Some place) c.in_ok-put.ensures.others in
    let items : c.push.new.self.items ≡ old ++ record { before = last_at symbols d.symbol; declared = d } ∷ [] =
    c.in_ok-push.ensures.items ∙ ap (λ o. old ++ record { before = o; declared = d } ∷ []) c.last_of-before.ensures in
    subst (λ (l : List Link). Last n (ds ++ d ∷ []) l symbols') (sym items) more
