use Rattle.std.proofs.Common.{◌≡◌, ◌<◌, ◌+◌, ℕ, List, [], ◌∷◌, ◌++◌, length, get_or, take, sym, ap, subst, ◌∙◌, arith, add-one}
use Rattle.std.proofs.Math.Seq.{take-suc, take-length}
use Rattle.c_scope.specs.declared.kinds.Declared.{Declared}
use Rattle.name_chains.specs.Symbols.{Last, AreSymbols}
use Rattle.name_chains.proofs.Linked.{no_link}
use Rattle.name_chains.proofs.Symboled.{last_none}
use Rattle.name_chains.proofs.symbols.symbol_chains.Goals as goal

pub loop-declared-init : goal.loop-declared-init
loop-declared-init c = λ n all. last_none n c.new-links.result.items c.new-symbols.result c.new-links.ensures.items c.new-symbols.ensures.empty

pub loop-declared-preserved : goal.loop-declared-preserved
loop-declared-preserved c = λ n all.
    let names = c.args.names.now in
    let i = c.loop-declared.declared-index in
    let lt : i < length names = omega arith in
    let d : Declared = get_or names i no_link.declared in
    let more : take (i + 1) names ≡ take i names ++ d ∷ [] = ap (λ (k : ℕ). take k names) (add-one i) ∙ take-suc names i no_link.declared lt in
    subst (λ (l : List Declared). Last n l c.take_symbol.new.links.items c.take_symbol.new.symbols) (sym more)
    (c.in_ok-take_symbol.ensures n (take i names) (all i no_link.declared lt) (c.loop-declared.invariant n all))

pub returns : goal.returns
returns c = λ n all.
    let names = c.args.names.now in
    let whole : c.loop-declared.declared-index ≡ length names = omega arith in
    subst (λ (l : List Declared). AreSymbols n l c.loop-declared.links.items) (ap (λ (k : ℕ). take k names) whole ∙ take-length names) (c.loop-declared.invariant n all).all
