use Rattle.std.proofs.Common.{◌≡◌, ◌<◌, ◌+◌, ℕ, List, [], ◌∷◌, ◌++◌, length, get_or, take, sym, ap, subst, ◌∙◌, arith, add-one}
use Rattle.std.proofs.Math.Seq.{take-suc, take-length}
use Rattle.c_scope.specs.declared.kinds.Declared.{Declared}
use Rattle.name_chains.specs.Seen.{AreChains, Stands, scopes_of}
use Rattle.name_chains.proofs.Linked.{no_link}
use Rattle.name_chains.proofs.building.name_chains.Goals as goal

pub loop-declared-preserved : goal.loop-declared-preserved
loop-declared-preserved c =
    let names = c.args.names.now in
    let i = c.loop-declared.declared-index in
    let lt : i < length names = omega arith in
    let d : Declared = get_or names i no_link.declared in
    let more : take (i + 1) names ≡ take i names ++ d ∷ [] = ap (λ (k : ℕ). take k names) (add-one i) ∙ take-suc names i no_link.declared lt in
    record {
      own = c.in_ok-note.ensures.own;
      links = c.in_ok-note.ensures.links;
      within = c.in_ok-note.ensures.within;
      stands = λ tokens nodes are.
          let n = length nodes in
          let around = scopes_of tokens nodes in
          let there : around d.node ≡ c.as_slice.result.now = sym (c.as_slice.ensures.value ∙ c.in_ok-scopes.ensures tokens nodes are) in
          let inside : d.node < n = subst (λ k. d.node < k) are.count (c.requires.leaves i no_link.declared lt) in
          let stands : Stands n around (take i names ++ d ∷ []) c.note.new.chains c.note.new.places =
          c.in_ok-note.ensures.stands n around (take i names) there inside (c.loop-declared.invariant.stands tokens nodes are) in
          subst (λ (l : List Declared). Stands n around l c.note.new.chains c.note.new.places) (sym more) stands;
    }

pub returns : goal.returns
returns c = λ tokens nodes are.
    let names = c.args.names.now in
    let whole : c.loop-declared.declared-index ≡ length names = omega arith in
    subst (λ (l : List Declared). AreChains (length nodes) (scopes_of tokens nodes) l c.loop-declared.chains) (ap (λ (k : ℕ). take k names) whole ∙ take-length names) (c.loop-declared.invariant.stands tokens nodes are).chains
