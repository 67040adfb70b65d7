use Rattle.std.proofs.Common.{Bool, ◌≡◌, ℕ, List, length, [], Ok, refl, ap, subst, arith}
use Rattle.c_grammar.specs.Names.{Names}
use Rattle.c_grammar.specs.declared.trees.SyntaxNode.{SyntaxNode}
use Rattle.c_grammar.specs.Reads.{State, Opens}
use Rattle.c_parser.specs.declared.reader.Own.{Own}
use Rattle.c_lexer.specs.declared.Token.{Token}
use Rattle.c_grammar.specs.Notes.{noted, no_notes}
use Rattle.c_parser.specs.Parse.{state, begin, Faults}
use Rattle.c_parser.specs.Leads.{Ends, IsTurned}
use Rattle.c_parser.proofs.reader.read_production.Goals as goal

start_is : (place at : ℕ) (scopes : Names) (nodes : List SyntaxNode) (own : Own) → place ≡ at → own.children.items ≡ [] → noted own.notes ≡ no_notes → state place scopes nodes own ≡ begin at scopes nodes
start_is place at scopes nodes own a b e = cc

pub returns-in-Err : goal.returns-in-Err
returns-in-Err c =
    let text = c.args.tokens.now.text.now in
    let nodes = c.args.tree.now.nodes.items in
    let own : Own = record { children = c.new.result; notes = c.new-2.result } in
    let start = start_is c.look-ahead.result.place c.args.at c.args.scopes.now nodes own c.look-ahead.ensures.place c.new.ensures.items c.new-2.ensures in
    let h = c.in-Err.ensures c.args.scopes.now nodes c.look-ahead.ensures.sees in
    subst (λ ts. Faults (Opens text ts c.args.production c.args.depth (begin c.args.at c.args.scopes.now nodes)) c.in-Err.fault) c.deref.ensures.value
    (subst (λ s. Faults (Opens text c.deref.result.now c.args.production c.args.depth s) c.in-Err.fault) start h)

pub turns-init : goal.turns-init
turns-init c =
    let text = c.args.tokens.now.text.now in
    let ts = c.deref.result.now in
    let nodes = c.args.tree.now.nodes.items in
    let own : Own = record { children = c.new.result; notes = c.new-2.result } in
    let start = start_is c.look-ahead.result.place c.args.at c.args.scopes.now nodes own c.look-ahead.ensures.place c.new.ensures.items c.new-2.ensures in
    record {
      within = omega (arith, c.requires.within, c.look-ahead.ensures.place, ap (λ (xs : List Token). length xs) c.deref.ensures.value);
      sees = c.look-ahead.ensures.sees;
      leads = λ r l.
          let o = c.in-Ok.ensures c.args.scopes.now nodes c.look-ahead.ensures.sees l.0 l.2.0 l.1 l.2.1 in
          let e : l.2.0 ≡ r = subst (λ us. Ends text ts us l.2.0 r) c.new-3.ensures.items l.2.2 in
          subst (λ x. Opens text ts c.args.production c.args.depth (begin c.args.at c.args.scopes.now nodes) x) e (subst (λ s. Opens text ts c.args.production c.args.depth s l.2.0) start o);
      unit = refl;
      root = refl;
    }

pub returns-in-Ok-false : goal.returns-in-Ok-false
returns-in-Ok-false c =
    let text = c.args.tokens.now.text.now in
    let ts = c.deref.result.now in
    let p = c.turn.new.progress in
    let q = c.turns.progress in
    let last : State = state p.ahead.place c.turn.new.scopes c.turn.new.nodes.items p.own in
    let l = subst (λ (b : Bool). IsTurned text ts b q c.turns.scopes c.turns.tree.nodes.items p c.turn.new.scopes c.turn.new.nodes.items) c.in-Ok-false.field-0-test c.in-Ok-false.ensures.turns in
    let o = subst (λ (xs : List Token). Opens text xs c.args.production c.args.depth (begin c.args.at c.args.scopes.now c.args.tree.now.nodes.items) (Ok last)) c.deref.ensures.value (c.turns.invariant.leads (Ok last) l) in
    ((last, o, refl, refl, refl), c.turns.invariant.unit, c.turns.invariant.root)

pub turns-preserved : goal.turns-preserved
turns-preserved c =
    let text = c.args.tokens.now.text.now in
    let ts = c.deref.result.now in
    let p = c.turn.new.progress in
    let q = c.turns.progress in
    let turned = subst (λ (b : Bool). IsTurned text ts b q c.turns.scopes c.turns.tree.nodes.items p c.turn.new.scopes c.turn.new.nodes.items) c.in-Ok-true.field-0-test c.in-Ok-true.ensures.turns in
    record {
      within = c.in-Ok-true.ensures.within;
      sees = c.in-Ok-true.ensures.sees;
      leads = λ r l. c.turns.invariant.leads r (turned r l);
      unit = c.turns.invariant.unit;
      root = c.turns.invariant.root;
    }
