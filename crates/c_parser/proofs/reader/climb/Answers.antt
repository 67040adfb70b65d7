use Rattle.std.proofs.Common.{◌≡◌, ℕ, ◌-◌, List, [], ◌∷◌, ◌++◌, map, refl, sym, ap, ◌∙◌, subst, arith}
use Rattle.std.proofs.lemmas.List.{length-map}
use Rattle.c_grammar.specs.Notes.{noted, no_notes}
use Rattle.c_grammar.specs.Names.{Names}
use Rattle.c_grammar.specs.declared.trees.SyntaxNode.{SyntaxNode}
use Rattle.c_grammar.specs.Tree.{nests}
use Rattle.c_grammar.specs.Reads.{node_of}
use Rattle.c_parser.specs.declared.levels.Part.{Part}
use Rattle.c_parser.specs.declared.reader.Own.{Own}
use Rattle.c_parser.specs.declared.reader.Frame.{Frame}
use Rattle.c_parser.specs.declared.reader.Progress.{Progress}
use Rattle.c_parser.specs.Parse.{state}
use Rattle.c_parser.specs.Leads.{at_part}
use Rattle.c_parser.proofs.Chains.{run_parts, climbs}
use Rattle.c_parser.proofs.reader.climb.Goals as goal

part_is : (place : ℕ) (scopes : Names) (nodes : List SyntaxNode) (own : Own) (part : ℕ) → own.children.items ≡ part ∷ [] → noted own.notes ≡ no_notes → state place scopes nodes own ≡ at_part place scopes (map node_of nodes) part
part_is place scopes nodes own part e f = cc

pushed_one : (xs ys : List ℕ) (n : ℕ) → xs ≡ ys ++ n ∷ [] → ys ≡ [] → xs ≡ n ∷ []
pushed_one xs ys n e f = e ∙ ap (λ zs. zs ++ n ∷ []) f

pub overflow_sub-from : goal.overflow_sub-from
overflow_sub-from c = let p = run_parts c.args.progress.now.top.outermost c.args.progress.now.top.production c.requires in omega (arith, p.1)

pub add_levels-requires-clause-from : goal.add_levels-requires-clause-from
add_levels-requires-clause-from c = (run_parts c.args.progress.now.top.outermost c.args.progress.now.top.production c.requires).0

pub add_levels-requires-clause-order : goal.add_levels-requires-clause-order
add_levels-requires-clause-order c = let p = run_parts c.args.progress.now.top.outermost c.args.progress.now.top.production c.requires in omega (arith, p.1)

pub add_levels-requires-clause-to : goal.add_levels-requires-clause-to
add_levels-requires-clause-to c = let p = run_parts c.args.progress.now.top.outermost c.args.progress.now.top.production c.requires in omega (arith, p.1, p.2)

pub returns-clause-turns : goal.returns-clause-turns
returns-clause-turns c = λ text tokens scopes sees none.
    let old = c.args.progress.now in
    let to = c.in_ok-to.to in
    let from : Part = record { level = old.top.production - 1; depth = c.saturating_sub.result; number = c.in_ok-number.number } in
    let top : Frame = record old.top { production = to.level; at = 1; depth = to.depth } in
    let own : Own = record { children = c.push.new.self; notes = c.new-2.result } in
    let new : Progress = record { ahead = old.ahead; own = own; top = top; users = old.users } in
    let made = c.in_ok-number.ensures in
    let up : c.saturating_sub.result ≡ old.top.depth - nests old.top.production = omega (arith, c.nests.ensures.is) in
    let given = c.replace-children.ensures.value in
    let kept_children : c.replace-children.result.items ≡ old.own.children.items = cc in
    let node = subst (λ (xs : List ℕ). map node_of c.make_level.new.nodes.items ≡ map node_of c.args.nodes.now.items ++ (record { production = old.top.production; token = old.top.token; children = xs }) ∷ []) kept_children made.1 in
    let after = c.replace-children.ensures.after in
    let none_yet = c.new.ensures.items in
    let bare : c.replace-children.new.dest.items ≡ [] = cc in
    let part : state old.ahead.place scopes c.add_levels.new.nodes.items own ≡ at_part old.ahead.place scopes (map node_of c.add_levels.new.nodes.items) to.number =
    part_is old.ahead.place scopes c.add_levels.new.nodes.items own to.number (pushed_one own.children.items c.replace-children.new.dest.items to.number c.in_ok-push.ensures.items bare) c.new-2.ensures in
    climbs text tokens old new scopes c.args.nodes.now.items c.add_levels.new.nodes.items (map node_of c.make_level.new.nodes.items) from to old.ahead.first c.requires none refl up (made.0 ∙ sym (length-map c.args.nodes.now.items node_of)) node c.in_ok-to.ensures.raised (sym sees.0)
    c.in_ok-to.ensures.from c.in_ok-to.ensures.to refl refl part
