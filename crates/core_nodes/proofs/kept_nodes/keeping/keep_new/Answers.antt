use Rattle.std.proofs.Common.{arith, ◌≡◌, ◌∙◌, ◌+◌, ◌-◌, ◌<◌, ◌++◌, ℕ, List, length, length-append, take, drop, refl, sym, ap, subst}
use Rattle.std.proofs.lemmas.List.{take-append-drop}
use Rattle.core_tree.specs.declared.node.Node.{Node}
use Rattle.core_tree.specs.declared.node.Unit.{Unit}
use Rattle.core_nodes.specs.kept_nodes.Marked.{AreMarked}
use Rattle.core_nodes.proofs.kept_nodes.Trees.{keeps_before, tree_kept, all_under, number_read}
use Rattle.core_nodes.proofs.kept_nodes.keeping.keep_new.Goals as goal

-- what was cut off and what is left are all
joined : (left rest cut all : List Node) (from : ℕ) → left ≡ take from all → rest ≡ cut → cut ≡ drop from all → left ++ rest ≡ all
joined left rest cut all from el er ec = ap (λ (l : List Node). l ++ rest) el ∙ (ap (λ (l : List Node). take from all ++ l) (er ∙ ec) ∙ take-append-drop from all)

pub returns-in_err-numbers-clause-keeps : goal.returns-in_err-numbers-clause-keeps
returns-in_err-numbers-clause-keeps c =
    let u0 = c.args.unit.now in
    let u1 : Unit = record u0 { nodes = c.split_off.new.self } in
    let rest = c.from_vec-rest.result.items in
    let whole = joined u1.nodes.items rest c.in_ok-cut.cut.items u0.nodes.items c.args.from c.in_ok-cut.ensures.items c.from_vec-rest.ensures.items c.in_ok-cut.ensures.tail in
    let left : c.args.from ≡ length u1.nodes.items = omega (arith, c.in_ok-cut.ensures.len) in
    keeps_before u0 u1 c.copies.new.unit rest c.args.from refl refl whole left c.copies.ensures.builds

pub returns-clause-keeps : goal.returns-clause-keeps
returns-clause-keeps c =
    let u0 = c.args.unit.now in
    let u1 : Unit = record u0 { nodes = c.split_off.new.self } in
    let rest = c.from_vec-rest.result.items in
    let whole = joined u1.nodes.items rest c.in_ok-cut.cut.items u0.nodes.items c.args.from c.in_ok-cut.ensures.items c.from_vec-rest.ensures.items c.in_ok-cut.ensures.tail in
    let left : c.args.from ≡ length u1.nodes.items = omega (arith, c.in_ok-cut.ensures.len) in
    keeps_before u0 u1 c.copies.new.unit rest c.args.from refl refl whole left c.copies.ensures.builds

pub returns-clause-tree : goal.returns-clause-tree
returns-clause-tree c =
    let u0 = c.args.unit.now in
    let u1 : Unit = record u0 { nodes = c.split_off.new.self } in
    let rest = c.from_vec-rest.result.items in
    let numbers = c.in_ok-numbers.numbers.items in
    let whole = joined u1.nodes.items rest c.in_ok-cut.cut.items u0.nodes.items c.args.from c.in_ok-cut.ensures.items c.from_vec-rest.ensures.items c.in_ok-cut.ensures.tail in
    let left : c.args.from ≡ length u1.nodes.items = omega (arith, c.in_ok-cut.ensures.len) in
    let on = subst (λ (l : List Node). AreMarked l c.args.from c.args.top c.in_ok-marks.marks.items) c.as_slice.ensures.value c.in_ok-marks.ensures.marked in
    let copied = c.in_ok-numbers.ensures.copied in
    let long : length u0.nodes.items ≡ length u1.nodes.items + length rest = sym (ap length whole) ∙ length-append u1.nodes.items rest in
    let few : c.args.top - c.args.from < length numbers = omega (arith, copied.long, long, left, c.requires.top, c.requires.from) in
    let read = number_read numbers (c.args.top - c.args.from) c.index.result.now few c.index.ensures in
    tree_kept u0 u1 c.copies.new.unit rest c.args.from refl refl whole left c.copies.ensures.builds c.args.top c.in_ok-marks.marks.items c.as_slice-2.result.now numbers c.requires.from c.requires.top c.as_slice-2.ensures.value on copied c.index.result.now read

pub returns-clause-only : goal.returns-clause-only
returns-clause-only c =
    let u0 = c.args.unit.now in
    let u1 : Unit = record u0 { nodes = c.split_off.new.self } in
    let rest = c.from_vec-rest.result.items in
    let numbers = c.in_ok-numbers.numbers.items in
    let whole = joined u1.nodes.items rest c.in_ok-cut.cut.items u0.nodes.items c.args.from c.in_ok-cut.ensures.items c.from_vec-rest.ensures.items c.in_ok-cut.ensures.tail in
    let left : c.args.from ≡ length u1.nodes.items = omega (arith, c.in_ok-cut.ensures.len) in
    let on = subst (λ (l : List Node). AreMarked l c.args.from c.args.top c.in_ok-marks.marks.items) c.as_slice.ensures.value c.in_ok-marks.ensures.marked in
    let copied = c.in_ok-numbers.ensures.copied in
    let long : length u0.nodes.items ≡ length u1.nodes.items + length rest = sym (ap length whole) ∙ length-append u1.nodes.items rest in
    let few : c.args.top - c.args.from < length numbers = omega (arith, copied.long, long, left, c.requires.top, c.requires.from) in
    let read = number_read numbers (c.args.top - c.args.from) c.index.result.now few c.index.ensures in
    all_under u0 u1 c.copies.new.unit rest c.args.from refl refl whole left c.copies.ensures.builds c.args.top c.in_ok-marks.marks.items c.as_slice-2.result.now numbers c.requires.from c.requires.top c.as_slice-2.ensures.value on copied c.index.result.now read c.copies.ensures.ready
