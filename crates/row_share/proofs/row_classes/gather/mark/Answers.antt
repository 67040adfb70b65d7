use Rattle.std.proofs.Common.{◌≡◌, ℕ, ◌<◌, List, length, get_or, refl, sym, subst, arith}
use Rattle.std.proofs.lemmas.List.Elements.{Contains-get_or}
use Rattle.sol_model.specs.Systems.{IsRow}
use Rattle.edge_book.specs.Leaving.{targets_of}
use Rattle.row_share.specs.share_laws.Classes.{IsCopy}
use Rattle.row_share.proofs.share_laws.Marking.{Marks, marks_more, source_rows, way_next}
use Rattle.row_share.proofs.row_classes.gather.mark.Goals as goal

pub give-requires : goal.give-requires
give-requires c =
    let sources = c.targets-sources.result.now in
    let known : IsRow c.args.system.now (get_or sources c.loop-source.source-index 0) = subst (λ (xs : List ℕ). c.loop-source.source-index < length xs → IsRow c.args.system.now (get_or xs c.loop-source.source-index 0)) (sym c.targets-sources.ensures)
    (λ lt. source_rows c.args.system.now c.requires.valid (λ row. targets_of row c.args.copies_back.now) c.requires.copies c.args.row c.loop-source.source-index 0 lt) c.loop-source-test.true in
    let s = c.loop-source.invariant.sized in let z = c.requires.sized in omega arith

pub loop-source-preserved : goal.loop-source-preserved
loop-source-preserved c =
    let sources = c.targets-sources.result.now in
    let x = get_or sources c.loop-source.source-index 0 in
    let known : IsRow c.args.system.now (get_or sources c.loop-source.source-index 0) = subst (λ (xs : List ℕ). c.loop-source.source-index < length xs → IsRow c.args.system.now (get_or xs c.loop-source.source-index 0)) (sym c.targets-sources.ensures)
    (λ lt. source_rows c.args.system.now c.requires.valid (λ row. targets_of row c.args.copies_back.now) c.requires.copies c.args.row c.loop-source.source-index 0 lt) c.loop-source-test.true in
    let copy : IsCopy c.args.system.now (get_or sources c.loop-source.source-index 0) c.args.row = subst (λ (xs : List ℕ). c.loop-source.source-index < length xs → IsCopy c.args.system.now (get_or xs c.loop-source.source-index 0) c.args.row) (sym c.targets-sources.ensures)
    (λ lt. c.requires.copies.copies _ c.args.row (Contains-get_or (targets_of c.args.row c.args.copies_back.now) c.loop-source.source-index 0 lt)) c.loop-source-test.true in
    let small : get_or sources c.loop-source.source-index 0 < length c.loop-source.classes = (let s = c.loop-source.invariant.sized in let z = c.requires.sized in omega arith) in
    marks_more c.args.system.now c.args.class c.args.row x c.loop-source.source-index sources c.args.classes.now c.loop-source.classes c.give.new.classes c.args.waiting.now.items c.loop-source.waiting.items c.give.new.waiting.items
    c.loop-source.invariant c.loop-source-test.true refl known copy small c.in_ok-give.ensures

pub returns-clause-way : goal.returns-clause-way
returns-clause-way c order last oldest w =
    let sources = c.targets-sources.result.now in
    let end : c.loop-source.source-index ≡ length sources = omega arith in
    way_next c.args.system.now order last c.args.class c.args.row (λ row. targets_of row c.args.copies_back.now) oldest c.args.classes.now c.loop-source.classes c.args.waiting.now.items c.loop-source.waiting.items c.requires.copies
    (subst (λ (xs : List ℕ). Marks c.args.system.now c.args.class c.args.row xs c.args.classes.now c.loop-source.classes c.args.waiting.now.items c.loop-source.waiting.items (length xs)) c.targets-sources.ensures
    (subst (λ (n : ℕ). Marks c.args.system.now c.args.class c.args.row sources c.args.classes.now c.loop-source.classes c.args.waiting.now.items c.loop-source.waiting.items n) end c.loop-source.invariant)) w
