use Rattle.std.proofs.Common.{ℕ, ◌≡◌, ◌<◌, ◌≤◌, [], length, get_or}
use Rattle.std.proofs.lemmas.Bool.{MatchBool-at_true, MatchBool-at_false}
use Rattle.std.specs.Prelude.{None}
use Rattle.row_share.specs.share_laws.Gathered.{class_of, IsGathering, ArePartly, HasClass}
use Rattle.row_share.proofs.share_laws.Gathering.{partly_more}
use Rattle.row_share.proofs.share_laws.Marking.{gathered_after, from_last_on}
use Rattle.row_share.proofs.row_classes.Books.{on_ok}
use Rattle.row_share.proofs.row_classes.gather.classify.Goals as goal

pub returns-then-has_class-clause-after : goal.returns-then-has_class-clause-after
returns-then-has_class-clause-after c = from_last_on c.args.classes.now c.args.order.now c.args.last
    (MatchBool-at_true (HasClass c.args.classes.now (get_or c.args.order.now c.args.last 0)) (class_of c.args.classes.now (get_or c.args.order.now c.args.last 0) ≡ None) c.if-has_class.true c.has_class.ensures) c.requires.after

pub returns-clause-partly : goal.returns-clause-partly
returns-clause-partly c =
    let none : class_of c.args.classes.now (get_or c.args.order.now c.args.last 0) ≡ None = MatchBool-at_false (HasClass c.args.classes.now (get_or c.args.order.now c.args.last 0)) (class_of c.args.classes.now (get_or c.args.order.now c.args.last 0) ≡ None) c.if-has_class.false c.has_class.ensures in
    on_ok c.gather.result (IsGathering c.args.system.now c.args.order.now c.args.last c.class_for-class.result c.args.classes.now c.gather.new.classes []) (ArePartly c.args.system.now c.gather.new.classes)
    (partly_more c.args.system.now c.args.order.now c.args.last c.class_for-class.result c.args.classes.now c.gather.new.classes c.requires.partly (c.requires.order.known c.args.last c.requires.last) none c.class_for-class.ensures)
    c.gather.ensures.gathered

pub returns-clause-after : goal.returns-clause-after
returns-clause-after c =
    on_ok c.gather.result (IsGathering c.args.system.now c.args.order.now c.args.last c.class_for-class.result c.args.classes.now c.gather.new.classes [])
    ((i : ℕ) → c.args.last ≤ i → i < length c.args.order.now → HasClass c.gather.new.classes (get_or c.args.order.now i 0))
    (λ g. gathered_after c.args.system.now c.args.order.now c.args.last c.class_for-class.result c.args.classes.now c.gather.new.classes g c.requires.after)
    c.gather.ensures.gathered
