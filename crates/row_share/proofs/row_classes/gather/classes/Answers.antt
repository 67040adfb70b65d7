use Rattle.std.proofs.Common.{ℕ, List, Option, length, sym, ap, subst, arith}
use Rattle.row_share.specs.share_laws.Gathered.{HasClass}
use Rattle.row_share.proofs.row_classes.Books.{written}
use Rattle.row_share.proofs.row_classes.gather.classes.Goals as goal

pub returns-clause-all : goal.returns-clause-all
returns-clause-all c row known =
    let a = c.classify_all.auto.classes in
    let b = c.deref_mut.ensures.len in
    let v = ap length c.deref_mut.ensures.value in
    subst (λ (classes : List (Option ℕ)). HasClass classes row) (sym (written c.in_ok-classes.classes.len c.in_ok-classes.classes.items c.classify_all.new.classes (omega arith) (omega arith)))
    (c.in_ok-classify_all.ensures.all row known)
