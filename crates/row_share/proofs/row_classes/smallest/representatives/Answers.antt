use Rattle.std.proofs.Common.{◌≡◌, ℕ, List, Option, Some, Vec, Global, length, sym, ap, subst, arith}
use Rattle.row_share.specs.share_laws.Classes.{AreClasses}
use Rattle.row_share.specs.share_laws.Gathered.{class_of, HasClass, AreFirst}
use Rattle.row_share.proofs.share_laws.Gathering.{classes_done}
use Rattle.row_share.proofs.row_classes.Books.{if_ok}
use Rattle.row_share.proofs.row_classes.smallest.representatives.Goals as goal

pub smallest-requires-clause-all : goal.smallest-requires-clause-all
smallest-requires-clause-all c row lt =
    subst (λ (classes : List (Option ℕ)). HasClass classes row) (sym c.deref-4.ensures.value)
    (c.in_ok-classes.ensures.all row (let s = c.in_ok-classes.ensures.partly.sized in let v = ap length c.deref-4.ensures.value in omega arith))

pub smallest-requires-clause-known : goal.smallest-requires-clause-known
smallest-requires-clause-known c row class is =
    let known = (c.in_ok-classes.ensures.partly.known row class (subst (λ (classes : List (Option ℕ)). class_of classes row ≡ Some class) c.deref-4.ensures.value is)).0 in
    let s = c.in_ok-classes.ensures.partly.sized in let v = ap length c.deref-4.ensures.value in omega arith

pub returns : goal.returns
returns c = if_ok c.smallest.result (λ (rows : Vec ℕ Global). AreFirst c.deref-4.result.now rows.items) (λ (rows : Vec ℕ Global). AreClasses c.args.system.now rows.items)
    (λ rows firsts. classes_done c.args.system.now c.in_ok-classes.classes.items rows.items c.requires.valid c.in_ok-classes.ensures.partly c.in_ok-classes.ensures.all
    (subst (λ (classes : List (Option ℕ)). AreFirst classes rows.items) c.deref-4.ensures.value firsts)) c.smallest.ensures
