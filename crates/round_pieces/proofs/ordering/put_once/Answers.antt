use Rattle.std.proofs.Common.{◌≡◌, ℕ, ◌+◌, List, Bool, [], ◌∷◌, ◌++◌, length, get_or, take, take_all, Contains, Vec, Global, sym, ap, ◌∙◌, subst, subst₂, arith}
use Rattle.std.proofs.lemmas.List.{take_more}
use Rattle.round_pieces.proofs.Marking.{Put, put_none, put_new, put_old}
use Rattle.round_pieces.proofs.ordering.put_once.Goals as goal
use Rattle.round_pieces.proofs.ordering.put_once.Goals.{then-visit+in_ok-push, else-visit}

pub loop-row-init : goal.loop-row-init
loop-row-init c = put_none c.args.out.now.items c.args.marks.now.items c.requires.marked c.requires.once

pub loop-row-preserved : goal.loop-row-preserved
loop-row-preserved c =
    let old = c.args.out.now.items in
    let list = c.args.list.now in
    let i : ℕ = c.loop-row.row-index in
    let row : ℕ = get_or list i 0 in
    let count : ℕ = length c.args.marks.now.items in
    let more : take (i + 1) list ≡ take i list ++ row ∷ [] = take_more list i 0 c.loop-row-test.true in
    elim c.if-visit.branch [
      | then-visit+in_ok-push w ↦
          let new = c.visit.ensures.new w.if-visit.true in
          subst (λ (xs : List ℕ). Put old xs (take (i + 1) list) count c.visit.new.marks.items) (sym (ap (λ (v : Vec ℕ Global). v.items) w.out-is ∙ w.in_ok-push.ensures.items))
          (subst₂ (λ (xs : List ℕ) (ms : List Bool). Put old (c.loop-row.out.items ++ row ∷ []) xs count ms) (sym more) (sym new.2)
          (put_new old c.loop-row.out.items (take i list) count row c.loop-row.marks.items c.loop-row.invariant (let e = c.loop-row.invariant.sized in let l = new.0 in omega arith) new.1))
      | else-visit w ↦
          let was = c.visit.ensures.old w.if-visit.false in
          subst (λ (xs : List ℕ). Put old xs (take (i + 1) list) count c.visit.new.marks.items) (sym (ap (λ (v : Vec ℕ Global). v.items) w.out-is))
          (subst₂ (λ (xs : List ℕ) (ms : List Bool). Put old c.loop-row.out.items xs count ms) (sym more) (sym was.0)
          (put_old old c.loop-row.out.items (take i list) count row c.loop-row.marks.items c.loop-row.invariant (λ lt. was.1 (let e = c.loop-row.invariant.sized in omega arith))))
    ]

pub returns-clause-rows : goal.returns-clause-rows
returns-clause-rows c = λ row h lt. c.loop-row.invariant.rows row (subst (λ (xs : List ℕ). Contains xs row) (sym (take_all c.loop-row.row-index c.args.list.now (let n = c.loop-row-test.false in omega arith))) h) lt

pub returns-clause-marked : goal.returns-clause-marked
returns-clause-marked c = c.loop-row.invariant.marked

pub returns-clause-once : goal.returns-clause-once
returns-clause-once c = c.loop-row.invariant.once

pub returns-clause-kept : goal.returns-clause-kept
returns-clause-kept c = c.loop-row.invariant.kept
