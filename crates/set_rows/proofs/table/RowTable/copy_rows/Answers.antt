use Rattle.std.proofs.Common.{◌≡◌, ◌<◌, ◌++◌, ◌∷◌, [], ℕ, List, length, arith, sym, ◌∙◌, subst, subst₂, ap, length-append, true, ◌+◌, get_or, ext_get_or}
use Rattle.sol_model.specs.declared.system.System.{System}
use Rattle.sol_model.specs.Systems.{Fits}
use Rattle.sol_model.specs.Solutions.{IsLeast}
use Rattle.sol_model.specs.Families.{shown}
use Rattle.set_rows.specs.declared.view.View.{View}
use Rattle.set_rows.specs.Views.{OnlyLooked, IsLeastWord, words_of}
use Rattle.set_rows.specs.Calls.{view}
use Rattle.set_rows.proofs.Adding.{same_more}
use Rattle.set_rows.proofs.Copies.{AllLeast, copied, more_least, still_looked}
use Rattle.set_rows.proofs.table.RowTable.copy_rows.Goals as goal

pub loop-word-preserved : goal.loop-word-preserved
loop-word-preserved c =
    let i = c.loop-word.invariant in
    let t = c.args.self.now in
    let S = c.args.self.now.table.shared.key in
    let before : c.reserve.new.self.items ≡ c.loop-word.words.items = c.in_ok-reserve.ensures.items in
    let items : c.push_reserved.new.self.items ≡ c.loop-word.words.items ++ c.look.result ∷ [] = c.push_reserved.ensures.items ∙ ap (λ (xs : List ℕ). xs ++ c.look.result ∷ []) before in
    let lt : c.loop-word.word < length (view c.loop-word.seat).seen = (let n : t.count ≡ words_of S = t.counted in let m : length (view c.loop-word.seat).seen ≡ words_of S = c.loop-word.seat.sized ∙ ap words_of i.own.1 in let w = c.loop-word-test.true in omega arith) in
    let knows : (view c.loop-word.seat).knows ≡ true = c.loop-word.seat.told (i.view.last ∙ c.requires.closed) in
    record {
      own = c.look.ensures.own;
      view = subst (OnlyLooked (view c.args.seat.now)) (sym c.look.ensures.view) (still_looked (view c.args.seat.now) (view c.loop-word.seat) c.loop-word.word c.look.result i.view lt c.look.ensures.seen);
      sized = ap (λ (xs : List ℕ). length xs) items ∙ length-append c.loop-word.words.items (c.look.result ∷ []) ∙ ap (λ n. n + 1) i.sized;
      least = subst (AllLeast S) (sym items) (more_least S c.loop-word.words.items c.look.result i.least (subst (λ (T : System). IsLeastWord T (length c.loop-word.words.items) c.look.result) i.own.1 (subst (λ (n : ℕ). IsLeastWord (view c.loop-word.seat).system n c.look.result) (sym i.sized) (c.look.ensures.least knows))));
      same = subst₂ (λ (xs : List ℕ) (w : View). (k : ℕ) → k < length xs → get_or w.seen k 0 ≡ get_or xs k 0) (sym items) (sym c.look.ensures.view)
          (same_more (view c.loop-word.seat).seen c.loop-word.words.items c.loop-word.word c.look.result i.same i.sized lt);
    }

pub returns-clause-fits : goal.returns-clause-fits
returns-clause-fits c =
    let t = c.args.self.now in
    let S = t.table.shared.key in
    let n : t.count ≡ words_of S = t.counted in
    let e : length c.loop-word.words.items ≡ c.loop-word.word = c.loop-word.invariant.sized in
    let r = copied S t.width c.loop-word.words.items t.valid t.wide (let w : length c.loop-word.words.items ≡ t.count = omega arith in w ∙ n) c.loop-word.invariant.least in
    subst (λ (words : List ℕ). Fits S record { width = t.width; words = words }) (sym c.of.ensures) record { width = t.wide; words = r.0; no_others = r.1 }

pub returns-clause-least : goal.returns-clause-least
returns-clause-least c =
    let t = c.args.self.now in
    let S = t.table.shared.key in
    let n : t.count ≡ words_of S = t.counted in
    let e : length c.loop-word.words.items ≡ c.loop-word.word = c.loop-word.invariant.sized in
    let r = copied S t.width c.loop-word.words.items t.valid t.wide (let w : length c.loop-word.words.items ≡ t.count = omega arith in w ∙ n) c.loop-word.invariant.least in
    subst (λ (words : List ℕ). IsLeast S (shown t.width words)) (sym c.of.ensures) r.2

pub returns-clause-seen : goal.returns-clause-seen
returns-clause-seen c =
    let t = c.args.self.now in
    let S = t.table.shared.key in
    let u = view c.loop-word.seat in
    let i = c.loop-word.invariant in
    let n : t.count ≡ words_of S = t.counted in
    let m : length u.seen ≡ words_of S = c.loop-word.seat.sized ∙ ap words_of i.own.1 in
    let e : length c.loop-word.words.items ≡ c.loop-word.word = i.sized in
    let l : length c.loop-word.words.items ≡ length u.seen = (let w : length c.loop-word.words.items ≡ t.count = omega arith in w ∙ n ∙ sym m) in
    c.of.ensures ∙ ext_get_or 0 c.loop-word.words.items u.seen l (λ k lt. sym (i.same k lt))
