use Rattle.std.proofs.Common.{◌≡◌, ℕ, get_or, Contains, refl, sym, subst, arith}
use Rattle.std.proofs.lemmas.Option.{slice_get-get_or}
use Rattle.new_members.proofs.Taking.{takes_one}
use Rattle.new_members.proofs.Through.{OfAll, takes_start, takes_next, takes_all, takes_same}
use Rattle.new_members.proofs.books.add_all.Goals as goal

abbrev Same : ℕ × ℕ → ℕ → ℕ → Type 0
Same pair a b = (a ≡ pair.0) × (b ≡ pair.1)

pub loop-from-init : goal.loop-from-init
loop-from-init c = takes_start c.args.pairs.now Same c.args.book.now

pub loop-from-preserved : goal.loop-from-preserved
loop-from-preserved c =
    let pairs = c.args.pairs.now in
    let i : ℕ = c.loop-from.from-index in
    let pair : ℕ × ℕ = get_or pairs i (0, 0) in
    takes_next pairs Same c.args.book.now c.loop-from.book c.add.new.self i pair c.loop-from.invariant (slice_get-get_or pairs i (0, 0) c.loop-from-test.true)
    (takes_one c.loop-from.book c.add.new.self pair.0 pair.1 c.in_ok-add.field-0 c.in_ok-add.ensures.added c.in_ok-add.ensures.new)

pub returns : goal.returns
returns c =
    let pairs = c.args.pairs.now in
    takes_same c.args.book.now c.loop-from.book (OfAll pairs Same) (λ a b. Contains pairs (a, b))
    (λ a b h. subst (Contains pairs) (λ i. (sym h.2.0 i, sym h.2.1 i)) h.1)
    (λ a b h. ((a, b), h, (refl, refl)))
    (takes_all pairs Same c.args.book.now c.loop-from.book c.loop-from.from-index (let n = c.loop-from-test.false in omega arith) c.loop-from.invariant)
