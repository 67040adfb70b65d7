use Rattle.std.proofs.Common.{◌≡◌, ℕ, suc, ◌+◌, ◌*◌, ◌/◌, ◌<◌, ◌≤◌, List, length, get_or, set, bit_or, sym, ap, ◌∙◌, subst, inl, inr, arith, mul-le-mul_right, suc-mul}
use Rattle.std.proofs.lemmas.Bool.{cases_lt}
use Rattle.sol_model.specs.declared.system.System.{System}
use Rattle.sol_model.specs.declared.rows.Rows.{Rows}
use Rattle.sol_model.specs.Families.{Has, shown, members}
use Rattle.sol_model.specs.Systems.{Fits, width_of}
use Rattle.new_members.proofs.Bits.{Added, added_none, added_word}
use Rattle.new_members.proofs.words.take_row.Goals as goal

-- a word of a row stands within the words of all rows
place : (S : System) (rows : Rows) (row k n count : ℕ) → Fits S rows → row < S.rows → n ≡ width_of S → k < n → count ≡ length rows.words → row * n + k < count
place S rows row k n count fits in_rows e lt c =
    let m : suc row * n ≤ S.rows * n = mul-le-mul_right n in_rows in
    let f : length rows.words ≡ S.rows * n = fits.words ∙ ap (λ (w : ℕ). S.rows * w) (sym e) in
    omega (arith, suc-mul row n)

below : (k end n W : ℕ) → k < end → end ≤ W → n ≡ W → k < n
below k end n W lt range e = omega arith

pub loop-k-init : goal.loop-k-init
loop-k-init c = record { width = Rattle.std.proofs.Common.refl; ordered = c.requires.range.0; added = added_none c.args.rows.now.width c.args.row c.args.first c.args.end c.args.words.now c.args.rows.now.words c.requires.among }

pub bounds-as_slice-start : goal.bounds-as_slice-start
bounds-as_slice-start c = place c.args.system.now c.args.rows.now c.args.row c.loop-k.k (length c.args.words.now) (length c.as_slice.result.now) c.requires.fits c.requires.row c.requires.sized (below c.loop-k.k c.args.end (length c.args.words.now) (width_of c.args.system.now) c.loop-k-test.true c.requires.range.1 c.requires.sized)
    (ap (λ (xs : List ℕ). length xs) c.as_slice.ensures ∙ c.loop-k.invariant.added.sized)

pub set-requires : goal.set-requires
set-requires c = place c.args.system.now c.args.rows.now c.args.row c.loop-k.k (length c.args.words.now) (length c.loop-k.rows.words) c.requires.fits c.requires.row c.requires.sized (below c.loop-k.k c.args.end (length c.args.words.now) (width_of c.args.system.now) c.loop-k-test.true c.requires.range.1 c.requires.sized) c.loop-k.invariant.added.sized

pub loop-k-preserved : goal.loop-k-preserved
loop-k-preserved c =
    let rows = c.args.rows.now in
    let S = c.args.system.now in
    let words = c.args.words.now in
    let mid = c.loop-k.rows.words in
    let row : ℕ = c.args.row in
    let k : ℕ = c.loop-k.k in
    let W : ℕ = rows.width in
    let wide : length words ≡ W = c.requires.sized ∙ sym c.requires.fits.width in
    let there : row * length words + k < length mid = place S rows row k (length words) (length mid) c.requires.fits c.requires.row c.requires.sized (below c.loop-k.k c.args.end (length c.args.words.now) (width_of c.args.system.now) c.loop-k-test.true c.requires.range.1 c.requires.sized) c.loop-k.invariant.added.sized in
    let read : get_or c.as_slice.result.now (row * length words + k) 0 ≡ get_or mid (row * length words + k) 0 = ap (λ (xs : List ℕ). get_or xs (row * length words + k) 0) c.as_slice.ensures in
    let step = added_word W row k words rows.words mid (let l = below k c.args.end (length words) (width_of S) c.loop-k-test.true c.requires.range.1 c.requires.sized in omega arith) (subst (λ (n : ℕ). row * n + k < length mid) wide there) c.loop-k.invariant.added in
    record {
      width = c.loop-k.invariant.width;
      ordered = (let l = c.loop-k-test.true in omega arith);
      added = subst (λ (xs : List ℕ). Added W row (k + 1) words rows.words xs) (sym c.set.ensures)
          (subst (λ (x : ℕ). Added W row (k + 1) words rows.words (set mid (row * length words + k) (bit_or x (get_or words k 0)))) (sym read)
          (subst (λ (n : ℕ). Added W row (k + 1) words rows.words (set mid (row * n + k) (bit_or (get_or mid (row * n + k) 0) (get_or words k 0)))) (sym wide) step));
    }

same_width : (rows new : Rows) → new.width ≡ rows.width → (other location : ℕ) → Has (shown rows.width new.words) other location → Has (members new) other location
same_width rows new e other location h = subst (λ (n : ℕ). Has (shown n new.words) other location) (sym e) h

width_same : (rows new : Rows) → new.width ≡ rows.width → (other location : ℕ) → Has (members new) other location → Has (shown rows.width new.words) other location
width_same rows new e other location h = subst (λ (n : ℕ). Has (shown n new.words) other location) e h

pub returns-clause-fits : goal.returns-clause-fits
returns-clause-fits c =
    let a = c.loop-k.invariant.added in
    let e = c.loop-k.invariant.width in record {
      width = e ∙ c.requires.fits.width;
      words = a.sized ∙ c.requires.fits.words;
      no_others = λ other location h. elim (a.only other location (width_same c.args.rows.now c.loop-k.rows e other location h)) [
        | inl old ↦ c.requires.fits.no_others other location old
        | inr new ↦ c.requires.known location new.1
      ];
    }

pub returns-clause-has : goal.returns-clause-has
returns-clause-has c other location =
    let a = c.loop-k.invariant.added in
    let e = c.loop-k.invariant.width in
    let n = c.loop-k-test.false in (
      λ h. a.only other location (width_same c.args.rows.now c.loop-k.rows e other location h),
      λ h. same_width c.args.rows.now c.loop-k.rows e other location (elim h [
        | inl old ↦ a.keeps other location old
        | inr new ↦ subst (λ (r : ℕ). Has (shown c.args.rows.now.width c.loop-k.rows.words) r location) (sym new.0) (elim (cases_lt (location / 64) c.loop-k.k) [
          | inl before ↦ a.adds location before new.1
          | inr past ↦ a.keeps c.args.row location (c.requires.among location new.1 (inr (omega arith)))
        ])
      ]),
    )
