-- Rounds end, and what the table of a round shows.
use Rattle.std.proofs.Common.{arith, ◌≡◌, ◌≢◌, ℕ, suc, ◌+◌, ◌-◌, ◌<◌, ◌≤◌, inl, inr, List, [], ◌∷◌, length, map, sum, take, get_or, refl, ap, sym, ◌∙◌, subst, Option, Some}
use Rattle.std.proofs.lemmas.Bool.Decides.{eqb_tells}
use Rattle.std.proofs.lemmas.List.{take-map, length-map}
use Rattle.std.proofs.lemmas.List.Sums.{sum-map}
use Rattle.std.proofs.lemmas.Option.{slice_get_within}
use Rattle.c_types.specs.Table.{Table, type_of}
use Rattle.core_tree.specs.declared.node.Unit.{Unit}
use Rattle.link_model.specs.declared.item.Item.{Item}
use Rattle.link_model.specs.link_types.Joined.{AreJoined, types_before, tag_in}
use Rattle.link_model.specs.link_types.Leaders.{AreLeaders}
use Rattle.link_model.specs.link_types.Starts.{AreSums}
use Rattle.unit_link.specs.link_program.Alike.{Alike}
use Rattle.link_merge.specs.Classes.{IsRefined, AreShown}
use Rattle.link_merge.specs.Kids.{AreFiner}

some_one : {X : Type 0} → {x y : X} → ◌≡◌ {A = Option X} (Some x) (Some y) → x ≡ y
some_one h = cc

-- how far all numbers of a list are below another one
abbrev pub gaps : ℕ → List ℕ → ℕ
gaps n [] = 0
gaps n (x ∷ xs) = (n - x) + gaps n xs

gaps_least : (n : ℕ) (xs ys : List ℕ) → length xs ≡ length ys → ((k : ℕ) → k < length xs → get_or xs k 0 ≤ get_or ys k 0) → gaps n ys ≤ gaps n xs
gaps_least n [] [] e h = omega arith
gaps_least n [] (y ∷ ys) e h = absurd (omega arith)
gaps_least n (x ∷ xs) [] e h = absurd (omega arith)
gaps_least n (x ∷ xs) (y ∷ ys) e h =
    let head : x ≤ y = h 0 (omega arith) in
    let rest = gaps_least n xs ys (omega arith) (λ k lt. h (suc k) (omega arith)) in
    omega arith

-- numbers that rise, and not all stay, are less far below
pub gaps_fall : (n : ℕ) (xs ys : List ℕ) → length xs ≡ length ys → ((k : ℕ) → k < length xs → get_or xs k 0 ≤ get_or ys k 0) → ((k : ℕ) → k < length ys → get_or ys k 0 < n) → xs ≢ ys → gaps n ys < gaps n xs
gaps_fall n [] [] e h b ne = absurd (ne refl)
gaps_fall n [] (y ∷ ys) e h b ne = absurd (omega arith)
gaps_fall n (x ∷ xs) [] e h b ne = absurd (omega arith)
gaps_fall n (x ∷ xs) (y ∷ ys) e h b ne =
    let head : x ≤ y = h 0 (omega arith) in
    let below : y < n = b 0 (omega arith) in
    elim (eqb_tells x y) [
      | inl same ↦
          let one = same.1 in
          let rest = gaps_fall n xs ys (omega arith) (λ k lt. h (suc k) (omega arith)) (λ k lt. b (suc k) (omega arith)) (λ f. ne (ap (λ z. z ∷ xs) one ∙ ap (λ zs. y ∷ zs) f)) in
          omega arith
      | inr other ↦
          let differ = other.1 in
          let rest = gaps_least n xs ys (omega arith) (λ k lt. h (suc k) (omega arith)) in
          let less : x < y = omega arith in
          omega arith
    ]

heads_of : (x y : ℕ) (xs ys : List ℕ) → x ∷ xs ≡ y ∷ ys → (x ≡ y) × (xs ≡ ys)
heads_of x y xs ys e = (cc, cc)

-- leaders rise, and stay below their number
pub record Rises (leaders next : List ℕ) : Type 0 where
  pub all : length leaders ≡ length next
  pub up : (k : ℕ) → k < length leaders → get_or leaders k 0 ≤ get_or next k 0
  pub below : (k : ℕ) → k < length next → get_or next k 0 < length leaders

pub round_rises : (units : List Unit) (type_starts : List ℕ) (table : Table) (tags : List Item) (counted : List (Option ℕ)) (leaders next : List ℕ) → AreLeaders leaders → IsRefined units type_starts table tags counted leaders next → Rises leaders next
round_rises units type_starts table tags counted leaders next lead refined =
    let many = refined.keys_are.all in
    let also = refined.alike.all in
    let least : (k : ℕ) → k < length leaders → get_or next k 0 ≤ k = λ k lt. (refined.alike.each k (omega arith)).first k (inl refl) in
    record {
      all = omega arith;
      up = λ k lt. up k (get_or next k 0) lt (least k lt) (refined.alike.each k (omega arith)).alike;
      below = λ k lt. (let le = least k (omega arith) in omega arith);
    }
  where
    up : (k h : ℕ) → k < length leaders → h ≤ k → Alike refined.keys k h → get_or leaders k 0 ≤ h
    up k h lt le (inl same) = (let b = lead.below k lt in omega arith)
    up k h lt le (inr share) =
        let kk = some_one (some_one (sym (refined.keys_are.each k lt) ∙ share.first)) in
        let kh = some_one (some_one (sym (refined.keys_are.each h (omega arith)) ∙ share.second)) in
        let one : get_or leaders k 0 ≡ get_or leaders h 0 = (heads_of _ _ _ _ (kk ∙ sym kh)).0 in
        let b = lead.below h (omega arith) in
        omega arith

pub round_falls : (leaders next : List ℕ) → Rises leaders next → next ≢ leaders → gaps (length next) next < gaps (length leaders) leaders
round_falls leaders next r ne =
    let all = r.all in
    subst (λ n. gaps n next < gaps (length leaders) leaders) all (gaps_fall (length leaders) leaders next all r.up r.below (λ e. ne (sym e)))

-- leaders that a round found and that were told apart further fall as well
pub finer_falls : (leaders next now : List ℕ) → Rises leaders next → AreFiner next now → next ≢ leaders → gaps (length now) now < gaps (length leaders) leaders
finer_falls leaders next now r f ne =
    let falls = round_falls leaders next r ne in
    let least = gaps_least (length next) next now (sym f.all) f.up in
    subst (λ n. gaps n now < gaps (length leaders) leaders) (sym f.all) (omega arith)

abbrev pub type_counts_of : List Unit → List ℕ
type_counts_of units = map (λ x. length x.types.terms) units

-- where a unit's types start
pub type_start : (units : List Unit) (type_starts : List ℕ) (u : ℕ) → AreSums (type_counts_of units) type_starts → u ≤ length units → get_or type_starts u 0 ≡ types_before units u
type_start units type_starts u sums le =
    let many : length (type_counts_of units) ≡ length units = length-map units (λ (x : Unit). length x.types.terms) in
    sums.each u (omega arith)
    ∙ (ap sum (take-map (λ (x : Unit). length x.types.terms) u units) ∙ sum-map (λ (x : Unit). length x.types.terms) (take u units))

pub joined_shown : (units : List Unit) (type_starts starts numbers : List ℕ) (table : Table) → AreSums (type_counts_of units) type_starts → AreJoined units starts numbers table (length units) → AreShown units type_starts (tag_in starts numbers) table
joined_shown units type_starts starts numbers table sums h = record {
  enough = (let all = sums.all in let many : length (type_counts_of units) ≡ length units = length-map units (λ (x : Unit). length x.types.terms) in omega arith);
  within = λ u x at.
      let lt = slice_get_within units u x at in
      let start = type_start units type_starts u sums (omega arith) in
      let w = h.within u x lt at in
      omega arith;
  each = λ u x i at less.
      let lt = slice_get_within units u x at in
      let start = type_start units type_starts u sums (omega arith) in
      ap (λ n. type_of table (n + i)) start ∙ (h.each u x lt at).each i less;
}
