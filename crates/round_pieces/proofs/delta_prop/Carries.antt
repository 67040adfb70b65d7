-- The step of a carry along one edge.
use Rattle.std.proofs.Common.{◌≡◌, ◌≢◌, ◌⊎◌, ℕ, zero, suc, ◌+◌, ◌-◌, ◌*◌, ◌/◌, ◌%◌, ◌<◌, ◌≤◌, ◌^◌, List, [], ◌∷◌, ◌++◌, length, get_or, set, bit_or, count_ones, Contains, refl, sym, ap, ◌∙◌, subst, inl, inr, arith, get_or-set_same, get_or-set_other, length-set, length-append, add-one, mul-le-mul_right, suc-mul}
use Rattle.std.specs.Int.{bit_at, bit_not, w64}
use Rattle.std.proofs.lemmas.Bool.{cases_eq, cases_lt}
use Rattle.std.proofs.lemmas.Nat.{same_from_place, zero_from_ones}
use Rattle.std.proofs.lemmas.List.Elements.{Contains-append_left, Contains-push, Contains-push_cases}
use Rattle.std.proofs.lemmas.Nat.Bits.{bit_at_and, bit_at-lt, bit_at_not, bit_at-zero, bit_at_above}
use Rattle.sol_model.specs.declared.system.System.{System}
use Rattle.sol_model.specs.Families.{Family, Has, IsInside, shown}
use Rattle.sol_model.specs.Solutions.{IsEdge, IsGiven}
use Rattle.sol_model.proofs.Monotone.{more_edge}
use Rattle.sol_model.proofs.Shown.{shown_from_bit}
use Rattle.sol_model.specs.Words.{Within, At}
use Rattle.set_rows.specs.declared.view.View.{View}
use Rattle.set_rows.specs.Views.{OnlyAdded, IsBelowWord, looked, added, known}
use Rattle.sol_model.proofs.Words.{adds_or}
use Rattle.set_rows.proofs.Adding.{nothing_added, added_twice, look_only_adds, add_only_adds, known_more}
use Rattle.sol_model.specs.Systems.{width_of}
use Rattle.round_pieces.specs.delta_prop.Deltas.{new_bits, gained, AreNews, IsDoneBeside, IsSeenOf, IsSound}
use Rattle.round_pieces.proofs.delta_prop.Sounding.{sound_look}

pub edge_gives : (S : System) (F : Family) (a b location : ℕ) → IsEdge S F a b → Has F a location → IsGiven S F b location
edge_gives S F a b location e h = (e.0, e.1, inr (a, e.2, h))

pub edge_more : (S : System) (F G : Family) (a b : ℕ) → IsInside F G → IsEdge S F a b → IsEdge S G a b
edge_more S F G a b i e = (e.0, e.1, more_edge S F G i e.0 a b e.2)

new_now : (done now j : ℕ) → bit_at (new_bits done now) j ≡ 1 → bit_at now j ≡ 1
new_now done now j h = let m = bit_at_and now (bit_not w64 done) j in let l = bit_at-lt now j in omega arith

-- a location that is there now was done, or is new
pub done_or_new : (done now j : ℕ) → done < 2 ^ 64 → now < 2 ^ 64 → bit_at now j ≡ 1 → bit_at done j ≢ 1 → bit_at (new_bits done now) j ≡ 1
done_or_new done now j d n h not = elim (cases_lt j 64) [
  | inl lt ↦ (let m = bit_at_and now (bit_not w64 done) j in let l = bit_at-lt done j in let r = bit_at_not w64 done j d lt in omega arith)
  | inr ge ↦ absurd (let z = bit_at_above now 64 j n ge in omega arith)
]

-- where nothing is new, what is there now was done
pub all_done : (done now j : ℕ) → done < 2 ^ 64 → now < 2 ^ 64 → new_bits done now ≡ 0 → bit_at now j ≡ 1 → bit_at done j ≡ 1
all_done done now j d n none h = elim (cases_eq (bit_at done j) 1) [
  | inl was ↦ was
  | inr not ↦ absurd (let z = bit_at-zero j in let o = done_or_new done now j d n h not in let q : bit_at 0 j ≡ 1 = ap (λ x. bit_at x j) (sym none) ∙ o in omega arith)
]

pub licence : (S : System) (W row to k new : ℕ) (seen : List ℕ) → k < W → IsEdge S (shown W seen) row to → Within new (get_or seen (row * W + k) 0)
    → (r l : ℕ) → At W (to * W + k) new r l → IsGiven S (shown W seen) r l
licence S W row to k new seen lt edge w r l at =
    let place = same_from_place r (l / 64) to k W (let s = at.0 in omega arith) lt at.1 in
    let bit : bit_at (get_or seen (row * W + l / 64) 0) (l % 64) ≡ 1 = ap (λ (n : ℕ). bit_at (get_or seen (row * W + n) 0) (l % 64)) place.1 ∙ w (l % 64) at.2 in
    subst (λ (n : ℕ). IsGiven S (shown W seen) n l) (sym place.0) (edge_gives S (shown W seen) row to l edge (shown_from_bit W seen row l at.0 bit))

pub licence_of : (S : System) (v u : View) (row to k new n : ℕ) → v.system ≡ S → OnlyAdded v u → n ≡ width_of S → k < width_of S → IsEdge S (known v) row to
    → Within new (get_or v.seen (row * width_of S + k) 0) → (r l : ℕ) → At (width_of S) (to * n + k) new r l → IsGiven S (known u) r l
licence_of S v u row to k new n e more wide lt edge w r l at =
    let same : known u ≡ shown (width_of S) u.seen = ap (λ (T : System). shown (width_of T) u.seen) (more.system ∙ e) in
    let here : IsEdge S (shown (width_of S) u.seen) row to = subst (λ (F : Family). IsEdge S F row to) same (edge_more S (known v) (known u) row to (known_more v u more) edge) in
    let at' : At (width_of S) (to * width_of S + k) new r l = subst (λ (m : ℕ). At (width_of S) (to * m + k) new r l) wide at in
    subst (λ (F : Family). IsGiven S F r l) (sym same) (licence S (width_of S) row to k new u.seen lt here (λ b h. more.seen (row * width_of S + k) b (w b h)) r l at')

pub row_place : (rows W row k : ℕ) → row < rows → k < W → row * W + k < rows * W
row_place rows W row k r lt = let m : suc row * W ≤ rows * W = mul-le-mul_right W r in omega (arith, suc-mul row W)

gained_next : (k : ℕ) (done now : List ℕ) → gained (k + 1) done now ≡ gained k done now + count_ones (new_bits (get_or done k 0) (get_or now k 0))
gained_next k done now = rw add-one refl

gained_up : (n k : ℕ) (done now : List ℕ) → gained k done now ≤ gained (k + n) done now
gained_up zero k done now = let e : k ≡ k + 0 = omega arith in subst (λ (m : ℕ). gained k done now ≤ gained m done now) e (omega arith)
gained_up (suc n) k done now =
    let r = gained_up n k done now in
    let s = gained_next (k + n) done now in
    let e : k + n + 1 ≡ k + suc n = omega arith in
    subst (λ (m : ℕ). gained k done now ≤ gained m done now) e (omega arith)

-- of the words from one on and below k, those that have something new were listed
pub record Listed (W first k : ℕ) (done now : List ℕ) (news : List (ℕ × ℕ)) : Type 0 where
  pub within : k ≤ W
  pub there : (j new : ℕ) → Contains news (j, new) → (j < k) × Within new (get_or now j 0)
  pub whole : (j b : ℕ) → first ≤ j → j < k → bit_at (get_or now j 0) b ≡ 1 → (bit_at (get_or done j 0) b ≡ 1) ⊎ ((new : ℕ) × Contains news (j, new) × (bit_at new b ≡ 1))
  pub few : length news ≤ gained k done now

pub listed_none : (W first : ℕ) (done now : List ℕ) → first ≤ W → Listed W first first done now []
listed_none W first done now within = record { within = within; there = λ j new h. absurd (let l = h.1 in omega arith); whole = λ j b from lt h. absurd (omega arith); few = omega arith }

pub listed_new : (W first k : ℕ) (done now : List ℕ) (news : List (ℕ × ℕ)) → Listed W first k done now news → k < W → get_or done k 0 < 2 ^ 64 → get_or now k 0 < 2 ^ 64
    → new_bits (get_or done k 0) (get_or now k 0) ≢ 0 → Listed W first (k + 1) done now (news ++ (k, new_bits (get_or done k 0) (get_or now k 0)) ∷ [])
listed_new W first k done now news l lt d n some =
    let x : ℕ = new_bits (get_or done k 0) (get_or now k 0) in
    let more : List (ℕ × ℕ) = news ++ (k, x) ∷ [] in record {
      within = omega arith;
      there = λ j new h. elim (Contains-push_cases news (k, x) (j, new) h) [
        | inl old ↦ (let p = l.there j new old in ((let q = p.0 in omega arith), p.1))
        | inr is ↦ subst (λ (p : ℕ × ℕ). (p.0 < k + 1) × Within p.1 (get_or now p.0 0)) is (omega arith, new_now (get_or done k 0) (get_or now k 0))
      ];
      whole = λ j b from small h. elim (cases_eq j k) [
        | inl e ↦ elim (cases_eq (bit_at (get_or done k 0) b) 1) [
          | inl was ↦ inl (subst (λ (m : ℕ). bit_at (get_or done m 0) b ≡ 1) (sym e) was)
          | inr not ↦ inr (x, subst (λ (m : ℕ). Contains more (m, x)) (sym e) (Contains-push news (k, x)), done_or_new (get_or done k 0) (get_or now k 0) b d n (ap (λ (m : ℕ). bit_at (get_or now m 0) b) (sym e) ∙ h) not)
        ]
        | inr ne ↦ elim (l.whole j b from (omega arith) h) [
          | inl was ↦ inl was
          | inr new ↦ inr (new.0, Contains-append_left news ((k, x) ∷ []) (j, new.0) new.1, new.2)
        ]
      ];
      few = (let g = gained_next k done now in let f = l.few in let s = length-append news ((k, x) ∷ []) in let p : count_ones x ≢ 0 = λ z. some (zero_from_ones x z) in omega arith);
    }

pub listed_same : (W first k : ℕ) (done now : List ℕ) (news : List (ℕ × ℕ)) → Listed W first k done now news → k < W → get_or done k 0 < 2 ^ 64 → get_or now k 0 < 2 ^ 64
    → new_bits (get_or done k 0) (get_or now k 0) ≡ 0 → Listed W first (k + 1) done now news
listed_same W first k done now news l lt d n none = record {
  within = omega arith;
  there = λ j new h. (let p = l.there j new h in ((let q = p.0 in omega arith), p.1));
  whole = λ j b from small h. elim (cases_eq j k) [
    | inl e ↦ inl (subst (λ (m : ℕ). bit_at (get_or done m 0) b ≡ 1) (sym e) (all_done (get_or done k 0) (get_or now k 0) b d n none (ap (λ (m : ℕ). bit_at (get_or now m 0) b) (sym e) ∙ h)))
    | inr ne ↦ l.whole j b from (omega arith) h
  ];
  few = (let g = gained_next k done now in let f = l.few in omega arith);
}

pub listed_all : (W first end k : ℕ) (done now : List ℕ) (news : List (ℕ × ℕ)) → Listed W first k done now news → end ≤ k → IsDoneBeside W first end done now → AreNews W done now news
listed_all W first end k done now news l past same = record {
  there = λ j new h. (let p = l.there j new h in ((let q = p.0 in let w = l.within in omega arith), p.1));
  whole = λ j b lt h. elim (cases_lt j first) [
    | inl before ↦ inl (same j lt (inl before) b h)
    | inr from ↦ elim (cases_lt j k) [
      | inl below ↦ l.whole j b (omega arith) below h
      | inr behind ↦ inl (same j lt (inr (omega arith)) b h)
    ]
  ];
  few = (let f = l.few in let w = l.within in let e : k + (W - k) ≡ W = omega arith in
      let u : gained k done now ≤ gained W done now = subst (λ (m : ℕ). gained k done now ≤ gained m done now) e (gained_up (W - k) k done now) in omega arith);
}

-- what is new was seen of a row, and what was done: so was all that is there now
pub news_seen : (W to : ℕ) (done now seen : List ℕ) (news : List (ℕ × ℕ)) → AreNews W done now news → IsSeenOf W seen to done
    → ((k new : ℕ) → Contains news (k, new) → Within new (get_or seen (to * W + k) 0)) → IsSeenOf W seen to now
news_seen W to done now seen news a was has k lt b h = elim (a.whole k b lt h) [ inl old ↦ was k lt b old | inr new ↦ has k new.0 new.1 b new.2 ]

-- nothing is new
pub news_none : (W : ℕ) (done now : List ℕ) (news : List (ℕ × ℕ)) → AreNews W done now news → length news ≡ 0 → (k b : ℕ) → k < W → bit_at (get_or now k 0) b ≡ 1 → bit_at (get_or done k 0) b ≡ 1
news_none W done now news a none k b lt h = elim (a.whole k b lt h) [ inl old ↦ old | inr new ↦ absurd (let l = new.1.1 in omega arith) ]

-- what is new in the first words of a list has gone to a row
pub record Carried (W to : ℕ) (news : List (ℕ × ℕ)) (v u : View) : Type 0 where
  pub more : OnlyAdded v u
  pub sound : IsSound v → IsSound u
  pub sized : length u.seen ≡ length v.seen
  pub carried : (k new : ℕ) → Contains news (k, new) → Within new (get_or u.seen (to * W + k) 0)
  pub others : (other j : ℕ) → other ≢ to → j < W → get_or u.seen (other * W + j) 0 ≡ get_or v.seen (other * W + j) 0
  pub ors : u.ors ≤ v.ors + length news

pub carried_start : (W to : ℕ) (v : View) → Carried W to [] v v
carried_start W to v = record { more = nothing_added v; sound = λ s. s; sized = refl; carried = λ k new h. absurd (let l = h.1 in omega arith); others = λ other j ne lt. refl; ors = omega arith }

carried_step : (W to k new : ℕ) (news : List (ℕ × ℕ)) (v u w : View) → Carried W to news v u → k < W → OnlyAdded u w → (IsSound u → IsSound w) → length w.seen ≡ length u.seen → w.ors ≤ u.ors + 1
    → Within new (get_or w.seen (to * W + k) 0) → ((i : ℕ) → i ≢ to * W + k → get_or w.seen i 0 ≡ get_or u.seen i 0) → Carried W to (news ++ (k, new) ∷ []) v w
carried_step W to k new news v u w c lt step sound sized one has same = record {
  more = added_twice v u w c.more step;
  sound = λ s. sound (c.sound s);
  sized = sized ∙ c.sized;
  carried = λ j x h. elim (Contains-push_cases news (k, new) (j, x) h) [
    | inl old ↦ λ b bit. step.seen (to * W + j) b (c.carried j x old b bit)
    | inr is ↦ subst (λ (p : ℕ × ℕ). Within p.1 (get_or w.seen (to * W + p.0) 0)) is has
  ];
  others = λ other j ne lt'. same (other * W + j) (λ e. ne (same_from_place other j to k W lt' lt e).0) ∙ c.others other j ne lt';
  ors = (let o = c.ors in let s = length-append news ((k, new) ∷ []) in omega arith);
}

-- a word more was looked at, in a row that is as long as another number tells
module _ (W n rows to k new found : ℕ) (news : List (ℕ × ℕ)) (v u : View) (e : n ≡ W) (c : Carried W to news v u) (lt : k < W) (in_rows : to < rows) (sized : length v.seen ≡ rows * W)
    (has : Within (get_or u.seen (to * n + k) 0) found) (below : IsBelowWord u.system (to * n + k) found) where
  place : to * n + k ≡ to * W + k
  place = ap (λ (m : ℕ). to * m + k) e

  pub word_inside : to * n + k < length u.seen
  word_inside = let p = row_place rows W to k in_rows lt in let s = c.sized in omega (arith, place, sized)

  looked_step : OnlyAdded u (looked u (to * n + k) found)
  looked_step = look_only_adds u (to * n + k) found word_inside has

  apart : (i : ℕ) → i ≢ to * W + k → i ≢ to * n + k
  apart i ne same = ne (same ∙ place)

  -- it has all that is new
  pub carried_by_look : found < 2 ^ 64 → new < 2 ^ 64 → new_bits found new ≡ 0 → Carried W to (news ++ (k, new) ∷ []) v (looked u (to * n + k) found)
  carried_by_look f small full =
      carried_step W to k new news v u (looked u (to * n + k) found) c lt looked_step (sound_look u (to * n + k) found word_inside below) (length-set u.seen (to * n + k) found) (omega arith)
      (λ b h. ap (λ (m : ℕ). bit_at (get_or (set u.seen (to * n + k) found) m 0) b) (sym place) ∙ ap (λ (x : ℕ). bit_at x b) (get_or-set_same u.seen (to * n + k) found 0 word_inside) ∙ all_done found new b f small full h)
      (λ i ne. get_or-set_other u.seen (to * n + k) i found 0 (apart i ne))

  -- and what is new was added
  pub carried_by_add : (w : View) → w ≡ looked u (to * n + k) found → (there : ℕ) → Within (get_or w.seen (to * n + k) 0) there
      → (IsSound w → IsSound (added w (to * n + k) new there)) → Carried W to (news ++ (k, new) ∷ []) v (added w (to * n + k) new there)
  carried_by_add w is there there_has sound =
      let i : ℕ = to * n + k in
      let y : ℕ = bit_or there new in
      let kept : length w.seen ≡ length u.seen = ap (λ (x : View). length x.seen) is ∙ length-set u.seen i found in
      let long : i < length w.seen = (let s = word_inside in omega arith) in
      let first : OnlyAdded u w = subst (OnlyAdded u) (sym is) looked_step in
      carried_step W to k new news v u (added w i new there) c lt (added_twice u w (added w i new there) first (add_only_adds w i new there long there_has))
      (λ s. sound (subst IsSound (sym is) (sound_look u i found word_inside below s))) (length-set w.seen i y ∙ kept)
      (let o : w.ors ≡ u.ors = ap (λ (x : View). x.ors) is in omega arith)
      (λ b h. ap (λ (m : ℕ). bit_at (get_or (set w.seen i y) m 0) b) (sym place) ∙ ap (λ (x : ℕ). bit_at x b) (get_or-set_same w.seen i y 0 long) ∙ adds_or there new b h)
      (λ j ne. get_or-set_other w.seen i j y 0 (apart j ne) ∙ ap (λ (x : View). get_or x.seen j 0) is ∙ get_or-set_other u.seen i j found 0 (apart j ne))
