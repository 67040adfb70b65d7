-- Each fact of the rows was seen by a live view, and a live view knows of a closing word that is 1.
use Rattle.std.proofs.Common.{◌≡◌, ℕ, zero, suc, ◌+◌, ◌<◌, ◌≢◌, ◌||◌, Bool, true, false, List, [], ◌∷◌, ◌++◌, length, get_or, set, replicate, refl, sym, ap, ◌∙◌, subst, inl, inr, arith, bit_or, get_or-set_same, get_or-set_other, true≢false}
use Rattle.std.specs.Int.{bit_at}
use Rattle.std.proofs.lemmas.Nat.Bits.{bit_at-zero}
use Rattle.std.proofs.lemmas.Bool.{cases_eq}
use mathlib.Core.Option.{some, some-injective, some-ne-none}
use lib.ListN.{get_elem?}
use Rattle.atomic_table.proofs.Lists.{set_here, set_else, at_longer}
use Rattle.sol_model.specs.declared.system.System.{System}
use Rattle.set_rows.specs.declared.view.View.{View}
use Rattle.set_rows.specs.Views.{fresh, added, shutting, half_kept, half_given, united, met, nobody}
use Rattle.set_rows.specs.Rule.{Holder, Knower, Held}
use Rattle.sol_model.proofs.Words.{within_or, adds_or}

there_lt : {A : Type 0} (l : List A) (i : ℕ) (a : A) → get_elem? l i ≡ some a → i < length l
there_lt [] i a e = absurd (some-ne-none a (sym e))
there_lt (x ∷ xs) zero a e = omega arith
there_lt (x ∷ xs) (suc i) a e = let p = there_lt xs i a e in omega arith

-- a view that has seen all that another had, and knows what it knew
pub record Grown (v w : View) : Type 0 where
  pub live : v.live ≡ true → w.live ≡ true
  pub seen : (j k : ℕ) → bit_at (get_or v.seen j 0) k ≡ 1 → bit_at (get_or w.seen j 0) k ≡ 1
  pub knows : v.knows ≡ true → w.knows ≡ true

holder_grown : (views : List View) (id : ℕ) (v w : View) → get_elem? views id ≡ some v → Grown v w → (j k : ℕ) → Holder views j k → Holder (set views id w) j k
holder_grown views id v w at grown j k h = elim (cases_eq h.seat id) [
  | inl e ↦ let same : h.view ≡ v = some-injective h.view v (sym h.there ∙ ap (get_elem? views) e ∙ at) in record {
    seat = id;
    view = w;
    there = set_here views id w (there_lt views id v at);
    live = grown.live (ap (λ (u : View). u.live) (sym same) ∙ h.live);
    has = grown.seen j k (subst (λ (u : View). bit_at (get_or u.seen j 0) k ≡ 1) same h.has);
  }
  | inr ne ↦ record { seat = h.seat; view = h.view; there = set_else views id h.seat w ne ∙ h.there; live = h.live; has = h.has }
]

knower_grown : (views : List View) (id : ℕ) (v w : View) → get_elem? views id ≡ some v → Grown v w → Knower views → Knower (set views id w)
knower_grown views id v w at grown h = elim (cases_eq h.seat id) [
  | inl e ↦ let same : h.view ≡ v = some-injective h.view v (sym h.there ∙ ap (get_elem? views) e ∙ at) in record {
    seat = id;
    view = w;
    there = set_here views id w (there_lt views id v at);
    live = grown.live (ap (λ (u : View). u.live) (sym same) ∙ h.live);
    knows = grown.knows (ap (λ (u : View). u.knows) (sym same) ∙ h.knows);
  }
  | inr ne ↦ record { seat = h.seat; view = h.view; there = set_else views id h.seat w ne ∙ h.there; live = h.live; knows = h.knows }
]

-- loads, reads of the closing word that find 0 or 1, and tickets: the rows' words and the closing word stay
pub held_seen : (n : ℕ) (words : List ℕ) (views : List View) (id : ℕ) (v w : View) → get_elem? views id ≡ some v → Grown v w → Held n words views → Held n words (set views id w)
held_seen n words views id v w at grown held = record {
  facts = λ j k lt b. holder_grown views id v w at grown j k (held.facts j k lt b);
  closing = λ one. knower_grown views id v w at grown (held.closing one);
}

-- the first seat of an empty and open table
zeros : (n i : ℕ) → get_or {A = ℕ} (replicate n 0) i 0 ≡ 0
zeros zero i = refl
zeros (suc n) zero = refl
zeros (suc n) (suc i) = zeros n i

pub held_start : (S : System) (n : ℕ) → Held n (replicate (n + 2) 0) (fresh S ∷ [])
held_start S n = record {
  facts = λ j k lt b. absurd (let z = bit_at-zero k in let e = ap (λ x. bit_at x k) (sym (zeros (n + 2) j)) ∙ b in omega arith);
  closing = λ one. absurd (let z = zeros (n + 2) n in omega arith);
}

-- `add`
pub held_add : (n : ℕ) (words : List ℕ) (views : List View) (id : ℕ) (v : View) (i mask : ℕ) → i < n → i < length words → i < length v.seen → v.live ≡ true
    → ((j k : ℕ) → bit_at (get_or v.seen j 0) k ≡ 1 → bit_at (get_or words j 0) k ≡ 1)
    → get_elem? views id ≡ some v → Held n words views
    → Held n (set words i (bit_or (get_or words i 0) mask)) (set views id (added v i mask (get_or words i 0)))
held_add n words views id v i mask lt long wide live inside at held =
    let new : ℕ = bit_or (get_or words i 0) mask in
    let w : View = added v i mask (get_or words i 0) in
    let grown : Grown v w = record {
      live = λ l. l;
      seen = λ j k b. elim (cases_eq j i) [
        | inl e ↦ subst (λ (m : ℕ). bit_at (get_or (set v.seen i new) m 0) k ≡ 1) (sym e)
            (ap (λ x. bit_at x k) (get_or-set_same v.seen i new 0 wide) ∙ within_or (get_or words i 0) mask k (ap (λ m. bit_at (get_or words m 0) k) (sym e) ∙ inside j k b))
        | inr ne ↦ ap (λ x. bit_at x k) (get_or-set_other v.seen i j new 0 ne) ∙ b
      ];
      knows = λ l. l;
    } in record {
      facts = λ j k small b. elim (cases_eq j i) [
        | inl e ↦ record {
          seat = id;
          view = w;
          there = set_here views id w (there_lt views id v at);
          live = live;
          has = subst (λ (m : ℕ). bit_at (get_or (set v.seen i new) m 0) k ≡ 1) (sym e)
              (ap (λ x. bit_at x k) (get_or-set_same v.seen i new 0 wide ∙ sym (get_or-set_same words i new 0 long)) ∙ ap (λ m. bit_at (get_or (set words i new) m 0) k) (sym e) ∙ b);
        }
        | inr ne ↦ holder_grown views id v w at grown j k (held.facts j k small (ap (λ x. bit_at x k) (sym (get_or-set_other words i j new 0 ne)) ∙ b))
      ];
      closing = λ one. knower_grown views id v w at grown (held.closing (sym (get_or-set_other words i n new 0 (λ e. omega arith)) ∙ one));
    }

-- a word behind the closing word
pub held_behind : (n i y : ℕ) (words : List ℕ) (views : List View) → n < i → Held n words views → Held n (set words i y) views
held_behind n i y words views lt held = record {
  facts = λ j k small b. held.facts j k small (ap (λ x. bit_at x k) (sym (get_or-set_other words i j y 0 (λ e. omega arith))) ∙ b);
  closing = λ one. held.closing (sym (get_or-set_other words i n y 0 (λ e. omega arith)) ∙ one);
}

-- `shut`
pub held_shut : (n y : ℕ) (words : List ℕ) (views : List View) (id : ℕ) (v : View) → v.live ≡ true → get_elem? views id ≡ some v → Held n words views
    → Held n (set words n y) (set views id (shutting v))
held_shut n y words views id v live at held = record {
  facts = λ j k lt b. holder_grown views id v (shutting v) at (record { live = λ l. l; seen = λ j k b. b; knows = λ _. refl }) j k
      (held.facts j k lt (ap (λ x. bit_at x k) (sym (get_or-set_other words n j y 0 (λ e. omega arith))) ∙ b));
  closing = λ one. record { seat = id; view = shutting v; there = set_here views id (shutting v) (there_lt views id v at); live = live; knows = refl };
}

-- `split`
pub held_split : (n : ℕ) (words : List ℕ) (views : List View) (id : ℕ) (v : View) → get_elem? views id ≡ some v → Held n words views
    → Held n words (set views id (half_kept v) ++ half_given v ∷ [])
held_split n words views id v at held =
    let next = held_seen n words views id v (half_kept v) at (record { live = λ l. l; seen = λ j k b. b; knows = λ l. l }) held in record {
      facts = λ j k lt b. let h = next.facts j k lt b in record { seat = h.seat; view = h.view; there = at_longer (set views id (half_kept v)) (half_given v ∷ []) h.seat h.view h.there; live = h.live; has = h.has };
      closing = λ one. let h = next.closing one in record { seat = h.seat; view = h.view; there = at_longer (set views id (half_kept v)) (half_given v ∷ []) h.seat h.view h.there; live = h.live; knows = h.knows };
    }

-- `meet`
pub united_left : (xs ys : List ℕ) (j k : ℕ) → bit_at (get_or xs j 0) k ≡ 1 → bit_at (get_or (united xs ys) j 0) k ≡ 1
united_left [] ys j k b = absurd (let z = bit_at-zero k in omega arith)
united_left (x ∷ xs) [] j k b = b
united_left (x ∷ xs) (y ∷ ys) zero k b = within_or x y k b
united_left (x ∷ xs) (y ∷ ys) (suc j) k b = united_left xs ys j k b

pub united_right : (xs ys : List ℕ) (j k : ℕ) → bit_at (get_or ys j 0) k ≡ 1 → bit_at (get_or (united xs ys) j 0) k ≡ 1
united_right [] ys j k b = b
united_right (x ∷ xs) [] j k b = absurd (let z = bit_at-zero k in omega arith)
united_right (x ∷ xs) (y ∷ ys) zero k b = adds_or x y k b
united_right (x ∷ xs) (y ∷ ys) (suc j) k b = united_right xs ys j k b

or_left : (a b : Bool) → a ≡ true → (a || b) ≡ true
or_left true b e = refl
or_left false b e = absurd (true≢false (sym e))

or_right : (a b : Bool) → b ≡ true → (a || b) ≡ true
or_right true b e = refl
or_right false b e = e

pub held_meet : (n : ℕ) (words : List ℕ) (views : List View) (id other : ℕ) (v u : View) → other ≢ id → v.live ≡ true
    → get_elem? views id ≡ some v → get_elem? views other ≡ some u → Held n words views
    → Held n words (set (set views id (met v u)) other nobody)
held_meet n words views id other v u apart live at at_other held =
    let w : View = met v u in
    let here : get_elem? (set (set views id w) other nobody) id ≡ some w = set_else (set views id w) other id nobody (λ e. apart (sym e)) ∙ set_here views id w (there_lt views id v at) in
    record {
      facts = λ j k lt b. let h = held.facts j k lt b in elim (cases_eq h.seat id) [
        | inl e ↦ let same : h.view ≡ v = some-injective h.view v (sym h.there ∙ ap (get_elem? views) e ∙ at) in record {
          seat = id;
          view = w;
          there = here;
          live = live;
          has = united_left v.seen u.seen j k (subst (λ (t : View). bit_at (get_or t.seen j 0) k ≡ 1) same h.has);
        }
        | inr ne ↦ elim (cases_eq h.seat other) [
          | inl e ↦ let same : h.view ≡ u = some-injective h.view u (sym h.there ∙ ap (get_elem? views) e ∙ at_other) in record {
            seat = id;
            view = w;
            there = here;
            live = live;
            has = united_right v.seen u.seen j k (subst (λ (t : View). bit_at (get_or t.seen j 0) k ≡ 1) same h.has);
          }
          | inr far ↦ record { seat = h.seat; view = h.view; there = set_else (set views id w) other h.seat nobody far ∙ set_else views id h.seat w ne ∙ h.there; live = h.live; has = h.has }
        ]
      ];
      closing = λ one. let h = held.closing one in elim (cases_eq h.seat id) [
        | inl e ↦ let same : h.view ≡ v = some-injective h.view v (sym h.there ∙ ap (get_elem? views) e ∙ at) in record {
          seat = id;
          view = w;
          there = here;
          live = live;
          knows = or_left v.knows u.knows (ap (λ (t : View). t.knows) (sym same) ∙ h.knows);
        }
        | inr ne ↦ elim (cases_eq h.seat other) [
          | inl e ↦ let same : h.view ≡ u = some-injective h.view u (sym h.there ∙ ap (get_elem? views) e ∙ at_other) in record {
            seat = id;
            view = w;
            there = here;
            live = live;
            knows = or_right v.knows u.knows (ap (λ (t : View). t.knows) (sym same) ∙ h.knows);
          }
          | inr far ↦ record { seat = h.seat; view = h.view; there = set_else (set views id w) other h.seat nobody far ∙ set_else views id h.seat w ne ∙ h.there; live = h.live; knows = h.knows }
        ]
      ];
    }
