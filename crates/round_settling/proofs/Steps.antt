-- Single steps between two rounds.
use Rattle.std.proofs.Common.{◌≡◌, ◌≢◌, ◌⊎◌, ◌↔◌, ℕ, Bool, false, ◌+◌, ◌*◌, ◌/◌, ◌%◌, ◌^◌, ◌<◌, List, [], ◌∷◌, ◌++◌, length, get_or, set, replicate, bit_or, Contains, sym, ap, ◌∙◌, subst, inl, inr, arith, get_or-set_same}
use Rattle.std.specs.Int.{bit_at, w64}
use Rattle.std.specs.Int.Bits.{or_zero_l}
use Rattle.std.proofs.lemmas.Bool.{cases_eq}
use Rattle.std.proofs.lemmas.List.{get_or-replicate, length-replicate}
use Rattle.std.proofs.lemmas.Nat.{same_from_place, mod_below}
use Rattle.std.proofs.lemmas.Nat.Bits.{bit_at_set_same, bit_at_set_other, bit_at-zero}
use Rattle.std.proofs.lemmas.List.Elements.{Contains-append_left, Contains-push, Contains-push_cases}
use Rattle.sol_model.specs.declared.system.System.{System}
use Rattle.sol_model.specs.declared.rows.Rows.{Rows}
use Rattle.sol_model.specs.Families.{Family, Has, IsInside, shown, members}
use Rattle.sol_model.specs.Solutions.{IsEdge, IsGiven}
use Rattle.sol_model.specs.Systems.{IsRow, IsLocation, Fits, width_of}
use Rattle.sol_model.specs.Words.{At}
use Rattle.sol_model.proofs.Shown.{within_shown, bit_shown, shown_from_bit}
use Rattle.sol_model.proofs.Words.{set_has, adds_or, locations_fit, place_below}
use Rattle.set_rows.specs.declared.view.View.{View}
use Rattle.set_rows.specs.Views.{known, added}
use Rattle.round_pieces.specs.declared.delta_prop.turn.Turn.{Turn}
use Rattle.round_pieces.specs.delta_prop.Deltas.{IsSeenOf}
use Rattle.round_pieces.proofs.delta_prop.Carries.{edge_more}
use Rattle.new_members.specs.News.{IsIn, IsFact, Renews}
use Rattle.round_pieces.specs.Rounds.{IsTakenIn}
use Rattle.round_pieces.proofs.Serving.{known_as}
use Rattle.round_pieces.proofs.Ending.{fact_more}

-- the word with one bit
abbrev pub one_bit : ℕ → ℕ
one_bit k = 1 * 2 ^ k % 2 ^ 64

bit_here : (k : ℕ) → k < 64 → bit_at (one_bit k) k ≡ 1
bit_here k lt = ap (λ (x : ℕ). bit_at x k) (sym (or_zero_l (one_bit k))) ∙ bit_at_set_same w64 0 k lt

bit_only : (k b : ℕ) → k < 64 → bit_at (one_bit k) b ≡ 1 → b ≡ k
bit_only k b lt h = elim (cases_eq b k) [
  | inl e ↦ e
  | inr ne ↦ absurd (let o : bit_at (bit_or 0 (one_bit k)) b ≡ bit_at 0 b = bit_at_set_other w64 0 k lt b ne in let z = bit_at-zero b in
      let one : bit_at (bit_or 0 (one_bit k)) b ≡ 1 = ap (λ (x : ℕ). bit_at x b) (or_zero_l (one_bit k)) ∙ h in omega arith)
]

pub fact_licence : (S : System) (F : Family) (row location n : ℕ) → n ≡ width_of S → IsLocation S location → IsFact S F row location
    → (r l : ℕ) → At (width_of S) (row * n + location / 64) (one_bit (location % 64)) r l → IsGiven S F r l
fact_licence S F row location n e known fact r l at =
    let W : ℕ = width_of S in
    let small : location < 64 * W = locations_fit S location known in
    let there : r * W + l / 64 ≡ row * W + location / 64 = at.1 ∙ ap (λ (m : ℕ). row * m + location / 64) e in
    let place = same_from_place r (l / 64) row (location / 64) W (let s = at.0 in omega arith) (omega arith) there in
    let bit : l % 64 ≡ location % 64 = bit_only (location % 64) (l % 64) (mod_below location 64 (omega arith)) at.2 in
    let same : location ≡ l = (let p = place.1 in omega arith) in
    let here : IsFact S F r l = subst (λ (x : ℕ). IsFact S F x l) (sym place.0) (subst (λ (x : ℕ). IsFact S F row x) same fact) in
    (here.0, here.1, inl here.2)

pub fact_word : (S : System) (row location n : ℕ) → n ≡ width_of S → IsRow S row → IsLocation S location → row * n + location / 64 < S.rows * width_of S
fact_word S row location n e in_rows known = subst (λ (m : ℕ). row * m + location / 64 < S.rows * width_of S) (sym e) (place_below S.rows (width_of S) row location in_rows (locations_fit S location known))

pub fact_added : (S : System) (v : View) (row location n found : ℕ) → v.system ≡ S → n ≡ width_of S → IsLocation S location → row * n + location / 64 < length v.seen
    → Has (known (added v (row * n + location / 64) (one_bit (location % 64)) found)) row location
fact_added S v row location n found own e known lt =
    let i : ℕ = row * n + location / 64 in
    let W : ℕ = width_of v.system in
    let mask : ℕ = one_bit (location % 64) in
    let seen : List ℕ = set v.seen i (bit_or found mask) in
    let place : i ≡ row * W + location / 64 = ap (λ (m : ℕ). row * m + location / 64) (e ∙ ap width_of (sym own)) in
    let small : location < 64 * W = subst (λ (T : System). location < 64 * width_of T) (sym own) (locations_fit S location known) in
    let bit : bit_at (get_or seen i 0) (location % 64) ≡ 1 = ap (λ (x : ℕ). bit_at x (location % 64)) (get_or-set_same v.seen i (bit_or found mask) 0 lt) ∙ adds_or found mask (location % 64) (bit_here (location % 64) (mod_below location 64 (omega arith))) in
    shown_from_bit W seen row location small (ap (λ (j : ℕ). bit_at (get_or seen j 0) (location % 64)) (sym place) ∙ bit)

-- words that were carried to one row
pub carried_others : (S : System) (v w : View) (to : ℕ) → v.system ≡ S → w.system ≡ S
    → ((other k : ℕ) → other ≢ to → k < width_of S → get_or w.seen (other * width_of S + k) 0 ≡ get_or v.seen (other * width_of S + k) 0)
    → (r l : ℕ) → Has (known w) r l → Has (known v) r l ⊎ (r ≡ to)
carried_others S v w to e f same r l h = elim (cases_eq r to) [
  | inl is ↦ inr is
  | inr apart ↦ (let W : ℕ = width_of S in
      let new : Has (shown W w.seen) r l = subst (λ (F : Family). Has F r l) (known_as w S f) h in
      let small = within_shown W w.seen r l new in
      inl (subst (λ (F : Family). Has F r l) (sym (known_as v S e)) (shown_from_bit W v.seen r l small (ap (λ (x : ℕ). bit_at x (l % 64)) (sym (same r (l / 64) apart (omega arith))) ∙ bit_shown W w.seen r l new))))
]

-- nothing was seen of any row
pub nothing_seen : (W : ℕ) (seen nothing : List ℕ) (row : ℕ) → nothing ≡ replicate W 0 → IsSeenOf W seen row nothing
nothing_seen W seen nothing row e k lt b h = absurd (let z = bit_at-zero b in
    let none : get_or nothing k 0 ≡ 0 = ap (λ (xs : List ℕ). get_or xs k 0) e ∙ get_or-replicate W k 0 0 lt in
    let bit : bit_at 0 b ≡ 1 = ap (λ (x : ℕ). bit_at x b) (sym none) ∙ h in omega arith)

-- one turn more was taken in
pub taken_none : (S : System) (done : Rows) (book known : List (ℕ × ℕ)) → Fits S done → IsTakenIn S [] done done book book known known
taken_none S done book known fits = record {
  fits = fits;
  has = λ row location. (λ h. inl h, λ h. elim h [ inl o ↦ o | inr t ↦ absurd (let l = t.1.1 in omega arith) ]);
  edges = record { stays = λ a b h. h; sound = λ a b h. inl h; whole = λ a b h. inl h };
  facts = record { stays = λ a b h. h; sound = λ a b h. inl h; whole = λ a b h. inl h };
}

renews_then : (old mid new : List (ℕ × ℕ)) (E F G : ℕ → ℕ → Type 0) → ((a b : ℕ) → F a b → G a b) → Renews old mid E F → Renews mid new F G → Renews old new E G
renews_then old mid new E F G more f s = record {
  stays = λ a b h. s.stays a b (f.stays a b h);
  sound = λ a b h. elim (s.sound a b h) [ inl m ↦ elim (f.sound a b m) [ inl o ↦ inl o | inr x ↦ inr (more a b x) ] | inr y ↦ inr y ];
  whole = λ a b h. elim (s.whole a b h) [ inl x ↦ elim (f.whole a b x) [ inl e ↦ inl e | inr m ↦ inr (s.stays a b m) ] | inr n ↦ inr n ];
}

pub taken_next : (S : System) (turns : List Turn) (turn : Turn) (done mid after : Rows) (book half more known some news : List (ℕ × ℕ)) → IsTakenIn S turns done mid book half known some
    → Fits S after → ((row location : ℕ) → (Has (members after) row location ↔ (Has (members mid) row location ⊎ ((row ≡ turn.row) × IsIn turn.done.items location))))
    → Renews half more (IsEdge S (members mid)) (IsEdge S (members after)) → Renews some news (IsFact S (members mid)) (IsFact S (members after))
    → IsTakenIn S (turns ++ turn ∷ []) done after book more known news
taken_next S turns turn done mid after book half more known some news t fits has edges facts =
    let grows : IsInside (members mid) (members after) = λ row location h. (has row location).1 (inl h) in record {
      fits = fits;
      has = λ row location. (
        λ h. elim ((has row location).0 h) [
          | inl m ↦ elim ((t.has row location).0 m) [ inl o ↦ inl o | inr old ↦ inr (old.0, Contains-append_left turns (turn ∷ []) old.0 old.1, old.2, old.3) ]
          | inr n ↦ inr (turn, Contains-push turns turn, sym n.0, n.1)
        ],
        λ h. elim h [
          | inl o ↦ grows row location ((t.has row location).1 (inl o))
          | inr w ↦ elim (Contains-push_cases turns turn w.0 w.1) [
            | inl old ↦ grows row location ((t.has row location).1 (inr (w.0, old, w.2, w.3)))
            | inr same ↦ (has row location).1 (inr (sym w.2 ∙ ap (λ (x : Turn). x.row) (sym same), subst (λ (x : Turn). IsIn x.done.items location) (sym same) w.3))
          ]
        ],
      );
      edges = renews_then book half more (IsEdge S (members done)) (IsEdge S (members mid)) (IsEdge S (members after)) (λ a b e. edge_more S (members mid) (members after) a b grows e) t.edges edges;
      facts = renews_then known some news (IsFact S (members done)) (IsFact S (members mid)) (IsFact S (members after)) (λ a b f. fact_more S (members mid) (members after) a b grows f) t.facts facts;
    }
