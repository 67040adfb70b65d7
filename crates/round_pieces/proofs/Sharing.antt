-- The shares of many workers together.
use Rattle.std.proofs.Common.{◌≡◌, ◌⊎◌, ℕ, zero, suc, ◌+◌, ◌*◌, ◌/◌, ◌%◌, ◌<◌, ◌≤◌, List, [], ◌∷◌, ◌++◌, length, get_or, map, option_map, slice_get, Some, All, Result, Ok, Err, IfOk, Contains, refl, sym, ap, ◌∙◌, subst, inl, inr, arith, append_assoc, length-append, mul_comm}
use Rattle.std.proofs.lemmas.List.{append-nil}
use Rattle.std.proofs.lemmas.Option.{same_Some, none-some, slice_get-map}
use Rattle.std.proofs.lemmas.List.Elements.{Contains-append_cases, Contains-append_left, Contains-append_right}
use Rattle.std.proofs.lemmas.Nat.{mod_below}
use Rattle.sol_model.proofs.Members.{Contains-at, at_Contains, Contains-map, All-at}
use Rattle.new_members.proofs.Answering.{element}
use Rattle.sol_model.specs.declared.system.System.{System}
use Rattle.sol_model.specs.declared.rows.Rows.{Rows}
use Rattle.sol_model.specs.Systems.{Fits, IsRow, width_of}
use Rattle.new_members.specs.News.{words_at}
use Rattle.round_pieces.proofs.Serving.{in_within, turns_served}
use Rattle.round_pieces.proofs.Growing.{word_at}
use Rattle.std.specs.Int.{bit_at}
use Rattle.sol_model.proofs.Shown.{shown_from_bit}
use Rattle.edge_book.proofs.Targets.{only_one}
use Rattle.round_pieces.specs.delta_prop.Turns.{IsTurn}
use Rattle.set_rows.specs.declared.view.View.{View}
use Rattle.set_rows.specs.Views.{half_kept, half_given, met, OnlyAdded}
use Rattle.set_rows.proofs.Adding.{known_more}
use Rattle.set_rows.proofs.Samples.{met_first, met_second}
use Rattle.round_pieces.specs.declared.delta_prop.turn.Turn.{Turn}
use Rattle.round_pieces.specs.Rounds.{AreRowsApart, HasServed, IsChange, IsPiece}
use Rattle.round_pieces.specs.Turns.{all_of, row_of, AreTurns, IsShare, HasShares}
use Rattle.round_pieces.specs.Balance.{spent}
use Rattle.round_pieces.specs.delta_prop.Deltas.{gained}
use Rattle.edge_book.specs.Leaving.{targets_of}
use Rattle.std.proofs.lemmas.List.Sums.{sum_by-append, sum_by-cons}
use Rattle.round_pieces.proofs.Once.{shares_apart}
use Rattle.round_pieces.proofs.Sums.{IsApart}
use Rattle.round_pieces.proofs.Parts.{met_has}

spent_append : (width : ℕ) (book : List (ℕ × ℕ)) (done : ℕ → List ℕ) (ts us : List Turn) → spent width book done (ts ++ us) ≡ spent width book done ts + spent width book done us
spent_append width book done ts us = sum_by-append (λ (turn : Turn). gained width (done turn.row) turn.done.items * length (targets_of turn.row book)) ts us

turns_paid : (width : ℕ) (book : List (ℕ × ℕ)) (done : ℕ → List ℕ) (ts : List Turn) (v w : View) → AreTurns width book done v ts w → w.ors ≤ v.ors + spent width book done ts
turns_paid width book done [] v w h = let e : w.ors ≡ v.ors = ap (λ (x : View). x.ors) h in omega arith
turns_paid width book done (turn ∷ ts) v w h =
    let u : View = h.0 in
    let first : u.ors ≤ v.ors + gained width (done turn.row) turn.done.items * length (targets_of turn.row book) = h.1.ors in
    let rest : w.ors ≤ u.ors + spent width book done ts = turns_paid width book done ts u w h.3 in
    let whole : spent width book done (turn ∷ ts) ≡ gained width (done turn.row) turn.done.items * length (targets_of turn.row book) + spent width book done ts =
    sum_by-cons (λ (t : Turn). gained width (done t.row) t.done.items * length (targets_of t.row book)) turn ts in
    omega arith

at_append : {X : Type 0} (xs ys : List X) (k : ℕ) (x : X) → slice_get (xs ++ ys) k ≡ Some x → ((k < length xs) × (slice_get xs k ≡ Some x)) ⊎ ((j : ℕ) × (k ≡ length xs + j) × (slice_get ys j ≡ Some x))
at_append [] ys k x e = inr (k, omega arith, e)
at_append (y ∷ xs) ys zero x e = inl (omega arith, e)
at_append (y ∷ xs) ys (suc k) x e = elim (at_append xs ys k x e) [ inl h ↦ inl ((let l = h.0 in omega arith), h.1) | inr h ↦ inr (h.0, (let l = h.1 in omega arith), h.2) ]

all_append : (xs ys : List (List Turn)) → all_of (xs ++ ys) ≡ all_of xs ++ all_of ys
all_append [] ys = refl
all_append (x ∷ xs) ys = ap (λ (ts : List Turn). x ++ ts) (all_append xs ys) ∙ sym (append_assoc x (all_of xs) (all_of ys))

module _ (S : System) (book : List (ℕ × ℕ)) (v : View) where
  piece_left : (a b : View) (turn : Turn) → IsPiece S book a turn → IsPiece S book (met a b) turn
  piece_left a b turn p = record { row = p.row; short = p.short; sized = p.sized; done = λ l h. met_first a b turn.row l (p.done l h); targets = λ to l e h. met_first a b to l (p.targets to l e h) }

  piece_right : (a b : View) (turn : Turn) → b.system ≡ a.system → IsPiece S book b turn → IsPiece S book (met a b) turn
  piece_right a b turn e p = record { row = p.row; short = p.short; sized = p.sized; done = λ l h. met_second a b turn.row l e (p.done l h); targets = λ to l edge h. met_second a b to l e (p.targets to l edge h) }

  served_together : (a b : View) (ts us : List Turn) → b.system ≡ a.system → HasServed S book a ts → HasServed S book b us → HasServed S book (met a b) (ts ++ us)
  served_together a b ts us e left right turn c = elim (Contains-append_cases ts us turn c) [
    | inl l ↦ piece_left a b turn (left turn l)
    | inr r ↦ piece_right a b turn e (right turn r)
  ]

  module _ (done : Rows) (todo : List ℕ) (workers : ℕ) where
    share_left : (worker : ℕ) (a b : View) (ts : List Turn) → IsShare S book done todo workers worker (half_kept v) a ts → IsShare S book done todo workers worker v (met a b) ts
    share_left worker a b ts s = record { from = s.from; to = s.to; begun = s.begun; turns_are = s.turns_are; ended = λ row l h. met_first a b row l (s.ended row l h); rows = s.rows }

    share_right : (worker : ℕ) (a b : View) (ts : List Turn) → b.system ≡ a.system → IsShare S book done todo workers worker (half_given v) b ts → IsShare S book done todo workers worker v (met a b) ts
    share_right worker a b ts e s = record { from = s.from; to = s.to; begun = s.begun; turns_are = s.turns_are; ended = λ row l h. met_second a b row l e (s.ended row l h); rows = s.rows }

    pub shares_together : (first middle last : ℕ) (a b : View) (ts us all : List Turn) → b.system ≡ a.system → all ≡ ts ++ us
        → HasShares S book done todo workers first middle (half_kept v) a ts → HasShares S book done todo workers middle last (half_given v) b us → HasShares S book done todo workers first last v (met a b) all
    shares_together first middle last a b ts us all e is left right = record {
      shares = left.shares ++ right.shares;
      all = is ∙ ap (λ (xs : List Turn). xs ++ us) left.all ∙ ap (λ (xs : List Turn). all_of left.shares ++ xs) right.all ∙ sym (all_append left.shares right.shares);
      count = (let l = left.count in let r = right.count in let n = length-append left.shares right.shares in omega arith);
      each = λ k share at. elim (at_append left.shares right.shares k share at) [
        | inl h ↦ share_left (first + k) a b share (left.each k share h.1)
        | inr h ↦ (let there = share_right (middle + h.0) a b share e (right.each h.0 share h.2) in
            let same : middle + h.0 ≡ first + k = (let l = left.count in let n = h.1 in omega arith) in
            subst (λ (n : ℕ). IsShare S book done todo workers n v (met a b) share) same there)
      ];
      served = subst (HasServed S book (met a b)) (sym is) (served_together a b ts us e left.served right.served);
      ors = subst (λ (xs : List Turn). (met a b).ors ≤ v.ors + spent (width_of S) book (words_at done) xs) (sym is)
          (let l = left.ors in let r = right.ors in let s = spent_append (width_of S) book (words_at done) ts us in
          let goal : a.ors + b.ors ≤ v.ors + spent (width_of S) book (words_at done) (ts ++ us) = omega arith in goal);
    }

-- one seat's shares, one after the other
module _ (S : System) (book : List (ℕ × ℕ)) (done : Rows) (todo : List ℕ) (workers : ℕ) (v u w : View) (before : OnlyAdded v u) (after : OnlyAdded u w) where
  piece_before : (turn : Turn) → IsPiece S book u turn → IsPiece S book w turn
  piece_before turn p = record { row = p.row; short = p.short; sized = p.sized; done = λ l h. known_more u w after turn.row l (p.done l h); targets = λ to l e h. known_more u w after to l (p.targets to l e h) }

  served_after : (ts us : List Turn) → HasServed S book u ts → HasServed S book w us → HasServed S book w (ts ++ us)
  served_after ts us left right turn c = elim (Contains-append_cases ts us turn c) [
    | inl l ↦ piece_before turn (left turn l)
    | inr r ↦ right turn r
  ]

  share_before : (worker : ℕ) (ts : List Turn) → IsShare S book done todo workers worker v u ts → IsShare S book done todo workers worker v w ts
  share_before worker ts s = record { from = s.from; to = s.to; begun = s.begun; turns_are = s.turns_are; ended = λ row l h. known_more u w after row l (s.ended row l h); rows = s.rows }

  share_behind : (worker : ℕ) (ts : List Turn) → IsShare S book done todo workers worker u w ts → IsShare S book done todo workers worker v w ts
  share_behind worker ts s = record { from = s.from; to = s.to; begun = λ row l h. s.begun row l (known_more v u before row l h); turns_are = s.turns_are; ended = s.ended; rows = s.rows }

  pub shares_after : (first middle last : ℕ) (ts us all : List Turn) → all ≡ ts ++ us
      → HasShares S book done todo workers first middle v u ts → HasShares S book done todo workers middle last u w us → HasShares S book done todo workers first last v w all
  shares_after first middle last ts us all is left right = record {
    shares = left.shares ++ right.shares;
    all = is ∙ ap (λ (xs : List Turn). xs ++ us) left.all ∙ ap (λ (xs : List Turn). all_of left.shares ++ xs) right.all ∙ sym (all_append left.shares right.shares);
    count = (let l = left.count in let r = right.count in let n = length-append left.shares right.shares in omega arith);
    each = λ k share at. elim (at_append left.shares right.shares k share at) [
      | inl h ↦ share_before (first + k) share (left.each k share h.1)
      | inr h ↦
          let there = share_behind (middle + h.0) share (right.each h.0 share h.2) in
          let same : middle + h.0 ≡ first + k = (let l = left.count in let n = h.1 in omega arith) in
          subst (λ (n : ℕ). IsShare S book done todo workers n v w share) same there
    ];
    served = subst (HasServed S book w) (sym is) (served_after ts us left.served right.served);
    ors = subst (λ (xs : List Turn). w.ors ≤ v.ors + spent (width_of S) book (words_at done) xs) (sym is)
        (let l = left.ors in let r = right.ors in let s = spent_append (width_of S) book (words_at done) ts us in omega arith);
  }

-- no worker's turns
pub no_shares : (S : System) (book : List (ℕ × ℕ)) (done : Rows) (todo : List ℕ) (workers first : ℕ) (v : View) → HasShares S book done todo workers first first v v []
no_shares S book done todo workers first v = record {
  shares = [];
  all = refl;
  count = (omega arith);
  each = λ k share at. absurd (none-some share at);
  served = λ turn c. absurd (let l = c.1 in omega arith);
  ors = omega arith;
}

-- one worker's turns
pub one_share : (S : System) (book : List (ℕ × ℕ)) (done : Rows) (todo : List ℕ) (workers first last : ℕ) (v w : View) (ts : List Turn) → first + 1 ≡ last
    → IsShare S book done todo workers first v w ts → HasServed S book w ts → w.ors ≤ v.ors + spent (width_of S) book (words_at done) ts → HasShares S book done todo workers first last v w ts
one_share S book done todo workers first last v w ts e share served paid = record {
  shares = ts ∷ [];
  all = sym (append-nil ts);
  count = (omega arith);
  each = λ k other at. elim (at_append (ts ∷ []) [] k other at) [
    | inl h ↦ (let zero_is : k ≡ 0 = (let l = h.0 in omega arith) in
        let here : slice_get (ts ∷ []) 0 ≡ Some other = ap (slice_get (ts ∷ [])) (sym zero_is) ∙ h.1 in
        let same : ts ≡ other = same_Some ts other here in
        let at_k : first ≡ first + k = omega arith in
        subst (λ (n : ℕ). IsShare S book done todo workers n v w other) at_k (subst (IsShare S book done todo workers first v w) same share))
    | inr h ↦ absurd (none-some other h.2)
  ];
  served = served;
  ors = paid;
}

-- a round: the seat gives one half away, which comes back
pub shares_round : (S : System) (book : List (ℕ × ℕ)) (done : Rows) (todo : List ℕ) (workers first last : ℕ) (v b : View) (ts : List Turn) → b.system ≡ v.system
    → HasShares S book done todo workers first last (half_given v) b ts → HasShares S book done todo workers first last v (met (half_kept v) b) ts
shares_round S book done todo workers first last v b ts e right = record {
  shares = right.shares;
  all = right.all;
  count = right.count;
  each = λ k share at. share_back (first + k) share (right.each k share at);
  served = λ turn c. (let p = right.served turn c in record { row = p.row; short = p.short; sized = p.sized; done = λ l h. met_second (half_kept v) b turn.row l e (p.done l h); targets = λ to l edge h. met_second (half_kept v) b to l e (p.targets to l edge h) });
  ors = (let r = right.ors in let goal : v.ors + b.ors ≤ v.ors + spent (width_of S) book (words_at done) ts = omega arith in goal);
}
  where
    share_back : (worker : ℕ) (share : List Turn) → IsShare S book done todo workers worker (half_given v) b share → IsShare S book done todo workers worker v (met (half_kept v) b) share
    share_back worker share s = record { from = s.from; to = s.to; begun = s.begun; turns_are = s.turns_are; ended = λ row l h. met_second (half_kept v) b row l e (s.ended row l h); rows = s.rows }

-- no row of the round has had two turns
pub rows_apart : (S : System) (book : List (ℕ × ℕ)) (done : Rows) (todo : List ℕ) (workers : ℕ) (v w : View) (turns : List Turn) → AreRowsApart todo → HasShares S book done todo workers 0 workers v w turns → IsApart (map row_of turns)
rows_apart S book done todo workers v w turns once h = subst (λ (ts : List Turn). IsApart (map row_of ts)) (sym h.all)
    (shares_apart todo workers 0 h.shares once (λ k share at i. (h.each k share at).rows i) (let e = h.count in omega arith))

pub both_ok : {A E : Type 0} (r : Result A E) (P Q : A → Type 0) → IfOk r P → IfOk r Q → IfOk r (λ x. P x × Q x)
both_ok (Ok x) P Q p q = (p, q)
both_ok (Err e) P Q p q = tt

-- the turns of one worker alone
pub alone : (S : System) (book : List (ℕ × ℕ)) (done : Rows) (todo : List ℕ) (workers first last : ℕ) (v w : View) (ts : List Turn) → v.system ≡ S → first + 1 ≡ last → All (IsRow S) todo
    → AreTurns (width_of S) book (words_at done) v ts w → ((i : ℕ) → slice_get (map row_of ts) i ≡ slice_get todo (first + i * workers)) → HasShares S book done todo workers first last v w ts
alone S book done todo workers first last v w ts own e all turns rows =
    one_share S book done todo workers first last v w ts e
    record { from = v; to = w; begun = λ row location h. h; turns_are = turns; ended = λ row location h. h; rows = rows }
    (turns_served S book (words_at done) ts v w own (λ turn c. let at = at_Contains ts turn c in
    All-at (IsRow S) todo (first + at.0 * workers) turn.row all (sym (rows at.0) ∙ slice_get-map row_of ts at.0 ∙ ap (option_map row_of) at.2)) turns)
    (turns_paid (width_of S) book (words_at done) ts v w turns)

-- the share of a turn
in_some : (shares : List (List Turn)) (turn : Turn) → Contains (all_of shares) turn → (k : ℕ) × (share : List Turn) × (slice_get shares k ≡ Some share) × Contains share turn
in_some [] turn c = absurd (let l = c.1 in omega arith)
in_some (s ∷ rest) turn c = elim (Contains-append_cases s (all_of rest) turn c) [
  | inl l ↦ (0, s, refl, l)
  | inr r ↦ (let p = in_some rest turn r in (suc p.0, p.1, p.2, p.3))
]

module _ (S : System) (book : List (ℕ × ℕ)) (done : Rows) (fits : Fits S done) where
  change_of : (v u : View) (turn : Turn) → IsTurn (width_of S) book turn.row (words_at done turn.row) v u turn → IsChange S done turn
  change_of v u turn t = record {
    among = λ location h out.
        (let W : ℕ = width_of S in
        let k : ℕ = location / 64 in
        let wide : done.width ≡ W = fits.width in
        let small : location < 64 * W = in_within W location turn.done.items t.short h in
        let within : k < done.width = omega arith in
        let was : bit_at (get_or (words_at done turn.row) k 0) (location % 64) ≡ 1 = t.beside k (omega arith) out (location % 64) h in
        shown_from_bit done.width done.words turn.row location (omega arith) (ap (λ (x : ℕ). bit_at x (location % 64)) (sym (word_at done turn.row k within)) ∙ was));
    range = t.range.1;
  }

  turns_changed : (ts : List Turn) (v w : View) → AreTurns (width_of S) book (words_at done) v ts w → (turn : Turn) → Contains ts turn → IsChange S done turn
  turns_changed [] v w h turn c = absurd (let l = c.1 in omega arith)
  turns_changed (first ∷ ts) v w h turn c = elim (Contains-append_cases (first ∷ []) ts turn c) [
    | inl here ↦ subst (IsChange S done) (only_one first turn here) (change_of v h.0 first h.1)
    | inr there ↦ turns_changed ts h.0 w h.3 turn there
  ]

  -- what the turns of a round have newly
  pub each_changed : (todo : List ℕ) (workers first last : ℕ) (v w : View) (turns : List Turn) → HasShares S book done todo workers first last v w turns → (turn : Turn) → Contains turns turn → IsChange S done turn
  each_changed todo workers first last v w turns h turn c =
      let p = in_some h.shares turn (subst (λ (ts : List Turn). Contains ts turn) h.all c) in
      let s = h.each p.0 p.1 p.2 in
      turns_changed p.1 s.from s.to s.turns_are turn p.3
