-- Rows put once each, by their marks.
use Rattle.std.proofs.Common.{◌≡◌, ℕ, ◌<◌, Bool, true, false, true≢false, List, [], ◌∷◌, ◌++◌, length, get_or, set, replicate, Contains, refl, sym, ◌∙◌, subst, inl, inr, arith, get_or-set_same, get_or-set_other, length-set}
use Rattle.std.proofs.lemmas.Bool.{cases_eq, cases_lt}
use Rattle.std.proofs.lemmas.List.{get_or_past, get_or-replicate, length-replicate}
use Rattle.std.proofs.lemmas.List.Elements.{Contains-append_left, Contains-push, Contains-push_cases}
use Rattle.round_pieces.specs.Rounds.{AreRowsApart}
use Rattle.round_pieces.specs.Orders.{AreMarked}
use Rattle.round_pieces.proofs.Once.{distinct_push}

-- rows were put behind others: those of a list that have a mark
pub record Put (old new list : List ℕ) (count : ℕ) (marks : List Bool) : Type 0 where
  pub marked : AreMarked new marks
  pub once : AreRowsApart new
  pub sized : length marks ≡ count
  pub rows : (row : ℕ) → Contains list row → row < count → Contains new row
  pub kept : (row : ℕ) → Contains old row → Contains new row

pub put_none : (old : List ℕ) (marks : List Bool) → AreMarked old marks → AreRowsApart old → Put old old [] (length marks) marks
put_none old marks marked once = record { marked = marked; once = once; sized = refl; rows = λ row here lt. absurd (let l = here.1 in omega arith); kept = λ row h. h }

marked_set : (mid : List ℕ) (marks : List Bool) (row : ℕ) → row < length marks → AreMarked mid marks → AreMarked (mid ++ row ∷ []) (set marks row true)
marked_set mid marks row lt marked other = (
  λ h. elim (cases_eq other row) [
    | inl e ↦ subst (λ (k : ℕ). get_or (set marks row true) k false ≡ true) (sym e) (get_or-set_same marks row true false lt)
    | inr ne ↦ get_or-set_other marks row other true false ne ∙ elim (Contains-push_cases mid row other h) [ inl was ↦ (marked other).0 was | inr e ↦ absurd (ne (sym e)) ]
  ],
  λ h. elim (cases_eq other row) [
    | inl e ↦ subst (Contains (mid ++ row ∷ [])) (sym e) (Contains-push mid row)
    | inr ne ↦ Contains-append_left mid (row ∷ []) other ((marked other).1 (sym (get_or-set_other marks row other true false ne) ∙ h))
  ],
)

pub put_new : (old mid list : List ℕ) (count row : ℕ) (marks : List Bool) → Put old mid list count marks → row < count → get_or marks row false ≡ false → Put old (mid ++ row ∷ []) (list ++ row ∷ []) count (set marks row true)
put_new old mid list count row marks p lt unset = record {
  marked = marked_set mid marks row (let e = p.sized in omega arith) p.marked;
  once = distinct_push mid row p.once (λ h. true≢false (sym ((p.marked row).0 h) ∙ unset));
  sized = length-set marks row true ∙ p.sized;
  rows = λ other h small. elim (Contains-push_cases list row other h) [
    | inl was ↦ Contains-append_left mid (row ∷ []) other (p.rows other was small)
    | inr e ↦ subst (Contains (mid ++ row ∷ [])) e (Contains-push mid row)
  ];
  kept = λ other h. Contains-append_left mid (row ∷ []) other (p.kept other h);
}

pub put_old : (old mid list : List ℕ) (count row : ℕ) (marks : List Bool) → Put old mid list count marks → (row < count → get_or marks row false ≡ true) → Put old mid (list ++ row ∷ []) count marks
put_old old mid list count row marks p is_set = record {
  marked = p.marked;
  once = p.once;
  sized = p.sized;
  rows = λ other h small. elim (Contains-push_cases list row other h) [
    | inl was ↦ p.rows other was small
    | inr e ↦ (p.marked other).1 (subst (λ (k : ℕ). get_or marks k false ≡ true) e (is_set (let s = small in omega arith)))
  ];
  kept = p.kept;
}

-- no mark is set
pub none_marked : (count : ℕ) → AreMarked [] (replicate count false)
none_marked count row =
    let unset : get_or (replicate count false) row false ≡ false = elim (cases_lt row count) [
      | inl lt ↦ get_or-replicate count row false false lt
      | inr past ↦ get_or_past (replicate count false) row false (let n = length-replicate count false in omega arith)
    ] in
    (λ h. absurd (let l = h.1 in omega arith), λ h. absurd (true≢false (sym h ∙ unset)))

-- each row that was put has a mark
pub marked_below : (rows : List ℕ) (marks : List Bool) (row : ℕ) → AreMarked rows marks → Contains rows row → row < length marks
marked_below rows marks row marked h = elim (cases_lt row (length marks)) [
  | inl lt ↦ lt
  | inr past ↦ absurd (true≢false (sym ((marked row).0 h) ∙ get_or_past marks row false (omega arith)))
]
