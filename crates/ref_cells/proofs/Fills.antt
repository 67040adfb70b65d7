-- One part more of a value.
use Rattle.std.proofs.Common.{◌≡◌, ℕ, zero, suc, ◌+◌, ◌<◌, List, [], ◌∷◌, ◌++◌, Option, Some, None, length, map, drop, take, get_or, refl, sym, ◌∙◌, ap, arith, add-one, append_assoc}
use Rattle.std.proofs.lemmas.List.{append-nil, map-append}
use Rattle.std.proofs.Math.Seq.{take-append_seam}
use Rattle.c_types.specs.declared.term.PathStep.{PathStep}
use Rattle.c_types.specs.declared.term.MemberTerm.{MemberTerm}
use Rattle.c_types.specs.declared.term.PathStep.TheVariants.{Index, Member}
use Rattle.c_types.specs.Trees.{Ctype}
use Rattle.ref_cells.specs.Cells.{Entry, CellList, prefixed, joined, under}
use Rattle.ref_cells.specs.Values.{Fill, listed, elements, members_from, one_member}

pub joined_step : (front : List PathStep) (s : PathStep) (xs : CellList) → joined (front ++ s ∷ []) xs ≡ joined front (prefixed s xs)
joined_step front s [] = refl
joined_step front s (e ∷ xs) =
    let here : (front ++ s ∷ []) ++ e.0 ≡ front ++ s ∷ e.0 = append_assoc front (s ∷ []) e.0 in
    ap (λ (p : List PathStep). (p, e.1) ∷ joined (front ++ s ∷ []) xs) here ∙ ap (λ (ys : CellList). (front ++ s ∷ e.0, e.1) ∷ ys) (joined_step front s xs)

pub joined_append : (front : List PathStep) (xs ys : CellList) → joined front (xs ++ ys) ≡ joined front xs ++ joined front ys
joined_append front xs ys = map-append (λ (e : Entry). (front ++ e.0, e.1)) xs ys

-- what is put out for one part
pub one_more : (out more : CellList) (before front : List PathStep) (s : PathStep) (cells : CellList) → before ≡ front ++ s ∷ [] → more ≡ out ++ joined before cells → more ≡ out ++ joined front (prefixed s cells)
one_more out more before front s cells b e = e ∙ ap (λ (xs : CellList). out ++ xs) (ap (λ (p : List PathStep). joined p cells) b ∙ joined_step front s cells)

pub element_more : (fill : CellList → CellList) (i : ℕ) (cells out0 out1 out2 : CellList) (front : List PathStep) → out1 ≡ out0 ++ joined front (elements fill i cells) → out2 ≡ out1 ++ joined front (prefixed (Index i) (fill (under (Index i) cells))) → out2 ≡ out0 ++ joined front (elements fill (i + 1) cells)
element_more fill i cells out0 out1 out2 front a b =
    rw add-one (b ∙ ap (λ (xs : CellList). xs ++ joined front (prefixed (Index i) (fill (under (Index i) cells)))) a
    ∙ append_assoc out0 (joined front (elements fill i cells)) (joined front (prefixed (Index i) (fill (under (Index i) cells))))
    ∙ ap (λ (xs : CellList). out0 ++ xs) (sym (joined_append front (elements fill i cells) (prefixed (Index i) (fill (under (Index i) cells))))))

pub member_more : (fill : Fill) (k : ℕ) (t : Ctype) (types rest : List Ctype) (cells out1 out2 whole : CellList) (front : List PathStep) → types ≡ t ∷ rest → out1 ++ joined front (members_from fill k types cells) ≡ whole → out2 ≡ out1 ++ joined front (prefixed (Member k) (fill t (under (Member k) cells))) → out2 ++ joined front (members_from fill (k + 1) rest cells) ≡ whole
member_more fill k t types rest cells out1 out2 whole front e a b =
    let here = prefixed (Member k) (fill t (under (Member k) cells)) in
    ap (λ (xs : CellList). xs ++ joined front (members_from fill (k + 1) rest cells)) b
    ∙ append_assoc out1 (joined front here) (joined front (members_from fill (k + 1) rest cells))
    ∙ ap (λ (xs : CellList). out1 ++ xs) (sym (joined_append front here (members_from fill (k + 1) rest cells)))
    ∙ ap (λ (ts : List Ctype). out1 ++ joined front (members_from fill k ts cells)) (sym e)
    ∙ a

pub cut_back : (whole a b c : List PathStep) (s : PathStep) (n : ℕ) → length whole ≡ n → a ≡ whole → b ≡ a ++ s ∷ [] → c ≡ b → take n c ≡ whole
cut_back whole a b c s n l ea eb ec =
    ap (λ (k : ℕ). take k c) (sym l) ∙ ap (take (length whole)) (ec ∙ eb ∙ ap (λ (p : List PathStep). p ++ s ∷ []) ea) ∙ take-append_seam whole (s ∷ [])

pub element_step : (fill : CellList → CellList) (i : ℕ) (cells part out0 out1 out2 : CellList) (front there before : List PathStep) → there ≡ front → before ≡ there ++ Index i ∷ [] → part ≡ under (Index i) cells → out1 ≡ out0 ++ joined front (elements fill i cells) → out2 ≡ out1 ++ joined before (fill part) → out2 ≡ out0 ++ joined front (elements fill (i + 1) cells)
element_step fill i cells part out0 out1 out2 front there before t b p a e =
    element_more fill i cells out0 out1 out2 front a (one_more out1 out2 before front (Index i) (fill (under (Index i) cells)) (b ∙ ap (λ (q : List PathStep). q ++ Index i ∷ []) t) (e ∙ ap (λ (xs : CellList). out1 ++ joined before (fill xs)) p))

pub types_from : (f : MemberTerm → Ctype) (members : List MemberTerm) (k : ℕ) (d : MemberTerm) → k < length members → drop k (map f members) ≡ f (get_or members k d) ∷ drop (k + 1) (map f members)
types_from f [] k d lt = absurd (omega arith)
types_from f (m ∷ rest) zero d lt = refl
types_from f (m ∷ rest) (suc k) d lt = let more : drop k (map f rest) ≡ f (get_or rest k d) ∷ drop (k + 1) (map f rest) = types_from f rest k d (omega arith) in rw add-one (rw add-one at more)

pub member_step_on : (fill : Fill) (k : ℕ) (t : Ctype) (types rest : List Ctype) (cells part out1 out2 whole : CellList) (front there before : List PathStep) → there ≡ front → before ≡ there ++ Member k ∷ [] → part ≡ under (Member k) cells → types ≡ t ∷ rest → out1 ++ joined front (members_from fill k types cells) ≡ whole → out2 ≡ out1 ++ joined before (fill t part) → out2 ++ joined front (members_from fill (k + 1) rest cells) ≡ whole
member_step_on fill k t types rest cells part out1 out2 whole front there before th b p ts a e =
    member_more fill k t types rest cells out1 out2 whole front ts a (one_more out1 out2 before front (Member k) (fill t (under (Member k) cells)) (b ∙ ap (λ (q : List PathStep). q ++ Member k ∷ []) th) (e ∙ ap (λ (xs : CellList). out1 ++ joined before (fill t xs)) p))

pub active_some : (fill : Fill) (k : ℕ) (t : Ctype) (found : Option Ctype) (cells part out1 out2 : CellList) (front before : List PathStep) → before ≡ front ++ Member k ∷ [] → part ≡ under (Member k) cells → found ≡ Some t → out2 ≡ out1 ++ joined before (listed (fill t part)) → out2 ≡ out1 ++ joined front (one_member fill k found cells)
active_some fill k t found cells part out1 out2 front before b p f e =
    one_more out1 out2 before front (Member k) (listed (fill t (under (Member k) cells))) b (e ∙ ap (λ (xs : CellList). out1 ++ joined before (listed (fill t xs))) p) ∙ ap (λ (o : Option Ctype). out1 ++ joined front (one_member fill k o cells)) (sym f)

pub active_none : (fill : Fill) (k : ℕ) (found : Option Ctype) (cells out : CellList) (front : List PathStep) → found ≡ None → out ≡ out ++ joined front (one_member fill k found cells)
active_none fill k found cells out front f = sym (ap (λ (o : Option Ctype). out ++ joined front (one_member fill k o cells)) f ∙ append-nil out)

pub joined_none : (xs : CellList) → joined [] xs ≡ xs
joined_none [] = refl
joined_none (e ∷ xs) = ap (λ (ys : CellList). e ∷ ys) (joined_none xs)
