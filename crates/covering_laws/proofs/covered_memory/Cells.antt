-- Facts of each cell: of lists that are joined, filtered, and seen from before or behind a step.
use Rattle.std.proofs.Common.{arith, ◌≡◌, ◌∙◌, ℕ, Bool, true, false, cond, List, [], ◌∷◌, ◌++◌, map, filter, refl, sym, ap, subst, inl, inr}
use Rattle.std.proofs.lemmas.Bool.{false≢true}
use Rattle.std.proofs.lemmas.Bool.Decides.{eqb_tells}
use Rattle.c_types.specs.declared.term.PathStep.{PathStep}
use Rattle.c_types.specs.declared.term.PathStep.TheVariants.{Index, Member}
use Rattle.ref_cells.specs.declared.cells.Cell.{Cell}
use Rattle.ref_cells.specs.Cells.{Entry, CellList, step_key, head_key, tail, is_under, behind, under, prefixed}
use Rattle.ref_cells.proofs.Unders.{key_some}
use Rattle.covering_laws.specs.covered_memory.Cells.{EachCell}

pub each_append : (P : List PathStep → Cell → Type 0) (xs ys : CellList) → EachCell P xs → EachCell P ys → EachCell P (xs ++ ys)
each_append P [] ys h g = g
each_append P (e ∷ xs) ys h g = (h.0, each_append P xs ys h.1 g)

pub each_filter : (P : List PathStep → Cell → Type 0) (test : Entry → Bool) (xs : CellList) → EachCell P xs → EachCell P (filter test xs)
each_filter P test [] h = tt
each_filter P test (e ∷ xs) h = by (test e) (each_filter P test xs h.1)
  where
    by : (b : Bool) → EachCell P (filter test xs) → EachCell P (cond b (e ∷ filter test xs) (filter test xs))
    by true rest = (h.0, rest)
    by false rest = rest

pub each_change : (P Q : List PathStep → Cell → Type 0) (xs : CellList) → ((p : List PathStep) (c : Cell) → P p c → Q p c) → EachCell P xs → EachCell Q xs
each_change P Q [] f h = tt
each_change P Q (e ∷ xs) f h = (f e.0 e.1 h.0, each_change P Q xs f h.1)

pub each_prefixed : (P : List PathStep → Cell → Type 0) (s : PathStep) (xs : CellList) → EachCell (λ p c. P (s ∷ p) c) xs → EachCell P (prefixed s xs)
each_prefixed P s [] h = tt
each_prefixed P s (e ∷ xs) h = (h.0, each_prefixed P s xs h.1)

-- cells with the same paths
pub each_mapped : (P : List PathStep → Cell → Type 0) (f : Cell → Cell) (xs : CellList) → ((p : List PathStep) (c : Cell) → P p c → P p (f c)) → EachCell P xs → EachCell P (map (λ e. (e.0, f e.1)) xs)
each_mapped P f [] g h = tt
each_mapped P f (e ∷ xs) g h = (g e.0 e.1 h.0, each_mapped P f xs g h.1)

same_key : (a b : PathStep) → step_key a ≡ step_key b → a ≡ b
same_key (Index i) (Index j) e = ap (λ (n : ℕ). Index n) (let s : i ≡ j = omega arith in s)
same_key (Index i) (Member k) e = absurd (omega arith)
same_key (Member k) (Index i) e = absurd (omega arith)
same_key (Member k) (Member j) e = ap (λ (n : ℕ). Member n) (let s : k ≡ j = omega arith in s)

-- a path that begins with a step's number begins with that step
begins_so : (P : List PathStep → Cell → Type 0) (s : PathStep) (p : List PathStep) (c : Cell) → head_key p ≡ step_key s → P p c → P (s ∷ tail p) c
begins_so P s [] c e h = absurd (let some = key_some s in let bad : 0 ≡ step_key s = e in omega arith)
begins_so P s (r ∷ rest) c e h = subst (λ (x : PathStep). P (x ∷ rest) c) (same_key r s e) h

pub each_under : (P : List PathStep → Cell → Type 0) (s : PathStep) (xs : CellList) → EachCell P xs → EachCell (λ p c. P (s ∷ p) c) (under s xs)
each_under P s [] h = tt
each_under P s (e ∷ xs) h = by (is_under (step_key s) e) refl (each_under P s xs h.1)
  where
    by : (b : Bool) → is_under (step_key s) e ≡ b → EachCell (λ p c. P (s ∷ p) c) (under s xs)
        → EachCell (λ p c. P (s ∷ p) c) (map behind (cond b (e ∷ filter (is_under (step_key s)) xs) (filter (is_under (step_key s)) xs)))
    by true is rest = (elim (eqb_tells (head_key e.0) (step_key s)) [ inl same ↦ begins_so P s e.0 e.1 same.1 h.0 | inr other ↦ absurd (false≢true (sym other.0 ∙ is)) ], rest)
    by false is rest = rest
