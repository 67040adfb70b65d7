-- Flags of leaves, with one declaration more.
use Rattle.std.proofs.Common.{arith, ◌≡◌, ℕ, ◌<◌, ◌+◌, ◌-◌, ◌==◌, Bool, true, false, not, ◌&&◌, cond, List, ◌∷◌, Option, Some, length, drop, get_or, refl, sym, ap, ◌∙◌, subst}
use Rattle.std.specs.Prelude.{slice_set}
use Rattle.std.proofs.lemmas.Bool.{eqb-true, eqb-false}
use Rattle.std.proofs.lemmas.List.{drop_more, get_or-set_same, get_or-set_other}
use Rattle.c_scope.specs.declared.kinds.Declared.{Declared}
use Rattle.c_senses.specs.Names.{names_type, entry_of}
use Rattle.statement_rows.specs.Kinds.{Flagged, is_typedef_entry, is_function_entry}

-- one flag that says what a declaration says
flag_more : (says : Option Declared → Bool) (d : Declared) (rest : List Declared) (flags : List Bool) (x : Bool) → d.node < length flags → x ≡ says (Some d) → ((leaf : ℕ) → get_or flags leaf false ≡ says (entry_of rest leaf))
    → (leaf : ℕ) → get_or (slice_set flags d.node x) leaf false ≡ says (entry_of (d ∷ rest) leaf)
flag_more says d rest flags x within is so_far leaf = by_test (d.node == leaf) refl
  where
    by_test : (b : Bool) → (d.node == leaf) ≡ b → get_or (slice_set flags d.node x) leaf false ≡ says (cond (d.node == leaf) (Some d) (entry_of rest leaf))
    by_test true e =
        let same : d.node ≡ leaf = eqb-true d.node leaf e in
        sym (ap (λ (i : ℕ). get_or (slice_set flags d.node x) i false) same)
        ∙ (get_or-set_same flags d.node x false within ∙ (is ∙ sym (ap (λ (t : Bool). says (cond t (Some d) (entry_of rest leaf))) e)))
    by_test false e =
        get_or-set_other flags d.node leaf x false (λ same. eqb-false d.node leaf e (sym same))
        ∙ (so_far leaf ∙ sym (ap (λ (t : Bool). says (cond t (Some d) (entry_of rest leaf))) e))

pub flagged_more : (ds : List Declared) (i : ℕ) (none d : Declared) (ts fs : List Bool) (x y : Bool) → i < length ds → d ≡ get_or ds (length ds - 1 - i) none → d.node < length ts → d.node < length fs
    → x ≡ names_type d → y ≡ (d.is_function && not (names_type d)) → Flagged (drop (length ds - i) ds) ts fs
    → Flagged (drop (length ds - (i + 1)) ds) (slice_set ts d.node x) (slice_set fs d.node y)
flagged_more ds i none d ts fs x y h is lt lf ex ey flags =
    let at : length ds - 1 - i ≡ length ds - (i + 1) = omega arith in
    let more : length ds - (i + 1) < length ds = omega arith in
    let next : length ds - (i + 1) + 1 ≡ length ds - i = omega arith in
    let rest = drop (length ds - i) ds in
    let same : drop (length ds - (i + 1)) ds ≡ d ∷ rest =
    drop_more ds (length ds - (i + 1)) none more
    ∙ (ap (λ (k : ℕ). get_or ds (length ds - (i + 1)) none ∷ drop k ds) next ∙ ap (λ (e : Declared). e ∷ rest) (sym (is ∙ ap (λ (k : ℕ). get_or ds k none) at))) in
    subst (λ (l : List Declared). Flagged l (slice_set ts d.node x) (slice_set fs d.node y)) (sym same)
    (record { types = flag_more is_typedef_entry d rest ts x lt ex flags.types; names = flag_more is_function_entry d rest fs y lf ey flags.names })
