-- The senses of one node more.
use Rattle.std.proofs.Common.{arith, ◌≡◌, ◌==◌, ◌<◌, ◌≤◌, ◌+◌, ℕ, zero, suc, Bool, false, List, [], ◌∷◌, ◌++◌, Option, Some, None, length, length-append, get_or, take, slice_get, inl, inr, refl, sym, ap, ◌∙◌, subst}
use Rattle.std.specs.Prelude.{if◌then◌else◌}
use Rattle.std.proofs.lemmas.Bool.Decides.{eqb_tells}
use Rattle.std.proofs.lemmas.Option.{slice_get_within, get_or_from_slice_get, slice_get-get_or}
use Rattle.std.proofs.lemmas.List.{take-append-le, get_or_append_left}
use Rattle.std.proofs.Math.Seq.{take-append_seam, get_or-append_seam}
use Rattle.c_grammar.specs.declared.trees.SyntaxNode.{SyntaxNode}
use Rattle.c_grammar.specs.Productions.{p_struct, p_members}
use Rattle.c_inits.specs.Made.{TagParts}
use Rattle.c_senses.specs.Given.{Given, Fits, Refuses}
use Rattle.c_senses.specs.Tree.{Source, is_a, child_of, production_of, children_of, production_at, children_at}
use Rattle.c_senses.specs.Sense.{Sense, Nothing, IsMembers, sense_in}
use Rattle.c_senses.specs.Tags.{tag_of}
use Rattle.c_senses.specs.Rows.{world_at, row_of, row, AreSenses}
use Rattle.unit_worlds.specs.Growing.{completed_at}

-- no senses, no rows
pub no_senses : (s : Source) → AreSenses s []
no_senses s = record { within = omega arith; each = λ i n x em ey. absurd (let lt : i < 0 = slice_get_within [] i x ey in omega (arith, lt)) }

there_is : (nodes : List SyntaxNode) (i : ℕ) → i < length nodes → (n : SyntaxNode) × (slice_get nodes i ≡ Some n)
there_is [] i h = absurd (omega arith)
there_is (n ∷ rest) i h = let lt : i < length (n ∷ rest) = h in (get_or (n ∷ rest) i n, slice_get-get_or (n ∷ rest) i n lt)

-- the row of the node at the end, over the senses before it
abbrev pub row_here : Source → List Sense → Given Sense
row_here s senses = row_of (world_at s senses (length senses)) s (sense_in senses) (production_at s (length senses)) (length senses) (children_at s (length senses))

module _ (s : Source) (senses : List Sense) where
  pub row_as : (n : SyntaxNode) → slice_get s.nodes (length senses) ≡ Some n → row s senses (length senses) n ≡ row_here s senses
  row_as n there =
      sym (ap (λ (p : ℕ). row_of (world_at s senses (length senses)) s (sense_in senses) p (length senses) (children_at s (length senses))) (ap production_of there)
      ∙ ap (row_of (world_at s senses (length senses)) s (sense_in senses) n.production (length senses)) (ap children_of there))

  module _ (x : Sense) (before : AreSenses s senses) (inside : length senses < length s.nodes) (fits : row_here s senses ≡ Fits x) where
    IsRow : List Sense → SyntaxNode → ℕ → Sense → Type 0
    IsRow t m i y = row s t i m ≡ Fits y

    last_row : (i : ℕ) (m : SyntaxNode) (y : Sense) → i ≡ length senses → slice_get s.nodes i ≡ Some m → slice_get (senses ++ x ∷ []) i ≡ Some y → IsRow (take i (senses ++ x ∷ [])) m i y
    unfolding IsRow
    last_row i m y e em ey =
        let e1 : get_or (senses ++ x ∷ []) i Nothing ≡ y = get_or_from_slice_get (senses ++ x ∷ []) i y Nothing ey in
        let e2 : x ≡ y = sym (get_or-append_seam senses x [] Nothing) ∙ (ap (λ (j : ℕ). get_or (senses ++ x ∷ []) j Nothing) (sym e) ∙ e1) in
        let there : slice_get s.nodes (length senses) ≡ Some m = ap (slice_get s.nodes) (sym e) ∙ em in
        let e4 : senses ≡ take i (senses ++ x ∷ []) = sym (take-append_seam senses (x ∷ [])) ∙ ap (λ (j : ℕ). take j (senses ++ x ∷ [])) (sym e) in
        let here : IsRow senses m (length senses) y = row_as m there ∙ (fits ∙ ap Fits e2) in
        subst (λ (t : List Sense). IsRow t m i y) e4 (subst (λ (j : ℕ). IsRow senses m j y) (sym e) here)

    earlier_row : (i : ℕ) (m : SyntaxNode) (y : Sense) → i < length senses → slice_get s.nodes i ≡ Some m → slice_get (senses ++ x ∷ []) i ≡ Some y → IsRow (take i (senses ++ x ∷ [])) m i y
    unfolding IsRow
    earlier_row i m y lt em ey =
        let e1 : get_or (senses ++ x ∷ []) i Nothing ≡ y = get_or_from_slice_get (senses ++ x ∷ []) i y Nothing ey in
        let e2 : slice_get senses i ≡ Some y = slice_get-get_or senses i Nothing lt ∙ ap Some (sym (get_or_append_left senses (x ∷ []) Nothing i lt) ∙ e1) in
        subst (λ (t : List Sense). IsRow t m i y) (sym (take-append-le i senses (x ∷ []) (omega (arith, lt)))) (before.each i m y em e2)

    pub senses_more : AreSenses s (senses ++ x ∷ [])
    unfolding IsRow
    senses_more = record {
      within = omega (arith, inside, length-append senses (x ∷ []));
      each = λ i m y em ey. elim (eqb_tells i (length senses)) [
        | inl p ↦ last_row i m y p.1 em ey
        | inr p ↦ let longer : length (senses ++ x ∷ []) ≡ length senses + 1 = length-append senses (x ∷ []) in earlier_row i m y (omega (arith, p.1, slice_get_within (senses ++ x ∷ []) i y ey, longer)) em ey
      ];
    }

-- a node that is no specifier of a structure or union completes none
pub none_at : (s : Source) (sense : ℕ → Sense) (at : ℕ) → is_a s p_struct at ≡ false → completed_at s sense at ≡ []
none_at s sense at e = ap (λ (b : Bool). by (if b then child_of s p_members at else None)) e
  where
    by : Option ℕ → List TagParts
    by o = elim o as (λ _. List TagParts) [ None ↦ [] | Some list ↦ elim (sense list) as (λ _. List TagParts) [ IsMembers parts ↦ record { tag = tag_of s at; members = parts } ∷ [] | _ ↦ [] ] ]
