-- Tables that grow step by step.
use Rattle.std.proofs.Common.{arith, ◌≡◌, ℕ, ◌<◌, ◌+◌, List, [], ◌∷◌, ◌++◌, length, length-append, append_assoc, ap, ◌∙◌}
use Rattle.c_types.specs.declared.term.Term.{Term}
use Rattle.c_types.specs.Trees.{Ctype}
use Rattle.c_types.specs.Table.{Table, type_of, extent_in}
use Rattle.ref_state.specs.ref_types.Longer.{IsLonger}

pub longer_by : (a : Table) (xs : List Term) (b : Table) (t : Term) (c : Table)
    → IsLonger a xs b
    → c ≡ record b { terms = b.terms ++ t ∷ [] }
    → ((i : ℕ) → i < length b.terms → type_of c i ≡ type_of b i)
    → ((t : Ctype) → extent_in c t ≡ extent_in b t)
    → IsLonger a (xs ++ t ∷ []) c
longer_by a xs b t c h e kept extents = record {
  table = e
      ∙ (ap (λ (x : Table). record x { terms = x.terms ++ t ∷ [] }) h.table
      ∙ ap (λ (ts : List Term). record a { terms = ts }) (append_assoc a.terms xs (t ∷ [])));
  kept = λ i lt.
      kept i (omega (arith, lt, ap (λ (x : Table). length x.terms) h.table, length-append a.terms xs)) ∙ h.kept i lt;
  extents = λ x. extents x ∙ h.extents x;
}

pub longer_first : (a : Table) (t : Term) (c : Table)
    → c ≡ record a { terms = a.terms ++ t ∷ [] }
    → ((i : ℕ) → i < length a.terms → type_of c i ≡ type_of a i)
    → ((t : Ctype) → extent_in c t ≡ extent_in a t)
    → IsLonger a (t ∷ []) c
longer_first a t c e kept extents = record { table = e; kept = kept; extents = extents }

pub longer_both : (a : Table) (xs : List Term) (b : Table) (ys : List Term) (c : Table)
    → IsLonger a xs b
    → IsLonger b ys c
    → IsLonger a (xs ++ ys) c
longer_both a xs b ys c h g = record {
  table = g.table
      ∙ (ap (λ (x : Table). record x { terms = x.terms ++ ys }) h.table
      ∙ ap (λ (ts : List Term). record a { terms = ts }) (append_assoc a.terms xs ys));
  kept = λ i lt.
      g.kept i (omega (arith, lt, ap (λ (x : Table). length x.terms) h.table, length-append a.terms xs)) ∙ h.kept i lt;
  extents = λ x. g.extents x ∙ h.extents x;
}

-- how many terms a longer table has
pub count_longer : (a : Table) (xs : List Term) (b : Table)
    → IsLonger a xs b
    → length b.terms ≡ length a.terms + length xs
count_longer a xs b h = ap (λ (x : Table). length x.terms) h.table ∙ length-append a.terms xs
