-- Types by their terms.
use Rattle.std.proofs.Common.{arith, ◌≡◌, ◌∙◌, ℕ, zero, suc, ◌+◌, ◌<◌, List, [], ◌∷◌, ◌++◌, Option, Some, None, length, slice_get, length-append, refl, sym, ap, inl, inr}
use Rattle.std.proofs.lemmas.Option.{slice_get_cases}
use Rattle.c_types.specs.declared.term.Term.{Term}
use Rattle.c_types.specs.declared.term.Term.TheVariants.{Void, Bool, Integer, Floating, VaList, Pointer, Array, Function, Structure, Union}
use Rattle.c_types.specs.Trees.{Ctype, StructureOf, UnionOf, tree_at, grow, grown}
use Rattle.c_types.specs.Table.{Table, type_of}
use Rattle.c_types.proofs.Grow.{tree_before}

none_some : {X : Type 0} → {x : X} → ◌≡◌ {A = Option X} None (Some x) → ⊥
none_some h = cc

some_one : {X : Type 0} → {x y : X} → ◌≡◌ {A = Option X} (Some x) (Some y) → x ≡ y
some_one h = cc

grown_keeps : (trees : List Ctype) (terms : List Term) (k : ℕ) → k < length trees → tree_at (grown trees terms) k ≡ tree_at trees k
grown_keeps trees [] k lt = refl
grown_keeps trees (t ∷ rest) k lt =
    let long : length (trees ++ grow trees t ∷ []) ≡ length trees + 1 = length-append trees (grow trees t ∷ []) in
    grown_keeps (trees ++ grow trees t ∷ []) rest k (omega arith) ∙ tree_before trees (grow trees t ∷ []) k lt

at_end : (trees : List Ctype) (t : Ctype) → tree_at (trees ++ t ∷ []) (length trees) ≡ t
at_end [] t = refl
at_end (x ∷ trees) t = at_end trees t

tree_of : (trees : List Ctype) (terms : List Term) (i : ℕ) (t : Term) → slice_get terms i ≡ Some t → (over : List Ctype) × (tree_at (grown trees terms) (length trees + i) ≡ grow over t)
tree_of trees [] i t h = absurd (none_some h)
tree_of trees (x ∷ rest) zero t h =
    let long : length (trees ++ grow trees x ∷ []) ≡ length trees + 1 = length-append trees (grow trees x ∷ []) in
    (trees, ap (tree_at (grown (trees ++ grow trees x ∷ []) rest)) (omega arith) ∙ (grown_keeps (trees ++ grow trees x ∷ []) rest (length trees) (omega arith) ∙ (at_end trees (grow trees x) ∙ ap (grow trees) (some_one h))))
tree_of trees (x ∷ rest) (suc i) t h =
    let long : length (trees ++ grow trees x ∷ []) ≡ length trees + 1 = length-append trees (grow trees x ∷ []) in
    let r = tree_of (trees ++ grow trees x ∷ []) rest i t h in
    (r.0, ap (tree_at (grown (trees ++ grow trees x ∷ []) rest)) (omega arith) ∙ r.1)

-- the type of a term
pub type_of_term : (table : Table) (i : ℕ) (t : Term) → slice_get table.terms i ≡ Some t → (trees : List Ctype) × (type_of table i ≡ grow trees t)
type_of_term table i t h = let r = tree_of [] table.terms i t h in (r.0, ap (tree_at (grown [] table.terms)) (omega arith) ∙ r.1)

grow_union : (trees : List Ctype) (t : Term) (tag : ℕ) → grow trees t ≡ UnionOf tag → t ≡ Union tag
grow_union trees (Union other) tag h = cc
grow_union trees Void tag h = cc
grow_union trees Bool tag h = cc
grow_union trees (Integer size rank signed) tag h = cc
grow_union trees Floating tag h = cc
grow_union trees VaList tag h = cc
grow_union trees (Pointer to) tag h = cc
grow_union trees (Array of n) tag h = cc
grow_union trees (Function r ps f) tag h = cc
grow_union trees (Structure other) tag h = cc

-- the term of a union
pub union_term : (table : Table) (id tag : ℕ) → id < length table.terms → type_of table id ≡ UnionOf tag → slice_get table.terms id ≡ Some (Union tag)
union_term table id tag lt h = elim (slice_get_cases table.terms id).1 [
  | inl p ↦ let r = type_of_term table id p.0 p.2 in p.2 ∙ ap Some (grow_union r.0 p.0 tag (sym r.1 ∙ h))
  | inr past ↦ let far = past.0 in absurd (omega arith)
]

grow_structure : (trees : List Ctype) (t : Term) (tag : ℕ) → grow trees t ≡ StructureOf tag → t ≡ Structure tag
grow_structure trees (Structure other) tag h = cc
grow_structure trees Void tag h = cc
grow_structure trees Bool tag h = cc
grow_structure trees (Integer size rank signed) tag h = cc
grow_structure trees Floating tag h = cc
grow_structure trees VaList tag h = cc
grow_structure trees (Pointer to) tag h = cc
grow_structure trees (Array of n) tag h = cc
grow_structure trees (Function r ps f) tag h = cc
grow_structure trees (Union other) tag h = cc

-- the term of a structure
pub structure_term : (table : Table) (id tag : ℕ) → id < length table.terms → type_of table id ≡ StructureOf tag → slice_get table.terms id ≡ Some (Structure tag)
structure_term table id tag lt h = elim (slice_get_cases table.terms id).1 [
  | inl p ↦ let r = type_of_term table id p.0 p.2 in p.2 ∙ ap Some (grow_structure r.0 p.0 tag (sym r.1 ∙ h))
  | inr past ↦ let far = past.0 in absurd (omega arith)
]
