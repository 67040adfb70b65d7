-- The type of a number is its term's, over the types of the table.
use Rattle.std.proofs.Common.{arith, ◌≡◌, ℕ, zero, suc, ◌<◌, ◌+◌, List, [], ◌∷◌, ◌++◌, length, length-append, append-nil, append_assoc, Some, slice_get, get_or, refl, sym, ap, ◌∙◌, subst}
use Rattle.std.proofs.lemmas.Option.{slice_get-get_or}
use Rattle.c_types.specs.declared.term.Term.{Term}
use Rattle.c_types.specs.declared.term.Term.TheVariants.{Void, Bool as BoolTerm, Integer, Floating, VaList, Pointer, Array, Function, Structure, Union}
use Rattle.c_types.specs.Trees.{Ctype, StructureOf, UnionOf, tree_at, grow, grown}
use Rattle.c_types.specs.Table.{Table, IsAfter, types_of, type_of}
use Rattle.c_types.specs.Made.{AreNamed}
use Rattle.c_types.proofs.Grow.{grow_before}

grown_more : (trees : List Ctype) (terms : List Term) → (more : List Ctype) × (grown trees terms ≡ trees ++ more)
grown_more trees [] = ([], sym (append-nil trees))
grown_more trees (t ∷ rest) =
    let rest_of = grown_more (trees ++ grow trees t ∷ []) rest in
    (grow trees t ∷ rest_of.0, rest_of.1 ∙ append_assoc trees (grow trees t ∷ []) rest_of.0)

at_seam : (trees more : List Ctype) (x : Ctype) → tree_at (trees ++ x ∷ more) (length trees) ≡ x
at_seam [] more x = refl
at_seam (t ∷ trees) more x = at_seam trees more x

term_from : (trees : List Ctype) (terms : List Term) (i : ℕ) (t : Term) → slice_get terms i ≡ Some t → IsAfter (length trees + i) t → tree_at (grown trees terms) (length trees + i) ≡ grow (grown trees terms) t
term_from trees [] zero t e after = cc
term_from trees [] (suc i) t e after = cc
term_from trees (x ∷ rest) zero t e after =
    let more = grown_more trees (x ∷ rest) in
    let next = grown_more (trees ++ grow trees x ∷ []) rest in
    let same : x ≡ t = cc in
    let place : length trees + 0 ≡ length trees = omega arith in
    let whole : grown trees (x ∷ rest) ≡ trees ++ grow trees x ∷ next.0 = next.1 ∙ append_assoc trees (grow trees x ∷ []) next.0 in
    let before : IsAfter (length trees) t = subst (λ n. IsAfter n t) place after in
    let left : tree_at (grown trees (x ∷ rest)) (length trees + 0) ≡ grow trees x = ap (tree_at (grown trees (x ∷ rest))) place ∙ (ap (λ (l : List Ctype). tree_at l (length trees)) whole ∙ at_seam trees next.0 (grow trees x)) in
    let right : grow (grown trees (x ∷ rest)) t ≡ grow trees t = ap (λ (l : List Ctype). grow l t) whole ∙ grow_before trees (grow trees x ∷ next.0) t before in
    left ∙ (ap (grow trees) same ∙ sym right)
term_from trees (x ∷ rest) (suc i) t e after =
    let longer : length (trees ++ grow trees x ∷ []) ≡ length trees + 1 = length-append trees (grow trees x ∷ []) in
    let place : length (trees ++ grow trees x ∷ []) + i ≡ length trees + suc i = omega arith in
    let deeper = term_from (trees ++ grow trees x ∷ []) rest i t e (subst (λ n. IsAfter n t) (sym place) after) in
    ap (tree_at (grown trees (x ∷ rest))) (sym place) ∙ deeper

pub type_is : (table : Table) (id : ℕ) (t : Term) → AreNamed table → slice_get table.terms id ≡ Some t → type_of table id ≡ grow (types_of table) t
type_is table id t named e =
    let place : length {A = Ctype} [] + id ≡ id = omega arith in
    let after : IsAfter id t = (named id t e).0 in
    let found = term_from [] table.terms id t e (subst (λ n. IsAfter n t) (sym place) after) in
    ap (tree_at (types_of table)) (sym place) ∙ found

-- each number below the number of terms has a term
pub term_at : (terms : List Term) (id : ℕ) → id < length terms → (t : Term) × (slice_get terms id ≡ Some t)
term_at terms id lt = (get_or terms id Void, slice_get-get_or terms id Void lt)

-- a term of a structure or union
pub structure_term : (trees : List Ctype) (t : Term) (tag : ℕ) → grow trees t ≡ StructureOf tag → t ≡ Structure tag
structure_term trees (Structure k) tag e = cc
structure_term trees (Union k) tag e = cc
structure_term trees Void tag e = cc
structure_term trees BoolTerm tag e = cc
structure_term trees (Integer size rank signed) tag e = cc
structure_term trees Floating tag e = cc
structure_term trees VaList tag e = cc
structure_term trees (Pointer to) tag e = cc
structure_term trees (Array of n) tag e = cc
structure_term trees (Function result parameters form) tag e = cc

pub union_term : (trees : List Ctype) (t : Term) (tag : ℕ) → grow trees t ≡ UnionOf tag → t ≡ Union tag
union_term trees (Structure k) tag e = cc
union_term trees (Union k) tag e = cc
union_term trees Void tag e = cc
union_term trees BoolTerm tag e = cc
union_term trees (Integer size rank signed) tag e = cc
union_term trees Floating tag e = cc
union_term trees VaList tag e = cc
union_term trees (Pointer to) tag e = cc
union_term trees (Array of n) tag e = cc
union_term trees (Function result parameters form) tag e = cc
