-- The trees of a list of terms, with one term more.
use Rattle.std.proofs.Common.{arith, ◌≡◌, ℕ, ◌<◌, ◌+◌, List, [], ◌∷◌, ◌++◌, length, refl, ap, All}
use Rattle.std.proofs.lemmas.List.{get_or_append_left, length-map}
use Rattle.std.proofs.Common.{length-append}
use Rattle.std.proofs.lemmas.List.Elements.{All-head, All-tail, All-weaker}
use Rattle.c_types.specs.declared.term.Term.{Term}
use Rattle.c_types.specs.declared.term.Term.TheVariants.{Void, Bool as BoolTerm, Integer, Floating, VaList, Pointer, Array, Function, Structure, Union}
use Rattle.c_types.specs.declared.term.TypeId.{TypeId}
use Rattle.c_types.specs.declared.table.Entry.{Entry}
use Rattle.c_types.specs.Trees.{Ctype, VoidType, PointerTo, tree_at, trees_at, grow, grown}
use Rattle.c_types.specs.Table.{IsAfter}
use Rattle.c_types.specs.Inside.{terms_of}

pub grown_append : (trees : List Ctype) (a b : List Term) → grown trees (a ++ b) ≡ grown (grown trees a) b
grown_append trees [] b = refl
grown_append trees (t ∷ a) b = grown_append (trees ++ grow trees t ∷ []) a b

pub grown_push : (a : List Term) (t : Term) → grown [] (a ++ t ∷ []) ≡ grown [] a ++ grow (grown [] a) t ∷ []
grown_push a t = grown_append [] a (t ∷ [])

pub grown_length : (trees : List Ctype) (a : List Term) → length (grown trees a) ≡ length trees + length a
grown_length trees [] = omega arith
grown_length trees (t ∷ a) = omega (arith, grown_length (trees ++ grow trees t ∷ []) a, length-append trees (grow trees t ∷ []))

pub types_length : (entries : List Entry) → length (grown [] (terms_of entries)) ≡ length entries
types_length entries = omega (arith, grown_length [] (terms_of entries), length-map entries (λ (e : Entry). e.term))

pub tree_before : (trees more : List Ctype) (i : ℕ) → i < length trees → tree_at (trees ++ more) i ≡ tree_at trees i
tree_before trees more i h = get_or_append_left trees more VoidType i h

trees_before : (trees more : List Ctype) (a : List TypeId) → All (λ id. id.0 < length trees) a → trees_at (trees ++ more) a ≡ trees_at trees a
trees_before trees more [] h = refl
trees_before trees more (x ∷ a) h =
    let first = tree_before trees more x.0 (All-head (λ id. id.0 < length trees) x a h) in
    let rest = trees_before trees more a (All-tail (λ id. id.0 < length trees) x a h) in
    cc

pub grow_before : (trees more : List Ctype) (t : Term) → IsAfter (length trees) t → grow (trees ++ more) t ≡ grow trees t
grow_before trees more (Pointer to) h = ap PointerTo (tree_before trees more to.0 h)
grow_before trees more (Array of n) h = let e = tree_before trees more of.0 h in cc
grow_before trees more (Function result parameters form) h =
    let e = tree_before trees more result.0 h.0 in
    let f = trees_before trees more parameters h.1 in
    cc
grow_before trees more Void h = refl
grow_before trees more BoolTerm h = refl
grow_before trees more (Integer size rank signed) h = refl
grow_before trees more Floating h = refl
grow_before trees more VaList h = refl
grow_before trees more (Structure tag) h = refl
grow_before trees more (Union tag) h = refl

pub after_more : (n m : ℕ) (t : Term) → n < m → IsAfter n t → IsAfter m t
after_more n m (Pointer to) lt h = omega arith
after_more n m (Array of k) lt h = omega arith
after_more n m (Function result parameters form) lt h = (omega (arith, h.0), All-weaker (λ id. id.0 < n) (λ id. id.0 < m) (λ x b. omega arith) parameters h.1)
after_more n m Void lt h = tt
after_more n m BoolTerm lt h = tt
after_more n m (Integer size rank signed) lt h = tt
after_more n m Floating lt h = tt
after_more n m VaList lt h = tt
after_more n m (Structure tag) lt h = tt
after_more n m (Union tag) lt h = tt
