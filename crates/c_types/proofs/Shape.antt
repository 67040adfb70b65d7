-- The element and the count of a term that is the next to be added.
use Rattle.std.proofs.Common.{arith, ◌≡◌, ℕ, ◌<◌, List, [], ◌∷◌, ◌++◌, length, refl, ◌∙◌, Option, Some, get_or}
use Rattle.std.proofs.lemmas.List.{get_or_push}
use Rattle.c_types.specs.declared.term.Term.{Term}
use Rattle.c_types.specs.declared.term.Term.TheVariants.{Void, Bool as BoolTerm, Integer, Floating, VaList, Pointer, Array, Function, Structure, Union}
use Rattle.c_types.specs.declared.term.TypeId.{TypeId}
use Rattle.c_types.specs.declared.table.Entry.{Entry}
use Rattle.c_types.specs.Trees.{Ctype, VoidType, tree_at, grow, grown}
use Rattle.c_types.specs.Inside.{terms_of, AreEntries, element_of, count_of}
use Rattle.c_types.proofs.Grow.{tree_before, types_length}
use Rattle.c_types.proofs.Read.{entry_at}

abbrev pub NotArray : Term → Type 0
NotArray t = (of : TypeId) (n : Option ℕ) → t ≡ Array of n → ⊥

pub plain_element : (trees : List Ctype) (t : Term) → NotArray t → element_of (grow trees t) ≡ grow trees t
plain_element trees (Array of n) p = absurd (p of n refl)
plain_element trees Void p = refl
plain_element trees BoolTerm p = refl
plain_element trees (Integer size rank signed) p = refl
plain_element trees Floating p = refl
plain_element trees VaList p = refl
plain_element trees (Pointer to) p = refl
plain_element trees (Function result parameters form) p = refl
plain_element trees (Structure tag) p = refl
plain_element trees (Union tag) p = refl

pub plain_count : (trees : List Ctype) (t : Term) → NotArray t → count_of (grow trees t) ≡ Some 1
plain_count trees (Array of n) p = absurd (p of n refl)
plain_count trees Void p = refl
plain_count trees BoolTerm p = refl
plain_count trees (Integer size rank signed) p = refl
plain_count trees Floating p = refl
plain_count trees VaList p = refl
plain_count trees (Pointer to) p = refl
plain_count trees (Function result parameters form) p = refl
plain_count trees (Structure tag) p = refl
plain_count trees (Union tag) p = refl

-- the place behind the last entry has the new tree
pub tree_pushed : (entries : List Entry) (x : Ctype) → tree_at (grown [] (terms_of entries) ++ x ∷ []) (length entries) ≡ x
tree_pushed entries x = get_or_push (grown [] (terms_of entries)) x VoidType (length entries) (types_length entries)

-- the element of an array's element
pub array_element : (entries : List Entry) (tags : ℕ) → AreEntries entries tags → (i : ℕ) (d : Entry) → i < length entries → (x : Ctype) → tree_at (grown [] (terms_of entries) ++ x ∷ []) (get_or entries i d).element ≡ element_of (tree_at (grown [] (terms_of entries)) i)
array_element entries tags all i d h x =
    let e = entry_at entries tags all i d h in
    tree_before (grown [] (terms_of entries)) (x ∷ []) (get_or entries i d).element (omega (arith, types_length entries, e.element_before)) ∙ e.element
