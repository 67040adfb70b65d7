-- A type's extent from its element's.
use Rattle.std.proofs.Common.{arith, ◌≡◌, ℕ, ◌*◌, ◌^◌, ◌<◌, List, [], refl, ap, sym, ◌∙◌, subst, Option, Some, None, length, min, get_or, mul_assoc, mul_comm}
use Rattle.c_types.specs.declared.term.Term.{Term}
use Rattle.c_types.specs.declared.term.Term.TheVariants.{Void, Bool as BoolTerm, Integer, Floating, VaList, Pointer, Array, Function, Structure, Union}
use Rattle.c_types.specs.declared.table.Entry.{Entry}
use Rattle.c_types.specs.declared.layout.Bounds.{Bounds}
use Rattle.c_types.specs.Trees.{Ctype, VoidType, BoolType, IntegerType, FloatingType, VaListType, PointerTo, ArrayOf, FunctionFrom, StructureOf, UnionOf, tree_at, grow, grown}
use Rattle.c_types.specs.Layout.{Extent, Look, extent_of, repeated}
use Rattle.c_types.specs.Table.{NotArray}
use Rattle.c_types.specs.Bounds.{bounds, bounds_or, bounds_times}
use Rattle.c_types.specs.Inside.{IsPlain, terms_of, AreEntries, element_of, count_of, times, capped}
use Rattle.c_types.proofs.Cap.{min_mul}
use Rattle.c_types.proofs.Read.{entry_at}

-- so many elements, where the number is known
abbrev pub spread : Option ℕ → Option Extent → Option Extent
spread None e = None
spread (Some n) e = repeated n e

once : (e : Option Extent) → e ≡ repeated 1 e
once None = refl
once (Some e) = ap (λ (n : ℕ). Some (record e { size = n })) (omega arith)

spread_none : (c : Option ℕ) (n : ℕ) → repeated n (spread c None) ≡ None
spread_none None n = refl
spread_none (Some k) n = refl

more : (n : ℕ) (c : Option ℕ) (e : Option Extent) → repeated n (spread c e) ≡ spread (times (Some n) c) e
more n None e = refl
more n (Some k) None = refl
more n (Some k) (Some e) = ap (λ (m : ℕ). Some (record e { size = m })) (sym (mul_assoc n k e.size))

pub extent_split : (look : Look) (t : Ctype) → extent_of look t ≡ spread (count_of t) (extent_of look (element_of t))
extent_split look (ArrayOf of None) = refl
extent_split look (ArrayOf of (Some n)) = ap (repeated n) (extent_split look of) ∙ more n (count_of of) (extent_of look (element_of of))
extent_split look VoidType = once (extent_of look VoidType)
extent_split look BoolType = once (extent_of look BoolType)
extent_split look (IntegerType size rank signed) = once (extent_of look (IntegerType size rank signed))
extent_split look FloatingType = once (extent_of look FloatingType)
extent_split look VaListType = once (extent_of look VaListType)
extent_split look (PointerTo to) = once (extent_of look (PointerTo to))
extent_split look (FunctionFrom result parameters form) = once (extent_of look (FunctionFrom result parameters form))
extent_split look (StructureOf tag) = once (extent_of look (StructureOf tag))
extent_split look (UnionOf tag) = once (extent_of look (UnionOf tag))

pub element_plain : (t : Ctype) → IsPlain (element_of t)
element_plain (ArrayOf of n) = element_plain of
element_plain VoidType = tt
element_plain BoolType = tt
element_plain (IntegerType size rank signed) = tt
element_plain FloatingType = tt
element_plain VaListType = tt
element_plain (PointerTo to) = tt
element_plain (FunctionFrom result parameters form) = tt
element_plain (StructureOf tag) = tt
element_plain (UnionOf tag) = tt

plain_term : (trees : List Ctype) (t : Term) → IsPlain (grow trees t) → NotArray t
plain_term trees (Array of n) p = p
plain_term trees Void p = tt
plain_term trees BoolTerm p = tt
plain_term trees (Integer size rank signed) p = tt
plain_term trees Floating p = tt
plain_term trees VaList p = tt
plain_term trees (Pointer to) p = tt
plain_term trees (Function r ps f) p = tt
plain_term trees (Structure tag) p = tt
plain_term trees (Union tag) p = tt

module _ (entries : List Entry) (tags : ℕ) (all : AreEntries entries tags) (i : ℕ) (d b : Entry) (h : i < length entries) (k : (get_or entries i d).element < length entries) where
  element_is : grow (grown [] (terms_of entries)) (get_or entries (get_or entries i d).element b).term ≡ element_of (tree_at (grown [] (terms_of entries)) i)
  element_is = sym (entry_at entries tags all (get_or entries i d).element b k).term ∙ (entry_at entries tags all i d h).element

  pub element_term : NotArray (get_or entries (get_or entries i d).element b).term
  element_term = plain_term (grown [] (terms_of entries)) (get_or entries (get_or entries i d).element b).term (subst IsPlain (sym element_is) (element_plain (tree_at (grown [] (terms_of entries)) i)))

  -- the extent over the element's term
  pub extent_at : (look : Look) → extent_of look (tree_at (grown [] (terms_of entries)) i) ≡ spread (count_of (tree_at (grown [] (terms_of entries)) i)) (extent_of look (grow (grown [] (terms_of entries)) (get_or entries (get_or entries i d).element b).term))
  extent_at look = extent_split look (tree_at (grown [] (terms_of entries)) i) ∙ ap (λ (t : Ctype). spread (count_of (tree_at (grown [] (terms_of entries)) i)) (extent_of look t)) (sym element_is)

min_both : (n s c : ℕ) → min (min n c * min s c) c ≡ min (n * s) c
min_both n s c = min_mul (min n c) s c ∙ (ap (λ x. min x c) (mul_comm (min n c) s) ∙ (min_mul s n c ∙ ap (λ x. min x c) (mul_comm s n)))

pub bounds_spread : (c : Option ℕ) (e : Option Extent) → bounds_times (capped c) (bounds_or e) ≡ bounds_or (spread c e)
bounds_spread None e = refl
bounds_spread (Some n) None = refl
bounds_spread (Some n) (Some e) = ap (λ (s : ℕ). Some (record (bounds e) { size = s })) (min_both n e.size (2 ^ 63))

-- what is computed from the entry and its element's entry
pub bounds_right : (entries : List Entry) (tags : ℕ) → AreEntries entries tags → (i : ℕ) (d d' b : Entry) → i < length entries → (get_or entries i d).element < length entries → (look : Look) (r base : Option Bounds) → base ≡ bounds_or (extent_of look (grow (grown [] (terms_of entries)) (get_or entries (get_or entries i d).element b).term)) → r ≡ bounds_times (get_or entries i d').count base → r ≡ bounds_or (extent_of look (tree_at (grown [] (terms_of entries)) i))
bounds_right entries tags all i d d' b h k look r base be re =
    let count = (entry_at entries tags all i d' h).count in
    let types = grown [] (terms_of entries) in
    let x = extent_of look (grow types (get_or entries (get_or entries i d).element b).term) in
    let n = count_of (tree_at types i) in
    let one : bounds_times (get_or entries i d').count base ≡ bounds_times (capped n) (bounds_or x) = ap (λ (c : Option ℕ). bounds_times c base) count ∙ ap (bounds_times (capped n)) be in
    re ∙ (one ∙ (bounds_spread n x ∙ sym (ap bounds_or (extent_at entries tags all i d b h k look))))
