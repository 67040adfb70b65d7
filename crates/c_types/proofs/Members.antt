-- Members, one by one.
use Rattle.std.proofs.Common.{arith, ◌≡◌, ℕ, zero, suc, ◌+◌, ◌<◌, ◌≤◌, length, length-append, take, get_or, List, [], ◌∷◌, ◌++◌, Option, Some, None, refl, ap, ◌∙◌, sym}
use Rattle.std.proofs.lemmas.Grind.{take_at_read}
use Rattle.c_types.specs.declared.term.Term.{Term}
use Rattle.c_types.specs.declared.term.Term.TheVariants.{Void, Bool as BoolTerm, Integer, Floating, VaList, Pointer, Array, Function, Structure, Union}
use Rattle.c_types.specs.declared.term.MemberTerm.{MemberTerm}
use Rattle.c_types.specs.declared.layout.Bounds.{Bounds}
use Rattle.c_types.specs.Trees.{Ctype, grow}
use Rattle.c_types.specs.Layout.{Extent, all_nodes, Look, element_extent, member_extent, flexible, or_flexible, placed, overlaid, beside, above}
use Rattle.c_types.specs.Table.{Table, extents_in, look_in, type_of}
use Rattle.c_types.specs.Bounds.{cap, bounds, bounds_or}
use Rattle.c_types.specs.Inside.{starts}
use Rattle.c_types.proofs.Shape.{NotArray}

pub placed_more : (s : Extent) (es : List Extent) (e : Extent) → placed s (es ++ e ∷ []) ≡ beside (placed s es) e
placed_more s [] e = refl
placed_more s (x ∷ es) e = placed_more (beside s x) es e

pub overlaid_more : (s : Extent) (es : List Extent) (e : Extent) → overlaid s (es ++ e ∷ []) ≡ above (overlaid s es) e
overlaid_more s [] e = refl
overlaid_more s (x ∷ es) e = overlaid_more (above s x) es e

pub extents_more : (table : Table) (ms : List MemberTerm) (m : MemberTerm) → extents_in table (ms ++ m ∷ []) ≡ extents_in table ms ++ extents_in table (m ∷ [])
extents_more table [] m = refl
extents_more table (x ∷ ms) m = let r = extents_more table ms m in cc

pub no_element : (look : Look) (trees : List Ctype) (t : Term) → NotArray t → element_extent look (grow trees t) ≡ None
no_element look trees (Array of n) p = absurd (p of n refl)
no_element look trees Void p = refl
no_element look trees BoolTerm p = refl
no_element look trees (Integer size rank signed) p = refl
no_element look trees Floating p = refl
no_element look trees VaList p = refl
no_element look trees (Pointer to) p = refl
no_element look trees (Function result parameters form) p = refl
no_element look trees (Structure tag) p = refl
no_element look trees (Union tag) p = refl

pub member_some : (e f : Option Extent) (b : Bounds) → Some b ≡ bounds_or e → b ≡ bounds (or_flexible e f)
member_some None f b h = cc
member_some (Some e) f b h = cc

pub member_none : (e f : Option Extent) (b : Bounds) → None ≡ bounds_or e → b ≡ bounds (flexible f) → b ≡ bounds (or_flexible e f)
member_none None f b h k = k
member_none (Some e) f b h k = cc

module _ (table : Table) (ms : List MemberTerm) (i : ℕ) (m : MemberTerm) (lt : i < length ms) (is : m ≡ get_or ms i m) where
  one_more : extents_in table (take (i + 1) ms) ≡ extents_in table (take i ms) ++ member_extent (look_in table) (type_of table m.ty.0) ∷ []
  one_more =
      ap (extents_in table) ((take_at_read ms i m lt).1 ∙ ap (λ (x : MemberTerm). take i ms ++ x ∷ []) (sym is))
      ∙ extents_more table (take i ms) m

  pub step_placed : (s : Extent) → placed s (extents_in table (take (i + 1) ms)) ≡ beside (placed s (extents_in table (take i ms))) (member_extent (look_in table) (type_of table m.ty.0))
  step_placed s = ap (placed s) one_more ∙ placed_more s (extents_in table (take i ms)) (member_extent (look_in table) (type_of table m.ty.0))

  pub step_overlaid : (s : Extent) → overlaid s (extents_in table (take (i + 1) ms)) ≡ above (overlaid s (extents_in table (take i ms))) (member_extent (look_in table) (type_of table m.ty.0))
  step_overlaid s = ap (overlaid s) one_more ∙ overlaid_more s (extents_in table (take i ms)) (member_extent (look_in table) (type_of table m.ty.0))

pub take_all : {X : Type 0} (xs : List X) (i : ℕ) → length xs ≤ i → take i xs ≡ xs
take_all [] i h = take_none i
  where
    take_none : {X : Type 0} (i : ℕ) → take {A = X} i [] ≡ []
    take_none zero = refl
    take_none (suc i) = refl
take_all (x ∷ xs) zero h = absurd (omega arith)
take_all (x ∷ xs) (suc i) h = ap (λ (r : List _). x ∷ r) (take_all xs i (omega arith))

-- where members' nodes start, with one member more
starts_more : (n : ℕ) (es : List Extent) (e : Extent) → starts n (es ++ e ∷ []) ≡ starts n es ++ cap (n + length (all_nodes es)) ∷ []
starts_more n [] e = ap (λ (k : ℕ). cap k ∷ []) (omega arith)
starts_more n (x ∷ es) e = ap (λ (r : List ℕ). cap n ∷ r) (starts_more (n + length x.nodes) es e ∙ ap (λ (k : ℕ). starts (n + length x.nodes) es ++ cap k ∷ []) (omega (arith, length-append x.nodes (all_nodes es))))

sum_more : (es : List Extent) (e : Extent) → length (all_nodes (es ++ e ∷ [])) ≡ length (all_nodes es) + length e.nodes
sum_more [] e = omega (arith, length-append e.nodes [])
sum_more (x ∷ es) e = omega (arith, sum_more es e, length-append x.nodes (all_nodes (es ++ e ∷ [])), length-append x.nodes (all_nodes es))

module _ (table : Table) (ms : List MemberTerm) (i : ℕ) (m : MemberTerm) (lt : i < length ms) (is : m ≡ get_or ms i m) where
  pub step_starts : starts 1 (extents_in table (take (i + 1) ms)) ≡ starts 1 (extents_in table (take i ms)) ++ cap (1 + length (all_nodes (extents_in table (take i ms)))) ∷ []
  step_starts = ap (starts 1) (one_more table ms i m lt is) ∙ starts_more 1 (extents_in table (take i ms)) (member_extent (look_in table) (type_of table m.ty.0))

  pub step_sum : length (all_nodes (extents_in table (take (i + 1) ms))) ≡ length (all_nodes (extents_in table (take i ms))) + length (member_extent (look_in table) (type_of table m.ty.0)).nodes
  step_sum = ap (λ (es : List Extent). length (all_nodes es)) (one_more table ms i m lt is) ∙ sum_more (extents_in table (take i ms)) (member_extent (look_in table) (type_of table m.ty.0))

-- the next start, from what is kept
pub cap_next : (next nodes a b : ℕ) → next ≡ cap a → nodes ≡ cap b → cap (next + nodes) ≡ cap (a + b)
cap_next next nodes a b h k = grind (arith)
