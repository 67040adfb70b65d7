-- A member whose extent is what it was when its tag was laid out was complete then.
use Rattle.std.proofs.Common.{◌≡◌, ℕ, ◌*◌, List, [], ◌∷◌, ◌++◌, refl, ap, sym, ◌∙◌, subst, Option, Some, None, true, IsSome}
use Rattle.c_types.specs.Trees.{Ctype, VoidType, BoolType, IntegerType, FloatingType, VaListType, PointerTo, ArrayOf, FunctionFrom, StructureOf, UnionOf}
use Rattle.c_types.specs.Layout.{Extent, Look, extent_of, repeated, of_members, member_extent, element_extent, or_flexible, flexible, structure_of, union_of, placed, beside, overlaid, above, first_extent}
use Rattle.c_inits.proofs.Fillable.{is_there}

some_is : {A : Type 0} (x y : A) → ◌≡◌ {A = Option A} (Some x) (Some y) → x ≡ y
some_is x y e = cc

-- what has an extent has a node
abbrev NonEmpty : List Ctype → Type 0
NonEmpty [] = ⊥
NonEmpty (t ∷ ts) = Unit {0}

longer : (a b : List Ctype) → NonEmpty a → NonEmpty (a ++ b)
longer [] b h = absurd h
longer (x ∷ a) b h = tt

placed_nodes : (so_far : Extent) (ms : List Extent) → NonEmpty so_far.nodes → NonEmpty (placed so_far ms).nodes
placed_nodes so_far [] h = h
placed_nodes so_far (m ∷ ms) h = placed_nodes (beside so_far m) ms (longer so_far.nodes m.nodes h)

overlaid_nodes : (so_far : Extent) (ms : List Extent) → NonEmpty so_far.nodes → NonEmpty (overlaid so_far ms).nodes
overlaid_nodes so_far [] h = h
overlaid_nodes so_far (m ∷ ms) h = overlaid_nodes (above so_far m) ms h

some_nodes : (d e : Extent) → ◌≡◌ {A = Option Extent} (Some d) (Some e) → NonEmpty d.nodes → NonEmpty e.nodes
some_nodes d e at h = subst (λ (x : Extent). NonEmpty x.nodes) (some_is d e at) h

repeated_nodes : (n : ℕ) (o : Option Extent) (e : Extent) → ((d : Extent) → o ≡ Some d → NonEmpty d.nodes) → repeated n o ≡ Some e → NonEmpty e.nodes
repeated_nodes n None e f h = cc
repeated_nodes n (Some d) e f h = some_nodes (record d { size = n * d.size }) e h (f d refl)

members_nodes : (f : List Extent → Extent) (o : Option (List Extent)) (e : Extent) → ((ms : List Extent) → NonEmpty (f ms).nodes) → of_members f o ≡ Some e → NonEmpty e.nodes
members_nodes f None e h at = cc
members_nodes f (Some ms) e h at = some_nodes (f ms) e at (h ms)

has_nodes : (look : Look) (t : Ctype) (e : Extent) → extent_of look t ≡ Some e → NonEmpty e.nodes
has_nodes look VoidType e h = cc
has_nodes look BoolType e h = some_nodes (record { size = 1; align = 1; nodes = BoolType ∷ [] }) e h tt
has_nodes look (IntegerType size rank signed) e h = some_nodes (record { size = size; align = size; nodes = IntegerType size rank signed ∷ [] }) e h tt
has_nodes look FloatingType e h = some_nodes (record { size = 16; align = 16; nodes = FloatingType ∷ [] }) e h tt
has_nodes look VaListType e h = some_nodes (record { size = 8; align = 8; nodes = VaListType ∷ [] }) e h tt
has_nodes look (PointerTo to) e h = some_nodes (record { size = 8; align = 8; nodes = PointerTo to ∷ [] }) e h tt
has_nodes look (ArrayOf of None) e h = cc
has_nodes look (ArrayOf of (Some n)) e h = repeated_nodes n (extent_of look of) e (λ d at. has_nodes look of d at) h
has_nodes look (FunctionFrom result parameters form) e h = cc
has_nodes look (StructureOf tag) e h = members_nodes (structure_of (StructureOf tag)) (look tag) e (λ ms. placed_nodes (first_extent (StructureOf tag)) ms tt) h
has_nodes look (UnionOf tag) e h = members_nodes (union_of (UnionOf tag)) (look tag) e (λ ms. overlaid_nodes (first_extent (UnionOf tag)) ms tt) h

flexible_nodes : (o : Option Extent) → NonEmpty (flexible o).nodes → ⊥
flexible_nodes None h = h
flexible_nodes (Some e) h = h

pub was_there : (before after : Look) (t : Ctype) → member_extent before t ≡ member_extent after t → IsSome (extent_of after t) → is_there (extent_of before t) ≡ true
was_there before after t same some = go (extent_of before t) (extent_of after t) refl refl some
  where
    go : (a b : Option Extent) → extent_of before t ≡ a → extent_of after t ≡ b → IsSome b → is_there a ≡ true
    go (Some d) b at then h = refl
    go None None at then h = cc
    go None (Some e) at then h =
        let here : e ≡ flexible (element_extent before t) =
        sym (ap (λ (o : Option Extent). or_flexible o (element_extent after t)) then) ∙ sym same ∙ ap (λ (o : Option Extent). or_flexible o (element_extent before t)) at in
        absurd (flexible_nodes (element_extent before t) (subst (λ (x : Extent). NonEmpty x.nodes) here (has_nodes after t e then)))
