-- What is sound stays so in a world that has more.
use Rattle.std.proofs.Common.{◌≡◌, ℕ, true, List, [], ◌∷◌, Option, Some, None, refl, sym, ap, ◌∙◌}
use Rattle.std.specs.Prelude.{is_some}
use Rattle.c_types.specs.Trees.{Ctype, PointerTo, ArrayOf, StructureOf, UnionOf}
use Rattle.c_types.specs.Layout.{Extent}
use Rattle.c_types.specs.declared.term.PathStep.{PathStep}
use Rattle.c_types.specs.declared.term.PathStep.TheVariants.{Index, Member as MemberStep}
use Rattle.c_conversions.specs.passed.core_tree.declared.node.NodeKind.{NodeKind}
use Rattle.c_conversions.specs.passed.core_tree.declared.node.NodeKind.TheVariants.{Member, AddressOf, PointerAdd, Upcast, MemberOfValue, Initialise}
use Rattle.c_senses.specs.passed.c_consts.Core.{Core, Cores, Of, NoCores, MoreCores, ctype_of}
use Rattle.c_senses.specs.passed.c_inits.Made.{Part}
use Rattle.c_senses.specs.World.{World, extent, members_of}
use Rattle.c_senses.specs.Conversions.{place_width, width_in}
use Rattle.c_senses.specs.Objects.{part_at}
use Rattle.parsed_tree_laws.specs.sense_laws.Sound.{Sound, AllSound, list_of, IsPartOf, PointsToSized, IsFirstPart, type_of_part, step_type, type_down, InitialOver, RowOver}
use Rattle.parsed_tree_laws.specs.sense_laws.Laws.{Grows}

module _ (old new : World) (entities : ℕ → Option Ctype) (grows : Grows old new) where
  -- members
  listed : (tag k : ℕ) (p : Part) → part_at (old.members tag) k ≡ Some p → part_at (new.members tag) k ≡ Some p
  listed tag k p h = by_list (old.members tag) refl h
    where
      by_list : (o : Option (List Part)) → old.members tag ≡ o → part_at o k ≡ Some p → part_at (new.members tag) k ≡ Some p
      by_list None e f = cc
      by_list (Some parts) e f = ap (λ (o : Option (List Part)). part_at o k) (grows.members tag parts e) ∙ f

  part_found : (t : Ctype) (k : ℕ) (p : Part) → part_at (members_of old t) k ≡ Some p → part_at (members_of new t) k ≡ Some p
  part_found (StructureOf tag) k p h = listed tag k p h
  part_found (UnionOf tag) k p h = listed tag k p h
  part_found t k p h = cc

  part_kept : (whole : Ctype) (k : ℕ) (t : Ctype) → IsPartOf old whole k t → IsPartOf new whole k t
  part_kept whole k t h = record { part = h.part; stands = part_found whole k h.part h.stands; type = h.type }

  first_kept : (a t : Ctype) → IsFirstPart old a t → IsFirstPart new a t
  first_kept (PointerTo (StructureOf tag)) (PointerTo first) h = part_kept (StructureOf tag) 0 first h
  first_kept a t h = absurd h

  sized_kept : (t : Ctype) → PointsToSized old t → PointsToSized new t
  sized_kept (PointerTo to) h = by_extent (extent old to) refl h
    where
      by_extent : (o : Option Extent) → extent old to ≡ o → is_some o ≡ true → is_some (extent new to) ≡ true
      by_extent None e f = cc
      by_extent (Some x) e f = ap is_some (grows.extents to x e)
  sized_kept t h = absurd h

  -- widths
  width_kept : (o : Option (List Part)) (q : Option (List Part)) (k : ℕ) (p : Part) → part_at o k ≡ Some p → part_at q k ≡ Some p → width_in o k ≡ None → width_in q k ≡ None
  width_kept None q k p h g e = cc
  width_kept (Some parts) None k p h g e = cc
  width_kept (Some parts) (Some others) k p h g e = ap width (g ∙ sym h) ∙ e
    where
      width : Option Part → Option ℕ
      width None = None
      width (Some m) = m.bits

  no_width_kept : (c : Core) → Sound old entities c → place_width old c ≡ None → place_width new c ≡ None
  no_width_kept (Of (Member k) place type (MoreCores p NoCores)) h e =
      let here : IsPartOf old (ctype_of p) k type = h.0.1 in
      width_kept (members_of old (ctype_of p)) (members_of new (ctype_of p)) k here.part here.stands (part_found (ctype_of p) k here.part here.stands) e
  no_width_kept (Of kind place type under) h e = refl

  -- types at the ends of paths
  tag_kept : (tag k : ℕ) (t : Ctype) → type_of_part old (old.members tag) k ≡ Some t → type_of_part new (new.members tag) k ≡ Some t
  tag_kept tag k t h = by_list (old.members tag) refl h
    where
      by_list : (o : Option (List Part)) → old.members tag ≡ o → type_of_part old o k ≡ Some t → type_of_part new (new.members tag) k ≡ Some t
      by_list None e f = cc
      by_list (Some parts) e f = ap (λ (o : Option (List Part)). type_of_part new o k) (grows.members tag parts e) ∙ f

  step_kept : (t : Ctype) (step : PathStep) (u : Ctype) → step_type old t step ≡ Some u → step_type new t step ≡ Some u
  step_kept (StructureOf tag) (MemberStep k) u h = tag_kept tag k u h
  step_kept (UnionOf tag) (MemberStep k) u h = tag_kept tag k u h
  step_kept (ArrayOf of (Some n)) (Index i) u h = h
  step_kept t step u h = cc

  down_none : (w : World) (path : List PathStep) (t : Ctype) → type_down w None path ≡ Some t → ⊥
  down_none w [] t h = cc
  down_none w (step ∷ path) t h = down_none w path t h

  down_kept : (o : Option Ctype) (path : List PathStep) (t : Ctype) → type_down old o path ≡ Some t → type_down new o path ≡ Some t
  down_kept o [] t h = h
  down_kept None (step ∷ path) t h = absurd (down_none old path t h)
  down_kept (Some u) (step ∷ path) t h = by_step (λ v. down_kept (Some v) path t) (step_type old u step) refl h
    where
      by_step : ((v : Ctype) → type_down old (Some v) path ≡ Some t → type_down new (Some v) path ≡ Some t) → (o : Option Ctype) → step_type old u step ≡ o → type_down old o path ≡ Some t → type_down new (step_type new u step) path ≡ Some t
      by_step further None e f = absurd (down_none old path t f)
      by_step further (Some v) e f = ap (λ (o : Option Ctype). type_down new o path) (step_kept u step v e) ∙ further v f

  initial_kept : (o : Option Ctype) (paths : List (List PathStep)) (under : List Core) → InitialOver old o paths under → InitialOver new o paths under
  initial_kept o [] [] h = h
  initial_kept o (path ∷ paths) (v ∷ under) h = (h.0, down_kept o path (ctype_of v) h.1, initial_kept o paths under h.2)
  initial_kept o [] (v ∷ under) h = absurd h
  initial_kept o (path ∷ paths) [] h = absurd h

  row_kept : (kind : NodeKind) (t : Ctype) (under : Cores) → AllSound old entities under → RowOver old entities kind t (list_of under) → RowOver new entities kind t (list_of under)
  row_kept (Member k) t (MoreCores p NoCores) all h = (h.0, part_kept (ctype_of p) k t h.1, h.2)
  row_kept (Member k) t NoCores all h = absurd h
  row_kept (Member k) t (MoreCores p (MoreCores q rest)) all h = absurd h
  row_kept (MemberOfValue k) t (MoreCores v NoCores) all h = (h.0, part_kept (ctype_of v) k t h.1, h.2)
  row_kept (MemberOfValue k) t NoCores all h = absurd h
  row_kept (MemberOfValue k) t (MoreCores p (MoreCores q rest)) all h = absurd h
  row_kept AddressOf t (MoreCores p NoCores) all h = (h.0, h.1, no_width_kept p all.0 h.2)
  row_kept AddressOf t NoCores all h = absurd h
  row_kept AddressOf t (MoreCores p (MoreCores q rest)) all h = absurd h
  row_kept Upcast t (MoreCores v NoCores) all h = (h.0, first_kept (ctype_of v) t h.1)
  row_kept Upcast t NoCores all h = absurd h
  row_kept Upcast t (MoreCores p (MoreCores q rest)) all h = absurd h
  row_kept (PointerAdd minus) t (MoreCores v (MoreCores i NoCores)) all h = (h.0, sized_kept t h.1, h.2)
  row_kept (PointerAdd minus) t NoCores all h = absurd h
  row_kept (PointerAdd minus) t (MoreCores p NoCores) all h = absurd h
  row_kept (PointerAdd minus) t (MoreCores p (MoreCores q (MoreCores r rest))) all h = absurd h
  row_kept (Initialise e paths) t under all h = initial_kept (entities e) paths (list_of under) h
  row_kept kind t under all h = h

  mutual
    pub sound_grown : (c : Core) → Sound old entities c → Sound new entities c
    sound_grown (Of kind place type under) h = (row_kept kind type under h.3 h.0, h.1, h.2, all_grown under h.3)

    pub all_grown : (cs : Cores) → AllSound old entities cs → AllSound new entities cs
    all_grown NoCores h = tt
    all_grown (MoreCores c rest) h = (sound_grown c h.0, all_grown rest h.1)
