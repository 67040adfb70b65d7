-- A cursor's stack goes on.
use Rattle.std.proofs.Common.{arith, ◌≡◌, ℕ, zero, suc, ◌<◌, ◌≤◌, ◌⊎◌, inl, inr, set, List, [], ◌∷◌, ◌++◌, length, take, refl, ap, sym, subst, ◌∙◌, Some, None, slice_get, eqb, nat_lt, Option, MatchOption}
use Rattle.std.proofs.lemmas.Bool.{eq-eqb}
use Rattle.std.proofs.lemmas.List.{take-set-le, take-append-le, map_push}
use Rattle.c_types.proofs.Push.{slice_get_push}
use Rattle.c_types.specs.declared.term.PathStep.{PathStep}
use Rattle.c_types.specs.declared.term.PathStep.TheVariants.{Index, Member}
use Rattle.c_types.specs.declared.term.TypeId.{TypeId}
use Rattle.c_types.specs.Table.{Table}
use Rattle.c_types.specs.Made.{IsMade}
use Rattle.c_inits.specs.declared.cursor.Frame.{Frame}
use Rattle.c_inits.specs.Shapes.{Shape, Fields, SubObject, Scalar, Elements, Structured, Overlaid, NoFields, Field, from, behind}
use Rattle.c_inits.specs.Parts.{Part, Distinct, DistinctIn, shape_at, shape_in, first_part, first_field, next_part, next_field}
use Rattle.c_inits.specs.Tables.{type_shape, HasShape}
use Rattle.c_inits.specs.Cursor.{Stands, IsFrame, IsPart, IsAt, path_of}
use Rattle.c_inits.proofs.Stack.{take_less, path_last, path_set, frame_set, frame_take, shape_along}
use Rattle.c_inits.proofs.Tags.{distinct_in}
use Rattle.c_inits.proofs.Onward.{up, across, down, over, by_cases, on_true, on_false, chosen, chosen_not, injected, value_of, apart_first, apart_next, is_member}

-- the shape of the next part
first_shape : (fs : Fields) (p : Part) (l : ℕ) → first_field fs ≡ Some p → p.step ≡ Member l → shape_in fs l [] ≡ Some p.shape
first_shape NoFields p l e f = cc
first_shape (Field name number shape rest) p l e f =
    let r : record { step = Member number; shape = shape } ≡ p = injected _ p e in
    let n : number ≡ l = cc in
    chosen (eqb number l) _ _ (eq-eqb number l n) ∙ ap (λ (q : Part). Some q.shape) r

next_shape : (fs : Fields) → Distinct fs → (m : ℕ) (p : Part) (l : ℕ) → next_field fs m ≡ Some p → p.step ≡ Member l → shape_in fs l [] ≡ Some p.shape
next_shape NoFields d m p l e f = cc
next_shape (Field name number shape rest) d m p l e f =
    by_cases (eqb number m)
    (λ t.
    let first = on_true (eqb number m) _ _ _ e t in
    chosen_not (eqb number l) _ _ (apart_first rest number p l d.0 first f) ∙ first_shape rest p l first f)
    (λ t.
    let later = on_false (eqb number m) _ _ _ e t in
    chosen_not (eqb number l) _ _ (apart_next rest number m p l d.0 later f) ∙ next_shape rest d.1 m p l later f)

part_shape : (s : Shape) (step : PathStep) (p : Part) → DistinctIn s → next_part s step ≡ Some p → shape_at s (p.step ∷ []) ≡ Some p.shape
part_shape (Scalar type) step p d e = cc
part_shape (Elements type of length) (Index k) p d e =
    let r = value_of (nat_lt (suc k) length) _ p e in
    sym (ap (λ (q : Part). shape_at (Elements type of length) (q.step ∷ [])) r) ∙ ap (λ (q : Part). Some q.shape) r
part_shape (Elements type of length) (Member m) p d e = cc
part_shape (Structured type list) (Index k) p d e = cc
part_shape (Structured type list) (Member m) p d e =
    let (l, f) = is_member list m p e in
    ap (λ q. shape_at (Structured type list) (q ∷ [])) f ∙ next_shape list d m p l e f
part_shape (Overlaid type list) step p d e = cc

-- the shape of the first part
field_first : (fs : Fields) (p : Part) → first_field fs ≡ Some p → (l : ℕ) × (p.step ≡ Member l)
field_first NoFields p e = cc
field_first (Field name number shape rest) p e = (number, sym (ap (λ (q : Part). q.step) (injected _ p e)))

pub down_shape : (s : Shape) (p : Part) → first_part s ≡ Some p → shape_at s (p.step ∷ []) ≡ Some p.shape
down_shape (Scalar type) p e = cc
down_shape (Elements type of zero) p e = cc
down_shape (Elements type of (suc more)) p e =
    let r : record { step = Index 0; shape = of } ≡ p = injected _ p e in
    sym (ap (λ (q : Part). shape_at (Elements type of (suc more)) (q.step ∷ [])) r) ∙ ap (λ (q : Part). Some q.shape) r
down_shape (Structured type list) p e = let (l, f) = field_first list p e in ap (λ q. shape_at (Structured type list) (q ∷ [])) f ∙ first_shape list p l e f
down_shape (Overlaid type list) p e = let (l, f) = field_first list p e in ap (λ q. shape_at (Overlaid type list) (q ∷ [])) f ∙ first_shape list p l e f

module _ (table : Table) (made : IsMade table) (limit : ℕ) (root : Shape) (fs : List Frame) (last : ℕ) (f : Frame) (n : length fs ≡ suc last) (at : slice_get fs last ≡ Some f) (stands : Stands table limit root fs) where
  abbrev shape : ℕ → Shape
  shape id = type_shape table limit id

  pub here : IsFrame table limit root (path_of (take last fs)) f
  here = stands.each last f at

  pub left : next_part (shape f.owner.0) f.step ≡ None → (behind root (path_of fs) ≡ behind root (path_of (take last fs))) × Stands table limit root (take last fs)
  left none = (
    ap (λ p. behind root p) (path_last fs last f at n) ∙ up root (path_of (take last fs)) f.step (shape f.owner.0) here.here none,
    record { each = λ j g e. let (lt, there) = frame_take fs last j g e in subst (λ l. IsFrame table limit root (path_of l) g) (sym (take_less fs j last lt)) (stands.each j g there) },
  )

  module _ (step : PathStep) (id : ℕ) (next : IsPart table limit (next_part (shape f.owner.0) f.step) step id) where
    abbrev pub new : Frame
    new = record { owner = f.owner; step = step }

    abbrev part : Part
    part = record { step = step; shape = shape id }

    within : shape_at (shape f.owner.0) (step ∷ []) ≡ Some (shape id)
    within = part_shape (shape f.owner.0) f.step part (distinct_in table made limit f.owner.0) next.is

    pub moved : behind root (path_of fs) ≡ from root (path_of (set fs last new))
    moved =
        ap (λ p. behind root p) (path_last fs last f at n)
        ∙ across root (path_of (take last fs)) f.step (shape f.owner.0) part here.here (distinct_in table made limit f.owner.0) next.is
        ∙ sym (ap (λ p. from root p) (path_set fs last new n))

    pub moved_at : IsAt table limit root (path_of (set fs last new)) id
    moved_at = record {
      known = next.known;
      shaped = next.shaped;
      here = ap (λ p. shape_at root p) (path_set fs last new n) ∙ shape_along root (path_of (take last fs)) (step ∷ []) (shape f.owner.0) here.here ∙ within;
    }

    kept : (j : ℕ) (g : Frame) → ((j < last) × (slice_get fs j ≡ Some g)) ⊎ ((j ≡ last) × (g ≡ new)) → IsFrame table limit root (path_of (take j (set fs last new))) g
    kept j g (inl p) = subst (λ l. IsFrame table limit root (path_of l) g) (sym (take-set-le j fs last new (omega (arith, p.0)))) (stands.each j g p.1)
    kept j g (inr p) =
        let same : take j (set fs last new) ≡ take last fs = take-set-le j fs last new (omega (arith, p.0)) ∙ ap (λ k. take k fs) p.0 in
        subst (λ h. IsFrame table limit root (path_of (take j (set fs last new))) h) (sym p.1)
        (record { known = here.known; shaped = here.shaped; here = ap (λ l. shape_at root (path_of l)) same ∙ here.here; part = shape id; within = within })

    pub moved_stands : Stands table limit root (set fs last new)
    moved_stands = record { each = λ j g e. kept j g (frame_set fs last new n j g e) }

-- one frame more
pub path_more : (fs : List Frame) (f : Frame) → path_of (fs ++ f ∷ []) ≡ path_of fs ++ f.step ∷ []
path_more fs f = map_push (λ (g : Frame). g.step) fs f

take_whole : (fs : List Frame) (j : ℕ) → length fs ≤ j → take j fs ≡ fs
take_whole [] zero le = refl
take_whole [] (suc j) le = refl
take_whole (f ∷ fs) zero le = absurd (omega (arith, le))
take_whole (f ∷ fs) (suc j) le = ap (λ l. f ∷ l) (take_whole fs j (omega (arith, le)))

-- back to what there was
pub cut_back : (fs more all : List Frame) (n : ℕ) → n ≡ length fs → all ≡ fs ++ more → take n all ≡ fs
cut_back fs more all n e h = ap (take n) h ∙ take-append-le n fs more (omega (arith, e)) ∙ take_whole fs n (omega (arith, e))

module _ (table : Table) (limit : ℕ) (root : Shape) (fs : List Frame) (id : TypeId) (stands : Stands table limit root fs) (at : IsAt table limit root (path_of fs) id.0) where
  abbrev below : ℕ → Shape
  below i = type_shape table limit i

  -- one step in
  module _ (step : PathStep) (next : ℕ) (known : next < length table.terms) (shaped : HasShape table limit next) (within : shape_at (below id.0) (step ∷ []) ≡ Some (below next)) where
    abbrev pub frame : Frame
    frame = record { owner = id; step = step }

    pub into_at : IsAt table limit root (path_of (fs ++ frame ∷ [])) next
    into_at = record {
      known = known;
      shaped = shaped;
      here = ap (λ p. shape_at root p) (path_more fs frame) ∙ shape_along root (path_of fs) (step ∷ []) (below id.0) at.here ∙ within;
    }

    added : (j : ℕ) (g : Frame) → ((j < length fs) × (slice_get fs j ≡ Some g)) ⊎ ((j ≡ length fs) × (g ≡ frame)) → IsFrame table limit root (path_of (take j (fs ++ frame ∷ []))) g
    added j g (inl p) = subst (λ l. IsFrame table limit root (path_of l) g) (sym (take-append-le j fs (frame ∷ []) (omega (arith, p.0)))) (stands.each j g p.1)
    added j g (inr p) =
        let same : take j (fs ++ frame ∷ []) ≡ fs = take-append-le j fs (frame ∷ []) (omega (arith, p.0)) ∙ take_whole fs j (omega (arith, p.0)) in
        subst (λ h. IsFrame table limit root (path_of (take j (fs ++ frame ∷ []))) h) (sym p.1)
        (record { known = at.known; shaped = at.shaped; here = ap (λ l. shape_at root (path_of l)) same ∙ at.here; part = below next; within = within })

    pub into_stands : Stands table limit root (fs ++ frame ∷ [])
    into_stands = record { each = λ j g e. added j g (slice_get_push fs frame j g e) }

  -- the first part
  module _ (step : PathStep) (next : ℕ) (part : IsPart table limit (first_part (below id.0)) step next) where
    abbrev first : Part
    first = record { step = step; shape = below next }

    pub entered : from root (path_of fs) ≡ record { path = path_of fs; shape = below id.0 } ∷ from root (path_of (fs ++ record { owner = id; step = step } ∷ []))
    entered =
        down root (path_of fs) (below id.0) first at.here part.is
        ∙ ap (λ p. record { path = path_of fs; shape = below id.0 } ∷ from root p) (sym (path_more fs (record { owner = id; step = step })))

    pub entered_at : IsAt table limit root (path_of (fs ++ record { owner = id; step = step } ∷ [])) next
    entered_at = into_at step next part.known part.shaped (down_shape (below id.0) first part.is)

    pub entered_stands : Stands table limit root (fs ++ record { owner = id; step = step } ∷ [])
    entered_stands = into_stands step next part.known part.shaped (down_shape (below id.0) first part.is)

  pub passed : first_part (below id.0) ≡ None → from root (path_of fs) ≡ record { path = path_of fs; shape = below id.0 } ∷ behind root (path_of fs)
  passed none = over root (path_of fs) (below id.0) at.here none

-- one sub-object before what is behind it
pub onto : {A : Type 0} (o : Option A) (xs ys zs : List SubObject) (s : SubObject) → xs ≡ s ∷ ys → MatchOption o (ys ≡ []) (λ a. ys ≡ zs) → MatchOption o (xs ≡ s ∷ []) (λ a. xs ≡ s ∷ zs)
onto None xs ys zs s e h = e ∙ ap (λ l. s ∷ l) h
onto (Some a) xs ys zs s e h = e ∙ ap (λ l. s ∷ l) h
