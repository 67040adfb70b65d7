-- What can be initialised is complete.
use Rattle.std.proofs.Common.{◌≡◌, ℕ, eqb, cond, Bool, true, false, ◌&&◌, ◌⊎◌, inl, inr, List, [], ◌∷◌, ◌++◌, Option, Some, None, refl, ap}
use Rattle.std.specs.Prelude.{is_some, option_map, map}
use Rattle.c_types.specs.Trees.{Ctype, VoidType, BoolType, IntegerType, FloatingType, VaListType, PointerTo, ArrayOf, FunctionFrom, StructureOf, UnionOf}
use Rattle.c_types.specs.Layout.{Extent, of_members, repeated, member_extent}
use Rattle.c_types.specs.Layout as layout
use Rattle.c_types.specs.Table.{size_below, nodes_within}
use Rattle.c_inits.specs.Shapes.{Fields}
use Rattle.c_inits.specs.Made.{TagParts, shape_of, fields_of}
use Rattle.c_inits.specs.Made as made
use Rattle.c_senses.specs.Tree.{Source}
use Rattle.c_senses.specs.World.{World, extent, has_size}
use Rattle.c_senses.specs.Limits.{is_small, within_limits}
use Rattle.c_senses.specs.Tags.{completed_from, completions_of, types_of_parts}
use Rattle.c_senses.specs.Rows.{world_at}
use Rattle.c_senses.specs.Sense.{Sense, sense_in}

-- each tag that one list has the other has too
abbrev Covers : List (ℕ × Fields) → List (ℕ × List Extent) → Type 0
Covers done other = (tag : ℕ) → is_some (made.looked_up done tag) ≡ true → is_some (layout.looked_up other tag) ≡ true

last_made : (done : List (ℕ × Fields)) (e : ℕ × Fields) (tag : ℕ) → is_some (made.looked_up (done ++ e ∷ []) tag) ≡ true → (is_some (made.looked_up done tag) ≡ true) ⊎ (eqb e.0 tag ≡ true)
last_made [] e tag h = by (eqb e.0 tag) refl h
  where
    by : (b : Bool) → eqb e.0 tag ≡ b → is_some (cond b (Some e.1) None) ≡ true → (false ≡ true) ⊎ (eqb e.0 tag ≡ true)
    by true g k = inr g
    by false g k = inl k
last_made (d ∷ done) e tag h = by (eqb d.0 tag) h (last_made done e tag)
  where
    by : (b : Bool) → is_some (cond b (Some d.1) (made.looked_up (done ++ e ∷ []) tag)) ≡ true → (is_some (made.looked_up (done ++ e ∷ []) tag) ≡ true → (is_some (made.looked_up done tag) ≡ true) ⊎ (eqb e.0 tag ≡ true))
        → (is_some (cond b (Some d.1) (made.looked_up done tag)) ≡ true) ⊎ (eqb e.0 tag ≡ true)
    by true k later = inl refl
    by false k later = later k

more_laid : (done : List (ℕ × List Extent)) (e : ℕ × List Extent) (tag : ℕ) → (is_some (layout.looked_up done tag) ≡ true) ⊎ (eqb e.0 tag ≡ true) → is_some (layout.looked_up (done ++ e ∷ []) tag) ≡ true
more_laid [] e tag (inl h) = cc
more_laid [] e tag (inr h) = ap (λ (b : Bool). is_some (cond b (Some e.1) None)) h
more_laid (d ∷ done) e tag h = by (eqb d.0 tag) h (more_laid done e tag)
  where
    by : (b : Bool) → (is_some (cond b (Some d.1) (layout.looked_up done tag)) ≡ true) ⊎ (eqb e.0 tag ≡ true) → ((is_some (layout.looked_up done tag) ≡ true) ⊎ (eqb e.0 tag ≡ true) → is_some (layout.looked_up (done ++ e ∷ []) tag) ≡ true)
        → is_some (cond b (Some d.1) (layout.looked_up (done ++ e ∷ []) tag)) ≡ true
    by true k later = refl
    by false k later = later k

covered : (cs : List TagParts) (done : List (ℕ × Fields)) (other : List (ℕ × List Extent)) → Covers done other → Covers (made.laid_out done cs) (layout.laid_out other (completions_of cs))
covered [] done other h = h
covered (c ∷ cs) done other h =
    let own : ℕ × Fields = (c.tag, fields_of (made.looked_up done) 0 c.members) in
    let laid : ℕ × List Extent = (c.tag, map (member_extent (layout.looked_up other)) (types_of_parts c.members)) in
    covered cs (done ++ own ∷ []) (other ++ laid ∷ [])
    (λ tag k. more_laid other laid tag (elim (last_made done own tag k) [ inl old ↦ inl (h tag old) | inr new ↦ inr new ]))

some_map : {A B : Type 0} (g : A → B) (o : Option A) → is_some (option_map g o) ≡ true → is_some o ≡ true
some_map g (Some x) h = refl
some_map g None h = cc

some_members : (g : List Extent → Extent) (o : Option (List Extent)) → is_some o ≡ true → is_some (of_members g o) ≡ true
some_members g (Some x) h = refl
some_members g None h = cc

some_repeated : (n : ℕ) (o : Option Extent) → is_some o ≡ true → is_some (repeated n o) ≡ true
some_repeated n (Some e) h = refl
some_repeated n None h = cc

-- what has a shape has an extent
module _ (s : Source) (senses : List Sense) (i : ℕ) where
  abbrev w : World
  w = world_at s senses i

  tags_covered : Covers (made.laid_out [] (completed_from s senses (sense_in senses) 0)) (layout.laid_out [] (completions_of (completed_from s senses (sense_in senses) 0)))
  tags_covered = covered (completed_from s senses (sense_in senses) 0) [] [] (λ tag h. h)

  pub shape_complete : (t : Ctype) → is_some (shape_of w.fillable t) ≡ true → is_some (extent w t) ≡ true
  shape_complete VoidType h = h
  shape_complete BoolType h = refl
  shape_complete (IntegerType size rank signed) h = refl
  shape_complete FloatingType h = refl
  shape_complete VaListType h = refl
  shape_complete (PointerTo to) h = refl
  shape_complete (ArrayOf of None) h = h
  shape_complete (ArrayOf of (Some n)) h = some_repeated n (extent w of) (shape_complete of (some_map _ (shape_of w.fillable of) h))
  shape_complete (FunctionFrom r ps form) h = h
  shape_complete (StructureOf tag) h = some_members _ (w.look tag) (tags_covered tag (some_map _ (w.fillable tag) h))
  shape_complete (UnionOf tag) h = some_members _ (w.look tag) (tags_covered tag (some_map _ (w.fillable tag) h))

-- what is complete and within the limits has a size
small_size : (o : Option Extent) → is_small o ≡ true → is_some o ≡ true → is_some (size_below o) ≡ true
small_size (Some e) h k = left (is_some (size_below (Some e))) (is_some (nodes_within (Some e))) h
  where
    left : (a b : Bool) → (a && b) ≡ true → a ≡ true
    left true b e = refl
    left false b e = cc
small_size None h k = cc

pub complete_sized : (w : World) (t : Ctype) → is_some (extent w t) ≡ true → within_limits w t ≡ true → has_size w t ≡ true
complete_sized w VoidType h e = h
complete_sized w BoolType h e = small_size (extent w BoolType) e h
complete_sized w (IntegerType size rank signed) h e = small_size (extent w (IntegerType size rank signed)) e h
complete_sized w FloatingType h e = small_size (extent w FloatingType) e h
complete_sized w VaListType h e = small_size (extent w VaListType) e h
complete_sized w (PointerTo to) h e = refl
complete_sized w (ArrayOf of n) h e = small_size (extent w (ArrayOf of n)) (left (is_small (extent w (ArrayOf of n))) (within_limits w of) e) h
  where
    left : (a b : Bool) → (a && b) ≡ true → a ≡ true
    left true b e = refl
    left false b e = cc
complete_sized w (FunctionFrom r ps form) h e = h
complete_sized w (StructureOf tag) h e = small_size (extent w (StructureOf tag)) e h
complete_sized w (UnionOf tag) h e = small_size (extent w (UnionOf tag)) e h
