-- The layouts of tags, as they are looked up.
use Rattle.std.proofs.Common.{arith, ◌≡◌, ◌≢◌, ℕ, zero, suc, ◌<◌, List, [], ◌∷◌, refl, ap, sym, ◌∙◌, Option, Some, None, slice_get, map, Bool, true, false, cond, eqb}
use Rattle.std.proofs.lemmas.Bool.{eq-eqb, ne_eqb}
use Rattle.c_types.specs.declared.table.TagLayout.{TagLayout}
use Rattle.c_types.specs.declared.layout.Bounds.{Bounds}
use Rattle.c_types.specs.Trees.{StructureOf, UnionOf}
use Rattle.c_types.specs.Layout.{Extent, looked_up, of_members, structure_of, union_of}
use Rattle.c_types.specs.Bounds.{bounds, bounds_or}
use Rattle.c_types.specs.Inside.{kept_of, bounds_of, starts}

chosen : {A : Type 0} (b : Bool) (x y : A) → b ≡ true → cond b x y ≡ x
chosen true x y e = refl
chosen false x y e = cc

other : {A : Type 0} (b : Bool) (x y : A) → b ≡ false → cond b x y ≡ y
other false x y e = refl
other true x y e = cc

injected : {A : Type 0} (x y : A) → ◌≡◌ {A = Option A} (Some x) (Some y) → x ≡ y
injected x y e = cc

pub record IsFound (es : List (ℕ × List Extent)) (l : TagLayout) : Type 0 where
  pub structure : bounds_or (of_members (structure_of (StructureOf l.tag)) (looked_up es l.tag)) ≡ Some l.structure
  pub union : bounds_or (of_members (union_of (UnionOf l.tag)) (looked_up es l.tag)) ≡ Some l.union
  pub positions : (ms : List Extent) → looked_up es l.tag ≡ Some ms → l.positions.items ≡ starts 1 ms

found_here : (t : ℕ) (ms : List Extent) (es : List (ℕ × List Extent)) (l : TagLayout) → t ≡ l.tag → l.structure ≡ bounds (structure_of (StructureOf t) ms) → l.union ≡ bounds (union_of (UnionOf t) ms) → l.positions.items ≡ starts 1 ms → IsFound ((t, ms) ∷ es) l
found_here t ms es l e s u p =
    let pick = chosen (eqb t l.tag) (Some ms) (looked_up es l.tag) (eq-eqb t l.tag e) in
    record {
      structure = ap (λ (o : Option (List Extent)). bounds_or (of_members (structure_of (StructureOf l.tag)) o)) pick ∙ ap Some (sym (s ∙ ap (λ (n : ℕ). bounds (structure_of (StructureOf n) ms)) e));
      union = ap (λ (o : Option (List Extent)). bounds_or (of_members (union_of (UnionOf l.tag)) o)) pick ∙ ap Some (sym (u ∙ ap (λ (n : ℕ). bounds (union_of (UnionOf n) ms)) e));
      positions = λ ns at. p ∙ ap (starts 1) (injected ms ns (sym pick ∙ at));
    }

found_later : (t : ℕ) (ms : List Extent) (es : List (ℕ × List Extent)) (l : TagLayout) → t ≢ l.tag → IsFound es l → IsFound ((t, ms) ∷ es) l
found_later t ms es l apart f =
    let pass = other (eqb t l.tag) (Some ms) (looked_up es l.tag) (ne_eqb t l.tag apart) in
    record {
      structure = ap (λ (o : Option (List Extent)). bounds_or (of_members (structure_of (StructureOf l.tag)) o)) pass ∙ f.structure;
      union = ap (λ (o : Option (List Extent)). bounds_or (of_members (union_of (UnionOf l.tag)) o)) pass ∙ f.union;
      positions = λ ns at. f.positions ns (sym pass ∙ at);
    }

-- the heads and the tails of two lists that are one
heads : {A : Type 0} (x y : A) (xs ys : List A) → x ∷ xs ≡ y ∷ ys → x ≡ y
heads x y xs ys e = cc

tails : {A : Type 0} (x y : A) (xs ys : List A) → x ∷ xs ≡ y ∷ ys → xs ≡ ys
tails x y xs ys e = cc

pub look_found : (cs : List TagLayout) (es : List (ℕ × List Extent)) → map kept_of cs ≡ map bounds_of es → (k : ℕ) (l : TagLayout) → slice_get cs k ≡ Some l → ((j : ℕ) (m : TagLayout) → j < k → slice_get cs j ≡ Some m → m.tag ≢ l.tag) → IsFound es l
look_found [] es e k l at first = cc
look_found (c ∷ cs) [] e k l at first = cc
look_found (c ∷ cs) ((t, ms) ∷ es) e zero l at first =
    let same : c ≡ l = injected c l at in
    let head = heads (kept_of c) (bounds_of (t, ms)) (map kept_of cs) (map bounds_of es) e in
    found_here t ms es l
    (sym (ap (λ (p : ℕ × Bounds × Bounds × List ℕ). p.0) head) ∙ ap (λ (d : TagLayout). d.tag) same)
    (sym (ap (λ (d : TagLayout). d.structure) same) ∙ ap (λ (p : ℕ × Bounds × Bounds × List ℕ). p.1) head)
    (sym (ap (λ (d : TagLayout). d.union) same) ∙ ap (λ (p : ℕ × Bounds × Bounds × List ℕ). p.2) head)
    (sym (ap (λ (d : TagLayout). d.positions.items) same) ∙ ap (λ (p : ℕ × Bounds × Bounds × List ℕ). p.3) head)
look_found (c ∷ cs) ((t, ms) ∷ es) e (suc k) l at first =
    let head = heads (kept_of c) (bounds_of (t, ms)) (map kept_of cs) (map bounds_of es) e in
    let tag : c.tag ≡ t = ap (λ (p : ℕ × Bounds × Bounds × List ℕ). p.0) head in
    found_later t ms es l (λ h. first 0 c (omega arith) refl (tag ∙ h))
    (look_found cs es (tails (kept_of c) (bounds_of (t, ms)) (map kept_of cs) (map bounds_of es) e) k l at (λ j m lt there. first (suc j) m (omega arith) there))

pub look_none : (cs : List TagLayout) (es : List (ℕ × List Extent)) → map kept_of cs ≡ map bounds_of es → (tag : ℕ) → ((j : ℕ) (m : TagLayout) → slice_get cs j ≡ Some m → m.tag ≢ tag) → looked_up es tag ≡ None
look_none [] [] e tag apart = refl
look_none [] (x ∷ es) e tag apart = cc
look_none (c ∷ cs) [] e tag apart = cc
look_none (c ∷ cs) ((t, ms) ∷ es) e tag apart =
    let head = heads (kept_of c) (bounds_of (t, ms)) (map kept_of cs) (map bounds_of es) e in
    let same : c.tag ≡ t = ap (λ (p : ℕ × Bounds × Bounds × List ℕ). p.0) head in
    other (eqb t tag) (Some ms) (looked_up es tag) (ne_eqb t tag (λ h. apart 0 c refl (same ∙ h)))
    ∙ look_none cs es (tails (kept_of c) (bounds_of (t, ms)) (map kept_of cs) (map bounds_of es) e) tag (λ j m at. apart (suc j) m at)
