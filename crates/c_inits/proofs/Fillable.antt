-- What can be initialised in a complete tag, from its members as they are in the table.
use Rattle.std.proofs.Common.{◌≡◌, ℕ, zero, suc, ◌*◌, List, [], ◌∷◌, ◌++◌, refl, ap, sym, ◌∙◌, subst, Option, Some, None, slice_get, map, Bool, true, false, cond, eqb, IsSome, ◌⊎◌, inl, inr}
use Rattle.std.specs.Option.{option_map}
use Rattle.c_types.specs.declared.term.MemberTerm.{MemberTerm}
use Rattle.c_types.specs.Trees.{Ctype, VoidType, BoolType, IntegerType, FloatingType, VaListType, PointerTo, ArrayOf, FunctionFrom, StructureOf, UnionOf}
use Rattle.c_types.specs.Layout.{Extent, Completed, extent_of, repeated, of_members, member_extent, element_extent, or_flexible, flexible, structure_of, union_of, placed, beside, overlaid, above, first_extent, padded}
use Rattle.c_types.specs.Layout as layout
use Rattle.c_types.specs.Table.{Table, TagMembers, type_of, look_in, extents_in, members_in, members_among}
use Rattle.c_types.specs.Made.{IsMade, IsFlexible, IsMember}
use Rattle.c_inits.specs.Shapes.{Shape, Fields, Elements, Structured, Overlaid}
use Rattle.c_inits.specs.Made.{TagParts, Look, looked_up, laid_out, shape_of, fields_of, with_field}
use Rattle.c_inits.specs.Tables.{part_of, tag_parts, fillable}

-- the first that there is
abbrev pub either_of : {A : Type 0} → Option A → Option A → Option A
either_of None other = other
either_of (Some x) other = Some x

either_none : {A : Type 0} (o : Option A) → either_of o None ≡ o
either_none None = refl
either_none (Some x) = refl

abbrev pub is_there : {A : Type 0} → Option A → Bool
is_there None = false
is_there (Some x) = true

some_is : {A : Type 0} (x y : A) → ◌≡◌ {A = Option A} (Some x) (Some y) → x ≡ y
some_is x y e = cc

there_none : {A : Type 0} (o : Option A) → is_there o ≡ false → o ≡ None
there_none None e = refl
there_none (Some x) e = cc

-- one tag more behind
last_fields : (xs : List (ℕ × Fields)) (t : ℕ) (fs : Fields) (tag : ℕ) → looked_up (xs ++ (t, fs) ∷ []) tag ≡ either_of (looked_up xs tag) (cond (eqb t tag) (Some fs) None)
last_fields [] t fs tag = refl
last_fields (x ∷ xs) t fs tag = pick (eqb x.0 tag) (last_fields xs t fs tag)
  where
    pick : (b : Bool) → looked_up (xs ++ (t, fs) ∷ []) tag ≡ either_of (looked_up xs tag) (cond (eqb t tag) (Some fs) None)
        → cond b (Some x.1) (looked_up (xs ++ (t, fs) ∷ []) tag) ≡ either_of (cond b (Some x.1) (looked_up xs tag)) (cond (eqb t tag) (Some fs) None)
    pick true e = refl
    pick false e = e

last_extents : (xs : List (ℕ × List Extent)) (t : ℕ) (es : List Extent) (tag : ℕ) → layout.looked_up (xs ++ (t, es) ∷ []) tag ≡ either_of (layout.looked_up xs tag) (cond (eqb t tag) (Some es) None)
last_extents [] t es tag = refl
last_extents (x ∷ xs) t es tag = pick (eqb x.0 tag) (last_extents xs t es tag)
  where
    pick : (b : Bool) → layout.looked_up (xs ++ (t, es) ∷ []) tag ≡ either_of (layout.looked_up xs tag) (cond (eqb t tag) (Some es) None)
        → cond b (Some x.1) (layout.looked_up (xs ++ (t, es) ∷ []) tag) ≡ either_of (cond b (Some x.1) (layout.looked_up xs tag)) (cond (eqb t tag) (Some es) None)
    pick true e = refl
    pick false e = e

-- what is known stays known
kept_fields : (done : List (ℕ × Fields)) (cs : List TagParts) (tag : ℕ) (fs : Fields) → looked_up done tag ≡ Some fs → looked_up (laid_out done cs) tag ≡ Some fs
kept_fields done [] tag fs h = h
kept_fields done (c ∷ cs) tag fs h =
    kept_fields (done ++ (c.tag, fields_of (looked_up done) 0 c.members) ∷ []) cs tag fs
    (last_fields done c.tag (fields_of (looked_up done) 0 c.members) tag ∙ ap (λ o. either_of o (cond (eqb c.tag tag) (Some (fields_of (looked_up done) 0 c.members)) None)) h)

kept_extents : (done : List (ℕ × List Extent)) (cs : List Completed) (tag : ℕ) (es : List Extent) → layout.looked_up done tag ≡ Some es → layout.looked_up (layout.laid_out done cs) tag ≡ Some es
kept_extents done [] tag es h = h
kept_extents done (c ∷ cs) tag es h =
    kept_extents (done ++ (c.tag, map (member_extent (layout.looked_up done)) c.types) ∷ []) cs tag es
    (last_extents done c.tag (map (member_extent (layout.looked_up done)) c.types) tag ∙ ap (λ o. either_of o (cond (eqb c.tag tag) (Some (map (member_extent (layout.looked_up done)) c.types)) None)) h)

-- a shape that there is stays
mapped : {A B : Type 0} (f : A → B) (a b : Option A) (y : B) → ((x : A) → a ≡ Some x → b ≡ Some x) → option_map f a ≡ Some y → option_map f b ≡ Some y
mapped f None b y more e = cc
mapped f (Some x) b y more e = ap (option_map f) (more x refl) ∙ e

pub shape_more : (look more : Look) → ((tag : ℕ) (fs : Fields) → look tag ≡ Some fs → more tag ≡ Some fs) → (t : Ctype) (s : Shape) → shape_of look t ≡ Some s → shape_of more t ≡ Some s
shape_more look more k VoidType s e = e
shape_more look more k BoolType s e = e
shape_more look more k (IntegerType size rank signed) s e = e
shape_more look more k FloatingType s e = e
shape_more look more k VaListType s e = e
shape_more look more k (PointerTo to) s e = e
shape_more look more k (ArrayOf of None) s e = e
shape_more look more k (ArrayOf of (Some n)) s e = mapped (λ u. Elements (ArrayOf of (Some n)) u n) (shape_of look of) (shape_of more of) s (λ u at. shape_more look more k of u at) e
shape_more look more k (FunctionFrom result parameters form) s e = e
shape_more look more k (StructureOf tag) s e = mapped (Structured (StructureOf tag)) (look tag) (more tag) s (k tag) e
shape_more look more k (UnionOf tag) s e = mapped (Overlaid (UnionOf tag)) (look tag) (more tag) s (k tag) e

-- what has an extent has a shape, where the same tags are complete
pub there_map : {A B : Type 0} (f : A → B) (o : Option A) → is_there (option_map f o) ≡ is_there o
there_map f None = refl
there_map f (Some x) = refl

there_repeated : (n : ℕ) (o : Option Extent) → is_there (repeated n o) ≡ is_there o
there_repeated n None = refl
there_repeated n (Some e) = refl

there_members : (f : List Extent → Extent) (o : Option (List Extent)) → is_there (of_members f o) ≡ is_there o
there_members f None = refl
there_members f (Some es) = refl

abbrev pub Agree : Look → layout.Look → Type 0
Agree look other = (tag : ℕ) → is_there (look tag) ≡ is_there (other tag)

pub shape_there : (look : Look) (other : layout.Look) → Agree look other → (t : Ctype) → is_there (shape_of look t) ≡ is_there (extent_of other t)
shape_there look other h VoidType = refl
shape_there look other h BoolType = refl
shape_there look other h (IntegerType size rank signed) = refl
shape_there look other h FloatingType = refl
shape_there look other h VaListType = refl
shape_there look other h (PointerTo to) = refl
shape_there look other h (ArrayOf of None) = refl
shape_there look other h (ArrayOf of (Some n)) =
    there_map (λ u. Elements (ArrayOf of (Some n)) u n) (shape_of look of) ∙ shape_there look other h of ∙ sym (there_repeated n (extent_of other of))
shape_there look other h (FunctionFrom result parameters form) = refl
shape_there look other h (StructureOf tag) = there_map (Structured (StructureOf tag)) (look tag) ∙ h tag ∙ sym (there_members (structure_of (StructureOf tag)) (other tag))
shape_there look other h (UnionOf tag) = there_map (Overlaid (UnionOf tag)) (look tag) ∙ h tag ∙ sym (there_members (union_of (UnionOf tag)) (other tag))

-- what has an extent has a node
abbrev NonEmpty : List Ctype → Type 0
NonEmpty [] = ⊥
NonEmpty (t ∷ ts) = Unit {0}

longer : (a b : List Ctype) → NonEmpty a → NonEmpty (a ++ b)
longer [] b h = absurd h
longer (x ∷ a) b h = tt

placed_nodes : (so_far : Extent) (ms : List Extent) → NonEmpty so_far.nodes → NonEmpty (placed so_far ms).nodes
placed_nodes so_far [] h = h
placed_nodes so_far (m ∷ ms) h = placed_nodes (beside so_far m) ms (longer so_far.nodes m.nodes h)

overlaid_nodes : (so_far : Extent) (ms : List Extent) → NonEmpty so_far.nodes → NonEmpty (overlaid so_far ms).nodes
overlaid_nodes so_far [] h = h
overlaid_nodes so_far (m ∷ ms) h = overlaid_nodes (above so_far m) ms h

some_nodes : (d e : Extent) → ◌≡◌ {A = Option Extent} (Some d) (Some e) → NonEmpty d.nodes → NonEmpty e.nodes
some_nodes d e at h = subst (λ (x : Extent). NonEmpty x.nodes) (some_is d e at) h

repeated_nodes : (n : ℕ) (o : Option Extent) (e : Extent) → ((d : Extent) → o ≡ Some d → NonEmpty d.nodes) → repeated n o ≡ Some e → NonEmpty e.nodes
repeated_nodes n None e f h = cc
repeated_nodes n (Some d) e f h = some_nodes (record d { size = n * d.size }) e h (f d refl)

members_nodes : (f : List Extent → Extent) (o : Option (List Extent)) (e : Extent) → ((ms : List Extent) → NonEmpty (f ms).nodes) → of_members f o ≡ Some e → NonEmpty e.nodes
members_nodes f None e h at = cc
members_nodes f (Some ms) e h at = some_nodes (f ms) e at (h ms)

has_nodes : (look : layout.Look) (t : Ctype) (e : Extent) → extent_of look t ≡ Some e → NonEmpty e.nodes
has_nodes look VoidType e h = cc
has_nodes look BoolType e h = some_nodes (record { size = 1; align = 1; nodes = BoolType ∷ [] }) e h tt
has_nodes look (IntegerType size rank signed) e h = some_nodes (record { size = size; align = size; nodes = IntegerType size rank signed ∷ [] }) e h tt
has_nodes look FloatingType e h = some_nodes (record { size = 16; align = 16; nodes = FloatingType ∷ [] }) e h tt
has_nodes look VaListType e h = some_nodes (record { size = 8; align = 8; nodes = VaListType ∷ [] }) e h tt
has_nodes look (PointerTo to) e h = some_nodes (record { size = 8; align = 8; nodes = PointerTo to ∷ [] }) e h tt
has_nodes look (ArrayOf of None) e h = cc
has_nodes look (ArrayOf of (Some n)) e h = repeated_nodes n (extent_of look of) e (λ d at. has_nodes look of d at) h
has_nodes look (FunctionFrom result parameters form) e h = cc
has_nodes look (StructureOf tag) e h = members_nodes (structure_of (StructureOf tag)) (look tag) e (λ ms. placed_nodes (first_extent (StructureOf tag)) ms tt) h
has_nodes look (UnionOf tag) e h = members_nodes (union_of (UnionOf tag)) (look tag) e (λ ms. overlaid_nodes (first_extent (UnionOf tag)) ms tt) h

-- a member whose extent is what it was when its tag was laid out was complete then
flexible_nodes : (o : Option Extent) → NonEmpty (flexible o).nodes → ⊥
flexible_nodes None h = h
flexible_nodes (Some e) h = h

was_there : (before after : layout.Look) (t : Ctype) → member_extent before t ≡ member_extent after t → IsSome (extent_of after t) → is_there (extent_of before t) ≡ true
was_there before after t same some = go (extent_of before t) (extent_of after t) refl refl some
  where
    go : (a b : Option Extent) → extent_of before t ≡ a → extent_of after t ≡ b → IsSome b → is_there a ≡ true
    go (Some d) b at then h = refl
    go None None at then h = cc
    go None (Some e) at then h =
        let here : e ≡ flexible (element_extent before t) =
        sym (ap (λ (o : Option Extent). or_flexible o (element_extent after t)) then) ∙ sym same ∙ ap (λ (o : Option Extent). or_flexible o (element_extent before t)) at in
        absurd (flexible_nodes (element_extent before t) (subst (λ (x : Extent). NonEmpty x.nodes) here (has_nodes after t e then)))

-- each of two equal images
each_same : {A B : Type 0} (f g : A → B) (xs : List A) → map f xs ≡ map g xs → (k : ℕ) (x : A) → slice_get xs k ≡ Some x → f x ≡ g x
each_same f g [] e k x at = cc
each_same f g (y ∷ ys) e zero x at = let first : f y ≡ g y = cc in let r : y ≡ x = some_is y x at in sym (ap f r) ∙ first ∙ ap g r
each_same f g (y ∷ ys) e (suc k) x at = let rest : map f ys ≡ map g ys = cc in each_same f g ys rest k x at

mapped_at : {A B : Type 0} (f : A → B) (xs : List A) (k : ℕ) (x : A) → slice_get xs k ≡ Some x → slice_get (map f xs) k ≡ Some (f x)
mapped_at f [] k x at = cc
mapped_at f (y ∷ ys) zero x at = ap (option_map f) at
mapped_at f (y ∷ ys) (suc k) x at = mapped_at f ys k x at

module _ (table : Table) (made : IsMade table) where
  abbrev type : MemberTerm → Ctype
  type m = type_of table m.ty.0

  -- a list of members whose shapes are the same
  fields_same : (look more : Look) (n : ℕ) (ms : List MemberTerm) → ((k : ℕ) (m : MemberTerm) → slice_get ms k ≡ Some m → shape_of look (type m) ≡ shape_of more (type m)) →
      fields_of look n (map (part_of table) ms) ≡ fields_of more n (map (part_of table) ms)
  fields_same look more n [] h = refl
  fields_same look more n (m ∷ ms) h =
      ap (λ o. with_field (part_of table m) n o (fields_of look (suc n) (map (part_of table) ms))) (h 0 m refl)
      ∙ ap (λ fs. with_field (part_of table m) n (shape_of more (type m)) fs) (fields_same look more (suc n) ms (λ k x at. h (suc k) x at))

  -- a member's shape when its tag is laid out is its shape in the table
  member_stays : (look more : Look) (before : layout.Look) → Agree look before → ((tag : ℕ) (fs : Fields) → look tag ≡ Some fs → more tag ≡ Some fs) →
      (t : Ctype) → member_extent before t ≡ member_extent (look_in table) t → (IsSome (extent_of (look_in table) t)) ⊎ (IsFlexible table t) → shape_of look t ≡ shape_of more t
  member_stays look more before agree knows t same (inl some) =
      go (shape_of look t) refl
    where
      go : (o : Option Shape) → shape_of look t ≡ o → shape_of look t ≡ shape_of more t
      go (Some s) at = at ∙ sym (shape_more look more knows t s at)
      go None at =
          let no : false ≡ is_there (shape_of look t) = sym (ap is_there at) in
          let yes : is_there (shape_of look t) ≡ true = shape_there look before agree t ∙ was_there before (look_in table) t same some in
          absurd (let bad : false ≡ true = no ∙ yes in cc)
  member_stays look more before agree knows t same (inr flexible) = none t flexible
    where
      none : (u : Ctype) → IsFlexible table u → shape_of look u ≡ shape_of more u
      none (ArrayOf of None) h = refl
      none (ArrayOf of (Some n)) h = absurd h
      none VoidType h = absurd h
      none BoolType h = absurd h
      none (IntegerType size rank signed) h = absurd h
      none FloatingType h = absurd h
      none VaListType h = absurd h
      none (PointerTo to) h = absurd h
      none (FunctionFrom r ps f) h = absurd h
      none (StructureOf tag) h = absurd h
      none (UnionOf tag) h = absurd h

  abbrev comp : TagMembers → Completed
  comp c = record { tag = c.tag; types = map type c.members }

  abbrev all_fields : Look → List MemberTerm → Fields
  all_fields look ms = fields_of look 0 (map (part_of table) ms)

  abbrev found : Bool → List Extent → Option (List Extent)
  found b es = cond b (Some es) None

  -- one tag that is laid out, with those that are and those that are still to come
  module _ (c : TagMembers) (cs : List TagMembers) (done : List (ℕ × Fields)) (before : List (ℕ × List Extent)) (agree : Agree (looked_up done) (layout.looked_up before)) (rest : (t : ℕ) → layout.looked_up before t ≡ None → members_in table t ≡ members_among (c ∷ cs) t) where
    abbrev now : Fields
    now = all_fields (looked_up done) c.members

    abbrev taken : List Extent
    taken = map (member_extent (layout.looked_up before)) (map type c.members)

    abbrev done' : List (ℕ × Fields)
    done' = done ++ (c.tag, now) ∷ []

    abbrev before' : List (ℕ × List Extent)
    before' = before ++ (c.tag, taken) ∷ []

    abbrev final : Look
    final = looked_up (laid_out done' (map (tag_parts table) cs))

    both : (a : Option Fields) (b : Option (List Extent)) (here : Bool) → is_there a ≡ is_there b → is_there (either_of a (cond here (Some now) None)) ≡ is_there (either_of b (found here taken))
    both None None true e = refl
    both None None false e = refl
    both (Some x) (Some y) here e = refl
    both None (Some y) here e = cc
    both (Some x) None here e = cc

    agree' : Agree (looked_up done') (layout.looked_up before')
    agree' t =
        ap is_there (last_fields done c.tag now t) ∙ both (looked_up done t) (layout.looked_up before t) (eqb c.tag t) (agree t)
        ∙ sym (ap is_there (last_extents before c.tag taken t))

    later : (t : ℕ) (o : Option (List Extent)) (here : Bool) → either_of o (found here taken) ≡ None
        → (o ≡ None → members_in table t ≡ cond here (Some c.members) (members_among cs t)) → members_in table t ≡ members_among cs t
    later t None true e h = cc
    later t None false e h = h refl
    later t (Some x) here e h = cc

    rest' : (t : ℕ) → layout.looked_up before' t ≡ None → members_in table t ≡ members_among cs t
    rest' t none = later t (layout.looked_up before t) (eqb c.tag t) (sym (last_extents before c.tag taken t) ∙ none) (rest t)

    object : (tag k : ℕ) (m : MemberTerm) → IsMember table tag c.members k m → (IsSome (extent_of (look_in table) (type m))) ⊎ (IsFlexible table (type m))
    object tag k m h = elim h.object [ inl p ↦ inl p | inr p ↦ inr p.flexible ]

    module _ (same : layout.looked_up (layout.laid_out before' (map comp cs)) ≡ look_in table) (tag : ℕ) where
      -- over any look that knows what was laid out
      stays_in : (more : Look) → ((t : ℕ) (fs : Fields) → looked_up done t ≡ Some fs → more t ≡ Some fs) → looked_up done tag ≡ None → eqb c.tag tag ≡ true → now ≡ all_fields more c.members
      stays_in more knows none this =
          let unseen : layout.looked_up before tag ≡ None = there_none (layout.looked_up before tag) (sym (agree tag) ∙ ap is_there none) in
          let members : members_in table tag ≡ Some c.members = rest tag unseen ∙ ap (λ b. cond b (Some c.members) (members_among cs tag)) this in
          let first : layout.looked_up before' tag ≡ Some taken =
          last_extents before c.tag taken tag ∙ ap (λ o. either_of o (found (eqb c.tag tag) taken)) unseen ∙ ap (λ b. found b taken) this in
          let looked : look_in table tag ≡ Some taken = ap (λ (f : layout.Look). f tag) (sym same) ∙ kept_extents before' (map comp cs) tag taken first in
          let laid : look_in table tag ≡ Some (map (member_extent (look_in table)) (map type c.members)) = made.laid tag ∙ ap (option_map (extents_in table)) members in
          let equal : taken ≡ map (member_extent (look_in table)) (map type c.members) = some_is _ _ (sym looked ∙ laid) in
          fields_same (looked_up done) more 0 c.members
          (λ k m at.
          member_stays (looked_up done) more (layout.looked_up before) agree knows
          (type m)
          (each_same (member_extent (layout.looked_up before)) (member_extent (look_in table)) (map type c.members) equal k (type m) (mapped_at type c.members k m at))
          (object tag k m (made.members tag c.members members k m at).1))

      stays : looked_up done tag ≡ None → eqb c.tag tag ≡ true → now ≡ all_fields final c.members
      stays none this =
          stays_in final
          (λ t fs known. kept_fields done' (map (tag_parts table) cs) t fs (last_fields done c.tag now t ∙ ap (λ o. either_of o (cond (eqb c.tag t) (Some now) None)) known))
          none this

      -- what the tag has then is what any look says that knows what was laid out, and gives each tag what its members say
      knows_one : (more : Look) → ((t : ℕ) → more t ≡ option_map (all_fields more) (members_in table t)) → ((t : ℕ) (fs : Fields) → looked_up done t ≡ Some fs → more t ≡ Some fs) →
          (fs : Fields) (o : Option Fields) (here : Bool) → looked_up done tag ≡ o → eqb c.tag tag ≡ here → either_of o (cond here (Some now) None) ≡ Some fs → more tag ≡ Some fs
      knows_one more says knows fs (Some x) here at is e = knows tag fs (at ∙ e)
      knows_one more says knows fs None false at is e = cc
      knows_one more says knows fs None true at is e =
          let unseen : layout.looked_up before tag ≡ None = there_none (layout.looked_up before tag) (sym (agree tag) ∙ ap is_there at) in
          let members : members_in table tag ≡ Some c.members = rest tag unseen ∙ ap (λ b. cond b (Some c.members) (members_among cs tag)) is in
          says tag ∙ ap (option_map (all_fields more)) members ∙ ap Some (sym (stays_in more knows at is)) ∙ e

      joined : (a : Option Fields) (here : Bool) (r : Option (List MemberTerm)) → (a ≡ None → here ≡ true → now ≡ all_fields final c.members)
          → either_of (either_of a (cond here (Some now) None)) (option_map (all_fields final) r) ≡ either_of a (option_map (all_fields final) (cond here (Some c.members) r))
      joined (Some x) here r h = refl
      joined None true r h = ap Some (h refl refl)
      joined None false r h = refl

  -- over the tags that are still to come, with those that are laid out
  over_rest : (cs : List TagMembers) (done : List (ℕ × Fields)) (before : List (ℕ × List Extent)) → Agree (looked_up done) (layout.looked_up before) →
      layout.looked_up (layout.laid_out before (map comp cs)) ≡ look_in table →
      ((tag : ℕ) → layout.looked_up before tag ≡ None → members_in table tag ≡ members_among cs tag) →
      (tag : ℕ) →
      looked_up (laid_out done (map (tag_parts table) cs)) tag ≡ either_of (looked_up done tag) (option_map (all_fields (looked_up (laid_out done (map (tag_parts table) cs)))) (members_among cs tag))
  over_rest [] done before agree same rest tag = sym (either_none (looked_up done tag))
  over_rest (c ∷ cs) done before agree same rest tag =
      over_rest cs (done' c cs done before agree rest) (before' c cs done before agree rest) (agree' c cs done before agree rest) same (rest' c cs done before agree rest) tag
      ∙ ap (λ o. either_of o (option_map (all_fields (final c cs done before agree rest)) (members_among cs tag))) (last_fields done c.tag (now c cs done before agree rest) tag)
      ∙ joined c cs done before agree rest same tag (looked_up done tag) (eqb c.tag tag) (members_among cs tag) (stays c cs done before agree rest same tag)

  -- what can be initialised in a complete tag is what its members say, as they are in the table
  pub filled : (tag : ℕ) → fillable table tag ≡ option_map (λ ms. fields_of (fillable table) 0 (map (part_of table) ms)) (members_in table tag)
  unfolding fillable
  filled tag = over_rest table.completed [] [] (λ t. refl) refl (λ t e. refl) tag

  -- so it is in any look that gives each tag what its members say
  known_over : (cs : List TagMembers) (done : List (ℕ × Fields)) (before : List (ℕ × List Extent)) → Agree (looked_up done) (layout.looked_up before) →
      layout.looked_up (layout.laid_out before (map comp cs)) ≡ look_in table →
      ((tag : ℕ) → layout.looked_up before tag ≡ None → members_in table tag ≡ members_among cs tag) →
      (more : Look) → ((t : ℕ) → more t ≡ option_map (all_fields more) (members_in table t)) → ((t : ℕ) (fs : Fields) → looked_up done t ≡ Some fs → more t ≡ Some fs) →
      (t : ℕ) (fs : Fields) → looked_up (laid_out done (map (tag_parts table) cs)) t ≡ Some fs → more t ≡ Some fs
  known_over [] done before agree same rest more says knows t fs e = knows t fs e
  known_over (c ∷ cs) done before agree same rest more says knows t fs e =
      known_over cs (done' c cs done before agree rest) (before' c cs done before agree rest) (agree' c cs done before agree rest) same (rest' c cs done before agree rest) more says
      (λ tag gs h. knows_one c cs done before agree rest same tag more says knows gs (looked_up done tag) (eqb c.tag tag) refl refl (sym (last_fields done c.tag (now c cs done before agree rest) tag) ∙ h))
      t fs e

  same_there : (tag : ℕ) (more : Look) (o : Option Fields) → fillable table tag ≡ o → ((fs : Fields) → fillable table tag ≡ Some fs → more tag ≡ Some fs)
      → (fillable table tag ≡ None → more tag ≡ None) → more tag ≡ o
  same_there tag more (Some fs) at some none = some fs at
  same_there tag more None at some none = none at

  without_members : (o : Option (List MemberTerm)) (f g : List MemberTerm → Fields) → option_map f o ≡ None → option_map g o ≡ None
  without_members None f g e = refl
  without_members (Some ms) f g e = cc

  -- a look that gives each tag what its members say is what can be initialised
  pub only_fillable : (more : Look) → ((t : ℕ) → more t ≡ option_map (λ ms. fields_of more 0 (map (part_of table) ms)) (members_in table t)) → (tag : ℕ) → more tag ≡ fillable table tag
  unfolding fillable
  only_fillable more says tag =
      same_there tag more (fillable table tag) refl
      (λ fs e. known_over table.completed [] [] (λ t. refl) refl (λ t e. refl) more says (λ t fs e. cc) tag fs e)
      (λ e. says tag ∙ without_members (members_in table tag) (all_fields (fillable table)) (all_fields more) (sym (filled tag) ∙ e))
