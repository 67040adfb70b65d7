-- A tag is completed after its members' tags, so unnamed members nest no deeper than there are tags.
use Rattle.std.proofs.Common.{◌≡◌, ℕ, zero, suc, ◌≤◌, ◌<◌, Bool, true, false, cond, eqb, ltb, ◌⊎◌, inl, inr, Option, Some, None, List, [], ◌∷◌, ◌++◌, length, map, slice_get, is_some, refl, sym, ap, ◌∙◌, subst, arith, length-append}
use Rattle.std.specs.Option.{option_map}
use Rattle.std.proofs.lemmas.Bool.{cases_Bool, cases_lt, cond-true, cond-false, lt-ltb, ltb-true, le-ltb, both_ways}
use Rattle.c_types.specs.declared.term.Term.TheVariants.{Structure, Union}
use Rattle.c_types.specs.declared.term.MemberTerm.{MemberTerm}
use Rattle.c_types.specs.Trees.{Ctype, VoidType, BoolType, IntegerType, FloatingType, VaListType, PointerTo, ArrayOf, FunctionFrom, StructureOf, UnionOf}
use Rattle.c_types.specs.Layout.{Extent, Look, Completed, beside, above, placed, overlaid, first_extent, structure_of, union_of, of_members, or_flexible, member_extent, looked_up, laid_out}
use Rattle.c_types.specs.Table.{Table, TagMembers, type_of, completions, look_in, members_among, members_in, extents_in}
use Rattle.c_types.specs.Made.{IsMade, AreNamed}
use Rattle.c_inits.specs.Made.{Part}
use Rattle.c_senses.specs.World.{World, members_of, way_to}
use Rattle.c_operators.specs.c_members.Worlds.{IsWorldOf, members_in_type, parts_in, part_of}
use Rattle.c_operators.specs.c_members.Ways.{IsWay, own, inner, TableWaysAreFound}
use Rattle.c_operators.proofs.c_members.Found.{ways_are_found}
use Rattle.c_operators.proofs.c_members.Parts.{members_are}

-- how many numbers below one pass a test
count : (ℕ → Bool) → ℕ → ℕ
count p zero = 0
count p (suc n) = cond (p n) (suc (count p n)) (count p n)

count_most : (p : ℕ → Bool) (n : ℕ) → count p n ≤ n
unfolding count
count_most p zero = omega arith
count_most p (suc n) = most (p n) (count p n) n (count_most p n)
  where
    most : (b : Bool) (k n : ℕ) → k ≤ n → cond b (suc k) k ≤ suc n
    most true k n h = omega arith
    most false k n h = omega arith

grows : (b c : Bool) (j k : ℕ) → (b ≡ true → c ≡ true) → j ≤ k → cond b (suc j) j ≤ cond c (suc k) k
grows true true j k f h = omega arith
grows true false j k f h = let e = f refl in cc
grows false true j k f h = omega arith
grows false false j k f h = h

count_le : (p q : ℕ → Bool) → ((x : ℕ) → p x ≡ true → q x ≡ true) → (n : ℕ) → count p n ≤ count q n
unfolding count
count_le p q f zero = omega arith
count_le p q f (suc n) = grows (p n) (q n) (count p n) (count q n) (f n) (count_le p q f n)

rises : (b c : Bool) (j k : ℕ) → (b ≡ true → c ≡ true) → j < k → cond b (suc j) j < cond c (suc k) k
rises true true j k f h = omega arith
rises true false j k f h = let e = f refl in cc
rises false true j k f h = omega arith
rises false false j k f h = h

count_lt : (p q : ℕ → Bool) → ((x : ℕ) → p x ≡ true → q x ≡ true) → (b : ℕ) → p b ≡ false → q b ≡ true → (n : ℕ) → b < n → count p n < count q n
unfolding count
count_lt p q f b fails passes zero h = absurd (omega arith)
count_lt p q f b fails passes (suc n) h =
    elim (cases_lt b n) [
      | inl l ↦ rises (p n) (q n) (count p n) (count q n) (f n) (count_lt p q f b fails passes n l)
      | inr l ↦
          let same : b ≡ n = omega arith in
          let m = count_le p q f n in
          let off : cond (p n) (suc (count p n)) (count p n) ≡ count p n = cond-false (p n) (suc (count p n)) (count p n) (ap p (sym same) ∙ fails) in
          let on : cond (q n) (suc (count q n)) (count q n) ≡ suc (count q n) = cond-true (q n) (suc (count q n)) (count q n) (ap q (sym same) ∙ passes) in
          omega arith
    ]

-- where a tag is completed first
place : List Completed → ℕ → ℕ
place [] tag = 0
place (c ∷ rest) tag = cond (eqb c.tag tag) 0 (suc (place rest tag))

types_among : List Completed → ℕ → Option (List Ctype)
types_among [] tag = None
types_among (c ∷ rest) tag = cond (eqb c.tag tag) (Some c.types) (types_among rest tag)

-- what is looked up stays when more is laid out
keep_some : {A : Type 0} (b : Bool) (x : A) (y z : Option A) (v : A) → (y ≡ Some v → z ≡ Some v) → cond b (Some x) y ≡ Some v → cond b (Some x) z ≡ Some v
keep_some true x y z v f e = e
keep_some false x y z v f e = f e

keep_none : {A : Type 0} (b : Bool) (x : A) (y z m : Option A) → (y ≡ None → z ≡ m) → cond b (Some x) y ≡ None → cond b (Some x) z ≡ m
keep_none true x y z m f e = cc
keep_none false x y z m f e = f e

pushed : (done more : List (ℕ × List Extent)) (tag : ℕ) (x : List Extent) → looked_up done tag ≡ Some x → looked_up (done ++ more) tag ≡ Some x
pushed [] more tag x e = cc
pushed (d ∷ done) more tag x e = keep_some (eqb d.0 tag) d.1 (looked_up done tag) (looked_up (done ++ more) tag) x (pushed done more tag x) e

last : (done more : List (ℕ × List Extent)) (tag : ℕ) → looked_up done tag ≡ None → looked_up (done ++ more) tag ≡ looked_up more tag
last [] more tag e = refl
last (d ∷ done) more tag e = keep_none (eqb d.0 tag) d.1 (looked_up done tag) (looked_up (done ++ more) tag) (looked_up more tag) (last done more tag) e

kept : (done : List (ℕ × List Extent)) (cs : List Completed) (tag : ℕ) (x : List Extent) → looked_up done tag ≡ Some x → looked_up (laid_out done cs) tag ≡ Some x
kept done [] tag x e = e
kept done (c ∷ rest) tag x e =
    let more : List (ℕ × List Extent) = (c.tag, map (member_extent (looked_up done)) c.types) ∷ [] in
    kept (done ++ more) rest tag x (pushed done more tag x e)

none_of : {A : Type 0} (o : Option A) → is_some o ≡ false → o ≡ None
none_of None e = refl
none_of (Some x) e = cc

-- a tag is laid out over tags that are completed before it
record Laid (done : List (ℕ × List Extent)) (cs : List Completed) (tag : ℕ) (types : List Ctype) : Type 0 where
  before : List (ℕ × List Extent)
  laid : looked_up (laid_out done cs) tag ≡ Some (map (member_extent (looked_up before)) types)
  earlier : (b : ℕ) → is_some (looked_up before b) ≡ true → (is_some (looked_up done b) ≡ true) ⊎ (place cs b < place cs tag)

here_or_before : (done : List (ℕ × List Extent)) (c : ℕ) (x : List Extent) (b : ℕ) → is_some (looked_up (done ++ (c, x) ∷ []) b) ≡ true → (is_some (looked_up done b) ≡ true) ⊎ (eqb c b ≡ true)
here_or_before done c x b e =
    elim (cases_Bool (is_some (looked_up done b))) [
      | inl h ↦ inl h
      | inr h ↦
          elim (cases_Bool (eqb c b)) [
            | inl k ↦ inr k
            | inr k ↦
                let found : looked_up (done ++ (c, x) ∷ []) b ≡ None = last done ((c, x) ∷ []) b (none_of (looked_up done b) h) ∙ cond-false (eqb c b) (Some x) None k in
                let empty : is_some (looked_up (done ++ (c, x) ∷ []) b) ≡ false = ap is_some found in
                absurd (both_ways _ empty e)
          ]
    ]

place_most : (c : Completed) (rest : List Completed) (b : ℕ) → place (c ∷ rest) b ≤ suc (place rest b)
unfolding place
place_most c rest b = most (eqb c.tag b) (place rest b)
  where
    most : (d : Bool) (n : ℕ) → cond d 0 (suc n) ≤ suc n
    most true n = omega arith
    most false n = omega arith

place_here : (c : Completed) (rest : List Completed) (b : ℕ) → eqb c.tag b ≡ true → place (c ∷ rest) b ≡ 0
unfolding place
place_here c rest b e = cond-true (eqb c.tag b) 0 (suc (place rest b)) e

place_later : (c : Completed) (rest : List Completed) (b : ℕ) → eqb c.tag b ≡ false → place (c ∷ rest) b ≡ suc (place rest b)
unfolding place
place_later c rest b e = cond-false (eqb c.tag b) 0 (suc (place rest b)) e

laid_of : (cs : List Completed) (done : List (ℕ × List Extent)) (tag : ℕ) (types : List Ctype) → looked_up done tag ≡ None → types_among cs tag ≡ Some types → Laid done cs tag types
unfolding types_among
laid_of [] done tag types free e = absurd cc
laid_of (c ∷ rest) done tag types free e =
    let extents : List Extent = map (member_extent (looked_up done)) c.types in
    let more : List (ℕ × List Extent) = (c.tag, extents) ∷ [] in
    elim (cases_Bool (eqb c.tag tag)) [
      | inl h ↦
          let found : Some c.types ≡ Some types = sym (cond-true (eqb c.tag tag) (Some c.types) (types_among rest tag) h) ∙ e in
          let same : c.types ≡ types = cc in
          record {
            before = done;
            laid =
                kept (done ++ more) rest tag extents (last done more tag free ∙ cond-true (eqb c.tag tag) (Some extents) None h)
                ∙ ap (λ ts. Some (map (member_extent (looked_up done)) ts)) same;
            earlier = λ b s. inl s;
          }
      | inr h ↦
          let r = laid_of rest (done ++ more) tag types (last done more tag free ∙ cond-false (eqb c.tag tag) (Some extents) None h) (sym (cond-false (eqb c.tag tag) (Some c.types) (types_among rest tag) h) ∙ e) in
          let later = place_later c rest tag h in
          record {
            before = r.before;
            laid = r.laid;
            earlier = λ b s.
                elim (r.earlier b s) [
                  | inl x ↦ elim (here_or_before done c.tag extents b x) [ inl y ↦ inl y | inr y ↦ let first = place_here c rest b y in inr (omega arith) ]
                  | inr x ↦ let most = place_most c rest b in inr (omega arith)
                ];
          }
    ]

-- a structure and a union have a node
placed_some : (e : Extent) (ms : List Extent) → 0 < length e.nodes → 0 < length (placed e ms).nodes
placed_some e [] h = h
placed_some e (m ∷ rest) h = placed_some (beside e m) rest (omega (arith, length-append e.nodes m.nodes, h))

overlaid_some : (e : Extent) (ms : List Extent) → 0 < length e.nodes → 0 < length (overlaid e ms).nodes
overlaid_some e [] h = h
overlaid_some e (m ∷ rest) h = overlaid_some (above e m) rest h

-- so a member's type that is complete was so before
structure_before : (before now : Look) (tag : ℕ) (es : List Extent) → member_extent before (StructureOf tag) ≡ member_extent now (StructureOf tag) → now tag ≡ Some es → is_some (before tag) ≡ true
structure_before before now tag es e f =
    elim (cases_Bool (is_some (before tag))) [
      | inl h ↦ h
      | inr h ↦
          let none = none_of (before tag) h in
          let extent : Option (List Extent) → Extent = λ o. or_flexible (of_members (structure_of (StructureOf tag)) o) None in
          let empty : length (extent (before tag)).nodes ≡ 0 = ap (λ o. length (extent o).nodes) none in
          let full : length (extent (now tag)).nodes ≡ length (structure_of (StructureOf tag) es).nodes = ap (λ o. length (extent o).nodes) f in
          let some : 0 < length (structure_of (StructureOf tag) es).nodes = placed_some (first_extent (StructureOf tag)) es (omega arith) in
          let same : length (extent (before tag)).nodes ≡ length (extent (now tag)).nodes = ap (λ (x : Extent). length x.nodes) e in
          absurd (omega (arith, empty, full, some, same))
    ]

union_before : (before now : Look) (tag : ℕ) (es : List Extent) → member_extent before (UnionOf tag) ≡ member_extent now (UnionOf tag) → now tag ≡ Some es → is_some (before tag) ≡ true
union_before before now tag es e f =
    elim (cases_Bool (is_some (before tag))) [
      | inl h ↦ h
      | inr h ↦
          let none = none_of (before tag) h in
          let extent : Option (List Extent) → Extent = λ o. or_flexible (of_members (union_of (UnionOf tag)) o) None in
          let empty : length (extent (before tag)).nodes ≡ 0 = ap (λ o. length (extent o).nodes) none in
          let full : length (extent (now tag)).nodes ≡ length (union_of (UnionOf tag) es).nodes = ap (λ o. length (extent o).nodes) f in
          let some : 0 < length (union_of (UnionOf tag) es).nodes = overlaid_some (first_extent (UnionOf tag)) es (omega arith) in
          let same : length (extent (before tag)).nodes ≡ length (extent (now tag)).nodes = ap (λ (x : Extent). length x.nodes) e in
          absurd (omega (arith, empty, full, some, same))
    ]

-- the completed tags with their members' types
pick_both : {A B : Type 0} (f : A → B) (b : Bool) (x : A) (y : Option A) (z : Option B) → z ≡ option_map f y → cond b (Some (f x)) z ≡ option_map f (cond b (Some x) y)
pick_both f true x y z e = refl
pick_both f false x y z e = e

module _ (type : MemberTerm → Ctype) where
  among_is : (cs : List TagMembers) (tag : ℕ) → types_among (map (λ c. record { tag = c.tag; types = map type c.members }) cs) tag ≡ option_map (map type) (members_among cs tag)
  unfolding types_among
  among_is [] tag = refl
  among_is (c ∷ rest) tag = pick_both (map type) (eqb c.tag tag) c.members (members_among rest tag) _ (among_is rest tag)

  same_at : (f g : Ctype → Extent) (ms : List MemberTerm) (k : ℕ) (m : MemberTerm) → map f (map type ms) ≡ map g (map type ms) → slice_get ms k ≡ Some m → f (type m) ≡ g (type m)
  same_at f g [] k m e h = absurd cc
  same_at f g (x ∷ ms) zero m e h =
      let same : x ≡ m = cc in
      let heads : f (type x) ≡ g (type x) = cc in
      sym (ap (λ y. f (type y)) same) ∙ (heads ∙ ap (λ y. g (type y)) same)
  same_at f g (x ∷ ms) (suc k) m e h =
      let tails : map f (map type ms) ≡ map g (map type ms) = cc in
      same_at f g ms k m tails h

-- a structure or a union of that tag
abbrev IsOf : Ctype → ℕ → Type 0
IsOf t tag = (t ≡ StructureOf tag) ⊎ (t ≡ UnionOf tag)

module _ (table : Table) (made : IsMade table) (named : AreNamed table) where
  abbrev type : MemberTerm → Ctype
  type m = type_of table m.ty.0

  -- a member's tag was completed before
  member_before : (tag : ℕ) (ms : List MemberTerm) (k : ℕ) (m : MemberTerm) (inside : ℕ) (bs : List MemberTerm) → members_in table tag ≡ Some ms → slice_get ms k ≡ Some m → IsOf (type m) inside → members_in table inside ≡ Some bs → place (completions table) inside < place (completions table) tag
  member_before tag ms k m inside bs e h of f =
      let among : types_among (completions table) tag ≡ Some (map type ms) = among_is type table.completed tag ∙ ap (option_map (map type)) e in
      let l = laid_of (completions table) [] tag (map type ms) refl among in
      let both : Some (map (member_extent (looked_up l.before)) (map type ms)) ≡ Some (map (member_extent (look_in table)) (map type ms)) =
      sym l.laid ∙ (made.laid tag ∙ ap (option_map (extents_in table)) e) in
      let whole : map (member_extent (looked_up l.before)) (map type ms) ≡ map (member_extent (look_in table)) (map type ms) = cc in
      let one : member_extent (looked_up l.before) (type m) ≡ member_extent (look_in table) (type m) = same_at type (member_extent (looked_up l.before)) (member_extent (look_in table)) ms k m whole h in
      let now : look_in table inside ≡ Some (extents_in table bs) = made.laid inside ∙ ap (option_map (extents_in table)) f in
      let known : is_some (looked_up l.before inside) ≡ true =
      elim of [
        | inl s ↦ structure_before (looked_up l.before) (look_in table) inside (extents_in table bs) (subst (λ t. member_extent (looked_up l.before) t ≡ member_extent (look_in table) t) s one) now
        | inr u ↦ union_before (looked_up l.before) (look_in table) inside (extents_in table bs) (subst (λ t. member_extent (looked_up l.before) t ≡ member_extent (look_in table) t) u one) now
      ]
      in
      elim (l.earlier inside known) [ inl never ↦ absurd cc | inr before ↦ before ]

  -- a complete tag is one of the table's
  tag_below : (tag : ℕ) (ms : List MemberTerm) → members_in table tag ≡ Some ms → tag < table.tags
  tag_below tag ms e =
      elim (made.stands tag ms e) [ inl s ↦ (named s.0 (Structure tag) s.1).1 | inr u ↦ (named u.0 (Union tag) u.1).1 ]

  -- how many tags were completed before one
  rank : ℕ → ℕ
  rank tag = count (λ x. ltb (place (completions table) x) (place (completions table) tag)) table.tags

  rank_most : (tag : ℕ) → rank tag ≤ table.tags
  unfolding rank
  rank_most tag = count_most (λ x. ltb (place (completions table) x) (place (completions table) tag)) table.tags

  rank_less : (inside tag : ℕ) → inside < table.tags → place (completions table) inside < place (completions table) tag → rank inside < rank tag
  unfolding rank
  rank_less inside tag h l =
      let at = place (completions table) in
      count_lt (λ x. ltb (at x) (at inside)) (λ x. ltb (at x) (at tag)) (λ x e. let less = ltb-true (at x) (at inside) e in lt-ltb (at x) (at tag) (omega arith)) inside (le-ltb (at inside) (at inside) (omega arith)) (lt-ltb (at inside) (at tag) l) table.tags h

-- what stands in a mapped list
get_unmapped : {A B : Type 0} (f : A → B) (xs : List A) (k : ℕ) (y : B) → slice_get (map f xs) k ≡ Some y → (x : A) × (slice_get xs k ≡ Some x) × (y ≡ f x)
get_unmapped f [] k y e = absurd cc
get_unmapped f (x ∷ xs) zero y e = let same : f x ≡ y = cc in (x, refl, sym same)
get_unmapped f (x ∷ xs) (suc k) y e = get_unmapped f xs k y e

some_from : {A B : Type 0} (f : A → B) (o : Option A) (y : B) → option_map f o ≡ Some y → (x : A) × (o ≡ Some x)
some_from f None y e = absurd cc
some_from f (Some x) y e = (x, refl)

-- a type that has members in a table
record HasMembers (table : Table) (t : Ctype) : Type 0 where
  tag : ℕ
  members : List MemberTerm
  of : IsOf t tag
  there : members_in table tag ≡ Some members

has_members : (table : Table) (t : Ctype) (ms : List MemberTerm) → members_in_type table t ≡ Some ms → HasMembers table t
has_members table VoidType ms e = absurd cc
has_members table BoolType ms e = absurd cc
has_members table (IntegerType size rank signed) ms e = absurd cc
has_members table FloatingType ms e = absurd cc
has_members table VaListType ms e = absurd cc
has_members table (PointerTo to) ms e = absurd cc
has_members table (ArrayOf of length) ms e = absurd cc
has_members table (FunctionFrom result parameters form) ms e = absurd cc
has_members table (StructureOf tag) ms e = record { tag = tag; members = ms; of = inl refl; there = e }
has_members table (UnionOf tag) ms e = record { tag = tag; members = ms; of = inr refl; there = e }

members_of_tag : (table : Table) (t : Ctype) (tag : ℕ) → IsOf t tag → members_in_type table t ≡ members_in table tag
members_of_tag table t tag (inl e) = ap (members_in_type table) e
members_of_tag table t tag (inr e) = ap (members_in_type table) e

in_world : (table : Table) (w : World) (t : Ctype) (ms : List Part) → IsWorldOf w table → members_of w t ≡ Some ms → HasMembers table t
in_world table w t ms h e =
    let found = some_from (map (part_of table)) (members_in_type table t) ms (sym (members_are w table t h) ∙ e) in
    has_members table t found.0 found.1

begins : (table : Table) (w : World) (name : List ℕ) (t : Ctype) (way : List ℕ) → IsWorldOf w table → IsWay w name t way → HasMembers table t
begins table w name t way h (own {ms = ms} e g n) = in_world table w t ms h e
begins table w name t way h (inner {ms = ms} e g n i) = in_world table w t ms h e

short : (table : Table) (made : IsMade table) (named : AreNamed table) (w : World) (name : List ℕ) (t : Ctype) (way : List ℕ) → IsWorldOf w table → IsWay w name t way → (tag : ℕ) (ms : List MemberTerm) → IsOf t tag → members_in table tag ≡ Some ms → length way ≤ suc (rank table made named tag)
short table made named w name t way h (own e g n) tag ms of there = omega arith
short table made named w name t way h (inner {ms = parts} {k = k} {m = p} {way = rest} e g u i) tag ms of there =
    let seen : Some parts ≡ Some (map (part_of table) ms) = sym e ∙ (members_are w table t h ∙ ap (parts_in table) (members_of_tag table t tag of ∙ there)) in
    let same : parts ≡ map (part_of table) ms = cc in
    let m = get_unmapped (part_of table) ms k p (ap (λ xs. slice_get xs k) (sym same) ∙ g) in
    let deeper = begins table w name p.type rest h i in
    let ty : p.type ≡ type_of table m.0.ty.0 = ap (λ (x : Part). x.type) m.2 in
    let of_member : IsOf (type_of table m.0.ty.0) deeper.tag = subst (λ x. IsOf x deeper.tag) ty deeper.of in
    let before = member_before table made named tag ms k m.0 deeper.tag deeper.members there m.1 of_member deeper.there in
    let less = rank_less table made named deeper.tag tag (tag_below table made named deeper.tag deeper.members deeper.there) before in
    let tail = short table made named w name p.type rest h i deeper.tag deeper.members deeper.of deeper.there in
    omega arith

pub table_ways_are_found : TableWaysAreFound
table_ways_are_found table w name t way made named h i =
    let top = begins table w name t way h i in
    let bound = short table made named w name t way h i top.tag top.members top.of top.there in
    let most = rank_most table made named top.tag in
    let tags = h.tags in
    let fits : length way ≤ suc w.tags = omega arith in
    (fits, ways_are_found w name t way i fits)

-- where none is found there is none
pub none_is_none : (table : Table) (w : World) (name : List ℕ) (t : Ctype) (way : List ℕ) → IsMade table → AreNamed table → IsWorldOf w table → way_to w name t ≡ None → IsWay w name t way → ⊥
none_is_none table w name t way made named h none i =
    let some = (table_ways_are_found table w name t way made named h i).1 in
    let empty : is_some (way_to w name t) ≡ false = ap is_some none in
    both_ways (is_some (way_to w name t)) empty some
