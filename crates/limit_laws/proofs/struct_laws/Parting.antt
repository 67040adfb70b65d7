-- Members of a list, each from the node that it comes from.
use Rattle.std.proofs.Common.{arith, ◌≡◌, ◌<◌, ◌≤◌, ◌+◌, ℕ, zero, suc, Bool, true, false, ◌&&◌, ◌||◌, not, List, [], ◌∷◌, ◌++◌, Option, Some, None, length, length-append, slice_get, refl, sym, ap, ◌∙◌, ◌⊎◌, inl, inr}
use Rattle.std.specs.Prelude.{is_some, nat_lt, if◌then◌else◌}
use Rattle.std.proofs.lemmas.Bool.Decides.{nat_tests}
use Rattle.c_inits.specs.Made.{Part}
use Rattle.c_types.specs.Trees.{Ctype}
use Rattle.c_types.specs.Layout.{Extent}
use Rattle.c_senses.specs.Tree.{Source, last_where, last_or, all_where}
use Rattle.c_senses.specs.World.{World}
use Rattle.c_senses.specs.Sense.{Sense, Nothing, IsMembers}
use Rattle.c_senses.specs.Tags.{members_in_sense, members_among, is_before}
use Rattle.struct_rows.specs.Taken.{bits_fit, is_flexible, type_fits, takes_member, is_none_left, takes}
use Rattle.parsed_tree_laws.specs.family_laws.Families.{Ascend}

-- ---- the members of senses

abbrev pub parts_of : Sense → List Part
parts_of (IsMembers parts) = parts
parts_of x = []

abbrev pub among : (ℕ → Sense) → List ℕ → List Part
among f [] = []
among f (c ∷ rest) = parts_of (f c) ++ among f rest

parts_same : (w : World) (s : Source) (f : ℕ → Sense) (x : Sense) → members_in_sense w s f x ≡ parts_of x
parts_same w s f (IsMembers parts) = refl
parts_same w s f x = refl

pub among_same : (w : World) (s : Source) (f : ℕ → Sense) (cs : List ℕ) → members_among w s f cs ≡ among f cs
among_same w s f [] = refl
among_same w s f (c ∷ rest) = ap (λ (ps : List Part). ps ++ members_among w s f rest) (parts_same w s f (f c)) ∙ ap (λ (ps : List Part). parts_of (f c) ++ ps) (among_same w s f rest)

pub among_equal : (f g : ℕ → Sense) (cs : List ℕ) → ((r c : ℕ) → slice_get cs r ≡ Some c → f c ≡ g c) → among f cs ≡ among g cs
among_equal f g [] h = refl
among_equal f g (c ∷ rest) h =
    ap (λ (x : Sense). parts_of x ++ among f rest) (h 0 c refl) ∙ ap (λ (ps : List Part). parts_of (g c) ++ ps) (among_equal f g rest (λ r d e. h (suc r) d e))

pub among_none : (f : ℕ → Sense) (cs : List ℕ) → ((r c : ℕ) → slice_get cs r ≡ Some c → parts_of (f c) ≡ []) → among f cs ≡ []
among_none f [] h = refl
among_none f (c ∷ rest) h = ap (λ (ps : List Part). ps ++ among f rest) (h 0 c refl) ∙ among_none f rest (λ r d e. h (suc r) d e)

-- with fewer senses there are fewer
pub among_fewer : (f g : ℕ → Sense) (cs : List ℕ) → ((c : ℕ) → (g c ≡ f c) ⊎ (g c ≡ Nothing)) → length (among g cs) ≤ length (among f cs)
among_fewer f g [] h = omega arith
among_fewer f g (c ∷ rest) h =
    let less = among_fewer f g rest h in
    let a = length-append (parts_of (f c)) (among f rest) in
    let b = length-append (parts_of (g c)) (among g rest) in
    by (h c) less a b
  where
    by : (g c ≡ f c) ⊎ (g c ≡ Nothing) → length (among g rest) ≤ length (among f rest) → length (parts_of (f c) ++ among f rest) ≡ length (parts_of (f c)) + length (among f rest)
        → length (parts_of (g c) ++ among g rest) ≡ length (parts_of (g c)) + length (among g rest) → length (parts_of (g c) ++ among g rest) ≤ length (parts_of (f c) ++ among f rest)
    by (inl e) less a b = let same : length (parts_of (g c)) ≡ length (parts_of (f c)) = ap (λ (x : Sense). length (parts_of x)) e in omega (arith, less, a, b, same)
    by (inr e) less a b = let none : length (parts_of (g c)) ≡ 0 = ap (λ (x : Sense). length (parts_of x)) e in omega (arith, less, a, b, none)

-- ---- where a member comes from

pub record Origin (f : ℕ → Sense) (cs : List ℕ) (k : ℕ) (m : Part) : Type 0 where
  pub pre : List ℕ
  pub node : ℕ
  pub post : List ℕ
  pub split : cs ≡ pre ++ node ∷ post
  pub place : ℕ
  pub stands : slice_get (parts_of (f node)) place ≡ Some m
  pub at : k ≡ length (among f pre) + place
  pub long : length (among f cs) ≡ length (among f pre) + (length (parts_of (f node)) + length (among f post))

either_part : (xs ys : List Part) (k : ℕ) (m : Part) → slice_get (xs ++ ys) k ≡ Some m → (slice_get xs k ≡ Some m) ⊎ ((j : ℕ) × (k ≡ length xs + j) × (slice_get ys j ≡ Some m))
either_part [] ys k m e = inr (k, omega arith, e)
either_part (x ∷ xs) ys zero m e = inl e
either_part (x ∷ xs) ys (suc k) m e = by (either_part xs ys k m e)
  where
    by : (slice_get xs k ≡ Some m) ⊎ ((j : ℕ) × (k ≡ length xs + j) × (slice_get ys j ≡ Some m)) → (slice_get xs k ≡ Some m) ⊎ ((j : ℕ) × (suc k ≡ suc (length xs) + j) × (slice_get ys j ≡ Some m))
    by (inl h) = inl h
    by (inr h) = inr (h.0, (let e = h.1 in omega (arith, e)), h.2)

pub origin : (f : ℕ → Sense) (cs : List ℕ) (k : ℕ) (m : Part) → slice_get (among f cs) k ≡ Some m → Origin f cs k m
origin f [] k m e = cc
origin f (c ∷ rest) k m e = by (λ j g. origin f rest j m g) (either_part (parts_of (f c)) (among f rest) k m e)
  where
    by : ((j : ℕ) → slice_get (among f rest) j ≡ Some m → Origin f rest j m) → (slice_get (parts_of (f c)) k ≡ Some m) ⊎ ((j : ℕ) × (k ≡ length (parts_of (f c)) + j) × (slice_get (among f rest) j ≡ Some m)) → Origin f (c ∷ rest) k m
    by later (inl h) = record {
      pre = [];
      node = c;
      post = rest;
      split = refl;
      place = k;
      stands = h;
      at = omega arith;
      long = (let a = length-append (parts_of (f c)) (among f rest) in omega (arith, a));
    }
    by later (inr h) =
        let o = later h.0 h.2 in
        let a = length-append (parts_of (f c)) (among f rest) in
        let b = length-append (parts_of (f c)) (among f o.pre) in
        let long = o.long in
        let at = o.at in
        let k_is = h.1 in
        record {
          pre = c ∷ o.pre;
          node = o.node;
          post = o.post;
          split = ap (λ (l : List ℕ). c ∷ l) o.split;
          place = o.place;
          stands = o.stands;
          at = omega (arith, b, at, k_is);
          long = omega (arith, a, b, long);
        }

-- ---- members that may stand in their places

abbrev pub FitsAt : (Ctype → Option Extent) → Bool → Bool → ℕ → ℕ → Part → Type 0
FitsAt e u first k n m =
    (bits_fit m.type m.bits ≡ true) × ((is_some (e m.type) ≡ true) ⊎ ((u ≡ false) × (k ≡ 0 → first ≡ false) × (suc k ≡ n) × (is_flexible e m.type ≡ true)))

none_left : (parts : List Part) → 1 ≡ suc (length parts) → is_none_left parts ≡ true
none_left [] e = refl
none_left (m ∷ parts) e = absurd (omega (arith, e))

both : (a b : Bool) → a ≡ true → b ≡ true → (a && b) ≡ true
both true b e f = f
both false b e f = cc

or_right : (a b : Bool) → b ≡ true → (a || b) ≡ true
or_right true b e = refl
or_right false b e = e

or_left : (a b : Bool) → a ≡ true → (a || b) ≡ true
or_left true b e = refl
or_left false b e = cc

pub takes_each : (e : Ctype → Option Extent) (u first : Bool) (parts : List Part) → ((k : ℕ) (m : Part) → slice_get parts k ≡ Some m → FitsAt e u first k (length parts) m) → takes e u first parts ≡ true
takes_each e u first [] h = refl
takes_each e u first (m ∷ rest) h =
    both (takes_member e u first (is_none_left rest) m) (takes e u false rest) (member (h 0 m refl))
    (takes_each e u false rest (λ k p g. later k p (h (suc k) p g)))
  where
    member : FitsAt e u first 0 (suc (length rest)) m → takes_member e u first (is_none_left rest) m ≡ true
    member (bits, inl g) = both (bits_fit m.type m.bits) (type_fits e u first (is_none_left rest) m.type) bits (or_left (is_some (e m.type)) _ g)
    member (bits, inr g) =
        both (bits_fit m.type m.bits) (type_fits e u first (is_none_left rest) m.type) bits
        (or_right (is_some (e m.type)) (not u && (not first && (is_none_left rest && is_flexible e m.type)))
        (both (not u) (not first && (is_none_left rest && is_flexible e m.type)) (ap not g.0)
        (both (not first) (is_none_left rest && is_flexible e m.type) (ap not (g.1 refl)) (both (is_none_left rest) (is_flexible e m.type) (none_left rest g.2) g.3))))

    later : (k : ℕ) (p : Part) → FitsAt e u first (suc k) (suc (length rest)) p → FitsAt e u false k (length rest) p
    later k p (bits, inl g) = (bits, inl g)
    later k p (bits, inr g) = (bits, inr (g.0, (λ z. refl), (let long = g.2 in omega (arith, long)), g.3))

-- ---- numbers that ascend

pub ascend_in : (low : ℕ) (ks : List ℕ) (r k : ℕ) → Ascend low ks → slice_get ks r ≡ Some k → low ≤ k
ascend_in low [] r k h e = cc
ascend_in low (c ∷ ks) zero k h e = let same : c ≡ k = cc in let up : low ≤ c = h.0 in omega (arith, same, up)
ascend_in low (c ∷ ks) (suc r) k h e = let more = ascend_in (suc c) ks r k h.1 e in let up : low ≤ c = h.0 in omega (arith, more, up)

pub ascend_behind : (low : ℕ) (pre : List ℕ) (x : ℕ) (post : List ℕ) → Ascend low (pre ++ x ∷ post) → Ascend (suc x) post
ascend_behind low [] x post h = h.1
ascend_behind low (c ∷ pre) x post h = ascend_behind (suc c) pre x post h.1

ascend_before : (low : ℕ) (pre : List ℕ) (x : ℕ) (post : List ℕ) (r c : ℕ) → Ascend low (pre ++ x ∷ post) → slice_get pre r ≡ Some c → c < x
ascend_before low [] x post r c h e = cc
ascend_before low (d ∷ pre) x post zero c h e =
    let same : d ≡ c = cc in
    let up : suc d ≤ x = ascend_at (suc d) pre x post h.1 in
    omega (arith, same, up)
  where
    ascend_at : (low : ℕ) (pre : List ℕ) (x : ℕ) (post : List ℕ) → Ascend low (pre ++ x ∷ post) → low ≤ x
    ascend_at low [] x post h = h.0
    ascend_at low (c ∷ pre) x post h = let more = ascend_at (suc c) pre x post h.1 in let up : low ≤ c = h.0 in omega (arith, more, up)
ascend_before low (d ∷ pre) x post (suc r) c h e = ascend_before (suc d) pre x post r c h.1 e

-- what is before a number, of numbers that ascend
module _ (w : World) (s : Source) (f : ℕ → Sense) (x : ℕ) where
  none_before : (low : ℕ) (post : List ℕ) → x ≤ low → Ascend low post → all_where (is_before w s f x) post ≡ []
  none_before low [] l h = refl
  none_before low (c ∷ post) l h =
      let up : low ≤ c = h.0 in
      let not_less : nat_lt c x ≡ false = (let le : x ≤ c = omega (arith, up, l) in grind (arith, nat_tests, le)) in
      ap (λ (b : Bool). if b then c ∷ all_where (is_before w s f x) post else all_where (is_before w s f x) post) not_less ∙ none_before (suc c) post (omega (arith, up, l)) h.1

  pub before_is : (low : ℕ) (pre post : List ℕ) → Ascend low (pre ++ x ∷ post) → all_where (is_before w s f x) (pre ++ x ∷ post) ≡ pre
  before_is low [] post h =
      let not_less : nat_lt x x ≡ false = (let le : x ≤ x = omega arith in grind (arith, nat_tests, le)) in
      ap (λ (b : Bool). if b then x ∷ all_where (is_before w s f x) post else all_where (is_before w s f x) post) not_less ∙ none_before (suc x) post (omega arith) h.1
  before_is low (c ∷ pre) post h =
      let less : c < x = ascend_before low (c ∷ pre) x post 0 c h refl in
      let yes : nat_lt c x ≡ true = grind (arith, nat_tests, less) in
      ap (λ (b : Bool). if b then c ∷ all_where (is_before w s f x) (pre ++ x ∷ post) else all_where (is_before w s f x) (pre ++ x ∷ post)) yes ∙ ap (λ (l : List ℕ). c ∷ l) (before_is (suc c) pre post h.1)

-- ---- the last that passes

some_last : (test : ℕ → Bool) (xs : List ℕ) (y : ℕ) → last_where test xs ≡ Some y → (r : ℕ) × (slice_get xs r ≡ Some y)
some_last test [] y e = cc
some_last test (x ∷ xs) y e = by (λ g. some_last test xs y g) (last_where test xs) refl e
  where
    here : (b : Bool) → ◌≡◌ {A = Option ℕ} (if b then Some x else None) (Some y) → (r : ℕ) × (slice_get (x ∷ xs) r ≡ Some y)
    here true h = (0, h)
    here false h = cc

    by : (last_where test xs ≡ Some y → (r : ℕ) × (slice_get xs r ≡ Some y)) → (o : Option ℕ) → last_where test xs ≡ o → last_or o (if test x then Some x else None) ≡ Some y → (r : ℕ) × (slice_get (x ∷ xs) r ≡ Some y)
    by rest None h g = here (test x) g
    by rest (Some z) h g = let more = rest (h ∙ g) in (suc more.0, more.1)

none_last : (test : ℕ → Bool) (xs : List ℕ) (r c : ℕ) → last_where test xs ≡ None → slice_get xs r ≡ Some c → test c ≡ false
none_last test [] r c e h = cc
none_last test (x ∷ xs) r c e h = by (λ q g k. none_last test xs q c g k) (last_where test xs) refl r e h
  where
    here : (b : Bool) → test x ≡ b → ◌≡◌ {A = Option ℕ} (if b then Some x else None) None → test x ≡ false
    here true g k = cc
    here false g k = g

    by : ((q : ℕ) → last_where test xs ≡ None → slice_get xs q ≡ Some c → test c ≡ false) → (o : Option ℕ) → last_where test xs ≡ o → (r : ℕ) → last_or o (if test x then Some x else None) ≡ None → slice_get (x ∷ xs) r ≡ Some c → test c ≡ false
    by rest None g zero k h = let same : x ≡ c = cc in ap test (sym same) ∙ here (test x) refl k
    by rest None g (suc r) k h = rest r g h
    by rest (Some z) g r k h = cc

later_last : (test : ℕ → Bool) (pre : List ℕ) (x : ℕ) (post : List ℕ) (y : ℕ) → last_where test post ≡ Some y → last_where test (pre ++ x ∷ post) ≡ Some y
later_last test [] x post y e = ap (λ (o : Option ℕ). last_or o (if test x then Some x else None)) e
later_last test (c ∷ pre) x post y e = ap (λ (o : Option ℕ). last_or o (if test c then Some c else None)) (later_last test pre x post y e)

-- behind the last one, of numbers that ascend, none passes
pub behind_last : (test : ℕ → Bool) (pre : List ℕ) (x : ℕ) (post : List ℕ) → Ascend 0 (pre ++ x ∷ post) → last_where test (pre ++ x ∷ post) ≡ Some x → (r c : ℕ) → slice_get post r ≡ Some c → test c ≡ false
behind_last test pre x post up last r c h = by (last_where test post) refl
  where
    by : (o : Option ℕ) → last_where test post ≡ o → test c ≡ false
    by None e = none_last test post r c e h
    by (Some y) e =
        let same : x ≡ y = (let f : ◌≡◌ {A = Option ℕ} (Some x) (Some y) = sym last ∙ later_last test pre x post y e in cc) in
        let there = some_last test post y e in
        let high = ascend_in (suc x) post there.0 y (ascend_behind 0 pre x post up) there.1 in
        absurd (omega (arith, same, high))
