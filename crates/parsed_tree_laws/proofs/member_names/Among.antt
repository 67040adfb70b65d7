-- Members of lists of nodes, and their names.
use Rattle.std.proofs.Common.{arith, ◌≡◌, ◌<◌, ◌≤◌, ◌+◌, ℕ, zero, suc, Bool, true, false, ◌||◌, List, [], ◌∷◌, ◌++◌, Option, Some, None, length, slice_get, refl, sym, ap, ◌∙◌, subst, ◌⊎◌, inl, inr}
use Rattle.std.specs.Prelude.{if◌then◌else◌}
use Rattle.std.proofs.lemmas.Slice.Eq.{bytes_eq-Decides}
use Rattle.c_inits.specs.Made.{Part}
use Rattle.c_senses.specs.Tree.{Source, all_where}
use Rattle.c_senses.specs.World.{World, has_name}
use Rattle.c_senses.specs.Sense.{Sense, IsMembers}
use Rattle.c_senses.specs.Tags.{members_in_sense, members_among, has_part_named}
use Rattle.parsed_tree_laws.specs.family_laws.Families.{Ascend}
use Rattle.parsed_tree_laws.specs.member_names.Differ.{PartsDiffer}

some_one : {X : Type 0} → {x y : X} → ◌≡◌ {A = Option X} (Some x) (Some y) → x ≡ y
some_one h = cc

-- ---- the members of senses

abbrev pub parts_of : Sense → List Part
parts_of (IsMembers parts) = parts
parts_of x = []

abbrev pub among : (ℕ → Sense) → List ℕ → List Part
among f [] = []
among f (c ∷ rest) = parts_of (f c) ++ among f rest

pub parts_same : (w : World) (s : Source) (f : ℕ → Sense) (x : Sense) → members_in_sense w s f x ≡ parts_of x
parts_same w s f (IsMembers parts) = refl
parts_same w s f x = refl

pub among_same : (w : World) (s : Source) (f : ℕ → Sense) (cs : List ℕ) → members_among w s f cs ≡ among f cs
among_same w s f [] = refl
among_same w s f (c ∷ rest) = ap (λ (ps : List Part). ps ++ members_among w s f rest) (parts_same w s f (f c)) ∙ ap (λ (ps : List Part). parts_of (f c) ++ ps) (among_same w s f rest)

pub among_equal : (f g : ℕ → Sense) (cs : List ℕ) → ((r c : ℕ) → slice_get cs r ≡ Some c → f c ≡ g c) → among f cs ≡ among g cs
among_equal f g [] h = refl
among_equal f g (c ∷ rest) h =
    ap (λ (x : Sense). parts_of x ++ among f rest) (h 0 c refl) ∙ ap (λ (ps : List Part). parts_of (g c) ++ ps) (among_equal f g rest (λ r d e. h (suc r) d e))

-- ---- where a member comes from

abbrev offset : (ℕ → Sense) → List ℕ → ℕ → ℕ
offset f cs zero = 0
offset f [] (suc r) = 0
offset f (c ∷ cs) (suc r) = length (parts_of (f c)) + offset f cs r

pub record Origin (f : ℕ → Sense) (cs : List ℕ) (k : ℕ) (m : Part) : Type 0 where
  pub rank : ℕ
  pub node : ℕ
  pub there : slice_get cs rank ≡ Some node
  pub place : ℕ
  pub stands : slice_get (parts_of (f node)) place ≡ Some m
  at : k ≡ offset f cs rank + place

either_part : (xs ys : List Part) (k : ℕ) (m : Part) → slice_get (xs ++ ys) k ≡ Some m → (slice_get xs k ≡ Some m) ⊎ ((j : ℕ) × (k ≡ length xs + j) × (slice_get ys j ≡ Some m))
either_part [] ys k m e = inr (k, omega arith, e)
either_part (x ∷ xs) ys zero m e = inl e
either_part (x ∷ xs) ys (suc k) m e = by (either_part xs ys k m e)
  where
    by : (slice_get xs k ≡ Some m) ⊎ ((j : ℕ) × (k ≡ length xs + j) × (slice_get ys j ≡ Some m)) → (slice_get xs k ≡ Some m) ⊎ ((j : ℕ) × (suc k ≡ suc (length xs) + j) × (slice_get ys j ≡ Some m))
    by (inl h) = inl h
    by (inr h) = inr (h.0, (let e = h.1 in omega (arith, e)), h.2)

pub origin : (f : ℕ → Sense) (cs : List ℕ) (k : ℕ) (m : Part) → slice_get (among f cs) k ≡ Some m → Origin f cs k m
origin f [] k m e = cc
origin f (c ∷ rest) k m e = by (λ j g. origin f rest j m g) (either_part (parts_of (f c)) (among f rest) k m e)
  where
    by : ((j : ℕ) → slice_get (among f rest) j ≡ Some m → Origin f rest j m) → (slice_get (parts_of (f c)) k ≡ Some m) ⊎ ((j : ℕ) × (k ≡ length (parts_of (f c)) + j) × (slice_get (among f rest) j ≡ Some m)) → Origin f (c ∷ rest) k m
    by later (inl h) = record { rank = 0; node = c; there = refl; place = k; stands = h; at = omega arith }
    by later (inr h) =
        let o = later h.0 h.2 in
        let at = o.at in
        let k_is = h.1 in
        record { rank = suc o.rank; node = o.node; there = o.there; place = o.place; stands = o.stands; at = omega (arith, at, k_is) }

-- numbers that ascend
ascend_least : (low : ℕ) (ks : List ℕ) (r k : ℕ) → Ascend low ks → slice_get ks r ≡ Some k → low ≤ k
ascend_least low [] r k h e = cc
ascend_least low (c ∷ ks) zero k h e = let same : c ≡ k = cc in let up : low ≤ c = h.0 in omega (arith, same, up)
ascend_least low (c ∷ ks) (suc r) k h e = let more = ascend_least (suc c) ks r k h.1 e in let up : low ≤ c = h.0 in omega (arith, more, up)

ascend_two : (low : ℕ) (ks : List ℕ) (r q k l : ℕ) → Ascend low ks → slice_get ks r ≡ Some k → slice_get ks q ≡ Some l → r < q → k < l
ascend_two low [] r q k l h e f lt = cc
ascend_two low (c ∷ ks) r zero k l h e f lt = absurd (omega (arith, lt))
ascend_two low (c ∷ ks) zero (suc q) k l h e f lt = let same : c ≡ k = cc in let up = ascend_least (suc c) ks q l h.1 f in omega (arith, same, up)
ascend_two low (c ∷ ks) (suc r) (suc q) k l h e f lt = ascend_two (suc c) ks r q k l h.1 e f (omega (arith, lt))

three : (a b : ℕ) → (a < b) ⊎ ((a ≡ b) ⊎ (b < a))
three zero zero = inr (inl refl)
three zero (suc b) = inl (omega arith)
three (suc a) zero = inr (inr (omega arith))
three (suc a) (suc b) = by (three a b)
  where
    by : (a < b) ⊎ ((a ≡ b) ⊎ (b < a)) → (suc a < suc b) ⊎ ((suc a ≡ suc b) ⊎ (suc b < suc a))
    by (inl h) = inl (omega (arith, h))
    by (inr (inl h)) = inr (inl (ap suc h))
    by (inr (inr h)) = inr (inr (omega (arith, h)))

-- no two nodes of a list have members of one name
pub Clash : (ℕ → Sense) → List ℕ → Type 0
Clash f cs = (r q c d i j : ℕ) (m n : Part) (name : List ℕ) → slice_get cs r ≡ Some c → slice_get cs q ≡ Some d → c < d → slice_get (parts_of (f c)) i ≡ Some m → slice_get (parts_of (f d)) j ≡ Some n → m.name ≡ Some name → n.name ≡ Some name → ⊥

pub clashes : (f : ℕ → Sense) (cs : List ℕ)
    → ((r q c d i j : ℕ) (m n : Part) (name : List ℕ) → slice_get cs r ≡ Some c → slice_get cs q ≡ Some d → c < d → slice_get (parts_of (f c)) i ≡ Some m → slice_get (parts_of (f d)) j ≡ Some n → m.name ≡ Some name → n.name ≡ Some name → ⊥)
    → Clash f cs
unfolding Clash
clashes f cs h = h

pub differ_among : (f : ℕ → Sense) (cs : List ℕ) → Ascend 0 cs → ((r c : ℕ) → slice_get cs r ≡ Some c → PartsDiffer (parts_of (f c))) → Clash f cs → PartsDiffer (among f cs)
unfolding Clash
differ_among f cs up own clash = record { once = once }
  where
    once : (i j : ℕ) (m n : Part) (name : List ℕ) → slice_get (among f cs) i ≡ Some m → slice_get (among f cs) j ≡ Some n → m.name ≡ Some name → n.name ≡ Some name → i ≡ j
    once i j m n name e g p q = by (origin f cs i m e) (origin f cs j n g)
      where
        same : (a : Origin f cs i m) (b : Origin f cs j n) → a.rank ≡ b.rank → i ≡ j
        same a b r =
            let node : b.node ≡ a.node = some_one (sym b.there ∙ (ap (slice_get cs) (sym r) ∙ a.there)) in
            let stands : slice_get (parts_of (f a.node)) b.place ≡ Some n = subst (λ (c : ℕ). slice_get (parts_of (f c)) b.place ≡ Some n) node b.stands in
            let place : a.place ≡ b.place = (own a.rank a.node a.there).once a.place b.place m n name a.stands stands p q in
            let whole : offset f cs a.rank + a.place ≡ offset f cs b.rank + b.place = ap (λ (x : ℕ). offset f cs x + a.place) r ∙ ap (λ (x : ℕ). offset f cs b.rank + x) place in
            a.at ∙ (whole ∙ sym b.at)

        by : (a : Origin f cs i m) (b : Origin f cs j n) → i ≡ j
        by a b = elim (three a.rank b.rank) [
          | inl lt ↦ absurd (clash a.rank b.rank a.node b.node a.place b.place m n name a.there b.there (ascend_two 0 cs a.rank b.rank a.node b.node up a.there b.there lt) a.stands b.stands p q)
          | inr other ↦
              elim other [
                | inl r ↦ same a b r
                | inr lt ↦ absurd (clash b.rank a.rank b.node a.node b.place a.place n m name b.there a.there (ascend_two 0 cs b.rank a.rank b.node a.node up b.there a.there lt) b.stands a.stands q p)
              ]
        ]

-- ---- names among members

or_left : (a b : Bool) → a ≡ true → (a || b) ≡ true
or_left true b e = refl
or_left false b e = cc

or_right : (a b : Bool) → b ≡ true → (a || b) ≡ true
or_right true b e = refl
or_right false b e = e

module _ (w : World) (s : Source) (f : ℕ → Sense) (name : List ℕ) where
  abbrev Has : List Part → Type 0
  Has parts = has_part_named w s f name parts ≡ true

  named_is : (o : Option (List ℕ)) → o ≡ Some name → has_name name o ≡ true
  named_is None e = cc
  named_is (Some own) e = (bytes_eq-Decides own name).1 (some_one e)

  pub has_there : (parts : List Part) (j : ℕ) (m : Part) → slice_get parts j ≡ Some m → m.name ≡ Some name → Has parts
  has_there [] j m e n = cc
  has_there (p ∷ parts) zero m e n = let same : p ≡ m = cc in or_left (has_name name p.name) (has_part_named w s f name parts) (named_is p.name (ap (λ (x : Part). x.name) same ∙ n))
  has_there (p ∷ parts) (suc j) m e n = or_right (has_name name p.name) (has_part_named w s f name parts) (has_there parts j m e n)

  pub has_first : (xs ys : List Part) → Has xs → Has (xs ++ ys)
  has_first [] ys h = cc
  has_first (x ∷ xs) ys h = by (has_name name x.name) h (has_first xs ys)
    where
      by : (b : Bool) → (b || has_part_named w s f name xs) ≡ true → (Has xs → Has (xs ++ ys)) → (b || has_part_named w s f name (xs ++ ys)) ≡ true
      by true h rest = refl
      by false h rest = rest h

  pub has_then : (xs ys : List Part) → Has ys → Has (xs ++ ys)
  has_then [] ys h = h
  has_then (x ∷ xs) ys h = or_right (has_name name x.name) (has_part_named w s f name (xs ++ ys)) (has_then xs ys h)

  -- the members of those nodes of a list that pass a test
  pub has_among : (test : ℕ → Bool) (cs : List ℕ) (r c : ℕ) → slice_get cs r ≡ Some c → test c ≡ true → Has (parts_of (f c)) → Has (members_among w s f (all_where test cs))
  has_among test [] r c e is h = cc
  has_among test (x ∷ cs) zero c e is h =
      let same : x ≡ c = cc in
      let passes : test x ≡ true = ap test same ∙ is in
      subst (λ (b : Bool). Has (members_among w s f (if b then x ∷ all_where test cs else all_where test cs))) (sym passes)
      (has_first (members_in_sense w s f (f x)) (members_among w s f (all_where test cs)) (subst Has (sym (parts_same w s f (f x))) (subst (λ (y : ℕ). Has (parts_of (f y))) (sym same) h)))
  has_among test (x ∷ cs) (suc r) c e is h = by (test x) (has_among test cs r c e is h)
    where
      by : (b : Bool) → Has (members_among w s f (all_where test cs)) → Has (members_among w s f (if b then x ∷ all_where test cs else all_where test cs))
      by true rest = has_then (members_in_sense w s f (f x)) (members_among w s f (all_where test cs)) rest
      by false rest = rest
