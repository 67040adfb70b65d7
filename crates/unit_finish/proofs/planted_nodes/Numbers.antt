-- The copies by their numbers.
use Rattle.std.proofs.Common.{arith, ◌≡◌, ◌∙◌, ℕ, zero, suc, ◌+◌, ◌<◌, ◌≤◌, ◌⊎◌, inl, inr, List, [], ◌∷◌, ◌++◌, length, length-append, get_or, map, slice_get, Option, Some, None, refl, sym, ap, subst, All}
use Rattle.std.specs.Prelude.{option_map}
use Rattle.std.proofs.lemmas.Option.{slice_get_within, get_or_from_slice_get}
use Rattle.std.proofs.lemmas.List.{ext_get_or, length-map}
use Rattle.core_tree.specs.declared.node.Node.{Node}
use Rattle.core_tree.specs.declared.node.Storage.{Storage}
use Rattle.core_tree.specs.declared.node.Storage.TheVariants.{FunctionBody}
use Rattle.core_tree.specs.Range.{child_in}
use Rattle.core_nodes.specs.kept_nodes.Marked.{ChildIn}
use Rattle.unit_finish.specs.declared.unit_parts.declared.Declared.{Declared}
use Rattle.unit_finish.specs.planted_nodes.Grown.{children_of, under_at, end_at, IsCovered, IsWhole}
use Rattle.unit_finish.specs.planted_nodes.Placed.{IsPlacedAt, ArePlaced}
use Rattle.unit_finish.specs.planted_nodes.Copied.{node_of, number_of, numbers_from, copy_at, copies_to, with_place, with_places}
use Rattle.unit_finish.specs.planted_nodes.Planted.{IsCopy, IsBodyCopy, IsMoved, IsAlone, IsUnder, here, below}
use Rattle.unit_finish.proofs.planted_nodes.Positions.{below_or, lt_or_same}
use Rattle.unit_finish.proofs.planted_nodes.Bodies.{place_some, item_there}

-- lists that grow at the end
pub get_left : {A : Type 0} (xs ys : List A) (k : ℕ) → k < length xs → slice_get (xs ++ ys) k ≡ slice_get xs k
get_left [] ys k lt = absurd (omega (arith, lt))
get_left (x ∷ xs) ys zero lt = refl
get_left (x ∷ xs) ys (suc k) lt = get_left xs ys k (omega (arith, lt))

pub get_last : {A : Type 0} (xs : List A) (y : A) (k : ℕ) → k ≡ length xs → slice_get (xs ++ y ∷ []) k ≡ Some y
get_last [] y zero e = refl
get_last [] y (suc k) e = absurd (omega (arith, e))
get_last (x ∷ xs) y zero e = absurd (omega (arith, e))
get_last (x ∷ xs) y (suc k) e = get_last xs y k (omega (arith, e))

-- the numbers of positions
pub twice : (total p : ℕ) → p < total → number_of total (number_of total p) ≡ p
twice total p lt = omega (arith, lt)

pub numbers_long : (total start n : ℕ) → length (numbers_from total start n) ≡ n
numbers_long total start zero = refl
numbers_long total start (suc n) = length-append (numbers_from total start n) (number_of total (start + n) ∷ []) ∙ omega (arith, numbers_long total start n)

pub numbers_there : (total start n k : ℕ) → k < n → slice_get (numbers_from total start n) k ≡ Some (number_of total (start + k))
numbers_there total start zero k lt = absurd (omega (arith, lt))
numbers_there total start (suc n) k lt =
    let long = numbers_long total start n in
    elim (lt_or_same k n (omega (arith, lt))) [
      | inl less ↦ get_left (numbers_from total start n) (number_of total (start + n) ∷ []) k (omega (arith, long, less)) ∙ numbers_there total start n k less
      | inr same ↦ get_last (numbers_from total start n) (number_of total (start + n)) k (omega (arith, long, same)) ∙ ap (λ (i : ℕ). Some (number_of total (start + i))) (sym same)
    ]

pub numbers_back : (total start n k c : ℕ) → slice_get (numbers_from total start n) k ≡ Some c → (k < n) × (c ≡ number_of total (start + k))
numbers_back total start n k c h =
    let lt : k < n = omega (arith, slice_get_within (numbers_from total start n) k c h, numbers_long total start n) in
    let both : Some c ≡ Some (number_of total (start + k)) = sym h ∙ numbers_there total start n k lt in
    let same : c ≡ number_of total (start + k) = cc in (lt, same)

-- the children of a node that is there, and of none
pub same_children : (nodes : List Node) (o : ℕ) → (node_of nodes o).children ≡ children_of nodes o
same_children [] o = refl
same_children (x ∷ nodes) zero = refl
same_children (x ∷ nodes) (suc o) = same_children nodes o

-- what is declared, with the places of bodies
pub item_of : (total : ℕ) (list : List Declared) (places : List (Option ℕ)) (e : ℕ) (x : Declared) → slice_get list e ≡ Some x → slice_get (with_places total list places) e ≡ Some (with_place total x (get_or places e None))
item_of total [] places e x at = cc
item_of total (y ∷ list) [] zero x at = let same : y ≡ x = cc in ap (λ (z : Declared). Some (with_place total z None)) same
item_of total (y ∷ list) [] (suc e) x at = item_of total list [] e x at
item_of total (y ∷ list) (p ∷ places) zero x at = let same : y ≡ x = cc in ap (λ (z : Declared). Some (with_place total z p)) same
item_of total (y ∷ list) (p ∷ places) (suc e) x at = item_of total list places e x at

pub items_long : (total : ℕ) (list : List Declared) (places : List (Option ℕ)) → length (with_places total list places) ≡ length list
items_long total [] places = refl
items_long total (x ∷ list) [] = ap suc (items_long total list [])
items_long total (x ∷ list) (p ∷ places) = ap suc (items_long total list places)

pub item_back : (total : ℕ) (list : List Declared) (places : List (Option ℕ)) (e : ℕ) (y : Declared) → slice_get (with_places total list places) e ≡ Some y → (x : Declared) × (slice_get list e ≡ Some x) × (y ≡ with_place total x (get_or places e None))
item_back total list places e y at =
    let lt : e < length list = omega (arith, slice_get_within (with_places total list places) e y at, items_long total list places) in
    let there = item_there list e lt in
    let both : Some y ≡ Some (with_place total there.0 (get_or places e None)) = sym at ∙ item_of total list places e there.0 there.1 in
    let same : y ≡ with_place total there.0 (get_or places e None) = cc in (there.0, there.1, same)

-- the position of a number
pub position_of : (total : ℕ) (place : Option ℕ) (b : ℕ) → option_map (number_of total) place ≡ Some b → (c : ℕ) × (place ≡ Some c) × (b ≡ number_of total c)
position_of total None b e = cc
position_of total (Some c) b e = let same : number_of total c ≡ b = cc in (c, refl, sym same)

module _ (nodes : List Node) (o s : List ℕ) where
  pub copies_long : (k : ℕ) → length (copies_to nodes o s k) ≡ k
  copies_long zero = refl
  copies_long (suc k) = length-append (copies_to nodes o s k) (copy_at nodes o s (number_of (length o) k) ∷ []) ∙ omega (arith, copies_long k)

  pub copies_there : (k i : ℕ) → i < k → slice_get (copies_to nodes o s k) i ≡ Some (copy_at nodes o s (number_of (length o) i))
  copies_there zero i lt = absurd (omega (arith, lt))
  copies_there (suc k) i lt =
      let long = copies_long k in
      elim (lt_or_same i k (omega (arith, lt))) [
        | inl less ↦ get_left (copies_to nodes o s k) (copy_at nodes o s (number_of (length o) k) ∷ []) i (omega (arith, long, less)) ∙ copies_there k i less
        | inr same ↦ get_last (copies_to nodes o s k) (copy_at nodes o s (number_of (length o) k)) i (omega (arith, long, same)) ∙ ap (λ (j : ℕ). Some (copy_at nodes o s (number_of (length o) j))) (sym same)
      ]

  pub copies_back : (k i : ℕ) (y : Node) → slice_get (copies_to nodes o s k) i ≡ Some y → (i < k) × (y ≡ copy_at nodes o s (number_of (length o) i))
  copies_back k i y h =
      let lt : i < k = omega (arith, slice_get_within (copies_to nodes o s k) i y h, copies_long k) in
      let both : Some y ≡ Some (copy_at nodes o s (number_of (length o) i)) = sym h ∙ copies_there k i lt in
      let same : y ≡ copy_at nodes o s (number_of (length o) i) = cc in (lt, same)

  -- the node from which one is copied
  abbrev pub origin_at : ℕ → ℕ
  origin_at i = get_or o (number_of (length o) i) 0

  abbrev width : ℕ → ℕ
  width p = length (node_of nodes (get_or o p 0)).children

  same_width : (p : ℕ) → width p ≡ length (under_at nodes o p)
  same_width p = ap length (same_children nodes (get_or o p 0))

  get_mapped : (xs : List ℕ) (k x : ℕ) → slice_get xs k ≡ Some x → slice_get (map origin_at xs) k ≡ Some (origin_at x)
  get_mapped [] k x at = cc
  get_mapped (y ∷ xs) zero x at = let same : y ≡ x = cc in ap (λ z. Some (origin_at z)) same
  get_mapped (y ∷ xs) (suc k) x at = get_mapped xs k x at

  map_numbers : (start n : ℕ) (cs : List ℕ) → length cs ≡ n → start + n ≤ length o → ((k : ℕ) → k < n → get_or o (start + k) 0 ≡ get_or cs k 0) → map origin_at (numbers_from (length o) start n) ≡ cs
  map_numbers start n cs long room they =
      let ns = numbers_from (length o) start n in
      let mapped : length (map origin_at ns) ≡ n = length-map ns origin_at ∙ numbers_long (length o) start n in
      ext_get_or 0 (map origin_at ns) cs (mapped ∙ sym long) (λ k lt.
      (let few : k < n = omega (arith, lt, mapped) in
      let there = numbers_there (length o) start n k few in
      let read : get_or (map origin_at ns) k 0 ≡ origin_at (number_of (length o) (start + k)) = get_or_from_slice_get (map origin_at ns) k (origin_at (number_of (length o) (start + k))) 0 (get_mapped ns k (number_of (length o) (start + k)) there) in
      read ∙ (ap (λ (p : ℕ). get_or o p 0) (twice (length o) (start + k) (omega (arith, few, room))) ∙ they k few)))

  -- what stands there is grown
  module _ (met : List (Option ℕ)) (w : IsWhole nodes o s met) where
    room_at : (p : ℕ) → p < length o → get_or s p 0 + width p ≤ length o
    room_at p lt = let inside = w.grown.within p (omega (arith, lt, w.done)) in omega (arith, inside, same_width p)

    child_numbers : (i p : ℕ) → p ≡ number_of (length o) i → i < length o → All (λ c. c < i) (numbers_from (length o) (get_or s p 0) (width p))
    child_numbers i p e lt = λ k d few.
        let ns = numbers_from (length o) (get_or s p 0) (width p) in
        let less : k < width p = omega (arith, few, numbers_long (length o) (get_or s p 0) (width p)) in
        let within : p < length o = omega (arith, e, lt) in
        let room = room_at p within in
        let later = w.grown.later p (omega (arith, within, w.done)) in
        let read : get_or ns k d ≡ number_of (length o) (get_or s p 0 + k) = get_or_from_slice_get ns k (number_of (length o) (get_or s p 0 + k)) d (numbers_there (length o) (get_or s p 0) (width p) k less) in
        subst (λ (c : ℕ). c < i) (sym read) (omega (arith, e, lt, less, room, later))

    pub copies_are : (i : ℕ) (y : Node) → slice_get (copies_to nodes o s (length o)) i ≡ Some y → IsCopy nodes origin_at i y
    copies_are i y h =
        let back = copies_back (length o) i y h in
        let p = number_of (length o) i in
        let within : p < length o = omega (arith, back.0) in
        subst (IsCopy nodes origin_at i) (sym back.1) (record {
          same = refl;
          children = map_numbers (get_or s p 0) (width p) (node_of nodes (get_or o p 0)).children refl (room_at p within) (λ k few.
              w.grown.children p k (omega (arith, within, w.done)) (omega (arith, few, same_width p)) ∙ ap (λ (cs : List ℕ). get_or cs k 0) (sym (same_children nodes (get_or o p 0))));
          first = child_numbers i p refl back.0;
        })

    -- a child's number, and its position
    record IsChildOf (a i c : ℕ) : Type 0 where
      within : a < length o
      few : i < length (under_at nodes o (number_of (length o) a))
      less : get_or s (number_of (length o) a) 0 + i < length o
      number : c ≡ number_of (length o) (get_or s (number_of (length o) a) 0 + i)

    child_of : (a i c : ℕ) (node : Option Node) → slice_get (copies_to nodes o s (length o)) a ≡ node → child_in node i ≡ Some c → IsChildOf a i c
    child_of a i c None at h = cc
    child_of a i c (Some y) at h =
        let back = copies_back (length o) a y at in
        let p = number_of (length o) a in
        let within : p < length o = omega (arith, back.0) in
        let room = room_at p within in
        let read : slice_get (numbers_from (length o) (get_or s p 0) (width p)) i ≡ Some c = subst (λ (z : Node). slice_get z.children i ≡ Some c) back.1 h in
        let n = numbers_back (length o) (get_or s p 0) (width p) i c read in
        record {
          within = back.0;
          few = omega (arith, n.0, same_width p);
          less = omega (arith, n.0, room);
          number = n.1;
        }

    same_place : (p q i j : ℕ) → p < length s → q < length s → i < length (under_at nodes o p) → j < length (under_at nodes o q) → get_or s p 0 + i ≡ get_or s q 0 + j → (p ≡ q) × (i ≡ j)
    same_place p q i j lp lq fi fj e = elim (below_or p q) [
      | inl less ↦ (let gap = w.grown.apart p q less lq in absurd (omega (arith, gap, fi, e)))
      | inr le ↦ elim (below_or q p) [
        | inl less ↦ (let gap = w.grown.apart q p less lp in absurd (omega (arith, gap, fj, e)))
        | inr ge ↦ (let same : p ≡ q = omega (arith, le, ge) in
            let start = ap (λ (r : ℕ). get_or s r 0) same in (same, omega (arith, e, start)))
      ]
    ]

    pub child_once : (a b i j c : ℕ) → child_in (slice_get (copies_to nodes o s (length o)) a) i ≡ Some c → child_in (slice_get (copies_to nodes o s (length o)) b) j ≡ Some c → (a ≡ b) × (i ≡ j)
    child_once a b i j c ha hb =
        let x = child_of a i c (slice_get (copies_to nodes o s (length o)) a) refl ha in
        let y = child_of b j c (slice_get (copies_to nodes o s (length o)) b) refl hb in
        let same : get_or s (number_of (length o) a) 0 + i ≡ get_or s (number_of (length o) b) 0 + j = omega (arith, x.number, y.number, x.less, y.less) in
        let r = same_place (number_of (length o) a) (number_of (length o) b) i j (omega (arith, x.within, w.done)) (omega (arith, y.within, w.done)) x.few y.few same in
        (omega (arith, r.0, x.within, y.within), r.1)

    covered_child : (a i c q : ℕ) → q < length o → c ≡ number_of (length o) q → IsChildOf a i c → IsCovered nodes o s q
    covered_child a i c q lt e h = record {
      parent = number_of (length o) a;
      place = i;
      before = omega (arith, h.within, w.done);
      few = h.few;
      here = omega (arith, h.number, h.less, e, lt);
    }

    -- what is covered is a child
    child_there : (i q : ℕ) → i < length o → q ≡ number_of (length o) i → IsCovered nodes o s q → (r : ℕ) × ChildIn (copies_to nodes o s (length o)) r i
    child_there i q lt e c =
        let p = c.parent in
        let within : p < length o = omega (arith, c.before, w.done) in
        let a = number_of (length o) p in
        let back : number_of (length o) a ≡ p = twice (length o) p within in
        let there : slice_get (copies_to nodes o s (length o)) a ≡ Some (copy_at nodes o s p) = copies_there (length o) a (omega (arith, within)) ∙ ap (λ (r : ℕ). Some (copy_at nodes o s r)) back in
        let child : slice_get (numbers_from (length o) (get_or s p 0) (width p)) c.place ≡ Some i =
        numbers_there (length o) (get_or s p 0) (width p) c.place (omega (arith, c.few, same_width p)) ∙ ap (λ (r : ℕ). Some (number_of (length o) r)) (c.here ∙ e) ∙ ap Some (twice (length o) i lt) in
        (a, (c.place, ap (λ (x : Option Node). child_in x c.place) there ∙ child))

    -- what is declared
    module _ (list : List Declared) (bodies : List (Option ℕ)) (are : ArePlaced nodes list (length list) bodies o s) where
      abbrev new : List Declared
      new = with_places (length o) list bodies

      body_copy : (storage : Storage) (b c : Option ℕ) → IsPlacedAt nodes o s storage b c → IsBodyCopy origin_at (length o) b (option_map (number_of (length o)) c)
      body_copy storage None None h = tt
      body_copy storage None (Some c) h = absurd h
      body_copy storage (Some b) None h = absurd h
      body_copy storage (Some b) (Some c) h = (omega (arith, h.0), ap (λ (p : ℕ). get_or o p 0) (twice (length o) c h.0) ∙ h.1)

      pub new_each : (e : ℕ) (x y : Declared) → slice_get list e ≡ Some x → slice_get new e ≡ Some y → IsMoved origin_at (length (copies_to nodes o s (length o))) x y
      new_each e x y hx hy =
          let both : Some y ≡ Some (with_place (length o) x (get_or bodies e None)) = sym hy ∙ item_of (length o) list bodies e x hx in
          let is : y ≡ with_place (length o) x (get_or bodies e None) = cc in
          let count = copies_long (length o) in
          subst (λ (n : ℕ). IsMoved origin_at n x y) (sym count) (subst (λ (z : Declared). IsMoved origin_at (length o) x z) (sym is) (record {
            same = refl;
            body = body_copy x.storage x.body (get_or bodies e None) (are.each e x (slice_get_within list e x hx) hx);
          }))

      -- where a body stands that has a number
      record IsPlaceOf (d : ℕ) (x : Declared) (b : ℕ) : Type 0 where
        item : Declared
        at : slice_get list d ≡ Some item
        storage : x.storage ≡ item.storage
        place : ℕ
        is : get_or bodies d None ≡ Some place
        number : b ≡ number_of (length o) place
        within : place < length o
        root : item.storage ≡ FunctionBody → IsCovered nodes o s place → ⊥

      place_of : (d : ℕ) (x : Declared) (b : ℕ) → slice_get new d ≡ Some x → x.body ≡ Some b → IsPlaceOf d x b
      place_of d x b at e =
          let back = item_back (length o) list bodies d x at in
          let z : Declared = back.0 in
          let body : option_map (number_of (length o)) (get_or bodies d None) ≡ Some b = sym (ap (λ (y : Declared). y.body) back.2) ∙ e in
          let c = position_of (length o) (get_or bodies d None) b body in
          let lt = slice_get_within list d z back.1 in
          let placed = place_some nodes o s z.storage z.body (get_or bodies d None) c.0 (are.each d z lt back.1) c.1 in
          record {
            item = z;
            at = back.1;
            storage = ap (λ (y : Declared). y.storage) back.2;
            place = c.0;
            is = c.1;
            number = c.2;
            within = placed.0;
            root = placed.1;
          }

      pub new_tops : (d : ℕ) (x : Declared) (b : ℕ) → slice_get new d ≡ Some x → x.storage ≡ FunctionBody → x.body ≡ Some b → (p : ℕ) → ChildIn (copies_to nodes o s (length o)) p b → ⊥
      new_tops d x b at f e p h =
          let q = place_of d x b at e in
          let child = child_of p h.0 b (slice_get (copies_to nodes o s (length o)) p) refl h.1 in
          q.root (sym q.storage ∙ f) (covered_child p h.0 b q.place q.within q.number child)

      pub new_alone : (d : ℕ) (x : Declared) (b : ℕ) → slice_get new d ≡ Some x → x.storage ≡ FunctionBody → x.body ≡ Some b → IsAlone new d b
      new_alone d x b at f e k y there same =
          let q = place_of d x b at e in
          let r = place_of k y b there same in
          let one : r.place ≡ q.place = omega (arith, q.number, r.number, q.within, r.within) in
          are.alone d k q.place q.item (slice_get_within list d q.item q.at) (slice_get_within list k r.item r.at) q.at (sym q.storage ∙ f) q.is (r.is ∙ ap Some one)

      new_body : (i e : ℕ) → i < length o → e < length list → get_or bodies e None ≡ Some (number_of (length o) i) → (k : ℕ) × (y : Declared) × (slice_get new k ≡ Some y) × (y.body ≡ Some i)
      new_body i e lt few is =
          let there = item_there list e few in (
            e,
            with_place (length o) there.0 (get_or bodies e None),
            item_of (length o) list bodies e there.0 there.1,
            ap (option_map (number_of (length o))) is ∙ ap Some (twice (length o) i lt),
          )

      pub new_only : (i : ℕ) → i < length (copies_to nodes o s (length o)) → ((e : ℕ) × (y : Declared) × (slice_get new e ≡ Some y) × (y.body ≡ Some i)) ⊎ ((p : ℕ) × ChildIn (copies_to nodes o s (length o)) p i)
      new_only i few =
          let lt : i < length o = omega (arith, few, copies_long (length o)) in
          elim (are.all (number_of (length o) i) (omega (arith, lt))) [
            | inl c ↦ inr (child_there i (number_of (length o) i) lt refl c)
            | inr e ↦ inl (new_body i e.0 lt e.1 e.2)
          ]

      pub new_late : (d : ℕ) (x : Declared) (b : ℕ) → slice_get new d ≡ Some x → (x.storage ≡ FunctionBody → ⊥) → x.body ≡ Some b → origin_at b < length nodes → ((p : ℕ) → ChildIn (copies_to nodes o s (length o)) p b → ⊥)
          → (p c : ℕ) → ChildIn (copies_to nodes o s (length o)) p c → origin_at c ≡ origin_at b → c < b
      new_late d x b at other e few free p c h same = elim (below_or c b) [
        | inl less ↦ less
        | inr le ↦
            let q = place_of d x b at e in
            let child = child_of p h.0 c (slice_get (copies_to nodes o s (length o)) p) refl h.1 in
            let pos = get_or s (number_of (length o) p) 0 + h.0 in
            let covered : IsCovered nodes o s pos = covered_child p h.0 c pos child.less child.number child in
            let back : number_of (length o) b ≡ q.place = ap (number_of (length o)) q.number ∙ twice (length o) q.place q.within in
            let behind : number_of (length o) c ≡ pos = ap (number_of (length o)) child.number ∙ twice (length o) pos child.less in
            let lone : IsCovered nodes o s q.place → ⊥ = λ k. (let there = child_there b q.place (omega (arith, q.number, q.within)) (sym back) k in free there.0 there.1) in
            let order : pos ≤ q.place = omega (arith, le, q.number, child.number, q.within, child.less) in
            let here : get_or o q.place 0 ≡ origin_at b = ap (λ (r : ℕ). get_or o r 0) (sym back) in
            let of_child : get_or o pos 0 ≡ origin_at c = ap (λ (r : ℕ). get_or o r 0) (sym behind) in
            elim (lt_or_same pos q.place (omega (arith, order))) [
              | inl less ↦
                  absurd (are.late d q.place q.item (slice_get_within list d q.item q.at) q.at (λ f. other (q.storage ∙ f)) q.is lone (omega (arith, few, here)) pos less covered (of_child ∙ (same ∙ sym here)))
              | inr one ↦ absurd (lone (subst (IsCovered nodes o s) one covered))
            ]
      ]

      -- what is reached from a greater number has one, where no position before has children from there on
      under_greater : (b : ℕ) → b < length o → ((q : ℕ) → q < number_of (length o) b → end_at nodes o s q ≤ number_of (length o) b) → (a c : ℕ) → b < a → IsUnder (copies_to nodes o s (length o)) a c → b < c
      under_greater b lt closed a c less here = less
      under_greater b lt closed a c less (below {parent} up h) =
          let greater = under_greater b lt closed a parent less up in
          let child = child_of parent h.0 c (slice_get (copies_to nodes o s (length o)) parent) refl h.1 in
          let end = closed (number_of (length o) parent) (omega (arith, greater, child.within)) in
          omega (arith, end, child.few, child.less, child.number, lt)

      pub new_earlier : (j k a b c : ℕ) (x y : Declared) → j < k → slice_get new j ≡ Some x → slice_get new k ≡ Some y → x.body ≡ Some a → y.body ≡ Some b → ((p : ℕ) → ChildIn (copies_to nodes o s (length o)) p b → ⊥)
          → IsUnder (copies_to nodes o s (length o)) a c → b < c
      new_earlier j k a b c x y less at_j at_k ea eb free under =
          let q = place_of j x a at_j ea in
          let r = place_of k y b at_k eb in
          let inside : b < length o = omega (arith, r.number, r.within) in
          let back : number_of (length o) b ≡ r.place = ap (number_of (length o)) r.number ∙ twice (length o) r.place r.within in
          let lone : IsCovered nodes o s r.place → ⊥ = λ k. (let there = child_there b r.place inside (sym back) k in free there.0 there.1) in
          let few = slice_get_within list k r.item r.at in
          let order = are.earlier j k q.place r.place less few q.is r.is lone in
          let closed = are.closed k r.place few r.is lone in
          under_greater b inside (subst (λ (m : ℕ). (i : ℕ) → i < m → end_at nodes o s i ≤ m) (sym back) closed) a c (omega (arith, order, q.number, r.number, q.within, r.within)) under
