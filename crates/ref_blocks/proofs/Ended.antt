-- Instances that end, and what blocks that are left and entered leave.
use Rattle.std.proofs.Common.{arith, ◌≡◌, ℕ, zero, suc, ◌+◌, ◌-◌, ◌<◌, ◌≤◌, Bool, true, false, not, List, [], ◌∷◌, ◌++◌, length, length-append, set, map, All, Option, Some, None, slice_get, refl, ap, sym, ◌∙◌, subst, append_assoc}
use Rattle.std.proofs.Math.Path.{fun_ext}
use Rattle.std.proofs.lemmas.List.{length-set, set-append_left}
use Rattle.std.proofs.lemmas.List.Elements.{All-append, All-head, All-tail, All-weaker, filter_passes}
use Rattle.std.specs.List.{filter, range_with_len}
use Rattle.core_tree.specs.Typed.{CoreTrees}
use Rattle.ref_cells.specs.declared.instance.Instance.{Instance}
use Rattle.ref_mem.specs.Writes.{changed}
use Rattle.ref_state.specs.declared.doors.Doors.{Doors}
use Rattle.ref_state.specs.Changes.{Blocks, ended_one, ended_all}
use Rattle.ref_blocks.specs.declared.block.Block.{Block}
use Rattle.ref_blocks.specs.Around.{objects_of}
use Rattle.ref_blocks.specs.Blocks.{is_of, is_one_of, unset_object, entered, left}
use Rattle.ref_blocks.specs.Plans.{blocks_by, EndsKnown}

-- One instance ends.

length-changed : (m : List Instance) (i : ℕ) (o : Option Instance) (f : Instance → Instance) → length (changed m i o f) ≡ length m
length-changed m i None f = refl
length-changed m i (Some inst) f = length-set m i (f inst)

length-ended_one : (m : List Instance) (i : ℕ) → length (ended_one m i) ≡ length m
length-ended_one m i = length-changed m i (slice_get m i) (λ (inst : Instance). record inst { live = false })

key_stays : (objects : List ℕ) (m : List Instance) (i j : ℕ) (inst : Instance) → slice_get m i ≡ Some inst → is_of objects (slice_get (set m i (record inst { live = false })) j) ≡ is_of objects (slice_get m j)
key_stays objects [] i j inst h = refl
key_stays objects (x ∷ m) zero zero inst h = let e : x ≡ inst = cc in ap (λ (y : Instance). is_one_of objects y.key) (sym e)
key_stays objects (x ∷ m) zero (suc j) inst h = refl
key_stays objects (x ∷ m) (suc i) zero inst h = refl
key_stays objects (x ∷ m) (suc i) (suc j) inst h = key_stays objects m i j inst h

key_at : (objects : List ℕ) (m : List Instance) (i j : ℕ) (o : Option Instance) → slice_get m i ≡ o → is_of objects (slice_get (changed m i o (λ inst. record inst { live = false })) j) ≡ is_of objects (slice_get m j)
key_at objects m i j None h = refl
key_at objects m i j (Some inst) h = key_stays objects m i j inst h

pub slice_get_front : {X : Type 0} (xs ys : List X) (i : ℕ) → i < length xs → slice_get (xs ++ ys) i ≡ slice_get xs i
slice_get_front [] ys i l = absurd (omega arith)
slice_get_front (x ∷ xs) ys zero l = refl
slice_get_front (x ∷ xs) ys (suc i) l = slice_get_front xs ys i (omega arith)

changed_front : (m fresh : List Instance) (i : ℕ) (o : Option Instance) (f : Instance → Instance) → i < length m → changed (m ++ fresh) i o f ≡ changed m i o f ++ fresh
changed_front m fresh i None f l = refl
changed_front m fresh i (Some inst) f l = set-append_left m fresh i (f inst) l

ended_front : (m fresh : List Instance) (i : ℕ) → i < length m → ended_one (m ++ fresh) i ≡ ended_one m i ++ fresh
ended_front m fresh i l =
    ap (λ (o : Option Instance). changed (m ++ fresh) i o (λ (inst : Instance). record inst { live = false })) (slice_get_front m fresh i l)
    ∙ changed_front m fresh i (slice_get m i) (λ (inst : Instance). record inst { live = false }) l

-- Several end.

pub length-ended_all : (m : List Instance) (es : List ℕ) → length (ended_all m es) ≡ length m
length-ended_all m [] = refl
length-ended_all m (i ∷ es) = length-ended_all (ended_one m i) es ∙ length-ended_one m i

key_in_all : (objects : List ℕ) (m : List Instance) (es : List ℕ) (j : ℕ) → is_of objects (slice_get (ended_all m es) j) ≡ is_of objects (slice_get m j)
key_in_all objects m [] j = refl
key_in_all objects m (i ∷ es) j = key_in_all objects (ended_one m i) es j ∙ key_at objects m i j (slice_get m i) refl

ended_all-append : (m : List Instance) (es fs : List ℕ) → ended_all m (es ++ fs) ≡ ended_all (ended_all m es) fs
ended_all-append m [] fs = refl
ended_all-append m (i ∷ es) fs = ended_all-append (ended_one m i) es fs

ended_all_front : (m fresh : List Instance) (es : List ℕ) → All (λ i. i < length m) es → ended_all (m ++ fresh) es ≡ ended_all m es ++ fresh
ended_all_front m fresh [] h = refl
ended_all_front m fresh (i ∷ es) h =
    ap (λ (w : List Instance). ended_all w es) (ended_front m fresh i (All-head (λ (j : ℕ). j < length m) i es h))
    ∙ ended_all_front (ended_one m i) fresh es (subst (λ (n : ℕ). All (λ j. j < n) es) (sym (length-ended_one m i)) (All-tail (λ (j : ℕ). j < length m) i es h))

-- Blocks.

same_blocks : (m k : List Instance) (a b : List ℕ) → m ≡ k → a ≡ b → ◌≡◌ {A = Blocks} (record { memory = m; own = a }) (record { memory = k; own = b })
same_blocks m k a b p q = λ i. record { memory = p i; own = q i }

pub more_known : (n m : ℕ) (es : List ℕ) → n ≤ m → All (λ i. i < n) es → All (λ i. i < m) es
more_known n m es l h = All-weaker (λ (i : ℕ). i < n) (λ (i : ℕ). i < m) (λ i k. omega arith) es h

-- the objects of a block are made
pub entered_by : (u : CoreTrees) (b : Block) (memory : List Instance) (old new : Doors) → EndsKnown memory old
    → new.own ≡ old.own ++ range_with_len (length memory + length old.fresh) (length (objects_of u b))
    → new.fresh ≡ old.fresh ++ map (unset_object u) (objects_of u b)
    → new.ended ≡ old.ended
    → blocks_by memory new ≡ entered u b (blocks_by memory old)
entered_by u b memory old new known own fresh ended =
    let all : All (λ i. i < length (memory ++ old.fresh)) old.ended = subst (λ (n : ℕ). All (λ i. i < n) old.ended) (sym (length-append memory old.fresh)) known in
    let count : length (ended_all (memory ++ old.fresh) old.ended) ≡ length memory + length old.fresh = length-ended_all (memory ++ old.fresh) old.ended ∙ length-append memory old.fresh in
    same_blocks _ _ _ _
    (ap (λ (w : List Instance). ended_all (memory ++ w) new.ended) fresh
    ∙ ap (ended_all (memory ++ (old.fresh ++ map (unset_object u) (objects_of u b)))) ended
    ∙ ap (λ (w : List Instance). ended_all w old.ended) (sym (append_assoc memory old.fresh (map (unset_object u) (objects_of u b))))
    ∙ ended_all_front (memory ++ old.fresh) (map (unset_object u) (objects_of u b)) old.ended all)
    (own ∙ ap (λ (n : ℕ). old.own ++ range_with_len n (length (objects_of u b))) (sym count))

pub entered_known : (u : CoreTrees) (b : Block) (memory : List Instance) (old new : Doors) → EndsKnown memory old
    → new.fresh ≡ old.fresh ++ map (unset_object u) (objects_of u b)
    → new.ended ≡ old.ended
    → EndsKnown memory new
entered_known u b memory old new known fresh ended =
    let count : length new.fresh ≡ length old.fresh + length (map (unset_object u) (objects_of u b)) = ap length fresh ∙ length-append old.fresh (map (unset_object u) (objects_of u b)) in
    subst (λ (w : List ℕ). All (λ i. i < length memory + length new.fresh) w) (sym ended) (more_known (length memory + length old.fresh) (length memory + length new.fresh) old.ended (omega arith) known)

-- they end

test_stays : (objects : List ℕ) (m : List Instance) (es : List ℕ) → ◌≡◌ {A = ℕ → Bool} (λ i. is_of objects (slice_get m i)) (λ i. is_of objects (slice_get (ended_all m es) i))
test_stays objects m es = fun_ext (λ (i : ℕ). sym (key_in_all objects m es i))

pub left_by : (u : CoreTrees) (b : Block) (memory : List Instance) (old new : Doors)
    → new.own ≡ filter (λ i. not (is_of (objects_of u b) (slice_get (memory ++ old.fresh) i))) old.own
    → new.ended ≡ old.ended ++ filter (λ i. is_of (objects_of u b) (slice_get (memory ++ old.fresh) i)) old.own
    → new.fresh ≡ old.fresh
    → blocks_by memory new ≡ left u b (blocks_by memory old)
left_by u b memory old new own ended fresh =
    let t = test_stays (objects_of u b) (memory ++ old.fresh) old.ended in
    same_blocks _ _ _ _
    (ap (λ (w : List Instance). ended_all (memory ++ w) new.ended) fresh
    ∙ ap (ended_all (memory ++ old.fresh)) ended
    ∙ ended_all-append (memory ++ old.fresh) old.ended (filter (λ (i : ℕ). is_of (objects_of u b) (slice_get (memory ++ old.fresh) i)) old.own)
    ∙ ap (λ (p : ℕ → Bool). ended_all (ended_all (memory ++ old.fresh) old.ended) (filter p old.own)) t)
    (own ∙ ap (λ (p : ℕ → Bool). filter (λ (i : ℕ). not (p i)) old.own) t)

is_within : (objects : List ℕ) (m : List Instance) (i : ℕ) → is_of objects (slice_get m i) ≡ true → i < length m
is_within objects [] i h = cc
is_within objects (x ∷ m) zero h = omega arith
is_within objects (x ∷ m) (suc i) h = let r = is_within objects m i h in omega arith

found_known : (objects : List ℕ) (m : List Instance) (own : List ℕ) → All (λ i. i < length m) (filter (λ i. is_of objects (slice_get m i)) own)
found_known objects m own = All-weaker (λ (i : ℕ). is_of objects (slice_get m i) ≡ true) (λ (i : ℕ). i < length m) (is_within objects m) (filter (λ (i : ℕ). is_of objects (slice_get m i)) own) (filter_passes (λ (i : ℕ). is_of objects (slice_get m i)) own)

pub left_known : (u : CoreTrees) (b : Block) (memory : List Instance) (old new : Doors) → EndsKnown memory old
    → new.ended ≡ old.ended ++ filter (λ i. is_of (objects_of u b) (slice_get (memory ++ old.fresh) i)) old.own
    → new.fresh ≡ old.fresh
    → EndsKnown memory new
left_known u b memory old new known ended fresh =
    let f = found_known (objects_of u b) (memory ++ old.fresh) old.own in
    let g : All (λ i. i < length memory + length old.fresh) (filter (λ i. is_of (objects_of u b) (slice_get (memory ++ old.fresh) i)) old.own) = subst (λ (n : ℕ). All (λ i. i < n) (filter (λ i. is_of (objects_of u b) (slice_get (memory ++ old.fresh) i)) old.own)) (length-append memory old.fresh) f in
    subst (λ (w : List Instance). All (λ i. i < length memory + length w) new.ended) (sym fresh)
    (subst (λ (w : List ℕ). All (λ i. i < length memory + length old.fresh) w) (sym ended)
    (All-append (λ (i : ℕ). i < length memory + length old.fresh) old.ended (filter (λ (i : ℕ). is_of (objects_of u b) (slice_get (memory ++ old.fresh) i)) old.own) known g))

-- the same of the lists as the code has them
pub left_from : (u : CoreTrees) (b : Block) (memory : List Instance) (old new : Doors) (objects : List ℕ) (fresh : List Instance) (own ended : List ℕ)
    → objects ≡ objects_of u b → fresh ≡ old.fresh → own ≡ old.own → ended ≡ old.ended → EndsKnown memory old
    → new.own ≡ filter (λ i. not (is_of objects (slice_get (memory ++ fresh) i))) own
    → new.ended ≡ ended ++ filter (λ i. is_of objects (slice_get (memory ++ fresh) i)) own
    → new.fresh ≡ old.fresh
    → (EndsKnown memory new) × (blocks_by memory new ≡ left u b (blocks_by memory old))
left_from u b memory old new objects fresh own ended o f w e known hown hended hfresh =
    let stay = hown
    ∙ ap (λ (x : List ℕ). filter (λ (i : ℕ). not (is_of x (slice_get (memory ++ fresh) i))) own) o
    ∙ ap (λ (x : List Instance). filter (λ (i : ℕ). not (is_of (objects_of u b) (slice_get (memory ++ x) i))) own) f
    ∙ ap (filter (λ (i : ℕ). not (is_of (objects_of u b) (slice_get (memory ++ old.fresh) i)))) w in
    let go = hended
    ∙ ap (λ (x : List ℕ). x ++ filter (λ (i : ℕ). is_of objects (slice_get (memory ++ fresh) i)) own) e
    ∙ ap (λ (x : List ℕ). old.ended ++ filter (λ (i : ℕ). is_of x (slice_get (memory ++ fresh) i)) own) o
    ∙ ap (λ (x : List Instance). old.ended ++ filter (λ (i : ℕ). is_of (objects_of u b) (slice_get (memory ++ x) i)) own) f
    ∙ ap (λ (x : List ℕ). old.ended ++ filter (λ (i : ℕ). is_of (objects_of u b) (slice_get (memory ++ old.fresh) i)) x) w in
    (left_known u b memory old new known go hfresh, left_by u b memory old new stay go hfresh)

-- an instance behind those of a memory
pub slice_get_back : {X : Type 0} (xs ys : List X) (i : ℕ) → length xs ≤ i → slice_get (xs ++ ys) i ≡ slice_get ys (i - length xs)
slice_get_back [] ys i l = ap (slice_get ys) (omega arith)
slice_get_back (x ∷ xs) ys zero l = absurd (omega arith)
slice_get_back (x ∷ xs) ys (suc i) l = slice_get_back xs ys i (omega arith) ∙ ap (slice_get ys) (omega arith)
