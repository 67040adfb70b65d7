-- Blocks that are left and entered, one after another.
use Rattle.std.proofs.Common.{arith, ◌≡◌, ℕ, ◌+◌, ◌<◌, ◌≤◌, Bool, true, false, not, List, [], ◌∷◌, ◌++◌, length, get_or, take, drop, map, reverse, refl, ap, sym, ◌∙◌, cond, if◌then◌else◌, append_assoc}
use Rattle.std.proofs.lemmas.List.{map-id, map_more, take_more, drop_more, reverse-append, length-map, length-take-le}
use Rattle.std.proofs.lemmas.List.Elements.{filter_more}
use Rattle.std.proofs.lemmas.List.FromFn.{map-range_with_len_more}
use Rattle.std.specs.List.{filter, range_with_len}
use Rattle.core_tree.specs.Typed.{CoreTrees}
use Rattle.ref_state.specs.Changes.{Blocks}
use Rattle.ref_blocks.specs.declared.block.Block.{Block}
use Rattle.ref_blocks.specs.Around.{is_among, but_for}
use Rattle.ref_blocks.specs.Blocks.{left, entered, all_left, all_entered}

range_more : (a n : ℕ) → range_with_len a (n + 1) ≡ range_with_len a n ++ (a + n) ∷ []
range_more a n =
    sym (map-id (range_with_len a (n + 1))) ∙ map-range_with_len_more (λ (x : ℕ). x) a n (a + n) refl ∙ ap (λ (w : List ℕ). w ++ (a + n) ∷ []) (map-id (range_with_len a n))

-- one instance more
pub own_more : (a n x : ℕ) (old own new : List ℕ) → own ≡ old ++ range_with_len a n → new ≡ own ++ x ∷ [] → x ≡ a + n → new ≡ old ++ range_with_len a (n + 1)
own_more a n x old own new q h e = h ∙ ap (λ (w : List ℕ). w ++ x ∷ []) q ∙ ap (λ (k : ℕ). (old ++ range_with_len a n) ++ k ∷ []) e
    ∙ append_assoc old (range_with_len a n) ((a + n) ∷ []) ∙ ap (λ (w : List ℕ). old ++ w) (sym (range_more a n))

-- one object more
pub fresh_more : {X Y : Type 0} (f : X → Y) (xs : List X) (i : ℕ) (d : X) (old fresh new : List Y) → i < length xs → fresh ≡ old ++ map f (take i xs) → new ≡ fresh ++ f (get_or xs i d) ∷ [] → new ≡ old ++ map f (take (i + 1) xs)
fresh_more f xs i d old fresh new l q h = h ∙ ap (λ w. w ++ f (get_or xs i d) ∷ []) q ∙ append_assoc old (map f (take i xs)) (f (get_or xs i d) ∷ []) ∙ ap (λ w. old ++ w) (sym (map_more f xs i d l))

pub fresh_count : {X Y : Type 0} (f : X → Y) (xs : List X) (i : ℕ) → i ≤ length xs → length (map f (take i xs)) ≡ i
fresh_count f xs i l = length-map (take i xs) f ∙ length-take-le i xs l

-- a block that is left, if it isn't among others
left_choice : (u : CoreTrees) (t : Bool) (x : Block) (rest : List Block) (s : Blocks) → all_left u (cond (not t) (x ∷ rest) rest) s ≡ all_left u rest (if t then s else left u x s)
left_choice u true x rest s = refl
left_choice u false x rest s = refl

pub left_step : (u : CoreTrees) (blocks others : List Block) (i : ℕ) (d : Block) (s : Blocks) → i < length blocks
    → all_left u (but_for (drop i blocks) others) s ≡ all_left u (but_for (drop (i + 1) blocks) others) (if is_among others (get_or blocks i d) then s else left u (get_or blocks i d) s)
left_step u blocks others i d s l =
    ap (λ (w : List Block). all_left u (but_for w others) s) (drop_more blocks i d l)
    ∙ left_choice u (is_among others (get_or blocks i d)) (get_or blocks i d) (but_for (drop (i + 1) blocks) others) s

-- one that is listed, if it isn't among others
listed_choice : (t : Bool) (x : Block) → (if t then [] else x ∷ []) ≡ cond (not t) (x ∷ []) []
listed_choice true x = refl
listed_choice false x = refl

pub listed_step : (blocks others : List Block) (i : ℕ) (d : Block) (list new : List Block) → i < length blocks → list ≡ but_for (take i blocks) others
    → new ≡ list ++ (if is_among others (get_or blocks i d) then [] else get_or blocks i d ∷ []) → new ≡ but_for (take (i + 1) blocks) others
listed_step blocks others i d list new l q h =
    h ∙ ap (λ (w : List Block). w ++ (if is_among others (get_or blocks i d) then [] else get_or blocks i d ∷ [])) q
    ∙ ap (λ (w : List Block). but_for (take i blocks) others ++ w) (listed_choice (is_among others (get_or blocks i d)) (get_or blocks i d))
    ∙ sym (filter_more (λ (b : Block). not (is_among others b)) blocks i d l)

-- a block that is entered, from the end of the list
pub entered_step : (u : CoreTrees) (blocks : List Block) (i k : ℕ) (d : Block) (s : Blocks) → k + 1 ≡ i → i ≤ length blocks
    → all_entered u (reverse (take i blocks)) s ≡ all_entered u (reverse (take k blocks)) (entered u (get_or blocks k d) s)
entered_step u blocks i k d s q l =
    ap (λ (n : ℕ). all_entered u (reverse (take n blocks)) s) (sym q)
    ∙ ap (λ (w : List Block). all_entered u (reverse w) s) (take_more blocks k d (omega arith))
    ∙ ap (λ (w : List Block). all_entered u w s) (reverse-append (take k blocks) (get_or blocks k d ∷ []))

-- those around one node are left for those around another one
pub jumped : (u : CoreTrees) (inside around other : List Block) (s m e : Blocks) → around ≡ other → m ≡ all_left u (but_for inside around) s → e ≡ all_entered u (reverse (but_for around inside)) m
    → e ≡ all_entered u (reverse (but_for other inside)) (all_left u (but_for inside other) s)
jumped u inside around other s m e q h k = k ∙ ap (all_entered u (reverse (but_for around inside))) h
    ∙ ap (λ (w : List Block). all_entered u (reverse (but_for w inside)) (all_left u (but_for inside w) s)) q

-- instances that stay and end
stay_choice : (t : Bool) (i : ℕ) → (if t then [] else i ∷ []) ≡ cond (not t) (i ∷ []) []
stay_choice true i = refl
stay_choice false i = refl

pub stay_step : (test : ℕ → Bool) (own : List ℕ) (i : ℕ) (t : Bool) (list new : List ℕ) → i < length own → t ≡ test (get_or own i 0) → list ≡ filter (λ k. not (test k)) (take i own)
    → new ≡ list ++ (if t then [] else get_or own i 0 ∷ []) → new ≡ filter (λ k. not (test k)) (take (i + 1) own)
stay_step test own i t list new l e q h =
    h ∙ ap (λ (w : List ℕ). w ++ (if t then [] else get_or own i 0 ∷ [])) q
    ∙ ap (λ (w : List ℕ). filter (λ (k : ℕ). not (test k)) (take i own) ++ w) (stay_choice t (get_or own i 0))
    ∙ ap (λ (b : Bool). filter (λ (k : ℕ). not (test k)) (take i own) ++ cond (not b) (get_or own i 0 ∷ []) []) e
    ∙ sym (filter_more (λ (k : ℕ). not (test k)) own i 0 l)

pub end_step : (test : ℕ → Bool) (own : List ℕ) (i : ℕ) (t : Bool) (old list new : List ℕ) → i < length own → t ≡ test (get_or own i 0) → list ≡ old ++ filter test (take i own)
    → new ≡ list ++ (if t then get_or own i 0 ∷ [] else []) → new ≡ old ++ filter test (take (i + 1) own)
end_step test own i t old list new l e q h =
    h ∙ ap (λ (w : List ℕ). w ++ (if t then get_or own i 0 ∷ [] else [])) q
    ∙ ap (λ (b : Bool). (old ++ filter test (take i own)) ++ (if b then get_or own i 0 ∷ [] else [])) e
    ∙ append_assoc old (filter test (take i own)) (if test (get_or own i 0) then get_or own i 0 ∷ [] else [])
    ∙ ap (λ (w : List ℕ). old ++ w) (sym (filter_more test own i 0 l))
