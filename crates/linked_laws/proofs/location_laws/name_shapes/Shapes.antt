-- Names are read back.
use Rattle.std.proofs.Common.{arith, ◌≡◌, ◌∙◌, ℕ, Bool, true, false, List, [], ◌∷◌, ◌++◌, Option, Some, None, refl, sym, ap}
use Rattle.std.specs.Prelude.{nat_eq, ◌&&◌, not, cond}
use Rattle.std.specs.List.{list_all}
use Rattle.std.specs.Fmt.{decimal}
use Rattle.std.proofs.lemmas.Bool.{false≢true}
use Rattle.std.proofs.lemmas.Fmt.{decimal_injective}
use Rattle.linked_laws.specs.location_laws.name_shapes.Bytes.{is_head, is_unit_byte, is_base_byte, is_letter, IsMadeOf, IsWord, Stops, Begins, IsSuffix}
use Rattle.linked_laws.specs.location_laws.name_shapes.Shapes.{Spot, Tail, Nothing, Inner, Further, Placed, AnyCall, Shape, head_text, spot_text, at_text, tail_text, text_of, IsSpot, IsAt, IsHead, IsTail, IsShape}
use Rattle.linked_laws.proofs.location_laws.name_shapes.Cutting.{both, cut, weaker, unit_head, base_head, letter_head, word_letters, decimal_base}

head_is : (x y : ℕ) (s t : List ℕ) → x ∷ s ≡ y ∷ t → x ≡ y
head_is x y s t e = cc

rest_is : (x y : ℕ) (s t : List ℕ) → x ∷ s ≡ y ∷ t → s ≡ t
rest_is x y s t e = cc

-- no text begins with two bytes
apart : (x y : ℕ) (s t : List ℕ) → (x ≡ y → ⊥) → x ∷ s ≡ y ∷ t → ⊥
apart x y s t ne e = ne (head_is x y s t e)

-- what begins with a dot begins with no other byte
no_dot : (s t : List ℕ) (y : ℕ) → (46 ≡ y → ⊥) → Begins s → s ≡ y ∷ t → ⊥
no_dot [] t y ne h e = cc
no_dot (c ∷ s) t y ne h e = ne (sym h ∙ head_is c y s t e)

-- whether a colon comes before the first '@'
abbrev colon_first : List ℕ → Bool
colon_first [] = false
colon_first (c ∷ rest) = cond (nat_eq c 58) true (cond (nat_eq c 64) false (colon_first rest))

passed_by : (c : ℕ) (rest : List ℕ) (a b : Bool) → nat_eq c 58 ≡ a → nat_eq c 64 ≡ b → (not a && not b) ≡ true → colon_first (c ∷ rest) ≡ colon_first rest
passed_by c rest true b ea eb h = absurd (false≢true h)
passed_by c rest false true ea eb h = absurd (false≢true h)
passed_by c rest false false ea eb h =
    ap (λ x. cond x true (cond (nat_eq c 64) false (colon_first rest))) ea ∙ ap (λ x. cond x false (colon_first rest)) eb

passed : (a rest : List ℕ) → IsMadeOf is_head a → colon_first (a ++ rest) ≡ colon_first rest
passed [] rest h = refl
passed (c ∷ a) rest h =
    let (here, more) = both (is_head c) (list_all is_head a) h in
    passed_by c (a ++ rest) (nat_eq c 58) (nat_eq c 64) refl refl here ∙ passed a rest more

no_colon : (a : List ℕ) → IsMadeOf is_head a → colon_first a ≡ false
no_colon [] h = refl
no_colon (c ∷ a) h =
    let (here, more) = both (is_head c) (list_all is_head a) h in
    passed_by c a (nat_eq c 58) (nat_eq c 64) refl refl here ∙ no_colon a more

tail_colon : (tail : Tail) (s : List ℕ) → IsTail tail → IsSuffix s → colon_first (tail_text tail s) ≡ false
tail_colon Nothing s h k = no_colon s k.bytes
tail_colon (Inner name None) s (word, at) k = passed name s (weaker is_letter is_head name letter_head (word_letters name word)) ∙ no_colon s k.bytes
tail_colon (Inner name (Some spot)) s (word, at) k = passed name (64 ∷ spot_text spot s) (weaker is_letter is_head name letter_head (word_letters name word))
tail_colon Further s h k = no_colon s k.bytes
tail_colon (Placed unit spot) s h k = refl
tail_colon AnyCall s h k = refl

base_colon : (base : List ℕ) (tail : Tail) (s : List ℕ) → IsMadeOf is_base_byte base → IsTail tail → IsSuffix s → colon_first (base ++ tail_text tail s) ≡ false
base_colon base tail s hb ht k = passed base (tail_text tail s) (weaker is_base_byte is_head base base_head hb) ∙ tail_colon tail s ht k

unit_colon : (unit rest : List ℕ) → IsMadeOf is_unit_byte unit → colon_first (unit ++ (58 ∷ rest)) ≡ true
unit_colon unit rest h = passed unit (58 ∷ rest) (weaker is_unit_byte is_head unit unit_head h)

-- what stands behind an object's own name begins with no byte of it
suffix_stops : (s : List ℕ) → Begins s → Stops is_base_byte s
suffix_stops [] h = tt
suffix_stops (c ∷ rest) h = ap is_base_byte h

suffix_letters : (s : List ℕ) → Begins s → Stops is_letter s
suffix_letters [] h = tt
suffix_letters (c ∷ rest) h = ap is_letter h

tail_stops : (tail : Tail) (s : List ℕ) → Begins s → Stops is_base_byte (tail_text tail s)
tail_stops Nothing s h = suffix_stops s h
tail_stops (Inner name at) s h = refl
tail_stops Further s h = refl
tail_stops (Placed unit spot) s h = refl
tail_stops AnyCall s h = refl

at_stops : (at : Option Spot) (s : List ℕ) → Begins s → Stops is_letter (at_text at s)
at_stops None s h = suffix_letters s h
at_stops (Some spot) s h = refl

-- places
abbrev spot_of : ℕ → ℕ → Spot
spot_of line column = record { line = line; column = column }

same_spot : (a b : Spot) (s t : List ℕ) → IsSpot a → IsSpot b → Begins s → Begins t → spot_text a s ≡ spot_text b t → (a ≡ b) × (s ≡ t)
same_spot a b s t ha hb hs ht e =
    let (lines, rest) = cut is_base_byte (decimal a.line) (decimal b.line) (58 ∷ (decimal a.column ++ s)) (58 ∷ (decimal b.column ++ t)) (decimal_base a.line ha.line) (decimal_base b.line hb.line) refl refl e in
    let more = rest_is 58 58 (decimal a.column ++ s) (decimal b.column ++ t) rest in
    let (columns, ends) = cut is_base_byte (decimal a.column) (decimal b.column) s t (decimal_base a.column ha.column) (decimal_base b.column hb.column) (suffix_stops s hs) (suffix_stops t ht) more in
    let line = decimal_injective a.line b.line ha.line hb.line lines in
    let column = decimal_injective a.column b.column ha.column hb.column columns in
    (ap (λ l. spot_of l a.column) line ∙ ap (spot_of b.line) column, ends)

same_at : (a b : Option Spot) (s t : List ℕ) → IsAt a → IsAt b → Begins s → Begins t → at_text a s ≡ at_text b t → (a ≡ b) × (s ≡ t)
same_at None None s t ha hb hs ht e = (refl, e)
same_at None (Some b) s t ha hb hs ht e = absurd (no_dot s (spot_text b t) 64 (λ n. omega arith) hs e)
same_at (Some a) None s t ha hb hs ht e = absurd (no_dot t (spot_text a s) 64 (λ n. omega arith) ht (sym e))
same_at (Some a) (Some b) s t ha hb hs ht e =
    let more = rest_is 64 64 (spot_text a s) (spot_text b t) e in
    let (ab, st) = same_spot a b s t ha hb hs ht more in
    (ap Some ab, st)

-- the names of units don't begin with a star
no_star : (unit rest s : List ℕ) → IsMadeOf is_unit_byte unit → unit ++ (58 ∷ rest) ≡ 42 ∷ s → ⊥
no_star [] rest s h e = apart 58 42 rest s (λ n. omega arith) e
no_star (c ∷ unit) rest s h e =
    let star = head_is c 42 (unit ++ (58 ∷ rest)) s e in
    let here = (both (is_unit_byte c) (list_all is_unit_byte unit) h).0 in
    false≢true (ap is_unit_byte (sym star) ∙ here)

-- an identifier doesn't begin with a dot
no_word : (name rest t : List ℕ) → IsWord name → name ++ rest ≡ 46 ∷ t → ⊥
no_word [] rest t h e = h
no_word (c ∷ name) rest t h e =
    let dot = head_is c 46 (name ++ rest) t e in
    let here = (both (is_letter c) (list_all is_letter name) h).0 in
    false≢true (ap is_letter (sym dot) ∙ here)

unit_cut : (a b s t : List ℕ) → IsMadeOf is_unit_byte a → IsMadeOf is_unit_byte b → a ++ (58 ∷ s) ≡ b ++ (58 ∷ t) → (a ≡ b) × (s ≡ t)
unit_cut a b s t ha hb e =
    let (ab, rest) = cut is_unit_byte a b (58 ∷ s) (58 ∷ t) ha hb refl refl e in
    (ab, rest_is 58 58 s t rest)

same_tail : (a b : Tail) (s t : List ℕ) → IsTail a → IsTail b → Begins s → Begins t → tail_text a s ≡ tail_text b t → (a ≡ b) × (s ≡ t)
same_tail Nothing Nothing s t ha hb hs ht e = (refl, e)
same_tail Nothing (Inner name at) s t ha hb hs ht e = absurd (no_dot s (name ++ at_text at t) 47 (λ n. omega arith) hs e)
same_tail Nothing Further s t ha hb hs ht e = absurd (no_dot s (46 ∷ 46 ∷ 46 ∷ t) 47 (λ n. omega arith) hs e)
same_tail Nothing (Placed unit spot) s t ha hb hs ht e = absurd (no_dot s (unit ++ (58 ∷ spot_text spot t)) 64 (λ n. omega arith) hs e)
same_tail Nothing AnyCall s t ha hb hs ht e = absurd (no_dot s (42 ∷ t) 64 (λ n. omega arith) hs e)
same_tail (Inner name at) Nothing s t ha hb hs ht e = absurd (no_dot t (name ++ at_text at s) 47 (λ n. omega arith) ht (sym e))
same_tail (Inner x at) (Inner y there) s t (hx, ha) (hy, hb) hs ht e =
    let more = rest_is 47 47 (x ++ at_text at s) (y ++ at_text there t) e in
    let (names, rest) = cut is_letter x y (at_text at s) (at_text there t) (word_letters x hx) (word_letters y hy) (at_stops at s hs) (at_stops there t ht) more in
    let (places, ends) = same_at at there s t ha hb hs ht rest in
    (ap (λ n. Inner n at) names ∙ ap (Inner y) places, ends)
same_tail (Inner name at) Further s t (word, ha) hb hs ht e = absurd (no_word name (at_text at s) (46 ∷ 46 ∷ t) word (rest_is 47 47 (name ++ at_text at s) (46 ∷ 46 ∷ 46 ∷ t) e))
same_tail (Inner name at) (Placed unit spot) s t ha hb hs ht e = absurd (apart 47 64 (name ++ at_text at s) (unit ++ (58 ∷ spot_text spot t)) (λ n. omega arith) e)
same_tail (Inner name at) AnyCall s t ha hb hs ht e = absurd (apart 47 64 (name ++ at_text at s) (42 ∷ t) (λ n. omega arith) e)
same_tail Further Nothing s t ha hb hs ht e = absurd (no_dot t (46 ∷ 46 ∷ 46 ∷ s) 47 (λ n. omega arith) ht (sym e))
same_tail Further (Inner name at) s t ha (word, hb) hs ht e = absurd (no_word name (at_text at t) (46 ∷ 46 ∷ s) word (sym (rest_is 47 47 (46 ∷ 46 ∷ 46 ∷ s) (name ++ at_text at t) e)))
same_tail Further Further s t ha hb hs ht e = (refl, rest_is 46 46 s t (rest_is 46 46 (46 ∷ s) (46 ∷ t) (rest_is 46 46 (46 ∷ 46 ∷ s) (46 ∷ 46 ∷ t) (rest_is 47 47 (46 ∷ 46 ∷ 46 ∷ s) (46 ∷ 46 ∷ 46 ∷ t) e))))
same_tail Further (Placed unit spot) s t ha hb hs ht e = absurd (apart 47 64 (46 ∷ 46 ∷ 46 ∷ s) (unit ++ (58 ∷ spot_text spot t)) (λ n. omega arith) e)
same_tail Further AnyCall s t ha hb hs ht e = absurd (apart 47 64 (46 ∷ 46 ∷ 46 ∷ s) (42 ∷ t) (λ n. omega arith) e)
same_tail (Placed unit spot) Nothing s t ha hb hs ht e = absurd (no_dot t (unit ++ (58 ∷ spot_text spot s)) 64 (λ n. omega arith) ht (sym e))
same_tail (Placed unit spot) (Inner name at) s t ha hb hs ht e = absurd (apart 64 47 (unit ++ (58 ∷ spot_text spot s)) (name ++ at_text at t) (λ n. omega arith) e)
same_tail (Placed unit spot) Further s t ha hb hs ht e = absurd (apart 64 47 (unit ++ (58 ∷ spot_text spot s)) (46 ∷ 46 ∷ 46 ∷ t) (λ n. omega arith) e)
same_tail (Placed u x) (Placed v y) s t (hu, hx) (hv, hy) hs ht e =
    let more = rest_is 64 64 (u ++ (58 ∷ spot_text x s)) (v ++ (58 ∷ spot_text y t)) e in
    let (units, rest) = unit_cut u v (spot_text x s) (spot_text y t) hu hv more in
    let (spots, ends) = same_spot x y s t hx hy hs ht rest in
    (ap (λ w. Placed w x) units ∙ ap (Placed v) spots, ends)
same_tail (Placed u x) AnyCall s t (hu, hx) hb hs ht e =
    absurd (no_star u (spot_text x s) t hu (rest_is 64 64 (u ++ (58 ∷ spot_text x s)) (42 ∷ t) e))
same_tail AnyCall Nothing s t ha hb hs ht e = absurd (no_dot t (42 ∷ s) 64 (λ n. omega arith) ht (sym e))
same_tail AnyCall (Inner name at) s t ha hb hs ht e = absurd (apart 64 47 (42 ∷ s) (name ++ at_text at t) (λ n. omega arith) e)
same_tail AnyCall Further s t ha hb hs ht e = absurd (apart 64 47 (42 ∷ s) (46 ∷ 46 ∷ 46 ∷ t) (λ n. omega arith) e)
same_tail AnyCall (Placed v y) s t ha (hv, hy) hs ht e =
    absurd (no_star v (spot_text y t) s hv (sym (rest_is 64 64 (42 ∷ s) (v ++ (58 ∷ spot_text y t)) e)))
same_tail AnyCall AnyCall s t ha hb hs ht e = (refl, rest_is 42 42 s t (rest_is 64 64 (42 ∷ s) (42 ∷ t) e))

same_rest : (a b : List ℕ) (x y : Tail) (s t : List ℕ) → IsMadeOf is_base_byte a → IsMadeOf is_base_byte b → IsTail x → IsTail y → IsSuffix s → IsSuffix t
    → a ++ tail_text x s ≡ b ++ tail_text y t → (a ≡ b) × (x ≡ y) × (s ≡ t)
same_rest a b x y s t ha hb hx hy hs ht e =
    let (bases, rest) = cut is_base_byte a b (tail_text x s) (tail_text y t) ha hb (tail_stops x s hs.dot) (tail_stops y t ht.dot) e in
    let (tails, ends) = same_tail x y s t hx hy hs.dot ht.dot rest in
    (bases, tails, ends)

same_head : (u v : Option (List ℕ)) (a b : List ℕ) → IsHead u → IsHead v → colon_first a ≡ false → colon_first b ≡ false → head_text u a ≡ head_text v b → (u ≡ v) × (a ≡ b)
same_head None None a b hu hv ca cb e = (refl, e)
same_head None (Some v) a b hu hv ca cb e = absurd (false≢true (sym ca ∙ (ap colon_first e ∙ unit_colon v b hv)))
same_head (Some u) None a b hu hv ca cb e = absurd (false≢true (sym cb ∙ (ap colon_first (sym e) ∙ unit_colon u a hu)))
same_head (Some u) (Some v) a b hu hv ca cb e =
    let (units, rest) = unit_cut u v a b hu hv e in
    (ap Some units, rest)

abbrev shape_of : Option (List ℕ) → List ℕ → Tail → Shape
shape_of unit base tail = record { unit = unit; base = base; tail = tail }

pub read_back : (a b : Shape) (s t : List ℕ) → IsShape a → IsShape b → IsSuffix s → IsSuffix t → text_of a s ≡ text_of b t → (a ≡ b) × (s ≡ t)
read_back a b s t ha hb hs ht e =
    let (units, rest) = same_head a.unit b.unit (a.base ++ tail_text a.tail s) (b.base ++ tail_text b.tail t) ha.unit hb.unit
    (base_colon a.base a.tail s ha.base ha.tail hs) (base_colon b.base b.tail t hb.base hb.tail ht) e in
    let (bases, tails, ends) = same_rest a.base b.base a.tail b.tail s t ha.base hb.base ha.tail hb.tail hs ht rest in
    (ap (λ u. shape_of u a.base a.tail) units ∙ (ap (λ n. shape_of b.unit n a.tail) bases ∙ ap (shape_of b.unit b.base) tails), ends)
