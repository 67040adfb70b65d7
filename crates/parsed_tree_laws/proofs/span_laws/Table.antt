-- What the rows of the table bring: nothing that follows a primary but behind something, and only in some.
use Rattle.std.proofs.Common.{arith, ◌≡◌, ◌≤◌, ◌+◌, ℕ, zero, suc, nat_eq, not, Bool, true, false, ◌&&◌, ◌||◌, List, [], ◌∷◌, ◌++◌, Some, slice_get, refl, ap, subst}
use Rattle.std.proofs.lemmas.Bool.{eqb-true}
use Rattle.std.specs.Prelude.{nat_le, slice_index_or, if◌then◌else◌}
use Rattle.c_grammar.specs.declared.rows.Item.{Item}
use Rattle.c_grammar.specs.declared.rows.Item.TheVariants as item
use Rattle.c_grammar.specs.Table.{table, row}
use Rattle.c_grammar.specs.Terminals.{contains}
use Rattle.c_grammar.specs.Tree.{makes_node}
use Rattle.c_grammar.specs.Reads.{leaf}

abbrev pub post : ℕ
post = 46

abbrev pub is_post : ℕ → Bool
is_post p = nat_eq p post

-- a part's weight by its production
abbrev pub weight : ℕ → ℕ
weight p = if nat_eq p leaf then 1 else 2

abbrev pub all_weights : List ℕ → ℕ
all_weights [] = 0
all_weights (p ∷ ps) = weight p + all_weights ps

-- each one that follows a primary has so much before it
abbrev pub ok : ℕ → List ℕ → Bool
ok z [] = true
ok z (p ∷ ps) = (not (is_post p) || nat_le 2 z) && ok (z + weight p) ps

abbrev pub test : ℕ → List Item → Bool
test z [] = true
test z (item.Token k ∷ rest) = test (z + 1) rest
test z (item.Use q ∷ rest) = not (is_post q) && test (if makes_node q then z + 2 else z) rest
test z (item.Choice a b ∷ rest) = (not (is_post a) && not (is_post b)) && test z rest
test z (item.Repeat q ∷ rest) = (not (is_post q) || nat_le 2 z) && test z rest
test z (item.Scope n ∷ rest) = test z rest

-- productions without a node whose parts may follow a primary, and those that have such parts
abbrev pub bringing : List ℕ
bringing = 44 ∷ 45 ∷ 216 ∷ 217 ∷ 230 ∷ 231 ∷ 233 ∷ 234 ∷ 235 ∷ []

abbrev pub brings : ℕ → Bool
brings q = if makes_node q then is_post q else contains bringing q

abbrev pub free : List Item → Bool
free [] = true
free (item.Token k ∷ rest) = free rest
free (item.Use q ∷ rest) = not (brings q) && free rest
free (item.Choice a b ∷ rest) = (not (brings a) && not (brings b)) && free rest
free (item.Repeat q ∷ rest) = not (brings q) && free rest
free (item.Scope n ∷ rest) = free rest

abbrev pub none_post : List ℕ → Bool
none_post [] = true
none_post (p ∷ ps) = not (is_post p) && none_post ps

-- productions that begin with a token
abbrev pub beginning : List ℕ
beginning = 46 ∷ 47 ∷ 116 ∷ 218 ∷ 219 ∷ 236 ∷ 237 ∷ 239 ∷ 240 ∷ 241 ∷ 242 ∷ 243 ∷ 244 ∷ 245 ∷ 246 ∷ 247 ∷ 248 ∷ 249 ∷ 250 ∷ 251 ∷ 252 ∷ 253 ∷ 254 ∷ 255 ∷ 256 ∷ 257 ∷ []

abbrev pub opens : ℕ → Bool
opens q = not (makes_node q) && contains beginning q

abbrev pub begins : List Item → Bool
begins (item.Token k ∷ rest) = true
begins (item.Use q ∷ rest) = opens q
begins (item.Choice a b ∷ rest) = opens a && opens b
begins (item.Repeat q ∷ rest) = false
begins (item.Scope n ∷ rest) = false
begins [] = false

-- what the rest of a declaration is made of: leaves, names of the assembler, declarators and initialisers
abbrev pub rest_rows : List ℕ
rest_rows = 2 ∷ 48 ∷ 54 ∷ 55 ∷ []

abbrev pub is_rest_node : ℕ → Bool
is_rest_node q = contains (5 ∷ 19 ∷ 25 ∷ []) q

abbrev pub rest_part : ℕ → Bool
rest_part q = if makes_node q then is_rest_node q else contains rest_rows q

abbrev pub in_rest : List Item → Bool
in_rest [] = true
in_rest (item.Token k ∷ rest) = in_rest rest
in_rest (item.Use q ∷ rest) = rest_part q && in_rest rest
in_rest (item.Choice a b ∷ rest) = (rest_part a && rest_part b) && in_rest rest
in_rest (item.Repeat q ∷ rest) = rest_part q && in_rest rest
in_rest (item.Scope n ∷ rest) = in_rest rest

abbrev pub all_rest : List ℕ → Bool
all_rest [] = true
all_rest (p ∷ ps) = (nat_eq p leaf || is_rest_node p) && all_rest ps

-- how many lists of items a production brings at most
abbrev pub list_rows : List ℕ
list_rows = 129 ∷ 216 ∷ 217 ∷ 230 ∷ 231 ∷ 235 ∷ []

abbrev pub is_list : ℕ → Bool
is_list q = nat_eq q 26

abbrev pub few : ℕ → ℕ
few q = if makes_node q then (if is_list q then 1 else 0) else (if contains list_rows q then 1 else 0)

abbrev pub few_in : List Item → ℕ
few_in [] = 0
few_in (item.Token k ∷ rest) = few_in rest
few_in (item.Use q ∷ rest) = few q + few_in rest
few_in (item.Choice a b ∷ rest) = (few a + few b) + few_in rest
few_in (item.Repeat q ∷ rest) = few_in rest
few_in (item.Scope n ∷ rest) = few_in rest

-- what is repeated brings none
abbrev pub repeats_none : List Item → Bool
repeats_none [] = true
repeats_none (item.Token k ∷ rest) = repeats_none rest
repeats_none (item.Use q ∷ rest) = repeats_none rest
repeats_none (item.Choice a b ∷ rest) = repeats_none rest
repeats_none (item.Repeat q ∷ rest) = nat_le (few q) 0 && repeats_none rest
repeats_none (item.Scope n ∷ rest) = repeats_none rest

abbrev pub lists_in : List ℕ → ℕ
lists_in [] = 0
lists_in (p ∷ ps) = (if is_list p then 1 else 0) + lists_in ps

abbrev pub most_lists : ℕ → ℕ
most_lists p = if makes_node p || contains list_rows p then 1 else 0

-- what is asked of the row of a production
abbrev pub fine : ℕ → List Item → Bool
fine p items = test 0 items && ((contains bringing p || free items) && (repeats_none items && nat_le (few_in items) (most_lists p)))

abbrev all_fine : ℕ → List (List Item) → Bool
all_fine p [] = true
all_fine p (items ∷ rest) = fine p items && all_fine (suc p) rest

rows_fine : all_fine 0 table ≡ true
unfolding table makes_node
rows_fine = refl

pub left : (a b : Bool) → (a && b) ≡ true → a ≡ true
left true b e = refl
left false b e = cc

pub right : (a b : Bool) → (a && b) ≡ true → b ≡ true
right true b e = e
right false b e = cc

pub both : (a b : Bool) → a ≡ true → b ≡ true → (a && b) ≡ true
both true b h k = k
both false b h k = cc

fine_from : (p : ℕ) (rows : List (List Item)) (k : ℕ) (items : List Item) → all_fine p rows ≡ true → slice_get rows k ≡ Some items → fine (p + k) items ≡ true
fine_from p [] k items h e = cc
fine_from p (x ∷ rows) zero items h e =
    let same : x ≡ items = cc in
    let zero_more : p ≡ p + 0 = omega arith in
    subst (λ (q : ℕ). fine q items ≡ true) zero_more (subst (λ (l : List Item). fine p l ≡ true) same (left (fine p x) (all_fine (suc p) rows) h))
fine_from p (x ∷ rows) (suc k) items h e =
    let more : suc p + k ≡ p + suc k = omega arith in
    subst (λ (q : ℕ). fine q items ≡ true) more (fine_from (suc p) rows k items (right (fine p x) (all_fine (suc p) rows) h) e)

-- a row with items is one of the table's
items_there : (rows : List (List Item)) (p : ℕ) (i : Item) (items : List Item) → slice_index_or rows p [] ≡ i ∷ items → slice_get rows p ≡ Some (i ∷ items)
items_there [] p i items e = cc
items_there (x ∷ rows) zero i items e = ap (λ (l : List Item). Some l) e
items_there (x ∷ rows) (suc p) i items e = items_there rows p i items e

le_is : (a b : ℕ) → nat_le a b ≡ true → a ≤ b
le_is a b h = grind (arith, h)

row_fine : (p : ℕ) (i : Item) (items : List Item) → row p ≡ i ∷ items → fine p (i ∷ items) ≡ true
unfolding row
row_fine p i items e =
    let none : 0 + p ≡ p = omega arith in
    subst (λ (q : ℕ). fine q (i ∷ items) ≡ true) none (fine_from 0 table p (i ∷ items) rows_fine (items_there table p i items e))

pub row_tests : (p : ℕ) → test 0 (row p) ≡ true
row_tests p = by (row p) refl
  where
    by : (l : List Item) → row p ≡ l → test 0 l ≡ true
    by [] e = refl
    by (i ∷ items) e = left (test 0 (i ∷ items)) _ (row_fine p i items e)

-- the row of a production that brings nothing of the kind
pub row_free : (p : ℕ) → contains bringing p ≡ false → free (row p) ≡ true
row_free p not_among = by (row p) refl
  where
    or_false : (a b : Bool) → a ≡ false → (a || b) ≡ true → b ≡ true
    or_false true b e h = cc
    or_false false b e h = h

    by : (l : List Item) → row p ≡ l → free l ≡ true
    by [] e = refl
    by (i ∷ items) e = or_false (contains bringing p) (free (i ∷ items)) not_among (left (contains bringing p || free (i ∷ items)) _ (right (test 0 (i ∷ items)) _ (row_fine p i items e)))

pub row_few : (p : ℕ) → (repeats_none (row p) ≡ true) × (few_in (row p) ≤ most_lists p)
row_few p = by (row p) refl
  where
    by : (l : List Item) → row p ≡ l → (repeats_none l ≡ true) × (few_in l ≤ most_lists p)
    by [] e = (refl, omega arith)
    by (i ∷ items) e =
        let all = right (contains bringing p || free (i ∷ items)) (repeats_none (i ∷ items) && nat_le (few_in (i ∷ items)) (most_lists p)) (right (test 0 (i ∷ items)) _ (row_fine p i items e)) in
        let less = right (repeats_none (i ∷ items)) (nat_le (few_in (i ∷ items)) (most_lists p)) all in
        (left (repeats_none (i ∷ items)) (nat_le (few_in (i ∷ items)) (most_lists p)) all, le_is (few_in (i ∷ items)) (most_lists p) less)

-- the row of one without a node brings as many as it does
pub few_row : (q : ℕ) → makes_node q ≡ false → few_in (row q) ≤ few q
few_row q none = let h = (row_few q).1 in by (makes_node q) none (contains list_rows q) h
  where
    by : (m : Bool) → m ≡ false → (c : Bool) → few_in (row q) ≤ (if m || c then 1 else 0) → few_in (row q) ≤ (if m then (if is_list q then 1 else 0) else (if c then 1 else 0))
    by true e c h = cc
    by false e true h = h
    by false e false h = h

pub few_node : (q : ℕ) → makes_node q ≡ true → few_in (row q) ≤ 1
few_node q node = let h = (row_few q).1 in by (makes_node q) node (contains list_rows q) h
  where
    by : (m : Bool) → m ≡ true → (c : Bool) → few_in (row q) ≤ (if m || c then 1 else 0) → few_in (row q) ≤ 1
    by true e c h = h
    by false e c h = cc

abbrev all_in_rest : List ℕ → Bool
all_in_rest [] = true
all_in_rest (q ∷ rest) = in_rest (row q) && all_in_rest rest

rest_at : (list : List ℕ) (q : ℕ) → all_in_rest list ≡ true → contains list q ≡ true → in_rest (row q) ≡ true
rest_at [] q h c = cc
rest_at (x ∷ list) q h c = by (nat_eq x q) refl c (λ d. rest_at list q (right (in_rest (row x)) (all_in_rest list) h) d)
  where
    by : (b : Bool) → nat_eq x q ≡ b → (b || contains list q) ≡ true → (contains list q ≡ true → in_rest (row q) ≡ true) → in_rest (row q) ≡ true
    by true e c k = subst (λ (y : ℕ). in_rest (row y) ≡ true) (eqb-true x q e) (left (in_rest (row x)) (all_in_rest list) h)
    by false e c k = k c

rows_rest : all_in_rest rest_rows ≡ true
unfolding table row makes_node
rows_rest = refl

pub row_rest : (q : ℕ) → contains rest_rows q ≡ true → in_rest (row q) ≡ true
row_rest q c = rest_at rest_rows q rows_rest c

pub rest_both : (ps qs : List ℕ) → all_rest ps ≡ true → all_rest qs ≡ true → all_rest (ps ++ qs) ≡ true
rest_both [] qs h k = k
rest_both (p ∷ ps) qs h k = both (nat_eq p leaf || is_rest_node p) (all_rest (ps ++ qs)) (left (nat_eq p leaf || is_rest_node p) (all_rest ps) h) (rest_both ps qs (right (nat_eq p leaf || is_rest_node p) (all_rest ps) h) k)

pub lists_both : (ps qs : List ℕ) → lists_in (ps ++ qs) ≤ lists_in ps + lists_in qs
lists_both [] qs = omega arith
lists_both (p ∷ ps) qs = let h = lists_both ps qs in omega (arith, h)

abbrev all_begin : List ℕ → Bool
all_begin [] = true
all_begin (q ∷ rest) = begins (row q) && all_begin rest

begin_in : (list : List ℕ) (q : ℕ) → all_begin list ≡ true → contains list q ≡ true → begins (row q) ≡ true
begin_in [] q h c = cc
begin_in (x ∷ list) q h c = by (nat_eq x q) refl c (λ d. begin_in list q (right (begins (row x)) (all_begin list) h) d)
  where
    by : (b : Bool) → nat_eq x q ≡ b → (b || contains list q) ≡ true → (contains list q ≡ true → begins (row q) ≡ true) → begins (row q) ≡ true
    by true e c k = subst (λ (y : ℕ). begins (row y) ≡ true) (eqb-true x q e) (left (begins (row x)) (all_begin list) h)
    by false e c k = k c

rows_begin : all_begin beginning ≡ true
unfolding table row makes_node
rows_begin = refl

pub row_begins : (q : ℕ) → contains beginning q ≡ true → begins (row q) ≡ true
row_begins q c = begin_in beginning q rows_begin c

-- ---- more before, and lists one behind the other
le_more : (z y : ℕ) → z ≤ y → nat_le 2 z ≡ true → nat_le 2 y ≡ true
le_more z y le h = grind (arith, le, h)

or_more : (a b c : Bool) → (b ≡ true → c ≡ true) → (a || b) ≡ true → (a || c) ≡ true
or_more true b c k h = refl
or_more false b c k h = k h

pub ok_more : (z y : ℕ) (ps : List ℕ) → z ≤ y → ok z ps ≡ true → ok y ps ≡ true
ok_more z y [] le h = refl
ok_more z y (p ∷ ps) le h =
    both (not (is_post p) || nat_le 2 y) (ok (y + weight p) ps) (or_more (not (is_post p)) (nat_le 2 z) (nat_le 2 y) (le_more z y le) (left (not (is_post p) || nat_le 2 z) (ok (z + weight p) ps) h))
    (ok_more (z + weight p) (y + weight p) ps (omega (arith, le)) (right (not (is_post p) || nat_le 2 z) (ok (z + weight p) ps) h))

pub ok_both : (z : ℕ) (ps qs : List ℕ) → ok z ps ≡ true → ok (z + all_weights ps) qs ≡ true → ok z (ps ++ qs) ≡ true
ok_both z [] qs h k = let same : z + 0 ≡ z = omega arith in subst (λ (y : ℕ). ok y qs ≡ true) same k
ok_both z (p ∷ ps) qs h k =
    let same : z + (weight p + all_weights ps) ≡ (z + weight p) + all_weights ps = omega arith in
    both (not (is_post p) || nat_le 2 z) (ok (z + weight p) (ps ++ qs)) (left (not (is_post p) || nat_le 2 z) (ok (z + weight p) ps) h)
    (ok_both (z + weight p) ps qs (right (not (is_post p) || nat_le 2 z) (ok (z + weight p) ps) h) (subst (λ (y : ℕ). ok y qs ≡ true) same k))

pub none_both : (ps qs : List ℕ) → none_post ps ≡ true → none_post qs ≡ true → none_post (ps ++ qs) ≡ true
none_both [] qs h k = k
none_both (p ∷ ps) qs h k = both (not (is_post p)) (none_post (ps ++ qs)) (left (not (is_post p)) (none_post ps) h) (none_both ps qs (right (not (is_post p)) (none_post ps) h) k)

pub test_more : (z y : ℕ) (items : List Item) → z ≤ y → test z items ≡ true → test y items ≡ true
test_more z y [] le h = refl
test_more z y (item.Token k ∷ rest) le h = test_more (z + 1) (y + 1) rest (omega (arith, le)) h
test_more z y (item.Use q ∷ rest) le h =
    both (not (is_post q)) (test (if makes_node q then y + 2 else y) rest) (left (not (is_post q)) (test (if makes_node q then z + 2 else z) rest) h)
    (by (makes_node q) (right (not (is_post q)) (test (if makes_node q then z + 2 else z) rest) h) (λ g. test_more (z + 2) (y + 2) rest (omega (arith, le)) g) (λ g. test_more z y rest le g))
  where
    by : (b : Bool) → test (if b then z + 2 else z) rest ≡ true → (test (z + 2) rest ≡ true → test (y + 2) rest ≡ true) → (test z rest ≡ true → test y rest ≡ true) → test (if b then y + 2 else y) rest ≡ true
    by true g f k = f g
    by false g f k = k g
test_more z y (item.Choice a b ∷ rest) le h = both (not (is_post a) && not (is_post b)) (test y rest) (left (not (is_post a) && not (is_post b)) (test z rest) h) (test_more z y rest le (right (not (is_post a) && not (is_post b)) (test z rest) h))
test_more z y (item.Repeat q ∷ rest) le h =
    both (not (is_post q) || nat_le 2 y) (test y rest) (or_more (not (is_post q)) (nat_le 2 z) (nat_le 2 y) (le_more z y le) (left (not (is_post q) || nat_le 2 z) (test z rest) h)) (test_more z y rest le (right (not (is_post q) || nat_le 2 z) (test z rest) h))
test_more z y (item.Scope n ∷ rest) le h = test_more z y rest le h
