-- What the rows of blocks and of definitions bring.
use Rattle.std.proofs.Common.{◌≡◌, ℕ, zero, suc, ◌+◌, Bool, true, false, ◌&&◌, ◌||◌, cond, not, List, [], ◌∷◌, Some, None, slice_get, refl, sym, ap, ◌∙◌, subst, arith, ◌⊎◌, inl, inr}
use Rattle.std.specs.Prelude.{nat_eq, slice_index_or}
use Rattle.std.proofs.lemmas.Bool.{eqb-true}
use Rattle.c_grammar.specs.declared.rows.Item.{Item}
use Rattle.c_grammar.specs.declared.rows.Item.TheVariants as item
use Rattle.c_grammar.specs.Notes.{Noted}
use Rattle.c_grammar.specs.Table.{table, row, item_of}
use Rattle.c_grammar.specs.Fits.{fits, chosen}
use Rattle.c_grammar.specs.First.{can_be_empty}
use Rattle.c_grammar.specs.Terminals.{contains}
use Rattle.c_grammar.specs.Tree.{makes_node}

-- how a production brings parts of blocks: never outside of a definition; only with a block beside them; or freely
pub data Mode : Type 0 where
  Calm : Mode
  Head : Mode
  Free : Mode

-- blocks, statements, declarations within blocks, and the parts of their rows
abbrev pub free_rows : List ℕ
free_rows = 3 ∷ 29 ∷ 30 ∷ 136 ∷ 137 ∷ 138 ∷ 139 ∷ 141 ∷ 142 ∷ 143 ∷ 144 ∷ 145 ∷ 146 ∷ 147 ∷ 148 ∷ 158 ∷ 159 ∷ 160 ∷ 161 ∷ 162 ∷ 163 ∷ 164 ∷ 165 ∷ []

-- what stands behind the specifiers of an external declaration, and the body
abbrev pub head_rows : List ℕ
head_rows = 52 ∷ 53 ∷ []

abbrev pub is_head : ℕ → Bool
is_head q = nat_eq q 1 || contains head_rows q

abbrev pub mode_if : Bool → Bool → Mode
mode_if free head = cond free Free (cond head Head Calm)

pub mode_of : ℕ → Mode
mode_of p = mode_if (contains free_rows p) (is_head p)

pub mode_is : (p : ℕ) → mode_of p ≡ mode_if (contains free_rows p) (is_head p)
unfolding mode_of
mode_is p = refl

-- what a row of a mode may use
abbrev pub may_use : Mode → ℕ → Bool
may_use Calm q = not (contains free_rows q || contains head_rows q)
may_use Head q = not (contains free_rows q) || nat_eq q 29
may_use Free q = true

abbrev pub item_fits : Mode → Item → Bool
item_fits m (item.Token k) = true
item_fits m (item.Use q) = may_use m q
item_fits m (item.Choice a b) = may_use m a && may_use m b
item_fits m (item.Repeat q) = may_use m q
item_fits m (item.Scope n) = true

abbrev all_fit : Mode → List Item → Bool
all_fit m [] = true
all_fit m (i ∷ items) = item_fits m i && all_fit m items

abbrev rows_fit : ℕ → List (List Item) → Bool
rows_fit p [] = true
rows_fit p (items ∷ rows) = all_fit (mode_if (contains free_rows p) (is_head p)) items && rows_fit (suc p) rows

table_fits : rows_fit 0 table ≡ true
unfolding table
table_fits = refl

left : (a b : Bool) → (a && b) ≡ true → a ≡ true
left true b e = refl
left false b e = cc

right : (a b : Bool) → (a && b) ≡ true → b ≡ true
right true b e = e
right false b e = cc

row_fits : (rows : List (List Item)) (k p : ℕ) → rows_fit k rows ≡ true → all_fit (mode_of (k + p)) (slice_index_or rows p []) ≡ true
unfolding mode_of
row_fits [] k p h = refl
row_fits (items ∷ rows) k zero h =
    let e : k ≡ k + 0 = omega arith in
    subst (λ (x : ℕ). all_fit (mode_if (contains free_rows x) (is_head x)) items ≡ true) e (left (all_fit (mode_if (contains free_rows k) (is_head k)) items) (rows_fit (suc k) rows) h)
row_fits (items ∷ rows) k (suc p) h =
    let e : suc k + p ≡ k + suc p = omega arith in
    subst (λ (x : ℕ). all_fit (mode_if (contains free_rows x) (is_head x)) (slice_index_or rows p []) ≡ true) e (row_fits rows (suc k) p (right (all_fit (mode_if (contains free_rows k) (is_head k)) items) (rows_fit (suc k) rows) h))

among : (m : Mode) (items : List Item) (at : ℕ) (i : Item) → all_fit m items ≡ true → slice_get items at ≡ Some i → item_fits m i ≡ true
among m [] at i h e = cc
among m (x ∷ items) zero i h e = subst (λ (y : Item). item_fits m y ≡ true) (let same : x ≡ i = cc in same) (left (item_fits m x) (all_fit m items) h)
among m (x ∷ items) (suc at) i h e = among m items at i (right (item_fits m x) (all_fit m items) h) e

pub item_fit : (p at : ℕ) (i : Item) → item_of p at ≡ Some i → item_fits (mode_of p) i ≡ true
unfolding item_of row
item_fit p at i e = among (mode_of p) (slice_index_or table p []) at i (let s : 0 + p ≡ p = omega arith in subst (λ (x : ℕ). all_fit (mode_of x) (slice_index_or table p []) ≡ true) s (row_fits table 0 p table_fits)) e

-- ---- productions that make a node

pub data Made : ℕ → Mode → Type 0 where
  free : {q : ℕ} {m : Mode} → mode_of q ≡ Free → (m ≡ Free) ⊎ ((m ≡ Head) × (q ≡ 29)) → Made q m
  external : {q : ℕ} {m : Mode} → mode_of q ≡ Head → q ≡ 1 → Made q m
  calm : {q : ℕ} {m : Mode} → mode_of q ≡ Calm → contains free_rows q ≡ false → Made q m

no_head_made : (q : ℕ) → contains head_rows q ≡ true → makes_node q ≡ true → ⊥
unfolding makes_node
no_head_made q h m = by (nat_eq 52 q) (nat_eq 53 q) refl refl h
  where
    by : (a b : Bool) → nat_eq 52 q ≡ a → nat_eq 53 q ≡ b → (a || (b || false)) ≡ true → ⊥
    by true b ea eb h = let never : makes_node 52 ≡ true = subst (λ (x : ℕ). makes_node x ≡ true) (sym (eqb-true 52 q ea)) m in cc
    by false true ea eb h = let never : makes_node 53 ≡ true = subst (λ (x : ℕ). makes_node x ≡ true) (sym (eqb-true 53 q eb)) m in cc
    by false false ea eb h = cc

free_used : (m : Mode) (q : ℕ) → may_use m q ≡ true → contains free_rows q ≡ true → (m ≡ Free) ⊎ ((m ≡ Head) × (q ≡ 29))
free_used Calm q h f = by (contains free_rows q) (contains head_rows q) f h
  where
    by : (a b : Bool) → a ≡ true → not (a || b) ≡ true → (Calm ≡ Free) ⊎ ((Calm ≡ Head) × (q ≡ 29))
    by true b e g = cc
    by false b e g = cc
free_used Head q h f = inr (refl, eqb-true q 29 (by (contains free_rows q) (nat_eq q 29) f h))
  where
    by : (a b : Bool) → a ≡ true → (not a || b) ≡ true → b ≡ true
    by true b e g = g
    by false b e g = cc
free_used Free q h f = inl refl

pub made_by : (m : Mode) (q : ℕ) → may_use m q ≡ true → makes_node q ≡ true → Made q m
made_by m q h makes = by (contains free_rows q) (nat_eq q 1) (contains head_rows q) refl refl refl
  where
    mode : (a b c : Bool) → contains free_rows q ≡ a → nat_eq q 1 ≡ b → contains head_rows q ≡ c → mode_of q ≡ mode_if a (b || c)
    mode a b c ea eb ec = mode_is q ∙ (ap (λ (x : Bool). mode_if x (nat_eq q 1 || contains head_rows q)) ea ∙ (ap (λ (x : Bool). mode_if a (x || contains head_rows q)) eb ∙ ap (λ (x : Bool). mode_if a (b || x)) ec))

    by : (a b c : Bool) → contains free_rows q ≡ a → nat_eq q 1 ≡ b → contains head_rows q ≡ c → Made q m
    by true b c ea eb ec = free (mode true b c ea eb ec) (free_used m q h ea)
    by false true c ea eb ec = external (mode false true c ea eb ec) (eqb-true q 1 eb)
    by false false true ea eb ec = absurd (no_head_made q ec makes)
    by false false false ea eb ec = calm (mode false false false ea eb ec) ea

-- ---- and those that make none

pub data Passes : Mode → Mode → Type 0 where
  same : {m : Mode} → Passes m m
  quiet : {m : Mode} → Passes Calm m
  looser : Passes Head Free

block_made : makes_node 29 ≡ false → ⊥
unfolding makes_node
block_made e = cc

external_made : makes_node 1 ≡ false → ⊥
unfolding makes_node
external_made e = cc

pub passed_by : (m : Mode) (q : ℕ) → may_use m q ≡ true → makes_node q ≡ false → Passes (mode_of q) m
passed_by m q h none = subst (λ (x : Mode). Passes x m) (sym (mode_is q)) (by m h)
  where
    no_block : nat_eq q 29 ≡ true → ⊥
    no_block e = block_made (subst (λ (x : ℕ). makes_node x ≡ false) (eqb-true q 29 e) none)

    no_external : nat_eq q 1 ≡ true → ⊥
    no_external e = external_made (subst (λ (x : ℕ). makes_node x ≡ false) (eqb-true q 1 e) none)

    calm_case : (a b c : Bool) → nat_eq q 1 ≡ b → not (a || c) ≡ true → Passes (mode_if a (b || c)) Calm
    calm_case true b c e h = cc
    calm_case false b true e h = cc
    calm_case false true false e h = absurd (no_external e)
    calm_case false false false e h = same

    head_case : (a b d : Bool) → nat_eq q 29 ≡ d → (not a || d) ≡ true → Passes (mode_if a b) Head
    head_case true b true e h = absurd (no_block e)
    head_case true b false e h = cc
    head_case false true d e h = same
    head_case false false d e h = quiet

    free_case : (a b : Bool) → Passes (mode_if a b) Free
    free_case true b = same
    free_case false true = looser
    free_case false false = quiet

    by : (m : Mode) → may_use m q ≡ true → Passes (mode_if (contains free_rows q) (is_head q)) m
    by Calm h = calm_case (contains free_rows q) (nat_eq q 1) (contains head_rows q) refl h
    by Head h = head_case (contains free_rows q) (is_head q) (nat_eq q 29) refl h
    by Free h = free_case (contains free_rows q) (is_head q)

-- ---- alternatives

picked : (x y : Bool) (a b q : ℕ) → cond x (Some a) (cond y (Some b) None) ≡ Some q → (a ≡ q) ⊎ (b ≡ q)
picked true y a b q e = inl cc
picked false true a b q e = inr cc
picked false false a b q e = absurd cc

pub one_of : (a b first second : ℕ) (notes : Noted) (q : ℕ) → chosen a b first second notes ≡ Some q → (a ≡ q) ⊎ (b ≡ q)
unfolding chosen
one_of a b first second notes q e = picked (fits a first second notes) (fits b first second notes || can_be_empty b) a b q e

pub either_used : (m : Mode) (a b q : ℕ) → (a ≡ q) ⊎ (b ≡ q) → (may_use m a && may_use m b) ≡ true → may_use m q ≡ true
either_used m a b q (inl e) h = subst (λ (x : ℕ). may_use m x ≡ true) e (left (may_use m a) (may_use m b) h)
either_used m a b q (inr e) h = subst (λ (x : ℕ). may_use m x ≡ true) e (right (may_use m a) (may_use m b) h)
