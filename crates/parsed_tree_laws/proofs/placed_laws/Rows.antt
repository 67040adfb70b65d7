-- Which parts the rows of declarators and of fields bring.
use Rattle.std.proofs.Common.{◌≡◌, ℕ, zero, suc, ◌+◌, nat_eq, nat_lt, not, Bool, true, false, ◌&&◌, ◌||◌, cond, List, [], ◌∷◌, Some, None, slice_get, drop, refl, ap, ◌∙◌, subst, arith, ◌⊎◌, inl, inr}
use Rattle.std.proofs.lemmas.Bool.{eqb-true}
use Rattle.c_lexer.specs.declared.TokenKind.{TokenKind}
use Rattle.c_lexer.specs.declared.TokenKind.TheVariants.{Punctuator}
use Rattle.c_grammar.specs.declared.rows.Item.{Item}
use Rattle.c_grammar.specs.declared.rows.Item.TheVariants as item
use Rattle.c_grammar.specs.Notes.{Noted}
use Rattle.c_grammar.specs.Table.{table, row, item_of}
use Rattle.c_grammar.specs.Fits.{fits, chosen}
use Rattle.c_grammar.specs.First.{can_be_empty}
use Rattle.c_grammar.specs.Terminals.{contains}
use Rattle.c_grammar.specs.Tree.{makes_node}

pub left : (a b : Bool) → (a && b) ≡ true → a ≡ true
left true b e = refl
left false b e = cc

pub right : (a b : Bool) → (a && b) ≡ true → b ≡ true
right true b e = e
right false b e = cc

pub either : (a b : Bool) → (a || b) ≡ true → (a ≡ true) ⊎ (b ≡ true)
either true b e = inl refl
either false b e = inr e

-- a production brings one part, its own node, or the parts of its row: where they all are of a kind
module _ (token_brings : TokenKind → Bool) (node_brings : ℕ → Bool) (rows : List ℕ) where
  abbrev pub brings : ℕ → Bool
  brings q = cond (makes_node q) (node_brings q) (contains rows q)

  abbrev pub item_brings : Item → Bool
  item_brings (item.Token k) = token_brings k
  item_brings (item.Use q) = brings q
  item_brings (item.Choice a b) = brings a && brings b
  item_brings (item.Repeat q) = brings q
  item_brings (item.Scope n) = true

  abbrev pub all_bring : List Item → Bool
  all_bring [] = true
  all_bring (i ∷ items) = item_brings i && all_bring items

  abbrev pub rows_bring : List ℕ → Bool
  rows_bring [] = true
  rows_bring (p ∷ more) = all_bring (row p) && rows_bring more

abbrev pub declarators : List ℕ
declarators = 19 ∷ 20 ∷ 21 ∷ []

-- the parts of a declarator that are neither a declarator nor the leaf of an identifier: leaves of signs, qualifiers and suffixes
abbrev pub quiet_token : TokenKind → Bool
quiet_token (Punctuator g) = nat_lt (45 + g) 93
quiet_token kind = false

abbrev pub quiet_node : ℕ → Bool
quiet_node q = contains (9 ∷ 22 ∷ []) q

abbrev pub quiet_rows : List ℕ
quiet_rows = 48 ∷ 115 ∷ []

abbrev pub is_quiet : ℕ → Bool
is_quiet q = brings quiet_token quiet_node quiet_rows q

abbrev pub all_quiet : List Item → Bool
all_quiet items = all_bring quiet_token quiet_node quiet_rows items

-- a row that brings one such part at most
abbrev pub one_rows : List ℕ
one_rows = 48 ∷ 116 ∷ 117 ∷ 118 ∷ 119 ∷ 120 ∷ []

abbrev pub is_one : ℕ → Bool
is_one q = cond (makes_node q) true (contains one_rows q)

abbrev pub item_one : Item → Bool
item_one (item.Token k) = true
item_one (item.Use q) = is_one q
item_one (item.Choice a b) = is_one a && is_one b
item_one (item.Repeat q) = false
item_one (item.Scope n) = false

abbrev pub at_most : List Item → Bool
at_most [] = true
at_most (i ∷ items) = (item_brings quiet_token quiet_node quiet_rows i && at_most items) || (item_one i && all_quiet items)

abbrev rows_at_most : List ℕ → Bool
rows_at_most [] = true
rows_at_most (p ∷ more) = at_most (row p) && rows_at_most more

-- the parts of a field: no rest of a declaration
abbrev pub field_token : TokenKind → Bool
field_token kind = true

abbrev pub field_node : ℕ → Bool
field_node q = not (contains (2 ∷ []) q)

abbrev pub field_rows : List ℕ
field_rows = 48 ∷ 109 ∷ 110 ∷ []

quiet_rows_bring : rows_bring quiet_token quiet_node quiet_rows quiet_rows ≡ true
unfolding table row makes_node
quiet_rows_bring = refl

field_rows_bring : rows_bring field_token field_node field_rows field_rows ≡ true
unfolding table row makes_node
field_rows_bring = refl

pub field_row : all_bring field_token field_node field_rows (row 15) ≡ true
unfolding table row makes_node
field_row = refl

ones_at_most : rows_at_most one_rows ≡ true
unfolding table row makes_node
ones_at_most = refl

declarators_at_most : rows_at_most declarators ≡ true
unfolding table row makes_node
declarators_at_most = refl

-- the row of one of some productions
listed : (P : ℕ → Bool) (b : Bool) (p x : ℕ) → (nat_eq x p) ≡ b → P x ≡ true → (b ≡ false → P p ≡ true) → P p ≡ true
listed P true p x e here later = subst (λ (y : ℕ). P y ≡ true) (eqb-true x p e) here
listed P false p x e here later = later refl

or_false : (b c : Bool) → b ≡ false → (b || c) ≡ true → c ≡ true
or_false true c e h = cc
or_false false c e h = h

pub row_brings : (t : TokenKind → Bool) (n : ℕ → Bool) (rows list : List ℕ) (p : ℕ) → rows_bring t n rows list ≡ true → contains list p ≡ true → all_bring t n rows (row p) ≡ true
row_brings t n rows [] p h c = cc
row_brings t n rows (x ∷ list) p h c =
    listed (λ (y : ℕ). all_bring t n rows (row y)) (nat_eq x p) p x refl (left (all_bring t n rows (row x)) (rows_bring t n rows list) h)
    (λ never. row_brings t n rows list p (right (all_bring t n rows (row x)) (rows_bring t n rows list) h) (or_false (nat_eq x p) (contains list p) never c))

pub quiet_row : (p : ℕ) → contains quiet_rows p ≡ true → all_quiet (row p) ≡ true
quiet_row p c = row_brings quiet_token quiet_node quiet_rows quiet_rows p quiet_rows_bring c

pub part_row : (p : ℕ) → contains field_rows p ≡ true → all_bring field_token field_node field_rows (row p) ≡ true
part_row p c = row_brings field_token field_node field_rows field_rows p field_rows_bring c

row_at_most : (list : List ℕ) (p : ℕ) → rows_at_most list ≡ true → contains list p ≡ true → at_most (row p) ≡ true
row_at_most [] p h c = cc
row_at_most (x ∷ list) p h c =
    listed (λ (y : ℕ). at_most (row y)) (nat_eq x p) p x refl (left (at_most (row x)) (rows_at_most list) h)
    (λ never. row_at_most list p (right (at_most (row x)) (rows_at_most list) h) (or_false (nat_eq x p) (contains list p) never c))

pub one_row : (p : ℕ) → contains one_rows p ≡ true → at_most (row p) ≡ true
one_row p c = row_at_most one_rows p ones_at_most c

pub declarator_row : (p : ℕ) → contains declarators p ≡ true → at_most (row p) ≡ true
declarator_row p c = row_at_most declarators p declarators_at_most c

cut_here : (items : List Item) (at : ℕ) (i : Item) → slice_get items at ≡ Some i → drop at items ≡ i ∷ drop (suc at) items
cut_here [] at i e = cc
cut_here (x ∷ items) zero i e = let same : x ≡ i = cc in ap (λ (y : Item). y ∷ items) same
cut_here (x ∷ items) (suc at) i e = cut_here items at i e

-- what is left of a row from an item on
pub from_item : (p at : ℕ) (i : Item) → item_of p at ≡ Some i → drop at (row p) ≡ i ∷ drop (at + 1) (row p)
unfolding item_of
from_item p at i e = cut_here (row p) at i e ∙ ap (λ (k : ℕ). i ∷ drop k (row p)) (let plus : suc at ≡ at + 1 = omega arith in plus)

-- the alternative that is chosen is one of the two
picked : (x y : Bool) (a b q : ℕ) → cond x (Some a) (cond y (Some b) None) ≡ Some q → (a ≡ q) ⊎ (b ≡ q)
picked true y a b q e = inl cc
picked false true a b q e = inr cc
picked false false a b q e = absurd cc

pub one_chosen : (a b first second : ℕ) (notes : Noted) (q : ℕ) → chosen a b first second notes ≡ Some q → (a ≡ q) ⊎ (b ≡ q)
unfolding chosen
one_chosen a b first second notes q e = picked (fits a first second notes) (fits b first second notes || can_be_empty b) a b q e

pub chosen_holds : (P : ℕ → Bool) (a b q : ℕ) → (a ≡ q) ⊎ (b ≡ q) → (P a && P b) ≡ true → P q ≡ true
chosen_holds P a b q (inl e) h = subst (λ (x : ℕ). P x ≡ true) e (left (P a) (P b) h)
chosen_holds P a b q (inr e) h = subst (λ (x : ℕ). P x ≡ true) e (right (P a) (P b) h)
