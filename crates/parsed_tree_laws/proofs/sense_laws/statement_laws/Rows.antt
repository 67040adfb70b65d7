-- Which parts the rows of blocks and statements bring.
use Rattle.std.proofs.Common.{◌≡◌, ℕ, zero, suc, ◌+◌, Bool, true, false, ◌&&◌, ◌||◌, cond, List, [], ◌∷◌, Some, None, slice_get, drop, refl, ap, ◌∙◌, subst, arith, ◌⊎◌, inl, inr}
use Rattle.std.specs.Prelude.{nat_eq}
use Rattle.std.proofs.lemmas.Bool.{eqb-true}
use Rattle.c_grammar.specs.declared.rows.Item.{Item}
use Rattle.c_grammar.specs.declared.rows.Item.TheVariants as item
use Rattle.c_grammar.specs.Notes.{Noted}
use Rattle.c_grammar.specs.Table.{table, row, item_of}
use Rattle.c_grammar.specs.Fits.{fits, chosen}
use Rattle.c_grammar.specs.First.{can_be_empty}
use Rattle.c_grammar.specs.Terminals.{contains}
use Rattle.c_grammar.specs.Tree.{makes_node}
use Rattle.c_grammar.specs.Reads.{leaf}

pub left : (a b : Bool) → (a && b) ≡ true → a ≡ true
left true b e = refl
left false b e = cc

pub right : (a b : Bool) → (a && b) ≡ true → b ≡ true
right true b e = e
right false b e = cc

-- a production brings one child, its own node, or the children of its row
abbrev pub brings : List ℕ → List ℕ → ℕ → Bool
brings rows children q = cond (makes_node q) (contains children q) (contains rows q)

-- an item brings children of these productions alone
abbrev pub item_brings : List ℕ → List ℕ → Item → Bool
item_brings rows children (item.Token k) = contains children leaf
item_brings rows children (item.Use q) = brings rows children q
item_brings rows children (item.Choice a b) = brings rows children a && brings rows children b
item_brings rows children (item.Repeat q) = brings rows children q
item_brings rows children (item.Scope n) = true

abbrev pub all_bring : List ℕ → List ℕ → List Item → Bool
all_bring rows children [] = true
all_bring rows children (i ∷ items) = item_brings rows children i && all_bring rows children items

abbrev pub rows_bring : List ℕ → List ℕ → List ℕ → Bool
rows_bring rows children [] = true
rows_bring rows children (p ∷ more) = all_bring rows children (row p) && rows_bring rows children more

-- the first child that an item brings is of these productions: a token is a child, and so is a node; what makes no node may bring none
abbrev pub first_brings : List ℕ → List ℕ → List Item → Bool
first_brings rows children [] = true
first_brings rows children (item.Token k ∷ items) = contains children leaf
first_brings rows children (item.Use q ∷ items) = brings rows children q && (makes_node q || first_brings rows children items)
first_brings rows children (item.Choice a b ∷ items) = (brings rows children a && brings rows children b) && ((makes_node a && makes_node b) || first_brings rows children items)
first_brings rows children (item.Repeat q ∷ items) = brings rows children q && first_brings rows children items
first_brings rows children (item.Scope n ∷ items) = first_brings rows children items

abbrev pub rows_begin : List ℕ → List ℕ → List ℕ → Bool
rows_begin rows children [] = true
rows_begin rows children (p ∷ more) = first_brings rows children (row p) && rows_begin rows children more

-- a block's children: tokens, declarations and statements; its items and the declarations in them make no node
abbrev pub block_rows : List ℕ
block_rows = 29 ∷ 136 ∷ 137 ∷ []

abbrev pub block_children : List ℕ
block_children = leaf ∷ 3 ∷ 30 ∷ []

-- a statement's first child: a token, an expression or a block
abbrev pub statement_rows : List ℕ
statement_rows = 30 ∷ 48 ∷ 138 ∷ 139 ∷ 141 ∷ 143 ∷ 145 ∷ 146 ∷ 147 ∷ 148 ∷ 149 ∷ 150 ∷ 151 ∷ 152 ∷ 153 ∷ 154 ∷ 155 ∷ 156 ∷ 157 ∷ 158 ∷ 159 ∷ 160 ∷ 161 ∷ 162 ∷ 163 ∷ 164 ∷ 165 ∷ []

abbrev pub statement_children : List ℕ
statement_children = leaf ∷ 31 ∷ 29 ∷ []

blocks_bring : rows_bring block_rows block_children block_rows ≡ true
unfolding table row makes_node
blocks_bring = refl

statements_begin : rows_begin statement_rows statement_children statement_rows ≡ true
unfolding table row makes_node
statements_begin = refl

-- the row of one of some productions
listed : (P : ℕ → Bool) (b : Bool) (p x : ℕ) → (nat_eq x p) ≡ b → P x ≡ true → (b ≡ false → P p ≡ true) → P p ≡ true
listed P true p x e here later = subst (λ (y : ℕ). P y ≡ true) (eqb-true x p e) here
listed P false p x e here later = later refl

or_false : (b c : Bool) → b ≡ false → (b || c) ≡ true → c ≡ true
or_false true c e h = cc
or_false false c e h = h

row_brings : (rows children : List ℕ) (list : List ℕ) (p : ℕ) → rows_bring rows children list ≡ true → contains list p ≡ true → all_bring rows children (row p) ≡ true
row_brings rows children [] p h c = cc
row_brings rows children (x ∷ list) p h c =
    listed (λ (y : ℕ). all_bring rows children (row y)) (nat_eq x p) p x refl (left (all_bring rows children (row x)) (rows_bring rows children list) h)
    (λ never. row_brings rows children list p (right (all_bring rows children (row x)) (rows_bring rows children list) h) (or_false (nat_eq x p) (contains list p) never c))

row_begins : (rows children : List ℕ) (list : List ℕ) (p : ℕ) → rows_begin rows children list ≡ true → contains list p ≡ true → first_brings rows children (row p) ≡ true
row_begins rows children [] p h c = cc
row_begins rows children (x ∷ list) p h c =
    listed (λ (y : ℕ). first_brings rows children (row y)) (nat_eq x p) p x refl (left (first_brings rows children (row x)) (rows_begin rows children list) h)
    (λ never. row_begins rows children list p (right (first_brings rows children (row x)) (rows_begin rows children list) h) (or_false (nat_eq x p) (contains list p) never c))

pub block_row_brings : (p : ℕ) → contains block_rows p ≡ true → all_bring block_rows block_children (row p) ≡ true
block_row_brings p c = row_brings block_rows block_children block_rows p blocks_bring c

pub statement_row_begins : (p : ℕ) → contains statement_rows p ≡ true → first_brings statement_rows statement_children (row p) ≡ true
statement_row_begins p c = row_begins statement_rows statement_children statement_rows p statements_begin c

-- the item at a place of a row
among : (rows children : List ℕ) (items : List Item) (at : ℕ) (i : Item) → all_bring rows children items ≡ true → slice_get items at ≡ Some i → item_brings rows children i ≡ true
among rows children [] at i h e = cc
among rows children (x ∷ items) zero i h e = subst (λ (y : Item). item_brings rows children y ≡ true) (let same : x ≡ i = cc in same) (left (item_brings rows children x) (all_bring rows children items) h)
among rows children (x ∷ items) (suc at) i h e = among rows children items at i (right (item_brings rows children x) (all_bring rows children items) h) e

pub item_in : (p at : ℕ) (i : Item) → contains block_rows p ≡ true → item_of p at ≡ Some i → item_brings block_rows block_children i ≡ true
unfolding item_of
item_in p at i c e = among block_rows block_children (row p) at i (block_row_brings p c) e

cut_here : (items : List Item) (at : ℕ) (i : Item) → slice_get items at ≡ Some i → drop at items ≡ i ∷ drop (suc at) items
cut_here [] at i e = cc
cut_here (x ∷ items) zero i e = let same : x ≡ i = cc in ap (λ (y : Item). y ∷ items) same
cut_here (x ∷ items) (suc at) i e = cut_here items at i e

-- what is left of a row from an item on
pub from_item : (p at : ℕ) (i : Item) → item_of p at ≡ Some i → drop at (row p) ≡ i ∷ drop (at + 1) (row p)
unfolding item_of
from_item p at i e = cut_here (row p) at i e ∙ ap (λ (k : ℕ). i ∷ drop k (row p)) (let plus : suc at ≡ at + 1 = omega arith in plus)

-- the alternative that is chosen is one of the two
picked : (x y : Bool) (a b q : ℕ) → cond x (Some a) (cond y (Some b) None) ≡ Some q → (a ≡ q) ⊎ (b ≡ q)
picked true y a b q e = inl cc
picked false true a b q e = inr cc
picked false false a b q e = absurd cc

pub one_of : (a b first second : ℕ) (notes : Noted) (q : ℕ) → chosen a b first second notes ≡ Some q → (a ≡ q) ⊎ (b ≡ q)
unfolding chosen
one_of a b first second notes q e = picked (fits a first second notes) (fits b first second notes || can_be_empty b) a b q e
