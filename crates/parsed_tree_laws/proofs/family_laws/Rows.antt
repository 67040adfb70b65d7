-- What the rows of members and of structures bring.
use Rattle.std.proofs.Common.{◌≡◌, ◌≤◌, ℕ, zero, suc, Bool, true, false, ◌&&◌, ◌||◌, cond, not, List, [], ◌∷◌, Some, None, slice_get, refl, ap, ◌∙◌, Option, subst, arith, ◌⊎◌, inl, inr}
use Rattle.std.specs.Prelude.{nat_eq}
use Rattle.std.proofs.lemmas.Bool.{eqb-true}
use Rattle.c_lexer.specs.declared.TokenKind.TheVariants.{Identifier}
use Rattle.c_grammar.specs.declared.rows.Item.{Item}
use Rattle.c_grammar.specs.declared.rows.Item.TheVariants as item
use Rattle.c_grammar.specs.Notes.{Noted}
use Rattle.c_grammar.specs.Table.{table, row, item_of}
use Rattle.c_grammar.specs.Fits.{fits, chosen}
use Rattle.c_grammar.specs.First.{can_be_empty}
use Rattle.c_grammar.specs.Terminals.{contains, terminals}
use Rattle.c_grammar.specs.Tree.{makes_node}
use Rattle.c_grammar.specs.Reads.{leaf}

pub left : (a b : Bool) → (a && b) ≡ true → a ≡ true
left true b e = refl
left false b e = cc

pub right : (a b : Bool) → (a && b) ≡ true → b ≡ true
right true b e = e
right false b e = cc

-- a production brings one child, its own node, or the children of its row
abbrev pub brings : List ℕ → List ℕ → ℕ → Bool
brings rows children q = cond (makes_node q) (contains children q) (contains rows q)

-- an item brings children of these productions alone
abbrev pub item_brings : List ℕ → List ℕ → Item → Bool
item_brings rows children (item.Token k) = contains children leaf
item_brings rows children (item.Use q) = brings rows children q
item_brings rows children (item.Choice a b) = brings rows children a && brings rows children b
item_brings rows children (item.Repeat q) = brings rows children q
item_brings rows children (item.Scope n) = true

-- an item brings no leaf of the word `union`
abbrev pub behind_rows : List ℕ
behind_rows = 48 ∷ 104 ∷ []

abbrev pub passes : ℕ → Bool
passes q = cond (makes_node q) true (contains behind_rows q)

abbrev pub item_passes : ℕ → Item → Bool
item_passes p (item.Token k) = not (contains (terminals p k) 29)
item_passes p (item.Use q) = passes q
item_passes p (item.Choice a b) = passes a && passes b
item_passes p (item.Repeat q) = passes q
item_passes p (item.Scope n) = true

-- the first item of a specifier of a structure or union is a word
abbrev pub word_rows : List ℕ
word_rows = 102 ∷ 103 ∷ []

abbrev pub head_rows : List ℕ
head_rows = 12 ∷ word_rows

abbrev pub item_heads : Item → Bool
item_heads (item.Token k) = true
item_heads (item.Choice a b) = contains word_rows a && contains word_rows b
item_heads i = false

abbrev all_of : (Item → Bool) → List Item → Bool
all_of test [] = true
all_of test (i ∷ items) = test i && all_of test items

abbrev heads : ℕ → List Item → Bool
heads p [] = false
heads p (i ∷ items) = item_heads i && all_of (item_passes p) items

abbrev each : (ℕ → Bool) → List ℕ → Bool
each test [] = true
each test (p ∷ more) = test p && each test more

-- a list of members, and one declaration of members
abbrev pub list_rows : List ℕ
list_rows = 13 ∷ []

abbrev pub list_children : List ℕ
list_children = leaf ∷ 14 ∷ []

abbrev pub member_rows : List ℕ
member_rows = 14 ∷ 48 ∷ 49 ∷ 105 ∷ 106 ∷ 107 ∷ 108 ∷ []

abbrev pub member_children : List ℕ
member_children = leaf ∷ 4 ∷ 6 ∷ 15 ∷ []

lists_bring : each (λ p. all_of (item_brings list_rows list_children) (row p)) list_rows ≡ true
unfolding table row makes_node
lists_bring = refl

members_bring : each (λ p. all_of (item_brings member_rows member_children) (row p)) member_rows ≡ true
unfolding table row makes_node
members_bring = refl

behind_pass : each (λ p. all_of (item_passes p) (row p)) behind_rows ≡ true
unfolding table row makes_node
behind_pass = refl

heads_begin : each (λ p. heads p (row p)) head_rows ≡ true
unfolding table row makes_node
heads_begin = refl

words_none : each (λ p. not (makes_node p)) word_rows ≡ true
unfolding makes_node
words_none = refl

listed : (P : ℕ → Bool) (b : Bool) (p x : ℕ) → (nat_eq x p) ≡ b → P x ≡ true → (b ≡ false → P p ≡ true) → P p ≡ true
listed P true p x e here later = subst (λ (y : ℕ). P y ≡ true) (eqb-true x p e) here
listed P false p x e here later = later refl

or_false : (b c : Bool) → b ≡ false → (b || c) ≡ true → c ≡ true
or_false true c e h = cc
or_false false c e h = h

of_each : (P : ℕ → Bool) (list : List ℕ) (p : ℕ) → each P list ≡ true → contains list p ≡ true → P p ≡ true
of_each P [] p h c = cc
of_each P (x ∷ list) p h c = listed P (nat_eq x p) p x refl (left (P x) (each P list) h) (λ never. of_each P list p (right (P x) (each P list) h) (or_false (nat_eq x p) (contains list p) never c))

among : (test : Item → Bool) (items : List Item) (at : ℕ) (i : Item) → all_of test items ≡ true → slice_get items at ≡ Some i → test i ≡ true
among test [] at i h e = cc
among test (x ∷ items) zero i h e = subst (λ (y : Item). test y ≡ true) (let same : x ≡ i = cc in same) (left (test x) (all_of test items) h)
among test (x ∷ items) (suc at) i h e = among test items at i (right (test x) (all_of test items) h) e

pub list_item : (p at : ℕ) (i : Item) → contains list_rows p ≡ true → item_of p at ≡ Some i → item_brings list_rows list_children i ≡ true
unfolding item_of
list_item p at i c e = among (item_brings list_rows list_children) (row p) at i (of_each (λ p. all_of (item_brings list_rows list_children) (row p)) list_rows p lists_bring c) e

pub member_item : (p at : ℕ) (i : Item) → contains member_rows p ≡ true → item_of p at ≡ Some i → item_brings member_rows member_children i ≡ true
unfolding item_of
member_item p at i c e = among (item_brings member_rows member_children) (row p) at i (of_each (λ p. all_of (item_brings member_rows member_children) (row p)) member_rows p members_bring c) e

pub behind_item : (p at : ℕ) (i : Item) → contains behind_rows p ≡ true → item_of p at ≡ Some i → item_passes p i ≡ true
unfolding item_of
behind_item p at i c e = among (item_passes p) (row p) at i (of_each (λ p. all_of (item_passes p) (row p)) behind_rows p behind_pass c) e

head_first : (p : ℕ) (items : List Item) (i : Item) → heads p items ≡ true → slice_get items 0 ≡ Some i → item_heads i ≡ true
head_first p [] i h e = cc
head_first p (x ∷ items) i h e = subst (λ (y : Item). item_heads y ≡ true) (let same : x ≡ i = cc in same) (left (item_heads x) (all_of (item_passes p) items) h)

head_later : (p : ℕ) (items : List Item) (at : ℕ) (i : Item) → heads p items ≡ true → 1 ≤ at → slice_get items at ≡ Some i → item_passes p i ≡ true
head_later p [] at i h l e = cc
head_later p (x ∷ items) zero i h l e = absurd (omega (arith, l))
head_later p (x ∷ items) (suc at) i h l e = among (item_passes p) items at i (right (item_heads x) (all_of (item_passes p) items) h) e

head_some : (p : ℕ) (items : List Item) → heads p items ≡ true → slice_get items 0 ≡ None → ⊥
head_some p [] h e = cc
head_some p (x ∷ items) h e = cc

pub head_item : (p : ℕ) (i : Item) → contains head_rows p ≡ true → item_of p 0 ≡ Some i → item_heads i ≡ true
unfolding item_of
head_item p i c e = head_first p (row p) i (of_each (λ p. heads p (row p)) head_rows p heads_begin c) e

pub later_item : (p at : ℕ) (i : Item) → contains head_rows p ≡ true → 1 ≤ at → item_of p at ≡ Some i → item_passes p i ≡ true
unfolding item_of
later_item p at i c l e = head_later p (row p) at i (of_each (λ p. heads p (row p)) head_rows p heads_begin c) l e

pub head_there : (p : ℕ) → contains head_rows p ≡ true → item_of p 0 ≡ None → ⊥
unfolding item_of
head_there p c e = head_some p (row p) (of_each (λ p. heads p (row p)) head_rows p heads_begin c) e

pub word_heads : (q : ℕ) → contains word_rows q ≡ true → contains head_rows q ≡ true
word_heads q c = by (nat_eq 12 q) c
  where
    by : (b : Bool) → contains word_rows q ≡ true → (b || contains word_rows q) ≡ true
    by true c = refl
    by false c = c

none_made : (b : Bool) → not b ≡ true → b ≡ true → ⊥
none_made true h e = cc
none_made false h e = cc

pub word_no_node : (q : ℕ) → contains word_rows q ≡ true → makes_node q ≡ true → ⊥
word_no_node q c m = none_made (makes_node q) (of_each (λ p. not (makes_node p)) word_rows q words_none c) m

-- what makes a node is no leaf
pub node_no_leaf : (q : ℕ) → makes_node q ≡ true → q ≡ leaf → ⊥
unfolding makes_node
node_no_leaf q m e = let never : makes_node leaf ≡ true = subst (λ (x : ℕ). makes_node x ≡ true) e m in cc

picked : (x y : Bool) (a b q : ℕ) → cond x (Some a) (cond y (Some b) None) ≡ Some q → (a ≡ q) ⊎ (b ≡ q)
picked true y a b q e = inl cc
picked false true a b q e = inr cc
picked false false a b q e = absurd cc

pub one_of : (a b first second : ℕ) (notes : Noted) (q : ℕ) → chosen a b first second notes ≡ Some q → (a ≡ q) ⊎ (b ≡ q)
unfolding chosen
one_of a b first second notes q e = picked (fits a first second notes) (fits b first second notes || can_be_empty b) a b q e

pub either_of : (P : ℕ → Bool) (a b q : ℕ) → (a ≡ q) ⊎ (b ≡ q) → (P a && P b) ≡ true → P q ≡ true
either_of P a b q (inl e) h = subst (λ (x : ℕ). P x ≡ true) e (left (P a) (P b) h)
either_of P a b q (inr e) h = subst (λ (x : ℕ). P x ≡ true) e (right (P a) (P b) h)

-- ---- where a specifier has its tag or its list

abbrev pub Wanted : ℕ → ℕ → Type 0
Wanted p at = ((p ≡ 12) × (at ≡ 0)) ⊎ (((p ≡ 12) × (at ≡ 1)) ⊎ ((p ≡ 104) × (at ≡ 0)))

abbrev pub item_wanted : Option Item → Option Item → Option Item → ℕ → ℕ → Type 0
item_wanted first second third p at =
    ((p ≡ 12) × (at ≡ 0) × (item_of p at ≡ first)) ⊎ (((p ≡ 12) × (at ≡ 1) × (item_of p at ≡ second)) ⊎ ((p ≡ 104) × (at ≡ 0) × (item_of p at ≡ third)))

first_item : item_of 12 0 ≡ Some (item.Choice 102 103)
unfolding table row item_of
first_item = refl

second_item : item_of 12 1 ≡ Some (item.Choice 104 13)
unfolding table row item_of
second_item = refl

third_item : item_of 104 0 ≡ Some (item.Token Identifier)
unfolding table row item_of
third_item = refl

moved : (p at q k : ℕ) (o : Option Item) → p ≡ q → at ≡ k → item_of q k ≡ o → item_of p at ≡ o
moved p at q k o e f h = ap (λ (x : ℕ). item_of x at) e ∙ (ap (λ (x : ℕ). item_of q x) f ∙ h)

pub wanted_item : (p at : ℕ) → Wanted p at → item_wanted (Some (item.Choice 102 103)) (Some (item.Choice 104 13)) (Some (item.Token Identifier)) p at
wanted_item p at (inl h) = inl (h.0, h.1, moved p at 12 0 _ h.0 h.1 first_item)
wanted_item p at (inr (inl h)) = inr (inl (h.0, h.1, moved p at 12 1 _ h.0 h.1 second_item))
wanted_item p at (inr (inr h)) = inr (inr (h.0, h.1, moved p at 104 0 _ h.0 h.1 third_item))

pub tag_no_node : (q : ℕ) → q ≡ 104 → makes_node q ≡ true → ⊥
unfolding makes_node
tag_no_node q e m = let never : makes_node 104 ≡ true = subst (λ (x : ℕ). makes_node x ≡ true) e m in cc

pub list_is_node : (q : ℕ) → q ≡ 13 → makes_node q ≡ false → ⊥
unfolding makes_node
list_is_node q e m = let never : makes_node 13 ≡ false = subst (λ (x : ℕ). makes_node x ≡ false) e m in cc
