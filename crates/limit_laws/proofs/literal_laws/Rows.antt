-- What the rows of primaries take.
use Rattle.std.proofs.Common.{◌≡◌, ℕ, zero, suc, ◌&&◌, ◌||◌, nat_eq, Bool, true, false, List, [], ◌∷◌, Some, None, not, slice_get, refl, subst, ◌⊎◌, inl, inr}
use Rattle.std.specs.List.{list_all}
use Rattle.std.proofs.lemmas.Bool.{eqb-true}
use Rattle.c_lexer.specs.declared.TokenKind.{TokenKind}
use Rattle.c_lexer.specs.declared.TokenKind.TheVariants.{Text}
use Rattle.c_grammar.specs.declared.rows.Item.{Item}
use Rattle.c_grammar.specs.declared.rows.Item.TheVariants as item
use Rattle.c_grammar.specs.Table.{table, row, item_of}
use Rattle.c_grammar.specs.Terminals.{contains}
use Rattle.c_grammar.specs.Tree.{makes_node}
use Rattle.limit_laws.proofs.literal_laws.Texts.{avoids}

-- strings side by side, which make no node; what begins with another token; and the choices between them
abbrev pub text_rows : List ℕ
text_rows = 58 ∷ 245 ∷ []

abbrev pub other_rows : List ℕ
other_rows = 116 ∷ 246 ∷ 247 ∷ 248 ∷ 253 ∷ 254 ∷ 255 ∷ []

abbrev pub inner_rows : List ℕ
inner_rows = 249 ∷ 250 ∷ 251 ∷ 252 ∷ 256 ∷ 257 ∷ []

abbrev pub choice_rows : List ℕ
choice_rows = 47 ∷ inner_rows

-- one of all of them but the primary itself
abbrev pub is_part : ℕ → Bool
is_part q = contains text_rows q || (contains other_rows q || contains inner_rows q)

abbrev pub is_text : TokenKind → Bool
is_text Text = true
is_text kind = false

abbrev pub takes_text : Item → Bool
takes_text (item.Token k) = is_text k
takes_text (item.Use q) = contains text_rows q
takes_text (item.Choice a b) = contains text_rows a && contains text_rows b
takes_text (item.Repeat q) = contains text_rows q
takes_text (item.Scope n) = true

abbrev pub takes_other : ℕ → Item → Bool
takes_other p (item.Token k) = avoids p k
takes_other p i = false

abbrev pub chooses : Item → Bool
chooses (item.Choice a b) = is_part a && is_part b
chooses i = false

abbrev first_takes : ℕ → List Item → Bool
first_takes p [] = false
first_takes p (i ∷ items) = takes_other p i

abbrev only_chooses : List Item → Bool
only_chooses (i ∷ []) = chooses i
only_chooses items = false

second : (a b : Bool) → (a && b) ≡ true → b ≡ true
second true b e = e
second false b e = cc

of_all : (P : ℕ → Bool) (list : List ℕ) (p : ℕ) → list_all P list ≡ true → contains list p ≡ true → P p ≡ true
of_all P [] p h c = cc
of_all P (x ∷ list) p h c = by (of_all P list p (second (P x) (list_all P list) h)) (nat_eq x p) refl c
  where
    first : (a b : Bool) → (a && b) ≡ true → a ≡ true
    first true b e = refl
    first false b e = cc

    by : (contains list p ≡ true → P p ≡ true) → (b : Bool) → nat_eq x p ≡ b → (b || contains list p) ≡ true → P p ≡ true
    by rest true e c = subst (λ (y : ℕ). P y ≡ true) (eqb-true x p e) (first (P x) (list_all P list) h)
    by rest false e c = rest c

texts_take : list_all (λ p. list_all takes_text (row p)) text_rows ≡ true
unfolding table row
texts_take = refl

others_take : list_all (λ p. first_takes p (row p)) other_rows ≡ true
unfolding table row
others_take = refl

choices_choose : list_all (λ p. only_chooses (row p)) choice_rows ≡ true
unfolding table row
choices_choose = refl

parts_make_none : (list_all (λ p. not (makes_node p)) text_rows && (list_all (λ p. not (makes_node p)) other_rows && list_all (λ p. not (makes_node p)) inner_rows)) ≡ true
unfolding makes_node
parts_make_none = refl

none_made : (b : Bool) → not b ≡ true → b ≡ true → ⊥
none_made true h e = cc
none_made false h e = cc

texts_none : list_all (λ p. not (makes_node p)) text_rows ≡ true
unfolding makes_node
texts_none = refl

others_none : list_all (λ p. not (makes_node p)) other_rows ≡ true
unfolding makes_node
others_none = refl

inner_none : list_all (λ p. not (makes_node p)) inner_rows ≡ true
unfolding makes_node
inner_none = refl

pub text_no_node : (q : ℕ) → contains text_rows q ≡ true → makes_node q ≡ true → ⊥
text_no_node q c m = none_made (makes_node q) (of_all (λ p. not (makes_node p)) text_rows q texts_none c) m

pub other_no_node : (q : ℕ) → contains other_rows q ≡ true → makes_node q ≡ true → ⊥
other_no_node q c m = none_made (makes_node q) (of_all (λ p. not (makes_node p)) other_rows q others_none c) m

pub inner_no_node : (q : ℕ) → contains inner_rows q ≡ true → makes_node q ≡ true → ⊥
inner_no_node q c m = none_made (makes_node q) (of_all (λ p. not (makes_node p)) inner_rows q inner_none c) m

among : (items : List Item) (at : ℕ) (i : Item) → list_all takes_text items ≡ true → slice_get items at ≡ Some i → takes_text i ≡ true
among [] at i h e = cc
among (x ∷ items) zero i h e = subst (λ (y : Item). takes_text y ≡ true) (let same : x ≡ i = cc in same) (by (takes_text x) (list_all takes_text items) h)
  where
    by : (a b : Bool) → (a && b) ≡ true → a ≡ true
    by true b e = refl
    by false b e = cc
among (x ∷ items) (suc at) i h e = among items at i (by (takes_text x) (list_all takes_text items) h) e
  where
    by : (a b : Bool) → (a && b) ≡ true → b ≡ true
    by true b e = e
    by false b e = cc

pub text_item : (p at : ℕ) (i : Item) → contains text_rows p ≡ true → item_of p at ≡ Some i → takes_text i ≡ true
unfolding item_of
text_item p at i c e = among (row p) at i (of_all (λ p. list_all takes_text (row p)) text_rows p texts_take c) e

first_is : (p : ℕ) (items : List Item) (i : Item) → first_takes p items ≡ true → slice_get items 0 ≡ Some i → takes_other p i ≡ true
first_is p [] i h e = cc
first_is p (x ∷ items) i h e = subst (λ (y : Item). takes_other p y ≡ true) (let same : x ≡ i = cc in same) h

pub other_item : (p : ℕ) (i : Item) → contains other_rows p ≡ true → item_of p 0 ≡ Some i → takes_other p i ≡ true
unfolding item_of
other_item p i c e = first_is p (row p) i (of_all (λ p. first_takes p (row p)) other_rows p others_take c) e

pub other_some : (p : ℕ) → contains other_rows p ≡ true → item_of p 0 ≡ None → ⊥
unfolding item_of
other_some p c e = by (row p) (of_all (λ p. first_takes p (row p)) other_rows p others_take c) e
  where
    by : (items : List Item) → first_takes p items ≡ true → slice_get items 0 ≡ None → ⊥
    by [] h e = cc
    by (x ∷ items) h e = cc

choice_is : (items : List Item) (i : Item) → only_chooses items ≡ true → slice_get items 0 ≡ Some i → chooses i ≡ true
choice_is [] i h e = cc
choice_is (x ∷ []) i h e = subst (λ (y : Item). chooses y ≡ true) (let same : x ≡ i = cc in same) h
choice_is (x ∷ y ∷ items) i h e = cc

pub choice_item : (p : ℕ) (i : Item) → contains choice_rows p ≡ true → item_of p 0 ≡ Some i → chooses i ≡ true
unfolding item_of
choice_item p i c e = choice_is (row p) i (of_all (λ p. only_chooses (row p)) choice_rows p choices_choose c) e

pub choice_some : (p : ℕ) → contains choice_rows p ≡ true → item_of p 0 ≡ None → ⊥
unfolding item_of
choice_some p c e = by (row p) (of_all (λ p. only_chooses (row p)) choice_rows p choices_choose c) e
  where
    by : (items : List Item) → only_chooses items ≡ true → slice_get items 0 ≡ None → ⊥
    by [] h e = cc
    by (x ∷ items) h e = cc

pub choice_end : (p : ℕ) (i : Item) → contains choice_rows p ≡ true → item_of p 1 ≡ Some i → ⊥
unfolding item_of
choice_end p i c e = by (row p) (of_all (λ p. only_chooses (row p)) choice_rows p choices_choose c) e
  where
    by : (items : List Item) → only_chooses items ≡ true → slice_get items 1 ≡ Some i → ⊥
    by [] h e = cc
    by (x ∷ []) h e = cc
    by (x ∷ y ∷ items) h e = cc

-- which of them a part is
pub part_is : (q : ℕ) → is_part q ≡ true → (contains text_rows q ≡ true) ⊎ ((contains other_rows q ≡ true) ⊎ (contains inner_rows q ≡ true))
part_is q h = by (contains text_rows q) (contains other_rows q) (contains inner_rows q) h
  where
    by : (a b c : Bool) → (a || (b || c)) ≡ true → (a ≡ true) ⊎ ((b ≡ true) ⊎ (c ≡ true))
    by true b c h = inl refl
    by false true c h = inr (inl refl)
    by false false c h = inr (inr h)
