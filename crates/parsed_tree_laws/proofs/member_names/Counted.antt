-- The declarations of members and the fields of a tree that is read: there are no more of them than tokens.
use Rattle.std.proofs.Common.{arith, ◌≡◌, ◌≤◌, ℕ, zero, suc, ◌+◌, Bool, true, false, ◌&&◌, ◌||◌, cond, Result, Ok, Option, Some, None, List, [], ◌∷◌, ◌++◌, map, length, slice_get, refl, sym, ap, ◌∙◌, subst, ◌⊎◌, inl, inr}
use Rattle.std.specs.Prelude.{nat_eq}
use Rattle.std.proofs.lemmas.Bool.{eqb-true}
use Rattle.std.proofs.lemmas.Option.{slice_get_within}
use Rattle.c_lexer.specs.declared.Token.{Token}
use Rattle.c_lexer.specs.declared.TokenKind.{TokenKind}
use Rattle.c_lexer.specs.declared.Tokens.{Tokens}
use Rattle.c_grammar.specs.declared.rows.Item.{Item}
use Rattle.c_grammar.specs.declared.rows.Item.TheVariants as item
use Rattle.c_grammar.specs.declared.trees.Tree.{Tree}
use Rattle.c_grammar.specs.Names.{no_names}
use Rattle.c_grammar.specs.Notes.{Noted}
use Rattle.c_grammar.specs.Productions.{p_unit}
use Rattle.c_grammar.specs.Table.{table, row, item_of}
use Rattle.c_grammar.specs.Fits.{fits, chosen}
use Rattle.c_grammar.specs.First.{can_be_empty}
use Rattle.c_grammar.specs.Terminals.{contains, terminal, terminal_of, takes}
use Rattle.c_grammar.specs.Tree.{makes_node}
use Rattle.c_grammar.specs.Reads.{State, Fault, Node, leaf, node_of, first, second, taken, scoped, opened, closed, Walks, Opens, at_end, token, no_token, use_of, no_use, choice, no_choice, no_alternative, again, no_again, scope, enough, deep, refused, whole, broken}
use Rattle.c_parser.specs.Parse.{begin}
use Rattle.parsed_tree_laws.specs.family_laws.PassedOn.{IsUnit}

-- ---- which rows take a token of their own

-- productions that take one, other than those that are counted
abbrev pub takers : List ℕ
takers = 4 ∷ 19 ∷ 49 ∷ 105 ∷ 106 ∷ 109 ∷ 110 ∷ 116 ∷ 117 ∷ []

abbrev pub is_counted : ℕ → Bool
is_counted q = nat_eq q 14 || nat_eq q 15

abbrev pub item_takes : Item → Bool
item_takes (item.Token k) = true
item_takes (item.Use q) = contains takers q
item_takes (item.Choice a b) = contains takers a && contains takers b
item_takes (item.Repeat q) = false
item_takes (item.Scope n) = false

abbrev some_takes : List Item → Bool
some_takes [] = false
some_takes (i ∷ items) = item_takes i || some_takes items

abbrev each : (ℕ → Bool) → List ℕ → Bool
each test [] = true
each test (p ∷ more) = test p && each test more

takers_take : each (λ p. some_takes (row p)) (14 ∷ 15 ∷ takers) ≡ true
unfolding table row
takers_take = refl

left : (a b : Bool) → (a && b) ≡ true → a ≡ true
left true b e = refl
left false b e = cc

right : (a b : Bool) → (a && b) ≡ true → b ≡ true
right true b e = e
right false b e = cc

listed : (P : ℕ → Bool) (b : Bool) (p x : ℕ) → (nat_eq x p) ≡ b → P x ≡ true → (b ≡ false → P p ≡ true) → P p ≡ true
listed P true p x e here later = subst (λ (y : ℕ). P y ≡ true) (eqb-true x p e) here
listed P false p x e here later = later refl

or_false : (b c : Bool) → b ≡ false → (b || c) ≡ true → c ≡ true
or_false true c e h = cc
or_false false c e h = h

of_each : (P : ℕ → Bool) (list : List ℕ) (p : ℕ) → each P list ≡ true → contains list p ≡ true → P p ≡ true
of_each P [] p h c = cc
of_each P (x ∷ list) p h c = listed P (nat_eq x p) p x refl (left (P x) (each P list) h) (λ never. of_each P list p (right (P x) (each P list) h) (or_false (nat_eq x p) (contains list p) never c))

-- as a number
abbrev pub due : Bool → ℕ
due true = 1
due false = 0

-- what the items from one on take themselves
abbrev behind : ℕ → List Item → List Item
behind zero items = items
behind (suc at) [] = []
behind (suc at) (i ∷ items) = behind at items

pub owed : ℕ → ℕ → ℕ
owed p at = due (some_takes (behind at (row p)))

or_due : (a b : Bool) → due (a || b) ≤ due a + due b
or_due true b = omega arith
or_due false b = omega arith

owed_items : (items : List Item) (at : ℕ) (i : Item) → slice_get items at ≡ Some i → due (some_takes (behind at items)) ≤ due (item_takes i) + due (some_takes (behind (at + 1) items))
owed_items [] at i e = cc
owed_items (x ∷ items) zero i e = subst (λ (y : Item). due (item_takes x || some_takes items) ≤ due (item_takes y) + due (some_takes items)) (let same : x ≡ i = cc in same) (or_due (item_takes x) (some_takes items))
owed_items (x ∷ items) (suc at) i e =
    let h : due (some_takes (behind at items)) ≤ due (item_takes i) + due (some_takes (behind (at + 1) items)) = owed_items items at i e in
    let f : suc at + 1 ≡ suc (at + 1) = omega arith in
    subst (λ (k : ℕ). due (some_takes (behind at items)) ≤ due (item_takes i) + due (some_takes (behind k (x ∷ items)))) (sym f) h

owed_none : (items : List Item) (at : ℕ) → slice_get items at ≡ None → due (some_takes (behind at items)) ≡ 0
owed_none [] zero e = refl
owed_none [] (suc at) e = refl
owed_none (x ∷ items) zero e = cc
owed_none (x ∷ items) (suc at) e = owed_none items at e

pub owed_item : (p at : ℕ) (i : Item) → item_of p at ≡ Some i → owed p at ≤ due (item_takes i) + owed p (at + 1)
unfolding item_of owed
owed_item p at i e = owed_items (row p) at i e

pub owed_end : (p at : ℕ) → item_of p at ≡ None → owed p at ≡ 0
unfolding item_of owed
owed_end p at e = owed_none (row p) at e

owed_true : (p : ℕ) → some_takes (row p) ≡ true → owed p 0 ≡ 1
unfolding owed
owed_true p e = ap due e

pub owed_taker : (q : ℕ) → due (contains takers q) ≤ owed q 0
owed_taker q = by (contains takers q) refl
  where
    wider : (b c d : Bool) → d ≡ true → (b || (c || d)) ≡ true
    wider true c d e = refl
    wider false true d e = refl
    wider false false d e = e

    by : (b : Bool) → contains takers q ≡ b → due b ≤ owed q 0
    by true e = let h = owed_true q (of_each (λ p. some_takes (row p)) (14 ∷ 15 ∷ takers) q takers_take (wider (nat_eq 14 q) (nat_eq 15 q) (contains takers q) e)) in omega (arith, h)
    by false e = omega arith

pub owed_counted : (q : ℕ) → due (is_counted q) + due (contains takers q) ≤ owed q 0
owed_counted q = by (nat_eq q 14) (nat_eq q 15) refl refl
  where
    fourteen : 1 ≤ owed 14 0
    fourteen = let h = owed_true 14 (of_each (λ p. some_takes (row p)) (14 ∷ 15 ∷ takers) 14 takers_take refl) in omega (arith, h)

    fifteen : 1 ≤ owed 15 0
    fifteen = let h = owed_true 15 (of_each (λ p. some_takes (row p)) (14 ∷ 15 ∷ takers) 15 takers_take refl) in omega (arith, h)

    by : (a b : Bool) → nat_eq q 14 ≡ a → nat_eq q 15 ≡ b → due (a || b) + due (contains takers q) ≤ owed q 0
    by true b e f = subst (λ (k : ℕ). 1 + due (contains takers k) ≤ owed k 0) (sym (eqb-true q 14 e)) (let h = fourteen in omega (arith, h))
    by false true e f = subst (λ (k : ℕ). 1 + due (contains takers k) ≤ owed k 0) (sym (eqb-true q 15 f)) (let h = fifteen in omega (arith, h))
    by false false e f = let h = owed_taker q in omega (arith, h)

-- ---- how many are counted

abbrev pub count : List Node → ℕ
count [] = 0
count (n ∷ nodes) = due (is_counted n.production) + count nodes

pub count_then : (xs ys : List Node) → count (xs ++ ys) ≡ count xs + count ys
count_then [] ys = omega arith
count_then (n ∷ xs) ys = let h = count_then xs ys in omega (arith, h)

-- so many more are counted than tokens are taken, but for those that are owed
record Pays (a b : List Node) (place later owes most : ℕ) : Type 0 where
  pays : count b + place + owes ≤ count a + later
  within : place ≤ most → later ≤ most

pays_then : (a b d : List Node) (p q r x y o most : ℕ) → Pays a b p q x most → Pays b d q r y most → o ≤ x + y → Pays a d p r o most
pays_then a b d p q r x y o most s t le = record { pays = (let f = s.pays in let g = t.pays in omega (arith, f, g, le)); within = λ h. t.within (s.within h) }

picked : (x y : Bool) (a b q : ℕ) → cond x (Some a) (cond y (Some b) None) ≡ Some q → (a ≡ q) ⊎ (b ≡ q)
picked true y a b q e = inl cc
picked false true a b q e = inr cc
picked false false a b q e = absurd cc

one_of : (a b first second : ℕ) (notes : Noted) (q : ℕ) → chosen a b first second notes ≡ Some q → (a ≡ q) ⊎ (b ≡ q)
unfolding chosen
one_of a b first second notes q e = picked (fits a first second notes) (fits b first second notes || can_be_empty b) a b q e

both_due : (x y : Bool) → (due (x && y) ≤ due x) × (due (x && y) ≤ due y)
both_due true y = (by y, omega arith)
  where
    by : (y : Bool) → due y ≤ 1
    by true = omega arith
    by false = omega arith
both_due false y = (omega arith, omega arith)

choice_due : (a b q : ℕ) → (a ≡ q) ⊎ (b ≡ q) → due (contains takers a && contains takers b) ≤ due (contains takers q)
choice_due a b q (inl e) = subst (λ (x : ℕ). due (contains takers a && contains takers b) ≤ due (contains takers x)) e (both_due (contains takers a) (contains takers b)).0
choice_due a b q (inr e) = subst (λ (x : ℕ). due (contains takers a && contains takers b) ≤ due (contains takers x)) e (both_due (contains takers a) (contains takers b)).1

closing : (b : Bool) (q : ℕ) (s u x o : State) (most : ℕ) → o.nodes ≡ s.nodes → o.place ≡ s.place → x.place ≡ u.place → (x.nodes ≡ u.nodes ++ (record { production = q; token = s.place; children = u.children }) ∷ [])
    → Pays (cond b o s).nodes u.nodes (cond b o s).place u.place (owed q 0) most → Pays s.nodes (cond b x u).nodes s.place (cond b x u).place (due (contains takers q)) most
closing true q s u x o most on op xp xn w =
    let f = w.pays in
    let n : Node = record { production = q; token = s.place; children = u.children } in
    let grown : count x.nodes ≡ count u.nodes + (due (is_counted q) + 0) = ap count xn ∙ count_then u.nodes (n ∷ []) in
    let before : count o.nodes ≡ count s.nodes = ap count on in
    let more = owed_counted q in
    record { pays = omega (arith, f, grown, before, more, op, xp); within = λ h. (let g = w.within (let here = op in omega (arith, h, here)) in omega (arith, g, xp)) }
closing false q s u x o most on op xp xn w = record { pays = (let f = w.pays in let more = owed_taker q in omega (arith, f, more)); within = w.within }

module _ (text : List ℕ) (tokens : List Token) where
  -- a token that is taken is there
  token_there : (p place : ℕ) (k : TokenKind) (s : State) → takes p k (first text tokens s) ≡ true → s.place + 1 ≤ length tokens
  unfolding takes terminal
  token_there p place k s h = by (slice_get tokens s.place) refl h
    where
      by : (o : Option Token) → slice_get tokens s.place ≡ o → takes p k (terminal_of text s.scopes o) ≡ true → s.place + 1 ≤ length tokens
      by None e g = cc
      by (Some t) e g = let lt = slice_get_within tokens s.place t e in omega (arith, lt)

  abbrev most : ℕ
  most = length tokens

  leaf_pays : (p at : ℕ) (k : TokenKind) (s : State) → takes p k (first text tokens s) ≡ true → Pays s.nodes (s.nodes ++ (record { production = leaf; token = s.place; children = [] }) ∷ []) s.place (s.place + 1) 1 most
  leaf_pays p at k s h =
      let n : Node = record { production = leaf; token = s.place; children = [] } in
      let grown : count (s.nodes ++ n ∷ []) ≡ count s.nodes + 0 = count_then s.nodes (n ∷ []) in
      record { pays = omega (arith, grown); within = λ le. token_there p s.place k s h }

  mutual
    walks_pay : (p at d : ℕ) (s : State) (r : Result State Fault) → Walks text tokens p at d s r → (t : State) → r ≡ Ok t → Pays s.nodes t.nodes s.place t.place (owed p at) most
    walks_pay p at d s r (at_end h) t e =
        let f : s ≡ t = cc in
        let none = owed_end p at h in
        subst (λ (x : State). Pays s.nodes x.nodes s.place x.place (owed p at) most) f (record { pays = omega (arith, none); within = λ le. le })
    walks_pay p at d s r (token {k = k} h g w) t e =
        pays_then s.nodes _ t.nodes s.place (s.place + 1) t.place 1 (owed p (at + 1)) (owed p at) most (leaf_pays p at k s g) (walks_pay p (at + 1) d (taken text tokens p s) r w t e) (owed_item p at (item.Token k) h)
    walks_pay p at d s r (no_token h k) t e = absurd (cc)
    walks_pay p at d s r (use_of {q = q} {t = u} h o w) t e =
        pays_then s.nodes u.nodes t.nodes s.place u.place t.place (due (contains takers q)) (owed p (at + 1)) (owed p at) most (opens_pay q d s (Ok u) o u refl) (walks_pay p (at + 1) d u r w t e) (owed_item p at (item.Use q) h)
    walks_pay p at d s r (no_use h o) t e = absurd (cc)
    walks_pay p at d s r (choice {a = a} {b = b} {q = q} {t = u} h c o w) t e =
        let le = owed_item p at (item.Choice a b) h in
        let less = choice_due a b q (one_of a b (first text tokens s) (second text tokens s) s.notes q c) in
        pays_then s.nodes u.nodes t.nodes s.place u.place t.place (due (contains takers q)) (owed p (at + 1)) (owed p at) most (opens_pay q d s (Ok u) o u refl) (walks_pay p (at + 1) d u r w t e) (omega (arith, le, less))
    walks_pay p at d s r (no_choice h c o) t e = absurd (cc)
    walks_pay p at d s r (no_alternative h c) t e = absurd (cc)
    walks_pay p at d s r (again {q = q} {t = u} h k o w) t e =
        pays_then s.nodes u.nodes t.nodes s.place u.place t.place (due (contains takers q)) (owed p at) (owed p at) most (opens_pay q d s (Ok u) o u refl) (walks_pay p at d u r w t e) (omega arith)
    walks_pay p at d s r (no_again h k o) t e = absurd (cc)
    walks_pay p at d s r (scope {n = n} h w) t e =
        let le = owed_item p at (item.Scope n) h in
        let g = walks_pay p (at + 1) d (scoped text tokens p n s) r w t e in
        record { pays = (let f = g.pays in omega (arith, f, le)); within = g.within }
    walks_pay p at d s r (enough {q = q} h k w) t e =
        let le = owed_item p at (item.Repeat q) h in
        let g = walks_pay p (at + 1) d s r w t e in
        record { pays = (let f = g.pays in omega (arith, f, le)); within = g.within }

    opens_pay : (q d : ℕ) (s : State) (r : Result State Fault) → Opens text tokens q d s r → (t : State) → r ≡ Ok t → Pays s.nodes t.nodes s.place t.place (due (contains takers q)) most
    opens_pay q d s r (deep h) t e = absurd (cc)
    opens_pay q d s r (refused h k) t e = absurd (cc)
    opens_pay q d s r (whole {t = u} h k w) t e =
        let f : closed q s u ≡ t = cc in
        subst (λ (x : State). Pays s.nodes x.nodes s.place x.place (due (contains takers q)) most) f (closing (makes_node q) q s u _ _ most refl refl refl refl (walks_pay q 0 _ (opened q s) (Ok u) w u refl))
    opens_pay q d s r (broken h k w) t e = absurd (cc)

pub few_counted : (tokens : Tokens) (unit : ℕ) (tree : Tree) → IsUnit tokens unit tree → count (map node_of tree.nodes.items) ≤ length tokens.list.items
few_counted tokens unit tree is =
    let (st, reads, nodes) = is.0 in
    let paid = opens_pay tokens.text.now tokens.list.items p_unit 0 (begin 0 no_names []) (Ok st) reads st refl in
    let f = paid.pays in
    let g = paid.within (omega arith) in
    subst (λ (l : List Node). count l ≤ length tokens.list.items) nodes (omega (arith, f, g))
