-- Steps of a reading: nodes are only added, and what comes next in a row.
use Rattle.std.proofs.Common.{arith, ◌≡◌, ◌+◌, ℕ, zero, suc, Bool, true, false, ◌&&◌, ◌||◌, cond, Result, Ok, List, [], ◌∷◌, ◌++◌, Some, None, slice_get, drop, refl, sym, ap, ◌∙◌, subst, append_assoc, append-nil, ◌⊎◌, inl, inr}
use Rattle.c_lexer.specs.declared.Token.{Token}
use Rattle.c_grammar.specs.declared.rows.Item.{Item}
use Rattle.c_grammar.specs.Notes.{Noted}
use Rattle.c_grammar.specs.Table.{row, item_of}
use Rattle.c_grammar.specs.Fits.{fits, chosen}
use Rattle.c_grammar.specs.First.{can_be_empty}
use Rattle.c_grammar.specs.Tree.{makes_node}
use Rattle.c_grammar.specs.Reads.{State, Fault, Node, leaf, taken, scoped, opened, closed, Walks, Opens, at_end, token, no_token, use_of, no_use, choice, no_choice, no_alternative, again, no_again, scope, enough, deep, refused, whole, broken}

pub left : (a b : Bool) → (a && b) ≡ true → a ≡ true
left true b e = refl
left false b e = cc

pub right : (a b : Bool) → (a && b) ≡ true → b ≡ true
right true b e = e
right false b e = cc

cut_here : (items : List Item) (at : ℕ) (i : Item) → slice_get items at ≡ Some i → drop at items ≡ i ∷ drop (suc at) items
cut_here [] at i e = cc
cut_here (x ∷ items) zero i e = let same : x ≡ i = cc in ap (λ (y : Item). y ∷ items) same
cut_here (x ∷ items) (suc at) i e = cut_here items at i e

-- what is left of a row from an item on
pub from_item : (p at : ℕ) (i : Item) → item_of p at ≡ Some i → drop at (row p) ≡ i ∷ drop (at + 1) (row p)
unfolding item_of
from_item p at i e = cut_here (row p) at i e ∙ ap (λ (k : ℕ). i ∷ drop k (row p)) (let plus : suc at ≡ at + 1 = omega arith in plus)

-- the alternative that is chosen is one of the two
picked : (x y : Bool) (a b q : ℕ) → cond x (Some a) (cond y (Some b) None) ≡ Some q → (a ≡ q) ⊎ (b ≡ q)
picked true y a b q e = inl cc
picked false true a b q e = inr cc
picked false false a b q e = absurd cc

pub one_chosen : (a b first second : ℕ) (notes : Noted) (q : ℕ) → chosen a b first second notes ≡ Some q → (a ≡ q) ⊎ (b ≡ q)
unfolding chosen
one_chosen a b first second notes q e = picked (fits a first second notes) (fits b first second notes || can_be_empty b) a b q e

abbrev pub Extends : List Node → List Node → Type 0
Extends before nodes = (more : List Node) × (nodes ≡ before ++ more)

same : (nodes : List Node) → Extends nodes nodes
same nodes = ([], sym (append-nil nodes))

then : (a b c : List Node) → Extends a b → Extends b c → Extends a c
then a b c x y = (x.0 ++ y.0, y.1 ∙ (ap (λ (l : List Node). l ++ y.0) x.1 ∙ append_assoc a x.0 y.0))

closing : (b : Bool) (s u o x : State) (n : Node) → o.nodes ≡ s.nodes → x.nodes ≡ u.nodes ++ n ∷ [] → Extends (cond b o s).nodes u.nodes → Extends s.nodes (cond b x u).nodes
closing true s u o x n en fn k = then s.nodes u.nodes x.nodes (subst (λ (l : List Node). Extends l u.nodes) en k) (n ∷ [], fn)
closing false s u o x n en fn k = k

module _ (text : List ℕ) (tokens : List Token) where
  mutual
    walks_on : (p at d : ℕ) (s : State) (r : Result State Fault) → Walks text tokens p at d s r → (t : State) → r ≡ Ok t → Extends s.nodes t.nodes
    walks_on p at d s r (at_end h) t e = let f : s ≡ t = cc in subst (λ (x : State). Extends s.nodes x.nodes) f (same s.nodes)
    walks_on p at d s r (token h k w) t e =
        let n : Node = record { production = leaf; token = s.place; children = [] } in then s.nodes (s.nodes ++ n ∷ []) t.nodes (n ∷ [], refl) (walks_on p (at + 1) d (taken text tokens p s) r w t e)
    walks_on p at d s r (no_token h k) t e = absurd (cc)
    walks_on p at d s r (use_of {q = q} {t = u} h o w) t e = then s.nodes u.nodes t.nodes (opens_on q d s (Ok u) o u refl) (walks_on p (at + 1) d u r w t e)
    walks_on p at d s r (no_use h o) t e = absurd (cc)
    walks_on p at d s r (choice {t = u} h c o w) t e = then s.nodes u.nodes t.nodes (opens_on _ d s (Ok u) o u refl) (walks_on p (at + 1) d u r w t e)
    walks_on p at d s r (no_choice h c o) t e = absurd (cc)
    walks_on p at d s r (no_alternative h c) t e = absurd (cc)
    walks_on p at d s r (again {q = q} {t = u} h k o w) t e = then s.nodes u.nodes t.nodes (opens_on q d s (Ok u) o u refl) (walks_on p at d u r w t e)
    walks_on p at d s r (no_again h k o) t e = absurd (cc)
    walks_on p at d s r (scope {n = n} h w) t e = walks_on p (at + 1) d (scoped text tokens p n s) r w t e
    walks_on p at d s r (enough h k w) t e = walks_on p (at + 1) d s r w t e

    opens_on : (q d : ℕ) (s : State) (r : Result State Fault) → Opens text tokens q d s r → (t : State) → r ≡ Ok t → Extends s.nodes t.nodes
    opens_on q d s r (deep h) t e = absurd (cc)
    opens_on q d s r (refused h k) t e = absurd (cc)
    opens_on q d s r (whole {t = u} h k w) t e =
        let f : closed q s u ≡ t = cc in
        let n : Node = record { production = q; token = s.place; children = u.children } in
        subst (λ (x : State). Extends s.nodes x.nodes) f (closing (makes_node q) s u _ _ n refl refl (walks_on q 0 _ (opened q s) (Ok u) w u refl))
    opens_on q d s r (broken h k w) t e = absurd (cc)

  pub walks_extend : (p at d : ℕ) (s t : State) → Walks text tokens p at d s (Ok t) → Extends s.nodes t.nodes
  walks_extend p at d s t w = walks_on p at d s (Ok t) w t refl
