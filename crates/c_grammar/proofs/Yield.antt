-- The leaves that a reading adds are the tokens that it takes, in order.
use Rattle.std.proofs.Common.{◌≡◌, ℕ, zero, suc, ◌+◌, Bool, true, false, eqb, Result, Ok, List, [], ◌∷◌, ◌++◌, cond, refl, sym, ap, ◌∙◌, arith, append_assoc, append-nil}
use Rattle.std.proofs.lemmas.Bool.{ltb-true}
use Rattle.std.proofs.lemmas.Bool.Decides.{nat_tests}
use Rattle.c_lexer.specs.declared.Token.{Token}
use Rattle.c_grammar.specs.Tree.{makes_node}
use Rattle.c_grammar.specs.Reads.{State, Fault, Node, leaf, taken, scoped, opened, closed, Walks, Opens, at_end, token, no_token, use_of, no_use, choice, no_choice, no_alternative, again, no_again, scope, enough, deep, refused, whole, broken}
use Rattle.c_grammar.specs.Yield.{leaves, counted, Yields}

leaves-append : (a b : List Node) → leaves (a ++ b) ≡ leaves a ++ leaves b
leaves-append [] b = refl
leaves-append (n ∷ a) b =
    let front = cond (eqb n.production leaf) (n.token ∷ []) [] in
    ap (λ l. front ++ l) (leaves-append a b) ∙ sym (append_assoc front (leaves a) (leaves b))

counted-add : (from n m : ℕ) → counted from (n + m) ≡ counted from n ++ counted (from + n) m
counted-add from zero m = let e : zero + m ≡ m = omega arith in let f : from + zero ≡ from = omega arith in rw (e, f) refl
counted-add from (suc n) m =
    let e : suc n + m ≡ suc (n + m) = omega arith in
    let f : from + 1 + n ≡ from + suc n = omega arith in
    ap (counted from) e ∙ ap (λ l. from ∷ l) (counted-add (from + 1) n m ∙ ap (λ x. counted (from + 1) n ++ counted x m) f)

none_yet : (place : ℕ) (nodes : List Node) (t : State) → t.place ≡ place → leaves t.nodes ≡ leaves nodes → Yields place nodes t
none_yet place nodes t e f = (0, omega arith, f ∙ sym (append-nil (leaves nodes)))

then : (place : ℕ) (nodes : List Node) (s t : State) → Yields place nodes s → Yields s.place s.nodes t → Yields place nodes t
then place nodes s t a b = (
  a.0 + b.0,
  omega (arith, a.1, b.1),
  b.2 ∙ (ap (λ l. l ++ counted s.place b.0) a.2 ∙ (append_assoc (leaves nodes) (counted place a.0) (counted s.place b.0)
      ∙ ap (λ l. leaves nodes ++ l) (ap (λ x. counted place a.0 ++ counted x b.0) a.1 ∙ sym (counted-add place a.0 b.0)))),
)

one : (text : List ℕ) (tokens : List Token) (p : ℕ) (s : State) → Yields s.place s.nodes (taken text tokens p s)
one text tokens p s = (1, refl, leaves-append s.nodes _)

chosen : (b : Bool) (x s : State) → x.place ≡ s.place → x.nodes ≡ s.nodes → ((cond b x s).place ≡ s.place) × ((cond b x s).nodes ≡ s.nodes)
chosen true x s e f = (e, f)
chosen false x s e f = (refl, refl)

opened_same : (q : ℕ) (s : State) → ((opened q s).place ≡ s.place) × ((opened q s).nodes ≡ s.nodes)
opened_same q s = chosen (makes_node q) _ s refl refl

no_leaf : (q : ℕ) → makes_node q ≡ true → eqb q leaf ≡ false
unfolding makes_node
no_leaf q e = let l = ltb-true q 48 e in grind (arith, nat_tests)

closing : (b : Bool) (x t : State) → x.place ≡ t.place → (b ≡ true → leaves x.nodes ≡ leaves t.nodes) → ((cond b x t).place ≡ t.place) × (leaves (cond b x t).nodes ≡ leaves t.nodes)
closing true x t e f = (e, f refl)
closing false x t e f = (refl, refl)

closed_same : (q : ℕ) (s t : State) → ((closed q s t).place ≡ t.place) × (leaves (closed q s t).nodes ≡ leaves t.nodes)
closed_same q s t = closing (makes_node q) _ t refl (λ e.
    leaves-append t.nodes _ ∙ (ap (λ b. leaves t.nodes ++ (cond b (s.place ∷ []) [] ++ [])) (no_leaf q e) ∙ append-nil (leaves t.nodes)))

module _ (text : List ℕ) (tokens : List Token) where
  mutual
    walks_yield : (p at d : ℕ) (s : State) (r : Result State Fault) → Walks text tokens p at d s r → (t : State) → r ≡ Ok t → Yields s.place s.nodes t
    walks_yield p at d s r (at_end h) t e = let f : s ≡ t = cc in none_yet s.place s.nodes t (ap (λ x. x.place) (sym f)) (ap (λ x. leaves x.nodes) (sym f))
    walks_yield p at d s r (token h k w) t e = then s.place s.nodes (taken text tokens p s) t (one text tokens p s) (walks_yield p (at + 1) d _ r w t e)
    walks_yield p at d s r (no_token h k) t e = absurd (cc)
    walks_yield p at d s r (use_of {q = q} {t = u} h o w) t e = then s.place s.nodes u t (opens_yield q d s (Ok u) o u refl) (walks_yield p (at + 1) d u r w t e)
    walks_yield p at d s r (no_use h o) t e = absurd (cc)
    walks_yield p at d s r (choice {t = u} h c o w) t e = then s.place s.nodes u t (opens_yield _ d s (Ok u) o u refl) (walks_yield p (at + 1) d u r w t e)
    walks_yield p at d s r (no_choice h c o) t e = absurd (cc)
    walks_yield p at d s r (no_alternative h c) t e = absurd (cc)
    walks_yield p at d s r (again {q = q} {t = u} h k o w) t e = then s.place s.nodes u t (opens_yield q d s (Ok u) o u refl) (walks_yield p at d u r w t e)
    walks_yield p at d s r (no_again h k o) t e = absurd (cc)
    walks_yield p at d s r (scope {n = n} h w) t e = walks_yield p (at + 1) d (scoped text tokens p n s) r w t e
    walks_yield p at d s r (enough h k w) t e = walks_yield p (at + 1) d s r w t e

    pub opens_yield : (q d : ℕ) (s : State) (r : Result State Fault) → Opens text tokens q d s r → (t : State) → r ≡ Ok t → Yields s.place s.nodes t
    opens_yield q d s r (deep h) t e = absurd (cc)
    opens_yield q d s r (refused h k) t e = absurd (cc)
    opens_yield q d s r (whole {t = u} h k w) t e =
        let f : closed q s u ≡ t = cc in
        let y = walks_yield q 0 _ (opened q s) (Ok u) w u refl in
        let o = opened_same q s in
        let z = closed_same q s u in
        let place : t.place ≡ s.place + y.0 = ap (λ x. x.place) (sym f) ∙ (z.0 ∙ (y.1 ∙ ap (λ x. x + y.0) o.0)) in
        let nodes : leaves t.nodes ≡ leaves s.nodes ++ counted s.place y.0 =
        ap (λ x. leaves x.nodes) (sym f) ∙ (z.1 ∙ (y.2 ∙ (ap (λ x. leaves x ++ counted (opened q s).place y.0) o.1 ∙ ap (λ x. leaves s.nodes ++ counted x y.0) o.0))) in
        (y.0, place, nodes)
    opens_yield q d s r (broken h k w) t e = absurd (cc)
