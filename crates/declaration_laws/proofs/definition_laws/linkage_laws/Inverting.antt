-- What was read where a production has been read to its end, item by item.
use Rattle.std.proofs.Common.{◌≡◌, ◌+◌, ◌≤◌, ℕ, Bool, true, false, cond, length, Result, Ok, List, [], ◌∷◌, ◌++◌, Option, Some, None, refl, sym, ◌∙◌, subst}
use Rattle.c_lexer.specs.declared.Token.{Token}
use Rattle.c_lexer.specs.declared.TokenKind.{TokenKind}
use Rattle.c_grammar.specs.declared.rows.Item.{Item}
use Rattle.c_grammar.specs.declared.rows.Item.TheVariants as item
use Rattle.c_grammar.specs.Table.{item_of}
use Rattle.c_grammar.specs.Terminals.{takes}
use Rattle.c_grammar.specs.Tree.{makes_node, nests}
use Rattle.c_grammar.specs.Notes.{notes_begin, notes_after}
use Rattle.c_grammar.specs.Reads.{State, Fault, most_nested, first, chosen_at, taken, scoped, opened, closed, Walks, Opens, at_end, token, no_token, use_of, no_use, choice, no_choice, no_alternative, again, no_again, scope, enough, deep, refused, whole, broken}

clash : (x y : Item) (o : Option Item) → o ≡ Some x → o ≡ Some y → ◌≡◌ {A = Option Item} (Some x) (Some y)
clash x y o e f = sym e ∙ f

when_false : {A : Type 0} (b : Bool) (x y : A) → b ≡ false → cond b x y ≡ y
when_false true x y e = cc
when_false false x y e = refl

when_true : {A : Type 0} (b : Bool) (x y : A) → b ≡ true → cond b x y ≡ x
when_true true x y e = refl
when_true false x y e = cc

-- a production that makes no node leaves its reader as it is
pub plain_opened : (q : ℕ) (s : State) → makes_node q ≡ false → opened q s ≡ s
plain_opened q s plain = when_false (makes_node q) _ s plain

pub plain_closed : (q : ℕ) (s u : State) → makes_node q ≡ false → closed q s u ≡ u
plain_closed q s u plain = when_false (makes_node q) _ u plain

-- what a production that makes a node begins with, and what it adds
pub node_opened : (q : ℕ) (s : State) → makes_node q ≡ true → opened q s ≡ record s { children = []; notes = notes_begin q s.notes }
node_opened q s node = when_true (makes_node q) _ s node

pub node_closed : (q : ℕ) (s u : State) → makes_node q ≡ true
    → closed q s u ≡ record { place = u.place; scopes = u.scopes; nodes = u.nodes ++ (record { production = q; token = s.place; children = u.children }) ∷ []; children = s.children ++ length u.nodes ∷ []; notes = notes_after q u.notes s.notes }
node_closed q s u node = when_true (makes_node q) _ u node

module _ (text : List ℕ) (tokens : List Token) where
  abbrev Goes : ℕ → ℕ → ℕ → State → State → Type 0
  Goes p at d s t = Walks text tokens p at d s (Ok t)

  pub tokened : (p at d : ℕ) (k : TokenKind) (s t : State) → item_of p at ≡ Some (item.Token k) → Goes p at d s t → (takes p k (first text tokens s) ≡ true) × Goes p (at + 1) d (taken text tokens p s) t
  tokened p at d k s t e w = by (Ok t) w refl
    where
      by : (r : Result State Fault) → Walks text tokens p at d s r → r ≡ Ok t → (takes p k (first text tokens s) ≡ true) × Goes p (at + 1) d (taken text tokens p s) t
      by r (at_end h) f = absurd (let bad : ◌≡◌ {A = Option Item} None (Some (item.Token k)) = sym h ∙ e in cc)
      by r (token {k = other} h takes_it rest) f =
          let same : k ≡ other = (let both = clash (item.Token k) (item.Token other) (item_of p at) e h in cc) in
          (subst (λ (x : TokenKind). takes p x (first text tokens s) ≡ true) (sym same) takes_it, subst (λ (x : Result State Fault). Walks text tokens p (at + 1) d (taken text tokens p s) x) f rest)
      by r (no_token h takes_none) f = absurd (cc)
      by r (use_of {q = q} h o rest) f = absurd (let bad = clash (item.Token k) (item.Use q) (item_of p at) e h in cc)
      by r (no_use h o) f = absurd (cc)
      by r (choice {a = a} {b = b} h c o rest) f = absurd (let bad = clash (item.Token k) (item.Choice a b) (item_of p at) e h in cc)
      by r (no_choice h c o) f = absurd (cc)
      by r (no_alternative h c) f = absurd (cc)
      by r (again {q = q} h fit o rest) f = absurd (let bad = clash (item.Token k) (item.Repeat q) (item_of p at) e h in cc)
      by r (no_again h fit o) f = absurd (cc)
      by r (enough {q = q} h fit rest) f = absurd (let bad = clash (item.Token k) (item.Repeat q) (item_of p at) e h in cc)
      by r (scope {n = n} h rest) f = absurd (let bad = clash (item.Token k) (item.Scope n) (item_of p at) e h in cc)

  pub record Used (p at d q : ℕ) (s t : State) : Type 0 where
    pub between : State
    pub opens : Opens text tokens q d s (Ok between)
    pub rest : Goes p (at + 1) d between t

  pub used : (p at d q : ℕ) (s t : State) → item_of p at ≡ Some (item.Use q) → Goes p at d s t → Used p at d q s t
  used p at d q s t e w = by (Ok t) w refl
    where
      by : (r : Result State Fault) → Walks text tokens p at d s r → r ≡ Ok t → Used p at d q s t
      by r (at_end h) f = absurd (let bad : ◌≡◌ {A = Option Item} None (Some (item.Use q)) = sym h ∙ e in cc)
      by r (token {k = k} h takes_it rest) f = absurd (let bad = clash (item.Use q) (item.Token k) (item_of p at) e h in cc)
      by r (no_token h takes_none) f = absurd (cc)
      by r (use_of {q = other} {t = u} h o rest) f =
          let same : other ≡ q = (let both = clash (item.Use q) (item.Use other) (item_of p at) e h in cc) in
          record { between = u; opens = subst (λ (x : ℕ). Opens text tokens x d s (Ok u)) same o; rest = subst (λ (x : Result State Fault). Walks text tokens p (at + 1) d u x) f rest }
      by r (no_use h o) f = absurd (cc)
      by r (choice {a = a} {b = b} h c o rest) f = absurd (let bad = clash (item.Use q) (item.Choice a b) (item_of p at) e h in cc)
      by r (no_choice h c o) f = absurd (cc)
      by r (no_alternative h c) f = absurd (cc)
      by r (again {q = other} h fit o rest) f = absurd (let bad = clash (item.Use q) (item.Repeat other) (item_of p at) e h in cc)
      by r (no_again h fit o) f = absurd (cc)
      by r (enough {q = other} h fit rest) f = absurd (let bad = clash (item.Use q) (item.Repeat other) (item_of p at) e h in cc)
      by r (scope {n = n} h rest) f = absurd (let bad = clash (item.Use q) (item.Scope n) (item_of p at) e h in cc)

  pub record Chose (p at d a b : ℕ) (s t : State) : Type 0 where
    pub one : ℕ
    pub chosen : chosen_at text tokens a b s ≡ Some one
    pub between : State
    pub opens : Opens text tokens one d s (Ok between)
    pub rest : Goes p (at + 1) d between t

  pub chose : (p at d a b : ℕ) (s t : State) → item_of p at ≡ Some (item.Choice a b) → Goes p at d s t → Chose p at d a b s t
  chose p at d a b s t e w = by (Ok t) w refl
    where
      by : (r : Result State Fault) → Walks text tokens p at d s r → r ≡ Ok t → Chose p at d a b s t
      by r (at_end h) f = absurd (let bad : ◌≡◌ {A = Option Item} None (Some (item.Choice a b)) = sym h ∙ e in cc)
      by r (token {k = k} h takes_it rest) f = absurd (let bad = clash (item.Choice a b) (item.Token k) (item_of p at) e h in cc)
      by r (no_token h takes_none) f = absurd (cc)
      by r (use_of {q = q} h o rest) f = absurd (let bad = clash (item.Choice a b) (item.Use q) (item_of p at) e h in cc)
      by r (no_use h o) f = absurd (cc)
      by r (choice {a = x} {b = y} {q = q} {t = u} h c o rest) f =
          let first_same : x ≡ a = (let both = clash (item.Choice a b) (item.Choice x y) (item_of p at) e h in cc) in
          let second_same : y ≡ b = (let both = clash (item.Choice a b) (item.Choice x y) (item_of p at) e h in cc) in
          record {
            one = q;
            chosen = subst (λ (j : ℕ). chosen_at text tokens j b s ≡ Some q) first_same (subst (λ (j : ℕ). chosen_at text tokens x j s ≡ Some q) second_same c);
            between = u;
            opens = o;
            rest = subst (λ (z : Result State Fault). Walks text tokens p (at + 1) d u z) f rest;
          }
      by r (no_choice h c o) f = absurd (cc)
      by r (no_alternative h c) f = absurd (cc)
      by r (again {q = q} h fit o rest) f = absurd (let bad = clash (item.Choice a b) (item.Repeat q) (item_of p at) e h in cc)
      by r (no_again h fit o) f = absurd (cc)
      by r (enough {q = q} h fit rest) f = absurd (let bad = clash (item.Choice a b) (item.Repeat q) (item_of p at) e h in cc)
      by r (scope {n = n} h rest) f = absurd (let bad = clash (item.Choice a b) (item.Scope n) (item_of p at) e h in cc)

  pub stepped_on : (p at d n : ℕ) (s t : State) → item_of p at ≡ Some (item.Scope n) → Goes p at d s t → Goes p (at + 1) d (scoped text tokens p n s) t
  stepped_on p at d n s t e w = by (Ok t) w refl
    where
      by : (r : Result State Fault) → Walks text tokens p at d s r → r ≡ Ok t → Goes p (at + 1) d (scoped text tokens p n s) t
      by r (at_end h) f = absurd (let bad : ◌≡◌ {A = Option Item} None (Some (item.Scope n)) = sym h ∙ e in cc)
      by r (token {k = k} h takes_it rest) f = absurd (let bad = clash (item.Scope n) (item.Token k) (item_of p at) e h in cc)
      by r (no_token h takes_none) f = absurd (cc)
      by r (use_of {q = q} h o rest) f = absurd (let bad = clash (item.Scope n) (item.Use q) (item_of p at) e h in cc)
      by r (no_use h o) f = absurd (cc)
      by r (choice {a = a} {b = b} h c o rest) f = absurd (let bad = clash (item.Scope n) (item.Choice a b) (item_of p at) e h in cc)
      by r (no_choice h c o) f = absurd (cc)
      by r (no_alternative h c) f = absurd (cc)
      by r (again {q = q} h fit o rest) f = absurd (let bad = clash (item.Scope n) (item.Repeat q) (item_of p at) e h in cc)
      by r (no_again h fit o) f = absurd (cc)
      by r (enough {q = q} h fit rest) f = absurd (let bad = clash (item.Scope n) (item.Repeat q) (item_of p at) e h in cc)
      by r (scope {n = m} h rest) f =
          let same : m ≡ n = (let both = clash (item.Scope n) (item.Scope m) (item_of p at) e h in cc) in
          subst (λ (x : ℕ). Goes p (at + 1) d (scoped text tokens p x s) t) same (subst (λ (z : Result State Fault). Walks text tokens p (at + 1) d (scoped text tokens p m s) z) f rest)

  pub ended : (p at d : ℕ) (s t : State) → item_of p at ≡ None → Goes p at d s t → s ≡ t
  ended p at d s t e w = by (Ok t) w refl
    where
      no_item : (i : Item) → item_of p at ≡ Some i → ⊥
      no_item i h = let bad : ◌≡◌ {A = Option Item} None (Some i) = sym e ∙ h in cc

      by : (r : Result State Fault) → Walks text tokens p at d s r → r ≡ Ok t → s ≡ t
      by r (at_end h) f = let same : s ≡ t = cc in same
      by r (token {k = k} h takes_it rest) f = absurd (no_item (item.Token k) h)
      by r (no_token {k = k} h takes_none) f = absurd (no_item (item.Token k) h)
      by r (use_of {q = q} h o rest) f = absurd (no_item (item.Use q) h)
      by r (no_use {q = q} h o) f = absurd (no_item (item.Use q) h)
      by r (choice {a = a} {b = b} h c o rest) f = absurd (no_item (item.Choice a b) h)
      by r (no_choice {a = a} {b = b} h c o) f = absurd (no_item (item.Choice a b) h)
      by r (no_alternative {a = a} {b = b} h c) f = absurd (no_item (item.Choice a b) h)
      by r (again {q = q} h fit o rest) f = absurd (no_item (item.Repeat q) h)
      by r (no_again {q = q} h fit o) f = absurd (no_item (item.Repeat q) h)
      by r (enough {q = q} h fit rest) f = absurd (no_item (item.Repeat q) h)
      by r (scope {n = n} h rest) f = absurd (no_item (item.Scope n) h)

  -- a fact that each turn keeps holds behind them all
  pub record Repeated (P : State → Type 0) (p at d : ℕ) (t : State) : Type 0 where
    pub between : State
    pub holds : P between
    pub rest : Goes p (at + 1) d between t

  pub repeated : (P : State → Type 0) (p at d q : ℕ) (s t : State) → item_of p at ≡ Some (item.Repeat q) → ((x y : State) → Opens text tokens q d x (Ok y) → P x → P y) → P s → Goes p at d s t → Repeated P p at d t
  repeated P p at d q s t e turn start w = by s (Ok t) w refl start
    where
      by : (x : State) (r : Result State Fault) → Walks text tokens p at d x r → r ≡ Ok t → P x → Repeated P p at d t
      by x r (at_end h) f now = absurd (let bad : ◌≡◌ {A = Option Item} None (Some (item.Repeat q)) = sym h ∙ e in cc)
      by x r (token {k = k} h takes_it rest) f now = absurd (let bad = clash (item.Repeat q) (item.Token k) (item_of p at) e h in cc)
      by x r (no_token h takes_none) f now = absurd (cc)
      by x r (use_of {q = other} h o rest) f now = absurd (let bad = clash (item.Repeat q) (item.Use other) (item_of p at) e h in cc)
      by x r (no_use h o) f now = absurd (cc)
      by x r (choice {a = a} {b = b} h c o rest) f now = absurd (let bad = clash (item.Repeat q) (item.Choice a b) (item_of p at) e h in cc)
      by x r (no_choice h c o) f now = absurd (cc)
      by x r (no_alternative h c) f now = absurd (cc)
      by x r (again {q = other} {t = u} h fit o rest) f now =
          let same : other ≡ q = (let both = clash (item.Repeat q) (item.Repeat other) (item_of p at) e h in cc) in
          by u r rest f (turn x u (subst (λ (j : ℕ). Opens text tokens j d x (Ok u)) same o) now)
      by x r (no_again h fit o) f now = absurd (cc)
      by x r (enough {q = other} h fit rest) f now = record { between = x; holds = now; rest = subst (λ (z : Result State Fault). Walks text tokens p (at + 1) d x z) f rest }
      by x r (scope {n = n} h rest) f now = absurd (let bad = clash (item.Repeat q) (item.Scope n) (item_of p at) e h in cc)

  pub record Read (q d : ℕ) (s t : State) : Type 0 where
    pub shallow : d + nests q ≤ most_nested
    pub inner : State
    pub walks : Goes q 0 (d + nests q) (opened q s) inner
    pub is : t ≡ closed q s inner

  pub read : (q d : ℕ) (s t : State) → Opens text tokens q d s (Ok t) → Read q d s t
  read q d s t o = by (Ok t) o refl
    where
      by : (r : Result State Fault) → Opens text tokens q d s r → r ≡ Ok t → Read q d s t
      by r (deep h) f = absurd (cc)
      by r (refused h k) f = absurd (cc)
      by r (whole {t = u} h k w) f = record { shallow = h; inner = u; walks = w; is = let same : closed q s u ≡ t = cc in sym same }
      by r (broken h k w) f = absurd (cc)
