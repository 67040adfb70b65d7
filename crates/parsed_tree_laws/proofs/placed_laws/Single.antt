-- A declarator has one name, or one declarator in it.
use Rattle.std.proofs.Common.{◌≡◌, ℕ, ◌+◌, ◌≤◌, nat_eq, nat_lt, not, Bool, true, false, ◌&&◌, ◌||◌, cond, Result, Ok, List, [], ◌∷◌, ◌++◌, Option, Some, None, length, slice_get, drop, refl, sym, ap, ◌∙◌, subst, arith, append_assoc, append-nil, ◌⊎◌, inl, inr}
use Rattle.std.specs.Prelude.{nat_le}
use Rattle.std.specs.List.{list_all}
use Rattle.std.specs.Option.{unwrap_or}
use Rattle.std.specs.Str.{bytes_eq}
use Rattle.std.proofs.lemmas.Bool.{eqb-true, ltb-true, leb-true}
use Rattle.c_lexer.specs.declared.Token.{Token}
use Rattle.c_lexer.specs.declared.TokenKind.{TokenKind}
use Rattle.c_lexer.specs.declared.TokenKind.TheVariants.{Identifier, Keyword, Punctuator, Integer, Floating, Character, Text, End}
use Rattle.c_grammar.specs.declared.rows.Item.{Item}
use Rattle.c_grammar.specs.declared.rows.Item.TheVariants as item
use Rattle.c_grammar.specs.Names.{Names, is_type}
use Rattle.c_grammar.specs.Table.{row, item_of}
use Rattle.c_grammar.specs.Terminals.{contains, takes, own_words, list_words, own_meaning, is_builtin, builtin_type, builtin_name, type_name, plain_name, name_terminal, terminal_of_kind, terminal_of, terminal, sign, spelled}
use Rattle.c_grammar.specs.Tree.{makes_node}
use Rattle.c_grammar.specs.Reads.{State, Fault, Node, leaf, first, second, taken, scoped, opened, closed, Walks, Opens, at_end, token, no_token, use_of, no_use, choice, no_choice, no_alternative, again, no_again, scope, enough, deep, refused, whole, broken}
use Rattle.c_mentions.specs.Syntax.{kind_of, is_identifier}
use Rattle.parsed_tree_laws.proofs.placed_laws.Rows.{left, right, either, item_brings, quiet_token, quiet_node, quiet_rows, is_quiet, all_quiet, one_rows, is_one, item_one, at_most, quiet_row, one_row, from_item, one_chosen, chosen_holds}
use Rattle.parsed_tree_laws.proofs.placed_laws.Once.{Extends, walks_extend}
use Rattle.parsed_tree_laws.proofs.placed_laws.Adding.{Is, All, is_on, all_on, all_both, Adds, adds_last, row_adds, part_adds}

-- the terminal of an identifier is none of a sign
named_large : (table : List (List ℕ × ℕ)) → list_all (λ e. nat_le 93 e.1) table ≡ true → (name : List ℕ) (d : ℕ) → nat_le 93 d ≡ true → nat_le 93 (unwrap_or (own_meaning table name) d) ≡ true
named_large [] h name d e = e
named_large (w ∷ table) h name d e = by (named_large table (right (nat_le 93 w.1) (list_all (λ e. nat_le 93 e.1) table) h) name d e) (bytes_eq name w.0)
  where
    by : nat_le 93 (unwrap_or (own_meaning table name) d) ≡ true → (b : Bool) → nat_le 93 (unwrap_or (cond b (Some w.1) (own_meaning table name)) d) ≡ true
    by rest true = left (nat_le 93 w.1) (list_all (λ e. nat_le 93 e.1) table) h
    by rest false = rest

own_large : list_all (λ e. nat_le 93 e.1) own_words ≡ true
unfolding own_words
own_large = refl

list_large : list_all (λ e. nat_le 93 e.1) list_words ≡ true
unfolding list_words
list_large = refl

name_large : (names : Names) (name : List ℕ) → nat_le 93 (name_terminal names name) ≡ true
unfolding name_terminal
name_large names name = named_large own_words own_large name _ (by (is_builtin name) (is_type names name) (unwrap_or (own_meaning list_words name) builtin_name) (named_large list_words list_large name builtin_name refl))
  where
    by : (a b : Bool) (d : ℕ) → nat_le 93 d ≡ true → nat_le 93 (cond a (cond b builtin_type d) (cond b type_name plain_name)) ≡ true
    by true true d h = refl
    by true false d h = h
    by false true d h = refl
    by false false d h = refl

is_first : (x y : ℕ) → contains (x ∷ []) y ≡ true → x ≡ y
is_first x y h = by (nat_eq x y) refl h
  where
    by : (b : Bool) → nat_eq x y ≡ b → (b || false) ≡ true → x ≡ y
    by true e h = eqb-true x y e
    by false e h = cc

no_sign : (g : ℕ) (names : Names) (name : List ℕ) → nat_lt (45 + g) 93 ≡ true → contains (sign g ∷ []) (name_terminal names name) ≡ true → ⊥
no_sign g names name small h =
    let same : 45 + g ≡ name_terminal names name = is_first (sign g) (name_terminal names name) h in
    let large : 93 ≤ name_terminal names name = leb-true 93 (name_terminal names name) (name_large names name) in
    let lt = ltb-true (45 + g) 93 small in
    omega (arith, same, large, lt)

sign_taken : (text : List ℕ) (p g : ℕ) (names : Names) (o : Option Token) → nat_lt (45 + g) 93 ≡ true → takes p (Punctuator g) (terminal_of text names o) ≡ true → is_identifier (kind_of o) ≡ false
unfolding takes
sign_taken text p g names None small h = refl
sign_taken text p g names (Some t) small h = by t.kind (right (not (nat_eq (terminal_of_kind t.kind names (spelled text t)) 103)) (contains (sign g ∷ []) (terminal_of_kind t.kind names (spelled text t))) h)
  where
    by : (k : TokenKind) → contains (sign g ∷ []) (terminal_of_kind k names (spelled text t)) ≡ true → is_identifier k ≡ false
    by Identifier h = absurd (no_sign g names (spelled text t) small h)
    by (Keyword k) h = refl
    by (Punctuator k) h = refl
    by Integer h = refl
    by Floating h = refl
    by Character h = refl
    by Text h = refl
    by End h = refl

module _ (text : List ℕ) (tokens : List Token) where
  -- a qualifier, a suffix, or the leaf of what is no identifier
  abbrev pub is_other : Node → Bool
  is_other n = contains (9 ∷ 22 ∷ []) n.production || (contains (leaf ∷ []) n.production && not (is_identifier (kind_of (slice_get tokens n.token))))

  token_passes : (p : ℕ) (k : TokenKind) (s : State) → quiet_token k ≡ true → takes p k (first text tokens s) ≡ true → is_other (record { production = leaf; token = s.place; children = [] }) ≡ true
  unfolding terminal
  token_passes p Identifier s q h = cc
  token_passes p (Keyword k) s q h = cc
  token_passes p (Punctuator g) s q h = ap not (sign_taken text p g s.scopes (slice_get tokens s.place) q h)
  token_passes p Integer s q h = cc
  token_passes p Floating s q h = cc
  token_passes p Character s q h = cc
  token_passes p Text s q h = cc
  token_passes p End s q h = cc

  or_first : (a b : Bool) → a ≡ true → (a || b) ≡ true
  or_first true b h = refl
  or_first false b h = cc

  node_passes : (q place : ℕ) (children : List ℕ) → quiet_node q ≡ true → is_other (record { production = q; token = place; children = children }) ≡ true
  node_passes q place children h = or_first (contains (9 ∷ 22 ∷ []) q) _ h

  abbrev pub Quiet : List Node → List ℕ → Type 0
  Quiet nodes ks = All is_other nodes ks

  -- all but one at most are neither
  abbrev pub AtMost : List Node → List ℕ → Type 0
  AtMost nodes [] = Unit {0}
  AtMost nodes (k ∷ ks) = Quiet nodes ks ⊎ (Is is_other nodes k × AtMost nodes ks)

  quiet_most : (nodes : List Node) (ks : List ℕ) → Quiet nodes ks → AtMost nodes ks
  quiet_most nodes [] h = tt
  quiet_most nodes (k ∷ ks) h = inl h.1

  most_then : (nodes : List Node) (xs ys : List ℕ) → AtMost nodes xs → Quiet nodes ys → AtMost nodes (xs ++ ys)
  most_then nodes [] ys h q = quiet_most nodes ys q
  most_then nodes (k ∷ xs) ys (inl h) q = inl (all_both is_other nodes xs ys h q)
  most_then nodes (k ∷ xs) ys (inr h) q = inr (h.0, most_then nodes xs ys h.1 q)

  then_most : (nodes : List Node) (xs ys : List ℕ) → Quiet nodes xs → AtMost nodes ys → AtMost nodes (xs ++ ys)
  then_most nodes [] ys q h = h
  then_most nodes (k ∷ xs) ys q h = inr (q.0, then_most nodes xs ys q.1 h)

  pub most_on : (a b : List Node) (ks : List ℕ) → Extends a b → AtMost a ks → AtMost b ks
  most_on a b [] x h = tt
  most_on a b (k ∷ ks) x (inl h) = inl (all_on is_other a b ks x h)
  most_on a b (k ∷ ks) x (inr h) = inr (is_on is_other a b k x h.0, most_on a b ks x h.1)

  -- some children are added, of which all but one at most are neither
  pub record AddsOne (nodes : List Node) (x y : List ℕ) : Type 0 where
    pub new : List ℕ
    pub are : y ≡ x ++ new
    pub most : AtMost nodes new

  one_none : (a : List Node) (x : List ℕ) → AddsOne a x x
  one_none a x = record { new = []; are = sym (append-nil x); most = tt }

  one_last : (a : List Node) (x : List ℕ) (k : ℕ) → AddsOne a x (x ++ k ∷ [])
  one_last a x k = record { new = k ∷ []; are = refl; most = inl tt }

  adds_one : (a b : List Node) (x y z : List ℕ) → Extends a b → Adds is_other a x y → AddsOne b y z → AddsOne b x z
  adds_one a b x y z ext k m = record {
    new = k.new ++ m.new;
    are = m.are ∙ (ap (λ (l : List ℕ). l ++ m.new) k.are ∙ append_assoc x k.new m.new);
    most = then_most b k.new m.new (all_on is_other a b k.new ext k.all) m.most;
  }

  one_adds : (a b : List Node) (x y z : List ℕ) → Extends a b → AddsOne a x y → Adds is_other b y z → AddsOne b x z
  one_adds a b x y z ext k m = record {
    new = k.new ++ m.new;
    are = m.are ∙ (ap (λ (l : List ℕ). l ++ m.new) k.are ∙ append_assoc x k.new m.new);
    most = most_then b k.new m.new (most_on a b k.new ext k.most) m.all;
  }

  quiet_row_adds : (p at d : ℕ) (s t : State) → Walks text tokens p at d s (Ok t) → all_quiet (drop at (row p)) ≡ true → Adds is_other t.nodes s.children t.children
  quiet_row_adds p at d s t w h = row_adds text tokens is_other quiet_token quiet_node quiet_rows token_passes node_passes quiet_row p at d s t w h

  quiet_part_adds : (q d : ℕ) (s t : State) → Opens text tokens q d s (Ok t) → is_quiet q ≡ true → Adds is_other t.nodes s.children t.children
  quiet_part_adds q d s t o h = part_adds text tokens is_other quiet_token quiet_node quiet_rows token_passes node_passes quiet_row q d s t o h

  abbrev item_quiet : Item → Bool
  item_quiet i = item_brings quiet_token quiet_node quiet_rows i

  -- an item that is neither, before what has one at most; or one that may be it
  abbrev Splits : Item → List Item → Type 0
  Splits i rest = ((item_quiet i ≡ true) × (at_most rest ≡ true)) ⊎ ((item_one i ≡ true) × (all_quiet rest ≡ true))

  split : (p at : ℕ) (i : Item) → item_of p at ≡ Some i → at_most (drop at (row p)) ≡ true → Splits i (drop (at + 1) (row p))
  split p at i e h =
      let rest = drop (at + 1) (row p) in
      let h1 = subst (λ (items : List Item). at_most items ≡ true) (from_item p at i e) h in
      by (either (item_quiet i && at_most rest) (item_one i && all_quiet rest) h1)
    where
      by : ((item_quiet i && at_most (drop (at + 1) (row p))) ≡ true) ⊎ ((item_one i && all_quiet (drop (at + 1) (row p))) ≡ true) → Splits i (drop (at + 1) (row p))
      by (inl a) = inl (left (item_quiet i) (at_most (drop (at + 1) (row p))) a, right (item_quiet i) (at_most (drop (at + 1) (row p))) a)
      by (inr a) = inr (left (item_one i) (all_quiet (drop (at + 1) (row p))) a, right (item_one i) (all_quiet (drop (at + 1) (row p))) a)

  -- an item that can't be it
  rest_of : (i : Item) (rest : List Item) → item_one i ≡ false → Splits i rest → (item_quiet i ≡ true) × (at_most rest ≡ true)
  rest_of i rest never (inl h) = h
  rest_of i rest never (inr h) = cc

  when_true : {A : Type 0} (b : Bool) (x y : A) → b ≡ true → cond b x y ≡ x
  when_true true x y e = refl
  when_true false x y e = cc

  when_false : {A : Type 0} (b : Bool) (x y : A) → b ≡ false → cond b x y ≡ y
  when_false true x y e = cc
  when_false false x y e = refl

  closing : (b : Bool) (q : ℕ) (s u o x : State) → makes_node q ≡ b → (x.children ≡ s.children ++ length u.nodes ∷ []) → is_one q ≡ true → (contains one_rows q ≡ true → AddsOne u.nodes (cond b o s).children u.children)
      → AddsOne (cond b x u).nodes s.children (cond b x u).children
  closing true q s u o x m fc h k = subst (λ (l : List ℕ). AddsOne x.nodes s.children l) (sym fc) (one_last x.nodes s.children (length u.nodes))
  closing false q s u o x m fc h k = k (sym (when_false (makes_node q) true (contains one_rows q) m) ∙ h)

  mutual
    walks_one : (p at d : ℕ) (s : State) (r : Result State Fault) → Walks text tokens p at d s r → (t : State) → r ≡ Ok t → at_most (drop at (row p)) ≡ true → AddsOne t.nodes s.children t.children
    walks_one p at d s r (at_end h) t e pass = let f : s ≡ t = cc in subst (λ (x : State). AddsOne x.nodes s.children x.children) f (one_none s.nodes s.children)
    walks_one p at d s r (token {k = kind} h k w) t e pass =
        let n : Node = record { production = leaf; token = s.place; children = [] } in
        let u : State = taken text tokens p s in
        let w1 : Walks text tokens p (at + 1) d u (Ok t) = subst (λ (x : Result State Fault). Walks text tokens p (at + 1) d u x) e w in
        let ext = walks_extend text tokens p (at + 1) d u t w1 in
        elim (split p at (item.Token kind) h pass) [
          | inl a ↦ adds_one u.nodes t.nodes s.children u.children t.children ext (adds_last is_other s.nodes s.children n (token_passes p kind s a.0 k)) (walks_one p (at + 1) d u r w t e a.1)
          | inr a ↦ one_adds u.nodes t.nodes s.children u.children t.children ext (one_last u.nodes s.children (length s.nodes)) (quiet_row_adds p (at + 1) d u t w1 a.1)
        ]
    walks_one p at d s r (no_token h k) t e pass = absurd (cc)
    walks_one p at d s r (use_of {q = q} {t = u} h o w) t e pass =
        let w1 : Walks text tokens p (at + 1) d u (Ok t) = subst (λ (x : Result State Fault). Walks text tokens p (at + 1) d u x) e w in
        let ext = walks_extend text tokens p (at + 1) d u t w1 in
        elim (split p at (item.Use q) h pass) [
          | inl a ↦ adds_one u.nodes t.nodes s.children u.children t.children ext (quiet_part_adds q d s u o a.0) (walks_one p (at + 1) d u r w t e a.1)
          | inr a ↦ one_adds u.nodes t.nodes s.children u.children t.children ext (opens_one q d s (Ok u) o u refl a.0) (quiet_row_adds p (at + 1) d u t w1 a.1)
        ]
    walks_one p at d s r (no_use h o) t e pass = absurd (cc)
    walks_one p at d s r (choice {a = a} {b = b} {q = q} {t = u} h c o w) t e pass =
        let w1 : Walks text tokens p (at + 1) d u (Ok t) = subst (λ (x : Result State Fault). Walks text tokens p (at + 1) d u x) e w in
        let ext = walks_extend text tokens p (at + 1) d u t w1 in
        let which = one_chosen a b (first text tokens s) (second text tokens s) s.notes q c in
        elim (split p at (item.Choice a b) h pass) [
          | inl x ↦ adds_one u.nodes t.nodes s.children u.children t.children ext (quiet_part_adds q d s u o (chosen_holds is_quiet a b q which x.0)) (walks_one p (at + 1) d u r w t e x.1)
          | inr x ↦ one_adds u.nodes t.nodes s.children u.children t.children ext (opens_one q d s (Ok u) o u refl (chosen_holds is_one a b q which x.0)) (quiet_row_adds p (at + 1) d u t w1 x.1)
        ]
    walks_one p at d s r (no_choice h c o) t e pass = absurd (cc)
    walks_one p at d s r (no_alternative h c) t e pass = absurd (cc)
    walks_one p at d s r (again {q = q} {t = u} h k o w) t e pass =
        let w1 : Walks text tokens p at d u (Ok t) = subst (λ (x : Result State Fault). Walks text tokens p at d u x) e w in
        let a = rest_of (item.Repeat q) (drop (at + 1) (row p)) refl (split p at (item.Repeat q) h pass) in
        adds_one u.nodes t.nodes s.children u.children t.children (walks_extend text tokens p at d u t w1) (quiet_part_adds q d s u o a.0) (walks_one p at d u r w t e pass)
    walks_one p at d s r (no_again h k o) t e pass = absurd (cc)
    walks_one p at d s r (scope {n = n} h w) t e pass = let a = rest_of (item.Scope n) (drop (at + 1) (row p)) refl (split p at (item.Scope n) h pass) in walks_one p (at + 1) d (scoped text tokens p n s) r w t e a.1
    walks_one p at d s r (enough {q = q} h k w) t e pass = let a = rest_of (item.Repeat q) (drop (at + 1) (row p)) refl (split p at (item.Repeat q) h pass) in walks_one p (at + 1) d s r w t e a.1

    opens_one : (q d : ℕ) (s : State) (r : Result State Fault) → Opens text tokens q d s r → (t : State) → r ≡ Ok t → is_one q ≡ true → AddsOne t.nodes s.children t.children
    opens_one q d s r (deep h) t e pass = absurd (cc)
    opens_one q d s r (refused h k) t e pass = absurd (cc)
    opens_one q d s r (whole {t = u} h k w) t e pass =
        let f : closed q s u ≡ t = cc in
        subst (λ (x : State). AddsOne x.nodes s.children x.children) f (closing (makes_node q) q s u _ _ refl refl pass (λ c. walks_one q 0 _ (opened q s) (Ok u) w u refl (one_row q c)))
    opens_one q d s r (broken h k w) t e pass = absurd (cc)

  -- the parts of a row that has one of them at most
  pub row_adds_one : (p d : ℕ) (s t : State) → Walks text tokens p 0 d s (Ok t) → at_most (row p) ≡ true → AddsOne t.nodes s.children t.children
  row_adds_one p d s t w h = walks_one p 0 d s (Ok t) w t refl h
