-- Lists of declarations: each declaration is the one of its leaf, and what is seen of a name are some of all.
use Rattle.std.proofs.Common.{arith, ◌≡◌, ◌≤◌, ◌+◌, ◌⊎◌, inl, inr, ◌==◌, ℕ, nat_eq, Bool, true, false, ◌&&◌, ◌||◌, not, cond, List, [], ◌∷◌, ◌++◌, Option, Some, None, refl, sym, ap, ◌∙◌, subst}
use Rattle.std.specs.Prelude.{filter, if◌then◌else◌}
use Rattle.std.specs.List.{find}
use Rattle.std.proofs.lemmas.Bool.{eqb-true, eq-eqb}
use Rattle.c_grammar.specs.Productions.{p_external, p_rest, p_declaration, p_parameter, p_declarator, p_abstract, p_either, p_enumerator}
use Rattle.c_grammar.specs.Terminals.{contains}
use Rattle.c_scope.specs.declared.kinds.Declared.{Declared}
use Rattle.c_scope.specs.Known.{is_at, those_at}
use Rattle.c_senses.specs.Tree.{Source, production_at, children_at, is_a, parent_of}
use Rattle.c_senses.specs.Names.{has_linkage, all_linked, linked_along, made_before, entry_of}
use Rattle.c_senses.specs.Declarators.{is_declarator, is_outermost, outermost_of}
use Rattle.c_senses.specs.Entities.{keep, first_of, some_such}
use Rattle.c_senses.specs.Sense.{Sense}
use Rattle.parsed_tree_laws.proofs.placed_laws.Climbing.{Grown}
use Rattle.declaration_laws.proofs.function_laws.passed.definition_laws.linkage_laws.Seen.{parent_is}
use Rattle.declaration_laws.specs.name_order.Order.{declaring, IsNameOf, Declares, Enumerates, Names, Rises}
use Rattle.declaration_laws.specs.name_order.Order as order
use Rattle.declaration_laws.specs.declared_type_laws.declared_leaves.Leaves.{IsNamed, Own, Inner}
use Rattle.declaration_laws.proofs.declared_type_laws.declared_leaves.Climbing.{outermost_is}

some_one : {X : Type 0} → {x y : X} → ◌≡◌ {A = Option X} (Some x) (Some y) → x ≡ y
some_one h = cc

both : (a b : Bool) → (a && b) ≡ true → (a ≡ true) × (b ≡ true)
both true b e = (refl, e)
both false b e = cc

no_both : (b : Bool) → b ≡ true → b ≡ false → ⊥
no_both b e f = let both : true ≡ false = sym e ∙ f in cc

abbrev pub In : Declared → List Declared → Type 0
In d [] = ⊥
In d (x ∷ xs) = (x ≡ d) ⊎ In d xs

-- ---- parts of lists

filter_in : (test : Declared → Bool) (ds : List Declared) (d : Declared) → In d (filter test ds) → In d ds × (test d ≡ true)
filter_in test [] d h = absurd h
filter_in test (x ∷ xs) d h = by (test x) refl h (filter_in test xs d)
  where
    by : (b : Bool) → test x ≡ b → In d (cond b (x ∷ filter test xs) (filter test xs)) → (In d (filter test xs) → In d xs × (test d ≡ true)) → In d (x ∷ xs) × (test d ≡ true)
    by true e (inl here) later = (inl here, ap test (sym here) ∙ e)
    by true e (inr more) later = let f = later more in (inr f.0, f.1)
    by false e i later = let f = later i in (inr f.0, f.1)

append_in : (xs ys : List Declared) (d : Declared) → In d (xs ++ ys) → In d xs ⊎ In d ys
append_in [] ys d h = inr h
append_in (x ∷ xs) ys d (inl e) = inl (inl e)
append_in (x ∷ xs) ys d (inr h) = elim (append_in xs ys d h) [ inl i ↦ inl (inr i) | inr j ↦ inr j ]

linked_in : (ds : List Declared) (d : Declared) → all_linked ds ≡ true → In d ds → has_linkage d ≡ true
linked_in [] d e h = absurd h
linked_in (x ∷ xs) d e (inl same) = ap has_linkage (sym same) ∙ (both (has_linkage x) (all_linked xs) e).0
linked_in (x ∷ xs) d e (inr more) = linked_in xs d (both (has_linkage x) (all_linked xs) e).1 more

-- what is seen with linkage is declared, with that symbol and linkage
pub along_in : (scopes : List ℕ) (symbol : ℕ) (ds : List Declared) (d : Declared) → In d (linked_along scopes symbol ds) → In d ds × ((d.symbol == symbol) ≡ true) × (has_linkage d ≡ true)
along_in [] symbol ds d h = absurd h
along_in (scope ∷ scopes) symbol ds d h = by (all_linked (those_at scope symbol ds)) refl h (along_in scopes symbol ds d)
  where
    by : (b : Bool) → all_linked (those_at scope symbol ds) ≡ b → In d (if b then linked_along scopes symbol ds ++ those_at scope symbol ds else [])
        → (In d (linked_along scopes symbol ds) → In d ds × ((d.symbol == symbol) ≡ true) × (has_linkage d ≡ true)) → In d ds × ((d.symbol == symbol) ≡ true) × (has_linkage d ≡ true)
    by false e i later = absurd i
    by true e i later = elim (append_in (linked_along scopes symbol ds) (those_at scope symbol ds) d i) [
      | inl outer ↦ later outer
      | inr here ↦ let f = filter_in (is_at scope symbol) ds d here in (f.0, (both (d.scope == scope) (d.symbol == symbol) f.1).1, linked_in (those_at scope symbol ds) d e here)
    ]

pub made_in : (leaf : ℕ) (ds : List Declared) (d : Declared) → In d (made_before leaf ds) → In d ds
made_in leaf [] d h = absurd h
made_in leaf (x ∷ xs) d h = by (x.node == leaf) h (made_in leaf xs d)
  where
    by : (b : Bool) → In d (if b then [] else x ∷ made_before leaf xs) → (In d (made_before leaf xs) → In d xs) → In d (x ∷ xs)
    by true i later = absurd i
    by false (inl e) later = inl e
    by false (inr i) later = inr (later i)

module _ (s : Source) (f : ℕ → Sense) where
  pub such_in : (pick : Declared → Bool) (ds : List Declared) → some_such s f pick ds ≡ true → (d : Declared) × In d ds × (pick d ≡ true)
  such_in pick [] h = cc
  such_in pick (x ∷ xs) h = by (pick x) refl h (such_in pick xs)
    where
      by : (b : Bool) → pick x ≡ b → (b || some_such s f pick xs) ≡ true → (some_such s f pick xs ≡ true → (d : Declared) × In d xs × (pick d ≡ true)) → (d : Declared) × In d (x ∷ xs) × (pick d ≡ true)
      by true e k later = (x, inl refl, e)
      by false e k later = let m = later k in (m.0, inr m.1, m.2)

  pub kept_in : (test : Declared → Bool) (ds : List Declared) (d : Declared) → In d (keep s f test ds) → In d ds × (test d ≡ true)
  kept_in test [] d h = absurd h
  kept_in test (x ∷ xs) d h = by (test x) refl h (kept_in test xs d)
    where
      by : (b : Bool) → test x ≡ b → In d (if b then x ∷ keep s f test xs else keep s f test xs) → (In d (keep s f test xs) → In d xs × (test d ≡ true)) → In d (x ∷ xs) × (test d ≡ true)
      by true e (inl here) later = (inl here, ap test (sym here) ∙ e)
      by true e (inr more) later = let m = later more in (inr m.0, m.1)
      by false e i later = let m = later i in (inr m.0, m.1)

  pub in_kept : (test : Declared → Bool) (ds : List Declared) (d : Declared) → In d ds → test d ≡ true → In d (keep s f test ds)
  in_kept test [] d h e = absurd h
  in_kept test (x ∷ xs) d h e = by (test x) refl h (λ i. in_kept test xs d i e)
    where
      by : (b : Bool) → test x ≡ b → (x ≡ d) ⊎ In d xs → (In d xs → In d (keep s f test xs)) → In d (if b then x ∷ keep s f test xs else keep s f test xs)
      by true k (inl same) later = inl same
      by true k (inr more) later = inr (later more)
      by false k (inl same) later = absurd (no_both (test x) (ap test same ∙ e) k)
      by false k (inr more) later = later more

  -- a declaration that passes before a leaf is none of the first of those that pass
  pub earlier_first : (test : Declared → Bool) (leaf : ℕ) (ds : List Declared) (d : Declared) → In d (made_before leaf ds) → test d ≡ true → first_of s f leaf (keep s f test ds) ≡ leaf → ⊥
  earlier_first test leaf [] d h e first = h
  earlier_first test leaf (x ∷ xs) d h e first = by (x.node == leaf) (test x) refl refl h first (λ i k. earlier_first test leaf xs d i e k)
    where
      by : (b c : Bool) → (x.node == leaf) ≡ b → test x ≡ c → In d (if b then [] else x ∷ made_before leaf xs) → first_of s f leaf (if c then x ∷ keep s f test xs else keep s f test xs) ≡ leaf
          → (In d (made_before leaf xs) → first_of s f leaf (keep s f test xs) ≡ leaf → ⊥) → ⊥
      by true c eb ec i k later = i
      by false true eb ec i k later = no_both (x.node == leaf) (eq-eqb x.node leaf k) eb
      by false false eb ec (inl same) k later = no_both (test x) (ap test same ∙ e) ec
      by false false eb ec (inr more) k later = later more k

-- ---- one declaration for each leaf

abbrev Plain : ℕ → Type 0
Plain x = ((nat_eq x p_declarator || nat_eq x p_abstract) || nat_eq x p_either) ≡ false

of_form : (q : ℕ) → contains declaring q ≡ true → ((nat_eq q p_declarator || nat_eq q p_abstract) || nat_eq q p_either) ≡ false
of_form q h = by (nat_eq p_external q) (nat_eq p_rest q) (nat_eq p_declaration q) (nat_eq p_parameter q) refl refl refl refl h
  where
    by : (a b c d : Bool) → nat_eq p_external q ≡ a → nat_eq p_rest q ≡ b → nat_eq p_declaration q ≡ c → nat_eq p_parameter q ≡ d → (a || (b || (c || (d || false)))) ≡ true → Plain q
    by true b c d ea eb ec ed k = subst Plain (eqb-true p_external q ea) refl
    by false true c d ea eb ec ed k = subst Plain (eqb-true p_rest q eb) refl
    by false false true d ea eb ec ed k = subst Plain (eqb-true p_declaration q ec) refl
    by false false false true ea eb ec ed k = subst Plain (eqb-true p_parameter q ed) refl
    by false false false false ea eb ec ed k = cc

module _ (s : Source) (tree : Grown s) where
  either_form : (c : ℕ) → (is_a s p_declarator c || is_a s p_either c) ≡ true → is_declarator s c ≡ true
  either_form c h = by (is_a s p_declarator c) (is_a s p_abstract c) (is_a s p_either c) h
    where
      by : (a b d : Bool) → (a || d) ≡ true → ((a || b) || d) ≡ true
      by true b d k = refl
      by false true d k = refl
      by false false d k = k

  name_in : (m leaf : ℕ) → IsNameOf s m leaf → IsNamed s m leaf
  name_in m leaf (order.Own k named) = Own k named
  name_in m leaf (order.Inner {c = c} k is more) = Inner c k (either_form c is) (name_in c leaf more)

  -- the declarator that has the leaf as a part
  holder : (m leaf : ℕ) → is_declarator s m ≡ true → IsNamed s m leaf → (c : ℕ) × (is_declarator s c ≡ true) × (contains (children_at s c) leaf ≡ true)
  holder m leaf is (Own k named) = (m, is, k)
  holder m leaf is (Inner c k inner more) = holder c leaf inner more

  outer_of : (m p : ℕ) → is_declarator s m ≡ true → contains (children_at s p) m ≡ true → contains declaring (production_at s p) ≡ true → is_outermost s m ≡ true
  outer_of m p is inside part =
      ap (λ (b : Bool). b && (elim (parent_of s m) as (λ _. Bool) [ None ↦ true | Some q ↦ not (is_declarator s q) ])) is
      ∙ (ap (λ (o : Option ℕ). elim o as (λ _. Bool) [ None ↦ true | Some q ↦ not (is_declarator s q) ]) (parent_is s tree p m inside) ∙ ap not (of_form (production_at s p) part))

  at_outermost : (m p leaf : ℕ) → (is_a s p_declarator m || is_a s p_either m) ≡ true → contains (children_at s p) m ≡ true → contains declaring (production_at s p) ≡ true → IsNameOf s m leaf → outermost_of s leaf ≡ Some m
  at_outermost m p leaf is inside part named =
      outermost_is s tree m leaf (name_in m leaf named) (let before = tree.before p m inside in let within = tree.within p m inside in omega (arith, before, within)) (outer_of m p (either_form m is) inside part)

  no_enumerator : (m c leaf : ℕ) → is_a s p_enumerator m ≡ true → contains (children_at s m) leaf ≡ true → is_declarator s c ≡ true → contains (children_at s c) leaf ≡ true → ⊥
  no_enumerator m c leaf is at form inside =
      let same : m ≡ c = tree.once m c leaf at inside in
      let own : is_declarator s m ≡ true = subst (λ (x : ℕ). is_declarator s x ≡ true) (sym same) form in
      let no : is_declarator s m ≡ false = subst (λ (q : ℕ). ((nat_eq q p_declarator || nat_eq q p_abstract) || nat_eq q p_either) ≡ false) (sym (eqb-true (production_at s m) p_enumerator is)) refl in
      no_both (is_declarator s m) own no

  -- one node declares a leaf
  declares_once : (m n leaf : ℕ) → Declares s m leaf → Declares s n leaf → m ≡ n
  declares_once m n leaf (Enumerates is at) (Enumerates other there) = tree.once m n leaf at there
  declares_once m n leaf (Enumerates is at) (Names p form inside part named) = let h = holder n leaf (either_form n form) (name_in n leaf named) in absurd (no_enumerator m h.0 leaf is at h.1 h.2)
  declares_once m n leaf (Names p form inside part named) (Enumerates is at) = let h = holder m leaf (either_form m form) (name_in m leaf named) in absurd (no_enumerator n h.0 leaf is at h.1 h.2)
  declares_once m n leaf (Names p form inside part named) (Names q other there piece called) = some_one (sym (at_outermost m p leaf form inside part named) ∙ at_outermost n q leaf other there piece called)

  declared_at : (low high : ℕ) (ds : List Declared) (d : Declared) → Rises s low high ds → In d ds → (m : ℕ) × (low ≤ m) × Declares s m d.node
  declared_at low high [] d h i = absurd i
  declared_at low high (x ∷ xs) d h (inl same) = (h.0, h.1, subst (λ (y : Declared). Declares s h.0 y.node) same h.2)
  declared_at low high (x ∷ xs) d h (inr more) = let r = declared_at (h.0 + 1) high xs d h.3 more in (r.0, (let a = r.1 in let b = h.1 in omega (arith, a, b)), r.2)

  -- so each declaration is the one of its leaf
  pub entry_is : (low high : ℕ) (ds : List Declared) (d : Declared) → Rises s low high ds → In d ds → entry_of ds d.node ≡ Some d
  entry_is low high [] d h i = absurd i
  entry_is low high (x ∷ xs) d h i = by (nat_eq x.node d.node) refl i (entry_is (h.0 + 1) high xs d h.3)
    where
      by : (b : Bool) → nat_eq x.node d.node ≡ b → (x ≡ d) ⊎ In d xs → (In d xs → entry_of xs d.node ≡ Some d) → cond b (Some x) (find (λ (y : Declared). y.node == d.node) xs) ≡ Some d
      by true e (inl same) later = ap Some same
      by true e (inr more) later =
          let r = declared_at (h.0 + 1) high xs d h.3 more in
          let same : r.0 ≡ h.0 = declares_once r.0 h.0 d.node r.2 (subst (λ (n : ℕ). Declares s h.0 n) (eqb-true x.node d.node e) h.2) in
          absurd (let le = r.1 in omega (arith, le, same))
      by false e (inl same) later = absurd (no_both (nat_eq x.node d.node) (eq-eqb x.node d.node (ap (λ (y : Declared). y.node) same)) e)
      by false e (inr more) later = later more

-- what is found by a leaf is one of those that are declared
pub found_entry : (leaf : ℕ) (ds : List Declared) (y : Declared) → entry_of ds leaf ≡ Some y → In y ds × (y.node ≡ leaf)
found_entry leaf [] y e = cc
found_entry leaf (x ∷ xs) y e = by (nat_eq x.node leaf) refl e (found_entry leaf xs y)
  where
    by : (b : Bool) → nat_eq x.node leaf ≡ b → cond b (Some x) (find (λ (d : Declared). d.node == leaf) xs) ≡ Some y → (entry_of xs leaf ≡ Some y → In y xs × (y.node ≡ leaf)) → In y (x ∷ xs) × (y.node ≡ leaf)
    by true h k later = let same : x ≡ y = some_one k in (inl same, ap (λ (d : Declared). d.node) (sym same) ∙ eqb-true x.node leaf h)
    by false h k later = let r = later k in (inr r.0, r.1)
