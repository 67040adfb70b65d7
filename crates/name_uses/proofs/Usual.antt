-- What the names of a unit mean whose rows fit.
use Rattle.std.proofs.Common.{◌≡◌, ◌<◌, ℕ, zero, suc, ℤ, pos, ◌+ℤ◌, eqb, Bool, true, false, cond, not, ◌==◌, nat_lt, List, [], ◌∷◌, ◌++◌, filter, length, take, slice_get, Option, Some, None, option_map, option_and_then, refl, sym, ap, ◌∙◌, subst}
use Rattle.std.specs.Prelude.{◌&&◌, ⊤, if◌then◌else◌}
use Rattle.std.proofs.lemmas.Bool.{eqb-true, lt-ltb}
use Rattle.std.proofs.lemmas.Option.{get_or_from_slice_get}
use Rattle.pta_base.specs.declared.kind.Kind.TheVariants.{Operand}
use Rattle.parsed_tree_laws.proofs.sense_laws.Types.{anything}
use Rattle.c_types.specs.Trees.{Ctype}
use Rattle.c_grammar.specs.declared.trees.SyntaxNode.{SyntaxNode}
use Rattle.c_grammar.specs.Productions.{p_enumerator, p_conditional, p_primary}
use Rattle.c_scope.specs.declared.kinds.Declared.{Declared}
use Rattle.c_scope.specs.Known.{those_at, is_at}
use Rattle.c_senses.specs.Tree.{Source, is_a, production_at, production_of, parent_of, paired, child_of, is_identifier, kind_at}
use Rattle.c_senses.specs.Names.{all_linked, linked_along, linked_before, made_before, ordinary_at, scopes_at}
use Rattle.c_senses.specs.Given.{Given, Fits}
use Rattle.c_senses.specs.World.{World, Meaning, Object, Function, TypeName, Value}
use Rattle.c_senses.specs.Limits.{is_function_type}
use Rattle.c_senses.specs.Sense.{Sense, IsValue, Nothing, sense_in}
use Rattle.c_senses.specs.Constants.{constant_in}
use Rattle.c_senses.specs.Tags.{enumerator_row, enumerator_of, enumerator_named, before_enumerator, value_before}
use Rattle.c_senses.specs.Rows.{world_at, row_of, AreSenses}
use Rattle.c_senses.specs.Entities.{keep, first_of, last_of, internal_among, is_internal, is_internal_of, entity_of, named_by, has_earlier_length, object_or_function, declared_meaning, is_typedef, own_type, type_behind, enumerated, meaning_of, meaning_at}
use Rattle.parsed_tree_laws.specs.sense_laws.Sound.{Gives}
use Rattle.parsed_tree_laws.proofs.sense_laws.Giving.{if_holds, if_given, then_gives}
use Rattle.name_uses.specs.Built.{is_int, is_strange, alone_is_strange, first_is_strange, names_strangely}

-- declarations by nodes of a tree of so many
module _ (n : ℕ) where
  abbrev pub AllBelow : List Declared → Type 0
  AllBelow [] = ⊤
  AllBelow (d ∷ rest) = (d.node < n) × AllBelow rest

  pub below_each : (ds : List Declared) → ((k : ℕ) (d : Declared) → slice_get ds k ≡ Some d → d.node < n) → AllBelow ds
  below_each [] each = tt
  below_each (d ∷ rest) each = (each 0 d refl, below_each rest (λ k x e. each (suc k) x e))

  below_if : (t : Bool) (xs ys : List Declared) → AllBelow xs → AllBelow ys → AllBelow (cond t xs ys)
  below_if true xs ys h k = h
  below_if false xs ys h k = k

  below_append : (xs ys : List Declared) → AllBelow xs → AllBelow ys → AllBelow (xs ++ ys)
  below_append [] ys h k = k
  below_append (x ∷ xs) ys h k = (h.0, below_append xs ys h.1 k)

  below_made : (leaf : ℕ) (ds : List Declared) → AllBelow ds → AllBelow (made_before leaf ds)
  below_made leaf [] h = tt
  below_made leaf (d ∷ rest) h = below_if (d.node == leaf) [] (d ∷ made_before leaf rest) tt (h.0, below_made leaf rest h.1)

  below_filter : (test : Declared → Bool) (ds : List Declared) → AllBelow ds → AllBelow (filter test ds)
  below_filter test [] h = tt
  below_filter test (d ∷ rest) h = below_if (test d) (d ∷ filter test rest) (filter test rest) (h.0, below_filter test rest h.1) (below_filter test rest h.1)

  below_linked : (scopes : List ℕ) (symbol : ℕ) (ds : List Declared) → AllBelow ds → AllBelow (linked_along scopes symbol ds)
  below_linked [] symbol ds h = tt
  below_linked (scope ∷ scopes) symbol ds h =
      let here = those_at scope symbol ds in
      let outer = linked_along scopes symbol ds in
      below_if (all_linked here) (outer ++ here) [] (below_append outer here (below_linked scopes symbol ds h) (below_filter (is_at scope symbol) ds h)) tt

  below_if_number : (t : Bool) (a b : ℕ) → a < n → b < n → cond t a b < n
  below_if_number true a b h k = h
  below_if_number false a b h k = k

  module _ (s : Source) (sense : ℕ → Sense) (all : AllBelow s.declared.ordinary) where
    below_before : (o : Option Declared) → AllBelow (linked_before s o)
    below_before None = tt
    below_before (Some d) = below_linked (scopes_at s d.node) d.symbol (made_before d.node s.declared.ordinary) (below_made d.node s.declared.ordinary all)

    last_below : (leaf : ℕ) (ds : List Declared) → leaf < n → AllBelow ds → last_of s sense leaf ds < n
    last_below leaf [] h k = h
    last_below leaf (d ∷ rest) h k = last_below d.node rest k.0 k.1

    named_below : (leaf : ℕ) → leaf < n → named_by s sense leaf < n
    named_below leaf h =
        below_if_number (has_earlier_length s sense leaf) (last_of s sense leaf (linked_before s (ordinary_at s leaf))) leaf (last_below leaf (linked_before s (ordinary_at s leaf)) h (below_before (ordinary_at s leaf))) h

    keep_below : (test : Declared → Bool) (ds : List Declared) → AllBelow ds → AllBelow (keep s sense test ds)
    keep_below test [] h = tt
    keep_below test (d ∷ rest) h = below_if (test d) (d ∷ keep s sense test rest) (keep s sense test rest) (h.0, keep_below test rest h.1) (keep_below test rest h.1)

    among_below : (o : Option Declared) → AllBelow (internal_among s sense s.declared.ordinary o)
    among_below None = tt
    among_below (Some d) = keep_below (is_internal_of s sense d.symbol) s.declared.ordinary all

    first_below : (leaf : ℕ) (ds : List Declared) → leaf < n → AllBelow ds → first_of s sense leaf ds < n
    first_below leaf [] h k = h
    first_below leaf (d ∷ rest) h k = k.0

    entity_below : (leaf : ℕ) → leaf < n → entity_of s sense leaf < n
    entity_below leaf h =
        below_if_number (is_internal s sense leaf) (first_of s sense leaf (internal_among s sense s.declared.ordinary (ordinary_at s leaf))) leaf (first_below leaf (internal_among s sense s.declared.ordinary (ordinary_at s leaf)) h (among_below (ordinary_at s leaf))) h

    -- what a declaration makes its name mean
    not_strange : (e : ℕ) → e < n → not (nat_lt e n) ≡ false
    not_strange e h = ap not (lt-ltb e n h)

    object_usual : (e : ℕ) (t : Ctype) → e < n → is_strange n (Some (object_or_function s sense e t)) ≡ false
    object_usual e t h = by_type (is_function_type t)
      where
        by_type : (b : Bool) → is_strange n (Some (cond b (Function e t) (Object e t))) ≡ false
        by_type true = refl
        by_type false = not_strange e h

    typed_usual : (e : ℕ) (o : Option Ctype) → e < n → is_strange n (option_map (object_or_function s sense e) o) ≡ false
    typed_usual e None h = refl
    typed_usual e (Some t) h = object_usual e t h

    type_usual : (o : Option Ctype) → is_strange n (option_map TypeName o) ≡ false
    type_usual None = refl
    type_usual (Some t) = refl

    declared_usual : (leaf : ℕ) → leaf < n → is_strange n (declared_meaning s sense leaf) ≡ false
    declared_usual leaf h =
        if_holds (λ (m : Option Meaning). is_strange n m ≡ false) (is_typedef s sense leaf) _ _ (λ e. type_usual (own_type s sense leaf))
        (λ e. typed_usual (entity_of s sense (named_by s sense leaf)) (type_behind s sense leaf) (entity_below (named_by s sense leaf) (named_below leaf h)))

    module _ (ints : (p : ℕ) → is_a s p_enumerator p ≡ true → is_strange n (enumerated s sense p) ≡ false) where
      meaning_usual : (leaf : ℕ) → leaf < n → is_strange n (meaning_of s sense leaf) ≡ false
      meaning_usual leaf h = by_parent (parent_of s leaf)
        where
          by_parent : (o : Option ℕ) → is_strange n (elim o as (λ _. Option Meaning) [ None ↦ None | Some p ↦ if is_a s p_enumerator p then enumerated s sense p else declared_meaning s sense leaf ]) ≡ false
          by_parent None = refl
          by_parent (Some p) = if_holds (λ (m : Option Meaning). is_strange n m ≡ false) (is_a s p_enumerator p) _ _ (λ e. ints p e) (λ e. declared_usual leaf h)

      pub use_usual : (i : ℕ) → ((d : ℕ) → paired s.uses i ≡ Some d → d < n) → is_strange n (meaning_at s sense i) ≡ false
      use_usual i within = by_use (paired s.uses i) refl
        where
          by_use : (o : Option ℕ) → paired s.uses i ≡ o → is_strange n (option_and_then (meaning_of s sense) o) ≡ false
          by_use None e = refl
          by_use (Some leaf) e = meaning_usual leaf (within leaf e)

-- 6.7.2.2: the value of an enumerator
abbrev IsUsualValue : Sense → Type 0
IsUsualValue (IsValue k) = is_int k ≡ true
IsUsualValue x = ⊤

enumerator_usual : (w : World) (s : Source) (sense : ℕ → Sense) (at : ℕ) (children : List ℕ) → Gives IsUsualValue (enumerator_row w s sense at children)
enumerator_usual w s sense at [] = tt
enumerator_usual w s sense at (leaf ∷ rest) = by_expression (child_of s p_conditional at)
  where
    by_value : (k : ℤ) → Gives IsUsualValue (enumerator_of w s sense at leaf k)
    by_value k = if_given IsUsualValue (is_int k) Operand leaf (Fits (IsValue k)) (λ e. e)

    by_expression : (o : Option ℕ) → Gives IsUsualValue (enumerator_named w s sense at leaf o)
    by_expression None = by_value (value_before w s sense (before_enumerator w s sense at) +ℤ pos 1)
    by_expression (Some e) = then_gives (λ k. ⊤) IsUsualValue (constant_in w s at (sense e)) (enumerator_of w s sense at leaf) (anything (constant_in w s at (sense e))) (λ k t. by_value k)

given_is : (P : Sense → Type 0) (g : Given Sense) (x : Sense) → g ≡ Fits x → Gives P g → P x
given_is P g x e h = subst (λ (k : Given Sense). Gives P k) e h

module _ (s : Source) (senses : List Sense) (are : AreSenses s senses) where
  here : (p : ℕ) (node : SyntaxNode) (x : Sense) → slice_get s.nodes p ≡ Some node → slice_get senses p ≡ Some x → is_a s p_enumerator p ≡ true → IsUsualValue x
  here p node x at is h =
      let w = world_at s (take p senses) p in
      let f = sense_in (take p senses) in
      given_is IsUsualValue (enumerator_row w s f p node.children.items) x
      (subst (λ (q : ℕ). row_of w s f q p node.children.items ≡ Fits x) (sym (ap production_of at) ∙ eqb-true (production_at s p) p_enumerator h) (are.each p node x at is))
      (enumerator_usual w s f p node.children.items)

  at_node : (p : ℕ) (o : Option SyntaxNode) (x : Sense) → slice_get s.nodes p ≡ o → slice_get senses p ≡ Some x → is_a s p_enumerator p ≡ true → IsUsualValue x
  at_node p (Some node) x at is h = here p node x at is h
  at_node p None x at is h =
      let no : eqb (production_of None) p_enumerator ≡ true = ap (λ (o : Option SyntaxNode). eqb (production_of o) p_enumerator) (sym at) ∙ h in
      absurd (let f : eqb (production_of None) p_enumerator ≡ false = refl in cc)

  at_sense : (p : ℕ) (o : Option Sense) → slice_get senses p ≡ o → is_a s p_enumerator p ≡ true → IsUsualValue (sense_in senses p)
  at_sense p (Some x) is h = subst IsUsualValue (sym (get_or_from_slice_get senses p x Nothing is)) (at_node p (slice_get s.nodes p) x refl is h)
  at_sense p None is h = subst IsUsualValue (sym (past senses p is)) tt
    where
      past : (xs : List Sense) (i : ℕ) → slice_get xs i ≡ None → sense_in xs i ≡ Nothing
      past [] i e = refl
      past (x ∷ xs) zero e = cc
      past (x ∷ xs) (suc i) e = past xs i e

  by_sense : (n : ℕ) (x : Sense) → IsUsualValue x → is_strange n (elim x as (λ _. Option Meaning) [ IsValue k ↦ Some (Value k) | _ ↦ None ]) ≡ false
  by_sense n (IsValue k) h = ap not h
  by_sense n x h = refl

  pub ints_usual : (n p : ℕ) → is_a s p_enumerator p ≡ true → is_strange n (enumerated s (sense_in senses) p) ≡ false
  ints_usual n p h = by_sense n (sense_in senses p) (at_sense p (slice_get senses p) refl h)

and_false : (a b : Bool) → b ≡ false → (a && b) ≡ false
and_false true b e = e
and_false false b e = refl

-- the name that a primary is
pub first_usual : (w : World) (s : Source) (children : List ℕ) → ((leaf : ℕ) → is_strange (length s.nodes) (w.meaning leaf) ≡ false) → first_is_strange w s children ≡ false
first_usual w s [] h = refl
first_usual w s (first ∷ rest) h = and_false (is_identifier (kind_at s first)) (alone_is_strange w s first rest) (alone_usual rest)
  where
    alone_usual : (rest : List ℕ) → alone_is_strange w s first rest ≡ false
    alone_usual [] = h first
    alone_usual (c ∷ rest) = refl

pub names_usual : (w : World) (s : Source) (production : ℕ) (children : List ℕ) → ((leaf : ℕ) → is_strange (length s.nodes) (w.meaning leaf) ≡ false) → names_strangely w s production children ≡ false
names_usual w s production children h = and_false (production == p_primary) (first_is_strange w s children) (first_usual w s children h)
