-- Chains of declarations, and more links and declarations behind them.
use Rattle.std.proofs.Common.{◌≡◌, ℕ, ◌<◌, ◌&&◌, Bool, true, false, eqb, Option, Some, None, List, [], ◌∷◌, ◌++◌, length, get_or, drop, ◌+◌, filter, cond, refl, sym, ap, subst, ◌∙◌, append-nil, append_assoc, eqb-true, add-one, drop-cons}
use Rattle.std.specs.BTreeMap.{BTreeMap}
use Rattle.std.proofs.lemmas.Bool.{and_parts}
use Rattle.std.proofs.lemmas.List.Elements.{filter-append}
use Rattle.c_scope.specs.declared.kinds.Declared.{Declared}
use Rattle.c_scope.specs.Known.{is_at, those_at}
use Rattle.c_senses.specs.Names.{all_linked, has_linkage, with_outer, linked_along}
use Rattle.name_chains.specs.declared.links.Link.{Link}
use Rattle.name_chains.specs.declared.chains.Joined.{Joined}
use Rattle.name_chains.specs.declared.chains.Chain.{Chain}
use Rattle.name_chains.specs.Links.{listed, IsLinkOf, Adds, Grows, AreBackward}
use Rattle.name_chains.specs.Chains.{chain_at, own_of, JoinedIs, IsJoined, JoinedSays, Keeps, ChainSays, ChainIs, AreWithin, Says}
use Rattle.name_chains.proofs.Linked.{added_list, added_link, adds_on, adds_none, listed-none}

pub filter-push : {X : Type 0} (p : X → Bool) (xs : List X) (d : X) → filter p (xs ++ d ∷ []) ≡ filter p xs ++ cond (p d) (d ∷ []) []
filter-push p xs d = filter-append p xs (d ∷ [])

and-assoc : (a b c : Bool) → (a && (b && c)) ≡ ((a && b) && c)
and-assoc true b c = refl
and-assoc false b c = refl

and-true : (a : Bool) → (a && true) ≡ a
and-true true = refl
and-true false = refl

pub all_linked-push : (xs : List Declared) (d : Declared) → all_linked (xs ++ d ∷ []) ≡ (all_linked xs && has_linkage d)
all_linked-push [] d = and-true (has_linkage d)
all_linked-push (x ∷ xs) d = ap (λ (b : Bool). has_linkage x && b) (all_linked-push xs d) ∙ and-assoc (has_linkage x) (all_linked xs) (has_linkage d)

pub all_with : (xs : List Declared) (d : Declared) → all_linked xs ≡ true → has_linkage d ≡ true → all_linked (xs ++ d ∷ []) ≡ true
all_with xs d e f = all_linked-push xs d ∙ (ap (λ (b : Bool). b && has_linkage d) e ∙ f)

and-false : (a b : Bool) → a ≡ false → (a && b) ≡ false
and-false a b e = ap (λ (x : Bool). x && b) e

pub some_without : (xs : List Declared) (d : Declared) → all_linked xs ≡ false → all_linked (xs ++ d ∷ []) ≡ false
some_without xs d e = all_linked-push xs d ∙ and-false (all_linked xs) (has_linkage d) e

false-and : (a b : Bool) → b ≡ false → (a && b) ≡ false
false-and true b e = e
false-and false b e = refl

pub one_without : (xs : List Declared) (d : Declared) → has_linkage d ≡ false → all_linked (xs ++ d ∷ []) ≡ false
one_without xs d e = all_linked-push xs d ∙ false-and (all_linked xs) (has_linkage d) e

-- a list behind another, with one declaration more
pub joined_push : (old new : List Link) (j : Joined) (last : Option ℕ) (those : List Declared) (d : Declared) → has_linkage d ≡ true → IsJoined old j those
    → listed new last ≡ listed old j.last ++ d ∷ [] → listed new j.base ≡ listed old j.base → IsJoined new (record { base = j.base; last = last }) (those ++ d ∷ [])
joined_push old new j last those d linked k list base = record {
  linked = all_with those d k.linked linked;
  list = list ∙ (ap (λ (t : List Declared). t ++ d ∷ []) k.list ∙ (append_assoc (listed old j.base) those (d ∷ []) ∙ ap (λ (t : List Declared). t ++ (those ++ d ∷ [])) (sym base)));
}

-- what is kept while links are added
module _ (old new : List Link) (a : Adds old new) where
  pub joined_is_kept : (j : Option Joined) → JoinedIs old j → JoinedIs new j
  joined_is_kept None h = tt
  joined_is_kept (Some j) h = (added_link old new a j.base h.0, added_link old new a j.last h.1)

  pub joined_says_kept : (j : Option Joined) (those : List Declared) → JoinedIs old j → JoinedSays old j those → JoinedSays new j those
  joined_says_kept None those h k = k
  joined_says_kept (Some j) those h k = record {
    linked = k.linked;
    list = added_list old new a j.last h.1 ∙ (k.list ∙ ap (λ (t : List Declared). t ++ those) (sym (added_list old new a j.base h.0)));
  }

module _ (own own' old new : List Link) (b : Adds own own') (a : Adds old new) where
  pub chain_is_kept : (c : Option Chain) → ChainIs own old c → ChainIs own' new c
  chain_is_kept None h = tt
  chain_is_kept (Some c) h = (added_link own own' b c.own h.0, joined_is_kept old new a c.joined h.1)

  pub chain_says_kept : (c : Option Chain) (those : List Declared) → ChainIs own old c → ChainSays own old c those → ChainSays own' new c those
  chain_says_kept None those h k = k
  chain_says_kept (Some c) those h k = record {
    list = added_list own own' b c.own h.0 ∙ k.list;
    joined = joined_says_kept old new a c.joined those h.1 k.joined;
  }

pub within_kept : (own own' old new : List Link) → Adds own own' → Adds old new → (chains : BTreeMap (ℕ × ℕ) Chain) → AreWithin own old chains → AreWithin own' new chains
within_kept own own' old new b a chains h = record { each = λ scope symbol. chain_is_kept own own' old new b a (chain_at chains scope symbol) (h.each scope symbol) }

pub says_kept : (own own' old new : List Link) → Adds own own' → Adds old new → (chains : BTreeMap (ℕ × ℕ) Chain) (ds : List Declared) → AreWithin own old chains → Says own old chains ds → Says own' new chains ds
says_kept own own' old new b a chains ds h k = record {
  each = λ scope symbol. chain_says_kept own own' old new b a (chain_at chains scope symbol) (those_at scope symbol ds) (h.each scope symbol) (k.each scope symbol);
}

-- a list grows by the links of others
pub grows_none : (own old : List Link) → AreBackward old → Grows own old old
grows_none own old back = record { adds = adds_none old back; leaves = λ n h k. k }

pub grows_on : (own a b c : List Link) → Grows own a b → Grows own b c → Grows own a c
grows_on own a b c h k = record { adds = adds_on a b c h.adds k.adds; leaves = λ n x y. k.leaves n x (h.leaves n x y) }

-- those of a scope behind those of the scopes around
pub outer_alone : (outer : List Declared) → outer ≡ with_outer [] outer
outer_alone outer = sym (append-nil outer)

pub outer_hidden : (those outer : List Declared) → all_linked those ≡ false → ◌≡◌ {A = List Declared} [] (with_outer those outer)
outer_hidden those outer e = sym (ap (λ (b : Bool). cond b (outer ++ those) []) e)

pub outer_seen : (those outer all : List Declared) → all_linked those ≡ true → all ≡ outer ++ those → all ≡ with_outer those outer
outer_seen those outer all e f = f ∙ sym (ap (λ (b : Bool). cond b (outer ++ those) []) e)

pub along_step : (scopes : List ℕ) (at symbol d : ℕ) (ds : List Declared) → at < length scopes
    → with_outer (those_at (get_or scopes at d) symbol ds) (linked_along (drop (at + 1) scopes) symbol ds) ≡ linked_along (drop at scopes) symbol ds
along_step scopes at symbol d ds h = sym (ap (λ (t : List ℕ). linked_along t symbol ds) (drop-cons scopes at d h ∙ ap (λ (n : ℕ). get_or scopes at d ∷ drop n scopes) (sym (add-one at))))

-- the list of a scope's own declarations
pub own_listed : (own links : List Link) (c : Option Chain) (those : List Declared) → ChainSays own links c those → listed own (own_of c) ≡ those
own_listed own links None those h = listed-none own ∙ sym h
own_listed own links (Some c) those h = h.list

pub own_is : (own links : List Link) (c : Option Chain) → ChainIs own links c → IsLinkOf own (own_of c)
own_is own links None h = tt
own_is own links (Some c) h = h.0

pub joined_of : (own links : List Link) (c : Option Chain) (d : Chain) → c ≡ Some d → ChainIs own links c → JoinedIs links d.joined
joined_of own links c d e h = (subst (ChainIs own links) e h).1

module _ (own own' links links' : List Link) (b : Adds own own') (a : Adds links links') (chains chains' : BTreeMap (ℕ × ℕ) Chain) (d : Declared) (c : Chain)
    (put : (other sign : ℕ) → chain_at chains' other sign ≡ cond (eqb d.scope other && eqb d.symbol sign) (Some c) (chain_at chains other sign)) where
  -- the chain of another name or scope stays
  at_others : (within : AreWithin own links chains) (scope symbol : ℕ) → ChainIs own' links' (chain_at chains scope symbol)
  at_others within scope symbol = chain_is_kept own own' links links' b a (chain_at chains scope symbol) (within.each scope symbol)

  pub within_more : AreWithin own links chains → ChainIs own' links' (Some c) → AreWithin own' links' chains'
  within_more within h = record {
    each = λ scope symbol. rw (put scope symbol)
        ((elim (eqb d.scope scope && eqb d.symbol symbol) as (λ t. ChainIs own' links' (cond t (Some c) (chain_at chains scope symbol))) [
          | true ↦ h
          | false ↦ at_others within scope symbol
        ]));
  }

  pub says_more : (ds : List Declared) → AreWithin own links chains → Says own links chains ds → Keeps own' links' c (those_at d.scope d.symbol ds ++ d ∷ []) → Says own' links' chains' (ds ++ d ∷ [])
  says_more ds within says keeps = record { each = λ scope symbol. at scope symbol (eqb d.scope scope && eqb d.symbol symbol) refl }
    where
      here : (scope symbol : ℕ) → (eqb d.scope scope && eqb d.symbol symbol) ≡ true → Keeps own' links' c (those_at scope symbol ds ++ d ∷ [])
      here scope symbol e =
          let p = and_parts (eqb d.scope scope) (eqb d.symbol symbol) e in
          subst (λ (n : ℕ). Keeps own' links' c (those_at n symbol ds ++ d ∷ [])) (eqb-true d.scope scope p.0)
          (subst (λ (n : ℕ). Keeps own' links' c (those_at d.scope n ds ++ d ∷ [])) (eqb-true d.symbol symbol p.1) keeps)

      pushed : (scope symbol : ℕ) (t : Bool) → (eqb d.scope scope && eqb d.symbol symbol) ≡ t → those_at scope symbol (ds ++ d ∷ []) ≡ those_at scope symbol ds ++ cond t (d ∷ []) []
      pushed scope symbol t e = filter-push (is_at scope symbol) ds d ∙ ap (λ (u : Bool). those_at scope symbol ds ++ cond u (d ∷ []) []) e

      found : (scope symbol : ℕ) (t : Bool) → (eqb d.scope scope && eqb d.symbol symbol) ≡ t → chain_at chains' scope symbol ≡ cond t (Some c) (chain_at chains scope symbol)
      found scope symbol t e = put scope symbol ∙ ap (λ (u : Bool). cond u (Some c) (chain_at chains scope symbol)) e

      at : (scope symbol : ℕ) (t : Bool) → (eqb d.scope scope && eqb d.symbol symbol) ≡ t → ChainSays own' links' (chain_at chains' scope symbol) (those_at scope symbol (ds ++ d ∷ []))
      at scope symbol true e =
          subst (λ (o : Option Chain). ChainSays own' links' o (those_at scope symbol (ds ++ d ∷ []))) (sym (found scope symbol true e))
          (subst (λ (l : List Declared). Keeps own' links' c l) (sym (pushed scope symbol true e)) (here scope symbol e))
      at scope symbol false e =
          subst (λ (o : Option Chain). ChainSays own' links' o (those_at scope symbol (ds ++ d ∷ []))) (sym (found scope symbol false e))
          (subst (λ (l : List Declared). ChainSays own' links' (chain_at chains scope symbol) l) (sym (pushed scope symbol false e ∙ append-nil (those_at scope symbol ds)))
          (chain_says_kept own own' links links' b a (chain_at chains scope symbol) (those_at scope symbol ds) (within.each scope symbol) (says.each scope symbol)))
