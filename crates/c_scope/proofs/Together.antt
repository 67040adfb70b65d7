-- The declarations of a name in a scope taken together, and a map that says them.
use Rattle.std.proofs.Common.{◌≡◌, ℕ, ◌<◌, ◌≤◌, Bool, true, false, ◌||◌, not, eqb, Option, Some, None, List, [], ◌∷◌, ◌++◌, filter, cond, refl, sym, ap, subst, ◌∙◌, arith, append-nil, eqb-true}
use Rattle.std.specs.List.{list_any, slice_get}
use Rattle.std.proofs.lemmas.Bool.{and_parts}
use Rattle.std.specs.BTreeMap.{BTreeMap}
use Rattle.c_scope.specs.declared.kinds.Kind.{Kind}
use Rattle.c_scope.specs.declared.kinds.Kind.TheVariants.{Linked, Typedef, Plain}
use Rattle.c_scope.specs.declared.places.Entry.{Entry}
use Rattle.c_scope.specs.declared.places.Found.{Found}
use Rattle.c_mentions.specs.declared.settings.Scope.{Scope}
use Rattle.c_scope.specs.declared.kinds.Declared.{Declared}
use Rattle.c_scope.specs.Known.{is_at, those_at, last_of, latest, or_else, innermost, agrees, clashes}
use Rattle.c_scope.specs.Places.{merged, joined, clash, entry_of, together, entry_at, entry_after, Says, seen, found_of}
use Rattle.c_mentions.specs.Settings.{IsChain}

together-push : (before : Option Entry) (xs : List Declared) (d : Declared) → together before (xs ++ d ∷ []) ≡ Some (joined (together before xs) (entry_of d))
together-push before [] d = refl
together-push before (x ∷ xs) d = together-push (Some (joined before (entry_of x))) xs d

kept : {X : Type 0} (b : Bool) (x : X) (xs ys zs : List X) → xs ≡ ys ++ zs → cond b (x ∷ xs) xs ≡ cond b (x ∷ ys) ys ++ zs
kept true x xs ys zs e = ap (λ l. x ∷ l) e
kept false x xs ys zs e = e

filter-push : {X : Type 0} (p : X → Bool) (xs : List X) (d : X) → filter p (xs ++ d ∷ []) ≡ filter p xs ++ cond (p d) (d ∷ []) []
filter-push p [] d = (elim (p d) as (λ b. cond b (d ∷ []) [] ≡ cond b (d ∷ []) []) [ true ↦ refl | false ↦ refl ])
filter-push p (x ∷ xs) d = kept (p x) x (filter p (xs ++ d ∷ [])) (filter p xs) (cond (p d) (d ∷ []) []) (filter-push p xs d)

-- behind a declaration more
together_more : (b : Bool) (xs : List Declared) (d : Declared) → together None (xs ++ cond b (d ∷ []) []) ≡ cond b (Some (joined (together None xs) (entry_of d))) (together None xs)
together_more true xs d = together-push None xs d
together_more false xs d = ap (together None) (append-nil xs)

pub says_more : (old new : BTreeMap (ℕ × ℕ) Entry) (ds : List Declared) (d : Declared) (entry : Entry) → Says old ds
    → ((scope symbol : ℕ) → entry_at new scope symbol ≡ entry_after old d.scope d.symbol (joined (entry_at old d.scope d.symbol) (entry_of d)) scope symbol)
    → Says new (ds ++ d ∷ [])
says_more old new ds d entry h f scope symbol =
    let here = entry_of d in
    let b : Bool = is_at scope symbol d in
    f scope symbol
    ∙ ((elim b as (λ t. is_at scope symbol d ≡ t → cond t (Some (joined (entry_at old d.scope d.symbol) here)) (entry_at old scope symbol) ≡ cond t (Some (joined (together None (those_at scope symbol ds)) here)) (together None (those_at scope symbol ds))) [
      | true ↦ λ t. ap (λ o. Some (joined o here)) (same t ∙ h scope symbol)
      | false ↦ λ t. h scope symbol
    ]) refl
    ∙ (sym (together_more b (those_at scope symbol ds) d) ∙ ap (together None) (sym (filter-push (is_at scope symbol) ds d))))
  where
    same : is_at scope symbol d ≡ true → entry_at old d.scope d.symbol ≡ entry_at old scope symbol
    same t = let p = and_parts (eqb d.scope scope) (eqb d.symbol symbol) t in ap (λ n. entry_at old n d.symbol) (eqb-true d.scope scope p.0) ∙ ap (λ n. entry_at old scope n) (eqb-true d.symbol symbol p.1)

-- whether the declarations taken together clash with a further one
clash_merged : (a b k : Kind) → not (agrees (merged a b) k) ≡ not (agrees a k) || not (agrees b k)
clash_merged Linked Linked Linked = refl
clash_merged Linked Linked Typedef = refl
clash_merged Linked Linked Plain = refl
clash_merged Linked Typedef Linked = refl
clash_merged Linked Typedef Typedef = refl
clash_merged Linked Typedef Plain = refl
clash_merged Linked Plain Linked = refl
clash_merged Linked Plain Typedef = refl
clash_merged Linked Plain Plain = refl
clash_merged Typedef Linked Linked = refl
clash_merged Typedef Linked Typedef = refl
clash_merged Typedef Linked Plain = refl
clash_merged Typedef Typedef Linked = refl
clash_merged Typedef Typedef Typedef = refl
clash_merged Typedef Typedef Plain = refl
clash_merged Typedef Plain Linked = refl
clash_merged Typedef Plain Typedef = refl
clash_merged Typedef Plain Plain = refl
clash_merged Plain Linked k = refl
clash_merged Plain Typedef k = refl
clash_merged Plain Plain k = refl

clash_joined : (before : Option Entry) (e : Entry) (k : Kind) → clash (Some (joined before e)) k ≡ clash before k || not (agrees e.kind k)
clash_joined None e k = refl
clash_joined (Some before) e k = clash_merged before.kind e.kind k

or-assoc : (a b c : Bool) → (a || b) || c ≡ a || (b || c)
or-assoc true b c = refl
or-assoc false b c = refl

or_none : (a : Bool) → a ≡ a || false
or_none true = refl
or_none false = refl

pub clash_together : (before : Option Entry) (xs : List Declared) (k : Kind) → clash (together before xs) k ≡ clash before k || list_any (clashes k) xs
clash_together before [] k = or_none (clash before k)
clash_together before (x ∷ xs) k =
    clash_together (Some (joined before (entry_of x))) xs k
    ∙ (ap (λ b. b || list_any (clashes k) xs) (clash_joined before (entry_of x) k) ∙ or-assoc (clash before k) (clashes k x) (list_any (clashes k) xs))

-- what the declarations taken together say to a use
abbrev pub seen_entry : Option Entry → Option Found
seen_entry None = None
seen_entry (Some e) = Some (seen e)

seen_joined : (before : Option Entry) (d : Declared) → seen (joined before (entry_of d)) ≡ record { node = d.node; is_function = d.is_function }
seen_joined None d = refl
seen_joined (Some before) d = refl

seen_together : (before : Option Entry) (last : Option Declared) (xs : List Declared) → seen_entry before ≡ found_of last → seen_entry (together before xs) ≡ found_of (last_of last xs)
seen_together before last [] e = e
seen_together before last (x ∷ xs) e = seen_together (Some (joined before (entry_of x))) (Some x) xs (ap Some (seen_joined before x))

pub latest_seen : (places : BTreeMap (ℕ × ℕ) Entry) (ds : List Declared) (scope symbol : ℕ) → Says places ds → seen_entry (entry_at places scope symbol) ≡ found_of (latest scope symbol ds)
latest_seen places ds scope symbol h = ap seen_entry (h scope symbol) ∙ seen_together None None (those_at scope symbol ds) refl

or_found : (one other : Option Declared) (f : Found) → found_of one ≡ Some f → found_of (or_else one other) ≡ Some f
or_found None other f e = absurd (cc)
or_found (Some d) other f e = e

or_none_found : (one other : Option Declared) → found_of one ≡ None → found_of (or_else one other) ≡ found_of other
or_none_found None other e = refl
or_none_found (Some d) other e = absurd (cc)

same_scope : (here other : Scope) (o : Option Scope) → o ≡ Some here → o ≡ Some other → here ≡ other
same_scope here other o e f = cc

module _ (places : BTreeMap (ℕ × ℕ) Entry) (scopes : List Scope) (ds : List Declared) (symbol : ℕ) (says : Says places ds) where
  here_seen : (here : Scope) (s : ℕ) → here.number ≡ s → seen_entry (entry_at places here.number symbol) ≡ found_of (latest s symbol ds)
  here_seen here s e = ap (λ n. seen_entry (entry_at places n symbol)) e ∙ latest_seen places ds s symbol says

  -- a scope from which no chain goes
  pub no_chain : (at : ℕ) (chain : List ℕ) → IsChain scopes at chain → slice_get scopes at ≡ None → ⊥
  no_chain at [] h e = h
  no_chain at (s ∷ []) h e = cc
  no_chain at (s ∷ t ∷ ss) h e = let g = h.2 in cc

  -- the scope itself has a declaration
  pub meant_here : (at : ℕ) (chain : List ℕ) (here : Scope) (entry : Entry) → IsChain scopes at chain → slice_get scopes at ≡ Some here → entry_at places here.number symbol ≡ Some entry → Some (seen entry) ≡ found_of (innermost chain symbol ds)
  meant_here at [] here entry h e f = absurd h
  meant_here at (s ∷ []) here entry h e f =
      let n = ap (λ (x : Scope). x.number) (same_scope here _ (slice_get scopes at) e h) in
      sym (or_found (latest s symbol ds) None (seen entry) (sym (here_seen here s n) ∙ ap seen_entry f))
  meant_here at (s ∷ t ∷ ss) here entry h e f =
      let n = ap (λ (x : Scope). x.number) (same_scope here _ (slice_get scopes at) e h.2) in
      sym (or_found (latest s symbol ds) (innermost (t ∷ ss) symbol ds) (seen entry) (sym (here_seen here s n) ∙ ap seen_entry f))

  -- it has none, and the chain goes on
  pub meant_outside : (at : ℕ) (chain : List ℕ) (here : Scope) (r : Option Found) → IsChain scopes at chain → slice_get scopes at ≡ Some here → entry_at places here.number symbol ≡ None → here.outer < at
      → ((rest : List ℕ) → IsChain scopes here.outer rest → r ≡ found_of (innermost rest symbol ds)) → r ≡ found_of (innermost chain symbol ds)
  meant_outside at [] here r h e f l g = absurd h
  meant_outside at (s ∷ []) here r h e f l g =
      let o : here.outer ≡ at = ap (λ (x : Scope). x.outer) (same_scope here _ (slice_get scopes at) e h) in
      absurd (omega arith)
  meant_outside at (s ∷ t ∷ ss) here r h e f l g =
      let n = ap (λ (x : Scope). x.number) (same_scope here _ (slice_get scopes at) e h.2) in
      let o = ap (λ (x : Scope). x.outer) (same_scope here _ (slice_get scopes at) e h.2) in
      g (t ∷ ss) (subst (λ k. IsChain scopes k (t ∷ ss)) (sym o) h.3) ∙ sym (or_none_found (latest s symbol ds) (innermost (t ∷ ss) symbol ds) (sym (here_seen here s n) ∙ ap seen_entry f))

  -- it has none, and the chain ends
  pub meant_nowhere : (at : ℕ) (chain : List ℕ) (here : Scope) → IsChain scopes at chain → slice_get scopes at ≡ Some here → entry_at places here.number symbol ≡ None → at ≤ here.outer → None ≡ found_of (innermost chain symbol ds)
  meant_nowhere at [] here h e f l = absurd h
  meant_nowhere at (s ∷ []) here h e f l =
      let n = ap (λ (x : Scope). x.number) (same_scope here _ (slice_get scopes at) e h) in
      sym (or_none_found (latest s symbol ds) None (sym (here_seen here s n) ∙ ap seen_entry f))
  meant_nowhere at (s ∷ t ∷ ss) here h e f l =
      let o : here.outer ≡ h.0 = ap (λ (x : Scope). x.outer) (same_scope here _ (slice_get scopes at) e h.2) in
      let k : h.0 < at = h.1 in
      absurd (omega arith)
