-- Node by node, what is known of functions comes from parameter lists.
use Rattle.std.proofs.Common.{arith, ◌≡◌, ◌<◌, ◌≤◌, ◌+◌, ◌⊎◌, inl, inr, ℕ, suc, ◌==◌, ◌||◌, nat_eq, Bool, true, false, cond, List, [], ◌∷◌, ◌++◌, Option, Some, None, length, slice_get, refl, sym, ap, ◌∙◌, subst}
use Rattle.std.specs.Prelude.{filter, if◌then◌else◌}
use Rattle.std.proofs.lemmas.Bool.{eqb-true, eq-eqb}
use Rattle.c_lexer.specs.declared.Token.{Token}
use Rattle.c_grammar.specs.Reads.{Node}
use Rattle.c_grammar.specs.Terminals.{contains}
use Rattle.c_mentions.specs.declared.declarators.Derivation.{Derivation}
use Rattle.c_mentions.specs.declared.declarators.Derivation.TheVariants.{Bare, Function, Other}
use Rattle.c_mentions.specs.declared.mentions.Mention.{Mention}
use Rattle.c_mentions.specs.declared.mentions.Mention.TheVariants as mention
use Rattle.c_mentions.specs.declared.roles.TagUse.{TagUse}
use Rattle.c_mentions.specs.declared.roles.TagUse.TheVariants as tag
use Rattle.c_mentions.specs.Settings.{Standing, standings}
use Rattle.c_scope.specs.declared.kinds.Declared.{Declared}
use Rattle.c_scope.specs.declared.kinds.NameFault.TheVariants as fault
use Rattle.c_scope.specs.Known.{Happening, Known, known, nothing_known, after, after_use, after_tag, after_tag_use, after_tag_reference, after_label, after_goto, innermost, latest, last_of, or_else, is_at, those_at, tag_declared, first_scope, declared_by, first_label, is_first, with_fault, is_function}
use Rattle.c_scope.specs.Resolves.{bindings, happenings, happenings_from}
use Rattle.c_senses.specs.Tree.{paired}
use Rattle.declaration_laws.proofs.definition_laws.linkage_laws.Origins.{HasOrigin, mentioned}
use Rattle.declaration_laws.specs.definition_laws.function_origins.Origins.{In, IsFunctionBy, Listed, Typed, FunctionsCome}

-- ---- lists

in_left : (d : Declared) (xs ys : List Declared) → In d xs → In d (xs ++ ys)
in_left d [] ys h = absurd h
in_left d (x ∷ xs) ys (inl e) = inl e
in_left d (x ∷ xs) ys (inr h) = inr (in_left d xs ys h)

in_last : (d : Declared) (xs : List Declared) → In d (xs ++ d ∷ [])
in_last d [] = inl refl
in_last d (x ∷ xs) = inr (in_last d xs)

in_push : (d e : Declared) (xs : List Declared) → In d (xs ++ e ∷ []) → In d xs ⊎ (e ≡ d)
in_push d e [] (inl same) = inr same
in_push d e [] (inr h) = absurd h
in_push d e (x ∷ xs) (inl same) = inl (inl same)
in_push d e (x ∷ xs) (inr h) = elim (in_push d e xs h) [ inl i ↦ inl (inr i) | inr same ↦ inr same ]

pushed : (n m : ℕ) (list : List ℕ) → contains (list ++ n ∷ []) m ≡ true → (contains list m ≡ true) ⊎ (n ≡ m)
pushed n m [] h = by (nat_eq n m) refl h
  where
    by : (b : Bool) → nat_eq n m ≡ b → (b || false) ≡ true → (false ≡ true) ⊎ (n ≡ m)
    by true e k = inr (eqb-true n m e)
    by false e k = inl k
pushed n m (x ∷ list) h = by (nat_eq x m) h (pushed n m list)
  where
    by : (b : Bool) → (b || contains (list ++ n ∷ []) m) ≡ true → (contains (list ++ n ∷ []) m ≡ true → (contains list m ≡ true) ⊎ (n ≡ m)) → ((b || contains list m) ≡ true) ⊎ (n ≡ m)
    by true k later = inl refl
    by false k later = later k

-- ---- the innermost declaration is one of those that are known

last_in : (before : Option Declared) (ds : List Declared) (d : Declared) → last_of before ds ≡ Some d → (before ≡ Some d) ⊎ In d ds
last_in before [] d e = inl e
last_in before (x ∷ ds) d e = elim (last_in (Some x) ds d e) [ inl same ↦ inr (inl (let is : x ≡ d = cc in is)) | inr h ↦ inr (inr h) ]

filter_in : (test : Declared → Bool) (ds : List Declared) (d : Declared) → In d (filter test ds) → In d ds
filter_in test [] d h = absurd h
filter_in test (x ∷ xs) d h = by (test x) h (filter_in test xs d)
  where
    by : (b : Bool) → In d (cond b (x ∷ filter test xs) (filter test xs)) → (In d (filter test xs) → In d xs) → In d (x ∷ xs)
    by true (inl here) later = inl here
    by true (inr more) later = inr (later more)
    by false i later = inr (later i)

latest_in : (scope symbol : ℕ) (ds : List Declared) (d : Declared) → latest scope symbol ds ≡ Some d → In d ds
latest_in scope symbol ds d e = by (last_in None (those_at scope symbol ds) d e)
  where
    by : (None ≡ Some d) ⊎ In d (those_at scope symbol ds) → In d ds
    by (inl never) = cc
    by (inr h) = filter_in (is_at scope symbol) ds d h

innermost_in : (scopes : List ℕ) (symbol : ℕ) (ds : List Declared) (d : Declared) → innermost scopes symbol ds ≡ Some d → In d ds
innermost_in [] symbol ds d e = cc
innermost_in (scope ∷ scopes) symbol ds d e = by (latest scope symbol ds) refl e (innermost_in scopes symbol ds d)
  where
    by : (o : Option Declared) → latest scope symbol ds ≡ o → or_else o (innermost scopes symbol ds) ≡ Some d → (innermost scopes symbol ds ≡ Some d → In d ds) → In d ds
    by None at k later = later k
    by (Some x) at k later = latest_in scope symbol ds d (at ∙ k)

-- ---- uses

stays : (uses more : List (ℕ × ℕ)) (m y : ℕ) → paired uses m ≡ Some y → paired (uses ++ more) m ≡ Some y
stays [] more m y e = cc
stays (p ∷ uses) more m y e = by (p.0 == m) e (stays uses more m y)
  where
    by : (b : Bool) → (if b then Some p.1 else paired uses m) ≡ Some y → (paired uses m ≡ Some y → paired (uses ++ more) m ≡ Some y) → (if b then Some p.1 else paired (uses ++ more) m) ≡ Some y
    by true k later = k
    by false k later = later k

own_pair : (uses : List (ℕ × ℕ)) (n x : ℕ) → paired uses n ≡ None → paired (uses ++ (n, x) ∷ []) n ≡ Some x
own_pair [] n x e = ap (λ (b : Bool). if b then Some x else None) (eq-eqb n n refl)
own_pair (p ∷ uses) n x e = by (p.0 == n) e (own_pair uses n x)
  where
    by : (b : Bool) → (if b then Some p.1 else paired uses n) ≡ None → (paired uses n ≡ None → paired (uses ++ (n, x) ∷ []) n ≡ Some x) → (if b then Some p.1 else paired (uses ++ (n, x) ∷ []) n) ≡ Some x
    by true k later = cc
    by false k later = later k

other_pair : (uses : List (ℕ × ℕ)) (n x j : ℕ) → n < j → paired uses j ≡ None → paired (uses ++ (n, x) ∷ []) j ≡ None
other_pair [] n x j lt e = by (n == j) refl
  where
    by : (b : Bool) → (n == j) ≡ b → (if b then Some x else None) ≡ None
    by true k = let same : n ≡ j = eqb-true n j k in absurd (omega (arith, lt, same))
    by false k = refl
other_pair (p ∷ uses) n x j lt e = by (p.0 == j) e (other_pair uses n x j lt)
  where
    by : (b : Bool) → (if b then Some p.1 else paired uses j) ≡ None → (paired uses j ≡ None → paired (uses ++ (n, x) ∷ []) j ≡ None) → (if b then Some p.1 else paired (uses ++ (n, x) ∷ []) j) ≡ None
    by true k later = cc
    by false k later = later k

module _ (text : List ℕ) (tokens : List Token) (nodes : List Node) where
  abbrev Origin : Declared → Type 0
  Origin d = HasOrigin text tokens nodes d

  abbrev By : List (ℕ × ℕ) → List Declared → Declared → Type 0
  By uses names d = IsFunctionBy text tokens nodes uses names d

  abbrev all : List Standing
  all = standings tokens nodes 0 nodes

  -- with more that is known
  by_more : {uses other : List (ℕ × ℕ)} {names more : List Declared} {d : Declared} → ((m y : ℕ) → paired uses m ≡ Some y → paired other m ≡ Some y) → ((x : Declared) → In x names → In x more) → By uses names d → By other more d
  by_more u i (Listed h e) = Listed h e
  by_more u i (Typed n t h o bare type pair inside lt b) = Typed n t h o bare type (u n t.node pair) (i t inside) lt (by_more u i b)

  -- what is known of a use that means a function
  record Means (uses : List (ℕ × ℕ)) (names : List Declared) (m : ℕ) : Type 0 where
    declared : Declared
    inside : In declared names
    came : Origin declared
    before : came.node < m
    pair : paired uses m ≡ Some declared.node
    by : By uses names declared

  record Entry (n : ℕ) (uses : List (ℕ × ℕ)) (names : List Declared) (d : Declared) : Type 0 where
    came : Origin d
    before : came.node < n
    by : d.is_function ≡ true → By uses names d

  record Kept (n : ℕ) (k : Known) : Type 0 where
    names : (d : Declared) → In d k.names → Entry n k.uses k.names d
    functions : (m : ℕ) → contains k.functions m ≡ true → Means k.uses k.names m
    later : (j : ℕ) → n ≤ j → paired k.uses j ≡ None

  -- names and functions stay, and uses may come
  more_uses : (n : ℕ) (k : Known) (x : ℕ) → Kept n k → Kept (suc n) (record k { uses = k.uses ++ (n, x) ∷ [] })
  more_uses n k x h =
      let stay : (m y : ℕ) → paired k.uses m ≡ Some y → paired (k.uses ++ (n, x) ∷ []) m ≡ Some y = λ m y e. stays k.uses ((n, x) ∷ []) m y e in
      record {
        names = λ d i. (let e = h.names d i in record { came = e.came; before = (let lt = e.before in omega (arith, lt)); by = λ f. by_more (λ m y q. stays k.uses ((n, x) ∷ []) m y q) (λ z j. j) (e.by f) });
        functions = λ m c. (let f = h.functions m c in record {
          declared = f.declared;
          inside = f.inside;
          came = f.came;
          before = f.before;
          pair = stays k.uses ((n, x) ∷ []) m f.declared.node f.pair;
          by = by_more (λ i y q. stays k.uses ((n, x) ∷ []) i y q) (λ z j. j) f.by;
        });
        later = λ j le. other_pair k.uses n x j (omega (arith, le)) (h.later j (omega (arith, le)));
      }

  plain : (n : ℕ) (k l : Known) → k.names ≡ l.names → k.uses ≡ l.uses → k.functions ≡ l.functions → Kept n k → Kept (suc n) l
  plain n k l en eu ef h = record {
    names = λ d i. (let e = h.names d (subst (λ (ds : List Declared). In d ds) (sym en) i) in record {
      came = e.came;
      before = (let lt = e.before in omega (arith, lt));
      by = λ f. subst (λ (ds : List Declared). By l.uses ds d) en (subst (λ (us : List (ℕ × ℕ)). By us k.names d) eu (e.by f));
    });
    functions = λ m c. (let f = h.functions m (ap (λ (list : List ℕ). contains list m) ef ∙ c) in record {
      declared = f.declared;
      inside = subst (λ (ds : List Declared). In f.declared ds) en f.inside;
      came = f.came;
      before = f.before;
      pair = ap (λ (us : List (ℕ × ℕ)). paired us m) (sym eu) ∙ f.pair;
      by = subst (λ (ds : List Declared). By l.uses ds f.declared) en (subst (λ (us : List (ℕ × ℕ)). By us k.names f.declared) eu f.by);
    });
    later = λ j le. ap (λ (us : List (ℕ × ℕ)). paired us j) (sym eu) ∙ h.later j (omega (arith, le));
  }

  used : (n : ℕ) (exempt : Bool) (o : Option Declared) (k : Known) → ((d : Declared) → o ≡ Some d → In d k.names) → Kept n k → Kept (suc n) (after_use n exempt o k)
  used n true None k i h = plain n k k refl refl refl h
  used n false None k i h = plain n k (with_fault (fault.Undeclared n) k) refl refl refl h
  used n exempt (Some d) k i h = by d.is_function refl
    where
      more : Kept (suc n) (record k { uses = k.uses ++ (n, d.node) ∷ [] })
      more = more_uses n k d.node h

      by : (b : Bool) → d.is_function ≡ b → Kept (suc n) (record k { uses = k.uses ++ (n, d.node) ∷ []; functions = if b then k.functions ++ n ∷ [] else k.functions })
      by false e = record { names = more.names; functions = more.functions; later = more.later }
      by true e = record { names = more.names; functions = λ m c. pick m (pushed n m k.functions c); later = more.later }
        where
          pick : (m : ℕ) → (contains k.functions m ≡ true) ⊎ (n ≡ m) → Means (k.uses ++ (n, d.node) ∷ []) k.names m
          pick m (inl old) = more.functions m old
          pick m (inr same) =
              let entry = h.names d (i d refl) in
              let own = more.names d (i d refl) in
              subst (λ (j : ℕ). Means (k.uses ++ (n, d.node) ∷ []) k.names j) same
              (record { declared = d; inside = i d refl; came = entry.came; before = entry.before; pair = own_pair k.uses n d.node (h.later n (omega arith)); by = own.by e })

  tagged : (n symbol : ℕ) (scopes : List ℕ) (how : TagUse) (k : Known) → Kept n k → Kept (suc n) (after_tag (length nodes) n symbol scopes how k)
  tagged n symbol scopes tag.Declares k h = plain n k (after_tag (length nodes) n symbol scopes tag.Declares k) refl refl refl h
  tagged n symbol scopes tag.Refers k h = by (innermost scopes symbol k.tags)
    where
      by : (o : Option Declared) → Kept (suc n) (after_tag_reference n (tag_declared n symbol (first_scope (length nodes) scopes)) o k)
      by None = plain n k (after_tag_reference n (tag_declared n symbol (first_scope (length nodes) scopes)) None k) refl refl refl h
      by (Some d) = more_uses n k d.node h
  tagged n symbol scopes tag.Uses k h = by (innermost scopes symbol k.tags)
    where
      by : (o : Option Declared) → Kept (suc n) (after_tag_use n o k)
      by None = plain n k (with_fault (fault.Undeclared n) k) refl refl refl h
      by (Some d) = more_uses n k d.node h

  labelled : (n : ℕ) (first : Option ℕ) (k : Known) → Kept n k → Kept (suc n) (after_label n first k)
  labelled n first k h = by (is_first n first)
    where
      by : (b : Bool) → Kept (suc n) (if b then k else with_fault (fault.Redeclared n) k)
      by true = plain n k k refl refl refl h
      by false = plain n k (with_fault (fault.Redeclared n) k) refl refl refl h

  gone : (n : ℕ) (first : Option ℕ) (k : Known) → Kept n k → Kept (suc n) (after_goto n first k)
  gone n None k h = plain n k (with_fault (fault.Undeclared n) k) refl refl refl h
  gone n (Some first) k h = plain n k (after_goto n (Some first) k) refl refl refl h

  -- a declaration
  by_derivation : (k : Known) (names : List Declared) (d : Declared) (h : Origin d) (derivation : Derivation) (type_name : Option ℕ) → h.derivation ≡ derivation → h.type_name ≡ type_name → ((m : ℕ) → contains k.functions m ≡ true → Means k.uses names m)
      → is_function k.functions derivation type_name ≡ true → By k.uses names d
  by_derivation k names d h Function type_name e f functions is = Listed h e
  by_derivation k names d h Other type_name e f functions is = cc
  by_derivation k names d h Bare None e f functions is = cc
  by_derivation k names d h Bare (Some m) e f functions is = let r = functions m is in Typed m r.declared h r.came e f r.pair r.inside r.before r.by

  declared : (n : ℕ) (d : Declared) (k : Known) (h : Origin d) → h.node ≡ n → (d.is_function ≡ true → ((m : ℕ) → contains k.functions m ≡ true → Means k.uses (k.names ++ d ∷ []) m) → By k.uses (k.names ++ d ∷ []) d) → Kept n k
      → (l : Known) → l.names ≡ k.names ++ d ∷ [] → l.uses ≡ k.uses → l.functions ≡ k.functions → Kept (suc n) l
  declared n d k o at own h l en eu ef =
      let grow : (x : Declared) → In x k.names → In x (k.names ++ d ∷ []) = λ x i. in_left x k.names (d ∷ []) i in
      let functions : (m : ℕ) → contains k.functions m ≡ true → Means k.uses (k.names ++ d ∷ []) m
      = λ m c. (let f = h.functions m c in record {
        declared = f.declared;
        inside = in_left f.declared k.names (d ∷ []) f.inside;
        came = f.came;
        before = f.before;
        pair = f.pair;
        by = by_more (λ i y q. q) (λ x i. in_left x k.names (d ∷ []) i) f.by;
      }) in
      let more : (x : Declared) → In x k.names ⊎ (d ≡ x) → Entry (suc n) k.uses (k.names ++ d ∷ []) x
      = λ x w. elim w [
        | inl i ↦ let e = h.names x i in record { came = e.came; before = (let lt = e.before in omega (arith, lt)); by = λ f. by_more (λ i y q. q) (λ z j. in_left z k.names (d ∷ []) j) (e.by f) }
        | inr same ↦ subst (λ (y : Declared). Entry (suc n) k.uses (k.names ++ d ∷ []) y) same (record { came = o; before = omega (arith, at); by = λ f. own f functions })
      ] in
      record {
        names = λ x i. subst (λ (ds : List Declared). Entry (suc n) l.uses ds x) (sym en) (subst (λ (us : List (ℕ × ℕ)). Entry (suc n) us (k.names ++ d ∷ []) x) (sym eu) (more x (in_push x d k.names (subst (λ (ds : List Declared). In x ds) en i))));
        functions = λ m c. subst (λ (ds : List Declared). Means l.uses ds m) (sym en) (subst (λ (us : List (ℕ × ℕ)). Means us (k.names ++ d ∷ []) m) (sym eu) (functions m (ap (λ (list : List ℕ). contains list m) (sym ef) ∙ c)));
        later = λ j le. ap (λ (us : List (ℕ × ℕ)). paired us j) eu ∙ h.later j (omega (arith, le));
      }

  step : (labels : ℕ → ℕ → Option ℕ) (n : ℕ) (st : Standing) (k : Known) → slice_get all n ≡ Some st → (m : Mention) → mentioned text tokens nodes n st ≡ m → Kept n k → Kept (suc n) (after (length nodes) labels n st.scopes st.body m k)
  step labels n st k at mention.Nothing e h = plain n k k refl refl refl h
  step labels n st k at (mention.Use symbol exempt) e h = used n exempt (innermost st.scopes symbol k.names) k (λ d q. innermost_in st.scopes symbol k.names d q) h
  step labels n st k at (mention.Tag symbol how) e h = tagged n symbol st.scopes how k h
  step labels n st k at (mention.Label symbol) e h = labelled n (labels st.body symbol) k h
  step labels n st k at (mention.Goto symbol) e h = gone n (labels st.body symbol) k h
  step labels n st k at (mention.Declares leaf symbol linkage derivation type_name) e h =
      let d : Declared = declared_by (length nodes) leaf symbol linkage derivation type_name (first_scope (length nodes) st.scopes) k in
      let o : Origin (declared_by (length nodes) leaf symbol linkage derivation type_name (first_scope (length nodes) st.scopes) k)
      = record { node = n; standing = st; stands = at; leaf = leaf; symbol = symbol; linkage = linkage; derivation = derivation; type_name = type_name; before = k; mentions = e; is = refl } in
      declared n d k o refl (λ f functions. by_derivation k (k.names ++ d ∷ []) d o derivation type_name refl refl functions f) h
      (after (length nodes) labels n st.scopes st.body (mention.Declares leaf symbol linkage derivation type_name) k) refl refl refl

  steps : (labels : ℕ → ℕ → Option ℕ) (n : ℕ) (k : Known) (ss : List Standing) → ((j : ℕ) (st : Standing) → slice_get ss j ≡ Some st → slice_get all (n + j) ≡ Some st) → Kept n k
      → (high : ℕ) × Kept high (known (length nodes) labels n k (happenings_from text tokens nodes n ss))
  steps labels n k [] at h = (n, h)
  steps labels n k (st ∷ ss) at h =
      let own = step labels n st k (let none : n + 0 ≡ n = omega arith in subst (λ (x : ℕ). slice_get all x ≡ Some st) none (at 0 st refl)) (mentioned text tokens nodes n st) refl h in
      let one : suc n ≡ n + 1 = omega arith in
      steps labels (n + 1) _ ss (λ j x e. let plus : n + suc j ≡ n + 1 + j = omega arith in subst (λ (y : ℕ). slice_get all y ≡ Some x) plus (at (suc j) x e))
      (subst (λ (x : ℕ). Kept x (after (length nodes) labels n st.scopes st.body (mentioned text tokens nodes n st) k)) one own)

  nothing : Kept 0 nothing_known
  nothing = record { names = λ d i. absurd i; functions = λ m c. never c; later = λ j le. refl }
    where
      never : {A : Type 0} → false ≡ true → A
      never e = cc

  all_kept : (high : ℕ) × Kept high (bindings text tokens nodes)
  unfolding bindings happenings
  all_kept =
      let hs : List Happening = happenings_from text tokens nodes 0 all in
      steps (first_label 0 hs) 0 nothing_known all (λ j st e. let none : 0 + j ≡ j = omega arith in subst (λ (x : ℕ). slice_get all x ≡ Some st) (sym none) e) nothing

pub functions_come : FunctionsCome
functions_come text tokens nodes d i function = let h = all_kept text tokens nodes in let e = h.1.names d i in e.by function
