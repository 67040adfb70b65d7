-- What names mean behind declarations, and what the map of meanings says.
use Rattle.std.proofs.Common.{◌≡◌, ℕ, Bool, true, false, Option, Some, None, List, [], ◌∷◌, ◌++◌, map, cond, refl, sym, ap, ◌∙◌, subst, append_assoc, append-nil, rules}
use Rattle.std.specs.Global.{Vec}
use Rattle.std.specs.Prelude.{codes}
use Rattle.std.specs.Option.{IsSome, unwrap_or}
use Rattle.std.specs.BTreeMap.{BTreeMap, UpdatesBy, is_at}
use Rattle.std.specs.List.{flat_map}
use Rattle.std.specs.Ordering.{nat_cmp}
use Rattle.std.specs.Map.{lookup, IsKeyTest, AreApart, KeepsOthers}
use Rattle.std.specs.Str.{bytes_eq}
use Rattle.std.specs.Cmp.Lexicographic.{slice_cmp, bytes_decides, nat_list_eq_equiv}
use Rattle.std.proofs.lemmas.Map.Text.{is_eq-slice_cmp}
use Rattle.std.proofs.lemmas.Bool.{cases_Bool, cond-true, cond-false}
use mathlib.Core.Logic.{⊎_elim}
use Rattle.c_grammar.specs.declared.scopes.Declared.{Declared}
use Rattle.c_grammar.specs.Names.{Declaration, meaning, scope_of, is_type}
use Rattle.c_grammar.specs.declared.current.Current.{Current}
use Rattle.c_grammar.specs.Current.{place_in, meant_at, known, Indexed, Means}
use Rattle.c_grammar.specs.Log.{seen, seen_all, seen_scope, itself, log, Recorded, Restores, Says, Kept, Forgets}

pub meaning-append : (b : Option Bool) (xs ys : List Declaration) (n : List ℕ) → meaning b (xs ++ ys) n ≡ meaning (meaning b xs n) ys n
meaning-append b [] ys n = refl
meaning-append b (x ∷ xs) ys n = meaning-append (cond (bytes_eq x.0 n) (Some x.1) b) xs ys n

seen-append : (xs ys : List Declared) → seen_all (xs ++ ys) ≡ seen_all xs ++ seen_all ys
seen-append [] ys = refl
seen-append (x ∷ xs) ys = ap (λ l. seen x ∷ l) (seen-append xs ys)

-- the declarations of the open scopes as clauses see them
pub log_seen : (enclosing : List (Vec Declared)) (innermost : List Declared) → seen_all (log enclosing innermost) ≡ flat_map scope_of (map seen_scope enclosing) ++ seen_all innermost
log_seen [] innermost = refl
log_seen (s ∷ enclosing) innermost =
    ap seen_all (append_assoc s.items (flat_map itself enclosing) innermost)
    ∙ (seen-append s.items (log enclosing innermost)
    ∙ (ap (λ l. seen_all s.items ++ l) (log_seen enclosing innermost)
    ∙ sym (append_assoc (seen_all s.items) (flat_map scope_of (map seen_scope enclosing)) (seen_all innermost))))

recorded-append : (e xs ys : List Declared) → Recorded e xs → Recorded (e ++ xs) ys → Recorded e (xs ++ ys)
recorded-append e [] ys h k = subst (λ l. Recorded l ys) (append-nil e) k
recorded-append e (x ∷ xs) ys h k = (h.0, recorded-append (e ++ x ∷ []) xs ys h.1 (subst (λ l. Recorded l ys) (sym (append_assoc e (x ∷ []) xs)) k))

recorded_front : (e xs ys : List Declared) → Recorded e (xs ++ ys) → Recorded e xs
recorded_front e [] ys h = tt
recorded_front e (x ∷ xs) ys h = (h.0, recorded_front (e ++ x ∷ []) xs ys h.1)

recorded_back : (e xs ys : List Declared) → Recorded e (xs ++ ys) → Recorded (e ++ xs) ys
recorded_back e [] ys h = subst (λ l. Recorded l ys) (sym (append-nil e)) h
recorded_back e (x ∷ xs) ys h = subst (λ l. Recorded l ys) (append_assoc e (x ∷ []) xs) (recorded_back (e ++ x ∷ []) xs ys h.1)

-- what a name means behind one declaration more
meaning_one : (ds : List Declared) (d : Declared) (n : List ℕ) → meaning None (seen_all (ds ++ d ∷ [])) n ≡ cond (bytes_eq d.name.items n) (Some d.is_type) (meaning None (seen_all ds) n)
meaning_one ds d n = ap (λ l. meaning None l n) (seen-append ds (d ∷ [])) ∙ meaning-append None (seen_all ds) (seen d ∷ []) n

choose_same : (b : Bool) (x y : Option Bool) → (b ≡ true → x ≡ y) → cond b x y ≡ y
choose_same true x y f = f refl
choose_same false x y f = refl

choose_inner : (b : Bool) (x y z : Option Bool) → cond b x (cond b y z) ≡ cond b x z
choose_inner true x y z = refl
choose_inner false x y z = refl

some_meant : (meant : List (Option Bool)) (o : Option ℕ) (b : Bool) → meant_at meant o ≡ Some b → IsSome o
some_meant meant None b h = let e : ◌≡◌ {A = Option Bool} None (Some b) = h in absurd (cc)
some_meant meant (Some place) b h = search rules

-- a declaration more
pub says_more : (e ds : List Declared) (d : Declared) (m m' : Current) → Says e ds m → d.before ≡ known m d.name.items
    → ((q : List ℕ) → known m' q ≡ cond (bytes_eq d.name.items q) (Some d.is_type) (known m q)) → Says e (ds ++ d ∷ []) m'
says_more e ds d m m' h b k = (
  recorded-append e ds (d ∷ []) h.0 (b ∙ h.1 d.name.items, tt),
  λ q. k q ∙ (ap (λ x. cond (bytes_eq d.name.items q) (Some d.is_type) x) (h.1 q)
      ∙ (sym (meaning_one (e ++ ds) d q) ∙ ap (λ l. meaning None (seen_all l) q) (append_assoc e ds (d ∷ [])))),
)

-- the last declaration is taken back
pub says_less : (e ds : List Declared) (d : Declared) (m m' : Current) → Says e (ds ++ d ∷ []) m → Restores m d.name.items d.before m' → Says e ds m'
says_less e ds d m m' h r =
    let one : (q : List ℕ) → known m q ≡ cond (bytes_eq d.name.items q) (Some d.is_type) (meaning None (seen_all (e ++ ds)) q)
    = λ q. h.1 q ∙ (ap (λ l. meaning None (seen_all l) q) (sym (append_assoc e ds (d ∷ []))) ∙ meaning_one (e ++ ds) d q) in
    let back = recorded_back e ds (d ∷ []) h.0 in
    let own : known m d.name.items ≡ Some d.is_type = one d.name.items ∙ cond-true (bytes_eq d.name.items d.name.items) (Some d.is_type) (meaning None (seen_all (e ++ ds)) d.name.items) (nat_list_eq_equiv.refl d.name.items) in
    let there = some_meant m.meant.items (place_in m.places d.name.items) d.is_type own in (
      recorded_front e ds (d ∷ []) h.0,
      λ q. r there q ∙ (ap (λ x. cond (bytes_eq d.name.items q) d.before x) (one q)
          ∙ (choose_inner (bytes_eq d.name.items q) d.before (Some d.is_type) (meaning None (seen_all (e ++ ds)) q)
          ∙ choose_same (bytes_eq d.name.items q) d.before (meaning None (seen_all (e ++ ds)) q) (λ y. back.0 ∙ ap (λ l. meaning None (seen_all (e ++ ds)) l) ((bytes_decides d.name.items q).0 y)))),
    )

-- after a change at some bytes, which the test finds, a look-up of any bytes
apart : (bs cs ks : List ℕ) → bytes_eq bs cs ≡ false → bytes_eq bs ks ≡ true → bytes_eq cs ks ≡ false
apart bs cs ks n y = nat_list_eq_equiv.symm cs ks ∙ (sym (nat_list_eq_equiv.congr bs ks cs y) ∙ n)

-- what is found at some bytes by comparing and by testing
pub found_at : {X : Type 0} (bs : List ℕ) (es : List (Vec ℕ × X)) → lookup (is_at (λ k. slice_cmp nat_cmp bs k.items)) es ≡ lookup (λ k. bytes_eq bs k.items) es
found_at bs [] = refl
found_at bs (e ∷ es) = rw (is_eq-slice_cmp bs e.0.items) (ap (λ o. cond (bytes_eq bs e.0.items) (Some e.1) o) (found_at bs es))

module _ {K : Type 0} (eq : K → K → Bool) (test : K → Bool) where
  other_entries : {X : Type 0} (old new : List (K × X)) → KeepsOthers eq test old new → (other : K → Bool) → IsKeyTest eq other → AreApart test other → lookup other new ≡ lookup other old
  unfolding KeepsOthers
  other_entries old new h = h

by_bytes : {W : Type 0} (f g : List ℕ → W) (bs : List ℕ) (w : W) → g bs ≡ w → ((cs : List ℕ) → bytes_eq bs cs ≡ false → g cs ≡ f cs) → (cs : List ℕ) → g cs ≡ cond (bytes_eq bs cs) w (f cs)
by_bytes f g bs w here other cs =
    ⊎_elim
    (λ y. subst (λ l. g l ≡ w) ((bytes_decides bs cs).0 y) here ∙ sym (cond-true (bytes_eq bs cs) w (f cs) y))
    (λ n. other cs n ∙ sym (cond-false (bytes_eq bs cs) w (f cs) n))
    (cases_Bool (bytes_eq bs cs))

pub updates_bytes : {X : Type 0} (bs : List ℕ) (m n : BTreeMap (Vec ℕ) X) (w : Option X) → UpdatesBy (λ x y. slice_cmp nat_cmp x.items y.items) (λ k. slice_cmp nat_cmp bs k.items) m n w
    → (cs : List ℕ) → lookup (λ k. bytes_eq cs k.items) n.entries ≡ cond (bytes_eq bs cs) w (lookup (λ k. bytes_eq cs k.items) m.entries)
updates_bytes bs m n w h = by_bytes (λ ds. lookup (λ k. bytes_eq ds k.items) m.entries) (λ ds. lookup (λ k. bytes_eq ds k.items) n.entries) bs w (sym (found_at bs n.entries) ∙ h.1)
    (λ cs e. other_entries _ _ _ _ h.3 _ (λ x y l. nat_list_eq_equiv.congr cs x.items y.items l ∙ sym (is_eq-slice_cmp x.items y.items)) (λ k l. apart bs cs k.items e (sym (is_eq-slice_cmp bs k.items) ∙ l)))

log_left : (es : List (Vec Declared)) (s : Vec Declared) → flat_map itself (es ++ s ∷ []) ≡ log es s.items
log_left [] s = append-nil s.items
log_left (e ∷ es) s = ap (λ l. e.items ++ l) (log_left es s) ∙ sym (append_assoc e.items (flat_map itself es) s.items)

-- the innermost scope is taken back, and the one around it is the innermost
pub kept_left : (enclosing new : List (Vec Declared)) (innermost : List Declared) (scope : Vec Declared) (m m' : Current) → enclosing ≡ new ++ scope ∷ [] → Kept enclosing innermost m → Forgets innermost m m' → Indexed m'
    → Kept new scope.items m'
kept_left enclosing new innermost scope m m' e k f indexed =
    let xs : List Declared = flat_map itself enclosing in
    let h = f xs (recorded_back [] xs innermost k.says.0, k.says.1) in
    let g : xs ≡ log new scope.items = ap (λ l. flat_map itself l) e ∙ log_left new scope in
    record { says = (subst (λ l. Recorded [] l) g (recorded_front [] xs innermost k.says.0), λ q. h.1 q ∙ ap (λ l. meaning None (seen_all l) q) (append-nil xs ∙ g)); indexed = indexed }

-- the innermost scope declares a name more
pub kept_more : (enclosing : List (Vec Declared)) (innermost new : List Declared) (d : Declared) (m m' : Current) → new ≡ innermost ++ d ∷ [] → Kept enclosing innermost m → d.before ≡ known m d.name.items
    → ((q : List ℕ) → known m' q ≡ cond (bytes_eq d.name.items q) (Some d.is_type) (known m q)) → Indexed m' → Kept enclosing new m'
kept_more enclosing innermost new d m m' e k b f indexed =
    let g : log enclosing innermost ++ d ∷ [] ≡ log enclosing new = append_assoc (flat_map itself enclosing) innermost (d ∷ []) ∙ ap (λ l. flat_map itself enclosing ++ l) (sym e) in
    record { says = subst (λ l. Says [] l m') g (says_more [] (log enclosing innermost) d m m' k.says b f); indexed = indexed }

-- the entries say what they said
pub kept_same : (enclosing : List (Vec Declared)) (innermost : List Declared) (m m' : Current) → Kept enclosing innermost m → ((q : List ℕ) → known m' q ≡ known m q) → Indexed m' → Kept enclosing innermost m'
kept_same enclosing innermost m m' k f indexed = record { says = (k.says.0, λ q. f q ∙ k.says.1 q); indexed = indexed }

pub is_type_kept : (enclosing : List (Vec Declared)) (innermost : List Declared) (m : Current) (name : List ℕ) → Kept enclosing innermost m
    → is_type (record { enclosing = map seen_scope enclosing; innermost = seen_all innermost }) name ≡ unwrap_or (known m name) (bytes_eq name (codes "__builtin_va_list"))
unfolding is_type
is_type_kept enclosing innermost m name k = ap (λ l. unwrap_or (meaning None l name) (bytes_eq name (codes "__builtin_va_list"))) (sym (log_seen enclosing innermost)) ∙ ap (λ o. unwrap_or o (bytes_eq name (codes "__builtin_va_list"))) (sym (k.says.1 name))
