-- Where names are declared that are known, and which declarations their uses mean.
use Rattle.std.proofs.Common.{arith, ◌≡◌, ◌<◌, ◌==◌, ◌||◌, ◌&&◌, nat_eq, ℕ, zero, suc, ◌+◌, Bool, true, false, cond, List, [], ◌∷◌, ◌++◌, Option, Some, None, length, slice_get, refl, sym, ap, ◌∙◌, subst, ◌⊎◌, inl, inr}
use Rattle.std.specs.Prelude.{⊤, nat_lt, filter, if◌then◌else◌}
use Rattle.std.specs.List.{find}
use Rattle.std.proofs.lemmas.Bool.{eqb-true}
use Rattle.c_lexer.specs.declared.Token.{Token}
use Rattle.c_grammar.specs.Reads.{Node}
use Rattle.c_grammar.specs.Terminals.{contains}
use Rattle.c_grammar.specs.Productions.{p_declarator, p_either, p_enumerator}
use Rattle.c_mentions.specs.declared.roles.Specifiers.{Specifiers}
use Rattle.c_mentions.specs.declared.roles.Role.{Role}
use Rattle.c_mentions.specs.declared.roles.Role.TheVariants as role
use Rattle.c_mentions.specs.declared.roles.TagUse.{TagUse}
use Rattle.c_mentions.specs.declared.roles.TagUse.TheVariants as tag
use Rattle.c_mentions.specs.declared.declarators.Derivation.{Derivation}
use Rattle.c_mentions.specs.declared.mentions.Linkage.{Linkage}
use Rattle.c_mentions.specs.declared.mentions.Linkage.TheVariants as linkage
use Rattle.c_mentions.specs.declared.mentions.Mention.{Mention}
use Rattle.c_mentions.specs.declared.mentions.Mention.TheVariants as mention
use Rattle.c_mentions.specs.Syntax as syntax
use Rattle.c_mentions.specs.Declarators.{declarator, within, level, name_of, inner_of, is_inner}
use Rattle.c_mentions.specs.Mentions.{mention_at, leaf_mention, name_used, label_used, is_type_word, is_list_word, end_mention, declarator_mention, enumerator_mention, at_leaf, name_declared, enumerator_leaf, name_at, is_exempt, linkage_of}
use Rattle.c_mentions.specs.Settings.{Standing, standings}
use Rattle.c_mentions.specs.Symbols.{symbol_of}
use Rattle.c_scope.specs.declared.kinds.Declared.{Declared}
use Rattle.c_scope.specs.declared.kinds.NameFault.TheVariants as fault
use Rattle.c_scope.specs.Known.{Known, known, nothing_known, after, after_use, after_tag, after_tag_use, after_tag_reference, after_label, after_goto, after_name, innermost, latest, last_of, those_at, is_at, or_else, tag_declared, first_scope, declared_by, first_label, is_first, with_fault, is_function, kind_of}
use Rattle.c_scope.specs.Resolves.{bindings, happenings, happening, happenings_from}
use Rattle.c_senses.specs.Names.{has_linkage, names_type, is_linked_kind}
use Rattle.c_senses.specs.Tree.{paired}
use Rattle.declaration_laws.specs.definition_laws.scope_laws.Beneath.{part, deeper}
use Rattle.declaration_laws.proofs.definition_laws.scope_laws.Tree.{further, compare, Order}
use Rattle.declaration_laws.proofs.definition_laws.scope_laws.Scopes.{Part, Below, IsOf, found_in, equal}
use Rattle.declaration_laws.proofs.definition_laws.scope_laws.Parameters.{IsInner, elsewhere}

-- ---- lists

abbrev pub Every : {A : Type 0} → (A → Type 0) → List A → Type 0
Every P [] = ⊤
Every P (x ∷ xs) = P x × Every P xs

abbrev pub In : {A : Type 0} → List A → A → Type 0
In xs x = (k : ℕ) × (slice_get xs k ≡ Some x)

every_more : {A : Type 0} (P : A → Type 0) (xs : List A) (x : A) → Every P xs → P x → Every P (xs ++ x ∷ [])
every_more P [] x h k = (k, tt)
every_more P (y ∷ ys) x h k = (h.0, every_more P ys x h.1 k)

every_on : {A : Type 0} (P Q : A → Type 0) (xs : List A) → ((x : A) → P x → Q x) → Every P xs → Every Q xs
every_on P Q [] f h = tt
every_on P Q (x ∷ xs) f h = (f x h.0, every_on P Q xs f h.1)

pub every_at : {A : Type 0} (P : A → Type 0) (xs : List A) (x : A) → Every P xs → In xs x → P x
every_at P [] x h (k, e) = cc
every_at P (y ∷ ys) x h (k, e) = by k e (λ j f. every_at P ys x h.1 (j, f))
  where
    by : (k : ℕ) → slice_get (y ∷ ys) k ≡ Some x → ((j : ℕ) → slice_get ys j ≡ Some x → P x) → P x
    by zero e later = subst P (let same : y ≡ x = cc in same) h.0
    by (suc k) e later = later k e

in_more : {A : Type 0} (xs : List A) (x y : A) → In xs y → In (xs ++ x ∷ []) y
in_more [] x y (k, e) = cc
in_more (z ∷ zs) x y (k, e) = by k e (λ j f. in_more zs x y (j, f))
  where
    by : (k : ℕ) → slice_get (z ∷ zs) k ≡ Some y → ((j : ℕ) → slice_get zs j ≡ Some y → In (zs ++ x ∷ []) y) → In (z ∷ (zs ++ x ∷ [])) y
    by zero e later = (0, e)
    by (suc k) e later = let m = later k e in (suc m.0, m.1)

in_filtered : (test : Declared → Bool) (ds : List Declared) (d : Declared) → In (filter test ds) d → In ds d × (test d ≡ true)
in_filtered test [] d (k, e) = cc
in_filtered test (x ∷ xs) d (k, e) = by (test x) refl k e (λ j f. in_filtered test xs d (j, f))
  where
    on : In xs d × (test d ≡ true) → In (x ∷ xs) d × (test d ≡ true)
    on h = ((suc h.0.0, h.0.1), h.1)

    by : (b : Bool) → test x ≡ b → (k : ℕ) → slice_get (cond b (x ∷ filter test xs) (filter test xs)) k ≡ Some d → ((j : ℕ) → slice_get (filter test xs) j ≡ Some d → In xs d × (test d ≡ true)) → In (x ∷ xs) d × (test d ≡ true)
    by true is zero e later = let same : x ≡ d = cc in ((0, e), subst (λ (y : Declared). test y ≡ true) same is)
    by true is (suc k) e later = on (later k e)
    by false is k e later = on (later k e)

last_in : (before : Option Declared) (ds : List Declared) (d : Declared) → last_of before ds ≡ Some d → (before ≡ Some d) ⊎ In ds d
last_in before [] d e = inl e
last_in before (x ∷ xs) d e = by (last_in (Some x) xs d e)
  where
    by : (Some x ≡ Some d) ⊎ In xs d → (before ≡ Some d) ⊎ In (x ∷ xs) d
    by (inl f) = inr (0, f)
    by (inr (k, f)) = inr (suc k, f)

both_true : (a b : Bool) → (a && b) ≡ true → (a ≡ true) × (b ≡ true)
both_true true b e = (refl, e)
both_true false b e = cc

latest_in : (scope symbol : ℕ) (ds : List Declared) (d : Declared) → latest scope symbol ds ≡ Some d → In ds d × (d.scope ≡ scope)
latest_in scope symbol ds d e = by (last_in None (those_at scope symbol ds) d e)
  where
    by : (None ≡ Some d) ⊎ In (those_at scope symbol ds) d → In ds d × (d.scope ≡ scope)
    by (inl f) = cc
    by (inr h) =
        let k = in_filtered (is_at scope symbol) ds d h in
        (k.0, eqb-true d.scope scope (both_true (d.scope == scope) (d.symbol == symbol) k.1).0)

-- the innermost declaration is one of a scope around
innermost_in : (scopes : List ℕ) (symbol : ℕ) (ds : List Declared) (d : Declared) → innermost scopes symbol ds ≡ Some d → In ds d × (contains scopes d.scope ≡ true)
innermost_in [] symbol ds d e = cc
innermost_in (scope ∷ scopes) symbol ds d e = by (latest scope symbol ds) refl e (λ f. innermost_in scopes symbol ds d f)
  where
    or_more : (a : Bool) → contains scopes d.scope ≡ true → (a || contains scopes d.scope) ≡ true
    or_more true h = refl
    or_more false h = h

    by : (o : Option Declared) → latest scope symbol ds ≡ o → or_else o (innermost scopes symbol ds) ≡ Some d → (innermost scopes symbol ds ≡ Some d → In ds d × (contains scopes d.scope ≡ true)) → In ds d × (contains (scope ∷ scopes) d.scope ≡ true)
    by (Some x) is e later =
        let h = latest_in scope symbol ds d (is ∙ e) in
        (h.0, ap (λ (b : Bool). b || contains scopes d.scope) (subst (λ (k : ℕ). nat_eq scope k ≡ true) (sym h.1) (equal scope)))
    by None is e later = let h = later e in (h.0, or_more (nat_eq scope d.scope) h.1)

-- what is found in a list passes
found_passes : (test : ℕ → Bool) (xs : List ℕ) (y : ℕ) → find test xs ≡ Some y → test y ≡ true
found_passes test [] y e = cc
found_passes test (x ∷ xs) y e = by (test x) refl e (λ f. found_passes test xs y f)
  where
    by : (b : Bool) → test x ≡ b → cond b (Some x) (find test xs) ≡ Some y → (find test xs ≡ Some y → test y ≡ true) → test y ≡ true
    by true is e later = let same : x ≡ y = cc in subst (λ (z : ℕ). test z ≡ true) same is
    by false is e later = later e

-- the place behind a list
none_past : {A : Type 0} (d : A) (j : ℕ) → slice_get [] j ≡ Some d → ⊥
none_past d j f = cc

push_at : {A : Type 0} (xs : List A) (x d : A) (i : ℕ) → slice_get (xs ++ x ∷ []) i ≡ Some d → (slice_get xs i ≡ Some d) ⊎ ((i ≡ length xs) × (x ≡ d))
push_at [] x d zero e = inr (refl, (let same : x ≡ d = cc in same))
push_at [] x d (suc i) e = absurd (none_past d i e)
push_at (y ∷ ys) x d zero e = inl e
push_at (y ∷ ys) x d (suc i) e = by (push_at ys x d i e)
  where
    by : (slice_get ys i ≡ Some d) ⊎ ((i ≡ length ys) × (x ≡ d)) → (slice_get ys i ≡ Some d) ⊎ ((suc i ≡ suc (length ys)) × (x ≡ d))
    by (inl f) = inl f
    by (inr (k, f)) = inr (ap suc k, f)

module _ (tokens : List Token) (nodes : List Node) (before : (i c : ℕ) → Part tokens nodes i c → c < i) (single : (i j c : ℕ) → Part tokens nodes i c → Part tokens nodes j c → i ≡ j) where
  abbrev pub S : List Standing
  S = standings tokens nodes 0 nodes

  abbrev pub file : ℕ
  file = length nodes

  abbrev pub IsDeclaring : ℕ → Type 0
  IsDeclaring m = (syntax.production_at nodes m == p_declarator || syntax.production_at nodes m == p_either) ≡ true

  abbrev pub StandsAt : ℕ → Standing → Type 0
  StandsAt m s = slice_get S m ≡ Some s

  -- at file scope a name has linkage, is a typedef name, a parameter, or an enumerator
  abbrev pub KindTold : ℕ → Standing → Declared → Type 0
  KindTold m s d = d.scope ≡ file → (has_linkage d ≡ true) ⊎ ((names_type d ≡ true) ⊎ ((s.role ≡ role.Parameter) ⊎ (Part tokens nodes m d.node × IsOf tokens nodes p_enumerator m)))

  -- a node that declares the name of a leaf: a declarator that isn't within another one, or an enumerator
  abbrev pub MakesName : ℕ → Standing → ℕ → Type 0
  MakesName m s leaf = (IsDeclaring m × ((declarator tokens nodes m).name ≡ Some leaf) × (s.role ≡ role.Elsewhere → ⊥)) ⊎ (IsOf tokens nodes p_enumerator m × Part tokens nodes m leaf)

  abbrev pub IsName : ℕ → Type 0
  IsName leaf = syntax.is_name tokens nodes leaf ≡ true

  abbrev pub IsTagMade : Declared → Type 0
  IsTagMade d = (m : ℕ) × (s : Standing) × StandsAt m s × (d.node ≡ m) × (s.role ≡ role.Elsewhere → ⊥)

  abbrev pub IsNameMade : ℕ → Declared → Type 0
  IsNameMade n d = (m : ℕ) × (s : Standing) × StandsAt m s × (m < n) × MakesName m s d.node × (d.scope ≡ first_scope file s.scopes) × KindTold m s d × (has_linkage d ≡ true → IsName d.node)

  abbrev pub IsUseOf : List Declared → List Declared → ℕ × ℕ → Type 0
  IsUseOf names tags p = (s : Standing) × StandsAt p.0 s × ((d : Declared) × (In names d ⊎ In tags d) × (d.node ≡ p.1) × (contains s.scopes d.scope ≡ true))

  -- what is known behind so many nodes
  pub record IsKnown (n : ℕ) (k : Known) : Type 0 where
    pub names : Every (IsNameMade n) k.names
    pub tags : Every IsTagMade k.tags
    pub uses : Every (IsUseOf k.names k.tags) k.uses
    pub once : (i j : ℕ) (d e : Declared) → slice_get k.names i ≡ Some d → slice_get k.names j ≡ Some e → d.node ≡ e.node → i ≡ j

  name_later : (n : ℕ) (d : Declared) → IsNameMade n d → IsNameMade (n + 1) d
  name_later n d (m, s, at, lt, made, scope, told, name) = (m, s, at, omega (arith, lt), made, scope, told, name)

  later : (n : ℕ) (k : Known) → IsKnown n k → IsKnown (n + 1) k
  later n k h = record { names = every_on (IsNameMade n) (IsNameMade (n + 1)) k.names (name_later n) h.names; tags = h.tags; uses = h.uses; once = h.once }

  -- ---- a leaf's name is declared by one node

  smaller : (a b : ℕ) → Below tokens nodes a b → b < a
  smaller a b (part r) = before a b r
  smaller a b (deeper {i = i} c r) = let one = smaller a i c in let two = before i b r in omega (arith, one, two)

  up_one : (a q c : ℕ) → Below tokens nodes a c → Part tokens nodes q c → (a ≡ q) ⊎ Below tokens nodes a q
  up_one a q c (part r) child = inl (single a q c r child)
  up_one a q c (deeper {i = i} b r) child = inr (subst (λ (k : ℕ). Below tokens nodes a k) (single i q c r child) b)

  not_round : (a q : ℕ) → Below tokens nodes q a → (a ≡ q) ⊎ Below tokens nodes a q → ⊥
  not_round a q down (inl same) = let lt = smaller q a down in omega (arith, lt, same)
  not_round a q down (inr up) = let one = smaller q a down in let two = smaller a q up in omega (arith, one, two)

  -- the name of a declarator stands below it
  name_within : (levels n leaf : ℕ) → (within tokens nodes levels n).name ≡ Some leaf → Below tokens nodes n leaf
  unfolding inner_of name_of
  name_within zero n leaf e = cc
  name_within (suc levels) n leaf e = by (inner_of nodes n) refl e (λ inner f. name_within levels inner leaf f)
    where
      by : (o : Option ℕ) → inner_of nodes n ≡ o → (level tokens nodes (within tokens nodes levels) n o).name ≡ Some leaf → ((inner : ℕ) → (within tokens nodes levels inner).name ≡ Some leaf → Below tokens nodes inner leaf) → Below tokens nodes n leaf
      by None is f more = part (found_in (λ child. syntax.is_name tokens nodes child) (syntax.children_at nodes n) leaf f)
      by (Some inner) is f more = further (Part tokens nodes) n inner leaf (part (found_in (λ child. is_inner nodes n child) (syntax.children_at nodes n) inner is)) (more inner f)

  inner_declares : (n inner : ℕ) → inner_of nodes n ≡ Some inner → Part tokens nodes n inner × IsDeclaring inner
  unfolding inner_of
  inner_declares n inner e = (found_in (λ child. is_inner nodes n child) (syntax.children_at nodes n) inner e, (both_true (syntax.is_of nodes p_declarator inner || syntax.is_of nodes p_either inner) (nat_lt inner n) (found_passes (λ child. is_inner nodes n child) (syntax.children_at nodes n) inner e)).0)

  -- between a declarator and its name stand declarators
  between : (levels m leaf n : ℕ) → (within tokens nodes levels m).name ≡ Some leaf → IsDeclaring m → Below tokens nodes m n → Below tokens nodes n leaf → (q : ℕ) × Part tokens nodes q n × IsDeclaring q × IsDeclaring n
  unfolding name_of
  between zero m leaf n e is down up = cc
  between (suc levels) m leaf n e is down up = by (inner_of nodes m) refl e (λ inner f in_is lower. between levels inner leaf n f in_is lower up)
    where
      by : (o : Option ℕ) → inner_of nodes m ≡ o → (level tokens nodes (within tokens nodes levels) m o).name ≡ Some leaf
          → ((inner : ℕ) → (within tokens nodes levels inner).name ≡ Some leaf → IsDeclaring inner → Below tokens nodes inner n → (q : ℕ) × Part tokens nodes q n × IsDeclaring q × IsDeclaring n) → (q : ℕ) × Part tokens nodes q n × IsDeclaring q × IsDeclaring n
      by None none f more = absurd (not_round n m down (up_one n m leaf up (found_in (λ child. syntax.is_name tokens nodes child) (syntax.children_at nodes m) leaf f)))
      by (Some inner) some f more = pick (compare (Part tokens nodes) single n inner leaf up (name_within levels inner leaf f)) (inner_declares m inner some)
        where
          pick : Order (Part tokens nodes) n inner → Part tokens nodes m inner × IsDeclaring inner → (q : ℕ) × Part tokens nodes q n × IsDeclaring q × IsDeclaring n
          pick (inl same) own = (m, subst (λ (k : ℕ). Part tokens nodes m k) (sym same) own.0, is, subst IsDeclaring (sym same) own.1)
          pick (inr (inl above)) own = absurd (not_round n m down (up_one n m inner above own.0))
          pick (inr (inr lower)) own = more inner f own.1 lower

  -- what a name is a part of
  named_in : (levels m leaf : ℕ) → (within tokens nodes levels m).name ≡ Some leaf → IsDeclaring m → (q : ℕ) × Part tokens nodes q leaf × IsDeclaring q
  unfolding name_of
  named_in zero m leaf e is = cc
  named_in (suc levels) m leaf e is = by (inner_of nodes m) refl e (λ inner f in_is. named_in levels inner leaf f in_is)
    where
      by : (o : Option ℕ) → inner_of nodes m ≡ o → (level tokens nodes (within tokens nodes levels) m o).name ≡ Some leaf → ((inner : ℕ) → (within tokens nodes levels inner).name ≡ Some leaf → IsDeclaring inner → (q : ℕ) × Part tokens nodes q leaf × IsDeclaring q)
          → (q : ℕ) × Part tokens nodes q leaf × IsDeclaring q
      by None none f more = (m, found_in (λ child. syntax.is_name tokens nodes child) (syntax.children_at nodes m) leaf f, is)
      by (Some inner) some f more = more inner f (inner_declares m inner some).1

  name_below : (n leaf : ℕ) → (declarator tokens nodes n).name ≡ Some leaf → Below tokens nodes n leaf
  unfolding declarator
  name_below n leaf e = name_within (suc n) n leaf e

  name_between : (m leaf n : ℕ) → (declarator tokens nodes m).name ≡ Some leaf → IsDeclaring m → Below tokens nodes m n → Below tokens nodes n leaf → (q : ℕ) × Part tokens nodes q n × IsDeclaring q × IsDeclaring n
  unfolding declarator
  name_between m leaf n e is down up = between (suc m) m leaf n e is down up

  name_part : (m leaf : ℕ) → (declarator tokens nodes m).name ≡ Some leaf → IsDeclaring m → (q : ℕ) × Part tokens nodes q leaf × IsDeclaring q
  unfolding declarator
  name_part m leaf e is = named_in (suc m) m leaf e is

  name_spelled : (levels m leaf : ℕ) → (within tokens nodes levels m).name ≡ Some leaf → IsName leaf
  unfolding name_of
  name_spelled zero m leaf e = cc
  name_spelled (suc levels) m leaf e = by (inner_of nodes m) e (λ inner f. name_spelled levels inner leaf f)
    where
      by : (o : Option ℕ) → (level tokens nodes (within tokens nodes levels) m o).name ≡ Some leaf → ((inner : ℕ) → (within tokens nodes levels inner).name ≡ Some leaf → IsName leaf) → IsName leaf
      by None f more = found_passes (λ child. syntax.is_name tokens nodes child) (syntax.children_at nodes m) leaf f
      by (Some inner) f more = more inner f

  name_is : (m leaf : ℕ) → (declarator tokens nodes m).name ≡ Some leaf → IsName leaf
  unfolding declarator
  name_is m leaf e = name_spelled (suc m) m leaf e

  pub made_below : (m : ℕ) (s : Standing) (leaf : ℕ) → MakesName m s leaf → Below tokens nodes m leaf
  made_below m s leaf (inl (is, named, some)) = name_below m leaf named
  made_below m s leaf (inr (is, child)) = part child

  inner_is : (q : ℕ) → IsDeclaring q → IsInner tokens nodes before q
  inner_is q is = by (syntax.production_at nodes q == p_declarator) (syntax.production_at nodes q == p_either) (syntax.production_at nodes q == p_enumerator) is
    where
      by : (a b c : Bool) → (a || b) ≡ true → (a || (b || c)) ≡ true
      by true b c e = refl
      by false true c e = refl
      by false false c e = cc

  enumerator_is : (q : ℕ) → IsOf tokens nodes p_enumerator q → IsInner tokens nodes before q
  enumerator_is q is = by (syntax.production_at nodes q == p_declarator) (syntax.production_at nodes q == p_either) (syntax.production_at nodes q == p_enumerator) is
    where
      by : (a b c : Bool) → c ≡ true → (a || (b || c)) ≡ true
      by true b c e = refl
      by false true c e = refl
      by false false c e = e

  no_declarator : (q : ℕ) → IsOf tokens nodes p_enumerator q → IsDeclaring q → ⊥
  no_declarator q is declares =
      let off : (syntax.production_at nodes q == p_declarator || syntax.production_at nodes q == p_either) ≡ false =
      subst (λ (x : ℕ). (x == p_declarator || x == p_either) ≡ false) (sym (eqb-true (syntax.production_at nodes q) p_enumerator is)) refl in
      let both : true ≡ false = sym declares ∙ off in
      cc

  never_inside : (m n : ℕ) (s t : Standing) (leaf : ℕ) → StandsAt n t → MakesName m s leaf → MakesName n t leaf → Below tokens nodes m n → ⊥
  never_inside m n s t leaf at (inr (is, child)) other down = not_round n m down (up_one n m leaf (made_below n t leaf other) child)
  never_inside m n s t leaf at (inl (is, named, some)) other down = by (name_between m leaf n named is down (made_below n t leaf other)) other
    where
      by : (q : ℕ) × Part tokens nodes q n × IsDeclaring q × IsDeclaring n → MakesName n t leaf → ⊥
      by (q, child, declares, own) (inl (n_is, n_named, n_some)) = n_some (elsewhere tokens nodes before single n t at q child (inner_is q declares))
      by (q, child, declares, own) (inr (n_is, n_child)) = no_declarator n n_is own

  pub one_maker : (m n : ℕ) (s t : Standing) (leaf : ℕ) → StandsAt m s → StandsAt n t → MakesName m s leaf → MakesName n t leaf → m ≡ n
  one_maker m n s t leaf ms nt made other = by (compare (Part tokens nodes) single m n leaf (made_below m s leaf made) (made_below n t leaf other))
    where
      by : Order (Part tokens nodes) m n → m ≡ n
      by (inl same) = same
      by (inr (inl down)) = absurd (never_inside m n s t leaf nt made other down)
      by (inr (inr up)) = absurd (never_inside n m t s leaf ms other made up)

  pub no_tag : (d e : Declared) (n : ℕ) → IsNameMade n d → IsTagMade e → d.node ≡ e.node → ⊥
  no_tag d e n (m, s, at, lt, made, scope, told, name) (x, t, there, node_is, some) same = by made
    where
      leaf_is : d.node ≡ x
      leaf_is = same ∙ node_is

      by : MakesName m s d.node → ⊥
      by (inl (is, named, role_some)) =
          let own = name_part m d.node named is in
          some (elsewhere tokens nodes before single x t there own.0 (subst (λ (k : ℕ). Part tokens nodes own.0 k) leaf_is own.1) (inner_is own.0 own.2))
      by (inr (is, child)) = some (elsewhere tokens nodes before single x t there m (subst (λ (k : ℕ). Part tokens nodes m k) leaf_is child) (enumerator_is m is))

  name_lift : (names tags : List Declared) (x : Declared) (p : ℕ × ℕ) → IsUseOf names tags p → IsUseOf (names ++ x ∷ []) tags p
  name_lift names tags x p (s, at, (d, inl h, e, has)) = (s, at, (d, inl (in_more names x d h), e, has))
  name_lift names tags x p (s, at, (d, inr h, e, has)) = (s, at, (d, inr h, e, has))

  tag_lift : (names tags : List Declared) (x : Declared) (p : ℕ × ℕ) → IsUseOf names tags p → IsUseOf names (tags ++ x ∷ []) p
  tag_lift names tags x p (s, at, (d, inl h, e, has)) = (s, at, (d, inl h, e, has))
  tag_lift names tags x p (s, at, (d, inr h, e, has)) = (s, at, (d, inr (in_more tags x d h), e, has))

  abbrev LinkageTold : ℕ → Standing → ℕ → Linkage → Type 0
  LinkageTold n s leaf linkage.Never = (s.role ≡ role.Parameter) ⊎ (Part tokens nodes n leaf × IsOf tokens nodes p_enumerator n)
  LinkageTold n s leaf linkage.Typedef = ⊤
  LinkageTold n s leaf linkage.External = ⊤
  LinkageTold n s leaf linkage.Object = ⊤

  abbrev Fits : ℕ → Standing → Mention → Type 0
  Fits n s (mention.Declares leaf symbol l derivation type_name) = MakesName n s leaf × LinkageTold n s leaf l × ((l ≡ linkage.Never) ⊎ IsName leaf)
  Fits n s (mention.Tag symbol how) = s.role ≡ role.Elsewhere → ⊥
  Fits n s m = ⊤

  -- ---- one step

  module _ (labels : ℕ → ℕ → Option ℕ) (n : ℕ) (s : Standing) (at : StandsAt n s) (k : Known) (h : IsKnown n k) where
    used : (symbol : ℕ) (exempt : Bool) → IsKnown n (after_use n exempt (innermost s.scopes symbol k.names) k)
    used symbol exempt = by exempt (innermost s.scopes symbol k.names) refl
      where
        by : (exempt : Bool) (o : Option Declared) → innermost s.scopes symbol k.names ≡ o → IsKnown n (after_use n exempt o k)
        by true None e = h
        by false None e = record { names = h.names; tags = h.tags; uses = h.uses; once = h.once }
        by exempt (Some d) e =
            let own = innermost_in s.scopes symbol k.names d e in
            record { names = h.names; tags = h.tags; uses = every_more (IsUseOf k.names k.tags) k.uses (n, d.node) h.uses (s, at, (d, inl own.0, refl, own.1)); once = h.once }

    tag_made : (symbol : ℕ) → (s.role ≡ role.Elsewhere → ⊥) → IsTagMade (tag_declared n symbol (first_scope file s.scopes))
    tag_made symbol some = (n, s, at, refl, some)

    tag_more : (x : Declared) → IsTagMade x → IsKnown n (record k { tags = k.tags ++ x ∷ [] })
    tag_more x own = record { names = h.names; tags = every_more IsTagMade k.tags x h.tags own; uses = every_on (IsUseOf k.names k.tags) (IsUseOf k.names (k.tags ++ x ∷ [])) k.uses (tag_lift k.names k.tags x) h.uses; once = h.once }

    tag_used : (symbol : ℕ) (d : Declared) → innermost s.scopes symbol k.tags ≡ Some d → IsKnown n (record k { uses = k.uses ++ (n, d.node) ∷ [] })
    tag_used symbol d e =
        let own = innermost_in s.scopes symbol k.tags d e in
        record { names = h.names; tags = h.tags; uses = every_more (IsUseOf k.names k.tags) k.uses (n, d.node) h.uses (s, at, (d, inr own.0, refl, own.1)); once = h.once }

    tagged : (symbol : ℕ) (how : TagUse) → (s.role ≡ role.Elsewhere → ⊥) → IsKnown n (after_tag file n symbol s.scopes how k)
    tagged symbol tag.Declares some = tag_more (tag_declared n symbol (first_scope file s.scopes)) (tag_made symbol some)
    tagged symbol tag.Refers some = by (innermost s.scopes symbol k.tags) refl
      where
        by : (o : Option Declared) → innermost s.scopes symbol k.tags ≡ o → IsKnown n (after_tag_reference n (tag_declared n symbol (first_scope file s.scopes)) o k)
        by None e = tag_more (tag_declared n symbol (first_scope file s.scopes)) (tag_made symbol some)
        by (Some d) e = tag_used symbol d e
    tagged symbol tag.Uses some = by (innermost s.scopes symbol k.tags) refl
      where
        by : (o : Option Declared) → innermost s.scopes symbol k.tags ≡ o → IsKnown n (after_tag_use n o k)
        by None e = record { names = h.names; tags = h.tags; uses = h.uses; once = h.once }
        by (Some d) e = tag_used symbol d e

    labelled : (first : Option ℕ) → IsKnown n (after_label n first k)
    labelled first = by (is_first n first)
      where
        by : (b : Bool) → IsKnown n (if b then k else with_fault (fault.Redeclared n) k)
        by true = h
        by false = record { names = h.names; tags = h.tags; uses = h.uses; once = h.once }

    gone : (first : Option ℕ) → IsKnown n (after_goto n first k)
    gone None = record { names = h.names; tags = h.tags; uses = h.uses; once = h.once }
    gone (Some first) = record { names = h.names; tags = h.tags; uses = h.uses; once = h.once }

    kind_told : (leaf symbol : ℕ) (l : Linkage) (derivation : Derivation) (type_name : Option ℕ) → LinkageTold n s leaf l → KindTold n s (declared_by file leaf symbol l derivation type_name (first_scope file s.scopes) k)
    kind_told leaf symbol linkage.Never derivation type_name told e = inr (inr told)
    kind_told leaf symbol linkage.Typedef derivation type_name told e = inr (inl refl)
    kind_told leaf symbol linkage.External derivation type_name told e = inl refl
    kind_told leaf symbol linkage.Object derivation type_name told e = inl (by (first_scope file s.scopes == file) (is_function k.functions derivation type_name) (subst (λ (x : ℕ). nat_eq x file ≡ true) (sym e) (equal file)))
      where
        by : (a b : Bool) → a ≡ true → is_linked_kind (kind_of linkage.Object a b) ≡ true
        by true b e = refl
        by false b e = cc

    named : (leaf symbol : ℕ) (l : Linkage) (derivation : Derivation) (type_name : Option ℕ) → MakesName n s leaf → LinkageTold n s leaf l → (l ≡ linkage.Never) ⊎ IsName leaf → IsKnown (n + 1) (after_name file leaf symbol l derivation type_name s.scopes k)
    named leaf symbol l derivation type_name made told spelled =
        record {
          names = every_more (IsNameMade (n + 1)) k.names x (later n k h).names (n, s, at, omega arith, made, refl, kind_told leaf symbol l derivation type_name told, λ linked. linked_name linked spelled);
          tags = h.tags;
          uses = every_on (IsUseOf k.names k.tags) (IsUseOf (k.names ++ x ∷ []) k.tags) k.uses (name_lift k.names k.tags x) h.uses;
          once = λ i j d e di ej same. by i j d e same (push_at k.names x d i di) (push_at k.names x e j ej);
        }
      where
        x : Declared
        x = declared_by file leaf symbol l derivation type_name (first_scope file s.scopes) k

        linked_name : has_linkage x ≡ true → (l ≡ linkage.Never) ⊎ IsName leaf → IsName leaf
        linked_name linked (inr name) = name
        linked_name linked (inl never) =
            let off : is_linked_kind (kind_of l (first_scope file s.scopes == file) (is_function k.functions derivation type_name)) ≡ false =
            subst (λ (y : Linkage). is_linked_kind (kind_of y (first_scope file s.scopes == file) (is_function k.functions derivation type_name)) ≡ false) (sym never) refl in
            let both : true ≡ false = sym linked ∙ off in
            cc

        new : (d : Declared) → In k.names d → d.node ≡ leaf → ⊥
        new d has same = clash (every_at (IsNameMade n) k.names d h.names has)
          where
            clash : IsNameMade n d → ⊥
            clash (m, t, there, lt, own, scope, told, name) = let one = one_maker m n t s leaf there at (subst (λ (y : ℕ). MakesName m t y) same own) made in omega (arith, lt, one)

        by : (i j : ℕ) (d e : Declared) → d.node ≡ e.node → (slice_get k.names i ≡ Some d) ⊎ ((i ≡ length k.names) × (x ≡ d)) → (slice_get k.names j ≡ Some e) ⊎ ((j ≡ length k.names) × (x ≡ e)) → i ≡ j
        by i j d e same (inl di) (inl ej) = h.once i j d e di ej same
        by i j d e same (inl di) (inr (end, is)) = absurd (new d (i, di) (same ∙ sym (ap (λ (y : Declared). y.node) is)))
        by i j d e same (inr (end, is)) (inl ej) = absurd (new e (j, ej) (sym same ∙ sym (ap (λ (y : Declared). y.node) is)))
        by i j d e same (inr (end, is)) (inr (there, own)) = end ∙ sym there

    pub stepped : (body : ℕ) (m : Mention) → Fits n s m → IsKnown (n + 1) (after file labels n s.scopes body m k)
    stepped body mention.Nothing fits = later n k h
    stepped body (mention.Use symbol exempt) fits = later n (after_use n exempt (innermost s.scopes symbol k.names) k) (used symbol exempt)
    stepped body (mention.Tag symbol how) fits = later n (after_tag file n symbol s.scopes how k) (tagged symbol how fits)
    stepped body (mention.Label symbol) fits = later n (after_label n (labels body symbol) k) (labelled (labels body symbol))
    stepped body (mention.Goto symbol) fits = later n (after_goto n (labels body symbol) k) (gone (labels body symbol))
    stepped body (mention.Declares leaf symbol l derivation type_name) fits = named leaf symbol l derivation type_name fits.0 fits.1 fits.2

  -- ---- what nodes mention

  module _ (text : List ℕ) (symbol : ℕ → ℕ) (n : ℕ) (s : Standing) where
    used_fits : (name : List ℕ) (at : ℕ) (in_body : Bool) → Fits n s (name_used name at in_body)
    unfolding name_used
    used_fits name at in_body = by (is_type_word name || is_list_word name)
      where
        by : (b : Bool) → Fits n s (if b then mention.Nothing else mention.Use at (is_exempt name in_body))
        by true = tt
        by false = tt

    label_fits : (first : Option ℕ) (at : ℕ) → Fits n s (label_used first n at)
    label_fits None at = tt
    label_fits (Some first) at = by (first == n)
      where
        by : (b : Bool) → Fits n s (if b then mention.Label at else mention.Goto at)
        by true = tt
        by false = tt

    leaf_fits : (name : List ℕ) (at : ℕ) (in_body : Bool) (r : Role) → s.role ≡ r → Fits n s (leaf_mention name at n in_body r)
    leaf_fits name at in_body role.Name own = used_fits name at in_body
    leaf_fits name at in_body role.Alone own = used_fits name at in_body
    leaf_fits name at in_body (role.Tag how) own = λ e. let both : role.Tag how ≡ role.Elsewhere = sym own ∙ e in cc
    leaf_fits name at in_body (role.Statement first selects) own = label_fits first at
    leaf_fits name at in_body role.Elsewhere own = tt
    leaf_fits name at in_body (role.Declaration specifiers) own = tt
    leaf_fits name at in_body role.Parameter own = tt

    linkage_told : (leaf : ℕ) (x : Specifiers) → LinkageTold n s leaf (linkage_of x)
    linkage_told leaf x = by x.is_typedef x.is_extern
      where
        by : (a b : Bool) → LinkageTold n s leaf (if a then linkage.Typedef else if b then linkage.External else linkage.Object)
        by true b = tt
        by false true = tt
        by false false = tt

    declared_fits : (leaf at : ℕ) (d : Derivation) (r : Role) → s.role ≡ r → IsName leaf → ((s.role ≡ role.Elsewhere → ⊥) → MakesName n s leaf) → Fits n s (name_declared leaf at d r)
    declared_fits leaf at d role.Name e name make = tt
    declared_fits leaf at d role.Alone e name make = tt
    declared_fits leaf at d (role.Tag how) e name make = tt
    declared_fits leaf at d (role.Statement first selects) e name make = tt
    declared_fits leaf at d role.Elsewhere e name make = tt
    declared_fits leaf at d (role.Declaration x) e name make = (make (λ f. let both : role.Declaration x ≡ role.Elsewhere = sym e ∙ f in cc), linkage_told leaf x, inr name)
    declared_fits leaf at d role.Parameter e name make = (make (λ f. let both : role.Parameter ≡ role.Elsewhere = sym e ∙ f in cc), inl e, inr name)

    declarator_fits : IsDeclaring n → Fits n s (declarator_mention symbol nodes (declarator tokens nodes n) s.role)
    unfolding declarator_mention
    declarator_fits is = by (declarator tokens nodes n).name refl
      where
        by : (o : Option ℕ) → (declarator tokens nodes n).name ≡ o → Fits n s (at_leaf symbol nodes (declarator tokens nodes n).derivation s.role o)
        by None e = tt
        by (Some leaf) e = declared_fits leaf (symbol (syntax.token_at nodes leaf)) (declarator tokens nodes n).derivation s.role refl (name_is n leaf e) (λ some. inl (is, e, some))

    first_part : (xs : List ℕ) (leaf : ℕ) → syntax.first_of xs ≡ Some leaf → contains xs leaf ≡ true
    first_part [] leaf e = cc
    first_part (x ∷ xs) leaf e = let same : x ≡ leaf = cc in ap (λ (b : Bool). b || contains xs leaf) (subst (λ (y : ℕ). nat_eq x y ≡ true) same (equal x))

    enumerator_fits : IsOf tokens nodes p_enumerator n → Fits n s (enumerator_mention symbol nodes n)
    unfolding enumerator_mention
    enumerator_fits is = by (syntax.first_child nodes n) refl
      where
        by : (o : Option ℕ) → syntax.first_child nodes n ≡ o → Fits n s (enumerator_leaf symbol nodes o)
        by None e = tt
        by (Some leaf) e = let own = first_part (syntax.children_at nodes n) leaf e in (inr (is, own), inr (own, is), inl refl)

    end_fits : Fits n s (end_mention tokens symbol nodes n s.role)
    unfolding end_mention
    end_fits = by (syntax.production_at nodes n == p_enumerator) (syntax.production_at nodes n == p_declarator || syntax.production_at nodes n == p_either) refl refl
      where
        by : (a b : Bool) → (syntax.production_at nodes n == p_enumerator) ≡ a → (syntax.production_at nodes n == p_declarator || syntax.production_at nodes n == p_either) ≡ b
            → Fits n s (if a then enumerator_mention symbol nodes n else if b then declarator_mention symbol nodes (declarator tokens nodes n) s.role else mention.Nothing)
        by true b e f = enumerator_fits e
        by false true e f = declarator_fits f
        by false false e f = tt

    pub mention_fits : (in_body : Bool) → Fits n s (mention_at text tokens symbol nodes n in_body s.role)
    unfolding mention_at
    mention_fits in_body = by (syntax.is_name tokens nodes n)
      where
        by : (b : Bool) → Fits n s (if b then leaf_mention (name_at text tokens (syntax.token_at nodes n)) (symbol (syntax.token_at nodes n)) n in_body s.role else end_mention tokens symbol nodes n s.role)
        by true = leaf_fits (name_at text tokens (syntax.token_at nodes n)) (symbol (syntax.token_at nodes n)) in_body s.role refl
        by false = end_fits

  -- ---- all nodes

  module _ (text : List ℕ) where
    abbrev At : ℕ → List Standing → Type 0
    At n ss = (k : ℕ) → slice_get S (n + k) ≡ slice_get ss k

    known_from : (labels : ℕ → ℕ → Option ℕ) (n : ℕ) (ss : List Standing) (k : Known) → At n ss → IsKnown n k → IsKnown (n + length ss) (known file labels n k (happenings_from text tokens nodes n ss))
    known_from labels n [] k at h = let e : n ≡ n + 0 = omega arith in subst (λ (j : ℕ). IsKnown j k) e h
    known_from labels n (s ∷ ss) k at h =
        let here : StandsAt n s = (let e : n ≡ n + 0 = omega arith in ap (λ (j : ℕ). slice_get S j) e ∙ at 0) in
        let next : At (n + 1) ss = λ j. let e : (n + 1) + j ≡ n + suc j = omega arith in ap (λ (i : ℕ). slice_get S i) e ∙ at (suc j) in
        let x = happening text tokens nodes n s in
        let e : (n + 1) + length ss ≡ n + suc (length ss) = omega arith in
        subst (λ (j : ℕ). IsKnown j (known file labels (n + 1) (after file labels n x.scopes x.body x.mention k) (happenings_from text tokens nodes (n + 1) ss))) e (known_from labels (n + 1) ss (after file labels n x.scopes x.body x.mention k) next
        (stepped labels n s here k h x.body x.mention (mention_fits text (symbol_of text tokens) n s (nat_lt s.body (length nodes)))))

    pub all_known : IsKnown (0 + length S) (bindings text tokens nodes)
    unfolding bindings happenings
    all_known =
        known_from (first_label 0 (happenings_from text tokens nodes 0 S)) 0 S nothing_known (λ k. let e : 0 + k ≡ k = omega arith in ap (λ (j : ℕ). slice_get S j) e)
        (record { names = tt; tags = tt; uses = tt; once = λ i j d e f g same. absurd (none_past d i f) })

    pub paired_in : (uses : List (ℕ × ℕ)) (n l : ℕ) → paired uses n ≡ Some l → In uses (n, l)
    paired_in [] n l e = cc
    paired_in (p ∷ rest) n l e = by (p.0 == n) refl e (λ f. paired_in rest n l f)
      where
        by : (b : Bool) → nat_eq p.0 n ≡ b → (if b then Some p.1 else paired rest n) ≡ Some l → (paired rest n ≡ Some l → In rest (n, l)) → In (p ∷ rest) (n, l)
        by true same e later = (0, (let second : p.1 ≡ l = cc in ap (λ (q : ℕ × ℕ). Some q) (pair (eqb-true p.0 n same) second)))
          where
            pair : p.0 ≡ n → p.1 ≡ l → p ≡ (n, l)
            pair a b = subst (λ (x : ℕ). p ≡ (x, l)) a (subst (λ (y : ℕ). p ≡ (p.0, y)) b refl)
        by false same e later = let h = later e in (suc h.0, h.1)
