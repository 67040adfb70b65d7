-- The settings that a node gives to its children, and those of all nodes behind a node.
use Rattle.std.proofs.Common.{◌≡◌, ℕ, zero, suc, ◌+◌, ◌<◌, ◌≤◌, Bool, true, false, ◌&&◌, ◌||◌, eqb, None, List, [], ◌∷◌, ◌++◌, length, take, drop, get_or, cond, refl, sym, ap, subst, ◌∙◌, arith}
use Rattle.std.proofs.lemmas.List.{take_more}
use Rattle.std.proofs.Math.Seq.{drop-cons}
use Rattle.c_lexer.specs.declared.Token.{Token}
use Rattle.c_grammar.specs.Reads.{Node}
use Rattle.c_grammar.specs.Terminals.{contains}
use Rattle.c_mentions.specs.declared.settings.Scope.{Scope}
use Rattle.c_mentions.specs.declared.settings.Setting.{Setting}
use Rattle.c_grammar.specs.Productions.{p_block}
use Rattle.c_mentions.specs.declared.roles.Role.{Role}
use Rattle.c_mentions.specs.declared.roles.Role.TheVariants.{Elsewhere}
use Rattle.c_mentions.specs.Handing.{Gives}
use Rattle.c_mentions.specs.Syntax.{is_of}
use Rattle.c_mentions.specs.Roles.{handed, opened, is_body}
use Rattle.c_mentions.specs.Settings.{Standing, Stands, Hands, Extends, IsChain, with_scope, handed_down, standing, standings, outermost}
use Rattle.c_mentions.proofs.Chains.{stands_extends}

no_body : (b : Bool) → b && false ≡ false
no_body true = refl
no_body false = refl

-- the children of a node that stands elsewhere stand as it does, where it opens no scope and hands on its role
pub stays : (tokens : List Token) (nodes : List Node) (n : ℕ) (scopes : List Scope) (setting : Setting) (s : Standing) → setting.role ≡ Elsewhere
    → handed tokens nodes n Elsewhere ≡ Elsewhere → opened tokens nodes n Elsewhere ≡ None → Stands scopes setting s → Stands scopes setting (handed_down tokens nodes n s)
unfolding is_body
stays tokens nodes n scopes setting s e h o stands =
    let same : Elsewhere ≡ s.role = sym e ∙ stands.role in
    record {
      chain = subst (λ r. IsChain scopes setting.scope (with_scope (opened tokens nodes n r) s.scopes)) same (subst (λ q. IsChain scopes setting.scope (with_scope q s.scopes)) (sym o) stands.chain);
      body = subst (λ r. setting.body ≡ cond (is_body nodes n r) n s.body) same (stands.body ∙ ap (λ b. cond b n s.body) (sym (no_body (is_of nodes p_block n))));
      role = subst (λ r. setting.role ≡ handed tokens nodes n r) same (e ∙ sym h);
    }

-- the children of a node get a role by its production alone
pub gives_stands : (tokens : List Token) (nodes : List Node) (n : ℕ) (given : Role) (scopes : List Scope) (setting within : Setting) (s : Standing) → Gives nodes n given
    → within.scope ≡ setting.scope → within.body ≡ setting.body → within.role ≡ given → Stands scopes setting s → Stands scopes within (handed_down tokens nodes n s)
gives_stands tokens nodes n given scopes setting within s g a b r stands = record {
  chain =
      subst (λ o. IsChain scopes within.scope (with_scope o s.scopes)) (sym (g.scope tokens s.role))
      (subst (λ k. IsChain scopes k s.scopes) (sym a) stands.chain);
  body = subst (λ t. within.body ≡ cond t n s.body) (sym (g.body s.role)) (b ∙ stands.body);
  role = r ∙ sym (g.role tokens s.role);
}

or-assoc : (a b c : Bool) → a || (b || c) ≡ (a || b) || c
or-assoc true b c = refl
or-assoc false b c = refl

pub contains-push : (xs : List ℕ) (y x : ℕ) → contains (xs ++ y ∷ []) x ≡ contains xs x || eqb y x
contains-push [] y x = (elim (eqb y x) as (λ b. b || false ≡ false || b) [ true ↦ refl | false ↦ refl ])
contains-push (z ∷ xs) y x = ap (λ b. eqb z x || b) (contains-push xs y x) ∙ or-assoc (eqb z x) (contains xs x) (eqb y x)

choose : {X : Type 0} (b c : Bool) (x y : X) → cond c x (cond b x y) ≡ cond (b || c) x y
choose true true x y = refl
choose true false x y = refl
choose false c x y = refl

-- a child more
pub hands_more : {X : Type 0} (children : List ℕ) (k d node : ℕ) (setting : X) (old mid new : List X) → k < length children → Hands (take k children) node setting old mid
    → length new ≡ length mid
    → ((i : ℕ) (d' : X) → i < node → get_or new i d' ≡ cond (eqb (get_or children k d) i) setting (get_or mid i d'))
    → ((i : ℕ) (d' : X) → node ≤ i → get_or new i d' ≡ get_or mid i d')
    → Hands (take (k + 1) children) node setting old new
hands_more children k d node setting old mid new l h e f g =
    let child = get_or children k d in
    record {
      count = e ∙ h.count;
      before = λ i d' b.
          f i d' b ∙ (ap (λ x. cond (eqb child i) setting x) (h.before i d' b)
          ∙ (choose (contains (take k children) i) (eqb child i) setting (get_or old i d')
          ∙ ap (λ t. cond t setting (get_or old i d')) (sym (contains-push (take k children) child i) ∙ ap (λ xs. contains xs i) (sym (take_more children k d l)))));
      behind = λ i d' b. g i d' b ∙ h.behind i d' b;
    }

-- the settings say where the nodes from number n on stand, and where each one before stands by these
abbrev pub Behind : List Token → List Node → List Scope → List Setting → ℕ → Type 0
Behind tokens nodes scopes list n =
    ((i : ℕ) (d : Setting) → i < n → Stands scopes (get_or list i d) (standing tokens nodes i n (drop n nodes) (standings tokens nodes n (drop n nodes))))
    × ((j : ℕ) (d : Setting) → j + n < length nodes → Stands scopes (get_or list (j + n) d) (get_or (standings tokens nodes n (drop n nodes)) j (outermost (length nodes))))

module _ (tokens : List Token) (nodes : List Node) where
  handed_one : (b : Bool) (scopes new : List Scope) (within before now : Setting) (down other : Standing) → now ≡ cond b within before → Stands new within down → Stands scopes before other → Extends scopes new → Stands new now (cond b down other)
  handed_one true scopes new within before now down other e h g x = subst (λ s. Stands new s down) (sym e) h
  handed_one false scopes new within before now down other e h g x = subst (λ s. Stands new s other) (sym e) (stands_extends scopes new before other x g)

  -- a node more
  pub behind_more : (m : ℕ) (scopes new : List Scope) (list newer : List Setting) (within d : Setting) (node : Node) → m < length nodes → node ≡ get_or nodes m node → Extends scopes new
      → ((s : Standing) → Stands scopes (get_or list m d) s → Stands new within (handed_down tokens nodes m s)) → Hands node.children m within list newer
      → Behind tokens nodes scopes list (m + 1) → Behind tokens nodes new newer m
  behind_more m scopes new list newer within d node l g x f h b =
      let R : List Node = drop (m + 1) nodes in
      let L : List Standing = standings tokens nodes (m + 1) R in
      let own : Standing = standing tokens nodes m (m + 1) R L in
      let next : suc m ≡ m + 1 = omega arith in
      let cut : drop m nodes ≡ node ∷ R = drop-cons nodes m node l ∙ (ap (λ y. y ∷ drop (suc m) nodes) (sym g) ∙ ap (λ k. node ∷ drop k nodes) next) in
      let less : m < m + 1 = omega arith in
      let down : Stands new within (handed_down tokens nodes m own) = f own (b.0 m d less) in (
        λ i d' k.
            subst (λ ns. Stands new (get_or newer i d') (standing tokens nodes i m ns (standings tokens nodes m ns))) (sym cut)
            (handed_one (contains node.children i) scopes new within (get_or list i d') (get_or newer i d') (handed_down tokens nodes m own) (standing tokens nodes i (m + 1) R L) (h.before i d' k) down (b.0 i d' (omega arith)) x),
        λ j d' k.
            subst (λ ns. Stands new (get_or newer (j + m) d') (get_or (standings tokens nodes m ns) j (outermost (length nodes)))) (sym cut)
            (elim j as (λ j. j + m < length nodes → Stands new (get_or newer (j + m) d') (get_or (own ∷ L) j (outermost (length nodes)))) [
              | zero ↦ λ k.
                  let e : zero + m ≡ m = omega arith in
                  subst (λ n. Stands new (get_or newer n d') own) (sym e) (subst (λ s. Stands new s own) (sym (h.behind m d' (omega arith))) (stands_extends scopes new (get_or list m d') own x (b.0 m d' less)))
              | suc j ↦ λ k.
                  let e : suc j + m ≡ j + (m + 1) = omega arith in
                  let u = b.1 j d' (omega arith) in
                  subst (λ s. Stands new s (get_or L j (outermost (length nodes)))) (sym (h.behind (suc j + m) d' (omega arith) ∙ ap (λ n. get_or list n d') e)) (stands_extends scopes new (get_or list (j + (m + 1)) d') (get_or L j (outermost (length nodes))) x u)
            ] k),
      )

  -- a node without children more
  pub behind_leaf : (m : ℕ) (scopes : List Scope) (list : List Setting) (node : Node) → m < length nodes → node ≡ get_or nodes m node → node.children ≡ [] → Behind tokens nodes scopes list (m + 1)
      → Behind tokens nodes scopes list m
  behind_leaf m scopes list node l g empty b =
      let R : List Node = drop (m + 1) nodes in
      let L : List Standing = standings tokens nodes (m + 1) R in
      let own : Standing = standing tokens nodes m (m + 1) R L in
      let next : suc m ≡ m + 1 = omega arith in
      let cut : drop m nodes ≡ node ∷ R = drop-cons nodes m node l ∙ (ap (λ y. y ∷ drop (suc m) nodes) (sym g) ∙ ap (λ k. node ∷ drop k nodes) next) in
      let handed : ℕ → List ℕ → Standing = λ i children. cond (contains children i) (handed_down tokens nodes m own) (standing tokens nodes i (m + 1) R L) in (
        λ i d k.
            subst (λ ns. Stands scopes (get_or list i d) (standing tokens nodes i m ns (standings tokens nodes m ns))) (sym cut)
            (subst (λ c. Stands scopes (get_or list i d) (handed i c)) (sym empty) (b.0 i d (omega arith))),
        λ j d k.
            subst (λ ns. Stands scopes (get_or list (j + m) d) (get_or (standings tokens nodes m ns) j (outermost (length nodes)))) (sym cut)
            (elim j as (λ j. j + m < length nodes → Stands scopes (get_or list (j + m) d) (get_or (own ∷ L) j (outermost (length nodes)))) [
              | zero ↦ λ k.
                  let e : zero + m ≡ m = omega arith in
                  subst (λ n. Stands scopes (get_or list n d) own) (sym e) (b.0 m d (omega arith))
              | suc j ↦ λ k.
                  let e : suc j + m ≡ j + (m + 1) = omega arith in
                  subst (λ n. Stands scopes (get_or list n d) (get_or L j (outermost (length nodes)))) (sym e) (b.1 j d (omega arith))
            ] k),
      )
