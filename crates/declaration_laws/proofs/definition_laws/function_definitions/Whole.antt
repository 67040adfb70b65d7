-- What such declarators are to the resolution of names and to the rows.
use Rattle.std.proofs.Common.{◌≡◌, ◌<◌, ℕ, ◌||◌, nat_eq, Bool, true, false, cond, List, [], ◌∷◌, ◌++◌, Option, Some, None, take, length, slice_get, eq-eqb, refl, sym, ap, ◌∙◌, subst}
use Rattle.std.specs.Prelude.{is_some, if◌then◌else◌}
use Rattle.std.proofs.lemmas.List.{get_or-take}
use Rattle.pta_base.specs.declared.kind.Kind.{Kind}
use Rattle.pta_base.specs.declared.kind.Kind.TheVariants.{Operand, InlineDefinition}
use Rattle.c_lexer.specs.declared.TokenKind.TheVariants.{Identifier, Punctuator}
use Rattle.c_types.specs.Trees.{Ctype}
use Rattle.c_grammar.specs.Terminals.{contains}
use Rattle.c_grammar.specs.Productions.{p_field, p_parameter}
use Rattle.c_grammar.specs.Reads.{Node, leaf}
use Rattle.c_mentions.specs.declared.declarators.Derivation.TheVariants as derives
use Rattle.c_mentions.specs.Syntax as syntax
use Rattle.c_mentions.specs.Declarators.{is_inner}
use Rattle.c_senses.specs.Tree.{Source, is_a, is_name, has_sign, first_where, parent_of, any_where}
use Rattle.c_grammar.specs.Words.{sign_left_bracket, sign_ellipsis}
use Rattle.c_senses.specs.Given.{Given, Fits, ◌>>=◌, given_if}
use Rattle.c_senses.specs.World.{World}
use Rattle.c_senses.specs.Sense.{Sense, Nothing, IsDeclarator, IsDerivation, Derivation, sense_in}
use Rattle.c_senses.specs.Declarators.{name_in, derivations, derives_well, type_fits, is_outermost, base_type, derived, adjusted, suffix_row, list_of, parameters_in, array_suffix}
use Rattle.c_senses.specs.Entities.{by_place, named_row, definition_row, parameter_named, is_defined, words_go, is_same_again, has_one_linkage, internal_fits, is_name_complete, initialiser_of}
use Rattle.c_senses.specs.Rows.{AreSenses, world_at, declarator_row, at_its_name}
use Rattle.core_node_laws.proofs.count_laws.passed.parsed_tree_laws.placed_laws.Climbing.{Grown}
use Rattle.declaration_laws.proofs.definition_laws.linkage_laws.Seen.{nodes, child_is}
use Rattle.declaration_laws.proofs.definition_laws.function_definitions.Shapes.{IsIdent, IsSign, IsQuiet, star, qualifier, IsSuffix, IsListed, AllQuiet, AllSuffixes, IsBare, bare, HasBare, ident, inner, IsFunction, own, deep}
use Rattle.declaration_laws.proofs.definition_laws.function_definitions.Mentioned as says
use Rattle.declaration_laws.proofs.definition_laws.function_definitions.Sensed as sensed

given_then : (b : Bool) (kind : Kind) (at : ℕ) (g : Given Sense) (y : Sense) → given_if b kind at g ≡ Fits y → (b ≡ true) × (g ≡ Fits y)
given_then true kind at g y e = (refl, e)
given_then false kind at g y e = cc

fits_same : {x y : Sense} → ◌≡◌ {A = Given Sense} (Fits x) (Fits y) → x ≡ y
fits_same e = cc

module _ (w : World) (s : Source) (sense : ℕ → Sense) where
  definition_then : (t : Ctype) (name : ℕ) (g : Given Sense) (y : Sense) → definition_row w s sense t name g ≡ Fits y → g ≡ Fits y
  definition_then t name g y e = by (is_defined s sense name) _ _ e
    where
      by : (b a c : Bool) → (if b then given_if a Operand name (given_if c InlineDefinition name g) else g) ≡ Fits y → g ≡ Fits y
      by true a c e = (given_then c InlineDefinition name g y (given_then a Operand name _ y e).1).1
      by false a c e = e

  -- the row of a name says nothing but what it is given, and asks for its words
  pub named_then : (at name : ℕ) (t : Ctype) (g : Given Sense) (y : Sense) → named_row w s sense at name t g ≡ Fits y → (words_go w s sense (is_some (initialiser_of s sense at)) name ≡ true) × (internal_fits w s sense (is_some (initialiser_of s sense at) || is_defined s sense name) t name ≡ true) × (g ≡ Fits y)
  named_then at name t g y e =
      let a = given_then (words_go w s sense (is_some (initialiser_of s sense at)) name) Operand name _ y e in
      let b = given_then (is_same_again w s sense t name) Operand name _ y a.1 in
      let c = given_then (has_one_linkage w s sense name) Operand name _ y b.1 in
      let d = given_then (internal_fits w s sense (is_some (initialiser_of s sense at) || is_defined s sense name) t name) Operand name _ y c.1 in
      let h = given_then (is_name_complete w s sense (is_some (initialiser_of s sense at)) t name) Operand name _ y d.1 in
      (a.0, d.0, definition_then t name g y h.1)

  place_then : (at name : ℕ) (t u : Ctype) (g : Given Sense) (y : Sense) → by_place w s sense at name t u g ≡ Fits y → g ≡ Fits y
  place_then at name t u g y e = by (parent_of s at) e
    where
      pick : (p : ℕ) (a b : Bool) → (if a then g else (if b then parameter_named w s sense at name u g else named_row w s sense at name t g)) ≡ Fits y → g ≡ Fits y
      pick p true b e = e
      pick p false true e = (given_then _ Operand name g y e).1
      pick p false false e = (named_then at name t g y e).2

      by : (o : Option ℕ) → (elim o as (λ _. Given Sense) [ None ↦ g | Some p ↦ if is_a s p_field p then g else (if is_a s p_parameter p then parameter_named w s sense at name u g else named_row w s sense at name t g) ]) ≡ Fits y → g ≡ Fits y
      by None e = e
      by (Some p) e = pick p (is_a s p_field p) (is_a s p_parameter p) e

  name_then : (at : ℕ) (base : Option Ctype) (o : Option ℕ) (ds : List Derivation) (g : Given Sense) (y : Sense) → at_its_name w s sense at g base (IsDeclarator o ds) ≡ Fits y → g ≡ Fits y
  name_then at None o ds g y e = e
  name_then at (Some t) None ds g y e = e
  name_then at (Some t) (Some name) ds g y e = by (is_outermost s at) e
    where
      by : (b : Bool) → (if b then by_place w s sense at name (derived ds t) (adjusted (derived ds t)) g else g) ≡ Fits y → g ≡ Fits y
      by true e = place_then at name (derived ds t) (adjusted (derived ds t)) g y e
      by false e = e

  -- a declarator's row gives its name and its derivations
  pub declarator_gives : (at : ℕ) (children : List ℕ) (y : Sense) → declarator_row w s sense at children ≡ Fits y → IsDeclarator (name_in w s sense children) (derivations w s sense children) ≡ y
  declarator_gives at children y e = by (derives_well w s sense at (derivations w s sense children)) e
    where
      by : (b : Bool) → (given_if b Operand at (Fits (IsDeclarator (name_in w s sense children) (derivations w s sense children))) >>= (λ x. at_its_name w s sense at (Fits x) (base_type w s sense at) x)) ≡ Fits y → IsDeclarator (name_in w s sense children) (derivations w s sense children) ≡ y
      by true e = fits_same (name_then at (base_type w s sense at) (name_in w s sense children) (derivations w s sense children) (Fits (IsDeclarator (name_in w s sense children) (derivations w s sense children))) y e)
      by false e = cc

  -- what an outermost declarator with a name is asked
  pub declarator_asks : (at name : ℕ) (children : List ℕ) (y : Sense) → is_outermost s at ≡ true → name_in w s sense children ≡ Some name → declarator_row w s sense at children ≡ Fits y
      → (t : Ctype) × (base_type w s sense at ≡ Some t) × (by_place w s sense at name (derived (derivations w s sense children) t) (adjusted (derived (derivations w s sense children) t)) (Fits (IsDeclarator (Some name) (derivations w s sense children))) ≡ Fits y)
  declarator_asks at name children y outer named e = by (derives_well w s sense at (derivations w s sense children)) refl e
    where
      when_true : {A : Type 0} (b : Bool) (x z : A) → b ≡ true → cond b x z ≡ x
      when_true true x z h = refl
      when_true false x z h = cc

      inside : (base : Option Ctype) → base_type w s sense at ≡ base → (elim base as (λ _. Bool) [ None ↦ false | Some t ↦ type_fits w s sense t (derivations w s sense children) ]) ≡ true
          → at_its_name w s sense at (Fits (IsDeclarator (Some name) (derivations w s sense children))) base (IsDeclarator (Some name) (derivations w s sense children)) ≡ Fits y
          → (t : Ctype) × (base_type w s sense at ≡ Some t) × (by_place w s sense at name (derived (derivations w s sense children) t) (adjusted (derived (derivations w s sense children) t)) (Fits (IsDeclarator (Some name) (derivations w s sense children))) ≡ Fits y)
      inside None base well told = cc
      inside (Some t) base well told = (t, base, sym (when_true (is_outermost s at) (by_place w s sense at name (derived (derivations w s sense children) t) (adjusted (derived (derivations w s sense children) t)) (Fits (IsDeclarator (Some name) (derivations w s sense children)))) (Fits (IsDeclarator (Some name) (derivations w s sense children))) outer) ∙ told)

      by : (b : Bool) → derives_well w s sense at (derivations w s sense children) ≡ b
          → (given_if b Operand at (Fits (IsDeclarator (name_in w s sense children) (derivations w s sense children))) >>= (λ z. at_its_name w s sense at (Fits z) (base_type w s sense at) z)) ≡ Fits y
          → (t : Ctype) × (base_type w s sense at ≡ Some t) × (by_place w s sense at name (derived (derivations w s sense children) t) (adjusted (derived (derivations w s sense children) t)) (Fits (IsDeclarator (Some name) (derivations w s sense children))) ≡ Fits y)
      by true well e =
          inside (base_type w s sense at) refl (sym (when_true (is_outermost s at) (elim (base_type w s sense at) as (λ _. Bool) [ None ↦ false | Some t ↦ type_fits w s sense t (derivations w s sense children) ]) true outer) ∙ well)
          (subst (λ (o : Option ℕ). at_its_name w s sense at (Fits (IsDeclarator o (derivations w s sense children))) (base_type w s sense at) (IsDeclarator o (derivations w s sense children)) ≡ Fits y) named e)
      by false well e = cc

module _ (s : Source) (senses : List Sense) (grown : Grown s) (are : AreSenses s senses) (whole : length senses ≡ length s.nodes) where
  abbrev pub f : ℕ → Sense
  f i = sense_in senses i

  abbrev pub before : ℕ → ℕ → Sense
  before k = sense_in (take k senses)

  abbrev pub world : ℕ → World
  world k = world_at s (take k senses) k

  -- what it is that makes nothing of its name, and what makes a function of it
  pub record BareAt (k : ℕ) : Type 0 where
    pub name : ℕ
    pub says : says.Says s.tokens (nodes s) k name derives.Bare
    pub sense : f k ≡ IsDeclarator (Some name) []

  pub record FunctionAt (k : ℕ) : Type 0 where
    pub name : ℕ
    pub says : says.Says s.tokens (nodes s) k name derives.Function
    pub derivations_are : List Derivation
    pub sense : f k ≡ IsDeclarator (Some name) derivations_are
    pub ends : sensed.Ends derivations_are

  seen_before : (k c : ℕ) → c < k → before k c ≡ f c
  seen_before k c lt = get_or-take k senses c Nothing lt

  sense_is : (k : ℕ) (n : Node) → slice_get (nodes s) k ≡ Some n → n.production ≡ 19 → IsDeclarator (name_in (world k) s (before k) n.children) (derivations (world k) s (before k) n.children) ≡ f k
  sense_is k n e is = declarator_gives (world k) s (before k) k n.children (f k) (sensed.row_is s senses grown are whole k 19 n e is)

  module _ (k : ℕ) where
    abbrev g : ℕ → Sense
    g = before k

    ident_part : (i : ℕ) → i < k → IsIdent s.tokens (nodes s) i → sensed.Ident s senses grown are whole (world k) g i
    ident_part i lt h = record {
      name = sensed.leaf_name s i h.node Identifier h.there h.leaf_is h.kind;
      star = sensed.leaf_sign s 11 i h.node Identifier h.there h.leaf_is h.kind;
      sense = seen_before k i lt ∙ sensed.leaf_sense s senses grown are whole i h.node h.there h.leaf_is;
    }

    sign_part : (l sign : ℕ) → l < k → nat_eq sign 11 ≡ false → IsSign s.tokens (nodes s) l sign → (is_name s l ≡ false) × (has_sign s 11 l ≡ false) × (g l ≡ Nothing)
    sign_part l sign lt other h =
        (sensed.leaf_name s l h.node (Punctuator sign) h.there h.leaf_is h.kind, sensed.leaf_sign s 11 l h.node (Punctuator sign) h.there h.leaf_is h.kind ∙ other, seen_before k l lt ∙ sensed.leaf_sense s senses grown are whole l h.node h.there h.leaf_is)

    declarator_part : (j name : ℕ) (ds : List Derivation) (n : Node) → j < k → slice_get (nodes s) j ≡ Some n → n.production ≡ 19 → f j ≡ IsDeclarator (Some name) ds → (is_name s j ≡ false) × (has_sign s 11 j ≡ false) × (g j ≡ IsDeclarator (Some name) ds)
    declarator_part j name ds n lt e is told = (sensed.node_name s j 19 n e is refl, sensed.node_sign s 11 j 19 n e is refl, seen_before k j lt ∙ told)

    quiet_part : (c : ℕ) → c < k → IsQuiet s.tokens (nodes s) c → (is_name s c ≡ false) × (g c ≡ Nothing)
    quiet_part c lt (star h) = (sensed.leaf_name s c h.node (Punctuator 11) h.there h.leaf_is h.kind, seen_before k c lt ∙ sensed.leaf_sense s senses grown are whole c h.node h.there h.leaf_is)
    quiet_part c lt (qualifier {n = n} e is) = (sensed.node_name s c 9 n e is refl, seen_before k c lt ∙ sensed.qualifier_sense s senses grown are whole c n e is)

    calm_parts : (cs : List ℕ) → ((c : ℕ) → contains cs c ≡ true → c < k) → AllQuiet s.tokens (nodes s) cs → sensed.Calm s senses grown are whole (world k) g cs
    calm_parts [] small h = tt
    calm_parts (c ∷ cs) small h =
        let p = quiet_part c (small c (ap (λ (b : Bool). b || contains cs c) (eq-eqb c c refl))) h.0 in
        (p.0, p.1, calm_parts cs (λ x i. small x (more (nat_eq c x) (contains cs x) i)) h.1)
      where
        more : (a b : Bool) → b ≡ true → (a || b) ≡ true
        more true b e = refl
        more false b e = e

    listed_part : (c : ℕ) → c < k → IsListed s.tokens (nodes s) c → sensed.Returns s senses grown are whole (world k) g c
    listed_part c lt h =
        let told = sensed.row_is s senses grown are whole c 22 h.node h.there h.is in
        let row : suffix_row (world c) s (before c) c (h.first ∷ h.more) ≡ Fits (f c) = subst (λ (l : List ℕ). suffix_row (world c) s (before c) c l ≡ Fits (f c)) h.children told in
        let sign : has_sign s sign_left_bracket h.first ≡ false = sensed.leaf_sign s sign_left_bracket h.first h.sign.node (Punctuator 2) h.sign.there h.sign.leaf_is h.sign.kind in
        by row sign
      where
        by : suffix_row (world c) s (before c) c (h.first ∷ h.more) ≡ Fits (f c) → has_sign s sign_left_bracket h.first ≡ false → sensed.Returns s senses grown are whole (world k) g c
        by row sign =
            let variadic = any_where (has_sign s sign_ellipsis) h.more in
            let ps = parameters_in (world c) s (before c) h.more in
            let own = pick (has_sign s sign_left_bracket h.first) (array_suffix (world c) s (before c) c h.more) sign row in
            let r = sensed.list_returns s senses grown are whole (world c) (before c) variadic ps in
            record { name = sensed.node_name s c 22 h.node h.there h.is refl; parameters = r.0; form = r.1; sense = seen_before k c lt ∙ (sym own ∙ ap IsDerivation r.2) }
          where
            pick : (b : Bool) (x : Given Derivation) → b ≡ false
                → (if b then (x >>= (λ d. Fits (IsDerivation d))) else Fits (IsDerivation (list_of (world c) s (before c) (any_where (has_sign s sign_ellipsis) h.more) (parameters_in (world c) s (before c) h.more)))) ≡ Fits (f c)
                → IsDerivation (list_of (world c) s (before c) (any_where (has_sign s sign_ellipsis) h.more) (parameters_in (world c) s (before c) h.more)) ≡ f c
            pick true x e h2 = cc
            pick false x e h2 = fits_same h2

  -- ---- the whole of such a declarator

  abbrev below_of : says.BelowAll (nodes s)
  below_of i c n e h = grown.before i c (child_is s i c n e h)

  in_first : (xs ys : List ℕ) (c : ℕ) → contains xs c ≡ true → contains (xs ++ ys) c ≡ true
  in_first [] ys c h = cc
  in_first (x ∷ xs) ys c h = by (nat_eq x c) h (λ e. in_first xs ys c e)
    where
      by : (b : Bool) → (b || contains xs c) ≡ true → (contains xs c ≡ true → contains (xs ++ ys) c ≡ true) → (b || contains (xs ++ ys) c) ≡ true
      by true h later = refl
      by false h later = later h

  head_in : (c : ℕ) (rest : List ℕ) → contains (c ∷ rest) c ≡ true
  head_in c rest = ap (λ (b : Bool). b || contains rest c) (eq-eqb c c refl)

  next_in : (x c : ℕ) (rest : List ℕ) → contains rest c ≡ true → contains (x ∷ rest) c ≡ true
  next_in x c rest h = by (nat_eq x c)
    where
      by : (b : Bool) → (b || contains rest c) ≡ true
      by true = refl
      by false = h

  -- the parts that stand where the name stands
  data Middle (k : ℕ) : List ℕ → ℕ → Type 0 where
    named : {i : ℕ} → IsIdent s.tokens (nodes s) i → i < k → Middle k (i ∷ []) i
    around : {l j r : ℕ} {n : Node} → IsSign s.tokens (nodes s) l 2 → IsSign s.tokens (nodes s) r 3 → l < k → j < k → r < k → slice_get (nodes s) j ≡ Some n → n.production ≡ 19 → (b : BareAt j) → Middle k (l ∷ j ∷ r ∷ []) b.name

  inner_part : (k l j r name : ℕ) (ds : List Derivation) (n : Node) → l < k → j < k → r < k → IsSign s.tokens (nodes s) l 2 → IsSign s.tokens (nodes s) r 3 → slice_get (nodes s) j ≡ Some n → n.production ≡ 19 → f j ≡ IsDeclarator (Some name) ds
      → sensed.Inner s senses grown are whole (world k) (before k) l j r name ds
  inner_part k l j r name ds n a b c p q e is told = record { left = sign_part k l 2 a refl p; middle = declarator_part k j name ds n b e is told; right = sign_part k r 3 c refl q }

  -- from the name and the derivations that are found to the sense
  sensed_as : (k : ℕ) (n : Node) (name : ℕ) (ds : List Derivation) → slice_get (nodes s) k ≡ Some n → n.production ≡ 19 → name_in (world k) s (before k) n.children ≡ Some name → derivations (world k) s (before k) n.children ≡ ds → f k ≡ IsDeclarator (Some name) ds
  sensed_as k n name ds e is a b = sym (sense_is k n e is) ∙ (ap (λ (o : Option ℕ). IsDeclarator o (derivations (world k) s (before k) n.children)) a ∙ ap (IsDeclarator (Some name)) b)

  bare_of : (k : ℕ) (n : Node) (middle : List ℕ) (name : ℕ) → slice_get (nodes s) k ≡ Some n → n.production ≡ 19 → n.children ≡ middle → Middle k middle name → BareAt k
  bare_of k n middle name e is c (named {i = i} h lt) =
      let part = ident_part k i lt h in
      let children : syntax.children_at (nodes s) k ≡ i ∷ [] = says.children_is s.tokens (nodes s) k n e ∙ c in
      record {
        name = i;
        says = says.own_says s.tokens (nodes s) k i (i ∷ []) derives.Bare children (says.find_none (is_inner (nodes s) k) (i ∷ []) (says.leaf_inner s.tokens (nodes s) k i h.node h.there h.leaf_is, tt))
            (says.find_here (says.name_test s.tokens (nodes s)) i [] (says.ident_name s.tokens (nodes s) i h))
            (says.bare_derives s.tokens (nodes s) k (i ∷ []) children (says.find_none (says.suffix_test s.tokens (nodes s)) (i ∷ []) (says.is_production s.tokens (nodes s) i leaf 22 h.node h.there h.leaf_is, tt)) (ap (λ (b : Bool). b || false) (says.ident_star s.tokens (nodes s) i h)));
        sense = sensed_as k n i [] e is (ap (name_in (world k) s (before k)) c ∙ sensed.ident_name s senses grown are whole (world k) (before k) i [] part) (ap (derivations (world k) s (before k)) c ∙ sensed.ident_bare s senses grown are whole (world k) (before k) i part);
      }
  bare_of k n middle name e is c (around {l = l} {j = j} {r = r} {n = m} p q ll lj lr em im b) =
      let part = inner_part k l j r b.name [] m ll lj lr p q em im b.sense in
      let children : syntax.children_at (nodes s) k ≡ l ∷ j ∷ r ∷ [] = says.children_is s.tokens (nodes s) k n e ∙ c in
      let pl = says.sign_plain s.tokens (nodes s) k l 2 p in
      let pr = says.sign_plain s.tokens (nodes s) k r 3 q in
      record {
        name = b.name;
        says = says.around_says s.tokens (nodes s) k j b.name (l ∷ j ∷ r ∷ []) derives.Bare derives.Bare lj children (says.find_next (is_inner (nodes s) k) l (j ∷ r ∷ []) pl.inner_no ∙ says.find_here (is_inner (nodes s) k) j (r ∷ []) (says.declarator_inner s.tokens (nodes s) k j m em im lj)) b.says
            (says.bare_derives s.tokens (nodes s) k (l ∷ j ∷ r ∷ []) children (says.find_none (says.suffix_test s.tokens (nodes s)) (l ∷ j ∷ r ∷ []) (pl.suffix_no, (says.is_production s.tokens (nodes s) j 19 22 m em im, (pr.suffix_no, tt))))
            (says.all_false s.tokens (nodes s) (says.star_test s.tokens (nodes s) l) (says.star_test s.tokens (nodes s) j) (says.star_test s.tokens (nodes s) r) (says.sign_star s.tokens (nodes s) l 2 p) (says.declarator_star s.tokens (nodes s) j m em im) (says.sign_star s.tokens (nodes s) r 3 q)));
        sense = sensed_as k n b.name [] e is (ap (name_in (world k) s (before k)) c ∙ sensed.inner_has_name s senses grown are whole (world k) (before k) l j r b.name [] [] part refl) (ap (derivations (world k) s (before k)) c ∙ sensed.inner_bare s senses grown are whole (world k) (before k) l j r b.name part);
      }

  bare_node : (k : ℕ) → IsBare s.tokens (nodes s) k → (n : Node) × (slice_get (nodes s) k ≡ Some n) × (n.production ≡ 19)
  bare_node k (bare {n = n} e is h) = (n, e, is)

  small_in : (k : ℕ) (n : Node) (cs : List ℕ) (c : ℕ) → slice_get (nodes s) k ≡ Some n → n.children ≡ cs → contains cs c ≡ true → c < k
  small_in k n cs c e are_cs h = below_of k c n e (subst (λ (l : List ℕ). contains l c ≡ true) (sym are_cs) h)

  mutual
    bare_is : (k : ℕ) → IsBare s.tokens (nodes s) k → BareAt k
    bare_is k (bare {n = n} e is h) = let m = middle_is k n.children h (λ c i. below_of k c n e i) in bare_of k n n.children m.0 e is refl m.1

    middle_is : (k : ℕ) (cs : List ℕ) → HasBare s.tokens (nodes s) cs → ((c : ℕ) → contains cs c ≡ true → c < k) → (name : ℕ) × Middle k cs name
    middle_is k cs (ident {k = i} h) small = (i, named h (small i (head_in i [])))
    middle_is k cs (inner {l = l} {k = j} {r = r} p i q) small =
        let b = bare_is j i in
        let n = bare_node j i in
        (b.name, around p q (small l (head_in l (j ∷ r ∷ []))) (small j (says.in_second l j r [])) (small r (next_in l r (j ∷ r ∷ []) (next_in j r (r ∷ []) (head_in r [])))) n.1 n.2 b)

  suffix_name : (c : ℕ) → IsSuffix s.tokens (nodes s) c → is_name s c ≡ false
  suffix_name c h = sensed.node_name s c 22 h.node h.there h.is refl

  no_names : (k : ℕ) (cs : List ℕ) → AllSuffixes s.tokens (nodes s) cs → first_where (is_name s) cs ≡ None
  no_names k [] h = refl
  no_names k (c ∷ cs) h = sensed.first_step s senses grown are whole (world k) (before k) c cs (suffix_name c h.0) ∙ no_names k cs h.1

  calm_of : (k : ℕ) (n : Node) (stars rest : List ℕ) → slice_get (nodes s) k ≡ Some n → n.children ≡ stars ++ rest → AllQuiet s.tokens (nodes s) stars → sensed.Calm s senses grown are whole (world k) (before k) stars
  calm_of k n stars rest e c q = calm_parts k stars (λ x i. small_in k n (stars ++ rest) x e c (in_first stars rest x i)) q

  function_of : (k : ℕ) (n : Node) (stars middle : List ℕ) (c name : ℕ) → slice_get (nodes s) k ≡ Some n → n.production ≡ 19 → n.children ≡ stars ++ (middle ++ c ∷ []) → AllQuiet s.tokens (nodes s) stars → Middle k middle name → IsListed s.tokens (nodes s) c → c < k → FunctionAt k
  function_of k n stars middle c name e is are_parts q (named {i = i} h lt) listed small =
      let nodes_here = nodes s in
      let part = ident_part k i lt h in
      let calm = calm_of k n stars (i ∷ c ∷ []) e are_parts q in
      let returns = listed_part k c small listed in
      let children : syntax.children_at (nodes s) k ≡ stars ++ (i ∷ c ∷ []) = says.children_is s.tokens (nodes s) k n e ∙ are_parts in
      let plain = says.quiet_all s.tokens (nodes s) k stars q in
      let all = stars ++ (i ∷ c ∷ []) in
      record {
        name = i;
        says = says.own_says s.tokens (nodes s) k i all derives.Function children
            (says.find_past (is_inner (nodes s) k) stars (i ∷ c ∷ []) plain.inner_no ∙ says.find_none (is_inner (nodes s) k) (i ∷ c ∷ []) (says.leaf_inner s.tokens (nodes s) k i h.node h.there h.leaf_is, (says.node_inner s.tokens (nodes s) k c 22 listed.node listed.there listed.is refl, tt)))
            (says.find_past (says.name_test s.tokens (nodes s)) stars (i ∷ c ∷ []) plain.name_no ∙ says.find_here (says.name_test s.tokens (nodes s)) i (c ∷ []) (says.ident_name s.tokens (nodes s) i h))
            (says.list_derives s.tokens (nodes s) k c all children
            (says.find_past (says.suffix_test s.tokens (nodes s)) stars (i ∷ c ∷ []) plain.suffix_no ∙ (says.find_next (says.suffix_test s.tokens (nodes s)) i (c ∷ []) (says.is_production s.tokens (nodes s) i leaf 22 h.node h.there h.leaf_is) ∙ says.find_here (says.suffix_test s.tokens (nodes s)) c [] (says.is_production s.tokens (nodes s) c 22 22 listed.node listed.there listed.is)))
            (says.listed_is s.tokens (nodes s) c listed));
        derivations_are = derivations (world k) s (before k) all;
        sense = sensed_as k n i (derivations (world k) s (before k) all) e is
            (ap (name_in (world k) s (before k)) are_parts ∙ (sensed.past_names s senses grown are whole (world k) (before k) stars (i ∷ c ∷ []) calm ∙ sensed.ident_name s senses grown are whole (world k) (before k) i (c ∷ []) part)) (ap (derivations (world k) s (before k)) are_parts);
        ends = sensed.ident_ends s senses grown are whole (world k) (before k) stars i c calm part returns;
      }
  function_of k n stars middle c name e is are_parts q (around {l = l} {j = j} {r = r} {n = m} p p3 ll lj lr em im b) listed small =
      let part = inner_part k l j r b.name [] m ll lj lr p p3 em im b.sense in
      let calm = calm_of k n stars (l ∷ j ∷ r ∷ c ∷ []) e are_parts q in
      let returns = listed_part k c small listed in
      let children : syntax.children_at (nodes s) k ≡ stars ++ (l ∷ j ∷ r ∷ c ∷ []) = says.children_is s.tokens (nodes s) k n e ∙ are_parts in
      let plain = says.quiet_all s.tokens (nodes s) k stars q in
      let pl = says.sign_plain s.tokens (nodes s) k l 2 p in
      let pr = says.sign_plain s.tokens (nodes s) k r 3 p3 in
      let all = stars ++ (l ∷ j ∷ r ∷ c ∷ []) in
      record {
        name = b.name;
        says = says.around_says s.tokens (nodes s) k j b.name all derives.Bare derives.Function lj children
            (says.find_past (is_inner (nodes s) k) stars (l ∷ j ∷ r ∷ c ∷ []) plain.inner_no ∙ (says.find_next (is_inner (nodes s) k) l (j ∷ r ∷ c ∷ []) pl.inner_no ∙ says.find_here (is_inner (nodes s) k) j (r ∷ c ∷ []) (says.declarator_inner s.tokens (nodes s) k j m em im lj))) b.says
            (says.list_derives s.tokens (nodes s) k c all children
            (says.find_past (says.suffix_test s.tokens (nodes s)) stars (l ∷ j ∷ r ∷ c ∷ []) plain.suffix_no ∙ (says.find_next (says.suffix_test s.tokens (nodes s)) l (j ∷ r ∷ c ∷ []) pl.suffix_no ∙ (says.find_next (says.suffix_test s.tokens (nodes s)) j (r ∷ c ∷ []) (says.is_production s.tokens (nodes s) j 19 22 m em im)
            ∙ (says.find_next (says.suffix_test s.tokens (nodes s)) r (c ∷ []) pr.suffix_no ∙ says.find_here (says.suffix_test s.tokens (nodes s)) c [] (says.is_production s.tokens (nodes s) c 22 22 listed.node listed.there listed.is)))))
            (says.listed_is s.tokens (nodes s) c listed));
        derivations_are = derivations (world k) s (before k) all;
        sense = sensed_as k n b.name (derivations (world k) s (before k) all) e is
            (ap (name_in (world k) s (before k)) are_parts ∙ (sensed.past_names s senses grown are whole (world k) (before k) stars (l ∷ j ∷ r ∷ c ∷ []) calm
            ∙ sensed.inner_has_name s senses grown are whole (world k) (before k) l j r b.name [] (c ∷ []) part (sensed.first_step s senses grown are whole (world k) (before k) c [] returns.name)))
            (ap (derivations (world k) s (before k)) are_parts);
        ends = sensed.inner_ends s senses grown are whole (world k) (before k) stars l j r b.name c calm part returns;
      }

  deep_of : (k l j r : ℕ) (n m : Node) (stars suffixes : List ℕ) → slice_get (nodes s) k ≡ Some n → n.production ≡ 19 → n.children ≡ stars ++ (l ∷ j ∷ r ∷ suffixes) → AllQuiet s.tokens (nodes s) stars → IsSign s.tokens (nodes s) l 2 → IsSign s.tokens (nodes s) r 3 → AllSuffixes s.tokens (nodes s) suffixes
      → slice_get (nodes s) j ≡ Some m → m.production ≡ 19 → FunctionAt j → FunctionAt k
  deep_of k l j r n m stars suffixes e is are_parts q p p3 z em im b =
      let rest = l ∷ j ∷ r ∷ suffixes in
      let small = λ (x : ℕ) (i : contains (l ∷ j ∷ r ∷ suffixes) x ≡ true). small_in k n (stars ++ (l ∷ j ∷ r ∷ suffixes)) x e are_parts (says.in_last stars (l ∷ j ∷ r ∷ suffixes) x i) in
      let ll = small l (head_in l (j ∷ r ∷ suffixes)) in
      let lj = small j (says.in_second l j r suffixes) in
      let lr = small r (next_in l r (j ∷ r ∷ suffixes) (next_in j r (r ∷ suffixes) (head_in r suffixes))) in
      let part = inner_part k l j r b.name b.derivations_are m ll lj lr p p3 em im b.sense in
      let calm = calm_of k n stars (l ∷ j ∷ r ∷ suffixes) e are_parts q in
      let children : syntax.children_at (nodes s) k ≡ stars ++ (l ∷ j ∷ r ∷ suffixes) = says.children_is s.tokens (nodes s) k n e ∙ are_parts in
      let plain = says.quiet_all s.tokens (nodes s) k stars q in
      let pl = says.sign_plain s.tokens (nodes s) k l 2 p in
      let all = stars ++ (l ∷ j ∷ r ∷ suffixes) in
      record {
        name = b.name;
        says = says.around_says s.tokens (nodes s) k j b.name all derives.Function derives.Function lj children
            (says.find_past (is_inner (nodes s) k) stars (l ∷ j ∷ r ∷ suffixes) plain.inner_no ∙ (says.find_next (is_inner (nodes s) k) l (j ∷ r ∷ suffixes) pl.inner_no ∙ says.find_here (is_inner (nodes s) k) j (r ∷ suffixes) (says.declarator_inner s.tokens (nodes s) k j m em im lj))) b.says refl;
        derivations_are = derivations (world k) s (before k) all;
        sense = sensed_as k n b.name (derivations (world k) s (before k) all) e is
            (ap (name_in (world k) s (before k)) are_parts ∙ (sensed.past_names s senses grown are whole (world k) (before k) stars (l ∷ j ∷ r ∷ suffixes) calm ∙ sensed.inner_has_name s senses grown are whole (world k) (before k) l j r b.name b.derivations_are suffixes part (no_names k suffixes z)))
            (ap (derivations (world k) s (before k)) are_parts);
        ends = sensed.deep_ends s senses grown are whole (world k) (before k) stars l j r b.name b.derivations_are suffixes calm part b.ends;
      }

  pub function_node : (k : ℕ) → IsFunction s.tokens (nodes s) k → (n : Node) × (slice_get (nodes s) k ≡ Some n) × (n.production ≡ 19)
  function_node k (own {n = n} stars middle e is c q m l) = (n, e, is)
  function_node k (deep {n = n} stars suffixes e is c q s1 i s2 z) = (n, e, is)

  pub function_is : (k : ℕ) → IsFunction s.tokens (nodes s) k → FunctionAt k
  function_is k (own {f = c} {n = n} stars middle e is parts q m listed) =
      let small = λ (x : ℕ) (i : contains (middle ++ c ∷ []) x ≡ true). small_in k n (stars ++ (middle ++ c ∷ [])) x e parts (says.in_last stars (middle ++ c ∷ []) x i) in
      let found = middle_is k middle m (λ x i. small x (in_first middle (c ∷ []) x i)) in
      function_of k n stars middle c found.0 e is parts q found.1 listed (small c (says.in_last middle (c ∷ []) c (head_in c [])))
  function_is k (deep {l = l} {j = j} {r = r} {n = n} stars suffixes e is parts q p i p3 z) =
      let m = function_node j i in deep_of k l j r n m.0 stars suffixes e is parts q p p3 z m.1 m.2 (function_is j i)
