-- The list of parameters of a definition stands next to its name.
use Rattle.std.proofs.Common.{arith, ◌≡◌, ◌<◌, ◌≤◌, ◌+◌, ◌==◌, ◌||◌, ◌&&◌, not, nat_eq, eq-eqb, ℕ, zero, suc, Bool, true, false, List, [], ◌∷◌, ◌++◌, Option, Some, None, length, take, slice_get, refl, sym, ap, ◌∙◌, subst}
use Rattle.std.specs.Prelude.{option_and_then, if◌then◌else◌}
use Rattle.std.specs.Option.{option_or}
use Rattle.std.specs.List.{find}
use Rattle.std.proofs.lemmas.List.{get_or-take}
use Rattle.c_lexer.specs.declared.TokenKind.TheVariants.{Identifier, Punctuator}
use Rattle.c_grammar.specs.Productions.{p_declarator, p_suffix, p_abstract, p_either}
use Rattle.c_grammar.specs.Words.{sign_left_bracket, sign_ellipsis}
use Rattle.c_grammar.specs.Reads.{Node, leaf}
use Rattle.c_grammar.specs.declared.trees.SyntaxNode.{SyntaxNode}
use Rattle.c_grammar.specs.Terminals.{contains}
use Rattle.c_mentions.specs.Syntax as syntax
use Rattle.c_mentions.specs.Declarators.{declarator, within, level, inner_of, is_inner}
use Rattle.c_senses.specs.Tree.{Source, is_a, is_name, has_sign, children_at, parent_of, first_where, any_where, above_within, production_of}
use Rattle.c_senses.specs.Given.{Given, Fits, ◌>>=◌}
use Rattle.c_senses.specs.World.{World}
use Rattle.c_senses.specs.Sense.{Sense, Nothing, IsDeclarator, IsDerivation, Derivation, sense_in}
use Rattle.c_senses.specs.Declarators.{is_declarator, is_outermost, outermost_of, inner_derivations, derives_nothing, is_first_suffix, is_next_to_name, is_defined_list, is_definition, behind_declarators, name_in, derivations, suffix_row, array_suffix, list_of, parameters_in}
use Rattle.c_senses.specs.Rows.{AreSenses, world_at}
use Rattle.parsed_tree_laws.proofs.placed_laws.Climbing.{Grown}
use Rattle.declaration_laws.proofs.function_laws.passed.definition_laws.linkage_laws.Seen.{nodes, some_same, child_is, parent_is, node_within}
use Rattle.declaration_laws.proofs.function_laws.passed.definition_laws.function_definitions.Shapes.{IsIdent, IsSign, IsQuiet, star, qualifier, IsListed, AllQuiet, IsBare, bare, HasBare, ident, inner, IsFunction, own, deep}
use Rattle.declaration_laws.proofs.function_laws.passed.definition_laws.function_definitions.Mentioned as says
use Rattle.declaration_laws.proofs.function_laws.passed.definition_laws.function_definitions.Sensed as sensed
use Rattle.declaration_laws.proofs.function_laws.passed.definition_laws.function_definitions.Whole as whole_of

either_one : (a b : Option ℕ) (x : ℕ) → a ≡ None → option_or a b ≡ Some x → b ≡ Some x
either_one None b x n e = e
either_one (Some y) b x n e = cc

option_first : (a b : Option ℕ) (y x : ℕ) → a ≡ Some y → option_or a b ≡ Some x → y ≡ x
option_first (Some z) b y x n e = cc
option_first None b y x n e = cc

module _ (s : Source) (senses : List Sense) (grown : Grown s) (are : AreSenses s senses) (whole : length senses ≡ length s.nodes) (w : World) where
  abbrev f : ℕ → Sense
  f i = sense_in senses i

  abbrev ns : List Node
  ns = nodes s

  abbrev before : ℕ → ℕ → Sense
  before k = sense_in (take k senses)

  abbrev world : ℕ → World
  world k = world_at s (take k senses) k

  seen_before : (k c : ℕ) → c < k → before k c ≡ f c
  seen_before k c lt = get_or-take k senses c Nothing lt

  is_a_of : (q k : ℕ) (n : Node) → slice_get ns k ≡ Some n → is_a s q k ≡ (n.production == q)
  is_a_of q k n e = let m = sensed.node_at s.nodes k n e in ap (λ (o : Option SyntaxNode). production_of o == q) m.1 ∙ ap (λ (x : Node). x.production == q) m.2

  below : (k c : ℕ) (n : Node) (cs : List ℕ) → slice_get ns k ≡ Some n → n.children ≡ cs → contains cs c ≡ true → c < k
  below k c n cs e same h = grown.before k c (child_is s k c n e (subst (λ (l : List ℕ). contains l c ≡ true) (sym same) h))

  part_of : (k c : ℕ) (n : Node) (cs : List ℕ) → slice_get ns k ≡ Some n → n.children ≡ cs → contains cs c ≡ true → contains (children_at s k) c ≡ true
  part_of k c n cs e same h = child_is s k c n e (subst (λ (l : List ℕ). contains l c ≡ true) (sym same) h)

  head_in : (c : ℕ) (rest : List ℕ) → contains (c ∷ rest) c ≡ true
  head_in c rest = ap (λ (b : Bool). b || contains rest c) (eq-eqb c c refl)

  next_in : (x c : ℕ) (rest : List ℕ) → contains rest c ≡ true → contains (x ∷ rest) c ≡ true
  next_in x c rest h = by (nat_eq x c)
    where
      by : (b : Bool) → (b || contains rest c) ≡ true
      by true = refl
      by false = h

  -- ---- a declarator that makes nothing of its name

  record BareAt (k : ℕ) : Type 0 where
    name : ℕ
    sense : f k ≡ IsDeclarator (Some name) []

  sense_is : (k : ℕ) (n : Node) → slice_get ns k ≡ Some n → n.production ≡ 19 → IsDeclarator (name_in (world k) s (before k) n.children) (derivations (world k) s (before k) n.children) ≡ f k
  sense_is k n e is = whole_of.declarator_gives (world k) s (before k) k n.children (f k) (sensed.row_is s senses grown are whole k 19 n e is)

  sensed_as : (k : ℕ) (n : Node) (name : ℕ) (ds : List Derivation) → slice_get ns k ≡ Some n → n.production ≡ 19 → name_in (world k) s (before k) n.children ≡ Some name → derivations (world k) s (before k) n.children ≡ ds → f k ≡ IsDeclarator (Some name) ds
  sensed_as k n name ds e is a b = sym (sense_is k n e is) ∙ (ap (λ (o : Option ℕ). IsDeclarator o (derivations (world k) s (before k) n.children)) a ∙ ap (IsDeclarator (Some name)) b)

  ident_part : (k i : ℕ) → i < k → IsIdent s.tokens ns i → sensed.Ident s senses grown are whole (world k) (before k) i
  ident_part k i lt h = record {
    name = sensed.leaf_name s i h.node Identifier h.there h.leaf_is h.kind;
    star = sensed.leaf_sign s 11 i h.node Identifier h.there h.leaf_is h.kind;
    sense = seen_before k i lt ∙ sensed.leaf_sense s senses grown are whole i h.node h.there h.leaf_is;
  }

  sign_part : (k l sign : ℕ) → l < k → nat_eq sign 11 ≡ false → IsSign s.tokens ns l sign → (is_name s l ≡ false) × (has_sign s 11 l ≡ false) × (before k l ≡ Nothing)
  sign_part k l sign lt other h =
      (sensed.leaf_name s l h.node (Punctuator sign) h.there h.leaf_is h.kind, sensed.leaf_sign s 11 l h.node (Punctuator sign) h.there h.leaf_is h.kind ∙ other, seen_before k l lt ∙ sensed.leaf_sense s senses grown are whole l h.node h.there h.leaf_is)

  bare_node : (k : ℕ) → IsBare s.tokens ns k → (n : Node) × (slice_get ns k ≡ Some n) × (n.production ≡ 19)
  bare_node k (bare {n = n} e is h) = (n, e, is)

  mutual
    bare_is : (k : ℕ) → IsBare s.tokens ns k → BareAt k
    bare_is k (bare {n = n} e is h) = bare_list k n n.children e is refl h

    bare_list : (k : ℕ) (n : Node) (cs : List ℕ) → slice_get ns k ≡ Some n → n.production ≡ 19 → n.children ≡ cs → HasBare s.tokens ns cs → BareAt k
    bare_list k n cs e is c (ident {k = i} h) =
        let part = ident_part k i (below k i n (i ∷ []) e c (head_in i [])) h in
        record {
          name = i;
          sense = sensed_as k n i [] e is (ap (name_in (world k) s (before k)) c ∙ sensed.ident_name s senses grown are whole (world k) (before k) i [] part)
              (ap (derivations (world k) s (before k)) c ∙ sensed.ident_bare s senses grown are whole (world k) (before k) i part);
        }
    bare_list k n cs e is c (inner {l = l} {k = j} {r = r} p b q) =
        let own = bare_is j b in
        let m = bare_node j b in
        let ll = below k l n (l ∷ j ∷ r ∷ []) e c (head_in l (j ∷ r ∷ [])) in
        let lj = below k j n (l ∷ j ∷ r ∷ []) e c (next_in l j (j ∷ r ∷ []) (head_in j (r ∷ []))) in
        let lr = below k r n (l ∷ j ∷ r ∷ []) e c (next_in l r (j ∷ r ∷ []) (next_in j r (r ∷ []) (head_in r []))) in
        let part : sensed.Inner s senses grown are whole (world k) (before k) l j r own.name [] =
        record { left = sign_part k l 2 ll refl p; middle = (sensed.node_name s j 19 m.0 m.1 m.2 refl, sensed.node_sign s 11 j 19 m.0 m.1 m.2 refl, seen_before k j lj ∙ own.sense); right = sign_part k r 3 lr refl q } in
        record {
          name = own.name;
          sense = sensed_as k n own.name [] e is (ap (name_in (world k) s (before k)) c ∙ sensed.inner_has_name s senses grown are whole (world k) (before k) l j r own.name [] [] part refl)
              (ap (derivations (world k) s (before k)) c ∙ sensed.inner_bare s senses grown are whole (world k) (before k) l j r own.name part);
        }

  -- ---- what stands before a list, and the list

  abbrev with_inner : Sense → List Derivation → List Derivation
  with_inner x rest = elim x as (λ _. List Derivation) [ IsDeclarator name ds ↦ ds | _ ↦ rest ]

  inner_step : (c : ℕ) (rest : List ℕ) (x : Sense) → f c ≡ x → inner_derivations w s f (c ∷ rest) ≡ with_inner x (inner_derivations w s f rest)
  inner_step c rest x e = ap (λ (y : Sense). with_inner y (inner_derivations w s f rest)) e

  first_step : (c : ℕ) (rest : List ℕ) → is_a s p_suffix c ≡ false → first_where (is_a s p_suffix) (c ∷ rest) ≡ first_where (is_a s p_suffix) rest
  first_step c rest e = ap (λ (b : Bool). if b then Some c else first_where (is_a s p_suffix) rest) e

  first_here : (c : ℕ) (rest : List ℕ) → is_a s p_suffix c ≡ true → first_where (is_a s p_suffix) (c ∷ rest) ≡ Some c
  first_here c rest e = ap (λ (b : Bool). if b then Some c else first_where (is_a s p_suffix) rest) e

  production_off : (k p : ℕ) (n : Node) → slice_get ns k ≡ Some n → n.production ≡ p → nat_eq p p_suffix ≡ false → is_a s p_suffix k ≡ false
  production_off k p n e is off = is_a_of p_suffix k n e ∙ (ap (λ (q : ℕ). q == p_suffix) is ∙ off)

  quiet_sense : (c : ℕ) → IsQuiet s.tokens ns c → (f c ≡ Nothing) × (is_a s p_suffix c ≡ false)
  quiet_sense c (star h) = (sensed.leaf_sense s senses grown are whole c h.node h.there h.leaf_is, production_off c leaf h.node h.there h.leaf_is refl)
  quiet_sense c (qualifier {n = n} e is) = (sensed.qualifier_sense s senses grown are whole c n e is, production_off c 9 n e is refl)

  past_inner : (cs rest : List ℕ) → AllQuiet s.tokens ns cs → inner_derivations w s f (cs ++ rest) ≡ inner_derivations w s f rest
  past_inner [] rest h = refl
  past_inner (c ∷ cs) rest h = inner_step c (cs ++ rest) Nothing (quiet_sense c h.0).0 ∙ past_inner cs rest h.1

  past_first : (cs rest : List ℕ) → AllQuiet s.tokens ns cs → first_where (is_a s p_suffix) (cs ++ rest) ≡ first_where (is_a s p_suffix) rest
  past_first [] rest h = refl
  past_first (c ∷ cs) rest h = first_step c (cs ++ rest) (quiet_sense c h.0).1 ∙ past_first cs rest h.1

  fits_same : {x y : Sense} → ◌≡◌ {A = Given Sense} (Fits x) (Fits y) → x ≡ y
  fits_same e = cc

  list_sense : (c : ℕ) → IsListed s.tokens ns c → (d : Derivation) × (f c ≡ IsDerivation d)
  list_sense c h =
      let told = sensed.row_is s senses grown are whole c 22 h.node h.there h.is in
      let row : suffix_row (world c) s (before c) c (h.first ∷ h.more) ≡ Fits (f c) = subst (λ (l : List ℕ). suffix_row (world c) s (before c) c l ≡ Fits (f c)) h.children told in
      let sign : has_sign s sign_left_bracket h.first ≡ false = sensed.leaf_sign s sign_left_bracket h.first h.sign.node (Punctuator 2) h.sign.there h.sign.leaf_is h.sign.kind in
      pick (has_sign s sign_left_bracket h.first) (array_suffix (world c) s (before c) c h.more) sign row
    where
      pick : (b : Bool) (x : Given Derivation) → b ≡ false
          → (if b then (x >>= (λ d. Fits (IsDerivation d))) else Fits (IsDerivation (list_of (world c) s (before c) (any_where (has_sign s sign_ellipsis) h.more) (parameters_in (world c) s (before c) h.more)))) ≡ Fits (f c)
          → (d : Derivation) × (f c ≡ IsDerivation d)
      pick true x e h2 = cc
      pick false x e h2 = (_, sym (fits_same h2))

  -- ---- from an outermost declarator down

  module _ (o : ℕ) (outer : is_outermost s o ≡ true) where
    abbrev Leads : ℕ → Type 0
    Leads m = (fuel : ℕ) → length s.nodes ≤ m + fuel → above_within s (is_outermost s) fuel (Some m) ≡ Some o

    own_leads : o < length s.nodes → Leads o
    own_leads lt zero enough = absurd (omega (arith, lt, enough))
    own_leads lt (suc fuel) enough = by (is_outermost s o) outer
      where
        by : (b : Bool) → b ≡ true → (if b then Some o else above_within s (is_outermost s) fuel (parent_of s o)) ≡ Some o
        by true e = refl
        by false e = cc

    inner_leads : (m c : ℕ) → is_declarator s m ≡ true → contains (children_at s m) c ≡ true → Leads m → Leads c
    inner_leads m c is child leads zero enough = absurd (let small : c < m = grown.before m c child in let inside : m < length s.nodes = grown.within m c child in omega (arith, small, inside, enough))
    inner_leads m c is child leads (suc fuel) enough =
        let up : parent_of s c ≡ Some m = parent_is s grown m c child in
        let small : c < m = grown.before m c child in
        let not_outer : is_outermost s c ≡ false = ap (λ (x : Option ℕ). is_declarator s c && elim x as (λ _. Bool) [ None ↦ true | Some p ↦ not (is_declarator s p) ]) up ∙ (ap (λ (b : Bool). is_declarator s c && not b) is ∙ none (is_declarator s c)) in
        by (is_outermost s c) not_outer (ap (above_within s (is_outermost s) fuel) up ∙ leads fuel (omega (arith, small, enough)))
      where
        none : (b : Bool) → (b && false) ≡ false
        none true = refl
        none false = refl

        by : (b : Bool) → b ≡ false → above_within s (is_outermost s) fuel (parent_of s c) ≡ Some o → (if b then Some c else above_within s (is_outermost s) fuel (parent_of s c)) ≡ Some o
        by true e f = cc
        by false e f = f

    -- where the list stands
    record Next (list : ℕ) : Type 0 where
      holder : ℕ
      child : contains (children_at s holder) list ≡ true
      first : first_where (is_a s p_suffix) (children_at s holder) ≡ Some list
      nothing : inner_derivations w s f (children_at s holder) ≡ []
      outermost : outermost_of s list ≡ Some o

    children_same : (k : ℕ) (n : Node) (cs : List ℕ) → slice_get ns k ≡ Some n → n.children ≡ cs → children_at s k ≡ cs
    children_same k n cs e c =
        let m = sensed.node_at s.nodes k n e in ap (λ (x : Option SyntaxNode). elim x as (λ _. List ℕ) [ None ↦ [] | Some y ↦ y.children.items ]) m.1 ∙ (ap (λ (x : Node). x.children) m.2 ∙ c)

    next_of : (k list : ℕ) (n : Node) (cs : List ℕ) → slice_get ns k ≡ Some n → n.children ≡ cs → contains cs list ≡ true → first_where (is_a s p_suffix) cs ≡ Some list → inner_derivations w s f cs ≡ [] → Leads k → Next list
    next_of k list n cs e c has first none leads =
        let same = children_same k n cs e c in
        let child = part_of k list n cs e c has in
        record {
          holder = k;
          child = child;
          first = ap (first_where (is_a s p_suffix)) same ∙ first;
          nothing = ap (inner_derivations w s f) same ∙ none;
          outermost = ap (above_within s (is_outermost s) (length s.nodes)) (parent_is s grown k list child) ∙ leads (length s.nodes) (omega arith);
        }

    abbrev suffix_at : ℕ → ℕ → Option ℕ
    suffix_at levels k = (within s.tokens ns levels k).suffix

    -- a level of a declarator
    level_own : (levels k : ℕ) (cs : List ℕ) → syntax.children_at ns k ≡ cs → find (is_inner ns k) cs ≡ None → suffix_at (suc levels) k ≡ find (says.suffix_test s.tokens ns) cs
    unfolding inner_of
    level_own levels k cs e none = ap (λ (x : Option ℕ). (level s.tokens ns (within s.tokens ns levels) k x).suffix) (ap (find (is_inner ns k)) e ∙ none) ∙ ap (find (says.suffix_test s.tokens ns)) e

    level_in : (levels k j : ℕ) (cs : List ℕ) → syntax.children_at ns k ≡ cs → find (is_inner ns k) cs ≡ Some j → suffix_at (suc levels) k ≡ option_or (suffix_at levels j) (find (says.suffix_test s.tokens ns) cs)
    unfolding inner_of
    level_in levels k j cs e some =
        ap (λ (x : Option ℕ). (level s.tokens ns (within s.tokens ns levels) k x).suffix) (ap (find (is_inner ns k)) e ∙ some) ∙ ap (λ (l : List ℕ). option_or (suffix_at levels j) (find (says.suffix_test s.tokens ns) l)) e

    leaf_off : (i : ℕ) (n : Node) → slice_get ns i ≡ Some n → n.production ≡ leaf → says.suffix_test s.tokens ns i ≡ false
    leaf_off i n e is = says.is_production s.tokens ns i leaf 22 n e is

    mutual
      bare_none : (levels k : ℕ) → IsBare s.tokens ns k → suffix_at levels k ≡ None
      bare_none zero k h = refl
      bare_none (suc levels) k (bare {n = n} e is h) = bare_none_in levels k n n.children e refl h

      bare_none_in : (levels k : ℕ) (n : Node) (cs : List ℕ) → slice_get ns k ≡ Some n → n.children ≡ cs → HasBare s.tokens ns cs → suffix_at (suc levels) k ≡ None
      bare_none_in levels k n cs e c (ident {k = i} h) =
          level_own levels k (i ∷ []) (says.children_is s.tokens ns k n e ∙ c) (says.find_none (is_inner ns k) (i ∷ []) (says.leaf_inner s.tokens ns k i h.node h.there h.leaf_is, tt))
          ∙ says.find_none (says.suffix_test s.tokens ns) (i ∷ []) (leaf_off i h.node h.there h.leaf_is, tt)
      bare_none_in levels k n cs e c (inner {l = l} {k = j} {r = r} p b q) =
          let m = bare_node j b in
          let lj = below k j n (l ∷ j ∷ r ∷ []) e c (next_in l j (j ∷ r ∷ []) (head_in j (r ∷ []))) in
          let pl = says.sign_plain s.tokens ns k l 2 p in
          let pr = says.sign_plain s.tokens ns k r 3 q in
          level_in levels k j (l ∷ j ∷ r ∷ []) (says.children_is s.tokens ns k n e ∙ c) (says.find_next (is_inner ns k) l (j ∷ r ∷ []) pl.inner_no ∙ says.find_here (is_inner ns k) j (r ∷ []) (says.declarator_inner s.tokens ns k j m.0 m.1 m.2 lj))
          ∙ (ap (λ (x : Option ℕ). option_or x (find (says.suffix_test s.tokens ns) (l ∷ j ∷ r ∷ []))) (bare_none levels j b)
          ∙ says.find_none (says.suffix_test s.tokens ns) (l ∷ j ∷ r ∷ []) (pl.suffix_no, (says.is_production s.tokens ns j 19 22 m.0 m.1 m.2, (pr.suffix_no, tt))))

    in_last : (xs ys : List ℕ) (k : ℕ) → contains ys k ≡ true → contains (xs ++ ys) k ≡ true
    in_last xs ys k h = says.in_last xs ys k h

    declares : (k : ℕ) (n : Node) → slice_get ns k ≡ Some n → n.production ≡ 19 → is_declarator s k ≡ true
    declares k n e is = ap (λ (b : Bool). b || is_a s p_abstract k || is_a s p_either k) (is_a_of p_declarator k n e ∙ ap (λ (q : ℕ). q == p_declarator) is)

    function_node : (k : ℕ) → IsFunction s.tokens ns k → (n : Node) × (slice_get ns k ≡ Some n) × (n.production ≡ 19)
    function_node k (own {n = n} stars middle e is c q m l) = (n, e, is)
    function_node k (deep {n = n} stars suffixes e is c q s1 i s2 z) = (n, e, is)

    -- a declarator that holds its list
    list_own : (levels k c list : ℕ) (n : Node) (stars cs : List ℕ) → slice_get ns k ≡ Some n → n.production ≡ 19 → n.children ≡ stars ++ (cs ++ c ∷ []) → AllQuiet s.tokens ns stars → HasBare s.tokens ns cs → IsListed s.tokens ns c → Leads k
        → suffix_at (suc levels) k ≡ Some list → Next list
    list_own levels k c list n stars cs e is parts q (ident {k = i} h) listed leads told =
        let all : List ℕ = stars ++ (i ∷ c ∷ []) in
        let plain = says.quiet_all s.tokens ns k stars q in
        let children : syntax.children_at ns k ≡ stars ++ (i ∷ c ∷ []) = says.children_is s.tokens ns k n e ∙ parts in
        let found = says.find_past (says.suffix_test s.tokens ns) stars (i ∷ c ∷ []) plain.suffix_no
        ∙ (says.find_next (says.suffix_test s.tokens ns) i (c ∷ []) (leaf_off i h.node h.there h.leaf_is) ∙ says.find_here (says.suffix_test s.tokens ns) c [] (says.is_production s.tokens ns c 22 22 listed.node listed.there listed.is)) in
        let none = says.find_past (is_inner ns k) stars (i ∷ c ∷ []) plain.inner_no
        ∙ says.find_none (is_inner ns k) (i ∷ c ∷ []) (says.leaf_inner s.tokens ns k i h.node h.there h.leaf_is, (says.node_inner s.tokens ns k c 22 listed.node listed.there listed.is refl, tt)) in
        let same : c ≡ list = some_same (sym (level_own levels k (stars ++ (i ∷ c ∷ [])) children none ∙ found) ∙ told) in
        let d = list_sense c listed in
        subst Next same
        (next_of k c n (stars ++ (i ∷ c ∷ [])) e parts (in_last stars (i ∷ c ∷ []) c (next_in i c (c ∷ []) (head_in c [])))
        (past_first stars (i ∷ c ∷ []) q ∙ (first_step i (c ∷ []) (production_off i leaf h.node h.there h.leaf_is refl) ∙ first_here c [] (is_a_of p_suffix c listed.node listed.there ∙ ap (λ (x : ℕ). x == p_suffix) listed.is)))
        (past_inner stars (i ∷ c ∷ []) q ∙ (inner_step i (c ∷ []) Nothing (sensed.leaf_sense s senses grown are whole i h.node h.there h.leaf_is) ∙ inner_step c [] (IsDerivation d.0) d.1)) leads)
    list_own levels k c list n stars cs e is parts q (inner {l = l} {k = j} {r = r} p b p3) listed leads told =
        let plain = says.quiet_all s.tokens ns k stars q in
        let pl = says.sign_plain s.tokens ns k l 2 p in
        let pr = says.sign_plain s.tokens ns k r 3 p3 in
        let m = bare_node j b in
        let own = bare_is j b in
        let lj = below k j n (stars ++ (l ∷ j ∷ r ∷ c ∷ [])) e parts (in_last stars (l ∷ j ∷ r ∷ c ∷ []) j (next_in l j (j ∷ r ∷ c ∷ []) (head_in j (r ∷ c ∷ [])))) in
        let children : syntax.children_at ns k ≡ stars ++ (l ∷ j ∷ r ∷ c ∷ []) = says.children_is s.tokens ns k n e ∙ parts in
        let found = says.find_past (says.suffix_test s.tokens ns) stars (l ∷ j ∷ r ∷ c ∷ []) plain.suffix_no
        ∙ (says.find_next (says.suffix_test s.tokens ns) l (j ∷ r ∷ c ∷ []) pl.suffix_no ∙ (says.find_next (says.suffix_test s.tokens ns) j (r ∷ c ∷ []) (says.is_production s.tokens ns j 19 22 m.0 m.1 m.2)
        ∙ (says.find_next (says.suffix_test s.tokens ns) r (c ∷ []) pr.suffix_no ∙ says.find_here (says.suffix_test s.tokens ns) c [] (says.is_production s.tokens ns c 22 22 listed.node listed.there listed.is)))) in
        let some = says.find_past (is_inner ns k) stars (l ∷ j ∷ r ∷ c ∷ []) plain.inner_no
        ∙ (says.find_next (is_inner ns k) l (j ∷ r ∷ c ∷ []) pl.inner_no ∙ says.find_here (is_inner ns k) j (r ∷ c ∷ []) (says.declarator_inner s.tokens ns k j m.0 m.1 m.2 lj)) in
        let told_so = either_one (suffix_at levels j) (find (says.suffix_test s.tokens ns) (stars ++ (l ∷ j ∷ r ∷ c ∷ []))) list (bare_none levels j b) (sym (level_in levels k j (stars ++ (l ∷ j ∷ r ∷ c ∷ [])) children some) ∙ told) in
        let same : c ≡ list = some_same (sym found ∙ told_so) in
        let off = λ (x g : ℕ) (h : IsSign s.tokens ns x g). production_off x leaf h.node h.there h.leaf_is refl in
        subst Next same
        (next_of k c n (stars ++ (l ∷ j ∷ r ∷ c ∷ [])) e parts (in_last stars (l ∷ j ∷ r ∷ c ∷ []) c (next_in l c (j ∷ r ∷ c ∷ []) (next_in j c (r ∷ c ∷ []) (next_in r c (c ∷ []) (head_in c [])))))
        (past_first stars (l ∷ j ∷ r ∷ c ∷ []) q
        ∙ (first_step l (j ∷ r ∷ c ∷ []) (off l 2 p) ∙ (first_step j (r ∷ c ∷ []) (production_off j 19 m.0 m.1 m.2 refl) ∙ (first_step r (c ∷ []) (off r 3 p3) ∙ first_here c [] (is_a_of p_suffix c listed.node listed.there ∙ ap (λ (x : ℕ). x == p_suffix) listed.is)))))
        (past_inner stars (l ∷ j ∷ r ∷ c ∷ []) q ∙ (inner_step l (j ∷ r ∷ c ∷ []) Nothing (sensed.leaf_sense s senses grown are whole l p.node p.there p.leaf_is) ∙ inner_step j (r ∷ c ∷ []) (IsDeclarator (Some own.name) []) own.sense)) leads)

    -- some list is found where there are levels enough
    has_list : (levels k : ℕ) → k < levels → IsFunction s.tokens ns k → (c : ℕ) × (suffix_at levels k ≡ Some c)
    has_list zero k lt h = absurd (omega (arith, lt))
    has_list (suc levels) k lt (own {f = c} {n = n} stars cs e is parts q h listed) = by cs h parts
      where
        by : (cs : List ℕ) → HasBare s.tokens ns cs → n.children ≡ stars ++ (cs ++ c ∷ []) → (x : ℕ) × (suffix_at (suc levels) k ≡ Some x)
        by cs (ident {k = i} i_is) parts =
            let plain = says.quiet_all s.tokens ns k stars q in (
              c,
              level_own levels k (stars ++ (i ∷ c ∷ [])) (says.children_is s.tokens ns k n e ∙ parts)
                  (says.find_past (is_inner ns k) stars (i ∷ c ∷ []) plain.inner_no ∙ says.find_none (is_inner ns k) (i ∷ c ∷ []) (says.leaf_inner s.tokens ns k i i_is.node i_is.there i_is.leaf_is, (says.node_inner s.tokens ns k c 22 listed.node listed.there listed.is refl, tt)))
                  ∙ (says.find_past (says.suffix_test s.tokens ns) stars (i ∷ c ∷ []) plain.suffix_no
                  ∙ (says.find_next (says.suffix_test s.tokens ns) i (c ∷ []) (leaf_off i i_is.node i_is.there i_is.leaf_is) ∙ says.find_here (says.suffix_test s.tokens ns) c [] (says.is_production s.tokens ns c 22 22 listed.node listed.there listed.is))),
            )
        by cs (inner {l = l} {k = j} {r = r} p b p3) parts =
            let plain = says.quiet_all s.tokens ns k stars q in
            let pl = says.sign_plain s.tokens ns k l 2 p in
            let pr = says.sign_plain s.tokens ns k r 3 p3 in
            let m = bare_node j b in
            let lj = below k j n (stars ++ (l ∷ j ∷ r ∷ c ∷ [])) e parts (in_last stars (l ∷ j ∷ r ∷ c ∷ []) j (next_in l j (j ∷ r ∷ c ∷ []) (head_in j (r ∷ c ∷ [])))) in (
              c,
              level_in levels k j (stars ++ (l ∷ j ∷ r ∷ c ∷ [])) (says.children_is s.tokens ns k n e ∙ parts)
                  (says.find_past (is_inner ns k) stars (l ∷ j ∷ r ∷ c ∷ []) plain.inner_no ∙ (says.find_next (is_inner ns k) l (j ∷ r ∷ c ∷ []) pl.inner_no ∙ says.find_here (is_inner ns k) j (r ∷ c ∷ []) (says.declarator_inner s.tokens ns k j m.0 m.1 m.2 lj)))
                  ∙ (ap (λ (x : Option ℕ). option_or x (find (says.suffix_test s.tokens ns) (stars ++ (l ∷ j ∷ r ∷ c ∷ [])))) (bare_none levels j b)
                  ∙ (says.find_past (says.suffix_test s.tokens ns) stars (l ∷ j ∷ r ∷ c ∷ []) plain.suffix_no
                  ∙ (says.find_next (says.suffix_test s.tokens ns) l (j ∷ r ∷ c ∷ []) pl.suffix_no ∙ (says.find_next (says.suffix_test s.tokens ns) j (r ∷ c ∷ []) (says.is_production s.tokens ns j 19 22 m.0 m.1 m.2)
                  ∙ (says.find_next (says.suffix_test s.tokens ns) r (c ∷ []) pr.suffix_no ∙ says.find_here (says.suffix_test s.tokens ns) c [] (says.is_production s.tokens ns c 22 22 listed.node listed.there listed.is)))))),
            )
    has_list (suc levels) k lt (deep {l = l} {j = j} {r = r} {n = n} stars suffixes e is parts q p i p3 z) =
        let plain = says.quiet_all s.tokens ns k stars q in
        let pl = says.sign_plain s.tokens ns k l 2 p in
        let m = function_node j i in
        let lj = below k j n (stars ++ (l ∷ j ∷ r ∷ suffixes)) e parts (in_last stars (l ∷ j ∷ r ∷ suffixes) j (next_in l j (j ∷ r ∷ suffixes) (head_in j (r ∷ suffixes)))) in
        let c = has_list levels j (omega (arith, lt, lj)) i in (
          c.0,
          level_in levels k j (stars ++ (l ∷ j ∷ r ∷ suffixes)) (says.children_is s.tokens ns k n e ∙ parts)
              (says.find_past (is_inner ns k) stars (l ∷ j ∷ r ∷ suffixes) plain.inner_no ∙ (says.find_next (is_inner ns k) l (j ∷ r ∷ suffixes) pl.inner_no ∙ says.find_here (is_inner ns k) j (r ∷ suffixes) (says.declarator_inner s.tokens ns k j m.0 m.1 m.2 lj)))
              ∙ ap (λ (x : Option ℕ). option_or x (find (says.suffix_test s.tokens ns) (stars ++ (l ∷ j ∷ r ∷ suffixes)))) c.1,
        )

    list_next : (levels k list : ℕ) → k < levels → IsFunction s.tokens ns k → Leads k → suffix_at levels k ≡ Some list → Next list
    list_next zero k list lt h leads told = absurd (omega (arith, lt))
    list_next (suc levels) k list lt (own {f = c} {n = n} stars cs e is parts q h listed) leads told = list_own levels k c list n stars cs e is parts q h listed leads told
    list_next (suc levels) k list lt (deep {l = l} {j = j} {r = r} {n = n} stars suffixes e is parts q p i p3 z) leads told =
        let plain = says.quiet_all s.tokens ns k stars q in
        let pl = says.sign_plain s.tokens ns k l 2 p in
        let m = function_node j i in
        let at = in_last stars (l ∷ j ∷ r ∷ suffixes) j (next_in l j (j ∷ r ∷ suffixes) (head_in j (r ∷ suffixes))) in
        let lj = below k j n (stars ++ (l ∷ j ∷ r ∷ suffixes)) e parts at in
        let few : j < levels = omega (arith, lt, lj) in
        let c = has_list levels j few i in
        let here = level_in levels k j (stars ++ (l ∷ j ∷ r ∷ suffixes)) (says.children_is s.tokens ns k n e ∙ parts)
        (says.find_past (is_inner ns k) stars (l ∷ j ∷ r ∷ suffixes) plain.inner_no ∙ (says.find_next (is_inner ns k) l (j ∷ r ∷ suffixes) pl.inner_no ∙ says.find_here (is_inner ns k) j (r ∷ suffixes) (says.declarator_inner s.tokens ns k j m.0 m.1 m.2 lj))) in
        let same : c.0 ≡ list = option_first (suffix_at levels j) (find (says.suffix_test s.tokens ns) (stars ++ (l ∷ j ∷ r ∷ suffixes))) c.0 list c.1 (sym here ∙ told) in
        list_next levels j list few i (inner_leads k j (declares k n e is) (part_of k j n (stars ++ (l ∷ j ∷ r ∷ suffixes)) e parts at) leads) (c.1 ∙ ap Some same)

    -- it is the list of the definition
    pub list_defined : (d list : ℕ) → IsFunction s.tokens ns o → contains (children_at s d) o ≡ true → is_definition w s f d ≡ true → (declarator s.tokens ns o).suffix ≡ Some list → is_defined_list w s f list ≡ true
    unfolding declarator
    list_defined d list fn child defined told =
        let m = function_node o fn in
        let within_is : o < length s.nodes = node_within s p_declarator o (is_a_of p_declarator o m.0 m.1 ∙ ap (λ (q : ℕ). q == p_declarator) m.2) refl in
        let next = list_next (suc o) o list (omega arith) fn (own_leads within_is) told in
        let nearest : is_next_to_name w s f list ≡ true =
        ap (λ (x : Option ℕ). elim x as (λ _. Bool) [ None ↦ false | Some y ↦ is_first_suffix w s f y list && derives_nothing w s f (inner_derivations w s f (children_at s y)) ]) (parent_is s grown next.holder list next.child)
        ∙ (ap (λ (x : Option ℕ). (elim x as (λ _. Bool) [ None ↦ false | Some y ↦ y == list ]) && derives_nothing w s f (inner_derivations w s f (children_at s next.holder))) next.first
        ∙ (ap (λ (b : Bool). b && derives_nothing w s f (inner_derivations w s f (children_at s next.holder))) (eq-eqb list list refl) ∙ ap (derives_nothing w s f) next.nothing)) in
        let behind : behind_declarators s list ≡ Some d = ap (option_and_then (parent_of s)) next.outermost ∙ parent_is s grown d o child in
        ap (λ (b : Bool). b && elim (behind_declarators s list) as (λ _. Bool) [ None ↦ false | Some p ↦ is_definition w s f p ]) nearest
        ∙ (ap (λ (x : Option ℕ). elim x as (λ _. Bool) [ None ↦ false | Some p ↦ is_definition w s f p ]) behind ∙ defined)
