-- Declarators that make nothing of their name, and those that make a function of it, as they are read.
use Rattle.std.proofs.Common.{arith, ◌≡◌, ◌<◌, ◌≤◌, ◌+◌, ℕ, zero, suc, ◌&&◌, ◌||◌, nat_eq, not, Bool, true, false, cond, Ok, List, [], ◌∷◌, ◌++◌, Some, None, length, slice_get, drop, refl, sym, ap, ◌∙◌, subst, append_assoc, append-nil, ◌⊎◌, inl, inr}
use Rattle.c_lexer.specs.declared.Token.{Token}
use Rattle.c_lexer.specs.declared.TokenKind.{TokenKind}
use Rattle.c_lexer.specs.declared.TokenKind.TheVariants.{Identifier, Punctuator}
use Rattle.c_lexer.specs.Laws.{Stands}
use Rattle.c_grammar.specs.declared.notes.Shape.{Shape}
use Rattle.c_grammar.specs.declared.notes.Shape.TheVariants.{Nameless, Bare, Listed, Function, Other}
use Rattle.c_grammar.specs.Notes.{Noted, notes_begin, notes_token, notes_step, notes_after, shape_after, shape_closed}
use Rattle.c_grammar.specs.Table.{table, row, item_of}
use Rattle.c_grammar.specs.Terminals.{takes, terminal}
use Rattle.c_grammar.specs.Tree.{makes_node, nests}
use Rattle.c_grammar.specs.Reads.{State, Fault, Node, leaf, most_nested, first, second, taken, scoped, opened, closed, Walks, Opens}
use Rattle.c_grammar.specs.Reads as reader
use Rattle.c_grammar.specs.Fits.{fits, chosen, is_function}
use Rattle.c_grammar.specs.First.{can_be_empty}
use Rattle.c_mentions.specs.Syntax as syntax
use Rattle.core_node_laws.proofs.count_laws.passed.parsed_tree_laws.placed_laws.Rows.{one_chosen, all_bring, rows_bring, row_brings}
use Rattle.core_node_laws.proofs.count_laws.passed.parsed_tree_laws.placed_laws.Adding.{All, all_on, all_both, row_adds, part_adds}
use Rattle.core_node_laws.proofs.count_laws.passed.parsed_tree_laws.placed_laws.Once.{Extends, walks_extend, opens_extend}
use Rattle.declaration_laws.proofs.definition_laws.linkage_laws.Inverting.{tokened, used, chose, stepped_on, ended, repeated, read, plain_opened, plain_closed, node_opened, node_closed}
use Rattle.declaration_laws.proofs.definition_laws.function_definitions.Tokens.{name_taken, sign_taken}

get_more : (nodes more : List Node) (k : ℕ) (n : Node) → slice_get nodes k ≡ Some n → slice_get (nodes ++ more) k ≡ Some n
get_more [] more k n e = cc
get_more (m ∷ nodes) more zero n e = e
get_more (m ∷ nodes) more (suc k) n e = get_more nodes more k n e

pub get_on : (a b : List Node) (k : ℕ) (n : Node) → Extends a b → slice_get a k ≡ Some n → slice_get b k ≡ Some n
get_on a b k n x e = subst (λ (l : List Node). slice_get l k ≡ Some n) (sym x.1) (get_more a x.0 k n e)

at_last : (nodes : List Node) (n : Node) → slice_get (nodes ++ n ∷ []) (length nodes) ≡ Some n
at_last [] n = refl
at_last (m ∷ nodes) n = at_last nodes n

pub extends_same : (nodes : List Node) → Extends nodes nodes
extends_same nodes = ([], sym (append-nil nodes))

pub extends_then : (a b c : List Node) → Extends a b → Extends b c → Extends a c
extends_then a b c x y = (x.0 ++ y.0, y.1 ∙ (ap (λ (l : List Node). l ++ y.0) x.1 ∙ append_assoc a x.0 y.0))

module _ (tokens : List Token) where
  -- a leaf of a name, one of a sign, a part before the name, and a suffix
  pub record IsIdent (nodes : List Node) (k : ℕ) : Type 0 where
    pub node : Node
    pub there : slice_get nodes k ≡ Some node
    pub leaf_is : node.production ≡ leaf
    pub kind : syntax.token_kind tokens node.token ≡ Identifier

  pub record IsSign (nodes : List Node) (k g : ℕ) : Type 0 where
    pub node : Node
    pub there : slice_get nodes k ≡ Some node
    pub leaf_is : node.production ≡ leaf
    pub kind : syntax.token_kind tokens node.token ≡ Punctuator g

  pub data IsQuiet (nodes : List Node) : ℕ → Type 0 where
    star : {k : ℕ} → IsSign nodes k 11 → IsQuiet nodes k
    qualifier : {k : ℕ} {n : Node} → slice_get nodes k ≡ Some n → n.production ≡ 9 → IsQuiet nodes k

  pub record IsSuffix (nodes : List Node) (k : ℕ) : Type 0 where
    pub node : Node
    pub there : slice_get nodes k ≡ Some node
    pub is : node.production ≡ 22

  pub record IsListed (nodes : List Node) (k : ℕ) : Type 0 where
    pub node : Node
    pub there : slice_get nodes k ≡ Some node
    pub is : node.production ≡ 22
    pub first : ℕ
    pub more : List ℕ
    pub children : node.children ≡ first ∷ more
    pub sign : IsSign nodes first 2

  abbrev pub AllQuiet : List Node → List ℕ → Type 0
  AllQuiet nodes [] = Unit {0}
  AllQuiet nodes (k ∷ ks) = IsQuiet nodes k × AllQuiet nodes ks

  abbrev pub AllSuffixes : List Node → List ℕ → Type 0
  AllSuffixes nodes [] = Unit {0}
  AllSuffixes nodes (k ∷ ks) = IsSuffix nodes k × AllSuffixes nodes ks

  mutual
    pub data IsBare (nodes : List Node) : ℕ → Type 0 where
      bare : {k : ℕ} {n : Node} → slice_get nodes k ≡ Some n → n.production ≡ 19 → HasBare nodes n.children → IsBare nodes k

    pub data HasBare (nodes : List Node) : List ℕ → Type 0 where
      ident : {k : ℕ} → IsIdent nodes k → HasBare nodes (k ∷ [])
      inner : {l k r : ℕ} → IsSign nodes l 2 → IsBare nodes k → IsSign nodes r 3 → HasBare nodes (l ∷ k ∷ r ∷ [])

  pub data IsFunction (nodes : List Node) : ℕ → Type 0 where
    own : {k f : ℕ} {n : Node} (stars middle : List ℕ) → slice_get nodes k ≡ Some n → n.production ≡ 19 → n.children ≡ stars ++ (middle ++ f ∷ []) → AllQuiet nodes stars → HasBare nodes middle → IsListed nodes f → IsFunction nodes k
    deep : {k l j r : ℕ} {n : Node} (stars suffixes : List ℕ) → slice_get nodes k ≡ Some n → n.production ≡ 19 → n.children ≡ stars ++ (l ∷ j ∷ r ∷ suffixes) → AllQuiet nodes stars → IsSign nodes l 2 → IsFunction nodes j → IsSign nodes r 3 → AllSuffixes nodes suffixes → IsFunction nodes k

  -- ---- with more nodes

  ident_on : (a b : List Node) (k : ℕ) → Extends a b → IsIdent a k → IsIdent b k
  ident_on a b k x h = record { node = h.node; there = get_on a b k h.node x h.there; leaf_is = h.leaf_is; kind = h.kind }

  sign_on : (a b : List Node) (k g : ℕ) → Extends a b → IsSign a k g → IsSign b k g
  sign_on a b k g x h = record { node = h.node; there = get_on a b k h.node x h.there; leaf_is = h.leaf_is; kind = h.kind }

  quiet_on : (a b : List Node) (k : ℕ) → Extends a b → IsQuiet a k → IsQuiet b k
  quiet_on a b k x (star h) = star (sign_on a b k 11 x h)
  quiet_on a b k x (qualifier {n = n} e p) = qualifier (get_on a b k n x e) p

  all_quiet_on : (a b : List Node) (ks : List ℕ) → Extends a b → AllQuiet a ks → AllQuiet b ks
  all_quiet_on a b [] x h = tt
  all_quiet_on a b (k ∷ ks) x h = (quiet_on a b k x h.0, all_quiet_on a b ks x h.1)

  quiet_push : (a : List Node) (ks : List ℕ) (k : ℕ) → AllQuiet a ks → IsQuiet a k → AllQuiet a (ks ++ k ∷ [])
  quiet_push a [] k h i = (i, tt)
  quiet_push a (c ∷ ks) k h i = (h.0, quiet_push a ks k h.1 i)

  suffix_on : (a b : List Node) (k : ℕ) → Extends a b → IsSuffix a k → IsSuffix b k
  suffix_on a b k x h = record { node = h.node; there = get_on a b k h.node x h.there; is = h.is }

  all_suffixes_on : (a b : List Node) (ks : List ℕ) → Extends a b → AllSuffixes a ks → AllSuffixes b ks
  all_suffixes_on a b [] x h = tt
  all_suffixes_on a b (k ∷ ks) x h = (suffix_on a b k x h.0, all_suffixes_on a b ks x h.1)

  suffix_push : (a : List Node) (ks : List ℕ) (k : ℕ) → AllSuffixes a ks → IsSuffix a k → AllSuffixes a (ks ++ k ∷ [])
  suffix_push a [] k h i = (i, tt)
  suffix_push a (c ∷ ks) k h i = (h.0, suffix_push a ks k h.1 i)

  listed_on : (a b : List Node) (k : ℕ) → Extends a b → IsListed a k → IsListed b k
  listed_on a b k x h = record { node = h.node; there = get_on a b k h.node x h.there; is = h.is; first = h.first; more = h.more; children = h.children; sign = sign_on a b h.first 2 x h.sign }

  mutual
    bare_on : (a b : List Node) (k : ℕ) → Extends a b → IsBare a k → IsBare b k
    bare_on a b k x (bare {n = n} e p h) = bare (get_on a b k n x e) p (has_bare_on a b n.children x h)

    has_bare_on : (a b : List Node) (ks : List ℕ) → Extends a b → HasBare a ks → HasBare b ks
    has_bare_on a b ks x (ident {k = k} h) = ident (ident_on a b k x h)
    has_bare_on a b ks x (inner {l = l} {k = k} {r = r} h i j) = inner (sign_on a b l 2 x h) (bare_on a b k x i) (sign_on a b r 3 x j)

  pub function_on : (a b : List Node) (k : ℕ) → Extends a b → IsFunction a k → IsFunction b k
  function_on a b k x (own {f = f} {n = n} stars middle e p c q m l) = own stars middle (get_on a b k n x e) p c (all_quiet_on a b stars x q) (has_bare_on a b middle x m) (listed_on a b f x l)
  function_on a b k x (deep {l = l} {j = j} {r = r} {n = n} stars suffixes e p c q s1 i s2 z) =
      deep stars suffixes (get_on a b k n x e) p c (all_quiet_on a b stars x q) (sign_on a b l 2 x s1) (function_on a b j x i) (sign_on a b r 3 x s2) (all_suffixes_on a b suffixes x z)

  -- what stands where the name stands, where its shape is that of a function already
  pub data HasFunction (nodes : List Node) : List ℕ → Type 0 where
    within : {l j r : ℕ} → IsSign nodes l 2 → IsFunction nodes j → IsSign nodes r 3 → HasFunction nodes (l ∷ j ∷ r ∷ [])

  has_function_on : (a b : List Node) (ks : List ℕ) → Extends a b → HasFunction a ks → HasFunction b ks
  has_function_on a b ks x (within {l = l} {j = j} {r = r} h i k) = within (sign_on a b l 2 x h) (function_on a b j x i) (sign_on a b r 3 x k)

  -- what the shape that has been read says of the parts that have been
  Claims : List Node → List ℕ → List ℕ → Shape → Type 0
  Claims nodes middle suffixes Bare = (suffixes ≡ []) × HasBare nodes middle
  Claims nodes middle suffixes Listed = (f : ℕ) × (suffixes ≡ f ∷ []) × IsListed nodes f × HasBare nodes middle
  Claims nodes middle suffixes Function = HasFunction nodes middle
  Claims nodes middle suffixes Nameless = Unit {0}
  Claims nodes middle suffixes Other = Unit {0}

  claims_on : (a b : List Node) (middle suffixes : List ℕ) (shape : Shape) → Extends a b → Claims a middle suffixes shape → Claims b middle suffixes shape
  unfolding Claims
  claims_on a b middle suffixes Bare x h = (h.0, has_bare_on a b middle x h.1)
  claims_on a b middle suffixes Listed x h = (h.0, h.1, listed_on a b h.0 x h.2, has_bare_on a b middle x h.3)
  claims_on a b middle suffixes Function x h = has_function_on a b middle x h
  claims_on a b middle suffixes Nameless x h = tt
  claims_on a b middle suffixes Other x h = tt

  record Before (s : State) : Type 0 where
    quiet : AllQuiet s.nodes s.children
    plain : s.notes.pointer ≡ false → s.children ≡ []
    shape : s.notes.shape ≡ Nameless

  record Along (s : State) : Type 0 where
    stars : List ℕ
    middle : List ℕ
    suffixes : List ℕ
    are : s.children ≡ stars ++ (middle ++ suffixes)
    quiet : AllQuiet s.nodes stars
    plain : s.notes.pointer ≡ false → stars ≡ []
    all : AllSuffixes s.nodes suffixes
    claims : Claims s.nodes middle suffixes s.notes.shape

  -- ---- external declarations

  -- no block among some nodes
  abbrev pub no_block : Node → Bool
  no_block n = not (nat_eq n.production 29)

  -- the specifiers of a definition, then its declarator
  pub record Heads (nodes : List Node) (children : List ℕ) : Type 0 where
    pub specs : ℕ
    pub declarator : ℕ
    pub rest : List ℕ
    pub are : children ≡ specs ∷ declarator ∷ rest
    pub before : Node
    pub before_at : slice_get nodes specs ≡ Some before
    pub before_is : before.production ≡ 6
    pub is : IsFunction nodes declarator

  -- a declaration without a block, or such a one
  unfoldable pub External : List Node → List ℕ → Type 0
  External nodes children = All no_block nodes children ⊎ Heads nodes children

  pub external_on : (a b : List Node) (ks : List ℕ) → Extends a b → External a ks → External b ks
  unfolding External
  external_on a b ks x (inl h) = inl (all_on no_block a b ks x h)
  external_on a b ks x (inr h) = inr (record { specs = h.specs; declarator = h.declarator; rest = h.rest; are = h.are; before = h.before; before_at = get_on a b h.specs h.before x h.before_at; before_is = h.before_is; is = function_on a b h.declarator x h.is })

  module _ (text : List ℕ) (all_stand : (k : ℕ) (t : Token) → slice_get tokens k ≡ Some t → Stands text t) where
    -- ---- leaves

    kind_there : (place : ℕ) (t : Token) (k : TokenKind) → slice_get tokens place ≡ Some t → t.kind ≡ k → syntax.token_kind tokens place ≡ k
    kind_there place t k e is = ap syntax.kind_of e ∙ is

    sign_leaf : (p g : ℕ) (s : State) → g < 48 → takes p (Punctuator g) (first text tokens s) ≡ true → IsSign (taken text tokens p s).nodes (length s.nodes) g
    unfolding terminal
    sign_leaf p g s small h =
        let t = sign_taken text p g s.scopes (slice_get tokens s.place) (λ t e. all_stand s.place t e) small h in
        record { node = record { production = leaf; token = s.place; children = [] }; there = at_last s.nodes (record { production = leaf; token = s.place; children = [] }); leaf_is = refl; kind = kind_there s.place t.0 (Punctuator g) t.1 t.2 }

    name_leaf : (s : State) → takes 116 Identifier (first text tokens s) ≡ true → IsIdent (taken text tokens 116 s).nodes (length s.nodes)
    unfolding terminal
    name_leaf s h =
        let t = name_taken text s.scopes (slice_get tokens s.place) (λ t e. all_stand s.place t e) h in
        record { node = record { production = leaf; token = s.place; children = [] }; there = at_last s.nodes (record { production = leaf; token = s.place; children = [] }); leaf_is = refl; kind = kind_there s.place t.0 Identifier t.1 t.2 }

    taken_extends : (p : ℕ) (s : State) → Extends s.nodes (taken text tokens p s).nodes
    taken_extends p s = ((record { production = leaf; token = s.place; children = [] }) ∷ [], refl)

    -- ---- a node of a production

    record NodeRead (q d : ℕ) (s t : State) : Type 0 where
      inner : State
      shallow : d + nests q ≤ most_nested
      walks : Walks text tokens q 0 (d + nests q) (record s { children = []; notes = notes_begin q s.notes }) (Ok inner)
      nodes : t.nodes ≡ inner.nodes ++ (record { production = q; token = s.place; children = inner.children }) ∷ []
      children : t.children ≡ s.children ++ length inner.nodes ∷ []
      notes : t.notes ≡ notes_after q inner.notes s.notes

    node_read : (q d : ℕ) (s t : State) → makes_node q ≡ true → Opens text tokens q d s (Ok t) → NodeRead q d s t
    node_read q d s t node o =
        let r = read text tokens q d s t o in
        let c = r.is ∙ node_closed q s r.inner node in
        record { inner = r.inner; shallow = r.shallow; walks = subst (λ (x : State). Walks text tokens q 0 (d + nests q) x (Ok r.inner)) (node_opened q s node) r.walks; nodes = ap (λ (x : State). x.nodes) c; children = ap (λ (x : State). x.children) c; notes = ap (λ (x : State). x.notes) c }

    own_node : (q d : ℕ) (s t : State) (n : NodeRead q d s t) → slice_get t.nodes (length n.inner.nodes) ≡ Some (record { production = q; token = s.place; children = n.inner.children })
    own_node q d s t n = ap (λ (l : List Node). slice_get l (length n.inner.nodes)) n.nodes ∙ at_last n.inner.nodes (record { production = q; token = s.place; children = n.inner.children })

    plain_walk : (q d : ℕ) (s t : State) → makes_node q ≡ false → Opens text tokens q d s (Ok t) → Walks text tokens q 0 (d + nests q) s (Ok t)
    plain_walk q d s t plain o =
        let r = read text tokens q d s t o in
        let w = subst (λ (x : State). Walks text tokens q 0 (d + nests q) x (Ok r.inner)) (plain_opened q s plain) r.walks in
        subst (λ (x : State). Walks text tokens q 0 (d + nests q) s (Ok x)) (sym (r.is ∙ plain_closed q s r.inner plain)) w

    -- ---- the stars

    record Starred (s : State) : Type 0 where
      quiet : AllQuiet s.nodes s.children
      pointer : s.notes.pointer ≡ true
      shape : s.notes.shape ≡ Nameless

    qualifier_read : (d : ℕ) (s t : State) → Opens text tokens 9 d s (Ok t) → Starred s → Starred t
    unfolding makes_node notes_after
    qualifier_read d s t o b =
        let n = node_read 9 d s t refl o in
        let x = opens_extend text tokens 9 d s t o in
        record {
          quiet = subst (AllQuiet t.nodes) (sym n.children) (quiet_push t.nodes s.children (length n.inner.nodes) (all_quiet_on s.nodes t.nodes s.children x b.quiet) (qualifier (own_node 9 d s t n) refl));
          pointer = ap (λ (y : Noted). y.pointer) n.notes ∙ b.pointer;
          shape = ap (λ (y : Noted). y.shape) n.notes ∙ b.shape;
        }

    no_both : (b : Bool) → b ≡ true → b ≡ false → ⊥
    no_both b e f = let both : true ≡ false = sym e ∙ f in cc

    star_read : (d : ℕ) (s t : State) → Opens text tokens 115 d s (Ok t) → Before s → Before t
    unfolding makes_node item_of row table notes_token
    star_read d s t o b =
        let w = plain_walk 115 d s t refl o in
        let k = tokened text tokens 115 0 (d + nests 115) _ s t refl w in
        let begun : Starred (taken text tokens 115 s) = record {
          quiet = quiet_push (taken text tokens 115 s).nodes s.children (length s.nodes) (all_quiet_on s.nodes (taken text tokens 115 s).nodes s.children (taken_extends 115 s) b.quiet) (star (sign_leaf 115 11 s (omega arith) k.0));
          pointer = refl;
          shape = b.shape;
        } in
        let r = repeated text tokens Starred 115 1 (d + nests 115) 9 (taken text tokens 115 s) t refl (λ x y p h. qualifier_read (d + nests 115) x y p h) begun k.1 in
        let end : r.between ≡ t = ended text tokens 115 2 (d + nests 115) r.between t refl r.rest in
        let h : Starred t = subst Starred end r.holds in
        record { quiet = h.quiet; plain = λ e. absurd (no_both t.notes.pointer h.pointer e); shape = h.shape }

    -- ---- suffixes

    record SuffixRead (s t : State) : Type 0 where
      node : ℕ
      children : t.children ≡ s.children ++ node ∷ []
      is : IsSuffix t.nodes node
      pointer : t.notes.pointer ≡ s.notes.pointer
      inner : Shape
      shape : t.notes.shape ≡ shape_after inner s.notes.shape
      listed : inner ≡ Listed → IsListed t.nodes node

    -- rows that leave the shape as it is
    abbrev Keeps : ℕ → Type 0
    Keeps q = (d : ℕ) (s t : State) → Opens text tokens q d s (Ok t) → t.notes.shape ≡ s.notes.shape

    keeps_9 : Keeps 9
    unfolding makes_node notes_after
    keeps_9 d s t o = ap (λ (y : Noted). y.shape) (node_read 9 d s t refl o).notes

    keeps_32 : Keeps 32
    unfolding makes_node notes_after
    keeps_32 d s t o = ap (λ (y : Noted). y.shape) (node_read 32 d s t refl o).notes

    keeps_48 : Keeps 48
    unfolding makes_node item_of row table
    keeps_48 d s t o = ap (λ (x : State). x.notes.shape) (sym (ended text tokens 48 0 (d + nests 48) s t refl (plain_walk 48 d s t refl o)))

    keeps_66 : Keeps 66
    unfolding makes_node item_of row table notes_token
    keeps_66 d s t o =
        let k = tokened text tokens 66 0 (d + nests 66) _ s t refl (plain_walk 66 d s t refl o) in
        ap (λ (x : State). x.notes.shape) (sym (ended text tokens 66 1 (d + nests 66) (taken text tokens 66 s) t refl k.1))

    keeps_123 : Keeps 123
    unfolding makes_node item_of row table notes_token
    keeps_123 d s t o =
        let k = tokened text tokens 123 0 (d + nests 123) _ s t refl (plain_walk 123 d s t refl o) in
        ap (λ (x : State). x.notes.shape) (sym (ended text tokens 123 1 (d + nests 123) (taken text tokens 123 s) t refl k.1))

    keeps_two : (a b x : ℕ) → Keeps a → Keeps b → (a ≡ x) ⊎ (b ≡ x) → Keeps x
    keeps_two a b x ka kb (inl e) = subst Keeps e ka
    keeps_two a b x ka kb (inr e) = subst Keeps e kb

    keeps_124 : Keeps 124
    unfolding makes_node item_of row table
    keeps_124 d s t o =
        let c = chose text tokens 124 0 (d + nests 124) 32 48 s t refl (plain_walk 124 d s t refl o) in
        ap (λ (x : State). x.notes.shape) (sym (ended text tokens 124 1 (d + nests 124) c.between t refl c.rest))
        ∙ keeps_two 32 48 c.one keeps_32 keeps_48 (one_chosen 32 48 (first text tokens s) (second text tokens s) s.notes c.one c.chosen) (d + nests 124) s c.between c.opens

    keeps_122 : Keeps 122
    unfolding makes_node item_of row table
    keeps_122 d s t o =
        let c = chose text tokens 122 0 (d + nests 122) 66 9 s t refl (plain_walk 122 d s t refl o) in
        ap (λ (x : State). x.notes.shape) (sym (ended text tokens 122 1 (d + nests 122) c.between t refl c.rest))
        ∙ keeps_two 66 9 c.one keeps_66 keeps_9 (one_chosen 66 9 (first text tokens s) (second text tokens s) s.notes c.one c.chosen) (d + nests 122) s c.between c.opens

    keeps_121 : Keeps 121
    unfolding makes_node item_of row table notes_token
    keeps_121 d s t o =
        let depth = d + nests 121 in
        let k = tokened text tokens 121 0 depth _ s t refl (plain_walk 121 d s t refl o) in
        let r = repeated text tokens (λ x. x.notes.shape ≡ s.notes.shape) 121 1 depth 122 (taken text tokens 121 s) t refl (λ x y p h. keeps_122 depth x y p ∙ h) refl k.1 in
        let c = chose text tokens 121 2 depth 123 124 r.between t refl r.rest in
        let m = tokened text tokens 121 3 depth _ c.between t refl c.rest in
        let end : taken text tokens 121 c.between ≡ t = ended text tokens 121 4 depth (taken text tokens 121 c.between) t refl m.1 in
        ap (λ (x : State). x.notes.shape) (sym end)
        ∙ (keeps_two 123 124 c.one keeps_123 keeps_124 (one_chosen 123 124 (first text tokens r.between) (second text tokens r.between) r.between.notes c.one c.chosen) depth r.between c.between c.opens ∙ r.holds)

    -- ---- parameter lists

    abbrev list_rows : List ℕ
    list_rows = 48 ∷ 126 ∷ 127 ∷ 128 ∷ []

    abbrev any_token : TokenKind → Bool
    any_token kind = true

    abbrev any_node : ℕ → Bool
    any_node q = true

    abbrev any : Node → Bool
    any n = true

    lists_bring : rows_bring any_token any_node list_rows list_rows ≡ true
    unfolding table row makes_node
    lists_bring = refl

    rest_brings : all_bring any_token any_node list_rows (drop 1 (row 125)) ≡ true
    unfolding table row makes_node
    rest_brings = refl

    record ListRead (t : State) : Type 0 where
      first : ℕ
      more : List ℕ
      children : t.children ≡ first ∷ more
      sign : IsSign t.nodes first 2

    list_read : (d : ℕ) (s t : State) → s.children ≡ [] → Opens text tokens 125 d s (Ok t) → ListRead t
    unfolding makes_node item_of row table
    list_read d s t none o =
        let depth = d + nests 125 in
        let k = tokened text tokens 125 0 depth _ s t refl (plain_walk 125 d s t refl o) in
        let a = row_adds text tokens any any_token any_node list_rows (λ p kind x h g. refl) (λ q place children h. refl) (λ q c. row_brings any_token any_node list_rows list_rows q lists_bring c) 125 1 depth (taken text tokens 125 s) t k.1 rest_brings in
        record {
          first = length s.nodes;
          more = a.new;
          children = a.are ∙ ap (λ (l : List ℕ). (l ++ length s.nodes ∷ []) ++ a.new) none;
          sign = sign_on (taken text tokens 125 s).nodes t.nodes (length s.nodes) 2 (walks_extend text tokens 125 1 depth (taken text tokens 125 s) t k.1) (sign_leaf 125 2 s (omega arith) k.0);
        }

    suffix_read : (d : ℕ) (s t : State) → Opens text tokens 22 d s (Ok t) → SuffixRead s t
    unfolding makes_node item_of row table notes_begin notes_after
    suffix_read d s t o =
        let n = node_read 22 d s t refl o in
        let begin : State = record s { children = []; notes = notes_begin 22 s.notes } in
        let c = chose text tokens 22 0 (d + nests 22) 121 125 begin n.inner refl n.walks in
        let end : c.between ≡ n.inner = ended text tokens 22 1 (d + nests 22) c.between n.inner refl c.rest in
        let there = own_node 22 d s t n in
        record {
          node = length n.inner.nodes;
          children = n.children;
          is = record { node = record { production = 22; token = s.place; children = n.inner.children }; there = there; is = refl };
          pointer = ap (λ (y : Noted). y.pointer) n.notes;
          inner = n.inner.notes.shape;
          shape = ap (λ (y : Noted). y.shape) n.notes;
          listed = pick n c.one c.between (one_chosen 121 125 (first text tokens begin) (second text tokens begin) begin.notes c.one c.chosen) c.opens end there;
        }
      where
        begin : State
        begin = record s { children = []; notes = notes_begin 22 s.notes }

        pick : (n : NodeRead 22 d s t) (one : ℕ) (u : State) → (121 ≡ one) ⊎ (125 ≡ one) → Opens text tokens one (d + nests 22) begin (Ok u) → u ≡ n.inner
            → slice_get t.nodes (length n.inner.nodes) ≡ Some (record { production = 22; token = s.place; children = n.inner.children }) → n.inner.notes.shape ≡ Listed → IsListed t.nodes (length n.inner.nodes)
        pick n one u (inl e) o end there listed =
            let plain : u.notes.shape ≡ Nameless = keeps_121 (d + nests 22) begin u (subst (λ (q : ℕ). Opens text tokens q (d + nests 22) begin (Ok u)) (sym e) o) in
            let never : Nameless ≡ Listed = sym plain ∙ (ap (λ (x : State). x.notes.shape) end ∙ listed) in
            absurd (cc)
        pick n one u (inr e) o end there listed =
            let l : ListRead u = list_read (d + nests 22) begin u refl (subst (λ (q : ℕ). Opens text tokens q (d + nests 22) begin (Ok u)) (sym e) o) in
            let x : Extends n.inner.nodes t.nodes = ((record { production = 22; token = s.place; children = n.inner.children }) ∷ [], n.nodes) in
            record {
              node = record { production = 22; token = s.place; children = n.inner.children };
              there = there;
              is = refl;
              first = l.first;
              more = l.more;
              children = ap (λ (y : State). y.children) (sym end) ∙ l.children;
              sign = sign_on n.inner.nodes t.nodes l.first 2 x (subst (λ (y : State). IsSign y.nodes l.first 2) end l.sign);
            }

    -- ---- with a suffix more

    claims_more : (a : List Node) (middle suffixes : List ℕ) (k : ℕ) (shape given : Shape) → Claims a middle suffixes shape → (given ≡ Listed → IsListed a k) → Claims a middle (suffixes ++ k ∷ []) (shape_after given shape)
    unfolding Claims
    claims_more a middle suffixes k Bare Listed h listed = (k, ap (λ (l : List ℕ). l ++ k ∷ []) h.0, listed refl, h.1)
    claims_more a middle suffixes k Bare Nameless h listed = tt
    claims_more a middle suffixes k Bare Bare h listed = tt
    claims_more a middle suffixes k Bare Function h listed = tt
    claims_more a middle suffixes k Bare Other h listed = tt
    claims_more a middle suffixes k Listed given h listed = tt
    claims_more a middle suffixes k Nameless given h listed = tt
    claims_more a middle suffixes k Function given h listed = h
    claims_more a middle suffixes k Other given h listed = tt

    along_more : (d : ℕ) (s t : State) → Opens text tokens 22 d s (Ok t) → Along s → Along t
    along_more d s t o a =
        let r = suffix_read d s t o in
        let x = opens_extend text tokens 22 d s t o in
        record {
          stars = a.stars;
          middle = a.middle;
          suffixes = a.suffixes ++ r.node ∷ [];
          are = r.children ∙ (ap (λ (l : List ℕ). l ++ r.node ∷ []) a.are ∙ (append_assoc a.stars (a.middle ++ a.suffixes) (r.node ∷ []) ∙ ap (λ (l : List ℕ). a.stars ++ l) (append_assoc a.middle a.suffixes (r.node ∷ []))));
          quiet = all_quiet_on s.nodes t.nodes a.stars x a.quiet;
          plain = λ e. a.plain (sym r.pointer ∙ e);
          all = suffix_push t.nodes a.suffixes r.node (all_suffixes_on s.nodes t.nodes a.suffixes x a.all) r.is;
          claims = subst (Claims t.nodes a.middle (a.suffixes ++ r.node ∷ [])) (sym r.shape) (claims_more t.nodes a.middle a.suffixes r.node s.notes.shape r.inner (claims_on s.nodes t.nodes a.middle a.suffixes s.notes.shape x a.claims) r.listed);
        }

    -- ---- the name

    name_read : (d : ℕ) (s t : State) → Opens text tokens 116 d s (Ok t) → Before s → Along t
    unfolding makes_node item_of row table notes_token Claims
    name_read d s t o b =
        let k = tokened text tokens 116 0 (d + nests 116) _ s t refl (plain_walk 116 d s t refl o) in
        let end : taken text tokens 116 s ≡ t = ended text tokens 116 1 (d + nests 116) (taken text tokens 116 s) t refl k.1 in
        let own_along : Along (taken text tokens 116 s) = record {
          stars = s.children;
          middle = length s.nodes ∷ [];
          suffixes = [];
          are = refl;
          quiet = all_quiet_on s.nodes (taken text tokens 116 s).nodes s.children (taken_extends 116 s) b.quiet;
          plain = b.plain;
          all = tt;
          claims = (refl, ident (name_leaf s k.0));
        } in
        subst Along end own_along

    record DeclaratorRead (s t : State) : Type 0 where
      node : ℕ
      children : t.children ≡ s.children ++ node ∷ []
      there : Node
      is : slice_get t.nodes node ≡ Some there
      production : there.production ≡ 19
      pointer : t.notes.pointer ≡ s.notes.pointer
      bare_is : t.notes.shape ≡ Bare → IsBare t.nodes node
      function_is : t.notes.shape ≡ Function → IsFunction t.nodes node
      unlisted : t.notes.shape ≡ Listed → ⊥

    abbrev Reads : ℕ → Type 0
    Reads d = (s t : State) → Opens text tokens 19 d s (Ok t) → DeclaratorRead s t

    three : (xs : List ℕ) (l j r : ℕ) → ((xs ++ l ∷ []) ++ j ∷ []) ++ r ∷ [] ≡ xs ++ ((l ∷ j ∷ r ∷ []) ++ [])
    three [] l j r = refl
    three (x ∷ xs) l j r = ap (λ (ys : List ℕ). x ∷ ys) (three xs l j r)

    inner_claims : (a : List Node) (l j r : ℕ) (shape : Shape) → IsSign a l 2 → IsSign a r 3 → (shape ≡ Bare → IsBare a j) → (shape ≡ Function → IsFunction a j) → (shape ≡ Listed → ⊥) → Claims a (l ∷ j ∷ r ∷ []) [] shape
    unfolding Claims
    inner_claims a l j r Bare p q b f n = (refl, inner p (b refl) q)
    inner_claims a l j r Function p q b f n = within p (f refl) q
    inner_claims a l j r Listed p q b f n = absurd (n refl)
    inner_claims a l j r Nameless p q b f n = tt
    inner_claims a l j r Other p q b f n = tt

    inner_read : (d : ℕ) (s t : State) → Reads (d + nests 117) → Opens text tokens 117 d s (Ok t) → Before s → Along t
    unfolding makes_node item_of row table notes_token
    inner_read d s t deeper o b =
        let depth = d + nests 117 in
        let k = tokened text tokens 117 0 depth _ s t refl (plain_walk 117 d s t refl o) in
        let s1 = taken text tokens 117 s in
        let u = used text tokens 117 1 depth 19 s1 t refl k.1 in
        let s2 = u.between in
        let m = tokened text tokens 117 2 depth _ s2 t refl u.rest in
        let s3 = taken text tokens 117 s2 in
        let end : s3 ≡ t = ended text tokens 117 3 depth s3 t refl m.1 in
        let r = deeper s1 s2 u.opens in
        let x2 : Extends s1.nodes s2.nodes = opens_extend text tokens 19 depth s1 s2 u.opens in
        let x3 : Extends s2.nodes s3.nodes = taken_extends 117 s2 in
        let x : Extends s.nodes s3.nodes = extends_then s.nodes s1.nodes s3.nodes (taken_extends 117 s) (extends_then s1.nodes s2.nodes s3.nodes x2 x3) in
        let own_along : Along s3 = record {
          stars = s.children;
          middle = length s.nodes ∷ r.node ∷ length s2.nodes ∷ [];
          suffixes = [];
          are = ap (λ (l : List ℕ). l ++ length s2.nodes ∷ []) r.children ∙ three s.children (length s.nodes) r.node (length s2.nodes);
          quiet = all_quiet_on s.nodes s3.nodes s.children x b.quiet;
          plain = λ e. b.plain (sym r.pointer ∙ e);
          all = tt;
          claims = inner_claims s3.nodes (length s.nodes) r.node (length s2.nodes) s2.notes.shape (sign_on s1.nodes s3.nodes (length s.nodes) 2 (extends_then s1.nodes s2.nodes s3.nodes x2 x3) (sign_leaf 117 2 s (omega arith) k.0)) (sign_leaf 117 3 s2 (omega arith) m.0)
              (λ e. bare_on s2.nodes s3.nodes r.node x3 (r.bare_is e)) (λ e. function_on s2.nodes s3.nodes r.node x3 (r.function_is e)) r.unlisted;
        } in
        subst Along end own_along

    -- ---- the whole declarator

    closed_bare : (pointer : Bool) (shape : Shape) → shape_closed pointer shape ≡ Bare → (shape ≡ Bare) × (pointer ≡ false)
    closed_bare true Bare e = cc
    closed_bare false Bare e = (refl, refl)
    closed_bare pointer Listed e = cc
    closed_bare pointer Nameless e = cc
    closed_bare pointer Function e = cc
    closed_bare pointer Other e = cc

    closed_function : (pointer : Bool) (shape : Shape) → shape_closed pointer shape ≡ Function → (shape ≡ Listed) ⊎ (shape ≡ Function)
    closed_function true Bare e = cc
    closed_function false Bare e = cc
    closed_function pointer Listed e = inl refl
    closed_function pointer Nameless e = cc
    closed_function pointer Function e = inr refl
    closed_function pointer Other e = cc

    closed_listed : (pointer : Bool) (shape : Shape) → shape_closed pointer shape ≡ Listed → ⊥
    closed_listed true Bare e = cc
    closed_listed false Bare e = cc
    closed_listed pointer Listed e = cc
    closed_listed pointer Nameless e = cc
    closed_listed pointer Function e = cc
    closed_listed pointer Other e = cc

    as_bare : (a : List Node) (k : ℕ) (n : Node) (stars middle suffixes : List ℕ) → slice_get a k ≡ Some n → n.production ≡ 19 → n.children ≡ stars ++ (middle ++ suffixes) → stars ≡ [] → Claims a middle suffixes Bare → IsBare a k
    unfolding Claims
    as_bare a k n stars middle suffixes e p c none h =
        let whole : n.children ≡ middle = c ∙ (ap (λ (l : List ℕ). l ++ (middle ++ suffixes)) none ∙ (ap (λ (l : List ℕ). middle ++ l) h.0 ∙ append-nil middle)) in
        bare e p (subst (HasBare a) (sym whole) h.1)

    as_listed : (a : List Node) (k : ℕ) (n : Node) (stars middle suffixes : List ℕ) → slice_get a k ≡ Some n → n.production ≡ 19 → n.children ≡ stars ++ (middle ++ suffixes) → AllQuiet a stars → Claims a middle suffixes Listed → IsFunction a k
    unfolding Claims
    as_listed a k n stars middle suffixes e p c q h = own stars middle e p (c ∙ ap (λ (l : List ℕ). stars ++ (middle ++ l)) h.1) q h.3 h.2

    as_deep : (a : List Node) (k : ℕ) (n : Node) (stars middle suffixes : List ℕ) → slice_get a k ≡ Some n → n.production ≡ 19 → n.children ≡ stars ++ (middle ++ suffixes) → AllQuiet a stars → AllSuffixes a suffixes → Claims a middle suffixes Function → IsFunction a k
    unfolding Claims
    as_deep a k n stars middle suffixes e p c q z (within h i j) = deep stars suffixes e p c q h i j z

    closed_along : (a : List Node) (k : ℕ) (s t : State) (place : ℕ) → Along s → Extends s.nodes a → slice_get a k ≡ Some (record { production = 19; token = place; children = s.children }) → t.notes.shape ≡ shape_closed s.notes.pointer s.notes.shape
        → (t.notes.shape ≡ Bare → IsBare a k) × (t.notes.shape ≡ Function → IsFunction a k)
    closed_along a k s t place h x at closes =
        let n : Node = record { production = 19; token = place; children = s.children } in
        let quiet = all_quiet_on s.nodes a h.stars x h.quiet in
        let suffixes = all_suffixes_on s.nodes a h.suffixes x h.all in
        let claims = claims_on s.nodes a h.middle h.suffixes s.notes.shape x h.claims in (
          λ e. let c = closed_bare s.notes.pointer s.notes.shape (sym closes ∙ e) in as_bare a k n h.stars h.middle h.suffixes at refl h.are (h.plain c.1) (subst (Claims a h.middle h.suffixes) c.0 claims),
          λ e. by n quiet suffixes claims (closed_function s.notes.pointer s.notes.shape (sym closes ∙ e)),
        )
      where
        by : (n : Node) → AllQuiet a h.stars → AllSuffixes a h.suffixes → Claims a h.middle h.suffixes s.notes.shape → (s.notes.shape ≡ Listed) ⊎ (s.notes.shape ≡ Function) → IsFunction a k
        by n quiet suffixes claims (inl e) = as_listed a k (record { production = 19; token = place; children = s.children }) h.stars h.middle h.suffixes at refl h.are quiet (subst (Claims a h.middle h.suffixes) e claims)
        by n quiet suffixes claims (inr e) = as_deep a k (record { production = 19; token = place; children = s.children }) h.stars h.middle h.suffixes at refl h.are quiet suffixes (subst (Claims a h.middle h.suffixes) e claims)

    too_deep : (d : ℕ) → d + nests 19 ≤ most_nested → most_nested ≤ d + 0 → ⊥
    unfolding nests
    too_deep d h e = omega (arith, h, e)

    less : (d fuel : ℕ) → most_nested ≤ d + suc fuel → most_nested ≤ d + nests 19 + nests 117 + fuel
    unfolding nests
    less d fuel h = omega (arith, h)

    -- each declarator that is read, through so many levels
    reads : (fuel d : ℕ) → most_nested ≤ d + fuel → Reads d
    unfolding makes_node item_of row table notes_begin notes_after
    reads zero d enough s t o = absurd (too_deep d (node_read 19 d s t refl o).shallow enough)
    reads (suc fuel) d enough s t o = whole (reads fuel (d + nests 19 + nests 117) (less d fuel enough))
      where
        depth : ℕ
        depth = d + nests 19

        n : NodeRead 19 d s t
        n = node_read 19 d s t refl o

        begin : State
        begin = record s { children = []; notes = notes_begin 19 s.notes }

        named : (x : ℕ) (u v : State) → Reads (depth + nests 117) → (116 ≡ x) ⊎ (117 ≡ x) → Opens text tokens x depth u (Ok v) → Before u → Along v
        named x u v deeper (inl e) p b = name_read depth u v (subst (λ (q : ℕ). Opens text tokens q depth u (Ok v)) (sym e) p) b
        named x u v deeper (inr e) p b = inner_read depth u v deeper (subst (λ (q : ℕ). Opens text tokens q depth u (Ok v)) (sym e) p) b

        whole : Reads (depth + nests 117) → DeclaratorRead s t
        whole deeper =
            let r = repeated text tokens Before 19 0 depth 115 begin n.inner refl (λ x y p h. star_read depth x y p h) (record { quiet = tt; plain = λ e. refl; shape = refl }) n.walks in
            let c = chose text tokens 19 1 depth 116 117 r.between n.inner refl r.rest in
            let along = named c.one r.between c.between deeper (one_chosen 116 117 (first text tokens r.between) (second text tokens r.between) r.between.notes c.one c.chosen) c.opens r.holds in
            let m = repeated text tokens Along 19 2 depth 22 c.between n.inner refl (λ x y p h. along_more depth x y p h) along c.rest in
            let end : m.between ≡ n.inner = ended text tokens 19 3 depth m.between n.inner refl m.rest in
            let done : Along n.inner = subst Along end m.holds in
            let there = own_node 19 d s t n in
            let shape : t.notes.shape ≡ shape_closed n.inner.notes.pointer n.inner.notes.shape = ap (λ (y : Noted). y.shape) n.notes in
            let both = closed_along t.nodes (length n.inner.nodes) n.inner t s.place done ((record { production = 19; token = s.place; children = n.inner.children }) ∷ [], n.nodes) there shape in
            record {
              node = length n.inner.nodes;
              children = n.children;
              there = record { production = 19; token = s.place; children = n.inner.children };
              is = there;
              production = refl;
              pointer = ap (λ (y : Noted). y.pointer) n.notes;
              bare_is = both.0;
              function_is = both.1;
              unlisted = λ e. closed_listed n.inner.notes.pointer n.inner.notes.shape (sym shape ∙ e);
            }

    declarator_read : (d : ℕ) → Reads d
    declarator_read d = reads most_nested d (omega arith)

    block_push : (a : List Node) (ks : List ℕ) (k : ℕ) (n : Node) → All no_block a ks → slice_get a k ≡ Some n → no_block n ≡ true → All no_block a (ks ++ k ∷ [])
    block_push a ks k n h e is = all_both no_block a ks (k ∷ []) h ((n, e, is), tt)

    record Behind (s t : State) : Type 0 where
      shape : t.notes.shape ≡ s.notes.shape
      extra : List ℕ
      children : t.children ≡ s.children ++ extra
      free : All no_block t.nodes extra

    asm_read : (d : ℕ) (s t : State) (x : ℕ) → (5 ≡ x) ⊎ (48 ≡ x) → Opens text tokens x d s (Ok t) → Behind s t
    unfolding makes_node item_of row table notes_after
    asm_read d s t x (inl e) o =
        let p = subst (λ (q : ℕ). Opens text tokens q d s (Ok t)) (sym e) o in
        let n = node_read 5 d s t refl p in
        record { shape = ap (λ (y : Noted). y.shape) n.notes; extra = length n.inner.nodes ∷ []; children = n.children; free = ((record { production = 5; token = s.place; children = n.inner.children }, own_node 5 d s t n, refl), tt) }
    asm_read d s t x (inr e) o =
        let p = subst (λ (q : ℕ). Opens text tokens q d s (Ok t)) (sym e) o in
        let same : s ≡ t = ended text tokens 48 0 (d + nests 48) s t refl (plain_walk 48 d s t refl p) in
        record { shape = ap (λ (y : State). y.notes.shape) (sym same); extra = []; children = ap (λ (y : State). y.children) (sym same) ∙ sym (append-nil s.children); free = tt }

    abbrev body_rows : List ℕ
    body_rows = 53 ∷ []

    bodies_bring : rows_bring any_token any_node body_rows body_rows ≡ true
    unfolding table row makes_node
    bodies_bring = refl

    body_adds : (d : ℕ) (s t : State) → Opens text tokens 53 d s (Ok t) → (new : List ℕ) × (t.children ≡ s.children ++ new)
    unfolding makes_node
    body_adds d s t o =
        let a = part_adds text tokens any any_token any_node body_rows (λ p kind x h g. refl) (λ q place children h. refl) (λ q c. row_brings any_token any_node body_rows body_rows q bodies_bring c) 53 d s t o refl in
        (a.new, a.are)

    is_function_shape : (shape : Shape) → is_function shape ≡ true → shape ≡ Function
    is_function_shape Function e = refl
    is_function_shape Nameless e = cc
    is_function_shape Bare e = cc
    is_function_shape Listed e = cc
    is_function_shape Other e = cc

    both_true : (a b : Bool) → (a && b) ≡ true → b ≡ true
    both_true true b e = e
    both_true false b e = cc

    body_shape : (first second : ℕ) (notes : Noted) → fits 53 first second notes ≡ true → notes.shape ≡ Function
    unfolding fits
    body_shape first second notes e = is_function_shape notes.shape (both_true (nat_eq first 49) (is_function notes.shape) e)

    body_chosen : (first second x : ℕ) (notes : Noted) → chosen 53 2 first second notes ≡ Some x → ((53 ≡ x) × (notes.shape ≡ Function)) ⊎ (2 ≡ x)
    unfolding chosen
    body_chosen first second x notes e = by (fits 53 first second notes) (fits 2 first second notes || can_be_empty 2) refl e
      where
        by : (a b : Bool) → fits 53 first second notes ≡ a → cond a (Some 53) (cond b (Some 2) None) ≡ Some x → ((53 ≡ x) × (notes.shape ≡ Function)) ⊎ (2 ≡ x)
        by true b f e = inl (let same : 53 ≡ x = cc in same, body_shape first second notes f)
        by false true f e = inr (let same : 2 ≡ x = cc in same)
        by false false f e = absurd (cc)

    names_read : (d : ℕ) (s t : State) (k : ℕ) (m : Node) → s.children ≡ k ∷ [] → slice_get s.nodes k ≡ Some m → m.production ≡ 6 → Opens text tokens 52 d s (Ok t) → External t.nodes t.children
    unfolding makes_node item_of row table notes_step External
    names_read d s t k m first at is o =
        let depth = d + nests 52 in
        let u = used text tokens 52 0 depth 19 s t refl (plain_walk 52 d s t refl o) in
        let a = u.between in
        let r = declarator_read depth s a u.opens in
        let b = scoped text tokens 52 2 a in
        let c = chose text tokens 52 2 depth 5 48 b t refl (stepped_on text tokens 52 1 depth 2 a t refl u.rest) in
        let v = c.between in
        let h = asm_read depth b v c.one (one_chosen 5 48 (first_of b) (second_of b) b.notes c.one c.chosen) c.opens in
        let e = chose text tokens 52 3 depth 53 2 v t refl c.rest in
        let end : e.between ≡ t = ended text tokens 52 4 depth e.between t refl e.rest in
        let x1 : Extends s.nodes a.nodes = opens_extend text tokens 19 depth s a u.opens in
        let x2 : Extends a.nodes v.nodes = opens_extend text tokens c.one depth b v c.opens in
        let x3 : Extends v.nodes e.between.nodes = opens_extend text tokens e.one depth v e.between e.opens in
        let children : v.children ≡ k ∷ r.node ∷ h.extra = h.children ∙ (ap (λ (l : List ℕ). l ++ h.extra) r.children ∙ ap (λ (l : List ℕ). (l ++ r.node ∷ []) ++ h.extra) first) in
        subst (λ (y : State). External y.nodes y.children) end
        (by a v e.between e.one r h children (extends_then s.nodes a.nodes e.between.nodes x1 (extends_then a.nodes v.nodes e.between.nodes x2 x3)) (extends_then a.nodes v.nodes e.between.nodes x2 x3) x3 (body_chosen (first_of v) (second_of v) e.one v.notes e.chosen) e.opens)
      where
        first_of : State → ℕ
        first_of y = reader.first text tokens y

        second_of : State → ℕ
        second_of y = reader.second text tokens y

        depth : ℕ
        depth = d + nests 52

        by : (a v e : State) (one : ℕ) (r : DeclaratorRead s a) (h : Behind (scoped text tokens 52 2 a) v) → v.children ≡ k ∷ r.node ∷ h.extra → Extends s.nodes e.nodes → Extends a.nodes e.nodes → Extends v.nodes e.nodes
            → ((53 ≡ one) × (v.notes.shape ≡ Function)) ⊎ (2 ≡ one) → Opens text tokens one depth v (Ok e) → External e.nodes e.children
        by a v e one r h children xs xa xv (inl p) o =
            let new = body_adds depth v e (subst (λ (q : ℕ). Opens text tokens q depth v (Ok e)) (sym p.0) o) in
            let shape : a.notes.shape ≡ Function = sym h.shape ∙ p.1 in
            inr (record { specs = k; declarator = r.node; rest = h.extra ++ new.0; are = new.1 ∙ ap (λ (l : List ℕ). l ++ new.0) children; before = m; before_at = get_on s.nodes e.nodes k m xs at; before_is = is; is = function_on a.nodes e.nodes r.node xa (r.function_is shape) })
        by a v e one r h children xs xa xv (inr p) o =
            let n = node_read 2 depth v e refl (subst (λ (q : ℕ). Opens text tokens q depth v (Ok e)) (sym p) o) in
            let two : All no_block e.nodes (k ∷ r.node ∷ []) = ((m, get_on s.nodes e.nodes k m xs at, ap (λ (q : ℕ). not (nat_eq q 29)) is), ((r.there, get_on a.nodes e.nodes r.node r.there xa r.is, ap (λ (q : ℕ). not (nat_eq q 29)) r.production), tt)) in
            let whole : All no_block e.nodes (k ∷ r.node ∷ h.extra) = all_both no_block e.nodes (k ∷ r.node ∷ []) h.extra two (all_on no_block v.nodes e.nodes h.extra xv h.free) in
            inl (subst (All no_block e.nodes) (sym (n.children ∙ ap (λ (l : List ℕ). l ++ length n.inner.nodes ∷ []) children)) (block_push e.nodes (k ∷ r.node ∷ h.extra) (length n.inner.nodes) (record { production = 2; token = v.place; children = n.inner.children }) whole (own_node 2 depth v e n) refl))

    pub external_read : (d : ℕ) (s t : State) → s.children ≡ [] → Walks text tokens 1 0 d s (Ok t) → External t.nodes t.children
    unfolding makes_node item_of row table External
    external_read d s t none w =
        let u = used text tokens 1 0 d 6 s t refl w in
        let y = u.between in
        let n = node_read 6 d s y refl u.opens in
        let c = chose text tokens 1 1 d 49 52 y t refl u.rest in
        let end : c.between ≡ t = ended text tokens 1 2 d c.between t refl c.rest in
        let children : y.children ≡ length n.inner.nodes ∷ [] = n.children ∙ ap (λ (l : List ℕ). l ++ length n.inner.nodes ∷ []) none in
        subst (λ (x : State). External x.nodes x.children) end (by y n c.one c.between children (one_chosen 49 52 (reader.first text tokens y) (reader.second text tokens y) y.notes c.one c.chosen) c.opens)
      where
        by : (y : State) (n : NodeRead 6 d s y) (one : ℕ) (z : State) → y.children ≡ length n.inner.nodes ∷ [] → (49 ≡ one) ⊎ (52 ≡ one) → Opens text tokens one d y (Ok z) → External z.nodes z.children
        by y n one z children (inl e) o =
            let p = subst (λ (q : ℕ). Opens text tokens q d y (Ok z)) (sym e) o in
            let k = tokened text tokens 49 0 (d + nests 49) _ y z refl (plain_walk 49 d y z refl p) in
            let end : taken text tokens 49 y ≡ z = ended text tokens 49 1 (d + nests 49) (taken text tokens 49 y) z refl k.1 in
            let m : Node = record { production = 6; token = s.place; children = n.inner.children } in
            let after = (taken text tokens 49 y).nodes in
            let one_part : All no_block after (length n.inner.nodes ∷ []) = ((m, get_on y.nodes after (length n.inner.nodes) m (taken_extends 49 y) (own_node 6 d s y n), refl), tt) in
            let whole : All no_block after (y.children ++ length y.nodes ∷ []) = block_push after y.children (length y.nodes) (record { production = leaf; token = y.place; children = [] }) (subst (All no_block after) (sym children) one_part) (at_last y.nodes (record { production = leaf; token = y.place; children = [] })) refl in
            subst (λ (x : State). External x.nodes x.children) end (inl whole)
        by y n one z children (inr e) o =
            names_read d y z (length n.inner.nodes) (record { production = 6; token = s.place; children = n.inner.children }) children (own_node 6 d s y n) refl (subst (λ (q : ℕ). Opens text tokens q d y (Ok z)) (sym e) o)
