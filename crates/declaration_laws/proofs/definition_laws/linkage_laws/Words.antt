-- The word of a storage-class specifier, and the parts of nodes.
use Rattle.std.proofs.Common.{◌≡◌, ◌<◌, ◌+◌, ℕ, zero, suc, nat_eq, not, Bool, true, false, ◌&&◌, cond, Ok, List, [], ◌∷◌, ◌++◌, Some, None, length, slice_get, refl, sym, ap, ◌∙◌, subst, arith, ◌⊎◌, inl, inr}
use Rattle.std.proofs.lemmas.Bool.{eqb-true, eqb-false}
use Rattle.c_lexer.specs.declared.Token.{Token}
use Rattle.c_lexer.specs.declared.TokenKind.{TokenKind}
use Rattle.c_grammar.specs.declared.rows.Item.TheVariants as item
use Rattle.c_grammar.specs.Table.{table, row, item_of}
use Rattle.c_grammar.specs.Terminals.{contains}
use Rattle.c_grammar.specs.Tree.{makes_node, nests}
use Rattle.c_grammar.specs.Reads.{State, Node, leaf, first, second, taken, opened, Walks, Opens}
use Rattle.core_node_laws.proofs.count_laws.passed.parsed_tree_laws.nesting_laws.PassedOn.{left, right, all_bring, rows_bring, row_brings, one_chosen}
use Rattle.core_node_laws.proofs.count_laws.passed.parsed_tree_laws.nesting_laws.PassedOn.{All, row_adds}
use Rattle.declaration_laws.proofs.definition_laws.linkage_laws.Inverting.{tokened, chose, ended, read, plain_opened, plain_closed}

-- by a production: one of three
abbrev pub by_class : {A : Type 0} → ℕ → A → A → A → A
by_class p specs rest other = cond (nat_eq p 6) specs (cond (nat_eq p 2) rest other)

abbrev pub any : ℕ → Bool
any q = true

abbrev pub in_rest : ℕ → Bool
in_rest q = contains (leaf ∷ 5 ∷ 19 ∷ 25 ∷ []) q

abbrev pub no_storage : ℕ → Bool
no_storage q = not (nat_eq q 7)

-- which parts a node may have: specifiers any, the rest of a declaration declarators and initialisers, and no other one storage words
abbrev pub may_have : ℕ → ℕ → Bool
may_have p = by_class p any in_rest no_storage

abbrev all_rows : List ℕ
all_rows = 48 ∷ 49 ∷ 50 ∷ 51 ∷ 52 ∷ 53 ∷ 54 ∷ 55 ∷ 56 ∷ 57 ∷ 58 ∷ 59 ∷ 60 ∷ 62 ∷ 64 ∷ 65 ∷ 66 ∷ 67 ∷ 68 ∷ 69 ∷ 70 ∷ 71 ∷ 72 ∷ 73 ∷ 74 ∷ 75 ∷ 76 ∷ 77 ∷ 78 ∷ 79 ∷ 80 ∷ 81 ∷ 82 ∷ 83 ∷ 84 ∷ 85 ∷ 86 ∷ 87 ∷ 88 ∷ 89 ∷ 90 ∷ 91 ∷ 92 ∷ 93 ∷ 94 ∷ 95 ∷ 96 ∷ 97 ∷ 98 ∷ 99 ∷ 100 ∷ 101 ∷ 102 ∷ 103 ∷ 104 ∷ 105 ∷ 106 ∷ 107 ∷ 108 ∷ 109 ∷ 110 ∷ 111 ∷ 112 ∷ 113 ∷ 114 ∷ 115 ∷ 116 ∷ 117 ∷ 118 ∷ 119 ∷ 120 ∷ 121 ∷ 122 ∷ 123 ∷ 124 ∷ 125 ∷ 126 ∷ 127 ∷ 128 ∷ 129 ∷ 130 ∷ 131 ∷ 132 ∷ 133 ∷ 134 ∷ 135 ∷ 136 ∷ 137 ∷ 138 ∷ 139 ∷ 140 ∷ 141 ∷ 142 ∷ 143 ∷ 144 ∷ 145 ∷ 146 ∷ 147 ∷ 148 ∷ 149 ∷ 150 ∷ 151 ∷ 152 ∷ 153 ∷ 154 ∷ 155 ∷ 156 ∷ 157 ∷ 158 ∷ 159 ∷ 160 ∷ 161 ∷ 162 ∷ 163 ∷ 164 ∷ 165 ∷ 166 ∷ 167 ∷ 168 ∷ 169 ∷ 170 ∷ 171 ∷ 172 ∷ 173 ∷ 174 ∷ 175 ∷ 176 ∷ 177 ∷ 178 ∷ 179 ∷ 180 ∷ 181 ∷ 182 ∷ 183 ∷ 184 ∷ 185 ∷ 186 ∷ 187 ∷ 188 ∷ 189 ∷ 190 ∷ 191 ∷ 192 ∷ 193 ∷ 194 ∷ 195 ∷ 196 ∷ 197 ∷ 198 ∷ 199 ∷ 200 ∷ 201 ∷ 202 ∷ 203 ∷ 204 ∷ 205 ∷ 206 ∷ 207 ∷ 208 ∷ 209 ∷ 210 ∷ 211 ∷ 212 ∷ 213 ∷ 214 ∷ 215 ∷ 216 ∷ 217 ∷ 218 ∷ 219 ∷ 220 ∷ 221 ∷ 222 ∷ 223 ∷ 224 ∷ 225 ∷ 226 ∷ 227 ∷ 228 ∷ 229 ∷ 230 ∷ 231 ∷ 232 ∷ 233 ∷ 234 ∷ 235 ∷ 236 ∷ 237 ∷ 238 ∷ 239 ∷ 240 ∷ 241 ∷ 242 ∷ 243 ∷ 244 ∷ 245 ∷ 246 ∷ 247 ∷ 248 ∷ 249 ∷ 250 ∷ 251 ∷ 252 ∷ 253 ∷ 254 ∷ 255 ∷ 256 ∷ 257 ∷ []

abbrev specs_rows : List ℕ
specs_rows = 59 ∷ 60 ∷ 61 ∷ 62 ∷ 63 ∷ []

abbrev rest_rows : List ℕ
rest_rows = 48 ∷ 54 ∷ 55 ∷ []

abbrev inner : ℕ → List ℕ
inner p = by_class p specs_rows rest_rows all_rows

abbrev any_token : TokenKind → Bool
any_token kind = true

specs_bring : rows_bring any_token any specs_rows specs_rows ≡ true
unfolding table row makes_node
specs_bring = refl

rests_bring : rows_bring any_token in_rest rest_rows rest_rows ≡ true
unfolding table row makes_node
rests_bring = refl

others_bring : rows_bring any_token no_storage all_rows all_rows ≡ true
unfolding table row makes_node
others_bring = refl

-- a fact of two choices, each taken by the same tests
at_class : {A B : Type 0} (P : A → B → Type 0) (p : ℕ) (a b c : A) (x y z : B) → P a x → P b y → P c z → P (by_class p a b c) (by_class p x y z)
at_class P p a b c x y z ax by' cz = by (nat_eq p 6) (nat_eq p 2)
  where
    by : (h i : Bool) → P (cond h a (cond i b c)) (cond h x (cond i y z))
    by true i = ax
    by false true = by'
    by false false = cz

inner_bring : (p : ℕ) → rows_bring any_token (may_have p) (inner p) (inner p) ≡ true
inner_bring p = at_class (λ (f : ℕ → Bool) (rows : List ℕ). rows_bring any_token f rows rows ≡ true) p any in_rest no_storage specs_rows rest_rows all_rows specs_bring rests_bring others_bring

inner_row : (p q : ℕ) → contains (inner p) q ≡ true → all_bring any_token (may_have p) (inner p) (row q) ≡ true
inner_row p q c = row_brings any_token (may_have p) (inner p) (inner p) q (inner_bring p) c

abbrev all_under : (ℕ → Bool) → ℕ → Bool
all_under test zero = true
all_under test (suc n) = test n && all_under test n

under_is : (test : ℕ → Bool) (n p : ℕ) → all_under test n ≡ true → p < n → test p ≡ true
under_is test zero p h lt = absurd (omega (arith, lt))
under_is test (suc n) p h lt = by (nat_eq p n) refl (λ less. under_is test n p (right (test n) (all_under test n) h) less)
  where
    by : (b : Bool) → nat_eq p n ≡ b → (p < n → test p ≡ true) → test p ≡ true
    by true e later = subst (λ (x : ℕ). test x ≡ true) (sym (eqb-true p n e)) (left (test n) (all_under test n) h)
    by false e later = later (let apart = eqb-false p n e in omega (arith, lt, apart))

nodes_bring : all_under (λ p. all_bring any_token (may_have p) (inner p) (row p)) 48 ≡ true
unfolding table row makes_node
nodes_bring = refl

node_below : (p : ℕ) → makes_node p ≡ true → p < 48
unfolding makes_node
node_below p h = grind (arith, h)

own_row : (p : ℕ) → makes_node p ≡ true → all_bring any_token (may_have p) (inner p) (row p) ≡ true
own_row p h = under_is (λ p. all_bring any_token (may_have p) (inner p) (row p)) 48 p nodes_bring (node_below p h)

leaf_may : (p : ℕ) → may_have p leaf ≡ true
leaf_may p = by (nat_eq p 6) (nat_eq p 2)
  where
    by : (h i : Bool) → (cond h any (cond i in_rest no_storage)) leaf ≡ true
    by true i = refl
    by false true = refl
    by false false = refl

-- a part that a node of that production may have
abbrev pub passes : ℕ → Node → Bool
passes p n = may_have p n.production

abbrev pub leaf_at : ℕ → Node
leaf_at place = record { production = leaf; token = place; children = [] }

-- one child, the leaf of the node's own token
abbrev pub HasWord : List Node → Node → Type 0
HasWord nodes n = (k : ℕ) × (n.children ≡ k ∷ []) × (slice_get nodes k ≡ Some (leaf_at n.token))

at_last : (nodes : List Node) (n : Node) → slice_get (nodes ++ n ∷ []) (length nodes) ≡ Some n
at_last [] n = refl
at_last (m ∷ nodes) n = at_last nodes n

module _ (text : List ℕ) (tokens : List Token) where
  -- the node's parts
  pub own_parts : (q d : ℕ) (s u : State) → makes_node q ≡ true → (opened q s).children ≡ [] → Walks text tokens q 0 d (opened q s) (Ok u) → All (passes q) u.nodes u.children
  own_parts q d s u node none w =
      let k = row_adds text tokens (passes q) any_token (may_have q) (inner q) (λ p kind x h t. leaf_may q) (λ p place children h. h) (inner_row q) q 0 d (opened q s) u w (own_row q node) in
      subst (λ (l : List ℕ). All (passes q) u.nodes l) (sym (k.are ∙ ap (λ (l : List ℕ). l ++ k.new) none)) k.all

  -- one token is taken
  record OneLeaf (s t : State) : Type 0 where
    nodes : t.nodes ≡ s.nodes ++ leaf_at s.place ∷ []
    children : t.children ≡ s.children ++ length s.nodes ∷ []

  leaf_read : (q d : ℕ) (k : TokenKind) (s t : State) → item_of q 0 ≡ Some (item.Token k) → item_of q 1 ≡ None → makes_node q ≡ false → Opens text tokens q d s (Ok t) → OneLeaf s t
  leaf_read q d k s t token none plain o =
      let r = read text tokens q d s t o in
      let same : opened q s ≡ s = plain_opened q s plain in
      let w = (tokened text tokens q 0 (d + nests q) k s r.inner token (subst (λ (x : State). Walks text tokens q 0 (d + nests q) x (Ok r.inner)) same r.walks)).1 in
      let end : taken text tokens q s ≡ r.inner = ended text tokens q 1 (d + nests q) (taken text tokens q s) r.inner none w in
      let whole : t ≡ r.inner = r.is ∙ plain_closed q s r.inner plain in
      subst (OneLeaf s) (end ∙ sym whole) (record { nodes = refl; children = refl })

  either_read : (q d a b : ℕ) (s t : State) → item_of q 0 ≡ Some (item.Choice a b) → item_of q 1 ≡ None → makes_node q ≡ false
      → ((x : ℕ) (u : State) → (a ≡ x) ⊎ (b ≡ x) → Opens text tokens x (d + nests q) s (Ok u) → OneLeaf s u) → Opens text tokens q d s (Ok t) → OneLeaf s t
  either_read q d a b s t choice none plain each o =
      let r = read text tokens q d s t o in
      let same : opened q s ≡ s = plain_opened q s plain in
      let c = chose text tokens q 0 (d + nests q) a b s r.inner choice (subst (λ (x : State). Walks text tokens q 0 (d + nests q) x (Ok r.inner)) same r.walks) in
      let end : c.between ≡ r.inner = ended text tokens q 1 (d + nests q) c.between r.inner none c.rest in
      let whole : t ≡ r.inner = r.is ∙ plain_closed q s r.inner plain in
      subst (OneLeaf s) (end ∙ sym whole) (each c.one c.between (one_chosen a b (first text tokens s) (second text tokens s) s.notes c.one c.chosen) c.opens)

  abbrev Reads : ℕ → Type 0
  Reads q = (d : ℕ) (s t : State) → Opens text tokens q d s (Ok t) → OneLeaf s t

  two_read : (a b : ℕ) → Reads a → Reads b → (d : ℕ) (s : State) (x : ℕ) (u : State) → (a ≡ x) ⊎ (b ≡ x) → Opens text tokens x d s (Ok u) → OneLeaf s u
  two_read a b ra rb d s x u (inl e) o = ra d s u (subst (λ (q : ℕ). Opens text tokens q d s (Ok u)) (sym e) o)
  two_read a b ra rb d s x u (inr e) o = rb d s u (subst (λ (q : ℕ). Opens text tokens q d s (Ok u)) (sym e) o)

  read_64 : Reads 64
  unfolding item_of row table makes_node
  read_64 d s t o = leaf_read 64 d _ s t refl refl refl o

  read_65 : Reads 65
  unfolding item_of row table makes_node
  read_65 d s t o = leaf_read 65 d _ s t refl refl refl o

  read_66 : Reads 66
  unfolding item_of row table makes_node
  read_66 d s t o = leaf_read 66 d _ s t refl refl refl o

  read_67 : Reads 67
  unfolding item_of row table makes_node
  read_67 d s t o = leaf_read 67 d _ s t refl refl refl o

  read_68 : Reads 68
  unfolding item_of row table makes_node
  read_68 d s t o = leaf_read 68 d _ s t refl refl refl o

  read_69 : Reads 69
  unfolding item_of row table makes_node
  read_69 d s t o = either_read 69 d 67 68 s t refl refl refl (λ x u e p. two_read 67 68 read_67 read_68 (d + nests 69) s x u e p) o

  read_70 : Reads 70
  unfolding item_of row table makes_node
  read_70 d s t o = either_read 70 d 66 69 s t refl refl refl (λ x u e p. two_read 66 69 read_66 read_69 (d + nests 70) s x u e p) o

  read_71 : Reads 71
  unfolding item_of row table makes_node
  read_71 d s t o = either_read 71 d 65 70 s t refl refl refl (λ x u e p. two_read 65 70 read_65 read_70 (d + nests 71) s x u e p) o

  pub storage_word : (d : ℕ) (s u : State) → s.children ≡ [] → Walks text tokens 7 0 d s (Ok u) → HasWord u.nodes (record { production = 7; token = s.place; children = u.children })
  unfolding item_of row table
  storage_word d s u none w =
      let c = chose text tokens 7 0 d 64 71 s u refl w in
      let end : c.between ≡ u = ended text tokens 7 1 d c.between u refl c.rest in
      let one : OneLeaf s u = subst (OneLeaf s) end (two_read 64 71 read_64 read_71 d s c.one c.between (one_chosen 64 71 (first text tokens s) (second text tokens s) s.notes c.one c.chosen) c.opens) in
      (length s.nodes, one.children ∙ ap (λ (l : List ℕ). l ++ length s.nodes ∷ []) none, ap (λ (l : List Node). slice_get l (length s.nodes)) one.nodes ∙ at_last s.nodes (leaf_at s.place))
