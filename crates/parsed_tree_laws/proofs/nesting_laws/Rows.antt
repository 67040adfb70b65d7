-- Which productions a production's row brings no part of.
use Rattle.std.proofs.Common.{◌≡◌, ◌<◌, ℕ, zero, suc, nat_eq, not, Bool, true, false, ◌&&◌, cond, List, [], ◌∷◌, refl, sym, subst, arith}
use Rattle.std.proofs.lemmas.Bool.{eqb-true, eqb-false}
use Rattle.c_lexer.specs.declared.TokenKind.{TokenKind}
use Rattle.c_grammar.specs.Table.{table, row}
use Rattle.c_grammar.specs.Terminals.{contains}
use Rattle.c_grammar.specs.Tree.{makes_node}
use Rattle.c_grammar.specs.Reads.{leaf}
use Rattle.parsed_tree_laws.proofs.placed_laws.Rows.{left, right, all_bring, rows_bring, row_brings}

-- by a production: one of six
abbrev pub chosen : {A : Type 0} → ℕ → A → A → A → A → A → A → A
chosen p unit external declaration block statement other = cond (nat_eq p 0) unit (cond (nat_eq p 1) external (cond (nat_eq p 3) declaration (cond (nat_eq p 29) block (cond (nat_eq p 30) statement other))))

-- the productions that no part of one of that production has
abbrev pub barred : ℕ → List ℕ
barred p = chosen p (0 ∷ 2 ∷ 3 ∷ 29 ∷ 30 ∷ []) (0 ∷ 1 ∷ 3 ∷ 30 ∷ []) (0 ∷ 1 ∷ 3 ∷ 29 ∷ 30 ∷ []) (0 ∷ 1 ∷ 2 ∷ 29 ∷ []) (0 ∷ 1 ∷ 2 ∷ []) (0 ∷ 1 ∷ 2 ∷ 3 ∷ 29 ∷ 30 ∷ [])

abbrev unit_rows : List ℕ
unit_rows = 49 ∷ 50 ∷ 51 ∷ []

abbrev external_rows : List ℕ
external_rows = 48 ∷ 49 ∷ 52 ∷ 53 ∷ []

abbrev declaration_rows : List ℕ
declaration_rows = 48 ∷ 49 ∷ 56 ∷ 57 ∷ []

abbrev block_rows : List ℕ
block_rows = 136 ∷ 137 ∷ []

abbrev statement_rows : List ℕ
statement_rows = 48 ∷ 138 ∷ 139 ∷ 140 ∷ 141 ∷ 142 ∷ 143 ∷ 144 ∷ 145 ∷ 146 ∷ 147 ∷ 148 ∷ 149 ∷ 150 ∷ 151 ∷ 152 ∷ 153 ∷ 154 ∷ 155 ∷ 156 ∷ 157 ∷ 158 ∷ 159 ∷ 160 ∷ 161 ∷ 162 ∷ 163 ∷ 164 ∷ 165 ∷ []

abbrev other_rows : List ℕ
other_rows = 48 ∷ 49 ∷ 54 ∷ 55 ∷ 58 ∷ 59 ∷ 60 ∷ 61 ∷ 62 ∷ 63 ∷ 64 ∷ 65 ∷ 66 ∷ 67 ∷ 68 ∷ 69 ∷ 70 ∷ 71 ∷ 72 ∷ 73 ∷ 74 ∷ 75 ∷ 76 ∷ 77 ∷ 78 ∷ 79 ∷ 80 ∷ 81 ∷ 82 ∷ 83 ∷ 84 ∷ 85 ∷ 86 ∷ 87 ∷ 88 ∷ 89 ∷ 90 ∷ 91 ∷ 92 ∷ 93 ∷ 94 ∷ 95 ∷ 96 ∷ 97 ∷ 98 ∷ 99 ∷ 100 ∷ 101 ∷ 102 ∷ 103 ∷ 104 ∷ 105 ∷ 106 ∷ 107 ∷ 108 ∷ 109 ∷ 110 ∷ 111 ∷ 112 ∷ 113 ∷ 114 ∷ 115 ∷ 116 ∷ 117 ∷ 118 ∷ 119 ∷ 120 ∷ 121 ∷ 122 ∷ 123 ∷ 124 ∷ 125 ∷ 126 ∷ 127 ∷ 128 ∷ 129 ∷ 130 ∷ 131 ∷ 132 ∷ 133 ∷ 134 ∷ 135 ∷ 166 ∷ 167 ∷ 168 ∷ 169 ∷ 170 ∷ 171 ∷ 172 ∷ 173 ∷ 174 ∷ 175 ∷ 176 ∷ 177 ∷ 178 ∷ 179 ∷ 180 ∷ 181 ∷ 182 ∷ 183 ∷ 184 ∷ 185 ∷ 186 ∷ 187 ∷ 188 ∷ 189 ∷ 190 ∷ 191 ∷ 192 ∷ 193 ∷ 194 ∷ 195 ∷ 196 ∷ 197 ∷ 198 ∷ 199 ∷ 200 ∷ 201 ∷ 202 ∷ 203 ∷ 204 ∷ 205 ∷ 206 ∷ 207 ∷ 208 ∷ 209 ∷ 210 ∷ 211 ∷ 212 ∷ 213 ∷ 214 ∷ 215 ∷ 216 ∷ 217 ∷ 218 ∷ 219 ∷ 220 ∷ 221 ∷ 222 ∷ 223 ∷ 224 ∷ 225 ∷ 226 ∷ 227 ∷ 228 ∷ 229 ∷ 230 ∷ 231 ∷ 232 ∷ 233 ∷ 234 ∷ 235 ∷ 236 ∷ 237 ∷ 238 ∷ 239 ∷ 240 ∷ 241 ∷ 242 ∷ 243 ∷ 244 ∷ 245 ∷ 246 ∷ 247 ∷ 248 ∷ 249 ∷ 250 ∷ 251 ∷ 252 ∷ 253 ∷ 254 ∷ 255 ∷ 256 ∷ 257 ∷ []

-- the productions without a node whose parts it has
abbrev pub inner : ℕ → List ℕ
inner p = chosen p unit_rows external_rows declaration_rows block_rows statement_rows other_rows

abbrev pub any_token : TokenKind → Bool
any_token kind = true

abbrev pub free : List ℕ → ℕ → Bool
free bars q = not (contains bars q)

abbrev brings_none : List ℕ → List ℕ → Bool
brings_none bars rows = rows_bring any_token (free bars) rows rows

units_bring : brings_none (0 ∷ 2 ∷ 3 ∷ 29 ∷ 30 ∷ []) unit_rows ≡ true
unfolding table row makes_node
units_bring = refl

externals_bring : brings_none (0 ∷ 1 ∷ 3 ∷ 30 ∷ []) external_rows ≡ true
unfolding table row makes_node
externals_bring = refl

declarations_bring : brings_none (0 ∷ 1 ∷ 3 ∷ 29 ∷ 30 ∷ []) declaration_rows ≡ true
unfolding table row makes_node
declarations_bring = refl

blocks_bring : brings_none (0 ∷ 1 ∷ 2 ∷ 29 ∷ []) block_rows ≡ true
unfolding table row makes_node
blocks_bring = refl

statements_bring : brings_none (0 ∷ 1 ∷ 2 ∷ []) statement_rows ≡ true
unfolding table row makes_node
statements_bring = refl

others_bring : brings_none (0 ∷ 1 ∷ 2 ∷ 3 ∷ 29 ∷ 30 ∷ []) other_rows ≡ true
unfolding table row makes_node
others_bring = refl

-- a fact of two choices, each taken by the same tests
pub at_choice : {A B : Type 0} (P : A → B → Type 0) (p : ℕ) (a b c d e f : A) (t v w x y z : B) → P a t → P b v → P c w → P d x → P e y → P f z → P (chosen p a b c d e f) (chosen p t v w x y z)
at_choice P p a b c d e f t v w x y z ath bvh cwh dxh eyh fzh = by (nat_eq p 0) (nat_eq p 1) (nat_eq p 3) (nat_eq p 29) (nat_eq p 30)
  where
    by : (h i j k l : Bool) → P (cond h a (cond i b (cond j c (cond k d (cond l e f))))) (cond h t (cond i v (cond j w (cond k x (cond l y z)))))
    by true i j k l = ath
    by false true j k l = bvh
    by false false true k l = cwh
    by false false false true l = dxh
    by false false false false true = eyh
    by false false false false false = fzh

inner_bring : (p : ℕ) → brings_none (barred p) (inner p) ≡ true
inner_bring p = at_choice (λ (bars rows : List ℕ). brings_none bars rows ≡ true) p _ _ _ _ _ _ _ _ _ _ _ _ units_bring externals_bring declarations_bring blocks_bring statements_bring others_bring

pub inner_row : (p q : ℕ) → contains (inner p) q ≡ true → all_bring any_token (free (barred p)) (inner p) (row q) ≡ true
inner_row p q c = row_brings any_token (free (barred p)) (inner p) (inner p) q (inner_bring p) c

abbrev all_under : (ℕ → Bool) → ℕ → Bool
all_under test zero = true
all_under test (suc n) = test n && all_under test n

under_is : (test : ℕ → Bool) (n p : ℕ) → all_under test n ≡ true → p < n → test p ≡ true
under_is test zero p h lt = absurd (omega (arith, lt))
under_is test (suc n) p h lt = by (nat_eq p n) refl (λ less. under_is test n p (right (test n) (all_under test n) h) less)
  where
    by : (b : Bool) → nat_eq p n ≡ b → (p < n → test p ≡ true) → test p ≡ true
    by true e later = subst (λ (x : ℕ). test x ≡ true) (sym (eqb-true p n e)) (left (test n) (all_under test n) h)
    by false e later = later (let apart = eqb-false p n e in omega (arith, lt, apart))

nodes_bring : all_under (λ p. all_bring any_token (free (barred p)) (inner p) (row p)) 48 ≡ true
unfolding table row makes_node
nodes_bring = refl

pub own_row : (p : ℕ) → p < 48 → all_bring any_token (free (barred p)) (inner p) (row p) ≡ true
own_row p lt = under_is (λ p. all_bring any_token (free (barred p)) (inner p) (row p)) 48 p nodes_bring lt

pub node_below : (p : ℕ) → makes_node p ≡ true → p < 48
unfolding makes_node
node_below p h = grind (arith, h)

-- a leaf is of none of them
pub leaf_free : (p : ℕ) → free (barred p) leaf ≡ true
leaf_free p = at_choice (λ (bars rows : List ℕ). free bars leaf ≡ true) p _ _ _ _ _ _ [] [] [] [] [] [] refl refl refl refl refl refl
