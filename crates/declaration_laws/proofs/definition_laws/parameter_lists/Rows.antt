-- Which productions' rows bring a parameter: those of a parameter list alone.
use Rattle.std.proofs.Common.{arith, ◌≡◌, ◌<◌, ℕ, zero, suc, nat_eq, not, Bool, true, false, ◌&&◌, ◌||◌, List, [], ◌∷◌, refl, sym, subst}
use Rattle.std.proofs.lemmas.Bool.{eqb-true, eqb-false}
use Rattle.c_lexer.specs.declared.TokenKind.{TokenKind}
use Rattle.c_grammar.specs.Table.{table, row}
use Rattle.c_grammar.specs.Terminals.{contains}
use Rattle.c_grammar.specs.Tree.{makes_node}
use Rattle.core_node_laws.proofs.count_laws.passed.parsed_tree_laws.placed_laws.Rows.{left, right, all_bring, rows_bring, row_brings}

abbrev pub any_token : TokenKind → Bool
any_token kind = true

-- no parameter
abbrev pub free : ℕ → Bool
free q = not (nat_eq q 23)

-- the productions without a node, but for those of parameter lists
abbrev pub other_rows : List ℕ
other_rows = 48 ∷ 49 ∷ 50 ∷ 51 ∷ 52 ∷ 53 ∷ 54 ∷ 55 ∷ 56 ∷ 57 ∷ 58 ∷ 59 ∷ 60 ∷ 61 ∷ 62 ∷ 63 ∷ 64 ∷ 65 ∷ 66 ∷ 67 ∷ 68 ∷ 69 ∷ 70 ∷ 71 ∷ 72 ∷ 73 ∷ 74 ∷ 75 ∷ 76 ∷ 77 ∷ 78 ∷ 79 ∷ 80 ∷ 81 ∷ 82 ∷ 83 ∷ 84 ∷ 85 ∷ 86 ∷ 87 ∷ 88 ∷ 89 ∷ 90 ∷ 91 ∷ 92 ∷ 93 ∷ 94 ∷ 95 ∷ 96 ∷ 97 ∷ 98 ∷ 99 ∷ 100 ∷ 101 ∷ 102 ∷ 103 ∷ 104 ∷ 105 ∷ 106 ∷ 107 ∷ 108 ∷ 109 ∷ 110 ∷ 111 ∷ 112 ∷ 113 ∷ 114 ∷ 115 ∷ 116 ∷ 117 ∷ 118 ∷ 119 ∷ 120 ∷ 121 ∷ 122 ∷ 123 ∷ 124 ∷ 128 ∷ 129 ∷ 130 ∷ 131 ∷ 132 ∷ 133 ∷ 134 ∷ 135 ∷ 136 ∷ 137 ∷ 138 ∷ 139 ∷ 140 ∷ 141 ∷ 142 ∷ 143 ∷ 144 ∷ 145 ∷ 146 ∷ 147 ∷ 148 ∷ 149 ∷ 150 ∷ 151 ∷ 152 ∷ 153 ∷ 154 ∷ 155 ∷ 156 ∷ 157 ∷ 158 ∷ 159 ∷ 160 ∷ 161 ∷ 162 ∷ 163 ∷ 164 ∷ 165 ∷ 166 ∷ 167 ∷ 168 ∷ 169 ∷ 170 ∷ 171 ∷ 172 ∷ 173 ∷ 174 ∷ 175 ∷ 176 ∷ 177 ∷ 178 ∷ 179 ∷ 180 ∷ 181 ∷ 182 ∷ 183 ∷ 184 ∷ 185 ∷ 186 ∷ 187 ∷ 188 ∷ 189 ∷ 190 ∷ 191 ∷ 192 ∷ 193 ∷ 194 ∷ 195 ∷ 196 ∷ 197 ∷ 198 ∷ 199 ∷ 200 ∷ 201 ∷ 202 ∷ 203 ∷ 204 ∷ 205 ∷ 206 ∷ 207 ∷ 208 ∷ 209 ∷ 210 ∷ 211 ∷ 212 ∷ 213 ∷ 214 ∷ 215 ∷ 216 ∷ 217 ∷ 218 ∷ 219 ∷ 220 ∷ 221 ∷ 222 ∷ 223 ∷ 224 ∷ 225 ∷ 226 ∷ 227 ∷ 228 ∷ 229 ∷ 230 ∷ 231 ∷ 232 ∷ 233 ∷ 234 ∷ 235 ∷ 236 ∷ 237 ∷ 238 ∷ 239 ∷ 240 ∷ 241 ∷ 242 ∷ 243 ∷ 244 ∷ 245 ∷ 246 ∷ 247 ∷ 248 ∷ 249 ∷ 250 ∷ 251 ∷ 252 ∷ 253 ∷ 254 ∷ 255 ∷ 256 ∷ 257 ∷ []

others_bring : rows_bring any_token free other_rows other_rows ≡ true
unfolding table row makes_node
others_bring = refl

pub other_row : (q : ℕ) → contains other_rows q ≡ true → all_bring any_token free other_rows (row q) ≡ true
other_row q c = row_brings any_token free other_rows other_rows q others_bring c

abbrev all_under : (ℕ → Bool) → ℕ → Bool
all_under test zero = true
all_under test (suc n) = test n && all_under test n

under_is : (test : ℕ → Bool) (n p : ℕ) → all_under test n ≡ true → p < n → test p ≡ true
under_is test zero p h lt = absurd (omega (arith, lt))
under_is test (suc n) p h lt = by (nat_eq p n) refl (λ less. under_is test n p (right (test n) (all_under test n) h) less)
  where
    by : (b : Bool) → nat_eq p n ≡ b → (p < n → test p ≡ true) → test p ≡ true
    by true e later = subst (λ (x : ℕ). test x ≡ true) (sym (eqb-true p n e)) (left (test n) (all_under test n) h)
    by false e later = later (let apart = eqb-false p n e in omega (arith, lt, apart))

abbrev pub may_bring : ℕ → Bool
may_bring p = nat_eq p 22 || all_bring any_token free other_rows (row p)

nodes_bring : all_under may_bring 48 ≡ true
unfolding table row makes_node
nodes_bring = refl

pub own_row : (p : ℕ) → p < 48 → nat_eq p 22 ≡ false → all_bring any_token free other_rows (row p) ≡ true
own_row p lt off = by (nat_eq p 22) off (under_is may_bring 48 p nodes_bring lt)
  where
    by : (b : Bool) → b ≡ false → (b || all_bring any_token free other_rows (row p)) ≡ true → all_bring any_token free other_rows (row p) ≡ true
    by true e h = cc
    by false e h = h

pub node_below : (p : ℕ) → makes_node p ≡ true → p < 48
unfolding makes_node
node_below p h = grind (arith, h)

pub array_row : contains other_rows 121 ≡ true
array_row = refl
