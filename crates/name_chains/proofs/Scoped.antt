-- The scopes around a node, as they are read.
use Rattle.std.proofs.Common.{◌≡◌, ℕ, ◌<◌, ◌≤◌, ◌+◌, Some, None, List, [], ◌∷◌, length, get_or, map, zero, suc, refl, sym, ap, subst, arith}
use Rattle.std.specs.List.{slice_get}
use Rattle.std.proofs.lemmas.List.{get_or-map, get_or_past, length-map}
use Rattle.std.proofs.lemmas.Option.{slice_get_within, get_or_from_slice_get}
use Rattle.c_lexer.specs.declared.Token.{Token}
use Rattle.c_grammar.specs.Reads.{Node}
use Rattle.c_mentions.specs.declared.settings.Scope.{Scope}
use Rattle.c_mentions.specs.declared.settings.Setting.{Setting}
use Rattle.c_mentions.specs.declared.settings.Settings.{Settings}
use Rattle.c_mentions.specs.Settings.{Standing, standings, outermost, IsChain, AreSettings}
use Rattle.name_chains.specs.Seen.{scopes_of}

-- a scope that is there, and those around it
pub chain_on : (scopes : List Scope) (at : ℕ) (here : Scope) (rest : List ℕ) → slice_get scopes at ≡ Some here → here.outer < at → IsChain scopes at rest
    → (more : List ℕ) × IsChain scopes here.outer more × (rest ≡ here.number ∷ more)
chain_on scopes at here [] e lt h = absurd h
chain_on scopes at here (scope ∷ []) e lt h =
    let same : here ≡ record { number = scope; outer = at } = cc in
    let out : here.outer ≡ at = ap (λ (x : Scope). x.outer) same in
    absurd (omega arith)
chain_on scopes at here (scope ∷ next ∷ others) e lt h =
    let same : here ≡ record { number = scope; outer = h.0 } = cc (h.2) in
    (next ∷ others, subst (λ (n : ℕ). IsChain scopes n (next ∷ others)) (sym (ap (λ (x : Scope). x.outer) same)) h.3, ap (λ (x : Scope). x.number ∷ next ∷ others) (sym same))

pub chain_ends : (scopes : List Scope) (at : ℕ) (here : Scope) (rest : List ℕ) → slice_get scopes at ≡ Some here → at ≤ here.outer → IsChain scopes at rest → rest ≡ here.number ∷ []
chain_ends scopes at here [] e le h = absurd h
chain_ends scopes at here (scope ∷ []) e le h =
    let same : here ≡ record { number = scope; outer = at } = cc in
    ap (λ (x : Scope). x.number ∷ []) (sym same)
chain_ends scopes at here (scope ∷ next ∷ others) e le h =
    let same : here ≡ record { number = scope; outer = h.0 } = cc (h.2) in
    let out : here.outer ≡ h.0 = ap (λ (x : Scope). x.outer) same in
    let lt : h.0 < at = h.1 in
    absurd (omega arith)

pub chain_missing : (scopes : List Scope) (at : ℕ) (rest : List ℕ) → slice_get scopes at ≡ None → IsChain scopes at rest → ⊥
chain_missing scopes at [] e h = h
chain_missing scopes at (scope ∷ []) e h = cc
chain_missing scopes at (scope ∷ next ∷ others) e h = let k = h.2 in cc

length-standings : (tokens : List Token) (nodes : List Node) (i : ℕ) (ns : List Node) → length (standings tokens nodes i ns) ≡ length ns
length-standings tokens nodes i [] = refl
length-standings tokens nodes i (n ∷ ns) = let e = length-standings tokens nodes (i + 1) ns in omega arith

pub scopes_there : (tokens : List Token) (nodes : List Node) (settings : Settings) (leaf : ℕ) (x : Setting) → AreSettings tokens nodes settings → slice_get settings.list leaf ≡ Some x
    → IsChain settings.scopes.items x.scope (scopes_of tokens nodes leaf)
scopes_there tokens nodes settings leaf x h e =
    let all = standings tokens nodes 0 nodes in
    let lt : leaf < length settings.list = slice_get_within settings.list leaf x e in
    let count : length settings.list ≡ length nodes = h.count in
    let long = length-standings tokens nodes 0 nodes in
    let within : leaf < length all = omega arith in
    let node : leaf < length nodes = omega arith in
    let there = subst (λ (y : Setting). IsChain settings.scopes.items y.scope (get_or all leaf (outermost (length nodes))).scopes) (get_or_from_slice_get settings.list leaf x x e) (h.each leaf x node).chain in
    subst (λ (l : List ℕ). IsChain settings.scopes.items x.scope l) (sym (get_or-map (λ (s : Standing). s.scopes) all leaf (outermost (length nodes)) [] within)) there

pub past : {X : Type 0} (xs : List X) (i : ℕ) → slice_get xs i ≡ None → length xs ≤ i
past [] i e = omega arith
past (x ∷ xs) zero e = absurd (cc)
past (x ∷ xs) (suc i) e = let le = past xs i e in omega arith

pub no_scopes : (tokens : List Token) (nodes : List Node) (settings : Settings) (leaf : ℕ) → AreSettings tokens nodes settings → slice_get settings.list leaf ≡ None → scopes_of tokens nodes leaf ≡ []
no_scopes tokens nodes settings leaf h e =
    let all = standings tokens nodes 0 nodes in
    let le = past settings.list leaf e in
    let count : length settings.list ≡ length nodes = h.count in
    let long = length-standings tokens nodes 0 nodes in
    let same = length-map all (λ (s : Standing). s.scopes) in
    get_or_past (map (λ (s : Standing). s.scopes) all) leaf [] (omega arith)
