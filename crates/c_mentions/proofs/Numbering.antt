-- The first token of each spelling, token by token.
use Rattle.std.proofs.Common.{◌≡◌, ℕ, suc, ◌+◌, ◌<◌, Bool, true, false, ◌&&◌, Option, Some, None, List, [], ◌∷◌, ◌++◌, length, take, drop, length-take, below_more, get_or, cond, refl, sym, ap, subst, ◌∙◌, arith}
use Rattle.std.proofs.lemmas.List.{take_more}
use Rattle.std.proofs.Math.Seq.{split_at, get_or-append_seam}
use Rattle.std.proofs.Math.ListN.{get_or-append}
use Rattle.std.proofs.lemmas.Option.{slice_get-get_or}
use Rattle.std.specs.List.{position_from}
use Rattle.std.specs.Option.{unwrap_or}
use Rattle.std.specs.Str.{bytes_eq}
use Rattle.std.specs.Cmp.Lexicographic.{bytes_decides, nat_list_eq_equiv}
use Rattle.c_lexer.specs.declared.Token.{Token}
use Rattle.c_grammar.specs.Terminals.{spelled}
use Rattle.c_mentions.specs.Syntax.{is_identifier}
use Rattle.c_mentions.specs.Symbols.{spells, first_token, symbol_of, first_or, known_after, numbered, known_with}

-- the first place in a list that goes on
abbrev later : Option ℕ → Option ℕ → Option ℕ
later None other = other
later (Some i) other = Some i

nothing_later : (o : Option ℕ) → o ≡ later o None
nothing_later None = refl
nothing_later (Some i) = refl

later-cond : (b : Bool) (x y z : Option ℕ) → later (cond b x y) z ≡ cond b (later x z) (later y z)
later-cond true x y z = refl
later-cond false x y z = refl

position-append : {X : Type 0} (p : X → Bool) (i : ℕ) (xs ys : List X) → position_from p i (xs ++ ys) ≡ later (position_from p i xs) (position_from p (i + length xs) ys)
position-append p i [] ys = let e : i + 0 ≡ i = omega arith in ap (λ k. position_from p k ys) (sym e)
position-append p i (x ∷ xs) ys =
    let e : i + 1 + length xs ≡ i + suc (length xs) = omega arith in
    ap (λ o. cond (p x) (Some i) o) (position-append p (i + 1) xs ys ∙ ap (λ k. later (position_from p (i + 1) xs) (position_from p k ys)) e)
    ∙ sym (later-cond (p x) (Some i) (position_from p (i + 1) xs) (position_from p (i + suc (length xs)) ys))

before_first : (o : Option ℕ) (b : Bool) (token : ℕ) → cond b (Some (first_or o token)) o ≡ later o (cond b (Some token) None)
before_first None true token = refl
before_first None false token = refl
before_first (Some i) true token = refl
before_first (Some i) false token = refl

-- one token more, of a name
after_name : (before : List ℕ → Option ℕ) (name other : List ℕ) (token : ℕ) → known_after before name token other ≡ later (before other) (cond (bytes_eq other name) (Some token) None)
after_name before name other token =
    (elim (bytes_eq name other) as (λ b. bytes_eq name other ≡ b → cond b (Some (first_or (before name) token)) (before other) ≡ cond b (Some (first_or (before other) token)) (before other)) [
      | true ↦ λ e. ap (λ n. Some (first_or (before n) token)) ((bytes_decides name other).0 e)
      | false ↦ λ e. refl
    ]) refl
    ∙ (before_first (before other) (bytes_eq name other) token
    ∙ ap (λ b. later (before other) (cond b (Some token) None)) (nat_list_eq_equiv.symm name other))

one_more : (text : List ℕ) (t : Token) (before : List ℕ → Option ℕ) (token : ℕ) (other : List ℕ) (b : Bool)
    → cond b (known_after before (spelled text t) token other) (before other) ≡ later (before other) (cond (b && bytes_eq other (spelled text t)) (Some token) None)
one_more text t before token other true = after_name before (spelled text t) other token
one_more text t before token other false = nothing_later (before other)

-- what is known behind one token more
pub known_more : (text : List ℕ) (tokens : List Token) (before now : List ℕ → Option ℕ) (i : ℕ) (d : Token) → i < length tokens
    → ((other : List ℕ) → before other ≡ first_token text (take i tokens) other)
    → ((other : List ℕ) → now other ≡ known_with text before (get_or tokens i d) i other)
    → (other : List ℕ) → now other ≡ first_token text (take (i + 1) tokens) other
known_more text tokens before now i d l h g other =
    let t = get_or tokens i d in
    let p = spells text other in
    let n : 0 + length (take i tokens) ≡ i = simp length-take (omega arith) in
    let a : first_token text (take i tokens ++ t ∷ []) other ≡ later (first_token text (take i tokens) other) (cond (p t) (Some i) None)
    = position-append p 0 (take i tokens) (t ∷ []) ∙ ap (λ k. later (first_token text (take i tokens) other) (cond (p t) (Some k) None)) n in
    let m : take (i + 1) tokens ≡ take i tokens ++ t ∷ [] = take_more tokens i d l in
    g other ∙ (one_more text t before i other (is_identifier t.kind) ∙ (ap (λ o. later o (cond (p t) (Some i) None)) (h other) ∙ (sym a ∙ ap (λ l. first_token text l other) (sym m))))

own : (text : List ℕ) (t : Token) → is_identifier t.kind ≡ true → spells text (spelled text t) t ≡ true
own text t e = rw e (nat_list_eq_equiv.refl (spelled text t))

first_whole : (o : Option ℕ) (token : ℕ) → unwrap_or (later o (Some token)) token ≡ first_or o token
first_whole None token = refl
first_whole (Some i) token = refl

-- the symbol of a token by what is known before it
pub symbol_here : (text : List ℕ) (tokens : List Token) (before : List ℕ → Option ℕ) (i : ℕ) (d : Token) → i < length tokens
    → ((other : List ℕ) → before other ≡ first_token text (take i tokens) other)
    → numbered text before (get_or tokens i d) i ≡ symbol_of text tokens i
unfolding symbol_of
symbol_here text tokens before i d l h =
    let t = get_or tokens i d in
    let g = slice_get-get_or tokens i d l in
    let p = spells text (spelled text t) in
    let n : 0 + length (take i tokens) ≡ i = simp length-take (omega arith) in
    let rest : List Token = drop (suc i) tokens in
    let a : first_token text (take i tokens ++ t ∷ rest) (spelled text t) ≡ later (first_token text (take i tokens) (spelled text t)) (cond (p t) (Some i) (position_from p (i + 1) rest))
    = position-append p 0 (take i tokens) (t ∷ rest) ∙ ap (λ k. later (first_token text (take i tokens) (spelled text t)) (cond (p t) (Some k) (position_from p (k + 1) rest))) n in
    let m : tokens ≡ take i tokens ++ t ∷ rest = split_at tokens i d l in
    let w : is_identifier t.kind ≡ true → first_token text tokens (spelled text t) ≡ later (before (spelled text t)) (Some i)
    = λ y. ap (λ l. first_token text l (spelled text t)) m ∙ (a ∙ (ap (λ b. later (first_token text (take i tokens) (spelled text t)) (cond b (Some i) (position_from p (i + 1) rest))) (own text t y) ∙ ap (λ o. later o (Some i)) (sym (h (spelled text t))))) in
    rw g ((elim (is_identifier t.kind) as (λ b. is_identifier t.kind ≡ b → cond b (first_or (before (spelled text t)) i) i ≡ cond b (unwrap_or (first_token text tokens (spelled text t)) i) i) [
      | true ↦ λ y. sym (ap (λ o. unwrap_or o i) (w y) ∙ first_whole (before (spelled text t)) i)
      | false ↦ λ y. refl
    ]) refl)

-- one number more, of a list that has one for each place
pub each_more : (xs : List ℕ) (x i : ℕ) (f : ℕ → ℕ) → length xs ≡ i → ((k : ℕ) → k < i → get_or xs k 0 ≡ f k) → x ≡ f i → (k : ℕ) → k < i + 1 → get_or (xs ++ x ∷ []) k 0 ≡ f k
each_more xs x i f e h g =
    below_more _ i
    (λ k l. get_or-append xs (x ∷ []) 0 k (omega arith) ∙ h k l)
    (subst (λ n. get_or (xs ++ x ∷ []) n 0 ≡ f i) e (get_or-append_seam xs x [] 0 ∙ g))
