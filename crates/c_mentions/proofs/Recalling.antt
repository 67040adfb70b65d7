-- Names that were numbered lately, as more names are numbered.
use Rattle.std.proofs.Common.{◌≡◌, ℕ, ◌<◌, ◌^◌, true, false, Option, Some, List, length, replicate, get_or, cond, refl, sym, ap, ◌∙◌, arith}
use Rattle.std.proofs.lemmas.List.{length-replicate}
use Rattle.std.proofs.lemmas.List.Elements.{All-replicate}
use Rattle.std.proofs.lemmas.Option.{slice_get_within}
use Rattle.std.specs.List.{slice_get}
use Rattle.std.specs.Str.{bytes_eq}
use Rattle.std.specs.Cmp.Lexicographic.{bytes_decides, nat_list_eq_equiv}
use Rattle.c_lexer.specs.declared.Token.{Token}
use Rattle.c_grammar.specs.Terminals.{spelled}
use Rattle.c_mentions.specs.Symbols.{first_or, known_after}
use Rattle.c_mentions.specs.Recent.{Recalled, Recalls, Recent}

module _ (old : List ℕ → Option ℕ) (name : List ℕ) (token : ℕ) where
  -- a name that is known stays as it is
  found_still : (other : List ℕ) (symbol : ℕ) → old other ≡ Some symbol → known_after old name token other ≡ Some symbol
  found_still other symbol e =
      (elim (bytes_eq name other) as (λ b. bytes_eq name other ≡ b → cond b (Some (first_or (old name) token)) (old other) ≡ Some symbol) [
        | true ↦ λ q. ap (λ o. Some (first_or o token)) (ap old ((bytes_decides name other).0 q) ∙ e)
        | false ↦ λ q. e
      ]) refl

  -- where the name is known, nothing is new
  pub known_same : (symbol : ℕ) → old name ≡ Some symbol → (other : List ℕ) → old other ≡ known_after old name token other
  known_same symbol e other =
      (elim (bytes_eq name other) as (λ b. bytes_eq name other ≡ b → old other ≡ cond b (Some (first_or (old name) token)) (old other)) [
        | true ↦ λ q.
            let n = (bytes_decides name other).0 q in
            ap old (sym n) ∙ (e ∙ ap (λ o. Some (first_or o token)) (sym e))
        | false ↦ λ q. refl
      ]) refl

  pub symbol_same : (symbol : ℕ) → old name ≡ Some symbol → symbol ≡ first_or (old name) token
  symbol_same symbol e = ap (λ o. first_or o token) (sym e)

  -- the name itself is known then
  own_known : known_after old name token name ≡ Some (first_or (old name) token)
  own_known = ap (λ b. cond b (Some (first_or (old name) token)) (old name)) (nat_list_eq_equiv.refl name)

  module _ (new : List ℕ → Option ℕ) (text : List ℕ) (tokens : List Token) (more : (other : List ℕ) → new other ≡ known_after old name token other) where
    pub recalls_still : (recent : List (ℕ × ℕ)) → Recalls text tokens old recent → Recalls text tokens new recent
    recalls_still recent h = λ k d l t g. more (spelled text t) ∙ found_still (spelled text t) (get_or recent k d).1 (h k d l t g)

    pub recalled_now : (here : Token) (symbol : ℕ) → slice_get tokens token ≡ Some here → spelled text here ≡ name → symbol ≡ first_or (old name) token → Recalled text tokens new (token, symbol)
    recalled_now here symbol g n e = λ t q.
        let same : here ≡ t = cc in
        ap (λ x. new (spelled text x)) (sym same) ∙ (ap new n ∙ (more name ∙ (own_known ∙ ap Some (sym e))))

-- where nothing is remembered
pub none_yet : (text : List ℕ) (tokens : List Token) (firsts : List ℕ → Option ℕ) → length tokens < 2 ^ 32 → Recent text tokens firsts (replicate 1024 (4294967295, 0))
none_yet text tokens firsts few =
    let entry : ℕ × ℕ = (4294967295, 0) in
    record {
      count = length-replicate 1024 entry;
      recalls = All-replicate (Recalled text tokens firsts) 1024 entry (λ t e.
          let l : 4294967295 < length tokens = slice_get_within tokens 4294967295 t e in
          absurd (omega arith));
    }
