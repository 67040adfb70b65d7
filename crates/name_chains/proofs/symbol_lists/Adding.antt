-- One declaration more.
use Rattle.std.proofs.Common.{arith, ◌≡◌, ℕ, ◌+◌, zero, suc, Bool, true, false, eqb, cond, ◌&&◌, List, [], ◌∷◌, ◌++◌, length, length-append, slice_get, Option, Some, None, option_map, refl, sym, ap, ◌∙◌}
use Rattle.std.specs.Prelude.{unwrap_or, Result, Ok, Err, IfOk}
use Rattle.std.specs.BTreeMap.{BTreeMap}
use Rattle.std.specs.Map.{lookup}
use Rattle.std.proofs.lemmas.Bool.{eqb-true}
use Rattle.std.proofs.lemmas.Bool.Decides.{nat_tests}
use Rattle.c_scope.specs.declared.kinds.Declared.{Declared}
use Rattle.name_chains.specs.symbol_lists.Symbols.{of_symbol, leaf_of, kept_at, count_at, leaf_at, Say}

zero_apart : (k : ℕ) → eqb 0 (suc k) ≡ false
zero_apart k = grind (arith, nat_tests)

apart_zero : (k : ℕ) → eqb (suc k) 0 ≡ false
apart_zero k = grind (arith, nat_tests)

next_same : (n k : ℕ) → eqb (suc n) (suc k) ≡ eqb n k
next_same n k = grind (arith, nat_tests)

-- an element more at a list's end
get_push : (xs : List Declared) (x : Declared) (k : ℕ) → slice_get (xs ++ x ∷ []) k ≡ cond (eqb (length xs) k) (Some x) (slice_get xs k)
get_push [] x zero = refl
get_push [] x (suc k) = sym (ap (λ (b : Bool). cond b (Some x) None) (zero_apart k))
get_push (y ∷ xs) x zero = sym (ap (λ (b : Bool). cond b (Some x) (Some y)) (apart_zero (length xs)))
get_push (y ∷ xs) x (suc k) = get_push xs x k ∙ sym (ap (λ (b : Bool). cond b (Some x) (slice_get xs k)) (next_same (length xs) k))

more_cases : (here last : Bool) (x d : Declared) (rest : List Declared) → cond here (x ∷ cond last (rest ++ d ∷ []) rest) (cond last (rest ++ d ∷ []) rest) ≡ cond last (cond here (x ∷ rest) rest ++ d ∷ []) (cond here (x ∷ rest) rest)
more_cases true true x d rest = refl
more_cases true false x d rest = refl
more_cases false true x d rest = refl
more_cases false false x d rest = refl

of_push : (q : ℕ) (ds : List Declared) (d : Declared) → of_symbol q (ds ++ d ∷ []) ≡ cond (eqb d.symbol q) (of_symbol q ds ++ d ∷ []) (of_symbol q ds)
of_push q [] d = refl
of_push q (x ∷ ds) d =
    ap (λ (list : List Declared). cond (eqb x.symbol q) (x ∷ list) list) (of_push q ds d) ∙ more_cases (eqb x.symbol q) (eqb d.symbol q) x d (of_symbol q ds)

module _ (ds : List Declared) (d : Declared) (counts counts' : BTreeMap ℕ ℕ) (leaves leaves' : BTreeMap (ℕ × ℕ) ℕ) (count : ℕ)
    (h : Say ds counts leaves) (here : count ≡ count_at counts d.symbol)
    (put : (q k : ℕ) → leaf_at leaves' q k ≡ cond (eqb d.symbol q && eqb count k) (Some d.node) (leaf_at leaves q k))
    (kept : (q : ℕ) → kept_at counts' q ≡ cond (eqb d.symbol q) (Some (count + 1)) (kept_at counts q)) where
  long : (q : ℕ) → eqb d.symbol q ≡ true → count ≡ length (of_symbol q ds)
  long q e = here ∙ (h.counted d.symbol ∙ ap (λ (x : ℕ). length (of_symbol x ds)) (eqb-true d.symbol q e))

  counted_by : (q : ℕ) (b : Bool) → eqb d.symbol q ≡ b → unwrap_or (cond b (Some (count + 1)) (kept_at counts q)) 0 ≡ length (cond b (of_symbol q ds ++ d ∷ []) (of_symbol q ds))
  counted_by q true e = omega (arith, long q e, length-append (of_symbol q ds) (d ∷ []))
  counted_by q false e = h.counted q

  each_by : (q k : ℕ) (b : Bool) → eqb d.symbol q ≡ b → cond (b && eqb count k) (Some d.node) (leaf_at leaves q k) ≡ option_map leaf_of (slice_get (cond b (of_symbol q ds ++ d ∷ []) (of_symbol q ds)) k)
  each_by q k true e =
      ap (λ (o : Option ℕ). cond (eqb count k) (Some d.node) o) (h.each q k)
      ∙ (ap (λ (n : ℕ). cond (eqb n k) (Some d.node) (option_map leaf_of (slice_get (of_symbol q ds) k))) (long q e)
      ∙ (through (eqb (length (of_symbol q ds)) k) (slice_get (of_symbol q ds) k)
      ∙ ap (λ (o : Option Declared). option_map leaf_of o) (sym (get_push (of_symbol q ds) d k))))
    where
      through : (b : Bool) (o : Option Declared) → cond b (Some d.node) (option_map leaf_of o) ≡ option_map leaf_of (cond b (Some d) o)
      through true o = refl
      through false o = refl
  each_by q k false e = h.each q k

  pub say_more : Say (ds ++ d ∷ []) counts' leaves'
  say_more = record {
    counted = λ q. ap (λ (o : Option ℕ). unwrap_or o 0) (kept q) ∙ (counted_by q (eqb d.symbol q) refl ∙ ap length (sym (of_push q ds d)));
    each = λ q k. put q k ∙ (each_by q k (eqb d.symbol q) refl ∙ ap (λ (list : List Declared). option_map leaf_of (slice_get list k)) (sym (of_push q ds d)));
  }

pub say_none : (counts : BTreeMap ℕ ℕ) (leaves : BTreeMap (ℕ × ℕ) ℕ) → counts.entries ≡ [] → leaves.entries ≡ [] → Say [] counts leaves
say_none counts leaves e f = record {
  counted = λ q. ap (λ (es : List (ℕ × ℕ)). unwrap_or (lookup (λ k. eqb q k) es) 0) e;
  each = λ q k. ap (λ (es : List ((ℕ × ℕ) × ℕ)). lookup (λ key. eqb q key.0 && eqb k key.1) es) f;
}

-- what follows from what is known of a result
pub if_ok_more : {A E : Type 0} (r : Result A E) (P Q : A → Type 0) → ((x : A) → P x → Q x) → IfOk r P → IfOk r Q
if_ok_more (Ok x) P Q f h = f x h
if_ok_more (Err e) P Q f h = tt
