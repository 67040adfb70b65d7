-- What all nodes do is what the nodes do that may do something to names.
use Rattle.std.proofs.Common.{◌≡◌, ℕ, zero, suc, ◌+◌, ◌<◌, ◌≤◌, Bool, true, false, Option, Some, None, List, [], ◌∷◌, ◌++◌, filter, length, take, get_or, cond, refl, sym, ap, subst, ◌∙◌, arith, ⊎_elim}
use Rattle.std.proofs.lemmas.Bool.{cases_lt}
use Rattle.std.proofs.lemmas.List.{take_more, take_all, get_or_past}
use Rattle.std.proofs.lemmas.List.Elements.{All-filter}
use Rattle.std.proofs.lemmas.List.FromFn.{length-range_with_len, get_or-range_with_len}
use Rattle.std.specs.List.{All, range_with_len}
use Rattle.c_grammar.specs.Reads.{Node}
use Rattle.c_mentions.specs.Kept.{nowhere}
use Rattle.c_mentions.specs.declared.mentions.Mention.TheVariants as mention
use Rattle.c_mentions.specs.Syntax.{nodes_of}
use Rattle.c_mentions.specs.Mentions.{speaking, speaks, symbol_at}
use Rattle.c_mentions.proofs.Speaking.{range_more, silent}
use Rattle.c_scope.specs.declared.resolving.Unit.{Unit}
use Rattle.c_scope.specs.Known.{Happening, Known, known, after, first_label, is_label}
use Rattle.c_scope.specs.Binding.{or_first}
use Rattle.c_scope.specs.Happens.{AreHappenings, Speak, happening_at, known_with, label_with}
use Rattle.c_scope.proofs.Going.{known_more, label_taken, or_first_none, none}

-- steps by the numbers of a list, one after another
abbrev pub go : {S : Type 0} → (ℕ → S → S) → List ℕ → S → S
go f [] s = s
go f (n ∷ ns) s = go f ns (f n s)

go_push : {S : Type 0} (f : ℕ → S → S) (ns : List ℕ) (n : ℕ) (s : S) → go f (ns ++ n ∷ []) s ≡ f n (go f ns s)
go_push f [] n s = refl
go_push f (m ∷ ns) n s = go_push f ns n (f m s)

-- a number of a list more
pub go_more : {S : Type 0} (f : ℕ → S → S) (ns : List ℕ) (i : ℕ) (s : S) → i < length ns → go f (take (i + 1) ns) s ≡ f (get_or ns i 0) (go f (take i ns) s)
go_more f ns i s l = ap (λ m. go f m s) (take_more ns i 0 l) ∙ go_push f (take i ns) (get_or ns i 0) s

-- steps that do nothing may be left out
go_kept : {S : Type 0} (f : ℕ → S → S) (p : ℕ → Bool) (idle : (n : ℕ) (s : S) → p n ≡ false → f n s ≡ s) (ns : List ℕ) (s : S) → go f (filter p ns) s ≡ go f ns s
go_kept f p idle [] s = refl
go_kept f p idle (n ∷ ns) s =
    (elim (p n) as (λ b. p n ≡ b → go f (cond b (n ∷ filter p ns) (filter p ns)) s ≡ go f ns (f n s)) [
      | true ↦ λ e. go_kept f p idle ns (f n s)
      | false ↦ λ e. go_kept f p idle ns s ∙ ap (go f ns) (sym (idle n s e))
    ]) refl

range_next : (k : ℕ) → range_with_len 0 (suc k) ≡ range_with_len 0 k ++ k ∷ []
range_next k = let e : suc k ≡ k + 1 = omega arith in ap (range_with_len 0) e ∙ range_more k

-- all steps up to a number
labels_through : (all : List Happening) (body symbol k : ℕ) → k ≤ length all → first_label 0 (take k all) body symbol ≡ go (label_with all body symbol) (range_with_len 0 k) None
labels_through all body symbol zero l = refl
labels_through all body symbol (suc k) l =
    let e : suc k ≡ k + 1 = omega arith in
    let f = label_with all body symbol in
    ap (λ n. first_label 0 (take n all) body symbol) e
    ∙ (label_taken all k none body symbol (omega arith)
    ∙ (ap (f k) (labels_through all body symbol k (omega arith))
    ∙ (sym (go_push f (range_with_len 0 k) k None) ∙ ap (λ ns. go f ns None) (sym (range_next k)))))

known_through : (file : ℕ) (labels : ℕ → ℕ → Option ℕ) (first : Known) (all : List Happening) (k : ℕ) → k ≤ length all → known file labels 0 first (take k all) ≡ go (known_with file labels all) (range_with_len 0 k) first
known_through file labels first all zero l = refl
known_through file labels first all (suc k) l =
    let e : suc k ≡ k + 1 = omega arith in
    let f = known_with file labels all in
    ap (λ n. known file labels 0 first (take n all)) e
    ∙ (known_more file labels first all k none (omega arith)
    ∙ (ap (f k) (known_through file labels first all k (omega arith))
    ∙ (sym (go_push f (range_with_len 0 k) k first) ∙ ap (λ ns. go f ns first) (sym (range_next k)))))

below_count : (n : ℕ) → All (λ k. k < n) (range_with_len 0 n)
below_count n = λ k d l.
    let inside : k < n = subst (λ m. k < m) (length-range_with_len 0 n) l in
    let here : 0 + k < n = omega arith in
    subst (λ x. x < n) (sym (get_or-range_with_len 0 n k d inside)) here

module _ (unit : Unit) (list : List ℕ) (speak : Speak unit list) where
  -- each of these nodes has a setting
  pub speaks_within : (i : ℕ) → i < length list → get_or list i 0 < length unit.settings.now
  unfolding speaking
  speaks_within i l =
      let nodes : List Node = nodes_of unit.nodes.now in
      let p : ℕ → Bool = speaks unit.tokens.now nodes in
      let within : All (λ k. k < length nodes) list = subst (λ m. All (λ k. k < length nodes) m) (sym speak.all) (All-filter p (λ k. k < length nodes) (range_with_len 0 (length nodes)) (below_count (length nodes))) in
      subst (λ n. get_or list i 0 < n) (sym speak.count) (within i 0 l)

  module _ (all : List Happening) (h : AreHappenings unit all) where
    quiet : (n : ℕ) → speaks unit.tokens.now (nodes_of unit.nodes.now) n ≡ false → (happening_at all n).mention ≡ mention.Nothing
    quiet n e =
        ⊎_elim
        (λ l.
        let a = h.each n nowhere none l in
        sym a.mention ∙ silent unit.text.now unit.tokens.now (symbol_at unit.symbols.now) (nodes_of unit.nodes.now) n _ _ e)
        (λ l. ap (λ (x : Happening). x.mention) (get_or_past all n none l))
        (cases_lt n (length all))

    counted : length all ≡ length (nodes_of unit.nodes.now)
    counted = h.count ∙ speak.count

    pub labels_spoken : (body symbol : ℕ) → go (label_with all body symbol) list None ≡ first_label 0 all body symbol
    unfolding speaking
    labels_spoken body symbol =
        let nodes : List Node = nodes_of unit.nodes.now in
        let f = label_with all body symbol in
        ap (λ ns. go f ns None) speak.all
        ∙ (go_kept f (speaks unit.tokens.now nodes) idle (range_with_len 0 (length nodes)) None
        ∙ (sym (labels_through all body symbol (length nodes) (omega (arith, counted)))
        ∙ ap (λ l. first_label 0 l body symbol) (take_all (length nodes) all (omega (arith, counted)))))
      where
        idle : (n : ℕ) (s : Option ℕ) → speaks unit.tokens.now (nodes_of unit.nodes.now) n ≡ false → label_with all body symbol n s ≡ s
        idle n s e = ap (λ m. or_first s (cond (is_label body symbol (happening_at all n) m) (Some n) None)) (quiet n e) ∙ sym (or_first_none s)

    pub known_spoken : (labels : ℕ → ℕ → Option ℕ) (first : Known) → go (known_with unit.file labels all) list first ≡ known unit.file labels 0 first all
    unfolding speaking
    known_spoken labels first =
        let nodes : List Node = nodes_of unit.nodes.now in
        let f = known_with unit.file labels all in
        ap (λ ns. go f ns first) speak.all
        ∙ (go_kept f (speaks unit.tokens.now nodes) idle (range_with_len 0 (length nodes)) first
        ∙ (sym (known_through unit.file labels first all (length nodes) (omega (arith, counted)))
        ∙ ap (λ l. known unit.file labels 0 first l) (take_all (length nodes) all (omega (arith, counted)))))
      where
        idle : (n : ℕ) (k : Known) → speaks unit.tokens.now (nodes_of unit.nodes.now) n ≡ false → known_with unit.file labels all n k ≡ k
        idle n k e = ap (λ m. after unit.file labels n (happening_at all n).scopes (happening_at all n).body m k) (quiet n e)
