-- One call more.
use Rattle.std.proofs.Common.{arith, ◌≡◌, ℕ, zero, suc, ◌+◌, ◌<◌, ◌≤◌, List, [], ◌∷◌, ◌++◌, Bool, true, false, Option, Some, None, length, get_or, refl, ap, sym, ◌∙◌, add-one, append-nil}
use Rattle.std.specs.List.{All, AllZip, slice_get, filter_map, range_with_len, cons_option}
use Rattle.std.specs.Option.{option_map}
use Rattle.std.proofs.lemmas.List.Elements.{filter_map-append}
use Rattle.c_types.specs.declared.term.TypeId.{TypeId}
use Rattle.core_tree.specs.declared.node.Node.{Node}
use Rattle.core_tree.specs.Typed.{CoreTrees}
use Rattle.core_tree.specs.Range.{InRange}
use Rattle.sol_model.specs.declared.system.CallSite.{CallSite}
use Rattle.row_numbers.specs.Setting.{Setting}
use Rattle.call_sites.specs.Calls.{call_if, calls_upto, ids_of, is_call, IsSiteAt, AreCallsUpTo}
use Rattle.row_numbers.proofs.RangeLemmas.{range_more}

pub zip_push : {A B : Type 0} (R : A → B → Type 0) (xs : List A) (ys : List B) (x : A) (y : B) → AllZip R xs ys → R x y → AllZip R (xs ++ x ∷ []) (ys ++ y ∷ [])
zip_push R [] [] x y h r = (r, tt)
zip_push R [] (b ∷ ys) x y h r = absurd h
zip_push R (a ∷ xs) [] x y h r = absurd h
zip_push R (a ∷ xs) (b ∷ ys) x y h r = (h.0, zip_push R xs ys x y h.1 r)

calls_more : (nodes : List Node) (n : ℕ) → calls_upto nodes (n + 1) ≡ calls_upto nodes n ++ cons_option (call_if n (slice_get nodes n)) []
calls_more nodes n =
    let f : ℕ → Option ℕ = λ m. call_if m (slice_get nodes m) in
    ap (λ (k : ℕ). filter_map f (range_with_len 0 k)) (add-one n)
    ∙ (ap (filter_map f) (range_more 0 n ∙ ap (λ (k : ℕ). range_with_len 0 n ++ k ∷ []) (omega arith))
    ∙ filter_map-append f (range_with_len 0 n) (n ∷ []))

call_is : (n : ℕ) (found : Option Node) (node : Node) → found ≡ Some node → is_call node.kind ≡ true → call_if n found ≡ Some n
call_is n found node e c = rw (e, c) refl

no_call : (n : ℕ) (found : Option Node) (node : Node) → found ≡ Some node → is_call node.kind ≡ false → call_if n found ≡ None
no_call n found node e c = rw (e, c) refl

pub site_pushed : (w : Setting) (n : ℕ) (node : Node) (site : CallSite) (old new : List CallSite) → slice_get w.trees.nodes n ≡ Some node → is_call node.kind ≡ true → IsSiteAt w n site → new ≡ old ++ site ∷ [] → AreCallsUpTo w n old → AreCallsUpTo w (n + 1) new
site_pushed w n node site old new at c s e h =
    let one : cons_option (call_if n (slice_get w.trees.nodes n)) [] ≡ n ∷ [] = ap (λ (o : Option ℕ). cons_option o []) (call_is n _ node at c) in
    rw (calls_more w.trees.nodes n, one, e) (zip_push (IsSiteAt w) (calls_upto w.trees.nodes n) old n site h s)

pub site_skipped : (w : Setting) (n : ℕ) (node : Node) (old : List CallSite) → slice_get w.trees.nodes n ≡ Some node → is_call node.kind ≡ false → AreCallsUpTo w n old → AreCallsUpTo w (n + 1) old
site_skipped w n node old at c h =
    let none : cons_option (call_if n (slice_get w.trees.nodes n)) [] ≡ [] = ap (λ (o : Option ℕ). cons_option o []) (no_call n _ node at c) in
    rw (calls_more w.trees.nodes n, none, append-nil (calls_upto w.trees.nodes n)) h

module _ (u : CoreTrees) (range : InRange u) where
  ids_by : (n : ℕ) (found : Option Node) → slice_get u.nodes n ≡ found → (rest : List TypeId) → All (λ id. id.0 < length u.types.terms) rest → All (λ id. id.0 < length u.types.terms) (cons_option (option_map (λ (node : Node). node.ty) found) rest)
  ids_by n None e rest h k d lt = h k d lt
  ids_by n (Some node) e rest h zero d lt = range.types n node e
  ids_by n (Some node) e rest h (suc k) d lt = h k d (omega arith)

  pub ids_known : (values : List ℕ) → All (λ id. id.0 < length u.types.terms) (ids_of u.nodes values)
  ids_known [] k d lt = absurd (omega arith)
  ids_known (n ∷ values) k d lt = ids_by n (slice_get u.nodes n) refl (ids_of u.nodes values) (λ j e. ids_known values j e) k d lt

pub children_in : (u : CoreTrees) → InRange u → (n : ℕ) (node : Node) → slice_get u.nodes n ≡ Some node → n < length u.nodes → All (λ child. child < length u.nodes) node.children
children_in u range n node at lt k d in_list = let first = range.children n node at k d in_list in omega arith
