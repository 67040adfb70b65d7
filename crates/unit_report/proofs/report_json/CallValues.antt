-- Values of calls, one after another.
use Rattle.std.proofs.Common.{◌≡◌, ℕ, zero, suc, ◌≤◌, List, [], ◌∷◌, ◌++◌, map, length, Option, Some, None, slice_get, refl, sym, ap, ◌∙◌, append_assoc, append-nil, arith}
use Rattle.std.specs.List.{cons_option}
use Rattle.std.specs.Option.{option_map_or}
use Rattle.sol_model.specs.declared.system.CallSite.{CallSite}
use Rattle.unit_report.specs.report_text.Report.{Spot, Placed, calls_at}
use Rattle.serde_json.specs.Data.{Data}

-- the value of the first call of these
first_value : (f : CallSite → Data) (call : Option CallSite) (rest : List CallSite) → map f (cons_option call rest) ≡ option_map_or (λ one. f one ∷ []) call [] ++ map f rest
first_value f None rest = refl
first_value f (Some call) rest = refl

-- one value further
pub values_more : (f : CallSite → Data) (calls : List CallSite) (spot : Spot) (number : ℕ) (old rest : Placed) (so_far after whole : List Data) → old ≡ (spot, number) ∷ rest
    → after ≡ so_far ++ option_map_or (λ one. f one ∷ []) (slice_get calls number) [] → so_far ++ map f (calls_at calls old) ≡ whole → after ++ map f (calls_at calls rest) ≡ whole
values_more f calls spot number old rest so_far after whole is more before =
    let one : List Data = option_map_or (λ one. f one ∷ []) (slice_get calls number) [] in
    ap (λ (ds : List Data). ds ++ map f (calls_at calls rest)) more
    ∙ append_assoc so_far one (map f (calls_at calls rest))
    ∙ ap (λ (end : List Data). so_far ++ end) (sym (first_value f (slice_get calls number) (calls_at calls rest)))
    ∙ ap (λ (entries : Placed). so_far ++ map f (calls_at calls entries)) (sym is) ∙ before

slice_none : (calls : List CallSite) (number : ℕ) → length calls ≤ number → slice_get calls number ≡ None
slice_none [] number past = refl
slice_none (call ∷ calls) zero past = absurd (omega arith)
slice_none (call ∷ calls) (suc number) past = slice_none calls number (omega arith)

-- no value behind the last call
pub none_past : (f : CallSite → Data) (calls : List CallSite) (number : ℕ) (ds : List Data) → length calls ≤ number → ds ≡ ds ++ option_map_or (λ one. f one ∷ []) (slice_get calls number) []
none_past f calls number ds past =
    sym (append-nil ds) ∙ ap (λ (call : Option CallSite). ds ++ option_map_or (λ one. f one ∷ []) call []) (sym (slice_none calls number past))

-- all values
pub values_whole : (f : CallSite → Data) (calls : List CallSite) (left : Placed) (so_far whole : List Data) → left ≡ [] → so_far ++ map f (calls_at calls left) ≡ whole → so_far ≡ whole
values_whole f calls left so_far whole none before = sym (append-nil so_far) ∙ ap (λ (entries : Placed). so_far ++ map f (calls_at calls entries)) (sym none) ∙ before
