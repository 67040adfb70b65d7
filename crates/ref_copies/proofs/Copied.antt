-- Elements copied one after another.
use Rattle.std.proofs.Common.{◌≡◌, ℕ, suc, ◌+◌, ◌-◌, ◌<◌, List, [], ◌∷◌, ◌++◌, Some, Result, Ok, Err, refl, ◌∙◌, ap, arith}
use Rattle.std.proofs.lemmas.List.{append_assoc, append-nil}
use Rattle.c_types.specs.declared.term.PathStep.{PathStep}
use Rattle.c_types.specs.Table.{Table}
use Rattle.ref_cells.specs.declared.cells.Reason.{Reason}
use Rattle.ref_cells.specs.declared.instance.Instance.{Instance}
use Rattle.ref_cells.specs.Cells.{CellList}
use Rattle.ref_elements.specs.declared.runs.Run.{Run}
use Rattle.ref_elements.specs.declared.runs.Found.{Found}
use Rattle.ref_elements.specs.Runs.{content_at, element_path}
use Rattle.ref_elements.specs.Parts.{Parts}
use Rattle.ref_copies.specs.Copies.{push_part, copied}

-- parts, with more behind
abbrev pub with_more : Parts → Result Parts Reason → Result Parts Reason
with_more parts (Ok more) = Ok (parts ++ more)
with_more parts (Err reason) = Err reason

pub pushed : (parts : Parts) (path : List PathStep) (cells : CellList) (rest : Result Parts Reason) → with_more (parts ++ (path, cells) ∷ []) rest ≡ with_more parts (push_part path (Some cells) rest)
pushed parts path cells (Ok more) = ap (λ (ps : Parts). let r : Result Parts Reason = Ok ps in r) (append_assoc parts ((path, cells) ∷ []) more)
pushed parts path cells (Err reason) = refl

pub one_more : (table : Table) (memory : List Instance) (source : Found) (target : Run) (k n : ℕ) → k < n → copied table memory source target k (n - k) ≡ push_part (element_path target k) (content_at table memory source k) (copied table memory source target (k + 1) (n - (k + 1)))
one_more table memory source target k n lt = let e : n - k ≡ suc (n - (k + 1)) = omega arith in ap (copied table memory source target k) e

pub none_more : (table : Table) (memory : List Instance) (source : Found) (target : Run) (k n : ℕ) (parts : Parts) → n ≡ k → with_more parts (copied table memory source target k (n - k)) ≡ Ok parts
none_more table memory source target k n parts e =
    let z : n - k ≡ 0 = omega arith in
    ap (λ (m : ℕ). with_more parts (copied table memory source target k m)) z ∙ ap (λ (ps : Parts). let r : Result Parts Reason = Ok ps in r) (append-nil parts)
