-- Names are nodes of their tree.
use Rattle.std.proofs.Common.{◌≡◌, ◌≤◌, ℕ, true, false, length, slice_get, sym, ap, ◌∙◌}
use Rattle.std.proofs.lemmas.Option.{slice_get_past}
use Rattle.std.proofs.lemmas.Bool.{and_right}
use Rattle.c_senses.specs.Tree.{Source, is_leaf, is_name, is_identifier, kind_of_token, token_of}

pub none_past : (s : Source) (name : ℕ) → length s.nodes ≤ name → is_name s name ≡ true → ⊥
none_past s name past e =
    let none = ap (λ n. is_identifier (kind_of_token (token_of s n))) (slice_get_past s.nodes name past) in
    let never : false ≡ true = sym (and_right (is_leaf s name) (is_identifier (kind_of_token (token_of s (slice_get s.nodes name)))) none) ∙ e in
    cc
