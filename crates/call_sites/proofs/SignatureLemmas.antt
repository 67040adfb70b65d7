-- Which parameter lists are which.
use Rattle.std.proofs.Common.{◌≡◌, ℕ, suc, List, [], ◌∷◌, length, refl, ap}
use Rattle.c_types.specs.declared.term.TypeId.{TypeId}
use Rattle.c_types.specs.Trees.{Ctype, Ctypes, NoTypes, trees_at}
use Rattle.call_sites.specs.Calls.{count_of}
use Rattle.call_sites.specs.Signatures.{two_pointers}

pub pointers_length : (trees : List Ctype) (ids : List TypeId) → trees_at trees ids ≡ two_pointers → length ids ≡ 2
pointers_length trees [] e = cc
pointers_length trees (a ∷ []) e = cc
pointers_length trees (a ∷ b ∷ []) e = refl
pointers_length trees (a ∷ b ∷ c ∷ rest) e = cc

pub none_length : (trees : List Ctype) (ids : List TypeId) → trees_at trees ids ≡ NoTypes → length ids ≡ 0
none_length trees [] e = refl
none_length trees (a ∷ rest) e = cc

pub counted : (trees : List Ctype) (ids : List TypeId) → count_of (trees_at trees ids) ≡ length ids
counted trees [] = refl
counted trees (id ∷ ids) = ap suc (counted trees ids)
