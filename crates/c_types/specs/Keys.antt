-- Lists of numbers that tell types apart.
use Rattle.std.specs.Prelude.{◌≡◌, ℕ, Bool, true, false, List, [], ◌∷◌, Option, Some, None, map, slice_index}
use Rattle.std.specs.Prelude.{slice_get}
use Rattle.c_types.specs.declared.term.Term.{Term}
use Rattle.c_types.specs.declared.term.Term.TheVariants.{Void, Bool as BoolTerm, Integer, Floating, VaList, Pointer}
use Rattle.c_types.specs.declared.term.Term.TheVariants.{Array, Function, Structure, Union}
use Rattle.c_types.specs.declared.term.Form.{Form}
use Rattle.c_types.specs.declared.term.Form.TheVariants.{Fixed, Variadic, Unspecified}
use Rattle.c_types.specs.declared.table.Entry.{Entry}
use Rattle.c_types.specs.Index.{number_at}

abbrev pub form_number : Form → ℕ
form_number Fixed = 0
form_number Variadic = 1
form_number Unspecified = 2

abbrev pub sign_number : Bool → ℕ
sign_number false = 0
sign_number true = 1

abbrev pub length_key : Option ℕ → List ℕ
length_key None = []
length_key (Some n) = n ∷ []

-- the first type that is the same, by number
abbrev pub firsts_of : List Entry → List ℕ
firsts_of entries = map (λ e. e.first) entries

-- a list that two terms have in common exactly where they are one type
abbrev pub key_of : List ℕ → Term → List ℕ
key_of firsts Void = 0 ∷ []
key_of firsts BoolTerm = 1 ∷ []
key_of firsts (Integer size rank signed) = 2 ∷ size ∷ rank ∷ sign_number signed ∷ []
key_of firsts Floating = 3 ∷ []
key_of firsts VaList = 4 ∷ []
key_of firsts (Pointer to) = 5 ∷ slice_index firsts to.0 ∷ []
key_of firsts (Array of length) = 6 ∷ slice_index firsts of.0 ∷ length_key length
key_of firsts (Function result parameters form) =
    7 ∷ form_number form ∷ slice_index firsts result.0 ∷ map (λ id. slice_index firsts id.0) parameters
key_of firsts (Structure tag) = 8 ∷ tag ∷ []
key_of firsts (Union tag) = 9 ∷ tag ∷ []

-- each type's key has the first type that is the same, and no other list has a number
pub record IsIndex (entries : List Entry) (index : List (List ℕ × ℕ)) : Type 0 where
  pub found : (q : List ℕ) (f : ℕ)
      → number_at index q ≡ Some f
      → (e : Entry) × (slice_get entries f ≡ Some e) × (e.first ≡ f) × (key_of (firsts_of entries) e.term ≡ q)
  pub each : (i : ℕ) (e : Entry)
      → slice_get entries i ≡ Some e
      → number_at index (key_of (firsts_of entries) e.term) ≡ Some e.first
